use Rattle.std.proofs.Common.{◌≡◌, ℕ, ◌<◌, ◌≤◌, true, not, List, length, Option, None, sym, ap, subst, ◌∙◌, arith}
use Rattle.std.specs.Prelude.{is_some}
use Rattle.std.proofs.lemmas.Bool.{false≢true}
use Rattle.flash_sim.specs.Device.{Device}
use Rattle.flash_map.specs.declared.area.Area.{Area}
use Rattle.flash_map.specs.Area.{geometry_of, sectors_of}
use Rattle.flash_map.proofs.MapLemmas.{not_some}
use Rattle.item_laws.proofs.AreaReads.{length-sectors, next_there, previous_there}
use Rattle.item_laws.proofs.Places.{after, before, after-within}
use Rattle.item_store.specs.declared.entry.Placed.{Placed}
use Rattle.item_store.specs.SectorFormat.{SectorFormat, IsSectorFormat}
use Rattle.item_store.specs.Lasts.{sectors_left, slots_left}
use Rattle.item_store.proofs.Areas.{unit_is, open_inside}
use Rattle.item_store.proofs.CostSteps.{left, fewer_left}
use Rattle.item_store.proofs.LastsWalk.{all-covered, last-same, covered-more, knows-next, last-stands, here-fewer, here-most, back-most, fewer-then, most-then}
use Rattle.item_store.proofs.ViewSteps.{here-walks, walks-then, back-walks}
use Rattle.item_store.proofs.lasts.Lasts.next.Goals as goal

pub next-oldest-requires : goal.next-oldest-requires
next-oldest-requires g c =
    let d : Device = g.F.Flash.device c.args.flash.now in
    let area : Area = c.args.on.now.area.now in
    let k : SectorFormat = g.T.SlotSectors.format_of (geometry_of d area) in
    open_inside k d area c.args.on.now.current c.requires.on.area.lawful c.requires.on.current

pub next_here-found-requires : goal.next_here-found-requires
next_here-found-requires g c =
    record {
      area = c.requires.on.area;
      current = c.requires.on.current;
      at = c.requires.at;
    }

pub loop-found-init : goal.loop-found-init
loop-found-init g c =
    let d : Device = g.F.Flash.device c.args.flash.now in
    let area : Area = c.args.on.now.area.now in
    let k : SectorFormat = g.T.SlotSectors.format_of (geometry_of d area) in
    let sectors : List (List ℕ) = sectors_of d area in
    let here = c.next_here-found.ensures in
    record {
      at = here.at;
      range = here.range;
      ends = here.ends;
      next = here.next;
      covered = here.covered;
      fewer = here-fewer area.sectors c.args.on.now.current c.args.self.now c.next_here-found.new.self c.next_here-found.result here.place here.reads.fewer;
      views = here-walks k sectors c.args.on.now.current c.args.self.now c.next_here-found.new.self c.args.steps.now c.next_here-found.new.steps c.next_here-found.result here.place here.reads;
      most = here-most area.sectors c.args.on.now.current c.args.self.now c.next_here-found.new.self c.next_here-found.result here.place here.ends here.reads.fewer;
    }

pub step_back-requires : goal.step_back-requires
step_back-requires g c =
    let d : Device = g.F.Flash.device c.args.flash.now in
    let area : Area = c.args.on.now.area.now in
    record {
      on = c.requires.on;
      at = c.loop-found.invariant.at;
      rested = c.requires.rested;
      none_left = c.loop-found.invariant.ends (not_some c.loop-found.found (c.is_none.ensures ∙ ap not c.loop-found-test.true));
      further = λ e. c.if-self-oldest.true (e ∙ sym (c.next-oldest.ensures.value ∙ next_there d area c.args.on.now.current));
    }

pub next_here-found-requires-in-loop-found : goal.next_here-found-requires-in-loop-found
next_here-found-requires-in-loop-found g c =
    record {
      area = c.requires.on.area;
      current = c.requires.on.current;
      at = c.step_back.ensures.at;
    }

pub loop-found-smaller : goal.loop-found-smaller
loop-found-smaller g c =
    let d : Device = g.F.Flash.device c.args.flash.now in
    let area : Area = c.args.on.now.area.now in
    let k : SectorFormat = g.T.SlotSectors.format_of (geometry_of d area) in
    let sectors : List (List ℕ) = sectors_of d area in
    let long = length-sectors d area in
    let within = open_inside k d area c.args.on.now.current c.requires.on.area.lawful c.requires.on.current in
    let low : c.args.on.now.current < length sectors = omega arith in
    let apart : c.loop-found.self.place ≡ after area.sectors c.args.on.now.current → ⊥ = λ (e : c.loop-found.self.place ≡ after area.sectors c.args.on.now.current). c.if-self-oldest.true (e ∙ sym c.next-oldest.ensures.value) in
    let inside : c.loop-found.self.place < area.sectors = omega (arith, c.loop-found.invariant.at.inside) in
    let back : c.step_back.new.self.place ≡ before area.sectors c.loop-found.self.place = c.step_back.ensures.place ∙ sym (previous_there d area c.loop-found.self.place) in
    subst (λ (p : ℕ). left area.sectors c.args.on.now.current p < left area.sectors c.args.on.now.current c.loop-found.self.place) (sym (c.next_here-found-in-loop-found.ensures.place ∙ back))
    (fewer_left area.sectors c.args.on.now.current c.loop-found.self.place within inside apart)

pub loop-found-preserved : goal.loop-found-preserved
loop-found-preserved g c =
    let d : Device = g.F.Flash.device c.args.flash.now in
    let area : Area = c.args.on.now.area.now in
    let k : SectorFormat = g.T.SlotSectors.format_of (geometry_of d area) in
    let sectors : List (List ℕ) = sectors_of d area in
    let long = length-sectors d area in
    let within = open_inside k d area c.args.on.now.current c.requires.on.area.lawful c.requires.on.current in
    let low : c.args.on.now.current < length sectors = omega arith in
    let apart : c.loop-found.self.place ≡ after area.sectors c.args.on.now.current → ⊥ = λ (e : c.loop-found.self.place ≡ after area.sectors c.args.on.now.current). c.if-self-oldest.true (e ∙ sym c.next-oldest.ensures.value) in
    let inside : c.loop-found.self.place < area.sectors = omega (arith, c.loop-found.invariant.at.inside) in
    let back : c.step_back.new.self.place ≡ before area.sectors c.loop-found.self.place = c.step_back.ensures.place ∙ sym (previous_there d area c.loop-found.self.place) in
    let now = c.loop-found.invariant in
    let mid = c.step_back.ensures in
    let here = c.next_here-found-in-loop-found.ensures in
    let none : c.loop-found.found ≡ None = not_some c.loop-found.found (c.is_none.ensures ∙ ap not c.loop-found-test.true) in
    let less : sectors_left area.sectors c.args.on.now.current c.step_back.new.self.place < sectors_left area.sectors c.args.on.now.current c.loop-found.self.place =
    subst (λ (p : ℕ). sectors_left area.sectors c.args.on.now.current p < sectors_left area.sectors c.args.on.now.current c.loop-found.self.place) (sym back) (fewer_left area.sectors c.args.on.now.current c.loop-found.self.place within inside apart) in
    let so_far : slots_left area.sectors c.args.on.now.current c.step_back.new.self ≤ slots_left area.sectors c.args.on.now.current c.args.self.now =
    most-then (slots_left area.sectors c.args.on.now.current c.step_back.new.self) (slots_left area.sectors c.args.on.now.current c.loop-found.self) (slots_left area.sectors c.args.on.now.current c.args.self.now)
    (back-most area.sectors c.args.on.now.current c.loop-found.self c.step_back.new.self less mid.at.few) now.most in
    let back_views =
    back-walks k sectors c.args.on.now.current c.loop-found.self c.step_back.new.self c.loop-found.steps c.step_back.new.steps low c.loop-found.invariant.at.inside (λ e. apart (e ∙ ap (λ (n : ℕ). after n c.args.on.now.current) long)) c.step_back.ensures.place
    (subst (λ (n : ℕ). sectors_left n c.args.on.now.current c.step_back.new.self.place < sectors_left n c.args.on.now.current c.loop-found.self.place) (sym long) less) mid.at.left mid.step in
    record {
      at = here.at;
      range = (here.range.0 ∙ mid.range.0 ∙ now.range.0, here.range.1 ∙ mid.range.1 ∙ now.range.1);
      ends = here.ends;
      next = last-same k sectors c.args.on.now.current c.args.self.now c.step_back.new.self (mid.range.0 ∙ now.range.0, mid.range.1 ∙ now.range.1) c.next_here-found-in-loop-found.result here.next;
      covered = covered-more k sectors c.args.on.now.current c.args.self.now c.loop-found.self c.step_back.new.self c.next_here-found-in-loop-found.new.self c.loop-found.found c.next_here-found-in-loop-found.result none now.covered mid.covered here.covered;
      fewer = fewer-then (slots_left area.sectors c.args.on.now.current c.next_here-found-in-loop-found.new.self) (slots_left area.sectors c.args.on.now.current c.step_back.new.self) (slots_left area.sectors c.args.on.now.current c.args.self.now) c.next_here-found-in-loop-found.result
          (here-fewer area.sectors c.args.on.now.current c.step_back.new.self c.next_here-found-in-loop-found.new.self c.next_here-found-in-loop-found.result here.place here.reads.fewer) so_far;
      views = walks-then k sectors c.args.on.now.current c.args.self.now c.step_back.new.self c.next_here-found-in-loop-found.new.self c.args.steps.now c.step_back.new.steps c.next_here-found-in-loop-found.new.steps c.next_here-found-in-loop-found.result
          (omega (arith, back_views, now.views.steps))
          (here-walks k sectors c.args.on.now.current c.step_back.new.self c.next_here-found-in-loop-found.new.self c.step_back.new.steps c.next_here-found-in-loop-found.new.steps c.next_here-found-in-loop-found.result here.place here.reads);
      most = most-then (slots_left area.sectors c.args.on.now.current c.next_here-found-in-loop-found.new.self) (slots_left area.sectors c.args.on.now.current c.step_back.new.self) (slots_left area.sectors c.args.on.now.current c.args.self.now)
          (here-most area.sectors c.args.on.now.current c.step_back.new.self c.next_here-found-in-loop-found.new.self c.next_here-found-in-loop-found.result here.place here.ends here.reads.fewer) so_far;
    }

pub returns-else-self-oldest-clause-at : goal.returns-else-self-oldest-clause-at
returns-else-self-oldest-clause-at g c =
    c.loop-found.invariant.at

pub returns-else-self-oldest-clause-range : goal.returns-else-self-oldest-clause-range
returns-else-self-oldest-clause-range g c =
    c.loop-found.invariant.range

pub returns-else-self-oldest-clause-placed : goal.returns-else-self-oldest-clause-placed
returns-else-self-oldest-clause-placed g c =
    let d : Device = g.F.Flash.device c.args.flash.now in
    let area : Area = c.args.on.now.area.now in
    let k : SectorFormat = g.T.SlotSectors.format_of (geometry_of d area) in
    let sectors : List (List ℕ) = sectors_of d area in
    let law : IsSectorFormat (g.T.SlotSectors.format_of (geometry_of d area)) = g.met.T.SlotSectors.lawful (geometry_of d area) (unit_is d area (g.met.F.Flash.is_lawful c.args.flash.now) c.requires.on.area.lawful) in
    let long = length-sectors d area in
    let within = open_inside k d area c.args.on.now.current c.requires.on.area.lawful c.requires.on.current in
    let low : c.args.on.now.current < length sectors = omega arith in
    last-stands k law sectors c.args.on.now.current c.args.self.now c.loop-found.found (omega arith) c.requires.on.current c.loop-found.invariant.next

pub returns-else-self-oldest-clause-next : goal.returns-else-self-oldest-clause-next
returns-else-self-oldest-clause-next g c =
    let d : Device = g.F.Flash.device c.args.flash.now in
    let area : Area = c.args.on.now.area.now in
    let k : SectorFormat = g.T.SlotSectors.format_of (geometry_of d area) in
    let sectors : List (List ℕ) = sectors_of d area in
    let long = length-sectors d area in
    let within = open_inside k d area c.args.on.now.current c.requires.on.area.lawful c.requires.on.current in
    let low : c.args.on.now.current < length sectors = omega arith in
    let high : after (length sectors) c.args.on.now.current < length sectors = after-within (length sectors) c.args.on.now.current low in
    let oldest : c.loop-found.self.place ≡ after (length sectors) c.args.on.now.current = c.if-self-oldest.false ∙ c.next-oldest.ensures.value ∙ next_there d area c.args.on.now.current in
    let now = c.loop-found.invariant in
    knows-next k sectors c.args.on.now.current c.args.self.now c.loop-found.self c.loop-found.found now.next now.covered
    (λ none. all-covered k sectors c.args.on.now.current c.args.self.now c.loop-found.self low high c.requires.on.current oldest (now.ends none) now.range)

pub returns-else-self-oldest-clause-fewer : goal.returns-else-self-oldest-clause-fewer
returns-else-self-oldest-clause-fewer g c =
    c.loop-found.invariant.fewer

pub returns-else-self-oldest-clause-views : goal.returns-else-self-oldest-clause-views
returns-else-self-oldest-clause-views g c =
    c.loop-found.invariant.views

pub returns-after-loop-found-clause-at : goal.returns-after-loop-found-clause-at
returns-after-loop-found-clause-at g c =
    c.loop-found.invariant.at

pub returns-after-loop-found-clause-range : goal.returns-after-loop-found-clause-range
returns-after-loop-found-clause-range g c =
    c.loop-found.invariant.range

pub returns-after-loop-found-clause-placed : goal.returns-after-loop-found-clause-placed
returns-after-loop-found-clause-placed g c =
    let d : Device = g.F.Flash.device c.args.flash.now in
    let area : Area = c.args.on.now.area.now in
    let k : SectorFormat = g.T.SlotSectors.format_of (geometry_of d area) in
    let sectors : List (List ℕ) = sectors_of d area in
    let law : IsSectorFormat (g.T.SlotSectors.format_of (geometry_of d area)) = g.met.T.SlotSectors.lawful (geometry_of d area) (unit_is d area (g.met.F.Flash.is_lawful c.args.flash.now) c.requires.on.area.lawful) in
    let long = length-sectors d area in
    let within = open_inside k d area c.args.on.now.current c.requires.on.area.lawful c.requires.on.current in
    let low : c.args.on.now.current < length sectors = omega arith in
    last-stands k law sectors c.args.on.now.current c.args.self.now c.loop-found.found (omega arith) c.requires.on.current c.loop-found.invariant.next

pub returns-after-loop-found-clause-next : goal.returns-after-loop-found-clause-next
returns-after-loop-found-clause-next g c =
    let d : Device = g.F.Flash.device c.args.flash.now in
    let area : Area = c.args.on.now.area.now in
    let k : SectorFormat = g.T.SlotSectors.format_of (geometry_of d area) in
    let sectors : List (List ℕ) = sectors_of d area in
    let now = c.loop-found.invariant in
    let some : is_some c.loop-found.found ≡ true = c.is_none.ensures ∙ ap not c.loop-found-test.false in
    knows-next k sectors c.args.on.now.current c.args.self.now c.loop-found.self c.loop-found.found now.next now.covered
    (λ none. absurd (false≢true (sym (ap (λ (o : Option Placed). is_some o) none) ∙ some)))

pub returns-after-loop-found-clause-fewer : goal.returns-after-loop-found-clause-fewer
returns-after-loop-found-clause-fewer g c =
    c.loop-found.invariant.fewer

pub returns-after-loop-found-clause-views : goal.returns-after-loop-found-clause-views
returns-after-loop-found-clause-views g c =
    c.loop-found.invariant.views
