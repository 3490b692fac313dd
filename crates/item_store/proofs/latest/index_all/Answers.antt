use Rattle.std.proofs.Common.{◌≡◌, ℕ, ◌<◌, List, ◌++◌, length, sym, ap, subst, ◌∙◌, arith}
use Rattle.std.specs.List.{flat_map}
use Rattle.std.proofs.lemmas.List.Concat.{flat_map-cons}
use Rattle.item_laws.specs.Area.{round}
use Rattle.item_laws.specs.Live.{counted_in}
use Rattle.item_laws.specs.RoundParts.{places_after}
use Rattle.item_laws.proofs.AreaReads.{length-sectors, next_there, previous_there}
use Rattle.item_laws.proofs.Places.{after, before}
use Rattle.flash_sim.specs.Device.{Device}
use Rattle.flash_map.specs.declared.area.Area.{Area}
use Rattle.flash_map.specs.Area.{geometry_of, sectors_of}
use Rattle.item_store.specs.SectorFormat.{SectorFormat, slots}
use Rattle.item_store.specs.Latest.{Covers, Knows}
use Rattle.item_store.specs.Seen.{behind}
use Rattle.item_store.proofs.Areas.{open_inside}
use Rattle.item_store.proofs.CostSteps.{start_seen, more_seen, round-oldest, left, fewer_left}
use Rattle.item_store.proofs.latest.index_all.Goals as goal

pub next-oldest-requires : goal.next-oldest-requires
next-oldest-requires g c =
    let d : Device = g.F.Flash.device c.args.flash.now in
    let area : Area = c.args.on.now.area.now in
    let k : SectorFormat = g.T.SlotSectors.format_of (geometry_of d area) in
    let sectors : List (List ℕ) = sectors_of d area in
    open_inside k d area c.args.on.now.current c.requires.on.area.lawful c.requires.on.current

pub loop-place-init : goal.loop-place-init
loop-place-init g c =
    let d : Device = g.F.Flash.device c.args.flash.now in
    let area : Area = c.args.on.now.area.now in
    let k : SectorFormat = g.T.SlotSectors.format_of (geometry_of d area) in
    let sectors : List (List ℕ) = sectors_of d area in
    let long = length-sectors d area in
    let within = open_inside k d area c.args.on.now.current c.requires.on.area.lawful c.requires.on.current in
    let low : c.args.on.now.current < length sectors = omega arith in
    record {
      within = within;
      covers = subst (Covers k.ids c.args.last.now c.new-seen.result) (sym (start_seen k sectors c.args.on.now.current low)) (record { covered = c.requires.none; ids = c.new-seen.ensures k.ids });
    }

pub index_counting-requires-clause-inside : goal.index_counting-requires-clause-inside
index_counting-requires-clause-inside g c =
    c.loop-place.invariant.within

pub index_counting-requires-clause-covers : goal.index_counting-requires-clause-covers
index_counting-requires-clause-covers g c =
    c.loop-place.invariant.covers

pub previous-place-requires : goal.previous-place-requires
previous-place-requires g c =
    c.loop-place.invariant.within

pub loop-place-preserved : goal.loop-place-preserved
loop-place-preserved g c =
    let d : Device = g.F.Flash.device c.args.flash.now in
    let area : Area = c.args.on.now.area.now in
    let k : SectorFormat = g.T.SlotSectors.format_of (geometry_of d area) in
    let sectors : List (List ℕ) = sectors_of d area in
    let long = length-sectors d area in
    let within = open_inside k d area c.args.on.now.current c.requires.on.area.lawful c.requires.on.current in
    let low : c.args.on.now.current < length sectors = omega arith in
    let old : c.next-oldest.result ≡ after (length sectors) c.args.on.now.current = c.next-oldest.ensures.value ∙ next_there d area c.args.on.now.current in
    let now = c.loop-place.invariant in
    let inside : c.loop-place.place < length sectors = omega (arith, now.within) in
    let apart : c.loop-place.place ≡ after (length sectors) c.args.on.now.current → ⊥ = λ (e : c.loop-place.place ≡ after (length sectors) c.args.on.now.current). c.loop-place-test.true (e ∙ sym old) in
    let back : c.previous-place.result ≡ before (length sectors) c.loop-place.place = c.previous-place.ensures.value ∙ previous_there d area c.loop-place.place in
    record {
      within = c.previous-place.ensures.within;
      covers = subst (Covers k.ids c.index_counting.new.last c.index_counting.new.seen) (more_seen k sectors c.args.on.now.current low c.loop-place.place inside apart ∙ ap (behind k sectors c.args.on.now.current) (sym back)) c.index_counting.ensures;
    }

pub loop-place-smaller : goal.loop-place-smaller
loop-place-smaller g c =
    let d : Device = g.F.Flash.device c.args.flash.now in
    let area : Area = c.args.on.now.area.now in
    let k : SectorFormat = g.T.SlotSectors.format_of (geometry_of d area) in
    let sectors : List (List ℕ) = sectors_of d area in
    let long = length-sectors d area in
    let within = open_inside k d area c.args.on.now.current c.requires.on.area.lawful c.requires.on.current in
    let low : c.args.on.now.current < length sectors = omega arith in
    let now = c.loop-place.invariant in
    subst (λ (p : ℕ). left area.sectors c.args.on.now.current p < left area.sectors c.args.on.now.current c.loop-place.place) (sym (c.previous-place.ensures.value))
    (fewer_left area.sectors c.args.on.now.current c.loop-place.place within now.within (λ (e : c.loop-place.place ≡ after area.sectors c.args.on.now.current). c.loop-place-test.true (e ∙ sym c.next-oldest.ensures.value)))

pub index_counting-requires-2-clause-covers : goal.index_counting-requires-2-clause-covers
index_counting-requires-2-clause-covers g c =
    let d : Device = g.F.Flash.device c.args.flash.now in
    let area : Area = c.args.on.now.area.now in
    let k : SectorFormat = g.T.SlotSectors.format_of (geometry_of d area) in
    let sectors : List (List ℕ) = sectors_of d area in
    let at : c.loop-place.place ≡ c.next-oldest.result = c.loop-place-test.false in
    subst (λ (p : ℕ). Covers k.ids c.loop-place.last c.loop-place.seen (behind k sectors c.args.on.now.current p)) at c.loop-place.invariant.covers

pub returns : goal.returns
returns g c =
    let d : Device = g.F.Flash.device c.args.flash.now in
    let area : Area = c.args.on.now.area.now in
    let k : SectorFormat = g.T.SlotSectors.format_of (geometry_of d area) in
    let sectors : List (List ℕ) = sectors_of d area in
    let long = length-sectors d area in
    let within = open_inside k d area c.args.on.now.current c.requires.on.area.lawful c.requires.on.current in
    let low : c.args.on.now.current < length sectors = omega arith in
    let old : c.next-oldest.result ≡ after (length sectors) c.args.on.now.current = c.next-oldest.ensures.value ∙ next_there d area c.args.on.now.current in
    let high : after (length sectors) c.args.on.now.current < length sectors = (let inside = c.next-oldest.ensures.within in omega arith) in
    let oldest : ℕ = after (length sectors) c.args.on.now.current in
    let covered : Knows k.ids c.index_counting-2.new.last (counted_in (slots k) sectors c.args.on.now.current c.next-oldest.result ++ behind k sectors c.args.on.now.current c.next-oldest.result) = c.index_counting-2.ensures.covered in
    subst (Knows k.ids c.index_counting-2.new.last)
    (ap (λ (p : ℕ). counted_in (slots k) sectors c.args.on.now.current p ++ behind k sectors c.args.on.now.current p) old
    ∙ sym (flat_map-cons (counted_in (slots k) sectors c.args.on.now.current) oldest (places_after (length sectors) c.args.on.now.current oldest))
    ∙ sym (ap (flat_map (counted_in (slots k) sectors c.args.on.now.current)) (round-oldest (length sectors) c.args.on.now.current low high))
    ∙ ap (λ (j : ℕ). flat_map (counted_in (slots k) sectors j) (round (length sectors) j)) c.requires.on.current) covered
