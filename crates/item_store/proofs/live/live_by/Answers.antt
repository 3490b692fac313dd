use Rattle.std.proofs.Common.{◌≡◌, ℕ, ◌+◌, ◌-◌, Bool, ◌||◌, List, ◌++◌, Option, sym, ap, subst, ◌∙◌, inl, inr, arith}
use Rattle.std.specs.Option.{option_map, option_to_list}
use Rattle.std.proofs.lemmas.Bool.{cases_eq}
use Rattle.item_laws.proofs.AreaReads.{length-sectors}
use Rattle.item_store.specs.declared.entry.Placed.{Placed}
use Rattle.item_store.specs.Seen.{has_bit, HasSeen, holds_live}
use Rattle.item_store.proofs.LiveSteps.{later_at, later_step, later_none, later_all, stand_behind}
use Rattle.flash_sim.specs.Device.{Device}
use Rattle.flash_map.specs.declared.area.Area.{Area}
use Rattle.flash_map.specs.Area.{geometry_of, sectors_of, sector_at}
use Rattle.item_store.specs.SectorFormat.{SectorFormat, IsSectorFormat, placed_at}
use Rattle.item_store.proofs.Areas.{unit_is, open_inside}
use Rattle.item_store.proofs.live.live_by.Goals as goal

pub loop-left-init : goal.loop-left-init
loop-left-init g c =
    let d : Device = g.F.Flash.device c.args.flash.now in
    let area : Area = c.args.on.now.area.now in
    let k : SectorFormat = g.T.SlotSectors.format_of (geometry_of d area) in
    let sectors : List (List ℕ) = sectors_of d area in
    let law : IsSectorFormat (g.T.SlotSectors.format_of (geometry_of d area)) = g.met.T.SlotSectors.lawful (geometry_of d area) (unit_is d area (g.met.F.Flash.is_lawful c.args.flash.now) c.requires.on.area.lawful) in
    let count : c.slots-left.result ≡ k.count (sector_at sectors c.args.place) = c.slots-left.ensures.value in
    let first : c.first_slot-first.result ≡ k.first = c.first_slot-first.ensures.value (geometry_of d area) in
    let low = open_inside k d area c.args.on.now.current c.requires.on.area.lawful c.requires.on.current in
    let long = length-sectors d area in
    record {
      within = omega arith;
      seen = subst (HasSeen k.ids c.args.seen.now) (later_none k law sectors c.args.on.now.current c.args.place ∙ ap (later_at k law sectors c.args.on.now.current c.args.place) (sym count)) c.requires.seen;
      dead = λ index under. c.requires.none index (omega (arith, c.slots-left.ensures.few));
      live = λ index from under. absurd (omega arith);
    }

pub overflow_add-slot : goal.overflow_add-slot
overflow_add-slot g c =
    let d : Device = g.F.Flash.device c.args.flash.now in
    let area : Area = c.args.on.now.area.now in
    let k : SectorFormat = g.T.SlotSectors.format_of (geometry_of d area) in
    let sectors : List (List ℕ) = sectors_of d area in
    let count : c.slots-left.result ≡ k.count (sector_at sectors c.args.place) = c.slots-left.ensures.value in
    let first : c.first_slot-first.result ≡ k.first = c.first_slot-first.ensures.value (geometry_of d area) in
    let low = open_inside k d area c.args.on.now.current c.requires.on.area.lawful c.requires.on.current in
    let long = length-sectors d area in
    omega (arith, c.slots-left.ensures.few, c.first_slot-first.ensures.small, c.loop-left.invariant.within)

pub look_at-is-requires-clause-listed : goal.look_at-is-requires-clause-listed
look_at-is-requires-clause-listed g c =
    let d : Device = g.F.Flash.device c.args.flash.now in
    let area : Area = c.args.on.now.area.now in
    let k : SectorFormat = g.T.SlotSectors.format_of (geometry_of d area) in
    let sectors : List (List ℕ) = sectors_of d area in
    let count : c.slots-left.result ≡ k.count (sector_at sectors c.args.place) = c.slots-left.ensures.value in
    let first : c.first_slot-first.result ≡ k.first = c.first_slot-first.ensures.value (geometry_of d area) in
    let low = open_inside k d area c.args.on.now.current c.requires.on.area.lawful c.requires.on.current in
    let long = length-sectors d area in
    (omega arith, omega (arith, c.loop-left.invariant.within))

pub put-requires : goal.put-requires
put-requires g c =
    let d : Device = g.F.Flash.device c.args.flash.now in
    let area : Area = c.args.on.now.area.now in
    let k : SectorFormat = g.T.SlotSectors.format_of (geometry_of d area) in
    let sectors : List (List ℕ) = sectors_of d area in
    let count : c.slots-left.result ≡ k.count (sector_at sectors c.args.place) = c.slots-left.ensures.value in
    let first : c.first_slot-first.result ≡ k.first = c.first_slot-first.ensures.value (geometry_of d area) in
    let low = open_inside k d area c.args.on.now.current c.requires.on.area.lawful c.requires.on.current in
    let long = length-sectors d area in
    omega (arith, c.slots-left.ensures.few, c.loop-left.invariant.within)

pub loop-left-preserved : goal.loop-left-preserved
loop-left-preserved g c =
    let d : Device = g.F.Flash.device c.args.flash.now in
    let area : Area = c.args.on.now.area.now in
    let k : SectorFormat = g.T.SlotSectors.format_of (geometry_of d area) in
    let sectors : List (List ℕ) = sectors_of d area in
    let law : IsSectorFormat (g.T.SlotSectors.format_of (geometry_of d area)) = g.met.T.SlotSectors.lawful (geometry_of d area) (unit_is d area (g.met.F.Flash.is_lawful c.args.flash.now) c.requires.on.area.lawful) in
    let count : c.slots-left.result ≡ k.count (sector_at sectors c.args.place) = c.slots-left.ensures.value in
    let first : c.first_slot-first.result ≡ k.first = c.first_slot-first.ensures.value (geometry_of d area) in
    let low = open_inside k d area c.args.on.now.current c.requires.on.area.lawful c.requires.on.current in
    let long = length-sectors d area in
    let now = c.loop-left.invariant in
    let within = now.within in
    let some = c.loop-left-test.true in
    let n : ℕ = c.loop-left.left - 1 in
    let slot : c.first_slot-first.result + (c.loop-left.left - 1) ≡ k.first + (c.loop-left.left - 1) = omega arith in
    let up : c.loop-left.left ≡ c.loop-left.left - 1 + 1 = omega arith in
    let there : HasSeen k.ids c.loop-left.seen (later_at k law sectors c.args.on.now.current c.args.place (c.loop-left.left - 1 + 1)) = subst (λ (m : ℕ). HasSeen k.ids c.loop-left.seen (later_at k law sectors c.args.on.now.current c.args.place m)) up now.seen in
    let entry : Option Placed = option_map (placed_at c.args.place) (k.in_slot (sector_at sectors c.args.place) (k.first + (c.loop-left.left - 1))) in
    let is_live : c.look_at-is.result ≡ holds_live k sectors c.args.place (k.first + (c.loop-left.left - 1)) =
    c.look_at-is.ensures.live (later_at k law sectors c.args.on.now.current c.args.place (c.loop-left.left - 1 + 1))
    (λ p found. stand_behind k law sectors c.args.on.now.current c.args.place (sym c.requires.on.current) (omega arith) (omega arith) c.requires.counts (c.loop-left.left - 1) (omega arith) p (ap (λ (j : ℕ). option_map (placed_at c.args.place) (k.in_slot (sector_at sectors c.args.place) j)) (sym slot) ∙ found)) there
    ∙ ap (holds_live k sectors c.args.place) slot in
    record {
      within = omega arith;
      seen = subst (HasSeen k.ids c.look_at-is.new.seen)
          (ap (λ (j : ℕ). option_to_list (option_map (placed_at c.args.place) (k.in_slot (sector_at sectors c.args.place) j)) ++ later_at k law sectors c.args.on.now.current c.args.place (c.loop-left.left - 1 + 1)) slot ∙ later_step k law sectors c.args.on.now.current c.args.place (c.loop-left.left - 1) (omega arith))
          (c.look_at-is.ensures.seen (later_at k law sectors c.args.on.now.current c.args.place (c.loop-left.left - 1 + 1)) there);
      dead = λ index under. c.put.ensures.others index (λ (e : index ≡ c.loop-left.left - 1). absurd (omega arith)) ∙ now.dead index (omega arith);
      live = λ index from under.
          elim (cases_eq index (c.loop-left.left - 1)) [
            | inl same ↦
                ap (has_bit c.put.new.self.bits) same ∙ c.put.ensures.put ∙ ap (λ (t : Bool). t || c.look_at-is.result) (now.dead (c.loop-left.left - 1) (omega arith)) ∙ is_live
                ∙ ap (λ (i : ℕ). holds_live k sectors c.args.place (k.first + i)) (sym same)
            | inr apart ↦ c.put.ensures.others index apart ∙ now.live index (omega arith) under
          ];
    }

pub returns-clause-live : goal.returns-clause-live
returns-clause-live g c =
    let d : Device = g.F.Flash.device c.args.flash.now in
    let area : Area = c.args.on.now.area.now in
    let k : SectorFormat = g.T.SlotSectors.format_of (geometry_of d area) in
    let sectors : List (List ℕ) = sectors_of d area in
    let law : IsSectorFormat (g.T.SlotSectors.format_of (geometry_of d area)) = g.met.T.SlotSectors.lawful (geometry_of d area) (unit_is d area (g.met.F.Flash.is_lawful c.args.flash.now) c.requires.on.area.lawful) in
    let count : c.slots-left.result ≡ k.count (sector_at sectors c.args.place) = c.slots-left.ensures.value in
    let first : c.first_slot-first.result ≡ k.first = c.first_slot-first.ensures.value (geometry_of d area) in
    let low = open_inside k d area c.args.on.now.current c.requires.on.area.lawful c.requires.on.current in
    let long = length-sectors d area in
    λ index under. c.loop-left.invariant.live index (omega arith) under

pub returns-clause-seen : goal.returns-clause-seen
returns-clause-seen g c =
    let d : Device = g.F.Flash.device c.args.flash.now in
    let area : Area = c.args.on.now.area.now in
    let k : SectorFormat = g.T.SlotSectors.format_of (geometry_of d area) in
    let sectors : List (List ℕ) = sectors_of d area in
    let law : IsSectorFormat (g.T.SlotSectors.format_of (geometry_of d area)) = g.met.T.SlotSectors.lawful (geometry_of d area) (unit_is d area (g.met.F.Flash.is_lawful c.args.flash.now) c.requires.on.area.lawful) in
    let count : c.slots-left.result ≡ k.count (sector_at sectors c.args.place) = c.slots-left.ensures.value in
    let first : c.first_slot-first.result ≡ k.first = c.first_slot-first.ensures.value (geometry_of d area) in
    let low = open_inside k d area c.args.on.now.current c.requires.on.area.lawful c.requires.on.current in
    let long = length-sectors d area in
    let none : c.loop-left.left ≡ 0 = omega arith in
    subst (HasSeen k.ids c.loop-left.seen) (ap (later_at k law sectors c.args.on.now.current c.args.place) none ∙ later_all k law sectors c.args.on.now.current c.args.place c.requires.counts) c.loop-left.invariant.seen
