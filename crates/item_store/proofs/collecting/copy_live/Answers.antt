use Rattle.std.proofs.Common.{◌≡◌, ◌+◌, ◌-◌, ◌<◌, ℕ, Bool, List, [], ◌∷◌, inl, inr, sym, ap, subst, ◌∙◌, arith}
use Rattle.flash_sim.specs.Device.{Device}
use Rattle.flash_sim.specs.declared.flash.Bank.{Bank}
use Rattle.flash_map.specs.declared.area.Area.{Area}
use Rattle.flash_map.specs.Area.{geometry_of, sectors_of, sector_at}
use Rattle.flash_map.specs.Touches.{Touches}
use Rattle.flash_map.proofs.PieceLemmas.{on_err}
use Rattle.flash_map.proofs.Touches.{then}
use Rattle.item_laws.specs.Area.{next}
use Rattle.item_store.specs.SectorFormat.{IsSectorFormat}
use Rattle.item_store.specs.Standing.{IsStoreArea}
use Rattle.item_store.proofs.Areas.{unit_is, large_there}
use Rattle.item_store.proofs.CopyLoop.{IsCopying, copying_start, copying_end}
use Rattle.item_laws.proofs.RingSteps.{reads}
use Rattle.item_store.specs.Seen.{holds_live}
use Rattle.item_store.proofs.LiveSteps.{victim_counts}
use Rattle.item_store.proofs.SlotFacts.{none_yet, back_at, slot_in, below_few, live_flag, current_within, next_within, opens, within, room, inside, apart, listed_there, ready, closed, not_done, source, kept_there, one_more, one_lost, one_most, kept_after}
use Rattle.item_store.proofs.KnownSlots.{known_none}
use Rattle.item_store.proofs.collecting.copy_live.Goals as goal

pub slots-slots-requires-clause-inside : goal.slots-slots-requires-clause-inside
slots-slots-requires-clause-inside g c =
    let a : Device = g.F.Flash.device c.args.flash.now in
    let area : Area = c.args.area.now in
    let place : ℕ = c.args.current in
    subst (λ (v : ℕ). v < area.sectors) (sym c.requires.victim) (next_within a area place c.requires.collecting.ring.within)

pub loop-slot-init : goal.loop-slot-init
loop-slot-init g c =
    let a : Device = g.F.Flash.device c.args.flash.now in
    let area : Area = c.args.area.now in
    let place : ℕ = c.args.current in
    let law : IsSectorFormat (g.T.SlotSectors.format_of (geometry_of a area)) = g.met.T.SlotSectors.lawful (geometry_of a area) (unit_is a area (g.met.F.Flash.is_lawful c.args.flash.now) c.requires.area.lawful) in
    let none : c.first_slot-first.result - c.first_slot-first.result ≡ 0 = none_yet c.first_slot-first.result in
    record {
      copying = subst (λ (n : ℕ). IsCopying (g.T.SlotSectors.format_of (geometry_of a area)) a a area place n) (sym none) (copying_start (g.T.SlotSectors.format_of (geometry_of a area)) law a area place c.requires.begun);
      kept = c.requires.kept;
    }

pub copy_slot-requires-clause-here : goal.copy_slot-requires-clause-here
copy_slot-requires-clause-here g c = record {
  area = subst (λ (banks : List Bank). IsStoreArea g.T.SlotSectors.role banks c.args.area.now) (sym c.loop-slot.invariant.copying.touches.banks) c.requires.area;
  inside =
      let a : Device = g.F.Flash.device c.args.flash.now in
      let area : Area = c.args.area.now in
      let place : ℕ = c.args.current in
      current_within a area place c.requires.collecting.ring.within;
  kept =
      let a : Device = g.F.Flash.device c.args.flash.now in
      let area : Area = c.args.area.now in
      let place : ℕ = c.args.current in
      let law : IsSectorFormat (g.T.SlotSectors.format_of (geometry_of a area)) = g.met.T.SlotSectors.lawful (geometry_of a area) (unit_is a area (g.met.F.Flash.is_lawful c.args.flash.now) c.requires.area.lawful) in
      let d : Device = g.F.Flash.device c.loop-slot.flash in
      let first_is = c.first_slot-first.ensures.value (geometry_of a area) in
      let kept = c.loop-slot.invariant in
      kept_there g.T.SlotSectors.format_of g.T.SlotSectors.role a d area place c.args.victim c.first_slot-first.result c.loop-slot.slot law (g.met.F.Flash.is_lawful c.args.flash.now) c.requires.area c.requires.collecting c.requires.victim first_is c.loop-slot.auto.slot kept.copying g.T.SlotSectors.kept c.loop-slot.opened kept.kept;
  ready =
      let a : Device = g.F.Flash.device c.args.flash.now in
      let area : Area = c.args.area.now in
      let place : ℕ = c.args.current in
      let law : IsSectorFormat (g.T.SlotSectors.format_of (geometry_of a area)) = g.met.T.SlotSectors.lawful (geometry_of a area) (unit_is a area (g.met.F.Flash.is_lawful c.args.flash.now) c.requires.area.lawful) in
      let d : Device = g.F.Flash.device c.loop-slot.flash in
      let first_is = c.first_slot-first.ensures.value (geometry_of a area) in
      let kept = c.loop-slot.invariant in
      ready g.T.SlotSectors.format_of g.T.SlotSectors.role a d area place c.args.victim c.first_slot-first.result c.loop-slot.slot law (g.met.F.Flash.is_lawful c.args.flash.now) c.requires.area c.requires.collecting c.requires.victim first_is c.loop-slot.auto.slot kept.copying;
  opened =
      let a : Device = g.F.Flash.device c.args.flash.now in
      let area : Area = c.args.area.now in
      let place : ℕ = c.args.current in
      let law : IsSectorFormat (g.T.SlotSectors.format_of (geometry_of a area)) = g.met.T.SlotSectors.lawful (geometry_of a area) (unit_is a area (g.met.F.Flash.is_lawful c.args.flash.now) c.requires.area.lawful) in
      let d : Device = g.F.Flash.device c.loop-slot.flash in
      let first_is = c.first_slot-first.ensures.value (geometry_of a area) in
      let kept = c.loop-slot.invariant in
      opens g.T.SlotSectors.format_of g.T.SlotSectors.role a d area place c.args.victim c.first_slot-first.result c.loop-slot.slot law (g.met.F.Flash.is_lawful c.args.flash.now) c.requires.area c.requires.collecting c.requires.victim first_is c.loop-slot.auto.slot kept.copying;
}

pub copy_slot-requires-clause-victim : goal.copy_slot-requires-clause-victim
copy_slot-requires-clause-victim g c = record {
  inside =
      let a : Device = g.F.Flash.device c.args.flash.now in
      let area : Area = c.args.area.now in
      let place : ℕ = c.args.current in
      let law : IsSectorFormat (g.T.SlotSectors.format_of (geometry_of a area)) = g.met.T.SlotSectors.lawful (geometry_of a area) (unit_is a area (g.met.F.Flash.is_lawful c.args.flash.now) c.requires.area.lawful) in
      let d : Device = g.F.Flash.device c.loop-slot.flash in
      let first_is = c.first_slot-first.ensures.value (geometry_of a area) in
      let kept = c.loop-slot.invariant in
      inside g.T.SlotSectors.format_of g.T.SlotSectors.role a d area place c.args.victim c.first_slot-first.result c.loop-slot.slot law (g.met.F.Flash.is_lawful c.args.flash.now) c.requires.area c.requires.collecting c.requires.victim first_is c.loop-slot.auto.slot kept.copying;
  other =
      let a : Device = g.F.Flash.device c.args.flash.now in
      let area : Area = c.args.area.now in
      let place : ℕ = c.args.current in
      let law : IsSectorFormat (g.T.SlotSectors.format_of (geometry_of a area)) = g.met.T.SlotSectors.lawful (geometry_of a area) (unit_is a area (g.met.F.Flash.is_lawful c.args.flash.now) c.requires.area.lawful) in
      let d : Device = g.F.Flash.device c.loop-slot.flash in
      let first_is = c.first_slot-first.ensures.value (geometry_of a area) in
      let kept = c.loop-slot.invariant in
      apart g.T.SlotSectors.format_of g.T.SlotSectors.role a d area place c.args.victim c.first_slot-first.result c.loop-slot.slot law (g.met.F.Flash.is_lawful c.args.flash.now) c.requires.area c.requires.collecting c.requires.victim first_is c.loop-slot.auto.slot kept.copying;
  listed =
      let a : Device = g.F.Flash.device c.args.flash.now in
      let area : Area = c.args.area.now in
      let place : ℕ = c.args.current in
      let law : IsSectorFormat (g.T.SlotSectors.format_of (geometry_of a area)) = g.met.T.SlotSectors.lawful (geometry_of a area) (unit_is a area (g.met.F.Flash.is_lawful c.args.flash.now) c.requires.area.lawful) in
      let d : Device = g.F.Flash.device c.loop-slot.flash in
      let first_is = c.first_slot-first.ensures.value (geometry_of a area) in
      let kept = c.loop-slot.invariant in
      let more : c.loop-slot.slot < c.first_slot-first.result + (g.T.SlotSectors.format_of (geometry_of a area)).count (sector_at (sectors_of a area) (next (sectors_of a area) place)) = subst (λ (n : ℕ). c.loop-slot.slot < c.first_slot-first.result + n) (c.slots-slots.ensures.value ∙ ap (λ (v : ℕ). (g.T.SlotSectors.format_of (geometry_of a area)).count (sector_at (sectors_of a area) v)) c.requires.victim) c.loop-slot-test.true in
      listed_there g.T.SlotSectors.format_of g.T.SlotSectors.role a d area place c.args.victim c.first_slot-first.result c.loop-slot.slot law (g.met.F.Flash.is_lawful c.args.flash.now) c.requires.area c.requires.collecting c.requires.victim first_is c.loop-slot.auto.slot kept.copying more;
  source =
      let a : Device = g.F.Flash.device c.args.flash.now in
      let area : Area = c.args.area.now in
      let place : ℕ = c.args.current in
      let law : IsSectorFormat (g.T.SlotSectors.format_of (geometry_of a area)) = g.met.T.SlotSectors.lawful (geometry_of a area) (unit_is a area (g.met.F.Flash.is_lawful c.args.flash.now) c.requires.area.lawful) in
      let d : Device = g.F.Flash.device c.loop-slot.flash in
      let first_is = c.first_slot-first.ensures.value (geometry_of a area) in
      let kept = c.loop-slot.invariant in
      source g.T.SlotSectors.format_of g.T.SlotSectors.role a d area place c.args.victim c.first_slot-first.result c.loop-slot.slot law (g.met.F.Flash.is_lawful c.args.flash.now) c.requires.area c.requires.collecting c.requires.victim first_is c.loop-slot.auto.slot kept.copying;
  within =
      let a : Device = g.F.Flash.device c.args.flash.now in
      let area : Area = c.args.area.now in
      let place : ℕ = c.args.current in
      let law : IsSectorFormat (g.T.SlotSectors.format_of (geometry_of a area)) = g.met.T.SlotSectors.lawful (geometry_of a area) (unit_is a area (g.met.F.Flash.is_lawful c.args.flash.now) c.requires.area.lawful) in
      let d : Device = g.F.Flash.device c.loop-slot.flash in
      let first_is = c.first_slot-first.ensures.value (geometry_of a area) in
      let kept = c.loop-slot.invariant in
      within g.T.SlotSectors.format_of g.T.SlotSectors.role a d area place c.args.victim c.first_slot-first.result c.loop-slot.slot law (g.met.F.Flash.is_lawful c.args.flash.now) c.requires.area c.requires.collecting c.requires.victim first_is c.loop-slot.auto.slot kept.copying;
}

pub copy_slot-requires-clause-room : goal.copy_slot-requires-clause-room
copy_slot-requires-clause-room g c =
    let a : Device = g.F.Flash.device c.args.flash.now in
    let area : Area = c.args.area.now in
    let place : ℕ = c.args.current in
    let law : IsSectorFormat (g.T.SlotSectors.format_of (geometry_of a area)) = g.met.T.SlotSectors.lawful (geometry_of a area) (unit_is a area (g.met.F.Flash.is_lawful c.args.flash.now) c.requires.area.lawful) in
    let d : Device = g.F.Flash.device c.loop-slot.flash in
    let first_is = c.first_slot-first.ensures.value (geometry_of a area) in
    let kept = c.loop-slot.invariant in
    let more : c.loop-slot.slot < c.first_slot-first.result + (g.T.SlotSectors.format_of (geometry_of a area)).count (sector_at (sectors_of a area) (next (sectors_of a area) place)) = subst (λ (n : ℕ). c.loop-slot.slot < c.first_slot-first.result + n) (c.slots-slots.ensures.value ∙ ap (λ (v : ℕ). (g.T.SlotSectors.format_of (geometry_of a area)).count (sector_at (sectors_of a area) v)) c.requires.victim) c.loop-slot-test.true in
    room g.T.SlotSectors.format_of g.T.SlotSectors.role a d area place c.args.victim c.first_slot-first.result c.loop-slot.slot law (g.met.F.Flash.is_lawful c.args.flash.now) c.requires.area c.requires.collecting c.requires.victim first_is c.loop-slot.auto.slot kept.copying more

pub returns-in_err-copy_slot-clause-lost : goal.returns-in_err-copy_slot-clause-lost
returns-in_err-copy_slot-clause-lost g c =
    let a : Device = g.F.Flash.device c.args.flash.now in
    let area : Area = c.args.area.now in
    let place : ℕ = c.args.current in
    let law : IsSectorFormat (g.T.SlotSectors.format_of (geometry_of a area)) = g.met.T.SlotSectors.lawful (geometry_of a area) (unit_is a area (g.met.F.Flash.is_lawful c.args.flash.now) c.requires.area.lawful) in
    let d : Device = g.F.Flash.device c.loop-slot.flash in
    let first_is = c.first_slot-first.ensures.value (geometry_of a area) in
    let kept = c.loop-slot.invariant in
    let e : Device = g.F.Flash.device c.copy_slot.new.flash in
    on_err c.from_residual.result (one_lost g.T.SlotSectors.format_of g.T.SlotSectors.role a d area place c.args.victim c.first_slot-first.result c.loop-slot.slot law (g.met.F.Flash.is_lawful c.args.flash.now) c.requires.area c.requires.collecting c.requires.victim first_is c.loop-slot.auto.slot kept.copying e c.in_err-copy_slot.ensures.ends.only c.in_err-copy_slot.ensures.ends.lost)

pub returns-in_err-copy_slot-clause-spends_lost : goal.returns-in_err-copy_slot-clause-spends_lost
returns-in_err-copy_slot-clause-spends_lost g c =
    let a : Device = g.F.Flash.device c.args.flash.now in
    let area : Area = c.args.area.now in
    let place : ℕ = c.args.current in
    let law : IsSectorFormat (g.T.SlotSectors.format_of (geometry_of a area)) = g.met.T.SlotSectors.lawful (geometry_of a area) (unit_is a area (g.met.F.Flash.is_lawful c.args.flash.now) c.requires.area.lawful) in
    let d : Device = g.F.Flash.device c.loop-slot.flash in
    let first_is = c.first_slot-first.ensures.value (geometry_of a area) in
    let kept = c.loop-slot.invariant in
    let more : c.loop-slot.slot < c.first_slot-first.result + (g.T.SlotSectors.format_of (geometry_of a area)).count (sector_at (sectors_of a area) (next (sectors_of a area) place)) = subst (λ (n : ℕ). c.loop-slot.slot < c.first_slot-first.result + n) (c.slots-slots.ensures.value ∙ ap (λ (v : ℕ). (g.T.SlotSectors.format_of (geometry_of a area)).count (sector_at (sectors_of a area) v)) c.requires.victim) c.loop-slot-test.true in
    let e : Device = g.F.Flash.device c.copy_slot.new.flash in
    on_err c.from_residual.result (one_most g.T.SlotSectors.format_of g.T.SlotSectors.role a d area place c.args.victim c.first_slot-first.result c.loop-slot.slot law (g.met.F.Flash.is_lawful c.args.flash.now) c.requires.area c.requires.collecting c.requires.victim first_is c.loop-slot.auto.slot kept.copying e more c.in_err-copy_slot.ensures.ends.spends_lost)

pub loop-slot-preserved : goal.loop-slot-preserved
loop-slot-preserved g c =
    let a : Device = g.F.Flash.device c.args.flash.now in
    let area : Area = c.args.area.now in
    let place : ℕ = c.args.current in
    let law : IsSectorFormat (g.T.SlotSectors.format_of (geometry_of a area)) = g.met.T.SlotSectors.lawful (geometry_of a area) (unit_is a area (g.met.F.Flash.is_lawful c.args.flash.now) c.requires.area.lawful) in
    let d : Device = g.F.Flash.device c.loop-slot.flash in
    let first_is = c.first_slot-first.ensures.value (geometry_of a area) in
    let kept = c.loop-slot.invariant in
    let more : c.loop-slot.slot < c.first_slot-first.result + (g.T.SlotSectors.format_of (geometry_of a area)).count (sector_at (sectors_of a area) (next (sectors_of a area) place)) = subst (λ (n : ℕ). c.loop-slot.slot < c.first_slot-first.result + n) (c.slots-slots.ensures.value ∙ ap (λ (v : ℕ). (g.T.SlotSectors.format_of (geometry_of a area)).count (sector_at (sectors_of a area) v)) c.requires.victim) c.loop-slot-test.true in
    let e : Device = g.F.Flash.device c.copy_slot.new.flash in
    record {
      copying = one_more g.T.SlotSectors.format_of g.T.SlotSectors.role a d area place c.args.victim c.first_slot-first.result c.loop-slot.slot law (g.met.F.Flash.is_lawful c.args.flash.now) c.requires.area c.requires.collecting c.requires.victim first_is c.loop-slot.auto.slot kept.copying e more c.in_ok-copy_slot.ensures.touches c.in_ok-copy_slot.ensures.ends.copies c.in_ok-copy_slot.ensures.ends.spends;
      kept = kept_after g.T.SlotSectors.format_of g.T.SlotSectors.role a d area place c.args.victim c.first_slot-first.result c.loop-slot.slot law (g.met.F.Flash.is_lawful c.args.flash.now) c.requires.area c.requires.collecting c.requires.victim first_is c.loop-slot.auto.slot kept.copying g.T.SlotSectors.kept c.copy_slot.new.opened e c.in_ok-copy_slot.ensures.ends.kept;
    }

pub returns-clause-copies : goal.returns-clause-copies
returns-clause-copies g c =
    let a : Device = g.F.Flash.device c.args.flash.now in
    let area : Area = c.args.area.now in
    let place : ℕ = c.args.current in
    let law : IsSectorFormat (g.T.SlotSectors.format_of (geometry_of a area)) = g.met.T.SlotSectors.lawful (geometry_of a area) (unit_is a area (g.met.F.Flash.is_lawful c.args.flash.now) c.requires.area.lawful) in
    let d : Device = g.F.Flash.device c.loop-slot.flash in
    let nw = next_within a area place c.requires.collecting.ring.within in
    let large = large_there g.T.SlotSectors.role a area (g.met.F.Flash.is_lawful c.args.flash.now) c.requires.area (next (sectors_of a area) place) nw in
    let count : c.slots-slots.result ≡ (g.T.SlotSectors.format_of (geometry_of a area)).count (sector_at (sectors_of a area) (next (sectors_of a area) place)) = c.slots-slots.ensures.value ∙ ap (λ (v : ℕ). (g.T.SlotSectors.format_of (geometry_of a area)).count (sector_at (sectors_of a area) v)) c.requires.victim in
    let all : c.loop-slot.slot - c.first_slot-first.result ≡ (g.T.SlotSectors.format_of (geometry_of a area)).count (sector_at (sectors_of a area) (next (sectors_of a area) place)) = omega arith in
    let done = copying_end (g.T.SlotSectors.format_of (geometry_of a area)) law a d area place (c.loop-slot.slot - c.first_slot-first.result) c.requires.collecting large all c.loop-slot.invariant.copying in
    done.0

pub returns-clause-spends : goal.returns-clause-spends
returns-clause-spends g c =
    let a : Device = g.F.Flash.device c.args.flash.now in
    let area : Area = c.args.area.now in
    let place : ℕ = c.args.current in
    let law : IsSectorFormat (g.T.SlotSectors.format_of (geometry_of a area)) = g.met.T.SlotSectors.lawful (geometry_of a area) (unit_is a area (g.met.F.Flash.is_lawful c.args.flash.now) c.requires.area.lawful) in
    let d : Device = g.F.Flash.device c.loop-slot.flash in
    let nw = next_within a area place c.requires.collecting.ring.within in
    let large = large_there g.T.SlotSectors.role a area (g.met.F.Flash.is_lawful c.args.flash.now) c.requires.area (next (sectors_of a area) place) nw in
    let count : c.slots-slots.result ≡ (g.T.SlotSectors.format_of (geometry_of a area)).count (sector_at (sectors_of a area) (next (sectors_of a area) place)) = c.slots-slots.ensures.value ∙ ap (λ (v : ℕ). (g.T.SlotSectors.format_of (geometry_of a area)).count (sector_at (sectors_of a area) v)) c.requires.victim in
    let all : c.loop-slot.slot - c.first_slot-first.result ≡ (g.T.SlotSectors.format_of (geometry_of a area)).count (sector_at (sectors_of a area) (next (sectors_of a area) place)) = omega arith in
    let done = copying_end (g.T.SlotSectors.format_of (geometry_of a area)) law a d area place (c.loop-slot.slot - c.first_slot-first.result) c.requires.collecting large all c.loop-slot.invariant.copying in
    done.1

pub live_entries-requires-clause-on : goal.live_entries-requires-clause-on
live_entries-requires-clause-on g c =
    let a : Device = g.F.Flash.device c.args.flash.now in
    let area : Area = c.args.area.now in
    let place : ℕ = c.args.current in
    record { area = c.requires.area; kept = c.requires.kept; current = sym (reads (g.T.SlotSectors.format_of (geometry_of a area)).reading (sectors_of a area) place (inr (inl c.requires.collecting))).0; known = known_none g.T.SlotSectors.format_of a area }

pub live_entries-requires-clause-inside : goal.live_entries-requires-clause-inside
live_entries-requires-clause-inside g c =
    let a : Device = g.F.Flash.device c.args.flash.now in
    let area : Area = c.args.area.now in
    let place : ℕ = c.args.current in
    subst (λ (v : ℕ). v < area.sectors) (sym c.requires.victim) (next_within a area place c.requires.collecting.ring.within)

pub live_entries-requires-clause-counts : goal.live_entries-requires-clause-counts
live_entries-requires-clause-counts g c =
    let a : Device = g.F.Flash.device c.args.flash.now in
    let area : Area = c.args.area.now in
    let place : ℕ = c.args.current in
    victim_counts (g.T.SlotSectors.format_of (geometry_of a area)) (sectors_of a area) place c.args.victim c.requires.collecting c.requires.victim

pub has-is-requires : goal.has-is-requires
has-is-requires g c =
    below_few c.first_slot-first.result c.loop-slot.slot c.slots-slots.result c.loop-slot.auto.slot c.loop-slot-test.true c.slots-slots.ensures.few

pub copy_slot-requires-clause-live : goal.copy_slot-requires-clause-live
copy_slot-requires-clause-live g c =
    let a : Device = g.F.Flash.device c.args.flash.now in
    let area : Area = c.args.area.now in
    let place : ℕ = c.args.current in
    let law : IsSectorFormat (g.T.SlotSectors.format_of (geometry_of a area)) = g.met.T.SlotSectors.lawful (geometry_of a area) (unit_is a area (g.met.F.Flash.is_lawful c.args.flash.now) c.requires.area.lawful) in
    let d : Device = g.F.Flash.device c.loop-slot.flash in
    let first_is = c.first_slot-first.ensures.value (geometry_of a area) in
    let kept = c.loop-slot.invariant in
    let count : c.slots-slots.result ≡ (g.T.SlotSectors.format_of (geometry_of a area)).count (sector_at (sectors_of a area) c.args.victim) = c.slots-slots.ensures.value in
    let here : c.loop-slot.slot - c.first_slot-first.result < (g.T.SlotSectors.format_of (geometry_of a area)).count (sector_at (sectors_of a area) c.args.victim) = slot_in c.first_slot-first.result c.loop-slot.slot ((g.T.SlotSectors.format_of (geometry_of a area)).count (sector_at (sectors_of a area) c.args.victim)) c.loop-slot.auto.slot (subst (λ (n : ℕ). c.loop-slot.slot < c.first_slot-first.result + n) count c.loop-slot-test.true) in
    let back : (g.T.SlotSectors.format_of (geometry_of a area)).first + (c.loop-slot.slot - c.first_slot-first.result) ≡ c.loop-slot.slot = back_at (g.T.SlotSectors.format_of (geometry_of a area)).first c.first_slot-first.result c.loop-slot.slot first_is c.loop-slot.auto.slot in
    live_flag g.T.SlotSectors.format_of g.T.SlotSectors.role a d area place c.args.victim c.first_slot-first.result c.loop-slot.slot law (g.met.F.Flash.is_lawful c.args.flash.now) c.requires.area c.requires.collecting c.requires.victim first_is c.loop-slot.auto.slot kept.copying c.has-is.result
    (c.has-is.ensures ∙ c.live_entries.ensures (c.loop-slot.slot - c.first_slot-first.result) here ∙ ap (holds_live (g.T.SlotSectors.format_of (geometry_of a area)) (sectors_of a area) c.args.victim) back)

pub live_entries-requires-clause-none : goal.live_entries-requires-clause-none
live_entries-requires-clause-none g c =
    c.new-live.ensures

pub copy_slot-requires-clause-collects : goal.copy_slot-requires-clause-collects
copy_slot-requires-clause-collects g c = record {
  collecting =
      let a : Device = g.F.Flash.device c.args.flash.now in
      let area : Area = c.args.area.now in
      let place : ℕ = c.args.current in
      let law : IsSectorFormat (g.T.SlotSectors.format_of (geometry_of a area)) = g.met.T.SlotSectors.lawful (geometry_of a area) (unit_is a area (g.met.F.Flash.is_lawful c.args.flash.now) c.requires.area.lawful) in
      let d : Device = g.F.Flash.device c.loop-slot.flash in
      let first_is = c.first_slot-first.ensures.value (geometry_of a area) in
      let kept = c.loop-slot.invariant in
      closed g.T.SlotSectors.format_of g.T.SlotSectors.role a d area place c.args.victim c.first_slot-first.result c.loop-slot.slot law (g.met.F.Flash.is_lawful c.args.flash.now) c.requires.area c.requires.collecting c.requires.victim first_is c.loop-slot.auto.slot kept.copying;
  not_done =
      let a : Device = g.F.Flash.device c.args.flash.now in
      let area : Area = c.args.area.now in
      let place : ℕ = c.args.current in
      let law : IsSectorFormat (g.T.SlotSectors.format_of (geometry_of a area)) = g.met.T.SlotSectors.lawful (geometry_of a area) (unit_is a area (g.met.F.Flash.is_lawful c.args.flash.now) c.requires.area.lawful) in
      let d : Device = g.F.Flash.device c.loop-slot.flash in
      let first_is = c.first_slot-first.ensures.value (geometry_of a area) in
      let kept = c.loop-slot.invariant in
      not_done g.T.SlotSectors.format_of g.T.SlotSectors.role a d area place c.args.victim c.first_slot-first.result c.loop-slot.slot law (g.met.F.Flash.is_lawful c.args.flash.now) c.requires.area c.requires.collecting c.requires.victim first_is c.loop-slot.auto.slot kept.copying;
}

pub returns-clause-touches : goal.returns-clause-touches
returns-clause-touches g c = c.loop-slot.invariant.copying.touches

pub returns-clause-kept : goal.returns-clause-kept
returns-clause-kept g c = c.loop-slot.invariant.kept

pub returns-in_err-copy_slot-clause-touches : goal.returns-in_err-copy_slot-clause-touches
returns-in_err-copy_slot-clause-touches g c =
    subst (λ (lost : Bool). Touches (c.args.area.now ∷ []) (g.F.Flash.device c.args.flash.now) (g.F.Flash.device c.copy_slot.new.flash) lost) (sym c.from_residual.ensures.0)
    (then c.loop-slot.invariant.copying.touches c.in_err-copy_slot.ensures.touches)
