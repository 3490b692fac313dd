use Rattle.std.proofs.Common.{◌≡◌, ℕ, ◌<◌, List, subst, inl, inr, arith}
use Rattle.std.proofs.lemmas.Bool.{cases_lt}
use Rattle.item_laws.specs.NextIds.{IsLeastOf}
use Rattle.item_laws.proofs.AreaReads.{length-sectors}
use Rattle.item_laws.proofs.NextIds.{least_kept}
use Rattle.item_store.specs.Listed.{items_on}
use Rattle.item_store.proofs.NextSteps.{next_is}
use Rattle.flash_sim.specs.Device.{Device}
use Rattle.flash_map.specs.declared.area.Area.{Area}
use Rattle.flash_map.specs.Area.{geometry_of, sectors_of, sector_at}
use Rattle.item_store.specs.SectorFormat.{SectorFormat}
use Rattle.item_store.proofs.Areas.{open_inside}
use Rattle.item_store.proofs.store.Store.next_id.Goals as goal

pub loop-place-init : goal.loop-place-init
loop-place-init g c =
    record { some = tt; small = tt; least = λ j none. absurd (omega arith) }

pub loop-place-preserved : goal.loop-place-preserved
loop-place-preserved g c =
    let d : Device = g.F.Flash.device c.args.flash.now in
    let area : Area = c.args.self.now.area in
    let k : SectorFormat = g.T.SlotSectors.format_of (geometry_of d area) in
    let sectors : List (List ℕ) = sectors_of d area in
    record {
      some = c.next_in-least.ensures.some;
      small = c.next_in-least.ensures.small;
      least = λ j under.
          let before : j < c.loop-place.place → IsLeastOf (items_on g.T.SlotSectors.format_of d area) c.args.after (k.reading.pairs (sector_at sectors j)) c.next_in-least.result =
          λ lt. least_kept (items_on g.T.SlotSectors.format_of d area) c.args.after (k.reading.pairs (sector_at sectors j)) c.loop-place.least c.next_in-least.result c.next_in-least.ensures.kept (c.loop-place.invariant.least j lt) in
          elim (cases_lt j c.loop-place.place) [
            | inl lt ↦ before lt
            | inr ge ↦
                let same : c.loop-place.place ≡ j = omega arith in
                subst (λ (i : ℕ). IsLeastOf (items_on g.T.SlotSectors.format_of d area) c.args.after (k.reading.pairs (sector_at sectors i)) c.next_in-least.result) same c.next_in-least.ensures.least
          ];
    }

pub returns-clause-next : goal.returns-clause-next
returns-clause-next g c =
    let d : Device = g.F.Flash.device c.args.flash.now in
    let area : Area = c.args.self.now.area in
    let k : SectorFormat = g.T.SlotSectors.format_of (geometry_of d area) in
    let sectors : List (List ℕ) = sectors_of d area in
    let count = length-sectors d area in
    let within = open_inside k d area c.args.self.now.current c.requires.area.lawful c.requires.current in
    next_is k sectors c.args.after c.loop-place.least (omega (arith, c.requires.current)) c.loop-place.invariant.some (λ j inside. c.loop-place.invariant.least j (omega arith))
