use Rattle.std.proofs.Common.{◌∙◌, ℕ, ◌+◌, ◌≤◌, sym, arith}
use Rattle.flash_sim.specs.Device.{Device}
use Rattle.flash_map.specs.declared.area.Area.{Area}
use Rattle.flash_map.specs.Area.{geometry_of}
use Rattle.item_store.specs.SectorFormat.{IsSectorFormat}
use Rattle.item_store.proofs.Areas.{unit_is}
use Rattle.item_store.proofs.HoldingSteps.{value-last}
use Rattle.std.proofs.lemmas.Bool.{false≢true}
use Rattle.item_store.proofs.store.Store.gives_item.Goals as goal

start-most : (start count more : ℕ) → start ≤ start + count + more
start-most start count more = omega arith

pub returns-then-not-may_be_later : goal.returns-then-not-may_be_later
returns-then-not-may_be_later g c =
    let d : Device = g.F.Flash.device c.args.flash.now in
    let area : Area = c.args.self.now.area in
    let law : IsSectorFormat (g.T.SlotSectors.format_of (geometry_of d area)) = g.met.T.SlotSectors.lawful (geometry_of d area) (unit_is d area (g.met.F.Flash.is_lawful c.args.flash.now) c.requires.stands.area.lawful) in
    record {
      yes_it = λ _. value-last g.T.SlotSectors.role g.T.SlotSectors.format_of g.T.SlotSectors.kept d c.args.self.now law (g.met.F.Flash.is_lawful c.args.flash.now) c.requires.stands c.args.holder.now c.requires.placed (c.requires.none c.if-not-may_be_later.true) ∙ c.requires.holds;
      not_it = λ no. absurd (false≢true (sym no));
      steps = start-most c.args.steps.now c.args.self.now.area.sectors 4;
    }

pub get-requires : goal.get-requires
get-requires g c = c.requires.stands
