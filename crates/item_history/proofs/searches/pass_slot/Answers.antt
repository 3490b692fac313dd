use Rattle.std.proofs.Common.{◌≡◌, ℕ, ◌+◌, List, sym, subst, ◌∙◌, arith}
use Rattle.item_laws.proofs.AreaReads.{length-sectors}
use Rattle.item_store.specs.Listed.{IsListed}
use Rattle.item_store.proofs.Placings.{read_listed}
use Rattle.flash_sim.specs.Device.{Device}
use Rattle.flash_map.specs.declared.area.Area.{Area}
use Rattle.flash_map.specs.Area.{geometry_of, sectors_of, sector_at}
use Rattle.item_store.specs.declared.entry.Placed.{Placed}
use Rattle.item_store.specs.SectorFormat.{SectorFormat, IsSectorFormat}
use Rattle.item_store.proofs.Areas.{unit_is}
use Rattle.item_history.specs.declared.searches.Search.TheVariants.{Left}
use Rattle.item_history.specs.Searches.{of_id, EndsIn}
use Rattle.item_history.proofs.SearchSteps.{slot_some, slot_none, found_has}
use Rattle.item_history.proofs.searches.pass_slot.Goals as goal

pub returns-in-Some-clause-entry : goal.returns-in-Some-clause-entry
returns-in-Some-clause-entry g c =
    let d : Device = g.F.Flash.device c.args.flash.now in
    let area : Area = c.args.area.now in
    let k : SectorFormat = g.T.SlotSectors.format_of (geometry_of d area) in
    let sectors : List (List ℕ) = sectors_of d area in
    let law : IsSectorFormat (g.T.SlotSectors.format_of (geometry_of d area)) = g.met.T.SlotSectors.lawful (geometry_of d area) (unit_is d area (g.met.F.Flash.is_lawful c.args.flash.now) c.requires.area.lawful) in
    let one = slot_some k (sector_at sectors c.args.place) c.args.place c.args.slot c.in-Some.placed (sym c.in-Some.is ∙ c.entry_in.ensures.entry) in
    subst (λ (xs : List Placed). EndsIn (of_id c.args.id xs) c.args.left c.pass.result) (sym one) c.pass.ensures.entry

pub returns-in-Some-clause-listed : goal.returns-in-Some-clause-listed
returns-in-Some-clause-listed g c =
    let d : Device = g.F.Flash.device c.args.flash.now in
    let area : Area = c.args.area.now in
    let k : SectorFormat = g.T.SlotSectors.format_of (geometry_of d area) in
    let sectors : List (List ℕ) = sectors_of d area in
    let law : IsSectorFormat (g.T.SlotSectors.format_of (geometry_of d area)) = g.met.T.SlotSectors.lawful (geometry_of d area) (unit_is d area (g.met.F.Flash.is_lawful c.args.flash.now) c.requires.area.lawful) in
    let listed = read_listed k law sectors c.args.place c.args.slot c.in-Some.placed (omega (arith, length-sectors d area, c.requires.inside)) c.requires.slot.0 c.requires.slot.1 (sym c.in-Some.is ∙ c.entry_in.ensures.entry) in
    found_has (IsListed k sectors) c.in-Some.placed c.pass.result c.pass.ensures.same listed.0

pub returns-in-None-clause-entry : goal.returns-in-None-clause-entry
returns-in-None-clause-entry g c =
    let d : Device = g.F.Flash.device c.args.flash.now in
    let area : Area = c.args.area.now in
    let k : SectorFormat = g.T.SlotSectors.format_of (geometry_of d area) in
    let sectors : List (List ℕ) = sectors_of d area in
    let law : IsSectorFormat (g.T.SlotSectors.format_of (geometry_of d area)) = g.met.T.SlotSectors.lawful (geometry_of d area) (unit_is d area (g.met.F.Flash.is_lawful c.args.flash.now) c.requires.area.lawful) in
    let none = slot_none k (sector_at sectors c.args.place) c.args.place c.args.slot (sym c.in-None.is ∙ c.entry_in.ensures.entry) in
    let start : c.args.left ≡ 0 + c.args.left = omega arith in
    subst (λ (xs : List Placed). EndsIn (of_id c.args.id xs) c.args.left (Left c.args.left)) (sym none) start
