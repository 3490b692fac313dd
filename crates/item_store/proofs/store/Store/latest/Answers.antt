use Rattle.std.proofs.Common.{◌≡◌, ℕ, ◌%◌, List, sym, ap, ◌∙◌, arith}
use Rattle.flash_sim.specs.Device.{Device}
use Rattle.flash_map.specs.declared.area.Area.{Area}
use Rattle.flash_map.specs.Area.{geometry_of, sectors_of, sector_at}
use Rattle.item_laws.proofs.AreaReads.{length-sectors}
use Rattle.item_store.specs.SectorFormat.{SectorFormat, IsSectorFormat}
use Rattle.item_store.proofs.Areas.{unit_is}
use Rattle.item_store.proofs.ReadFacts.{some_sectors}
use Rattle.item_store.proofs.CacheSteps.{IsLatestAt, no-latest, latest-at, read-latest, some_or}
use Rattle.item_store.proofs.store.Store.latest.Goals as goal

pub returns-in_err-sector-clause-entry : goal.returns-in_err-sector-clause-entry
returns-in_err-sector-clause-entry g c =
    let d : Device = g.F.Flash.device c.args.flash.now in
    let area : Area = c.args.self.now.area in
    let k : SectorFormat = g.T.SlotSectors.format_of (geometry_of d area) in
    let sectors : List (List ℕ) = sectors_of d area in
    let law : IsSectorFormat (g.T.SlotSectors.format_of (geometry_of d area)) = g.met.T.SlotSectors.lawful (geometry_of d area) (unit_is d area (g.met.F.Flash.is_lawful c.args.flash.now) c.requires.area.lawful) in
    c.from_residual.ensures ∙ sym (no-latest k law sectors c.args.self.now.cache c.requires.cached (some_sectors g.T.SlotSectors.role g.T.SlotSectors.format_of g.T.SlotSectors.kept d c.args.self.now law (g.met.F.Flash.is_lawful c.args.flash.now) c.requires) c.args.id (sym c.in_err-sector.ensures))

pub entry_in-requires-clause-inside : goal.entry_in-requires-clause-inside
entry_in-requires-clause-inside g c =
    let d : Device = g.F.Flash.device c.args.flash.now in
    let area : Area = c.args.self.now.area in
    let k : SectorFormat = g.T.SlotSectors.format_of (geometry_of d area) in
    let sectors : List (List ℕ) = sectors_of d area in
    let law : IsSectorFormat (g.T.SlotSectors.format_of (geometry_of d area)) = g.met.T.SlotSectors.lawful (geometry_of d area) (unit_is d area (g.met.F.Flash.is_lawful c.args.flash.now) c.requires.area.lawful) in
    let at : IsLatestAt k sectors (c.args.id % 64) c.in_ok-sector.sector c.in_ok-sector.slot =
    latest-at k law sectors c.args.self.now.cache c.requires.cached (some_sectors g.T.SlotSectors.role g.T.SlotSectors.format_of g.T.SlotSectors.kept d c.args.self.now law (g.met.F.Flash.is_lawful c.args.flash.now) c.requires) c.args.id c.in_ok-sector.sector c.in_ok-sector.slot (sym c.in_ok-sector.ensures) in
    let sector_is : at.placed.sector ≡ c.in_ok-sector.sector = at.sector_is in
    let slot_is : at.placed.slot ≡ c.in_ok-sector.slot = at.slot_is in
    let within = at.stands.listed.within in
    let from = at.stands.listed.from in
    let listed = at.stands.listed.listed in
    let same : k.count (sector_at sectors at.placed.sector) ≡ k.count (sector_at sectors c.in_ok-sector.sector) = ap (λ (j : ℕ). k.count (sector_at sectors j)) sector_is in
    omega (arith, length-sectors d area)

pub entry_in-requires-clause-listed : goal.entry_in-requires-clause-listed
entry_in-requires-clause-listed g c =
    let d : Device = g.F.Flash.device c.args.flash.now in
    let area : Area = c.args.self.now.area in
    let k : SectorFormat = g.T.SlotSectors.format_of (geometry_of d area) in
    let sectors : List (List ℕ) = sectors_of d area in
    let law : IsSectorFormat (g.T.SlotSectors.format_of (geometry_of d area)) = g.met.T.SlotSectors.lawful (geometry_of d area) (unit_is d area (g.met.F.Flash.is_lawful c.args.flash.now) c.requires.area.lawful) in
    let at : IsLatestAt k sectors (c.args.id % 64) c.in_ok-sector.sector c.in_ok-sector.slot =
    latest-at k law sectors c.args.self.now.cache c.requires.cached (some_sectors g.T.SlotSectors.role g.T.SlotSectors.format_of g.T.SlotSectors.kept d c.args.self.now law (g.met.F.Flash.is_lawful c.args.flash.now) c.requires) c.args.id c.in_ok-sector.sector c.in_ok-sector.slot (sym c.in_ok-sector.ensures) in
    let sector_is : at.placed.sector ≡ c.in_ok-sector.sector = at.sector_is in
    let slot_is : at.placed.slot ≡ c.in_ok-sector.slot = at.slot_is in
    let within = at.stands.listed.within in
    let from = at.stands.listed.from in
    let listed = at.stands.listed.listed in
    let same : k.count (sector_at sectors at.placed.sector) ≡ k.count (sector_at sectors c.in_ok-sector.sector) = ap (λ (j : ℕ). k.count (sector_at sectors j)) sector_is in
    (omega arith, omega arith)

pub returns-clause-entry : goal.returns-clause-entry
returns-clause-entry g c =
    let d : Device = g.F.Flash.device c.args.flash.now in
    let area : Area = c.args.self.now.area in
    let k : SectorFormat = g.T.SlotSectors.format_of (geometry_of d area) in
    let sectors : List (List ℕ) = sectors_of d area in
    let law : IsSectorFormat (g.T.SlotSectors.format_of (geometry_of d area)) = g.met.T.SlotSectors.lawful (geometry_of d area) (unit_is d area (g.met.F.Flash.is_lawful c.args.flash.now) c.requires.area.lawful) in
    let at : IsLatestAt k sectors (c.args.id % 64) c.in_ok-sector.sector c.in_ok-sector.slot =
    latest-at k law sectors c.args.self.now.cache c.requires.cached (some_sectors g.T.SlotSectors.role g.T.SlotSectors.format_of g.T.SlotSectors.kept d c.args.self.now law (g.met.F.Flash.is_lawful c.args.flash.now) c.requires) c.args.id c.in_ok-sector.sector c.in_ok-sector.slot (sym c.in_ok-sector.ensures) in
    c.entry_in.ensures.entry ∙ read-latest k sectors (c.args.id % 64) c.in_ok-sector.sector c.in_ok-sector.slot at

pub returns-clause-none : goal.returns-clause-none
returns-clause-none g c =
    let d : Device = g.F.Flash.device c.args.flash.now in
    let area : Area = c.args.self.now.area in
    let k : SectorFormat = g.T.SlotSectors.format_of (geometry_of d area) in
    let sectors : List (List ℕ) = sectors_of d area in
    let law : IsSectorFormat (g.T.SlotSectors.format_of (geometry_of d area)) = g.met.T.SlotSectors.lawful (geometry_of d area) (unit_is d area (g.met.F.Flash.is_lawful c.args.flash.now) c.requires.area.lawful) in
    let at : IsLatestAt k sectors (c.args.id % 64) c.in_ok-sector.sector c.in_ok-sector.slot =
    latest-at k law sectors c.args.self.now.cache c.requires.cached (some_sectors g.T.SlotSectors.role g.T.SlotSectors.format_of g.T.SlotSectors.kept d c.args.self.now law (g.met.F.Flash.is_lawful c.args.flash.now) c.requires) c.args.id c.in_ok-sector.sector c.in_ok-sector.slot (sym c.in_ok-sector.ensures) in
    some_or c.entry_in.result at.placed _ (c.entry_in.ensures.entry ∙ read-latest k sectors (c.args.id % 64) c.in_ok-sector.sector c.in_ok-sector.slot at ∙ at.latest)
