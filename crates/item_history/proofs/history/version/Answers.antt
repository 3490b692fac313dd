use Rattle.std.proofs.Common.{ℕ, ◌<◌, List, sym, arith}
use Rattle.item_laws.specs.Live.{bytes_of}
use Rattle.item_laws.proofs.AreaReads.{length-sectors}
use Rattle.flash_sim.specs.Device.{Device}
use Rattle.flash_map.specs.declared.area.Area.{Area}
use Rattle.flash_map.specs.Area.{geometry_of, sectors_of, sector_at}
use Rattle.item_store.specs.SectorFormat.{SectorFormat, IsSectorFormat, slots}
use Rattle.item_store.proofs.Areas.{unit_is, large_there}
use Rattle.item_history.proofs.VersionReads.{version_there, version_gone, reported_of}
use Rattle.item_history.proofs.history.version.Goals as goal

pub said-requires-clause-within : goal.said-requires-clause-within
said-requires-clause-within g c =
    let d : Device = g.F.Flash.device c.args.flash.now in
    let area : Area = c.args.area.now in
    let k : SectorFormat = g.T.SlotSectors.format_of (geometry_of d area) in
    let sectors : List (List ℕ) = sectors_of d area in
    let law : IsSectorFormat (g.T.SlotSectors.format_of (geometry_of d area)) = g.met.T.SlotSectors.lawful (geometry_of d area) (unit_is d area (g.met.F.Flash.is_lawful c.args.flash.now) c.requires.area.lawful) in
    let listed = c.in-Some.ensures.listed in
    let inside : c.in-Some.placed.sector < area.sectors = omega (arith, length-sectors d area, listed.within) in
    law.sound (sector_at sectors c.in-Some.placed.sector) (large_there g.T.SlotSectors.role d area (g.met.F.Flash.is_lawful c.args.flash.now) c.requires.area c.in-Some.placed.sector inside) (c.requires.rested.sound c.in-Some.placed.sector listed.within)

pub returns-in-Some : goal.returns-in-Some
returns-in-Some g c =
    let d : Device = g.F.Flash.device c.args.flash.now in
    let area : Area = c.args.area.now in
    let k : SectorFormat = g.T.SlotSectors.format_of (geometry_of d area) in
    let sectors : List (List ℕ) = sectors_of d area in
    let law : IsSectorFormat (g.T.SlotSectors.format_of (geometry_of d area)) = g.met.T.SlotSectors.lawful (geometry_of d area) (unit_is d area (g.met.F.Flash.is_lawful c.args.flash.now) c.requires.area.lawful) in
    reported_of _ c.args.n (bytes_of (slots k) sectors c.in-Some.placed) c.said.result (version_there k sectors c.args.id law c.args.n c.in-Some.placed (sym c.in-Some.ensures.entry)) c.said.ensures

pub returns-in-None : goal.returns-in-None
returns-in-None g c =
    let d : Device = g.F.Flash.device c.args.flash.now in
    let area : Area = c.args.area.now in
    let k : SectorFormat = g.T.SlotSectors.format_of (geometry_of d area) in
    let sectors : List (List ℕ) = sectors_of d area in
    let law : IsSectorFormat (g.T.SlotSectors.format_of (geometry_of d area)) = g.met.T.SlotSectors.lawful (geometry_of d area) (unit_is d area (g.met.F.Flash.is_lawful c.args.flash.now) c.requires.area.lawful) in
    version_gone k sectors c.args.id law c.args.n (sym c.in-None.ensures.entry)
