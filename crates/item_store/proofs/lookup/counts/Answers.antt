use Rattle.std.proofs.Common.{ℕ, List, subst, sym}
use Rattle.flash_sim.specs.Device.{Device}
use Rattle.flash_map.specs.Area.{geometry_of, sectors_of}
use Rattle.item_store.specs.OnSector.{Ignores}
use Rattle.item_store.specs.SectorFormat.{SectorFormat}
use Rattle.item_store.proofs.CountSteps.{each-counts, other-counts}
use Rattle.item_store.proofs.lookup.counts.Goals as goal

pub returns-in-Some-clause-value : goal.returns-in-Some-clause-value
returns-in-Some-clause-value g c =
    let d : Device = g.F.Flash.device c.args.flash.now in
    let k : SectorFormat = g.T.SlotSectors.format_of (geometry_of d c.args.on.now.area.now) in
    let sectors : List (List ℕ) = sectors_of d c.args.on.now.area.now in
    other-counts k sectors c.args.on.now.current c.in-Some.ignored c.args.place (subst (Ignores k sectors c.args.on.now.current) c.in-Some.is c.ignored_sector.ensures.ignores)

pub returns-in-None-clause-value : goal.returns-in-None-clause-value
returns-in-None-clause-value g c =
    let d : Device = g.F.Flash.device c.args.flash.now in
    let k : SectorFormat = g.T.SlotSectors.format_of (geometry_of d c.args.on.now.area.now) in
    let sectors : List (List ℕ) = sectors_of d c.args.on.now.area.now in
    sym (each-counts k sectors c.args.on.now.current c.args.place (subst (Ignores k sectors c.args.on.now.current) c.in-None.is c.ignored_sector.ensures.ignores))
