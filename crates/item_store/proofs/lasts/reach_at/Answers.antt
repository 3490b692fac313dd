use Rattle.flash_sim.specs.Device.{Device}
use Rattle.flash_map.specs.Area.{geometry_of, sectors_of}
use Rattle.item_store.proofs.CountSteps.{each-counts}
use Rattle.item_store.proofs.KnownSlots.{known_in}
use Rattle.item_store.proofs.lasts.reach_at.Goals as goal

pub reach-requires-clause-known : goal.reach-requires-clause-known
reach-requires-clause-known g c =
    let d : Device = g.F.Flash.device c.args.flash.now in
    known_in g.T.SlotSectors.format_of d c.args.on.now.area.now c.args.on.now.tops.now c.requires.on.known c.args.place c.known_slots-known.result
    (c.known_slots-known.ensures (geometry_of d c.args.on.now.area.now))

pub returns-clause-counts : goal.returns-clause-counts
returns-clause-counts g c =
    let d : Device = g.F.Flash.device c.args.flash.now in
    each-counts (g.T.SlotSectors.format_of (geometry_of d c.args.on.now.area.now)) (sectors_of d c.args.on.now.area.now) c.args.on.now.current c.args.place c.requires.rested
