use Rattle.flash_sim.specs.Device.{Device}
use Rattle.flash_map.specs.Area.{geometry_of, sectors_of, sector_at}
use Rattle.zms_store.proofs.OpenLemmas.{kept_blank, kept_used}
use Rattle.zms_store.proofs.sectors.ZmsOpenSlotSectors.keep.Goals as goal

pub returns-in-Blank : goal.returns-in-Blank
returns-in-Blank g c =
    let a : Device = g.F.Flash.device c.args.flash.now in
    kept_blank (geometry_of a c.args.area.now).kind (sector_at (sectors_of a c.args.area.now) c.args.place) c.in-Blank.ensures.state

pub returns-in-Used : goal.returns-in-Used
returns-in-Used g c =
    let a : Device = g.F.Flash.device c.args.flash.now in
    kept_used (geometry_of a c.args.area.now).kind (sector_at (sectors_of a c.args.area.now) c.args.place) c.in-Used.cycle c.in-Used.slots c.in-Used.data_end _ c.in-Used.gc_done c.in-Used.ensures.state
