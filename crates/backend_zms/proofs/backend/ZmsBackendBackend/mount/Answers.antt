use Rattle.std.proofs.Common.{sym, subst}
use Rattle.flash_sim.specs.Device.{Device}
use Rattle.flash_map.specs.declared.area.Area.{Area}
use Rattle.flash_map.specs.On.{on}
use Rattle.named_items.specs.Pairs.{HasNoOrphans}
use Rattle.named_items.specs.ZmsStore.{zms_items}
use Rattle.backend_zms.specs.IdLayout.{numbering_of}
use Rattle.backend_zms.proofs.BootSteps.{owed-spent, owed-left}
use Rattle.flash_map.specs.Area.{geometry_of}
use Rattle.backend_api.specs.Room.{foreign_units}
use Rattle.backend_zms.proofs.backend.ZmsBackendBackend.mount.Goals as goal

pub returns-in-Ok-clause-stands : goal.returns-in-Ok-clause-stands
returns-in-Ok-clause-stands g c =
    let e : Device = g.F.Flash.device c.mount_store.new.flash in
    record {
      store = c.in-Ok.ensures.store.up;
      clean = subst (λ (x : Area). HasNoOrphans (numbering_of x) (on zms_items e x)) (sym c.in-Ok.ensures.store.on_it) c.in-Ok.ensures.store.clean;
    }

pub returns-in-Ok-clause-on : goal.returns-in-Ok-clause-on
returns-in-Ok-clause-on g c = c.in-Ok.ensures.store.on_it

pub returns-in-Ok-clause-keeps : goal.returns-in-Ok-clause-keeps
returns-in-Ok-clause-keeps g c = λ none. (c.in-Ok.ensures.keeps none).settings

pub returns-in-Err-clause-keeps : goal.returns-in-Err-clause-keeps
returns-in-Err-clause-keeps g c = λ none. (c.in-Err.ensures.keeps none).settings

pub returns-in-Ok-clause-items : goal.returns-in-Ok-clause-items
returns-in-Ok-clause-items g c = λ none. record { keeps = c.in-Ok.ensures.keeps none; ends = c.in-Ok.ensures.order none }

pub returns-in-Err-clause-items : goal.returns-in-Err-clause-items
returns-in-Err-clause-items g c = λ none. record { keeps = c.in-Err.ensures.keeps none; ends = c.in-Err.ensures.order none }

pub returns-in-Ok-clause-units : goal.returns-in-Ok-clause-units
returns-in-Ok-clause-units g c =
    let d : Device = g.F.Flash.device c.args.flash.now in
    let e : Device = g.F.Flash.device c.mount_store.new.flash in
    record {
      at_most = c.mount_store.ensures.units.at_most;
      owed = owed-spent d e c.args.area (foreign_units (geometry_of d c.args.area)) c.mount_store.ensures.rests c.mount_store.ensures.units;
      left = owed-left d e c.args.area c.mount_store.ensures.touches.banks c.mount_store.result c.mount_store.ensures.ends c.mount_store.ensures.keeps c.mount_store.ensures.rests;
    }

pub returns-in-Err-clause-units : goal.returns-in-Err-clause-units
returns-in-Err-clause-units g c =
    let d : Device = g.F.Flash.device c.args.flash.now in
    let e : Device = g.F.Flash.device c.mount_store.new.flash in
    record {
      at_most = c.mount_store.ensures.units.at_most;
      owed = owed-spent d e c.args.area (foreign_units (geometry_of d c.args.area)) c.mount_store.ensures.rests c.mount_store.ensures.units;
      left = owed-left d e c.args.area c.mount_store.ensures.touches.banks c.mount_store.result c.mount_store.ensures.ends c.mount_store.ensures.keeps c.mount_store.ensures.rests;
    }
