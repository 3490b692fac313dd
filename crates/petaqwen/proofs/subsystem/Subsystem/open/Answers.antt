use Rattle.std.proofs.Common.{List, sym, ap, subst}
use Rattle.std.specs.Prelude.{map}
use Rattle.flash_sim.specs.declared.flash.Bank.{Bank}
use Rattle.handlers.specs.Registry.{row_of}
use Rattle.petaqwen.specs.Ready.{AreServed}
use Rattle.petaqwen.proofs.OpenLemmas.{opens, fails}
use Rattle.petaqwen.proofs.ReadyLemmas.{opened_ready}
use Rattle.petaqwen.proofs.Served.{partition_served}
use Rattle.petaqwen.proofs.subsystem.Subsystem.open.Goals as goal

pub mount-requires-clause-lawful : goal.mount-requires-clause-lawful
mount-requires-clause-lawful g c =
    (partition_served (g.F.Flash.device c.args.board.flash).banks c.args.board.map c.args.label.now c.in-Some.area c.requires.sound (sym c.in-Some.ensures)).0

pub mount-requires-clause-serves : goal.mount-requires-clause-serves
mount-requires-clause-serves g c =
    (partition_served (g.F.Flash.device c.args.board.flash).banks c.args.board.map c.args.label.now c.in-Some.area c.requires.sound (sym c.in-Some.ensures)).1

pub returns-in-Ok-clause-opens : goal.returns-in-Ok-clause-opens
returns-in-Ok-clause-opens g c =
    opens _ _ c.args.board.map c.args.label.now c.in-Some.area (sym c.in-Some.ensures) c.in-Ok.settings c.in-Ok.settings.backend c.in-Ok.ensures.mounts c.in-Ok.ensures.area c.in-Ok.ensures.up

pub returns-in-Ok-clause-empty : goal.returns-in-Ok-clause-empty
returns-in-Ok-clause-empty g c = ap (map (row_of _)) c.new-registry.ensures

pub returns-in-Ok-clause-ready : goal.returns-in-Ok-clause-ready
returns-in-Ok-clause-ready g c =
    opened_ready (g.F.Flash.device c.args.board.flash) (g.F.Flash.device c.mount.new.flash) c.args.board.map c.in-Ok.settings.backend c.in-Some.area _ c.requires.sound
    (partition_served (g.F.Flash.device c.args.board.flash).banks c.args.board.map c.args.label.now c.in-Some.area c.requires.sound (sym c.in-Some.ensures)).0
    c.in-Ok.ensures.mounts.touches.banks c.in-Ok.ensures.area c.in-Ok.ensures.stands (ap (map (row_of _)) c.new-registry.ensures)

pub returns-in-Err-clause-fails : goal.returns-in-Err-clause-fails
returns-in-Err-clause-fails g c = fails _ _ c.args.board.map c.args.label.now c.in-Some.area (sym c.in-Some.ensures) c.in-Err.fault c.in-Err.ensures.mounts

pub returns-in-Err-clause-sound : goal.returns-in-Err-clause-sound
returns-in-Err-clause-sound g c = subst (λ (banks : List Bank). AreServed banks c.args.board.map) (sym c.in-Err.ensures.mounts.touches.banks) c.requires.sound
