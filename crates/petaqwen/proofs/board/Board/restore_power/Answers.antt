use Rattle.std.proofs.Common.{◌≡◌, sym, subst, ap}
use Rattle.flash_sim.specs.Device.{Device}
use Rattle.flash_sim.specs.declared.flash.Bank.{Bank}
use Rattle.std.specs.Prelude.{List}
use Rattle.petaqwen.specs.Ready.{AreServed}
use Rattle.petaqwen.proofs.board.Board.restore_power.Goals as goal

pub returns-clause-sound : goal.returns-clause-sound
returns-clause-sound g c =
    subst (λ (banks : List Bank). AreServed banks c.args.self.now.map) (sym (ap (λ (d : Device). d.banks) c.restore.ensures)) c.requires.sound
