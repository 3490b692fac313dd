use Rattle.std.proofs.Common.{◌≡◌, List, refl, sym, subst, ap}
use Rattle.flash_sim.specs.Device.{Device}
use Rattle.flash_sim.specs.declared.flash.Bank.{Bank}
use Rattle.image_file.specs.Format.{plain}
use Rattle.petaqwen.specs.Ready.{AreServed}
use Rattle.petaqwen.proofs.Served.{image_served}
use Rattle.petaqwen.proofs.board.Board+SparseSim.blank.Goals as goal

pub returns-clause-sound : goal.returns-clause-sound
returns-clause-sound c =
    subst (λ (banks : List Bank). AreServed banks c.in_ok-image.image.map) (sym (ap (λ (d : Device). d.banks) c.in_ok-load.ensures.ok))
    (image_served (plain c.in_ok-image.image) c.in_ok-image.image.map refl c.in_ok-image.ensures.lawful c.lawful_use.ensures.served)
