use Rattle.std.proofs.Common.{Bool, subst}
use Rattle.std.specs.Bool.{MatchBool}
use Rattle.flash_sim.specs.Device.{Device}
use Rattle.flash_map.specs.On.{on}
use Rattle.mirror.specs.Mirrored.{IsWithin}
use Rattle.mirror.proofs.Comparisons.{one-map}
use Rattle.mirror.proofs.comparing.hold_one_map.Goals as goal

pub returns-then-is_within-clause-same : goal.returns-then-is_within-clause-same
returns-then-is_within-clause-same g c same =
    let d : Device = g.F.Flash.device c.args.flash.now in
    let m = on g.K.Backend.contents d (g.K.Backend.mounted_on c.args.store.now) in
    let n = on g.K.Backend.contents d (g.K.Backend.mounted_on c.args.other.now) in
    one-map m n c.if-is_within.ensures (subst (λ (t : Bool). MatchBool t (IsWithin n m) (¬ IsWithin n m)) same c.is_within-then-is_within.ensures)
