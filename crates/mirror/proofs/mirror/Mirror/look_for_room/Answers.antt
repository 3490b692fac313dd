use Rattle.std.proofs.Common.{sym, subst}
use Rattle.flash_map.specs.Lawful.{IsLawfulFor}
use Rattle.flash_map.specs.declared.area.Area.{Area}
use Rattle.mirror.proofs.SideLemmas.{of-higher}
use Rattle.mirror.proofs.mirror.Mirror.look_for_room.Goals as goal

pub look_for_room-requires-2-clause-area : goal.look_for_room-requires-2-clause-area
look_for_room-requires-2-clause-area g c =
    let banks = (g.F.Flash.device c.args.flash.now).banks in
    subst (λ (area : Area). IsLawfulFor banks area) (sym c.higher.ensures)
    (of-higher (λ (area : Area). IsLawfulFor banks area) c.args.self.now.trusted c.args.self.now.other c.requires.mirrors.trusted_stands.lawful c.requires.mirrors.other_stands.lawful)
