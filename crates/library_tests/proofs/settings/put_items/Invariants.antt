use Rattle.std.proofs.Common.{◌≡◌}
use Rattle.flash_map.specs.Lawful.{IsLawfulFor}
use Rattle.flash_map.specs.On.{StandsOn}
use Rattle.library_tests.proofs.settings.put_items.Given as goal

abbrev pub invariant-loop-id : goal.invariant-loop-id
invariant-loop-id g l = record {
  lawful : IsLawfulFor (g.B.Flash.device l.bench).banks (g.S.ItemStore.mounted_on l.store);
  stands : StandsOn g.S.ItemStore.mounted_on g.S.ItemStore.stands (g.B.Flash.device l.bench) l.store;
  banks : (g.B.Flash.device l.bench).banks ≡ (g.B.Flash.device l.fn.bench).banks;
}
