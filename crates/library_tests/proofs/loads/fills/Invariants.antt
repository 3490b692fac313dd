use Rattle.std.proofs.Common.{◌≡◌, true}
use Rattle.flash_map.specs.Lawful.{IsLawfulFor}
use Rattle.flash_map.specs.On.{StandsOn}
use Rattle.library_tests.proofs.loads.fills.Given as goal

abbrev pub invariant-loop-name : goal.invariant-loop-name
invariant-loop-name g l = record {
  lawful : IsLawfulFor (g.B.Flash.device l.bench).banks (g.K.Backend.mounted_on l.settings.backend);
  stands : g.K.Backend.runs l.settings.backend ≡ true → StandsOn g.K.Backend.mounted_on g.K.Backend.stands (g.B.Flash.device l.bench) l.settings.backend;
}
