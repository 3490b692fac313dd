use Rattle.std.proofs.Common.{length, ◌≤◌, arith}
use Rattle.flash_map.specs.Area.{value_limit}
use Rattle.any_backend.specs.Standing.{area_of}
use Rattle.settings_core.proofs.LawfulLemmas.{stays_lawful}
use Rattle.petaqwen.proofs.ReadyLemmas.{others_ready}
use Rattle.petaqwen.proofs.subsystem.Subsystem.set.Goals as goal

pub returns-clause-ready : goal.returns-clause-ready
returns-clause-ready g c =
    let some : 1 ≤ length c.args.value.now = omega (arith, c.requires.some) in
    others_ready _ _ _ _ _ c.requires.ready
    ((stays_lawful (value_limit (area_of c.args.self.now.settings.backend)) _ c.requires.ready.holds).set_ends _ c.args.name.now c.args.value.now c.runtime_set.result c.bytes-name.ensures.name (some, c.requires.short) c.runtime_set.ensures)
