use Rattle.std.proofs.Common.{ap}
use Rattle.flash_map.specs.declared.area.Area.{Area}
use Rattle.any_backend.proofs.TestBeds.{role-unit, bed-lawful, bed-serves}
use Rattle.library_tests.proofs.settings.bed.Goals as goal

pub load-requires : goal.load-requires
load-requires g c = record { unit = role-unit c.args.role c.args.unit c.requires.unit }

pub returns-clause-lawful : goal.returns-clause-lawful
returns-clause-lawful g c =
    bed-lawful c.args.kind c.args.unit c.args.role c.new-2.result (ap (λ (x : Area). x.role) c.new-2.ensures) (ap (λ (x : Area). x.bank) c.new-2.ensures) (ap (λ (x : Area). x.first) c.new-2.ensures) (ap (λ (x : Area). x.sectors) c.new-2.ensures) (ap (λ (x : Area). x.version) c.new-2.ensures)
    (g.B.Flash.device c.load.new.bench) c.in_ok-load.ensures c.requires.kind c.requires.unit

pub returns-clause-serves : goal.returns-clause-serves
returns-clause-serves g c =
    bed-serves (g.B.Flash.device c.load.new.bench) c.args.role c.new-2.result (ap (λ (x : Area). x.role) c.new-2.ensures) c.requires.serves

pub returns-clause-role : goal.returns-clause-role
returns-clause-role g c = ap (λ (x : Area). x.role) c.new-2.ensures
