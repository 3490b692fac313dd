use Rattle.petaqwen.proofs.RegisterLemmas.{registers, registers_as, registers_lawful}
use Rattle.petaqwen.proofs.ReadyLemmas.{others_ready}
use Rattle.petaqwen.proofs.subsystem.Subsystem.register.Goals as goal

pub returns-clause-ends : goal.returns-clause-ends
returns-clause-ends g c =
    registers_as (λ b. (goal.Handler-dyn g (b.vtable, b.value)).state b.value) c.args.self.now.registry c.register.new.self c.args.subtree c.args.handler c.register.result c.without.result c.register.ensures.ends c.without.ensures

pub returns-clause-ready : goal.returns-clause-ready
returns-clause-ready g c =
    others_ready _ _ _ _ _ c.requires.ready
    (registers_lawful _ _ _ c.args.subtree _ _ (registers _ c.args.self.now.registry c.register.new.self c.args.subtree c.args.handler c.register.result c.register.ensures.ends) c.requires.empty c.requires.ready.holds)
