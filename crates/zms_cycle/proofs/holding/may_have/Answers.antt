use Rattle.std.proofs.Common.{sym, ◌∙◌, arith}
use Rattle.zms_cycle.proofs.SlotSearch.{none_listed}
use Rattle.zms_cycle.proofs.holding.may_have.Goals as goal

pub returns-in_default-clause-lower : goal.returns-in_default-clause-lower
returns-in_default-clause-lower c = λ no k over lt. let none = none_listed c.args.sector.now (sym c.cycle_of.ensures ∙ c.in_default.is) in absurd (omega arith)

pub returns-in_default-clause-upper : goal.returns-in_default-clause-upper
returns-in_default-clause-upper c = λ no k over lt. let none = none_listed c.args.sector.now (sym c.cycle_of.ensures ∙ c.in_default.is) in absurd (omega arith)
