use Rattle.script_lines.proofs.PlanLemmas as laws
use Rattle.script_lines.proofs.plan.plans_of_lines.Goals as goal

pub returns-clause-parts : goal.returns-clause-parts
returns-clause-parts c = laws.in_parts

pub returns-clause-unplanned : goal.returns-clause-unplanned
returns-clause-unplanned c = laws.no_loss
