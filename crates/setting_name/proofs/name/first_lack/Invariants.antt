use Rattle.setting_name.proofs.Lacks.{BeganBefore}
use Rattle.setting_name.proofs.name.first_lack.Given as goal

abbrev pub invariant-loop-place : goal.invariant-loop-place
invariant-loop-place l = BeganBefore l.text l.place l.due
