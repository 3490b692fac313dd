use Rattle.std.proofs.Common.{◌≡◌, take}
use Rattle.serde_json.specs.View.{members_view}
use Rattle.script_lines.specs.Answer.{names_members}
use Rattle.script_lines.proofs.answer.names_of.Given as goal

abbrev pub invariant-loop-pair : goal.invariant-loop-pair
invariant-loop-pair l = members_view l.names.entries ≡ names_members (take l.pair-index l.pairs)
