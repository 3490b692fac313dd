use Rattle.std.proofs.Common.{◌≡◌, [], ◌∷◌, rules, Some, None, refl, codes}
use Rattle.clap.specs.Words.{first_of, found_of, rows_of}
use Rattle.command_words.proofs.FoundLemmas.{lacks, value_at}
use Rattle.command_words.proofs.found.found_dump.Goals as goal

pub returns-in_err-get_str : goal.returns-in_err-get_str
returns-in_err-get_str c =
    let f = found_of c.args.operands.now in
    let none : first_of (codes "IMAGE") (rows_of f) ≡ None = value_at f (codes "IMAGE") c.get_str.result None c.get_str.ensures (search rules) in
    rw c.from_residual.ensures (lacks (codes "dump") (codes "IMAGE") (rows_of f) refl none)

pub returns : goal.returns
returns c =
    let f = found_of c.args.operands.now in
    let image : first_of (codes "IMAGE") (rows_of f) ≡ Some c.in_ok-get_str.field-0.now = value_at f (codes "IMAGE") c.get_str.result (Some c.in_ok-get_str.field-0.now) c.get_str.ensures (search rules) in
    record { rows = rows_of f; at = refl; values = λ i. image i ∷ []; in_range = tt }
