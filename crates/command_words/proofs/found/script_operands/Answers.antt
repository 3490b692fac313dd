use Rattle.std.proofs.Common.{◌≡◌, [], ◌∷◌, rules, Some, None, refl, codes}
use Rattle.clap.specs.Words.{first_of, found_of, rows_of}
use Rattle.command_words.specs.Forms.{script_names}
use Rattle.command_words.proofs.FoundLemmas.{lacks_one, value_at}
use Rattle.command_words.proofs.found.script_operands.Goals as goal

pub returns-in_err-get_str : goal.returns-in_err-get_str
returns-in_err-get_str c =
    let f = found_of c.args.operands.now in
    let none : first_of (codes "IMAGE") (rows_of f) ≡ None = value_at f (codes "IMAGE") c.get_str.result None c.get_str.ensures (search rules) in
    rw c.from_residual.ensures (λ words. lacks_one (codes "IMAGE") script_names (rows_of f) words refl none)

pub returns-in_err-get_str-2 : goal.returns-in_err-get_str-2
returns-in_err-get_str-2 c =
    let f = found_of c.args.operands.now in
    let none : first_of (codes "SCRIPT") (rows_of f) ≡ None = value_at f (codes "SCRIPT") c.get_str-2.result None c.get_str-2.ensures (search rules) in
    rw c.from_residual-in_err-get_str-2.ensures (λ words. lacks_one (codes "SCRIPT") script_names (rows_of f) words refl none)

pub returns-in_err-get_str-3 : goal.returns-in_err-get_str-3
returns-in_err-get_str-3 c =
    let f = found_of c.args.operands.now in
    let none : first_of (codes "OUT") (rows_of f) ≡ None = value_at f (codes "OUT") c.get_str-3.result None c.get_str-3.ensures (search rules) in
    rw c.from_residual-in_err-get_str-3.ensures (λ words. lacks_one (codes "OUT") script_names (rows_of f) words refl none)

pub returns : goal.returns
returns c =
    let f = found_of c.args.operands.now in
    let image : first_of (codes "IMAGE") (rows_of f) ≡ Some c.in_ok-get_str.field-0.now = value_at f (codes "IMAGE") c.get_str.result (Some c.in_ok-get_str.field-0.now) c.get_str.ensures (search rules) in
    let script : first_of (codes "SCRIPT") (rows_of f) ≡ Some c.in_ok-get_str-2.field-0.now = value_at f (codes "SCRIPT") c.get_str-2.result (Some c.in_ok-get_str-2.field-0.now) c.get_str-2.ensures (search rules) in
    let out : first_of (codes "OUT") (rows_of f) ≡ Some c.in_ok-get_str-3.field-0.now = value_at f (codes "OUT") c.get_str-3.result (Some c.in_ok-get_str-3.field-0.now) c.get_str-3.ensures (search rules) in
    λ i. image i ∷ script i ∷ out i ∷ []
