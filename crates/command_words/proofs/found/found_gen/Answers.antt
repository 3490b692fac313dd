use Rattle.std.proofs.Common.{◌≡◌, ◌∙◌, [], ◌∷◌, rules, Some, None, refl, codes, ap, inl, inr}
use Rattle.clap.specs.Words.{first_of, found_of, rows_of}
use Rattle.command_words.specs.Commands.{store_word}
use Rattle.command_words.specs.Operands.{IsLineCount, IsNoLineCount, IsNoStoreWord}
use Rattle.command_words.proofs.FoundLemmas.{lacks, no_gen, value_at}
use Rattle.command_words.proofs.found.found_gen.Goals as goal

pub returns-in_err-out : goal.returns-in_err-out
returns-in_err-out c =
    let f = found_of c.args.operands.now in
    let none : first_of (codes "OUT") (rows_of f) ≡ None = value_at f (codes "OUT") c.get_str.result None c.get_str.ensures (search rules) in
    rw c.from_residual.ensures (lacks (codes "gen") (codes "OUT") (rows_of f) refl none)

pub returns-in_err-store : goal.returns-in_err-store
returns-in_err-store c =
    let f = found_of c.args.operands.now in
    let none : first_of (codes "BACKEND") (rows_of f) ≡ None = value_at f (codes "BACKEND") c.get_str-2.result None c.get_str-2.ensures (search rules) in
    rw c.from_residual-in_err-store.ensures (lacks (codes "gen") (codes "BACKEND") (rows_of f) refl none)

pub returns-in_err-lines : goal.returns-in_err-lines
returns-in_err-lines c =
    let f = found_of c.args.operands.now in
    let none : first_of (codes "N") (rows_of f) ≡ None = value_at f (codes "N") c.get_str-3.result None c.get_str-3.ensures (search rules) in
    rw c.from_residual-in_err-lines.ensures (lacks (codes "gen") (codes "N") (rows_of f) refl none)

pub returns-in_err-backend : goal.returns-in_err-backend
returns-in_err-backend c =
    let f = found_of c.args.operands.now in
    let kind : first_of (codes "BACKEND") (rows_of f) ≡ Some c.in_ok-store.store.now = value_at f (codes "BACKEND") c.get_str-2.result (Some c.in_ok-store.store.now) c.get_str-2.ensures (search rules) in
    let lines : first_of (codes "N") (rows_of f) ≡ Some c.in_ok-lines.lines.now = value_at f (codes "N") c.get_str-3.result (Some c.in_ok-lines.lines.now) c.get_str-3.ensures (search rules) in
    let none : IsNoStoreWord c.in_ok-store.store.now = c.in_err-backend.ensures in
    rw c.from_residual-in_err-backend.ensures (no_gen (rows_of f) c.in_ok-store.store.now c.in_ok-lines.lines.now kind lines (inl none))

pub returns-in_err-n : goal.returns-in_err-n
returns-in_err-n c =
    let f = found_of c.args.operands.now in
    let kind : first_of (codes "BACKEND") (rows_of f) ≡ Some c.in_ok-store.store.now = value_at f (codes "BACKEND") c.get_str-2.result (Some c.in_ok-store.store.now) c.get_str-2.ensures (search rules) in
    let lines : first_of (codes "N") (rows_of f) ≡ Some c.in_ok-lines.lines.now = value_at f (codes "N") c.get_str-3.result (Some c.in_ok-lines.lines.now) c.get_str-3.ensures (search rules) in
    let none : IsNoLineCount c.in_ok-lines.lines.now = c.in_err-n.ensures in
    rw c.from_residual-in_err-n.ensures (no_gen (rows_of f) c.in_ok-store.store.now c.in_ok-lines.lines.now kind lines (inr none))

pub returns : goal.returns
returns c =
    let f = found_of c.args.operands.now in
    let out : first_of (codes "OUT") (rows_of f) ≡ Some c.in_ok-out.out.now = value_at f (codes "OUT") c.get_str.result (Some c.in_ok-out.out.now) c.get_str.ensures (search rules) in
    let kind : first_of (codes "BACKEND") (rows_of f) ≡ Some c.in_ok-store.store.now = value_at f (codes "BACKEND") c.get_str-2.result (Some c.in_ok-store.store.now) c.get_str-2.ensures (search rules) in
    let lines : first_of (codes "N") (rows_of f) ≡ Some c.in_ok-lines.lines.now = value_at f (codes "N") c.get_str-3.result (Some c.in_ok-lines.lines.now) c.get_str-3.ensures (search rules) in
    let named : c.in_ok-store.store.now ≡ store_word c.in_ok-backend.backend = c.in_ok-backend.ensures in
    let count : IsLineCount c.in_ok-lines.lines.now c.in_ok-n.n = c.in_ok-n.ensures in
    let kind_is = kind ∙ ap (λ word. Some word) named in
    let lines_are = lines ∙ ap (λ word. Some word) count.0 in
    record { rows = rows_of f; at = refl; values = λ i. out i ∷ kind_is i ∷ lines_are i ∷ []; in_range = count.1 }
