-- For each command, where its words are refused, and where they are the line.
use Rattle.std.proofs.Common.{ℕ, List, [], ◌∷◌, codes, ◌∙◌, ap}
use Rattle.std.proofs.lemmas.Result.{err_from_is_err_and}
use Rattle.text_parts.specs.Parts.{parts, parts_of}
use Rattle.script_lines.specs.declared.line.TheConstants.{UNITS_END}
use Rattle.script_lines.specs.Forms.Field.{some_bytes, below}
use Rattle.script_lines.specs.Forms.Said.{bytes, number}
use Rattle.script_lines.proofs.FormLemmas.{spelled, refused_row}
use Rattle.log_session.specs.Line.{log_forms, row_of, command_word}
use Rattle.log_session.proofs.TableFacts.{put_form, all_form, cut_form, uncut_form, mount_form}
use Rattle.log_session.proofs.reading.read_line.Goals as goal

pub returns-in_err-body-in-Put : goal.returns-in_err-body-in-Put
returns-in_err-body-in-Put c =
    let p = err_from_is_err_and c.from_residual.result c.from_residual.ensures.1 in
    let same = c.in-Some.ensures ∙ ap command_word c.in-Put.is in
    rw (p.1, p.2) (refused_row {T = List ℕ} log_forms row_of c.args.limit (λ value. bytes value ∷ []) (parts 32 c.args.text.now) c.cut_at.result.0.now (codes "put") (parts_of 32 c.cut_at.result.1) (some_bytes ∷ []) c.in_err-body-in-Put.field-0.0 c.cut_at.ensures.first same put_form c.in_err-body-in-Put.ensures)

pub returns-in_err-nothing-in-Records : goal.returns-in_err-nothing-in-Records
returns-in_err-nothing-in-Records c =
    let p = err_from_is_err_and c.from_residual-in_err-nothing-in-Records.result c.from_residual-in_err-nothing-in-Records.ensures.1 in
    let same = c.in-Some.ensures ∙ ap command_word c.in-Records.is in
    rw (p.1, p.2) (refused_row {T = Unit {0}} log_forms row_of c.args.limit (λ _. []) (parts 32 c.args.text.now) c.cut_at.result.0.now (codes "all") (parts_of 32 c.cut_at.result.1) ([]) c.in_err-nothing-in-Records.field-0.0 c.cut_at.ensures.first same all_form (c.in_err-nothing-in-Records.ensures c.args.limit))

pub returns-in_err-units-in-Cut : goal.returns-in_err-units-in-Cut
returns-in_err-units-in-Cut c =
    let p = err_from_is_err_and c.from_residual-in_err-units-in-Cut.result c.from_residual-in_err-units-in-Cut.ensures.1 in
    let same = c.in-Some.ensures ∙ ap command_word c.in-Cut.is in
    rw (p.1, p.2) (refused_row {T = ℕ} log_forms row_of c.args.limit (λ n. number n ∷ []) (parts 32 c.args.text.now) c.cut_at.result.0.now (codes "cut") (parts_of 32 c.cut_at.result.1) (below UNITS_END ∷ []) c.in_err-units-in-Cut.field-0.0 c.cut_at.ensures.first same cut_form (c.in_err-units-in-Cut.ensures c.args.limit))

pub returns-in_err-nothing-in-Uncut : goal.returns-in_err-nothing-in-Uncut
returns-in_err-nothing-in-Uncut c =
    let p = err_from_is_err_and c.from_residual-in_err-nothing-in-Uncut.result c.from_residual-in_err-nothing-in-Uncut.ensures.1 in
    let same = c.in-Some.ensures ∙ ap command_word c.in-Uncut.is in
    rw (p.1, p.2) (refused_row {T = Unit {0}} log_forms row_of c.args.limit (λ _. []) (parts 32 c.args.text.now) c.cut_at.result.0.now (codes "uncut") (parts_of 32 c.cut_at.result.1) ([]) c.in_err-nothing-in-Uncut.field-0.0 c.cut_at.ensures.first same uncut_form (c.in_err-nothing-in-Uncut.ensures c.args.limit))

pub returns-in_err-nothing-in-Mount : goal.returns-in_err-nothing-in-Mount
returns-in_err-nothing-in-Mount c =
    let p = err_from_is_err_and c.from_residual-in_err-nothing-in-Mount.result c.from_residual-in_err-nothing-in-Mount.ensures.1 in
    let same = c.in-Some.ensures ∙ ap command_word c.in-Mount.is in
    rw (p.1, p.2) (refused_row {T = Unit {0}} log_forms row_of c.args.limit (λ _. []) (parts 32 c.args.text.now) c.cut_at.result.0.now (codes "mount") (parts_of 32 c.cut_at.result.1) ([]) c.in_err-nothing-in-Mount.field-0.0 c.cut_at.ensures.first same mount_form (c.in_err-nothing-in-Mount.ensures c.args.limit))

pub returns-in_ok-body-in-Put : goal.returns-in_ok-body-in-Put
returns-in_ok-body-in-Put c =
    let same = c.in-Some.ensures ∙ ap command_word c.in-Put.is in
    spelled log_forms c.args.limit (parts 32 c.args.text.now) c.cut_at.result.0.now (codes "put") (parts_of 32 c.cut_at.result.1) (some_bytes ∷ []) (bytes c.in_ok-body-in-Put.body ∷ []) c.cut_at.ensures.first same put_form.there c.in_ok-body-in-Put.ensures

pub returns-in_ok-nothing-in-Records : goal.returns-in_ok-nothing-in-Records
returns-in_ok-nothing-in-Records c =
    let same = c.in-Some.ensures ∙ ap command_word c.in-Records.is in
    spelled log_forms c.args.limit (parts 32 c.args.text.now) c.cut_at.result.0.now (codes "all") (parts_of 32 c.cut_at.result.1) ([]) [] c.cut_at.ensures.first same all_form.there (c.in_ok-nothing-in-Records.ensures c.args.limit)

pub returns-in_ok-units-in-Cut : goal.returns-in_ok-units-in-Cut
returns-in_ok-units-in-Cut c =
    let same = c.in-Some.ensures ∙ ap command_word c.in-Cut.is in
    spelled log_forms c.args.limit (parts 32 c.args.text.now) c.cut_at.result.0.now (codes "cut") (parts_of 32 c.cut_at.result.1) (below UNITS_END ∷ []) (number c.in_ok-units-in-Cut.units ∷ []) c.cut_at.ensures.first same cut_form.there (c.in_ok-units-in-Cut.ensures c.args.limit)

pub returns-in_ok-nothing-in-Uncut : goal.returns-in_ok-nothing-in-Uncut
returns-in_ok-nothing-in-Uncut c =
    let same = c.in-Some.ensures ∙ ap command_word c.in-Uncut.is in
    spelled log_forms c.args.limit (parts 32 c.args.text.now) c.cut_at.result.0.now (codes "uncut") (parts_of 32 c.cut_at.result.1) ([]) [] c.cut_at.ensures.first same uncut_form.there (c.in_ok-nothing-in-Uncut.ensures c.args.limit)

pub returns-in_ok-nothing-in-Mount : goal.returns-in_ok-nothing-in-Mount
returns-in_ok-nothing-in-Mount c =
    let same = c.in-Some.ensures ∙ ap command_word c.in-Mount.is in
    spelled log_forms c.args.limit (parts 32 c.args.text.now) c.cut_at.result.0.now (codes "mount") (parts_of 32 c.cut_at.result.1) ([]) [] c.cut_at.ensures.first same mount_form.there (c.in_ok-nothing-in-Mount.ensures c.args.limit)
