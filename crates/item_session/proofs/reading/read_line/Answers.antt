-- For each command, where its words are refused, and where they are the line.
use Rattle.std.proofs.Common.{ℕ, List, [], ◌∷◌, codes, ◌∙◌, ap}
use Rattle.std.proofs.lemmas.Result.{err_from_is_err_and}
use Rattle.text_parts.specs.Parts.{parts, parts_of}
use Rattle.script_lines.specs.declared.line.TheConstants.{UNITS_END}
use Rattle.script_lines.specs.Forms.Field.{some_bytes, below}
use Rattle.script_lines.specs.Forms.Said.{bytes, number}
use Rattle.script_lines.proofs.FormLemmas.{spelled, refused_row}
use Rattle.item_session.specs.declared.line.TheConstants.{VERSIONS_END}
use Rattle.item_session.specs.Line.{item_forms, row_of, command_word}
use Rattle.item_session.proofs.TableFacts.{set_form, get_form, del_form, older_form, space_form, cut_form, uncut_form, mount_form}
use Rattle.item_session.proofs.reading.read_line.Goals as goal

pub returns-in_default : goal.returns-in_default
returns-in_default c = rw c.cut_at.ensures.first (c.in_default.ensures c.args.ids)

pub returns-in_err-id-in-Set : goal.returns-in_err-id-in-Set
returns-in_err-id-in-Set c =
    let p = err_from_is_err_and c.from_residual.result c.from_residual.ensures.1 in
    let same = c.in-Some.ensures ∙ ap command_word c.in-Set.is in
    rw (p.1, p.2) (refused_row {T = ℕ × List ℕ} (item_forms c.args.ids) row_of c.args.limit (λ said. number said.0 ∷ bytes said.1 ∷ []) (parts 32 c.args.text.now) c.cut_at.result.0.now (codes "set") (parts_of 32 c.cut_at.result.1) (below c.args.ids ∷ some_bytes ∷ []) c.in_err-id-in-Set.field-0.0 c.cut_at.ensures.first same (set_form c.args.ids) c.in_err-id-in-Set.ensures)

pub returns-in_err-id-in-Get : goal.returns-in_err-id-in-Get
returns-in_err-id-in-Get c =
    let p = err_from_is_err_and c.from_residual-in_err-id-in-Get.result c.from_residual-in_err-id-in-Get.ensures.1 in
    let same = c.in-Some.ensures ∙ ap command_word c.in-Get.is in
    rw (p.1, p.2) (refused_row {T = ℕ} (item_forms c.args.ids) row_of c.args.limit (λ id. number id ∷ []) (parts 32 c.args.text.now) c.cut_at.result.0.now (codes "get") (parts_of 32 c.cut_at.result.1) (below c.args.ids ∷ []) c.in_err-id-in-Get.field-0.0 c.cut_at.ensures.first same (get_form c.args.ids) (c.in_err-id-in-Get.ensures c.args.limit))

pub returns-in_err-id-in-Delete : goal.returns-in_err-id-in-Delete
returns-in_err-id-in-Delete c =
    let p = err_from_is_err_and c.from_residual-in_err-id-in-Delete.result c.from_residual-in_err-id-in-Delete.ensures.1 in
    let same = c.in-Some.ensures ∙ ap command_word c.in-Delete.is in
    rw (p.1, p.2) (refused_row {T = ℕ} (item_forms c.args.ids) row_of c.args.limit (λ id. number id ∷ []) (parts 32 c.args.text.now) c.cut_at.result.0.now (codes "del") (parts_of 32 c.cut_at.result.1) (below c.args.ids ∷ []) c.in_err-id-in-Delete.field-0.0 c.cut_at.ensures.first same (del_form c.args.ids) (c.in_err-id-in-Delete.ensures c.args.limit))

pub returns-in_err-id-in-Older : goal.returns-in_err-id-in-Older
returns-in_err-id-in-Older c =
    let p = err_from_is_err_and c.from_residual-in_err-id-in-Older.result c.from_residual-in_err-id-in-Older.ensures.1 in
    let same = c.in-Some.ensures ∙ ap command_word c.in-Older.is in
    rw (p.1, p.2) (refused_row {T = ℕ × ℕ} (item_forms c.args.ids) row_of c.args.limit (λ said. number said.0 ∷ number said.1 ∷ []) (parts 32 c.args.text.now) c.cut_at.result.0.now (codes "older") (parts_of 32 c.cut_at.result.1) (below c.args.ids ∷ below VERSIONS_END ∷ []) c.in_err-id-in-Older.field-0.0 c.cut_at.ensures.first same (older_form c.args.ids) (c.in_err-id-in-Older.ensures c.args.limit))

pub returns-in_err-nothing-in-Space : goal.returns-in_err-nothing-in-Space
returns-in_err-nothing-in-Space c =
    let p = err_from_is_err_and c.from_residual-in_err-nothing-in-Space.result c.from_residual-in_err-nothing-in-Space.ensures.1 in
    let same = c.in-Some.ensures ∙ ap command_word c.in-Space.is in
    rw (p.1, p.2) (refused_row {T = Unit {0}} (item_forms c.args.ids) row_of c.args.limit (λ _. []) (parts 32 c.args.text.now) c.cut_at.result.0.now (codes "space") (parts_of 32 c.cut_at.result.1) [] c.in_err-nothing-in-Space.field-0.0 c.cut_at.ensures.first same (space_form c.args.ids) (c.in_err-nothing-in-Space.ensures c.args.limit))

pub returns-in_err-units-in-Cut : goal.returns-in_err-units-in-Cut
returns-in_err-units-in-Cut c =
    let p = err_from_is_err_and c.from_residual-in_err-units-in-Cut.result c.from_residual-in_err-units-in-Cut.ensures.1 in
    let same = c.in-Some.ensures ∙ ap command_word c.in-Cut.is in
    rw (p.1, p.2) (refused_row {T = ℕ} (item_forms c.args.ids) row_of c.args.limit (λ n. number n ∷ []) (parts 32 c.args.text.now) c.cut_at.result.0.now (codes "cut") (parts_of 32 c.cut_at.result.1) (below UNITS_END ∷ []) c.in_err-units-in-Cut.field-0.0 c.cut_at.ensures.first same (cut_form c.args.ids) (c.in_err-units-in-Cut.ensures c.args.limit))

pub returns-in_err-nothing-in-Uncut : goal.returns-in_err-nothing-in-Uncut
returns-in_err-nothing-in-Uncut c =
    let p = err_from_is_err_and c.from_residual-in_err-nothing-in-Uncut.result c.from_residual-in_err-nothing-in-Uncut.ensures.1 in
    let same = c.in-Some.ensures ∙ ap command_word c.in-Uncut.is in
    rw (p.1, p.2) (refused_row {T = Unit {0}} (item_forms c.args.ids) row_of c.args.limit (λ _. []) (parts 32 c.args.text.now) c.cut_at.result.0.now (codes "uncut") (parts_of 32 c.cut_at.result.1) [] c.in_err-nothing-in-Uncut.field-0.0 c.cut_at.ensures.first same (uncut_form c.args.ids) (c.in_err-nothing-in-Uncut.ensures c.args.limit))

pub returns-in_err-nothing-in-Mount : goal.returns-in_err-nothing-in-Mount
returns-in_err-nothing-in-Mount c =
    let p = err_from_is_err_and c.from_residual-in_err-nothing-in-Mount.result c.from_residual-in_err-nothing-in-Mount.ensures.1 in
    let same = c.in-Some.ensures ∙ ap command_word c.in-Mount.is in
    rw (p.1, p.2) (refused_row {T = Unit {0}} (item_forms c.args.ids) row_of c.args.limit (λ _. []) (parts 32 c.args.text.now) c.cut_at.result.0.now (codes "mount") (parts_of 32 c.cut_at.result.1) [] c.in_err-nothing-in-Mount.field-0.0 c.cut_at.ensures.first same (mount_form c.args.ids) (c.in_err-nothing-in-Mount.ensures c.args.limit))

pub returns-in_ok-id-in-Set : goal.returns-in_ok-id-in-Set
returns-in_ok-id-in-Set c =
    let same = c.in-Some.ensures ∙ ap command_word c.in-Set.is in
    spelled (item_forms c.args.ids) c.args.limit (parts 32 c.args.text.now) c.cut_at.result.0.now (codes "set") (parts_of 32 c.cut_at.result.1) (below c.args.ids ∷ some_bytes ∷ []) (number c.in_ok-id-in-Set.id ∷ bytes c.in_ok-id-in-Set.value ∷ []) c.cut_at.ensures.first same (set_form c.args.ids).there c.in_ok-id-in-Set.ensures

pub returns-in_ok-id-in-Get : goal.returns-in_ok-id-in-Get
returns-in_ok-id-in-Get c =
    let same = c.in-Some.ensures ∙ ap command_word c.in-Get.is in
    spelled (item_forms c.args.ids) c.args.limit (parts 32 c.args.text.now) c.cut_at.result.0.now (codes "get") (parts_of 32 c.cut_at.result.1) (below c.args.ids ∷ []) (number c.in_ok-id-in-Get.id ∷ []) c.cut_at.ensures.first same (get_form c.args.ids).there (c.in_ok-id-in-Get.ensures c.args.limit)

pub returns-in_ok-id-in-Delete : goal.returns-in_ok-id-in-Delete
returns-in_ok-id-in-Delete c =
    let same = c.in-Some.ensures ∙ ap command_word c.in-Delete.is in
    spelled (item_forms c.args.ids) c.args.limit (parts 32 c.args.text.now) c.cut_at.result.0.now (codes "del") (parts_of 32 c.cut_at.result.1) (below c.args.ids ∷ []) (number c.in_ok-id-in-Delete.id ∷ []) c.cut_at.ensures.first same (del_form c.args.ids).there (c.in_ok-id-in-Delete.ensures c.args.limit)

pub returns-in_ok-id-in-Older : goal.returns-in_ok-id-in-Older
returns-in_ok-id-in-Older c =
    let same = c.in-Some.ensures ∙ ap command_word c.in-Older.is in
    spelled (item_forms c.args.ids) c.args.limit (parts 32 c.args.text.now) c.cut_at.result.0.now (codes "older") (parts_of 32 c.cut_at.result.1) (below c.args.ids ∷ below VERSIONS_END ∷ []) (number c.in_ok-id-in-Older.id ∷ number c.in_ok-id-in-Older.n ∷ []) c.cut_at.ensures.first same (older_form c.args.ids).there (c.in_ok-id-in-Older.ensures c.args.limit)

pub returns-in_ok-nothing-in-Space : goal.returns-in_ok-nothing-in-Space
returns-in_ok-nothing-in-Space c =
    let same = c.in-Some.ensures ∙ ap command_word c.in-Space.is in
    spelled (item_forms c.args.ids) c.args.limit (parts 32 c.args.text.now) c.cut_at.result.0.now (codes "space") (parts_of 32 c.cut_at.result.1) [] [] c.cut_at.ensures.first same (space_form c.args.ids).there (c.in_ok-nothing-in-Space.ensures c.args.limit)

pub returns-in_ok-units-in-Cut : goal.returns-in_ok-units-in-Cut
returns-in_ok-units-in-Cut c =
    let same = c.in-Some.ensures ∙ ap command_word c.in-Cut.is in
    spelled (item_forms c.args.ids) c.args.limit (parts 32 c.args.text.now) c.cut_at.result.0.now (codes "cut") (parts_of 32 c.cut_at.result.1) (below UNITS_END ∷ []) (number c.in_ok-units-in-Cut.units ∷ []) c.cut_at.ensures.first same (cut_form c.args.ids).there (c.in_ok-units-in-Cut.ensures c.args.limit)

pub returns-in_ok-nothing-in-Uncut : goal.returns-in_ok-nothing-in-Uncut
returns-in_ok-nothing-in-Uncut c =
    let same = c.in-Some.ensures ∙ ap command_word c.in-Uncut.is in
    spelled (item_forms c.args.ids) c.args.limit (parts 32 c.args.text.now) c.cut_at.result.0.now (codes "uncut") (parts_of 32 c.cut_at.result.1) [] [] c.cut_at.ensures.first same (uncut_form c.args.ids).there (c.in_ok-nothing-in-Uncut.ensures c.args.limit)

pub returns-in_ok-nothing-in-Mount : goal.returns-in_ok-nothing-in-Mount
returns-in_ok-nothing-in-Mount c =
    let same = c.in-Some.ensures ∙ ap command_word c.in-Mount.is in
    spelled (item_forms c.args.ids) c.args.limit (parts 32 c.args.text.now) c.cut_at.result.0.now (codes "mount") (parts_of 32 c.cut_at.result.1) [] [] c.cut_at.ensures.first same (mount_form c.args.ids).there (c.in_ok-nothing-in-Mount.ensures c.args.limit)
