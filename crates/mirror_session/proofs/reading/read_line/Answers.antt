-- For each command, where its words are refused, and where they are the line.
use Rattle.std.proofs.Common.{ℕ, List, [], ◌∷◌, codes, ◌∙◌, ap}
use Rattle.std.proofs.lemmas.Result.{err_from_is_err_and}
use Rattle.text_parts.specs.Parts.{parts, parts_of}
use Rattle.script_lines.specs.declared.line.TheConstants.{UNITS_END}
use Rattle.script_lines.specs.Forms.Field.{a_name, a_label, any_bytes, below}
use Rattle.script_lines.specs.Forms.Said.{name, label, bytes, number}
use Rattle.script_lines.proofs.FormLemmas.{spelled, refused_row}
use Rattle.mirror_session.specs.Line.{mirror_forms, row_of, command_word}
use Rattle.mirror_session.proofs.TableFacts.{set_form, get_form, del_form, names_form, mount_form, cut_form, uncut_form, blank_form}
use Rattle.mirror_session.proofs.reading.read_line.Goals as goal

pub returns-in_err-name-in-Set : goal.returns-in_err-name-in-Set
returns-in_err-name-in-Set c =
    let p = err_from_is_err_and c.from_residual.result c.from_residual.ensures.1 in
    let same = c.in-Some.ensures ∙ ap command_word c.in-Set.is in
    rw (p.1, p.2) (refused_row {T = List ℕ × List ℕ} mirror_forms row_of c.args.limit (λ said. name said.0 ∷ bytes said.1 ∷ []) (parts 32 c.args.text.now) c.cut_at.result.0.now (codes "set") (parts_of 32 c.cut_at.result.1) (a_name ∷ any_bytes ∷ []) c.in_err-name-in-Set.field-0.0 c.cut_at.ensures.first same set_form c.in_err-name-in-Set.ensures)

pub returns-in_err-name-in-Get : goal.returns-in_err-name-in-Get
returns-in_err-name-in-Get c =
    let p = err_from_is_err_and c.from_residual-in_err-name-in-Get.result c.from_residual-in_err-name-in-Get.ensures.1 in
    let same = c.in-Some.ensures ∙ ap command_word c.in-Get.is in
    rw (p.1, p.2) (refused_row {T = List ℕ} mirror_forms row_of c.args.limit (λ text. name text ∷ []) (parts 32 c.args.text.now) c.cut_at.result.0.now (codes "get") (parts_of 32 c.cut_at.result.1) (a_name ∷ []) c.in_err-name-in-Get.field-0.0 c.cut_at.ensures.first same get_form (c.in_err-name-in-Get.ensures c.args.limit))

pub returns-in_err-name-in-Del : goal.returns-in_err-name-in-Del
returns-in_err-name-in-Del c =
    let p = err_from_is_err_and c.from_residual-in_err-name-in-Del.result c.from_residual-in_err-name-in-Del.ensures.1 in
    let same = c.in-Some.ensures ∙ ap command_word c.in-Del.is in
    rw (p.1, p.2) (refused_row {T = List ℕ} mirror_forms row_of c.args.limit (λ text. name text ∷ []) (parts 32 c.args.text.now) c.cut_at.result.0.now (codes "del") (parts_of 32 c.cut_at.result.1) (a_name ∷ []) c.in_err-name-in-Del.field-0.0 c.cut_at.ensures.first same del_form (c.in_err-name-in-Del.ensures c.args.limit))

pub returns-in_err-nothing-in-Names : goal.returns-in_err-nothing-in-Names
returns-in_err-nothing-in-Names c =
    let p = err_from_is_err_and c.from_residual-in_err-nothing-in-Names.result c.from_residual-in_err-nothing-in-Names.ensures.1 in
    let same = c.in-Some.ensures ∙ ap command_word c.in-Names.is in
    rw (p.1, p.2) (refused_row {T = Unit {0}} mirror_forms row_of c.args.limit (λ _. []) (parts 32 c.args.text.now) c.cut_at.result.0.now (codes "names") (parts_of 32 c.cut_at.result.1) [] c.in_err-nothing-in-Names.field-0.0 c.cut_at.ensures.first same names_form (c.in_err-nothing-in-Names.ensures c.args.limit))

pub returns-in_err-nothing-in-Mount : goal.returns-in_err-nothing-in-Mount
returns-in_err-nothing-in-Mount c =
    let p = err_from_is_err_and c.from_residual-in_err-nothing-in-Mount.result c.from_residual-in_err-nothing-in-Mount.ensures.1 in
    let same = c.in-Some.ensures ∙ ap command_word c.in-Mount.is in
    rw (p.1, p.2) (refused_row {T = Unit {0}} mirror_forms row_of c.args.limit (λ _. []) (parts 32 c.args.text.now) c.cut_at.result.0.now (codes "mount") (parts_of 32 c.cut_at.result.1) [] c.in_err-nothing-in-Mount.field-0.0 c.cut_at.ensures.first same mount_form (c.in_err-nothing-in-Mount.ensures c.args.limit))

pub returns-in_err-units-in-Cut : goal.returns-in_err-units-in-Cut
returns-in_err-units-in-Cut c =
    let p = err_from_is_err_and c.from_residual-in_err-units-in-Cut.result c.from_residual-in_err-units-in-Cut.ensures.1 in
    let same = c.in-Some.ensures ∙ ap command_word c.in-Cut.is in
    rw (p.1, p.2) (refused_row {T = ℕ} mirror_forms row_of c.args.limit (λ n. number n ∷ []) (parts 32 c.args.text.now) c.cut_at.result.0.now (codes "cut") (parts_of 32 c.cut_at.result.1) (below UNITS_END ∷ []) c.in_err-units-in-Cut.field-0.0 c.cut_at.ensures.first same cut_form (c.in_err-units-in-Cut.ensures c.args.limit))

pub returns-in_err-nothing-in-Uncut : goal.returns-in_err-nothing-in-Uncut
returns-in_err-nothing-in-Uncut c =
    let p = err_from_is_err_and c.from_residual-in_err-nothing-in-Uncut.result c.from_residual-in_err-nothing-in-Uncut.ensures.1 in
    let same = c.in-Some.ensures ∙ ap command_word c.in-Uncut.is in
    rw (p.1, p.2) (refused_row {T = Unit {0}} mirror_forms row_of c.args.limit (λ _. []) (parts 32 c.args.text.now) c.cut_at.result.0.now (codes "uncut") (parts_of 32 c.cut_at.result.1) [] c.in_err-nothing-in-Uncut.field-0.0 c.cut_at.ensures.first same uncut_form (c.in_err-nothing-in-Uncut.ensures c.args.limit))

pub returns-in_err-label-in-Blank : goal.returns-in_err-label-in-Blank
returns-in_err-label-in-Blank c =
    let p = err_from_is_err_and c.from_residual-in_err-label-in-Blank.result c.from_residual-in_err-label-in-Blank.ensures.1 in
    let same = c.in-Some.ensures ∙ ap command_word c.in-Blank.is in
    rw (p.1, p.2) (refused_row {T = List ℕ} mirror_forms row_of c.args.limit (λ text. label text ∷ []) (parts 32 c.args.text.now) c.cut_at.result.0.now (codes "blank") (parts_of 32 c.cut_at.result.1) (a_label ∷ []) c.in_err-label-in-Blank.field-0.0 c.cut_at.ensures.first same blank_form (c.in_err-label-in-Blank.ensures c.args.limit))

pub returns-in_ok-name-in-Set : goal.returns-in_ok-name-in-Set
returns-in_ok-name-in-Set c =
    let same = c.in-Some.ensures ∙ ap command_word c.in-Set.is in
    spelled mirror_forms c.args.limit (parts 32 c.args.text.now) c.cut_at.result.0.now (codes "set") (parts_of 32 c.cut_at.result.1) (a_name ∷ any_bytes ∷ []) (name c.in_ok-name-in-Set.name ∷ bytes c.in_ok-name-in-Set.value ∷ []) c.cut_at.ensures.first same set_form.there c.in_ok-name-in-Set.ensures

pub returns-in_ok-name-in-Get : goal.returns-in_ok-name-in-Get
returns-in_ok-name-in-Get c =
    let same = c.in-Some.ensures ∙ ap command_word c.in-Get.is in
    spelled mirror_forms c.args.limit (parts 32 c.args.text.now) c.cut_at.result.0.now (codes "get") (parts_of 32 c.cut_at.result.1) (a_name ∷ []) (name c.in_ok-name-in-Get.name ∷ []) c.cut_at.ensures.first same get_form.there (c.in_ok-name-in-Get.ensures c.args.limit)

pub returns-in_ok-name-in-Del : goal.returns-in_ok-name-in-Del
returns-in_ok-name-in-Del c =
    let same = c.in-Some.ensures ∙ ap command_word c.in-Del.is in
    spelled mirror_forms c.args.limit (parts 32 c.args.text.now) c.cut_at.result.0.now (codes "del") (parts_of 32 c.cut_at.result.1) (a_name ∷ []) (name c.in_ok-name-in-Del.name ∷ []) c.cut_at.ensures.first same del_form.there (c.in_ok-name-in-Del.ensures c.args.limit)

pub returns-in_ok-nothing-in-Names : goal.returns-in_ok-nothing-in-Names
returns-in_ok-nothing-in-Names c =
    let same = c.in-Some.ensures ∙ ap command_word c.in-Names.is in
    spelled mirror_forms c.args.limit (parts 32 c.args.text.now) c.cut_at.result.0.now (codes "names") (parts_of 32 c.cut_at.result.1) [] [] c.cut_at.ensures.first same names_form.there (c.in_ok-nothing-in-Names.ensures c.args.limit)

pub returns-in_ok-nothing-in-Mount : goal.returns-in_ok-nothing-in-Mount
returns-in_ok-nothing-in-Mount c =
    let same = c.in-Some.ensures ∙ ap command_word c.in-Mount.is in
    spelled mirror_forms c.args.limit (parts 32 c.args.text.now) c.cut_at.result.0.now (codes "mount") (parts_of 32 c.cut_at.result.1) [] [] c.cut_at.ensures.first same mount_form.there (c.in_ok-nothing-in-Mount.ensures c.args.limit)

pub returns-in_ok-units-in-Cut : goal.returns-in_ok-units-in-Cut
returns-in_ok-units-in-Cut c =
    let same = c.in-Some.ensures ∙ ap command_word c.in-Cut.is in
    spelled mirror_forms c.args.limit (parts 32 c.args.text.now) c.cut_at.result.0.now (codes "cut") (parts_of 32 c.cut_at.result.1) (below UNITS_END ∷ []) (number c.in_ok-units-in-Cut.units ∷ []) c.cut_at.ensures.first same cut_form.there (c.in_ok-units-in-Cut.ensures c.args.limit)

pub returns-in_ok-nothing-in-Uncut : goal.returns-in_ok-nothing-in-Uncut
returns-in_ok-nothing-in-Uncut c =
    let same = c.in-Some.ensures ∙ ap command_word c.in-Uncut.is in
    spelled mirror_forms c.args.limit (parts 32 c.args.text.now) c.cut_at.result.0.now (codes "uncut") (parts_of 32 c.cut_at.result.1) [] [] c.cut_at.ensures.first same uncut_form.there (c.in_ok-nothing-in-Uncut.ensures c.args.limit)

pub returns-in_ok-label-in-Blank : goal.returns-in_ok-label-in-Blank
returns-in_ok-label-in-Blank c =
    let same = c.in-Some.ensures ∙ ap command_word c.in-Blank.is in
    spelled mirror_forms c.args.limit (parts 32 c.args.text.now) c.cut_at.result.0.now (codes "blank") (parts_of 32 c.cut_at.result.1) (a_label ∷ []) (label c.in_ok-label-in-Blank.label ∷ []) c.cut_at.ensures.first same blank_form.there (c.in_ok-label-in-Blank.ensures c.args.limit)
