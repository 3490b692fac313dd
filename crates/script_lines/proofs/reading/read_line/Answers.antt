-- For each first word, the line that the words behind it make.
use Rattle.std.proofs.Common.{◌≡◌, ℕ, false, Ok, Err, List, [], ◌∷◌, codes, refl, sym, subst, ◌∙◌}
use Rattle.std.specs.List.{list_any}
use Rattle.handlers.specs.declared.handler.HandlerKind.{HandlerKind}
use Rattle.text_parts.specs.Parts.{parts, parts_of}
use Rattle.script_lines.specs.declared.line.Line.TheVariants.{Set, Register, RunSet, Cut}
use Rattle.script_lines.specs.declared.line.TheConstants.{UNITS_END}
use Rattle.script_lines.specs.Line.{settings_forms}
use Rattle.script_lines.specs.Forms.{has_word}
use Rattle.script_lines.specs.Forms.Field.{a_name, a_kind, some_bytes, any_bytes, below}
use Rattle.script_lines.specs.Forms.Said.{name, kind, bytes, number}
use Rattle.script_lines.proofs.FirstWords.{DiffersFromEach, no_form, no_text}
use Rattle.script_lines.proofs.FormLemmas.{line_read, line_refused, behind_word, unknown_word}
use Rattle.script_lines.proofs.TableFacts.{set_form, register_form, rset_form, cut_form}
use Rattle.script_lines.proofs.reading.read_line.Goals as goal

pub returns-in-Ok-name_and_bytes_or_dash : goal.returns-in-Ok-name_and_bytes_or_dash
returns-in-Ok-name_and_bytes_or_dash c =
    behind_word c.args.limit (parts 32 c.args.text.now) c.cut_at.result.0.now (codes "set") (parts_of 32 c.cut_at.result.1) (Ok (Set c.in-Ok-name_and_bytes_or_dash.name c.in-Ok-name_and_bytes_or_dash.value)) c.cut_at.ensures.first (sym c.in-Ok.ensures.cases.0 ∙ c.in-set.is)
    (line_read c.args.limit (codes "set") (parts_of 32 c.cut_at.result.1) (a_name ∷ any_bytes ∷ []) (name c.in-Ok-name_and_bytes_or_dash.name ∷ bytes c.in-Ok-name_and_bytes_or_dash.value ∷ []) (Set c.in-Ok-name_and_bytes_or_dash.name c.in-Ok-name_and_bytes_or_dash.value) set_form refl c.in-Ok-name_and_bytes_or_dash.ensures)

pub returns-in-Err : goal.returns-in-Err
returns-in-Err c =
    behind_word c.args.limit (parts 32 c.args.text.now) c.cut_at.result.0.now (codes "set") (parts_of 32 c.cut_at.result.1) (Err c.in-Err.fault) c.cut_at.ensures.first (sym c.in-Ok.ensures.cases.0 ∙ c.in-set.is)
    (line_refused {T = List ℕ × List ℕ} c.args.limit (λ said. name said.0 ∷ bytes said.1 ∷ []) (codes "set") (parts_of 32 c.cut_at.result.1) (a_name ∷ any_bytes ∷ []) c.in-Err.fault set_form c.in-Err.ensures)

pub returns-in-get : goal.returns-in-get
returns-in-get c = behind_word c.args.limit (parts 32 c.args.text.now) c.cut_at.result.0.now (codes "get") (parts_of 32 c.cut_at.result.1) c.read_of_name.result c.cut_at.ensures.first (sym c.in-Ok.ensures.cases.0 ∙ c.in-get.is) (c.read_of_name.ensures c.args.limit)

pub returns-in-del : goal.returns-in-del
returns-in-del c = behind_word c.args.limit (parts 32 c.args.text.now) c.cut_at.result.0.now (codes "del") (parts_of 32 c.cut_at.result.1) c.read_of_name-in-del.result c.cut_at.ensures.first (sym c.in-Ok.ensures.cases.0 ∙ c.in-del.is) (c.read_of_name-in-del.ensures c.args.limit)

pub returns-in-Ok-name_and_kind : goal.returns-in-Ok-name_and_kind
returns-in-Ok-name_and_kind c =
    behind_word c.args.limit (parts 32 c.args.text.now) c.cut_at.result.0.now (codes "register") (parts_of 32 c.cut_at.result.1) (Ok (Register c.in-Ok-name_and_kind.subtree c.in-Ok-name_and_kind.kind)) c.cut_at.ensures.first (sym c.in-Ok.ensures.cases.0 ∙ c.in-register.is)
    (line_read c.args.limit (codes "register") (parts_of 32 c.cut_at.result.1) (a_name ∷ a_kind ∷ []) (name c.in-Ok-name_and_kind.subtree ∷ kind c.in-Ok-name_and_kind.kind ∷ []) (Register c.in-Ok-name_and_kind.subtree c.in-Ok-name_and_kind.kind) register_form refl (c.in-Ok-name_and_kind.ensures c.args.limit))

pub returns-in-Err-name_and_kind : goal.returns-in-Err-name_and_kind
returns-in-Err-name_and_kind c =
    behind_word c.args.limit (parts 32 c.args.text.now) c.cut_at.result.0.now (codes "register") (parts_of 32 c.cut_at.result.1) (Err c.in-Err-name_and_kind.fault) c.cut_at.ensures.first (sym c.in-Ok.ensures.cases.0 ∙ c.in-register.is)
    (line_refused {T = List ℕ × HandlerKind} c.args.limit (λ said. name said.0 ∷ kind said.1 ∷ []) (codes "register") (parts_of 32 c.cut_at.result.1) (a_name ∷ a_kind ∷ []) c.in-Err-name_and_kind.fault register_form (c.in-Err-name_and_kind.ensures c.args.limit))

pub returns-in-load : goal.returns-in-load
returns-in-load c = behind_word c.args.limit (parts 32 c.args.text.now) c.cut_at.result.0.now (codes "load") (parts_of 32 c.cut_at.result.1) c.read_of_subtree.result c.cut_at.ensures.first (sym c.in-Ok.ensures.cases.0 ∙ c.in-load.is) (c.read_of_subtree.ensures c.args.limit)

pub returns-in-direct : goal.returns-in-direct
returns-in-direct c = behind_word c.args.limit (parts 32 c.args.text.now) c.cut_at.result.0.now (codes "direct") (parts_of 32 c.cut_at.result.1) c.read_of_subtree-in-direct.result c.cut_at.ensures.first (sym c.in-Ok.ensures.cases.0 ∙ c.in-direct.is) (c.read_of_subtree-in-direct.ensures c.args.limit)

pub returns-in-save : goal.returns-in-save
returns-in-save c = behind_word c.args.limit (parts 32 c.args.text.now) c.cut_at.result.0.now (codes "save") (parts_of 32 c.cut_at.result.1) c.read_of_subtree-in-save.result c.cut_at.ensures.first (sym c.in-Ok.ensures.cases.0 ∙ c.in-save.is) (c.read_of_subtree-in-save.ensures c.args.limit)

pub returns-in-commit : goal.returns-in-commit
returns-in-commit c = behind_word c.args.limit (parts 32 c.args.text.now) c.cut_at.result.0.now (codes "commit") (parts_of 32 c.cut_at.result.1) c.read_alone.result c.cut_at.ensures.first (sym c.in-Ok.ensures.cases.0 ∙ c.in-commit.is) (c.read_alone.ensures c.args.limit)

pub returns-in-Ok-name_and_bytes : goal.returns-in-Ok-name_and_bytes
returns-in-Ok-name_and_bytes c =
    behind_word c.args.limit (parts 32 c.args.text.now) c.cut_at.result.0.now (codes "rset") (parts_of 32 c.cut_at.result.1) (Ok (RunSet c.in-Ok-name_and_bytes.name c.in-Ok-name_and_bytes.value)) c.cut_at.ensures.first (sym c.in-Ok.ensures.cases.0 ∙ c.in-rset.is)
    (line_read c.args.limit (codes "rset") (parts_of 32 c.cut_at.result.1) (a_name ∷ some_bytes ∷ []) (name c.in-Ok-name_and_bytes.name ∷ bytes c.in-Ok-name_and_bytes.value ∷ []) (RunSet c.in-Ok-name_and_bytes.name c.in-Ok-name_and_bytes.value) rset_form refl c.in-Ok-name_and_bytes.ensures)

pub returns-in-Err-name_and_bytes : goal.returns-in-Err-name_and_bytes
returns-in-Err-name_and_bytes c =
    behind_word c.args.limit (parts 32 c.args.text.now) c.cut_at.result.0.now (codes "rset") (parts_of 32 c.cut_at.result.1) (Err c.in-Err-name_and_bytes.fault) c.cut_at.ensures.first (sym c.in-Ok.ensures.cases.0 ∙ c.in-rset.is)
    (line_refused {T = List ℕ × List ℕ} c.args.limit (λ said. name said.0 ∷ bytes said.1 ∷ []) (codes "rset") (parts_of 32 c.cut_at.result.1) (a_name ∷ some_bytes ∷ []) c.in-Err-name_and_bytes.fault rset_form c.in-Err-name_and_bytes.ensures)

pub returns-in-rget : goal.returns-in-rget
returns-in-rget c = behind_word c.args.limit (parts 32 c.args.text.now) c.cut_at.result.0.now (codes "rget") (parts_of 32 c.cut_at.result.1) c.read_of_name-in-rget.result c.cut_at.ensures.first (sym c.in-Ok.ensures.cases.0 ∙ c.in-rget.is) (c.read_of_name-in-rget.ensures c.args.limit)

pub returns-in-names : goal.returns-in-names
returns-in-names c = behind_word c.args.limit (parts 32 c.args.text.now) c.cut_at.result.0.now (codes "names") (parts_of 32 c.cut_at.result.1) c.read_alone-in-names.result c.cut_at.ensures.first (sym c.in-Ok.ensures.cases.0 ∙ c.in-names.is) (c.read_alone-in-names.ensures c.args.limit)

pub returns-in-mount : goal.returns-in-mount
returns-in-mount c = behind_word c.args.limit (parts 32 c.args.text.now) c.cut_at.result.0.now (codes "mount") (parts_of 32 c.cut_at.result.1) c.read_alone-in-mount.result c.cut_at.ensures.first (sym c.in-Ok.ensures.cases.0 ∙ c.in-mount.is) (c.read_alone-in-mount.ensures c.args.limit)

pub returns-in-Ok-number_alone : goal.returns-in-Ok-number_alone
returns-in-Ok-number_alone c =
    behind_word c.args.limit (parts 32 c.args.text.now) c.cut_at.result.0.now (codes "cut") (parts_of 32 c.cut_at.result.1) (Ok (Cut c.in-Ok-number_alone.units)) c.cut_at.ensures.first (sym c.in-Ok.ensures.cases.0 ∙ c.in-cut.is)
    (line_read c.args.limit (codes "cut") (parts_of 32 c.cut_at.result.1) (below UNITS_END ∷ []) (number c.in-Ok-number_alone.units ∷ []) (Cut c.in-Ok-number_alone.units) cut_form refl (c.in-Ok-number_alone.ensures c.args.limit))

pub returns-in-Err-number_alone : goal.returns-in-Err-number_alone
returns-in-Err-number_alone c =
    behind_word c.args.limit (parts 32 c.args.text.now) c.cut_at.result.0.now (codes "cut") (parts_of 32 c.cut_at.result.1) (Err c.in-Err-number_alone.fault) c.cut_at.ensures.first (sym c.in-Ok.ensures.cases.0 ∙ c.in-cut.is)
    (line_refused {T = ℕ} c.args.limit (λ n. number n ∷ []) (codes "cut") (parts_of 32 c.cut_at.result.1) (below UNITS_END ∷ []) c.in-Err-number_alone.fault cut_form (c.in-Err-number_alone.ensures c.args.limit))

pub returns-in-uncut : goal.returns-in-uncut
returns-in-uncut c = behind_word c.args.limit (parts 32 c.args.text.now) c.cut_at.result.0.now (codes "uncut") (parts_of 32 c.cut_at.result.1) c.read_alone-in-uncut.result c.cut_at.ensures.first (sym c.in-Ok.ensures.cases.0 ∙ c.in-uncut.is) (c.read_alone-in-uncut.ensures c.args.limit)

pub returns-in-migrate : goal.returns-in-migrate
returns-in-migrate c = behind_word c.args.limit (parts 32 c.args.text.now) c.cut_at.result.0.now (codes "migrate") (parts_of 32 c.cut_at.result.1) c.read_alone-in-migrate.result c.cut_at.ensures.first (sym c.in-Ok.ensures.cases.0 ∙ c.in-migrate.is) (c.read_alone-in-migrate.ensures c.args.limit)

-- bytes that are no text are none of the words
pub returns-in_default : goal.returns-in_default
returns-in_default c =
    let none = no_text c.cut_at.result.0.now settings_forms c.in_default.ensures.cases.0 refl in
    unknown_word c.args.limit (parts 32 c.args.text.now) c.cut_at.result.0.now (parts_of 32 c.cut_at.result.1) c.cut_at.ensures.first none

-- a load, a direct load and a save stand in two forms
pub returns-in_default-word : goal.returns-in_default-word
returns-in_default-word c =
    let d = c.in_default-word in
    let others : DiffersFromEach c.in-Ok.word.now settings_forms = (d.not-set, (d.not-get, (d.not-del, (d.not-register, (d.not-load, (d.not-load, (d.not-direct, (d.not-direct, (d.not-save, (d.not-save, (d.not-commit, (d.not-rset, (d.not-rget, (d.not-names, (d.not-mount, (d.not-cut, (d.not-uncut, (d.not-migrate, tt)))))))))))))))))) in
    let none = subst (λ (word : List ℕ). list_any (has_word word) settings_forms ≡ false) c.in-Ok.ensures.cases.0 (no_form c.in-Ok.word.now settings_forms others) in
    unknown_word c.args.limit (parts 32 c.args.text.now) c.cut_at.result.0.now (parts_of 32 c.cut_at.result.1) c.cut_at.ensures.first none
