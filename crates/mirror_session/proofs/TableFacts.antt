-- The form of each first word of the table.
use Rattle.std.proofs.Common.{None, [], ◌∷◌, codes, refl}
use Rattle.script_lines.specs.Forms.Field.{a_name, a_label, any_bytes, below}
use Rattle.script_lines.specs.Forms.{form}
use Rattle.script_lines.specs.declared.line.TheConstants.{UNITS_END}
use Rattle.script_lines.proofs.FormLemmas.{not_at, IsOnlyForm}
use Rattle.mirror_session.specs.Line.{mirror_forms}

pub set_form : IsOnlyForm mirror_forms (codes "set") (a_name ∷ any_bytes ∷ [])
set_form = record { has = refl; there = refl; others = λ n differs. not_at 2 n (form (codes "set") (a_name ∷ any_bytes ∷ [])) None differs }

pub get_form : IsOnlyForm mirror_forms (codes "get") (a_name ∷ [])
get_form = record { has = refl; there = refl; others = λ n differs. not_at 1 n (form (codes "get") (a_name ∷ [])) None differs }

pub del_form : IsOnlyForm mirror_forms (codes "del") (a_name ∷ [])
del_form = record { has = refl; there = refl; others = λ n differs. not_at 1 n (form (codes "del") (a_name ∷ [])) None differs }

pub names_form : IsOnlyForm mirror_forms (codes "names") []
names_form = record { has = refl; there = refl; others = λ n differs. not_at 0 n (form (codes "names") []) None differs }

pub mount_form : IsOnlyForm mirror_forms (codes "mount") []
mount_form = record { has = refl; there = refl; others = λ n differs. not_at 0 n (form (codes "mount") []) None differs }

pub cut_form : IsOnlyForm mirror_forms (codes "cut") (below UNITS_END ∷ [])
cut_form = record { has = refl; there = refl; others = λ n differs. not_at 1 n (form (codes "cut") (below UNITS_END ∷ [])) None differs }

pub uncut_form : IsOnlyForm mirror_forms (codes "uncut") []
uncut_form = record { has = refl; there = refl; others = λ n differs. not_at 0 n (form (codes "uncut") []) None differs }

pub blank_form : IsOnlyForm mirror_forms (codes "blank") (a_label ∷ [])
blank_form = record { has = refl; there = refl; others = λ n differs. not_at 1 n (form (codes "blank") (a_label ∷ [])) None differs }
