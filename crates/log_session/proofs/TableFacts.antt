-- The form of each first word of the table.
use Rattle.std.proofs.Common.{None, [], ◌∷◌, codes, refl}
use Rattle.script_lines.specs.Forms.Field.{some_bytes, below}
use Rattle.script_lines.specs.Forms.{form}
use Rattle.script_lines.specs.declared.line.TheConstants.{UNITS_END}
use Rattle.script_lines.proofs.FormLemmas.{not_at, IsOnlyForm}
use Rattle.log_session.specs.Line.{log_forms}

pub put_form : IsOnlyForm log_forms (codes "put") (some_bytes ∷ [])
put_form = record { has = refl; there = refl; others = λ n differs. not_at 1 n (form (codes "put") (some_bytes ∷ [])) None differs }

pub all_form : IsOnlyForm log_forms (codes "all") ([])
all_form = record { has = refl; there = refl; others = λ n differs. not_at 0 n (form (codes "all") ([])) None differs }

pub cut_form : IsOnlyForm log_forms (codes "cut") (below UNITS_END ∷ [])
cut_form = record { has = refl; there = refl; others = λ n differs. not_at 1 n (form (codes "cut") (below UNITS_END ∷ [])) None differs }

pub uncut_form : IsOnlyForm log_forms (codes "uncut") ([])
uncut_form = record { has = refl; there = refl; others = λ n differs. not_at 0 n (form (codes "uncut") ([])) None differs }

pub mount_form : IsOnlyForm log_forms (codes "mount") ([])
mount_form = record { has = refl; there = refl; others = λ n differs. not_at 0 n (form (codes "mount") ([])) None differs }
