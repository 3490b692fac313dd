-- The form of each first word of the table.
use Rattle.std.proofs.Common.{ℕ, None, [], ◌∷◌, codes, refl}
use Rattle.script_lines.specs.Forms.Field.{some_bytes, below}
use Rattle.script_lines.specs.Forms.{form}
use Rattle.script_lines.specs.declared.line.TheConstants.{UNITS_END}
use Rattle.script_lines.proofs.FormLemmas.{not_at, IsOnlyForm}
use Rattle.item_session.specs.declared.line.TheConstants.{VERSIONS_END}
use Rattle.item_session.specs.Line.{item_forms}

module _ (ids : ℕ) where
  pub set_form : IsOnlyForm (item_forms ids) (codes "set") (below ids ∷ some_bytes ∷ [])
  set_form = record { has = refl; there = refl; others = λ n differs. not_at 2 n (form (codes "set") (below ids ∷ some_bytes ∷ [])) None differs }

  pub get_form : IsOnlyForm (item_forms ids) (codes "get") (below ids ∷ [])
  get_form = record { has = refl; there = refl; others = λ n differs. not_at 1 n (form (codes "get") (below ids ∷ [])) None differs }

  pub del_form : IsOnlyForm (item_forms ids) (codes "del") (below ids ∷ [])
  del_form = record { has = refl; there = refl; others = λ n differs. not_at 1 n (form (codes "del") (below ids ∷ [])) None differs }

  pub older_form : IsOnlyForm (item_forms ids) (codes "older") (below ids ∷ below VERSIONS_END ∷ [])
  older_form = record { has = refl; there = refl; others = λ n differs. not_at 2 n (form (codes "older") (below ids ∷ below VERSIONS_END ∷ [])) None differs }

  pub space_form : IsOnlyForm (item_forms ids) (codes "space") []
  space_form = record { has = refl; there = refl; others = λ n differs. not_at 0 n (form (codes "space") []) None differs }

  pub cut_form : IsOnlyForm (item_forms ids) (codes "cut") (below UNITS_END ∷ [])
  cut_form = record { has = refl; there = refl; others = λ n differs. not_at 1 n (form (codes "cut") (below UNITS_END ∷ [])) None differs }

  pub uncut_form : IsOnlyForm (item_forms ids) (codes "uncut") []
  uncut_form = record { has = refl; there = refl; others = λ n differs. not_at 0 n (form (codes "uncut") []) None differs }

  pub mount_form : IsOnlyForm (item_forms ids) (codes "mount") []
  mount_form = record { has = refl; there = refl; others = λ n differs. not_at 0 n (form (codes "mount") []) None differs }
