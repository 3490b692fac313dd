-- The forms of each first word of the settings table.
use Rattle.std.proofs.Common.{◌==◌, cond, Some, None, [], ◌∷◌, codes, refl, ◌∙◌, arith}
use Rattle.script_lines.specs.declared.line.TheConstants.{UNITS_END}
use Rattle.script_lines.specs.Forms.{Form, form}
use Rattle.script_lines.specs.Forms.Field.{a_name, a_kind, some_bytes, any_bytes, below}
use Rattle.script_lines.specs.declared.reading.Alone.{Alone}
use Rattle.script_lines.specs.declared.reading.Alone.TheVariants as alones
use Rattle.script_lines.specs.declared.reading.OfName.{OfName}
use Rattle.script_lines.specs.declared.reading.OfName.TheVariants as names
use Rattle.script_lines.specs.declared.reading.OfSubtree.{OfSubtree}
use Rattle.script_lines.specs.declared.reading.OfSubtree.TheVariants as subtrees
use Rattle.script_lines.specs.Line.{settings_forms, alone_word, name_word, subtree_word}
use Rattle.script_lines.proofs.FormLemmas.{not_at, IsOnlyForm, IsMaybeName}

pub set_form : IsOnlyForm settings_forms (codes "set") (a_name ∷ any_bytes ∷ [])
set_form = record { has = refl; there = refl; others = λ n differs. not_at 2 n (form (codes "set") (a_name ∷ any_bytes ∷ [])) None differs }

get_form : IsOnlyForm settings_forms (codes "get") (a_name ∷ [])
get_form = record { has = refl; there = refl; others = λ n differs. not_at 1 n (form (codes "get") (a_name ∷ [])) None differs }

del_form : IsOnlyForm settings_forms (codes "del") (a_name ∷ [])
del_form = record { has = refl; there = refl; others = λ n differs. not_at 1 n (form (codes "del") (a_name ∷ [])) None differs }

pub register_form : IsOnlyForm settings_forms (codes "register") (a_name ∷ a_kind ∷ [])
register_form = record { has = refl; there = refl; others = λ n differs. not_at 2 n (form (codes "register") (a_name ∷ a_kind ∷ [])) None differs }

load_form : IsMaybeName settings_forms (codes "load")
load_form = record {
  has = refl;
  alone = refl;
  before = refl;
  others = λ n more. let second : Form = form (codes "load") (a_name ∷ []) in not_at 0 n (form (codes "load") []) (cond (1 == n) (Some second) None) (λ e. omega arith) ∙ not_at 1 n second None (λ e. omega arith);
}

direct_form : IsMaybeName settings_forms (codes "direct")
direct_form = record {
  has = refl;
  alone = refl;
  before = refl;
  others = λ n more. let second : Form = form (codes "direct") (a_name ∷ []) in not_at 0 n (form (codes "direct") []) (cond (1 == n) (Some second) None) (λ e. omega arith) ∙ not_at 1 n second None (λ e. omega arith);
}

save_form : IsMaybeName settings_forms (codes "save")
save_form = record {
  has = refl;
  alone = refl;
  before = refl;
  others = λ n more. let second : Form = form (codes "save") (a_name ∷ []) in not_at 0 n (form (codes "save") []) (cond (1 == n) (Some second) None) (λ e. omega arith) ∙ not_at 1 n second None (λ e. omega arith);
}

commit_form : IsOnlyForm settings_forms (codes "commit") ([])
commit_form = record { has = refl; there = refl; others = λ n differs. not_at 0 n (form (codes "commit") ([])) None differs }

pub rset_form : IsOnlyForm settings_forms (codes "rset") (a_name ∷ some_bytes ∷ [])
rset_form = record { has = refl; there = refl; others = λ n differs. not_at 2 n (form (codes "rset") (a_name ∷ some_bytes ∷ [])) None differs }

rget_form : IsOnlyForm settings_forms (codes "rget") (a_name ∷ [])
rget_form = record { has = refl; there = refl; others = λ n differs. not_at 1 n (form (codes "rget") (a_name ∷ [])) None differs }

names_form : IsOnlyForm settings_forms (codes "names") ([])
names_form = record { has = refl; there = refl; others = λ n differs. not_at 0 n (form (codes "names") ([])) None differs }

mount_form : IsOnlyForm settings_forms (codes "mount") ([])
mount_form = record { has = refl; there = refl; others = λ n differs. not_at 0 n (form (codes "mount") ([])) None differs }

pub cut_form : IsOnlyForm settings_forms (codes "cut") (below UNITS_END ∷ [])
cut_form = record { has = refl; there = refl; others = λ n differs. not_at 1 n (form (codes "cut") (below UNITS_END ∷ [])) None differs }

uncut_form : IsOnlyForm settings_forms (codes "uncut") ([])
uncut_form = record { has = refl; there = refl; others = λ n differs. not_at 0 n (form (codes "uncut") ([])) None differs }

migrate_form : IsOnlyForm settings_forms (codes "migrate") ([])
migrate_form = record { has = refl; there = refl; others = λ n differs. not_at 0 n (form (codes "migrate") ([])) None differs }

pub alone_form : (word : Alone) → IsOnlyForm settings_forms (alone_word word) []
alone_form alones.Commit = commit_form
alone_form alones.Names = names_form
alone_form alones.Mount = mount_form
alone_form alones.Uncut = uncut_form
alone_form alones.Migrate = migrate_form

pub name_form : (word : OfName) → IsOnlyForm settings_forms (name_word word) (a_name ∷ [])
name_form names.Get = get_form
name_form names.Del = del_form
name_form names.RunGet = rget_form

pub subtree_form : (word : OfSubtree) → IsMaybeName settings_forms (subtree_word word)
subtree_form subtrees.Load = load_form
subtree_form subtrees.Direct = direct_form
subtree_form subtrees.Save = save_form
