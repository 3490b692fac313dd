-- A tree of owned texts as a finite map.
use Rattle.std.proofs.Common.{◌≡◌, ◌^◌, ◌<◌, arith, ℕ, zero, suc, length, List, [], ◌∷◌, Bool, true, false, cond, refl, sym, ap, subst, ◌∙◌, map, Some}
use Rattle.std.proofs.lemmas.List.{length-map}
use Rattle.std.specs.Prelude.{T, slice_get, option_map}
use Rattle.std.specs.FinMap.{entries, empty, insert, get, is_sorted, put, find, entries-from_sorted, entries-insert, get-from_sorted, same_entries_map, len-entries, empty_of_len}
use Rattle.std.specs.FinMap.Entries.{is_sorted-put, by_order}
use Rattle.std.specs.Ordering.{nat_cmp, match_ordering, eq_by_cmp}
use Rattle.std.specs.declared.cmp.Ordering.{Ordering}
use Rattle.std.specs.declared.cmp.Ordering.TheVariants.{Less, Equal, Greater}
use Rattle.std.specs.Cmp.Lexicographic.{slice_cmp, nat_list_cmp_total}
use Rattle.std.specs.BTreeMap.{BTreeMap, insert_entry, get_by, is_at}
use Rattle.std.specs.Map.{lookup}
use Rattle.std.specs.declared.vec.Vec.{Vec}
use Rattle.handlers.specs.Pairs.{Held, texts_of, held_of, IsHeld}

module _ {A : Type 0} where
  -- a pair put among others
  texts-insert_entry : (es : List (Vec ℕ A × Vec ℕ A)) (k v : Vec ℕ A) → map texts_of (insert_entry (λ x y. slice_cmp nat_cmp x.items y.items) es k v) ≡ put (slice_cmp nat_cmp) k.items v.items (map texts_of es)
  texts-insert_entry [] k v = refl
  texts-insert_entry (e ∷ es) k v = at (slice_cmp nat_cmp k.items e.0.items) (texts-insert_entry es k v)
    where
      at : (r : Ordering) → map texts_of (insert_entry (λ x y. slice_cmp nat_cmp x.items y.items) es k v) ≡ put (slice_cmp nat_cmp) k.items v.items (map texts_of es)
          → map texts_of (match_ordering r ((k, v) ∷ e ∷ es) ((e.0, v) ∷ es) (e ∷ insert_entry (λ x y. slice_cmp nat_cmp x.items y.items) es k v))
          ≡ by_order r (texts_of (k, v) ∷ texts_of e ∷ map texts_of es) ((e.0.items, v.items) ∷ map texts_of es) (texts_of e ∷ put (slice_cmp nat_cmp) k.items v.items (map texts_of es))
      at Less rest = refl
      at Equal rest = refl
      at Greater rest = ap (λ l. texts_of e ∷ l) rest

  entries-held : (tree : BTreeMap (Vec ℕ A) (Vec ℕ A)) → IsHeld tree → entries (held_of tree) ≡ map texts_of tree.entries
  entries-held tree held = entries-from_sorted (slice_cmp nat_cmp) (map texts_of tree.entries) held

  pub held-put : (old new : BTreeMap (Vec ℕ A) (Vec ℕ A)) (k v : Vec ℕ A) → new.entries ≡ insert_entry (λ x y. slice_cmp nat_cmp x.items y.items) old.entries k v → IsHeld old → IsHeld new
  held-put old new k v is held =
      subst (λ es. T (is_sorted (slice_cmp nat_cmp) es)) (sym (ap (map texts_of) is ∙ texts-insert_entry old.entries k v)) (is_sorted-put (slice_cmp nat_cmp) nat_list_cmp_total k.items v.items (map texts_of old.entries) held)

  pub put-held : (old new : BTreeMap (Vec ℕ A) (Vec ℕ A)) (k v : Vec ℕ A) → new.entries ≡ insert_entry (λ x y. slice_cmp nat_cmp x.items y.items) old.entries k v → IsHeld old → held_of new ≡ insert (held_of old) k.items v.items
  put-held old new k v is held =
      same_entries_map (held_of new) (insert (held_of old) k.items v.items)
      (entries-held new (held-put old new k v is held) ∙ ap (map texts_of) is ∙ texts-insert_entry old.entries k v
      ∙ ap (put (slice_cmp nat_cmp) k.items v.items) (sym (entries-held old held)) ∙ sym (entries-insert nat_list_cmp_total (held_of old) k.items v.items))

  find-texts : (es : List (Vec ℕ A × Vec ℕ A)) (q : List ℕ) → find (slice_cmp nat_cmp) q (map texts_of es) ≡ option_map (λ v. v.items) (lookup (is_at (λ k. slice_cmp nat_cmp q k.items)) es)
  find-texts [] q = refl
  find-texts (e ∷ es) q = ap (cond (eq_by_cmp (slice_cmp nat_cmp) q e.0.items) (Some e.1.items)) (find-texts es q) ∙ at (eq_by_cmp (slice_cmp nat_cmp) q e.0.items)
    where
      at : (b : Bool) → cond b (Some e.1.items) (option_map (λ v. v.items) (lookup (is_at (λ k. slice_cmp nat_cmp q k.items)) es)) ≡ option_map (λ v. v.items) (cond b (Some e.1) (lookup (is_at (λ k. slice_cmp nat_cmp q k.items)) es))
      at true = refl
      at false = refl

  pub get-held : (tree : BTreeMap (Vec ℕ A) (Vec ℕ A)) (q : List ℕ) → IsHeld tree → get (held_of tree) q ≡ option_map (λ v. v.items) (get_by (λ k. slice_cmp nat_cmp q k.items) tree)
  get-held tree q held = get-from_sorted (slice_cmp nat_cmp) (map texts_of tree.entries) q held ∙ find-texts tree.entries q

  slice_get-texts : (es : List (Vec ℕ A × Vec ℕ A)) (i : ℕ) → slice_get (map texts_of es) i ≡ option_map texts_of (slice_get es i)
  slice_get-texts [] i = refl
  slice_get-texts (e ∷ es) zero = refl
  slice_get-texts (e ∷ es) (suc i) = slice_get-texts es i

  pub at-held : (tree : BTreeMap (Vec ℕ A) (Vec ℕ A)) (i : ℕ) → IsHeld tree → slice_get (entries (held_of tree)) i ≡ option_map texts_of (slice_get tree.entries i)
  at-held tree i held = ap (λ es. slice_get es i) (entries-held tree held) ∙ slice_get-texts tree.entries i

  pub none-held : (tree : BTreeMap (Vec ℕ A) (Vec ℕ A)) → tree.entries ≡ [] → IsHeld tree
  none-held tree none = subst (λ es. T (is_sorted (slice_cmp nat_cmp) (map texts_of es))) (sym none) tt

  pub held-none : (tree : BTreeMap (Vec ℕ A) (Vec ℕ A)) → tree.entries ≡ [] → held_of tree ≡ empty
  held-none tree none = empty_of_len (held_of tree) (len-entries (held_of tree) ∙ ap length (entries-held tree (none-held tree none) ∙ ap (map texts_of) none))

  pub few-held : (tree : BTreeMap (Vec ℕ A) (Vec ℕ A)) (held : Held) → IsHeld tree → held_of tree ≡ held → length tree.entries < 2 ^ 64 → length (entries held) < 2 ^ 64
  few-held tree held is same few = subst (λ (m : Held). length (entries m) < 2 ^ 64) same (omega (arith, few, ap length (entries-held tree is), length-map tree.entries texts_of))
