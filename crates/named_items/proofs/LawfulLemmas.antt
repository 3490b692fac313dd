-- The settings that items read as are lawful.
use Rattle.std.proofs.Common.{◌≡◌, ℕ, zero, suc, ◌+◌, ◌^◌, ◌<◌, ◌≤◌, Bool, true, false, cond, List, [], ◌∷◌, length, Option, Some, None, Ordering, Less, Equal, Greater, nat_cmp, refl, sym, subst, ◌∙◌, arith}
use Rattle.std.specs.Prelude.{All, nat_le, map}
use Rattle.std.specs.List.{cons_option}
use Rattle.std.specs.Cmp.Lexicographic.{slice_cmp, nat_list_cmp_total}
use Rattle.std.specs.FinMap as maps
use Rattle.std.specs.FinMap.Entries.{by_order}
use Rattle.std.proofs.lemmas.Bool.{and_parts}
use Rattle.std.proofs.lemmas.Bool.Decides.{nat_tests}
use Rattle.std.proofs.lemmas.List.Elements.{All-nil, All-cons, All-head, All-tail}
use Rattle.item_laws.specs.Items.{Items}
use Rattle.setting_name.specs.Name.{IsName, is_name}
use Rattle.setting_name.proofs.NameTest.{is_name-sound}
use Rattle.backend_api.specs.Map.{Map, IsValue, IsSettings}
use Rattle.named_items.specs.Numbering.{Numbering, IsNumbering}
use Rattle.named_items.specs.Pairs.{count_in, is_pair, pair_of, pair_at, settings_in}
use Rattle.named_items.proofs.RangePairs.{Pair, pairs_on}

module _ {K X : Type 0} (R : K → K → Ordering) where
  put-keys : (P : K → Type 0) (k : K) (v : X) (es : List (K × X)) → P k → All P (map (λ e. e.0) es) → All P (map (λ e. e.0) (maps.put R k v es))
  put-keys P k v [] here all = All-cons P k [] here (All-nil P)
  put-keys P k v (e ∷ es) here all =
      elim (R k e.0) as (λ (o : Ordering). All P (map (λ x. x.0) (by_order o ((k, v) ∷ e ∷ es) ((e.0, v) ∷ es) (e ∷ maps.put R k v es)))) [
        | Less ↦ All-cons P k (e.0 ∷ map (λ x. x.0) es) here all
        | Equal ↦ all
        | Greater ↦ All-cons P e.0 (map (λ x. x.0) (maps.put R k v es)) (All-head P e.0 (map (λ x. x.0) es) all) (put-keys P k v es here (All-tail P e.0 (map (λ x. x.0) es) all))
      ]

  put-values : (P : X → Type 0) (k : K) (v : X) (es : List (K × X)) → P v → All P (map (λ e. e.1) es) → All P (map (λ e. e.1) (maps.put R k v es))
  put-values P k v [] here all = All-cons P v [] here (All-nil P)
  put-values P k v (e ∷ es) here all =
      elim (R k e.0) as (λ (o : Ordering). All P (map (λ x. x.1) (by_order o ((k, v) ∷ e ∷ es) ((e.0, v) ∷ es) (e ∷ maps.put R k v es)))) [
        | Less ↦ All-cons P v (e.1 ∷ map (λ x. x.1) es) here all
        | Equal ↦ All-cons P v (map (λ x. x.1) es) here (All-tail P e.1 (map (λ x. x.1) es) all)
        | Greater ↦ All-cons P e.1 (map (λ x. x.1) (maps.put R k v es)) (All-head P e.1 (map (λ x. x.1) es) all) (put-values P k v es here (All-tail P e.1 (map (λ x. x.1) es) all))
      ]

-- a lawful name, and a value that is not empty and not too long
pub record IsSetting (limit : ℕ) (pair : Pair) : Type 0 where
  pub named : IsName pair.0
  pub valued : IsValue limit pair.1

abbrev IfSetting : ℕ → Option Pair → Type 0
IfSetting limit None = Unit {0}
IfSetting limit (Some pair) = IsSetting limit pair

at_most : (n m : ℕ) → nat_le n m ≡ true → n ≤ m
at_most n m is = grind (arith, nat_tests)

passes-setting : (n : Numbering) (id : ℕ) (name value : List ℕ) → is_pair n id name value ≡ true → IsSetting n.longest (name, value)
passes-setting n id name value is =
    let last = and_parts _ (nat_le (length value) n.longest) is in
    let third = and_parts _ (nat_le 1 (length value)) last.0 in
    let second = and_parts (is_name name) (n.is_candidate id name) third.0 in
    record { named = is_name-sound name second.0; valued = (at_most 1 (length value) third.1, at_most (length value) n.longest last.1) }

of-setting : (n : Numbering) (id : ℕ) (first second : Option (List ℕ)) → IfSetting n.longest (pair_of n id first second)
of-setting n id None second = tt
of-setting n id (Some name) None = tt
of-setting n id (Some name) (Some value) = by (is_pair n id name value) refl
  where
    by : (b : Bool) → is_pair n id name value ≡ b → IfSetting n.longest (cond (is_pair n id name value) (Some (name, value)) None)
    by true is = subst (λ (t : Bool). IfSetting n.longest (cond t (Some (name, value)) None)) (sym is) (passes-setting n id name value is)
    by false is = subst (λ (t : Bool). IfSetting n.longest (cond t (Some (name, value)) None)) (sym is) tt

abbrev names_map : List Pair → Map
names_map pairs = maps.from_entries pairs

no_entries : (es : List Pair) → length es ≡ 0 → es ≡ []
no_entries [] e = refl
no_entries (x ∷ es) e = absurd (omega arith)

empty-entries : maps.entries (names_map []) ≡ []
empty-entries =
    let none : length (maps.entries (names_map [])) ≡ 0 = sym (maps.len-entries (names_map [])) ∙ maps.len-empty (slice_cmp nat_cmp) (List ℕ) in
    no_entries (maps.entries (names_map [])) none

-- names, values and their number
pub record Lawful (limit most : ℕ) (m : Map) : Type 0 where
  pub names : All IsName (maps.keys m)
  pub values : All (IsValue limit) (maps.values m)
  pub few : maps.len m ≤ most

list-lawful : (limit : ℕ) (f : ℕ → Option Pair) (a m : ℕ) → ((k : ℕ) → IfSetting limit (f k)) → Lawful limit m (names_map (pairs_on f a m))
list-lawful limit f a zero each = record {
  names = subst (λ (es : List Pair). All IsName (map (λ e. e.0) es)) (sym empty-entries) (All-nil IsName);
  values = subst (λ (es : List Pair). All (IsValue limit) (map (λ e. e.1) es)) (sym empty-entries) (All-nil (IsValue limit));
  few = let none : maps.len (names_map []) ≡ 0 = maps.len-empty (slice_cmp nat_cmp) (List ℕ) in omega arith;
}
list-lawful limit f a (suc m) each = by (f a) (each a) (list-lawful limit f (a + 1) m each)
  where
    at_most_one : (b : Bool) (x y : ℕ) → x ≤ y → cond b x (x + 1) ≤ suc y
    at_most_one true x y le = omega arith
    at_most_one false x y le = omega arith

    by : (o : Option Pair) → IfSetting limit o → Lawful limit m (names_map (pairs_on f (a + 1) m)) → Lawful limit (suc m) (names_map (cons_option o (pairs_on f (a + 1) m)))
    by None here rest = record { names = rest.names; values = rest.values; few = let le = rest.few in omega arith }
    by (Some (name, value)) here rest =
        let more = maps.entries-insert nat_list_cmp_total (names_map (pairs_on f (a + 1) m)) name value in
        record {
          names = subst (λ (es : List Pair). All IsName (map (λ e. e.0) es)) (sym more) (put-keys (slice_cmp nat_cmp) IsName name value (maps.entries (names_map (pairs_on f (a + 1) m))) here.named rest.names);
          values = subst (λ (es : List Pair). All (IsValue limit) (map (λ e. e.1) es)) (sym more) (put-values (slice_cmp nat_cmp) (IsValue limit) name value (maps.entries (names_map (pairs_on f (a + 1) m))) here.valued rest.values);
          few = subst (λ (k : ℕ). k ≤ suc m) (sym (maps.len-insert nat_list_cmp_total (names_map (pairs_on f (a + 1) m)) name value))
              (at_most_one (maps.contains_key (names_map (pairs_on f (a + 1) m)) name) (maps.len (names_map (pairs_on f (a + 1) m))) m rest.few);
        }

-- lawful names and values throughout, and no more than the count allows
pub settings-lawful : (n : Numbering) → IsNumbering n → n.step < 2 ^ 32 → (items : Items) → IsSettings n.longest (settings_in n items)
unfolding settings_in
settings-lawful n laws small items =
    let lawful = list-lawful n.longest (pair_at n items) n.first (count_in n items) (λ id. of-setting n id (maps.get items id) (maps.get items (id + n.step))) in
    let few : count_in n items ≤ n.step = laws.few (maps.get items n.count_id) in
    let len : maps.len (names_map (pairs_on (pair_at n items) n.first (count_in n items))) ≤ count_in n items = lawful.few in
    record { names = lawful.names; values = lawful.values; few = omega arith }
