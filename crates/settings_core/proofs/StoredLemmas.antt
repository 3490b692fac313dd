-- What a handler that held nothing holds after a load of all settings.
use Rattle.std.proofs.Common.{◌≡◌, ℕ, zero, suc, ◌<◌, Bool, true, false, cond, List, [], ◌∷◌, length, get_or, Option, Some, None, ◌⊎◌, inl, inr, refl, sym, ap, subst, ◌∙◌, eqb-true, eq-eqb}
use Rattle.std.specs.Prelude.{◌==◌, All, fold, slice_get, option_map}
use Rattle.std.specs.List.{filter, filter_map, cons_option}
use Rattle.std.specs.Option.{unwrap_or}
use Rattle.std.specs.FinMap.{entries, insert, empty, get, find, get-empty, get-entries}
use Rattle.std.specs.Ordering.{nat_cmp, eq_by_cmp}
use Rattle.std.specs.Cmp.Lexicographic.{slice_cmp}
use Rattle.std.proofs.Math.ListN.{get_or-map}
use Rattle.setting_name.specs.Name.{IsName}
use Rattle.setting_name.specs.Match.{joined_text, matched_rest}
use Rattle.setting_name.proofs.MatchLemmas.{joined_text-match, matched_rest-joined_text}
use Rattle.backend_api.specs.Map.{Map, IsValue, IsSettings}
use Rattle.backend_api.proofs.MapLemmas.{ties_itself, ties_same, get-insert_same, get-insert_other}
use Rattle.handlers.specs.Best.{best}
use Rattle.handlers.specs.Held.{accepts}
use Rattle.handlers.specs.Registry.{Registered, subtrees, nobody, state_at}
use Rattle.settings_core.specs.Deliveries.{Delivery, delivery, delivered, deliver_all}
use Rattle.settings_core.specs.Laws.{HoldsStored, IsFor, deliveries_at}
use Rattle.settings_core.proofs.LawLemmas.{is_delivered}
use Rattle.settings_core.proofs.LawfulLemmas.{head_of, tail_of, goes_to, good_settings}
use Rattle.settings_core.proofs.OfferLemmas.{delivery-best}
use Rattle.settings_core.proofs.ListedLemmas.{Setting, value_there}

-- ---- what stands in a list

module _ {X : Type 0} where
  abbrev In : X → List X → Type 0
  In x [] = ⊥
  In x (y ∷ ys) = (x ≡ y) ⊎ In x ys

  all_in : (P : X → Type 0) (x : X) (xs : List X) → All P xs → In x xs → P x
  all_in P x [] all is = absurd is
  all_in P x (y ∷ ys) all (inl same) = subst P (sym same) (head_of P y ys all)
  all_in P x (y ∷ ys) all (inr more) = all_in P x ys (tail_of P y ys all) more

  placed : (x : X) (xs : List X) → In x xs → (k : ℕ) × (slice_get xs k ≡ Some x)
  placed x [] is = absurd is
  placed x (y ∷ ys) (inl same) = (zero, ap Some (sym same))
  placed x (y ∷ ys) (inr more) = let there = placed x ys more in (suc there.0, there.1)

  in_filter : (p : X → Bool) (x : X) (xs : List X) → In x (filter p xs) → In x xs × (p x ≡ true)
  in_filter p x [] is = absurd is
  in_filter p x (y ∷ ys) is = by (p y) refl (in_filter p x ys) is
    where
      by : (b : Bool) → p y ≡ b → (In x (filter p ys) → In x ys × (p x ≡ true)) → In x (cond b (y ∷ filter p ys) (filter p ys)) → ((x ≡ y) ⊎ In x ys) × (p x ≡ true)
      by true is rest (inl same) = (inl same, ap p same ∙ is)
      by true is rest (inr more) = (inr (rest more).0, (rest more).1)
      by false is rest more = (inr (rest more).0, (rest more).1)

  in_filtered : (p : X → Bool) (x : X) (xs : List X) → In x xs → p x ≡ true → In x (filter p xs)
  in_filtered p x [] is passes = absurd is
  in_filtered p x (y ∷ ys) is passes = by (p y) refl (λ more. in_filtered p x ys more passes) is
    where
      by : (b : Bool) → p y ≡ b → (In x ys → In x (filter p ys)) → (x ≡ y) ⊎ In x ys → In x (cond b (y ∷ filter p ys) (filter p ys))
      by true is rest (inl same) = inl same
      by true is rest (inr more) = inr (rest more)
      by false is rest (inl same) = absurd (let both : true ≡ false = sym passes ∙ ap p same ∙ is in cc)
      by false is rest (inr more) = rest more

module _ {X Y : Type 0} (h : X → Option Y) where
  in_mapped : (y : Y) (xs : List X) → In y (filter_map h xs) → (x : X) × In x xs × (h x ≡ Some y)
  in_mapped y [] is = absurd is
  in_mapped y (x ∷ xs) is = by (h x) refl (in_mapped y xs) is
    where
      by : (o : Option Y) → h x ≡ o → (In y (filter_map h xs) → (z : X) × In z xs × (h z ≡ Some y)) → In y (cons_option o (filter_map h xs)) → (z : X) × ((z ≡ x) ⊎ In z xs) × (h z ≡ Some y)
      by None is rest more = let r = rest more in (r.0, inr r.1, r.2)
      by (Some z) is rest (inl same) = (x, inl refl, is ∙ ap Some (sym same))
      by (Some z) is rest (inr more) = let r = rest more in (r.0, inr r.1, r.2)

  in_map : (x : X) (y : Y) (xs : List X) → In x xs → h x ≡ Some y → In y (filter_map h xs)
  in_map x y [] is made = absurd is
  in_map x y (z ∷ zs) is made = by (h z) refl (λ more. in_map x y zs more made) is
    where
      some : (a b : Y) → Some a ≡ Some b → a ≡ b
      some a b is = cc

      by : (o : Option Y) → h z ≡ o → (In x zs → In y (filter_map h zs)) → (x ≡ z) ⊎ In x zs → In y (cons_option o (filter_map h zs))
      by None is rest (inl same) = absurd (let both : None ≡ Some y = sym is ∙ ap h (sym same) ∙ made in cc)
      by None is rest (inr more) = rest more
      by (Some w) is rest (inl same) = inl (some y w (sym made ∙ ap h same ∙ is))
      by (Some w) is rest (inr more) = inr (rest more)

-- ---- what is stored

find_in : (es : List Setting) (name value : List ℕ) → find (slice_cmp nat_cmp) name es ≡ Some value → In (name, value) es
find_in [] name value is = absurd (cc)
find_in (e ∷ es) name value is = by (eq_by_cmp (slice_cmp nat_cmp) name e.0) refl (find_in es name value) is
  where
    some : (a b : List ℕ) → Some a ≡ Some b → b ≡ a
    some a b is = cc

    by : (b : Bool) → eq_by_cmp (slice_cmp nat_cmp) name e.0 ≡ b → (find (slice_cmp nat_cmp) name es ≡ Some value → In (name, value) es)
        → cond b (Some e.1) (find (slice_cmp nat_cmp) name es) ≡ Some value → ((name, value) ≡ e) ⊎ In (name, value) es
    by true ties rest is = inl (ap (λ n. (n, value)) (ties_same name e.0 ties) ∙ ap (λ v. (e.0, v)) (some e.1 value is))
    by false ties rest is = inr (rest is)

-- ---- values put one after another

abbrev putting : Map → Delivery → Map
putting settings d = insert settings d.rest d.value

decided : (a b : List ℕ) → (a ≡ b) ⊎ ¬ (a ≡ b)
decided a b = by (eq_by_cmp (slice_cmp nat_cmp) a b) refl
  where
    by : (t : Bool) → eq_by_cmp (slice_cmp nat_cmp) a b ≡ t → (a ≡ b) ⊎ ¬ (a ≡ b)
    by true is = inl (ties_same a b is)
    by false is = inr (λ same. let both : true ≡ false = sym (ties_itself a) ∙ ap (λ x. eq_by_cmp (slice_cmp nat_cmp) a x) same ∙ is in cc)

some_same : (a b : List ℕ) → Some a ≡ Some b → a ≡ b
some_same a b is = cc

put_from : (ds : List Delivery) (m : Map) (rest value : List ℕ) → get (fold putting m ds) rest ≡ Some value → (get m rest ≡ Some value) ⊎ ((d : Delivery) × In d ds × (d.rest ≡ rest) × (d.value ≡ value))
put_from [] m rest value is = inl is
put_from (d ∷ ds) m rest value is = by (put_from ds (putting m d) rest value is) (decided rest d.rest)
  where
    by : (get (putting m d) rest ≡ Some value) ⊎ ((e : Delivery) × In e ds × (e.rest ≡ rest) × (e.value ≡ value)) → (rest ≡ d.rest) ⊎ ¬ (rest ≡ d.rest)
        → (get m rest ≡ Some value) ⊎ ((e : Delivery) × ((e ≡ d) ⊎ In e ds) × (e.rest ≡ rest) × (e.value ≡ value))
    by (inr (e, more, rest_is, value_is)) decision = inr (e, inr more, rest_is, value_is)
    by (inl at) (inl same) = inr (d, inl refl, sym same, some_same d.value value (sym (get-insert_same m d.rest d.value) ∙ ap (get (putting m d)) (sym same) ∙ at))
    by (inl at) (inr other) = inl (sym (get-insert_other m d.rest d.value rest other) ∙ at)

put_kept : (ds : List Delivery) (m : Map) (rest value : List ℕ) → get m rest ≡ Some value → (w : List ℕ) × (get (fold putting m ds) rest ≡ Some w)
put_kept [] m rest value is = (value, is)
put_kept (d ∷ ds) m rest value is = elim (decided rest d.rest) [
  | inl same ↦ put_kept ds (putting m d) rest d.value (ap (get (putting m d)) same ∙ get-insert_same m d.rest d.value)
  | inr other ↦ put_kept ds (putting m d) rest value (get-insert_other m d.rest d.value rest other ∙ is)
]

put_there : (ds : List Delivery) (m : Map) (d : Delivery) → In d ds → (w : List ℕ) × (get (fold putting m ds) d.rest ≡ Some w)
put_there [] m d is = absurd is
put_there (e ∷ ds) m d (inl same) = put_kept ds (putting m e) d.rest e.value (ap (λ (x : Delivery). get (putting m e) x.rest) same ∙ get-insert_same m e.rest e.value)
put_there (e ∷ ds) m d (inr more) = put_there ds (putting m e) d more

-- ---- after a load

best_of : (to : List (List ℕ)) (setting : Setting) (d : Delivery) → delivery to setting ≡ Some d → best to setting.0 ≡ Some d.place
best_of to setting d is = by (best to setting.0) is
  where
    same : (a b : Delivery) → Some a ≡ Some b → a ≡ b
    same a b is = cc

    by : (o : Option ℕ) → option_map (λ place. record { place = place; rest = unwrap_or (matched_rest setting.0 (get_or to place [])) []; value = setting.1 }) o ≡ Some d → o ≡ Some d.place
    by None is = absurd (cc)
    by (Some place) is = ap (λ (x : Delivery). Some x.place) (same (record { place = place; rest = unwrap_or (matched_rest setting.0 (get_or to place [])) []; value = setting.1 }) d is)

module _ (limit : ℕ) (handlers : List Registered) (settings : Map) (place : ℕ) (is : IsSettings limit settings) (within : place < length handlers) (none : (state_at handlers place).held ≡ empty) where
  abbrev all_of : List Delivery
  all_of = delivered (subtrees handlers) None (entries settings)

  abbrev kept_of : List Delivery
  kept_of = filter (λ d. accepts (state_at handlers place).kind d.value) (deliveries_at place all_of)

  held_is : (state_at (deliver_all handlers all_of) place).held ≡ fold putting empty kept_of
  held_is = ap (λ h. h.held) (is_delivered handlers all_of place within) ∙ ap (λ (m : Map). fold putting m kept_of) none

  own : get_or (subtrees handlers) place [] ≡ (get_or handlers place nobody).subtree
  own = get_or-map (λ (h : Registered). h.subtree) handlers place nobody

  -- a delivery that is kept
  is_for : (d : Delivery) → In d kept_of → IsFor handlers settings place d.rest d.value
  is_for d kept =
      let taken = in_filter (λ e. accepts (state_at handlers place).kind e.value) d (deliveries_at place all_of) kept in
      let here = in_filter (λ (e : Delivery). e.place == place) d all_of taken.0 in
      let made = in_mapped (delivery (subtrees handlers)) d (filter (λ (s : Setting). true) (entries settings)) here.0 in
      let setting = made.0 in
      let there = (in_filter (λ (s : Setting). true) setting (entries settings) made.1).0 in
      let goes = goes_to (subtrees handlers) setting d made.2 in
      let place_is : d.place ≡ place = eqb-true d.place place here.1 in
      let name : IsName setting.0 = (all_in (λ (s : Setting). IsName s.0 × IsValue limit s.1) setting (entries settings) (good_settings limit settings is) there).0 in
      let match : matched_rest setting.0 (get_or handlers place nobody).subtree ≡ Some d.rest =
      ap (matched_rest setting.0) (sym own ∙ ap (λ p. get_or (subtrees handlers) p []) (sym place_is)) ∙ goes.matches in
      let joined : setting.0 ≡ joined_text (get_or handlers place nobody).subtree d.rest = joined_text-match setting.0 (get_or handlers place nobody).subtree d.rest name.whole match in
      let at = placed setting (entries settings) there in
      record {
        stored = ap (get settings) (sym joined) ∙ value_there settings at.0 setting at.1 ∙ ap Some (sym goes.value_is);
        best_is = ap (best (subtrees handlers)) (sym joined) ∙ best_of (subtrees handlers) setting d made.2 ∙ ap Some place_is;
        accepted = taken.1;
      }

  only : (rest value : List ℕ) → get (fold putting empty kept_of) rest ≡ Some value → IsFor handlers settings place rest value
  only rest value at = elim (put_from kept_of empty rest value at) [
    | inl nothing ↦ absurd (let both : None ≡ Some value = sym (get-empty (slice_cmp nat_cmp) rest) ∙ nothing in cc)
    | inr one ↦ subst (λ r. IsFor handlers settings place r value) one.2 (subst (IsFor handlers settings place one.0.rest) one.3 (is_for one.0 one.1))
  ]

  each : (rest value : List ℕ) → IsFor handlers settings place rest value → get (fold putting empty kept_of) rest ≡ Some value
  each rest value given_for =
      let subtree = (get_or handlers place nobody).subtree in
      let name = joined_text subtree rest in
      let d : Delivery = record { place = place; rest = rest; value = value } in
      let made = delivery-best handlers name value rest subtree place given_for.best_is refl (ap (λ o. unwrap_or o []) (sym (matched_rest-joined_text subtree rest))) in
      let there = find_in (entries settings) name value (sym (get-entries settings name) ∙ given_for.stored) in
      let all = in_map (delivery (subtrees handlers)) (name, value) d (filter (λ (s : Setting). true) (entries settings)) (in_filtered (λ (s : Setting). true) (name, value) (entries settings) there refl) made in
      let here = in_filtered (λ (e : Delivery). e.place == place) d all_of all (eq-eqb place place refl) in
      let kept = in_filtered (λ e. accepts (state_at handlers place).kind e.value) d (deliveries_at place all_of) here given_for.accepted in
      let found = put_there kept_of empty d kept in
      let again = only rest found.0 found.1 in
      found.1 ∙ sym again.stored ∙ given_for.stored

pub holds_stored : (limit : ℕ) (handlers : List Registered) (settings : Map) (place : ℕ) → HoldsStored limit handlers settings place
holds_stored limit handlers settings place is within none rest value = (
  λ at. only limit handlers settings place is within none rest value (ap (λ (m : Map). get m rest) (sym (held_is limit handlers settings place is within none)) ∙ at),
  λ given_for. ap (λ (m : Map). get m rest) (held_is limit handlers settings place is within none) ∙ each limit handlers settings place is within none rest value given_for,
)
