-- What items cost, and what the settings cost that they read as.
use Rattle.std.proofs.Common.{◌≡◌, ◌⊎◌, ℕ, zero, suc, ◌+◌, ◌<◌, ◌≤◌, Bool, true, false, cond, List, [], ◌∷◌, ◌++◌, length, Option, Some, None, Ordering, Less, Equal, Greater, is_eq, nat_cmp, refl, sym, ap, subst, ◌∙◌, inl, inr, arith}
use Rattle.std.specs.Prelude.{sum_by}
use Rattle.std.specs.List.{cons_option}
use Rattle.std.specs.Ordering.{eq_by_cmp}
use Rattle.std.specs.Cmp.Lexicographic.{slice_cmp, nat_list_cmp_total}
use Rattle.std.specs.FinMap as map
use Rattle.std.specs.FinMap.Entries.{by_order}
use Rattle.std.proofs.lemmas.Bool.{cases_eq}
use Rattle.std.proofs.lemmas.Cmp.{nat_cmp_total}
use Rattle.std.proofs.lemmas.List.Sums.{sum_by-cons, sum_by-append}
use Rattle.std.proofs.lemmas.Bool.Decides.{nat_tests}
use Rattle.item_laws.specs.Costs.{items_cost}
use Rattle.item_laws.specs.Items.{Items}
use Rattle.backend_api.specs.Map.{Map}
use Rattle.named_items.specs.Numbering.{Numbering, IsNumbering}
use Rattle.named_items.specs.Cost.{item_cost, pair_cost, settings_cost}
use Rattle.named_items.specs.Pairs.{count_in, pair_of, pair_at, settings_in, HasName, HasNoOrphans}
use Rattle.named_items.proofs.RangePairs.{Pair, pairs_on, map_on, on-agree, on-more, on-none}
use Rattle.named_items.proofs.PairLemmas.{pair-made, made-pair, has-pair, settings-on}
use Rattle.named_items.proofs.OrphanLemmas.{one-id}

some_none : {A : Type 0} (x : A) → Some x ≡ None → ⊥
some_none x e = cc

-- ---- one entry more

module _ {K X : Type 0} (R : K → K → Ordering) where
  put-sum : (f : K × X → ℕ) (k : K) (v : X) (es : List (K × X)) → map.find R k es ≡ None → sum_by f (map.put R k v es) ≡ f (k, v) + sum_by f es
  put-sum f k v [] none = sum_by-cons f (k, v) []
  put-sum f k v (e ∷ es) none =
      elim (R k e.0) as (λ (o : Ordering). R k e.0 ≡ o → sum_by f (by_order o ((k, v) ∷ e ∷ es) ((e.0, v) ∷ es) (e ∷ map.put R k v es)) ≡ f (k, v) + sum_by f (e ∷ es)) [
        | Less ↦ λ is. sum_by-cons f (k, v) (e ∷ es)
        | Equal ↦ λ is. absurd (some_none e.1 (sym (ap (λ (o : Ordering). cond (is_eq o) (Some e.1) (map.find R k es)) is) ∙ none))
        | Greater ↦ λ is.
            let later : map.find R k es ≡ None = sym (ap (λ (o : Ordering). cond (is_eq o) (Some e.1) (map.find R k es)) is) ∙ none in
            let ih = put-sum f k v es later in
            let more = sum_by-cons f e (map.put R k v es) in
            let all = sum_by-cons f e es in
            omega arith
      ] refl

-- ---- look-ups of items

nat-tie : (a b : ℕ) → a ≡ b → eq_by_cmp nat_cmp a b ≡ true
nat-tie a b e = grind (arith, nat_tests)

nat-apart : (a b : ℕ) → ¬ (a ≡ b) → eq_by_cmp nat_cmp a b ≡ false
nat-apart a b e = grind (arith, nat_tests)

pub get-put : (items : Items) (id : ℕ) (bytes : List ℕ) → map.get (map.insert items id bytes) id ≡ Some bytes
get-put items id bytes = map.get-insert nat_cmp_total items id bytes id ∙ ap (λ (b : Bool). cond b (Some bytes) (map.get items id)) (nat-tie id id refl)

pub get-put_other : (items : Items) (id : ℕ) (bytes : List ℕ) (other : ℕ) → ¬ (other ≡ id) → map.get (map.insert items id bytes) other ≡ map.get items other
get-put_other items id bytes other apart = map.get-insert nat_cmp_total items id bytes other ∙ ap (λ (b : Bool). cond b (Some bytes) (map.get items other)) (nat-apart other id apart)

pub get-cut : (items : Items) (id : ℕ) → map.get (map.remove items id) id ≡ None
get-cut items id = map.get-remove nat_cmp_total items id id ∙ ap (λ (b : Bool). cond b None (map.get items id)) (nat-tie id id refl)

pub get-cut_other : (items : Items) (id other : ℕ) → ¬ (other ≡ id) → map.get (map.remove items id) other ≡ map.get items other
get-cut_other items id other apart = map.get-remove nat_cmp_total items id other ∙ ap (λ (b : Bool). cond b None (map.get items other)) (nat-apart other id apart)

pub same-items : (m k : Items) → ((id : ℕ) → map.get m id ≡ map.get k id) → m ≡ k
same-items m k same = map.same_map nat_cmp_total map.nat_cmp-IsAntisymmetric m k same

-- a new item that is taken away again
pub cut-put : (items : Items) (id : ℕ) (bytes : List ℕ) → map.get items id ≡ None → map.remove (map.insert items id bytes) id ≡ items
cut-put items id bytes none = same-items (map.remove (map.insert items id bytes) id) items (λ other.
    elim (cases_eq other id) [
      | inl e ↦ ap (map.get (map.remove (map.insert items id bytes) id)) e ∙ get-cut (map.insert items id bytes) id ∙ sym (ap (map.get items) e ∙ none)
      | inr apart ↦ get-cut_other (map.insert items id bytes) id other apart ∙ get-put_other items id bytes other apart
    ])

pub put-cut : (items : Items) (id : ℕ) (bytes : List ℕ) → map.get items id ≡ Some bytes → map.insert (map.remove items id) id bytes ≡ items
put-cut items id bytes is = same-items (map.insert (map.remove items id) id bytes) items (λ other.
    elim (cases_eq other id) [
      | inl e ↦ ap (map.get (map.insert (map.remove items id) id bytes)) e ∙ get-put (map.remove items id) id bytes ∙ sym (ap (map.get items) e ∙ is)
      | inr apart ↦ get-put_other (map.remove items id) id bytes other apart ∙ get-cut_other items id other apart
    ])

-- bytes that an item has already
pub put-again : (items : Items) (id : ℕ) (bytes : List ℕ) → map.get items id ≡ Some bytes → map.insert items id bytes ≡ items
put-again items id bytes is = same-items (map.insert items id bytes) items (λ other.
    elim (cases_eq other id) [
      | inl e ↦ ap (map.get (map.insert items id bytes)) e ∙ get-put items id bytes ∙ sym (ap (map.get items) e ∙ is)
      | inr apart ↦ get-put_other items id bytes other apart
    ])

-- ---- what items cost

module _ (price : ℕ → ℕ) where
  pub insert-cost : (items : Items) (id : ℕ) (bytes : List ℕ) → map.get items id ≡ None → items_cost price (map.insert items id bytes) ≡ price (length bytes) + items_cost price items
  insert-cost items id bytes none =
      ap (sum_by (λ (item : ℕ × List ℕ). price (length item.1))) (map.entries-insert nat_cmp_total items id bytes)
      ∙ put-sum nat_cmp (λ (item : ℕ × List ℕ). price (length item.1)) id bytes (map.entries items) (sym (map.get-entries items id) ∙ none)

  pub remove-cost : (items : Items) (id : ℕ) (bytes : List ℕ) → map.get items id ≡ Some bytes → items_cost price items ≡ price (length bytes) + items_cost price (map.remove items id)
  remove-cost items id bytes is = ap (items_cost price) (sym (put-cut items id bytes is)) ∙ insert-cost (map.remove items id) id bytes (get-cut items id)

  no_entries : (es : List (ℕ × List ℕ)) → length es ≡ 0 → es ≡ []
  no_entries [] e = refl
  no_entries (x ∷ es) e = absurd (omega arith)

  no-items : (items : Items) → ((id : ℕ) → map.get items id ≡ None) → items_cost price items ≡ 0
  no-items items none =
      let is : items ≡ map.empty = same-items items map.empty (λ id. none id ∙ sym (map.get-empty nat_cmp id)) in
      let empty : length (map.entries (map.empty {X = List ℕ} {R = nat_cmp})) ≡ 0 = sym (map.len-entries (map.empty {X = List ℕ} {R = nat_cmp})) ∙ map.len-empty nat_cmp (List ℕ) in
      ap (items_cost price) is ∙ ap (sum_by (λ (item : ℕ × List ℕ). price (length item.1))) (no_entries (map.entries map.empty) empty)

  module _ (n : Numbering) (laws : IsNumbering n) where
    -- each item but the one that may be a count is the name or the value of a pair below this id
    abbrev Covers : Items → ℕ → Type 0
    Covers items c = (id : ℕ) → ¬ (id ≡ n.count_id) → (map.get items id ≡ None) ⊎ ((candidate : ℕ) × (n.first ≤ candidate) × (candidate < n.first + c) × ¬ (pair_at n items candidate ≡ None) × ((id ≡ candidate) ⊎ (id ≡ candidate + n.step)))

    -- such items cost what the count and the pairs do
    abbrev Bounds : ℕ → Type 0
    Bounds c = (m : Items) → Covers m c → items_cost price m ≡ item_cost price (map.get m n.count_id) + sum_by (pair_cost price) (pairs_on (pair_at n m) n.first c)

    covered-cost : (c : ℕ) → c ≤ n.step → (items : Items) → Covers items c → items_cost price items ≡ item_cost price (map.get items n.count_id) + sum_by (pair_cost price) (pairs_on (pair_at n items) n.first c)
    covered-cost zero few items covers =
        by (map.get items n.count_id) refl
      where
        others : (id : ℕ) → ¬ (id ≡ n.count_id) → map.get items id ≡ None
        others id apart =
            elim (covers id apart) [
              | inl none ↦ none
              | inr part ↦
                  let low : n.first ≤ part.0 = part.1 in
                  let high : part.0 < n.first + zero = part.2 in
                  absurd (omega arith)
            ]

        by : (o : Option (List ℕ)) → map.get items n.count_id ≡ o → items_cost price items ≡ item_cost price (map.get items n.count_id) + 0
        by None is =
            let is_cost : item_cost price (map.get items n.count_id) ≡ 0 = ap (item_cost price) is in
            let all : items_cost price items ≡ 0 = no-items items (λ id. elim (cases_eq id n.count_id) [ inl e ↦ ap (map.get items) e ∙ is | inr apart ↦ others id apart ]) in
            omega arith
        by (Some bytes) is =
            let one = remove-cost items n.count_id bytes is in
            let rest : items_cost price (map.remove items n.count_id) ≡ 0 =
            no-items (map.remove items n.count_id) (λ id. elim (cases_eq id n.count_id) [
              | inl e ↦ ap (map.get (map.remove items n.count_id)) e ∙ get-cut items n.count_id
              | inr apart ↦ get-cut_other items n.count_id id apart ∙ others id apart
            ]) in
            let is_cost : item_cost price (map.get items n.count_id) ≡ price (length bytes) = ap (item_cost price) is in
            omega arith
    covered-cost (suc c) few items covers =
        elim (has-pair (pair_at n items (n.first + c))) [
          | inl none ↦ bare (λ m cov. covered-cost c (omega arith) m cov) none
          | inr has ↦ whole (λ m cov. covered-cost c (omega arith) m cov) has.0 has.1
        ]
      where
        more : pairs_on (pair_at n items) n.first (suc c) ≡ pairs_on (pair_at n items) n.first c ++ cons_option (pair_at n items (n.first + c)) []
        more =
            let e : suc c ≡ c + 1 = omega arith in
            ap (pairs_on (pair_at n items) n.first) e ∙ on-more (pair_at n items) n.first c

        bare : Bounds c → pair_at n items (n.first + c) ≡ None → items_cost price items ≡ item_cost price (map.get items n.count_id) + sum_by (pair_cost price) (pairs_on (pair_at n items) n.first (suc c))
        bare so_far none =
            let less : Covers items c = λ id apart. elim (covers id apart) [
              | inl gone ↦ inl gone
              | inr part ↦
                  let high : part.0 < n.first + suc c = part.2 in
                  let other : ¬ (part.0 ≡ n.first + c) = λ (e : part.0 ≡ n.first + c). part.3 (ap (pair_at n items) e ∙ none) in
                  inr (part.0, part.1, omega arith, part.3, part.4)
            ] in
            let ih = so_far items less in
            let all : sum_by (pair_cost price) (pairs_on (pair_at n items) n.first (suc c)) ≡ sum_by (pair_cost price) (pairs_on (pair_at n items) n.first c) + 0 =
            ap (sum_by (pair_cost price)) (more ∙ ap (λ (o : Option Pair). pairs_on (pair_at n items) n.first c ++ cons_option o []) none)
            ∙ sum_by-append (pair_cost price) (pairs_on (pair_at n items) n.first c) [] in
            omega arith

        whole : Bounds c → (name : List ℕ) → HasName (pair_at n items (n.first + c)) name → items_cost price items ≡ item_cost price (map.get items n.count_id) + sum_by (pair_cost price) (pairs_on (pair_at n items) n.first (suc c))
        whole so_far name has =
            let made = pair-made n (n.first + c) name (map.get items (n.first + c)) (map.get items (n.first + c + n.step)) has in
            let bel : n.count_id < n.first = laws.below in
            let pair : pair_at n items (n.first + c) ≡ Some (name, made.value) = made-pair n (n.first + c) name made.value (map.get items (n.first + c)) (map.get items (n.first + c + n.step)) made.is_name made.is_value made.passes in
            let m1 : Items = map.remove items (n.first + c) in
            let m2 : Items = map.remove m1 (n.first + c + n.step) in
            let apart : ¬ (n.first + c + n.step ≡ n.first + c) = λ (e : n.first + c + n.step ≡ n.first + c). absurd (omega arith) in
            let second : map.get m1 (n.first + c + n.step) ≡ Some made.value = get-cut_other items (n.first + c) (n.first + c + n.step) apart ∙ made.is_value in
            let one : items_cost price items ≡ price (length name) + items_cost price m1 = remove-cost items (n.first + c) name made.is_name in
            let two : items_cost price m1 ≡ price (length made.value) + items_cost price m2 = remove-cost m1 (n.first + c + n.step) made.value second in
            let stays : (id : ℕ) → ¬ (id ≡ n.first + c) → ¬ (id ≡ n.first + c + n.step) → map.get m2 id ≡ map.get items id =
            λ id a b. get-cut_other m1 (n.first + c + n.step) id b ∙ get-cut_other items (n.first + c) id a in
            let same : (k : ℕ) → n.first ≤ k → k < n.first + c → pair_at n m2 k ≡ pair_at n items k =
            λ k from to.
            ap (λ (o : Option (List ℕ)). pair_of n k o (map.get m2 (k + n.step))) (stays k (λ (e : k ≡ n.first + c). absurd (omega arith)) (λ (e : k ≡ n.first + c + n.step). absurd (omega arith)))
            ∙ ap (λ (o : Option (List ℕ)). pair_of n k (map.get items k) o) (stays (k + n.step) (λ (e : k + n.step ≡ n.first + c). absurd (omega arith)) (λ (e : k + n.step ≡ n.first + c + n.step). absurd (omega arith))) in
            let less : Covers m2 c = λ id other. elim (cases_eq id (n.first + c)) [
              | inl e ↦ inl (ap (map.get m2) e ∙ get-cut_other m1 (n.first + c + n.step) (n.first + c) (λ q. apart (sym q)) ∙ get-cut items (n.first + c))
              | inr a ↦ elim (cases_eq id (n.first + c + n.step)) [
                | inl e ↦ inl (ap (map.get m2) e ∙ get-cut m1 (n.first + c + n.step))
                | inr b ↦ elim (covers id other) [
                  | inl gone ↦ inl (stays id a b ∙ gone)
                  | inr part ↦
                      let high : part.0 < n.first + suc c = part.2 in
                      let off : ¬ (part.0 ≡ n.first + c) = λ (e : part.0 ≡ n.first + c). elim part.4 [ inl i ↦ a (i ∙ e) | inr i ↦ b (i ∙ ap (λ (k : ℕ). k + n.step) e) ] in
                      let under : part.0 < n.first + c = omega arith in
                      inr (part.0, part.1, under, (λ (none : pair_at n m2 part.0 ≡ None). part.3 (sym (same part.0 part.1 under) ∙ none)), part.4)
                ]
              ]
            ] in
            let ih : items_cost price m2 ≡ item_cost price (map.get m2 n.count_id) + sum_by (pair_cost price) (pairs_on (pair_at n m2) n.first c) = so_far m2 less in
            let count : item_cost price (map.get m2 n.count_id) ≡ item_cost price (map.get items n.count_id) = ap (item_cost price) (stays n.count_id (λ (e : n.count_id ≡ n.first + c). absurd (omega arith)) (λ (e : n.count_id ≡ n.first + c + n.step). absurd (omega arith))) in
            let prefix : sum_by (pair_cost price) (pairs_on (pair_at n m2) n.first c) ≡ sum_by (pair_cost price) (pairs_on (pair_at n items) n.first c) = ap (sum_by (pair_cost price)) (on-agree (pair_at n m2) (pair_at n items) n.first c same) in
            let all : sum_by (pair_cost price) (pairs_on (pair_at n items) n.first (suc c)) ≡ sum_by (pair_cost price) (pairs_on (pair_at n items) n.first c) + (price (length name) + price (length made.value)) =
            ap (sum_by (pair_cost price)) (more ∙ ap (λ (o : Option Pair). pairs_on (pair_at n items) n.first c ++ cons_option o []) pair)
            ∙ sum_by-append (pair_cost price) (pairs_on (pair_at n items) n.first c) ((name, made.value) ∷ [])
            ∙ ap (λ (x : ℕ). sum_by (pair_cost price) (pairs_on (pair_at n items) n.first c) + x) (sum_by-cons (pair_cost price) (name, made.value) []) ∙ end (sum_by (pair_cost price) (pairs_on (pair_at n items) n.first c)) (price (length name)) (price (length made.value)) in
            omega arith
          where
            end : (x y z : ℕ) → x + (y + z + 0) ≡ x + (y + z)
            end x y z = omega arith

-- ---- what the settings cost

abbrev names_map : List Pair → Map
names_map pairs = map.from_entries pairs

-- no two ids have one name
abbrev pub Distinct : (ℕ → Option Pair) → ℕ → ℕ → Type 0
Distinct f a m = (name : List ℕ) (i j : ℕ) → a ≤ i → i < a + m → a ≤ j → j < a + m → HasName (f i) name → HasName (f j) name → i ≡ j

pub map-sum : (g : List ℕ × List ℕ → ℕ) (f : ℕ → Option Pair) (a m : ℕ) → Distinct f a m → sum_by g (map.entries (map_on f a m)) ≡ sum_by g (pairs_on f a m)
unfolding map_on
map-sum g f a zero distinct =
    let empty : length (map.entries (map.empty {X = List ℕ} {R = slice_cmp nat_cmp})) ≡ 0 = sym (map.len-entries (map.empty {X = List ℕ} {R = slice_cmp nat_cmp})) ∙ map.len-empty (slice_cmp nat_cmp) (List ℕ) in
    ap (sum_by g) (no_settings (map.entries map.empty) empty)
  where
    no_settings : (es : List (List ℕ × List ℕ)) → length es ≡ 0 → es ≡ []
    no_settings [] e = refl
    no_settings (x ∷ es) e = absurd (omega arith)
map-sum g f a (suc m) distinct = by (map-sum g f (a + 1) m (λ name i j p q r s x y. distinct name i j (omega arith) (omega arith) (omega arith) (omega arith) x y)) (f a) refl
  where
    by : sum_by g (map.entries (names_map (pairs_on f (a + 1) m))) ≡ sum_by g (pairs_on f (a + 1) m) → (o : Option Pair) → f a ≡ o → sum_by g (map.entries (names_map (cons_option (f a) (pairs_on f (a + 1) m)))) ≡ sum_by g (cons_option (f a) (pairs_on f (a + 1) m))
    by rest None is = subst (λ (o : Option Pair). sum_by g (map.entries (names_map (cons_option o (pairs_on f (a + 1) m)))) ≡ sum_by g (cons_option o (pairs_on f (a + 1) m))) (sym is) rest
    by rest (Some (name, value)) is =
        let here : HasName (f a) name = subst (λ (o : Option Pair). HasName o name) (sym is) refl in
        let none : map.get (names_map (pairs_on f (a + 1) m)) name ≡ None =
        map.get-from_entries nat_list_cmp_total (pairs_on f (a + 1) m) name
        ∙ on-none f name (a + 1) m (λ k from to has. let e : a ≡ k = distinct name a k (omega arith) (omega arith) (omega arith) (omega arith) here has in absurd (omega arith)) in
        subst (λ (o : Option Pair). sum_by g (map.entries (names_map (cons_option o (pairs_on f (a + 1) m)))) ≡ sum_by g (cons_option o (pairs_on f (a + 1) m))) (sym is)
        (ap (sum_by g) (map.entries-insert nat_list_cmp_total (names_map (pairs_on f (a + 1) m)) name value)
        ∙ put-sum (slice_cmp nat_cmp) g name value (map.entries (names_map (pairs_on f (a + 1) m))) (sym (map.get-entries (names_map (pairs_on f (a + 1) m)) name) ∙ none)
        ∙ ap (λ (x : ℕ). g (name, value) + x) rest
        ∙ sym (sum_by-cons g (name, value) (pairs_on f (a + 1) m)))

module _ (n : Numbering) (laws : IsNumbering n) (items : Items) (clean : HasNoOrphans n items) where
  pub clean-distinct : Distinct (pair_at n items) n.first (count_in n items)
  clean-distinct name i j p q r s x y = one-id n laws items clean name i j (record { from = p; to = q }) (record { from = r; to = s }) x y

  -- Where there are no orphans, the items cost what the settings and the count do.
  pub clean-cost : (price : ℕ → ℕ) → items_cost price items ≡ item_cost price (map.get items n.count_id) + settings_cost price (settings_in n items)
  clean-cost price =
      let few : count_in n items ≤ n.step = laws.few (map.get items n.count_id) in
      let le = covered-cost price n laws (count_in n items) few items (λ id apart. elim (clean id) [
        | inl none ↦ inl none
        | inr kept ↦ elim kept [
          | inl count ↦ absurd (apart count.is)
          | inr part ↦ inr (part.candidate, part.at.inside.from, part.at.inside.to, (λ (none : pair_at n items part.candidate ≡ None). let h : ⊥ = subst (λ (o : Option Pair). HasName o part.name) none part.at.here in h), part.is)
        ]
      ]) in
      let all : settings_cost price (settings_in n items) ≡ sum_by (pair_cost price) (pairs_on (pair_at n items) n.first (count_in n items)) =
      ap (settings_cost price) (settings-on n items) ∙ map-sum (pair_cost price) (pair_at n items) n.first (count_in n items) clean-distinct in
      omega arith
