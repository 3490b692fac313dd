-- Where the places of a ring stand, and what the definitions say of an area in the form of a ring.
use Rattle.std.proofs.Common.{◌≡◌, ℕ, zero, suc, ◌+◌, ◌-◌, ◌%◌, ◌<◌, ◌≤◌, min, Bool, true, false, not, ◌&&◌, eqb, ltb, List, ◌++◌, length, map, Option, Some, None, unwrap_or, ◌⊎◌, inl, inr, refl, sym, ap, subst, ◌∙◌, arith}
use Rattle.std.specs.List.{range_with_len, filter, find, All}
use Rattle.std.specs.Option.{option_map, option_or}
use Rattle.std.proofs.lemmas.Bool.{cases_lt, cases_eq, cases_order, cases_Bool, both_ways, cond-true, cond-false, eq-eqb, ne_eqb, eqb-true, lt-ltb, le-ltb, and_left, and_right, and_from, and_parts, and_cases, not_from_true, not_from_false, not-true, not-false}
use Rattle.std.proofs.lemmas.List.{map-append, append-nil}
use Rattle.std.proofs.lemmas.List.Elements.{All-from_get_or, filter-append}
use Rattle.std.proofs.lemmas.List.Folds.{list_all_at}
use Rattle.std.proofs.lemmas.List.Sums.{list_all-from_AllPass}
use Rattle.flash_map.specs.declared.faults.Damaged.{Damaged}
use Rattle.flash_map.specs.declared.faults.Why.{Why}
use Rattle.flash_map.specs.declared.faults.Why.TheVariants.{BadHeader, BadSequence, Overfull, Dirty}
use Rattle.fcb_ring.specs.declared.sector.SectorState.{SectorState}
use Rattle.fcb_ring.specs.Rings.{no_state, state_at, places, is_used, before, turned, distance, continues, opens_run, oldest_place, second_start, is_full, counts, counting, shows, first_of, first_damage, IsRing, AreClean}
use Rattle.fcb_ring.proofs.PlaceLemmas.{range-append, filter_all, filter_none, find_nothing, find_first, found_none, found_some, All-map}

-- ---- places

pub turned-low : (count place k : ℕ) → place + k < count → turned count place k ≡ place + k
unfolding turned
turned-low count place k lt = cond-true (ltb (place + k) count) (place + k) (place + k - count) (lt-ltb (place + k) count lt)

pub turned-high : (count place k : ℕ) → count ≤ place + k → turned count place k ≡ place + k - count
unfolding turned
turned-high count place k ge = cond-false (ltb (place + k) count) (place + k) (place + k - count) (le-ltb (place + k) count ge)

pub turned-within : (count place k : ℕ) → place < count → k ≤ count → turned count place k < count
turned-within count place k p le = elim (cases_lt (place + k) count) [
  | inl lt ↦ let e = turned-low count place k lt in omega arith
  | inr ge ↦ let e = turned-high count place k ge in omega arith
]

pub turned-zero : (count place : ℕ) → place < count → turned count place 0 ≡ place
turned-zero count place p = turned-low count place 0 (omega arith) ∙ omega arith

distance-before : (count from place : ℕ) → place < from → distance count from place ≡ place + count - from
unfolding distance
distance-before count from place lt = cond-true (ltb place from) (place + count - from) (place - from) (lt-ltb place from lt)

distance-behind : (count from place : ℕ) → from ≤ place → distance count from place ≡ place - from
unfolding distance
distance-behind count from place ge = cond-false (ltb place from) (place + count - from) (place - from) (le-ltb place from ge)

pub distance-turned : (count from k : ℕ) → from < count → k < count → distance count from (turned count from k) ≡ k
distance-turned count from k f lt = elim (cases_lt (from + k) count) [
  | inl low ↦
      let e = turned-low count from k low in
      ap (distance count from) e ∙ distance-behind count from (from + k) (omega arith) ∙ omega arith
  | inr high ↦
      let e = turned-high count from k high in
      ap (distance count from) e ∙ distance-before count from (from + k - count) (omega arith) ∙ omega arith
]

pub distance-within : (count from place : ℕ) → from < count → place < count → distance count from place < count
distance-within count from place f p = elim (cases_lt place from) [
  | inl lt ↦ let e : distance count from place ≡ place + count - from = distance-before count from place lt in omega arith
  | inr ge ↦ let e : distance count from place ≡ place - from = distance-behind count from place ge in omega arith
]

pub turned-distance : (count from place : ℕ) → from < count → place < count → turned count from (distance count from place) ≡ place
turned-distance count from place f p = elim (cases_lt place from) [
  | inl lt ↦
      let e : distance count from place ≡ place + count - from = distance-before count from place lt in
      ap (turned count from) e ∙ turned-high count from (place + count - from) (omega arith) ∙ omega arith
  | inr ge ↦
      let e : distance count from place ≡ place - from = distance-behind count from place ge in
      ap (turned count from) e ∙ turned-low count from (place - from) (omega arith) ∙ omega arith
]

pub turned-same : (count from j k : ℕ) → from < count → j < count → k < count → turned count from j ≡ turned count from k → j ≡ k
turned-same count from j k f a b same = sym (distance-turned count from j f a) ∙ ap (distance count from) same ∙ distance-turned count from k f b

-- a fact of each place, by how far it is
pub by_distance : (count from : ℕ) (P : ℕ → Type 0) → from < count → ((k : ℕ) → k < count → P (turned count from k)) → (place : ℕ) → place < count → P place
by_distance count from P f each place p = subst P (turned-distance count from place f p) (each (distance count from place) (distance-within count from place f p))

pub before-first : (count : ℕ) → before count 0 ≡ count - 1
before-first count = refl

pub before-inner : (count place : ℕ) → 0 < place → before count place ≡ place - 1
before-inner count place lt = cond-false (eqb place 0) (count - 1) (place - 1) (ne_eqb place 0 (λ (e : place ≡ 0). omega (arith, e)))

pub before-turned : (count from k : ℕ) → from < count → k + 1 < count → before count (turned count from (k + 1)) ≡ turned count from k
before-turned count from k f lt = elim (cases_lt (from + (k + 1)) count) [
  | inl low ↦
      let e = turned-low count from (k + 1) low in
      ap (before count) e ∙ before-inner count (from + (k + 1)) (omega arith) ∙ omega (arith, turned-low count from k (omega arith))
  | inr high ↦
      let e = turned-high count from (k + 1) high in
      elim (cases_eq (from + (k + 1)) count) [
        | inl just ↦
            let none : from + (k + 1) - count ≡ 0 = omega arith in
            ap (before count) (e ∙ none) ∙ omega (arith, turned-low count from k (omega arith))
        | inr past ↦
            let more : count < from + (k + 1) = omega (arith, past) in
            ap (before count) e ∙ before-inner count (from + (k + 1) - count) (omega arith) ∙ omega (arith, turned-high count from k (omega arith))
      ]
]

pub before-start : (count from : ℕ) → from < count → before count from ≡ turned count from (count - 1)
before-start count from f = elim (cases_eq from 0) [
  | inl e ↦ ap (before count) e ∙ sym (ap (λ (n : ℕ). turned count n (count - 1)) e ∙ turned-low count 0 (count - 1) (omega arith) ∙ omega arith)
  | inr inner ↦
      let positive : 0 < from = omega (arith, inner) in
      before-inner count from positive ∙ sym (turned-high count from (count - 1) (omega arith) ∙ omega arith)
]

-- ---- an area in the form of a ring

module _ (states : List SectorState) (oldest used : ℕ) (r : IsRing states oldest used) where
  abbrev n : ℕ
  n = length states

  abbrev at : ℕ → SectorState
  at k = state_at states (turned (length states) oldest k)

  used-there : (k : ℕ) → k < used → is_used states (turned (length states) oldest k) ≡ true
  used-there k lt = not_from_false (at k).is_free (r.used_ones k lt)

  free-there : (k : ℕ) → used ≤ k → k < length states → is_used states (turned (length states) oldest k) ≡ false
  free-there k le lt = not_from_true (at k).is_free (r.free_ones k le lt)

  -- ids count up from the oldest on
  id-there : (k : ℕ) → k < used → (at k).id % 65536 ≡ ((at 0).id + k) % 65536
  id-there zero lt = omega arith
  id-there (suc k) lt =
      let one : suc k ≡ k + 1 = omega arith in
      let here : (at (k + 1)).id ≡ ((at k).id + 1) % 65536 = r.ids k (omega arith) in
      let earlier = id-there k (omega arith) in
      ap (λ (j : ℕ). (at j).id % 65536) one ∙ ap (λ (x : ℕ). x % 65536) here ∙ omega arith

  continues-there : (k : ℕ) → k + 1 < used → continues states (turned (length states) oldest (k + 1)) ≡ true
  continues-there k lt =
      let b = before-turned (length states) oldest k r.within (omega (arith, r.most)) in
      rw b (and_from (is_used states (turned (length states) oldest k)) (eqb (at (k + 1)).id (((at k).id + 1) % 65536)) (used-there k (omega arith)) (eq-eqb (at (k + 1)).id (((at k).id + 1) % 65536) (r.ids k lt)))

  oldest-starts : 0 < used → continues states oldest ≡ false
  oldest-starts some =
      let b = before-start (length states) oldest r.within in
      elim (cases_lt used (length states)) [
        | inl free ↦ rw b (and_left (is_used states (turned (length states) oldest (length states - 1))) (eqb (state_at states oldest).id (((at (length states - 1)).id + 1) % 65536)) (free-there (length states - 1) (omega arith) (omega (arith, r.several))))
        | inr full ↦
            let last = id-there (length states - 1) (omega (arith, r.several)) in
            let first : (at 0).id ≡ (state_at states oldest).id = ap (λ (p : ℕ). (state_at states p).id) (turned-zero (length states) oldest r.within) in
            rw b (and_right (is_used states (turned (length states) oldest (length states - 1))) (eqb (state_at states oldest).id (((at (length states - 1)).id + 1) % 65536))
            (ne_eqb (state_at states oldest).id (((at (length states - 1)).id + 1) % 65536) (λ (e : (state_at states oldest).id ≡ ((at (length states - 1)).id + 1) % 65536). omega (arith, e, last, first, r.several, r.few))))
      ]

  opens-oldest : 0 < used → opens_run states oldest ≡ true
  opens-oldest some =
      let there = turned-zero (length states) oldest r.within in
      and_from (is_used states oldest) (not (continues states oldest)) (subst (λ (p : ℕ). is_used states p ≡ true) there (used-there 0 some)) (not_from_false (continues states oldest) (oldest-starts some))

  opens-other : (k : ℕ) → 0 < k → k < length states → opens_run states (turned (length states) oldest k) ≡ false
  opens-other k positive lt = elim (cases_lt k used) [
    | inl below ↦
        let one : k - 1 + 1 ≡ k = omega arith in
        let follows : continues states (turned (length states) oldest k) ≡ true = subst (λ (j : ℕ). continues states (turned (length states) oldest j) ≡ true) one (continues-there (k - 1) (omega arith)) in
        and_right (is_used states (turned (length states) oldest k)) (not (continues states (turned (length states) oldest k))) (not_from_true (continues states (turned (length states) oldest k)) follows)
    | inr above ↦ and_left (is_used states (turned (length states) oldest k)) (not (continues states (turned (length states) oldest k))) (free-there k above lt)
  ]

  opens-apart : (place : ℕ) → place < length states → (place ≡ oldest → ⊥) → opens_run states place ≡ false
  opens-apart = by_distance (length states) oldest (λ (place : ℕ). (place ≡ oldest → ⊥) → opens_run states place ≡ false) r.within (λ k lt apart.
      elim (cases_eq k 0) [
        | inl e ↦ absurd (apart (ap (turned (length states) oldest) e ∙ turned-zero (length states) oldest r.within))
        | inr other ↦ opens-other k (omega (arith, other)) lt
      ])

  opens-none : used ≡ 0 → (place : ℕ) → place < length states → opens_run states place ≡ false
  opens-none none = by_distance (length states) oldest (λ (place : ℕ). opens_run states place ≡ false) r.within (λ k lt.
      and_left (is_used states (turned (length states) oldest k)) (not (continues states (turned (length states) oldest k))) (free-there k (omega arith) lt))

  pub oldest-is : oldest_place states ≡ oldest
  unfolding oldest_place
  oldest-is = elim (cases_eq used 0) [
    | inl none ↦ ap (λ (o : Option ℕ). unwrap_or o 0) (find_nothing (opens_run states) 0 (length states) (λ k low high. opens-none none k (omega arith))) ∙ sym (r.empty none)
    | inr some ↦
        let positive : 0 < used = omega (arith, some) in
        ap (λ (o : Option ℕ). unwrap_or o 0) (find_first (opens_run states) 0 (length states) oldest (omega arith) (omega (arith, r.within)) (opens-oldest positive)
        (λ k low high. opens-apart k (omega (arith, r.within)) (λ (e : k ≡ oldest). omega arith)))
  ]

  pub no-second : second_start states ≡ None
  unfolding second_start
  no-second =
      let past : (k : ℕ) → oldest + 1 ≤ k → k < oldest + 1 + (length states - (oldest + 1)) → opens_run states k ≡ false = λ k low high. opens-apart k (omega (arith, r.within)) (λ (e : k ≡ oldest). omega arith) in
      ap (λ (p : ℕ). find (opens_run states) (range_with_len (p + 1) (length states - (p + 1)))) oldest-is ∙ find_nothing (opens_run states) (oldest + 1) (length states - (oldest + 1)) past

  pub full-yes : used ≡ length states → is_full states ≡ true
  full-yes all =
      list_all-from_AllPass (λ state. not state.is_free) states (All-from_get_or (λ state. not state.is_free ≡ true) states no_state
      (by_distance (length states) oldest (λ (place : ℕ). is_used states place ≡ true) r.within (λ k lt. used-there k (omega arith))))

  pub full-no : used < length states → is_full states ≡ false
  full-no free = list_all_at (λ state. not state.is_free) states (turned (length states) oldest used) no_state (turned-within (length states) oldest used r.within (omega arith)) (free-there used (omega arith) free)

  pub newest-is : before (length states) (oldest_place states) ≡ turned (length states) oldest (length states - 1)
  newest-is = ap (before (length states)) oldest-is ∙ before-start (length states) oldest r.within

  pub counts-yes : (k : ℕ) → k < min used (length states - 1) → counts states (turned (length states) oldest k) ≡ true
  unfolding counts
  counts-yes k lt =
      let place = turned (length states) oldest k in
      let apart : eqb (turned (length states) oldest k) (before (length states) (oldest_place states)) ≡ false = ne_eqb (turned (length states) oldest k) (before (length states) (oldest_place states)) (λ (e : turned (length states) oldest k ≡ before (length states) (oldest_place states)).
      let same = turned-same (length states) oldest k (length states - 1) r.within (omega (arith, r.several)) (omega (arith, r.several)) (e ∙ newest-is) in omega arith) in
      and_from (is_used states place) (not (is_full states && eqb place (before (length states) (oldest_place states)))) (used-there k (omega arith))
      (not_from_false (is_full states && eqb place (before (length states) (oldest_place states))) (and_right (is_full states) (eqb place (before (length states) (oldest_place states))) apart))

  pub counts-no : (k : ℕ) → min used (length states - 1) ≤ k → k < length states → counts states (turned (length states) oldest k) ≡ false
  unfolding counts
  counts-no k le lt =
      let place = turned (length states) oldest k in
      elim (cases_lt k used) [
        | inl below ↦
            let last : k ≡ length states - 1 = omega (arith, r.most) in
            let there : eqb (turned (length states) oldest k) (before (length states) (oldest_place states)) ≡ true = eq-eqb (turned (length states) oldest k) (before (length states) (oldest_place states)) (ap (turned (length states) oldest) last ∙ sym newest-is) in
            and_right (is_used states place) (not (is_full states && eqb place (before (length states) (oldest_place states))))
            (not_from_true (is_full states && eqb place (before (length states) (oldest_place states))) (and_from (is_full states) (eqb place (before (length states) (oldest_place states))) (full-yes (omega (arith, r.most))) there))
        | inr above ↦ and_left (is_used states place) (not (is_full states && eqb place (before (length states) (oldest_place states)))) (free-there k above lt)
      ]

  pub counting-is : counting states ≡ map (turned (length states) oldest) (range_with_len 0 (min used (length states - 1)))
  unfolding counting
  counting-is =
      let f = turned (length states) oldest in
      let c = min used (length states - 1) in
      let split : length states ≡ c + (length states - c) = omega (arith, r.most) in
      let prefix : All (λ p. counts states p ≡ true) (map (turned (length states) oldest) (range_with_len 0 (min used (length states - 1)))) =
      All-map (λ p. counts states p ≡ true) f 0 c (λ k low high. counts-yes k (omega arith)) in
      let back : All (λ p. counts states p ≡ false) (map (turned (length states) oldest) (range_with_len (0 + min used (length states - 1)) (length states - min used (length states - 1)))) =
      All-map (λ p. counts states p ≡ false) f (0 + c) (length states - c) (λ k low high. counts-no k (omega arith) (omega arith)) in
      ap (λ (o : ℕ). filter (counts states) (map (turned (length states) o) (range_with_len 0 (length states)))) oldest-is
      ∙ ap (λ (m : ℕ). filter (counts states) (map f (range_with_len 0 m))) split
      ∙ ap (λ (ps : List ℕ). filter (counts states) (map f ps)) (range-append 0 c (length states - c))
      ∙ ap (filter (counts states)) (map-append f (range_with_len 0 c) (range_with_len (0 + c) (length states - c)))
      ∙ filter-append (counts states) (map f (range_with_len 0 c)) (map f (range_with_len (0 + c) (length states - c)))
      ∙ ap (λ (ps : List ℕ). ps ++ filter (counts states) (map f (range_with_len (0 + c) (length states - c)))) (filter_all (counts states) (map f (range_with_len 0 c)) prefix)
      ∙ ap (λ (ps : List ℕ). map f (range_with_len 0 c) ++ ps) (filter_none (counts states) (map f (range_with_len (0 + c) (length states - c))) back)
      ∙ append-nil (map f (range_with_len 0 c))

  first-none : (why : Why) → ((k : ℕ) → k < length states → shows why states (turned (length states) oldest k) ≡ false) → first_of why states ≡ None
  first-none why none =
      let named : ℕ → Damaged = λ place. record { sector = place; why = why } in
      let each = by_distance (length states) oldest (λ (place : ℕ). shows why states place ≡ false) r.within none in
      ap (λ (o : Option ℕ). option_map named o) (find_nothing (shows why states) 0 (length states) (λ k low high. each k (omega arith)))

  pub undamaged : AreClean states oldest (min used (length states - 1)) → first_damage states ≡ None
  unfolding first_damage
  undamaged clean =
      let header : first_of BadHeader states ≡ None = first-none BadHeader (λ k lt. elim (cases_lt k used) [
        | inl below ↦ and_right (is_used states (turned (length states) oldest k)) (not (at k).has_header) (not_from_true (at k).has_header (r.headers k below))
        | inr above ↦ and_left (is_used states (turned (length states) oldest k)) (not (at k).has_header) (free-there k above lt)
      ]) in
      let full : first_of Overfull states ≡ None = first-none Overfull (λ k lt. elim (cases_lt k (min used (length states - 1))) [
        | inl below ↦ and_right (counts states (turned (length states) oldest k)) (at k).is_overfull (clean k below).0
        | inr above ↦ and_left (counts states (turned (length states) oldest k)) (at k).is_overfull (counts-no k above lt)
      ]) in
      let dirty : first_of Dirty states ≡ None = first-none Dirty (λ k lt. elim (cases_lt k (min used (length states - 1))) [
        | inl below ↦ and_right (counts states (turned (length states) oldest k)) (at k).is_dirty (clean k below).1
        | inr above ↦ and_left (counts states (turned (length states) oldest k)) (at k).is_dirty (counts-no k above lt)
      ]) in
      rw (header, no-second, full, dirty) refl

-- ---- and an area that is not damaged has that form

or_none : {X : Type 0} (a b : Option X) → option_or a b ≡ None → (a ≡ None) × (b ≡ None)
or_none None b e = (refl, e)
or_none (Some x) b e = absurd (some-not_none x e)
  where
    some-not_none : {X : Type 0} (x : X) → Some x ≡ None → ⊥
    some-not_none x e = cc

map_none : {X Y : Type 0} (f : X → Y) (o : Option X) → option_map f o ≡ None → o ≡ None
map_none f None e = refl
map_none f (Some x) e = absurd (some-not_none (f x) e)
  where
    some-not_none : {X : Type 0} (x : X) → Some x ≡ None → ⊥
    some-not_none x e = cc

some_or_none : (o : Option ℕ) → (o ≡ None) ⊎ ((p : ℕ) × (o ≡ Some p))
some_or_none None = inl refl
some_or_none (Some p) = inr (p, refl)

other-false : (a b : Bool) → (a && b) ≡ false → a ≡ true → b ≡ false
other-false a b e is = elim (and_cases a b e) [
  | inl off ↦ absurd (both_ways a off is)
  | inr off ↦ off
]

pub record IsUndamaged (states : List SectorState) : Type 0 where
  pub headers : find (shows BadHeader states) (places states) ≡ None
  pub sequence : second_start states ≡ None
  pub overfull : find (shows Overfull states) (places states) ≡ None
  pub dirty : find (shows Dirty states) (places states) ≡ None

pub by_kind : (states : List SectorState) → first_damage states ≡ None → IsUndamaged states
unfolding first_damage
by_kind states none =
    let a = or_none (first_of BadHeader states) _ none in
    let b = or_none (option_map (λ _. record { sector = 0; why = BadSequence }) (second_start states)) _ a.1 in
    let c = or_none (first_of Overfull states) (first_of Dirty states) b.1 in
    record {
      headers = map_none _ (find (shows BadHeader states) (places states)) a.0;
      sequence = map_none _ (second_start states) b.0;
      overfull = map_none _ (find (shows Overfull states) (places states)) c.0;
      dirty = map_none _ (find (shows Dirty states) (places states)) c.1;
    }

module _ (states : List SectorState) (several : 2 ≤ length states) (few : length states ≤ 64) (none : first_damage states ≡ None) where
  kinds : IsUndamaged states
  kinds = by_kind states none

  first-cases : (find (opens_run states) (places states) ≡ None) ⊎ ((p : ℕ) × (find (opens_run states) (places states) ≡ Some p))
  first-cases = some_or_none (find (opens_run states) (places states))

  oldest-within : oldest_place states < length states
  unfolding oldest_place
  oldest-within = elim first-cases [
    | inl nothing ↦ let e : unwrap_or (find (opens_run states) (places states)) 0 ≡ 0 = ap (λ (o : Option ℕ). unwrap_or o 0) nothing in omega arith
    | inr (p, some) ↦
        let e : unwrap_or (find (opens_run states) (places states)) 0 ≡ p = ap (λ (o : Option ℕ). unwrap_or o 0) some in
        let first = found_some (opens_run states) 0 (length states) p some in
        omega (arith, first.below)
  ]

  second-there : find (opens_run states) (range_with_len (oldest_place states + 1) (length states - (oldest_place states + 1))) ≡ None
  unfolding second_start
  second-there = kinds.sequence

  second-from : (p : ℕ) → oldest_place states ≡ p → find (opens_run states) (range_with_len (p + 1) (length states - (p + 1))) ≡ None
  second-from p is = sym (ap (λ (q : ℕ). find (opens_run states) (range_with_len (q + 1) (length states - (q + 1)))) is) ∙ second-there

  only-oldest : (place : ℕ) → place < length states → (place ≡ oldest_place states → ⊥) → opens_run states place ≡ false
  unfolding oldest_place
  only-oldest place lt apart = elim first-cases [
    | inl nothing ↦ found_none (opens_run states) 0 (length states) nothing place (omega arith) (omega arith)
    | inr (p, some) ↦
        let is : oldest_place states ≡ p = ap (λ (o : Option ℕ). unwrap_or o 0) some in
        let first = found_some (opens_run states) 0 (length states) p some in
        elim (cases_order place p) [
          | inl same ↦ absurd (apart (same ∙ sym is))
          | inr (inl below) ↦ first.none_before place (omega arith) below
          | inr (inr above) ↦ found_none (opens_run states) (p + 1) (length states - (p + 1)) (second-from p is) place (omega arith) (omega arith)
        ]
  ]

  abbrev here : ℕ → SectorState
  here k = state_at states (turned (length states) (oldest_place states) k)

  not-opening : (k : ℕ) → k + 1 < length states → opens_run states (turned (length states) (oldest_place states) (k + 1)) ≡ false
  not-opening k lt = only-oldest (turned (length states) (oldest_place states) (k + 1)) (turned-within (length states) (oldest_place states) (k + 1) oldest-within (omega arith))
      (λ (e : turned (length states) (oldest_place states) (k + 1) ≡ oldest_place states).
      let same = turned-same (length states) (oldest_place states) (k + 1) 0 oldest-within lt (omega arith) (e ∙ sym (turned-zero (length states) (oldest_place states) oldest-within)) in omega arith)

  -- a used one but the oldest continues the one before it
  continues-next : (k : ℕ) → k + 1 < length states → is_used states (turned (length states) (oldest_place states) (k + 1)) ≡ true → (is_used states (turned (length states) (oldest_place states) k) ≡ true) × ((here (k + 1)).id ≡ ((here k).id + 1) % 65536)
  continues-next k lt there =
      let place = turned (length states) (oldest_place states) (k + 1) in
      let follows : continues states place ≡ true = not-false (continues states place) (other-false (is_used states place) (not (continues states place)) (not-opening k lt) there) in
      let b = before-turned (length states) (oldest_place states) k oldest-within lt in
      let parts = and_parts (is_used states (before (length states) place)) (eqb (here (k + 1)).id (((state_at states (before (length states) place)).id + 1) % 65536)) follows in (
        subst (λ (p : ℕ). is_used states p ≡ true) b parts.0,
        subst (λ (p : ℕ). (here (k + 1)).id ≡ ((state_at states p).id + 1) % 65536) b (eqb-true (here (k + 1)).id (((state_at states (before (length states) place)).id + 1) % 65536) parts.1),
      )

  module _ (used : ℕ) (most : used ≤ length states) (used_ones : (k : ℕ) → k < used → (here k).is_free ≡ false) (stops : used < length states → (here used).is_free ≡ true) where
    free-on : (j : ℕ) → used + j < length states → (here (used + j)).is_free ≡ true
    free-on zero lt = let e : used + 0 ≡ used = omega arith in ap (λ (k : ℕ). (here k).is_free) e ∙ stops (omega arith)
    free-on (suc j) lt =
        let e : used + suc j ≡ used + j + 1 = omega arith in
        let earlier = free-on j (omega arith) in
        ap (λ (k : ℕ). (here k).is_free) e ∙ (elim (cases_Bool (here (used + j + 1)).is_free) [
          | inl free ↦ free
          | inr taken ↦
              let next = continues-next (used + j) (omega arith) (not_from_false (here (used + j + 1)).is_free taken) in
              absurd (both_ways (here (used + j)).is_free (not-true (here (used + j)).is_free next.0) earlier)
        ])

    empty-first : used ≡ 0 → oldest_place states ≡ 0
    unfolding oldest_place
    empty-first none = elim first-cases [
      | inl nothing ↦ ap (λ (o : Option ℕ). unwrap_or o 0) nothing
      | inr (p, some) ↦
          let is : oldest_place states ≡ p = ap (λ (o : Option ℕ). unwrap_or o 0) some in
          let first = found_some (opens_run states) 0 (length states) p some in
          let taken = and_parts (is_used states p) (not (continues states p)) first.passes in
          let at_used : (here used).is_free ≡ (state_at states p).is_free =
          ap (λ (k : ℕ). (here k).is_free) none ∙ ap (λ (q : ℕ). (state_at states q).is_free) (turned-zero (length states) (oldest_place states) oldest-within ∙ is) in
          absurd (both_ways (state_at states p).is_free (not-true (state_at states p).is_free taken.0) (sym at_used ∙ stops (omega arith)))
    ]

    pub ring-form : IsRing states (oldest_place states) used
    ring-form = record {
      several = several;
      few = few;
      within = oldest-within;
      most = most;
      empty = empty-first;
      used_ones = used_ones;
      free_ones = λ k le lt. let e : used + (k - used) ≡ k = omega arith in subst (λ (j : ℕ). (here j).is_free ≡ true) e (free-on (k - used) (omega arith));
      headers = λ k lt.
          let place = turned (length states) (oldest_place states) k in
          let in_area = turned-within (length states) (oldest_place states) k oldest-within (omega arith) in
          let no = found_none (shows BadHeader states) 0 (length states) kinds.headers place (omega arith) (omega arith) in
          not-false (here k).has_header (other-false (is_used states place) (not (here k).has_header) no (not_from_false (here k).is_free (used_ones k lt)));
      ids = λ k lt. (continues-next k (omega arith) (not_from_false (here (k + 1)).is_free (used_ones (k + 1) lt))).1;
    }

    pub clean-form : AreClean states (oldest_place states) (min used (length states - 1))
    clean-form k lt =
        let place = turned (length states) (oldest_place states) k in
        let in_area = turned-within (length states) (oldest_place states) k oldest-within (omega arith) in
        let yes = counts-yes states (oldest_place states) used ring-form k lt in
        let full = found_none (shows Overfull states) 0 (length states) kinds.overfull place (omega arith) (omega arith) in
        let dirty = found_none (shows Dirty states) 0 (length states) kinds.dirty place (omega arith) (omega arith) in
        (other-false (counts states place) (here k).is_overfull full yes, other-false (counts states place) (here k).is_dirty dirty yes)
