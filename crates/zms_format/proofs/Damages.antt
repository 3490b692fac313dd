-- A ZMS area is damaged exactly where a ring of sectors is that are read so: the forms of a ring are those of an undamaged area.
use Rattle.std.proofs.Common.{◌≡◌, ℕ, zero, suc, ◌+◌, ◌-◌, ◌<◌, ◌≤◌, Bool, true, false, not, ◌&&◌, ◌||◌, cond, eqb, List, length, Option, Some, None, refl, sym, ap, subst, ◌∙◌, inl, inr, arith}
use Rattle.std.specs.List.{find, list_all, range_with_len, slice_get}
use Rattle.std.specs.Option.{option_map, option_or}
use Rattle.std.specs.Prelude.{unwrap_or}
use Rattle.std.proofs.lemmas.Bool.{false≢true, cases_Bool, cases_eq, cond-true, cond-false, and_parts, or_parts, ne_eqb, eq-eqb}
use Rattle.flash_sim.specs.declared.flash.Kind.{Kind}
use Rattle.flash_sim.specs.declared.flash.Kind.TheVariants.{Rewritable}
use Rattle.flash_map.specs.declared.faults.Why.{Why}
use Rattle.flash_map.specs.declared.faults.Why.TheVariants.{AllClosed, TwoOpen, Dirty, NoFence, Overfull}
use Rattle.flash_map.specs.declared.faults.Damaged.{Damaged}
use Rattle.flash_map.specs.Area.{sector_at}
use Rattle.item_laws.specs.Area.{next, previous, places, is_closed_at, is_blank_at, follows_closed, openings, open_sector, counts_at, looked_at, first_of_kind, first_damage}
use Rattle.item_laws.specs.Forms.{IsForm}
use Rattle.item_laws.proofs.Places.{All-range, find_none}
use Rattle.item_laws.proofs.AreaReads.{counts_closed, counts_open}
use Rattle.item_laws.proofs.RingSteps.{reads}
use Rattle.item_laws.proofs.Searches.{second-filter, second-none}
use Rattle.item_laws.proofs.Stays.{open_within}
use Rattle.item_laws.proofs.Undamaged.{HasNoDamage, rows, only-opening, opening-is, option_cases, cond_none, or_none, no_kind, find_none_all, at_range, found, find-filter, form-of}
use Rattle.zms_cycle.specs.Sector.{has_guard, is_sound, holds_too_much, is_overfull, pairs}
use Rattle.zms_cycle.proofs.Frames.{sound_of}
use Rattle.zms_format.specs.Area.{is_begun, may_close, is_unused, reading, plain, open_place, is_second_open, is_dirty_at, is_overfull_at, damage_of}
use Rattle.zms_format.specs.Opens.{EachHasOneOpen, DamageHasThreeKinds}
use Rattle.zms_format.specs.Parts.{EachHasItsPart}
use Rattle.zms_format.proofs.Sectors.{may_close-never, closed_may, unused-is, unused-by, unused_may, unused_roomy}

-- What an undamaged area is, row by row.

pub record IsClean (kind : Kind) (sectors : List (List ℕ)) : Type 0 where
  pub some_open : list_all (is_closed_at plain sectors) (places sectors) ≡ false
  pub one_open : (k : ℕ) → k < length sectors → is_second_open sectors (open_place sectors) k ≡ false
  pub closable : (k : ℕ) → k < length sectors → is_dirty_at kind sectors (open_place sectors) k ≡ false
  pub roomy : (k : ℕ) → k < length sectors → is_overfull_at sectors (open_place sectors) k ≡ false

pub clean_of : (kind : Kind) (sectors : List (List ℕ)) → damage_of kind sectors ≡ None → IsClean kind sectors
unfolding damage_of
clean_of kind sectors none =
    let a = cond_none (list_all (is_closed_at plain sectors) (places sectors)) (record { sector = 0; why = AllClosed }) _ none in
    let b = or_none (first_of_kind TwoOpen (is_second_open sectors (open_place sectors)) sectors) _ a.1 in
    let c = or_none (first_of_kind Dirty (is_dirty_at kind sectors (open_place sectors)) sectors) (first_of_kind Overfull (is_overfull_at sectors (open_place sectors)) sectors) b.1 in
    record {
      some_open = a.0;
      one_open = no_kind TwoOpen (is_second_open sectors (open_place sectors)) sectors b.0;
      closable = no_kind Dirty (is_dirty_at kind sectors (open_place sectors)) sectors c.0;
      roomy = no_kind Overfull (is_overfull_at sectors (open_place sectors)) sectors c.1;
    }

none_of_kind : (why : Why) (p : ℕ → Bool) (sectors : List (List ℕ)) → ((k : ℕ) → k < length sectors → p k ≡ false) → first_of_kind why p sectors ≡ None
none_of_kind why p sectors none = ap (option_map (λ (place : ℕ). record { sector = place; why = why })) (find_none p (places sectors) (All-range (λ k. p k ≡ false) 0 (length sectors) (λ k low high. none k (omega arith))))

damage_none : (kind : Kind) (sectors : List (List ℕ)) → IsClean kind sectors → damage_of kind sectors ≡ None
unfolding damage_of
damage_none kind sectors clean =
    let last : Option Damaged = first_of_kind Overfull (is_overfull_at sectors (open_place sectors)) sectors in
    let later : Option Damaged = option_or (first_of_kind Dirty (is_dirty_at kind sectors (open_place sectors)) sectors) last in
    ap (λ (t : Bool). cond t (Some (record { sector = 0; why = AllClosed })) (option_or (first_of_kind TwoOpen (is_second_open sectors (open_place sectors)) sectors) later)) clean.some_open
    ∙ ap (λ (o : Option Damaged). option_or o later) (none_of_kind TwoOpen (is_second_open sectors (open_place sectors)) sectors clean.one_open)
    ∙ ap (λ (o : Option Damaged). option_or o last) (none_of_kind Dirty (is_dirty_at kind sectors (open_place sectors)) sectors clean.closable)
    ∙ none_of_kind Overfull (is_overfull_at sectors (open_place sectors)) sectors clean.roomy

module _ (kind : Kind) (sectors : List (List ℕ)) where
  -- how the ring reads the fence of a sector
  abbrev fence_at : ℕ → Bool
  fence_at k = has_guard (sector_at sectors k) && may_close kind (sector_at sectors k)

  ring_none : HasNoDamage (reading kind) sectors → first_damage (reading kind) sectors ≡ None
  unfolding first_damage
  ring_none h =
      let dirty = none_of_kind Dirty (λ k. not (is_closed_at (reading kind) sectors k) && not (eqb k (open_sector (reading kind) sectors)) && not (is_blank_at (reading kind) sectors k)) sectors h.clean in
      let fence = none_of_kind NoFence (λ k. looked_at (reading kind) sectors (open_sector (reading kind) sectors) k && not ((reading kind).has_fence (sector_at sectors k))) sectors h.fenced in
      let full = none_of_kind Overfull (λ k. looked_at (reading kind) sectors (open_sector (reading kind) sectors) k && holds_too_much (sector_at sectors k)) sectors h.roomy in
      let last : Option Damaged = first_of_kind Overfull (λ k. looked_at (reading kind) sectors (open_sector (reading kind) sectors) k && holds_too_much (sector_at sectors k)) sectors in
      let later : Option Damaged = option_or (first_of_kind NoFence (λ k. looked_at (reading kind) sectors (open_sector (reading kind) sectors) k && not ((reading kind).has_fence (sector_at sectors k))) sectors) last in
      let dirty_on : Option Damaged = option_or (first_of_kind Dirty (λ k. not (is_closed_at (reading kind) sectors k) && not (eqb k (open_sector (reading kind) sectors)) && not (is_blank_at (reading kind) sectors k)) sectors) later in
      ap (λ (t : Bool). cond t (Some (record { sector = 0; why = AllClosed })) (option_or (option_map (λ (p : ℕ). record { sector = p; why = TwoOpen }) (slice_get (openings (reading kind) sectors) 1)) dirty_on)) h.some_open
      ∙ ap (λ (o : Option ℕ). option_or (option_map (λ (p : ℕ). record { sector = p; why = TwoOpen }) o) dirty_on) h.one_opening
      ∙ ap (λ (o : Option Damaged). option_or o later) dirty ∙ ap (λ (o : Option Damaged). option_or o last) fence ∙ full

-- Where no sector follows a closed one and some sector is not closed, none is.

going_down : (closed : ℕ → Bool) (n : ℕ) → ((k : ℕ) → k + 1 < n → closed (k + 1) ≡ false → closed k ≡ false) → (m k : ℕ) → k + m < n → closed (k + m) ≡ false → closed k ≡ false
going_down closed n step zero k lt free = let same : k + 0 ≡ k = omega arith in sym (ap closed same) ∙ free
going_down closed n step (suc m) k lt free =
    let same : k + suc m ≡ k + m + 1 = omega arith in
    going_down closed n step m k (omega arith) (step (k + m) (omega arith) (sym (ap closed same) ∙ free))

follows_not : (here before : Bool) → ((not here && before) ≡ true → ⊥) → here ≡ false → before ≡ false
follows_not true before none free = absurd (false≢true (sym free))
follows_not false true none free = absurd (none refl)
follows_not false false none free = refl

none_closed : (sectors : List (List ℕ)) → ((k : ℕ) → k < length sectors → follows_closed plain sectors k ≡ true → ⊥) → (some : ℕ) → some < length sectors → is_closed_at plain sectors some ≡ false → (k : ℕ) → k < length sectors → is_closed_at plain sectors k ≡ false
none_closed sectors none some inside free k lt =
    let n : ℕ = length sectors in
    let step : (j : ℕ) → j + 1 < length sectors → is_closed_at plain sectors (j + 1) ≡ false → is_closed_at plain sectors j ≡ false =
    λ j within open_after.
    let back : j + 1 - 1 ≡ j = omega arith in
    let before : previous sectors (j + 1) ≡ j = cond-false (eqb (j + 1) 0) (length sectors - 1) (j + 1 - 1) (ne_eqb (j + 1) 0 (λ e. omega arith)) ∙ back in
    sym (ap (is_closed_at plain sectors) before) ∙ follows_not (is_closed_at plain sectors (j + 1)) (is_closed_at plain sectors (previous sectors (j + 1))) (none (j + 1) within) open_after in
    let down = going_down (is_closed_at plain sectors) (length sectors) step in
    let all : 0 + some ≡ some = omega arith in
    let first : is_closed_at plain sectors 0 ≡ false = down some 0 (omega arith) (ap (is_closed_at plain sectors) all ∙ free) in
    let last : is_closed_at plain sectors (length sectors - 1) ≡ false = follows_not (is_closed_at plain sectors 0) (is_closed_at plain sectors (previous sectors 0)) (none 0 (omega arith)) first in
    let up : k + (length sectors - 1 - k) ≡ length sectors - 1 = omega arith in
    down (length sectors - 1 - k) k (omega arith) (ap (is_closed_at plain sectors) up ∙ last)

not_all_at : (p : ℕ → Bool) (a n : ℕ) → list_all p (range_with_len a n) ≡ false → (k : ℕ) × (k < a + n) × (p k ≡ false)
not_all_at p a zero e = absurd (false≢true (sym e))
not_all_at p a (suc n) e =
    elim (cases_Bool (p a)) [
      | inr fails ↦ (a, omega arith, fails)
      | inl passes ↦
          let tail = not_all_at p (a + 1) n (sym (ap (λ (t : Bool). t && list_all p (range_with_len (a + 1) n)) passes) ∙ e) in
          let lt = tail.1 in
          (tail.0, omega arith, tail.2)
    ]

-- The open sector is the same one where each sector that counts is closed or can be: where none is closed, each counts.

find_same : (p q : ℕ → Bool) (a n : ℕ) → ((k : ℕ) → a ≤ k → k < a + n → p k ≡ q k) → find p (range_with_len a n) ≡ find q (range_with_len a n)
find_same p q a zero same = refl
find_same p q a (suc n) same =
    ap (λ (t : Bool). cond t (Some a) (find p (range_with_len (a + 1) n))) (same a (omega arith) (omega arith))
    ∙ ap (λ (o : Option ℕ). cond (q a) (Some a) o) (find_same p q (a + 1) n (λ k le lt. same k (omega arith) (omega arith)))

module _ (kind : Kind) (sectors : List (List ℕ)) where
  -- where each sector is closed or can be
  open_may : ((k : ℕ) → k < length sectors → may_close kind (sector_at sectors k) ≡ true) → open_sector (reading kind) sectors ≡ open_place sectors
  open_may may =
      elim (option_cases (slice_get (openings plain sectors) 0)) [
        | inr (p, some) ↦ opening-is (reading kind) sectors (Some p) some ∙ sym (opening-is plain sectors (Some p) some)
        | inl empty ↦
            let same = find_same (λ k. not (is_blank_at (reading kind) sectors k)) (λ k. not (is_blank_at plain sectors k)) 0 (length sectors)
            (λ k le lt. ap not (unused-by kind (sector_at sectors k) (may k (omega arith)))) in
            opening-is (reading kind) sectors None empty ∙ ap (λ (o : Option ℕ). unwrap_or o 0) same ∙ sym (opening-is plain sectors None empty)
      ]

  -- two cases: some sector follows a closed one, or none is closed
  open_same : list_all (is_closed_at plain sectors) (places sectors) ≡ false → (((k : ℕ) → k < length sectors → is_closed_at plain sectors k ≡ false) → (k : ℕ) → k < length sectors → may_close kind (sector_at sectors k) ≡ true)
      → open_sector (reading kind) sectors ≡ open_place sectors
  open_same some_open may =
      elim (option_cases (slice_get (openings plain sectors) 0)) [
        | inr (p, some) ↦ opening-is (reading kind) sectors (Some p) some ∙ sym (opening-is plain sectors (Some p) some)
        | inl empty ↦
            let none : (k : ℕ) → k < length sectors → follows_closed plain sectors k ≡ true → ⊥ =
            λ k lt follows. false≢true (sym (at_range (λ k. follows_closed plain sectors k ≡ false) (length sectors) k (find_none_all (follows_closed plain sectors) (places sectors) (sym (find-filter (follows_closed plain sectors) (places sectors)) ∙ empty)) lt) ∙ follows) in
            let start = not_all_at (is_closed_at plain sectors) 0 (length sectors) some_open in
            let start_lt = start.1 in
            open_may (may (none_closed sectors none start.0 (omega arith) start.2))
      ]

-- where no sector is closed, each counts
each_counts : (sectors : List (List ℕ)) (place k : ℕ) → place < length sectors → ((j : ℕ) → j < length sectors → is_closed_at plain sectors j ≡ false) → counts_at plain sectors place k ≡ true
each_counts sectors place k within none =
    let inside : next sectors place < length sectors = next_inside (length sectors) place within in
    ap (λ (t : Bool). not (t && eqb k (cond ((reading Rewritable).has_gc_done (sector_at sectors place)) (next sectors place) place))) (none (next sectors place) inside)
  where
    next_inside : (n p : ℕ) → p < n → cond (eqb (p + 1) n) 0 (p + 1) < n
    next_inside n p lt = elim (cases_eq (p + 1) n) [
      | inl last ↦ let is = cond-true (eqb (p + 1) n) 0 (p + 1) (eq-eqb (p + 1) n last) in omega arith
      | inr more ↦ let is = cond-false (eqb (p + 1) n) 0 (p + 1) (ne_eqb (p + 1) n more) in omega arith
    ]

-- One sector of both.

both_rows : (looked guard full : Bool) → (looked && not guard) ≡ false → (looked && full) ≡ false → (looked && (not guard || full)) ≡ false
both_rows false guard full a b = refl
both_rows true guard full a b = ap (λ (t : Bool). t || full) a ∙ b

one_row : (looked guard full : Bool) → (looked && (not guard || full)) ≡ false → ((looked && not guard) ≡ false) × ((looked && full) ≡ false)
one_row false guard full h = (refl, refl)
one_row true guard full h = or_parts (not guard) full h

-- not closed, not the open one, and in use: slot 2 is valid
dirty_row : (closed opened begun used before : Bool) → (begun || closed) ≡ used → (not closed && (not opened && (begun || before))) ≡ false → (not closed && not opened && used) ≡ false
dirty_row true opened begun used before is h = refl
dirty_row false true begun used before is h = refl
dirty_row false false false used before is h = sym is
dirty_row false false true used before is h = absurd (false≢true (sym h))

closed_row : (closed opened used : Bool) → closed ≡ true → (not closed && not opened && used) ≡ false
closed_row true opened used is = refl
closed_row false opened used is = absurd (false≢true is)

opened_row : (closed opened used : Bool) → opened ≡ true → (not closed && not opened && used) ≡ false
opened_row true opened used is = refl
opened_row false true used is = refl
opened_row false false used is = absurd (false≢true is)

-- a second open sector is in use on a bank that is never erased
second_row : (closed opened begun unused plain_unused before : Bool) → (begun || closed) ≡ not plain_unused → (unused ≡ true → plain_unused ≡ true) → (not closed && not opened && not unused) ≡ false → (opened ≡ false → (not closed && before) ≡ true → ⊥) → (not closed && (not opened && (begun || before))) ≡ false
second_row true opened begun unused plain_unused before is same h none = refl
second_row false true begun unused plain_unused before is same h none = refl
second_row false false true true plain_unused before is same h none = absurd (false≢true (sym (is ∙ ap not (same refl))))
second_row false false false true plain_unused true is same h none = absurd (none refl refl)
second_row false false false true plain_unused false is same h none = refl
second_row false false begun false plain_unused before is same h none = absurd (false≢true (sym h))

-- a sector that counts is closed or can be
closable_row : (counts may : Bool) → (counts && not may) ≡ false → counts ≡ true → may ≡ true
closable_row true true h c = refl
closable_row true false h c = absurd (false≢true (sym h))
closable_row false may h c = absurd (false≢true c)

fence_may : (counts unused guard may : Bool) → (unused ≡ true → may ≡ true) → ((counts && not unused) && not (guard && may)) ≡ false → counts ≡ true → may ≡ true
fence_may true true guard may by h c = by refl
fence_may true false true true by h c = refl
fence_may true false true false by h c = absurd (false≢true (sym h))
fence_may true false false true by h c = refl
fence_may true false false false by h c = absurd (false≢true (sym h))
fence_may false unused guard may by h c = absurd (false≢true c)

not_dirty : (counts may : Bool) → (counts ≡ true → may ≡ true) → (counts && not may) ≡ false
not_dirty true may by = ap not (by refl)
not_dirty false may by = refl

fence_row : (looked guard may : Bool) → may ≡ true → (looked && not guard) ≡ false → (looked && not (guard && may)) ≡ false
fence_row looked true true is h = h
fence_row looked false true is h = h
fence_row looked guard false is h = absurd (false≢true is)

fence_back : (looked guard may : Bool) → may ≡ true → (looked && not (guard && may)) ≡ false → (looked && not guard) ≡ false
fence_back looked true true is h = h
fence_back looked false true is h = h
fence_back looked guard false is h = absurd (false≢true is)

-- the fence and the costs of a sector, on its bank and as on one that is never erased
ring_rows : (counts unused plain_unused guard full may : Bool) → (counts ≡ true → may ≡ true) → (may ≡ true → unused ≡ plain_unused) → ((counts && not plain_unused) && (not guard || full)) ≡ false
    → (((counts && not unused) && not (guard && may)) ≡ false) × (((counts && not unused) && full) ≡ false)
ring_rows false unused plain_unused guard full may by same h = (refl, refl)
ring_rows true unused plain_unused guard full may by same h =
    let is = by refl in
    let rows = one_row (not plain_unused) guard full h in (
      ap (λ (t : Bool). not t && not (guard && may)) (same is) ∙ fence_row (not plain_unused) guard may is rows.0,
      ap (λ (t : Bool). not t && full) (same is) ∙ rows.1,
    )

area_row : (counts unused plain_unused guard full may : Bool) → (counts ≡ true → may ≡ true) → (may ≡ true → unused ≡ plain_unused) → ((counts && not unused) && not (guard && may)) ≡ false → ((counts && not unused) && full) ≡ false
    → ((counts && not plain_unused) && (not guard || full)) ≡ false
area_row false unused plain_unused guard full may by same fence room = refl
area_row true unused plain_unused guard full may by same fence room =
    let is = by refl in
    ap (λ (t : Bool). not t && (not guard || full)) (sym (same is)) ∙ both_rows (not unused) guard full (fence_back (not unused) guard may is fence) room

second_is : (closed opened begun before : Bool) → opened ≡ false → (not closed && before) ≡ true → (not closed && (not opened && (begun || before))) ≡ true
second_is true opened begun before apart follows = follows
second_is false true begun before apart follows = sym apart
second_is false false true before apart follows = refl
second_is false false false before apart follows = follows

-- The two damages.

find_low : (p : ℕ → Bool) (a n k : ℕ) → find p (range_with_len a n) ≡ Some k → a ≤ k
find_low p a zero k e = absurd (some_none k (sym e))
  where
    some_none : (x : ℕ) → Some x ≡ None → ⊥
    some_none x e = cc
find_low p a (suc n) k e =
    elim (cases_Bool (p a)) [
      | inl here ↦ let is : a ≡ k = same_some a k (sym (ap (λ (t : Bool). cond t (Some a) (find p (range_with_len (a + 1) n))) here) ∙ e) in omega arith
      | inr apart ↦ let more = find_low p (a + 1) n k (sym (ap (λ (t : Bool). cond t (Some a) (find p (range_with_len (a + 1) n))) apart) ∙ e) in omega arith
    ]
  where
    same_some : (x y : ℕ) → Some x ≡ Some y → x ≡ y
    same_some x y e = cc

no_second : (kind : Kind) (sectors : List (List ℕ)) → IsClean kind sectors → slice_get (openings plain sectors) 1 ≡ None
no_second kind sectors clean =
    elim (option_cases (find (follows_closed plain sectors) (places sectors))) [
      | inl none ↦ second-none (follows_closed plain sectors) (places sectors) none
      | inr (k, first) ↦
          let is : open_place sectors ≡ k = opening-is plain sectors (Some k) (find-filter (follows_closed plain sectors) (places sectors) ∙ first) in
          let second = second-filter (follows_closed plain sectors) 0 (length sectors) k first in
          elim (option_cases (find (follows_closed plain sectors) (range_with_len (k + 1) (0 + length sectors - (k + 1))))) [
            | inl none ↦ second ∙ none
            | inr (j, some) ↦
                let above = find_low (follows_closed plain sectors) (k + 1) (0 + length sectors - (k + 1)) j some in
                let at = found (follows_closed plain sectors) (k + 1) (0 + length sectors - (k + 1)) j some in
                let lt = at.0 in
                let apart : eqb j (open_place sectors) ≡ false = ne_eqb j (open_place sectors) (λ e. omega arith) in
                absurd (false≢true (sym (clean.one_open j (omega arith)) ∙ second_is (is_closed_at plain sectors j) (eqb j (open_place sectors)) (is_begun (sector_at sectors j)) (is_closed_at plain sectors (previous sectors j)) apart at.1))
          ]
    ]

-- a sector that is neither closed nor the open one counts
counts_other : (sectors : List (List ℕ)) (place k : ℕ) → is_closed_at plain sectors k ≡ false → eqb k place ≡ false → counts_at plain sectors place k ≡ true
counts_other sectors place k free apart =
    elim (cases_Bool (is_closed_at plain sectors (next sectors place))) [
      | inr rest ↦ sym (counts_open plain sectors place k rest)
      | inl shut ↦
          elim (cases_Bool (plain.has_gc_done (sector_at sectors place))) [
            | inl done ↦
                sym (counts_closed plain sectors place k (next sectors place) true shut done refl)
                ∙ ap not (ne_eqb k (next sectors place) (λ e. false≢true (sym free ∙ ap (is_closed_at plain sectors) e ∙ shut)))
            | inr unmarked ↦ sym (counts_closed plain sectors place k place false shut unmarked refl) ∙ ap not apart
          ]
    ]

some_sector : (sectors : List (List ℕ)) → list_all (is_closed_at plain sectors) (places sectors) ≡ false → 0 < length sectors
some_sector sectors some_open = let start = not_all_at (is_closed_at plain sectors) 0 (length sectors) some_open in let lt = start.1 in omega arith

module _ (kind : Kind) (sectors : List (List ℕ)) where
  -- each sector that counts is closed or can be, where the area is not damaged
  clean_may : IsClean kind sectors → (k : ℕ) → k < length sectors → counts_at plain sectors (open_place sectors) k ≡ true → may_close kind (sector_at sectors k) ≡ true
  clean_may clean k lt counts = closable_row (counts_at plain sectors (open_place sectors) k) (may_close kind (sector_at sectors k)) (clean.closable k lt) counts

  clean_open : IsClean kind sectors → open_sector (reading kind) sectors ≡ open_place sectors
  clean_open clean =
      let within = open_within plain sectors (some_sector sectors clean.some_open) in
      open_same kind sectors clean.some_open (λ none k lt. clean_may clean k lt (each_counts sectors (open_place sectors) k within none))

  -- and where the ring is not
  ring_may : HasNoDamage (reading kind) sectors → (k : ℕ) → k < length sectors → counts_at plain sectors (open_sector (reading kind) sectors) k ≡ true → may_close kind (sector_at sectors k) ≡ true
  ring_may h k lt counts =
      fence_may (counts_at plain sectors (open_sector (reading kind) sectors) k) (is_unused kind (sector_at sectors k)) (has_guard (sector_at sectors k)) (may_close kind (sector_at sectors k)) (unused_may kind (sector_at sectors k)) (h.fenced k lt) counts

  ring_open : HasNoDamage (reading kind) sectors → open_sector (reading kind) sectors ≡ open_place sectors
  ring_open h =
      let within = open_within (reading kind) sectors (some_sector sectors h.some_open) in
      open_same kind sectors h.some_open (λ none k lt. ring_may h k lt (each_counts sectors (open_sector (reading kind) sectors) k within none))

  in_use_same : (k : ℕ) → may_close kind (sector_at sectors k) ≡ true → is_unused kind (sector_at sectors k) ≡ is_unused Rewritable (sector_at sectors k)
  in_use_same k may = unused-by kind (sector_at sectors k) may

  clean_dirty : IsClean kind sectors → (k : ℕ) → k < length sectors → (not (is_closed_at plain sectors k) && not (eqb k (open_place sectors)) && not (is_unused kind (sector_at sectors k))) ≡ false
  clean_dirty clean k lt =
      elim (cases_Bool (is_closed_at plain sectors k)) [
        | inl shut ↦ closed_row (is_closed_at plain sectors k) (eqb k (open_place sectors)) (not (is_unused kind (sector_at sectors k))) shut
        | inr free ↦
            elim (cases_Bool (eqb k (open_place sectors))) [
              | inl opened ↦ opened_row (is_closed_at plain sectors k) (eqb k (open_place sectors)) (not (is_unused kind (sector_at sectors k))) opened
              | inr apart ↦
                  ap (λ (t : Bool). not (is_closed_at plain sectors k) && not (eqb k (open_place sectors)) && not t) (in_use_same k (clean_may clean k lt (counts_other sectors (open_place sectors) k free apart)))
                  ∙ dirty_row (is_closed_at plain sectors k) (eqb k (open_place sectors)) (is_begun (sector_at sectors k)) (not (is_unused Rewritable (sector_at sectors k))) (is_closed_at plain sectors (previous sectors k)) (unused-is (sector_at sectors k)) (clean.one_open k lt)
            ]
      ]

  clean_rows : IsClean kind sectors → (k : ℕ) → k < length sectors
      → ((looked_at (reading kind) sectors (open_place sectors) k && not (fence_at kind sectors k)) ≡ false) × ((looked_at (reading kind) sectors (open_place sectors) k && holds_too_much (sector_at sectors k)) ≡ false)
  clean_rows clean k lt =
      ring_rows (counts_at plain sectors (open_place sectors) k) (is_unused kind (sector_at sectors k)) (is_unused Rewritable (sector_at sectors k)) (has_guard (sector_at sectors k)) (holds_too_much (sector_at sectors k)) (may_close kind (sector_at sectors k))
      (clean_may clean k lt) (in_use_same k) (clean.roomy k lt)

  pub ring_undamaged : damage_of kind sectors ≡ None → first_damage (reading kind) sectors ≡ None
  ring_undamaged none =
      let clean = clean_of kind sectors none in
      let same = sym (clean_open clean) in
      ring_none kind sectors (record {
        some_open = clean.some_open;
        one_opening = no_second kind sectors clean;
        clean = λ k lt. subst (λ (n : ℕ). (not (is_closed_at plain sectors k) && not (eqb k n) && not (is_unused kind (sector_at sectors k))) ≡ false) same (clean_dirty clean k lt);
        fenced = λ k lt. subst (λ (n : ℕ). (looked_at (reading kind) sectors n k && not (fence_at kind sectors k)) ≡ false) same (clean_rows clean k lt).0;
        roomy = λ k lt. subst (λ (n : ℕ). (looked_at (reading kind) sectors n k && holds_too_much (sector_at sectors k)) ≡ false) same (clean_rows clean k lt).1;
      })

  -- an area that is not damaged is open where it is on a bank that is never erased
  pub open_is : damage_of kind sectors ≡ None → open_sector (reading kind) sectors ≡ open_place sectors
  open_is none = clean_open (clean_of kind sectors none)

  ring_second : HasNoDamage (reading kind) sectors → (k : ℕ) → k < length sectors → is_second_open sectors (open_sector (reading kind) sectors) k ≡ false
  ring_second h k lt =
      second_row (is_closed_at plain sectors k) (eqb k (open_sector (reading kind) sectors)) (is_begun (sector_at sectors k)) (is_unused kind (sector_at sectors k)) (is_unused Rewritable (sector_at sectors k)) (is_closed_at plain sectors (previous sectors k))
      (unused-is (sector_at sectors k)) (λ unused. sym (in_use_same k (unused_may kind (sector_at sectors k) unused)) ∙ unused) (h.clean k lt)
      (λ apart follows. let is : open_sector (reading kind) sectors ≡ k = only-opening (reading kind) sectors k h lt follows in absurd (false≢true (sym apart ∙ eq-eqb k (open_sector (reading kind) sectors) (sym is))))

  pub undamaged_ring : first_damage (reading kind) sectors ≡ None → damage_of kind sectors ≡ None
  undamaged_ring none =
      let h = rows (reading kind) sectors none in
      let same = ring_open h in
      damage_none kind sectors (record {
        some_open = h.some_open;
        one_open = λ k lt. subst (λ (n : ℕ). is_second_open sectors n k ≡ false) same (ring_second h k lt);
        closable = λ k lt. subst (λ (n : ℕ). is_dirty_at kind sectors n k ≡ false) same (not_dirty (counts_at plain sectors (open_sector (reading kind) sectors) k) (may_close kind (sector_at sectors k)) (ring_may h k lt));
        roomy = λ k lt.
            subst (λ (n : ℕ). is_overfull_at sectors n k ≡ false) same
            (area_row (counts_at plain sectors (open_sector (reading kind) sectors) k) (is_unused kind (sector_at sectors k)) (is_unused Rewritable (sector_at sectors k)) (has_guard (sector_at sectors k)) (holds_too_much (sector_at sectors k)) (may_close kind (sector_at sectors k))
            (ring_may h k lt) (in_use_same k) (h.fenced k lt) (h.roomy k lt));
      })

  -- an undamaged area has one of the forms of a ring, with its open sector
  pub form_of : 2 ≤ length sectors → damage_of kind sectors ≡ None → IsForm (reading kind) sectors (open_sector (reading kind) sectors)
  form_of several none = form-of (reading kind) sectors several (ring_undamaged none)

  -- and each form is undamaged
  pub form_undamaged : (place : ℕ) → IsForm (reading kind) sectors place → (open_sector (reading kind) sectors ≡ place) × (damage_of kind sectors ≡ None)
  form_undamaged place form = let r = reads (reading kind) sectors place form in (r.0, undamaged_ring r.1)

  -- a sector that counts is not overfull
  counts_roomy : (k : ℕ) → damage_of kind sectors ≡ None → k < length sectors → 48 ≤ length (sector_at sectors k) → counts_at (reading kind) sectors (open_sector (reading kind) sectors) k ≡ true → is_overfull (sector_at sectors k) ≡ false
  counts_roomy k none lt long counts =
      let clean = clean_of kind sectors none in
      let here : counts_at plain sectors (open_place sectors) k ≡ true = subst (λ (n : ℕ). counts_at plain sectors n k ≡ true) (open_is none) counts in
      elim (cases_Bool (is_blank_at plain sectors k)) [
        | inl unused ↦ unused_roomy Rewritable (sector_at sectors k) long unused
        | inr used ↦
            let looked : looked_at plain sectors (open_place sectors) k ≡ true = ap (λ (t : Bool). t && not (is_blank_at plain sectors k)) here ∙ ap not used in
            sym (ap (λ (t : Bool). t && is_overfull (sector_at sectors k)) looked) ∙ clean.roomy k lt
      ]

  -- so its values stand under its guard slot
  pub counts_sound : (k : ℕ) → damage_of kind sectors ≡ None → k < length sectors → 48 ≤ length (sector_at sectors k) → counts_at (reading kind) sectors (open_sector (reading kind) sectors) k ≡ true → is_sound (sector_at sectors k) ≡ true
  counts_sound k none lt long counts = sound_of (sector_at sectors k) (counts_roomy k none lt long counts)

-- and it has its part of the area's list
pub has_its_part : EachHasItsPart
has_its_part kind sectors place long none lt counts = ap (λ (t : Bool). cond t None (Some (pairs (sector_at sectors place)))) (counts_roomy kind sectors place none lt long counts)

-- The open sector of the list and that of the damage.

all_at : (p : ℕ → Bool) (a n : ℕ) → list_all p (range_with_len a n) ≡ true → (k : ℕ) → a ≤ k → k < a + n → p k ≡ true
all_at p a zero all k le lt = absurd (omega arith)
all_at p a (suc n) all k le lt =
    let parts = and_parts (p a) (list_all p (range_with_len (a + 1) n)) all in
    elim (cases_eq k a) [
      | inl here ↦ ap p here ∙ parts.0
      | inr apart ↦ all_at p (a + 1) n parts.1 k (omega arith) (omega arith)
    ]

module _ (kind : Kind) (sectors : List (List ℕ)) where
  open_closed : (place : ℕ) → place < length sectors → is_closed_at plain sectors place ≡ true → open_sector (reading kind) sectors ≡ open_place sectors
  open_closed place lt closed =
      elim (cases_Bool (list_all (is_closed_at plain sectors) (places sectors))) [
        | inl all ↦ open_may kind sectors (λ k inside. closed_may kind (sector_at sectors k) (all_at (is_closed_at plain sectors) 0 (length sectors) all k (omega arith) (omega arith)))
        | inr some_open ↦ open_same kind sectors some_open (λ none k inside. absurd (false≢true (sym (none place lt) ∙ closed)))
      ]

  open_plain : kind ≡ Rewritable → open_sector (reading kind) sectors ≡ open_place sectors
  open_plain is = ap (λ (bank : Kind). open_sector (reading bank) sectors) is

pub each_has_one_open : EachHasOneOpen
each_has_one_open kind sectors = record {
  rewritable = open_plain kind sectors;
  undamaged = open_is kind sectors;
  closed = open_closed kind sectors;
  closable = open_may kind sectors;
}

-- Damage on a bank that is never erased.

counts_row : (counts unused full : Bool) → (unused ≡ true → full ≡ false) → ((counts && not unused) && full) ≡ (counts && full)
counts_row false unused full none = refl
counts_row true false full none = refl
counts_row true true full none = sym (none refl)

pub damage_has_three_kinds : DamageHasThreeKinds
unfolding damage_of
damage_has_three_kinds sectors long =
    let second : Option Damaged = first_of_kind TwoOpen (is_second_open sectors (open_place sectors)) sectors in
    let last : Option Damaged = first_of_kind Overfull (is_overfull_at sectors (open_place sectors)) sectors in
    let dirty : first_of_kind Dirty (is_dirty_at Rewritable sectors (open_place sectors)) sectors ≡ None =
    none_of_kind Dirty (is_dirty_at Rewritable sectors (open_place sectors)) sectors
    (λ k lt. not_dirty (counts_at plain sectors (open_place sectors) k) (may_close Rewritable (sector_at sectors k)) (λ counts. may_close-never (sector_at sectors k))) in
    let full : find (is_overfull_at sectors (open_place sectors)) (places sectors) ≡ find (λ k. counts_at plain sectors (open_place sectors) k && is_overfull (sector_at sectors k)) (places sectors) =
    find_same (is_overfull_at sectors (open_place sectors)) (λ k. counts_at plain sectors (open_place sectors) k && is_overfull (sector_at sectors k)) 0 (length sectors)
    (λ k le lt. counts_row (counts_at plain sectors (open_place sectors) k) (is_blank_at plain sectors k) (is_overfull (sector_at sectors k)) (λ unused. unused_roomy Rewritable (sector_at sectors k) (long k (omega arith)) unused)) in
    ap (λ (o : Option Damaged). cond (list_all (is_closed_at plain sectors) (places sectors)) (Some (record { sector = 0; why = AllClosed })) (option_or second (option_or o last))) dirty
    ∙ ap (λ (o : Option ℕ). cond (list_all (is_closed_at plain sectors) (places sectors)) (Some (record { sector = 0; why = AllClosed })) (option_or second (option_map (λ (place : ℕ). record { sector = place; why = Overfull }) o))) full
