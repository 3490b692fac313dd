-- The ring once its newest sector is another, or one more is used.
use Rattle.std.proofs.Common.{◌≡◌, ℕ, ◌+◌, ◌-◌, ◌%◌, ◌<◌, ◌≤◌, min, true, false, List, [], ◌++◌, length, set, inl, inr, sym, ap, ◌∙◌, arith, None}
use Rattle.std.specs.List.{range_with_len, flat_map}
use Rattle.std.proofs.lemmas.Bool.{cases_eq}
use Rattle.std.proofs.lemmas.List.{length-set, append-nil}
use Rattle.std.proofs.lemmas.Grind.{flat_map-append}
use Rattle.fcb_ring.specs.declared.sector.SectorState.{SectorState}
use Rattle.fcb_ring.specs.SectorStates.{state_of}
use Rattle.fcb_ring.specs.Rings.{state_at, turned, first_damage, IsRing, AreClean}
use Rattle.fcb_ring.specs.Entries.{states, sector_entries, entries}
use Rattle.flash_map.specs.Area.{sector_at}
use Rattle.fcb_ring.proofs.PlaceLemmas.{All-range, range-append, flat_map-agree}
use Rattle.fcb_ring.proofs.RingLemmas.{turned-within, undamaged}
use Rattle.fcb_ring.proofs.AreaLemmas.{state-at, length-states}
use Rattle.fcb_ring.proofs.StandLemmas.{part, entries-are, set-there, set-elsewhere}

-- a used sector that ends in its records
pub record IsGood (state : SectorState) : Type 0 where
  pub used : state.is_free ≡ false
  pub header : state.has_header ≡ true
  pub ends : state.is_overfull ≡ false
  pub clean : state.is_dirty ≡ false

-- so many are used; the last of them, or the one after it, becomes t
module _ (unit : ℕ) (old : List (List ℕ)) (oldest used j : ℕ) (t : List ℕ) (form : IsRing (states unit old) oldest used) (at_least : j ≤ used) (at_most : used ≤ j + 1) (inside : j < length old)
    (good : IsGood (state_of unit t)) (follows : 0 < j → (state_of unit t).id ≡ ((state_of unit (sector_at old (turned (length old) oldest (j - 1)))).id + 1) % 65536) where
  long : length (states unit old) ≡ length old
  long = length-states unit old

  first : oldest < length old
  first = omega (arith, form.within, long)

  abbrev pub grown : List (List ℕ)
  grown = set old (turned (length old) oldest j) t

  grown-long : length grown ≡ length old
  grown-long = length-set old (turned (length old) oldest j) t

  states-long : length (states unit grown) ≡ length old
  states-long = length-states unit grown ∙ grown-long

  place-in : (k : ℕ) → k < length old → turned (length old) oldest k < length old
  place-in k lt = turned-within (length old) oldest k first (omega arith)

  pub there : state_at (states unit grown) (turned (length (states unit grown)) oldest j) ≡ state_of unit t
  there =
      ap (λ (n : ℕ). state_at (states unit grown) (turned n oldest j)) states-long
      ∙ state-at unit grown (turned (length old) oldest j) (omega (arith, place-in j inside, grown-long)) ∙ ap (state_of unit) (set-there old oldest j t first inside)

  pub elsewhere : (k : ℕ) → k < length old → (k ≡ j → ⊥) → state_at (states unit grown) (turned (length (states unit grown)) oldest k) ≡ state_at (states unit old) (turned (length (states unit old)) oldest k)
  elsewhere k lt apart =
      ap (λ (n : ℕ). state_at (states unit grown) (turned n oldest k)) states-long
      ∙ state-at unit grown (turned (length old) oldest k) (omega (arith, place-in k lt, grown-long)) ∙ ap (state_of unit) (set-elsewhere old oldest j k t first inside lt apart)
      ∙ sym (state-at unit old (turned (length old) oldest k) (place-in k lt)) ∙ sym (ap (λ (n : ℕ). state_at (states unit old) (turned n oldest k)) long)

  before-is : 0 < j → state_at (states unit grown) (turned (length (states unit grown)) oldest (j - 1)) ≡ state_of unit (sector_at old (turned (length old) oldest (j - 1)))
  before-is positive =
      elsewhere (j - 1) (omega arith) (λ (e : j - 1 ≡ j). omega arith)
      ∙ ap (λ (n : ℕ). state_at (states unit old) (turned n oldest (j - 1))) long ∙ state-at unit old (turned (length old) oldest (j - 1)) (place-in (j - 1) (omega arith))

  pub grown-form : IsRing (states unit grown) oldest (j + 1)
  grown-form = record {
    several = omega (arith, form.several, long, states-long);
    few = omega (arith, form.few, long, states-long);
    within = omega (arith, first, states-long);
    most = omega (arith, inside, states-long);
    empty = λ none. absurd (omega arith);
    used_ones = λ k lt. elim (cases_eq k j) [
      | inl same ↦ ap (λ (m : ℕ). (state_at (states unit grown) (turned (length (states unit grown)) oldest m)).is_free) same ∙ ap (λ (s : SectorState). s.is_free) there ∙ good.used
      | inr apart ↦ ap (λ (s : SectorState). s.is_free) (elsewhere k (omega (arith, apart)) apart) ∙ form.used_ones k (omega (arith, apart))
    ];
    free_ones = λ k le lt. ap (λ (s : SectorState). s.is_free) (elsewhere k (omega (arith, states-long)) (λ (e : k ≡ j). omega arith)) ∙ form.free_ones k (omega arith) (omega (arith, states-long, long));
    headers = λ k lt. elim (cases_eq k j) [
      | inl same ↦ ap (λ (m : ℕ). (state_at (states unit grown) (turned (length (states unit grown)) oldest m)).has_header) same ∙ ap (λ (s : SectorState). s.has_header) there ∙ good.header
      | inr apart ↦ ap (λ (s : SectorState). s.has_header) (elsewhere k (omega (arith, apart)) apart) ∙ form.headers k (omega (arith, apart))
    ];
    ids = λ k lt. elim (cases_eq (k + 1) j) [
      | inl same ↦
          let back : j - 1 ≡ k = omega arith in
          ap (λ (m : ℕ). (state_at (states unit grown) (turned (length (states unit grown)) oldest m)).id) same ∙ ap (λ (s : SectorState). s.id) there ∙ follows (omega arith)
          ∙ ap (λ (i : ℕ). (i + 1) % 65536) (sym (ap (λ (s : SectorState). s.id) (before-is (omega arith))) ∙ ap (λ (m : ℕ). (state_at (states unit grown) (turned (length (states unit grown)) oldest m)).id) back)
      | inr apart ↦
          ap (λ (s : SectorState). s.id) (elsewhere (k + 1) (omega (arith, apart)) apart) ∙ form.ids k (omega (arith, apart))
          ∙ ap (λ (i : ℕ). (i + 1) % 65536) (sym (ap (λ (s : SectorState). s.id) (elsewhere k (omega arith) (λ (e : k ≡ j). omega arith))))
    ];
  }

  pub grown-clean : AreClean (states unit old) oldest j → AreClean (states unit grown) oldest (j + 1)
  grown-clean clean k lt = elim (cases_eq k j) [
    | inl same ↦ (
      ap (λ (m : ℕ). (state_at (states unit grown) (turned (length (states unit grown)) oldest m)).is_overfull) same ∙ ap (λ (s : SectorState). s.is_overfull) there ∙ good.ends,
      ap (λ (m : ℕ). (state_at (states unit grown) (turned (length (states unit grown)) oldest m)).is_dirty) same ∙ ap (λ (s : SectorState). s.is_dirty) there ∙ good.clean,
    )
    | inr apart ↦
        let before = clean k (omega (arith, apart)) in (
          ap (λ (s : SectorState). s.is_overfull) (elsewhere k (omega (arith, apart)) apart) ∙ before.0,
          ap (λ (s : SectorState). s.is_dirty) (elsewhere k (omega (arith, apart)) apart) ∙ before.1,
        )
  ]

  prefix : flat_map (part unit grown oldest) (range_with_len 0 j) ≡ flat_map (part unit old oldest) (range_with_len 0 j)
  prefix = flat_map-agree (part unit grown oldest) (part unit old oldest) (range_with_len 0 j) (All-range (λ k. part unit grown oldest k ≡ part unit old oldest k) 0 j (λ k low high.
      ap (λ (n : ℕ). sector_entries unit (turned n oldest k) (sector_at grown (turned n oldest k))) grown-long
      ∙ ap (sector_entries unit (turned (length old) oldest k)) (set-elsewhere old oldest j k t first inside (omega arith) (λ (e : k ≡ j). omega arith))))

  last : part unit grown oldest j ≡ sector_entries unit (turned (length old) oldest j) t
  last = ap (λ (n : ℕ). sector_entries unit (turned n oldest j) (sector_at grown (turned n oldest j))) grown-long ∙ ap (sector_entries unit (turned (length old) oldest j)) (set-there old oldest j t first inside)

  -- where the sector counts, its records end the list
  pub grown-entries : j + 1 < length old → entries unit grown ≡ flat_map (part unit old oldest) (range_with_len 0 j) ++ sector_entries unit (turned (length old) oldest j) t
  grown-entries room =
      let c : min (j + 1) (length grown - 1) ≡ j + 1 = omega (arith, grown-long) in
      entries-are unit grown oldest (j + 1) grown-form ∙ ap (λ (n : ℕ). flat_map (part unit grown oldest) (range_with_len 0 n)) c
      ∙ ap (flat_map (part unit grown oldest)) (range-append 0 j 1) ∙ flat_map-append (part unit grown oldest) (range_with_len 0 j) (range_with_len (0 + j) 1)
      ∙ ap (λ xs. xs ++ flat_map (part unit grown oldest) (range_with_len (0 + j) 1)) prefix
      ∙ ap (λ (n : ℕ). flat_map (part unit old oldest) (range_with_len 0 j) ++ (part unit grown oldest n ++ [])) (omega arith)
      ∙ ap (λ xs. flat_map (part unit old oldest) (range_with_len 0 j) ++ xs) (append-nil (part unit grown oldest j) ∙ last)

  -- where no sector is left, it does not count yet
  pub grown-uncounted : j + 1 ≡ length old → entries unit grown ≡ flat_map (part unit old oldest) (range_with_len 0 j)
  grown-uncounted full =
      let c : min (j + 1) (length grown - 1) ≡ j = omega (arith, grown-long) in
      entries-are unit grown oldest (j + 1) grown-form ∙ ap (λ (n : ℕ). flat_map (part unit grown oldest) (range_with_len 0 n)) c ∙ prefix

  pub grown-undamaged : AreClean (states unit old) oldest j → first_damage (states unit grown) ≡ None
  grown-undamaged clean = undamaged (states unit grown) oldest (j + 1) grown-form (λ k lt. grown-clean clean k (omega arith))
