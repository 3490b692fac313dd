-- When a ring stands on its sectors, and what the area's list is then.
use Rattle.std.proofs.Common.{◌≡◌, ℕ, zero, suc, ◌+◌, ◌-◌, ◌%◌, ◌<◌, ◌≤◌, min, true, false, eqb, List, [], ◌∷◌, ◌++◌, length, map, set, take, drop, replicate, append_assoc, inl, inr, refl, sym, ap, subst, ◌∙◌, arith, None}
use Rattle.std.specs.List.{range_with_len, flat_map}
use Rattle.std.proofs.lemmas.Bool.{cases_eq, cases_lt, cases_Bool, cond-true, cond-false, eq-eqb, ne_eqb, both_ways, or_left, or_right}
use Rattle.std.proofs.lemmas.List.{length-append, length-map, length-take, length-drop, length-set, length-take-le, get_or_append_left, get_or-append_right, get_or-map, get_or-take, get_or-drop, get_or-set_same, get_or-set_other, set-append_right, drop_more, map_more}
use Rattle.fcb_ring.specs.declared.record.RecordAt.{RecordAt}
use Rattle.fcb_ring.specs.declared.ring.Ring.{Ring}
use Rattle.fcb_ring.specs.declared.ring.Stage.{Stage}
use Rattle.fcb_ring.specs.declared.ring.Stage.TheVariants.{Inspected}
use Rattle.fcb_ring.specs.declared.sector.SectorState.{SectorState}
use Rattle.flash_map.specs.Units.{is_erased}
use Rattle.fcb_ring.specs.SectorStates.{is_torn, mended, mended_up_to, state_of}
use Rattle.fcb_ring.specs.Rings.{state_at, turned, oldest_place, first_damage, IsRing, AreClean}
use Rattle.fcb_ring.specs.Entries.{states, sector_entries, entries, HasEntries}
use Rattle.flash_map.specs.Area.{sector_at}
use Rattle.fcb_ring.specs.Standing.{Stands, FitsStage, uncounted}
use Rattle.flash_map.proofs.ErasedBytes.{erased_from}
use Rattle.fcb_ring.proofs.PlaceLemmas.{All-range, flat_map-agree, flat_map-map}
use Rattle.fcb_ring.proofs.RingLemmas.{turned-within, turned-same, ring-form, clean-form, counting-is, undamaged}
use Rattle.fcb_ring.proofs.AreaLemmas.{state-at, length-states}

-- what an inspection finds in the states of the sectors, of which so many are used
pub record IsSurvey (xs : List SectorState) (ring : Ring) (all : ℕ) (newest : SectorState) : Type 0 where
  pub several : 2 ≤ length xs
  pub few : length xs ≤ 64
  pub none : first_damage xs ≡ None
  pub oldest : ring.oldest ≡ oldest_place xs
  pub most : all ≤ length xs
  pub used_ones : (k : ℕ) → k < all → (state_at xs (turned (length xs) ring.oldest k)).is_free ≡ false
  pub stops : all < length xs → (state_at xs (turned (length xs) ring.oldest all)).is_free ≡ true
  pub counted : ring.used ≡ min all (length xs - 1)
  pub last : 0 < ring.used → newest ≡ state_at xs (turned (length xs) ring.oldest (ring.used - 1))
  pub end : ring.end ≡ newest.end
  pub id : ring.id ≡ newest.id
  pub stage : ring.stage ≡ Inspected (eqb all (length xs))

module _ (unit : ℕ) (sectors : List (List ℕ)) (ring : Ring) (all : ℕ) (newest : SectorState) (found : IsSurvey (states unit sectors) ring all newest) where
  survey-form : IsRing (states unit sectors) ring.oldest all
  survey-form =
      subst (λ (o : ℕ). IsRing (states unit sectors) o all) (sym found.oldest)
      (ring-form (states unit sectors) found.several found.few found.none all found.most
      (subst (λ (o : ℕ). (k : ℕ) → k < all → (state_at (states unit sectors) (turned (length (states unit sectors)) o k)).is_free ≡ false) found.oldest found.used_ones)
      (subst (λ (o : ℕ). all < length (states unit sectors) → (state_at (states unit sectors) (turned (length (states unit sectors)) o all)).is_free ≡ true) found.oldest found.stops))

  survey-clean : AreClean (states unit sectors) ring.oldest (min all (length (states unit sectors) - 1))
  survey-clean =
      subst (λ (o : ℕ). AreClean (states unit sectors) o (min all (length (states unit sectors) - 1))) (sym found.oldest)
      (clean-form (states unit sectors) found.several found.few found.none all found.most
      (subst (λ (o : ℕ). (k : ℕ) → k < all → (state_at (states unit sectors) (turned (length (states unit sectors)) o k)).is_free ≡ false) found.oldest found.used_ones)
      (subst (λ (o : ℕ). all < length (states unit sectors) → (state_at (states unit sectors) (turned (length (states unit sectors)) o all)).is_free ≡ true) found.oldest found.stops))

  survey-by : (stage : Stage) → ring.stage ≡ stage → all ≡ ring.used + uncounted stage → FitsStage stage (states unit sectors) ring.oldest ring.used → Stands unit sectors ring
  survey-by stage is sum fits = record {
    form = subst (λ (s : Stage). IsRing (states unit sectors) ring.oldest (ring.used + uncounted s)) (sym is) (subst (λ (m : ℕ). IsRing (states unit sectors) ring.oldest m) sum survey-form);
    clean = λ k lt. survey-clean k (omega (arith, found.counted));
    last = λ positive. record { end = found.end ∙ ap (λ (s : SectorState). s.end) (found.last positive); id = found.id ∙ ap (λ (s : SectorState). s.id) (found.last positive) };
    stage = subst (λ (s : Stage). FitsStage s (states unit sectors) ring.oldest ring.used) (sym is) fits;
  }

  -- the ring that an inspection makes
  pub survey_stands : Stands unit sectors ring
  survey_stands = elim (cases_eq all (length (states unit sectors))) [
    | inl full ↦ survey-by (Inspected true) (found.stage ∙ ap Inspected (eq-eqb all (length (states unit sectors)) full)) (omega (arith, found.counted, found.several)) (omega (arith, found.counted, found.several))
    | inr apart ↦
        let below : all < length (states unit sectors) = omega (arith, apart, found.most) in
        survey-by (Inspected false) (found.stage ∙ ap Inspected (ne_eqb all (length (states unit sectors)) apart)) (omega (arith, found.counted)) (omega (arith, found.counted))
  ]

-- the records of the sector that stands so far behind the oldest
abbrev pub part : ℕ → List (List ℕ) → ℕ → ℕ → List (RecordAt × List ℕ)
part unit sectors oldest k = sector_entries unit (turned (length sectors) oldest k) (sector_at sectors (turned (length sectors) oldest k))

-- the list is that of the sectors that count, one after the other
pub entries-are : (unit : ℕ) (sectors : List (List ℕ)) (oldest used : ℕ) → IsRing (states unit sectors) oldest used → entries unit sectors ≡ flat_map (part unit sectors oldest) (range_with_len 0 (min used (length sectors - 1)))
unfolding entries
entries-are unit sectors oldest used form =
    let at : ℕ → List (RecordAt × List ℕ) = λ place. sector_entries unit place (sector_at sectors place) in
    let long = length-states unit sectors in
    ap (flat_map at) (counting-is (states unit sectors) oldest used form)
    ∙ ap (λ (n : ℕ). flat_map at (map (turned n oldest) (range_with_len 0 (min used (n - 1))))) long
    ∙ flat_map-map at (turned (length sectors) oldest) (range_with_len 0 (min used (length sectors - 1)))

-- So many sectors of the run are as before, and all others are free.
pub record KeepsRun (unit : ℕ) (old new : List (List ℕ)) (oldest count : ℕ) : Type 0 where
  pub long : length new ≡ length old
  pub same : (k : ℕ) → k < count → sector_at new (turned (length old) oldest k) ≡ sector_at old (turned (length old) oldest k)
  pub free : (k : ℕ) → count ≤ k → k < length old → (state_of unit (sector_at new (turned (length old) oldest k))).is_free ≡ true

module _ (unit : ℕ) (old new : List (List ℕ)) (oldest used count : ℕ) (kept : KeepsRun unit old new oldest count) (form : IsRing (states unit old) oldest used) (fewer : count ≤ used) (empty : count ≡ 0 → oldest ≡ 0) where
  long-new : length (states unit new) ≡ length (states unit old)
  long-new = length-states unit new ∙ kept.long ∙ sym (length-states unit old)

  within : (k : ℕ) → k < length (states unit old) → turned (length (states unit old)) oldest k < length old
  within k lt = let w = turned-within (length (states unit old)) oldest k form.within (omega arith) in omega (arith, length-states unit old)

  same-sector : (k : ℕ) → k < count → sector_at new (turned (length (states unit old)) oldest k) ≡ sector_at old (turned (length (states unit old)) oldest k)
  same-sector k lt = subst (λ (n : ℕ). sector_at new (turned n oldest k) ≡ sector_at old (turned n oldest k)) (sym (length-states unit old)) (kept.same k lt)

  pub same-state : (k : ℕ) → k < count → state_at (states unit new) (turned (length (states unit new)) oldest k) ≡ state_at (states unit old) (turned (length (states unit old)) oldest k)
  same-state k lt =
      let place = turned (length (states unit old)) oldest k in
      let inside = within k (omega (arith, form.most)) in
      ap (λ (n : ℕ). state_at (states unit new) (turned n oldest k)) long-new
      ∙ state-at unit new place (omega (arith, kept.long)) ∙ ap (state_of unit) (same-sector k lt) ∙ sym (state-at unit old place inside)

  still-free : (k : ℕ) → count ≤ k → k < length (states unit old) → (state_at (states unit new) (turned (length (states unit new)) oldest k)).is_free ≡ true
  still-free k le lt =
      let place = turned (length (states unit old)) oldest k in
      let inside = within k lt in
      ap (λ (n : ℕ). (state_at (states unit new) (turned n oldest k)).is_free) long-new
      ∙ ap (λ (s : SectorState). s.is_free) (state-at unit new place (omega (arith, kept.long)))
      ∙ ap (λ (n : ℕ). (state_of unit (sector_at new (turned n oldest k))).is_free) (length-states unit old) ∙ kept.free k le (omega (arith, length-states unit old))

  pub kept-form : IsRing (states unit new) oldest count
  kept-form = record {
    several = omega (arith, long-new, form.several);
    few = omega (arith, long-new, form.few);
    within = omega (arith, long-new, form.within);
    most = omega (arith, long-new, form.most);
    empty = empty;
    used_ones = λ k lt. ap (λ (s : SectorState). s.is_free) (same-state k lt) ∙ form.used_ones k (omega arith);
    free_ones = λ k le lt. still-free k le (omega (arith, long-new));
    headers = λ k lt. ap (λ (s : SectorState). s.has_header) (same-state k lt) ∙ form.headers k (omega arith);
    ids = λ k lt.
        ap (λ (s : SectorState). s.id) (same-state (k + 1) lt) ∙ form.ids k (omega arith) ∙ ap (λ (i : ℕ). (i + 1) % 65536) (sym (ap (λ (s : SectorState). s.id) (same-state k (omega arith))));
  }

  pub kept-clean : (n : ℕ) → n ≤ count → AreClean (states unit old) oldest n → AreClean (states unit new) oldest n
  kept-clean n le clean k lt =
      let there = clean k lt in (
        ap (λ (s : SectorState). s.is_overfull) (same-state k (omega arith)) ∙ there.0,
        ap (λ (s : SectorState). s.is_dirty) (same-state k (omega arith)) ∙ there.1,
      )

  -- the parts of the list that stay
  pub kept-entries : entries unit new ≡ flat_map (part unit old oldest) (range_with_len 0 (min count (length old - 1)))
  kept-entries =
      entries-are unit new oldest count kept-form
      ∙ ap (λ (n : ℕ). flat_map (λ k. sector_entries unit (turned n oldest k) (sector_at new (turned n oldest k))) (range_with_len 0 (min count (n - 1)))) kept.long
      ∙ flat_map-agree (λ k. sector_entries unit (turned (length old) oldest k) (sector_at new (turned (length old) oldest k))) (part unit old oldest) (range_with_len 0 (min count (length old - 1)))
      (All-range (λ k. sector_entries unit (turned (length old) oldest k) (sector_at new (turned (length old) oldest k)) ≡ part unit old oldest k) 0 (min count (length old - 1))
      (λ k low high. ap (sector_entries unit (turned (length old) oldest k)) (kept.same k (omega arith))))

  pub kept-has : AreClean (states unit old) oldest (min count (length old - 1)) → min used (length old - 1) ≡ min count (length old - 1) → HasEntries unit new (entries unit old)
  kept-has clean same = record {
    undamaged =
        let m : min count (length (states unit new) - 1) ≡ min count (length old - 1) = omega (arith, long-new, length-states unit old) in
        undamaged (states unit new) oldest count kept-form (subst (λ (n : ℕ). AreClean (states unit new) oldest n) (sym m) (kept-clean (min count (length old - 1)) (omega arith) clean));
    are = kept-entries ∙ ap (λ (n : ℕ). flat_map (part unit old oldest) (range_with_len 0 n)) (sym same) ∙ sym (entries-are unit old oldest used form);
  }

-- ---- sectors that are erased

pub untorn-replicate : (n : ℕ) → 0 < n → is_torn (replicate n 255) ≡ false
unfolding is_torn
untorn-replicate zero lt = absurd (omega arith)
untorn-replicate (suc n) lt = refl

pub blank-free : (unit n : ℕ) → (state_of unit (replicate n 255)).is_free ≡ true
unfolding state_of
blank-free unit n = or_left (is_erased (replicate n 255)) (is_torn (replicate n 255)) (erased_from n)

pub blank-untorn : (unit n : ℕ) → 0 < n → (state_of unit (replicate n 255)).is_torn ≡ false
unfolding state_of
blank-untorn unit n lt = untorn-replicate n lt

pub torn-free : (unit : ℕ) (sector : List ℕ) → is_torn sector ≡ true → (state_of unit sector).is_free ≡ true
unfolding state_of
torn-free unit sector torn = or_right (is_erased sector) (is_torn sector) torn

pub torn-state : (unit : ℕ) (sector : List ℕ) → (state_of unit sector).is_torn ≡ is_torn sector
unfolding state_of
torn-state unit sector = refl

pub mended-yes : (sector : List ℕ) → is_torn sector ≡ true → mended sector ≡ replicate (length sector) 255
unfolding mended
mended-yes sector torn = cond-true (is_torn sector) (replicate (length sector) 255) sector torn

pub mended-not : (sector : List ℕ) → is_torn sector ≡ false → mended sector ≡ sector
unfolding mended
mended-not sector whole = cond-false (is_torn sector) (replicate (length sector) 255) sector whole

pub mended-untorn : (unit : ℕ) (sector : List ℕ) → 0 < length sector → (state_of unit (mended sector)).is_torn ≡ false
mended-untorn unit sector some = elim (cases_Bool (is_torn sector)) [
  | inl torn ↦ ap (λ (l : List ℕ). (state_of unit l).is_torn) (mended-yes sector torn) ∙ blank-untorn unit (length sector) some
  | inr whole ↦ ap (λ (l : List ℕ). (state_of unit l).is_torn) (mended-not sector whole) ∙ torn-state unit sector ∙ whole
]

-- a used sector is not torn
pub mended-used : (unit : ℕ) (sector : List ℕ) → (state_of unit sector).is_free ≡ false → mended sector ≡ sector
mended-used unit sector used = elim (cases_Bool (is_torn sector)) [
  | inl torn ↦ absurd (both_ways (state_of unit sector).is_free used (torn-free unit sector torn))
  | inr whole ↦ mended-not sector whole
]

pub mended-free : (unit : ℕ) (sector : List ℕ) → (state_of unit sector).is_free ≡ true → (state_of unit (mended sector)).is_free ≡ true
mended-free unit sector free = elim (cases_Bool (is_torn sector)) [
  | inl torn ↦ ap (λ (l : List ℕ). (state_of unit l).is_free) (mended-yes sector torn) ∙ blank-free unit (length sector)
  | inr whole ↦ ap (λ (l : List ℕ). (state_of unit l).is_free) (mended-not sector whole) ∙ free
]

-- the first so many sectors are mended
pub length-mended : (j : ℕ) (sectors : List (List ℕ)) → length (mended_up_to j sectors) ≡ length sectors
length-mended j sectors = length-append (map mended (take j sectors)) (drop j sectors) ∙ omega (arith, length-map (take j sectors) mended, length-take j sectors, length-drop j sectors)

pub mended-at : (j : ℕ) (sectors : List (List ℕ)) (place : ℕ) → place < length sectors → place < j → sector_at (mended_up_to j sectors) place ≡ mended (sector_at sectors place)
mended-at j sectors place lt below =
    get_or_append_left (map mended (take j sectors)) (drop j sectors) [] place (omega (arith, length-map (take j sectors) mended, length-take j sectors))
    ∙ get_or-map mended (take j sectors) place [] [] (omega (arith, length-take j sectors)) ∙ ap mended (get_or-take j sectors place [] below)

pub mended-behind : (j : ℕ) (sectors : List (List ℕ)) (place : ℕ) → place < length sectors → j ≤ place → sector_at (mended_up_to j sectors) place ≡ sector_at sectors place
mended-behind j sectors place lt le =
    let n : length (map mended (take j sectors)) ≡ j = length-map (take j sectors) mended ∙ length-take-le j sectors (omega arith) in
    let back : j + (place - j) ≡ place = omega arith in
    get_or-append_right (map mended (take j sectors)) (drop j sectors) j place [] n le ∙ get_or-drop j sectors (place - j) [] ∙ ap (λ (k : ℕ). sector_at sectors k) back

-- one sector more
pub mended-more : (j : ℕ) (sectors : List (List ℕ)) → j < length sectors → set (mended_up_to j sectors) j (mended (sector_at sectors j)) ≡ mended_up_to (j + 1) sectors
mended-more j sectors lt =
    let n : length (map mended (take j sectors)) ≡ j = length-map (take j sectors) mended ∙ length-take-le j sectors (omega arith) in
    set-append_right (map mended (take j sectors)) (drop j sectors) j j (mended (sector_at sectors j)) n (omega arith)
    ∙ ap (λ (k : ℕ). map mended (take j sectors) ++ set (drop j sectors) k (mended (sector_at sectors j))) (omega arith)
    ∙ ap (λ (l : List (List ℕ)). map mended (take j sectors) ++ set l 0 (mended (sector_at sectors j))) (drop_more sectors j [] lt)
    ∙ sym (append_assoc (map mended (take j sectors)) (mended (sector_at sectors j) ∷ []) (drop (j + 1) sectors))
    ∙ ap (λ (l : List (List ℕ)). l ++ drop (j + 1) sectors) (sym (map_more mended sectors j [] lt))

pub mended-run : (unit : ℕ) (sectors : List (List ℕ)) (oldest used j : ℕ) → IsRing (states unit sectors) oldest used → KeepsRun unit sectors (mended_up_to j sectors) oldest used
mended-run unit sectors oldest used j form =
    let long = length-states unit sectors in
    record {
      long = length-mended j sectors;
      same = λ k lt.
          let place = turned (length sectors) oldest k in
          let inside : turned (length sectors) oldest k < length sectors = turned-within (length sectors) oldest k (omega (arith, form.within)) (omega (arith, form.most)) in
          let taken : (state_of unit (sector_at sectors (turned (length sectors) oldest k))).is_free ≡ false =
          sym (ap (λ (s : SectorState). s.is_free) (state-at unit sectors place inside)) ∙ subst (λ (n : ℕ). (state_at (states unit sectors) (turned n oldest k)).is_free ≡ false) long (form.used_ones k lt) in
          elim (cases_lt place j) [
            | inl below ↦ mended-at j sectors place inside below ∙ mended-used unit (sector_at sectors place) taken
            | inr behind ↦ mended-behind j sectors place inside behind
          ];
      free = λ k le lt.
          let place = turned (length sectors) oldest k in
          let inside : turned (length sectors) oldest k < length sectors = turned-within (length sectors) oldest k (omega (arith, form.within)) (omega arith) in
          let free : (state_of unit (sector_at sectors (turned (length sectors) oldest k))).is_free ≡ true =
          sym (ap (λ (s : SectorState). s.is_free) (state-at unit sectors place inside)) ∙ subst (λ (n : ℕ). (state_at (states unit sectors) (turned n oldest k)).is_free ≡ true) long (form.free_ones k le (omega arith)) in
          elim (cases_lt place j) [
            | inl below ↦ ap (λ (l : List ℕ). (state_of unit l).is_free) (mended-at j sectors place inside below) ∙ mended-free unit (sector_at sectors place) free
            | inr behind ↦ ap (λ (l : List ℕ). (state_of unit l).is_free) (mended-behind j sectors place inside behind) ∙ free
          ];
    }

-- a sector at some distance is set
pub set-there : (sectors : List (List ℕ)) (oldest j : ℕ) (new : List ℕ) → oldest < length sectors → j < length sectors → sector_at (set sectors (turned (length sectors) oldest j) new) (turned (length sectors) oldest j) ≡ new
set-there sectors oldest j new f lt = get_or-set_same sectors (turned (length sectors) oldest j) new [] (turned-within (length sectors) oldest j f (omega arith))

pub set-elsewhere : (sectors : List (List ℕ)) (oldest j k : ℕ) (new : List ℕ) → oldest < length sectors → j < length sectors → k < length sectors → (k ≡ j → ⊥)
    → sector_at (set sectors (turned (length sectors) oldest j) new) (turned (length sectors) oldest k) ≡ sector_at sectors (turned (length sectors) oldest k)
set-elsewhere sectors oldest j k new f a b apart =
    get_or-set_other sectors (turned (length sectors) oldest j) (turned (length sectors) oldest k) new [] (λ (e : turned (length sectors) oldest k ≡ turned (length sectors) oldest j). apart (turned-same (length sectors) oldest k j f b a e))

-- the newest of a full ring is erased
pub erased-run : (unit : ℕ) (sectors : List (List ℕ)) (oldest n : ℕ) → IsRing (states unit sectors) oldest (length sectors)
    → KeepsRun unit sectors (set sectors (turned (length sectors) oldest (length sectors - 1)) (replicate n 255)) oldest (length sectors - 1)
erased-run unit sectors oldest n form =
    let long = length-states unit sectors in
    let f : oldest < length sectors = omega (arith, form.within) in
    let s : 2 ≤ length sectors = omega (arith, form.several) in
    record {
      long = length-set sectors (turned (length sectors) oldest (length sectors - 1)) (replicate n 255);
      same = λ k lt. set-elsewhere sectors oldest (length sectors - 1) k (replicate n 255) f (omega arith) (omega arith) (λ (e : k ≡ length sectors - 1). omega arith);
      free = λ k le lt.
          let last : k ≡ length sectors - 1 = omega arith in
          ap (λ (l : List ℕ). (state_of unit l).is_free) (ap (λ (j : ℕ). sector_at (set sectors (turned (length sectors) oldest (length sectors - 1)) (replicate n 255)) (turned (length sectors) oldest j)) last ∙ set-there sectors oldest (length sectors - 1) (replicate n 255) f (omega arith))
          ∙ blank-free unit n;
    }
