-- A ring that collects, and the area once the oldest sector is erased.
use Rattle.std.proofs.Common.{◌≡◌, ℕ, zero, suc, ◌+◌, ◌-◌, ◌*◌, ◌%◌, ◌<◌, min, true, List, [], ◌++◌, length, set, replicate, Some, None, inl, inr, refl, sym, ap, subst, ◌∙◌, arith}
use Rattle.std.specs.List.{range_with_len, flat_map}
use Rattle.std.proofs.lemmas.Bool.{cases_lt, both_ways}
use Rattle.std.proofs.lemmas.List.{append-nil, length-set, get_or-set_same, get_or-set_other}
use Rattle.std.proofs.lemmas.Grind.{flat_map-append}
use Rattle.flash_sim.specs.Bank.{IsLawful, bank_at}
use Rattle.flash_sim.specs.Device.{Device, FailsToErase}
use Rattle.flash_sim.specs.declared.flash.Bank.{Bank}
use Rattle.flash_sim.specs.declared.flash.Loss.{Loss}
use Rattle.flash_map.specs.declared.area.Area.{Area}
use Rattle.flash_map.specs.Spending.{SpendsAtMost}
use Rattle.flash_map.specs.Area.{unit_of, sector_size, sectors_of, sector_at}
use Rattle.fcb_ring.specs.declared.record.RecordAt.{RecordAt}
use Rattle.fcb_ring.specs.declared.ring.Ring.{Ring}
use Rattle.fcb_ring.specs.declared.ring.Stage.{Stage}
use Rattle.fcb_ring.specs.declared.ring.Stage.TheVariants.{Ready, Collecting}
use Rattle.fcb_ring.specs.declared.sector.SectorState.{SectorState}
use Rattle.fcb_ring.specs.Changing.{newest_place, sector_list, IsEraseLoss, EndsCollection}
use Rattle.fcb_ring.specs.Entries.{states, sector_entries, entries, HasEntries}
use Rattle.fcb_ring.specs.Rings.{state_at, turned, first_damage, IsRing, AreClean}
use Rattle.fcb_ring.specs.SectorStates.{state_of}
use Rattle.fcb_ring.specs.Standing.{Stands, StandsOn, FitsStage, entries_on, KeepsEntries, uncounted}
use Rattle.fcb_ring.proofs.PlaceLemmas.{All-range, range-append, flat_map-agree}
use Rattle.fcb_ring.proofs.RingLemmas.{turned-low, turned-high, turned-within, turned-zero, turned-same, undamaged}
use Rattle.fcb_ring.proofs.AreaLemmas.{HasSize, has_size, count-sectors, area_after, state-at, length-states}
use Rattle.fcb_ring.proofs.FinishLemmas.{with_unit}
use Rattle.fcb_ring.proofs.StandLemmas.{part, entries-are, blank-free, blank-untorn}

pub collecting-used : (d : Device) (ring : Ring) → StandsOn d ring → ring.stage ≡ Collecting → ring.used ≡ ring.area.sectors
collecting-used d ring on collecting =
    let fits : FitsStage Collecting (states (unit_of d ring.area) (sectors_of d ring.area)) ring.oldest ring.used = subst (λ (s : Stage). FitsStage s (states (unit_of d ring.area) (sectors_of d ring.area)) ring.oldest ring.used) collecting on.sectors.stage in
    fits ∙ length-states (unit_of d ring.area) (sectors_of d ring.area) ∙ count-sectors d ring.area

-- the places as they are from the sector after the first on
pub turned-next : (n from k : ℕ) → from < n → k + 1 < n → turned n (turned n from 1) k ≡ turned n from (k + 1)
turned-next n from k f lt = elim (cases_lt (from + 1) n) [
  | inl low ↦
      let one : turned n from 1 ≡ from + 1 = turned-low n from 1 low in
      ap (λ (p : ℕ). turned n p k) one ∙ elim (cases_lt (from + 1 + k) n) [
        | inl below ↦ turned-low n (from + 1) k below ∙ sym (turned-low n from (k + 1) (omega arith) ∙ omega arith)
        | inr above ↦ turned-high n (from + 1) k above ∙ sym (turned-high n from (k + 1) (omega arith) ∙ omega arith)
      ]
  | inr high ↦
      let one : turned n from 1 ≡ 0 = turned-high n from 1 high ∙ omega arith in
      ap (λ (p : ℕ). turned n p k) one ∙ turned-low n 0 k (omega arith) ∙ sym (turned-high n from (k + 1) (omega arith) ∙ omega arith)
]

turned-last : (n from : ℕ) → 1 < n → from < n → turned n (turned n from 1) (n - 1) ≡ from
turned-last n from more f = elim (cases_lt (from + 1) n) [
  | inl low ↦
      let one : turned n from 1 ≡ from + 1 = turned-low n from 1 low in
      ap (λ (p : ℕ). turned n p (n - 1)) one ∙ turned-high n (from + 1) (n - 1) (omega arith) ∙ omega arith
  | inr high ↦
      let one : turned n from 1 ≡ 0 = turned-high n from 1 high ∙ omega arith in
      ap (λ (p : ℕ). turned n p (n - 1)) one ∙ turned-low n 0 (n - 1) (omega arith) ∙ omega arith
]

shift : {X : Type 0} (f : ℕ → List X) (a n : ℕ) → flat_map f (range_with_len (a + 1) n) ≡ flat_map (λ k. f (k + 1)) (range_with_len a n)
shift f a zero = refl
shift f a (suc n) = ap (λ l. f (a + 1) ++ l) (shift f (a + 1) n)

module _ (unit size : ℕ) (old : List (List ℕ)) (has : HasSize unit size old) (ring : Ring) (stands : Stands unit old ring) (collecting : ring.stage ≡ Collecting) where
  long : length (states unit old) ≡ length old
  long = length-states unit old

  all-used : ring.used ≡ length old
  all-used =
      let fits : FitsStage Collecting (states unit old) ring.oldest ring.used = subst (λ (s : Stage). FitsStage s (states unit old) ring.oldest ring.used) collecting stands.stage in
      fits ∙ long

  form : IsRing (states unit old) ring.oldest ring.used
  form = subst (λ (n : ℕ). IsRing (states unit old) ring.oldest n) (omega arith) (subst (λ (s : Stage). IsRing (states unit old) ring.oldest (ring.used + uncounted s)) collecting stands.form)

  first : ring.oldest < length old
  first = omega (arith, form.within, long)

  abbrev pub next : ℕ
  next = turned (length old) ring.oldest 1

  next-in : turned (length old) ring.oldest 1 < length old
  next-in = turned-within (length old) ring.oldest 1 first (omega (arith, has.several))

  abbrev pub erased : List (List ℕ)
  erased = set old ring.oldest (replicate size 255)

  erased-long : length (set old ring.oldest (replicate size 255)) ≡ length old
  erased-long = length-set old ring.oldest (replicate size 255)

  states-long : length (states unit erased) ≡ length old
  states-long = length-states unit erased ∙ erased-long

  -- the sectors after the first, and then the first
  sector-next : (k : ℕ) → k + 1 < length old → sector_at erased (turned (length old) (turned (length old) ring.oldest 1) k) ≡ sector_at old (turned (length old) ring.oldest (k + 1))
  sector-next k lt =
      ap (sector_at erased) (turned-next (length old) ring.oldest k first lt)
      ∙ get_or-set_other old ring.oldest (turned (length old) ring.oldest (k + 1)) (replicate size 255) [] (λ (same : turned (length old) ring.oldest (k + 1) ≡ ring.oldest).
      let zero_is = turned-same (length old) ring.oldest (k + 1) 0 first lt (omega arith) (same ∙ sym (turned-zero (length old) ring.oldest first)) in omega arith)

  state-next : (k : ℕ) → k + 1 < length old → state_at (states unit erased) (turned (length (states unit erased)) (turned (length old) ring.oldest 1) k) ≡ state_at (states unit old) (turned (length (states unit old)) ring.oldest (k + 1))
  state-next k lt =
      ap (λ (n : ℕ). state_at (states unit erased) (turned n next k)) states-long
      ∙ state-at unit erased (turned (length old) next k) (omega (arith, turned-within (length old) next k next-in (omega arith), erased-long))
      ∙ ap (state_of unit) (sector-next k lt)
      ∙ sym (state-at unit old (turned (length old) ring.oldest (k + 1)) (turned-within (length old) ring.oldest (k + 1) first (omega arith)))
      ∙ sym (ap (λ (n : ℕ). state_at (states unit old) (turned n ring.oldest (k + 1))) long)

  state-last : (k : ℕ) → k ≡ length old - 1 → state_at (states unit erased) (turned (length (states unit erased)) (turned (length old) ring.oldest 1) k) ≡ state_of unit (replicate size 255)
  state-last k is =
      ap (λ (n : ℕ). state_at (states unit erased) (turned n next k)) states-long
      ∙ ap (λ (j : ℕ). state_at (states unit erased) (turned (length old) next j)) is
      ∙ ap (state_at (states unit erased)) (turned-last (length old) ring.oldest (omega (arith, has.several)) first)
      ∙ state-at unit erased ring.oldest (omega (arith, first, erased-long))
      ∙ ap (state_of unit) (get_or-set_same old ring.oldest (replicate size 255) [] first)

  pub erased-form : IsRing (states unit erased) (turned (length old) ring.oldest 1) (ring.used - 1)
  erased-form = record {
    several = omega (arith, has.several, states-long);
    few = omega (arith, has.few, states-long);
    within = omega (arith, next-in, states-long);
    most = omega (arith, all-used, states-long);
    empty = λ none. absurd (omega (arith, has.several, all-used));
    used_ones = λ k lt. ap (λ (s : SectorState). s.is_free) (state-next k (omega (arith, all-used))) ∙ form.used_ones (k + 1) (omega arith);
    free_ones = λ k le lt. ap (λ (s : SectorState). s.is_free) (state-last k (omega (arith, all-used, states-long))) ∙ blank-free unit size;
    headers = λ k lt. ap (λ (s : SectorState). s.has_header) (state-next k (omega (arith, all-used))) ∙ form.headers (k + 1) (omega arith);
    ids = λ k lt.
        ap (λ (s : SectorState). s.id) (state-next (k + 1) (omega (arith, all-used))) ∙ form.ids (k + 1) (omega arith)
        ∙ ap (λ (i : ℕ). (i + 1) % 65536) (sym (ap (λ (s : SectorState). s.id) (state-next k (omega (arith, all-used)))));
  }

  erased-clean : AreClean (states unit erased) (turned (length old) ring.oldest 1) (ring.used - 1)
  erased-clean k lt =
      let before = stands.clean (k + 1) (omega arith) in
      let same = state-next k (omega (arith, all-used)) in (
        ap (λ (s : SectorState). s.is_overfull) same ∙ before.0,
        ap (λ (s : SectorState). s.is_dirty) same ∙ before.1,
      )

  pub erased-stands : Stands unit erased (record ring { oldest = turned (length old) ring.oldest 1; used = ring.used - 1; stage = Ready })
  erased-stands = record {
    form = subst (λ (n : ℕ). IsRing (states unit erased) next n) (omega arith) erased-form;
    clean = erased-clean;
    last = λ positive.
        let back : ring.used - 1 - 1 + 1 ≡ ring.used - 1 = omega arith in
        let same = state-next (ring.used - 1 - 1) (omega (arith, all-used)) ∙ ap (λ (k : ℕ). state_at (states unit old) (turned (length (states unit old)) ring.oldest k)) back in
        let before = stands.last (omega arith) in
        record { end = before.end ∙ ap (λ (s : SectorState). s.end) (sym same); id = before.id ∙ ap (λ (s : SectorState). s.id) (sym same) };
    stage = (
      omega (arith, all-used, states-long, has.several),
      λ k le lt. ap (λ (s : SectorState). s.is_torn) (state-last k (omega (arith, all-used, states-long))) ∙ blank-untorn unit size (omega (arith, has.at_least)),
    );
  }

  abbrev pub rest : List (RecordAt × List ℕ)
  rest = flat_map (part unit old ring.oldest) (range_with_len (0 + 1) (length old - 2))

  pub old-parts : entries unit old ≡ sector_entries unit ring.oldest (sector_at old ring.oldest) ++ rest
  old-parts =
      let f : ℕ → List (RecordAt × List ℕ) = part unit old ring.oldest in
      let n : min ring.used (length old - 1) ≡ 1 + (length old - 2) = omega (arith, all-used, has.several) in
      entries-are unit old ring.oldest ring.used form
      ∙ ap (λ (k : ℕ). flat_map (part unit old ring.oldest) (range_with_len 0 k)) n
      ∙ ap (flat_map (part unit old ring.oldest)) (range-append 0 1 (length old - 2))
      ∙ flat_map-append (part unit old ring.oldest) (range_with_len 0 1) (range_with_len (0 + 1) (length old - 2))
      ∙ ap (λ (l : List (RecordAt × List ℕ)). l ++ rest) (append-nil (part unit old ring.oldest 0))
      ∙ ap (λ (p : ℕ). sector_entries unit p (sector_at old p) ++ rest) (turned-zero (length old) ring.oldest first)

  pub new-parts : entries unit erased ≡ rest ++ sector_entries unit (turned (length old) ring.oldest (ring.used - 1)) (sector_at old (turned (length old) ring.oldest (ring.used - 1)))
  new-parts =
      let f : ℕ → List (RecordAt × List ℕ) = part unit old ring.oldest in
      let n : min (ring.used - 1) (length erased - 1) ≡ length old - 1 = omega (arith, all-used, erased-long) in
      let m : length old - 1 ≡ length old - 2 + 1 = omega (arith, has.several) in
      let last : 0 + 1 + (length old - 2) ≡ ring.used - 1 = omega (arith, all-used, has.several) in
      entries-are unit erased (turned (length old) ring.oldest 1) (ring.used - 1) erased-form
      ∙ ap (λ (k : ℕ). flat_map (part unit erased (turned (length old) ring.oldest 1)) (range_with_len 0 k)) n
      ∙ flat_map-agree (part unit erased (turned (length old) ring.oldest 1)) (λ k. part unit old ring.oldest (k + 1)) (range_with_len 0 (length old - 1))
      (All-range (λ k. part unit erased (turned (length old) ring.oldest 1) k ≡ part unit old ring.oldest (k + 1)) 0 (length old - 1) (λ k low high.
      ap (λ (c : ℕ). sector_entries unit (turned c next k) (sector_at erased (turned c next k))) erased-long
      ∙ ap (sector_entries unit (turned (length old) next k)) (sector-next k (omega arith))
      ∙ ap (λ (p : ℕ). sector_entries unit p (sector_at old (turned (length old) ring.oldest (k + 1)))) (turned-next (length old) ring.oldest k first (omega arith))))
      ∙ sym (shift (part unit old ring.oldest) 0 (length old - 1))
      ∙ ap (λ (k : ℕ). flat_map (part unit old ring.oldest) (range_with_len (0 + 1) k)) m
      ∙ ap (flat_map (part unit old ring.oldest)) (range-append (0 + 1) (length old - 2) 1)
      ∙ flat_map-append (part unit old ring.oldest) (range_with_len (0 + 1) (length old - 2)) (range_with_len (0 + 1 + (length old - 2)) 1)
      ∙ ap (λ (l : List (RecordAt × List ℕ)). rest ++ l) (append-nil (part unit old ring.oldest (0 + 1 + (length old - 2))) ∙ ap (part unit old ring.oldest) last)

  pub erased-undamaged : first_damage (states unit erased) ≡ None
  erased-undamaged = undamaged (states unit erased) (turned (length old) ring.oldest 1) (ring.used - 1) erased-form (λ k lt. erased-clean k (omega arith))

  pub collecting-has : HasEntries unit old (entries unit old)
  collecting-has = record { undamaged = undamaged (states unit old) ring.oldest ring.used form (λ k lt. stands.clean k (omega arith)); are = refl }

-- the call that ends a collection, on a device
module _ (d : Device) (ring : Ring) (lawful : IsLawful d.banks d.bytes) (on : StandsOn d ring) (collecting : ring.stage ≡ Collecting) (new : Device) (banks : new.banks ≡ d.banks) where
  abbrev unit : ℕ
  unit = unit_of d ring.area

  abbrev old : List (List ℕ)
  old = sectors_of d ring.area

  has : HasSize (unit_of d ring.area) (sector_size d ring.area) (sectors_of d ring.area)
  has = has_size d ring.area lawful on.area

  pub same-list : sectors_of new ring.area ≡ sectors_of d ring.area → KeepsEntries d new ring.area
  same-list same = with_unit (λ (u : ℕ). HasEntries u (sectors_of new ring.area) (entries_on d ring.area)) d new ring.area banks
      (subst (λ (l : List (List ℕ)). HasEntries (unit_of d ring.area) l (entries_on d ring.area)) (sym same) (collecting-has unit (sector_size d ring.area) old has ring on.sectors collecting))

  module _ (next : ℕ) (next-is : next ≡ turned ring.area.sectors ring.oldest 1) (after : sectors_of new ring.area ≡ set (sectors_of d ring.area) ring.oldest (replicate (sector_size d ring.area) 255)) where
    next-old : turned (length (sectors_of d ring.area)) ring.oldest 1 ≡ next
    next-old = ap (λ (n : ℕ). turned n ring.oldest 1) (count-sectors d ring.area) ∙ sym next-is

    pub ended-stands : StandsOn new (record ring { oldest = next; used = ring.used - 1; stage = Ready })
    ended-stands = record {
      area = area_after d new ring.area banks on.area;
      sectors = with_unit (λ (u : ℕ). Stands u (sectors_of new ring.area) (record ring { oldest = next; used = ring.used - 1; stage = Ready })) d new ring.area banks
          (subst (λ (l : List (List ℕ)). Stands (unit_of d ring.area) l (record ring { oldest = next; used = ring.used - 1; stage = Ready })) (sym after)
          (subst (λ (p : ℕ). Stands (unit_of d ring.area) (set (sectors_of d ring.area) ring.oldest (replicate (sector_size d ring.area) 255)) (record ring { oldest = p; used = ring.used - 1; stage = Ready })) next-old
          (erased-stands unit (sector_size d ring.area) old has ring on.sectors collecting)));
    }

    some : 0 < ring.used
    some = omega (arith, collecting-used d ring on collecting, on.area.lawful.several)

    pub ended-collection : EndsCollection d new ring (record ring { oldest = next; used = ring.used - 1; stage = Ready })
    ended-collection = record {
      rest = rest unit (sector_size d ring.area) old has ring on.sectors collecting;
      old_list = old-parts unit (sector_size d ring.area) old has ring on.sectors collecting;
      new_list = with_unit (λ (u : ℕ). HasEntries u (sectors_of new ring.area) (rest unit (sector_size d ring.area) old has ring on.sectors collecting ++ sector_list d ring.area (newest_place ring))) d new ring.area banks
          (subst (λ (l : List (List ℕ)). HasEntries (unit_of d ring.area) l (rest unit (sector_size d ring.area) old has ring on.sectors collecting ++ sector_list d ring.area (newest_place ring))) (sym after)
          (subst (λ (n : ℕ). HasEntries (unit_of d ring.area) (set (sectors_of d ring.area) ring.oldest (replicate (sector_size d ring.area) 255)) (rest unit (sector_size d ring.area) old has ring on.sectors collecting ++ sector_list d ring.area (turned n ring.oldest (ring.used - 1)))) (count-sectors d ring.area)
          (record { undamaged = erased-undamaged unit (sector_size d ring.area) old has ring on.sectors collecting; are = new-parts unit (sector_size d ring.area) old has ring on.sectors collecting })));
      oldest = next-is;
      used = omega (arith, some);
      id = refl;
    }

pub erase-most : (old new : Device) (bank sector : ℕ) → FailsToErase old new bank sector → SpendsAtMost old new 1
erase-most old new bank sector (inl off) = let same : new.spent ≡ old.spent = ap (λ (x : Device). x.spent) off.is in (0, omega arith, omega arith)
erase-most old new bank sector (inr cuts) = (0, omega arith, ap (λ (x : Device). x.spent) cuts.is)

-- the loss of an erase that was cut
pub erase-lost : (old new : Device) (area : Area) (place : ℕ) → new.banks ≡ old.banks → FailsToErase old new area.bank (area.first + place) → old.is_on ≡ true → IsEraseLoss new area place
erase-lost old new area place banks (inl off) is_on = absurd (both_ways old.is_on off.off is_on)
erase-lost old new area place banks (inr cuts) is_on =
    let none : (area.first + place) * sector_size old area ≡ (area.first + place) * sector_size old area + 0 = omega arith in
    ap (λ (x : Device). x.last_loss) cuts.is
    ∙ ap (λ (n : ℕ). Some (loss_of n)) none
    ∙ ap (λ (all : List Bank). Some (loss_of ((area.first + place) * (bank_at all area.bank).sector + 0))) (sym banks)
  where
    loss_of : ℕ → Loss
    loss_of n = record { at = record { bank = area.bank; offset = n }; want = record { items = [] }; done = 0 }
