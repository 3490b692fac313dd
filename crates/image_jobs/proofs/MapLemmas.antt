-- The areas of an image as a map of areas.
use Rattle.std.proofs.Common.{◌≡◌, ◌≢◌, ◌∙◌, ◌⊎◌, ◌||◌, inl, inr, ℕ, zero, suc, ◌+◌, ◌<◌, ◌≤◌, Bool, true, false, not, List, [], ◌∷◌, length, map, take, Option, Some, None, refl, sym, ap, subst, cond, arith}
use Rattle.std.specs.Prelude.{unwrap_or}
use Rattle.std.specs.List.{list_any, slice_get, count_by}
use Rattle.std.proofs.lemmas.Bool.{false≢true}
use Rattle.std.proofs.lemmas.List.{length-map}
use Rattle.std.proofs.lemmas.List.Sums.{sum_by-cons}
use Rattle.std.proofs.lemmas.Option.{none-some}
use Rattle.flash_sim.specs.Bank.{bank_at, capacity}
use Rattle.flash_sim.specs.Device.{Device}
use Rattle.flash_sim.specs.declared.flash.Bank.{Bank}
use Rattle.flash_map.specs.Area.{AreApart}
use Rattle.flash_map.specs.Lawful.{IsLawfulFor}
use Rattle.flash_map.specs.Map.{HasVersion, shares_sector}
use Rattle.flash_map.specs.declared.area.Area.{Area}
use Rattle.flash_map.specs.declared.area.Role.{Role}
use Rattle.flash_map.specs.declared.area.Role.TheVariants.{Nvs, Zms, Fcb, Sel}
use Rattle.flash_map.proofs.MapLemmas.{are_apart}
use Rattle.fcb_ring.proofs.PlaceLemmas.{found_some, found_none}
use Rattle.image_file.specs.Format.{image_on, plain_area, version_of}
use Rattle.image_file.specs.Lawful.{HasNeeded, IsImage, area_at, is_sel, is_selector, no_area}
use Rattle.image_file.proofs.ServingLemmas.{may_be_served}
use Rattle.migrator.specs.Areas.{first_store, is_store, is_store_at, selector_of, store_from, stores, target}
use Rattle.migrator.proofs.AreaLemmas.{store-within}
use Rattle.image_jobs.specs.Laws.{MapsAreLawful, StaysImage}

-- ---- areas at their places

pub there : (areas : List Area) (i : ℕ) (area : Area) → slice_get areas i ≡ Some area → i < length areas
there [] i area at = absurd (none-some area at)
there (a ∷ areas) zero area at = omega arith
there (a ∷ areas) (suc i) area at = let within : i < length areas = there areas i area at in omega arith

-- the area at a place of the image
pub plain_at : (areas : List Area) (i : ℕ) (area : Area) → slice_get areas i ≡ Some area → area_at (map plain_area areas) i ≡ plain_area area
plain_at [] i area at = absurd (none-some area at)
plain_at (a ∷ areas) zero area at = let same : a ≡ area = cc in ap plain_area same
plain_at (a ∷ areas) (suc i) area at = plain_at areas i area at

pub for_plain : (banks : List Bank) (area : Area) → IsLawfulFor banks (plain_area area) → IsLawfulFor banks area
for_plain banks area is = record {
  in_bank = record { has_bank = is.in_bank.has_bank; in_bank = is.in_bank.in_bank };
  kind = is.kind;
  unit = is.unit;
  at_least = is.at_least;
  at_most = is.at_most;
  whole = is.whole;
  several = is.several;
  few = is.few;
  long_values = is.long_values;
}

-- ---- no two share a sector

-- none of the first areas passes the test
fails_before : (test : Area → Bool) (areas : List Area) (i j : ℕ) (other : Area) → list_any test (take i (map plain_area areas)) ≡ false → j < i → slice_get areas j ≡ Some other
    → test (plain_area other) ≡ false
fails_before test [] i j other none below at = absurd (none-some other at)
fails_before test (a ∷ areas) zero j other none below at = absurd (omega arith)
fails_before test (a ∷ areas) (suc i) zero other none below at =
    let same : a ≡ other = cc in
    subst (λ (x : Area). test (plain_area x) ≡ false) same (first (test (plain_area a)) (list_any test (take i (map plain_area areas))) none)
  where
    first : (b c : Bool) → (b || c) ≡ false → b ≡ false
    first false c none = refl
    first true c none = none
fails_before test (a ∷ areas) (suc i) (suc j) other none below at =
    fails_before test areas i j other (rest (test (plain_area a)) (list_any test (take i (map plain_area areas))) none) (omega arith) at
  where
    rest : (b c : Bool) → (b || c) ≡ false → c ≡ false
    rest false c none = none
    rest true c none = absurd (false≢true (sym none))

turned : (area other : Area) → AreApart area other → AreApart other area
turned area other is = record { apart = λ same. elim (is.apart (sym same)) [ inl first ↦ inr first | inr second ↦ inl second ] }

from_plain : (area other : Area) → AreApart (plain_area area) (plain_area other) → AreApart area other
from_plain area other is = record { apart = is.apart }

-- the area at a place and one before it
apart_before : (areas : List Area) (d : Device) → IsImage (image_on areas d) → (i j : ℕ) (area other : Area) → slice_get areas i ≡ Some area → slice_get areas j ≡ Some other → j < i → AreApart area other
apart_before areas d is i j area other at also below =
    let here : i < length (map plain_area areas) = subst (λ (n : ℕ). i < n) (sym (length-map areas plain_area)) (there areas i area at) in
    let none : list_any (shares_sector (plain_area area)) (take i (map plain_area areas)) ≡ false =
    subst (λ (a : Area). list_any (shares_sector a) (take i (map plain_area areas)) ≡ false) (plain_at areas i area at) (is.each_area i here).new.apart in
    from_plain area other (are_apart (plain_area area) (plain_area other) (fails_before (shares_sector (plain_area area)) areas i j other none below also))

by_order : (i j : ℕ) → i ≢ j → (j < i) ⊎ (i < j)
by_order zero zero differ = absurd (differ refl)
by_order zero (suc j) differ = inr (omega arith)
by_order (suc i) zero differ = inl (omega arith)
by_order (suc i) (suc j) differ = elim (by_order i j (λ same. differ (ap suc same))) [ inl below ↦ inl (omega arith) | inr above ↦ inr (omega arith) ]

-- ---- versions

-- each area is of the image's version
pub version_at : (areas : List Area) (d : Device) → IsImage (image_on areas d) → (i : ℕ) (area : Area) → slice_get areas i ≡ Some area → area.version ≡ version_of areas
version_at areas d is i area at =
    subst (λ (a : Area). HasVersion (version_of areas) a) (plain_at areas i area at) (is.versions i no_area (subst (λ (n : ℕ). i < n) (sym (length-map areas plain_area)) (there areas i area at)))

pub maps_are_lawful : MapsAreLawful
maps_are_lawful areas d is = record {
  few = subst (λ (n : ℕ). n ≤ 8) (length-map areas plain_area) is.few_areas;
  each = λ i area at. for_plain d.banks area (subst (λ (a : Area). IsLawfulFor d.banks a) (plain_at areas i area at)
      (may_be_served (image_on areas d) i is (subst (λ (n : ℕ). i < n) (sym (length-map areas plain_area)) (there areas i area at))));
  apart = λ i j area other at also differ. elim (by_order i j differ) [
    | inl below ↦ apart_before areas d is i j area other at also below
    | inr above ↦ turned other area (apart_before areas d is j i other area also at above)
  ];
  versions = λ i j area other at also. version_at areas d is i area at ∙ sym (version_at areas d is j other also);
}

-- ---- the stores

-- a role is a store's or the selector's
by_kind : (role : Role) → ((stores role ≡ true) × (is_sel role ≡ false)) ⊎ ((stores role ≡ false) × (is_sel role ≡ true))
by_kind Nvs = inl (refl, refl)
by_kind Zms = inl (refl, refl)
by_kind Fcb = inl (refl, refl)
by_kind Sel = inr (refl, refl)

-- with one area more
counted : (area : Area) (areas : List Area) (b : Bool) → is_selector area ≡ b → count_by is_selector (map plain_area (area ∷ areas)) ≡ cond b 1 0 + count_by is_selector (map plain_area areas)
counted area areas b is =
    sum_by-cons (λ a. cond (is_selector a) 1 0) (plain_area area) (map plain_area areas) ∙ ap (λ (c : Bool). cond c 1 0 + count_by is_selector (map plain_area areas)) is

-- where not all are selectors, one is a store
store_in : (areas : List Area) → count_by is_selector (map plain_area areas) < length (map plain_area areas) → (i : ℕ) × (is_store_at areas i ≡ true)
store_in [] few = absurd (omega arith)
store_in (area ∷ areas) few = elim (by_kind area.role) [
  | inl is ↦ (0, is.0)
  | inr is ↦
      let count : count_by is_selector (map plain_area (area ∷ areas)) ≡ 1 + count_by is_selector (map plain_area areas) = counted area areas true is.1 in
      let more : count_by is_selector (map plain_area areas) < length (map plain_area areas) = omega (arith, few, count) in
      let found = store_in areas more in (suc found.0, found.1)
]

pub first_is_store : (areas : List Area) (i : ℕ) → is_store_at areas i ≡ true → is_store_at areas (first_store areas) ≡ true
first_is_store areas i is = go (store_from areas 0 (length areas)) refl
  where
    go : (o : Option ℕ) → store_from areas 0 (length areas) ≡ o → is_store_at areas (unwrap_or o 0) ≡ true
    go (Some x) e = (found_some (is_store_at areas) 0 (length areas) x e).passes
    go None e =
        let within : i < length areas = store-within areas i is in
        absurd (false≢true (sym (found_none (is_store_at areas) 0 (length areas) e i (omega arith) (omega arith)) ∙ is))

pub has_store : (areas : List Area) (d : Device) → IsImage (image_on areas d) → is_store_at areas (first_store areas) ≡ true
has_store areas d is = let found = store_in areas is.needed.some_store in first_is_store areas found.0 found.1

no_selector : (areas : List Area) → selector_of areas ≡ None → count_by is_selector (map plain_area areas) ≡ 0
no_selector [] none = refl
no_selector (area ∷ areas) none = elim (by_kind area.role) [
  | inl is ↦
      let rest : selector_of areas ≡ None = sym (ap (λ (b : Bool). cond (not b) (Some area) (selector_of areas)) is.0) ∙ none in
      let count : count_by is_selector (map plain_area (area ∷ areas)) ≡ 0 + count_by is_selector (map plain_area areas) = counted area areas false is.1 in
      let more : count_by is_selector (map plain_area areas) ≡ 0 = no_selector areas rest in
      omega (arith, count, more)
  | inr is ↦
      let some : Some area ≡ None = sym (ap (λ (b : Bool). cond (not b) (Some area) (selector_of areas)) is.0) ∙ none in
      absurd (none-some area (sym some))
]

-- an area alone has none behind it
alone : (area : Area) (b : Bool) → target (area ∷ []) (unwrap_or (cond b (Some 0) None) 0) ≡ None
alone area true = refl
alone area false = refl

pub only_one : (areas : List Area) → HasNeeded (map plain_area areas) → selector_of areas ≡ None → target areas (first_store areas) ≡ None
only_one [] needed none = absurd (omega (arith, needed.some_store))
only_one (area ∷ []) needed none = alone area (is_store area)
only_one (area ∷ other ∷ areas) needed none =
    let count : count_by is_selector (map plain_area (area ∷ other ∷ areas)) ≡ 0 = no_selector (area ∷ other ∷ areas) none in
    let some : 1 ≤ count_by is_selector (map plain_area (area ∷ other ∷ areas)) = needed.selector (omega (arith, count)) in
    absurd (omega (arith, some, count))

-- ---- bytes

pub stays_image : StaysImage
stays_image areas old new is same lawful =
    let banks_long : length new.banks ≡ length old.banks = ap length same in
    subst (λ (banks : List Bank). IsImage (record { version = version_of areas; banks = banks; areas = map plain_area areas; bytes = new.bytes })) (sym same) (record {
      version = is.version;
      some_banks = is.some_banks;
      few_banks = is.few_banks;
      each_bank = is.each_bank;
      some_areas = is.some_areas;
      few_areas = is.few_areas;
      versions = is.versions;
      each_area = is.each_area;
      plain = is.plain;
      needed = is.needed;
      count = lawful.count ∙ banks_long;
      lengths = λ i below. lawful.lengths i (omega (arith, below, banks_long)) ∙ ap (λ (banks : List Bank). capacity (bank_at banks i)) same;
    })
