-- What stays of the selector where the two store areas changed.
use Rattle.std.proofs.Common.{◌≡◌, inl, inr, ℕ, zero, suc, ◌+◌, ◌*◌, ◌<◌, ◌≤◌, Bool, true, List, [], ◌∷◌, length, get_or, take, drop, Some, refl, sym, ◌∙◌, ap, subst, arith}
use Rattle.std.specs.Prelude.{Contains}
use Rattle.std.specs.List.{slice_get}
use Rattle.std.proofs.Math.Nat.{mul-le-mul_left}
use Rattle.std.proofs.lemmas.List.{ext_get_or, get_or-drop, get_or-take, length-drop, length-take}
use Rattle.std.proofs.lemmas.Option.{get_or_from_slice_get, slice_get_within}
use Rattle.flash_sim.specs.Bank.{IsLawful, bank_at, capacity}
use Rattle.flash_sim.specs.Device.{Device, bytes_of}
use Rattle.flash_sim.specs.declared.flash.Bank.{Bank}
use Rattle.flash_map.specs.declared.area.Area.{Area}
use Rattle.flash_map.specs.declared.area.Geometry.{Geometry}
use Rattle.flash_map.specs.Sectors.{sectors_from}
use Rattle.flash_map.specs.Area.{IsLawfulArea, AreApart, sector_size, sectors_of}
use Rattle.flash_map.specs.Touches.{IsIn, IsInSome, SameOutside, Touches}
use Rattle.flash_map.proofs.Touches.{wider}
use Rattle.fcb_ring.specs.Standing.{erases_due}
use Rattle.fcb_ring.specs.Entries.{states}
use Rattle.migrator.specs.Active.{active_on, selector_damage_on}
use Rattle.migrator.specs.Areas.{is_store, selector_of}
use Rattle.migrator.proofs.Migration.{selector-apart, selector-at}
use Rattle.migrator.proofs.Moving.{still}
use Rattle.mirror.specs.Mounting.{SelectorRests}
use Rattle.mirror.specs.Trusted.{IsMirrorMap}
use Rattle.session.proofs.ActiveAreas.{active_still, selector_still}
use Rattle.mirror_session.proofs.PlaceLemmas.{store_at}

-- no byte is in both
not_both : (area other : Area) (size : ℕ) (banks : List Bank) (offset : ℕ) → (bank_at banks other.bank).sector ≡ size → other.first * size ≤ offset → offset < (other.first + other.sectors) * size → AreApart area other → IsIn banks other.bank offset area → ⊥
not_both area other size banks offset is from below apart inside =
    let same : (bank_at banks area.bank).sector ≡ size = ap (λ (b : ℕ). (bank_at banks b).sector) (sym inside.same_bank) ∙ is in
    let area_from = subst (λ (n : ℕ). area.first * n ≤ offset) same inside.from in
    let area_below = subst (λ (n : ℕ). offset < (area.first + area.sectors) * n) same inside.below in
    elim (apart.apart (sym inside.same_bank)) [
      | inl before ↦ omega (arith, mul-le-mul_left size before, area_below)
      | inr after ↦ omega (arith, mul-le-mul_left size after, area_from)
    ]

-- sectors that agree byte by byte
same_prefix : (n : ℕ) (xs ys : List ℕ) → length xs ≡ length ys → ((i : ℕ) → i < n → get_or xs i 0 ≡ get_or ys i 0) → take n xs ≡ take n ys
same_prefix n xs ys len same = ext_get_or 0 (take n xs) (take n ys) (omega (arith, length-take n xs, length-take n ys)) (λ i below.
    let within : i < n = omega (arith, length-take n xs) in
    get_or-take n xs i 0 within ∙ same i within ∙ sym (get_or-take n ys i 0 within))

same_sectors : (n size : ℕ) (xs ys : List ℕ) → length xs ≡ length ys → ((i : ℕ) → i < n * size → get_or xs i 0 ≡ get_or ys i 0) → sectors_from n size xs ≡ sectors_from n size ys
same_sectors zero size xs ys len same = refl
same_sectors (suc n) size xs ys len same =
    ap (λ (l : List ℕ). l ∷ sectors_from n size (drop size xs)) (same_prefix size xs ys len (λ i below. same i (omega arith)))
    ∙ ap (λ (l : List (List ℕ)). take size ys ∷ l)
    (same_sectors n size (drop size xs) (drop size ys) (omega (arith, length-drop size xs, length-drop size ys)) (λ i below.
    get_or-drop size xs i 0 ∙ same (size + i) (omega arith) ∙ sym (get_or-drop size ys i 0)))

-- an area that has no sector in common with those that changed
pub same_beyond : (areas : List Area) (other : Area) (old new : Device) → IsLawful old.banks old.bytes → IsLawful new.banks new.bytes → IsLawfulArea old.banks other → ((area : Area) → Contains areas area → AreApart area other)
    → new.banks ≡ old.banks → SameOutside areas old new → sectors_of new other ≡ sectors_of old other
same_beyond areas other old new lawful lawful_new is_area apart banks outside =
    let size : ℕ = sector_size old other in
    let base : ℕ = other.first * size in
    let in_bank : (other.first + other.sectors) * size ≤ capacity (bank_at old.banks other.bank) = omega (arith, mul-le-mul_left size is_area.in_bank) in
    let bank : bank_at new.banks other.bank ≡ bank_at old.banks other.bank = ap (λ (all : List Bank). bank_at all other.bank) banks in
    let old_len = lawful.lengths other.bank is_area.has_bank in
    let new_len : length (bytes_of new other.bank) ≡ capacity (bank_at old.banks other.bank) = lawful_new.lengths other.bank (subst (λ (all : List Bank). other.bank < length all) (sym banks) is_area.has_bank) ∙ ap capacity bank in
    let out : (i : ℕ) → i < other.sectors * size → ¬ IsInSome old.banks other.bank (base + i) areas = λ i below is. not_both is.1 other size old.banks (base + i) refl (omega arith) (omega arith) (apart is.1 (is.0, is.2, is.3)) is.4 in
    ap (λ (b : Bank). sectors_from other.sectors b.sector (drop (other.first * b.sector) (bytes_of new other.bank))) bank
    ∙ same_sectors other.sectors size (drop base (bytes_of new other.bank)) (drop base (bytes_of old other.bank))
    (omega (arith, length-drop base (bytes_of new other.bank), length-drop base (bytes_of old other.bank), old_len, new_len))
    (λ i below. get_or-drop base (bytes_of new other.bank) i 0 ∙ outside other.bank (base + i) (out i below) ∙ sym (get_or-drop base (bytes_of old other.bank) i 0))

-- ---- two areas

two_of : (P : Area → Type 0) (one two x : Area) (k : ℕ) → k < 2 → get_or (one ∷ two ∷ []) k x ≡ x → P one → P two → P x
two_of P one two x zero below is first second = subst P is first
two_of P one two x (suc zero) below is first second = subst P is second
two_of P one two x (suc (suc k)) below is first second = absurd (omega arith)

pub of_two : (P : Area → Type 0) (one two : Area) → P one → P two → (x : Area) → Contains (one ∷ two ∷ []) x → P x
of_two P one two first second x there = two_of P one two x there.0 there.1 there.2 first second

pub listed : (areas : List Area) (place : ℕ) (area : Area) → slice_get areas place ≡ Some area → Contains areas area
listed areas place area there = (place, slice_get_within areas place area there, get_or_from_slice_get areas place area area there)

-- a call on two areas of the map
pub wide : (areas : List Area) (here there : ℕ) (one two : Area) (old new : Device) (lost : Bool) → slice_get areas here ≡ Some one → slice_get areas there ≡ Some two → Touches (one ∷ two ∷ []) old new lost → Touches areas old new lost
wide areas here there one two old new lost at_one at_two touches =
    wider areas (of_two (λ x. Contains areas x) one two (listed areas here one at_one) (listed areas there two at_two)) touches

module _ (serves : Area → Geometry → Type 0) (areas : List Area) (old new : Device) (map : IsMirrorMap serves areas old) (lawful : IsLawful old.banks old.bytes) (lawful_new : IsLawful new.banks new.bytes)
    (here there : ℕ) (one two : Area) (at_one : slice_get areas here ≡ Some one) (at_two : slice_get areas there ≡ Some two) (one_stores : is_store one ≡ true) (two_stores : is_store two ≡ true)
    (banks : new.banks ≡ old.banks) (outside : SameOutside (one ∷ two ∷ []) old new) where
  pub selector_beyond : (s : Area) → selector_of areas ≡ Some s → sectors_of new s ≡ sectors_of old s
  selector_beyond s is =
      let at = selector-at areas s is in
      same_beyond (one ∷ two ∷ []) s old new lawful lawful_new (map.lawful.each at.index s at.there).in_bank
      (of_two (λ x. AreApart x s) one two
      (selector-apart old.banks areas s one here map.lawful is at_one (store_at areas here one at_one one_stores)).1
      (selector-apart old.banks areas s two there map.lawful is at_two (store_at areas there two at_two two_stores)).1)
      banks outside

  pub named_still : active_on areas new ≡ active_on areas old
  named_still = active_still areas old new banks selector_beyond

  pub sound_still : selector_damage_on areas new ≡ selector_damage_on areas old
  sound_still = selector_still areas old new banks selector_beyond

  pub rests_still : SelectorRests areas old → SelectorRests areas new
  rests_still rests s is = still (λ area geometry sectors. erases_due (states geometry.unit sectors)) old new s banks (selector_beyond s is) ∙ rests s is
