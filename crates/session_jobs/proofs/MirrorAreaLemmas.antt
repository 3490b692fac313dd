-- The areas of a mirror: how many are for what, and the map of areas that they are.
use Rattle.std.proofs.Common.{◌≡◌, ◌≢◌, ◌∙◌, ◌⊎◌, inl, inr, ℕ, zero, suc, ◌+◌, ◌≤◌, Bool, true, false, cond, not, List, [], ◌∷◌, length, Option, Some, None, refl, sym, ap, subst, arith}
use Rattle.std.specs.Prelude.{count_by}
use Rattle.std.specs.List.{slice_get}
use Rattle.std.proofs.lemmas.Bool.{false≢true}
use Rattle.std.proofs.lemmas.Option.{none-some}
use Rattle.std.proofs.lemmas.List.Sums.{sum_by-cons}
use Rattle.flash_sim.specs.Device.{Device}
use Rattle.flash_map.specs.declared.area.Area.{Area}
use Rattle.flash_map.specs.declared.area.Role.{Role}
use Rattle.flash_map.specs.declared.area.Role.TheVariants.{Nvs, Zms, Fcb, Sel}
use Rattle.any_backend.specs.ByRole.{any_serves}
use Rattle.image_file.specs.Format.{image_on}
use Rattle.image_file.specs.Lawful.{IsImage, is_sel}
use Rattle.image_jobs.proofs.ServedLemmas.{maps_are_served}
use Rattle.migrator.specs.Areas.{is_store, is_store_at, selector_of, stores}
use Rattle.mirror.specs.Room.{IsMirrored}
use Rattle.mirror.specs.Trusted.{IsMirrorMap}
use Rattle.session_jobs.specs.MirrorInputs.{AreMirrored, may_mirror}

-- ---- counts

-- with one area more
count_more : (p : Area → Bool) (area : Area) (areas : List Area) → count_by p (area ∷ areas) ≡ cond (p area) 1 0 + count_by p areas
count_more p area areas = sum_by-cons (λ a. cond (p a) 1 0) area areas

-- ---- roles

abbrev stored_as : Role → ℕ
stored_as role = cond (may_mirror role) 1 0

abbrev selected_as : Role → ℕ
selected_as role = cond (is_sel role) 1 0

one_at_most : (role : Role) → stored_as role + selected_as role ≤ 1
one_at_most Nvs = omega arith
one_at_most Zms = omega arith
one_at_most Fcb = omega arith
one_at_most Sel = omega arith

-- the area is for NVS or ZMS
record IsStored (area : Area) : Type 0 where
  pub holds : is_store area ≡ true
  pub role : IsMirrored area

record IsSelected (area : Area) : Type 0 where
  pub holds : is_store area ≡ false

is_stored : (area : Area) (role : Role) → area.role ≡ role → stored_as role ≡ 1 → IsStored area
is_stored area Nvs is one = record { holds = ap stores is; role = inl is }
is_stored area Zms is one = record { holds = ap stores is; role = inr is }
is_stored area Fcb is one = absurd (omega (arith, one))
is_stored area Sel is one = absurd (omega (arith, one))

is_selected : (area : Area) (role : Role) → area.role ≡ role → selected_as role ≡ 1 → IsSelected area
is_selected area Nvs is one = absurd (omega (arith, one))
is_selected area Zms is one = absurd (omega (arith, one))
is_selected area Fcb is one = absurd (omega (arith, one))
is_selected area Sel is one = record { holds = ap stores is }

-- which of three is the selector
abbrev OneOfThree : ℕ → ℕ → ℕ → ℕ → ℕ → ℕ → Type 0
OneOfThree ma mb mc sa sb sc =
    ((sa ≡ 1) × (mb ≡ 1) × (mc ≡ 1)) ⊎ ((ma ≡ 1) × (sb ≡ 1) × (mc ≡ 1)) ⊎ ((ma ≡ 1) × (mb ≡ 1) × (sc ≡ 1))

one_of_three : (ma mb mc sa sb sc : ℕ) → ma + sa ≤ 1 → mb + sb ≤ 1 → mc + sc ≤ 1 → ma + (mb + (mc + 0)) ≡ 2 → sa + (sb + (sc + 0)) ≡ 1 → OneOfThree ma mb mc sa sb sc
one_of_three ma mb mc (suc sa) sb sc a b c two one = inl (omega arith, omega arith, omega arith)
one_of_three ma mb mc zero (suc sb) sc a b c two one = inr (inl (omega arith, omega arith, omega arith))
one_of_three ma mb mc zero zero sc a b c two one = inr (inr (omega arith, omega arith, omega arith))

count_three : (p : Role → Bool) (a b c : Area) → count_by (λ area. p area.role) (a ∷ b ∷ c ∷ []) ≡ cond (p a.role) 1 0 + (cond (p b.role) 1 0 + (cond (p c.role) 1 0 + 0))
count_three p a b c =
    let q : Area → Bool = λ area. p area.role in
    count_more q a (b ∷ c ∷ []) ∙ ap (λ (n : ℕ). cond (q a) 1 0 + n)
    (count_more q b (c ∷ []) ∙ ap (λ (n : ℕ). cond (q b) 1 0 + n) (count_more q c []))

-- ---- the map

none_such : (area : Area) → IsSelected area → is_store area ≡ true → ⊥
none_such area is store = false≢true (sym is.holds ∙ store)

-- each store area may be mirrored
abbrev EachMirrored : List Area → Type 0
EachMirrored areas = (place : ℕ) (area : Area) → slice_get areas place ≡ Some area → is_store area ≡ true → IsMirrored area

each_nil : EachMirrored []
each_nil place area at store = absurd (none-some area at)

each_more : (a : Area) (areas : List Area) → (is_store a ≡ true → IsMirrored a) → EachMirrored areas → EachMirrored (a ∷ areas)
each_more a areas first rest zero area at store =
    let same : a ≡ area = cc in
    subst IsMirrored same (first (subst (λ (x : Area). is_store x ≡ true) (sym same) store))
each_more a areas first rest (suc place) area at store = rest place area at store

stored_mirrored : (area : Area) → IsStored area → is_store area ≡ true → IsMirrored area
stored_mirrored area is store = is.role

selected_mirrored : (area : Area) → IsSelected area → is_store area ≡ true → IsMirrored area
selected_mirrored area is store = absurd (none_such area is store)

-- the places of the store areas of three
abbrev StoresOnly : List Area → ℕ → ℕ → Type 0
StoresOnly areas one two = (place : ℕ) → is_store_at areas place ≡ true → (place ≡ one) ⊎ (place ≡ two)

module _ (d : Device) (a b c : Area) (is : IsImage (image_on (a ∷ b ∷ c ∷ []) d)) where
  abbrev three : List Area
  three = a ∷ b ∷ c ∷ []

  with_parts : (selector : Area) (one two : ℕ) → selector_of three ≡ Some selector → EachMirrored three → one ≢ two → is_store_at three one ≡ true → is_store_at three two ≡ true
      → StoresOnly three one two → IsMirrorMap any_serves three d
  with_parts selector one two selected roles apart first second only = record {
    lawful = (maps_are_served three d is).lawful;
    served = (maps_are_served three d is).served;
    roles = roles;
    selector = selector;
    selected = selected;
    one = one;
    two = two;
    apart = apart;
    one_stores = first;
    two_stores = second;
    only = only;
  }

  found : (x : Bool) (o : Option Area) (area : Area) → x ≡ false → cond (not x) (Some area) o ≡ Some area
  found x o area is = ap (λ (y : Bool). cond (not y) (Some area) o) is

  passed : (x : Bool) (o : Option Area) (area : Area) → x ≡ true → cond (not x) (Some area) o ≡ o
  passed x o area is = ap (λ (y : Bool). cond (not y) (Some area) o) is

  first_selected : IsSelected a → IsStored b → IsStored c → IsMirrorMap any_serves three d
  first_selected sel one two = with_parts a 1 2
      (found (is_store a) (selector_of (b ∷ c ∷ [])) a sel.holds)
      (each_more a (b ∷ c ∷ []) (selected_mirrored a sel) (each_more b (c ∷ []) (stored_mirrored b one) (each_more c [] (stored_mirrored c two) each_nil)))
      (λ same. omega arith) one.holds two.holds only
    where
      only : StoresOnly three 1 2
      only zero store = absurd (none_such a sel store)
      only (suc zero) store = inl refl
      only (suc (suc zero)) store = inr refl
      only (suc (suc (suc place))) store = absurd (false≢true store)

  second_selected : IsStored a → IsSelected b → IsStored c → IsMirrorMap any_serves three d
  second_selected one sel two = with_parts b 0 2
      (passed (is_store a) (selector_of (b ∷ c ∷ [])) a one.holds ∙ found (is_store b) (selector_of (c ∷ [])) b sel.holds)
      (each_more a (b ∷ c ∷ []) (stored_mirrored a one) (each_more b (c ∷ []) (selected_mirrored b sel) (each_more c [] (stored_mirrored c two) each_nil)))
      (λ same. omega arith) one.holds two.holds only
    where
      only : StoresOnly three 0 2
      only zero store = inl refl
      only (suc zero) store = absurd (none_such b sel store)
      only (suc (suc zero)) store = inr refl
      only (suc (suc (suc place))) store = absurd (false≢true store)

  third_selected : IsStored a → IsStored b → IsSelected c → IsMirrorMap any_serves three d
  third_selected one two sel = with_parts c 0 1
      (passed (is_store a) (selector_of (b ∷ c ∷ [])) a one.holds ∙ passed (is_store b) (selector_of (c ∷ [])) b two.holds ∙ found (is_store c) None c sel.holds)
      (each_more a (b ∷ c ∷ []) (stored_mirrored a one) (each_more b (c ∷ []) (stored_mirrored b two) (each_more c [] (selected_mirrored c sel) each_nil)))
      (λ same. omega arith) one.holds two.holds only
    where
      only : StoresOnly three 0 1
      only zero store = inl refl
      only (suc zero) store = inr refl
      only (suc (suc zero)) store = absurd (none_such c sel store)
      only (suc (suc (suc place))) store = absurd (false≢true store)

  three_mirrored : AreMirrored three → IsMirrorMap any_serves three d
  three_mirrored mirrored = elim (one_of_three (stored_as a.role) (stored_as b.role) (stored_as c.role) (selected_as a.role) (selected_as b.role) (selected_as c.role)
      (one_at_most a.role) (one_at_most b.role) (one_at_most c.role)
      (sym (count_three may_mirror a b c) ∙ mirrored.stores) (sym (count_three is_sel a b c) ∙ mirrored.selector)) [
        | inl of ↦ first_selected (is_selected a a.role refl of.0) (is_stored b b.role refl of.1) (is_stored c c.role refl of.2)
        | inr (inl of) ↦ second_selected (is_stored a a.role refl of.0) (is_selected b b.role refl of.1) (is_stored c c.role refl of.2)
        | inr (inr of) ↦ third_selected (is_stored a a.role refl of.0) (is_stored b b.role refl of.1) (is_selected c c.role refl of.2)
      ]

-- the areas of an image that are a mirror are one to the session
pub is_mirror_map : (areas : List Area) (d : Device) → IsImage (image_on areas d) → AreMirrored areas → IsMirrorMap any_serves areas d
is_mirror_map [] d is mirrored = let none : 0 ≡ 3 = mirrored.all in absurd (omega (arith, none))
is_mirror_map (a ∷ []) d is mirrored = let none : length (a ∷ []) ≡ 3 = mirrored.all in absurd (omega (arith, none))
is_mirror_map (a ∷ b ∷ []) d is mirrored = let none : length (a ∷ b ∷ []) ≡ 3 = mirrored.all in absurd (omega (arith, none))
is_mirror_map (a ∷ b ∷ c ∷ []) d is mirrored = three_mirrored d a b c is mirrored
is_mirror_map (a ∷ b ∷ c ∷ e ∷ areas) d is mirrored = let none : length (a ∷ b ∷ c ∷ e ∷ areas) ≡ 3 = mirrored.all in absurd (omega (arith, none))
