-- A store of its role may work on each partition of a lawful image.
use Rattle.std.proofs.Common.{◌≡◌, ℕ, zero, suc, ◌+◌, ◌<◌, ◌∙◌, List, [], ◌∷◌, length, map, Option, Some, None, refl, sym, subst, ap, arith}
use Rattle.std.specs.Prelude.{option_and_then, position}
use Rattle.std.specs.List.{slice_get}
use Rattle.std.proofs.lemmas.List.{length-map}
use Rattle.std.proofs.lemmas.Option.{none-some}
use Rattle.flash_sim.specs.declared.flash.Bank.{Bank}
use Rattle.flash_map.specs.declared.area.Area.{Area}
use Rattle.flash_map.specs.declared.area.Role.{Role}
use Rattle.flash_map.specs.declared.area.Role.TheVariants.{Nvs, Zms, Fcb, Sel}
use Rattle.flash_map.specs.Lawful.{IsLawfulFor}
use Rattle.flash_map.specs.Map.{has_label}
use Rattle.any_backend.specs.ByRole.{serves_as}
use Rattle.image_file.specs.Format.{Plain, plain_area}
use Rattle.image_file.specs.Lawful.{IsImage, area_at}
use Rattle.image_file.specs.Serving.{MayBeServed}
use Rattle.petaqwen.specs.Calls.{for_settings, partition}
use Rattle.petaqwen.specs.Ready.{AreServed}

there : (areas : List Area) (i : ℕ) (area : Area) → slice_get areas i ≡ Some area → i < length areas
there [] i area at = absurd (none-some area at)
there (a ∷ areas) zero area at = omega arith
there (a ∷ areas) (suc i) area at = let within : i < length areas = there areas i area at in omega arith

plain_at : (areas : List Area) (i : ℕ) (area : Area) → slice_get areas i ≡ Some area → area_at (map plain_area areas) i ≡ plain_area area
plain_at [] i area at = absurd (none-some area at)
plain_at (a ∷ areas) zero area at = let same : a ≡ area = cc in ap plain_area same
plain_at (a ∷ areas) (suc i) area at = plain_at areas i area at

for_plain : (banks : List Bank) (area : Area) → IsLawfulFor banks (plain_area area) → IsLawfulFor banks area
for_plain banks area is = record {
  in_bank = record { has_bank = is.in_bank.has_bank; in_bank = is.in_bank.in_bank };
  kind = is.kind;
  unit = is.unit;
  at_least = is.at_least;
  at_most = is.at_most;
  whole = is.whole;
  several = is.several;
  few = is.few;
  long_values = is.long_values;
}

-- the image's areas are these, with nothing in the unused room of their labels
pub image_served : (image : Plain) (areas : List Area) → image.areas ≡ map plain_area areas → IsImage image → MayBeServed → AreServed image.banks areas
image_served image areas are is served i area at =
    let place : area_at image.areas i ≡ plain_area area = subst (λ (all : List Area). area_at all i ≡ plain_area area) (sym are) (plain_at areas i area at) in
    let within : i < length image.areas = subst (λ (all : List Area). i < length all) (sym are) (subst (λ (n : ℕ). i < n) (sym (length-map areas plain_area)) (there areas i area at)) in
    for_plain image.banks area (subst (λ (a : Area). IsLawfulFor image.banks a) place (served image i is within))

-- ---- the partition with a label

by_role : (role : Role) (a area : Area) → for_settings role a ≡ Some area → (a ≡ area) × serves_as role
by_role Nvs a area is = (cc, tt)
by_role Zms a area is = (cc, tt)
by_role Fcb a area is = (cc, tt)
by_role Sel a area is = absurd (none-some area is)

of_found : (banks : List Bank) (found : Option Area) (area : Area) → ((a : Area) → found ≡ Some a → IsLawfulFor banks a) → option_and_then (λ a. for_settings a.role a) found ≡ Some area
    → IsLawfulFor banks area × serves_as area.role
of_found banks None area lawful is = absurd (none-some area is)
of_found banks (Some a) area lawful is =
    let same : a ≡ area = (by_role a.role a area is).0 in
    (subst (λ (x : Area). IsLawfulFor banks x) same (lawful a refl), subst (λ (x : Area). serves_as x.role) same (by_role a.role a area is).1)

at_place : (banks : List Bank) (areas : List Area) (place : Option ℕ) (area : Area) → AreServed banks areas → option_and_then (λ i. slice_get areas i) place ≡ Some area → IsLawfulFor banks area
at_place banks areas None area served is = absurd (none-some area is)
at_place banks areas (Some i) area served is = served i area is

-- a store works on it
pub partition_served : (banks : List Bank) (areas : List Area) (label : List ℕ) (area : Area) → AreServed banks areas → partition areas label ≡ Some area → IsLawfulFor banks area × serves_as area.role
partition_served banks areas label area served is =
    of_found banks (option_and_then (λ i. slice_get areas i) (position (has_label label) areas)) area (λ a at. at_place banks areas (position (has_label label) areas) a served at) is
