-- Areas and their plain data.
use Rattle.std.proofs.Common.{◌≡◌, ℕ, zero, suc, ◌+◌, ◌<◌, ◌&&◌, Bool, cond, List, [], ◌∷◌, map, get_or, true, false, refl, sym, ◌∙◌, arith}
use Rattle.std.specs.List.{list_any, list_all, fold}
use Rattle.std.specs.Str.{IsAscii}
use Rattle.std.proofs.lemmas.Bool.Decides.{nat_tests}
use Rattle.image_file.specs.Lawful.{IsLabel, is_label_byte, is_selector, IsImageArea}
use Rattle.std.specs.Prelude.{Ok, Err, ◌++◌, count_by}
use Rattle.image_file.specs.Takes.{TakesArea}
use Rattle.flash_sim.specs.declared.flash.Bank.{Bank}
use Rattle.flash_map.specs.declared.map.AddFault.{AddFault}
use Rattle.flash_map.specs.declared.map.AddFault.TheVariants.{Exists, OutOfBank, Overlaps, NoMemory}
use Rattle.flash_map.specs.Map.{has_label, shares_sector, IsInBank, IsNewTo, Adds}
use Rattle.flash_map.proofs.MapLemmas.{list_any-map}
use Rattle.flash_map.specs.declared.area.Area.{Area}
use Rattle.image_file.specs.Format.{plain_area}

pub new_plain : (old : List Area) (area : Area) → IsNewTo old area → IsNewTo (map plain_area old) (plain_area area)
new_plain old area new = record {
  label = list_any-map (has_label area.label.bytes) plain_area old ∙ new.label;
  apart = list_any-map (shares_sector area) plain_area old ∙ new.apart;
}

pub label_taken : (old : List Area) (area : Area) → list_any (has_label area.label.bytes) old ≡ true → IsNewTo (map plain_area old) (plain_area area) → ⊥
label_taken old area taken new =
    let both = sym taken ∙ (sym (list_any-map (has_label area.label.bytes) plain_area old) ∙ new.label) in cc

pub sector_taken : (old : List Area) (area : Area) → list_any (shares_sector area) old ≡ true → IsNewTo (map plain_area old) (plain_area area) → ⊥
sector_taken old area taken new =
    let both = sym taken ∙ (sym (list_any-map (shares_sector area) plain_area old) ∙ new.apart) in cc

-- a label's unused room makes no area a selector
pub selectors_plain : (areas : List Area) → count_by is_selector areas ≡ count_by is_selector (map plain_area areas)
selectors_plain areas = from 0 areas
  where
    from : (n : ℕ) (areas : List Area) → fold (λ n area. n + cond (is_selector area) 1 0) n areas ≡ fold (λ n area. n + cond (is_selector area) 1 0) n (map plain_area areas)
    from n [] = refl
    from n (area ∷ areas) = from (n + cond (is_selector area) 1 0) areas

low_byte : (b : ℕ) → is_label_byte b ≡ true → b < 128
low_byte b is = grind (arith, nat_tests)

pub label_is_ascii : (label : List ℕ) → IsLabel label → IsAscii label
label_is_ascii label is = each label is.each
  where
    both : (a b : Bool) → (a && b) ≡ true → (a ≡ true) × (b ≡ true)
    both true b h = (refl, h)
    both false b h = cc

    each : (label : List ℕ) → list_all is_label_byte label ≡ true → (i : ℕ) → get_or label i 0 < 128
    each [] all i = omega arith
    each (b ∷ label) all zero = low_byte b (both (is_label_byte b) (list_all is_label_byte label) all).0
    each (b ∷ label) all (suc i) = each label (both (is_label_byte b) (list_all is_label_byte label) all).1 i

pub plain_in_bank : (banks : List Bank) (area : Area) → IsInBank banks area → IsInBank banks (plain_area area)
plain_in_bank banks area is = record { has_bank = is.has_bank; some = is.some; in_bank = is.in_bank }

pub from_plain_in_bank : (banks : List Bank) (area : Area) → IsInBank banks (plain_area area) → IsInBank banks area
from_plain_in_bank banks area is = record { has_bank = is.has_bank; some = is.some; in_bank = is.in_bank }

-- an area that was refused, not for want of memory, may not stand there
pub not_added : (banks : List Bank) (old new : List Area) (area : Area) (fault : AddFault) → (fault ≡ NoMemory → ⊥) → Adds banks old new area (Err fault) → (IsImageArea banks (map plain_area old) (plain_area area) → ⊥) × (new ≡ old)
not_added banks old new area Exists memory adds = (λ is. label_taken old area adds.0 is.new, adds.1)
not_added banks old new area OutOfBank memory adds = (λ is. adds.1 (from_plain_in_bank banks area is.in_bank), adds.2)
not_added banks old new area Overlaps memory adds = (λ is. sector_taken old area adds.2 is.new, adds.3)
not_added banks old new area NoMemory memory adds = absurd (memory refl)

-- what the answer of taking an area says
pub area_taken : (banks : List Bank) (old new : List Area) (area : Area) (b : Bool) → b ≡ true → TakesArea banks old new area (Ok b) → IsImageArea banks (map plain_area old) (plain_area area) × (new ≡ old ++ area ∷ [])
area_taken banks old new area true is takes = takes
area_taken banks old new area false is takes = absurd cc

pub area_not_taken : (banks : List Bank) (old new : List Area) (area : Area) (b : Bool) → b ≡ false → TakesArea banks old new area (Ok b) → (IsImageArea banks (map plain_area old) (plain_area area) → ⊥)
area_not_taken banks old new area true is takes = absurd cc
area_not_taken banks old new area false is takes = takes.0
