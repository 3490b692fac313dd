-- What taking an item makes of the banks and areas so far.
use Rattle.std.specs.Prelude.{◌≡◌, ⊤, ℕ, ◌+◌, ◌<◌, ◌≤◌, Bool, true, false, Option, Some, None, Result, Ok, Err, List, [], ◌∷◌, ◌++◌, length, map, take, count_by}
use Rattle.std.specs.List.{All}
use Rattle.flash_sim.specs.Bank.{bank_at}
use Rattle.flash_map.specs.Map.{HasVersion}
use Rattle.flash_sim.specs.declared.flash.Bank.{Bank}
use Rattle.flash_sim.specs.declared.flash.NoMemory.{NoMemory as OutOfMemory}
use Rattle.flash_map.specs.declared.area.Area.{Area}
use Rattle.image_file.specs.declared.spec.Items.{Items}
use Rattle.image_file.specs.declared.image.SpecFault.{SpecFault}
use Rattle.image_file.specs.declared.image.SpecFault.TheVariants.{BadSpec, NoMemory}
use Rattle.image_file.specs.Format.{plain_area}
use Rattle.image_file.specs.Lawful.{IsVersion, IsImageBank, IsImageArea, HasNeeded, is_selector, area_at}
use Rattle.text_parts.specs.Parts.{parts}
use Rattle.image_file.specs.Spec.{Listed, listed, nothing_listed, second_version, Adds, AddsAll, FirstBad}

-- what holds of banks and areas that were added one after another
pub record IsListed (l : Listed) : Type 0 where
  pub version : IsVersion l.version
  pub few_banks : length l.banks ≤ 2
  pub each_bank : (i : ℕ) → i < length l.banks → IsImageBank l.version (bank_at l.banks i)
  pub few_areas : length l.areas ≤ 8
  pub versions : All (HasVersion l.version) l.areas
  pub each_area : (i : ℕ) → i < length l.areas → IsImageArea l.banks (take i l.areas) (area_at l.areas i)
  pub plain : map plain_area l.areas ≡ l.areas

-- the answer says whether the bank may be added
abbrev pub TakesBank : ℕ → List Bank → List Bank → List Area → Bank → Result Bool OutOfMemory → Type 0
TakesBank version old new areas bank (Ok true) =
    IsImageBank version bank × (areas ≡ []) × (length old < 2) × (new ≡ old ++ bank ∷ [])
TakesBank version old new areas bank (Ok false) =
    (IsImageBank version bank → areas ≡ [] → length old < 2 → ⊥) × (new ≡ old)
TakesBank version old new areas bank (Err _) = ⊤

-- a selector is the only one
abbrev pub IsAlone : List Area → Area → Type 0
IsAlone others area = is_selector area ≡ true → count_by is_selector others ≡ 0

-- the answer says whether the area may be added
abbrev pub TakesListed : List Bank → List Area → List Area → Area → Result Bool OutOfMemory → Type 0
TakesListed banks old new area (Ok true) =
    IsImageArea banks (map plain_area old) (plain_area area) × (length old < 8)
    × IsAlone (map plain_area old) area × (new ≡ old ++ area ∷ [])
TakesListed banks old new area (Ok false) =
    (IsImageArea banks (map plain_area old) (plain_area area) → length old < 8
    → IsAlone (map plain_area old) area → ⊥) × (new ≡ old)
TakesListed banks old new area (Err _) = ⊤

-- the answer says whether what was found may be added
abbrev pub TakesFound : ℕ → List Bank → List Bank → List Area → List Area → Option Bank → Option Area
    → Result Bool OutOfMemory → Type 0
TakesFound version old_banks banks old_areas areas (Some bank) area result =
    TakesBank version old_banks banks old_areas bank result × (areas ≡ old_areas)
TakesFound version old_banks banks old_areas areas None (Some area) result =
    TakesListed old_banks old_areas areas area result × (banks ≡ old_banks)
TakesFound version old_banks banks old_areas areas None None result = result ≡ Ok false

-- the answer says whether an item may name the version
abbrev pub TakesVersion : Listed → Listed → Bool → Type 0
TakesVersion old new true = (old ≡ nothing_listed) × (new ≡ second_version)
TakesVersion old new false = old ≡ nothing_listed → ⊥

-- the answer says whether the item may be added
abbrev pub TakesItem : List ℕ → Listed → Listed → Result Bool SpecFault → Type 0
TakesItem item old new (Ok true) = Adds old item new
TakesItem item old new (Ok false) = (any : Listed) → Adds old item any → ⊥
TakesItem item old new (Err (BadSpec n)) = ⊥
TakesItem item old new (Err NoMemory) = ⊤

-- all items were added, and n is their number
pub record AllAdded (word : List ℕ) (version : ℕ) (banks : List Bank) (areas : List Area) (n : ℕ) :
    Type 0 where
  pub lawful : IsListed (listed version banks areas)
  pub items : AddsAll nothing_listed (parts 44 word) (listed version banks areas)
  pub lacking : (HasNeeded (map plain_area areas) → ⊥) → FirstBad nothing_listed (parts 44 word) (n + 1)
  pub few : n ≤ 11

abbrev pub ReadsItems : List ℕ → Result Items SpecFault → Type 0
ReadsItems word (Ok items) = AllAdded word items.version items.banks.items items.areas items.count
ReadsItems word (Err (BadSpec n)) = FirstBad nothing_listed (parts 44 word) n
ReadsItems word (Err NoMemory) = ⊤
