-- Which images are lawful.
use Rattle.std.specs.Prelude.{◌≡◌, ◌⊎◌, ℕ, ◌+◌, ◌%◌, ◌^◌, ◌<◌, ◌≤◌, ◌||◌, ◌&&◌, nat_le, Bool, true, false, List, [], length, map, take, count_by, slice_index_or}
use Rattle.std.specs.List.{All, list_all}
use Rattle.flash_sim.specs.Bank.{bank_at, capacity}
use Rattle.flash_sim.specs.declared.flash.Bank.{Bank}
use Rattle.flash_sim.specs.declared.flash.Kind.TheVariants.{Erasing}
use Rattle.flash_map.specs.Map.{HasVersion, IsInBank, IsNewTo}
use Rattle.flash_map.specs.Units.{IsUnit}
use Rattle.flash_map.specs.declared.area.Area.{Area}
use Rattle.flash_map.specs.declared.area.Role.{Role}
use Rattle.flash_map.specs.declared.area.Role.TheVariants.{Nvs, Zms, Fcb, Sel}
use Rattle.image_file.specs.Format.{Plain, plain_area}

abbrev pub IsVersion : ℕ → Type 0
IsVersion version = (version ≡ 1) ⊎ (version ≡ 2)

-- an image of this version may have the bank
pub record IsImageBank (version : ℕ) (bank : Bank) : Type 0 where
  pub unit : IsUnit bank.unit
  pub at_least : 512 ≤ bank.sector
  -- a sector has room for the longest value
  pub long_values : version ≡ 2 → 4096 ≤ bank.sector
  pub at_most : bank.sector ≤ 32_768
  pub whole : bank.sector % 64 ≡ 0
  pub some : 2 ≤ bank.count
  pub few : bank.count ≤ 64

-- a to z and 0 to 9
abbrev pub is_label_byte : ℕ → Bool
is_label_byte b = (nat_le 97 b && nat_le b 122) || (nat_le 48 b && nat_le b 57)

pub record IsLabel (label : List ℕ) : Type 0 where
  pub some : 1 ≤ length label
  pub few : length label ≤ 8
  pub each : list_all is_label_byte label ≡ true

-- a ZMS area stands on a bank of unit 16, and each other area on an erasing bank
abbrev pub StandsOn : Role → Bank → Type 0
StandsOn Nvs bank = bank.kind ≡ Erasing
StandsOn Zms bank = bank.unit ≡ 16
StandsOn Fcb bank = bank.kind ≡ Erasing
StandsOn Sel bank = bank.kind ≡ Erasing

-- the area may stand on these banks, beside these areas
pub record IsImageArea (banks : List Bank) (others : List Area) (area : Area) : Type 0 where
  pub label : IsLabel area.label.bytes
  pub in_bank : IsInBank banks area
  pub stands : StandsOn area.role (bank_at banks area.bank)
  pub new : IsNewTo others area

abbrev pub is_sel : Role → Bool
is_sel Nvs = false
is_sel Zms = false
is_sel Fcb = false
is_sel Sel = true

abbrev pub is_selector : Area → Bool
is_selector area = is_sel area.role

-- at least one store area, at most one selector, and a selector if there are two store areas or
-- more
pub record HasNeeded (areas : List Area) : Type 0 where
  pub some_store : count_by is_selector areas < length areas
  pub one_selector : count_by is_selector areas ≤ 1
  pub selector : 2 + count_by is_selector areas ≤ length areas → 1 ≤ count_by is_selector areas

-- the numbers of the area have room in its text
pub record FitsText (area : Area) : Type 0 where
  pub label : length area.label.bytes ≤ 8
  pub bank : area.bank < 2 ^ 8
  pub first : area.first < 2 ^ 16
  pub sectors : area.sectors < 2 ^ 16

-- stands for an area that is not there
abbrev pub no_area : Area
no_area =
    record {
      label = record { bytes = []; spare = [] };
      role = Nvs;
      bank = 0;
      first = 0;
      sectors = 0;
      version = 1;
    }

abbrev pub area_at : List Area → ℕ → Area
area_at areas i = slice_index_or areas i no_area

pub record IsImage (image : Plain) : Type 0 where
  pub version : IsVersion image.version
  pub some_banks : 1 ≤ length image.banks
  pub few_banks : length image.banks ≤ 2
  pub each_bank : (i : ℕ) → i < length image.banks → IsImageBank image.version (bank_at image.banks i)
  pub some_areas : 1 ≤ length image.areas
  pub few_areas : length image.areas ≤ 8
  pub versions : All (HasVersion image.version) image.areas
  -- each area beside those before it
  pub each_area : (i : ℕ) → i < length image.areas
      → IsImageArea image.banks (take i image.areas) (area_at image.areas i)
  -- with nothing in the unused room of their labels
  pub plain : map plain_area image.areas ≡ image.areas
  pub needed : HasNeeded image.areas
  pub count : length image.bytes ≡ length image.banks
  pub lengths : (i : ℕ) → i < length image.banks
      → length (slice_index_or image.bytes i []) ≡ capacity (bank_at image.banks i)
