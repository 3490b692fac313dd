-- The bytes of an image's file.
use Rattle.std.specs.Prelude.{ℕ, ◌-◌, List, [], ◌∷◌, ◌++◌, length, map, replicate}
use Rattle.std.specs.List.{flat_map, concat}
use Rattle.std.specs.Int.{w16, w32, to_le_bytes}
use Rattle.std.specs.Global.{Vec}
use Rattle.flash_sim.specs.Contents.{contents}
use Rattle.flash_sim.specs.Device.{Device}
use Rattle.flash_sim.specs.declared.flash.Bank.{Bank}
use Rattle.flash_sim.specs.declared.flash.Kind.{Kind}
use Rattle.flash_sim.specs.declared.flash.Kind.TheVariants.{Erasing, Rewritable}
use Rattle.flash_map.specs.declared.area.Area.{Area}
use Rattle.flash_map.specs.declared.area.Role.{Role}
use Rattle.flash_map.specs.declared.area.Role.TheVariants.{Nvs, Zms, Fcb, Sel}
use Rattle.image_file.specs.declared.image.Image.{Image}

-- an area with nothing in the unused room of its label
abbrev pub plain_area : Area → Area
plain_area area = record area { label = record { bytes = area.label.bytes; spare = [] } }

-- the version of an image's areas
abbrev pub version_of : List Area → ℕ
version_of [] = 1
version_of (area ∷ areas) = area.version

-- an image as plain data
pub record Plain : Type 0 where
  pub version : ℕ
  pub banks : List Bank
  pub areas : List Area
  pub bytes : List (List ℕ)

abbrev pub plain_of : List Bank → List Area → List (Vec ℕ) → Plain
plain_of banks areas bytes =
    record { version = version_of areas; banks = banks; areas = map plain_area areas; bytes = contents bytes }

-- the image of a flash with these areas
abbrev pub image_on : List Area → Device → Plain
image_on areas d =
    record { version = version_of areas; banks = d.banks; areas = map plain_area areas; bytes = d.bytes }

abbrev pub plain : Image → Plain
plain image = plain_of image.banks.items image.map image.bytes.items

abbrev pub kind_byte : Kind → ℕ
kind_byte Erasing = 0
kind_byte Rewritable = 1

abbrev pub role_byte : Role → ℕ
role_byte Nvs = 1
role_byte Zms = 2
role_byte Fcb = 3
role_byte Sel = 4

-- kind, unit, two zeros, bytes of a sector, sectors
abbrev pub bank_text : Bank → List ℕ
bank_text bank =
    kind_byte bank.kind ∷ bank.unit ∷ 0 ∷ 0 ∷ (to_le_bytes w32 bank.sector ++ to_le_bytes w32 bank.count)

-- role, bank, first sector, sectors, length of the label, a zero, the label in eight bytes
abbrev pub area_text : Area → List ℕ
area_text area =
    role_byte area.role ∷ area.bank ∷
    (to_le_bytes w16 area.first
    ++ (to_le_bytes w16 area.sectors
    ++ (length area.label.bytes ∷ 0 ∷ (area.label.bytes ++ replicate (8 - length area.label.bytes) 0))))

-- the letters ZSIM, the version, numbers of banks and areas, a zero; the banks, the areas, the
-- bytes of each bank
unfoldable pub file_of : Plain → List ℕ
file_of image =
    0x5A ∷ 0x53 ∷ 0x49 ∷ 0x4D ∷ image.version ∷ length image.banks ∷ length image.areas ∷ 0 ∷
    (flat_map bank_text image.banks ++ (flat_map area_text image.areas ++ concat image.bytes))
