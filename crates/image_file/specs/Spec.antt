-- The word that describes a blank image: items with commas between them, the banks first.
use Rattle.std.specs.Prelude.{◌≡◌, ◌⊎◌, ℕ, ◌+◌, ◌^◌, ◌<◌, ⊤, true, Option, Some, None, IfSome, Result, Ok, Err, List, [], ◌∷◌, ◌++◌, length, map, count_by, replicate, codes}
use Rattle.std.specs.Option.{option_map}
use Rattle.std.specs.Fmt.{decimal}
use Rattle.arrayvec.specs.ArrayString.{ArrayString}
use Rattle.flash_sim.specs.Bank.{capacity}
use Rattle.flash_sim.specs.declared.flash.Bank.{Bank}
use Rattle.flash_sim.specs.declared.flash.Kind.{Kind}
use Rattle.flash_sim.specs.declared.flash.Kind.TheVariants.{Erasing, Rewritable}
use Rattle.flash_map.specs.declared.area.Area.{Area}
use Rattle.flash_map.specs.declared.area.Role.{Role}
use Rattle.flash_map.specs.declared.area.Role.TheVariants.{Nvs, Zms, Fcb, Sel}
use Rattle.image_file.specs.declared.image.Image.{Image}
use Rattle.image_file.specs.declared.image.SpecFault.{SpecFault}
use Rattle.image_file.specs.declared.image.SpecFault.TheVariants.{BadSpec, NoMemory}
use Rattle.image_file.specs.Format.{Plain, plain, plain_area}
use Rattle.image_file.specs.Lawful.{IsImage, IsImageBank, IsImageArea, IsLabel, HasNeeded, is_selector}
use Rattle.text_parts.specs.Parts.{parts}

abbrev pub bank_word : Kind → List ℕ
bank_word Erasing = codes "bank=erasing"
bank_word Rewritable = codes "bank=rewritable"

abbrev pub area_word : Role → List ℕ
area_word Nvs = codes "area=nvs"
area_word Zms = codes "area=zms"
area_word Fcb = codes "area=fcb"
area_word Sel = codes "area=sel"

-- the words of an item, between which a slash stands
abbrev pub bank_words : Bank → List (List ℕ)
bank_words bank = bank_word bank.kind ∷ decimal bank.unit ∷ decimal bank.sector ∷ decimal bank.count ∷ []

abbrev pub area_words : Area → List (List ℕ)
area_words area =
    area_word area.role ∷ area.label.bytes ∷ decimal area.bank ∷ decimal area.first ∷ decimal area.sectors ∷
    []

-- the version, and banks and areas so far
pub record Listed : Type 0 where
  pub version : ℕ
  pub banks : List Bank
  pub areas : List Area

abbrev pub nothing_listed : Listed
nothing_listed = record { version = 1; banks = []; areas = [] }

-- nothing but the version
abbrev pub second_version : Listed
second_version = record { version = 2; banks = []; areas = [] }

abbrev pub version_word : List ℕ
version_word = codes "version=2"

abbrev pub listed : ℕ → List Bank → List Area → Listed
listed version banks areas = record { version = version; banks = banks; areas = map plain_area areas }

-- the item stands before all others, and names the version
pub record AddsVersion (old : Listed) (item : List ℕ) (new : Listed) : Type 0 where
  pub word : item ≡ version_word
  pub first : old ≡ nothing_listed
  pub is : new ≡ second_version

-- new is old with a bank that the item describes
pub record AddsBank (old : Listed) (item : List ℕ) (new : Listed) : Type 0 where
  pub bank : Bank
  pub words : parts 47 item ≡ bank_words bank
  pub lawful : IsImageBank old.version bank
  pub no_areas : old.areas ≡ []
  pub few : length old.banks < 2
  pub is : new ≡ record { version = old.version; banks = old.banks ++ bank ∷ []; areas = [] }

-- new is old with an area that the item describes
pub record AddsArea (old : Listed) (item : List ℕ) (new : Listed) : Type 0 where
  pub area : Area
  pub plain : plain_area area ≡ area
  pub words : parts 47 item ≡ area_words area
  pub version : area.version ≡ old.version
  pub lawful : IsImageArea old.banks old.areas area
  pub few : length old.areas < 8
  -- a second selector may not be added
  pub alone : is_selector area ≡ true → count_by is_selector old.areas ≡ 0
  pub is : new ≡ record { version = old.version; banks = old.banks; areas = old.areas ++ area ∷ [] }

abbrev pub Adds : Listed → List ℕ → Listed → Type 0
Adds old item new = AddsVersion old item new ⊎ AddsBank old item new ⊎ AddsArea old item new

abbrev pub AddsAll : Listed → List (List ℕ) → Listed → Type 0
AddsAll old [] new = new ≡ old
AddsAll old (item ∷ items) new = (mid : Listed) × Adds old item mid × AddsAll mid items new

-- the n-th item, counted from 1, is the first that may not be added; one past the last item stands
-- for an area that an image needs and that is missing
abbrev pub FirstBad : Listed → List (List ℕ) → ℕ → Type 0
FirstBad old [] n = (HasNeeded old.areas → ⊥) × (n ≡ 1)
FirstBad old (item ∷ items) n =
    (((new : Listed) → Adds old item new → ⊥) × (n ≡ 1))
    ⊎ ((mid : Listed) × Adds old item mid × (k : ℕ) × (n ≡ 1 + k) × FirstBad mid items k)

-- the word describes the image, which is blank
pub record IsSpec (word : List ℕ) (image : Plain) : Type 0 where
  pub lawful : IsImage image
  pub items : AddsAll nothing_listed (parts 44 word)
      (record { version = image.version; banks = image.banks; areas = image.areas })
  pub blank : image.bytes ≡ map (λ bank. replicate (capacity bank) 255) image.banks

abbrev pub ReadsSpec : List ℕ → Result Image SpecFault → Type 0
ReadsSpec word (Ok image) = IsSpec word (plain image)
ReadsSpec word (Err (BadSpec n)) = FirstBad nothing_listed (parts 44 word) n
ReadsSpec word (Err NoMemory) = ⊤

-- Parts of an item.

-- the number that the word is in decimal, if it is one below 2^32
pub record IsNumber (word : List ℕ) (found : Option ℕ) : Type 0 where
  pub sound : IfSome found (λ n. word ≡ decimal n)
  pub only : (n : ℕ) → n < 2 ^ 32 → word ≡ decimal n → found ≡ Some n

pub record IsBankKind (word : List ℕ) (found : Option Kind) : Type 0 where
  pub sound : IfSome found (λ kind. word ≡ bank_word kind)
  pub only : (kind : Kind) → word ≡ bank_word kind → found ≡ Some kind

pub record IsRole (word : List ℕ) (found : Option Role) : Type 0 where
  pub sound : IfSome found (λ role. word ≡ area_word role)
  pub only : (role : Role) → word ≡ area_word role → found ≡ Some role

abbrev pub bank_from : Option Kind → Option ℕ → Option ℕ → Option ℕ → Option Bank
bank_from (Some kind) (Some unit) (Some sector) (Some count) =
    Some (record { kind = kind; unit = unit; sector = sector; count = count })
bank_from (Some kind) (Some unit) (Some sector) None = None
bank_from (Some kind) (Some unit) None count = None
bank_from (Some kind) None sector count = None
bank_from None unit sector count = None

-- the bank that an item describes, if its numbers are below 2^32
pub record IsBankItem (item : List ℕ) (found : Option Bank) : Type 0 where
  pub sound : IfSome found (λ bank. parts 47 item ≡ bank_words bank)
  pub only : (version : ℕ) (bank : Bank) → IsImageBank version bank → parts 47 item ≡ bank_words bank
      → found ≡ Some bank

abbrev pub area_from : ℕ → Option Role → ArrayString → Option ℕ → Option ℕ → Option ℕ → Option Area
area_from version (Some role) label (Some bank) (Some first) (Some sectors) =
    Some
    (record { label = label; role = role; bank = bank; first = first; sectors = sectors; version = version })
area_from version (Some role) label (Some bank) (Some first) None = None
area_from version (Some role) label (Some bank) None sectors = None
area_from version (Some role) label None first sectors = None
area_from version None label bank first sectors = None

-- a label, and numbers below 2^32
pub record FitsItem (area : Area) : Type 0 where
  pub label : IsLabel area.label.bytes
  pub bank : area.bank < 2 ^ 32
  pub first : area.first < 2 ^ 32
  pub sectors : area.sectors < 2 ^ 32

-- the area of this version that an item describes, if it fits
pub record IsAreaItem (version : ℕ) (item : List ℕ) (found : Option Area) : Type 0 where
  pub sound : IfSome found
      (λ area. (parts 47 item ≡ area_words area) × IsLabel area.label.bytes × (area.version ≡ version))
  pub only : (area : Area) → FitsItem area → area.version ≡ version → plain_area area ≡ area
      → parts 47 item ≡ area_words area → option_map plain_area found ≡ Some area
