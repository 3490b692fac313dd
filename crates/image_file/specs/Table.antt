-- The fields of a file in their order, what each must be, and where and why a file departs from
-- them first.
use Rattle.std.specs.Prelude.{◌≡◌, ◌⊎◌, ⊤, ℕ, ◌+◌, ◌<◌, ◌≤◌, List, [], ◌∷◌, ◌++◌, ◌==◌, true, length, take, drop, map, slice_index}
use Rattle.std.specs.List.{range_with_len, list_all}
use Rattle.flash_sim.specs.declared.flash.Bank.{Bank}
use Rattle.flash_map.specs.declared.area.Area.{Area}
use Rattle.image_file.specs.declared.image.ImageWhy.{ImageWhy}
use Rattle.image_file.specs.declared.image.ImageWhy.TheVariants.{BadMagic, BadVersion, BadBank, BadArea, Short, Long}
use Rattle.image_file.specs.Format.{bank_text, area_text}
use Rattle.image_file.specs.Lawful.{IsVersion, IsImageBank, IsImageArea, IsLabel, HasNeeded}
use Rattle.image_file.specs.Said.{field_at, bank_said, area_said, version_said, bank_count, area_count, bank_place, area_place, all_banks, all_areas, areas_said, contents_place, contents_size}

pub data Row : Type 0 where
  Magic : Row
  Version : Row
  BankCount : Row
  AreaCount : Row
  Zero : Row
  BankAt : ℕ → Row
  AreaAt : ℕ → Row
  -- the areas that an image needs
  Needed : Row
  ContentsAt : ℕ → Row
  -- what stands behind the last bank's bytes: nothing
  End : Row

abbrev pub place : List ℕ → Row → ℕ
place bytes Magic = 0
place bytes Version = 4
place bytes BankCount = 5
place bytes AreaCount = 6
place bytes Zero = 7
place bytes (BankAt i) = bank_place i
place bytes (AreaAt i) = area_place bytes i
place bytes Needed = area_place bytes (area_count bytes)
place bytes (ContentsAt i) = contents_place bytes i
place bytes End = contents_place bytes (bank_count bytes)

abbrev pub size : List ℕ → Row → ℕ
size bytes Magic = 4
size bytes Version = 1
size bytes BankCount = 1
size bytes AreaCount = 1
size bytes Zero = 1
size bytes (BankAt i) = 12
size bytes (AreaAt i) = 16
size bytes Needed = 0
size bytes (ContentsAt i) = contents_size bytes i
size bytes End = 0

-- the field is the text of a bank that an image of this version may have
pub record IsBankText (version : ℕ) (text : List ℕ) : Type 0 where
  pub spelled : text ≡ bank_text (bank_said text)
  pub lawful : IsImageBank version (bank_said text)

-- a label of this length in a field of eight bytes, with zeros behind it
pub record IsLabelText (len : ℕ) (text : List ℕ) : Type 0 where
  pub label : IsLabel (take len text)
  pub fits : len ≤ length text
  pub zeros : list_all (λ b. b == 0) (drop len text) ≡ true

-- the field is the text of an area with a lawful label
pub record IsSpelled (version : ℕ) (text : List ℕ) : Type 0 where
  pub spelled : text ≡ area_text (area_said version text)
  pub label : IsLabel (area_said version text).label.bytes

-- the field is the text of an area that may stand on these banks, beside these areas
pub record IsAreaText (version : ℕ) (banks : List Bank) (others : List Area) (text : List ℕ) : Type 0 where
  pub spelled : text ≡ area_text (area_said version text)
  pub lawful : IsImageArea banks others (area_said version text)

-- what a field must be
abbrev pub Rule : List ℕ → Row → Type 0
Rule bytes Magic = field_at bytes 0 4 ≡ 0x5A ∷ 0x53 ∷ 0x49 ∷ 0x4D ∷ []
Rule bytes Version = IsVersion (version_said bytes)
Rule bytes BankCount = (1 ≤ bank_count bytes) × (bank_count bytes ≤ 2)
Rule bytes AreaCount = (1 ≤ area_count bytes) × (area_count bytes ≤ 8)
Rule bytes Zero = slice_index bytes 7 ≡ 0
Rule bytes (BankAt i) = IsBankText (version_said bytes) (field_at bytes (bank_place i) 12)
Rule bytes (AreaAt i) =
    IsAreaText (version_said bytes) (all_banks bytes) (areas_said bytes i)
    (field_at bytes (area_place bytes i) 16)
Rule bytes Needed = HasNeeded (all_areas bytes)
Rule bytes (ContentsAt i) = ⊤
Rule bytes End = length bytes ≡ contents_place bytes (bank_count bytes)

-- the place and the cause where a field is not what it must be
abbrev pub blame : List ℕ → Row → ℕ
blame bytes Magic = 0
blame bytes Version = 4
blame bytes BankCount = 5
blame bytes AreaCount = 6
blame bytes Zero = 7
blame bytes (BankAt i) = bank_place i
blame bytes (AreaAt i) = area_place bytes i
blame bytes Needed = 6
blame bytes (ContentsAt i) = contents_place bytes i
blame bytes End = contents_place bytes (bank_count bytes)

abbrev pub cause : Row → ImageWhy
cause Magic = BadMagic
cause Version = BadVersion
cause BankCount = BadBank
cause AreaCount = BadArea
cause Zero = BadVersion
cause (BankAt i) = BadBank
cause (AreaAt i) = BadArea
cause Needed = BadArea
cause (ContentsAt i) = Short
cause End = Long

-- the field is there, whole, and is what it must be
pub record Holds (bytes : List ℕ) (row : Row) : Type 0 where
  pub whole : place bytes row + size bytes row ≤ length bytes
  pub rule : Rule bytes row

-- the file ends inside the field
pub record EndsInside (bytes : List ℕ) (row : Row) (at : ℕ) (why : ImageWhy) : Type 0 where
  pub short : length bytes < place bytes row + size bytes row
  pub at_end : at ≡ length bytes
  pub why_short : why ≡ Short

-- the field is there, whole, and is not what it must be
pub record Breaks (bytes : List ℕ) (row : Row) (at : ℕ) (why : ImageWhy) : Type 0 where
  pub whole : place bytes row + size bytes row ≤ length bytes
  pub broken : Rule bytes row → ⊥
  pub place : at ≡ blame bytes row
  pub cause : why ≡ cause row

abbrev pub Departs : List ℕ → Row → ℕ → ImageWhy → Type 0
Departs bytes row at why = EndsInside bytes row at why ⊎ Breaks bytes row at why

abbrev pub AllHold : List ℕ → List Row → Type 0
AllHold bytes [] = ⊤
AllHold bytes (row ∷ rows) = Holds bytes row × AllHold bytes rows

-- one of the fields departs, and each before it holds
abbrev pub FirstFault : List ℕ → List Row → ℕ → ImageWhy → Type 0
FirstFault bytes [] at why = ⊥
FirstFault bytes (row ∷ rows) at why =
    Departs bytes row at why ⊎ (Holds bytes row × FirstFault bytes rows at why)

abbrev pub header_rows : List Row
header_rows = Magic ∷ Version ∷ BankCount ∷ AreaCount ∷ Zero ∷ []

abbrev pub rows_of : (ℕ → Row) → ℕ → List Row
rows_of row n = map row (range_with_len 0 n)

abbrev pub contents_rows : List ℕ → List Row
contents_rows bytes = rows_of ContentsAt (bank_count bytes) ++ End ∷ []

-- all fields of a file
abbrev pub rows : List ℕ → List Row
rows bytes =
    header_rows
    ++ (rows_of BankAt (bank_count bytes)
    ++ (rows_of AreaAt (area_count bytes) ++ Needed ∷ contents_rows bytes))
