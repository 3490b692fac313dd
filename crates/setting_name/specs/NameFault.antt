-- Why a text is no name, and what reading a text answers.
use Rattle.std.specs.Prelude.{◌≡◌, ℕ, ◌-◌, ◌<◌, ◌≤◌, Bool, false, ◌&&◌, ◌||◌, not, ◌==◌, IsTrue, List, length, slice_index, position, Option, Some, Result, Ok, Err}
use Rattle.setting_name.specs.declared.name.NameFault.{NameFault}
use Rattle.setting_name.specs.declared.name.NameFault.TheVariants.{Empty, TooLong, BadByte, EmptyPart, TooDeep}
use Rattle.setting_name.specs.Name.{IsName, HasNameBytes, HasWholeParts, is_name_byte, is_slash, name_limit, parts_of}

-- the place of the first byte that no name has
abbrev pub first_bad_byte : List ℕ → Option ℕ
first_bad_byte text = position (λ byte. not (is_name_byte byte)) text

-- a part should begin at the start, and behind each slash
abbrev pub part_is_due : List ℕ → ℕ → Bool
part_is_due text place = (place == 0) || is_slash (slice_index text (place - 1))

-- no part begins at the end, nor at a slash
abbrev pub lacks_part : List ℕ → ℕ → Bool
lacks_part text place =
    part_is_due text place && ((place == length text) || is_slash (slice_index text place))

-- the first place where a part should begin and does not
abbrev pub IsFirstLack : List ℕ → ℕ → Type 0
IsFirstLack text place = IsTrue (lacks_part text place) × ((k : ℕ) → k < place → lacks_part text k ≡ false)

abbrev pub HasLength : List ℕ → Type 0
HasLength text = (1 ≤ length text) × (length text ≤ name_limit)

-- Each cause counts only if none above it holds.
abbrev pub IsFault : List ℕ → NameFault → Type 0
IsFault text Empty = length text ≡ 0
IsFault text TooLong = name_limit < length text
IsFault text (BadByte place) = HasLength text × (first_bad_byte text ≡ Some place)
IsFault text (EmptyPart place) = HasLength text × HasNameBytes text × IsFirstLack text place
IsFault text TooDeep = HasLength text × HasNameBytes text × HasWholeParts text × (8 < length (parts_of text))

-- what reading a text as a name answers
abbrev pub Reads : List ℕ → Result (List ℕ) NameFault → Type 0
Reads text (Ok name) = (name ≡ text) × IsName text
Reads text (Err fault) = IsFault text fault
