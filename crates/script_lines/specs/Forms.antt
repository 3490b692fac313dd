-- A grammar of lines as a table of forms, and why words are refused by it.
use Rattle.std.specs.Prelude.{◌≡◌, ◌≢◌, ◌⊎◌, ℕ, ◌^◌, ◌<◌, ◌≤◌, ◌==◌, ◌&&◌, ⊤, Bool, true, false, Option, Some, None, Result, Ok, Err, List, [], ◌∷◌, length, codes}
use Rattle.std.specs.List.{find, list_any}
use Rattle.std.specs.Str.{bytes_eq}
use Rattle.std.specs.Fmt.{decimal}
use Rattle.std.specs.Borrow.{Bor}
use Rattle.hex.specs.Hex.{decode_of}
use Rattle.setting_name.specs.Name.{IsName}
use Rattle.image_file.specs.Lawful.{IsLabel}
use Rattle.handlers.specs.declared.handler.HandlerKind.{HandlerKind}
use Rattle.handlers.specs.declared.handler.HandlerKind.TheVariants.{Table, Counter, Level}
use Rattle.text_parts.specs.Numbers.{IsNoNumber}
use Rattle.text_parts.specs.Parts.{parts_of}
use Rattle.script_lines.specs.declared.why.LineWhy.{LineWhy}
use Rattle.script_lines.specs.declared.why.LineFault.{LineFault}
use Rattle.script_lines.specs.declared.why.LineFault.TheVariants.{Refused, NoMemory}
use Rattle.script_lines.specs.declared.why.LineWhy.TheVariants.{Unknown, Words, Name, Kind, Hex, Long, Number}

-- what a word after the first one must be
pub data Field : Type 0 where
  a_name : Field
  -- the label of an area
  a_label : Field
  -- the word of a kind of handler
  a_kind : Field
  -- bytes in hexadecimal digits, one at least
  some_bytes : Field
  -- such bytes, or `-` for none
  any_bytes : Field
  -- a number below an end
  below : ℕ → Field

-- the form of a line: its first word, and what the others must be
pub record Form : Type 0 where
  pub word : List ℕ
  pub fields : List Field

abbrev pub form : List ℕ → List Field → Form
form word fields = record { word = word; fields = fields }

-- what a word after the first one says
pub data Said : Type 0 where
  name : List ℕ → Said
  label : List ℕ → Said
  kind : HandlerKind → Said
  bytes : List ℕ → Said
  number : ℕ → Said

-- the first word of a line, and what the others say
pub record Row : Type 0 where
  pub word : List ℕ
  pub said : List Said

abbrev pub row : List ℕ → List Said → Row
row word said = record { word = word; said = said }

abbrev pub kind_word : HandlerKind → List ℕ
kind_word Table = codes "table"
kind_word Counter = codes "counter"
kind_word Level = codes "level"

-- one byte or more in hexadecimal digits of either case
abbrev pub IsHex : List ℕ → List ℕ → Type 0
IsHex word value = (decode_of word ≡ Ok value) × (0 < length value)

-- such bytes, at most `limit` of them
abbrev pub SaysBytes : ℕ → List ℕ → List ℕ → Type 0
SaysBytes limit word value = IsHex word value × (length value ≤ limit)

abbrev pub IsDash : List ℕ → Type 0
IsDash word = word ≡ codes "-"

-- `-` stands for no bytes
abbrev pub IsNothing : List ℕ → List ℕ → Type 0
IsNothing word value = IsDash word × (value ≡ [])

-- Numbers are decimal, without a sign or leading zeros, and of 64 bits.
abbrev pub SaysField : ℕ → Field → List ℕ → Said → Type 0
SaysField limit a_name word (name text) = (word ≡ text) × IsName text
SaysField limit a_name word _ = ⊥
SaysField limit a_label word (label text) = (word ≡ text) × IsLabel text
SaysField limit a_label word _ = ⊥
SaysField limit a_kind word (kind k) = word ≡ kind_word k
SaysField limit a_kind word _ = ⊥
SaysField limit some_bytes word (bytes value) = SaysBytes limit word value
SaysField limit some_bytes word _ = ⊥
SaysField limit any_bytes word (bytes value) = IsNothing word value ⊎ SaysBytes limit word value
SaysField limit any_bytes word _ = ⊥
SaysField limit (below end) word (number n) = (word ≡ decimal n) × (n < end) × (n < 2 ^ 64)
SaysField limit (below end) word _ = ⊥

-- each word says what stands at its place
abbrev pub SaysAll : ℕ → List Field → List (List ℕ) → List Said → Type 0
SaysAll limit [] [] [] = Unit {0}
SaysAll limit (field ∷ fields) (word ∷ words) (said ∷ more) =
    SaysField limit field word said × SaysAll limit fields words more
SaysAll limit fields words said = ⊥

abbrev pub has_word : List ℕ → Form → Bool
has_word word form = bytes_eq word form.word

-- the form of a first word with `count` words after it
abbrev pub form_at : List Form → List ℕ → ℕ → Option Form
form_at table word count = find (λ form. has_word word form && (length form.fields == count)) table

-- the words are a line of the table
pub record Spells (table : List Form) (limit : ℕ) (words : List (List ℕ)) (row : Row) : Type 0 where
  pub operands : List (List ℕ)
  pub form : Form
  pub words_are : words ≡ row.word ∷ operands
  pub found : form_at table row.word (length operands) ≡ Some form
  pub says : SaysAll limit form.fields operands row.said

-- Why a word is refused.

abbrev pub IsNoHex : List ℕ → Type 0
IsNoHex word = (value : List ℕ) → IsHex word value → ⊥

abbrev pub IsNoKind : List ℕ → Type 0
IsNoKind word = (k : HandlerKind) → word ≢ kind_word k

abbrev pub IsTooLong : ℕ → List ℕ → Type 0
IsTooLong limit word = (value : List ℕ) × IsHex word value × (limit < length value)

abbrev pub HasFault : ℕ → Field → List ℕ → LineWhy → Type 0
HasFault limit a_name word Name = IsName word → ⊥
HasFault limit a_name word _ = ⊥
HasFault limit a_label word Name = IsLabel word → ⊥
HasFault limit a_label word _ = ⊥
HasFault limit a_kind word Kind = IsNoKind word
HasFault limit a_kind word _ = ⊥
HasFault limit some_bytes word Hex = IsNoHex word
HasFault limit some_bytes word Long = IsTooLong limit word
HasFault limit some_bytes word _ = ⊥
HasFault limit any_bytes word Hex = (word ≢ codes "-") × IsNoHex word
HasFault limit any_bytes word Long = IsTooLong limit word
HasFault limit any_bytes word _ = ⊥
HasFault limit (below end) word Number = IsNoNumber end word
HasFault limit (below end) word _ = ⊥

-- one of the words is refused for this cause
abbrev pub SomeFault : ℕ → List Field → List (List ℕ) → LineWhy → Type 0
SomeFault limit [] words why = ⊥
SomeFault limit (field ∷ fields) [] why = ⊥
SomeFault limit (field ∷ fields) (word ∷ words) why =
    HasFault limit field word why ⊎ SomeFault limit fields words why

-- the order of the causes
abbrev pub rank : LineWhy → ℕ
rank Unknown = 0
rank Words = 1
rank Name = 2
rank Kind = 3
rank Hex = 4
rank Long = 5
rank Number = 6

-- the first cause of all for which one of the words is refused
pub record IsFirstFault (limit : ℕ) (fields : List Field) (words : List (List ℕ)) (why : LineWhy) :
    Type 0 where
  pub here : SomeFault limit fields words why
  pub none_before : (earlier : LineWhy) → rank earlier < rank why → SomeFault limit fields words earlier → ⊥

-- the words after a first word of the table are refused
pub record IsRefusedBehind (table : List Form) (limit : ℕ) (word : List ℕ) (operands : List (List ℕ))
    (why : LineWhy)
    : Type 0 where
  pub form : Form
  pub found : form_at table word (length operands) ≡ Some form
  pub first : IsFirstFault limit form.fields operands why

-- The table refuses the words for this cause: no form has the first word, no form of it has so many
-- words, or one of the words after it is refused.
abbrev pub Refuses : List Form → ℕ → List (List ℕ) → LineWhy → Type 0
Refuses table limit [] why = ⊥
Refuses table limit (word ∷ operands) Unknown = list_any (has_word word) table ≡ false
Refuses table limit (word ∷ operands) Words =
    (list_any (has_word word) table ≡ true) × (form_at table word (length operands) ≡ None)
Refuses table limit (word ∷ operands) why = IsRefusedBehind table limit word operands why

-- The words after a first word are refused as these fields.
abbrev pub RefusesFields : ℕ → List Field → List (List ℕ) → LineWhy → Type 0
RefusesFields limit fields operands Unknown = ⊥
RefusesFields limit fields operands Words = length operands ≢ length fields
RefusesFields limit fields operands why =
    (length operands ≡ length fields) × IsFirstFault limit fields operands why

-- Which words take memory to be read: a name, a kind and a number take none.
abbrev pub TakesMemory : Field → Type 0
TakesMemory a_name = ⊥
TakesMemory a_label = ⊤
TakesMemory a_kind = ⊥
TakesMemory some_bytes = ⊤
TakesMemory any_bytes = ⊤
TakesMemory (below end) = ⊥

abbrev pub SomeTakesMemory : List Field → Type 0
SomeTakesMemory [] = ⊥
SomeTakesMemory (field ∷ fields) = TakesMemory field ⊎ SomeTakesMemory fields

-- How the reading of a word, or of the words after the first one, ends. `NoMemory` comes only if
-- memory is needed.

abbrev pub ReadsField : {T : Type 0} → ℕ → Field → (T → Said) → List ℕ → Result T LineFault → Type 0
ReadsField limit field say word (Ok x) = SaysField limit field word (say x)
ReadsField limit field say word (Err (Refused why)) = HasFault limit field word why
ReadsField limit field say word (Err NoMemory) = TakesMemory field

abbrev pub ReadsFields : {T : Type 0} → ℕ → List Field → (T → List Said) → List (List ℕ) → Result T LineFault
    → Type 0
ReadsFields limit fields say operands (Ok x) = SaysAll limit fields operands (say x)
ReadsFields limit fields say operands (Err (Refused why)) = RefusesFields limit fields operands why
ReadsFields limit fields say operands (Err NoMemory) = SomeTakesMemory fields

-- the words of what is left of a line
abbrev pub words_of : Option (Bor (List ℕ)) → List (List ℕ)
words_of rest = parts_of 32 rest

-- the same for no word, for one and for two
abbrev pub ReadsNone : ℕ → Option (Bor (List ℕ)) → Result (Unit {0}) LineFault → Type 0
ReadsNone limit rest read = ReadsFields limit [] (λ _. []) (words_of rest) read

abbrev pub ReadsOne : {T : Type 0} → ℕ → Field → (T → Said) → Option (Bor (List ℕ)) → Result T LineFault
    → Type 0
ReadsOne limit field say rest read = ReadsFields limit (field ∷ []) (λ x. say x ∷ []) (words_of rest) read

abbrev pub ReadsTwo : {S T : Type 0} → ℕ → Field → Field → (S → Said) → (T → Said) → Option (Bor (List ℕ))
    → Result (S × T) LineFault → Type 0
ReadsTwo limit first second say also rest read =
    ReadsFields limit (first ∷ second ∷ []) (λ both. say both.0 ∷ also both.1 ∷ []) (words_of rest) read

abbrev pub IsOneWord : List (List ℕ) → Result (Bor (List ℕ)) LineFault → Type 0
IsOneWord operands (Ok word) = operands ≡ word.now ∷ []
IsOneWord operands (Err (Refused Words)) = length operands ≢ 1
IsOneWord operands (Err _) = ⊥

abbrev pub AreTwoWords : List (List ℕ) → Result (Bor (List ℕ) × Bor (List ℕ)) LineFault → Type 0
AreTwoWords operands (Ok words) = operands ≡ words.0.now ∷ words.1.now ∷ []
AreTwoWords operands (Err (Refused Words)) = length operands ≢ 2
AreTwoWords operands (Err _) = ⊥

-- one name, or nothing
abbrev pub ReadsNameOrNothing : ℕ → List (List ℕ) → Result (Option (List ℕ)) LineFault → Type 0
ReadsNameOrNothing limit operands (Ok None) = operands ≡ []
ReadsNameOrNothing limit operands (Ok (Some text)) = SaysAll limit (a_name ∷ []) operands (name text ∷ [])
ReadsNameOrNothing limit operands (Err (Refused Words)) = 1 < length operands
ReadsNameOrNothing limit operands (Err (Refused why)) = RefusesFields limit (a_name ∷ []) operands why
ReadsNameOrNothing limit operands (Err NoMemory) = ⊥

-- How the reading of a line ends, for lines that say rows of a table.
abbrev pub ReadsRow : {L : Type 0} → List Form → (L → Row) → ℕ → List (List ℕ) → Result L LineFault → Type 0
ReadsRow table row limit words (Ok line) = Spells table limit words (row line)
ReadsRow table row limit words (Err (Refused why)) = Refuses table limit words why
ReadsRow table row limit words (Err NoMemory) = ⊤
