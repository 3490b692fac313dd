-- Words are a line of a table, or refused by it.
use Rattle.std.proofs.Common.{◌≡◌, ◌≢◌, ◌⊎◌, inl, inr, ℕ, ◌^◌, ◌==◌, ◌&&◌, ◌<◌, ◌≤◌, nat_le, Bool, true, false, cond, Option, Some, None, Result, Ok, Err, List, [], ◌∷◌, length, codes, refl, sym, ◌∙◌, ap, subst, arith}
use Rattle.std.specs.List.{All, list_any, list_all}
use Rattle.std.specs.Str.{bytes_eq}
use Rattle.std.specs.Str.Parse.{digits_value}
use Rattle.std.specs.Fmt.{decimal}
use Rattle.std.proofs.lemmas.Bool.{cases_lt, and_parts}
use Rattle.std.proofs.lemmas.Bool.Decides.{nat_tests}
use Rattle.std.proofs.lemmas.Fmt.{decimal_is_IsNumeral}
use Rattle.std.proofs.lemmas.List.Elements.{All-nil, All-cons, All-head, All-tail}
use Rattle.std.proofs.lemmas.Slice.Eq.{bytes_eq-Decides}
use Rattle.hex.specs.Hex.{decode_of}
use Rattle.hex.specs.declared.error.FromHexError.{FromHexError}
use Rattle.text_parts.specs.Numbers.{IsNoNumber}
use Rattle.setting_name.specs.Name.{is_name}
use Rattle.image_file.specs.Lawful.{is_label_byte}
use Rattle.setting_name.proofs.NameTest.{is_name-sound, is_name-complete}
use Rattle.handlers.specs.declared.handler.HandlerKind.TheVariants.{Table, Counter, Level}
use Rattle.script_lines.specs.declared.why.LineWhy.{LineWhy}
use Rattle.script_lines.specs.declared.why.LineWhy.TheVariants.{Unknown, Words, Name, Kind, Hex, Long, Number}
use Rattle.script_lines.specs.Forms.{Field, Form, Said, Row, IsHex, IsNoHex, IsNoKind, SaysField, SaysAll, HasFault, SomeFault, has_word, form_at, Spells, rank, IsFirstFault, IsRefusedBehind, Refuses, row}
use Rattle.script_lines.specs.Forms.Field.{a_name, a_label, a_kind, some_bytes, any_bytes, below}
use Rattle.script_lines.specs.Forms.Said.{name, label, kind, bytes, number}
use Rattle.script_lines.specs.Line.{settings_forms}
use Rattle.script_lines.specs.Laws.{FieldFits, TableFits, EachIsRead}
use Rattle.script_lines.proofs.FieldLemmas.{ranks_of_one, late, stands}
use Rattle.script_lines.proofs.ScriptLaws.{stands_all}

-- One word.

abbrev Reported : ℕ → Field → List ℕ → Type 0
Reported limit field word = ((said : Said) × SaysField limit field word said) ⊎ ((why : LineWhy) × HasFault limit field word why)

equal : (a b : List ℕ) → bytes_eq a b ≡ true → a ≡ b
equal a b is = (bytes_eq-Decides a b).0 is

differs : (a b : List ℕ) → bytes_eq a b ≡ false → a ≢ b
differs a b is same = let yes : bytes_eq a b ≡ true = (bytes_eq-Decides a b).1 same in cc

name_reported : (limit : ℕ) (word : List ℕ) (b : Bool) → is_name word ≡ b → Reported limit a_name word
name_reported limit word true is = inl (name word, (refl, is_name-sound word is))
name_reported limit word false is = inr (Name, λ lawful. let yes : is_name word ≡ true = is_name-complete word lawful in cc)

label_reported : (limit : ℕ) (word : List ℕ) → (0 < length word) ⊎ (length word ≤ 0) → (8 < length word) ⊎ (length word ≤ 8) → (each : Bool) → list_all is_label_byte word ≡ each → Reported limit a_label word
label_reported limit word (inr none) long each is = inr (Name, λ lawful. let some = lawful.some in omega arith)
label_reported limit word (inl some) (inl long) each is = inr (Name, λ lawful. let few = lawful.few in omega arith)
label_reported limit word (inl some) (inr few) true is = inl (label word, (refl, record { some = omega arith; few = few; each = is }))
label_reported limit word (inl some) (inr few) false is = inr (Name, λ lawful. let yes = lawful.each in cc)

no_kind : (word : List ℕ) → word ≢ codes "table" → word ≢ codes "counter" → word ≢ codes "level" → IsNoKind word
no_kind word table counter level Table = table
no_kind word table counter level Counter = counter
no_kind word table counter level Level = level

kind_reported : (limit : ℕ) (word : List ℕ) (a b c : Bool) → bytes_eq word (codes "table") ≡ a → bytes_eq word (codes "counter") ≡ b → bytes_eq word (codes "level") ≡ c → Reported limit a_kind word
kind_reported limit word true b c x y z = inl (kind Table, equal word (codes "table") x)
kind_reported limit word false true c x y z = inl (kind Counter, equal word (codes "counter") y)
kind_reported limit word false false true x y z = inl (kind Level, equal word (codes "level") z)
kind_reported limit word false false false x y z = inr (Kind, no_kind word (differs word (codes "table") x) (differs word (codes "counter") y) (differs word (codes "level") z))

none_hex : (word : List ℕ) → decode_of word ≡ Ok [] → IsNoHex word
none_hex word is value hex = let e : Ok [] ≡ Ok value = sym is ∙ hex.0 in let same : [] ≡ value = cc in omega (arith, ap length same)

err_hex : (word : List ℕ) (e : FromHexError) → decode_of word ≡ Err e → IsNoHex word
err_hex word e is value hex = let both = sym is ∙ hex.0 in cc

value_reported : (limit : ℕ) (word value : List ℕ) → IsHex word value → (limit < length value) ⊎ (length value ≤ limit) → Reported limit some_bytes word
value_reported limit word value hex (inl long) = inr (Long, (value, hex, long))
value_reported limit word value hex (inr short) = inl (bytes value, (hex, short))

some_reported : (limit : ℕ) (word : List ℕ) (r : Result (List ℕ) FromHexError) → decode_of word ≡ r → Reported limit some_bytes word
some_reported limit word (Err e) is = inr (Hex, err_hex word e is)
some_reported limit word (Ok []) is = inr (Hex, none_hex word is)
some_reported limit word (Ok (b ∷ value)) is = value_reported limit word (b ∷ value) (is, omega arith) (cases_lt limit (length (b ∷ value)))

any_of_some : (limit : ℕ) (word : List ℕ) → word ≢ codes "-" → Reported limit some_bytes word → Reported limit any_bytes word
any_of_some limit word other (inl (name t, says)) = absurd says
any_of_some limit word other (inl (label t, says)) = absurd says
any_of_some limit word other (inl (kind k, says)) = absurd says
any_of_some limit word other (inl (bytes v, says)) = inl (bytes v, inr says)
any_of_some limit word other (inl (number n, says)) = absurd says
any_of_some limit word other (inr (Unknown, fault)) = absurd fault
any_of_some limit word other (inr (Words, fault)) = absurd fault
any_of_some limit word other (inr (Name, fault)) = absurd fault
any_of_some limit word other (inr (Kind, fault)) = absurd fault
any_of_some limit word other (inr (Hex, fault)) = inr (Hex, (other, fault))
any_of_some limit word other (inr (Long, fault)) = inr (Long, fault)
any_of_some limit word other (inr (Number, fault)) = absurd fault

any_reported : (limit : ℕ) (word : List ℕ) (b : Bool) → bytes_eq word (codes "-") ≡ b → Reported limit any_bytes word
any_reported limit word true is = inl (bytes [], inl (equal word (codes "-") is, refl))
any_reported limit word false is = any_of_some limit word (differs word (codes "-") is) (some_reported limit word (decode_of word) refl)

value_is : (end : ℕ) (word : List ℕ) (n : ℕ) → end ≤ 2 ^ 64 → n < end → word ≡ decimal n → digits_value 10 word ≡ n
value_is end word n fits small is = ap (digits_value 10) is ∙ (decimal_is_IsNumeral n (omega arith)).1

no_number : (end : ℕ) (word : List ℕ) → end ≤ 2 ^ 64 → bytes_eq word (decimal (digits_value 10 word)) ≡ false → IsNoNumber end word
no_number end word fits is n small same = differs word (decimal (digits_value 10 word)) is (same ∙ ap decimal (sym (value_is end word n fits small same)))

too_large : (end : ℕ) (word : List ℕ) → end ≤ 2 ^ 64 → end ≤ digits_value 10 word → IsNoNumber end word
too_large end word fits large n small same = let e = value_is end word n fits small same in omega arith

number_reported : (limit end : ℕ) (word : List ℕ) (b : Bool) → end ≤ 2 ^ 64 → (digits_value 10 word < end) ⊎ (end ≤ digits_value 10 word) → bytes_eq word (decimal (digits_value 10 word)) ≡ b → Reported limit (below end) word
number_reported limit end word b fits (inr large) is = inr (Number, too_large end word fits large)
number_reported limit end word true fits (inl small) is = inl (number (digits_value 10 word), (equal word (decimal (digits_value 10 word)) is, small, omega arith))
number_reported limit end word false fits (inl small) is = inr (Number, no_number end word fits is)

spoken : (limit : ℕ) (field : Field) (word : List ℕ) → FieldFits field → Reported limit field word
spoken limit a_name word fits = name_reported limit word (is_name word) refl
spoken limit a_label word fits = label_reported limit word (cases_lt 0 (length word)) (cases_lt 8 (length word)) (list_all is_label_byte word) refl
spoken limit a_kind word fits = kind_reported limit word (bytes_eq word (codes "table")) (bytes_eq word (codes "counter")) (bytes_eq word (codes "level")) refl refl refl
spoken limit some_bytes word fits = some_reported limit word (decode_of word) refl
spoken limit any_bytes word fits = any_reported limit word (bytes_eq word (codes "-")) refl
spoken limit (below end) word fits = number_reported limit end word (bytes_eq word (decimal (digits_value 10 word))) fits (cases_lt (digits_value 10 word) end) refl

-- Words in a row.

abbrev FirstOf : ℕ → List Field → List (List ℕ) → Type 0
FirstOf limit fields words = ((said : List Said) × SaysAll limit fields words said) ⊎ ((why : LineWhy) × IsFirstFault limit fields words why)

behind_one : (limit : ℕ) (field : Field) (fields : List Field) (word : List ℕ) (words : List (List ℕ)) (said : Said) (why earlier : LineWhy) → SaysField limit field word said → IsFirstFault limit fields words why → rank earlier < rank why
    → SomeFault limit (field ∷ fields) (word ∷ words) earlier → ⊥
behind_one limit field fields word words said why earlier says first less (inl found) = stands limit field word said earlier says found
behind_one limit field fields word words said why earlier says first less (inr found) = first.none_before earlier less found

before_all : (limit : ℕ) (field : Field) (fields : List Field) (word : List ℕ) (words : List (List ℕ)) (said : List Said) (why earlier : LineWhy) → HasFault limit field word why → SaysAll limit fields words said → rank earlier < rank why
    → SomeFault limit (field ∷ fields) (word ∷ words) earlier → ⊥
before_all limit field fields word words said why earlier fault says less (inl found) = let e = ranks_of_one limit field word why earlier fault found in omega arith
before_all limit field fields word words said why earlier fault says less (inr found) = stands_all limit fields words said earlier says found

both_before : (limit : ℕ) (field : Field) (fields : List Field) (word : List ℕ) (words : List (List ℕ)) (one other earlier : LineWhy) → HasFault limit field word one → IsFirstFault limit fields words other → rank earlier < rank one → rank earlier < rank other
    → SomeFault limit (field ∷ fields) (word ∷ words) earlier → ⊥
both_before limit field fields word words one other earlier fault first less also (inl found) = let e = ranks_of_one limit field word one earlier fault found in omega arith
both_before limit field fields word words one other earlier fault first less also (inr found) = first.none_before earlier also found

least : (limit : ℕ) (field : Field) (fields : List Field) (word : List ℕ) (words : List (List ℕ)) (one other : LineWhy) → HasFault limit field word one → IsFirstFault limit fields words other → (rank other < rank one) ⊎ (rank one ≤ rank other)
    → FirstOf limit (field ∷ fields) (word ∷ words)
least limit field fields word words one other fault first (inl less) =
    inr (other, record { here = inr first.here; none_before = λ earlier before found. both_before limit field fields word words one other earlier fault first (omega arith) before found })
least limit field fields word words one other fault first (inr more) =
    inr (one, record { here = inl fault; none_before = λ earlier before found. both_before limit field fields word words one other earlier fault first before (omega arith) found })

one_more : (limit : ℕ) (field : Field) (fields : List Field) (word : List ℕ) (words : List (List ℕ)) → Reported limit field word → FirstOf limit fields words → FirstOf limit (field ∷ fields) (word ∷ words)
one_more limit field fields word words (inl says) (inl rest) = inl (says.0 ∷ rest.0, (says.1, rest.1))
one_more limit field fields word words (inl says) (inr first) =
    inr (first.0, record { here = inr first.1.here; none_before = λ earlier less found. behind_one limit field fields word words says.0 first.0 earlier says.1 first.1 less found })
one_more limit field fields word words (inr fault) (inl rest) =
    inr (fault.0, record { here = inl fault.1; none_before = λ earlier less found. before_all limit field fields word words rest.0 fault.0 earlier fault.1 rest.1 less found })
one_more limit field fields word words (inr fault) (inr first) = least limit field fields word words fault.0 first.0 fault.1 first.1 (cases_lt (rank first.0) (rank fault.0))

first_of : (limit : ℕ) (fields : List Field) (words : List (List ℕ)) → All FieldFits fields → length words ≡ length fields → FirstOf limit fields words
first_of limit [] [] fits count = inl ([], tt)
first_of limit [] (word ∷ words) fits count = absurd (omega arith)
first_of limit (field ∷ fields) [] fits count = absurd (omega arith)
first_of limit (field ∷ fields) (word ∷ words) fits count =
    one_more limit field fields word words (spoken limit field word (All-head FieldFits field fields fits)) (first_of limit fields words (All-tail FieldFits field fields fits) (omega arith))

some_late : (limit : ℕ) (fields : List Field) (words : List (List ℕ)) (why : LineWhy) → SomeFault limit fields words why → 2 ≤ rank why
some_late limit [] words why fault = absurd fault
some_late limit (field ∷ fields) [] why fault = absurd fault
some_late limit (field ∷ fields) (word ∷ words) why (inl fault) = late limit field word why fault
some_late limit (field ∷ fields) (word ∷ words) why (inr fault) = some_late limit fields words why fault

-- The form that is found.

abbrev FormFits : Form → Type 0
FormFits form = All FieldFits form.fields

is_count : (k n : ℕ) → (k == n) ≡ true → n ≡ k
is_count k n is = grind (arith, nat_tests)

form_step : (n : ℕ) (b c : Bool) (f form : Form) (later : Option Form) → (length f.fields == n) ≡ c → FormFits f → (later ≡ Some form → (n ≡ length form.fields) × FormFits form) → cond (b && c) (Some f) later ≡ Some form
    → (n ≡ length form.fields) × FormFits form
form_step n true true f form later count fits next e =
    let same : f ≡ form = cc in
    subst (λ (g : Form). (n ≡ length g.fields) × FormFits g) same (is_count (length f.fields) n count, fits)
form_step n true false f form later count fits next e = next e
form_step n false c f form later count fits next e = next e

found_form : (table : List Form) (word : List ℕ) (n : ℕ) (form : Form) → TableFits table → form_at table word n ≡ Some form → (n ≡ length form.fields) × FormFits form
found_form [] word n form fits e = absurd (cc)
found_form (f ∷ table) word n form fits e =
    form_step n (has_word word f) (length f.fields == n) f form (form_at table word n) refl (All-head FormFits f table fits) (λ later. found_form table word n form (All-tail FormFits f table fits) later) e

-- Whole lines.

by_late : (table : List Form) (limit : ℕ) (word : List ℕ) (operands : List (List ℕ)) (why : LineWhy) → 2 ≤ rank why → IsRefusedBehind table limit word operands why → Refuses table limit (word ∷ operands) why
by_late table limit word operands Unknown behind refused = absurd (omega arith)
by_late table limit word operands Words behind refused = absurd (omega arith)
by_late table limit word operands Name behind refused = refused
by_late table limit word operands Kind behind refused = refused
by_late table limit word operands Hex behind refused = refused
by_late table limit word operands Long behind refused = refused
by_late table limit word operands Number behind refused = refused

abbrev IsRead : List Form → ℕ → List (List ℕ) → Type 0
IsRead table limit words = ((row : Row) × Spells table limit words row) ⊎ ((why : LineWhy) × Refuses table limit words why)

by_first : (table : List Form) (limit : ℕ) (word : List ℕ) (operands : List (List ℕ)) (form : Form) → form_at table word (length operands) ≡ Some form → FirstOf limit form.fields operands → IsRead table limit (word ∷ operands)
by_first table limit word operands form found (inl says) = inl (row word says.0, record { operands = operands; form = form; words_are = refl; found = found; says = says.1 })
by_first table limit word operands form found (inr first) =
    inr (first.0, by_late table limit word operands first.0 (some_late limit form.fields operands first.0 first.1.here) (record { form = form; found = found; first = first.1 }))

by_form : (table : List Form) (limit : ℕ) (word : List ℕ) (operands : List (List ℕ)) (any : Bool) (form : Option Form) → TableFits table → list_any (has_word word) table ≡ any → form_at table word (length operands) ≡ form → IsRead table limit (word ∷ operands)
by_form table limit word operands false form fits none found = inr (Unknown, none)
by_form table limit word operands true None fits has none = inr (Words, (has, none))
by_form table limit word operands true (Some form) fits has found =
    let is = found_form table word (length operands) form fits found in
    by_first table limit word operands form found (first_of limit form.fields operands is.1 is.0)

pub each_is_read : EachIsRead
each_is_read table limit [] fits some = absurd (omega arith)
each_is_read table limit (word ∷ operands) fits some = by_form table limit word operands (list_any (has_word word) table) (form_at table word (length operands)) fits refl refl

-- The tables.

all_of : {A : Type 0} (p : A → Bool) (P : A → Type 0) (xs : List A) → ((x : A) → p x ≡ true → P x) → list_all p xs ≡ true → All P xs
all_of p P [] sound is = All-nil P
all_of p P (x ∷ xs) sound is =
    let both = and_parts (p x) (list_all p xs) is in
    All-cons P x xs (sound x both.0) (all_of p P xs sound both.1)

abbrev field_fits : Field → Bool
field_fits (below end) = nat_le end (2 ^ 64)
field_fits a_name = true
field_fits a_label = true
field_fits a_kind = true
field_fits some_bytes = true
field_fits any_bytes = true

field_sound : (field : Field) → field_fits field ≡ true → FieldFits field
field_sound a_name is = tt
field_sound a_label is = tt
field_sound a_kind is = tt
field_sound some_bytes is = tt
field_sound any_bytes is = tt
field_sound (below end) is = within end (2 ^ 64) is where
  within : (a b : ℕ) → nat_le a b ≡ true → a ≤ b
  within a b is = grind (arith, nat_tests)

table_sound : (table : List Form) → list_all (λ form. list_all field_fits form.fields) table ≡ true → TableFits table
table_sound table is = all_of (λ form. list_all field_fits form.fields) FormFits table (λ form fits. all_of field_fits FieldFits form.fields field_sound fits) is

pub settings_fit : TableFits settings_forms
settings_fit = table_sound settings_forms refl
