-- Words behind the first one, and the first cause for which they are refused.
use Rattle.std.proofs.Common.{◌==◌, Bor, ◌≡◌, ◌≢◌, ◌⊎◌, inl, inr, ℕ, ◌<◌, ◌≤◌, Some, Option, Result, Ok, Err, List, [], ◌∷◌, length, codes, refl, sym, ◌∙◌, ap, subst, arith}
use Rattle.text_parts.specs.Parts.{parts_of}
use Rattle.text_parts.proofs.PartLemmas.{some_parts}
use Rattle.setting_name.specs.Name.{IsName}
use Rattle.image_file.specs.Lawful.{IsLabel}
use Rattle.handlers.specs.declared.handler.HandlerKind.{HandlerKind}
use Rattle.script_lines.specs.declared.why.LineWhy.{LineWhy}
use Rattle.script_lines.specs.declared.why.LineFault.{LineFault}
use Rattle.script_lines.specs.declared.why.LineFault.TheVariants.{Refused, NoMemory}
use Rattle.script_lines.specs.declared.why.LineWhy.TheVariants.{Unknown, Words, Name, Kind, Hex, Long, Number}
use Rattle.script_lines.specs.Forms.{Field, Said, IsHex, IsDash, IsNoHex, IsTooLong, kind_word, SaysField, SaysAll, HasFault, SomeFault, rank, IsFirstFault, SomeTakesMemory, RefusesFields, ReadsField, ReadsFields, ReadsNameOrNothing}
use Rattle.script_lines.specs.Forms.Field.{a_name, a_label, a_kind, some_bytes, any_bytes, below}
use Rattle.script_lines.specs.Forms.Said.{name, label, kind, bytes, number}

only_name : (limit : ℕ) (word : List ℕ) (why : LineWhy) → HasFault limit a_name word why → why ≡ Name
only_name limit word Unknown fault = absurd fault
only_name limit word Words fault = absurd fault
only_name limit word Name fault = refl
only_name limit word Kind fault = absurd fault
only_name limit word Hex fault = absurd fault
only_name limit word Long fault = absurd fault
only_name limit word Number fault = absurd fault

only_label : (limit : ℕ) (word : List ℕ) (why : LineWhy) → HasFault limit a_label word why → why ≡ Name
only_label limit word Unknown fault = absurd fault
only_label limit word Words fault = absurd fault
only_label limit word Name fault = refl
only_label limit word Kind fault = absurd fault
only_label limit word Hex fault = absurd fault
only_label limit word Long fault = absurd fault
only_label limit word Number fault = absurd fault

only_kind : (limit : ℕ) (word : List ℕ) (why : LineWhy) → HasFault limit a_kind word why → why ≡ Kind
only_kind limit word Unknown fault = absurd fault
only_kind limit word Words fault = absurd fault
only_kind limit word Name fault = absurd fault
only_kind limit word Kind fault = refl
only_kind limit word Hex fault = absurd fault
only_kind limit word Long fault = absurd fault
only_kind limit word Number fault = absurd fault

only_number : (limit end : ℕ) (word : List ℕ) (why : LineWhy) → HasFault limit (below end) word why → why ≡ Number
only_number limit end word Unknown fault = absurd fault
only_number limit end word Words fault = absurd fault
only_number limit end word Name fault = absurd fault
only_number limit end word Kind fault = absurd fault
only_number limit end word Hex fault = absurd fault
only_number limit end word Long fault = absurd fault
only_number limit end word Number fault = refl

hex_or_long : (limit : ℕ) (word : List ℕ) (why : LineWhy) → HasFault limit some_bytes word why → ((why ≡ Hex) × IsNoHex word) ⊎ ((why ≡ Long) × IsTooLong limit word)
hex_or_long limit word Unknown fault = absurd fault
hex_or_long limit word Words fault = absurd fault
hex_or_long limit word Name fault = absurd fault
hex_or_long limit word Kind fault = absurd fault
hex_or_long limit word Hex fault = inl (refl, fault)
hex_or_long limit word Long fault = inr (refl, fault)
hex_or_long limit word Number fault = absurd fault

some_of_any : (limit : ℕ) (word : List ℕ) (why : LineWhy) → HasFault limit any_bytes word why → HasFault limit some_bytes word why
some_of_any limit word Unknown fault = absurd fault
some_of_any limit word Words fault = absurd fault
some_of_any limit word Name fault = absurd fault
some_of_any limit word Kind fault = absurd fault
some_of_any limit word Hex fault = fault.1
some_of_any limit word Long fault = fault
some_of_any limit word Number fault = absurd fault

same_rank : (a b why : LineWhy) → a ≡ why → b ≡ why → rank a ≡ rank b
same_rank a b why first second = ap rank (first ∙ sym second)

bytes_ranks : (limit : ℕ) (word : List ℕ) (why earlier : LineWhy) → ((why ≡ Hex) × IsNoHex word) ⊎ ((why ≡ Long) × IsTooLong limit word)
    → ((earlier ≡ Hex) × IsNoHex word) ⊎ ((earlier ≡ Long) × IsTooLong limit word) → rank why ≡ rank earlier
bytes_ranks limit word why earlier (inl one) (inl other) = same_rank why earlier Hex one.0 other.0
bytes_ranks limit word why earlier (inl one) (inr other) = absurd (one.1 other.1.0 other.1.1)
bytes_ranks limit word why earlier (inr one) (inl other) = absurd (other.1 one.1.0 one.1.1)
bytes_ranks limit word why earlier (inr one) (inr other) = same_rank why earlier Long one.0 other.0

-- a word is refused for one cause
pub ranks_of_one : (limit : ℕ) (field : Field) (word : List ℕ) (why earlier : LineWhy) → HasFault limit field word why → HasFault limit field word earlier → rank why ≡ rank earlier
ranks_of_one limit a_name word why earlier fault other = same_rank why earlier Name (only_name limit word why fault) (only_name limit word earlier other)
ranks_of_one limit a_label word why earlier fault other = same_rank why earlier Name (only_label limit word why fault) (only_label limit word earlier other)
ranks_of_one limit a_kind word why earlier fault other = same_rank why earlier Kind (only_kind limit word why fault) (only_kind limit word earlier other)
ranks_of_one limit some_bytes word why earlier fault other = bytes_ranks limit word why earlier (hex_or_long limit word why fault) (hex_or_long limit word earlier other)
ranks_of_one limit any_bytes word why earlier fault other =
    bytes_ranks limit word why earlier (hex_or_long limit word why (some_of_any limit word why fault)) (hex_or_long limit word earlier (some_of_any limit word earlier other))
ranks_of_one limit (below end) word why earlier fault other = same_rank why earlier Number (only_number limit end word why fault) (only_number limit end word earlier other)

bytes_late : (limit : ℕ) (word : List ℕ) (why : LineWhy) → ((why ≡ Hex) × IsNoHex word) ⊎ ((why ≡ Long) × IsTooLong limit word) → 2 ≤ rank why
bytes_late limit word why (inl one) = let e = ap rank one.0 in omega arith
bytes_late limit word why (inr one) = let e = ap rank one.0 in omega arith

-- no word behind the first one is refused for its first word or for their number
pub late : (limit : ℕ) (field : Field) (word : List ℕ) (why : LineWhy) → HasFault limit field word why → 2 ≤ rank why
late limit a_name word why fault = let e = ap rank (only_name limit word why fault) in omega arith
late limit a_label word why fault = let e = ap rank (only_label limit word why fault) in omega arith
late limit a_kind word why fault = let e = ap rank (only_kind limit word why fault) in omega arith
late limit some_bytes word why fault = bytes_late limit word why (hex_or_long limit word why fault)
late limit any_bytes word why fault = bytes_late limit word why (hex_or_long limit word why (some_of_any limit word why fault))
late limit (below end) word why fault = let e = ap rank (only_number limit end word why fault) in omega arith

-- A word that says something is not refused.

hex_stands : (limit : ℕ) (word value : List ℕ) (why : LineWhy) → IsHex word value → length value ≤ limit → ((why ≡ Hex) × IsNoHex word) ⊎ ((why ≡ Long) × IsTooLong limit word) → ⊥
hex_stands limit word value why is short (inl bad) = bad.1 value is
hex_stands limit word value why is short (inr bad) =
    let same : value ≡ bad.1.0 = (let both = sym is.0 ∙ bad.1.1.0 in cc) in
    let e = ap length same in
    omega arith

no_dash_hex : (value : List ℕ) → IsHex (codes "-") value → ⊥
no_dash_hex value is = let e = is.0 in cc

dash_stands : (limit : ℕ) (word : List ℕ) (why : LineWhy) → IsDash word → HasFault limit any_bytes word why → ⊥
dash_stands limit word Unknown is fault = fault
dash_stands limit word Words is fault = fault
dash_stands limit word Name is fault = fault
dash_stands limit word Kind is fault = fault
dash_stands limit word Hex is fault = fault.0 is
dash_stands limit word Long is fault = no_dash_hex fault.0 (subst (λ word. IsHex word fault.0) is fault.1)
dash_stands limit word Number is fault = fault

name_stands : (limit : ℕ) (word text : List ℕ) (why : LineWhy) → word ≡ text → IsName text → HasFault limit a_name word why → ⊥
name_stands limit word text Unknown same is fault = fault
name_stands limit word text Words same is fault = fault
name_stands limit word text Name same is fault = fault (subst IsName (sym same) is)
name_stands limit word text Kind same is fault = fault
name_stands limit word text Hex same is fault = fault
name_stands limit word text Long same is fault = fault
name_stands limit word text Number same is fault = fault

label_stands : (limit : ℕ) (word text : List ℕ) (why : LineWhy) → word ≡ text → IsLabel text → HasFault limit a_label word why → ⊥
label_stands limit word text Unknown same is fault = fault
label_stands limit word text Words same is fault = fault
label_stands limit word text Name same is fault = fault (subst IsLabel (sym same) is)
label_stands limit word text Kind same is fault = fault
label_stands limit word text Hex same is fault = fault
label_stands limit word text Long same is fault = fault
label_stands limit word text Number same is fault = fault

kind_stands : (limit : ℕ) (word : List ℕ) (k : HandlerKind) (why : LineWhy) → word ≡ kind_word k → HasFault limit a_kind word why → ⊥
kind_stands limit word k Unknown same fault = fault
kind_stands limit word k Words same fault = fault
kind_stands limit word k Name same fault = fault
kind_stands limit word k Kind same fault = fault k same
kind_stands limit word k Hex same fault = fault
kind_stands limit word k Long same fault = fault
kind_stands limit word k Number same fault = fault

number_stands : (limit end : ℕ) (word : List ℕ) (n : ℕ) (why : LineWhy) → SaysField limit (below end) word (number n) → HasFault limit (below end) word why → ⊥
number_stands limit end word n Unknown says fault = fault
number_stands limit end word n Words says fault = fault
number_stands limit end word n Name says fault = fault
number_stands limit end word n Kind says fault = fault
number_stands limit end word n Hex says fault = fault
number_stands limit end word n Long says fault = fault
number_stands limit end word n Number says fault = fault n says.1 says.0

any_stands : (limit : ℕ) (word value : List ℕ) (why : LineWhy) → SaysField limit any_bytes word (bytes value) → HasFault limit any_bytes word why → ⊥
any_stands limit word value why (inl dash) fault = dash_stands limit word why dash.0 fault
any_stands limit word value why (inr says) fault = hex_stands limit word value why says.0 says.1 (hex_or_long limit word why (some_of_any limit word why fault))

pub stands : (limit : ℕ) (field : Field) (word : List ℕ) (said : Said) (why : LineWhy) → SaysField limit field word said → HasFault limit field word why → ⊥
stands limit a_name word (name text) why says fault = name_stands limit word text why says.0 says.1 fault
stands limit a_name word (label text) why says fault = says
stands limit a_name word (kind k) why says fault = says
stands limit a_name word (bytes value) why says fault = says
stands limit a_name word (number n) why says fault = says
stands limit a_label word (name text) why says fault = says
stands limit a_label word (label text) why says fault = label_stands limit word text why says.0 says.1 fault
stands limit a_label word (kind k) why says fault = says
stands limit a_label word (bytes value) why says fault = says
stands limit a_label word (number n) why says fault = says
stands limit a_kind word (name text) why says fault = says
stands limit a_kind word (label text) why says fault = says
stands limit a_kind word (kind k) why says fault = kind_stands limit word k why says fault
stands limit a_kind word (bytes value) why says fault = says
stands limit a_kind word (number n) why says fault = says
stands limit some_bytes word (name text) why says fault = says
stands limit some_bytes word (label text) why says fault = says
stands limit some_bytes word (kind k) why says fault = says
stands limit some_bytes word (bytes value) why says fault = hex_stands limit word value why says.0 says.1 (hex_or_long limit word why fault)
stands limit some_bytes word (number n) why says fault = says
stands limit any_bytes word (name text) why says fault = says
stands limit any_bytes word (label text) why says fault = says
stands limit any_bytes word (kind k) why says fault = says
stands limit any_bytes word (bytes value) why says fault = any_stands limit word value why says fault
stands limit any_bytes word (number n) why says fault = says
stands limit (below end) word (name text) why says fault = says
stands limit (below end) word (label text) why says fault = says
stands limit (below end) word (kind k) why says fault = says
stands limit (below end) word (bytes value) why says fault = says
stands limit (below end) word (number n) why says fault = number_stands limit end word n why says fault

-- Words in a row.

pub refuses : (limit : ℕ) (fields : List Field) (operands : List (List ℕ)) (why : LineWhy) → 2 ≤ rank why → length operands ≡ length fields → IsFirstFault limit fields operands why → RefusesFields limit fields operands why
refuses limit fields operands Unknown behind count first = absurd (omega arith)
refuses limit fields operands Words behind count first = absurd (omega arith)
refuses limit fields operands Name behind count first = (count, first)
refuses limit fields operands Kind behind count first = (count, first)
refuses limit fields operands Hex behind count first = (count, first)
refuses limit fields operands Long behind count first = (count, first)
refuses limit fields operands Number behind count first = (count, first)

none_in_one : (limit : ℕ) (field : Field) (word : List ℕ) (why earlier : LineWhy) → HasFault limit field word why → rank earlier < rank why → SomeFault limit (field ∷ []) (word ∷ []) earlier → ⊥
none_in_one limit field word why earlier fault less (inl found) = let e = ranks_of_one limit field word why earlier fault found in omega arith
none_in_one limit field word why earlier fault less (inr found) = found

alone_refused : (limit : ℕ) (field : Field) (word : List ℕ) (why : LineWhy) → HasFault limit field word why → RefusesFields limit (field ∷ []) (word ∷ []) why
alone_refused limit field word why fault =
    refuses limit (field ∷ []) (word ∷ []) why (late limit field word why fault) refl (record { here = inl fault; none_before = λ earlier less found. none_in_one limit field word why earlier fault less found })

by_alone : {T : Type 0} (limit : ℕ) (field : Field) (say : T → Said) (word : List ℕ) (r : Result T LineFault) → ReadsField limit field say word r → ReadsFields limit (field ∷ []) (λ x. say x ∷ []) (word ∷ []) r
by_alone limit field say word (Ok x) reads = (reads, tt)
by_alone limit field say word (Err (Refused why)) reads = alone_refused limit field word why reads
by_alone limit field say word (Err NoMemory) reads = inl reads

pub alone : {T : Type 0} (limit : ℕ) (field : Field) (say : T → Said) (word : List ℕ) (operands : List (List ℕ)) (r : Result T LineFault) → operands ≡ word ∷ [] → ReadsField limit field say word r
    → ReadsFields limit (field ∷ []) (λ x. say x ∷ []) operands r
alone limit field say word operands r are reads = subst (λ (operands : List (List ℕ)). ReadsFields limit (field ∷ []) (λ x. say x ∷ []) operands r) (sym are) (by_alone limit field say word r reads)

-- The first of two words is a name.

none_in_two : (limit : ℕ) (field : Field) (word second : List ℕ) (earlier : LineWhy) → rank earlier < 2 → SomeFault limit (a_name ∷ field ∷ []) (word ∷ second ∷ []) earlier → ⊥
none_in_two limit field word second earlier less (inl found) = let e = late limit a_name word earlier found in omega arith
none_in_two limit field word second earlier less (inr (inl found)) = let e = late limit field second earlier found in omega arith
none_in_two limit field word second earlier less (inr (inr found)) = found

first_refused : (limit : ℕ) (field : Field) (word second : List ℕ) (why : LineWhy) → HasFault limit a_name word why → RefusesFields limit (a_name ∷ field ∷ []) (word ∷ second ∷ []) why
first_refused limit field word second why fault =
    let e = ap rank (only_name limit word why fault) in
    refuses limit (a_name ∷ field ∷ []) (word ∷ second ∷ []) why (late limit a_name word why fault) refl
    (record { here = inl fault; none_before = λ earlier less found. none_in_two limit field word second earlier (omega arith) found })

second_alone : (limit : ℕ) (field : Field) (word second : List ℕ) (said : Said) (why earlier : LineWhy) → SaysField limit a_name word said → HasFault limit field second why → rank earlier < rank why
    → SomeFault limit (a_name ∷ field ∷ []) (word ∷ second ∷ []) earlier → ⊥
second_alone limit field word second said why earlier says fault less (inl found) = stands limit a_name word said earlier says found
second_alone limit field word second said why earlier says fault less (inr found) = none_in_one limit field second why earlier fault less found

second_refused : (limit : ℕ) (field : Field) (word second : List ℕ) (said : Said) (why : LineWhy) → SaysField limit a_name word said → HasFault limit field second why → RefusesFields limit (a_name ∷ field ∷ []) (word ∷ second ∷ []) why
second_refused limit field word second said why says fault =
    refuses limit (a_name ∷ field ∷ []) (word ∷ second ∷ []) why (late limit field second why fault) refl
    (record { here = inr (inl fault); none_before = λ earlier less found. second_alone limit field word second said why earlier says fault less found })

pub first_err : {S T : Type 0} (limit : ℕ) (field : Field) (said : S → Said) (say : T → List Said) (word second : List ℕ) (operands : List (List ℕ)) (e : LineFault) → operands ≡ word ∷ second ∷ []
    → ReadsField limit a_name said word (Err e) → ReadsFields limit (a_name ∷ field ∷ []) say operands (Err e)
first_err limit field said say word second operands (Refused why) are reads =
    subst (λ (operands : List (List ℕ)). RefusesFields limit (a_name ∷ field ∷ []) operands why) (sym are) (first_refused limit field word second why reads)
first_err limit field said say word second operands NoMemory are reads = inl reads

pub second_err : {S T : Type 0} (limit : ℕ) (field : Field) (first : Said) (said : S → Said) (say : T → List Said) (word second : List ℕ) (operands : List (List ℕ)) (e : LineFault) → operands ≡ word ∷ second ∷ []
    → SaysField limit a_name word first → ReadsField limit field said second (Err e) → ReadsFields limit (a_name ∷ field ∷ []) say operands (Err e)
second_err limit field first said say word second operands (Refused why) are says reads =
    subst (λ (operands : List (List ℕ)). RefusesFields limit (a_name ∷ field ∷ []) operands why) (sym are) (second_refused limit field word second first why says reads)
second_err limit field first said say word second operands NoMemory are says reads = inr (inl reads)

pub both : (limit : ℕ) (field : Field) (word second : List ℕ) (operands : List (List ℕ)) (one other : Said) → operands ≡ word ∷ second ∷ []
    → SaysField limit a_name word one → SaysField limit field second other → SaysAll limit (a_name ∷ field ∷ []) operands (one ∷ other ∷ [])
both limit field word second operands one other are first then =
    subst (λ (operands : List (List ℕ)). SaysAll limit (a_name ∷ field ∷ []) operands (one ∷ other ∷ [])) (sym are) (first, (then, tt))

-- One name or nothing.

name_takes_none : SomeTakesMemory (a_name ∷ []) → ⊥
name_takes_none (inl takes) = takes
name_takes_none (inr takes) = takes

pub some_name : {T : Type 0} (limit : ℕ) (say : T → List Said) (operands : List (List ℕ)) (e : LineFault) → 0 < length operands → ReadsFields limit (a_name ∷ []) say operands (Err e) → ReadsNameOrNothing limit operands (Err e)
some_name limit say operands (Refused Unknown) some reads = reads
some_name limit say operands (Refused Words) some reads = omega arith
some_name limit say operands (Refused Name) some reads = reads
some_name limit say operands (Refused Kind) some reads = reads
some_name limit say operands (Refused Hex) some reads = reads
some_name limit say operands (Refused Long) some reads = reads
some_name limit say operands (Refused Number) some reads = reads
some_name limit say operands NoMemory some reads = name_takes_none reads

-- Text is one word at least.

pub some_text : (rest : Option (Bor (List ℕ))) (text : Bor (List ℕ)) → rest ≡ Some text → 0 < length (parts_of 32 rest)
some_text rest text is = rw is (some_parts (λ b. b == 32) text.now)

pub some_words : (rest : Option (Bor (List ℕ))) (text : Bor (List ℕ)) → rest ≡ Some text → length (parts_of 32 rest) ≢ 0
some_words rest text is none = let some = some_text rest text is in omega arith

-- Bytes behind a number: their causes come before its own.

bytes_early : (limit : ℕ) (word : List ℕ) (why : LineWhy) → HasFault limit some_bytes word why → rank why < 6
bytes_early limit word why fault = early (hex_or_long limit word why fault) where
  early : ((why ≡ Hex) × IsNoHex word) ⊎ ((why ≡ Long) × IsTooLong limit word) → rank why < 6
  early (inl one) = let e = ap rank one.0 in omega arith
  early (inr one) = let e = ap rank one.0 in omega arith

none_of_bytes : (limit end : ℕ) (first second : List ℕ) (why earlier : LineWhy) → HasFault limit some_bytes second why → rank earlier < rank why → SomeFault limit (below end ∷ some_bytes ∷ []) (first ∷ second ∷ []) earlier → ⊥
none_of_bytes limit end first second why earlier fault less (inl found) =
    let e = ap rank (only_number limit end first earlier found) in
    let early = bytes_early limit second why fault in
    omega arith
none_of_bytes limit end first second why earlier fault less (inr found) = none_in_one limit some_bytes second why earlier fault less found

none_of_number : (limit end : ℕ) (first second : List ℕ) (said : Said) (why earlier : LineWhy) → SaysField limit some_bytes second said → HasFault limit (below end) first why → rank earlier < rank why
    → SomeFault limit (below end ∷ some_bytes ∷ []) (first ∷ second ∷ []) earlier → ⊥
none_of_number limit end first second said why earlier says fault less (inl found) = let e = ranks_of_one limit (below end) first why earlier fault found in omega arith
none_of_number limit end first second said why earlier says fault less (inr (inl found)) = stands limit some_bytes second said earlier says found
none_of_number limit end first second said why earlier says fault less (inr (inr found)) = found

pub bytes_err : {S T : Type 0} (limit end : ℕ) (said : S → Said) (say : T → List Said) (first second : List ℕ) (operands : List (List ℕ)) (e : LineFault) → operands ≡ first ∷ second ∷ []
    → ReadsField limit some_bytes said second (Err e) → ReadsFields limit (below end ∷ some_bytes ∷ []) say operands (Err e)
bytes_err limit end said say first second operands (Refused why) are reads =
    subst (λ (operands : List (List ℕ)). RefusesFields limit (below end ∷ some_bytes ∷ []) operands why) (sym are)
    (refuses limit (below end ∷ some_bytes ∷ []) (first ∷ second ∷ []) why (late limit some_bytes second why reads) refl
    (record { here = inr (inl reads); none_before = λ earlier less found. none_of_bytes limit end first second why earlier reads less found }))
bytes_err limit end said say first second operands NoMemory are reads = inr (inl reads)

pub number_err : {S T : Type 0} (limit end : ℕ) (value : Said) (said : S → Said) (say : T → List Said) (first second : List ℕ) (operands : List (List ℕ)) (e : LineFault) → operands ≡ first ∷ second ∷ []
    → SaysField limit some_bytes second value → ReadsField limit (below end) said first (Err e) → ReadsFields limit (below end ∷ some_bytes ∷ []) say operands (Err e)
number_err limit end value said say first second operands (Refused why) are says reads =
    subst (λ (operands : List (List ℕ)). RefusesFields limit (below end ∷ some_bytes ∷ []) operands why) (sym are)
    (refuses limit (below end ∷ some_bytes ∷ []) (first ∷ second ∷ []) why (late limit (below end) first why reads) refl
    (record { here = inl reads; none_before = λ earlier less found. none_of_number limit end first second value why earlier says reads less found }))
number_err limit end value said say first second operands NoMemory are says reads = inl reads

pub number_and_bytes : (limit end : ℕ) (first second : List ℕ) (operands : List (List ℕ)) (n value : Said) → operands ≡ first ∷ second ∷ []
    → SaysField limit (below end) first n → SaysField limit some_bytes second value → SaysAll limit (below end ∷ some_bytes ∷ []) operands (n ∷ value ∷ [])
number_and_bytes limit end first second operands n value are one other =
    subst (λ (operands : List (List ℕ)). SaysAll limit (below end ∷ some_bytes ∷ []) operands (n ∷ value ∷ [])) (sym are) (one, (other, tt))
