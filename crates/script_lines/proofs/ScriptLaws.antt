-- A script is read in one way.
use Rattle.std.proofs.Common.{◌≡◌, ◌⊎◌, ◌==◌, ◌&&◌, ◌||◌, ℕ, ◌+◌, ◌<◌, Bool, true, false, not, cond, Option, Some, None, List, [], ◌∷◌, length, codes, refl, sym, ◌∙◌, ap, subst, inl, inr, arith}
use Rattle.std.specs.List.{list_any}
use Rattle.std.specs.Str.{bytes_eq}
use Rattle.std.proofs.lemmas.Fmt.{decimal_injective}
use Rattle.hex.specs.Hex.{decode_of}
use Rattle.handlers.specs.declared.handler.HandlerKind.{HandlerKind}
use Rattle.handlers.specs.declared.handler.HandlerKind.TheVariants.{Table, Counter, Level}
use Rattle.text_parts.specs.Parts.{parts}
use Rattle.script_lines.specs.declared.line.Line.{Line}
use Rattle.script_lines.specs.declared.line.Line.TheVariants.{Set, Get, Del, Register, Load, Direct, Save, Commit, RunSet, RunGet, Names, Mount, Cut, Uncut, Migrate}
use Rattle.script_lines.specs.declared.why.LineWhy.{LineWhy}
use Rattle.script_lines.specs.declared.why.LineWhy.TheVariants.{Unknown, Words, Name, Kind, Hex, Long, Number}
use Rattle.script_lines.specs.Forms.{Field, Form, Said, Row, IsHex, IsDash, kind_word, SaysField, SaysAll, has_word, form_at, Spells, rank, SomeFault, IsFirstFault, IsRefusedBehind, Refuses, row}
use Rattle.script_lines.specs.Forms.Field.{a_name, a_label, a_kind, some_bytes, any_bytes, below}
use Rattle.script_lines.specs.Forms.Said.{name, label, kind, bytes, number}
use Rattle.script_lines.specs.Line.{row_of}
use Rattle.script_lines.specs.Script.{is_skipped, SpellsAll, spoken, FirstRefused, IsFine, IsRefused}
use Rattle.script_lines.specs.Laws.{OneLine, OneCause, OneScript, OneRefusal, OneMeaning}
use Rattle.script_lines.proofs.FieldLemmas.{stands}

-- A word says one thing.

-- the kind of a word's first byte
kind_at : List ℕ → Option HandlerKind
kind_at word = cond (bytes_eq word (codes "table")) (Some Table) (cond (bytes_eq word (codes "counter")) (Some Counter) (Some Level))

kind_back : (k : HandlerKind) → kind_at (kind_word k) ≡ Some k
unfolding kind_at
kind_back Table = refl
kind_back Counter = refl
kind_back Level = refl

same_kind : (word : List ℕ) (a b : HandlerKind) → word ≡ kind_word a → word ≡ kind_word b → a ≡ b
same_kind word a b one other =
    let both : Some a ≡ Some b = sym (kind_back a) ∙ ap kind_at (sym one ∙ other) ∙ kind_back b in cc

same_hex : (word value other : List ℕ) → IsHex word value → IsHex word other → value ≡ other
same_hex word value other one two = let both = sym one.0 ∙ two.0 in cc

no_dash : (word value : List ℕ) → IsDash word → IsHex word value → ⊥
no_dash word value dash is = let e = ap decode_of (sym dash) ∙ is.0 in cc

same_bytes : (limit : ℕ) (word value other : List ℕ) → SaysField limit any_bytes word (bytes value) → SaysField limit any_bytes word (bytes other) → value ≡ other
same_bytes limit word value other (inl one) (inl two) = one.1 ∙ sym two.1
same_bytes limit word value other (inl one) (inr two) = absurd (no_dash word other one.0 two.0)
same_bytes limit word value other (inr one) (inl two) = absurd (no_dash word value two.0 one.0)
same_bytes limit word value other (inr one) (inr two) = same_hex word value other one.0 two.0

same_said : (limit : ℕ) (field : Field) (word : List ℕ) (a b : Said) → SaysField limit field word a → SaysField limit field word b → a ≡ b
same_said limit a_name word (name t) (name u) one two = ap name (sym one.0 ∙ two.0)
same_said limit a_name word (name t) (label u) one two = absurd two
same_said limit a_name word (name t) (kind l) one two = absurd two
same_said limit a_name word (name t) (bytes w) one two = absurd two
same_said limit a_name word (name t) (number m) one two = absurd two
same_said limit a_name word (label t) b one two = absurd one
same_said limit a_name word (kind k) b one two = absurd one
same_said limit a_name word (bytes v) b one two = absurd one
same_said limit a_name word (number n) b one two = absurd one
same_said limit a_label word (name t) b one two = absurd one
same_said limit a_label word (label t) (name u) one two = absurd two
same_said limit a_label word (label t) (label u) one two = ap label (sym one.0 ∙ two.0)
same_said limit a_label word (label t) (kind l) one two = absurd two
same_said limit a_label word (label t) (bytes w) one two = absurd two
same_said limit a_label word (label t) (number m) one two = absurd two
same_said limit a_label word (kind k) b one two = absurd one
same_said limit a_label word (bytes v) b one two = absurd one
same_said limit a_label word (number n) b one two = absurd one
same_said limit a_kind word (name t) b one two = absurd one
same_said limit a_kind word (label t) b one two = absurd one
same_said limit a_kind word (kind k) (name u) one two = absurd two
same_said limit a_kind word (kind k) (label u) one two = absurd two
same_said limit a_kind word (kind k) (kind l) one two = ap kind (same_kind word k l one two)
same_said limit a_kind word (kind k) (bytes w) one two = absurd two
same_said limit a_kind word (kind k) (number m) one two = absurd two
same_said limit a_kind word (bytes v) b one two = absurd one
same_said limit a_kind word (number n) b one two = absurd one
same_said limit some_bytes word (name t) b one two = absurd one
same_said limit some_bytes word (label t) b one two = absurd one
same_said limit some_bytes word (kind k) b one two = absurd one
same_said limit some_bytes word (bytes v) (name u) one two = absurd two
same_said limit some_bytes word (bytes v) (label u) one two = absurd two
same_said limit some_bytes word (bytes v) (kind l) one two = absurd two
same_said limit some_bytes word (bytes v) (bytes w) one two = ap bytes (same_hex word v w one.0 two.0)
same_said limit some_bytes word (bytes v) (number m) one two = absurd two
same_said limit some_bytes word (number n) b one two = absurd one
same_said limit any_bytes word (name t) b one two = absurd one
same_said limit any_bytes word (label t) b one two = absurd one
same_said limit any_bytes word (kind k) b one two = absurd one
same_said limit any_bytes word (bytes v) (name u) one two = absurd two
same_said limit any_bytes word (bytes v) (label u) one two = absurd two
same_said limit any_bytes word (bytes v) (kind l) one two = absurd two
same_said limit any_bytes word (bytes v) (bytes w) one two = ap bytes (same_bytes limit word v w one two)
same_said limit any_bytes word (bytes v) (number m) one two = absurd two
same_said limit any_bytes word (number n) b one two = absurd one
same_said limit (below end) word (name t) b one two = absurd one
same_said limit (below end) word (label t) b one two = absurd one
same_said limit (below end) word (kind k) b one two = absurd one
same_said limit (below end) word (bytes v) b one two = absurd one
same_said limit (below end) word (number n) (name u) one two = absurd two
same_said limit (below end) word (number n) (label u) one two = absurd two
same_said limit (below end) word (number n) (kind l) one two = absurd two
same_said limit (below end) word (number n) (bytes w) one two = absurd two
same_said limit (below end) word (number n) (number m) one two = ap number (decimal_injective n m one.2 two.2 (sym one.0 ∙ two.0))

more_said : (a b : Said) (xs ys : List Said) → a ≡ b → xs ≡ ys → a ∷ xs ≡ b ∷ ys
more_said a b xs ys first rest = cc

same_all : (limit : ℕ) (fields : List Field) (words : List (List ℕ)) (xs ys : List Said) → SaysAll limit fields words xs → SaysAll limit fields words ys → ys ≡ xs
same_all limit [] [] [] [] one two = refl
same_all limit [] [] [] (b ∷ ys) one two = absurd two
same_all limit [] [] (a ∷ xs) ys one two = absurd one
same_all limit [] (word ∷ words) xs ys one two = absurd one
same_all limit (field ∷ fields) [] xs ys one two = absurd one
same_all limit (field ∷ fields) (word ∷ words) [] ys one two = absurd one
same_all limit (field ∷ fields) (word ∷ words) (a ∷ xs) [] one two = absurd two
same_all limit (field ∷ fields) (word ∷ words) (a ∷ xs) (b ∷ ys) one two = more_said b a ys xs (same_said limit field word b a two.0 one.0) (same_all limit fields words xs ys one.1 two.1)

pub stands_all : (limit : ℕ) (fields : List Field) (words : List (List ℕ)) (said : List Said) (why : LineWhy) → SaysAll limit fields words said → SomeFault limit fields words why → ⊥
stands_all limit [] words said why says fault = fault
stands_all limit (field ∷ fields) [] said why says fault = fault
stands_all limit (field ∷ fields) (word ∷ words) [] why says fault = says
stands_all limit (field ∷ fields) (word ∷ words) (a ∷ said) why says (inl fault) = stands limit field word a why says.0 fault
stands_all limit (field ∷ fields) (word ∷ words) (a ∷ said) why says (inr fault) = stands_all limit fields words said why says.1 fault

-- A form that is found is in the table.

has_step : (b c any : Bool) (f form : Form) (later : Option Form) → (later ≡ Some form → any ≡ true) → cond (b && c) (Some f) later ≡ Some form → (b || any) ≡ true
has_step true c any f form later next e = refl
has_step false c any f form later next e = next e

pub found_has : (table : List Form) (word : List ℕ) (n : ℕ) (form : Form) → form_at table word n ≡ Some form → list_any (has_word word) table ≡ true
found_has [] word n form e = cc
found_has (f ∷ table) word n form e = has_step (has_word word f) (length f.fields == n) (list_any (has_word word) table) f form (form_at table word n) (λ later. found_has table word n form later) e

contrary : (b : Bool) → b ≡ true → b ≡ false → ⊥
contrary b holds fails = let e = sym holds ∙ fails in cc

heads : (a b : List ℕ) (xs ys : List (List ℕ)) → a ∷ xs ≡ b ∷ ys → a ≡ b
heads a b xs ys e = cc

tails : (a b : List ℕ) (xs ys : List (List ℕ)) → a ∷ xs ≡ b ∷ ys → xs ≡ ys
tails a b xs ys e = cc

one_form : (table : List Form) (word word' : List ℕ) (n n' : ℕ) (f f' : Form) → word ≡ word' → n ≡ n' → form_at table word n ≡ Some f → form_at table word' n' ≡ Some f' → f ≡ f'
one_form table word word' n n' f f' same count one two =
    let e : form_at table word n ≡ form_at table word' n' = ap (λ (w : List ℕ). form_at table w n) same ∙ ap (form_at table word') count in
    let both : Some f ≡ Some f' = sym one ∙ e ∙ two in cc

same_row : (a b : Row) → a.word ≡ b.word → a.said ≡ b.said → a ≡ b
same_row a b word said = ap (λ (w : List ℕ). row w a.said) word ∙ ap (λ (s : List Said). row b.word s) said

one_row : (table : List Form) (limit : ℕ) (words : List (List ℕ)) (one other : Row) → Spells table limit words one → Spells table limit words other → other ≡ one
one_row table limit words one other s t =
    let cons : one.word ∷ s.operands ≡ other.word ∷ t.operands = sym s.words_are ∙ t.words_are in
    let word : one.word ≡ other.word = heads _ _ _ _ cons in
    let operands : s.operands ≡ t.operands = tails _ _ _ _ cons in
    let form : s.form ≡ t.form = one_form table one.word other.word (length s.operands) (length t.operands) s.form t.form word (ap length operands) s.found t.found in
    let says : SaysAll limit s.form.fields s.operands other.said =
    subst (λ (f : Form). SaysAll limit f.fields s.operands other.said) (sym form) (subst (λ (ws : List (List ℕ)). SaysAll limit t.form.fields ws other.said) (sym operands) t.says) in
    same_row other one (sym word) (same_all limit s.form.fields s.operands one.said other.said s.says says)

-- What refuses words: no form with their first word, none with so many, or one of the words behind it.
abbrev IsCause : List Form → ℕ → List ℕ → List (List ℕ) → LineWhy → Type 0
IsCause table limit word operands why = ((why ≡ Unknown) × (list_any (has_word word) table ≡ false))
    ⊎ (((why ≡ Words) × (list_any (has_word word) table ≡ true) × (form_at table word (length operands) ≡ None)) ⊎ IsRefusedBehind table limit word operands why)

cause_of : (table : List Form) (limit : ℕ) (word : List ℕ) (operands : List (List ℕ)) (why : LineWhy) → Refuses table limit (word ∷ operands) why → IsCause table limit word operands why
cause_of table limit word operands Unknown refused = inl (refl, refused)
cause_of table limit word operands Words refused = inr (inl (refl, refused.0, refused.1))
cause_of table limit word operands Name refused = inr (inr refused)
cause_of table limit word operands Kind refused = inr (inr refused)
cause_of table limit word operands Hex refused = inr (inr refused)
cause_of table limit word operands Long refused = inr (inr refused)
cause_of table limit word operands Number refused = inr (inr refused)

none_some : {A : Type 0} (o : Option A) (x : A) → o ≡ None → o ≡ Some x → ⊥
none_some o x none some = let e = sym none ∙ some in cc

not_caused : (table : List Form) (limit : ℕ) (word : List ℕ) (operands : List (List ℕ)) (said : List Said) (f : Form) (why : LineWhy) → form_at table word (length operands) ≡ Some f → SaysAll limit f.fields operands said
    → IsCause table limit word operands why → ⊥
not_caused table limit word operands said f why found says (inl none) = contrary (list_any (has_word word) table) (found_has table word (length operands) f found) none.1
not_caused table limit word operands said f why found says (inr (inl none)) = none_some (form_at table word (length operands)) f none.2 found
not_caused table limit word operands said f why found says (inr (inr bad)) =
    let same : f ≡ bad.form = one_form table word word (length operands) (length operands) f bad.form refl refl found bad.found in
    stands_all limit bad.form.fields operands said why (subst (λ (f : Form). SaysAll limit f.fields operands said) same says) bad.first.here

no_cause : (table : List Form) (limit : ℕ) (words : List (List ℕ)) (one : Row) (why : LineWhy) → Spells table limit words one → Refuses table limit words why → ⊥
no_cause table limit words one why s refused =
    not_caused table limit one.word s.operands one.said s.form why s.found s.says
    (cause_of table limit one.word s.operands why (subst (λ (words : List (List ℕ)). Refuses table limit words why) s.words_are refused))

pub one_line : OneLine
one_line table limit words one spells = (λ other also. one_row table limit words one other spells also, λ why refused. no_cause table limit words one why spells refused)

-- Words are refused for one cause.

why_at : ℕ → LineWhy
why_at n = cond (n == 0) Unknown (cond (n == 1) Words (cond (n == 2) Name (cond (n == 3) Kind (cond (n == 4) Hex (cond (n == 5) Long Number)))))

why_back : (why : LineWhy) → why_at (rank why) ≡ why
unfolding why_at
why_back Unknown = refl
why_back Words = refl
why_back Name = refl
why_back Kind = refl
why_back Hex = refl
why_back Long = refl
why_back Number = refl

by_rank : (a b : LineWhy) → rank a ≡ rank b → a ≡ b
by_rank a b same = sym (why_back a) ∙ ap why_at same ∙ why_back b

neither : (a b : ℕ) → (a < b → ⊥) → (b < a → ⊥) → a ≡ b
neither a b less more = omega arith

one_first_fault : (limit : ℕ) (fields : List Field) (words : List (List ℕ)) (a b : LineWhy) → IsFirstFault limit fields words a → IsFirstFault limit fields words b → a ≡ b
one_first_fault limit fields words a b one two = by_rank a b (neither (rank a) (rank b) (λ less. two.none_before a less one.here) (λ less. one.none_before b less two.here))

same_cause : (table : List Form) (limit : ℕ) (word : List ℕ) (operands : List (List ℕ)) (a b : LineWhy) → IsCause table limit word operands a → IsCause table limit word operands b → a ≡ b
same_cause table limit word operands a b (inl one) (inl two) = one.0 ∙ sym two.0
same_cause table limit word operands a b (inl one) (inr (inl two)) = absurd (contrary (list_any (has_word word) table) two.1 one.1)
same_cause table limit word operands a b (inl one) (inr (inr two)) = absurd (contrary (list_any (has_word word) table) (found_has table word (length operands) two.form two.found) one.1)
same_cause table limit word operands a b (inr (inl one)) (inl two) = absurd (contrary (list_any (has_word word) table) one.1 two.1)
same_cause table limit word operands a b (inr (inl one)) (inr (inl two)) = one.0 ∙ sym two.0
same_cause table limit word operands a b (inr (inl one)) (inr (inr two)) = absurd (none_some (form_at table word (length operands)) two.form one.2 two.found)
same_cause table limit word operands a b (inr (inr one)) (inl two) = absurd (contrary (list_any (has_word word) table) (found_has table word (length operands) one.form one.found) two.1)
same_cause table limit word operands a b (inr (inr one)) (inr (inl two)) = absurd (none_some (form_at table word (length operands)) one.form two.2 one.found)
same_cause table limit word operands a b (inr (inr one)) (inr (inr two)) =
    let same : one.form ≡ two.form = one_form table word word (length operands) (length operands) one.form two.form refl refl one.found two.found in
    one_first_fault limit two.form.fields operands a b (subst (λ (f : Form). IsFirstFault limit f.fields operands a) same one.first) two.first

pub one_cause : OneCause
one_cause table limit [] a b one two = absurd one
one_cause table limit (word ∷ operands) a b one two = same_cause table limit word operands a b (cause_of table limit word operands a one) (cause_of table limit word operands b two)

-- A script.

joined : (a b : Row) (xs ys : List Row) → a ≡ b → xs ≡ ys → a ∷ xs ≡ b ∷ ys
joined a b xs ys first rest = cc

same_lines : (table : List Form) (limit : ℕ) (texts : List (List ℕ)) (xs ys : List Row) → SpellsAll table limit texts xs → SpellsAll table limit texts ys → ys ≡ xs
same_lines table limit [] [] [] one other = refl
same_lines table limit [] [] (b ∷ ys) one other = absurd other
same_lines table limit [] (a ∷ xs) ys one other = absurd one
same_lines table limit (text ∷ texts) [] ys one other = absurd one
same_lines table limit (text ∷ texts) (a ∷ xs) [] one other = absurd other
same_lines table limit (text ∷ texts) (a ∷ xs) (b ∷ ys) one other =
    joined b a ys xs (one_row table limit (parts 32 text) a b one.0 other.0) (same_lines table limit texts xs ys one.1 other.1)

by_skip : (table : List Form) (limit : ℕ) (text : List ℕ) (texts : List (List ℕ)) (rows : List Row) (n : ℕ) (why : LineWhy) (skip : Bool) → is_skipped text ≡ skip → SpellsAll table limit (cond (not skip) (text ∷ spoken texts) (spoken texts)) rows
    → FirstRefused table limit (text ∷ texts) n why → ((rows : List Row) (n : ℕ) (why : LineWhy) → SpellsAll table limit (spoken texts) rows → FirstRefused table limit texts n why → ⊥) → ⊥
by_skip table limit text texts rows n why true skip spells (inl bad) next = contrary (is_skipped text) skip bad.1.0
by_skip table limit text texts rows n why true skip spells (inr bad) next = next rows bad.1.0 why spells bad.1.2
by_skip table limit text texts [] n why false skip spells refused next = absurd spells
by_skip table limit text texts (row ∷ rows) n why false skip spells (inl bad) next = no_cause table limit (parts 32 text) row why spells.0 bad.1.1
by_skip table limit text texts (row ∷ rows) n why false skip spells (inr bad) next = next rows bad.1.0 why spells.1 bad.1.2

not_refused : (table : List Form) (limit : ℕ) (texts : List (List ℕ)) (rows : List Row) (n : ℕ) (why : LineWhy) → SpellsAll table limit (spoken texts) rows → FirstRefused table limit texts n why → ⊥
not_refused table limit [] rows n why spells refused = absurd refused
not_refused table limit (text ∷ texts) rows n why spells refused =
    by_skip table limit text texts rows n why (is_skipped text) refl spells refused (λ rows n why spells refused. not_refused table limit texts rows n why spells refused)

pub one_script : OneScript
one_script table limit text rows is = (λ other spells. same_lines table limit (spoken (parts 10 text)) rows other is spells, λ n why refused. not_refused table limit (parts 10 text) rows n why is refused)

-- what is fine is not refused
fine_stands : (table : List Form) (limit : ℕ) (text : List ℕ) (why : LineWhy) → IsFine table limit text → IsRefused table limit text why → ⊥
fine_stands table limit text why (inl skip) refused = contrary (is_skipped text) skip refused.0
fine_stands table limit text why (inr is) refused = no_cause table limit (parts 32 text) is.0 why is.1 refused.1

one_first : (table : List Form) (limit : ℕ) (texts : List (List ℕ)) (n m : ℕ) (why other : LineWhy) → FirstRefused table limit texts n why → FirstRefused table limit texts m other → (n ≡ m) × (why ≡ other)
one_first table limit [] n m why other one two = absurd one
one_first table limit (text ∷ texts) n m why other (inl one) (inl two) = (one.0 ∙ sym two.0, one_cause table limit (parts 32 text) why other one.1.1 two.1.1)
one_first table limit (text ∷ texts) n m why other (inl one) (inr two) = absurd (fine_stands table limit text why two.0 one.1)
one_first table limit (text ∷ texts) n m why other (inr one) (inl two) = absurd (fine_stands table limit text other one.0 two.1)
one_first table limit (text ∷ texts) n m why other (inr one) (inr two) =
    let rest = one_first table limit texts one.1.0 two.1.0 why other one.1.2 two.1.2 in
    (one.1.1 ∙ ap (λ (k : ℕ). 1 + k) rest.0 ∙ sym two.1.1, rest.1)

pub one_refusal : OneRefusal
one_refusal table limit text n m why other one two = one_first table limit (parts 10 text) n m why other one two

-- A line on settings from what it says.

two_texts : (List ℕ → List ℕ → Line) → List Said → Option Line
two_texts make (name text ∷ bytes value ∷ []) = Some (make text value)
two_texts make said = None

text_alone : (List ℕ → Line) → List Said → Option Line
text_alone make (name text ∷ []) = Some (make text)
text_alone make said = None

text_and_kind : List Said → Option Line
text_and_kind (name text ∷ kind k ∷ []) = Some (Register text k)
text_and_kind said = None

maybe_text : (Option (List ℕ) → Line) → List Said → Option Line
maybe_text make [] = Some (make None)
maybe_text make (name text ∷ []) = Some (make (Some text))
maybe_text make said = None

count_alone : List Said → Option Line
count_alone (number n ∷ []) = Some (Cut n)
count_alone said = None

line_of : Row → Option Line
line_of r =
    cond (bytes_eq r.word (codes "set")) (two_texts (λ t v. Set t v) r.said)
    (cond (bytes_eq r.word (codes "get")) (text_alone (λ t. Get t) r.said)
    (cond (bytes_eq r.word (codes "del")) (text_alone (λ t. Del t) r.said)
    (cond (bytes_eq r.word (codes "register")) (text_and_kind r.said)
    (cond (bytes_eq r.word (codes "load")) (maybe_text (λ s. Load s) r.said)
    (cond (bytes_eq r.word (codes "direct")) (maybe_text (λ s. Direct s) r.said)
    (cond (bytes_eq r.word (codes "save")) (maybe_text (λ s. Save s) r.said)
    (cond (bytes_eq r.word (codes "commit")) (Some Commit)
    (cond (bytes_eq r.word (codes "rset")) (two_texts (λ t v. RunSet t v) r.said)
    (cond (bytes_eq r.word (codes "rget")) (text_alone (λ t. RunGet t) r.said)
    (cond (bytes_eq r.word (codes "names")) (Some Names)
    (cond (bytes_eq r.word (codes "mount")) (Some Mount)
    (cond (bytes_eq r.word (codes "cut")) (count_alone r.said)
    (cond (bytes_eq r.word (codes "uncut")) (Some Uncut)
    (Some Migrate))))))))))))))

line_back : (line : Line) → line_of (row_of line) ≡ Some line
unfolding line_of two_texts text_alone text_and_kind maybe_text count_alone
line_back (Set text value) = refl
line_back (Get text) = refl
line_back (Del text) = refl
line_back (Register subtree k) = refl
line_back (Load None) = refl
line_back (Load (Some text)) = refl
line_back (Direct None) = refl
line_back (Direct (Some text)) = refl
line_back (Save None) = refl
line_back (Save (Some text)) = refl
line_back Commit = refl
line_back (RunSet text value) = refl
line_back (RunGet text) = refl
line_back Names = refl
line_back Mount = refl
line_back (Cut units) = refl
line_back Uncut = refl
line_back Migrate = refl

some_same : (a b : Line) → Some a ≡ Some b → a ≡ b
some_same a b e = cc

pub one_meaning : OneMeaning
one_meaning one other same = some_same one other (sym (line_back one) ∙ ap line_of same ∙ line_back other)
