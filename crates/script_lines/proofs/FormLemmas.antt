-- Lines by their forms.
use Rattle.std.proofs.Common.{◌≡◌, ◌≢◌, ℕ, ◌<◌, ◌==◌, true, false, cond, Some, None, Option, Result, Ok, Err, List, [], ◌∷◌, length, refl, sym, ◌∙◌, ap, subst, arith}
use Rattle.std.specs.List.{list_any}
use Rattle.std.proofs.lemmas.Bool.Decides.{nat_tests}
use Rattle.script_lines.specs.declared.line.Line.{Line}
use Rattle.script_lines.specs.declared.why.LineWhy.{LineWhy}
use Rattle.script_lines.specs.declared.why.LineFault.{LineFault}
use Rattle.script_lines.specs.declared.why.LineFault.TheVariants.{Refused, NoMemory}
use Rattle.script_lines.specs.declared.why.LineWhy.TheVariants.{Unknown, Words, Name, Kind, Hex, Long, Number}
use Rattle.script_lines.specs.Forms.{Field, Form, Said, Row, SaysAll, has_word, form_at, Spells, IsFirstFault, IsRefusedBehind, Refuses, RefusesFields, ReadsFields, ReadsRow, ReadsNameOrNothing, form, row}
use Rattle.script_lines.specs.Forms.Field.{a_name}
use Rattle.script_lines.specs.Forms.Said.{name}
use Rattle.script_lines.specs.Line.{one_name, settings_forms, row_of, ReadsLine}

not_equal : (k n : ℕ) → n ≢ k → (k == n) ≡ false
not_equal k n differs = grind (arith, nat_tests)

-- no form at another number of words
pub not_at : {A : Type 0} (k n : ℕ) (x : A) (z : Option A) → n ≢ k → cond (k == n) (Some x) z ≡ z
not_at k n x z differs = rw (not_equal k n differs)

pub says_length : (limit : ℕ) (fields : List Field) (operands : List (List ℕ)) (said : List Said) → SaysAll limit fields operands said → length operands ≡ length fields
says_length limit [] [] [] says = refl
says_length limit [] [] (x ∷ said) says = absurd says
says_length limit [] (word ∷ operands) said says = absurd says
says_length limit (field ∷ fields) [] said says = absurd says
says_length limit (field ∷ fields) (word ∷ operands) [] says = absurd says
says_length limit (field ∷ fields) (word ∷ operands) (x ∷ said) says = omega (arith, says_length limit fields operands said says.1)

-- how the words behind a first word are read, where the table has one form for it
pub record IsOnlyForm (table : List Form) (word : List ℕ) (fields : List Field) : Type 0 where
  pub has : list_any (has_word word) table ≡ true
  pub there : form_at table word (length fields) ≡ Some (form word fields)
  pub others : (n : ℕ) → n ≢ length fields → form_at table word n ≡ None

pub spelled : (table : List Form) (limit : ℕ) (words : List (List ℕ)) (first word : List ℕ) (operands : List (List ℕ)) (fields : List Field) (said : List Said) → words ≡ first ∷ operands → first ≡ word
    → form_at table word (length fields) ≡ Some (form word fields) → SaysAll limit fields operands said → Spells table limit words (row word said)
spelled table limit words first word operands fields said are same there says = record {
  operands = operands;
  form = form word fields;
  words_are = are ∙ ap (λ (word : List ℕ). word ∷ operands) same;
  found = ap (form_at table word) (says_length limit fields operands said says) ∙ there;
  says = says;
}

behind : (table : List Form) (limit : ℕ) (word : List ℕ) (operands : List (List ℕ)) (fields : List Field) (why : LineWhy) → form_at table word (length fields) ≡ Some (form word fields)
    → length operands ≡ length fields → IsFirstFault limit fields operands why → IsRefusedBehind table limit word operands why
behind table limit word operands fields why there count first = record { form = form word fields; found = ap (form_at table word) count ∙ there; first = first }

-- words behind a first word are refused, where the table has these fields for it
pub refused_by : (table : List Form) (limit : ℕ) (word : List ℕ) (operands : List (List ℕ)) (fields : List Field) (why : LineWhy) → list_any (has_word word) table ≡ true
    → form_at table word (length fields) ≡ Some (form word fields) → (length operands ≢ length fields → form_at table word (length operands) ≡ None) → RefusesFields limit fields operands why → Refuses table limit (word ∷ operands) why
refused_by table limit word operands fields Unknown has there others refused = absurd refused
refused_by table limit word operands fields Words has there others refused = (has, others refused)
refused_by table limit word operands fields Name has there others refused = behind table limit word operands fields Name there refused.0 refused.1
refused_by table limit word operands fields Kind has there others refused = behind table limit word operands fields Kind there refused.0 refused.1
refused_by table limit word operands fields Hex has there others refused = behind table limit word operands fields Hex there refused.0 refused.1
refused_by table limit word operands fields Long has there others refused = behind table limit word operands fields Long there refused.0 refused.1
refused_by table limit word operands fields Number has there others refused = behind table limit word operands fields Number there refused.0 refused.1

pub refused_row : {T L : Type 0} (table : List Form) (says : L → Row) (limit : ℕ) (say : T → List Said) (words : List (List ℕ)) (first word : List ℕ) (operands : List (List ℕ)) (fields : List Field) (e : LineFault)
    → words ≡ first ∷ operands → first ≡ word → IsOnlyForm table word fields → ReadsFields limit fields say operands (Err e) → ReadsRow table says limit words (Err e)
refused_row table says limit say words first word operands fields (Refused why) are same only reads =
    subst (λ (words : List (List ℕ)). Refuses table limit words why) (sym (are ∙ ap (λ (word : List ℕ). word ∷ operands) same))
    (refused_by table limit word operands fields why only.has only.there (only.others (length operands)) reads)
refused_row table says limit say words first word operands fields NoMemory are same only reads = tt

-- the table has a word alone and before a name
pub record IsMaybeName (table : List Form) (word : List ℕ) : Type 0 where
  pub has : list_any (has_word word) table ≡ true
  pub alone : form_at table word 0 ≡ Some (form word [])
  pub before : form_at table word 1 ≡ Some (form word (a_name ∷ []))
  pub others : (n : ℕ) → 1 < n → form_at table word n ≡ None

pub spelled_maybe : (table : List Form) (limit : ℕ) (words : List (List ℕ)) (first word : List ℕ) (operands : List (List ℕ)) (subtree : Option (List ℕ)) → words ≡ first ∷ operands → first ≡ word
    → IsMaybeName table word → ReadsNameOrNothing limit operands (Ok subtree) → Spells table limit words (row word (one_name subtree))
spelled_maybe table limit words first word operands None are same maybe reads =
    spelled table limit words first word operands [] [] are same maybe.alone (subst (λ (operands : List (List ℕ)). SaysAll limit [] operands []) (sym reads) tt)
spelled_maybe table limit words first word operands (Some text) are same maybe reads =
    spelled table limit words first word operands (a_name ∷ []) (name text ∷ []) are same maybe.before reads

pub maybe_refused : (limit : ℕ) (word : List ℕ) (operands : List (List ℕ)) (e : LineFault) → IsMaybeName settings_forms word → ReadsNameOrNothing limit operands (Err e) → ReadsLine limit (word ∷ operands) (Err e)
maybe_refused limit word operands (Refused Unknown) maybe reads = absurd reads
maybe_refused limit word operands (Refused Words) maybe reads = (maybe.has, maybe.others (length operands) reads)
maybe_refused limit word operands (Refused Name) maybe reads = behind settings_forms limit word operands (a_name ∷ []) Name maybe.before reads.0 reads.1
maybe_refused limit word operands (Refused Kind) maybe reads = behind settings_forms limit word operands (a_name ∷ []) Kind maybe.before reads.0 reads.1
maybe_refused limit word operands (Refused Hex) maybe reads = behind settings_forms limit word operands (a_name ∷ []) Hex maybe.before reads.0 reads.1
maybe_refused limit word operands (Refused Long) maybe reads = behind settings_forms limit word operands (a_name ∷ []) Long maybe.before reads.0 reads.1
maybe_refused limit word operands (Refused Number) maybe reads = behind settings_forms limit word operands (a_name ∷ []) Number maybe.before reads.0 reads.1
maybe_refused limit word operands NoMemory maybe reads = tt

-- A line on settings by the words behind its first one.

pub line_read : (limit : ℕ) (word : List ℕ) (operands : List (List ℕ)) (fields : List Field) (said : List Said) (line : Line) → IsOnlyForm settings_forms word fields → row_of line ≡ row word said → SaysAll limit fields operands said
    → ReadsLine limit (word ∷ operands) (Ok line)
line_read limit word operands fields said line only means says =
    subst (λ (r : Row). Spells settings_forms limit (word ∷ operands) r) (sym means) (spelled settings_forms limit (word ∷ operands) word word operands fields said refl refl only.there says)

pub line_refused : {T : Type 0} (limit : ℕ) (say : T → List Said) (word : List ℕ) (operands : List (List ℕ)) (fields : List Field) (e : LineFault) → IsOnlyForm settings_forms word fields → ReadsFields limit fields say operands (Err e)
    → ReadsLine limit (word ∷ operands) (Err e)
line_refused limit say word operands fields e only reads = refused_row settings_forms row_of limit say (word ∷ operands) word word operands fields e refl refl only reads

pub subtree_read : (limit : ℕ) (word : List ℕ) (operands : List (List ℕ)) (subtree : Option (List ℕ)) (line : Line) → IsMaybeName settings_forms word → row_of line ≡ row word (one_name subtree) → ReadsNameOrNothing limit operands (Ok subtree)
    → ReadsLine limit (word ∷ operands) (Ok line)
subtree_read limit word operands subtree line maybe means reads =
    subst (λ (r : Row). Spells settings_forms limit (word ∷ operands) r) (sym means) (spelled_maybe settings_forms limit (word ∷ operands) word word operands subtree refl refl maybe reads)

pub behind_word : (limit : ℕ) (words : List (List ℕ)) (first word : List ℕ) (operands : List (List ℕ)) (result : Result Line LineFault) → words ≡ first ∷ operands → first ≡ word → ReadsLine limit (word ∷ operands) result → ReadsLine limit words result
behind_word limit words first word operands result are same reads = subst (λ (words : List (List ℕ)). ReadsLine limit words result) (sym (are ∙ ap (λ (word : List ℕ). word ∷ operands) same)) reads

-- a first word that no form has
pub unknown_word : (limit : ℕ) (words : List (List ℕ)) (first : List ℕ) (operands : List (List ℕ)) → words ≡ first ∷ operands → list_any (has_word first) settings_forms ≡ false → ReadsLine limit words (Err (Refused Unknown))
unknown_word limit words first operands are none = subst (λ (words : List (List ℕ)). Refuses settings_forms limit words Unknown) (sym are) none
