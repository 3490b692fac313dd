-- The object of all names.
use Rattle.std.proofs.Common.{◌≡◌, ℕ, ◌+◌, ◌<◌, ◌≤◌, true, false, List, [], ◌∷◌, ◌++◌, length, take, drop, get_or, IfOk, Result, Ok, Err, String, Global, Less, Greater, string_bytes, codes, add-one, refl, sym, ◌∙◌, ap, inl, inr, ◌⊎◌, arith, rules}
use Rattle.std.specs.Ordering.{nat_cmp, ordering_reverse}
use Rattle.std.specs.Cmp.Lexicographic.{slice_cmp}
use Rattle.std.specs.Str.{IsUtf8}
use Rattle.std.specs.List.{All, list_all}
use Rattle.std.proofs.lemmas.Bool.{cases_lt}
use Rattle.std.proofs.lemmas.Bool.Decides.{nat_tests}
use Rattle.std.proofs.lemmas.Cmp.{nat_list_cmp_total}
use Rattle.std.proofs.lemmas.List.{take-append-drop, get_or_past, take_more}
use Rattle.std.proofs.lemmas.Str.{IsUtf8-from_ascii}
use Rattle.std.proofs.lemmas.List.Sums.{AllPass-from_list_all}
use Rattle.std.proofs.Math.Seq.{drop-cons, take-length}
use Rattle.hex.specs.Hex.{encode_lower}
use Rattle.setting_name.specs.Name.{IsName}
use Rattle.setting_name.proofs.KeyLemmas.{name_bytes}
use Rattle.serde_json.specs.Data.{Data, Members, string, object, no_members, member, put}
use Rattle.serde_json.specs.Written.{compact_text, members_have_float}
use Rattle.serde_json.specs.View.{view}
use Rattle.serde_json.specs.declared.value.Value as value
use Rattle.script_lines.specs.declared.lists.Pair.{Pair}
use Rattle.image_file.specs.Lawful.{is_label_byte, IsLabel}
use Rattle.script_lines.specs.Answer.{names_members, names_object, Rise}

-- Text of names and labels is ASCII.

name_byte : (text : List ℕ) (i : ℕ) → All (λ byte. (0x21 ≤ byte) × (byte ≤ 0x7E) × (byte ≡ 0x3D → ⊥)) text → (i < length text) ⊎ (length text ≤ i) → get_or text i 0 < 128
name_byte text i all (inl within) = let at = all i 0 within in omega (arith, at.1)
name_byte text i all (inr past) = let e = get_or_past text i 0 past in omega arith

pub name_is_text : (text : List ℕ) → IsName text → IsUtf8 text
name_is_text text name = IsUtf8-from_ascii text (λ i. name_byte text i (name_bytes text name.bytes) (cases_lt i (length text)))

label_byte : (b : ℕ) → is_label_byte b ≡ true → b < 128
label_byte b is = grind (arith, nat_tests)

plain_at : (text : List ℕ) (i : ℕ) → list_all is_label_byte text ≡ true → (i < length text) ⊎ (length text ≤ i) → get_or text i 0 < 128
plain_at text i each (inl within) = label_byte (get_or text i 0) (AllPass-from_list_all is_label_byte text each i 0 within)
plain_at text i each (inr past) = let e = get_or_past text i 0 past in omega arith

-- letters and digits are text
pub plain_text : (text : List ℕ) → list_all is_label_byte text ≡ true → IsUtf8 text
plain_text text each = IsUtf8-from_ascii text (λ i. plain_at text i each (cases_lt i (length text)))

pub label_is_text : (text : List ℕ) → IsLabel text → IsUtf8 text
label_is_text text label = plain_text text label.each

-- Names that rise are put in their order.

rise_tail : (pair : Pair) (pairs : List Pair) → Rise (pair ∷ pairs) → Rise pairs
rise_tail pair [] rise = tt
rise_tail pair (next ∷ pairs) rise = rise.1

first_below : (first : Pair) (done : List Pair) (pair : Pair) (more : List Pair) → Rise (first ∷ (done ++ pair ∷ more)) → slice_cmp nat_cmp first.name pair.name ≡ Less
first_below first [] pair more rise = rise.0
first_below first (next ∷ done) pair more rise = nat_list_cmp_total.trans first.name next.name pair.name rise.0 (first_below next done pair more rise.1)

put_last : (done : List Pair) (pair : Pair) (more : List Pair) → Rise (done ++ pair ∷ more) → put pair.name (string (encode_lower pair.value)) (names_members done) ≡ names_members (done ++ pair ∷ [])
put_last [] pair more rise = refl
put_last (first ∷ done) pair more rise =
    let above : slice_cmp nat_cmp pair.name first.name ≡ Greater = nat_list_cmp_total.antisymm pair.name first.name ∙ ap ordering_reverse (first_below first done pair more rise) in
    rw above (ap (member first.name (string (encode_lower first.value))) (put_last done pair more (rise_tail first (done ++ pair ∷ more) rise)))

split_at : (pairs : List Pair) (i : ℕ) (pair : Pair) → i < length pairs → pair ≡ get_or pairs i pair → take i pairs ++ pair ∷ drop (i + 1) pairs ≡ pairs
split_at pairs i pair within at =
    let e : get_or pairs i pair ∷ drop (i + 1) pairs ≡ drop i pairs = rw add-one (sym (drop-cons pairs i pair within)) in
    ap (λ (p : Pair). take i pairs ++ p ∷ drop (i + 1) pairs) at ∙ ap (λ (more : List Pair). take i pairs ++ more) e ∙ take-append-drop i pairs

pub names_more : (pairs : List Pair) (i : ℕ) (pair : Pair) (old new : Members) → Rise pairs → i < length pairs → pair ≡ get_or pairs i pair → old ≡ names_members (take i pairs) → new ≡ put pair.name (string (encode_lower pair.value)) old
    → new ≡ names_members (take (i + 1) pairs)
names_more pairs i pair old new rise within at so_far puts =
    let whole = split_at pairs i pair within at in
    let rises : Rise (take i pairs ++ pair ∷ drop (i + 1) pairs) = rw whole rise in
    let last : take i pairs ++ pair ∷ [] ≡ take (i + 1) pairs = ap (λ (p : Pair). take i pairs ++ p ∷ []) at ∙ sym (take_more pairs i pair within) in
    puts ∙ ap (put pair.name (string (encode_lower pair.value))) so_far ∙ put_last (take i pairs) pair (drop (i + 1) pairs) rises ∙ ap names_members last

pub names_whole : (pairs : List Pair) (i : ℕ) (old : Members) → length pairs ≤ i → i ≤ length pairs → old ≡ names_members (take i pairs) → old ≡ names_members pairs
names_whole pairs i old past within so_far =
    let e : i ≡ length pairs = omega arith in
    so_far ∙ ap (λ (n : ℕ). names_members (take n pairs)) e ∙ ap names_members (take-length pairs)

-- The whole object.

pub no_float : (pairs : List Pair) → members_have_float (names_members pairs) ≡ false
no_float [] = refl
no_float (pair ∷ pairs) = no_float pairs

pub view-String : (s : String Global) → view (value.String s) ≡ string (string_bytes s)
view-String s = search (rules, value.the_lemmas)

pub whole_object : (active label : List ℕ) (pairs : List Pair) (names one two : Members) (named : Data) → label ≡ active → names ≡ names_members pairs → named ≡ object names → one ≡ put (codes "active") (string label) no_members
    → two ≡ put (codes "names") named one → two ≡ member (codes "active") (string active) (member (codes "names") (object (names_members pairs)) no_members)
whole_object active label pairs names one two named labels are named_is first second =
    second ∙ ap (λ (d : Data). put (codes "names") d one) (named_is ∙ ap object are) ∙ ap (put (codes "names") (object (names_members pairs))) (first ∙ ap (λ (text : List ℕ). put (codes "active") (string text) no_members) labels)

pub reported_object : {E : Type 0} (active : List ℕ) (pairs : List Pair) (members : Members) (r : Result (String Global) E) → members ≡ member (codes "active") (string active) (member (codes "names") (object (names_members pairs)) no_members)
    → IfOk r (λ text. members_have_float members ≡ false → string_bytes text ≡ compact_text (object members)) → IfOk r (λ text. string_bytes text ≡ compact_text (names_object active pairs))
reported_object active pairs ms (Ok text) are spoken =
    spoken (ap members_have_float are ∙ no_float_within active pairs) ∙ ap (λ (m : Members). compact_text (object m)) are where
      no_float_within : (active : List ℕ) (pairs : List Pair) → members_have_float (member (codes "active") (string active) (member (codes "names") (object (names_members pairs)) no_members)) ≡ false
      no_float_within active pairs = rw (no_float pairs)
reported_object active pairs ms (Err e) are spoken = tt
