-- A name that matches a key has the key's bytes in front, and a slash or nothing behind them.
use Rattle.std.proofs.Common.{◌≡◌, ℕ, ◌≤◌, Bool, true, false, cond, List, [], ◌∷◌, ◌++◌, length, drop, Option, Some, None, Bor, ◌⊎◌, inl, inr, refl, sym, ◌∙◌, ap, length-append, arith, ne_eqb, eqb-true, eq-eqb}
use Rattle.std.proofs.lemmas.List.{append-nil}
use Rattle.std.specs.List.{All, starts_with, join_with_byte}
use Rattle.std.specs.Option.{IfSome, option_copied}
use Rattle.std.specs.Str.{bytes_eq}
use Rattle.std.proofs.lemmas.Slice.Eq.{starts_is, bytes_eq-Decides}
use Rattle.std.proofs.lemmas.List.Prefix.{front_rest}
use Rattle.std.proofs.lemmas.List.Elements.{All-head, All-drop, All-same}
use Rattle.setting_name.specs.Name.{is_slash, parts_of, HasWholeParts}
use Rattle.setting_name.specs.Match.{Matches, matched_rest, joined_text, rest_behind}
use Rattle.setting_name.proofs.Lacks.{IsWhole}
use Rattle.setting_name.proofs.Joins.{length-parts_of, parts_of-joined, join_with_byte-append, join-parts_of}

-- the parts of the key come first
abbrev starts : List ℕ → List ℕ → Bool
starts name key = starts_with bytes_eq (parts_of name) (parts_of key)

starts-parts : (name key : List ℕ) (others : List (List ℕ)) → parts_of name ≡ parts_of key ++ others → starts name key ≡ true
starts-parts name key others same = (starts_is bytes_eq-Decides (parts_of name) (parts_of key) (starts name key) refl).1 others same

parts-starts : (name key : List ℕ) → starts name key ≡ true → parts_of name ≡ parts_of key ++ drop (length (parts_of key)) (parts_of name)
parts-starts name key first = (starts_is bytes_eq-Decides (parts_of name) (parts_of key) (starts name key) refl).0 first

pub matched_rest-parts : (name key : List ℕ) (others : List (List ℕ)) → parts_of name ≡ parts_of key ++ others → matched_rest name key ≡ Some (join_with_byte 0x2F others)
unfolding matched_rest
matched_rest-parts name key others same =
    let rest = join_with_byte 0x2F (drop (length (parts_of key)) (parts_of name)) in
    ap (λ b. cond b (Some rest) None) (starts-parts name key others same)
    ∙ ap (λ parts. Some (join_with_byte 0x2F parts)) (front_rest (parts_of name) (parts_of key) others same)

some_cases : (b : Bool) (x rest : List ℕ) → cond b (Some x) None ≡ Some rest → (b ≡ true) × (rest ≡ x)
some_cases true x rest found = (refl, cc)
some_cases false x rest found = absurd (cc)

pub Matches-matched_rest : (name key rest : List ℕ) → matched_rest name key ≡ Some rest → Matches name key rest
unfolding matched_rest
Matches-matched_rest name key rest found =
    let both = some_cases (starts name key) (join_with_byte 0x2F (drop (length (parts_of key)) (parts_of name))) rest found in
    record { others = drop (length (parts_of key)) (parts_of name); parts = parts-starts name key both.0; joined = both.1 }

pub matched_rest-Matches : (name key rest : List ℕ) → Matches name key rest → matched_rest name key ≡ Some rest
matched_rest-Matches name key rest m = matched_rest-parts name key m.others m.parts ∙ ap (λ text. Some text) (sym m.joined)

pub matched_rest-none : (name key : List ℕ) → ((rest : List ℕ) → matched_rest name key ≡ Some rest → ⊥) → matched_rest name key ≡ None
matched_rest-none name key never = never_some (matched_rest name key) never
  where
    never_some : (found : Option (List ℕ)) → ((rest : List ℕ) → found ≡ Some rest → ⊥) → found ≡ None
    never_some None never' = refl
    never_some (Some rest) never' = absurd (never' rest refl)

-- the parts of the key and the others, joined: the key itself, or the key, a slash and the rest
pub text_of_parts : (name key : List ℕ) (others : List (List ℕ)) → parts_of name ≡ parts_of key ++ others
    → ((name ≡ key) × (others ≡ [])) ⊎ (name ≡ key ++ 0x2F ∷ join_with_byte 0x2F others)
text_of_parts name key [] same =
    inl (sym (join-parts_of name) ∙ ap (join_with_byte 0x2F) (same ∙ append-nil (parts_of key)) ∙ join-parts_of key, refl)
text_of_parts name key (part ∷ parts) same =
    inr (sym (join-parts_of name) ∙ ap (join_with_byte 0x2F) same ∙ join_with_byte-append (parts_of key) part parts (length-parts_of key)
    ∙ ap (λ text. text ++ 0x2F ∷ join_with_byte 0x2F (part ∷ parts)) (join-parts_of key))

-- the name itself as the key
pub matched_rest-same : (key : List ℕ) → matched_rest key key ≡ Some []
matched_rest-same key = matched_rest-parts key key [] (sym (append-nil (parts_of key)))

pub matched_rest-joined : (key rest : List ℕ) → matched_rest (key ++ 0x2F ∷ rest) key ≡ Some rest
matched_rest-joined key rest =
    matched_rest-parts (key ++ 0x2F ∷ rest) key (parts_of rest) (parts_of-joined key rest) ∙ ap (λ text. Some text) (join-parts_of rest)

other_text : {A : Type 0} (key left : List ℕ) (byte : ℕ) (rest : List ℕ) → is_slash byte ≡ false
    → ((key ++ byte ∷ left ≡ key) × A) ⊎ (key ++ byte ∷ left ≡ key ++ 0x2F ∷ rest) → ⊥
other_text key left byte rest other (inl same) = omega (arith, ap length same.0, length-append key (byte ∷ left))
other_text key left byte rest other (inr longer) =
    let behind : byte ∷ left ≡ 0x2F ∷ rest =
    sym (front_rest (key ++ byte ∷ left) key (byte ∷ left) refl) ∙ front_rest (key ++ byte ∷ left) key (0x2F ∷ rest) longer in
    let slash : byte ≡ 0x2F = cc in
    let is : is_slash byte ≡ true = eq-eqb byte 0x2F slash in
    let both : true ≡ false = sym is ∙ other in
    cc

-- a byte that is no slash behind the key's bytes
other_byte : (key left : List ℕ) (byte : ℕ) → is_slash byte ≡ false → matched_rest (key ++ byte ∷ left) key ≡ None
other_byte key left byte other =
    matched_rest-none (key ++ byte ∷ left) key (λ rest found.
    let m = Matches-matched_rest (key ++ byte ∷ left) key rest found in
    other_text key left byte (join_with_byte 0x2F m.others) other (text_of_parts (key ++ byte ∷ left) key m.others m.parts))

pub matched_rest-prefix : (key left : List ℕ) → matched_rest (key ++ left) key ≡ rest_behind left
matched_rest-prefix key [] = ap (λ name. matched_rest name key) (append-nil key) ∙ matched_rest-same key
matched_rest-prefix key (byte ∷ left) = at_byte (is_slash byte) refl
  where
    at_byte : (b : Bool) → is_slash byte ≡ b → matched_rest (key ++ byte ∷ left) key ≡ cond b (Some left) None
    at_byte true is = ap (λ x. matched_rest (key ++ x ∷ left) key) (eqb-true byte 0x2F is) ∙ matched_rest-joined key left
    at_byte false is = other_byte key left byte is

apart_text : {A : Type 0} (name key rest : List ℕ) → ((left : List ℕ) → name ≡ key ++ left → ⊥)
    → ((name ≡ key) × A) ⊎ (name ≡ key ++ 0x2F ∷ rest) → ⊥
apart_text name key rest apart (inl same) = apart [] (same.0 ∙ sym (append-nil key))
apart_text name key rest apart (inr longer) = apart (0x2F ∷ rest) longer

pub matched_rest-apart : (name key : List ℕ) → ((left : List ℕ) → name ≡ key ++ left → ⊥) → matched_rest name key ≡ None
matched_rest-apart name key apart =
    matched_rest-none name key (λ rest found.
    let m = Matches-matched_rest name key rest found in
    apart_text name key (join_with_byte 0x2F m.others) apart (text_of_parts name key m.others m.parts))

pub joined_text-nil : (key rest : List ℕ) → length rest ≡ 0 → joined_text key rest ≡ key
unfolding joined_text
joined_text-nil key rest none = ap (λ b. cond b key (key ++ 0x2F ∷ rest)) (eq-eqb (length rest) 0 none)

pub joined_text-some : (key rest : List ℕ) → 1 ≤ length rest → joined_text key rest ≡ key ++ 0x2F ∷ rest
unfolding joined_text
joined_text-some key rest some = ap (λ b. cond b key (key ++ 0x2F ∷ rest)) (ne_eqb (length rest) 0 (λ same. omega arith))

joined_text-cons : (key rest : List ℕ) (byte : ℕ) → joined_text key (byte ∷ rest) ≡ key ++ 0x2F ∷ byte ∷ rest
joined_text-cons key rest byte = joined_text-some key (byte ∷ rest) (omega arith)

-- a key joined with a rest
pub matched_rest-joined_text : (key rest : List ℕ) → matched_rest (joined_text key rest) key ≡ Some rest
unfolding joined_text
matched_rest-joined_text key [] = matched_rest-same key
matched_rest-joined_text key (byte ∷ rest) = ap (λ name. matched_rest name key) (joined_text-cons key rest byte) ∙ matched_rest-joined key (byte ∷ rest)

-- a slash at a text's end has an empty part behind it
open_end : (name key : List ℕ) → HasWholeParts name → name ≡ key ++ 0x2F ∷ [] → ⊥
open_end name key whole same =
    let last : drop (length (parts_of key)) (parts_of name) ≡ [] ∷ [] =
    front_rest (parts_of name) (parts_of key) (parts_of []) (ap parts_of same ∙ parts_of-joined key []) in
    let behind : All IsWhole (drop (length (parts_of key)) (parts_of name)) = All-drop IsWhole (length (parts_of key)) (parts_of name) whole in
    let empty : 1 ≤ length {A = ℕ} [] = All-head IsWhole [] [] (All-same IsWhole ([] ∷ []) (drop (length (parts_of key)) (parts_of name)) (sym last) behind) in
    omega arith

text_of_match : (name key rest : List ℕ) (others : List (List ℕ)) → HasWholeParts name → rest ≡ join_with_byte 0x2F others
    → ((name ≡ key) × (others ≡ [])) ⊎ (name ≡ key ++ 0x2F ∷ join_with_byte 0x2F others) → name ≡ joined_text key rest
unfolding joined_text
text_of_match name key [] others whole joined (inl same) = same.0
text_of_match name key [] others whole joined (inr longer) = absurd (open_end name key whole (longer ∙ ap (λ text. key ++ 0x2F ∷ text) (sym joined)))
text_of_match name key (byte ∷ rest) others whole joined (inl same) =
    absurd (let none : byte ∷ rest ≡ [] = joined ∙ ap (join_with_byte 0x2F) same.1 in cc)
text_of_match name key (byte ∷ rest) others whole joined (inr longer) =
    longer ∙ ap (λ text. key ++ 0x2F ∷ text) (sym joined) ∙ sym (joined_text-cons key rest byte)

-- no part of a name is empty, so an empty rest has no part
pub joined_text-match : (name key rest : List ℕ) → HasWholeParts name → matched_rest name key ≡ Some rest → name ≡ joined_text key rest
joined_text-match name key rest whole found =
    let m = Matches-matched_rest name key rest found in
    text_of_match name key rest m.others whole m.joined (text_of_parts name key m.others m.parts)

-- the same of what a call answers
pub answer_joins : (name key : List ℕ) (answer : Option (Bor (List ℕ))) → HasWholeParts name → option_copied answer ≡ matched_rest name key
    → IfSome answer (λ rest. name ≡ joined_text key rest.now)
answer_joins name key None whole found = tt
answer_joins name key (Some rest) whole found = joined_text-match name key rest.now whole (sym found)
