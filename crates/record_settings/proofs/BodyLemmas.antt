-- What a body says, both ways, and what one record more does to the settings.
use Rattle.std.proofs.Common.{◌≡◌, ℕ, ◌+◌, ◌<◌, ◌≤◌, Bool, true, false, cond, not, ◌&&◌, nat_lt, nat_le, ◌==◌, List, [], ◌∷◌, ◌++◌, length, take, drop, get_or, Some, None, refl, sym, ap, subst, ◌∙◌, append_assoc, length-append, length-take, arith}
use Rattle.std.specs.List.{All, position_or_len}
use Rattle.std.specs.FinMap.{empty}
use Rattle.std.proofs.lemmas.Bool.{and_parts, and_from, not_from_false, cond-true, eqb-true, ne_eqb, ltb-true, leb-true, lt-ltb, le-leb}
use Rattle.std.proofs.lemmas.List.Elements.{All-head, All-tail, All-weaker}
use Rattle.std.proofs.lemmas.List.Prefix.{front_rest}
use Rattle.std.proofs.lemmas.List.Sums.{fold_push, split_at_first, passes_at_first, take_while-cons}
use Rattle.setting_name.specs.Name.{IsName, is_name}
use Rattle.setting_name.proofs.KeyLemmas.{name_bytes}
use Rattle.setting_name.proofs.NameTest.{is_name-sound, is_name-complete}
use Rattle.record_settings.specs.Settings.{name_in, value_in, setting_of, longest, body_of, with_setting, settings_of}

-- what a body is that gives a name a value, or takes it away
pub record Says (limit : ℕ) (body name value : List ℕ) : Type 0 where
  pub lawful : IsName name
  pub short : length value ≤ limit
  pub is : body ≡ body_of name value
  pub long : length body ≡ length name + 1 + length value
  pub most : length body ≤ longest limit

pub length-body_of : (name value : List ℕ) → length (body_of name value) ≡ length name + 1 + length value
length-body_of name value = length-append name (0x3D ∷ value) ∙ omega arith

-- ---- the body of a name and a value

name_in-body_of : (name value : List ℕ) → All (λ byte. (byte == 0x3D) ≡ false) name → name_in (body_of name value) ≡ name
name_in-body_of [] value apart = take_while-cons (λ byte. not (byte == 0x3D)) 0x3D value
name_in-body_of (byte ∷ rest) value apart =
    let other : (byte == 0x3D) ≡ false = All-head (λ b. (b == 0x3D) ≡ false) byte rest apart in
    take_while-cons (λ b. not (b == 0x3D)) byte (rest ++ 0x3D ∷ value)
    ∙ cond-true (not (byte == 0x3D)) (byte ∷ name_in (rest ++ 0x3D ∷ value)) [] (not_from_false (byte == 0x3D) other)
    ∙ ap (λ text. byte ∷ text) (name_in-body_of rest value (All-tail (λ b. (b == 0x3D) ≡ false) byte rest apart))

rest-body_of : (name value : List ℕ) → drop (length name + 1) (body_of name value) ≡ value
rest-body_of name value =
    let count : length (name ++ 0x3D ∷ []) ≡ length name + 1 = length-append name (0x3D ∷ []) ∙ omega arith in
    ap (λ n. drop n (body_of name value)) (sym count) ∙ front_rest (body_of name value) (name ++ 0x3D ∷ []) value (sym (append_assoc name (0x3D ∷ []) value))

pub no_mark : (name : List ℕ) → IsName name → All (λ byte. (byte == 0x3D) ≡ false) name
no_mark name lawful =
    All-weaker (λ byte. (0x21 ≤ byte) × (byte ≤ 0x7E) × (byte ≡ 0x3D → ⊥)) (λ byte. (byte == 0x3D) ≡ false) (λ byte h. ne_eqb byte 0x3D h.2) name (name_bytes name lawful.bytes)

pub name-body_of : (name value : List ℕ) → IsName name → name_in (body_of name value) ≡ name
name-body_of name value lawful = name_in-body_of name value (no_mark name lawful)

pub value-body_of : (name value : List ℕ) → IsName name → value_in (body_of name value) ≡ value
value-body_of name value lawful =
    ap (λ text. drop (length text + 1) (body_of name value)) (name-body_of name value lawful) ∙ rest-body_of name value

-- A lawful name and at most `limit` bytes are read as they were written.
pub setting-body_of : (limit : ℕ) (name value : List ℕ) → IsName name → length value ≤ limit → setting_of limit (body_of name value) ≡ Some (name, value)
unfolding setting_of
setting-body_of limit name value lawful short =
    let body = body_of name value in
    let named : name_in (body_of name value) ≡ name = name-body_of name value lawful in
    let valued : value_in (body_of name value) ≡ value = value-body_of name value lawful in
    let is : is_name (name_in (body_of name value)) ≡ true = ap is_name named ∙ is_name-complete name lawful in
    let long = length-body_of name value in
    let names = ap length named in
    let values = ap length valued in
    let within : nat_lt (length (name_in (body_of name value))) (length (body_of name value)) ≡ true = lt-ltb (length (name_in (body_of name value))) (length (body_of name value)) (omega arith) in
    let few : nat_le (length (value_in (body_of name value))) limit ≡ true = le-leb (length (value_in (body_of name value))) limit (omega arith) in
    cond-true (is_name (name_in body) && (nat_lt (length (name_in body)) (length body) && nat_le (length (value_in body)) limit)) (Some (name_in body, value_in body)) None
    (and_from (is_name (name_in body)) (nat_lt (length (name_in body)) (length body) && nat_le (length (value_in body)) limit) is
    (and_from (nat_lt (length (name_in body)) (length body)) (nat_le (length (value_in body)) limit) within few))
    ∙ ap (λ text. Some (text, value_in body)) named ∙ ap (λ text. Some (name, text)) valued

-- ---- back

-- a body with a mark is what stands before the first one, the mark, and what stands behind it
body-split : (body : List ℕ) → length (name_in body) < length body → body ≡ body_of (name_in body) (value_in body)
body-split body within =
    let end = position_or_len (λ byte. byte == 0x3D) body in
    let count : length (name_in body) ≡ length (take (position_or_len (λ byte. byte == 0x3D) body) body) = refl in
    let cut = length-take (position_or_len (λ byte. byte == 0x3D) body) body in
    let before : position_or_len (λ byte. byte == 0x3D) body < length body = omega arith in
    let same : length (name_in body) ≡ position_or_len (λ byte. byte == 0x3D) body = omega arith in
    let mark : get_or body (position_or_len (λ byte. byte == 0x3D) body) 0 ≡ 0x3D =
    eqb-true (get_or body (position_or_len (λ byte. byte == 0x3D) body) 0) 0x3D (passes_at_first (λ byte. byte == 0x3D) body 0 before) in
    split_at_first (λ byte. byte == 0x3D) body 0 before
    ∙ ap (λ byte. name_in body ++ byte ∷ drop (position_or_len (λ b. b == 0x3D) body + 1) body) mark
    ∙ ap (λ n. name_in body ++ 0x3D ∷ drop (n + 1) body) (sym same)

some_cases : (test : Bool) (x y : List ℕ × List ℕ) → cond test (Some x) None ≡ Some y → (test ≡ true) × (x ≡ y)
some_cases true x y is = (refl, cc)
some_cases false x y is = absurd (cc)

setting-parts : (limit : ℕ) (body name value : List ℕ) → setting_of limit body ≡ Some (name, value)
    → ((is_name (name_in body) && (nat_lt (length (name_in body)) (length body) && nat_le (length (value_in body)) limit)) ≡ true) × (◌≡◌ {A = List ℕ × List ℕ} (name_in body, value_in body) (name, value))
unfolding setting_of
setting-parts limit body name value is =
    some_cases (is_name (name_in body) && (nat_lt (length (name_in body)) (length body) && nat_le (length (value_in body)) limit)) (name_in body, value_in body) (name, value) is

pub name-setting : (limit : ℕ) (body name value : List ℕ) → setting_of limit body ≡ Some (name, value) → name_in body ≡ name
name-setting limit body name value is = ap (λ (pair : List ℕ × List ℕ). pair.0) (setting-parts limit body name value is).1

pub value-setting : (limit : ℕ) (body name value : List ℕ) → setting_of limit body ≡ Some (name, value) → value_in body ≡ value
value-setting limit body name value is = ap (λ (pair : List ℕ × List ℕ). pair.1) (setting-parts limit body name value is).1

-- What a body says is what it was written from.
pub setting-says : (limit : ℕ) (body name value : List ℕ) → setting_of limit body ≡ Some (name, value) → Says limit body name value
setting-says limit body name value is =
    let parts = setting-parts limit body name value is in
    let named : name_in body ≡ name = name-setting limit body name value is in
    let valued : value_in body ≡ value = value-setting limit body name value is in
    let a = and_parts (is_name (name_in body)) (nat_lt (length (name_in body)) (length body) && nat_le (length (value_in body)) limit) parts.0 in
    let b = and_parts (nat_lt (length (name_in body)) (length body)) (nat_le (length (value_in body)) limit) a.1 in
    let lawful : IsName name = subst IsName named (is_name-sound (name_in body) a.0) in
    let short : length value ≤ limit = let few = leb-true (length (value_in body)) limit b.1 in let same = ap length valued in omega arith in
    let whole : body ≡ body_of name value =
    body-split body (ltb-true (length (name_in body)) (length body) b.0) ∙ ap (λ text. body_of text (value_in body)) named ∙ ap (λ text. body_of name text) valued in
    let long : length body ≡ length name + 1 + length value = ap length whole ∙ length-body_of name value in
    record { lawful = lawful; short = short; is = whole; long = long; most = let letters = lawful.short in omega arith }

-- ---- one record more

pub settings-none : (limit : ℕ) → settings_of limit [] ≡ empty
unfolding settings_of
settings-none limit = refl

pub settings-push : (limit : ℕ) (bodies : List (List ℕ)) (body : List ℕ) → settings_of limit (bodies ++ body ∷ []) ≡ with_setting (settings_of limit bodies) (setting_of limit body)
unfolding settings_of
settings-push limit bodies body = fold_push (λ settings b. with_setting settings (setting_of limit b)) empty bodies body
