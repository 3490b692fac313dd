-- What a body says, by what a scan of its bytes finds.
use Rattle.std.proofs.Common.{◌≡◌, ◌⊎◌, ℕ, ◌+◌, ◌<◌, ◌≤◌, Bool, true, false, not, cond, eqb, ltb, leb, ◌&&◌, List, [], ◌∷◌, length, take, drop, Option, Some, None, Result, Ok, Err, is_err, inl, inr, refl, sym, ap, subst, ◌∙◌, arith}
use Rattle.std.specs.List.{position, position_or_len, prefix_len}
use Rattle.std.specs.Result.{IsOk}
use Rattle.std.proofs.lemmas.Bool.{cases_Bool, both_ways, le-leb, lt-leb}
use Rattle.std.proofs.lemmas.List.{length-take-le}
use Rattle.std.proofs.lemmas.Option.{none-some}
use Rattle.setting_name.specs.Name.{is_name, IsName}
use Rattle.setting_name.proofs.NameTest.{is_name-sound, is_name-complete}
use Rattle.record_settings.specs.Settings.{name_in, value_in, setting_of}
use Rattle.backend_fcb.specs.Parts.{if_named}

abbrev pub equals_at : List ℕ → Option ℕ
equals_at body = position (λ byte. eqb byte 0x3D) body

abbrev name_len : List ℕ → ℕ
name_len body = position_or_len (λ byte. eqb byte 0x3D) body

prefix-le : (p : ℕ → Bool) (xs : List ℕ) → prefix_len p xs ≤ length xs
prefix-le p [] = omega arith
prefix-le p (x ∷ xs) = elim (cases_Bool (p x)) [
  | inl yes-it ↦ let e : prefix_len p (x ∷ xs) ≡ 1 + prefix_len p xs = ap (λ (b : Bool). cond b (1 + prefix_len p xs) 0) yes-it in let ih = prefix-le p xs in omega arith
  | inr no-it ↦ let e : prefix_len p (x ∷ xs) ≡ 0 = ap (λ (b : Bool). cond b (1 + prefix_len p xs) 0) no-it in omega arith
]

long : (body : List ℕ) → length (name_in body) ≡ name_len body
long body = length-take-le (name_len body) body (prefix-le (λ byte. not (eqb byte 0x3D)) body)

some-same : (x y : ℕ) → Some x ≡ Some y → x ≡ y
some-same x y e = cc

pub record HasEquals (body : List ℕ) (place : ℕ) : Type 0 where
  pub is : name_len body ≡ place
  pub within : ltb (name_len body) (length body) ≡ true

pub equals-some : (body : List ℕ) (place : ℕ) → equals_at body ≡ Some place → HasEquals body place
equals-some body place e = elim (cases_Bool (ltb (name_len body) (length body))) [
  | inl there ↦ record { is = some-same (name_len body) place (sym (ap (λ (b : Bool). cond b (Some (name_len body)) None) there) ∙ e); within = there }
  | inr none ↦ absurd (none-some place (sym (ap (λ (b : Bool). cond b (Some (name_len body)) None) none) ∙ e))
]

equals-none : (body : List ℕ) → equals_at body ≡ None → ltb (name_len body) (length body) ≡ false
equals-none body e = elim (cases_Bool (ltb (name_len body) (length body))) [
  | inl there ↦ absurd (none-some (name_len body) (sym e ∙ ap (λ (b : Bool). cond b (Some (name_len body)) None) there))
  | inr none ↦ none
]

abbrev setting_by : Bool → Bool → Bool → List ℕ → Option (List ℕ × List ℕ)
setting_by named ends short body = cond (named && (ends && short)) (Some (name_in body, value_in body)) None

by-parts : (limit : ℕ) (body : List ℕ) (named ends short : Bool) → is_name (name_in body) ≡ named → ltb (length (name_in body)) (length body) ≡ ends → leb (length (value_in body)) limit ≡ short → setting_of limit body ≡ setting_by named ends short body
unfolding setting_of
by-parts limit body named ends short a b c =
    ap (λ (x : Bool). setting_by x (ltb (length (name_in body)) (length body)) (leb (length (value_in body)) limit) body) a
    ∙ ap (λ (x : Bool). setting_by named x (leb (length (value_in body)) limit) body) b
    ∙ ap (λ (x : Bool). setting_by named ends x body) c

none-by : (named ends short : Bool) (body : List ℕ) → (named ≡ false) ⊎ ((ends ≡ false) ⊎ (short ≡ false)) → setting_by named ends short body ≡ None
none-by false ends short body h = refl
none-by true false short body h = refl
none-by true true false body h = refl
none-by true true true body (inl e) = absurd (both_ways true e refl)
none-by true true true body (inr (inl e)) = absurd (both_ways true e refl)
none-by true true true body (inr (inr e)) = absurd (both_ways true e refl)

-- a body without `=` says nothing
pub says-none : (limit : ℕ) (body : List ℕ) → equals_at body ≡ None → setting_of limit body ≡ None
says-none limit body e =
    by-parts limit body (is_name (name_in body)) false (leb (length (value_in body)) limit) refl (ap (λ (n : ℕ). ltb n (length body)) (long body) ∙ equals-none body e) refl
    ∙ none-by (is_name (name_in body)) false (leb (length (value_in body)) limit) body (inr (inl refl))

pub name-is : (body : List ℕ) (place : ℕ) → equals_at body ≡ Some place → take place body ≡ name_in body
name-is body place e = ap (λ (n : ℕ). take n body) (sym (equals-some body place e).is)

pub value-is : (body : List ℕ) (place : ℕ) → equals_at body ≡ Some place → drop (place + 1) body ≡ value_in body
value-is body place e = ap (λ (n : ℕ). drop (n + 1) body) (sym (long body ∙ (equals-some body place e).is))

-- nor does one with a value that is too long
pub says-long : (limit : ℕ) (body value : List ℕ) → value ≡ value_in body → limit < length value → setting_of limit body ≡ None
says-long limit body value is more =
    let e : leb (length (value_in body)) limit ≡ false = ap (λ (v : List ℕ). leb (length v) limit) (sym is) ∙ lt-leb (length value) limit more in
    by-parts limit body (is_name (name_in body)) (ltb (length (name_in body)) (length body)) false refl refl e ∙ none-by (is_name (name_in body)) (ltb (length (name_in body)) (length body)) false body (inr (inr refl))

chosen : (b : Bool) (x y : Option (List ℕ × List ℕ)) → cond (b && (true && true)) x y ≡ cond b x y
chosen true x y = refl
chosen false x y = refl

-- any other says what its parts say
pub says-parts : (limit : ℕ) (body name value : List ℕ) (place : ℕ) → equals_at body ≡ Some place → name ≡ name_in body → value ≡ value_in body → length value ≤ limit → setting_of limit body ≡ if_named (Some (name, value))
says-parts limit body name value place e n v short =
    let has = equals-some body place e in
    by-parts limit body (is_name name) true true (ap is_name (sym n)) (ap (λ (m : ℕ). ltb m (length body)) (long body) ∙ has.within) (le-leb (length (value_in body)) limit (subst (λ (x : List ℕ). length x ≤ limit) v short))
    ∙ chosen (is_name name) (Some (name_in body, value_in body)) None
    ∙ ap (λ (x : List ℕ). cond (is_name name) (Some (x, value_in body)) None) (sym n) ∙ ap (λ (x : List ℕ). cond (is_name name) (Some (name, x)) None) (sym v)

-- whether the first part is a name, by what reading it answers
pub named : (name value : List ℕ) → IsName name → if_named (Some (name, value)) ≡ Some (name, value)
named name value lawful = ap (λ (b : Bool). cond b (Some (name, value)) None) (is_name-complete name lawful)

pub is_ok : {T E : Type 0} (r : Result T E) → is_err r ≡ false → IsOk r
is_ok (Ok x) e = refl
is_ok (Err x) e = absurd (both_ways true e refl)

pub unnamed : {T E : Type 0} (name value : List ℕ) (r : Result T E) → is_err r ≡ true → (IsName name → IsOk r) → if_named (Some (name, value)) ≡ None
unnamed {T} {E} name value r err ok = elim (cases_Bool (is_name name)) [
  | inl is ↦ absurd (refused r err (ok (is_name-sound name is)))
  | inr other ↦ ap (λ (b : Bool). cond b (Some (name, value)) None) other
]
  where
    refused : {T E : Type 0} (r : Result T E) → is_err r ≡ true → IsOk r → ⊥
    refused (Ok x) e ok = both_ways false refl e
    refused (Err x) e ok = both_ways false refl ok
