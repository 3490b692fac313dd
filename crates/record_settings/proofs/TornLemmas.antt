-- What a body says of which only the first bytes were put.
use Rattle.std.proofs.Common.{◌≡◌, ℕ, zero, suc, ◌+◌, ◌-◌, ◌<◌, ◌≤◌, Bool, true, false, cond, not, ◌&&◌, nat_lt, nat_le, ◌==◌, List, [], ◌∷◌, ◌++◌, length, take, replicate, Option, Some, None, inl, inr, refl, sym, ap, subst, ◌∙◌, length-append, length-take, length-drop, arith}
use Rattle.std.proofs.lemmas.List.{length-replicate}
use Rattle.std.proofs.lemmas.Bool.{cases_Bool, cases_lt, cond-true, cond-false, and_left, and_right, le-ltb, not_from_true, not_from_false}
use Rattle.std.proofs.lemmas.List.Sums.{take_while-cons}
use Rattle.setting_name.specs.Name.{is_name}
use Rattle.record_settings.specs.Settings.{name_in, value_in, setting_of}
use Rattle.record_settings.specs.Torn.{torn_body, IsTornOf}

erased-length : (n : ℕ) → length (replicate {A = ℕ} n 0xFF) ≡ n
erased-length n = length-replicate {A = ℕ} n 0xFF

pub torn-long : (body : List ℕ) (put : ℕ) → length (torn_body body put) ≡ length body
torn-long body put =
    length-append (take put body) (replicate (length body - put) 0xFF) ∙ ap (λ (n : ℕ). length (take put body) + n) (erased-length (length body - put))
    ∙ omega (arith, length-take {A = ℕ} put body)

-- ---- the name

name-erased : (n : ℕ) → name_in (replicate n 0xFF) ≡ replicate n 0xFF
name-erased zero = refl
name-erased (suc n) = take_while-cons (λ byte. not (byte == 0x3D)) 0xFF (replicate n 0xFF) ∙ ap (λ (text : List ℕ). 0xFF ∷ text) (name-erased n)

-- one byte more
name-other : (byte : ℕ) (rest : List ℕ) → (byte == 0x3D) ≡ false → name_in (byte ∷ rest) ≡ byte ∷ name_in rest
name-other byte rest other = take_while-cons (λ b. not (b == 0x3D)) byte rest ∙ cond-true (not (byte == 0x3D)) (byte ∷ name_in rest) [] (not_from_false (byte == 0x3D) other)

name-mark : (byte : ℕ) (rest : List ℕ) → (byte == 0x3D) ≡ true → name_in (byte ∷ rest) ≡ []
name-mark byte rest mark = take_while-cons (λ b. not (b == 0x3D)) byte rest ∙ cond-false (not (byte == 0x3D)) (byte ∷ name_in rest) [] (not_from_true (byte == 0x3D) mark)

torn-more : (byte : ℕ) (rest : List ℕ) (put : ℕ) → torn_body (byte ∷ rest) (suc put) ≡ byte ∷ torn_body rest put
torn-more byte rest put =
    let less : length (byte ∷ rest) - suc put ≡ length rest - put = omega arith in
    ap (λ (n : ℕ). byte ∷ (take put rest ++ replicate n 0xFF)) less

-- where the mark was not put, all of it stands for a name
torn-nameless : (body : List ℕ) (put : ℕ) → put ≤ length (name_in body) → name_in (torn_body body put) ≡ torn_body body put
torn-nameless body zero le = name-erased (length body - 0)
torn-nameless [] (suc put) le = absurd (omega arith)
torn-nameless (byte ∷ rest) (suc put) le = elim (cases_Bool (byte == 0x3D)) [
  | inl mark ↦ let none : length (name_in (byte ∷ rest)) ≡ 0 = ap length (name-mark byte rest mark) in absurd (omega arith)
  | inr other ↦
      let more : length (name_in (byte ∷ rest)) ≡ suc (length (name_in rest)) = ap length (name-other byte rest other) in
      ap name_in (torn-more byte rest put) ∙ name-other byte (torn_body rest put) other ∙ ap (λ (text : List ℕ). byte ∷ text) (torn-nameless rest put (omega arith)) ∙ sym (torn-more byte rest put)
]

-- and where it was put the name is whole
torn-named : (body : List ℕ) (put : ℕ) → length (name_in body) < put → name_in (torn_body body put) ≡ name_in body
torn-named body zero lt = absurd (omega arith)
torn-named [] (suc put) lt = let none : length {A = ℕ} [] - suc put ≡ 0 = omega arith in ap (λ (n : ℕ). name_in (replicate n 0xFF)) none
torn-named (byte ∷ rest) (suc put) lt = elim (cases_Bool (byte == 0x3D)) [
  | inl mark ↦ ap name_in (torn-more byte rest put) ∙ name-mark byte (torn_body rest put) mark ∙ sym (name-mark byte rest mark)
  | inr other ↦
      let more : length (name_in (byte ∷ rest)) ≡ suc (length (name_in rest)) = ap length (name-other byte rest other) in
      ap name_in (torn-more byte rest put) ∙ name-other byte (torn_body rest put) other ∙ ap (λ (text : List ℕ). byte ∷ text) (torn-named rest put (omega arith)) ∙ sym (name-other byte rest other)
]

-- ---- what it says

abbrev passes : ℕ → List ℕ → ℕ → ℕ → Bool
passes limit name len short = is_name name && (nat_lt (length name) len && nat_le short limit)

setting-is : (limit : ℕ) (body : List ℕ) → setting_of limit body ≡ cond (passes limit (name_in body) (length body) (length (value_in body))) (Some (name_in body, value_in body)) None
unfolding setting_of
setting-is limit body = refl

torn-nothing : (limit : ℕ) (body : List ℕ) (put : ℕ) → put ≤ length (name_in body) → setting_of limit (torn_body body put) ≡ None
torn-nothing limit body put le =
    let torn = torn_body body put in
    let all : length (name_in (torn_body body put)) ≡ length (torn_body body put) = ap length (torn-nameless body put le) in
    setting-is limit torn
    ∙ cond-false (passes limit (name_in torn) (length torn) (length (value_in torn))) (Some (name_in torn, value_in torn)) None
    (and_right (is_name (name_in torn)) _ (and_left (nat_lt (length (name_in torn)) (length torn)) _ (le-ltb (length (name_in torn)) (length torn) (omega arith))))

value-long : (body : List ℕ) → length (value_in body) ≡ length body - (length (name_in body) + 1)
value-long body = length-drop {A = ℕ} (length (name_in body) + 1) body

torn-by : (pass : Bool) (name value torn : List ℕ) → length torn ≡ length value → IsTornOf (cond pass (Some (name, value)) None) (cond pass (Some (name, torn)) None)
torn-by true name value torn long = (refl, long)
torn-by false name value torn long = tt

torn-something : (limit : ℕ) (body : List ℕ) (put : ℕ) → length (name_in body) < put → IsTornOf (setting_of limit body) (setting_of limit (torn_body body put))
torn-something limit body put lt =
    let torn = torn_body body put in
    let named : name_in (torn_body body put) ≡ name_in body = torn-named body put lt in
    let long : length (torn_body body put) ≡ length body = torn-long body put in
    let same : length (value_in (torn_body body put)) ≡ length (value_in body) = value-long torn ∙ ap (λ (n : ℕ). n - (length (name_in torn) + 1)) long ∙ ap (λ (text : List ℕ). length body - (length text + 1)) named ∙ sym (value-long body) in
    let says : setting_of limit (torn_body body put) ≡ cond (passes limit (name_in body) (length body) (length (value_in body))) (Some (name_in body, value_in (torn_body body put))) None =
    setting-is limit torn
    ∙ ap (λ (text : List ℕ). cond (passes limit text (length torn) (length (value_in torn))) (Some (text, value_in torn)) None) named
    ∙ ap (λ (n : ℕ). cond (passes limit (name_in body) n (length (value_in torn))) (Some (name_in body, value_in torn)) None) long
    ∙ ap (λ (n : ℕ). cond (passes limit (name_in body) (length body) n) (Some (name_in body, value_in torn)) None) same in
    subst (λ (s : Option (List ℕ × List ℕ)). IsTornOf s (setting_of limit (torn_body body put))) (sym (setting-is limit body))
    (subst (λ (s : Option (List ℕ × List ℕ)). IsTornOf (cond (passes limit (name_in body) (length body) (length (value_in body))) (Some (name_in body, value_in body)) None) s) (sym says)
    (torn-by (passes limit (name_in body) (length body) (length (value_in body))) (name_in body) (value_in body) (value_in (torn_body body put)) same))

-- Nothing, or the same name with a value of the same length.
pub torn-setting : (limit : ℕ) (body : List ℕ) (put : ℕ) → IsTornOf (setting_of limit body) (setting_of limit (torn_body body put))
torn-setting limit body put = elim (cases_lt (length (name_in body)) put) [
  | inl lt ↦ torn-something limit body put lt
  | inr le ↦ subst (λ (s : Option (List ℕ × List ℕ)). IsTornOf (setting_of limit body) s) (sym (torn-nothing limit body put le)) (nothing (setting_of limit body))
]
  where
    nothing : (s : Option (List ℕ × List ℕ)) → IsTornOf s None
    nothing s = tt
