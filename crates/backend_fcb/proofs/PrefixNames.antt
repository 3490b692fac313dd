-- Records that do not begin with a name and `=` are of other names; what a record says that begins so.
use Rattle.std.proofs.Common.{◌≡◌, ℕ, ◌+◌, ◌<◌, ◌≤◌, Bool, true, false, cond, ◌&&◌, inl, inr, List, [], ◌∷◌, ◌++◌, length, drop, Option, Some, None, refl, sym, ap, ◌∙◌, append_assoc, arith}
use Rattle.std.specs.Prelude.{nat_eq, nat_le}
use Rattle.std.specs.List.{starts_with}
use Rattle.std.specs.Str.{bytes_eq}
use Rattle.std.proofs.lemmas.Bool.{cases_Bool, cases_lt, both_ways, false≢true, and_left, and_right, and_from, and_parts, eq-eqb, eqb-true, leb-true, le-leb}
use Rattle.std.proofs.lemmas.Slice.Eq.{bytes_eq-Decides}
use Rattle.setting_name.specs.Name.{IsName}
use Rattle.fcb_ring.specs.Records.{is_alike}
use Rattle.fcb_ring.proofs.PrefixBytes.{shorter}
use Rattle.record_settings.specs.Live.{has_name, value_for}
use Rattle.record_settings.specs.Settings.{setting_of, body_of}
use Rattle.record_settings.proofs.BodyLemmas.{length-body_of, setting-body_of, setting-says}
use Rattle.record_settings.proofs.LastLemmas.{found_by}

-- each record of a name begins so
starts-so : (name value : List ℕ) → starts_with nat_eq (body_of name value) (body_of name []) ≡ true
starts-so [] value = refl
starts-so (byte ∷ name) value = ap (λ (b : Bool). b && starts_with nat_eq (body_of name value) (body_of name [])) (eq-eqb byte byte refl) ∙ starts-so name value

pub other-name : (limit : ℕ) (name body : List ℕ) → starts_with nat_eq body (body_of name []) ≡ false → has_name name (setting_of limit body) ≡ false
other-name limit name body other = by (setting_of limit body) refl
  where
    by : (s : Option (List ℕ × List ℕ)) → setting_of limit body ≡ s → has_name name s ≡ false
    by None is = refl
    by (Some (own, value)) is = elim (cases_Bool (bytes_eq own name)) [
      | inl same ↦
          let named : own ≡ name = (bytes_eq-Decides own name).0 same in
          let whole : body ≡ body_of name value = (setting-says limit body own value is).is ∙ ap (λ (text : List ℕ). body_of text value) named in
          absurd (both_ways (starts_with nat_eq body (body_of name [])) other (ap (λ (text : List ℕ). starts_with nat_eq text (body_of name [])) whole ∙ starts-so name value))
      | inr apart ↦ apart
    ]

pub found-same : (name : List ℕ) (found : Option (List ℕ)) (setting : Option (List ℕ × List ℕ)) → has_name name setting ≡ false → found_by name found setting ≡ found
found-same name found None other = refl
found-same name found (Some (own, value)) other = ap (λ (b : Bool). cond b (Some value) found) other

-- ---- the value of a record that begins so

-- what stands behind the prefix
starts-split : (s p : List ℕ) → starts_with nat_eq s p ≡ true → s ≡ p ++ drop (length p) s
starts-split s [] e = refl
starts-split [] (x ∷ p) e = absurd (false≢true e)
starts-split (y ∷ s) (x ∷ p) e =
    let parts = and_parts (nat_eq x y) (starts_with nat_eq s p) e in
    ap (λ (byte : ℕ). byte ∷ s) (sym (eqb-true x y parts.0)) ∙ ap (λ (l : List ℕ). x ∷ l) (starts-split s p parts.1)

value-none : (name : List ℕ) (setting : Option (List ℕ × List ℕ)) → has_name name setting ≡ false → value_for name setting ≡ None
value-none name None other = refl
value-none name (Some (own, value)) other = ap (λ (b : Bool). cond b (Some value) None) other

value-some : (name value : List ℕ) → value_for name (Some (name, value)) ≡ Some value
value-some name value = ap (λ (b : Bool). cond b (Some value) None) ((bytes_eq-Decides name name).1 refl)

-- a longer body is not of the name
too-long : (limit : ℕ) (name body : List ℕ) → length name + 1 + limit < length body → has_name name (setting_of limit body) ≡ false
too-long limit name body long = by (setting_of limit body) refl
  where
    by : (s : Option (List ℕ × List ℕ)) → setting_of limit body ≡ s → has_name name s ≡ false
    by None is = refl
    by (Some (own, value)) is = elim (cases_Bool (bytes_eq own name)) [
      | inl same ↦
          let says = setting-says limit body own value is in
          let count : length own ≡ length name = ap length ((bytes_eq-Decides own name).0 same) in
          let all = says.long in
          let few = says.short in
          absurd (omega (arith, long, count, all, few))
      | inr apart ↦ apart
    ]

-- The value that a record gives a lawful name is what stands behind the name and `=`, if it begins so and is not too long.
pub says-alike : (limit : ℕ) (name body : List ℕ) → IsName name
    → value_for name (setting_of limit body) ≡ cond (is_alike (body_of name []) (length (body_of name []) + limit) body) (Some (drop (length (body_of name [])) body)) None
says-alike limit name body lawful = by (starts_with nat_eq body (body_of name [])) (nat_le (length body) (length (body_of name []) + limit)) refl refl
  where
    count : length (body_of name []) ≡ length name + 1
    count = length-body_of name [] ∙ omega arith

    right : Bool → Option (List ℕ)
    right t = cond t (Some (drop (length (body_of name [])) body)) None

    by : (b t : Bool) → starts_with nat_eq body (body_of name []) ≡ b → nat_le (length body) (length (body_of name []) + limit) ≡ t
        → value_for name (setting_of limit body) ≡ cond (is_alike (body_of name []) (length (body_of name []) + limit) body) (Some (drop (length (body_of name [])) body)) None
    by false t begins short =
        value-none name (setting_of limit body) (other-name limit name body begins)
        ∙ sym (ap right (and_left (starts_with nat_eq body (body_of name [])) (nat_le (length body) (length (body_of name []) + limit)) begins))
    by true false begins short =
        let c = count in
        let long : length name + 1 + limit < length body = elim (cases_lt (length name + 1 + limit) (length body)) [
          | inl lt ↦ lt
          | inr ge ↦ absurd (both_ways (nat_le (length body) (length (body_of name []) + limit)) short (le-leb (length body) (length (body_of name []) + limit) (omega (arith, ge, c))))
        ] in
        value-none name (setting_of limit body) (too-long limit name body long)
        ∙ sym (ap right (and_right (starts_with nat_eq body (body_of name [])) (nat_le (length body) (length (body_of name []) + limit)) short))
    by true true begins short =
        let c = count in
        let value : List ℕ = drop (length (body_of name [])) body in
        let whole : body ≡ body_of name (drop (length (body_of name [])) body) = starts-split body (body_of name []) begins ∙ append_assoc name (0x3D ∷ []) (drop (length (body_of name [])) body) in
        let all : length body ≡ length name + 1 + length (drop (length (body_of name [])) body) = ap length whole ∙ length-body_of name (drop (length (body_of name [])) body) in
        let le = leb-true (length body) (length (body_of name []) + limit) short in
        let few : length (drop (length (body_of name [])) body) ≤ limit = omega (arith, c, all, le) in
        ap (λ (b : List ℕ). value_for name (setting_of limit b)) whole
        ∙ ap (value_for name) (setting-body_of limit name (drop (length (body_of name [])) body) lawful few)
        ∙ value-some name (drop (length (body_of name [])) body)
        ∙ sym (ap right (and_from (starts_with nat_eq body (body_of name [])) (nat_le (length body) (length (body_of name []) + limit)) begins short))

-- it is no shorter than the prefix
pub alike-long : (prefix : List ℕ) (most : ℕ) (body : List ℕ) → is_alike prefix most body ≡ true → length prefix ≤ length body
alike-long prefix most body alike =
    let begins = (and_parts (starts_with nat_eq body prefix) (nat_le (length body) most) alike).0 in
    elim (cases_lt (length body) (length prefix)) [
      | inl lt ↦ absurd (both_ways (starts_with nat_eq body prefix) (shorter body prefix lt) begins)
      | inr ge ↦ ge
    ]
