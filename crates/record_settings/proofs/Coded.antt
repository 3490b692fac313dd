-- Names as numbers, and records as pairs: what holds of lists of pairs of a number and bytes holds of records.
use Rattle.std.proofs.Common.{◌≡◌, ℕ, zero, suc, ◌+◌, ◌*◌, ◌<◌, Bool, true, false, cond, eqb, not, ◌&&◌, ◌||◌, ◌==◌, List, [], ◌∷◌, ◌++◌, length, map, Option, Some, None, bytes_eq, refl, sym, ap, ◌∙◌, inl, inr, arith}
use Rattle.std.specs.List.{flat_map}
use Rattle.std.proofs.lemmas.Bool.{cases_Bool, eq-eqb, ne_eqb}
use Rattle.std.proofs.lemmas.List.Concat.{flat_map-append}
use Rattle.std.proofs.lemmas.Slice.Eq.{bytes_eq-Decides}
use Rattle.item_laws.specs.Items.{last, value_of}
use Rattle.item_laws.specs.LivePairs.{live_pairs, names as ids}
use Rattle.item_laws.proofs.LivePairs.{step, last_from, last-is, collected}
use Rattle.record_settings.specs.Settings.{value_in, setting_of, settings_of}
use Rattle.record_settings.specs.Last.{last_value, stored}
use Rattle.record_settings.specs.Live.{has_name, names, is_live_by, live_bodies}
use Rattle.record_settings.proofs.BodyLemmas.{setting-says, value-setting}
use Rattle.record_settings.proofs.LastLemmas.{found_by, found_from, last_value-scan, same_settings}

-- ---- names as numbers

-- so many times the double of an odd number
doubled : ℕ → ℕ → ℕ
doubled zero n = 2 * n + 1
doubled (suc b) n = 2 * doubled b n

pub code : List ℕ → ℕ
code [] = 0
code (byte ∷ rest) = doubled byte (code rest)

doubled-some : (b n : ℕ) → 0 < doubled b n
unfolding doubled
doubled-some zero n = omega arith
doubled-some (suc b) n = let some = doubled-some b n in omega arith

doubled-same : (a b n m : ℕ) → doubled a n ≡ doubled b m → (a ≡ b) × (n ≡ m)
unfolding doubled
doubled-same zero zero n m same = (refl, omega arith)
doubled-same zero (suc b) n m same = absurd (omega arith)
doubled-same (suc a) zero n m same = absurd (omega arith)
doubled-same (suc a) (suc b) n m same =
    let below = doubled-same a b n m (omega arith) in
    (ap suc below.0, below.1)

code-same : (xs ys : List ℕ) → code xs ≡ code ys → xs ≡ ys
unfolding code
code-same [] [] same = refl
code-same [] (y ∷ ys) same = absurd (let some = doubled-some y (code ys) in omega arith)
code-same (x ∷ xs) [] same = absurd (let some = doubled-some x (code xs) in omega arith)
code-same (x ∷ xs) (y ∷ ys) same =
    let both = doubled-same x y (code xs) (code ys) same in
    ap (λ byte. byte ∷ xs) both.0 ∙ ap (λ rest. y ∷ rest) (code-same xs ys both.1)

pub code-eq : (xs ys : List ℕ) → eqb (code xs) (code ys) ≡ bytes_eq xs ys
code-eq xs ys =
    elim (cases_Bool (bytes_eq xs ys)) [
      | inl same ↦ eq-eqb (code xs) (code ys) (ap code ((bytes_eq-Decides xs ys).0 same)) ∙ sym same
      | inr apart ↦ ne_eqb (code xs) (code ys) (λ equal. let both : false ≡ true = sym apart ∙ (bytes_eq-Decides xs ys).1 (code-same xs ys equal) in absurd (cc)) ∙ sym apart
    ]

-- ---- records as pairs

-- the name, and the body where it puts a value
abbrev pub pairs_by : List ℕ → Option (List ℕ × List ℕ) → List (ℕ × List ℕ)
pairs_by body None = []
pairs_by body (Some (name, value)) = (code name, cond (length value == 0) [] body) ∷ []

pub pairs_of : ℕ → List (List ℕ) → List (ℕ × List ℕ)
pairs_of limit bodies = flat_map (λ body. pairs_by body (setting_of limit body)) bodies

pub pairs-none : (limit : ℕ) → pairs_of limit [] ≡ []
unfolding pairs_of
pairs-none limit = refl

pub pairs-append : (limit : ℕ) (xs ys : List (List ℕ)) → pairs_of limit (xs ++ ys) ≡ pairs_of limit xs ++ pairs_of limit ys
unfolding pairs_of
pairs-append limit xs ys = flat_map-append (λ body. pairs_by body (setting_of limit body)) xs ys

names-by : (limit : ℕ) (name body : List ℕ) (rest : List (List ℕ)) (setting : Option (List ℕ × List ℕ)) → names limit name rest ≡ ids (code name) (pairs_of limit rest)
    → (has_name name setting || names limit name rest) ≡ ids (code name) (pairs_by body setting ++ pairs_of limit rest)
names-by limit name body rest None same = same
names-by limit name body rest (Some (other, value)) same =
    ap (λ t. t || names limit name rest) (sym (code-eq other name)) ∙ ap (λ t. eqb (code other) (code name) || t) same

-- a name is named where its number is
pub names-coded : (limit : ℕ) (name : List ℕ) (bodies : List (List ℕ)) → names limit name bodies ≡ ids (code name) (pairs_of limit bodies)
unfolding pairs_of
names-coded limit name [] = refl
names-coded limit name (body ∷ rest) = names-by limit name body rest (setting_of limit body) (names-coded limit name rest)

-- ---- the last record of a name

abbrev pub value_by : Option (List ℕ) → Option (List ℕ)
value_by None = None
value_by (Some body) = Some (value_in body)

some_body : (limit : ℕ) (body name value : List ℕ) → setting_of limit body ≡ Some (name, value) → (length body == 0) ≡ false
some_body limit body name value is = let says = setting-says limit body name value is in ne_eqb (length body) 0 (λ none. let long = says.long in omega arith)

put-coded : (limit : ℕ) (body name value : List ℕ) → setting_of limit body ≡ Some (name, value) → stored (Some value) ≡ value_by (value_of (cond (length value == 0) [] body))
put-coded limit body name value is =
    elim (cases_Bool (length value == 0)) [
      | inl gone ↦
          ap (λ (t : Bool). cond t None (Some value)) gone ∙ sym (ap (λ (t : Bool). value_by (value_of (cond t [] body))) gone)
      | inr bytes ↦
          ap (λ (t : Bool). cond t None (Some value)) bytes
          ∙ ap (λ text. Some text) (sym (value-setting limit body name value is))
          ∙ sym (ap (λ (t : Bool). value_by (cond t None (Some body))) (some_body limit body name value is))
          ∙ sym (ap (λ (t : Bool). value_by (value_of (cond t [] body))) bytes)
    ]

-- what one record more leaves found, of the name and of its number
found-coded : (limit : ℕ) (name : List ℕ) (found p : Option (List ℕ)) (body other value : List ℕ) → setting_of limit body ≡ Some (other, value) → stored found ≡ value_by p
    → stored (found_by name found (Some (other, value))) ≡ value_by (step (code name) p (code other, cond (length value == 0) [] body))
found-coded limit name found p body other value is same =
    elim (cases_Bool (bytes_eq other name)) [
      | inl here ↦
          ap (λ (t : Bool). stored (cond t (Some value) found)) here ∙ put-coded limit body other value is
          ∙ sym (ap (λ (t : Bool). value_by (cond t (value_of (cond (length value == 0) [] body)) p)) (code-eq other name ∙ here))
      | inr apart ↦
          ap (λ (t : Bool). stored (cond t (Some value) found)) apart ∙ same
          ∙ sym (ap (λ (t : Bool). value_by (cond t (value_of (cond (length value == 0) [] body)) p)) (code-eq other name ∙ apart))
    ]

last-by : (limit : ℕ) (name : List ℕ) (found p : Option (List ℕ)) (body : List ℕ) (rest : List (List ℕ)) (setting : Option (List ℕ × List ℕ)) → setting_of limit body ≡ setting → stored found ≡ value_by p
    → ((now q : Option (List ℕ)) → stored now ≡ value_by q → stored (found_from limit name now rest) ≡ value_by (last_from (code name) q (pairs_of limit rest)))
    → stored (found_from limit name (found_by name found setting) rest) ≡ value_by (last_from (code name) p (pairs_by body setting ++ pairs_of limit rest))
last-by limit name found p body rest None is same later = later found p same
last-by limit name found p body rest (Some (other, value)) is same later =
    later (found_by name found (Some (other, value))) (step (code name) p (code other, cond (length value == 0) [] body)) (found-coded limit name found p body other value is same)

last-from : (limit : ℕ) (name : List ℕ) (found p : Option (List ℕ)) (bodies : List (List ℕ)) → stored found ≡ value_by p
    → stored (found_from limit name found bodies) ≡ value_by (last_from (code name) p (pairs_of limit bodies))
unfolding pairs_of
last-from limit name found p [] same = same
last-from limit name found p (body ∷ rest) same = last-by limit name found p body rest (setting_of limit body) refl same (λ now q h. last-from limit name now q rest h)

pub last-coded : (limit : ℕ) (name : List ℕ) (bodies : List (List ℕ)) → stored (last_value limit name bodies) ≡ value_by (last (pairs_of limit bodies) (code name))
last-coded limit name bodies = ap stored (last_value-scan limit name bodies) ∙ last-from limit name None None bodies refl ∙ ap value_by (sym (last-is (pairs_of limit bodies) (code name)))

-- ---- the records that a collection copies

live-is : (limit : ℕ) (name value body : List ℕ) (later : List (List ℕ)) (pairs : List (ℕ × List ℕ)) → setting_of limit body ≡ Some (name, value) → pairs ≡ pairs_of limit later
    → is_live_by limit (Some (name, value)) later ≡ not (ids (code name) pairs || (length (cond (length value == 0) [] body) == 0))
live-is limit name value body later pairs is same =
    ap (λ t. not (length value == 0) && not t) (names-coded limit name later ∙ ap (ids (code name)) (sym same))
    ∙ elim (cases_Bool (length value == 0)) [
      | inl gone ↦
          ap (λ (t : Bool). not t && not (ids (code name) pairs)) gone ∙ sym (ors (ids (code name) pairs))
          ∙ sym (ap (λ (t : Bool). not (ids (code name) pairs || (length (cond t [] body) == 0))) gone)
      | inr bytes ↦
          ap (λ (t : Bool). not t && not (ids (code name) pairs)) bytes ∙ sym (none (ids (code name) pairs))
          ∙ sym (ap (λ (t : Bool). not (ids (code name) pairs || t)) (some_body limit body name value is))
          ∙ sym (ap (λ (t : Bool). not (ids (code name) pairs || (length (cond t [] body) == 0))) bytes)
    ]
  where
    ors : (t : Bool) → not (t || true) ≡ false
    ors true = refl
    ors false = refl

    none : (t : Bool) → not (t || false) ≡ not t
    none true = refl
    none false = refl

-- the bodies of pairs
abbrev pub bodies_in : List (ℕ × List ℕ) → List (List ℕ)
bodies_in pairs = map (λ pair. pair.1) pairs

copied : (body : List ℕ) (number : ℕ) (named gone : Bool) (live : List (ℕ × List ℕ))
    → cond (not (named || (length (cond gone [] body) == 0))) (body ∷ bodies_in live) (bodies_in live)
    ≡ bodies_in (cond (named || (length (cond gone [] body) == 0)) live ((number, cond gone [] body) ∷ live))
copied body number true gone live = refl
copied body number false true live = refl
copied body number false false live =
    elim (length body == 0) as (λ (t : Bool). cond (not t) (body ∷ bodies_in live) (bodies_in live) ≡ bodies_in (cond t live ((number, body) ∷ live))) [ true ↦ refl | false ↦ refl ]

live-by : (limit : ℕ) (body : List ℕ) (rest others : List (List ℕ)) (setting : Option (List ℕ × List ℕ)) → setting_of limit body ≡ setting
    → live_bodies limit rest others ≡ bodies_in (live_pairs (pairs_of limit rest) (pairs_of limit others))
    → cond (is_live_by limit setting (rest ++ others)) (body ∷ live_bodies limit rest others) (live_bodies limit rest others) ≡ bodies_in (live_pairs (pairs_by body setting ++ pairs_of limit rest) (pairs_of limit others))
unfolding live_pairs
live-by limit body rest others None is same = same
live-by limit body rest others (Some (name, value)) is same =
    let live : is_live_by limit (Some (name, value)) (rest ++ others) ≡ not (ids (code name) (pairs_of limit rest ++ pairs_of limit others) || (length (cond (length value == 0) [] body) == 0)) =
    live-is limit name value body (rest ++ others) (pairs_of limit rest ++ pairs_of limit others) is (sym (pairs-append limit rest others)) in
    ap (λ (t : Bool). cond t (body ∷ live_bodies limit rest others) (live_bodies limit rest others)) live
    ∙ ap (λ (bodies : List (List ℕ)). cond (not (ids (code name) (pairs_of limit rest ++ pairs_of limit others) || (length (cond (length value == 0) [] body) == 0))) (body ∷ bodies) bodies) same
    ∙ copied body (code name) (ids (code name) (pairs_of limit rest ++ pairs_of limit others)) (length value == 0) (live_pairs (pairs_of limit rest) (pairs_of limit others))

-- What a collection copies are the bodies of the live pairs.
pub bodies-live : (limit : ℕ) (victim others : List (List ℕ)) → live_bodies limit victim others ≡ bodies_in (live_pairs (pairs_of limit victim) (pairs_of limit others))
unfolding pairs_of live_bodies live_pairs
bodies-live limit [] others = refl
bodies-live limit (body ∷ rest) others = live-by limit body rest others (setting_of limit body) refl (bodies-live limit rest others)

pairs-by : (limit : ℕ) (body : List ℕ) (rest others : List (List ℕ)) (setting : Option (List ℕ × List ℕ)) → setting_of limit body ≡ setting
    → pairs_of limit (live_bodies limit rest others) ≡ live_pairs (pairs_of limit rest) (pairs_of limit others)
    → pairs_of limit (cond (is_live_by limit setting (rest ++ others)) (body ∷ live_bodies limit rest others) (live_bodies limit rest others)) ≡ live_pairs (pairs_by body setting ++ pairs_of limit rest) (pairs_of limit others)
unfolding live_pairs pairs_of
pairs-by limit body rest others None is same = same
pairs-by limit body rest others (Some (name, value)) is same =
    let named = ids (code name) (pairs_of limit rest ++ pairs_of limit others) in
    let payload = cond (length value == 0) [] body in
    let live : is_live_by limit (Some (name, value)) (rest ++ others) ≡ not (ids (code name) (pairs_of limit rest ++ pairs_of limit others) || (length (cond (length value == 0) [] body) == 0)) =
    live-is limit name value body (rest ++ others) (pairs_of limit rest ++ pairs_of limit others) is (sym (pairs-append limit rest others)) in
    let pair : pairs_by body (setting_of limit body) ≡ (code name, cond (length value == 0) [] body) ∷ [] = ap (pairs_by body) is in
    ap (λ (t : Bool). pairs_of limit (cond t (body ∷ live_bodies limit rest others) (live_bodies limit rest others))) live
    ∙ turned (ids (code name) (pairs_of limit rest ++ pairs_of limit others) || (length (cond (length value == 0) [] body) == 0)) body (live_bodies limit rest others)
    ∙ ap (λ (ps : List (ℕ × List ℕ)). cond (ids (code name) (pairs_of limit rest ++ pairs_of limit others) || (length (cond (length value == 0) [] body) == 0)) (pairs_of limit (live_bodies limit rest others)) (ps ++ pairs_of limit (live_bodies limit rest others))) pair
    ∙ ap (λ (ps : List (ℕ × List ℕ)). cond (ids (code name) (pairs_of limit rest ++ pairs_of limit others) || (length (cond (length value == 0) [] body) == 0)) ps ((code name, cond (length value == 0) [] body) ∷ ps)) same
  where
    turned : (t : Bool) (x : List ℕ) (xs : List (List ℕ)) → pairs_of limit (cond (not t) (x ∷ xs) xs) ≡ cond t (pairs_of limit xs) (pairs_of limit (x ∷ xs))
    turned true x xs = refl
    turned false x xs = refl

-- And their pairs are the live pairs.
pub pairs-live : (limit : ℕ) (victim others : List (List ℕ)) → pairs_of limit (live_bodies limit victim others) ≡ live_pairs (pairs_of limit victim) (pairs_of limit others)
unfolding pairs_of live_bodies live_pairs
pairs-live limit [] others = refl
pairs-live limit (body ∷ rest) others = pairs-by limit body rest others (setting_of limit body) refl (pairs-live limit rest others)

-- ---- a collection

-- Without the oldest records, and with those of them that a collection copies at the end, the settings stay.
pub settings-collected : (limit : ℕ) (victim others : List (List ℕ)) → settings_of limit (others ++ live_bodies limit victim others) ≡ settings_of limit (victim ++ others)
settings-collected limit victim others =
    same_settings limit (others ++ live_bodies limit victim others) (victim ++ others)
    (λ name. last-coded limit name (others ++ live_bodies limit victim others)
    ∙ ap (λ ps. value_by (last ps (code name))) (pairs-append limit others (live_bodies limit victim others) ∙ ap (λ ps. pairs_of limit others ++ ps) (pairs-live limit victim others))
    ∙ ap value_by (collected (pairs_of limit victim) (pairs_of limit others) (code name))
    ∙ ap (λ ps. value_by (last ps (code name))) (sym (pairs-append limit victim others))
    ∙ sym (last-coded limit name (victim ++ others)))
