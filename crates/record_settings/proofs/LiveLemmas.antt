-- What a collection copies, record by record.
use Rattle.std.proofs.Common.{◌≡◌, ℕ, Bool, true, false, cond, not, ◌&&◌, ◌||◌, ◌==◌, List, [], ◌∷◌, ◌++◌, length, Option, Some, None, refl, ap, ◌∙◌, append_assoc}
use Rattle.std.proofs.lemmas.List.Folds.{list_any-append}
use Rattle.record_settings.specs.Settings.{setting_of}
use Rattle.record_settings.specs.Live.{has_name, names, is_live, is_live_by, live_bodies}

-- ---- looking for a name in later records

pub names-append : (limit : ℕ) (name : List ℕ) (xs ys : List (List ℕ)) → names limit name (xs ++ ys) ≡ (names limit name xs || names limit name ys)
names-append limit name xs ys = list_any-append (λ body. has_name name (setting_of limit body)) xs ys

-- ---- whether a record is live

pub live-none : (limit : ℕ) (body : List ℕ) (later : List (List ℕ)) → setting_of limit body ≡ None → is_live limit body later ≡ false
live-none limit body later none = ap (λ setting. is_live_by limit setting later) none

pub live-setting : (limit : ℕ) (body : List ℕ) (later : List (List ℕ)) (name value : List ℕ) → setting_of limit body ≡ Some (name, value) → is_live limit body later ≡ (not (length value == 0) && not (names limit name later))
live-setting limit body later name value is = ap (λ setting. is_live_by limit setting later) is

pub live-ignored : (limit : ℕ) (body : List ℕ) (later : List (List ℕ)) (name value : List ℕ) → setting_of limit body ≡ Some (name, value) → names limit name later ≡ true → is_live limit body later ≡ false
live-ignored limit body later name value is named =
    live-setting limit body later name value is ∙ ap (λ t. not (length value == 0) && not t) named ∙ never (not (length value == 0))
  where
    never : (t : Bool) → (t && false) ≡ false
    never true = refl
    never false = refl

-- what a live record says
pub record LiveSetting (limit : ℕ) (body : List ℕ) (later : List (List ℕ)) : Type 0 where
  pub name : List ℕ
  pub value : List ℕ
  pub says : setting_of limit body ≡ Some (name, value)
  pub bytes : (length value == 0) ≡ false
  pub last : names limit name later ≡ false

live-by : (limit : ℕ) (body : List ℕ) (later : List (List ℕ)) (setting : Option (List ℕ × List ℕ)) → setting_of limit body ≡ setting → is_live_by limit setting later ≡ true → LiveSetting limit body later
live-by limit body later None is live = absurd (cc)
live-by limit body later (Some (name, value)) is live =
    record { name = name; value = value; says = is; bytes = first (length value == 0) (names limit name later) live; last = second (length value == 0) (names limit name later) live }
  where
    first : (s t : Bool) → (not s && not t) ≡ true → s ≡ false
    first true t h = absurd (let no : false ≡ true = h in cc)
    first false t h = refl

    second : (s t : Bool) → (not s && not t) ≡ true → t ≡ false
    second true t h = absurd (let no : false ≡ true = h in cc)
    second false true h = absurd (let no : false ≡ true = h in cc)
    second false false h = refl

pub live-says : (limit : ℕ) (body : List ℕ) (later : List (List ℕ)) → is_live limit body later ≡ true → LiveSetting limit body later
live-says limit body later live = live-by limit body later (setting_of limit body) refl live

-- ---- the records that are copied

pub copies-none : (limit : ℕ) (others : List (List ℕ)) → live_bodies limit [] others ≡ []
unfolding live_bodies
copies-none limit others = refl

pub copies-split : (limit : ℕ) (prefix back tail : List (List ℕ)) → live_bodies limit (prefix ++ back) tail ≡ live_bodies limit prefix (back ++ tail) ++ live_bodies limit back tail
unfolding live_bodies
copies-split limit [] back tail = refl
copies-split limit (body ∷ rest) back tail =
    ap (λ later. cond (is_live limit body later) (body ∷ live_bodies limit (rest ++ back) tail) (live_bodies limit (rest ++ back) tail)) (append_assoc rest back tail)
    ∙ ap (λ bodies. cond (is_live limit body (rest ++ (back ++ tail))) (body ∷ bodies) bodies) (copies-split limit rest back tail)
    ∙ joined (is_live limit body (rest ++ (back ++ tail))) body (live_bodies limit rest (back ++ tail)) (live_bodies limit back tail)
  where
    joined : (t : Bool) (x : List ℕ) (xs ys : List (List ℕ)) → cond t (x ∷ (xs ++ ys)) (xs ++ ys) ≡ cond t (x ∷ xs) xs ++ ys
    joined true x xs ys = refl
    joined false x xs ys = refl

copies-one : (limit : ℕ) (body : List ℕ) (later : List (List ℕ)) → live_bodies limit (body ∷ []) later ≡ cond (is_live limit body later) (body ∷ []) []
unfolding live_bodies
copies-one limit body later = refl

-- one record of the victim more
pub copies-push : (limit : ℕ) (done : List (List ℕ)) (body : List ℕ) (later : List (List ℕ)) → live_bodies limit (done ++ body ∷ []) later ≡ live_bodies limit done (body ∷ later) ++ cond (is_live limit body later) (body ∷ []) []
copies-push limit done body later = copies-split limit done (body ∷ []) later ∙ ap (λ bodies. live_bodies limit done (body ∷ later) ++ bodies) (copies-one limit body later)
