-- The next name of the settings is the least name of the live records that is behind the one given.
use Rattle.std.proofs.Common.{◌≡◌, ℕ, Bool, true, false, cond, ◌&&◌, ◌||◌, List, [], ◌∷◌, ◌++◌, Option, Some, None, is_some, bytes_eq, fold, refl, sym, ap, ◌∙◌, inl, inr}
use Rattle.std.specs.FinMap as maps
use Rattle.std.proofs.lemmas.Bool.{cases_Bool, cond-true, cond-false, false≢true}
use Rattle.std.proofs.lemmas.Cmp.{nat_list_cmp_total}
use Rattle.std.proofs.lemmas.List.Sums.{fold_push}
use Rattle.backend_api.specs.Map.{Map, is_behind, next_name}
use Rattle.backend_api.proofs.LeastLemmas.{cmp, least-same, next-least, least-more}
use Rattle.record_settings.specs.Settings.{setting_of, settings_of}
use Rattle.backend_api.specs.Least.{is_before, IsLeast}
use Rattle.record_settings.specs.Live.{has_name, names, is_live, live_bodies}
use Rattle.record_settings.proofs.BodyLemmas.{settings-none}
use Rattle.record_settings.proofs.PrefixLemmas.{settings-dead, settings-live, live-prefix}
use Rattle.record_settings.proofs.LastLemmas.{tie}
use Rattle.record_settings.proofs.LiveLemmas.{live-says}

-- the least name after one more record
abbrev pub least_by : Option (List ℕ) → Option (List ℕ) → Option (List ℕ × List ℕ) → Option (List ℕ)
least_by after least None = least
least_by after least (Some (name, value)) = cond (is_behind after name && is_before name least) (Some name) least

-- the least of the records' names that is behind this one, or the least of all
unfoldable pub least_of : ℕ → Option (List ℕ) → List (List ℕ) → Option (List ℕ)
least_of limit after bodies = fold (λ least body. least_by after least (setting_of limit body)) None bodies

-- ---- the names of the settings

live-key : (m : Map) (name value q : List ℕ) → maps.contains_key (maps.insert m name value) q ≡ (bytes_eq name q || maps.contains_key m q)
live-key m name value q =
    ap is_some (maps.get-insert nat_list_cmp_total m name value q ∙ ap (λ (t : Bool). cond t (Some value) (maps.get m q)) (tie q name)) ∙ at (bytes_eq name q)
  where
    at : (t : Bool) → is_some (cond t (Some value) (maps.get m q)) ≡ (t || is_some (maps.get m q))
    at true = refl
    at false = refl

-- a name has a value where a live record names it
pub settings-keys : (limit : ℕ) (bodies : List (List ℕ)) (q : List ℕ) → maps.contains_key (settings_of limit bodies) q ≡ names limit q (live_bodies limit bodies [])
unfolding live_bodies
settings-keys limit [] q = ap (λ (m : Map). maps.contains_key m q) (settings-none limit) ∙ ap is_some (maps.get-empty cmp q)
settings-keys limit (body ∷ rest) q =
    elim (cases_Bool (is_live limit body rest)) [
      | inl live ↦
          let says = live-says limit body rest live in
          ap (λ (m : Map). maps.contains_key m q) (settings-live limit body rest says)
          ∙ live-key (settings_of limit rest) says.name says.value q
          ∙ ap (λ t. bytes_eq says.name q || t) (settings-keys limit rest q)
          ∙ sym (ap (λ setting. has_name q setting || names limit q (live_bodies limit rest [])) says.says)
          ∙ sym (ap (names limit q) (live-prefix limit body rest ∙ cond-true (is_live limit body rest) (body ∷ live_bodies limit rest []) (live_bodies limit rest []) live))
      | inr dead ↦
          ap (λ (m : Map). maps.contains_key m q) (settings-dead limit body rest dead) ∙ settings-keys limit rest q
          ∙ sym (ap (names limit q) (live-prefix limit body rest ∙ cond-false (is_live limit body rest) (body ∷ live_bodies limit rest []) (live_bodies limit rest []) dead))
    ]

-- ---- the least name of records

or_none : (t : Bool) → t ≡ (t || false)
or_none true = refl
or_none false = refl

or_assoc : (r s t : Bool) → ((r || s) || t) ≡ (r || (s || t))
or_assoc true s t = refl
or_assoc false s t = refl

least-step : (after : Option (List ℕ)) (has : List ℕ → Bool) (o : Option (List ℕ)) (setting : Option (List ℕ × List ℕ)) → IsLeast after has o
    → IsLeast after (λ name. has name || has_name name setting) (least_by after o setting)
least-step after has o None least = least-same after has (λ name. has name || false) o (λ name. or_none (has name)) least
least-step after has o (Some (other, value)) least = least-more after has other o least

least-from : (limit : ℕ) (after : Option (List ℕ)) (has : List ℕ → Bool) (o : Option (List ℕ)) (bodies : List (List ℕ)) → IsLeast after has o
    → IsLeast after (λ name. has name || names limit name bodies) (fold (λ least body. least_by after least (setting_of limit body)) o bodies)
least-from limit after has o [] least = least-same after has (λ name. has name || false) o (λ name. or_none (has name)) least
least-from limit after has o (body ∷ rest) least =
    least-same after (λ name. (has name || has_name name (setting_of limit body)) || names limit name rest) (λ name. has name || names limit name (body ∷ rest))
    (fold (λ now b. least_by after now (setting_of limit b)) (least_by after o (setting_of limit body)) rest)
    (λ name. or_assoc (has name) (has_name name (setting_of limit body)) (names limit name rest))
    (least-from limit after (λ name. has name || has_name name (setting_of limit body)) (least_by after o (setting_of limit body)) rest (least-step after has o (setting_of limit body) least))

pub least-is : (limit : ℕ) (after : Option (List ℕ)) (bodies : List (List ℕ)) → IsLeast after (λ name. names limit name bodies) (least_of limit after bodies)
unfolding least_of
least-is limit after bodies = least-from limit after (λ name. false) None bodies (λ name is. absurd (false≢true is))

-- the least name of the live records is that of the settings
pub keys-least : (limit : ℕ) (bodies : List (List ℕ)) (after : Option (List ℕ)) → IsLeast after (maps.contains_key (settings_of limit bodies)) (least_of limit after (live_bodies limit bodies []))
keys-least limit bodies after =
    least-same after (λ name. names limit name (live_bodies limit bodies [])) (maps.contains_key (settings_of limit bodies)) (least_of limit after (live_bodies limit bodies [])) (λ name. sym (settings-keys limit bodies name))
    (least-is limit after (live_bodies limit bodies []))

pub next-found : (limit : ℕ) (bodies : List (List ℕ)) (after : Option (List ℕ)) → next_name (settings_of limit bodies) after ≡ least_of limit after (live_bodies limit bodies [])
next-found limit bodies after =
    next-least (settings_of limit bodies) after (least_of limit after (live_bodies limit bodies [])) (keys-least limit bodies after)

-- ---- record by record

pub least-none : (limit : ℕ) (after : Option (List ℕ)) → least_of limit after [] ≡ None
unfolding least_of
least-none limit after = refl

pub least-push : (limit : ℕ) (after : Option (List ℕ)) (bodies : List (List ℕ)) (body : List ℕ) → least_of limit after (bodies ++ body ∷ []) ≡ least_by after (least_of limit after bodies) (setting_of limit body)
unfolding least_of
least-push limit after bodies body = fold_push (λ least b. least_by after least (setting_of limit b)) None bodies body
