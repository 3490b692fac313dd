-- The next name of the settings is sought among the names of all records: where the least one behind a name has no value, behind that one.
use Rattle.std.proofs.Common.{◌≡◌, ℕ, ◌+◌, ◌<◌, ◌≤◌, Bool, true, false, cond, List, [], ◌∷◌, Option, Some, None, is_lt, refl, sym, ap, subst, ◌∙◌, inl, inr, arith}
use Rattle.std.specs.FinMap as maps
use Rattle.std.proofs.lemmas.Bool.{cases_Bool, false≢true, or_left, or_right, or_cases}
use Rattle.std.proofs.lemmas.Cmp.{nat_list_cmp_total, tied_itself}
use Rattle.std.proofs.lemmas.Slice.Eq.{bytes_eq-Decides}
use Rattle.backend_api.specs.Map.{is_behind, next_name}
use Rattle.backend_api.proofs.LeastLemmas.{cmp, next-least, greater, behind-later, least-other}
use Rattle.record_settings.specs.Settings.{setting_of, settings_of}
use Rattle.backend_api.specs.Least.{IsLeast}
use Rattle.record_settings.specs.Live.{has_name, names, is_live, live_bodies}
use Rattle.record_settings.proofs.PrefixLemmas.{live-prefix}
use Rattle.record_settings.proofs.NextLemmas.{least_of, settings-keys, keys-least, next-found}

-- ---- a name with a value is one of a record

live-named : (limit : ℕ) (bodies : List (List ℕ)) (q : List ℕ) → names limit q (live_bodies limit bodies []) ≡ true → names limit q bodies ≡ true
unfolding live_bodies
live-named limit [] q named = absurd (false≢true named)
live-named limit (body ∷ rest) q named = at (is_live limit body rest) (live-named limit rest q) (sym (ap (names limit q) (live-prefix limit body rest)) ∙ named)
  where
    at : (t : Bool) → (names limit q (live_bodies limit rest []) ≡ true → names limit q rest ≡ true) → names limit q (cond t (body ∷ live_bodies limit rest []) (live_bodies limit rest [])) ≡ true → names limit q (body ∷ rest) ≡ true
    at true later h =
        elim (or_cases (has_name q (setting_of limit body)) (names limit q (live_bodies limit rest [])) h) [
          | inl here ↦ or_left (has_name q (setting_of limit body)) (names limit q rest) here
          | inr there ↦ or_right (has_name q (setting_of limit body)) (names limit q rest) (later there)
        ]
    at false later h = or_right (has_name q (setting_of limit body)) (names limit q rest) (later h)

key-named : (limit : ℕ) (bodies : List (List ℕ)) (q : List ℕ) → maps.contains_key (settings_of limit bodies) q ≡ true → names limit q bodies ≡ true
key-named limit bodies q key = live-named limit bodies q (sym (settings-keys limit bodies q) ∙ key)

-- ---- behind the least name there is what is behind the one before it

same-behind : (limit : ℕ) (before : Option (List ℕ)) (bodies : List (List ℕ)) (name q : List ℕ) → IsLeast before (λ text. names limit text bodies) (Some name) → names limit q bodies ≡ true → (q ≡ name → ⊥) → is_behind before q ≡ is_behind (Some name) q
same-behind limit before bodies name q least named apart =
    elim (cases_Bool (is_behind before q)) [
      | inl behind ↦ behind ∙ sym (greater name q (least.2 q named behind) apart)
      | inr no_behind ↦
          elim (cases_Bool (is_behind (Some name) q)) [
            | inl beyond ↦ absurd (false≢true (sym no_behind ∙ behind-later before name q least.1 beyond))
            | inr neither ↦ no_behind ∙ sym neither
          ]
    ]

next-past : (limit : ℕ) (bodies : List (List ℕ)) (before : Option (List ℕ)) (name : List ℕ) → IsLeast before (λ text. names limit text bodies) (Some name) → maps.contains_key (settings_of limit bodies) name ≡ false
    → next_name (settings_of limit bodies) (Some name) ≡ next_name (settings_of limit bodies) before
next-past limit bodies before name least absent =
    next-least (settings_of limit bodies) (Some name) (least_of limit before (live_bodies limit bodies []))
    (least-other before (Some name) (maps.contains_key (settings_of limit bodies)) (least_of limit before (live_bodies limit bodies []))
    (λ q key. same-behind limit before bodies name q least (key-named limit bodies q key) (λ is. false≢true (sym absent ∙ ap (maps.contains_key (settings_of limit bodies)) (sym is) ∙ key)))
    (keys-least limit bodies before))
    ∙ sym (next-found limit bodies before)

-- ---- the search

-- The name is the least of all records' behind a name, from which on the next name is the one that is sought.
pub record Seeks (limit : ℕ) (bodies : List (List ℕ)) (after : Option (List ℕ)) (name : List ℕ) : Type 0 where
  pub before : Option (List ℕ)
  pub least : IsLeast before (λ text. names limit text bodies) (Some name)
  pub same : next_name (settings_of limit bodies) before ≡ next_name (settings_of limit bodies) after

pub seeks-start : (limit : ℕ) (bodies : List (List ℕ)) (after : Option (List ℕ)) (name : List ℕ) → IsLeast after (λ text. names limit text bodies) (Some name) → Seeks limit bodies after name
seeks-start limit bodies after name least = record { before = after; least = least; same = refl }

-- no record has a name behind
pub seeks-none : (limit : ℕ) (bodies : List (List ℕ)) (after : Option (List ℕ)) → IsLeast after (λ text. names limit text bodies) None → None ≡ next_name (settings_of limit bodies) after
seeks-none limit bodies after least = sym (next-least (settings_of limit bodies) after None (λ q key. least q (key-named limit bodies q key)))

-- the name has no value, and another is behind it
pub seeks-step : (limit : ℕ) (bodies : List (List ℕ)) (after : Option (List ℕ)) (name : List ℕ) → Seeks limit bodies after name → maps.contains_key (settings_of limit bodies) name ≡ false → (next : List ℕ) → IsLeast (Some name) (λ text. names limit text bodies) (Some next)
    → Seeks limit bodies after next
seeks-step limit bodies after name so_far absent next least =
    record { before = Some name; least = least; same = next-past limit bodies so_far.before name so_far.least absent ∙ so_far.same }

-- or none is
pub seeks-past : (limit : ℕ) (bodies : List (List ℕ)) (after : Option (List ℕ)) (name : List ℕ) → Seeks limit bodies after name → maps.contains_key (settings_of limit bodies) name ≡ false → IsLeast (Some name) (λ text. names limit text bodies) None → None ≡ next_name (settings_of limit bodies) after
seeks-past limit bodies after name so_far absent least = seeks-none limit bodies (Some name) least ∙ next-past limit bodies so_far.before name so_far.least absent ∙ so_far.same

-- the name has a value
pub seeks-found : (limit : ℕ) (bodies : List (List ℕ)) (after : Option (List ℕ)) (name : List ℕ) → Seeks limit bodies after name → maps.contains_key (settings_of limit bodies) name ≡ true → Some name ≡ next_name (settings_of limit bodies) after
seeks-found limit bodies after name so_far has =
    sym (next-least (settings_of limit bodies) so_far.before (Some name) (has, so_far.least.1, λ q key behind. so_far.least.2 q (key-named limit bodies q key) behind)) ∙ so_far.same

-- ---- fewer records are left

abbrev is_left : List ℕ → Option (List ℕ × List ℕ) → Bool
is_left name None = false
is_left name (Some (other, value)) = is_lt (cmp name other)

-- how many records have a name behind this one
abbrev pub left_behind : ℕ → List ℕ → List (List ℕ) → ℕ
left_behind limit name [] = 0
left_behind limit name (body ∷ rest) = cond (is_left name (setting_of limit body)) 1 0 + left_behind limit name rest

one-no_more : (s t : Bool) → (s ≡ true → t ≡ true) → cond s 1 0 ≤ cond t 1 0
one-no_more true true h = omega arith
one-no_more true false h = absurd (false≢true (h refl))
one-no_more false t h = omega arith

one-fewer : (s t : Bool) → s ≡ false → t ≡ true → cond s 1 0 < cond t 1 0
one-fewer false true e f = omega arith
one-fewer false false e f = absurd (false≢true f)
one-fewer true t e f = absurd (false≢true (sym e))

setting-no_more : (name next : List ℕ) (setting : Option (List ℕ × List ℕ)) → is_lt (cmp name next) ≡ true → cond (is_left next setting) 1 0 ≤ cond (is_left name setting) 1 0
setting-no_more name next None less = omega arith
setting-no_more name next (Some (other, value)) less = one-no_more (is_lt (cmp next other)) (is_lt (cmp name other)) (λ behind. behind-later (Some name) next other less behind)

setting-fewer : (name next : List ℕ) (setting : Option (List ℕ × List ℕ)) → is_lt (cmp name next) ≡ true → has_name next setting ≡ true → cond (is_left next setting) 1 0 < cond (is_left name setting) 1 0
setting-fewer name next None less here = absurd (false≢true here)
setting-fewer name next (Some (other, value)) less here =
    let same : other ≡ next = (bytes_eq-Decides other next).0 here in
    subst (λ (text : List ℕ). cond (is_lt (cmp next text)) 1 0 < cond (is_lt (cmp name text)) 1 0) (sym same)
    (one-fewer (is_lt (cmp next next)) (is_lt (cmp name next)) (ap is_lt (tied_itself nat_list_cmp_total next)) less)

no_more : (limit : ℕ) (name next : List ℕ) (bodies : List (List ℕ)) → is_lt (cmp name next) ≡ true → left_behind limit next bodies ≤ left_behind limit name bodies
no_more limit name next [] less = omega arith
no_more limit name next (body ∷ rest) less =
    let one = setting-no_more name next (setting_of limit body) less in
    let others = no_more limit name next rest less in
    omega arith

fewer : (limit : ℕ) (name next : List ℕ) (bodies : List (List ℕ)) → is_lt (cmp name next) ≡ true → names limit next bodies ≡ true → left_behind limit next bodies < left_behind limit name bodies
fewer limit name next [] less named = absurd (false≢true named)
fewer limit name next (body ∷ rest) less named =
    elim (or_cases (has_name next (setting_of limit body)) (names limit next rest) named) [
      | inl here ↦
          let one = setting-fewer name next (setting_of limit body) less here in
          let others = no_more limit name next rest less in
          omega arith
      | inr later ↦
          let one = setting-no_more name next (setting_of limit body) less in
          let others = fewer limit name next rest less later in
          omega arith
    ]

pub seeks-smaller : (limit : ℕ) (bodies : List (List ℕ)) (name next : List ℕ) → IsLeast (Some name) (λ text. names limit text bodies) (Some next) → left_behind limit next bodies < left_behind limit name bodies
seeks-smaller limit bodies name next least = fewer limit name next bodies least.1 least.0
