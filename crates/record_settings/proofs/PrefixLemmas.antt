-- The settings from the oldest record on: what one record more in front makes of them.
use Rattle.std.proofs.Common.{◌≡◌, ℕ, ◌+◌, ◌≤◌, Bool, true, false, cond, not, ◌&&◌, ◌==◌, List, [], ◌∷◌, ◌++◌, length, Option, Some, None, Ordering, Less, Equal, Greater, is_eq, bytes_eq, nat_cmp, All, is_some, refl, sym, ap, subst, ◌∙◌, inl, inr, arith}
use Rattle.std.specs.Prelude.{map, sum_by}
use Rattle.std.specs.Cmp.Lexicographic.{slice_cmp}
use Rattle.std.specs.FinMap as maps
use Rattle.std.specs.FinMap.Entries.{by_order}
use Rattle.std.proofs.lemmas.Bool.{cases_Bool, cond-true, cond-false, false≢true}
use Rattle.std.proofs.lemmas.Cmp.{nat_list_cmp_total}
use Rattle.std.proofs.lemmas.List.{append-nil}
use Rattle.std.proofs.lemmas.List.Elements.{All-nil, All-cons, All-head, All-tail}
use Rattle.std.proofs.lemmas.List.Sums.{sum_by-cons}
use Rattle.std.proofs.lemmas.Map.Lookups.{exact_bytes}
use Rattle.std.proofs.lemmas.Slice.Eq.{bytes_eq-Decides}
use Rattle.item_laws.specs.Items.{last}
use Rattle.item_laws.proofs.LivePairs.{last-is, last-append, absent, present}
use Rattle.setting_name.specs.Name.{IsName}
use Rattle.backend_api.specs.Map.{Map, IsValue, IsSettings}
use Rattle.record_settings.specs.Settings.{setting_of, settings_of}
use Rattle.record_settings.specs.Last.{last_value, stored}
use Rattle.record_settings.specs.Live.{names, is_live, is_live_by, live_bodies}
use Rattle.record_settings.specs.Room.{pair_cost}
use Rattle.fcb_ring.specs.Writing.{record_cost}
use Rattle.record_settings.specs.Rounds.{bodies_cost}
use Rattle.record_settings.proofs.BodyLemmas.{setting-says, settings-none}
use Rattle.record_settings.proofs.Coded.{code, pairs_of, pairs-append, names-coded, value_by, last-coded}
use Rattle.record_settings.proofs.LastLemmas.{found_by, last_value-scan, tie, get-settings_of, same_settings}
use Rattle.record_settings.proofs.LiveLemmas.{LiveSetting, live-says}

-- ---- where the last record of a name stands

-- among the later ones
pub last-later : (limit : ℕ) (name : List ℕ) (xs ys : List (List ℕ)) → names limit name ys ≡ true → stored (last_value limit name (xs ++ ys)) ≡ stored (last_value limit name ys)
last-later limit name xs ys named =
    last-coded limit name (xs ++ ys)
    ∙ ap value_by (ap (λ ps. last ps (code name)) (pairs-append limit xs ys)
    ∙ last-append (pairs_of limit xs) (pairs_of limit ys) (code name)
    ∙ present (code name) (last (pairs_of limit xs) (code name)) None (pairs_of limit ys) (sym (names-coded limit name ys) ∙ named)
    ∙ sym (last-is (pairs_of limit ys) (code name)))
    ∙ sym (last-coded limit name ys)

-- before them
pub last-earlier : (limit : ℕ) (name : List ℕ) (xs ys : List (List ℕ)) → names limit name ys ≡ false → stored (last_value limit name (xs ++ ys)) ≡ stored (last_value limit name xs)
last-earlier limit name xs ys none =
    last-coded limit name (xs ++ ys)
    ∙ ap value_by (ap (λ ps. last ps (code name)) (pairs-append limit xs ys)
    ∙ last-append (pairs_of limit xs) (pairs_of limit ys) (code name)
    ∙ absent (code name) (last (pairs_of limit xs) (code name)) (pairs_of limit ys) (sym (names-coded limit name ys) ∙ none))
    ∙ sym (last-coded limit name xs)

-- nowhere
pub last-nowhere : (limit : ℕ) (name : List ℕ) (ys : List (List ℕ)) → names limit name ys ≡ false → stored (last_value limit name ys) ≡ None
last-nowhere limit name ys none =
    last-coded limit name ys ∙ ap value_by (last-is (pairs_of limit ys) (code name) ∙ absent (code name) None (pairs_of limit ys) (sym (names-coded limit name ys) ∙ none))

last-one : (limit : ℕ) (name body : List ℕ) → last_value limit name (body ∷ []) ≡ found_by name None (setting_of limit body)
last-one limit name body = last_value-scan limit name (body ∷ [])

-- ---- a record in front that is not live

gone_value : (s t : Bool) → (not s && not t) ≡ false → t ≡ false → s ≡ true
gone_value true t dead none = refl
gone_value false true dead none = absurd (false≢true (sym none))
gone_value false false dead none = absurd (false≢true (sym dead))

dead-finds : (limit : ℕ) (name : List ℕ) (rest : List (List ℕ)) (setting : Option (List ℕ × List ℕ)) → is_live_by limit setting rest ≡ false → names limit name rest ≡ false → stored (found_by name None setting) ≡ None
dead-finds limit name rest None dead none = refl
dead-finds limit name rest (Some (other, value)) dead none =
    elim (cases_Bool (bytes_eq other name)) [
      | inl here ↦
          let unnamed : names limit other rest ≡ false = ap (λ text. names limit text rest) ((bytes_eq-Decides other name).0 here) ∙ none in
          let gone : (length value == 0) ≡ true = gone_value (length value == 0) (names limit other rest) dead unnamed in
          ap (λ (t : Bool). stored (cond t (Some value) None)) here ∙ ap (λ (t : Bool). cond t None (Some value)) gone
      | inr apart ↦ ap (λ (t : Bool). stored (cond t (Some value) None)) apart
    ]

pub settings-dead : (limit : ℕ) (body : List ℕ) (rest : List (List ℕ)) → is_live limit body rest ≡ false → settings_of limit (body ∷ rest) ≡ settings_of limit rest
settings-dead limit body rest dead =
    same_settings limit (body ∷ rest) rest
    (λ name.
    elim (cases_Bool (names limit name rest)) [
      | inl named ↦ last-later limit name (body ∷ []) rest named
      | inr none ↦ last-earlier limit name (body ∷ []) rest none ∙ ap stored (last-one limit name body) ∙ dead-finds limit name rest (setting_of limit body) dead none ∙ sym (last-nowhere limit name rest none)
    ])

-- ---- a record in front that is live

pub live-absent : (limit : ℕ) (body : List ℕ) (rest : List (List ℕ)) (live : LiveSetting limit body rest) → maps.get (settings_of limit rest) live.name ≡ None
live-absent limit body rest live = get-settings_of limit rest live.name ∙ last-nowhere limit live.name rest live.last

pub settings-live : (limit : ℕ) (body : List ℕ) (rest : List (List ℕ)) (live : LiveSetting limit body rest) → settings_of limit (body ∷ rest) ≡ maps.insert (settings_of limit rest) live.name live.value
settings-live limit body rest live =
    maps.same_map nat_list_cmp_total exact_bytes (settings_of limit (body ∷ rest)) (maps.insert (settings_of limit rest) live.name live.value)
    (λ q. get-settings_of limit (body ∷ rest) q ∙ at q
    ∙ sym (maps.get-insert nat_list_cmp_total (settings_of limit rest) live.name live.value q
    ∙ ap (λ (t : Bool). cond t (Some live.value) (maps.get (settings_of limit rest) q)) (tie q live.name)
    ∙ ap (λ (o : Option (List ℕ)). cond (bytes_eq live.name q) (Some live.value) o) (get-settings_of limit rest q)))
  where
    has : stored (Some live.value) ≡ Some live.value
    has = ap (λ (t : Bool). cond t None (Some live.value)) live.bytes

    one : (q : List ℕ) (t : Bool) → bytes_eq live.name q ≡ t → stored (cond t (Some live.value) None) ≡ cond t (Some live.value) None
    one q true is = has
    one q false is = refl

    at : (q : List ℕ) → stored (last_value limit q (body ∷ rest)) ≡ cond (bytes_eq live.name q) (Some live.value) (stored (last_value limit q rest))
    at q =
        elim (cases_Bool (names limit q rest)) [
          | inl named ↦
              let apart : bytes_eq live.name q ≡ false =
              elim (cases_Bool (bytes_eq live.name q)) [
                | inl here ↦ absurd (false≢true (sym live.last ∙ ap (λ text. names limit text rest) ((bytes_eq-Decides live.name q).0 here) ∙ named))
                | inr other ↦ other
              ] in
              last-later limit q (body ∷ []) rest named ∙ sym (ap (λ (t : Bool). cond t (Some live.value) (stored (last_value limit q rest))) apart)
          | inr none ↦
              last-earlier limit q (body ∷ []) rest none ∙ ap stored (last-one limit q body ∙ ap (found_by q None) live.says)
              ∙ one q (bytes_eq live.name q) refl
              ∙ ap (λ (o : Option (List ℕ)). cond (bytes_eq live.name q) (Some live.value) o) (sym (last-nowhere limit q rest none))
        ]

-- ---- the entries of a map after one item more

module _ {K X : Type 0} (R : K → K → Ordering) where
  some_none : (v : X) → Some v ≡ None → ⊥
  some_none v e = cc

  pub put-sum : (f : K × X → ℕ) (k : K) (v : X) (es : List (K × X)) → maps.find R k es ≡ None → sum_by f (maps.put R k v es) ≡ f (k, v) + sum_by f es
  put-sum f k v [] none = sum_by-cons f (k, v) []
  put-sum f k v (e ∷ es) none =
      elim (R k e.0) as (λ (o : Ordering). R k e.0 ≡ o → sum_by f (by_order o ((k, v) ∷ e ∷ es) ((e.0, v) ∷ es) (e ∷ maps.put R k v es)) ≡ f (k, v) + sum_by f (e ∷ es)) [
        | Less ↦ λ is. sum_by-cons f (k, v) (e ∷ es)
        | Equal ↦ λ is. absurd (some_none e.1 (sym (ap (λ (o : Ordering). cond (is_eq o) (Some e.1) (maps.find R k es)) is) ∙ none))
        | Greater ↦ λ is.
            let later : maps.find R k es ≡ None = sym (ap (λ (o : Ordering). cond (is_eq o) (Some e.1) (maps.find R k es)) is) ∙ none in
            let ih = put-sum f k v es later in
            let more = sum_by-cons f e (maps.put R k v es) in
            let all = sum_by-cons f e es in
            omega arith
      ] refl

  pub put-keys : (P : K → Type 0) (k : K) (v : X) (es : List (K × X)) → P k → All P (map (λ e. e.0) es) → All P (map (λ e. e.0) (maps.put R k v es))
  put-keys P k v [] here all = All-cons P k [] here (All-nil P)
  put-keys P k v (e ∷ es) here all =
      elim (R k e.0) as (λ (o : Ordering). All P (map (λ x. x.0) (by_order o ((k, v) ∷ e ∷ es) ((e.0, v) ∷ es) (e ∷ maps.put R k v es)))) [
        | Less ↦ All-cons P k (e.0 ∷ map (λ x. x.0) es) here all
        | Equal ↦ all
        | Greater ↦
            All-cons P e.0 (map (λ x. x.0) (maps.put R k v es)) (All-head P e.0 (map (λ x. x.0) es) all) (put-keys P k v es here (All-tail P e.0 (map (λ x. x.0) es) all))
      ]

  pub put-values : (P : X → Type 0) (k : K) (v : X) (es : List (K × X)) → P v → All P (map (λ e. e.1) es) → All P (map (λ e. e.1) (maps.put R k v es))
  put-values P k v [] here all = All-cons P v [] here (All-nil P)
  put-values P k v (e ∷ es) here all =
      elim (R k e.0) as (λ (o : Ordering). All P (map (λ x. x.1) (by_order o ((k, v) ∷ e ∷ es) ((e.0, v) ∷ es) (e ∷ maps.put R k v es)))) [
        | Less ↦ All-cons P v (e.1 ∷ map (λ x. x.1) es) here all
        | Equal ↦ All-cons P v (map (λ x. x.1) es) here (All-tail P e.1 (map (λ x. x.1) es) all)
        | Greater ↦
            All-cons P e.1 (map (λ x. x.1) (maps.put R k v es)) (All-head P e.1 (map (λ x. x.1) es) all) (put-values P k v es here (All-tail P e.1 (map (λ x. x.1) es) all))
      ]

no_entries : {A : Type 0} (es : List A) → length es ≡ 0 → es ≡ []
no_entries [] e = refl
no_entries (x ∷ es) e = absurd (omega arith)

pub entries-none : (limit : ℕ) → maps.entries (settings_of limit []) ≡ []
entries-none limit =
    let none : length (maps.entries (settings_of limit [])) ≡ 0 = ap (λ (m : Map). length (maps.entries m)) (settings-none limit) ∙ sym (maps.len-entries (maps.empty {X = List ℕ} {R = slice_cmp nat_cmp})) ∙ maps.len-empty (slice_cmp nat_cmp) (List ℕ) in
    no_entries (maps.entries (settings_of limit [])) none

pub entries-live : (limit : ℕ) (body : List ℕ) (rest : List (List ℕ)) (live : LiveSetting limit body rest)
    → maps.entries (settings_of limit (body ∷ rest)) ≡ maps.put (slice_cmp nat_cmp) live.name live.value (maps.entries (settings_of limit rest))
entries-live limit body rest live = ap maps.entries (settings-live limit body rest live) ∙ maps.entries-insert nat_list_cmp_total (settings_of limit rest) live.name live.value

-- ---- what the settings cost

-- what a record in front adds to the records that are live
pub live-prefix : (limit : ℕ) (body : List ℕ) (rest : List (List ℕ)) → live_bodies limit (body ∷ rest) [] ≡ cond (is_live limit body rest) (body ∷ live_bodies limit rest []) (live_bodies limit rest [])
unfolding live_bodies
live-prefix limit body rest = ap (λ later. cond (is_live limit body later) (body ∷ live_bodies limit rest []) (live_bodies limit rest [])) (append-nil rest)

live-cost : (limit unit : ℕ) (body : List ℕ) (rest : List (List ℕ)) (live : LiveSetting limit body rest) → sum_by (pair_cost unit) (maps.entries (settings_of limit (body ∷ rest))) ≡ pair_cost unit (live.name, live.value) + sum_by (pair_cost unit) (maps.entries (settings_of limit rest))
live-cost limit unit body rest live =
    ap (sum_by (pair_cost unit)) (entries-live limit body rest live)
    ∙ put-sum (slice_cmp nat_cmp) (pair_cost unit) live.name live.value (maps.entries (settings_of limit rest)) (sym (maps.get-entries (settings_of limit rest) live.name) ∙ live-absent limit body rest live)

-- The settings cost what the records cost that are the last of their name and have a value.
pub settings-cost : (limit unit : ℕ) (bodies : List (List ℕ)) → sum_by (pair_cost unit) (maps.entries (settings_of limit bodies)) ≡ bodies_cost unit (live_bodies limit bodies [])
unfolding live_bodies
settings-cost limit unit [] = ap (sum_by (pair_cost unit)) (entries-none limit)
settings-cost limit unit (body ∷ rest) =
    elim (cases_Bool (is_live limit body rest)) [
      | inl live ↦
          let says = live-says limit body rest live in
          let long : length body ≡ length says.name + 1 + length says.value = (setting-says limit body says.name says.value says.says).long in
          live-cost limit unit body rest says
          ∙ ap (λ n. record_cost unit n + sum_by (pair_cost unit) (maps.entries (settings_of limit rest))) (sym long)
          ∙ ap (λ n. record_cost unit (length body) + n) (settings-cost limit unit rest)
          ∙ sym (sum_by-cons (λ b. record_cost unit (length b)) body (live_bodies limit rest []))
          ∙ sym (ap (bodies_cost unit) (live-prefix limit body rest ∙ cond-true (is_live limit body rest) (body ∷ live_bodies limit rest []) (live_bodies limit rest []) live))
      | inr dead ↦
          ap (λ (m : Map). sum_by (pair_cost unit) (maps.entries m)) (settings-dead limit body rest dead) ∙ settings-cost limit unit rest
          ∙ sym (ap (bodies_cost unit) (live-prefix limit body rest ∙ cond-false (is_live limit body rest) (body ∷ live_bodies limit rest []) (live_bodies limit rest []) dead))
    ]

-- ---- what the settings are

pub settings-few : (limit : ℕ) (bodies : List (List ℕ)) → maps.len (settings_of limit bodies) ≤ length bodies
settings-few limit [] = let none = ap length (entries-none limit) in let long = maps.len-entries (settings_of limit []) in omega arith
settings-few limit (body ∷ rest) =
    let ih = settings-few limit rest in
    elim (cases_Bool (is_live limit body rest)) [
      | inl live ↦
          let says = live-says limit body rest live in
          let more = ap maps.len (settings-live limit body rest says) ∙ maps.len-insert nat_list_cmp_total (settings_of limit rest) says.name says.value in
          let none = ap (λ (o : Option (List ℕ)). cond (is_some o) (maps.len (settings_of limit rest)) (maps.len (settings_of limit rest) + 1)) (live-absent limit body rest says) in
          omega arith
      | inr dead ↦ let same = ap maps.len (settings-dead limit body rest dead) in omega arith
    ]

pub settings-names : (limit : ℕ) (bodies : List (List ℕ)) → All IsName (maps.keys (settings_of limit bodies))
settings-names limit [] = subst (λ (es : List (List ℕ × List ℕ)). All IsName (map (λ e. e.0) es)) (sym (entries-none limit)) (All-nil IsName)
settings-names limit (body ∷ rest) =
    elim (cases_Bool (is_live limit body rest)) [
      | inl live ↦
          let says = live-says limit body rest live in
          subst (λ (es : List (List ℕ × List ℕ)). All IsName (map (λ e. e.0) es)) (sym (entries-live limit body rest says))
          (put-keys (slice_cmp nat_cmp) IsName says.name says.value (maps.entries (settings_of limit rest)) (setting-says limit body says.name says.value says.says).lawful (settings-names limit rest))
      | inr dead ↦ subst (λ (m : Map). All IsName (maps.keys m)) (sym (settings-dead limit body rest dead)) (settings-names limit rest)
    ]

some_bytes : (value : List ℕ) → (length value == 0) ≡ false → 1 ≤ length value
some_bytes [] bytes = absurd (false≢true (sym bytes))
some_bytes (byte ∷ rest) bytes = omega arith

pub settings-values : (limit : ℕ) (bodies : List (List ℕ)) → All (IsValue limit) (maps.values (settings_of limit bodies))
settings-values limit [] = subst (λ (es : List (List ℕ × List ℕ)). All (IsValue limit) (map (λ e. e.1) es)) (sym (entries-none limit)) (All-nil (IsValue limit))
settings-values limit (body ∷ rest) =
    elim (cases_Bool (is_live limit body rest)) [
      | inl live ↦
          let says = live-says limit body rest live in
          let short = (setting-says limit body says.name says.value says.says).short in
          subst (λ (es : List (List ℕ × List ℕ)). All (IsValue limit) (map (λ e. e.1) es)) (sym (entries-live limit body rest says))
          (put-values (slice_cmp nat_cmp) (IsValue limit) says.name says.value (maps.entries (settings_of limit rest)) (some_bytes says.value says.bytes, short) (settings-values limit rest))
      | inr dead ↦ subst (λ (m : Map). All (IsValue limit) (maps.values m)) (sym (settings-dead limit body rest dead)) (settings-values limit rest)
    ]

-- few records are settings with lawful names and values
pub is-settings : (limit : ℕ) (bodies : List (List ℕ)) → length bodies ≤ 2097152 → IsSettings limit (settings_of limit bodies)
is-settings limit bodies few = record { names = settings-names limit bodies; values = settings-values limit bodies; few = (let le = settings-few limit bodies in omega arith) }
