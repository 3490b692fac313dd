-- A registry whose handlers hold lawful settings stays so.
use Rattle.std.proofs.Common.{◌≡◌, ℕ, zero, suc, ◌<◌, Bool, true, false, cond, List, [], ◌∷◌, length, get_or, map, take, Option, Some, None, Result, Ok, Err, ◌+◌, inl, inr, refl, sym, ap, subst, ◌∙◌, arith}
use Rattle.std.specs.Prelude.{All, nat_lt, ◌&&◌, option_map}
use Rattle.std.specs.List.{filter_map, cons_option}
use Rattle.std.specs.Option.{option_map_or, unwrap_or}
use Rattle.std.specs.FinMap.{entries, insert, empty, from_sorted, entries-insert, entries-from_sorted, empty_of_len, len-entries}
use Rattle.std.specs.FinMap.Entries.{put, by_order}
use Rattle.std.specs.Ordering.{nat_cmp}
use Rattle.std.specs.declared.cmp.Ordering.{Ordering}
use Rattle.std.specs.declared.cmp.Ordering.TheVariants.{Less, Equal, Greater}
use Rattle.std.specs.Cmp.Lexicographic.{slice_cmp, nat_list_cmp_total}
use Rattle.std.proofs.lemmas.Bool.{ltb-true}
use Rattle.std.proofs.lemmas.List.{get_or-map, length-map}
use Rattle.std.proofs.Math.ListN as lists
use Rattle.std.proofs.lemmas.List.Elements.{All-cons, All-map, All-set, All-append}
use Rattle.std.proofs.lemmas.List.Quantifiers.{position-Some}
use Rattle.setting_name.specs.Name.{IsName, parts_of}
use Rattle.setting_name.specs.Match.{joined_text, matched_rest}
use Rattle.setting_name.proofs.MatchLemmas.{joined_text-match}
use Rattle.backend_api.specs.Map.{Map, IsValue, IsSettings}
use Rattle.handlers.specs.Best.{best, depth, is_greatest}
use Rattle.handlers.specs.Held.{Held, HandlerState, accepts, given, fresh}
use Rattle.handlers.specs.Registry.{Registered, subtrees, nobody, state_at}
use Rattle.settings_core.specs.Committing.{is_under, commit_one, commit_all}
use Rattle.settings_core.specs.Deliveries.{Delivery, Give, delivery, delivered, settings_under, offered, deliver, deliver_all}
use Rattle.settings_core.specs.Saving.{pairs_of, AreSettings, AreLawful}
use Rattle.settings_core.specs.Loading.{LoadEnds}
use Rattle.settings_core.specs.Runtime.{RuntimeSetEnds}
use Rattle.settings_core.specs.declared.loading.Loaded.{Loaded}
use Rattle.settings_core.specs.declared.loading.LoadFault.{LoadFault}
use Rattle.settings_core.specs.declared.loading.LoadFault.TheVariants.{Off, NoMemory}
use Rattle.settings_core.specs.declared.runtime.RuntimeFault.{RuntimeFault}
use Rattle.settings_core.specs.declared.runtime.RuntimeFault.TheVariants.{NoHandler, Rejected, NoMemory as RuntimeNoMemory}
use Rattle.settings_core.specs.Laws.{StaysLawful}
use Rattle.settings_core.proofs.SeatLemmas.{deliver_all-seats, subtrees-same}
use Rattle.settings_core.proofs.ListedLemmas.{Setting}

-- a pair may be stored under the subtree
abbrev MayStore : ℕ → List ℕ → Setting → Type 0
MayStore limit subtree pair = IsName (joined_text subtree pair.0) × IsValue limit pair.1

pub head_of : {X : Type 0} (P : X → Type 0) (x : X) (xs : List X) → All P (x ∷ xs) → P x
head_of P x xs all = all 0 x (omega arith)

pub tail_of : {X : Type 0} (P : X → Type 0) (x : X) (xs : List X) → All P (x ∷ xs) → All P xs
tail_of P x xs all = λ i d lt. all (suc i) d (omega arith)

none_of : {X : Type 0} (P : X → Type 0) → All P []
none_of P = λ i d lt. absurd (omega arith)

module _ (limit : ℕ) (subtree : List ℕ) where
  all_put : (es : List Setting) (rest value : List ℕ) → MayStore limit subtree (rest, value) → All (MayStore limit subtree) es → All (MayStore limit subtree) (put (slice_cmp nat_cmp) rest value es)
  all_put [] rest value may all = All-cons (MayStore limit subtree) (rest, value) [] may (none_of (MayStore limit subtree))
  all_put (e ∷ es) rest value may all = by (slice_cmp nat_cmp rest e.0) (all_put es rest value may (tail_of (MayStore limit subtree) e es all))
    where
      by : (o : Ordering) → All (MayStore limit subtree) (put (slice_cmp nat_cmp) rest value es) → All (MayStore limit subtree) (by_order o ((rest, value) ∷ e ∷ es) ((e.0, value) ∷ es) (e ∷ put (slice_cmp nat_cmp) rest value es))
      by Less more = All-cons (MayStore limit subtree) (rest, value) (e ∷ es) may all
      by Equal more = All-cons (MayStore limit subtree) (e.0, value) es ((head_of (MayStore limit subtree) e es all).0, may.1) (tail_of (MayStore limit subtree) e es all)
      by Greater more = All-cons (MayStore limit subtree) e (put (slice_cmp nat_cmp) rest value es) (head_of (MayStore limit subtree) e es all) more

  may_all : (held : Held) → AreSettings limit (pairs_of subtree held) → All (MayStore limit subtree) (entries held)
  may_all held all = λ i d lt.
      subst (λ (pair : Setting). IsName pair.0 × IsValue limit pair.1) (get_or-map (λ (pair : Setting). (joined_text subtree pair.0, pair.1)) (entries held) i d ([], []) lt)
      (all i ([], []) (omega (arith, lt, length-map {B = Setting} (entries held) (λ pair. (joined_text subtree pair.0, pair.1)))))

  are_all : (held : Held) → All (MayStore limit subtree) (entries held) → AreSettings limit (pairs_of subtree held)
  are_all held all = All-map (λ (pair : Setting). IsName pair.0 × IsValue limit pair.1) (λ (pair : Setting). (joined_text subtree pair.0, pair.1)) (entries held) all

  settings_put : (held : Held) (rest value : List ℕ) → IsName (joined_text subtree rest) → IsValue limit value → AreSettings limit (pairs_of subtree held) → AreSettings limit (pairs_of subtree (insert held rest value))
  settings_put held rest value name is_value all =
      are_all (insert held rest value) (subst (λ es. All (MayStore limit subtree) es) (sym (entries-insert nat_list_cmp_total held rest value)) (all_put (entries held) rest value (name, is_value) (may_all held all)))

  settings_none : AreSettings limit (pairs_of subtree empty)
  settings_none =
      let nothing = entries-from_sorted {X = List ℕ} (slice_cmp nat_cmp) [] tt in
      are_all empty (subst (λ es. All (MayStore limit subtree) es)
      (sym (ap (λ (m : Held). entries m) (sym (empty_of_len (from_sorted []) (len-entries (from_sorted []) ∙ ap length nothing))) ∙ nothing)) (none_of (MayStore limit subtree)))

  settings_offered : (h : HandlerState) (rest value : List ℕ) → IsName (joined_text subtree rest) → IsValue limit value → AreSettings limit (pairs_of subtree h.held) → (b : Bool) → AreSettings limit (pairs_of subtree (cond b (given h rest value) h).held)
  settings_offered h rest value name is_value all true = settings_put h.held rest value name is_value all
  settings_offered h rest value name is_value all false = all

-- ---- where a delivery goes

pub record GoesTo (to : List (List ℕ)) (setting : Setting) (d : Delivery) : Type 0 where
  pub within : d.place < length to
  pub matches : matched_rest setting.0 (get_or to d.place []) ≡ Some d.rest
  pub value_is : d.value ≡ setting.1

first_true : (a b : Bool) → (a && b) ≡ true → a ≡ true
first_true true b is = refl
first_true false b is = is

rest_some : (o : Option (List ℕ)) (n : ℕ) → 0 < option_map_or (λ rest. n) o 0 → o ≡ Some (unwrap_or o [])
rest_some None n lt = absurd (omega arith)
rest_some (Some rest) n lt = refl

pub goes_to : (to : List (List ℕ)) (setting : Setting) (d : Delivery) → delivery to setting ≡ Some d → GoesTo to setting d
goes_to to setting d is = by (best to setting.0) refl is
  where
    made : ℕ → Delivery
    made place = record { place = place; rest = unwrap_or (matched_rest setting.0 (get_or to place [])) []; value = setting.1 }

    same : (a b : Delivery) → Some a ≡ Some b → a ≡ b
    same a b is = cc

    there : (place : ℕ) → best to setting.0 ≡ Some place → GoesTo to setting (record { place = place; rest = unwrap_or (matched_rest setting.0 (get_or to place [])) []; value = setting.1 })
    there place at =
        let ds = map (depth setting.0) to in
        let found = position-Some (is_greatest ds) ds place 0 at in
        let lt : place < length to = omega (arith, found.0, length-map to (depth setting.0)) in
        let deep : 0 < get_or ds place 0 = ltb-true 0 (get_or ds place 0) (first_true (nat_lt 0 (get_or ds place 0)) _ found.1) in
        record {
          within = lt;
          matches = rest_some (matched_rest setting.0 (get_or to place [])) (length (parts_of (get_or to place []))) (subst (λ n. 0 < n) (get_or-map (depth setting.0) to place [] 0 lt) deep);
          value_is = refl;
        }

    by : (o : Option ℕ) → best to setting.0 ≡ o → option_map (λ place. record { place = place; rest = unwrap_or (matched_rest setting.0 (get_or to place [])) []; value = setting.1 }) o ≡ Some d → GoesTo to setting d
    by None at is = absurd (cc)
    by (Some place) at is = subst (λ x. GoesTo to setting x) (same _ d is) (there place at)

-- ---- the registry

takes_lawful : (limit : ℕ) (handlers : List Registered) (name value : List ℕ) (d : Delivery) → AreLawful limit handlers → IsName name → IsValue limit value → delivery (subtrees handlers) (name, value) ≡ Some d → AreLawful limit (deliver handlers d)
takes_lawful limit handlers name value d lawful is_name is_value is =
    let goes = goes_to (subtrees handlers) (name, value) d is in
    let old = get_or handlers d.place nobody in
    let lt : d.place < length handlers = omega (arith, goes.within, length-map handlers (λ (h : Registered). h.subtree)) in
    let own : get_or (subtrees handlers) d.place [] ≡ old.subtree = lists.get_or-map (λ (h : Registered). h.subtree) handlers d.place nobody in
    let joined : name ≡ joined_text old.subtree d.rest = joined_text-match name old.subtree d.rest is_name.whole (ap (matched_rest name) (sym own) ∙ goes.matches) in
    All-set (λ (h : Registered). AreSettings limit (pairs_of h.subtree h.state.held)) handlers d.place (record old { state = offered (state_at handlers d.place) d.rest d.value })
    (settings_offered limit old.subtree old.state d.rest d.value (subst IsName joined is_name) (subst (IsValue limit) (sym goes.value_is) is_value) (lawful d.place nobody lt) (accepts old.state.kind d.value)) lawful

-- lawful names and values
abbrev pub AreGood : ℕ → List Setting → Type 0
AreGood limit settings = All (λ s. IsName s.0 × IsValue limit s.1) settings

loads_lawful : (limit : ℕ) (subtree : Option (List ℕ)) (to : List (List ℕ)) (settings : List Setting) (handlers : List Registered) → subtrees handlers ≡ to → AreGood limit settings → AreLawful limit handlers
    → AreLawful limit (deliver_all handlers (delivered to subtree settings))
loads_lawful limit subtree to [] handlers same good lawful = lawful
loads_lawful limit subtree to (s ∷ settings) handlers same good lawful =
    let rest = tail_of (λ (x : Setting). IsName x.0 × IsValue limit x.1) s settings good in
    under (is_under subtree s.0) (loads_lawful limit subtree to settings handlers same rest lawful) (λ d is. loads_lawful limit subtree to settings (deliver handlers d)
    (subtrees-same (deliver handlers d) handlers (deliver_all-seats (d ∷ []) handlers) ∙ same) rest
    (takes_lawful limit handlers s.0 s.1 d lawful (head_of (λ (x : Setting). IsName x.0 × IsValue limit x.1) s settings good).0 (head_of (λ (x : Setting). IsName x.0 × IsValue limit x.1) s settings good).1 (ap (λ t. delivery t s) same ∙ is)))
  where
    one : (o : Option Delivery) → delivery to s ≡ o → AreLawful limit (deliver_all handlers (delivered to subtree settings)) → ((d : Delivery) → delivery to s ≡ Some d → AreLawful limit (deliver_all (deliver handlers d) (delivered to subtree settings)))
        → AreLawful limit (deliver_all handlers (cons_option o (delivered to subtree settings)))
    one None is passed given_one = passed
    one (Some d) is passed given_one = given_one d is

    under : (b : Bool) → AreLawful limit (deliver_all handlers (delivered to subtree settings)) → ((d : Delivery) → delivery to s ≡ Some d → AreLawful limit (deliver_all (deliver handlers d) (delivered to subtree settings)))
        → AreLawful limit (deliver_all handlers (filter_map (delivery to) (cond b (s ∷ settings_under subtree settings) (settings_under subtree settings))))
    under true passed given_one = one (delivery to s) refl passed given_one
    under false passed given_one = passed

pub good_settings : (limit : ℕ) (settings : Map) → IsSettings limit settings → AreGood limit (entries settings)
good_settings limit settings lawful = λ i d lt. (
  subst IsName (get_or-map (λ (e : Setting). e.0) (entries settings) i d [] lt) (lawful.names i [] (omega (arith, lt, length-map (entries settings) (λ (e : Setting). e.0)))),
  subst (IsValue limit) (get_or-map (λ (e : Setting). e.1) (entries settings) i d [] lt) (lawful.values i [] (omega (arith, lt, length-map (entries settings) (λ (e : Setting). e.1)))),
)

good_some : (limit count : ℕ) (settings : List Setting) → AreGood limit settings → AreGood limit (take count settings)
good_some limit zero settings good = none_of (λ (x : Setting). IsName x.0 × IsValue limit x.1)
good_some limit (suc count) [] good = good
good_some limit (suc count) (s ∷ settings) good =
    All-cons (λ (x : Setting). IsName x.0 × IsValue limit x.1) s (take count settings) (head_of (λ (x : Setting). IsName x.0 × IsValue limit x.1) s settings good)
    (good_some limit count settings (tail_of (λ (x : Setting). IsName x.0 × IsValue limit x.1) s settings good))

commit_lawful : (limit : ℕ) (h : Registered) (b : Bool) (next : HandlerState) → next.held ≡ h.state.held → AreSettings limit (pairs_of h.subtree h.state.held) → AreSettings limit (pairs_of (cond b (record h { state = next }) h).subtree (cond b (record h { state = next }) h).state.held)
commit_lawful limit h true next same lawful = subst (λ (m : Held). AreSettings limit (pairs_of h.subtree m)) (sym same) lawful
commit_lawful limit h false next same lawful = lawful

commits_lawful : (limit : ℕ) (handlers : List Registered) (subtree : Option (List ℕ)) → AreLawful limit handlers → AreLawful limit (commit_all subtree handlers)
commits_lawful limit handlers subtree lawful =
    All-map (λ (h : Registered). AreSettings limit (pairs_of h.subtree h.state.held)) (commit_one subtree) handlers
    (λ i d lt. commit_lawful limit (get_or handlers i d) (is_under subtree (get_or handlers i d).subtree) _ refl (lawful i d lt))

load_lawful : (limit : ℕ) (handlers : List Registered) (up : Bool) (after : List Registered) (old new : Option (List Give)) (subtree : Option (List ℕ)) (settings : Map) (result : Result Loaded LoadFault)
    → AreLawful limit handlers → IsSettings limit settings → LoadEnds up handlers after old new subtree (entries settings) result → AreLawful limit after
load_lawful limit handlers up after old new subtree settings (Ok loaded) lawful is ends =
    subst (AreLawful limit) (sym ends.1.2) (commits_lawful limit ends.1.0 subtree
    (subst (AreLawful limit) (sym ends.1.1.handlers) (loads_lawful limit subtree (subtrees handlers) (entries settings) handlers refl (good_settings limit settings is) lawful)))
load_lawful limit handlers up after old new subtree settings (Err Off) lawful is ends = subst (AreLawful limit) (sym ends.1) lawful
load_lawful limit handlers up after old new subtree settings (Err NoMemory) lawful is ends =
    let some : (count : ℕ) → AreLawful limit (deliver_all handlers (delivered (subtrees handlers) subtree (take count (entries settings)))) =
    λ count. loads_lawful limit subtree (subtrees handlers) (take count (entries settings)) handlers refl (good_some limit count (entries settings) (good_settings limit settings is)) lawful in
    elim ends.1.handlers [
      | inl same ↦ subst (AreLawful limit) (sym same) (some ends.1.count)
      | inr more ↦ subst (AreLawful limit) (sym more) (some (ends.1.count + 1))
    ]

set_lawful : (limit : ℕ) (handlers after : List Registered) (name value : List ℕ) (result : Result (Unit {0}) RuntimeFault) → AreLawful limit handlers → IsName name → IsValue limit value → RuntimeSetEnds handlers after name value result → AreLawful limit after
set_lawful limit handlers after name value (Ok x) lawful is_name is_value ends = subst (AreLawful limit) (sym ends.after_is) (takes_lawful limit handlers name value ends.d lawful is_name is_value ends.is)
set_lawful limit handlers after name value (Err NoHandler) lawful is_name is_value ends = subst (AreLawful limit) (sym ends.1) lawful
set_lawful limit handlers after name value (Err Rejected) lawful is_name is_value ends = subst (AreLawful limit) (sym ends.1) lawful
set_lawful limit handlers after name value (Err RuntimeNoMemory) lawful is_name is_value ends = subst (AreLawful limit) (sym ends.1) lawful

pub stays_lawful : (limit : ℕ) (handlers : List Registered) → AreLawful limit handlers → StaysLawful limit handlers
stays_lawful limit handlers lawful = record {
  registers = λ subtree kind.
      All-append (λ (h : Registered). AreSettings limit (pairs_of h.subtree h.state.held)) handlers _ lawful
      (All-cons (λ (h : Registered). AreSettings limit (pairs_of h.subtree h.state.held)) (record { subtree = subtree; state = fresh kind }) [] (settings_none limit subtree) (none_of (λ (h : Registered). AreSettings limit (pairs_of h.subtree h.state.held))));
  takes = λ name value d is_name is_value is. takes_lawful limit handlers name value d lawful is_name is_value is;
  loads = λ subtree settings is. loads_lawful limit subtree (subtrees handlers) (entries settings) handlers refl (good_settings limit settings is) lawful;
  loads_some = λ subtree settings count is. loads_lawful limit subtree (subtrees handlers) (take count (entries settings)) handlers refl (good_some limit count (entries settings) (good_settings limit settings is)) lawful;
  commits = λ subtree. commits_lawful limit handlers subtree lawful;
  load_ends = λ up after old new subtree settings result is ends. load_lawful limit handlers up after old new subtree settings result lawful is ends;
  set_ends = λ after name value result is_name is_value ends. set_lawful limit handlers after name value result lawful is_name is_value ends;
}
