-- A table of last entries and a set of their ids, made from the newest entry back.
use Rattle.std.proofs.Common.{◌≡◌, ℕ, ◌^◌, ◌<◌, ◌≤◌, Bool, true, false, not, ◌||◌, cond, eqb, ltb, List, [], ◌∷◌, ◌++◌, Option, Some, None, refl, sym, ap, subst, ◌∙◌, inl, inr, arith}
use Rattle.std.specs.Prelude.{is_some, IfSome, fold}
use Rattle.std.specs.List.{All, Contains, list_any}
use Rattle.std.specs.Option.{option_map, option_or, option_to_list}
use Rattle.std.proofs.lemmas.Bool.{false≢true, cases_Bool, eqb-true}
use Rattle.std.proofs.lemmas.List.Elements.{All-cons, All-head, All-tail, All-append, All-weaker, All-nil, All-contains, All-contains_itself, Contains-append_right}
use Rattle.item_laws.proofs.Newest.{last-append, some_first}
use Rattle.item_store.specs.declared.entry.Entry.{Entry}
use Rattle.item_store.specs.declared.entry.Placed.{Placed}
use Rattle.item_store.specs.declared.latest.LastSlots.{LastSlots}
use Rattle.item_store.specs.declared.seen.Seen.{Seen}
use Rattle.item_store.specs.SectorFormat.{placed_at}
use Rattle.item_store.specs.Latest.{last_of_id, with_bytes, IsKnown, Knows, Covers}
use Rattle.item_store.specs.Seen.{key_of, usual_id, has_bit, HasSeen, IsExact}
use Rattle.item_store.proofs.LastTables.{last-push, or-none}
use Rattle.item_store.proofs.SeenSteps.{or-true}
use Rattle.item_store.proofs.LiveSteps.{key_below, key_short, some_from, exact_all}

-- ---- the last of an id, where one entry stands in front

pub prefix-last : (id : ℕ) (p : Placed) (later : List Placed) → last_of_id id (p ∷ later) ≡ option_or (last_of_id id later) (cond (eqb p.id id) (Some p) None)
prefix-last id p later = last-append (λ (q : Placed). eqb q.id id) (p ∷ []) later

pub prefix-other : (id : ℕ) (p : Placed) (later : List Placed) → eqb p.id id ≡ false → last_of_id id (p ∷ later) ≡ last_of_id id later
prefix-other id p later other =
    prefix-last id p later ∙ ap (λ (t : Bool). option_or (last_of_id id later) (cond t (Some p) None)) other ∙ or-none (last_of_id id later)

-- where one of its id is behind it
pub prefix-skipped : (id : ℕ) (p : Placed) (later : List Placed) → is_some (last_of_id p.id later) ≡ true → last_of_id id later ≡ last_of_id id (p ∷ later)
prefix-skipped id p later some =
    elim (cases_Bool (eqb p.id id)) [
      | inl own ↦
          let here : is_some (last_of_id id later) ≡ true = subst (λ (n : ℕ). is_some (last_of_id n later) ≡ true) (eqb-true p.id id own) some in
          sym (prefix-last id p later ∙ some_first (last_of_id id later) (cond (eqb p.id id) (Some p) None) here)
      | inr other ↦ sym (prefix-other id p later other)
    ]

-- where none is, it may as well stand behind them
prefix-new : (id : ℕ) (p : Placed) (later : List Placed) → last_of_id p.id later ≡ None → last_of_id id (later ++ p ∷ []) ≡ last_of_id id (p ∷ later)
prefix-new id p later none =
    elim (cases_Bool (eqb p.id id)) [
      | inl own ↦
          let here : last_of_id id later ≡ None = subst (λ (n : ℕ). last_of_id n later ≡ None) (eqb-true p.id id own) none in
          last-push id later p ∙ ap (λ (t : Bool). cond t (Some p) (last_of_id id later)) own
          ∙ sym (prefix-last id p later ∙ ap (λ (t : Bool). option_or (last_of_id id later) (cond t (Some p) None)) own ∙ ap (λ (o : Option Placed). option_or o (Some p)) here)
      | inr other ↦ last-push id later p ∙ ap (λ (t : Bool). cond t (Some p) (last_of_id id later)) other ∙ sym (prefix-other id p later other)
    ]

-- ---- the table

-- other entries, with the same last entry of each id
knows-same : (limit : ℕ) (last : LastSlots) (xs ys : List Placed) → ((id : ℕ) → last_of_id id xs ≡ last_of_id id ys) → ((q : Placed) → Contains xs q → Contains ys q) → All (λ q. q.id < limit) ys
    → Knows limit last xs → Knows limit last ys
knows-same limit last xs ys same among known knows = record {
  below = record {
    covered = λ id covered. knows.below.covered id covered ∙ ap with_bytes (same id);
    within = knows.below.within;
    rises = knows.below.rises;
    few = knows.below.few;
    known = known;
  };
  full = λ bound is.
      let had = knows.full bound is in
      record {
        entries = had.entries;
        long = had.long;
        rises = had.rises;
        up_to = had.up_to;
        bytes = had.bytes;
        among = All-weaker (Contains xs) (Contains ys) among had.entries had.among;
      };
}

known-prefix : (limit : ℕ) (p : Placed) (later : List Placed) → p.id < limit → All (λ q. q.id < limit) later → All (λ q. q.id < limit) (p ∷ later)
known-prefix limit p later small known = All-cons (λ (q : Placed). q.id < limit) p later small known

pub knows-skipped : (limit : ℕ) (last : LastSlots) (p : Placed) (later : List Placed) → p.id < limit → is_some (last_of_id p.id later) ≡ true → Knows limit last later → Knows limit last (p ∷ later)
knows-skipped limit last p later small some knows =
    knows-same limit last later (p ∷ later) (λ id. prefix-skipped id p later some) (λ q here. Contains-append_right (p ∷ []) later q here)
    (known-prefix limit p later small knows.below.known) knows

pub knows-prefix : (limit : ℕ) (last : LastSlots) (p : Placed) (later : List Placed) → p.id < limit → last_of_id p.id later ≡ None → All (λ q. q.id < limit) later
    → Knows limit last (later ++ p ∷ []) → Knows limit last (p ∷ later)
knows-prefix limit last p later small none known knows =
    knows-same limit last (later ++ p ∷ []) (p ∷ later) (λ id. prefix-new id p later none)
    (λ q here. All-contains (Contains (p ∷ later)) (later ++ p ∷ []) q
    (All-append (Contains (p ∷ later)) later (p ∷ [])
    (All-weaker (Contains later) (Contains (p ∷ later)) (λ q here. Contains-append_right (p ∷ []) later q here) later (All-contains_itself later))
    (All-cons (Contains (p ∷ later)) p [] (All-head (Contains (p ∷ later)) p later (All-contains_itself (p ∷ later))) (All-nil (Contains (p ∷ later))))) here)
    (known-prefix limit p later small known) knows

-- an entry of the table is one of those that it was made of
with-some : (o : Option Placed) → is_some (with_bytes o) ≡ true → is_some o ≡ true
with-some None some = some
with-some (Some p) some = refl

pub table-some : (limit : ℕ) (last : LastSlots) (id : ℕ) (later : List Placed) → Knows limit last later → IsKnown last.bound id → is_some (last_of_id id last.entries.items) ≡ true → is_some (last_of_id id later) ≡ true
table-some limit last id later knows covered some =
    with-some (last_of_id id later) (sym (ap (λ (o : Option Placed). is_some o) (knows.below.covered id covered)) ∙ some)

-- ---- the set

-- since ids have 16 bits
pub seen-short : (limit id : ℕ) (seen : Seen) (later : List Placed) → HasSeen limit seen later → limit ≤ 2 ^ 16 → id < 2 ^ 16 → has_bit seen.bits (key_of id) ≡ true → is_some (last_of_id id later) ≡ true
seen-short limit id seen later noted short own is_seen =
    let all : All (λ q. key_of q.id ≡ key_of id → q.id ≡ id) later =
    All-weaker (λ (q : Placed). q.id < limit) (λ (q : Placed). key_of q.id ≡ key_of id → q.id ≡ id)
    (λ q below same. sym (key_short q.id (omega arith)) ∙ same ∙ key_short id own) later noted.known in
    some_from id later None all (sym (noted.bit (key_of id) (key_below id)) ∙ is_seen)

-- since each is the usual one of its key, or has 16 bits
pub seen-exact : (limit id : ℕ) (seen : Seen) (later : List Placed) → HasSeen limit seen later → IsExact seen id → has_bit seen.bits (key_of id) ≡ true → is_some (last_of_id id later) ≡ true
seen-exact limit id seen later noted exact is_seen =
    some_from id later None (exact_all limit id seen later noted exact) (sym (noted.bit (key_of id) (key_below id)) ∙ is_seen)

-- the id of one of them is known
some-known : (limit id : ℕ) (xs : List Placed) (o : Option Placed) → (is_some o ≡ true → id < limit) → All (λ q. q.id < limit) xs → is_some (fold (λ last p. cond (eqb p.id id) (Some p) last) o xs) ≡ true → id < limit
some-known limit id [] o so_far known some = so_far some
some-known limit id (q ∷ qs) o so_far known some =
    some-known limit id qs (cond (eqb q.id id) (Some q) o) (by_test (eqb q.id id) refl) (All-tail (λ (q : Placed). q.id < limit) q qs known) some
  where
    by_test : (t : Bool) → eqb q.id id ≡ t → is_some (cond t (Some q) o) ≡ true → id < limit
    by_test true is found = subst (λ (n : ℕ). n < limit) (eqb-true q.id id is) (All-head (λ (q : Placed). q.id < limit) q qs known)
    by_test false is found = so_far found

-- what holds of an id holds of an entry that has it
any-id : (f : ℕ → Bool) (id : ℕ) (xs : List Placed) (o : Option Placed) → f id ≡ true → is_some o ≡ false → is_some (fold (λ last p. cond (eqb p.id id) (Some p) last) o xs) ≡ true → list_any (λ q. f q.id) xs ≡ true
any-id f id [] o holds none some = absurd (false≢true (sym none ∙ some))
any-id f id (q ∷ qs) o holds none some =
    elim (cases_Bool (eqb q.id id)) [
      | inl own ↦ ap (λ (t : Bool). t || list_any (λ q. f q.id) qs) (ap f (eqb-true q.id id own) ∙ holds)
      | inr other ↦
          let rest : is_some (fold (λ last p. cond (eqb p.id id) (Some p) last) o qs) ≡ true = subst (λ (t : Bool). is_some (fold (λ last p. cond (eqb p.id id) (Some p) last) (cond t (Some q) o) qs) ≡ true) other some in
          ap (λ (t : Bool). f q.id || t) (any-id f id qs o holds none rest) ∙ or-true (f q.id)
    ]

or-any : (f : ℕ → Bool) (id : ℕ) (xs : List Placed) → is_some (last_of_id id xs) ≡ true → (f id || list_any (λ q. f q.id) xs) ≡ list_any (λ q. f q.id) xs
or-any f id xs some =
    elim (cases_Bool (f id)) [
      | inl holds ↦ ap (λ (t : Bool). t || list_any (λ q. f q.id) xs) holds ∙ sym (any-id f id xs None holds refl some)
      | inr fails ↦ ap (λ (t : Bool). t || list_any (λ q. f q.id) xs) fails
    ]

-- ---- both

-- an entry is passed over
covers-skipped : (limit : ℕ) (last : LastSlots) (seen : Seen) (p : Placed) (later : List Placed) → is_some (last_of_id p.id later) ≡ true → Covers limit last seen later → Covers limit last seen (p ∷ later)
covers-skipped limit last seen p later some covers =
    let ids = covers.ids in
    let small : p.id < limit = some-known limit p.id later None (λ e. absurd (false≢true e)) ids.known some in
    record {
      covered = knows-skipped limit last p later small some covers.covered;
      ids = record {
        bit = λ key below. ids.bit key below ∙ sym (or-any (λ n. eqb (key_of n) key) p.id later some);
        others = ids.others ∙ sym (or-any (λ n. not (eqb n (usual_id (key_of n)))) p.id later some);
        longs = ids.longs ∙ sym (or-any (λ n. not (ltb n 0x1_0000)) p.id later some);
        known = known-prefix limit p later small ids.known;
      };
    }

-- a slot is, by the id that it has
pub covers-passed : (limit : ℕ) (last : LastSlots) (seen : Seen) (place id : ℕ) (o : Option Entry) (later : List Placed) → IfSome o (λ e. e.id ≡ id) → is_some (last_of_id id later) ≡ true
    → Covers limit last seen later → Covers limit last seen (option_to_list (option_map (placed_at place) o) ++ later)
covers-passed limit last seen place id None later named some covers = covers
covers-passed limit last seen place id (Some e) later named some covers =
    covers-skipped limit last seen (placed_at place e) later (subst (λ (n : ℕ). is_some (last_of_id n later) ≡ true) (sym named) some) covers
