-- Which entries are live, by what was seen behind them.
use Rattle.std.proofs.Common.{◌≡◌, ℕ, zero, suc, ◌+◌, ◌-◌, ◌*◌, ◌/◌, ◌%◌, ◌^◌, ◌<◌, ◌≤◌, min, Bool, true, false, not, ◌&&◌, ◌||◌, cond, eqb, ltb, List, [], ◌∷◌, ◌++◌, length, map, Option, Some, None, refl, sym, ap, subst, ◌∙◌, inl, inr, append_assoc, arith}
use Rattle.std.specs.Prelude.{is_some, IfSome, fold}
use Rattle.std.specs.List.{All, filter_map, flat_map, list_any, range_with_len}
use Rattle.std.specs.Option.{option_and_then, option_map, option_or, option_to_list}
use Rattle.std.proofs.lemmas.Bool.{false≢true, cases_Bool, cases_eq, eqb-true, ltb-true, eq-eqb, ne_eqb, le-ltb, lt-ltb}
use Rattle.std.proofs.lemmas.List.Concat.{flat_map-cons}
use Rattle.std.proofs.lemmas.List.Elements.{All-nil, All-cons, All-head, All-tail, All-append, All-weaker}
use Rattle.flash_map.specs.Area.{sector_at}
use Rattle.flash_map.proofs.MapLemmas.{not_some}
use Rattle.item_laws.specs.Area.{next, counts_at, open_sector}
use Rattle.item_laws.specs.Forms.{Collecting}
use Rattle.item_laws.specs.Live.{all_placed, counted_in, is_at, is_live, live_in, last_of, last_placed}
use Rattle.item_laws.specs.RoundParts.{places_after}
use Rattle.item_laws.specs.Walk.{entries_from, placed_up_to}
use Rattle.item_laws.proofs.LastLemmas.{last-append}
use Rattle.item_laws.proofs.LiveLemmas.{option_cases, some_none}
use Rattle.item_laws.proofs.LiveSum.{places_of}
use Rattle.item_laws.proofs.Lists.{counts-collecting}
use Rattle.item_laws.proofs.Newest.{last-all}
use Rattle.item_laws.proofs.Places.{after-apart, range_from}
use Rattle.item_laws.proofs.RoundAt.{round-at}
use Rattle.item_laws.proofs.WalkLemmas.{list-split}
use Rattle.item_store.specs.declared.entry.Entry.{Entry}
use Rattle.item_store.specs.declared.entry.Placed.{Placed}
use Rattle.item_store.specs.declared.seen.Seen.{Seen}
use Rattle.item_store.specs.SectorFormat.{SectorFormat, IsSectorFormat, placed_at, slots, entries}
use Rattle.item_store.specs.Seen.{key_of, is_other, is_long, usual_id, has_bit, HasSeen, IsExact, AreBehind, behind, holds_live}
use Rattle.item_store.proofs.CopyLoop.{are}

-- ---- ids of a key

long_below : (id : ℕ) → id / 0x4000_0000 % 2 * 0x8000 + id % 0x1_0000 / 0x10 * 8 + id % 8 < 2 ^ 16
long_below id = omega arith

by_length : (id : ℕ) (t : Bool) → cond t (id % 0x1_0000) (id / 0x4000_0000 % 2 * 0x8000 + id % 0x1_0000 / 0x10 * 8 + id % 8) < 2 ^ 16
by_length id true = omega arith
by_length id false = long_below id

pub key_below : (id : ℕ) → key_of id < 2 ^ 16
unfolding key_of
key_below id = by_length id (ltb id 0x8000_0000)

pub key_short : (id : ℕ) → id < 2 ^ 16 → key_of id ≡ id
unfolding key_of
key_short id short =
    let lower : id < 0x8000_0000 = omega arith in
    ap (λ (t : Bool). cond t (id % 0x1_0000) (id / 0x4000_0000 % 2 * 0x8000 + id % 0x1_0000 / 0x10 * 8 + id % 8)) (lt-ltb id 0x8000_0000 lower) ∙ (let own : id % 0x1_0000 ≡ id = omega arith in own)

or-left : (a b : Bool) → (a || b) ≡ false → a ≡ false
or-left true b e = e
or-left false b e = refl

or-right : (a b : Bool) → (a || b) ≡ false → b ≡ false
or-right true b e = absurd (false≢true (sym e))
or-right false b e = e

-- the last one of an id
abbrev last_from : ℕ → Option Placed → List Placed → Option Placed
last_from id o placed = fold (λ last p. cond (eqb p.id id) (Some p) last) o placed

pub none_from : (id : ℕ) (placed : List Placed) (o : Option Placed) → list_any (λ q. eqb (key_of q.id) (key_of id)) placed ≡ false → last_from id o placed ≡ o
none_from id [] o none = refl
none_from id (q ∷ qs) o none =
    let apart : q.id ≡ id → ⊥ = λ (same : q.id ≡ id). false≢true (sym (or-left (eqb (key_of q.id) (key_of id)) (list_any (λ q. eqb (key_of q.id) (key_of id)) qs) none) ∙ eq-eqb (key_of q.id) (key_of id) (ap key_of same)) in
    ap (λ (t : Bool). last_from id (cond t (Some q) o) qs) (ne_eqb q.id id apart)
    ∙ none_from id qs o (or-right (eqb (key_of q.id) (key_of id)) (list_any (λ q. eqb (key_of q.id) (key_of id)) qs) none)

stays_some : (id : ℕ) (placed : List Placed) (o : Option Placed) → is_some o ≡ true → is_some (last_from id o placed) ≡ true
stays_some id [] o some = some
stays_some id (q ∷ qs) o some = stays_some id qs (cond (eqb q.id id) (Some q) o) (by_test (eqb q.id id))
  where
    by_test : (here : Bool) → is_some (cond here (Some q) o) ≡ true
    by_test true = refl
    by_test false = some

-- where those that have its key are the id itself
pub some_from : (id : ℕ) (placed : List Placed) (o : Option Placed) → All (λ q. key_of q.id ≡ key_of id → q.id ≡ id) placed → list_any (λ q. eqb (key_of q.id) (key_of id)) placed ≡ true → is_some (last_from id o placed) ≡ true
some_from id [] o all seen = absurd (false≢true seen)
some_from id (q ∷ qs) o all seen =
    elim (cases_Bool (eqb (key_of q.id) (key_of id))) [
      | inl here ↦
          let own : q.id ≡ id = All-head (λ (q : Placed). key_of q.id ≡ key_of id → q.id ≡ id) q qs all (eqb-true (key_of q.id) (key_of id) here) in
          ap (λ (t : Bool). is_some (last_from id (cond t (Some q) o) qs)) (eq-eqb q.id id own) ∙ stays_some id qs (Some q) refl
      | inr other ↦
          let rest : list_any (λ q. eqb (key_of q.id) (key_of id)) qs ≡ true = sym (ap (λ (t : Bool). t || list_any (λ q. eqb (key_of q.id) (key_of id)) qs) other) ∙ seen in
          some_from id qs (cond (eqb q.id id) (Some q) o) (All-tail (λ (q : Placed). key_of q.id ≡ key_of id → q.id ≡ id) q qs all) rest
    ]

not-false : (a : Bool) → not a ≡ false → a ≡ true
not-false true e = refl
not-false false e = absurd (false≢true (sym e))

-- usual ids
usual_all : (id : ℕ) → id ≡ usual_id (key_of id) → (placed : List Placed) → list_any is_other placed ≡ false → All (λ q. key_of q.id ≡ key_of id → q.id ≡ id) placed
usual_all id own [] plain = All-nil (λ (q : Placed). key_of q.id ≡ key_of id → q.id ≡ id)
usual_all id own (q ∷ qs) plain =
    let here : q.id ≡ usual_id (key_of q.id) = eqb-true q.id (usual_id (key_of q.id)) (not-false (eqb q.id (usual_id (key_of q.id))) (or-left (is_other q) (list_any is_other qs) plain)) in
    All-cons (λ (q : Placed). key_of q.id ≡ key_of id → q.id ≡ id) q qs (λ same. here ∙ ap (usual_id) same ∙ sym own)
    (usual_all id own qs (or-right (is_other q) (list_any is_other qs) plain))

-- ids of 16 bits
short_all : (id : ℕ) → id < 2 ^ 16 → (placed : List Placed) → list_any is_long placed ≡ false → All (λ q. key_of q.id ≡ key_of id → q.id ≡ id) placed
short_all id own [] short = All-nil (λ (q : Placed). key_of q.id ≡ key_of id → q.id ≡ id)
short_all id own (q ∷ qs) short =
    let here : q.id < 0x1_0000 = ltb-true q.id 0x1_0000 (not-false (ltb q.id 0x1_0000) (or-left (is_long q) (list_any is_long qs) short)) in
    All-cons (λ (q : Placed). key_of q.id ≡ key_of id → q.id ≡ id) q qs (λ same. sym (key_short q.id here) ∙ same ∙ key_short id own)
    (short_all id own qs (or-right (is_long q) (list_any is_long qs) short))

-- so in both ways
pub exact_all : (limit id : ℕ) (seen : Seen) (placed : List Placed) → HasSeen limit seen placed → IsExact seen id → All (λ q. key_of q.id ≡ key_of id → q.id ≡ id) placed
exact_all limit id seen placed noted exact =
    elim exact [
      | inl (plain, own) ↦ usual_all id own placed (sym noted.others ∙ plain)
      | inr (short, own) ↦ short_all id own placed (sym noted.longs ∙ short)
    ]

-- ---- one entry

module _ (k : SectorFormat) (sectors : List (List ℕ)) (p : Placed) (later : List Placed) (at : AreBehind k sectors p later) where
  pub own-last : last_placed (slots k) sectors p.id ≡ option_or (option_or (last_of (slots k) p.id later) (Some p)) (last_of (slots k) p.id at.prefix)
  own-last =
      let own : last_of (slots k) p.id (p ∷ later) ≡ option_or (last_of (slots k) p.id later) (Some p) =
      last-append (slots k) p.id (p ∷ []) later ∙ ap (λ (t : Bool). option_or (last_of (slots k) p.id later) (cond t (Some p) None)) (eq-eqb p.id p.id refl) in
      ap (last_of (slots k) p.id) at.split ∙ last-append (slots k) p.id at.prefix (p ∷ later) ∙ ap (λ (o : Option Placed). option_or o (last_of (slots k) p.id at.prefix)) own

  live_last : last_of (slots k) p.id later ≡ None → 0 < p.len → is_live (slots k) sectors p ≡ true
  live_last none some =
      ap (is_at (slots k) p) (own-last ∙ ap (λ (o : Option Placed). option_or (option_or o (Some p)) (last_of (slots k) p.id at.prefix)) none)
      ∙ ap (λ (t : Bool). t && eqb p.slot p.slot && ltb 0 p.len) (eq-eqb p.sector p.sector refl) ∙ ap (λ (t : Bool). true && t && ltb 0 p.len) (eq-eqb p.slot p.slot refl)
      ∙ lt-ltb 0 p.len some

  dead_by : (q : Placed) → last_of (slots k) p.id later ≡ Some q → is_live (slots k) sectors p ≡ false
  dead_by q some =
      let apart : IfSome (last_of (slots k) p.id later) (λ q. q.sector ≡ p.sector → q.slot ≡ p.slot → ⊥) = last-all (λ (q : Placed). eqb q.id p.id) (λ q. q.sector ≡ p.sector → q.slot ≡ p.slot → ⊥) later None tt at.apart in
      let here : q.sector ≡ p.sector → q.slot ≡ p.slot → ⊥ = subst (λ (o : Option Placed). IfSome o (λ q. q.sector ≡ p.sector → q.slot ≡ p.slot → ⊥)) some apart in
      ap (is_at (slots k) p) (own-last ∙ ap (λ (o : Option Placed). option_or (option_or o (Some p)) (last_of (slots k) p.id at.prefix)) some)
      ∙ off q here
    where
      off : (q : Placed) → (q.sector ≡ p.sector → q.slot ≡ p.slot → ⊥) → (eqb q.sector p.sector && eqb q.slot p.slot && ltb 0 p.len) ≡ false
      off q here =
          elim (cases_eq q.sector p.sector) [
            | inl same ↦ ap (λ (t : Bool). t && eqb q.slot p.slot && ltb 0 p.len) (eq-eqb q.sector p.sector same) ∙ ap (λ (t : Bool). true && t && ltb 0 p.len) (ne_eqb q.slot p.slot (here same))
            | inr apart ↦ ap (λ (t : Bool). t && eqb q.slot p.slot && ltb 0 p.len) (ne_eqb q.sector p.sector apart)
          ]

  one_entry : (x y : Placed) → Some x ≡ Some y → x ≡ y
  one_entry x y e = cc

  -- the last entry of its id is another one exactly where one behind it has the id
  pub later_by : (last : Placed) → last_placed (slots k) sectors p.id ≡ Some last → not (eqb last.sector p.sector && eqb last.slot p.slot) ≡ is_some (last_of (slots k) p.id later)
  later_by last found =
      elim (option_cases (last_of (slots k) p.id later)) [
        | inl none ↦
            let same : p ≡ last = one_entry p last (sym (own-last ∙ ap (λ (o : Option Placed). option_or (option_or o (Some p)) (last_of (slots k) p.id at.prefix)) none) ∙ found) in
            ap (λ (t : Bool). not (t && eqb last.slot p.slot)) (eq-eqb last.sector p.sector (sym (ap (λ (x : Placed). x.sector) same)))
            ∙ ap (λ (t : Bool). not (true && t)) (eq-eqb last.slot p.slot (sym (ap (λ (x : Placed). x.slot) same)))
            ∙ sym (ap (λ (o : Option Placed). is_some o) none)
        | inr (q, some) ↦
            let same : q ≡ last = one_entry q last (sym (own-last ∙ ap (λ (o : Option Placed). option_or (option_or o (Some p)) (last_of (slots k) p.id at.prefix)) some) ∙ found) in
            let apart : IfSome (last_of (slots k) p.id later) (λ q. q.sector ≡ p.sector → q.slot ≡ p.slot → ⊥) = last-all (λ (q : Placed). eqb q.id p.id) (λ q. q.sector ≡ p.sector → q.slot ≡ p.slot → ⊥) later None tt at.apart in
            let here : q.sector ≡ p.sector → q.slot ≡ p.slot → ⊥ = subst (λ (o : Option Placed). IfSome o (λ q. q.sector ≡ p.sector → q.slot ≡ p.slot → ⊥)) some apart in
            subst (λ (x : Placed). not (eqb x.sector p.sector && eqb x.slot p.slot) ≡ true) same (elsewhere_is q here) ∙ sym (ap (λ (o : Option Placed). is_some o) some)
      ]
    where
      elsewhere_is : (q : Placed) → (q.sector ≡ p.sector → q.slot ≡ p.slot → ⊥) → not (eqb q.sector p.sector && eqb q.slot p.slot) ≡ true
      elsewhere_is q here =
          elim (cases_eq q.sector p.sector) [
            | inl same ↦
                ap (λ (t : Bool). not (t && eqb q.slot p.slot)) (eq-eqb q.sector p.sector same)
                ∙ ap (λ (t : Bool). not (true && t)) (ne_eqb q.slot p.slot (here same))
            | inr apart ↦ ap (λ (t : Bool). not (t && eqb q.slot p.slot)) (ne_eqb q.sector p.sector apart)
          ]

  -- it has a last entry, since it is one itself
  pub never_none : last_placed (slots k) sectors p.id ≡ None → ⊥
  never_none none =
      elim (option_cases (last_of (slots k) p.id later)) [
        | inl empty ↦ some_none p (sym (own-last ∙ ap (λ (o : Option Placed). option_or (option_or o (Some p)) (last_of (slots k) p.id at.prefix)) empty) ∙ none)
        | inr (q, some) ↦ some_none q (sym (own-last ∙ ap (λ (o : Option Placed). option_or (option_or o (Some p)) (last_of (slots k) p.id at.prefix)) some) ∙ none)
      ]

  -- a delete
  pub live_empty : p.len ≡ 0 → false ≡ is_live (slots k) sectors p
  live_empty none = sym (by_last (last_placed (slots k) sectors p.id))
    where
      no_and : (t : Bool) → (t && false) ≡ false
      no_and true = refl
      no_and false = refl

      by_last : (o : Option Placed) → is_at (slots k) p o ≡ false
      by_last None = refl
      by_last (Some q) = ap (λ (t : Bool). eqb q.sector p.sector && eqb q.slot p.slot && t) (le-ltb 0 p.len (omega arith)) ∙ no_and (eqb q.sector p.sector && eqb q.slot p.slot)

  -- no id of its key is behind it
  pub live_unseen : (limit : ℕ) (seen : Seen) → HasSeen limit seen later → (p.len ≡ 0 → ⊥) → has_bit seen.bits (key_of p.id) ≡ false → true ≡ is_live (slots k) sectors p
  live_unseen limit seen noted some unseen = sym (live_last (none_from p.id later None (sym (noted.bit (key_of p.id) (key_below p.id)) ∙ unseen)) (omega arith))

  -- one is, and it has no other
  dead_from : (limit : ℕ) (seen : Seen) → HasSeen limit seen later → All (λ q. key_of q.id ≡ key_of p.id → q.id ≡ p.id) later → has_bit seen.bits (key_of p.id) ≡ true → false ≡ is_live (slots k) sectors p
  dead_from limit seen noted own is_seen =
      let some = some_from p.id later None own (sym (noted.bit (key_of p.id) (key_below p.id)) ∙ is_seen) in
      elim (option_cases (last_of (slots k) p.id later)) [
        | inl none ↦ absurd (false≢true (sym (ap (λ (o : Option Placed). is_some o) none) ∙ some))
        | inr (q, is) ↦ sym (dead_by q is)
      ]

  -- since ids have 16 bits
  pub live_seen : (limit : ℕ) (seen : Seen) → HasSeen limit seen later → limit ≤ 2 ^ 16 → p.id < limit → has_bit seen.bits (key_of p.id) ≡ true → false ≡ is_live (slots k) sectors p
  live_seen limit seen noted short own is_seen =
      let all : All (λ q. key_of q.id ≡ key_of p.id → q.id ≡ p.id) later =
      All-weaker (λ (q : Placed). q.id < limit) (λ (q : Placed). key_of q.id ≡ key_of p.id → q.id ≡ p.id)
      (λ q below same. sym (key_short q.id (omega arith)) ∙ same ∙ key_short p.id (omega arith)) later noted.known in
      dead_from limit seen noted all is_seen

  -- since each is the usual one of its key, or has 16 bits
  pub live_exact : (limit : ℕ) (seen : Seen) → HasSeen limit seen later → IsExact seen p.id → has_bit seen.bits (key_of p.id) ≡ true → false ≡ is_live (slots k) sectors p
  live_exact limit seen noted exact is_seen = dead_from limit seen noted (exact_all limit p.id seen later noted exact) is_seen

-- ---- the entry of a slot

pub live_none : (k : SectorFormat) (sectors : List (List ℕ)) (place slot : ℕ) → None ≡ option_map (placed_at place) (k.in_slot (sector_at sectors place) slot) → false ≡ holds_live k sectors place slot
live_none k sectors place slot none = ap (λ (o : Option Placed). is_some (option_and_then (λ p. cond (is_live (slots k) sectors p) (Some p) None) o)) none

pub live_some : (k : SectorFormat) (sectors : List (List ℕ)) (place slot : ℕ) (p : Placed) (live : Bool) → Some p ≡ option_map (placed_at place) (k.in_slot (sector_at sectors place) slot) → live ≡ is_live (slots k) sectors p → live ≡ holds_live k sectors place slot
live_some k sectors place slot p live some is =
    by_flag live ∙ ap (λ (t : Bool). is_some (cond t (Some p) None)) is ∙ ap (λ (o : Option Placed). is_some (option_and_then (λ p. cond (is_live (slots k) sectors p) (Some p) None) o)) some
  where
    by_flag : (t : Bool) → t ≡ is_some (cond t (Some p) None)
    by_flag true = refl
    by_flag false = refl

-- ---- what stands behind a slot

module _ (k : SectorFormat) (law : IsSectorFormat k) (sectors : List (List ℕ)) (current place : ℕ) where
  -- the entries of the sector from so many slots on, and those of the sectors behind it
  abbrev pub later_from : ℕ → List Placed
  later_from n = map (placed_at place) (entries_from (slots k) (sector_at sectors place) (k.first + n) (k.count (sector_at sectors place) - n))

  abbrev pub later_at : ℕ → List Placed
  later_at n = later_from n ++ behind k sectors current place

  step_from : (n : ℕ) → n < k.count (sector_at sectors place) → later_from n ≡ option_to_list (option_map (placed_at place) (k.in_slot (sector_at sectors place) (k.first + n))) ++ later_from (n + 1)
  step_from n more =
      let b = sector_at sectors place in
      let less : k.count (sector_at sectors place) - n - 1 ≡ k.count (sector_at sectors place) - (n + 1) = omega arith in
      let next : k.first + n + 1 ≡ k.first + (n + 1) = omega arith in
      let range : range_with_len (k.first + n) (k.count (sector_at sectors place) - n) ≡ (k.first + n) ∷ range_with_len (k.first + (n + 1)) (k.count (sector_at sectors place) - (n + 1)) =
      range_from (k.first + n) (k.count b - n) (omega arith) ∙ ap (λ (m : ℕ). (k.first + n) ∷ range_with_len (k.first + n + 1) m) less ∙ ap (λ (j : ℕ). (k.first + n) ∷ range_with_len j (k.count b - (n + 1))) next in
      ap (λ (xs : List ℕ). map (placed_at place) (filter_map (k.in_slot b) xs)) range ∙ by_entry (k.in_slot b (k.first + n)) refl
    where
      by_entry : (o : Option Entry) → k.in_slot (sector_at sectors place) (k.first + n) ≡ o
          → map (placed_at place) (filter_map (k.in_slot (sector_at sectors place)) ((k.first + n) ∷ range_with_len (k.first + (n + 1)) (k.count (sector_at sectors place) - (n + 1)))) ≡ option_to_list (option_map (placed_at place) (k.in_slot (sector_at sectors place) (k.first + n))) ++ later_from (n + 1)
      by_entry None is = rw is refl
      by_entry (Some e) is = rw is refl

  pub later_step : (n : ℕ) → n < k.count (sector_at sectors place) → option_to_list (option_map (placed_at place) (k.in_slot (sector_at sectors place) (k.first + n))) ++ later_at (n + 1) ≡ later_at n
  later_step n more = sym (append_assoc (option_to_list (option_map (placed_at place) (k.in_slot (sector_at sectors place) (k.first + n)))) (later_from (n + 1)) (behind k sectors current place)) ∙ ap (λ (xs : List Placed). xs ++ behind k sectors current place) (sym (step_from n more))

  -- behind its last slot are the other sectors
  pub later_none : behind k sectors current place ≡ later_at (k.count (sector_at sectors place))
  later_none =
      let none : k.count (sector_at sectors place) - k.count (sector_at sectors place) ≡ 0 = omega arith in
      sym (ap (λ (m : ℕ). map (placed_at place) (entries_from (slots k) (sector_at sectors place) (k.first + k.count (sector_at sectors place)) m) ++ behind k sectors current place) none)

  -- from its first slot on are all its entries
  pub later_all : counts_at k.reading sectors current place ≡ true → later_at 0 ≡ counted_in (slots k) sectors current place ++ behind k sectors current place
  later_all counts =
      let from : k.first + 0 ≡ k.first = omega arith in
      let all : k.count (sector_at sectors place) - 0 ≡ k.count (sector_at sectors place) = omega arith in
      ap (λ (j : ℕ). map (placed_at place) (entries_from (slots k) (sector_at sectors place) j (k.count (sector_at sectors place) - 0)) ++ behind k sectors current place) from
      ∙ ap (λ (m : ℕ). map (placed_at place) (entries_from (slots k) (sector_at sectors place) k.first m) ++ behind k sectors current place) all
      ∙ sym (ap (λ (t : Bool). cond t (map (placed_at place) (entries k (sector_at sectors place))) [] ++ behind k sectors current place) counts)

  low_slots : (a n : ℕ) → All (λ q. a ≤ q.slot) (map (placed_at place) (entries_from (slots k) (sector_at sectors place) a n))
  low_slots a zero = All-nil (λ (q : Placed). a ≤ q.slot)
  low_slots a (suc n) =
      let rest = All-weaker (λ (q : Placed). a + 1 ≤ q.slot) (λ (q : Placed). a ≤ q.slot) (λ q h. omega arith) (map (placed_at place) (entries_from (slots k) (sector_at sectors place) (a + 1) n)) (low_slots (a + 1) n) in
      elim (option_cases (k.in_slot (sector_at sectors place) a)) [
        | inl none ↦ rw none rest
        | inr (e, some) ↦
            let own : e.slot ≡ a = law.own_slot (sector_at sectors place) a e some in
            rw some (All-cons (λ (q : Placed). a ≤ q.slot) (placed_at place e) (map (placed_at place) (entries_from (slots k) (sector_at sectors place) (a + 1) n)) (omega arith) rest)
      ]

  elsewhere_in : (j : ℕ) → (j ≡ place → ⊥) → All (λ q. q.sector ≡ place → ⊥) (counted_in (slots k) sectors current j)
  elsewhere_in j apart = by_count (counts_at k.reading sectors current j)
    where
      by_count : (t : Bool) → All (λ q. q.sector ≡ place → ⊥) (cond t (map (placed_at j) (entries k (sector_at sectors j))) [])
      by_count false = All-nil (λ (q : Placed). q.sector ≡ place → ⊥)
      by_count true =
          All-weaker (λ (q : Placed). q.sector ≡ j) (λ (q : Placed). q.sector ≡ place → ⊥) (λ q at (e : q.sector ≡ place). apart (sym at ∙ e)) (map (placed_at j) (entries k (sector_at sectors j))) (places_of (slots k) (are k law) j (entries k (sector_at sectors j)))

  pub elsewhere : (js : List ℕ) → All (λ j. j ≡ place → ⊥) js → All (λ q. q.sector ≡ place → ⊥) (flat_map (counted_in (slots k) sectors current) js)
  elsewhere [] apart = All-nil (λ (q : Placed). q.sector ≡ place → ⊥)
  elsewhere (j ∷ js) apart =
      subst (All (λ q. q.sector ≡ place → ⊥)) (sym (flat_map-cons (counted_in (slots k) sectors current) j js))
      (All-append (λ (q : Placed). q.sector ≡ place → ⊥) (counted_in (slots k) sectors current j) (flat_map (counted_in (slots k) sectors current) js)
      (elsewhere_in j (All-head (λ j. j ≡ place → ⊥) j js apart)) (elsewhere js (All-tail (λ j. j ≡ place → ⊥) j js apart)))

  module _ (is : open_sector k.reading sectors ≡ current) (low : current < length sectors) (high : place < length sectors) (counts : counts_at k.reading sectors current place ≡ true) (n : ℕ) (more : n < k.count (sector_at sectors place)) where
    split_at : all_placed (slots k) sectors ≡ placed_up_to (slots k) sectors current place n ++ later_at n
    split_at =
        let i : min (k.count (sector_at sectors place)) n ≡ n = omega arith in
        list-split (slots k) (are k law) sectors current place n is low high
        ∙ ap (λ (t : Bool). placed_up_to (slots k) sectors current place n ++ (cond t (map (placed_at place) (entries_from (slots k) (sector_at sectors place) (k.first + min (k.count (sector_at sectors place)) n) (k.count (sector_at sectors place) - min (k.count (sector_at sectors place)) n))) [] ++ behind k sectors current place)) counts
        ∙ ap (λ (m : ℕ). placed_up_to (slots k) sectors current place n ++ (map (placed_at place) (entries_from (slots k) (sector_at sectors place) (k.first + m) (k.count (sector_at sectors place) - m)) ++ behind k sectors current place)) i

    pub stand_behind : (p : Placed) → option_map (placed_at place) (k.in_slot (sector_at sectors place) (k.first + n)) ≡ Some p → AreBehind k sectors p (later_at (n + 1))
    stand_behind p some =
        elim (option_cases (k.in_slot (sector_at sectors place) (k.first + n))) [
          | inl none ↦ absurd (some_none p (sym some ∙ ap (option_map (placed_at place)) none))
          | inr (e, found) ↦
              let same : placed_at place e ≡ p = one_entry (placed_at place e) p (sym (ap (option_map (placed_at place)) found) ∙ some) in
              let own : e.slot ≡ k.first + n = law.own_slot (sector_at sectors place) (k.first + n) e found in
              let in_sector : place ≡ p.sector = ap (λ (q : Placed). q.sector) same in
              let in_slot : e.slot ≡ p.slot = ap (λ (q : Placed). q.slot) same in
              let prefix_is : later_at n ≡ p ∷ later_at (n + 1) = sym (later_step n more) ∙ ap (λ (o : Option Placed). option_to_list o ++ later_at (n + 1)) some in
              let round = round-at (length sectors) current place low high in
              let own_sector : All (λ q. q.sector ≡ p.sector → q.slot ≡ p.slot → ⊥) (later_from (n + 1)) =
              All-weaker (λ (q : Placed). k.first + (n + 1) ≤ q.slot) (λ q. q.sector ≡ p.sector → q.slot ≡ p.slot → ⊥) (λ q h here at. absurd (omega arith)) (later_from (n + 1)) (low_slots (k.first + (n + 1)) (k.count (sector_at sectors place) - (n + 1))) in
              let others : All (λ q. q.sector ≡ p.sector → q.slot ≡ p.slot → ⊥) (behind k sectors current place) =
              All-weaker (λ (q : Placed). q.sector ≡ place → ⊥) (λ q. q.sector ≡ p.sector → q.slot ≡ p.slot → ⊥) (λ q h here at. h (here ∙ sym in_sector)) (behind k sectors current place) (elsewhere (places_after (length sectors) current place) round.behind) in
              record {
                prefix = placed_up_to (slots k) sectors current place n;
                split = split_at ∙ ap (λ (xs : List Placed). placed_up_to (slots k) sectors current place n ++ xs) prefix_is;
                apart = All-append (λ q. q.sector ≡ p.sector → q.slot ≡ p.slot → ⊥) (later_from (n + 1)) (behind k sectors current place) own_sector others;
              }
        ]
      where
        one_entry : (x y : Placed) → Some x ≡ Some y → x ≡ y
        one_entry x y e = cc

-- ---- the victim of a collection

pub victim_counts : (k : SectorFormat) (sectors : List (List ℕ)) (place victim : ℕ) → Collecting k.reading sectors place → victim ≡ next sectors place → counts_at k.reading sectors place victim ≡ true
victim_counts k sectors place victim form at =
    let ring = form.ring in
    let apart : victim ≡ place → ⊥ = λ (e : victim ≡ place). after-apart (length sectors) place ring.within ring.several (sym at ∙ e) in
    counts-collecting k.reading sectors place victim form.ring form.not_done ∙ ap not (ne_eqb victim place apart)

-- the live entry of a slot, where there is one
pub live_here : (k : SectorFormat) (sectors : List (List ℕ)) (place slot : ℕ) (o : Option Placed) → o ≡ option_map (placed_at place) (k.in_slot (sector_at sectors place) slot) → holds_live k sectors place slot ≡ true → o ≡ live_in (slots k) sectors place slot
live_here k sectors place slot o is live =
    by_entry o (sym (ap (λ (x : Option Placed). is_some (option_and_then (λ p. cond (is_live (slots k) sectors p) (Some p) None) x)) (sym is)) ∙ live)
    ∙ ap (λ (x : Option Placed). option_and_then (λ p. cond (is_live (slots k) sectors p) (Some p) None) x) is
  where
    by_flag : (p : Placed) (t : Bool) → is_some (cond t (Some p) None) ≡ true → Some p ≡ cond t (Some p) None
    by_flag p true e = refl
    by_flag p false e = absurd (false≢true e)

    by_entry : (x : Option Placed) → is_some (option_and_then (λ p. cond (is_live (slots k) sectors p) (Some p) None) x) ≡ true → x ≡ option_and_then (λ p. cond (is_live (slots k) sectors p) (Some p) None) x
    by_entry None e = refl
    by_entry (Some p) e = by_flag p (is_live (slots k) sectors p) e

pub none_live : (k : SectorFormat) (sectors : List (List ℕ)) (place slot : ℕ) → holds_live k sectors place slot ≡ false → None ≡ live_in (slots k) sectors place slot
none_live k sectors place slot dead = sym (not_some (live_in (slots k) sectors place slot) dead)
