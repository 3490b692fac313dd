-- The copies of a collection, one slot of the victim after the other.
use Rattle.std.proofs.Common.{◌≡◌, ℕ, ◌+◌, ◌*◌, ◌<◌, ◌≤◌, Bool, true, false, cond, ◌&&◌, eqb, ltb, List, [], ◌∷◌, length, Option, Some, None, refl, sym, ap, subst, ◌∙◌, inl, inr, arith}
use Rattle.std.specs.Prelude.{Result, Ok, Err, OnOk, OnErr, IsErr, is_err}
use Rattle.std.specs.Option.{option_map, option_and_then}
use Rattle.std.proofs.lemmas.Bool.{ltb-true}
use Rattle.flash_sim.specs.Device.{Device}
use Rattle.flash_map.specs.declared.area.Area.{Area}
use Rattle.flash_map.specs.Area.{sector_at, sectors_of, ChangesOnly}
use Rattle.flash_map.specs.Touches.{Touches}
use Rattle.flash_map.proofs.SpendingBounds.{between_none, between_then, between_within}
use Rattle.flash_map.proofs.Touches.{then, untouched}
use Rattle.item_laws.specs.Area.{next, open_sector, is_closed_at}
use Rattle.item_laws.specs.Forms.{Collecting, to_copy}
use Rattle.item_laws.specs.Reading.{Reading, is_sound}
use Rattle.item_laws.specs.PairRounds.{copies_cost}
use Rattle.item_laws.proofs.Places.{after}
use Rattle.item_laws.proofs.Rings.{next-closed}
use Rattle.item_laws.proofs.RingSteps.{reads}
use Rattle.item_laws.specs.Entries.{Entries, AreEntries}
use Rattle.item_laws.specs.Live.{is_at, is_live, last_placed, live_in, live_to, bytes_of, cost_of}
use Rattle.item_laws.proofs.CopyLemmas as laws
use Rattle.item_laws.proofs.LiveLemmas.{option_cases, some_none}
use Rattle.item_store.specs.declared.entry.Entry.{Entry}
use Rattle.item_store.specs.declared.entry.Placed.{Placed}
use Rattle.item_store.specs.SectorFormat.{SectorFormat, IsSectorFormat, placed_at, slots}
use Rattle.item_store.specs.Steps.{KeepsMarks, Adds}
use Rattle.item_store.specs.Spending.{copies}
use Rattle.item_store.specs.Standing.{SpendsIn, SpendsUpTo}
use Rattle.item_store.specs.Collecting.{HasCopied, StopsCopying, CopiesOne, copy_units}
use Rattle.item_store.proofs.Ranges.{copies-cover}
use Rattle.item_store.proofs.Areas.{stopped, has_stopped, one_copied, marks_stopped, victim-ring, copied-le, only_length, only_else}

-- the same entries with another price
abbrev pub priced : Entries Entry Placed → (ℕ → ℕ) → Entries Entry Placed
priced s price = record s { cost = price }

pub are_priced : (s : Entries Entry Placed) (price : ℕ → ℕ) → AreEntries s → AreEntries (priced s price)
are_priced s price are = record { listed = are.listed; sector = are.sector; slot = are.slot; pairs = are.pairs; long = are.long }

-- the entries of a format are those of its slots
pub are : (k : SectorFormat) → IsSectorFormat k → AreEntries (slots k)
are k law = record {
  listed = λ b. refl;
  sector = λ place e. refl;
  slot = λ b place n e is. law.own_slot b n e is;
  pairs = λ b place. law.pairs b;
  long = λ b place n e sound from listed is. law.long b n e sound from listed is;
}

-- After so many slots of the victim: what was copied, and the units.
pub record IsCopying (k : SectorFormat) (a d : Device) (area : Area) (place n : ℕ) : Type 0 where
  pub touches : Touches (area ∷ []) a d false
  pub has : HasCopied k (sectors_of a area) (sectors_of d area) place (live_to (slots k) (sectors_of a area) (next (sectors_of a area) place) n)
  pub spent : SpendsIn a d (copies k (live_to (slots k) (sectors_of a area) (next (sectors_of a area) place) n))

module _ (k : SectorFormat) (law : IsSectorFormat k) where
  abbrev R : Reading
  R = k.reading

  -- a live entry of a slot
  pub record IsLive (sectors : List (List ℕ)) (place slot : ℕ) (p : Placed) : Type 0 where
    pub long : length (bytes_of (slots k) sectors p) ≡ p.len
    pub sector : p.sector ≡ place
    pub slot_is : p.slot ≡ slot
    pub read : option_map (placed_at place) (k.in_slot (sector_at sectors place) slot) ≡ Some p
    pub some : 0 < p.len

  one_kept : (f g : Placed) → Some f ≡ Some g → f ≡ g
  one_kept f g e = cc

  -- an entry that is kept by three tests has passed the last
  last_test : (one two three : Bool) (f g : Placed) → cond (one && two && three) (Some f) None ≡ Some g → (three ≡ true) × (f ≡ g)
  last_test true true true f g e = (refl, one_kept f g e)
  last_test true true false f g e = absurd (some_none g (sym e))
  last_test true false three f g e = absurd (some_none g (sym e))
  last_test false two three f g e = absurd (some_none g (sym e))

  -- so a live one has bytes
  live-some : (last : Option Placed) (f g : Placed) → cond (is_at (slots k) f last) (Some f) None ≡ Some g → 0 < g.len
  live-some None f g e = absurd (some_none g (sym e))
  live-some (Some q) f g e =
      let passed = last_test (eqb q.sector f.sector) (eqb q.slot f.slot) (ltb 0 f.len) f g e in
      subst (λ (h : Placed). 0 < h.len) passed.1 (ltb-true 0 f.len passed.0)

  pub live-bytes : (sectors : List (List ℕ)) (place slot : ℕ) (p : Placed) → k.within (sector_at sectors place) ≡ true → k.first ≤ slot → slot < k.first + k.count (sector_at sectors place) → live_in (slots k) sectors place slot ≡ Some p → IsLive sectors place slot p
  live-bytes sectors place slot p sound from listed is =
      let l = laws.live-entry (slots k) (are k law) sectors place slot p is in
      record {
        long = laws.entry-bytes (slots k) (are k law) sectors place slot p l (law.long (sector_at sectors place) slot l.entry sound from listed l.read);
        sector = l.sector;
        slot_is = ap (λ (q : Placed). q.slot) l.is ∙ law.own_slot (sector_at sectors place) slot l.entry l.read;
        read = ap (option_map (placed_at place)) l.read ∙ ap (λ (q : Placed). Some q) (sym l.is);
        some =
            let own : Placed = placed_at place l.entry in
            live-some (last_placed (slots k) sectors own.id) own p
            (sym (ap (λ (o : Option Entry). option_and_then (λ f. cond (is_live (slots k) sectors f) (Some f) None) (option_map (placed_at place) o)) l.read) ∙ is);
      }

  -- what the slots up to this one cost, with this one, at any price
  pub to_cost : (price : ℕ → ℕ) (sectors : List (List ℕ)) (place n : ℕ) → k.within (sector_at sectors place) ≡ true → n < k.count (sector_at sectors place)
      → copies_cost price (live_to (slots k) sectors place (n + 1)) ≡ copies_cost price (live_to (slots k) sectors place n) + cost_of (priced (slots k) price) (live_in (slots k) sectors place (n + k.first))
  to_cost price sectors place n sound more =
      laws.to_cost (priced (slots k) price) (are_priced (slots k) price (are k law)) sectors place n (λ p some. (live-bytes sectors place (n + k.first) p sound (omega arith) (omega arith) some).long)

  pub to_less : (price : ℕ → ℕ) (sectors : List (List ℕ)) (place n all : ℕ) → n ≤ all → copies_cost price (live_to (slots k) sectors place n) ≤ copies_cost price (live_to (slots k) sectors place all)
  to_less price sectors place n all le = laws.to_less (priced (slots k) price) sectors place n all le

  module _ (a d : Device) (area : Area) (place n : ℕ) (form : Collecting k.reading (sectors_of a area) place) (large : 512 ≤ length (sector_at (sectors_of a area) (next (sectors_of a area) place)))
      (same_long : length (sector_at (sectors_of a area) (next (sectors_of a area) place)) ≡ length (sector_at (sectors_of a area) place)) (so_far : IsCopying k a d area place n) where
    abbrev victim : ℕ
    victim = next (sectors_of a area) place

    sound : k.within (sector_at (sectors_of a area) (next (sectors_of a area) place)) ≡ true
    sound = law.sound (sector_at (sectors_of a area) (next (sectors_of a area) place)) large (victim-ring k law (sectors_of a area) place form)

    stops : StopsCopying k (sectors_of a area) (sectors_of d area) place
    stops = has_stopped k law (sectors_of a area) (sectors_of d area) place (live_to (slots k) (sectors_of a area) victim n) so_far.has

    pub form_there : Collecting k.reading (sectors_of d area) place
    form_there = (stopped k law (sectors_of a area) (sectors_of d area) place form stops).0

    pub open_there : place ≡ open_sector k.reading (sectors_of d area)
    open_there = sym (reads R (sectors_of d area) place (inr (inl form_there))).0

    long_after : length (sectors_of d area) ≡ length (sectors_of a area)
    long_after = only_length (sectors_of a area) (sectors_of d area) place stops.only

    else_same : (j : ℕ) → (j ≡ place → ⊥) → sector_at (sectors_of d area) j ≡ sector_at (sectors_of a area) j
    else_same j apart = only_else (sectors_of a area) (sectors_of d area) place j stops.only apart

    pub victim_there : sector_at (sectors_of d area) (next (sectors_of a area) place) ≡ sector_at (sectors_of a area) (next (sectors_of a area) place)
    victim_there = laws.victim_same (slots k) (are k law) (sectors_of a area) (sectors_of d area) place form form_there long_after else_same

    pub next_there : next (sectors_of d area) place ≡ next (sectors_of a area) place
    next_there = ap (λ (m : ℕ). after m place) long_after

    pub closed_there : is_closed_at k.reading (sectors_of d area) (next (sectors_of d area) place) ≡ true
    closed_there = next-closed R (sectors_of d area) place 0 form_there.ring ∙ refl

    pub ring_there : is_sound k.reading (sector_at (sectors_of d area) (next (sectors_of a area) place)) ≡ true
    ring_there = ap (λ (b : List ℕ). is_sound R b) victim_there ∙ victim-ring k law (sectors_of a area) place form

    pub live_there : (slot : ℕ) → live_in (slots k) (sectors_of d area) (next (sectors_of a area) place) slot ≡ live_in (slots k) (sectors_of a area) (next (sectors_of a area) place) slot
    live_there slot = laws.live_same (slots k) (are k law) (sectors_of a area) (sectors_of d area) place form form_there long_after else_same slot

    -- the next one has room, with three slots to spare
    pub room_there : n < k.count (sector_at (sectors_of a area) (next (sectors_of a area) place)) → cost_of (slots k) (live_in (slots k) (sectors_of d area) (next (sectors_of a area) place) (n + k.first)) + 3 * k.slot ≤ k.free (sector_at (sectors_of d area) place)
    room_there more =
        let all = k.count (sector_at (sectors_of a area) victim) in
        let le = copied-le k law (sectors_of a area) place form large in
        let total : copies_cost k.cost (to_copy R (sectors_of a area) place) ≡ copies_cost k.cost (live_to (slots k) (sectors_of a area) victim all) = ap (copies_cost k.cost) (laws.copies-are (slots k) (are k law) (sectors_of a area) place form sound) in
        let part = to_less k.cost (sectors_of a area) victim (n + 1) all (omega arith) in
        let step : copies_cost k.cost (live_to (slots k) (sectors_of a area) victim (n + 1)) ≡ copies_cost k.cost (live_to (slots k) (sectors_of a area) victim n) + cost_of (slots k) (live_in (slots k) (sectors_of a area) victim (n + k.first)) =
        to_cost k.cost (sectors_of a area) victim n sound more in
        let room = so_far.has.room in
        let cap : k.cap (length (sector_at (sectors_of a area) victim)) ≡ k.cap (length (sector_at (sectors_of a area) place)) = ap k.cap same_long in
        let own : cost_of (slots k) (live_in (slots k) (sectors_of d area) victim (n + k.first)) ≡ cost_of (slots k) (live_in (slots k) (sectors_of a area) victim (n + k.first)) = ap (cost_of (slots k)) (live_there (n + k.first)) in
        omega arith

    -- one slot more
    copied_more : (e : Device) → CopiesOne k (sectors_of d area) (sectors_of e area) place (live_in (slots k) (sectors_of a area) victim (n + k.first)) → n < k.count (sector_at (sectors_of a area) victim)
        → HasCopied k (sectors_of a area) (sectors_of e area) place (live_to (slots k) (sectors_of a area) victim (n + 1))
    copied_more e one more =
        elim (option_cases (live_in (slots k) (sectors_of a area) victim (n + k.first))) [
          | inl nothing ↦
              let same : sectors_of e area ≡ sectors_of d area = subst (λ (o : Option Placed). CopiesOne k (sectors_of d area) (sectors_of e area) place o) nothing one in
              subst (λ ps. HasCopied k (sectors_of a area) (sectors_of e area) place ps) (sym (laws.to_none (slots k) (sectors_of a area) victim n nothing))
              (subst (λ (s : List (List ℕ)). HasCopied k (sectors_of a area) s place (live_to (slots k) (sectors_of a area) victim n)) (sym same) so_far.has)
          | inr (p, some) ↦
              let put : ChangesOnly (sectors_of d area) (sectors_of e area) place × Adds k (sector_at (sectors_of d area) place) (sector_at (sectors_of e area) place) (p.id) (bytes_of (slots k) (sectors_of d area) p) =
              subst (λ (o : Option Placed). CopiesOne k (sectors_of d area) (sectors_of e area) place o) some one in
              let bytes = laws.bytes_same (slots k) (are k law) (sectors_of a area) (sectors_of d area) place form form_there long_after else_same p (live-bytes (sectors_of a area) victim (n + k.first) p sound (omega arith) (omega arith) some).sector in
              subst (λ ps. HasCopied k (sectors_of a area) (sectors_of e area) place ps) (sym (laws.to_some (slots k) (sectors_of a area) victim n p some))
              (one_copied k law (sectors_of a area) (sectors_of d area) (sectors_of e area) place (p.id) (bytes_of (slots k) (sectors_of a area) p) (live_to (slots k) (sectors_of a area) victim n) so_far.has put.0
              (subst (λ (bs : List ℕ). Adds k (sector_at (sectors_of d area) place) (sector_at (sectors_of e area) place) (p.id) bs) bytes put.1))
        ]

    copy_least : (o : Option Placed) → (copy_units k o).least ≡ cost_of (priced (slots k) (λ len. (k.units.any_copy len).least)) o
    copy_least None = refl
    copy_least (Some p) = refl

    copy_lost : (o : Option Placed) → (copy_units k o).lost ≡ cost_of (priced (slots k) (λ len. (k.units.any_copy len).lost)) o
    copy_lost None = refl
    copy_lost (Some p) = refl

    copy_most : (o : Option Placed) → (copy_units k o).most ≡ cost_of (priced (slots k) (λ len. (k.units.any_copy len).most)) o
    copy_most None = refl
    copy_most (Some p) = refl

    units_more : (e : Device) → n < k.count (sector_at (sectors_of a area) victim) → SpendsIn d e (copy_units k (live_in (slots k) (sectors_of d area) victim (n + k.first)))
        → SpendsIn a e (copies k (live_to (slots k) (sectors_of a area) victim (n + 1)))
    units_more e more spends =
        let here : SpendsIn d e (copy_units k (live_in (slots k) (sectors_of a area) victim (n + k.first))) = subst (λ (o : Option Placed). SpendsIn d e (copy_units k o)) (live_there (n + k.first)) spends in
        let low = to_cost (λ len. (k.units.any_copy len).least) (sectors_of a area) victim n sound more in
        let high = to_cost (λ len. (k.units.any_copy len).most) (sectors_of a area) victim n sound more in
        let l = copy_least (live_in (slots k) (sectors_of a area) victim (n + k.first)) in
        let m = copy_most (live_in (slots k) (sectors_of a area) victim (n + k.first)) in
        between_within (between_then so_far.spent here) _ _ (omega arith) (omega arith)

    pub copying_more : (e : Device) → n < k.count (sector_at (sectors_of a area) (next (sectors_of a area) place)) → Touches (area ∷ []) d e false → CopiesOne k (sectors_of d area) (sectors_of e area) place (live_in (slots k) (sectors_of d area) (next (sectors_of a area) place) (n + k.first))
        → SpendsIn d e (copy_units k (live_in (slots k) (sectors_of d area) (next (sectors_of a area) place) (n + k.first))) → IsCopying k a e area place (n + 1)
    copying_more e more touches one spent = record {
      touches = then so_far.touches touches;
      has = copied_more e (subst (λ (o : Option Placed). CopiesOne k (sectors_of d area) (sectors_of e area) place o) (live_there (n + k.first)) one) more;
      spent = units_more e more spent;
    }

    -- power was lost in it
    pub copying_lost : (e : Device) → ChangesOnly (sectors_of d area) (sectors_of e area) place → KeepsMarks k (sector_at (sectors_of d area) place) (sector_at (sectors_of e area) place) → StopsCopying k (sectors_of a area) (sectors_of e area) place
    copying_lost e only keeps = marks_stopped k law (sectors_of a area) (sectors_of d area) (sectors_of e area) place stops only keeps

    pub copying_most : (e : Device) → n < k.count (sector_at (sectors_of a area) (next (sectors_of a area) place)) → SpendsUpTo d e (copy_units k (live_in (slots k) (sectors_of d area) (next (sectors_of a area) place) (n + k.first)))
        → SpendsUpTo a e (copies k (to_copy k.reading (sectors_of a area) place))
    copying_most e more spends =
        let all = k.count (sector_at (sectors_of a area) victim) in
        let here : SpendsUpTo d e (copy_units k (live_in (slots k) (sectors_of a area) victim (n + k.first))) = subst (λ (o : Option Placed). SpendsUpTo d e (copy_units k o)) (live_there (n + k.first)) spends in
        let high = to_cost (λ len. (k.units.any_copy len).lost) (sectors_of a area) victim n sound more in
        let m = copy_lost (live_in (slots k) (sectors_of a area) victim (n + k.first)) in
        let part = to_less (λ len. (k.units.any_copy len).lost) (sectors_of a area) victim (n + 1) all (omega arith) in
        let total = ap (copies_cost (λ len. (k.units.any_copy len).lost)) (laws.copies-are (slots k) (are k law) (sectors_of a area) place form sound) in
        let covers = copies-cover (λ len. (k.units.any_copy len).most) (λ len. (k.units.any_copy len).lost) law.units.any_copies (live_to (slots k) (sectors_of a area) victim n) in
        between_within (between_then so_far.spent here) _ _ (omega arith) (omega arith)

  -- Its start and its end.

  pub copying_start : (a : Device) (area : Area) (place : ℕ) → HasCopied k (sectors_of a area) (sectors_of a area) place [] → IsCopying k a a area place 0
  copying_start a area place has = record { touches = untouched (area ∷ []) a; has = has; spent = between_none a }

  pub copying_end : (a d : Device) (area : Area) (place n : ℕ) → Collecting k.reading (sectors_of a area) place → 512 ≤ length (sector_at (sectors_of a area) (next (sectors_of a area) place)) → n ≡ k.count (sector_at (sectors_of a area) (next (sectors_of a area) place))
      → IsCopying k a d area place n → HasCopied k (sectors_of a area) (sectors_of d area) place (to_copy k.reading (sectors_of a area) place) × SpendsIn a d (copies k (to_copy k.reading (sectors_of a area) place))
  copying_end a d area place n form large is all =
      let sound = law.sound (sector_at (sectors_of a area) (next (sectors_of a area) place)) large (victim-ring k law (sectors_of a area) place form) in
      let same : live_to (slots k) (sectors_of a area) (next (sectors_of a area) place) n ≡ to_copy R (sectors_of a area) place =
      ap (λ (n : ℕ). live_to (slots k) (sectors_of a area) (next (sectors_of a area) place) n) is ∙ sym (laws.copies-are (slots k) (are k law) (sectors_of a area) place form sound) in
      (subst (λ ps. HasCopied k (sectors_of a area) (sectors_of d area) place ps) same all.has, subst (λ ps. SpendsIn a d (copies k ps)) same all.spent)

-- what holds at either end of a call
pub either : {T E : Type 0} {P : Type 0} (r : Result T E) → OnOk r P → OnErr r P → P
either (Ok x) a b = a
either (Err e) a b = b

-- an error says so
pub err_flag : {T E : Type 0} (r : Result T E) → IsErr r → is_err r ≡ true
err_flag (Ok x) h = h
err_flag (Err e) h = refl
