-- One sector, as the calls on an area see it.
use Rattle.std.proofs.Common.{◌≡◌, ℕ, ◌+◌, ◌-◌, ◌*◌, ◌/◌, ◌^◌, ◌<◌, ◌≤◌, min, Bool, true, false, not, ◌&&◌, ◌||◌, cond, eqb, leb, ltb, List, [], length, map, get_or, take, Option, Some, None, refl, sym, ap, ◌∙◌, inl, inr, arith}
use Rattle.std.specs.Prelude.{sum_by, is_some}
use Rattle.std.specs.List.{filter_map, list_any, list_all, prefix_len}
use Rattle.std.specs.Option.{option_map_or}
use Rattle.std.proofs.lemmas.Bool.{false≢true, cases_Bool, cases_lt, and_left, and_parts, or_parts, eq-eqb, ne_eqb, lt-ltb, lt-leb, le-leb, le-ltb, not-true}
use Rattle.std.proofs.lemmas.List.FromFn.{length-map-range_with_len, get_or-map-range_with_len}
use Rattle.std.proofs.lemmas.List.Sums.{prefix_len_is, prefix_len_stops}
use Rattle.std.proofs.Math.Nat.{div-le_self}
use Rattle.std.proofs.lemmas.Nat.{le-div}
use Rattle.item_laws.proofs.SlotWalks as walks
use Rattle.item_laws.specs.Slots.{Slot, slot_at, slots, used_slots}
use Rattle.item_laws.proofs.SlotLemmas.{index-slot_at, length-used_slots}
use Rattle.item_laws.proofs.SlotCounts.{slots_to_used, used_inside, used_count_fits}
use Rattle.flash_sim.specs.declared.flash.Kind.{Kind}
use Rattle.flash_sim.specs.declared.flash.Kind.TheVariants.{Erasing, Rewritable}
use Rattle.item_laws.specs.Reading.{IsReading}
use Rattle.zms_cycle.specs.declared.entry.ZEntry.{ZEntry}
use Rattle.zms_cycle.specs.declared.reading.SlotEntry.{SlotEntry}
use Rattle.zms_cycle.specs.declared.reading.SectorState.TheVariants.{Blank, Used}
use Rattle.zms_cycle.specs.Sector.{slot_of, is_valid, cycle_of, valid_slots, holds_close, is_closed, entry_in, entries, holds_done, has_gc_done, capacity, low, written, data_end, end_of, is_under, has_guard, is_sound, pair_of, entry_cost, holds_too_much, is_overfull, can_close}
use Rattle.zms_cycle.specs.Entries.{decoded, is_special}
use Rattle.zms_cycle.specs.States.{state_of}
use Rattle.zms_cycle.proofs.Slots16.{entry_in-is}
use Rattle.zms_cycle.proofs.ErasedSlots.{written-blank, written-never}
use Rattle.zms_cycle.proofs.Frames.{sound-parts}
use Rattle.zms_cycle.proofs.Scanning.{entries_to}
use Rattle.zms_format.specs.Area.{is_begun, may_close, is_unused, reading, marks_of, placed_at, IsListed, last_in}

-- What the state says.

module _ (kind : Kind) (b : List ℕ) where
  state_some : (o : Option ℕ) → cycle_of b ≡ o → state_of kind b ≡ option_map_or (λ c. Used c (is_closed b) (length (valid_slots b)) (min (data_end kind b) (2 ^ 32 - 1)) (has_gc_done b)) o Blank
  state_some o at = ap (λ (o : Option ℕ). option_map_or (λ c. Used c (is_closed b) (length (valid_slots b)) (min (data_end kind b) (2 ^ 32 - 1)) (has_gc_done b)) o Blank) at

  not_used : {c n e : ℕ} {s d : Bool} → Blank ≡ Used c s n e d → ⊥
  not_used h = cc

  pub blank_is : (o : Option ℕ) → cycle_of b ≡ o → Blank ≡ state_of kind b → cycle_of b ≡ None
  blank_is None at is = at
  blank_is (Some cycle) at is = absurd (not_used (is ∙ state_some (Some cycle) at))

pub record IsUsed (kind : Kind) (b : List ℕ) (cycle slots end : ℕ) (closed done : Bool) : Type 0 where
  pub of_cycle : cycle_of b ≡ Some cycle
  pub ends : end ≡ min (data_end kind b) (2 ^ 32 - 1)
  pub shut : closed ≡ is_closed b
  pub count : slots ≡ length (valid_slots b)
  pub marked : done ≡ has_gc_done b

same_used : {a c n e m f : ℕ} {s d t g : Bool} → Used a s n e d ≡ Used c t m f g → (s ≡ t) × (n ≡ m) × (d ≡ g) × (a ≡ c) × (e ≡ f)
same_used h = (cc, cc, cc, cc, cc)

pub used_is : (kind : Kind) (b : List ℕ) (cycle slots end : ℕ) (closed done : Bool) (o : Option ℕ) → cycle_of b ≡ o → Used cycle closed slots end done ≡ state_of kind b → IsUsed kind b cycle slots end closed done
used_is kind b cycle slots end closed done None at is = absurd (not_used kind b (sym (is ∙ state_some kind b None at)))
used_is kind b cycle slots end closed done (Some c) at is =
    let same = same_used (is ∙ state_some kind b (Some c) at) in
    record { of_cycle = at ∙ ap (λ (n : ℕ). Some n) (sym same.3); ends = same.4; shut = same.0; count = same.1; marked = same.2 }

-- where slot 2 is not valid, none is
pub none_valid : (b : List ℕ) → is_valid (cycle_of b) (slot_of b 2) ≡ false → valid_slots b ≡ []
unfolding used_slots
none_valid b invalid =
    let p = is_valid (cycle_of b) in
    let len : length (slots 2 16 b) ≡ length b / 16 - 2 = length-map-range_with_len (slot_at 16 b) 2 (length b / 16 - 2) in
    let zero : prefix_len (is_valid (cycle_of b)) (slots 2 16 b) ≡ 0 =
    prefix_len_is (is_valid (cycle_of b)) (slots 2 16 b) 0 (slot_of b 2) (omega arith) (λ k lt. absurd (omega arith))
    (λ lt. ap (is_valid (cycle_of b)) (get_or-map-range_with_len (slot_at 16 b) 2 (length b / 16 - 2) 0 2 (slot_of b 2) (omega arith) refl) ∙ invalid) in
    ap (λ (k : ℕ). take k (slots 2 16 b)) zero

-- where no slot is, slot 2 is not
stops : (b : List ℕ) → length (valid_slots b) ≡ 0 → 0 < length b / 16 - 2 → is_valid (cycle_of b) (slot_of b 2) ≡ false
stops b none some =
    let len : length (slots 2 16 b) ≡ length b / 16 - 2 = length-map-range_with_len (slot_at 16 b) 2 (length b / 16 - 2) in
    let zero : prefix_len (is_valid (cycle_of b)) (slots 2 16 b) ≡ 0 = sym (length-used_slots (is_valid (cycle_of b)) 2 16 b) ∙ none in
    sym (ap (is_valid (cycle_of b)) (get_or-map-range_with_len (slot_at 16 b) 2 (length b / 16 - 2) 0 2 (slot_of b 2) some refl))
    ∙ sym (ap (λ (j : ℕ). is_valid (cycle_of b) (get_or (slots 2 16 b) j (slot_of b 2))) zero)
    ∙ prefix_len_stops (is_valid (cycle_of b)) (slots 2 16 b) (slot_of b 2) (omega arith)

-- slot 2 is valid where some slot is
pub begun_count : (b : List ℕ) → 48 ≤ length b → ltb 0 (length (valid_slots b)) ≡ is_begun b
unfolding is_begun
begun_count b long =
    elim (cases_Bool (is_valid (cycle_of b) (slot_of b 2))) [
      | inl begun ↦ elim (cases_lt 0 (length (valid_slots b))) [
        | inl some ↦ lt-ltb 0 (length (valid_slots b)) some ∙ sym begun
        | inr none ↦
            let room : 3 ≤ length b / 16 = le-div 3 (length b) 16 (omega arith) (omega arith) in
            absurd (false≢true (sym (stops b (omega arith) (omega arith)) ∙ begun))
      ]
      | inr unused ↦ ap (λ (ss : List Slot). ltb 0 (length ss)) (none_valid b unused) ∙ sym unused
    ]

marks_are : (kind : Kind) (b : List ℕ) (blank begun closed done : Bool) (slots end : ℕ) → blank ≡ not (is_some (cycle_of b)) → begun ≡ is_begun b → closed ≡ is_closed b → done ≡ has_gc_done b → slots ≡ length (valid_slots b) → end ≡ min (data_end kind b) (2 ^ 32 - 1)
    → record { blank = blank; begun = begun; closed = closed; gc_done = done; slots = slots; data_end = end } ≡ marks_of kind b
marks_are kind b blank begun closed done slots end o a c d n e =
    ap (λ (t : Bool). record { blank = t; begun = begun; closed = closed; gc_done = done; slots = slots; data_end = end }) o
    ∙ ap (λ (t : Bool). record { blank = not (is_some (cycle_of b)); begun = t; closed = closed; gc_done = done; slots = slots; data_end = end }) a
    ∙ ap (λ (t : Bool). record { blank = not (is_some (cycle_of b)); begun = is_begun b; closed = t; gc_done = done; slots = slots; data_end = end }) c
    ∙ ap (λ (t : Bool). record { blank = not (is_some (cycle_of b)); begun = is_begun b; closed = is_closed b; gc_done = t; slots = slots; data_end = end }) d
    ∙ ap (λ (k : ℕ). record { blank = not (is_some (cycle_of b)); begun = is_begun b; closed = is_closed b; gc_done = has_gc_done b; slots = k; data_end = end }) n
    ∙ ap (λ (k : ℕ). record { blank = not (is_some (cycle_of b)); begun = is_begun b; closed = is_closed b; gc_done = has_gc_done b; slots = length (valid_slots b); data_end = k }) e

end_of-nothing : end_of [] ≡ 0
unfolding end_of
end_of-nothing = refl

-- the data end of a sector with no slots, under which nothing is written
pub empty_end : (kind : Kind) (b : List ℕ) → valid_slots b ≡ [] → written kind b ≡ 0 → data_end kind b ≡ 0
empty_end kind b empty none =
    let ends : end_of (entries b) ≡ 0 = ap (λ (ss : List Slot). end_of (filter_map entry_in ss)) empty ∙ end_of-nothing in
    omega arith

pub written-none : (kind : Kind) (b : List ℕ) → cycle_of b ≡ None → written kind b ≡ 0
written-none Rewritable b none = written-never b
written-none Erasing b none = written-blank b none

pub marks_blank : (kind : Kind) (b : List ℕ) → Blank ≡ state_of kind b → record { blank = true; begun = false; closed = false; gc_done = false; slots = 0; data_end = 0 } ≡ marks_of kind b
unfolding is_begun
marks_blank kind b is =
    let none = blank_is kind b (cycle_of b) refl is in
    let invalid = λ (slot : Slot). ap (λ (o : Option ℕ). is_valid o slot) none in
    let empty = none_valid b (invalid (slot_of b 2)) in
    let end : data_end kind b ≡ 0 = empty_end kind b empty (written-none kind b none) in
    marks_are kind b true false false false 0 0 (sym (ap (λ (o : Option ℕ). not (is_some o)) none)) (sym (invalid (slot_of b 2))) (sym (and_left (is_valid (cycle_of b) (slot_of b 1)) (holds_close (slot_of b 1)) (invalid (slot_of b 1))))
    (sym (ap (list_any holds_done) empty)) (sym (ap (λ (ss : List Slot). length ss) empty)) (omega arith)

pub marks_used : (kind : Kind) (b : List ℕ) (cycle slots end : ℕ) (closed done begun : Bool) → 48 ≤ length b → Used cycle closed slots end done ≡ state_of kind b → begun ≡ ltb 0 slots
    → record { blank = false; begun = begun; closed = closed; gc_done = done; slots = slots; data_end = end } ≡ marks_of kind b
marks_used kind b cycle slots end closed done begun long is from =
    let u = used_is kind b cycle slots end closed done (cycle_of b) refl is in
    marks_are kind b false begun closed done slots end (sym (ap (λ (o : Option ℕ). not (is_some o)) u.of_cycle)) (from ∙ ap (λ (n : ℕ). ltb 0 n) u.count ∙ begun_count b long) u.shut u.marked u.count u.ends

-- A sector that is not in use.

-- whatever stands in slot 1, a bank that is never erased takes the close entry
pub may_close-never : (b : List ℕ) → may_close Rewritable b ≡ true
unfolding may_close can_close
may_close-never b = by_cases (is_closed b) (not (is_some (cycle_of b)))
  where
    by_cases : (x y : Bool) → (x || (y || true)) ≡ true
    by_cases true y = refl
    by_cases false true = refl
    by_cases false false = refl

pub closed_may : (kind : Kind) (b : List ℕ) → is_closed b ≡ true → may_close kind b ≡ true
unfolding may_close
closed_may kind b closed = ap (λ (t : Bool). t || (not (is_some (cycle_of b)) || can_close kind b)) closed

or_true : (x y : Bool) → y ≡ true → (x || y) ≡ true
or_true true y e = refl
or_true false y e = e

pub blank_may : (kind : Kind) (b : List ℕ) → cycle_of b ≡ None → may_close kind b ≡ true
unfolding may_close
blank_may kind b none = or_true (is_closed b) (not (is_some (cycle_of b)) || can_close kind b) (ap (λ (o : Option ℕ). not (is_some o) || can_close kind b) none)

pub closable_may : (kind : Kind) (b : List ℕ) → can_close kind b ≡ true → may_close kind b ≡ true
unfolding may_close
closable_may kind b closable = or_true (is_closed b) (not (is_some (cycle_of b)) || can_close kind b) (or_true (not (is_some (cycle_of b))) (can_close kind b) closable)

-- an open sector with a cycle that may be closed can be
pub may_closable : (kind : Kind) (b : List ℕ) → may_close kind b ≡ true → is_closed b ≡ false → is_some (cycle_of b) ≡ true → can_close kind b ≡ true
unfolding may_close
may_closable kind b may open_here used =
    sym (ap (λ (t : Bool). t || (not (is_some (cycle_of b)) || can_close kind b)) open_here ∙ ap (λ (t : Bool). not t || can_close kind b) used) ∙ may

unused_parts : (kind : Kind) (b : List ℕ) → is_unused kind b ≡ true → (is_valid (cycle_of b) (slot_of b 2) ≡ false) × (is_closed b ≡ false) × (may_close kind b ≡ true)
unfolding is_unused is_begun
unused_parts kind b unused =
    let parts = and_parts (not (is_valid (cycle_of b) (slot_of b 2))) (not (is_closed b) && may_close kind b) unused in
    let more = and_parts (not (is_closed b)) (may_close kind b) parts.1 in
    (not-true (is_valid (cycle_of b) (slot_of b 2)) parts.0, not-true (is_closed b) more.0, more.1)

pub unused_slots : (kind : Kind) (b : List ℕ) → is_unused kind b ≡ true → valid_slots b ≡ []
unused_slots kind b unused = none_valid b (unused_parts kind b unused).0

pub unused_closed : (kind : Kind) (b : List ℕ) → is_unused kind b ≡ true → is_closed b ≡ false
unused_closed kind b unused = (unused_parts kind b unused).1

pub unused_may : (kind : Kind) (b : List ℕ) → is_unused kind b ≡ true → may_close kind b ≡ true
unused_may kind b unused = (unused_parts kind b unused).2

-- where its slot 1 is as it must be, a sector is in use on any bank or on none
pub unused-by : (kind : Kind) (b : List ℕ) → may_close kind b ≡ true → is_unused kind b ≡ is_unused Rewritable b
unfolding is_unused
unused-by kind b may =
    ap (λ (t : Bool). not (is_begun b) && (not (is_closed b) && t)) may
    ∙ sym (ap (λ (t : Bool). not (is_begun b) && (not (is_closed b) && t)) (may_close-never b))

-- A sector that is not in use is open and holds nothing.
pub laws : (kind : Kind) → IsReading (reading kind)
laws kind = record {
  closed = unused_closed kind;
  gc_done = λ b unused. ap (list_any holds_done) (unused_slots kind b unused);
  pairs = λ b unused. ap (λ (ss : List Slot). map (pair_of b) (filter_map entry_in ss)) (unused_slots kind b unused);
}

pub unused-is : (b : List ℕ) → (is_begun b || is_closed b) ≡ not (is_unused Rewritable b)
unfolding is_unused
unused-is b =
    by_cases (is_begun b) (is_closed b)
    ∙ ap (λ (t : Bool). not (not (is_begun b) && (not (is_closed b) && t))) (sym (may_close-never b))
  where
    by_cases : (x y : Bool) → (x || y) ≡ not (not x && (not y && true))
    by_cases true y = refl
    by_cases false true = refl
    by_cases false false = refl

-- Guard slot and room.

pub guard_test : (b : List ℕ) (slots : ℕ) → slots ≡ length (valid_slots b) → leb ((slots + 3) * 16) (length b) ≡ has_guard b
guard_test b slots is =
    elim (cases_lt (length b) ((slots + 3) * 16)) [
      | inl lt ↦ lt-leb ((slots + 3) * 16) (length b) lt ∙ sym (lt-leb 16 (low b) (omega arith))
      | inr ge ↦ le-leb ((slots + 3) * 16) (length b) ge ∙ sym (le-leb 16 (low b) (omega arith))
    ]

pub costs_of : (b : List ℕ) → holds_too_much b ≡ false → sum_by entry_cost (entries b) ≤ capacity (length b)
unfolding holds_too_much
costs_of b roomy =
    let fits = (or_parts (list_any (λ f. not (is_under (low b - 16) f)) (entries b)) (ltb (capacity (length b)) (sum_by entry_cost (entries b))) roomy).1 in
    elim (cases_lt (capacity (length b)) (sum_by entry_cost (entries b))) [
      | inl more ↦ absurd (false≢true (sym fits ∙ lt-ltb (capacity (length b)) (sum_by entry_cost (entries b)) more))
      | inr le ↦ le
    ]

pub unused_sound : (kind : Kind) (b : List ℕ) → 48 ≤ length b → is_unused kind b ≡ true → is_sound b ≡ true
unused_sound kind b long unused =
    let empty = unused_slots kind b unused in
    let none : length (valid_slots b) ≡ 0 = ap (λ (ss : List Slot). length ss) empty in
    ap (λ (t : Bool). t && list_all (is_under (low b - 16)) (entries b)) (le-leb 16 (low b) (omega arith))
    ∙ ap (λ (ss : List Slot). list_all (is_under (low b - 16)) (filter_map entry_in ss)) empty

pub unused_roomy : (kind : Kind) (b : List ℕ) → 48 ≤ length b → is_unused kind b ≡ true → is_overfull b ≡ false
unfolding holds_too_much
unused_roomy kind b long unused =
    let guard = (sound-parts b (unused_sound kind b long unused)).guard in
    let empty : entries b ≡ [] = ap (filter_map entry_in) (unused_slots kind b unused) in
    ap (λ (t : Bool). not t || holds_too_much b) (le-leb 16 (low b) guard)
    ∙ ap (λ (found : List SlotEntry). list_any (λ f. not (is_under (low b - 16) f)) found || ltb (capacity (length b)) (sum_by entry_cost found)) empty
    ∙ le-ltb (capacity (length b)) 0 (omega arith)

-- Going over the entries.

pub sum_step : (g : SlotEntry → ℕ) (b : List ℕ) (n k : ℕ) (o : Option SlotEntry) (sum add : ℕ) → k ≡ 2 + n → o ≡ entry_in (slot_of b k) → sum ≡ sum_by g (entries_to b n) → add ≡ option_map_or g o 0 → sum + add ≡ sum_by g (entries_to b (n + 1))
sum_step g b n k o sum add at is so_far more = walks.sum_step entry_in 2 16 b g n k (n + 1) o sum add at refl is so_far more

pub any_step : (p : SlotEntry → Bool) (b : List ℕ) (n k : ℕ) (o : Option SlotEntry) (before here : Bool) → k ≡ 2 + n → o ≡ entry_in (slot_of b k) → before ≡ list_any p (entries_to b n) → here ≡ option_map_or p o false → (before || here) ≡ list_any p (entries_to b (n + 1))
any_step p b n k o before here at is so_far more = walks.any_step entry_in 2 16 b p n k (n + 1) o before here at refl is so_far more

pub entries_all : (b : List ℕ) (n : ℕ) → n ≡ length (valid_slots b) → entries_to b n ≡ entries b
entries_all b n is = ap (filter_map entry_in) (slots_to_used (is_valid (cycle_of b)) 2 16 b n is)

-- a slot that is read stands in the sector
pub slot_room : (b : List ℕ) (k : ℕ) → k < length (valid_slots b) + 2 → 48 ≤ length b → (k + 1) * 16 ≤ length b
slot_room b k lt long = let room : 3 ≤ length b / 16 = le-div 3 (length b) 16 (omega arith) (omega arith) in used_inside (is_valid (cycle_of b)) 2 16 b k lt (omega arith)

pub read_room : (b : List ℕ) (k : ℕ) → 2 ≤ k → k < length (valid_slots b) + 2 → (k + 1) * 16 ≤ length b
read_room b k from lt = let fits = used_count_fits (is_valid (cycle_of b)) 2 16 b in used_inside (is_valid (cycle_of b)) 2 16 b k lt (omega arith)

-- there are no more slots than bytes
pub few_slots : (b : List ℕ) → length (valid_slots b) ≤ length b
few_slots b = let fits = used_count_fits (is_valid (cycle_of b)) 2 16 b in let less = div-le_self (length b) 16 in omega arith

-- the code's test of ends and costs
pub too_much_is : (b : List ℕ) (limit cap costs slots n : ℕ) (over : Bool) → slots ≡ length (valid_slots b) → n ≡ slots → limit ≡ length b - (slots + 3) * 16 → cap ≡ length b - 80 → over ≡ list_any (λ f. not (is_under limit f)) (entries_to b n) → costs ≡ sum_by entry_cost (entries_to b n)
    → (over || ltb cap costs) ≡ holds_too_much b
unfolding holds_too_much
too_much_is b limit cap costs slots n over count to at room any sum =
    let all = entries_all b n (to ∙ count) in
    let fence : limit ≡ low b - 16 = omega arith in
    ap (λ (t : Bool). t || ltb cap costs) (any ∙ ap (list_any (λ f. not (is_under limit f))) all ∙ ap (λ (k : ℕ). list_any (λ f. not (is_under k f)) (entries b)) fence)
    ∙ ap (λ (k : ℕ). list_any (λ f. not (is_under (low b - 16) f)) (entries b) || ltb k costs) room
    ∙ ap (λ (k : ℕ). list_any (λ f. not (is_under (low b - 16) f)) (entries b) || ltb (capacity (length b)) k) (sum ∙ ap (sum_by entry_cost) all)

-- The search for an id, from the lowest slot up.

pub find_here : (b : List ℕ) (id count k : ℕ) (f : SlotEntry) (rest : Option SlotEntry) → 0 < count → k ≡ count + 1 → Some f ≡ entry_in (slot_of b k) → f.entry.id ≡ id → last_in id (entries_to b count) ≡ rest → Some f ≡ rest
find_here b id count k f rest positive at is same later = walks.found_here entry_in 2 16 b (λ (g : SlotEntry). eqb g.entry.id id) count k positive (omega arith) f rest is (eq-eqb f.entry.id id same) later

pub find_other : (b : List ℕ) (id count k : ℕ) (f : SlotEntry) (rest : Option SlotEntry) → 0 < count → k ≡ count + 1 → Some f ≡ entry_in (slot_of b k) → (f.entry.id ≡ id → ⊥) → last_in id (entries_to b count) ≡ rest → last_in id (entries_to b (count - 1)) ≡ rest
find_other b id count k f rest positive at is other later = walks.found_other entry_in 2 16 b (λ (g : SlotEntry). eqb g.entry.id id) count k positive (omega arith) f rest is (ne_eqb f.entry.id id other) later

pub find_none : (b : List ℕ) (id count k : ℕ) (rest : Option SlotEntry) → 0 < count → k ≡ count + 1 → None ≡ entry_in (slot_of b k) → last_in id (entries_to b count) ≡ rest → last_in id (entries_to b (count - 1)) ≡ rest
find_none b id count k rest positive at is later = walks.found_none entry_in 2 16 b (λ (g : SlotEntry). eqb g.entry.id id) count k positive (omega arith) rest is later

-- The slot of an entry.

entry_slot : (slot : Slot) (o : Option ZEntry) (f : SlotEntry) → decoded slot.bytes ≡ o → entry_in slot ≡ Some f → f.slot ≡ slot.index
entry_slot slot None f read is = absurd (none_some (sym (entry_in-is slot None read) ∙ is))
  where
    none_some : {X : Type 0} {x : X} → None ≡ Some x → ⊥
    none_some h = cc
entry_slot slot (Some e) f read is =
    elim (cases_Bool (is_special e)) [
      | inl special ↦ absurd (none_some (sym (entry_in-is slot (Some e) read ∙ ap (λ (t : Bool). cond t None (Some (record { slot = slot.index; entry = e }))) special) ∙ is))
      | inr ordinary ↦ sym (same_slot (record { slot = slot.index; entry = e }) f (sym (entry_in-is slot (Some e) read ∙ ap (λ (t : Bool). cond t None (Some (record { slot = slot.index; entry = e }))) ordinary) ∙ is))
    ]
  where
    none_some : {X : Type 0} {x : X} → None ≡ Some x → ⊥
    none_some h = cc

    same_slot : (f g : SlotEntry) → Some f ≡ Some g → f.slot ≡ g.slot
    same_slot f g h = let e : f ≡ g = cc in ap (λ (x : SlotEntry). x.slot) e

-- an entry that is read from a valid slot
pub listed_here : (b : List ℕ) (place k : ℕ) (f : SlotEntry) → 2 ≤ k → k < length (valid_slots b) + 2 → Some f ≡ entry_in (slot_of b k) → IsListed b (placed_at place f)
listed_here b place k f from lt is =
    let at : f.slot ≡ k = entry_slot (slot_of b k) (decoded (slot_of b k).bytes) f refl (sym is) ∙ index-slot_at 16 b k in
    record {
      from = omega arith;
      listed = omega arith;
      entry = ap (λ (j : ℕ). entry_in (slot_of b j)) at ∙ sym is;
    }
