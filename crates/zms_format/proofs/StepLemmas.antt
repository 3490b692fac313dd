-- What the steps of ZMS make of a sector, in the words of a store of items.
use Rattle.std.proofs.Common.{inl, inr, ◌≡◌, ℕ, ◌+◌, ◌*◌, ◌<◌, ◌≤◌, ◌⊎◌, ◌&&◌, ◌||◌, Bool, true, false, not, cond, eqb, leb, ltb, List, [], ◌∷◌, ◌++◌, length, map, Option, Some, None, refl, sym, ap, subst, ◌∙◌, arith}
use Rattle.std.specs.Prelude.{IsSome, is_some, Result, OnErr}
use Rattle.std.proofs.lemmas.Result.{on_err_weaker}
use Rattle.std.proofs.lemmas.Bool.{false≢true, and_parts, cond-true, cond-false, cases_eq, eq-eqb, ne_eqb, leb-true}
use Rattle.flash_sim.specs.Device.{Device}
use Rattle.flash_map.specs.declared.area.Geometry.{Geometry}
use Rattle.flash_map.specs.Spending.{SpendsBetween}
use Rattle.item_store.specs.Standing.{SpendsIn}
use Rattle.flash_sim.specs.declared.flash.Kind.{Kind as BankKind}
use Rattle.flash_sim.specs.declared.flash.Kind.TheVariants.{Erasing, Rewritable}
use Rattle.flash_map.proofs.PieceLemmas.{on_err}
use Rattle.item_laws.specs.Slots.{Slot}
use Rattle.item_laws.specs.Reading.{is_sound as ring_sound}
use Rattle.item_laws.specs.PairRounds.{stored_cost}
use Rattle.item_store.specs.Steps.{new_entry, Keeps, KeepsMarks, LeavesRoom, Begins, Adds, Marks, Closes, Clears, StopsClearing}
use Rattle.zms_cycle.specs.Changes.{guard_units, KeepsList, KeepsSlots, AddsPair, MarksDone, Closes as zms_closes, Empties, StopsEmptying}
use Rattle.zms_cycle.specs.Sector.{slot_of, cycle_of, valid_slots, is_closed, has_gc_done, entries, cost, capacity, low, free, fits, is_sound, pairs}
use Rattle.zms_cycle.proofs.Frames.{data_len-short}
use Rattle.zms_format.specs.Area.{reading, is_begun, may_close, is_unused, is_clean}
use Rattle.zms_format.proofs.Roomy.{IsRoomy, no_cycle, empties_unused, empties_clean, clean_blank, unused_clean, unused_of, not_clean_cycle, roomy_of, ring_sound_of, ring_same, may_same}
use Rattle.zms_format.proofs.Sectors.{laws, begun_count, unused_slots, empty_end, written-none, closed_may, closable_may, may_closable, may_close-never}
use Rattle.zms_format.specs.Formats.{entry_of, placed_of, just, format_of, entry_units, opens_ready}
use Rattle.zms_format.proofs.Erased.{cycle_none}
use Rattle.zms_format.proofs.FormatLemmas.{some_flag, and_true, slot_is, used_guard, used_emptying, ready_of, first_entry_is_known as known}
use Rattle.std.specs.Option.{option_map, option_map_or}
use Rattle.std.specs.List.{range_with_len}
use Rattle.std.proofs.lemmas.List.{map_push, length-replicate}
use Rattle.std.proofs.lemmas.List.Sums.{sum_by_push}
use Rattle.item_laws.proofs.LiveLemmas.{option_cases, some_none}
use Rattle.item_laws.specs.Live.{last_in as last_here}
use Rattle.item_store.specs.declared.entry.Entry.{Entry}
use Rattle.item_store.specs.declared.entry.Placed.{Placed}
use Rattle.item_store.specs.SectorFormat.{placed_at, slots, entries as format_entries}
use Rattle.item_store.proofs.ReadLemmas as own
use Rattle.zms_cycle.specs.declared.reading.SlotEntry.{SlotEntry}
use Rattle.zms_cycle.specs.Sector.{entry_in, value_of, pair_of, pair_at, can_close, has_guard, holds_too_much}
use Rattle.zms_format.specs.Area.{placed_at as zms_placed_at, last_in}
use Rattle.zms_cycle.proofs.EntryReads.{bytes_len}
use Rattle.zms_format.proofs.FitCosts.{fits-costs}
use Rattle.zms_format.proofs.Sectors.{read_room}
use Rattle.zms_format.proofs.ZmsEntries.{are_zms}

some_here : (o : Option ℕ) (c : ℕ) → o ≡ Some c → is_some o ≡ true
some_here o c e = ap (λ (x : Option ℕ). is_some x) e

-- the parts of a ready sector
module _ (bank : BankKind) (b : List ℕ) (ready : (is_some (cycle_of b) && (is_sound b && may_close bank b)) ≡ true) where
  ready_rest : (is_sound b && may_close bank b) ≡ true
  ready_rest = (and_parts (is_some (cycle_of b)) (is_sound b && may_close bank b) ready).1

  pub ready_may : may_close bank b ≡ true
  ready_may = (and_parts (is_sound b) (may_close bank b) ready_rest).1

  pub ready_cycle : is_some (cycle_of b) ≡ true
  ready_cycle = (and_parts (is_some (cycle_of b)) (is_sound b && may_close bank b) ready).0

  -- what its next entry spends
  pub ready_spends : (old new : Device) (units : ℕ) → SpendsBetween old new (units + guard_units bank (cycle_of b) (length (valid_slots b) + 2 + 1) b) (units + guard_units bank (cycle_of b) (length (valid_slots b) + 2 + 1) b) → SpendsIn old new (entry_units bank b units)
  ready_spends old new units spends = subst (λ (n : ℕ). SpendsBetween old new (units + n) (units + n)) (sym (used_guard bank b ready_cycle)) spends

-- an open sector that is sound and not clean can be closed
pub open_closable : (bank : BankKind) (b : List ℕ) → 512 ≤ length b → ring_sound (reading bank) b ≡ true → is_closed b ≡ false → is_clean bank b ≡ false → can_close bank b ≡ true
open_closable bank b wide sound open_here used =
    let roomy : IsRoomy bank b = roomy_of bank b (omega arith) sound in
    may_closable bank b roomy.may open_here (some_flag (cycle_of b) (not_clean_cycle bank b used))

-- on a rewritable bank, slot 2 of a sector that is neither clean nor closed is valid
used_begun : (b : List ℕ) → is_clean Rewritable b ≡ false → is_closed b ≡ false → is_begun b ≡ true
unfolding is_begun
used_begun b used open_here = by_flag (is_begun b) refl
  where
    by_flag : (t : Bool) → is_begun b ≡ t → t ≡ true
    by_flag true is = refl
    by_flag false is = absurd (false≢true (sym used ∙ unused_clean b (unused_of Rewritable b is open_here (may_close-never b))))

-- the entries of a sector, as `item_store` sees them
entries_are : (geometry : Geometry) (b : List ℕ) → format_entries (format_of geometry) b ≡ map entry_of (entries b)
entries_are geometry b =
    own.entries_read (λ n. entry_in (slot_of b n)) entry_of (λ f. value_of b f.entry) (slot_is b) (range_with_len 2 (length (valid_slots b)))
    ∙ ap (map entry_of) (sym ((are_zms Rewritable).listed b))

-- an entry, by what it says
entry_by : (e : Entry) (slot id len : ℕ) → e.slot ≡ slot → e.id ≡ id → e.len ≡ len → e ≡ new_entry slot id len
entry_by e slot id len at named long =
    ap (λ (n : ℕ). new_entry n e.id e.len) at
    ∙ ap (λ (n : ℕ). new_entry slot n e.len) named
    ∙ ap (λ (n : ℕ). new_entry slot id n) long

-- the slots of a list lie in its sector
slots_inside : (b : List ℕ) → 512 ≤ length b → (length (valid_slots b) + 2) * 16 ≤ length b
slots_inside b wide =
    elim (cases_eq (length (valid_slots b)) 0) [
      | inl none ↦ omega arith
      | inr some ↦ let last = read_room b (length (valid_slots b) + 1) (omega (arith, some)) (omega arith) in omega arith
    ]

module _ (geometry : Geometry) (b e : List ℕ) (wide : 512 ≤ length b) where
  pub clears : Empties geometry.kind b e → Clears (format_of geometry) b e
  clears empties = record {
    clean = empties_clean geometry.kind b e empties;
    ready = and_true (is_some (cycle_of e)) (is_sound e && may_close geometry.kind e) (ap (λ (x : Option ℕ). is_some x) empties.cycle) (and_true (is_sound e) (may_close geometry.kind e) empties.sound (closable_may geometry.kind e empties.closable));
    long = empties.long;
  }

  -- slot 2 is valid as before where the slots stay
  begun_same : length e ≡ length b → valid_slots e ≡ valid_slots b → is_begun e ≡ is_begun b
  begun_same long slots = sym (begun_count e (omega arith)) ∙ ap (λ (ss : List Slot). ltb 0 (length ss)) slots ∙ begun_count b (omega arith)

  pub closes : zms_closes geometry.kind b e → Closes (format_of geometry) b e
  closes c = record {
    list = record { list = c.list; gc_done = c.gc_done; closed = c.closed };
    same_entries = entries_are geometry e ∙ ap (map entry_of) c.same_entries ∙ sym (entries_are geometry b);
    long = c.long;
    sound = λ sound. ring_same geometry.kind b e (omega arith) (closed_may geometry.kind e c.closed) c.long c.lower c.same_entries c.list sound;
    emptying = λ used open_here.
        ap just
        (used_emptying geometry.kind e c.closed
        (λ is. begun_same c.long c.slots ∙ used_begun b (subst (λ (bank : BankKind). is_clean bank b ≡ false) is used) open_here));
  }

  -- the sector is in use as before where the slots stay, and what slot 1 says of it
  unused_same : KeepsSlots b e → may_close geometry.kind e ≡ may_close geometry.kind b → is_unused geometry.kind e ≡ is_unused geometry.kind b
  unfolding is_unused
  unused_same kept may =
      let long = kept.long in
      let begun = begun_same kept.long kept.slots in
      ap (λ (t : Bool). not t && (not (is_closed e) && may_close geometry.kind e)) begun
      ∙ ap (λ (t : Bool). not (is_begun b) && (not t && may_close geometry.kind e)) kept.closed
      ∙ ap (λ (t : Bool). not (is_begun b) && (not (is_closed b) && t)) may

  pub keeps_slots : KeepsSlots b e → pairs e ≡ pairs b → may_close geometry.kind e ≡ may_close geometry.kind b → Keeps (format_of geometry) b e
  keeps_slots kept list may = record {
    list = record { list = list; gc_done = kept.gc_done; closed = kept.closed };
    long = kept.long;
    used = λ used. unused_same kept may ∙ used;
    sound = λ sound.
        let roomy : IsRoomy geometry.kind b = roomy_of geometry.kind b (omega arith) sound in
        ring_same geometry.kind b e (omega arith) (may ∙ roomy.may) kept.long kept.lower kept.same_entries list sound;
  }

  pub keeps : (most : ℕ) → KeepsList geometry.kind most b e → Keeps (format_of geometry) b e
  keeps most h = keeps_slots h.kept h.list (may_same geometry.kind b e h.kept.cycle h.kept.closed h.close_slot)

  -- one entry more
  adds_entry : (id : ℕ) (bytes : List ℕ) → AddsPair geometry.kind b e id bytes → format_entries (format_of geometry) e ≡ format_entries (format_of geometry) b ++ new_entry (2 + length (valid_slots b)) id (length bytes) ∷ []
  adds_entry id bytes h =
      let slot = h.slot in
      entries_are geometry e ∙ ap (map entry_of) h.more ∙ map_push entry_of (entries b) h.found
      ∙ ap (λ (es : List Entry). es ++ entry_of h.found ∷ []) (sym (entries_are geometry b))
      ∙ ap (λ (x : Entry). format_entries (format_of geometry) b ++ x ∷ []) (entry_by (entry_of h.found) (2 + length (valid_slots b)) id (length bytes) (omega arith) h.entry_id h.entry_len)

  -- one slot more
  pub one_slot : length e ≡ length b → low e + 16 ≡ low b → length (valid_slots e) ≡ length (valid_slots b) + 1
  one_slot long lower =
      let old_inside = slots_inside b wide in
      let inside = slots_inside e (omega arith) in
      omega arith

  pub adds : (id : ℕ) (bytes : List ℕ) → may_close geometry.kind b ≡ true → cost (length bytes) ≤ free geometry.kind b → AddsPair geometry.kind b e id bytes → Adds (format_of geometry) b e id bytes
  adds id bytes may room h =
      let lower = h.lower in
      let grown = h.grown in
      record {
        list = record { list = h.list; gc_done = h.gc_done; closed = h.closed };
        long = h.long;
        entry = adds_entry id bytes h;
        count = one_slot h.long h.lower;
        ready = and_true (is_some (cycle_of e)) (is_sound e && may_close geometry.kind e) (ap (λ (x : Option ℕ). is_some x) h.cycle ∙ some_here (cycle_of b) h.found.entry.cycle h.of_cycle)
            (and_true (is_sound e) (may_close geometry.kind e) h.sound (may_same geometry.kind b e h.cycle h.closed h.close_slot ∙ may));
        free = omega arith;
      }

  pub marks : may_close geometry.kind b ≡ true → 32 ≤ free geometry.kind b → MarksDone geometry.kind b e → Marks (format_of geometry) b e
  marks may room h =
      let lower = h.lower in
      let same_end = h.same_end in
      record {
        list = record { list = h.list; gc_done = h.gc_done; closed = h.closed };
        long = h.long;
        free = omega arith;
        sound = λ small.
            let same : stored_cost cost (pairs e) ≡ stored_cost cost (pairs b) = ap (stored_cost cost) h.list in
            let long = h.long in
            ring_sound_of geometry.kind e (may_same geometry.kind b e h.cycle h.closed h.close_slot ∙ may) h.sound (omega arith);
      }

  -- what fits has its cost free
  pub fits_cost : (len : ℕ) → fits geometry.kind b len ≡ true → cost len ≤ free geometry.kind b
  fits_cost len fitting =
      elim (cases_eq len 0) [
        | inl none ↦
            let short = data_len-short len (omega arith) in
            let room = leb-true 32 (free geometry.kind b) (sym (cond-true (eqb len 0) (leb 32 (free geometry.kind b)) (leb (cost len + cond (has_gc_done b) 2 3 * 16) (free geometry.kind b)) (eq-eqb len 0 none)) ∙ fitting) in
            omega arith
        | inr some ↦
            let room = leb-true (cost len + cond (has_gc_done b) 2 3 * 16) (free geometry.kind b) (sym (cond-false (eqb len 0) (leb 32 (free geometry.kind b)) (leb (cost len + cond (has_gc_done b) 2 3 * 16) (free geometry.kind b)) (ne_eqb len 0 some)) ∙ fitting) in
            omega arith
      ]

  -- a sector with a cycle is ready as it is
  pub begins_as : IsSome (cycle_of b) → ring_sound (reading geometry.kind) b ≡ true → Begins (format_of geometry) b b
  begins_as cycle sound =
      let roomy : IsRoomy geometry.kind b = roomy_of geometry.kind b (omega arith) sound in
      record { blank = λ h. h; clean = λ h. h; idle = λ h. refl; used = λ h. refl; ready = ready_of geometry.kind b cycle roomy.sound roomy.may; put = λ len. refl; long = refl }

  -- what is put leaves a sound sector sound
  pub put_sound : (id : ℕ) (bytes : List ℕ) → fits geometry.kind b (length bytes) ≡ true → AddsPair geometry.kind b e id bytes → ring_sound (reading geometry.kind) b ≡ true → ring_sound (reading geometry.kind) e ≡ true
  put_sound id bytes fitting h sound =
      let roomy : IsRoomy geometry.kind b = roomy_of geometry.kind b (omega arith) sound in
      let bound = fits-costs geometry.kind b (length bytes) roomy.sound roomy.costs fitting in
      let sum : stored_cost cost (pairs b ++ (id, bytes) ∷ []) ≡ stored_cost cost (pairs b) + cond (eqb (length bytes) 0) 0 (cost (length bytes)) = sum_by_push (λ (p : ℕ × List ℕ). cond (eqb (length p.1) 0) 0 (cost (length p.1))) (pairs b) (id, bytes) in
      let same : stored_cost cost (pairs e) ≡ stored_cost cost (pairs b ++ (id, bytes) ∷ []) = ap (stored_cost cost) h.list in
      let long = h.long in
      let cap : capacity (length e) ≡ capacity (length b) = ap capacity long in
      ring_sound_of geometry.kind e (may_same geometry.kind b e h.cycle h.closed h.close_slot ∙ roomy.may) h.sound (omega arith)

-- The entry that is copied.

pub record IsThere (from : List ℕ) (p : Placed) : Type 0 where
  pub found : SlotEntry
  pub read : entry_in (slot_of from p.slot) ≡ Some found
  pub id : p.id ≡ found.entry.id
  pub len : p.len ≡ found.entry.len

pub is_there : (from : List ℕ) (p : Placed) → option_map (placed_at p.sector) (option_map entry_of (entry_in (slot_of from p.slot))) ≡ Some p → IsThere from p
is_there from p is =
    elim (option_cases (entry_in (slot_of from p.slot))) [
      | inl none ↦ absurd (some_none p (sym is ∙ ap (λ (o : Option SlotEntry). option_map (placed_at p.sector) (option_map entry_of o)) none))
      | inr (f, some) ↦
          let same : placed_at p.sector (entry_of f) ≡ p = some_same (placed_at p.sector (entry_of f)) p (sym (ap (λ (o : Option SlotEntry). option_map (placed_at p.sector) (option_map entry_of o)) some) ∙ is) in
          record { found = f; read = some; id = ap (λ (q : Placed). q.id) (sym same); len = ap (λ (q : Placed). q.len) (sym same) }
    ]
  where
    some_same : (x y : Placed) → Some x ≡ Some y → x ≡ y
    some_same x y e = cc

-- the pair in its slot has the length that the entry says
pub copied_len : (from : List ℕ) (p : Placed) → is_sound from ≡ true → 2 ≤ p.slot → p.slot < 2 + length (valid_slots from) → option_map (placed_at p.sector) (option_map entry_of (entry_in (slot_of from p.slot))) ≡ Some p → length (pair_at from p.slot).1 ≡ p.len
copied_len from p sound first listed is =
    let t = is_there from p is in
    let pair : pair_at from p.slot ≡ (t.found.entry.id, value_of from t.found.entry) = ap (λ (o : Option SlotEntry). option_map_or (pair_of from) o (0, [])) t.read in
    let long = bytes_len from p.slot t.found sound first (omega arith) (read_room from p.slot first (omega arith)) t.read in
    ap (λ (q : ℕ × List ℕ). length q.1) pair ∙ long ∙ sym t.len

pub adds_copy : (geometry : Geometry) (b e from : List ℕ) (p : Placed) → 512 ≤ length b → is_sound from ≡ true → 2 ≤ p.slot → p.slot < 2 + length (valid_slots from) → option_map (placed_at p.sector) (option_map entry_of (entry_in (slot_of from p.slot))) ≡ Some p → may_close geometry.kind b ≡ true → cost p.len + 48 ≤ free geometry.kind b
    → AddsPair geometry.kind b e (pair_at from p.slot).0 (pair_at from p.slot).1 → Adds (format_of geometry) b e p.id (option_map_or (λ f. value_of from f.entry) (entry_in (slot_of from p.slot)) [])
adds_copy geometry b e from p wide sound first listed is may room h =
    let t = is_there from p is in
    let bytes : option_map_or (λ f. value_of from f.entry) (entry_in (slot_of from p.slot)) [] ≡ value_of from t.found.entry = ap (λ (o : Option SlotEntry). option_map_or (λ f. value_of from f.entry) o []) t.read in
    let pair : pair_at from p.slot ≡ (t.found.entry.id, value_of from t.found.entry) = ap (λ (o : Option SlotEntry). option_map_or (pair_of from) o (0, [])) t.read in
    let own_len : cost (length (value_of from t.found.entry)) ≡ cost p.len = ap cost (sym (ap (λ (q : ℕ × List ℕ). length q.1) pair) ∙ copied_len from p sound first listed is) in
    let put : AddsPair geometry.kind b e t.found.entry.id (value_of from t.found.entry) = subst (λ (q : ℕ × List ℕ). AddsPair geometry.kind b e q.0 q.1) pair h in
    subst (λ (bs : List ℕ). Adds (format_of geometry) b e p.id bs) (sym bytes)
    (subst (λ (i : ℕ). Adds (format_of geometry) b e i (value_of from t.found.entry)) (sym t.id) (adds geometry b e wide t.found.entry.id (value_of from t.found.entry) may (omega arith) put))

-- The last entry of an id.

pub last_same : (geometry : Geometry) (b : List ℕ) (place id : ℕ) → option_map placed_of (option_map (zms_placed_at place) (last_in id (entries b))) ≡ option_map (placed_at place) (last_here (slots (format_of geometry)) place id (format_entries (format_of geometry) b))
last_same geometry b place id =
    both_ways (last_in id (entries b))
    ∙ ap (option_map (placed_at place)) (sym (own.last_read (λ n. entry_in (slot_of b n)) entry_of (λ f. value_of b f.entry) (slot_is b) id (entries b) None)
    ∙ ap (λ es. last_here (slots (format_of geometry)) place id es) (ap (map entry_of) ((are_zms Rewritable).listed b) ∙ sym (own.entries_read (λ n. entry_in (slot_of b n)) entry_of (λ f. value_of b f.entry) (slot_is b) (range_with_len 2 (length (valid_slots b))))))
  where
    both_ways : (o : Option SlotEntry) → option_map placed_of (option_map (zms_placed_at place) o) ≡ option_map (placed_at place) (option_map entry_of o)
    both_ways None = refl
    both_ways (Some f) = refl

-- A sector without a cycle, whose emptying makes it ready.

pub begins_empty : (geometry : Geometry) (b e : List ℕ) → cycle_of b ≡ None → Empties geometry.kind b e → Begins (format_of geometry) b e
begins_empty geometry b e none empties = record {
  blank = λ h. empties_unused geometry.kind b e empties;
  clean = λ h. empties_clean geometry.kind b e empties;
  idle = λ ready. absurd (none_ready ready);
  used = λ used. absurd (false≢true (sym used ∙ no_cycle geometry.kind b none));
  ready = and_true (is_some (cycle_of e)) (is_sound e && may_close geometry.kind e) (ap (λ (x : Option ℕ). is_some x) empties.cycle) (and_true (is_sound e) (may_close geometry.kind e) empties.sound (closable_may geometry.kind e empties.closable));
  put = (known geometry.kind b e none empties).put;
  long = empties.long;
}
  where
    none_ready : (is_some (cycle_of b) && (is_sound b && may_close geometry.kind b)) ≡ true → ⊥
    none_ready ready = false≢true (sym (ap (λ (o : Option ℕ). is_some o) none) ∙ (and_parts (is_some (cycle_of b)) (is_sound b && may_close geometry.kind b) ready).0)

-- What an emptying that was cut leaves of a sector without a cycle: it has none either.
pub record StaysBlank (b e : List ℕ) : Type 0 where
  pub long : length e ≡ length b
  pub cycle : cycle_of e ≡ None

pub stays_blank : (bank : BankKind) (b e : List ℕ) → cycle_of b ≡ None → StopsEmptying bank b e → StaysBlank b e
stays_blank Rewritable b e none stops = record { long = stops.kept.long; cycle = stops.kept.cycle ∙ none }
stays_blank Erasing b e none (inl same) = record { long = ap length same; cycle = ap cycle_of same ∙ none }
stays_blank Erasing b e none (inr erased) = record { long = ap length erased ∙ length-replicate (length b) 255; cycle = ap cycle_of erased ∙ cycle_none (length b) }

module _ (geometry : Geometry) (b e : List ℕ) (none : cycle_of b ≡ None) (stops : StopsEmptying geometry.kind b e) where
  stays : StaysBlank b e
  stays = stays_blank geometry.kind b e none stops

  unused_before : is_unused geometry.kind b ≡ true
  unused_before = no_cycle geometry.kind b none

  unused_after : is_unused geometry.kind e ≡ true
  unused_after = no_cycle geometry.kind e stays.cycle

  pub begin_cut : Keeps (format_of geometry) b e
  begin_cut =
      let law = laws geometry.kind in
      record {
        list = record {
          list = law.pairs e unused_after ∙ sym (law.pairs b unused_before);
          gc_done = law.gc_done e unused_after ∙ sym (law.gc_done b unused_before);
          closed = law.closed e unused_after ∙ sym (law.closed b unused_before);
        };
        long = stays.long;
        used = λ used. absurd (false≢true (sym used ∙ unused_before));
        sound = λ sound. ap (λ (t : Bool). t || ((has_guard e && may_close geometry.kind e) && not (holds_too_much e))) unused_after;
      }

  pub begin_room : LeavesRoom (format_of geometry) b e 0
  begin_room =
      let slots-b = unused_slots geometry.kind b unused_before in
      let slots-e = unused_slots geometry.kind e unused_after in
      let none-b : length (valid_slots b) ≡ 0 = ap (λ (ss : List Slot). length ss) slots-b in
      let none-e : length (valid_slots e) ≡ 0 = ap (λ (ss : List Slot). length ss) slots-e in
      let end-b = empty_end geometry.kind b slots-b (written-none geometry.kind b none) in
      let end-e = empty_end geometry.kind e slots-e (written-none geometry.kind e stays.cycle) in
      let long = stays.long in
      omega arith

-- A sector that is not clean, whose close was cut: on a bank that is erased it is as before, and on one that is not it was in
-- use.
pub close_cut : {T E : Type 0} (C : Type 0) (bank : BankKind) (b e : List ℕ) (r : Result T E) → is_clean bank b ≡ false → (bank ≡ Erasing → OnErr r (e ≡ b)) → OnErr r (is_unused bank b ≡ true → (e ≡ b) ⊎ C)
close_cut C Rewritable b e r used same = on_err r (λ unused. absurd (false≢true (sym used ∙ unused_clean b unused)))
close_cut C Erasing b e r used same = on_err_weaker r (λ is unused. inl is) (same refl)

-- Any sector whose emptying was cut.
pub clear_cut : (geometry : Geometry) (b e : List ℕ) → StopsEmptying geometry.kind b e → StopsClearing (format_of geometry) b e
clear_cut geometry b e stops = record { either = either_of geometry.kind stops; opens = opens_of geometry.kind stops }
  where
    either_of : (bank : BankKind) → StopsEmptying bank b e → KeepsMarks (format_of geometry) b e ⊎ (is_clean bank e ≡ true)
    either_of Rewritable h = inl (record { closed = h.kept.closed; gc_done = h.kept.gc_done })
    either_of Erasing (inl same) = inl (record { closed = ap is_closed same; gc_done = ap has_gc_done same })
    either_of Erasing (inr erased) = inr (clean_blank Erasing e (ap cycle_of erased ∙ cycle_none (length b)))

    opens_of : (bank : BankKind) → StopsEmptying bank b e → opens_ready bank ≡ true → (e ≡ b) ⊎ (is_clean bank e ≡ true)
    opens_of Rewritable h opens = absurd (false≢true opens)
    opens_of Erasing (inl same) opens = inl same
    opens_of Erasing (inr erased) opens = inr (clean_blank Erasing e (ap cycle_of erased ∙ cycle_none (length b)))
