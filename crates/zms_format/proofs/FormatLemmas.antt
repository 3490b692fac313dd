-- The format of ZMS is a lawful one.
use Rattle.std.proofs.Common.{inl, inr, ◌≡◌, ℕ, ◌+◌, ◌*◌, ◌/◌, ◌%◌, ◌≤◌, max, ◌&&◌, Bool, true, false, cond, eqb, leb, List, [], ◌∷◌, length, map, Option, Some, None, refl, sym, ap, ◌∙◌, arith}
use Rattle.std.specs.Prelude.{IsSome, is_some}
use Rattle.std.specs.List.{range_with_len}
use Rattle.std.specs.Option.{option_map_or}
use Rattle.std.proofs.lemmas.Bool.{true≢false, and_parts, cases_lt, cond-true, cond-false, eqb-true, le-leb, lt-leb}
use Rattle.std.proofs.lemmas.List.Sums.{sum_by-cons}
use Rattle.flash_map.specs.declared.area.Geometry.{Geometry}
use Rattle.item_laws.specs.PairRounds.{copies_cost}
use Rattle.flash_sim.specs.declared.flash.Kind.{Kind as BankKind}
use Rattle.flash_sim.specs.declared.flash.Kind.TheVariants.{Erasing, Rewritable}
use Rattle.flash_map.specs.Units.{padded, is_erased}
use Rattle.item_laws.specs.Slots.{Slot}
use Rattle.item_store.specs.SectorFormat.{Range, LiesIn, CoversWhole, AreUnits, IsSectorFormat}
use Rattle.item_store.proofs.ReadLemmas as own
use Rattle.item_store.specs.declared.entry.Entry.{Entry}
use Rattle.zms_cycle.specs.declared.entry.ZEntry.{ZEntry}
use Rattle.zms_cycle.specs.declared.reading.SlotEntry.{SlotEntry}
use Rattle.zms_cycle.specs.Entries.{decoded}
use Rattle.zms_cycle.specs.Sector.{slot_of, is_valid_under, is_valid, holds_close, is_closed, cycle_of, valid_slots, free, entry_in, pair_of, is_sound, value_of, cost, capacity, data_len}
use Rattle.zms_cycle.proofs.CopyCalls.{ordinary_id}
use Rattle.zms_cycle.specs.Changes.{guard_units, next_cycle, Empties, emptying, first_guard, closing_most}
use Rattle.zms_cycle.proofs.GuardUnits.{emptied_guard}
use Rattle.zms_cycle.proofs.Slots16.{valid-is}
use Rattle.zms_format.specs.Area.{is_begun, may_close, is_unused, is_clean}
use Rattle.zms_format.proofs.Roomy.{IsRoomy, roomy_of, clean_unused, unused_clean, clean_end, not_clean_cycle}
use Rattle.zms_format.proofs.Damages.{ring_undamaged, undamaged_ring}
use Rattle.zms_cycle.proofs.EntryReads.{bytes_len}
use Rattle.zms_format.proofs.Erased.{cycle_none}
use Rattle.flash_map.proofs.ErasedBytes.{erased_is}
use Rattle.zms_format.proofs.Sectors.{laws, read_room, unused_slots}
use Rattle.zms_format.proofs.ZmsEntries.{are_zms}
use Rattle.zms_format.specs.Formats.{entry_of, format_of, just, guard_most, emptying_least, emptying_most, emptying_units, next_guard, entry_units, units_of, opens_ready}
use Rattle.zms_format.specs.Units.{FirstEntryIsKnown}

pub slot_is : (b : List ℕ) (n : ℕ) (f : SlotEntry) → entry_in (slot_of b n) ≡ Some f → (entry_of f).slot ≡ n
slot_is b n f some = (are_zms Rewritable).slot b 0 n f some

pub some_flag : {X : Type 0} (o : Option X) → IsSome o → is_some o ≡ true
some_flag None h = absurd (cc)
some_flag (Some x) h = refl

pub and_true : (x y : Bool) → x ≡ true → y ≡ true → (x && y) ≡ true
and_true true true a b = refl
and_true true false a b = b
and_true false y a b = a

begun_none : (geometry : Geometry) (b : List ℕ) → is_some (cycle_of b) ≡ true → (format_of geometry).units.begin b ≡ record { least = 0; most = 0; lost = 0 }
begun_none geometry b some = (rw some refl)

-- ---- what steps spend at most

pub emptying_three : (bank : BankKind) → emptying_most bank ≤ 3
emptying_three Rewritable = omega arith
emptying_three Erasing = omega arith

-- a guard is a unit at most
guard_within : (bank : BankKind) (cycle : Option ℕ) (slot : ℕ) (b : List ℕ) → guard_units bank cycle slot b ≤ guard_most bank
guard_within Rewritable cycle slot b = by_flag (is_valid cycle (slot_of b slot))
  where
    by_flag : (valid : Bool) → cond valid 1 0 ≤ 1
    by_flag true = omega arith
    by_flag false = omega arith
guard_within Erasing cycle slot b = omega arith

next_within : (bank : BankKind) (b : List ℕ) → next_guard bank b ≤ guard_most bank
next_within bank b = by_flag (is_some (cycle_of b))
  where
    by_flag : (used : Bool) → cond used (guard_units bank (cycle_of b) (length (valid_slots b) + 2 + 1) b) (first_guard bank b) ≤ guard_most bank
    by_flag true = guard_within bank (cycle_of b) (length (valid_slots b) + 2 + 1) b
    by_flag false = guard_within bank (Some (next_cycle (cycle_of b))) 3 b

-- in a sector with a cycle it is the guard under its next slot
pub used_guard : (bank : BankKind) (b : List ℕ) → is_some (cycle_of b) ≡ true → next_guard bank b ≡ guard_units bank (cycle_of b) (length (valid_slots b) + 2 + 1) b
used_guard bank b some = cond-true (is_some (cycle_of b)) (guard_units bank (cycle_of b) (length (valid_slots b) + 2 + 1) b) (first_guard bank b) some

-- in one without, that of the first entry behind its emptying
begun_guard : (bank : BankKind) (b e : List ℕ) → cycle_of b ≡ None → Empties bank b e → next_guard bank e ≡ next_guard bank b
begun_guard bank b e none empties =
    used_guard bank e (ap (λ (o : Option ℕ). is_some o) empties.cycle) ∙ emptied_guard bank b e empties
    ∙ sym (cond-false (is_some (cycle_of b)) (guard_units bank (cycle_of b) (length (valid_slots b) + 2 + 1) b) (first_guard bank b) (ap (λ (o : Option ℕ). is_some o) none))

pub first_entry_is_known : FirstEntryIsKnown
first_entry_is_known bank b e none empties =
    let same : next_guard bank e ≡ next_guard bank b = begun_guard bank b e none empties in
    let range : ℕ → ℕ → Range = λ units guard. record { least = units + guard; most = units + guard; lost = units + guard_most bank } in
    record {
      put = λ len. ap (range (cost len / 16)) same;
      copy = λ len. ap (range (cost len / 16)) same;
      done = ap (range 1) same;
    }

pub guard_one : (bank : BankKind) → guard_most bank ≤ 1
guard_one Rewritable = omega arith
guard_one Erasing = omega arith

emptying_within : (bank : BankKind) (b : List ℕ) → (1 ≤ emptying bank b) × (emptying bank b ≤ emptying_most bank)
emptying_within Rewritable b =
    let first = guard_within Rewritable (Some (next_cycle (cycle_of b))) 1 b in
    let second = guard_within Rewritable (Some (next_cycle (cycle_of b))) 2 b in
    (omega arith, omega arith)
emptying_within Erasing b = (least (is_erased b), most (is_erased b))
  where
    least : (t : Bool) → 1 ≤ cond t 1 2
    least true = omega arith
    least false = omega arith

    most : (t : Bool) → cond t 1 2 ≤ 2
    most true = omega arith
    most false = omega arith

pub emptied_within : (bank : BankKind) (b : List ℕ) → emptying bank b ≤ 3
emptied_within bank b = let within = (emptying_within bank b).1 in let three = emptying_three bank in omega arith

module _ (bank : BankKind) where
  pub begin_lost : (b : List ℕ) → ((units_of bank).begin b).lost ≤ 3
  begin_lost b = by_flag (is_some (cycle_of b))
    where
      by_flag : (used : Bool) → (cond used (just 0) (emptying_units bank b)).lost ≤ 3
      by_flag true = omega arith
      by_flag false = emptied_within bank b

-- a sector without a cycle is emptied first
pub begin_emptying : (bank : BankKind) (b : List ℕ) → cycle_of b ≡ None → ((units_of bank).begin b).lost ≡ emptying bank b
begin_emptying bank b none = ap (λ (t : Bool). (cond t (just 0) (emptying_units bank b)).lost) (ap (λ (o : Option ℕ). is_some o) none)

least_most : (bank : BankKind) → emptying_least bank ≤ emptying_most bank
least_most Rewritable = omega arith
least_most Erasing = omega arith

-- a closed sector holds an empty entry, so it is not erased
closed_kept : (b : List ℕ) → is_closed b ≡ true → is_erased b ≡ false
closed_kept b closed = by_flag (is_erased b) refl
  where
    by_flag : (erased : Bool) → is_erased b ≡ erased → erased ≡ false
    by_flag false is = refl
    by_flag true is =
        let none : cycle_of b ≡ None = ap cycle_of (erased_is b is) ∙ cycle_none (length b) in
        absurd (true≢false (sym closed ∙ ap (λ (o : Option ℕ). is_valid o (slot_of b 1) && holds_close (slot_of b 1)) none))

closed_least : (bank : BankKind) (b : List ℕ) → is_closed b ≡ true → emptying_least bank ≤ emptying bank b
closed_least Rewritable b closed = (emptying_within Rewritable b).0
closed_least Erasing b closed = two_of (is_erased b) (closed_kept b closed)
  where
    two_of : (t : Bool) → t ≡ false → 2 ≤ cond t 1 2
    two_of true is = absurd (true≢false is)
    two_of false is = omega arith

-- an entry is of one cycle
one_cycle : (o : Option ZEntry) (c d : ℕ) → option_map_or (λ e. eqb e.cycle c) o false ≡ true → option_map_or (λ e. eqb e.cycle d) o false ≡ true → c ≡ d
one_cycle None c d first second = absurd (true≢false (sym first))
one_cycle (Some e) c d first second = sym (eqb-true e.cycle c first) ∙ eqb-true e.cycle d second

-- a slot of the sector's own cycle is not valid under the next one
not_next : (cycle : Option ℕ) (slot : Slot) → is_valid cycle slot ≡ true → is_valid_under (next_cycle cycle) slot ≡ false
not_next None slot valid = absurd (true≢false (sym valid))
not_next (Some c) slot valid = by_flag (is_valid_under ((c + 1) % 256) slot) refl
  where
    by_flag : (t : Bool) → is_valid_under ((c + 1) % 256) slot ≡ t → t ≡ false
    by_flag false is = refl
    by_flag true is =
        let same : c ≡ (c + 1) % 256 = one_cycle (decoded slot.bytes) c ((c + 1) % 256) (sym (valid-is c slot (decoded slot.bytes) refl) ∙ valid) (sym (valid-is ((c + 1) % 256) slot (decoded slot.bytes) refl) ∙ is) in
        absurd (omega arith)

-- so no guard is due there
no_guard : (slot : ℕ) (b : List ℕ) → is_valid (cycle_of b) (slot_of b slot) ≡ true → guard_units Rewritable (Some (next_cycle (cycle_of b))) slot b ≡ 0
no_guard slot b valid = cond-false (is_valid_under (next_cycle (cycle_of b)) (slot_of b slot)) 1 0 (not_next (cycle_of b) (slot_of b slot) valid)

-- the emptying of a closed sector in use
pub used_emptying : (bank : BankKind) (b : List ℕ) → is_closed b ≡ true → (bank ≡ Rewritable → is_begun b ≡ true) → emptying bank b ≡ emptying_least bank
unfolding is_begun
used_emptying Rewritable b closed begun =
    let shut : is_valid (cycle_of b) (slot_of b 1) ≡ true = (and_parts (is_valid (cycle_of b) (slot_of b 1)) (holds_close (slot_of b 1)) closed).0 in
    let first : guard_units Rewritable (Some (next_cycle (cycle_of b))) 1 b ≡ 0 = no_guard 1 b shut in
    let second : guard_units Rewritable (Some (next_cycle (cycle_of b))) 2 b ≡ 0 = no_guard 2 b (begun refl) in
    omega arith
used_emptying Erasing b closed begun = cond-false (is_erased b) 1 2 (closed_kept b closed)

closing_within : (bank : BankKind) (b : List ℕ) (size : ℕ) → length b ≡ size → closing_most bank (free bank b) ≤ size / 16 + 1
closing_within Rewritable b size long = omega arith
closing_within Erasing b size long = omega arith

module _ (bank : BankKind) where
  emptying_covers : (b : List ℕ) → CoversWhole (emptying_units bank b)
  emptying_covers b = omega arith

  entry_covers : (b : List ℕ) (units : ℕ) → CoversWhole (entry_units bank b units)
  entry_covers b units = let guard = next_within bank b in omega arith

  entry_in_any : (b : List ℕ) (units : ℕ) → LiesIn (entry_units bank b units) (record { least = units; most = units + guard_most bank; lost = units + guard_most bank })
  entry_in_any b units = let guard = next_within bank b in record { least = omega arith; most = omega arith; lost = omega arith }

  begin_covers : (b : List ℕ) → CoversWhole ((units_of bank).begin b)
  begin_covers b = by_flag (is_some (cycle_of b))
    where
      by_flag : (used : Bool) → CoversWhole (cond used (just 0) (emptying_units bank b))
      by_flag true = omega arith
      by_flag false = emptying_covers b

  units_are : AreUnits (units_of bank)
  units_are = record {
    begins = begin_covers;
    puts = λ b len. entry_covers b (cost len / 16);
    closes = λ b. omega arith;
    clears = emptying_covers;
    any_copies = λ len. omega arith;
    any_dones = omega arith;
    any_clears = omega arith;
    closed_clears = omega arith;
    copy_in = λ b len. entry_in_any b (cost len / 16);
    done_in = λ b. entry_in_any b 1;
    clear_lost = λ b. (emptying_within bank b).1;
    closed_lost = least_most bank;
  }

  closed_in : (b : List ℕ) → is_closed b ≡ true → LiesIn ((units_of bank).clear b) (units_of bank).any_clear
  closed_in b closed =
      let within = emptying_within bank b in
      record { least = closed_least bank b closed; most = within.1; lost = within.1 }

  -- the copy of a pair, with a guard, spends no more than twice the units of the pair
  pub copies_most : (pairs : List (ℕ × List ℕ)) → 8 * copies_cost (λ len. ((units_of bank).any_copy len).lost) pairs ≤ copies_cost cost pairs
  copies_most [] = omega arith
  copies_most (p ∷ ps) =
      let rest = copies_most ps in
      let one = guard_one bank in
      let all : copies_cost cost (p ∷ ps) ≡ cost (length p.1) + copies_cost cost ps = sum_by-cons (λ (q : ℕ × List ℕ). cost (length q.1)) p ps in
      let units : copies_cost (λ len. ((units_of bank).any_copy len).lost) (p ∷ ps) ≡ cost (length p.1) / 16 + guard_most bank + copies_cost (λ len. ((units_of bank).any_copy len).lost) ps = sum_by-cons (λ (q : ℕ × List ℕ). cost (length q.1) / 16 + guard_most bank) p ps in
      omega arith

  -- a sector is made ready by an emptying, at most
  ready_lost : (b : List ℕ) → (cond (is_clean bank b) ((units_of bank).begin b) ((units_of bank).clear b)).lost ≤ 3
  ready_lost b = by_flag (is_clean bank b)
    where
      by_flag : (clean : Bool) → (cond clean ((units_of bank).begin b) ((units_of bank).clear b)).lost ≤ 3
      by_flag true = begin_lost bank b
      by_flag false = emptied_within bank b

-- on an erasing bank, where a copy has no guard
begin_two : (b : List ℕ) → ((units_of Erasing).begin b).lost ≤ 2
begin_two b = by_flag (is_some (cycle_of b))
  where
    by_flag : (used : Bool) → (cond used (just 0) (emptying_units Erasing b)).lost ≤ 2
    by_flag true = omega arith
    by_flag false = (emptying_within Erasing b).1

ready_two : (b : List ℕ) → (cond (is_clean Erasing b) ((units_of Erasing).begin b) ((units_of Erasing).clear b)).lost ≤ 2
ready_two b = by_flag (is_clean Erasing b)
  where
    by_flag : (clean : Bool) → (cond clean ((units_of Erasing).begin b) ((units_of Erasing).clear b)).lost ≤ 2
    by_flag true = begin_two b
    by_flag false = (emptying_within Erasing b).1

copies_bare : (pairs : List (ℕ × List ℕ)) → 16 * copies_cost (λ len. ((units_of Erasing).any_copy len).lost) pairs ≤ copies_cost cost pairs
copies_bare [] = omega arith
copies_bare (p ∷ ps) =
    let rest = copies_bare ps in
    let all : copies_cost cost (p ∷ ps) ≡ cost (length p.1) + copies_cost cost ps = sum_by-cons (λ (q : ℕ × List ℕ). cost (length q.1)) p ps in
    let units : copies_cost (λ len. ((units_of Erasing).any_copy len).lost) (p ∷ ps) ≡ cost (length p.1) / 16 + 0 + copies_cost (λ len. ((units_of Erasing).any_copy len).lost) ps = sum_by-cons (λ (q : ℕ × List ℕ). cost (length q.1) / 16 + 0) p ps in
    omega arith

round_most : (bank : BankKind) (size : ℕ) (closed opened : List ℕ) (pairs : List (ℕ × List ℕ)) → 512 ≤ size → length closed ≡ size → copies_cost cost pairs ≤ capacity size
    → ((units_of bank).close closed).lost + ((cond (is_clean bank opened) ((units_of bank).begin opened) ((units_of bank).clear opened)).lost + (copies_cost (λ len. ((units_of bank).any_copy len).lost) pairs + ((units_of bank).any_done.lost + (units_of bank).any_clear.lost))) ≤ (units_of bank).round size
round_most Rewritable size closed opened pairs large long costs =
    let ready = ready_lost Rewritable opened in
    let copied = copies_most Rewritable pairs in
    let close = closing_within Rewritable closed size long in
    omega arith
round_most Erasing size closed opened pairs large long costs =
    let ready = ready_two opened in
    let copied = copies_bare pairs in
    omega arith

mount_most : (bank : BankKind) (size : ℕ) (opened : List ℕ) (pairs : List (ℕ × List ℕ)) → 512 ≤ size → copies_cost cost pairs ≤ capacity size
    → max ((units_of bank).begin opened).lost (units_of bank).any_clear.lost + (copies_cost (λ len. ((units_of bank).any_copy len).lost) pairs + ((units_of bank).any_done.lost + (units_of bank).any_clear.lost)) ≤ (units_of bank).mount size
mount_most Rewritable size opened pairs large costs =
    let begun = begin_lost Rewritable opened in
    let copied = copies_most Rewritable pairs in
    omega arith
mount_most Erasing size opened pairs large costs =
    let begun = begin_two opened in
    let copied = copies_bare pairs in
    omega arith

entry_most : (bank : BankKind) (before begun : List ℕ) (len : ℕ) → ((units_of bank).begin before).lost + ((units_of bank).put begun len).lost ≤ (units_of bank).entry len
entry_most Rewritable before begun len = let most = begin_lost Rewritable before in omega arith
entry_most Erasing before begun len = let most = begin_two before in omega arith

least_cost : (len : ℕ) → len ≤ cost len
unfolding data_len padded
least_cost len =
    elim (cases_lt 8 len) [
      | inl long ↦ let all = cond-false (leb len 8) 0 (padded 16 len) (lt-leb len 8 long) in omega arith
      | inr short ↦ let none = cond-true (leb len 8) 0 (padded 16 len) (le-leb len 8 short) in omega arith
    ]

-- an ordinary entry has another id than special ones
not_special : (geometry : Geometry) (b : List ℕ) (n : ℕ) (e : Entry) → (format_of geometry).in_slot b n ≡ Some e → e.id ≡ 0xFFFFFFFF → ⊥
not_special geometry b n e is same =
    let t = own.read_there (λ n. entry_in (slot_of b n)) entry_of (λ f. value_of b f.entry) (slot_is b) n e is in
    let own_id : t.0.entry.id ≡ e.id = ap (λ (x : Entry). x.id) t.2 in
    let below = ordinary_id (slot_of b n) t.0.entry t.0.slot (omega arith) t.1 in
    absurd (omega arith)

-- a ready sector, by its parts
pub ready_of : (bank : BankKind) (b : List ℕ) → IsSome (cycle_of b) → is_sound b ≡ true → may_close bank b ≡ true → (is_some (cycle_of b) && (is_sound b && may_close bank b)) ≡ true
ready_of bank b cycle sound may = and_true (is_some (cycle_of b)) (is_sound b && may_close bank b) (some_flag (cycle_of b) cycle) (and_true (is_sound b) (may_close bank b) sound may)

idle_clean : (bank : BankKind) → opens_ready bank ≡ false → (b : List ℕ) → is_unused bank b ≡ true → is_clean bank b ≡ true
idle_clean Rewritable none b unused = unused_clean b unused
idle_clean Erasing none b unused = absurd (true≢false none)

-- a clean sector has all its room
clean_room : (bank : BankKind) (b : List ℕ) → 512 ≤ length b → is_clean bank b ≡ true → free bank b ≡ capacity (length b) + 3 * 16
clean_room bank b long clean =
    let bottom = clean_end bank b (omega arith) clean in
    let none : length (valid_slots b) ≡ 0 = ap (λ (ss : List Slot). length ss) (unused_slots bank b (clean_unused bank b clean)) in
    omega arith

pub zms_is_format : (geometry : Geometry) → IsSectorFormat (format_of geometry)
zms_is_format geometry = record {
  reads = laws geometry.kind;
  pairs = λ b. ap (map (pair_of b)) ((are_zms Rewritable).listed b) ∙ own.pairs_read (λ n. entry_in (slot_of b n)) entry_of (λ f. value_of b f.entry) (slot_is b) (range_with_len 2 ((format_of geometry).count b));
  own_slot = λ b n e is. own.slot_own (λ n. entry_in (slot_of b n)) entry_of (λ f. value_of b f.entry) (slot_is b) n e is;
  reserved = λ b n e is same. not_special geometry b n e is same;
  long = λ b n e within from listed is.
      own.long_own (λ n. entry_in (slot_of b n)) entry_of (λ f. value_of b f.entry) (slot_is b) n e (λ f some. bytes_len b n f within from (omega arith) (read_room b n from (omega arith)) some) is;
  sound = λ b long sound. (roomy_of geometry.kind b (omega arith) sound).sound;
  costs = λ b long sound. (roomy_of geometry.kind b (omega arith) sound).costs;
  clean = λ b clean. clean_unused geometry.kind b clean;
  blank = idle_clean geometry.kind;
  room = clean_room geometry.kind;
  used = λ b long sound used open_here.
      let roomy : IsRoomy geometry.kind b = roomy_of geometry.kind b (omega arith) sound in
      ready_of geometry.kind b (not_clean_cycle geometry.kind b used) roomy.sound roomy.may;
  units = units_are geometry.kind;
  clear_in = closed_in geometry.kind;
  begun = λ b ready. (begun_none geometry b (and_parts (is_some (cycle_of b)) (is_sound b && may_close geometry.kind b) ready).0);
  least = least_cost;
  most = λ size. omega arith;
  round = λ size closed opened pairs large long blank costs. round_most geometry.kind size closed opened pairs large long costs;
  mount = mount_most geometry.kind;
  entry = entry_most geometry.kind;
  damaged = λ sectors none. ring_undamaged geometry.kind sectors none;
  undamaged = λ sectors none. undamaged_ring geometry.kind sectors none;
}
