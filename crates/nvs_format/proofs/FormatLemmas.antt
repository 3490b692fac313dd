-- The format of NVS is a lawful one.
use Rattle.std.proofs.Common.{◌≡◌, ℕ, ◌+◌, ◌*◌, ◌/◌, ◌%◌, ◌≤◌, max, Bool, cond, List, [], ◌∷◌, length, map, Some, refl, sym, ap, ◌∙◌, arith}
use Rattle.std.specs.Prelude.{fold}
use Rattle.std.specs.List.{range_with_len}
use Rattle.std.proofs.Math.Nat.{mod-add-div, mul_comm, add-mul}
use Rattle.std.proofs.lemmas.Nat.{le-div}
use Rattle.flash_map.specs.Units.{IsUnit, padded, is_erased}
use Rattle.flash_map.proofs.Rounding.{padding, by_unit}
use Rattle.item_laws.specs.PairRounds.{copies_cost}
use Rattle.item_store.specs.declared.entry.Entry.{Entry}
use Rattle.item_store.specs.SectorFormat.{LiesIn, CoversWhole, AreUnits, IsSectorFormat}
use Rattle.item_store.proofs.ReadLemmas as own
use Rattle.nvs_store.specs.declared.scan.SlotEntry.{SlotEntry}
use Rattle.nvs_store.specs.Geometry.{slot_size, cost, capacity}
use Rattle.nvs_store.specs.Sector.{slot_at, counting_entry, pair_of}
use Rattle.nvs_store.proofs.Blank.{reads-blank}
use Rattle.nvs_store.proofs.InArea.{slot-in}
use Rattle.nvs_store.proofs.NvsEntries.{bytes_len, are_nvs}
use Rattle.nvs_store.proofs.ScanLemmas.{blank-low, blank-data_end}
use Rattle.nvs_store.proofs.SlotReads.{slot_widths}
use Rattle.nvs_store.proofs.Sound.{sound-costs}
use Rattle.nvs_format.specs.Formats.{entry_of, found_bytes, just, units_of, format_in}

pub slot_is : (unit : ℕ) (b : List ℕ) (n : ℕ) (f : SlotEntry) → counting_entry unit (slot_at unit b n) ≡ Some f → (entry_of f).slot ≡ n
slot_is unit b n p some = (are_nvs unit).slot b 0 n p some

-- ---- what a round and a mount spend at most

unit_small : (unit : ℕ) → IsUnit unit → unit ≤ slot_size unit
unfolding slot_size padded
unit_small = by_unit (λ unit. unit ≤ slot_size unit) (omega arith) (omega arith) (omega arith)

module _ (unit : ℕ) (is-unit : IsUnit unit) where
  pub whole : (n : ℕ) → n % unit ≡ 0 → n / unit * unit ≡ n
  whole n aligned = let parts = mod-add-div n unit in let turned = mul_comm unit (n / unit) in omega arith

  cost_whole : (len : ℕ) → cost unit len / unit * unit ≡ cost unit len
  cost_whole len =
      let pad = padding unit is-unit in
      whole (cost unit len) (pad.sum_aligned (slot_size unit) (padded unit len) (slot_widths unit is-unit).aligned (pad.aligned len))

  pub copies_whole : (pairs : List (ℕ × List ℕ)) → copies_cost (λ len. cost unit len / unit) pairs * unit ≡ copies_cost (cost unit) pairs
  copies_whole pairs = sums (λ (pair : ℕ × List ℕ). cost unit (length pair.1)) (λ pair. cost_whole (length pair.1)) pairs 0 0 (omega arith)
    where
      sums : (price : ℕ × List ℕ → ℕ) → ((pair : ℕ × List ℕ) → price pair / unit * unit ≡ price pair) → (pairs : List (ℕ × List ℕ)) (a b : ℕ) → a * unit ≡ b
          → fold (λ sum pair. sum + price pair / unit) a pairs * unit ≡ fold (λ sum pair. sum + price pair) b pairs
      sums price each [] a b same = same
      sums price each (pair ∷ rest) a b same =
          let here = each pair in
          let split = add-mul a (price pair / unit) unit in
          sums price each rest (a + price pair / unit) (b + price pair) (omega arith)

  round_most : (size : ℕ) (pairs : List (ℕ × List ℕ)) → 512 ≤ size → copies_cost (cost unit) pairs ≤ capacity unit size
      → slot_size unit / unit + (0 + (copies_cost (λ len. cost unit len / unit) pairs + (slot_size unit / unit + 1))) ≤ size / unit + 1
  round_most size pairs large room =
      let wide = slot_widths unit is-unit in
      let slots = whole (slot_size unit) wide.aligned in
      let copies = copies_whole pairs in
      let n : ℕ = slot_size unit / unit + slot_size unit / unit + copies_cost (λ len. cost unit len / unit) pairs in
      let split = add-mul (slot_size unit / unit + slot_size unit / unit) (copies_cost (λ len. cost unit len / unit) pairs) unit in
      let twice = add-mul (slot_size unit / unit) (slot_size unit / unit) unit in
      let all = le-div n size unit (padding unit is-unit).positive (omega (arith, wide.no_more)) in
      omega arith

  -- a sector has three slots more than what is copied into it takes up
  mount_most : (size : ℕ) (pairs : List (ℕ × List ℕ)) → 512 ≤ size → copies_cost (cost unit) pairs ≤ capacity unit size
      → max 0 1 + (copies_cost (λ len. cost unit len / unit) pairs + (slot_size unit / unit + 1)) ≤ size / unit
  mount_most size pairs large room =
      let wide = slot_widths unit is-unit in
      let pad = padding unit is-unit in
      let slots = whole (slot_size unit) wide.aligned in
      let copies = copies_whole pairs in
      let n : ℕ = slot_size unit / unit + 2 + copies_cost (λ len. cost unit len / unit) pairs in
      let split = add-mul (slot_size unit / unit + 2) (copies_cost (λ len. cost unit len / unit) pairs) unit in
      let twice = add-mul (slot_size unit / unit) 2 unit in
      let all = le-div n size unit pad.positive (omega (arith, wide.no_more, unit_small unit is-unit)) in
      omega arith

covered : (n : ℕ) → CoversWhole (just n)
covered n = omega arith

inside : (n : ℕ) → LiesIn (just n) (just n)
inside n = record { least = omega arith; most = omega arith; lost = omega arith }

units_are : (unit : ℕ) → AreUnits (units_of unit)
units_are unit = record {
  begins = λ b. covered 0;
  puts = λ b len. covered (cost unit len / unit);
  closes = λ b. covered (slot_size unit / unit);
  clears = λ b. covered 1;
  any_copies = λ len. covered (cost unit len / unit);
  any_dones = covered (slot_size unit / unit);
  any_clears = covered 1;
  closed_clears = covered 1;
  copy_in = λ b len. inside (cost unit len / unit);
  done_in = λ b. inside (slot_size unit / unit);
  clear_lost = λ b. omega arith;
  closed_lost = omega arith;
}

pub nvs_is_format : (unit : ℕ) → IsUnit unit → IsSectorFormat (format_in unit)
nvs_is_format unit is-unit = record {
  reads = reads-blank unit;
  pairs = λ b. ap (map (pair_of b)) ((are_nvs unit).listed b) ∙ own.pairs_read (λ n. counting_entry unit (slot_at unit b n)) entry_of (found_bytes b) (slot_is unit b) (range_with_len 1 ((format_in unit).count b));
  reserved = λ b n e is id.
      let t = own.read_there (λ n. counting_entry unit (slot_at unit b n)) entry_of (found_bytes b) (slot_is unit b) n e is in
      (slot-in unit b n 1 (length b) 0 t.0 (sym t.1) refl (omega arith)).ordinary (ap (λ (x : Entry). x.id) t.2 ∙ id);
  own_slot = λ b n e is. own.slot_own (λ n. counting_entry unit (slot_at unit b n)) entry_of (found_bytes b) (slot_is unit b) n e is;
  long = λ b n e within from listed is. own.long_own (λ n. counting_entry unit (slot_at unit b n)) entry_of (found_bytes b) (slot_is unit b) n e (λ p some. bytes_len unit b n p some) is;
  sound = λ b long sound. refl;
  costs = λ b long sound. sound-costs unit b sound;
  clean = λ b clean. clean;
  blank = λ none b blank. blank;
  room = λ b long blank.
      let top = blank-low unit b blank in
      let bottom = blank-data_end unit b is-unit blank in
      let wide = slot_widths unit is-unit in
      omega (arith, wide.no_more, wide.no_less);
  used = λ b long sound used open_here. refl;
  begun = λ b ready. refl;
  units = units_are unit;
  clear_in = λ b closed. inside 1;
  least = λ len. let rounded = (padding unit is-unit).no_less len in omega arith;
  most = λ size. omega arith;
  round = λ size closed opened pairs large long blank room.
      let none : (cond (is_erased opened) (just 0) (just 1)).lost ≡ 0 = ap (λ (t : Bool). (cond t (just 0) (just 1)).lost) blank in
      let most = round_most unit is-unit size pairs large room in
      omega arith;
  mount = λ size opened pairs large room. mount_most unit is-unit size pairs large room;
  entry = λ before begun len. omega arith;
  damaged = λ sectors none. none;
  undamaged = λ sectors none. none;
}
