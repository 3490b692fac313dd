-- What collections, rounds and mounts of NVS spend, to the unit.
use Rattle.std.proofs.Common.{◌≡◌, ℕ, ◌+◌, ◌*◌, ◌/◌, max, Bool, true, false, cond, eqb, List, refl, ap, ◌∙◌, arith}
use Rattle.std.proofs.Math.Nat.{add-mul, div-eq_of_eq-mul_left}
use Rattle.flash_map.specs.Units.{IsUnit}
use Rattle.flash_map.proofs.Rounding.{padding}
use Rattle.item_laws.specs.PairRounds.{copies_cost}
use Rattle.item_laws.specs.Area.{next, is_blank_at}
use Rattle.item_laws.specs.Forms.{to_copy}
use Rattle.item_store.specs.SectorFormat.{Range}
use Rattle.item_store.specs.Spending.{none, both, collect_units, again_with, again_units, has_victim, round_units}
use Rattle.nvs_store.specs.Geometry.{slot_size, cost}
use Rattle.nvs_store.specs.Scans.{reading}
use Rattle.nvs_store.proofs.SlotReads.{slot_widths}
use Rattle.nvs_format.specs.Formats.{just, format_in}
use Rattle.nvs_format.proofs.FormatLemmas.{whole, copies_whole}

abbrev up_to : ℕ → ℕ → Range
up_to units lost = record { least = units; most = units; lost = lost }

-- one after the other
both-just : (a b : ℕ) → both (just a) (just b) ≡ just (a + b)
both-just a b = let more : max a (a + b) ≡ a + b = omega arith in ap (λ (n : ℕ). up_to (a + b) n) more

module _ (unit : ℕ) (is-unit : IsUnit unit) where
  -- whole numbers of units, in one quotient
  in_one : (a b m n : ℕ) → a * unit ≡ m → b * unit ≡ n → (m + n) / unit ≡ a + b
  in_one a b m n first second = let split = add-mul a b unit in div-eq_of_eq-mul_left (padding unit is-unit).positive (omega arith)

  slots_whole : slot_size unit / unit * unit ≡ slot_size unit
  slots_whole = whole unit is-unit (slot_size unit) (slot_widths unit is-unit).aligned

  copies_in : (pairs : List (ℕ × List ℕ)) → copies_cost (λ len. cost unit len / unit) pairs + slot_size unit / unit ≡ (copies_cost (cost unit) pairs + slot_size unit) / unit
  copies_in pairs = (let one = in_one (copies_cost (λ len. cost unit len / unit) pairs) (slot_size unit / unit) (copies_cost (cost unit) pairs) (slot_size unit) (copies_whole unit is-unit pairs) slots_whole in omega arith)

  module _ (sectors : List (List ℕ)) (place : ℕ) where
    abbrev copied : ℕ
    copied = copies_cost (cost unit) (to_copy (reading unit) sectors place)

    collect-sum : collect_units (format_in unit) sectors place ≡ just (copies_cost (λ len. cost unit len / unit) (to_copy (reading unit) sectors place) + (slot_size unit / unit + 1))
    collect-sum =
        let n : ℕ = copies_cost (λ len. cost unit len / unit) (to_copy (reading unit) sectors place) in
        ap (λ (r : Range). both (just n) r) (both-just (slot_size unit / unit) 1) ∙ both-just n (slot_size unit / unit + 1)

    -- the copies, gc-done and an erase
    pub collect-exact : collect_units (format_in unit) sectors place ≡ just ((copies_cost (cost unit) (to_copy (reading unit) sectors place) + slot_size unit) / unit + 1)
    collect-exact = collect-sum ∙ (let row = copies_in (to_copy (reading unit) sectors place) in ap just (omega arith))

    first_erase : (t : Bool) (n : ℕ) → both (cond t (just 0) (just 1)) (just n) ≡ just (n + cond t 0 1)
    first_erase true n = both-just 0 n ∙ ap just (omega arith)
    first_erase false n = both-just 1 n ∙ ap just (omega arith)

    -- the open sector is erased before, unless it is blank
    pub again-exact : again_units (format_in unit) sectors place ≡ just ((copies_cost (cost unit) (to_copy (reading unit) sectors place) + slot_size unit) / unit + 1 + cond (is_blank_at (reading unit) sectors place) 0 1)
    again-exact =
        ap (both (cond (is_blank_at (reading unit) sectors place) (just 0) (just 1))) collect-exact
        ∙ first_erase (is_blank_at (reading unit) sectors place) ((copied + slot_size unit) / unit + 1)

  close_first : (t : Bool) (close all : ℕ) → both (just close) (cond t (just all) none) ≡ just (cond t (close + all) close)
  close_first true close all = both-just close all
  close_first false close all = both-just close 0 ∙ ap just (omega arith)

  two_slots : (copied : ℕ) → (rest : ℕ) → rest * unit ≡ copied + slot_size unit → slot_size unit / unit + (rest + 1) ≡ (2 * slot_size unit + copied) / unit + 1
  two_slots copied rest same =
      let one = in_one (slot_size unit / unit) rest (slot_size unit) (copied + slot_size unit) slots_whole same in
      let turned : (2 * slot_size unit + copied) / unit ≡ (slot_size unit + (copied + slot_size unit)) / unit = ap (λ (n : ℕ). n / unit) (omega arith) in
      omega arith

  -- an erase is one unit, whatever is erased
  one_erase : (t : Bool) → cond t (just 1) (just 1) ≡ just 1
  one_erase true = refl
  one_erase false = refl

  -- the close alone where there is no victim; the sector that becomes the open one is erased before, unless it is blank
  pub round-exact : (sectors : List (List ℕ)) (place : ℕ) → round_units (format_in unit) sectors place
      ≡ just (cond (has_victim (format_in unit) sectors place) ((2 * slot_size unit + copies_cost (cost unit) (to_copy (reading unit) sectors (next sectors place))) / unit + 1 + cond (is_blank_at (reading unit) sectors (next sectors place)) 0 1) (slot_size unit / unit))
  round-exact sectors place =
      let victim = has_victim (format_in unit) sectors place in
      let pairs = to_copy (reading unit) sectors (next sectors place) in
      let copies : ℕ = copies_cost (λ len. cost unit len / unit) pairs in
      let rest : ℕ = copies + slot_size unit / unit in
      let split = add-mul copies (slot_size unit / unit) unit in
      let row = two_slots (copies_cost (cost unit) pairs) rest (let c = copies_whole unit is-unit pairs in let s = slots_whole in omega arith) in
      let one = copies_in pairs in
      let erase : ℕ = cond (is_blank_at (reading unit) sectors (next sectors place)) 0 1 in
      let last : ℕ = next sectors (next sectors place) in
      ap (λ (r : Range). both (just (slot_size unit / unit)) (cond victim (again_with (format_in unit) sectors (next sectors place) r) none)) (one_erase (eqb last place))
      ∙ ap (λ (r : Range). both (just (slot_size unit / unit)) (cond victim r none)) (again-exact sectors (next sectors place))
      ∙ close_first victim (slot_size unit / unit) ((copies_cost (cost unit) pairs + slot_size unit) / unit + 1 + erase)
      ∙ ap (λ (n : ℕ). just (cond victim n (slot_size unit / unit))) (omega arith)
