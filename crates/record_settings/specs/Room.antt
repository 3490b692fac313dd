-- Bytes of records, and of sectors for them.
use Rattle.std.specs.Prelude.{ℕ, ◌+◌, ◌-◌, List, length, sum_by, false, Option, Some, None, ◌==◌, if◌then◌else◌}
use Rattle.std.specs.FinMap.{entries}
use Rattle.flash_map.specs.Units.{padded}
use Rattle.fcb_ring.specs.Writing.{record_cost}
use Rattle.backend_api.specs.Room.{Room}
use Rattle.record_settings.specs.Settings.{setting_of, longest}

-- each sector keeps room for a delete of the longest name
abbrev pub reserve : ℕ → ℕ
reserve unit = record_cost unit (longest 0)

-- what the header and the reserve leave of a sector
abbrev pub cap : ℕ → ℕ → ℕ
cap unit size = size - padded unit 8 - reserve unit

-- the record that gives a name a value
abbrev pub pair_cost : ℕ → List ℕ × List ℕ → ℕ
pair_cost unit pair = record_cost unit (length pair.0 + 1 + length pair.1)

-- the numbers of room for a unit and a sector of so many bytes
abbrev pub room : ℕ → ℕ → Room
room unit size = record {
  cap = cap unit size;
  cost = λ settings. sum_by (pair_cost unit) (entries settings);
  need = λ settings name value. pair_cost unit (name, value);
  largest = λ settings name value. pair_cost unit (name, value);
  too_many = λ settings name. false;
}

abbrev pub cost_by : ℕ → ℕ → Option (List ℕ × List ℕ) → ℕ
cost_by unit len None = 0
cost_by unit len (Some (name, value)) = if length value == 0 then 0 else record_cost unit len

-- what a record with this body costs, if it puts a value
abbrev pub put_cost : ℕ → ℕ → List ℕ → ℕ
put_cost limit unit body = cost_by unit (length body) (setting_of limit body)
