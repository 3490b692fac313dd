-- What a search reads of a slot.
use Rattle.std.specs.Prelude.{ℕ, Option, Some, None, if◌then◌else◌}
use Rattle.std.specs.Option.{option_and_then}
use Rattle.nvs_store.specs.declared.scan.SlotEntry.{SlotEntry}
use Rattle.nvs_store.specs.Sector.{is_wanted}

-- the entry, if it is wanted
abbrev pub wanted_in : Option ℕ → Option SlotEntry → Option SlotEntry
wanted_in wanted read = option_and_then (λ f. if is_wanted wanted f.entry then Some f else None) read
