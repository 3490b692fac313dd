use Rattle.std.proofs.Common.{◌≡◌, ◌≤◌, length}
use Rattle.nvs_store.specs.Sector.{last_found, entries_within, used_slots}
use Rattle.nvs_store.proofs.Lookups.{entries_to}
use Rattle.nvs_store.proofs.sector.find_in.Given as goal

abbrev pub invariant-loop-index : goal.invariant-loop-index
invariant-loop-index l = record { inside : l.index ≤ length (used_slots l.unit l.bytes); later : last_found l.wanted (entries_to l.unit l.bytes l.index) ≡ last_found l.wanted (entries_within l.unit l.bytes l.slots) }

abbrev pub decreases-loop-index : goal.decreases-loop-index
decreases-loop-index l = l.index
