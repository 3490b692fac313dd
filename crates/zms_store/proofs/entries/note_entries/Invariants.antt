use Rattle.std.proofs.Common.{◌-◌, ◌≤◌, min, List, ◌++◌, length}
use Rattle.flash_map.specs.declared.area.Geometry.{Geometry}
use Rattle.item_store.specs.declared.entry.Placed.{Placed}
use Rattle.item_store.proofs.OlderSteps.{placed_to}
use Rattle.zms_cycle.specs.Sector.{valid_slots}
use Rattle.zms_format.specs.Formats.{format_of}
use Rattle.zms_store.proofs.entries.note_entries.Given as goal

-- the entries of the slots so far are noted, as far as these are in the list
abbrev pub invariant-loop-slot : goal.invariant-loop-slot
invariant-loop-slot g l = record {
  known : l.checked ≤ length (valid_slots l.bytes);
  from : 2 ≤ l.slot;
  noted : (geometry : Geometry) (start : g.row.N.Denot) (before : List Placed) → g.N.Notes.noted start (format_of geometry).ids l.initial.notes before
      → g.N.Notes.noted start (format_of geometry).ids l.notes (before ++ placed_to (format_of geometry) l.bytes l.place (min (l.slot - 2) (length (valid_slots l.bytes))));
}
