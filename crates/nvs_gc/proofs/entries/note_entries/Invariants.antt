use Rattle.std.proofs.Common.{List, ◌-◌, ◌++◌}
use Rattle.item_store.specs.declared.entry.Placed.{Placed}
use Rattle.item_store.proofs.OlderSteps.{placed_to}
use Rattle.nvs_format.specs.Formats.{format_in}
use Rattle.nvs_gc.proofs.entries.note_entries.Given as goal

abbrev pub invariant-loop-slot : goal.invariant-loop-slot
invariant-loop-slot g l =
    (start : g.row.N.Denot) (before : List Placed) → g.N.Notes.noted start 0xFFFF l.initial.notes before
    → g.N.Notes.noted start 0xFFFF l.notes (before ++ placed_to (format_in l.unit) l.bytes l.place (l.slot - 1))
