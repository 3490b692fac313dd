use Rattle.std.proofs.Common.{List, ◌-◌, ◌++◌}
use Rattle.flash_map.specs.Area.{sectors_of}
use Rattle.item_laws.proofs.LastLemmas.{among}
use Rattle.item_store.specs.declared.entry.Placed.{Placed}
use Rattle.item_store.specs.SectorFormat.{slots}
use Rattle.item_store.specs.Listed.{format_on}
use Rattle.item_store.proofs.noting.note_among.Given as goal

abbrev pub invariant-loop-place : goal.invariant-loop-place
invariant-loop-place g l =
    (start : g.row.N.Denot) (before : List Placed) → g.N.Notes.noted start (format_on g.T.SlotSectors.format_of (g.F.Flash.device l.flash) l.on.area.now).ids l.initial.notes before
    → g.N.Notes.noted start (format_on g.T.SlotSectors.format_of (g.F.Flash.device l.flash) l.on.area.now).ids l.notes (before ++ among (slots (format_on g.T.SlotSectors.format_of (g.F.Flash.device l.flash) l.on.area.now)) (sectors_of (g.F.Flash.device l.flash) l.on.area.now) l.on.current l.first (l.place - l.first))
