use Rattle.std.proofs.Common.{ℕ, ◌≤◌, List, ◌++◌, length, map, sym, subst}
use Rattle.flash_sim.specs.Device.{Device}
use Rattle.flash_map.specs.declared.area.Geometry.{Geometry}
use Rattle.flash_map.specs.Area.{geometry_of}
use Rattle.item_store.specs.SectorFormat.{placed_at, slots}
use Rattle.zms_cycle.specs.Sector.{valid_slots}
use Rattle.zms_format.specs.Formats.{format_of}
use Rattle.zms_store.proofs.sectors.ZmsOpenSlotSectors.note_sector.Goals as goal

pub note_entries-requires-clause-known : goal.note_entries-requires-clause-known
note_entries-requires-clause-known g c = subst (λ (b : List ℕ). c.args.known ≤ length (valid_slots b)) (sym c.sector_view.ensures.bytes) c.requires.known

pub returns-clause-notes : goal.returns-clause-notes
returns-clause-notes g c = λ start before noted.
    let d : Device = g.F.Flash.device c.args.flash.now in
    let geometry : Geometry = geometry_of d c.args.area.now in
    subst (λ (b : List ℕ). g.N.Notes.noted start (format_of geometry).ids c.note_entries.new.notes (before ++ map (placed_at c.args.place) ((slots (format_of geometry)).entries b))) c.sector_view.ensures.bytes
    (c.note_entries.ensures geometry start before noted)
