use Rattle.std.proofs.Common.{ℕ, List, ◌++◌, map, subst}
use Rattle.flash_sim.specs.Device.{Device}
use Rattle.flash_map.specs.declared.area.Geometry.{Geometry}
use Rattle.flash_map.specs.Area.{unit_of}
use Rattle.item_store.specs.SectorFormat.{placed_at, slots}
use Rattle.nvs_format.specs.Formats.{format_in}
use Rattle.nvs_gc.proofs.sectors.NvsOpenSlotSectors.note_sector.Goals as goal

pub returns-clause-notes : goal.returns-clause-notes
returns-clause-notes g c =
    let d : Device = g.F.Flash.device c.args.flash.now in
    let unit : ℕ = unit_of d c.args.area.now in
    λ start before noted.
    subst (λ (xs : List ℕ). g.N.Notes.noted start 0xFFFF c.note_entries.new.notes (before ++ map (placed_at c.args.place) ((slots (format_in unit)).entries xs))) c.sector_view.ensures.bytes
    (subst (λ (x : Geometry). g.N.Notes.noted start 0xFFFF c.note_entries.new.notes (before ++ map (placed_at c.args.place) ((slots (format_in x.unit)).entries c.sector_view.result.now))) c.geometry-unit.ensures
    (c.note_entries.ensures start before noted))
