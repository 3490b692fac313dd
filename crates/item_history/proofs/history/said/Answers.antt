use Rattle.std.proofs.Common.{◌≡◌, ℕ, List, [], length, Some, sym, ap, ◌∙◌}
use Rattle.item_laws.specs.Live.{bytes_of}
use Rattle.item_store.proofs.Placings.{entry_long}
use Rattle.flash_sim.specs.Device.{Device}
use Rattle.flash_map.specs.declared.area.Area.{Area}
use Rattle.flash_map.specs.Area.{geometry_of, sectors_of}
use Rattle.item_store.specs.SectorFormat.{SectorFormat, IsSectorFormat, slots}
use Rattle.item_store.proofs.Areas.{unit_is}
use Rattle.item_history.proofs.VersionReads.{no_bytes}
use Rattle.item_history.proofs.history.said.Goals as goal

pub returns-then-placed-eq0 : goal.returns-then-placed-eq0
returns-then-placed-eq0 g c =
    let d : Device = g.F.Flash.device c.args.flash.now in
    let area : Area = c.args.area.now in
    let k : SectorFormat = g.T.SlotSectors.format_of (geometry_of d area) in
    let sectors : List (List ℕ) = sectors_of d area in
    let law : IsSectorFormat (g.T.SlotSectors.format_of (geometry_of d area)) = g.met.T.SlotSectors.lawful (geometry_of d area) (unit_is d area (g.met.F.Flash.is_lawful c.args.flash.now) c.requires.area.lawful) in
    let long = entry_long k law sectors c.args.placed.now c.requires.listed c.requires.within in
    ap (λ (bytes : List ℕ). Some bytes) (no_bytes (bytes_of (slots k) sectors c.args.placed.now) (long ∙ c.if-placed-eq0.true))

pub returns : goal.returns
returns g c =
    let d : Device = g.F.Flash.device c.args.flash.now in
    let area : Area = c.args.area.now in
    let k : SectorFormat = g.T.SlotSectors.format_of (geometry_of d area) in
    let sectors : List (List ℕ) = sectors_of d area in
    let law : IsSectorFormat (g.T.SlotSectors.format_of (geometry_of d area)) = g.met.T.SlotSectors.lawful (geometry_of d area) (unit_is d area (g.met.F.Flash.is_lawful c.args.flash.now) c.requires.area.lawful) in
    let long = entry_long k law sectors c.args.placed.now c.requires.listed c.requires.within in (
      ap (λ (bytes : List ℕ). Some bytes) (sym c.value.ensures.bytes),
      λ (none : c.value.result.now ≡ []). c.if-placed-eq0.false (sym long ∙ ap length (sym c.value.ensures.bytes ∙ none)),
    )
