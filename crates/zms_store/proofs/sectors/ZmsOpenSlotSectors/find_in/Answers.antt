use Rattle.std.proofs.Common.{ℕ, ◌≤◌, List, length, sym, ap, subst, ◌∙◌}
use Rattle.flash_sim.specs.Device.{Device}
use Rattle.flash_map.specs.declared.area.Area.{Area}
use Rattle.flash_map.specs.declared.area.Geometry.{Geometry}
use Rattle.flash_map.specs.Area.{geometry_of, sectors_of, sector_at}
use Rattle.zms_format.proofs.StepLemmas.{last_same}
use Rattle.std.specs.Option.{option_map}
use Rattle.zms_cycle.specs.Sector.{entries, valid_slots}
use Rattle.zms_format.specs.Formats.{placed_of}
use Rattle.zms_format.specs.Area.{placed_at as zms_placed_at, last_in}
use Rattle.zms_store.proofs.sectors.ZmsOpenSlotSectors.find_in.Goals as goal

pub find_in-requires-clause-known : goal.find_in-requires-clause-known
find_in-requires-clause-known g c = subst (λ (b : List ℕ). c.args.known ≤ length (valid_slots b)) (sym c.sector_view.ensures.bytes) c.requires.known

pub returns-in-Some-clause-last : goal.returns-in-Some-clause-last
returns-in-Some-clause-last g c =
    let a : Device = g.F.Flash.device c.args.flash.now in
    let area : Area = c.args.area.now in
    let u : Geometry = geometry_of a area in
    let bytes = c.sector_view.ensures.bytes in
    let found = c.find_in.ensures.last ∙ ap (λ (b : List ℕ). option_map (zms_placed_at c.args.place) (last_in c.args.id (entries b))) bytes in
    (rw c.from.ensures (ap (option_map placed_of) (sym c.in-Some.is ∙ found) ∙ last_same u (sector_at (sectors_of a area) c.args.place) c.args.place c.args.id))

pub returns-in-None-clause-last : goal.returns-in-None-clause-last
returns-in-None-clause-last g c =
    let a : Device = g.F.Flash.device c.args.flash.now in
    let area : Area = c.args.area.now in
    let u : Geometry = geometry_of a area in
    let bytes = c.sector_view.ensures.bytes in
    let found = c.find_in.ensures.last ∙ ap (λ (b : List ℕ). option_map (zms_placed_at c.args.place) (last_in c.args.id (entries b))) bytes in
    ap (option_map placed_of) (sym c.in-None.is ∙ found) ∙ last_same u (sector_at (sectors_of a area) c.args.place) c.args.place c.args.id
