use Rattle.std.proofs.Common.{ℕ, Bool, List, subst}
use Rattle.flash_sim.specs.Device.{Device}
use Rattle.flash_map.specs.declared.area.Geometry.{Geometry}
use Rattle.flash_map.specs.Area.{unit_of, sector_at, sectors_of}
use Rattle.nvs_store.specs.Holding.{HasNamed}
use Rattle.nvs_format.proofs.HolderLemmas.{none_named}
use Rattle.nvs_gc.proofs.sectors.NvsOpenSlotSectors.may_have.Goals as goal

pub returns-clause-rules : goal.returns-clause-rules
returns-clause-rules g c =
    let d : Device = g.F.Flash.device c.args.flash.now in
    let unit : ℕ = unit_of d c.args.area.now in
    let b : List ℕ = sector_at (sectors_of d c.args.area.now) c.args.place in
    let named : (id : ℕ) (may : Bool) → HasNamed c.geometry-unit.result.unit c.sector_view-bytes.result.now id c.args.skipped may → HasNamed unit b id c.args.skipped may =
    λ id may there.
    subst (λ (xs : List ℕ). HasNamed unit xs id c.args.skipped may) c.sector_view-bytes.ensures.bytes
    (subst (λ (x : Geometry). HasNamed x.unit c.sector_view-bytes.result.now id c.args.skipped may) c.geometry-unit.ensures there) in
    record {
      lower = λ none. none_named unit b c.args.ids.now.lower c.args.skipped (subst (HasNamed unit b c.args.ids.now.lower c.args.skipped) none (named c.args.ids.now.lower c.are_named-lower.result.0 c.are_named-lower.ensures.lower));
      upper = λ none. none_named unit b c.args.ids.now.upper c.args.skipped (subst (HasNamed unit b c.args.ids.now.upper c.args.skipped) none (named c.args.ids.now.upper c.are_named-lower.result.1 c.are_named-lower.ensures.upper));
    }
