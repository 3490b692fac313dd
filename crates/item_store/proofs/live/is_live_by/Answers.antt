use Rattle.std.proofs.Common.{ℕ, List, sym, ◌∙◌}
use Rattle.item_store.proofs.LiveSteps.{live_empty, live_unseen, live_seen, live_exact}
use Rattle.flash_sim.specs.Device.{Device}
use Rattle.flash_map.specs.declared.area.Area.{Area}
use Rattle.flash_map.specs.Area.{geometry_of, sectors_of}
use Rattle.item_store.specs.SectorFormat.{SectorFormat}
use Rattle.item_store.proofs.live.is_live_by.Goals as goal

pub returns-then-placed-eq0 : goal.returns-then-placed-eq0
returns-then-placed-eq0 g c =
    let d : Device = g.F.Flash.device c.args.flash.now in
    let area : Area = c.args.on.now.area.now in
    let k : SectorFormat = g.T.SlotSectors.format_of (geometry_of d area) in
    let sectors : List (List ℕ) = sectors_of d area in
    λ later at seen. live_empty k sectors c.args.placed.now later at c.if-placed-eq0.true

pub returns-then-not-has : goal.returns-then-not-has
returns-then-not-has g c =
    let d : Device = g.F.Flash.device c.args.flash.now in
    let area : Area = c.args.on.now.area.now in
    let k : SectorFormat = g.T.SlotSectors.format_of (geometry_of d area) in
    let sectors : List (List ℕ) = sectors_of d area in
    λ later at seen. live_unseen k sectors c.args.placed.now later at k.ids c.args.seen.now seen c.if-placed-eq0.false
    (sym c.has.ensures ∙ c.if-not-has.true)

pub returns-then-has_short_ids : goal.returns-then-has_short_ids
returns-then-has_short_ids g c =
    let d : Device = g.F.Flash.device c.args.flash.now in
    let area : Area = c.args.on.now.area.now in
    let k : SectorFormat = g.T.SlotSectors.format_of (geometry_of d area) in
    let sectors : List (List ℕ) = sectors_of d area in
    λ later at seen. live_seen k sectors c.args.placed.now later at k.ids c.args.seen.now seen (c.has_short_ids.ensures.short (geometry_of d area) c.if-has_short_ids.true) c.requires.known
    (sym c.has.ensures ∙ c.if-not-has.false)

pub returns-then-is_exact : goal.returns-then-is_exact
returns-then-is_exact g c =
    let d : Device = g.F.Flash.device c.args.flash.now in
    let area : Area = c.args.on.now.area.now in
    let k : SectorFormat = g.T.SlotSectors.format_of (geometry_of d area) in
    let sectors : List (List ℕ) = sectors_of d area in
    λ later at seen. live_exact k sectors c.args.placed.now later at k.ids c.args.seen.now seen (c.is_exact.ensures c.if-is_exact.true)
    (sym c.has.ensures ∙ c.if-not-has.false)

pub returns : goal.returns
returns g c =
    let d : Device = g.F.Flash.device c.args.flash.now in
    let area : Area = c.args.on.now.area.now in
    let k : SectorFormat = g.T.SlotSectors.format_of (geometry_of d area) in
    let sectors : List (List ℕ) = sectors_of d area in
    λ later at seen. c.is_live.ensures
