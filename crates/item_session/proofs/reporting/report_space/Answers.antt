use Rattle.std.proofs.Common.{◌∙◌, ap}
use Rattle.flash_map.specs.declared.area.Area.{Area}
use Rattle.flash_map.specs.Area.{sector_size}
use Rattle.item_history.specs.Usage.{space_of}
use Rattle.item_store.specs.Listed.{format_on, list_on}
use Rattle.item_session.proofs.LineLemmas.{space_reported}
use Rattle.item_session.proofs.reporting.report_space.Goals as goal

pub returns : goal.returns
returns g c =
    let d = g.B.Flash.device c.args.bench.now in
    let format_of = g.T.SlotSectors.format_of in
    let s = c.store_space-space.result in
    space_reported format_of c.args.area.now d s.live s.stale s.free c.requires.on
    (c.store_space-space.ensures ∙ ap (λ (a : Area). space_of (format_on format_of d a) a.sectors (sector_size d a) (list_on format_of d a)) c.requires.area)
