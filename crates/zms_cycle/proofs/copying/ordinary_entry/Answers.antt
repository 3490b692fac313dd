use Rattle.std.proofs.Common.{ap, sym, ◌∙◌, arith}
use Rattle.flash_map.specs.Area.{sector_bytes}
use Rattle.item_laws.proofs.SlotLemmas.{bytes-slot_at}
use Rattle.zms_cycle.specs.Entries.{decoded}
use Rattle.zms_cycle.proofs.AreaFacts.{size_is}
use Rattle.zms_cycle.proofs.CopyCalls.{ordinary_is, ordinary_none}
use Rattle.zms_cycle.proofs.copying.ordinary_entry.Goals as goal

pub returns-clause-entry : goal.returns-clause-entry
returns-clause-entry g c =
    let size = size_is (g.F.Flash.device c.args.flash.now) c.args.area.now c.args.sector c.requires.zms (g.met.F.Flash.is_lawful c.args.flash.now) in
    let bytes = c.area_view.ensures.bytes ∙ bytes-slot_at 16 (sector_bytes (g.F.Flash.device c.args.flash.now) c.args.area.now c.args.sector) c.args.slot c.slot_start-start.result (omega (arith, size, c.slot_start-start.ensures)) in
    ordinary_is (sector_bytes (g.F.Flash.device c.args.flash.now) c.args.area.now c.args.sector) c.args.slot c.in-Some.entry (sym (c.in-Some.ensures ∙ ap decoded bytes)) c.requires.some

pub unreachable-requires : goal.unreachable-requires
unreachable-requires g c =
    let size = size_is (g.F.Flash.device c.args.flash.now) c.args.area.now c.args.sector c.requires.zms (g.met.F.Flash.is_lawful c.args.flash.now) in
    let bytes = c.area_view.ensures.bytes ∙ bytes-slot_at 16 (sector_bytes (g.F.Flash.device c.args.flash.now) c.args.area.now c.args.sector) c.args.slot c.slot_start-start.result (omega (arith, size, c.slot_start-start.ensures)) in
    ordinary_none (sector_bytes (g.F.Flash.device c.args.flash.now) c.args.area.now c.args.sector) c.args.slot (sym (c.in-None.ensures ∙ ap decoded bytes)) c.requires.some
