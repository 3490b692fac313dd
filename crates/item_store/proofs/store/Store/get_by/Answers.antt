use Rattle.std.proofs.Common.{sym, ap, ◌∙◌}
use Rattle.std.specs.Option.{option_and_then}
use Rattle.flash_sim.specs.Device.{Device}
use Rattle.flash_map.specs.declared.area.Area.{Area}
use Rattle.flash_map.specs.Area.{geometry_of, sectors_of}
use Rattle.item_laws.specs.Items.{value_of}
use Rattle.item_laws.specs.Live.{bytes_of}
use Rattle.item_store.specs.declared.entry.Placed.{Placed}
use Rattle.item_store.specs.SectorFormat.{IsSectorFormat, slots}
use Rattle.item_store.proofs.Areas.{unit_is}
use Rattle.item_store.proofs.TableFacts.{covered-value, covered-placed}
use Rattle.item_store.proofs.store.Store.get_by.Goals as goal

pub bytes_at-requires-clause-placed : goal.bytes_at-requires-clause-placed
bytes_at-requires-clause-placed g c =
    let d : Device = g.F.Flash.device c.args.flash.now in
    let area : Area = c.args.self.now.area in
    let law : IsSectorFormat (g.T.SlotSectors.format_of (geometry_of d area)) = g.met.T.SlotSectors.lawful (geometry_of d area) (unit_is d area (g.met.F.Flash.is_lawful c.args.flash.now) c.requires.stands.area.lawful) in
    covered-placed g.T.SlotSectors.role g.T.SlotSectors.format_of g.T.SlotSectors.kept d c.args.self.now law (g.met.F.Flash.is_lawful c.args.flash.now) c.requires.stands c.args.last.now c.requires.last c.in-Some.placed c.args.id
    (c.knows_of.ensures.yes_it c.if-not-knows_of.false) (sym (sym c.in-Some.is ∙ c.entry_of.ensures c.requires.last.below.rises))

pub returns-in-Some-clause-value : goal.returns-in-Some-clause-value
returns-in-Some-clause-value g c =
    let d : Device = g.F.Flash.device c.args.flash.now in
    let area : Area = c.args.self.now.area in
    let law : IsSectorFormat (g.T.SlotSectors.format_of (geometry_of d area)) = g.met.T.SlotSectors.lawful (geometry_of d area) (unit_is d area (g.met.F.Flash.is_lawful c.args.flash.now) c.requires.stands.area.lawful) in
    c.bytes_at.ensures.value
    ∙ sym (covered-value g.T.SlotSectors.role g.T.SlotSectors.format_of g.T.SlotSectors.kept d c.args.self.now law (g.met.F.Flash.is_lawful c.args.flash.now) c.requires.stands c.args.last.now c.requires.last c.args.id (c.knows_of.ensures.yes_it c.if-not-knows_of.false)
    ∙ ap (option_and_then (λ (p : Placed). value_of (bytes_of (slots (g.T.SlotSectors.format_of (geometry_of d area))) (sectors_of d area) p))) (sym (sym c.in-Some.is ∙ c.entry_of.ensures c.requires.last.below.rises)))

pub returns-in-None-clause-value : goal.returns-in-None-clause-value
returns-in-None-clause-value g c =
    let d : Device = g.F.Flash.device c.args.flash.now in
    let area : Area = c.args.self.now.area in
    let law : IsSectorFormat (g.T.SlotSectors.format_of (geometry_of d area)) = g.met.T.SlotSectors.lawful (geometry_of d area) (unit_is d area (g.met.F.Flash.is_lawful c.args.flash.now) c.requires.stands.area.lawful) in
    sym (covered-value g.T.SlotSectors.role g.T.SlotSectors.format_of g.T.SlotSectors.kept d c.args.self.now law (g.met.F.Flash.is_lawful c.args.flash.now) c.requires.stands c.args.last.now c.requires.last c.args.id (c.knows_of.ensures.yes_it c.if-not-knows_of.false)
    ∙ ap (option_and_then (λ (p : Placed). value_of (bytes_of (slots (g.T.SlotSectors.format_of (geometry_of d area))) (sectors_of d area) p))) (sym (sym c.in-None.is ∙ c.entry_of.ensures c.requires.last.below.rises)))

pub returns-then-not-knows_of-clause-few : goal.returns-then-not-knows_of-clause-few
returns-then-not-knows_of-clause-few g c =
    λ covered. absurd (c.knows_of.ensures.not_it c.if-not-knows_of.true covered)
