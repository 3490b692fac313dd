use Rattle.flash_map.specs.Area.{geometry_of}
use Rattle.zms_format.specs.Formats.{format_of}
use Rattle.named_items.proofs.ZmsSteps.{zms-frugal}
use Rattle.named_items.proofs.RingSteps.{ring-writes_on, ring-write-most}
use Rattle.named_items.proofs.zms.ZmsItemStore.write_changed.Goals as goal

pub returns-clause-ends : goal.returns-clause-ends
returns-clause-ends g c =
    ring-writes_on format_of (g.F.Flash.device c.args.flash.now) (g.F.Flash.device c.write_changed.new.flash) c.args.self.now.store.area c.write_changed.ensures.touches.banks c.args.id c.args.bytes.now c.write_changed.result c.write_changed.ensures.ends

pub returns-clause-at_most : goal.returns-clause-at_most
returns-clause-at_most g c =
    let geometry = geometry_of (g.F.Flash.device c.args.flash.now) c.args.self.now.store.area in
    ring-write-most (format_of geometry) (g.F.Flash.device c.args.flash.now) (g.F.Flash.device c.write_changed.new.flash) c.args.self.now.store.area c.requires.lawful.several
    (zms-frugal (g.F.Flash.device c.args.flash.now) c.args.self.now.store.area c.requires.lawful c.requires.stands.role) c.args.id c.args.bytes.now c.write_changed.result c.write_changed.ensures.ends
