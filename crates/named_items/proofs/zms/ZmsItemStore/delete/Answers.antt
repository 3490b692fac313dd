use Rattle.flash_map.specs.Area.{geometry_of}
use Rattle.zms_format.specs.Formats.{format_of}
use Rattle.named_items.specs.ZmsStore.{zms_removal}
use Rattle.named_items.proofs.MostUnits.{between-same}
use Rattle.named_items.proofs.ZmsSteps.{zms-law, zms-frugal, zms-erased}
use Rattle.named_items.proofs.RingSteps.{ring-deletes_on, ring-delete-most, ring-delete-removal, ring-delete-next, ring-delete-written}
use Rattle.named_items.proofs.zms.ZmsItemStore.delete.Goals as goal

pub returns-clause-ends : goal.returns-clause-ends
returns-clause-ends g c =
    ring-deletes_on format_of (g.F.Flash.device c.args.flash.now) (g.F.Flash.device c.delete.new.flash) c.args.self.now.store.area c.delete.ensures.touches.banks c.args.id c.delete.result c.delete.ensures.ends

pub returns-clause-units : goal.returns-clause-units
returns-clause-units g c =
    let d = g.F.Flash.device c.args.flash.now in
    let e = g.F.Flash.device c.delete.new.flash in
    let area = c.args.self.now.store.area in
    let k = format_of (geometry_of d area) in
    let removal = zms_removal (geometry_of d area) in
    let one = between-same d e 0 removal c.delete.ensures.units.at_most in
    record {
      at_most = ring-delete-most k d e area c.requires.lawful.several (zms-frugal d area c.requires.lawful c.requires.stands.role) c.args.id c.delete.result c.delete.ensures.ends;
      removal = ring-delete-removal k d e area c.requires.lawful.several (zms-frugal d area c.requires.lawful c.requires.stands.role) c.args.id c.delete.result c.delete.ensures.ends;
      one = one;
      next = ring-delete-next k d e area (zms-law (geometry_of d area)) removal c.args.id c.delete.result c.delete.ensures.ends one;
    }

pub returns-clause-written : goal.returns-clause-written
returns-clause-written g c =
    let geometry = geometry_of (g.F.Flash.device c.args.flash.now) c.args.self.now.store.area in
    ring-delete-written (format_of geometry) (zms-erased geometry) (g.F.Flash.device c.args.flash.now) (g.F.Flash.device c.delete.new.flash) c.args.self.now.store.area
    (zms-law (geometry_of (g.F.Flash.device c.args.flash.now) c.args.self.now.store.area)) c.requires.lawful.several c.args.id c.delete.result c.delete.ensures.ends c.delete.ensures.written
