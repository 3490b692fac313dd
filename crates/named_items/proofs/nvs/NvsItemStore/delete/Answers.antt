use Rattle.flash_map.specs.Area.{geometry_of}
use Rattle.nvs_format.specs.Formats.{format_of}
use Rattle.named_items.specs.NvsStore.{nvs_removal}
use Rattle.named_items.proofs.NvsSteps.{nvs-law, nvs-frugal, nvs-erased}
use Rattle.named_items.proofs.RingSteps.{ring-deletes_on, ring-delete-most, ring-delete-removal, ring-delete-one, ring-delete-next, ring-delete-written}
use Rattle.named_items.proofs.nvs.NvsItemStore.delete.Goals as goal

pub returns-clause-ends : goal.returns-clause-ends
returns-clause-ends g c =
    ring-deletes_on format_of (g.F.Flash.device c.args.flash.now) (g.F.Flash.device c.delete.new.flash) c.args.self.now.store.area c.delete.ensures.touches.banks c.args.id c.delete.result c.delete.ensures.ends

pub returns-clause-units : goal.returns-clause-units
returns-clause-units g c =
    let d = g.F.Flash.device c.args.flash.now in
    let e = g.F.Flash.device c.delete.new.flash in
    let area = c.args.self.now.store.area in
    let k = format_of (geometry_of d area) in
    let one = ring-delete-one k d e area c.args.id c.delete.result c.delete.ensures.ends in
    record {
      at_most = ring-delete-most k d e area c.requires.lawful.several (nvs-frugal d area (g.met.F.Flash.is_lawful c.args.flash.now) c.requires.lawful) c.args.id c.delete.result c.delete.ensures.ends;
      removal = ring-delete-removal k d e area c.requires.lawful.several (nvs-frugal d area (g.met.F.Flash.is_lawful c.args.flash.now) c.requires.lawful) c.args.id c.delete.result c.delete.ensures.ends;
      one = one;
      next = ring-delete-next k d e area (nvs-law d area (g.met.F.Flash.is_lawful c.args.flash.now) c.requires.lawful) (nvs_removal (geometry_of d area)) c.args.id c.delete.result c.delete.ensures.ends one;
    }

pub returns-clause-written : goal.returns-clause-written
returns-clause-written g c =
    let geometry = geometry_of (g.F.Flash.device c.args.flash.now) c.args.self.now.store.area in
    ring-delete-written (format_of geometry) (nvs-erased geometry) (g.F.Flash.device c.args.flash.now) (g.F.Flash.device c.delete.new.flash) c.args.self.now.store.area
    (nvs-law (g.F.Flash.device c.args.flash.now) c.args.self.now.store.area (g.met.F.Flash.is_lawful c.args.flash.now) c.requires.lawful) c.requires.lawful.several c.args.id c.delete.result c.delete.ensures.ends c.delete.ensures.written
