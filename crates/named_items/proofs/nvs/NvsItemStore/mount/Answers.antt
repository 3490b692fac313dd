use Rattle.flash_map.specs.Area.{geometry_of}
use Rattle.flash_map.specs.declared.area.Role.TheVariants.{Nvs as NvsRole}
use Rattle.nvs_gc.specs.declared.nvs.Nvs.{Nvs}
use Rattle.nvs_gc.specs.Standing.{kept}
use Rattle.nvs_format.specs.Formats.{format_of}
use Rattle.named_items.specs.NvsStore.{nvs_redo}
use Rattle.named_items.proofs.MostUnits.{between-same}
use Rattle.named_items.proofs.NvsSteps.{nvs-law, nvs-frugal, nvs-erased}
use Rattle.named_items.proofs.RingSteps.{ring-mounts, ring-sound, ring-keeps, ring-mounted, ring-up, ring-redoes, ring-idle, ring-mount-most, ring-changed}
use Rattle.named_items.proofs.nvs.NvsItemStore.mount.Goals as goal

pub returns-clause-ends : goal.returns-clause-ends
returns-clause-ends g c =
    ring-mounts NvsRole format_of kept (λ (nvs : Nvs). nvs.store) (g.F.Flash.device c.args.flash.now) (g.F.Flash.device c.mount.new.flash) c.args.area c.mount.ensures.touches.banks c.mount.result c.mount.ensures.ends

pub returns-clause-sound : goal.returns-clause-sound
returns-clause-sound g c =
    ring-sound NvsRole format_of kept (λ (nvs : Nvs). nvs.store) (g.F.Flash.device c.args.flash.now) (g.F.Flash.device c.mount.new.flash) c.args.area c.mount.ensures.touches.banks c.mount.result c.mount.ensures.ends

pub returns-clause-keeps : goal.returns-clause-keeps
returns-clause-keeps g c =
    ring-keeps NvsRole format_of kept (λ (nvs : Nvs). nvs.store) (g.F.Flash.device c.args.flash.now) (g.F.Flash.device c.mount.new.flash) c.args.area c.mount.ensures.touches.banks c.mount.result c.mount.ensures.ends

pub returns-clause-rests : goal.returns-clause-rests
returns-clause-rests g c =
    ring-idle NvsRole format_of kept (λ (nvs : Nvs). nvs.store) (g.F.Flash.device c.args.flash.now) (g.F.Flash.device c.mount.new.flash) c.args.area c.mount.ensures.touches.banks
    (nvs-law (g.F.Flash.device c.args.flash.now) c.args.area (g.met.F.Flash.is_lawful c.args.flash.now) c.requires.lawful) c.requires.lawful c.mount.result c.mount.ensures.ends

pub returns-clause-written : goal.returns-clause-written
returns-clause-written g c =
    let geometry = geometry_of (g.F.Flash.device c.args.flash.now) c.args.area in
    ring-changed (format_of geometry) (nvs-erased geometry) (g.F.Flash.device c.args.flash.now) (g.F.Flash.device c.mount.new.flash) c.args.area c.mount.ensures.changed

pub returns-clause-units : goal.returns-clause-units
returns-clause-units g c =
    let d = g.F.Flash.device c.args.flash.now in
    let e = g.F.Flash.device c.mount.new.flash in
    let area = c.args.area in
    record {
      at_most = ring-mount-most (format_of (geometry_of d area)) d e area c.requires.lawful.several (nvs-frugal d area (g.met.F.Flash.is_lawful c.args.flash.now) c.requires.lawful) c.mount.ensures.at_most;
      redoes = between-same d e 0 (nvs_redo (geometry_of d area)) c.mount.ensures.at_most;
      ends = ring-redoes NvsRole format_of kept (λ (nvs : Nvs). nvs.store) d e area c.mount.ensures.touches.banks (nvs-law d area (g.met.F.Flash.is_lawful c.args.flash.now) c.requires.lawful) c.mount.result c.mount.ensures.ends;
    }

pub returns-clause-on : goal.returns-clause-on
returns-clause-on g c =
    ring-mounted NvsRole format_of kept (λ (nvs : Nvs). nvs.store) (g.F.Flash.device c.args.flash.now) (g.F.Flash.device c.mount.new.flash) c.args.area c.mount.ensures.touches.banks c.mount.result c.mount.ensures.ends

pub returns-clause-stands : goal.returns-clause-stands
returns-clause-stands g c =
    ring-up NvsRole format_of kept (λ (nvs : Nvs). nvs.store) (g.F.Flash.device c.args.flash.now) (g.F.Flash.device c.mount.new.flash) c.args.area c.mount.ensures.touches.banks c.mount.result c.mount.ensures.ends
