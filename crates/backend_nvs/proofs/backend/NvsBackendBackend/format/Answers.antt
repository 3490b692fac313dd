use Rattle.std.proofs.lemmas.Result.{on_ok_weaker}
use Rattle.flash_sim.specs.Device.{Device}
use Rattle.named_items.proofs.FormatSteps.{blanked-on}
use Rattle.backend_nvs.proofs.FormatSteps.{format-undamaged, format-empty, format-rests}
use Rattle.backend_nvs.proofs.backend.NvsBackendBackend.format.Goals as goal

pub returns-clause-blank : goal.returns-clause-blank
returns-clause-blank g c =
    let d : Device = g.F.Flash.device c.args.flash.now in
    let e : Device = g.F.Flash.device c.area_format.new.flash in
    on_ok_weaker c.area_format.result (λ is. blanked-on d e c.args.area.now (g.met.F.Flash.is_lawful c.args.flash.now) c.requires.lawful is) c.area_format.ensures.blank

pub returns-clause-sound : goal.returns-clause-sound
returns-clause-sound g c =
    let d : Device = g.F.Flash.device c.args.flash.now in
    let e : Device = g.F.Flash.device c.area_format.new.flash in
    on_ok_weaker c.area_format.result (λ is. format-undamaged d e c.args.area.now c.requires.lawful (blanked-on d e c.args.area.now (g.met.F.Flash.is_lawful c.args.flash.now) c.requires.lawful is)) c.area_format.ensures.blank

pub returns-clause-empty : goal.returns-clause-empty
returns-clause-empty g c =
    let d : Device = g.F.Flash.device c.args.flash.now in
    let e : Device = g.F.Flash.device c.area_format.new.flash in
    on_ok_weaker c.area_format.result (λ is. format-empty d e c.args.area.now c.requires.lawful (blanked-on d e c.args.area.now (g.met.F.Flash.is_lawful c.args.flash.now) c.requires.lawful is)) c.area_format.ensures.blank

pub returns-clause-rests : goal.returns-clause-rests
returns-clause-rests g c =
    let d : Device = g.F.Flash.device c.args.flash.now in
    let e : Device = g.F.Flash.device c.area_format.new.flash in
    on_ok_weaker c.area_format.result (λ is. format-rests d e c.args.area.now c.requires.lawful (blanked-on d e c.args.area.now (g.met.F.Flash.is_lawful c.args.flash.now) c.requires.lawful is)) c.area_format.ensures.blank
