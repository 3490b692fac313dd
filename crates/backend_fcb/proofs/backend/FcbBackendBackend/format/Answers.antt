use Rattle.flash_sim.specs.Device.{Device}
use Rattle.flash_map.specs.declared.area.Area.{Area}
use Rattle.std.proofs.lemmas.Result.{on_ok_weaker}
use Rattle.backend_fcb.proofs.Blank.{blanked-on, blank-undamaged, blank-empty, blank-rests}
use Rattle.backend_fcb.proofs.Ends.{ring-area}
use Rattle.backend_fcb.proofs.backend.FcbBackendBackend.format.Goals as goal

pub returns-clause-blank : goal.returns-clause-blank
returns-clause-blank g c =
    let d : Device = g.F.Flash.device c.args.flash.now in
    let e : Device = g.F.Flash.device c.format.new.flash in
    let area : Area = c.args.area.now in
    let ring = ring-area d area c.requires.lawful c.requires.serves in
    let lawful = g.met.F.Flash.is_lawful c.args.flash.now in
    on_ok_weaker c.format.result (λ is. blanked-on d e area lawful ring is) c.format.ensures.blank

pub returns-clause-sound : goal.returns-clause-sound
returns-clause-sound g c =
    let d : Device = g.F.Flash.device c.args.flash.now in
    let e : Device = g.F.Flash.device c.format.new.flash in
    let area : Area = c.args.area.now in
    let ring = ring-area d area c.requires.lawful c.requires.serves in
    let lawful = g.met.F.Flash.is_lawful c.args.flash.now in
    on_ok_weaker c.format.result (λ is. blank-undamaged d e area lawful (g.met.F.Flash.is_lawful c.format.new.flash) ring c.format.ensures.touches.banks is) c.format.ensures.blank

pub returns-clause-empty : goal.returns-clause-empty
returns-clause-empty g c =
    let d : Device = g.F.Flash.device c.args.flash.now in
    let e : Device = g.F.Flash.device c.format.new.flash in
    let area : Area = c.args.area.now in
    let ring = ring-area d area c.requires.lawful c.requires.serves in
    let lawful = g.met.F.Flash.is_lawful c.args.flash.now in
    on_ok_weaker c.format.result (λ is. blank-empty d e area lawful (g.met.F.Flash.is_lawful c.format.new.flash) ring c.format.ensures.touches.banks is) c.format.ensures.blank

pub returns-clause-rests : goal.returns-clause-rests
returns-clause-rests g c =
    let d : Device = g.F.Flash.device c.args.flash.now in
    let e : Device = g.F.Flash.device c.format.new.flash in
    let area : Area = c.args.area.now in
    let ring = ring-area d area c.requires.lawful c.requires.serves in
    let lawful = g.met.F.Flash.is_lawful c.args.flash.now in
    on_ok_weaker c.format.result (λ is. blank-rests d e area lawful (g.met.F.Flash.is_lawful c.format.new.flash) ring c.format.ensures.touches.banks is) c.format.ensures.blank
