use Rattle.std.proofs.lemmas.Result.{on_ok_weaker}
use Rattle.backend_zms.proofs.BackendSteps.{erased, erased-undamaged, erased-empty, erased-rests}
use Rattle.backend_zms.proofs.backend.ZmsBackendBackend.format.Goals as goal

pub returns-clause-blank : goal.returns-clause-blank
returns-clause-blank g c =
    on_ok_weaker c.area_format.result (λ is. erased (g.F.Flash.device c.args.flash.now) (g.F.Flash.device c.area_format.new.flash) c.args.area.now (g.met.F.Flash.is_lawful c.args.flash.now) c.requires.lawful is) c.area_format.ensures.blank

pub returns-clause-sound : goal.returns-clause-sound
returns-clause-sound g c =
    on_ok_weaker c.area_format.result (λ is. erased-undamaged (g.F.Flash.device c.args.flash.now) (g.F.Flash.device c.area_format.new.flash) c.args.area.now (g.met.F.Flash.is_lawful c.args.flash.now) c.requires.lawful is) c.area_format.ensures.blank

pub returns-clause-empty : goal.returns-clause-empty
returns-clause-empty g c =
    on_ok_weaker c.area_format.result (λ is. erased-empty (g.F.Flash.device c.args.flash.now) (g.F.Flash.device c.area_format.new.flash) c.args.area.now (g.met.F.Flash.is_lawful c.args.flash.now) c.requires.lawful is) c.area_format.ensures.blank

pub returns-clause-rests : goal.returns-clause-rests
returns-clause-rests g c =
    on_ok_weaker c.area_format.result (λ is. erased-rests (g.F.Flash.device c.args.flash.now) (g.F.Flash.device c.area_format.new.flash) c.args.area.now (g.met.F.Flash.is_lawful c.args.flash.now) c.requires.lawful is) c.area_format.ensures.blank
