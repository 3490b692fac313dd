use Rattle.std.proofs.Common.{◌≡◌, ◌<◌, ◌≤◌, length, refl, sym, ◌∙◌, arith}
use Rattle.flash_sim.specs.Device.{Device}
use Rattle.migrator.proofs.AreaLemmas.{store-within}
use Rattle.migrator.specs.Choosing.{choice_units}
use Rattle.migrator.proofs.Moving.{open-sound}
use Rattle.migrator.proofs.Spent.{most_none}
use Rattle.mirror.proofs.OwingSteps.{due-few}
use Rattle.mirror.proofs.TrustSteps.{chosen-opens}
use Rattle.mirror.proofs.trusting.name_trusted.Goals as goal

pub returns-then-active-trusted-clause-ends : goal.returns-then-active-trusted-clause-ends
returns-then-active-trusted-clause-ends g c =
    (sym c.requires.active ∙ c.if-active-trusted.true, open-sound (g.F.Flash.device c.args.flash.now) c.args.selector.now.ring (g.met.F.Flash.is_lawful c.args.flash.now) c.requires.mounted)

pub overflow_cast-trusted : goal.overflow_cast-trusted
overflow_cast-trusted g c =
    let within : c.args.trusted < length c.args.map.now = store-within c.args.map.now c.args.trusted c.requires.store in
    let few : length c.args.map.now ≤ 8 = c.requires.lawful.few in
    omega arith

pub returns-then-active-trusted-clause-at_most : goal.returns-then-active-trusted-clause-at_most
returns-then-active-trusted-clause-at_most g c = let d = g.F.Flash.device c.args.flash.now in most_none d d (choice_units d c.args.selector.now.ring.area) refl

pub returns-clause-opened : goal.returns-clause-opened
returns-clause-opened g c =
    chosen-opens c.args.map.now (g.F.Flash.device c.args.flash.now) (g.F.Flash.device c.choose.new.flash) c.args.selector.now.ring c.choose.new.self.ring _ c.choose.result c.choose.ensures.ends

pub returns-then-active-trusted-clause-chosen : goal.returns-then-active-trusted-clause-chosen
returns-then-active-trusted-clause-chosen g c differs = absurd (differs c.if-active-trusted.true)

pub returns-then-active-trusted-clause-left : goal.returns-then-active-trusted-clause-left
returns-then-active-trusted-clause-left g c due one before = before

pub returns-clause-left : goal.returns-clause-left
returns-clause-left g c = due-few (g.F.Flash.device c.args.flash.now) (g.F.Flash.device c.choose.new.flash) c.args.selector.now.ring.area c.choose.ensures.left
