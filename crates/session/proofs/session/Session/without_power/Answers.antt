use Rattle.std.proofs.Common.{◌∙◌}
use Rattle.session.proofs.OwesLemmas.{owes-planned}
use Rattle.std.proofs.Common.{sym, subst}
use Rattle.std.specs.Prelude.{IfOk}
use Rattle.script_lines.specs.declared.line.Line.{Line}
use Rattle.script_lines.specs.declared.line.Line.TheVariants.{Cut, Uncut}
use Rattle.session.specs.OnMap.{CarriedBeside, meanings}
use Rattle.session.proofs.ReadyLemmas.{carried_as, cut_is_none, uncut_is_none, ready_planned, undamaged_planned}
use Rattle.session.proofs.session.Session.without_power.Goals as goal

pub returns-in-Mount-clause-done : goal.returns-in-Mount-clause-done
returns-in-Mount-clause-done g c =
    subst (λ (line : Line). IfOk c.mount.result (λ answer. CarriedBeside (meanings g.K.Backend.contents g.K.Backend.room g.K.Backend.chance g.K.Backend.tears) g.K.Backend.damage c.args.map.now line answer (g.B.Flash.device c.args.bench.now) (g.B.Flash.device c.mount.new.bench))) (sym c.in-Mount.is) c.mount.ensures.done

pub returns-in-Cut-clause-done : goal.returns-in-Cut-clause-done
returns-in-Cut-clause-done g c =
    carried_as (meanings g.K.Backend.contents g.K.Backend.room g.K.Backend.chance g.K.Backend.tears) g.K.Backend.damage c.args.map.now c.args.line.now (g.B.Flash.device c.args.bench.now) (g.B.Flash.device c.plan_loss.new.bench) (Cut c.in-Cut.units) c.plan_loss.result c.in-Cut.is (cut_is_none c.in-Cut.units) c.plan_loss.ensures.same
    (undamaged_planned g.K.Backend.mounted_on g.K.Backend.stands g.K.Backend.runs g.K.Backend.damage c.args.map.now (g.B.Flash.device c.args.bench.now) (g.B.Flash.device c.plan_loss.new.bench).plan (g.B.Flash.device c.plan_loss.new.bench) c.plan_loss.ensures.same) tt c.plan_loss.ensures.done

pub returns-in-Cut-clause-ready : goal.returns-in-Cut-clause-ready
returns-in-Cut-clause-ready g c =
    ready_planned g.K.Backend.mounted_on g.K.Backend.stands g.K.Backend.runs g.K.Backend.damage c.args.map.now (g.B.Flash.device c.args.bench.now) (g.B.Flash.device c.plan_loss.new.bench).plan (g.B.Flash.device c.plan_loss.new.bench) c.args.self.now.selector c.args.self.now.active c.args.self.now.settings c.plan_loss.ensures.same c.requires.ready

pub returns-in-Uncut-clause-done : goal.returns-in-Uncut-clause-done
returns-in-Uncut-clause-done g c =
    carried_as (meanings g.K.Backend.contents g.K.Backend.room g.K.Backend.chance g.K.Backend.tears) g.K.Backend.damage c.args.map.now c.args.line.now (g.B.Flash.device c.args.bench.now) (g.B.Flash.device c.drop_plan.new.bench) Uncut c.drop_plan.result c.in-Uncut.is uncut_is_none c.drop_plan.ensures.same
    (undamaged_planned g.K.Backend.mounted_on g.K.Backend.stands g.K.Backend.runs g.K.Backend.damage c.args.map.now (g.B.Flash.device c.args.bench.now) (g.B.Flash.device c.drop_plan.new.bench).plan (g.B.Flash.device c.drop_plan.new.bench) c.drop_plan.ensures.same) tt c.drop_plan.ensures.done

pub returns-in-Uncut-clause-ready : goal.returns-in-Uncut-clause-ready
returns-in-Uncut-clause-ready g c =
    ready_planned g.K.Backend.mounted_on g.K.Backend.stands g.K.Backend.runs g.K.Backend.damage c.args.map.now (g.B.Flash.device c.args.bench.now) (g.B.Flash.device c.drop_plan.new.bench).plan (g.B.Flash.device c.drop_plan.new.bench) c.args.self.now.selector c.args.self.now.active c.args.self.now.settings c.drop_plan.ensures.same c.requires.ready

pub returns-in-Mount-clause-boots : goal.returns-in-Mount-clause-boots
returns-in-Mount-clause-boots g c is = c.mount.ensures.boots

pub returns-in-Mount-clause-leaves : goal.returns-in-Mount-clause-leaves
returns-in-Mount-clause-leaves g c = c.mount.ensures.leaves

pub returns-in-Cut-clause-boots : goal.returns-in-Cut-clause-boots
returns-in-Cut-clause-boots g c is = absurd (cut_is_none c.in-Cut.units (sym c.in-Cut.is ∙ is))

pub returns-in-Cut-clause-leaves : goal.returns-in-Cut-clause-leaves
returns-in-Cut-clause-leaves g c = record {
  undamaged = undamaged_planned g.K.Backend.mounted_on g.K.Backend.stands g.K.Backend.runs g.K.Backend.damage c.args.map.now (g.B.Flash.device c.args.bench.now) (g.B.Flash.device c.plan_loss.new.bench).plan (g.B.Flash.device c.plan_loss.new.bench) c.plan_loss.ensures.same;
  owed = owes-planned g.K.Backend.owes c.args.map.now (g.B.Flash.device c.args.bench.now) (g.B.Flash.device c.plan_loss.new.bench) c.plan_loss.ensures.same;
}

pub returns-in-Uncut-clause-boots : goal.returns-in-Uncut-clause-boots
returns-in-Uncut-clause-boots g c is = absurd (uncut_is_none (sym c.in-Uncut.is ∙ is))

pub returns-in-Uncut-clause-leaves : goal.returns-in-Uncut-clause-leaves
returns-in-Uncut-clause-leaves g c = record {
  undamaged = undamaged_planned g.K.Backend.mounted_on g.K.Backend.stands g.K.Backend.runs g.K.Backend.damage c.args.map.now (g.B.Flash.device c.args.bench.now) (g.B.Flash.device c.drop_plan.new.bench).plan (g.B.Flash.device c.drop_plan.new.bench) c.drop_plan.ensures.same;
  owed = owes-planned g.K.Backend.owes c.args.map.now (g.B.Flash.device c.args.bench.now) (g.B.Flash.device c.drop_plan.new.bench) c.drop_plan.ensures.same;
}
