use Rattle.std.specs.Prelude.{is_some, IfErr, IfOk}
use Rattle.std.proofs.Common.{◌≡◌, ◌∙◌, List, ℕ, true, refl, sym, subst}
use Rattle.std.proofs.lemmas.Bool.{false≢true}
use Rattle.flash_sim.specs.Device.{Device}
use Rattle.flash_map.specs.declared.area.Area.{Area}
use Rattle.mirror_session.specs.declared.line.Line.{Line}
use Rattle.mirror_session.specs.declared.line.Line.TheVariants.{Set, Get, Del, Names, Mount, Cut, Uncut, Blank}
use Rattle.mirror_session.specs.Bench.{Meanings, Moment, meanings, moment, state_of}
use Rattle.mirror_session.specs.LineDone.{LineDone}
use Rattle.mirror_session.specs.Running.{BeginsLine, FindsArea, LineStops, takes_memory}
use Rattle.mirror_session.specs.State.{IsOn}
use Rattle.mirror_session.specs.Step.{needs_power}
use Rattle.session.specs.Owing.{greatest_boot}
use Rattle.mirror_session.proofs.OwesLemmas.{up-dark, up-planned, up-wider}
use Rattle.mirror_session.proofs.ReadyLemmas.{ready_still}
use Rattle.mirror_session.proofs.carrying.MirrorSession.carry_out.Goals as goal

-- what is none of the four lines needs power
others_need : (line : Line) → (line ≡ Mount → ⊥) → ((units : ℕ) → line ≡ Cut units → ⊥) → (line ≡ Uncut → ⊥) → ((label : List ℕ) → line ≡ Blank label → ⊥) → needs_power line ≡ true
others_need (Set name value) mount cut uncut blank = refl
others_need (Get name) mount cut uncut blank = refl
others_need (Del name) mount cut uncut blank = refl
others_need Names mount cut uncut blank = refl
others_need Mount mount cut uncut blank = absurd (mount refl)
others_need (Cut units) mount cut uncut blank = absurd (cut units refl)
others_need Uncut mount cut uncut blank = absurd (uncut refl)
others_need (Blank label) mount cut uncut blank = absurd (blank label refl)

-- memory was wanting in a line that needs power, and nothing changed
begins : (m : Meanings) (areas : List Area) (line : Line) (old : Moment) (new : Device) → needs_power line ≡ true → IsOn (state_of m areas old) → takes_memory line ≡ true → new ≡ old.device
    → (takes_memory line ≡ true) × (needs_power line ≡ true → IsOn (state_of m areas old)) × FindsArea areas line old × BeginsLine m areas line old.device new
begins m areas (Set name value) old new needs powered takes same = (takes, λ needed. powered, tt, same)
begins m areas (Get name) old new needs powered takes same = (takes, λ needed. powered, tt, same)
begins m areas (Del name) old new needs powered takes same = (takes, λ needed. powered, tt, same)
begins m areas Names old new needs powered takes same = (takes, λ needed. powered, tt, same)
begins m areas Mount old new needs powered takes same = absurd (false≢true needs)
begins m areas (Cut units) old new needs powered takes same = absurd (false≢true needs)
begins m areas Uncut old new needs powered takes same = absurd (false≢true needs)
begins m areas (Blank label) old new needs powered takes same = absurd (false≢true needs)

pub returns-in-Cut-clause-done : goal.returns-in-Cut-clause-done
returns-in-Cut-clause-done g c =
    let K = g.K.Backend in
    let m = meanings K.damage K.contents K.rests K.room g.K.Priced.prices K.owes in
    let whole = is_some c.args.self.now.mirror in
    subst (λ (line : Line). LineDone m c.args.map.now line c.plan_loss.result (moment (g.B.Flash.device c.args.bench.now) whole) (moment (g.B.Flash.device c.plan_loss.new.bench) whole)) (sym c.in-Cut.is) (c.plan_loss.ensures.done whole)

pub returns-in-Uncut-clause-done : goal.returns-in-Uncut-clause-done
returns-in-Uncut-clause-done g c =
    let K = g.K.Backend in
    let m = meanings K.damage K.contents K.rests K.room g.K.Priced.prices K.owes in
    let whole = is_some c.args.self.now.mirror in
    subst (λ (line : Line). LineDone m c.args.map.now line c.drop_plan.result (moment (g.B.Flash.device c.args.bench.now) whole) (moment (g.B.Flash.device c.drop_plan.new.bench) whole)) (sym c.in-Uncut.is) (c.drop_plan.ensures.done whole)

pub on_mirror-requires-clause-needs : goal.on_mirror-requires-clause-needs
on_mirror-requires-clause-needs g c = others_need c.args.line.now c.in_default.not-Mount c.in_default.not-Cut c.in_default.not-Uncut c.in_default.not-Blank

pub returns-in-Err-on_mirror-clause-stops : goal.returns-in-Err-on_mirror-clause-stops
returns-in-Err-on_mirror-clause-stops g c =
    let K = g.K.Backend in
    begins (meanings K.damage K.contents K.rests K.room g.K.Priced.prices K.owes) c.args.map.now c.args.line.now (moment (g.B.Flash.device c.args.bench.now) (is_some c.args.self.now.mirror)) (g.B.Flash.device c.on_mirror.new.bench) (others_need c.args.line.now c.in_default.not-Mount c.in_default.not-Cut c.in_default.not-Uncut c.in_default.not-Blank) c.in-Err-on_mirror.ensures.on c.in-Err-on_mirror.ensures.takes c.in-Err-on_mirror.ensures.same

pub returns-in-Ok-on_mirror-clause-done : goal.returns-in-Ok-on_mirror-clause-done
returns-in-Ok-on_mirror-clause-done g c = c.in-Ok-on_mirror.ensures.done

pub returns-in-Ok-on_mirror-clause-ready : goal.returns-in-Ok-on_mirror-clause-ready
returns-in-Ok-on_mirror-clause-ready g c = c.in-Ok-on_mirror.ensures.ready

pub returns-in-Err-clause-stops : goal.returns-in-Err-clause-stops
returns-in-Err-clause-stops g c =
    let K = g.K.Backend in
    let m = meanings K.damage K.contents K.rests K.room g.K.Priced.prices K.owes in
    subst (λ (line : Line). (takes_memory line ≡ true) × (needs_power line ≡ true → IsOn (state_of m c.args.map.now (moment (g.B.Flash.device c.args.bench.now) (is_some c.args.self.now.mirror)))) × FindsArea c.args.map.now line (moment (g.B.Flash.device c.args.bench.now) (is_some c.args.self.now.mirror)) × BeginsLine m c.args.map.now line (g.B.Flash.device c.args.bench.now) (g.B.Flash.device c.replace.new.bench)) (sym c.in-Blank.is) (refl, λ needs. absurd (false≢true needs), c.in-Err.ensures.finds, c.in-Err.ensures.same)

pub returns-in-Ok-clause-done : goal.returns-in-Ok-clause-done
returns-in-Ok-clause-done g c =
    let K = g.K.Backend in
    let m = meanings K.damage K.contents K.rests K.room g.K.Priced.prices K.owes in
    subst (λ (line : Line). LineDone m c.args.map.now line c.in-Ok.answer (moment (g.B.Flash.device c.args.bench.now) (is_some c.args.self.now.mirror)) (moment (g.B.Flash.device c.replace.new.bench) (is_some c.replace.new.self.mirror))) (sym c.in-Blank.is) c.in-Ok.ensures.done

pub returns-in-Ok-clause-ready : goal.returns-in-Ok-clause-ready
returns-in-Ok-clause-ready g c = c.in-Ok.ensures.ready

pub returns-in-Mount-clause-done : goal.returns-in-Mount-clause-done
returns-in-Mount-clause-done g c =
    let K = g.K.Backend in
    let m = meanings K.damage K.contents K.rests K.room g.K.Priced.prices K.owes in
    subst (λ (line : Line). IfOk c.mount.result (λ answer. LineDone m c.args.map.now line answer (moment (g.B.Flash.device c.args.bench.now) (is_some c.args.self.now.mirror)) (moment (g.B.Flash.device c.mount.new.bench) (is_some c.mount.new.self.mirror)))) (sym c.in-Mount.is) c.mount.ensures.done

pub returns-in-Mount-clause-ready : goal.returns-in-Mount-clause-ready
returns-in-Mount-clause-ready g c = c.mount.ensures.ready

pub returns-in-Mount-clause-stops : goal.returns-in-Mount-clause-stops
returns-in-Mount-clause-stops g c =
    let K = g.K.Backend in
    let m = meanings K.damage K.contents K.rests K.room g.K.Priced.prices K.owes in
    subst (λ (line : Line). IfErr c.mount.result (λ fault. LineStops m c.args.map.now line (moment (g.B.Flash.device c.args.bench.now) (is_some c.args.self.now.mirror)) (g.B.Flash.device c.mount.new.bench) fault)) (sym c.in-Mount.is) c.mount.ensures.stops

pub returns-in-Cut-clause-ready : goal.returns-in-Cut-clause-ready
returns-in-Cut-clause-ready g c =
    let K = g.K.Backend in
    let m = meanings K.damage K.contents K.rests K.room g.K.Priced.prices K.owes in
    ready_still K.mounted_on K.stands m c.args.map.now (g.B.Flash.device c.args.bench.now) (g.B.Flash.device c.plan_loss.new.bench) c.args.self.now.mirror c.plan_loss.ensures.same c.requires.ready

pub returns-in-Uncut-clause-ready : goal.returns-in-Uncut-clause-ready
returns-in-Uncut-clause-ready g c =
    let K = g.K.Backend in
    let m = meanings K.damage K.contents K.rests K.room g.K.Priced.prices K.owes in
    ready_still K.mounted_on K.stands m c.args.map.now (g.B.Flash.device c.args.bench.now) (g.B.Flash.device c.drop_plan.new.bench) c.args.self.now.mirror c.drop_plan.ensures.same c.requires.ready

-- what is no mount reports nothing of one
cut_mount : (units : ℕ) → Cut units ≡ Mount → ⊥
cut_mount units e = cc

uncut_mount : Uncut ≡ Mount → ⊥
uncut_mount e = cc

blank_mount : (label : List ℕ) → Blank label ≡ Mount → ⊥
blank_mount label e = cc

pub returns-in-Mount-clause-boots : goal.returns-in-Mount-clause-boots
returns-in-Mount-clause-boots g c is = c.mount.ensures.boots

pub returns-in-Cut-clause-boots : goal.returns-in-Cut-clause-boots
returns-in-Cut-clause-boots g c is = absurd (cut_mount _ (sym c.in-Cut.is ∙ is))

pub returns-in-Uncut-clause-boots : goal.returns-in-Uncut-clause-boots
returns-in-Uncut-clause-boots g c is = absurd (uncut_mount (sym c.in-Uncut.is ∙ is))

pub returns-in-Ok-clause-boots : goal.returns-in-Ok-clause-boots
returns-in-Ok-clause-boots g c is = absurd (blank_mount _ (sym c.in-Blank.is ∙ is))

pub returns-in-Ok-on_mirror-clause-boots : goal.returns-in-Ok-on_mirror-clause-boots
returns-in-Ok-on_mirror-clause-boots g c is = absurd (c.in_default.not-Mount is)

pub returns-in-Mount-clause-left : goal.returns-in-Mount-clause-left
returns-in-Mount-clause-left g c = c.mount.ensures.left

pub returns-in-Mount-clause-kept : goal.returns-in-Mount-clause-kept
returns-in-Mount-clause-kept g c = c.mount.ensures.kept

pub returns-in-Cut-clause-left : goal.returns-in-Cut-clause-left
returns-in-Cut-clause-left g c =
    let K = g.K.Backend in
    let d = g.B.Flash.device c.args.bench.now in
    let e = g.B.Flash.device c.plan_loss.new.bench in
    let was = is_some c.args.self.now.mirror in
    up-planned K.owes c.args.map.now (greatest_boot K.boot_units d.banks c.args.map.now) d e was c.plan_loss.ensures.same

pub returns-in-Cut-clause-kept : goal.returns-in-Cut-clause-kept
returns-in-Cut-clause-kept g c =
    let K = g.K.Backend in
    let d = g.B.Flash.device c.args.bench.now in
    let e = g.B.Flash.device c.plan_loss.new.bench in
    let was = is_some c.args.self.now.mirror in
    up-dark K.owes c.args.map.now (greatest_boot K.boot_units d.banks c.args.map.now) (moment d was) e was (up-planned K.owes c.args.map.now (greatest_boot K.boot_units d.banks c.args.map.now) d e was c.plan_loss.ensures.same)

pub returns-in-Uncut-clause-left : goal.returns-in-Uncut-clause-left
returns-in-Uncut-clause-left g c =
    let K = g.K.Backend in
    let d = g.B.Flash.device c.args.bench.now in
    let e = g.B.Flash.device c.drop_plan.new.bench in
    let was = is_some c.args.self.now.mirror in
    up-planned K.owes c.args.map.now (greatest_boot K.boot_units d.banks c.args.map.now) d e was c.drop_plan.ensures.same

pub returns-in-Uncut-clause-kept : goal.returns-in-Uncut-clause-kept
returns-in-Uncut-clause-kept g c =
    let K = g.K.Backend in
    let d = g.B.Flash.device c.args.bench.now in
    let e = g.B.Flash.device c.drop_plan.new.bench in
    let was = is_some c.args.self.now.mirror in
    up-dark K.owes c.args.map.now (greatest_boot K.boot_units d.banks c.args.map.now) (moment d was) e was (up-planned K.owes c.args.map.now (greatest_boot K.boot_units d.banks c.args.map.now) d e was c.drop_plan.ensures.same)

pub returns-in-Ok-clause-left : goal.returns-in-Ok-clause-left
returns-in-Ok-clause-left g c =
    let K = g.K.Backend in
    let d = g.B.Flash.device c.args.bench.now in
    let e = g.B.Flash.device c.replace.new.bench in
    let was = is_some c.args.self.now.mirror in
    up-wider K.owes c.args.map.now (greatest_boot K.boot_units d.banks c.args.map.now) (moment d was) (moment e (is_some c.replace.new.self.mirror)) c.replace.ensures.left

pub returns-in-Ok-on_mirror-clause-left : goal.returns-in-Ok-on_mirror-clause-left
returns-in-Ok-on_mirror-clause-left g c = c.on_mirror.ensures.left

pub returns-in-Ok-clause-kept : goal.returns-in-Ok-clause-kept
returns-in-Ok-clause-kept g c =
    let K = g.K.Backend in
    let d = g.B.Flash.device c.args.bench.now in
    let e = g.B.Flash.device c.replace.new.bench in
    let was = is_some c.args.self.now.mirror in
    up-dark K.owes c.args.map.now (greatest_boot K.boot_units d.banks c.args.map.now) (moment d was) e (is_some c.replace.new.self.mirror) (up-wider K.owes c.args.map.now (greatest_boot K.boot_units d.banks c.args.map.now) (moment d was) (moment e (is_some c.replace.new.self.mirror)) c.replace.ensures.left)

pub returns-in-Err-clause-kept : goal.returns-in-Err-clause-kept
returns-in-Err-clause-kept g c =
    let K = g.K.Backend in
    let d = g.B.Flash.device c.args.bench.now in
    let e = g.B.Flash.device c.replace.new.bench in
    let was = is_some c.args.self.now.mirror in
    up-dark K.owes c.args.map.now (greatest_boot K.boot_units d.banks c.args.map.now) (moment d was) e (is_some c.replace.new.self.mirror) (up-wider K.owes c.args.map.now (greatest_boot K.boot_units d.banks c.args.map.now) (moment d was) (moment e (is_some c.replace.new.self.mirror)) c.replace.ensures.left)

pub returns-in-Ok-on_mirror-clause-kept : goal.returns-in-Ok-on_mirror-clause-kept
returns-in-Ok-on_mirror-clause-kept g c =
    let K = g.K.Backend in
    let d = g.B.Flash.device c.args.bench.now in
    let e = g.B.Flash.device c.on_mirror.new.bench in
    let was = is_some c.args.self.now.mirror in
    up-dark K.owes c.args.map.now (greatest_boot K.boot_units d.banks c.args.map.now) (moment d was) e (is_some c.on_mirror.new.self.mirror) c.on_mirror.ensures.left

pub returns-in-Err-on_mirror-clause-kept : goal.returns-in-Err-on_mirror-clause-kept
returns-in-Err-on_mirror-clause-kept g c =
    let K = g.K.Backend in
    let d = g.B.Flash.device c.args.bench.now in
    let e = g.B.Flash.device c.on_mirror.new.bench in
    let was = is_some c.args.self.now.mirror in
    up-dark K.owes c.args.map.now (greatest_boot K.boot_units d.banks c.args.map.now) (moment d was) e (is_some c.on_mirror.new.self.mirror) c.on_mirror.ensures.left
