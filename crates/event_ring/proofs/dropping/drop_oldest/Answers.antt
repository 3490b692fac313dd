use Rattle.std.proofs.Common.{[], ◌∷◌, true, false, subst, ◌∙◌}
use Rattle.flash_map.specs.Touches.{Touches}
use Rattle.flash_map.specs.declared.area.Area.{Area}
use Rattle.flash_map.proofs.PieceLemmas.{on_err}
use Rattle.flash_map.proofs.Touches.{then}
use Rattle.fcb_ring.proofs.AppendLemmas.{is_err_by}
use Rattle.fcb_ring.specs.Changing.{next_place}
use Rattle.event_ring.proofs.DropSteps.{dropped-all, dropped-not, opened-not}
use Rattle.event_ring.proofs.DueSteps.{drop-left, open-left, put-left}
use Rattle.event_ring.proofs.dropping.drop_oldest.Goals as goal

pub returns-clause-touches : goal.returns-clause-touches
returns-clause-touches g c =
    then c.in_ok-begin_collect.ensures.touches
    (subst (λ (x : Area). Touches (x ∷ []) (g.F.Flash.device c.begin_collect.new.flash) (g.F.Flash.device c.end_collect.new.flash) false) c.in_ok-begin_collect.ensures.begun.area c.in_ok-end_collect.ensures.touches)

pub returns-in_err-end_collect-clause-touches : goal.returns-in_err-end_collect-clause-touches
returns-in_err-end_collect-clause-touches g c =
    let d = g.F.Flash.device c.args.flash.now in
    let e = g.F.Flash.device c.end_collect.new.flash in
    is_err_by c.from_residual-in_err-end_collect.result (λ b. Touches (c.args.ring.now.area ∷ []) d e b) c.from_residual-in_err-end_collect.ensures.0
    (then c.in_ok-begin_collect.ensures.touches
    (subst (λ (x : Area). Touches (x ∷ []) (g.F.Flash.device c.begin_collect.new.flash) e true) c.in_ok-begin_collect.ensures.begun.area c.in_err-end_collect.ensures.touches))

pub returns-clause-dropped : goal.returns-clause-dropped
returns-clause-dropped g c =
    let d = g.F.Flash.device c.args.flash.now in
    let m = g.F.Flash.device c.begin_collect.new.flash in
    let e = g.F.Flash.device c.end_collect.new.flash in
    let ends = c.in_ok-end_collect.ensures in
    dropped-all d m c.args.ring.now c.begin_collect.new.self (g.met.F.Flash.is_lawful c.args.flash.now) (g.met.F.Flash.is_lawful c.begin_collect.new.flash) c.requires.mounted c.requires.left c.in_ok-begin_collect.ensures.begun
    e c.end_collect.new.self (g.met.F.Flash.is_lawful c.end_collect.new.flash) ends.touches.banks ends.others ends.ended.area ends.ended.reserve ends.ended.stands ends.ended.ready ends.ended.end ends.ended.ends ends.ended.units

pub returns-in_err-end_collect-clause-stopped : goal.returns-in_err-end_collect-clause-stopped
returns-in_err-end_collect-clause-stopped g c =
    let d = g.F.Flash.device c.args.flash.now in
    let m = g.F.Flash.device c.begin_collect.new.flash in
    let e = g.F.Flash.device c.end_collect.new.flash in
    let ends = c.in_err-end_collect.ensures in
    on_err c.from_residual-in_err-end_collect.result
    (dropped-not d m c.args.ring.now c.begin_collect.new.self (g.met.F.Flash.is_lawful c.args.flash.now) (g.met.F.Flash.is_lawful c.begin_collect.new.flash) c.requires.mounted c.requires.left c.in_ok-begin_collect.ensures.begun
    e c.end_collect.new.self (g.met.F.Flash.is_lawful c.end_collect.new.flash) ends.touches.banks ends.stopped.same c.in_ok-begin_collect.ensures.touches.ends.on ends.stopped.list ends.stopped.ring.down ends.stopped.lost ends.stopped.bound)

pub returns-in_err-begin_collect-clause-stopped : goal.returns-in_err-begin_collect-clause-stopped
returns-in_err-begin_collect-clause-stopped g c =
    on_err c.from_residual.result
    (opened-not (g.F.Flash.device c.args.flash.now) (g.F.Flash.device c.begin_collect.new.flash) c.args.ring.now c.begin_collect.new.self (g.met.F.Flash.is_lawful c.args.flash.now) (g.met.F.Flash.is_lawful c.begin_collect.new.flash) c.requires.mounted
    c.in_err-begin_collect.ensures.stopped c.in_err-begin_collect.ensures.form)

pub returns-clause-left : goal.returns-clause-left
returns-clause-left g c =
    let ended = c.in_ok-end_collect.ensures.ended in
    let begun = c.in_ok-begin_collect.ensures.begun in
    open-left (g.F.Flash.device c.end_collect.new.flash) c.end_collect.new.self c.args.ring.now.area 1 (ended.area ∙ begun.area)
    (record { stands = ended.stands; ready = ended.ready; reserve = ended.reserve ∙ begun.reserve ∙ c.requires.mounted.reserve })

pub returns-in_err-end_collect-clause-left : goal.returns-in_err-end_collect-clause-left
returns-in_err-end_collect-clause-left g c =
    drop-left (g.F.Flash.device c.args.flash.now) (g.F.Flash.device c.begin_collect.new.flash) (g.F.Flash.device c.end_collect.new.flash) c.args.ring.now c.begin_collect.new.self c.requires.mounted
    c.in_ok-begin_collect.ensures.begun c.in_err-end_collect.ensures.touches.banks c.in_err-end_collect.ensures.stopped.same

pub returns-in_err-begin_collect-clause-left : goal.returns-in_err-begin_collect-clause-left
returns-in_err-begin_collect-clause-left g c =
    let stopped = c.in_err-begin_collect.ensures.stopped in
    put-left (g.F.Flash.device c.args.flash.now) (g.F.Flash.device c.begin_collect.new.flash) c.args.ring.now (next_place c.args.ring.now) c.requires.mounted stopped.banks stopped.others
