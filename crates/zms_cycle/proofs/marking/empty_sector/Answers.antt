use Rattle.std.proofs.Common.{ℕ, List, Bool, true, false, cond, Some, ◌≤◌, arith}
use Rattle.flash_map.specs.Units.{is_erased}
use Rattle.flash_map.proofs.SpendingBounds.{between_within}
use Rattle.zms_cycle.proofs.UnitCalls.{few_units}
use Rattle.zms_cycle.specs.Sector.{cycle_of}
use Rattle.zms_cycle.specs.Changes.{emptying, next_cycle, StopsGuarding, StopsEmptying}
use Rattle.flash_map.specs.declared.area.Geometry.{Geometry}
use Rattle.std.proofs.Common.{◌≡◌, sym, ap, subst, ◌∙◌}
use Rattle.std.proofs.lemmas.Result.{on_ok_weaker, on_err_weaker}
use Rattle.flash_sim.specs.declared.flash.Kind.{Kind}
use Rattle.flash_sim.specs.declared.flash.Kind.TheVariants.{Erasing, Rewritable}
use Rattle.flash_map.specs.Area.{sector_bytes}
use Rattle.zms_cycle.specs.Areas.{kind_on}
use Rattle.zms_cycle.proofs.GuardUnits.{emptied_guard_on}
use Rattle.zms_cycle.proofs.marking.empty_sector.Goals as goal

one-or-two : (is : Bool) → (1 ≤ cond is 1 2) × (cond is 1 2 ≤ 3)
one-or-two true = (omega arith, omega arith)
one-or-two false = (omega arith, omega arith)

emptying-few : (kind : Kind) (b : List ℕ) → (1 ≤ emptying kind b) × (emptying kind b ≤ 3)
emptying-few Rewritable b =
    let first = few_units Rewritable (Some (next_cycle (cycle_of b))) 1 b in
    let second = few_units Rewritable (Some (next_cycle (cycle_of b))) 2 b in
    (omega arith, omega arith)
emptying-few Erasing b = one-or-two (is_erased b)

pub returns-in-Rewritable-clause-next_guard : goal.returns-in-Rewritable-clause-next_guard
returns-in-Rewritable-clause-next_guard g c =
    on_ok_weaker c.empty_by_guards.result (λ empties. emptied_guard_on (g.F.Flash.device c.args.flash.now) (g.F.Flash.device c.empty_by_guards.new.flash) c.args.area.now c.args.sector c.empty_by_guards.ensures.touches.banks empties) c.empty_by_guards.ensures.ok

pub returns-in-Erasing-clause-next_guard : goal.returns-in-Erasing-clause-next_guard
returns-in-Erasing-clause-next_guard g c =
    on_ok_weaker c.empty_by_erasing.result (λ empties. emptied_guard_on (g.F.Flash.device c.args.flash.now) (g.F.Flash.device c.empty_by_erasing.new.flash) c.args.area.now c.args.sector c.empty_by_erasing.ensures.touches.banks empties) c.empty_by_erasing.ensures.ok

pub sector_cycle-requires : goal.sector_cycle-requires
sector_cycle-requires g c = c.requires

pub geometry-requires : goal.geometry-requires
geometry-requires g c = c.requires.lawful.in_bank

pub empty_by_guards-requires-clause-zms : goal.empty_by_guards-requires-clause-zms
empty_by_guards-requires-clause-zms g c = c.requires

pub empty_by_guards-requires-clause-kind : goal.empty_by_guards-requires-clause-kind
empty_by_guards-requires-clause-kind g c = sym (ap (λ (x : Geometry). x.kind) c.geometry.ensures) ∙ c.in-Rewritable.is

pub empty_by_guards-requires-clause-cycle : goal.empty_by_guards-requires-clause-cycle
empty_by_guards-requires-clause-cycle g c = c.next_cycle-cycle.ensures ∙ ap next_cycle c.sector_cycle.ensures

pub returns-in-Rewritable-clause-touches : goal.returns-in-Rewritable-clause-touches
returns-in-Rewritable-clause-touches g c = c.empty_by_guards.ensures.touches

pub returns-in-Rewritable-clause-others : goal.returns-in-Rewritable-clause-others
returns-in-Rewritable-clause-others g c = c.empty_by_guards.ensures.others

pub returns-in-Rewritable-clause-ok : goal.returns-in-Rewritable-clause-ok
returns-in-Rewritable-clause-ok g c = c.empty_by_guards.ensures.ok

pub returns-in-Rewritable-clause-guards : goal.returns-in-Rewritable-clause-guards
returns-in-Rewritable-clause-guards g c = c.empty_by_guards.ensures.guards

pub returns-in-Rewritable-clause-spends_lost : goal.returns-in-Rewritable-clause-spends_lost
returns-in-Rewritable-clause-spends_lost g c = c.empty_by_guards.ensures.spends_lost

pub returns-in-Rewritable-clause-lost : goal.returns-in-Rewritable-clause-lost
returns-in-Rewritable-clause-lost g c =
    let d = g.F.Flash.device c.args.flash.now in
    let e = g.F.Flash.device c.empty_by_guards.new.flash in
    let old = sector_bytes d c.args.area.now c.args.sector in
    let new = sector_bytes e c.args.area.now c.args.sector in
    let kind : kind_on d c.args.area.now ≡ Rewritable = sym (ap (λ (x : Geometry). x.kind) c.geometry.ensures) ∙ c.in-Rewritable.is in
    let here = λ (stops : StopsGuarding old new). subst (λ (k : Kind). StopsEmptying k old new) (sym kind) stops in
    on_err_weaker c.empty_by_guards.result here c.empty_by_guards.ensures.lost

pub returns-in-Rewritable-clause-spends : goal.returns-in-Rewritable-clause-spends
returns-in-Rewritable-clause-spends g c =
    let d = g.F.Flash.device c.args.flash.now in
    let few = emptying-few (kind_on d c.args.area.now) (sector_bytes d c.args.area.now c.args.sector) in
    on_ok_weaker c.empty_by_guards.result (λ spends. between_within spends 1 3 few.0 few.1) c.empty_by_guards.ensures.guards

pub empty_by_erasing-requires-clause-zms : goal.empty_by_erasing-requires-clause-zms
empty_by_erasing-requires-clause-zms g c = c.requires

pub empty_by_erasing-requires-clause-kind : goal.empty_by_erasing-requires-clause-kind
empty_by_erasing-requires-clause-kind g c = sym (ap (λ (x : Geometry). x.kind) c.geometry.ensures) ∙ c.in-Erasing.is

pub empty_by_erasing-requires-clause-cycle : goal.empty_by_erasing-requires-clause-cycle
empty_by_erasing-requires-clause-cycle g c = c.next_cycle-cycle.ensures ∙ ap next_cycle c.sector_cycle.ensures

pub returns-in-Erasing-clause-touches : goal.returns-in-Erasing-clause-touches
returns-in-Erasing-clause-touches g c = c.empty_by_erasing.ensures.touches

pub returns-in-Erasing-clause-others : goal.returns-in-Erasing-clause-others
returns-in-Erasing-clause-others g c = c.empty_by_erasing.ensures.others

pub returns-in-Erasing-clause-ok : goal.returns-in-Erasing-clause-ok
returns-in-Erasing-clause-ok g c = c.empty_by_erasing.ensures.ok

pub returns-in-Erasing-clause-guards : goal.returns-in-Erasing-clause-guards
returns-in-Erasing-clause-guards g c = c.empty_by_erasing.ensures.guards

pub returns-in-Erasing-clause-spends_lost : goal.returns-in-Erasing-clause-spends_lost
returns-in-Erasing-clause-spends_lost g c = c.empty_by_erasing.ensures.spends_lost

pub returns-in-Erasing-clause-lost : goal.returns-in-Erasing-clause-lost
returns-in-Erasing-clause-lost g c = c.empty_by_erasing.ensures.lost

pub returns-in-Erasing-clause-spends : goal.returns-in-Erasing-clause-spends
returns-in-Erasing-clause-spends g c =
    let d = g.F.Flash.device c.args.flash.now in
    let few = emptying-few (kind_on d c.args.area.now) (sector_bytes d c.args.area.now c.args.sector) in
    on_ok_weaker c.empty_by_erasing.result (λ spends. between_within spends 1 3 few.0 few.1) c.empty_by_erasing.ensures.guards
