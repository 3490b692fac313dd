use Rattle.std.proofs.Common.{◌≤◌}
use Rattle.fcb_ring.specs.Standing.{erases_on}
use Rattle.migrator.proofs.Spent.{choice-full, choice-put}
use Rattle.flash_sim.specs.Device.{Device}
use Rattle.std.proofs.Common.{◌≡◌, [], ◌∷◌, true, Result, Err, sym, ap, subst, inl, ◌∙◌}
use Rattle.std.specs.Prelude.{is_err}
use Rattle.flash_map.specs.Touches.{Touches}
use Rattle.fcb_ring.specs.Changing.{append_lost, is_scratch_left}
use Rattle.fcb_ring.specs.declared.ring.Ring.{Ring}
use Rattle.fcb_ring.specs.declared.writing.AppendFault.{AppendFault}
use Rattle.migrator.specs.Choosing.{IsOpen, ChooseEnds}
use Rattle.migrator.proofs.Putting.{put-lost, put-full, put-ok, chosen-behind}
use Rattle.migrator.proofs.selecting.Selector.choose.Goals as goal

pub returns-in-Ok-clause-chosen : goal.returns-in-Ok-clause-chosen
returns-in-Ok-clause-chosen g c =
    let put = put-ok c.args.map.now (g.F.Flash.device c.args.flash.now) (g.F.Flash.device c.put_choice.new.flash) c.args.self.now.ring c.put_choice.new.ring c.args.index c.put_choice.result _ c.in-Ok.is (c.put_choice.ensures.ends c.args.map.now c.requires.store) in
    inl put.2

pub returns-in-Err-Full-clause-chosen : goal.returns-in-Err-Full-clause-chosen
returns-in-Err-Full-clause-chosen g c =
    let full = put-full c.args.map.now (g.F.Flash.device c.args.flash.now) (g.F.Flash.device c.put_choice.new.flash) c.args.self.now.ring c.put_choice.new.ring c.args.index c.put_choice.result
    (c.in-Err-Full.is ∙ ap (λ (x : AppendFault). Err x) c.in-Err-Full.field-0-is) (c.put_choice.ensures.ends c.args.map.now c.requires.store) in
    chosen-behind c.args.map.now (g.F.Flash.device c.args.flash.now) (g.F.Flash.device c.put_choice.new.flash) (g.F.Flash.device c.collect_and_put.new.flash) c.args.self.now.ring c.put_choice.new.ring c.args.index c.collect_and_put.result
    full c.collect_and_put.ensures.chosen

pub returns-in-Ok-clause-at_most : goal.returns-in-Ok-clause-at_most
returns-in-Ok-clause-at_most g c = choice-put (g.F.Flash.device c.args.flash.now) (g.F.Flash.device c.put_choice.new.flash) c.args.self.now.ring.area c.put_choice.ensures.at_most

pub returns-in-Err-PowerLost-clause-at_most : goal.returns-in-Err-PowerLost-clause-at_most
returns-in-Err-PowerLost-clause-at_most g c = choice-put (g.F.Flash.device c.args.flash.now) (g.F.Flash.device c.put_choice.new.flash) c.args.self.now.ring.area c.put_choice.ensures.at_most

pub returns-in-Err-Full-clause-at_most : goal.returns-in-Err-Full-clause-at_most
returns-in-Err-Full-clause-at_most g c =
    let a : Device = g.F.Flash.device c.args.flash.now in
    let b : Device = g.F.Flash.device c.put_choice.new.flash in
    let e : Device = g.F.Flash.device c.collect_and_put.new.flash in
    let full = put-full c.args.map.now a b c.args.self.now.ring c.put_choice.new.ring c.args.index c.put_choice.result
    (c.in-Err-Full.is ∙ ap (λ (x : AppendFault). Err x) c.in-Err-Full.field-0-is) (c.put_choice.ensures.ends c.args.map.now c.requires.store) in
    choice-full a b e c.args.self.now.ring c.put_choice.new.ring full.2 full.3 c.collect_and_put.ensures.at_most

pub put_choice-requires : goal.put_choice-requires
put_choice-requires g c = record { mounted = c.requires.mounted }

pub collect_and_put-requires-clause-mounted : goal.collect_and_put-requires-clause-mounted
collect_and_put-requires-clause-mounted g c =
    let full = put-full c.args.map.now (g.F.Flash.device c.args.flash.now) (g.F.Flash.device c.put_choice.new.flash) c.args.self.now.ring c.put_choice.new.ring c.args.index c.put_choice.result
    (c.in-Err-Full.is ∙ ap (λ (x : AppendFault). Err x) c.in-Err-Full.field-0-is) (c.put_choice.ensures.ends c.args.map.now c.requires.store) in
    subst (λ (d : Device). IsOpen d c.put_choice.new.ring) (sym full.2) (subst (λ (r : Ring). IsOpen (g.F.Flash.device c.args.flash.now) r) (sym full.3) c.requires.mounted)

pub collect_and_put-requires-clause-left : goal.collect_and_put-requires-clause-left
collect_and_put-requires-clause-left g c =
    let full = put-full c.args.map.now (g.F.Flash.device c.args.flash.now) (g.F.Flash.device c.put_choice.new.flash) c.args.self.now.ring c.put_choice.new.ring c.args.index c.put_choice.result
    (c.in-Err-Full.is ∙ ap (λ (x : AppendFault). Err x) c.in-Err-Full.field-0-is) (c.put_choice.ensures.ends c.args.map.now c.requires.store) in
    subst (λ (r : Ring). is_scratch_left r ≡ true) (sym full.3) full.1

pub collect_and_put-requires-clause-store : goal.collect_and_put-requires-clause-store
collect_and_put-requires-clause-store g c = c.requires.store

pub returns-in-Ok-clause-touches : goal.returns-in-Ok-clause-touches
returns-in-Ok-clause-touches g c =
    subst (λ (r : Result (Unit {0}) AppendFault). Touches (c.args.self.now.ring.area ∷ []) (g.F.Flash.device c.args.flash.now) (g.F.Flash.device c.put_choice.new.flash) (append_lost r)) c.in-Ok.is c.put_choice.ensures.touches

pub returns-in-Ok-clause-area : goal.returns-in-Ok-clause-area
returns-in-Ok-clause-area g c = c.put_choice.ensures.area

pub returns-in-Ok-clause-ends : goal.returns-in-Ok-clause-ends
returns-in-Ok-clause-ends g c =
    let put = put-ok c.args.map.now (g.F.Flash.device c.args.flash.now) (g.F.Flash.device c.put_choice.new.flash) c.args.self.now.ring c.put_choice.new.ring c.args.index c.put_choice.result _ c.in-Ok.is (c.put_choice.ensures.ends c.args.map.now c.requires.store) in
    (put.0, put.1)

pub returns-in-Err-PowerLost-clause-touches : goal.returns-in-Err-PowerLost-clause-touches
returns-in-Err-PowerLost-clause-touches g c =
    subst (λ (r : Result (Unit {0}) AppendFault). Touches (c.args.self.now.ring.area ∷ []) (g.F.Flash.device c.args.flash.now) (g.F.Flash.device c.put_choice.new.flash) (append_lost r))
    (c.in-Err-PowerLost.is ∙ ap (λ (x : AppendFault). Err x) c.in-Err-PowerLost.field-0-is) c.put_choice.ensures.touches

pub returns-in-Err-PowerLost-clause-area : goal.returns-in-Err-PowerLost-clause-area
returns-in-Err-PowerLost-clause-area g c = c.put_choice.ensures.area

pub returns-in-Err-PowerLost-clause-ends : goal.returns-in-Err-PowerLost-clause-ends
returns-in-Err-PowerLost-clause-ends g c =
    put-lost c.args.map.now (g.F.Flash.device c.args.flash.now) (g.F.Flash.device c.args.flash.now) (g.F.Flash.device c.put_choice.new.flash) c.args.self.now.ring c.args.self.now.ring c.put_choice.new.ring c.args.index c.put_choice.result
    (c.in-Err-PowerLost.is ∙ ap (λ (x : AppendFault). Err x) c.in-Err-PowerLost.field-0-is) (c.put_choice.ensures.ends c.args.map.now c.requires.store)

pub returns-in-Err-PowerLost-clause-chosen : goal.returns-in-Err-PowerLost-clause-chosen
returns-in-Err-PowerLost-clause-chosen g c = tt

pub returns-in-Err-Full-clause-touches : goal.returns-in-Err-Full-clause-touches
returns-in-Err-Full-clause-touches g c =
    let full = put-full c.args.map.now (g.F.Flash.device c.args.flash.now) (g.F.Flash.device c.put_choice.new.flash) c.args.self.now.ring c.put_choice.new.ring c.args.index c.put_choice.result
    (c.in-Err-Full.is ∙ ap (λ (x : AppendFault). Err x) c.in-Err-Full.field-0-is) (c.put_choice.ensures.ends c.args.map.now c.requires.store) in
    subst (λ (d : Device). Touches (c.args.self.now.ring.area ∷ []) d (g.F.Flash.device c.collect_and_put.new.flash) (is_err c.collect_and_put.result)) full.2
    (subst (λ (r : Ring). Touches (r.area ∷ []) (g.F.Flash.device c.put_choice.new.flash) (g.F.Flash.device c.collect_and_put.new.flash) (is_err c.collect_and_put.result)) full.3 c.collect_and_put.ensures.touches)

pub returns-in-Err-Full-clause-area : goal.returns-in-Err-Full-clause-area
returns-in-Err-Full-clause-area g c = c.collect_and_put.ensures.area ∙ c.put_choice.ensures.area

pub returns-in-Err-Full-clause-ends : goal.returns-in-Err-Full-clause-ends
returns-in-Err-Full-clause-ends g c =
    let full = put-full c.args.map.now (g.F.Flash.device c.args.flash.now) (g.F.Flash.device c.put_choice.new.flash) c.args.self.now.ring c.put_choice.new.ring c.args.index c.put_choice.result
    (c.in-Err-Full.is ∙ ap (λ (x : AppendFault). Err x) c.in-Err-Full.field-0-is) (c.put_choice.ensures.ends c.args.map.now c.requires.store) in
    subst (λ (d : Device). ChooseEnds c.args.map.now d (g.F.Flash.device c.collect_and_put.new.flash) c.args.self.now.ring c.collect_and_put.new.ring c.args.index c.collect_and_put.result) full.2
    (subst (λ (r : Ring). ChooseEnds c.args.map.now (g.F.Flash.device c.put_choice.new.flash) (g.F.Flash.device c.collect_and_put.new.flash) r c.collect_and_put.new.ring c.args.index c.collect_and_put.result) full.3 c.collect_and_put.ensures.ends)

pub returns-in-Ok-clause-left : goal.returns-in-Ok-clause-left
returns-in-Ok-clause-left g c = c.put_choice.ensures.left

pub returns-in-Err-PowerLost-clause-left : goal.returns-in-Err-PowerLost-clause-left
returns-in-Err-PowerLost-clause-left g c = c.put_choice.ensures.left

pub returns-in-Err-Full-clause-left : goal.returns-in-Err-Full-clause-left
returns-in-Err-Full-clause-left g c =
    let full = put-full c.args.map.now (g.F.Flash.device c.args.flash.now) (g.F.Flash.device c.put_choice.new.flash) c.args.self.now.ring c.put_choice.new.ring c.args.index c.put_choice.result
    (c.in-Err-Full.is ∙ ap (λ (x : AppendFault). Err x) c.in-Err-Full.field-0-is) (c.put_choice.ensures.ends c.args.map.now c.requires.store) in
    subst (λ (r : Ring). erases_on (g.F.Flash.device c.collect_and_put.new.flash) r.area ≤ 1) full.3 c.collect_and_put.ensures.left
