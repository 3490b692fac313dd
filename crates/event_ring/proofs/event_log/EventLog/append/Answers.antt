use Rattle.std.proofs.Common.{Err, ap, length, refl, ◌∙◌}
use Rattle.fcb_ring.specs.declared.writing.AppendFault.{AppendFault}
use Rattle.event_ring.proofs.LogSteps.{short-by, put-alone, lost-alone, full-ends, full-filled, put-ok, put-lost, put-full}
use Rattle.event_ring.proofs.DueSteps.{open-left}
use Rattle.event_ring.proofs.event_log.EventLog.append.Goals as goal

pub returns-in-Ok-clause-ends : goal.returns-in-Ok-clause-ends
returns-in-Ok-clause-ends g c =
    let d = g.F.Flash.device c.args.flash.now in
    let e = g.F.Flash.device c.put.new.flash in
    let short = short-by c.args.self.now.ring.area c.area.result.now (length c.args.body.now) c.is_too_long.result c.is_too_long.ensures c.area.ensures c.if-is_too_long.false in
    (short, put-alone d e c.args.self.now.ring c.put.new.ring c.args.body.now c.put.ensures.touches.banks (put-ok d e c.args.self.now.ring c.put.new.ring c.args.body.now c.put.result _ c.in-Ok.is c.put.ensures.ends))

pub returns-in-Err-PowerLost-clause-ends : goal.returns-in-Err-PowerLost-clause-ends
returns-in-Err-PowerLost-clause-ends g c =
    let d = g.F.Flash.device c.args.flash.now in
    let e = g.F.Flash.device c.put.new.flash in
    let short = short-by c.args.self.now.ring.area c.area.result.now (length c.args.body.now) c.is_too_long.result c.is_too_long.ensures c.area.ensures c.if-is_too_long.false in (
      short,
      lost-alone d e c.args.self.now.ring c.put.new.ring c.args.body.now
          (put-lost d e c.args.self.now.ring c.put.new.ring c.args.body.now c.put.result (c.in-Err-PowerLost.is ∙ ap (λ (x : AppendFault). Err x) c.in-Err-PowerLost.field-0-is) c.put.ensures.ends),
    )

pub returns-in-Err-Full-clause-ends : goal.returns-in-Err-Full-clause-ends
returns-in-Err-Full-clause-ends g c =
    let d = g.F.Flash.device c.args.flash.now in
    let m = g.F.Flash.device c.put.new.flash in
    let full = put-full d m c.args.self.now.ring c.put.new.ring c.args.body.now c.put.result (c.in-Err-Full.is ∙ ap (λ (x : AppendFault). Err x) c.in-Err-Full.field-0-is) c.put.ensures.ends in
    full-ends d m (g.F.Flash.device c.drop_and_put.new.flash) c.args.self.now.ring c.put.new.ring c.drop_and_put.new.ring c.args.body.now c.drop_and_put.result full.2 full.3 c.drop_and_put.ensures.ends

pub returns-in-Err-Full-clause-filled : goal.returns-in-Err-Full-clause-filled
returns-in-Err-Full-clause-filled g c =
    let d = g.F.Flash.device c.args.flash.now in
    let m = g.F.Flash.device c.put.new.flash in
    let full = put-full d m c.args.self.now.ring c.put.new.ring c.args.body.now c.put.result (c.in-Err-Full.is ∙ ap (λ (x : AppendFault). Err x) c.in-Err-Full.field-0-is) c.put.ensures.ends in
    full-filled d m (g.F.Flash.device c.drop_and_put.new.flash) c.args.self.now.ring c.put.new.ring full.2 full.3 c.drop_and_put.ensures.filled

pub returns-in-Ok-clause-filled : goal.returns-in-Ok-clause-filled
returns-in-Ok-clause-filled g c =
    let d = g.F.Flash.device c.args.flash.now in
    let e = g.F.Flash.device c.put.new.flash in
    (put-ok d e c.args.self.now.ring c.put.new.ring c.args.body.now c.put.result _ c.in-Ok.is c.put.ensures.ends).filled

pub returns-in-Err-PowerLost-clause-filled : goal.returns-in-Err-PowerLost-clause-filled
returns-in-Err-PowerLost-clause-filled g c =
    let d = g.F.Flash.device c.args.flash.now in
    let e = g.F.Flash.device c.put.new.flash in
    (put-lost d e c.args.self.now.ring c.put.new.ring c.args.body.now c.put.result (c.in-Err-PowerLost.is ∙ ap (λ (x : AppendFault). Err x) c.in-Err-PowerLost.field-0-is) c.put.ensures.ends).filled

pub returns-then-is_too_long-clause-left : goal.returns-then-is_too_long-clause-left
returns-then-is_too_long-clause-left g c = open-left (g.F.Flash.device c.args.flash.now) c.args.self.now.ring c.args.self.now.ring.area 1 refl c.requires
