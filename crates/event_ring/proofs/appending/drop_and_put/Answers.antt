use Rattle.std.proofs.Common.{Err, ap, subst, ◌≤◌, ◌∙◌}
use Rattle.flash_map.specs.declared.area.Area.{Area}
use Rattle.fcb_ring.specs.Standing.{erases_on}
use Rattle.fcb_ring.specs.declared.writing.AppendFault.{AppendFault}
use Rattle.event_ring.proofs.LogSteps.{adds-then, lost-then, fits-then, short-then, filled-then, drop-lost, put-ok, put-lost, put-full}
use Rattle.event_ring.proofs.appending.drop_and_put.Goals as goal

pub put-requires-clause-short : goal.put-requires-clause-short
put-requires-clause-short g c =
    short-then (g.F.Flash.device c.args.flash.now) c.args.ring.now c.args.body.now (g.met.F.Flash.is_lawful c.args.flash.now) c.requires.mounted c.requires.no_room c.requires.left
    (g.F.Flash.device c.drop_oldest.new.flash) c.drop_oldest.new.ring (g.met.F.Flash.is_lawful c.drop_oldest.new.flash) c.in-Ok.ensures.touches.banks c.in-Ok.ensures.area c.in-Ok.ensures.dropped c.requires.short

pub unreachable-requires-in-Err-Full : goal.unreachable-requires-in-Err-Full
unreachable-requires-in-Err-Full g c =
    let m = g.F.Flash.device c.drop_oldest.new.flash in
    let full = put-full m (g.F.Flash.device c.put.new.flash) c.drop_oldest.new.ring c.put.new.ring c.args.body.now c.put.result (c.in-Err-Full.is ∙ ap (λ (x : AppendFault). Err x) c.in-Err-Full.field-0-is) c.put.ensures.ends in
    fits-then (g.F.Flash.device c.args.flash.now) c.args.ring.now c.args.body.now (g.met.F.Flash.is_lawful c.args.flash.now) c.requires.mounted c.requires.no_room c.requires.left
    m c.drop_oldest.new.ring (g.met.F.Flash.is_lawful c.drop_oldest.new.flash) c.in-Ok.ensures.touches.banks c.in-Ok.ensures.area c.in-Ok.ensures.dropped c.requires.short full.0

pub returns-in-Ok-put-clause-ends : goal.returns-in-Ok-put-clause-ends
returns-in-Ok-put-clause-ends g c =
    let m = g.F.Flash.device c.drop_oldest.new.flash in
    let e = g.F.Flash.device c.put.new.flash in
    let put = put-ok m e c.drop_oldest.new.ring c.put.new.ring c.args.body.now c.put.result _ c.in-Ok-put.is c.put.ensures.ends in (
      c.requires.short,
      adds-then (g.F.Flash.device c.args.flash.now) c.args.ring.now c.args.body.now (g.met.F.Flash.is_lawful c.args.flash.now) c.requires.mounted c.requires.no_room c.requires.left
          m c.drop_oldest.new.ring (g.met.F.Flash.is_lawful c.drop_oldest.new.flash) c.in-Ok.ensures.touches.banks c.in-Ok.ensures.area c.in-Ok.ensures.dropped c.requires.short
          e c.put.new.ring c.in-Ok.dropped c.put.ensures.touches.banks c.in-Ok.ensures.count put,
    )

pub returns-in-Ok-put-clause-filled : goal.returns-in-Ok-put-clause-filled
returns-in-Ok-put-clause-filled g c =
    let m = g.F.Flash.device c.drop_oldest.new.flash in
    let e = g.F.Flash.device c.put.new.flash in
    let put = put-ok m e c.drop_oldest.new.ring c.put.new.ring c.args.body.now c.put.result _ c.in-Ok-put.is c.put.ensures.ends in
    filled-then (g.F.Flash.device c.args.flash.now) c.args.ring.now c.args.body.now (g.met.F.Flash.is_lawful c.args.flash.now) c.requires.mounted c.requires.no_room c.requires.left
    m c.drop_oldest.new.ring (g.met.F.Flash.is_lawful c.drop_oldest.new.flash) c.in-Ok.ensures.touches.banks c.in-Ok.ensures.area c.in-Ok.ensures.dropped c.requires.short e put.filled

pub returns-in-Err-PowerLost-clause-ends : goal.returns-in-Err-PowerLost-clause-ends
returns-in-Err-PowerLost-clause-ends g c =
    let m = g.F.Flash.device c.drop_oldest.new.flash in
    let e = g.F.Flash.device c.put.new.flash in
    let lost = put-lost m e c.drop_oldest.new.ring c.put.new.ring c.args.body.now c.put.result (c.in-Err-PowerLost.is ∙ ap (λ (x : AppendFault). Err x) c.in-Err-PowerLost.field-0-is) c.put.ensures.ends in (
      c.requires.short,
      lost-then (g.F.Flash.device c.args.flash.now) c.args.ring.now c.args.body.now (g.met.F.Flash.is_lawful c.args.flash.now) c.requires.mounted c.requires.no_room c.requires.left
          m c.drop_oldest.new.ring (g.met.F.Flash.is_lawful c.drop_oldest.new.flash) c.in-Ok.ensures.touches.banks c.in-Ok.ensures.area c.in-Ok.ensures.dropped c.requires.short
          e c.put.new.ring c.in-Ok.ensures.touches.ends.on lost,
    )

pub returns-in_default-clause-ends : goal.returns-in_default-clause-ends
returns-in_default-clause-ends g c = (
  c.requires.short,
  drop-lost (g.F.Flash.device c.args.flash.now) c.args.ring.now c.args.body.now (g.met.F.Flash.is_lawful c.args.flash.now) c.requires.mounted c.requires.no_room c.requires.left c.requires.short
      (g.F.Flash.device c.drop_oldest.new.flash) c.drop_oldest.new.ring c.in_default.ensures.stopped,
)

pub returns-in-Err-PowerLost-clause-filled : goal.returns-in-Err-PowerLost-clause-filled
returns-in-Err-PowerLost-clause-filled g c =
    let m = g.F.Flash.device c.drop_oldest.new.flash in
    let e = g.F.Flash.device c.put.new.flash in
    let lost = put-lost m e c.drop_oldest.new.ring c.put.new.ring c.args.body.now c.put.result (c.in-Err-PowerLost.is ∙ ap (λ (x : AppendFault). Err x) c.in-Err-PowerLost.field-0-is) c.put.ensures.ends in
    filled-then (g.F.Flash.device c.args.flash.now) c.args.ring.now c.args.body.now (g.met.F.Flash.is_lawful c.args.flash.now) c.requires.mounted c.requires.no_room c.requires.left
    m c.drop_oldest.new.ring (g.met.F.Flash.is_lawful c.drop_oldest.new.flash) c.in-Ok.ensures.touches.banks c.in-Ok.ensures.area c.in-Ok.ensures.dropped c.requires.short e lost.filled

pub returns-in-Ok-put-clause-left : goal.returns-in-Ok-put-clause-left
returns-in-Ok-put-clause-left g c = subst (λ (x : Area). erases_on (g.F.Flash.device c.put.new.flash) x ≤ 1) c.in-Ok.ensures.area c.put.ensures.left

pub returns-in-Err-PowerLost-clause-left : goal.returns-in-Err-PowerLost-clause-left
returns-in-Err-PowerLost-clause-left g c = subst (λ (x : Area). erases_on (g.F.Flash.device c.put.new.flash) x ≤ 1) c.in-Ok.ensures.area c.put.ensures.left
