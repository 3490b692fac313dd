use Rattle.std.proofs.Common.{◌≡◌, false, get_or, length, sym, ◌∙◌, arith}
use Rattle.flash_sim.specs.Device.{Device}
use Rattle.flash_map.specs.declared.area.Area.{Area}
use Rattle.backend_fcb.specs.Compaction.{is_kept_of}
use Rattle.backend_fcb.specs.declared.compaction.Kept.{Kept}
use Rattle.backend_fcb.proofs.CompactionSteps.{marked}
use Rattle.backend_fcb.proofs.TableLaws.{without-step, without-found, without-none}
use Rattle.backend_fcb.proofs.compaction.place_of.Goals as goal
use Rattle.backend_fcb.proofs.compaction.place_of.Goals.{else-kept-mark-via-then-kept-mark+else-is_kept_of, else-kept-mark-via-else-kept-mark}

abbrev nothing : Kept
nothing = record { at = record { sector = 0; offset = 0; body = 0; len = 0 }; mark = 0 }

pub is_kept_of-requires-clause-listed : goal.is_kept_of-requires-clause-listed
is_kept_of-requires-clause-listed g c = (c.requires.kept c.loop-place.place nothing c.loop-place-test.true).listed

pub returns-then-is_kept_of-clause-place : goal.returns-then-is_kept_of-clause-place
returns-then-is_kept_of-clause-place g c =
    let d : Device = g.F.Flash.device c.args.flash.now in
    let area : Area = c.args.ring.now.area in
    without-found (is_kept_of d area c.args.name.now) c.args.table.now c.loop-place.place nothing c.loop-place-test.true c.loop-place.invariant (sym c.is_kept_of.ensures ∙ c.if-is_kept_of.true)

pub loop-place-preserved : goal.loop-place-preserved
loop-place-preserved g c =
    let d : Device = g.F.Flash.device c.args.flash.now in
    let area : Area = c.args.ring.now.area in
    let other : is_kept_of (g.F.Flash.device c.args.flash.now) c.args.ring.now.area c.args.name.now (get_or c.args.table.now c.loop-place.place nothing) ≡ false =
    elim c.else-kept-mark.branch [
      | else-kept-mark-via-then-kept-mark+else-is_kept_of w ↦ sym w.is_kept_of.ensures ∙ w.if-is_kept_of.false
      | else-kept-mark-via-else-kept-mark w ↦
          marked d area c.args.name.now (get_or c.args.table.now c.loop-place.place nothing) (c.requires.kept c.loop-place.place nothing c.loop-place-test.true) (λ same. w.if-kept-mark.false (same ∙ sym c.mark_of-mark.ensures))
    ] in
    without-step (is_kept_of d area c.args.name.now) c.args.table.now c.loop-place.place nothing c.loop-place-test.true c.loop-place.invariant other

pub returns-clause-place : goal.returns-clause-place
returns-clause-place g c =
    let d : Device = g.F.Flash.device c.args.flash.now in
    let area : Area = c.args.ring.now.area in
    let all : c.loop-place.place ≡ length c.args.table.now = omega (arith, c.loop-place-test.false, c.loop-place.auto.place-end) in
    without-none (is_kept_of d area c.args.name.now) c.args.table.now c.loop-place.place all c.loop-place.invariant
