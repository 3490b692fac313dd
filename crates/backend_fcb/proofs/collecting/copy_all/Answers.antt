use Rattle.std.proofs.Common.{◌≡◌, List, take, subst, ◌∙◌, arith}
use Rattle.flash_sim.specs.Device.{Device}
use Rattle.flash_map.proofs.PieceLemmas.{on_err}
use Rattle.std.proofs.lemmas.List.{take_all}
use Rattle.fcb_ring.specs.declared.ring.Ring.{Ring}
use Rattle.backend_fcb.specs.Changing.{Copies}
use Rattle.backend_fcb.specs.Compaction.{bodies_at}
use Rattle.backend_fcb.specs.declared.compaction.Kept.{Kept}
use Rattle.backend_fcb.proofs.CopySteps.{table-start, table-listed, table-oldest, table-short, table-fits, table-step, table-stops, table-kept, table-others, table-lost}
use Rattle.backend_fcb.proofs.collecting.copy_all.Goals as goal

abbrev nothing : Kept
nothing = record { at = record { sector = 0; offset = 0; body = 0; len = 0 }; mark = 0 }

pub loop-kept-init : goal.loop-kept-init
loop-kept-init g c = table-start (g.F.Flash.device c.args.flash.now) c.args.ring.now (g.met.F.Flash.is_lawful c.args.flash.now) c.requires.stands c.requires.collecting

pub copy-requires : goal.copy-requires
copy-requires g c =
    let a : Device = g.F.Flash.device c.args.flash.now in
    let d : Device = g.F.Flash.device c.loop-kept.flash in
    let before : Ring = c.args.ring.now in
    let now : Ring = c.loop-kept.ring in
    let lawful = g.met.F.Flash.is_lawful c.args.flash.now in
    let lawful-now = g.met.F.Flash.is_lawful c.loop-kept.flash in
    record {
      stands = c.loop-kept.invariant.copies.stands;
      collecting = c.loop-kept.invariant.copies.stage;
      listed = table-listed a d before now c.args.live.now c.loop-kept.kept-index c.loop-kept.invariant lawful lawful-now c.requires.stands nothing c.loop-kept-test.true c.requires.live.kept;
      of_oldest = table-oldest a d before now c.args.live.now c.loop-kept.kept-index c.loop-kept.invariant lawful lawful-now c.requires.stands nothing c.loop-kept-test.true c.requires.live.kept c.requires.live.of_oldest;
      short = table-short a d before now c.args.live.now c.loop-kept.kept-index c.loop-kept.invariant lawful lawful-now c.requires.stands nothing c.loop-kept-test.true c.requires.live.kept c.requires.live.short;
      fits = table-fits a d before now c.args.live.now c.loop-kept.kept-index c.loop-kept.invariant lawful lawful-now c.requires.stands nothing c.loop-kept-test.true c.requires.live.kept c.requires.live.fits;
    }

pub loop-kept-preserved : goal.loop-kept-preserved
loop-kept-preserved g c =
    let a : Device = g.F.Flash.device c.args.flash.now in
    let d : Device = g.F.Flash.device c.loop-kept.flash in
    let before : Ring = c.args.ring.now in
    let now : Ring = c.loop-kept.ring in
    let lawful = g.met.F.Flash.is_lawful c.args.flash.now in
    let lawful-now = g.met.F.Flash.is_lawful c.loop-kept.flash in
    let e : Device = g.F.Flash.device c.copy.new.flash in
    table-step a d before now c.args.live.now c.loop-kept.kept-index c.loop-kept.invariant lawful lawful-now c.requires.stands nothing c.loop-kept-test.true c.requires.live.kept e c.copy.new.self c.in_ok-copy.ensures.touches c.in_ok-copy.ensures.copied

pub returns-in_err-copy-clause-stops : goal.returns-in_err-copy-clause-stops
returns-in_err-copy-clause-stops g c =
    let a : Device = g.F.Flash.device c.args.flash.now in
    let d : Device = g.F.Flash.device c.loop-kept.flash in
    let before : Ring = c.args.ring.now in
    let now : Ring = c.loop-kept.ring in
    let lawful = g.met.F.Flash.is_lawful c.args.flash.now in
    let lawful-now = g.met.F.Flash.is_lawful c.loop-kept.flash in
    let e : Device = g.F.Flash.device c.copy.new.flash in
    on_err c.from_residual.result (table-stops a d before now c.args.live.now c.loop-kept.kept-index c.loop-kept.invariant lawful lawful-now c.requires.stands nothing c.loop-kept-test.true c.requires.live.kept e c.copy.new.self c.requires.live.fits c.in_err-copy.ensures.stopped)

pub returns-in_err-copy-clause-lost : goal.returns-in_err-copy-clause-lost
returns-in_err-copy-clause-lost g c =
    let a : Device = g.F.Flash.device c.args.flash.now in
    let d : Device = g.F.Flash.device c.loop-kept.flash in
    let before : Ring = c.args.ring.now in
    let now : Ring = c.loop-kept.ring in
    let lawful = g.met.F.Flash.is_lawful c.args.flash.now in
    let lawful-now = g.met.F.Flash.is_lawful c.loop-kept.flash in
    let e : Device = g.F.Flash.device c.copy.new.flash in
    on_err c.from_residual.result (table-lost a d before now c.args.live.now c.loop-kept.kept-index c.loop-kept.invariant lawful lawful-now c.requires.stands nothing c.loop-kept-test.true c.requires.live.kept e c.copy.new.self c.in_err-copy.ensures.stopped)

pub returns-in_err-copy-clause-only : goal.returns-in_err-copy-clause-only
returns-in_err-copy-clause-only g c =
    let a : Device = g.F.Flash.device c.args.flash.now in
    let d : Device = g.F.Flash.device c.loop-kept.flash in
    let before : Ring = c.args.ring.now in
    let now : Ring = c.loop-kept.ring in
    let lawful = g.met.F.Flash.is_lawful c.args.flash.now in
    let lawful-now = g.met.F.Flash.is_lawful c.loop-kept.flash in
    let e : Device = g.F.Flash.device c.copy.new.flash in
    record {
      list = table-kept a d before now c.args.live.now c.loop-kept.kept-index c.loop-kept.invariant lawful lawful-now c.requires.stands nothing c.loop-kept-test.true c.requires.live.kept e c.copy.new.self c.in_err-copy.ensures.stopped.list;
      others = table-others a d before now c.args.live.now c.loop-kept.kept-index c.loop-kept.invariant lawful lawful-now c.requires.stands nothing c.loop-kept-test.true c.requires.live.kept e c.copy.new.self c.in_err-copy.ensures.stopped.others;
      area = c.in_err-copy.ensures.stopped.area ∙ c.loop-kept.invariant.area;
      reserve = c.in_err-copy.ensures.stopped.reserve ∙ c.loop-kept.invariant.reserve;
    }

pub returns-clause-copies : goal.returns-clause-copies
returns-clause-copies g c =
    let a : Device = g.F.Flash.device c.args.flash.now in
    let d : Device = g.F.Flash.device c.loop-kept.flash in
    let before : Ring = c.args.ring.now in
    let now : Ring = c.loop-kept.ring in
    let lawful = g.met.F.Flash.is_lawful c.args.flash.now in
    let lawful-now = g.met.F.Flash.is_lawful c.loop-kept.flash in
    let all : take c.loop-kept.kept-index c.args.live.now ≡ c.args.live.now = take_all c.loop-kept.kept-index c.args.live.now (omega (arith, c.loop-kept-test.false)) in
    subst (λ (l : List Kept). Copies a d before now (bodies_at a before.area l)) all c.loop-kept.invariant.copies

pub returns-clause-only : goal.returns-clause-only
returns-clause-only g c =
    let done = c.loop-kept.invariant in
    record { list = done.list; others = done.others; area = done.area; reserve = done.reserve }
