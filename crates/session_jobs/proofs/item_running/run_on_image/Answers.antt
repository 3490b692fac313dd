use Rattle.std.proofs.Common.{◌∙◌, refl, sym, ap, subst}
use Rattle.flash_sim.specs.Contents.{contents}
use Rattle.flash_sim.specs.Device.{Device}
use Rattle.image_file.specs.Format.{plain}
use Rattle.image_jobs.proofs.MapLemmas.{stays_image}
use Rattle.image_jobs.specs.Images.{begun}
use Rattle.image_jobs.specs.Jobs.{file_of}
use Rattle.session_jobs.specs.ItemJobs.{ServesItems, texts}
use Rattle.session_jobs.proofs.ItemAreaLemmas.{serves_items}
use Rattle.session_jobs.proofs.ItemEndings.{job_done, stopped, wanted}
use Rattle.session_jobs.proofs.ReportLemmas.{each_has_text}
use Rattle.session_jobs.proofs.item_running.run_on_image.Goals as goal

pub run_by_role-ran-requires-clause-serves : goal.run_by_role-ran-requires-clause-serves
run_by_role-ran-requires-clause-serves g c =
    let bench = g.B.Flash.device c.args.bench.now in
    subst (λ (d : Device). ServesItems d c.args.opened.area) (sym c.in_ok-load.ensures.ok)
    (serves_items c.args.opened.image.map c.args.opened.area (begun (plain c.args.opened.image) bench) c.requires.image c.requires.area)

pub returns-in-Err : goal.returns-in-Err
returns-in-Err g c = λ outside name script has gives.
    let bench = g.B.Flash.device c.args.bench.now in
    let first = g.B.Flash.device c.load.new.self in
    let bench' = g.B.Flash.device c.run_by_role-ran.new.bench in
    let image = c.args.opened.image in
    stopped name script c.args.out.now outside image.banks.items (contents image.bytes.items) image.map c.args.opened.area c.requires.area c.args.lines.now bench bench' has gives first c.in_ok-load.ensures.ok
    c.in-Err.fault c.stop_of.result c.in-Err.ensures.ends c.stop_of.ensures

pub outcome_of-requires-clause-texts : goal.outcome_of-requires-clause-texts
outcome_of-requires-clause-texts g c = each_has_text c.as_slice.result.now

pub returns : goal.returns
returns g c = λ outside name script has gives.
    let bench = g.B.Flash.device c.args.bench.now in
    let first = g.B.Flash.device c.load.new.self in
    let bench' = g.B.Flash.device c.run_by_role-ran.new.bench in
    let image = c.args.opened.image in
    wanted name script c.args.out.now outside image.banks.items (contents image.bytes.items) image.map c.args.opened.area c.requires.area c.args.lines.now bench bench' has gives first c.in_ok-load.ensures.ok
    c.in-Ok.answers c.in-Ok.ensures.ends.1

pub outcome_of-requires-clause-image : goal.outcome_of-requires-clause-image
outcome_of-requires-clause-image g c =
    let bench = g.B.Flash.device c.args.bench.now in
    stays_image c.args.opened.image.map (begun (plain c.args.opened.image) bench) (g.B.Flash.device c.run_by_role-ran.new.bench) c.requires.image
    (c.in-Ok.ensures.ends.1.whole.keeps.banks ∙ ap (λ (d : Device). d.banks) c.in_ok-load.ensures.ok) (g.met.B.Flash.is_lawful c.run_by_role-ran.new.bench)

pub returns-in-Ok-outcome_of : goal.returns-in-Ok-outcome_of
returns-in-Ok-outcome_of g c = λ outside name script has gives.
    let bench = g.B.Flash.device c.args.bench.now in
    let first = g.B.Flash.device c.load.new.self in
    let bench' = g.B.Flash.device c.run_by_role-ran.new.bench in
    let image = c.args.opened.image in (
      job_done name script c.args.out.now outside image.banks.items (contents image.bytes.items) image.map c.args.opened.area c.requires.area c.args.lines.now bench bench' has gives first c.in_ok-load.ensures.ok
          c.in-Ok.answers c.in-Ok-outcome_of.outcome.text.items (file_of c.in-Ok-outcome_of.outcome.file) (g.met.B.Flash.is_lawful c.load.new.self)
          (serves_items image.map c.args.opened.area (begun (plain image) bench) c.requires.image c.requires.area) c.in-Ok.ensures.ends.0 c.in-Ok.ensures.ends.1 c.in-Ok.ensures.undamaged c.in-Ok.ensures.left c.in-Ok.ensures.rests
          (c.in-Ok-outcome_of.ensures.text ∙ ap texts c.as_slice.ensures) c.in-Ok-outcome_of.ensures.file,
      refl,
    )
