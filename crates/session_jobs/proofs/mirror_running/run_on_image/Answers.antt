use Rattle.std.proofs.Common.{◌∙◌, refl, sym, ap, subst}
use Rattle.std.specs.Prelude.{All}
use Rattle.flash_sim.specs.Contents.{contents}
use Rattle.flash_sim.specs.Device.{Device}
use Rattle.any_backend.specs.ByRole.{any_serves}
use Rattle.image_file.specs.Format.{plain}
use Rattle.image_jobs.proofs.Labels.{labelled}
use Rattle.image_jobs.proofs.MapLemmas.{stays_image}
use Rattle.image_jobs.specs.Images.{begun}
use Rattle.image_jobs.specs.Jobs.{file_of}
use Rattle.mirror.specs.Trusted.{IsMirrorMap}
use Rattle.mirror_session.specs.Answer.{CanReport}
use Rattle.mirror_session.proofs.PlaceLemmas.{map_kept}
use Rattle.session_jobs.specs.MirrorJobs.{texts}
use Rattle.session_jobs.proofs.MirrorAreaLemmas.{is_mirror_map}
use Rattle.session_jobs.proofs.MirrorEndings.{job_done, stopped, wanted}
use Rattle.session_jobs.proofs.mirror_running.run_on_image.Goals as goal

pub run-ran-requires-clause-map : goal.run-ran-requires-clause-map
run-ran-requires-clause-map g c =
    let bench = g.B.Flash.device c.args.bench.now in
    subst (λ (d : Device). IsMirrorMap any_serves c.args.image.map d) (sym c.in_ok-load.ensures.ok)
    (is_mirror_map c.args.image.map (begun (plain c.args.image) bench) c.requires.image c.requires.mirrored)

pub returns-in-Err : goal.returns-in-Err
returns-in-Err g c = λ outside name script has gives.
    let bench = g.B.Flash.device c.args.bench.now in
    let first = g.B.Flash.device c.load.new.self in
    let bench' = g.B.Flash.device c.run-ran.new.bench in
    let image = c.args.image in
    stopped name script c.args.out.now outside image.banks.items (contents image.bytes.items) image.map c.args.lines.now bench bench' c.requires.mirrored has gives first c.in_ok-load.ensures.ok
    c.in-Err.fault c.stop_of.result c.in-Err.ensures.ends c.stop_of.ensures

pub outcome_of-requires-clause-texts : goal.outcome_of-requires-clause-texts
outcome_of-requires-clause-texts g c =
    let bench = g.B.Flash.device c.args.bench.now in
    subst (All CanReport) (sym c.as_slice.ensures)
    (c.in-Ok.ensures.texts (labelled c.args.image.map (begun (plain c.args.image) bench) c.requires.image))

pub returns : goal.returns
returns g c = λ outside name script has gives.
    let bench = g.B.Flash.device c.args.bench.now in
    let first = g.B.Flash.device c.load.new.self in
    let bench' = g.B.Flash.device c.run-ran.new.bench in
    let image = c.args.image in
    wanted name script c.args.out.now outside image.banks.items (contents image.bytes.items) image.map c.args.lines.now bench bench' c.requires.mirrored has gives first c.in_ok-load.ensures.ok
    c.in-Ok.answers c.in-Ok.ensures.ends.0 c.in-Ok.ensures.ends.1

pub outcome_of-requires-clause-image : goal.outcome_of-requires-clause-image
outcome_of-requires-clause-image g c =
    let bench = g.B.Flash.device c.args.bench.now in
    stays_image c.args.image.map (begun (plain c.args.image) bench) (g.B.Flash.device c.run-ran.new.bench) c.requires.image
    (c.in-Ok.ensures.ends.1.keeps.banks ∙ ap (λ (d : Device). d.banks) c.in_ok-load.ensures.ok) (g.met.B.Flash.is_lawful c.run-ran.new.bench)

pub returns-in-Ok-outcome_of : goal.returns-in-Ok-outcome_of
returns-in-Ok-outcome_of g c = λ outside name script has gives.
    let bench = g.B.Flash.device c.args.bench.now in
    let first = g.B.Flash.device c.load.new.self in
    let bench' = g.B.Flash.device c.run-ran.new.bench in
    let image = c.args.image in (
      job_done name script c.args.out.now outside image.banks.items (contents image.bytes.items) image.map c.args.lines.now bench bench' c.requires.mirrored has gives first c.in_ok-load.ensures.ok
          c.in-Ok.answers c.in-Ok.ensures.ends.0 c.in-Ok-outcome_of.outcome.text.items (file_of c.in-Ok-outcome_of.outcome.file)
          (map_kept any_serves image.map (begun (plain image) bench) bench' (c.in-Ok.ensures.ends.1.keeps.banks ∙ ap (λ (d : Device). d.banks) c.in_ok-load.ensures.ok) (is_mirror_map image.map (begun (plain image) bench) c.requires.image c.requires.mirrored)) c.in-Ok.ensures.ends.1 c.in-Ok.ensures.ends.2 c.in-Ok.ensures.boots
          (c.in-Ok-outcome_of.ensures.text ∙ ap texts c.as_slice.ensures) c.in-Ok-outcome_of.ensures.file,
      refl,
    )
