use Rattle.std.proofs.Common.{◌≡◌, ◌∙◌, ℕ, List, sym, ap, subst, refl}
use Rattle.std.specs.Global.{Vec}
use Rattle.std.specs.Prelude.{All}
use Rattle.flash_sim.specs.Contents.{contents}
use Rattle.flash_sim.specs.Device.{Device}
use Rattle.image_file.specs.Format.{image_on, plain}
use Rattle.script_lines.specs.Answer.{CanReport}
use Rattle.script_lines.specs.declared.answer.Answer.{Answer}
use Rattle.session.specs.OnMap.{IsServedMap}
use Rattle.image_jobs.proofs.MapLemmas.{stays_image}
use Rattle.image_jobs.specs.Images.{begun, settings_of}
use Rattle.image_jobs.specs.Inputs.{reported_by}
use Rattle.image_jobs.specs.Jobs.{file_of}
use Rattle.image_jobs.specs.Stages.{stores}
use Rattle.image_jobs.proofs.Endings.{job_done, stopped, unreported, wanted}
use Rattle.image_jobs.proofs.Labels.{labelled}
use Rattle.image_jobs.proofs.running.run_on_image.Goals as goal

pub run-ran-requires-clause-map : goal.run-ran-requires-clause-map
run-ran-requires-clause-map g c =
    let bench = g.B.Flash.device c.args.bench.now in
    subst (λ (d : Device). IsServedMap g.K.Backend.serves c.args.image.map d) (sym c.in_ok-load.ensures.ok)
    (c.requires.serves c.args.image.map (begun (plain c.args.image) bench) c.requires.image)

pub returns-in-Err : goal.returns-in-Err
returns-in-Err g c = λ outside begins gives.
    let k = stores g.K.Backend.contents g.K.Backend.room g.K.Backend.chance g.K.Backend.tears g.K.Backend.damage g.K.Backend.rests g.K.Backend.owes g.K.Backend.boot_units in
    let bench = g.B.Flash.device c.args.bench.now in
    let first = g.B.Flash.device c.load.new.self in
    let bench' = g.B.Flash.device c.run-ran.new.bench in
    stopped k _ c.args.job.now outside c.args.image.banks.items (contents c.args.image.bytes.items) c.args.image.map c.args.lines.now bench bench' _ _ begins gives first c.in_ok-load.ensures.ok c.in-Err.fault c.stop_of.result c.in-Err.ensures.ends c.in-Err.ensures.serves c.stop_of.ensures

pub report_text-requires-clause-texts : goal.report_text-requires-clause-texts
report_text-requires-clause-texts g c =
    let bench = g.B.Flash.device c.args.bench.now in
    subst (All CanReport) (sym c.as_slice.ensures)
    (c.in-Ok.ensures.texts (labelled c.args.image.map (begun (plain c.args.image) bench) c.requires.image))

pub report_text-requires-clause-image : goal.report_text-requires-clause-image
report_text-requires-clause-image g c =
    let bench = g.B.Flash.device c.args.bench.now in
    stays_image c.args.image.map (begun (plain c.args.image) bench) (g.B.Flash.device c.run-ran.new.bench) c.requires.image
    (c.in-Ok.ensures.ends.1.whole.keeps.banks ∙ ap (λ (d : Device). d.banks) c.in_ok-load.ensures.ok) (g.met.B.Flash.is_lawful c.run-ran.new.bench)

pub returns-in-Err-report_text : goal.returns-in-Err-report_text
returns-in-Err-report_text g c = λ outside begins gives.
    let k = stores g.K.Backend.contents g.K.Backend.room g.K.Backend.chance g.K.Backend.tears g.K.Backend.damage g.K.Backend.rests g.K.Backend.owes g.K.Backend.boot_units in
    let bench = g.B.Flash.device c.args.bench.now in
    let first = g.B.Flash.device c.load.new.self in
    let bench' = g.B.Flash.device c.run-ran.new.bench in
    unreported k _ c.args.job.now outside c.args.image.banks.items (contents c.args.image.bytes.items) c.args.image.map c.args.lines.now bench bench' _ _ begins gives first c.in_ok-load.ensures.ok {X = Vec ℕ}
    (λ (text : Vec ℕ). text.items ≡ reported_by c.args.job.now.report c.args.lines.now c.as_slice.result.now (settings_of k c.args.image.map (image_on c.args.image.map bench'))) c.in-Ok.answers c.in-Ok.ensures.ends.0 c.in-Err-report_text.stop c.in-Ok.ensures.ends.1 c.in-Ok.ensures.undamaged c.in-Err-report_text.ensures

pub file_left-requires : goal.file_left-requires
file_left-requires g c =
    let bench = g.B.Flash.device c.args.bench.now in
    stays_image c.args.image.map (begun (plain c.args.image) bench) (g.B.Flash.device c.run-ran.new.bench) c.requires.image
    (c.in-Ok.ensures.ends.1.whole.keeps.banks ∙ ap (λ (d : Device). d.banks) c.in_ok-load.ensures.ok) (g.met.B.Flash.is_lawful c.run-ran.new.bench)

pub returns-in-Err-file_left : goal.returns-in-Err-file_left
returns-in-Err-file_left g c = λ outside begins gives.
    let k = stores g.K.Backend.contents g.K.Backend.room g.K.Backend.chance g.K.Backend.tears g.K.Backend.damage g.K.Backend.rests g.K.Backend.owes g.K.Backend.boot_units in
    let bench = g.B.Flash.device c.args.bench.now in
    let first = g.B.Flash.device c.load.new.self in
    let bench' = g.B.Flash.device c.run-ran.new.bench in
    wanted k _ c.args.job.now outside c.args.image.banks.items (contents c.args.image.bytes.items) c.args.image.map c.args.lines.now bench bench' _ _ begins gives first c.in_ok-load.ensures.ok c.in-Ok.answers c.in-Ok.ensures.ends.0 c.in-Ok.ensures.ends.1

pub returns : goal.returns
returns g c = λ outside begins gives.
    let k = stores g.K.Backend.contents g.K.Backend.room g.K.Backend.chance g.K.Backend.tears g.K.Backend.damage g.K.Backend.rests g.K.Backend.owes g.K.Backend.boot_units in
    let bench = g.B.Flash.device c.args.bench.now in
    let first = g.B.Flash.device c.load.new.self in
    let bench' = g.B.Flash.device c.run-ran.new.bench in (
      job_done k _ c.args.job.now outside c.args.image.banks.items (contents c.args.image.bytes.items) c.args.image.map c.args.lines.now bench bench' _ _ begins gives first c.in_ok-load.ensures.ok c.in-Ok.answers c.in-Ok.ensures.ends.0 c.in-Ok-report_text.text.items (file_of c.in-Ok-file_left.file)
          c.in-Ok.ensures.ends.1 c.in-Ok.ensures.undamaged c.in-Ok.ensures.rests (λ most limit owes. c.in-Ok.ensures.boots most limit owes) (c.in-Ok-report_text.ensures ∙ ap (λ (answers : List Answer). reported_by c.args.job.now.report c.args.lines.now answers (settings_of k c.args.image.map (image_on c.args.image.map bench'))) c.as_slice.ensures) c.in-Ok-file_left.ensures,
      refl,
    )
