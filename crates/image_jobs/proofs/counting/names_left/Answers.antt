use Rattle.std.proofs.Common.{◌≡◌, ◌∙◌, List, sym, subst}
use Rattle.flash_sim.specs.Device.{Device, loaded_once}
use Rattle.flash_sim.specs.Sim.{device_of}
use Rattle.script_lines.specs.declared.answer.Answer.{Answer}
use Rattle.session.specs.OnMap.{IsServedMap}
use Rattle.image_file.specs.Format.{image_on}
use Rattle.image_jobs.specs.Images.{settings_of}
use Rattle.image_jobs.specs.Stages.{stores}
use Rattle.image_jobs.specs.Texts.{last_pairs, pairs_of}
use Rattle.image_jobs.proofs.Counts.{asked, not_asked}
use Rattle.image_jobs.proofs.counting.names_left.Goals as goal

pub run-ran-requires-clause-map : goal.run-ran-requires-clause-map
run-ran-requires-clause-map g c =
    let bench = g.B.Flash.device c.args.bench.now in
    subst (λ (d : Device). IsServedMap g.K.Backend.serves c.args.areas.now d) (sym c.in_ok-copy.ensures)
    (c.requires.serves c.args.areas.now (loaded_once bench) c.requires.image)

pub returns-in-Ok : goal.returns-in-Ok
returns-in-Ok g c =
    let k = stores g.K.Backend.contents g.K.Backend.room g.K.Backend.chance g.K.Backend.tears g.K.Backend.damage g.K.Backend.rests g.K.Backend.owes g.K.Backend.boot_units in
    let bench = g.B.Flash.device c.args.bench.now in
    asked k c.args.areas.now bench c.as_slice.result.now (device_of c.in_ok-copy.copy) _ _ (c.as_slice.ensures.value ∙ c.in_ok-lines.ensures) c.in_ok-copy.ensures c.in-Ok.answers _ c.in-Ok.ensures.ends.1

pub returns : goal.returns
returns g c =
    let k = stores g.K.Backend.contents g.K.Backend.room g.K.Backend.chance g.K.Backend.tears g.K.Backend.damage g.K.Backend.rests g.K.Backend.owes g.K.Backend.boot_units in
    let bench = g.B.Flash.device c.args.bench.now in
    not_asked k c.args.areas.now bench c.as_slice.result.now (device_of c.in_ok-copy.copy) _ _ (c.as_slice.ensures.value ∙ c.in_ok-lines.ensures) c.in_ok-copy.ensures
    (λ answers. last_pairs answers ≡ pairs_of (settings_of k c.args.areas.now (image_on c.args.areas.now bench))) _ c.in-Err.fault c.stop_of.result c.in-Err.ensures.ends c.stop_of.ensures
