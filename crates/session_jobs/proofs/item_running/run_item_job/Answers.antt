use Rattle.std.proofs.Common.{ℕ, List, Err, subst}
use Rattle.std.specs.Global.{Vec}
use Rattle.flash_map.specs.declared.area.Area.{Area}
use Rattle.flash_map.specs.Area.{value_limit}
use Rattle.zs_host.specs.Outside.{Outside}
use Rattle.item_session.specs.declared.ids.Ids.{Ids}
use Rattle.item_session.specs.declared.line.Line.{Line}
use Rattle.image_jobs.specs.declared.stops.Stop.{Stop}
use Rattle.image_jobs.specs.Reading.{ReadsOr}
use Rattle.session_jobs.specs.ItemInputs.{HasLines, LacksLines}
use Rattle.session_jobs.proofs.ItemEndings.{no_lines_end}
use Rattle.session_jobs.proofs.item_running.run_item_job.Goals as goal

-- the script with these ids and this limit
abbrev Reads : Ids → ℕ → Outside → Outside → List ℕ → Stop → Type 0
Reads ids limit host host' script stop =
    ReadsOr {X = Vec Line} (λ lines. HasLines ids limit host script lines.items) (LacksLines ids limit host script) host host' (Err stop)

pub returns-in-Err-read_item_lines : goal.returns-in-Err-read_item_lines
returns-in-Err-read_item_lines g c =
    let host : Outside = g.H.Host.outside c.args.host.now in
    let mid : Outside = g.H.Host.outside c.open_items.new.host in
    let host' : Outside = g.H.Host.outside c.read_item_lines.new.host in
    let area : Area = c.in-Ok.opened.area in
    let stop : Stop = c.in-Err-read_item_lines.stop in
    let read : Reads c.ids_of-ids.result (value_limit area) mid host' c.args.script.now stop =
    subst (λ (limit : ℕ). Reads c.ids_of-ids.result limit mid host' c.args.script.now stop) c.value_limit-limit.ensures c.in-Err-read_item_lines.ensures.lines in
    no_lines_end c.args.image.now c.args.script.now c.args.out.now host mid host' (g.B.Flash.device c.args.bench.now) c.in-Ok.opened.image area stop
    c.in-Ok.ensures.image.0.0 c.in-Ok.ensures.image.0.1 c.in-Ok.ensures.image.1
    (subst (λ (ids : Ids). Reads ids (value_limit area) mid host' c.args.script.now stop) c.ids_of-ids.ensures read)
