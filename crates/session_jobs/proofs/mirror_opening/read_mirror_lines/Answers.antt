use Rattle.mirror_session.proofs.ServedLemmas.{lines_are_served}
use Rattle.session_jobs.proofs.MirrorInputLemmas.{no_lines}
use Rattle.session_jobs.proofs.mirror_opening.read_mirror_lines.Goals as goal

pub returns-in-Err-clause-lines : goal.returns-in-Err-clause-lines
returns-in-Err-clause-lines g c =
    no_lines c.args.limit (g.H.Host.outside c.args.host.now) (g.H.Host.outside c.read_script_text.new.host) c.args.name.now c.in-Err.stop c.in-Err.ensures

pub returns-in-Ok-read_script-clause-served : goal.returns-in-Ok-read_script-clause-served
returns-in-Ok-read_script-clause-served g c = lines_are_served c.args.limit c.as_slice.result.now c.in-Ok-read_script.lines.items c.in-Ok-read_script.ensures
