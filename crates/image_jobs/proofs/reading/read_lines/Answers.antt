use Rattle.image_jobs.proofs.ScriptText.{no_lines}
use Rattle.image_jobs.proofs.reading.read_lines.Goals as goal

pub returns-in-Err : goal.returns-in-Err
returns-in-Err g c =
    no_lines c.args.limit (g.H.Host.outside c.args.host.now) (g.H.Host.outside c.read_script_text.new.host) c.args.name.now c.in-Err.stop c.in-Err.ensures
