use Rattle.std.proofs.Common.{◌∙◌, refl, sym}
use Rattle.image_file.specs.Format.{plain}
use Rattle.image_jobs.proofs.MapLemmas.{has_store, version_at}
use Rattle.image_jobs.specs.Images.{flash_of}
use Rattle.session_jobs.proofs.MirrorEndings.{lacks_lines}
use Rattle.session_jobs.proofs.mirror_running.run_mirror_job.Goals as goal

pub longest_value-limit-requires-clause-some : goal.longest_value-limit-requires-clause-some
longest_value-limit-requires-clause-some g c = has_store c.in-Ok.opened.map (flash_of (plain c.in-Ok.opened)) c.in-Ok.ensures.lawful

pub longest_value-limit-requires-clause-versions : goal.longest_value-limit-requires-clause-versions
longest_value-limit-requires-clause-versions g c = λ i j a b at there.
    let version = version_at c.in-Ok.opened.map (flash_of (plain c.in-Ok.opened)) c.in-Ok.ensures.lawful in
    version i a at ∙ sym (version j b there)

pub returns-in-Err-read_mirror_lines : goal.returns-in-Err-read_mirror_lines
returns-in-Err-read_mirror_lines g c =
    let host = g.H.Host.outside c.args.host.now in
    let mid = g.H.Host.outside c.open_mirror.new.host in
    let image = c.in-Ok.opened in
    let opened = c.in-Ok.ensures.image in
    lacks_lines c.args.image.now c.args.script.now c.args.out.now host mid (g.H.Host.outside c.read_mirror_lines.new.host) (plain image) image.map (g.B.Flash.device c.args.bench.now)
    c.longest_value-limit.result c.in-Err-read_mirror_lines.stop
    (record { has = opened.0.0; are = record { version = refl; are = refl }; mirrored = opened.0.1 }) opened.1 c.longest_value-limit.ensures c.in-Err-read_mirror_lines.ensures.lines
