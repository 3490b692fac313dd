use Rattle.std.proofs.Common.{◌∙◌, sym}
use Rattle.image_file.specs.Format.{plain}
use Rattle.image_jobs.proofs.MapLemmas.{has_store, version_at}
use Rattle.image_jobs.specs.Images.{flash_of}
use Rattle.image_jobs.proofs.running.run_job.Goals as goal

pub longest_value-limit-requires-clause-some : goal.longest_value-limit-requires-clause-some
longest_value-limit-requires-clause-some g c = has_store c.in-Ok.image.map (flash_of (plain c.in-Ok.image)) c.in-Ok.ensures.lawful

pub longest_value-limit-requires-clause-versions : goal.longest_value-limit-requires-clause-versions
longest_value-limit-requires-clause-versions g c = λ i j a b at there.
    let version = version_at c.in-Ok.image.map (flash_of (plain c.in-Ok.image)) c.in-Ok.ensures.lawful in
    version i a at ∙ sym (version j b there)
