-- Scripts without lines.
use Rattle.std.proofs.Common.{ℕ, List, Err, inl}
use Rattle.std.specs.Global.{Vec}
use Rattle.zs_host.specs.Outside.{Outside}
use Rattle.mirror_session.specs.declared.line.Line.{Line}
use Rattle.image_jobs.specs.declared.stops.Stop.{Stop}
use Rattle.image_jobs.specs.declared.stops.Stop.TheVariants.{Refused, HostFailed, NoMemory}
use Rattle.image_jobs.specs.Reading.{HasShortFile, LacksText, ReadsOr, most_script}
use Rattle.session_jobs.specs.MirrorInputs.{HasLines, LacksLines}

-- without a text there are no lines
pub no_lines : (limit : ℕ) (host host' : Outside) (name : List ℕ) (stop : Stop)
    → ReadsOr {X = Vec ℕ} (λ text. HasShortFile host name most_script text.items) (LacksText host name) host host' (Err stop)
    → ReadsOr {X = Vec Line} (λ lines. HasLines limit host name lines.items) (LacksLines limit host name) host host' (Err stop)
no_lines limit host host' name (Refused refusal) reads = (inl reads.0, reads.1)
no_lines limit host host' name HostFailed reads = reads
no_lines limit host host' name NoMemory reads = reads
