-- A script whose text is not there.
use Rattle.std.proofs.Common.{ℕ, List, Err, inr}
use Rattle.std.specs.Global.{Vec}
use Rattle.script_lines.specs.declared.line.Line.{Line}
use Rattle.zs_host.specs.Outside.{Outside}
use Rattle.image_jobs.specs.declared.stops.Refusal.{Refusal}
use Rattle.image_jobs.specs.declared.stops.Refusal.TheVariants.{BadSpec, NoFile, BadFile, NoLog, NoItems, NoMirror, BadArea, Unfit, BadScript}
use Rattle.image_jobs.specs.declared.stops.Stop.{Stop}
use Rattle.image_jobs.specs.declared.stops.Stop.TheVariants.{Refused, HostFailed, NoMemory}
use Rattle.image_jobs.specs.Reading.{HasScript, HasShortFile, LacksScript, LacksText, ReadsOr, most_script}

lacks_script : (limit : ℕ) (host : Outside) (name : List ℕ) (refusal : Refusal) → LacksText host name refusal → LacksScript limit host name refusal
lacks_script limit host name (NoFile word) lacks = lacks
lacks_script limit host name (BadScript n why) lacks = inr lacks
lacks_script limit host name BadSpec lacks = lacks
lacks_script limit host name (BadFile at why) lacks = lacks
lacks_script limit host name NoLog lacks = lacks
lacks_script limit host name NoItems lacks = lacks
lacks_script limit host name NoMirror lacks = lacks
lacks_script limit host name (BadArea label damage) lacks = lacks
lacks_script limit host name (Unfit label) lacks = lacks

-- so there are no lines either
pub no_lines : (limit : ℕ) (host host' : Outside) (name : List ℕ) (stop : Stop)
    → ReadsOr {X = Vec ℕ} (λ text. HasShortFile host name most_script text.items) (LacksText host name) host host' (Err stop)
    → ReadsOr {X = Vec Line} (λ lines. HasScript limit host name lines.items) (LacksScript limit host name) host host' (Err stop)
no_lines limit host host' name (Refused refusal) reads = (lacks_script limit host name refusal reads.0, reads.1)
no_lines limit host host' name HostFailed reads = reads
no_lines limit host host' name NoMemory reads = reads
