-- What a command does before anything is printed or written, or why it does not.
use Rattle.std.specs.Prelude.{◌≡◌, ℕ, Option, Result, Ok, Err, List}
use Rattle.zs_host.specs.Outside.{failed}
use Rattle.handlers.specs.declared.handler.HandlerKind.{HandlerKind}
use Rattle.command_words.specs.declared.commands.Command.{Command}
use Rattle.command_words.specs.declared.commands.Command.TheVariants as command
use Rattle.session_jobs.specs.ItemJobs.{ItemJobDoes, RefusesItems, StopsItems}
use Rattle.session_jobs.specs.LogJobs.{LogJobDoes, RefusesLog, StopsLog}
use Rattle.session_jobs.specs.MirrorJobs.{MirrorJobDoes, RefusesMirror, StopsMirror}
use Rattle.image_jobs.specs.declared.outcome.Outcome.{Outcome}
use Rattle.image_jobs.specs.declared.jobs.Start.TheVariants.{File as FromFile, Blank}
use Rattle.image_jobs.specs.declared.jobs.Source.TheVariants.{Script, Names, Migration, Generated}
use Rattle.image_jobs.specs.declared.jobs.Report.TheVariants.{All, Last, Summary}
use Rattle.image_jobs.specs.declared.jobs.Output.TheVariants.{Nowhere, Into}
use Rattle.image_jobs.specs.declared.stops.Refusal.{Refusal}
use Rattle.image_jobs.specs.declared.stops.Stop.{Stop}
use Rattle.image_jobs.specs.declared.stops.Stop.TheVariants.{Refused, HostFailed, NoMemory}
use Rattle.image_jobs.specs.Inputs.{LacksSpec}
use Rattle.image_jobs.specs.Jobs.{Builds, File, JobDoes, Refuses, Stops, file_of}
use Rattle.image_jobs.specs.Stages.{Stage, Stores}
use Rattle.image_tool.specs.declared.tasks.Task.{Task}
use Rattle.image_tool.specs.declared.tasks.Task.TheVariants.{Build, Settings as ToJob, Log, Items, Mirror}
use Rattle.image_tool.specs.Worlds.{World}

-- `run` carries out a script. `dump` asks for the names, and prints that answer only. `migrate`
-- mounts and migrates. `gen` carries out a generated script on a blank image, and prints its
-- summary. `log` carries out a script on a log, `items` one on items, and `mirror` one on a mirror.
abbrev pub task_of : Command → Task
task_of (command.Build out spec) = Build out spec
task_of (command.Run image script out) =
    ToJob (record { start = FromFile image; source = Script script; report = All; output = Into out })
task_of (command.Dump image) =
    ToJob (record { start = FromFile image; source = Names; report = Last; output = Nowhere })
task_of (command.Migrate image out) =
    ToJob (record { start = FromFile image; source = Migration; report = All; output = Into out })
task_of (command.Gen out backend n) =
    ToJob
    (record { start = Blank backend; source = Generated n; report = Summary backend n; output = Into out })
task_of (command.Log image script out) = Log image script out
task_of (command.Items image script out) = Items image script out
task_of (command.Mirror image script out) = Mirror image script out

-- this text is printed, and this file is written, if any
abbrev pub Does : Stores → List HandlerKind → Task → World → Stage → List ℕ → Option File → Type 0
Does k kinds (Build out spec) old new text file = Builds out.now spec.now text file × (new ≡ old.stage)
Does k kinds (ToJob job) old new text file = JobDoes k kinds job old.outside old.stage new text file
Does k kinds (Log image script out) old new text file =
    LogJobDoes image.now script.now out.now old.outside old.stage.bench new.bench text file
    × (new.registry ≡ old.stage.registry)
Does k kinds (Items image script out) old new text file =
    ItemJobDoes image.now script.now out.now old.outside old.stage.bench new.bench text file
    × (new.registry ≡ old.stage.registry)
Does k kinds (Mirror image script out) old new text file =
    MirrorJobDoes image.now script.now out.now old.outside old.stage.bench new.bench text file
    × (new.registry ≡ old.stage.registry)

-- the task is refused for this cause
abbrev pub Causes : Stores → List HandlerKind → Task → World → Stage → Refusal → Type 0
Causes k kinds (Build out spec) old new refusal = LacksSpec spec.now refusal × (new ≡ old.stage)
Causes k kinds (ToJob job) old new refusal = Refuses k kinds job old.outside old.stage new refusal
Causes k kinds (Log image script out) old new refusal =
    RefusesLog image.now script.now old.outside old.stage.bench new.bench refusal
    × (new.registry ≡ old.stage.registry)
Causes k kinds (Items image script out) old new refusal =
    RefusesItems image.now script.now old.outside old.stage.bench new.bench refusal
    × (new.registry ≡ old.stage.registry)
Causes k kinds (Mirror image script out) old new refusal =
    RefusesMirror image.now script.now old.outside old.stage.bench new.bench refusal
    × (new.registry ≡ old.stage.registry)

-- the task stopped, since memory ran out
abbrev pub StopsAt : Stores → List HandlerKind → Task → World → Stage → Type 0
StopsAt k kinds (Build out spec) old new = new ≡ old.stage
StopsAt k kinds (ToJob job) old new = Stops k kinds job old.outside old.stage new
StopsAt k kinds (Log image script out) old new =
    StopsLog image.now script.now old.outside old.stage.bench new.bench × (new.registry ≡ old.stage.registry)
StopsAt k kinds (Items image script out) old new =
    StopsItems image.now script.now old.outside old.stage.bench new.bench
    × (new.registry ≡ old.stage.registry)
StopsAt k kinds (Mirror image script out) old new =
    StopsMirror image.now script.now old.outside old.stage.bench new.bench
    × (new.registry ≡ old.stage.registry)

-- How a task ends, before anything is printed or written. If the host fails, the flash is not loaded
-- yet, and no handler is taken.
abbrev pub Prepares : Stores → List HandlerKind → Task → World → World → Result Outcome Stop → Type 0
Prepares k kinds task old new (Ok outcome) =
    Does k kinds task old new.stage outcome.text.items (file_of outcome.file) × (new.outside ≡ old.outside)
Prepares k kinds task old new (Err (Refused refusal)) =
    Causes k kinds task old new.stage refusal × (new.outside ≡ old.outside)
Prepares k kinds task old new (Err HostFailed) =
    (new.stage ≡ old.stage) × (new.outside ≡ failed old.outside)
Prepares k kinds task old new (Err NoMemory) =
    StopsAt k kinds task old new.stage × (new.outside ≡ old.outside)
