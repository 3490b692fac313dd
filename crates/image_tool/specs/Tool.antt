-- What the program does, by its status.
use Rattle.std.specs.Prelude.{◌≡◌, ◌⊎◌, Option, Some, None, List, ℕ}
use Rattle.zs_host.specs.Outside.{Outside, SameBut, failed, printed_more}
use Rattle.handlers.specs.declared.handler.HandlerKind.{HandlerKind}
use Rattle.command_words.specs.Commands.{IsCommand, IsNoCommand}
use Rattle.command_words.specs.declared.commands.Command.{Command}
use Rattle.image_jobs.specs.declared.stops.Refusal.{Refusal}
use Rattle.image_jobs.specs.declared.stops.Refusal.TheVariants.{BadSpec, NoFile, BadFile, NoLog, NoItems, NoMirror, BadArea, Unfit, BadScript}
use Rattle.image_jobs.specs.Inputs.{out_of}
use Rattle.image_jobs.specs.Jobs.{File}
use Rattle.image_jobs.specs.Refusals.{line_of, usage_line}
use Rattle.any_backend.specs.ByRole.{any_boot, any_chance, any_contents, any_damage, any_owes, any_rests, any_room, any_tears}
use Rattle.image_jobs.specs.Stages.{Stores, stores}
use Rattle.image_tool.specs.declared.status.Status.{Status}
use Rattle.image_tool.specs.declared.status.Status.TheVariants as status
use Rattle.image_tool.specs.declared.tasks.Task.{Task}
use Rattle.image_tool.specs.declared.tasks.Task.TheVariants.{Build, Settings, Log, Items, Mirror}
use Rattle.image_tool.specs.Tasks.{Causes, Does, StopsAt, task_of}
use Rattle.image_tool.specs.Report.{DeliversPart, PrintsPrefix, delivered}
use Rattle.image_tool.specs.Worlds.{World}

-- the stores of the program: each area has the store of its role
abbrev pub any_stores : Stores
any_stores =
    stores any_contents any_room any_chance any_tears any_damage any_rests any_owes any_boot

abbrev pub status_of : Refusal → Status
status_of BadSpec = status.Usage
status_of (NoFile word) = status.NoFile
status_of (BadFile at reason) = status.BadImage
status_of NoLog = status.BadImage
status_of NoItems = status.BadImage
status_of NoMirror = status.BadImage
status_of (BadArea label damage) = status.BadImage
status_of (Unfit label) = status.BadImage
status_of (BadScript n reason) = status.BadScript

-- ---- a task that was not done; `from` is the outside before, plus one fault if the host failed

-- the line of a refusal, which has its cause, was printed, in whole or in part
abbrev pub ReportsRefusal : Stores → List HandlerKind → Task → Outside → World → World → Type 0
ReportsRefusal k kinds task from old new =
    (refusal : Refusal) × Causes k kinds task old new.stage refusal
    × PrintsPrefix from new.outside (line_of refusal)

-- the text was printed, in whole or in part; or it was printed whole, and OUT may hold anything
abbrev pub ReportsPart : Stores → List HandlerKind → Task → Outside → World → World → Type 0
ReportsPart k kinds task from old new =
    (text : List ℕ) × (file : Option File) × Does k kinds task old new.stage text file
    × DeliversPart from new.outside text file

-- a part was printed and written of what the task would print and write
abbrev pub ReportsSome : Stores → List HandlerKind → Task → Outside → World → World → Type 0
ReportsSome k kinds task from old new =
    ReportsRefusal k kinds task from old new ⊎ ReportsPart k kinds task from old new

-- The host failed. Flash and handlers are as before, and nothing was printed; or a part was.
abbrev pub FailsEarly : Stores → List HandlerKind → Task → World → World → Type 0
FailsEarly k kinds task old new =
    ((new.stage ≡ old.stage) × (new.outside ≡ failed old.outside))
    ⊎ ReportsSome k kinds task (failed old.outside) old new

-- Memory ran out. The task stopped, and nothing was printed; or a part was.
abbrev pub EndsEarly : Stores → List HandlerKind → Task → World → World → Type 0
EndsEarly k kinds task old new =
    (StopsAt k kinds task old new.stage × (new.outside ≡ old.outside))
    ⊎ ReportsSome k kinds task old.outside old new

-- ---- what each status means

-- what the task does was printed and written, and nothing else
abbrev pub IsDone : Stores → List HandlerKind → Task → World → World → Type 0
IsDone k kinds task old new =
    (text : List ℕ) × (file : Option File) × Does k kinds task old new.stage text file
    × (new.outside ≡ delivered old.outside text file)

-- the line of a refusal of this status, which has its cause, was printed, and nothing else
abbrev pub IsRefused : Stores → List HandlerKind → Task → World → World → Status → Type 0
IsRefused k kinds task old new result =
    (refusal : Refusal) × Causes k kinds task old new.stage refusal × (result ≡ status_of refusal)
    × (new.outside ≡ printed_more old.outside (line_of refusal))

abbrev pub TaskEnds : Stores → List HandlerKind → Task → World → World → Status → Type 0
TaskEnds k kinds task old new status.Done = IsDone k kinds task old new
TaskEnds k kinds task old new status.HostFault = FailsEarly k kinds task old new
TaskEnds k kinds task old new status.NoMemory = EndsEarly k kinds task old new
TaskEnds k kinds task old new status.Usage = IsRefused k kinds task old new status.Usage
TaskEnds k kinds task old new status.NoFile = IsRefused k kinds task old new status.NoFile
TaskEnds k kinds task old new status.BadScript = IsRefused k kinds task old new status.BadScript
TaskEnds k kinds task old new status.BadImage = IsRefused k kinds task old new status.BadImage

-- the words are no command: the usage line was printed, in whole or in part
abbrev pub NoCommandEnds : Outside → Outside → Status → Type 0
NoCommandEnds host host' status.Usage = host' ≡ printed_more host usage_line
NoCommandEnds host host' status.HostFault = PrintsPrefix (failed host) host' usage_line
NoCommandEnds host host' status.NoMemory = PrintsPrefix host host' usage_line
NoCommandEnds host host' status.Done = ⊥
NoCommandEnds host host' status.NoFile = ⊥
NoCommandEnds host host' status.BadScript = ⊥
NoCommandEnds host host' status.BadImage = ⊥

-- The words are a command, which ended so; or they are none; or memory ran out before
-- they were read.
abbrev pub ToolEnds : Stores → List HandlerKind → List (List ℕ) → World → World → Status → Type 0
ToolEnds k kinds words old new result =
    ((c : Command) × IsCommand words c × TaskEnds k kinds (task_of c) old new result)
    ⊎ (IsNoCommand words × NoCommandEnds old.outside new.outside result × (new.stage ≡ old.stage))
    ⊎ ((result ≡ status.NoMemory) × (new.outside ≡ old.outside) × (new.stage ≡ old.stage))

-- the exit code of a status
abbrev pub exit_code : Status → ℕ
exit_code status.Done = 0
exit_code status.Usage = 2
exit_code status.BadScript = 3
exit_code status.BadImage = 4
exit_code status.HostFault = 5
exit_code status.NoMemory = 6
exit_code status.NoFile = 7

abbrev pub out_file : Task → Option (List ℕ)
out_file (Build out spec) = Some out.now
out_file (Settings job) = out_of job.output
out_file (Log image script out) = Some out.now
out_file (Items image script out) = Some out.now
out_file (Mirror image script out) = Some out.now

-- only this file may have changed
abbrev pub OnlyFile : Option (List ℕ) → Outside → Outside → Type 0
OnlyFile None host host' = host'.files ≡ host.files
OnlyFile (Some out) host host' = SameBut out host.files host'.files

-- no file but OUT changed, however the command ended
abbrev pub MayWrite : Command → Outside → Outside → Type 0
MayWrite c host host' = OnlyFile (out_file (task_of c)) host host'
