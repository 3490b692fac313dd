-- When a command is carried out, unless the host fails or memory runs out.
use Rattle.std.specs.Prelude.{◌≡◌, ⊤, ℕ, None, IsSome, List}
use Rattle.flash_map.specs.declared.area.Area.{Area}
use Rattle.zs_host.specs.Outside.{Outside}
use Rattle.handlers.specs.declared.handler.HandlerKind.{HandlerKind}
use Rattle.command_words.specs.Commands.{IsCommand, IsNoCommand}
use Rattle.command_words.specs.declared.commands.Command.{Command}
use Rattle.command_words.specs.declared.commands.StoreKind.{StoreKind}
use Rattle.session.specs.OnMap.{limit_of}
use Rattle.script_lines.specs.declared.line.Line.{Line}
use Rattle.image_file.specs.Format.{Plain}
use Rattle.image_file.specs.Spec.{IsSpec}
use Rattle.flash_map.specs.Area.{value_limit}
use Rattle.item_session.specs.declared.line.Line.{Line as ItemLine}
use Rattle.log_session.specs.declared.line.Line.{Line as LogLine}
use Rattle.session_jobs.specs.ItemInputs.{HasLines as HasItemLines, ids_of}
use Rattle.session_jobs.specs.ItemJobs.{OpensItems, damage_in as item_damage_in}
use Rattle.session_jobs.specs.LogInputs.{HasLines}
use Rattle.session_jobs.specs.LogJobs.{OpensLog, damage_in}
use Rattle.mirror_session.specs.declared.line.Line.{Line as MirrorLine}
use Rattle.session_jobs.specs.MirrorInputs.{AreMirrored, HasLines as HasMirrorLines}
use Rattle.session_jobs.specs.MirrorJobs.{FitsImage, damage_in as mirror_damage}
use Rattle.image_jobs.specs.declared.jobs.Job.{Job}
use Rattle.image_jobs.specs.declared.jobs.Start.TheVariants.{Blank}
use Rattle.image_jobs.specs.declared.stops.Refusal.{Refusal}
use Rattle.image_jobs.specs.Images.{HasAreas, damage_of}
use Rattle.image_jobs.specs.Reading.{HasImage}
use Rattle.image_jobs.specs.Inputs.{BeginsWith, LacksStart, GivesLines, blank_spec}
use Rattle.image_jobs.specs.Stages.{Stores}
use Rattle.image_tool.specs.declared.status.Status.{Status}
use Rattle.image_tool.specs.declared.status.Status.TheVariants as status
use Rattle.image_tool.specs.declared.tasks.Task.{Task}
use Rattle.image_tool.specs.declared.tasks.Task.TheVariants.{Build, Settings, Log, Items, Mirror}
use Rattle.image_tool.specs.Tasks.{task_of}
use Rattle.image_tool.specs.Tool.{ToolEnds, any_stores}
use Rattle.image_tool.specs.Worlds.{World}

-- The host shows its files, and the job begins with an image that shows no damage, and has lines to
-- carry out. Lists of the areas of one image differ only in the unused bytes of their labels.
pub record IsSound (k : Stores) (job : Job) (host : Outside) : Type 0 where
  pub known : IsSome host.files
  pub image : Plain
  pub begins : BeginsWith job.start host image
  pub undamaged : (areas : List Area) → HasAreas image areas → damage_of k areas image ≡ None
  pub reads : (areas : List Area) → HasAreas image areas
      → (lines : List Line) × GivesLines job.source (limit_of areas) host lines

-- The host shows its files, IMAGE is an image with a log and shows no damage, and SCRIPT has
-- lines to carry out.
pub record IsSoundLog (name script : List ℕ) (host : Outside) : Type 0 where
  pub known : IsSome host.files
  pub image : Plain
  pub area : Area
  pub opens : OpensLog name host image area
  pub undamaged : damage_in image area ≡ None
  pub lines : List LogLine
  pub reads : HasLines (value_limit area) host script lines

-- The host shows its files, IMAGE is an image with items and shows no damage, and SCRIPT has
-- lines to carry out.
pub record IsSoundItems (name script : List ℕ) (host : Outside) : Type 0 where
  pub known : IsSome host.files
  pub image : Plain
  pub area : Area
  pub opens : OpensItems name host image area
  pub undamaged : item_damage_in image area ≡ None
  pub lines : List ItemLine
  pub reads : HasItemLines (ids_of area.role) (value_limit area) host script lines

-- The host shows its files, and IMAGE is an image with a mirror. It shows no damage, in
-- its selector and in the area that is read, its settings fit both areas, and SCRIPT has
-- lines to carry out.
pub record IsSoundMirror (name script : List ℕ) (host : Outside) : Type 0 where
  pub known : IsSome host.files
  pub image : Plain
  pub has : HasImage host name image
  pub mirrored : AreMirrored image.areas
  pub reads : (areas : List Area) → HasAreas image areas
      → (lines : List MirrorLine) × HasMirrorLines (limit_of areas) host script lines
  pub undamaged : (areas : List Area) → HasAreas image areas → mirror_damage areas image ≡ None
  pub fits : (areas : List Area) → HasAreas image areas → FitsImage areas image

-- the files of the task are sound
abbrev pub IsSoundTask : Stores → Task → Outside → Type 0
IsSoundTask k (Build out spec) host = (image : Plain) × IsSpec spec.now image
IsSoundTask k (Settings job) host = IsSound k job host
IsSoundTask k (Log image script out) host = IsSoundLog image.now script.now host
IsSoundTask k (Items image script out) host = IsSoundItems image.now script.now host
IsSoundTask k (Mirror image script out) host = IsSoundMirror image.now script.now host

-- done, unless the host failed or memory ran out
abbrev pub IsCarriedOut : Status → Type 0
IsCarriedOut status.Done = ⊤
IsCarriedOut status.HostFault = ⊤
IsCarriedOut status.NoMemory = ⊤
IsCarriedOut status.Usage = ⊥
IsCarriedOut status.BadScript = ⊥
IsCarriedOut status.BadImage = ⊥
IsCarriedOut status.NoFile = ⊥

-- Words that are a command on sound files are not refused.
abbrev pub SoundIsCarriedOut : Type 0
SoundIsCarriedOut =
    (kinds : List HandlerKind) (words : List (List ℕ)) (old new : World) (result : Status)
    → (IsNoCommand words → ⊥)
    → ((c : Command) → IsCommand words c → IsSoundTask any_stores (task_of c) old.outside)
    → ToolEnds any_stores kinds words old new result → IsCarriedOut result

-- The word of each blank image on which a generated script runs is lawful, so `gen` is never
-- refused for it.
abbrev pub BlanksAreLawful : Type 0
BlanksAreLawful = (kind : StoreKind) → (image : Plain) × IsSpec (blank_spec kind) image

abbrev pub BlanksAreNotRefused : Type 0
BlanksAreNotRefused =
    (kind : StoreKind) (host : Outside) (refusal : Refusal) → LacksStart (Blank kind) host refusal → ⊥
