-- How a job changes files, print, flash and handlers.
use Rattle.std.specs.Prelude.{◌≡◌, ◌⊎◌, ◌≤◌, ⊤, ℕ, true, Option, Some, None, Result, Ok, Err, List, [], ◌∷◌}
use Rattle.flash_sim.specs.Device.{counted}
use Rattle.flash_map.specs.declared.area.Area.{Area}
use Rattle.flash_map.specs.declared.faults.Damaged.{Damaged}
use Rattle.zs_host.specs.Outside.{Outside, failed}
use Rattle.handlers.specs.declared.handler.HandlerKind.{HandlerKind}
use Rattle.script_lines.specs.declared.line.Line.{Line}
use Rattle.script_lines.specs.declared.line.Line.TheVariants.{Mount}
use Rattle.script_lines.specs.declared.answer.Answer.{Answer}
use Rattle.image_file.specs.Format.{Plain}
use Rattle.image_file.specs.Reading.{IsImageFile}
use Rattle.image_file.specs.Spec.{IsSpec}
use Rattle.session_table.specs.Bench.{Moment, area_at, state_of}
use Rattle.session.specs.declared.fault.SessionFault.{SessionFault}
use Rattle.session.specs.declared.fault.SessionFault.TheVariants.{Damaged as IsDamaged, NoMemory as WantsMemory}
use Rattle.session.specs.Owing.{MountsWithin}
use Rattle.session.specs.OnMap.{Ran, RunStops, IsAtRest, limit_of, moment}
use Rattle.image_jobs.specs.declared.outcome.Outcome.{Outcome}
use Rattle.image_jobs.specs.declared.outcome.OutFile.{OutFile}
use Rattle.image_jobs.specs.declared.stops.Refusal.{Refusal}
use Rattle.image_jobs.specs.declared.stops.Refusal.TheVariants.{BadSpec, NoFile, BadFile, NoLog, NoItems, NoMirror, BadArea, Unfit, BadScript}
use Rattle.image_jobs.specs.declared.stops.Stop.{Stop}
use Rattle.image_jobs.specs.declared.stops.Stop.TheVariants.{Refused, HostFailed, NoMemory}
use Rattle.image_jobs.specs.Images.{HasAreas, OwesOf, ReadsAs, begun, boot_of, damage_of, left, settings_of}
use Rattle.image_jobs.specs.declared.jobs.Job.{Job}
use Rattle.image_jobs.specs.Inputs.{BeginsWith, LacksStart, LacksSource, GivesLines, counts_settings, out_of, reported_by}
use Rattle.image_jobs.specs.Stages.{Stage, Stores}

-- a file's name and its bytes
abbrev pub File : Type 0
File = List ℕ × List ℕ

abbrev pub file_of : Option OutFile → Option File
file_of None = None
file_of (Some file) = Some (file.name.now, file.bytes.items)

-- ---- a blank image

-- OUT is the file of the blank image that SPEC describes; nothing is printed
pub record Builds (out spec : List ℕ) (text : List ℕ) (file : Option File) : Type 0 where
  pub image : Plain
  pub described : IsSpec spec image
  pub bytes : List ℕ
  pub is_file : IsImageFile bytes image
  pub writes : file ≡ Some (out, bytes)
  pub prints : text ≡ []

-- ---- what is carried out

-- the image of a job, with its areas
pub record Opens (job : Job) (host : Outside) (image : Plain) (areas : List Area) : Type 0 where
  pub begins : BeginsWith job.start host image
  pub has : HasAreas image areas

-- the image and the lines of a job
pub record Sets (job : Job) (host : Outside) (image : Plain) (areas : List Area) (lines : List Line) :
    Type 0 where
  pub opens : Opens job host image areas
  pub gives : GivesLines job.source (limit_of areas) host lines

-- the flash just loaded with the image, and no handler taken yet
abbrev pub opening : Stage → Plain → List HandlerKind → Moment
opening old image kinds = moment (begun image old.bench) old.registry kinds

abbrev pub closing : Stage → List HandlerKind → Moment
closing new kinds = moment new.bench new.registry kinds

-- ---- done

-- the file of the image that is left, if one is to be written
abbrev pub WritesLeft : Option (List ℕ) → Plain → Option File → Type 0
WritesLeft None image file = file ≡ None
WritesLeft (Some out) image file = (bytes : List ℕ) × IsImageFile bytes image × (file ≡ Some (out, bytes))

-- THE HEADLINE. The text gives the answers that a plain map gives to the opening mount and to the
-- lines, wherever power was lost. That map begins as the map that the image reads as, in the area
-- that it names as active. OUT is the file of the image with the bytes that are left. It reads as
-- the last map, in the area that is active at the end, even if power is off. The units in the
-- answers are those that the flash spent, and its losses are the answers that report one. The
-- handlers that were registered hold what the last state says. The flash was loaded once. A summary
-- counts the settings that OUT reads as.
pub record JobDoes (k : Stores) (kinds : List HandlerKind) (job : Job) (host : Outside) (old new : Stage)
    (text : List ℕ) (file : Option File) : Type 0 where
  pub image : Plain
  pub areas : List Area
  pub lines : List Line
  pub sets : Sets job host image areas lines
  pub answers : List Answer
  pub left_kinds : List HandlerKind
  pub ran : Ran k.meanings k.damage k.rests areas (Mount ∷ lines) answers (opening old image kinds)
      (closing new left_kinds)
  pub reads : ReadsAs k areas image (state_of k.meanings areas (opening old image kinds))
  pub leaves : ReadsAs k areas (left image new.bench) (state_of k.meanings areas (closing new left_kinds))
  -- an image that shows no damage is left so, and with power on in the end the next mount
  -- has nothing to do
  pub undamaged : damage_of k areas image ≡ None → damage_of k areas (left image new.bench) ≡ None
  pub rests : new.bench.is_on ≡ true → IsAtRest k.rests areas new.bench
  -- If the image owes at most so many units and erases, and a cut line leaves no more, then no mount
  -- reports more, and the image that is left owes no more.
  pub boots : (most : ℕ) → boot_of k areas image ≤ most → OwesOf k areas image most
      → OwesOf k areas (left image new.bench) most × MountsWithin most (Mount ∷ lines) answers
  pub banks : new.bench.banks ≡ image.banks
  pub loads : new.bench.loads ≡ counted old.bench.loads 1
  pub prints : text ≡ reported_by job.report lines answers (settings_of k areas (left image new.bench))
  pub writes : WritesLeft (out_of job.output) (left image new.bench) file

-- ---- refused

-- All lines were carried out, and the settings that are left were to be counted, but the image that
-- is left shows this damage.
pub record LeavesDamage (k : Stores) (job : Job) (image : Plain) (areas : List Area) (lines : List Line)
    (old : Moment) (new : Stage) (found : ℕ × Damaged) : Type 0 where
  pub counts : counts_settings job.report ≡ true
  pub answers : List Answer
  pub left_kinds : List HandlerKind
  pub ran : Ran k.meanings k.damage k.rests areas (Mount ∷ lines) answers old (closing new left_kinds)
  pub leaves : damage_of k areas (left image new.bench) ≡ Some found

-- A mount found damage, in the selector or in the active area; or a summary found some in the image
-- that is left. The image showed some at the start, or neither would have been.
pub record FindsDamage (k : Stores) (kinds : List HandlerKind) (job : Job) (host : Outside)
    (old new : Stage) (label : List ℕ) (damage : Damaged) : Type 0 where
  pub image : Plain
  pub areas : List Area
  pub lines : List Line
  pub sets : Sets job host image areas lines
  pub place : ℕ
  pub named : label ≡ (area_at areas place).label.bytes
  pub stops : RunStops k.meanings k.damage k.rests areas (Mount ∷ lines) (opening old image kinds) new.bench
      (IsDamaged place damage)
      ⊎ LeavesDamage k job image areas lines (opening old image kinds) new (place, damage)
  pub shows : damage_of k areas image ≡ None → ⊥

abbrev pub IsDamage : Stores → List HandlerKind → Job → Outside → Stage → Stage → Refusal → Type 0
IsDamage k kinds job host old new (BadArea label damage) =
    FindsDamage k kinds job host old new label.bytes damage
IsDamage k kinds job host old new BadSpec = ⊥
IsDamage k kinds job host old new (NoFile word) = ⊥
IsDamage k kinds job host old new (BadFile at why) = ⊥
IsDamage k kinds job host old new NoLog = ⊥
IsDamage k kinds job host old new NoItems = ⊥
IsDamage k kinds job host old new NoMirror = ⊥
IsDamage k kinds job host old new (Unfit label) = ⊥
IsDamage k kinds job host old new (BadScript n why) = ⊥

-- there is an image, but no lines
pub record LacksLines (job : Job) (host : Outside) (refusal : Refusal) : Type 0 where
  pub image : Plain
  pub areas : List Area
  pub opens : Opens job host image areas
  pub lacks : LacksSource job.source (limit_of areas) host refusal

-- The causes, in the order in which they are checked: the image, the lines, and damage once the
-- flash is loaded. Except for damage, flash and handlers are as before.
abbrev pub Refuses : Stores → List HandlerKind → Job → Outside → Stage → Stage → Refusal → Type 0
Refuses k kinds job host old new refusal =
    (LacksStart job.start host refusal × (new ≡ old))
    ⊎ (LacksLines job host refusal × (new ≡ old))
    ⊎ IsDamage k kinds job host old new refusal

-- ---- stopped, since the host failed or memory ran out

-- The image was put on the flash, and the lines were carried out up to one for which memory ran
-- out, or all of them.
pub record HasBegun (k : Stores) (kinds : List HandlerKind) (job : Job) (host : Outside) (old new : Stage) :
    Type 0 where
  pub image : Plain
  pub areas : List Area
  pub lines : List Line
  pub sets : Sets job host image areas lines
  pub went : RunStops k.meanings k.damage k.rests areas (Mount ∷ lines) (opening old image kinds) new.bench
      WantsMemory
      ⊎ ((answers : List Answer) × (left_kinds : List HandlerKind)
      × Ran k.meanings k.damage k.rests areas (Mount ∷ lines) answers (opening old image kinds)
      (closing new left_kinds))

-- flash and handlers are as before, or the job had begun
abbrev pub Stops : Stores → List HandlerKind → Job → Outside → Stage → Stage → Type 0
Stops k kinds job host old new = (new ≡ old) ⊎ HasBegun k kinds job host old new

-- ---- as a whole

-- How a job ends, before anything is printed or written.
abbrev pub JobEnds : Stores → List HandlerKind → Job → Outside → Outside → Stage → Stage
    → Result Outcome Stop → Type 0
JobEnds k kinds job host host' old new (Ok outcome) =
    JobDoes k kinds job host old new outcome.text.items (file_of outcome.file) × (host' ≡ host)
JobEnds k kinds job host host' old new (Err (Refused refusal)) =
    Refuses k kinds job host old new refusal × (host' ≡ host)
JobEnds k kinds job host host' old new (Err HostFailed) = (new ≡ old) × (host' ≡ failed host)
JobEnds k kinds job host host' old new (Err NoMemory) = Stops k kinds job host old new × (host' ≡ host)

-- how a job ends if its lines stop; the label names the damaged area
abbrev pub IsStop : List Area → SessionFault → Stop → Type 0
IsStop areas (IsDamaged place damage) (Refused (BadArea label found)) =
    (label.bytes ≡ (area_at areas place).label.bytes) × (found ≡ damage)
IsStop areas WantsMemory NoMemory = ⊤
IsStop areas fault stop = ⊥

-- the refusal says which damage a mount of the image finds
abbrev pub SaysDamage : Stores → List Area → Plain → Refusal → Type 0
SaysDamage k areas image (BadArea label damage) =
    (place : ℕ) × (label.bytes ≡ (area_at areas place).label.bytes)
    × (damage_of k areas image ≡ Some (place, damage))
SaysDamage k areas image refusal = ⊥
