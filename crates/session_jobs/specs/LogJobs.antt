-- How a job on a log changes files, print and flash.
use Rattle.std.specs.Prelude.{◌≡◌, ◌⊎◌, ℕ, ◌≤◌, true, Option, Some, None, Result, Ok, Err, List, [], ◌∷◌}
use Rattle.std.specs.List.{flat_map}
use Rattle.zs_host.specs.Outside.{Outside, failed}
use Rattle.flash_sim.specs.Device.{Device, counted}
use Rattle.flash_map.specs.declared.area.Area.{Area}
use Rattle.flash_map.specs.declared.area.Role.TheVariants.{Fcb}
use Rattle.flash_map.specs.declared.faults.Damaged.{Damaged}
use Rattle.flash_map.specs.Area.{geometry_of, value_limit}
use Rattle.fcb_ring.specs.Standing.{erases_on, ring_damage}
use Rattle.event_ring.specs.Items.{log_on}
use Rattle.image_file.specs.Format.{Plain}
use Rattle.image_jobs.specs.declared.outcome.Outcome.{Outcome}
use Rattle.image_jobs.specs.declared.stops.Refusal.{Refusal}
use Rattle.image_jobs.specs.declared.stops.Refusal.TheVariants.{BadArea}
use Rattle.image_jobs.specs.declared.stops.Stop.{Stop}
use Rattle.image_jobs.specs.declared.stops.Stop.TheVariants.{Refused, HostFailed, NoMemory}
use Rattle.image_jobs.specs.Images.{HasAreas, begun, flash_of, left}
use Rattle.image_jobs.specs.Jobs.{File, WritesLeft, file_of}
use Rattle.image_jobs.specs.Reading.{HasImage, LacksImage}
use Rattle.log_session.specs.declared.line.Line.{Line}
use Rattle.log_session.specs.declared.line.Line.TheVariants.{Mount}
use Rattle.log_session.specs.declared.answer.Answer.{Answer}
use Rattle.log_session.specs.Answer.{text_of}
use Rattle.log_session.specs.declared.fault.SessionFault.{SessionFault}
use Rattle.log_session.specs.declared.fault.SessionFault.TheVariants.{Damaged as IsDamaged, NoMemory as WantsMemory}
use Rattle.log_session.specs.History.{IsAfterDrops}
use Rattle.log_session.specs.LineDone.{state_of}
use Rattle.log_session.specs.Owing.{MountsWithin, OwesOn, boot_units}
use Rattle.log_session.specs.Running.{Ran, RunStops}
use Rattle.log_session.specs.Stored.{DropsForRoom, IsBlankOn}
use Rattle.session_jobs.specs.LogInputs.{HasLines, LacksLines, LacksLog}

-- the texts of all answers
abbrev pub texts : List Answer → List ℕ
texts answers = flat_map text_of answers

-- ---- how an image reads

-- the bodies of the records in its area, the oldest first
abbrev pub log_in : Plain → Area → List (List ℕ)
log_in image area = log_on (flash_of image) area

-- no byte of its area is written
abbrev pub IsBlankIn : Plain → Area → Type 0
IsBlankIn image area = IsBlankOn (flash_of image) area

-- the damage that a mount of its area finds
abbrev pub damage_in : Plain → Area → Option Damaged
damage_in image area = ring_damage (flash_of image) area

-- a mount of the image spends at most so many units and erases
abbrev pub OwesIn : Plain → Area → ℕ → Type 0
OwesIn image area most = OwesOn (flash_of image) area most

-- ---- what is carried out

-- IMAGE is the file of this image, which has one area only, of FCB.
pub record OpensLog (name : List ℕ) (host : Outside) (image : Plain) (area : Area) : Type 0 where
  pub has : HasImage host name image
  pub area_is : HasAreas image (area ∷ [])
  pub role : area.role ≡ Fcb

-- that image, and the lines of SCRIPT
pub record SetsLog (name script : List ℕ) (host : Outside) (image : Plain) (area : Area) (lines : List Line) :
    Type 0 where
  pub opens : OpensLog name host image area
  pub gives : HasLines (value_limit area) host script lines

-- ---- done

-- The text gives the answers that a plain list of records gives to the opening mount and to the
-- lines, wherever power was lost. That list begins as the log that the image reads as. OUT is the
-- file of the image with the bytes that are left. It reads as the last log, even if power is off.
-- After each line the log is all records so far except the first ones, which were dropped. If the
-- area of the image is blank, items are dropped only where they cost more than all sectors but one
-- have room for, less the longest record in each. The units in the answers are those that the flash
-- spent, and its losses are the answers that report one. The flash was loaded once.
pub record LogJobDoes (name script out : List ℕ) (host : Outside) (old new : Device) (text : List ℕ)
    (file : Option File) : Type 0 where
  pub image : Plain
  pub area : Area
  pub lines : List Line
  pub sets : SetsLog name script host image area lines
  pub answers : List Answer
  pub ran : Ran area (Mount ∷ lines) answers (begun image old) new
  pub drops :
      IsAfterDrops (geometry_of (begun image old) area) new.spent (Mount ∷ lines) answers
      (state_of area (begun image old)) (state_of area new)
  pub room : IsBlankIn image area → DropsForRoom area (Mount ∷ lines) answers (begun image old) new
  pub reads : log_in image area ≡ (state_of area (begun image old)).log
  pub leaves : log_in (left image new) area ≡ (state_of area new).log
  -- no damage was found, and none is left; with power on at the end, a mount has nothing to do
  pub sound : damage_in image area ≡ None
  pub undamaged : damage_in (left image new) area ≡ None
  pub rests : new.is_on ≡ true → erases_on new area ≡ 0
  -- If the image owes at most so many erases, and a cut line leaves no more, then no mount reports more,
  -- and the image that is left owes no more.
  pub boots : (most : ℕ) → boot_units ≤ most → OwesIn image area most
      → OwesIn (left image new) area most × MountsWithin most (Mount ∷ lines) answers
  pub banks : new.banks ≡ image.banks
  pub loads : new.loads ≡ counted old.loads 1
  pub prints : text ≡ texts answers
  pub writes : WritesLeft (Some out) (left image new) file

-- ---- refused

-- there is an image with a log, but no lines
pub record LacksLogLines (name script : List ℕ) (host : Outside) (refusal : Refusal) : Type 0 where
  pub image : Plain
  pub area : Area
  pub opens : OpensLog name host image area
  pub lacks : LacksLines (value_limit area) host script refusal

-- The opening mount found the damage that the image shows. The flash was loaded, and nothing else
-- was done to it.
pub record FindsLogDamage (name script : List ℕ) (host : Outside) (old new : Device) (refusal : Refusal) :
    Type 0 where
  pub image : Plain
  pub area : Area
  pub lines : List Line
  pub sets : SetsLog name script host image area lines
  pub damage : Damaged
  pub is : refusal ≡ BadArea area.label damage
  pub shows : damage_in image area ≡ Some damage
  pub loaded : new ≡ begun image old

-- The causes, in the order in which they are checked: the image, its log, the lines, and damage
-- once the flash is loaded. Except for damage, the flash is as before.
abbrev pub RefusesLog : List ℕ → List ℕ → Outside → Device → Device → Refusal → Type 0
RefusesLog name script host old new refusal =
    (LacksImage host name refusal × (new ≡ old))
    ⊎ (LacksLog host name refusal × (new ≡ old))
    ⊎ (LacksLogLines name script host refusal × (new ≡ old))
    ⊎ FindsLogDamage name script host old new refusal

-- ---- stopped, since the host failed or memory ran out

-- The image was put on the flash, and the lines were carried out up to one for which memory ran
-- out, or all of them.
pub record HasBegunLog (name script : List ℕ) (host : Outside) (old new : Device) : Type 0 where
  pub image : Plain
  pub area : Area
  pub lines : List Line
  pub sets : SetsLog name script host image area lines
  pub went : RunStops area (Mount ∷ lines) (begun image old) new
      ⊎ ((answers : List Answer) × Ran area (Mount ∷ lines) answers (begun image old) new)

-- the flash is as before, or the job had begun
abbrev pub StopsLog : List ℕ → List ℕ → Outside → Device → Device → Type 0
StopsLog name script host old new = (new ≡ old) ⊎ HasBegunLog name script host old new

-- ---- as a whole

-- How a job on a log ends, before anything is printed or written.
abbrev pub LogJobEnds : List ℕ → List ℕ → List ℕ → Outside → Outside → Device → Device → Result Outcome Stop
    → Type 0
LogJobEnds name script out host host' old new (Ok outcome) =
    LogJobDoes name script out host old new outcome.text.items (file_of outcome.file) × (host' ≡ host)
LogJobEnds name script out host host' old new (Err (Refused refusal)) =
    RefusesLog name script host old new refusal × (host' ≡ host)
LogJobEnds name script out host host' old new (Err HostFailed) = (new ≡ old) × (host' ≡ failed host)
LogJobEnds name script out host host' old new (Err NoMemory) =
    StopsLog name script host old new × (host' ≡ host)

-- how a job ends if its lines stop; the label names the damaged area
abbrev pub IsStop : Area → SessionFault → Stop → Type 0
IsStop area (IsDamaged damage) stop = stop ≡ Refused (BadArea area.label damage)
IsStop area WantsMemory stop = stop ≡ NoMemory
