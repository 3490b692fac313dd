-- How a job on a mirror changes files, print and flash.
use Rattle.std.specs.Prelude.{◌≡◌, ◌⊎◌, ⊤, ℕ, ◌+◌, ◌≤◌, Bool, true, false, Option, Some, None, Result, Ok, Err, List, ◌∷◌}
use Rattle.std.specs.List.{flat_map}
use Rattle.arrayvec.specs.ArrayString.{ArrayString}
use Rattle.zs_host.specs.Outside.{Outside, failed}
use Rattle.flash_sim.specs.Device.{Device, counted}
use Rattle.flash_map.specs.declared.area.Area.{Area}
use Rattle.flash_map.specs.declared.faults.Damaged.{Damaged}
use Rattle.flash_map.specs.On.{on}
use Rattle.backend_api.specs.Map.{Map}
use Rattle.any_backend.specs.ByRole.{any_boot, any_contents, any_damage, any_owes, any_rests, any_room}
use Rattle.image_file.specs.Format.{Plain}
use Rattle.session_table.specs.Bench.{area_at}
use Rattle.session.specs.OnMap.{limit_of}
use Rattle.session.specs.Owing.{greatest_boot}
use Rattle.mirror.specs.Trusted.{BothRead, MirrorReads, damage_shown, trusted_on}
use Rattle.mirror.specs.Mounting.{IsAtRest}
use Rattle.mirror.specs.Prices.{mirror_prices}
use Rattle.mirror_session.specs.declared.line.Line.{Line}
use Rattle.mirror_session.specs.declared.line.Line.TheVariants.{Mount}
use Rattle.mirror_session.specs.declared.answer.Answer.{Answer}
use Rattle.mirror_session.specs.Answer.{text_of}
use Rattle.mirror_session.specs.declared.fault.SessionFault.{SessionFault}
use Rattle.mirror_session.specs.declared.fault.SessionFault.TheVariants.{Damaged as IsDamaged, Unfit as IsUnfit, NoMemory as WantsMemory}
use Rattle.mirror_session.specs.Bench.{Meanings, Moment, beside_in, meanings, moment, rules_of, state_of}
use Rattle.mirror_session.specs.History.{IsAfterPrefix, IsMirrored}
use Rattle.mirror_session.specs.LineDone.{FitsBoth}
use Rattle.mirror_session.specs.Owing.{BootsWithin, BothOwe, OwesAt, mounted_last}
use Rattle.mirror_session.specs.Running.{Ran, RunStops, ReportsUnfit, replaced_in}
use Rattle.mirror_session.specs.State.{IsOn}
use Rattle.image_jobs.specs.declared.outcome.Outcome.{Outcome}
use Rattle.image_jobs.specs.declared.stops.Refusal.{Refusal}
use Rattle.image_jobs.specs.declared.stops.Refusal.TheVariants.{BadArea, Unfit}
use Rattle.image_jobs.specs.declared.stops.Stop.{Stop}
use Rattle.image_jobs.specs.declared.stops.Stop.TheVariants.{Refused, HostFailed, NoMemory}
use Rattle.image_jobs.specs.Images.{HasAreas, begun, flash_of, left}
use Rattle.image_jobs.specs.Jobs.{File, WritesLeft, file_of}
use Rattle.image_jobs.specs.Reading.{HasImage, LacksImage}
use Rattle.session_jobs.specs.MirrorInputs.{AreMirrored, HasLines, LacksLines, LacksMirror}

-- the texts of all answers
abbrev pub texts : List Answer → List ℕ
texts answers = flat_map text_of answers

-- what the bytes of areas mean to the store of their role
abbrev pub any_meanings : Meanings
any_meanings = meanings any_damage any_contents any_rests any_room mirror_prices any_owes

-- ---- how an image reads

-- The place of the area that is read: the one that the selector names, or the other one if that one
-- is all FF and the other is not.
abbrev pub trusted_in : List Area → Plain → ℕ
trusted_in areas image = trusted_on areas (flash_of image)

-- the settings in that area
abbrev pub settings_in : List Area → Plain → Map
settings_in areas image = on any_contents (flash_of image) (area_at areas (trusted_in areas image))

-- the settings in the other area
abbrev pub other_settings_in : List Area → Plain → Map
other_settings_in areas image =
    on any_contents (flash_of image) (area_at areas (beside_in areas (trusted_in areas image)))

-- the damage that a mount finds, with the place of its area: the selector's, or else that of the
-- area that is read
abbrev pub damage_in : List Area → Plain → Option (ℕ × Damaged)
damage_in areas image = damage_shown any_damage areas (flash_of image)

-- at most so many erases are due in the selector of the image, and the area that is read owes at most so many
-- units and erases
abbrev pub OwesIn : List Area → Plain → ℕ → ℕ → Type 0
OwesIn areas image due most = OwesAt any_owes areas (moment (flash_of image) false) due most

-- each of the two store areas of the image owes at most so many units and erases
abbrev pub BothOweIn : List Area → Plain → ℕ → Type 0
BothOweIn areas image most = BothOwe any_owes areas (flash_of image) most

-- what a line that is cut on the image leaves at most to the next mount of an area
abbrev pub boot_in : List Area → Plain → ℕ
boot_in areas image = greatest_boot any_boot image.banks areas

-- ---- what is carried out

-- IMAGE is the file of this image, which has a mirror.
pub record OpensMirror (name : List ℕ) (host : Outside) (image : Plain) (areas : List Area) : Type 0 where
  pub has : HasImage host name image
  pub are : HasAreas image areas
  pub mirrored : AreMirrored areas

-- that image, and the lines of SCRIPT
pub record SetsMirror (name script : List ℕ) (host : Outside) (image : Plain) (areas : List Area)
    (lines : List Line) : Type 0 where
  pub opens : OpensMirror name host image areas
  pub gives : HasLines (limit_of areas) host script lines

-- the flash just loaded with the image, not mounted yet
abbrev pub opening : Plain → Device → Moment
opening image old = moment (begun image old) false

-- the flash at the end, and whether the last mount was whole and no area was replaced after it
abbrev pub closing : Device → Bool → Moment
closing new whole = moment new whole

-- ---- done

-- The text gives the answers that a plain map gives to the opening mount and to the lines, wherever
-- power was lost and an area was replaced. That map begins as the map that the image reads as. Each
-- loss leaves the map that commands of the lines make, in their order, with every acknowledged one
-- among them. With power on at the end, both areas read as the last map. OUT is the file of the
-- image with the bytes that are left. It reads as the last map, even if power is off. An image that
-- shows no damage is left so. The units in the answers are those that the flash spent, and its
-- losses are the answers that report one. The flash was loaded once, and once more for each area
-- that was replaced.
pub record MirrorJobDoes (name script out : List ℕ) (host : Outside) (old new : Device) (text : List ℕ)
    (file : Option File) : Type 0 where
  pub image : Plain
  pub areas : List Area
  pub lines : List Line
  pub sets : SetsMirror name script host image areas lines
  pub answers : List Answer
  pub whole : Bool
  pub ran : Ran any_meanings areas (Mount ∷ lines) answers (opening image old) (closing new whole)
  pub after :
      let rules = rules_of any_meanings areas image.banks new.spent in
      let first = state_of any_meanings areas (opening image old) in
      let last = state_of any_meanings areas (closing new whole) in
      IsAfterPrefix rules (Mount ∷ lines) answers first last
  pub mirrored : IsMirrored (state_of any_meanings areas (closing new whole))
  pub reads : settings_in areas image ≡ (state_of any_meanings areas (opening image old)).settings
  pub reads_other : other_settings_in areas image ≡ (state_of any_meanings areas (opening image old)).other
  pub leaves : settings_in areas (left image new) ≡ (state_of any_meanings areas (closing new whole)).settings
  pub leaves_other : other_settings_in areas (left image new)
      ≡ (state_of any_meanings areas (closing new whole)).other
  -- if the image shows no damage, in its selector and in the area that is read, OUT shows none, and
  -- reads as the last map
  pub undamaged : damage_in areas image ≡ None → damage_in areas (left image new) ≡ None
  pub mirror_reads :
      damage_in areas image ≡ None
      → MirrorReads any_damage any_contents areas (flash_of (left image new))
      (state_of any_meanings areas (closing new whole)).settings
  -- With power on at the end, neither area of OUT is damaged, and both read as the last
  -- map. A mount of OUT has nothing to do.
  pub both_read :
      IsOn (state_of any_meanings areas (closing new whole))
      → BothRead any_damage any_contents areas (flash_of (left image new))
      (state_of any_meanings areas (closing new whole)).settings
  pub rests :
      IsOn (state_of any_meanings areas (closing new whole))
      → IsAtRest any_damage any_contents any_rests areas (flash_of (left image new))
  -- If the image owes at most so many units and erases, and a cut line leaves no more, then so does OUT; and
  -- so does each of its two areas, if the last mount was whole. No mount reports more than that, a choice if
  -- the selector names another area than the one that is read, and the mount and the repair of the other
  -- area. If both areas of the image owe at most so many, as those of such an OUT do, the opening mount
  -- spends no more than that on the mount of the other area (`behind` of `BootDone`).
  pub boots : (due most : ℕ) → 1 ≤ due → boot_in areas image ≤ most → OwesIn areas image due most
      → OwesIn areas (left image new) due most
      × (mounted_last false (Mount ∷ lines) answers ≡ true → BothOweIn areas (left image new) most)
      × BootsWithin any_owes any_meanings areas due most (Mount ∷ lines) answers (opening image old) new
  pub banks : new.banks ≡ image.banks
  pub loads : new.loads ≡ counted old.loads (1 + replaced_in (Mount ∷ lines) answers)
  pub prints : text ≡ texts answers
  pub writes : WritesLeft (Some out) (left image new) file

-- ---- refused

-- there is an image with a mirror, but no lines
pub record LacksMirrorLines (name script : List ℕ) (host : Outside) (refusal : Refusal) : Type 0 where
  pub image : Plain
  pub areas : List Area
  pub opens : OpensMirror name host image areas
  pub lacks : LacksLines (limit_of areas) host script refusal

-- the label is that of the area at this place
abbrev pub IsLabelled : List Area → ℕ → ArrayString → Type 0
IsLabelled areas place label = label.bytes ≡ (area_at areas place).label.bytes

-- how a job ends if its lines stop; the label names the area
abbrev pub IsStop : List Area → SessionFault → Stop → Type 0
IsStop areas (IsDamaged place damage) stop =
    (label : ArrayString) × IsLabelled areas place label × (stop ≡ Refused (BadArea label damage))
IsStop areas (IsUnfit place) stop =
    (label : ArrayString) × IsLabelled areas place label × (stop ≡ Refused (Unfit label))
IsStop areas WantsMemory stop = stop ≡ NoMemory

abbrev pub ReportsDamage : SessionFault → Type 0
ReportsDamage (IsDamaged place damage) = ⊤
ReportsDamage (IsUnfit place) = ⊥
ReportsDamage WantsMemory = ⊥

-- the settings of the image fit both of its store areas
abbrev pub FitsImage : List Area → Plain → Type 0
FitsImage areas image = FitsBoth any_meanings areas image.banks (settings_in areas image)

-- A mount found damage, or settings that do not fit one of the two areas. An image without damage
-- is not refused for damage, and one whose settings fit both areas is not refused as unfit.
pub record StopsAtMount (name script : List ℕ) (host : Outside) (old new : Device) (refusal : Refusal) :
    Type 0 where
  pub image : Plain
  pub areas : List Area
  pub lines : List Line
  pub sets : SetsMirror name script host image areas lines
  pub fault : SessionFault
  pub is : IsStop areas fault (Refused refusal)
  pub stops : RunStops any_meanings areas (Mount ∷ lines) (opening image old) new fault
  pub shows : damage_in areas image ≡ None → ¬ ReportsDamage fault
  pub fits : FitsImage areas image → ¬ ReportsUnfit fault

-- The causes, in the order in which they are checked: the image, its mirror, the lines, and what a
-- mount finds once the flash is loaded. Except for what a mount finds, the flash is as before.
abbrev pub RefusesMirror : List ℕ → List ℕ → Outside → Device → Device → Refusal → Type 0
RefusesMirror name script host old new refusal =
    (LacksImage host name refusal × (new ≡ old))
    ⊎ (LacksMirror host name refusal × (new ≡ old))
    ⊎ (LacksMirrorLines name script host refusal × (new ≡ old))
    ⊎ StopsAtMount name script host old new refusal

-- ---- stopped, since the host failed or memory ran out

-- The image was put on the flash, and the lines were carried out up to one for which memory ran
-- out, or all of them.
pub record HasBegunMirror (name script : List ℕ) (host : Outside) (old new : Device) : Type 0 where
  pub image : Plain
  pub areas : List Area
  pub lines : List Line
  pub sets : SetsMirror name script host image areas lines
  pub went :
      RunStops any_meanings areas (Mount ∷ lines) (opening image old) new WantsMemory
      ⊎ ((answers : List Answer) × (whole : Bool)
      × Ran any_meanings areas (Mount ∷ lines) answers (opening image old) (closing new whole))

-- the flash is as before, or the job had begun
abbrev pub StopsMirror : List ℕ → List ℕ → Outside → Device → Device → Type 0
StopsMirror name script host old new = (new ≡ old) ⊎ HasBegunMirror name script host old new

-- ---- as a whole

-- How a job on a mirror ends, before anything is printed or written.
abbrev pub MirrorJobEnds : List ℕ → List ℕ → List ℕ → Outside → Outside → Device → Device
    → Result Outcome Stop → Type 0
MirrorJobEnds name script out host host' old new (Ok outcome) =
    MirrorJobDoes name script out host old new outcome.text.items (file_of outcome.file) × (host' ≡ host)
MirrorJobEnds name script out host host' old new (Err (Refused refusal)) =
    RefusesMirror name script host old new refusal × (host' ≡ host)
MirrorJobEnds name script out host host' old new (Err HostFailed) = (new ≡ old) × (host' ≡ failed host)
MirrorJobEnds name script out host host' old new (Err NoMemory) =
    StopsMirror name script host old new × (host' ≡ host)
