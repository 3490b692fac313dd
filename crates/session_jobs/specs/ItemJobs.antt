-- How a job on items changes files, print and flash.
use Rattle.std.specs.Prelude.{◌≡◌, ◌⊎◌, ℕ, ◌*◌, ◌/◌, true, Option, Some, None, Result, Ok, Err, List, [], ◌∷◌}
use Rattle.std.specs.List.{flat_map}
use Rattle.zs_host.specs.Outside.{Outside, failed}
use Rattle.flash_sim.specs.Device.{Device, counted}
use Rattle.flash_map.specs.declared.area.Area.{Area}
use Rattle.flash_map.specs.declared.area.Geometry.{Geometry}
use Rattle.flash_map.specs.declared.area.Role.{Role}
use Rattle.flash_map.specs.declared.area.Role.TheVariants.{Nvs, Zms, Fcb, Sel}
use Rattle.flash_map.specs.declared.faults.Damaged.{Damaged}
use Rattle.flash_sim.specs.declared.flash.Kind.TheVariants.{Erasing, Rewritable}
use Rattle.flash_map.specs.Area.{geometry_of, value_limit}
use Rattle.image_file.specs.Format.{Plain}
use Rattle.image_jobs.specs.declared.outcome.Outcome.{Outcome}
use Rattle.image_jobs.specs.declared.stops.Refusal.{Refusal}
use Rattle.image_jobs.specs.declared.stops.Refusal.TheVariants.{BadArea}
use Rattle.image_jobs.specs.declared.stops.Stop.{Stop}
use Rattle.image_jobs.specs.declared.stops.Stop.TheVariants.{Refused, HostFailed, NoMemory}
use Rattle.image_jobs.specs.Images.{HasAreas, begun, flash_of, left}
use Rattle.image_jobs.specs.Jobs.{File, WritesLeft, file_of}
use Rattle.image_jobs.specs.Reading.{HasImage, LacksImage}
use Rattle.item_session.specs.declared.line.Line.{Line}
use Rattle.item_session.specs.declared.line.Line.TheVariants.{Mount}
use Rattle.item_session.specs.declared.answer.Answer.{Answer}
use Rattle.item_session.specs.Answer.{text_of}
use Rattle.item_session.specs.declared.fault.SessionFault.{SessionFault}
use Rattle.item_session.specs.declared.fault.SessionFault.TheVariants.{Damaged as IsDamaged, NoMemory as WantsMemory}
use Rattle.item_session.specs.Device.{RestsOn, rules_on, state_of}
use Rattle.item_session.specs.History.{HasHistory}
use Rattle.item_session.specs.Owing.{MountsWithin, OwesOn, boot_units}
use Rattle.item_session.specs.Running.{Ran, RunStops}
use Rattle.item_session.specs.Standing.{damage_on}
use Rattle.item_session.specs.Whole.{IsBlankOn, KeepsWhole}
use Rattle.nvs_format.specs.Formats as nvs
use Rattle.item_store.specs.SectorFormat.{SectorFormat}
use Rattle.item_store.specs.Listed.{list_on}
use Rattle.item_store.specs.Standing.{IsStoreArea}
use Rattle.zms_format.specs.Formats as zms
use Rattle.session_jobs.specs.ItemInputs.{HasLines, LacksItems, LacksLines, has_items, ids_of}

-- the texts of all answers
abbrev pub texts : List Answer → List ℕ
texts answers = flat_map text_of answers

-- ---- how an image reads

-- the format of the sectors of an area of this role; a role without items is read as NVS
abbrev pub role_format : Role → Geometry → SectorFormat
role_format Nvs = nvs.format_of
role_format Zms = zms.format_of
role_format Fcb = nvs.format_of
role_format Sel = nvs.format_of

-- a store of items may stand on the area
pub record ServesItems (d : Device) (area : Area) : Type 0 where
  pub is_area : IsStoreArea area.role d.banks area
  pub has : has_items area.role ≡ true

-- the pairs of its area, from the oldest to the newest: an id with its bytes, or with
-- none for a delete
abbrev pub list_in : Plain → Area → List (ℕ × List ℕ)
list_in image area = list_on (role_format area.role) (flash_of image) area

-- each byte of its area is FF
abbrev pub IsBlankIn : Plain → Area → Type 0
IsBlankIn image area = IsBlankOn (flash_of image) area

-- the damage that a mount of its area finds
abbrev pub damage_in : Plain → Area → Option Damaged
damage_in image area = damage_on (role_format area.role) (flash_of image) area

-- a mount of the image spends at most so many units and erases
abbrev pub OwesIn : Plain → Area → ℕ → Type 0
OwesIn image area most = OwesOn (role_format area.role) (flash_of image) area most

-- the most that it spends, whatever the bytes of the image
abbrev pub boot_in : Plain → Area → ℕ
boot_in image area = boot_units (role_format area.role) (geometry_of (flash_of image) area)

-- The most of a mount, by role and geometry. NVS: the units of a sector.
abbrev pub NvsItemBoots : Type 0
NvsItemBoots = (geometry : Geometry) → boot_units (role_format Nvs) geometry ≡ geometry.sector / geometry.unit

-- ZMS on an erasing bank: the units of a sector
abbrev pub ErasingItemBoots : Type 0
ErasingItemBoots =
    (geometry : Geometry) → geometry.kind ≡ Erasing
    → boot_units (role_format Zms) geometry ≡ geometry.sector / 16

-- ZMS on a rewritable bank: twice the units of a sector
abbrev pub RewritableItemBoots : Type 0
RewritableItemBoots =
    (geometry : Geometry) → geometry.kind ≡ Rewritable
    → boot_units (role_format Zms) geometry ≡ 2 * (geometry.sector / 16)

-- ---- what is carried out

-- IMAGE is the file of this image, which has one area only, of NVS or ZMS.
pub record OpensItems (name : List ℕ) (host : Outside) (image : Plain) (area : Area) : Type 0 where
  pub has : HasImage host name image
  pub area_is : HasAreas image (area ∷ [])
  pub role : has_items area.role ≡ true

-- that image, and the lines of SCRIPT
pub record SetsItems (name script : List ℕ) (host : Outside) (image : Plain) (area : Area) (lines : List Line)
    : Type 0 where
  pub opens : OpensItems name host image area
  pub gives : HasLines (ids_of area.role) (value_limit area) host script lines

-- ---- done

-- The text gives the answers that a plain map of items gives to the opening mount and to the lines,
-- wherever power was lost. That map begins as the items that the image reads as. OUT is the file of
-- the image with the bytes that are left. It reads as the last list, and so as the last items, even
-- if power is off. After each line the newest versions of each id are kept, at least one if the id
-- has a value. From a blank area on, the whole history is kept as long as the sets and deletes of
-- the lines so far, but those answered `off`, cost at most what a sector has; until then `gone`
-- reports that there never was such a version. The units in the answers are those that the flash
-- spent, and its losses are the answers that report one. The flash was loaded once.
pub record ItemJobDoes (name script out : List ℕ) (host : Outside) (old new : Device) (text : List ℕ)
    (file : Option File) : Type 0 where
  pub image : Plain
  pub area : Area
  pub lines : List Line
  pub sets : SetsItems name script host image area lines
  pub answers : List Answer
  pub ran : Ran (role_format area.role) area (Mount ∷ lines) answers (begun image old) new
  pub history :
      HasHistory (rules_on (role_format area.role) (begun image old) area) new.spent (Mount ∷ lines) answers
      (state_of (role_format area.role) area (begun image old)) (state_of (role_format area.role) area new)
  pub whole : IsBlankIn image area
      → KeepsWhole (role_format area.role) area (Mount ∷ lines) answers (begun image old) new
  pub reads : list_in image area ≡ (state_of (role_format area.role) area (begun image old)).list
  pub leaves : list_in (left image new) area ≡ (state_of (role_format area.role) area new).list
  -- no damage was found, and none is left; with power on at the end, a mount has nothing to do
  pub sound : damage_in image area ≡ None
  pub undamaged : damage_in (left image new) area ≡ None
  pub rests : new.is_on ≡ true → RestsOn (role_format area.role) new area
  -- no mount reports more than this bound, and the image that is left owes no more
  pub boots : OwesIn (left image new) area (boot_in image area)
      × MountsWithin (boot_in image area) (Mount ∷ lines) answers
  pub banks : new.banks ≡ image.banks
  pub loads : new.loads ≡ counted old.loads 1
  pub prints : text ≡ texts answers
  pub writes : WritesLeft (Some out) (left image new) file

-- ---- refused

-- there is an image with items, but no lines
pub record LacksItemLines (name script : List ℕ) (host : Outside) (refusal : Refusal) : Type 0 where
  pub image : Plain
  pub area : Area
  pub opens : OpensItems name host image area
  pub lacks : LacksLines (ids_of area.role) (value_limit area) host script refusal

-- The opening mount found the damage that the image shows. The flash was loaded, and nothing else
-- was done to it.
pub record FindsItemDamage (name script : List ℕ) (host : Outside) (old new : Device) (refusal : Refusal) :
    Type 0 where
  pub image : Plain
  pub area : Area
  pub lines : List Line
  pub sets : SetsItems name script host image area lines
  pub damage : Damaged
  pub is : refusal ≡ BadArea area.label damage
  pub shows : damage_in image area ≡ Some damage
  pub loaded : new ≡ begun image old

-- The causes, in the order in which they are checked: the image, its items, the lines, and damage
-- once the flash is loaded. Except for damage, the flash is as before.
abbrev pub RefusesItems : List ℕ → List ℕ → Outside → Device → Device → Refusal → Type 0
RefusesItems name script host old new refusal =
    (LacksImage host name refusal × (new ≡ old))
    ⊎ (LacksItems host name refusal × (new ≡ old))
    ⊎ (LacksItemLines name script host refusal × (new ≡ old))
    ⊎ FindsItemDamage name script host old new refusal

-- ---- stopped, since the host failed or memory ran out

-- The image was put on the flash, and the lines were carried out up to one for which memory ran
-- out, or all of them.
pub record HasBegunItems (name script : List ℕ) (host : Outside) (old new : Device) : Type 0 where
  pub image : Plain
  pub area : Area
  pub lines : List Line
  pub sets : SetsItems name script host image area lines
  pub went : RunStops (role_format area.role) area (Mount ∷ lines) (begun image old) new
      ⊎ ((answers : List Answer)
      × Ran (role_format area.role) area (Mount ∷ lines) answers (begun image old) new)

-- the flash is as before, or the job had begun
abbrev pub StopsItems : List ℕ → List ℕ → Outside → Device → Device → Type 0
StopsItems name script host old new = (new ≡ old) ⊎ HasBegunItems name script host old new

-- ---- as a whole

-- How a job on items ends, before anything is printed or written.
abbrev pub ItemJobEnds : List ℕ → List ℕ → List ℕ → Outside → Outside → Device → Device → Result Outcome Stop
    → Type 0
ItemJobEnds name script out host host' old new (Ok outcome) =
    ItemJobDoes name script out host old new outcome.text.items (file_of outcome.file) × (host' ≡ host)
ItemJobEnds name script out host host' old new (Err (Refused refusal)) =
    RefusesItems name script host old new refusal × (host' ≡ host)
ItemJobEnds name script out host host' old new (Err HostFailed) = (new ≡ old) × (host' ≡ failed host)
ItemJobEnds name script out host host' old new (Err NoMemory) =
    StopsItems name script host old new × (host' ≡ host)

-- how a job ends if its lines stop; the label names the damaged area
abbrev pub IsStop : Area → SessionFault → Stop → Type 0
IsStop area (IsDamaged damage) stop = stop ≡ Refused (BadArea area.label damage)
IsStop area WantsMemory stop = stop ≡ NoMemory
