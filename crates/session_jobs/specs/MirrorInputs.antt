-- The image that a job on a mirror begins with and the lines that it carries out, or why
-- there are none.
use Rattle.std.specs.Prelude.{◌≡◌, ◌⊎◌, ℕ, Bool, true, false, List, length, map, count_by}
use Rattle.zs_host.specs.Outside.{Outside}
use Rattle.flash_map.specs.declared.area.Area.{Area}
use Rattle.flash_map.specs.declared.area.Role.{Role}
use Rattle.flash_map.specs.declared.area.Role.TheVariants.{Nvs, Zms, Fcb, Sel}
use Rattle.image_file.specs.Format.{Plain}
use Rattle.image_file.specs.Lawful.{is_selector}
use Rattle.script_lines.specs.declared.why.LineWhy.{LineWhy}
use Rattle.script_lines.specs.Script.{IsScript, IsBadLine}
use Rattle.mirror_session.specs.declared.line.Line.{Line}
use Rattle.mirror_session.specs.Line.{mirror_forms, row_of}
use Rattle.image_jobs.specs.declared.stops.Refusal.{Refusal}
use Rattle.image_jobs.specs.declared.stops.Refusal.TheVariants.{NoMirror, BadScript}
use Rattle.image_jobs.specs.Reading.{HasImage, HasShortFile, LacksText, most_script}

-- ---- an image

-- areas of this role can hold the settings of a mirror
abbrev pub may_mirror : Role → Bool
may_mirror Nvs = true
may_mirror Zms = true
may_mirror Fcb = false
may_mirror Sel = false

abbrev pub is_stored : Area → Bool
is_stored area = may_mirror area.role

-- There are three areas: two of NVS or ZMS, and a selector.
pub record AreMirrored (areas : List Area) : Type 0 where
  pub stores : count_by is_stored areas ≡ 2
  pub selector : count_by is_selector areas ≡ 1
  pub all : length areas ≡ 3

-- the areas of the image are no mirror
abbrev pub FindsNoMirror : Plain → Refusal → Type 0
FindsNoMirror image refusal = (refusal ≡ NoMirror) × (¬ AreMirrored image.areas)

-- there is an image, but it has no mirror
pub record LacksMirror (host : Outside) (name : List ℕ) (refusal : Refusal) : Type 0 where
  pub image : Plain
  pub has : HasImage host name image
  pub finds : FindsNoMirror image refusal

-- ---- a script

-- SCRIPT is a script of these lines; no value is longer than the limit
pub record HasLines (limit : ℕ) (host : Outside) (name : List ℕ) (lines : List Line) : Type 0 where
  pub text : List ℕ
  pub has : HasShortFile host name most_script text
  pub is : IsScript mirror_forms limit text (map row_of lines)

-- line n is the first that is refused, for this cause
pub record HasBadLine (limit : ℕ) (host : Outside) (name : List ℕ) (n : ℕ) (why : LineWhy) : Type 0 where
  pub text : List ℕ
  pub has : HasShortFile host name most_script text
  pub is : IsBadLine mirror_forms limit text n why

-- why there are no lines
abbrev pub LacksLines : ℕ → Outside → List ℕ → Refusal → Type 0
LacksLines limit host name refusal =
    LacksText host name refusal
    ⊎ ((n : ℕ) × (why : LineWhy) × (refusal ≡ BadScript n why) × HasBadLine limit host name n why)
