-- The image that a job on a log begins with and the lines that it carries out, or why
-- there are none.
use Rattle.std.specs.Prelude.{◌≡◌, ◌⊎◌, ℕ, List, [], ◌∷◌, map}
use Rattle.zs_host.specs.Outside.{Outside}
use Rattle.flash_map.specs.declared.area.Area.{Area}
use Rattle.flash_map.specs.declared.area.Role.TheVariants.{Fcb}
use Rattle.image_file.specs.Format.{Plain}
use Rattle.script_lines.specs.declared.why.LineWhy.{LineWhy}
use Rattle.script_lines.specs.Script.{IsScript, IsBadLine}
use Rattle.log_session.specs.declared.line.Line.{Line}
use Rattle.log_session.specs.Line.{log_forms, row_of}
use Rattle.image_jobs.specs.declared.stops.Refusal.{Refusal}
use Rattle.image_jobs.specs.declared.stops.Refusal.TheVariants.{NoLog, BadScript}
use Rattle.image_jobs.specs.Reading.{HasImage, HasShortFile, LacksText, most_script}

-- ---- an image

-- the area is the only one, and of FCB
pub record IsLogArea (areas : List Area) (area : Area) : Type 0 where
  pub only : areas ≡ area ∷ []
  pub role : area.role ≡ Fcb

abbrev pub HasNoLogArea : List Area → Type 0
HasNoLogArea areas = (area : Area) → IsLogArea areas area → ⊥

-- the image does not consist of exactly one area, of FCB
abbrev pub FindsNoLog : Plain → Refusal → Type 0
FindsNoLog image refusal = (refusal ≡ NoLog) × HasNoLogArea image.areas

-- there is an image, but it has no log
pub record LacksLog (host : Outside) (name : List ℕ) (refusal : Refusal) : Type 0 where
  pub image : Plain
  pub has : HasImage host name image
  pub finds : FindsNoLog image refusal

-- ---- a script

-- SCRIPT is a script of these lines; no body is longer than the limit
pub record HasLines (limit : ℕ) (host : Outside) (name : List ℕ) (lines : List Line) : Type 0 where
  pub text : List ℕ
  pub has : HasShortFile host name most_script text
  pub is : IsScript log_forms limit text (map row_of lines)

-- line n is the first that is refused, for this cause
pub record HasBadLine (limit : ℕ) (host : Outside) (name : List ℕ) (n : ℕ) (why : LineWhy) : Type 0 where
  pub text : List ℕ
  pub has : HasShortFile host name most_script text
  pub is : IsBadLine log_forms limit text n why

-- why there are no lines
abbrev pub LacksLines : ℕ → Outside → List ℕ → Refusal → Type 0
LacksLines limit host name refusal =
    LacksText host name refusal
    ⊎ ((n : ℕ) × (why : LineWhy) × (refusal ≡ BadScript n why) × HasBadLine limit host name n why)
