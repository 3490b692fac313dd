-- The image that a job on items begins with and the lines that it carries out, or why
-- there are none.
use Rattle.std.specs.Prelude.{◌≡◌, ◌⊎◌, ℕ, Bool, true, false, List, [], ◌∷◌, map}
use Rattle.zs_host.specs.Outside.{Outside}
use Rattle.flash_map.specs.declared.area.Area.{Area}
use Rattle.flash_map.specs.declared.area.Role.{Role}
use Rattle.flash_map.specs.declared.area.Role.TheVariants.{Nvs, Zms, Fcb, Sel}
use Rattle.image_file.specs.Format.{Plain}
use Rattle.script_lines.specs.declared.why.LineWhy.{LineWhy}
use Rattle.script_lines.specs.Script.{IsScript, IsBadLine}
use Rattle.item_session.specs.declared.ids.Ids.{Ids}
use Rattle.item_session.specs.declared.ids.Ids.TheVariants.{Short, Long}
use Rattle.item_session.specs.declared.line.Line.{Line}
use Rattle.item_session.specs.Line.{ids_end, item_forms, row_of}
use Rattle.image_jobs.specs.declared.stops.Refusal.{Refusal}
use Rattle.image_jobs.specs.declared.stops.Refusal.TheVariants.{NoItems, BadScript}
use Rattle.image_jobs.specs.Reading.{HasImage, HasShortFile, LacksText, most_script}

-- ---- an image

-- areas of this role have items
abbrev pub has_items : Role → Bool
has_items Nvs = true
has_items Zms = true
has_items Fcb = false
has_items Sel = false

-- the ids that they have
abbrev pub ids_of : Role → Ids
ids_of Nvs = Short
ids_of Zms = Long
ids_of Fcb = Long
ids_of Sel = Long

-- the area is the only one, and of NVS or ZMS
pub record IsItemArea (areas : List Area) (area : Area) : Type 0 where
  pub only : areas ≡ area ∷ []
  pub role : has_items area.role ≡ true

abbrev pub HasNoItemArea : List Area → Type 0
HasNoItemArea areas = (area : Area) → IsItemArea areas area → ⊥

-- the image does not consist of exactly one area, of NVS or ZMS
abbrev pub FindsNoItems : Plain → Refusal → Type 0
FindsNoItems image refusal = (refusal ≡ NoItems) × HasNoItemArea image.areas

-- there is an image, but it has no items
pub record LacksItems (host : Outside) (name : List ℕ) (refusal : Refusal) : Type 0 where
  pub image : Plain
  pub has : HasImage host name image
  pub finds : FindsNoItems image refusal

-- ---- a script

-- SCRIPT is a script of these lines, with such ids; no value is longer than the limit
pub record HasLines (ids : Ids) (limit : ℕ) (host : Outside) (name : List ℕ) (lines : List Line) :
    Type 0 where
  pub text : List ℕ
  pub has : HasShortFile host name most_script text
  pub is : IsScript (item_forms (ids_end ids)) limit text (map row_of lines)

-- line n is the first that is refused, for this cause
pub record HasBadLine (ids : Ids) (limit : ℕ) (host : Outside) (name : List ℕ) (n : ℕ) (why : LineWhy) :
    Type 0 where
  pub text : List ℕ
  pub has : HasShortFile host name most_script text
  pub is : IsBadLine (item_forms (ids_end ids)) limit text n why

-- why there are no lines
abbrev pub LacksLines : Ids → ℕ → Outside → List ℕ → Refusal → Type 0
LacksLines ids limit host name refusal =
    LacksText host name refusal
    ⊎ ((n : ℕ) × (why : LineWhy) × (refusal ≡ BadScript n why) × HasBadLine ids limit host name n why)
