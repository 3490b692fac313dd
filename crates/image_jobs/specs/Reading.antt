-- How the reading of files from a host ends.
use Rattle.std.specs.Prelude.{◌≡◌, ◌⊎◌, ⊤, ℕ, ◌≤◌, Result, Ok, Err, List, length, map}
use Rattle.zs_host.specs.Outside.{Outside, HasFile, LacksFile, failed}
use Rattle.zs_host.specs.Host.{HasLongFile}
use Rattle.script_lines.specs.declared.line.Line.{Line}
use Rattle.script_lines.specs.declared.why.LineWhy.{LineWhy}
use Rattle.script_lines.specs.declared.why.LineWhy.TheVariants as line_why
use Rattle.script_lines.specs.Line.{settings_forms, row_of}
use Rattle.script_lines.specs.Script.{IsScript, IsBadLine}
use Rattle.image_file.specs.declared.image.ImageWhy.{ImageWhy}
use Rattle.image_file.specs.declared.image.ImageWhy.TheVariants as image_why
use Rattle.image_file.specs.Format.{Plain}
use Rattle.image_file.specs.Reading.{IsImageFile}
use Rattle.image_file.specs.Table.{FirstFault, rows}
use Rattle.image_jobs.specs.declared.stops.Refusal.{Refusal}
use Rattle.image_jobs.specs.declared.stops.Refusal.TheVariants.{BadSpec, NoFile, BadFile, NoLog, NoItems, NoMirror, BadArea, Unfit, BadScript}
use Rattle.image_jobs.specs.declared.stops.Stop.{Stop}
use Rattle.image_jobs.specs.declared.stops.Stop.TheVariants.{Refused, HostFailed, NoMemory}

-- P holds of what was read, Q of the refusal; files, print and the count of faults stay, except
-- that a failure of the host counts one fault
abbrev pub ReadsOr : {X : Type 0} → (X → Type 0) → (Refusal → Type 0) → Outside → Outside → Result X Stop
    → Type 0
ReadsOr P Q old new (Ok x) = P x × (new ≡ old)
ReadsOr P Q old new (Err (Refused refusal)) = Q refusal × (new ≡ old)
ReadsOr P Q old new (Err HostFailed) = new ≡ failed old
ReadsOr P Q old new (Err NoMemory) = new ≡ old

-- the same for what needs no host
abbrev pub MakesOr : {X : Type 0} → (X → Type 0) → (Refusal → Type 0) → Result X Stop → Type 0
MakesOr P Q (Ok x) = P x
MakesOr P Q (Err (Refused refusal)) = Q refusal
MakesOr P Q (Err HostFailed) = ⊥
MakesOr P Q (Err NoMemory) = ⊤

-- there is such a file, of at most `limit` bytes
pub record HasShortFile (host : Outside) (name : List ℕ) (limit : ℕ) (bytes : List ℕ) : Type 0 where
  pub has : HasFile host name bytes
  pub short : length bytes ≤ limit

-- ---- an image

-- the most bytes of an image file, and of a script
abbrev pub most_image : ℕ
most_image = 8388608

abbrev pub most_script : ℕ
most_script = 1048576

-- IMAGE is the file of this image
pub record HasImage (host : Outside) (name : List ℕ) (image : Plain) : Type 0 where
  pub text : List ℕ
  pub has : HasShortFile host name most_image text
  pub is : IsImageFile text image

-- the first departure of the file from the format, and its kind; a file that is too long is
-- refused at its limit
abbrev pub HasBadFile : Outside → List ℕ → ℕ → ImageWhy → Type 0
HasBadFile host name at why =
    ((text : List ℕ) × HasShortFile host name most_image text × FirstFault text (rows text) at why)
    ⊎ (HasLongFile host name most_image × (at ≡ most_image) × (why ≡ image_why.Long))

-- why there is no image
abbrev pub LacksImage : Outside → List ℕ → Refusal → Type 0
LacksImage host name (NoFile word) = LacksFile host name × (word.now ≡ name)
LacksImage host name (BadFile at why) = HasBadFile host name at why
LacksImage host name BadSpec = ⊥
LacksImage host name NoLog = ⊥
LacksImage host name NoItems = ⊥
LacksImage host name NoMirror = ⊥
LacksImage host name (BadArea label damage) = ⊥
LacksImage host name (Unfit label) = ⊥
LacksImage host name (BadScript n why) = ⊥

-- ---- a script

-- why there is no text of a script: the file is missing, or too long, which is refused as line 0
abbrev pub LacksText : Outside → List ℕ → Refusal → Type 0
LacksText host name (NoFile word) = LacksFile host name × (word.now ≡ name)
LacksText host name (BadScript n why) = HasLongFile host name most_script × (n ≡ 0) × (why ≡ line_why.Long)
LacksText host name BadSpec = ⊥
LacksText host name (BadFile at why) = ⊥
LacksText host name NoLog = ⊥
LacksText host name NoItems = ⊥
LacksText host name NoMirror = ⊥
LacksText host name (BadArea label damage) = ⊥
LacksText host name (Unfit label) = ⊥

-- SCRIPT is a script of these lines; no value is longer than the limit
pub record HasScript (limit : ℕ) (host : Outside) (name : List ℕ) (lines : List Line) : Type 0 where
  pub text : List ℕ
  pub has : HasShortFile host name most_script text
  pub is : IsScript settings_forms limit text (map row_of lines)

-- line n is the first that is refused, for this cause; a file that is too long is refused as line 0
abbrev pub HasBadScript : ℕ → Outside → List ℕ → ℕ → LineWhy → Type 0
HasBadScript limit host name n why =
    ((text : List ℕ) × HasShortFile host name most_script text × IsBadLine settings_forms limit text n why)
    ⊎ (HasLongFile host name most_script × (n ≡ 0) × (why ≡ line_why.Long))

-- why there is no script
abbrev pub LacksScript : ℕ → Outside → List ℕ → Refusal → Type 0
LacksScript limit host name (NoFile word) = LacksFile host name × (word.now ≡ name)
LacksScript limit host name (BadScript n why) = HasBadScript limit host name n why
LacksScript limit host name BadSpec = ⊥
LacksScript limit host name (BadFile at why) = ⊥
LacksScript limit host name NoLog = ⊥
LacksScript limit host name NoItems = ⊥
LacksScript limit host name NoMirror = ⊥
LacksScript limit host name (BadArea label damage) = ⊥
LacksScript limit host name (Unfit label) = ⊥
