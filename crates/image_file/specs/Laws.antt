-- No bytes and no word are read in two ways.
use Rattle.std.specs.Prelude.{◌≡◌, ℕ, List}
use Rattle.image_file.specs.declared.image.ImageWhy.{ImageWhy}
use Rattle.image_file.specs.Format.{Plain}
use Rattle.image_file.specs.Table.{FirstFault, rows}
use Rattle.image_file.specs.Reading.{IsImageFile}
use Rattle.image_file.specs.Spec.{IsSpec, FirstBad, nothing_listed}
use Rattle.text_parts.specs.Parts.{parts}

-- bytes are the file of one image at most
abbrev pub OneImage : Type 0
OneImage =
    (bytes : List ℕ) (image other : Plain) → IsImageFile bytes image → IsImageFile bytes other → image ≡ other

-- the file of an image has no fault
abbrev pub NotBoth : Type 0
NotBoth =
    (bytes : List ℕ) (image : Plain) (at : ℕ) (why : ImageWhy) → IsImageFile bytes image
    → FirstFault bytes (rows bytes) at why → ⊥

-- bytes have one first fault at most
abbrev pub OneFault : Type 0
OneFault =
    (bytes : List ℕ) (at other : ℕ) (why because : ImageWhy) → FirstFault bytes (rows bytes) at why
    → FirstFault bytes (rows bytes) other because → (at ≡ other) × (why ≡ because)

-- a word describes one blank image at most
abbrev pub OneBlankImage : Type 0
OneBlankImage = (word : List ℕ) (image other : Plain) → IsSpec word image → IsSpec word other → image ≡ other

-- a word that describes an image has no item that may not be added, and lacks no area
abbrev pub NoBadItem : Type 0
NoBadItem =
    (word : List ℕ) (image : Plain) (n : ℕ) → IsSpec word image → FirstBad nothing_listed (parts 44 word) n
    → ⊥

-- a word has one first bad item at most
abbrev pub OneBadItem : Type 0
OneBadItem =
    (word : List ℕ) (n other : ℕ) → FirstBad nothing_listed (parts 44 word) n
    → FirstBad nothing_listed (parts 44 word) other → n ≡ other
