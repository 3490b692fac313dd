-- What reading answers.
use Rattle.std.specs.Prelude.{◌≡◌, ◌⊎◌, ⊤, ℕ, ◌+◌, ◌<◌, ◌≤◌, Result, Ok, Err, List, length, slice_index}
use Rattle.image_file.specs.declared.image.Image.{Image}
use Rattle.image_file.specs.declared.image.ImageFault.{ImageFault}
use Rattle.image_file.specs.declared.image.ImageFault.TheVariants.{Bad, NoMemory}
use Rattle.image_file.specs.declared.image.ImageWhy.{ImageWhy}
use Rattle.image_file.specs.declared.image.ImageWhy.TheVariants.{Short}
use Rattle.image_file.specs.Format.{Plain, plain, file_of}
use Rattle.image_file.specs.Lawful.{IsImage}
use Rattle.image_file.specs.Table.{FirstFault, rows}

-- P of what was read, Q of a place and a cause
abbrev pub Reads : {X : Type 0} → (X → Type 0) → (ℕ → ImageWhy → Type 0) → Result X ImageFault → Type 0
Reads P Q (Ok x) = P x
Reads P Q (Err (Bad at why)) = Q at why
Reads P Q (Err NoMemory) = ⊤

-- the byte at this place is from least to most
abbrev pub ByteWithin : List ℕ → ℕ → ℕ → ℕ → ℕ → Type 0
ByteWithin bytes at least most byte =
    (at + 1 ≤ length bytes) × (byte ≡ slice_index bytes at) × (least ≤ byte) × (byte ≤ most)

-- the file ends before the byte, or the byte is not from least to most
abbrev pub ByteFault : List ℕ → ℕ → ℕ → ℕ → ImageWhy → ℕ → ImageWhy → Type 0
ByteFault bytes at least most cause place why =
    ((length bytes < at + 1) × (place ≡ length bytes) × (why ≡ Short))
    ⊎ ((at + 1 ≤ length bytes) × (((least ≤ slice_index bytes at) × (slice_index bytes at ≤ most)) → ⊥)
    × (place ≡ at) × (why ≡ cause))

-- the bytes are the file of this lawful image
pub record IsImageFile (bytes : List ℕ) (image : Plain) : Type 0 where
  pub lawful : IsImage image
  pub is : bytes ≡ file_of image

-- the image of the file, or its first fault
abbrev pub ReadsImage : List ℕ → Result Image ImageFault → Type 0
ReadsImage bytes result =
    Reads (λ image. IsImageFile bytes (plain image)) (FirstFault bytes (rows bytes)) result
