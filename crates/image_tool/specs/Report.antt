-- The print of a text, and then the write of a file.
use Rattle.std.specs.Prelude.{◌≡◌, ◌⊎◌, ℕ, Option, Some, None, List, take}
use Rattle.zs_host.specs.Outside.{Outside, SameBut, failed, printed_more, written}
use Rattle.image_jobs.specs.Jobs.{File}
use Rattle.image_tool.specs.declared.status.Status.{Status}
use Rattle.image_tool.specs.declared.status.Status.TheVariants as status

-- the text is printed, and then the file is written, if there is one
abbrev pub delivered : Outside → List ℕ → Option File → Outside
delivered host text None = printed_more host text
delivered host text (Some file) = written (printed_more host text) file.0 file.1

-- the first so many of these bytes were printed, and all else is as before
abbrev pub PrintsPrefix : Outside → Outside → List ℕ → Type 0
PrintsPrefix old new text = (count : ℕ) × (new ≡ printed_more old (take count text))

-- all of the text was printed, and only the named file may have changed
pub record Spoils (old new : Outside) (text : List ℕ) (file : File) : Type 0 where
  pub printed : new.printed ≡ (printed_more old text).printed
  pub files : SameBut file.0 old.files new.files
  pub faults : new.faults ≡ old.faults

-- the file is written only after all was printed
abbrev pub DeliversPart : Outside → Outside → List ℕ → Option File → Type 0
DeliversPart old new text None = PrintsPrefix old new text
DeliversPart old new text (Some file) = PrintsPrefix old new text ⊎ Spoils old new text file

abbrev pub Delivers : Outside → Outside → List ℕ → Option File → Status → Type 0
Delivers old new text file status.Done = new ≡ delivered old text file
Delivers old new text file status.HostFault = DeliversPart (failed old) new text file
Delivers old new text file status.NoMemory = DeliversPart old new text file
Delivers old new text file status.Usage = ⊥
Delivers old new text file status.BadScript = ⊥
Delivers old new text file status.BadImage = ⊥
Delivers old new text file status.NoFile = ⊥

-- the line was printed, or the host failed, or memory ran out
abbrev pub Reports : Outside → Outside → List ℕ → Status → Status → Type 0
Reports old new line refusal result =
    ((result ≡ refusal) × (new ≡ printed_more old line))
    ⊎ ((result ≡ status.HostFault) × PrintsPrefix (failed old) new line)
    ⊎ ((result ≡ status.NoMemory) × PrintsPrefix old new line)

-- only the named file may have changed
abbrev pub DeliversOnly : Option File → Outside → Outside → Type 0
DeliversOnly None old new = new.files ≡ old.files
DeliversOnly (Some file) old new = SameBut file.0 old.files new.files
