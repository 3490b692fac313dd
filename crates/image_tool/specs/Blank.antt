-- How the blank image of a word reads, what it owes to a mount, and how a script on it ends.
use Rattle.std.specs.Prelude.{◌≡◌, ℕ, None, List, [], ◌∷◌}
use Rattle.std.specs.Borrow.{Bor}
use Rattle.std.specs.FinMap.{empty}
use Rattle.flash_map.specs.declared.area.Area.{Area}
use Rattle.flash_map.specs.declared.area.Role.TheVariants.{Fcb}
use Rattle.zs_host.specs.Outside.{Outside}
use Rattle.handlers.specs.declared.handler.HandlerKind.{HandlerKind}
use Rattle.command_words.specs.Commands.{IsCommand}
use Rattle.command_words.specs.declared.commands.Command.TheVariants.{Gen}
use Rattle.command_words.specs.declared.commands.StoreKind.{StoreKind}
use Rattle.image_file.specs.Format.{Plain}
use Rattle.image_file.specs.Spec.{IsSpec}
use Rattle.migrator.specs.Areas.{first_store}
use Rattle.image_jobs.specs.declared.jobs.Job.{Job}
use Rattle.image_jobs.specs.declared.jobs.Start.TheVariants.{Blank}
use Rattle.image_jobs.specs.declared.stops.Refusal.{Refusal}
use Rattle.image_jobs.specs.Images.{HasAreas, OwesOf, active_of, damage_of, settings_of}
use Rattle.image_jobs.specs.Jobs.{LacksLines, Refuses}
use Rattle.image_jobs.specs.Stages.{Stage}
use Rattle.session_jobs.specs.LogJobs.{OwesIn as LogOwes}
use Rattle.session_jobs.specs.MirrorInputs.{AreMirrored}
use Rattle.session_jobs.specs.MirrorJobs.{BothOweIn, OwesIn as MirrorOwes}
use Rattle.image_tool.specs.declared.status.Status.{Status}
use Rattle.image_tool.specs.Complete.{IsCarriedOut}
use Rattle.image_tool.specs.Tool.{ToolEnds, any_stores}
use Rattle.image_tool.specs.Worlds.{World}

-- The image shows no damage, its first store area is active, it reads as no settings, and a mount of it
-- spends nothing.
pub record IsEmptyImage (areas : List Area) (image : Plain) : Type 0 where
  pub undamaged : damage_of any_stores areas image ≡ None
  pub active : active_of areas image ≡ first_store areas
  pub settings : settings_of any_stores areas image ≡ empty
  pub owes : OwesOf any_stores areas image 0

-- this holds for the image of a lawful word
abbrev pub SpecsAreEmpty : Type 0
SpecsAreEmpty = (word : List ℕ) (image : Plain) (areas : List Area) → IsSpec word image → HasAreas image areas
    → IsEmptyImage areas image

-- If the image of a lawful word has one area only, of FCB, a mount of this log spends nothing.
abbrev pub LogSpecsOweNothing : Type 0
LogSpecsOweNothing =
    (word : List ℕ) (image : Plain) (area : Area) → IsSpec word image
    → HasAreas image (area ∷ []) → area.role ≡ Fcb → LogOwes image area 0

-- If it has a mirror, neither the selector nor one of the two store areas owes anything. So they owe at
-- most so many, whatever the numbers are.
abbrev pub MirrorSpecsOweNothing : Type 0
MirrorSpecsOweNothing =
    (word : List ℕ) (image : Plain) (areas : List Area) → IsSpec word image
    → HasAreas image areas → AreMirrored areas → (due most : ℕ)
    → MirrorOwes areas image due most × BothOweIn areas image most

-- A job that begins with the blank image of a generated script is refused only for want of its
-- lines, never for the image or its damage.
abbrev pub BlanksLackLinesAlone : Type 0
BlanksLackLinesAlone =
    (kinds : List HandlerKind) (job : Job) (kind : StoreKind) (host : Outside) (old new : Stage)
    (refusal : Refusal)
    → job.start ≡ Blank kind → Refuses any_stores kinds job host old new refusal
    → LacksLines job host refusal

-- `gen` has lines of its own, so it is carried out, unless the host fails or memory runs out.
abbrev pub GenIsCarriedOut : Type 0
GenIsCarriedOut =
    (kinds : List HandlerKind) (words : List (List ℕ)) (out : Bor (List ℕ)) (kind : StoreKind) (n : ℕ)
    (old new : World) (result : Status)
    → IsCommand words (Gen out kind n) → ToolEnds any_stores kinds words old new result
    → IsCarriedOut result
