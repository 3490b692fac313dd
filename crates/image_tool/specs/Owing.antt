-- What an image owes to a mount does not depend on the list of its areas.
use Rattle.std.specs.Prelude.{ℕ, List, [], ◌∷◌}
use Rattle.flash_map.specs.declared.area.Area.{Area}
use Rattle.image_file.specs.Format.{Plain}
use Rattle.image_jobs.specs.Images.{HasAreas, OwesOf}
use Rattle.session_jobs.specs.LogJobs.{OwesIn as LogOwes}
use Rattle.session_jobs.specs.MirrorJobs.{BothOweIn, OwesIn as MirrorOwes}
use Rattle.image_tool.specs.Tool.{any_stores}

-- Lists of the areas of one image differ only in the unused bytes of their labels. If the image
-- owes at most so much with one of them, then it does so with any other.
abbrev pub SettingsOweAlike : Type 0
SettingsOweAlike =
    (image : Plain) (areas others : List Area) (most : ℕ)
    → HasAreas image areas → HasAreas image others
    → OwesOf any_stores areas image most → OwesOf any_stores others image most

-- the same of a log
abbrev pub LogsOweAlike : Type 0
LogsOweAlike =
    (image : Plain) (area other : Area) (most : ℕ)
    → HasAreas image (area ∷ []) → HasAreas image (other ∷ [])
    → LogOwes image area most → LogOwes image other most

-- and of a mirror, and of both of its areas
abbrev pub MirrorsOweAlike : Type 0
MirrorsOweAlike =
    (image : Plain) (areas others : List Area) (due most : ℕ)
    → HasAreas image areas → HasAreas image others
    → (MirrorOwes areas image due most → MirrorOwes others image due most)
    × (BothOweIn areas image most → BothOweIn others image most)
