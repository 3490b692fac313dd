-- What may be done with a lawful image.
use Rattle.std.specs.Prelude.{ℕ, ◌<◌, length}
use Rattle.flash_sim.specs.Bank.{IsLawful}
use Rattle.flash_map.specs.Lawful.{IsLawfulFor}
use Rattle.image_file.specs.Format.{Plain}
use Rattle.image_file.specs.Lawful.{IsImage, area_at}

-- a bench takes its banks and their bytes
abbrev pub MayBeLoaded : Type 0
MayBeLoaded = (image : Plain) → IsImage image → IsLawful image.banks image.bytes

-- a store of its role takes each of its areas
abbrev pub MayBeServed : Type 0
MayBeServed =
    (image : Plain) (i : ℕ) → IsImage image → i < length image.areas
    → IsLawfulFor image.banks (area_at image.areas i)
