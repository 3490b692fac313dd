-- What holds of the room of every area.
use Rattle.std.specs.Prelude.{◌≡◌, ℕ, ◌-◌, ◌*◌, ◌<◌, ◌≤◌, List, length}
use Rattle.flash_map.specs.Area.{sector_at}
use Rattle.item_laws.specs.PairRounds.{live_cost}
use Rattle.item_laws.specs.Area.{open_sector}
use Rattle.item_laws.specs.Forms.{AtRest}
use Rattle.item_store.specs.SectorFormat.{SectorFormat, IsSectorFormat}
use Rattle.item_store.specs.Standing.{list_of}

-- At rest the items cost no more than all sectors but one have room for, so the free space is
-- exactly what they leave of it.
abbrev pub ItemsFit : Type 0
ItemsFit =
    (k : SectorFormat) (sectors : List (List ℕ)) (size : ℕ)
    → IsSectorFormat k → 512 ≤ size
    → ((place : ℕ) → place < length sectors → length (sector_at sectors place) ≡ size)
    → AtRest k.reading sectors (open_sector k.reading sectors)
    → live_cost k.cost (list_of k sectors) ≤ (length sectors - 1) * k.cap size
