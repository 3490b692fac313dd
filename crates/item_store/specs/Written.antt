-- Areas in which something is written.
use Rattle.std.specs.Prelude.{◌≡◌, ℕ, ◌<◌, false, List, length}
use Rattle.item_laws.specs.Area.{is_blank_at}
use Rattle.item_store.specs.SectorFormat.{SectorFormat}

-- some sector is not blank
pub record IsWritten (k : SectorFormat) (sectors : List (List ℕ)) : Type 0 where
  pub place : ℕ
  pub within : place < length sectors
  pub used : is_blank_at k.reading sectors place ≡ false
