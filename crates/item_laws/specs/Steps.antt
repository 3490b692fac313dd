-- What a step makes of one sector.
use Rattle.std.specs.Prelude.{◌≡◌, ℕ, true, false, List, [], ◌∷◌, ◌++◌}
use Rattle.item_laws.specs.Reading.{Reading, is_sound}

-- the sector's part of the list and its marks stay
pub record KeepsList (reading : Reading) (old new : List ℕ) : Type 0 where
  pub list : reading.pairs new ≡ reading.pairs old
  pub gc_done : reading.has_gc_done new ≡ reading.has_gc_done old
  pub closed : reading.is_closed new ≡ reading.is_closed old

-- the sector's part of the list has one more pair
pub record AddsPair (reading : Reading) (old new : List ℕ) (id : ℕ) (bytes : List ℕ) : Type 0 where
  pub list : reading.pairs new ≡ reading.pairs old ++ (id, bytes) ∷ []
  pub gc_done : reading.has_gc_done new ≡ reading.has_gc_done old
  pub closed : reading.is_closed new ≡ reading.is_closed old

-- gc-done stands in the sector, and its list stays
pub record MarksDone (reading : Reading) (old new : List ℕ) : Type 0 where
  pub list : reading.pairs new ≡ reading.pairs old
  pub gc_done : reading.has_gc_done new ≡ true
  pub closed : reading.is_closed new ≡ reading.is_closed old

-- the sector is closed, and its list stays
pub record Closes (reading : Reading) (old new : List ℕ) : Type 0 where
  pub list : reading.pairs new ≡ reading.pairs old
  pub gc_done : reading.has_gc_done new ≡ reading.has_gc_done old
  pub closed : reading.is_closed new ≡ true

-- what programming in a sector keeps
pub record IsFurther (reading : Reading) (old new : List ℕ) : Type 0 where
  pub used : reading.is_blank old ≡ false → reading.is_blank new ≡ false
  pub sound : is_sound reading new ≡ true
