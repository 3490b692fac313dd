-- The state that lines on a mirror change and their answers report.
use Rattle.std.specs.Prelude.{◌≡◌, ℕ, Bool, true, false, List, Option, if◌then◌else◌}
use Rattle.backend_api.specs.Map.{Map}

pub record State : Type 0 where
  -- the settings of the mirror: those of the area that is read
  pub settings : Map
  -- the settings of the other area
  pub other : Map
  -- the place in the map of the area that the selector names
  pub named : ℕ
  -- that area is all FF and the other one is not, so the other one is read
  pub gone : Bool
  pub is_on : Bool
  -- the last mount was whole, and no area was replaced after it
  pub is_whole : Bool

abbrev pub IsOn : State → Type 0
IsOn state = state.is_on ≡ true

abbrev pub IsOff : State → Type 0
IsOff state = state.is_on ≡ false

-- What the table of answers knows of a flash: its two store areas, and what these refuse. It
-- knows no byte.
pub record Rules : Type 0 where
  -- the place of the other area, by the place of one of the two
  pub beside : ℕ → ℕ
  pub label : ℕ → List ℕ
  -- the place of the area that has the label
  pub place : List ℕ → Option ℕ
  -- the name would be one too many in one of them
  pub is_too_many : Map → List ℕ → Bool
  -- what a put needs and what all settings cost, in the first area that has no room for it
  pub lacks : Map → List ℕ → List ℕ → Option (ℕ × ℕ)
  -- the most units and erases of a command on both
  pub most : ℕ
  -- the flash's count of units at the end
  pub last : ℕ

-- the place of the area that is read, which is the trusted one
abbrev pub trusted_of : Rules → State → ℕ
trusted_of r s = if s.gone then r.beside s.named else s.named
