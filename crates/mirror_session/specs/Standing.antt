-- What holds between two lines.
use Rattle.std.specs.Prelude.{◌≡◌, ◌≢◌, ℕ, ⊤, true, false, Option, Some, None, List}
use Rattle.std.specs.List.{slice_get}
use Rattle.flash_sim.specs.Device.{Device}
use Rattle.flash_map.specs.declared.area.Area.{Area}
use Rattle.flash_map.specs.declared.area.Geometry.{Geometry}
use Rattle.flash_map.specs.On.{on}
use Rattle.migrator.specs.Active.{active_on, selector_damage_on}
use Rattle.migrator.specs.Areas.{is_store}
use Rattle.mirror.specs.declared.mirror.Mirror.{Mirror}
use Rattle.mirror.specs.declared.sides.Side.{Side}
use Rattle.mirror.specs.Mirrored.{IsMirror}
use Rattle.mirror.specs.Mounting.{IsAtRest, SelectorRests}
use Rattle.mirror_session.specs.Bench.{Meanings, Moment, is_gone, state_of}
use Rattle.mirror_session.specs.State.{IsOn}

module _ {S : Type 0} (mounted_on : S → Area) (stands : S → Geometry → List (List ℕ) → Type 0)
    (m : Meanings) where
  -- the store is on the area at its place of the map, which shows no damage
  pub record IsSide (areas : List Area) (d : Device) (side : Side S) : Type 0 where
    pub there : slice_get areas side.place ≡ Some side.area
    pub stores : is_store side.area ≡ true
    pub sound : on m.damage d side.area ≡ None

  -- The mirror is on the two store areas of the map, and the selector names the trusted one. None
  -- of the three is damaged. A mount of the selector has nothing to do. With power on, both stores
  -- are up and hold the same settings, and the area that the selector names is the one that is read.
  pub record IsHeld (areas : List Area) (d : Device) (mirror : Mirror S) : Type 0 where
    pub trusted : IsSide areas d mirror.trusted
    pub other : IsSide areas d mirror.other
    pub apart : mirror.other.place ≢ mirror.trusted.place
    pub named : mirror.trusted.place ≡ active_on areas d
    pub sound : selector_damage_on areas d ≡ None
    pub rests : SelectorRests areas d
    pub up : d.is_on ≡ true
        → IsMirror mounted_on stands m.contents m.room m.prices d mirror.trusted mirror.other
    pub read : d.is_on ≡ true → is_gone areas d ≡ false

  -- the session is ready, if the last mount was whole and no area was replaced after it
  abbrev pub IsReady : List Area → Device → Option (Mirror S) → Type 0
  IsReady areas d None = ⊤
  IsReady areas d (Some mirror) = IsHeld areas d mirror

-- a mount has nothing to do
abbrev pub AtRest : Meanings → List Area → Device → Type 0
AtRest m areas d = IsAtRest m.damage m.contents m.rests areas d

-- this holds then, with power on
abbrev pub RestsNow : Meanings → List Area → Moment → Type 0
RestsNow m areas now = IsOn (state_of m areas now) → AtRest m areas now.device
