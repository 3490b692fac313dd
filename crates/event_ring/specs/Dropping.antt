-- The two steps of an append: dropping the oldest sector's records, and putting a record behind the
-- others.
use Rattle.std.specs.Prelude.{◌≡◌, ◌≢◌, ℕ, true, false, None, List, [], ◌∷◌, ◌++◌, Result, Ok, Err}
use Rattle.flash_sim.specs.Device.{Device}
use Rattle.flash_map.specs.Area.{sector_bytes}
use Rattle.flash_map.specs.Spending.{Spends, SpendsAtMost}
use Rattle.fcb_ring.specs.declared.ring.Ring.{Ring}
use Rattle.fcb_ring.specs.declared.writing.AppendFault.{AppendFault}
use Rattle.fcb_ring.specs.declared.writing.AppendFault.TheVariants.{Full, TooLong, PowerLost}
use Rattle.fcb_ring.specs.Chance.{HasNoChance}
use Rattle.fcb_ring.specs.Changing.{header_on, stays_for, is_scratch_left, units_for, next_place, CanAppend}
use Rattle.fcb_ring.specs.Rings.{turned}
use Rattle.fcb_ring.specs.Standing.{is_up, ring_damage}
use Rattle.event_ring.specs.Items.{Item, Whole, items_on, items_in}
use Rattle.event_ring.specs.Standing.{IsOpen, KeepsItems}
use Rattle.event_ring.specs.Appending.{drop_units, IsCut}
use Rattle.event_ring.specs.Room.{IsFilled}

-- The oldest sector's items are gone, and the scratch sector is the newest, with no record in it.
pub record Dropped (old new : Device) (before after : Ring) : Type 0 where
  pub rest : List Item
  pub items : items_on old before.area ≡ items_in old before.area before.oldest ++ rest
  pub left : items_on new before.area ≡ rest
  pub others :
      (place : ℕ) → place ≢ before.oldest → place ≢ next_place before
      → sector_bytes new before.area place ≡ sector_bytes old before.area place
  pub is_open : IsOpen new after
  pub oldest : after.oldest ≡ turned before.area.sectors before.oldest 1
  pub used : after.used ≡ before.used
  pub end : after.end ≡ header_on old before.area
  pub units : Spends old new (drop_units old before.area)

-- Power was lost before the oldest sector was erased, and all items stay.
pub record StopsDropping (old new : Device) (before after : Ring) : Type 0 where
  pub keeps : KeepsItems old new before.area
  pub lost : old.is_on ≡ true → HasNoChance new before.area
  pub down : is_up after.stage ≡ false
  pub units : SpendsAtMost old new (drop_units old before.area)

-- a record with this body stands behind the others
pub record IsPut (old new : Device) (before after : Ring) (body : List ℕ) : Type 0 where
  pub can : CanAppend old before body 0
  pub items : items_on new before.area ≡ items_on old before.area ++ Whole body ∷ []
  pub is_open : IsOpen new after
  pub undamaged : ring_damage new before.area ≡ None
  pub filled : IsFilled old before.area → IsFilled new before.area
  pub units : Spends old new (units_for old before body 0)

-- power was off, or was lost while it was put
pub record StopsPutting (old new : Device) (before after : Ring) (body : List ℕ) : Type 0 where
  pub can : CanAppend old before body 0
  pub cut : old.is_on ≡ true → IsCut old new before.area (items_on old before.area) body
  pub down : is_up after.stage ≡ false
  pub undamaged : ring_damage new before.area ≡ None
  pub filled : IsFilled old before.area → IsFilled new before.area
  pub units : SpendsAtMost old new (units_for old before body 0)

-- how a put behind the others ends
abbrev pub PutEnds : {T : Type 0} → Device → Device → Ring → Ring → List ℕ → Result T AppendFault → Type 0
PutEnds old new before after body (Ok x) = IsPut old new before after body
PutEnds old new before after body (Err TooLong) = ⊥
PutEnds old new before after body (Err Full) =
    (stays_for old before body 0 ≡ false) × (is_scratch_left before ≡ true) × (new ≡ old) × (after ≡ before)
PutEnds old new before after body (Err PowerLost) = StopsPutting old new before after body
