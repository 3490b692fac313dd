-- What an append makes of a log: it drops the records of the oldest sector, or none, and then adds
-- its own.
use Rattle.std.specs.Prelude.{◌≡◌, ◌⊎◌, ℕ, ◌+◌, ◌-◌, ◌<◌, ◌≤◌, Bool, true, false, not, ◌&&◌, ◌||◌, List, [], ◌∷◌, ◌++◌, length, take, replicate, Some, None, Result, Ok, Err, ◌==◌, nat_lt, if◌then◌else◌}
use Rattle.flash_sim.specs.Device.{Device}
use Rattle.flash_sim.specs.declared.flash.Loss.{Loss}
use Rattle.flash_map.specs.declared.area.Area.{Area}
use Rattle.flash_map.specs.Area.{unit_of, value_limit}
use Rattle.flash_map.specs.Spending.{Spends, SpendsAtMost, SpendsBetween}
use Rattle.fcb_ring.specs.declared.ring.Ring.{Ring}
use Rattle.fcb_ring.specs.Chance.{chance_on}
use Rattle.fcb_ring.specs.Changing.{header_units, cost_on, record_units, stays_for, is_scratch_left, units_for}
use Rattle.fcb_ring.specs.Standing.{is_up, ring_damage}
use Rattle.fcb_ring.specs.Writing.{record_cost}
use Rattle.event_ring.specs.declared.appending.LogFault.{LogFault}
use Rattle.event_ring.specs.declared.appending.LogFault.TheVariants.{TooLong, PowerLost}
use Rattle.event_ring.specs.Items.{Item, Whole, Torn, items_on, items_in, log_of, log_on, cost_in}
use Rattle.event_ring.specs.Room.{room_on, IsFilled, IsFull}
use Rattle.event_ring.specs.Standing.{IsOpen}

-- the body is empty, or longer than a value may be
abbrev pub is_too_long : Area → ℕ → Bool
is_too_long area len = (len == 0) || nat_lt (value_limit area) len

-- the call returned `PowerLost`
abbrev pub lost_in : {T : Type 0} → Result T LogFault → Bool
lost_in (Ok dropped) = false
lost_in (Err TooLong) = false
lost_in (Err PowerLost) = true

-- ---- what is dropped

-- The record does not fit behind those of the newest sector, and only the scratch sector is free.
abbrev pub drops_for : Device → Ring → List ℕ → Bool
drops_for d ring body = not (stays_for d ring body 0) && is_scratch_left ring

-- the items that are dropped: then those of the oldest sector, otherwise none
abbrev pub dropped_for : Device → Ring → List ℕ → List Item
dropped_for d ring body = if drops_for d ring body then items_in d ring.area ring.oldest else []

-- The items are those that are dropped, no more than a sector has room for, and behind them these.
-- A log in which no sector but the newest has room for the longest record drops only if it is full.
pub record Keeps (d : Device) (ring : Ring) (body : List ℕ) (rest : List Item) : Type 0 where
  pub items : items_on d ring.area ≡ dropped_for d ring body ++ rest
  pub one_sector : cost_in d ring.area (dropped_for d ring body) ≤ room_on d ring.area
  pub full : IsFilled d ring.area → drops_for d ring body ≡ true → IsFull d ring.area

-- the units of a drop: the header of the scratch sector, and the erase of the oldest
abbrev pub drop_units : Device → Area → ℕ
drop_units d area = header_units d area + 1

-- those of the append
abbrev pub append_units : Device → Ring → List ℕ → ℕ
append_units d ring body =
    if drops_for d ring body then drop_units d ring.area + record_units d ring.area (length body)
    else units_for d ring body 0

-- ---- how it ends

-- The record stands whole behind what was kept, and exactly so many records that check were
-- dropped. So the log has one more body, and the items cost as much more as the record does.
pub record Adds (old new : Device) (before after : Ring) (body : List ℕ) (dropped : ℕ) : Type 0 where
  pub rest : List Item
  pub kept : Keeps old before body rest
  pub count : dropped ≡ length (log_of (dropped_for old before body))
  pub items : items_on new before.area ≡ rest ++ Whole body ∷ []
  pub log : log_on new before.area ≡ log_of rest ++ body ∷ []
  pub cost :
      cost_in new before.area (items_on new before.area)
      ≡ cost_in old before.area rest + cost_on old before.area (length body)
  pub is_open : IsOpen new after
  pub undamaged : ring_damage new before.area ≡ None
  pub filled : IsFilled old before.area → IsFilled new before.area
  pub units : Spends old new (append_units old before body)

-- a prefix of a body, with FF behind it to its length
abbrev pub torn_body : List ℕ → ℕ → List ℕ
torn_body body n = take n body ++ replicate (length body - n) 0xFF

-- The items after a power loss: as before; or those kept; or those kept and a torn record of the
-- same cost; or those kept and the record. Or, by chance, those kept and a record whose body is a
-- proper prefix of this one, with FF behind it to its length.
abbrev pub LeavesItems : Bool → ℕ → List Item → List Item → List ℕ → List Item → Type 0
LeavesItems true unit before rest body after =
    (n : ℕ) × (n < length body) × (after ≡ rest ++ Whole (torn_body body n) ∷ [])
LeavesItems false unit before rest body after =
    (after ≡ before) ⊎ (after ≡ rest) ⊎ (after ≡ rest ++ Torn (record_cost unit (length body)) ∷ [])
    ⊎ (after ≡ rest ++ Whole body ∷ [])

-- The log after it: as before; or the bodies kept; or those and the body. Or, by chance, those and
-- a proper prefix of the body, with FF behind it to its length.
abbrev pub LeavesLog : Bool → List (List ℕ) → List (List ℕ) → List ℕ → List (List ℕ) → Type 0
LeavesLog true before rest body after =
    (n : ℕ) × (n < length body) × (after ≡ rest ++ torn_body body n ∷ [])
LeavesLog false before rest body after = (after ≡ before) ⊎ (after ≡ rest) ⊎ (after ≡ rest ++ body ∷ [])

-- the items that a power loss leaves determine the log that it leaves
abbrev pub ItemsGiveLog : Type 0
ItemsGiveLog =
    (by_chance : Bool) (unit : ℕ) (before rest : List Item) (body : List ℕ) (after : List Item)
    → LeavesItems by_chance unit before rest body after
    → LeavesLog by_chance (log_of before) (log_of rest) body (log_of after)

-- power was lost in the append, and left these items
pub record IsCut (old new : Device) (area : Area) (rest : List Item) (body : List ℕ) : Type 0 where
  pub loss : Loss
  pub last : new.last_loss ≡ Some loss
  pub items : LeavesItems (chance_on new area loss) (unit_of new area) (items_on old area) rest body
      (items_on new area)

-- Power was off, or was lost in the append. A drop comes first: all items stand, unless at least
-- its units were spent.
pub record Loses (old new : Device) (before after : Ring) (body : List ℕ) : Type 0 where
  pub rest : List Item
  pub kept : Keeps old before body rest
  pub cut : old.is_on ≡ true → IsCut old new before.area rest body
  pub order : drops_for old before body ≡ true
      → (items_on new before.area ≡ items_on old before.area)
      ⊎ SpendsBetween old new (drop_units old before.area) (append_units old before body)
  pub down : is_up after.stage ≡ false
  pub undamaged : ring_damage new before.area ≡ None
  pub filled : IsFilled old before.area → IsFilled new before.area
  pub units : SpendsAtMost old new (append_units old before body)

-- how an append ends
abbrev pub LogAppends : Device → Device → Ring → Ring → List ℕ → Result ℕ LogFault → Type 0
LogAppends old new before after body (Ok dropped) =
    (is_too_long before.area (length body) ≡ false) × Adds old new before after body dropped
LogAppends old new before after body (Err TooLong) =
    (is_too_long before.area (length body) ≡ true) × (new ≡ old) × (after ≡ before)
LogAppends old new before after body (Err PowerLost) =
    (is_too_long before.area (length body) ≡ false) × Loses old new before after body
