-- What the calls that put an entry, gc-done or the close entry ask of their sector, and how they end.
-- Each comes in two forms: one is given what it has to know of the sector, the other views the sector
-- for it. `before` is the number of steps once that is known, and `after` the number at the end.
use Rattle.std.specs.Prelude.{ℕ, ◌+◌, ◌-◌, ◌<◌, ◌≤◌, ◌∷◌, [], List, length, is_err, Result, OnOk}
use Rattle.flash_sim.specs.Device.{Device}
use Rattle.flash_map.specs.declared.area.Area.{Area}
use Rattle.flash_map.specs.declared.copies.TheConstants.{COPY_PIECE}
use Rattle.flash_map.specs.declared.pieces.TheConstants.{PIECE}
use Rattle.flash_map.specs.Copies.{TakesViews}
use Rattle.flash_map.specs.Area.{OthersStay}
use Rattle.flash_map.specs.Touches.{Touches}
use Rattle.zms_cycle.specs.Areas.{IsZmsSector, kind_on}
use Rattle.zms_cycle.specs.Changes.{Closes, MarksDone}
use Rattle.zms_cycle.specs.OnArea.{IsSoundOn, FitsOn, IsClosableOn, free_on, entry_len_on, Makes, Adds, Copies, IsSource, ReadsGuard, ViewsAtMostOnce, copy_views, EntryEnds, DoneEnds, CloseEnds, closing_units}
use Rattle.zms_cycle.specs.Sector.{cost}

-- ---- an entry with a value of this length

pub record TakesEntry (d : Device) (on : Area) (sector id len : ℕ) : Type 0 where
  pub zms : IsZmsSector d on sector
  pub sound : IsSoundOn d on sector
  pub ordinary : id < 0xFFFFFFFF
  pub room : FitsOn d on sector len

pub record PutsEntry {X E : Type 0} (old new : Device) (on : Area) (sector id : ℕ) (bytes : List ℕ)
    (before after : ℕ) (result : Result X E) : Type 0 where
  pub touches : Touches (on ∷ []) old new (is_err result)
  pub others : OthersStay old new on sector
  pub ok : OnOk result (Adds old new on sector id bytes)
  pub ends : EntryEnds PIECE (length bytes) old new on sector result
  pub steps : ViewsAtMostOnce (kind_on old on) before after

-- ---- gc-done

pub record TakesDone (d : Device) (on : Area) (sector : ℕ) : Type 0 where
  pub zms : IsZmsSector d on sector
  pub sound : IsSoundOn d on sector
  pub room : 32 ≤ free_on d on sector

pub record PutsDone {X E : Type 0} (old new : Device) (on : Area) (sector before after : ℕ)
    (result : Result X E) : Type 0 where
  pub touches : Touches (on ∷ []) old new (is_err result)
  pub others : OthersStay old new on sector
  pub ok : OnOk result (Makes MarksDone old new on sector)
  pub ends : DoneEnds old new on sector result
  pub steps : ReadsGuard (kind_on old on) before after

-- ---- the copy of an entry

pub record TakesCopy (d : Device) (on : Area) (sector from_sector from_slot : ℕ) : Type 0 where
  pub zms : IsZmsSector d on sector
  pub sound : IsSoundOn d on sector
  pub source : IsSource d on sector from_sector from_slot
  pub room : cost (entry_len_on d on from_sector from_slot) + 48 ≤ free_on d on sector

pub record CopiesEntry {X E : Type 0} (old new : Device) (on : Area) (sector from_sector from_slot : ℕ)
    (before after : ℕ) (result : Result X E) : Type 0 where
  pub touches : Touches (on ∷ []) old new (is_err result)
  pub others : OthersStay old new on sector
  pub ok : OnOk result (Copies old new on sector from_sector from_slot)
  pub ends : EntryEnds COPY_PIECE (entry_len_on old on from_sector from_slot) old new on sector result
  pub views :
      let len = entry_len_on old on from_sector from_slot in
      TakesViews (copy_views (kind_on old on) len) before after result

-- ---- the close entry

pub record TakesClose (d : Device) (on : Area) (sector : ℕ) : Type 0 where
  pub zms : IsZmsSector d on sector
  pub sound : IsSoundOn d on sector
  pub closable : IsClosableOn d on sector

pub record ClosesSector {X E : Type 0} (old new : Device) (on : Area) (sector before after : ℕ)
    (result : Result X E) : Type 0 where
  pub touches : Touches (on ∷ []) old new (is_err result)
  pub others : OthersStay old new on sector
  pub ok : OnOk result (Makes Closes old new on sector)
  pub ends : CloseEnds old new on sector result
  pub steps : after ≤ before + (closing_units old on sector - 1)
