-- How the steps of a collection end, on a device. `held` is what a store keeps of the open sector.
use Rattle.std.specs.Prelude.{◌≡◌, ℕ, ◌<◌, true, List, Option, Result, OnOk, OnErr}
use Rattle.flash_sim.specs.Device.{Device}
use Rattle.flash_map.specs.declared.area.Area.{Area}
use Rattle.flash_map.specs.declared.area.Geometry.{Geometry}
use Rattle.flash_map.specs.Area.{sector_size, sectors_of}
use Rattle.item_laws.specs.Area.{next}
use Rattle.item_laws.specs.Forms.{AtRest, Collecting}
use Rattle.item_store.specs.declared.entry.Placed.{Placed}
use Rattle.item_store.specs.Collecting.{CollectsAt, CopiesOne, EmptiesVictim, HasOpened, KeepsOrRedoes, KeepsOrDoesPass, DoesPassAt, copy_units, redo_list, redo_of, redo_units}
use Rattle.item_store.specs.SectorFormat.{SectorFormat}
use Rattle.item_store.specs.Listed.{format_on, HasSlotOn}
use Rattle.item_store.specs.OnSector.{ChangesOnlyOn, IsKeptAfter, IsSoundOn, KeepsMarksOn, sector_on}
use Rattle.item_store.specs.Spending.{open_units, round_units}
use Rattle.item_store.specs.Standing.{SpendsIn, SpendsUpTo, list_of}

-- A slot of the victim, which is sound and not the open sector.
pub record IsVictimSlot (format_of : Geometry → SectorFormat) (d : Device) (on : Area)
    (current victim slot : ℕ) :
    Type 0 where
  pub inside : victim < on.sectors
  pub other : victim ≡ current → ⊥
  pub listed : HasSlotOn format_of d on victim slot
  pub source : IsSoundOn format_of d on victim
  pub within : (format_on format_of d on).within (sector_on d on victim) ≡ true

-- How the copy of an entry ends, or of none. A power loss keeps the marks of the open sector.
pub record CopyEnds {T X E : Type 0} (format_of : Geometry → SectorFormat) (keep : Geometry → List ℕ → T)
    (old new : Device) (on : Area) (place : ℕ) (entry : Option Placed) (held : T) (result : Result X E) :
    Type 0 where
  pub copies : OnOk result
      (CopiesOne (format_on format_of old on) (sectors_of old on) (sectors_of new on) place entry)
  pub kept : OnOk result (IsKeptAfter keep old new on place held)
  pub only : OnErr result (ChangesOnlyOn old new on place)
  pub lost : OnErr result (KeepsMarksOn format_of old new on place)
  pub spends : OnOk result (SpendsIn old new (copy_units (format_on format_of old on) entry))
  pub spends_lost : OnErr result (SpendsUpTo old new (copy_units (format_on format_of old on) entry))

-- How the redo of a mount ends. On `Ok` the area is at rest, and a victim is emptied. On `Err` it
-- was not at rest.
pub record RedoEnds {T X E : Type 0} (format_of : Geometry → SectorFormat) (keep : Geometry → List ℕ → T)
    (old new : Device) (on : Area) (place : ℕ) (held : T) (result : Result X E) : Type 0 where
  pub rested : OnOk result (AtRest (format_on format_of old on).reading (sectors_of new on) place)
  pub list :
      let k = format_on format_of old on in
      OnOk result
      (list_of k (sectors_of new on)
      ≡ redo_list k (sectors_of old on) place (redo_of k (sectors_of old on) place))
  pub list_lost : OnErr result
      (KeepsOrRedoes (format_on format_of old on) (sectors_of old on) (sectors_of new on) place)
  pub busy : OnErr result (AtRest (format_on format_of old on).reading (sectors_of old on) place → ⊥)
  pub empties :
      let k = format_on format_of old on in
      OnOk result
      (¬ AtRest k.reading (sectors_of old on) place
      → EmptiesVictim k (sectors_of old on) (sectors_of new on) place)
  pub collects :
      let k = format_on format_of old on in
      OnOk result
      (Collecting k.reading (sectors_of old on) place
      → CollectsAt k (sectors_of old on) (sectors_of new on) place)
  pub kept : OnOk result (IsKeptAfter keep old new on place held)
  pub spends :
      let k = format_on format_of old on in
      OnOk result
      (SpendsIn old new
      (redo_units k (sectors_of old on) place (redo_of k (sectors_of old on) place)))
  pub spends_lost :
      let k = format_on format_of old on in
      OnErr result
      (SpendsUpTo old new
      (redo_units k (sectors_of old on) place (redo_of k (sectors_of old on) place)))

-- How the next sector opens: made ready for entries, or with the collection of the sector behind
-- it.
pub record OpenEnds {T X E : Type 0} (format_of : Geometry → SectorFormat) (keep : Geometry → List ℕ → T)
    (old new : Device) (on : Area) (place : ℕ) (held : T) (result : Result X E) : Type 0 where
  pub opens :
      let k = format_on format_of old on in
      OnOk result
      (AtRest k.reading (sectors_of old on) place
      → HasOpened k (sectors_of old on) (sectors_of new on) place)
  pub collects :
      let k = format_on format_of old on in
      OnOk result
      (Collecting k.reading (sectors_of old on) place
      → CollectsAt k (sectors_of old on) (sectors_of new on) place)
  pub list_lost : OnErr result
      (KeepsOrRedoes (format_on format_of old on) (sectors_of old on) (sectors_of new on) place)
  pub kept : OnOk result (IsKeptAfter keep old new on place held)
  pub spends : OnOk result
      (SpendsIn old new (open_units (format_on format_of old on) (sectors_of old on) place))
  pub spends_lost : OnErr result
      (SpendsUpTo old new (open_units (format_on format_of old on) (sectors_of old on) place))

-- How a round ends. On `Ok` the next sector is open and the area at rest.
pub record RoundEndsOn {T X E : Type 0} (format_of : Geometry → SectorFormat) (keep : Geometry → List ℕ → T)
    (old new : Device) (on : Area) (place : ℕ) (held : T) (result : Result X E) : Type 0 where
  pub rested : OnOk result
      (AtRest (format_on format_of old on).reading (sectors_of new on) (next (sectors_of old on) place))
  pub list_lost : OnErr result
      (KeepsOrDoesPass (format_on format_of old on) (sectors_of old on) (sectors_of new on) place)
  pub kept : OnOk result (IsKeptAfter keep old new on (next (sectors_of old on) place) held)
  pub does_pass : OnOk result
      (DoesPassAt (format_on format_of old on) (sector_size old on) (sectors_of old on) (sectors_of new on)
      place)
  pub spends : OnOk result
      (SpendsIn old new (round_units (format_on format_of old on) (sectors_of old on) place))
  pub spends_lost : OnErr result
      (SpendsUpTo old new (round_units (format_on format_of old on) (sectors_of old on) place))
