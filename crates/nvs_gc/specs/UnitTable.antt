-- What the calls of an NVS store spend, in units: exactly so many at `Ok`, and at most so many at an
-- error. Costs are in bytes, and are whole units. The rows of single steps are clauses of `append`,
-- `copy_entry`, `put_done` and `put_close` of `nvs_store`.
use Rattle.std.specs.Prelude.{◌≡◌, ℕ, ◌+◌, ◌-◌, ◌*◌, ◌/◌, true, List, length, Some, None, Result, if◌then◌else◌}
use Rattle.std.specs.FinMap.{get}
use Rattle.flash_sim.specs.Device.{Device}
use Rattle.flash_sim.specs.declared.flash.PowerLost.{PowerLost}
use Rattle.flash_map.specs.declared.area.Area.{Area}
use Rattle.flash_map.specs.declared.faults.MountFault.{MountFault}
use Rattle.flash_map.specs.declared.faults.WriteFault.{WriteFault}
use Rattle.flash_map.specs.Area.{unit_of, sectors_of}
use Rattle.flash_map.specs.Spending.{SpendsAtMost, SpendsOrLoses}
use Rattle.item_laws.specs.Area.{next}
use Rattle.item_laws.specs.Forms.{to_copy}
use Rattle.item_laws.specs.PairRounds.{copies_cost}
use Rattle.nvs_store.specs.declared.scan.Redo.{Redo}
use Rattle.nvs_store.specs.declared.scan.Redo.TheVariants.{Nothing, EraseNext, CollectAgain}
use Rattle.nvs_store.specs.Geometry.{slot_size, cost}
use Rattle.nvs_store.specs.Scans.{reading, fits}
use Rattle.nvs_store.specs.On.{entry_units, is_blank_on, open_on, redo_on, scan_on, slot_units}
use Rattle.nvs_gc.specs.declared.nvs.Nvs.{Nvs}
use Rattle.nvs_gc.specs.Ends.{sector_units}
use Rattle.nvs_gc.specs.Standing.{items_on}

-- what the entries cost that a collection copies from its victim into this open sector
abbrev pub copied_cost : Device → Area → ℕ → ℕ
copied_cost d area place =
    copies_cost (cost (unit_of d area)) (to_copy (reading (unit_of d area)) (sectors_of d area) place)

-- ---- closing and collecting

-- With this sector open: nothing if it is blank, and the close entry alone if the victim is.
-- Otherwise the close entry, the copies, gc-done and an erase.
abbrev pub round_units : Device → Area → ℕ → ℕ
round_units d area place =
    let unit = unit_of d area in
    let opened = next (sectors_of d area) place in
    let victim = next (sectors_of d area) opened in
    if is_blank_on d area place then 0
    else (if is_blank_on d area victim then slot_size unit / unit
    else (2 * slot_size unit + copied_cost d area opened) / unit + 1)

abbrev pub RoundRow : {T : Type 0} → Device → Device → Area → ℕ → Result T PowerLost → Type 0
RoundRow old new area place result = SpendsOrLoses old new (round_units old area place) result

-- ---- mounting

-- By what there is to do: nothing, the erase of the victim, or a collection. Before a collection
-- the open sector is erased, unless it is blank.
abbrev pub mount_units : Device → Area → Redo → ℕ
mount_units d area Nothing = 0
mount_units d area EraseNext = 1
mount_units d area CollectAgain =
    let unit = unit_of d area in
    let place = open_on d area in
    (copied_cost d area place + slot_size unit) / unit + 1 + (if is_blank_on d area place then 0 else 1)

abbrev pub MountRow : Device → Device → Area → Result Nvs MountFault → Type 0
MountRow old new area result =
    SpendsOrLoses old new (mount_units old area (redo_on old area (open_on old area))) result

-- ---- writing

abbrev pub Holds : Device → Area → ℕ → List ℕ → Type 0
Holds d area id bytes = get (items_on d area) id ≡ Some bytes

-- Nothing for bytes that the item has. Just the entry if it fits the open sector. In any case at
-- most a round for each sector but one, and the entry.
pub record WriteRow {T : Type 0} (old new : Device) (area : Area) (id : ℕ) (bytes : List ℕ)
    (result : Result T WriteFault) : Type 0 where
  pub equal : Holds old area id bytes → SpendsOrLoses old new 0 result
  pub fitting : ¬ Holds old area id bytes
      → fits (unit_of old area) (scan_on old area) (length bytes) ≡ true
      → SpendsOrLoses old new (entry_units old area (length bytes)) result
  pub at_most :
      let rounds = (area.sectors - 1) * (sector_units old area + 1) in
      SpendsAtMost old new (rounds + entry_units old area (length bytes))

-- ---- deleting

abbrev pub IsAbsent : Device → Area → ℕ → Type 0
IsAbsent d area id = get (items_on d area) id ≡ None

-- Nothing for an id without an item. Just a slot if a delete fits the open sector. In any case at
-- most a round and a slot.
pub record DeleteRow {T : Type 0} (old new : Device) (area : Area) (id : ℕ) (result : Result T PowerLost) :
    Type 0 where
  pub absent : IsAbsent old area id → SpendsOrLoses old new 0 result
  pub fitting : ¬ IsAbsent old area id → fits (unit_of old area) (scan_on old area) 0 ≡ true
      → SpendsOrLoses old new (slot_units old area) result
  pub at_most : SpendsAtMost old new (sector_units old area + 1 + slot_units old area)
