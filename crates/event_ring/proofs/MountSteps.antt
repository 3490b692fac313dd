-- What mounting makes of a log.
use Rattle.std.proofs.Common.{◌≡◌, ℕ, ◌-◌, true, List, None, Result, Ok, Err, refl, sym, ap, subst, ◌∙◌}
use Rattle.flash_sim.specs.Bank.{IsLawful, bank_at}
use Rattle.flash_sim.specs.Device.{Device}
use Rattle.flash_sim.specs.declared.flash.Bank.{Bank}
use Rattle.flash_map.specs.declared.area.Area.{Area}
use Rattle.flash_map.specs.declared.faults.MountFault.{MountFault}
use Rattle.flash_map.specs.declared.faults.MountFault.TheVariants.{Damaged as HasDamage, PowerLost as MountLost, NoMemory}
use Rattle.std.proofs.lemmas.Option.{none-some}
use Rattle.flash_map.specs.Area.{unit_of, sector_size, sectors_of, value_limit}
use Rattle.flash_map.specs.Units.{padded}
use Rattle.fcb_ring.specs.Writing.{record_cost}
use Rattle.fcb_ring.proofs.AreaLemmas.{HasSize}
use Rattle.flash_map.specs.Faults.{mount_lost}
use Rattle.fcb_ring.specs.declared.ring.Ring.{Ring}
use Rattle.fcb_ring.specs.Changing.{StopsErasing}
use Rattle.fcb_ring.specs.Standing.{IsRingArea, KeepsEntries, MountEnds, mounted_on, ring_damage}
use Rattle.fcb_ring.proofs.AreaLemmas.{has_size}
use Rattle.event_ring.specs.Room.{IsFilled, room_on, longest_on}
use Rattle.event_ring.specs.Items.{items, items_on}
use Rattle.event_ring.specs.Standing.{KeepsItems, LogMounts}
use Rattle.event_ring.proofs.PartLemmas.{AreFilled}
use Rattle.event_ring.proofs.KeptLemmas.{items-mounted, items-mended, filled-mounted, filled-mended}

-- what holds of an area by its bank holds after a call that leaves the banks
pub by_banks : (P : List Bank → Type 0) (old new : Device) → new.banks ≡ old.banks → P old.banks → P new.banks
by_banks P old new banks p = subst P (sym banks) p

pub fields_same : (old new : Device) (area : Area) → new.banks ≡ old.banks → (unit_of new area ≡ unit_of old area) × (sector_size new area ≡ sector_size old area)
fields_same old new area banks = (ap (λ (b : List Bank). (bank_at b area.bank).unit) banks, ap (λ (b : List Bank). (bank_at b area.bank).sector) banks)

pub filled_by : (old new : Device) (area : Area) → new.banks ≡ old.banks → AreFilled (unit_of old area) (room_on old area) (longest_on old area) (sectors_of new area) → IsFilled new area
filled_by old new area banks filled =
    by_banks (λ (b : List Bank). AreFilled (bank_at b area.bank).unit ((bank_at b area.bank).sector - padded (bank_at b area.bank).unit 8) (record_cost (bank_at b area.bank).unit (value_limit area)) (sectors_of new area)) old new banks filled

module _ (old new : Device) (area : Area) (lawful : IsLawful old.banks old.bytes) (ring : IsRingArea old.banks area) (banks : new.banks ≡ old.banks) (none : ring_damage old area ≡ None) where
  has : HasSize (unit_of old area) (sector_size old area) (sectors_of old area)
  has = has_size old area lawful ring

  items-whole : sectors_of new area ≡ mounted_on old area → items_on new area ≡ items_on old area
  items-whole is =
      ap (λ (u : ℕ). items u (sectors_of new area)) (fields_same old new area banks).0 ∙ ap (items (unit_of old area)) is
      ∙ items-mounted (unit_of old area) (sector_size old area) (sectors_of old area) has none

  items-part : StopsErasing old new area → items_on new area ≡ items_on old area
  items-part stops =
      ap (λ (u : ℕ). items u (sectors_of new area)) (fields_same old new area banks).0 ∙ ap (items (unit_of old area)) stops.sectors
      ∙ items-mended (unit_of old area) (sector_size old area) (sectors_of old area) has none stops.done

  filled-after : AreFilled (unit_of old area) (room_on old area) (longest_on old area) (sectors_of new area) → IsFilled new area
  filled-after = filled_by old new area banks

  pub filled-whole : sectors_of new area ≡ mounted_on old area → IsFilled old area → IsFilled new area
  filled-whole is filled =
      filled-after (subst (AreFilled (unit_of old area) (room_on old area) (longest_on old area)) (sym is)
      (filled-mounted (unit_of old area) (sector_size old area) (sectors_of old area) has none (room_on old area) (longest_on old area) filled))

  pub filled-part : StopsErasing old new area → IsFilled old area → IsFilled new area
  filled-part stops filled =
      filled-after (subst (AreFilled (unit_of old area) (room_on old area) (longest_on old area)) (sym stops.sectors)
      (filled-mended (unit_of old area) (sector_size old area) (sectors_of old area) has none stops.done (room_on old area) (longest_on old area) filled))

  pub keeps-whole : KeepsEntries old new area → sectors_of new area ≡ mounted_on old area → KeepsItems old new area
  keeps-whole kept is = record { undamaged = kept.undamaged; items = items-whole is; filled = filled-whole is }

  pub keeps-part : KeepsEntries old new area → StopsErasing old new area → KeepsItems old new area
  keeps-part kept stops = record { undamaged = kept.undamaged; items = items-part stops; filled = filled-part stops }

-- what a mount of the ring says of each answer
pub ring-ok : (old new : Device) (area : Area) (result : Result Ring MountFault) (ring : Ring) → result ≡ Ok ring → MountEnds old new area 0 result → MountEnds old new area 0 (Ok ring)
ring-ok old new area result ring is ends = subst (λ (r : Result Ring MountFault). MountEnds old new area 0 r) is ends

pub ring-err : (old new : Device) (area : Area) (result : Result Ring MountFault) (fault : MountFault) → result ≡ Err fault → MountEnds old new area 0 result → MountEnds old new area 0 (Err fault)
ring-err old new area result fault is ends = subst (λ (r : Result Ring MountFault). MountEnds old new area 0 r) is ends

-- where it was refused
pub mount-err : (old new : Device) (area : Area) → IsLawful old.banks old.bytes → IsRingArea old.banks area → new.banks ≡ old.banks → (fault : MountFault)
    → MountEnds old new area 0 (Err fault) → (mount_lost {T = Ring} (Err fault) ≡ true → StopsErasing old new area) → (ring_damage old area ≡ None → KeepsEntries old new area) → LogMounts old new area (Err fault)
mount-err old new area lawful ring banks (HasDamage damaged) ends part list = ends
mount-err old new area lawful ring banks MountLost ends part list = (ends.0, keeps-part old new area lawful ring banks ends.0 (list ends.0) (part refl), ends.1)
mount-err old new area lawful ring banks NoMemory ends part list = ends

-- and what stays where the area shows no damage
pub mount-err-keeps : (old new : Device) (area : Area) → IsLawful old.banks old.bytes → IsRingArea old.banks area → new.banks ≡ old.banks → (fault : MountFault)
    → MountEnds old new area 0 (Err fault) → (mount_lost {T = Ring} (Err fault) ≡ true → StopsErasing old new area) → (ring_damage old area ≡ None → KeepsEntries old new area) → ring_damage old area ≡ None
    → KeepsItems old new area × (IsFilled old area → IsFilled new area)
mount-err-keeps old new area lawful ring banks (HasDamage damaged) ends part list none = absurd (none-some damaged (sym none ∙ ends.0))
mount-err-keeps old new area lawful ring banks MountLost ends part list none =
    (keeps-part old new area lawful ring banks none (list none) (part refl), filled-part old new area lawful ring banks none (part refl))
mount-err-keeps old new area lawful ring banks NoMemory ends part list none = absurd ends
