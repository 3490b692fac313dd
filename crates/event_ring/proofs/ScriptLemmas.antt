-- What holds of an area that a script reached.
use Rattle.std.proofs.Common.{◌≡◌, ℕ, ◌-◌, ◌*◌, ◌<◌, true, false, List, length, Ok, Err, sym, subst}
use Rattle.flash_sim.specs.Bank.{IsLawful}
use Rattle.flash_sim.specs.Device.{Device}
use Rattle.flash_map.specs.declared.area.Area.{Area}
use Rattle.flash_map.specs.declared.faults.MountFault.TheVariants.{Damaged as HasDamage, PowerLost as MountLost, NoMemory}
use Rattle.flash_map.specs.Area.{unit_of, sectors_of}
use Rattle.fcb_ring.specs.declared.ring.Ring.{Ring}
use Rattle.event_ring.specs.declared.appending.LogFault.TheVariants.{TooLong, PowerLost}
use Rattle.event_ring.specs.Appending.{is_too_long, drops_for}
use Rattle.event_ring.specs.Items.{items_on, cost_in}
use Rattle.event_ring.specs.Room.{room_on, longest_on, IsFilled}
use Rattle.event_ring.specs.Scripts.{IsReached, Blank, Mounts, Appends, Stays}
use Rattle.event_ring.specs.Standing.{IsOpen}
use Rattle.event_ring.proofs.FullLemmas.{blank-filled, drops-full}
use Rattle.event_ring.proofs.MountSteps.{filled_by}
use Rattle.event_ring.proofs.PartLemmas.{AreFilled}

pub reached-filled : (area : Area) (d : Device) → IsReached area d → IsFilled d area
reached-filled _ _ (Blank area d lawful ring blank) = blank-filled d area lawful ring blank
reached-filled _ _ (Mounts area old new (Ok log) before (none, stands, same, keeps, units)) = keeps.filled (reached-filled area old before)
reached-filled _ _ (Mounts area old new (Err (HasDamage damaged)) before (is, same)) = subst (λ (x : Device). IsFilled x area) (sym same) (reached-filled area old before)
reached-filled _ _ (Mounts area old new (Err MountLost) before (none, keeps, units)) = keeps.filled (reached-filled area old before)
reached-filled _ _ (Mounts area old new (Err NoMemory) before never) = absurd never
reached-filled _ _ (Appends area old new ring after body (Ok dropped) before stands same (short, adds)) =
    subst (IsFilled new) same (adds.filled (subst (IsFilled old) (sym same) (reached-filled area old before)))
reached-filled _ _ (Appends area old new ring after body (Err TooLong) before stands same (long, flash, ring-same)) = subst (λ (x : Device). IsFilled x area) (sym flash) (reached-filled area old before)
reached-filled _ _ (Appends area old new ring after body (Err PowerLost) before stands same (short, loses)) =
    subst (IsFilled new) same (loses.filled (subst (IsFilled old) (sym same) (reached-filled area old before)))
reached-filled _ _ (Stays area old new before banks same) = filled-same old new area banks same (reached-filled area old before)
  where
    filled-same : (old new : Device) (area : Area) → new.banks ≡ old.banks → sectors_of new area ≡ sectors_of old area → IsFilled old area → IsFilled new area
    filled-same old new area banks same filled = filled_by old new area banks
        (subst (λ (l : List (List ℕ)). AreFilled (unit_of old area) (room_on old area) (longest_on old area) l) (sym same) filled)

pub drops-reached : (d : Device) (ring : Ring) (body : List ℕ) → IsReached ring.area d → IsLawful d.banks d.bytes → IsOpen d ring → is_too_long ring.area (length body) ≡ false → drops_for d ring body ≡ true
    → (ring.area.sectors - 1) * (room_on d ring.area - longest_on d ring.area) < cost_in d ring.area (items_on d ring.area)
drops-reached d ring body reached lawful stands short drops = drops-full d ring body lawful stands (reached-filled ring.area d reached) short drops
