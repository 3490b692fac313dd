-- A mount as a line, as the code has it.
use Rattle.std.proofs.Common.{◌≡◌, ℕ, ◌-◌, ◌≤◌, true, false, [], ◌∷◌, Option, None, Some, Result, Ok, Err, ap, subst, ◌∙◌}
use Rattle.flash_sim.specs.Device.{Device}
use Rattle.flash_map.specs.declared.area.Area.{Area}
use Rattle.flash_map.specs.declared.faults.Damaged.{Damaged}
use Rattle.flash_map.specs.declared.faults.MountFault.{MountFault}
use Rattle.flash_map.specs.declared.faults.MountFault.TheVariants.{Damaged as HasDamage, PowerLost, NoMemory}
use Rattle.flash_map.specs.Faults.{mount_lost}
use Rattle.flash_map.specs.Touches.{Touches}
use Rattle.fcb_ring.specs.Standing.{erases_on, ring_damage}
use Rattle.event_ring.specs.declared.event_log.EventLog.{EventLog}
use Rattle.event_ring.specs.Standing.{LogMounts}
use Rattle.log_session.specs.declared.line.Line.TheVariants.{Mount}
use Rattle.log_session.specs.declared.answer.Answer.TheVariants.{Done, Lost}
use Rattle.log_session.specs.LineDone.{LineDone, turned_on}
use Rattle.log_session.specs.Standing.{IsMounted, ShowsDamage}
use Rattle.log_session.proofs.LineLemmas.{mount_done, mount_lost as mount_cut}

-- a mount of an area at rest does nothing
pub idle_mount : (area given : Area) (old mid new : Device) → mid ≡ turned_on old → given ≡ area → (erases_on mid given ≡ 0 → new ≡ mid) → erases_on old area ≡ 0 → new ≡ mid
idle_mount area given old mid new on same idle rests =
    idle (ap (λ (d : Device). erases_on d given) on ∙ ap (λ (a : Area). erases_on old a) same ∙ rests)

module _ (area given : Area) (old mid new : Device) (on : mid ≡ turned_on old) (same : given ≡ area) (r : Result EventLog MountFault)
    (touches : Touches (given ∷ []) mid new (mount_lost r)) (ends : LogMounts mid new given r) (left : erases_on new given ≤ erases_on mid given) where
  ended : (x : Result EventLog MountFault) → r ≡ x → LogMounts mid new area x
  ended x is =
      subst (λ (a : Area). LogMounts mid new a x) same
      (subst (λ (y : Result EventLog MountFault). LogMounts mid new given y) is ends)

  touched : (x : Result EventLog MountFault) → r ≡ x → Touches (area ∷ []) mid new (mount_lost x)
  touched x is =
      subst (λ (a : Area). Touches (a ∷ []) mid new (mount_lost x)) same
      (subst (λ (y : Result EventLog MountFault). Touches (given ∷ []) mid new (mount_lost y)) is touches)

  was : {o : Option Damaged} → ring_damage mid area ≡ o → ring_damage old area ≡ o
  was {o} is = subst (λ (d : Device). ring_damage d area ≡ o) on is

  less : erases_on new area ≤ erases_on mid area
  less = subst (λ (a : Area). erases_on new a ≤ erases_on mid a) same left

  powered : mid.is_on ≡ true
  powered = ap (λ (d : Device). d.is_on) on

  -- ---- it was carried out

  module _ (log : EventLog) (whole : r ≡ Ok log) where
    pub whole_line : (units : ℕ) → units ≡ new.spent - mid.spent → (erases_on old area ≡ 0 → new ≡ mid) → LineDone area Mount (Done units) old new
    whole_line units spent idle = let e = ended (Ok log) whole in mount_done area old mid new on e.0 e.3 idle less units spent e.4 (touched (Ok log) whole)

    pub whole_mounted : IsMounted new area (Some log)
    whole_mounted = let e = ended (Ok log) whole in (e.2, λ now. e.1)

    pub whole_before : ring_damage old area ≡ None
    whole_before = let e = ended (Ok log) whole in was e.0

    pub whole_sound : ring_damage new area ≡ None
    whole_sound = let e = ended (Ok log) whole in e.3.undamaged

  -- ---- power was lost in it

  module _ (lost : r ≡ Err PowerLost) where
    pub lost_line : (units : ℕ) → units ≡ new.spent - mid.spent → (erases_on old area ≡ 0 → new ≡ mid) → LineDone area Mount (Lost units false) old new
    lost_line units spent idle = let e = ended (Err PowerLost) lost in mount_cut area old mid new on e.0 e.1 idle less units spent e.2 (touched (Err PowerLost) lost)

    pub lost_off : new.is_on ≡ false
    lost_off = let cut = touched (Err PowerLost) lost in (cut.ends powered).off

    pub lost_before : ring_damage old area ≡ None
    lost_before = let e = ended (Err PowerLost) lost in was e.0

    pub lost_sound : ring_damage new area ≡ None
    lost_sound = let e = ended (Err PowerLost) lost in e.1.undamaged

  -- ---- it was not

  pub damaged_shown : (damaged : Damaged) → r ≡ Err (HasDamage damaged) → ShowsDamage area old new damaged
  damaged_shown damaged is = let e = ended (Err (HasDamage damaged)) is in (was e.0, e.1 ∙ on)

  pub has_memory : r ≡ Err NoMemory → ⊥
  has_memory is = ended (Err NoMemory) is
