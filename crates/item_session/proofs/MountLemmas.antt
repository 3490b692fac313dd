-- A mount as a line, as the code has it.
use Rattle.std.proofs.Common.{◌≡◌, ℕ, ◌-◌, false, [], ◌∷◌, List, None, Some, Result, Ok, Err, refl, ap, subst, ◌∙◌}
use Rattle.flash_sim.specs.Device.{Device}
use Rattle.flash_map.specs.declared.area.Area.{Area}
use Rattle.flash_map.specs.declared.area.Geometry.{Geometry}
use Rattle.flash_map.specs.declared.area.Role.{Role}
use Rattle.flash_map.specs.declared.faults.Damaged.{Damaged}
use Rattle.flash_map.specs.declared.faults.MountFault.{MountFault}
use Rattle.flash_map.specs.declared.faults.MountFault.TheVariants.{Damaged as HasDamage, PowerLost, NoMemory}
use Rattle.flash_map.specs.Area.{sector_size}
use Rattle.flash_map.specs.Faults.{mount_lost}
use Rattle.flash_map.specs.Spending.{SpendsBetween}
use Rattle.flash_map.specs.Touches.{Touches}
use Rattle.item_session.specs.declared.line.Line.TheVariants.{Mount}
use Rattle.item_session.specs.declared.answer.Answer.TheVariants as answers
use Rattle.item_store.specs.declared.store.Store.{Store}
use Rattle.item_store.specs.SectorFormat.{SectorFormat}
use Rattle.item_store.specs.Listed.{format_on}
use Rattle.item_store.specs.Stands.{MountEnds}
use Rattle.item_session.specs.Device.{turned_on}
use Rattle.item_session.specs.LineDone.{LineDone}
use Rattle.item_session.specs.Standing.{IsMounted, ShowsDamage, damage_on}
use Rattle.item_session.proofs.LineLemmas.{mount_done, mount_lost as mount_cut}
use Rattle.item_session.proofs.StateLemmas.{sound_there}

module _ {T : Type 0} (role : Role) (format_of : Geometry → SectorFormat) (kept : Geometry → List ℕ → T) (area given : Area) (old mid new : Device) (on : mid ≡ turned_on old) (same : given ≡ area) (r : Result (Store T) MountFault)
    (touches : Touches (given ∷ []) mid new (mount_lost r)) (ends : MountEnds role format_of kept mid new given r)
    (most : SpendsBetween mid new 0 ((format_on format_of mid given).units.mount (sector_size mid given))) where
  ended : (x : Result (Store T) MountFault) → r ≡ x → MountEnds role format_of kept (turned_on old) new area x
  ended x is =
      subst (λ (d : Device). MountEnds role format_of kept d new area x) on
      (subst (λ (a : Area). MountEnds role format_of kept mid new a x) same
      (subst (λ (y : Result (Store T) MountFault). MountEnds role format_of kept mid new given y) is ends))

  touched : (x : Result (Store T) MountFault) → r ≡ x → Touches (area ∷ []) (turned_on old) new (mount_lost x)
  touched x is =
      subst (λ (d : Device). Touches (area ∷ []) d new (mount_lost x)) on
      (subst (λ (a : Area). Touches (a ∷ []) mid new (mount_lost x)) same
      (subst (λ (y : Result (Store T) MountFault). Touches (given ∷ []) mid new (mount_lost y)) is touches))

  spends : SpendsBetween (turned_on old) new 0 ((format_on format_of old area).units.mount (sector_size old area))
  spends =
      subst (λ (d : Device). SpendsBetween d new 0 ((format_on format_of d area).units.mount (sector_size d area))) on
      (subst (λ (a : Area). SpendsBetween mid new 0 ((format_on format_of mid a).units.mount (sector_size mid a))) same most)

  units_same : (units : ℕ) → units ≡ new.spent - mid.spent → units ≡ new.spent - old.spent
  units_same units are = are ∙ ap (λ (d : Device). new.spent - d.spent) on

  -- ---- it was carried out

  module _ (store : Store T) (whole : r ≡ Ok store) where
    pub whole_line : (units : ℕ) → units ≡ new.spent - mid.spent → LineDone format_of area Mount (answers.Done units) old new
    whole_line units are =
        let e = ended (Ok store) whole in
        mount_done format_of area old new e.0 e.3 spends units (units_same units are) e.5 (e.4, e.6) (touched (Ok store) whole)

    pub whole_mounted : IsMounted role format_of kept new area (Some store)
    whole_mounted = let e = ended (Ok store) whole in (e.2, λ now. e.1)

    pub whole_before : damage_on format_of old area ≡ None
    whole_before = let e = ended (Ok store) whole in e.0

    pub whole_sound : damage_on format_of new area ≡ None
    whole_sound = let e = ended (Ok store) whole in let there = touched (Ok store) whole in sound_there format_of area old new there.banks e.3.undamaged

  -- ---- power was lost in it

  module _ (lost : r ≡ Err PowerLost) where
    pub lost_line : (units : ℕ) → units ≡ new.spent - mid.spent → LineDone format_of area Mount (answers.Lost units) old new
    lost_line units are =
        let e = ended (Err PowerLost) lost in
        mount_cut format_of area old new e.0 e.1 spends units (units_same units are) e.3 (e.2, e.4) (touched (Err PowerLost) lost)

    pub lost_off : new.is_on ≡ false
    lost_off = let cut = touched (Err PowerLost) lost in (cut.ends refl).off

    pub lost_before : damage_on format_of old area ≡ None
    lost_before = let e = ended (Err PowerLost) lost in e.0

    pub lost_sound : damage_on format_of new area ≡ None
    lost_sound = let e = ended (Err PowerLost) lost in let there = touched (Err PowerLost) lost in sound_there format_of area old new there.banks e.1.undamaged

  -- ---- it was not

  pub damaged_shown : (damaged : Damaged) → r ≡ Err (HasDamage damaged) → ShowsDamage format_of area old new damaged
  damaged_shown damaged is = let e = ended (Err (HasDamage damaged)) is in (e.0, e.1)

  pub memory_left : r ≡ Err NoMemory → new ≡ turned_on old
  memory_left is = ended (Err NoMemory) is
