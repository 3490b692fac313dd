-- What a mount spends, and what a command that was cut leaves to it.
use Rattle.std.proofs.Common.{◌≡◌, ℕ, None, Result, sym, ap, subst, ◌∙◌, inl, inr, arith}
use Rattle.flash_sim.specs.Device.{Device, counted}
use Rattle.flash_map.specs.declared.area.Area.{Area}
use Rattle.flash_map.specs.declared.area.Geometry.{Geometry}
use Rattle.flash_map.specs.declared.faults.MountFault.{MountFault}
use Rattle.flash_map.specs.Area.{geometry_of}
use Rattle.flash_map.specs.On.{on, HoldsOn}
use Rattle.flash_map.specs.Spending.{SpendsAtMost}
use Rattle.backend_api.specs.Boot as api
use Rattle.backend_api.specs.Ends.{MountEnds}
use Rattle.named_items.specs.Pairs.{HasNoOrphans}
use Rattle.named_items.specs.Orphans.{KeepsSettings, HasOrphans, SpendsBooting, Owing}
use Rattle.named_items.specs.ZmsStore.{zms_damage, zms_items, zms_rests, zms_redo, zms_clear, zms_entry, zms_removal, zms-lean}
use Rattle.named_items.proofs.OrphanUnits.{mount-leaves, owing-spent, owing-left, cut-owing}
use Rattle.named_items.proofs.SpendSteps.{geometry-stays}
use Rattle.backend_zms.specs.IdLayout.{numbering_of}
use Rattle.backend_zms.specs.Standing.{Owes, boot_units, boot_units_of}

module _ (d e : Device) (area : Area) where
  -- a mount
  pub owed-spent : (limit : ℕ) → (HoldsOn zms_rests d area → HasNoOrphans (numbering_of area) (on zms_items d area) → e ≡ d)
      → SpendsBooting (numbering_of area) limit (zms_redo (geometry_of d area)) (zms_clear (geometry_of d area)) (zms_removal (geometry_of d area)) d e (on zms_items d area)
      → (most : ℕ) → api.Owes Owes d area most → SpendsAtMost d e most
  owed-spent limit idle spends most owes = elim owes [
    | inl rests ↦ (0, omega arith, ap (λ (x : Device). x.spent) (idle rests.store rests.clean) ∙ none d.spent)
    | inr owing ↦ owing-spent (numbering_of area) (on zms_items d area) (boot_units_of (geometry_of d area)) d e spends.boot most owing
  ]
    where
      none : (n : ℕ) → n ≡ counted n 0
      none n = omega arith

  -- what it leaves
  pub owed-left : {T : Type 0} (banks : e.banks ≡ d.banks) (r : Result T MountFault) → MountEnds (on zms_damage d area) d e r
      → (on zms_damage d area ≡ None → KeepsSettings (numbering_of area) (on zms_items d area) (on zms_items e area))
      → (HoldsOn zms_rests d area → HasNoOrphans (numbering_of area) (on zms_items d area) → e ≡ d)
      → (most : ℕ) → api.Owes Owes d area most → api.Owes Owes e area most
  owed-left banks r ends keeps idle most owes = elim owes [
    | inl rests ↦ subst (λ (x : Device). api.Owes Owes x area most) (sym (idle rests.store rests.clean)) (inl rests)
    | inr owing ↦ inr (subst (λ (k : Geometry). Owing (numbering_of area) (on zms_items e area) (boot_units_of k) most) (sym (geometry-stays d e area banks))
        (owing-left (numbering_of area) (on zms_items d area) (on zms_items e area) (boot_units_of (geometry_of d area))
        (mount-leaves (numbering_of area) (λ (x : Device). on zms_items x area) (on zms_damage d area) d e r ends keeps) most owing))
  ]

  -- and what a command that was cut does
  pub cut-owes : e.banks ≡ d.banks → HasOrphans (numbering_of area) (on zms_items e area) 1 → api.Owes Owes e area (boot_units area (geometry_of d area))
  cut-owes banks has =
      inr (subst (λ (k : Geometry). Owing (numbering_of area) (on zms_items e area) (boot_units_of k) (boot_units area (geometry_of d area))) (sym (geometry-stays d e area banks))
      (cut-owing (numbering_of area) (on zms_items e area) (zms_redo (geometry_of d area)) (zms_clear (geometry_of d area)) (zms_entry (geometry_of d area)) (zms_removal (geometry_of d area)) (zms-lean (geometry_of d area)) has))
