-- How opening ends, by how the mount ends.
use Rattle.std.proofs.Common.{◌≡◌, ℕ, List, [], ◌∷◌, Option, Some, ◌∙◌, true, refl, sym, ap, subst}
use Rattle.std.specs.Prelude.{Result, Ok, Err}
use Rattle.flash_sim.specs.Device.{Device}
use Rattle.flash_map.specs.declared.area.Area.{Area}
use Rattle.flash_map.specs.declared.faults.MountFault.{MountFault}
use Rattle.any_backend.specs.Standing.{area_of, is_up}
use Rattle.any_backend.specs.declared.backend.AnyBackend.{AnyBackend}
use Rattle.petaqwen.specs.Calls.{FailsToOpen, Mounts, Opens, partition}
use Rattle.petaqwen.specs.declared.subsystem.OpenFault.TheVariants.{Mount}

module _ {S : Type 0} (old new : Device) (areas : List Area) (label : List ℕ) (area : Area) (found : partition areas label ≡ Some area) where
  pub opens : (settings : S) (backend : AnyBackend) → Mounts old new area (Ok settings) → area_of backend ≡ area → is_up backend ≡ true → Opens old new areas areas label backend
  opens settings backend m here up = record {
    found = found ∙ ap (λ (a : Area). Some a) (sym here);
    same = refl;
    up = up;
    mounts = subst (λ (a : Area). Mounts {T = Unit {0}} old new a (Ok tt)) (sym here)
        (record { touches = m.touches; ends = m.ends; sound = m.sound; keeps = m.keeps; rests = m.rests; units = m.units });
  }

  pub fails : (fault : MountFault) → Mounts {T = S} old new area (Err fault) → FailsToOpen old new areas areas label (Mount fault)
  fails fault m = (area, found, record { touches = m.touches; ends = m.ends; sound = m.sound; keeps = m.keeps; rests = m.rests; units = m.units }, refl)
