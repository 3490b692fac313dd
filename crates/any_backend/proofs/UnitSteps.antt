-- What the store of an area's role says of its mount, as the trait says it.
use Rattle.std.proofs.Common.{◌≡◌, ℕ, sym, subst}
use Rattle.flash_sim.specs.Device.{Device}
use Rattle.flash_map.specs.declared.area.Area.{Area}
use Rattle.flash_map.specs.declared.area.Role.{Role}
use Rattle.flash_map.specs.Area.{geometry_of, sectors_of}
use Rattle.flash_map.specs.Spending.{SpendsAtMost}
use Rattle.backend_api.specs.Boot.{MountUnits}
use Rattle.any_backend.specs.ByRole.{owes_as, any_owes}

pub mount-by : (d e : Device) (area : Area) (role : Role) (limit : ℕ) → area.role ≡ role → SpendsAtMost d e limit
    → ((most : ℕ) → owes_as role area (geometry_of d area) (sectors_of d area) most → SpendsAtMost d e most)
    → ((most : ℕ) → owes_as role area (geometry_of d area) (sectors_of d area) most → owes_as role area (geometry_of e area) (sectors_of e area) most)
    → MountUnits any_owes limit d e area
mount-by d e area role limit is at_most owed left = record {
  at_most = at_most;
  owed = λ most owes. owed most (subst (λ (r : Role). owes_as r area (geometry_of d area) (sectors_of d area) most) is owes);
  left = λ most owes. subst (λ (r : Role). owes_as r area (geometry_of e area) (sectors_of e area) most) (sym is)
      (left most (subst (λ (r : Role). owes_as r area (geometry_of d area) (sectors_of d area) most) is owes));
}
