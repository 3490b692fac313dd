-- Stores that are up stand on areas without damage.
use Rattle.std.proofs.Common.{◌≡◌, ℕ, List, None, sym, ap, subst, ◌∙◌}
use Rattle.flash_sim.specs.Device.{Device}
use Rattle.flash_map.specs.declared.area.Area.{Area}
use Rattle.flash_map.specs.declared.area.Geometry.{Geometry}
use Rattle.flash_map.specs.Area.{geometry_of, sectors_of}
use Rattle.flash_map.specs.On.{on}
use Rattle.mirror.specs.declared.mirror.Mirror.{Mirror}
use Rattle.mirror.specs.declared.sides.Side.{Side}
use Rattle.mirror.specs.Mirrored.{FitBoth, IsMirror, SameSide, SideStands}
use Rattle.mirror.specs.Room.{FitsOn}
use Rattle.mirror_session.specs.Bench.{Meanings}

module _ {S : Type 0} (mounted_on : S → Area) (stands : S → Geometry → List (List ℕ) → Type 0) (m : Meanings) (d : Device) where
  pub side_sound : (side : Side S) → ((state : S) (geometry : Geometry) (sectors : List (List ℕ)) → stands state geometry sectors → m.damage (mounted_on state) geometry sectors ≡ None) → SideStands mounted_on stands d side
      → on m.damage d side.area ≡ None
  side_sound side reads up = subst (λ (a : Area). on m.damage d a ≡ None) up.here (reads side.store (geometry_of d (mounted_on side.store)) (sectors_of d (mounted_on side.store)) up.up)

  -- also as the areas were before
  pub sides_sound : (old new : Mirror S) → ((state : S) (geometry : Geometry) (sectors : List (List ℕ)) → stands state geometry sectors → m.damage (mounted_on state) geometry sectors ≡ None)
      → SameSide old.trusted new.trusted → SameSide old.other new.other → IsMirror mounted_on stands m.contents m.room m.prices d new.trusted new.other
      → (on m.damage d old.trusted.area ≡ None) × (on m.damage d old.other.area ≡ None)
  sides_sound old new reads same same_other up = (
    subst (λ (a : Area). on m.damage d a ≡ None) same.area (side_sound new.trusted reads up.trusted_stands),
    subst (λ (a : Area). on m.damage d a ≡ None) same_other.area (side_sound new.other reads up.other_stands),
  )

  -- and the settings of both fit those
  pub sides_fit : (old new : Mirror S) → SameSide old.trusted new.trusted → SameSide old.other new.other → IsMirror mounted_on stands m.contents m.room m.prices d new.trusted new.other
      → FitBoth m.room m.prices d old.trusted.area old.other.area (on m.contents d old.trusted.area)
  sides_fit old new same same_other up = record {
    trusted_fits = subst (λ (a : Area). FitsOn m.room m.prices d a (on m.contents d a)) same.area up.trusted_fits;
    other_fits =
        subst (λ (a : Area). FitsOn m.room m.prices d a (on m.contents d old.trusted.area)) same_other.area
        (subst (λ (a : Area). FitsOn m.room m.prices d new.other.area (on m.contents d a)) same.area up.other_fits);
  }

  pub same_settings : (old new : Mirror S) → SameSide old.trusted new.trusted → SameSide old.other new.other → IsMirror mounted_on stands m.contents m.room m.prices d new.trusted new.other
      → on m.contents d old.other.area ≡ on m.contents d old.trusted.area
  same_settings old new same same_other up =
      sym (ap (λ (a : Area). on m.contents d a) same_other.area) ∙ up.same ∙ ap (λ (a : Area). on m.contents d a) same.area
