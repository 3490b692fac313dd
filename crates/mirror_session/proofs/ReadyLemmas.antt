-- A session that is ready stays so where the plan of losses alone changed.
use Rattle.std.proofs.Common.{ℕ, ◌&&◌, not, List, Option, Some, None, refl, sym, ap, subst, ◌∙◌}
use Rattle.flash_sim.specs.Device.{Device, Plan}
use Rattle.flash_map.specs.declared.area.Area.{Area}
use Rattle.flash_map.specs.declared.area.Geometry.{Geometry}
use Rattle.mirror.specs.declared.mirror.Mirror.{Mirror}
use Rattle.mirror.specs.declared.sides.Side.{Side}
use Rattle.mirror.specs.Mirrored.{IsMirror, SideStands}
use Rattle.mirror.specs.Trusted.{is_blank_at}
use Rattle.session.proofs.ActiveAreas.{active_still, selector_still}
use Rattle.mirror_session.specs.Bench.{Meanings, beside_in}
use Rattle.mirror_session.specs.LineDone.{SameButPlan}
use Rattle.mirror_session.specs.Standing.{IsHeld, IsReady, IsSide}

module _ {S : Type 0} (mounted_on : S → Area) (stands : S → Geometry → List (List ℕ) → Type 0) (m : Meanings) (areas : List Area) (d : Device) (plan : Plan) where
  abbrev other : Device
  other = record d { plan = plan }

  side_other : (side : Side S) → IsSide mounted_on stands m areas d side → IsSide mounted_on stands m areas other side
  side_other side is = record { there = is.there; stores = is.stores; sound = is.sound }

  stands_other : (side : Side S) → SideStands mounted_on stands d side → SideStands mounted_on stands other side
  stands_other side is = record { lawful = is.lawful; role = is.role; here = is.here; up = is.up }

  mirror_other : (trusted beside : Side S) → IsMirror mounted_on stands m.contents m.room m.prices d trusted beside → IsMirror mounted_on stands m.contents m.room m.prices other trusted beside
  mirror_other trusted beside is = record {
    trusted_stands = stands_other trusted is.trusted_stands;
    other_stands = stands_other beside is.other_stands;
    apart = is.apart;
    apart_too = is.apart_too;
    version = is.version;
    places = is.places;
    same = is.same;
    trusted_fits = record { cost = is.trusted_fits.cost; few = is.trusted_fits.few };
    other_fits = record { cost = is.other_fits.cost; few = is.other_fits.few };
  }

  held_other : (mirror : Mirror S) → IsHeld mounted_on stands m areas d mirror → IsHeld mounted_on stands m areas other mirror
  held_other mirror is = record {
    trusted = side_other mirror.trusted is.trusted;
    other = side_other mirror.other is.other;
    apart = is.apart;
    named = is.named ∙ sym (active_still areas d other refl (λ s at. refl));
    sound = selector_still areas d other refl (λ s at. refl) ∙ is.sound;
    rests = λ s at. is.rests s at;
    up = λ power. mirror_other mirror.trusted mirror.other (is.up power);
    read = λ power. ap (λ (p : ℕ). is_blank_at areas d p && not (is_blank_at areas d (beside_in areas p))) (active_still areas d other refl (λ s at. refl)) ∙ is.read power;
  }

  ready_other : (o : Option (Mirror S)) → IsReady mounted_on stands m areas d o → IsReady mounted_on stands m areas other o
  ready_other None is = tt
  ready_other (Some mirror) is = held_other mirror is

pub ready_still : {S : Type 0} (mounted_on : S → Area) (stands : S → Geometry → List (List ℕ) → Type 0) (m : Meanings) (areas : List Area) (old new : Device) (o : Option (Mirror S)) → SameButPlan old new → IsReady mounted_on stands m areas old o
    → IsReady mounted_on stands m areas new o
ready_still mounted_on stands m areas old new o same is =
    subst (λ (d : Device). IsReady mounted_on stands m areas d o) (sym same) (ready_other mounted_on stands m areas old new.plan o is)
