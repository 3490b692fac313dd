-- When a backend stands on its area, by its store. Each case says that the area has
-- the store's role.
use Rattle.std.specs.Prelude.{◌≡◌, ℕ, ◌≤◌, Bool, true, List, None}
use Rattle.std.proofs.Common.{sym, ap, subst, inl}
use Rattle.flash_sim.specs.Device.{Device}
use Rattle.flash_map.specs.Lawful.{IsLawfulFor}
use Rattle.flash_map.specs.On.{StandsOn}
use Rattle.flash_map.specs.declared.area.Area.{Area}
use Rattle.flash_map.specs.declared.area.Geometry.{Geometry}
use Rattle.flash_map.specs.declared.area.Role.{Role}
use Rattle.fcb_ring.specs.Standing.{is_up as is_up_stage}
use Rattle.fcb_ring.proofs.RestLemmas.{ready-rests}
use Rattle.flash_map.specs.declared.area.Role.TheVariants.{Nvs as NvsRole, Zms as ZmsRole, Fcb as FcbRole, Sel as SelRole}
use Rattle.backend_nvs.specs.Standing.{Stands as NvsStands, stands-rest as nvs-rest, owes-more as nvs-more}
use Rattle.backend_zms.specs.Standing.{Stands as ZmsStands, stands-rest as zms-rest, owes-more as zms-more}
use Rattle.backend_fcb.specs.Members.{rests-owe as fcb-owe, owes-more as fcb-more}
use Rattle.backend_fcb.specs.Standing.{Stands as FcbStands}
use Rattle.any_backend.specs.declared.backend.AnyBackend.{AnyBackend}
use Rattle.any_backend.specs.declared.backend.AnyBackend.TheVariants.{Nvs, Zms, Fcb}
use Rattle.any_backend.specs.ByRole.{serves_as, damage_as, rests_as, owes_as, any_serves, any_damage, any_rests, any_owes}

-- the area that it was mounted on
abbrev pub area_of : AnyBackend → Area
area_of (Nvs backend) = backend.store.store.area
area_of (Zms backend) = backend.store.store.area
area_of (Fcb backend) = backend.ring.area

-- it is up, and what it keeps in memory is true of these sectors of its area
abbrev pub Stands : AnyBackend → Geometry → List (List ℕ) → Type 0
Stands (Nvs backend) geometry sectors = NvsStands backend geometry sectors
Stands (Zms backend) geometry sectors = ZmsStands backend geometry sectors
Stands (Fcb backend) geometry sectors = FcbStands backend geometry.unit sectors

-- whether it is up: a call that answers `PowerLost` takes it down
abbrev pub is_up : AnyBackend → Bool
is_up (Nvs backend) = backend.store.store.up
is_up (Zms backend) = backend.store.store.up
is_up (Fcb backend) = is_up_stage backend.ring.stage

-- it stands on a lawful area
pub record IsReady (d : Device) (backend : AnyBackend) : Type 0 where
  pub lawful : IsLawfulFor d.banks (area_of backend)
  pub stands : StandsOn area_of Stands d backend

-- ---- laws

pub stands-up : (state : AnyBackend) (geometry : Geometry) (sectors : List (List ℕ))
    → Stands state geometry sectors → is_up state ≡ true
stands-up (Nvs backend) geometry sectors stands = stands.store.up
stands-up (Zms backend) geometry sectors stands = stands.store.up
stands-up (Fcb backend) geometry sectors stands = ap is_up_stage stands.ready

pub stands-serves : (state : AnyBackend) (geometry : Geometry) (sectors : List (List ℕ))
    → Stands state geometry sectors → any_serves (area_of state) geometry
stands-serves (Nvs backend) geometry sectors stands = subst serves_as (sym stands.store.role) tt
stands-serves (Zms backend) geometry sectors stands = subst serves_as (sym stands.store.role) tt
stands-serves (Fcb backend) geometry sectors stands = subst serves_as (sym stands.role) tt

pub stands-reads : (state : AnyBackend) (geometry : Geometry) (sectors : List (List ℕ))
    → Stands state geometry sectors → any_damage (area_of state) geometry sectors ≡ None
stands-reads (Nvs backend) geometry sectors stands =
    subst (λ (r : Role). damage_as r backend.store.store.area geometry sectors ≡ None) (sym stands.store.role)
    stands.store.undamaged
stands-reads (Zms backend) geometry sectors stands =
    subst (λ (r : Role). damage_as r backend.store.store.area geometry sectors ≡ None) (sym stands.store.role)
    stands.store.undamaged
stands-reads (Fcb backend) geometry sectors stands =
    subst (λ (r : Role). damage_as r backend.ring.area geometry sectors ≡ None) (sym stands.role)
    stands.undamaged

pub stands-rests : (state : AnyBackend) (geometry : Geometry) (sectors : List (List ℕ))
    → Stands state geometry sectors → any_rests (area_of state) geometry sectors
stands-rests (Nvs backend) geometry sectors stands =
    subst (λ (r : Role). rests_as r backend.store.store.area geometry sectors) (sym stands.store.role)
    (nvs-rest backend geometry sectors stands)
stands-rests (Zms backend) geometry sectors stands =
    subst (λ (r : Role). rests_as r backend.store.store.area geometry sectors) (sym stands.store.role)
    (zms-rest backend geometry sectors stands)
stands-rests (Fcb backend) geometry sectors stands =
    subst (λ (r : Role). rests_as r backend.ring.area geometry sectors) (sym stands.role)
    (ready-rests geometry.unit sectors backend.ring stands.ring stands.ready)

-- if a mount has nothing to do, it spends nothing
rests_owe_as : (role : Role) (area : Area) (geometry : Geometry) (sectors : List (List ℕ)) (most : ℕ)
    → rests_as role area geometry sectors → owes_as role area geometry sectors most
rests_owe_as NvsRole area geometry sectors most rests = inl rests
rests_owe_as ZmsRole area geometry sectors most rests = inl rests
rests_owe_as FcbRole area geometry sectors most rests = fcb-owe area geometry sectors most rests
rests_owe_as SelRole area geometry sectors most rests = rests

pub rests-owe : (area : Area) (geometry : Geometry) (sectors : List (List ℕ)) (most : ℕ)
    → any_rests area geometry sectors → any_owes area geometry sectors most
rests-owe area geometry sectors most rests = rests_owe_as area.role area geometry sectors most rests

-- an area that owes at most so many owes at most more
owes_more_as : (role : Role) (area : Area) (geometry : Geometry) (sectors : List (List ℕ)) (few most : ℕ)
    → few ≤ most → owes_as role area geometry sectors few → owes_as role area geometry sectors most
owes_more_as NvsRole area geometry sectors few most le owes = nvs-more area geometry sectors few most le owes
owes_more_as ZmsRole area geometry sectors few most le owes = zms-more area geometry sectors few most le owes
owes_more_as FcbRole area geometry sectors few most le owes = fcb-more area geometry sectors few most le owes
owes_more_as SelRole area geometry sectors few most le owes = owes

pub owes-more : (area : Area) (geometry : Geometry) (sectors : List (List ℕ)) (few most : ℕ) → few ≤ most
    → any_owes area geometry sectors few → any_owes area geometry sectors most
owes-more area geometry sectors few most le owes =
    owes_more_as area.role area geometry sectors few most le owes
