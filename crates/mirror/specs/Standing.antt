-- When the store of a mirror stands on its area: when the backend under it does.
use Rattle.std.specs.Prelude.{◌≡◌, ℕ, Bool, true, List, None}
use Rattle.flash_map.specs.declared.area.Area.{Area}
use Rattle.flash_map.specs.declared.area.Geometry.{Geometry}
use Rattle.any_backend.specs.ByRole.{any_serves, any_damage, any_rests}
use Rattle.any_backend.specs.Standing as backend
use Rattle.mirror.specs.declared.store.MirrorStore.{MirrorStore}

-- the area that it was mounted on
abbrev pub area_of : MirrorStore → Area
area_of state = backend.area_of state.backend

-- it is up, and what it keeps in memory is true of these sectors of its area
abbrev pub Stands : MirrorStore → Geometry → List (List ℕ) → Type 0
Stands state geometry sectors = backend.Stands state.backend geometry sectors

-- whether it is up: a call that answers `PowerLost` takes it down
abbrev pub is_up : MirrorStore → Bool
is_up state = backend.is_up state.backend

-- ---- laws

pub stands-up : (state : MirrorStore) (geometry : Geometry) (sectors : List (List ℕ))
    → Stands state geometry sectors → is_up state ≡ true
stands-up state geometry sectors stands = backend.stands-up state.backend geometry sectors stands

pub stands-serves : (state : MirrorStore) (geometry : Geometry) (sectors : List (List ℕ))
    → Stands state geometry sectors → any_serves (area_of state) geometry
stands-serves state geometry sectors stands = backend.stands-serves state.backend geometry sectors stands

pub stands-reads : (state : MirrorStore) (geometry : Geometry) (sectors : List (List ℕ))
    → Stands state geometry sectors → any_damage (area_of state) geometry sectors ≡ None
stands-reads state geometry sectors stands = backend.stands-reads state.backend geometry sectors stands

pub stands-rests : (state : MirrorStore) (geometry : Geometry) (sectors : List (List ℕ))
    → Stands state geometry sectors → any_rests (area_of state) geometry sectors
stands-rests state geometry sectors stands = backend.stands-rests state.backend geometry sectors stands
