-- What the backend gives the members of the trait.
use Rattle.std.specs.Prelude.{ℕ, Bool, false, List}
use Rattle.flash_sim.specs.declared.flash.Loss.{Loss}
use Rattle.flash_map.specs.declared.area.Area.{Area}
use Rattle.flash_map.specs.declared.area.Geometry.{Geometry}
use Rattle.backend_api.specs.Commands.{Command}
use Rattle.backend_api.specs.Map.{Map}
use Rattle.backend_api.specs.Room.{Room}
use Rattle.named_items.specs.ZmsStore.{zms_price, zms_cap}
use Rattle.backend_zms.specs.declared.backend.ZmsBackend.{ZmsBackend}
use Rattle.backend_zms.specs.IdLayout.{zms_room}

abbrev pub room_by : Area → Geometry → Room
room_by area geometry = zms_room zms_price zms_cap geometry

-- No loss spells another setting.
abbrev pub chance_of : Area → Geometry → List (List ℕ) → Loss → Bool
chance_of area geometry sectors loss = false

abbrev pub TearsBy : Area → Geometry → Command → ℕ → Map → Map → Type 0
TearsBy area geometry command done before after = ⊥

abbrev pub area_of : ZmsBackend → Area
area_of backend = backend.store.store.area

abbrev pub is_running : ZmsBackend → Bool
is_running backend = backend.store.store.up
