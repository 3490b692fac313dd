-- What the backend gives the members of the trait.
use Rattle.std.specs.Prelude.{ℕ, Bool, false, List}
use Rattle.flash_sim.specs.declared.flash.Loss.{Loss}
use Rattle.flash_map.specs.declared.area.Area.{Area}
use Rattle.flash_map.specs.declared.area.Geometry.{Geometry}
use Rattle.backend_api.specs.Commands.{Command}
use Rattle.backend_api.specs.Map.{Map}
use Rattle.backend_api.specs.Room.{Room}
use Rattle.named_items.specs.NvsStore.{nvs_items, nvs_price, nvs_cap}
use Rattle.backend_nvs.specs.declared.backend.NvsBackend.{NvsBackend}
use Rattle.backend_nvs.specs.IdLayout.{nvs_room, settings_of}

abbrev pub settings_by : Area → Geometry → List (List ℕ) → Map
settings_by area geometry sectors = settings_of area (nvs_items area geometry sectors)

abbrev pub room_by : Area → Geometry → Room
room_by area geometry = nvs_room nvs_price nvs_cap geometry

-- No loss spells another setting.
abbrev pub chance_of : Area → Geometry → List (List ℕ) → Loss → Bool
chance_of area geometry sectors loss = false

abbrev pub TearsBy : Area → Geometry → Command → ℕ → Map → Map → Type 0
TearsBy area geometry command done before after = ⊥

abbrev pub area_of : NvsBackend → Area
area_of backend = backend.store.store.area

abbrev pub is_running : NvsBackend → Bool
is_running backend = backend.store.store.up
