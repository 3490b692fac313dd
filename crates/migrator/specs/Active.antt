-- Which area of a map is active, by the records of the selector.
use Rattle.std.specs.Prelude.{ℕ, ◌-◌, ◌&&◌, ◌==◌, Bool, List, [], ◌∷◌, length, slice_index, Option, Some, None, unwrap_or, if◌then◌else◌}
use Rattle.std.specs.List.{filter_map}
use Rattle.std.specs.Option.{option_and_then, option_map, option_or}
use Rattle.flash_sim.specs.Device.{Device}
use Rattle.flash_map.specs.declared.area.Area.{Area}
use Rattle.flash_map.specs.declared.area.Geometry.{Geometry}
use Rattle.flash_map.specs.declared.faults.Damaged.{Damaged}
use Rattle.flash_map.specs.Area.{geometry_of, sectors_of}
use Rattle.fcb_ring.specs.declared.record.RecordAt.{RecordAt}
use Rattle.fcb_ring.specs.Entries.{entries, bodies}
use Rattle.fcb_ring.specs.Standing.{ring_damage}
use Rattle.migrator.specs.Areas.{is_store_at, first_store, selector_of}

-- the body of a choice: an index, and FF less the index
abbrev pub is_choice : List ℕ → Bool
is_choice body = (length body == 2) && (slice_index body 1 == 0xFF - slice_index body 0)

-- the store area that a record with this body names
unfoldable pub named : List Area → List ℕ → Option ℕ
named areas body =
    if is_choice body && is_store_at areas (slice_index body 0) then Some (slice_index body 0) else None

abbrev pub last : {X : Type 0} → List X → Option X
last [] = None
last (x ∷ list) = option_or (last list) (Some x)

-- the last of what `found` gives for the elements of a list
unfoldable pub latest : {X Y : Type 0} → (X → Option Y) → List X → Option Y
latest found list = last (filter_map found list)

-- the store area that is named by the last of these records that names one
abbrev pub chosen : List Area → List (List ℕ) → Option ℕ
chosen areas list = latest (named areas) list

-- a record that names a store area, and that area
abbrev pub choice_in : List Area → RecordAt × List ℕ → Option (RecordAt × ℕ)
choice_in areas entry = option_map (λ index. (entry.0, index)) (named areas entry.1)

-- the last of these records that names a store area, with that area
abbrev pub last_choice : List Area → List (RecordAt × List ℕ) → Option (RecordAt × ℕ)
last_choice areas list = latest (choice_in areas) list

abbrev pub last_record : List Area → List (RecordAt × List ℕ) → Option RecordAt
last_record areas list = option_map (λ (choice : RecordAt × ℕ). choice.0) (last_choice areas list)

-- the active area, by the sectors of a selector's area that shows no damage
abbrev pub active_by : List Area → Geometry → List (List ℕ) → ℕ
active_by areas geometry sectors =
    unwrap_or (chosen areas (bodies (entries geometry.unit sectors))) (first_store areas)

-- the active area, by the selector's area on a device
abbrev pub active_in : List Area → Device → Area → ℕ
active_in areas d selector = active_by areas (geometry_of d selector) (sectors_of d selector)

-- The active area of a map: the one that its selector names. Without a selector it is the
-- first store area.
abbrev pub active_with : List Area → Device → Option Area → ℕ
active_with areas d None = first_store areas
active_with areas d (Some selector) = active_in areas d selector

abbrev pub active_on : List Area → Device → ℕ
active_on areas d = active_with areas d (selector_of areas)

-- the damage that the map's selector shows, if it has one
abbrev pub selector_damage_on : List Area → Device → Option Damaged
selector_damage_on areas d = option_and_then (ring_damage d) (selector_of areas)
