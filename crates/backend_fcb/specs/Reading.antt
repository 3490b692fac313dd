-- How an area reads as settings.
use Rattle.std.specs.Prelude.{ℕ, List, length, filter, find, sum_by, Option, ◌==◌, nat_lt}
use Rattle.std.specs.List.{range_with_len}
use Rattle.std.specs.Option.{option_map, option_or}
use Rattle.flash_map.specs.Area.{sector_at}
use Rattle.flash_map.specs.declared.faults.Damaged.{Damaged}
use Rattle.flash_map.specs.declared.faults.Why.TheVariants.{Overfull}
use Rattle.fcb_ring.specs.declared.record.RecordAt.{RecordAt}
use Rattle.fcb_ring.specs.Entries.{states, entries, bodies}
use Rattle.fcb_ring.specs.Rings.{first_damage}
use Rattle.backend_api.specs.Map.{Map}
use Rattle.record_settings.specs.Room.{cap, put_cost}
use Rattle.record_settings.specs.Settings.{settings_of}

-- what the records of one sector that put a value cost
unfoldable pub puts_cost : ℕ → ℕ → List (RecordAt × List ℕ) → ℕ → ℕ
puts_cost limit unit list place =
    sum_by (λ entry. put_cost limit unit entry.1) (filter (λ entry. entry.0.sector == place) list)

-- the lowest sector in which these cost more than it has for them
unfoldable pub first_overfull : ℕ → ℕ → List (List ℕ) → Option ℕ
first_overfull limit unit sectors =
    find
    (λ place. nat_lt (cap unit (length (sector_at sectors place)))
    (puts_cost limit unit (entries unit sectors) place)) (range_with_len 0 (length sectors))

-- the damage of the ring, and then that of a sector with too many settings
abbrev pub damage_of : ℕ → ℕ → List (List ℕ) → Option Damaged
damage_of limit unit sectors =
    option_or (first_damage (states unit sectors))
    (option_map (λ place. record { sector = place; why = Overfull }) (first_overfull limit unit sectors))

-- the settings that these sectors hold
abbrev pub settings_in : ℕ → ℕ → List (List ℕ) → Map
settings_in limit unit sectors = settings_of limit (bodies (entries unit sectors))
