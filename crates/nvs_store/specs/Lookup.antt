-- What a mount looks for from sector to sector.
use Rattle.std.specs.Prelude.{ℕ, Bool, not, ◌&&◌, List, Option, Some, None, ◌==◌}
use Rattle.item_laws.specs.Area.{is_closed_at, is_blank_at, follows_closed, looked_at}
use Rattle.flash_map.specs.Area.{sector_at}
use Rattle.nvs_store.specs.declared.places.Lookup.{Lookup}
use Rattle.nvs_store.specs.declared.places.Lookup.TheVariants.{NotClosed, Opening, NotBlank, Dirty, Unfenced, Full}
use Rattle.nvs_store.specs.Sector.{has_fence, is_overfull}
use Rattle.nvs_store.specs.Scans.{reading}

-- the sector that it names, if it names one
abbrev pub named : Lookup → Option ℕ
named NotClosed = None
named Opening = None
named NotBlank = None
named (Dirty current) = Some current
named (Unfenced current) = Some current
named (Full current) = Some current

-- whether the sector at a place matches
abbrev pub is_match : Lookup → ℕ → List (List ℕ) → ℕ → Bool
is_match NotClosed unit sectors place = not (is_closed_at (reading unit) sectors place)
is_match Opening unit sectors place = follows_closed (reading unit) sectors place
is_match NotBlank unit sectors place = not (is_blank_at (reading unit) sectors place)
is_match (Dirty current) unit sectors place =
    not (is_closed_at (reading unit) sectors place) && not (place == current)
    && not (is_blank_at (reading unit) sectors place)
is_match (Unfenced current) unit sectors place =
    looked_at (reading unit) sectors current place && not (has_fence unit (sector_at sectors place))
is_match (Full current) unit sectors place =
    looked_at (reading unit) sectors current place && is_overfull unit (sector_at sectors place)
