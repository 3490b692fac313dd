-- How an area reads: its list of pairs, or its damage. The sectors are used round and round.
use Rattle.std.specs.Prelude.{ℕ, ◌+◌, ◌-◌, Bool, not, ◌&&◌, List, ◌++◌, length, Option, Some, unwrap_or, ◌==◌, if◌then◌else◌}
use Rattle.flash_map.specs.Area.{sector_at}
use Rattle.std.specs.List.{range_with_len, filter, find, flat_map, list_all, slice_get}
use Rattle.std.specs.Option.{option_map, option_or}
use Rattle.flash_map.specs.declared.faults.Damaged.{Damaged}
use Rattle.flash_map.specs.declared.faults.Why.{Why}
use Rattle.flash_map.specs.declared.faults.Why.TheVariants.{AllClosed, TwoOpen, Dirty, NoFence, Overfull}
use Rattle.item_laws.specs.Reading.{Reading}

-- ---- places, round the end of the area

abbrev pub places : List (List ℕ) → List ℕ
places sectors = range_with_len 0 (length sectors)

abbrev pub next : List (List ℕ) → ℕ → ℕ
next sectors place = if place + 1 == length sectors then 0 else place + 1

abbrev pub previous : List (List ℕ) → ℕ → ℕ
previous sectors place = if place == 0 then length sectors - 1 else place - 1

-- from the place after this one round to this one
abbrev pub round : ℕ → ℕ → List ℕ
round count place = range_with_len (place + 1) (count - (place + 1)) ++ range_with_len 0 (place + 1)

-- ---- the open sector

abbrev pub is_closed_at : Reading → List (List ℕ) → ℕ → Bool
is_closed_at reading sectors place = reading.is_closed (sector_at sectors place)

abbrev pub is_blank_at : Reading → List (List ℕ) → ℕ → Bool
is_blank_at reading sectors place = reading.is_blank (sector_at sectors place)

-- a sector that is not closed and follows a closed one
abbrev pub follows_closed : Reading → List (List ℕ) → ℕ → Bool
follows_closed reading sectors place =
    not (is_closed_at reading sectors place) && is_closed_at reading sectors (previous sectors place)

-- the sectors that are not closed and follow a closed one
abbrev pub openings : Reading → List (List ℕ) → List ℕ
openings reading sectors = filter (follows_closed reading sectors) (places sectors)

-- If there is no such sector, the open one is the first that is not blank, or sector 0.
unfoldable pub open_sector : Reading → List (List ℕ) → ℕ
open_sector reading sectors =
    unwrap_or (slice_get (openings reading sectors) 0)
    (unwrap_or (find (λ place. not (is_blank_at reading sectors place)) (places sectors)) 0)

-- ---- the list, with this sector open

-- The sector that is ignored during a garbage collection. Before gc-done it is the open sector,
-- whose copies are not complete yet. Once gc-done stands there, it is the next sector, the victim.
abbrev pub ignored_place : Reading → List (List ℕ) → ℕ → ℕ
ignored_place reading sectors open_place =
    if reading.has_gc_done (sector_at sectors open_place) then next sectors open_place else open_place

-- The next sector is closed only during a garbage collection. Then each sector but the ignored one
-- counts; otherwise each sector does.
abbrev pub counts_at : Reading → List (List ℕ) → ℕ → ℕ → Bool
counts_at reading sectors open_place place =
    not
    (is_closed_at reading sectors (next sectors open_place)
    && (place == ignored_place reading sectors open_place))

-- the pairs of the sectors that count, from the oldest sector to the open one
unfoldable pub area_pairs : Reading → List (List ℕ) → ℕ → List (ℕ × List ℕ)
area_pairs reading sectors open_place =
    flat_map (λ place. reading.pairs (sector_at sectors place))
    (filter (counts_at reading sectors open_place) (round (length sectors) open_place))

-- ---- damage

-- a sector whose fence and costs are checked: it counts and is not blank
abbrev pub looked_at : Reading → List (List ℕ) → ℕ → ℕ → Bool
looked_at reading sectors open_place place =
    counts_at reading sectors open_place place && not (is_blank_at reading sectors place)

-- the first sector at which this test holds
abbrev pub first_of_kind : Why → (ℕ → Bool) → List (List ℕ) → Option Damaged
first_of_kind why test sectors =
    option_map (λ place. record { sector = place; why = why }) (find test (places sectors))

-- the first kind of damage, at the first sector that shows it
unfoldable pub first_damage : Reading → List (List ℕ) → Option Damaged
first_damage reading sectors =
    let open_place = open_sector reading sectors in
    if list_all (is_closed_at reading sectors) (places sectors) then Some
    (record { sector = 0; why = AllClosed })
    else option_or
    (option_map (λ place. record { sector = place; why = TwoOpen })
    (slice_get (openings reading sectors) 1))
    (option_or
    (first_of_kind Dirty
    (λ place. not (is_closed_at reading sectors place) && not (place == open_place)
    && not (is_blank_at reading sectors place))
    sectors)
    (option_or
    (first_of_kind NoFence
    (λ place. looked_at reading sectors open_place place && not (reading.has_fence (sector_at sectors place)))
    sectors)
    (first_of_kind Overfull
    (λ place. looked_at reading sectors open_place place && reading.is_overfull (sector_at sectors place))
    sectors)))
