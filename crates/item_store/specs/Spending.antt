-- How many units collections and rounds spend.
use Rattle.std.specs.Prelude.{ℕ, ◌+◌, max, Bool, ◌||◌, List, ◌==◌, if◌then◌else◌}
use Rattle.flash_map.specs.Area.{sector_at}
use Rattle.item_laws.specs.Area.{next, is_closed_at}
use Rattle.item_laws.specs.Forms.{to_copy}
use Rattle.item_laws.specs.PairRounds.{copies_cost}
use Rattle.item_store.specs.SectorFormat.{Range, SectorFormat, making_ready}

abbrev pub none : Range
none = record { least = 0; most = 0; lost = 0 }

-- One and then the other. A power loss in the other comes after the whole of the one.
abbrev pub both : Range → Range → Range
both one other = record {
  least = one.least + other.least;
  most = one.most + other.most;
  lost = max one.lost (one.most + other.lost);
}

-- the copies of these pairs
abbrev pub copies : SectorFormat → List (ℕ × List ℕ) → Range
copies k pairs = record {
  least = copies_cost (λ len. (k.units.any_copy len).least) pairs;
  most = copies_cost (λ len. (k.units.any_copy len).most) pairs;
  lost = copies_cost (λ len. (k.units.any_copy len).lost) pairs;
}

-- The steps of a collection into this open sector: the copies, gc-done, and the emptying of the
-- victim, which spends so much.
abbrev pub collect_with : SectorFormat → List (List ℕ) → ℕ → Range → Range
collect_with k sectors place emptying =
    both (copies k (to_copy k.reading sectors place)) (both k.units.any_done emptying)

-- The victim is the next sector, and its bytes say what its emptying spends.
abbrev pub victim_units : SectorFormat → List (List ℕ) → ℕ → Range
victim_units k sectors place = k.units.clear (sector_at sectors (next sectors place))

abbrev pub collect_units : SectorFormat → List (List ℕ) → ℕ → Range
collect_units k sectors place = collect_with k sectors place (victim_units k sectors place)

-- the open sector is made ready
abbrev pub ready_units : SectorFormat → List (List ℕ) → ℕ → Range
ready_units k sectors place = making_ready k (sector_at sectors place)

-- the open sector is made ready before
abbrev pub again_with : SectorFormat → List (List ℕ) → ℕ → Range → Range
again_with k sectors place emptying =
    both (ready_units k sectors place) (collect_with k sectors place emptying)

abbrev pub again_units : SectorFormat → List (List ℕ) → ℕ → Range
again_units k sectors place = again_with k sectors place (victim_units k sectors place)

-- A sector that just became the open one: if the next sector is closed, that is collected into it.
abbrev pub open_units : SectorFormat → List (List ℕ) → ℕ → Range
open_units k sectors place =
    if is_closed_at k.reading sectors (next sectors place) then again_units k sectors place
    else (if k.opens_ready then ready_units k sectors place else none)

-- Whether a round from this open sector has a victim: the sector after the next one, if it is
-- closed once this one is.
abbrev pub has_victim : SectorFormat → List (List ℕ) → ℕ → Bool
has_victim k sectors place =
    let victim = next sectors (next sectors place) in
    (victim == place) || is_closed_at k.reading sectors victim

-- The emptying of a round's victim, by its bytes before the round. With two sectors the victim is
-- the sector that the round closes, which was not clean.
abbrev pub round_clear : SectorFormat → List (List ℕ) → ℕ → Range
round_clear k sectors place =
    let victim = next sectors (next sectors place) in
    if victim == place then k.units.clear_closed else k.units.clear (sector_at sectors victim)

-- A round of close and collect from this open sector. Without a victim there is nothing to collect.
abbrev pub round_units : SectorFormat → List (List ℕ) → ℕ → Range
round_units k sectors place =
    let opened = next sectors place in
    both (k.units.close (sector_at sectors place))
    (if has_victim k sectors place then again_with k sectors opened (round_clear k sectors place)
    else (if k.opens_ready then ready_units k sectors opened else none))
