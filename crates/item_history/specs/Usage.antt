-- What the pairs of a list take up, and what room is left in an area.
use Rattle.std.specs.Prelude.{ℕ, ◌-◌, ◌*◌, List, [], ◌∷◌, length, ◌||◌, ◌==◌, if◌then◌else◌}
use Rattle.item_laws.specs.LivePairs.{names}
use Rattle.item_laws.specs.PairRounds.{copies_cost, live_cost}
use Rattle.item_store.specs.SectorFormat.{SectorFormat}
use Rattle.item_history.specs.declared.usage.Space.{Space}

-- The pairs that are not live: deletes, and those with a later pair of their id.
unfoldable pub stale_pairs : List (ℕ × List ℕ) → List (ℕ × List ℕ)
stale_pairs [] = []
stale_pairs (pair ∷ later) =
    if names pair.0 later || (length pair.1 == 0) then pair ∷ stale_pairs later else stale_pairs later

-- what they cost
abbrev pub stale_cost : (ℕ → ℕ) → List (ℕ × List ℕ) → ℕ
stale_cost price pairs = copies_cost price (stale_pairs pairs)

-- The space of an area of so many sectors of this size, with this list. One sector is kept for
-- garbage collection.
abbrev pub space_of : SectorFormat → ℕ → ℕ → List (ℕ × List ℕ) → Space
space_of k sectors size pairs = record {
  live = live_cost k.cost pairs;
  stale = stale_cost k.cost pairs;
  free = (sectors - 1) * k.cap size - live_cost k.cost pairs;
}
