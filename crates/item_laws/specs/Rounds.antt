-- Collections and rounds of close and collect, on an area: what each makes of the parts of its
-- list.
use Rattle.std.specs.Prelude.{◌≡◌, ℕ, ◌+◌, ◌<◌, List, [], ◌∷◌, ◌++◌, length, map, All}
use Rattle.item_laws.specs.LivePairs.{live_pairs}
use Rattle.item_laws.specs.Items.{SameItems}
use Rattle.item_laws.specs.PairRounds.{copies_cost, collect_oldest}
use Rattle.item_laws.specs.Area.{next, area_pairs}
use Rattle.item_laws.specs.Forms.{AtRest, rest, pairs_at, to_copy}
use Rattle.item_laws.specs.Reading.{Reading}

-- the parts of an area at rest: of all sectors but the blank one after the open one
abbrev pub parts : Reading → List (List ℕ) → ℕ → List (List (ℕ × List ℕ))
parts reading sectors place =
    map (pairs_at reading sectors) (rest (length sectors) place) ++ pairs_at reading sectors place ∷ []

-- what a collection makes of an area: it is at rest with the same items, and the live pairs of the
-- victim are the open part
pub record Collects (reading : Reading) (old : List (List ℕ)) (place : ℕ) (new : List (List ℕ)) : Type 0 where
  pub form : AtRest reading new place
  pub items : SameItems (area_pairs reading new place) (area_pairs reading old place)
  pub parts : parts reading new place
      ≡ map (pairs_at reading old) (rest (length old) place) ++ to_copy reading old place ∷ []

-- what a round of close and collect makes of an area at rest
pub record IsRound (reading : Reading) (old : List (List ℕ)) (place : ℕ) (new : List (List ℕ)) : Type 0 where
  pub form : AtRest reading new (next old place)
  pub items : SameItems (area_pairs reading new (next old place)) (area_pairs reading old place)
  pub parts : parts reading new (next old place) ≡ collect_oldest (parts reading old place)

-- No sector of an area at rest has room for what is needed: each pair is live, and in each sector
-- but the blank one its pairs and what is needed cost more than a sector has for them.
pub record IsCrammed (reading : Reading) (price : ℕ → ℕ) (need capacity : ℕ) (sectors : List (List ℕ))
    (place : ℕ) : Type 0 where
  pub all_live : live_pairs (area_pairs reading sectors place) [] ≡ area_pairs reading sectors place
  pub full : All (λ part. capacity < copies_cost price part + need) (parts reading sectors place)
