-- Rounds of close and collect, on the parts of a list: one for each sector but the blank one before
-- the oldest, the oldest first, the open one last. What a pair takes up is a price by the length of
-- its bytes.
use Rattle.std.specs.Prelude.{◌≡◌, ℕ, ◌+◌, ◌<◌, List, [], ◌∷◌, ◌++◌, length, sum_by, All, ◌==◌, if◌then◌else◌}
use Rattle.std.specs.List.{flat_map}
use Rattle.item_laws.specs.LivePairs.{live_pairs}

-- what these pairs cost, each with its bytes
abbrev pub copies_cost : (ℕ → ℕ) → List (ℕ × List ℕ) → ℕ
copies_cost price pairs = sum_by (λ pair. price (length pair.1)) pairs

-- what those with bytes cost
abbrev pub stored_cost : (ℕ → ℕ) → List (ℕ × List ℕ) → ℕ
stored_cost price pairs = sum_by (λ pair. if length pair.1 == 0 then 0 else price (length pair.1)) pairs

-- one list of all parts
abbrev pub joined : {A : Type 0} → List (List A) → List A
joined parts = flat_map (λ part. part) parts

-- what all live pairs of a list cost
abbrev pub live_cost : (ℕ → ℕ) → List (ℕ × List ℕ) → ℕ
live_cost price pairs = copies_cost price (live_pairs pairs [])

-- The oldest part goes, and its live pairs are the new last part.
unfoldable pub collect_oldest : List (List (ℕ × List ℕ)) → List (List (ℕ × List ℕ))
collect_oldest [] = []
collect_oldest (victim ∷ others) = others ++ live_pairs victim (joined others) ∷ []

-- Rounds that make no room, whatever parts are lists of: `live` says what is live of a part before
-- others, `cost` what a part costs. So many rounds led from the parts at the start to those now,
-- each with the live ones of the oldest part as the new last part. Everything in the new parts is
-- live, and each of them, with what is needed, costs more than a sector has.
pub record LeavesNoRoom {A : Type 0} (live : List A → List A → List A) (cost : List A → ℕ) (need capacity : ℕ)
    (start now : List (List A)) (rounds : ℕ) : Type 0 where
  -- the parts that were not collected yet, and the new ones
  pub old : List (List A)
  pub new : List (List A)
  pub are : now ≡ old ++ new
  pub made : length new ≡ rounds
  pub left : rounds + length old ≡ length start
  pub all_live : live (joined new) [] ≡ joined new
  pub full : All (λ part. capacity < cost part + need) new

-- the same of lists of pairs
abbrev pub FindsNoRoom : (ℕ → ℕ) → ℕ → ℕ → List (List (ℕ × List ℕ)) → List (List (ℕ × List ℕ)) → ℕ → Type 0
FindsNoRoom price need capacity start now rounds =
    LeavesNoRoom live_pairs (copies_cost price) need capacity start now rounds
