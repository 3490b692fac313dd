-- How a store's entries stand in the slots of a sector, and what they say. Definitions and laws on
-- live entries ask nothing else of a store.
use Rattle.std.specs.Prelude.{◌≡◌, ℕ, ◌+◌, ◌<◌, ◌≤◌, Bool, true, List, length, map, Option, Some}
use Rattle.std.specs.List.{filter_map, range_with_len}
use Rattle.item_laws.specs.Reading.{Reading}

-- An entry of a sector, and the same with the number of its sector.
pub record Entries (Entry Placed : Type 0) : Type 0 where
  pub reading : Reading
  -- those of a sector, in the order of their slots
  pub entries : List ℕ → List Entry
  -- the one in a slot
  pub in_slot : List ℕ → ℕ → Option Entry
  -- where the slots of a sector's list begin, and how many they are
  pub first : ℕ
  pub slots : List ℕ → ℕ
  -- the bytes of its entries lie in the sector
  pub is_sound : List ℕ → Bool
  pub placed_at : ℕ → Entry → Placed
  pub sector : Placed → ℕ
  pub slot : Placed → ℕ
  pub id : Placed → ℕ
  pub len : Placed → ℕ
  -- what an entry's bytes are in its sector
  pub bytes : List ℕ → Placed → List ℕ
  -- what bytes of this length and their entry take up
  pub cost : ℕ → ℕ

-- The entries are those of the slots, each in its own; the pairs of a sector are theirs.
pub record AreEntries {Entry Placed : Type 0} (k : Entries Entry Placed) : Type 0 where
  pub listed : (b : List ℕ) → k.entries b ≡ filter_map (k.in_slot b) (range_with_len k.first (k.slots b))
  pub sector : (place : ℕ) (e : Entry) → k.sector (k.placed_at place e) ≡ place
  pub slot : (b : List ℕ) (place n : ℕ) (e : Entry) → k.in_slot b n ≡ Some e
      → k.slot (k.placed_at place e) ≡ n
  pub pairs : (b : List ℕ) (place : ℕ)
      → k.reading.pairs b
      ≡ map (λ e. (k.id (k.placed_at place e), k.bytes b (k.placed_at place e))) (k.entries b)
  -- an entry's bytes are as long as it says
  pub long : (b : List ℕ) (place n : ℕ) (e : Entry) → k.is_sound b ≡ true → k.first ≤ n
      → n < k.first + k.slots b → k.in_slot b n ≡ Some e
      → length (k.bytes b (k.placed_at place e)) ≡ k.len (k.placed_at place e)
