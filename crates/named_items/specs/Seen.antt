-- The names that a walk over the items has met, as bits of a table.
use Rattle.std.specs.Prelude.{◌≡◌, ℕ, ◌+◌, ◌*◌, ◌/◌, ◌%◌, ◌^◌, ◌<◌, List, Some, fold, get_or}
use Rattle.std.specs.Int.{bit_at}
use Rattle.std.specs.FinMap.{get}
use Rattle.item_laws.specs.Items.{Items}
use Rattle.setting_name.specs.Name.{IsName}
use Rattle.named_items.specs.Numbering.{Numbering}
use Rattle.named_items.specs.Orphans.{IsCleanBelow}
use Rattle.named_items.specs.Pairs.{IsInside}

-- a hash of 32 bits
abbrev pub hash : List ℕ → ℕ
hash bytes = fold (λ hash byte. (hash * 31 % 2 ^ 32 + byte) % 2 ^ 32) 0 bytes

-- the bit of a hash: which word it is in, and which bit of that word it is
abbrev pub is_marked : List ℕ → ℕ → ℕ
is_marked words hash = bit_at (get_or words (hash / 32 % 512) 0) (hash % 32)

-- the bit of the name is set
abbrev pub Saw : List ℕ → List ℕ → Type 0
Saw words name = is_marked words (hash name) ≡ 1

-- the bits of all lawful names are set that stand as items below this id, at ids of names
abbrev pub SawBelow : Numbering → Items → List ℕ → ℕ → Type 0
SawBelow n items words id =
    (candidate : ℕ) (name : List ℕ) → IsInside n items candidate → candidate < id
    → get items candidate ≡ Some name → IsName name → Saw words name

-- A walk in rising order has come to this id: below it no orphan is left, and the set has the names.
pub record HasCome (n : Numbering) (items : Items) (words : List ℕ) (id : ℕ) : Type 0 where
  pub clean : IsCleanBelow n items id
  pub saw : SawBelow n items words id
