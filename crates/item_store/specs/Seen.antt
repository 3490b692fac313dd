-- Which ids some entries have, as far as a set of bits shows: a bit for each key of ids.
use Rattle.std.specs.Prelude.{◌≡◌, ◌⊎◌, false, ℕ, ◌+◌, ◌*◌, ◌/◌, ◌%◌, ◌^◌, ◌<◌, if◌then◌else◌, nat_lt, Bool, not, List, length, slice_index, is_some, ◌==◌, ◌∷◌, ◌++◌}
use Rattle.std.specs.Int.{bit_at}
use Rattle.std.specs.List.{All, flat_map, list_any}
use Rattle.item_laws.specs.Live.{all_placed, counted_in, live_in}
use Rattle.item_laws.specs.RoundParts.{places_after}
use Rattle.item_store.specs.declared.entry.Placed.{Placed}
use Rattle.item_store.specs.declared.seen.Seen.{Seen}
use Rattle.item_store.specs.SectorFormat.{SectorFormat, slots}

-- The key of an id, a number of 16 bits: of an id without bit 31 its low 16 bits, of one with it
-- bit 30, bits 4 to 15 and bits 0 to 2. So each id of 16 bits has a key of its own, and so have the
-- first eight names and the first eight values of a hash group.
unfoldable pub key_of : ℕ → ℕ
key_of id =
    if nat_lt id 0x8000_0000 then id % 0x1_0000 else id / 0x4000_0000 % 2 * 0x8000 + id % 0x1_0000 / 0x10 * 8
    + id % 8

-- The usual id of a key: it has bit 31 and the bits of the key, and no others. No id of 16 bits is
-- one.
unfoldable pub usual_id : ℕ → ℕ
usual_id key = 0x8000_0000 + key / 0x8000 * 0x4000_0000 + key % 0x8000 / 8 * 0x10 + key % 8

-- the entry's id is not the usual one of its key
abbrev pub is_other : Placed → Bool
is_other p = not (p.id == usual_id (key_of p.id))

-- its id has more than 16 bits
abbrev pub is_long : Placed → Bool
is_long p = not (nat_lt p.id 0x1_0000)

-- this bit of some bytes is set
abbrev pub has_bit : List ℕ → ℕ → Bool
has_bit bytes n = bit_at (slice_index bytes (n / 8)) (n % 8) == 1

-- The bits are those of the keys of these entries' ids, which are below a limit; `mixed` says
-- whether one of them is not the usual one of its key, and `long` whether one has more than 16
-- bits.
pub record HasSeen (limit : ℕ) (seen : Seen) (placed : List Placed) : Type 0 where
  pub bit : (key : ℕ) → key < 2 ^ 16 → has_bit seen.bits key ≡ list_any (λ p. key_of p.id == key) placed
  pub others : seen.mixed ≡ list_any is_other placed
  pub longs : seen.long ≡ list_any is_long placed
  pub known : All (λ p. p.id < limit) placed

-- If the key of this id was noted, this very id was: it and each noted one are the usual ones of
-- their keys, or all have 16 bits.
abbrev pub IsExact : Seen → ℕ → Type 0
IsExact seen id = (seen.mixed ≡ false × id ≡ usual_id (key_of id)) ⊎ (seen.long ≡ false × id < 2 ^ 16)

-- the entries of the sectors behind this one, in the round to the open one
abbrev pub behind : SectorFormat → List (List ℕ) → ℕ → ℕ → List Placed
behind k sectors current place =
    flat_map (counted_in (slots k) sectors current) (places_after (length sectors) current place)

-- a live entry stands in the slot of a sector
abbrev pub holds_live : SectorFormat → List (List ℕ) → ℕ → ℕ → Bool
holds_live k sectors place slot = is_some (live_in (slots k) sectors place slot)

-- These entries are all those that stand behind the one in a slot, each in another slot.
pub record AreBehind (k : SectorFormat) (sectors : List (List ℕ)) (p : Placed) (later : List Placed)
    : Type 0 where
  pub prefix : List Placed
  pub split : all_placed (slots k) sectors ≡ prefix ++ p ∷ later
  pub apart : All (λ q. q.sector ≡ p.sector → q.slot ≡ p.slot → ⊥) later
