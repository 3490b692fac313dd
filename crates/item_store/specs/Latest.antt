-- The last entries of ids: a table of those that have bytes, up to a bound.
use Rattle.std.specs.Prelude.{◌≡◌, ℕ, ◌+◌, ◌<◌, ◌≤◌, List, [], ◌∷◌, ◌++◌, length, fold, Option, Some, None, Result, Ok, Err, ◌==◌, if◌then◌else◌}
use Rattle.std.specs.List.{All, AllPairs, AllWithin, Contains, HoldsAt}
use Rattle.std.specs.Option.{option_and_then}
use Rattle.flash_sim.specs.Device.{Device}
use Rattle.flash_map.specs.declared.area.Area.{Area}
use Rattle.flash_map.specs.declared.area.Geometry.{Geometry}
use Rattle.item_laws.specs.NextIds.{IsBehind}
use Rattle.item_store.specs.declared.entry.Placed.{Placed}
use Rattle.item_store.specs.declared.latest.LastSlots.{LastSlots}
use Rattle.item_store.specs.declared.seen.Seen.{Seen}
use Rattle.item_store.specs.SectorFormat.{SectorFormat}
use Rattle.item_store.specs.Listed.{format_on, entries_on}
use Rattle.item_store.specs.Seen.{HasSeen}

-- the last of these entries that has the id; it may be a delete
abbrev pub last_of_id : ℕ → List Placed → Option Placed
last_of_id id placed = fold (λ last p. if p.id == id then Some p else last) None placed

-- the entry, if it has bytes
abbrev pub with_bytes : Option Placed → Option Placed
with_bytes placed = option_and_then (λ p. if p.len == 0 then None else Some p) placed

-- the entry alone, or none if it has no bytes
abbrev pub held : Placed → List Placed
held p = if p.len == 0 then [] else p ∷ []

-- an id below the bound; if there is none, each id
abbrev pub IsKnown : Option ℕ → ℕ → Type 0
IsKnown None id = Unit {0}
IsKnown (Some bound) id = id < bound

-- each entry has a lesser id than those behind it
abbrev pub Rises : List Placed → Type 0
Rises entries = AllPairs (λ p q. p.id < q.id) entries

-- A table knows the ids below its bound: of each it has the last one of these entries, if that has
-- bytes. It has no other entries, and they stand in the order of their ids. These entries' ids are
-- below a limit.
pub record KnowsBelow (limit : ℕ) (last : LastSlots) (placed : List Placed) : Type 0 where
  pub covered : (id : ℕ) → IsKnown last.bound id
      → last_of_id id last.entries.items ≡ with_bytes (last_of_id id placed)
  pub within : All (λ p. IsKnown last.bound p.id) last.entries.items
  pub rises : Rises last.entries.items
  pub few : length last.entries.items ≤ 1024
  pub known : All (λ p. p.id < limit) placed

-- Among these entries are some with bytes, of so many different ids, none above the greatest.
pub record HadBytes (ids greatest : ℕ) (placed : List Placed) : Type 0 where
  pub entries : List Placed
  pub long : length entries ≡ ids
  pub rises : Rises entries
  pub up_to : All (λ p. p.id ≤ greatest) entries
  pub bytes : All (λ p. ¬ (p.len ≡ 0)) entries
  pub among : All (Contains placed) entries

-- The same of a table of 1024 places. It has a bound only if more ids than it has places had bytes,
-- none of them above the bound; otherwise it knows each id.
pub record Knows (limit : ℕ) (last : LastSlots) (placed : List Placed) : Type 0 where
  pub below : KnowsBelow limit last placed
  pub full : (bound : ℕ) → last.bound ≡ Some bound → HadBytes 1025 bound placed

-- the table knows the entries of an area
abbrev pub KnowsOn : (Geometry → SectorFormat) → Device → Area → LastSlots → Type 0
KnowsOn format_of d area last = Knows (format_on format_of d area).ids last (entries_on format_of d area)

-- a table knows these entries, and the ids of all of them were seen
pub record Covers (limit : ℕ) (last : LastSlots) (seen : Seen) (placed : List Placed) : Type 0 where
  pub covered : Knows limit last placed
  pub ids : HasSeen limit seen placed

-- ---- reading a table

-- at this place is the entry of an id, with lesser ones before it and greater ones behind it, or
-- none between them
abbrev pub Splits : List Placed → ℕ → Result ℕ ℕ → Type 0
Splits entries id (Ok at) =
    AllWithin (λ p. p.id < id) entries 0 at × HoldsAt (λ p. p.id ≡ id) entries at
    × AllWithin (λ p. id < p.id) entries (at + 1) (length entries)
Splits entries id (Err at) =
    AllWithin (λ p. p.id < id) entries 0 at × AllWithin (λ p. id < p.id) entries at (length entries)

-- the entry of the least id behind this one
abbrev pub IsNextIn : Option ℕ → List Placed → Option Placed → Type 0
IsNextIn after entries None = (id : ℕ) → IsBehind after id → last_of_id id entries ≡ None
IsNextIn after entries (Some next) =
    IsBehind after next.id
    × (last_of_id next.id entries ≡ Some next)
    × ((id : ℕ) → IsBehind after id → id < next.id → last_of_id id entries ≡ None)

-- ---- putting an entry into it

-- the one of the greatest id is taken out, and its id is the bound
pub record DropsGreatest (old new : LastSlots) : Type 0 where
  pub greatest : Placed
  pub entries : old.entries.items ≡ new.entries.items ++ greatest ∷ []
  pub bound : new.bound ≡ Some greatest.id
