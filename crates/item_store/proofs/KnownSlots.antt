-- Slots that are known to be of the lists of sectors.
use Rattle.std.proofs.Common.{◌≡◌, ℕ, ◌+◌, ◌-◌, ◌<◌, ◌≤◌, Bool, true, false, cond, eqb, List, [], length, sym, subst, inl, inr, arith}
use Rattle.std.proofs.lemmas.List.{get_or_past}
use Rattle.flash_sim.specs.Bank.{IsLawful}
use Rattle.flash_sim.specs.Device.{Device}
use Rattle.flash_map.specs.declared.area.Area.{Area}
use Rattle.flash_map.specs.declared.area.Geometry.{Geometry}
use Rattle.flash_map.specs.declared.area.Role.{Role}
use Rattle.flash_map.specs.Area.{geometry_of, sector_at, sectors_of}
use Rattle.lookup_cache.specs.Places.{CacheState, top_of}
use Rattle.item_laws.specs.Area.{open_sector}
use Rattle.item_store.specs.declared.store.Store.{Store}
use Rattle.item_store.specs.Cached.{IsCacheOn}
use Rattle.item_store.specs.Listed.{HasSlotsOn, IsPlaced, KnowsSlots, known_to}
use Rattle.item_store.specs.SectorFormat.{SectorFormat, IsSectorFormat}
use Rattle.item_store.specs.Stands.{StandsOn}
use Rattle.item_store.proofs.Placings.{all-are_placed}
use Rattle.item_store.proofs.ReadFacts.{some_sectors}

-- those up to a slot of the list
known_within : (first top count : ℕ) → top < first + count → known_to first top ≤ count
known_within first top count below = by_test (eqb top 0)
  where
    by_test : (b : Bool) → cond b 0 (top + 1 - first) ≤ count
    by_test true = let least : 0 ≤ count = omega arith in least
    by_test false = let up : top + 1 - first ≤ count = omega (arith, below) in up

known_zero : (first count : ℕ) → known_to first 0 ≤ count
known_zero first count = let least : 0 ≤ count = omega arith in least

-- no slot is known
pub known_none : (format_of : Geometry → SectorFormat) (d : Device) (area : Area) → KnowsSlots format_of d area []
known_none format_of d area = λ place.
    let k : SectorFormat = format_of (geometry_of d area) in
    subst (λ (n : ℕ). known_to k.first n ≤ k.count (sector_at (sectors_of d area) place)) (sym (get_or_past [] place 0 (omega arith)))
    (known_zero k.first (k.count (sector_at (sectors_of d area) place)))

-- the entries of the list stand in slots of it
pub known_cached : (format_of : Geometry → SectorFormat) (d : Device) (area : Area) → IsSectorFormat (format_of (geometry_of d area)) → 0 < length (sectors_of d area) → (cache : CacheState) → IsCacheOn format_of d area cache → KnowsSlots format_of d area cache.tops
known_cached format_of d area law some cache is = λ place.
    let k : SectorFormat = format_of (geometry_of d area) in
    let sectors : List (List ℕ) = sectors_of d area in
    elim (is.tops place) [
      | inl none ↦ subst (λ (n : ℕ). known_to k.first n ≤ k.count (sector_at sectors place)) (sym none) (known_zero k.first (k.count (sector_at sectors place)))
      | inr has ↦
          let placed : IsPlaced k sectors (open_sector k.reading sectors) has.entry =
          subst (IsPlaced k sectors (open_sector k.reading sectors)) has.among.2 (all-are_placed k law sectors some has.among.0 has.entry has.among.1) in
          let there : has.entry.slot < k.first + k.count (sector_at sectors place) =
          subst (λ (j : ℕ). has.entry.slot < k.first + k.count (sector_at sectors j)) has.in_sector placed.listed.listed in
          known_within k.first (top_of cache.tops place) (k.count (sector_at sectors place))
          (subst (λ (n : ℕ). n < k.first + k.count (sector_at sectors place)) has.in_slot there)
    ]

-- by what the code has: the tops of the store's cache
pub known_on : {T : Type 0} (role : Role) (format_of : Geometry → SectorFormat) (kept : Geometry → List ℕ → T) (d : Device) (store : Store T) → IsSectorFormat (format_of (geometry_of d store.area)) → IsLawful d.banks d.bytes → StandsOn role format_of kept d store
    → (tops : List ℕ) → tops ≡ store.cache.tops → KnowsSlots format_of d store.area tops
known_on role format_of kept d store law lawful on tops are =
    subst (λ (these : List ℕ). KnowsSlots format_of d store.area these) (sym are)
    (known_cached format_of d store.area law (some_sectors role format_of kept d store law lawful on) store.cache on.cached)

-- and how many slots of a sector it knows
pub known_in : (format_of : Geometry → SectorFormat) (d : Device) (area : Area) (tops : List ℕ) → KnowsSlots format_of d area tops → (place known : ℕ) → known ≡ known_to (format_of (geometry_of d area)).first (top_of tops place) → HasSlotsOn format_of d area place known
known_in format_of d area tops knows place known is =
    subst (λ (n : ℕ). n ≤ (format_of (geometry_of d area)).count (sector_at (sectors_of d area) place)) (sym is) (knows place)
