-- What a cache says of the entries that were noted in it, one after the other, and what is read at its places.
use Rattle.std.proofs.Common.{◌≡◌, ℕ, ◌+◌, ◌-◌, ◌%◌, ◌<◌, Bool, true, false, cond, eqb, List, [], ◌∷◌, ◌++◌, length, Option, Some, None, refl, sym, ap, subst, ◌∙◌, inl, inr, arith}
use Rattle.std.specs.Prelude.{IfSome}
use Rattle.std.specs.Option.{is_some, option_map}
use Rattle.std.proofs.lemmas.List.{length-set}
use Rattle.std.proofs.lemmas.List.Sums.{fold_push}
use Rattle.flash_sim.specs.Device.{Device}
use Rattle.flash_map.specs.declared.area.Area.{Area}
use Rattle.flash_map.specs.declared.area.Geometry.{Geometry}
use Rattle.flash_map.specs.Area.{geometry_of, sector_at, sectors_of}
use Rattle.lookup_cache.specs.Places.{CacheState, place_of, empty_cache, note_entry}
use Rattle.lookup_cache.proofs.HistoryLemmas.{note_at, empty_at}
use Rattle.item_laws.specs.Area.{open_sector}
use Rattle.item_laws.specs.Live.{all_placed}
use Rattle.item_laws.proofs.LiveLemmas.{option_cases, some_none}
use Rattle.item_store.specs.declared.entry.Placed.{Placed}
use Rattle.item_store.specs.Cached.{latest_of, stands_at, IsCacheOf, IsCacheOn, AddsEntry}
use Rattle.item_store.specs.SectorFormat.{SectorFormat, IsSectorFormat, placed_at, slots}
use Rattle.item_store.specs.Latest.{last_of_id}
use Rattle.item_store.specs.Listed.{IsPlaced}
use Rattle.item_store.specs.Steps.{new_entry}
use Rattle.item_store.proofs.CallFacts.{to_geometry, from_geometry}
use Rattle.item_store.proofs.LastIds.{Decides, decides_from}
use Rattle.item_store.proofs.Placings.{last-placed_by}
use Rattle.item_store.proofs.Tops.{no_top, top-noted}

-- ---- one entry more

pub cache-empty : IsCacheOf (empty_cache 64) []
cache-empty = record { slots = refl; latest = λ id. empty_at 64 id; tops = λ sector. inl (no_top 64 sector) }

pub cache-noted : (cache : CacheState) (before : List Placed) (p : Placed) → IsCacheOf cache before → IsCacheOf (note_entry cache p.id p.sector p.slot) (before ++ p ∷ [])
cache-noted cache before p is = record {
  slots = length-set cache.places (p.id % length cache.places) (Some (p.sector, p.slot)) ∙ is.slots;
  latest = λ id.
      note_at cache.places 64 p.id p.sector p.slot id is.slots (omega arith)
      ∙ here id (eqb (p.id % 64) (id % 64))
      ∙ sym (ap (option_map stands_at) (fold_push (λ latest p. cond (eqb (p.id % 64) (id % 64)) (Some p) latest) None before p));
  tops = top-noted cache.tops before p is.tops;
}
  where
    here : (id : ℕ) (same : Bool) → cond same (Some (p.sector, p.slot)) (place_of cache.places id) ≡ option_map stands_at (cond same (Some p) (latest_of (id % 64) before))
    here id true = refl
    here id false = is.latest id

-- the slot behind an entry that was put
pub entry-behind : (format_of : Geometry → SectorFormat) (a d : Device) (area : Area) (place id len : ℕ) → d.banks ≡ a.banks → (adds : AddsEntry (format_of (geometry_of a area)) (sectors_of a area) (sectors_of d area) place id len)
    → (behind : ℕ) → behind ≡ (format_of (geometry_of d area)).first + (format_of (geometry_of d area)).count (sector_at (sectors_of d area) place) → adds.slot + 1 ≡ behind
entry-behind format_of a d area place id len banks adds behind at =
    adds.last ∙ sym (to_geometry (λ u. behind ≡ (format_of u).first + (format_of u).count (sector_at (sectors_of d area) place)) a d area banks at)

-- an entry that was put, and noted where it stands
pub cache-put : (format_of : Geometry → SectorFormat) (a d : Device) (area : Area) (place id len : ℕ) → d.banks ≡ a.banks → AddsEntry (format_of (geometry_of a area)) (sectors_of a area) (sectors_of d area) place id len
    → (cache : CacheState) → IsCacheOn format_of a area cache → (noted : CacheState) (behind : ℕ) → behind ≡ (format_of (geometry_of d area)).first + (format_of (geometry_of d area)).count (sector_at (sectors_of d area) place)
    → noted ≡ note_entry cache id place (behind - 1) → IsCacheOn format_of d area noted
cache-put format_of a d area place id len banks adds cache is noted behind at noted_is =
    let k : SectorFormat = format_of (geometry_of a area) in
    let p : Placed = placed_at place (new_entry adds.slot id len) in
    let there = entry-behind format_of a d area place id len banks adds behind at in
    let same : adds.slot ≡ behind - 1 = omega arith in
    from_geometry (λ u. IsCacheOf noted (all_placed (slots (format_of u)) (sectors_of d area))) a d area banks
    (subst (λ (c : CacheState). IsCacheOf c (all_placed (slots k) (sectors_of d area))) (ap (λ (n : ℕ). note_entry cache id place n) same ∙ sym noted_is)
    (subst (λ (placed : List Placed). IsCacheOf (note_entry cache id place adds.slot) placed) (sym adds.list) (cache-noted cache (all_placed (slots k) (sectors_of a area)) p is)))

-- a place is noted for a cache slot exactly where one of the entries is its own
pub noted-some : (cache : CacheState) (placed : List Placed) → IsCacheOf cache placed → (id : ℕ) → is_some (place_of cache.places id) ≡ is_some (latest_of (id % 64) placed)
noted-some cache placed is id = ap is_some (is.latest id) ∙ mapped (latest_of (id % 64) placed)
  where
    mapped : (o : Option Placed) → is_some (option_map stands_at o) ≡ is_some o
    mapped None = refl
    mapped (Some p) = refl

-- ---- the latest of a cache slot, and the last of an id

latest-decides : (id : ℕ) (placed : List Placed) → Decides id (latest_of (id % 64) placed) (last_of_id id placed)
latest-decides id placed = decides_from (λ n. n % 64) id placed None None refl

pub latest-none : (id : ℕ) (placed : List Placed) → latest_of (id % 64) placed ≡ None → last_of_id id placed ≡ None
latest-none id placed is = subst (λ (o : Option Placed). Decides id o (last_of_id id placed)) is (latest-decides id placed)

pub latest-some : (id : ℕ) (placed : List Placed) (p : Placed) → latest_of (id % 64) placed ≡ Some p → p.id ≡ id → last_of_id id placed ≡ Some p
latest-some id placed p is same = subst (λ (o : Option Placed). Decides id o (last_of_id id placed)) is (latest-decides id placed) same

-- ---- the place of the latest one

-- The latest entry of a cache slot is this one, which stands in its slot.
pub record IsLatestAt (k : SectorFormat) (sectors : List (List ℕ)) (n sector slot : ℕ) : Type 0 where
  pub placed : Placed
  pub latest : latest_of n (all_placed (slots k) sectors) ≡ Some placed
  pub sector_is : placed.sector ≡ sector
  pub slot_is : placed.slot ≡ slot
  pub stands : IsPlaced k sectors (open_sector k.reading sectors) placed

-- it stands in its slot
pub latest-placed : (k : SectorFormat) (law : IsSectorFormat k) (sectors : List (List ℕ)) (n : ℕ) → 0 < length sectors → IfSome (latest_of n (all_placed (slots k) sectors)) (IsPlaced k sectors (open_sector k.reading sectors))
latest-placed k law sectors n some = last-placed_by k law sectors (λ p. eqb (p.id % 64) n) some

module _ (k : SectorFormat) (law : IsSectorFormat k) (sectors : List (List ℕ)) (cache : CacheState) (is : IsCacheOf cache (all_placed (slots k) sectors)) (some_sector : 0 < length sectors) (id : ℕ) where
  pub no-latest : place_of cache.places id ≡ None → latest_of (id % 64) (all_placed (slots k) sectors) ≡ None
  no-latest none =
      elim (option_cases (latest_of (id % 64) (all_placed (slots k) sectors))) [
        | inl no_entry ↦ no_entry
        | inr (p, found) ↦ absurd (some_none (stands_at p) (sym (ap (option_map stands_at) found) ∙ sym (is.latest id) ∙ none))
      ]

  pub latest-at : (sector slot : ℕ) → place_of cache.places id ≡ Some (sector, slot) → IsLatestAt k sectors (id % 64) sector slot
  latest-at sector slot at =
      elim (option_cases (latest_of (id % 64) (all_placed (slots k) sectors))) [
        | inl no_entry ↦
            let there : ℕ × ℕ = (sector, slot) in
            absurd (some_none there (sym at ∙ is.latest id ∙ ap (option_map stands_at) no_entry))
        | inr (p, found) ↦
            let there : ℕ × ℕ = (sector, slot) in
            let same : stands_at p ≡ there = same_some (stands_at p) there (sym (ap (option_map stands_at) found) ∙ sym (is.latest id) ∙ at) in
            record {
              placed = p;
              latest = found;
              sector_is = ap (λ (q : ℕ × ℕ). q.0) same;
              slot_is = ap (λ (q : ℕ × ℕ). q.1) same;
              stands = subst (λ (o : Option Placed). IfSome o (IsPlaced k sectors (open_sector k.reading sectors))) found (latest-placed k law sectors (id % 64) some_sector);
            }
      ]
    where
      same_some : (x y : ℕ × ℕ) → Some x ≡ Some y → x ≡ y
      same_some x y e = cc

-- what is read at that place
pub read-latest : (k : SectorFormat) (sectors : List (List ℕ)) (n sector slot : ℕ) (at : IsLatestAt k sectors n sector slot)
    → option_map (placed_at sector) (k.in_slot (sector_at sectors sector) slot) ≡ latest_of n (all_placed (slots k) sectors)
read-latest k sectors n sector slot at =
    ap (λ (j : ℕ). option_map (placed_at j) (k.in_slot (sector_at sectors j) slot)) (sym at.sector_is)
    ∙ ap (λ (m : ℕ). option_map (placed_at at.placed.sector) (k.in_slot (sector_at sectors at.placed.sector) m)) (sym at.slot_is)
    ∙ at.stands.listed.read
    ∙ sym at.latest

-- ---- what a look-up found is there

pub some_or : {X : Type 0} (o : Option X) (x : X) (P : Type 0) → o ≡ Some x → o ≡ None → P
some_or o x P some none = absurd (some_none x (sym some ∙ none))
