-- An area holds at most one item for each 8 bytes, since each item has an entry of its own.
use Rattle.std.specs.Prelude.{◌≡◌, ℕ, ◌≤◌, ◌<◌, List, length}
use Rattle.std.specs.FinMap as map
use Rattle.std.specs.Ordering.{nat_cmp}
use Rattle.std.specs.List.{cons_option, filter, filter_map, flat_map, prefix_len, range_with_len}
use Rattle.std.proofs.Common.{◌+◌, ◌-◌, ◌*◌, ◌/◌, suc, Bool, true, false, cond, eqb, Option, Some, None, [], ◌∷◌, ap, inl, inr, arith}
use Rattle.std.specs.Prelude.{fold}
use Rattle.std.proofs.Math.Nat.{mul-le-mul_left, mul-le-mul_right, div-mul-le_self}
use Rattle.std.proofs.lemmas.Bool.{cases_lt}
use Rattle.std.proofs.lemmas.Cmp.{nat_cmp_total}
use Rattle.std.proofs.lemmas.List.{length-append, length-map, length-take, get_or_past}
use Rattle.std.proofs.lemmas.List.FromFn.{length-range_with_len, length-map-range_with_len}
use Rattle.std.proofs.lemmas.Nat.{le-div}
use Rattle.flash_sim.specs.Bank.{IsLawful}
use Rattle.flash_sim.specs.Device.{Device}
use Rattle.flash_map.specs.declared.area.Area.{Area}
use Rattle.flash_map.specs.Area.{geometry_of, sector_at, sector_size, sectors_of, unit_of}
use Rattle.flash_map.specs.Lawful.{IsLawfulFor}
use Rattle.flash_map.specs.Units.{IsUnit}
use Rattle.flash_map.proofs.Places.{length-sector}
use Rattle.item_laws.specs.Items.{Items, items_of, with_pair}
use Rattle.item_laws.specs.Area.{area_pairs, counts_at, open_sector, round}
use Rattle.item_laws.specs.Reading.{Reading}
use Rattle.item_laws.specs.Slots.{Slot, slots, slot_at, used_slots}
use Rattle.item_laws.proofs.AreaReads.{length-sectors}
use Rattle.item_laws.proofs.Stays.{open_within}
use Rattle.nvs_store.specs.Geometry.{slot_size}
use Rattle.nvs_store.specs.Scans as nvs
use Rattle.nvs_store.specs.Sector as nvs_sector
use Rattle.nvs_store.proofs.SlotReads.{slot_size_bounds}
use Rattle.nvs_store.proofs.Views.{unit_is}
use Rattle.zms_cycle.specs.Sector as zms_sector
use Rattle.zms_format.specs.Area as zms
use Rattle.named_items.specs.StoreEnds.{most_items}

-- ---- a list of pairs gives at most one item for each pair

under : (t : Bool) (a b most : ℕ) → a ≤ most → b ≤ most → cond t a b ≤ most
under true a b most x y = x
under false a b most x y = y

put-le : (t : Bool) (items : Items) (id : ℕ) (bytes : List ℕ)
    → map.len (cond t (map.remove items id) (map.insert items id bytes)) ≤ map.len items + 1
put-le true items id bytes =
    let is = map.len-remove nat_cmp_total items id in
    let few =
    under (map.contains_key items id) (map.len items - 1) (map.len items) (map.len items + 1)
    (omega arith) (omega arith) in
    omega arith
put-le false items id bytes =
    let is = map.len-insert nat_cmp_total items id bytes in
    let few =
    under (map.contains_key items id) (map.len items) (map.len items + 1) (map.len items + 1)
    (omega arith) (omega arith) in
    omega arith

puts-le : (pairs : List (ℕ × List ℕ)) (items : Items)
    → map.len (fold with_pair items pairs) ≤ map.len items + length pairs
puts-le [] items = omega arith
puts-le (pair ∷ pairs) items =
    let one = put-le (eqb (length pair.1) 0) items pair.0 pair.1 in
    let rest = puts-le pairs (with_pair items pair) in
    omega arith

items-le : (pairs : List (ℕ × List ℕ)) → map.len (items_of pairs) ≤ length pairs
unfolding items_of
items-le pairs =
    let none : map.len (map.empty {X = List ℕ} {R = nat_cmp}) ≡ 0 = map.len-empty nat_cmp (List ℕ) in
    let all = puts-le pairs map.empty in
    omega arith

-- ---- a sector has at most one entry for each slot

kept-le : {X : Type 0} (test : X → Bool) (xs : List X) → length (filter test xs) ≤ length xs
kept-le test [] = omega arith
kept-le test (x ∷ xs) = by (test x) (kept-le test xs)
  where
    by : (t : Bool) → length (filter test xs) ≤ length xs
        → length (cond t (x ∷ filter test xs) (filter test xs)) ≤ length (x ∷ xs)
    by true rest = omega arith
    by false rest = omega arith

given-le : {X Y : Type 0} (gives : X → Option Y) (xs : List X) → length (filter_map gives xs) ≤ length xs
given-le gives [] = omega arith
given-le {Y = Y} gives (x ∷ xs) = by (gives x) (given-le gives xs)
  where
    by : (o : Option Y) → length (filter_map gives xs) ≤ length xs
        → length (cons_option o (filter_map gives xs)) ≤ length (x ∷ xs)
    by None rest = omega arith
    by (Some y) rest = omega arith

eighth : (size slot : ℕ) → 8 ≤ slot → size / slot ≤ size / 8
eighth size slot wide =
    let back : size / slot * slot ≤ size = div-mul-le_self size slot in
    let less : size / slot * 8 ≤ size / slot * slot = mul-le-mul_left (size / slot) wide in
    le-div (size / slot) size 8 (omega arith) (omega arith)

used-le : (is_used : Slot → Bool) (first size : ℕ) (sector : List ℕ) → 8 ≤ size
    → length (used_slots is_used first size sector) ≤ length sector / 8
unfolding used_slots
used-le is_used first size sector wide =
    let all : List Slot = slots first size sector in
    let part = length-take (prefix_len is_used (slots first size sector)) (slots first size sector) in
    let made = length-map-range_with_len (slot_at size sector) first (length sector / size - first) in
    let few = eighth (length sector) size wide in
    omega arith

nvs-sector : (unit : ℕ) → IsUnit unit → (sector : List ℕ)
    → length (nvs_sector.pairs unit sector) ≤ length sector / 8
nvs-sector unit is sector =
    let wide = (slot_size_bounds unit is).0 in
    let long = length-map (nvs_sector.entries unit sector) (nvs_sector.pair_of sector) in
    let given = given-le (nvs_sector.counting_entry unit) (nvs_sector.used_slots unit sector) in
    let used = used-le nvs_sector.is_used 1 (slot_size unit) sector wide in
    omega arith

zms-sector : (sector : List ℕ) → length (zms_sector.pairs sector) ≤ length sector / 8
zms-sector sector =
    let long = length-map (zms_sector.entries sector) (zms_sector.pair_of sector) in
    let given = given-le zms_sector.entry_in (zms_sector.valid_slots sector) in
    let used = used-le (zms_sector.is_valid (zms_sector.cycle_of sector)) 2 16 sector (omega arith) in
    omega arith

-- ---- all sectors

flat-le : (f : ℕ → List (ℕ × List ℕ)) (most : ℕ) → ((k : ℕ) → length (f k) ≤ most) → (places : List ℕ)
    → length (flat_map f places) ≤ length places * most
flat-le f most each [] = omega arith
flat-le f most each (place ∷ places) =
    let both = length-append (f place) (flat_map f places) in
    let one = each place in
    let rest = flat-le f most each places in
    let sum = more (length places) most in
    omega arith
  where
    more : (n m : ℕ) → suc n * m ≡ m + n * m
    more n m = grind arith

module _ (reading : Reading) (sectors : List (List ℕ)) (size : ℕ) (several : 2 ≤ length sectors)
    (each : (sector : List ℕ) → length (reading.pairs sector) ≤ length sector / 8)
    (long : (k : ℕ) → k < length sectors → length (sector_at sectors k) ≡ size) where
  one-le : (k : ℕ) → length (reading.pairs (sector_at sectors k)) ≤ size / 8
  one-le k =
      let few = each (sector_at sectors k) in
      elim (cases_lt k (length sectors)) [
        | inl within ↦ let same = long k within in omega arith
        | inr past ↦ let none : length (sector_at sectors k) ≡ 0 =
            ap length (get_or_past sectors k [] past) in omega arith
      ]

  all-le : length (area_pairs reading sectors (open_sector reading sectors)) ≤ length sectors * (size / 8)
  unfolding area_pairs
  all-le =
      let place : ℕ = open_sector reading sectors in
      let within : open_sector reading sectors < length sectors = open_within reading sectors (omega arith) in
      let counting :
      List ℕ = filter (counts_at reading sectors (open_sector reading sectors))
      (round (length sectors) (open_sector reading sectors)) in
      let kept =
      kept-le (counts_at reading sectors (open_sector reading sectors))
      (round (length sectors) (open_sector reading sectors)) in
      let prefix =
      length-range_with_len (open_sector reading sectors + 1)
      (length sectors - (open_sector reading sectors + 1)) in
      let back = length-range_with_len 0 (open_sector reading sectors + 1) in
      let both =
      length-append
      (range_with_len (open_sector reading sectors + 1)
      (length sectors - (open_sector reading sectors + 1)))
      (range_with_len 0 (open_sector reading sectors + 1)) in
      let flat =
      flat-le (λ (k : ℕ). reading.pairs (sector_at sectors k)) (size / 8) one-le
      (filter (counts_at reading sectors (open_sector reading sectors))
      (round (length sectors) (open_sector reading sectors))) in
      let wide :
      length
      (filter (counts_at reading sectors (open_sector reading sectors))
      (round (length sectors) (open_sector reading sectors))) * (size / 8)
      ≤ length sectors * (size / 8) = mul-le-mul_right (size / 8) (omega arith) in
      omega arith

-- ---- as NVS and as ZMS

module _ (d : Device) (area : Area) (bank : IsLawful d.banks d.bytes)
    (lawful : IsLawfulFor d.banks area) where
  several-sectors : 2 ≤ length (sectors_of d area)
  several-sectors = let count = length-sectors d area in omega (arith, lawful.several)

  long-each : (k : ℕ) → k < length (sectors_of d area)
      → length (sector_at (sectors_of d area) k) ≡ sector_size d area
  long-each k lt =
      let count = length-sectors d area in length-sector d area bank lawful.in_bank k (omega arith)

  few-pairs : (reading : Reading) → ((sector : List ℕ) → length (reading.pairs sector) ≤ length sector / 8)
      → map.len (items_of (area_pairs reading (sectors_of d area) (open_sector reading (sectors_of d area))))
      ≤ most_items (geometry_of d area)
  few-pairs reading each =
      let count = length-sectors d area in
      let all = all-le reading (sectors_of d area) (sector_size d area) several-sectors each long-each in
      let items =
      items-le (area_pairs reading (sectors_of d area) (open_sector reading (sectors_of d area))) in
      let same :
      length (sectors_of d area) * (sector_size d area / 8)
      ≡ area.sectors * (sector_size d area / 8) = ap (λ (n : ℕ). n * (sector_size d area / 8)) count in
      omega arith

  pub nvs-few : map.len (items_of (nvs.list_of (unit_of d area) (sectors_of d area)))
      ≤ most_items (geometry_of d area)
  nvs-few =
      few-pairs (nvs.reading (unit_of d area))
      (nvs-sector (unit_of d area) (unit_is d area bank lawful.in_bank))

  pub zms-few : map.len (items_of (zms.list_of (geometry_of d area).kind (sectors_of d area)))
      ≤ most_items (geometry_of d area)
  zms-few = few-pairs (zms.reading (geometry_of d area).kind) zms-sector
