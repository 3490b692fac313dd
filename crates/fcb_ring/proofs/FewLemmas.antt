-- How many records an area has at most.
use Rattle.std.proofs.Common.{◌≡◌, ℕ, zero, suc, ◌+◌, ◌*◌, ◌<◌, ◌≤◌, Bool, cond, inl, inr, List, [], ◌∷◌, length, map, Option, Some, None, ap, arith}
use Rattle.std.specs.List.{range_with_len, filter, flat_map}
use Rattle.std.specs.Option.{option_map_or}
use Rattle.std.proofs.lemmas.List.{length-append, length-map, get_or_past}
use Rattle.std.proofs.lemmas.Bool.{cases_Bool, cases_lt}
use Rattle.std.proofs.lemmas.List.FromFn.{length-range_with_len}
use Rattle.std.proofs.Math.Nat.{mul-le-mul_right}
use Rattle.flash_sim.specs.Bank.{IsLawful}
use Rattle.flash_sim.specs.Device.{Device}
use Rattle.flash_map.specs.Area.{unit_of, sector_size, sectors_of, sector_at}
use Rattle.flash_map.specs.declared.area.Area.{Area}
use Rattle.flash_map.specs.Units.{padded}
use Rattle.fcb_ring.specs.declared.record.Record.{Record}
use Rattle.fcb_ring.specs.declared.record.RecordAt.{RecordAt}
use Rattle.fcb_ring.specs.Records.{walk, record_at, records}
use Rattle.fcb_ring.specs.Rings.{counting, counts, turned, oldest_place}
use Rattle.fcb_ring.specs.Entries.{states, entry_of, sector_entries, entries, bodies}
use Rattle.fcb_ring.specs.Standing.{IsRingArea, entries_on}
use Rattle.fcb_ring.proofs.AreaLemmas.{has_size, length-states}

length-walk : (step : ℕ → Option Record) (n at : ℕ) → length (walk step n at) ≤ n
length-walk step zero at = omega arith
length-walk step (suc n) at = by (λ k. length-walk step n k) (step at)
  where
    by : ((k : ℕ) → length (walk step n k) ≤ n) → (o : Option Record) → length (option_map_or (λ r. r ∷ walk step n r.end) o []) ≤ suc n
    by rest None = omega arith
    by rest (Some r) = let ih = rest r.end in omega arith

length-filter : {X : Type 0} (p : X → Bool) (xs : List X) → length (filter p xs) ≤ length xs
length-filter p [] = omega arith
length-filter p (x ∷ xs) =
    let ih = length-filter p xs in
    elim (cases_Bool (p x)) [
      | inl passes ↦ let e : length (filter p (x ∷ xs)) ≡ suc (length (filter p xs)) = ap (λ (b : Bool). length (cond b (x ∷ filter p xs) (filter p xs))) passes in omega arith
      | inr fails ↦ let e : length (filter p (x ∷ xs)) ≡ length (filter p xs) = ap (λ (b : Bool). length (cond b (x ∷ filter p xs) (filter p xs))) fails in omega arith
    ]

-- one sector has fewer than bytes
pub few-in : (unit place : ℕ) (sector : List ℕ) → length (sector_entries unit place sector) ≤ length sector
unfolding sector_entries records
few-in unit place sector =
    let one : length (records unit sector) ≤ length sector = length-walk (record_at unit sector) (length sector) (padded unit 8) in
    let two = length-filter (λ r. r.checks) (records unit sector) in
    let three = length-map (filter (λ r. r.checks) (records unit sector)) (entry_of place sector) in
    omega arith

few-of : {X : Type 0} (f : ℕ → List X) (xs : List ℕ) (most : ℕ) → ((x : ℕ) → length (f x) ≤ most) → length (flat_map f xs) ≤ length xs * most
few-of f [] most each = omega arith
few-of f (x ∷ xs) most each =
    let one = each x in
    let ih = few-of f xs most each in
    let sum = length-append (f x) (flat_map f xs) in
    let more : suc (length xs) * most ≡ most + length xs * most = omega arith in
    omega arith

-- and an area no more than all its bytes
pub few-entries : (unit size : ℕ) (sectors : List (List ℕ)) → ((place : ℕ) → length (sector_at sectors place) ≤ size) → length (entries unit sectors) ≤ length sectors * size
unfolding entries counting
few-entries unit size sectors each =
    let n = length (states unit sectors) in
    let turned_ones : List ℕ = map (turned (length (states unit sectors)) (oldest_place (states unit sectors))) (range_with_len 0 (length (states unit sectors))) in
    let one = length-filter (counts (states unit sectors)) turned_ones in
    let two = length-map (range_with_len 0 (length (states unit sectors))) (turned (length (states unit sectors)) (oldest_place (states unit sectors))) in
    let three = length-range_with_len 0 (length (states unit sectors)) in
    let four = length-states unit sectors in
    let fewer : length (counting (states unit sectors)) ≤ length sectors = omega arith in
    let all = few-of (λ place. sector_entries unit place (sector_at sectors place)) (counting (states unit sectors)) size (λ place. let here = few-in unit place (sector_at sectors place) in let there = each place in omega arith) in
    let most : length (counting (states unit sectors)) * size ≤ length sectors * size = mul-le-mul_right size fewer in
    omega arith

sector-small : (size : ℕ) (sectors : List (List ℕ)) → ((place : ℕ) → place < length sectors → length (sector_at sectors place) ≡ size) → (place : ℕ) → length (sector_at sectors place) ≤ size
sector-small size sectors each place = elim (cases_lt place (length sectors)) [
  | inl lt ↦ let e = each place lt in omega arith
  | inr ge ↦ let e : length (sector_at sectors place) ≡ 0 = ap length (get_or_past sectors place [] ge) in omega arith
]

-- 64 sectors of 32,768 bytes
pub few-on : (d : Device) (area : Area) → IsLawful d.banks d.bytes → IsRingArea d.banks area → length (bodies (entries_on d area)) ≤ 2097152
few-on d area lawful ring =
    let has = has_size d area lawful ring in
    let few = few-entries (unit_of d area) (sector_size d area) (sectors_of d area) (sector-small (sector_size d area) (sectors_of d area) has.each) in
    let most : length (sectors_of d area) * sector_size d area ≤ 64 * sector_size d area = mul-le-mul_right (sector_size d area) has.few in
    let same : length (bodies (entries_on d area)) ≡ length (entries_on d area) = length-map (entries_on d area) (λ (entry : RecordAt × List ℕ). entry.1) in
    omega (arith, has.at_most)
