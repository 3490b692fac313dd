-- The items of a ring's sectors, one after the other, and which sectors of a filled ring have room.
use Rattle.std.proofs.Common.{◌≡◌, ℕ, zero, suc, ◌+◌, ◌-◌, ◌*◌, ◌<◌, ◌≤◌, min, List, [], ◌++◌, length, map, Some, refl, sym, ap, subst, ◌∙◌, arith}
use Rattle.std.specs.List.{range_with_len, flat_map, slice_get}
use Rattle.std.proofs.lemmas.Grind.{flat_map-append}
use Rattle.std.proofs.lemmas.List.{append-nil, length-map}
use Rattle.std.proofs.lemmas.List.FromFn.{length-range_with_len, get_or-map-range_with_len}
use Rattle.std.proofs.lemmas.Option.{slice_get-get_or}
use Rattle.flash_map.specs.Area.{sector_at}
use Rattle.fcb_ring.specs.Entries.{states}
use Rattle.fcb_ring.specs.Rings.{turned, counting, IsRing}
use Rattle.fcb_ring.proofs.AreaLemmas.{length-states}
use Rattle.fcb_ring.proofs.PlaceLemmas.{All-range, range-append, flat_map-agree, flat_map-map}
use Rattle.fcb_ring.proofs.RingLemmas.{counting-is}
use Rattle.event_ring.specs.Items.{Item, sector_items, items, items_cost}
use Rattle.event_ring.proofs.ItemLemmas.{cost-append}

-- the items of the sector that stands so far behind the oldest
abbrev pub part : ℕ → List (List ℕ) → ℕ → ℕ → List Item
part unit sectors oldest k = sector_items unit (sector_at sectors (turned (length sectors) oldest k))

-- the items are those of the sectors that count, one after the other
pub items-are : (unit : ℕ) (sectors : List (List ℕ)) (oldest used : ℕ) → IsRing (states unit sectors) oldest used → items unit sectors ≡ flat_map (part unit sectors oldest) (range_with_len 0 (min used (length sectors - 1)))
unfolding items
items-are unit sectors oldest used form =
    let at : ℕ → List Item = λ place. sector_items unit (sector_at sectors place) in
    ap (flat_map at) (counting-is (states unit sectors) oldest used form)
    ∙ ap (λ (n : ℕ). flat_map at (map (turned n oldest) (range_with_len 0 (min used (n - 1))))) (length-states unit sectors)
    ∙ flat_map-map at (turned (length sectors) oldest) (range_with_len 0 (min used (length sectors - 1)))

-- one part more
pub parts-more : (f : ℕ → List Item) (n : ℕ) → flat_map f (range_with_len 0 (n + 1)) ≡ flat_map f (range_with_len 0 n) ++ f n
parts-more f n =
    ap (flat_map f) (range-append 0 n 1) ∙ flat_map-append f (range_with_len 0 n) (range_with_len (0 + n) 1)
    ∙ ap (λ (k : ℕ). flat_map f (range_with_len 0 n) ++ (f k ++ [])) (omega arith)
    ∙ ap (λ (l : List Item). flat_map f (range_with_len 0 n) ++ l) (append-nil (f n))

-- the first part, and those behind it
pub parts-first : {X : Type 0} (f : ℕ → List X) (n : ℕ) → flat_map f (range_with_len 0 (1 + n)) ≡ f 0 ++ flat_map (λ k. f (k + 1)) (range_with_len 0 n)
parts-first {X} f n =
    ap (flat_map f) (range-append 0 1 n) ∙ flat_map-append f (range_with_len 0 1) (range_with_len (0 + 1) n)
    ∙ ap (λ (l : List X). l ++ flat_map f (range_with_len (0 + 1) n)) (append-nil (f 0))
    ∙ ap (λ (l : List X). f 0 ++ l) (shift 0 n)
  where
    shift : (a n : ℕ) → flat_map f (range_with_len (a + 1) n) ≡ flat_map (λ k. f (k + 1)) (range_with_len a n)
    shift a zero = refl
    shift a (suc n) = ap (λ l. f (a + 1) ++ l) (shift (a + 1) n)

pub parts-same : (f g : ℕ → List Item) (n : ℕ) → ((k : ℕ) → k < n → f k ≡ g k) → flat_map f (range_with_len 0 n) ≡ flat_map g (range_with_len 0 n)
parts-same f g n same = flat_map-agree f g (range_with_len 0 n) (All-range (λ k. f k ≡ g k) 0 n (λ k low high. same k (omega arith)))

-- where each part costs so much, all do together
pub parts-least : (unit least : ℕ) (f : ℕ → List Item) (n : ℕ) → ((k : ℕ) → k < n → least ≤ items_cost unit (f k)) → n * least ≤ items_cost unit (flat_map f (range_with_len 0 n))
parts-least unit least f zero each = omega arith
parts-least unit least f (suc n) each =
    let ih = parts-least unit least f n (λ k lt. each k (omega arith)) in
    let here = each n (omega arith) in
    let step : suc n ≡ n + 1 = omega arith in
    let sum : items_cost unit (flat_map f (range_with_len 0 (suc n))) ≡ items_cost unit (flat_map f (range_with_len 0 n)) + items_cost unit (f n) =
    ap (λ (m : ℕ). items_cost unit (flat_map f (range_with_len 0 m))) step ∙ ap (items_cost unit) (parts-more f n) ∙ cost-append unit (flat_map f (range_with_len 0 n)) (f n) in
    let product : suc n * least ≡ n * least + least = multiplied n least in
    omega arith
  where
    multiplied : (n m : ℕ) → suc n * m ≡ n * m + m
    multiplied n m = omega arith

-- ---- sectors that have no room

-- no sector that counts, but the newest, has room for a record of this cost
abbrev pub AreFilled : ℕ → ℕ → ℕ → List (List ℕ) → Type 0
AreFilled unit room longest sectors =
    (k place : ℕ) → k + 1 < length (counting (states unit sectors)) → slice_get (counting (states unit sectors)) k ≡ Some place
    → room < items_cost unit (sector_items unit (sector_at sectors place)) + longest

-- the same, by how far a sector is behind the oldest
abbrev pub PartsFilled : ℕ → ℕ → ℕ → List (List ℕ) → ℕ → ℕ → Type 0
PartsFilled unit room longest sectors oldest count =
    (k : ℕ) → k + 1 < count → room < items_cost unit (part unit sectors oldest k) + longest

module _ (unit : ℕ) (sectors : List (List ℕ)) (oldest used : ℕ) (form : IsRing (states unit sectors) oldest used) where
  abbrev pub all : ℕ
  all = min used (length sectors - 1)

  are : counting (states unit sectors) ≡ map (turned (length sectors) oldest) (range_with_len 0 (min used (length sectors - 1)))
  are = counting-is (states unit sectors) oldest used form ∙ ap (λ (n : ℕ). map (turned n oldest) (range_with_len 0 (min used (n - 1)))) (length-states unit sectors)

  count-is : length (counting (states unit sectors)) ≡ min used (length sectors - 1)
  count-is = ap length are ∙ length-map (range_with_len 0 all) (turned (length sectors) oldest) ∙ length-range_with_len 0 all

  at-is : (k : ℕ) → k < min used (length sectors - 1) → slice_get (counting (states unit sectors)) k ≡ Some (turned (length sectors) oldest k)
  at-is k lt =
      ap (λ (l : List ℕ). slice_get l k) are
      ∙ slice_get-get_or (map (turned (length sectors) oldest) (range_with_len 0 all)) k 0 (omega (arith, length-map (range_with_len 0 all) (turned (length sectors) oldest), length-range_with_len 0 all))
      ∙ ap Some (get_or-map-range_with_len (turned (length sectors) oldest) 0 all k k 0 lt (omega arith))

  pub filled-parts : (room longest : ℕ) → AreFilled unit room longest sectors → PartsFilled unit room longest sectors oldest (min used (length sectors - 1))
  filled-parts room longest filled k lt = filled k (turned (length sectors) oldest k) (omega (arith, count-is)) (at-is k (omega arith))

  pub parts-filled : (room longest : ℕ) → PartsFilled unit room longest sectors oldest (min used (length sectors - 1)) → AreFilled unit room longest sectors
  parts-filled room longest parts k place lt at =
      let same : turned (length sectors) oldest k ≡ place = some-same (turned (length sectors) oldest k) place (sym (at-is k (omega (arith, count-is))) ∙ at) in
      subst (λ (p : ℕ). room < items_cost unit (sector_items unit (sector_at sectors p)) + longest) same (parts k (omega (arith, count-is)))
    where
      some-same : (x y : ℕ) → Some x ≡ Some y → x ≡ y
      some-same x y e = cc
