-- What a walk over the entries of an area views.
use Rattle.std.proofs.Common.{◌≡◌, ℕ, ◌+◌, ◌-◌, ◌*◌, ◌<◌, ◌≤◌, Bool, cond, List, ◌∷◌, length, Option, Some, None, sym, ap, ◌∙◌, arith}
use Rattle.std.specs.Prelude.{sum_by}
use Rattle.std.specs.List.{range_with_len}
use Rattle.std.proofs.lemmas.Bool.{le-ltb}
use Rattle.std.proofs.lemmas.List.Sums.{sum_by-append, sum_by-cons}
use Rattle.flash_map.specs.Area.{sector_at}
use Rattle.item_laws.specs.Area.{round}
use Rattle.item_laws.specs.RoundParts.{places_before, places_after}
use Rattle.item_laws.proofs.Places.{after, before, before-within}
use Rattle.item_laws.proofs.RoundAt.{round-at, none_behind}
use Rattle.item_store.specs.declared.entry.Placed.{Placed}
use Rattle.item_store.specs.declared.lasts.Lasts.{Lasts}
use Rattle.item_store.specs.Lasts.{sectors_left, slots_before, slots_in_all, views_left, ReadsSlot, ReadsSlots, WalksOn}
use Rattle.item_store.specs.SectorFormat.{SectorFormat}
use Rattle.item_store.proofs.CostSteps.{before-after, round-sum}

-- ---- sums over the places before one

-- the round up to a place, that place, and what is behind it
pub round-parts : (f : ℕ → ℕ) (count current place : ℕ) → current < count → place < count
    → sum_by f (round count current) ≡ sum_by f (places_before count current place) + (f place + sum_by f (places_after count current place))
round-parts f count current place low high =
    ap (sum_by f) (round-at count current place low high).split
    ∙ sum_by-append f (places_before count current place) (place ∷ places_after count current place)
    ∙ ap (λ (n : ℕ). sum_by f (places_before count current place) + n) (sum_by-cons f place (places_after count current place))

-- one place back
pub before-sum : (f : ℕ → ℕ) (count current place : ℕ) → current < count → place < count → (place ≡ after count current → ⊥)
    → sum_by f (places_before count current place) ≡ sum_by f (places_before count current (before count place)) + f (before count place)
before-sum f count current place low high apart =
    let here = round-parts f count current place low high in
    let back = round-parts f count current (before count place) low (before-within count place high) in
    let rest : sum_by f (places_after count current (before count place)) ≡ f place + sum_by f (places_after count current place) =
    ap (sum_by f) (before-after count current place low high apart) ∙ sum_by-cons f place (places_after count current place) in
    omega (arith, here, back, rest)

-- from the open one it is the whole round
pub before-all : (f : ℕ → ℕ) (count current : ℕ) → current < count → sum_by f (places_before count current current) + f current ≡ sum_by f (range_with_len 0 count)
before-all f count current low =
    let here = round-parts f count current current low low in
    let none : sum_by f (places_after count current current) ≡ 0 = ap (sum_by f) (none_behind count current) in
    let whole = round-sum f count current low in
    omega (arith, here, none, whole)

-- ---- slots of one sector

pub slot-read : (first old new : Lasts) (start before after : ℕ) (o : Option Placed) → old.left ≤ first.left → before + 2 * old.left ≤ start + 2 * first.left → ReadsSlot old new before after → ReadsSlots first new start after o
slot-read first old new start before after None few so_far slot = record { fewer = tt; steps = omega (arith, so_far, slot.fewer, slot.steps); spared = tt }
slot-read first old new start before after (Some p) few so_far slot = record {
  fewer = omega (arith, few, slot.fewer);
  steps = omega (arith, so_far, slot.fewer, slot.steps);
  spared = omega (arith, so_far, slot.fewer, slot.steps);
}

-- ---- a walk

same-place-views : (a b s t x y l m : ℕ) → s ≡ t → x ≡ y → a + 2 * l ≤ b + 2 * m → a + (s + 2 * (l + x)) ≤ b + (t + 2 * (m + y))
same-place-views a b s t x y l m one two views = omega arith

same-place-spared : (a b s t x y l m : ℕ) → s ≡ t → x ≡ y → a + 2 * l < b + 2 * m → a + (s + 2 * (l + x)) < b + (t + 2 * (m + y))
same-place-spared a b s t x y l m one two views = omega arith

module _ (k : SectorFormat) (sectors : List (List ℕ)) (current : ℕ) where
  -- in one sector
  pub here-walks : (old new : Lasts) (b a : ℕ) (o : Option Placed) → new.place ≡ old.place → ReadsSlots old new b a o → WalksOn k sectors current old new b a o
  here-walks old new b a None same reads = record {
    steps = same-place-views a b (sectors_left (length sectors) current new.place) (sectors_left (length sectors) current old.place) (slots_before k sectors current new.place) (slots_before k sectors current old.place) new.left old.left
        (ap (sectors_left (length sectors) current) same) (ap (slots_before k sectors current) same) reads.steps;
    spared = tt;
  }
  here-walks old new b a (Some p) same reads = record {
    steps = same-place-views a b (sectors_left (length sectors) current new.place) (sectors_left (length sectors) current old.place) (slots_before k sectors current new.place) (slots_before k sectors current old.place) new.left old.left
        (ap (sectors_left (length sectors) current) same) (ap (slots_before k sectors current) same) reads.steps;
    spared = same-place-spared a b (sectors_left (length sectors) current new.place) (sectors_left (length sectors) current old.place) (slots_before k sectors current new.place) (slots_before k sectors current old.place) new.left old.left
        (ap (sectors_left (length sectors) current) same) (ap (slots_before k sectors current) same) reads.spared;
  }

  -- behind what was viewed before
  pub walks-then : (first old new : Lasts) (start b a : ℕ) (o : Option Placed) → b + views_left k sectors current old ≤ start + views_left k sectors current first → WalksOn k sectors current old new b a o → WalksOn k sectors current first new start a o
  walks-then first old new start b a None so_far walks = record { steps = omega (arith, so_far, walks.steps); spared = tt }
  walks-then first old new start b a (Some p) so_far walks = record { steps = omega (arith, so_far, walks.steps); spared = omega (arith, so_far, walks.spared) }

  -- one sector back
  pub back-walks : (old new : Lasts) (b a : ℕ) → current < length sectors → old.place < length sectors → (old.place ≡ after (length sectors) current → ⊥) → new.place ≡ before (length sectors) old.place
      → sectors_left (length sectors) current new.place < sectors_left (length sectors) current old.place → new.left ≤ k.count (sector_at sectors new.place) → a ≤ b + 1
      → a + views_left k sectors current new ≤ b + views_left k sectors current old
  back-walks old new b a low high apart back fewer few step =
      let f : ℕ → ℕ = λ p. k.count (sector_at sectors p) in
      let sum : slots_before k sectors current old.place ≡ slots_before k sectors current new.place + k.count (sector_at sectors new.place) =
      before-sum (λ p. k.count (sector_at sectors p)) (length sectors) current old.place low high apart
      ∙ ap (λ (p : ℕ). slots_before k sectors current p + k.count (sector_at sectors p)) (sym back) in
      by-numbers (sectors_left (length sectors) current new.place) (sectors_left (length sectors) current old.place) (slots_before k sectors current new.place) (slots_before k sectors current old.place) (k.count (sector_at sectors new.place)) new.left old.left fewer few sum
    where
      by-numbers : (s t x y n l m : ℕ) → s < t → l ≤ n → y ≡ x + n → a + (s + 2 * (l + x)) ≤ b + (t + 2 * (m + y))
      by-numbers s t x y n l m less fits sum = omega (arith, step, less, fits, sum)

  -- at its start
  pub start-walks : (walk : Lasts) (b a : ℕ) → current < length sectors → walk.place ≡ current → walk.left ≤ k.count (sector_at sectors walk.place) → a ≤ b + 1
      → a + views_left k sectors current walk ≤ b + length sectors + 2 * slots_in_all k sectors
  start-walks walk b a low at few step =
      let left : sectors_left (length sectors) current walk.place ≡ current + (length sectors - (current + 1)) =
      ap (sectors_left (length sectors) current) at
      ∙ ap (λ (t : Bool). cond t (current - (current + 1)) (current + (length sectors - (current + 1)))) (le-ltb current current (omega arith)) in
      let before : slots_before k sectors current walk.place ≡ slots_before k sectors current current = ap (slots_before k sectors current) at in
      let count : k.count (sector_at sectors walk.place) ≡ k.count (sector_at sectors current) = ap (λ (p : ℕ). k.count (sector_at sectors p)) at in
      let all = before-all (λ p. k.count (sector_at sectors p)) (length sectors) current low in
      by-numbers (sectors_left (length sectors) current walk.place) (slots_before k sectors current walk.place) (slots_before k sectors current current) (k.count (sector_at sectors walk.place)) (k.count (sector_at sectors current)) walk.left (slots_in_all k sectors) left before count few all
    where
      by-numbers : (s x y n m l all : ℕ) → s ≡ current + (length sectors - (current + 1)) → x ≡ y → n ≡ m → l ≤ n → y + m ≡ all → a + (s + 2 * (l + x)) ≤ b + length sectors + 2 * all
      by-numbers s x y n m l all left before count few sum = omega (arith, step, low, left, before, count, few, sum)
