-- What steps one after the other spend, within their ranges.
use Rattle.std.proofs.Common.{◌≡◌, ℕ, ◌+◌, ◌≤◌, max, Bool, true, false, cond, eqb, List, [], ◌∷◌, length, arith}
use Rattle.std.specs.Prelude.{is_err, Result, Ok, Err, OnOk, OnErr}
use Rattle.std.proofs.lemmas.Bool.{false≢true}
use Rattle.std.proofs.lemmas.List.Sums.{sum_by-cons}
use Rattle.flash_sim.specs.Device.{Device}
use Rattle.flash_sim.specs.declared.flash.PowerLost.{PowerLost}
use Rattle.flash_map.proofs.SpendingBounds.{between_then, between_within}
use Rattle.item_laws.specs.PairRounds.{copies_cost}
use Rattle.item_laws.specs.Area.{next}
use Rattle.item_laws.specs.Forms.{to_copy}
use Rattle.flash_map.specs.Area.{sector_at}
use Rattle.item_store.specs.declared.entry.Redo.{Redo}
use Rattle.item_store.specs.declared.entry.Redo.TheVariants.{Nothing, ClearNext, CollectAgain}
use Rattle.item_store.specs.Collecting.{redo_units}
use Rattle.item_store.specs.SectorFormat.{Range, LiesIn, CoversWhole, SectorFormat, IsSectorFormat, is_clean_at, making_ready}
use Rattle.item_store.specs.Spending.{none, both, copies, collect_with, victim_units, collect_units, ready_units, again_with, again_units, has_victim, round_clear, round_units}
use Rattle.item_store.specs.Standing.{SpendsBy, SpendsIn, SpendsUpTo}

-- ---- how a call ended

pub by-ends : {T : Type 0} (a b : Device) (range : Range) (r : Result T PowerLost) → OnOk r (SpendsIn a b range) → OnErr r (SpendsUpTo a b range) → SpendsBy a b range r
by-ends a b range (Ok value) whole cut = whole
by-ends a b range (Err lost) whole cut = cut

pub by-cut : {T : Type 0} (a b : Device) (range : Range) (r : Result T PowerLost) → is_err r ≡ true → SpendsUpTo a b range → SpendsBy a b range r
by-cut a b range (Ok value) none cut = absurd (false≢true none)
by-cut a b range (Err lost) some cut = cut

pub by-whole : {T : Type 0} (a b : Device) (range : Range) (r : Result T PowerLost) → SpendsBy a b range r → OnOk r (SpendsIn a b range)
by-whole a b range (Ok value) spends = spends
by-whole a b range (Err lost) spends = tt

pub by-lost : {T : Type 0} (a b : Device) (range : Range) (r : Result T PowerLost) → SpendsBy a b range r → OnErr r (SpendsUpTo a b range)
by-lost a b range (Ok value) spends = tt
by-lost a b range (Err lost) spends = spends

-- ---- one step after another

pub both-in : (a b c : Device) (one other : Range) → SpendsIn a b one → SpendsIn b c other → SpendsIn a c (both one other)
both-in a b c one other first second = between_then first second

max-first : (m n : ℕ) → m ≤ max m n
max-first m n = omega arith

max-second : (m n : ℕ) → n ≤ max m n
max-second m n = omega arith

-- the first step was cut
pub first-lost : (a b : Device) (one other : Range) → SpendsUpTo a b one → SpendsUpTo a b (both one other)
first-lost a b one other first =
    let le = max-first one.lost (one.most + other.lost) in
    between_within first 0 (max one.lost (one.most + other.lost)) (omega arith) (omega arith)

-- the second was
pub then-lost : (a b c : Device) (one other : Range) → SpendsIn a b one → SpendsUpTo b c other → SpendsUpTo a c (both one other)
then-lost a b c one other first second =
    let le = max-second one.lost (one.most + other.lost) in
    between_within (between_then first second) 0 (max one.lost (one.most + other.lost)) (omega arith) (omega arith)

-- a wider range
pub within-in : (a b : Device) (one wide : Range) → LiesIn one wide → SpendsIn a b one → SpendsIn a b wide
within-in a b one wide lies spends = between_within spends wide.least wide.most lies.least lies.most

pub within-lost : (a b : Device) (one wide : Range) → LiesIn one wide → SpendsUpTo a b one → SpendsUpTo a b wide
within-lost a b one wide lies spends = between_within spends 0 wide.lost (omega arith) lies.lost

-- both are covered
pub both-covers : (one other : Range) → CoversWhole one → CoversWhole other → CoversWhole (both one other)
both-covers one other first second = let le = max-second one.lost (one.most + other.lost) in omega arith

-- and a loss in either is no more than the losses in each
pub both-lost : (one other : Range) → CoversWhole one → (both one other).lost ≤ one.lost + other.lost
both-lost one other covers = most-of one.lost one.most other.lost covers
  where
    most-of : (a m b : ℕ) → m ≤ a → max a (m + b) ≤ a + b
    most-of a m b le = omega arith

-- ---- the copies of a collection, its steps, and rounds

-- a higher price
pub copies-cover : (price higher : ℕ → ℕ) → ((len : ℕ) → price len ≤ higher len) → (pairs : List (ℕ × List ℕ)) → copies_cost price pairs ≤ copies_cost higher pairs
copies-cover price higher le [] = omega arith
copies-cover price higher le (p ∷ ps) =
    let rest = copies-cover price higher le ps in
    let here = le (length p.1) in
    let low : copies_cost price (p ∷ ps) ≡ price (length p.1) + copies_cost price ps = sum_by-cons (λ (q : ℕ × List ℕ). price (length q.1)) p ps in
    let high : copies_cost higher (p ∷ ps) ≡ higher (length p.1) + copies_cost higher ps = sum_by-cons (λ (q : ℕ × List ℕ). higher (length q.1)) p ps in
    omega arith

one-covers : (t : Bool) (one other : Range) → CoversWhole one → CoversWhole other → CoversWhole (cond t one other)
one-covers true one other first second = first
one-covers false one other first second = second

-- one of two
one-lost : (t : Bool) (one other : Range) (most : ℕ) → other.lost ≤ most → (cond t one other).lost ≤ max one.lost most
one-lost true one other most le = max-first one.lost most
one-lost false one other most le = let second = max-second one.lost most in omega arith

-- each of the two
one-most : (t : Bool) (one other : Range) (most : ℕ) → one.lost ≤ most → other.lost ≤ most → (cond t one other).lost ≤ most
one-most true one other most first second = first
one-most false one other most first second = second

module _ (k : SectorFormat) (law : IsSectorFormat k) where
  copied-covers : (pairs : List (ℕ × List ℕ)) → CoversWhole (copies k pairs)
  copied-covers pairs = copies-cover (λ len. (k.units.any_copy len).most) (λ len. (k.units.any_copy len).lost) law.units.any_copies pairs

  -- gc-done and the emptying of the victim, behind them
  with-covers : (sectors : List (List ℕ)) (place : ℕ) (emptying : Range) → CoversWhole emptying → CoversWhole (collect_with k sectors place emptying)
  with-covers sectors place emptying covers =
      both-covers (copies k (to_copy k.reading sectors place)) (both k.units.any_done emptying) (copied-covers (to_copy k.reading sectors place)) (both-covers k.units.any_done emptying law.units.any_dones covers)

  with-lost : (sectors : List (List ℕ)) (place : ℕ) (emptying : Range) → emptying.lost ≤ k.units.any_clear.lost → (collect_with k sectors place emptying).lost ≤ copies_cost (λ len. (k.units.any_copy len).lost) (to_copy k.reading sectors place) + (k.units.any_done.lost + k.units.any_clear.lost)
  with-lost sectors place emptying le =
      let outer = both-lost (copies k (to_copy k.reading sectors place)) (both k.units.any_done emptying) (copied-covers (to_copy k.reading sectors place)) in
      let inner = both-lost k.units.any_done emptying law.units.any_dones in
      omega arith

  collect-covers : (sectors : List (List ℕ)) (place : ℕ) → CoversWhole (collect_units k sectors place)
  collect-covers sectors place = with-covers sectors place (victim_units k sectors place) (law.units.clears (sector_at sectors (next sectors place)))

  collect-lost : (sectors : List (List ℕ)) (place : ℕ) → (collect_units k sectors place).lost ≤ copies_cost (λ len. (k.units.any_copy len).lost) (to_copy k.reading sectors place) + (k.units.any_done.lost + k.units.any_clear.lost)
  collect-lost sectors place = with-lost sectors place (victim_units k sectors place) (law.units.clear_lost (sector_at sectors (next sectors place)))

  ready-covers : (sectors : List (List ℕ)) (place : ℕ) → CoversWhole (ready_units k sectors place)
  ready-covers sectors place =
      one-covers (is_clean_at k sectors place) (k.units.begin (sector_at sectors place)) (k.units.clear (sector_at sectors place)) (law.units.begins (sector_at sectors place)) (law.units.clears (sector_at sectors place))

  pub again-lost : (sectors : List (List ℕ)) (place : ℕ) → (again_units k sectors place).lost
      ≤ max (k.units.begin (sector_at sectors place)).lost k.units.any_clear.lost + (copies_cost (λ len. (k.units.any_copy len).lost) (to_copy k.reading sectors place) + (k.units.any_done.lost + k.units.any_clear.lost))
  again-lost sectors place =
      let outer = both-lost (ready_units k sectors place) (collect_units k sectors place) (ready-covers sectors place) in
      let first = one-lost (is_clean_at k sectors place) (k.units.begin (sector_at sectors place)) (k.units.clear (sector_at sectors place)) k.units.any_clear.lost (law.units.clear_lost (sector_at sectors place)) in
      let later = collect-lost sectors place in
      omega arith

  -- what a mount has to do
  pub redo-covers : (sectors : List (List ℕ)) (place : ℕ) (redo : Redo) → CoversWhole (redo_units k sectors place redo)
  redo-covers sectors place Nothing = omega arith
  redo-covers sectors place ClearNext = law.units.clears (sector_at sectors (next sectors place))
  redo-covers sectors place CollectAgain = both-covers (ready_units k sectors place) (collect_units k sectors place) (ready-covers sectors place) (collect-covers sectors place)

  -- the collection of a round
  module _ (sectors : List (List ℕ)) (place : ℕ) where
    abbrev opened : ℕ
    opened = next sectors place

    none-covers : CoversWhole none
    none-covers = omega arith

    -- with no victim
    abbrev opening : Range
    opening = cond k.opens_ready (ready_units k sectors opened) none

    opening-covers : CoversWhole opening
    opening-covers = one-covers k.opens_ready (ready_units k sectors opened) none (ready-covers sectors opened) none-covers

    -- with one

    clear-covers : CoversWhole (round_clear k sectors place)
    clear-covers =
        let last = next sectors (next sectors place) in
        one-covers (eqb last place) k.units.clear_closed (k.units.clear (sector_at sectors last)) law.units.closed_clears (law.units.clears (sector_at sectors last))

    clear-most : (round_clear k sectors place).lost ≤ k.units.any_clear.lost
    clear-most =
        let last = next sectors (next sectors place) in
        one-most (eqb last place) k.units.clear_closed (k.units.clear (sector_at sectors last)) k.units.any_clear.lost law.units.closed_lost (law.units.clear_lost (sector_at sectors last))

    abbrev passing : Range
    passing = again_with k sectors opened (round_clear k sectors place)

    passing-covers : CoversWhole passing
    passing-covers =
        both-covers (ready_units k sectors opened) (collect_with k sectors opened (round_clear k sectors place)) (ready-covers sectors opened)
        (with-covers sectors opened (round_clear k sectors place) clear-covers)

    pub round-covers : CoversWhole (round_units k sectors place)
    round-covers =
        both-covers (k.units.close (sector_at sectors place)) (cond (has_victim k sectors place) passing opening) (law.units.closes (sector_at sectors place))
        (one-covers (has_victim k sectors place) passing opening passing-covers opening-covers)

    opening-lost : (t : Bool) → (cond t (ready_units k sectors opened) none).lost ≤ (ready_units k sectors opened).lost
    opening-lost true = omega arith
    opening-lost false = omega arith

    rest-lost : (t : Bool) → (cond t passing opening).lost
        ≤ (ready_units k sectors opened).lost + (copies_cost (λ len. (k.units.any_copy len).lost) (to_copy k.reading sectors opened) + (k.units.any_done.lost + k.units.any_clear.lost))
    rest-lost false = let le = opening-lost k.opens_ready in omega arith
    rest-lost true =
        let inner = both-lost (ready_units k sectors opened) (collect_with k sectors opened (round_clear k sectors place)) (ready-covers sectors opened) in
        let later = with-lost sectors opened (round_clear k sectors place) clear-most in
        omega arith

    pub round-lost : (round_units k sectors place).lost ≤ (k.units.close (sector_at sectors place)).lost
        + ((making_ready k (sector_at sectors (next sectors place))).lost + (copies_cost (λ len. (k.units.any_copy len).lost) (to_copy k.reading sectors (next sectors place)) + (k.units.any_done.lost + k.units.any_clear.lost)))
    round-lost =
        let outer = both-lost (k.units.close (sector_at sectors place)) (cond (has_victim k sectors place) passing opening) (law.units.closes (sector_at sectors place)) in
        let later = rest-lost (has_victim k sectors place) in
        omega arith
