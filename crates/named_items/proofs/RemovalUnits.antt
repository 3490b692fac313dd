-- What the removal of items spends.
use Rattle.std.proofs.Common.{◌≡◌, ℕ, ◌+◌, ◌-◌, ◌*◌, ◌/◌, ◌≤◌, false, true, cond, List, Option, Some, None, Result, Ok, Err, refl, sym, ap, ◌∙◌, inl, inr, arith}
use Rattle.std.specs.Prelude.{is_err, is_some}
use Rattle.std.specs.FinMap as map
use Rattle.std.specs.Ordering.{nat_cmp}
use Rattle.std.proofs.Math.Nat.{mul-le-mul_right}
use Rattle.std.proofs.lemmas.Bool.{cases_eq, false≢true}
use Rattle.std.proofs.lemmas.Cmp.{nat_cmp_total}
use Rattle.flash_sim.specs.Device.{Device, counted}
use Rattle.flash_sim.specs.declared.flash.PowerLost.{PowerLost as Lost}
use Rattle.flash_map.specs.Spending.{SpendsAtMost}
use Rattle.flash_map.proofs.Plans.{counted_counted}
use Rattle.flash_map.specs.declared.area.Geometry.{Geometry}
use Rattle.backend_api.specs.Room.{foreign_units, removal_units}
use Rattle.item_laws.specs.Items.{Items}
use Rattle.named_items.specs.StoreEnds.{DeleteEnds, most_items, item_units}
use Rattle.named_items.specs.Orphans.{SpendsPerItem}

step : (n m : ℕ) → (n + 1) * m ≡ n * m + m
step n m = grind arith

-- ---- one item fewer

pub some-items : (items : Items) (id : ℕ) → ¬ (map.get items id ≡ None) → 1 ≤ map.len items
some-items items id present = elim (cases_eq (map.len items) 0) [
  | inl none ↦ absurd (present (ap (λ (m : Items). map.get m id) (map.empty_of_len items none) ∙ map.get-empty nat_cmp id))
  | inr some ↦ omega arith
]

pub removes-one : (items : Items) (id : ℕ) → ¬ (map.get items id ≡ None) → map.len (map.remove items id) + 1 ≡ map.len items
removes-one items id present = by (map.get items id) refl
  where
    by : (o : Option (List ℕ)) → map.get items id ≡ o → map.len (map.remove items id) + 1 ≡ map.len items
    by None none = absurd (present none)
    by (Some bytes) some =
        let less : map.len (map.remove items id) ≡ map.len items - 1 =
        map.len-remove nat_cmp_total items id ∙ ap (λ (o : Option (List ℕ)). cond (is_some o) (map.len items - 1) (map.len items)) some in
        let above = some-items items id present in
        omega arith

removes-absent : (items : Items) (id : ℕ) → map.get items id ≡ None → map.len (map.remove items id) ≡ map.len items
removes-absent items id none = map.len-remove nat_cmp_total items id ∙ ap (λ (o : Option (List ℕ)). cond (is_some o) (map.len items - 1) (map.len items)) none

-- ---- a delete

pub per-none : (most : ℕ) (d : Device) (items : Items) → SpendsPerItem most d d items items
per-none most d items = record { units = 0; at_most = omega arith; spent = omega arith }

unchanged : (d e : Device) → e ≡ d → e.spent ≡ counted d.spent 0
unchanged d e same = let is : e.spent ≡ d.spent = ap (λ (x : Device). x.spent) same in omega arith

module _ (most : ℕ) (d e : Device) (items after : Items) (id : ℕ) where
  taken : (o : Option (List ℕ)) → map.get items id ≡ o → after ≡ map.remove items id → (map.get items id ≡ None → e ≡ d) → SpendsAtMost d e most → SpendsPerItem most d e items after
  taken None none is absent spent =
      let same : map.len after ≡ map.len items = ap map.len is ∙ removes-absent items id none in
      let products : map.len after * most ≡ map.len items * most = ap (λ (n : ℕ). n * most) same in
      record { units = 0; at_most = omega arith; spent = unchanged d e (absent none) }
  taken (Some bytes) some is absent spent =
      let one : map.len after + 1 ≡ map.len items = ap (λ (m : Items). map.len m + 1) is ∙ removes-one items id (λ none. some-none bytes (sym some ∙ none)) in
      let products : (map.len after + 1) * most ≡ map.len items * most = ap (λ (n : ℕ). n * most) one in
      let opened = step (map.len after) most in
      let within : spent.0 ≤ most = spent.1 in
      record { units = spent.0; at_most = omega arith; spent = spent.2 }
    where
      some-none : (bytes : List ℕ) → Some bytes ≡ None → ⊥
      some-none bytes e = cc

  pub delete-per_item : {U : Type 0} (r : Result U Lost) → is_err r ≡ false → DeleteEnds d e items after id r → SpendsAtMost d e most → SpendsPerItem most d e items after
  delete-per_item (Ok x) ok ends spent = taken (map.get items id) refl ends.items ends.absent spent
  delete-per_item (Err l) ok ends spent = absurd (false≢true (sym ok))

-- where it was cut, there was an item to take away
pub delete-present : {U : Type 0} (d e : Device) (items after : Items) (id : ℕ) (r : Result U Lost) → is_err r ≡ true → DeleteEnds d e items after id r → ¬ (map.get items id ≡ None)
delete-present d e items after id (Ok x) lost ends = absurd (false≢true lost)
delete-present d e items after id (Err l) lost ends = ends.present

-- ---- one after the other

pub per-most : (most : ℕ) (d e : Device) (before after : Items) → SpendsPerItem most d e before after → SpendsAtMost d e (map.len before * most)
per-most most d e before after per = let le = per.at_most in (per.units, omega arith, per.spent)

module _ (most : ℕ) (a b c : Device) (start before : Items) (so_far : SpendsPerItem most a b start before) where
  pub per-then : (after : Items) → SpendsPerItem most b c before after → SpendsPerItem most a c start after
  per-then after next =
      let first = so_far.at_most in
      let second = next.at_most in
      record {
        units = so_far.units + next.units;
        at_most = omega arith;
        spent = next.spent ∙ ap (λ (n : ℕ). counted n next.units) so_far.spent ∙ counted_counted a.spent so_far.units next.units;
      }

  -- one that was cut took an item away, or would have
  pub per-cut : (id : ℕ) → ¬ (map.get before id ≡ None) → SpendsAtMost b c most → SpendsAtMost a c (map.len start * most)
  per-cut id present next =
      let first = so_far.at_most in
      let one : 1 * most ≤ map.len before * most = mul-le-mul_right most (some-items before id present) in
      let second : next.0 ≤ most = next.1 in
      (so_far.units + next.0, omega arith, next.2 ∙ ap (λ (n : ℕ). counted n next.0) so_far.spent ∙ counted_counted a.spent so_far.units next.0)

-- ---- behind a mount

-- the mount of the store, and the removal of items of which there are few
quarter : (s x : ℕ) → 3 * s * x ≤ 12 * s * x
quarter s x = let three : 3 * s ≤ 12 * s = omega arith in mul-le-mul_right x three

module _ (g : Geometry) where
  store-le : item_units g ≤ foreign_units g
  store-le =
      let wide = quarter g.sectors (g.sector / g.unit + 3) in
      omega arith

  pub store-mounted : (d e : Device) → SpendsAtMost d e (item_units g) → SpendsAtMost d e (foreign_units g)
  store-mounted d e spent =
      let le = store-le in
      let within : spent.0 ≤ item_units g = spent.1 in
      (spent.0, omega arith, spent.2)

  pub all-removed : (d e f : Device) (items : ℕ) → items ≤ most_items g → SpendsAtMost d e (item_units g) → SpendsAtMost e f (items * removal_units g) → SpendsAtMost d f (foreign_units g)
  all-removed d e f items few one two =
      let wide = quarter g.sectors (g.sector / g.unit + 3) in
      let each : items * removal_units g ≤ g.sectors * (g.sector / 8) * removal_units g = mul-le-mul_right (removal_units g) few in
      let first : one.0 ≤ item_units g = one.1 in
      let second : two.0 ≤ items * removal_units g = two.1 in
      (one.0 + two.0, omega arith, two.2 ∙ ap (λ (n : ℕ). counted n two.0) one.2 ∙ counted_counted d.spent one.0 two.0)
