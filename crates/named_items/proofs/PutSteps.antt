-- What the writes of a new setting make of the items, whether one is refused or power is lost.
use Rattle.std.proofs.Common.{◌≡◌, ◌⊎◌, ℕ, ◌+◌, ◌-◌, ◌*◌, ◌<◌, ◌≤◌, List, length, Some, None, Result, Err, refl, sym, ap, subst, ◌∙◌, inl, inr, arith}
use Rattle.std.specs.FinMap.{get, insert, remove}
use Rattle.flash_sim.specs.Device.{Device}
use Rattle.flash_sim.specs.declared.flash.PowerLost.{PowerLost as Lost}
use Rattle.flash_map.specs.declared.faults.WriteFault.{WriteFault}
use Rattle.flash_map.specs.declared.faults.WriteFault.TheVariants.{NoSpace, TooLong, PowerLost}
use Rattle.flash_map.specs.declared.area.Area.{Area}
use Rattle.flash_map.specs.declared.area.Geometry.{Geometry}
use Rattle.flash_map.specs.Area.{geometry_of}
use Rattle.flash_map.specs.On.{on}
use Rattle.item_laws.specs.Costs.{items_cost}
use Rattle.item_laws.specs.Items.{Items}
use Rattle.named_items.proofs.CostLemmas.{insert-cost, cut-put, get-put_other}
use Rattle.named_items.specs.StoreEnds.{WriteEnds, DeleteEnds}
use Rattle.named_items.specs.Ends.{IsRefused, PutsPair}
use Rattle.named_items.proofs.SpendSteps.{geometry-stays}

module _ (price : ℕ → ℕ) (cap sectors : ℕ) (before : Items) (first second : ℕ) (name value : List ℕ) where
  -- the value is refused, or power is lost in it
  pub value-fails : (T : Type 0) (d b : Device) (mid : Items) (fault : WriteFault) → (b ≡ d → mid ≡ before) → WriteEnds {T = T} price cap sectors d b before mid second value (Err fault) → PutsPair {T = T} price cap sectors before mid first second name value (Err fault)
  value-fails T d b mid (NoSpace need live) same ends =
      let full : (sectors - 1) * (cap - price (length value)) < items_cost price before = ends.full in
      (ends.items, record { one = price (length value); is = inl refl; full = omega arith }, inl ends.needs)
  value-fails T d b mid TooLong same ends = (same ends.1, ends.0)
  value-fails T d b mid PowerLost same ends = elim ends.items [ inl none ↦ inl none | inr put ↦ inr (inl put) ]

  module _ (free : get before second ≡ None) (mid : Items) (there : mid ≡ insert before second value) where
    -- the value is deleted again
    pub undone : (after : Items) → after ≡ remove mid second → after ≡ before
    undone after is = is ∙ ap (λ (m : Items). remove m second) there ∙ cut-put before second value free

    mid-cost : items_cost price mid ≡ price (length value) + items_cost price before
    mid-cost = ap (items_cost price) there ∙ insert-cost price before second value free

    pub name-refused : (sectors - 1) * (cap - price (length name)) < items_cost price mid → IsRefused price cap sectors before name value
    name-refused full = record { one = price (length name); is = inr refl; full = let cost = mid-cost in omega arith }

    -- power is lost in the delete
    pub undo-lost : (T U : Type 0) (d e : Device) (after : Items) (lost : Lost) → DeleteEnds {T = U} d e mid after second (Err lost) → PutsPair {T = T} price cap sectors before after first second name value (Err PowerLost)
    undo-lost T U d e after lost ends = elim ends.items [ inl same ↦ inr (inl (same ∙ there)) | inr cut ↦ inl (undone after cut) ]

-- power is lost in the write of the name
pub name-cut : (before mid after : Items) (first second : ℕ) (text name value : List ℕ) → mid ≡ insert before second value → text ≡ name → (after ≡ mid) ⊎ (after ≡ insert mid first text)
    → (after ≡ before) ⊎ (after ≡ insert before second value) ⊎ (after ≡ insert (insert before second value) first name)
name-cut before mid after first second text name value there same ends = elim ends [
  | inl kept ↦ inr (inl (kept ∙ there))
  | inr put ↦ inr (inr (put ∙ ap (λ (m : Items). insert m first text) there ∙ ap (insert (insert before second value) first) same))
]

-- what fits a sector is not too long
pub not-over : (cap cost : ℕ) → cost ≤ cap → cap < cost → ⊥
not-over cap cost fits over = omega arith

-- ---- a later call, in the geometry and on the area of the first one

module _ (contents : Area → Geometry → List (List ℕ) → Items) (price : Geometry → ℕ → ℕ) (cap : Geometry → ℕ) (own other : Area) (same : other ≡ own) (a b e : Device) (banks : b.banks ≡ a.banks) where
  pub moved-write : (T : Type 0) (id : ℕ) (bytes : List ℕ) (r : Result T WriteFault) → WriteEnds (price (geometry_of b other)) (cap (geometry_of b other)) other.sectors b e (on contents b other) (on contents e other) id bytes r
      → WriteEnds (price (geometry_of a own)) (cap (geometry_of a own)) own.sectors b e (on contents b own) (on contents e own) id bytes r
  moved-write T id bytes r ends =
      subst (λ (g : Geometry). WriteEnds (price g) (cap g) own.sectors b e (on contents b own) (on contents e own) id bytes r) (geometry-stays a b own banks)
      (subst (λ (x : Area). WriteEnds (price (geometry_of b x)) (cap (geometry_of b x)) x.sectors b e (on contents b x) (on contents e x) id bytes r) same ends)

  pub moved-delete : {T : Type 0} (id : ℕ) (r : Result T Lost) → DeleteEnds b e (on contents b other) (on contents e other) id r → DeleteEnds b e (on contents b own) (on contents e own) id r
  moved-delete id r ends = subst (λ (x : Area). DeleteEnds b e (on contents b x) (on contents e x) id r) same ends

-- ---- where the bytes are other than those of the item

-- an item that is not there has none
pub absent-differs : (items : Items) (id : ℕ) (bytes : List ℕ) → get items id ≡ None → get items id ≡ Some bytes → ⊥
absent-differs items id bytes none is = cc

-- nor once the value is there
pub valued-differs : (before after : Items) (first second : ℕ) (value bytes : List ℕ) → (first ≡ second → ⊥) → get before first ≡ None → after ≡ insert before second value → get after first ≡ Some bytes → ⊥
valued-differs before after first second value bytes apart none there is =
    absent-differs before first bytes none (sym (get-put_other before second value first apart) ∙ sym (ap (λ (m : Items). get m first) there) ∙ is)
