-- A write of one item that a store refuses means that there is no room by the numbers.
use Rattle.std.proofs.Common.{◌≡◌, ℕ, ◌+◌, ◌-◌, ◌*◌, ◌<◌, ◌≤◌, Bool, true, false, cond, List, length, sym, ap, subst, ◌∙◌, inl, inr, arith}
use Rattle.std.specs.Prelude.{max}
use Rattle.std.specs.FinMap as map
use Rattle.std.proofs.Math.Nat.{le-max_left, le-max_right, mul-le-mul_left}
use Rattle.item_laws.specs.Costs.{items_cost}
use Rattle.item_laws.specs.Items.{Items}
use Rattle.backend_api.specs.Map.{Map}
use Rattle.backend_api.specs.Room.{Room, HasNoRoom}
use Rattle.named_items.specs.Numbering.{Numbering, IsNumbering}
use Rattle.named_items.specs.Cost.{item_cost}
use Rattle.named_items.specs.Pairs.{settings_in, HasNoOrphans}
use Rattle.named_items.specs.PairRoom.{pair_room, IsCountCost}
use Rattle.named_items.proofs.CostLemmas.{clean-cost}

-- fewer bytes for each sector are no more in all
less_room : (s cap one largest : ℕ) → one ≤ largest → s * (cap - largest) ≤ s * (cap - one)
less_room s cap one largest le = mul-le-mul_left s (omega arith)

no_room : (s cap one largest : ℕ) → cap < one → one ≤ largest → s * (cap - largest) ≡ 0
no_room s cap one largest over le =
    let none : cap - largest ≡ 0 = omega arith in
    ap (λ (k : ℕ). s * k) none ∙ zeroed s
  where
    zeroed : (k : ℕ) → k * 0 ≡ 0
    zeroed k = omega arith

module _ (price : ℕ → ℕ) (cap counted : ℕ) (too_many : Map → List ℕ → Bool) where
  abbrev own : Room
  own = pair_room price cap counted too_many

  -- One write of a command was refused, because what items cost leaves no room for it.
  pub refused-room : (sectors one live : ℕ) (settings : Map) (name value : List ℕ) → one ≤ own.largest settings name value → live ≤ own.cost settings + own.need settings name value → (sectors - 1) * (cap - one) < live → HasNoRoom own sectors settings name value
  refused-room sectors one live settings name value small most full =
      let less = less_room (sectors - 1) cap one (own.largest settings name value) small in
      omega arith

  -- or it is longer than a sector has room for
  pub long-room : (sectors one : ℕ) (settings : Map) (name value : List ℕ) → one ≤ own.largest settings name value → 0 < own.need settings name value → cap < one → HasNoRoom own sectors settings name value
  long-room sectors one settings name value small some over =
      let none = no_room (sectors - 1) cap one (own.largest settings name value) over small in
      omega arith

  -- ---- a name that has a value

  pub stored-numbering : (settings : Map) (name value : List ℕ) → map.contains_key settings name ≡ true → (own.largest settings name value ≡ price (length value)) × (own.need settings name value ≡ price (length value))
  stored-numbering settings name value has = (
    ap (λ (b : Bool). cond b (price (length value)) (max counted (max (price (length value)) (price (length name))))) has,
    ap (λ (b : Bool). cond b (price (length value)) (price (length value) + price (length name))) has,
  )

  -- ---- a new name

  pub new-largest : (settings : Map) (name value : List ℕ) → map.contains_key settings name ≡ false → own.largest settings name value ≡ max counted (max (price (length value)) (price (length name)))
  new-largest settings name value none = ap (λ (b : Bool). cond b (price (length value)) (max counted (max (price (length value)) (price (length name))))) none

  pub new-need : (settings : Map) (name value : List ℕ) → map.contains_key settings name ≡ false → own.need settings name value ≡ price (length value) + price (length name)
  new-need settings name value none = ap (λ (b : Bool). cond b (price (length value)) (price (length value) + price (length name))) none

  pub count-small : (settings : Map) (name value : List ℕ) → map.contains_key settings name ≡ false → counted ≤ own.largest settings name value
  count-small settings name value none =
      let is = new-largest settings name value none in
      let a : counted ≤ max counted (max (price (length value)) (price (length name))) = le-max_left counted (max (price (length value)) (price (length name))) in
      subst (λ (k : ℕ). counted ≤ k) (sym is) a

  pub value-small : (settings : Map) (name value : List ℕ) → map.contains_key settings name ≡ false → price (length value) ≤ own.largest settings name value
  value-small settings name value none =
      let is = new-largest settings name value none in
      let a = le-max_left (price (length value)) (price (length name)) in
      let b = le-max_right counted (max (price (length value)) (price (length name))) in
      let c : price (length value) ≤ max counted (max (price (length value)) (price (length name))) = chain (price (length value)) (max (price (length value)) (price (length name))) (max counted (max (price (length value)) (price (length name)))) a b in
      subst (λ (k : ℕ). price (length value) ≤ k) (sym is) c
    where
      chain : (x y z : ℕ) → x ≤ y → y ≤ z → x ≤ z
      chain x y z p q = omega arith

  pub name-small : (settings : Map) (name value : List ℕ) → map.contains_key settings name ≡ false → price (length name) ≤ own.largest settings name value
  name-small settings name value none =
      let is = new-largest settings name value none in
      let a = le-max_right (price (length value)) (price (length name)) in
      let b = le-max_right counted (max (price (length value)) (price (length name))) in
      let c : price (length name) ≤ max counted (max (price (length value)) (price (length name))) = chain (price (length name)) (max (price (length value)) (price (length name))) (max counted (max (price (length value)) (price (length name)))) a b in
      subst (λ (k : ℕ). price (length name) ≤ k) (sym is) c
    where
      chain : (x y z : ℕ) → x ≤ y → y ≤ z → x ≤ z
      chain x y z p q = omega arith

  -- ---- what items cost where there are no orphans

  module _ (n : Numbering) (laws : IsNumbering n) (counts : IsCountCost n price counted) (items : Items) (clean : HasNoOrphans n items) where
    count-cost : item_cost price (map.get items n.count_id) ≤ counted
    count-cost =
        elim (clean n.count_id) [
          | inl none ↦
              let e : item_cost price (map.get items n.count_id) ≡ 0 = ap (item_cost price) none in
              omega arith
          | inr kept ↦ elim kept [
            | inl count ↦ counts (map.get items n.count_id) count.counts
            | inr part ↦
                let f : n.first ≤ part.candidate = part.at.inside.from in
                let b : n.count_id < n.first = laws.below in
                elim part.is [ inl e ↦ absurd (omega arith) | inr e ↦ absurd (omega arith) ]
          ]
        ]

    pub items-within : items_cost price items ≤ own.cost (settings_in n items)
    items-within =
        let le = clean-cost n laws items clean price in
        let c = count-cost in
        omega arith
