-- What the settings become where the value of a setting is changed.
use Rattle.std.proofs.Common.{◌≡◌, ℕ, ◌+◌, ◌<◌, ◌≤◌, Bool, true, false, List, length, Some, is_some, refl, sym, ap, subst, ◌∙◌, inl, inr, arith}
use Rattle.std.specs.FinMap.{get, insert, contains_key}
use Rattle.flash_sim.specs.Device.{Device}
use Rattle.flash_sim.specs.declared.flash.Bank.{Bank}
use Rattle.flash_map.specs.declared.area.Area.{Area}
use Rattle.flash_map.specs.declared.area.Geometry.{Geometry}
use Rattle.flash_map.specs.Area.{geometry_of}
use Rattle.flash_map.specs.Lawful.{IsLawfulFor}
use Rattle.flash_map.specs.On.{on}
use Rattle.item_laws.specs.Costs.{items_cost}
use Rattle.item_laws.specs.Items.{Items}
use Rattle.backend_api.specs.Map.{Map, IsStored}
use Rattle.backend_api.specs.Ends.{SpendsSome, Sets, FindsNoSpace}
use Rattle.backend_api.proofs.MapLemmas.{get-insert_same}
use Rattle.named_items.specs.StoreEnds as stored
use Rattle.named_items.specs.Numbering.{Numbering, IsNumbering}
use Rattle.named_items.specs.PairRoom.{pair_room, IsCountCost}
use Rattle.named_items.specs.Pairs.{count_in, is_pair, pair_at, settings_in, IsAt, HasNoOrphans}
use Rattle.named_items.proofs.CostLemmas.{get-put, get-put_other, put-again}
use Rattle.named_items.proofs.PairLemmas.{Makes, pair-made, made-pair, one-name, id-put}
use Rattle.named_items.proofs.NameLemmas.{get-at, at-value}
use Rattle.named_items.proofs.RoomLemmas.{refused-room, stored-numbering, items-within}
use Rattle.named_items.proofs.OrphanLemmas.{one-id, put-clean}
use Rattle.named_items.specs.Putting.{room_in, IsPut}
use Rattle.named_items.proofs.SpendSteps.{geometry-stays}
use Rattle.named_items.specs.Orphans.{HasOrphans}
use Rattle.named_items.proofs.OrphanUnits.{no-orphans}

some_same : {A : Type 0} (x y : A) → Some x ≡ Some y → x ≡ y
some_same x y e = cc

-- ---- the same, on the area that a call hands back

pub moved-lawful : (own other : Area) → other ≡ own → (a b : Device) → b.banks ≡ a.banks → IsLawfulFor a.banks own → IsLawfulFor b.banks other
moved-lawful own other same a b banks lawful =
    subst (λ (x : Area). IsLawfulFor b.banks x) (sym same) (subst (λ (list : List Bank). IsLawfulFor list own) (sym banks) lawful)

module _ (numbering : Area → Numbering) (counted : (ℕ → ℕ) → ℕ) (too_many : Map → List ℕ → Bool) (contents : Area → Geometry → List (List ℕ) → Items) (own other : Area) (same : other ≡ own) where
  pub moved-clean : (b : Device) → HasNoOrphans (numbering own) (on contents b own) → HasNoOrphans (numbering other) (on contents b other)
  moved-clean b clean = subst (λ (x : Area). HasNoOrphans (numbering x) (on contents b x)) (sym same) clean

  pub moved-cost : (price : Geometry → ℕ → ℕ) (cap : Geometry → ℕ) (a b : Device) (settings : Map) → b.banks ≡ a.banks → settings_in (numbering own) (on contents b own) ≡ settings
      → (room_in counted too_many price cap (geometry_of b other)).cost (settings_in (numbering other) (on contents b other)) ≡ (room_in counted too_many price cap (geometry_of a own)).cost settings
  moved-cost price cap a b settings banks is =
      ap (λ (x : Area). (room_in counted too_many price cap (geometry_of b x)).cost (settings_in (numbering x) (on contents b x))) same
      ∙ ap (λ (g : Geometry). (room_in counted too_many price cap g).cost (settings_in (numbering own) (on contents b own))) (geometry-stays a b own banks)
      ∙ ap (λ (m : Map). (room_in counted too_many price cap (geometry_of a own)).cost m) is

  pub moved-price : (price : Geometry → ℕ → ℕ) (a b : Device) (length : ℕ) → b.banks ≡ a.banks → price (geometry_of b other) length ≡ price (geometry_of a own) length
  moved-price price a b length banks =
      ap (λ (x : Area). price (geometry_of b x) length) same ∙ ap (λ (g : Geometry). price g length) (geometry-stays a b own banks)

module _ (n : Numbering) (laws : IsNumbering n) (counted : (ℕ → ℕ) → ℕ) (too_many : Map → List ℕ → Bool) (counts : (price : ℕ → ℕ) → IsCountCost n price (counted price))
    (stored-few : (settings : Map) (name : List ℕ) → contains_key settings name ≡ true → too_many settings name ≡ false)
    (items : Items) (clean : HasNoOrphans n items) (name value : List ℕ) (candidate second : ℕ) (at : IsAt n items name candidate) (passes : is_pair n candidate name value ≡ true) (is_second : second ≡ candidate + n.step) where
  abbrev new : Items
  new = insert items (candidate + n.step) value

  apart : candidate ≡ candidate + n.step → ⊥
  apart e =
      let high : candidate < n.first + count_in n items = at.inside.to in
      let low : n.first ≤ candidate = at.inside.from in
      let few : count_in n items ≤ n.step = laws.few (get items n.count_id) in
      absurd (omega arith)

  made : Makes n candidate name (get items candidate) (get items (candidate + n.step))
  made = pair-made n candidate name (get items candidate) (get items (candidate + n.step)) at.here

  new-pair : pair_at n (insert items (candidate + n.step) value) candidate ≡ Some (name, value)
  new-pair =
      made-pair n candidate name value (get new candidate) (get new (candidate + n.step))
      (get-put_other items (candidate + n.step) value candidate (λ (e : candidate ≡ candidate + n.step). apart e) ∙ made.is_name) (get-put items (candidate + n.step) value) passes

  pub change-sets : settings_in n (insert items (candidate + n.step) value) ≡ insert (settings_in n items) name value
  change-sets =
      id-put n items new (candidate + n.step) (λ other off. get-put_other items (candidate + n.step) value other off) laws candidate at.inside (inr refl) name value new-pair
      (λ x has. one-name (pair_at n items candidate) x name has at.here) at.lowest

  pub change-clean : HasNoOrphans n (insert items second value)
  change-clean = subst (λ (id : ℕ). HasNoOrphans n (insert items id value)) (sym is_second)
      (put-clean n laws items new candidate at.inside (λ id a b. get-put_other items (candidate + n.step) value id b) name value new-pair
      (λ other within has. one-id n laws items clean name other candidate within at.inside has at.here) clean)

  holds-at : IsStored (settings_in n items) name value → stored.Holds items (candidate + n.step) value
  holds-at is =
      let v = at-value n items name candidate at in
      let same : v.0 ≡ value = some_same v.0 value (sym (get-at n items name v.0 candidate at v.1) ∙ is) in
      v.1 ∙ ap (λ (x : List ℕ). Some x) same

  pub stored-holds : IsStored (settings_in n items) name value → stored.Holds items second value
  stored-holds is = subst (λ (id : ℕ). stored.Holds items id value) (sym is_second) (holds-at is)

  abbrev old : List ℕ
  old = (at-value n items name candidate at).0

  has-old : get (settings_in n items) name ≡ Some old
  has-old = get-at n items name old candidate at (at-value n items name candidate at).1

  contains : contains_key (settings_in n items) name ≡ true
  contains = ap is_some has-old

  pub change-few : too_many (settings_in n items) name ≡ false
  change-few = stored-few (settings_in n items) name contains

  module _ (price : ℕ → ℕ) (cap sectors : ℕ) (d e : Device) (after : Items) where
    pub change-done : (after ≡ insert items second value) → (stored.Holds items second value → e ≡ d) → (¬ (settings_in n after ≡ settings_in n items) → SpendsSome d e)
        → Sets (pair_room price cap (counted price) too_many) d e (settings_in n items) (settings_in n after) name value
    change-done is equal spends =
        let sets : settings_in n after ≡ insert (settings_in n items) name value = ap (settings_in n) (is ∙ ap (λ (id : ℕ). insert items id value) is_second) ∙ change-sets in
        record {
          free = change-few;
          settings = sets;
          same = λ is. equal (stored-holds is);
          spends = λ other. spends (λ same. other (ap (λ (m : Map). get m name) (sym same ∙ sets) ∙ get-insert_same (settings_in n items) name value));
        }

    pub change-refused : (need live : ℕ) → stored.FindsNoSpace price cap sectors items after second value need live → (given cost : ℕ) → given ≡ price (length value) → cost ≡ (pair_room price cap (counted price) too_many).cost (settings_in n items)
        → FindsNoSpace (pair_room price cap (counted price) too_many) sectors (settings_in n items) (settings_in n after) name value given cost
    change-refused need live finds given cost needs lives =
        let numbering = stored-numbering price cap (counted price) too_many (settings_in n items) name value contains in
        let largest : (pair_room price cap (counted price) too_many).largest (settings_in n items) name value ≡ price (length value) = numbering.0 in
        let most = items-within price cap (counted price) too_many n laws (counts price) items clean in
        record {
          free = change-few;
          other = λ is. finds.other (stored-holds is);
          full = refused-room price cap (counted price) too_many sectors (price (length value)) (items_cost price items) (settings_in n items) name value (omega arith) (omega arith) finds.full;
          needs = needs ∙ sym numbering.1;
          lives = lives;
          settings = ap (settings_in n) finds.items;
        }

    pub change-orphans : stored.StopsWriting price cap items after second value → HasOrphans n after 1
    change-orphans stops = elim stops.items [ inl same ↦ no-orphans n after 1 (subst (HasNoOrphans n) (sym same) clean) | inr put ↦ no-orphans n after 1 (subst (HasNoOrphans n) (sym put) change-clean) ]

    pub change-cut : stored.StopsWriting price cap items after second value → IsPut (settings_in n items) (settings_in n after) name value
    change-cut stops = elim stops.items [ inl same ↦ inl (ap (settings_in n) same) | inr put ↦ inr (ap (settings_in n) (put ∙ ap (λ (id : ℕ). insert items id value) is_second) ∙ change-sets) ]

  -- it has the value already
  pub change-none : stored.Holds items second value → (price : ℕ → ℕ) (cap : ℕ) (d : Device) → Sets (pair_room price cap (counted price) too_many) d d (settings_in n items) (settings_in n items) name value
  change-none holds price cap d = change-done price cap 0 d d items (sym (put-again items second value holds)) (λ same. refl) (λ other. absurd (other refl))
