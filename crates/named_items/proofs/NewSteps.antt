-- What the settings become where a new name is put, by the numbers of room.
use Rattle.std.proofs.Common.{◌≡◌, ◌⊎◌, ℕ, ◌+◌, Bool, true, false, List, length, Some, None, is_some, Result, Ok, Err, sym, ap, subst, ◌∙◌, inl, inr}
use Rattle.std.specs.FinMap.{get, insert, contains_key}
use Rattle.std.proofs.lemmas.Bool.{false≢true}
use Rattle.flash_sim.specs.Device.{Device}
use Rattle.item_laws.specs.Items.{Items}
use Rattle.backend_api.specs.Map.{Map, IsStored}
use Rattle.backend_api.specs.declared.backend.SetFault.{SetFault}
use Rattle.backend_api.specs.declared.backend.SetFault.TheVariants.{NoSpace, TooManyNames, PowerLost}
use Rattle.backend_api.specs.Ends.{SpendsSome, Sets, FindsNoSpace, SetEnds}
use Rattle.backend_api.specs.Room.{Room}
use Rattle.backend_api.proofs.MapLemmas.{get-insert_same}
use Rattle.named_items.specs.Numbering.{Numbering, IsNumbering}
use Rattle.named_items.specs.PairRoom.{pair_room, IsCountCost}
use Rattle.named_items.specs.Pairs.{is_pair, settings_in, IsInside, IsIdOfName, HasNoOrphans}
use Rattle.named_items.proofs.NameLemmas.{get-nowhere}
use Rattle.named_items.proofs.RoomLemmas.{new-need}
use Rattle.named_items.specs.Ends.{IsRefused, IsFree}
use Rattle.named_items.specs.Putting.{IsPut}
use Rattle.named_items.specs.Orphans.{HasOrphans}
use Rattle.named_items.proofs.CostLemmas.{get-put_other}
use Rattle.named_items.proofs.OrphanLemmas.{bare-clean}
use Rattle.named_items.proofs.OrphanUnits.{no-orphans, one-orphan}
use Rattle.named_items.proofs.SetSteps.{valued-name, value-leaves, name-sets, name-clean, refused-describes}

none_some : {A : Type 0} (x : A) → None ≡ Some x → ⊥
none_some x e = cc

-- ---- a new name

module _ (n : Numbering) (laws : IsNumbering n) (counted : (ℕ → ℕ) → ℕ) (too_many : Map → List ℕ → Bool) (counts : (price : ℕ → ℕ) → IsCountCost n price (counted price))
    (items : Items) (clean : HasNoOrphans n items) (name value : List ℕ) (absent : IsIdOfName n items name None) where
  pub not-stored : ¬ IsStored (settings_in n items) name value
  not-stored is = none_some value (sym (get-nowhere n items name absent) ∙ is)

  module _ (candidate second : ℕ) (inside : IsInside n items candidate) (free : IsFree items candidate second) (passes : is_pair n candidate name value ≡ true) (few : too_many (settings_in n items) name ≡ false) (is_second : second ≡ candidate + n.step) where
    pub new-done : (price : ℕ → ℕ) (cap : ℕ) (d e : Device) (after : Items) → after ≡ insert (insert items second value) candidate name
        → (¬ (settings_in n after ≡ settings_in n items) → SpendsSome d e)
        → Sets (pair_room price cap (counted price) too_many) d e (settings_in n items) (settings_in n after) name value
    new-done price cap d e after is spends =
        let sets : settings_in n after ≡ insert (settings_in n items) name value = ap (settings_in n) (is ∙ ap (λ (id : ℕ). insert (insert items id value) candidate name) is_second) ∙ name-sets n laws items clean name value candidate inside free.0 absent passes in
        record {
          free = few;
          settings = sets;
          same = λ is. absurd (not-stored is);
          spends = λ other. spends (λ same. other (ap (λ (m : Map). get m name) (sym same ∙ sets) ∙ get-insert_same (settings_in n items) name value));
        }

    pub new-clean : (after : Items) → after ≡ insert (insert items second value) candidate name → HasNoOrphans n after
    new-clean after is = subst (HasNoOrphans n) (sym (is ∙ ap (λ (id : ℕ). insert (insert items id value) candidate name) is_second)) (name-clean n laws items clean name value candidate inside free.0 absent passes)

    -- where it was cut, at most the value is an orphan
    pub new-orphans : (after : Items) → (after ≡ items) ⊎ (after ≡ insert items second value) ⊎ (after ≡ insert (insert items second value) candidate name) → HasOrphans n after 1
    new-orphans after ends = elim ends [
      | inl same ↦ no-orphans n after 1 (subst (HasNoOrphans n) (sym same) clean)
      | inr more ↦ elim more [
        | inl first ↦ subst (λ (m : Items). HasOrphans n m 1) (sym (first ∙ ap (λ (id : ℕ). insert items id value) is_second))
            (one-orphan n (insert items (candidate + n.step) value) (candidate + n.step)
            (bare-clean n laws items (insert items (candidate + n.step) value) candidate inside (λ id a b. get-put_other items (candidate + n.step) value id b)
            (valued-name n laws items clean name value candidate inside free.0 absent passes) clean))
        | inr all ↦ no-orphans n after 1 (new-clean after all)
      ]
    ]

    pub new-cut : (after : Items) → (after ≡ items) ⊎ (after ≡ insert items second value) ⊎ (after ≡ insert (insert items second value) candidate name)
        → IsPut (settings_in n items) (settings_in n after) name value
    new-cut after ends = elim ends [
      | inl same ↦ inl (ap (settings_in n) same)
      | inr more ↦ elim more [
        | inl first ↦ inl (ap (settings_in n) (first ∙ ap (λ (id : ℕ). insert items id value) is_second) ∙ value-leaves n laws items clean name value candidate inside free.0 absent passes)
        | inr all ↦ inr (ap (settings_in n) (all ∙ ap (λ (id : ℕ). insert (insert items id value) candidate name) is_second) ∙ name-sets n laws items clean name value candidate inside free.0 absent passes)
      ]
    ]

    pub new-refused : (price : ℕ → ℕ) (cap sectors : ℕ) (after : Items) → after ≡ items → IsRefused price cap sectors items name value
        → (given cost : ℕ) → given ≡ price (length value) + price (length name) → cost ≡ (pair_room price cap (counted price) too_many).cost (settings_in n items)
        → FindsNoSpace (pair_room price cap (counted price) too_many) sectors (settings_in n items) (settings_in n after) name value given cost
    new-refused price cap sectors after is refused given cost needs lives =
        let none : contains_key (settings_in n items) name ≡ false = ap is_some (get-nowhere n items name absent) in
        record {
          free = few;
          other = not-stored;
          full = refused-describes n laws items clean name value candidate inside free.0 absent passes price cap (counted price) sectors too_many (counts price) refused;
          needs = needs ∙ sym (new-need price cap (counted price) too_many (settings_in n items) name value none);
          lives = lives;
          settings = ap (settings_in n) is;
        }

-- a set that begins with a step that leaves the settings
pub set-after : (T : Type 0) (room : Room) (sectors : ℕ) (a b e : Device) (before after : Map) (name value : List ℕ) (r : Result T SetFault) → room.too_many before name ≡ false → ¬ IsStored before name value → (¬ (after ≡ before) → SpendsSome a e)
    → SetEnds room sectors b e before after name value r → SetEnds room sectors a e before after name value r
set-after T room sectors a b e before after name value (Ok x) few other spends ends = record {
  free = few;
  settings = ends.settings;
  same = λ is. absurd (other is);
  spends = λ new. spends (λ same. new (ap (λ (m : Map). get m name) (sym same ∙ ends.settings) ∙ get-insert_same before name value));
}
set-after T room sectors a b e before after name value (Err (NoSpace need live)) few other spends ends = ends
set-after T room sectors a b e before after name value (Err TooManyNames) few other spends ends = absurd (false≢true (sym few ∙ ends.0))
set-after T room sectors a b e before after name value (Err PowerLost) few other spends ends = ends
