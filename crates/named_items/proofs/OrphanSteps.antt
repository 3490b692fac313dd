-- Looking at the ids one after the other, and removing orphans.
use Rattle.std.proofs.Common.{◌≡◌, ◌⊎◌, ℕ, ◌+◌, ◌^◌, ◌<◌, false, List, Option, Some, None, Result, Ok, Err, refl, sym, ap, subst, ◌∙◌, inl, inr, arith}
use Rattle.std.specs.Prelude.{is_err, IfSome}
use Rattle.std.specs.FinMap.{get, remove}
use Rattle.std.proofs.lemmas.Bool.{cases_eq, cases_lt, false≢true}
use Rattle.flash_sim.specs.Device.{Device}
use Rattle.flash_sim.specs.declared.flash.PowerLost.{PowerLost as Lost}
use Rattle.flash_map.proofs.SpendingLemmas.{spends_none}
use Rattle.item_laws.specs.Items.{Items}
use Rattle.named_items.specs.Numbering.{Numbering, IsNumbering}
use Rattle.named_items.specs.Pairs.{settings_in, IsAt, IsKept, HasNoOrphans}
use Rattle.named_items.proofs.CostLemmas.{get-cut, get-cut_other}
use Rattle.named_items.proofs.PairLemmas.{pair-made}
use Rattle.named_items.proofs.OrphanLemmas.{orphan-removed, kept-stays}
use Rattle.named_items.specs.StoreEnds.{DeleteUnits, IsNextId, DeleteEnds}
use Rattle.named_items.specs.Orphans.{KeepsEach, KeepsSettings, LooksAt, Removes, SpendsOnOne}
use Rattle.named_items.proofs.RemovalUnits.{per-none}
use Rattle.named_items.proofs.SoFar.{IsPast, HasNoneBefore, ids_left}

-- ---- which name stands at an id

-- the item at an id where a setting counts is its name
pub named-at : (n : Numbering) (items : Items) (name : List ℕ) (id : ℕ) → IsAt n items name id → get items id ≡ Some name
named-at n items name id at = let made = pair-made n id name (get items id) (get items (id + n.step)) at.here in made.is_name

-- it stands at one id
pub same-id : (n : Numbering) (items : Items) (name : List ℕ) (a b : ℕ) → IsAt n items name a → IsAt n items name b → a ≡ b
same-id n items name a b x y =
    elim (cases_lt a b) [
      | inl less ↦ absurd (y.lowest a x.inside.from less x.here)
      | inr le ↦ elim (cases_lt b a) [
        | inl less ↦ absurd (x.lowest b y.inside.from less y.here)
        | inr ge ↦ omega arith
      ]
    ]

-- ---- one id

pub keeps-same : (n : Numbering) (items : Items) → KeepsSettings n items items
keeps-same n items = record { settings = refl; kept = λ id is. refl; still = λ id is. is; gone = λ id. inr refl }

pub spends-kept : (most : ℕ) (costs : DeleteUnits) (d : Device) (items : Items) → SpendsOnOne most costs d d items items false
spends-kept most costs d items = record {
  at_most = (0, omega arith, spends_none d);
  one = (0, omega arith, spends_none d);
  next = (0, omega arith, spends_none d);
  per_item = λ ok. per-none most d items;
}

-- the item is gone
pub delete-cut : {U : Type 0} (items : Items) (id : ℕ) (d e : Device) (after : Items) (r : Result U Lost) → is_err r ≡ false → DeleteEnds d e items after id r → get after id ≡ None
delete-cut items id d e after (Ok x) ok ends = ap (λ (m : Items). get m id) ends.items ∙ get-cut items id
delete-cut items id d e after (Err l) ok ends = absurd (false≢true (sym ok))

module _ (n : Numbering) (laws : IsNumbering n) (items : Items) (id : ℕ) where
  -- it is kept
  pub looks-kept : (d : Device) → IsKept n items id → LooksAt n d d items items id false
  looks-kept d kept = record {
    others = λ other apart. refl;
    still = λ other is. is;
    idle = λ is. refl;
    absent = λ is. refl;
    rests = λ clean. refl;
    present = λ lost. absurd (false≢true lost);
    removes = λ ok. record { done = inr kept; others = λ other apart. refl; kept = λ other apart was. was };
  }

  module _ (orphan : ¬ IsKept n items id) where
    pub removes-cut : Removes n items (remove items id) id
    removes-cut = record {
      done = inl (get-cut items id);
      others = λ other apart. get-cut_other items id other apart;
      kept = λ other apart was. kept-stays n laws items (remove items id) id (λ o a. get-cut_other items id o a) (get-cut items id) orphan other apart was;
    }

    cut-keeps : settings_in n (remove items id) ≡ settings_in n items
    cut-keeps = orphan-removed n laws items (remove items id) id (λ other apart. get-cut_other items id other apart) (get-cut items id) orphan

    pub delete-keeps : {U : Type 0} (d e : Device) (after : Items) (r : Result U Lost) → DeleteEnds d e items after id r → settings_in n after ≡ settings_in n items
    delete-keeps d e after (Ok x) ends = ap (settings_in n) ends.items ∙ cut-keeps
    delete-keeps d e after (Err l) ends = elim ends.items [ inl same ↦ ap (settings_in n) same | inr cut ↦ ap (settings_in n) cut ∙ cut-keeps ]

    pub delete-removes : {U : Type 0} (d e : Device) (after : Items) (r : Result U Lost) → is_err r ≡ false → DeleteEnds d e items after id r → Removes n items after id
    delete-removes d e after (Ok x) ok ends = subst (λ (m : Items). Removes n items m id) (sym ends.items) removes-cut
    delete-removes d e after (Err l) ok ends = absurd (false≢true (sym ok))

    pub delete-kept : {U : Type 0} (d e : Device) (after : Items) (r : Result U Lost) → DeleteEnds d e items after id r → KeepsEach n items after
    delete-kept {U = U} d e after r ends other kept = by (cases_eq other id)
      where
        stays : ¬ (other ≡ id) → after ≡ remove items id → get after other ≡ get items other
        stays apart is = ap (λ (m : Items). get m other) is ∙ get-cut_other items id other apart

        ended : (r : Result U Lost) → DeleteEnds d e items after id r → ¬ (other ≡ id) → get after other ≡ get items other
        ended (Ok x) ends apart = stays apart ends.items
        ended (Err l) ends apart = elim ends.items [ inl same ↦ ap (λ (m : Items). get m other) same | inr cut ↦ stays apart cut ]

        by : (other ≡ id) ⊎ ¬ (other ≡ id) → get after other ≡ get items other
        by (inl e) = absurd (orphan (subst (IsKept n items) e kept))
        by (inr apart) = ended r ends apart

    -- without an item nothing is programmed
    pub delete-absent : {U : Type 0} (d e : Device) (after : Items) (r : Result U Lost) → DeleteEnds d e items after id r → get items id ≡ None → e ≡ d
    delete-absent d e after (Ok x) ends gone = ends.absent gone
    delete-absent d e after (Err l) ends gone = absurd (ends.present gone)

    pub delete-rests : {U : Type 0} (d e : Device) (after : Items) (r : Result U Lost) → DeleteEnds d e items after id r → HasNoOrphans n items → e ≡ d
    delete-rests {U = U} d e after r ends clean = by (clean id)
      where
        none : (r : Result U Lost) → DeleteEnds d e items after id r → get items id ≡ None → e ≡ d
        none (Ok x) ends gone = ends.absent gone
        none (Err l) ends gone = absurd (ends.present gone)

        by : (get items id ≡ None) ⊎ IsKept n items id → e ≡ d
        by (inl gone) = none r ends gone
        by (inr kept) = absurd (orphan kept)

-- ---- what is kept

-- it is kept still, with the bytes that it had
abbrev pub StaysEach : Numbering → Items → Items → Type 0
StaysEach n before after = (id : ℕ) → IsKept n before id → IsKept n after id × (get after id ≡ get before id)

module _ (n : Numbering) (start before after : Items) (so_far : StaysEach n start before) where
  pub kept-more : KeepsEach n before after → KeepsEach n start after
  kept-more keeps id kept = let was = so_far id kept in keeps id was.0 ∙ was.1

  pub stays-more : (id : ℕ) → Removes n before after id → KeepsEach n before after → (IsKept n before id → after ≡ before) → StaysEach n start after
  stays-more id removes keeps idle other kept = (elim (cases_eq other id) [ inl e ↦ here e | inr apart ↦ removes.kept other apart was.0 ], keeps other was.0 ∙ was.1)
    where
      was : IsKept n before other × (get before other ≡ get start other)
      was = so_far other kept

      here : other ≡ id → IsKept n after other
      here e = subst (λ (m : Items). IsKept n m other) (sym (idle (subst (IsKept n before) e was.0))) was.0

-- ---- one after the other

module _ (n : Numbering) where
  -- the first one
  pub orphans-start : (items : Items) (first : Option ℕ) → IsNextId items None first → HasNoneBefore n items first
  orphans-start items None next id past = inl (next id tt)
  orphans-start items (Some at) next id past = inl (next.2 id tt past)

  -- and the next one
  pub orphans-step : (before after : Items) (id : ℕ) (next : Option ℕ) → Removes n before after id → IsNextId after (Some id) next → HasNoneBefore n before (Some id) → HasNoneBefore n after next
  orphans-step before after id next removes is so_far other past =
      elim (cases_eq other id) [
        | inl e ↦ subst (λ (k : ℕ). (get after k ≡ None) ⊎ IsKept n after k) (sym e) removes.done
        | inr apart ↦ elim (cases_lt other id) [
          | inl less ↦ elim (so_far other less) [
            | inl none ↦ inl (removes.others other apart ∙ none)
            | inr kept ↦ inr (removes.kept other apart kept)
          ]
          | inr above ↦ let behind : id < other = omega arith in inl (later next is past behind)
        ]
      ]
    where
      later : (next : Option ℕ) → IsNextId after (Some id) next → IsPast next other → id < other → get after other ≡ None
      later None is past behind = is other behind
      later (Some at) is past behind = is.2 other behind past

  pub orphans-end : (items : Items) → HasNoneBefore n items None → HasNoOrphans n items
  orphans-end items all id = all id tt

-- the next id is greater, so that fewer are left
pub left-smaller : (top : ℕ) (after : Items) (id : ℕ) (next : Option ℕ) → top < 2 ^ 32 → IfSome next (λ j. j < top) → id < top → IsNextId after (Some id) next → ids_left next < ids_left (Some id)
left-smaller top after id None small known low is = omega arith
left-smaller top after id (Some j) small known low is = let behind : id < j = is.0 in omega arith
