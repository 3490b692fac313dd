-- Names by their bytes: which items of the ids of names are the names of settings that count, where items are orphans and where none is.
use Rattle.std.proofs.Common.{◌≡◌, ℕ, ◌+◌, ◌<◌, ◌≤◌, true, List, Option, Some, None, is_some, refl, sym, ap, subst, ◌∙◌, inl, inr, arith}
use Rattle.std.specs.Prelude.{option_map, IfSome}
use Rattle.std.specs.FinMap.{get, contains_key}
use Rattle.std.proofs.lemmas.Bool.{false≢true}
use Rattle.setting_name.specs.Name.{IsName}
use Rattle.item_laws.specs.Bytes.{is_behind as bytes_behind, HasBytes, IsNextOf}
use Rattle.item_laws.specs.Items.{Items}
use Rattle.backend_api.specs.Least.{IsLeast}
use Rattle.backend_api.specs.Map.{is_behind, next_name}
use Rattle.backend_api.proofs.LeastLemmas.{next-least}
use Rattle.named_items.specs.Numbering.{Numbering, IsNumbering}
use Rattle.named_items.specs.Pairs.{count_in, pair_at, settings_in, HasName, IsAt, IsIdOfName, IsKept, HasNoOrphans}
use Rattle.named_items.proofs.CandidateLemmas.{at-candidate}
use Rattle.named_items.proofs.NameLemmas.{get-at, at-value, get-nowhere}
use Rattle.named_items.proofs.OrphanLemmas.{seek}
use Rattle.named_items.specs.CandidateIds.{AreOfNames, IsCandidateId, HasCandidates, HasAllCandidates}
use Rattle.named_items.specs.Looking.{IsForName}
use Rattle.item_store.specs.declared.entry.IdRange.{IdRange}
use Rattle.item_store.specs.declared.holding.Holder.{Holder}
use Rattle.item_store.specs.Asking.{IsHolderOf}
use Rattle.named_items.proofs.LookupSteps.{at-lawful, has-here, named-as}
use Rattle.named_items.proofs.OrphanSteps.{named-at}

some_none : {A : Type 0} (x : A) → Some x ≡ None → ⊥
some_none x e = cc

-- greater in byte order, said of bytes and of names
past-behind : (after : Option (List ℕ)) (name : List ℕ) → bytes_behind after name ≡ is_behind after name
past-behind None name = refl
past-behind (Some text) name = refl

-- ---- also where items are orphans

-- each of these ids is for names
among-own : (n : Numbering) (top : ℕ) (ids : IdRange) → AreOfNames n top ids → (id : ℕ) → ids.least ≤ id → id < ids.most + 1 → IsForName n id
among-own n top ids own id low high =
    let first : n.first ≤ ids.least = own.from in
    let last : ids.most < n.first + n.step = own.to in
    record { from = omega arith; to = omega arith }

module _ (n : Numbering) (items : Items) where
  -- an id for names that is kept is that of the setting whose name is there
  pub kept-at : (laws : IsNumbering n) (name : List ℕ) (id : ℕ) → IsForName n id → get items id ≡ Some name → IsKept n items id → IsAt n items name id
  kept-at laws name id own has kept =
      let low : n.first ≤ id = own.from in
      let high : id < n.first + n.step = own.to in
      elim kept [
        | inl count ↦
            let e : id ≡ n.count_id = count.is in
            let below : n.count_id < n.first = laws.below in
            absurd (omega arith)
        | inr part ↦ elim part.is [
          | inl e ↦
              let at : IsAt n items part.name id = subst (λ (k : ℕ). IsAt n items part.name k) (sym e) part.at in
              let same : part.name ≡ name = named-as part.name name (get items id) (named-at n items part.name id at) has in
              subst (λ (t : List ℕ). IsAt n items t id) same at
          | inr e ↦
              let from : n.first ≤ part.candidate = part.at.inside.from in
              absurd (omega arith)
        ]
      ]

-- the item a step above a holder
pub value-found : (ids : IdRange) (items : Items) (bytes : List ℕ) (step own : ℕ) → own ≡ step → (o : Option Holder) → IsHolderOf ids step items bytes o
    → IfSome o (λ holder. option_map (λ value. value.now) holder.above ≡ get items (holder.id + own))
value-found ids items bytes step own same None none = tt
value-found ids items bytes step own same (Some holder) has = has.1 ∙ ap (λ (k : ℕ). get items (holder.id + k)) (sym same)

pub none-found : (n : Numbering) (items : Items) (name : List ℕ) (o : Option Holder) → o ≡ None → IsIdOfName n items name (option_map (λ holder. holder.id) o) → IsIdOfName n items name None
none-found n items name o is found = subst (λ (x : Option Holder). IsIdOfName n items name (option_map (λ holder. holder.id) x)) is found

-- ---- where none is

module _ (n : Numbering) (laws : IsNumbering n) (items : Items) (clean : HasNoOrphans n items) (top : ℕ) (ids : IdRange) (own : AreOfNames n top ids) where
  -- it is neither a count nor a value
  name-is : (id : ℕ) (bytes : List ℕ) → HasBytes ids.least ids.most items id bytes → IsAt n items bytes id
  name-is id bytes has =
      let high : id ≤ ids.most = has.to in
      elim (clean id) [
        | inl none ↦ absurd (some_none bytes (sym has.has ∙ none))
        | inr kept ↦ kept-at n items laws bytes id (among-own n top ids own id has.from (omega arith)) has.has kept
      ]

  here-bytes : (name : List ℕ) (candidate : ℕ) → HasName (pair_at n items candidate) name → IsCandidateId ids candidate → HasBytes ids.least ids.most items candidate name
  here-bytes name candidate has among = record { from = among.from; to = among.to; has = (has-here n candidate name (get items candidate) (get items (candidate + n.step)) has).named }

  -- an id that has the bytes of a name is its id, and without one the name has none
  pub id-found : (name : List ℕ) → HasCandidates n name ids → (step : ℕ) (o : Option Holder) → IsHolderOf ids step items name o → IsIdOfName n items name (option_map (λ holder. holder.id) o)
  id-found name candidates step None none = λ other inside has. none other (here-bytes name other has (candidates items other inside (at-candidate n items name other has)))
  id-found name candidates step (Some holder) has = name-is holder.id name has.0

  at-key : (name : List ℕ) (candidate : ℕ) → IsAt n items name candidate → contains_key (settings_in n items) name ≡ true
  at-key name candidate at = let value = at-value n items name candidate at in ap is_some (get-at n items name value.0 candidate at value.1)

  module _ (candidates : HasAllCandidates n ids) (after : Option (List ℕ)) where
    key-bytes : (name : List ℕ) → contains_key (settings_in n items) name ≡ true → (candidate : ℕ) × HasBytes ids.least ids.most items candidate name
    key-bytes name has =
        elim (seek (pair_at n items) name n.first (count_in n items)) [
          | inl some ↦ (some.0, here-bytes name some.0 some.3 (candidates items some.0 (record { from = some.1; to = some.2 })))
          | inr none ↦ absurd (false≢true (sym (ap is_some (get-nowhere n items name (λ candidate inside. none candidate inside.from inside.to))) ∙ has))
        ]

    next-is : (o : Option (List ℕ)) → IsNextOf ids.least ids.most items after o → IsLeast after (contains_key (settings_in n items)) o
    next-is None none = λ name is. let some = key-bytes name is in sym (past-behind after name) ∙ none some.0 name some.1
    next-is (Some next) is = (
      at-key next is.0.0 (name-is is.0.0 next is.0.1),
      sym (past-behind after next) ∙ is.1,
      λ name key behind. let some = key-bytes name key in is.2 some.0 name some.1 (past-behind after name ∙ behind),
    )

    -- the least bytes that are greater are the next name
    pub next-found : (o : Option (List ℕ)) → IsNextOf ids.least ids.most items after o → o ≡ next_name (settings_in n items) after
    next-found o next = sym (next-least (settings_in n items) after o (next-is o next))

    -- and lawful
    pub next-lawful : (name : List ℕ) → IsNextOf ids.least ids.most items after (Some name) → IsName name
    next-lawful name is = at-lawful n items name is.0.0 (name-is is.0.0 name is.0.1)
