-- What the settings become where a new name is put, whether it is refused or power is lost.
use Rattle.std.proofs.Common.{◌≡◌, ℕ, ◌+◌, ◌<◌, ◌≤◌, Bool, true, false, List, length, Option, Some, None, is_some, refl, sym, ap, subst, ◌∙◌, inl, inr, arith}
use Rattle.std.specs.FinMap.{get, insert, contains_key}
use Rattle.std.proofs.lemmas.Bool.{cases_eq}
use Rattle.item_laws.specs.Costs.{items_cost}
use Rattle.item_laws.specs.Items.{Items}
use Rattle.backend_api.specs.Map.{Map}
use Rattle.backend_api.specs.Room.{HasNoRoom}
use Rattle.named_items.specs.Numbering.{Numbering, IsNumbering}
use Rattle.named_items.specs.PairRoom.{pair_room, IsCountCost}
use Rattle.named_items.specs.Pairs.{count_in, is_pair, pair_at, settings_in, HasName, IsInside, IsIdOfName, HasNoOrphans}
use Rattle.named_items.proofs.CostLemmas.{get-put, get-put_other}
use Rattle.named_items.proofs.PairLemmas.{id-bare, id-put, no-name, made-pair, pair-stays}
use Rattle.named_items.proofs.NameLemmas.{get-nowhere}
use Rattle.named_items.proofs.RoomLemmas.{refused-room, new-need, value-small, name-small, items-within}
use Rattle.named_items.proofs.OrphanLemmas.{put-clean}
use Rattle.named_items.specs.Ends.{IsRefused}

module _ (n : Numbering) (laws : IsNumbering n) (items : Items) (clean : HasNoOrphans n items) (name value : List ℕ) (candidate : ℕ) (inside : IsInside n items candidate) (free_name : get items candidate ≡ None) (absent : IsIdOfName n items name None)
    (passes : is_pair n candidate name value ≡ true) where
  abbrev valued : Items
  valued = insert items (candidate + n.step) value

  abbrev both : Items
  both = insert valued candidate name

  apart : candidate ≡ candidate + n.step → ⊥
  apart e =
      let high : candidate < n.first + count_in n items = inside.to in
      let low : n.first ≤ candidate = inside.from in
      let few : count_in n items ≤ n.step = laws.few (get items n.count_id) in
      absurd (omega arith)

  pub valued-name : get (insert items (candidate + n.step) value) candidate ≡ None
  valued-name = get-put_other items (candidate + n.step) value candidate apart ∙ free_name

  -- the value alone leaves the settings
  pub value-leaves : settings_in n (insert items (candidate + n.step) value) ≡ settings_in n items
  value-leaves =
      id-bare n items valued (candidate + n.step) (λ other off. get-put_other items (candidate + n.step) value other off) laws candidate inside (inr refl)
      (no-name n candidate (get items candidate) (get items (candidate + n.step)) free_name)
      (no-name n candidate (get valued candidate) (get valued (candidate + n.step)) valued-name)

  valued-count : count_in n valued ≡ count_in n items
  valued-count =
      let below : n.count_id < n.first = laws.below in
      let low : n.first ≤ candidate = inside.from in
      ap n.count_of (get-put_other items (candidate + n.step) value n.count_id (λ (e : n.count_id ≡ candidate + n.step). absurd (omega arith)))

  both-pair : pair_at n both candidate ≡ Some (name, value)
  both-pair =
      made-pair n candidate name value (get both candidate) (get both (candidate + n.step)) (get-put valued candidate name)
      (get-put_other valued candidate name (candidate + n.step) (λ e. apart (sym e)) ∙ get-put items (candidate + n.step) value) passes

  valued-pairs : (other : ℕ) → n.first ≤ other → other < n.first + count_in n items → ¬ HasName (pair_at n valued other) name
  valued-pairs other from to has =
      elim (cases_eq other candidate) [
        | inl e ↦
            let none : pair_at n valued other ≡ None = no-name n other (get valued other) (get valued (other + n.step)) (ap (get valued) e ∙ valued-name) in
            let h : ⊥ = subst (λ (o : Option (List ℕ × List ℕ)). HasName o name) none has in h
        | inr off ↦
            let low : n.first ≤ candidate = inside.from in
            let few : count_in n items ≤ n.step = laws.few (get items n.count_id) in
            let stays = pair-stays n items valued (candidate + n.step) (λ o a. get-put_other items (candidate + n.step) value o a) other (λ (e : other ≡ candidate + n.step). absurd (omega arith)) (λ (e : other + n.step ≡ candidate + n.step). off (omega arith)) in
            absent other (record { from = from; to = to }) (subst (λ (o : Option (List ℕ × List ℕ)). HasName o name) stays has)
      ]

  -- with the name they have the setting
  pub name-sets : settings_in n (insert (insert items (candidate + n.step) value) candidate name) ≡ insert (settings_in n items) name value
  name-sets =
      let within : IsInside n valued candidate = record { from = inside.from; to = subst (λ (c : ℕ). candidate < n.first + c) (sym valued-count) inside.to } in
      let none : pair_at n valued candidate ≡ None = no-name n candidate (get valued candidate) (get valued (candidate + n.step)) valued-name in
      id-put n valued both candidate (λ other off. get-put_other valued candidate name other off) laws candidate within (inl refl) name value both-pair
      (λ x has. let h : ⊥ = subst (λ (o : Option (List ℕ × List ℕ)). HasName o x) none has in absurd h)
      (λ other from to. let high : candidate < n.first + count_in n items = inside.to in valued-pairs other from (omega arith))
      ∙ ap (λ (m : Map). insert m name value) value-leaves

  -- and there is no orphan
  pub name-clean : HasNoOrphans n (insert (insert items (candidate + n.step) value) candidate name)
  name-clean =
      put-clean n laws items both candidate inside (λ id a b. get-put_other valued candidate name id a ∙ get-put_other items (candidate + n.step) value id b) name value both-pair
      (λ other within has. absurd (absent other within has)) clean

  -- a refused write reports that there is no room
  pub refused-describes : (price : ℕ → ℕ) (cap counted sectors : ℕ) (too_many : Map → List ℕ → Bool) → IsCountCost n price counted → IsRefused price cap sectors items name value
      → HasNoRoom (pair_room price cap counted too_many) sectors (settings_in n items) name value
  refused-describes price cap counted sectors too_many counts refused =
      let settings : Map = settings_in n items in
      let none : contains_key (settings_in n items) name ≡ false = ap is_some (get-nowhere n items name absent) in
      let need = new-need price cap counted too_many (settings_in n items) name value none in
      let most = items-within price cap counted too_many n laws counts items clean in
      let small : refused.one ≤ (pair_room price cap counted too_many).largest (settings_in n items) name value = elim refused.is [
        | inl e ↦ let le = value-small price cap counted too_many (settings_in n items) name value none in omega arith
        | inr e ↦ let le = name-small price cap counted too_many (settings_in n items) name value none in omega arith
      ] in
      refused-room price cap counted too_many sectors refused.one (price (length value) + items_cost price items) (settings_in n items) name value small (omega arith) refused.full
