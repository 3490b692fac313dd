-- The count of names: how many names there are, what it costs, and what its rise leaves.
use Rattle.std.proofs.Common.{◌≡◌, ℕ, ◌+◌, ◌-◌, ◌*◌, ◌<◌, ◌≤◌, Bool, true, false, not, ◌&&◌, List, length, Option, Some, None, is_some, refl, sym, ap, subst, ◌∙◌, inl, inr, arith}
use Rattle.std.specs.Prelude.{◌==◌, nat_le, sum_by}
use Rattle.std.specs.FinMap.{get, insert, contains_key, len, entries}
use Rattle.std.proofs.lemmas.Bool.Decides.{nat_tests}
use Rattle.item_laws.specs.Costs.{items_cost}
use Rattle.item_laws.specs.Items.{Items}
use Rattle.backend_api.specs.Map.{Map, IsStored}
use Rattle.backend_api.specs.Ends.{FindsNoSpace}
use Rattle.named_items.specs.StoreEnds as stored
use Rattle.named_items.specs.PairRoom.{pair_room}
use Rattle.named_items.specs.Candidates.{IsFreeCandidate, CandidatesAre}
use Rattle.named_items.specs.Ends.{IsFree}
use Rattle.backend_nvs.specs.IdLayout.{nvs_numbering, nvs-numbering, nvs-counts, count_of, count-few, is_count, too_many}
use Rattle.named_items.specs.Cost.{item_cost, pair_cost, settings_cost}
use Rattle.named_items.specs.Numbering.{Numbering, IsNumbering}
use Rattle.named_items.specs.Pairs.{count_in, pair_at, settings_in, IsInside, IsIdOfName, HasNoOrphans}
use Rattle.named_items.proofs.CostLemmas.{get-put, get-put_other, clean-cost, clean-distinct, map-sum}
use Rattle.named_items.proofs.PairLemmas.{no-name, count-raised, settings-on}
use Rattle.named_items.proofs.RangePairs.{pairs_on}
use Rattle.named_items.proofs.NameLemmas.{get-nowhere, clean-len, on-few, on-full, on-free, used-name, used-value}
use Rattle.named_items.proofs.RoomLemmas.{refused-room, new-need, count-small, items-within}
use Rattle.named_items.proofs.OrphanLemmas.{raised-clean}

none_some : {A : Type 0} (x : A) → None ≡ Some x → ⊥
none_some x e = cc

-- ---- how many names

-- any name may stand at each id that the count allows
pub count-candidates : (limit : ℕ) (items : Items) (name : List ℕ) (count : ℕ) → count ≡ count_in (nvs_numbering limit) items → CandidatesAre (nvs_numbering limit) items name 0x8001 count
count-candidates limit items name count is = record {
  low = omega arith;
  high = omega arith;
  candidate = λ id from to. refl;
  only = λ id inside candidate.
      let from : 0x8001 ≤ id = inside.from in
      let to : id < 0x8001 + count_in (nvs_numbering limit) items = inside.to in
      (from, omega arith);
}

pub few-free : (settings : Map) (name : List ℕ) → len settings < 511 → too_many settings name ≡ false
few-free settings name few = by (contains_key settings name)
  where
    over : nat_le 511 (len settings) ≡ false
    over = grind (arith, nat_tests)

    by : (b : Bool) → not b && nat_le 511 (len settings) ≡ false
    by true = refl
    by false = over

-- a count of one name more is not the one before
pub count-differs : (limit : ℕ) (items : Items) (count : List ℕ) → count_of (Some count) ≡ count_in (nvs_numbering limit) items + 1 → get items 0x8000 ≡ Some count → ⊥
count-differs limit items count more is =
    let same : count_in (nvs_numbering limit) items ≡ count_of (Some count) = ap count_of is in
    absurd (omega (arith, more, same))

module _ (limit : ℕ) (items : Items) (clean : HasNoOrphans (nvs_numbering limit) items) where
  abbrev n : Numbering
  n = nvs_numbering limit

  laws : IsNumbering (nvs_numbering limit)
  laws = nvs-numbering limit

  most : count_in (nvs_numbering limit) items ≤ 511
  most = count-few (get items 0x8000)

  -- an id is free
  pub free-few : (candidate : ℕ) → IsInside (nvs_numbering limit) items candidate → IsFree items candidate (candidate + 0x4000) → len (settings_in (nvs_numbering limit) items) < 511
  free-few candidate inside free =
      let e = clean-len n laws items clean in
      let from : 0x8001 ≤ candidate = inside.from in
      let to : candidate < 0x8001 + count_in n items = inside.to in
      let less = on-free (pair_at n items) 0x8001 (count_in n items) candidate from to (no-name n candidate (get items candidate) (get items (candidate + 0x4000)) free.0) in
      let all = most in
      omega arith

  -- or the count may be raised
  pub count-leaves : count_in (nvs_numbering limit) items < 511 → len (settings_in (nvs_numbering limit) items) < 511
  count-leaves less =
      let e = clean-len n laws items clean in
      let few = on-few (pair_at n items) 0x8001 (count_in n items) in
      omega arith

  -- or all names are in use
  pub all-used : (name : List ℕ) → IsFreeCandidate (nvs_numbering limit) items name None → count_in (nvs_numbering limit) items ≡ 511 → len (settings_in (nvs_numbering limit) items) ≡ 511
  all-used name none full =
      clean-len n laws items clean
      ∙ on-full (pair_at n items) 0x8001 (count_in n items) (λ k from to. used k (record { from = from; to = to }))
      ∙ full
    where
      used : (k : ℕ) → IsInside n items k → ¬ (pair_at n items k ≡ None)
      used k inside = by (get items k) refl
        where
          by : (o : Option (List ℕ)) → get items k ≡ o → ¬ (pair_at n items k ≡ None)
          by (Some bytes) is = used-name n laws items clean k inside (λ gone. none_some bytes (sym gone ∙ is))
          by None is = used-value n laws items clean k inside (λ gone. none k (record { inside = inside; candidate = refl }) (is, gone))

  pub names-over : (name : List ℕ) → IsIdOfName (nvs_numbering limit) items name None → len (settings_in (nvs_numbering limit) items) ≡ 511 → too_many (settings_in (nvs_numbering limit) items) name ≡ true
  names-over name absent is =
      ap (λ (o : Option (List ℕ)). not (is_some o) && nat_le 511 (len (settings_in n items))) (get-nowhere n items name absent) ∙ ap (nat_le 511) is

  -- ---- what all settings cost

  pub cost-counted : (price : ℕ → ℕ) (cap : ℕ) (bytes : List ℕ) → get items 0x8000 ≡ Some bytes → items_cost price items ≡ (pair_room price cap (price 2) too_many).cost (settings_in (nvs_numbering limit) items)
  cost-counted price cap bytes is =
      clean-cost n laws items clean price
      ∙ ap (λ (x : ℕ). x + settings_cost price (settings_in n items)) (counted)
    where
      two : is_count (get items 0x8000) ≡ true
      two = elim (clean 0x8000) [
        | inl gone ↦ absurd (none_some bytes (sym gone ∙ is))
        | inr kept ↦ elim kept [
          | inl count ↦ count.counts
          | inr part ↦
              let f : 0x8001 ≤ part.candidate = part.at.inside.from in
              elim part.is [ inl e ↦ absurd (omega arith) | inr e ↦ absurd (omega arith) ]
        ]
      ]

      bytes-two : length bytes ≡ 2
      bytes-two = two_bytes (length bytes) (sym (ap is_count is) ∙ two)
        where
          two_bytes : (k : ℕ) → (k == 2) ≡ true → k ≡ 2
          two_bytes k e = grind (arith, nat_tests)

      counted : item_cost price (get items 0x8000) ≡ price 2
      counted = ap (item_cost price) is ∙ ap price bytes-two

  -- without a count there is no setting
  pub cost-uncounted : (price : ℕ → ℕ) (cap : ℕ) → get items 0x8000 ≡ None → price 2 ≡ (pair_room price cap (price 2) too_many).cost (settings_in (nvs_numbering limit) items)
  cost-uncounted price cap gone =
      let none : count_in n items ≡ 0 = ap count_of gone in
      let e : settings_cost price (settings_in n items) ≡ 0 =
      ap (λ (m : Map). sum_by (pair_cost price) (entries m)) (settings-on n items) ∙ map-sum (pair_cost price) (pair_at n items) 0x8001 (count_in n items) (clean-distinct n laws items clean)
      ∙ ap (λ (m : ℕ). sum_by (pair_cost price) (pairs_on (pair_at n items) 0x8001 m)) none in
      omega arith

  -- ---- the count is raised

  module _ (count : List ℕ) (two : length count ≡ 2) (more : count_of (Some count) ≡ count_in (nvs_numbering limit) items + 1) where
    abbrev raised : Items
    raised = insert items 0x8000 count

    beyond : (id : ℕ) → 0x8001 + count_in n items ≤ id → id < 0xC001 → get items id ≡ None
    beyond id from to = elim (clean id) [
      | inl gone ↦ gone
      | inr kept ↦ elim kept [
        | inl is ↦ let e : id ≡ 0x8000 = is.is in absurd (omega arith)
        | inr part ↦
            let f : 0x8001 ≤ part.candidate = part.at.inside.from in
            let t : part.candidate < 0x8001 + count_in n items = part.at.inside.to in
            elim part.is [ inl e ↦ absurd (omega arith) | inr e ↦ absurd (omega arith) ]
      ]
    ]

    above : (id : ℕ) → 0xC001 + count_in n items ≤ id → get items id ≡ None
    above id from = elim (clean id) [
      | inl gone ↦ gone
      | inr kept ↦ elim kept [
        | inl is ↦ let e : id ≡ 0x8000 = is.is in absurd (omega arith)
        | inr part ↦
            let f : 0x8001 ≤ part.candidate = part.at.inside.from in
            let t : part.candidate < 0x8001 + count_in n items = part.at.inside.to in
            elim part.is [ inl e ↦ absurd (omega arith) | inr e ↦ let v : id ≡ part.candidate + 0x4000 = e in absurd (omega arith) ]
      ]
    ]

    counted-more : count_in (nvs_numbering limit) (insert items 0x8000 count) ≡ count_in (nvs_numbering limit) items + 1
    counted-more = ap count_of (get-put items 0x8000 count) ∙ more

    pub raised-same : settings_in (nvs_numbering limit) (insert items 0x8000 count) ≡ settings_in (nvs_numbering limit) items
    raised-same =
        let all = most in
        count-raised n items raised 0x8000 (λ other apart. get-put_other items 0x8000 count other apart) laws refl counted-more
        (no-name n (0x8001 + count_in n items) (get items (0x8001 + count_in n items)) (get items (0x8001 + count_in n items + 0x4000)) (beyond (0x8001 + count_in n items) (omega arith) (omega arith)))

    pub raised-kept : HasNoOrphans (nvs_numbering limit) (insert items 0x8000 count)
    raised-kept =
        let e = counted-more in
        raised-clean n laws items raised (λ other apart. get-put_other items 0x8000 count other apart) (ap is_count (get-put items 0x8000 count) ∙ ap (λ (k : ℕ). k == 2) two) (omega arith) clean

    pub raised-inside : IsInside (nvs_numbering limit) (insert items 0x8000 count) (0x8001 + count_in (nvs_numbering limit) items)
    raised-inside = let e = counted-more in record { from = omega arith; to = omega arith }

    pub raised-free : IsFree (insert items 0x8000 count) (0x8001 + count_in (nvs_numbering limit) items) (0x8001 + count_in (nvs_numbering limit) items + 0x4000)
    raised-free =
        let all = most in (
          get-put_other items 0x8000 count (0x8001 + count_in n items) (λ (e : 0x8001 + count_in n items ≡ 0x8000). absurd (omega arith)) ∙ beyond (0x8001 + count_in n items) (omega arith) (omega arith),
          get-put_other items 0x8000 count (0x8001 + count_in n items + 0x4000) (λ (e : 0x8001 + count_in n items + 0x4000 ≡ 0x8000). absurd (omega arith)) ∙ above (0x8001 + count_in n items + 0x4000) (omega arith),
        )

-- ---- a new name

module _ (limit : ℕ) (items : Items) (clean : HasNoOrphans (nvs_numbering limit) items) (name value : List ℕ) (absent : IsIdOfName (nvs_numbering limit) items name None) where
  not-stored : ¬ IsStored (settings_in (nvs_numbering limit) items) name value
  not-stored is = none_some value (sym (get-nowhere (nvs_numbering limit) items name absent) ∙ is)

  -- the count's own write is refused
  pub count-refused : (price : ℕ → ℕ) (cap sectors : ℕ) (count : List ℕ) (after : Items) (need live : ℕ) → length count ≡ 2 → len (settings_in (nvs_numbering limit) items) < 511
      → stored.FindsNoSpace price cap sectors items after 0x8000 count need live → (given cost : ℕ) → given ≡ price (length value) + price (length name) → cost ≡ (pair_room price cap (price 2) too_many).cost (settings_in (nvs_numbering limit) items)
      → FindsNoSpace (pair_room price cap (price 2) too_many) sectors (settings_in (nvs_numbering limit) items) (settings_in (nvs_numbering limit) after) name value given cost
  count-refused price cap sectors count after need live two few finds given cost needs lives =
      let none : contains_key (settings_in (nvs_numbering limit) items) name ≡ false = ap is_some (get-nowhere (nvs_numbering limit) items name absent) in
      let small = count-small price cap (price 2) too_many (settings_in (nvs_numbering limit) items) name value none in
      let within = items-within price cap (price 2) too_many (nvs_numbering limit) (nvs-numbering limit) (nvs-counts limit price) items clean in
      let full : (sectors - 1) * (cap - price 2) < items_cost price items = subst (λ (k : ℕ). (sectors - 1) * (cap - price k) < items_cost price items) two finds.full in
      record {
        free = few-free (settings_in (nvs_numbering limit) items) name few;
        other = not-stored;
        full = refused-room price cap (price 2) too_many sectors (price 2) (items_cost price items) (settings_in (nvs_numbering limit) items) name value small (omega arith) full;
        needs = needs ∙ sym (new-need price cap (price 2) too_many (settings_in (nvs_numbering limit) items) name value none);
        lives = lives;
        settings = ap (settings_in (nvs_numbering limit)) finds.items;
      }
