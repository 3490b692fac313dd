-- What two items say of a name.
use Rattle.std.proofs.Common.{◌≡◌, ℕ, ◌+◌, ◌<◌, ◌≤◌, true, ◌&&◌, List, length, Option, Some, None, refl, sym, ap, subst, ◌∙◌, arith}
use Rattle.std.specs.Prelude.{nat_le}
use Rattle.std.proofs.lemmas.Bool.{and_parts, and_from, false≢true}
use Rattle.std.proofs.lemmas.Bool.Decides.{nat_tests}
use Rattle.setting_name.specs.Name.{IsName, is_name}
use Rattle.setting_name.proofs.NameTest.{is_name-complete, is_name-sound}
use Rattle.std.specs.FinMap.{get}
use Rattle.item_laws.specs.Items.{Items}
use Rattle.named_items.specs.Numbering.{Numbering}
use Rattle.named_items.specs.Pairs.{count_in, is_pair, pair_of, HasName, IsAt, IsInside}
use Rattle.named_items.proofs.PairLemmas.{Makes, pair-made, made-pair}
use Rattle.named_items.proofs.RangePairs.{Pair}
use Rattle.named_items.specs.Looking.{is_value, IsHere}

module _ (n : Numbering) where
  record Parts (id : ℕ) (name value : List ℕ) : Type 0 where
    pub lawful : is_name name ≡ true
    pub candidate : n.is_candidate id name ≡ true
    pub some : nat_le 1 (length value) ≡ true
    pub short : nat_le (length value) n.longest ≡ true

  parts : (id : ℕ) (name value : List ℕ) → is_pair n id name value ≡ true → Parts id name value
  parts id name value is =
      let last = and_parts (is_name name && n.is_candidate id name && nat_le 1 (length value)) (nat_le (length value) n.longest) is in
      let third = and_parts (is_name name && n.is_candidate id name) (nat_le 1 (length value)) last.0 in
      let second = and_parts (is_name name) (n.is_candidate id name) third.0 in
      record { lawful = second.0; candidate = second.1; some = third.1; short = last.1 }

  whole : (id : ℕ) (name value : List ℕ) → Parts id name value → is_pair n id name value ≡ true
  whole id name value p =
      and_from (is_name name && n.is_candidate id name && nat_le 1 (length value)) (nat_le (length value) n.longest)
      (and_from (is_name name && n.is_candidate id name) (nat_le 1 (length value)) (and_from (is_name name) (n.is_candidate id name) p.lawful p.candidate) p.some) p.short

  -- a lawful name at a candidate id of its own and a value of 1 to the most bytes are a pair
  pub all-pass : (id : ℕ) (name value : List ℕ) → IsName name → n.is_candidate id name ≡ true → 0 < length value → length value ≤ n.longest → is_pair n id name value ≡ true
  all-pass id name value named candidate some short =
      whole id name value (record { lawful = is_name-complete name named; candidate = candidate; some = at_least (length value) some; short = at_most (length value) short })
    where
      at_least : (k : ℕ) → 0 < k → nat_le 1 k ≡ true
      at_least k lt = grind (arith, nat_tests)

      at_most : (k : ℕ) → k ≤ n.longest → nat_le k n.longest ≡ true
      at_most k le = grind (arith, nat_tests)

  -- the name may stand there
  pub pair-candidate : (id : ℕ) (name value : List ℕ) → is_pair n id name value ≡ true → n.is_candidate id name ≡ true
  pair-candidate id name value passes = (parts id name value passes).candidate

  -- both are there
  pub here-has : (id : ℕ) (name : List ℕ) (first second : Option (List ℕ)) → IsHere n.longest first second name → IsName name → n.is_candidate id name ≡ true → HasName (pair_of n id first second) name
  here-has id name first None is named candidate = absurd (false≢true is.valued)
  here-has id name first (Some value) is named candidate =
      let sizes = and_parts (nat_le 1 (length value)) (nat_le (length value) n.longest) is.valued in
      subst (λ (o : Option Pair). HasName o name)
      (sym (made-pair n id name value first (Some value) is.named refl (whole id name value (record { lawful = is_name-complete name named; candidate = candidate; some = sizes.0; short = sizes.1 })))) refl

  pub has-here : (id : ℕ) (name : List ℕ) (first second : Option (List ℕ)) → HasName (pair_of n id first second) name → IsHere n.longest first second name
  has-here id name first second has =
      let made = pair-made n id name first second has in
      let p = parts id name made.value made.passes in
      record { named = made.is_name; valued = ap (is_value n.longest) made.is_value ∙ and_from (nat_le 1 (length made.value)) (nat_le (length made.value) n.longest) p.some p.short }

  -- the name of a setting is lawful
  pub has-lawful : (id : ℕ) (name : List ℕ) (first second : Option (List ℕ)) → HasName (pair_of n id first second) name → IsName name
  has-lawful id name first second has =
      let made = pair-made n id name first second has in
      is_name-sound name (parts id name made.value made.passes).lawful

  -- both ids of a name up to the count are the store's
  pub inside-known : (items : Items) (id : ℕ) → IsInside n items id → (top : ℕ) → ((count : Option (List ℕ)) → n.first + n.count_of count + n.step ≤ top) → id + n.step < top
  inside-known items id inside top within =
      let room : n.first + count_in n items + n.step ≤ top = within (get items n.count_id) in
      let to : id < n.first + count_in n items = inside.to in
      omega arith

  module _ (items : Items) (name : List ℕ) (id : ℕ) (at : IsAt n items name id) where
    made : Makes n id name (get items id) (get items (id + n.step))
    made = pair-made n id name (get items id) (get items (id + n.step)) at.here

    pub at-lawful : IsName name
    at-lawful = has-lawful id name (get items id) (get items (id + n.step)) at.here

    -- another value of it would be one, too
    pub at-passes : (value : List ℕ) → 0 < length value → length value ≤ n.longest → is_pair n id name value ≡ true
    at-passes value some short = all-pass id name value at-lawful (parts id name made.value made.passes).candidate some short

    -- both ids are the store's
    pub at-known : (top : ℕ) → ((count : Option (List ℕ)) → n.first + n.count_of count + n.step ≤ top) → id + n.step < top
    at-known top within = inside-known items id at.inside top within

pub named-as : (x y : List ℕ) (o : Option (List ℕ)) → o ≡ Some x → o ≡ Some y → x ≡ y
named-as x y o a b = cc
