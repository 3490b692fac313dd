-- From an entry of the list to the one before it, for any store: what a walk looks at is what stands before the entry.
use Rattle.std.proofs.Common.{◌≡◌, ◌⊎◌, ℕ, zero, suc, ◌+◌, ◌-◌, ◌<◌, ◌≤◌, min, Bool, cond, List, [], ◌∷◌, ◌++◌, length, map, refl, sym, ap, subst, ◌∙◌, inl, inr, append_assoc, append-nil, arith}
use Rattle.std.specs.List.{filter_map, flat_map, range_with_len, All}
use Rattle.std.proofs.lemmas.Bool.{cases_Bool}
use Rattle.std.proofs.lemmas.List.{map-append}
use Rattle.std.proofs.lemmas.List.Concat.{flat_map-append, flat_map-cons}
use Rattle.std.proofs.lemmas.List.Elements.{All-nil, All-cons, All-head, All-tail, All-append, All-map, All-weaker, filter_map-append}
use Rattle.flash_map.specs.Area.{sector_at}
use Rattle.item_laws.proofs.SlotCosts.{some_or_none}
use Rattle.item_laws.specs.Area.{round, counts_at, open_sector}
use Rattle.item_laws.specs.RoundParts.{places_before, places_after}
use Rattle.item_laws.proofs.Places.{range-append}
use Rattle.item_laws.proofs.RoundAt.{round-at, none_behind}
use Rattle.item_laws.specs.Entries.{Entries, AreEntries}
use Rattle.item_laws.specs.Live.{counted_in, all_placed}
use Rattle.item_laws.specs.Walk.{entries_from, entries_within, counted_within, placed_up_to}

-- ---- the part of a list before one of its elements

-- at most the first one passes not
abbrev Leads : {X : Type 0} → (X → Type 0) → List X → Type 0
Leads {X} P ys = All P ys ⊎ ((y : X) × (rest : List X) × (ys ≡ y ∷ rest) × All P rest)

cons_tail : {X : Type 0} (x y : X) (xs ys : List X) → x ∷ xs ≡ y ∷ ys → xs ≡ ys
cons_tail x y xs ys e = cc

cons_head : {X : Type 0} (x y : X) (xs ys : List X) → x ∷ xs ≡ y ∷ ys → x ≡ y
cons_head x y xs ys e = cc

in_middle : {X : Type 0} (P : X → Type 0) (xs ys : List X) (f : X) → All P (xs ++ f ∷ ys) → P f
in_middle P [] ys f all = All-head P f ys all
in_middle P (x ∷ xs) ys f all = in_middle P xs ys f (All-tail P x (xs ++ f ∷ ys) all)

prefix_all : {X : Type 0} (P : X → Type 0) (xs ys : List X) → All P (xs ++ ys) → All P xs
prefix_all P [] ys all = All-nil P
prefix_all P (x ∷ xs) ys all = All-cons P x xs (All-head P x (xs ++ ys) all) (prefix_all P xs ys (All-tail P x (xs ++ ys) all))

prefix-is : {X : Type 0} (P : X → Type 0) (xs ys older newer : List X) (f : X) → All P xs → Leads P ys → (P f → ⊥) → xs ++ ys ≡ older ++ f ∷ newer → older ≡ xs
prefix-is P [] ys [] newer f all leads here e = refl
prefix-is P [] ys (o ∷ older) newer f all leads here e =
    elim leads [
      | inl none ↦ absurd (here (in_middle P (o ∷ older) newer f (subst (All P) e none)))
      | inr (y, rest, is, none) ↦ absurd (here (in_middle P older newer f (subst (All P) (cons_tail y o rest (older ++ f ∷ newer) (sym is ∙ e)) none)))
    ]
prefix-is P (x ∷ xs) ys [] newer f all leads here e = absurd (here (subst P (cons_head x f (xs ++ ys) newer e) (All-head P x xs all)))
prefix-is P (x ∷ xs) ys (o ∷ older) newer f all leads here e =
    ap (λ y. y ∷ older) (sym (cons_head x o (xs ++ ys) (older ++ f ∷ newer) e))
    ∙ ap (λ zs. x ∷ zs) (prefix-is P xs ys older newer f (All-tail P x xs all) leads here (cons_tail x o (xs ++ ys) (older ++ f ∷ newer) e))

module _ {Entry Placed : Type 0} (k : Entries Entry Placed) (are : AreEntries k) where
  -- ---- entries that stand elsewhere

  abbrev IsElsewhere : ℕ → ℕ → Placed → Type 0
  IsElsewhere sector slot p = k.sector p ≡ sector → k.slot p ≡ slot → ⊥

  other-sector : (sectors : List (List ℕ)) (current sector slot place : ℕ) → (place ≡ sector → ⊥) → All (IsElsewhere sector slot) (counted_in k sectors current place)
  other-sector sectors current sector slot place apart =
      elim (cases_Bool (counts_at k.reading sectors current place)) [
        | inr passed ↦ subst (λ (t : Bool). All (IsElsewhere sector slot) (cond t (map (k.placed_at place) (k.entries (sector_at sectors place))) [])) (sym passed) (All-nil (IsElsewhere sector slot))
        | inl counted ↦
            subst (λ (t : Bool). All (IsElsewhere sector slot) (cond t (map (k.placed_at place) (k.entries (sector_at sectors place))) [])) (sym counted)
            (All-map (IsElsewhere sector slot) (k.placed_at place) (k.entries (sector_at sectors place)) (λ i d lt. λ e at. apart (sym (are.sector place _) ∙ e)))
      ]

  other-sectors : (sectors : List (List ℕ)) (current sector slot : ℕ) (places : List ℕ) → All (λ j. j ≡ sector → ⊥) places → All (IsElsewhere sector slot) (flat_map (counted_in k sectors current) places)
  other-sectors sectors current sector slot [] apart = All-nil (IsElsewhere sector slot)
  other-sectors sectors current sector slot (place ∷ rest) apart =
      subst (All (IsElsewhere sector slot)) (sym (flat_map-cons (counted_in k sectors current) place rest))
      (All-append (IsElsewhere sector slot) (counted_in k sectors current place) (flat_map (counted_in k sectors current) rest)
      (other-sector sectors current sector slot place (All-head (λ j. j ≡ sector → ⊥) place rest apart)) (other-sectors sectors current sector slot rest (All-tail (λ j. j ≡ sector → ⊥) place rest apart)))

  -- the slots of entries
  record IsAmong (place first end : ℕ) (e : Entry) : Type 0 where
    low : first ≤ k.slot (k.placed_at place e)
    high : k.slot (k.placed_at place e) < end

  slots_from : (b : List ℕ) (place a n : ℕ) → All (IsAmong place a (a + n)) (entries_from k b a n)
  slots_from b place a zero = All-nil (IsAmong place a (a + 0))
  slots_from b place a (suc n) =
      let end : a + 1 + n ≡ a + suc n = omega arith in
      let rest : All (IsAmong place a (a + suc n)) (entries_from k b (a + 1) n) =
      All-weaker (IsAmong place (a + 1) (a + 1 + n)) (IsAmong place a (a + suc n)) (λ e is. let low = is.low in let high = is.high in record { low = omega arith; high = omega arith }) (entries_from k b (a + 1) n) (slots_from b place (a + 1) n) in
      elim (some_or_none (k.in_slot b a)) [
        | inl none ↦ rw none rest
        | inr (e, some) ↦
            let at = are.slot b place a e some in
            rw some (All-cons (IsAmong place a (a + suc n)) e (entries_from k b (a + 1) n) (record { low = omega arith; high = omega arith }) rest)
      ]

  -- The entries of a sector are those of its first so many slots, and those under them.
  entries-split : (b : List ℕ) (n i : ℕ) → i ≡ min (k.slots b) n → k.entries b ≡ entries_within k b n ++ entries_from k b (k.first + i) (k.slots b - i)
  entries-split b n i is =
      let width : k.slots b ≡ i + (k.slots b - i) = omega arith in
      are.listed b
      ∙ ap (λ (m : ℕ). entries_from k b k.first m) width
      ∙ ap (filter_map (k.in_slot b)) (range-append k.first i (k.slots b - i))
      ∙ filter_map-append (k.in_slot b) (range_with_len k.first i) (range_with_len (k.first + i) (k.slots b - i))
      ∙ ap (λ (m : ℕ). entries_from k b k.first m ++ entries_from k b (k.first + i) (k.slots b - i)) is

  -- entries of a sector from a slot on: at most the first one stands in it
  from-leads : (b : List ℕ) (place slot a m : ℕ) (more : List Placed) → All (IsElsewhere place slot) more → (0 < m → slot ≤ a) → Leads (IsElsewhere place slot) (map (k.placed_at place) (entries_from k b a m) ++ more)
  from-leads b place slot a zero more none under = inl none
  from-leads b place slot a (suc m) more none under =
      let le : slot ≤ a = under (omega arith) in
      let rest : All (IsElsewhere place slot) (map (k.placed_at place) (entries_from k b (a + 1) m) ++ more) =
      All-append (IsElsewhere place slot) (map (k.placed_at place) (entries_from k b (a + 1) m)) more
      (All-map (IsElsewhere place slot) (k.placed_at place) (entries_from k b (a + 1) m)
      (All-weaker (IsAmong place (a + 1) (a + 1 + m)) (λ e. IsElsewhere place slot (k.placed_at place e)) (λ e among in_sector at. let low = among.low in omega arith) (entries_from k b (a + 1) m) (slots_from b place (a + 1) m))) none in
      elim (some_or_none (k.in_slot b a)) [
        | inl passed ↦ rw passed (inl rest)
        | inr (e, some) ↦ rw some (inr (k.placed_at place e, map (k.placed_at place) (entries_from k b (a + 1) m) ++ more, refl, rest))
      ]

  -- all slots
  pub within-whole : (b : List ℕ) (n : ℕ) → k.slots b ≤ n → entries_within k b n ≡ k.entries b
  within-whole b n enough = let all : min (k.slots b) n ≡ k.slots b = omega arith in ap (λ (m : ℕ). entries_from k b k.first m) all ∙ sym (are.listed b)

  pub counted-whole : (sectors : List (List ℕ)) (current place n : ℕ) → k.slots (sector_at sectors place) ≤ n → counted_within k sectors current place n ≡ counted_in k sectors current place
  counted-whole sectors current place n enough = ap (λ (es : List Entry). cond (counts_at k.reading sectors current place) (map (k.placed_at place) es) []) (within-whole (sector_at sectors place) n enough)

  -- ---- the walk

  module _ (sectors : List (List ℕ)) (current place n : ℕ) (is : open_sector k.reading sectors ≡ current) (low : current < length sectors) (high : place < length sectors) where
    -- what is behind the first so many slots of the sector, in the sector and in those after it
    abbrev under : List Entry
    under = entries_from k (sector_at sectors place) (k.first + min (k.slots (sector_at sectors place)) n) (k.slots (sector_at sectors place) - min (k.slots (sector_at sectors place)) n)

    abbrev behind : List Placed
    behind = cond (counts_at k.reading sectors current place) (map (k.placed_at place) under) [] ++ flat_map (counted_in k sectors current) (places_after (length sectors) current place)

    here-split : counted_in k sectors current place ≡ counted_within k sectors current place n ++ cond (counts_at k.reading sectors current place) (map (k.placed_at place) under) []
    here-split =
        elim (cases_Bool (counts_at k.reading sectors current place)) [
          | inl counted ↦
              ap (λ (t : Bool). cond t (map (k.placed_at place) (k.entries (sector_at sectors place))) []) counted
              ∙ ap (map (k.placed_at place)) (entries-split (sector_at sectors place) n (min (k.slots (sector_at sectors place)) n) refl)
              ∙ map-append (k.placed_at place) (entries_within k (sector_at sectors place) n) under
              ∙ sym (ap (λ (t : Bool). cond t (map (k.placed_at place) (entries_within k (sector_at sectors place) n)) [] ++ cond t (map (k.placed_at place) under) []) counted)
          | inr passed ↦
              ap (λ (t : Bool). cond t (map (k.placed_at place) (k.entries (sector_at sectors place))) []) passed
              ∙ sym (ap (λ (t : Bool). cond t (map (k.placed_at place) (entries_within k (sector_at sectors place) n)) [] ++ cond t (map (k.placed_at place) under) []) passed)
        ]

    pub list-split : all_placed k sectors ≡ placed_up_to k sectors current place n ++ behind
    list-split =
        let ring = round-at (length sectors) current place low high in
        let prefix : List Placed = flat_map (counted_in k sectors current) (places_before (length sectors) current place) in
        let within : List Placed = counted_within k sectors current place n in
        let rest : List Placed = cond (counts_at k.reading sectors current place) (map (k.placed_at place) under) [] in
        let after : List Placed = flat_map (counted_in k sectors current) (places_after (length sectors) current place) in
        ap (λ (c : ℕ). flat_map (counted_in k sectors c) (round (length sectors) c)) is
        ∙ ap (flat_map (counted_in k sectors current)) ring.split
        ∙ flat_map-append (counted_in k sectors current) (places_before (length sectors) current place) (place ∷ places_after (length sectors) current place)
        ∙ ap (λ (ps : List Placed). prefix ++ ps) (flat_map-cons (counted_in k sectors current) place (places_after (length sectors) current place) ∙ ap (λ (ps : List Placed). ps ++ after) here-split ∙ append_assoc within rest after)
        ∙ sym (append_assoc prefix within (rest ++ after))

    -- a part of the list has what the list has
    pub part_all : (P : Placed → Type 0) → All P (all_placed k sectors) → All P (placed_up_to k sectors current place n)
    part_all P all = prefix_all P (placed_up_to k sectors current place n) behind (subst (All P) list-split all)

    module _ (slot : ℕ) (slots : n ≡ slot - k.first) where
      within-elsewhere : All (IsElsewhere place slot) (counted_within k sectors current place n)
      within-elsewhere =
          let i = min (k.slots (sector_at sectors place)) n in
          let placed : All (λ e. IsElsewhere place slot (k.placed_at place e)) (entries_within k (sector_at sectors place) n) =
          All-weaker (IsAmong place k.first (k.first + min (k.slots (sector_at sectors place)) n)) (λ e. IsElsewhere place slot (k.placed_at place e)) (λ e among in_sector at. let low = among.low in let high = among.high in omega arith)
          (entries_within k (sector_at sectors place) n) (slots_from (sector_at sectors place) place k.first (min (k.slots (sector_at sectors place)) n)) in
          elim (cases_Bool (counts_at k.reading sectors current place)) [
            | inr passed ↦ subst (λ (t : Bool). All (IsElsewhere place slot) (cond t (map (k.placed_at place) (entries_within k (sector_at sectors place) n)) [])) (sym passed) (All-nil (IsElsewhere place slot))
            | inl counted ↦
                subst (λ (t : Bool). All (IsElsewhere place slot) (cond t (map (k.placed_at place) (entries_within k (sector_at sectors place) n)) [])) (sym counted)
                (All-map (IsElsewhere place slot) (k.placed_at place) (entries_within k (sector_at sectors place) n) placed)
          ]

      after-elsewhere : All (IsElsewhere place slot) (flat_map (counted_in k sectors current) (places_after (length sectors) current place))
      after-elsewhere = let ring = round-at (length sectors) current place low high in other-sectors sectors current place slot (places_after (length sectors) current place) ring.behind

      behind-leads : Leads (IsElsewhere place slot) behind
      behind-leads =
          let after : List Placed = flat_map (counted_in k sectors current) (places_after (length sectors) current place) in
          elim (cases_Bool (counts_at k.reading sectors current place)) [
            | inr passed ↦ subst (λ (t : Bool). Leads (IsElsewhere place slot) (cond t (map (k.placed_at place) under) [] ++ after)) (sym passed) (inl after-elsewhere)
            | inl counted ↦
                subst (λ (t : Bool). Leads (IsElsewhere place slot) (cond t (map (k.placed_at place) under) [] ++ after)) (sym counted)
                (from-leads (sector_at sectors place) place slot (k.first + min (k.slots (sector_at sectors place)) n) (k.slots (sector_at sectors place) - min (k.slots (sector_at sectors place)) n) after after-elsewhere (λ some. omega arith))
          ]

      -- what is before the entry there is what the walk looks at
      pub before-is : (older newer : List Placed) (p : Placed) → all_placed k sectors ≡ older ++ p ∷ newer → k.sector p ≡ place → k.slot p ≡ slot → older ≡ placed_up_to k sectors current place n
      before-is older newer p split in_sector in_slot =
          let ring = round-at (length sectors) current place low high in
          let prefix : List Placed = flat_map (counted_in k sectors current) (places_before (length sectors) current place) in
          prefix-is (IsElsewhere place slot) (placed_up_to k sectors current place n) behind older newer p
          (All-append (IsElsewhere place slot) prefix (counted_within k sectors current place n) (other-sectors sectors current place slot (places_before (length sectors) current place) ring.before) within-elsewhere)
          behind-leads (λ apart. apart in_sector in_slot) (sym list-split ∙ split)

  -- a walk from the end looks at the whole list
  pub whole-list : (sectors : List (List ℕ)) (current n : ℕ) → open_sector k.reading sectors ≡ current → current < length sectors → k.slots (sector_at sectors current) ≤ n → placed_up_to k sectors current current n ≡ all_placed k sectors
  whole-list sectors current n is low enough =
      let ring = round-at (length sectors) current current low low in
      let prefix : List Placed = flat_map (counted_in k sectors current) (places_before (length sectors) current current) in
      ap (λ (ps : List Placed). prefix ++ ps) (counted-whole sectors current current n enough ∙ sym (append-nil (counted_in k sectors current current)))
      ∙ ap (λ (ps : List Placed). prefix ++ ps) (sym (flat_map-cons (counted_in k sectors current) current []))
      ∙ sym (flat_map-append (counted_in k sectors current) (places_before (length sectors) current current) (current ∷ []))
      ∙ ap (λ (js : List ℕ). flat_map (counted_in k sectors current) (places_before (length sectors) current current ++ current ∷ js)) (sym (none_behind (length sectors) current))
      ∙ ap (flat_map (counted_in k sectors current)) (sym ring.split)
      ∙ ap (λ (c : ℕ). flat_map (counted_in k sectors c) (round (length sectors) c)) (sym is)
