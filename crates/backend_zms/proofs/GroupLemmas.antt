-- The 16 ids of a group, and when all of them are taken.
use Rattle.std.proofs.Common.{◌≡◌, ◌⊎◌, ℕ, ◌+◌, ◌*◌, ◌/◌, ◌%◌, ◌<◌, ◌≤◌, Bool, true, false, not, ◌&&◌, List, length, Some, None, refl, sym, ap, subst, ◌∙◌, inl, inr, arith}
use Rattle.std.specs.Prelude.{◌==◌, nat_le, nat_lt, count_by, is_some}
use Rattle.std.specs.FinMap as maps
use Rattle.std.proofs.lemmas.Bool.{and_from}
use Rattle.std.proofs.lemmas.Bool.Decides.{nat_tests}
use Rattle.std.proofs.lemmas.Nat.Bits.{and_high}
use Rattle.item_laws.specs.Items.{Items}
use Rattle.named_items.specs.Candidates.{IsFreeCandidate, CandidatesAre}
use Rattle.named_items.specs.Pairs.{pair_at, settings_in, IsIdOfName, HasNoOrphans}
use Rattle.named_items.proofs.CandidateLemmas.{candidates-full, candidates-few, candidates-count}
use Rattle.named_items.proofs.NameLemmas.{get-nowhere}
use Rattle.named_items.proofs.RangePairs.{pairs_on}
use Rattle.backend_zms.specs.Hash.{fnv, group_of, first_of}
use Rattle.backend_zms.specs.IdLayout.{name_ids, is_candidate_of, zms_numbering, zms-numbering, too_many}

-- ---- groups

-- a group is a multiple of 16 below 65,536
group-is : (name : List ℕ) → group_of name ≡ fnv name / 16 % 4096 * 16
unfolding group_of
group-is name = and_high (fnv name) 12 4

pub group-low : (name : List ℕ) → group_of name + 16 ≤ 65536
group-low name =
    let is = group-is name in
    omega arith

pub all-ids : name_ids ≡ 65536
unfolding name_ids
all-ids = refl

between-true : (a b id : ℕ) → a ≤ id → id < b → nat_le a id && nat_lt id b ≡ true
between-true a b id low high = grind (arith, nat_tests)

between-low : (a b id : ℕ) → nat_le a id && nat_lt id b ≡ true → a ≤ id
between-low a b id is = grind (arith, nat_tests)

between-high : (a b id : ℕ) → nat_le a id && nat_lt id b ≡ true → id < b
between-high a b id is = grind (arith, nat_tests)

-- two groups that share an id are one
one-group : (name other : List ℕ) (id : ℕ) → first_of name ≤ id → id < first_of name + 16 → is_candidate_of id other ≡ true → group_of other ≡ group_of name
one-group name other id low high is =
    let a = group-is name in
    let b = group-is other in
    let from : first_of other ≤ id = between-low (first_of other) (first_of other + 16) id is in
    let to : id < first_of other + 16 = between-high (first_of other) (first_of other + 16) id is in
    multiples (fnv name / 16 % 4096) (fnv other / 16 % 4096) (group_of name) (group_of other) id a b low high from to
  where
    multiples : (x y g h id : ℕ) → g ≡ x * 16 → h ≡ y * 16 → 0x80000000 + g ≤ id → id < 0x80000000 + g + 16 → 0x80000000 + h ≤ id → id < 0x80000000 + h + 16 → h ≡ g
    multiples x y g h id a b p q r s = omega arith

same-group : (g h : ℕ) → g ≡ h → (g == h) ≡ true
same-group g h e = grind (arith, nat_tests)

other-group : (g h : ℕ) → ¬ (g ≡ h) → (g == h) ≡ false
other-group g h e = grind (arith, nat_tests)

-- ---- the candidate ids of a name

module _ (limit : ℕ) (items : Items) (name : List ℕ) where
  pub group-candidates : CandidatesAre (zms_numbering limit) items name (first_of name) 16
  group-candidates =
      let low = group-low name in
      let all = all-ids in
      record {
        low = omega arith;
        high = omega arith;
        candidate = λ id a b. between-true (first_of name) (first_of name + 16) id a b;
        only = λ id inside is. (between-low (first_of name) (first_of name + 16) id is, between-high (first_of name) (first_of name + 16) id is);
      }

  module _ (clean : HasNoOrphans (zms_numbering limit) items) where
    abbrev same : List ℕ → Bool
    same other = group_of other == group_of name

    abbrev names : ℕ
    names = count_by same (maps.keys (settings_in (zms_numbering limit) items))

    names-in-group : names ≡ length (pairs_on (pair_at (zms_numbering limit) items) (first_of name) 16)
    names-in-group = candidates-count (zms_numbering limit) items name (first_of name) 16 group-candidates (zms-numbering limit) clean same
        (λ other id a b candidate. same-group (group_of other) (group_of name) (one-group name other id a b candidate))
        (λ other id out candidate. other-group (group_of other) (group_of name) (λ e. apart other id out candidate e))
      where
        apart : (other : List ℕ) (id : ℕ) → (id < first_of name) ⊎ (first_of name + 16 ≤ id) → is_candidate_of id other ≡ true → group_of other ≡ group_of name → ⊥
        apart other id out candidate e =
            let from : first_of other ≤ id = between-low (first_of other) (first_of other + 16) id candidate in
            let to : id < first_of other + 16 = between-high (first_of other) (first_of other + 16) id candidate in
            elim out [ inl less ↦ omega arith | inr more ↦ omega arith ]

    -- a new name of a group without a free id is one too many
    pub group-full : IsIdOfName (zms_numbering limit) items name None → IsFreeCandidate (zms_numbering limit) items name None → too_many (settings_in (zms_numbering limit) items) name ≡ true
    group-full absent none =
        let many : names ≡ 16 = names-in-group ∙ candidates-full (zms_numbering limit) items name (first_of name) 16 group-candidates (zms-numbering limit) clean none in
        let new : maps.contains_key (settings_in (zms_numbering limit) items) name ≡ false = ap is_some (get-nowhere (zms_numbering limit) items name absent) in
        and_from (not (maps.contains_key (settings_in (zms_numbering limit) items) name)) (nat_le 16 names) (ap not new) (enough names many)
      where
        enough : (k : ℕ) → k ≡ 16 → nat_le 16 k ≡ true
        enough k is = grind (arith, nat_tests)

    -- and one of a group with a free id is not
    pub group-free : (free : ℕ) → IsFreeCandidate (zms_numbering limit) items name (Some free) → too_many (settings_in (zms_numbering limit) items) name ≡ false
    group-free free is =
        let few : names < 16 = subst (λ (k : ℕ). k < 16) (sym names-in-group) (candidates-few (zms_numbering limit) items name (first_of name) 16 group-candidates (zms-numbering limit) clean free is) in
        fails (not (maps.contains_key (settings_in (zms_numbering limit) items) name)) names few
      where
        fails : (b : Bool) (k : ℕ) → k < 16 → b && nat_le 16 k ≡ false
        fails true k few = grind (arith, nat_tests)
        fails false k few = refl
