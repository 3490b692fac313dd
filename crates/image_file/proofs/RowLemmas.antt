-- Fields one after another.
use Rattle.std.proofs.Common.{◌≡◌, ◌⊎◌, inl, inr, ℕ, zero, suc, ◌+◌, ◌<◌, ◌≤◌, List, [], ◌∷◌, ◌++◌, map, sym, subst, ◌∙◌, arith}
use Rattle.std.specs.List.{range_with_len}
use Rattle.std.proofs.lemmas.Bool.{cases_lt}
use Rattle.image_file.specs.declared.image.ImageWhy.{ImageWhy}
use Rattle.image_file.specs.Table.{Row, Holds, Departs, AllHold, FirstFault, rows_of}

at_first : (a i : ℕ) → a ≤ i → (a ≡ i) ⊎ (a + 1 ≤ i)
at_first a i least = elim (cases_lt a i) [ inl lt ↦ inr (omega arith) | inr le ↦ inl (omega arith) ]

module _ (bytes : List ℕ) where
  -- a fault of the front is one of the whole
  pub prefix_fault : (prefix more : List Row) (at : ℕ) (why : ImageWhy) → FirstFault bytes prefix at why → FirstFault bytes (prefix ++ more) at why
  prefix_fault [] more at why fault = absurd fault
  prefix_fault (row ∷ prefix) more at why (inl departs) = inl departs
  prefix_fault (row ∷ prefix) more at why (inr later) = inr (later.0, prefix_fault prefix more at why later.1)

  -- and so is one behind a front that holds
  pub later_fault : (prefix more : List Row) (at : ℕ) (why : ImageWhy) → AllHold bytes prefix → FirstFault bytes more at why → FirstFault bytes (prefix ++ more) at why
  later_fault [] more at why hold fault = fault
  later_fault (row ∷ prefix) more at why hold fault = inr (hold.0, later_fault prefix more at why hold.1 fault)

  pub AllHold-append : (prefix more : List Row) → AllHold bytes prefix → AllHold bytes more → AllHold bytes (prefix ++ more)
  AllHold-append [] more hold rest = rest
  AllHold-append (row ∷ prefix) more hold rest = (hold.0, AllHold-append prefix more hold.1 rest)

  pub AllHold-prefix : (prefix more : List Row) → AllHold bytes (prefix ++ more) → AllHold bytes prefix × AllHold bytes more
  AllHold-prefix [] more hold = (tt, hold)
  AllHold-prefix (row ∷ prefix) more hold = let rest = AllHold-prefix prefix more hold.1 in ((hold.0, rest.0), rest.1)

  module _ (row : ℕ → Row) where
    from_each : (a n : ℕ) → ((k : ℕ) → a ≤ k → k < a + n → Holds bytes (row k)) → AllHold bytes (map row (range_with_len a n))
    from_each a zero each = tt
    from_each a (suc n) each = (each a (omega arith) (omega arith), from_each (a + 1) n (λ k least below. each k (omega arith) (omega arith)))

    -- rows of one kind
    pub all_rows : (n : ℕ) → ((k : ℕ) → k < n → Holds bytes (row k)) → AllHold bytes (rows_of row n)
    all_rows n each = from_each 0 n (λ k least below. each k (omega arith))

    to_each : (a n k : ℕ) → a ≤ k → k < a + n → AllHold bytes (map row (range_with_len a n)) → Holds bytes (row k)
    to_each a zero k least below hold = absurd (omega arith)
    to_each a (suc n) k least below hold = elim (at_first a k least) [
      | inl same ↦ subst (λ (k : ℕ). Holds bytes (row k)) same hold.0
      | inr later ↦ to_each (a + 1) n k later (omega arith) hold.1
    ]

    pub each_row : (n k : ℕ) → k < n → AllHold bytes (rows_of row n) → Holds bytes (row k)
    each_row n k below hold = to_each 0 n k (omega arith) (omega arith) hold

    from_first : (a n i at : ℕ) (why : ImageWhy) → a ≤ i → i < a + n → ((k : ℕ) → a ≤ k → k < i → Holds bytes (row k)) → Departs bytes (row i) at why → FirstFault bytes (map row (range_with_len a n)) at why
    from_first a zero i at why least below before departs = absurd (omega arith)
    from_first a (suc n) i at why least below before departs = elim (at_first a i least) [
      | inl same ↦ inl (subst (λ (k : ℕ). Departs bytes (row k) at why) (sym same) departs)
      | inr later ↦ inr (before a (omega arith) (omega arith), from_first (a + 1) n i at why later (omega arith) (λ k least below. before k (omega arith) below) departs)
    ]

    -- the first of the rows that departs
    pub first_row : (n i at : ℕ) (why : ImageWhy) → i < n → ((k : ℕ) → k < i → Holds bytes (row k)) → Departs bytes (row i) at why → FirstFault bytes (rows_of row n) at why
    first_row n i at why below before departs = from_first 0 n i at why (omega arith) (omega arith) (λ k least below. before k below) departs

  -- a field that holds does not depart
  pub no_departure : (row : Row) (at : ℕ) (why : ImageWhy) → Holds bytes row → Departs bytes row at why → ⊥
  no_departure row at why holds (inl ends) = omega (arith, holds.whole, ends.short)
  no_departure row at why holds (inr breaks) = breaks.broken holds.rule

  pub no_fault : (all : List Row) (at : ℕ) (why : ImageWhy) → AllHold bytes all → FirstFault bytes all at why → ⊥
  no_fault [] at why hold fault = fault
  no_fault (row ∷ all) at why hold (inl departs) = no_departure row at why hold.0 departs
  no_fault (row ∷ all) at why hold (inr later) = no_fault all at why hold.1 later.1

  -- a field departs in one way
  one_departure : (row : Row) (at other : ℕ) (why because : ImageWhy) → Departs bytes row at why → Departs bytes row other because → (at ≡ other) × (why ≡ because)
  one_departure row at other why because (inl a) (inl b) = (a.at_end ∙ sym b.at_end, a.why_short ∙ sym b.why_short)
  one_departure row at other why because (inl a) (inr b) = absurd (omega (arith, a.short, b.whole))
  one_departure row at other why because (inr a) (inl b) = absurd (omega (arith, b.short, a.whole))
  one_departure row at other why because (inr a) (inr b) = (a.place ∙ sym b.place, a.cause ∙ sym b.cause)

  pub one_fault : (all : List Row) (at other : ℕ) (why because : ImageWhy) → FirstFault bytes all at why → FirstFault bytes all other because → (at ≡ other) × (why ≡ because)
  one_fault [] at other why because a b = absurd a
  one_fault (row ∷ all) at other why because (inl a) (inl b) = one_departure row at other why because a b
  one_fault (row ∷ all) at other why because (inl a) (inr b) = absurd (no_departure row at why b.0 a)
  one_fault (row ∷ all) at other why because (inr a) (inl b) = absurd (no_departure row other because a.0 b)
  one_fault (row ∷ all) at other why because (inr a) (inr b) = one_fault all at other why because a.1 b.1
