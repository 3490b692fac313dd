-- What the entries of a sector cost is what its pairs cost.
use Rattle.std.proofs.Common.{◌≡◌, ℕ, zero, suc, ◌+◌, ◌≤◌, true, cond, eqb, List, ◌∷◌, length, map, refl, sym, ap, ◌∙◌, inl, inr, arith}
use Rattle.std.specs.Prelude.{sum_by}
use Rattle.std.proofs.lemmas.List.Sums.{sum_by-cons}
use Rattle.item_laws.proofs.SlotCosts.{some_or_none}
use Rattle.item_laws.specs.PairRounds.{stored_cost}
use Rattle.item_laws.specs.Entries.{Entries, AreEntries}
use Rattle.item_laws.specs.Walk.{entries_from}

module _ {Entry Placed : Type 0} (k : Entries Entry Placed) (are : AreEntries k) (b : List ℕ) (place : ℕ) (sound : k.is_sound b ≡ true) where
  -- what an entry with bytes takes up
  abbrev pub entry_cost : Entry → ℕ
  entry_cost e = cond (eqb (k.len (k.placed_at place e)) 0) 0 (k.cost (k.len (k.placed_at place e)))

  pair_in : Entry → ℕ × List ℕ
  pair_in e = (k.id (k.placed_at place e), k.bytes b (k.placed_at place e))

  one_more : (e : Entry) → length (k.bytes b (k.placed_at place e)) ≡ k.len (k.placed_at place e) → (es : List Entry) → stored_cost k.cost (map pair_in es) ≡ sum_by entry_cost es → stored_cost k.cost (map pair_in (e ∷ es)) ≡ sum_by entry_cost (e ∷ es)
  unfolding pair_in
  one_more e long es rest =
      sum_by-cons (λ (p : ℕ × List ℕ). cond (eqb (length p.1) 0) 0 (k.cost (length p.1))) (pair_in e) (map pair_in es)
      ∙ ap (λ (n : ℕ). cond (eqb n 0) 0 (k.cost n) + stored_cost k.cost (map pair_in es)) long
      ∙ ap (λ (n : ℕ). entry_cost e + n) rest
      ∙ sym (sum_by-cons entry_cost e es)

  costs_from : (a n : ℕ) → k.first ≤ a → a + n ≤ k.first + k.slots b → stored_cost k.cost (map pair_in (entries_from k b a n)) ≡ sum_by entry_cost (entries_from k b a n)
  costs_from a zero from within = refl
  costs_from a (suc n) from within =
      let rest = costs_from (a + 1) n (omega arith) (omega arith) in
      elim (some_or_none (k.in_slot b a)) [
        | inl none ↦ rw none rest
        | inr (e, some) ↦
            let long = are.long b place a e sound from (omega arith) some in
            rw some (one_more e long (entries_from k b (a + 1) n) rest)
      ]

  pub costs_are : stored_cost k.cost (k.reading.pairs b) ≡ sum_by entry_cost (k.entries b)
  unfolding pair_in
  costs_are =
      ap (stored_cost k.cost) (are.pairs b place ∙ ap (map pair_in) (are.listed b))
      ∙ costs_from k.first (k.slots b) (omega arith) (omega arith)
      ∙ sym (ap (sum_by entry_cost) (are.listed b))
