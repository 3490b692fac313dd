use Rattle.std.proofs.Common.{◌≡◌, ℕ, ◌+◌, true, Some, sym, subst, ◌∙◌, inl, inr, arith}
use Rattle.std.proofs.lemmas.Bool.{cases_lt}
use Rattle.zms_cycle.specs.Sector.{slot_of, is_valid}
use Rattle.zms_cycle.proofs.SlotSearch.{used_passes, valid_before, valid_after}
use Rattle.zms_cycle.proofs.reading.valid_within.Goals as goal

pub loop-valid-init : goal.loop-valid-init
loop-valid-init c = record { passed = λ k from lt. used_passes (is_valid (Some c.args.cycle)) 2 16 c.args.sector.now k from (omega (arith, lt, c.requires.known)) }

pub returns-then-not-is_valid : goal.returns-then-not-is_valid
returns-then-not-is_valid c =
    let stop = valid_before c.args.cycle c.args.sector.now (2 + c.loop-valid.valid) (omega arith) (sym c.is_valid.ensures ∙ c.if-not-is_valid.true) in
    let passed = valid_after c.args.cycle c.args.sector.now c.loop-valid.valid (omega arith) c.loop-valid.invariant.passed in
    omega arith

pub loop-valid-preserved : goal.loop-valid-preserved
loop-valid-preserved c =
    let cycle : ℕ = c.args.cycle in
    record {
      passed = λ k from lt. elim (cases_lt k (c.loop-valid.valid + 2)) [
        | inl below ↦ c.loop-valid.invariant.passed k from below
        | inr ge ↦
            let at : 2 + c.loop-valid.valid ≡ k = omega arith in
            subst (λ (j : ℕ). is_valid (Some cycle) (slot_of c.args.sector.now j) ≡ true) at (sym c.is_valid.ensures ∙ c.if-not-is_valid.false)
      ];
    }

pub returns : goal.returns
returns c =
    let passed = valid_after c.args.cycle c.args.sector.now c.args.limit (omega arith) (λ k from lt. c.loop-valid.invariant.passed k from (omega arith)) in
    omega arith
