use Rattle.std.proofs.Common.{◌≡◌, ◌-◌, ◌≤◌, ℕ, length, get_or, inl, inr, sym, subst, arith}
use Rattle.std.proofs.lemmas.Bool.{cases_lt}
use Rattle.fcb_ring.proofs.PrefixBytes.{begins, differs, shorter}
use Rattle.fcb_ring.proofs.record.begins_with.Goals as goal

pub returns-then-body-count : goal.returns-then-body-count
returns-then-body-count c = sym (shorter c.args.body.now c.args.prefix.now c.if-body-count.true)

pub returns-then-body-count-2 : goal.returns-then-body-count-2
returns-then-body-count-2 c = sym (differs c.args.body.now c.args.prefix.now (length c.args.prefix.now - 2) (omega arith) c.if-body-count-2.true)

pub loop-left-init : goal.loop-left-init
loop-left-init c = record { at_most = omega arith; same = λ k from lt. absurd (omega (arith, from, lt)) }

pub bounds-body-left : goal.bounds-body-left
bounds-body-left c = let at_most = c.loop-left.invariant.at_most in let long = c.if-body-count.false in omega arith

pub bounds-prefix-left : goal.bounds-prefix-left
bounds-prefix-left c = let at_most = c.loop-left.invariant.at_most in omega arith

pub returns-then-body-left : goal.returns-then-body-left
returns-then-body-left c =
    let at_most = c.loop-left.invariant.at_most in
    sym (differs c.args.body.now c.args.prefix.now (c.loop-left.left - 1) (omega arith) c.if-body-left.true)

pub loop-left-preserved : goal.loop-left-preserved
loop-left-preserved c =
    let at_most = c.loop-left.invariant.at_most in
    record {
      at_most = omega arith;
      same = λ k from lt. elim (cases_lt k c.loop-left.left) [
        | inl under ↦
            let e : c.loop-left.left - 1 ≡ k = omega (arith, from, under) in
            subst (λ (n : ℕ). get_or c.args.body.now n 0 ≡ get_or c.args.prefix.now n 0) e c.if-body-left.false
        | inr above ↦ c.loop-left.invariant.same k above lt
      ];
    }

pub returns : goal.returns
returns c =
    let same = c.loop-left.invariant.same in
    let zero-left : c.loop-left.left ≤ 0 = c.loop-left-test.false in
    sym (begins c.args.body.now c.args.prefix.now c.if-body-count.false (λ k lt. same k (omega (arith, zero-left)) lt))
