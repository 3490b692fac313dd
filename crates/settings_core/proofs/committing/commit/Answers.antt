use Rattle.std.proofs.Common.{◌<◌, ap, sym, subst, ◌∙◌, length}
use Rattle.settings_core.proofs.CommitLemmas.{then_committed, then_passed}
use Rattle.settings_core.proofs.committing.commit.Goals as goal
use Rattle.settings_core.proofs.committing.commit.Goals.{then-is_place_under, else-is_place_under}

pub loop-i-preserved : goal.loop-i-preserved
loop-i-preserved g c =
    let placed = g.H.PlacedHandlers.placed in
    let lt : c.loop-i.i < length (placed c.loop-i.registry) = subst (λ n. c.loop-i.i < n) c.len.ensures c.loop-i-test.true in
    elim c.if-is_place_under.branch [
      | then-is_place_under w ↦
          then_committed _ c.loop-i.i _ (placed c.loop-i.registry) _ lt (sym c.is_place_under.ensures ∙ w.if-is_place_under.true)
          (ap placed w.registry-is ∙ w.commit_at.ensures) c.loop-i.invariant
      | else-is_place_under w ↦
          then_passed _ c.loop-i.i _ (placed c.loop-i.registry) _ lt (sym c.is_place_under.ensures ∙ w.if-is_place_under.false)
          (ap placed w.registry-is) c.loop-i.invariant
    ]
