use Rattle.std.proofs.Common.{◌≡◌, ℕ, ◌<◌, false}
use Rattle.item_store.specs.Free.{is_unmarked}
use Rattle.item_store.proofs.free.Taken.first_free.Given as goal

abbrev pub invariant-loop-n : goal.invariant-loop-n
invariant-loop-n l =
    (n : ℕ) → n < l.n → is_unmarked l.self n ≡ false
