use Rattle.std.proofs.Common.{◌≡◌, ◌+◌, ◌*◌, ◌%◌, ◌<◌, ℕ, List, [], length, take, get_or, refl, sym, ap, ◌∙◌, arith}
use Rattle.std.specs.Prelude.{fold}
use Rattle.std.proofs.Math.Nat.{mod-lt}
use Rattle.std.proofs.lemmas.List.{take_more}
use Rattle.std.proofs.lemmas.List.Sums.{fold_push}
use Rattle.backend_fcb.specs.Compaction.{mark}
use Rattle.backend_fcb.proofs.compaction.mark_of.Goals as goal

mark-nil : 0 ≡ mark []
unfolding mark
mark-nil = refl

mark-more : (name : List ℕ) (k : ℕ) → k < length name → (mark (take k name) * 31 + get_or name k 0) % 65536 ≡ mark (take (k + 1) name)
unfolding mark
mark-more name k lt =
    sym (ap (λ (l : List ℕ). fold (λ (m byte : ℕ). (m * 31 + byte) % 65536) 0 l) (take_more name k 0 lt) ∙ fold_push (λ (m byte : ℕ). (m * 31 + byte) % 65536) 0 (take k name) (get_or name k 0))

pub loop-byte-init : goal.loop-byte-init
loop-byte-init c = record { small = omega arith; is = mark-nil }

pub loop-byte-preserved : goal.loop-byte-preserved
loop-byte-preserved c = record {
  small = mod-lt (c.loop-byte.mark * 31 + c.from.result) (omega arith);
  is =
      ap (λ (n : ℕ). (c.loop-byte.mark * 31 + n) % 65536) c.from.ensures
      ∙ ap (λ (n : ℕ). (n * 31 + get_or c.args.name.now c.loop-byte.byte-index 0) % 65536) c.loop-byte.invariant.is
      ∙ mark-more c.args.name.now c.loop-byte.byte-index c.loop-byte-test.true;
}
