use Rattle.std.proofs.Common.{◌≡◌, ℕ, ◌+◌, ◌-◌, ◌*◌, ap, subst, ◌∙◌, arith}
use Rattle.std.proofs.Math.Nat.{add-mul}
use Rattle.nvs_store.specs.Geometry.{slot_size}
use Rattle.nvs_format.specs.Formats.{format_in}
use Rattle.nvs_format.proofs.FindLemmas.{named_from, other_named, out_of_range, others_more}
use Rattle.item_store.specs.Lasts.{AreOthers}
use Rattle.nvs_gc.proofs.entries.reach_in.Goals as goal

pub loop-left-init : goal.loop-left-init
loop-left-init c =
    let times : (c.args.slots + 1) * c.slot_size-size.result ≡ (c.args.slots + 1) * slot_size c.args.unit = ap (λ (n : ℕ). (c.args.slots + 1) * n) c.slot_size-size.ensures.size in
    record {
      inside = omega arith;
      size = c.slot_size-size.ensures.size;
      at = omega (arith, times, c.requires.inside);
      others = λ slot low high. absurd (omega (arith, low, high));
    }

pub loop-left-preserved : goal.loop-left-preserved
loop-left-preserved c =
    let invariant = c.loop-left.invariant in
    let one : c.loop-left.left - 1 + 1 ≡ c.loop-left.left = omega (arith, c.loop-left-test.true) in
    let above : (c.loop-left.left - 1 + 1) * slot_size c.args.unit ≡ c.loop-left.left * slot_size c.args.unit = ap (λ (n : ℕ). n * slot_size c.args.unit) one in
    let split : (c.loop-left.left + 1) * slot_size c.args.unit ≡ c.loop-left.left * slot_size c.args.unit + 1 * slot_size c.args.unit = add-mul c.loop-left.left 1 (slot_size c.args.unit) in
    let own = c.id_at-id.ensures.value ∙ named_from c.args.unit c.args.bytes.now c.loop-left.left c.loop-left.start c.requires.unit invariant.at in
    record {
      inside = omega (arith, invariant.inside);
      size = invariant.size;
      at = omega (arith, above, split, invariant.at, invariant.size);
      others = others_more c.args.unit c.args.bytes.now c.args.least c.args.most c.loop-left.left c.args.slots c.loop-left-test.true
          (other_named c.args.unit c.args.bytes.now c.args.least c.args.most c.loop-left.left c.id_at-id.result own (out_of_range c.args.least c.args.most c.id_at-id.result c.else-least-id.either))
          invariant.others;
    }

pub returns : goal.returns
returns c =
    let none : c.loop-left.left ≡ 0 = omega (arith, c.loop-left-test.false) in
    record {
      few = omega arith;
      others = subst (λ (n : ℕ). AreOthers (format_in c.args.unit) c.args.bytes.now n c.args.slots c.args.least c.args.most) none c.loop-left.invariant.others;
    }
