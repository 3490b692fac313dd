use Rattle.flash_map.proofs.Results.{not_ok}
use Rattle.flash_map.specs.Touches.{Touches}
use Rattle.std.proofs.Common.{ℕ, ◌+◌, ◌*◌, ◌<◌, ◌≤◌, ◌≡◌, ◌-◌, ◌∷◌, [], List, refl, ap, ◌∙◌, arith, sym, subst, Bool}
use Rattle.flash_sim.specs.Bank.{bank_at}
use Rattle.flash_sim.specs.declared.flash.Bank.{Bank}
use Rattle.flash_sim.specs.declared.flash.Kind.TheVariants.{Rewritable}
use Rattle.flash_map.specs.Area.{sector_bytes, sector_size}
use Rattle.flash_map.proofs.SpendingBounds.{between_none, between_then, between_within}
use Rattle.flash_map.proofs.Touches.{then, untouched}
use Rattle.zms_cycle.proofs.AreaFacts.{size_is, same_kind, still_zms, others_same, others_then}
use Rattle.zms_cycle.proofs.EmptyCalls.{same_bytes}
use Rattle.zms_cycle.proofs.Frames.{keeps_same}
use Rattle.zms_cycle.proofs.CloseCalls.{fill_keeps, fill_more, filled_as, keeps_equal}
use Rattle.zms_cycle.proofs.marking.fill_slots.Goals as goal

same-le : (n : ℕ) → n ≤ n
same-le n = omega arith

from-zero : (n : ℕ) → 0 ≤ n
from-zero n = omega arith

none-over : (top bottom : ℕ) → top - top ≤ top - bottom
none-over top bottom = omega arith

none-read : (n top : ℕ) → n ≤ n + (top - top)
none-read n top = omega arith

none-filled : (k top : ℕ) → top ≤ k → k < top → ⊥
none-filled k top from below = omega arith

-- the slot under one that is above the bottom
module _ (slot bottom top : ℕ) (more : bottom < slot) (below : slot ≤ top) where
  some-slot : 1 ≤ slot
  some-slot = omega arith

  smaller : slot - 1 < slot
  smaller = omega arith

  cut-read : (start before after : ℕ) → before ≤ start + (top - slot) → after ≡ before + 1 → after ≤ start + (top - bottom)
  cut-read start before after read step = omega arith

  some-top : 0 < top
  some-top = omega arith

  one-below : slot - 1 ≤ top
  one-below = omega arith

  one-over : top - (slot - 1) ≤ top - bottom
  one-over = omega arith

  one-back : slot ≡ slot - 1 + 1
  one-back = omega arith

  one-read : (start before after : ℕ) → before ≤ start + (top - slot) → after ≡ before + 1 → after ≤ start + (top - (slot - 1))
  one-read start before after read step = omega arith

  one-spent : top - slot + 1 ≤ top - (slot - 1)
  one-spent = omega arith

  over-bottom : (n : ℕ) → n ≤ bottom → n ≤ slot - 1
  over-bottom n least = omega arith

  slot-in : (end size long : ℕ) → end + top * 16 ≤ size → long ≡ size → end + (slot - 1 + 1) * 16 ≤ long
  slot-in end size long fits same = omega arith

  slot-there : (end size long : ℕ) → end + top * 16 ≤ size → long ≡ size → (slot - 1 + 1) * 16 ≤ long
  slot-there end size long fits same = omega arith

all-read : (start steps some all : ℕ) → steps ≤ start + some → some ≤ all → steps ≤ start + all
all-read start steps some all read over = omega arith

top-there : (end top size long : ℕ) → end + top * 16 ≤ size → long ≡ size → top * 16 ≤ long
top-there end top size long fits same = omega arith

pub loop-slot-init : goal.loop-slot-init
loop-slot-init g c = record {
  below = same-le c.args.top;
  over = none-over c.args.top c.args.bottom;
  touches = untouched (c.args.area.now ∷ []) (g.F.Flash.device c.args.flash.now);
  others = others_same (g.F.Flash.device c.args.flash.now) (g.F.Flash.device c.args.flash.now) c.args.area.now c.args.sector refl;
  keeps = keeps_same Rewritable 0 (sector_bytes (g.F.Flash.device c.args.flash.now) c.args.area.now c.args.sector);
  filled = λ k from below. absurd (none-filled k c.args.top from below);
  read = none-read c.args.steps.now c.args.top;
  spends = between_within (between_none (g.F.Flash.device c.args.flash.now)) 0 (c.args.top - c.args.top) (from-zero 0) (from-zero _);
}

pub fill_slot-requires-clause-zms : goal.fill_slot-requires-clause-zms
fill_slot-requires-clause-zms g c = still_zms (g.F.Flash.device c.args.flash.now) (g.F.Flash.device c.loop-slot.flash) c.args.area.now c.args.sector c.loop-slot.invariant.touches.banks c.requires.zms

pub fill_slot-requires-clause-kind : goal.fill_slot-requires-clause-kind
fill_slot-requires-clause-kind g c = same_kind (g.F.Flash.device c.args.flash.now) (g.F.Flash.device c.loop-slot.flash) c.args.area.now c.loop-slot.invariant.touches.banks ∙ c.requires.kind

pub fill_slot-requires-clause-slot : goal.fill_slot-requires-clause-slot
fill_slot-requires-clause-slot g c =
    let kept = c.loop-slot.invariant in
    let same : sector_size (g.F.Flash.device c.loop-slot.flash) c.args.area.now ≡ sector_size (g.F.Flash.device c.args.flash.now) c.args.area.now = ap (λ (l : List Bank). (bank_at l c.args.area.now.bank).sector) kept.touches.banks in
    let top = c.requires.top (some-top c.loop-slot.slot c.args.bottom c.args.top c.loop-slot-test.true kept.below) in
    slot-there c.loop-slot.slot c.args.bottom c.args.top c.loop-slot-test.true kept.below _ _ _ top same

pub loop-slot-preserved : goal.loop-slot-preserved
loop-slot-preserved g c =
    let kept = c.loop-slot.invariant in
    let more = c.loop-slot-test.true in
    record {
      below = one-below c.loop-slot.slot c.args.bottom c.args.top more kept.below;
      over = one-over c.loop-slot.slot c.args.bottom c.args.top more kept.below;
      touches = then kept.touches c.in_ok-fill_slot.ensures.touches;
      others = others_then (g.F.Flash.device c.args.flash.now) (g.F.Flash.device c.loop-slot.flash) (g.F.Flash.device c.fill_slot.new.flash) c.args.area.now c.args.sector kept.others c.in_ok-fill_slot.ensures.others;
      keeps = fill_keeps (sector_bytes (g.F.Flash.device c.args.flash.now) c.args.area.now c.args.sector) (sector_bytes (g.F.Flash.device c.loop-slot.flash) c.args.area.now c.args.sector) (sector_bytes (g.F.Flash.device c.fill_slot.new.flash) c.args.area.now c.args.sector) (c.loop-slot.slot - 1) kept.keeps c.requires.guarded (over-bottom c.loop-slot.slot c.args.bottom c.args.top more kept.below _ c.requires.bottom) (let top = c.requires.top (some-top c.loop-slot.slot c.args.bottom c.args.top more kept.below) in let size = size_is (g.F.Flash.device c.args.flash.now) c.args.area.now c.args.sector c.requires.zms (g.met.F.Flash.is_lawful c.args.flash.now) in slot-in c.loop-slot.slot c.args.bottom c.args.top more kept.below _ _ _ top size) c.in_ok-fill_slot.ensures.ok;
      filled =
          let top = c.requires.top (some-top c.loop-slot.slot c.args.bottom c.args.top more kept.below) in
          let size = size_is (g.F.Flash.device c.args.flash.now) c.args.area.now c.args.sector c.requires.zms (g.met.F.Flash.is_lawful c.args.flash.now) in
          let long = kept.keeps.kept.long in
          fill_more (sector_bytes (g.F.Flash.device c.loop-slot.flash) c.args.area.now c.args.sector) (sector_bytes (g.F.Flash.device c.fill_slot.new.flash) c.args.area.now c.args.sector) (c.loop-slot.slot - 1) c.loop-slot.slot c.args.top (one-back c.loop-slot.slot c.args.bottom c.args.top more kept.below) (slot-there c.loop-slot.slot c.args.bottom c.args.top more kept.below _ _ _ top (long ∙ size)) (top-there _ c.args.top _ _ top (long ∙ size)) c.in_ok-fill_slot.ensures.ok kept.filled;
      read = one-read c.loop-slot.slot c.args.bottom c.args.top more kept.below _ _ _ kept.read c.in_ok-fill_slot.ensures.step;
      spends = between_within (between_then kept.spends c.in_ok-fill_slot.ensures.spends) 0 (c.args.top - (c.loop-slot.slot - 1)) (from-zero _) (one-spent c.loop-slot.slot c.args.bottom c.args.top more kept.below);
    }

pub returns-in_err-fill_slot-clause-others : goal.returns-in_err-fill_slot-clause-others
returns-in_err-fill_slot-clause-others g c = others_then (g.F.Flash.device c.args.flash.now) (g.F.Flash.device c.loop-slot.flash) (g.F.Flash.device c.fill_slot.new.flash) c.args.area.now c.args.sector c.loop-slot.invariant.others c.in_err-fill_slot.ensures.others

pub returns-in_err-fill_slot-clause-keeps : goal.returns-in_err-fill_slot-clause-keeps
returns-in_err-fill_slot-clause-keeps g c = keeps_equal Rewritable (sector_bytes (g.F.Flash.device c.args.flash.now) c.args.area.now c.args.sector) (sector_bytes (g.F.Flash.device c.loop-slot.flash) c.args.area.now c.args.sector) (sector_bytes (g.F.Flash.device c.fill_slot.new.flash) c.args.area.now c.args.sector) c.loop-slot.invariant.keeps (same_bytes (g.F.Flash.device c.loop-slot.flash) (g.F.Flash.device c.fill_slot.new.flash) c.args.area.now c.args.sector c.in_err-fill_slot.ensures.lost)

pub returns-in_err-fill_slot-clause-spends : goal.returns-in_err-fill_slot-clause-spends
returns-in_err-fill_slot-clause-spends g c =
    let kept = c.loop-slot.invariant in
    between_within (between_then kept.spends c.in_err-fill_slot.ensures.spends_lost) 0 (c.args.top - c.args.bottom) (omega arith) (omega arith)

pub returns-clause-spends : goal.returns-clause-spends
returns-clause-spends g c = between_within c.loop-slot.invariant.spends 0 (c.args.top - c.args.bottom) (omega arith) (omega arith)

pub returns-clause-filled : goal.returns-clause-filled
returns-clause-filled g c = filled_as (sector_bytes (g.F.Flash.device c.loop-slot.flash) c.args.area.now c.args.sector) c.loop-slot.slot c.args.top c.args.bottom c.args.top c.loop-slot.invariant.filled (omega arith) (omega arith)

pub returns-in_err-fill_slot-clause-touches : goal.returns-in_err-fill_slot-clause-touches
returns-in_err-fill_slot-clause-touches g c =
    let d = g.F.Flash.device c.args.flash.now in
    let e = g.F.Flash.device c.fill_slot.new.flash in
    subst (λ (lost : Bool). Touches (c.args.area.now ∷ []) d e lost) (sym c.from_residual.ensures.0)
    (then c.loop-slot.invariant.touches c.in_err-fill_slot.ensures.touches)

pub returns-in_err-fill_slot-clause-filled : goal.returns-in_err-fill_slot-clause-filled
returns-in_err-fill_slot-clause-filled g c = not_ok _ c.from_residual.result c.from_residual.ensures.0

pub returns-clause-touches : goal.returns-clause-touches
returns-clause-touches g c = c.loop-slot.invariant.touches

pub returns-clause-others : goal.returns-clause-others
returns-clause-others g c = c.loop-slot.invariant.others

pub returns-clause-keeps : goal.returns-clause-keeps
returns-clause-keeps g c = c.loop-slot.invariant.keeps

pub overflow_sub-slot : goal.overflow_sub-slot
overflow_sub-slot g c = some-slot c.loop-slot.slot c.args.bottom c.args.top c.loop-slot-test.true c.loop-slot.invariant.below

pub loop-slot-smaller : goal.loop-slot-smaller
loop-slot-smaller g c = smaller c.loop-slot.slot c.args.bottom c.args.top c.loop-slot-test.true c.loop-slot.invariant.below

pub returns-in_err-fill_slot-clause-steps : goal.returns-in_err-fill_slot-clause-steps
returns-in_err-fill_slot-clause-steps g c =
    let kept = c.loop-slot.invariant in
    let more = c.loop-slot-test.true in
    cut-read c.loop-slot.slot c.args.bottom c.args.top more kept.below _ _ _ kept.read c.in_err-fill_slot.ensures.step

pub returns-clause-steps : goal.returns-clause-steps
returns-clause-steps g c =
    let kept = c.loop-slot.invariant in
    all-read c.args.steps.now c.loop-slot.steps _ _ kept.read kept.over
