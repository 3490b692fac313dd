use Rattle.std.proofs.Common.{ℕ, List, refl, ◌∙◌, inl, inr, arith, ◌≡◌, ◌≤◌, Option, sym, ap}
use Rattle.flash_sim.specs.Device.{Device}
use Rattle.flash_map.specs.declared.area.Area.{Area}
use Rattle.flash_map.specs.Area.{geometry_of, sectors_of}
use Rattle.item_store.specs.SectorFormat.{SectorFormat}
use Rattle.item_store.proofs.LastsSlots.{covered-before}
use Rattle.item_store.proofs.LastsWalk.{last-same}
use Rattle.item_store.proofs.ViewSteps.{slot-read}
use Rattle.std.specs.Prelude.{is_some}
use Rattle.std.proofs.lemmas.Bool.{false≢true}
use Rattle.item_store.specs.declared.entry.Placed.{Placed}
use Rattle.item_store.proofs.lasts.Lasts.next_here.Goals as goal

none-left : (n : ℕ) → n ≤ 0 → n ≡ 0
none-left n le = omega arith

pub loop-self-init : goal.loop-self-init
loop-self-init g c = record { at = c.requires.at; range = (refl, refl); place = refl; fewer = omega arith; steps = omega arith; covered = λ p covered. covered }

pub look_at_slot-found-requires : goal.look_at_slot-found-requires
look_at_slot-found-requires g c =
    record {
      area = c.requires.area;
      current = c.requires.current;
      at = c.loop-self.invariant.at;
      some_left = c.loop-self-test.true;
    }

pub returns-then-is_some : goal.returns-then-is_some
returns-then-is_some g c =
    let now = c.loop-self.invariant in
    let step = c.look_at_slot-found.ensures in
    let slot = c.look_at_slot-found.ensures.reads in
    let d : Device = g.F.Flash.device c.args.flash.now in
    let area : Area = c.args.area.now in
    let k : SectorFormat = g.T.SlotSectors.format_of (geometry_of d area) in
    let sectors : List (List ℕ) = sectors_of d area in
    record {
      at = c.look_at_slot-found.ensures.at;
      range = (step.range.0 ∙ now.range.0, step.range.1 ∙ now.range.1);
      place = step.place ∙ now.place;
      ends = λ none. absurd (false≢true (sym (ap (λ (o : Option Placed). is_some o) none) ∙ sym c.is_some.ensures ∙ c.if-is_some.true));
      reads = slot-read c.args.self.now c.loop-self.self c.look_at_slot-found.new.self c.args.steps.now c.loop-self.steps c.look_at_slot-found.new.steps c.look_at_slot-found.result now.fewer now.steps slot;
      next = last-same k sectors c.args.current c.args.self.now c.loop-self.self c.loop-self.invariant.range c.look_at_slot-found.result c.look_at_slot-found.ensures.next;
      covered = λ p covered. elim (c.look_at_slot-found.ensures.covered p covered) [
        | inl here ↦ inl here
        | inr was ↦ inr (c.loop-self.invariant.covered p was)
      ];
    }

pub loop-self-smaller : goal.loop-self-smaller
loop-self-smaller g c = c.look_at_slot-found.ensures.reads.fewer

pub loop-self-preserved : goal.loop-self-preserved
loop-self-preserved g c =
    let d : Device = g.F.Flash.device c.args.flash.now in
    let area : Area = c.args.area.now in
    let k : SectorFormat = g.T.SlotSectors.format_of (geometry_of d area) in
    let sectors : List (List ℕ) = sectors_of d area in
    let now = c.loop-self.invariant in
    let step = c.look_at_slot-found.ensures in
    record {
      at = step.at;
      range = (step.range.0 ∙ now.range.0, step.range.1 ∙ now.range.1);
      place = step.place ∙ now.place;
      fewer = omega (arith, step.reads.fewer, now.fewer);
      steps = omega (arith, step.reads.fewer, step.reads.steps, now.steps);
      covered = λ p covered. now.covered p (covered-before k sectors c.args.current c.loop-self.self p c.look_at_slot-found.result c.is_some.result c.is_some.ensures c.if-is_some.false (step.covered p covered));
    }

pub returns : goal.returns
returns g c =
    record {
      at = c.loop-self.invariant.at;
      range = c.loop-self.invariant.range;
      place = c.loop-self.invariant.place;
      ends = λ _. none-left _ c.loop-self-test.false;
      reads = record { fewer = tt; steps = c.loop-self.invariant.steps; spared = tt };
      next = tt;
      covered = λ p covered. inr (c.loop-self.invariant.covered p covered);
    }
