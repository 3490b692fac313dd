use Rattle.std.proofs.Common.{◌≡◌, ◌-◌, ℕ, Option, sym, ap, ◌∙◌, arith}
use Rattle.std.specs.Prelude.{is_some}
use Rattle.flash_sim.specs.Device.{Device}
use Rattle.flash_map.specs.Area.{geometry_of, sectors_of}
use Rattle.item_laws.specs.Live.{last_of}
use Rattle.item_laws.proofs.LastLemmas.{none_by, among, last-step, last-suffix}
use Rattle.item_store.specs.declared.entry.Placed.{Placed}
use Rattle.item_store.specs.SectorFormat.{SectorFormat, slots}
use Rattle.item_store.proofs.lookup.find_among.Goals as goal

pub loop-place-init : goal.loop-place-init
loop-place-init g c =
    let none : c.args.end - c.args.end ≡ 0 = omega arith in
    let d : Device = g.F.Flash.device c.args.flash.now in
    let k : SectorFormat = g.T.SlotSectors.format_of (geometry_of d c.args.on.now.area.now) in
    record {
      low = omega arith;
      high = omega arith;
      steps = omega arith;
      none = ap (λ (n : ℕ). last_of (slots k) c.args.id (among (slots k) (sectors_of d c.args.on.now.area.now) c.args.on.now.current c.args.end n)) none;
    }

pub returns-then-is_some-clause-last : goal.returns-then-is_some-clause-last
returns-then-is_some-clause-last g c =
    let d : Device = g.F.Flash.device c.args.flash.now in
    let k : SectorFormat = g.T.SlotSectors.format_of (geometry_of d c.args.on.now.area.now) in
    let kept = c.loop-place.invariant in
    let here : last_of (slots k) c.args.id (among (slots k) (sectors_of d c.args.on.now.area.now) c.args.on.now.current (c.loop-place.place - 1) (c.args.end - (c.loop-place.place - 1))) ≡ c.find_at-found.result =
    last-step (slots k) (sectors_of d c.args.on.now.area.now) c.args.on.now.current c.args.id c.loop-place.place c.args.end c.find_at-found.result (omega arith) kept.high kept.none c.find_at-found.ensures.last in
    sym here ∙ last-suffix (slots k) (sectors_of d c.args.on.now.area.now) c.args.on.now.current c.args.id c.args.first (c.loop-place.place - 1) c.args.end (omega arith) (omega (arith, kept.high))
    (ap (λ (o : Option Placed). is_some o) here ∙ sym c.is_some.ensures ∙ c.if-is_some.true)

pub loop-place-preserved : goal.loop-place-preserved
loop-place-preserved g c =
    let d : Device = g.F.Flash.device c.args.flash.now in
    let k : SectorFormat = g.T.SlotSectors.format_of (geometry_of d c.args.on.now.area.now) in
    let kept = c.loop-place.invariant in
    record {
      low = omega arith;
      high = omega (arith, kept.high);
      steps = omega (arith, kept.high, kept.steps, c.find_at-found.ensures.step);
      none = last-step (slots k) (sectors_of d c.args.on.now.area.now) c.args.on.now.current c.args.id c.loop-place.place c.args.end c.find_at-found.result (omega arith) kept.high kept.none c.find_at-found.ensures.last
          ∙ none_by c.find_at-found.result (sym c.is_some.ensures ∙ c.if-is_some.false);
    }

pub returns-clause-last : goal.returns-clause-last
returns-clause-last g c =
    let d : Device = g.F.Flash.device c.args.flash.now in
    let k : SectorFormat = g.T.SlotSectors.format_of (geometry_of d c.args.on.now.area.now) in
    let kept = c.loop-place.invariant in
    let at : c.args.first ≡ c.loop-place.place = omega (arith, kept.low) in
    sym (ap (λ (p : ℕ). last_of (slots k) c.args.id (among (slots k) (sectors_of d c.args.on.now.area.now) c.args.on.now.current p (c.args.end - p))) at ∙ kept.none)

pub returns-then-is_some-clause-steps : goal.returns-then-is_some-clause-steps
returns-then-is_some-clause-steps g c =
    let kept = c.loop-place.invariant in
    omega (arith, kept.low, kept.high, kept.steps, c.find_at-found.ensures.step)

pub returns-clause-steps : goal.returns-clause-steps
returns-clause-steps g c =
    let kept = c.loop-place.invariant in
    omega (arith, kept.low, kept.high, kept.steps)
