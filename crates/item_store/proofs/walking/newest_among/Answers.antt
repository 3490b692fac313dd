use Rattle.std.proofs.Common.{◌≡◌, ℕ, ◌-◌, List, Option, None, sym, ap, ◌∙◌, arith, ◌<◌, ◌≤◌}
use Rattle.std.specs.Prelude.{is_some}
use Rattle.std.specs.List.{last_or}
use Rattle.item_laws.proofs.LastLemmas.{none_by, among}
use Rattle.item_store.specs.declared.entry.Placed.{Placed}
use Rattle.item_store.proofs.OlderSteps.{newest-step, newest-suffix}
use Rattle.flash_sim.specs.Device.{Device}
use Rattle.flash_map.specs.declared.area.Area.{Area}
use Rattle.flash_map.specs.Area.{geometry_of, sectors_of}
use Rattle.item_store.specs.SectorFormat.{SectorFormat, IsSectorFormat, slots}
use Rattle.item_store.proofs.Areas.{unit_is}
use Rattle.item_store.proofs.walking.newest_among.Goals as goal

some-above : (n m : ℕ) → n < m → 1 ≤ m
some-above n m less = omega arith

less-one : (n m : ℕ) → n < m → m - 1 < m
less-one n m less = omega arith

less-within : (n m end count : ℕ) → n < m → m ≤ end → end ≤ count → m - 1 < count
less-within n m end count less low within = omega arith

pub loop-place-init : goal.loop-place-init
loop-place-init g c =
    let d : Device = g.F.Flash.device c.args.flash.now in
    let area : Area = c.args.on.now.area.now in
    let k : SectorFormat = g.T.SlotSectors.format_of (geometry_of d area) in
    let sectors : List (List ℕ) = sectors_of d area in
    let none : c.args.end - c.args.end ≡ 0 = omega arith in
    record {
      low = omega arith;
      high = omega arith;
      none = ap (λ (n : ℕ). last_or None (among (slots k) sectors c.args.on.now.current c.args.end n)) none;
    }

pub overflow_sub-place : goal.overflow_sub-place
overflow_sub-place g c = some-above _ _ c.loop-place-test.true

pub newest_of-found-requires : goal.newest_of-found-requires
newest_of-found-requires g c =
    record {
      on = c.requires.on;
      inside = less-within _ _ _ _ c.loop-place-test.true c.loop-place.invariant.high c.requires.inside;
    }

pub returns-then-is_some : goal.returns-then-is_some
returns-then-is_some g c =
    let d : Device = g.F.Flash.device c.args.flash.now in
    let area : Area = c.args.on.now.area.now in
    let k : SectorFormat = g.T.SlotSectors.format_of (geometry_of d area) in
    let sectors : List (List ℕ) = sectors_of d area in
    let law : IsSectorFormat (g.T.SlotSectors.format_of (geometry_of d area)) = g.met.T.SlotSectors.lawful (geometry_of d area) (unit_is d area (g.met.F.Flash.is_lawful c.args.flash.now) c.requires.on.area.lawful) in
    let so_far = c.loop-place.invariant in
    let here : last_or None (among (slots k) sectors c.args.on.now.current (c.loop-place.place - 1) (c.args.end - (c.loop-place.place - 1))) ≡ c.newest_of-found.result =
    newest-step k law sectors c.args.on.now.current c.loop-place.place c.args.end c.newest_of-found.result (omega arith) so_far.high so_far.none c.newest_of-found.ensures.last in
    record {
      last = sym here ∙ newest-suffix k law sectors c.args.on.now.current c.args.first (c.loop-place.place - 1) c.args.end (omega arith) (omega (arith, so_far.high))
          (ap (λ (o : Option Placed). is_some o) here ∙ sym c.is_some.ensures ∙ c.if-is_some.true);
      placed = c.newest_of-found.ensures.placed;
    }

pub overflow_sub-place-in-loop-place : goal.overflow_sub-place-in-loop-place
overflow_sub-place-in-loop-place g c = some-above _ _ c.loop-place-test.true

pub loop-place-smaller : goal.loop-place-smaller
loop-place-smaller g c = less-one _ _ c.loop-place-test.true

pub loop-place-preserved : goal.loop-place-preserved
loop-place-preserved g c =
    let d : Device = g.F.Flash.device c.args.flash.now in
    let area : Area = c.args.on.now.area.now in
    let k : SectorFormat = g.T.SlotSectors.format_of (geometry_of d area) in
    let sectors : List (List ℕ) = sectors_of d area in
    let law : IsSectorFormat (g.T.SlotSectors.format_of (geometry_of d area)) = g.met.T.SlotSectors.lawful (geometry_of d area) (unit_is d area (g.met.F.Flash.is_lawful c.args.flash.now) c.requires.on.area.lawful) in
    let so_far = c.loop-place.invariant in
    record {
      low = omega arith;
      high = omega (arith, so_far.high);
      none = newest-step k law sectors c.args.on.now.current c.loop-place.place c.args.end c.newest_of-found.result (omega arith) so_far.high so_far.none c.newest_of-found.ensures.last
          ∙ none_by c.newest_of-found.result (sym c.is_some.ensures ∙ c.if-is_some.false);
    }

pub returns : goal.returns
returns g c =
    let d : Device = g.F.Flash.device c.args.flash.now in
    let area : Area = c.args.on.now.area.now in
    let k : SectorFormat = g.T.SlotSectors.format_of (geometry_of d area) in
    let sectors : List (List ℕ) = sectors_of d area in
    let so_far = c.loop-place.invariant in
    let at : c.args.first ≡ c.loop-place.place = omega (arith, so_far.low) in
    record {
      last = sym (ap (λ (p : ℕ). last_or None (among (slots k) sectors c.args.on.now.current p (c.args.end - p))) at ∙ so_far.none);
      placed = tt;
    }
