use Rattle.std.proofs.Common.{◌≡◌, ◌-◌, ℕ, Option, sym, ap, ◌∙◌, arith}
use Rattle.std.specs.Prelude.{is_some}
use Rattle.flash_sim.specs.Device.{Device}
use Rattle.flash_map.specs.Area.{unit_of, sectors_of}
use Rattle.nvs_store.specs.declared.scan.Found.{Found}
use Rattle.flash_map.proofs.MapLemmas.{not_some}
use Rattle.item_laws.proofs.Newest.{last-step, last-suffix}
use Rattle.nvs_store.specs.Sector.{is_wanted}
use Rattle.nvs_store.specs.Scans.{counted_in, last_wanted}
use Rattle.nvs_store.proofs.LastLemmas.{among}
use Rattle.nvs_store.proofs.lookup.find_among.Goals as goal

pub loop-place-init : goal.loop-place-init
loop-place-init g c =
    let none : c.args.end - c.args.end ≡ 0 = omega arith in
    let d : Device = g.F.Flash.device c.args.flash.now in
    record {
      low = omega arith;
      high = omega arith;
      none = ap (λ (n : ℕ). last_wanted c.args.wanted (among (unit_of d c.args.area.now) (sectors_of d c.args.area.now) c.args.scan.now.current c.args.end n)) none;
    }

pub returns-then-is_some : goal.returns-then-is_some
returns-then-is_some g c =
    let d : Device = g.F.Flash.device c.args.flash.now in
    let kept = c.loop-place.invariant in
    let here : last_wanted c.args.wanted (among (unit_of d c.args.area.now) (sectors_of d c.args.area.now) c.args.scan.now.current (c.loop-place.place - 1) (c.args.end - (c.loop-place.place - 1))) ≡ c.find_at-placed.result =
    last-step (λ f. is_wanted c.args.wanted f.entry) (counted_in (unit_of d c.args.area.now) (sectors_of d c.args.area.now) c.args.scan.now.current) c.loop-place.place c.args.end c.find_at-placed.result (omega arith) kept.high kept.none (c.find_at-placed.ensures.whole (omega arith)) in
    sym here ∙ last-suffix (λ f. is_wanted c.args.wanted f.entry) (counted_in (unit_of d c.args.area.now) (sectors_of d c.args.area.now) c.args.scan.now.current) c.args.first (c.loop-place.place - 1) c.args.end (omega arith) (omega (arith, kept.high))
    (ap (λ (o : Option Found). is_some o) here ∙ sym c.is_some.ensures ∙ c.if-is_some.true)

pub loop-place-preserved : goal.loop-place-preserved
loop-place-preserved g c =
    let d : Device = g.F.Flash.device c.args.flash.now in
    let kept = c.loop-place.invariant in
    record {
      low = omega arith;
      high = omega (arith, kept.high);
      none = last-step (λ f. is_wanted c.args.wanted f.entry) (counted_in (unit_of d c.args.area.now) (sectors_of d c.args.area.now) c.args.scan.now.current) c.loop-place.place c.args.end c.find_at-placed.result (omega arith) kept.high kept.none (c.find_at-placed.ensures.whole (omega arith))
          ∙ not_some c.find_at-placed.result (sym c.is_some.ensures ∙ c.if-is_some.false);
    }

pub returns : goal.returns
returns g c =
    let d : Device = g.F.Flash.device c.args.flash.now in
    let kept = c.loop-place.invariant in
    let at : c.args.first ≡ c.loop-place.place = omega (arith, kept.low) in
    sym (ap (λ (k : ℕ). last_wanted c.args.wanted (among (unit_of d c.args.area.now) (sectors_of d c.args.area.now) c.args.scan.now.current k (c.args.end - k))) at ∙ kept.none)
