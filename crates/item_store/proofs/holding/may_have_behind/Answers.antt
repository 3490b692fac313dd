use Rattle.std.proofs.Common.{◌≡◌, ℕ, ◌<◌, List, length, refl, sym, ap, ◌∙◌, arith}
use Rattle.flash_sim.specs.Device.{Device}
use Rattle.flash_map.specs.declared.area.Area.{Area}
use Rattle.flash_map.specs.Area.{geometry_of, sectors_of}
use Rattle.item_laws.proofs.AreaReads.{length-sectors}
use Rattle.item_laws.proofs.Places.{after}
use Rattle.item_store.specs.Latest.{last_of_id}
use Rattle.item_store.specs.SectorFormat.{SectorFormat}
use Rattle.item_store.specs.Seen.{behind}
use Rattle.item_store.proofs.Areas.{open_inside}
use Rattle.item_store.proofs.HoldingSteps.{fewer-behind, none-next, none-left, or-rules-out}
use Rattle.item_store.proofs.holding.may_have_behind.Goals as goal

pub loop-at-init : goal.loop-at-init
loop-at-init g c = record { within = c.requires.inside; steps = omega arith; lower = λ _. refl; upper = λ _. refl }

pub next-at-requires : goal.next-at-requires
next-at-requires g c = c.loop-at.invariant.within

pub loop-at-smaller : goal.loop-at-smaller
loop-at-smaller g c =
    let d : Device = g.F.Flash.device c.args.flash.now in
    let area : Area = c.args.on.now.area.now in
    let k : SectorFormat = g.T.SlotSectors.format_of (geometry_of d area) in
    let low = open_inside k d area c.args.on.now.current c.requires.on.area.lawful c.requires.on.current in
    fewer-behind area.sectors c.args.on.now.current c.loop-at.at c.next-at.result low c.loop-at.invariant.within c.loop-at-test.true c.next-at.ensures.value

pub loop-at-preserved : goal.loop-at-preserved
loop-at-preserved g c =
    let d : Device = g.F.Flash.device c.args.flash.now in
    let area : Area = c.args.on.now.area.now in
    let k : SectorFormat = g.T.SlotSectors.format_of (geometry_of d area) in
    let sectors : List (List ℕ) = sectors_of d area in
    let long = length-sectors d area in
    let within = open_inside k d area c.args.on.now.current c.requires.on.area.lawful c.requires.on.current in
    let low : c.args.on.now.current < length sectors = omega arith in
    let now = c.loop-at.invariant.within in
    let high : c.loop-at.at < length sectors = omega arith in
    let next : c.next-at.result ≡ after (length sectors) c.loop-at.at = c.next-at.ensures.value ∙ ap (λ (n : ℕ). after n c.loop-at.at) (sym long) in
    let fewer = fewer-behind area.sectors c.args.on.now.current c.loop-at.at c.next-at.result within now c.loop-at-test.true c.next-at.ensures.value in
    record {
      within = c.next-at.ensures.within;
      steps = omega (arith, fewer, c.may_have.ensures.step, c.loop-at.invariant.steps);
      lower = λ none.
          let both = or-rules-out c.loop-at.may.lower c.may_have.result.lower c.or-may.result.lower c.or-may.ensures.lower none in
          c.loop-at.invariant.lower both.0 ∙ none-next k sectors c.args.on.now.current c.args.ids.now.lower low c.loop-at.at c.next-at.result high c.loop-at-test.true next (c.may_have.ensures.rules.lower both.1);
      upper = λ none.
          let both = or-rules-out c.loop-at.may.upper c.may_have.result.upper c.or-may.result.upper c.or-may.ensures.upper none in
          c.loop-at.invariant.upper both.0 ∙ none-next k sectors c.args.on.now.current c.args.ids.now.upper low c.loop-at.at c.next-at.result high c.loop-at-test.true next (c.may_have.ensures.rules.upper both.1);
    }

pub returns-clause-steps : goal.returns-clause-steps
returns-clause-steps g c = omega (arith, c.loop-at.invariant.steps)

pub returns-clause-rules : goal.returns-clause-rules
returns-clause-rules g c =
    let d : Device = g.F.Flash.device c.args.flash.now in
    let area : Area = c.args.on.now.area.now in
    let k : SectorFormat = g.T.SlotSectors.format_of (geometry_of d area) in
    let sectors : List (List ℕ) = sectors_of d area in
    let long = length-sectors d area in
    let within = open_inside k d area c.args.on.now.current c.requires.on.area.lawful c.requires.on.current in
    let low : c.args.on.now.current < length sectors = omega arith in
    record {
      lower = λ none. c.loop-at.invariant.lower none ∙ ap (λ (n : ℕ). last_of_id c.args.ids.now.lower (behind k sectors c.args.on.now.current n)) c.loop-at-test.false ∙ none-left k sectors c.args.on.now.current c.args.ids.now.lower low;
      upper = λ none. c.loop-at.invariant.upper none ∙ ap (λ (n : ℕ). last_of_id c.args.ids.now.upper (behind k sectors c.args.on.now.current n)) c.loop-at-test.false ∙ none-left k sectors c.args.on.now.current c.args.ids.now.upper low;
    }
