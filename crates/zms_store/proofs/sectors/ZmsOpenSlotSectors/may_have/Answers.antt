use Rattle.std.proofs.Common.{ℕ, List, subst, arith}
use Rattle.flash_sim.specs.Device.{Device}
use Rattle.flash_map.specs.Area.{sectors_of, sector_at}
use Rattle.zms_cycle.specs.Holding.{NoneNames}
use Rattle.zms_format.proofs.PassedSlots.{unnamed_other}
use Rattle.zms_store.proofs.sectors.ZmsOpenSlotSectors.may_have.Goals as goal

pub returns-clause-rules : goal.returns-clause-rules
returns-clause-rules g c =
    let d : Device = g.F.Flash.device c.args.flash.now in
    let b : List ℕ = sector_at (sectors_of d c.args.area.now) c.args.place in
    let skipped : ℕ = c.args.skipped in
    let lower : ℕ = c.args.ids.now.lower in
    let upper : ℕ = c.args.ids.now.upper in
    record {
      lower = λ none slot from to.
          let others : NoneNames b skipped lower = subst (λ (x : List ℕ). NoneNames x skipped lower) c.sector_view-bytes.ensures.bytes (c.may_have-lower.ensures.lower none) in
          unnamed_other b slot lower lower (others slot (omega (arith, from)) (omega (arith, to)));
      upper = λ none slot from to.
          let others : NoneNames b skipped upper = subst (λ (x : List ℕ). NoneNames x skipped upper) c.sector_view-bytes.ensures.bytes (c.may_have-lower.ensures.upper none) in
          unnamed_other b slot upper upper (others slot (omega (arith, from)) (omega (arith, to)));
    }
