use Rattle.std.proofs.Common.{◌≡◌, ℕ, ◌+◌, ◌/◌, ◌≤◌, true, sym, subst, arith}
use Rattle.std.proofs.lemmas.Result.{on_ok_weaker, on_err_weaker}
use Rattle.flash_sim.specs.Device.{Device}
use Rattle.flash_map.specs.Area.{unit_of, sector_size, sector_bytes}
use Rattle.flash_map.specs.Copies.{source}
use Rattle.flash_map.specs.Spending.{SpendsBetween}
use Rattle.flash_map.specs.Units.{padded, is_erased}
use Rattle.std.specs.Prelude.{slice_range}
use Rattle.flash_map.proofs.SpendingBounds.{between_exact, between_most}
use Rattle.zms_cycle.specs.Changes.{HasPart}
use Rattle.zms_cycle.proofs.AreaFacts.{unit_is, size_is}
use Rattle.zms_cycle.proofs.CopyCalls.{length-range}
use Rattle.zms_cycle.proofs.UnitCalls.{both_ends}
use Rattle.zms_cycle.proofs.EntryCalls.{can_bytes, bytes_ok, bytes_others, bytes_lost, bytes_lost_others}
use Rattle.zms_cycle.proofs.copying.copy_bytes.Goals as goal

pub copy_padded-requires-clause-short : goal.copy_padded-requires-clause-short
copy_padded-requires-clause-short g c =
    let most = c.requires.zms.lawful.at_most in
    let from = c.requires.from in
    omega arith

pub copy_padded-requires-clause-can : goal.copy_padded-requires-clause-can
copy_padded-requires-clause-can g c =
    let d : Device = g.F.Flash.device c.args.flash.now in
    let size = size_is d c.args.area.now c.args.from.sector c.requires.from_zms (g.met.F.Flash.is_lawful c.args.flash.now) in
    let from = c.requires.from in
    let long = length-range (sector_bytes d c.args.area.now c.args.from.sector) c.args.from.offset c.args.from.len (omega (arith, size, from)) in
    can_bytes d d c.args.area.now c.args.sector c.args.to (source d c.args.area.now c.args.from) c.requires.zms (g.met.F.Flash.is_lawful c.args.flash.now) (subst (λ (n : ℕ). c.args.to + padded 16 n ≤ sector_size d c.args.area.now) (sym long) c.requires.place.fits) c.requires.place.aligned
    (λ erasing. subst (λ (n : ℕ). is_erased (slice_range (sector_bytes d c.args.area.now c.args.sector) c.args.to (c.args.to + padded 16 n)) ≡ true) (sym long) (c.requires.place.erased erasing))

pub returns-clause-others : goal.returns-clause-others
returns-clause-others g c =
    let d : Device = g.F.Flash.device c.args.flash.now in
    let m : Device = g.F.Flash.device c.copy_padded.new.flash in
    let bytes = source d c.args.area.now c.args.from in
    both_ends c.copy_padded.result
    (on_ok_weaker c.copy_padded.result (bytes_others d m c.args.area.now c.args.sector c.args.to bytes c.requires.zms) c.copy_padded.ensures.ok)
    (on_err_weaker c.copy_padded.result (bytes_lost_others d m c.args.area.now c.args.sector c.args.to bytes c.requires.zms) c.copy_padded.ensures.lost)

pub returns-clause-ok : goal.returns-clause-ok
returns-clause-ok g c =
    let d : Device = g.F.Flash.device c.args.flash.now in
    let m : Device = g.F.Flash.device c.copy_padded.new.flash in
    on_ok_weaker c.copy_padded.result (bytes_ok d m c.args.area.now c.args.sector c.args.to (source d c.args.area.now c.args.from) c.requires.zms) c.copy_padded.ensures.ok

pub returns-clause-ends : goal.returns-clause-ends
returns-clause-ends g c = record {
  lost =
      let d : Device = g.F.Flash.device c.args.flash.now in
      let m : Device = g.F.Flash.device c.copy_padded.new.flash in
      let size = size_is d c.args.area.now c.args.from.sector c.requires.from_zms (g.met.F.Flash.is_lawful c.args.flash.now) in
      let from = c.requires.from in
      let long = length-range (sector_bytes d c.args.area.now c.args.from.sector) c.args.from.offset c.args.from.len (omega (arith, size, from)) in
      on_err_weaker c.copy_padded.result (λ part. subst (λ (n : ℕ). HasPart (sector_bytes d c.args.area.now c.args.sector) (sector_bytes m c.args.area.now c.args.sector) c.args.to (padded 16 n)) long (bytes_lost d m c.args.area.now c.args.sector c.args.to (source d c.args.area.now c.args.from) c.requires.zms part)) c.copy_padded.ensures.lost;
  spends =
      let d : Device = g.F.Flash.device c.args.flash.now in
      let m : Device = g.F.Flash.device c.copy_padded.new.flash in
      let unit = unit_of d c.args.area.now in
      let is = unit_is d c.args.area.now c.args.sector c.requires.zms in
      on_ok_weaker c.copy_padded.result (λ spent. subst (λ (u : ℕ). SpendsBetween d m (padded u c.args.from.len / u) (padded u c.args.from.len / u)) is (between_exact d m (padded unit c.args.from.len / unit) spent)) c.copy_padded.ensures.spent.whole;
  in_pieces = c.copy_padded.ensures.in_pieces;
  spends_lost =
      let d : Device = g.F.Flash.device c.args.flash.now in
      let m : Device = g.F.Flash.device c.copy_padded.new.flash in
      let unit = unit_of d c.args.area.now in
      let is = unit_is d c.args.area.now c.args.sector c.requires.zms in
      on_err_weaker c.copy_padded.result (λ spent. subst (λ (u : ℕ). SpendsBetween d m 0 (padded u c.args.from.len / u)) is (between_most d m (padded unit c.args.from.len / unit) spent)) c.copy_padded.ensures.spent.cut;
}
