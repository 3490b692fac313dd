use Rattle.std.proofs.Common.{◌/◌, length}
use Rattle.flash_map.specs.Area.{unit_of}
use Rattle.flash_map.specs.Units.{padded}
use Rattle.flash_map.proofs.SpendingBounds.{between_exact, between_most}
use Rattle.std.proofs.lemmas.Result.{on_ok_weaker, on_err_weaker}
use Rattle.zms_cycle.proofs.UnitCalls.{both_ends}
use Rattle.zms_cycle.proofs.EntryCalls.{can_bytes, bytes_ok, bytes_others, bytes_lost, bytes_lost_others, bytes_spend, bytes_spend_lost}
use Rattle.zms_cycle.proofs.appending.put_bytes.Goals as goal

pub program_padded-requires-clause-can : goal.program_padded-requires-clause-can
program_padded-requires-clause-can g c = can_bytes (g.F.Flash.device c.args.flash.now) (g.F.Flash.device c.args.flash.now) c.args.area.now c.args.sector c.args.at c.args.bytes.now c.requires.zms (g.met.F.Flash.is_lawful c.args.flash.now) c.requires.place.fits c.requires.place.aligned c.requires.place.erased

pub returns-clause-ok : goal.returns-clause-ok
returns-clause-ok g c = on_ok_weaker c.program_padded.result (bytes_ok (g.F.Flash.device c.args.flash.now) (g.F.Flash.device c.program_padded.new.flash) c.args.area.now c.args.sector c.args.at c.args.bytes.now c.requires.zms) c.program_padded.ensures.ok

pub returns-clause-ends : goal.returns-clause-ends
returns-clause-ends g c = record {
  lost = on_err_weaker c.program_padded.result (bytes_lost (g.F.Flash.device c.args.flash.now) (g.F.Flash.device c.program_padded.new.flash) c.args.area.now c.args.sector c.args.at c.args.bytes.now c.requires.zms) c.program_padded.ensures.lost;
  spends = on_ok_weaker c.program_padded.result (λ spent. bytes_spend (g.F.Flash.device c.args.flash.now) (g.F.Flash.device c.program_padded.new.flash) c.args.area.now c.args.sector c.args.at c.args.bytes.now c.requires.zms (between_exact (g.F.Flash.device c.args.flash.now) (g.F.Flash.device c.program_padded.new.flash) (padded (unit_of (g.F.Flash.device c.args.flash.now) c.args.area.now) (length c.args.bytes.now) / unit_of (g.F.Flash.device c.args.flash.now) c.args.area.now) spent)) c.program_padded.ensures.spent;
  in_pieces = c.program_padded.ensures.in_pieces;
  spends_lost = on_err_weaker c.program_padded.result (λ spent. bytes_spend_lost (g.F.Flash.device c.args.flash.now) (g.F.Flash.device c.program_padded.new.flash) c.args.area.now c.args.sector c.args.at c.args.bytes.now c.requires.zms (between_most (g.F.Flash.device c.args.flash.now) (g.F.Flash.device c.program_padded.new.flash) (padded (unit_of (g.F.Flash.device c.args.flash.now) c.args.area.now) (length c.args.bytes.now) / unit_of (g.F.Flash.device c.args.flash.now) c.args.area.now) spent)) c.program_padded.ensures.spent_at_most;
}

pub returns-clause-others : goal.returns-clause-others
returns-clause-others g c =
    both_ends c.program_padded.result (on_ok_weaker c.program_padded.result (bytes_others (g.F.Flash.device c.args.flash.now) (g.F.Flash.device c.program_padded.new.flash) c.args.area.now c.args.sector c.args.at c.args.bytes.now c.requires.zms) c.program_padded.ensures.ok)
    (on_err_weaker c.program_padded.result (bytes_lost_others (g.F.Flash.device c.args.flash.now) (g.F.Flash.device c.program_padded.new.flash) c.args.area.now c.args.sector c.args.at c.args.bytes.now c.requires.zms) c.program_padded.ensures.lost)
