use Rattle.std.proofs.Common.{◌≡◌, ℕ, ◌+◌, ◌/◌, true, length, sym, subst, ◌∙◌, arith}
use Rattle.std.proofs.lemmas.Result.{on_ok_weaker, on_err_weaker}
use Rattle.flash_map.specs.Area.{sector_bytes}
use Rattle.flash_map.specs.Spending.{SpendsBetween}
use Rattle.flash_map.specs.Units.{is_erased}
use Rattle.std.specs.Prelude.{slice_range}
use Rattle.zms_cycle.specs.Changes.{HasPart}
use Rattle.zms_cycle.proofs.EntryCalls.{long_len, long_value, short_spends, short_value}
use Rattle.zms_cycle.proofs.appending.put_value.Goals as goal

pub returns-then-bytes-clause-ok : goal.returns-then-bytes-clause-ok
returns-then-bytes-clause-ok g c = short_value (sector_bytes (g.F.Flash.device c.args.flash.now) c.args.area.now c.args.sector) c.args.at c.args.bytes.now (omega arith)

pub returns-then-bytes-clause-ends : goal.returns-then-bytes-clause-ends
returns-then-bytes-clause-ends g c = record {
  lost = tt;
  spends = short_spends (g.F.Flash.device c.args.flash.now) (length c.args.bytes.now) (omega arith);
  in_pieces = tt;
  spends_lost = tt;
}

pub put_bytes-requires-clause-place : goal.put_bytes-requires-clause-place
put_bytes-requires-clause-place g c = record {
  fits = let fits = c.requires.place.fits in let len = long_len (length c.args.bytes.now) (omega arith) in omega arith;
  aligned = c.requires.place.aligned;
  erased = λ erasing.
      let len = long_len (length c.args.bytes.now) (omega arith) in
      subst (λ (n : ℕ). is_erased (slice_range (sector_bytes (g.F.Flash.device c.args.flash.now) c.args.area.now c.args.sector) c.args.at (c.args.at + n)) ≡ true) len (c.requires.place.erased erasing);
}

pub returns-clause-ok : goal.returns-clause-ok
returns-clause-ok g c = on_ok_weaker c.put_bytes.result (λ is. is ∙ long_value (sector_bytes (g.F.Flash.device c.args.flash.now) c.args.area.now c.args.sector) c.args.at c.args.bytes.now (omega arith)) c.put_bytes.ensures.ok

pub returns-clause-ends : goal.returns-clause-ends
returns-clause-ends g c = record {
  lost = on_err_weaker c.put_bytes.result (λ part. subst (λ (n : ℕ). HasPart (sector_bytes (g.F.Flash.device c.args.flash.now) c.args.area.now c.args.sector) (sector_bytes (g.F.Flash.device c.put_bytes.new.flash) c.args.area.now c.args.sector) c.args.at n) (sym (long_len (length c.args.bytes.now) (omega arith))) part) c.put_bytes.ensures.ends.lost;
  spends = on_ok_weaker c.put_bytes.result (λ spends. subst (λ (n : ℕ). SpendsBetween (g.F.Flash.device c.args.flash.now) (g.F.Flash.device c.put_bytes.new.flash) (n / 16) (n / 16)) (sym (long_len (length c.args.bytes.now) (omega arith))) spends) c.put_bytes.ensures.ends.spends;
  in_pieces = c.put_bytes.ensures.ends.in_pieces;
  spends_lost = on_err_weaker c.put_bytes.result (λ spends. subst (λ (n : ℕ). SpendsBetween (g.F.Flash.device c.args.flash.now) (g.F.Flash.device c.put_bytes.new.flash) 0 (n / 16)) (sym (long_len (length c.args.bytes.now) (omega arith))) spends) c.put_bytes.ensures.ends.spends_lost;
}
