use Rattle.std.proofs.Common.{◌≡◌, ℕ, ◌/◌, true, sym, subst, ◌∙◌, arith, length, ap}
use Rattle.std.proofs.lemmas.Result.{on_ok_weaker, on_err_weaker}
use Rattle.std.specs.Prelude.{◌+◌, slice_range}
use Rattle.flash_sim.specs.Device.{overwritten}
use Rattle.flash_map.specs.Units.{padded_bytes, is_erased}
use Rattle.flash_map.specs.Area.{sector_bytes}
use Rattle.flash_map.specs.Copies.{pieces_of, TakesViews}
use Rattle.flash_map.specs.Spending.{SpendsBetween}
use Rattle.zms_cycle.specs.Changes.{HasPart}
use Rattle.zms_cycle.specs.Entries.{offset_of}
use Rattle.zms_cycle.specs.Sector.{value_of, data_len}
use Rattle.zms_cycle.proofs.AreaFacts.{size_is}
use Rattle.zms_cycle.proofs.EntryCalls.{long_len, short_spends, short_value}
use Rattle.zms_cycle.proofs.CopyCalls.{long_value_is, range_fits, with_copy}
use Rattle.zms_cycle.proofs.StepBounds.{short_pieces, long_pieces}
use Rattle.zms_cycle.proofs.copying.copy_value.Goals as goal

pub returns-then-from-le-TAIL-clause-ok : goal.returns-then-from-le-TAIL-clause-ok
returns-then-from-le-TAIL-clause-ok g c = let len = c.requires.len in short_value (sector_bytes (g.F.Flash.device c.args.flash.now) c.args.area.now c.args.sector) c.args.to (value_of (sector_bytes (g.F.Flash.device c.args.flash.now) c.args.area.now c.args.from_sector) c.args.from.now) (omega arith)

pub returns-then-from-le-TAIL-clause-ends : goal.returns-then-from-le-TAIL-clause-ends
returns-then-from-le-TAIL-clause-ends g c = record {
  lost = tt;
  spends = short_spends (g.F.Flash.device c.args.flash.now) c.args.from.now.len (omega arith);
  in_pieces = tt;
  spends_lost = tt;
}

pub copy_bytes-requires-clause-from : goal.copy_bytes-requires-clause-from
copy_bytes-requires-clause-from g c =
    let size = size_is (g.F.Flash.device c.args.flash.now) c.args.area.now c.args.from_sector c.requires.from_zms (g.met.F.Flash.is_lawful c.args.flash.now) in
    let at = c.offset_of.ensures in
    let fits = range_fits (sector_bytes (g.F.Flash.device c.args.flash.now) c.args.area.now c.args.from_sector) (offset_of c.args.from.now) c.args.from.now.len (omega arith) (ap length (sym (long_value_is (sector_bytes (g.F.Flash.device c.args.flash.now) c.args.area.now c.args.from_sector) c.args.from.now (omega arith))) ∙ c.requires.len) in
    omega (arith, size, at, fits)

pub copy_bytes-requires-clause-place : goal.copy_bytes-requires-clause-place
copy_bytes-requires-clause-place g c = record {
  fits = let fits = c.requires.place.fits in let len = long_len c.args.from.now.len (omega arith) in omega arith;
  aligned = c.requires.place.aligned;
  erased = λ erasing.
      let len = long_len c.args.from.now.len (omega arith) in
      subst (λ (n : ℕ). is_erased (slice_range (sector_bytes (g.F.Flash.device c.args.flash.now) c.args.area.now c.args.sector) c.args.to (c.args.to + n)) ≡ true) len (c.requires.place.erased erasing);
}

pub returns-clause-ok : goal.returns-clause-ok
returns-clause-ok g c =
    on_ok_weaker c.copy_bytes.result (λ is. is ∙ ap (λ (n : ℕ). overwritten (sector_bytes (g.F.Flash.device c.args.flash.now) c.args.area.now c.args.sector) c.args.to (padded_bytes 16 (slice_range (sector_bytes (g.F.Flash.device c.args.flash.now) c.args.area.now c.args.from_sector) n (n + c.args.from.now.len)))) c.offset_of.ensures ∙ with_copy (sector_bytes (g.F.Flash.device c.args.flash.now) c.args.area.now c.args.sector) (sector_bytes (g.F.Flash.device c.args.flash.now) c.args.area.now c.args.from_sector) c.args.from.now c.args.to (omega arith) c.requires.len) c.copy_bytes.ensures.ok

pub returns-clause-ends : goal.returns-clause-ends
returns-clause-ends g c = record {
  lost = on_err_weaker c.copy_bytes.result (λ part. subst (λ (n : ℕ). HasPart (sector_bytes (g.F.Flash.device c.args.flash.now) c.args.area.now c.args.sector) (sector_bytes (g.F.Flash.device c.copy_bytes.new.flash) c.args.area.now c.args.sector) c.args.to n) (sym (long_len c.args.from.now.len (omega arith))) part) c.copy_bytes.ensures.ends.lost;
  spends = on_ok_weaker c.copy_bytes.result (λ spends. subst (λ (n : ℕ). SpendsBetween (g.F.Flash.device c.args.flash.now) (g.F.Flash.device c.copy_bytes.new.flash) (n / 16) (n / 16)) (sym (long_len c.args.from.now.len (omega arith))) spends) c.copy_bytes.ensures.ends.spends;
  in_pieces = c.copy_bytes.ensures.ends.in_pieces;
  spends_lost = on_err_weaker c.copy_bytes.result (λ spends. subst (λ (n : ℕ). SpendsBetween (g.F.Flash.device c.args.flash.now) (g.F.Flash.device c.copy_bytes.new.flash) 0 (n / 16)) (sym (long_len c.args.from.now.len (omega arith))) spends) c.copy_bytes.ensures.ends.spends_lost;
}

pub returns-then-from-le-TAIL-clause-views : goal.returns-then-from-le-TAIL-clause-views
returns-then-from-le-TAIL-clause-views g c =
    let none = short_pieces c.args.from.now.len (omega arith) in
    let idle : c.args.steps.now ≡ c.args.steps.now + pieces_of (data_len c.args.from.now.len) = omega (arith, none) in
    record { whole = idle; cut = tt }

pub returns-clause-views : goal.returns-clause-views
returns-clause-views g c =
    subst (λ (n : ℕ). TakesViews n c.args.steps.now c.copy_bytes.new.steps c.copy_bytes.result) (sym (long_pieces c.args.from.now.len (omega arith))) c.copy_bytes.ensures.views
