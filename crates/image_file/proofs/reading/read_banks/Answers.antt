use Rattle.std.proofs.Common.{◌≡◌, List, ◌∷◌, [], ◌++◌, sym, ap, ◌∙◌, arith, below_more}
use Rattle.std.specs.Global.{Vec}
use Rattle.flash_sim.specs.declared.flash.Bank.{Bank}
use Rattle.image_file.specs.Said.{banks_said}
use Rattle.image_file.specs.Table.{BankAt, AllHold, FirstFault, Departs, rows_of}
use Rattle.image_file.proofs.ReadingLemmas.{exit, banks_more}
use Rattle.image_file.proofs.RowLemmas.{first_row, all_rows}
use Rattle.image_file.proofs.reading.read_banks.Goals as goal

pub returns-in_err-bank : goal.returns-in_err-bank
returns-in_err-bank c =
    exit (λ (banks : Vec Bank). (banks.items ≡ banks_said c.args.bytes.now c.args.count) × AllHold c.args.bytes.now (rows_of BankAt c.args.count))
    (Departs c.args.bytes.now (BankAt c.loop-i.i)) (FirstFault c.args.bytes.now (rows_of BankAt c.args.count))
    c.from_residual.result c.in_err-bank.field-0.0 c.from_residual.ensures.1
    (λ at why departs. first_row c.args.bytes.now BankAt c.args.count c.loop-i.i at why (omega arith) c.loop-i.invariant.holds departs) c.in_err-bank.ensures

pub loop-i-preserved : goal.loop-i-preserved
loop-i-preserved c =
    let here = c.in_ok-bank.ensures in
    record {
      said = c.in_ok-push.ensures.items ∙ ap (λ (l : List Bank). l ++ c.in_ok-bank.bank ∷ []) c.loop-i.invariant.said ∙ ap (λ (b : Bank). banks_said c.args.bytes.now c.loop-i.i ++ b ∷ []) here.0 ∙ sym (banks_more c.args.bytes.now c.loop-i.i);
      holds = below_more _ _ c.loop-i.invariant.holds here.1;
      there = omega (arith, here.1.whole);
    }

pub returns : goal.returns
returns c =
    let end : c.loop-i.i ≡ c.args.count = omega arith in
    (c.loop-i.invariant.said ∙ ap (banks_said c.args.bytes.now) end, all_rows c.args.bytes.now BankAt c.args.count (λ k below. c.loop-i.invariant.holds k (omega arith)))
