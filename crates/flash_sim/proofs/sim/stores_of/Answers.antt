use Rattle.std.proofs.Common.{ℕ, List, ap, length, map, arith}
use Rattle.std.specs.Global.{Vec}
use Rattle.std.specs.Iterator.Adapters.{zip_first, zip_second}
use Rattle.std.specs.Slice.Iter.{iter_rest}
use Rattle.std.specs.Vec.Iter.{into_iter_items}
use Rattle.flash_sim.specs.declared.flash.Bank.{Bank}
use Rattle.flash_sim.specs.Contents.{contents}
use Rattle.flash_sim.proofs.Contents.{one-more, come-lawful, first-length, rest-lawful}
use Rattle.flash_sim.proofs.sim.stores_of.Goals as goal

pub new-requires-clause-whole : goal.new-requires-clause-whole
new-requires-clause-whole g c =
    let banks = iter_rest (zip_first c.loop-bank.bank-iterator) in
    let rest = iter_rest (zip_first c.next.new.self) in
    let all = into_iter_items (zip_second c.loop-bank.bank-iterator) in
    let left = into_iter_items (zip_second c.next.new.self) in
    let steps = c.in-Some.ensures.steps in
    first-length c.in-Some.bank.now rest c.in-Some.held.items (contents left) (come-lawful banks rest c.in-Some.bank.now all left c.in-Some.held steps.0 steps.1.0 c.loop-bank.invariant.lawful)

pub loop-bank-preserved : goal.loop-bank-preserved
loop-bank-preserved g c =
    let banks = iter_rest (zip_first c.loop-bank.bank-iterator) in
    let rest = iter_rest (zip_first c.next.new.self) in
    let all = into_iter_items (zip_second c.loop-bank.bank-iterator) in
    let left = into_iter_items (zip_second c.next.new.self) in
    let bank : Bank = c.in-Some.bank.now in
    let held : Vec ℕ = c.in-Some.held in
    let steps = c.in-Some.ensures.steps in
    let before = c.loop-bank.invariant in
    let sectors : List Bank → List ℕ = λ l. map (λ (b : Bank). b.sector) l in
    let made = c.loop-bank.all.items in
    let next = c.push.new.self.items in
    let one = c.in_ok-new.field-0 in
    record {
      bytes = one-more g.S.Storage.held (contents c.args.bytes.items) made next one held.items (contents all) (contents left) c.in_ok-push.ensures.items c.in_ok-new.ensures.0 (ap contents steps.1.0) before.bytes;
      sizes = one-more g.S.Storage.sector_size (sectors c.args.banks.now) made next one bank.sector (sectors banks) (sectors rest) c.in_ok-push.ensures.items c.in_ok-new.ensures.1 (ap sectors steps.0) before.sizes;
      lawful = rest-lawful bank rest held.items (contents left) (come-lawful banks rest bank all left held steps.0 steps.1.0 before.lawful);
      count = let more = steps.1.1 in let count = before.count in let same = ap (λ (l : List (Vec ℕ)). length l) steps.1.0 in omega arith;
    }
