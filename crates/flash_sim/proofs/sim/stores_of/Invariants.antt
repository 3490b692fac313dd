use Rattle.std.proofs.Common.{◌≡◌, ◌++◌, length, map}
use Rattle.std.specs.Iterator.Adapters.{zip_first, zip_second}
use Rattle.std.specs.Slice.Iter.{iter_rest}
use Rattle.std.specs.Vec.Iter.{into_iter_items, into_iter_len}
use Rattle.flash_sim.specs.Bank.{IsLawful}
use Rattle.flash_sim.specs.Contents.{contents}
use Rattle.flash_sim.proofs.sim.stores_of.Given as goal

abbrev pub invariant-loop-bank : goal.invariant-loop-bank
invariant-loop-bank g l = record {
  bytes : map g.S.Storage.held l.all.items ++ contents (into_iter_items (zip_second l.bank-iterator)) ≡ contents l.fn.bytes.items;
  sizes : map g.S.Storage.sector_size l.all.items ++ map (λ bank. bank.sector) (iter_rest (zip_first l.bank-iterator)) ≡ map (λ bank. bank.sector) l.banks;
  lawful : IsLawful (iter_rest (zip_first l.bank-iterator)) (contents (into_iter_items (zip_second l.bank-iterator)));
  count : into_iter_len (zip_second l.bank-iterator) ≡ length (into_iter_items (zip_second l.bank-iterator));
}
