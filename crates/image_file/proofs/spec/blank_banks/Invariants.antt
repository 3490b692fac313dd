use Rattle.std.proofs.Common.{◌≡◌, map, take, replicate}
use Rattle.flash_sim.specs.Bank.{capacity}
use Rattle.flash_sim.specs.Contents.{contents}
use Rattle.image_file.proofs.spec.blank_banks.Given as goal

abbrev pub invariant-loop-bank : goal.invariant-loop-bank
invariant-loop-bank l = contents l.copies.items ≡ map (λ bank. replicate (capacity bank) 255) (take l.bank-index l.banks)
