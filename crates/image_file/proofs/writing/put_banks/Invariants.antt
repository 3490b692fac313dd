use Rattle.std.proofs.Common.{◌≡◌, ◌++◌, take}
use Rattle.std.specs.List.{flat_map}
use Rattle.image_file.specs.Format.{bank_text}
use Rattle.image_file.proofs.writing.put_banks.Given as goal

abbrev pub invariant-loop-bank : goal.invariant-loop-bank
invariant-loop-bank l = l.file.items ≡ l.fn.file.items ++ flat_map bank_text (take l.bank-index l.banks)
