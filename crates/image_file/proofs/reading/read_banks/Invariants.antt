use Rattle.std.proofs.Common.{◌≡◌, ℕ, ◌<◌, ◌≤◌, length}
use Rattle.image_file.specs.Said.{banks_said, bank_place}
use Rattle.image_file.specs.Table.{Holds, BankAt}
use Rattle.image_file.proofs.reading.read_banks.Given as goal

abbrev pub invariant-loop-i : goal.invariant-loop-i
invariant-loop-i l = record {
  said : l.banks.items ≡ banks_said l.bytes l.i;
  holds : (k : ℕ) → k < l.i → Holds l.bytes (BankAt k);
  there : bank_place l.i ≤ length l.bytes;
}
