use Rattle.std.proofs.Common.{◌≡◌, ℕ, ◌<◌, ◌≤◌, length}
use Rattle.flash_sim.specs.Contents.{contents}
use Rattle.image_file.specs.Said.{contents_said, contents_place}
use Rattle.image_file.specs.Table.{Holds, ContentsAt}
use Rattle.image_file.proofs.reading.read_contents.Given as goal

abbrev pub invariant-loop-bank : goal.invariant-loop-bank
invariant-loop-bank l = record {
  said : contents l.copies.items ≡ contents_said l.bytes l.bank-index;
  holds : (k : ℕ) → k < l.bank-index → Holds l.bytes (ContentsAt k);
  place : l.at ≡ contents_place l.bytes l.bank-index;
  there : l.at ≤ length l.bytes;
}
