use Rattle.std.proofs.Common.{◌≡◌, ℕ, ◌+◌, length}
use Rattle.text_parts.specs.Parts.{parts, parts_of}
use Rattle.image_file.specs.Spec.{Listed, listed, nothing_listed, AddsAll, FirstBad}
use Rattle.image_file.specs.Items.{IsListed}
use Rattle.image_file.proofs.SpecLemmas.{left}
use Rattle.image_file.proofs.spec.read_items.Given as goal

abbrev pub invariant-loop-rest : goal.invariant-loop-rest
invariant-loop-rest l = record {
  found : (end : Listed) → AddsAll (listed l.version l.banks.items l.areas) (parts_of 44 l.rest) end → AddsAll nothing_listed (parts 44 l.word) end;
  refused : (k : ℕ) → FirstBad (listed l.version l.banks.items l.areas) (parts_of 44 l.rest) k → FirstBad nothing_listed (parts 44 l.word) (l.count + k);
  lawful : IsListed (listed l.version l.banks.items l.areas);
  count : l.count + 1 ≡ length l.banks.items + length l.areas + l.version;
}

abbrev pub decreases-loop-rest : goal.decreases-loop-rest
decreases-loop-rest l = left l.rest
