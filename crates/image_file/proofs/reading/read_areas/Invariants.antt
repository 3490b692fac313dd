use Rattle.std.proofs.Common.{◌≡◌, ℕ, ◌<◌, ◌≤◌, length, map}
use Rattle.image_file.specs.Format.{plain_area}
use Rattle.image_file.specs.Said.{areas_said, area_place}
use Rattle.image_file.specs.Table.{Holds, AreaAt}
use Rattle.image_file.proofs.reading.read_areas.Given as goal

abbrev pub invariant-loop-i : goal.invariant-loop-i
invariant-loop-i l = record {
  said : map plain_area l.areas ≡ areas_said l.bytes l.i;
  holds : (k : ℕ) → k < l.i → Holds l.bytes (AreaAt k);
  there : area_place l.bytes l.i ≤ length l.bytes;
}
