use Rattle.std.proofs.Common.{◌≡◌, ◌++◌}
use Rattle.std.specs.List.{All, flat_map}
use Rattle.std.specs.Slice.Iter.{iter_rest}
use Rattle.image_file.specs.Format.{area_text}
use Rattle.image_file.specs.Lawful.{FitsText}
use Rattle.image_file.proofs.writing.put_areas.Given as goal

abbrev pub invariant-loop-area : goal.invariant-loop-area
invariant-loop-area l = record {
  written : l.file.items ++ flat_map area_text (iter_rest l.area-iterator) ≡ l.fn.file.items ++ flat_map area_text l.areas;
  fit : All FitsText (iter_rest l.area-iterator);
}
