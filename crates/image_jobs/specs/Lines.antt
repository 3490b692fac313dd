-- Lines that were read with the limit of an image's values.
use Rattle.std.specs.Prelude.{ℕ, List, map}
use Rattle.std.specs.List.{All}
use Rattle.script_lines.specs.Line.{row_of, settings_forms}
use Rattle.script_lines.specs.Script.{IsScript}
use Rattle.script_lines.specs.declared.line.Line.{Line}
use Rattle.session.specs.OnMap.{IsServed}

-- the lines of a text have values within the limit
abbrev pub LinesAreServed : Type 0
LinesAreServed =
    (limit : ℕ) (text : List ℕ) (lines : List Line) → IsScript settings_forms limit text (map row_of lines)
    → All (IsServed limit) lines
