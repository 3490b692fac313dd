-- The generated script.
use Rattle.std.specs.Prelude.{ℕ, zero, suc, ◌+◌, ◌*◌, ◌/◌, ◌%◌, ◌^◌, ◌==◌, if◌then◌else◌, List, ◌++◌, map, codes}
use Rattle.std.specs.List.{range_with_len}
use Rattle.std.specs.Fmt.{decimal}
use Rattle.script_lines.specs.declared.line.Line.{Line}
use Rattle.script_lines.specs.declared.line.Line.TheVariants.{Set, Get, Del}

abbrev pub next_state : ℕ → ℕ
next_state s = (s * 1664525 + 1013904223) % 2 ^ 32

-- the state of the generator after `steps` steps
abbrev pub state_after : ℕ → ℕ → ℕ
state_after seed zero = seed
state_after seed (suc steps) = next_state (state_after seed steps)

-- the bytes i + j modulo 256, for each j below the count
abbrev pub bytes_of : ℕ → ℕ → List ℕ
bytes_of i count = map (λ j. (i + j) % 256) (range_with_len 0 count)

abbrev pub name_of : ℕ → List ℕ
name_of s = codes "app/k" ++ decimal (s / 2 ^ 8 % 40)

-- the i-th line, by the state after i steps
abbrev pub line_by : ℕ → ℕ → Line
line_by i s =
    if s / 2 ^ 24 % 8 == 0 then Del (name_of s)
    else if s / 2 ^ 24 % 8 == 1 then Get (name_of s)
    else Set (name_of s) (bytes_of i (1 + s / 2 ^ 16 % 32))

-- the first `count` lines of the generator that starts at `seed`, counted from 1
abbrev pub first_lines : ℕ → ℕ → List Line
first_lines seed count = map (λ i. line_by i (state_after seed i)) (range_with_len 1 count)

abbrev pub generated : ℕ → List Line
generated n = first_lines n n
