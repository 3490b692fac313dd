-- The line that a refusal prints.
use Rattle.std.specs.Prelude.{ℕ, List, ◌++◌, codes}
use Rattle.std.specs.Fmt.{decimal}
use Rattle.flash_map.specs.declared.faults.Why.{Why}
use Rattle.flash_map.specs.declared.faults.Why.TheVariants as why
use Rattle.script_lines.specs.declared.why.LineWhy.{LineWhy}
use Rattle.script_lines.specs.declared.why.LineWhy.TheVariants as line_why
use Rattle.image_file.specs.declared.image.ImageWhy.{ImageWhy}
use Rattle.image_file.specs.declared.image.ImageWhy.TheVariants as image_why
use Rattle.image_jobs.specs.declared.stops.Refusal.{Refusal}
use Rattle.image_jobs.specs.declared.stops.Refusal.TheVariants.{BadSpec, NoFile, BadFile, NoLog, NoItems, NoMirror, BadArea, Unfit, BadScript}

abbrev pub file_why : ImageWhy → List ℕ
file_why image_why.BadMagic = codes "BadMagic"
file_why image_why.BadVersion = codes "BadVersion"
file_why image_why.BadBank = codes "BadBank"
file_why image_why.BadArea = codes "BadArea"
file_why image_why.Short = codes "Short"
file_why image_why.Long = codes "Long"

abbrev pub area_why : Why → List ℕ
area_why why.AllClosed = codes "AllClosed"
area_why why.TwoOpen = codes "TwoOpen"
area_why why.Dirty = codes "Dirty"
area_why why.NoFence = codes "NoFence"
area_why why.Overfull = codes "Overfull"
area_why why.BadHeader = codes "BadHeader"
area_why why.BadSequence = codes "BadSequence"

abbrev pub script_why : LineWhy → List ℕ
script_why line_why.Unknown = codes "Unknown"
script_why line_why.Words = codes "Words"
script_why line_why.Name = codes "Name"
script_why line_why.Kind = codes "Kind"
script_why line_why.Hex = codes "Hex"
script_why line_why.Long = codes "Long"
script_why line_why.Number = codes "Number"

abbrev pub usage_line : List ℕ
usage_line =
    codes "usage: image_tool build OUT SPEC | run IMAGE SCRIPT OUT | dump IMAGE | migrate IMAGE OUT"
    ++ codes " | gen OUT BACKEND N | log IMAGE SCRIPT OUT | items IMAGE SCRIPT OUT"
    ++ codes " | mirror IMAGE SCRIPT OUT\n"

abbrev pub line_of : Refusal → List ℕ
line_of BadSpec = usage_line
line_of (NoFile word) = codes "no file: " ++ word.now ++ codes "\n"
line_of (BadFile at reason) =
    codes "bad image: at " ++ decimal at ++ codes ": " ++ file_why reason ++ codes "\n"
line_of NoLog = codes "bad image: no log\n"
line_of NoItems = codes "bad image: no items\n"
line_of NoMirror = codes "bad image: no mirror\n"
line_of (BadArea label damage) =
    codes "bad image: area " ++ label.bytes ++ codes " sector " ++ decimal damage.sector ++ codes ": "
    ++ area_why damage.why ++ codes "\n"
line_of (Unfit label) = codes "bad image: area " ++ label.bytes ++ codes ": Unfit\n"
line_of (BadScript n reason) =
    codes "bad script: line " ++ decimal n ++ codes ": " ++ script_why reason ++ codes "\n"
