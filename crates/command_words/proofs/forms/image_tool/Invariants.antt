use Rattle.std.proofs.Common.{◌≡◌, take}
use Rattle.clap.specs.Words.{app_of}
use Rattle.command_words.specs.Forms.{image_tool}
use Rattle.command_words.proofs.FormTable.{reported}
use Rattle.command_words.proofs.forms.image_tool.Given as goal

abbrev pub invariant-loop-name : goal.invariant-loop-name
invariant-loop-name l = (reported l.name-items ≡ image_tool) × (app_of l.tool ≡ reported (take l.name-index l.name-items))
