use Rattle.std.proofs.Common.{◌≡◌, false, map, take}
use Rattle.clap.specs.Words.{shape_of}
use Rattle.clap.specs.declared.builder.command.Command.TheViews.{out-Command as fields_of}
use Rattle.command_words.specs.Forms.{form}
use Rattle.command_words.proofs.forms.form.Given as goal

abbrev pub invariant-loop-operand : goal.invariant-loop-operand
invariant-loop-operand l =
    (shape_of l.command ≡ form l.name (map (λ s. s.now) (take l.operand-index l.operands))) × ((fields_of l.command).has_globals ≡ false)
