use Rattle.std.proofs.Common.{◌≡◌, ◌∙◌, rules, map, true}
use Rattle.std.specs.String.{string_bytes}
use Rattle.std.specs.List.{list_all}
use Rattle.clap.specs.Words.{app_of, kind_of}
use Rattle.command_words.specs.Commands.{is_operand}
use Rattle.command_words.specs.Forms.{image_tool}
use Rattle.command_words.proofs.ToolLemmas.{reads_found, reads_none}
use Rattle.command_words.proofs.reading.read_words.Goals as goal

pub returns-in-Ok : goal.returns-in-Ok
returns-in-Ok c =
    let tool : app_of c.in_ok-image_tool.field-0 ≡ image_tool = c.in_ok-image_tool.ensures in
    let all : list_all is_operand (map string_bytes c.args.words.now) ≡ true = search rules in
    reads_found (app_of c.in_ok-image_tool.field-0) (map string_bytes c.args.words.now) c.in-Ok.matches c.found_command.result tool all c.in-Ok.ensures.matches c.in-Ok.ensures.kinds c.found_command.ensures

pub returns : goal.returns
returns c =
    let tool : app_of c.in_ok-image_tool.field-0 ≡ image_tool = c.in_ok-image_tool.ensures in
    reads_none (app_of c.in_ok-image_tool.field-0) (map string_bytes c.args.words.now) (kind_of c.in-Err.error) tool c.in-Err.ensures.kinds
    (λ memory. c.in_default.not-OutOfMemory (c.kind.ensures ∙ memory))
