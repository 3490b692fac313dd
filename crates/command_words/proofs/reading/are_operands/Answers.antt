use Rattle.std.proofs.Common.{◌∙◌, rules, sym, tests}
use Rattle.std.specs.String.{string_bytes}
use Rattle.std.proofs.lemmas.Iterator.{YieldsList-from_slice}
use Rattle.std.proofs.lemmas.Iterator.Search.{all_from_yields_List}
use Rattle.std.proofs.lemmas.List.Folds.{list_all-map}
use Rattle.command_words.specs.Commands.{is_operand}
use Rattle.command_words.proofs.reading.are_operands.Goals as goal

pub returns : goal.returns
returns c =
    all_from_yields_List (λ s. is_operand (string_bytes s)) _ _ c.all.result c.all.ensures.ran (YieldsList-from_slice c.args.words.now cc) (λ x b q k. search (rules, tests))
    ∙ sym (list_all-map is_operand string_bytes c.args.words.now)
