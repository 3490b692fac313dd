use Rattle.std.proofs.Common.{◌≡◌, ◌/◌, ◌%◌, ◌++◌, codes, true, false, sym, ◌∙◌, subst, arith}
use Rattle.std.specs.Fmt.{decimal}
use Rattle.setting_name.specs.Name.{IsName}
use Rattle.script_lines.proofs.GeneratorLemmas.{key_is_name}
use Rattle.script_lines.proofs.generator.name_by.Goals as goal

pub unreachable-requires : goal.unreachable-requires
unreachable-requires c =
    let text : c.as_bytes.result.now ≡ codes "app/k" ++ decimal (c.args.s / 256 % 40) = c.as_bytes.ensures.value ∙ c.in_ok-text.ensures.ok in
    let no : false ≡ true = c.in-Err.ensures.names.1 (subst IsName (sym text) (key_is_name (c.args.s / 256 % 40) (omega arith))) in
    cc
