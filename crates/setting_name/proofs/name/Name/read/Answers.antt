use Rattle.std.proofs.Common.{rules}
use Rattle.setting_name.specs.NameFault.{Reads}
use Rattle.setting_name.proofs.Faults.{names_by_reads}
use Rattle.setting_name.proofs.name.Name.read.Goals as goal

pub returns-clause-names : goal.returns-clause-names
returns-clause-names c =
    let reads : Reads c.args.bytes.now c.from_text.result = search rules in
    names_by_reads c.args.bytes.now c.from_text.result reads
