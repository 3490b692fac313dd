use Rattle.command_words.proofs.CommandLemmas.{one_script}
use Rattle.command_words.proofs.reading.one_command.Goals as goal

pub returns : goal.returns
returns c = record {
  words = λ words a b wa wb. (cc (wa.written, wb.written), cc (wa.written, wb.written));
  numbers = one_script;
}
