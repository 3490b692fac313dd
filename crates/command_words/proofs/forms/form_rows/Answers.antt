use Rattle.std.proofs.Common.{refl}
use Rattle.command_words.proofs.forms.form_rows.Goals as goal

pub returns : goal.returns
returns c = refl
