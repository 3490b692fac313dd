use Rattle.script_lines.proofs.EachRead as laws
use Rattle.script_lines.proofs.script.each_is_read.Goals as goal

pub returns-clause-read : goal.returns-clause-read
returns-clause-read c = laws.each_is_read

pub returns-clause-settings : goal.returns-clause-settings
returns-clause-settings c = laws.settings_fit
