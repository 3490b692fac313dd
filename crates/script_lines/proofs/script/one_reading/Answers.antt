use Rattle.script_lines.proofs.ScriptLaws as laws
use Rattle.script_lines.proofs.script.one_reading.Goals as goal

pub returns-clause-line : goal.returns-clause-line
returns-clause-line c = laws.one_line

pub returns-clause-cause : goal.returns-clause-cause
returns-clause-cause c = laws.one_cause

pub returns-clause-script : goal.returns-clause-script
returns-clause-script c = laws.one_script

pub returns-clause-refusal : goal.returns-clause-refusal
returns-clause-refusal c = laws.one_refusal

pub returns-clause-meaning : goal.returns-clause-meaning
returns-clause-meaning c = laws.one_meaning
