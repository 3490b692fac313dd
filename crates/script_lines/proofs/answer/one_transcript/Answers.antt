use Rattle.script_lines.proofs.Transcripts as laws
use Rattle.script_lines.proofs.answer.one_transcript.Goals as goal

pub returns-clause-lines : goal.returns-clause-lines
returns-clause-lines c = laws.one_list_of_lines

pub returns-clause-answers : goal.returns-clause-answers
returns-clause-answers c = laws.one_transcript
