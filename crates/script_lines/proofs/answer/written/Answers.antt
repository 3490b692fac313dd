-- For each answer, the text that its function made.
use Rattle.std.proofs.Common.{ℕ, List, [], ◌∷◌, codes, sym, ap, ◌∙◌}
use Rattle.std.specs.Fmt.{decimal}
use Rattle.script_lines.specs.declared.answer.Answer.TheVariants.{Value, Lost, Loaded, Direct, Saved, Names}
use Rattle.script_lines.specs.Answer.{lines_text, one, text_of}
use Rattle.script_lines.proofs.TextLemmas.{bytes_made, same_text}
use Rattle.script_lines.proofs.answer.written.Goals as goal

pub returns-in-Done : goal.returns-in-Done
returns-in-Done c = bytes_made c.number_text.result c.bytes_of.result (lines_text (one (codes "ok" ∷ decimal c.in-Done.units ∷ []))) (text_of c.args.answer.now) c.bytes_of.ensures c.number_text.ensures (sym (ap text_of c.in-Done.is))

pub returns-in-Value : goal.returns-in-Value
returns-in-Value c = bytes_made c.value_text.result c.bytes_of-in-Value.result (text_of (Value c.as_slice.result.now)) (text_of c.args.answer.now) c.bytes_of-in-Value.ensures c.value_text.ensures (ap (λ (value : List ℕ). text_of (Value value)) c.as_slice.ensures ∙ sym (ap text_of c.in-Value.is))

pub returns-in-Absent : goal.returns-in-Absent
returns-in-Absent c = same_text c.from_slice.result (lines_text (one (codes "none" ∷ []))) (text_of c.args.answer.now) c.from_slice.ensures.items (sym (ap text_of c.in-Absent.is))

pub returns-in-Lost : goal.returns-in-Lost
returns-in-Lost c = bytes_made c.lost_text.result c.bytes_of-in-Lost.result (text_of (Lost c.in-Lost.units c.in-Lost.chance)) (text_of c.args.answer.now) c.bytes_of-in-Lost.ensures c.lost_text.ensures (sym (ap text_of c.in-Lost.is))

pub returns-in-Off : goal.returns-in-Off
returns-in-Off c = same_text c.from_slice-in-Off.result (lines_text (one (codes "off" ∷ []))) (text_of c.args.answer.now) c.from_slice-in-Off.ensures.items (sym (ap text_of c.in-Off.is))

pub returns-in-NoSpace : goal.returns-in-NoSpace
returns-in-NoSpace c = bytes_made c.number_text-in-NoSpace.result c.bytes_of-in-NoSpace.result (lines_text (one (codes "nospace" ∷ decimal c.in-NoSpace.units ∷ []))) (text_of c.args.answer.now) c.bytes_of-in-NoSpace.ensures c.number_text-in-NoSpace.ensures (sym (ap text_of c.in-NoSpace.is))

pub returns-in-TooMany : goal.returns-in-TooMany
returns-in-TooMany c = bytes_made c.number_text-in-TooMany.result c.bytes_of-in-TooMany.result (lines_text (one (codes "toomany" ∷ decimal c.in-TooMany.units ∷ []))) (text_of c.args.answer.now) c.bytes_of-in-TooMany.ensures c.number_text-in-TooMany.ensures (sym (ap text_of c.in-TooMany.is))

pub returns-in-Exists : goal.returns-in-Exists
returns-in-Exists c = same_text c.from_slice-in-Exists.result (lines_text (one (codes "exists" ∷ []))) (text_of c.args.answer.now) c.from_slice-in-Exists.ensures.items (sym (ap text_of c.in-Exists.is))

pub returns-in-NoKind : goal.returns-in-NoKind
returns-in-NoKind c = same_text c.from_slice-in-NoKind.result (lines_text (one (codes "nokind" ∷ []))) (text_of c.args.answer.now) c.from_slice-in-NoKind.ensures.items (sym (ap text_of c.in-NoKind.is))

pub returns-in-NoTarget : goal.returns-in-NoTarget
returns-in-NoTarget c = same_text c.from_slice-in-NoTarget.result (lines_text (one (codes "notarget" ∷ []))) (text_of c.args.answer.now) c.from_slice-in-NoTarget.ensures.items (sym (ap text_of c.in-NoTarget.is))

pub returns-in-Rejected : goal.returns-in-Rejected
returns-in-Rejected c = same_text c.from_slice-in-Rejected.result (lines_text (one (codes "rejected" ∷ []))) (text_of c.args.answer.now) c.from_slice-in-Rejected.ensures.items (sym (ap text_of c.in-Rejected.is))

pub returns-in-NoHandler : goal.returns-in-NoHandler
returns-in-NoHandler c = same_text c.from_slice-in-NoHandler.result (lines_text (one (codes "nohandler" ∷ []))) (text_of c.args.answer.now) c.from_slice-in-NoHandler.ensures.items (sym (ap text_of c.in-NoHandler.is))

pub returns-in-Loaded : goal.returns-in-Loaded
returns-in-Loaded c = same_text c.loaded_text.result (text_of (Loaded c.as_slice-in-Loaded.result.now c.in-Loaded.taken c.in-Loaded.rejected c.in-Loaded.passed)) (text_of c.args.answer.now) c.loaded_text.ensures (ap (λ gives. text_of (Loaded gives c.in-Loaded.taken c.in-Loaded.rejected c.in-Loaded.passed)) c.as_slice-in-Loaded.ensures ∙ sym (ap text_of c.in-Loaded.is))

pub returns-in-Direct : goal.returns-in-Direct
returns-in-Direct c = same_text c.direct_text.result (text_of (Direct c.as_slice-in-Direct.result.now)) (text_of c.args.answer.now) c.direct_text.ensures (ap (λ pairs. text_of (Direct pairs)) c.as_slice-in-Direct.ensures ∙ sym (ap text_of c.in-Direct.is))

pub returns-in-Saved : goal.returns-in-Saved
returns-in-Saved c = bytes_made c.saved_text.result c.bytes_of-in-Saved.result (text_of (Saved c.in-Saved.pairs c.in-Saved.units c.in-Saved.end)) (text_of c.args.answer.now) c.bytes_of-in-Saved.ensures c.saved_text.ensures (sym (ap text_of c.in-Saved.is))

pub returns-in-Names : goal.returns-in-Names
returns-in-Names c = same_text c.names_line.result (text_of (Names c.as_slice-in-Names.result.now c.as_slice-in-Names-2.result.now)) (text_of c.args.answer.now) c.names_line.ensures (ap (λ (active : List ℕ). text_of (Names active c.as_slice-in-Names-2.result.now)) c.as_slice-in-Names.ensures ∙ ap (λ pairs. text_of (Names c.in-Names.active pairs)) c.as_slice-in-Names-2.ensures ∙ sym (ap text_of c.in-Names.is))
