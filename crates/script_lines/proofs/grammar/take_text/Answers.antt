use Rattle.std.proofs.Common.{◌≡◌, inl, Err, sym, refl, subst, ◌∙◌}
use Rattle.text_parts.specs.Parts.{parts}
use Rattle.script_lines.specs.declared.why.LineFault.{LineFault}
use Rattle.script_lines.specs.Forms.{ReadsRow}
use Rattle.script_lines.proofs.grammar.take_text.Goals as goal

pub returns-then-is_skipped : goal.returns-then-is_skipped
returns-then-is_skipped g c = inl (sym c.is_skipped.ensures ∙ c.if-is_skipped.true, refl)

pub returns-in-Err-Refused : goal.returns-in-Err-Refused
returns-in-Err-Refused g c =
    (refl, (sym c.is_skipped.ensures ∙ c.if-is_skipped.false, subst (λ (fault : LineFault). ReadsRow g.L.ScriptLine.forms g.L.ScriptLine.says c.args.limit (parts 32 c.args.text.now) (Err fault)) c.in-Err-Refused.field-0-is c.in-Err-Refused.ensures))

pub returns-in-Err-NoMemory : goal.returns-in-Err-NoMemory
returns-in-Err-NoMemory g c = tt
