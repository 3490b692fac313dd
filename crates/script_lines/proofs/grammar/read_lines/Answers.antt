use Rattle.std.proofs.Common.{◌≡◌, ℕ, ◌+◌, List, [], ◌∷◌, ◌++◌, map, ◌∙◌, ap, subst, sym, refl, arith}
use Rattle.script_lines.specs.declared.why.LineWhy.{LineWhy}
use Rattle.text_parts.specs.Parts.{parts, parts_of}
use Rattle.script_lines.specs.Forms.{Row}
use Rattle.script_lines.specs.Script.{SpellsAll, spoken, FirstRefused}
use Rattle.script_lines.proofs.ScriptLemmas.{left, left_shorter, fine, found_step, refused_step, no_more, fault_of_whole}
use Rattle.script_lines.proofs.grammar.read_lines.Goals as goal

pub loop-rest-preserved : goal.loop-rest-preserved
loop-rest-preserved g c =
    let so_far = c.loop-rest.invariant in
    let limit = c.args.limit in
    let all : List (List ℕ) = parts 10 c.args.bytes.now in
    let text : List ℕ = c.cut_at.result.0.now in
    let rest : List (List ℕ) = parts_of 10 c.cut_at.result.1 in
    let cut : parts_of 10 c.loop-rest.rest ≡ text ∷ rest = ap (parts_of 10) c.in-Some.is ∙ c.cut_at.ensures.first in
    let old : List Row = map g.L.ScriptLine.says c.loop-rest.lines.items in
    let new : List Row = map g.L.ScriptLine.says c.take_text.new.lines.items in
    record {
      found = found_step g.L.ScriptLine.forms limit (spoken all) text rest old new c.in-Ok.ensures
          (subst (λ (texts : List (List ℕ)). (more : List Row) → SpellsAll g.L.ScriptLine.forms limit (spoken texts) more → SpellsAll g.L.ScriptLine.forms limit (spoken all) (old ++ more)) cut so_far.found);
      refused = refused_step g.L.ScriptLine.forms limit all text rest c.loop-rest.number (fine g.L.ScriptLine.forms limit text old new c.in-Ok.ensures)
          (subst (λ (texts : List (List ℕ)). (k : ℕ) (why : LineWhy) → FirstRefused g.L.ScriptLine.forms limit texts k why → FirstRefused g.L.ScriptLine.forms limit all (c.loop-rest.number + k) why) cut so_far.refused);
      small = omega (arith, so_far.small, ap left c.in-Some.is, left_shorter _ _ c.cut_at.ensures.shorter);
    }

pub returns : goal.returns
returns g c =
    no_more g.L.ScriptLine.forms c.args.limit _ _ (c.loop-rest.invariant.found [] (subst (λ rest. SpellsAll g.L.ScriptLine.forms c.args.limit (spoken (parts_of 10 rest)) []) (sym c.in_default.is) tt))

pub returns-in-Err : goal.returns-in-Err
returns-in-Err g c =
    let limit = c.args.limit in
    let text : List ℕ = c.cut_at.result.0.now in
    let rest : List (List ℕ) = parts_of 10 c.cut_at.result.1 in
    let cut : parts_of 10 c.loop-rest.rest ≡ text ∷ rest = ap (parts_of 10) c.in-Some.is ∙ c.cut_at.ensures.first in
    fault_of_whole g.L.ScriptLine.forms g.L.ScriptLine.says limit c.args.bytes.now text rest c.loop-rest.number (c.loop-rest.number + 1) c.loop-rest.lines.items c.take_text.new.lines.items c.in-Err.fault refl c.in-Err.ensures
    (subst (λ (texts : List (List ℕ)). (k : ℕ) (why : LineWhy) → FirstRefused g.L.ScriptLine.forms limit texts k why → FirstRefused g.L.ScriptLine.forms limit (parts 10 c.args.bytes.now) (c.loop-rest.number + k) why) cut c.loop-rest.invariant.refused)
