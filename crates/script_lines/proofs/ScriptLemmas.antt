-- Lines of a script, one after another.
use Rattle.std.proofs.Common.{◌≡◌, ℕ, ◌+◌, ◌<◌, List, [], ◌∷◌, ◌++◌, length, not, cond, Bool, Option, Some, None, IfSome, ◌≤◌, append-nil, refl, sym, ◌∙◌, ap, subst, Err, inl, inr, append_assoc, arith, Bor}
use Rattle.script_lines.specs.declared.why.LineWhy.{LineWhy}
use Rattle.script_lines.specs.Forms.{Form, Row}
use Rattle.text_parts.specs.Parts.{parts}
use Rattle.script_lines.specs.declared.grammar.ScriptFault.{ScriptFault}
use Rattle.script_lines.specs.declared.grammar.ScriptFault.TheVariants.{BadLine, NoMemory}
use Rattle.script_lines.specs.Script.{SpellsAll, spoken, IsFine, FirstRefused, Takes, TakesText, ReadsLines}

-- how much is left
abbrev pub left : Option (Bor (List ℕ)) → ℕ
left None = 0
left (Some text) = length text.now + 1

pub fine : (table : List Form) (limit : ℕ) (text : List ℕ) (old new : List Row) → Takes table limit text old new → IsFine table limit text
fine table limit text old new (inl skips) = inl skips.0
fine table limit text old new (inr takes) = inr (takes.1, takes.2)

pub found_step : (table : List Form) (limit : ℕ) (all : List (List ℕ)) (text : List ℕ) (rest : List (List ℕ)) (old new : List Row) → Takes table limit text old new → ((more : List Row) → SpellsAll table limit (spoken (text ∷ rest)) more → SpellsAll table limit all (old ++ more)) → (more : List Row) → SpellsAll table limit (spoken rest) more → SpellsAll table limit all (new ++ more)
found_step table limit all text rest old new (inl skips) so_far more spells =
    rw skips.1 (so_far more (subst (λ (b : Bool). SpellsAll table limit (cond (not b) (text ∷ spoken rest) (spoken rest)) more) (sym skips.0) spells))
found_step table limit all text rest old new (inr takes) so_far more spells =
    let whole = so_far (takes.1 ∷ more) (subst (λ (b : Bool). SpellsAll table limit (cond (not b) (text ∷ spoken rest) (spoken rest)) (takes.1 ∷ more)) (sym takes.0) (takes.2, spells)) in
    subst (λ (rows : List Row). SpellsAll table limit all rows) (sym (ap (λ (rows : List Row). rows ++ more) takes.3 ∙ append_assoc old (takes.1 ∷ []) more)) whole

pub refused_step : (table : List Form) (limit : ℕ) (all : List (List ℕ)) (text : List ℕ) (rest : List (List ℕ)) (number : ℕ) → IsFine table limit text → ((k : ℕ) (why : LineWhy) → FirstRefused table limit (text ∷ rest) k why → FirstRefused table limit all (number + k) why) → (k : ℕ) (why : LineWhy) → FirstRefused table limit rest k why → FirstRefused table limit all (number + 1 + k) why
refused_step table limit all text rest number is_fine so_far k why refused =
    let here = so_far (1 + k) why (inr (is_fine, (k, refl, refused))) in
    let e : number + (1 + k) ≡ number + 1 + k = omega arith in
    subst (λ (n : ℕ). FirstRefused table limit all n why) e here

pub left_shorter : (rest : Option (Bor (List ℕ))) (n : ℕ) → IfSome rest (λ rest. length rest.now < n) → left rest ≤ n
left_shorter None n shorter = omega arith
left_shorter (Some text) n shorter = omega arith

pub no_more : (table : List Form) (limit : ℕ) (all : List (List ℕ)) (rows : List Row) → SpellsAll table limit all (rows ++ []) → SpellsAll table limit all rows
no_more table limit all rows spells = subst (λ (rows : List Row). SpellsAll table limit all rows) (append-nil rows) spells

-- the fault of one text is that of the whole, where those before it are fine
pub fault_of_whole : {L : Type 0} (table : List Form) (row : L → Row) (limit : ℕ) (bytes text : List ℕ) (rest : List (List ℕ)) (before number : ℕ) (old new : List L) (fault : ScriptFault) → number ≡ before + 1
    → TakesText table row limit text number old new (Err fault)
    → ((k : ℕ) (why : LineWhy) → FirstRefused table limit (text ∷ rest) k why → FirstRefused table limit (parts 10 bytes) (before + k) why) → ReadsLines table row limit bytes (Err fault)
fault_of_whole table row limit bytes text rest before number old new (BadLine n why) next takes so_far =
    subst (λ (n : ℕ). FirstRefused table limit (parts 10 bytes) n why) (sym next ∙ sym takes.0) (so_far 1 why (inl (refl, takes.1)))
fault_of_whole table row limit bytes text rest before number old new NoMemory next takes so_far = tt
