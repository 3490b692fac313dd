use Rattle.std.proofs.Common.{◌≡◌, ℕ, zero, suc, ◌≤◌, true, false, eqb, List, ◌∷◌, ◌++◌, length, Ok, Err, eqb-true, sym, ◌∙◌, ap, subst, arith, rules}
use Rattle.setting_name.specs.NameFault.{Reads}
use Rattle.setting_name.specs.Match.{joined_text}
use Rattle.setting_name.proofs.Faults.{names_by_reads, reads_along, match_by_reads}
use Rattle.setting_name.proofs.MatchLemmas.{joined_text-nil, joined_text-some}
use Rattle.setting_name.proofs.name.Name.join.Goals as goal

some_bytes : (n : ℕ) → eqb n 0 ≡ false → 1 ≤ n
some_bytes zero none = absurd (let same : true ≡ false = none in cc)
some_bytes (suc n) none = omega arith

behind_prefix : (subtree prefix rest : List ℕ) → prefix ≡ subtree → eqb (length rest) 0 ≡ false → prefix ++ 0x2F ∷ rest ≡ joined_text subtree rest
behind_prefix subtree prefix rest same some =
    ap (λ text. text ++ 0x2F ∷ rest) same ∙ sym (joined_text-some subtree rest (some_bytes (length rest) some))

pub returns-then-is_empty-clause-reads : goal.returns-then-is_empty-clause-reads
returns-then-is_empty-clause-reads c =
    let none : length c.args.rest.now ≡ 0 = eqb-true (length c.args.rest.now) 0 (sym c.is_empty.ensures ∙ c.if-is_empty.true) in
    reads_along c.args.subtree.now (joined_text c.args.subtree.now c.args.rest.now) (Ok c.copy.result)
    (sym (joined_text-nil c.args.subtree.now c.args.rest.now none)) (c.copy.ensures.value, c.copy.ensures.name)

pub returns-then-is_empty-clause-names : goal.returns-then-is_empty-clause-names
returns-then-is_empty-clause-names c =
    names_by_reads (joined_text c.args.subtree.now c.args.rest.now) (Ok c.copy.result) (returns-then-is_empty-clause-reads c)

pub returns-then-is_empty-clause-matches : goal.returns-then-is_empty-clause-matches
returns-then-is_empty-clause-matches c =
    match_by_reads c.args.subtree.now c.args.rest.now (Ok c.copy.result) (returns-then-is_empty-clause-reads c)

pub returns-in_err-with_slash-clause-reads : goal.returns-in_err-with_slash-clause-reads
returns-in_err-with_slash-clause-reads c =
    let refused : c.from_residual.result ≡ Err c.in_err-with_slash.field-0.0 = search rules in
    let text : c.bytes.result.now ++ 0x2F ∷ c.args.rest.now ≡ joined_text c.args.subtree.now c.args.rest.now =
    behind_prefix c.args.subtree.now c.bytes.result.now c.args.rest.now c.bytes.ensures.value (sym c.is_empty.ensures ∙ c.if-is_empty.false) in
    subst (Reads (joined_text c.args.subtree.now c.args.rest.now)) (sym refused)
    (reads_along (c.bytes.result.now ++ 0x2F ∷ c.args.rest.now) (joined_text c.args.subtree.now c.args.rest.now)
    (Err c.in_err-with_slash.field-0.0) text c.in_err-with_slash.ensures)

pub returns-in_err-with_slash-clause-names : goal.returns-in_err-with_slash-clause-names
returns-in_err-with_slash-clause-names c =
    names_by_reads (joined_text c.args.subtree.now c.args.rest.now) c.from_residual.result (returns-in_err-with_slash-clause-reads c)

pub returns-clause-reads : goal.returns-clause-reads
returns-clause-reads c =
    let text : c.bytes.result.now ++ 0x2F ∷ c.args.rest.now ≡ joined_text c.args.subtree.now c.args.rest.now =
    behind_prefix c.args.subtree.now c.bytes.result.now c.args.rest.now c.bytes.ensures.value (sym c.is_empty.ensures ∙ c.if-is_empty.false) in
    reads_along c.in_ok-with_slash.field-0.items (joined_text c.args.subtree.now c.args.rest.now) c.from_text.result
    (c.in_ok-with_slash.ensures ∙ text) c.from_text.ensures

pub returns-clause-names : goal.returns-clause-names
returns-clause-names c = names_by_reads (joined_text c.args.subtree.now c.args.rest.now) c.from_text.result (returns-clause-reads c)

pub returns-clause-matches : goal.returns-clause-matches
returns-clause-matches c = match_by_reads c.args.subtree.now c.args.rest.now c.from_text.result (returns-clause-reads c)
