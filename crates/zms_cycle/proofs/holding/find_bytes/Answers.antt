use Rattle.std.proofs.Common.{ℕ, ◌+◌, ◌<◌, ◌≤◌, List, length, Option, sym, subst, ◌∙◌, inl, inr, arith}
use Rattle.std.proofs.lemmas.Bool.{cases_lt, false≢true, lt-ltb, le-ltb}
use Rattle.zms_cycle.specs.Holding.{IsFirstAlike, FindsAlike}
use Rattle.zms_cycle.specs.Sector.{valid_slots}
use Rattle.zms_cycle.proofs.HoldingSteps.{finds_here, finds_none}
use Rattle.zms_cycle.proofs.holding.find_bytes.Goals as goal

pub returns-in-Some : goal.returns-in-Some
returns-in-Some c =
    let b : List ℕ = c.args.sector.now in
    let first : IsFirstAlike b c.args.least c.min.result c.args.bytes.now (2 + c.args.skipped) c.in-Some.slot = c.in-Some.ensures in
    let below : c.in-Some.slot < length (valid_slots b) + 2 = elim (cases_lt c.in-Some.slot (length (valid_slots b) + 2)) [
      | inl lt ↦ lt
      | inr ge ↦ absurd (false≢true (sym (le-ltb c.in-Some.slot (length (valid_slots b) + 2) ge) ∙ sym c.is_listed.ensures ∙ c.if-is_listed.true))
    ] in
    finds_here b c.args.least c.args.most c.min.result c.args.bytes.now c.args.skipped c.in-Some.slot c.listed_entry.result c.requires.sound (omega arith) c.min.ensures below first c.listed_entry.ensures

pub returns-in_default : goal.returns-in_default
returns-in_default c =
    let b : List ℕ = c.args.sector.now in
    let first : IsFirstAlike b c.args.least c.min.result c.args.bytes.now (2 + c.args.skipped) c.in-Some.slot = c.in-Some.ensures in
    let out : length (valid_slots b) + 2 ≤ c.in-Some.slot = elim (cases_lt c.in-Some.slot (length (valid_slots b) + 2)) [
      | inl lt ↦ absurd (false≢true (sym c.if-is_listed.false ∙ c.is_listed.ensures ∙ lt-ltb c.in-Some.slot (length (valid_slots b) + 2) lt))
      | inr ge ↦ ge
    ] in
    finds_none b c.args.least c.args.most c.min.result c.args.bytes.now c.args.skipped c.in-Some.slot c.requires.sound (omega arith) c.min.ensures out first.first

pub returns-in_default-2 : goal.returns-in_default-2
returns-in_default-2 c =
    let b : List ℕ = c.args.sector.now in
    finds_none b c.args.least c.args.most c.min.result c.args.bytes.now c.args.skipped (length (valid_slots b) + 2) c.requires.sound (omega arith) c.min.ensures (omega arith)
    (subst (λ (o : Option ℕ). FindsAlike b c.args.least c.min.result c.args.bytes.now (2 + c.args.skipped) o) c.in_default.is c.first_alike.ensures)
