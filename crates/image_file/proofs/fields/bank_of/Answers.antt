use Rattle.std.proofs.Common.{◌≡◌, ℕ, List, get_or, sym, subst, ap, arith, rules, ◌∙◌}
use Rattle.image_file.specs.Format.{kind_byte}
use Rattle.image_file.specs.Lawful.{IsImageBank}
use Rattle.image_file.specs.Said.{kind_said, bank_said}
use Rattle.image_file.proofs.FieldLemmas.{bank_again, same_bank}
use Rattle.image_file.proofs.fields.bank_of.Goals as goal

pub returns-then-is_lawful_bank : goal.returns-then-is_lawful_bank
returns-then-is_lawful_bank c =
    let text : List ℕ = c.args.text.now in
    let kind : kind_byte (kind_said (get_or text 0 0)) ≡ get_or text 0 0 = ap kind_byte (sym c.in_ok-kind.ensures.0) ∙ c.in_ok-kind.ensures.1 in
    let same : record { kind = c.in_ok-kind.kind; unit = c.from.result; sector = c.u32_at.result; count = c.u32_at-2.result } ≡ bank_said text = same_bank text _ c.in_ok-kind.ensures.0 c.from.ensures c.u32_at.ensures c.u32_at-2.ensures in (
      same,
      record {
        spelled = bank_again text c.requires (λ i. omega (arith, c.type_inv.text i)) kind (search rules) (search rules);
        lawful = subst (IsImageBank c.args.version) same (c.is_lawful_bank.ensures.0 c.if-is_lawful_bank.true);
      },
    )
