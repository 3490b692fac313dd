use Rattle.std.proofs.Common.{◌≡◌, ℕ, List, get_or, drop, take, refl, sym, subst, ap, arith, rules, ◌∙◌}
use Rattle.image_file.specs.Format.{role_byte, plain_area}
use Rattle.image_file.specs.Said.{role_said, area_said}
use Rattle.image_file.specs.Table.{IsLabelText}
use Rattle.image_file.proofs.FieldLemmas.{label_of_text, area_again, same_area}
use Rattle.image_file.proofs.fields.area_of.Goals as goal

pub returns-in_err-label : goal.returns-in_err-label
returns-in_err-label c =
    rw c.from_residual-in_err-label.ensures (λ is. c.in_err-label.ensures (subst (IsLabelText (get_or c.args.text.now 6 0)) (sym c.split_at.ensures.back) (label_of_text c.args.version c.args.text.now c.requires is)))

pub returns : goal.returns
unfolding area_said
returns c =
    let text : List ℕ = c.args.text.now in
    let label : IsLabelText (get_or text 6 0) (drop 8 text) = subst (IsLabelText (get_or text 6 0)) c.split_at.ensures.back c.in_ok-label.ensures.1 in
    let role : role_byte (role_said (get_or text 0 0)) ≡ get_or text 0 0 = ap role_byte (sym c.in_ok-role.ensures.0) ∙ c.in_ok-role.ensures.1 in
    let seven : get_or text 7 0 ≡ 0 = search rules in (
      ap plain_area c.new.ensures ∙ same_area c.args.version text (record { label = c.in_ok-label.label; role = c.in_ok-role.role; bank = c.from.result; first = c.from-2.result; sectors = c.from-3.result; version = c.args.version }) (c.in_ok-label.ensures.0 ∙ ap (take (get_or text 6 0)) c.split_at.ensures.back) c.in_ok-role.ensures.0 c.from.ensures (c.from-2.ensures ∙ c.u16_at.ensures) (c.from-3.ensures ∙ c.u16_at-2.ensures) refl,
      record {
        spelled = area_again c.args.version text c.requires (λ i. omega (arith, c.type_inv.text i)) role seven label;
        label = label.label;
      },
    )
