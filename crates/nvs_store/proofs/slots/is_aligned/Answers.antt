use Rattle.std.proofs.Common.{◌≡◌, ℕ, ◌%◌, eqb, sym, ap, inl, inr}
use Rattle.nvs_store.proofs.slots.is_aligned.Goals as goal

pub returns-then-unit-eq4 : goal.returns-then-unit-eq4
returns-then-unit-eq4 c = ap (λ (unit : ℕ). eqb (c.args.offset % unit) 0) (sym c.if-unit-eq4.true)

pub returns-then-unit-eq8 : goal.returns-then-unit-eq8
returns-then-unit-eq8 c = ap (λ (unit : ℕ). eqb (c.args.offset % unit) 0) (sym c.if-unit-eq8.true)

pub returns : goal.returns
returns c =
    let sixteen : 16 ≡ c.args.unit = elim c.requires [
      | inl four ↦ absurd (c.if-unit-eq4.false four)
      | inr (inl eight) ↦ absurd (c.if-unit-eq8.false eight)
      | inr (inr e) ↦ sym e
    ] in
    ap (λ (unit : ℕ). eqb (c.args.offset % unit) 0) sixteen
