use Rattle.std.proofs.Common.{◌≡◌, ℕ, sym, ap, inl, inr}
use Rattle.flash_map.specs.Units.{padded}
use Rattle.fcb_ring.proofs.record.padded_len.Goals as goal

pub returns-then-unit-eq4-clause-value : goal.returns-then-unit-eq4-clause-value
unfolding padded
returns-then-unit-eq4-clause-value c = ap (λ (unit : ℕ). padded unit c.args.len) (sym c.if-unit-eq4.true)

pub returns-then-unit-eq8-clause-value : goal.returns-then-unit-eq8-clause-value
unfolding padded
returns-then-unit-eq8-clause-value c = ap (λ (unit : ℕ). padded unit c.args.len) (sym c.if-unit-eq8.true)

pub returns-clause-value : goal.returns-clause-value
unfolding padded
returns-clause-value c =
    let sixteen : 16 ≡ c.args.unit = elim c.requires.unit [
      | inl four ↦ absurd (c.if-unit-eq4.false four)
      | inr (inl eight) ↦ absurd (c.if-unit-eq8.false eight)
      | inr (inr e) ↦ sym e
    ] in
    ap (λ (unit : ℕ). padded unit c.args.len) sixteen
