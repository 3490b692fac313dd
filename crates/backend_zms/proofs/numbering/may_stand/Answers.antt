use Rattle.std.proofs.Common.{◌≡◌, ℕ, None, ap, subst, ◌∙◌, inl, inr, arith}
use Rattle.std.specs.FinMap.{get}
use Rattle.std.proofs.lemmas.Bool.{cases_lt}
use Rattle.flash_map.specs.declared.area.Area.{Area}
use Rattle.flash_map.specs.Area.{value_limit}
use Rattle.flash_map.specs.On.{on}
use Rattle.backend_zms.specs.Hash.{first_of}
use Rattle.backend_zms.proofs.CandidateSteps.{empty-group}
use Rattle.backend_zms.proofs.numbering.may_stand.Goals as goal

pub loop-id-preserved : goal.loop-id-preserved
loop-id-preserved g c =
    let area : Area = g.S.ItemStore.mounted_on c.args.store.now in
    record {
      within = omega (arith, c.loop-id-test.true);
      none = λ d bank lawful stands k from below.
          elim (cases_lt k c.loop-id.id) [
            | inl before ↦ c.loop-id.invariant.none d bank lawful stands k from before
            | inr last ↦
                let same : c.loop-id.id ≡ k = omega arith in
                subst (λ (j : ℕ). get (on g.S.ItemStore.contents d area) j ≡ None) same (c.may_hold.ensures d bank lawful stands c.if-may_hold.false)
          ];
    }

pub returns : goal.returns
returns g c =
    let area : Area = g.S.ItemStore.mounted_on c.args.store.now in
    λ d bank lawful stands not_there.
    empty-group (value_limit area) (on g.S.ItemStore.contents d area) c.args.name.now c.first_of-from.result (c.first_of-from.ensures.first ∙ ap first_of c.bytes.ensures.value)
    (λ k from below. c.loop-id.invariant.none d bank lawful stands k from (omega (arith, c.loop-id-test.false, c.loop-id.auto.id-end)))
