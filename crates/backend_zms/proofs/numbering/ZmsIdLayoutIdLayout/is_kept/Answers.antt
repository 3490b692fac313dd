use Rattle.std.proofs.Common.{◌≡◌, ◌⊎◌, ◌-◌, ◌<◌, ◌≤◌, inl, inr}
use Rattle.flash_map.specs.Area.{value_limit}
use Rattle.flash_map.specs.On.{on}
use Rattle.backend_zms.proofs.CandidateSteps.{not-kept}
use Rattle.backend_zms.proofs.numbering.ZmsIdLayoutIdLayout.is_kept.Goals as goal
use Rattle.backend_zms.proofs.numbering.ZmsIdLayoutIdLayout.is_kept.Goals.{then-id, else-id}

pub returns-clause-not_it : goal.returns-clause-not_it
returns-clause-not_it g c = λ no_name.
    let area = g.S.ItemStore.mounted_on c.args.store.now in
    let which : ((c.args.id < 0xC0000000) × (c.if-id.candidate ≡ c.args.id)) ⊎ ((0xC0000000 ≤ c.args.id) × (c.if-id.candidate ≡ c.args.id - 0x40000000)) =
    elim c.if-id.branch [
      | then-id w ↦ inl (w.if-id.true, w.candidate-is)
      | else-id w ↦ inr (w.if-id.false, w.candidate-is)
    ] in
    not-kept (value_limit area) (on g.S.ItemStore.contents (g.F.Flash.device c.args.flash.now) area) c.args.id c.if-id.candidate which (c.stands_at.ensures.not_it no_name)
