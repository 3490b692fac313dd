use Rattle.std.proofs.Common.{◌≡◌, ℕ, ◌+◌, ◌<◌, ◌≤◌, subst, inl, inr, arith}
use Rattle.item_laws.specs.Items.{Items}
use Rattle.flash_map.specs.On.{on}
use Rattle.named_items.specs.Pairs.{IsAt}
use Rattle.backend_nvs.specs.IdLayout.{numbering_of}
use Rattle.named_items.specs.Pairs.{count_in}
use Rattle.std.specs.FinMap.{get}
use Rattle.backend_nvs.specs.IdLayout.{count-few}
use Rattle.backend_nvs.proofs.kept.is_kept.Goals as goal
use Rattle.backend_nvs.proofs.kept.is_kept.Goals.{then-id, else-id}

pub returns-clause-not_it : goal.returns-clause-not_it
returns-clause-not_it g c = λ no_part kept.
    let items : Items = on g.S.ItemStore.contents (g.F.Flash.device c.args.flash.now) (g.S.ItemStore.mounted_on c.args.store.now) in
    elim kept [
      | inl count ↦ let is : c.args.id ≡ 0x8000 = count.is in absurd (omega arith)
      | inr part ↦
          let few = count-few (get items 0x8000) in
          let to : part.candidate < 0x8001 + count_in (numbering_of (g.S.ItemStore.mounted_on c.args.store.now)) items = part.at.inside.to in
          let from : 0x8001 ≤ part.candidate = part.at.inside.from in
          let here : part.candidate ≡ c.if-id.candidate =
          elim c.if-id.branch [
            | then-id w ↦ elim part.is [ inl e ↦ omega arith | inr e ↦ absurd (omega arith) ]
            | else-id w ↦ elim part.is [ inl e ↦ absurd (omega arith) | inr e ↦ omega arith ]
          ] in
          c.stands_at.ensures.not_it no_part part.name (subst (λ (k : ℕ). IsAt (numbering_of (g.S.ItemStore.mounted_on c.args.store.now)) items part.name k) here part.at)
    ]
