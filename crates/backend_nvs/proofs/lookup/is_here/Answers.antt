use Rattle.std.proofs.Common.{◌+◌, Bool, sym, subst, inl, inr}
use Rattle.std.specs.Bool.{MatchBool}
use Rattle.std.specs.FinMap.{get}
use Rattle.std.proofs.lemmas.Bool.{cases_Bool}
use Rattle.std.proofs.Common.{refl}
use Rattle.flash_map.specs.On.{on}
use Rattle.flash_map.specs.declared.area.Area.{Area}
use Rattle.item_laws.specs.Items.{Items}
use Rattle.named_items.specs.Numbering.{Numbering}
use Rattle.named_items.specs.Pairs.{pair_at, HasName}
use Rattle.named_items.proofs.LookupSteps.{here-has, has-here}
use Rattle.backend_nvs.specs.IdLayout.{numbering_of}
use Rattle.backend_nvs.proofs.lookup.is_here.Goals as goal

pub returns : goal.returns
returns g c =
    let own : Area = g.S.ItemStore.mounted_on c.args.store.now in
    let n : Numbering = numbering_of own in
    let items : Items = on g.S.ItemStore.contents (g.F.Flash.device c.args.flash.now) own in
    elim (cases_Bool c.is_at.result) [
      | inl yes_it ↦ subst (λ (b : Bool). MatchBool b (HasName (pair_at n items c.args.id) c.args.name.now) (¬ HasName (pair_at n items c.args.id) c.args.name.now)) (sym yes_it)
          (here-has n c.args.id c.args.name.now (get items c.args.id) (get items (c.args.id + 0x4000)) (c.is_at.ensures.yes_it yes_it) c.is_at.ensures.name refl)
      | inr not_it ↦ subst (λ (b : Bool). MatchBool b (HasName (pair_at n items c.args.id) c.args.name.now) (¬ HasName (pair_at n items c.args.id) c.args.name.now)) (sym not_it)
          (λ has. c.is_at.ensures.not_it not_it (has-here n c.args.id c.args.name.now (get items c.args.id) (get items (c.args.id + 0x4000)) has))
    ]
