use Rattle.std.proofs.Common.{◌≡◌, ℕ, List, sym, subst, ◌∙◌}
use Rattle.std.specs.FinMap.{get}
use Rattle.std.proofs.lemmas.Bool.{eqb-false, false≢true}
use Rattle.setting_name.specs.Name.{IsName}
use Rattle.item_laws.specs.Items.{Items}
use Rattle.flash_map.specs.On.{on}
use Rattle.named_items.specs.Pairs.{IsAt, HasName, pair_at}
use Rattle.backend_nvs.specs.IdLayout.{numbering_of}
use Rattle.named_items.proofs.LookupSteps.{at-lawful, named-as}
use Rattle.named_items.proofs.OrphanSteps.{named-at, same-id}
use Rattle.backend_nvs.proofs.kept.stands_at.Goals as goal

pub returns-in-Err-clause-not_it : goal.returns-in-Err-clause-not_it
returns-in-Err-clause-not_it g c = λ is name at.
    let items : Items = on g.S.ItemStore.contents (g.F.Flash.device c.args.flash.now) (g.S.ItemStore.mounted_on c.args.store.now) in
    let same : name ≡ c.in-Some.bytes.now = named-as name c.in-Some.bytes.now (get items c.args.id) (named-at (numbering_of (g.S.ItemStore.mounted_on c.args.store.now)) items name c.args.id at) (sym c.in-Some.ensures) in
    absurd (false≢true (c.in-Err.ensures.names.1 (subst IsName same (at-lawful (numbering_of (g.S.ItemStore.mounted_on c.args.store.now)) items name c.args.id at))))

pub returns-in-Some-id_of-clause-not_it : goal.returns-in-Some-id_of-clause-not_it
returns-in-Some-id_of-clause-not_it g c = λ is name at.
    let items : Items = on g.S.ItemStore.contents (g.F.Flash.device c.args.flash.now) (g.S.ItemStore.mounted_on c.args.store.now) in
    let same : name ≡ c.in-Some.bytes.now = named-as name c.in-Some.bytes.now (get items c.args.id) (named-at (numbering_of (g.S.ItemStore.mounted_on c.args.store.now)) items name c.args.id at) (sym c.in-Some.ensures) in
    let read : c.in-Ok.name ≡ c.in-Some.bytes.now = c.in-Ok.ensures.reads.0 in
    eqb-false c.in-Some-id_of.found c.args.id is
    (same-id (numbering_of (g.S.ItemStore.mounted_on c.args.store.now)) items c.in-Ok.name c.in-Some-id_of.found c.args.id c.in-Some-id_of.ensures
    (subst (λ (t : List ℕ). IsAt (numbering_of (g.S.ItemStore.mounted_on c.args.store.now)) items t c.args.id) (same ∙ sym read) at))

pub returns-in-None-id_of-clause-not_it : goal.returns-in-None-id_of-clause-not_it
returns-in-None-id_of-clause-not_it g c = λ is name at.
    let items : Items = on g.S.ItemStore.contents (g.F.Flash.device c.args.flash.now) (g.S.ItemStore.mounted_on c.args.store.now) in
    let same : name ≡ c.in-Some.bytes.now = named-as name c.in-Some.bytes.now (get items c.args.id) (named-at (numbering_of (g.S.ItemStore.mounted_on c.args.store.now)) items name c.args.id at) (sym c.in-Some.ensures) in
    let read : c.in-Ok.name ≡ c.in-Some.bytes.now = c.in-Ok.ensures.reads.0 in
    c.in-None-id_of.ensures c.args.id at.inside (subst (λ (t : List ℕ). HasName (pair_at (numbering_of (g.S.ItemStore.mounted_on c.args.store.now)) items c.args.id) t) (same ∙ sym read) at.here)
