use Rattle.std.proofs.Common.{◌≡◌, ℕ, ◌+◌, ◌<◌, List, Bor, sym, ap, subst, ◌∙◌}
use Rattle.std.specs.FinMap.{get}
use Rattle.std.specs.Option.{option_map}
use Rattle.std.proofs.lemmas.Bool.{false≢true}
use Rattle.flash_map.specs.declared.area.Area.{Area}
use Rattle.flash_map.specs.Area.{value_limit}
use Rattle.flash_map.specs.On.{on}
use Rattle.item_laws.specs.Items.{Items}
use Rattle.item_store.specs.declared.entry.IdRange.{IdRange}
use Rattle.named_items.specs.CandidateIds.{IsCandidateId}
use Rattle.named_items.specs.Looking.{is_value}
use Rattle.named_items.specs.Numbering.{Numbering}
use Rattle.named_items.specs.Pairs.{count_in}
use Rattle.named_items.proofs.KeepSteps.{valued-as, held-here, held-parts, held-id}
use Rattle.named_items.proofs.keeping.is_held.Goals as goal

pub returns : goal.returns
returns g c =
    let area : Area = g.S.ItemStore.mounted_on c.args.store.now in
    let n : Numbering = g.N.IdLayout.numbering area in
    let items : Items = on g.S.ItemStore.contents (g.F.Flash.device c.args.flash.now) area in
    let ids : IdRange = c.candidates_of.result in
    let one : IsCandidateId ids c.args.id = c.if-not-contains.ensures in
    let less : c.args.id < n.first + count_in n items = subst (λ (k : ℕ). c.args.id < k) c.end_of_names.ensures c.if-end_of_names-id.false in
    let same : c.is_value.result ≡ is_value n.longest (get items (c.args.id + n.step)) =
    valued-as c.is_value.result c.value_limit-longest.result n.longest (option_map {T = Bor (List ℕ)} {U = List ℕ} (λ bytes. bytes.now) c.get_by.result) (get items (c.args.id + n.step)) c.is_value.ensures
    (c.value_limit-longest.ensures ∙ ap value_limit c.area.ensures ∙ sym (g.met.N.IdLayout.longest area))
    (c.get_by.ensures ∙ ap (λ (k : ℕ). get items (c.args.id + k)) (sym (c.step.ensures area))) in
    record {
      yes_it = λ is. held-here n items c.args.name.now ids g.N.IdLayout.top (c.candidates_of.ensures.ids area) c.args.id one (c.candidates_of.ensures.only area) less c.requires.name (record { named = c.requires.named; valued = sym same ∙ is });
      not_it = λ is held. false≢true (sym is ∙ same ∙ (held-parts n items c.args.name.now c.args.id held).valued);
    }

pub returns-then-not-contains : goal.returns-then-not-contains
returns-then-not-contains g c =
    let area : Area = g.S.ItemStore.mounted_on c.args.store.now in
    let items : Items = on g.S.ItemStore.contents (g.F.Flash.device c.args.flash.now) area in
    let ids : IdRange = c.candidates_of.result in
    record {
      yes_it = λ is. absurd (false≢true is);
      not_it = λ is held. c.if-not-contains.ensures (held-id (g.N.IdLayout.numbering area) items c.args.name.now ids c.args.id (c.candidates_of.ensures.candidates area) held);
    }
