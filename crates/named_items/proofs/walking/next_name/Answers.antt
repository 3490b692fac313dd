use Rattle.std.proofs.Common.{rules, ◌≡◌, ℕ, ◌+◌, ◌<◌, List, Option, Some, None, Bor, ap, subst, ◌∙◌, arith}
use Rattle.std.specs.Option.{option_map}
use Rattle.std.proofs.lemmas.Bool.{false≢true}
use Rattle.flash_map.specs.declared.area.Area.{Area}
use Rattle.flash_map.specs.On.{on}
use Rattle.item_laws.specs.Bytes.{IsNextOf}
use Rattle.item_laws.specs.Items.{Items}
use Rattle.named_items.specs.Numbering.{Numbering}
use Rattle.item_store.specs.declared.entry.IdRange.{IdRange}
use Rattle.named_items.proofs.IdSteps.{next-found, next-lawful}
use Rattle.named_items.proofs.walking.next_name.Goals as goal

pub next_of-requires-clause-least : goal.next_of-requires-clause-least
next_of-requires-clause-least g c = c.requires.ids.all c.all_candidates-ids.result.least (c.all_candidates-ids.ensures.ids (g.S.ItemStore.mounted_on c.args.store.now)).least

pub next_of-requires-clause-most : goal.next_of-requires-clause-most
next_of-requires-clause-most g c =
    let n : Numbering = g.N.IdLayout.numbering (g.S.ItemStore.mounted_on c.args.store.now) in
    let ids : IdRange = c.all_candidates-ids.result in
    let most : ids.most + n.step < g.N.IdLayout.top = (c.all_candidates-ids.ensures.ids (g.S.ItemStore.mounted_on c.args.store.now)).most in
    c.requires.ids.all ids.most (omega (arith, most))

pub next_of-requires-clause-range : goal.next_of-requires-clause-range
next_of-requires-clause-range g c = (c.all_candidates-ids.ensures.ids (g.S.ItemStore.mounted_on c.args.store.now)).few

pub returns-in_err-next_of : goal.returns-in_err-next_of
returns-in_err-next_of g c =
    let area : Area = g.S.ItemStore.mounted_on c.args.store.now in
    let n : Numbering = g.N.IdLayout.numbering area in
    let items : Items = on g.S.ItemStore.contents (g.F.Flash.device c.args.flash.now) area in
    let ids : IdRange = c.all_candidates-ids.result in
    let after : Option (List ℕ) = option_map (λ name. name.now) c.args.after in
    let same : option_map {T = Bor (List ℕ)} {U = List ℕ} (λ other. other.now) c.map-after.result ≡ option_map {T = Bor (List ℕ)} {U = List ℕ} (λ name. name.now) c.args.after = search rules in
    let next : IsNextOf ids.least ids.most items after None = subst (λ (o : Option (List ℕ)). IsNextOf ids.least ids.most items o None) same c.in_err-next_of.ensures in
    c.from_residual.ensures
    ∙ next-found n (g.met.N.IdLayout.is_numbering area) items c.requires.clean g.N.IdLayout.top ids (c.all_candidates-ids.ensures.ids area) (c.all_candidates-ids.ensures.candidates area) after None next

pub returns-in-Ok : goal.returns-in-Ok
returns-in-Ok g c =
    let area : Area = g.S.ItemStore.mounted_on c.args.store.now in
    let n : Numbering = g.N.IdLayout.numbering area in
    let items : Items = on g.S.ItemStore.contents (g.F.Flash.device c.args.flash.now) area in
    let ids : IdRange = c.all_candidates-ids.result in
    let after : Option (List ℕ) = option_map (λ name. name.now) c.args.after in
    let text : List ℕ = c.in_ok-next_of.field-0.now in
    let same : option_map {T = Bor (List ℕ)} {U = List ℕ} (λ other. other.now) c.map-after.result ≡ option_map {T = Bor (List ℕ)} {U = List ℕ} (λ name. name.now) c.args.after = search rules in
    let next : IsNextOf ids.least ids.most items after (Some text) = subst (λ (o : Option (List ℕ)). IsNextOf ids.least ids.most items o (Some text)) same c.in_ok-next_of.ensures in
    ap (λ (t : List ℕ). Some t) c.in-Ok.ensures.reads.0
    ∙ next-found n (g.met.N.IdLayout.is_numbering area) items c.requires.clean g.N.IdLayout.top ids (c.all_candidates-ids.ensures.ids area) (c.all_candidates-ids.ensures.candidates area) after (Some text) next

pub returns-in-Err : goal.returns-in-Err
returns-in-Err g c =
    let area : Area = g.S.ItemStore.mounted_on c.args.store.now in
    let n : Numbering = g.N.IdLayout.numbering area in
    let items : Items = on g.S.ItemStore.contents (g.F.Flash.device c.args.flash.now) area in
    let ids : IdRange = c.all_candidates-ids.result in
    let after : Option (List ℕ) = option_map (λ name. name.now) c.args.after in
    let text : List ℕ = c.in_ok-next_of.field-0.now in
    let same : option_map {T = Bor (List ℕ)} {U = List ℕ} (λ other. other.now) c.map-after.result ≡ option_map {T = Bor (List ℕ)} {U = List ℕ} (λ name. name.now) c.args.after = search rules in
    let next : IsNextOf ids.least ids.most items after (Some text) = subst (λ (o : Option (List ℕ)). IsNextOf ids.least ids.most items o (Some text)) same c.in_ok-next_of.ensures in
    absurd (false≢true (c.in-Err.ensures.names.1 (next-lawful n (g.met.N.IdLayout.is_numbering area) items c.requires.clean g.N.IdLayout.top ids (c.all_candidates-ids.ensures.ids area) (c.all_candidates-ids.ensures.candidates area) after text next)))
