use Rattle.std.proofs.Common.{ℕ, List, subst, ◌∙◌}
use Rattle.std.specs.FinMap.{get}
use Rattle.std.proofs.lemmas.Bool.{false≢true}
use Rattle.flash_map.specs.declared.area.Area.{Area}
use Rattle.flash_map.specs.On.{on}
use Rattle.item_laws.specs.Items.{Items}
use Rattle.named_items.specs.Numbering.{Numbering}
use Rattle.named_items.specs.Seen.{Saw}
use Rattle.named_items.proofs.LookupSteps.{named-as}
use Rattle.named_items.proofs.KeepSteps.{held-kept, kept-held, unnamed-gone, saw-more}
use Rattle.named_items.proofs.keeping.is_name_kept.Goals as goal

pub returns-in_default : goal.returns-in_default
returns-in_default g c =
    let area : Area = g.S.ItemStore.mounted_on c.args.store.now in
    let n : Numbering = g.N.IdLayout.numbering area in
    let items : Items = on g.S.ItemStore.contents (g.F.Flash.device c.args.flash.now) area in
    record {
      yes_it = λ is. absurd (false≢true is);
      not_it = λ is. unnamed-gone n items (g.met.N.IdLayout.is_numbering area) c.args.id c.requires.for_name c.in_default.ensures;
      saw = saw-more n items c.args.seen.now.words c.args.id c.requires.saw c.args.seen.now.words (λ other was. was) (λ name is lawful. absurd (c.in_default.ensures name lawful is));
    }

pub returns-then-insert : goal.returns-then-insert
returns-then-insert g c =
    let area : Area = g.S.ItemStore.mounted_on c.args.store.now in
    let n : Numbering = g.N.IdLayout.numbering area in
    let items : Items = on g.S.ItemStore.contents (g.F.Flash.device c.args.flash.now) area in
    let new : ¬ Saw c.args.seen.now.words c.in-Some.name = subst (λ (t : List ℕ). ¬ Saw c.args.seen.now.words t) c.bytes.ensures.value (c.insert.ensures.is_new c.if-insert.true) in
    record {
      yes_it = λ is. held-kept n items c.args.seen.now.words c.in-Some.name c.args.id c.requires.saw new (c.is_held.ensures.yes_it is);
      not_it = λ is kept. c.is_held.ensures.not_it is (kept-held n items (g.met.N.IdLayout.is_numbering area) c.args.id c.in-Some.name c.requires.for_name c.in-Some.ensures kept);
      saw = saw-more n items c.args.seen.now.words c.args.id c.requires.saw c.insert.new.self.words c.insert.ensures.keeps
          (λ name is lawful. subst (Saw c.insert.new.self.words) (c.bytes.ensures.value ∙ named-as c.in-Some.name name (get items c.args.id) c.in-Some.ensures.0 is) c.insert.ensures.adds);
    }

pub returns-else-insert : goal.returns-else-insert
returns-else-insert g c =
    let area : Area = g.S.ItemStore.mounted_on c.args.store.now in
    let n : Numbering = g.N.IdLayout.numbering area in
    let items : Items = on g.S.ItemStore.contents (g.F.Flash.device c.args.flash.now) area in
    record {
      yes_it = c.is_kept.ensures.yes_it;
      not_it = c.is_kept.ensures.not_it;
      saw = saw-more n items c.args.seen.now.words c.args.id c.requires.saw c.insert.new.self.words c.insert.ensures.keeps
          (λ name is lawful. subst (Saw c.insert.new.self.words) (c.bytes.ensures.value ∙ named-as c.in-Some.name name (get items c.args.id) c.in-Some.ensures.0 is) c.insert.ensures.adds);
    }

pub name_in-requires : goal.name_in-requires
name_in-requires g c = record { lawful = c.requires.lawful; stands = c.requires.stands; describes = c.requires.describes; known = c.requires.ids.all c.args.id c.requires.known }

pub is_held-requires : goal.is_held-requires
is_held-requires g c = record { ids = c.requires.ids; lawful = c.requires.lawful; stands = c.requires.stands; describes = c.requires.describes; name = c.in-Some.ensures.1; named = c.in-Some.ensures.0 }

pub is_kept-requires : goal.is_kept-requires
is_kept-requires g c = record { ids = c.requires.ids; lawful = c.requires.lawful; stands = c.requires.stands; describes = c.requires.describes; known = c.requires.known }
