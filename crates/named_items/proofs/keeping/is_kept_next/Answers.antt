use Rattle.std.proofs.Common.{◌≡◌, ℕ, ◌+◌, ◌-◌, ◌<◌, ◌≤◌, sym, subst, ◌∙◌, arith}
use Rattle.std.specs.FinMap.{get}
use Rattle.flash_map.specs.declared.area.Area.{Area}
use Rattle.flash_map.specs.On.{on}
use Rattle.item_laws.specs.Items.{Items}
use Rattle.item_store.specs.declared.entry.IdRange.{IdRange}
use Rattle.named_items.specs.CandidateIds.{IsCandidateId}
use Rattle.named_items.specs.Numbering.{Numbering}
use Rattle.named_items.specs.Orphans.{IsCleanBelow}
use Rattle.named_items.specs.Pairs.{IsKept}
use Rattle.named_items.proofs.KeepSteps.{is-there, is-gone, for-name, value-kept, value-gone, saw-past}
use Rattle.named_items.proofs.keeping.is_kept_next.Goals as goal

pub is_name_kept-requires : goal.is_name_kept-requires
is_name_kept-requires g c =
    let area : Area = g.S.ItemStore.mounted_on c.args.store.now in
    let n : Numbering = g.N.IdLayout.numbering area in
    let ids : IdRange = c.all_candidates-ids.result in
    let one : IsCandidateId ids c.args.id = c.if-contains.ensures in
    record {
      ids = c.requires.ids;
      lawful = c.requires.lawful;
      stands = c.requires.stands;
      describes = c.requires.describes;
      known = c.requires.known;
      for_name = for-name n g.N.IdLayout.top ids (c.all_candidates-ids.ensures.ids area) c.args.id one;
      saw = c.requires.walked.saw;
    }

pub returns-then-contains : goal.returns-then-contains
returns-then-contains g c = record { yes_it = c.is_name_kept.ensures.yes_it; not_it = c.is_name_kept.ensures.not_it; saw = c.is_name_kept.ensures.saw }

pub get_by-requires : goal.get_by-requires
get_by-requires g c = record {
  lawful = c.requires.lawful;
  stands = c.requires.stands;
  describes = c.requires.describes;
  known = let known : c.args.id < g.N.IdLayout.top = c.requires.known in c.requires.ids.all (c.args.id - c.step-step.result) (omega arith);
}

pub returns-then-contains-2 : goal.returns-then-contains-2
returns-then-contains-2 g c =
    let area : Area = g.S.ItemStore.mounted_on c.args.store.now in
    let n : Numbering = g.N.IdLayout.numbering area in
    let items : Items = on g.S.ItemStore.contents (g.F.Flash.device c.args.flash.now) area in
    let ids : IdRange = c.all_candidates-ids.result in
    let candidate : ℕ = c.args.id - c.step-step.result in
    let apart : ¬ IsCandidateId ids c.args.id = c.if-contains.ensures in
    let one : IsCandidateId ids candidate = c.if-contains-2.ensures in
    let step : n.step ≡ c.step-step.result = c.step-step.ensures area in
    let from : c.step-step.result ≤ c.args.id = c.if-step-id.true in
    let is : candidate + n.step ≡ c.args.id = omega arith in
    record {
      yes_it = λ some. subst (IsKept n items) is
          (value-kept n items (g.met.N.IdLayout.is_numbering area) g.N.IdLayout.top ids (c.all_candidates-ids.ensures.ids area) (c.all_candidates-ids.ensures.candidates area) candidate one
          (subst (IsCleanBelow n items) (sym is) c.requires.walked.clean) (is-there c.get_by.result (get items candidate) c.get_by.ensures (sym c.is_some.ensures ∙ some)));
      not_it = λ none kept. value-gone n items (g.met.N.IdLayout.is_numbering area) g.N.IdLayout.top ids (c.all_candidates-ids.ensures.ids area) (c.all_candidates-ids.ensures.candidates area) candidate one
          (subst (λ (k : ℕ). ¬ IsCandidateId ids k) (sym is) apart) (is-gone c.get_by.result (get items candidate) c.get_by.ensures (sym c.is_some.ensures ∙ none)) (subst (IsKept n items) (sym is) kept);
      saw = saw-past n items c.args.seen.now.words c.args.id c.requires.walked.saw ids (c.all_candidates-ids.ensures.candidates area) apart;
    }

pub is_kept-requires : goal.is_kept-requires
is_kept-requires g c = record { ids = c.requires.ids; lawful = c.requires.lawful; stands = c.requires.stands; describes = c.requires.describes; known = c.requires.known }

pub returns : goal.returns
returns g c =
    let area : Area = g.S.ItemStore.mounted_on c.args.store.now in
    let n : Numbering = g.N.IdLayout.numbering area in
    let items : Items = on g.S.ItemStore.contents (g.F.Flash.device c.args.flash.now) area in
    let ids : IdRange = c.all_candidates-ids.result in
    let apart : ¬ IsCandidateId ids c.args.id = c.if-contains.ensures in
    record {
      yes_it = c.is_kept.ensures.yes_it;
      not_it = c.is_kept.ensures.not_it;
      saw = saw-past n items c.args.seen.now.words c.args.id c.requires.walked.saw ids (c.all_candidates-ids.ensures.candidates area) apart;
    }
