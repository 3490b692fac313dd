use Rattle.std.proofs.Common.{◌≡◌, ℕ, ◌+◌, ◌<◌, subst, arith}
use Rattle.flash_map.specs.declared.area.Area.{Area}
use Rattle.flash_map.specs.On.{on}
use Rattle.item_laws.specs.Items.{Items}
use Rattle.named_items.proofs.ListingSteps.{past-items, past-names, name-there, value-there, id-known, next-setting}
use Rattle.named_items.proofs.listing.next_setting.Goals as goal

pub returns-in_err-candidate : goal.returns-in_err-candidate
returns-in_err-candidate g c =
    let area : Area = g.S.ItemStore.mounted_on c.args.store.now in
    let items : Items = on g.S.ItemStore.contents (g.F.Flash.device c.args.flash.now) area in
    rw c.from_residual.ensures (past-items (g.N.IdLayout.numbering area) items c.args.after c.in_err-candidate.ensures.next)

pub returns-then-candidate-all_candidates : goal.returns-then-candidate-all_candidates
returns-then-candidate-all_candidates g c =
    let area : Area = g.S.ItemStore.mounted_on c.args.store.now in
    let items : Items = on g.S.ItemStore.contents (g.F.Flash.device c.args.flash.now) area in
    past-names (g.N.IdLayout.numbering area) items c.args.after c.all_candidates.result (c.all_candidates.ensures.candidates area) c.in_ok-candidate.candidate c.in_ok-candidate.ensures.next c.if-candidate-all_candidates.true

pub returns-in_err-name : goal.returns-in_err-name
returns-in_err-name g c =
    let area : Area = g.S.ItemStore.mounted_on c.args.store.now in
    let items : Items = on g.S.ItemStore.contents (g.F.Flash.device c.args.flash.now) area in
    absurd (name-there (g.N.IdLayout.numbering area) (g.met.N.IdLayout.is_numbering area) items c.requires.clean g.N.IdLayout.top c.all_candidates.result (c.all_candidates.ensures.ids area) c.args.after c.in_ok-candidate.candidate c.requires.from c.in_ok-candidate.ensures.next c.if-candidate-all_candidates.false c.in_err-name.ensures)

pub get_by-requires-clause-known : goal.get_by-requires-clause-known
get_by-requires-clause-known g c =
    let area : Area = g.S.ItemStore.mounted_on c.args.store.now in
    let items : Items = on g.S.ItemStore.contents (g.F.Flash.device c.args.flash.now) area in
    let known = id-known (g.N.IdLayout.numbering area) (g.met.N.IdLayout.is_numbering area) items c.requires.clean g.N.IdLayout.top c.all_candidates.result (c.all_candidates.ensures.ids area) c.args.after c.in_ok-candidate.candidate c.requires.from c.in_ok-candidate.ensures.next c.if-candidate-all_candidates.false (g.met.N.IdLayout.within area) in
    c.requires.ids.all (c.in_ok-candidate.candidate + c.step.result) (subst (λ (k : ℕ). c.in_ok-candidate.candidate + k < g.N.IdLayout.top) (c.step.ensures area) known)

pub overflow_add-candidate : goal.overflow_add-candidate
overflow_add-candidate g c =
    let area : Area = g.S.ItemStore.mounted_on c.args.store.now in
    let items : Items = on g.S.ItemStore.contents (g.F.Flash.device c.args.flash.now) area in
    let known : c.in_ok-candidate.candidate + (g.N.IdLayout.numbering area).step < g.N.IdLayout.top = id-known (g.N.IdLayout.numbering area) (g.met.N.IdLayout.is_numbering area) items c.requires.clean g.N.IdLayout.top c.all_candidates.result (c.all_candidates.ensures.ids area) c.args.after c.in_ok-candidate.candidate c.requires.from c.in_ok-candidate.ensures.next c.if-candidate-all_candidates.false (g.met.N.IdLayout.within area) in
    let step : (g.N.IdLayout.numbering area).step ≡ c.step.result = c.step.ensures area in
    let small = g.met.N.IdLayout.top_small in
    omega arith

pub returns-in_err-value : goal.returns-in_err-value
returns-in_err-value g c =
    let area : Area = g.S.ItemStore.mounted_on c.args.store.now in
    let items : Items = on g.S.ItemStore.contents (g.F.Flash.device c.args.flash.now) area in
    absurd (value-there (g.N.IdLayout.numbering area) (g.met.N.IdLayout.is_numbering area) items c.requires.clean g.N.IdLayout.top c.all_candidates.result (c.all_candidates.ensures.ids area) c.args.after c.in_ok-candidate.candidate c.requires.from c.in_ok-candidate.ensures.next c.if-candidate-all_candidates.false
    c.step.result (c.step.ensures area) c.in_err-value.ensures)

pub returns : goal.returns
returns g c =
    let area : Area = g.S.ItemStore.mounted_on c.args.store.now in
    let items : Items = on g.S.ItemStore.contents (g.F.Flash.device c.args.flash.now) area in
    next-setting (g.N.IdLayout.numbering area) (g.met.N.IdLayout.is_numbering area) items c.requires.clean g.N.IdLayout.top c.all_candidates.result (c.all_candidates.ensures.ids area) c.args.after c.in_ok-candidate.candidate c.requires.from c.in_ok-candidate.ensures.next c.if-candidate-all_candidates.false
    c.in_ok-name.name c.in_ok-value.value.now c.in_ok-name.ensures.0 c.step.result (c.step.ensures area) c.in_ok-value.ensures
