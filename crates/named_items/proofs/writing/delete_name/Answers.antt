use Rattle.std.proofs.Common.{◌≡◌, ℕ, ◌+◌, ◌∷◌, [], refl, sym, ap, subst, inl}
use Rattle.std.specs.Prelude.{is_err}
use Rattle.std.proofs.lemmas.Bool.{false≢true}
use Rattle.flash_sim.specs.Device.{Device}
use Rattle.flash_map.specs.declared.area.Area.{Area}
use Rattle.flash_map.specs.Area.{geometry_of, sectors_of}
use Rattle.flash_map.specs.On.{on}
use Rattle.item_laws.specs.Items.{Items}
use Rattle.named_items.specs.Numbering.{Numbering}
use Rattle.named_items.specs.Pairs.{settings_in}
use Rattle.named_items.specs.Ends.{AltersTwo, DeletesPair}
use Rattle.named_items.proofs.ItemSteps.{delete-ends, delete-cut, delete-orphans, delete-clean, delete-absent}
use Rattle.named_items.proofs.LeavingSteps.{delete-leaves}
use Rattle.named_items.proofs.OtherSteps.{deletes-alters}
use Rattle.named_items.proofs.OrphanSteps.{same-id}
use Rattle.named_items.proofs.IdSteps.{none-found}
use Rattle.named_items.proofs.SpendSteps.{spends-some}
use Rattle.named_items.proofs.writing.delete_name.Goals as goal

pub returns-clause-ends : goal.returns-clause-ends
returns-clause-ends g c =
    let d : Device = g.F.Flash.device c.args.flash.now in
    let e : Device = g.F.Flash.device c.delete_pair.new.flash in
    let area : Area = g.S.ItemStore.mounted_on c.args.store.now in
    let n : Numbering = g.N.IdLayout.numbering area in
    record {
      ends = delete-ends n (g.met.N.IdLayout.is_numbering area) (on g.S.ItemStore.contents d area) c.requires.here.clean c.args.name.now c.in-Some.setting.id c.in-Some.ensures.candidate d e (on g.S.ItemStore.contents e area) c.delete_pair.result
          (λ changed. spends-some g.S.ItemStore.contents d e area (area ∷ []) (is_err c.delete_pair.result) c.delete_pair.ensures.touches (λ same. changed (ap (settings_in n) same))) (subst (λ (k : ℕ). DeletesPair (on g.S.ItemStore.contents d area) (on g.S.ItemStore.contents e area) c.in-Some.setting.id (c.in-Some.setting.id + k) c.delete_pair.result) (sym (c.step.ensures area)) c.delete_pair.ensures.ends);
      cut = λ lost. delete-cut n (g.met.N.IdLayout.is_numbering area) (on g.S.ItemStore.contents d area) c.requires.here.clean c.args.name.now c.in-Some.setting.id c.in-Some.ensures.candidate (on g.S.ItemStore.contents e area) c.delete_pair.result lost (subst (λ (k : ℕ). DeletesPair (on g.S.ItemStore.contents d area) (on g.S.ItemStore.contents e area) c.in-Some.setting.id (c.in-Some.setting.id + k) c.delete_pair.result) (sym (c.step.ensures area)) c.delete_pair.ensures.ends);
      few = λ lost. delete-orphans n (g.met.N.IdLayout.is_numbering area) (on g.S.ItemStore.contents d area) c.requires.here.clean c.args.name.now c.in-Some.setting.id c.in-Some.ensures.candidate (on g.S.ItemStore.contents e area) c.delete_pair.result lost (subst (λ (k : ℕ). DeletesPair (on g.S.ItemStore.contents d area) (on g.S.ItemStore.contents e area) c.in-Some.setting.id (c.in-Some.setting.id + k) c.delete_pair.result) (sym (c.step.ensures area)) c.delete_pair.ensures.ends);
      clean = λ kept. delete-clean n (g.met.N.IdLayout.is_numbering area) (on g.S.ItemStore.contents d area) c.requires.here.clean c.args.name.now c.in-Some.setting.id c.in-Some.ensures.candidate (on g.S.ItemStore.contents e area) c.delete_pair.result kept (subst (λ (k : ℕ). DeletesPair (on g.S.ItemStore.contents d area) (on g.S.ItemStore.contents e area) c.in-Some.setting.id (c.in-Some.setting.id + k) c.delete_pair.result) (sym (c.step.ensures area)) c.delete_pair.ensures.ends);
    }

pub returns-in_default-clause-ends : goal.returns-in_default-clause-ends
returns-in_default-clause-ends g c =
    let d : Device = g.F.Flash.device c.args.flash.now in
    let area : Area = g.S.ItemStore.mounted_on c.args.store.now in
    record {
      ends = delete-absent d (g.N.IdLayout.numbering area) (on g.S.ItemStore.contents d area) c.args.name.now (none-found (g.N.IdLayout.numbering area) (on g.S.ItemStore.contents d area) c.args.name.now c.setting_of.result c.in_default.is c.setting_of.ensures.candidate);
      cut = λ lost. absurd (false≢true lost);
      few = λ lost. absurd (false≢true lost);
      clean = λ kept. c.requires.here.clean;
    }

pub returns-in_default-clause-store : goal.returns-in_default-clause-store
returns-in_default-clause-store g c =
    let d : Device = g.F.Flash.device c.args.flash.now in
    let area : Area = g.S.ItemStore.mounted_on c.args.store.now in
    record {
      area = refl;
      sound = g.met.S.ItemStore.stands_reads c.args.store.now (geometry_of d area) (sectors_of d area) c.requires.here.up;
      up = λ kept. c.requires.here.up;
      down = λ lost. absurd (false≢true lost);
    }

pub returns-clause-others : goal.returns-clause-others
returns-clause-others g c = λ candidate at.
    let d : Device = g.F.Flash.device c.args.flash.now in
    let e : Device = g.F.Flash.device c.delete_pair.new.flash in
    let area : Area = g.S.ItemStore.mounted_on c.args.store.now in
    let n : Numbering = g.N.IdLayout.numbering area in
    let before : Items = on g.S.ItemStore.contents d area in
    let after : Items = on g.S.ItemStore.contents e area in
    let same : c.in-Some.setting.id ≡ candidate = same-id n before c.args.name.now c.in-Some.setting.id candidate c.in-Some.ensures.candidate at in
    subst (λ (k : ℕ). AltersTwo before after k (k + n.step)) same
    (subst (λ (k : ℕ). AltersTwo before after c.in-Some.setting.id (c.in-Some.setting.id + k)) (sym (c.step.ensures area)) (deletes-alters before after c.in-Some.setting.id (c.in-Some.setting.id + c.step.result) c.delete_pair.result c.delete_pair.ensures.ends))

pub returns-in_default-clause-others : goal.returns-in_default-clause-others
returns-in_default-clause-others g c = λ candidate at id one two. refl

pub setting_of-requires-clause-lawful : goal.setting_of-requires-clause-lawful
setting_of-requires-clause-lawful g c = c.requires.here.lawful

pub setting_of-requires-clause-stands : goal.setting_of-requires-clause-stands
setting_of-requires-clause-stands g c = c.requires.here.up

pub setting_of-requires-clause-clean : goal.setting_of-requires-clause-clean
setting_of-requires-clause-clean g c = c.requires.here.clean

pub returns-clause-written : goal.returns-clause-written
returns-clause-written g c = c.delete_pair.ensures.written

pub returns-in_default-clause-written : goal.returns-in_default-clause-written
returns-in_default-clause-written g c = λ blank. blank

pub returns-clause-items : goal.returns-clause-items
returns-clause-items g c =
    let d : Device = g.F.Flash.device c.args.flash.now in
    let e : Device = g.F.Flash.device c.delete_pair.new.flash in
    let area : Area = g.S.ItemStore.mounted_on c.args.store.now in
    delete-leaves (g.N.IdLayout.numbering area) (on g.S.ItemStore.contents d area) (on g.S.ItemStore.contents e area) c.args.name.now c.in-Some.setting.id (c.in-Some.setting.id + c.step.result) c.delete_pair.result c.in-Some.ensures.candidate
    (ap (λ (k : ℕ). c.in-Some.setting.id + k) (sym (c.step.ensures area))) c.delete_pair.ensures.ends

pub returns-in_default-clause-items : goal.returns-in_default-clause-items
returns-in_default-clause-items g c =
    let d : Device = g.F.Flash.device c.args.flash.now in
    let area : Area = g.S.ItemStore.mounted_on c.args.store.now in
    inl ((none-found (g.N.IdLayout.numbering area) (on g.S.ItemStore.contents d area) c.args.name.now c.setting_of.result c.in_default.is c.setting_of.ensures.candidate), refl)
