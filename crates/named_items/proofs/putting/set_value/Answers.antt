use Rattle.std.proofs.Common.{◌≡◌, ℕ, ◌+◌, ◌≤◌, ◌∷◌, [], length, true, Some, refl, sym, subst, ◌∙◌, arith}
use Rattle.std.specs.FinMap.{get}
use Rattle.std.proofs.lemmas.Bool.{false≢true}
use Rattle.flash_sim.specs.Device.{Device}
use Rattle.flash_map.specs.declared.area.Area.{Area}
use Rattle.flash_map.specs.declared.area.Geometry.{Geometry}
use Rattle.flash_map.specs.Area.{geometry_of, sectors_of}
use Rattle.flash_map.specs.On.{on}
use Rattle.item_laws.specs.Items.{Items}
use Rattle.named_items.specs.StoreEnds as items
use Rattle.named_items.specs.Numbering.{Numbering}
use Rattle.named_items.specs.Pairs.{is_pair, settings_in}
use Rattle.named_items.specs.Putting.{IsPut}
use Rattle.named_items.proofs.ChangeSteps.{change-none}
use Rattle.named_items.proofs.CostLemmas.{put-again}
use Rattle.named_items.proofs.LeavingSteps.{changes}
use Rattle.named_items.proofs.LookupSteps.{at-passes}
use Rattle.named_items.proofs.IdSteps.{none-found}
use Rattle.named_items.proofs.SpendSteps.{one-call, calls-within}
use Rattle.named_items.specs.Orphans.{HasOrphans}
use Rattle.named_items.proofs.putting.set_value.Goals as goal

pub setting_of-requires-clause-lawful : goal.setting_of-requires-clause-lawful
setting_of-requires-clause-lawful g c = c.requires.here.lawful

pub setting_of-requires-clause-stands : goal.setting_of-requires-clause-stands
setting_of-requires-clause-stands g c = c.requires.here.up

pub setting_of-requires-clause-clean : goal.setting_of-requires-clause-clean
setting_of-requires-clause-clean g c = c.requires.here.clean

pub put_name-requires-clause-absent : goal.put_name-requires-clause-absent
put_name-requires-clause-absent g c =
    let own : Area = g.S.ItemStore.mounted_on c.args.store.now in
    none-found (g.N.IdLayout.numbering own) (on g.S.ItemStore.contents (g.F.Flash.device c.args.flash.now) own) c.args.name.now c.setting_of.result c.in_default.is c.setting_of.ensures.candidate

pub change_value-requires-clause-at : goal.change_value-requires-clause-at
change_value-requires-clause-at g c = c.in-Some.ensures.candidate

pub change_value-requires-clause-differs : goal.change_value-requires-clause-differs
change_value-requires-clause-differs g c = λ same. c.has_bytes.ensures.not_it c.if-has_bytes.false (c.in-Some.ensures.value ∙ same)

pub returns-in_default-clause-items : goal.returns-in_default-clause-items
returns-in_default-clause-items g c = c.put_name.ensures.items

-- the name has this value
pub returns-then-has_bytes-clause-store : goal.returns-then-has_bytes-clause-store
returns-then-has_bytes-clause-store g c =
    let d : Device = g.F.Flash.device c.args.flash.now in
    let own : Area = g.S.ItemStore.mounted_on c.args.store.now in
    record {
      area = refl;
      sound = g.met.S.ItemStore.stands_reads c.args.store.now (geometry_of d own) (sectors_of d own) c.requires.here.up;
      up = λ kept. c.requires.here.up;
      down = λ lost. absurd (false≢true lost);
    }

pub returns-then-has_bytes-clause-ends : goal.returns-then-has_bytes-clause-ends
returns-then-has_bytes-clause-ends g c =
    let d : Device = g.F.Flash.device c.args.flash.now in
    let own : Area = g.S.ItemStore.mounted_on c.args.store.now in
    let n : Numbering = g.N.IdLayout.numbering own in
    let before : Items = on g.S.ItemStore.contents d own in
    let candidate : ℕ = c.in-Some.setting.id in
    let here : get before (candidate + n.step) ≡ Some c.args.value.now = sym c.in-Some.ensures.value ∙ c.has_bytes.ensures.yes_it c.if-has_bytes.true in
    let k : Geometry = geometry_of d own in
    let pair : is_pair n candidate c.args.name.now c.args.value.now ≡ true = at-passes n before c.args.name.now candidate c.in-Some.ensures.candidate c.args.value.now c.requires.value.some (subst (λ (most : ℕ). length c.args.value.now ≤ most) (sym (g.met.N.IdLayout.longest own)) c.requires.value.short) in
    record {
      ends = change-none n (g.met.N.IdLayout.is_numbering own) g.N.IdLayout.counted g.N.IdLayout.too_many (g.met.N.IdLayout.count_cost own) g.met.N.IdLayout.stored_few before c.requires.here.clean c.args.name.now c.args.value.now candidate (candidate + n.step) c.in-Some.ensures.candidate pair refl here (g.S.ItemStore.price k) (g.S.ItemStore.cap k) d;
      cut = λ lost. absurd {A = IsPut (settings_in n before) (settings_in n before) c.args.name.now c.args.value.now} (false≢true lost);
      few = λ lost. absurd {A = HasOrphans n before 1} (false≢true lost);
      clean = λ kept. c.requires.here.clean;
    }

pub returns-then-has_bytes-clause-items : goal.returns-then-has_bytes-clause-items
returns-then-has_bytes-clause-items g c =
    let d : Device = g.F.Flash.device c.args.flash.now in
    let own : Area = g.S.ItemStore.mounted_on c.args.store.now in
    let n : Numbering = g.N.IdLayout.numbering own in
    let before : Items = on g.S.ItemStore.contents d own in
    let candidate : ℕ = c.in-Some.setting.id in
    let here : get before (candidate + n.step) ≡ Some c.args.value.now = sym c.in-Some.ensures.value ∙ c.has_bytes.ensures.yes_it c.if-has_bytes.true in
    ((candidate + n.step, c.args.value.now) ∷ [], changes n before c.args.name.now c.args.value.now candidate c.in-Some.ensures.candidate, sym (put-again before (candidate + n.step) c.args.value.now here))

pub returns-clause-items : goal.returns-clause-items
returns-clause-items g c = c.change_value.ensures.items

pub returns-clause-at_most : goal.returns-clause-at_most
returns-clause-at_most g c =
    let d : Device = g.F.Flash.device c.args.flash.now in
    let e : Device = g.F.Flash.device c.change_value.new.flash in
    let k = geometry_of d (g.S.ItemStore.mounted_on c.args.store.now) in
    calls-within d e 1 k (omega arith) (one-call d e (items.item_units k) c.change_value.ensures.at_most)
