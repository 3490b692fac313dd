use Rattle.std.proofs.Common.{◌≡◌, Some, refl, arith}
use Rattle.std.proofs.lemmas.Bool.{false≢true}
use Rattle.flash_sim.specs.Device.{Device}
use Rattle.flash_map.specs.declared.area.Area.{Area}
use Rattle.flash_map.specs.Area.{geometry_of, sectors_of, value_limit}
use Rattle.item_laws.specs.Items.{Items}
use Rattle.flash_map.specs.On.{on}
use Rattle.named_items.specs.Candidates.{IsFreeCandidate}
use Rattle.named_items.specs.Pairs.{count_in}
use Rattle.named_items.specs.Putting.{IsPut}
use Rattle.named_items.proofs.LeavingSteps.{takes, puts-leave}
use Rattle.named_items.specs.Leaving.{pair_at_id}
use Rattle.backend_nvs.specs.IdLayout.{numbering_of, settings_of}
use Rattle.backend_nvs.proofs.CountSteps.{all-used, names-over, few-free, free-few}
use Rattle.named_items.specs.Orphans.{HasOrphans}
use Rattle.backend_nvs.proofs.putting.NvsIdLayoutNewNames.put_name.Goals as goal

pub put_new-requires-clause-candidate : goal.put_new-requires-clause-candidate
put_new-requires-clause-candidate g c =
    let d : Device = g.F.Flash.device c.args.flash.now in
    let own : Area = g.S.ItemStore.mounted_on c.args.store.now in
    let before : Items = on g.S.ItemStore.contents d own in
    let least : IsFreeCandidate (numbering_of own) before c.args.name.now (Some c.in-Some.free) = c.in-Some.ensures c.args.name.now in
    record {
      absent = c.requires.absent;
      few = few-free (settings_of own before) c.args.name.now (free-few (value_limit own) before c.requires.here.clean c.in-Some.free least.0.inside least.1);
      inside = least.0.inside;
      candidate = refl;
      free = least.1;
    }

-- no id is free
pub returns-then-is_full-clause-ends : goal.returns-then-is_full-clause-ends
returns-then-is_full-clause-ends g c =
    let d : Device = g.F.Flash.device c.args.flash.now in
    let own : Area = g.S.ItemStore.mounted_on c.args.store.now in
    let before : Items = on g.S.ItemStore.contents d own in
    let is : c.read_count-count.result ≡ 511 = c.is_full.ensures.0 c.if-is_full.true in
    let counted : c.read_count-count.result ≡ count_in (numbering_of own) before = c.read_count-count.ensures.count in
    let full : count_in (numbering_of own) before ≡ 511 = omega arith in
    record {
      ends = (names-over (value_limit own) before c.requires.here.clean c.args.name.now c.requires.absent (all-used (value_limit own) before c.requires.here.clean c.args.name.now (c.in-None.ensures c.args.name.now) full), refl);
      cut = λ lost. absurd {A = IsPut (settings_of own before) (settings_of own before) c.args.name.now c.args.value.now} (false≢true lost);
      few = λ lost. absurd {A = HasOrphans (numbering_of own) before 1} (false≢true lost);
      clean = λ kept. c.requires.here.clean;
    }

pub returns-then-is_full-clause-store : goal.returns-then-is_full-clause-store
returns-then-is_full-clause-store g c =
    let d : Device = g.F.Flash.device c.args.flash.now in
    let own : Area = g.S.ItemStore.mounted_on c.args.store.now in
    record {
      area = refl;
      sound = g.met.S.ItemStore.stands_reads c.args.store.now (geometry_of d own) (sectors_of d own) c.requires.here.up;
      up = λ kept. c.requires.here.up;
      down = λ lost. absurd (false≢true lost);
    }

-- the least free id takes the name
pub returns-in-Some-clause-items : goal.returns-in-Some-clause-items
returns-in-Some-clause-items g c =
    let d : Device = g.F.Flash.device c.args.flash.now in
    let e : Device = g.F.Flash.device c.put_new.new.flash in
    let own : Area = g.S.ItemStore.mounted_on c.args.store.now in
    let before : Items = on g.S.ItemStore.contents d own in
    puts-leave (numbering_of own) before c.args.name.now c.args.value.now (on g.S.ItemStore.contents e own) (pair_at_id (numbering_of own) c.in-Some.free c.args.name.now c.args.value.now) c.put_new.result
    (takes (numbering_of own) before c.args.name.now c.args.value.now c.in-Some.free c.requires.absent (c.in-Some.ensures c.args.name.now)) c.put_new.ensures.items

pub returns-then-is_full-clause-items : goal.returns-then-is_full-clause-items
returns-then-is_full-clause-items g c = refl

pub add_name-requires-clause-full : goal.add_name-requires-clause-full
add_name-requires-clause-full g c = c.in-None.ensures c.args.name.now

pub returns-else-is_full-clause-items : goal.returns-else-is_full-clause-items
returns-else-is_full-clause-items g c = c.add_name.ensures.items
