use Rattle.std.proofs.Common.{refl}
use Rattle.std.proofs.lemmas.Bool.{false≢true}
use Rattle.flash_sim.specs.Device.{Device}
use Rattle.flash_map.specs.declared.area.Area.{Area}
use Rattle.flash_map.specs.Area.{geometry_of, sectors_of, value_limit}
use Rattle.flash_map.specs.On.{on}
use Rattle.item_laws.specs.Items.{Items}
use Rattle.named_items.specs.Leaving.{pair_at_id}
use Rattle.named_items.specs.Pairs.{settings_in}
use Rattle.named_items.specs.Putting.{IsPut}
use Rattle.named_items.proofs.LeavingSteps.{takes, puts-leave}
use Rattle.backend_zms.specs.IdLayout.{numbering_of}
use Rattle.backend_zms.proofs.GroupLemmas.{group-full, group-free}
use Rattle.named_items.specs.Orphans.{HasOrphans}
use Rattle.backend_zms.proofs.numbering.ZmsIdLayoutNewNames.put_name.Goals as goal

-- there is an id left
pub put_new-requires-clause-candidate : goal.put_new-requires-clause-candidate
put_new-requires-clause-candidate g c =
    let area : Area = g.S.ItemStore.mounted_on c.args.store.now in
    let before : Items = on g.S.ItemStore.contents (g.F.Flash.device c.args.flash.now) area in
    record {
      absent = c.requires.absent;
      few = group-free (value_limit area) before c.args.name.now c.requires.here.clean c.in-Some.free c.in-Some.ensures;
      inside = c.in-Some.ensures.0.inside;
      candidate = c.in-Some.ensures.0.candidate;
      free = c.in-Some.ensures.1;
    }

-- there is none
pub returns-in-None-clause-ends : goal.returns-in-None-clause-ends
returns-in-None-clause-ends g c =
    let area : Area = g.S.ItemStore.mounted_on c.args.store.now in
    let before : Items = on g.S.ItemStore.contents (g.F.Flash.device c.args.flash.now) area in
    record {
      ends = (group-full (value_limit area) before c.args.name.now c.requires.here.clean c.requires.absent c.in-None.ensures, refl);
      cut = λ lost. absurd {A = IsPut (settings_in (numbering_of area) before) (settings_in (numbering_of area) before) c.args.name.now c.args.value.now} (false≢true lost);
      few = λ lost. absurd {A = HasOrphans (numbering_of area) before 1} (false≢true lost);
      clean = λ kept. c.requires.here.clean;
    }

pub returns-in-None-clause-store : goal.returns-in-None-clause-store
returns-in-None-clause-store g c =
    let d : Device = g.F.Flash.device c.args.flash.now in
    let area : Area = g.S.ItemStore.mounted_on c.args.store.now in
    record {
      area = refl;
      sound = g.met.S.ItemStore.stands_reads c.args.store.now (geometry_of d area) (sectors_of d area) c.requires.here.up;
      up = λ kept. c.requires.here.up;
      down = λ lost. absurd (false≢true lost);
    }

-- the least free id takes the name
pub returns-in-Some-clause-items : goal.returns-in-Some-clause-items
returns-in-Some-clause-items g c =
    let e : Device = g.F.Flash.device c.put_new.new.flash in
    let area : Area = g.S.ItemStore.mounted_on c.args.store.now in
    let before : Items = on g.S.ItemStore.contents (g.F.Flash.device c.args.flash.now) area in
    puts-leave (numbering_of area) before c.args.name.now c.args.value.now (on g.S.ItemStore.contents e area) (pair_at_id (numbering_of area) c.in-Some.free c.args.name.now c.args.value.now) c.put_new.result
    (takes (numbering_of area) before c.args.name.now c.args.value.now c.in-Some.free c.requires.absent c.in-Some.ensures) c.put_new.ensures.items

pub returns-in-None-clause-items : goal.returns-in-None-clause-items
returns-in-None-clause-items g c = refl
