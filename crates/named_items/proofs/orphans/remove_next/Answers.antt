use Rattle.std.proofs.Common.{◌∷◌, [], refl}
use Rattle.std.proofs.lemmas.Bool.{false≢true}
use Rattle.flash_sim.specs.Device.{Device}
use Rattle.flash_map.specs.declared.area.Area.{Area}
use Rattle.flash_map.specs.Area.{geometry_of, sectors_of}
use Rattle.flash_map.specs.On.{on}
use Rattle.flash_map.proofs.Touches.{untouched}
use Rattle.item_laws.specs.Items.{Items}
use Rattle.backend_api.specs.Room.{removal_units}
use Rattle.named_items.specs.StoreEnds.{delete_units}
use Rattle.named_items.proofs.OrphanSteps.{keeps-same, looks-kept, spends-kept}
use Rattle.named_items.proofs.KeepSteps.{saw-after}
use Rattle.named_items.proofs.orphans.remove_next.Goals as goal

pub returns-then-is_kept_next : goal.returns-then-is_kept_next
returns-then-is_kept_next g c =
    let d : Device = g.F.Flash.device c.args.flash.now in
    let area : Area = g.S.ItemStore.mounted_on c.args.store.now in
    let items : Items = on g.S.ItemStore.contents d area in
    record {
      touches = untouched (area ∷ []) d;
      store = record {
        area = refl;
        sound = g.met.S.ItemStore.stands_reads c.args.store.now (geometry_of d area) (sectors_of d area) c.requires.stands;
        up = λ kept. c.requires.stands;
        down = λ lost. absurd (false≢true lost);
      };
      one = record {
        keeps = keeps-same (g.N.IdLayout.numbering area) items;
        ends = looks-kept (g.N.IdLayout.numbering area) (g.met.N.IdLayout.is_numbering area) items c.args.id d (c.is_kept_next.ensures.yes_it c.if-is_kept_next.true);
        units = spends-kept (removal_units (geometry_of d area)) (delete_units g.S.ItemStore.removal g.S.ItemStore.entry g.S.ItemStore.roomy d area) d items;
      };
      written = λ blank. blank;
      describes = λ kept. c.requires.describes;
      saw = λ kept. c.is_kept_next.ensures.saw;
    }

pub returns : goal.returns
returns g c =
    let step = c.remove_orphan.ensures in
    record {
      touches = step.touches;
      store = step.store;
      one = step.one;
      written = step.written;
      describes = step.describes;
      saw = λ kept.
          let d : Device = g.F.Flash.device c.args.flash.now in
          let e : Device = g.F.Flash.device c.remove_orphan.new.flash in
          let area : Area = g.S.ItemStore.mounted_on c.args.store.now in
          saw-after (g.N.IdLayout.numbering area) (g.met.N.IdLayout.is_numbering area) (on g.S.ItemStore.contents d area) (on g.S.ItemStore.contents e area) c.args.id step.one.ends.others (step.gone kept)
          (c.is_kept_next.ensures.not_it c.if-is_kept_next.false) c.is_kept_next.new.seen.words c.is_kept_next.ensures.saw;
    }

pub remove_orphan-requires : goal.remove_orphan-requires
remove_orphan-requires g c = record { ids = c.requires.ids; lawful = c.requires.lawful; stands = c.requires.stands; known = c.requires.known; orphan = c.is_kept_next.ensures.not_it c.if-is_kept_next.false }

pub is_kept_next-requires : goal.is_kept_next-requires
is_kept_next-requires g c = record {
  ids = c.requires.ids;
  lawful = c.requires.lawful;
  stands = c.requires.stands;
  describes = c.requires.describes;
  known = c.requires.known;
  walked = c.requires.walked;
}
