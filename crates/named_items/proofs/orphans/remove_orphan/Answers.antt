use Rattle.std.proofs.Common.{sym, ap, ◌∙◌, Bool, subst, ◌∷◌, []}
use Rattle.std.specs.Prelude.{is_err}
use Rattle.std.proofs.lemmas.Bool.{false≢true}
use Rattle.flash_sim.specs.Device.{Device}
use Rattle.flash_map.specs.declared.area.Area.{Area}
use Rattle.flash_map.specs.Area.{geometry_of}
use Rattle.flash_map.specs.On.{on}
use Rattle.item_laws.specs.Items.{Items}
use Rattle.backend_api.specs.Room.{removal_units}
use Rattle.named_items.specs.Numbering.{Numbering}
use Rattle.named_items.specs.Pairs.{IsKept}
use Rattle.named_items.proofs.RemovalUnits.{delete-per_item, delete-present}
use Rattle.named_items.proofs.RemovedSteps.{delete-alters, delete-gone, delete-still}
use Rattle.named_items.proofs.OrphanSteps.{delete-cut, delete-keeps, delete-removes, delete-kept, delete-absent, delete-rests}
use Rattle.flash_map.specs.Touches.{Touches}
use Rattle.named_items.proofs.orphans.remove_orphan.Goals as goal

pub returns : goal.returns
returns g c = record {
  store = record {
    area = c.delete.ensures.area;
    sound = c.delete.ensures.sound;
    up = λ kept. c.delete.ensures.stands (ap is_err c.in_ok-delete.was);
    down = λ lost. absurd (false≢true lost);
  };
  one = record {
    keeps = let d : Device = g.F.Flash.device c.args.flash.now in
        let e : Device = g.F.Flash.device c.delete.new.flash in
        let area : Area = g.S.ItemStore.mounted_on c.args.store.now in
        let n : Numbering = g.N.IdLayout.numbering area in
        let before : Items = on g.S.ItemStore.contents d area in
        let after : Items = on g.S.ItemStore.contents e area in
        let orphan : ¬ IsKept n before c.args.id = c.requires.orphan in
        record {
          settings = delete-keeps n (g.met.N.IdLayout.is_numbering area) before c.args.id orphan d e after c.delete.result c.delete.ensures.ends;
          kept = delete-kept n (g.met.N.IdLayout.is_numbering area) before c.args.id orphan d e after c.delete.result c.delete.ensures.ends;
          still = delete-still before after c.args.id n (g.met.N.IdLayout.is_numbering area) orphan d e c.delete.result c.delete.ensures.ends;
          gone = delete-gone before after c.args.id d e c.delete.result c.delete.ensures.ends;
        };
    ends = let d : Device = g.F.Flash.device c.args.flash.now in
        let e : Device = g.F.Flash.device c.delete.new.flash in
        let area : Area = g.S.ItemStore.mounted_on c.args.store.now in
        let n : Numbering = g.N.IdLayout.numbering area in
        let before : Items = on g.S.ItemStore.contents d area in
        let after : Items = on g.S.ItemStore.contents e area in
        let orphan : ¬ IsKept n before c.args.id = c.requires.orphan in
        record {
          others = delete-alters before after c.args.id d e c.delete.result c.delete.ensures.ends;
          still = delete-still before after c.args.id n (g.met.N.IdLayout.is_numbering area) orphan d e c.delete.result c.delete.ensures.ends;
          idle = λ kept. absurd (orphan kept);
          absent = λ none. delete-absent n (g.met.N.IdLayout.is_numbering area) before c.args.id orphan d e after c.delete.result c.delete.ensures.ends none;
          rests = λ clean. delete-rests n (g.met.N.IdLayout.is_numbering area) before c.args.id orphan d e after c.delete.result c.delete.ensures.ends clean;
          present = λ lost. absurd (false≢true lost);
          removes = λ kept. delete-removes n (g.met.N.IdLayout.is_numbering area) before c.args.id orphan d e after c.delete.result (ap is_err c.in_ok-delete.was) c.delete.ensures.ends;
        };
    units = let d : Device = g.F.Flash.device c.args.flash.now in
        let e : Device = g.F.Flash.device c.delete.new.flash in
        let area : Area = g.S.ItemStore.mounted_on c.args.store.now in
        let n : Numbering = g.N.IdLayout.numbering area in
        let before : Items = on g.S.ItemStore.contents d area in
        let after : Items = on g.S.ItemStore.contents e area in
        let orphan : ¬ IsKept n before c.args.id = c.requires.orphan in
        record {
          at_most = c.delete.ensures.units.removal;
          one = c.delete.ensures.units.one;
          next = c.delete.ensures.units.next;
          per_item = λ kept. delete-per_item (removal_units (geometry_of d area)) d e before after c.args.id c.delete.result (ap is_err c.in_ok-delete.was) c.delete.ensures.ends c.delete.ensures.units.removal;
        };
  };
  touches = c.in_ok-delete.ensures.touches;
  written = c.delete.ensures.written;
  describes = λ kept. c.fill_index.ensures;
  gone = λ kept. delete-cut (on g.S.ItemStore.contents (g.F.Flash.device c.args.flash.now) (g.S.ItemStore.mounted_on c.args.store.now)) c.args.id (g.F.Flash.device c.args.flash.now) (g.F.Flash.device c.delete.new.flash)
      (on g.S.ItemStore.contents (g.F.Flash.device c.delete.new.flash) (g.S.ItemStore.mounted_on c.args.store.now)) c.delete.result (ap is_err c.in_ok-delete.was) c.delete.ensures.ends;
}

-- ---- where it was cut

pub returns-in_err-delete : goal.returns-in_err-delete
returns-in_err-delete g c = record {
  store = record {
    area = c.delete.ensures.area;
    sound = c.delete.ensures.sound;
    up = λ kept. absurd (false≢true (sym kept ∙ c.from_residual.ensures.0));
    down = λ lost. c.delete.ensures.down (ap is_err c.in_err-delete.was);
  };
  one = record {
    keeps = let d : Device = g.F.Flash.device c.args.flash.now in
        let e : Device = g.F.Flash.device c.delete.new.flash in
        let area : Area = g.S.ItemStore.mounted_on c.args.store.now in
        let n : Numbering = g.N.IdLayout.numbering area in
        let before : Items = on g.S.ItemStore.contents d area in
        let after : Items = on g.S.ItemStore.contents e area in
        let orphan : ¬ IsKept n before c.args.id = c.requires.orphan in
        record {
          settings = delete-keeps n (g.met.N.IdLayout.is_numbering area) before c.args.id orphan d e after c.delete.result c.delete.ensures.ends;
          kept = delete-kept n (g.met.N.IdLayout.is_numbering area) before c.args.id orphan d e after c.delete.result c.delete.ensures.ends;
          still = delete-still before after c.args.id n (g.met.N.IdLayout.is_numbering area) orphan d e c.delete.result c.delete.ensures.ends;
          gone = delete-gone before after c.args.id d e c.delete.result c.delete.ensures.ends;
        };
    ends = let d : Device = g.F.Flash.device c.args.flash.now in
        let e : Device = g.F.Flash.device c.delete.new.flash in
        let area : Area = g.S.ItemStore.mounted_on c.args.store.now in
        let n : Numbering = g.N.IdLayout.numbering area in
        let before : Items = on g.S.ItemStore.contents d area in
        let after : Items = on g.S.ItemStore.contents e area in
        let orphan : ¬ IsKept n before c.args.id = c.requires.orphan in
        record {
          others = delete-alters before after c.args.id d e c.delete.result c.delete.ensures.ends;
          still = delete-still before after c.args.id n (g.met.N.IdLayout.is_numbering area) orphan d e c.delete.result c.delete.ensures.ends;
          idle = λ kept. absurd (orphan kept);
          absent = λ none. delete-absent n (g.met.N.IdLayout.is_numbering area) before c.args.id orphan d e after c.delete.result c.delete.ensures.ends none;
          rests = λ clean. delete-rests n (g.met.N.IdLayout.is_numbering area) before c.args.id orphan d e after c.delete.result c.delete.ensures.ends clean;
          present = λ lost. delete-present d e before after c.args.id c.delete.result (ap is_err c.in_err-delete.was) c.delete.ensures.ends;
          removes = λ kept. absurd (false≢true (sym kept ∙ c.from_residual.ensures.0));
        };
    units = let d : Device = g.F.Flash.device c.args.flash.now in
        let e : Device = g.F.Flash.device c.delete.new.flash in
        let area : Area = g.S.ItemStore.mounted_on c.args.store.now in
        let n : Numbering = g.N.IdLayout.numbering area in
        let before : Items = on g.S.ItemStore.contents d area in
        let after : Items = on g.S.ItemStore.contents e area in
        let orphan : ¬ IsKept n before c.args.id = c.requires.orphan in
        record {
          at_most = c.delete.ensures.units.removal;
          one = c.delete.ensures.units.one;
          next = c.delete.ensures.units.next;
          per_item = λ kept. absurd (false≢true (sym kept ∙ c.from_residual.ensures.0));
        };
  };
  touches = subst (λ (lost : Bool). Touches (g.S.ItemStore.mounted_on c.args.store.now ∷ []) (g.F.Flash.device c.args.flash.now) (g.F.Flash.device c.delete.new.flash) lost) (sym c.from_residual.ensures.0) c.in_err-delete.ensures.touches;
  written = c.delete.ensures.written;
  describes = λ kept. absurd (false≢true (sym kept ∙ c.from_residual.ensures.0));
  gone = λ kept. absurd (false≢true (sym kept ∙ c.from_residual.ensures.0));
}

pub delete-requires : goal.delete-requires
delete-requires g c = record { lawful = c.requires.lawful; stands = c.requires.stands; known = c.requires.ids.all c.args.id c.requires.known }
