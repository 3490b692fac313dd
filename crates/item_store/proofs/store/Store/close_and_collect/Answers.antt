use Rattle.std.proofs.Common.{inl, refl, sym, ◌∙◌, ◌∷◌, []}
use Rattle.flash_sim.specs.Device.{Device}
use Rattle.flash_map.specs.declared.area.Area.{Area}
use Rattle.flash_map.specs.Area.{geometry_of, sectors_of}
use Rattle.item_store.proofs.Areas.{keeps_none, open_inside}
use Rattle.item_store.proofs.ClosingSteps.{run_pass-round}
use Rattle.flash_map.proofs.Touches.{untouched}
use Rattle.item_store.proofs.store.Store.close_and_collect.Goals as goal

pub is_clean-requires : goal.is_clean-requires
is_clean-requires g c =
    let a : Device = g.F.Flash.device c.args.flash.now in
    record {
      area = c.requires.area;
      inside = open_inside (g.T.SlotSectors.format_of (geometry_of a c.args.self.now.area)) a c.args.self.now.area c.args.self.now.current c.requires.area.lawful c.requires.current;
    }

pub returns-then-is_clean : goal.returns-then-is_clean
returns-then-is_clean g c =
    let a : Device = g.F.Flash.device c.args.flash.now in
    record {
      touches = untouched (c.args.self.now.area ∷ []) (g.F.Flash.device c.args.flash.now);
      area = refl;
      items = keeps_none (g.T.SlotSectors.format_of (geometry_of a c.args.self.now.area)) (sectors_of a c.args.self.now.area) c.requires.undamaged;
      written = λ written. written;
      changed = inl refl;
      ends = inl (record { clean = sym c.is_clean.ensures ∙ c.if-is_clean.true; same = refl });
      stands = c.requires;
      down = tt;
    }

pub run_pass-requires : goal.run_pass-requires
run_pass-requires g c =
    record {
      stands = c.requires;
      used = sym c.is_clean.ensures ∙ c.if-is_clean.false;
    }

pub returns : goal.returns
returns g c =
    let a : Device = g.F.Flash.device c.args.flash.now in
    let area : Area = c.args.self.now.area in
    record {
      touches = c.run_pass.ensures.touches;
      area = c.run_pass.ensures.area;
      items = c.run_pass.ensures.items;
      written = c.run_pass.ensures.written;
      changed = c.run_pass.ensures.changed;
      ends = run_pass-round (g.T.SlotSectors.format_of (geometry_of a area)) a (g.F.Flash.device c.run_pass.new.flash) area c.args.self.now.current c.run_pass.result c.run_pass.ensures.ends;
      stands = c.run_pass.ensures.stands;
      down = c.run_pass.ensures.down;
    }
