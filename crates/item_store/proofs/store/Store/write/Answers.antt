use Rattle.std.proofs.Common.{◌≡◌, length, refl, ap, arith, ◌∷◌, []}
use Rattle.flash_sim.specs.Device.{Device}
use Rattle.flash_map.specs.declared.area.Area.{Area}
use Rattle.flash_map.specs.declared.area.Geometry.{Geometry}
use Rattle.flash_map.specs.Area.{geometry_of, sector_size}
use Rattle.item_store.specs.SectorFormat.{IsSectorFormat}
use Rattle.item_store.proofs.Areas.{unit_is}
use Rattle.item_store.proofs.RoomFacts.{rest_open, at_of}
use Rattle.item_store.proofs.WriteSteps.{write_held, short-by, long-by, unit-by}
use Rattle.std.proofs.lemmas.Bool.{false≢true}
use Rattle.flash_map.proofs.Touches.{untouched}
use Rattle.item_store.proofs.store.Store.write.Goals as goal

pub geometry-g-requires : goal.geometry-g-requires
geometry-g-requires g c = c.requires.stands.area.lawful.in_bank

pub is_too_long-requires-clause-unit : goal.is_too_long-requires-clause-unit
is_too_long-requires-clause-unit g c =
    let a : Device = g.F.Flash.device c.args.flash.now in
    let area : Area = c.args.self.now.area in
    unit-by a area c.geometry-g.result c.geometry-g.ensures (unit_is a area (g.met.F.Flash.is_lawful c.args.flash.now) c.requires.stands.area.lawful)

pub is_too_long-requires-clause-size : goal.is_too_long-requires-clause-size
is_too_long-requires-clause-size g c =
    let a : Device = g.F.Flash.device c.args.flash.now in
    let area : Area = c.args.self.now.area in
    let shape : c.geometry-g.result.sector ≡ sector_size a area = ap (λ (x : Geometry). x.sector) c.geometry-g.ensures in
    let most = c.requires.stands.area.lawful.at_most in
    omega arith

pub returns-then-is_too_long : goal.returns-then-is_too_long
returns-then-is_too_long g c =
    let a : Device = g.F.Flash.device c.args.flash.now in
    let area : Area = c.args.self.now.area in
    record {
      touches = untouched (c.args.self.now.area ∷ []) (g.F.Flash.device c.args.flash.now);
      area = refl;
      written = λ written. written;
      ends = (long-by g.T.SlotSectors.format_of a area c.geometry-g.result (length c.args.bytes.now) c.is_too_long.result c.geometry-g.ensures c.is_too_long.ensures c.if-is_too_long.true, refl);
      undamaged = c.requires.stands.undamaged;
      stands = λ _. c.requires.stands;
      down = λ lost. absurd (false≢true lost);
    }

pub holds-requires : goal.holds-requires
holds-requires g c = c.requires.stands

pub returns-then-holds : goal.returns-then-holds
returns-then-holds g c =
    let a : Device = g.F.Flash.device c.args.flash.now in
    let area : Area = c.args.self.now.area in
    let law : IsSectorFormat (g.T.SlotSectors.format_of (geometry_of a area)) = g.met.T.SlotSectors.lawful (geometry_of a area) (unit_is a area (g.met.F.Flash.is_lawful c.args.flash.now) c.requires.stands.area.lawful) in
    let on = at_of g.T.SlotSectors.role g.T.SlotSectors.format_of g.T.SlotSectors.kept a c.args.self.now c.requires.stands in
    let form = rest_open g.T.SlotSectors.role g.T.SlotSectors.format_of g.T.SlotSectors.kept a area c.args.self.now.current c.args.self.now.opened law (g.met.F.Flash.is_lawful c.args.flash.now) on in
    let short = short-by g.T.SlotSectors.format_of a area c.geometry-g.result (length c.args.bytes.now) c.is_too_long.result c.geometry-g.ensures c.is_too_long.ensures c.if-is_too_long.false in
    record {
      touches = untouched (c.args.self.now.area ∷ []) (g.F.Flash.device c.args.flash.now);
      area = refl;
      written = λ written. written;
      ends = write_held (g.T.SlotSectors.format_of (geometry_of a area)) law a area form c.args.id c.args.bytes.now c.requires.some short c.if-holds.ensures;
      undamaged = c.requires.stands.undamaged;
      stands = λ _. c.requires.stands;
      down = λ lost. absurd (false≢true lost);
    }

pub write_changed-requires : goal.write_changed-requires
write_changed-requires g c =
    record {
      stands = c.requires.stands;
      ordinary = c.requires.ordinary;
      some = c.requires.some;
      differs = c.if-holds.ensures;
    }

pub returns : goal.returns
returns g c =
    record {
      touches = c.write_changed.ensures.touches;
      area = c.write_changed.ensures.area;
      written = c.write_changed.ensures.written;
      ends = c.write_changed.ensures.ends;
      undamaged = c.write_changed.ensures.undamaged;
      stands = c.write_changed.ensures.stands;
      down = c.write_changed.ensures.down;
    }
