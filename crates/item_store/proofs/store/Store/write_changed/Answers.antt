use Rattle.std.proofs.Common.{◌≡◌, ◌∷◌, [], length, refl, sym, ap, subst, arith}
use Rattle.std.proofs.lemmas.Bool.{false≢true}
use Rattle.flash_sim.specs.Device.{Device}
use Rattle.flash_map.specs.declared.area.Area.{Area}
use Rattle.flash_map.specs.declared.area.Geometry.{Geometry}
use Rattle.flash_map.specs.Area.{geometry_of, sector_size, sectors_of}
use Rattle.flash_map.proofs.Touches.{untouched}
use Rattle.item_laws.specs.PairRounds.{live_cost}
use Rattle.item_store.specs.SectorFormat.{IsSectorFormat}
use Rattle.item_store.specs.Standing.{list_of}
use Rattle.item_store.proofs.Areas.{unit_is}
use Rattle.item_store.proofs.CallFacts.{to_geometry}
use Rattle.item_store.proofs.RoomFacts.{rest_open, at_of}
use Rattle.item_store.proofs.WriteSteps.{write_done, write_full, write_stops, ends_true, ends_false, short-by, long-by, narrow-by, unit-by, need-by}
use Rattle.item_store.proofs.store.Store.write_changed.Goals as goal

pub geometry-g-requires : goal.geometry-g-requires
geometry-g-requires g c = c.requires.stands.area.lawful.in_bank

pub is_too_long-requires-clause-unit : goal.is_too_long-requires-clause-unit
is_too_long-requires-clause-unit g c =
    let a : Device = g.F.Flash.device c.args.flash.now in
    let area : Area = c.args.self.now.area in
    unit-by a area c.geometry-g.result c.geometry-g.ensures (unit_is a area (g.met.F.Flash.is_lawful c.args.flash.now) c.requires.stands.area.lawful)

pub is_too_long-requires-clause-size : goal.is_too_long-requires-clause-size
is_too_long-requires-clause-size g c =
    let a : Device = g.F.Flash.device c.args.flash.now in
    let area : Area = c.args.self.now.area in
    let shape : c.geometry-g.result.sector ≡ sector_size a area = ap (λ (x : Geometry). x.sector) c.geometry-g.ensures in
    let most = c.requires.stands.area.lawful.at_most in
    omega arith

pub returns-then-is_too_long : goal.returns-then-is_too_long
returns-then-is_too_long g c =
    let a : Device = g.F.Flash.device c.args.flash.now in
    let area : Area = c.args.self.now.area in
    record {
      touches = untouched (area ∷ []) a;
      area = refl;
      written = λ written. written;
      ends = (long-by g.T.SlotSectors.format_of a area c.geometry-g.result (length c.args.bytes.now) c.is_too_long.result c.geometry-g.ensures c.is_too_long.ensures c.if-is_too_long.true, refl);
      undamaged = c.requires.stands.undamaged;
      stands = λ _. c.requires.stands;
      down = λ lost. absurd (false≢true lost);
    }

pub append-requires : goal.append-requires
append-requires g c =
    let a : Device = g.F.Flash.device c.args.flash.now in
    let area : Area = c.args.self.now.area in
    let law : IsSectorFormat (g.T.SlotSectors.format_of (geometry_of a area)) = g.met.T.SlotSectors.lawful (geometry_of a area) (unit_is a area (g.met.F.Flash.is_lawful c.args.flash.now) c.requires.stands.area.lawful) in
    let short = short-by g.T.SlotSectors.format_of a area c.geometry-g.result (length c.args.bytes.now) c.is_too_long.result c.geometry-g.ensures c.is_too_long.ensures c.if-is_too_long.false in
    record {
      stands = c.requires.stands;
      ordinary = c.requires.ordinary;
      narrow = narrow-by (g.T.SlotSectors.format_of (geometry_of a area)) law (sector_size a area) (length c.args.bytes.now) c.requires.stands.area.lawful.at_most short;
      short = λ _. short;
    }

pub returns-in-Err : goal.returns-in-Err
returns-in-Err g c =
    let a : Device = g.F.Flash.device c.args.flash.now in
    let area : Area = c.args.self.now.area in
    let law : IsSectorFormat (g.T.SlotSectors.format_of (geometry_of a area)) = g.met.T.SlotSectors.lawful (geometry_of a area) (unit_is a area (g.met.F.Flash.is_lawful c.args.flash.now) c.requires.stands.area.lawful) in
    let on = at_of g.T.SlotSectors.role g.T.SlotSectors.format_of g.T.SlotSectors.kept a c.args.self.now c.requires.stands in
    let form = rest_open g.T.SlotSectors.role g.T.SlotSectors.format_of g.T.SlotSectors.kept a area c.args.self.now.current c.args.self.now.opened law (g.met.F.Flash.is_lawful c.args.flash.now) on in
    let short = short-by g.T.SlotSectors.format_of a area c.geometry-g.result (length c.args.bytes.now) c.is_too_long.result c.geometry-g.ensures c.is_too_long.ensures c.if-is_too_long.false in
    record {
      touches = c.in-Err.ensures.touches;
      area = c.in-Err.ensures.area;
      written = c.in-Err.ensures.written;
      ends = write_stops (g.T.SlotSectors.format_of (geometry_of a area)) law a area form (g.F.Flash.device c.append.new.flash) c.args.id c.args.bytes.now c.requires.some short c.requires.differs c.in-Err.ensures.ends;
      undamaged = c.in-Err.ensures.undamaged;
      stands = λ lost. absurd (false≢true (sym lost));
      down = λ _. c.in-Err.ensures.down;
    }

pub returns-in-Ok-true : goal.returns-in-Ok-true
returns-in-Ok-true g c =
    let a : Device = g.F.Flash.device c.args.flash.now in
    let area : Area = c.args.self.now.area in
    let law : IsSectorFormat (g.T.SlotSectors.format_of (geometry_of a area)) = g.met.T.SlotSectors.lawful (geometry_of a area) (unit_is a area (g.met.F.Flash.is_lawful c.args.flash.now) c.requires.stands.area.lawful) in
    let on = at_of g.T.SlotSectors.role g.T.SlotSectors.format_of g.T.SlotSectors.kept a c.args.self.now c.requires.stands in
    let form = rest_open g.T.SlotSectors.role g.T.SlotSectors.format_of g.T.SlotSectors.kept a area c.args.self.now.current c.args.self.now.opened law (g.met.F.Flash.is_lawful c.args.flash.now) on in
    let short = short-by g.T.SlotSectors.format_of a area c.geometry-g.result (length c.args.bytes.now) c.is_too_long.result c.geometry-g.ensures c.is_too_long.ensures c.if-is_too_long.false in
    record {
      touches = c.in-Ok-true.ensures.touches;
      area = c.in-Ok-true.ensures.area;
      written = c.in-Ok-true.ensures.written;
      ends = write_done (g.T.SlotSectors.format_of (geometry_of a area)) law a area form (g.F.Flash.device c.append.new.flash) c.args.id c.args.bytes.now c.requires.some short c.requires.differs (ends_true (g.T.SlotSectors.format_of (geometry_of a area)) a (g.F.Flash.device c.append.new.flash) area c.args.id c.args.bytes.now c.in-Ok-true.field-0 c.in-Ok-true.field-0-test c.in-Ok-true.ensures.ends);
      undamaged = c.in-Ok-true.ensures.undamaged;
      stands = λ _. c.in-Ok-true.ensures.stands;
      down = λ lost. absurd (false≢true lost);
    }

pub cost-need-requires-clause-unit : goal.cost-need-requires-clause-unit
cost-need-requires-clause-unit g c =
    let a : Device = g.F.Flash.device c.args.flash.now in
    let area : Area = c.args.self.now.area in
    unit-by a area c.geometry-g.result c.geometry-g.ensures (unit_is a area (g.met.F.Flash.is_lawful c.args.flash.now) c.requires.stands.area.lawful)

pub cost-need-requires-clause-short : goal.cost-need-requires-clause-short
cost-need-requires-clause-short g c =
    let a : Device = g.F.Flash.device c.args.flash.now in
    let area : Area = c.args.self.now.area in
    let law : IsSectorFormat (g.T.SlotSectors.format_of (geometry_of a area)) = g.met.T.SlotSectors.lawful (geometry_of a area) (unit_is a area (g.met.F.Flash.is_lawful c.args.flash.now) c.requires.stands.area.lawful) in
    let short = short-by g.T.SlotSectors.format_of a area c.geometry-g.result (length c.args.bytes.now) c.is_too_long.result c.geometry-g.ensures c.is_too_long.ensures c.if-is_too_long.false in
    let narrow = narrow-by (g.T.SlotSectors.format_of (geometry_of a area)) law (sector_size a area) (length c.args.bytes.now) c.requires.stands.area.lawful.at_most short in
    narrow

pub overflow_cast-bytes : goal.overflow_cast-bytes
overflow_cast-bytes g c =
    let a : Device = g.F.Flash.device c.args.flash.now in
    let area : Area = c.args.self.now.area in
    let law : IsSectorFormat (g.T.SlotSectors.format_of (geometry_of a area)) = g.met.T.SlotSectors.lawful (geometry_of a area) (unit_is a area (g.met.F.Flash.is_lawful c.args.flash.now) c.requires.stands.area.lawful) in
    let short = short-by g.T.SlotSectors.format_of a area c.geometry-g.result (length c.args.bytes.now) c.is_too_long.result c.geometry-g.ensures c.is_too_long.ensures c.if-is_too_long.false in
    let narrow = narrow-by (g.T.SlotSectors.format_of (geometry_of a area)) law (sector_size a area) (length c.args.bytes.now) c.requires.stands.area.lawful.at_most short in
    let small = narrow in
    omega arith

pub live_cost-live-requires : goal.live_cost-live-requires
live_cost-live-requires g c =
    c.in-Ok-false.ensures.stands

pub returns-in-Ok-false : goal.returns-in-Ok-false
returns-in-Ok-false g c =
    let a : Device = g.F.Flash.device c.args.flash.now in
    let area : Area = c.args.self.now.area in
    let law : IsSectorFormat (g.T.SlotSectors.format_of (geometry_of a area)) = g.met.T.SlotSectors.lawful (geometry_of a area) (unit_is a area (g.met.F.Flash.is_lawful c.args.flash.now) c.requires.stands.area.lawful) in
    let on = at_of g.T.SlotSectors.role g.T.SlotSectors.format_of g.T.SlotSectors.kept a c.args.self.now c.requires.stands in
    let form = rest_open g.T.SlotSectors.role g.T.SlotSectors.format_of g.T.SlotSectors.kept a area c.args.self.now.current c.args.self.now.opened law (g.met.F.Flash.is_lawful c.args.flash.now) on in
    let short = short-by g.T.SlotSectors.format_of a area c.geometry-g.result (length c.args.bytes.now) c.is_too_long.result c.geometry-g.ensures c.is_too_long.ensures c.if-is_too_long.false in
    record {
      touches = c.in-Ok-false.ensures.touches;
      area = c.in-Ok-false.ensures.area;
      written = c.in-Ok-false.ensures.written;
      ends = write_full (g.T.SlotSectors.format_of (geometry_of a area)) law a area form (g.F.Flash.device c.append.new.flash) c.args.id c.args.bytes.now c.cost-need.result c.live_cost-live.result short c.requires.differs (ends_false (g.T.SlotSectors.format_of (geometry_of a area)) a (g.F.Flash.device c.append.new.flash) area c.args.id c.args.bytes.now c.in-Ok-false.field-0 c.in-Ok-false.field-0-test c.in-Ok-false.ensures.ends) (need-by g.T.SlotSectors.format_of a area c.geometry-g.result (length c.args.bytes.now) c.cost-need.result c.geometry-g.ensures c.cost-need.ensures.value)
          (to_geometry (λ u. c.live_cost-live.result ≡ live_cost (g.T.SlotSectors.format_of u).cost (list_of (g.T.SlotSectors.format_of u) (sectors_of (g.F.Flash.device c.append.new.flash) area))) a (g.F.Flash.device c.append.new.flash) area c.in-Ok-false.ensures.touches.banks
          (subst (λ (there : Area). c.live_cost-live.result ≡ live_cost (g.T.SlotSectors.format_of (geometry_of (g.F.Flash.device c.append.new.flash) there)).cost (list_of (g.T.SlotSectors.format_of (geometry_of (g.F.Flash.device c.append.new.flash) there)) (sectors_of (g.F.Flash.device c.append.new.flash) there))) c.in-Ok-false.ensures.area c.live_cost-live.ensures));
      undamaged = c.in-Ok-false.ensures.undamaged;
      stands = λ _. c.in-Ok-false.ensures.stands;
      down = λ lost. absurd (false≢true lost);
    }
