use Rattle.std.proofs.Common.{not, ap, ◌∙◌, ◌∷◌, [], refl, sym, arith}
use Rattle.std.specs.FinMap as map
use Rattle.flash_sim.specs.Device.{Device}
use Rattle.flash_map.specs.declared.area.Area.{Area}
use Rattle.flash_map.specs.Area.{geometry_of, sectors_of}
use Rattle.item_store.specs.SectorFormat.{SectorFormat, IsSectorFormat}
use Rattle.item_store.specs.Standing.{items}
use Rattle.item_store.proofs.Areas.{unit_is}
use Rattle.item_store.proofs.Reserved.{present_ordinary}
use Rattle.item_store.proofs.RoomFacts.{rest_open, at_of}
use Rattle.item_store.proofs.WriteSteps.{delete_absent, delete_stops, deleted, gets_none, gets_some}
use Rattle.std.proofs.lemmas.Bool.{false≢true}
use Rattle.flash_map.proofs.Touches.{untouched}
use Rattle.item_store.proofs.store.Store.delete.Goals as goal

pub get-requires : goal.get-requires
get-requires g c = c.requires.stands

pub returns-then-is_none : goal.returns-then-is_none
returns-then-is_none g c =
    let a : Device = g.F.Flash.device c.args.flash.now in
    let area : Area = c.args.self.now.area in
    let k : SectorFormat = g.T.SlotSectors.format_of (geometry_of a area) in
    let law : IsSectorFormat (g.T.SlotSectors.format_of (geometry_of a area)) = g.met.T.SlotSectors.lawful (geometry_of a area) (unit_is a area (g.met.F.Flash.is_lawful c.args.flash.now) c.requires.stands.area.lawful) in
    let on = at_of g.T.SlotSectors.role g.T.SlotSectors.format_of g.T.SlotSectors.kept a c.args.self.now c.requires.stands in
    let form = rest_open g.T.SlotSectors.role g.T.SlotSectors.format_of g.T.SlotSectors.kept a area c.args.self.now.current c.args.self.now.opened law (g.met.F.Flash.is_lawful c.args.flash.now) on in
    record {
      touches = untouched (c.args.self.now.area ∷ []) (g.F.Flash.device c.args.flash.now);
      area = refl;
      written = λ written. written;
      ends = delete_absent (g.T.SlotSectors.format_of (geometry_of a area)) law a area form c.args.id (gets_none (λ bytes. bytes.now) c.get.result (map.get (items k (sectors_of a area)) c.args.id) c.get.ensures.value (c.is_none.ensures ∙ ap not c.if-is_none.true));
      undamaged = c.requires.stands.undamaged;
      stands = λ _. c.requires.stands;
      down = λ lost. absurd (false≢true lost);
    }

pub append-requires : goal.append-requires
append-requires g c =
    let a : Device = g.F.Flash.device c.args.flash.now in
    let area : Area = c.args.self.now.area in
    let k : SectorFormat = g.T.SlotSectors.format_of (geometry_of a area) in
    let law : IsSectorFormat (g.T.SlotSectors.format_of (geometry_of a area)) = g.met.T.SlotSectors.lawful (geometry_of a area) (unit_is a area (g.met.F.Flash.is_lawful c.args.flash.now) c.requires.stands.area.lawful) in
    let present = gets_some (λ bytes. bytes.now) c.get.result (map.get (items k (sectors_of a area)) c.args.id) c.get.ensures.value (c.is_none.ensures ∙ ap not c.if-is_none.false) in
    record {
      stands = c.requires.stands;
      ordinary = present_ordinary (g.T.SlotSectors.format_of (geometry_of a area)) law (sectors_of a area) c.args.id c.requires.small present;
      narrow = omega arith;
      short = λ some. absurd (omega arith);
    }

pub returns-in-Err : goal.returns-in-Err
returns-in-Err g c =
    let a : Device = g.F.Flash.device c.args.flash.now in
    let area : Area = c.args.self.now.area in
    let k : SectorFormat = g.T.SlotSectors.format_of (geometry_of a area) in
    let law : IsSectorFormat (g.T.SlotSectors.format_of (geometry_of a area)) = g.met.T.SlotSectors.lawful (geometry_of a area) (unit_is a area (g.met.F.Flash.is_lawful c.args.flash.now) c.requires.stands.area.lawful) in
    let on = at_of g.T.SlotSectors.role g.T.SlotSectors.format_of g.T.SlotSectors.kept a c.args.self.now c.requires.stands in
    let form = rest_open g.T.SlotSectors.role g.T.SlotSectors.format_of g.T.SlotSectors.kept a area c.args.self.now.current c.args.self.now.opened law (g.met.F.Flash.is_lawful c.args.flash.now) on in
    let present = gets_some (λ bytes. bytes.now) c.get.result (map.get (items k (sectors_of a area)) c.args.id) c.get.ensures.value (c.is_none.ensures ∙ ap not c.if-is_none.false) in
    record {
      touches = c.in-Err.ensures.touches;
      area = c.in-Err.ensures.area;
      written = c.in-Err.ensures.written;
      ends = delete_stops (g.T.SlotSectors.format_of (geometry_of a area)) law a area form (g.F.Flash.device c.append.new.flash) c.args.id present c.in-Err.ensures.ends;
      undamaged = c.in-Err.ensures.undamaged;
      stands = λ lost. absurd (false≢true (sym lost));
      down = λ _. c.in-Err.ensures.down;
    }

pub returns-in-Ok : goal.returns-in-Ok
returns-in-Ok g c =
    let a : Device = g.F.Flash.device c.args.flash.now in
    let area : Area = c.args.self.now.area in
    let k : SectorFormat = g.T.SlotSectors.format_of (geometry_of a area) in
    let law : IsSectorFormat (g.T.SlotSectors.format_of (geometry_of a area)) = g.met.T.SlotSectors.lawful (geometry_of a area) (unit_is a area (g.met.F.Flash.is_lawful c.args.flash.now) c.requires.stands.area.lawful) in
    let on = at_of g.T.SlotSectors.role g.T.SlotSectors.format_of g.T.SlotSectors.kept a c.args.self.now c.requires.stands in
    let form = rest_open g.T.SlotSectors.role g.T.SlotSectors.format_of g.T.SlotSectors.kept a area c.args.self.now.current c.args.self.now.opened law (g.met.F.Flash.is_lawful c.args.flash.now) on in
    let present = gets_some (λ bytes. bytes.now) c.get.result (map.get (items k (sectors_of a area)) c.args.id) c.get.ensures.value (c.is_none.ensures ∙ ap not c.if-is_none.false) in
    record {
      touches = c.in-Ok.ensures.touches;
      area = c.in-Ok.ensures.area;
      written = c.in-Ok.ensures.written;
      ends = deleted (g.T.SlotSectors.format_of (geometry_of a area)) law a area form (g.F.Flash.device c.append.new.flash) c.args.id c.in-Ok.field-0 present c.in-Ok.ensures.ends;
      undamaged = c.in-Ok.ensures.undamaged;
      stands = λ _. c.in-Ok.ensures.stands;
      down = λ lost. absurd (false≢true lost);
    }
