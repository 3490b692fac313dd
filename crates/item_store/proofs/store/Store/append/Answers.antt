use Rattle.std.proofs.Common.{◌≡◌, ℕ, Bool, true, List, length, Result, Ok, Err, IsErr, sym, ◌∙◌, inl, ◌∷◌, [], None, refl, subst, arith}
use Rattle.std.proofs.lemmas.Bool.{false≢true}
use Rattle.flash_sim.specs.Device.{Device}
use Rattle.flash_map.specs.declared.area.Area.{Area}
use Rattle.flash_map.specs.Area.{geometry_of, sectors_of}
use Rattle.flash_map.proofs.Touches.{then}
use Rattle.item_store.specs.SectorFormat.{SectorFormat, IsSectorFormat}
use Rattle.item_store.specs.Room.{has_room}
use Rattle.item_store.proofs.Areas.{unit_is}
use Rattle.item_store.proofs.AppendFacts.{then_ordinary, then_room, appends, stops_in_entry, still_undamaged}
use Rattle.item_store.specs.Writing.{StopsAppending, AppendEnds}
use Rattle.item_store.specs.Written.{IsWritten}
use Rattle.item_store.proofs.RoomFacts.{at_of, stands_with}
use Rattle.item_store.proofs.CallFacts.{no_ok, to_geometry, from_geometry}
use Rattle.flash_map.specs.Touches.{Touches}
use Rattle.flash_map.proofs.PieceLemmas.{on_err}
use Rattle.item_store.proofs.store.Store.append.Goals as goal

ends_lost : {X : Type 0} (k : SectorFormat) (old new : Device) (area : Area) (id : ℕ) (bytes : List ℕ) (r : Result Bool X) → IsErr r → StopsAppending k old new area id bytes → AppendEnds k old new area id bytes r
ends_lost k old new area id bytes (Ok b) is stops = absurd (false≢true is)
ends_lost k old new area id bytes (Err x) is stops = stops

pub overflow_cast-len : goal.overflow_cast-len
overflow_cast-len g c = omega (arith, c.requires.narrow)

pub make_room-requires : goal.make_room-requires
make_room-requires g c =
    let a : Device = g.F.Flash.device c.args.flash.now in
    record {
      stands = at_of g.T.SlotSectors.role g.T.SlotSectors.format_of g.T.SlotSectors.kept a c.args.self.now c.requires.stands;
      cached = c.requires.stands.cached;
      narrow = c.requires.narrow;
      short = c.requires.short;
    }

pub returns-in_err-room : goal.returns-in_err-room
returns-in_err-room g c =
    let a : Device = g.F.Flash.device c.args.flash.now in
    let area : Area = c.args.self.now.area in
    record {
      touches = subst (λ (lost : Bool). Touches (c.args.self.now.area ∷ []) (g.F.Flash.device c.args.flash.now) (g.F.Flash.device c.make_room.new.flash) lost) (sym c.from_residual.ensures.0) c.in_err-room.ensures.touches;
      area = refl;
      written = c.in_err-room.ensures.written;
      ends = ends_lost (g.T.SlotSectors.format_of (geometry_of a area)) a (g.F.Flash.device c.make_room.new.flash) area c.args.id c.args.bytes.now c.from_residual.result c.from_residual.ensures.0 (inl c.in_err-room.ensures.stops);
      undamaged = c.in_err-room.ensures.stops.items.undamaged;
      stands = no_ok c.from_residual.result _ c.from_residual.ensures.0;
      down = on_err c.from_residual.result refl;
    }

pub returns-then-not-room : goal.returns-then-not-room
returns-then-not-room g c =
    let did = c.in_ok-room.ensures in
    record {
      touches = c.in_ok-room.ensures.touches;
      area = refl;
      written = c.in_ok-room.ensures.written;
      ends = (did.makes, sym did.room ∙ c.if-not-room.true, did.full c.if-not-room.true);
      undamaged = to_geometry (λ u. (g.T.SlotSectors.format_of u).damage (sectors_of (g.F.Flash.device c.make_room.new.flash) c.args.self.now.area) ≡ None) (g.F.Flash.device c.args.flash.now) (g.F.Flash.device c.make_room.new.flash) c.args.self.now.area did.touches.banks did.stands.undamaged;
      stands = stands_with g.T.SlotSectors.role g.T.SlotSectors.format_of g.T.SlotSectors.kept (g.F.Flash.device c.make_room.new.flash) c.args.self.now.area c.make_room.new.current c.make_room.new.opened c.make_room.new.cache did.stands did.cached;
      down = tt;
    }

pub put_noted-requires : goal.put_noted-requires
put_noted-requires g c =
    let a : Device = g.F.Flash.device c.args.flash.now in
    let area : Area = c.args.self.now.area in
    let law : IsSectorFormat (g.T.SlotSectors.format_of (geometry_of a area)) = g.met.T.SlotSectors.lawful (geometry_of a area) (unit_is a area (g.met.F.Flash.is_lawful c.args.flash.now) c.requires.stands.area.lawful) in
    let d : Device = g.F.Flash.device c.make_room.new.flash in
    let did = c.in_ok-room.ensures in
    let room : has_room (g.T.SlotSectors.format_of (geometry_of a area)) (sectors_of d area) (length c.args.bytes.now) ≡ true = sym did.room ∙ c.if-not-room.false in
    record {
      stands = c.in_ok-room.ensures.stands;
      cached = c.in_ok-room.ensures.cached;
      ordinary = then_ordinary g.T.SlotSectors.role g.T.SlotSectors.format_of g.T.SlotSectors.kept a d area c.args.self.now.current c.args.self.now.opened law (g.met.F.Flash.is_lawful c.args.flash.now) (at_of g.T.SlotSectors.role g.T.SlotSectors.format_of g.T.SlotSectors.kept a c.args.self.now c.requires.stands) c.args.id c.args.bytes.now did.touches.banks did.makes room c.requires.ordinary;
      room = then_room g.T.SlotSectors.role g.T.SlotSectors.format_of g.T.SlotSectors.kept a d area c.args.self.now.current c.args.self.now.opened law (g.met.F.Flash.is_lawful c.args.flash.now) (at_of g.T.SlotSectors.role g.T.SlotSectors.format_of g.T.SlotSectors.kept a c.args.self.now c.requires.stands) c.args.id c.args.bytes.now did.touches.banks did.makes room;
    }

pub returns-in-Ok : goal.returns-in-Ok
returns-in-Ok g c =
    let a : Device = g.F.Flash.device c.args.flash.now in
    let area : Area = c.args.self.now.area in
    let d : Device = g.F.Flash.device c.make_room.new.flash in
    let e : Device = g.F.Flash.device c.put_noted.new.flash in
    let did = c.in_ok-room.ensures in
    let law : IsSectorFormat (g.T.SlotSectors.format_of (geometry_of a area)) = g.met.T.SlotSectors.lawful (geometry_of a area) (unit_is a area (g.met.F.Flash.is_lawful c.args.flash.now) c.requires.stands.area.lawful) in
    let room : has_room (g.T.SlotSectors.format_of (geometry_of a area)) (sectors_of d area) (length c.args.bytes.now) ≡ true = sym did.room ∙ c.if-not-room.false in
    record {
      touches = then c.in_ok-room.ensures.touches c.in-Ok.ensures.touches;
      area = refl;
      written = λ written. to_geometry (λ u. IsWritten (g.T.SlotSectors.format_of u) (sectors_of e area)) a d area did.touches.banks (c.in-Ok.ensures.written (from_geometry (λ u. IsWritten (g.T.SlotSectors.format_of u) (sectors_of d area)) a d area did.touches.banks (did.written written)));
      ends = appends g.T.SlotSectors.role g.T.SlotSectors.format_of g.T.SlotSectors.kept a d area c.args.self.now.current c.args.self.now.opened law (g.met.F.Flash.is_lawful c.args.flash.now) (at_of g.T.SlotSectors.role g.T.SlotSectors.format_of g.T.SlotSectors.kept a c.args.self.now c.requires.stands) c.args.id c.args.bytes.now did.touches.banks did.makes room e c.in-Ok.ensures.puts;
      undamaged = still_undamaged g.T.SlotSectors.role g.T.SlotSectors.format_of g.T.SlotSectors.kept a d area c.args.self.now.current c.args.self.now.opened law (g.met.F.Flash.is_lawful c.args.flash.now) (at_of g.T.SlotSectors.role g.T.SlotSectors.format_of g.T.SlotSectors.kept a c.args.self.now c.requires.stands) c.args.id c.args.bytes.now did.touches.banks did.makes room e c.in-Ok.ensures.puts.undamaged;
      stands = let did = c.in-Ok.ensures in
          stands_with g.T.SlotSectors.role g.T.SlotSectors.format_of g.T.SlotSectors.kept (g.F.Flash.device c.put_noted.new.flash) c.args.self.now.area c.make_room.new.current c.put_noted.new.opened c.put_noted.new.cache did.stands did.cached;
      down = tt;
    }

pub returns-in-Err : goal.returns-in-Err
returns-in-Err g c =
    let a : Device = g.F.Flash.device c.args.flash.now in
    let area : Area = c.args.self.now.area in
    let d : Device = g.F.Flash.device c.make_room.new.flash in
    let e : Device = g.F.Flash.device c.put_noted.new.flash in
    let did = c.in_ok-room.ensures in
    let law : IsSectorFormat (g.T.SlotSectors.format_of (geometry_of a area)) = g.met.T.SlotSectors.lawful (geometry_of a area) (unit_is a area (g.met.F.Flash.is_lawful c.args.flash.now) c.requires.stands.area.lawful) in
    let room : has_room (g.T.SlotSectors.format_of (geometry_of a area)) (sectors_of d area) (length c.args.bytes.now) ≡ true = sym did.room ∙ c.if-not-room.false in
    record {
      touches = then c.in_ok-room.ensures.touches c.in-Err.ensures.touches;
      area = refl;
      written = λ written. to_geometry (λ u. IsWritten (g.T.SlotSectors.format_of u) (sectors_of e area)) a d area did.touches.banks (c.in-Err.ensures.written (from_geometry (λ u. IsWritten (g.T.SlotSectors.format_of u) (sectors_of d area)) a d area did.touches.banks (did.written written)));
      ends = stops_in_entry g.T.SlotSectors.role g.T.SlotSectors.format_of g.T.SlotSectors.kept a d area c.args.self.now.current c.args.self.now.opened law (g.met.F.Flash.is_lawful c.args.flash.now) (at_of g.T.SlotSectors.role g.T.SlotSectors.format_of g.T.SlotSectors.kept a c.args.self.now c.requires.stands) c.args.id c.args.bytes.now did.touches.banks did.makes room e c.in-Err.ensures.stops;
      undamaged = still_undamaged g.T.SlotSectors.role g.T.SlotSectors.format_of g.T.SlotSectors.kept a d area c.args.self.now.current c.args.self.now.opened law (g.met.F.Flash.is_lawful c.args.flash.now) (at_of g.T.SlotSectors.role g.T.SlotSectors.format_of g.T.SlotSectors.kept a c.args.self.now c.requires.stands) c.args.id c.args.bytes.now did.touches.banks did.makes room e c.in-Err.ensures.stops.undamaged;
      stands = tt;
      down = refl;
    }
