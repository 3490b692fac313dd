use Rattle.std.proofs.Common.{◌≡◌, ℕ, ◌+◌, ◌-◌, ◌<◌, true, false, sym, ap, subst, ◌∙◌, arith, Bool, Result, ◌∷◌, [], Ok, Err, is_err, IfOk}
use Rattle.flash_sim.specs.Device.{Device}
use Rattle.flash_map.specs.declared.area.Area.{Area}
use Rattle.std.proofs.lemmas.Bool.{false≢true}
use Rattle.flash_map.specs.Area.{geometry_of, sectors_of}
use Rattle.flash_map.proofs.PieceLemmas.{on_err}
use Rattle.item_store.specs.SectorFormat.{IsSectorFormat}
use Rattle.item_store.specs.Room.{has_room}
use Rattle.item_store.proofs.Areas.{unit_is, still_area}
use Rattle.item_store.proofs.RoomFacts.{IsSearching, inside, searching_start, room_now, used_now, stops_now, searching_more, delete_room, makes_now, full_or_delete, rest_on}
use Rattle.item_store.specs.Written.{IsWritten}
use Rattle.item_store.proofs.CallFacts.{no_ok, to_geometry}
use Rattle.item_store.proofs.SlotFacts.{next_within}
use Rattle.item_store.proofs.PassSteps.{cache-follows}
use Rattle.flash_map.specs.Touches.{Touches}
use Rattle.flash_map.proofs.Touches.{then}
use Rattle.item_store.proofs.room.make_room.Goals as goal

no_room : {E : Type 0} (P : Bool → Type 0) (r : Result Bool E) → is_err r ≡ true → IfOk r P
no_room P (Ok room) e = absurd (false≢true e)
no_room P (Err lost) e = tt

pub loop-round-init : goal.loop-round-init
loop-round-init g c = record {
  cached = c.requires.cached;
  searching = searching_start g.T.SlotSectors.role g.T.SlotSectors.format_of g.T.SlotSectors.kept (g.F.Flash.device c.args.flash.now) c.args.area.now c.args.current.now c.args.opened.now c.args.len c.requires.stands;
  written = λ written. written;
}

pub fits-requires : goal.fits-requires
fits-requires g c =
    let d : Device = g.F.Flash.device c.loop-round.flash in
    let area : Area = c.args.area.now in
    record {
      area = c.loop-round.invariant.searching.standing.area;
      inside = inside g.T.SlotSectors.role g.T.SlotSectors.format_of g.T.SlotSectors.kept d area c.loop-round.current c.loop-round.opened c.loop-round.invariant.searching.standing;
      kept = c.loop-round.invariant.searching.standing.opened;
      narrow = c.requires.narrow;
    }

pub returns-then-fits : goal.returns-then-fits
returns-then-fits g c =
    let a : Device = g.F.Flash.device c.args.flash.now in
    let d : Device = g.F.Flash.device c.loop-round.flash in
    let area : Area = c.args.area.now in
    let law : IsSectorFormat (g.T.SlotSectors.format_of (geometry_of a area)) = g.met.T.SlotSectors.lawful (geometry_of a area) (unit_is a area (g.met.F.Flash.is_lawful c.args.flash.now) c.requires.stands.area.lawful) in
    let fitting = room_now g.T.SlotSectors.role g.T.SlotSectors.format_of g.T.SlotSectors.kept a d area c.args.current.now c.args.opened.now c.loop-round.current c.loop-round.opened c.args.len (c.loop-round._round - 1) law (g.met.F.Flash.is_lawful c.args.flash.now) c.requires.stands c.loop-round.invariant.searching (g.met.F.Flash.is_lawful c.loop-round.flash) true (sym c.fits.ensures ∙ c.if-fits.true) in
    record {
      touches = c.loop-round.invariant.searching.touches;
      written = c.loop-round.invariant.written;
      stands = c.loop-round.invariant.searching.standing;
      cached = c.loop-round.invariant.cached;
      makes = makes_now g.T.SlotSectors.role g.T.SlotSectors.format_of g.T.SlotSectors.kept a d area c.args.current.now c.args.opened.now c.loop-round.current c.loop-round.opened c.args.len (c.loop-round._round - 1) law (g.met.F.Flash.is_lawful c.args.flash.now) c.requires.stands c.loop-round.invariant.searching (g.met.F.Flash.is_lawful c.loop-round.flash) (omega arith) (λ none. ap (has_room (g.T.SlotSectors.format_of (geometry_of a area)) (sectors_of d area)) (sym none) ∙ fitting) (λ unfit. absurd (false≢true (sym unfit ∙ fitting)));
      room = sym fitting;
      full = λ none. absurd (false≢true (sym none));
      stops = tt;
    }

pub round-requires : goal.round-requires
round-requires g c =
    let a : Device = g.F.Flash.device c.args.flash.now in
    let d : Device = g.F.Flash.device c.loop-round.flash in
    let area : Area = c.args.area.now in
    let law : IsSectorFormat (g.T.SlotSectors.format_of (geometry_of a area)) = g.met.T.SlotSectors.lawful (geometry_of a area) (unit_is a area (g.met.F.Flash.is_lawful c.args.flash.now) c.requires.stands.area.lawful) in
    record {
      stands = c.loop-round.invariant.searching.standing;
      used = used_now g.T.SlotSectors.role g.T.SlotSectors.format_of g.T.SlotSectors.kept a d area c.args.current.now c.args.opened.now c.loop-round.current c.loop-round.opened c.args.len (c.loop-round._round - 1) law (g.met.F.Flash.is_lawful c.args.flash.now) c.requires.stands c.loop-round.invariant.searching (g.met.F.Flash.is_lawful c.loop-round.flash) c.requires.short (sym c.fits.ensures ∙ c.if-fits.false);
    }

pub returns-in_err-place : goal.returns-in_err-place
returns-in_err-place g c =
    let a : Device = g.F.Flash.device c.args.flash.now in
    let d : Device = g.F.Flash.device c.loop-round.flash in
    let area : Area = c.args.area.now in
    let e : Device = g.F.Flash.device c.round.new.flash in
    let law : IsSectorFormat (g.T.SlotSectors.format_of (geometry_of a area)) = g.met.T.SlotSectors.lawful (geometry_of a area) (unit_is a area (g.met.F.Flash.is_lawful c.args.flash.now) c.requires.stands.area.lawful) in
    let did = c.in_err-place.ensures in
    record {
      touches = subst (λ (lost : Bool). Touches (c.args.area.now ∷ []) (g.F.Flash.device c.args.flash.now) (g.F.Flash.device c.round.new.flash) lost) (sym c.from_residual.ensures.0) (then c.loop-round.invariant.searching.touches c.in_err-place.ensures.touches);
      written = λ written. to_geometry (λ u. IsWritten (g.T.SlotSectors.format_of u) (sectors_of d area) → IsWritten (g.T.SlotSectors.format_of u) (sectors_of e area)) a d area c.loop-round.invariant.searching.touches.banks c.in_err-place.ensures.written (c.loop-round.invariant.written written);
      stands = no_ok c.from_residual.result _ c.from_residual.ensures.0;
      cached = no_ok c.from_residual.result _ c.from_residual.ensures.0;
      makes = no_ok c.from_residual.result _ c.from_residual.ensures.0;
      room = no_room _ c.from_residual.result c.from_residual.ensures.0;
      full = no_room _ c.from_residual.result c.from_residual.ensures.0;
      stops = on_err c.from_residual.result (stops_now g.T.SlotSectors.role g.T.SlotSectors.format_of g.T.SlotSectors.kept a d area c.args.current.now c.args.opened.now c.loop-round.current c.loop-round.opened c.args.len (c.loop-round._round - 1) law (g.met.F.Flash.is_lawful c.args.flash.now) c.requires.stands c.loop-round.invariant.searching (g.met.F.Flash.is_lawful c.loop-round.flash) (sym c.fits.ensures ∙ c.if-fits.false) (g.F.Flash.device c.round.new.flash) (omega arith) did.items did.ends.list_lost did.ends.spends_lost did.marks);
    }

pub follow_round-requires-clause-area : goal.follow_round-requires-clause-area
follow_round-requires-clause-area g c =
    let d : Device = g.F.Flash.device c.loop-round.flash in
    let e : Device = g.F.Flash.device c.round.new.flash in
    still_area g.T.SlotSectors.role d e c.args.area.now c.in_ok-place.ensures.touches.banks c.loop-round.invariant.searching.standing.area

pub follow_round-requires-clause-inside : goal.follow_round-requires-clause-inside
follow_round-requires-clause-inside g c =
    let d : Device = g.F.Flash.device c.loop-round.flash in
    let area : Area = c.args.area.now in
    let standing = c.loop-round.invariant.searching.standing in
    let law_here : IsSectorFormat (g.T.SlotSectors.format_of (geometry_of d area)) = g.met.T.SlotSectors.lawful (geometry_of d area) (unit_is d area (g.met.F.Flash.is_lawful c.loop-round.flash) standing.area.lawful) in
    let rested = rest_on g.T.SlotSectors.role g.T.SlotSectors.format_of g.T.SlotSectors.kept d area c.loop-round.current c.loop-round.opened law_here (g.met.F.Flash.is_lawful c.loop-round.flash) standing in
    subst (λ (p : ℕ). p < area.sectors) (sym c.in_ok-place.ensures.opened) (next_within d area c.loop-round.current rested.ring.within)

pub loop-round-preserved : goal.loop-round-preserved
loop-round-preserved g c =
    let a : Device = g.F.Flash.device c.args.flash.now in
    let d : Device = g.F.Flash.device c.loop-round.flash in
    let area : Area = c.args.area.now in
    let law : IsSectorFormat (g.T.SlotSectors.format_of (geometry_of a area)) = g.met.T.SlotSectors.lawful (geometry_of a area) (unit_is a area (g.met.F.Flash.is_lawful c.args.flash.now) c.requires.stands.area.lawful) in
    let did = c.in_ok-place.ensures in
    let e : Device = g.F.Flash.device c.round.new.flash in
    let same : c.loop-round._round - 1 + 1 ≡ c.loop-round._round + 1 - 1 = omega arith in
    let standing = c.loop-round.invariant.searching.standing in
    let law_here : IsSectorFormat (g.T.SlotSectors.format_of (geometry_of d area)) = g.met.T.SlotSectors.lawful (geometry_of d area) (unit_is d area (g.met.F.Flash.is_lawful c.loop-round.flash) standing.area.lawful) in
    record {
      cached = cache-follows g.T.SlotSectors.format_of d e area c.loop-round.current c.in_ok-place.place did.touches.banks
          (rest_on g.T.SlotSectors.role g.T.SlotSectors.format_of g.T.SlotSectors.kept d area c.loop-round.current c.loop-round.opened law_here (g.met.F.Flash.is_lawful c.loop-round.flash) standing) did.ends.does_pass did.opened
          c.loop-round.cache c.follow_round.new.cache c.loop-round.invariant.cached c.follow_round.ensures;
      searching = subst (λ (n : ℕ). IsSearching g.T.SlotSectors.role g.T.SlotSectors.format_of g.T.SlotSectors.kept a e area c.in_ok-place.place c.round.new.opened c.args.len n) same
          (searching_more g.T.SlotSectors.role g.T.SlotSectors.format_of g.T.SlotSectors.kept a d area c.args.current.now c.args.opened.now c.loop-round.current c.loop-round.opened c.args.len (c.loop-round._round - 1) law (g.met.F.Flash.is_lawful c.args.flash.now) c.requires.stands c.loop-round.invariant.searching (g.met.F.Flash.is_lawful c.loop-round.flash) (sym c.fits.ensures ∙ c.if-fits.false) e c.in_ok-place.place c.round.new.opened did.touches did.opened did.ends.rested did.ends.kept did.ends.does_pass did.ends.spends);
      written = λ written. to_geometry (λ u. IsWritten (g.T.SlotSectors.format_of u) (sectors_of d area) → IsWritten (g.T.SlotSectors.format_of u) (sectors_of e area)) a d area c.loop-round.invariant.searching.touches.banks did.written (c.loop-round.invariant.written written);
    }

pub fits-room-requires : goal.fits-room-requires
fits-room-requires g c =
    let d : Device = g.F.Flash.device c.loop-round.flash in
    let area : Area = c.args.area.now in
    record {
      area = c.loop-round.invariant.searching.standing.area;
      inside = inside g.T.SlotSectors.role g.T.SlotSectors.format_of g.T.SlotSectors.kept d area c.loop-round.current c.loop-round.opened c.loop-round.invariant.searching.standing;
      kept = c.loop-round.invariant.searching.standing.opened;
      narrow = c.requires.narrow;
    }

pub returns : goal.returns
returns g c =
    let a : Device = g.F.Flash.device c.args.flash.now in
    let d : Device = g.F.Flash.device c.loop-round.flash in
    let area : Area = c.args.area.now in
    let law : IsSectorFormat (g.T.SlotSectors.format_of (geometry_of a area)) = g.met.T.SlotSectors.lawful (geometry_of a area) (unit_is a area (g.met.F.Flash.is_lawful c.args.flash.now) c.requires.stands.area.lawful) in
    let several = c.requires.stands.area.lawful.several in
    record {
      touches = c.loop-round.invariant.searching.touches;
      written = c.loop-round.invariant.written;
      stands = c.loop-round.invariant.searching.standing;
      cached = c.loop-round.invariant.cached;
      makes = makes_now g.T.SlotSectors.role g.T.SlotSectors.format_of g.T.SlotSectors.kept a d area c.args.current.now c.args.opened.now c.loop-round.current c.loop-round.opened c.args.len (c.loop-round._round - 1) law (g.met.F.Flash.is_lawful c.args.flash.now) c.requires.stands c.loop-round.invariant.searching (g.met.F.Flash.is_lawful c.loop-round.flash) (omega arith) (delete_room g.T.SlotSectors.role g.T.SlotSectors.format_of g.T.SlotSectors.kept a d area c.args.current.now c.args.opened.now c.loop-round.current c.loop-round.opened c.args.len (c.loop-round._round - 1) law (g.met.F.Flash.is_lawful c.args.flash.now) c.requires.stands c.loop-round.invariant.searching (g.met.F.Flash.is_lawful c.loop-round.flash) (omega arith)) (λ _. omega arith);
      room = sym (room_now g.T.SlotSectors.role g.T.SlotSectors.format_of g.T.SlotSectors.kept a d area c.args.current.now c.args.opened.now c.loop-round.current c.loop-round.opened c.args.len (c.loop-round._round - 1) law (g.met.F.Flash.is_lawful c.args.flash.now) c.requires.stands c.loop-round.invariant.searching (g.met.F.Flash.is_lawful c.loop-round.flash) c.fits-room.result (sym c.fits-room.ensures));
      full = λ none. full_or_delete g.T.SlotSectors.role g.T.SlotSectors.format_of g.T.SlotSectors.kept a d area c.args.current.now c.args.opened.now c.loop-round.current c.loop-round.opened c.args.len (c.loop-round._round - 1) law (g.met.F.Flash.is_lawful c.args.flash.now) c.requires.stands c.loop-round.invariant.searching (g.met.F.Flash.is_lawful c.loop-round.flash) c.requires.short (omega arith) (omega arith) (room_now g.T.SlotSectors.role g.T.SlotSectors.format_of g.T.SlotSectors.kept a d area c.args.current.now c.args.opened.now c.loop-round.current c.loop-round.opened c.args.len (c.loop-round._round - 1) law (g.met.F.Flash.is_lawful c.args.flash.now) c.requires.stands c.loop-round.invariant.searching (g.met.F.Flash.is_lawful c.loop-round.flash) false (sym c.fits-room.ensures ∙ none));
      stops = tt;
    }
