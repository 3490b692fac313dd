use Rattle.std.proofs.Common.{◌≡◌, ℕ, ◌<◌, sym, subst, Bool, ◌∷◌, [], refl}
use Rattle.flash_sim.specs.Device.{Device}
use Rattle.flash_map.specs.declared.area.Area.{Area}
use Rattle.flash_map.specs.Area.{geometry_of, sectors_of, sector_at}
use Rattle.item_laws.specs.Forms.{AtRest}
use Rattle.item_store.specs.Cached.{IsCacheOn}
use Rattle.item_store.specs.SectorFormat.{IsSectorFormat}
use Rattle.item_store.proofs.Areas.{unit_is, still_area}
use Rattle.item_store.specs.Stands.{StandsAt}
use Rattle.item_store.proofs.ClosingSteps.{run_pass-stops}
use Rattle.item_store.proofs.RoomFacts.{at_of, stands_with}
use Rattle.item_store.proofs.RoundFacts.{rests}
use Rattle.item_store.proofs.SlotFacts.{next_within}
use Rattle.item_store.proofs.Standings.{stands}
use Rattle.item_store.proofs.PassSteps.{cache-follows}
use Rattle.flash_map.specs.Touches.{Touches}
use Rattle.flash_map.proofs.PieceLemmas.{on_err}
use Rattle.item_store.proofs.CallFacts.{no_ok}
use Rattle.item_store.proofs.store.Store.run_pass.Goals as goal

pub round-requires : goal.round-requires
round-requires g c =
    record {
      stands = at_of g.T.SlotSectors.role g.T.SlotSectors.format_of g.T.SlotSectors.kept (g.F.Flash.device c.args.flash.now) c.args.self.now c.requires.stands;
      used = c.requires.used;
    }

pub returns-in_err-self : goal.returns-in_err-self
returns-in_err-self g c =
    let a : Device = g.F.Flash.device c.args.flash.now in
    let area : Area = c.args.self.now.area in
    let did = c.in_err-self.ensures in
    record {
      touches = subst (λ (lost : Bool). Touches (c.args.self.now.area ∷ []) (g.F.Flash.device c.args.flash.now) (g.F.Flash.device c.round.new.flash) lost) (sym c.from_residual.ensures.0) c.in_err-self.ensures.touches;
      area = refl;
      items = c.in_err-self.ensures.items;
      written = c.in_err-self.ensures.written;
      changed = c.in_err-self.ensures.changed;
      ends = run_pass-stops (g.T.SlotSectors.format_of (geometry_of a area)) a (g.F.Flash.device c.round.new.flash) area c.args.self.now.current c.from_residual.result c.from_residual.ensures.0
          (record { used = c.requires.used; list = did.ends.list_lost; bound = did.ends.spends_lost; marks = did.marks });
      stands = no_ok c.from_residual.result _ c.from_residual.ensures.0;
      down = on_err c.from_residual.result refl;
    }

pub follow_round-requires-clause-area : goal.follow_round-requires-clause-area
follow_round-requires-clause-area g c =
    let a : Device = g.F.Flash.device c.args.flash.now in
    let d : Device = g.F.Flash.device c.round.new.flash in
    still_area g.T.SlotSectors.role a d c.args.self.now.area c.in_ok-self.ensures.touches.banks c.requires.stands.area

pub follow_round-requires-clause-inside : goal.follow_round-requires-clause-inside
follow_round-requires-clause-inside g c =
    let a : Device = g.F.Flash.device c.args.flash.now in
    let area : Area = c.args.self.now.area in
    let on = c.requires.stands in
    let law : IsSectorFormat (g.T.SlotSectors.format_of (geometry_of a area)) = g.met.T.SlotSectors.lawful (geometry_of a area) (unit_is a area (g.met.F.Flash.is_lawful c.args.flash.now) on.area.lawful) in
    let before = rests g.T.SlotSectors.format_of g.T.SlotSectors.role a area c.args.self.now.current law (g.met.F.Flash.is_lawful c.args.flash.now) on.area on.undamaged on.current on.rested in
    subst (λ (p : ℕ). p < area.sectors) (sym c.in_ok-self.ensures.opened) (next_within a area c.args.self.now.current before.ring.within)

pub returns : goal.returns
returns g c =
    let did = c.in_ok-self.ensures in
    let a : Device = g.F.Flash.device c.args.flash.now in
    let d : Device = g.F.Flash.device c.round.new.flash in
    let area : Area = c.args.self.now.area in
    let on = c.requires.stands in
    let law : IsSectorFormat (g.T.SlotSectors.format_of (geometry_of a area)) = g.met.T.SlotSectors.lawful (geometry_of a area) (unit_is a area (g.met.F.Flash.is_lawful c.args.flash.now) on.area.lawful) in
    let at : StandsAt g.T.SlotSectors.role g.T.SlotSectors.format_of g.T.SlotSectors.kept d area c.in_ok-self.field-0 c.round.new.opened =
    stands g.T.SlotSectors.role g.T.SlotSectors.format_of g.T.SlotSectors.kept a d area c.in_ok-self.field-0 c.round.new.opened law did.touches.banks on.area
    (subst (λ (p : ℕ). AtRest (g.T.SlotSectors.format_of (geometry_of a area)).reading (sectors_of d area) p) (sym did.opened) did.ends.rested)
    (subst (λ (p : ℕ). c.round.new.opened ≡ g.T.SlotSectors.kept (geometry_of a area) (sector_at (sectors_of d area) p)) (sym did.opened) did.ends.kept) in
    let before = rests g.T.SlotSectors.format_of g.T.SlotSectors.role a area c.args.self.now.current law (g.met.F.Flash.is_lawful c.args.flash.now) on.area on.undamaged on.current on.rested in
    let cached : IsCacheOn g.T.SlotSectors.format_of d area c.follow_round.new.cache =
    cache-follows g.T.SlotSectors.format_of a d area c.args.self.now.current c.in_ok-self.field-0 did.touches.banks before did.ends.does_pass did.opened c.args.self.now.cache c.follow_round.new.cache on.cached c.follow_round.ensures in
    record {
      touches = c.in_ok-self.ensures.touches;
      area = refl;
      items = c.in_ok-self.ensures.items;
      written = c.in_ok-self.ensures.written;
      changed = c.in_ok-self.ensures.changed;
      ends = record { used = c.requires.used; does_pass = did.ends.does_pass; units = did.ends.spends };
      stands = stands_with g.T.SlotSectors.role g.T.SlotSectors.format_of g.T.SlotSectors.kept d area c.in_ok-self.field-0 c.round.new.opened c.follow_round.new.cache at cached;
      down = tt;
    }
