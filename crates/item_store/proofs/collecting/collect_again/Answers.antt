use Rattle.std.proofs.Common.{ℕ, inl, ◌≡◌, Bool, OnOk, ◌∷◌, [], sym, subst}
use Rattle.std.proofs.lemmas.Result.{on_ok_weaker, on_err_weaker}
use Rattle.flash_sim.specs.Device.{Device}
use Rattle.flash_map.specs.declared.area.Area.{Area}
use Rattle.flash_map.specs.Area.{geometry_of, sectors_of, sector_at}
use Rattle.flash_map.proofs.PieceLemmas.{on_err}
use Rattle.item_store.specs.SectorFormat.{SectorFormat, IsSectorFormat}
use Rattle.item_store.specs.Spending.{collect_units, ready_units}
use Rattle.item_store.proofs.Areas.{unit_is, still_area, stopped-keeps}
use Rattle.item_store.proofs.ListSteps.{stopped-list}
use Rattle.item_store.proofs.Ranges.{by-lost, by-whole, first-lost}
use Rattle.item_store.proofs.SlotFacts.{current_within}
use Rattle.item_store.proofs.CallFacts.{no_ok, to_geometry, from_geometry, not_closed, prepare_stops, again_form, again_none, again_collected, again_keeps, again_lists, again_spends, again_spends_lost}
use Rattle.item_store.specs.Written.{IsWritten}
use Rattle.item_store.proofs.WrittenSteps.{stopped-written}
use Rattle.item_store.specs.Collecting.{MarksFirst}
use Rattle.item_store.proofs.MarkFacts.{own-marks, then-marks}
use Rattle.flash_map.specs.Touches.{Touches}
use Rattle.flash_map.proofs.Touches.{then}
use Rattle.item_store.proofs.collecting.collect_again.Goals as goal

pub prepare-requires : goal.prepare-requires
prepare-requires g c =
    let a : Device = g.F.Flash.device c.args.flash.now in
    let area : Area = c.args.area.now in
    let place : ℕ = c.args.current in
    let law : IsSectorFormat (g.T.SlotSectors.format_of (geometry_of a area)) = g.met.T.SlotSectors.lawful (geometry_of a area) (unit_is a area (g.met.F.Flash.is_lawful c.args.flash.now) c.requires.area.lawful) in
    record {
      area = c.requires.area;
      kept = c.requires.kept;
      inside = current_within a area place c.requires.collecting.ring.within;
      not_closed = not_closed g.T.SlotSectors.format_of g.T.SlotSectors.role a area place law (g.met.F.Flash.is_lawful c.args.flash.now) c.requires.area c.requires.collecting;
    }

pub returns-in_err-prepare : goal.returns-in_err-prepare
returns-in_err-prepare g c =
    let a : Device = g.F.Flash.device c.args.flash.now in
    let area : Area = c.args.area.now in
    let place : ℕ = c.args.current in
    let law : IsSectorFormat (g.T.SlotSectors.format_of (geometry_of a area)) = g.met.T.SlotSectors.lawful (geometry_of a area) (unit_is a area (g.met.F.Flash.is_lawful c.args.flash.now) c.requires.area.lawful) in
    let k : SectorFormat = g.T.SlotSectors.format_of (geometry_of a c.args.area.now) in
    record {
      touches = subst (λ (lost : Bool). Touches (c.args.area.now ∷ []) (g.F.Flash.device c.args.flash.now) (g.F.Flash.device c.prepare.new.flash) lost) (sym c.from_residual.ensures.0) c.in_err-prepare.ensures.touches;
      collects = no_ok c.from_residual.result _ c.from_residual.ensures.0;
      items = stopped-keeps (g.T.SlotSectors.format_of (geometry_of a area)) law (sectors_of a area) (sectors_of (g.F.Flash.device c.prepare.new.flash) area) place c.requires.collecting (prepare_stops g.T.SlotSectors.format_of g.T.SlotSectors.role a area place law (g.met.F.Flash.is_lawful c.args.flash.now) c.requires.area c.requires.collecting (g.F.Flash.device c.prepare.new.flash) c.in_err-prepare.ensures.only c.in_err-prepare.ensures.lost);
      list_lost = on_err c.from_residual.result (inl (stopped-list (g.T.SlotSectors.format_of (geometry_of a area)) law (sectors_of a area) place c.requires.collecting (sectors_of (g.F.Flash.device c.prepare.new.flash) area) (prepare_stops g.T.SlotSectors.format_of g.T.SlotSectors.role a area place law (g.met.F.Flash.is_lawful c.args.flash.now) c.requires.area c.requires.collecting (g.F.Flash.device c.prepare.new.flash) c.in_err-prepare.ensures.only c.in_err-prepare.ensures.lost)));
      written = stopped-written (g.T.SlotSectors.format_of (geometry_of a area)) law (sectors_of a area) (sectors_of (g.F.Flash.device c.prepare.new.flash) area) place c.requires.collecting (prepare_stops g.T.SlotSectors.format_of g.T.SlotSectors.role a area place law (g.met.F.Flash.is_lawful c.args.flash.now) c.requires.area c.requires.collecting (g.F.Flash.device c.prepare.new.flash) c.in_err-prepare.ensures.only c.in_err-prepare.ensures.lost);
      kept = no_ok c.from_residual.result _ c.from_residual.ensures.0;
      spends = no_ok c.from_residual.result _ c.from_residual.ensures.0;
      spends_lost = on_err c.from_residual.result
          (first-lost a (g.F.Flash.device c.prepare.new.flash) (ready_units k (sectors_of a c.args.area.now) c.args.current) (collect_units k (sectors_of a c.args.area.now) c.args.current) c.in_err-prepare.ensures.spends_lost);
      marks = own-marks (g.T.SlotSectors.format_of (geometry_of a area)) (sectors_of a area) (sectors_of (g.F.Flash.device c.prepare.new.flash) area) place 0 c.requires.collecting.ring c.in_err-prepare.ensures.only;
    }

pub collect-requires : goal.collect-requires
collect-requires g c =
    let a : Device = g.F.Flash.device c.args.flash.now in
    let area : Area = c.args.area.now in
    let d : Device = g.F.Flash.device c.prepare.new.flash in
    let did = c.in_ok-prepare.ensures in
    let place : ℕ = c.args.current in
    let law : IsSectorFormat (g.T.SlotSectors.format_of (geometry_of a area)) = g.met.T.SlotSectors.lawful (geometry_of a area) (unit_is a area (g.met.F.Flash.is_lawful c.args.flash.now) c.requires.area.lawful) in
    record {
      area = still_area g.T.SlotSectors.role a d area did.touches.banks c.requires.area;
      kept = from_geometry (λ u. c.prepare.new.opened ≡ g.T.SlotSectors.kept u (sector_at (sectors_of d area) place)) a d area did.touches.banks did.kept;
      collecting = again_form g.T.SlotSectors.format_of g.T.SlotSectors.role a area place law (g.met.F.Flash.is_lawful c.args.flash.now) c.requires.area c.requires.collecting d did.touches.banks did.begun;
      begun = again_none g.T.SlotSectors.format_of g.T.SlotSectors.role a area place law (g.met.F.Flash.is_lawful c.args.flash.now) c.requires.area c.requires.collecting d did.touches.banks did.begun;
    }

pub returns : goal.returns
returns g c =
    let a : Device = g.F.Flash.device c.args.flash.now in
    let area : Area = c.args.area.now in
    let place : ℕ = c.args.current in
    let law : IsSectorFormat (g.T.SlotSectors.format_of (geometry_of a area)) = g.met.T.SlotSectors.lawful (geometry_of a area) (unit_is a area (g.met.F.Flash.is_lawful c.args.flash.now) c.requires.area.lawful) in
    let d : Device = g.F.Flash.device c.prepare.new.flash in
    let did = c.in_ok-prepare.ensures in
    let e : Device = g.F.Flash.device c.collect.new.flash in
    record {
      touches = then c.in_ok-prepare.ensures.touches c.collect.ensures.touches;
      collects = on_ok_weaker c.collect.result (λ at. again_collected g.T.SlotSectors.format_of g.T.SlotSectors.role a area place law (g.met.F.Flash.is_lawful c.args.flash.now) c.requires.area c.requires.collecting d did.touches.banks did.begun e at) c.collect.ensures.collects;
      items = again_keeps g.T.SlotSectors.format_of g.T.SlotSectors.role a area place law (g.met.F.Flash.is_lawful c.args.flash.now) c.requires.area c.requires.collecting d did.touches.banks did.begun e c.collect.ensures.items;
      list_lost = on_err_weaker c.collect.result (λ either. again_lists g.T.SlotSectors.format_of g.T.SlotSectors.role a area place law (g.met.F.Flash.is_lawful c.args.flash.now) c.requires.area c.requires.collecting d did.touches.banks did.begun e either) c.collect.ensures.list_lost;
      written = to_geometry (λ u. IsWritten (g.T.SlotSectors.format_of u) (sectors_of e area)) a d area c.in_ok-prepare.ensures.touches.banks c.collect.ensures.written;
      kept = to_geometry (λ u. OnOk c.collect.result (c.collect.new.opened ≡ g.T.SlotSectors.kept u (sector_at (sectors_of e area) place))) a d area did.touches.banks c.collect.ensures.kept;
      spends = on_ok_weaker c.collect.result (λ s. again_spends g.T.SlotSectors.format_of g.T.SlotSectors.role a area place law (g.met.F.Flash.is_lawful c.args.flash.now) c.requires.area c.requires.collecting d did.touches.banks did.begun e did.spends s) (by-whole d e (collect_units (g.T.SlotSectors.format_of (geometry_of d area)) (sectors_of d area) place) c.collect.result c.collect.ensures.spends);
      spends_lost = on_err_weaker c.collect.result (λ s. again_spends_lost g.T.SlotSectors.format_of g.T.SlotSectors.role a area place law (g.met.F.Flash.is_lawful c.args.flash.now) c.requires.area c.requires.collecting d did.touches.banks did.begun e did.spends s) (by-lost d e (collect_units (g.T.SlotSectors.format_of (geometry_of d area)) (sectors_of d area) place) c.collect.result c.collect.ensures.spends);
      marks = then-marks (g.T.SlotSectors.format_of (geometry_of a area)) (sectors_of a area) (sectors_of d area) (sectors_of e area) place 0 c.requires.collecting.ring did.only
          (to_geometry (λ u. MarksFirst (g.T.SlotSectors.format_of u) (sectors_of d area) (sectors_of e area) place) a d area did.touches.banks c.collect.ensures.marks);
    }
