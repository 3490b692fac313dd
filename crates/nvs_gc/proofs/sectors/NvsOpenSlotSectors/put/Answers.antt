use Rattle.std.proofs.Common.{rules, ◌≡◌, ℕ, ◌<◌, length, sym, ap, ◌∙◌, arith}
use Rattle.flash_sim.specs.Device.{Device}
use Rattle.flash_map.specs.declared.area.Area.{Area}
use Rattle.flash_map.specs.declared.area.Geometry.{Geometry}
use Rattle.flash_map.specs.Area.{unit_of, sectors_of, sector_at}
use Rattle.flash_map.proofs.PieceLemmas.{on_err}
use Rattle.flash_map.proofs.SpendingBounds.{between_exact, between_most}
use Rattle.item_laws.proofs.AreaReads.{length-sectors}
use Rattle.item_store.proofs.Areas.{same_geometry}
use Rattle.nvs_store.specs.Scans.{scan_of}
use Rattle.nvs_store.specs.On.{entry_units}
use Rattle.nvs_store.proofs.Views.{unit_is}
use Rattle.nvs_format.proofs.StepLemmas.{adds, stops, fits_cost, scan_added}
use Rattle.nvs_gc.specs.declared.sectors.NvsOpen.{NvsOpen}
use Rattle.nvs_gc.proofs.OpenLemmas.{kept_is}
use Rattle.nvs_gc.proofs.RoomLemmas.{stops_room}
use Rattle.nvs_gc.proofs.sectors.NvsOpenSlotSectors.put.Goals as goal

-- ---- the pair was put

pub returns-clause-ends : goal.returns-clause-ends
returns-clause-ends g c = record {
  only = search rules;
  adds =
      let a : Device = g.F.Flash.device c.args.flash.now in
      let e : Device = g.F.Flash.device c.append.new.flash in
      let area : Area = c.args.area.now in
      let u : ℕ = unit_of a area in
      let is-unit = unit_is a area (g.met.F.Flash.is_lawful c.args.flash.now) c.requires.here.area.lawful.in_bank in
      let room = fits_cost u (sector_at (sectors_of a area) c.args.place) (length c.args.bytes.now) is-unit c.requires.fits in
      adds u (sector_at (sectors_of a area) c.args.place) (sector_at (sectors_of e area) c.args.place) c.args.id c.args.bytes.now (omega arith) c.in_ok-append.ensures.ends.ok.adds;
  kept =
      let a : Device = g.F.Flash.device c.args.flash.now in
      let e : Device = g.F.Flash.device c.append.new.flash in
      let area : Area = c.args.area.now in
      let u : ℕ = unit_of a area in
      let is-unit = unit_is a area (g.met.F.Flash.is_lawful c.args.flash.now) c.requires.here.area.lawful.in_bank in
      let room = fits_cost u (sector_at (sectors_of a area) c.args.place) (length c.args.bytes.now) is-unit c.requires.fits in
      let count = length-sectors a area in
      let within : c.args.place < length (sectors_of a area) = omega (arith, c.requires.here.inside) in
      let put = c.in_ok-append.ensures.ends.ok in
      let scanned : c.append.new.scan ≡ scan_of u (sectors_of e area) = c.in_ok-append.ensures.ends.scan ∙ ap (λ (s : Geometry). scan_of s.unit (sectors_of e area)) (same_geometry a e area c.in_ok-append.ensures.touches.banks) in
      let at = scan_added u (sectors_of a area) (sectors_of e area) c.args.place within c.requires.here.opened c.append.new.scan scanned c.args.id c.args.bytes.now is-unit (omega arith) put in
      kept_is u (sector_at (sectors_of e area) c.args.place) c.append.new.scan.low c.append.new.scan.data_end c.args.self.now.gc_done at.0 at.1
      (ap (λ (o : NvsOpen). o.gc_done) c.requires.here.kept ∙ sym put.adds.gc_done);
  lost = tt;
  room_lost = tt;
  sound = search rules;
  spends =
      let a : Device = g.F.Flash.device c.args.flash.now in
      between_exact a (g.F.Flash.device c.append.new.flash) (entry_units a c.args.area.now (length c.args.bytes.now)) c.in_ok-append.ensures.ends.spent;
  spends_lost = tt;
}

-- ---- power was lost in it

pub returns-in_err-append-clause-ends : goal.returns-in_err-append-clause-ends
returns-in_err-append-clause-ends g c = record {
  only = search rules;
  adds = search rules;
  kept = search rules;
  lost =
      let a : Device = g.F.Flash.device c.args.flash.now in
      let e : Device = g.F.Flash.device c.append.new.flash in
      let area : Area = c.args.area.now in
      let u : ℕ = unit_of a area in
      let is-unit = unit_is a area (g.met.F.Flash.is_lawful c.args.flash.now) c.requires.here.area.lawful.in_bank in
      let room = fits_cost u (sector_at (sectors_of a area) c.args.place) (length c.args.bytes.now) is-unit c.requires.fits in
      on_err c.from_residual.result
      (stops u (sector_at (sectors_of a area) c.args.place) (sector_at (sectors_of e area) c.args.place) c.args.id c.args.bytes.now (omega arith) c.in_err-append.ensures.sound c.in_err-append.ensures.ends.lost.stops);
  room_lost =
      let a : Device = g.F.Flash.device c.args.flash.now in
      let e : Device = g.F.Flash.device c.append.new.flash in
      let area : Area = c.args.area.now in
      let u : ℕ = unit_of a area in
      on_err c.from_residual.result
      (stops_room u (sector_at (sectors_of a area) c.args.place) (sector_at (sectors_of e area) c.args.place) c.args.id c.args.bytes.now c.in_err-append.ensures.ends.lost.stops);
  sound = search rules;
  spends = search rules;
  spends_lost =
      let a : Device = g.F.Flash.device c.args.flash.now in
      on_err c.from_residual.result (between_most a (g.F.Flash.device c.append.new.flash) (entry_units a c.args.area.now (length c.args.bytes.now)) c.in_err-append.ensures.ends.spent_at_most);
}
