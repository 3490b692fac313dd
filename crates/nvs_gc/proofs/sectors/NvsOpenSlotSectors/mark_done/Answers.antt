use Rattle.std.proofs.Common.{rules, ◌≡◌, ℕ, ◌<◌, ◌≤◌, true, List, length, sym, ap, subst, ◌∙◌, arith}
use Rattle.flash_sim.specs.Device.{Device}
use Rattle.flash_map.specs.declared.area.Area.{Area}
use Rattle.flash_map.specs.declared.area.Geometry.{Geometry}
use Rattle.flash_map.specs.declared.area.Role.TheVariants.{Nvs as nvs_role}
use Rattle.flash_map.specs.Area.{unit_of, sectors_of, sector_at}
use Rattle.item_laws.proofs.AreaReads.{length-sectors}
use Rattle.item_store.proofs.Areas.{same_geometry, size_there}
use Rattle.nvs_store.specs.Geometry.{capacity}
use Rattle.nvs_store.specs.Sector.{pairs, pairs_cost, is_sound}
use Rattle.nvs_store.specs.Scans.{scan_of}
use Rattle.nvs_format.proofs.StepLemmas.{marks, scan_marked}
use Rattle.nvs_gc.specs.declared.sectors.NvsOpen.{NvsOpen}
use Rattle.nvs_gc.proofs.OpenLemmas.{kept_is}
use Rattle.nvs_gc.proofs.sectors.NvsOpenSlotSectors.mark_done.Goals as goal

pub returns-clause-ok : goal.returns-clause-ok
returns-clause-ok g c = record {
  marks =
      let a : Device = g.F.Flash.device c.args.flash.now in
      let e : Device = g.F.Flash.device c.put_done.new.flash in
      let area : Area = c.args.area.now in
      let u : ℕ = unit_of a area in
      let b : List ℕ = sector_at (sectors_of a area) c.args.place in
      let long = size_there nvs_role a area (g.met.F.Flash.is_lawful c.args.flash.now) c.requires.here.area c.args.place c.requires.here.inside in
      let sound : pairs_cost u (pairs u b) ≤ capacity u (length b) → is_sound u (sector_at (sectors_of e area) c.args.place) ≡ true =
      subst (λ (n : ℕ). pairs_cost u (pairs u b) ≤ capacity u n → is_sound u (sector_at (sectors_of e area) c.args.place) ≡ true) (sym long) c.in_ok-put_done.ensures.sound in
      marks u b (sector_at (sectors_of e area) c.args.place) (omega (arith, c.requires.room)) sound c.in_ok-put_done.ensures.ok.marks;
  kept =
      let a : Device = g.F.Flash.device c.args.flash.now in
      let e : Device = g.F.Flash.device c.put_done.new.flash in
      let area : Area = c.args.area.now in
      let u : ℕ = unit_of a area in
      let count = length-sectors a area in
      let within : c.args.place < length (sectors_of a area) = omega (arith, c.requires.here.inside) in
      let put = c.in_ok-put_done.ensures.ok in
      let scanned : c.put_done.new.scan ≡ scan_of u (sectors_of e area) = c.in_ok-put_done.ensures.scan ∙ ap (λ (s : Geometry). scan_of s.unit (sectors_of e area)) (same_geometry a e area c.in_ok-put_done.ensures.touches.banks) in
      kept_is u (sector_at (sectors_of e area) c.args.place) c.put_done.new.scan.low c.args.self.now.data_end true
      (scan_marked u (sectors_of a area) (sectors_of e area) c.args.place within c.requires.here.opened c.put_done.new.scan scanned put)
      (ap (λ (o : NvsOpen). o.data_end) c.requires.here.kept ∙ sym put.marks.same_end) (sym put.marks.gc_done);
  spends = search rules;
}
