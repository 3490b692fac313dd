use Rattle.std.proofs.Common.{◌≡◌, ℕ, ◌+◌, ◌-◌, ◌*◌, ◌<◌, ◌≤◌, List, length, sym, ap, subst, ◌∙◌, arith}
use Rattle.flash_sim.specs.Device.{Device}
use Rattle.flash_map.specs.declared.area.Area.{Area}
use Rattle.flash_map.specs.declared.area.Geometry.{Geometry}
use Rattle.flash_map.specs.Area.{unit_of, sectors_of, sector_at}
use Rattle.flash_map.specs.Spending.{Spends, SpendsAtMost}
use Rattle.flash_map.proofs.PieceLemmas.{on_err}
use Rattle.flash_map.proofs.SpendingBounds.{between_exact, between_most}
use Rattle.item_laws.proofs.AreaReads.{length-sectors}
use Rattle.item_store.proofs.Areas.{same_geometry}
use Rattle.nvs_store.specs.Geometry.{slot_size, cost}
use Rattle.nvs_store.specs.Sector.{low, data_end}
use Rattle.nvs_store.specs.Scans.{scan_of}
use Rattle.nvs_store.specs.On.{bytes_on, entry_units}
use Rattle.nvs_store.proofs.Views.{unit_is}
use Rattle.nvs_format.proofs.StepLemmas.{adds_copy, stops_marks, scan_added}
use Rattle.nvs_gc.specs.declared.sectors.NvsOpen.{NvsOpen}
use Rattle.nvs_gc.proofs.OpenLemmas.{kept_is}
use Rattle.nvs_gc.proofs.sectors.NvsOpenSlotSectors.copy.Goals as goal

pub copy_entry-requires-clause-source : goal.copy_entry-requires-clause-source
copy_entry-requires-clause-source g c = record {
  has_source = c.read_again-own.ensures.in_area.sector;
  other = λ (e : c.read_again-own.result.sector ≡ c.args.place). c.requires.source.other (sym c.read_again-own.ensures.own.sector ∙ e);
  ordinary = let other = c.read_again-own.ensures.in_area.ordinary in let small = c.read_again-own.ensures.small in omega (arith, other, small);
  inside = c.read_again-own.ensures.in_area.inside;
}

pub copy_entry-requires-clause-free : goal.copy_entry-requires-clause-free
copy_entry-requires-clause-free g c =
    let a : Device = g.F.Flash.device c.args.flash.now in
    let area : Area = c.args.area.now in
    let u : ℕ = unit_of a area in
    let b : List ℕ = sector_at (sectors_of a area) c.args.place in
    let room : cost u c.read_again-own.result.entry.len + 3 * slot_size u ≤ low u b - data_end u b =
    subst (λ (n : ℕ). cost u n + 3 * slot_size u ≤ low u b - data_end u b) (sym c.read_again-own.ensures.own.len) c.requires.room in
    subst (λ (o : NvsOpen). cost u c.read_again-own.result.entry.len + 3 * slot_size u ≤ o.low - o.data_end) (sym c.requires.here.kept) room

-- ---- the pair was copied

pub returns-clause-adds : goal.returns-clause-adds
returns-clause-adds g c =
    let a : Device = g.F.Flash.device c.args.flash.now in
    let e : Device = g.F.Flash.device c.copy_entry.new.flash in
    let area : Area = c.args.area.now in
    adds_copy (unit_of a area) (sector_at (sectors_of a area) c.args.place) (sector_at (sectors_of e area) c.args.place) (sectors_of a area) c.args.from.now c.read_again-own.result
    c.read_again-own.ensures.own c.requires.room c.in_ok-copy_entry.ensures.ends.ok.adds

pub returns-clause-kept : goal.returns-clause-kept
returns-clause-kept g c =
    let a : Device = g.F.Flash.device c.args.flash.now in
    let e : Device = g.F.Flash.device c.copy_entry.new.flash in
    let area : Area = c.args.area.now in
    let u : ℕ = unit_of a area in
    let is-unit = unit_is a area (g.met.F.Flash.is_lawful c.args.flash.now) c.requires.here.area.lawful.in_bank in
    let room : cost u c.args.from.now.len + 3 * slot_size u ≤ low u (sector_at (sectors_of a area) c.args.place) - data_end u (sector_at (sectors_of a area) c.args.place) = c.requires.room in
    let count = length-sectors a area in
    let within : c.args.place < length (sectors_of a area) = omega (arith, c.requires.here.inside) in
    let put = c.in_ok-copy_entry.ensures.ends.ok in
    let scanned : c.copy_entry.new.scan ≡ scan_of u (sectors_of e area) = c.in_ok-copy_entry.ensures.ends.scan ∙ ap (λ (s : Geometry). scan_of s.unit (sectors_of e area)) (same_geometry a e area c.in_ok-copy_entry.ensures.touches.banks) in
    let at = scan_added u (sectors_of a area) (sectors_of e area) c.args.place within c.requires.here.opened c.copy_entry.new.scan scanned c.read_again-own.result.entry.id (bytes_on a area c.read_again-own.result) is-unit (omega arith) put in
    kept_is u (sector_at (sectors_of e area) c.args.place) c.copy_entry.new.scan.low c.copy_entry.new.scan.data_end c.args.self.now.gc_done at.0 at.1
    (ap (λ (o : NvsOpen). o.gc_done) c.requires.here.kept ∙ sym put.adds.gc_done)

pub returns-clause-spends : goal.returns-clause-spends
returns-clause-spends g c =
    let a : Device = g.F.Flash.device c.args.flash.now in
    let e : Device = g.F.Flash.device c.copy_entry.new.flash in
    between_exact a e (entry_units a c.args.area.now c.args.from.now.len)
    (subst (λ (n : ℕ). Spends a e (entry_units a c.args.area.now n)) c.read_again-own.ensures.own.len c.in_ok-copy_entry.ensures.ends.spent)

-- ---- power was lost in it

pub returns-in_err-copy_entry-clause-lost : goal.returns-in_err-copy_entry-clause-lost
returns-in_err-copy_entry-clause-lost g c =
    let a : Device = g.F.Flash.device c.args.flash.now in
    let e : Device = g.F.Flash.device c.copy_entry.new.flash in
    let area : Area = c.args.area.now in
    on_err c.from_residual.result
    (stops_marks (unit_of a area) (sector_at (sectors_of a area) c.args.place) (sector_at (sectors_of e area) c.args.place) c.read_again-own.result.entry.id (bytes_on a area c.read_again-own.result) c.in_err-copy_entry.ensures.ends.lost.stops)

pub returns-in_err-copy_entry-clause-spends_lost : goal.returns-in_err-copy_entry-clause-spends_lost
returns-in_err-copy_entry-clause-spends_lost g c =
    let a : Device = g.F.Flash.device c.args.flash.now in
    let e : Device = g.F.Flash.device c.copy_entry.new.flash in
    on_err c.from_residual.result
    (between_most a e (entry_units a c.args.area.now c.args.from.now.len)
    (subst (λ (n : ℕ). SpendsAtMost a e (entry_units a c.args.area.now n)) c.read_again-own.ensures.own.len c.in_err-copy_entry.ensures.ends.spent_at_most))
