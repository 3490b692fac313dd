use Rattle.std.proofs.Common.{◌+◌, ◌∙◌, ℕ, List, Some, sym, ap, arith}
use Rattle.std.specs.Prelude.{slice_range}
use Rattle.flash_map.specs.Area.{unit_of, sectors_of, sector_size}
use Rattle.fcb_ring.proofs.AreaLemmas.{has_size, count-sectors}
use Rattle.fcb_ring.proofs.ReadLemmas.{there, body-there}
use Rattle.fcb_ring.proofs.ring.Ring.body.Goals as goal

pub sector_view-sector-requires-clause-has_sector : goal.sector_view-sector-requires-clause-has_sector
sector_view-sector-requires-clause-has_sector g c =
    let d = g.F.Flash.device c.args.flash.now in
    let ring = c.args.self.now in
    (there (unit_of d ring.area) (sector_size d ring.area) (sectors_of d ring.area) (has_size d ring.area (g.met.F.Flash.is_lawful c.args.flash.now) c.requires.stands.area) ring c.requires.stands.sectors ring.area.sectors (sym (count-sectors d ring.area)) c.args.r.now c.requires.record).sector

pub slice_bounds-result-end : goal.slice_bounds-result-end
slice_bounds-result-end g c =
    let d = g.F.Flash.device c.args.flash.now in
    let ring = c.args.self.now in
    let h = there (unit_of d ring.area) (sector_size d ring.area) (sectors_of d ring.area) (has_size d ring.area (g.met.F.Flash.is_lawful c.args.flash.now) c.requires.stands.area) ring c.requires.stands.sectors ring.area.sectors (sym (count-sectors d ring.area)) c.args.r.now c.requires.record in
    omega (arith, h.fits, c.sector_view-sector.ensures.len)

pub returns-clause-body : goal.returns-clause-body
returns-clause-body g c = λ i listed.
    let d = g.F.Flash.device c.args.flash.now in
    let ring = c.args.self.now in
    let r = c.args.r.now in
    body-there (unit_of d ring.area) (sector_size d ring.area) (sectors_of d ring.area) (has_size d ring.area (g.met.F.Flash.is_lawful c.args.flash.now) c.requires.stands.area) ring c.requires.stands.sectors ring.area.sectors (sym (count-sectors d ring.area)) c.args.r.now i listed
    ∙ ap (λ (l : List ℕ). Some (c.args.r.now, slice_range l c.args.r.now.body (c.args.r.now.body + c.args.r.now.len))) (sym c.sector_view-sector.ensures.bytes)
