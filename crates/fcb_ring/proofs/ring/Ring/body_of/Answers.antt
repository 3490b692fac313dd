use Rattle.std.proofs.Common.{◌≡◌, ◌+◌, ◌-◌, ◌≤◌, ◌∙◌, ℕ, List, length, drop, length-drop, sym, ap, arith}
use Rattle.std.specs.Prelude.{slice_range}
use Rattle.std.proofs.lemmas.List.{length-take-le}
use Rattle.flash_sim.specs.Device.{Device}
use Rattle.flash_map.specs.Area.{unit_of, sectors_of, sector_size, sector_at}
use Rattle.fcb_ring.specs.declared.ring.Ring.{Ring}
use Rattle.fcb_ring.proofs.AreaLemmas.{has_size, count-sectors}
use Rattle.fcb_ring.proofs.ReadLemmas.{there}
use Rattle.fcb_ring.proofs.ring.Ring.body_of.Goals as goal

range-long : (l : List ℕ) (from n : ℕ) → from + n ≤ length l → length (slice_range l from (from + n)) ≡ n
range-long l from n fits = length-take-le (from + n - from) (drop from l) (omega (arith, length-drop from l)) ∙ omega arith

pub returns-clause-len : goal.returns-clause-len
returns-clause-len g c =
    let d : Device = g.F.Flash.device c.args.flash.now in
    let ring : Ring = c.args.self.now in
    let size = has_size d ring.area (g.met.F.Flash.is_lawful c.args.flash.now) c.requires.stands.area in
    let h = there (unit_of d ring.area) (sector_size d ring.area) (sectors_of d ring.area) size ring c.requires.stands.sectors ring.area.sectors (sym (count-sectors d ring.area)) c.args.r.now c.requires.listed in
    let long : length (sector_at (sectors_of d ring.area) c.args.r.now.sector) ≡ sector_size d ring.area = size.each c.args.r.now.sector (omega (arith, h.sector, count-sectors d ring.area)) in
    ap length (c.copy_of.ensures ∙ c.body.ensures.bytes) ∙ range-long (sector_at (sectors_of d ring.area) c.args.r.now.sector) c.args.r.now.body c.args.r.now.len (omega (arith, h.fits))
