use Rattle.std.proofs.Common.{◌≡◌, ◌<◌, length, get_or, sym, ap, ◌∙◌, arith}
use Rattle.std.specs.Option.{option_map}
use Rattle.flash_sim.specs.Device.{Device}
use Rattle.flash_map.specs.Area.{value_limit, unit_of, sector_size, sectors_of}
use Rattle.flash_map.specs.declared.area.Area.{Area}
use Rattle.flash_map.specs.declared.area.Geometry.{Geometry}
use Rattle.fcb_ring.proofs.AreaLemmas.{has_size, count-sectors}
use Rattle.record_settings.specs.Room.{cap}
use Rattle.backend_fcb.proofs.PutsCosts.{overfull_at, over-none, over-more, over-found, over-end}
use Rattle.backend_fcb.proofs.mounting.first_overfull.Goals as goal

pub loop-sector-init : goal.loop-sector-init
loop-sector-init g c = record { within = omega arith; passed = over-none (value_limit c.args.ring.now.area) (unit_of (g.F.Flash.device c.args.flash.now) c.args.ring.now.area) (sectors_of (g.F.Flash.device c.args.flash.now) c.args.ring.now.area) }

pub returns-then-most-costs : goal.returns-then-most-costs
returns-then-most-costs g c =
    let d : Device = g.F.Flash.device c.args.flash.now in
    let ring = c.args.ring.now in
    let has = has_size d ring.area (g.met.F.Flash.is_lawful c.args.flash.now) c.requires.area in
    let count = count-sectors d ring.area in
    let sectors : c.geometry-geometry.result.sectors ≡ ring.area.sectors = ap (λ (x : Geometry). x.sectors) c.geometry-geometry.ensures ∙ ap (λ (x : Area). x.sectors) c.area.ensures in
    let most : c.from-most.result ≡ cap (unit_of d ring.area) (sector_size d ring.area) = c.from-most.ensures ∙ c.cap.ensures ∙ ap (λ (x : Geometry). cap x.unit x.sector) c.geometry-geometry.ensures ∙ ap (λ (x : Area). cap (unit_of d x) (sector_size d x)) c.area.ensures in
    let lt : c.loop-sector.sector < length (sectors_of d ring.area) = omega arith in
    sym (ap (option_map overfull_at) (over-found (value_limit c.args.ring.now.area) (unit_of d ring.area) (sector_size d ring.area) (sectors_of d ring.area) has c.loop-sector.sector c.from-most.result (get_or c.costs-costs.result c.loop-sector.sector 0) lt most (c.costs-costs.ensures c.loop-sector.sector (omega (arith, has.few))) c.if-most-costs.true c.loop-sector.invariant.passed))

pub loop-sector-preserved : goal.loop-sector-preserved
loop-sector-preserved g c =
    let d : Device = g.F.Flash.device c.args.flash.now in
    let ring = c.args.ring.now in
    let has = has_size d ring.area (g.met.F.Flash.is_lawful c.args.flash.now) c.requires.area in
    let count = count-sectors d ring.area in
    let sectors : c.geometry-geometry.result.sectors ≡ ring.area.sectors = ap (λ (x : Geometry). x.sectors) c.geometry-geometry.ensures ∙ ap (λ (x : Area). x.sectors) c.area.ensures in
    let most : c.from-most.result ≡ cap (unit_of d ring.area) (sector_size d ring.area) = c.from-most.ensures ∙ c.cap.ensures ∙ ap (λ (x : Geometry). cap x.unit x.sector) c.geometry-geometry.ensures ∙ ap (λ (x : Area). cap (unit_of d x) (sector_size d x)) c.area.ensures in
    let lt : c.loop-sector.sector < length (sectors_of d ring.area) = omega arith in
    record {
      within = omega arith;
      passed = over-more (value_limit c.args.ring.now.area) (unit_of d ring.area) (sector_size d ring.area) (sectors_of d ring.area) has c.loop-sector.sector c.from-most.result (get_or c.costs-costs.result c.loop-sector.sector 0) lt most (c.costs-costs.ensures c.loop-sector.sector (omega (arith, has.few))) c.if-most-costs.false c.loop-sector.invariant.passed;
    }

pub returns : goal.returns
returns g c =
    let d : Device = g.F.Flash.device c.args.flash.now in
    let ring = c.args.ring.now in
    let has = has_size d ring.area (g.met.F.Flash.is_lawful c.args.flash.now) c.requires.area in
    let count = count-sectors d ring.area in
    let sectors : c.geometry-geometry.result.sectors ≡ ring.area.sectors = ap (λ (x : Geometry). x.sectors) c.geometry-geometry.ensures ∙ ap (λ (x : Area). x.sectors) c.area.ensures in
    let most : c.from-most.result ≡ cap (unit_of d ring.area) (sector_size d ring.area) = c.from-most.ensures ∙ c.cap.ensures ∙ ap (λ (x : Geometry). cap x.unit x.sector) c.geometry-geometry.ensures ∙ ap (λ (x : Area). cap (unit_of d x) (sector_size d x)) c.area.ensures in
    sym (ap (option_map overfull_at) (over-end (value_limit c.args.ring.now.area) (unit_of d ring.area) (sectors_of d ring.area) c.loop-sector.sector (omega arith) c.loop-sector.invariant.passed))
