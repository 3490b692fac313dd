use Rattle.std.proofs.Common.{◌≡◌, ◌∙◌, ℕ, List, Option, true, sym, ap, subst}
use Rattle.std.specs.Option.{option_map}
use Rattle.flash_map.specs.declared.area.Geometry.{Geometry}
use Rattle.flash_sim.specs.Device.{Device}
use Rattle.flash_map.specs.declared.area.Area.{Area}
use Rattle.flash_map.specs.Area.{unit_of, sector_bytes}
use Rattle.fcb_ring.specs.declared.record.Record.{Record}
use Rattle.fcb_ring.specs.Records.{last_wanted}
use Rattle.fcb_ring.specs.Entries.{placed}
use Rattle.fcb_ring.specs.SectorStates.{IsSector}
use Rattle.fcb_ring.proofs.AreaLemmas.{has_size, sector_is}
use Rattle.fcb_ring.proofs.LastLemmas.{last-sector}
use Rattle.fcb_ring.proofs.ring.Ring.last_in.Goals as goal

pub last_checked-requires : goal.last_checked-requires
last_checked-requires g c =
    let d = g.F.Flash.device c.args.flash.now in
    subst (λ (geometry : Geometry). IsSector geometry.unit c.sector_view-sector.result.now) (sym c.geometry-unit.ensures)
    (sector_is (has_size d c.args.self.now.area (g.met.F.Flash.is_lawful c.args.flash.now) c.requires.stands.area) c.sector_view-sector.result.now c.sector_view-sector.ensures.len)

pub returns-in-Some-clause-last : goal.returns-in-Some-clause-last
returns-in-Some-clause-last g c =
    let d : Device = g.F.Flash.device c.args.flash.now in
    let area : Area = c.args.self.now.area in
    let view : List ℕ = c.sector_view-sector.result.now in
    let found : c.last_checked.result ≡ last_wanted (unit_of d area) (sector_bytes d area c.args.place) c.args.prefix.now c.args.most true =
    c.last_checked.ensures
    ∙ ap (λ (geometry : Geometry). last_wanted geometry.unit view c.args.prefix.now c.args.most true) c.geometry-unit.ensures
    ∙ ap (λ (l : List ℕ). last_wanted (unit_of d area) l c.args.prefix.now c.args.most true) c.sector_view-sector.ensures.bytes in
    sym (last-sector (unit_of d area) c.args.place (sector_bytes d area c.args.place) c.args.prefix.now c.args.most
    ∙ ap (λ (o : Option Record). option_map (placed c.args.place) o) (sym found ∙ c.in-Some.is))

pub returns-in-None-clause-last : goal.returns-in-None-clause-last
returns-in-None-clause-last g c =
    let d : Device = g.F.Flash.device c.args.flash.now in
    let area : Area = c.args.self.now.area in
    let view : List ℕ = c.sector_view-sector.result.now in
    let found : c.last_checked.result ≡ last_wanted (unit_of d area) (sector_bytes d area c.args.place) c.args.prefix.now c.args.most true =
    c.last_checked.ensures
    ∙ ap (λ (geometry : Geometry). last_wanted geometry.unit view c.args.prefix.now c.args.most true) c.geometry-unit.ensures
    ∙ ap (λ (l : List ℕ). last_wanted (unit_of d area) l c.args.prefix.now c.args.most true) c.sector_view-sector.ensures.bytes in
    sym (last-sector (unit_of d area) c.args.place (sector_bytes d area c.args.place) c.args.prefix.now c.args.most
    ∙ ap (λ (o : Option Record). option_map (placed c.args.place) o) (sym found ∙ c.in-None.is))
