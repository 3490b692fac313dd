use Rattle.std.proofs.Common.{◌≡◌, ℕ, List, false, sym, ap, ◌∙◌}
use Rattle.flash_sim.specs.Device.{Device}
use Rattle.flash_map.specs.declared.area.Geometry.{Geometry}
use Rattle.flash_map.specs.Area.{unit_of, sectors_of}
use Rattle.item_laws.specs.Area.{is_closed_at}
use Rattle.nvs_store.specs.Scans.{reading}
use Rattle.nvs_store.specs.Sector.{is_closed}
use Rattle.item_laws.proofs.AreaReads.{previous_there}
use Rattle.nvs_store.proofs.MountLemmas.{opening_is}
use Rattle.nvs_store.proofs.places.is_match.Goals as goal

pub returns-then-not-is_closed : goal.returns-then-not-is_closed
returns-then-not-is_closed g c =
    let d : Device = g.F.Flash.device c.args.flash.now in
    let unit : ℕ = unit_of d c.args.area.now in
    let sectors : List (List ℕ) = sectors_of d c.args.area.now in
    let here : is_closed_at (reading unit) sectors c.args.place ≡ false =
    ap (is_closed unit) (sym c.sector_view-bytes.ensures.bytes) ∙ ap (λ (x : Geometry). is_closed x.unit c.sector_view-bytes.result.now) (sym c.geometry-unit.ensures) ∙ sym c.is_closed-in-Opening.ensures ∙ c.if-not-is_closed.true in
    opening_is unit sectors c.args.place c.previous.result c.args.lookup c.is_closed-then-not-is_closed.result c.in-Opening.is here (c.previous.ensures.value ∙ previous_there d c.args.area.now c.args.place) c.is_closed-then-not-is_closed.ensures.value
