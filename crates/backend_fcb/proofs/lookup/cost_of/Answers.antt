use Rattle.std.proofs.Common.{◌≡◌, ℕ, ◌+◌, ◌<◌, List, length, take, get_or, ap, ◌∙◌, arith, [], ◌∷◌}
use Rattle.std.specs.Prelude.{sum_by}
use Rattle.std.proofs.lemmas.List.{take_more, map-append}
use Rattle.std.proofs.lemmas.List.Sums.{sum_by-append, sum_by-cons}
use Rattle.flash_sim.specs.Device.{Device}
use Rattle.flash_map.specs.Area.{value_limit, unit_of}
use Rattle.flash_map.specs.declared.area.Area.{Area}
use Rattle.flash_map.specs.declared.area.Geometry.{Geometry}
use Rattle.fcb_ring.specs.Changing.{body_at}
use Rattle.record_settings.specs.Room.{put_cost}
use Rattle.backend_fcb.specs.Compaction.{bodies_at}
use Rattle.backend_fcb.specs.declared.compaction.Kept.{Kept}
use Rattle.backend_fcb.proofs.lookup.cost_of.Goals as goal

abbrev nothing : Kept
nothing = record { at = record { sector = 0; offset = 0; body = 0; len = 0 }; mark = 0 }

-- the sum once one more is added
more : (d : Device) (area : Area) (table : List Kept) (k : ℕ) (unit : ℕ) → k < length table
    → sum_by (put_cost (value_limit area) unit) (bodies_at d area (take (k + 1) table)) ≡ sum_by (put_cost (value_limit area) unit) (bodies_at d area (take k table)) + put_cost (value_limit area) unit (body_at d area (get_or table k nothing).at)
more d area table k unit lt =
    ap (λ (l : List Kept). sum_by (put_cost (value_limit area) unit) (bodies_at d area l)) (take_more table k nothing lt)
    ∙ ap (sum_by (put_cost (value_limit area) unit)) (map-append (λ (kept : Kept). body_at d area kept.at) (take k table) (get_or table k nothing ∷ []))
    ∙ sum_by-append (put_cost (value_limit area) unit) (bodies_at d area (take k table)) (body_at d area (get_or table k nothing).at ∷ [])
    ∙ ap (λ (n : ℕ). sum_by (put_cost (value_limit area) unit) (bodies_at d area (take k table)) + n) (sum_by-cons (put_cost (value_limit area) unit) (body_at d area (get_or table k nothing).at) [] ∙ omega arith)

pub body-requires-clause-record : goal.body-requires-clause-record
body-requires-clause-record g c = (c.requires.kept c.loop-kept.kept-index nothing c.loop-kept-test.true).listed

pub loop-kept-preserved : goal.loop-kept-preserved
loop-kept-preserved g c =
    let d : Device = g.F.Flash.device c.args.flash.now in
    let area : Area = c.args.ring.now.area in
    let unit : c.geometry-unit.result.unit ≡ unit_of d c.args.ring.now.area = ap (λ (x : Geometry). x.unit) c.geometry-unit.ensures ∙ ap (λ (x : Area). unit_of d x) c.area.ensures in
    let price : c.from-cost.result ≡ put_cost (value_limit c.args.ring.now.area) (unit_of (g.F.Flash.device c.args.flash.now) c.args.ring.now.area) (body_at (g.F.Flash.device c.args.flash.now) c.args.ring.now.area (get_or c.args.table.now c.loop-kept.kept-index nothing).at) =
    c.from-cost.ensures ∙ c.put_cost.ensures.cost ∙ ap (λ (u : ℕ). put_cost (value_limit c.args.ring.now.area) u c.body.result.now) unit ∙ ap (put_cost (value_limit c.args.ring.now.area) (unit_of d area)) c.body.ensures.bytes in
    let sum = more d area c.args.table.now c.loop-kept.kept-index (unit_of d area) c.loop-kept-test.true in
    record {
      says = omega (arith, c.loop-kept.invariant.says, price, sum);
      small = omega (arith, c.loop-kept.invariant.small, c.from-cost.ensures, c.put_cost.ensures.small);
    }
