use Rattle.std.proofs.Common.{◌≡◌, ℕ, true, false, sym, ap, ◌∙◌}
use Rattle.flash_sim.specs.Device.{Device}
use Rattle.flash_map.specs.Area.{unit_of, sectors_of}
use Rattle.item_laws.specs.Area.{next, is_closed_at}
use Rattle.item_laws.proofs.AreaReads.{next_there, counts_closed, counts_open}
use Rattle.nvs_store.specs.Scans.{reading}
use Rattle.nvs_store.proofs.places.counts.Goals as goal
use Rattle.nvs_store.proofs.places.counts.Goals.{then-has_gc_done, else-has_gc_done}

pub returns-after-has_gc_done : goal.returns-after-has_gc_done
returns-after-has_gc_done g c =
    let d : Device = g.F.Flash.device c.args.flash.now in
    let unit : ℕ = unit_of d c.args.area.now in
    let after : c.next-after.result ≡ next (sectors_of d c.args.area.now) c.args.current = c.next-after.ensures.value ∙ next_there d c.args.area.now c.args.current in
    let shut : is_closed_at (reading unit) (sectors_of d c.args.area.now) (next (sectors_of d c.args.area.now) c.args.current) ≡ true =
    ap (is_closed_at (reading unit) (sectors_of d c.args.area.now)) (sym after) ∙ sym c.is_closed.ensures.value ∙ c.if-is_closed.true in
    elim c.if-has_gc_done.branch [
      | then-has_gc_done w ↦ counts_closed (reading unit) (sectors_of d c.args.area.now) c.args.current c.args.place c.if-has_gc_done.ignored true shut (sym c.has_gc_done.ensures ∙ w.if-has_gc_done.true) (w.ignored-is ∙ after)
      | else-has_gc_done w ↦ counts_closed (reading unit) (sectors_of d c.args.area.now) c.args.current c.args.place c.if-has_gc_done.ignored false shut (sym c.has_gc_done.ensures ∙ w.if-has_gc_done.false) w.ignored-is
    ]

pub returns-else-is_closed : goal.returns-else-is_closed
returns-else-is_closed g c =
    let d : Device = g.F.Flash.device c.args.flash.now in
    let after : c.next-after.result ≡ next (sectors_of d c.args.area.now) c.args.current = c.next-after.ensures.value ∙ next_there d c.args.area.now c.args.current in
    counts_open (reading (unit_of d c.args.area.now)) (sectors_of d c.args.area.now) c.args.current c.args.place
    (ap (is_closed_at (reading (unit_of d c.args.area.now)) (sectors_of d c.args.area.now)) (sym after) ∙ sym c.is_closed.ensures.value ∙ c.if-is_closed.false)
