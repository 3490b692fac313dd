use Rattle.std.proofs.Common.{◌≡◌, ℕ, List, true, false, refl, sym, ap, ◌∙◌}
use Rattle.flash_sim.specs.Device.{Device}
use Rattle.flash_map.specs.Area.{unit_of, sectors_of}
use Rattle.item_laws.specs.Area.{next, is_closed_at}
use Rattle.flash_map.specs.Area.{sector_at}
use Rattle.nvs_store.specs.Scans.{reading}
use Rattle.nvs_store.specs.Sector.{has_gc_done}
use Rattle.item_laws.proofs.AreaReads.{next_there}
use Rattle.nvs_store.proofs.MountLemmas.{redo_is}
use Rattle.nvs_store.proofs.mounting.redo.Goals as goal

pub returns-then-has_gc_done : goal.returns-then-has_gc_done
returns-then-has_gc_done g c =
    let d : Device = g.F.Flash.device c.args.flash.now in
    let unit : ℕ = unit_of d c.args.area.now in
    let sectors : List (List ℕ) = sectors_of d c.args.area.now in
    let shut : is_closed_at (reading unit) sectors (next sectors c.args.current) ≡ true = ap (is_closed_at (reading unit) sectors) (sym (c.next.ensures.value ∙ next_there d c.args.area.now c.args.current)) ∙ sym c.is_closed.ensures.value ∙ c.if-is_closed.true in
    sym (redo_is unit sectors c.args.current true true shut (sym c.has_gc_done.ensures ∙ c.if-has_gc_done.true))

pub returns-else-has_gc_done : goal.returns-else-has_gc_done
returns-else-has_gc_done g c =
    let d : Device = g.F.Flash.device c.args.flash.now in
    let unit : ℕ = unit_of d c.args.area.now in
    let sectors : List (List ℕ) = sectors_of d c.args.area.now in
    let shut : is_closed_at (reading unit) sectors (next sectors c.args.current) ≡ true = ap (is_closed_at (reading unit) sectors) (sym (c.next.ensures.value ∙ next_there d c.args.area.now c.args.current)) ∙ sym c.is_closed.ensures.value ∙ c.if-is_closed.true in
    sym (redo_is unit sectors c.args.current true false shut (sym c.has_gc_done.ensures ∙ c.if-has_gc_done.false))

pub returns-else-is_closed : goal.returns-else-is_closed
returns-else-is_closed g c =
    let d : Device = g.F.Flash.device c.args.flash.now in
    let unit : ℕ = unit_of d c.args.area.now in
    let sectors : List (List ℕ) = sectors_of d c.args.area.now in
    let free : is_closed_at (reading unit) sectors (next sectors c.args.current) ≡ false = ap (is_closed_at (reading unit) sectors) (sym (c.next.ensures.value ∙ next_there d c.args.area.now c.args.current)) ∙ sym c.is_closed.ensures.value ∙ c.if-is_closed.false in
    sym (redo_is unit sectors c.args.current false (has_gc_done unit (sector_at sectors c.args.current)) free refl)
