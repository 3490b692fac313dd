use Rattle.std.proofs.Common.{◌≡◌, ℕ, Bool, true, cond, List, sym, ap, ◌∙◌}
use Rattle.flash_sim.specs.Device.{Device}
use Rattle.flash_map.specs.Area.{geometry_of, sectors_of, sector_at}
use Rattle.item_laws.specs.Area.{next, is_closed_at}
use Rattle.item_laws.proofs.AreaReads.{next_there}
use Rattle.item_store.specs.SectorFormat.{SectorFormat}
use Rattle.item_store.proofs.lookup.ignored_sector.Goals as goal

pub returns-then-not-is_closed-clause-ignores : goal.returns-then-not-is_closed-clause-ignores
returns-then-not-is_closed-clause-ignores g c =
    let d : Device = g.F.Flash.device c.args.flash.now in
    let k : SectorFormat = g.T.SlotSectors.format_of (geometry_of d c.args.on.now.area.now) in
    let sectors : List (List ℕ) = sectors_of d c.args.on.now.area.now in
    let after : c.next-after.result ≡ next sectors c.args.on.now.current = c.next-after.ensures.value ∙ next_there d c.args.on.now.area.now c.args.on.now.current in
    ap (is_closed_at k.reading sectors) (sym after) ∙ sym c.is_closed.ensures.value ∙ c.if-not-is_closed.true

pub returns-then-has_gc_done-clause-ignores : goal.returns-then-has_gc_done-clause-ignores
returns-then-has_gc_done-clause-ignores g c =
    let d : Device = g.F.Flash.device c.args.flash.now in
    let k : SectorFormat = g.T.SlotSectors.format_of (geometry_of d c.args.on.now.area.now) in
    let sectors : List (List ℕ) = sectors_of d c.args.on.now.area.now in
    let after : c.next-after.result ≡ next sectors c.args.on.now.current = c.next-after.ensures.value ∙ next_there d c.args.on.now.area.now c.args.on.now.current in
    let shut : is_closed_at k.reading sectors (next sectors c.args.on.now.current) ≡ true = ap (is_closed_at k.reading sectors) (sym after) ∙ sym c.is_closed.ensures.value ∙ c.if-not-is_closed.false in
    let done = c.has_gc_done.ensures (geometry_of d c.args.on.now.area.now) (sector_at sectors c.args.on.now.current) c.requires.on.kept in
    (shut, after ∙ sym (ap (λ (t : Bool). cond t (next sectors c.args.on.now.current) c.args.on.now.current) (sym done ∙ c.if-has_gc_done.true)))

pub returns-else-has_gc_done-clause-ignores : goal.returns-else-has_gc_done-clause-ignores
returns-else-has_gc_done-clause-ignores g c =
    let d : Device = g.F.Flash.device c.args.flash.now in
    let k : SectorFormat = g.T.SlotSectors.format_of (geometry_of d c.args.on.now.area.now) in
    let sectors : List (List ℕ) = sectors_of d c.args.on.now.area.now in
    let after : c.next-after.result ≡ next sectors c.args.on.now.current = c.next-after.ensures.value ∙ next_there d c.args.on.now.area.now c.args.on.now.current in
    let shut : is_closed_at k.reading sectors (next sectors c.args.on.now.current) ≡ true = ap (is_closed_at k.reading sectors) (sym after) ∙ sym c.is_closed.ensures.value ∙ c.if-not-is_closed.false in
    let done = c.has_gc_done.ensures (geometry_of d c.args.on.now.area.now) (sector_at sectors c.args.on.now.current) c.requires.on.kept in
    (shut, sym (ap (λ (t : Bool). cond t (next sectors c.args.on.now.current) c.args.on.now.current) (sym done ∙ c.if-has_gc_done.false)))
