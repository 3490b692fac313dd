use Rattle.std.proofs.Common.{◌≡◌, ◌+◌, ◌*◌, ◌≤◌, ℕ, List, length, Some, sym, ap, subst, ◌∙◌, arith}
use Rattle.flash_map.specs.Area.{sectors_of, sector_at}
use Rattle.item_laws.proofs.AreaReads.{length-sectors}
use Rattle.zms_cycle.specs.Sector.{slot_of, entry_in}
use Rattle.zms_format.proofs.Sectors.{read_room, listed_here}
use Rattle.zms_store.proofs.Places.{read_same}
use Rattle.zms_store.proofs.reading.entry_at.Goals as goal

pub sector_view-requires-clause-has_sector : goal.sector_view-requires-clause-has_sector
sector_view-requires-clause-has_sector g c = omega (arith, length-sectors (g.F.Flash.device c.args.flash.now) c.args.area.now, c.requires.listed.within)

pub entry_in-requires : goal.entry_in-requires
entry_in-requires g c =
    let b : List ℕ = sector_at (sectors_of (g.F.Flash.device c.args.flash.now) c.args.area.now) c.args.placed.now.sector in
    let listed = c.requires.listed.listed in
    subst (λ (x : List ℕ). (c.args.placed.now.slot + 1) * 16 ≤ length x) (sym c.sector_view.ensures.bytes)
    (read_room (sector_at (sectors_of (g.F.Flash.device c.args.flash.now) c.args.area.now) c.args.placed.now.sector) c.args.placed.now.slot c.requires.listed.from (omega arith))

pub returns-clause-same : goal.returns-clause-same
returns-clause-same g c =
    let b : List ℕ = sector_at (sectors_of (g.F.Flash.device c.args.flash.now) c.args.area.now) c.args.placed.now.sector in
    let read : entry_in (slot_of (sector_at (sectors_of (g.F.Flash.device c.args.flash.now) c.args.area.now) c.args.placed.now.sector) c.args.placed.now.slot) ≡ Some c.in-Some.found =
    ap (λ (x : List ℕ). entry_in (slot_of x c.args.placed.now.slot)) (sym c.sector_view.ensures.bytes) ∙ sym c.entry_in.ensures ∙ c.in-Some.is in
    read_same (sector_at (sectors_of (g.F.Flash.device c.args.flash.now) c.args.area.now) c.args.placed.now.sector) c.args.placed.now c.in-Some.found read c.requires.listed.read

pub returns-clause-listed : goal.returns-clause-listed
returns-clause-listed g c =
    let b : List ℕ = sector_at (sectors_of (g.F.Flash.device c.args.flash.now) c.args.area.now) c.args.placed.now.sector in
    let read : entry_in (slot_of (sector_at (sectors_of (g.F.Flash.device c.args.flash.now) c.args.area.now) c.args.placed.now.sector) c.args.placed.now.slot) ≡ Some c.in-Some.found =
    ap (λ (x : List ℕ). entry_in (slot_of x c.args.placed.now.slot)) (sym c.sector_view.ensures.bytes) ∙ sym c.entry_in.ensures ∙ c.in-Some.is in
    let listed = c.requires.listed.listed in
    listed_here (sector_at (sectors_of (g.F.Flash.device c.args.flash.now) c.args.area.now) c.args.placed.now.sector) c.args.placed.now.sector c.args.placed.now.slot c.in-Some.found c.requires.listed.from (omega arith) (sym read)
