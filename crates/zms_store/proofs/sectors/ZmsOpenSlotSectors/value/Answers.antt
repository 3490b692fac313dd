use Rattle.std.proofs.Common.{◌≡◌, ◌+◌, ◌<◌, ◌≤◌, ℕ, List, length, Some, sym, ap, subst, ◌∙◌, arith}
use Rattle.flash_sim.specs.Device.{Device}
use Rattle.flash_map.specs.Area.{sectors_of, sector_at}
use Rattle.item_laws.proofs.AreaReads.{length-sectors}
use Rattle.zms_cycle.specs.Entries.{offset_of}
use Rattle.zms_cycle.specs.Sector.{slot_of, valid_slots, entry_in}
use Rattle.zms_cycle.proofs.EntryReads.{long_inside}
use Rattle.zms_format.proofs.Sectors.{read_room}
use Rattle.zms_store.proofs.sectors.ZmsOpenSlotSectors.value.Goals as goal

pub sector_view-bytes-requires-clause-has_sector : goal.sector_view-bytes-requires-clause-has_sector
sector_view-bytes-requires-clause-has_sector g c =
    let d : Device = g.F.Flash.device c.args.flash.now in
    omega (arith, length-sectors d c.args.area.now, c.requires.listed.within)

pub value_in-requires-clause-ends : goal.value_in-requires-clause-ends
value_in-requires-clause-ends g c = λ long.
    let d : Device = g.F.Flash.device c.args.flash.now in
    let b : List ℕ = sector_at (sectors_of d c.args.area.now) c.args.placed.now.sector in
    let bytes : c.sector_view-bytes.result.now ≡ sector_at (sectors_of d c.args.area.now) c.args.placed.now.sector = c.sector_view-bytes.ensures.bytes in
    let from = c.requires.listed.from in
    let listed = c.requires.listed.listed in
    let read : entry_in (slot_of (sector_at (sectors_of d c.args.area.now) c.args.placed.now.sector) c.args.placed.now.slot) ≡ Some c.in-Some.found =
    ap (λ (x : List ℕ). entry_in (slot_of x c.args.placed.now.slot)) (sym bytes) ∙ sym c.listed_entry.ensures ∙ c.in-Some.is in
    let room = read_room (sector_at (sectors_of d c.args.area.now) c.args.placed.now.sector) c.args.placed.now.slot from (omega arith) in
    let ends : offset_of c.in-Some.found.entry + c.in-Some.found.entry.len ≤ length (sector_at (sectors_of d c.args.area.now) c.args.placed.now.sector) =
    long_inside (sector_at (sectors_of d c.args.area.now) c.args.placed.now.sector) c.args.placed.now.slot c.in-Some.found c.requires.within from (omega arith) room read long in
    subst (λ (x : List ℕ). offset_of c.in-Some.found.entry + c.in-Some.found.entry.len ≤ length x) (sym bytes) ends

pub listed_entry-requires-clause-from : goal.listed_entry-requires-clause-from
listed_entry-requires-clause-from g c = c.requires.listed.from

pub listed_entry-requires-clause-listed : goal.listed_entry-requires-clause-listed
listed_entry-requires-clause-listed g c =
    let listed = c.requires.listed.listed in
    subst (λ (x : List ℕ). c.args.placed.now.slot < length (valid_slots x) + 2) (sym c.sector_view-bytes.ensures.bytes) (omega (arith, listed))
