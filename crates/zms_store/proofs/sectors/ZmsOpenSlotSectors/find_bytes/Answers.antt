use Rattle.std.proofs.Common.{◌≡◌, ℕ, ◌≤◌, true, List, length, Some, None, sym, ap, subst, arith}
use Rattle.flash_sim.specs.Device.{Device}
use Rattle.flash_map.specs.Area.{geometry_of, sectors_of, sector_at}
use Rattle.item_store.specs.declared.entry.Placed.{Placed}
use Rattle.item_store.specs.Holding.{FindsBytes}
use Rattle.zms_cycle.specs.Holding as own
use Rattle.zms_cycle.specs.Sector.{valid_slots, is_sound}
use Rattle.zms_format.specs.Formats.{format_of}
use Rattle.zms_format.proofs.Sectors.{few_slots}
use Rattle.zms_store.proofs.Holding.{finds_is}
use Rattle.zms_store.proofs.sectors.ZmsOpenSlotSectors.find_bytes.Goals as goal

pub find_bytes-requires-clause-listed : goal.find_bytes-requires-clause-listed
find_bytes-requires-clause-listed g c = subst (λ (b : List ℕ). c.args.start.now.skipped ≤ length (valid_slots b)) (sym c.sector_view-sector.ensures.bytes) c.requires.listed

pub find_bytes-requires-clause-known : goal.find_bytes-requires-clause-known
find_bytes-requires-clause-known g c = subst (λ (b : List ℕ). c.args.start.now.known ≤ length (valid_slots b)) (sym c.sector_view-sector.ensures.bytes) c.requires.known

pub find_bytes-requires-clause-sound : goal.find_bytes-requires-clause-sound
find_bytes-requires-clause-sound g c = subst (λ (b : List ℕ). is_sound b ≡ true) (sym c.sector_view-sector.ensures.bytes) c.requires.within

pub returns-in-Some-clause-found : goal.returns-in-Some-clause-found
returns-in-Some-clause-found g c =
    let d : Device = g.F.Flash.device c.args.flash.now in
    let b : List ℕ = sector_at (sectors_of d c.args.area.now) c.args.place in
    let found : own.FindsBytes b c.args.ids.now.least c.args.ids.now.most c.args.bytes.now c.args.start.now.skipped (Some c.in-Some.found) =
    subst (λ (x : List ℕ). own.FindsBytes x c.args.ids.now.least c.args.ids.now.most c.args.bytes.now c.args.start.now.skipped (Some c.in-Some.found)) c.sector_view-sector.ensures.bytes c.in-Some.ensures in
    subst (λ (p : Placed). FindsBytes (format_of (geometry_of d c.args.area.now)) b c.args.place c.args.ids.now c.args.bytes.now c.args.start.now.skipped (Some p)) (sym c.placed.ensures.placed)
    (finds_is (geometry_of d c.args.area.now) b c.args.place c.args.ids.now c.args.bytes.now c.args.start.now.skipped (Some c.in-Some.found) found)

pub returns-in-Some-clause-small : goal.returns-in-Some-clause-small
returns-in-Some-clause-small g c =
    let found : own.FindsBytes c.sector_view-sector.result.now c.args.ids.now.least c.args.ids.now.most c.args.bytes.now c.args.start.now.skipped (Some c.in-Some.found) = c.in-Some.ensures in
    let few = few_slots c.sector_view-sector.result.now in
    let below = found.listed in
    let slot : c.placed.result.slot ≡ c.in-Some.found.slot = ap (λ (p : Placed). p.slot) c.placed.ensures.placed in
    omega (arith, slot, below, few, c.sector_view-sector.ensures.len, c.requires.area.lawful.at_most)

pub returns-in-None-clause-found : goal.returns-in-None-clause-found
returns-in-None-clause-found g c =
    let d : Device = g.F.Flash.device c.args.flash.now in
    let b : List ℕ = sector_at (sectors_of d c.args.area.now) c.args.place in
    let found : own.FindsBytes b c.args.ids.now.least c.args.ids.now.most c.args.bytes.now c.args.start.now.skipped None =
    subst (λ (x : List ℕ). own.FindsBytes x c.args.ids.now.least c.args.ids.now.most c.args.bytes.now c.args.start.now.skipped None) c.sector_view-sector.ensures.bytes c.in-None.ensures in
    finds_is (geometry_of d c.args.area.now) b c.args.place c.args.ids.now c.args.bytes.now c.args.start.now.skipped None found
