use Rattle.std.proofs.Common.{◌≡◌, ◌≤◌, ◌<◌, ◌+◌, Option, Some, sym, ap, subst, ◌∙◌, arith}
use Rattle.std.specs.Prelude.{IfSome}
use Rattle.std.specs.Option.{option_map}
use Rattle.flash_sim.specs.Device.{Device}
use Rattle.flash_map.specs.declared.area.Area.{Area}
use Rattle.flash_map.specs.declared.area.Role.TheVariants.{Nvs as nvs_role}
use Rattle.flash_map.specs.Area.{geometry_of, unit_of, sectors_of, sector_bytes}
use Rattle.item_laws.proofs.AreaReads.{length-sectors}
use Rattle.item_store.specs.declared.entry.Placed.{Placed}
use Rattle.item_store.specs.Older.{IsNextOlder, newest_before}
use Rattle.item_store.specs.SectorFormat.{placed_at}
use Rattle.item_store.specs.Standing.{IsStoreArea}
use Rattle.nvs_format.specs.Formats.{ReadsAs, format_of}
use Rattle.nvs_gc.specs.Standing.{entries_on, format_on}
use Rattle.nvs_gc.proofs.Places.{read_same, placed_there}
use Rattle.nvs_gc.proofs.nvs.Nvs.walk.Goals as goal

pub read_again-requires-clause-area : goal.read_again-requires-clause-area
read_again-requires-clause-area g c =
    let d : Device = g.F.Flash.device c.args.flash.now in
    subst (λ (a : Area). IsStoreArea nvs_role d.banks a) (sym c.area.ensures) c.requires.stands.area

pub read_again-requires-clause-inside : goal.read_again-requires-clause-inside
read_again-requires-clause-inside g c =
    let d : Device = g.F.Flash.device c.args.flash.now in
    let placed = rw c.in-Some.is at c.walk.ensures.placed in
    let within = placed.listed.within in
    let count = length-sectors d c.args.self.now.store.area in
    subst (λ (a : Area). c.in-Some.placed.sector < a.sectors) (sym c.area.ensures) (omega (arith, within, count))

pub read_again-requires-clause-listed : goal.read_again-requires-clause-listed
read_again-requires-clause-listed g c =
    let d : Device = g.F.Flash.device c.args.flash.now in
    let p : Placed = c.in-Some.placed in
    let placed = rw c.in-Some.is at c.walk.ensures.placed in
    subst (λ (a : Area). (1 ≤ p.slot) × (p.slot < 1 + (format_of (geometry_of d a)).count (sector_bytes d a p.sector))) (sym c.area.ensures)
    (placed.listed.from, placed.listed.listed)

pub read_again-requires-clause-there : goal.read_again-requires-clause-there
read_again-requires-clause-there g c =
    let d : Device = g.F.Flash.device c.args.flash.now in
    let p : Placed = c.in-Some.placed in
    let placed = rw c.in-Some.is at c.walk.ensures.placed in
    subst (λ (a : Area). option_map (placed_at p.sector) ((format_of (geometry_of d a)).in_slot (sector_bytes d a p.sector) p.slot) ≡ Some p) (sym c.area.ensures) placed.listed.read

pub returns-in-Some-clause-older : goal.returns-in-Some-clause-older
returns-in-Some-clause-older g c =
    let d : Device = g.F.Flash.device c.args.flash.now in
    let area : Area = c.args.self.now.store.area in
    let own = subst (λ (a : Area). ReadsAs (unit_of d a) (sectors_of d a) c.in-Some.placed c.read_again.result) c.area.ensures c.read_again.ensures.own in
    let same = read_same (unit_of d area) (sectors_of d area) c.in-Some.placed c.read_again.result own in
    subst (λ (o : Option Placed). IsNextOlder (entries_on d area) c.args.after o)
    (c.in-Some.is ∙ ap (λ (p : Placed). Some p) (sym same)) c.walk.ensures.older

pub returns-in-Some-clause-before : goal.returns-in-Some-clause-before
returns-in-Some-clause-before g c =
    let d : Device = g.F.Flash.device c.args.flash.now in
    let area : Area = c.args.self.now.store.area in
    let own = subst (λ (a : Area). ReadsAs (unit_of d a) (sectors_of d a) c.in-Some.placed c.read_again.result) c.area.ensures c.read_again.ensures.own in
    let same = read_same (unit_of d area) (sectors_of d area) c.in-Some.placed c.read_again.result own in
    subst (λ (o : Option Placed). IfSome c.args.after (λ place. o ≡ newest_before (format_on d area) (sectors_of d area) place))
    (c.in-Some.is ∙ ap (λ (p : Placed). Some p) (sym same)) c.walk.ensures.before

pub returns-in-Some-clause-placed : goal.returns-in-Some-clause-placed
returns-in-Some-clause-placed g c =
    let d : Device = g.F.Flash.device c.args.flash.now in
    let area : Area = c.args.self.now.store.area in
    let own = subst (λ (a : Area). ReadsAs (unit_of d a) (sectors_of d a) c.in-Some.placed c.read_again.result) c.area.ensures c.read_again.ensures.own in
    let placed = rw c.in-Some.is at c.walk.ensures.placed in
    placed_there (unit_of d area) (sectors_of d area) c.in-Some.placed c.read_again.result own c.args.self.now.store.current placed

pub returns-in-None-clause-before : goal.returns-in-None-clause-before
returns-in-None-clause-before g c =
    let d : Device = g.F.Flash.device c.args.flash.now in
    let area : Area = c.args.self.now.store.area in
    subst (λ (o : Option Placed). IfSome c.args.after (λ place. o ≡ newest_before (format_on d area) (sectors_of d area) place)) c.in-None.is c.walk.ensures.before
