use Rattle.std.proofs.Common.{◌≡◌, Option, Some, sym, ap, subst, ◌∙◌}
use Rattle.std.specs.Prelude.{IfSome}
use Rattle.flash_sim.specs.Device.{Device}
use Rattle.flash_map.specs.declared.area.Area.{Area}
use Rattle.flash_map.specs.Area.{geometry_of, sectors_of, sector_at}
use Rattle.item_store.specs.declared.entry.Placed.{Placed}
use Rattle.item_store.specs.Older.{IsNextOlder, newest_before}
use Rattle.zms_format.specs.Area.{IsListed}
use Rattle.zms_store.specs.Standing.{entries_on, format_on}
use Rattle.zms_store.proofs.Places.{placed_there}
use Rattle.zms_store.proofs.store.Zms.walk.Goals as goal

pub returns-in-Some-clause-older : goal.returns-in-Some-clause-older
returns-in-Some-clause-older g c =
    let d : Device = g.F.Flash.device c.args.flash.now in
    subst (λ (o : Option Placed). IsNextOlder (entries_on d c.args.self.now.store.area) c.args.after o)
    (c.in-Some.is ∙ ap (λ (p : Placed). Some p) (sym c.entry_at.ensures.same)) c.walk.ensures.older

pub returns-in-Some-clause-placed : goal.returns-in-Some-clause-placed
returns-in-Some-clause-placed g c =
    let d : Device = g.F.Flash.device c.args.flash.now in
    let placed = rw c.in-Some.is at c.walk.ensures.placed in
    let listed = subst (λ (a : Area). IsListed (sector_at (sectors_of d a) c.in-Some.placed.sector) c.entry_at.result) c.area.ensures c.entry_at.ensures.listed in
    placed_there (geometry_of d c.args.self.now.store.area) (sectors_of d c.args.self.now.store.area) c.args.self.now.store.current c.in-Some.placed c.entry_at.result c.entry_at.ensures.same placed listed

pub returns-in-Some-clause-before : goal.returns-in-Some-clause-before
returns-in-Some-clause-before g c =
    let d : Device = g.F.Flash.device c.args.flash.now in
    let area : Area = c.args.self.now.store.area in
    subst (λ (o : Option Placed). IfSome c.args.after (λ place. o ≡ newest_before (format_on d area) (sectors_of d area) place))
    (c.in-Some.is ∙ ap (λ (p : Placed). Some p) (sym c.entry_at.ensures.same)) c.walk.ensures.before

pub returns-in-None-clause-before : goal.returns-in-None-clause-before
returns-in-None-clause-before g c =
    let d : Device = g.F.Flash.device c.args.flash.now in
    let area : Area = c.args.self.now.store.area in
    subst (λ (o : Option Placed). IfSome c.args.after (λ place. o ≡ newest_before (format_on d area) (sectors_of d area) place)) c.in-None.is c.walk.ensures.before
