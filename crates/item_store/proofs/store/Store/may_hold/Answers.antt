use Rattle.std.proofs.Common.{◌≡◌, ℕ, List, None, sym, ap, ◌∙◌}
use Rattle.std.specs.Option.{is_some}
use Rattle.flash_map.specs.declared.area.Area.{Area}
use Rattle.flash_map.specs.Area.{geometry_of, sectors_of}
use Rattle.item_laws.specs.Live.{all_placed}
use Rattle.item_laws.proofs.LastLemmas.{none_by}
use Rattle.item_store.specs.SectorFormat.{SectorFormat, IsSectorFormat, slots}
use Rattle.item_store.specs.Listed.{entries_on}
use Rattle.item_store.proofs.Areas.{unit_is}
use Rattle.item_store.proofs.CacheSteps.{noted-some, no-latest, latest-none}
use Rattle.item_store.proofs.ReadFacts.{some_sectors, value_by}
use Rattle.item_store.proofs.store.Store.may_hold.Goals as goal

pub returns-clause-none : goal.returns-clause-none
returns-clause-none g c =
    λ d bank stands not_there.
    let area : Area = c.args.self.now.area in
    let k : SectorFormat = g.T.SlotSectors.format_of (geometry_of d area) in
    let sectors : List (List ℕ) = sectors_of d area in
    let law : IsSectorFormat (g.T.SlotSectors.format_of (geometry_of d area)) = g.met.T.SlotSectors.lawful (geometry_of d area) (unit_is d area bank stands.area.lawful) in
    let some = some_sectors g.T.SlotSectors.role g.T.SlotSectors.format_of g.T.SlotSectors.kept d c.args.self.now law bank stands in
    let start : c.start_of.result ≡ None = none_by c.start_of.result (sym c.is_some.ensures ∙ not_there) in
    value_by g.T.SlotSectors.role g.T.SlotSectors.format_of g.T.SlotSectors.kept d c.args.self.now law bank stands None c.args.id
    (sym (latest-none c.args.id (all_placed (slots k) sectors) (no-latest k law sectors c.args.self.now.cache stands.cached some c.args.id (sym c.start_of.ensures ∙ start))))

pub returns-clause-exactly : goal.returns-clause-exactly
returns-clause-exactly g c =
    λ d stands.
    c.is_some.ensures ∙ ap is_some c.start_of.ensures
    ∙ noted-some c.args.self.now.cache (entries_on g.T.SlotSectors.format_of d c.args.self.now.area) stands.cached c.args.id
