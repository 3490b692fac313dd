-- a version is reported, or memory was wanting for its bytes; or it is a delete, or kept no more
use Rattle.std.proofs.Common.{◌≡◌, ◌≤◌, [], length, Some, subst}
use Rattle.std.specs.List.{slice_get}
use Rattle.flash_map.specs.declared.area.Area.{Area}
use Rattle.item_store.specs.Listed.{list_on}
use Rattle.item_store.specs.Versions.{versions}
use Rattle.item_session.proofs.LineLemmas.{deleted_reported, gone_reported, version_at}
use Rattle.item_session.proofs.MemoryLemmas.{version_wants}
use Rattle.item_session.proofs.reporting.report_older.Goals as goal

pub returns-in-Value-clause-done : goal.returns-in-Value-clause-done
returns-in-Value-clause-done g c =
    let d = g.B.Flash.device c.args.bench.now in
    let is = c.in-Value.ensures in
    version_at g.T.SlotSectors.format_of c.args.area.now c.args.store.now.area d c.args.id c.args.n c.in-Value.bytes.now c.value_of.result c.requires.on c.requires.area is.0 is.1 c.value_of.ensures

pub returns-in-Value-clause-wants : goal.returns-in-Value-clause-wants
returns-in-Value-clause-wants g c =
    let d = g.B.Flash.device c.args.bench.now in
    let is = c.in-Value.ensures in
    version_wants g.T.SlotSectors.format_of c.args.area.now c.args.store.now.area d c.requires.on c.requires.area c.args.id c.args.n c.in-Value.bytes.now c.value_of.result is.0 is.1

pub returns-in-Deleted-clause-done : goal.returns-in-Deleted-clause-done
returns-in-Deleted-clause-done g c =
    let d = g.B.Flash.device c.args.bench.now in
    let format_of = g.T.SlotSectors.format_of in
    deleted_reported format_of c.args.area.now d c.args.id c.args.n c.requires.on
    (subst (λ (a : Area). slice_get (versions (list_on format_of d a) c.args.id) c.args.n ≡ Some []) c.requires.area c.in-Deleted.ensures)

pub returns-in-Gone-clause-done : goal.returns-in-Gone-clause-done
returns-in-Gone-clause-done g c =
    let d = g.B.Flash.device c.args.bench.now in
    let format_of = g.T.SlotSectors.format_of in
    gone_reported format_of c.args.area.now d c.args.id c.args.n c.requires.on
    (subst (λ (a : Area). length (versions (list_on format_of d a) c.args.id) ≤ c.args.n) c.requires.area c.in-Gone.ensures)
