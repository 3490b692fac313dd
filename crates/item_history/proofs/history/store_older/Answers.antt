use Rattle.std.proofs.Common.{◌≡◌, sym, subst, ◌∙◌}
use Rattle.flash_sim.specs.Device.{Device}
use Rattle.flash_map.specs.declared.area.Area.{Area}
use Rattle.flash_map.specs.Area.{geometry_of, sectors_of}
use Rattle.item_store.specs.SectorFormat.{IsSectorFormat}
use Rattle.item_store.proofs.Areas.{unit_is}
use Rattle.item_laws.specs.Area.{open_sector}
use Rattle.item_laws.specs.Forms.{AtRest}
use Rattle.item_store.specs.Listed.{format_on, list_on}
use Rattle.item_store.specs.Standing.{IsStoreArea}
use Rattle.item_store.specs.Versions.{versions}
use Rattle.item_store.proofs.ReadFacts.{rest_on}
use Rattle.item_history.specs.History.{IsVersion}
use Rattle.item_history.proofs.history.store_older.Goals as goal

pub version-requires-clause-area : goal.version-requires-clause-area
version-requires-clause-area g c =
    subst (λ (a : Area). IsStoreArea g.T.SlotSectors.role (g.F.Flash.device c.args.flash.now).banks a) (sym c.area.ensures) c.requires.area

pub version-requires-clause-current : goal.version-requires-clause-current
version-requires-clause-current g c =
    subst (λ (a : Area). c.open_sector.result ≡ open_sector (format_on g.T.SlotSectors.format_of (g.F.Flash.device c.args.flash.now) a).reading (sectors_of (g.F.Flash.device c.args.flash.now) a)) (sym c.area.ensures)
    (c.open_sector.ensures ∙ c.requires.current)

pub version-requires-clause-rested : goal.version-requires-clause-rested
version-requires-clause-rested g c =
    let d : Device = g.F.Flash.device c.args.flash.now in
    let area : Area = c.args.store.now.area in
    let lawful = g.met.F.Flash.is_lawful c.args.flash.now in
    let law : IsSectorFormat (g.T.SlotSectors.format_of (geometry_of d area)) = g.met.T.SlotSectors.lawful (geometry_of d area) (unit_is d area (g.met.F.Flash.is_lawful c.args.flash.now) c.requires.area.lawful) in
    let rest : AtRest (format_on g.T.SlotSectors.format_of d area).reading (sectors_of d area) c.open_sector.result =
    subst (AtRest (format_on g.T.SlotSectors.format_of d area).reading (sectors_of d area)) (sym c.open_sector.ensures) (rest_on g.T.SlotSectors.role g.T.SlotSectors.format_of g.T.SlotSectors.kept d c.args.store.now law lawful c.requires) in
    subst (λ (a : Area). AtRest (format_on g.T.SlotSectors.format_of d a).reading (sectors_of d a) c.open_sector.result) (sym c.area.ensures) rest

pub returns : goal.returns
returns g c =
    subst (λ (a : Area). IsVersion (versions (list_on g.T.SlotSectors.format_of (g.F.Flash.device c.args.flash.now) a) c.args.id) c.args.n c.version.result) c.area.ensures c.version.ensures
