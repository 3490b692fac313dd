use Rattle.std.proofs.Common.{sym, subst}
use Rattle.flash_map.specs.declared.area.Role.TheVariants.{Zms}
use Rattle.zms_store.specs.declared.sectors.ZmsOpen.{ZmsOpen}
use Rattle.zms_format.specs.Formats.{format_of}
use Rattle.zms_store.specs.Standing.{kept, list_on}
use Rattle.item_store.specs.declared.store.Store.{Store}
use Rattle.item_store.specs.Stands.{StandsOn}
use Rattle.item_store.specs.Versions.{versions}
use Rattle.item_history.specs.History.{IsVersion}
use Rattle.item_history.proofs.stores.zms_older.Goals as goal

pub store_older-requires : goal.store_older-requires
store_older-requires g c =
    subst (λ (s : Store ZmsOpen). StandsOn Zms format_of kept (g.F.Flash.device c.args.flash.now) s) (sym c.store.ensures) c.requires

pub returns : goal.returns
returns g c =
    subst (λ (s : Store ZmsOpen). IsVersion (versions (list_on (g.F.Flash.device c.args.flash.now) s.area) c.args.id) c.args.n c.store_older.result) c.store.ensures c.store_older.ensures
