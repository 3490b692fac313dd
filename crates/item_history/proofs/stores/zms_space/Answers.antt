use Rattle.std.proofs.Common.{◌≡◌, sym, subst}
use Rattle.flash_sim.specs.Device.{Device}
use Rattle.flash_map.specs.declared.area.Role.TheVariants.{Zms}
use Rattle.flash_map.specs.Area.{sector_size}
use Rattle.zms_store.specs.declared.sectors.ZmsOpen.{ZmsOpen}
use Rattle.zms_format.specs.Formats.{format_of}
use Rattle.zms_store.specs.Standing.{kept, format_on, list_on}
use Rattle.item_store.specs.declared.store.Store.{Store}
use Rattle.item_store.specs.Stands.{StandsOn}
use Rattle.item_history.specs.Usage.{space_of}
use Rattle.item_history.proofs.stores.zms_space.Goals as goal

pub store_space-requires : goal.store_space-requires
store_space-requires g c =
    subst (λ (s : Store ZmsOpen). StandsOn Zms format_of kept (g.F.Flash.device c.args.flash.now) s) (sym c.store.ensures) c.requires

pub returns : goal.returns
returns g c =
    let d : Device = g.F.Flash.device c.args.flash.now in
    subst (λ (s : Store ZmsOpen). c.store_space.result ≡ space_of (format_on d s.area) s.area.sectors (sector_size d s.area) (list_on d s.area)) c.store.ensures c.store_space.ensures
