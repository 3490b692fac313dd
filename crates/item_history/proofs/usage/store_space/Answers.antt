use Rattle.std.proofs.Common.{◌≡◌, ℕ, ◌-◌, ◌*◌, List, sym, ap, subst, ◌∙◌, arith}
use Rattle.item_laws.specs.PairRounds.{copies_cost, live_cost}
use Rattle.item_laws.specs.Area.{open_sector}
use Rattle.item_laws.specs.Forms.{AtRest}
use Rattle.item_store.specs.Listed.{format_on, list_on}
use Rattle.item_store.specs.Standing.{IsStoreArea}
use Rattle.item_store.proofs.ReadFacts.{rest_on}
use Rattle.flash_sim.specs.Device.{Device}
use Rattle.flash_map.specs.declared.area.Area.{Area}
use Rattle.flash_map.specs.Area.{geometry_of, sector_size, sectors_of}
use Rattle.item_store.specs.SectorFormat.{SectorFormat, IsSectorFormat}
use Rattle.item_store.proofs.Areas.{unit_is}
use Rattle.item_history.specs.Usage.{stale_cost}
use Rattle.item_history.proofs.UsageSteps.{live-stale, space_is}
use Rattle.item_history.proofs.usage.store_space.Goals as goal

pub total_cost-total-requires-clause-area : goal.total_cost-total-requires-clause-area
total_cost-total-requires-clause-area g c =
    subst (λ (a : Area). IsStoreArea g.T.SlotSectors.role (g.F.Flash.device c.args.flash.now).banks a) (sym c.area.ensures) c.requires.area

pub total_cost-total-requires-clause-rested : goal.total_cost-total-requires-clause-rested
total_cost-total-requires-clause-rested g c =
    let d : Device = g.F.Flash.device c.args.flash.now in
    let area : Area = c.args.store.now.area in
    let lawful = g.met.F.Flash.is_lawful c.args.flash.now in
    let law : IsSectorFormat (g.T.SlotSectors.format_of (geometry_of d area)) = g.met.T.SlotSectors.lawful (geometry_of d area) (unit_is d area (g.met.F.Flash.is_lawful c.args.flash.now) c.requires.area.lawful) in
    let rest : AtRest (format_on g.T.SlotSectors.format_of d area).reading (sectors_of d area) (open_sector (format_on g.T.SlotSectors.format_of d area).reading (sectors_of d area)) =
    subst (AtRest (format_on g.T.SlotSectors.format_of d area).reading (sectors_of d area)) c.requires.current (rest_on g.T.SlotSectors.role g.T.SlotSectors.format_of g.T.SlotSectors.kept d c.args.store.now law lawful c.requires) in
    subst (λ (a : Area). AtRest (format_on g.T.SlotSectors.format_of d a).reading (sectors_of d a) (open_sector (format_on g.T.SlotSectors.format_of d a).reading (sectors_of d a))) (sym c.area.ensures) rest

pub room-room-requires : goal.room-room-requires
room-room-requires g c =
    subst (λ (a : Area). IsStoreArea g.T.SlotSectors.role (g.F.Flash.device c.args.flash.now).banks a) (sym c.area-2.ensures) c.requires.area

pub returns : goal.returns
returns g c =
    let d : Device = g.F.Flash.device c.args.flash.now in
    let area : Area = c.args.store.now.area in
    let k : SectorFormat = g.T.SlotSectors.format_of (geometry_of d area) in
    let list : List (ℕ × List ℕ) = list_on g.T.SlotSectors.format_of d area in
    let all : c.total_cost-total.result ≡ copies_cost k.cost list = c.total_cost-total.ensures ∙ ap (λ (a : Area). copies_cost (format_on g.T.SlotSectors.format_of d a).cost (list_on g.T.SlotSectors.format_of d a)) c.area.ensures in
    let parts = live-stale k.cost list in
    let live : c.live_cost-live.result ≡ live_cost k.cost list = c.live_cost-live.ensures in
    let rest = c.saturating_sub.ensures in
    let room : c.room-room.result ≡ (area.sectors - 1) * k.cap (sector_size d area) = c.room-room.ensures ∙ ap (λ (a : Area). (a.sectors - 1) * (format_on g.T.SlotSectors.format_of d a).cap (sector_size d a)) c.area-2.ensures in
    space_is c.live_cost-live.result c.saturating_sub.result c.saturating_sub-2.result (live_cost k.cost list) (stale_cost k.cost list) ((area.sectors - 1) * k.cap (sector_size d area) - live_cost k.cost list)
    live (omega arith)
    (c.saturating_sub-2.ensures ∙ ap (λ (n : ℕ). n - c.live_cost-live.result) room ∙ ap (λ (n : ℕ). (area.sectors - 1) * k.cap (sector_size d area) - n) live)
