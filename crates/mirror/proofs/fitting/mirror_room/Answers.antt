use Rattle.std.proofs.Common.{◌-◌, ◌*◌, ℕ, max, ap, ◌∙◌}
use Rattle.flash_sim.specs.Device.{Device}
use Rattle.flash_map.specs.Area.{geometry_of, value_limit}
use Rattle.migrator.specs.Migrating.{room_on}
use Rattle.setting_name.specs.Name.{name_limit}
use Rattle.mirror.specs.Room.{prices_on}
use Rattle.mirror.proofs.FitLemmas.{room-is}
use Rattle.mirror.proofs.fitting.mirror_room.Goals as goal

pub returns : goal.returns
returns g c =
    let d : Device = g.F.Flash.device c.args.flash.now in
    let area = c.args.area.now in
    let p = prices_on g.K.Priced.prices d area in
    ap (λ (n : ℕ). n * c.saturating_sub.result) c.from.ensures
    ∙ ap (λ (n : ℕ). (area.sectors - 1) * n)
    (c.saturating_sub.ensures ∙ ap (λ (n : ℕ). n - c.max-greatest.result) c.cap.ensures.value
    ∙ ap (λ (n : ℕ). p.cap - n)
    (c.max-greatest.ensures ∙ ap (λ (n : ℕ). max n c.max.result) c.counted.ensures.value
    ∙ ap (λ (n : ℕ). max p.counted n)
    (c.max.ensures ∙ ap (λ (n : ℕ). max n c.price-name.result) (c.price-value.ensures.value ∙ ap p.price c.value_limit.ensures)
    ∙ ap (λ (n : ℕ). max (p.price (value_limit area)) n) c.price-name.ensures.value)))
    ∙ room-is (room_on g.K.Backend.room d area) p (g.met.K.Priced.is_room area (geometry_of d area) c.requires.role) area.sectors (value_limit area)
