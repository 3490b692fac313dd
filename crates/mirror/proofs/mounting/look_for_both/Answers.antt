use Rattle.std.proofs.Common.{◌≡◌, ◌<◌, ℕ, true, length, sym, ap, subst, ◌∙◌}
use Rattle.flash_sim.specs.Device.{Device}
use Rattle.flash_map.specs.On.{on}
use Rattle.migrator.specs.Areas.{is_store_at}
use Rattle.migrator.proofs.AreaLemmas.{store-within}
use Rattle.migrator.proofs.Migration.{store-of}
use Rattle.mirror.proofs.MapSteps.{both-fit, store-max}
use Rattle.mirror.proofs.mounting.look_for_both.Goals as goal

pub look_for_fit-requires-clause-lawful : goal.look_for_fit-requires-clause-lawful
look_for_fit-requires-clause-lawful g c = c.requires.map.lawful.each c.min-low.result c.area_at.result c.area_at.ensures

pub area_at-requires-2 : goal.area_at-requires-2
area_at-requires-2 g c =
    store-within c.args.map.now c.max-high.result (ap (is_store_at c.args.map.now) c.max-high.ensures ∙ store-max c.args.map.now c.args.trusted.now.place c.args.other c.requires.store c.requires.other)

pub look_for_fit-requires-2-clause-lawful : goal.look_for_fit-requires-2-clause-lawful
look_for_fit-requires-2-clause-lawful g c = c.requires.map.lawful.each c.max-high.result c.area_at-2.result c.area_at-2.ensures

pub look_for_fit-requires-2-clause-role : goal.look_for_fit-requires-2-clause-role
look_for_fit-requires-2-clause-role g c =
    c.requires.map.roles c.max-high.result c.area_at-2.result c.area_at-2.ensures
    (store-of c.args.map.now c.max-high.result c.area_at-2.result c.area_at-2.ensures (ap (is_store_at c.args.map.now) c.max-high.ensures ∙ store-max c.args.map.now c.args.trusted.now.place c.args.other c.requires.store c.requires.other))

pub returns : goal.returns
returns g c =
    let d : Device = g.F.Flash.device c.args.flash.now in
    both-fit g.K.Backend.room g.K.Priced.prices c.args.map.now d (on g.K.Backend.contents d c.args.trusted.now.area) c.args.trusted.now.place c.args.other c.min-low.result c.max-high.result c.area_at.result c.area_at-2.result c.look_for_fit-2.result
    c.min-low.ensures c.max-high.ensures c.area_at.ensures c.area_at-2.ensures c.in_ok-look_for_fit.ensures c.look_for_fit-2.ensures
