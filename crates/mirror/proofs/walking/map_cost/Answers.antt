use Rattle.std.proofs.Common.{◌≡◌, ◌+◌, ◌<◌, ◌^◌, ℕ, List, Option, Some, None, refl, subst, arith}
use Rattle.flash_sim.specs.Device.{Device}
use Rattle.flash_map.specs.Area.{sectors_of, geometry_of}
use Rattle.flash_map.specs.On.{on}
use Rattle.mirror.specs.Room.{prices_on}
use Rattle.mirror.proofs.Walks.{IsSummed, smaller, sum-end, sum-fits, sum-small, sum-start, sum-step}
use Rattle.mirror.proofs.walking.map_cost.Goals as goal

pub loop-at-init : goal.loop-at-init
loop-at-init g c =
    let d : Device = g.F.Flash.device c.args.flash.now in
    sum-start (prices_on g.K.Priced.prices d c.args.area.now) (on g.K.Backend.contents d (g.K.Backend.mounted_on c.args.store.now)) c.next_name-at.result c.counted-cost.result c.next_name-at.ensures c.counted-cost.ensures.value c.counted-cost.ensures.small

pub overflow_add-cost : goal.overflow_add-cost
overflow_add-cost g c =
    let d : Device = g.F.Flash.device c.args.flash.now in
    let area = g.K.Backend.mounted_on c.args.store.now in
    let lawful = g.met.K.Backend.reads_settings d area (g.met.F.Flash.is_lawful c.args.flash.now) c.requires.lawful
    (g.met.K.Backend.stands_serves c.args.store.now (geometry_of d area) (sectors_of d area) c.requires.stands) (g.met.K.Backend.stands_reads c.args.store.now (geometry_of d area) (sectors_of d area) c.requires.stands) in
    let fits : c.loop-at.cost + c.pair_price-cost.result < 2 ^ 50 = sum-fits (prices_on g.K.Priced.prices d c.args.area.now) (on g.K.Backend.contents d area) c.in-Some.name c.loop-at.cost c.pair_price-cost.result
    (subst (λ (o : Option (List ℕ)). IsSummed (prices_on g.K.Priced.prices d c.args.area.now) (on g.K.Backend.contents d area) o c.loop-at.cost) c.in-Some.is c.loop-at.invariant) lawful.few c.pair_price-cost.ensures.small in
    omega arith

pub loop-at-smaller : goal.loop-at-smaller
loop-at-smaller g c =
    let d : Device = g.F.Flash.device c.args.flash.now in
    let area = g.K.Backend.mounted_on c.args.store.now in
    let so_far : IsSummed (prices_on g.K.Priced.prices d c.args.area.now) (on g.K.Backend.contents d area) (Some c.in-Some.name) c.loop-at.cost =
    subst (λ (o : Option (List ℕ)). IsSummed (prices_on g.K.Priced.prices d c.args.area.now) (on g.K.Backend.contents d area) o c.loop-at.cost) c.in-Some.is c.loop-at.invariant in
    smaller (on g.K.Backend.contents d area) c.loop-at.at c.in-Some.name c.next_name-at-in-Some.result so_far.i c.in-Some.is so_far.here c.next_name-at-in-Some.ensures

pub loop-at-preserved : goal.loop-at-preserved
loop-at-preserved g c =
    let d : Device = g.F.Flash.device c.args.flash.now in
    let area = g.K.Backend.mounted_on c.args.store.now in
    sum-step (prices_on g.K.Priced.prices d c.args.area.now) (on g.K.Backend.contents d area) c.in-Some.name c.next_name-at-in-Some.result c.loop-at.cost c.pair_price-cost.result (c.loop-at.cost + c.pair_price-cost.result)
    (subst (λ (o : Option (List ℕ)). IsSummed (prices_on g.K.Priced.prices d c.args.area.now) (on g.K.Backend.contents d area) o c.loop-at.cost) c.in-Some.is c.loop-at.invariant)
    c.pair_price-cost.ensures.price c.pair_price-cost.ensures.small refl c.next_name-at-in-Some.ensures

pub returns-clause-cost : goal.returns-clause-cost
returns-clause-cost g c =
    let d : Device = g.F.Flash.device c.args.flash.now in
    let area = g.K.Backend.mounted_on c.args.store.now in
    sum-end (prices_on g.K.Priced.prices d c.args.area.now) (on g.K.Backend.contents d area) c.loop-at.cost
    (subst (λ (o : Option (List ℕ)). IsSummed (prices_on g.K.Priced.prices d c.args.area.now) (on g.K.Backend.contents d area) o c.loop-at.cost) c.in_default.is c.loop-at.invariant)

pub returns-clause-small : goal.returns-clause-small
returns-clause-small g c =
    let d : Device = g.F.Flash.device c.args.flash.now in
    let area = g.K.Backend.mounted_on c.args.store.now in
    let lawful = g.met.K.Backend.reads_settings d area (g.met.F.Flash.is_lawful c.args.flash.now) c.requires.lawful
    (g.met.K.Backend.stands_serves c.args.store.now (geometry_of d area) (sectors_of d area) c.requires.stands) (g.met.K.Backend.stands_reads c.args.store.now (geometry_of d area) (sectors_of d area) c.requires.stands) in
    sum-small (prices_on g.K.Priced.prices d c.args.area.now) (on g.K.Backend.contents d area) c.loop-at.cost
    (subst (λ (o : Option (List ℕ)). IsSummed (prices_on g.K.Priced.prices d c.args.area.now) (on g.K.Backend.contents d area) o c.loop-at.cost) c.in_default.is c.loop-at.invariant) lawful.few
