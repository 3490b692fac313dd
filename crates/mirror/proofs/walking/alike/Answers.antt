use Rattle.std.proofs.Common.{◌≡◌, ◌+◌, ◌<◌, ◌≤◌, ◌^◌, ℕ, Bool, true, false, List, Option, Some, None, cond, eqb, refl, sym, ap, subst, ◌∙◌, arith}
use Rattle.std.specs.Prelude.{count_by}
use Rattle.std.specs.FinMap.{keys}
use Rattle.flash_sim.specs.Device.{Device}
use Rattle.flash_map.specs.Area.{sectors_of, geometry_of}
use Rattle.flash_map.specs.On.{on}
use Rattle.backend_api.specs.Map.{Map}
use Rattle.mirror.specs.Room.{Prices, prices_on}
use Rattle.mirror.proofs.Walks.{IsCounted, smaller, count-end, count-fits, count-start, count-step}
use Rattle.mirror.proofs.walking.alike.Goals as goal

abbrev test : Prices → ℕ → List ℕ → Bool
test p class other = eqb (p.class other) class

pub loop-at-init : goal.loop-at-init
loop-at-init g c =
    let d : Device = g.F.Flash.device c.args.flash.now in
    count-start (test (prices_on g.K.Priced.prices d c.args.area.now) c.class-class.result) (on g.K.Backend.contents d (g.K.Backend.mounted_on c.args.store.now)) c.next_name-at.result c.next_name-at.ensures

at-most-one : (t : Bool) → cond t 1 0 ≤ 1
at-most-one true = omega arith
at-most-one false = omega arith

pub overflow_add-count : goal.overflow_add-count
overflow_add-count g c =
    let d : Device = g.F.Flash.device c.args.flash.now in
    let area = g.K.Backend.mounted_on c.args.store.now in
    let lawful = g.met.K.Backend.reads_settings d area (g.met.F.Flash.is_lawful c.args.flash.now) c.requires.lawful
    (g.met.K.Backend.stands_serves c.args.store.now (geometry_of d area) (sectors_of d area) c.requires.stands) (g.met.K.Backend.stands_reads c.args.store.now (geometry_of d area) (sectors_of d area) c.requires.stands) in
    let t = test (prices_on g.K.Priced.prices d c.args.area.now) c.class-class.result in
    let fits : c.loop-at.count + 1 < 2 ^ 33 = count-fits t (on g.K.Backend.contents d area) c.in-Some.other c.loop-at.count
    (subst (λ (o : Option (List ℕ)). IsCounted t (on g.K.Backend.contents d area) o c.loop-at.count) c.in-Some.is c.loop-at.invariant) lawful.few in
    let one = at-most-one (eqb c.class.result c.class-class.result) in
    let is = c.one_if-count.ensures in
    omega arith

pub loop-at-smaller : goal.loop-at-smaller
loop-at-smaller g c =
    let d : Device = g.F.Flash.device c.args.flash.now in
    let area = g.K.Backend.mounted_on c.args.store.now in
    let t = test (prices_on g.K.Priced.prices d c.args.area.now) c.class-class.result in
    let so_far : IsCounted t (on g.K.Backend.contents d area) (Some c.in-Some.other) c.loop-at.count =
    subst (λ (o : Option (List ℕ)). IsCounted t (on g.K.Backend.contents d area) o c.loop-at.count) c.in-Some.is c.loop-at.invariant in
    smaller (on g.K.Backend.contents d area) c.loop-at.at c.in-Some.other c.next_name-at-in-Some.result so_far.i c.in-Some.is so_far.here c.next_name-at-in-Some.ensures

pub loop-at-preserved : goal.loop-at-preserved
loop-at-preserved g c =
    let d : Device = g.F.Flash.device c.args.flash.now in
    let area = g.K.Backend.mounted_on c.args.store.now in
    let t = test (prices_on g.K.Priced.prices d c.args.area.now) c.class-class.result in
    count-step t (on g.K.Backend.contents d area) c.in-Some.other c.next_name-at-in-Some.result c.loop-at.count c.one_if-count.result (c.loop-at.count + c.one_if-count.result)
    (subst (λ (o : Option (List ℕ)). IsCounted t (on g.K.Backend.contents d area) o c.loop-at.count) c.in-Some.is c.loop-at.invariant)
    (c.one_if-count.ensures ∙ ap (λ (n : ℕ). cond (eqb n c.class-class.result) 1 0) c.class.ensures) refl c.next_name-at-in-Some.ensures

pub returns : goal.returns
returns g c =
    let d : Device = g.F.Flash.device c.args.flash.now in
    let area = g.K.Backend.mounted_on c.args.store.now in
    let t = test (prices_on g.K.Priced.prices d c.args.area.now) c.class-class.result in
    count-end t (on g.K.Backend.contents d area) c.loop-at.count
    (subst (λ (o : Option (List ℕ)). IsCounted t (on g.K.Backend.contents d area) o c.loop-at.count) c.in_default.is c.loop-at.invariant)
    ∙ ap (λ (class : ℕ). count_by (test (prices_on g.K.Priced.prices d c.args.area.now) class) (keys (on g.K.Backend.contents d area))) c.class-class.ensures
