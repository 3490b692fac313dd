use Rattle.migrator.proofs.ErasesLeft.{ready-few}
use Rattle.migrator.proofs.Migration.{rests-still, rests-through}
use Rattle.std.specs.FinMap as finite
use Rattle.std.proofs.Common.{arith, ◌≡◌, ◌<◌, ◌≤◌, ℕ, List, length, true, inl, inr, refl, sym, subst, ◌∙◌}
use Rattle.std.proofs.lemmas.Option.{none-some, slice_get_cases}
use Rattle.flash_map.proofs.Touches.{untouched}
use Rattle.migrator.proofs.AreaLemmas.{store-within}
use Rattle.std.proofs.lemmas.Bool.{false≢true}
use Rattle.flash_sim.specs.Device.{Device}
use Rattle.flash_map.specs.Area.{sectors_of, geometry_of}
use Rattle.flash_map.specs.Touches.{Touches}
use Rattle.flash_map.specs.declared.area.Area.{Area}
use Rattle.flash_map.specs.On.{on}
use Rattle.migrator.specs.Areas.{is_store_at}
use Rattle.migrator.specs.Migrating.{migrate_lost, migrate_units}
use Rattle.migrator.proofs.Moving.{open-sound, still}
use Rattle.migrator.proofs.Migration.{migrate-ends, migrate-most, moved-chosen, selector-apart, active-on, active-store, worked-is, reads-still, reads-through, store-of, moved-served, refused-served}
use Rattle.migrator.proofs.Copies.{stands-still}
use Rattle.migrator.proofs.Spent.{most_none}
use Rattle.migrator.proofs.migrating.migrate.Goals as goal

pub move_to-requires-clause-moves : goal.move_to-requires-clause-moves
move_to-requires-clause-moves g c =
    let store = active-store c.args.map.now (g.F.Flash.device c.args.flash.now) c.args.selector.now.ring.area c.in-Some.index c.in-Some.ensures.store in
    record {
      lawful_from = c.requires.lawful.each c.args.active (g.K.Backend.mounted_on c.args.from.now) c.requires.there;
      stands_from = c.requires.up;
      lawful = c.requires.lawful.each c.in-Some.index c.area_at-area.result c.area_at-area.ensures;
      served = c.requires.served c.in-Some.index c.area_at-area.result c.area_at-area.ensures (store-of c.args.map.now c.in-Some.index c.area_at-area.result c.area_at-area.ensures c.in-Some.ensures.store);
      version = c.requires.lawful.versions c.in-Some.index c.args.active c.area_at-area.result (g.K.Backend.mounted_on c.args.from.now) c.area_at-area.ensures c.requires.there;
      mounted = c.requires.open_ring;
      apart_source = c.requires.lawful.apart c.in-Some.index c.args.active c.area_at-area.result (g.K.Backend.mounted_on c.args.from.now) c.area_at-area.ensures c.requires.there c.in-Some.ensures.other;
      apart_selector = (selector-apart (g.F.Flash.device c.args.flash.now).banks c.args.map.now c.args.selector.now.ring.area c.area_at-area.result c.in-Some.index c.requires.lawful c.requires.selected c.area_at-area.ensures c.in-Some.ensures.store).1;
      selector_source =
          (selector-apart (g.F.Flash.device c.args.flash.now).banks c.args.map.now c.args.selector.now.ring.area (g.K.Backend.mounted_on c.args.from.now) c.args.active c.requires.lawful c.requires.selected c.requires.there
          (subst (λ (i : ℕ). is_store_at c.args.map.now i ≡ true)
          (sym (c.requires.is_active ∙ active-on c.args.map.now (g.F.Flash.device c.args.flash.now) c.args.selector.now.ring.area c.requires.selected)) store)).0;
      selector_target = (selector-apart (g.F.Flash.device c.args.flash.now).banks c.args.map.now c.args.selector.now.ring.area c.area_at-area.result c.in-Some.index c.requires.lawful c.requires.selected c.area_at-area.ensures c.in-Some.ensures.store).0;
    }

pub returns-in-Some-clause-touches : goal.returns-in-Some-clause-touches
returns-in-Some-clause-touches g c =
    subst (λ (areas : List Area). Touches areas (g.F.Flash.device c.args.flash.now) (g.F.Flash.device c.move_to.new.flash) (migrate_lost c.move_to.result))
    (sym (worked-is c.args.map.now c.args.selector.now.ring.area c.area_at-area.result c.args.active c.in-Some.index (sym c.target.ensures.target ∙ c.in-Some.is) c.area_at-area.ensures)) c.move_to.ensures.touches

pub returns-in-Some-clause-map : goal.returns-in-Some-clause-map
returns-in-Some-clause-map g c =
    let a : Device = g.F.Flash.device c.args.flash.now in
    let e : Device = g.F.Flash.device c.move_to.new.flash in
    let source = g.K.Backend.mounted_on c.args.from.now in
    let undamaged = g.met.K.Backend.stands_reads c.args.from.now (geometry_of a source) (sectors_of a source) c.requires.up in
    let banks = c.move_to.ensures.touches.banks in
    reads-through g.K.Backend.mounted_on g.K.Backend.damage g.K.Backend.contents g.K.Backend.room c.args.map.now c.args.selector.now.ring.area (g.K.Backend.mounted_on c.args.from.now) c.area_at-area.result c.args.active c.in-Some.index
    (on g.K.Backend.contents a (g.K.Backend.mounted_on c.args.from.now)) a e c.move_to.result c.requires.selected c.requires.there c.requires.is_active c.area_at-area.ensures c.move_to.ensures.selector.sound
    (still g.K.Backend.damage a e (g.K.Backend.mounted_on c.args.from.now) banks c.move_to.ensures.source ∙ undamaged)
    (still g.K.Backend.contents a e (g.K.Backend.mounted_on c.args.from.now) banks c.move_to.ensures.source) c.move_to.ensures.ends

pub returns-in-None-clause-map : goal.returns-in-None-clause-map
returns-in-None-clause-map g c =
    let a : Device = g.F.Flash.device c.args.flash.now in
    let source = g.K.Backend.mounted_on c.args.from.now in
    reads-still g.K.Backend.mounted_on g.K.Backend.damage g.K.Backend.contents g.K.Backend.room c.args.map.now a c.args.selector.now.ring.area (g.K.Backend.mounted_on c.args.from.now) c.args.active c.requires.selected c.requires.there c.requires.is_active
    (open-sound a c.args.selector.now.ring (g.met.F.Flash.is_lawful c.args.flash.now) c.requires.open_ring) (g.met.K.Backend.stands_reads c.args.from.now (geometry_of a source) (sectors_of a source) c.requires.up)

pub returns-in-Some-clause-goes_on : goal.returns-in-Some-clause-goes_on
returns-in-Some-clause-goes_on g c =
    let a : Device = g.F.Flash.device c.args.flash.now in
    moved-served g.K.Backend.serves g.K.Backend.mounted_on g.K.Backend.stands g.K.Backend.damage g.K.Backend.contents g.K.Backend.room c.args.map.now c.area_at-area.result c.args.active c.in-Some.index
    (on g.K.Backend.contents a (g.K.Backend.mounted_on c.args.from.now)) a (g.F.Flash.device c.move_to.new.flash) c.args.selector.now.ring c.move_to.new.selector.ring c.args.from.now c.move_to.result c.requires
    c.move_to.ensures.touches.banks c.move_to.ensures.selector.area c.area_at-area.ensures c.move_to.ensures.selector.open_ring c.move_to.ensures.stands c.move_to.ensures.ends

pub returns-in-Some-clause-stays : goal.returns-in-Some-clause-stays
returns-in-Some-clause-stays g c refused =
    let a : Device = g.F.Flash.device c.args.flash.now in
    let e : Device = g.F.Flash.device c.move_to.new.flash in
    refused-served g.K.Backend.serves g.K.Backend.mounted_on g.K.Backend.stands g.K.Backend.damage g.K.Backend.contents g.K.Backend.room c.args.map.now c.area_at-area.result c.args.active c.in-Some.index
    (on g.K.Backend.contents a (g.K.Backend.mounted_on c.args.from.now)) a e c.args.selector.now.ring c.move_to.new.selector.ring c.args.from.now c.move_to.result c.requires
    c.move_to.ensures.touches.banks c.move_to.ensures.selector.area c.move_to.ensures.selector.open_ring
    (stands-still g.K.Backend.mounted_on g.K.Backend.stands g.K.Backend.contents g.K.Backend.room a e c.args.from.now c.move_to.ensures.touches.banks c.move_to.ensures.source c.requires.up) c.move_to.ensures.ends refused

pub returns-in-Some-clause-lost : goal.returns-in-Some-clause-lost
returns-in-Some-clause-lost g c lost = c.move_to.ensures.selector.lost lost

pub returns-in-None-clause-lost : goal.returns-in-None-clause-lost
returns-in-None-clause-lost g c lost = absurd (false≢true lost)

pub returns-in-Some-clause-source : goal.returns-in-Some-clause-source
returns-in-Some-clause-source g c =
    let a : Device = g.F.Flash.device c.args.flash.now in
    let e : Device = g.F.Flash.device c.move_to.new.flash in
    record {
      sectors = c.move_to.ensures.source;
      up = stands-still g.K.Backend.mounted_on g.K.Backend.stands g.K.Backend.contents g.K.Backend.room a e c.args.from.now c.move_to.ensures.touches.banks c.move_to.ensures.source c.requires.up;
    }

pub returns-in-Some-clause-area : goal.returns-in-Some-clause-area
returns-in-Some-clause-area g c = c.move_to.ensures.selector.area

pub returns-in-None-clause-source : goal.returns-in-None-clause-source
returns-in-None-clause-source g c = record { sectors = refl; up = c.requires.up }

pub returns-in-None-clause-area : goal.returns-in-None-clause-area
returns-in-None-clause-area g c = refl

pub returns-in-None-clause-ends : goal.returns-in-None-clause-ends
returns-in-None-clause-ends g c = (sym c.target.ensures.target ∙ c.in-None.is, refl)

pub returns-in-None-clause-goes_on : goal.returns-in-None-clause-goes_on
returns-in-None-clause-goes_on g c = tt

pub returns-in-None-clause-stays : goal.returns-in-None-clause-stays
returns-in-None-clause-stays g c refused = c.requires

pub returns-in-Some-clause-at_most : goal.returns-in-Some-clause-at_most
returns-in-Some-clause-at_most g c =
    let a : Device = g.F.Flash.device c.args.flash.now in
    migrate-most a (g.F.Flash.device c.move_to.new.flash) c.args.map.now c.args.selector.now.ring.area c.area_at-area.result c.args.active c.in-Some.index (finite.len (on g.K.Backend.contents a (g.K.Backend.mounted_on c.args.from.now)))
    (sym c.target.ensures.target ∙ c.in-Some.is) c.area_at-area.ensures c.move_to.ensures.at_most

pub returns-in-None-clause-at_most : goal.returns-in-None-clause-at_most
returns-in-None-clause-at_most g c =
    let a : Device = g.F.Flash.device c.args.flash.now in
    most_none a a (migrate_units a c.args.map.now c.args.selector.now.ring.area c.args.active (finite.len (on g.K.Backend.contents a (g.K.Backend.mounted_on c.args.from.now)))) refl

pub returns-in-Some-clause-once : goal.returns-in-Some-clause-once
returns-in-Some-clause-once g c =
    let a : Device = g.F.Flash.device c.args.flash.now in
    let settings = on g.K.Backend.contents a (g.K.Backend.mounted_on c.args.from.now) in (
      c.move_to.ensures.kept,
      moved-chosen g.K.Backend.mounted_on g.K.Backend.damage g.K.Backend.contents g.K.Backend.room c.args.map.now c.args.selector.now.ring c.area_at-area.result c.in-Some.index (finite.len settings) settings a (g.F.Flash.device c.move_to.new.flash) c.move_to.result
          c.move_to.ensures.ends c.move_to.ensures.chosen,
    )

pub returns-in-None-clause-once : goal.returns-in-None-clause-once
returns-in-None-clause-once g c = (λ refused. refl, tt)

pub returns-in-Some-clause-rests : goal.returns-in-Some-clause-rests
returns-in-Some-clause-rests g c =
    let a : Device = g.F.Flash.device c.args.flash.now in
    let e : Device = g.F.Flash.device c.move_to.new.flash in
    let source = g.K.Backend.mounted_on c.args.from.now in
    let standing = stands-still g.K.Backend.mounted_on g.K.Backend.stands g.K.Backend.contents g.K.Backend.room a e c.args.from.now c.move_to.ensures.touches.banks c.move_to.ensures.source c.requires.up in
    rests-through g.K.Backend.rests c.args.map.now c.args.selector.now.ring.area source c.args.active c.requires.selected c.requires.there c.area_at-area.result c.in-Some.index a e c.requires.is_active c.area_at-area.ensures
    (g.met.K.Backend.stands_rests c.args.from.now (geometry_of e source) (sectors_of e source) standing) c.move_to.ensures.left c.move_to.ensures.rests

pub returns-in-None-clause-rests : goal.returns-in-None-clause-rests
returns-in-None-clause-rests g c =
    let a : Device = g.F.Flash.device c.args.flash.now in
    let source = g.K.Backend.mounted_on c.args.from.now in
    rests-still g.K.Backend.rests c.args.map.now c.args.selector.now.ring.area source c.args.active c.requires.selected c.requires.there a c.requires.is_active
    (g.met.K.Backend.stands_rests c.args.from.now (geometry_of a source) (sectors_of a source) c.requires.up) (ready-few a c.args.selector.now.ring c.args.selector.now.ring.area refl c.requires.open_ring.stands c.requires.open_ring.ready)

pub target-requires : goal.target-requires
target-requires g c = elim (slice_get_cases c.args.map.now c.args.active).1 [
  | inl there ↦ there.1
  | inr past ↦ absurd (none-some (g.K.Backend.mounted_on c.args.from.now) (sym past.1 ∙ c.requires.there))
]

pub area_at-area-requires : goal.area_at-area-requires
area_at-area-requires g c = store-within c.args.map.now c.in-Some.index c.in-Some.ensures.store

pub overflow_cast-index : goal.overflow_cast-index
overflow_cast-index g c =
    let few : length c.args.map.now ≤ 8 = c.requires.lawful.few in
    let within : c.in-Some.index < length c.args.map.now = store-within c.args.map.now c.in-Some.index c.in-Some.ensures.store in
    omega (arith, few, within)

pub move_to-requires-clause-store : goal.move_to-requires-clause-store
move_to-requires-clause-store g c = c.in-Some.ensures.store

pub returns-in-Some-clause-ends : goal.returns-in-Some-clause-ends
returns-in-Some-clause-ends g c =
    let a : Device = g.F.Flash.device c.args.flash.now in
    migrate-ends g.K.Backend.mounted_on g.K.Backend.damage g.K.Backend.contents g.K.Backend.room c.args.map.now c.args.selector.now.ring.area c.area_at-area.result c.args.active c.in-Some.index
    (on g.K.Backend.contents a (g.K.Backend.mounted_on c.args.from.now)) a (g.F.Flash.device c.move_to.new.flash) c.move_to.result (sym c.target.ensures.target ∙ c.in-Some.is) c.area_at-area.ensures c.move_to.ensures.ends

pub returns-in-None-clause-touches : goal.returns-in-None-clause-touches
returns-in-None-clause-touches g c = untouched _ _
