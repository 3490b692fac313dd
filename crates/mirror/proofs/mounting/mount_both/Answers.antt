use Rattle.std.proofs.Common.{◌≡◌, ℕ, Bool, false, List, [], ◌∷◌, Err, None, sym, ap, subst, ◌∙◌}
use Rattle.std.specs.FinMap as maps
use Rattle.std.specs.List.{slice_get}
use Rattle.flash_sim.specs.declared.flash.Bank.{Bank}
use Rattle.flash_map.specs.Area.{AreApart, geometry_of, sectors_of}
use Rattle.flash_map.specs.Lawful.{IsLawfulFor}
use Rattle.flash_map.specs.On.{on}
use Rattle.flash_map.proofs.Apart.{same_apart}
use Rattle.backend_api.specs.Boot.{MountUnits}
use Rattle.backend_api.specs.Map.{Map}
use Rattle.backend_api.specs.Room.{foreign_units}
use Rattle.flash_sim.specs.Device.{Device}
use Rattle.flash_map.specs.Touches.{Touches}
use Rattle.flash_map.specs.declared.area.Area.{Area}
use Rattle.flash_map.proofs.Touches.{first_of_two, second_of_two, then}
use Rattle.migrator.specs.Areas.{is_store_at}
use Rattle.migrator.proofs.AreaLemmas.{store-within}
use Rattle.migrator.proofs.Migration.{store-of}
use Rattle.mirror.specs.declared.mirror.Mirror.{Mirror}
use Rattle.mirror.specs.declared.sides.Side.{Side}
use Rattle.mirror.specs.Mounting.{BothFitEnds, FitsAt, SideEnds, mount_lost, other_place}
use Rattle.mirror.specs.Owing.{OpensOwed}
use Rattle.mirror.specs.Room.{FitsOn}
use Rattle.mirror.proofs.MapSteps.{both-mounted, look-ends, look-lost, map-still, other-is, selector-still, some-area}
use Rattle.mirror.proofs.MountSteps.{lost-same}
use Rattle.mirror.proofs.OwingSteps.{owed-first, owed-then}
use Rattle.mirror.proofs.SideSteps.{idle-then, other-done, other-stops, side-done, side-stops, spares-first, spares-then, units-first, units-then}
use Rattle.mirror.proofs.mounting.mount_both.Goals as goal

pub mount_side-side-requires-clause-lawful : goal.mount_side-side-requires-clause-lawful
mount_side-side-requires-clause-lawful g c = c.requires.map.lawful.each c.args.place c.area_at.result c.area_at.ensures

pub other_place-other-requires : goal.other_place-other-requires
other_place-other-requires g c = store-within c.args.map.now c.args.place c.requires.store

pub look_for_both-requires-clause-map : goal.look_for_both-requires-clause-map
look_for_both-requires-clause-map g c = map-still g.K.Backend.serves c.args.map.now (g.F.Flash.device c.args.flash.now) c.requires.map (g.F.Flash.device c.mount_side-side.new.flash) c.mount_side-side.ensures.touches.banks

pub look_for_both-requires-clause-other : goal.look_for_both-requires-clause-other
look_for_both-requires-clause-other g c =
    ap (is_store_at c.args.map.now) c.other_place-other.ensures ∙ (other-is g.K.Backend.serves c.args.map.now (g.F.Flash.device c.args.flash.now) c.requires.map c.args.place).stores

pub returns-in-Err-clause-touches : goal.returns-in-Err-clause-touches
returns-in-Err-clause-touches g c trusted other there beside =
    let d : Device = g.F.Flash.device c.args.flash.now in
    let m : Device = g.F.Flash.device c.mount_side-side.new.flash in
    let same : c.area_at.result ≡ trusted = some-area c.area_at.result trusted (sym c.area_at.ensures ∙ there) in
    subst (λ (lost : Bool). Touches (trusted ∷ other ∷ []) d m lost) (lost-same (Side g.row.K.Denot) (Mirror g.row.K.Denot) c.in-Err.fault)
    (first_of_two (subst (λ (x : Area). Touches (x ∷ []) d m (mount_lost {T = Side g.row.K.Denot} (Err c.in-Err.fault))) same c.in-Err.ensures.touches))

pub returns-in-Err-clause-selector : goal.returns-in-Err-clause-selector
returns-in-Err-clause-selector g c selector is =
    selector-still g.K.Backend.serves c.args.map.now (g.F.Flash.device c.args.flash.now) (g.F.Flash.device c.mount_side-side.new.flash) c.requires.map selector c.area_at.result c.args.place (mount_lost {T = Side g.row.K.Denot} (Err c.in-Err.fault)) is c.area_at.ensures c.requires.store
    (g.met.F.Flash.is_lawful c.args.flash.now) (g.met.F.Flash.is_lawful c.mount_side-side.new.flash) c.in-Err.ensures.touches

pub returns-in-Err-look_for_both-clause-touches : goal.returns-in-Err-look_for_both-clause-touches
returns-in-Err-look_for_both-clause-touches g c trusted other there beside =
    let d : Device = g.F.Flash.device c.args.flash.now in
    let m : Device = g.F.Flash.device c.mount_side-side.new.flash in
    let same : c.area_at.result ≡ trusted = some-area c.area_at.result trusted (sym c.area_at.ensures ∙ there) in
    let lost = lost-same (Unit {0}) (Mirror g.row.K.Denot) c.in-Err-look_for_both.fault in
    let none = look-lost (Unit {0}) g.K.Backend.room g.K.Priced.prices c.args.map.now m c.in-Ok.side.place c.other_place-other.result (on g.K.Backend.contents m c.in-Ok.side.area) c.in-Err-look_for_both.fault c.in-Err-look_for_both.ensures in
    subst (λ (b : Bool). Touches (trusted ∷ other ∷ []) d m b) (sym none ∙ lost) (first_of_two (subst (λ (x : Area). Touches (x ∷ []) d m false) same c.in-Ok.ensures.touches))

pub returns-in-Err-look_for_both-clause-ends : goal.returns-in-Err-look_for_both-clause-ends
returns-in-Err-look_for_both-clause-ends g c trusted other there beside =
    let d : Device = g.F.Flash.device c.args.flash.now in
    let m : Device = g.F.Flash.device c.mount_side-side.new.flash in
    let same : c.area_at.result ≡ trusted = some-area c.area_at.result trusted (sym c.area_at.ensures ∙ there) in
    let was : on g.K.Backend.damage d trusted ≡ None = subst (λ (x : Area). on g.K.Backend.damage d x ≡ None) same c.in-Ok.ensures.ends.0 in
    let now : on g.K.Backend.damage m trusted ≡ None = subst (λ (x : Area). on g.K.Backend.damage m x ≡ None) same (c.mount_side-side.ensures.sound c.in-Ok.ensures.ends.0) in
    let read : on g.K.Backend.contents m trusted ≡ on g.K.Backend.contents d trusted = subst (λ (x : Area). on g.K.Backend.contents m x ≡ on g.K.Backend.contents d x) same (c.mount_side-side.ensures.keeps c.in-Ok.ensures.ends.0) in
    let others = other-is g.K.Backend.serves c.args.map.now d c.requires.map c.args.place in
    let rest = same_apart {area = c.area_at.result} {other = other} {old = d} {new = m} {lost = false} (g.met.F.Flash.is_lawful c.args.flash.now) (g.met.F.Flash.is_lawful c.mount_side-side.new.flash) (c.requires.map.lawful.each (other_place c.args.map.now c.args.place) other beside).in_bank
    (c.requires.map.lawful.apart c.args.place (other_place c.args.map.now c.args.place) c.area_at.result other c.area_at.ensures beside (λ e. others.differs (sym e))) c.in-Ok.ensures.touches in
    look-ends g.K.Backend.mounted_on g.K.Backend.stands g.K.Backend.damage g.K.Backend.contents g.K.Backend.room g.K.Priced.prices c.args.map.now d m trusted other c.args.place c.in-Ok.ensures.touches.banks was now read rest (Unit {0}) c.in-Err-look_for_both.fault
    (subst (λ (x : Area). BothFitEnds {T = Unit {0}} g.K.Backend.room g.K.Priced.prices c.args.map.now m c.args.place (other_place c.args.map.now c.args.place) (on g.K.Backend.contents m x) (Err c.in-Err-look_for_both.fault)) (c.in-Ok.ensures.ends.1 ∙ same)
    (subst (λ (n : ℕ). BothFitEnds {T = Unit {0}} g.K.Backend.room g.K.Priced.prices c.args.map.now m n (other_place c.args.map.now c.args.place) (on g.K.Backend.contents m c.in-Ok.side.area) (Err c.in-Err-look_for_both.fault)) c.in-Ok.ensures.ends.2
    (subst (λ (n : ℕ). BothFitEnds {T = Unit {0}} g.K.Backend.room g.K.Priced.prices c.args.map.now m c.in-Ok.side.place n (on g.K.Backend.contents m c.in-Ok.side.area) (Err c.in-Err-look_for_both.fault)) c.other_place-other.ensures c.in-Err-look_for_both.ensures)))

pub returns-in-Err-look_for_both-clause-selector : goal.returns-in-Err-look_for_both-clause-selector
returns-in-Err-look_for_both-clause-selector g c selector is =
    selector-still g.K.Backend.serves c.args.map.now (g.F.Flash.device c.args.flash.now) (g.F.Flash.device c.mount_side-side.new.flash) c.requires.map selector c.area_at.result c.args.place false is c.area_at.ensures c.requires.store (g.met.F.Flash.is_lawful c.args.flash.now) (g.met.F.Flash.is_lawful c.mount_side-side.new.flash) c.in-Ok.ensures.touches

pub area_at-requires-2 : goal.area_at-requires-2
area_at-requires-2 g c = store-within c.args.map.now c.other_place-other.result (ap (is_store_at c.args.map.now) c.other_place-other.ensures ∙ (other-is g.K.Backend.serves c.args.map.now (g.F.Flash.device c.args.flash.now) c.requires.map c.args.place).stores)

pub area_at-requires-in-Ok-opened : goal.area_at-requires-in-Ok-opened
area_at-requires-in-Ok-opened g c = store-within c.args.map.now c.other_place-other.result (ap (is_store_at c.args.map.now) c.other_place-other.ensures ∙ (other-is g.K.Backend.serves c.args.map.now (g.F.Flash.device c.args.flash.now) c.requires.map c.args.place).stores)

pub open_other-opened-requires : goal.open_other-opened-requires
open_other-opened-requires g c =
    let others = other-is g.K.Backend.serves c.args.map.now (g.F.Flash.device c.args.flash.now) c.requires.map c.args.place in
    let m : Device = g.F.Flash.device c.mount_side-side.new.flash in
    record {
      other =
          record {
            lawful_trusted = subst (λ (x : Area). IsLawfulFor (g.F.Flash.device c.mount_side-side.new.flash).banks x) (sym c.in-Ok.ensures.ends.3.here) c.in-Ok.ensures.ends.3.lawful;
            stands_trusted = c.in-Ok.ensures.ends.3.up;
            lawful = subst (λ (b : List Bank). IsLawfulFor b c.area_at-2.result) (sym c.in-Ok.ensures.touches.banks) (c.requires.map.lawful.each c.other_place-other.result c.area_at-2.result c.area_at-2.ensures);
            role = c.requires.map.roles c.other_place-other.result c.area_at-2.result c.area_at-2.ensures (store-of c.args.map.now c.other_place-other.result c.area_at-2.result c.area_at-2.ensures (ap (is_store_at c.args.map.now) c.other_place-other.ensures ∙ (other-is g.K.Backend.serves c.args.map.now (g.F.Flash.device c.args.flash.now) c.requires.map c.args.place).stores));
            served =
                (map-still g.K.Backend.serves c.args.map.now (g.F.Flash.device c.args.flash.now) c.requires.map (g.F.Flash.device c.mount_side-side.new.flash) c.in-Ok.ensures.touches.banks).served c.other_place-other.result c.area_at-2.result c.area_at-2.ensures
                (store-of c.args.map.now c.other_place-other.result c.area_at-2.result c.area_at-2.ensures (ap (is_store_at c.args.map.now) c.other_place-other.ensures ∙ (other-is g.K.Backend.serves c.args.map.now (g.F.Flash.device c.args.flash.now) c.requires.map c.args.place).stores));
            apart =
                subst (λ (x : Area). AreApart c.area_at-2.result x) (sym (c.in-Ok.ensures.ends.3.here ∙ c.in-Ok.ensures.ends.1))
                (c.requires.map.lawful.apart c.other_place-other.result c.args.place c.area_at-2.result c.area_at.result c.area_at-2.ensures c.area_at.ensures (λ e. others.differs (sym c.other_place-other.ensures ∙ e)));
            version =
                c.requires.map.lawful.versions c.other_place-other.result c.args.place c.area_at-2.result c.area_at.result c.area_at-2.ensures c.area_at.ensures
                ∙ sym (ap (λ (x : Area). x.version) (c.in-Ok.ensures.ends.3.here ∙ c.in-Ok.ensures.ends.1));
            fits =
                subst (λ (x : Area). FitsOn g.K.Backend.room g.K.Priced.prices m c.area_at-2.result (on g.K.Backend.contents m x)) (sym c.in-Ok.ensures.ends.3.here)
                (c.in-Ok-look_for_both.ensures.1 c.area_at-2.result c.area_at-2.ensures);
          };
    }

pub returns-in-Ok-opened-clause-touches : goal.returns-in-Ok-opened-clause-touches
returns-in-Ok-opened-clause-touches g c trusted other there beside =
    let d : Device = g.F.Flash.device c.args.flash.now in
    let m : Device = g.F.Flash.device c.mount_side-side.new.flash in
    let e : Device = g.F.Flash.device c.open_other-opened.new.flash in
    let same : c.area_at.result ≡ trusted = some-area c.area_at.result trusted (sym c.area_at.ensures ∙ there) in
    let o-same : c.area_at-2.result ≡ other = some-area c.area_at-2.result other (sym c.area_at-2.ensures ∙ ap (slice_get c.args.map.now) c.other_place-other.ensures ∙ beside) in
    then (first_of_two (subst (λ (x : Area). Touches (x ∷ []) d m false) same c.in-Ok.ensures.touches)) (second_of_two (subst (λ (x : Area). Touches (x ∷ []) m e false) o-same c.in-Ok-opened.ensures.touches))

pub returns-in-Err-opened-clause-touches : goal.returns-in-Err-opened-clause-touches
returns-in-Err-opened-clause-touches g c trusted other there beside =
    let d : Device = g.F.Flash.device c.args.flash.now in
    let m : Device = g.F.Flash.device c.mount_side-side.new.flash in
    let e : Device = g.F.Flash.device c.open_other-opened.new.flash in
    let same : c.area_at.result ≡ trusted = some-area c.area_at.result trusted (sym c.area_at.ensures ∙ there) in
    let o-same : c.area_at-2.result ≡ other = some-area c.area_at-2.result other (sym c.area_at-2.ensures ∙ ap (slice_get c.args.map.now) c.other_place-other.ensures ∙ beside) in
    then (first_of_two (subst (λ (x : Area). Touches (x ∷ []) d m false) same c.in-Ok.ensures.touches))
    (subst (λ (lost : Bool). Touches (trusted ∷ other ∷ []) m e lost) (lost-same g.row.K.Denot (Mirror g.row.K.Denot) c.in-Err-opened.fault)
    (second_of_two (subst (λ (x : Area). Touches (x ∷ []) m e (mount_lost {T = g.row.K.Denot} (Err c.in-Err-opened.fault))) o-same c.in-Err-opened.ensures.touches)))

pub returns-in-Ok-opened-clause-selector : goal.returns-in-Ok-opened-clause-selector
returns-in-Ok-opened-clause-selector g c selector is =
    let d : Device = g.F.Flash.device c.args.flash.now in
    let m : Device = g.F.Flash.device c.mount_side-side.new.flash in
    let e : Device = g.F.Flash.device c.open_other-opened.new.flash in
    let first = selector-still g.K.Backend.serves c.args.map.now d m c.requires.map selector c.area_at.result c.args.place false is c.area_at.ensures c.requires.store (g.met.F.Flash.is_lawful c.args.flash.now) (g.met.F.Flash.is_lawful c.mount_side-side.new.flash) c.in-Ok.ensures.touches in
    selector-still g.K.Backend.serves c.args.map.now m e (map-still g.K.Backend.serves c.args.map.now d c.requires.map m c.in-Ok.ensures.touches.banks) selector c.area_at-2.result c.other_place-other.result false is c.area_at-2.ensures (ap (is_store_at c.args.map.now) c.other_place-other.ensures ∙ (other-is g.K.Backend.serves c.args.map.now (g.F.Flash.device c.args.flash.now) c.requires.map c.args.place).stores) (g.met.F.Flash.is_lawful c.mount_side-side.new.flash) (g.met.F.Flash.is_lawful c.open_other-opened.new.flash) c.in-Ok-opened.ensures.touches ∙ first

pub returns-in-Err-opened-clause-selector : goal.returns-in-Err-opened-clause-selector
returns-in-Err-opened-clause-selector g c selector is =
    let d : Device = g.F.Flash.device c.args.flash.now in
    let m : Device = g.F.Flash.device c.mount_side-side.new.flash in
    let e : Device = g.F.Flash.device c.open_other-opened.new.flash in
    let first = selector-still g.K.Backend.serves c.args.map.now d m c.requires.map selector c.area_at.result c.args.place false is c.area_at.ensures c.requires.store (g.met.F.Flash.is_lawful c.args.flash.now) (g.met.F.Flash.is_lawful c.mount_side-side.new.flash) c.in-Ok.ensures.touches in
    selector-still g.K.Backend.serves c.args.map.now m e (map-still g.K.Backend.serves c.args.map.now d c.requires.map m c.in-Ok.ensures.touches.banks) selector c.area_at-2.result c.other_place-other.result (mount_lost {T = g.row.K.Denot} (Err c.in-Err-opened.fault)) is c.area_at-2.ensures (ap (is_store_at c.args.map.now) c.other_place-other.ensures ∙ (other-is g.K.Backend.serves c.args.map.now (g.F.Flash.device c.args.flash.now) c.requires.map c.args.place).stores) (g.met.F.Flash.is_lawful c.mount_side-side.new.flash) (g.met.F.Flash.is_lawful c.open_other-opened.new.flash) c.in-Err-opened.ensures.touches ∙ first

pub returns-in-Ok-opened-clause-ends : goal.returns-in-Ok-opened-clause-ends
returns-in-Ok-opened-clause-ends g c trusted other there beside =
    let d : Device = g.F.Flash.device c.args.flash.now in
    let m : Device = g.F.Flash.device c.mount_side-side.new.flash in
    let e : Device = g.F.Flash.device c.open_other-opened.new.flash in
    let same : c.area_at.result ≡ trusted = some-area c.area_at.result trusted (sym c.area_at.ensures ∙ there) in
    let o-same : c.area_at-2.result ≡ other = some-area c.area_at-2.result other (sym c.area_at-2.ensures ∙ ap (slice_get c.args.map.now) c.other_place-other.ensures ∙ beside) in
    let area : c.in-Ok.side.area ≡ trusted = c.in-Ok.ensures.ends.1 ∙ same in
    let on_it : g.K.Backend.mounted_on c.in-Ok.side.store ≡ trusted = c.in-Ok.ensures.ends.3.here ∙ area in
    let last : c.area_at-in-Ok-opened.result ≡ other = some-area c.area_at-in-Ok-opened.result other (sym c.area_at-in-Ok-opened.ensures ∙ ap (slice_get c.args.map.now) c.other_place-other.ensures ∙ beside) in
    let was : on g.K.Backend.damage d trusted ≡ None = subst (λ (x : Area). on g.K.Backend.damage d x ≡ None) same c.in-Ok.ensures.ends.0 in
    let now : on g.K.Backend.damage m trusted ≡ None = subst (λ (x : Area). on g.K.Backend.damage m x ≡ None) same (c.mount_side-side.ensures.sound c.in-Ok.ensures.ends.0) in
    let read : on g.K.Backend.contents m trusted ≡ on g.K.Backend.contents d trusted = subst (λ (x : Area). on g.K.Backend.contents m x ≡ on g.K.Backend.contents d x) same (c.mount_side-side.ensures.keeps c.in-Ok.ensures.ends.0) in
    let t-same : sectors_of e trusted ≡ sectors_of m trusted = subst (λ (x : Area). sectors_of e x ≡ sectors_of m x) on_it c.in-Ok-opened.ensures.trusted in
    let holds : on g.K.Backend.contents e other ≡ on g.K.Backend.contents m trusted =
    ap (on g.K.Backend.contents e) (sym o-same) ∙ c.in-Ok-opened.ensures.ends.2 ∙ ap (on g.K.Backend.contents m) on_it in
    let fits = c.in-Ok-look_for_both.ensures in
    let settings : on g.K.Backend.contents m c.in-Ok.side.area ≡ on g.K.Backend.contents m trusted = ap (on g.K.Backend.contents m) area in
    both-mounted g.K.Backend.serves c.args.map.now d c.requires.map g.K.Backend.mounted_on g.K.Backend.stands g.K.Backend.damage g.K.Backend.contents g.K.Backend.room g.K.Priced.prices m e trusted other c.args.place c.in-Ok.ensures.touches.banks c.in-Ok-opened.ensures.touches.banks there beside c.requires.store t-same was now read
    c.in-Ok.side (record { store = c.in-Ok-opened.store; area = c.area_at-in-Ok-opened.result; place = c.other_place-other.result }) area c.in-Ok.ensures.ends.2 c.in-Ok.ensures.ends.3 last c.other_place-other.ensures (c.in-Ok-opened.ensures.ends.0 ∙ o-same) c.in-Ok-opened.ensures.ends.1 holds
    (subst (λ (x : Map). FitsAt g.K.Backend.room g.K.Priced.prices c.args.map.now m c.args.place x) settings (subst (λ (n : ℕ). FitsAt g.K.Backend.room g.K.Priced.prices c.args.map.now m n (on g.K.Backend.contents m c.in-Ok.side.area)) c.in-Ok.ensures.ends.2 fits.0))
    (subst (λ (x : Map). FitsAt g.K.Backend.room g.K.Priced.prices c.args.map.now m (other_place c.args.map.now c.args.place) x) settings (subst (λ (n : ℕ). FitsAt g.K.Backend.room g.K.Priced.prices c.args.map.now m n (on g.K.Backend.contents m c.in-Ok.side.area)) c.other_place-other.ensures fits.1))

pub returns-in-Err-clause-spares : goal.returns-in-Err-clause-spares
returns-in-Err-clause-spares g c trusted other there beside =
    let d : Device = g.F.Flash.device c.args.flash.now in
    let m : Device = g.F.Flash.device c.mount_side-side.new.flash in
    let one = side-done g.K.Backend.damage g.K.Backend.contents g.K.Backend.rests g.K.Backend.serves c.args.map.now d c.requires.map m c.args.place c.area_at.result trusted other (mount_lost c.mount_side-side.result) c.area_at.ensures there beside
    (g.met.F.Flash.is_lawful c.args.flash.now) (g.met.F.Flash.is_lawful c.mount_side-side.new.flash) c.mount_side-side.ensures.touches c.mount_side-side.ensures.sound c.mount_side-side.ensures.keeps c.mount_side-side.ensures.rests c.mount_side-side.ensures.written c.mount_side-side.ensures.units.at_most in
    spares-first g.K.Backend.damage g.K.Backend.contents g.K.Backend.rests d m trusted other one

pub returns-in-Err-clause-idle : goal.returns-in-Err-clause-idle
returns-in-Err-clause-idle g c trusted other there beside rest other_rest holds =
    let d : Device = g.F.Flash.device c.args.flash.now in
    let m : Device = g.F.Flash.device c.mount_side-side.new.flash in
    let one = side-done g.K.Backend.damage g.K.Backend.contents g.K.Backend.rests g.K.Backend.serves c.args.map.now d c.requires.map m c.args.place c.area_at.result trusted other (mount_lost c.mount_side-side.result) c.area_at.ensures there beside
    (g.met.F.Flash.is_lawful c.args.flash.now) (g.met.F.Flash.is_lawful c.mount_side-side.new.flash) c.mount_side-side.ensures.touches c.mount_side-side.ensures.sound c.mount_side-side.ensures.keeps c.mount_side-side.ensures.rests c.mount_side-side.ensures.written c.mount_side-side.ensures.units.at_most in
    one.rest rest

pub returns-in-Err-clause-at_most : goal.returns-in-Err-clause-at_most
returns-in-Err-clause-at_most g c trusted other there beside =
    let d : Device = g.F.Flash.device c.args.flash.now in
    let m : Device = g.F.Flash.device c.mount_side-side.new.flash in
    let one = side-done g.K.Backend.damage g.K.Backend.contents g.K.Backend.rests g.K.Backend.serves c.args.map.now d c.requires.map m c.args.place c.area_at.result trusted other (mount_lost c.mount_side-side.result) c.area_at.ensures there beside
    (g.met.F.Flash.is_lawful c.args.flash.now) (g.met.F.Flash.is_lawful c.mount_side-side.new.flash) c.mount_side-side.ensures.touches c.mount_side-side.ensures.sound c.mount_side-side.ensures.keeps c.mount_side-side.ensures.rests c.mount_side-side.ensures.written c.mount_side-side.ensures.units.at_most in
    units-first g.K.Backend.damage g.K.Backend.contents g.K.Backend.rests d m trusted other one (maps.len (on g.K.Backend.contents d trusted))

pub returns-in-Err-look_for_both-clause-spares : goal.returns-in-Err-look_for_both-clause-spares
returns-in-Err-look_for_both-clause-spares g c trusted other there beside =
    let d : Device = g.F.Flash.device c.args.flash.now in
    let m : Device = g.F.Flash.device c.mount_side-side.new.flash in
    let one = side-done g.K.Backend.damage g.K.Backend.contents g.K.Backend.rests g.K.Backend.serves c.args.map.now d c.requires.map m c.args.place c.area_at.result trusted other (mount_lost c.mount_side-side.result) c.area_at.ensures there beside
    (g.met.F.Flash.is_lawful c.args.flash.now) (g.met.F.Flash.is_lawful c.mount_side-side.new.flash) c.mount_side-side.ensures.touches c.mount_side-side.ensures.sound c.mount_side-side.ensures.keeps c.mount_side-side.ensures.rests c.mount_side-side.ensures.written c.mount_side-side.ensures.units.at_most in
    spares-first g.K.Backend.damage g.K.Backend.contents g.K.Backend.rests d m trusted other one

pub returns-in-Err-look_for_both-clause-idle : goal.returns-in-Err-look_for_both-clause-idle
returns-in-Err-look_for_both-clause-idle g c trusted other there beside rest other_rest holds =
    let d : Device = g.F.Flash.device c.args.flash.now in
    let m : Device = g.F.Flash.device c.mount_side-side.new.flash in
    let one = side-done g.K.Backend.damage g.K.Backend.contents g.K.Backend.rests g.K.Backend.serves c.args.map.now d c.requires.map m c.args.place c.area_at.result trusted other (mount_lost c.mount_side-side.result) c.area_at.ensures there beside
    (g.met.F.Flash.is_lawful c.args.flash.now) (g.met.F.Flash.is_lawful c.mount_side-side.new.flash) c.mount_side-side.ensures.touches c.mount_side-side.ensures.sound c.mount_side-side.ensures.keeps c.mount_side-side.ensures.rests c.mount_side-side.ensures.written c.mount_side-side.ensures.units.at_most in
    one.rest rest

pub returns-in-Err-look_for_both-clause-at_most : goal.returns-in-Err-look_for_both-clause-at_most
returns-in-Err-look_for_both-clause-at_most g c trusted other there beside =
    let d : Device = g.F.Flash.device c.args.flash.now in
    let m : Device = g.F.Flash.device c.mount_side-side.new.flash in
    let one = side-done g.K.Backend.damage g.K.Backend.contents g.K.Backend.rests g.K.Backend.serves c.args.map.now d c.requires.map m c.args.place c.area_at.result trusted other (mount_lost c.mount_side-side.result) c.area_at.ensures there beside
    (g.met.F.Flash.is_lawful c.args.flash.now) (g.met.F.Flash.is_lawful c.mount_side-side.new.flash) c.mount_side-side.ensures.touches c.mount_side-side.ensures.sound c.mount_side-side.ensures.keeps c.mount_side-side.ensures.rests c.mount_side-side.ensures.written c.mount_side-side.ensures.units.at_most in
    units-first g.K.Backend.damage g.K.Backend.contents g.K.Backend.rests d m trusted other one (maps.len (on g.K.Backend.contents d trusted))

pub returns-in-Ok-opened-clause-spares : goal.returns-in-Ok-opened-clause-spares
returns-in-Ok-opened-clause-spares g c trusted other there beside =
    let d : Device = g.F.Flash.device c.args.flash.now in
    let m : Device = g.F.Flash.device c.mount_side-side.new.flash in
    let one = side-done g.K.Backend.damage g.K.Backend.contents g.K.Backend.rests g.K.Backend.serves c.args.map.now d c.requires.map m c.args.place c.area_at.result trusted other (mount_lost c.mount_side-side.result) c.area_at.ensures there beside
    (g.met.F.Flash.is_lawful c.args.flash.now) (g.met.F.Flash.is_lawful c.mount_side-side.new.flash) c.mount_side-side.ensures.touches c.mount_side-side.ensures.sound c.mount_side-side.ensures.keeps c.mount_side-side.ensures.rests c.mount_side-side.ensures.written c.mount_side-side.ensures.units.at_most in
    let e : Device = g.F.Flash.device c.open_other-opened.new.flash in
    let same : c.area_at.result ≡ trusted = some-area c.area_at.result trusted (sym c.area_at.ensures ∙ there) in
    let o-same : c.area_at-2.result ≡ other = some-area c.area_at-2.result other (sym c.area_at-2.ensures ∙ ap (slice_get c.args.map.now) c.other_place-other.ensures ∙ beside) in
    let on_it : g.K.Backend.mounted_on c.in-Ok.side.store ≡ trusted = c.in-Ok.ensures.ends.3.here ∙ c.in-Ok.ensures.ends.1 ∙ same in
    let was : on g.K.Backend.damage d trusted ≡ None = subst (λ (x : Area). on g.K.Backend.damage d x ≡ None) same c.in-Ok.ensures.ends.0 in
    let two = other-done g.K.Backend.damage g.K.Backend.contents g.K.Backend.rests m e c.area_at-2.result other (g.K.Backend.mounted_on c.in-Ok.side.store) trusted o-same on_it c.open_other-opened.ensures.touches.banks c.open_other-opened.ensures.trusted
    c.open_other-opened.ensures.held c.open_other-opened.ensures.idle c.open_other-opened.ensures.at_most in
    spares-then g.K.Backend.damage g.K.Backend.contents g.K.Backend.rests d m trusted other one e two

pub returns-in-Ok-opened-clause-idle : goal.returns-in-Ok-opened-clause-idle
returns-in-Ok-opened-clause-idle g c trusted other there beside rest other_rest holds =
    let d : Device = g.F.Flash.device c.args.flash.now in
    let m : Device = g.F.Flash.device c.mount_side-side.new.flash in
    let one = side-done g.K.Backend.damage g.K.Backend.contents g.K.Backend.rests g.K.Backend.serves c.args.map.now d c.requires.map m c.args.place c.area_at.result trusted other (mount_lost c.mount_side-side.result) c.area_at.ensures there beside
    (g.met.F.Flash.is_lawful c.args.flash.now) (g.met.F.Flash.is_lawful c.mount_side-side.new.flash) c.mount_side-side.ensures.touches c.mount_side-side.ensures.sound c.mount_side-side.ensures.keeps c.mount_side-side.ensures.rests c.mount_side-side.ensures.written c.mount_side-side.ensures.units.at_most in
    let e : Device = g.F.Flash.device c.open_other-opened.new.flash in
    let same : c.area_at.result ≡ trusted = some-area c.area_at.result trusted (sym c.area_at.ensures ∙ there) in
    let o-same : c.area_at-2.result ≡ other = some-area c.area_at-2.result other (sym c.area_at-2.ensures ∙ ap (slice_get c.args.map.now) c.other_place-other.ensures ∙ beside) in
    let on_it : g.K.Backend.mounted_on c.in-Ok.side.store ≡ trusted = c.in-Ok.ensures.ends.3.here ∙ c.in-Ok.ensures.ends.1 ∙ same in
    let was : on g.K.Backend.damage d trusted ≡ None = subst (λ (x : Area). on g.K.Backend.damage d x ≡ None) same c.in-Ok.ensures.ends.0 in
    let two = other-done g.K.Backend.damage g.K.Backend.contents g.K.Backend.rests m e c.area_at-2.result other (g.K.Backend.mounted_on c.in-Ok.side.store) trusted o-same on_it c.open_other-opened.ensures.touches.banks c.open_other-opened.ensures.trusted
    c.open_other-opened.ensures.held c.open_other-opened.ensures.idle c.open_other-opened.ensures.at_most in
    idle-then g.K.Backend.damage g.K.Backend.contents g.K.Backend.rests d m trusted other one e two rest other_rest holds

pub returns-in-Ok-opened-clause-at_most : goal.returns-in-Ok-opened-clause-at_most
returns-in-Ok-opened-clause-at_most g c trusted other there beside =
    let d : Device = g.F.Flash.device c.args.flash.now in
    let m : Device = g.F.Flash.device c.mount_side-side.new.flash in
    let one = side-done g.K.Backend.damage g.K.Backend.contents g.K.Backend.rests g.K.Backend.serves c.args.map.now d c.requires.map m c.args.place c.area_at.result trusted other (mount_lost c.mount_side-side.result) c.area_at.ensures there beside
    (g.met.F.Flash.is_lawful c.args.flash.now) (g.met.F.Flash.is_lawful c.mount_side-side.new.flash) c.mount_side-side.ensures.touches c.mount_side-side.ensures.sound c.mount_side-side.ensures.keeps c.mount_side-side.ensures.rests c.mount_side-side.ensures.written c.mount_side-side.ensures.units.at_most in
    let e : Device = g.F.Flash.device c.open_other-opened.new.flash in
    let same : c.area_at.result ≡ trusted = some-area c.area_at.result trusted (sym c.area_at.ensures ∙ there) in
    let o-same : c.area_at-2.result ≡ other = some-area c.area_at-2.result other (sym c.area_at-2.ensures ∙ ap (slice_get c.args.map.now) c.other_place-other.ensures ∙ beside) in
    let on_it : g.K.Backend.mounted_on c.in-Ok.side.store ≡ trusted = c.in-Ok.ensures.ends.3.here ∙ c.in-Ok.ensures.ends.1 ∙ same in
    let was : on g.K.Backend.damage d trusted ≡ None = subst (λ (x : Area). on g.K.Backend.damage d x ≡ None) same c.in-Ok.ensures.ends.0 in
    let two = other-done g.K.Backend.damage g.K.Backend.contents g.K.Backend.rests m e c.area_at-2.result other (g.K.Backend.mounted_on c.in-Ok.side.store) trusted o-same on_it c.open_other-opened.ensures.touches.banks c.open_other-opened.ensures.trusted
    c.open_other-opened.ensures.held c.open_other-opened.ensures.idle c.open_other-opened.ensures.at_most in
    units-then g.K.Backend.damage g.K.Backend.contents g.K.Backend.rests d m trusted other one e two was

pub returns-in-Err-opened-clause-spares : goal.returns-in-Err-opened-clause-spares
returns-in-Err-opened-clause-spares g c trusted other there beside =
    let d : Device = g.F.Flash.device c.args.flash.now in
    let m : Device = g.F.Flash.device c.mount_side-side.new.flash in
    let one = side-done g.K.Backend.damage g.K.Backend.contents g.K.Backend.rests g.K.Backend.serves c.args.map.now d c.requires.map m c.args.place c.area_at.result trusted other (mount_lost c.mount_side-side.result) c.area_at.ensures there beside
    (g.met.F.Flash.is_lawful c.args.flash.now) (g.met.F.Flash.is_lawful c.mount_side-side.new.flash) c.mount_side-side.ensures.touches c.mount_side-side.ensures.sound c.mount_side-side.ensures.keeps c.mount_side-side.ensures.rests c.mount_side-side.ensures.written c.mount_side-side.ensures.units.at_most in
    let e : Device = g.F.Flash.device c.open_other-opened.new.flash in
    let same : c.area_at.result ≡ trusted = some-area c.area_at.result trusted (sym c.area_at.ensures ∙ there) in
    let o-same : c.area_at-2.result ≡ other = some-area c.area_at-2.result other (sym c.area_at-2.ensures ∙ ap (slice_get c.args.map.now) c.other_place-other.ensures ∙ beside) in
    let on_it : g.K.Backend.mounted_on c.in-Ok.side.store ≡ trusted = c.in-Ok.ensures.ends.3.here ∙ c.in-Ok.ensures.ends.1 ∙ same in
    let was : on g.K.Backend.damage d trusted ≡ None = subst (λ (x : Area). on g.K.Backend.damage d x ≡ None) same c.in-Ok.ensures.ends.0 in
    let two = other-done g.K.Backend.damage g.K.Backend.contents g.K.Backend.rests m e c.area_at-2.result other (g.K.Backend.mounted_on c.in-Ok.side.store) trusted o-same on_it c.open_other-opened.ensures.touches.banks c.open_other-opened.ensures.trusted
    c.open_other-opened.ensures.held c.open_other-opened.ensures.idle c.open_other-opened.ensures.at_most in
    spares-then g.K.Backend.damage g.K.Backend.contents g.K.Backend.rests d m trusted other one e two

pub returns-in-Err-opened-clause-idle : goal.returns-in-Err-opened-clause-idle
returns-in-Err-opened-clause-idle g c trusted other there beside rest other_rest holds =
    let d : Device = g.F.Flash.device c.args.flash.now in
    let m : Device = g.F.Flash.device c.mount_side-side.new.flash in
    let one = side-done g.K.Backend.damage g.K.Backend.contents g.K.Backend.rests g.K.Backend.serves c.args.map.now d c.requires.map m c.args.place c.area_at.result trusted other (mount_lost c.mount_side-side.result) c.area_at.ensures there beside
    (g.met.F.Flash.is_lawful c.args.flash.now) (g.met.F.Flash.is_lawful c.mount_side-side.new.flash) c.mount_side-side.ensures.touches c.mount_side-side.ensures.sound c.mount_side-side.ensures.keeps c.mount_side-side.ensures.rests c.mount_side-side.ensures.written c.mount_side-side.ensures.units.at_most in
    let e : Device = g.F.Flash.device c.open_other-opened.new.flash in
    let same : c.area_at.result ≡ trusted = some-area c.area_at.result trusted (sym c.area_at.ensures ∙ there) in
    let o-same : c.area_at-2.result ≡ other = some-area c.area_at-2.result other (sym c.area_at-2.ensures ∙ ap (slice_get c.args.map.now) c.other_place-other.ensures ∙ beside) in
    let on_it : g.K.Backend.mounted_on c.in-Ok.side.store ≡ trusted = c.in-Ok.ensures.ends.3.here ∙ c.in-Ok.ensures.ends.1 ∙ same in
    let was : on g.K.Backend.damage d trusted ≡ None = subst (λ (x : Area). on g.K.Backend.damage d x ≡ None) same c.in-Ok.ensures.ends.0 in
    let two = other-done g.K.Backend.damage g.K.Backend.contents g.K.Backend.rests m e c.area_at-2.result other (g.K.Backend.mounted_on c.in-Ok.side.store) trusted o-same on_it c.open_other-opened.ensures.touches.banks c.open_other-opened.ensures.trusted
    c.open_other-opened.ensures.held c.open_other-opened.ensures.idle c.open_other-opened.ensures.at_most in
    idle-then g.K.Backend.damage g.K.Backend.contents g.K.Backend.rests d m trusted other one e two rest other_rest holds

pub returns-in-Err-opened-clause-at_most : goal.returns-in-Err-opened-clause-at_most
returns-in-Err-opened-clause-at_most g c trusted other there beside =
    let d : Device = g.F.Flash.device c.args.flash.now in
    let m : Device = g.F.Flash.device c.mount_side-side.new.flash in
    let one = side-done g.K.Backend.damage g.K.Backend.contents g.K.Backend.rests g.K.Backend.serves c.args.map.now d c.requires.map m c.args.place c.area_at.result trusted other (mount_lost c.mount_side-side.result) c.area_at.ensures there beside
    (g.met.F.Flash.is_lawful c.args.flash.now) (g.met.F.Flash.is_lawful c.mount_side-side.new.flash) c.mount_side-side.ensures.touches c.mount_side-side.ensures.sound c.mount_side-side.ensures.keeps c.mount_side-side.ensures.rests c.mount_side-side.ensures.written c.mount_side-side.ensures.units.at_most in
    let e : Device = g.F.Flash.device c.open_other-opened.new.flash in
    let same : c.area_at.result ≡ trusted = some-area c.area_at.result trusted (sym c.area_at.ensures ∙ there) in
    let o-same : c.area_at-2.result ≡ other = some-area c.area_at-2.result other (sym c.area_at-2.ensures ∙ ap (slice_get c.args.map.now) c.other_place-other.ensures ∙ beside) in
    let on_it : g.K.Backend.mounted_on c.in-Ok.side.store ≡ trusted = c.in-Ok.ensures.ends.3.here ∙ c.in-Ok.ensures.ends.1 ∙ same in
    let was : on g.K.Backend.damage d trusted ≡ None = subst (λ (x : Area). on g.K.Backend.damage d x ≡ None) same c.in-Ok.ensures.ends.0 in
    let two = other-done g.K.Backend.damage g.K.Backend.contents g.K.Backend.rests m e c.area_at-2.result other (g.K.Backend.mounted_on c.in-Ok.side.store) trusted o-same on_it c.open_other-opened.ensures.touches.banks c.open_other-opened.ensures.trusted
    c.open_other-opened.ensures.held c.open_other-opened.ensures.idle c.open_other-opened.ensures.at_most in
    units-then g.K.Backend.damage g.K.Backend.contents g.K.Backend.rests d m trusted other one e two was

pub returns-in-Err-clause-ends : goal.returns-in-Err-clause-ends
returns-in-Err-clause-ends g c trusted other there beside =
    let d : Device = g.F.Flash.device c.args.flash.now in
    let m : Device = g.F.Flash.device c.mount_side-side.new.flash in
    let one = side-done g.K.Backend.damage g.K.Backend.contents g.K.Backend.rests g.K.Backend.serves c.args.map.now d c.requires.map m c.args.place c.area_at.result trusted other (mount_lost c.mount_side-side.result) c.area_at.ensures there beside
    (g.met.F.Flash.is_lawful c.args.flash.now) (g.met.F.Flash.is_lawful c.mount_side-side.new.flash) c.mount_side-side.ensures.touches c.mount_side-side.ensures.sound c.mount_side-side.ensures.keeps c.mount_side-side.ensures.rests c.mount_side-side.ensures.written c.mount_side-side.ensures.units.at_most in
    let same : c.area_at.result ≡ trusted = some-area c.area_at.result trusted (sym c.area_at.ensures ∙ there) in
    side-stops g.K.Backend.damage g.K.Backend.contents g.K.Backend.rests g.K.Backend.mounted_on g.K.Backend.stands g.K.Backend.room g.K.Priced.prices c.args.map.now d m trusted other c.args.place one c.in-Err.fault
    (subst (λ (x : Area). SideEnds g.K.Backend.mounted_on g.K.Backend.stands g.K.Backend.damage d m x c.args.place (Err c.in-Err.fault)) same c.in-Err.ensures.ends)
    (subst (λ (x : Area). Touches (x ∷ []) d m (mount_lost {T = Side g.row.K.Denot} (Err c.in-Err.fault))) same c.in-Err.ensures.touches)

pub returns-in-Err-opened-clause-ends : goal.returns-in-Err-opened-clause-ends
returns-in-Err-opened-clause-ends g c trusted other there beside =
    let d : Device = g.F.Flash.device c.args.flash.now in
    let m : Device = g.F.Flash.device c.mount_side-side.new.flash in
    let one = side-done g.K.Backend.damage g.K.Backend.contents g.K.Backend.rests g.K.Backend.serves c.args.map.now d c.requires.map m c.args.place c.area_at.result trusted other (mount_lost c.mount_side-side.result) c.area_at.ensures there beside
    (g.met.F.Flash.is_lawful c.args.flash.now) (g.met.F.Flash.is_lawful c.mount_side-side.new.flash) c.mount_side-side.ensures.touches c.mount_side-side.ensures.sound c.mount_side-side.ensures.keeps c.mount_side-side.ensures.rests c.mount_side-side.ensures.written c.mount_side-side.ensures.units.at_most in
    let e : Device = g.F.Flash.device c.open_other-opened.new.flash in
    let same : c.area_at.result ≡ trusted = some-area c.area_at.result trusted (sym c.area_at.ensures ∙ there) in
    let o-same : c.area_at-2.result ≡ other = some-area c.area_at-2.result other (sym c.area_at-2.ensures ∙ ap (slice_get c.args.map.now) c.other_place-other.ensures ∙ beside) in
    let on_it : g.K.Backend.mounted_on c.in-Ok.side.store ≡ trusted = c.in-Ok.ensures.ends.3.here ∙ c.in-Ok.ensures.ends.1 ∙ same in
    let was : on g.K.Backend.damage d trusted ≡ None = subst (λ (x : Area). on g.K.Backend.damage d x ≡ None) same c.in-Ok.ensures.ends.0 in
    let two = other-done g.K.Backend.damage g.K.Backend.contents g.K.Backend.rests m e c.area_at-2.result other (g.K.Backend.mounted_on c.in-Ok.side.store) trusted o-same on_it c.open_other-opened.ensures.touches.banks c.open_other-opened.ensures.trusted
    c.open_other-opened.ensures.held c.open_other-opened.ensures.idle c.open_other-opened.ensures.at_most in
    let fits = c.in-Ok-look_for_both.ensures in
    let settings : on g.K.Backend.contents m c.in-Ok.side.area ≡ on g.K.Backend.contents m trusted = ap (on g.K.Backend.contents m) (c.in-Ok.ensures.ends.1 ∙ same) in
    other-stops g.K.Backend.damage g.K.Backend.contents g.K.Backend.rests g.K.Backend.mounted_on g.K.Backend.stands g.K.Backend.room g.K.Priced.prices c.args.map.now d m trusted other c.args.place one e two c.area_at-2.result (on g.K.Backend.contents e c.area_at-2.result ≡ on g.K.Backend.contents m (g.K.Backend.mounted_on c.in-Ok.side.store)) c.in-Err-opened.fault was c.in-Err-opened.ensures.ends
    (subst (λ (x : Map). FitsAt g.K.Backend.room g.K.Priced.prices c.args.map.now m c.args.place x) settings (subst (λ (n : ℕ). FitsAt g.K.Backend.room g.K.Priced.prices c.args.map.now m n (on g.K.Backend.contents m c.in-Ok.side.area)) c.in-Ok.ensures.ends.2 fits.0))
    (subst (λ (x : Map). FitsAt g.K.Backend.room g.K.Priced.prices c.args.map.now m (other_place c.args.map.now c.args.place) x) settings (subst (λ (n : ℕ). FitsAt g.K.Backend.room g.K.Priced.prices c.args.map.now m n (on g.K.Backend.contents m c.in-Ok.side.area)) c.other_place-other.ensures fits.1))

pub returns-in-Err-clause-owes : goal.returns-in-Err-clause-owes
returns-in-Err-clause-owes g c trusted other there beside =
    let d : Device = g.F.Flash.device c.args.flash.now in
    let m : Device = g.F.Flash.device c.mount_side-side.new.flash in
    let same : c.area_at.result ≡ trusted = some-area c.area_at.result trusted (sym c.area_at.ensures ∙ there) in
    let one = side-done g.K.Backend.damage g.K.Backend.contents g.K.Backend.rests g.K.Backend.serves c.args.map.now d c.requires.map m c.args.place c.area_at.result trusted other (mount_lost c.mount_side-side.result) c.area_at.ensures there beside
    (g.met.F.Flash.is_lawful c.args.flash.now) (g.met.F.Flash.is_lawful c.mount_side-side.new.flash) c.mount_side-side.ensures.touches c.mount_side-side.ensures.sound c.mount_side-side.ensures.keeps c.mount_side-side.ensures.rests c.mount_side-side.ensures.written c.mount_side-side.ensures.units.at_most in
    let units : MountUnits g.K.Backend.owes (foreign_units (geometry_of d trusted)) d m trusted = subst (λ (x : Area). MountUnits g.K.Backend.owes (foreign_units (geometry_of d x)) d m x) same c.mount_side-side.ensures.units in
    owed-first g.K.Backend.owes g.K.Backend.damage g.K.Backend.contents g.K.Backend.rests (foreign_units (geometry_of d trusted)) d m trusted other one units

pub returns-in-Err-look_for_both-clause-owes : goal.returns-in-Err-look_for_both-clause-owes
returns-in-Err-look_for_both-clause-owes g c trusted other there beside =
    let d : Device = g.F.Flash.device c.args.flash.now in
    let m : Device = g.F.Flash.device c.mount_side-side.new.flash in
    let same : c.area_at.result ≡ trusted = some-area c.area_at.result trusted (sym c.area_at.ensures ∙ there) in
    let one = side-done g.K.Backend.damage g.K.Backend.contents g.K.Backend.rests g.K.Backend.serves c.args.map.now d c.requires.map m c.args.place c.area_at.result trusted other (mount_lost c.mount_side-side.result) c.area_at.ensures there beside
    (g.met.F.Flash.is_lawful c.args.flash.now) (g.met.F.Flash.is_lawful c.mount_side-side.new.flash) c.mount_side-side.ensures.touches c.mount_side-side.ensures.sound c.mount_side-side.ensures.keeps c.mount_side-side.ensures.rests c.mount_side-side.ensures.written c.mount_side-side.ensures.units.at_most in
    let units : MountUnits g.K.Backend.owes (foreign_units (geometry_of d trusted)) d m trusted = subst (λ (x : Area). MountUnits g.K.Backend.owes (foreign_units (geometry_of d x)) d m x) same c.mount_side-side.ensures.units in
    owed-first g.K.Backend.owes g.K.Backend.damage g.K.Backend.contents g.K.Backend.rests (foreign_units (geometry_of d trusted)) d m trusted other one units

pub returns-in-Ok-opened-clause-owes : goal.returns-in-Ok-opened-clause-owes
returns-in-Ok-opened-clause-owes g c trusted other there beside =
    let d : Device = g.F.Flash.device c.args.flash.now in
    let m : Device = g.F.Flash.device c.mount_side-side.new.flash in
    let one = side-done g.K.Backend.damage g.K.Backend.contents g.K.Backend.rests g.K.Backend.serves c.args.map.now d c.requires.map m c.args.place c.area_at.result trusted other (mount_lost c.mount_side-side.result) c.area_at.ensures there beside
    (g.met.F.Flash.is_lawful c.args.flash.now) (g.met.F.Flash.is_lawful c.mount_side-side.new.flash) c.mount_side-side.ensures.touches c.mount_side-side.ensures.sound c.mount_side-side.ensures.keeps c.mount_side-side.ensures.rests c.mount_side-side.ensures.written c.mount_side-side.ensures.units.at_most in
    let e : Device = g.F.Flash.device c.open_other-opened.new.flash in
    let same : c.area_at.result ≡ trusted = some-area c.area_at.result trusted (sym c.area_at.ensures ∙ there) in
    let o-same : c.area_at-2.result ≡ other = some-area c.area_at-2.result other (sym c.area_at-2.ensures ∙ ap (slice_get c.args.map.now) c.other_place-other.ensures ∙ beside) in
    let on_it : g.K.Backend.mounted_on c.in-Ok.side.store ≡ trusted = c.in-Ok.ensures.ends.3.here ∙ c.in-Ok.ensures.ends.1 ∙ same in
    let was : on g.K.Backend.damage d trusted ≡ None = subst (λ (x : Area). on g.K.Backend.damage d x ≡ None) same c.in-Ok.ensures.ends.0 in
    let two = other-done g.K.Backend.damage g.K.Backend.contents g.K.Backend.rests m e c.area_at-2.result other (g.K.Backend.mounted_on c.in-Ok.side.store) trusted o-same on_it c.open_other-opened.ensures.touches.banks c.open_other-opened.ensures.trusted
    c.open_other-opened.ensures.held c.open_other-opened.ensures.idle c.open_other-opened.ensures.at_most in
    let units : MountUnits g.K.Backend.owes (foreign_units (geometry_of d trusted)) d m trusted = subst (λ (x : Area). MountUnits g.K.Backend.owes (foreign_units (geometry_of d x)) d m x) same c.mount_side-side.ensures.units in
    let opens : OpensOwed g.K.Backend.owes g.K.Backend.damage g.K.Backend.contents m e other (on g.K.Backend.contents m trusted) =
    subst (λ (y : Area). OpensOwed g.K.Backend.owes g.K.Backend.damage g.K.Backend.contents m e other (on g.K.Backend.contents m y)) on_it
    (subst (λ (x : Area). OpensOwed g.K.Backend.owes g.K.Backend.damage g.K.Backend.contents m e x (on g.K.Backend.contents m (g.K.Backend.mounted_on c.in-Ok.side.store))) o-same c.open_other-opened.ensures.owes) in
    owed-then g.K.Backend.owes g.K.Backend.damage g.K.Backend.contents g.K.Backend.rests (foreign_units (geometry_of d trusted)) d m e trusted other one two units opens was

pub returns-in-Err-opened-clause-owes : goal.returns-in-Err-opened-clause-owes
returns-in-Err-opened-clause-owes g c trusted other there beside =
    let d : Device = g.F.Flash.device c.args.flash.now in
    let m : Device = g.F.Flash.device c.mount_side-side.new.flash in
    let one = side-done g.K.Backend.damage g.K.Backend.contents g.K.Backend.rests g.K.Backend.serves c.args.map.now d c.requires.map m c.args.place c.area_at.result trusted other (mount_lost c.mount_side-side.result) c.area_at.ensures there beside
    (g.met.F.Flash.is_lawful c.args.flash.now) (g.met.F.Flash.is_lawful c.mount_side-side.new.flash) c.mount_side-side.ensures.touches c.mount_side-side.ensures.sound c.mount_side-side.ensures.keeps c.mount_side-side.ensures.rests c.mount_side-side.ensures.written c.mount_side-side.ensures.units.at_most in
    let e : Device = g.F.Flash.device c.open_other-opened.new.flash in
    let same : c.area_at.result ≡ trusted = some-area c.area_at.result trusted (sym c.area_at.ensures ∙ there) in
    let o-same : c.area_at-2.result ≡ other = some-area c.area_at-2.result other (sym c.area_at-2.ensures ∙ ap (slice_get c.args.map.now) c.other_place-other.ensures ∙ beside) in
    let on_it : g.K.Backend.mounted_on c.in-Ok.side.store ≡ trusted = c.in-Ok.ensures.ends.3.here ∙ c.in-Ok.ensures.ends.1 ∙ same in
    let was : on g.K.Backend.damage d trusted ≡ None = subst (λ (x : Area). on g.K.Backend.damage d x ≡ None) same c.in-Ok.ensures.ends.0 in
    let two = other-done g.K.Backend.damage g.K.Backend.contents g.K.Backend.rests m e c.area_at-2.result other (g.K.Backend.mounted_on c.in-Ok.side.store) trusted o-same on_it c.open_other-opened.ensures.touches.banks c.open_other-opened.ensures.trusted
    c.open_other-opened.ensures.held c.open_other-opened.ensures.idle c.open_other-opened.ensures.at_most in
    let units : MountUnits g.K.Backend.owes (foreign_units (geometry_of d trusted)) d m trusted = subst (λ (x : Area). MountUnits g.K.Backend.owes (foreign_units (geometry_of d x)) d m x) same c.mount_side-side.ensures.units in
    let opens : OpensOwed g.K.Backend.owes g.K.Backend.damage g.K.Backend.contents m e other (on g.K.Backend.contents m trusted) =
    subst (λ (y : Area). OpensOwed g.K.Backend.owes g.K.Backend.damage g.K.Backend.contents m e other (on g.K.Backend.contents m y)) on_it
    (subst (λ (x : Area). OpensOwed g.K.Backend.owes g.K.Backend.damage g.K.Backend.contents m e x (on g.K.Backend.contents m (g.K.Backend.mounted_on c.in-Ok.side.store))) o-same c.open_other-opened.ensures.owes) in
    owed-then g.K.Backend.owes g.K.Backend.damage g.K.Backend.contents g.K.Backend.rests (foreign_units (geometry_of d trusted)) d m e trusted other one two units opens was
