use Rattle.std.proofs.Common.{◌≡◌, ◌<◌, ℕ, Bool, true, false, List, [], ◌∷◌, length, Result, Ok, Err, Some, None, sym, ap, subst, ◌∙◌}
use Rattle.flash_sim.specs.Device.{Device}
use Rattle.flash_map.specs.declared.area.Area.{Area}
use Rattle.flash_map.specs.Touches.{Touches}
use Rattle.flash_map.proofs.Touches.{then}
use Rattle.flash_map.specs.Spending.{SpendsAtMost}
use Rattle.fcb_ring.specs.Standing.{IsRingArea, KeepsEntries, erases_on, ring_damage}
use Rattle.migrator.specs.Active.{active_in, active_on}
use Rattle.migrator.specs.Areas.{is_store_at, selector_of}
use Rattle.migrator.specs.declared.selecting.Selector.{Selector}
use Rattle.migrator.proofs.Migration.{active-on}
use Rattle.mirror.specs.declared.mounting.MirrorMount.{MirrorMount}
use Rattle.mirror.specs.Mounting.{NameEnds, TrustEnds, mount_lost}
use Rattle.mirror.specs.Naming.{SparesRecords}
use Rattle.mirror.specs.Trusted.{trusted_on}
use Rattle.std.proofs.lemmas.Bool.{false≢true}
use Rattle.mirror.proofs.MountSteps.{fault-lost}
use Rattle.mirror.proofs.OwingSteps.{due-less, due-then}
use Rattle.mirror.proofs.TrustSteps.{active-stores, damage-with, open-rests, records-fault, records-then, selector-here, selector-most, selector-ring, selector-within, trust-cut, trust-fault, trust-first, trust-named, trust-then, trusted-beside}
use Rattle.mirror.proofs.trusting.trust.Goals as goal

some-area : (x y : Area) → Some x ≡ Some y → x ≡ y
some-area x y e = cc

pub area_at-requires : goal.area_at-requires
area_at-requires g c =
    subst (λ (n : ℕ). n < length c.args.map.now) (sym c.selector_place-place.ensures) (selector-within c.args.map.now c.requires.map.selector c.requires.map.selected)

pub mount-requires : goal.mount-requires
mount-requires g c =
    let d : Device = g.F.Flash.device c.args.flash.now in
    let here = selector-here c.args.map.now c.requires.map.selector c.area_at.result c.selector_place-place.result c.requires.map.selected c.selector_place-place.ensures c.area_at.ensures in
    subst (λ (x : Area). IsRingArea d.banks x) (sym here) (selector-ring g.K.Backend.serves c.args.map.now d c.requires.map)

pub returns-in-Err-clause-touches : goal.returns-in-Err-clause-touches
returns-in-Err-clause-touches g c selector is =
    let d : Device = g.F.Flash.device c.args.flash.now in
    let m : Device = g.F.Flash.device c.mount.new.flash in
    let here : c.area_at.result ≡ selector = selector-here c.args.map.now selector c.area_at.result c.selector_place-place.result is c.selector_place-place.ensures c.area_at.ensures in
    subst (λ (x : Area). Touches (x ∷ []) d m (mount_lost {T = ℕ} (Err c.fault_at.result))) here
    (subst (λ (lost : Bool). Touches (c.area_at.result ∷ []) d m lost) (fault-lost Selector ℕ c.selector_place-place.result c.in-Err.fault c.fault_at.result c.fault_at.ensures) c.in-Err.ensures.touches)

pub returns-in-Err-clause-ends : goal.returns-in-Err-clause-ends
returns-in-Err-clause-ends g c =
    let d : Device = g.F.Flash.device c.args.flash.now in
    let m : Device = g.F.Flash.device c.mount.new.flash in
    let here = selector-here c.args.map.now c.requires.map.selector c.area_at.result c.selector_place-place.result c.requires.map.selected c.selector_place-place.ensures c.area_at.ensures in
    let selected : selector_of c.args.map.now ≡ Some c.area_at.result = c.requires.map.selected ∙ ap (λ (x : Area). Some x) (sym here) in
    subst (λ (f : MirrorMount). TrustEnds c.args.map.now d m (Err f)) (sym c.fault_at.ensures)
    (trust-fault c.args.map.now d c.area_at.result selected m c.selector_place-place.result c.mount.result c.in-Err.fault c.in-Err.is c.selector_place-place.ensures c.mount.ensures.ends c.mount.ensures.sound (λ none. c.mount.ensures.active none c.args.map.now))

pub trusted_with-trusted-requires-clause-store : goal.trusted_with-trusted-requires-clause-store
trusted_with-trusted-requires-clause-store g c =
    let d : Device = g.F.Flash.device c.args.flash.now in
    let m : Device = g.F.Flash.device c.mount.new.flash in
    subst (λ (n : ℕ). is_store_at c.args.map.now n ≡ true) (sym c.active-active.ensures) (active-stores g.K.Backend.serves c.args.map.now d c.requires.map m c.in-Ok.selector.ring.area)

pub returns-in-Ok-name_trusted-clause-touches : goal.returns-in-Ok-name_trusted-clause-touches
returns-in-Ok-name_trusted-clause-touches g c selector is =
    let d : Device = g.F.Flash.device c.args.flash.now in
    let m : Device = g.F.Flash.device c.mount.new.flash in
    let e : Device = g.F.Flash.device c.name_trusted.new.flash in
    let here : c.area_at.result ≡ selector = selector-here c.args.map.now selector c.area_at.result c.selector_place-place.result is c.selector_place-place.ensures c.area_at.ensures in
    then (subst (λ (x : Area). Touches (x ∷ []) d m false) here c.in-Ok.ensures.touches)
    (subst (λ (x : Area). Touches (x ∷ []) m e false) (c.in-Ok.ensures.ends.2 ∙ here) c.in-Ok-name_trusted.ensures.touches)

pub returns-in-Err-name_trusted-clause-touches : goal.returns-in-Err-name_trusted-clause-touches
returns-in-Err-name_trusted-clause-touches g c selector is =
    let d : Device = g.F.Flash.device c.args.flash.now in
    let m : Device = g.F.Flash.device c.mount.new.flash in
    let e : Device = g.F.Flash.device c.name_trusted.new.flash in
    let here : c.area_at.result ≡ selector = selector-here c.args.map.now selector c.area_at.result c.selector_place-place.result is c.selector_place-place.ensures c.area_at.ensures in
    then (subst (λ (x : Area). Touches (x ∷ []) d m false) here c.in-Ok.ensures.touches)
    (subst (λ (x : Area). Touches (x ∷ []) m e true) (c.in-Ok.ensures.ends.2 ∙ here) c.in-Err-name_trusted.ensures.touches)

pub returns-in-Ok-name_trusted-clause-ends : goal.returns-in-Ok-name_trusted-clause-ends
returns-in-Ok-name_trusted-clause-ends g c =
    let d : Device = g.F.Flash.device c.args.flash.now in
    let m : Device = g.F.Flash.device c.mount.new.flash in
    let e : Device = g.F.Flash.device c.name_trusted.new.flash in
    let here = selector-here c.args.map.now c.requires.map.selector c.area_at.result c.selector_place-place.result c.requires.map.selected c.selector_place-place.ensures c.area_at.ensures in
    let same : c.in-Ok.selector.ring.area ≡ c.area_at.result = c.in-Ok.ensures.ends.2 in
    let selected : selector_of c.args.map.now ≡ Some c.in-Ok.selector.ring.area = c.requires.map.selected ∙ ap (λ (x : Area). Some x) (sym (same ∙ here)) in
    let none : ring_damage d c.in-Ok.selector.ring.area ≡ None = ap (ring_damage d) same ∙ c.in-Ok.ensures.ends.0 in
    let active : active_in c.args.map.now m c.in-Ok.selector.ring.area ≡ active_in c.args.map.now d c.in-Ok.selector.ring.area =
    ap (active_in c.args.map.now m) same ∙ c.mount.ensures.active c.in-Ok.ensures.ends.0 c.args.map.now ∙ ap (active_in c.args.map.now d) (sym same) in
    let is = c.trusted_with-trusted.ensures.trusted
    ∙ trusted-beside g.K.Backend.serves c.args.map.now d m c.in-Ok.selector.ring.area false c.requires.map selected (g.met.F.Flash.is_lawful c.args.flash.now) (g.met.F.Flash.is_lawful c.mount.new.flash) (subst (λ (x : Area). Touches (x ∷ []) d m false) (sym same) c.in-Ok.ensures.touches)
    c.active-active.result (c.active-active.ensures ∙ active ∙ sym (active-on c.args.map.now d c.in-Ok.selector.ring.area selected))
    (subst (λ (n : ℕ). is_store_at c.args.map.now n ≡ true) (sym c.active-active.ensures) (active-stores g.K.Backend.serves c.args.map.now d c.requires.map m c.in-Ok.selector.ring.area)) in
    trust-named c.args.map.now d c.in-Ok.selector.ring.area selected m e c.trusted_with-trusted.result none is c.in-Ok-name_trusted.ensures.ends
    (open-rests e c.name_trusted.new.selector.ring c.in-Ok.selector.ring.area c.name_trusted.ensures.area c.in-Ok-name_trusted.ensures.opened)

pub returns-in-Err-name_trusted-clause-ends : goal.returns-in-Err-name_trusted-clause-ends
returns-in-Err-name_trusted-clause-ends g c =
    let d : Device = g.F.Flash.device c.args.flash.now in
    let m : Device = g.F.Flash.device c.mount.new.flash in
    let e : Device = g.F.Flash.device c.name_trusted.new.flash in
    let here = selector-here c.args.map.now c.requires.map.selector c.area_at.result c.selector_place-place.result c.requires.map.selected c.selector_place-place.ensures c.area_at.ensures in
    let same : c.in-Ok.selector.ring.area ≡ c.area_at.result = c.in-Ok.ensures.ends.2 in
    let selected : selector_of c.args.map.now ≡ Some c.in-Ok.selector.ring.area = c.requires.map.selected ∙ ap (λ (x : Area). Some x) (sym (same ∙ here)) in
    let none : ring_damage d c.in-Ok.selector.ring.area ≡ None = ap (ring_damage d) same ∙ c.in-Ok.ensures.ends.0 in
    let active : active_in c.args.map.now m c.in-Ok.selector.ring.area ≡ active_in c.args.map.now d c.in-Ok.selector.ring.area =
    ap (active_in c.args.map.now m) same ∙ c.mount.ensures.active c.in-Ok.ensures.ends.0 c.args.map.now ∙ ap (active_in c.args.map.now d) (sym same) in
    let is = c.trusted_with-trusted.ensures.trusted
    ∙ trusted-beside g.K.Backend.serves c.args.map.now d m c.in-Ok.selector.ring.area false c.requires.map selected (g.met.F.Flash.is_lawful c.args.flash.now) (g.met.F.Flash.is_lawful c.mount.new.flash) (subst (λ (x : Area). Touches (x ∷ []) d m false) (sym same) c.in-Ok.ensures.touches)
    c.active-active.result (c.active-active.ensures ∙ active ∙ sym (active-on c.args.map.now d c.in-Ok.selector.ring.area selected))
    (subst (λ (n : ℕ). is_store_at c.args.map.now n ≡ true) (sym c.active-active.ensures) (active-stores g.K.Backend.serves c.args.map.now d c.requires.map m c.in-Ok.selector.ring.area)) in
    trust-cut c.args.map.now d c.in-Ok.selector.ring.area selected m e c.trusted_with-trusted.result none is active c.in-Err-name_trusted.ensures.ends

pub returns-in-Err-clause-idle : goal.returns-in-Err-clause-idle
returns-in-Err-clause-idle g c rests first =
    let here = selector-here c.args.map.now c.requires.map.selector c.area_at.result c.selector_place-place.result c.requires.map.selected c.selector_place-place.ensures c.area_at.ensures in
    c.mount.ensures.idle (rests c.area_at.result (c.requires.map.selected ∙ ap (λ (x : Area). Some x) (sym here)))

pub returns-in-Ok-name_trusted-clause-idle : goal.returns-in-Ok-name_trusted-clause-idle
returns-in-Ok-name_trusted-clause-idle g c rests first =
    let d : Device = g.F.Flash.device c.args.flash.now in
    let m : Device = g.F.Flash.device c.mount.new.flash in
    let here = selector-here c.args.map.now c.requires.map.selector c.area_at.result c.selector_place-place.result c.requires.map.selected c.selector_place-place.ensures c.area_at.ensures in
    let same : c.in-Ok.selector.ring.area ≡ c.area_at.result = c.in-Ok.ensures.ends.2 in
    let selected : selector_of c.args.map.now ≡ Some c.in-Ok.selector.ring.area = c.requires.map.selected ∙ ap (λ (x : Area). Some x) (sym (same ∙ here)) in
    let active : active_in c.args.map.now m c.in-Ok.selector.ring.area ≡ active_in c.args.map.now d c.in-Ok.selector.ring.area =
    ap (active_in c.args.map.now m) same ∙ c.mount.ensures.active c.in-Ok.ensures.ends.0 c.args.map.now ∙ ap (active_in c.args.map.now d) (sym same) in
    let is = c.trusted_with-trusted.ensures.trusted
    ∙ trusted-beside g.K.Backend.serves c.args.map.now d m c.in-Ok.selector.ring.area false c.requires.map selected (g.met.F.Flash.is_lawful c.args.flash.now) (g.met.F.Flash.is_lawful c.mount.new.flash) (subst (λ (x : Area). Touches (x ∷ []) d m false) (sym same) c.in-Ok.ensures.touches)
    c.active-active.result (c.active-active.ensures ∙ active ∙ sym (active-on c.args.map.now d c.in-Ok.selector.ring.area selected))
    (subst (λ (n : ℕ). is_store_at c.args.map.now n ≡ true) (sym c.active-active.ensures) (active-stores g.K.Backend.serves c.args.map.now d c.requires.map m c.in-Ok.selector.ring.area)) in
    let named : c.active-active.result ≡ c.trusted_with-trusted.result = c.active-active.ensures ∙ active ∙ sym (active-on c.args.map.now d c.in-Ok.selector.ring.area selected) ∙ first ∙ sym is in
    c.name_trusted.ensures.idle named ∙ c.mount.ensures.idle (rests c.area_at.result (c.requires.map.selected ∙ ap (λ (x : Area). Some x) (sym here)))

pub returns-in-Err-name_trusted-clause-idle : goal.returns-in-Err-name_trusted-clause-idle
returns-in-Err-name_trusted-clause-idle g c rests first =
    let d : Device = g.F.Flash.device c.args.flash.now in
    let m : Device = g.F.Flash.device c.mount.new.flash in
    let here = selector-here c.args.map.now c.requires.map.selector c.area_at.result c.selector_place-place.result c.requires.map.selected c.selector_place-place.ensures c.area_at.ensures in
    let same : c.in-Ok.selector.ring.area ≡ c.area_at.result = c.in-Ok.ensures.ends.2 in
    let selected : selector_of c.args.map.now ≡ Some c.in-Ok.selector.ring.area = c.requires.map.selected ∙ ap (λ (x : Area). Some x) (sym (same ∙ here)) in
    let active : active_in c.args.map.now m c.in-Ok.selector.ring.area ≡ active_in c.args.map.now d c.in-Ok.selector.ring.area =
    ap (active_in c.args.map.now m) same ∙ c.mount.ensures.active c.in-Ok.ensures.ends.0 c.args.map.now ∙ ap (active_in c.args.map.now d) (sym same) in
    let is = c.trusted_with-trusted.ensures.trusted
    ∙ trusted-beside g.K.Backend.serves c.args.map.now d m c.in-Ok.selector.ring.area false c.requires.map selected (g.met.F.Flash.is_lawful c.args.flash.now) (g.met.F.Flash.is_lawful c.mount.new.flash) (subst (λ (x : Area). Touches (x ∷ []) d m false) (sym same) c.in-Ok.ensures.touches)
    c.active-active.result (c.active-active.ensures ∙ active ∙ sym (active-on c.args.map.now d c.in-Ok.selector.ring.area selected))
    (subst (λ (n : ℕ). is_store_at c.args.map.now n ≡ true) (sym c.active-active.ensures) (active-stores g.K.Backend.serves c.args.map.now d c.requires.map m c.in-Ok.selector.ring.area)) in
    let named : c.active-active.result ≡ c.trusted_with-trusted.result = c.active-active.ensures ∙ active ∙ sym (active-on c.args.map.now d c.in-Ok.selector.ring.area selected) ∙ first ∙ sym is in
    c.name_trusted.ensures.idle named ∙ c.mount.ensures.idle (rests c.area_at.result (c.requires.map.selected ∙ ap (λ (x : Area). Some x) (sym here)))

pub returns-in-Err-clause-at_most : goal.returns-in-Err-clause-at_most
returns-in-Err-clause-at_most g c selector is =
    let d : Device = g.F.Flash.device c.args.flash.now in
    let m : Device = g.F.Flash.device c.mount.new.flash in
    let here : c.area_at.result ≡ selector = selector-here c.args.map.now selector c.area_at.result c.selector_place-place.result is c.selector_place-place.ensures c.area_at.ensures in
    trust-first d m c.area_at.result selector here (selector-most d m c.area_at.result c.mount.result c.mount.ensures.ends c.mount.ensures.units c.mount.ensures.bound)

pub returns-in-Ok-name_trusted-clause-at_most : goal.returns-in-Ok-name_trusted-clause-at_most
returns-in-Ok-name_trusted-clause-at_most g c selector is =
    let d : Device = g.F.Flash.device c.args.flash.now in
    let m : Device = g.F.Flash.device c.mount.new.flash in
    let here : c.area_at.result ≡ selector = selector-here c.args.map.now selector c.area_at.result c.selector_place-place.result is c.selector_place-place.ensures c.area_at.ensures in
    trust-then d m (g.F.Flash.device c.name_trusted.new.flash) c.area_at.result c.in-Ok.selector.ring.area selector c.in-Ok.ensures.touches.banks here (c.in-Ok.ensures.ends.2 ∙ here)
    (selector-most d m c.area_at.result c.mount.result c.mount.ensures.ends c.mount.ensures.units c.mount.ensures.bound) c.name_trusted.ensures.at_most

pub returns-in-Err-name_trusted-clause-at_most : goal.returns-in-Err-name_trusted-clause-at_most
returns-in-Err-name_trusted-clause-at_most g c selector is =
    let d : Device = g.F.Flash.device c.args.flash.now in
    let m : Device = g.F.Flash.device c.mount.new.flash in
    let here : c.area_at.result ≡ selector = selector-here c.args.map.now selector c.area_at.result c.selector_place-place.result is c.selector_place-place.ensures c.area_at.ensures in
    trust-then d m (g.F.Flash.device c.name_trusted.new.flash) c.area_at.result c.in-Ok.selector.ring.area selector c.in-Ok.ensures.touches.banks here (c.in-Ok.ensures.ends.2 ∙ here)
    (selector-most d m c.area_at.result c.mount.result c.mount.ensures.ends c.mount.ensures.units c.mount.ensures.bound) c.name_trusted.ensures.at_most

pub returns-in-Err-clause-records : goal.returns-in-Err-clause-records
returns-in-Err-clause-records g c selector is none =
    let d : Device = g.F.Flash.device c.args.flash.now in
    let m : Device = g.F.Flash.device c.mount.new.flash in
    let here : c.area_at.result ≡ selector = selector-here c.args.map.now selector c.area_at.result c.selector_place-place.result is c.selector_place-place.ensures c.area_at.ensures in
    let sound : ring_damage d c.area_at.result ≡ None = ap (ring_damage d) here ∙ sym (damage-with c.args.map.now d selector is) ∙ none in
    subst (λ (x : Area). SparesRecords c.args.map.now (mount_lost {T = ℕ} (Err c.fault_at.result)) d m x) here
    (records-fault c.args.map.now d m c.area_at.result sound (c.mount.ensures.list sound) c.mount.result c.in-Err.fault (mount_lost {T = ℕ} (Err c.fault_at.result)) c.in-Err.is
    (fault-lost Selector ℕ c.selector_place-place.result c.in-Err.fault c.fault_at.result c.fault_at.ensures) c.mount.ensures.ends)

pub returns-in-Ok-name_trusted-clause-records : goal.returns-in-Ok-name_trusted-clause-records
returns-in-Ok-name_trusted-clause-records g c selector given none =
    let d : Device = g.F.Flash.device c.args.flash.now in
    let m : Device = g.F.Flash.device c.mount.new.flash in
    let e : Device = g.F.Flash.device c.name_trusted.new.flash in
    let areas = c.args.map.now in
    let at : c.area_at.result ≡ selector = selector-here areas selector c.area_at.result c.selector_place-place.result given c.selector_place-place.ensures c.area_at.ensures in
    let here : c.in-Ok.selector.ring.area ≡ selector = c.in-Ok.ensures.ends.2 ∙ at in
    let first : Touches (selector ∷ []) d m false = subst (λ (x : Area). Touches (x ∷ []) d m false) at c.in-Ok.ensures.touches in
    let active : c.active-active.result ≡ active_on areas d = c.active-active.ensures ∙ ap (active_in areas m) c.in-Ok.ensures.ends.2 ∙ c.mount.ensures.active c.in-Ok.ensures.ends.0 areas ∙ ap (active_in areas d) at ∙ sym (active-on areas d selector given) in
    let stores : is_store_at areas c.active-active.result ≡ true = subst (λ (n : ℕ). is_store_at areas n ≡ true) (sym c.active-active.ensures) (active-stores g.K.Backend.serves areas d c.requires.map m c.in-Ok.selector.ring.area) in
    let is : c.trusted_with-trusted.result ≡ trusted_on areas d = c.trusted_with-trusted.ensures.trusted
    ∙ trusted-beside g.K.Backend.serves areas d m selector false c.requires.map given (g.met.F.Flash.is_lawful c.args.flash.now) (g.met.F.Flash.is_lawful c.mount.new.flash) first c.active-active.result active stores in
    let list : KeepsEntries d m selector = subst (λ (x : Area). KeepsEntries d m x) at (c.mount.ensures.list c.in-Ok.ensures.ends.0) in
    records-then areas d m selector (sym (damage-with areas d selector given) ∙ none) list e c.in-Ok.selector.ring c.active-active.result c.trusted_with-trusted.result false first.banks c.in-Ok-name_trusted.ensures.touches.banks here c.in-Ok.ensures.ends.1 active is
    c.name_trusted.ensures.idle (λ whole differs. c.in-Ok-name_trusted.ensures.chosen differs)

pub returns-in-Err-name_trusted-clause-records : goal.returns-in-Err-name_trusted-clause-records
returns-in-Err-name_trusted-clause-records g c selector given none =
    let d : Device = g.F.Flash.device c.args.flash.now in
    let m : Device = g.F.Flash.device c.mount.new.flash in
    let e : Device = g.F.Flash.device c.name_trusted.new.flash in
    let areas = c.args.map.now in
    let at : c.area_at.result ≡ selector = selector-here areas selector c.area_at.result c.selector_place-place.result given c.selector_place-place.ensures c.area_at.ensures in
    let here : c.in-Ok.selector.ring.area ≡ selector = c.in-Ok.ensures.ends.2 ∙ at in
    let first : Touches (selector ∷ []) d m false = subst (λ (x : Area). Touches (x ∷ []) d m false) at c.in-Ok.ensures.touches in
    let active : c.active-active.result ≡ active_on areas d = c.active-active.ensures ∙ ap (active_in areas m) c.in-Ok.ensures.ends.2 ∙ c.mount.ensures.active c.in-Ok.ensures.ends.0 areas ∙ ap (active_in areas d) at ∙ sym (active-on areas d selector given) in
    let stores : is_store_at areas c.active-active.result ≡ true = subst (λ (n : ℕ). is_store_at areas n ≡ true) (sym c.active-active.ensures) (active-stores g.K.Backend.serves areas d c.requires.map m c.in-Ok.selector.ring.area) in
    let is : c.trusted_with-trusted.result ≡ trusted_on areas d = c.trusted_with-trusted.ensures.trusted
    ∙ trusted-beside g.K.Backend.serves areas d m selector false c.requires.map given (g.met.F.Flash.is_lawful c.args.flash.now) (g.met.F.Flash.is_lawful c.mount.new.flash) first c.active-active.result active stores in
    let list : KeepsEntries d m selector = subst (λ (x : Area). KeepsEntries d m x) at (c.mount.ensures.list c.in-Ok.ensures.ends.0) in
    records-then areas d m selector (sym (damage-with areas d selector given) ∙ none) list e c.in-Ok.selector.ring c.active-active.result c.trusted_with-trusted.result true first.banks c.in-Err-name_trusted.ensures.touches.banks here c.in-Ok.ensures.ends.1 active is
    c.name_trusted.ensures.idle (λ whole. absurd (false≢true (sym whole)))

pub returns-in-Err-clause-named : goal.returns-in-Err-clause-named
returns-in-Err-clause-named g c given selects first =
    let d : Device = g.F.Flash.device c.args.flash.now in
    let m : Device = g.F.Flash.device c.mount.new.flash in
    let at : c.area_at.result ≡ given = selector-here c.args.map.now given c.area_at.result c.selector_place-place.result selects c.selector_place-place.ensures c.area_at.ensures in
    subst (λ (x : Area). SpendsAtMost d m (erases_on d x)) at (selector-most d m c.area_at.result c.mount.result c.mount.ensures.ends c.mount.ensures.units c.mount.ensures.bound)

pub returns-in-Ok-name_trusted-clause-named : goal.returns-in-Ok-name_trusted-clause-named
returns-in-Ok-name_trusted-clause-named g c given selects first =
    let d : Device = g.F.Flash.device c.args.flash.now in
    let m : Device = g.F.Flash.device c.mount.new.flash in
    let here = selector-here c.args.map.now c.requires.map.selector c.area_at.result c.selector_place-place.result c.requires.map.selected c.selector_place-place.ensures c.area_at.ensures in
    let same : c.in-Ok.selector.ring.area ≡ c.area_at.result = c.in-Ok.ensures.ends.2 in
    let selected : selector_of c.args.map.now ≡ Some c.in-Ok.selector.ring.area = c.requires.map.selected ∙ ap (λ (x : Area). Some x) (sym (same ∙ here)) in
    let active : active_in c.args.map.now m c.in-Ok.selector.ring.area ≡ active_in c.args.map.now d c.in-Ok.selector.ring.area =
    ap (active_in c.args.map.now m) same ∙ c.mount.ensures.active c.in-Ok.ensures.ends.0 c.args.map.now ∙ ap (active_in c.args.map.now d) (sym same) in
    let is = c.trusted_with-trusted.ensures.trusted
    ∙ trusted-beside g.K.Backend.serves c.args.map.now d m c.in-Ok.selector.ring.area false c.requires.map selected (g.met.F.Flash.is_lawful c.args.flash.now) (g.met.F.Flash.is_lawful c.mount.new.flash) (subst (λ (x : Area). Touches (x ∷ []) d m false) (sym same) c.in-Ok.ensures.touches)
    c.active-active.result (c.active-active.ensures ∙ active ∙ sym (active-on c.args.map.now d c.in-Ok.selector.ring.area selected))
    (subst (λ (n : ℕ). is_store_at c.args.map.now n ≡ true) (sym c.active-active.ensures) (active-stores g.K.Backend.serves c.args.map.now d c.requires.map m c.in-Ok.selector.ring.area)) in
    let named : c.active-active.result ≡ c.trusted_with-trusted.result = c.active-active.ensures ∙ active ∙ sym (active-on c.args.map.now d c.in-Ok.selector.ring.area selected) ∙ first ∙ sym is in
    let e : Device = g.F.Flash.device c.name_trusted.new.flash in
    let at : c.area_at.result ≡ given = selector-here c.args.map.now given c.area_at.result c.selector_place-place.result selects c.selector_place-place.ensures c.area_at.ensures in
    let same_device : e ≡ m = c.name_trusted.ensures.idle named in
    subst (λ (x : Area). SpendsAtMost d e (erases_on d x)) at (subst (λ (x : Device). SpendsAtMost d x (erases_on d c.area_at.result)) (sym same_device) (selector-most d m c.area_at.result c.mount.result c.mount.ensures.ends c.mount.ensures.units c.mount.ensures.bound))

pub returns-in-Err-name_trusted-clause-named : goal.returns-in-Err-name_trusted-clause-named
returns-in-Err-name_trusted-clause-named g c given selects first =
    let d : Device = g.F.Flash.device c.args.flash.now in
    let m : Device = g.F.Flash.device c.mount.new.flash in
    let here = selector-here c.args.map.now c.requires.map.selector c.area_at.result c.selector_place-place.result c.requires.map.selected c.selector_place-place.ensures c.area_at.ensures in
    let same : c.in-Ok.selector.ring.area ≡ c.area_at.result = c.in-Ok.ensures.ends.2 in
    let selected : selector_of c.args.map.now ≡ Some c.in-Ok.selector.ring.area = c.requires.map.selected ∙ ap (λ (x : Area). Some x) (sym (same ∙ here)) in
    let active : active_in c.args.map.now m c.in-Ok.selector.ring.area ≡ active_in c.args.map.now d c.in-Ok.selector.ring.area =
    ap (active_in c.args.map.now m) same ∙ c.mount.ensures.active c.in-Ok.ensures.ends.0 c.args.map.now ∙ ap (active_in c.args.map.now d) (sym same) in
    let is = c.trusted_with-trusted.ensures.trusted
    ∙ trusted-beside g.K.Backend.serves c.args.map.now d m c.in-Ok.selector.ring.area false c.requires.map selected (g.met.F.Flash.is_lawful c.args.flash.now) (g.met.F.Flash.is_lawful c.mount.new.flash) (subst (λ (x : Area). Touches (x ∷ []) d m false) (sym same) c.in-Ok.ensures.touches)
    c.active-active.result (c.active-active.ensures ∙ active ∙ sym (active-on c.args.map.now d c.in-Ok.selector.ring.area selected))
    (subst (λ (n : ℕ). is_store_at c.args.map.now n ≡ true) (sym c.active-active.ensures) (active-stores g.K.Backend.serves c.args.map.now d c.requires.map m c.in-Ok.selector.ring.area)) in
    let named : c.active-active.result ≡ c.trusted_with-trusted.result = c.active-active.ensures ∙ active ∙ sym (active-on c.args.map.now d c.in-Ok.selector.ring.area selected) ∙ first ∙ sym is in
    let e : Device = g.F.Flash.device c.name_trusted.new.flash in
    let at : c.area_at.result ≡ given = selector-here c.args.map.now given c.area_at.result c.selector_place-place.result selects c.selector_place-place.ensures c.area_at.ensures in
    let same_device : e ≡ m = c.name_trusted.ensures.idle named in
    subst (λ (x : Area). SpendsAtMost d e (erases_on d x)) at (subst (λ (x : Device). SpendsAtMost d x (erases_on d c.area_at.result)) (sym same_device) (selector-most d m c.area_at.result c.mount.result c.mount.ensures.ends c.mount.ensures.units c.mount.ensures.bound))

pub returns-in-Err-clause-left : goal.returns-in-Err-clause-left
returns-in-Err-clause-left g c given selects =
    let d : Device = g.F.Flash.device c.args.flash.now in
    let m : Device = g.F.Flash.device c.mount.new.flash in
    let at : c.area_at.result ≡ given = selector-here c.args.map.now given c.area_at.result c.selector_place-place.result selects c.selector_place-place.ensures c.area_at.ensures in
    due-less d m c.area_at.result given at c.mount.ensures.left

pub returns-in-Ok-name_trusted-clause-left : goal.returns-in-Ok-name_trusted-clause-left
returns-in-Ok-name_trusted-clause-left g c given selects =
    let d : Device = g.F.Flash.device c.args.flash.now in
    let m : Device = g.F.Flash.device c.mount.new.flash in
    let e : Device = g.F.Flash.device c.name_trusted.new.flash in
    let at : c.area_at.result ≡ given = selector-here c.args.map.now given c.area_at.result c.selector_place-place.result selects c.selector_place-place.ensures c.area_at.ensures in
    due-then d m e c.area_at.result c.in-Ok.selector.ring.area given at (c.in-Ok.ensures.ends.2 ∙ at) c.mount.ensures.left c.name_trusted.ensures.left

pub returns-in-Err-name_trusted-clause-left : goal.returns-in-Err-name_trusted-clause-left
returns-in-Err-name_trusted-clause-left g c given selects =
    let d : Device = g.F.Flash.device c.args.flash.now in
    let m : Device = g.F.Flash.device c.mount.new.flash in
    let e : Device = g.F.Flash.device c.name_trusted.new.flash in
    let at : c.area_at.result ≡ given = selector-here c.args.map.now given c.area_at.result c.selector_place-place.result selects c.selector_place-place.ensures c.area_at.ensures in
    due-then d m e c.area_at.result c.in-Ok.selector.ring.area given at (c.in-Ok.ensures.ends.2 ∙ at) c.mount.ensures.left c.name_trusted.ensures.left
