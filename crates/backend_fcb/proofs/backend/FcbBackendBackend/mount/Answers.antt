use Rattle.std.proofs.Common.{◌+◌, ◌≤◌, ◌≡◌, ◌∷◌, [], None, refl, sym, ap, subst, ◌∙◌, arith}
use Rattle.flash_sim.specs.Device.{Device}
use Rattle.flash_map.specs.declared.area.Area.{Area}
use Rattle.flash_map.specs.declared.area.Geometry.{Geometry}
use Rattle.flash_map.specs.Area.{value_limit, unit_of, sectors_of, geometry_of}
use Rattle.flash_map.specs.Spending.{Spends, SpendsAtMost}
use Rattle.flash_map.proofs.Touches.{untouched}
use Rattle.fcb_ring.specs.Standing.{KeepsEntries}
use Rattle.fcb_ring.proofs.AppendLemmas.{unit-after}
use Rattle.fcb_ring.specs.Rings.{first_damage}
use Rattle.fcb_ring.specs.Standing.{states_on, erases_due, erases_on}
use Rattle.backend_api.specs.Room.{foreign_units}
use Rattle.record_settings.specs.Room.{reserve}
use Rattle.std.specs.Option.{option_map}
use Rattle.backend_fcb.specs.Reading.{first_overfull}
use Rattle.backend_fcb.specs.Standing.{IsReady, damage_on}
use Rattle.backend_fcb.proofs.MountUnits.{mount-most}
use Rattle.backend_fcb.proofs.Ends.{none-more, ring-area, ready-stands, damage-none, overfull-not}
use Rattle.backend_fcb.proofs.PutsCosts.{overfull_at, undamaged-kept}
use Rattle.flash_map.proofs.SpendingLemmas.{most_weaker}
use Rattle.fcb_ring.specs.Standing.{uncounted}
use Rattle.backend_fcb.proofs.DueLemmas.{ready-due, left-due}
use Rattle.backend_fcb.proofs.backend.FcbBackendBackend.mount.Goals as goal

pub returns-in-Err-clause-touches : goal.returns-in-Err-clause-touches
returns-in-Err-clause-touches g c = untouched (c.args.area ∷ []) (g.F.Flash.device c.args.flash.now)

pub returns-in-Err-clause-units : goal.returns-in-Err-clause-units
returns-in-Err-clause-units g c =
    let d : Device = g.F.Flash.device c.args.flash.now in
    record { at_most = none-more d (foreign_units (geometry_of d c.args.area)); owed = λ most owes. none-more d most; left = λ most owes. owes }

pub returns-in-Err-clause-spends : goal.returns-in-Err-clause-spends
returns-in-Err-clause-spends g c =
    let d : Device = g.F.Flash.device c.args.flash.now in
    record {
      exact = tt;
      few = none-more d (erases_on d c.args.area);
    }

pub returns-in-Err-clause-sound : goal.returns-in-Err-clause-sound
returns-in-Err-clause-sound g c = λ none. none

pub returns-in-Err-clause-keeps : goal.returns-in-Err-clause-keeps
returns-in-Err-clause-keeps g c = λ none. refl

pub returns-in-Err-clause-rests : goal.returns-in-Err-clause-rests
returns-in-Err-clause-rests g c = λ rests. refl

pub returns-in-Err-clause-written : goal.returns-in-Err-clause-written
returns-in-Err-clause-written g c = λ other. absurd (other c.requires.serves)

pub returns-in-Err-clause-on : goal.returns-in-Err-clause-on
returns-in-Err-clause-on g c = tt

pub returns-in-Err-clause-stands : goal.returns-in-Err-clause-stands
returns-in-Err-clause-stands g c = tt

pub returns-in-Some-clause-touches : goal.returns-in-Some-clause-touches
returns-in-Some-clause-touches g c = untouched (c.args.area ∷ []) (g.F.Flash.device c.args.flash.now)

pub returns-in-Some-clause-units : goal.returns-in-Some-clause-units
returns-in-Some-clause-units g c =
    let d : Device = g.F.Flash.device c.args.flash.now in
    record { at_most = none-more d (foreign_units (geometry_of d c.args.area)); owed = λ most owes. none-more d most; left = λ most owes. owes }

pub returns-in-Some-clause-spends : goal.returns-in-Some-clause-spends
returns-in-Some-clause-spends g c =
    let d : Device = g.F.Flash.device c.args.flash.now in
    record {
      exact = tt;
      few = none-more d (erases_on d c.args.area);
    }

pub returns-in-Some-clause-sound : goal.returns-in-Some-clause-sound
returns-in-Some-clause-sound g c = λ none. none

pub returns-in-Some-clause-keeps : goal.returns-in-Some-clause-keeps
returns-in-Some-clause-keeps g c = λ none. refl

pub returns-in-Some-clause-rests : goal.returns-in-Some-clause-rests
returns-in-Some-clause-rests g c = λ rests. refl

pub returns-in-Some-clause-written : goal.returns-in-Some-clause-written
returns-in-Some-clause-written g c = λ other. absurd (other c.requires.serves)

pub returns-in-Some-clause-on : goal.returns-in-Some-clause-on
returns-in-Some-clause-on g c = tt

pub returns-in-Some-clause-stands : goal.returns-in-Some-clause-stands
returns-in-Some-clause-stands g c = tt

pub returns-in-Err-finish-clause-on : goal.returns-in-Err-finish-clause-on
returns-in-Err-finish-clause-on g c = tt

pub returns-in-Err-finish-clause-stands : goal.returns-in-Err-finish-clause-stands
returns-in-Err-finish-clause-stands g c = tt

pub returns-in-Err-finish-clause-spends : goal.returns-in-Err-finish-clause-spends
returns-in-Err-finish-clause-spends g c =
    let d : Device = g.F.Flash.device c.args.flash.now in
    let e : Device = g.F.Flash.device c.finish.new.flash in
    record {
      exact = tt;
      few = subst (λ (x : Area). SpendsAtMost d e (erases_on d x)) c.in-Ok.ensures.ring.0 c.in-Err-finish.ensures.stopped.bound;
    }

pub returns-in-Err-finish-clause-written : goal.returns-in-Err-finish-clause-written
returns-in-Err-finish-clause-written g c = λ other. absurd (other c.requires.serves)

pub returns-in-Ok-finish-clause-written : goal.returns-in-Ok-finish-clause-written
returns-in-Ok-finish-clause-written g c = λ other. absurd (other c.requires.serves)

pub returns-in-Ok-finish-clause-sound : goal.returns-in-Ok-finish-clause-sound
returns-in-Ok-finish-clause-sound g c none =
    let d : Device = g.F.Flash.device c.args.flash.now in
    let e : Device = g.F.Flash.device c.finish.new.flash in
    let area : Area = c.args.area in
    let ring = ring-area d area c.requires.lawful c.requires.serves in
    let same : c.in-Ok.ring.area ≡ area = c.in-Ok.ensures.ring.0 in
    let did = c.in-Ok-finish.ensures in
    let kept : KeepsEntries d e area = subst (λ (x : Area). KeepsEntries d e x) same did.list in
    undamaged-kept d e area (g.met.F.Flash.is_lawful c.args.flash.now) (g.met.F.Flash.is_lawful c.finish.new.flash) ring did.touches.banks kept none

pub returns-in-Err-finish-clause-sound : goal.returns-in-Err-finish-clause-sound
returns-in-Err-finish-clause-sound g c none =
    let d : Device = g.F.Flash.device c.args.flash.now in
    let e : Device = g.F.Flash.device c.finish.new.flash in
    let area : Area = c.args.area in
    let ring = ring-area d area c.requires.lawful c.requires.serves in
    let same : c.in-Ok.ring.area ≡ area = c.in-Ok.ensures.ring.0 in
    let did = c.in-Err-finish.ensures in
    let kept : KeepsEntries d e area = subst (λ (x : Area). KeepsEntries d e x) same did.list in
    undamaged-kept d e area (g.met.F.Flash.is_lawful c.args.flash.now) (g.met.F.Flash.is_lawful c.finish.new.flash) ring did.touches.banks kept none

pub returns-in-Ok-finish-clause-stands : goal.returns-in-Ok-finish-clause-stands
returns-in-Ok-finish-clause-stands g c =
    let d : Device = g.F.Flash.device c.args.flash.now in
    let e : Device = g.F.Flash.device c.finish.new.flash in
    let area : Area = c.args.area in
    let ring = ring-area d area c.requires.lawful c.requires.serves in
    let same : c.in-Ok.ring.area ≡ area = c.in-Ok.ensures.ring.0 in
    let did = c.in-Ok-finish.ensures in
    let kept : KeepsEntries d e area = subst (λ (x : Area). KeepsEntries d e x) same did.list in
    let first : first_damage (states_on d area) ≡ None = c.in-Ok.ensures.damaged in
    let costs = overfull-not d area (sym c.in_default.is ∙ c.first_overfull.ensures ∙ ap (λ (x : Area). option_map overfull_at (first_overfull (value_limit x) (unit_of d x) (sectors_of d x))) same) in
    let none : damage_on d area ≡ None = damage-none d area first costs in
    let undamaged = undamaged-kept d e area (g.met.F.Flash.is_lawful c.args.flash.now) (g.met.F.Flash.is_lawful c.finish.new.flash) ring did.touches.banks kept none in
    let unit : c.geometry-unit.result.unit ≡ unit_of d area = ap (λ (x : Geometry). x.unit) c.geometry-unit.ensures in
    let new-area : c.finish.new.self.area ≡ area = did.finished.area ∙ same in
    let ready : IsReady e c.finish.new.self = record {
      stands = did.finished.stands;
      ready = did.finished.ready;
      reserve = did.finished.reserve ∙ c.in-Ok.ensures.ring.1 ∙ c.reserve.ensures ∙ ap reserve (unit ∙ sym (unit-after d e area c.finish.new.self.area did.touches.banks new-area));
      undamaged = subst (λ (x : Area). damage_on e x ≡ None) (sym new-area) undamaged;
    } in
    ready-stands e c.finish.new.self area new-area c.requires.serves ready

pub returns-in-Ok-finish-clause-rests : goal.returns-in-Ok-finish-clause-rests
returns-in-Ok-finish-clause-rests g c rests =
    let d : Device = g.F.Flash.device c.args.flash.now in
    c.in-Ok-finish.ensures.idle (ap (λ (x : Area). erases_due (states_on d x)) c.in-Ok.ensures.ring.0 ∙ rests)

pub returns-in-Err-finish-clause-rests : goal.returns-in-Err-finish-clause-rests
returns-in-Err-finish-clause-rests g c rests =
    let d : Device = g.F.Flash.device c.args.flash.now in
    c.in-Err-finish.ensures.idle (ap (λ (x : Area). erases_due (states_on d x)) c.in-Ok.ensures.ring.0 ∙ rests)

pub returns-in-Ok-finish-clause-spends : goal.returns-in-Ok-finish-clause-spends
returns-in-Ok-finish-clause-spends g c =
    let d : Device = g.F.Flash.device c.args.flash.now in
    let e : Device = g.F.Flash.device c.finish.new.flash in
    record {
      exact = subst (λ (x : Area). Spends d e (erases_on d x)) c.in-Ok.ensures.ring.0 c.in-Ok-finish.ensures.finished.units;
      few = (erases_on d c.args.area, omega arith, subst (λ (x : Area). Spends d e (erases_on d x)) c.in-Ok.ensures.ring.0 c.in-Ok-finish.ensures.finished.units);
    }

pub returns-in-Ok-finish-clause-units : goal.returns-in-Ok-finish-clause-units
returns-in-Ok-finish-clause-units g c =
    let d : Device = g.F.Flash.device c.args.flash.now in
    let e : Device = g.F.Flash.device c.finish.new.flash in
    let area : Area = c.args.area in
    let did = c.in-Ok-finish.ensures.finished in
    let few : SpendsAtMost d e (erases_on d area) = (erases_on d area, omega arith, subst (λ (x : Area). Spends d e (erases_on d x)) c.in-Ok.ensures.ring.0 did.units) in
    let none : erases_on e area ≡ 0 = ready-due e c.finish.new.self area (did.area ∙ c.in-Ok.ensures.ring.0) did.stands did.ready in
    record {
      at_most = mount-most d area c.requires.lawful e few;
      owed = λ most owes. most_weaker d e (erases_on d area) most owes few;
      left = λ most owes. omega arith;
    }

pub returns-in-Err-finish-clause-units : goal.returns-in-Err-finish-clause-units
returns-in-Err-finish-clause-units g c =
    let d : Device = g.F.Flash.device c.args.flash.now in
    let e : Device = g.F.Flash.device c.finish.new.flash in
    let area : Area = c.args.area in
    let ring = c.in-Ok.ring in
    let stopped = c.in-Err-finish.ensures.stopped in
    let few : SpendsAtMost d e (erases_on d area) = subst (λ (x : Area). SpendsAtMost d e (erases_on d x)) c.in-Ok.ensures.ring.0 stopped.bound in
    let less : erases_on e area ≤ erases_on d area = subst (λ (x : Area). erases_on e x ≤ erases_on d x) c.in-Ok.ensures.ring.0
    (left-due d e ring.area c.in-Err-finish.ensures.touches.banks ring.oldest (ring.used + uncounted ring.stage) c.in-Ok.ensures.ok.sectors.form stopped.part) in
    record {
      at_most = mount-most d area c.requires.lawful e few;
      owed = λ most owes. most_weaker d e (erases_on d area) most owes few;
      left = λ most owes. omega arith;
    }
