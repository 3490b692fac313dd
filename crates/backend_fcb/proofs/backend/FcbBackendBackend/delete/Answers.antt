use Rattle.std.proofs.Common.{subst, ◌≡◌, ◌≤◌, ℕ, ◌+◌, ◌*◌, [], List, ◌∷◌, length, Err, not, refl, ap, ◌∙◌, arith}
use Rattle.std.proofs.lemmas.Bool.{false≢true, true≢false}
use Rattle.std.specs.FinMap as finite
use Rattle.flash_sim.specs.Device.{Device}
use Rattle.flash_map.specs.declared.area.Area.{Area}
use Rattle.flash_map.specs.Area.{value_limit, unit_of, geometry_of}
use Rattle.flash_map.proofs.Touches.{untouched}
use Rattle.flash_map.proofs.SpendingLemmas.{spends_none, most_weaker}
use Rattle.fcb_ring.specs.declared.ring.Ring.{Ring}
use Rattle.fcb_ring.specs.declared.writing.AppendFault.TheVariants.{PowerLost}
use Rattle.backend_api.proofs.MapLemmas.{remove-absent}
use Rattle.backend_api.specs.Room.{command_units}
use Rattle.backend_api.specs.Commands.Command.{Del}
use Rattle.backend_fcb.specs.Changing.{HasNoPlace, PutEnds, SpendsCost, SpendsUpToCost, collect_units}
use Rattle.record_settings.specs.Room.{put_cost}
use Rattle.record_settings.specs.Settings.{body_of, setting_of, with_setting}
use Rattle.backend_fcb.specs.Standing.{settings_on}
use Rattle.record_settings.proofs.BodyLemmas.{length-body_of}
use Rattle.backend_fcb.proofs.Ends.{stands-ready, none-more, some-bytes, few-bytes, ready-stands, ready-undamaged, deletes-same, deletes-one, delete-fits, two-rounds, absent-yes, absent-not, delete-cost, takes-value}
use Rattle.backend_fcb.proofs.Tearing.{stops-at}
use Rattle.backend_fcb.proofs.backend.FcbBackendBackend.delete.Goals as goal

none-least : (n : ℕ) → length {A = ℕ} [] ≤ n
none-least n = omega arith

pub get-requires : goal.get-requires
get-requires g c = record {
  lawful = c.requires.lawful;
  stands = c.requires.stands;
}

pub returns-then-is_none : goal.returns-then-is_none
returns-then-is_none g c =
    let d : Device = g.F.Flash.device c.args.flash.now in
    let area : Area = c.args.self.now.ring.area in
    let absent = absent-yes (λ b. b.now) c.get.result (finite.get (settings_on d area) c.args.name.now) c.get.ensures (c.is_none.ensures ∙ ap not c.if-is_none.true) in
    record {
      touches = untouched (area ∷ []) d;
      area = refl;
      ends = deletes-same d area c.args.name.now absent;
      sound = c.requires.stands.undamaged;
      cut = λ on lost. absurd (false≢true lost);
      stands = λ up. c.requires.stands;
      down = λ lost. absurd (false≢true lost);
      written = λ other. absurd (other c.requires.stands.role);
      spends = record {
        units = record { at_most = none-more d (command_units (geometry_of d area)); owes = λ lost. absurd (false≢true lost) };
        exact = λ changes. absurd (changes (remove-absent (settings_on d area) c.args.name.now absent));
        no_more = λ lost. absurd (false≢true lost);
        few = (0, omega arith, spends_none d);
      };
    }

pub put-requires : goal.put-requires
put-requires g c = record {
  ready = stands-ready (g.F.Flash.device c.args.flash.now) c.args.self.now c.requires.lawful c.requires.stands;
  some = some-bytes c.as_slice.result.now c.args.name.now [] (c.as_slice.ensures.value ∙ c.start_of-body.ensures.items);
  short = few-bytes c.as_slice.result.now c.args.name.now [] (value_limit c.args.self.now.ring.area) (c.as_slice.ensures.value ∙ c.start_of-body.ensures.items) c.start_of-body.ensures.name (none-least (value_limit c.args.self.now.ring.area));
  few = c.requires.lawful.several;
  no_put =
      let d : Device = g.F.Flash.device c.args.flash.now in
      let area : Area = c.args.self.now.ring.area in
      let body : c.as_slice.result.now ≡ body_of c.args.name.now [] = c.as_slice.ensures.value ∙ c.start_of-body.ensures.items in
      λ into. ap (put_cost (value_limit c.args.self.now.ring.area) (unit_of d area)) body ∙ delete-cost (value_limit c.args.self.now.ring.area) (unit_of d area) c.args.name.now c.start_of-body.ensures.name;
}

pub returns-in-Ok : goal.returns-in-Ok
returns-in-Ok g c =
    let d : Device = g.F.Flash.device c.args.flash.now in
    let e : Device = g.F.Flash.device c.put.new.flash in
    let ring : Ring = c.args.self.now.ring in
    let area : Area = ring.area in
    let body : c.as_slice.result.now ≡ body_of c.args.name.now [] = c.as_slice.ensures.value ∙ c.start_of-body.ensures.items in
    let ends = c.in-Ok.ensures.ends in
    record {
      touches = c.in-Ok.ensures.touches;
      area = c.in-Ok.ensures.area;
      ends =
          deletes-one d e area c.args.name.now c.start_of-body.ensures.name (absent-not (λ b. b.now) c.get.result (finite.get (settings_on d area) c.args.name.now) c.get.ensures (c.is_none.ensures ∙ ap not c.if-is_none.false))
          (ends.1 ∙ ap (λ (b : List ℕ). with_setting (settings_on d area) (setting_of (value_limit area) b)) body) ends.3;
      sound = ready-undamaged e c.put.new.ring area c.in-Ok.ensures.area ends.0;
      cut = λ on lost. absurd (false≢true lost);
      stands = λ up. ready-stands e c.put.new.ring area c.in-Ok.ensures.area c.requires.stands.role ends.0;
      down = λ lost. absurd (false≢true lost);
      written = λ other. absurd (other c.requires.stands.role);
      spends = record {
        units = record { at_most = most_weaker d e ((1 + 1) * collect_units d ring) (command_units (geometry_of d area)) (two-rounds d ring c.requires.lawful.several) c.in-Ok.ensures.at_most; owes = λ lost. absurd (false≢true lost) };
        exact = λ changes. subst (λ (b : List ℕ). SpendsCost d e ring b 0) body ends.2;
        no_more = λ lost. absurd (false≢true lost);
        few = c.in-Ok.ensures.at_most;
      };
    }

pub returns-in-Err-PowerLost : goal.returns-in-Err-PowerLost
returns-in-Err-PowerLost g c =
    let d : Device = g.F.Flash.device c.args.flash.now in
    let e : Device = g.F.Flash.device c.put.new.flash in
    let ring : Ring = c.args.self.now.ring in
    let area : Area = ring.area in
    let body : c.as_slice.result.now ≡ body_of c.args.name.now [] = c.as_slice.ensures.value ∙ c.start_of-body.ensures.items in
    let ends : PutEnds {T = Unit {0}} d e ring c.put.new.ring c.as_slice.result.now 0 1 (Err PowerLost) = rw c.in-Err-PowerLost.field-0-is at c.in-Err-PowerLost.ensures.ends in
    record {
      touches = rw c.in-Err-PowerLost.field-0-is at c.in-Err-PowerLost.ensures.touches;
      area = c.in-Err-PowerLost.ensures.area;
      ends = absent-not (λ b. b.now) c.get.result (finite.get (settings_on d area) c.args.name.now) c.get.ensures (c.is_none.ensures ∙ ap not c.if-is_none.false);
      sound = ends.0.undamaged;
      cut = λ on lost. stops-at d e area c.as_slice.result.now (Del c.args.name.now) body (takes-value (value_limit area) (settings_on d area) c.args.name.now c.start_of-body.ensures.name) (ends.0.stops on);
      stands = λ up. absurd (true≢false up);
      down = λ lost. ends.0.down;
      written = λ other. absurd (other c.requires.stands.role);
      spends = record {
        units = record { at_most = most_weaker d e ((1 + 1) * collect_units d ring) (command_units (geometry_of d area)) (two-rounds d ring c.requires.lawful.several) c.in-Err-PowerLost.ensures.at_most; owes = λ lost. ends.0.due };
        exact = tt;
        no_more = λ lost. subst (λ (b : List ℕ). SpendsUpToCost d e ring b 0) body ends.1;
        few = c.in-Err-PowerLost.ensures.at_most;
      };
    }

pub unreachable-requires : goal.unreachable-requires
unreachable-requires g c = rw c.in-Err-TooLong.field-0-is at c.in-Err-TooLong.ensures.ends

pub unreachable-requires-in-Err-Full : goal.unreachable-requires-in-Err-Full
unreachable-requires-in-Err-Full g c =
    let d : Device = g.F.Flash.device c.args.flash.now in
    let ring : Ring = c.args.self.now.ring in
    let area : Area = c.args.self.now.ring.area in
    let name : List ℕ = c.args.name.now in
    let e : Device = g.F.Flash.device c.put.new.flash in
    let body : c.as_slice.result.now ≡ body_of c.args.name.now [] = c.as_slice.ensures.value ∙ c.start_of-body.ensures.items in
    let few = two-rounds d ring c.requires.lawful.several in
    let full : HasNoPlace d e ring c.put.new.ring (length c.as_slice.result.now) 0 1 = rw c.in-Err-Full.field-0-is at c.in-Err-Full.ensures.ends in
    delete-fits d e ring c.put.new.ring (length c.as_slice.result.now) (g.met.F.Flash.is_lawful c.args.flash.now) (stands-ready d c.args.self.now c.requires.lawful c.requires.stands) c.in-Err-Full.ensures.touches.banks c.in-Err-Full.ensures.area
    (omega (arith, ap length body, length-body_of name [], c.start_of-body.ensures.name.short)) full
