use Rattle.std.proofs.Common.{◌≡◌, ℕ, ◌+◌, ◌-◌, ◌*◌, List, length, take, Err, refl, ap, subst, ◌∙◌, arith}
use Rattle.std.proofs.lemmas.Bool.{false≢true, true≢false}
use Rattle.std.specs.FinMap.{entries}
use Rattle.std.specs.List.{sum_by}
use Rattle.flash_sim.specs.Device.{Device}
use Rattle.flash_map.specs.declared.area.Area.{Area}
use Rattle.flash_map.specs.declared.area.Geometry.{Geometry}
use Rattle.flash_map.specs.Area.{value_limit, unit_of, sector_size, geometry_of}
use Rattle.flash_map.specs.Spending.{SpendsAtMost}
use Rattle.flash_map.proofs.SpendingLemmas.{most_weaker}
use Rattle.fcb_ring.specs.declared.ring.Ring.{Ring}
use Rattle.fcb_ring.specs.Writing.{record_cost}
use Rattle.fcb_ring.specs.declared.writing.AppendFault.TheVariants.{PowerLost}
use Rattle.fcb_ring.proofs.AppendLemmas.{unit-after}
use Rattle.backend_api.specs.Room.{command_units}
use Rattle.backend_api.specs.Commands.Command.{Put}
use Rattle.backend_fcb.specs.Changing.{HasNoPlace, PutEnds, SpendsCost, SpendsUpToCost, collect_units}
use Rattle.record_settings.specs.Room.{pair_cost}
use Rattle.record_settings.specs.Settings.{body_of, setting_of, with_setting}
use Rattle.backend_fcb.specs.Standing.{settings_on}
use Rattle.backend_fcb.proofs.Ends.{stands-ready, some-bytes, few-bytes, one-less, ready-stands, ready-undamaged, sets-new, finds-no_space, few-rounds, puts-value}
use Rattle.backend_fcb.proofs.Tearing.{stops-at}
use Rattle.backend_fcb.proofs.backend.FcbBackend.put_setting.Goals as goal

pub put-requires : goal.put-requires
put-requires g c = record {
  ready = stands-ready (g.F.Flash.device c.args.flash.now) c.args.self.now c.requires.lawful c.requires.stands;
  some = some-bytes (take c.write_body-len.result c.write_body-len.new.buffer) c.args.name.now c.args.value.now c.write_body-len.ensures.body;
  short = few-bytes (take c.write_body-len.result c.write_body-len.new.buffer) c.args.name.now c.args.value.now (value_limit c.args.self.now.ring.area) c.write_body-len.ensures.body c.write_body-len.ensures.name c.requires.value.1;
  no_put = λ into. absurd (false≢true into);
  few = one-less c.geometry-geometry.result.sectors c.args.self.now.ring.area.sectors (ap (λ (x : Geometry). x.sectors) c.geometry-geometry.ensures ∙ ap (λ (x : Area). x.sectors) c.area.ensures) c.requires.lawful.several;
}

pub live_cost-requires : goal.live_cost-requires
live_cost-requires g c =
    let d : Device = g.F.Flash.device c.args.flash.now in
    let e : Device = g.F.Flash.device c.put.new.flash in
    let ring : Ring = c.args.self.now.ring in
    let full : HasNoPlace d e ring c.put.new.ring (length (take c.write_body-len.result c.write_body-len.new.buffer)) ring.reserve (c.geometry-geometry.result.sectors - 1) = rw c.in-Err-Full.field-0-is at c.in-Err-Full.ensures.ends in
    full.ready.stands

pub returns-in-Ok : goal.returns-in-Ok
returns-in-Ok g c =
    let d : Device = g.F.Flash.device c.args.flash.now in
    let e : Device = g.F.Flash.device c.put.new.flash in
    let ring : Ring = c.args.self.now.ring in
    let area : Area = ring.area in
    let body : take c.write_body-len.result c.write_body-len.new.buffer ≡ body_of c.args.name.now c.args.value.now = c.write_body-len.ensures.body in
    let sectors : c.geometry-geometry.result.sectors ≡ ring.area.sectors = ap (λ (x : Geometry). x.sectors) c.geometry-geometry.ensures ∙ ap (λ (x : Area). x.sectors) c.area.ensures in
    let few = few-rounds d ring (c.geometry-geometry.result.sectors - 1) (omega (arith, c.requires.lawful.several, sectors)) in
    let ends = c.in-Ok.ensures.ends in
    record {
      touches = c.in-Ok.ensures.touches;
      area = c.in-Ok.ensures.area;
      ends =
          sets-new d e area c.args.name.now c.args.value.now (unit_of d area) (sector_size d area) c.write_body-len.ensures.name c.requires.value.0 c.requires.value.1 c.requires.other
          (ends.1 ∙ ap (λ (b : List ℕ). with_setting (settings_on d area) (setting_of (value_limit area) b)) body) ends.3;
      leaves = record {
        sound = ready-undamaged e c.put.new.ring area c.in-Ok.ensures.area ends.0;
        cut = λ on lost. absurd (false≢true lost);
        stands = λ up. ready-stands e c.put.new.ring area c.in-Ok.ensures.area c.requires.stands.role ends.0;
        down = λ lost. absurd (false≢true lost);
      };
      spends = record {
        units = record { at_most = most_weaker d e ((c.geometry-geometry.result.sectors - 1 + 1) * collect_units d ring) (command_units (geometry_of d area)) few c.in-Ok.ensures.at_most; owes = λ lost. absurd (false≢true lost) };
        exact = λ changes. subst (λ (b : List ℕ). SpendsCost d e ring b ring.reserve) body ends.2;
        no_more = λ lost. absurd (false≢true lost);
        few = subst (λ (n : ℕ). SpendsAtMost d e ((n - 1 + 1) * collect_units d ring)) sectors c.in-Ok.ensures.at_most;
      };
    }

pub returns-in-Err-PowerLost : goal.returns-in-Err-PowerLost
returns-in-Err-PowerLost g c =
    let d : Device = g.F.Flash.device c.args.flash.now in
    let e : Device = g.F.Flash.device c.put.new.flash in
    let ring : Ring = c.args.self.now.ring in
    let area : Area = ring.area in
    let body : take c.write_body-len.result c.write_body-len.new.buffer ≡ body_of c.args.name.now c.args.value.now = c.write_body-len.ensures.body in
    let sectors : c.geometry-geometry.result.sectors ≡ ring.area.sectors = ap (λ (x : Geometry). x.sectors) c.geometry-geometry.ensures ∙ ap (λ (x : Area). x.sectors) c.area.ensures in
    let few = few-rounds d ring (c.geometry-geometry.result.sectors - 1) (omega (arith, c.requires.lawful.several, sectors)) in
    let ends : PutEnds {T = Unit {0}} d e ring c.put.new.ring (take c.write_body-len.result c.write_body-len.new.buffer) ring.reserve (c.geometry-geometry.result.sectors - 1) (Err PowerLost) = rw c.in-Err-PowerLost.field-0-is at c.in-Err-PowerLost.ensures.ends in
    record {
      touches = rw c.in-Err-PowerLost.field-0-is at c.in-Err-PowerLost.ensures.touches;
      area = c.in-Err-PowerLost.ensures.area;
      ends = (refl, c.requires.other);
      leaves = record {
        sound = ends.0.undamaged;
        cut = λ on lost. stops-at d e area (take c.write_body-len.result c.write_body-len.new.buffer) (Put c.args.name.now c.args.value.now) body (puts-value (value_limit area) (settings_on d area) c.args.name.now c.args.value.now c.write_body-len.ensures.name c.requires.value.0 c.requires.value.1) (ends.0.stops on);
        stands = λ up. absurd (true≢false up);
        down = λ lost. ends.0.down;
      };
      spends = record {
        units = record { at_most = most_weaker d e ((c.geometry-geometry.result.sectors - 1 + 1) * collect_units d ring) (command_units (geometry_of d area)) few c.in-Err-PowerLost.ensures.at_most; owes = λ lost. ends.0.due };
        exact = tt;
        no_more = λ lost. subst (λ (b : List ℕ). SpendsUpToCost d e ring b ring.reserve) body ends.1;
        few = subst (λ (n : ℕ). SpendsAtMost d e ((n - 1 + 1) * collect_units d ring)) sectors c.in-Err-PowerLost.ensures.at_most;
      };
    }

pub returns-in-Err-Full : goal.returns-in-Err-Full
returns-in-Err-Full g c =
    let d : Device = g.F.Flash.device c.args.flash.now in
    let e : Device = g.F.Flash.device c.put.new.flash in
    let ring : Ring = c.args.self.now.ring in
    let area : Area = ring.area in
    let name : List ℕ = c.args.name.now in
    let value : List ℕ = c.args.value.now in
    let body : take c.write_body-len.result c.write_body-len.new.buffer ≡ body_of c.args.name.now c.args.value.now = c.write_body-len.ensures.body in
    let sectors : c.geometry-geometry.result.sectors ≡ ring.area.sectors = ap (λ (x : Geometry). x.sectors) c.geometry-geometry.ensures ∙ ap (λ (x : Area). x.sectors) c.area.ensures in
    let few = few-rounds d ring (c.geometry-geometry.result.sectors - 1) (omega (arith, c.requires.lawful.several, sectors)) in
    let full : HasNoPlace d e ring c.put.new.ring (length (take c.write_body-len.result c.write_body-len.new.buffer)) ring.reserve (c.geometry-geometry.result.sectors - 1) = rw c.in-Err-Full.field-0-is at c.in-Err-Full.ensures.ends in
    record {
      touches = rw c.in-Err-Full.field-0-is at c.in-Err-Full.ensures.touches;
      area = c.in-Err-Full.ensures.area;
      ends =
          let is-full : HasNoPlace d e ring c.put.new.ring (length (body_of name value)) ring.reserve (c.geometry-geometry.result.sectors - 1) = subst (λ (b : List ℕ). HasNoPlace d e ring c.put.new.ring (length b) ring.reserve (c.geometry-geometry.result.sectors - 1)) body full in
          let unit : c.geometry-geometry.result.unit ≡ unit_of d area = ap (λ (x : Geometry). x.unit) c.geometry-geometry.ensures ∙ ap (λ (x : Area). unit_of d x) c.area.ensures in
          let len : c.write_body-len.result ≡ length name + 1 + length value = c.write_body-len.ensures.len in
          let settings : settings_on e c.put.new.ring.area ≡ settings_on d area = ap (λ (x : Area). settings_on e x) c.in-Err-Full.ensures.area ∙ full.settings in
          let new-unit : unit_of e c.put.new.ring.area ≡ unit_of d area = unit-after d e area c.put.new.ring.area c.in-Err-Full.ensures.touches.banks c.in-Err-Full.ensures.area in
          finds-no_space d e ring c.put.new.ring name value ring.reserve (c.geometry-geometry.result.sectors - 1) c.from.result c.live_cost.result (stands-ready d c.args.self.now c.requires.lawful c.requires.stands) c.requires.other c.requires.stands.reserve (omega (arith, c.requires.lawful.several, sectors)) c.in-Err-Full.ensures.area is-full
          (c.from.ensures ∙ c.record_cost.ensures ∙ ap (λ (u : ℕ). record_cost u c.write_body-len.result) unit ∙ ap (record_cost (unit_of d area)) len)
          (c.live_cost.ensures ∙ ap (sum_by (pair_cost (unit_of e c.put.new.ring.area))) (ap entries settings) ∙ ap (λ (u : ℕ). sum_by (pair_cost u) (entries (settings_on d area))) new-unit);
      leaves = record {
        sound = ready-undamaged e c.put.new.ring area c.in-Err-Full.ensures.area full.ready;
        cut = λ on lost. absurd (false≢true lost);
        stands = λ up. ready-stands e c.put.new.ring area c.in-Err-Full.ensures.area c.requires.stands.role full.ready;
        down = λ lost. absurd (false≢true lost);
      };
      spends = record {
        units = record { at_most = most_weaker d e ((c.geometry-geometry.result.sectors - 1 + 1) * collect_units d ring) (command_units (geometry_of d area)) few c.in-Err-Full.ensures.at_most; owes = λ lost. absurd (false≢true lost) };
        exact = tt;
        no_more = λ lost. absurd (false≢true lost);
        few = subst (λ (n : ℕ). SpendsAtMost d e ((n - 1 + 1) * collect_units d ring)) sectors c.in-Err-Full.ensures.at_most;
      };
    }

pub unreachable-requires : goal.unreachable-requires
unreachable-requires g c = rw c.in-Err-TooLong.field-0-is at c.in-Err-TooLong.ensures.ends
