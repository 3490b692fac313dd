use Rattle.std.proofs.Common.{◌≡◌, ℕ, ◌<◌, ◌≤◌, ◌∷◌, [], List, length, get_or, map, Some, Result, Ok, Err, refl, sym, ap, subst, ◌∙◌}
use Rattle.std.specs.Option.{option_map}
use Rattle.std.specs.List.{slice_get}
use Rattle.std.specs.Result.{IsErrAnd}
use Rattle.std.proofs.lemmas.List.{length-map}
use Rattle.std.proofs.lemmas.Option.{slice_get-map, slice_get_read}
use Rattle.flash_sim.specs.Device.{Device}
use Rattle.flash_sim.specs.declared.flash.Bank.{Bank}
use Rattle.flash_map.specs.Area.{geometry_of, value_limit}
use Rattle.flash_map.specs.Lawful.{IsLawfulFor}
use Rattle.flash_map.specs.On.{on}
use Rattle.flash_map.specs.Touches.{Touches}
use Rattle.flash_map.specs.declared.area.Area.{Area}
use Rattle.flash_map.proofs.Touches.{then}
use Rattle.backend_api.specs.Ends.{set_lost}
use Rattle.backend_api.specs.Map.{IsValue}
use Rattle.backend_api.specs.declared.backend.SetFault.{SetFault}
use Rattle.migrator.specs.Copying.{CopyEnds, pair_of}
use Rattle.migrator.specs.declared.copying.Setting.{Setting}
use Rattle.migrator.proofs.Copies.{put-none, put-more, put-most, put-refused, put-whole, put-within}
use Rattle.migrator.proofs.copying.put_all.Goals as goal

-- the pair at a place
pair-at : (settings : List Setting) (i : ℕ) (setting : Setting) (value : List ℕ) → i < length settings → setting ≡ get_or settings i setting → value ≡ setting.value.items → slice_get (map pair_of settings) i ≡ Some (setting.name, value)
pair-at settings i setting value fewer is same =
    slice_get-map pair_of settings i ∙ ap (option_map pair_of) (slice_get_read settings (length settings) i setting refl fewer is) ∙ ap (λ (bytes : List ℕ). Some (setting.name, bytes)) (sym same)

err-is : {T E : Type 0} (result : Result T E) (fault : E) → IsErrAnd result (λ other. other ≡ fault) → result ≡ Err fault
err-is (Ok x) fault is = absurd is
err-is (Err other) fault is = ap (λ (f : _). Err f) is

pub loop-setting-init : goal.loop-setting-init
loop-setting-init g c = put-none g.K.Backend.mounted_on g.K.Backend.stands g.K.Backend.contents g.K.Backend.room (g.F.Flash.device c.args.flash.now) c.args.to.now (map pair_of c.args.settings.now) c.requires.stands c.requires.empty

pub set-requires : goal.set-requires
set-requires g c =
    let d : Device = g.F.Flash.device c.loop-setting.flash in
    let area : Area = g.K.Backend.mounted_on c.args.to.now in
    let there : g.K.Backend.mounted_on c.loop-setting.to ≡ area = c.loop-setting.invariant.area in
    let lawful : IsLawfulFor d.banks area = subst (λ (banks : List Bank). IsLawfulFor banks area) (sym c.loop-setting.invariant.touches.banks) c.requires.lawful in
    let is : IsValue (value_limit area) c.setting-item.result.value.items =
    subst (λ (setting : Setting). IsValue (value_limit area) setting.value.items) (sym c.setting-item.is) (c.requires.values c.loop-setting.setting-index c.setting-item.result c.loop-setting-test.true) in
    let value : IsValue (value_limit area) c.deref.result.now = subst (λ (bytes : List ℕ). IsValue (value_limit area) bytes) (sym c.deref.ensures.value) is in
    record {
      lawful = subst (λ (x : Area). IsLawfulFor d.banks x) (sym there) lawful;
      stands = c.loop-setting.invariant.stand;
      some = value.0;
      short = subst (λ (x : Area). length c.deref.result.now ≤ value_limit x) (sym there) value.1;
    }

pub loop-setting-preserved : goal.loop-setting-preserved
loop-setting-preserved g c =
    let at = pair-at c.args.settings.now c.loop-setting.setting-index c.setting-item.result c.deref.result.now c.loop-setting-test.true c.setting-item.is c.deref.ensures.value in
    put-more g.K.Backend.mounted_on g.K.Backend.stands g.K.Backend.contents g.K.Backend.room (g.F.Flash.device c.args.flash.now) (g.F.Flash.device c.loop-setting.flash) (g.F.Flash.device c.set.new.flash) c.args.to.now c.loop-setting.to c.set.new.self (map pair_of c.args.settings.now) c.loop-setting.setting-index
    c.setting-item.result.name c.deref.result.now c.set.result c.in_ok-set.field-0 c.in_ok-set.was c.loop-setting.invariant at c.set.ensures.touches c.set.ensures.area c.set.ensures.ends c.set.ensures.units.at_most c.set.ensures.stands

pub returns-in_err-set : goal.returns-in_err-set
returns-in_err-set g c =
    let a : Device = g.F.Flash.device c.args.flash.now in
    let d : Device = g.F.Flash.device c.loop-setting.flash in
    let e : Device = g.F.Flash.device c.set.new.flash in
    let area : Area = g.K.Backend.mounted_on c.args.to.now in
    let pairs = map pair_of c.args.settings.now in
    let fault : SetFault = c.in_err-set.field-0.0 in
    let is : c.from_residual.result ≡ Err fault = err-is c.from_residual.result fault c.from_residual.ensures.1 in
    let same : c.set.result ≡ c.from_residual.result = c.in_err-set.was ∙ sym is in
    let at = pair-at c.args.settings.now c.loop-setting.setting-index c.setting-item.result c.deref.result.now c.loop-setting-test.true c.setting-item.is c.deref.ensures.value in
    record {
      touches =
          then c.loop-setting.invariant.touches
          (subst (λ (x : Area). Touches (x ∷ []) d e (set_lost c.from_residual.result)) c.loop-setting.invariant.area
          (subst (λ (r : Result (Unit {0}) SetFault). Touches (g.K.Backend.mounted_on c.loop-setting.to ∷ []) d e (set_lost r)) same c.set.ensures.touches));
      area = c.set.ensures.area ∙ c.loop-setting.invariant.area;
      ends =
          λ all pairs_are.
          subst (λ (r : Result (Unit {0}) SetFault). CopyEnds (g.K.Backend.room area (geometry_of a area)) area.sectors all (on g.K.Backend.contents e area) r) (sym is)
          (put-refused g.K.Backend.mounted_on g.K.Backend.stands g.K.Backend.contents g.K.Backend.room a d e c.args.to.now c.loop-setting.to pairs c.loop-setting.setting-index c.setting-item.result.name c.deref.result.now c.set.result fault c.in_err-set.was c.loop-setting.invariant at c.set.ensures.ends all pairs_are);
      at_most = put-most g.K.Backend.mounted_on g.K.Backend.stands g.K.Backend.contents g.K.Backend.room a d e c.args.to.now c.loop-setting.to pairs c.loop-setting.setting-index (length c.args.settings.now) c.loop-setting.invariant c.loop-setting-test.true c.set.ensures.units.at_most;
      stands = λ kept. c.set.ensures.stands (ap set_lost same ∙ kept);
    }

pub returns : goal.returns
returns g c =
    let a : Device = g.F.Flash.device c.args.flash.now in
    let d : Device = g.F.Flash.device c.loop-setting.flash in
    let pairs = map pair_of c.args.settings.now in
    let all-put : length pairs ≤ c.loop-setting.setting-index = subst (λ (n : ℕ). n ≤ c.loop-setting.setting-index) (sym (length-map c.args.settings.now pair_of)) c.loop-setting-test.false in
    record {
      touches = c.loop-setting.invariant.touches;
      area = c.loop-setting.invariant.area;
      ends = put-whole g.K.Backend.mounted_on g.K.Backend.stands g.K.Backend.contents g.K.Backend.room a d c.args.to.now c.loop-setting.to pairs c.loop-setting.setting-index (tt {0}) c.loop-setting.invariant all-put;
      at_most = put-within g.K.Backend.mounted_on g.K.Backend.stands g.K.Backend.contents g.K.Backend.room a d c.args.to.now c.loop-setting.to pairs c.loop-setting.setting-index (length c.args.settings.now) c.loop-setting.invariant c.loop-setting.auto.setting-index-end;
      stands = λ kept. c.loop-setting.invariant.stand;
    }
