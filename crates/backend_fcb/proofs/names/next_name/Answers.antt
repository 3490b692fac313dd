use Rattle.std.proofs.Common.{◌≡◌, ℕ, List, true, false, not, Some, None, sym, ap, subst, ◌∙◌}
use Rattle.flash_map.specs.Area.{value_limit}
use Rattle.flash_map.specs.declared.area.Area.{Area}
use Rattle.flash_sim.specs.Device.{Device}
use Rattle.std.specs.FinMap.{contains_key}
use Rattle.std.specs.Option.{option_map}
use Rattle.backend_api.specs.Least.{IsLeast}
use Rattle.record_settings.specs.Live.{names}
use Rattle.record_settings.proofs.SeekLemmas.{seeks-start, seeks-none, seeks-step, seeks-past, seeks-found, seeks-smaller}
use Rattle.backend_fcb.specs.Standing.{bodies_on, settings_on}
use Rattle.backend_fcb.proofs.Ends.{has-some}
use Rattle.backend_fcb.proofs.NameSteps.{read-is, read-as}
use Rattle.backend_fcb.proofs.names.next_name.Goals as goal

pub returns-in_err-setting : goal.returns-in_err-setting
returns-in_err-setting g c =
    c.from_residual.ensures ∙ seeks-none (value_limit c.args.ring.now.area) (bodies_on (g.F.Flash.device c.args.flash.now) c.args.ring.now.area) (option_map (λ name. name.now) c.args.after) c.in_err-setting.ensures.least

pub loop-setting-init : goal.loop-setting-init
loop-setting-init g c = record {
  seeks = seeks-start (value_limit c.args.ring.now.area) (bodies_on (g.F.Flash.device c.args.flash.now) c.args.ring.now.area) (option_map (λ name. name.now) c.args.after) c.in_ok-setting.setting.name.now c.in_ok-setting.ensures.least;
  last = c.in_ok-setting.ensures.last;
}

pub returns-in_err-setting-2 : goal.returns-in_err-setting-2
returns-in_err-setting-2 g c =
    let d : Device = g.F.Flash.device c.args.flash.now in
    let area : Area = c.args.ring.now.area in
    let text : List ℕ = c.loop-setting.setting.name.now in
    let absent : contains_key (settings_on d area) text ≡ false =
    has-some d area text c.loop-setting.setting.value.now c.loop-setting.invariant.last.1 ∙ ap not (sym c.is_empty.ensures ∙ c.loop-setting-test.true) in
    let named : c.in_ok-name.name ≡ text = read-as text c.in_ok-name.name c.read.result c.read.ensures.reads (c.read.ensures.names.1 c.loop-setting.invariant.last.0) c.in_ok-name.ensures.value in
    c.from_residual-in_err-setting-2.ensures
    ∙ seeks-past (value_limit area) (bodies_on d area) (option_map (λ name. name.now) c.args.after) text c.loop-setting.invariant.seeks absent
    (subst (λ (n : List ℕ). IsLeast (Some n) (λ name. names (value_limit area) name (bodies_on d area)) None) named c.in_err-setting-2.ensures.least)

pub loop-setting-smaller : goal.loop-setting-smaller
loop-setting-smaller g c =
    let d : Device = g.F.Flash.device c.args.flash.now in
    let area : Area = c.args.ring.now.area in
    let text : List ℕ = c.loop-setting.setting.name.now in
    let named : c.in_ok-name.name ≡ text = read-as text c.in_ok-name.name c.read.result c.read.ensures.reads (c.read.ensures.names.1 c.loop-setting.invariant.last.0) c.in_ok-name.ensures.value in
    seeks-smaller (value_limit area) (bodies_on d area) text c.in_ok-setting-2.setting.name.now
    (subst (λ (n : List ℕ). IsLeast (Some n) (λ name. names (value_limit area) name (bodies_on d area)) (Some c.in_ok-setting-2.setting.name.now)) named c.in_ok-setting-2.ensures.least)

pub loop-setting-preserved : goal.loop-setting-preserved
loop-setting-preserved g c =
    let d : Device = g.F.Flash.device c.args.flash.now in
    let area : Area = c.args.ring.now.area in
    let text : List ℕ = c.loop-setting.setting.name.now in
    let absent : contains_key (settings_on d area) text ≡ false =
    has-some d area text c.loop-setting.setting.value.now c.loop-setting.invariant.last.1 ∙ ap not (sym c.is_empty.ensures ∙ c.loop-setting-test.true) in
    let named : c.in_ok-name.name ≡ text = read-as text c.in_ok-name.name c.read.result c.read.ensures.reads (c.read.ensures.names.1 c.loop-setting.invariant.last.0) c.in_ok-name.ensures.value in
    record {
      seeks =
          seeks-step (value_limit area) (bodies_on d area) (option_map (λ name. name.now) c.args.after) text c.loop-setting.invariant.seeks absent c.in_ok-setting-2.setting.name.now
          (subst (λ (n : List ℕ). IsLeast (Some n) (λ name. names (value_limit area) name (bodies_on d area)) (Some c.in_ok-setting-2.setting.name.now)) named c.in_ok-setting-2.ensures.least);
      last = c.in_ok-setting-2.ensures.last;
    }

pub returns : goal.returns
returns g c =
    let d : Device = g.F.Flash.device c.args.flash.now in
    let area : Area = c.args.ring.now.area in
    let text : List ℕ = c.loop-setting.setting.name.now in
    let has : contains_key (settings_on d area) text ≡ true =
    has-some d area text c.loop-setting.setting.value.now c.loop-setting.invariant.last.1 ∙ ap not (sym c.is_empty.ensures ∙ c.loop-setting-test.false) in
    c.ok-2.ensures.value ∙ read-is text c.read-2.result c.read-2.ensures.reads (c.read-2.ensures.names.1 c.loop-setting.invariant.last.0)
    ∙ seeks-found (value_limit area) (bodies_on d area) (option_map (λ name. name.now) c.args.after) text c.loop-setting.invariant.seeks has
