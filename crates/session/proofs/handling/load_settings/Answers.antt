use Rattle.std.proofs.Common.{List, ℕ, Option, Ok, map, Some, subst}
use Rattle.std.specs.Prelude.{option_map}
use Rattle.flash_map.specs.On.{on}
use Rattle.handlers.specs.Registry.{registered}
use Rattle.script_lines.specs.declared.answer.Answer.TheVariants.{Loaded}
use Rattle.session_table.specs.Step.{Loads}
use Rattle.session.specs.Handling.{beside, as_given}
use Rattle.session.proofs.HandlerLemmas.{load-done}
use Rattle.session.proofs.handling.load_settings.Goals as goal

pub returns-in-Ok : goal.returns-in-Ok
returns-in-Ok g c =
    let before = registered (λ b. (goal.Handler-dyn g (b.vtable, b.value)).state b.value) c.args.registry.now in
    let after = registered (λ b. (goal.Handler-dyn g (b.vtable, b.value)).state b.value) c.load.new.registry in
    let settings = on g.K.Backend.contents (g.B.Flash.device c.args.bench.now) (g.K.Backend.mounted_on c.args.settings.now.backend) in
    let asked = option_map (λ name. name.now) c.as_ref.result in
    record {
      done = λ s here.
          subst (λ (subtree : Option (List ℕ)). Loads subtree (Loaded c.load.new.report.gives c.in-Ok.loaded.taken c.in-Ok.loaded.rejected c.in-Ok.loaded.passed) (beside s before s.pool) (beside s after s.pool)) c.as_ref.ensures.value
          (load-done before c.in-Ok.ensures.1.0 after c.new.result c.load.new.report.gives asked settings c.in-Ok.loaded s c.new.ensures here c.in-Ok.ensures.1.1 c.in-Ok.ensures.1.2);
      lawful = λ limit is lawful.
          (c.lawful_registry.ensures limit before lawful).load_ends (g.K.Backend.runs c.args.settings.now.backend) after (Some (map as_given c.new.result)) (Some (map as_given c.load.new.report.gives)) asked settings (Ok c.in-Ok.loaded) is c.in-Ok.ensures;
    }

pub returns-in-Err-NoMemory-clause-lawful : goal.returns-in-Err-NoMemory-clause-lawful
returns-in-Err-NoMemory-clause-lawful g c =
    let before = registered (λ b. (goal.Handler-dyn g (b.vtable, b.value)).state b.value) c.args.registry.now in
    let after = registered (λ b. (goal.Handler-dyn g (b.vtable, b.value)).state b.value) c.load.new.registry in
    let settings = on g.K.Backend.contents (g.B.Flash.device c.args.bench.now) (g.K.Backend.mounted_on c.args.settings.now.backend) in
    let asked = option_map (λ name. name.now) c.as_ref.result in
    λ limit is lawful.
    (c.lawful_registry.ensures limit before lawful).load_ends (g.K.Backend.runs c.args.settings.now.backend) after (Some (map as_given c.new.result)) (Some (map as_given c.load.new.report.gives)) asked settings c.load.result is c.load.ensures
