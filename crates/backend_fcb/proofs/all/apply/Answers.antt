use Rattle.std.proofs.Common.{List, ℕ, Option, Some, None, is_err, sym, ap, ◌∙◌}
use Rattle.std.specs.FinMap.{entries}
use Rattle.record_settings.specs.Settings.{with_setting}
use Rattle.backend_fcb.proofs.AllSteps.{updated, no-value, some-value}
use Rattle.backend_fcb.proofs.BodyOf.{named, unnamed}
use Rattle.backend_fcb.proofs.all.apply.Goals as goal

pub returns-in_default : goal.returns-in_default
returns-in_default c = λ settings same.
    same ∙ ap (λ (setting : Option (List ℕ × List ℕ)). entries (with_setting settings setting)) (sym c.in_default.ensures)

pub returns-in_default-read : goal.returns-in_default-read
returns-in_default-read c = λ settings same.
    let parts = c.in-Some.parts in
    same
    ∙ ap (λ (setting : Option (List ℕ × List ℕ)). entries (with_setting settings setting))
    (sym (c.in-Some.ensures ∙ unnamed parts.name.now parts.value.now c.read.result (ap is_err c.in_default-read.is) c.read.ensures.names.1))

pub returns-then-is_empty : goal.returns-then-is_empty
returns-then-is_empty c = λ settings same.
    let parts = c.in-Some.parts in
    updated c.args.found.now c.remove.new.self c.in-Ok.name parts.value.now None (no-value parts.value.now (sym c.is_empty.ensures ∙ c.if-is_empty.true)) c.remove.ensures.ordered c.remove.ensures.updates settings same
    ∙ ap (λ (name : List ℕ). entries (with_setting settings (Some (name, parts.value.now)))) c.in-Ok.ensures.reads.0
    ∙ ap (λ (setting : Option (List ℕ × List ℕ)). entries (with_setting settings setting)) (sym (c.in-Some.ensures ∙ named parts.name.now parts.value.now c.in-Ok.ensures.reads.1))

pub returns-in-Ok-insert : goal.returns-in-Ok-insert
returns-in-Ok-insert c = λ settings same.
    let parts = c.in-Some.parts in
    updated c.args.found.now c.insert.new.self c.in-Ok.name parts.value.now (Some parts.value) (some-value parts.value.now (sym c.is_empty.ensures ∙ c.if-is_empty.false)) c.insert.ensures.ordered c.in-Ok-insert.ensures.updates settings same
    ∙ ap (λ (name : List ℕ). entries (with_setting settings (Some (name, parts.value.now)))) c.in-Ok.ensures.reads.0
    ∙ ap (λ (setting : Option (List ℕ × List ℕ)). entries (with_setting settings setting)) (sym (c.in-Some.ensures ∙ named parts.name.now parts.value.now c.in-Ok.ensures.reads.1))
