use Rattle.std.proofs.Common.{◌≡◌, List, ℕ, true, Err, sym, ap, subst, ◌∙◌}
use Rattle.std.specs.Prelude.{IfOk, Result}
use Rattle.std.proofs.lemmas.Bool.{false≢true}
use Rattle.std.specs.List.{list_any}
use Rattle.std.specs.Str.{bytes_eq}
use Rattle.handlers.specs.Held.{fresh}
use Rattle.handlers.specs.Registry.{RegisterEnds, registered, subtrees}
use Rattle.flash_sim.specs.declared.flash.NoMemory.{NoMemory}
use Rattle.script_lines.specs.declared.answer.Answer.{Answer}
use Rattle.session.specs.Handling.{RegisterMoves}
use Rattle.session.proofs.MovesLemmas.{registers_taken}
use Rattle.session.proofs.PoolLemmas.{any-row, register-lawful}
use Rattle.session.proofs.handling.register_handler.Goals.{in-Ok, in-Err-NoMemory-default}
use Rattle.session.proofs.handling.register_handler.Goals as goal

pub unreachable-requires : goal.unreachable-requires
unreachable-requires g c =
    let rows = c.args.registry.now.rows.items in
    let ends = subst (λ result. RegisterEnds rows c.register.new.self.rows.items c.copy.result c.in-Some.handler result)
    (c.in-Err-Exists-default.is ∙ ap (λ fault. Err (fault, c.in-Err-Exists-default.field-0-1)) c.in-Err-Exists-default.field-0-0-is) c.register.ensures.ends in
    let has : list_any (bytes_eq c.args.subtree.now) (subtrees (registered (λ b. (goal.Handler-dyn g (b.vtable, b.value)).state b.value) c.args.registry.now)) ≡ true =
    sym (any-row (λ b. (goal.Handler-dyn g (b.vtable, b.value)).state b.value) c.args.subtree.now rows) ∙ ap (λ (subtree : List ℕ). list_any (λ row. bytes_eq subtree row.subtree) rows) (sym c.copy.ensures.value) ∙ ends.0 in
    false≢true (sym c.if-is_registered.false ∙ c.is_registered.ensures ∙ has)

pub returns-clause-lawful : goal.returns-clause-lawful
returns-clause-lawful g c =
    let rows = c.args.registry.now.rows.items in
    let new = (c.in-Some.ensures.new c.requires.pool).0 ∙ ap fresh c.in-Some.ensures.of_kind in
    λ limit lawful.
    register-lawful (λ b. (goal.Handler-dyn g (b.vtable, b.value)).state b.value) limit rows c.register.new.self.rows.items c.copy.result c.in-Some.handler c.args.kind c.register.result c.register.ensures.ends new lawful
    (c.lawful_registry.ensures limit (registered (λ b. (goal.Handler-dyn g (b.vtable, b.value)).state b.value) c.args.registry.now) lawful)

pub returns-clause-moves : goal.returns-clause-moves
returns-clause-moves g c = elim c.match-register.branch [
  | in-Ok w ↦
      subst (λ (r : Result Answer NoMemory). IfOk r (λ answer. RegisterMoves (λ b. (goal.Handler-dyn g (b.vtable, b.value)).state b.value) c.args.subtree.now c.args.kind answer c.args.pool.now.items c.take_first.new.pool.items c.args.registry.now c.register.new.self)) (sym w.result-is)
      (registers_taken (λ b. (goal.Handler-dyn g (b.vtable, b.value)).state b.value) c.args.subtree.now c.copy.result c.args.kind c.args.pool.now.items c.take_first.new.pool.items c.in-Some.handler c.args.registry.now.rows.items c.register.new.self.rows.items c.copy.ensures.value c.in-Some.ensures w.in-Ok.ensures.ends.1)
  | in-Err-NoMemory-default w ↦
      subst (λ (r : Result Answer NoMemory). IfOk r (λ answer. RegisterMoves (λ b. (goal.Handler-dyn g (b.vtable, b.value)).state b.value) c.args.subtree.now c.args.kind answer c.args.pool.now.items c.take_first.new.pool.items c.args.registry.now c.register.new.self)) (sym w.result-is) tt
]
