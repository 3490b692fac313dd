use Rattle.std.proofs.Common.{arith}
use Rattle.std.proofs.Common.{◌≡◌, true, false, refl, rules}
use Rattle.script_lines.specs.declared.line.Line.TheVariants.{Migrate}
use Rattle.script_lines.specs.declared.answer.Answer.TheVariants.{Off}
use Rattle.session_table.specs.Step.{needs_power}
use Rattle.session.specs.OnMap.{is_local, meanings}
use Rattle.session.proofs.MovesLemmas.{local_left, moves_as, moves_off, moves_unpowered, none_left}
use Rattle.session.proofs.QuietLemmas.{off}
use Rattle.session.proofs.ReadyLemmas.{carried, carried_if, carried_if_beside, mount_needs_none, mount_not_local, not_local, off_none, plain_powered}
use Rattle.session.proofs.session.Session.carry_out.Goals as goal

pub returns-then-not-needs_power-clause-done : goal.returns-then-not-needs_power-clause-done
returns-then-not-needs_power-clause-done g c =
    carried_if_beside (meanings g.K.Backend.contents g.K.Backend.room g.K.Backend.chance g.K.Backend.tears) g.K.Backend.damage c.args.map.now c.args.line.now c.args.line.now (g.B.Flash.device c.args.bench.now) (g.B.Flash.device c.without_power.new.bench) _ _ refl c.without_power.result c.without_power.ensures.done

pub returns-then-not-is_on-clause-done : goal.returns-then-not-is_on-clause-done
returns-then-not-is_on-clause-done g c =
    let d = g.B.Flash.device c.args.bench.now in
    let needs : needs_power c.args.line.now ≡ true = search rules in
    let dark : d.is_on ≡ false = search rules in
    carried (meanings g.K.Backend.contents g.K.Backend.room g.K.Backend.chance g.K.Backend.tears) g.K.Backend.damage c.args.map.now c.args.line.now d d Off (mount_needs_none c.args.line.now needs) (λ replans. absurd (replans (plain_powered c.args.line.now needs))) (λ was. was) (λ none s is. refl) (off_none (meanings g.K.Backend.contents g.K.Backend.room g.K.Backend.chance g.K.Backend.tears) c.args.map.now c.args.line.now d d)
    (off g.K.Backend.contents g.K.Backend.room g.K.Backend.chance g.K.Backend.tears c.args.map.now d c.args.line.now dark needs) _ _

pub returns-then-is_local-clause-done : goal.returns-then-is_local-clause-done
returns-then-is_local-clause-done g c =
    let needs : needs_power c.args.line.now ≡ true = search rules in
    let local : is_local c.args.line.now ≡ true = search rules in
    carried_if (meanings g.K.Backend.contents g.K.Backend.room g.K.Backend.chance g.K.Backend.tears) g.K.Backend.damage c.args.map.now c.args.line.now (g.B.Flash.device c.args.bench.now) (g.B.Flash.device c.on_active.new.bench) g.K.Backend.serves c.on_active.result _ _ _ _ c.requires.map (g.met.B.Flash.is_lawful c.args.bench.now) (g.met.B.Flash.is_lawful c.on_active.new.bench) local (mount_not_local c.args.line.now local) (plain_powered c.args.line.now needs) c.on_active.ensures.leaves.undamaged c.on_active.ensures.done

pub returns-else-is_local-clause-done : goal.returns-else-is_local-clause-done
returns-else-is_local-clause-done g c =
    let needs : needs_power c.args.line.now ≡ true = search rules in
    let local : is_local c.args.line.now ≡ false = search rules in
    carried_if_beside (meanings g.K.Backend.contents g.K.Backend.room g.K.Backend.chance g.K.Backend.tears) g.K.Backend.damage c.args.map.now c.args.line.now Migrate (g.B.Flash.device c.args.bench.now) (g.B.Flash.device c.migrate.new.bench) _ _ (not_local c.args.line.now needs local) c.migrate.result c.migrate.ensures.done

pub returns-then-is_local-clause-stops : goal.returns-then-is_local-clause-stops
returns-then-is_local-clause-stops g c = c.on_active.ensures.stops

pub returns-then-is_local-clause-handlers : goal.returns-then-is_local-clause-handlers
returns-then-is_local-clause-handlers g c = c.on_active.ensures.handlers

pub returns-then-not-needs_power-clause-handlers : goal.returns-then-not-needs_power-clause-handlers
returns-then-not-needs_power-clause-handlers g c = c.requires.handlers

pub returns-then-not-is_on-clause-handlers : goal.returns-then-not-is_on-clause-handlers
returns-then-not-is_on-clause-handlers g c = c.requires.handlers

pub returns-else-is_local-clause-handlers : goal.returns-else-is_local-clause-handlers
returns-else-is_local-clause-handlers g c = c.requires.handlers

pub returns-then-not-needs_power-clause-moves : goal.returns-then-not-needs_power-clause-moves
returns-then-not-needs_power-clause-moves g c =
    let none : needs_power c.args.line.now ≡ false = search rules in
    none_left (λ b. (goal.Handler-dyn g (b.vtable, b.value)).state b.value) c.args.line.now c.without_power.result c.args.pool.now.items c.args.registry.now
    (moves_unpowered (λ b. (goal.Handler-dyn g (b.vtable, b.value)).state b.value) c.args.pool.now.items c.args.registry.now c.args.line.now c.without_power.result none)

pub returns-then-not-is_on-clause-moves : goal.returns-then-not-is_on-clause-moves
returns-then-not-is_on-clause-moves g c = moves_off (λ b. (goal.Handler-dyn g (b.vtable, b.value)).state b.value) c.args.line.now c.args.pool.now.items c.args.registry.now

pub returns-then-is_local-clause-moves : goal.returns-then-is_local-clause-moves
returns-then-is_local-clause-moves g c =
    let local : is_local c.args.line.now ≡ true = search rules in
    local_left (λ b. (goal.Handler-dyn g (b.vtable, b.value)).state b.value) (meanings g.K.Backend.contents g.K.Backend.room g.K.Backend.chance g.K.Backend.tears) g.K.Backend.damage c.args.map.now c.args.line.now (g.B.Flash.device c.args.bench.now) (g.B.Flash.device c.on_active.new.bench) c.on_active.result c.args.pool.now.items c.on_active.new.pool.items c.args.registry.now c.on_active.new.registry local c.on_active.ensures.stops c.on_active.ensures.moves

pub returns-else-is_local-clause-moves : goal.returns-else-is_local-clause-moves
returns-else-is_local-clause-moves g c =
    let needs : needs_power c.args.line.now ≡ true = search rules in
    let local : is_local c.args.line.now ≡ false = search rules in
    none_left (λ b. (goal.Handler-dyn g (b.vtable, b.value)).state b.value) c.args.line.now c.migrate.result c.args.pool.now.items c.args.registry.now
    (moves_as (λ b. (goal.Handler-dyn g (b.vtable, b.value)).state b.value) c.args.pool.now.items c.args.registry.now c.args.registry.now c.args.line.now Migrate c.migrate.result (not_local c.args.line.now needs local) (λ answer. (refl, refl)))

pub returns-then-not-needs_power-clause-boots : goal.returns-then-not-needs_power-clause-boots
returns-then-not-needs_power-clause-boots g c = c.without_power.ensures.boots

pub returns-then-not-needs_power-clause-leaves : goal.returns-then-not-needs_power-clause-leaves
returns-then-not-needs_power-clause-leaves g c = record {
  undamaged = c.without_power.ensures.leaves.undamaged;
  owed = λ most limit owes. c.without_power.ensures.leaves.owed most (omega arith) owes;
}

pub returns-then-not-is_on-clause-boots : goal.returns-then-not-is_on-clause-boots
returns-then-not-is_on-clause-boots g c is =
    let needs : needs_power c.args.line.now ≡ true = search rules in
    absurd (mount_needs_none c.args.line.now needs is)

pub returns-then-not-is_on-clause-leaves : goal.returns-then-not-is_on-clause-leaves
returns-then-not-is_on-clause-leaves g c = record { undamaged = λ was. was; owed = λ most limit owes. owes }

pub returns-then-is_local-clause-boots : goal.returns-then-is_local-clause-boots
returns-then-is_local-clause-boots g c is =
    let local : is_local c.args.line.now ≡ true = search rules in
    absurd (mount_not_local c.args.line.now local is)

pub returns-then-is_local-clause-leaves : goal.returns-then-is_local-clause-leaves
returns-then-is_local-clause-leaves g c = c.on_active.ensures.leaves

pub returns-else-is_local-clause-boots : goal.returns-else-is_local-clause-boots
returns-else-is_local-clause-boots g c is =
    let needs : needs_power c.args.line.now ≡ true = search rules in
    absurd (mount_needs_none c.args.line.now needs is)

pub returns-else-is_local-clause-leaves : goal.returns-else-is_local-clause-leaves
returns-else-is_local-clause-leaves g c = c.migrate.ensures.leaves
