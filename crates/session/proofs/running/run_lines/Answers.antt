-- the mount, then each line, is carried out behind those before it, or stops
use Rattle.session.proofs.OwesLemmas.{boots-all, boots-first, boots-more, boots-stop, limit-still}
use Rattle.session.specs.Owing.{map_boot}
use Rattle.std.proofs.Common.{◌∷◌, ◌++◌, ◌∙◌, ◌+◌, ◌≤◌, length, [], arith, refl}
use Rattle.handlers.specs.Registry.{registered}
use Rattle.session.specs.Handling.{boxes}
use Rattle.session.specs.OnMap.{kinds, meanings, moment}
use Rattle.session.proofs.FoldLemmas.{left_at, left_first, moved, moves_more, opened, opened_moves, one_more, ran, undamaged, stops_first, stops_at, stops_behind, no_damage}
use Rattle.session.proofs.ReadyLemmas.{ready_rests}
use Rattle.session.proofs.TextLemmas.{can_report_all}
use Rattle.script_lines.specs.declared.line.Line.TheVariants.{Mount}
use Rattle.session.proofs.running.run_lines.Goals as goal

pub returns-in-Err-clause-ends : goal.returns-in-Err-clause-ends
returns-in-Err-clause-ends g c = stops_first (meanings g.K.Backend.contents g.K.Backend.room g.K.Backend.chance g.K.Backend.tears) g.K.Backend.damage g.K.Backend.rests c.args.map.now c.args.lines.now (moment (g.B.Flash.device c.args.bench.now) (registered (λ b. (goal.Handler-dyn g (b.vtable, b.value)).state b.value) c.args.registry.now) (kinds (λ b. (goal.Handler-dyn g (b.vtable, b.value)).state b.value) c.args.pool.items)) (g.B.Flash.device c.open-opened.new.bench) (registered (λ b. (goal.Handler-dyn g (b.vtable, b.value)).state b.value) c.args.registry.now) c.in-Err.fault c.in-Err.ensures.stops

pub returns-in-Err-clause-moves : goal.returns-in-Err-clause-moves
returns-in-Err-clause-moves g c = left_first (λ b. (goal.Handler-dyn g (b.vtable, b.value)).state b.value) (meanings g.K.Backend.contents g.K.Backend.room g.K.Backend.chance g.K.Backend.tears) g.K.Backend.damage g.K.Backend.rests c.args.map.now c.args.lines.now (boxes (g.B.Flash.device c.args.bench.now) c.args.registry.now c.args.pool.items) (g.B.Flash.device c.open-opened.new.bench) c.in-Err.fault c.in-Err.ensures.stops

pub returns-in-Err-push-clause-moves : goal.returns-in-Err-push-clause-moves
returns-in-Err-push-clause-moves g c = tt

pub returns-in-Err-carry_out-clause-moves : goal.returns-in-Err-carry_out-clause-moves
returns-in-Err-carry_out-clause-moves g c =
    left_at (λ b. (goal.Handler-dyn g (b.vtable, b.value)).state b.value) (meanings g.K.Backend.contents g.K.Backend.room g.K.Backend.chance g.K.Backend.tears) g.K.Backend.damage g.K.Backend.rests c.args.map.now c.args.lines.now c.loop-line.line-index c.line-item.result c.loop-line.answers (boxes (g.B.Flash.device c.args.bench.now) c.args.registry.now c.args.pool.items) (boxes (g.B.Flash.device c.loop-line.bench) c.loop-line.registry c.loop-line.pool.items) (g.B.Flash.device c.carry_out.new.bench) c.carry_out.new.registry c.carry_out.new.pool.items c.in-Err-carry_out.fault
    c.loop-line-test.true c.line-item.is c.loop-line.invariant.5 c.in-Err-carry_out.ensures.stops c.in-Err-carry_out.ensures.moves

pub returns-in-Err-push-2-clause-moves : goal.returns-in-Err-push-2-clause-moves
returns-in-Err-push-2-clause-moves g c = tt

pub returns-in-Err-clause-serves : goal.returns-in-Err-clause-serves
returns-in-Err-clause-serves g c = λ none. no_damage (meanings g.K.Backend.contents g.K.Backend.room g.K.Backend.chance g.K.Backend.tears) g.K.Backend.damage c.args.map.now Mount (g.B.Flash.device c.args.bench.now) (g.B.Flash.device c.open-opened.new.bench) c.in-Err.fault none c.in-Err.ensures.stops

pub returns-in-Err-push-clause-ends : goal.returns-in-Err-push-clause-ends
returns-in-Err-push-clause-ends g c =
    let rests_behind = ready_rests g.K.Backend.mounted_on g.K.Backend.stands g.K.Backend.runs g.K.Backend.rests g.met.K.Backend.stands_rests c.args.map.now (g.B.Flash.device c.open-opened.new.bench) c.in-Ok.opened.0.selector c.in-Ok.opened.0.active c.in-Ok.opened.0.settings c.in-Ok.ensures.ready in
    let here = opened (meanings g.K.Backend.contents g.K.Backend.room g.K.Backend.chance g.K.Backend.tears) g.K.Backend.damage g.K.Backend.rests c.args.map.now c.args.lines.now c.in-Ok.opened.1 (moment (g.B.Flash.device c.args.bench.now) (registered (λ b. (goal.Handler-dyn g (b.vtable, b.value)).state b.value) c.args.registry.now) (kinds (λ b. (goal.Handler-dyn g (b.vtable, b.value)).state b.value) c.args.pool.items)) (moment (g.B.Flash.device c.open-opened.new.bench) (registered (λ b. (goal.Handler-dyn g (b.vtable, b.value)).state b.value) c.args.registry.now) (kinds (λ b. (goal.Handler-dyn g (b.vtable, b.value)).state b.value) c.args.pool.items)) (record { carried = c.in-Ok.ensures.done (registered (λ b. (goal.Handler-dyn g (b.vtable, b.value)).state b.value) c.args.registry.now) (kinds (λ b. (goal.Handler-dyn g (b.vtable, b.value)).state b.value) c.args.pool.items); idle = λ is rest. c.in-Ok.ensures.rests rest; at_rest = rests_behind }) in
    stops_behind (meanings g.K.Backend.contents g.K.Backend.room g.K.Backend.chance g.K.Backend.tears) g.K.Backend.damage g.K.Backend.rests c.args.map.now c.args.lines.now 0 ([] ++ c.in-Ok.opened.1 ∷ []) (moment (g.B.Flash.device c.args.bench.now) (registered (λ b. (goal.Handler-dyn g (b.vtable, b.value)).state b.value) c.args.registry.now) (kinds (λ b. (goal.Handler-dyn g (b.vtable, b.value)).state b.value) c.args.pool.items)) (moment (g.B.Flash.device c.open-opened.new.bench) (registered (λ b. (goal.Handler-dyn g (b.vtable, b.value)).state b.value) c.args.registry.now) (kinds (λ b. (goal.Handler-dyn g (b.vtable, b.value)).state b.value) c.args.pool.items)) (registered (λ b. (goal.Handler-dyn g (b.vtable, b.value)).state b.value) c.args.registry.now) here

pub loop-line-init : goal.loop-line-init
loop-line-init g c =
    let rests_behind = ready_rests g.K.Backend.mounted_on g.K.Backend.stands g.K.Backend.runs g.K.Backend.rests g.met.K.Backend.stands_rests c.args.map.now (g.B.Flash.device c.open-opened.new.bench) c.in-Ok.opened.0.selector c.in-Ok.opened.0.active c.in-Ok.opened.0.settings c.in-Ok.ensures.ready in
    let done = c.in-Ok.ensures.done (registered (λ b. (goal.Handler-dyn g (b.vtable, b.value)).state b.value) c.args.registry.now) (kinds (λ b. (goal.Handler-dyn g (b.vtable, b.value)).state b.value) c.args.pool.items) in
    let here = opened (meanings g.K.Backend.contents g.K.Backend.room g.K.Backend.chance g.K.Backend.tears) g.K.Backend.damage g.K.Backend.rests c.args.map.now c.args.lines.now c.in-Ok.opened.1 (moment (g.B.Flash.device c.args.bench.now) (registered (λ b. (goal.Handler-dyn g (b.vtable, b.value)).state b.value) c.args.registry.now) (kinds (λ b. (goal.Handler-dyn g (b.vtable, b.value)).state b.value) c.args.pool.items)) (moment (g.B.Flash.device c.open-opened.new.bench) (registered (λ b. (goal.Handler-dyn g (b.vtable, b.value)).state b.value) c.args.registry.now) (kinds (λ b. (goal.Handler-dyn g (b.vtable, b.value)).state b.value) c.args.pool.items)) (record { carried = done; idle = λ is rest. c.in-Ok.ensures.rests rest; at_rest = rests_behind }) in
    let moves = opened_moves (λ b. (goal.Handler-dyn g (b.vtable, b.value)).state b.value) (meanings g.K.Backend.contents g.K.Backend.room g.K.Backend.chance g.K.Backend.tears) g.K.Backend.damage g.K.Backend.rests c.args.map.now c.args.lines.now c.in-Ok.opened.1 (boxes (g.B.Flash.device c.args.bench.now) c.args.registry.now c.args.pool.items) (boxes (g.B.Flash.device c.open-opened.new.bench) c.args.registry.now c.args.pool.items) (record { ran = record { carried = done; idle = λ is rest. c.in-Ok.ensures.rests rest; at_rest = rests_behind }; moves = (refl, refl) }) in
    let d = g.B.Flash.device c.args.bench.now in
    let boots = boots-first g.K.Backend.owes (map_boot g.K.Backend.boot_units d.banks c.args.map.now) c.args.map.now c.args.lines.now c.in-Ok.opened.1 d (g.B.Flash.device c.open-opened.new.bench) c.in-Ok.ensures.boots c.open-opened.ensures.leaves.owed in
    (rw (c.in-Ok-push.ensures.ok, c.new-answers.ensures) here, done.done.keeps.banks, c.in-Ok.ensures.ready, c.requires.pool, c.requires.registry, rw (c.in-Ok-push.ensures.ok, c.new-answers.ensures) moves, rw (c.in-Ok-push.ensures.ok, c.new-answers.ensures) boots)

pub returns-in-Err-carry_out-clause-ends : goal.returns-in-Err-carry_out-clause-ends
returns-in-Err-carry_out-clause-ends g c =
    stops_at (meanings g.K.Backend.contents g.K.Backend.room g.K.Backend.chance g.K.Backend.tears) g.K.Backend.damage g.K.Backend.rests c.args.map.now c.args.lines.now c.loop-line.line-index c.line-item.result c.loop-line.answers (moment (g.B.Flash.device c.args.bench.now) (registered (λ b. (goal.Handler-dyn g (b.vtable, b.value)).state b.value) c.args.registry.now) (kinds (λ b. (goal.Handler-dyn g (b.vtable, b.value)).state b.value) c.args.pool.items)) (moment (g.B.Flash.device c.loop-line.bench) (registered (λ b. (goal.Handler-dyn g (b.vtable, b.value)).state b.value) c.loop-line.registry) (kinds (λ b. (goal.Handler-dyn g (b.vtable, b.value)).state b.value) c.loop-line.pool.items)) (g.B.Flash.device c.carry_out.new.bench) (registered (λ b. (goal.Handler-dyn g (b.vtable, b.value)).state b.value) c.carry_out.new.registry) c.in-Err-carry_out.fault
    c.loop-line-test.true c.line-item.is c.loop-line.invariant.0 c.in-Err-carry_out.ensures.stops

pub returns-in-Err-carry_out-clause-undamaged : goal.returns-in-Err-carry_out-clause-undamaged
returns-in-Err-carry_out-clause-undamaged g c = λ was. c.carry_out.ensures.leaves.undamaged (undamaged (meanings g.K.Backend.contents g.K.Backend.room g.K.Backend.chance g.K.Backend.tears) g.K.Backend.damage g.K.Backend.rests c.args.map.now c.args.lines.now c.loop-line.line-index c.loop-line.answers (moment (g.B.Flash.device c.args.bench.now) (registered (λ b. (goal.Handler-dyn g (b.vtable, b.value)).state b.value) c.args.registry.now) (kinds (λ b. (goal.Handler-dyn g (b.vtable, b.value)).state b.value) c.args.pool.items)) (moment (g.B.Flash.device c.loop-line.bench) (registered (λ b. (goal.Handler-dyn g (b.vtable, b.value)).state b.value) c.loop-line.registry) (kinds (λ b. (goal.Handler-dyn g (b.vtable, b.value)).state b.value) c.loop-line.pool.items)) c.loop-line.invariant.0 was)

pub returns-in-Err-carry_out-clause-serves : goal.returns-in-Err-carry_out-clause-serves
returns-in-Err-carry_out-clause-serves g c = λ was.
    no_damage (meanings g.K.Backend.contents g.K.Backend.room g.K.Backend.chance g.K.Backend.tears) g.K.Backend.damage c.args.map.now c.line-item.result (g.B.Flash.device c.loop-line.bench) (g.B.Flash.device c.carry_out.new.bench) c.in-Err-carry_out.fault (undamaged (meanings g.K.Backend.contents g.K.Backend.room g.K.Backend.chance g.K.Backend.tears) g.K.Backend.damage g.K.Backend.rests c.args.map.now c.args.lines.now c.loop-line.line-index c.loop-line.answers (moment (g.B.Flash.device c.args.bench.now) (registered (λ b. (goal.Handler-dyn g (b.vtable, b.value)).state b.value) c.args.registry.now) (kinds (λ b. (goal.Handler-dyn g (b.vtable, b.value)).state b.value) c.args.pool.items)) (moment (g.B.Flash.device c.loop-line.bench) (registered (λ b. (goal.Handler-dyn g (b.vtable, b.value)).state b.value) c.loop-line.registry) (kinds (λ b. (goal.Handler-dyn g (b.vtable, b.value)).state b.value) c.loop-line.pool.items)) c.loop-line.invariant.0 was) c.in-Err-carry_out.ensures.stops

pub returns-in-Err-push-2-clause-ends : goal.returns-in-Err-push-2-clause-ends
returns-in-Err-push-2-clause-ends g c =
    let rests_behind = ready_rests g.K.Backend.mounted_on g.K.Backend.stands g.K.Backend.runs g.K.Backend.rests g.met.K.Backend.stands_rests c.args.map.now (g.B.Flash.device c.carry_out.new.bench) c.carry_out.new.self.selector c.carry_out.new.self.active c.carry_out.new.self.settings c.in-Ok-carry_out.ensures.ready in
    let here = one_more (meanings g.K.Backend.contents g.K.Backend.room g.K.Backend.chance g.K.Backend.tears) g.K.Backend.damage g.K.Backend.rests c.args.map.now c.args.lines.now c.loop-line.line-index c.line-item.result c.loop-line.answers c.in-Ok-carry_out.answer (moment (g.B.Flash.device c.args.bench.now) (registered (λ b. (goal.Handler-dyn g (b.vtable, b.value)).state b.value) c.args.registry.now) (kinds (λ b. (goal.Handler-dyn g (b.vtable, b.value)).state b.value) c.args.pool.items)) (moment (g.B.Flash.device c.loop-line.bench) (registered (λ b. (goal.Handler-dyn g (b.vtable, b.value)).state b.value) c.loop-line.registry) (kinds (λ b. (goal.Handler-dyn g (b.vtable, b.value)).state b.value) c.loop-line.pool.items)) (moment (g.B.Flash.device c.carry_out.new.bench) (registered (λ b. (goal.Handler-dyn g (b.vtable, b.value)).state b.value) c.carry_out.new.registry) (kinds (λ b. (goal.Handler-dyn g (b.vtable, b.value)).state b.value) c.carry_out.new.pool.items)) c.loop-line-test.true c.line-item.is c.loop-line.invariant.0 (record { carried = c.in-Ok-carry_out.ensures.done; idle = c.in-Ok-carry_out.ensures.rests; at_rest = rests_behind }) in
    stops_behind (meanings g.K.Backend.contents g.K.Backend.room g.K.Backend.chance g.K.Backend.tears) g.K.Backend.damage g.K.Backend.rests c.args.map.now c.args.lines.now (c.loop-line.line-index + 1) (c.loop-line.answers ++ c.in-Ok-carry_out.answer ∷ []) (moment (g.B.Flash.device c.args.bench.now) (registered (λ b. (goal.Handler-dyn g (b.vtable, b.value)).state b.value) c.args.registry.now) (kinds (λ b. (goal.Handler-dyn g (b.vtable, b.value)).state b.value) c.args.pool.items)) (moment (g.B.Flash.device c.carry_out.new.bench) (registered (λ b. (goal.Handler-dyn g (b.vtable, b.value)).state b.value) c.carry_out.new.registry) (kinds (λ b. (goal.Handler-dyn g (b.vtable, b.value)).state b.value) c.carry_out.new.pool.items)) (registered (λ b. (goal.Handler-dyn g (b.vtable, b.value)).state b.value) c.carry_out.new.registry) here

pub returns-in-Err-push-2-clause-undamaged : goal.returns-in-Err-push-2-clause-undamaged
returns-in-Err-push-2-clause-undamaged g c = λ was. c.carry_out.ensures.leaves.undamaged (undamaged (meanings g.K.Backend.contents g.K.Backend.room g.K.Backend.chance g.K.Backend.tears) g.K.Backend.damage g.K.Backend.rests c.args.map.now c.args.lines.now c.loop-line.line-index c.loop-line.answers (moment (g.B.Flash.device c.args.bench.now) (registered (λ b. (goal.Handler-dyn g (b.vtable, b.value)).state b.value) c.args.registry.now) (kinds (λ b. (goal.Handler-dyn g (b.vtable, b.value)).state b.value) c.args.pool.items)) (moment (g.B.Flash.device c.loop-line.bench) (registered (λ b. (goal.Handler-dyn g (b.vtable, b.value)).state b.value) c.loop-line.registry) (kinds (λ b. (goal.Handler-dyn g (b.vtable, b.value)).state b.value) c.loop-line.pool.items)) c.loop-line.invariant.0 was)

pub loop-line-preserved : goal.loop-line-preserved
loop-line-preserved g c =
    let rests_behind = ready_rests g.K.Backend.mounted_on g.K.Backend.stands g.K.Backend.runs g.K.Backend.rests g.met.K.Backend.stands_rests c.args.map.now (g.B.Flash.device c.carry_out.new.bench) c.carry_out.new.self.selector c.carry_out.new.self.active c.carry_out.new.self.settings c.in-Ok-carry_out.ensures.ready in
    let done = c.in-Ok-carry_out.ensures.done in
    let here = one_more (meanings g.K.Backend.contents g.K.Backend.room g.K.Backend.chance g.K.Backend.tears) g.K.Backend.damage g.K.Backend.rests c.args.map.now c.args.lines.now c.loop-line.line-index c.line-item.result c.loop-line.answers c.in-Ok-carry_out.answer (moment (g.B.Flash.device c.args.bench.now) (registered (λ b. (goal.Handler-dyn g (b.vtable, b.value)).state b.value) c.args.registry.now) (kinds (λ b. (goal.Handler-dyn g (b.vtable, b.value)).state b.value) c.args.pool.items)) (moment (g.B.Flash.device c.loop-line.bench) (registered (λ b. (goal.Handler-dyn g (b.vtable, b.value)).state b.value) c.loop-line.registry) (kinds (λ b. (goal.Handler-dyn g (b.vtable, b.value)).state b.value) c.loop-line.pool.items)) (moment (g.B.Flash.device c.carry_out.new.bench) (registered (λ b. (goal.Handler-dyn g (b.vtable, b.value)).state b.value) c.carry_out.new.registry) (kinds (λ b. (goal.Handler-dyn g (b.vtable, b.value)).state b.value) c.carry_out.new.pool.items)) c.loop-line-test.true c.line-item.is c.loop-line.invariant.0 (record { carried = done; idle = c.in-Ok-carry_out.ensures.rests; at_rest = rests_behind }) in
    let moves = moves_more (λ b. (goal.Handler-dyn g (b.vtable, b.value)).state b.value) (meanings g.K.Backend.contents g.K.Backend.room g.K.Backend.chance g.K.Backend.tears) g.K.Backend.damage g.K.Backend.rests c.args.map.now c.args.lines.now c.loop-line.line-index c.line-item.result c.loop-line.answers c.in-Ok-carry_out.answer (boxes (g.B.Flash.device c.args.bench.now) c.args.registry.now c.args.pool.items) (boxes (g.B.Flash.device c.loop-line.bench) c.loop-line.registry c.loop-line.pool.items) (boxes (g.B.Flash.device c.carry_out.new.bench) c.carry_out.new.registry c.carry_out.new.pool.items) c.loop-line-test.true c.line-item.is c.loop-line.invariant.5 (record { ran = record { carried = done; idle = c.in-Ok-carry_out.ensures.rests; at_rest = rests_behind }; moves = c.in-Ok-carry_out.ensures.moves }) in
    let first = g.B.Flash.device c.args.bench.now in
    let mid = g.B.Flash.device c.loop-line.bench in
    let new = g.B.Flash.device c.carry_out.new.bench in
    let boots = boots-more g.K.Backend.owes (map_boot g.K.Backend.boot_units first.banks c.args.map.now) c.args.map.now c.args.lines.now c.loop-line.line-index c.line-item.result c.loop-line.answers c.in-Ok-carry_out.answer first mid new
    c.loop-line-test.true c.line-item.is c.loop-line.invariant.6 c.in-Ok-carry_out.ensures.boots (limit-still g.K.Backend.owes g.K.Backend.boot_units c.args.map.now first mid new c.loop-line.invariant.1 c.carry_out.ensures.leaves.owed) in
    (rw (c.in-Ok-push-2.ensures.ok) here, done.done.keeps.banks ∙ c.loop-line.invariant.1, c.in-Ok-carry_out.ensures.ready, c.carry_out.ensures.handlers.pool, c.carry_out.ensures.handlers.registry, rw (c.in-Ok-push-2.ensures.ok) moves, rw (c.in-Ok-push-2.ensures.ok) boots)

pub returns-clause-ends : goal.returns-clause-ends
returns-clause-ends g c =
    let all : length c.args.lines.now ≤ c.loop-line.line-index = omega (arith, c.loop-line-test.false) in
    ran (meanings g.K.Backend.contents g.K.Backend.room g.K.Backend.chance g.K.Backend.tears) g.K.Backend.damage g.K.Backend.rests c.args.map.now c.args.lines.now c.loop-line.line-index c.loop-line.answers (moment (g.B.Flash.device c.args.bench.now) (registered (λ b. (goal.Handler-dyn g (b.vtable, b.value)).state b.value) c.args.registry.now) (kinds (λ b. (goal.Handler-dyn g (b.vtable, b.value)).state b.value) c.args.pool.items)) (g.B.Flash.device c.loop-line.bench) (registered (λ b. (goal.Handler-dyn g (b.vtable, b.value)).state b.value) c.loop-line.registry) (kinds (λ b. (goal.Handler-dyn g (b.vtable, b.value)).state b.value) c.loop-line.pool.items) all c.loop-line.invariant.0

pub returns-clause-moves : goal.returns-clause-moves
returns-clause-moves g c =
    let all : length c.args.lines.now ≤ c.loop-line.line-index = omega (arith, c.loop-line-test.false) in
    moved (λ b. (goal.Handler-dyn g (b.vtable, b.value)).state b.value) (meanings g.K.Backend.contents g.K.Backend.room g.K.Backend.chance g.K.Backend.tears) g.K.Backend.damage g.K.Backend.rests c.args.map.now c.args.lines.now c.loop-line.line-index c.loop-line.answers (boxes (g.B.Flash.device c.args.bench.now) c.args.registry.now c.args.pool.items) (g.B.Flash.device c.loop-line.bench) c.loop-line.registry c.loop-line.pool.items all c.loop-line.invariant.5

pub returns-clause-texts : goal.returns-clause-texts
returns-clause-texts g c labels =
    can_report_all (meanings g.K.Backend.contents g.K.Backend.room g.K.Backend.chance g.K.Backend.tears) g.K.Backend.damage g.K.Backend.rests c.args.map.now c.requires.map.some labels (Mount ∷ c.args.lines.now) c.loop-line.answers _ _ (returns-clause-ends g c).1.in_turn

pub returns-clause-undamaged : goal.returns-clause-undamaged
returns-clause-undamaged g c = λ was. undamaged (meanings g.K.Backend.contents g.K.Backend.room g.K.Backend.chance g.K.Backend.tears) g.K.Backend.damage g.K.Backend.rests c.args.map.now c.args.lines.now c.loop-line.line-index c.loop-line.answers (moment (g.B.Flash.device c.args.bench.now) (registered (λ b. (goal.Handler-dyn g (b.vtable, b.value)).state b.value) c.args.registry.now) (kinds (λ b. (goal.Handler-dyn g (b.vtable, b.value)).state b.value) c.args.pool.items)) (moment (g.B.Flash.device c.loop-line.bench) (registered (λ b. (goal.Handler-dyn g (b.vtable, b.value)).state b.value) c.loop-line.registry) (kinds (λ b. (goal.Handler-dyn g (b.vtable, b.value)).state b.value) c.loop-line.pool.items)) c.loop-line.invariant.0 was

pub returns-clause-rests : goal.returns-clause-rests
returns-clause-rests g c = ready_rests g.K.Backend.mounted_on g.K.Backend.stands g.K.Backend.runs g.K.Backend.rests g.met.K.Backend.stands_rests c.args.map.now (g.B.Flash.device c.loop-line.bench) c.loop-line.session.selector c.loop-line.session.active c.loop-line.session.settings c.loop-line.invariant.2

pub carry_out-requires-clause-handlers : goal.carry_out-requires-clause-handlers
carry_out-requires-clause-handlers g c = record { registry = c.loop-line.invariant.4; pool = c.loop-line.invariant.3 }

pub returns-in-Err-clause-boots : goal.returns-in-Err-clause-boots
returns-in-Err-clause-boots g c most limit owes = (c.open-opened.ensures.leaves.owed most (omega arith) owes, tt)

pub returns-in-Err-push-clause-boots : goal.returns-in-Err-push-clause-boots
returns-in-Err-push-clause-boots g c most limit owes = (c.open-opened.ensures.leaves.owed most (omega arith) owes, tt)

pub returns-in-Err-carry_out-clause-boots : goal.returns-in-Err-carry_out-clause-boots
returns-in-Err-carry_out-clause-boots g c most limit owes =
    let first = g.B.Flash.device c.args.bench.now in
    let mid = g.B.Flash.device c.loop-line.bench in
    let new = g.B.Flash.device c.carry_out.new.bench in
    let left = boots-stop g.K.Backend.owes (map_boot g.K.Backend.boot_units first.banks c.args.map.now) c.args.map.now c.args.lines.now c.loop-line.line-index c.loop-line.answers first mid new c.loop-line.invariant.6
    (limit-still g.K.Backend.owes g.K.Backend.boot_units c.args.map.now first mid new c.loop-line.invariant.1 c.carry_out.ensures.leaves.owed) in
    (left most limit owes, tt)

pub returns-in-Err-push-2-clause-boots : goal.returns-in-Err-push-2-clause-boots
returns-in-Err-push-2-clause-boots g c most limit owes =
    let first = g.B.Flash.device c.args.bench.now in
    let mid = g.B.Flash.device c.loop-line.bench in
    let new = g.B.Flash.device c.carry_out.new.bench in
    let left = boots-stop g.K.Backend.owes (map_boot g.K.Backend.boot_units first.banks c.args.map.now) c.args.map.now c.args.lines.now c.loop-line.line-index c.loop-line.answers first mid new c.loop-line.invariant.6
    (limit-still g.K.Backend.owes g.K.Backend.boot_units c.args.map.now first mid new c.loop-line.invariant.1 c.carry_out.ensures.leaves.owed) in
    (left most limit owes, tt)

pub returns-clause-boots : goal.returns-clause-boots
returns-clause-boots g c =
    let all : length c.args.lines.now ≤ c.loop-line.line-index = omega (arith, c.loop-line-test.false) in
    let first = g.B.Flash.device c.args.bench.now in
    boots-all g.K.Backend.owes (map_boot g.K.Backend.boot_units first.banks c.args.map.now) c.args.map.now c.args.lines.now c.loop-line.line-index c.loop-line.answers first (g.B.Flash.device c.loop-line.bench) all c.loop-line.invariant.6
