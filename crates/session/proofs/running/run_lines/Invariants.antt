use Rattle.std.proofs.Common.{◌≡◌, All}
use Rattle.handlers.specs.Registry.{registered}
use Rattle.settings_core.specs.Saving.{AreLawful}
use Rattle.session.specs.Handling.{boxes}
use Rattle.session.specs.OnMap.{IsFresh, IsReady, kinds, limit_of, meanings, moment}
use Rattle.session.proofs.FoldLemmas.{MovedTo, RanTo}
use Rattle.session.proofs.OwesLemmas.{BoundTo}
use Rattle.session.specs.Owing.{map_boot}
use Rattle.session.proofs.running.run_lines.Given as goal

abbrev pub invariant-loop-line : goal.invariant-loop-line
invariant-loop-line g l =
    let first = g.B.Flash.device l.fn.bench in
    let now = g.B.Flash.device l.bench in
    RanTo (meanings g.K.Backend.contents g.K.Backend.room g.K.Backend.chance g.K.Backend.tears) g.K.Backend.damage g.K.Backend.rests l.map l.lines l.line-index l.answers
    (moment first (registered (λ b. (goal.Handler-dyn g (b.vtable, b.value)).state b.value) l.fn.registry) (kinds (λ b. (goal.Handler-dyn g (b.vtable, b.value)).state b.value) l.fn.pool.items)) (moment now (registered (λ b. (goal.Handler-dyn g (b.vtable, b.value)).state b.value) l.registry) (kinds (λ b. (goal.Handler-dyn g (b.vtable, b.value)).state b.value) l.pool.items))
    × (now.banks ≡ first.banks)
    × IsReady g.K.Backend.mounted_on g.K.Backend.stands g.K.Backend.runs l.map now l.session.selector l.session.active l.session.settings
    × All (IsFresh (λ b. (goal.Handler-dyn g (b.vtable, b.value)).state b.value)) l.pool.items
    × AreLawful (limit_of l.map) (registered (λ b. (goal.Handler-dyn g (b.vtable, b.value)).state b.value) l.registry)
    × MovedTo (λ b. (goal.Handler-dyn g (b.vtable, b.value)).state b.value) (meanings g.K.Backend.contents g.K.Backend.room g.K.Backend.chance g.K.Backend.tears) g.K.Backend.damage g.K.Backend.rests l.map l.lines l.line-index l.answers (boxes first l.fn.registry l.fn.pool.items) (boxes now l.registry l.pool.items)
    × BoundTo g.K.Backend.owes (map_boot g.K.Backend.boot_units first.banks l.map) l.map l.lines l.line-index l.answers first now
