use Rattle.std.proofs.Common.{ℕ, Option, length, sym, ◌∙◌, ap, arith}
use Rattle.std.specs.Option.{option_map}
use Rattle.flash_map.specs.declared.faults.Damaged.{Damaged}
use Rattle.fcb_ring.specs.Rings.{shows}
use Rattle.fcb_ring.proofs.PlaceLemmas.{find_first, find_nothing, range_more}
use Rattle.fcb_ring.proofs.sequence.first_of.Goals as goal

pub returns-then-shows : goal.returns-then-shows
returns-then-shows c =
    let named : ℕ → Damaged = λ place. record { sector = place; why = c.args.why } in
    sym (ap (λ (o : Option ℕ). option_map named o) (find_first (shows c.args.why c.args.states.now) 0 (length c.args.states.now) c.loop-place.place (omega arith) (omega arith) (sym c.shows.ensures ∙ c.if-shows.true) c.loop-place.invariant))

pub loop-place-preserved : goal.loop-place-preserved
loop-place-preserved c = range_more (shows c.args.why c.args.states.now) 0 c.loop-place.place c.loop-place.invariant (sym c.shows.ensures ∙ c.if-shows.false)

pub returns : goal.returns
returns c =
    let named : ℕ → Damaged = λ place. record { sector = place; why = c.args.why } in
    sym (ap (λ (o : Option ℕ). option_map named o) (find_nothing (shows c.args.why c.args.states.now) 0 (length c.args.states.now) (λ k low high. c.loop-place.invariant k low (omega arith))))
