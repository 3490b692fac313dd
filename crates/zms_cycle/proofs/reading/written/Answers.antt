use Rattle.std.proofs.Common.{length, ◌-◌, ◌+◌, ◌*◌, ap, refl, sym, ◌∙◌, arith}
use Rattle.std.proofs.lemmas.List.{length-take-le}
use Rattle.flash_sim.specs.declared.flash.Kind.{Kind}
use Rattle.zms_cycle.specs.Sector.{written}
use Rattle.zms_cycle.proofs.ErasedSlots.{written-never, written_from}
use Rattle.zms_cycle.proofs.Scanning.{listed_fits}
use Rattle.zms_cycle.proofs.reading.written.Goals as goal

pub overflow_add-low : goal.overflow_add-low
overflow_add-low c = let fits = listed_fits c.args.sector.now c.args.slots c.requires.long c.requires.slots in omega (arith, fits, c.requires.short)

pub overflow_sub-low : goal.overflow_sub-low
overflow_sub-low c = let fits = listed_fits c.args.sector.now c.args.slots c.requires.long c.requires.slots in omega (arith, fits)

pub returns-in-Rewritable-clause-value : goal.returns-in-Rewritable-clause-value
returns-in-Rewritable-clause-value c = sym (ap (λ (k : Kind). written k c.args.sector.now) c.in-Rewritable.is ∙ written-never c.args.sector.now)

pub returns-in-Erasing-clause-value : goal.returns-in-Erasing-clause-value
returns-in-Erasing-clause-value c =
    c.padded.ensures.value
    ∙ written_from c.args.sector.now c.args.slots (length c.args.sector.now - (c.args.slots + 2) * 16) c.trimmed_len.result c.requires.used c.requires.slots refl c.trimmed_len.ensures
    ∙ sym (ap (λ (k : Kind). written k c.args.sector.now) c.in-Erasing.is)

pub returns-in-Erasing-clause-small : goal.returns-in-Erasing-clause-small
returns-in-Erasing-clause-small c =
    let cut = c.trimmed_len.ensures in
    let long = length-take-le (length c.args.sector.now - (c.args.slots + 2) * 16) c.args.sector.now (omega arith) in
    omega (arith, cut, long, c.padded.ensures.value, c.padded.ensures.at_most, c.requires.short)
