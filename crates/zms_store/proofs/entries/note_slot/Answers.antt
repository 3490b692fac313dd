use Rattle.std.proofs.Common.{arith}
use Rattle.zms_store.proofs.entries.note_slot.Goals as goal

pub returns-then-is_moot-clause-noted : goal.returns-then-is_moot-clause-noted
returns-then-is_moot-clause-noted g c = λ geometry start before lt noted. c.is_moot.ensures geometry c.args.place start before c.if-is_moot.true noted

pub returns-then-valid-slot-clause-noted : goal.returns-then-valid-slot-clause-noted
returns-then-valid-slot-clause-noted g c =
    λ geometry start before lt noted. let listed = c.known_to-valid.ensures.listed lt in absurd (omega (arith, listed, c.if-valid-slot.true))

pub note_listed-requires-clause-listed : goal.note_listed-requires-clause-listed
note_listed-requires-clause-listed g c =
    omega (arith, c.known_to-valid.ensures.known, c.if-valid-slot.false, c.requires.from)

pub returns-clause-noted : goal.returns-clause-noted
returns-clause-noted g c = λ geometry start before lt noted. c.note_listed.ensures geometry start before noted

pub returns-clause-passed : goal.returns-clause-passed
returns-clause-passed g c =
    λ ge. absurd (omega (arith, c.known_to-valid.ensures.known, ge, c.if-valid-slot.false, c.requires.from))
