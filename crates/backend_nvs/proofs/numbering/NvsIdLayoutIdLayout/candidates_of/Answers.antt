use Rattle.std.proofs.Common.{refl}
use Rattle.backend_nvs.proofs.numbering.NvsIdLayoutIdLayout.candidates_of.Goals as goal

pub returns-clause-ids : goal.returns-clause-ids
returns-clause-ids g area = g.all_candidates.ensures.ids area

-- each name may stand at each id
pub returns-clause-candidates : goal.returns-clause-candidates
returns-clause-candidates g area = λ items id inside candidate. g.all_candidates.ensures.candidates area items id inside

pub returns-clause-only : goal.returns-clause-only
returns-clause-only g area = λ id among.
    let some = g.all_candidates.ensures.only area id among in
    (some.0, record { inside = some.1; candidate = refl })
