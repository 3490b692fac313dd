use Rattle.std.proofs.Common.{ap, ◌∙◌, arith}
use Rattle.flash_map.specs.Area.{value_limit}
use Rattle.flash_map.specs.On.{on}
use Rattle.backend_zms.specs.Hash.{first_of}
use Rattle.backend_zms.proofs.CandidateSteps.{found-at}
use Rattle.backend_zms.proofs.numbering.id_of.Goals as goal

pub returns-then-is_at-clause-id : goal.returns-then-is_at-clause-id
returns-then-is_at-clause-id g c =
    let area = g.S.ItemStore.mounted_on c.args.store.now in
    found-at (value_limit area) (on g.S.ItemStore.contents (g.F.Flash.device c.args.flash.now) area) c.args.name.now c.first_of-first.result (c.first_of-first.ensures.first ∙ ap first_of c.bytes.ensures.value)
    c.loop-id.id (omega arith) (omega arith) c.is_at.ensures.name (c.is_at.ensures.yes_it c.if-is_at.true) c.loop-id.invariant.none
