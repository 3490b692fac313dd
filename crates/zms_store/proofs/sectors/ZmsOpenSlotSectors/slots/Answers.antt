use Rattle.std.proofs.Common.{ℕ, List, length, ap, ◌∙◌, arith}
use Rattle.zms_cycle.specs.Sector.{valid_slots}
use Rattle.zms_format.proofs.Sectors.{few_slots}
use Rattle.zms_store.proofs.sectors.ZmsOpenSlotSectors.slots.Goals as goal

pub returns-clause-value : goal.returns-clause-value
returns-clause-value g c = c.listed_slots.ensures ∙ ap (λ (b : List ℕ). length (valid_slots b)) c.sector_view.ensures.bytes

pub returns-clause-few : goal.returns-clause-few
returns-clause-few g c =
    let few = few_slots c.sector_view.result.now in
    omega (arith, c.listed_slots.ensures, c.sector_view.ensures.len, c.requires.area.lawful.at_most)
