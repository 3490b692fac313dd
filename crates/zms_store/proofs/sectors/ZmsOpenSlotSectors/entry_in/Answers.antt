use Rattle.std.proofs.Common.{◌≡◌, ◌+◌, ◌<◌, ℕ, List, length, sym, ap, subst, ◌∙◌, arith}
use Rattle.zms_cycle.specs.Sector.{slot_of, valid_slots}
use Rattle.zms_cycle.proofs.CopyCalls.{ordinary_id}
use Rattle.item_store.specs.declared.entry.Placed.{Placed}
use Rattle.zms_store.proofs.sectors.ZmsOpenSlotSectors.entry_in.Goals as goal

pub listed_entry-requires-clause-from : goal.listed_entry-requires-clause-from
listed_entry-requires-clause-from g c = c.requires.listed.0

pub listed_entry-requires-clause-listed : goal.listed_entry-requires-clause-listed
listed_entry-requires-clause-listed g c =
    let listed = c.requires.listed.1 in
    subst (λ (x : List ℕ). c.args.slot < length (valid_slots x) + 2) (sym c.sector_view.ensures.bytes) (omega (arith, listed))

pub returns-in-Some-clause-small : goal.returns-in-Some-clause-small
returns-in-Some-clause-small g c =
    let same : c.placed.result.id ≡ c.in-Some.found.entry.id = ap (λ (p : Placed). p.id) c.placed.ensures.placed in
    let wide = c.placed.ensures.wide in
    let below = ordinary_id (slot_of c.sector_view.result.now c.args.slot) c.in-Some.found.entry c.in-Some.found.slot (omega arith) (sym c.listed_entry.ensures ∙ c.in-Some.is) in
    omega arith
