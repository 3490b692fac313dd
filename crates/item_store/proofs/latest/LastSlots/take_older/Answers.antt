use Rattle.std.proofs.Common.{sym, ◌∙◌}
use Rattle.flash_map.proofs.MapLemmas.{not_some}
use Rattle.item_store.specs.Latest.{last_of_id}
use Rattle.item_store.proofs.IndexSteps.{knows-prefix, knows-skipped}
use Rattle.item_store.proofs.latest.LastSlots.take_older.Goals as goal

pub returns-then-not-has_later : goal.returns-then-not-has_later
returns-then-not-has_later c =
    λ limit later small is knows.
    let new_id = not_some (last_of_id c.args.placed.now.id later) (sym is ∙ c.if-not-has_later.true) in
    knows-prefix limit c.note.new.self c.args.placed.now later small new_id knows.below.known (c.note.ensures limit later small new_id knows)

-- one of its id stands behind it
pub returns-else-not-has_later : goal.returns-else-not-has_later
returns-else-not-has_later c =
    λ limit later small is knows. knows-skipped limit c.args.self.now c.args.placed.now later small (sym is ∙ c.if-not-has_later.false) knows
