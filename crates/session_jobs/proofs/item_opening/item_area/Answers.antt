use Rattle.std.proofs.Common.{◌≡◌, true, length, rules, sym}
use Rattle.session_jobs.specs.ItemInputs.{has_items}
use Rattle.session_jobs.proofs.ItemInputLemmas.{only_area}
use Rattle.session_jobs.proofs.item_opening.item_area.Goals as goal

pub returns-then-has_items : goal.returns-then-has_items
returns-then-has_items c =
    let one : length c.args.areas.now ≡ 1 = search rules in
    let role : has_items c.in_ok-area.area.now.role ≡ true = search rules in
    record { only = only_area c.args.areas.now c.in_ok-area.area.now one (sym c.in_ok-area.ensures); role = role }
