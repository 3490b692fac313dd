use Rattle.std.proofs.Common.{◌≡◌, length, rules, sym}
use Rattle.flash_map.specs.declared.area.Role.TheVariants.{Fcb}
use Rattle.session_jobs.proofs.LogInputLemmas.{only_area}
use Rattle.session_jobs.proofs.log_opening.log_area.Goals as goal

pub returns-then-eq : goal.returns-then-eq
returns-then-eq c =
    let one : length c.args.areas.now ≡ 1 = search rules in
    let role : c.in_ok-area.area.now.role ≡ Fcb = search rules in
    record { only = only_area c.args.areas.now c.in_ok-area.area.now one (sym c.in_ok-area.ensures); role = role }
