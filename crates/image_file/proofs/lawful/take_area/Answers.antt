use Rattle.std.proofs.Common.{rules}
use Rattle.flash_sim.specs.Bank.{bank_at}
use Rattle.image_file.specs.Lawful.{StandsOn}
use Rattle.image_file.proofs.LawfulLemmas.{new_plain, plain_in_bank, not_added}
use Rattle.image_file.proofs.lawful.take_area.Goals as goal

pub returns-in-Ok : goal.returns-in-Ok
returns-in-Ok c =
    let is : StandsOn c.args.area.role (bank_at c.args.banks.now c.args.area.bank) = search rules in
    (record { label = c.requires.label; in_bank = plain_in_bank c.args.banks.now c.args.area c.in-Ok.ensures.0; stands = is; new = new_plain c.args.areas.now c.args.area c.in-Ok.ensures.1 }, c.in-Ok.ensures.2)

pub returns-else-eq : goal.returns-else-eq
returns-else-eq c = not_added c.args.banks.now c.args.areas.now c.add.new.self c.args.area c.in-Err.fault (search rules) c.in-Err.ensures
