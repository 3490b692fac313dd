use Rattle.std.proofs.Common.{List, subst}
use Rattle.flash_sim.specs.declared.flash.Bank.{Bank}
use Rattle.image_file.specs.Items.{TakesVersion}
use Rattle.image_file.proofs.ImageLemmas.{contrary}
use Rattle.image_file.proofs.SpecLemmas.{found_answer, found_versions, version_answer}
use Rattle.image_file.specs.Spec.{listed}
use Rattle.image_file.proofs.spec.take_item.Goals as goal

pub returns-then-is_version : goal.returns-then-is_version
returns-then-is_version c =
    version_answer c.args.item.now (listed c.args.version.now c.args.banks.now.items c.args.areas.now) (listed c.take_version.new.version c.args.banks.now.items c.args.areas.now) c.take_version.result (c.is_version.ensures.0 c.if-is_version.true)
    (subst (λ (banks : List Bank). TakesVersion (listed c.args.version.now banks c.args.areas.now) (listed c.take_version.new.version banks c.args.areas.now) c.take_version.result) c.deref.ensures.value c.take_version.ensures)

pub take_found-requires-clause-version : goal.take_found-requires-clause-version
take_found-requires-clause-version c = found_versions c.args.version.now c.args.item.now c.area_item-area.result c.args.areas.now c.area_item-area.ensures c.requires.versions

pub returns : goal.returns
returns c =
    found_answer c.args.version.now c.args.item.now (λ is. contrary c.is_version.result (c.is_version.ensures.1 is) c.if-is_version.false) c.args.banks.now.items c.take_found.new.banks.items c.args.areas.now c.take_found.new.areas c.bank_item-bank.result c.area_item-area.result c.in_ok-taken.taken
    c.requires c.bank_item-bank.ensures c.area_item-area.ensures c.in_ok-taken.ensures
