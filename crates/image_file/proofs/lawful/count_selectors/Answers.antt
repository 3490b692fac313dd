use Rattle.std.proofs.Common.{◌≡◌, ◌∙◌, arith, rules, tests}
use Rattle.std.specs.Prelude.{count_by}
use Rattle.std.proofs.lemmas.Iterator.{YieldsList-from_slice}
use Rattle.std.proofs.lemmas.Iterator.Consumers.{YieldsList-from_filter, count_from_yields_List}
use Rattle.std.proofs.lemmas.List.Sums.{length-filter, count_by-le-length}
use Rattle.image_file.specs.Lawful.{is_selector}
use Rattle.image_file.proofs.LawfulLemmas.{selectors_plain}
use Rattle.image_file.proofs.lawful.count_selectors.Goals as goal

pub returns : goal.returns
returns c =
    let is : c.count.result ≡ count_by is_selector c.args.areas.now =
    count_from_yields_List c.filter.result _ c.count.ensures.ran
    (YieldsList-from_filter _ is_selector (YieldsList-from_slice c.args.areas.now cc) c.filter.ensures.closure (λ x r q k. search (rules, tests)))
    ∙ length-filter is_selector c.args.areas.now
    in
    record {
      value = is ∙ selectors_plain c.args.areas.now;
      at_most = omega (arith, is, count_by-le-length is_selector c.args.areas.now);
    }
