use Rattle.std.proofs.Common.{◌∙◌, ap}
use Rattle.std.specs.List.{list_any}
use Rattle.flash_map.specs.Map.{has_label}
use Rattle.flash_map.proofs.MapLemmas.{label_found}
use Rattle.flash_map.proofs.map.FlashMap.has_label.Goals as goal

pub returns : goal.returns
returns c =
    c.contains_key.ensures ∙ label_found c.self.inside.areas.entries c.args.label.now c.self.invariant
    ∙ ap (list_any (has_label c.args.label.now.bytes)) c.self.view_is
