use Rattle.std.proofs.Common.{◌≡◌, ◌∙◌, Bool, [], ◌∷◌, ◌++◌, ap}
use Rattle.std.specs.List.{list_any}
use Rattle.std.specs.Str.{bytes_eq}
use Rattle.arrayvec.specs.ArrayString.{ArrayString}
use Rattle.indexmap.proofs.CallerLemmas.{insert_entry-new}
use Rattle.flash_map.specs.Map.{has_label}
use Rattle.flash_map.proofs.MapLemmas.{label_found, values_more, keys_more, not_some}
use Rattle.flash_map.proofs.map.FlashMap.put.Goals as goal

abbrev same_label : ArrayString → ArrayString → Bool
same_label a b = bytes_eq a.bytes b.bytes

-- the new area goes last
last : (c : goal.In_ok-insert) → c.insert.new.self.entries ≡ c.self.inside.areas.entries ++ (c.args.area.label, c.args.area) ∷ []
last c =
    c.in_ok-insert.ensures.entries
    ∙ insert_entry-new same_label c.self.inside.areas c.args.area.label c.args.area
    (not_some _ (label_found c.self.inside.areas.entries c.args.area.label c.self.invariant ∙ ap (list_any (has_label c.args.area.label.bytes)) c.self.view_is ∙ c.requires.new))

pub invariant_of-self-2 : goal.invariant_of-self-2
invariant_of-self-2 c = keys_more c.self.inside.areas.entries c.insert.new.self.entries c.args.area c.self.invariant (last c)

pub returns : goal.returns
returns c = record {
  ok = values_more c.self.inside.areas.entries c.insert.new.self.entries c.args.area (last c) ∙ ap (λ areas. areas ++ c.args.area ∷ []) c.self.view_is;
  err = tt;
}
