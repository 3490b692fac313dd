use Rattle.std.proofs.Common.{◌≡◌, List, ℕ, ◌∷◌, ◌++◌, sym, ap, ◌∙◌, append_assoc}
use Rattle.std.specs.List.{flat_map}
use Rattle.std.specs.Slice.Iter.{iter_rest}
use Rattle.std.proofs.lemmas.List.Elements.{All-rest}
use Rattle.flash_map.specs.declared.area.Area.{Area}
use Rattle.image_file.specs.Format.{area_text}
use Rattle.image_file.specs.Lawful.{FitsText}
use Rattle.image_file.proofs.writing.put_areas.Goals as goal

pub loop-area-preserved : goal.loop-area-preserved
loop-area-preserved c =
    let area : Area = c.in-Some.area.now in
    let rest : List Area = iter_rest c.next.new.self in
    let file : List ℕ = c.loop-area.file.items in
    let turn : iter_rest c.loop-area.area-iterator ≡ area ∷ rest = c.in-Some.ensures.steps in
    record {
      written =
          ap (λ (l : List ℕ). l ++ flat_map area_text rest) c.in_ok-put_area.ensures
          ∙ append_assoc file (area_text area) (flat_map area_text rest)
          ∙ ap (λ (l : List Area). file ++ flat_map area_text l) (sym turn)
          ∙ c.loop-area.invariant.written;
      fit = All-rest FitsText area rest (iter_rest c.loop-area.area-iterator) turn c.loop-area.invariant.fit;
    }
