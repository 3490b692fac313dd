use Rattle.std.proofs.Common.{ℕ, List, [], ◌∷◌, ◌++◌, length, ap, ◌∙◌}
use Rattle.std.specs.List.{flat_map, concat}
use Rattle.std.proofs.lemmas.List.Elements.{All-from_get_or}
use Rattle.std.proofs.lemmas.Result.{on_ok_weaker}
use Rattle.flash_sim.specs.Contents.{contents}
use Rattle.image_file.specs.Format.{bank_text, area_text, version_of}
use Rattle.image_file.specs.Lawful.{FitsText, no_area}
use Rattle.image_file.proofs.WritingLemmas.{fits_text, written}
use Rattle.image_file.proofs.writing.put_image.Goals as goal

pub put_areas-requires : goal.put_areas-requires
put_areas-requires c = All-from_get_or FitsText c.args.areas.now no_area (fits_text c.args.banks.now c.args.areas.now c.args.bytes.now c.requires)

pub returns : goal.returns
returns c =
    let old : List ℕ = c.args.file.now.items in
    on_ok_weaker c.put_contents.result (λ is. is
    ∙ ap (λ (l : List ℕ). l ++ concat (contents c.args.bytes.now)) (c.in_ok-put_areas.ensures
    ∙ ap (λ (l : List ℕ). l ++ flat_map area_text c.args.areas.now) (c.in_ok-put_banks.ensures
    ∙ ap (λ (l : List ℕ). l ++ flat_map bank_text c.args.banks.now) (c.in_ok-extend_from_slice.ensures.items
    ∙ ap (λ (v : ℕ). old ++ 0x5A ∷ 0x53 ∷ 0x49 ∷ 0x4D ∷ v ∷ length c.args.banks.now ∷ c.len-area_count.result ∷ 0 ∷ []) c.version_of-version.ensures
    ∙ ap (λ (n : ℕ). old ++ 0x5A ∷ 0x53 ∷ 0x49 ∷ 0x4D ∷ version_of c.args.areas.now ∷ length c.args.banks.now ∷ n ∷ 0 ∷ []) c.len-area_count.ensures)))
    ∙ written old c.args.banks.now c.args.areas.now c.args.bytes.now) c.put_contents.ensures
