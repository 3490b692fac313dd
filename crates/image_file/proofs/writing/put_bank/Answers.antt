use Rattle.std.proofs.Common.{ℕ, List, [], ◌∷◌, ◌++◌, ap, ◌∙◌}
use Rattle.std.specs.Int.{w32, to_le_bytes}
use Rattle.std.proofs.lemmas.Result.{on_ok_weaker}
use Rattle.image_file.specs.Format.{kind_byte}
use Rattle.image_file.proofs.WritingLemmas.{regroup}
use Rattle.image_file.proofs.writing.put_bank.Goals as goal

pub returns : goal.returns
returns c =
    let old : List ℕ = c.args.file.now.items in
    let unit : ℕ = c.args.bank.now.unit in
    let sector : List ℕ = to_le_bytes w32 c.args.bank.now.sector in
    let count : List ℕ = to_le_bytes w32 c.args.bank.now.count in
    on_ok_weaker c.put_number-2.result (λ is. is
    ∙ ap (λ (l : List ℕ). l ++ count) (c.in_ok-put_number.ensures ∙ ap (λ (l : List ℕ). l ++ sector) (c.in_ok-extend_from_slice.ensures.items ∙ ap (λ (k : ℕ). old ++ k ∷ unit ∷ 0 ∷ 0 ∷ []) c.kind_byte.ensures))
    ∙ regroup old (kind_byte c.args.bank.now.kind ∷ unit ∷ 0 ∷ 0 ∷ []) sector count) c.put_number-2.ensures
