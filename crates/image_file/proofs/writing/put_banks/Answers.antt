use Rattle.std.proofs.Common.{◌≡◌, List, ℕ, ◌++◌, take, sym, ap, ◌∙◌, arith, rules}
use Rattle.std.specs.List.{flat_map}
use Rattle.std.proofs.lemmas.List.{flat_map_more, take_more}
use Rattle.flash_sim.specs.Bank.{bank_at, no_bank}
use Rattle.flash_sim.specs.declared.flash.Bank.{Bank}
use Rattle.image_file.specs.Format.{bank_text}
use Rattle.image_file.proofs.writing.put_banks.Goals as goal

pub loop-bank-preserved : goal.loop-bank-preserved
loop-bank-preserved c =
    let banks : List Bank = c.args.banks.now in
    let i : ℕ = c.loop-bank.bank-index in
    let old : List ℕ = c.args.file.now.items in
    let here : c.put_bank.new.file.items ≡ c.loop-bank.file.items ++ bank_text (bank_at banks i) = search rules in
    here ∙ ap (λ (l : List ℕ). l ++ bank_text (bank_at banks i)) c.loop-bank.invariant
    ∙ flat_map_more bank_text old (take i banks) (bank_at banks i)
    ∙ ap (λ (l : List Bank). old ++ flat_map bank_text l) (sym (take_more banks i no_bank (omega arith)))
