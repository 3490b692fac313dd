use Rattle.std.proofs.Common.{◌≡◌, ℕ, List, [], ◌∷◌, ◌++◌, map, take, replicate, sym, ap, ◌∙◌, arith, rules}
use Rattle.std.specs.Global.{Vec}
use Rattle.std.proofs.lemmas.List.{map_push, take_more}
use Rattle.flash_sim.specs.declared.flash.Bank.{Bank}
use Rattle.flash_sim.specs.Bank.{bank_at, no_bank, capacity}
use Rattle.flash_sim.specs.Contents.{contents}
use Rattle.image_file.proofs.spec.blank_banks.Goals as goal

pub loop-bank-preserved : goal.loop-bank-preserved
loop-bank-preserved c =
    let i : ℕ = c.loop-bank.bank-index in
    let banks : List Bank = c.args.banks.now in
    let here : c.capacity.result ≡ capacity (bank_at banks i) = search rules in
    ap contents c.in_ok-push.ensures.items ∙ map_push (λ (v : Vec ℕ). v.items) c.loop-bank.copies.items c.in_ok-copy.copy
    ∙ ap (λ (l : List (List ℕ)). l ++ c.in_ok-copy.copy.items ∷ []) c.loop-bank.invariant
    ∙ ap (λ (t : List ℕ). map (λ (bank : Bank). replicate (capacity bank) 255) (take i banks) ++ t ∷ []) (c.in_ok-copy.ensures ∙ ap (λ (n : ℕ). replicate n 255) here)
    ∙ sym (ap (map (λ (bank : Bank). replicate (capacity bank) 255)) (take_more banks i no_bank (omega arith)) ∙ map_push (λ (bank : Bank). replicate (capacity bank) 255) (take i banks) (bank_at banks i))
