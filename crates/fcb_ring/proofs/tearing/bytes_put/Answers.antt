use Rattle.std.proofs.Common.{◌≡◌, ℕ, ◌-◌, ◌*◌, ◌++◌, List, length, replicate, take, ap, ◌∙◌, arith}
use Rattle.std.proofs.lemmas.List.{take-replicate}
use Rattle.flash_sim.specs.declared.flash.TheConstants.{PROGRAM_LIMIT}
use Rattle.fcb_ring.proofs.tearing.bytes_put.Goals as goal

pub returns : goal.returns
returns c =
    let put : ℕ = c.args.done * c.args.unit in
    let rest : ℕ = length c.args.want.now - put in
    let behind : take rest (replicate PROGRAM_LIMIT 255) ≡ replicate rest 255 = take-replicate rest PROGRAM_LIMIT 255 (omega (arith, c.requires.short)) in
    c.push_all-2.ensures ∙ ap (λ (l : List ℕ). c.push_all.new.image.items ++ l) behind ∙ ap (λ (l : List ℕ). l ++ replicate rest 255) (c.push_all.ensures ∙ ap (λ (l : List ℕ). l ++ take put c.args.want.now) c.new-bytes.ensures)
