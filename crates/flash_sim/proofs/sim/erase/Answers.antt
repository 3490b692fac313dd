use Rattle.std.proofs.Common.{◌≡◌, ◌*◌, [], ℕ, List, get_or, map, replicate, sym, subst, arith}
use Rattle.flash_sim.specs.Device.{overwritten}
use Rattle.flash_sim.proofs.Contents.{read-is, changed, kept}
use Rattle.flash_sim.proofs.sim.erase.Goals as goal

pub returns-clause-bytes : goal.returns-clause-bytes
returns-clause-bytes g c =
    let old = c.index_mut-store.result.now in
    let new = c.erase.new.self in
    let of : ℕ = get_or (map g.S.Storage.sector_size c.args.all.now.items) c.args.bank 0 in
    let size = read-is g.S.Storage.sector_size c.args.all.now.items c.args.bank old new 0 (omega arith) c.index_mut-store.ensures.value in
    changed g.S.Storage.held c.args.all.now.items c.args.bank old new [] (omega arith) c.index_mut-store.ensures.value (λ (l : List ℕ). overwritten l (c.args.sector * of) (replicate of 255))
    (subst (λ (n : ℕ). g.S.Storage.held new ≡ overwritten (g.S.Storage.held old) (c.args.sector * n) (replicate n 255)) (sym size) c.erase.ensures.bytes)

pub returns-clause-sizes : goal.returns-clause-sizes
returns-clause-sizes g c =
    kept g.S.Storage.sector_size c.args.all.now.items c.args.bank c.index_mut-store.result.now c.erase.new.self 0 (omega arith) c.index_mut-store.ensures.value c.erase.ensures.size
