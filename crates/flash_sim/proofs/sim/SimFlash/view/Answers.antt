use Rattle.std.proofs.Common.{◌+◌, ◌≤◌, ◌%◌, ◌∙◌, ℕ, sym, subst}
use Rattle.flash_sim.proofs.Contents.{has-store, size-is, read-is}
use Rattle.flash_sim.proofs.sim.SimFlash.view.Goals as goal

pub view-requires-clause-one_sector : goal.view-requires-clause-one_sector
view-requires-clause-one_sector g c =
    let sim = c.args.self.now in
    let bank : ℕ = c.args.at.bank in
    let of = g.S.Storage.sector_size in
    let size = read-is of sim.stores.items bank c.index.result.now c.index.result.now 0 (has-store of sim.banks.items sim.stores.items sim.sized bank c.requires.bank) c.index.ensures in
    subst (λ (n : ℕ). c.args.at.offset % n + c.args.len ≤ n) (sym (size-is of sim.banks.items sim.stores.items sim.sized bank c.requires.bank) ∙ size) c.requires.one_sector
