-- Storages of bytes, of which each keeps those of one bank.
use Rattle.std.specs.Prelude.{◌≡◌, ℕ, List, map}
use Rattle.flash_sim.specs.declared.flash.Bank.{Bank}

-- their sectors are as long as those of the banks
abbrev pub HaveSizes : {S : Type 0} → (S → ℕ) → List Bank → List S → Type 0
HaveSizes size banks all = map size all ≡ map (λ bank. bank.sector) banks
