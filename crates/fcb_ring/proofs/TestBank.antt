-- The banks of the tests with their bytes.
use Rattle.std.proofs.Common.{◌≡◌, ℕ, zero, suc, ◌<◌, List, [], ◌∷◌, length, get_or, refl, arith}
use Rattle.flash_sim.specs.Bank.{IsLawful, IsLawfulBank, bank_at, capacity}
use Rattle.flash_sim.specs.declared.flash.Bank.{Bank}
use Rattle.flash_sim.specs.declared.flash.Kind.TheVariants.{Erasing}

abbrev pub small : Bank
small = record { kind = Erasing; unit = 4; sector = 512; count = 3 }

abbrev pub large : Bank
large = record { kind = Erasing; unit = 4; sector = 4096; count = 2 }

pub both_lawful : (bytes more : List ℕ) → length bytes ≡ 1536 → length more ≡ 8192 → IsLawful (small ∷ large ∷ []) (bytes ∷ more ∷ [])
both_lawful bytes more long longer = record { each_bank = each; count = refl; lengths = lengths }
  where
    each : (i : ℕ) → i < 2 → IsLawfulBank (bank_at (small ∷ large ∷ []) i)
    each zero lt = record { unit = refl; whole_units = refl; sector = omega arith; addressable = omega arith }
    each (suc zero) lt = record { unit = refl; whole_units = refl; sector = omega arith; addressable = omega arith }
    each (suc (suc i)) lt = absurd (omega arith)

    lengths : (i : ℕ) → i < 2 → length (get_or (bytes ∷ more ∷ []) i []) ≡ capacity (bank_at (small ∷ large ∷ []) i)
    lengths zero lt = long
    lengths (suc zero) lt = longer
    lengths (suc (suc i)) lt = absurd (omega arith)
