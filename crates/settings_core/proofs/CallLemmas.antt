-- What a call that does nothing spends, what a cut one leaves, and values with bytes.
use Rattle.std.proofs.Common.{◌≡◌, ℕ, ◌<◌, ◌==◌, Bool, List, [], ◌∷◌, length, true≢false, false, true, refl, sym, ap, subst, ◌∙◌, arith}
use Rattle.flash_sim.specs.Bank.{bank_at}
use Rattle.flash_sim.specs.Device.{Device}
use Rattle.flash_sim.specs.declared.flash.Bank.{Bank}
use Rattle.flash_map.specs.Area.{geometry_of}
use Rattle.flash_map.specs.Spending.{SpendsAtMost}
use Rattle.flash_map.specs.declared.area.Area.{Area}
use Rattle.flash_map.specs.declared.area.Geometry.{Geometry}
use Rattle.backend_api.specs.Boot.{Owes}
use Rattle.settings_core.specs.Owing.{OwesBoot}
use Rattle.flash_map.proofs.SpendingLemmas.{spends_none}

pub spends_nothing : (d : Device) (most : ℕ) → SpendsAtMost d d most
spends_nothing d most = (0, omega arith, spends_none d)

pub some_bytes : (bytes : List ℕ) → (length bytes == 0) ≡ false → 0 < length bytes
some_bytes [] is = absurd (true≢false is)
some_bytes (b ∷ bytes) is = omega arith

-- what holds of a backend unless power was lost holds of one that is up
pub stands_up : (Stands : Type 0) (lost up : Bool) → (lost ≡ false → Stands) → (lost ≡ true → up ≡ false) → up ≡ true → Stands
stands_up Stands false up there down is = there refl
stands_up Stands true up there down is = absurd (true≢false (sym is ∙ down refl))

geometry_still : (d e : Device) (area : Area) → e.banks ≡ d.banks → geometry_of e area ≡ geometry_of d area
geometry_still d e area banks = ap (λ (all : List Bank). record { unit = (bank_at all area.bank).unit; sector = (bank_at all area.bank).sector; sectors = area.sectors; kind = (bank_at all area.bank).kind }) banks

-- what a command that was cut leaves, as the area stands afterwards
pub leaves_boot : (owing : Area → Geometry → List (List ℕ) → ℕ → Type 0) (boot : Area → Geometry → ℕ) (d e : Device) (area other : Area) → e.banks ≡ d.banks → other ≡ area → Owes owing e area (boot area (geometry_of d area)) → OwesBoot owing boot e other
leaves_boot owing boot d e area other banks same owed =
    subst (λ (x : Area). OwesBoot owing boot e x) (sym same) (subst (λ (g : Geometry). Owes owing e area (boot area g)) (sym (geometry_still d e area banks)) owed)
