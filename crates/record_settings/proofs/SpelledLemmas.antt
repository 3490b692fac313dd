-- What a record says that was cut and checks by chance.
use Rattle.std.proofs.Common.{ℕ, ◌-◌, ◌*◌, ◌≤◌, List, length, sym, subst, arith}
use Rattle.flash_sim.specs.declared.flash.TheConstants.{PROGRAM_LIMIT}
use Rattle.flash_map.specs.Units.{IsUnit}
use Rattle.flash_map.proofs.PieceLemmas.{next_fits}
use Rattle.flash_map.proofs.Rounding.{padding}
use Rattle.fcb_ring.specs.Writing.{record_cost, spelled, IsChance}
use Rattle.fcb_ring.proofs.ImageLemmas.{spelled-is}
use Rattle.record_settings.specs.Settings.{setting_of}
use Rattle.record_settings.specs.Torn.{IsTornOf}
use Rattle.record_settings.proofs.TornLemmas.{torn-setting}

-- Its body is one of which only the first bytes were put.
pub spelled-setting : (limit unit : ℕ) (body : List ℕ) (done : ℕ) → IsUnit unit → record_cost unit (length body) ≤ PROGRAM_LIMIT → IsChance unit body done → IsTornOf (setting_of limit body) (setting_of limit (spelled unit body done))
spelled-setting limit unit body done is_unit short is =
    let pad = padding unit is_unit in
    let next = next_fits done (record_cost unit (length body)) unit is.fewer in
    subst (λ (l : List ℕ). IsTornOf (setting_of limit body) (setting_of limit l)) (sym (spelled-is unit is_unit body (omega (arith, pad.no_less (length body))) done is.some (omega arith)))
    (torn-setting limit body (done * unit - unit))
