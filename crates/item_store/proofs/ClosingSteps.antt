-- How closing and collecting ends, by the end of its round; what it says whatever its result.
use Rattle.std.proofs.Common.{◌≡◌, ◌⊎◌, ℕ, true, false, inl, inr, Result, Ok, Err}
use Rattle.std.specs.Result.{IsErr}
use Rattle.flash_sim.specs.Device.{Device}
use Rattle.flash_sim.specs.declared.flash.PowerLost.{PowerLost}
use Rattle.flash_map.specs.declared.area.Area.{Area}
use Rattle.flash_map.specs.Area.{sectors_of}
use Rattle.item_store.specs.Closing.{StopsPass, PassEnds, RoundEnds}
use Rattle.item_store.specs.SectorFormat.{SectorFormat, is_clean_at}

pub run_pass-round : {T : Type 0} (k : SectorFormat) (old new : Device) (area : Area) (place : ℕ) (r : Result T PowerLost) → PassEnds k old new area place r → RoundEnds k old new area place r
run_pass-round k old new area place (Ok x) ends = inr ends
run_pass-round k old new area place (Err e) ends = ends

pub run_pass-stops : {T : Type 0} (k : SectorFormat) (old new : Device) (area : Area) (place : ℕ) (r : Result T PowerLost) → IsErr r → StopsPass k old new area place → PassEnds k old new area place r
run_pass-stops k old new area place (Ok x) err stops = absurd (clash err)
  where
    clash : false ≡ true → ⊥
    clash e = cc
run_pass-stops k old new area place (Err e) err stops = stops

pub same-or-used : {T : Type 0} (k : SectorFormat) (old new : Device) (area : Area) (place : ℕ) (r : Result T PowerLost) → RoundEnds k old new area place r → (new ≡ old) ⊎ (is_clean_at k (sectors_of old area) place ≡ false)
same-or-used k old new area place (Ok x) ends =
    elim ends [
      | inl clean ↦ inl clean.same
      | inr does_pass ↦ inr does_pass.used
    ]
same-or-used k old new area place (Err e) ends = inr ends.used
