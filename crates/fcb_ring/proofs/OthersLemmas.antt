-- What a write or an erase of one sector leaves of the others.
use Rattle.std.proofs.Common.{◌≡◌, ℕ, List, [], set, sym, ap, ◌∙◌}
use Rattle.std.proofs.lemmas.List.{get_or-set_other, set-set, set-get_or}
use Rattle.flash_sim.specs.Device.{Device}
use Rattle.flash_map.specs.declared.area.Area.{Area}
use Rattle.flash_map.specs.Area.{sectors_of, sector_at, sector_bytes, OthersStay}

set-again : (l : List (List ℕ)) (place : ℕ) (sector : List ℕ) → set l place sector ≡ set l place (sector_at (set l place sector) place)
set-again l place sector = sym (sym (set-set l place sector (sector_at (set l place sector) place)) ∙ set-get_or (set l place sector) place [])

pub others_set : (old new : Device) (area : Area) (place changed : ℕ) (sector : List ℕ) → place ≡ changed → sectors_of new area ≡ set (sectors_of old area) place sector → OthersStay old new area changed
others_set old new area place changed sector is after =
    let here : sectors_of new area ≡ set (sectors_of old area) changed sector = after ∙ ap (λ (p : ℕ). set (sectors_of old area) p sector) is in
    here ∙ set-again (sectors_of old area) changed sector ∙ ap (λ (l : List (List ℕ)). set (sectors_of old area) changed (sector_at l changed)) (sym here)

pub others_same : (old new : Device) (area : Area) (changed : ℕ) → sectors_of new area ≡ sectors_of old area → OthersStay old new area changed
others_same old new area changed same =
    same ∙ sym (set-get_or (sectors_of old area) changed []) ∙ ap (λ (l : List (List ℕ)). set (sectors_of old area) changed (sector_at l changed)) (sym same)

-- another sector is as before
pub others_at : (old new : Device) (area : Area) (changed : ℕ) → OthersStay old new area changed → (place : ℕ) → (place ≡ changed → ⊥) → sector_bytes new area place ≡ sector_bytes old area place
others_at old new area changed stay place apart =
    ap (λ (l : List (List ℕ)). sector_at l place) stay ∙ get_or-set_other (sectors_of old area) changed place (sector_bytes new area changed) [] apart

-- two calls that change the same sector
pub others_then : (a b c : Device) (area : Area) (changed : ℕ) → OthersStay a b area changed → OthersStay b c area changed → OthersStay a c area changed
others_then a b c area changed one two =
    two ∙ ap (λ (l : List (List ℕ)). set l changed (sector_bytes c area changed)) one ∙ set-set (sectors_of a area) changed (sector_bytes b area changed) (sector_bytes c area changed)
