-- An area that was formatted is all FF.
use Rattle.std.proofs.Common.{◌≡◌, ℕ, suc, ◌<◌, List, [], ◌∷◌, length, map, replicate, refl, ap, ◌∙◌, arith}
use Rattle.flash_sim.specs.Bank.{IsLawful}
use Rattle.flash_sim.specs.Device.{Device}
use Rattle.flash_map.specs.Area.{sector_size, sectors_of, sector_at}
use Rattle.flash_map.specs.Lawful.{IsLawfulFor}
use Rattle.flash_map.specs.Sectors.{blanked}
use Rattle.flash_map.specs.declared.area.Area.{Area}
use Rattle.flash_map.proofs.Places.{length-sector}
use Rattle.flash_map.proofs.Sectors.{length-sectors_from}

all-blanked : (xs : List (List ℕ)) (size : ℕ) → ((place : ℕ) → place < length xs → length (sector_at xs place) ≡ size) → map blanked xs ≡ replicate (length xs) (replicate size 255)
all-blanked [] size each = refl
all-blanked (x ∷ xs) size each =
    let first : length x ≡ size = each 0 (omega arith) in
    ap (λ (n : ℕ). replicate n 255 ∷ map blanked xs) first ∙ ap (λ (l : List (List ℕ)). replicate size 255 ∷ l) (all-blanked xs size (λ place lt. each (suc place) (omega arith)))

pub blanked-on : (d e : Device) (area : Area) → IsLawful d.banks d.bytes → IsLawfulFor d.banks area → sectors_of e area ≡ map blanked (sectors_of d area) → sectors_of e area ≡ replicate area.sectors (replicate (sector_size d area) 255)
blanked-on d e area lawful own is =
    let count : length (sectors_of d area) ≡ area.sectors = length-sectors_from area.sectors (sector_size d area) _ in
    is ∙ all-blanked (sectors_of d area) (sector_size d area) (λ place lt. length-sector d area lawful own.in_bank place (omega arith)) ∙ ap (λ (n : ℕ). replicate n (replicate (sector_size d area) 255)) count
