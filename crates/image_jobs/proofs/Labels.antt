-- The areas of an image have lawful labels.
use Rattle.std.proofs.Common.{◌≡◌, ℕ, zero, suc, ◌<◌, Bool, true, List, [], ◌∷◌, length, map, refl, sym, ap, subst, ◌∙◌, arith}
use Rattle.std.proofs.lemmas.Bool.{false≢true}
use Rattle.flash_sim.specs.Device.{Device}
use Rattle.flash_map.specs.declared.area.Area.{Area}
use Rattle.image_file.specs.Format.{Plain, image_on, plain_area}
use Rattle.image_file.specs.Lawful.{IsImage, IsLabel}
use Rattle.image_file.specs.Lawful as lawful
use Rattle.migrator.specs.Areas.{is_store_at}
use Rattle.session.specs.Texts.{AreLabelled}
use Rattle.session_table.specs.Bench.{area_at}

label_at : (areas : List Area) (place : ℕ) → is_store_at areas place ≡ true → (lawful.area_at (map plain_area areas) place).label.bytes ≡ (area_at areas place).label.bytes
label_at [] place store = absurd (false≢true store)
label_at (area ∷ areas) zero store = refl
label_at (area ∷ areas) (suc place) store = label_at areas place store

within : (areas : List Area) (place : ℕ) → is_store_at areas place ≡ true → place < length (map plain_area areas)
within [] place store = absurd (false≢true store)
within (area ∷ areas) zero store = omega arith
within (area ∷ areas) (suc place) store = let below = within areas place store in omega (arith, below)

store_label : (areas : List Area) (image : Plain) (place : ℕ) → IsImage image → map plain_area areas ≡ image.areas → is_store_at areas place ≡ true → IsLabel (area_at areas place).label.bytes
store_label areas image place is are store =
    subst IsLabel (ap (λ (list : List Area). (lawful.area_at list place).label.bytes) (sym are) ∙ label_at areas place store)
    (is.each_area place (subst (λ (list : List Area). place < length list) are (within areas place store))).label

pub labelled : (areas : List Area) (d : Device) → IsImage (image_on areas d) → AreLabelled areas
labelled areas d is place store = store_label areas (image_on areas d) place is refl store
