-- Memory is wanting only for bytes that are there to be reported, with power on.
use Rattle.std.proofs.Common.{◌≡◌, ℕ, true, List, [], Some, Result, Ok, Err, OnErr, refl, subst}
use Rattle.std.specs.FinMap.{get}
use Rattle.std.specs.List.{slice_get}
use Rattle.flash_sim.specs.Device.{Device}
use Rattle.flash_sim.specs.declared.flash.NoMemory.{NoMemory}
use Rattle.flash_map.specs.declared.area.Area.{Area}
use Rattle.flash_map.specs.declared.area.Geometry.{Geometry}
use Rattle.item_session.specs.declared.line.Line.TheVariants.{Get, Older}
use Rattle.item_session.specs.declared.answer.Answer.{Answer}
use Rattle.item_store.specs.SectorFormat.{SectorFormat}
use Rattle.item_store.specs.Listed.{items_on, list_on}
use Rattle.item_store.specs.Versions.{versions}
use Rattle.item_session.specs.Running.{WantsMemory}
use Rattle.item_session.proofs.LineLemmas.{some_bytes}

module _ (format_of : Geometry → SectorFormat) (area given : Area) (d : Device) (on : d.is_on ≡ true) (same : given ≡ area) where
  pub item_wants : (id : ℕ) (value : List ℕ) (r : Result Answer NoMemory) → get (items_on format_of d given) id ≡ Some value → OnErr r (WantsMemory format_of area (Get id) d d)
  item_wants id value (Ok answer) is = tt
  item_wants id value (Err e) is = (refl, on, (value, subst (λ (a : Area). get (items_on format_of d a) id ≡ Some value) same is))

  pub version_wants : (id n : ℕ) (value : List ℕ) (r : Result Answer NoMemory) → slice_get (versions (list_on format_of d given) id) n ≡ Some value → (value ≡ [] → ⊥) → OnErr r (WantsMemory format_of area (Older id n) d d)
  version_wants id n value (Ok answer) is some = tt
  version_wants id n value (Err e) is some = (refl, on, (value, subst (λ (a : Area). slice_get (versions (list_on format_of d a) id) n ≡ Some value) same is, some_bytes value some))
