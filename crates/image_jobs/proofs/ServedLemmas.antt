-- A session serves the areas of an image.
use Rattle.std.proofs.Common.{◌≡◌, ◌∙◌, ℕ, ◌<◌, length, true, List, Some, sym, ap}
use Rattle.std.specs.List.{slice_get}
use Rattle.std.proofs.lemmas.Option.{slice_get-get_or}
use Rattle.flash_map.specs.declared.area.Area.{Area}
use Rattle.flash_map.specs.declared.area.Role.{Role}
use Rattle.flash_map.specs.declared.area.Role.TheVariants.{Nvs, Zms, Fcb, Sel}
use Rattle.migrator.specs.Areas.{first_store, stores}
use Rattle.migrator.proofs.AreaLemmas.{store-within}
use Rattle.any_backend.specs.ByRole.{serves_as}
use Rattle.session_table.specs.Bench.{area_at}
use Rattle.image_jobs.specs.Laws.{EachLimit, MapsAreServed, OneLimit, limit_in}
use Rattle.image_jobs.proofs.MapLemmas.{has_store, maps_are_lawful, only_one, version_at}

-- a store works on an area that is for one
serves : (role : Role) → stores role ≡ true → serves_as role
serves Nvs store = tt
serves Zms store = tt
serves Fcb store = tt
serves Sel store = cc

pub maps_are_served : MapsAreServed
maps_are_served areas d is = record {
  lawful = maps_are_lawful areas d is;
  served = λ i area at store. serves area.role store;
  some = has_store areas d is;
  one = only_one areas is.needed;
}

-- the area that is there
at_place : (areas : List Area) (i : ℕ) → i < length areas → slice_get areas i ≡ Some (area_at areas i)
at_place areas i below = slice_get-get_or areas i _ below

pub one_limit : OneLimit
one_limit areas d is =
    let first = first_store areas in
    let within = store-within areas first (has_store areas d is) in
    ap limit_in (version_at areas d is first (area_at areas first) (at_place areas first within))

pub each_limit : EachLimit
each_limit areas d is i area at = ap limit_in (version_at areas d is i area at) ∙ sym (one_limit areas d is)
