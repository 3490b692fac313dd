-- The area of an image that has one alone, as a store of items asks for it.
use Rattle.std.proofs.Common.{List, refl, ap}
use Rattle.std.specs.List.{slice_get}
use Rattle.flash_sim.specs.Device.{Device}
use Rattle.flash_map.specs.declared.area.Area.{Area}
use Rattle.image_file.specs.Lawful.{IsImage}
use Rattle.image_file.specs.Format.{image_on}
use Rattle.image_jobs.proofs.MapLemmas.{maps_are_lawful}
use Rattle.session_jobs.specs.ItemInputs.{IsItemArea}
use Rattle.session_jobs.specs.ItemJobs.{ServesItems}

-- a store may stand on it
pub serves_items : (areas : List Area) (area : Area) (d : Device) → IsImage (image_on areas d) → IsItemArea areas area → ServesItems d area
serves_items areas area d is items =
    let lawful = maps_are_lawful areas d is in
    record {
      is_area = record {
        lawful = lawful.each 0 area (ap (λ (list : List Area). slice_get list 0) items.only);
        role_is = refl;
      };
      has = items.role;
    }
