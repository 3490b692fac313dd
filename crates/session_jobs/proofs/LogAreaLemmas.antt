-- The area of an image that has one alone.
use Rattle.std.proofs.Common.{List, inl, ap}
use Rattle.std.specs.List.{slice_get}
use Rattle.flash_sim.specs.Device.{Device}
use Rattle.flash_map.specs.declared.area.Area.{Area}
use Rattle.fcb_ring.specs.Standing.{IsRingArea}
use Rattle.image_file.specs.Lawful.{IsImage}
use Rattle.image_file.specs.Format.{image_on}
use Rattle.image_jobs.proofs.MapLemmas.{maps_are_lawful}
use Rattle.session_jobs.specs.LogInputs.{IsLogArea}

-- a ring may stand on it
pub is_ring_area : (areas : List Area) (area : Area) (d : Device) → IsImage (image_on areas d) → IsLogArea areas area → IsRingArea d.banks area
is_ring_area areas area d is log =
    let lawful = maps_are_lawful areas d is in
    record { lawful = lawful.each 0 area (ap (λ (list : List Area). slice_get list 0) log.only); role = inl log.role }
