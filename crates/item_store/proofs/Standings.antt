-- When a store stands on an area at rest, and what of it that says.
use Rattle.std.proofs.Common.{◌≡◌, ℕ, false, List, None, sym, inl}
use Rattle.flash_sim.specs.Device.{Device}
use Rattle.flash_map.specs.declared.area.Area.{Area}
use Rattle.flash_map.specs.declared.area.Geometry.{Geometry}
use Rattle.flash_map.specs.declared.area.Role.{Role}
use Rattle.flash_map.specs.Area.{geometry_of, sector_at, sectors_of}
use Rattle.item_laws.specs.Area.{next, is_closed_at, open_sector}
use Rattle.item_laws.specs.Forms.{AtRest}
use Rattle.item_store.specs.SectorFormat.{SectorFormat, IsSectorFormat}
use Rattle.item_store.specs.Standing.{IsStoreArea}
use Rattle.item_store.specs.Stands.{StandsAt}
use Rattle.item_store.proofs.Areas.{still_area, form_undamaged}
use Rattle.item_store.proofs.CallFacts.{from_geometry}
use Rattle.item_store.proofs.CollectSteps.{rest_closed}

pub stands : {T : Type 0} (role : Role) (format_of : Geometry → SectorFormat) (kept : Geometry → List ℕ → T) (a d : Device) (area : Area) (current : ℕ) (opened : T) → IsSectorFormat (format_of (geometry_of a area)) → d.banks ≡ a.banks → IsStoreArea role a.banks area → AtRest (format_of (geometry_of a area)).reading (sectors_of d area) current
    → opened ≡ kept (geometry_of a area) (sector_at (sectors_of d area) current) → StandsAt role format_of kept d area current opened
stands role format_of kept a d area current opened law banks is form known =
    let k = format_of (geometry_of a area) in
    let here = form_undamaged (format_of (geometry_of a area)) law (sectors_of d area) current (inl form) in
    record {
      area = still_area role a d area banks is;
      current = from_geometry (λ u. current ≡ open_sector (format_of u).reading (sectors_of d area)) a d area banks (sym here.0);
      opened = from_geometry (λ u. opened ≡ kept u (sector_at (sectors_of d area) current)) a d area banks known;
      rested = from_geometry (λ u. is_closed_at (format_of u).reading (sectors_of d area) (next (sectors_of d area) current) ≡ false) a d area banks (rest_closed (format_of (geometry_of a area)) law (sectors_of d area) current form);
      undamaged = from_geometry (λ u. (format_of u).damage (sectors_of d area) ≡ None) a d area banks here.1;
    }
