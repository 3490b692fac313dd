-- A store that is mounted is at rest.
use Rattle.std.proofs.Common.{◌≡◌, ℕ, true, List, Option, Some, None, sym, subst, ◌∙◌}
use Rattle.std.proofs.lemmas.Bool.{false≢true}
use Rattle.flash_sim.specs.Bank.{IsLawful}
use Rattle.flash_sim.specs.Device.{Device}
use Rattle.flash_map.specs.declared.area.Area.{Area}
use Rattle.flash_map.specs.declared.area.Geometry.{Geometry}
use Rattle.flash_map.specs.declared.area.Role.{Role}
use Rattle.flash_map.specs.Area.{geometry_of, sectors_of}
use Rattle.flash_map.specs.Units.{IsUnit}
use Rattle.item_laws.specs.Forms.{AtRest}
use Rattle.item_store.specs.declared.store.Store.{Store}
use Rattle.item_store.specs.SectorFormat.{IsSectorFormat, SectorFormat}
use Rattle.item_store.proofs.Areas.{unit_is}
use Rattle.item_store.proofs.ReadFacts.{rest_on}
use Rattle.item_session.specs.declared.session.ItemSession.{ItemSession}
use Rattle.item_session.specs.Device.{RestsOn}
use Rattle.item_session.specs.Standing.{IsMounted, IsReady}

module _ {T : Type 0} (role : Role) (format_of : Geometry → SectorFormat) (kept : Geometry → List ℕ → T) (laws : (geometry : Geometry) → IsUnit geometry.unit → IsSectorFormat (format_of geometry)) (d : Device) (lawful : IsLawful d.banks d.bytes) where
  rests : (area : Area) (store : Option (Store T)) → IsMounted role format_of kept d area store → d.is_on ≡ true → RestsOn format_of d area
  rests area None off on = absurd (false≢true (sym off ∙ on))
  rests area (Some store) mounted on =
      let stands = mounted.1 on in
      let law : IsSectorFormat (format_of (geometry_of d store.area)) = laws (geometry_of d store.area) (unit_is d store.area lawful stands.area.lawful) in
      let here : AtRest (format_of (geometry_of d store.area)).reading (sectors_of d store.area) store.current = rest_on role format_of kept d store law lawful stands in
      subst (λ (a : Area). RestsOn format_of d a) mounted.0 (subst (λ (n : ℕ). AtRest (format_of (geometry_of d store.area)).reading (sectors_of d store.area) n) stands.current here)

  pub rests_still : (area : Area) (session : ItemSession T) → session.area ≡ area → IsReady role format_of kept d session → d.is_on ≡ true → RestsOn format_of d area
  rests_still area session same ready on = subst (λ (a : Area). RestsOn format_of d a) same (rests session.area session.store ready.mounted on)
