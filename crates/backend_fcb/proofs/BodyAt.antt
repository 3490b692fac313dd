-- The body of a record of the list, where it stands.
use Rattle.std.proofs.Common.{◌≡◌, ℕ, ◌+◌, ◌-◌, List, ◌∷◌, ◌++◌, length, Some, sym, ap, ◌∙◌, arith}
use Rattle.std.specs.Prelude.{slice_range, Contains}
use Rattle.std.specs.List.{slice_get}
use Rattle.std.proofs.lemmas.List.{length-drop, length-take-le}
use Rattle.flash_sim.specs.Bank.{IsLawful}
use Rattle.flash_sim.specs.Device.{Device}
use Rattle.flash_map.specs.Area.{unit_of, sector_size, sectors_of, sector_at, sector_bytes}
use Rattle.fcb_ring.specs.declared.record.RecordAt.{RecordAt}
use Rattle.fcb_ring.specs.declared.ring.Ring.{Ring}
use Rattle.fcb_ring.specs.Changing.{body_at}
use Rattle.fcb_ring.specs.Standing.{StandsOn as RingStandsOn, entries_on, record_places, uncounted}
use Rattle.fcb_ring.proofs.AreaLemmas.{has_size, count-sectors}
use Rattle.fcb_ring.proofs.NextLemmas.{body_is}
use Rattle.fcb_ring.proofs.ReadLemmas.{there}
use Rattle.backend_fcb.proofs.WalkLemmas.{Entry, at-length, listed, split}

-- the body of a record has the bytes that its place says
pub body-len : (d : Device) (ring : Ring) → IsLawful d.banks d.bytes → RingStandsOn d ring → (done later : List Entry) (r : RecordAt) (body : List ℕ) → entries_on d ring.area ≡ done ++ (r, body) ∷ later
    → (body ≡ slice_range (sector_bytes d ring.area r.sector) r.body (r.body + r.len)) × (length body ≡ r.len)
body-len d ring lawful on done later r body are =
    let unit = unit_of d ring.area in
    let sectors = sectors_of d ring.area in
    let has = has_size d ring.area lawful on.area in
    let at : slice_get (entries_on d ring.area) (length done) ≡ Some (r, body) = ap (λ (l : List Entry). slice_get l (length done)) are ∙ at-length done (r, body) later in
    let is : body ≡ slice_range (sector_at (sectors_of d ring.area) r.sector) r.body (r.body + r.len) = body_is (unit_of d ring.area) (sectors_of d ring.area) ring.oldest (ring.used + uncounted ring.stage) on.sectors.form (length done) (r, body) at in
    let here = there (unit_of d ring.area) (sector_size d ring.area) (sectors_of d ring.area) has ring on.sectors ring.area.sectors (sym (count-sectors d ring.area)) r (listed (entries_on d ring.area) done r body later are) in
    let size : length (sector_at (sectors_of d ring.area) r.sector) ≡ sector_size d ring.area = has.each r.sector (omega (arith, here.sector, count-sectors d ring.area)) in
    let e : r.body + r.len - r.body ≡ r.len = omega arith in
    let long : length (slice_range (sector_at (sectors_of d ring.area) r.sector) r.body (r.body + r.len)) ≡ r.len + r.body - r.body =
    length-take-le (r.body + r.len - r.body) _ (omega (arith, length-drop r.body (sector_at (sectors_of d ring.area) r.sector), here.fits)) ∙ omega arith in
    (is, ap length is ∙ long ∙ omega arith)

pub body-there : (d : Device) (ring : Ring) → IsLawful d.banks d.bytes → RingStandsOn d ring → (done later : List (RecordAt × List ℕ)) (r : RecordAt) (body : List ℕ) → entries_on d ring.area ≡ done ++ (r, body) ∷ later → body ≡ body_at d ring.area r
body-there d ring lawful on done later r body are = (body-len d ring lawful on done later r body are).0

-- so it has the length that the place says
pub listed-len : (d : Device) (ring : Ring) → IsLawful d.banks d.bytes → RingStandsOn d ring → (r : RecordAt) → Contains (record_places (entries_on d ring.area)) r → length (body_at d ring.area r) ≡ r.len
listed-len d ring lawful on r contained =
    let s = split (entries_on d ring.area) r contained in
    let b = body-len d ring lawful on s.0 s.2 r s.1 s.3 in
    ap length (sym b.0) ∙ b.1

-- and it is the same where the list is
pub same-body : (d e : Device) (ring other : Ring) → IsLawful d.banks d.bytes → IsLawful e.banks e.bytes → RingStandsOn d ring → RingStandsOn e other → entries_on e other.area ≡ entries_on d ring.area → (r : RecordAt) → Contains (record_places (entries_on d ring.area)) r
    → body_at e other.area r ≡ body_at d ring.area r
same-body d e ring other lawful lawful-e on on-e same r contained =
    let s = split (entries_on d ring.area) r contained in
    sym (body-there e other lawful-e on-e s.0 s.2 r s.1 (same ∙ s.3)) ∙ body-there d ring lawful on s.0 s.2 r s.1 s.3
