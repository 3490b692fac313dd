-- What stays written, in the words of the code.
use Rattle.std.proofs.Common.{◌≡◌, ℕ, ◌<◌, ◌⊎◌, List, length, sym, subst, ◌∙◌, inl, inr, arith}
use Rattle.std.specs.Prelude.{Result, OnOk, OnErr}
use Rattle.std.proofs.lemmas.Result.{on_ok_weaker, on_err_weaker}
use Rattle.flash_sim.specs.Device.{Device}
use Rattle.flash_map.specs.declared.area.Area.{Area}
use Rattle.flash_map.specs.declared.area.Geometry.{Geometry}
use Rattle.flash_map.specs.Area.{geometry_of, sector_at, sectors_of, ChangesOnly}
use Rattle.item_laws.specs.Area.{next}
use Rattle.item_laws.specs.Forms.{Collecting, to_copy}
use Rattle.item_laws.proofs.Places.{after-apart}
use Rattle.item_laws.proofs.AreaReads.{length-sectors}
use Rattle.item_store.specs.SectorFormat.{SectorFormat, IsSectorFormat}
use Rattle.item_store.specs.Steps.{Keeps, KeepsMarks, Begins, Adds, Marks, Closes}
use Rattle.item_store.specs.Collecting.{HasCopied}
use Rattle.item_store.specs.Written.{IsWritten}
use Rattle.item_store.proofs.CallFacts.{to_geometry}
use Rattle.item_store.proofs.CopyLoop.{either}
use Rattle.item_store.proofs.WrittenSteps.{else-written, done-used, mark-written, shut-written, begin-written, keeps-written, adds-written}

-- nothing changed, or something is written now
pub stays-written : (k : SectorFormat) (a d : Device) (area : Area) → (d ≡ a) ⊎ IsWritten k (sectors_of d area) → IsWritten k (sectors_of a area) → IsWritten k (sectors_of d area)
stays-written k a d area ends written =
    elim ends [
      | inl same ↦ subst (λ (e : Device). IsWritten k (sectors_of e area)) (sym same) written
      | inr now ↦ now
    ]

module _ (format_of : Geometry → SectorFormat) (a : Device) (area : Area) (place : ℕ) (law : IsSectorFormat (format_of (geometry_of a area))) where
  -- a cut gc-done, and whatever becomes of the victim behind a whole one
  module _ (form : Collecting (format_of (geometry_of a area)).reading (sectors_of a area) place) (d : Device) (banks : d.banks ≡ a.banks) (e : Device) (only : ChangesOnly (sectors_of d area) (sectors_of e area) place) where
    pub mark_cut-written : HasCopied (format_of (geometry_of a area)) (sectors_of a area) (sectors_of d area) place (to_copy (format_of (geometry_of a area)).reading (sectors_of a area) place) → KeepsMarks (format_of (geometry_of d area)) (sector_at (sectors_of d area) place) (sector_at (sectors_of e area) place) → IsWritten (format_of (geometry_of a area)) (sectors_of e area)
    mark_cut-written has keeps =
        mark-written (format_of (geometry_of a area)) law (sectors_of a area) (sectors_of d area) (sectors_of e area) place form has only
        (to_geometry (λ u. KeepsMarks (format_of u) (sector_at (sectors_of d area) place) (sector_at (sectors_of e area) place)) a d area banks keeps)

    pub clear-written : Marks (format_of (geometry_of d area)) (sector_at (sectors_of d area) place) (sector_at (sectors_of e area) place) → (victim : ℕ) → victim ≡ next (sectors_of a area) place → (z : Device) → ChangesOnly (sectors_of e area) (sectors_of z area) victim → IsWritten (format_of (geometry_of a area)) (sectors_of z area)
    clear-written marked victim at z changes =
        let marks : Marks (format_of (geometry_of a area)) (sector_at (sectors_of d area) place) (sector_at (sectors_of e area) place) = to_geometry (λ u. Marks (format_of u) (sector_at (sectors_of d area) place) (sector_at (sectors_of e area) place)) a d area banks marked in
        let within : place < length (sectors_of e area) = let before = length-sectors a area in let after = length-sectors e area in let inside = form.ring.within in omega arith in
        else-written (format_of (geometry_of a area)) law (sectors_of e area) (sectors_of z area) victim place changes within
        (λ (s : place ≡ victim). after-apart (length (sectors_of a area)) place form.ring.within form.ring.several (sym (s ∙ at)))
        (done-used (format_of (geometry_of a area)) law (sector_at (sectors_of e area) place) marks.list.gc_done)

  -- what is done behind a whole close
  pub opened-written : place < area.sectors → (b : Device) → b.banks ≡ a.banks → ChangesOnly (sectors_of a area) (sectors_of b area) place → Closes (format_of (geometry_of a area)) (sector_at (sectors_of a area) place) (sector_at (sectors_of b area) place)
      → (e : Device) → (IsWritten (format_of (geometry_of b area)) (sectors_of b area) → IsWritten (format_of (geometry_of b area)) (sectors_of e area)) → IsWritten (format_of (geometry_of a area)) (sectors_of e area)
  opened-written inside b banks only closes e stays =
      let count = length-sectors a area in
      let shut : IsWritten (format_of (geometry_of a area)) (sectors_of b area) = shut-written (format_of (geometry_of a area)) law (sectors_of a area) (sectors_of b area) place only (omega arith) closes in
      to_geometry (λ u. IsWritten (format_of u) (sectors_of b area) → IsWritten (format_of u) (sectors_of e area)) a b area banks stays shut

  -- an entry behind the step that made its sector ready
  module _ (b : Device) (banks : b.banks ≡ a.banks) (only : ChangesOnly (sectors_of a area) (sectors_of b area) place) (begins : Begins (format_of (geometry_of a area)) (sector_at (sectors_of a area) place) (sector_at (sectors_of b area) place)) (written : IsWritten (format_of (geometry_of a area)) (sectors_of a area)) (e : Device) (changes : ChangesOnly (sectors_of b area) (sectors_of e area) place) (id : ℕ) (bytes : List ℕ) where
    begun : IsWritten (format_of (geometry_of a area)) (sectors_of b area)
    begun = begin-written (format_of (geometry_of a area)) law (sectors_of a area) (sectors_of b area) place only begins written

    entry-written : Adds (format_of (geometry_of b area)) (sector_at (sectors_of b area) place) (sector_at (sectors_of e area) place) id bytes → IsWritten (format_of (geometry_of a area)) (sectors_of e area)
    entry-written adds =
        adds-written (format_of (geometry_of a area)) law (sectors_of b area) (sectors_of e area) place id bytes changes
        (to_geometry (λ u. Adds (format_of u) (sector_at (sectors_of b area) place) (sector_at (sectors_of e area) place) id bytes) a b area banks adds) begun

    cut-written : Keeps (format_of (geometry_of b area)) (sector_at (sectors_of b area) place) (sector_at (sectors_of e area) place) ⊎ Adds (format_of (geometry_of b area)) (sector_at (sectors_of b area) place) (sector_at (sectors_of e area) place) id bytes → IsWritten (format_of (geometry_of a area)) (sectors_of e area)
    cut-written lost =
        elim lost [
          | inl keeps ↦ keeps-written (format_of (geometry_of a area)) law (sectors_of b area) (sectors_of e area) place changes (to_geometry (λ u. Keeps (format_of u) (sector_at (sectors_of b area) place) (sector_at (sectors_of e area) place)) a b area banks keeps) begun
          | inr adds ↦ entry-written adds
        ]

    pub put-written : {V E : Type 0} (result : Result V E) → OnOk result (Adds (format_of (geometry_of b area)) (sector_at (sectors_of b area) place) (sector_at (sectors_of e area) place) id bytes)
        → OnErr result (Keeps (format_of (geometry_of b area)) (sector_at (sectors_of b area) place) (sector_at (sectors_of e area) place) ⊎ Adds (format_of (geometry_of b area)) (sector_at (sectors_of b area) place) (sector_at (sectors_of e area) place) id bytes)
        → IsWritten (format_of (geometry_of a area)) (sectors_of e area)
    put-written result whole lost = either result (on_ok_weaker result entry-written whole) (on_err_weaker result cut-written lost)
