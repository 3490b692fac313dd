-- gc-done stands before a byte of the victim changes.
use Rattle.std.proofs.Common.{◌≡◌, ℕ, List, length, ap, sym, subst, ◌∙◌, inl, inr}
use Rattle.flash_sim.specs.Device.{Device}
use Rattle.flash_map.specs.declared.area.Area.{Area}
use Rattle.flash_map.specs.declared.area.Geometry.{Geometry}
use Rattle.flash_map.specs.Area.{geometry_of, sector_at, sectors_of, ChangesOnly}
use Rattle.item_laws.specs.Area.{next}
use Rattle.item_laws.specs.Forms.{IsRing, Collected}
use Rattle.item_laws.proofs.Places.{after, after-apart}
use Rattle.item_store.specs.SectorFormat.{SectorFormat}
use Rattle.item_store.specs.Steps.{Closes}
use Rattle.item_store.specs.Collecting.{MarksFirst, RoundMarksFirst}
use Rattle.item_store.proofs.Areas.{only_else, only_length}
use Rattle.item_store.proofs.CallFacts.{to_geometry}

-- No sector changed but the open one.
pub own-marks : (k : SectorFormat) (old new : List (List ℕ)) (place blanks : ℕ) → IsRing k.reading old place blanks → ChangesOnly old new place → MarksFirst k old new place
own-marks k old new place blanks ring only = inl (only_else old new place (next old place) only (after-apart (length old) place ring.within ring.several))

-- And then a collection goes on.
pub then-marks : (k : SectorFormat) (old mid new : List (List ℕ)) (place blanks : ℕ) → IsRing k.reading old place blanks → ChangesOnly old mid place → MarksFirst k mid new place → MarksFirst k old new place
then-marks k old mid new place blanks ring only marks =
    let at : next mid place ≡ next old place = ap (λ (n : ℕ). after n place) (only_length old mid place only) in
    elim marks [
      | inl same ↦ inl (subst (λ (v : ℕ). sector_at new v ≡ sector_at mid v) at same ∙ only_else old mid place (next old place) only (after-apart (length old) place ring.within ring.several))
      | inr done ↦ inr done
    ]

-- gc-done stands, and only the victim changed.
pub victim-marks : (k : SectorFormat) (old new : List (List ℕ)) (place : ℕ) → Collected k.reading old place → ChangesOnly old new (next old place) → MarksFirst k old new place
victim-marks k old new place form only =
    inr (ap k.reading.has_gc_done (only_else old new (next old place) place only (λ (s : place ≡ next old place). after-apart (length old) place form.ring.within form.ring.several (sym s))) ∙ form.done)

-- What follows the close of a round.
pub round-marks : (format_of : Geometry → SectorFormat) (a b e : Device) (area : Area) (place opened : ℕ) → b.banks ≡ a.banks → ChangesOnly (sectors_of a area) (sectors_of b area) place
    → Closes (format_of (geometry_of a area)) (sector_at (sectors_of a area) place) (sector_at (sectors_of b area) place) → opened ≡ next (sectors_of a area) place → MarksFirst (format_of (geometry_of b area)) (sectors_of b area) (sectors_of e area) opened
    → RoundMarksFirst (format_of (geometry_of a area)) (sectors_of a area) (sectors_of e area) place
round-marks format_of a b e area place opened banks only closes at marks =
    inr (record {
      closed = sectors_of b area;
      only = only;
      closes = closes;
      marks = subst (λ (p : ℕ). MarksFirst (format_of (geometry_of a area)) (sectors_of b area) (sectors_of e area) p) at
          (to_geometry (λ u. MarksFirst (format_of u) (sectors_of b area) (sectors_of e area) opened) a b area banks marks);
    })
