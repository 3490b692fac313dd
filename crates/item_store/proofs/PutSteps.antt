-- A pair that is put into the open sector of an area at rest, whole or cut.
use Rattle.std.proofs.Common.{◌≡◌, ℕ, ◌+◌, ◌*◌, ◌≤◌, Bool, true, false, cond, eqb, leb, List, [], ◌∷◌, ◌++◌, length, None, refl, sym, ap, subst, ◌∙◌, inl, inr, length-append, arith}
use Rattle.std.proofs.lemmas.Bool.{false≢true, cases_Bool}
use Rattle.flash_map.specs.Area.{sector_at, ChangesOnly}
use Rattle.item_laws.specs.Area.{area_pairs}
use Rattle.item_laws.specs.Forms.{AtRest}
use Rattle.item_laws.specs.Reading.{Reading, is_sound}
use Rattle.item_laws.specs.Steps as ring
use Rattle.item_laws.proofs.Collects.{put_pair, put_nothing, blank-sound}
use Rattle.item_laws.proofs.RingSteps.{reads}
use Rattle.item_store.specs.SectorFormat.{SectorFormat, IsSectorFormat, fits}
use Rattle.item_store.specs.Standing.{list_of}
use Rattle.item_store.specs.Steps.{Keeps, Begins, Adds}
use Rattle.item_store.proofs.Areas.{form_undamaged, only_then}

-- at rest with one pair more
pub record HasPut (k : SectorFormat) (old new : List (List ℕ)) (place id : ℕ) (bytes : List ℕ) : Type 0 where
  pub form : AtRest k.reading new place
  pub list : list_of k new ≡ list_of k old ++ (id, bytes) ∷ []
  pub undamaged : k.damage new ≡ None

-- with the same list
pub record HasNotPut (k : SectorFormat) (old new : List (List ℕ)) (place : ℕ) : Type 0 where
  pub form : AtRest k.reading new place
  pub list : list_of k new ≡ list_of k old
  pub undamaged : k.damage new ≡ None

module _ (k : SectorFormat) (law : IsSectorFormat k) where
  abbrev R : Reading
  R = k.reading

  -- what is said of a sector before it is made ready is said of it afterwards

  pub record StillHas (old new : List ℕ) : Type 0 where
    pub list : k.reading.pairs new ≡ k.reading.pairs old
    pub closed : k.reading.is_closed new ≡ k.reading.is_closed old
    pub gc_done : k.reading.has_gc_done new ≡ k.reading.has_gc_done old
    pub free : k.free new ≡ k.free old
    pub sound : is_sound k.reading new ≡ true
    pub blank : k.reading.is_blank old ≡ false → k.reading.is_blank new ≡ false

  pub begun_still : (old new : List ℕ) → 512 ≤ length old → is_sound k.reading old ≡ true → Begins k old new → StillHas old new
  begun_still old new large sound begins =
      elim (cases_Bool (k.is_clean old)) [
        | inr used ↦
            let same : new ≡ old =
            elim (cases_Bool (R.is_blank old)) [
              | inr full ↦ begins.used full
              | inl blank ↦ begins.idle (law.used old large sound used (law.reads.closed old blank))
            ] in
            subst (λ (b : List ℕ). StillHas old b) (sym same) (record { list = refl; closed = refl; gc_done = refl; free = refl; sound = sound; blank = λ h. h })
        | inl clean ↦
            let blank = law.clean old clean in
            let clean_after = begins.clean clean in
            let after : R.is_blank new ≡ true = law.clean new clean_after in
            let long = begins.long in
            let room = law.room old large clean in
            let room_after = law.room new (omega arith) clean_after in
            let cap : k.cap (length new) ≡ k.cap (length old) = ap k.cap begins.long in
            record {
              list = law.reads.pairs new after ∙ sym (law.reads.pairs old blank);
              closed = law.reads.closed new after ∙ sym (law.reads.closed old blank);
              gc_done = law.reads.gc_done new after ∙ sym (law.reads.gc_done old blank);
              free = omega arith;
              sound = blank-sound R new after;
              blank = λ used. absurd (false≢true (sym used ∙ blank));
            }
      ]

  -- and the same fits
  pub begun_fits : (old new : List ℕ) (len : ℕ) → StillHas old new → fits k new len ≡ fits k old len
  begun_fits old new len still =
      ap (λ (n : ℕ). cond (eqb len 0) (leb (2 * k.slot) n) (leb (k.cost len + cond (k.reading.has_gc_done new) 2 3 * k.slot) n)) still.free
      ∙ ap (λ (t : Bool). cond (eqb len 0) (leb (2 * k.slot) (k.free old)) (leb (k.cost len + cond t 2 3 * k.slot) (k.free old))) still.gc_done

  -- a sector with a pair is in use
  pair_used : (b : List ℕ) (pairs : List (ℕ × List ℕ)) (p : ℕ × List ℕ) → k.reading.pairs b ≡ pairs ++ p ∷ [] → k.reading.is_blank b ≡ false
  pair_used b pairs p is =
      elim (cases_Bool (R.is_blank b)) [
        | inr used ↦ used
        | inl blank ↦
            let none : length (R.pairs b) ≡ 0 = ap length (law.reads.pairs b blank) in
            let some : length (R.pairs b) ≡ length (pairs ++ p ∷ []) = ap length is in
            let sum = length-append pairs (p ∷ []) in
            absurd (omega arith)
      ]

  module _ (old new : List (List ℕ)) (place : ℕ) (form : AtRest k.reading old place) (only : ChangesOnly old new place) where
    pub has_put : (id : ℕ) (bytes : List ℕ) → ring.AddsPair k.reading (sector_at old place) (sector_at new place) id bytes → is_sound k.reading (sector_at new place) ≡ true → HasPut k old new place id bytes
    has_put id bytes adds sound =
        let step = put_pair R old place id (sector_at new place) bytes form adds (record { used = λ _. pair_used (sector_at new place) (R.pairs (sector_at old place)) (id, bytes) adds.list; sound = sound }) in
        let rests : AtRest R new place = subst (λ (s : List (List ℕ)). AtRest R s place) (sym only) step.0 in
        let here = form_undamaged k law new place (inl rests) in
        record {
          form = rests;
          list = ap (area_pairs R new) here.0 ∙ ap (λ (s : List (List ℕ)). area_pairs R s place) only ∙ step.1 ∙ ap (λ (p : ℕ). area_pairs R old p ++ (id, bytes) ∷ []) (sym (reads R old place (inl form)).0);
          undamaged = here.1;
        }

    pub has_not_put : ring.KeepsList k.reading (sector_at old place) (sector_at new place) → (k.reading.is_blank (sector_at old place) ≡ false → k.reading.is_blank (sector_at new place) ≡ false) → is_sound k.reading (sector_at new place) ≡ true → HasNotPut k old new place
    has_not_put keeps used sound =
        let step = put_nothing R old place (sector_at new place) form keeps (record { used = used; sound = sound }) in
        let rests : AtRest R new place = subst (λ (s : List (List ℕ)). AtRest R s place) (sym only) step.0 in
        let here = form_undamaged k law new place (inl rests) in
        record {
          form = rests;
          list = ap (area_pairs R new) here.0 ∙ ap (λ (s : List (List ℕ)). area_pairs R s place) only ∙ step.1 ∙ ap (λ (p : ℕ). area_pairs R old p) (sym (reads R old place (inl form)).0);
          undamaged = here.1;
        }

  -- The sector is made ready, and then the pair is put.

  module _ (old mid new : List (List ℕ)) (place : ℕ) (form : AtRest k.reading old place) (large : 512 ≤ length (sector_at old place)) (first : ChangesOnly old mid place) (begins : Begins k (sector_at old place) (sector_at mid place)) where
    still : StillHas (sector_at old place) (sector_at mid place)
    still = begun_still (sector_at old place) (sector_at mid place) large (form.sound place form.ring.within) begins

    pub begun-list : ring.KeepsList k.reading (sector_at old place) (sector_at mid place)
    begun-list = record { list = still.list; gc_done = still.gc_done; closed = still.closed }

    pub begun-sound : is_sound k.reading (sector_at mid place) ≡ true
    begun-sound = still.sound

    pub begun-form : AtRest k.reading mid place
    begun-form = (has_not_put old mid place form first begun-list still.blank begun-sound).form

    pub begun-free : k.free (sector_at mid place) ≡ k.free (sector_at old place)
    begun-free = still.free

    pub begun-room : (len : ℕ) → fits k (sector_at mid place) len ≡ fits k (sector_at old place) len
    begun-room len = begun_fits (sector_at old place) (sector_at mid place) len still

    module _ (second : ChangesOnly mid new place) (id : ℕ) (bytes : List ℕ) (sound : is_sound k.reading (sector_at mid place) ≡ true → is_sound k.reading (sector_at new place) ≡ true) where
      only : ChangesOnly old new place
      only = only_then old mid new place first second

      pub then-put : Adds k (sector_at mid place) (sector_at new place) id bytes → HasPut k old new place id bytes
      then-put adds =
          let list = adds.list in
          has_put old new place form only id bytes (record { list = list.list ∙ ap (λ ps. ps ++ (id, bytes) ∷ []) still.list; gc_done = list.gc_done ∙ still.gc_done; closed = list.closed ∙ still.closed }) (sound begun-sound)

      pub then-kept : Keeps k (sector_at mid place) (sector_at new place) → HasNotPut k old new place
      then-kept keeps =
          let list = keeps.list in
          has_not_put old new place form only (record { list = list.list ∙ still.list; gc_done = list.gc_done ∙ still.gc_done; closed = list.closed ∙ still.closed }) (λ used. keeps.used (still.blank used)) (sound begun-sound)
