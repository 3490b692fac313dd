-- What leaves an area written: a sector with a mark is not blank, and none is emptied but while another one has a mark.
use Rattle.std.proofs.Common.{◌≡◌, ℕ, ◌<◌, ◌⊎◌, Bool, true, false, List, [], ◌∷◌, ◌++◌, length, refl, sym, ap, subst, ◌∙◌, inl, inr, arith}
use Rattle.std.proofs.lemmas.Bool.{cases_Bool, cases_eq}
use Rattle.flash_map.specs.Area.{sector_at, ChangesOnly}
use Rattle.item_laws.specs.Area.{next, is_blank_at}
use Rattle.item_laws.specs.Forms.{Collecting, Collected}
use Rattle.item_laws.proofs.Places.{after-within, after-apart}
use Rattle.item_laws.proofs.Rings.{next-closed}
use Rattle.item_store.specs.SectorFormat.{SectorFormat, IsSectorFormat}
use Rattle.item_store.specs.Steps.{Keeps, KeepsMarks, Begins, Adds, Closes}
use Rattle.item_store.specs.Collecting.{HasCopied, StopsCopying}
use Rattle.item_store.specs.Written.{IsWritten}
use Rattle.item_laws.specs.Forms.{to_copy}
use Rattle.item_store.proofs.Areas.{only_else, only_length, only_same, stopped}
use Rattle.item_store.proofs.CollectSteps.{mark_cut}

not_true : (t : Bool) → (t ≡ true → ⊥) → t ≡ false
not_true true never = absurd (never refl)
not_true false never = refl

apart : true ≡ false → ⊥
apart e = cc

some_pair : (ps : List (ℕ × List ℕ)) (p : ℕ × List ℕ) → [] ≡ ps ++ p ∷ [] → ⊥
some_pair [] p e = cc
some_pair (q ∷ qs) p e = cc

module _ (k : SectorFormat) (law : IsSectorFormat k) where
  pub closed-used : (b : List ℕ) → k.reading.is_closed b ≡ true → k.reading.is_blank b ≡ false
  closed-used b closed = not_true (k.reading.is_blank b) (λ blank. apart (sym closed ∙ law.reads.closed b blank))

  pub done-used : (b : List ℕ) → k.reading.has_gc_done b ≡ true → k.reading.is_blank b ≡ false
  done-used b done = not_true (k.reading.is_blank b) (λ blank. apart (sym done ∙ law.reads.gc_done b blank))

  -- the victim of a collection is closed
  pub collecting-written : (sectors : List (List ℕ)) (place : ℕ) → Collecting k.reading sectors place → IsWritten k sectors
  collecting-written sectors place form = record {
    place = next sectors place;
    within = after-within (length sectors) place form.ring.within;
    used = closed-used (sector_at sectors (next sectors place)) (next-closed k.reading sectors place 0 form.ring ∙ refl);
  }

  -- another sector changed, and this one is not blank
  pub else-written : (old new : List (List ℕ)) (changed place : ℕ) → ChangesOnly old new changed → place < length old → (place ≡ changed → ⊥) → is_blank_at k.reading old place ≡ false → IsWritten k new
  else-written old new changed place only within other used =
      let count = only_length old new changed only in
      record { place = place; within = omega arith; used = ap k.reading.is_blank (only_else old new changed place only other) ∙ used }

  -- this sector changed, and is not blank now
  pub own-written : (old new : List (List ℕ)) (place : ℕ) → ChangesOnly old new place → place < length old → is_blank_at k.reading new place ≡ false → IsWritten k new
  own-written old new place only within used =
      let count = only_length old new place only in
      record { place = place; within = omega arith; used = used }

  -- whatever becomes of the victim once gc-done stands in the open sector
  pub victim-written : (old new : List (List ℕ)) (place : ℕ) → Collected k.reading old place → ChangesOnly old new (next old place) → IsWritten k new
  victim-written old new place form only =
      else-written old new (next old place) place only form.ring.within (λ (s : place ≡ next old place). after-apart (length old) place form.ring.within form.ring.several (sym s)) (done-used (sector_at old place) form.done)

  -- a collection that was cut in the open sector
  pub stopped-written : (old new : List (List ℕ)) (place : ℕ) → Collecting k.reading old place → StopsCopying k old new place → IsWritten k new
  stopped-written old new place form stops = collecting-written new place (stopped k law old new place form stops).0

  pub mark-written : (old mid new : List (List ℕ)) (place : ℕ) → Collecting k.reading old place → HasCopied k old mid place (to_copy k.reading old place) → ChangesOnly mid new place → KeepsMarks k (sector_at mid place) (sector_at new place) → IsWritten k new
  mark-written old mid new place form has only keeps = stopped-written old new place form (mark_cut k law old mid new place has only keeps)

  -- a sector was closed
  pub shut-written : (old new : List (List ℕ)) (place : ℕ) → ChangesOnly old new place → place < length old → Closes k (sector_at old place) (sector_at new place) → IsWritten k new
  shut-written old new place only within closes = own-written old new place only within (closed-used (sector_at new place) closes.list.closed)

  -- a step in one sector that leaves it in use where it was
  pub step-written : (old new : List (List ℕ)) (place : ℕ) → ChangesOnly old new place → (is_blank_at k.reading old place ≡ false → is_blank_at k.reading new place ≡ false) → IsWritten k old → IsWritten k new
  step-written old new place only keeps written =
      elim (cases_eq written.place place) [
        | inl same ↦ own-written old new place only (subst (λ (p : ℕ). p < length old) same written.within) (keeps (subst (λ (p : ℕ). is_blank_at k.reading old p ≡ false) same written.used))
        | inr other ↦ else-written old new place written.place only written.within other written.used
      ]

  pub begin-written : (old new : List (List ℕ)) (place : ℕ) → ChangesOnly old new place → Begins k (sector_at old place) (sector_at new place) → IsWritten k old → IsWritten k new
  begin-written old new place only begins = step-written old new place only (λ used. ap k.reading.is_blank (begins.used used) ∙ used)

  pub keeps-written : (old new : List (List ℕ)) (place : ℕ) → ChangesOnly old new place → Keeps k (sector_at old place) (sector_at new place) → IsWritten k old → IsWritten k new
  keeps-written old new place only keeps = step-written old new place only keeps.used

  -- that was cut
  pub close-written : (old new : List (List ℕ)) (place : ℕ) → ChangesOnly old new place → place < length old → Keeps k (sector_at old place) (sector_at new place) ⊎ Closes k (sector_at old place) (sector_at new place) → IsWritten k old → IsWritten k new
  close-written old new place only within either written =
      elim either [
        | inl keeps ↦ keeps-written old new place only keeps written
        | inr closes ↦ shut-written old new place only within closes
      ]

  -- Then nothing changed, or something is written now.
  pub close-changed : (old new : List (List ℕ)) (place : ℕ) → ChangesOnly old new place → place < length old → Keeps k (sector_at old place) (sector_at new place) ⊎ Closes k (sector_at old place) (sector_at new place)
      → (is_blank_at k.reading old place ≡ true → (sector_at new place ≡ sector_at old place) ⊎ Closes k (sector_at old place) (sector_at new place)) → (new ≡ old) ⊎ IsWritten k new
  close-changed old new place only within either unused =
      elim (cases_Bool (is_blank_at k.reading old place)) [
        | inr used ↦ inr (close-written old new place only within either (record { place = place; within = within; used = used }))
        | inl blank ↦
            elim (unused blank) [
              | inl same ↦ inl (only_same old new place only same)
              | inr closes ↦ inr (shut-written old new place only within closes)
            ]
      ]

  -- whatever becomes of a sector with no entry
  pub blank-written : (old new : List (List ℕ)) (place : ℕ) → ChangesOnly old new place → is_blank_at k.reading old place ≡ true → IsWritten k old → IsWritten k new
  blank-written old new place only blank = step-written old new place only (λ used. absurd (apart (sym blank ∙ used)))

  pub adds-written : (old new : List (List ℕ)) (place id : ℕ) (bytes : List ℕ) → ChangesOnly old new place → Adds k (sector_at old place) (sector_at new place) id bytes → IsWritten k old → IsWritten k new
  adds-written old new place id bytes only adds =
      step-written old new place only (λ used. not_true (is_blank_at k.reading new place) (λ blank. some_pair (k.reading.pairs (sector_at old place)) (id, bytes) (sym (law.reads.pairs (sector_at new place) blank) ∙ adds.list.list)))
