-- A collection, step by step: the start, the copies, gc-done, the emptying of the victim; and what a mount has to do.
use Rattle.std.proofs.Common.{◌≡◌, ◌⊎◌, ℕ, ◌*◌, ◌≤◌, Bool, true, false, cond, List, [], length, refl, sym, ap, subst, ◌∙◌, inl, inr, arith}
use Rattle.flash_map.specs.Area.{sector_at, ChangesOnly}
use Rattle.std.proofs.lemmas.Bool.{le-ltb}
use Rattle.item_laws.specs.Area.{next, area_pairs, is_closed_at}
use Rattle.item_laws.specs.Forms.{AtRest, Collecting, Collected, IsForm, to_copy}
use Rattle.item_laws.specs.Reading.{Reading}
use Rattle.item_laws.specs.PairRounds.{copies_cost}
use Rattle.item_laws.specs.Rounds.{Collects}
use Rattle.item_laws.proofs.Collects.{put_victim, erase_victim}
use Rattle.item_laws.proofs.Rings.{open-not_closed, next-closed}
use Rattle.item_laws.proofs.Rounding.{collects_from}
use Rattle.item_laws.proofs.Parts.{to_copy-kept}
use Rattle.item_laws.proofs.Places.{after, after-apart}
use Rattle.item_store.specs.declared.entry.Redo.TheVariants.{Nothing, ClearNext, CollectAgain}
use Rattle.item_store.specs.SectorFormat.{SectorFormat, IsSectorFormat}
use Rattle.item_store.specs.Steps.{Keeps, KeepsMarks, Begins, Clears, StopsClearing}
use Rattle.item_store.specs.Standing.{KeepsItems}
use Rattle.item_store.specs.Collecting.{HasBegun, HasCopied, StopsCopying, EmptiesVictim, CollectsAt, redo_of}
use Rattle.item_store.proofs.VersionLemmas.{keeps_all}
use Rattle.item_store.proofs.Areas.{keeps-by, stopped, has_stopped, none_copied, marks_stopped, only_then, only_length, only_else, copied-le}

-- An open sector that has no entry and is ready for one.

pub has_begun : (k : SectorFormat) (old start : List (List ℕ)) (place : ℕ) → ChangesOnly old start place → k.is_clean (sector_at old place) ≡ true → Begins k (sector_at old place) (sector_at start place) → HasBegun k old start place
has_begun k old start place only clean begins = record { only = only; clean = begins.clean clean; ready = begins.ready; long = begins.long }

pub has_cleared : (k : SectorFormat) (old start : List (List ℕ)) (place : ℕ) → ChangesOnly old start place → Clears k (sector_at old place) (sector_at start place) → HasBegun k old start place
has_cleared k old start place only clears = record { only = only; clean = clears.clean; ready = clears.ready; long = clears.long }

module _ (k : SectorFormat) (law : IsSectorFormat k) where
  abbrev R : Reading
  R = k.reading

  -- a cut step that keeps the marks of the open sector
  pub begin_cut : (old new : List (List ℕ)) (place : ℕ) → Collecting k.reading old place → ChangesOnly old new place → KeepsMarks k (sector_at old place) (sector_at new place) → StopsCopying k old new place
  begin_cut old new place form only keeps = record {
    only = only;
    closed = keeps.closed ∙ open-not_closed R old place 0 form.ring;
    gc_done = keeps.gc_done ∙ form.not_done;
  }

  pub marks_of : (old new : List ℕ) → Keeps k old new → KeepsMarks k old new
  marks_of old new keeps = record { closed = keeps.list.closed; gc_done = keeps.list.gc_done }

  -- one that may leave it clean
  pub clean_cut : (old new : List (List ℕ)) (place : ℕ) → ChangesOnly old new place → k.is_clean (sector_at new place) ≡ true → StopsCopying k old new place
  clean_cut old new place only clean =
      let blank = law.clean (sector_at new place) clean in
      record { only = only; closed = law.reads.closed (sector_at new place) blank; gc_done = law.reads.gc_done (sector_at new place) blank }

  pub prepare_cut : (old new : List (List ℕ)) (place : ℕ) → Collecting k.reading old place → ChangesOnly old new place → Keeps k (sector_at old place) (sector_at new place) ⊎ StopsClearing k (sector_at old place) (sector_at new place) → StopsCopying k old new place
  prepare_cut old new place form only lost =
      elim lost [
        | inl keeps ↦ begin_cut old new place form only (marks_of (sector_at old place) (sector_at new place) keeps)
        | inr stops ↦
            elim stops.either [
              | inl keeps ↦ begin_cut old new place form only keeps
              | inr clean ↦ clean_cut old new place only clean
            ]
      ]

  module _ (old start : List (List ℕ)) (place : ℕ) (form : Collecting k.reading old place) (begun : HasBegun k old start place) where
    pub start_stops : StopsCopying k old start place
    start_stops = clean_cut old start place begun.only begun.clean

    start_blank : k.reading.is_blank (sector_at start place) ≡ true
    start_blank = law.clean (sector_at start place) begun.clean

    pub start_form : Collecting k.reading start place
    start_form = (stopped k law old start place form start_stops).0

    pub start_next : next start place ≡ next old place
    start_next = ap (λ (n : ℕ). after n place) (only_length old start place begun.only)

    pub start_copies : to_copy k.reading start place ≡ to_copy k.reading old place
    start_copies = ap (λ (s : List (List ℕ)). to_copy R s place) begun.only ∙ to_copy-kept R old place (sector_at start place) form.ring.within form.ring.several

    pub start_none : 512 ≤ length (sector_at old place) → HasCopied k start start place []
    start_none long = let size = begun.long in none_copied k law start place begun.clean begun.ready (omega arith)

    -- a cut copy
    pub copy_cut : (new : List (List ℕ)) → StopsCopying k start new place → StopsCopying k old new place
    copy_cut new stops = record { only = only_then old start new place begun.only stops.only; closed = stops.closed; gc_done = stops.gc_done }

    -- the victim was as it is before the open sector was made ready
    start_empties : (new : List (List ℕ)) → EmptiesVictim k start new place → EmptiesVictim k old new place
    start_empties new empties =
        let same : sector_at start (next old place) ≡ sector_at old (next old place) = only_else old start place (next old place) begun.only (after-apart (length old) place form.ring.within form.ring.several) in
        subst (λ (b : List ℕ). Clears k b (sector_at new (next old place))) same (subst (λ (v : ℕ). Clears k (sector_at start v) (sector_at new v)) start_next empties)

    pub again_collects : (new : List (List ℕ)) → CollectsAt k start new place → CollectsAt k old new place
    again_collects new at =
        let all = collects_from R old place (sector_at start place) new form (law.reads.closed (sector_at start place) start_blank) (law.reads.gc_done (sector_at start place) start_blank) (subst (λ (s : List (List ℕ)). Collects R s place new) begun.only at.collects) in
        let total = ap (copies_cost k.cost) start_copies in
        let cap : k.cap (length (sector_at start place)) ≡ k.cap (length (sector_at old place)) = ap k.cap begun.long in
        let room = at.room in
        record {
          collects = all;
          list = at.list ∙ start_copies;
          gc_done = at.gc_done;
          empties = start_empties new at.empties;
          long = at.long ∙ begun.long;
          room = omega arith;
          others = λ j apart off. at.others j apart (λ (e : j ≡ next start place). off (e ∙ start_next)) ∙ only_else old start place j begun.only apart;
        }

  -- Room for gc-done.
  pub mark_room : (old mid : List (List ℕ)) (place : ℕ) → Collecting k.reading old place → 512 ≤ length (sector_at old (next old place)) → length (sector_at old (next old place)) ≡ length (sector_at old place) → HasCopied k old mid place (to_copy k.reading old place)
      → 2 * k.slot ≤ k.free (sector_at mid place)
  mark_room old mid place form large same has =
      let le = copied-le k law old place form large in
      let cap : k.cap (length (sector_at old (next old place))) ≡ k.cap (length (sector_at old place)) = ap k.cap same in
      let room = has.room in
      omega arith

  -- a cut gc-done
  pub mark_cut : (old mid new : List (List ℕ)) (place : ℕ) → HasCopied k old mid place (to_copy k.reading old place) → ChangesOnly mid new place → KeepsMarks k (sector_at mid place) (sector_at new place) → StopsCopying k old new place
  mark_cut old mid new place has only keeps = marks_stopped k law old mid new place (has_stopped k law old mid place (to_copy R old place) has) only keeps

  -- What a mount has to do in each form.

  pub redo_is : (sectors : List (List ℕ)) (place : ℕ) (closed done : Bool) → is_closed_at k.reading sectors (next sectors place) ≡ closed → k.reading.has_gc_done (sector_at sectors place) ≡ done → redo_of k sectors place ≡ cond closed (cond done ClearNext CollectAgain) Nothing
  redo_is sectors place closed done c d =
      ap (λ (t : Bool). cond t (cond (k.reading.has_gc_done (sector_at sectors place)) ClearNext CollectAgain) Nothing) c ∙ ap (λ (t : Bool). cond closed (cond t ClearNext CollectAgain) Nothing) d

  pub rest_closed : (sectors : List (List ℕ)) (place : ℕ) → AtRest k.reading sectors place → is_closed_at k.reading sectors (next sectors place) ≡ false
  rest_closed sectors place form = next-closed R sectors place form.blanks form.ring ∙ le-ltb form.blanks 1 form.some

  pub redo-at_rest : (sectors : List (List ℕ)) (place : ℕ) → AtRest k.reading sectors place → redo_of k sectors place ≡ Nothing
  redo-at_rest sectors place form = redo_is sectors place false (k.reading.has_gc_done (sector_at sectors place)) (rest_closed sectors place form) refl

  pub redo-collecting : (sectors : List (List ℕ)) (place : ℕ) → Collecting k.reading sectors place → redo_of k sectors place ≡ CollectAgain
  redo-collecting sectors place form = redo_is sectors place true false (next-closed R sectors place 0 form.ring ∙ refl) form.not_done

  pub redo-collected : (sectors : List (List ℕ)) (place : ℕ) → Collected k.reading sectors place → redo_of k sectors place ≡ ClearNext
  redo-collected sectors place form = redo_is sectors place true true (next-closed R sectors place 0 form.ring ∙ refl) form.done

  pub rest_from : (sectors : List (List ℕ)) (place : ℕ) → IsForm k.reading sectors place → redo_of k sectors place ≡ Nothing → AtRest k.reading sectors place
  rest_from sectors place form is =
      elim form [
        | inl rest ↦ rest
        | inr (inl collecting) ↦ absurd (again_not (sym (redo-collecting sectors place collecting) ∙ is))
        | inr (inr collected) ↦ absurd (clear_not (sym (redo-collected sectors place collected) ∙ is))
      ]
    where
      again_not : CollectAgain ≡ Nothing → ⊥
      again_not e = cc

      clear_not : ClearNext ≡ Nothing → ⊥
      clear_not e = cc

  pub collecting_from : (sectors : List (List ℕ)) (place : ℕ) → IsForm k.reading sectors place → redo_of k sectors place ≡ CollectAgain → Collecting k.reading sectors place
  collecting_from sectors place form is =
      elim form [
        | inl rest ↦ absurd (other (sym (redo-at_rest sectors place rest) ∙ is))
        | inr (inl collecting) ↦ collecting
        | inr (inr collected) ↦ absurd (another (sym (redo-collected sectors place collected) ∙ is))
      ]
    where
      other : Nothing ≡ CollectAgain → ⊥
      other e = cc

      another : ClearNext ≡ CollectAgain → ⊥
      another e = cc

  pub collected_from : (sectors : List (List ℕ)) (place : ℕ) → IsForm k.reading sectors place → redo_of k sectors place ≡ ClearNext → Collected k.reading sectors place
  collected_from sectors place form is =
      elim form [
        | inl rest ↦ absurd (other (sym (redo-at_rest sectors place rest) ∙ is))
        | inr (inl collecting) ↦ absurd (another (sym (redo-collecting sectors place collecting) ∙ is))
        | inr (inr collected) ↦ collected
      ]
    where
      other : Nothing ≡ ClearNext → ⊥
      other e = cc

      another : CollectAgain ≡ ClearNext → ⊥
      another e = cc

  -- The emptying of the victim alone.

  module _ (old new : List (List ℕ)) (place : ℕ) (form : Collected k.reading old place) (only : ChangesOnly old new (next old place)) where
    pub victim_emptied : k.is_clean (sector_at new (next old place)) ≡ true → AtRest k.reading new place × KeepsItems k old new
    victim_emptied clean =
        let step = erase_victim R law.reads old place (sector_at new (next old place)) form (law.clean (sector_at new (next old place)) clean) in
        let rest = subst (λ (s : List (List ℕ)). AtRest R s place) (sym only) step.0 in
        (rest, keeps-by k law old new place place (inr (inr form)) (inl rest) (keeps_all (area_pairs R old place) (area_pairs R new place) (ap (λ (s : List (List ℕ)). area_pairs R s place) only ∙ step.1)))

    pub victim_stays : KeepsMarks k (sector_at old (next old place)) (sector_at new (next old place)) → KeepsItems k old new
    victim_stays keeps =
        let shut : R.is_closed (sector_at new (next old place)) ≡ true = keeps.closed ∙ next-closed R old place 0 form.ring ∙ refl in
        let step = put_victim R old place (sector_at new (next old place)) form shut in
        keeps-by k law old new place place (inr (inr form)) (inr (inr (subst (λ (s : List (List ℕ)). Collected R s place) (sym only) step.0))) (keeps_all (area_pairs R old place) (area_pairs R new place) (ap (λ (s : List (List ℕ)). area_pairs R s place) only ∙ step.1))

    -- cut
    pub victim_cut_keeps : StopsClearing k (sector_at old (next old place)) (sector_at new (next old place)) → KeepsItems k old new
    victim_cut_keeps stops = elim stops.either [ inl keeps ↦ victim_stays keeps | inr clean ↦ (victim_emptied clean).1 ]

pub not_again : Nothing ≡ CollectAgain → ⊥
not_again e = cc

pub not_next : Nothing ≡ ClearNext → ⊥
not_next e = cc

pub next_not_again : ClearNext ≡ CollectAgain → ⊥
next_not_again e = cc
