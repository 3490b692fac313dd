-- What a collection, a round and a mount make of the list, whole or cut.
use Rattle.std.proofs.Common.{◌≡◌, ℕ, ◌≤◌, true, List, [], ◌∷◌, ◌++◌, length, map, set, refl, sym, ap, subst, ◌∙◌, inl, inr}
use Rattle.std.specs.List.{flat_map}
use Rattle.std.proofs.lemmas.List.{append-nil, length-set}
use Rattle.std.proofs.lemmas.List.Concat.{flat_map-append}
use Rattle.std.proofs.lemmas.List.Folds.{flat_map-map}
use Rattle.flash_map.specs.Area.{sector_at, ChangesOnly}
use Rattle.item_laws.specs.LivePairs.{live_pairs}
use Rattle.item_laws.specs.PairRounds.{joined, collect_oldest}
use Rattle.item_laws.specs.Area.{next, area_pairs}
use Rattle.item_laws.specs.Forms.{AtRest, Collecting, Collected, IsForm, pairs_at, rest, to_copy}
use Rattle.item_laws.specs.Reading.{Reading}
use Rattle.item_laws.specs.Rounds.{parts, Collects}
use Rattle.item_laws.proofs.Collects.{put_victim, erase_victim}
use Rattle.item_laws.proofs.Lists.{rest-kept}
use Rattle.item_laws.proofs.Places.{after}
use Rattle.item_laws.proofs.Parts.{close_parts}
use Rattle.item_laws.proofs.Rings.{next-closed}
use Rattle.item_laws.proofs.RingSteps.{reads}
use Rattle.item_store.specs.SectorFormat.{SectorFormat, IsSectorFormat}
use Rattle.item_store.specs.Steps.{KeepsMarks, Marks, Closes, StopsClearing}
use Rattle.item_store.specs.Standing.{list_of}
use Rattle.item_store.specs.Collecting.{HasBegun, HasCopied, StopsCopying, collected_list, KeepsOrCollects, KeepsOrDoesPass, KeepsOrRedoes, redo_list}
use Rattle.item_store.proofs.Areas.{stopped, one_marked, cut_stands}
use Rattle.item_store.proofs.CollectSteps.{redo-at_rest, redo-collecting, start_stops, start_copies}
use Rattle.item_store.proofs.RoundSteps.{closed-form, closed-is, closed-list}
use Rattle.item_store.proofs.VersionSteps.{marked-list, collects-list}

-- the oldest part is gone, and its live pairs stand last
joined-oldest : (victim : List (ℕ × List ℕ)) (others : List (List (ℕ × List ℕ))) → joined (collect_oldest (victim ∷ others)) ≡ joined others ++ live_pairs victim (joined others)
unfolding collect_oldest
joined-oldest victim others =
    flat_map-append (λ (part : List (ℕ × List ℕ)). part) others (live_pairs victim (joined others) ∷ [])
    ∙ ap (λ ps. joined others ++ ps) (append-nil (live_pairs victim (joined others)))

module _ (k : SectorFormat) (law : IsSectorFormat k) where
  abbrev R : Reading
  R = k.reading

  list-open : (sectors : List (List ℕ)) (place : ℕ) → IsForm k.reading sectors place → list_of k sectors ≡ area_pairs k.reading sectors place
  list-open sectors place form = ap (area_pairs R sectors) (reads R sectors place form).0

  -- two forms with the same list
  same-list : (old new : List (List ℕ)) (place new_place : ℕ) → IsForm k.reading old place → IsForm k.reading new new_place → area_pairs k.reading new new_place ≡ area_pairs k.reading old place → list_of k new ≡ list_of k old
  same-list old new place new_place old_form new_form same = list-open new new_place new_form ∙ same ∙ sym (list-open old place old_form)

  -- ---- a collection

  module _ (old : List (List ℕ)) (place : ℕ) (form : Collecting k.reading old place) where
    -- cut in the copies
    pub stopped-list : (new : List (List ℕ)) → StopsCopying k old new place → list_of k new ≡ list_of k old
    stopped-list new stops = let step = stopped k law old new place form stops in same-list old new place place (inr (inl form)) (inr (inl step.0)) step.1

    -- whole
    pub whole-list : (new : List (List ℕ)) → Collects k.reading old place new → list_of k new ≡ collected_list k old place
    whole-list new collects = list-open new place (inl collects.form) ∙ collects-list R old new place law.reads collects

    -- from the area in which the open sector was made ready
    module _ (start : List (List ℕ)) (begun : HasBegun k old start place) where
      start-list : collected_list k start place ≡ collected_list k old place
      start-list =
          ap (λ ps. ps ++ to_copy R start place)
          (ap (λ (s : List (List ℕ)). flat_map (pairs_at R s) (rest (length s) place)) begun.only
          ∙ ap (λ (n : ℕ). flat_map (pairs_at R (set old place (sector_at start place))) (rest n place)) (length-set old place (sector_at start place))
          ∙ rest-kept R old place place (sector_at start place) form.ring.within form.ring.several (inl refl))
          ∙ ap (λ ps. flat_map (pairs_at R old) (rest (length old) place) ++ ps) (start_copies k law old start place form begun)

      pub again-list : (new : List (List ℕ)) → KeepsOrCollects k start new place → KeepsOrCollects k old new place
      again-list new either =
          elim either [
            | inl same ↦ inl (same ∙ stopped-list start (start_stops k law old start place form begun))
            | inr whole ↦ inr (whole ∙ start-list)
          ]

    -- cut in the emptying of the victim, behind gc-done
    pub cut-list : (mid new : List (List ℕ)) → 512 ≤ length (sector_at old (next old place)) → length (sector_at old (next old place)) ≡ length (sector_at old place) → HasCopied k old mid place (to_copy k.reading old place) → ChangesOnly mid new place → Marks k (sector_at mid place) (sector_at new place)
        → (last_sectors : List (List ℕ)) → ChangesOnly new last_sectors (next old place) → k.reading.is_closed (sector_at last_sectors (next old place)) ≡ k.reading.is_closed (sector_at new (next old place)) → list_of k last_sectors ≡ collected_list k old place
    cut-list mid new long same_long has changes marks last_sectors only shut =
        let m = one_marked k law old mid new place form long same_long has changes marks in
        let cut = cut_stands k law old mid new place form long same_long has changes marks last_sectors only shut in
        list-open last_sectors place (inr (inr cut.0)) ∙ cut.1 ∙ marked-list R old new place form m.form m.only m.list

  -- ---- the emptying of the victim alone

  module _ (old new : List (List ℕ)) (place : ℕ) (form : Collected k.reading old place) (only : ChangesOnly old new (next old place)) where
    pub emptied-list : k.is_clean (sector_at new (next old place)) ≡ true → list_of k new ≡ list_of k old
    emptied-list clean =
        let step = erase_victim R law.reads old place (sector_at new (next old place)) form (law.clean (sector_at new (next old place)) clean) in
        same-list old new place place (inr (inr form)) (inl (subst (λ (s : List (List ℕ)). AtRest R s place) (sym only) step.0)) (ap (λ (s : List (List ℕ)). area_pairs R s place) only ∙ step.1)

    pub stays-list : KeepsMarks k (sector_at old (next old place)) (sector_at new (next old place)) → list_of k new ≡ list_of k old
    stays-list keeps =
        let shut : R.is_closed (sector_at new (next old place)) ≡ true = keeps.closed ∙ next-closed R old place 0 form.ring ∙ refl in
        let step = put_victim R old place (sector_at new (next old place)) form shut in
        same-list old new place place (inr (inr form)) (inr (inr (subst (λ (s : List (List ℕ)). Collected R s place) (sym only) step.0))) (ap (λ (s : List (List ℕ)). area_pairs R s place) only ∙ step.1)

    -- cut
    pub victim_cut-list : StopsClearing k (sector_at old (next old place)) (sector_at new (next old place)) → list_of k new ≡ list_of k old
    victim_cut-list stops = elim stops.either [ inl keeps ↦ stays-list keeps | inr clean ↦ emptied-list clean ]

  -- ---- a round

  module _ (old mid : List (List ℕ)) (place : ℕ) (form : AtRest k.reading old place) (only : ChangesOnly old mid place) where
    module _ (closes : Closes k (sector_at old place) (sector_at mid place)) where
      pub shut-list : list_of k mid ≡ list_of k old
      shut-list = same-list old mid place (next old place) (inl form) (closed-is k law old mid place form only closes) (closed-list k law old mid place form only closes)

      long : length mid ≡ length old
      long = ap length only ∙ length-set old place (sector_at mid place)

      parts-now : parts k.reading old place ≡ pairs_at k.reading mid (next mid (next old place)) ∷ map (pairs_at k.reading mid) (rest (length mid) (next old place))
      parts-now =
          let ring = form.ring in
          let closed = close_parts R old place (sector_at mid place) ring.within ring.several closes.list in
          let here : parts R old place ≡ pairs_at R mid (next old (next old place)) ∷ map (pairs_at R mid) (rest (length old) (next old place)) =
          subst (λ (s : List (List ℕ)). parts R old place ≡ pairs_at R s (next old (next old place)) ∷ map (pairs_at R s) (rest (length old) (next old place))) (sym only) closed in
          here
          ∙ ap (λ (n : ℕ). pairs_at R mid (after n (next old place)) ∷ map (pairs_at R mid) (rest n (next old place))) (sym long)

      -- what its collection leaves is the list without the oldest part
      pass_done-list : collected_list k mid (next old place) ≡ joined (collect_oldest (parts k.reading old place))
      pass_done-list =
          let flat : joined (map (pairs_at R mid) (rest (length mid) (next old place))) ≡ flat_map (pairs_at R mid) (rest (length mid) (next old place)) =
          flat_map-map (λ (part : List (ℕ × List ℕ)). part) (pairs_at R mid) (rest (length mid) (next old place)) in
          sym
          (ap (λ ps. joined (collect_oldest ps)) parts-now
          ∙ joined-oldest (pairs_at R mid (next mid (next old place))) (map (pairs_at R mid) (rest (length mid) (next old place)))
          ∙ ap (λ ps. ps ++ live_pairs (pairs_at R mid (next mid (next old place))) ps) flat)

      -- power was lost behind the close
      pub round-list : (new : List (List ℕ)) → KeepsOrRedoes k mid new (next old place) → KeepsOrDoesPass k old new place
      round-list new either =
          elim either [
            | inl same ↦ inl (same ∙ shut-list)
            | inr redone ↦
                elim (closed-form k law old mid place form only closes) [
                  | inl rested ↦ inl (redone ∙ ap (redo_list k mid (next old place)) (redo-at_rest k law mid (next old place) rested) ∙ shut-list)
                  | inr collecting ↦ inr (redone ∙ ap (redo_list k mid (next old place)) (redo-collecting k law mid (next old place) collecting) ∙ pass_done-list)
                ]
          ]
