-- What collections and rounds keep of the versions that an area's list has.
use Rattle.std.proofs.Common.{◌≡◌, ℕ, List, [], ◌∷◌, ◌++◌, length, map, set, refl, sym, ap, ◌∙◌, inl}
use Rattle.std.specs.List.{flat_map}
use Rattle.std.proofs.lemmas.List.{append-nil, length-set}
use Rattle.std.proofs.lemmas.List.Concat.{flat_map-append}
use Rattle.std.proofs.lemmas.List.Folds.{flat_map-map}
use Rattle.flash_map.specs.Area.{sector_at, ChangesOnly}
use Rattle.item_laws.specs.PairRounds.{joined}
use Rattle.item_laws.specs.Area.{next, area_pairs}
use Rattle.item_laws.specs.Forms.{AtRest, Collecting, Collected, pairs_at, rest, to_copy}
use Rattle.item_laws.specs.Reading.{Reading, IsReading}
use Rattle.item_laws.specs.Rounds.{Collects, IsRound, parts}
use Rattle.item_laws.proofs.Lists.{list-collecting, list-collected, others-victim, rest-kept}
use Rattle.item_laws.proofs.Parts.{parts-list}
use Rattle.item_store.specs.Versions.{KeepsVersions}
use Rattle.item_store.proofs.VersionLemmas.{keeps_all, keeps_more, collected-versions, round-versions}

-- lists that are the same
keeps_as : (old as_old new as_new : List (ℕ × List ℕ)) → old ≡ as_old → new ≡ as_new → KeepsVersions as_old as_new → KeepsVersions old new
keeps_as old as_old new as_new was is keeps =
    keeps_more old as_old new (keeps_all old as_old (sym was)) (keeps_more as_old as_new new keeps (keeps_all as_new new is))

module _ (reading : Reading) (old new : List (List ℕ)) (place : ℕ) where
  -- the victim's pairs, and then those of the other closed sectors
  abbrev later : List (ℕ × List ℕ)
  later = flat_map (pairs_at reading old) (rest (length old) place)

  before : Collecting reading old place → area_pairs reading old place ≡ pairs_at reading old (next old place) ++ flat_map (pairs_at reading old) (rest (length old) place)
  before form = let ring = form.ring in list-collecting reading old place ring form.not_done ∙ others-victim reading old place ring.within ring.several

  -- gc-done stands behind all copies
  pub marked-list : Collecting reading old place → Collected reading new place → ChangesOnly old new place → reading.pairs (sector_at new place) ≡ to_copy reading old place
      → area_pairs reading new place ≡ flat_map (pairs_at reading old) (rest (length old) place) ++ to_copy reading old place
  marked-list form done only list =
      let ring = form.ring in
      list-collected reading new place done.ring done.done
      ∙ ap (λ (s : List (List ℕ)). flat_map (pairs_at reading s) (rest (length s) place) ++ pairs_at reading new place) only
      ∙ ap (λ (n : ℕ). flat_map (pairs_at reading (set old place (sector_at new place))) (rest n place) ++ pairs_at reading new place) (length-set old place (sector_at new place))
      ∙ ap (λ ps. ps ++ pairs_at reading new place) (rest-kept reading old place place (sector_at new place) ring.within ring.several (inl refl))
      ∙ ap (λ ps. later ++ ps) list

  pub marked-versions : Collecting reading old place → Collected reading new place → ChangesOnly old new place → reading.pairs (sector_at new place) ≡ to_copy reading old place → KeepsVersions (area_pairs reading old place) (area_pairs reading new place)
  marked-versions form done only list =
      keeps_as (area_pairs reading old place) (pairs_at reading old (next old place) ++ later) (area_pairs reading new place) (later ++ to_copy reading old place) (before form) (marked-list form done only list)
      (collected-versions (pairs_at reading old (next old place)) later)

  module _ (laws : IsReading reading) where
    -- a whole collection
    pub collects-list : Collects reading old place new → area_pairs reading new place ≡ flat_map (pairs_at reading old) (rest (length old) place) ++ to_copy reading old place
    collects-list collects =
        parts-list reading laws new place collects.form ∙ ap joined collects.parts
        ∙ flat_map-append (λ (part : List (ℕ × List ℕ)). part) (map (pairs_at reading old) (rest (length old) place)) (to_copy reading old place ∷ [])
        ∙ ap (λ ps. ps ++ joined (to_copy reading old place ∷ [])) (flat_map-map (λ (part : List (ℕ × List ℕ)). part) (pairs_at reading old) (rest (length old) place))
        ∙ ap (λ ps. later ++ ps) (append-nil (to_copy reading old place))

    pub collects-versions : Collecting reading old place → Collects reading old place new → KeepsVersions (area_pairs reading old place) (area_pairs reading new place)
    collects-versions form collects =
        keeps_as (area_pairs reading old place) (pairs_at reading old (next old place) ++ later) (area_pairs reading new place) (later ++ to_copy reading old place) (before form) (collects-list collects)
        (collected-versions (pairs_at reading old (next old place)) later)

    -- a whole round of close and collect
    pub pass_done-versions : AtRest reading old place → IsRound reading old place new → KeepsVersions (area_pairs reading old place) (area_pairs reading new (next old place))
    pass_done-versions form round =
        keeps_as (area_pairs reading old place) (joined (parts reading old place)) (area_pairs reading new (next old place)) (joined (parts reading new (next old place)))
        (parts-list reading laws old place form) (parts-list reading laws new (next old place) round.form)
        (keeps_as (joined (parts reading old place)) (joined (parts reading old place)) (joined (parts reading new (next old place))) _ refl (ap joined round.parts) (round-versions (parts reading old place)))
