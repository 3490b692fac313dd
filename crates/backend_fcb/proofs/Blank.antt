-- An area that is all FF.
use Rattle.std.proofs.Common.{◌≡◌, true, false, ℕ, suc, ◌-◌, ◌<◌, ◌≤◌, min, List, [], ◌∷◌, length, map, replicate, None, refl, sym, ap, subst, ◌∙◌, arith}
use Rattle.std.specs.FinMap.{empty}
use Rattle.std.specs.List.{range_with_len, flat_map}
use Rattle.std.proofs.lemmas.List.{length-replicate, get_or-replicate}
use Rattle.std.proofs.lemmas.List.Elements.{All-nil}
use Rattle.flash_sim.specs.Bank.{IsLawful}
use Rattle.flash_sim.specs.Device.{Device}
use Rattle.flash_map.specs.Area.{value_limit, unit_of, sector_size, sectors_of, sector_at}
use Rattle.flash_map.specs.Sectors.{blanked}
use Rattle.flash_map.specs.declared.area.Area.{Area}
use Rattle.fcb_ring.specs.declared.sector.SectorState.{SectorState}
use Rattle.fcb_ring.specs.Entries.{states, bodies, HasEntries}
use Rattle.fcb_ring.specs.Rings.{state_at, turned, IsRing}
use Rattle.fcb_ring.specs.SectorStates.{state_of}
use Rattle.fcb_ring.specs.Standing.{IsRingArea, erases_due, erases_on}
use Rattle.fcb_ring.proofs.RestLemmas.{none-due}
use Rattle.fcb_ring.proofs.AreaLemmas.{has_size, count-sectors, area_after, length-states, state-at}
use Rattle.fcb_ring.proofs.RingLemmas.{turned-within, undamaged}
use Rattle.fcb_ring.proofs.StandLemmas.{part, entries-are, blank-free, blank-untorn}
use Rattle.record_settings.specs.Settings.{settings_of}
use Rattle.backend_fcb.specs.Standing.{damage_on, settings_on}
use Rattle.record_settings.proofs.BodyLemmas.{settings-none}
use Rattle.backend_fcb.proofs.PutsCosts.{CostsFit, costs-from, puts-none, undamaged-by}
use Rattle.backend_fcb.proofs.WalkLemmas.{Entry}

pub all-blanked : (xs : List (List ℕ)) (size : ℕ) → ((place : ℕ) → place < length xs → length (sector_at xs place) ≡ size) → map blanked xs ≡ replicate (length xs) (replicate size 255)
all-blanked [] size each = refl
all-blanked (x ∷ xs) size each =
    let first : length x ≡ size = each 0 (omega arith) in
    ap (λ (n : ℕ). replicate n 255 ∷ map blanked xs) first ∙ ap (λ (l : List (List ℕ)). replicate size 255 ∷ l) (all-blanked xs size (λ place lt. each (suc place) (omega arith)))

pub blanked-on : (d e : Device) (area : Area) → IsLawful d.banks d.bytes → IsRingArea d.banks area → sectors_of e area ≡ map blanked (sectors_of d area) → sectors_of e area ≡ replicate area.sectors (replicate (sector_size d area) 255)
blanked-on d e area lawful ring is =
    is ∙ all-blanked (sectors_of d area) (sector_size d area) (has_size d area lawful ring).each ∙ ap (λ (n : ℕ). replicate n (replicate (sector_size d area) 255)) (count-sectors d area)

module _ (unit n size : ℕ) (several : 2 ≤ n) (few : n ≤ 64) where
  abbrev blank : List (List ℕ)
  blank = replicate n (replicate size 255)

  long : length (states unit (replicate n (replicate size 255))) ≡ n
  long = length-states unit (replicate n (replicate size 255)) ∙ length-replicate {A = List ℕ} n (replicate {A = ℕ} size 255)

  all-free : (k : ℕ) → k < length (states unit (replicate n (replicate size 255))) → (state_at (states unit (replicate n (replicate size 255))) (turned (length (states unit (replicate n (replicate size 255)))) 0 k)).is_free ≡ true
  all-free k lt =
      let place : ℕ = turned (length (states unit (replicate n (replicate size 255)))) 0 k in
      let inside = turned-within (length (states unit (replicate n (replicate size 255)))) 0 k (omega (arith, long)) (omega arith) in
      let in-list : turned (length (states unit (replicate n (replicate size 255)))) 0 k < length (replicate n (replicate size 255)) = omega (arith, long, length-replicate {A = List ℕ} n (replicate {A = ℕ} size 255)) in
      ap (λ (s : SectorState). s.is_free) (state-at unit (replicate n (replicate size 255)) place in-list)
      ∙ ap (λ (s : List ℕ). (state_of unit s).is_free) (get_or-replicate {A = List ℕ} n place (replicate {A = ℕ} size 255) [] (omega (arith, long))) ∙ blank-free unit size

  form : IsRing (states unit (replicate n (replicate size 255))) 0 0
  form = record {
    several = omega (arith, long);
    few = omega (arith, long);
    within = omega (arith, long);
    most = omega arith;
    empty = λ _. refl;
    used_ones = λ k lt. absurd (omega arith);
    free_ones = λ k le lt. all-free k lt;
    headers = λ k lt. absurd (omega arith);
    ids = λ k lt. absurd (omega arith);
  }

  none-torn : 0 < size → (k : ℕ) → k < length (states unit (replicate n (replicate size 255))) → (state_at (states unit (replicate n (replicate size 255))) (turned (length (states unit (replicate n (replicate size 255)))) 0 k)).is_torn ≡ false
  none-torn some k lt =
      let place : ℕ = turned (length (states unit (replicate n (replicate size 255)))) 0 k in
      let inside = turned-within (length (states unit (replicate n (replicate size 255)))) 0 k (omega (arith, long)) (omega arith) in
      let in-list : turned (length (states unit (replicate n (replicate size 255)))) 0 k < length (replicate n (replicate size 255)) = omega (arith, long, length-replicate {A = List ℕ} n (replicate {A = ℕ} size 255)) in
      ap (λ (s : SectorState). s.is_torn) (state-at unit (replicate n (replicate size 255)) place in-list)
      ∙ ap (λ (s : List ℕ). (state_of unit s).is_torn) (get_or-replicate {A = List ℕ} n place (replicate {A = ℕ} size 255) [] (omega (arith, long))) ∙ blank-untorn unit size some

  -- a mount has nothing to erase
  pub blank-due : 0 < size → erases_due (states unit (replicate n (replicate size 255))) ≡ 0
  blank-due some = none-due unit (replicate n (replicate size 255)) 0 0 form (omega (arith, long), λ k le lt. none-torn some k lt)

  pub blank-has : HasEntries unit (replicate n (replicate size 255)) []
  blank-has =
      let none : min 0 (length (replicate n (replicate {A = ℕ} size 255)) - 1) ≡ 0 = omega arith in
      record {
        undamaged = undamaged (states unit (replicate n (replicate size 255))) 0 0 form (λ k lt. absurd (omega arith));
        are = entries-are unit (replicate n (replicate size 255)) 0 0 form ∙ ap (λ (m : ℕ). flat_map (part unit (replicate n (replicate size 255)) 0) (range_with_len 0 m)) none;
      }

module _ (d e : Device) (area : Area) (lawful-d : IsLawful d.banks d.bytes) (lawful-e : IsLawful e.banks e.bytes) (ring : IsRingArea d.banks area) (banks : e.banks ≡ d.banks) (is : sectors_of e area ≡ map blanked (sectors_of d area)) where
  has-none : HasEntries (unit_of e area) (sectors_of e area) []
  has-none = subst (λ (l : List (List ℕ)). HasEntries (unit_of e area) l []) (sym (blanked-on d e area lawful-d ring is)) (blank-has (unit_of e area) area.sectors (sector_size d area) ring.lawful.several ring.lawful.few)

  nothing-fits : CostsFit (value_limit area) (unit_of e area) (sector_size e area) [] (length (sectors_of e area))
  nothing-fits = costs-from (value_limit area) (unit_of e area) (sector_size e area) [] (length (sectors_of e area)) (λ place lt. let none = puts-none (value_limit area) (unit_of e area) [] place (All-nil (λ (entry : Entry). entry.0.sector ≡ place → ⊥)) in omega arith)

  pub blank-undamaged : damage_on e area ≡ None
  blank-undamaged = undamaged-by (value_limit area) (unit_of e area) (sector_size e area) (sectors_of e area) (has_size e area lawful-e (area_after d e area banks ring)) [] has-none nothing-fits

  pub blank-empty : settings_on e area ≡ empty
  blank-empty = ap (λ (l : List Entry). settings_of (value_limit area) (bodies l)) has-none.are ∙ settings-none (value_limit area)

  pub blank-rests : erases_on e area ≡ 0
  blank-rests =
      ap (λ (l : List (List ℕ)). erases_due (states (unit_of e area) l)) (blanked-on d e area lawful-d ring is)
      ∙ blank-due (unit_of e area) area.sectors (sector_size d area) ring.lawful.several ring.lawful.few (omega (arith, ring.lawful.at_least))
