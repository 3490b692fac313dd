-- The calls of a round, in the words of the code.
use Rattle.std.proofs.Common.{◌≡◌, ℕ, ◌<◌, ◌≤◌, ◌⊎◌, true, false, cond, List, length, None, refl, sym, ap, subst, ◌∙◌, inl, inr, arith}
use Rattle.flash_sim.specs.Bank.{IsLawful}
use Rattle.flash_sim.specs.Device.{Device}
use Rattle.flash_map.specs.declared.area.Area.{Area}
use Rattle.flash_map.specs.declared.area.Geometry.{Geometry}
use Rattle.flash_map.specs.declared.area.Role.{Role}
use Rattle.flash_map.specs.Area.{geometry_of, sector_at, sector_size, sectors_of, ChangesOnly}
use Rattle.item_laws.specs.Area.{next, open_sector, is_closed_at, is_blank_at}
use Rattle.item_laws.specs.Forms.{AtRest, Collecting}
use Rattle.item_laws.specs.Reading.{is_sound}
use Rattle.item_laws.proofs.AreaReads.{length-sectors}
use Rattle.item_laws.proofs.Rings.{open-not_closed}
use Rattle.item_store.specs.SectorFormat.{Range, SectorFormat, IsSectorFormat, is_clean_at}
use Rattle.item_store.specs.Steps.{Keeps, Closes}
use Rattle.item_store.specs.Spending.{none, ready_units, again_with, open_units, has_victim, round_clear, round_units}
use Rattle.item_store.specs.Standing.{IsStoreArea, KeepsItems, SpendsIn, SpendsUpTo}
use Rattle.item_store.specs.Collecting.{HasOpened, CollectsAt, KeepsOrDoesPass, KeepsOrRedoes, DoesPassAt}
use Rattle.item_store.proofs.Areas.{same_geometry, same_size, still_area, size_there, form_here, keeps_then}
use Rattle.item_store.proofs.CallFacts.{to_geometry, from_geometry}
use Rattle.item_store.proofs.CollectSteps.{redo_is, rest_from}
use Rattle.item_store.proofs.ListSteps.{shut-list, round-list}
use Rattle.item_store.proofs.Ranges.{both-in, then-lost}
use Rattle.item_store.proofs.RoundSteps.{rest-keeps, not_put-keeps, closed-form, closed-keeps, opened-unused, does_pass-opened, does_pass-collected, units-opened}
use Rattle.item_store.proofs.SlotFacts.{current_within, next_within}

pub rest_here : (k : SectorFormat) (law : IsSectorFormat k) (sectors : List (List ℕ)) (place : ℕ) → 2 ≤ length sectors → k.damage sectors ≡ None → place ≡ open_sector k.reading sectors → is_closed_at k.reading sectors (next sectors place) ≡ false → AtRest k.reading sectors place
rest_here k law sectors place several undamaged is free =
    rest_from k law sectors place (form_here k law sectors place several undamaged is) (redo_is k law sectors place false (k.reading.has_gc_done (sector_at sectors place)) free refl)

module _ (format_of : Geometry → SectorFormat) (role : Role) (a : Device) (area : Area) (place : ℕ) (law : IsSectorFormat (format_of (geometry_of a area))) (lawful : IsLawful a.banks a.bytes) (is : IsStoreArea role a.banks area) (undamaged : (format_of (geometry_of a area)).damage (sectors_of a area) ≡ None)
    (at : place ≡ open_sector (format_of (geometry_of a area)).reading (sectors_of a area)) (free : is_closed_at (format_of (geometry_of a area)).reading (sectors_of a area) (next (sectors_of a area) place) ≡ false) where
  abbrev k : SectorFormat
  k = format_of (geometry_of a area)

  abbrev old : List (List ℕ)
  old = sectors_of a area

  pub rests : AtRest (format_of (geometry_of a area)).reading (sectors_of a area) place
  rests = let count = length-sectors a area in rest_here k law old place (omega (arith, is.lawful.several)) undamaged at free

  pub open_within : place < area.sectors
  open_within = current_within a area place rests.ring.within

  pub open_sound : is_sound (format_of (geometry_of a area)).reading (sector_at (sectors_of a area) place) ≡ true
  open_sound = rests.sound place rests.ring.within

  pub open_not_closed : is_closed_at (format_of (geometry_of a area)).reading (sectors_of a area) place ≡ false
  open_not_closed = open-not_closed k.reading old place rests.blanks rests.ring

  module _ (b : Device) (banks : b.banks ≡ a.banks) (only : ChangesOnly (sectors_of a area) (sectors_of b area) place) where
    -- power was lost in the close
    pub close_lost : Keeps (format_of (geometry_of a area)) (sector_at (sectors_of a area) place) (sector_at (sectors_of b area) place) ⊎ Closes (format_of (geometry_of a area)) (sector_at (sectors_of a area) place) (sector_at (sectors_of b area) place) → KeepsItems (format_of (geometry_of a area)) (sectors_of a area) (sectors_of b area)
    close_lost either =
        elim either [
          | inl keeps ↦ not_put-keeps k law old (sectors_of b area) place (rest-keeps k law old (sectors_of b area) place rests only keeps)
          | inr closes ↦ closed-keeps k law old (sectors_of b area) place rests only closes
        ]

    pub close_lost_list : Keeps (format_of (geometry_of a area)) (sector_at (sectors_of a area) place) (sector_at (sectors_of b area) place) ⊎ Closes (format_of (geometry_of a area)) (sector_at (sectors_of a area) place) (sector_at (sectors_of b area) place) → KeepsOrDoesPass (format_of (geometry_of a area)) (sectors_of a area) (sectors_of b area) place
    close_lost_list either =
        elim either [
          | inl keeps ↦ inl (rest-keeps k law old (sectors_of b area) place rests only keeps).list
          | inr closes ↦ inl (shut-list k law old (sectors_of b area) place rests only closes)
        ]

    module _ (closes : Closes (format_of (geometry_of a area)) (sector_at (sectors_of a area) place) (sector_at (sectors_of b area) place)) (opened : ℕ) (follows : opened ≡ next (sectors_of a area) place) where
      form : AtRest k.reading (sectors_of b area) (next old place) ⊎ Collecting k.reading (sectors_of b area) (next old place)
      form = closed-form k law old (sectors_of b area) place rests only closes

      pub next_form : AtRest (format_of (geometry_of b area)).reading (sectors_of b area) opened ⊎ Collecting (format_of (geometry_of b area)).reading (sectors_of b area) opened
      next_form =
          from_geometry (λ u. AtRest (format_of u).reading (sectors_of b area) opened ⊎ Collecting (format_of u).reading (sectors_of b area) opened) a b area banks
          (subst (λ (p : ℕ). AtRest k.reading (sectors_of b area) p ⊎ Collecting k.reading (sectors_of b area) p) (sym follows) form)

      pub next_unused : is_blank_at (format_of (geometry_of b area)).reading (sectors_of b area) opened ≡ true
      next_unused =
          from_geometry (λ u. is_blank_at (format_of u).reading (sectors_of b area) opened ≡ true) a b area banks
          (subst (λ (p : ℕ). is_blank_at k.reading (sectors_of b area) p ≡ true) (sym follows) (opened-unused k law old (sectors_of b area) place rests only closes))

      pub next_keeps : (e : Device) → KeepsItems (format_of (geometry_of b area)) (sectors_of b area) (sectors_of e area) → KeepsItems (format_of (geometry_of a area)) (sectors_of a area) (sectors_of e area)
      next_keeps e keeps =
          keeps_then k law old (sectors_of b area) (sectors_of e area) (closed-keeps k law old (sectors_of b area) place rests only closes)
          (to_geometry (λ u. KeepsItems (format_of u) (sectors_of b area) (sectors_of e area)) a b area banks keeps)

      pub next_lost_list : (e : Device) → KeepsOrRedoes (format_of (geometry_of b area)) (sectors_of b area) (sectors_of e area) opened → KeepsOrDoesPass (format_of (geometry_of a area)) (sectors_of a area) (sectors_of e area) place
      next_lost_list e either =
          round-list k law old (sectors_of b area) place rests only closes (sectors_of e area)
          (subst (λ (p : ℕ). KeepsOrRedoes k (sectors_of b area) (sectors_of e area) p) follows (to_geometry (λ u. KeepsOrRedoes (format_of u) (sectors_of b area) (sectors_of e area) opened) a b area banks either))

      widths : IsLawful b.banks b.bytes → (j : ℕ) → j < length old → length (sector_at (sectors_of b area) j) ≡ sector_size a area
      widths lawful_b j lt = size_there role b area lawful_b (still_area role a b area banks is) j (let count = length-sectors a area in omega arith) ∙ same_size a b area banks

      pub next_turns : (e : Device) → IsLawful b.banks b.bytes → (AtRest (format_of (geometry_of b area)).reading (sectors_of b area) opened → HasOpened (format_of (geometry_of b area)) (sectors_of b area) (sectors_of e area) opened)
          → (Collecting (format_of (geometry_of b area)).reading (sectors_of b area) opened → CollectsAt (format_of (geometry_of b area)) (sectors_of b area) (sectors_of e area) opened) → DoesPassAt (format_of (geometry_of a area)) (sector_size a area) (sectors_of a area) (sectors_of e area) place
      next_turns e lawful_b opens collects =
          let least = is.lawful.at_least in
          let wide = size_there role a area lawful is (next old place) (next_within a area place rests.ring.within) in
          elim form [
            | inl rested ↦
                let here : AtRest (format_of (geometry_of b area)).reading (sectors_of b area) opened = from_geometry (λ u. AtRest (format_of u).reading (sectors_of b area) opened) a b area banks (subst (λ (p : ℕ). AtRest k.reading (sectors_of b area) p) (sym follows) rested) in
                let done : HasOpened k (sectors_of b area) (sectors_of e area) (next old place) = subst (λ (p : ℕ). HasOpened k (sectors_of b area) (sectors_of e area) p) follows (to_geometry (λ u. HasOpened (format_of u) (sectors_of b area) (sectors_of e area) opened) a b area banks (opens here)) in
                does_pass-opened k law old (sectors_of b area) place rests only closes (sectors_of e area) rested done (sector_size a area) (omega arith) wide
            | inr collecting ↦
                let here : Collecting (format_of (geometry_of b area)).reading (sectors_of b area) opened = from_geometry (λ u. Collecting (format_of u).reading (sectors_of b area) opened) a b area banks (subst (λ (p : ℕ). Collecting k.reading (sectors_of b area) p) (sym follows) collecting) in
                let done : CollectsAt k (sectors_of b area) (sectors_of e area) (next old place) = subst (λ (p : ℕ). CollectsAt k (sectors_of b area) (sectors_of e area) p) follows (to_geometry (λ u. CollectsAt (format_of u) (sectors_of b area) (sectors_of e area) opened) a b area banks (collects here)) in
                does_pass-collected k law old (sectors_of b area) place rests only closes (sector_size a area) (sectors_of e area) (omega arith) (widths lawful_b) collecting done
          ]

      -- what is left of the round's units
      abbrev left : Range
      left = cond (has_victim k old place) (again_with k old (next old place) (round_clear k old place)) (cond k.opens_ready (ready_units k old (next old place)) none)

      units_same : open_units (format_of (geometry_of b area)) (sectors_of b area) opened ≡ open_units k (sectors_of b area) (next old place)
      units_same =
          ap (λ (u : Geometry). open_units (format_of u) (sectors_of b area) opened) (same_geometry a b area banks)
          ∙ ap (λ (p : ℕ). open_units k (sectors_of b area) p) follows

      module _ (used : is_clean_at k old place ≡ false) where
        units_left : open_units (format_of (geometry_of b area)) (sectors_of b area) opened ≡ left
        units_left = units_same ∙ units-opened k law old (sectors_of b area) place rests only closes used

        pub round_spends : (e : Device) → SpendsIn a b ((format_of (geometry_of a area)).units.close (sector_at (sectors_of a area) place)) → SpendsIn b e (open_units (format_of (geometry_of b area)) (sectors_of b area) opened) → SpendsIn a e (round_units (format_of (geometry_of a area)) (sectors_of a area) place)
        round_spends e first later =
            both-in a b e (k.units.close (sector_at old place)) left first (subst (λ (r : Range). SpendsIn b e r) units_left later)

        pub round_spends_lost : (e : Device) → SpendsIn a b ((format_of (geometry_of a area)).units.close (sector_at (sectors_of a area) place)) → SpendsUpTo b e (open_units (format_of (geometry_of b area)) (sectors_of b area) opened) → SpendsUpTo a e (round_units (format_of (geometry_of a area)) (sectors_of a area) place)
        round_spends_lost e first later =
            then-lost a b e (k.units.close (sector_at old place)) left first (subst (λ (r : Range). SpendsUpTo b e r) units_left later)
