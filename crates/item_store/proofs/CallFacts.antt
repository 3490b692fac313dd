-- The calls of a collection, in the words of the code.
use Rattle.std.proofs.Common.{◌≡◌, ◌⊎◌, ℕ, ◌*◌, ◌≤◌, true, false, List, [], length, refl, sym, ap, subst, ◌∙◌, inl, inr}
use Rattle.std.specs.Prelude.{Result, Ok, Err, OnOk, is_err}
use Rattle.std.proofs.lemmas.Bool.{false≢true}
use Rattle.flash_sim.specs.Bank.{IsLawful}
use Rattle.flash_sim.specs.Device.{Device}
use Rattle.flash_map.specs.declared.area.Area.{Area}
use Rattle.flash_map.specs.declared.area.Geometry.{Geometry}
use Rattle.flash_map.specs.declared.area.Role.{Role}
use Rattle.flash_map.specs.Area.{geometry_of, sector_at, sectors_of, ChangesOnly}
use Rattle.item_laws.specs.Area.{next, open_sector, is_closed_at}
use Rattle.item_laws.specs.Forms.{Collecting, to_copy}
use Rattle.item_laws.specs.Rounds.{Collects}
use Rattle.item_laws.proofs.Places.{after, after-apart}
use Rattle.item_laws.proofs.Rings.{next-closed, open-not_closed}
use Rattle.item_laws.proofs.RingSteps.{reads}
use Rattle.item_store.specs.SectorFormat.{Range, LiesIn, SectorFormat, IsSectorFormat}
use Rattle.item_store.specs.Steps.{Keeps, KeepsMarks, Marks, Clears, StopsClearing}
use Rattle.item_store.specs.Spending.{both, copies, collect_with, victim_units, collect_units, ready_units, again_units}
use Rattle.item_store.specs.Standing.{IsStoreArea, KeepsItems, SpendsIn, SpendsUpTo}
use Rattle.item_store.specs.Collecting.{HasBegun, HasCopied, StopsCopying, CollectsAt, KeepsOrCollects}
use Rattle.item_store.proofs.Areas.{keeps_then, same_geometry, size_there, large_there, stopped, has_stopped, stopped-keeps, victim_cut, collects_cut, collected_at, collects-keeps, only_else, only_length, only_then}
use Rattle.item_store.proofs.CollectSteps.{start_stops, start_form, start_none, start_copies, again_collects, mark_room, mark_cut, prepare_cut}
use Rattle.item_store.proofs.ListSteps.{stopped-list, whole-list, again-list, cut-list}
use Rattle.item_store.proofs.Ranges.{both-in, first-lost, then-lost, within-in, within-lost}
use Rattle.item_store.proofs.SlotFacts.{current_within, next_within}

-- what is known of one geometry is known of the same one
pub to_geometry : (P : Geometry → Type 0) (a d : Device) (area : Area) → d.banks ≡ a.banks → P (geometry_of d area) → P (geometry_of a area)
to_geometry P a d area banks p = subst P (same_geometry a d area banks) p

pub from_geometry : (P : Geometry → Type 0) (a d : Device) (area : Area) → d.banks ≡ a.banks → P (geometry_of a area) → P (geometry_of d area)
from_geometry P a d area banks p = subst P (sym (same_geometry a d area banks)) p

-- a result that is an `Err` is no `Ok`
pub no_ok : {X E : Type 0} (r : Result X E) (P : Type 0) → is_err r ≡ true → OnOk r P
no_ok (Ok x) P e = absurd (false≢true e)
no_ok (Err x) P e = tt

module _ (format_of : Geometry → SectorFormat) (role : Role) (a : Device) (area : Area) (place : ℕ) (law : IsSectorFormat (format_of (geometry_of a area))) (lawful : IsLawful a.banks a.bytes) (is : IsStoreArea role a.banks area) (form : Collecting (format_of (geometry_of a area)).reading (sectors_of a area) place) where
  abbrev k : SectorFormat
  k = format_of (geometry_of a area)

  abbrev old : List (List ℕ)
  old = sectors_of a area

  large : 512 ≤ length (sector_at old (next old place))
  large = large_there role a area lawful is (next old place) (next_within a area place form.ring.within)

  pub own_large : 512 ≤ length (sector_at (sectors_of a area) place)
  own_large = large_there role a area lawful is place (current_within a area place form.ring.within)

  same_long : length (sector_at old (next old place)) ≡ length (sector_at old place)
  same_long = size_there role a area lawful is (next old place) (next_within a area place form.ring.within) ∙ sym (size_there role a area lawful is place (current_within a area place form.ring.within))

  -- gc-done, behind all copies

  module _ (d : Device) (banks : d.banks ≡ a.banks) (has : HasCopied (format_of (geometry_of a area)) (sectors_of a area) (sectors_of d area) place (to_copy (format_of (geometry_of a area)).reading (sectors_of a area) place)) where
    there : Collecting k.reading (sectors_of d area) place
    there = (stopped k law old (sectors_of d area) place form (has_stopped k law old (sectors_of d area) place (to_copy k.reading old place) has)).0

    pub mark_opened : place ≡ open_sector (format_of (geometry_of d area)).reading (sectors_of d area)
    mark_opened = from_geometry (λ u. place ≡ open_sector (format_of u).reading (sectors_of d area)) a d area banks (sym (reads k.reading (sectors_of d area) place (inr (inl there))).0)

    pub mark_collecting : is_closed_at (format_of (geometry_of d area)).reading (sectors_of d area) (next (sectors_of d area) place) ≡ true
    mark_collecting = from_geometry (λ u. is_closed_at (format_of u).reading (sectors_of d area) (next (sectors_of d area) place) ≡ true) a d area banks (next-closed k.reading (sectors_of d area) place 0 there.ring ∙ refl)

    pub mark_has_room : 2 * (format_of (geometry_of d area)).slot ≤ (format_of (geometry_of d area)).free (sector_at (sectors_of d area) place)
    mark_has_room = from_geometry (λ u. 2 * (format_of u).slot ≤ (format_of u).free (sector_at (sectors_of d area) place)) a d area banks (mark_room k law old (sectors_of d area) place form large same_long has)

    pub mark_lost : (e : Device) → ChangesOnly (sectors_of d area) (sectors_of e area) place → KeepsMarks (format_of (geometry_of d area)) (sector_at (sectors_of d area) place) (sector_at (sectors_of e area) place) → KeepsItems (format_of (geometry_of a area)) (sectors_of a area) (sectors_of e area)
    mark_lost e only keeps =
        stopped-keeps k law old (sectors_of e area) place form
        (mark_cut k law old (sectors_of d area) (sectors_of e area) place has only (to_geometry (λ u. KeepsMarks (format_of u) (sector_at (sectors_of d area) place) (sector_at (sectors_of e area) place)) a d area banks keeps))

    pub mark_lost_list : (e : Device) → ChangesOnly (sectors_of d area) (sectors_of e area) place → KeepsMarks (format_of (geometry_of d area)) (sector_at (sectors_of d area) place) (sector_at (sectors_of e area) place) → KeepsOrCollects (format_of (geometry_of a area)) (sectors_of a area) (sectors_of e area) place
    mark_lost_list e only keeps =
        inl (stopped-list k law old place form (sectors_of e area)
        (mark_cut k law old (sectors_of d area) (sectors_of e area) place has only (to_geometry (λ u. KeepsMarks (format_of u) (sector_at (sectors_of d area) place) (sector_at (sectors_of e area) place)) a d area banks keeps)))

    done_in : LiesIn (k.units.done (sector_at (sectors_of d area) place)) k.units.any_done
    done_in = law.units.done_in (sector_at (sectors_of d area) place)

    pub mark_spends_lost : (e : Device) → SpendsIn a d (copies (format_of (geometry_of a area)) (to_copy (format_of (geometry_of a area)).reading (sectors_of a area) place))
        → SpendsUpTo d e ((format_of (geometry_of d area)).units.done (sector_at (sectors_of d area) place)) → SpendsUpTo a e (collect_units (format_of (geometry_of a area)) (sectors_of a area) place)
    mark_spends_lost e first mark =
        let here : SpendsUpTo d e (k.units.done (sector_at (sectors_of d area) place)) = to_geometry (λ u. SpendsUpTo d e ((format_of u).units.done (sector_at (sectors_of d area) place))) a d area banks mark in
        then-lost a d e (copies k (to_copy k.reading old place)) (both k.units.any_done (victim_units k old place)) first
        (first-lost d e k.units.any_done (victim_units k old place) (within-lost d e (k.units.done (sector_at (sectors_of d area) place)) k.units.any_done done_in here))

    -- the emptying of the victim

    module _ (e : Device) (more_banks : e.banks ≡ a.banks) (only : ChangesOnly (sectors_of d area) (sectors_of e area) place) (marked : Marks (format_of (geometry_of d area)) (sector_at (sectors_of d area) place) (sector_at (sectors_of e area) place)) (victim : ℕ) (at : victim ≡ next (sectors_of a area) place) where
      marks : Marks k (sector_at (sectors_of d area) place) (sector_at (sectors_of e area) place)
      marks = to_geometry (λ u. Marks (format_of u) (sector_at (sectors_of d area) place) (sector_at (sectors_of e area) place)) a d area banks marked

      -- the victim's bytes are still those before the collection
      victim_bytes : sector_at (sectors_of e area) (next old place) ≡ sector_at old (next old place)
      victim_bytes = only_else old (sectors_of e area) place (next old place) (only_then old (sectors_of d area) (sectors_of e area) place has.only only) (after-apart (length old) place form.ring.within form.ring.several)

      module _ (z : Device) (changes : ChangesOnly (sectors_of e area) (sectors_of z area) victim) where
        in_victim : ChangesOnly (sectors_of e area) (sectors_of z area) (next old place)
        in_victim = subst (λ (v : ℕ). ChangesOnly (sectors_of e area) (sectors_of z area) v) at changes

        -- nothing is left in the victim
        left_clean : (format_of (geometry_of e area)).is_clean (sector_at (sectors_of z area) victim) ≡ true → k.reading.is_blank (sector_at (sectors_of z area) (next old place)) ≡ true
        left_clean clean =
            law.clean (sector_at (sectors_of z area) (next old place))
            (subst (λ (v : ℕ). k.is_clean (sector_at (sectors_of z area) v) ≡ true) at (to_geometry (λ u. (format_of u).is_clean (sector_at (sectors_of z area) victim) ≡ true) a e area more_banks clean))

        -- whole, or cut with nothing left in the victim
        cleared_by : (format_of (geometry_of e area)).is_clean (sector_at (sectors_of z area) victim) ≡ true → Collects k.reading old place (sectors_of z area)
        cleared_by clean = collects_cut k law old (sectors_of d area) (sectors_of e area) place form large same_long has only marks (sectors_of z area) in_victim (left_clean clean)

        pub cleared_keeps : (format_of (geometry_of e area)).is_clean (sector_at (sectors_of z area) victim) ≡ true → KeepsItems (format_of (geometry_of a area)) (sectors_of a area) (sectors_of z area)
        cleared_keeps clean = collects-keeps k law old (sectors_of z area) place form (cleared_by clean)

        -- whole
        pub cleared : Clears (format_of (geometry_of e area)) (sector_at (sectors_of e area) victim) (sector_at (sectors_of z area) victim) → CollectsAt (format_of (geometry_of a area)) (sectors_of a area) (sectors_of z area) place
        cleared clears =
            let there : Clears k (sector_at (sectors_of e area) (next old place)) (sector_at (sectors_of z area) (next old place)) =
            subst (λ (v : ℕ). Clears k (sector_at (sectors_of e area) v) (sector_at (sectors_of z area) v)) at (to_geometry (λ u. Clears (format_of u) (sector_at (sectors_of e area) victim) (sector_at (sectors_of z area) victim)) a e area more_banks clears) in
            collected_at k law old (sectors_of d area) (sectors_of e area) place form large same_long has only marks (sectors_of z area) in_victim (left_clean clears.clean)
            (subst (λ (b : List ℕ). Clears k b (sector_at (sectors_of z area) (next old place))) victim_bytes there)

      cut_keeps : (z : Device) → ChangesOnly (sectors_of e area) (sectors_of z area) victim → KeepsMarks (format_of (geometry_of e area)) (sector_at (sectors_of e area) victim) (sector_at (sectors_of z area) victim)
          → KeepsItems (format_of (geometry_of a area)) (sectors_of a area) (sectors_of z area) × KeepsOrCollects (format_of (geometry_of a area)) (sectors_of a area) (sectors_of z area) place
      cut_keeps z changes keeps =
          let here : ChangesOnly (sectors_of e area) (sectors_of z area) (next old place) = subst (λ (v : ℕ). ChangesOnly (sectors_of e area) (sectors_of z area) v) at changes in
          let own : KeepsMarks k (sector_at (sectors_of e area) (next old place)) (sector_at (sectors_of z area) (next old place)) =
          subst (λ (v : ℕ). KeepsMarks k (sector_at (sectors_of e area) v) (sector_at (sectors_of z area) v)) at (to_geometry (λ u. KeepsMarks (format_of u) (sector_at (sectors_of e area) victim) (sector_at (sectors_of z area) victim)) a e area more_banks keeps) in (
            victim_cut k law old (sectors_of d area) (sectors_of e area) place form large same_long has only marks (sectors_of z area) here own.closed,
            inr (cut-list k law old place form (sectors_of d area) (sectors_of e area) large same_long has only marks (sectors_of z area) here own.closed),
          )

      pub clear_lost : (z : Device) → ChangesOnly (sectors_of e area) (sectors_of z area) victim → StopsClearing (format_of (geometry_of e area)) (sector_at (sectors_of e area) victim) (sector_at (sectors_of z area) victim) → KeepsItems (format_of (geometry_of a area)) (sectors_of a area) (sectors_of z area)
      clear_lost z changes stops = elim stops.either [ inl keeps ↦ (cut_keeps z changes keeps).0 | inr clean ↦ cleared_keeps z changes clean ]

      pub clear_lost_list : (z : Device) → ChangesOnly (sectors_of e area) (sectors_of z area) victim → StopsClearing (format_of (geometry_of e area)) (sector_at (sectors_of e area) victim) (sector_at (sectors_of z area) victim) → KeepsOrCollects (format_of (geometry_of a area)) (sectors_of a area) (sectors_of z area) place
      clear_lost_list z changes stops = elim stops.either [ inl keeps ↦ (cut_keeps z changes keeps).1 | inr clean ↦ inr (whole-list k law old place form (sectors_of z area) (cleared_by z changes clean)) ]

      pub open_same : (z : Device) → ChangesOnly (sectors_of e area) (sectors_of z area) victim → sector_at (sectors_of z area) place ≡ sector_at (sectors_of e area) place
      open_same z changes = only_else (sectors_of e area) (sectors_of z area) victim place changes (λ (s : place ≡ victim). after-apart (length old) place form.ring.within form.ring.several (sym (s ∙ at)))

      marked_spends : SpendsIn d e ((format_of (geometry_of d area)).units.done (sector_at (sectors_of d area) place)) → SpendsIn d e k.units.any_done
      marked_spends mark =
          within-in d e (k.units.done (sector_at (sectors_of d area) place)) k.units.any_done done_in
          (to_geometry (λ u. SpendsIn d e ((format_of u).units.done (sector_at (sectors_of d area) place))) a d area banks mark)

      victim_clear : k.units.clear (sector_at (sectors_of e area) victim) ≡ victim_units k old place
      victim_clear = ap (λ (v : ℕ). k.units.clear (sector_at (sectors_of e area) v)) at ∙ ap k.units.clear victim_bytes

      pub spends_all : (z : Device) → SpendsIn a d (copies (format_of (geometry_of a area)) (to_copy (format_of (geometry_of a area)).reading (sectors_of a area) place))
          → SpendsIn d e ((format_of (geometry_of d area)).units.done (sector_at (sectors_of d area) place)) → SpendsIn e z ((format_of (geometry_of e area)).units.clear (sector_at (sectors_of e area) victim)) → SpendsIn a z (collect_units (format_of (geometry_of a area)) (sectors_of a area) place)
      spends_all z first mark clear =
          let here : SpendsIn e z (k.units.clear (sector_at (sectors_of e area) victim)) = to_geometry (λ u. SpendsIn e z ((format_of u).units.clear (sector_at (sectors_of e area) victim))) a e area more_banks clear in
          both-in a d z (copies k (to_copy k.reading old place)) (both k.units.any_done (victim_units k old place)) first
          (both-in d e z k.units.any_done (victim_units k old place) (marked_spends mark) (subst (λ (r : Range). SpendsIn e z r) victim_clear here))

      pub spends_all_lost : (z : Device) → SpendsIn a d (copies (format_of (geometry_of a area)) (to_copy (format_of (geometry_of a area)).reading (sectors_of a area) place))
          → SpendsIn d e ((format_of (geometry_of d area)).units.done (sector_at (sectors_of d area) place)) → SpendsUpTo e z ((format_of (geometry_of e area)).units.clear (sector_at (sectors_of e area) victim)) → SpendsUpTo a z (collect_units (format_of (geometry_of a area)) (sectors_of a area) place)
      spends_all_lost z first mark clear =
          let here : SpendsUpTo e z (k.units.clear (sector_at (sectors_of e area) victim)) = to_geometry (λ u. SpendsUpTo e z ((format_of u).units.clear (sector_at (sectors_of e area) victim))) a e area more_banks clear in
          then-lost a d z (copies k (to_copy k.reading old place)) (both k.units.any_done (victim_units k old place)) first
          (then-lost d e z k.units.any_done (victim_units k old place) (marked_spends mark) (subst (λ (r : Range). SpendsUpTo e z r) victim_clear here))

  pub not_closed : is_closed_at (format_of (geometry_of a area)).reading (sectors_of a area) place ≡ false
  not_closed = open-not_closed k.reading old place 0 form.ring

  -- the open sector is made ready, and that was cut
  pub prepare_stops : (d : Device) → ChangesOnly (sectors_of a area) (sectors_of d area) place → Keeps (format_of (geometry_of a area)) (sector_at (sectors_of a area) place) (sector_at (sectors_of d area) place) ⊎ StopsClearing (format_of (geometry_of a area)) (sector_at (sectors_of a area) place) (sector_at (sectors_of d area) place)
      → StopsCopying (format_of (geometry_of a area)) (sectors_of a area) (sectors_of d area) place
  prepare_stops d only lost = prepare_cut k law old (sectors_of d area) place form only lost

  -- once the open sector was made ready

  module _ (d : Device) (banks : d.banks ≡ a.banks) (begun : HasBegun (format_of (geometry_of a area)) (sectors_of a area) (sectors_of d area) place) where
    pub again_form : Collecting (format_of (geometry_of d area)).reading (sectors_of d area) place
    again_form = from_geometry (λ u. Collecting (format_of u).reading (sectors_of d area) place) a d area banks (start_form k law old (sectors_of d area) place form begun)

    pub again_none : HasCopied (format_of (geometry_of d area)) (sectors_of d area) (sectors_of d area) place []
    again_none = from_geometry (λ u. HasCopied (format_of u) (sectors_of d area) (sectors_of d area) place []) a d area banks (start_none k law old (sectors_of d area) place form begun own_large)

    pub again_collected : (e : Device) → CollectsAt (format_of (geometry_of d area)) (sectors_of d area) (sectors_of e area) place → CollectsAt (format_of (geometry_of a area)) (sectors_of a area) (sectors_of e area) place
    again_collected e at = again_collects k law old (sectors_of d area) place form begun (sectors_of e area) (to_geometry (λ u. CollectsAt (format_of u) (sectors_of d area) (sectors_of e area) place) a d area banks at)

    pub again_keeps : (e : Device) → KeepsItems (format_of (geometry_of d area)) (sectors_of d area) (sectors_of e area) → KeepsItems (format_of (geometry_of a area)) (sectors_of a area) (sectors_of e area)
    again_keeps e keeps =
        keeps_then k law old (sectors_of d area) (sectors_of e area) (stopped-keeps k law old (sectors_of d area) place form (start_stops k law old (sectors_of d area) place form begun))
        (to_geometry (λ u. KeepsItems (format_of u) (sectors_of d area) (sectors_of e area)) a d area banks keeps)

    pub again_lists : (e : Device) → KeepsOrCollects (format_of (geometry_of d area)) (sectors_of d area) (sectors_of e area) place → KeepsOrCollects (format_of (geometry_of a area)) (sectors_of a area) (sectors_of e area) place
    again_lists e either = again-list k law old place form (sectors_of d area) begun (sectors_of e area) (to_geometry (λ u. KeepsOrCollects (format_of u) (sectors_of d area) (sectors_of e area) place) a d area banks either)

    -- the victim is another sector, and stays
    victim_same : victim_units k (sectors_of d area) place ≡ victim_units k old place
    victim_same =
        let same_next : next (sectors_of d area) place ≡ next old place = ap (λ (n : ℕ). after n place) (only_length old (sectors_of d area) place begun.only) in
        ap (λ (v : ℕ). k.units.clear (sector_at (sectors_of d area) v)) same_next
        ∙ ap k.units.clear (only_else old (sectors_of d area) place (next old place) begun.only (after-apart (length old) place form.ring.within form.ring.several))

    units_same : collect_units (format_of (geometry_of d area)) (sectors_of d area) place ≡ collect_units k old place
    units_same =
        ap (λ (u : Geometry). collect_units (format_of u) (sectors_of d area) place) (same_geometry a d area banks)
        ∙ ap (λ (r : Range). collect_with k (sectors_of d area) place r) victim_same
        ∙ ap (λ ps. both (copies k ps) (both k.units.any_done (victim_units k old place))) (start_copies k law old (sectors_of d area) place form begun)

    pub again_spends : (e : Device) → SpendsIn a d (ready_units (format_of (geometry_of a area)) (sectors_of a area) place) → SpendsIn d e (collect_units (format_of (geometry_of d area)) (sectors_of d area) place) → SpendsIn a e (again_units (format_of (geometry_of a area)) (sectors_of a area) place)
    again_spends e first later = both-in a d e (ready_units k old place) (collect_units k old place) first (subst (λ (r : Range). SpendsIn d e r) units_same later)

    pub again_spends_lost : (e : Device) → SpendsIn a d (ready_units (format_of (geometry_of a area)) (sectors_of a area) place) → SpendsUpTo d e (collect_units (format_of (geometry_of d area)) (sectors_of d area) place) → SpendsUpTo a e (again_units (format_of (geometry_of a area)) (sectors_of a area) place)
    again_spends_lost e first later = then-lost a d e (ready_units k old place) (collect_units k old place) first (subst (λ (r : Range). SpendsUpTo d e r) units_same later)
