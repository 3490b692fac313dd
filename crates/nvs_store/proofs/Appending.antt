-- What the append of a pair needs of the scan, and what it keeps.
use Rattle.std.proofs.Common.{◌≡◌, ◌⊎◌, ℕ, ◌+◌, ◌-◌, ◌<◌, ◌≤◌, Bool, true, false, cond, eqb, List, [], ◌∷◌, ◌++◌, length, set, None, refl, sym, ap, subst, ◌∙◌, inl, inr, append_assoc, arith}
use Rattle.std.specs.List.{flat_map}
use Rattle.std.proofs.lemmas.Bool.{false≢true, cases_eq, cond-true, cond-false, eq-eqb, ne_eqb}
use Rattle.std.proofs.lemmas.List.{append-nil}
use Rattle.flash_map.specs.Units.{IsUnit, padded, is_erased}
use Rattle.item_laws.specs.Area.{next, is_closed_at, open_sector, area_pairs}
use Rattle.flash_map.specs.Area.{sector_at, ChangesOnly}
use Rattle.item_laws.specs.Forms.{others, pairs_at}
use Rattle.item_laws.specs.Forms as ring_forms
use Rattle.item_laws.specs.Steps as ring_steps
use Rattle.item_laws.proofs.Collects.{at_rest-put, done-not_blank}
use Rattle.item_laws.proofs.RingSteps.{reads}
use Rattle.item_laws.proofs.Rings.{next-closed}
use Rattle.item_laws.proofs.Stays.{open_kept, next_kept, list-all, list_put}
use Rattle.item_laws.proofs.Undamaged.{form-of}
use Rattle.nvs_store.specs.declared.scan.Redo.{Redo}
use Rattle.nvs_store.specs.declared.scan.Redo.TheVariants.{Nothing, EraseNext, CollectAgain}
use Rattle.nvs_store.specs.declared.scan.Scan.{Scan}
use Rattle.nvs_store.specs.Geometry.{slot_size, cost, capacity}
use Rattle.nvs_store.specs.Sector.{AddsPair, StopsAdding, is_sound, is_closed, has_gc_done, low, data_end, pairs, pairs_cost}
use Rattle.nvs_store.specs.Scans.{reading, sector_scan, scan_at, scan_of, redo_of, fits, damage_of, list_of, marked_redo, AddsPairAt, StopsAddingAt, MarksDoneAt}
use Rattle.nvs_store.proofs.Blank.{reads-blank}
use Rattle.nvs_store.proofs.Sound.{sound-costs, keeps-further, adds-further, adds-used, fits-costs}
use Rattle.nvs_store.proofs.Room.{HasRoom}

-- the sector that the scan names is the open one, and the scan is its own
pub open_is : (unit : ℕ) (sectors : List (List ℕ)) (scan : Scan) → scan ≡ scan_of unit sectors → open_sector (reading unit) sectors ≡ scan.current
open_is unit sectors scan is = sym (ap (λ (s : Scan). s.current) is)

pub scan_there : (unit : ℕ) (sectors : List (List ℕ)) (scan : Scan) → scan ≡ scan_of unit sectors → scan ≡ scan_at unit sectors scan.current
scan_there unit sectors scan is = is ∙ ap (scan_at unit sectors) (open_is unit sectors scan is)

pub fits_there : (unit len : ℕ) (sectors : List (List ℕ)) (scan : Scan) → scan ≡ scan_of unit sectors → fits unit scan len ≡ true → fits unit (sector_scan unit scan.current (sector_at sectors scan.current)) len ≡ true
fits_there unit len sectors scan is fitting = sym (ap (λ (s : Scan). fits unit s len) (scan_there unit sectors scan is)) ∙ fitting

not_closed_by : (closed done : Bool) → cond closed (cond done EraseNext CollectAgain) Nothing ≡ Nothing → closed ≡ false
not_closed_by false done e = refl
not_closed_by true true e = absurd (cc)
not_closed_by true false e = absurd (cc)

-- where a mount has nothing to do, the next sector is not closed
pub next_open : (unit : ℕ) (sectors : List (List ℕ)) (scan : Scan) → scan ≡ scan_of unit sectors → scan.redo ≡ Nothing → is_closed_at (reading unit) sectors (next sectors scan.current) ≡ false
next_open unit sectors scan is nothing =
    not_closed_by (is_closed_at (reading unit) sectors (next sectors scan.current)) (has_gc_done unit (sector_at sectors scan.current)) (sym (ap (λ (s : Scan). s.redo) (scan_there unit sectors scan is)) ∙ nothing)

pub scan_parts : (unit place : ℕ) (sectors : List (List ℕ)) (lowest end : ℕ) (gc_done : Bool) (redo : Redo) → lowest ≡ low unit (sector_at sectors place) → end ≡ data_end unit (sector_at sectors place) → gc_done ≡ has_gc_done unit (sector_at sectors place) → redo ≡ redo_of unit sectors place
    → record { current = place; low = lowest; data_end = end; gc_done = gc_done; redo = redo } ≡ scan_at unit sectors place
scan_parts unit place sectors lowest end gc_done redo low-is end-is done-is redo-is =
    ap (λ (x : ℕ). record { current = place; low = x; data_end = end; gc_done = gc_done; redo = redo }) low-is
    ∙ ap (λ (x : ℕ). record { current = place; low = low unit (sector_at sectors place); data_end = x; gc_done = gc_done; redo = redo }) end-is
    ∙ ap (λ (x : Bool). record { current = place; low = low unit (sector_at sectors place); data_end = data_end unit (sector_at sectors place); gc_done = x; redo = redo }) done-is
    ∙ ap (λ (x : Redo). record { current = place; low = low unit (sector_at sectors place); data_end = data_end unit (sector_at sectors place); gc_done = has_gc_done unit (sector_at sectors place); redo = x }) redo-is

-- ---- one sector changes, the open one

module _ (unit : ℕ) (old new : List (List ℕ)) (place : ℕ) (within : place < length old) (is : open_sector (reading unit) old ≡ place) (only : ChangesOnly old new place) (same : is_closed unit (sector_at new place) ≡ is_closed unit (sector_at old place)) (used : is_erased (sector_at old place) ≡ false → is_erased (sector_at new place) ≡ false) where
  pub open_after : open_sector (reading unit) new ≡ place
  open_after = ap (open_sector (reading unit)) only ∙ open_kept (reading unit) old place (sector_at new place) within same is used

  pub next_after : is_closed_at (reading unit) new (next new place) ≡ is_closed_at (reading unit) old (next old place)
  next_after = ap (λ (ss : List (List ℕ)). is_closed_at (reading unit) ss (next ss place)) only ∙ next_kept (reading unit) old place (sector_at new place) within same

  pub redo_after : has_gc_done unit (sector_at new place) ≡ has_gc_done unit (sector_at old place) → redo_of unit new place ≡ redo_of unit old place
  redo_after done =
      ap (λ (t : Bool). cond t (cond (has_gc_done unit (sector_at new place)) EraseNext CollectAgain) Nothing) next_after
      ∙ ap (λ (t : Bool). cond (is_closed_at (reading unit) old (next old place)) (cond t EraseNext CollectAgain) Nothing) done

  -- where each sector counts, its pairs stand last
  pub list_after : (more : List (ℕ × List ℕ)) → is_closed_at (reading unit) old (next old place) ≡ false → pairs unit (sector_at new place) ≡ pairs unit (sector_at old place) ++ more → list_of unit new ≡ list_of unit old ++ more
  list_after more free list =
      let prefix = flat_map (pairs_at (reading unit) old) (others (length old) place) in
      ap (area_pairs (reading unit) new) open_after
      ∙ ap (λ (ss : List (List ℕ)). area_pairs (reading unit) ss place) only
      ∙ list_put (reading unit) old place (sector_at new place) within same free
      ∙ ap (λ ps. flat_map (pairs_at (reading unit) old) (others (length old) place) ++ ps) list
      ∙ sym (append_assoc (flat_map (pairs_at (reading unit) old) (others (length old) place)) (pairs unit (sector_at old place)) more)
      ∙ ap (λ ps. ps ++ more) (sym (list-all (reading unit) old place within free))
      ∙ ap (λ (k : ℕ). area_pairs (reading unit) old k ++ more) (sym is)

  pub undamaged_after : 2 ≤ length old → is_closed_at (reading unit) old (next old place) ≡ false → (is_sound unit (sector_at old place) ≡ true → is_sound unit (sector_at new place) ≡ true) → damage_of unit old ≡ None → damage_of unit new ≡ None
  undamaged_after several free sound none =
      elim (form-of (reading unit) old several none) [
        | inl form ↦
            let rest = subst (λ (k : ℕ). ring_forms.AtRest (reading unit) old k) is form in
            let further : ring_steps.IsFurther (reading unit) (sector_at old place) (sector_at new place) = record { used = used; sound = sound (rest.sound place within) } in
            ap (damage_of unit) only ∙ (reads (reading unit) (set old place (sector_at new place)) place (inl (at_rest-put (reading unit) old place (sector_at new place) rest same further))).1
        | inr (inl form) ↦ let ring_is = subst (λ (k : ℕ). ring_forms.IsRing (reading unit) old k 0) is form.ring in absurd (false≢true (sym free ∙ next-closed (reading unit) old place 0 ring_is))
        | inr (inr form) ↦ let ring_is = subst (λ (k : ℕ). ring_forms.IsRing (reading unit) old k 0) is form.ring in absurd (false≢true (sym free ∙ next-closed (reading unit) old place 0 ring_is))
      ]

-- ---- the append

-- what fits keeps the costs within the capacity, a delete too
append-costs : (unit place : ℕ) (b : List ℕ) (len : ℕ) → IsUnit unit → is_sound unit b ≡ true → fits unit (sector_scan unit place b) len ≡ true → pairs_cost unit (pairs unit b) + cond (eqb len 0) 0 (cost unit len) ≤ capacity unit (length b)
append-costs unit place b len is-unit sound fitting =
    let before = sound-costs unit b sound in
    elim (cases_eq len 0) [
      | inl none ↦ let e : cond (eqb len 0) 0 (cost unit len) ≡ 0 = cond-true (eqb len 0) 0 (cost unit len) (eq-eqb len 0 none) in omega arith
      | inr some ↦
          let e : cond (eqb len 0) 0 (cost unit len) ≡ cost unit len = cond-false (eqb len 0) 0 (cost unit len) (ne_eqb len 0 some) in
          let costs = fits-costs unit place b len is-unit (omega arith) fitting in
          omega arith
    ]

module _ (unit place : ℕ) (b new : List ℕ) (id : ℕ) (bytes : List ℕ) (room : HasRoom unit b (length bytes)) where
  pub pair_used : AddsPair unit b new id bytes → is_erased new ≡ false
  pair_used adds = let space = room.room in adds-used unit id b new bytes room.is_unit (omega arith) adds

  pub stops_used : StopsAdding unit b new id bytes → is_erased b ≡ false → is_erased new ≡ false
  stops_used stops full = elim stops.list [ inl keeps ↦ keeps.used full | inr adds ↦ pair_used adds ]

  pub stops_closed : StopsAdding unit b new id bytes → is_closed unit new ≡ is_closed unit b
  stops_closed stops = elim stops.list [ inl keeps ↦ keeps.closed | inr adds ↦ adds.closed ]

  module _ (fitting : fits unit (sector_scan unit place b) (length bytes) ≡ true) where
    pub adds_sound : AddsPair unit b new id bytes → is_sound unit b ≡ true → is_sound unit new ≡ true
    adds_sound adds sound = (adds-further unit id b new bytes room (append-costs unit place b (length bytes) room.is_unit sound fitting) adds).sound

    pub stops_sound : StopsAdding unit b new id bytes → is_sound unit b ≡ true → is_sound unit new ≡ true
    stops_sound stops sound =
        elim stops.list [
          | inl keeps ↦ (keeps-further unit (length bytes) b new room sound keeps).sound
          | inr adds ↦ adds_sound adds sound
        ]

-- a stop leaves the list, or adds the pair
pub lost_list : (unit : ℕ) (old new : List (List ℕ)) (place id : ℕ) (bytes : List ℕ) → place < length old → open_sector (reading unit) old ≡ place → HasRoom unit (sector_at old place) (length bytes) → StopsAddingAt unit old new place id bytes
    → is_closed_at (reading unit) old (next old place) ≡ false → (list_of unit new ≡ list_of unit old) ⊎ (list_of unit new ≡ list_of unit old ++ (id, bytes) ∷ [])
lost_list unit old new place id bytes within is room stops free =
    elim stops.stops.list [
      | inl keeps ↦ inl (list_after unit old new place within is stops.only keeps.closed keeps.used [] free (keeps.list ∙ sym (append-nil (pairs unit (sector_at old place)))) ∙ append-nil (list_of unit old))
      | inr adds ↦ inr (list_after unit old new place within is stops.only adds.closed (λ _. pair_used unit place (sector_at old place) (sector_at new place) id bytes room adds) ((id, bytes) ∷ []) free adds.list)
    ]

-- the scan goes on with what was put
pub scan_added : (unit : ℕ) (old new : List (List ℕ)) (id : ℕ) (bytes : List ℕ) (scan : Scan) (size len : ℕ) → scan.current < length old → scan ≡ scan_of unit old → AddsPairAt unit old new scan.current id bytes → is_erased (sector_at new scan.current) ≡ false
    → size ≡ slot_size unit → len ≡ padded unit (length bytes) → record scan { low = scan.low - size; data_end = scan.data_end + len } ≡ scan_of unit new
scan_added unit old new id bytes scan size len within scanned put full size-is len-is =
    let place = scan.current in
    let adds = put.adds in
    let at = scan_there unit old scan scanned in
    let is = open_is unit old scan scanned in
    let low-is : scan.low ≡ low unit (sector_at old scan.current) = ap (λ (s : Scan). s.low) at in
    let end-is : scan.data_end ≡ data_end unit (sector_at old scan.current) = ap (λ (s : Scan). s.data_end) at in
    scan_parts unit scan.current new (scan.low - size) (scan.data_end + len) scan.gc_done scan.redo (omega (arith, adds.lower)) (omega (arith, adds.grown))
    (ap (λ (s : Scan). s.gc_done) at ∙ sym adds.gc_done)
    (ap (λ (s : Scan). s.redo) at ∙ sym (redo_after unit old new scan.current within is put.only adds.closed (λ _. full) adds.gc_done))
    ∙ ap (scan_at unit new) (sym (open_after unit old new scan.current within is put.only adds.closed (λ _. full)))

-- ---- gc-done

marked : (closed done : Bool) → marked_redo (cond closed (cond done EraseNext CollectAgain) Nothing) ≡ cond closed (cond true EraseNext CollectAgain) Nothing
marked false done = refl
marked true true = refl
marked true false = refl

-- the scan goes on with gc-done
pub scan_marked : (unit : ℕ) (old new : List (List ℕ)) (scan : Scan) (size : ℕ) → scan.current < length old → scan ≡ scan_of unit old → MarksDoneAt unit old new scan.current → size ≡ slot_size unit
    → record scan { low = scan.low - size; gc_done = true; redo = marked_redo scan.redo } ≡ scan_of unit new
scan_marked unit old new scan size within scanned put size-is =
    let place = scan.current in
    let marks = put.marks in
    let at = scan_there unit old scan scanned in
    let is = open_is unit old scan scanned in
    let full : is_erased (sector_at old scan.current) ≡ false → is_erased (sector_at new scan.current) ≡ false = λ _. done-not_blank (reading unit) (reads-blank unit) (sector_at new scan.current) marks.gc_done in
    let low-is : scan.low ≡ low unit (sector_at old scan.current) = ap (λ (s : Scan). s.low) at in
    let end-is : scan.data_end ≡ data_end unit (sector_at old scan.current) = ap (λ (s : Scan). s.data_end) at in
    scan_parts unit scan.current new (scan.low - size) scan.data_end true (marked_redo scan.redo) (omega (arith, marks.lower)) (omega (arith, marks.same_end)) (sym marks.gc_done)
    (ap (λ (s : Scan). marked_redo s.redo) at
    ∙ marked (is_closed_at (reading unit) old (next old scan.current)) (has_gc_done unit (sector_at old scan.current))
    ∙ sym (ap (λ (t : Bool). cond t (cond (has_gc_done unit (sector_at new scan.current)) EraseNext CollectAgain) Nothing) (next_after unit old new scan.current within is put.only marks.closed full)
    ∙ ap (λ (t : Bool). cond (is_closed_at (reading unit) old (next old scan.current)) (cond t EraseNext CollectAgain) Nothing) marks.gc_done))
    ∙ ap (scan_at unit new) (sym (open_after unit old new scan.current within is put.only marks.closed full))
