-- The record that names an area, whole and cut.
use Rattle.std.proofs.Common.{◌≡◌, ◌⊎◌, ℕ, zero, suc, ◌+◌, ◌-◌, ◌/◌, ◌<◌, ◌≤◌, ◌&&◌, true, false, ltb, leb, List, [], ◌∷◌, ◌++◌, Option, Some, None, Result, Ok, Err, refl, sym, ap, subst, ◌∙◌, inl, inr, arith}
use Rattle.std.specs.Prelude.{unwrap_or, OnOk}
use Rattle.std.specs.Option.{option_or, option_map}
use Rattle.std.proofs.lemmas.Bool.{cases_Bool, false≢true, eqb-true}
use Rattle.std.proofs.lemmas.Bool.Decides.{nat_tests}
use Rattle.flash_sim.specs.Bank.{IsLawful, bank_at}
use Rattle.flash_sim.specs.Device.{Device}
use Rattle.flash_sim.specs.declared.flash.Bank.{Bank}
use Rattle.flash_sim.specs.declared.flash.TheConstants.{PROGRAM_LIMIT}
use Rattle.flash_map.specs.declared.area.Area.{Area}
use Rattle.flash_map.specs.Area.{unit_of, sector_size, sectors_of}
use Rattle.flash_map.specs.Faults.{mount_lost}
use Rattle.flash_map.specs.Spending.{Spends, SpendsAtMost}
use Rattle.flash_map.specs.Units.{IsUnit, padded}
use Rattle.flash_map.specs.declared.faults.MountFault.{MountFault}
use Rattle.flash_map.specs.declared.faults.MountFault.TheVariants.{Damaged as HasDamage, PowerLost as MountLost, NoMemory}
use Rattle.flash_map.proofs.Rounding.{by_unit}
use Rattle.flash_map.proofs.SpendingLemmas.{spends_then}
use Rattle.fcb_ring.specs.declared.record.RecordAt.{RecordAt}
use Rattle.fcb_ring.specs.declared.ring.Ring.{Ring}
use Rattle.fcb_ring.specs.declared.writing.AppendFault.{AppendFault}
use Rattle.fcb_ring.specs.declared.writing.AppendFault.TheVariants.{Full, TooLong, PowerLost}
use Rattle.fcb_ring.specs.Changing.{AppendEnds, CanAppend, AddsRecord, CutAppend, CutList, record_units, is_too_long, stays_for, place_for, units_for, is_scratch_left}
use Rattle.fcb_ring.specs.Entries.{bodies, HasEntries}
use Rattle.fcb_ring.specs.Standing.{IsRingArea, HasEntriesOn, MountEnds, entries_on, erases_on, ring_damage}
use Rattle.fcb_ring.specs.Writing.{record_image, record_cost, filled, length_field, spelled}
use Rattle.fcb_ring.proofs.AppendLemmas.{unit-after, units-here}
use Rattle.fcb_ring.proofs.AreaLemmas.{has_size}
use Rattle.fcb_ring.proofs.WalkLemmas.{Entry}
use Rattle.migrator.specs.Areas.{is_store_at, first_store}
use Rattle.migrator.specs.Active.{named, chosen, last_choice, active_in}
use Rattle.migrator.specs.Choosing.{IsOpen, PutEnds, ChooseEnds, AddsChoice, Chooses, CollectsAndAdds, OldOrChosen, Collected, ChoiceIsCut, choice_of, collection_units}
use Rattle.migrator.proofs.Latest.{latest-push}
use Rattle.migrator.proofs.Choices.{names-itself, erased-names-none, bodies-append, chosen-last}
use Rattle.migrator.proofs.Collecting.{cost_small, active-by, active-kept}

-- ---- mounting

pub mount-bound : (T : Type 0) (old new : Device) (area : Area) (reserve : ℕ) (fault : MountFault) → MountEnds old new area reserve (Err fault) → mount_lost {T = T} (Err fault) ≡ true → SpendsAtMost old new (erases_on old area)
mount-bound T old new area reserve (HasDamage damaged) ends lost = absurd (false≢true lost)
mount-bound T old new area reserve MountLost ends lost = ends.1
mount-bound T old new area reserve NoMemory ends lost = absurd ends

-- ---- what a record that was cut spells

spelled-one : (first second : ℕ) (unit : ℕ) → IsUnit unit → spelled unit (first ∷ second ∷ []) 1 ≡ 255 ∷ 255 ∷ []
unfolding record_image filled length_field padded
spelled-one first second = by_unit (λ unit. spelled unit (first ∷ second ∷ []) 1 ≡ 255 ∷ 255 ∷ []) refl refl refl

spelled-two : (first second : ℕ) (unit : ℕ) → IsUnit unit → spelled unit (first ∷ second ∷ []) 2 ≡ first ∷ second ∷ []
unfolding record_image filled length_field padded
spelled-two first second = by_unit (λ unit. spelled unit (first ∷ second ∷ []) 2 ≡ first ∷ second ∷ []) refl refl refl

three_units : (unit : ℕ) → IsUnit unit → record_cost unit 2 / unit ≡ 3
unfolding padded
three_units = by_unit (λ unit. record_cost unit 2 / unit ≡ 3) (omega arith) (omega arith) (omega arith)

one_or_two : (n : ℕ) → 0 < n → n < 3 → (n ≡ 1) ⊎ (n ≡ 2)
one_or_two zero some few = absurd (omega arith)
one_or_two (suc zero) some few = inl refl
one_or_two (suc (suc zero)) some few = inr refl
one_or_two (suc (suc (suc n))) some few = absurd (omega arith)

-- ---- one record more

module _ (areas : List Area) (d : Device) (area : Area) (old : List Entry) (at : RecordAt) (body : List ℕ) (has : HasEntries (unit_of d area) (sectors_of d area) (old ++ (at, body) ∷ [])) where
  more-choice : chosen areas (bodies (old ++ (at, body) ∷ [])) ≡ option_or (named areas body) (chosen areas (bodies old))
  more-choice = ap (chosen areas) (bodies-append old ((at, body) ∷ [])) ∙ latest-push (named areas) (bodies old) body

  more-some : (index : ℕ) → named areas body ≡ Some index → active_in areas d area ≡ index
  more-some index is =
      active-by areas d area (old ++ (at, body) ∷ []) has.are
      ∙ ap (λ (o : Option ℕ). unwrap_or o (first_store areas)) (more-choice ∙ ap (λ (o : Option ℕ). option_or o (chosen areas (bodies old))) is)

  more-none : named areas body ≡ None → active_in areas d area ≡ unwrap_or (chosen areas (bodies old)) (first_store areas)
  more-none is =
      active-by areas d area (old ++ (at, body) ∷ []) has.are
      ∙ ap (λ (o : Option ℕ). unwrap_or o (first_store areas)) (more-choice ∙ ap (λ (o : Option ℕ). option_or o (chosen areas (bodies old))) is)

-- ---- a record that was cut

abbrev Leaves : List Area → Device → Device → Area → ℕ → Type 0
Leaves areas old new area index = OldOrChosen areas old new area index × (ring_damage new area ≡ None)

cut-list : (areas : List Area) (old new : Device) (area : Area) (place index done : ℕ) → is_store_at areas index ≡ true → IsUnit (unit_of new area) → CutList (unit_of new area) (sectors_of new area) (entries_on old area) place (choice_of index) done → Leaves areas old new area index
cut-list areas old new area place index done store unit (inl none) = (inl (active-kept areas old new area none.1), none.1.undamaged)
cut-list areas old new area place index done store unit (inr (inl whole)) = (inr (more-some areas new area (entries_on old area) whole.0 (choice_of index) whole.3 index (names-itself areas index store)), whole.3.undamaged)
cut-list areas old new area place index done store unit (inr (inr part)) =
    let chance = part.2 in
    let few : done < 3 = subst (λ (n : ℕ). done < n) (three_units (unit_of new area) unit) chance.fewer in
    elim (one_or_two done chance.some few) [
      | inl one ↦ (
        inl (more-none areas new area (entries_on old area) part.0 (spelled (unit_of new area) (choice_of index) done) part.3
            (ap (λ (n : ℕ). named areas (spelled (unit_of new area) (choice_of index) n)) one ∙ ap (named areas) (spelled-one index (255 - index) (unit_of new area) unit) ∙ erased-names-none areas)),
        part.3.undamaged,
      )
      | inr two ↦ (
        inr (more-some areas new area (entries_on old area) part.0 (spelled (unit_of new area) (choice_of index) done) part.3 index
            (ap (λ (n : ℕ). named areas (spelled (unit_of new area) (choice_of index) n)) two ∙ ap (named areas) (spelled-two index (255 - index) (unit_of new area) unit) ∙ names-itself areas index store)),
        part.3.undamaged,
      )
    ]

cut-append : (areas : List Area) (old new : Device) (area : Area) (place index : ℕ) → is_store_at areas index ≡ true → IsUnit (unit_of new area) → CutAppend old new area place (choice_of index) → Leaves areas old new area index
cut-append areas old new area place index store unit (inl header) = (inl (active-kept areas old new area header.list), header.list.undamaged)
cut-append areas old new area place index store unit (inr part) = cut-list areas old new area place index part.done store unit part.list

-- ---- the call

fits-sector : (unit size kept : ℕ) → IsUnit unit → 512 ≤ size → kept ≡ 0 → is_too_long unit size kept 2 ≡ true → ⊥
fits-sector unit size kept is long none too =
    let small = cost_small unit is in
    false≢true (sym (at (size - padded unit 8 - kept) (record_cost unit 2) (omega (arith, small.0, small.1, long, none))) ∙ too)
  where
    at : (room cost : ℕ) → cost ≤ room → ltb room cost ≡ false
    at room cost le = grind (arith, nat_tests)

-- as `AddsChoice` says it, with the room that the record leaves
record AddsWith (old new : Device) (ring : Ring) (index kept : ℕ) : Type 0 where
  pub room : CanAppend old ring (choice_of index) kept
  pub list : AddsRecord old new ring.area (place_for old ring (choice_of index) kept) (choice_of index)
  pub units : Spends old new (units_for old ring (choice_of index) kept)

adds-choice : (old new : Device) (ring : Ring) (index kept : ℕ) → kept ≡ 0 → AddsWith old new ring index kept → AddsChoice old new ring index
adds-choice old new ring index kept none adds =
    let same : AddsWith old new ring index 0 = subst (AddsWith old new ring index) none adds in
    record { room = same.room; list = same.list; units = same.units }

pub put-ends : {T : Type 0} (areas : List Area) (old new : Device) (before after : Ring) (index kept : ℕ) (result : Result T AppendFault) → IsLawful old.banks old.bytes → IsLawful new.banks new.bytes → new.banks ≡ old.banks
    → IsOpen old before → kept ≡ 0 → after.reserve ≡ before.reserve → is_store_at areas index ≡ true → AppendEnds old new before after (choice_of index) kept result → PutEnds areas old new before after index result
put-ends areas old new before after index kept (Ok x) lawful lawful-new banks mounted none reserve store ends = (
  record { stands = ends.3.stands; ready = ends.3.stage; reserve = reserve ∙ mounted.reserve },
  more-some areas new before.area (entries_on old before.area) ends.1.0 (choice_of index) ends.1.2 index (names-itself areas index store),
  adds-choice old new before index kept none (record { room = ends.0; list = ends.1; units = ends.3.units }),
)
put-ends areas old new before after index kept (Err TooLong) lawful lawful-new banks mounted none reserve store ends =
    let has = has_size old before.area lawful mounted.stands.area in
    fits-sector (unit_of old before.area) (sector_size old before.area) kept has.is_unit has.at_least none ends.0
put-ends areas old new before after index kept (Err Full) lawful lawful-new banks mounted none reserve store ends =
    (ap (λ (k : ℕ). stays_for old before (choice_of index) k) (sym none) ∙ ends.1, ends.2, ends.3.flash, ends.3.ring)
put-ends areas old new before after index kept (Err PowerLost) lawful lawful-new banks mounted none reserve store ends =
    let ring : IsRingArea new.banks before.area = subst (λ (b : List Bank). IsRingArea b before.area) (sym banks) mounted.stands.area in
    let left = cut-append areas old new before.area _ index store (has_size new before.area lawful-new ring).is_unit ends.1 in
    (left.0, left.1, ends.2.down)

abbrev unit_in : List Bank → Area → ℕ
unit_in banks area = (bank_at banks area.bank).unit

-- where the record fits, it takes up three units
fits-units : (d e : Device) (ring : Ring) (index : ℕ) → stays_for d ring (choice_of index) 0 ≡ true → Spends d e (units_for d ring (choice_of index) 0) → Spends d e (record_units d ring.area 2)
fits-units d e ring index fits spent = subst (λ (n : ℕ). Spends d e n) (units-here (unit_of d ring.area) 2 (stays_for d ring (choice_of index) 0) fits) spent

-- behind a collection there is room for the record
pub room-behind : (areas : List Area) (a d : Device) (before after : Ring) (index : ℕ) → IsLawful d.banks d.bytes → d.banks ≡ a.banks → after.area ≡ before.area → 0 < before.used → Collected areas a d before after → stays_for d after (choice_of index) 0 ≡ false → ⊥
room-behind areas a d before after index lawful banks area used did full =
    let has = has_size d after.area lawful did.open_ring.stands.area in
    let small = cost_small (unit_of d after.area) has.is_unit in
    let unit : unit_of a before.area ≡ unit_of d after.area = ap (λ (b : List Bank). unit_in b before.area) (sym banks) ∙ ap (λ (x : Area). unit_of d x) (sym area) in
    let end : after.end ≤ padded (unit_of d after.area) 8 + record_cost (unit_of d after.area) 2 = subst (λ (u : ℕ). after.end ≤ padded u 8 + record_cost u 2) unit did.end in
    let some : 0 < after.used = subst (λ (n : ℕ). 0 < n) (sym did.used) used in
    false≢true (sym full ∙ at after.used (after.end + record_cost (unit_of d after.area) 2 + 0) (sector_size d after.area) some (omega (arith, end, small.0, small.1, has.at_least)))
  where
    at : (used end size : ℕ) → 0 < used → end ≤ size → (ltb 0 used && leb end size) ≡ true
    at used end size some le = grind (arith, nat_tests)

-- a collection, and then the record
pub adds-behind : (areas : List Area) (a d e : Device) (before ring : Ring) (index : ℕ) → IsLawful d.banks d.bytes → d.banks ≡ a.banks → ring.area ≡ before.area → 0 < before.used → Collected areas a d before ring → AddsChoice d e ring index → CollectsAndAdds areas a e before index
adds-behind areas a d e before ring index lawful banks area used did adds = elim (cases_Bool (stays_for d ring (choice_of index) 0)) [
  | inl fits ↦
      let more : Spends d e (record_units a before.area 2) =
      subst (λ (u : ℕ). Spends d e (record_cost u 2 / u)) (unit-after a d before.area ring.area banks area) (fits-units d e ring index fits adds.units) in
      record {
        left = entries_on d before.area;
        collected = did.list;
        at = adds.list.0;
        list = subst (λ (x : Area). HasEntriesOn e x (entries_on d x ++ (adds.list.0, choice_of index) ∷ [])) area adds.list.2;
        units = spends_then a d e (collection_units a before.area did.list.copies) (record_units a before.area 2) did.units more;
      }
  | inr full ↦ absurd (room-behind areas a d before ring index lawful banks area used did full)
]

-- where no sector but the scratch one is free, one is used
pub left-used : (d : Device) (ring : Ring) → IsOpen d ring → is_scratch_left ring ≡ true → 0 < ring.used
left-used d ring mounted left =
    let several = mounted.stands.area.lawful.several in
    let same : ring.used + 1 ≡ ring.area.sectors = eqb-true (ring.used + 1) ring.area.sectors left in
    omega arith

pub put-short : (d : Device) (ring : Ring) → IsLawful d.banks d.bytes → IsOpen d ring → record_cost (unit_of d ring.area) 2 ≤ PROGRAM_LIMIT
put-short d ring lawful mounted = let small = cost_small (unit_of d ring.area) (has_size d ring.area lawful mounted.stands.area).is_unit in omega (arith, small.0)

-- ---- a collection, and then the record

pub put-behind : {E : Type 0} (areas : List Area) (a d e : Device) (before ring after : Ring) (index : ℕ) (result : Result (Unit {0}) E) → ring.area ≡ before.area → active_in areas d before.area ≡ active_in areas a before.area → ChooseEnds areas d e ring after index result → ChooseEnds areas a e before after index result
put-behind areas a d e before ring after index (Ok x) area active ends = (ends.0, sym (ap (active_in areas e) area) ∙ ends.1)
put-behind areas a d e before ring after index (Err lost) area active ends = (
  elim ends.0 [
    | inl old ↦ inl (sym (ap (active_in areas e) area) ∙ old ∙ ap (active_in areas d) area ∙ active)
    | inr chosen ↦ inr (sym (ap (active_in areas e) area) ∙ chosen)
  ],
  sym (ap (ring_damage e) area) ∙ ends.1,
  ends.2,
)

pub put-lost : {T : Type 0} (areas : List Area) (a d e : Device) (before ring after : Ring) (index : ℕ) (result : Result T AppendFault) → result ≡ Err PowerLost → PutEnds areas d e ring after index result → ChoiceIsCut areas d e ring.area after index
put-lost areas a d e before ring after index result is ends = subst (λ (r : Result _ AppendFault). PutEnds areas d e ring after index r) is ends

pub put-ok : (areas : List Area) (d e : Device) (ring after : Ring) (index : ℕ) (result : Result (Unit {0}) AppendFault) → (x : Unit {0}) → result ≡ Ok x → PutEnds areas d e ring after index result → IsOpen e after × (active_in areas e ring.area ≡ index) × AddsChoice d e ring index
put-ok areas d e ring after index result x is ends = subst (λ (r : Result (Unit {0}) AppendFault). PutEnds areas d e ring after index r) is ends

pub put-full : (areas : List Area) (d e : Device) (ring after : Ring) (index : ℕ) (result : Result (Unit {0}) AppendFault) → result ≡ Err Full → PutEnds areas d e ring after index result → (stays_for d ring (choice_of index) 0 ≡ false) × (is_scratch_left ring ≡ true) × (e ≡ d) × (after ≡ ring)
put-full areas d e ring after index result is ends = subst (λ (r : Result (Unit {0}) AppendFault). PutEnds areas d e ring after index r) is ends

-- where it does not fit, the oldest sector is collected first
pub chosen-behind : {E : Type 0} (areas : List Area) (a d e : Device) (before ring : Ring) (index : ℕ) (result : Result (Unit {0}) E) → (stays_for a before (choice_of index) 0 ≡ false) × (is_scratch_left before ≡ true) × (d ≡ a) × (ring ≡ before)
    → OnOk result (CollectsAndAdds areas d e ring index) → OnOk result (Chooses areas a e before index)
chosen-behind areas a d e before ring index (Ok x) full did =
    inr (full.0, full.1, subst (λ (o : Device). CollectsAndAdds areas o e before index) full.2 (subst (λ (r : Ring). CollectsAndAdds areas d e r index) full.3 did))
chosen-behind areas a d e before ring index (Err lost) full did = tt

-- the area that the last choice names is the active one
pub choice-active : (areas : List Area) (d : Device) (area : Area) (last : Option (RecordAt × ℕ)) (choice : RecordAt × ℕ) → last ≡ last_choice areas (entries_on d area) → last ≡ Some choice → choice.1 ≡ active_in areas d area
choice-active areas d area last choice is some =
    sym (ap (λ (o : Option ℕ). unwrap_or o (first_store areas)) (chosen-last areas (entries_on d area) ∙ ap (option_map (λ (c : RecordAt × ℕ). c.1)) (sym is ∙ some)))

pub first-active : (areas : List Area) (d : Device) (area : Area) (last : Option (RecordAt × ℕ)) → last ≡ last_choice areas (entries_on d area) → last ≡ None → first_store areas ≡ active_in areas d area
first-active areas d area last is none =
    sym (ap (λ (o : Option ℕ). unwrap_or o (first_store areas)) (chosen-last areas (entries_on d area) ∙ ap (option_map (λ (c : RecordAt × ℕ). c.1)) (sym is ∙ none)))
