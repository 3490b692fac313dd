-- Closing a sector of an area.
use Rattle.std.proofs.Common.{◌≡◌, ℕ, ◌+◌, ◌-◌, ◌*◌, ◌/◌, ◌^◌, ◌<◌, ◌≤◌, min, true, List, length, take, drop, Some, refl, sym, ap, subst, ◌∙◌, inl, inr, arith, rules}
use Rattle.std.specs.Prelude.{slice_range}
use Rattle.std.proofs.lemmas.Bool.{cases_eq}
use Rattle.std.proofs.lemmas.List.{places, same_lists}
use Rattle.flash_sim.specs.Device.{overwritten}
use Rattle.flash_sim.specs.declared.flash.Kind.{Kind}
use Rattle.flash_sim.specs.declared.flash.Kind.TheVariants.{Erasing, Rewritable}
use Rattle.flash_map.specs.Units.{is_erased}
use Rattle.item_laws.specs.Slots.{Slot}
use Rattle.zms_cycle.specs.declared.entry.ZEntry.{ZEntry}
use Rattle.zms_cycle.specs.Entries.{encoded, fill, close_entry}
use Rattle.zms_cycle.specs.Sector.{slot_of, cycle_of, valid_slots, low, data_end, free, is_sound, can_close}
use Rattle.zms_cycle.specs.Changes.{with_slot, IsFilled, KeepsList, Closes, closing_most}
use Rattle.zms_cycle.proofs.Bytes.{length-fill}
use Rattle.zms_cycle.proofs.Slots16.{slot-put, covers-fill, covers-lower}
use Rattle.zms_cycle.proofs.Frames.{sound-parts, keeps_then, keeps-covered}
use Rattle.zms_cycle.proofs.Marks.{closes}

-- bytes that stand there already
put_again : (b : List ℕ) (at n : ℕ) → at + n ≤ length b → overwritten b at (take n (drop at b)) ≡ b
put_again b at n fits = same_lists _ _ (search (rules, places)) (λ k d h. grind (arith, places))

pub unit_again : (b : List ℕ) (slot start : ℕ) (p : List ℕ) → start ≡ length b - (slot + 1) * 16 → (slot + 1) * 16 ≤ length b → slice_range b start (start + 16) ≡ p → b ≡ with_slot b slot p
unit_again b slot start p at inside is =
    let width : start + 16 - start ≡ 16 = omega arith in
    let there : take 16 (drop start b) ≡ p = ap (λ (n : ℕ). take n (drop start b)) (sym width) ∙ is in
    sym (put_again b start 16 (omega arith)) ∙ ap (λ (xs : List ℕ). overwritten b start xs) there ∙ ap (λ (n : ℕ). overwritten b n p) at

-- one more fill unit under the slots
pub fill_keeps : (a now new : List ℕ) (k : ℕ) → KeepsList Rewritable 0 a now → 16 ≤ low a → length (valid_slots a) + 2 ≤ k → data_end Rewritable a + (k + 1) * 16 ≤ length a → new ≡ with_slot now k fill → KeepsList Rewritable 0 a new
fill_keeps a now new k keeps guard under fits is =
    let long = keeps.kept.long in
    let lower = keeps.kept.lower in
    let end : data_end Rewritable now ≤ data_end Rewritable a + 0 = keeps.end_to in
    let count = ap length keeps.kept.slots in
    subst (λ (c : List ℕ). KeepsList Rewritable 0 a c) (sym is)
    (keeps_then keeps (keeps-covered now (with_slot now k fill) k (omega arith) (omega arith) (omega arith) (omega arith) (covers-fill k now (omega arith))))

-- and the slots above it stay
pub fill_more : (now new : List ℕ) (k from top : ℕ) → from ≡ k + 1 → (k + 1) * 16 ≤ length now → top * 16 ≤ length now → new ≡ with_slot now k fill → IsFilled now from top → IsFilled new k top
fill_more now new k from top next inside fits is filled = λ j low_j below.
    elim (cases_eq j k) [
      | inl here ↦ ap (λ (i : ℕ). (slot_of new i).bytes) here ∙ ap (λ (c : List ℕ). (slot_of c k).bytes) is ∙ slot-put now k fill length-fill inside
      | inr apart ↦
          let covers = covers-fill k now inside in
          ap (λ (c : List ℕ). (slot_of c j).bytes) is ∙ ap (λ (slot : Slot). slot.bytes) (covers-lower k j now (with_slot now k fill) covers (omega (arith, apart)) (omega arith)) ∙ filled j (omega (arith, apart)) below
    ]

pub filled_as : (b : List ℕ) (from end lower upper : ℕ) → IsFilled b from end → from ≤ lower → upper ≤ end → IsFilled b lower upper
filled_as b from end lower upper filled le most = λ k at below. filled k (omega arith) (omega arith)

pub keeps_equal : (kind : Kind) (a now new : List ℕ) → KeepsList kind 0 a now → new ≡ now → KeepsList kind 0 a new
keeps_equal kind a now new keeps is = subst (λ (c : List ℕ). KeepsList kind 0 a c) (sym is) keeps

pub close_ok : (kind : Kind) (a mid new : List ℕ) (cycle place : ℕ) (entry : ZEntry) (bytes : List ℕ) → is_sound a ≡ true → KeepsList kind 0 a mid → cycle_of a ≡ Some cycle → place ≡ low a
    → (kind ≡ Rewritable → IsFilled mid (length (valid_slots a) + 2) ((length a - data_end Rewritable a) / 16)) → entry ≡ close_entry cycle place → bytes ≡ encoded entry → new ≡ with_slot mid 1 bytes → Closes kind a new
close_ok kind a mid new cycle place entry bytes sound keeps of_cycle at filled entry_is bytes_is is =
    subst (λ (c : List ℕ). Closes kind a c) (sym (is ∙ ap (λ (p : List ℕ). with_slot mid 1 p) (bytes_is ∙ ap encoded entry_is)))
    (closes kind a mid cycle place (sound-parts a sound) keeps of_cycle at
    (λ rewritable. subst (λ (k : Kind). IsFilled mid (length (valid_slots a) + 2) ((length a - data_end k a) / 16)) (sym rewritable) (filled rewritable)))

-- slot 1 is erased where the close entry can be put
closable-slot : (b : List ℕ) → can_close Erasing b ≡ true → is_erased (slot_of b 1).bytes ≡ true
unfolding can_close
closable-slot b can = can

-- and still is after steps that kept it
pub still_closable : (kind : Kind) (a mid : List ℕ) → can_close kind a ≡ true → (slot_of mid 1).bytes ≡ (slot_of a 1).bytes → kind ≡ Erasing → is_erased (slot_of mid 1).bytes ≡ true
still_closable kind a mid can same erasing =
    ap (λ (bytes : List ℕ). is_erased bytes) same ∙ closable-slot a (subst (λ (k : Kind). can_close k a ≡ true) erasing can)

-- The numbers of a closing.

-- where its entry points
pub record HasLowest (a : List ℕ) (size n : ℕ) : Type 0 where
  pub slots : (n + 2) * 16 + 16 ≤ size
  pub lowest : size - (n + 2) * 16 ≡ low a

pub lowest_of : (a : List ℕ) (size n : ℕ) → is_sound a ≡ true → length a ≡ size → n ≡ length (valid_slots a) → HasLowest a size n
lowest_of a size n sound long count =
    let parts = sound-parts a sound in
    let guard = parts.guard in
    record { slots = omega arith; lowest = omega arith }

-- which slots are filled
pub record HasNumbers (a : List ℕ) (size n top : ℕ) : Type 0 where
  pub guard : 16 ≤ low a
  pub slots : (n + 2) * 16 + 16 ≤ size
  pub top_fits : 0 < top → data_end Rewritable a + top * 16 ≤ size
  pub few : top - (n + 2) ≤ free Rewritable a / 16
  pub all : (length a - data_end Rewritable a) / 16 ≤ top

numbers-by : (a : List ℕ) (size n end sub top : ℕ) → top ≡ data_end Rewritable a → 16 ≤ low a → length a ≡ size → size ≤ 32768 → n ≡ length (valid_slots a) → end ≡ min top (2 ^ 32 - 1) → sub ≡ size - end → HasNumbers a size n (sub / 16)
numbers-by a size n end sub top here guard long small count at is =
    let room : free Rewritable a ≡ low a - top = ap (λ (k : ℕ). low a - k) (sym here) in
    let most : data_end Rewritable a ≡ top = sym here in
    record { guard = guard; slots = omega arith; top_fits = λ some. omega arith; few = omega arith; all = omega arith }

pub numbers : (kind : Kind) (a : List ℕ) (size n end sub : ℕ) → kind ≡ Rewritable → is_sound a ≡ true → length a ≡ size → size ≤ 32768 → n ≡ length (valid_slots a) → end ≡ min (data_end kind a) (2 ^ 32 - 1) → sub ≡ size - end → HasNumbers a size n (sub / 16)
numbers kind a size n end sub rewritable sound long small count at is =
    let parts = sound-parts a sound in
    let guard = parts.guard in
    let least : end ≡ min (data_end Rewritable a) (2 ^ 32 - 1) = at ∙ ap (λ (k : Kind). min (data_end k a) (2 ^ 32 - 1)) rewritable in
    numbers-by a size n end sub (data_end Rewritable a) refl guard long small count least is

-- Units.

pub fill_few : (kind : Kind) (a : List ℕ) (most : ℕ) → kind ≡ Rewritable → most ≤ free Rewritable a / 16 → most ≤ closing_most kind (free kind a) - 1
fill_few kind a most rewritable few =
    let is : closing_most kind (free kind a) ≡ free Rewritable a / 16 + 1 = ap (λ (k : Kind). closing_most k (free k a)) rewritable in
    omega arith

pub closing_some : (kind : Kind) (room : ℕ) → 1 ≤ closing_most kind room
closing_some Rewritable room = omega arith
closing_some Erasing room = omega arith
