-- Emptying a sector of an area.
use Rattle.std.proofs.Common.{◌≡◌, ℕ, ◌+◌, ◌≤◌, Bool, true, false, not, cond, List, [], length, get_or, set, replicate, Some, refl, sym, ap, subst, ◌∙◌, inl, inr, arith}
use Rattle.std.proofs.lemmas.Bool.{not-false}
use Rattle.flash_sim.specs.Device.{Device}
use Rattle.flash_sim.specs.declared.flash.Kind.{Kind}
use Rattle.flash_sim.specs.declared.flash.Kind.TheVariants.{Erasing, Rewritable}
use Rattle.flash_map.specs.declared.area.Area.{Area}
use Rattle.flash_map.specs.Area.{sector_size, sectors_of, sector_bytes, OthersStay}
use Rattle.flash_map.specs.Units.{is_erased}
use Rattle.flash_map.proofs.ErasedBytes.{erased_is}
use Rattle.zms_cycle.specs.Areas.{IsZmsSector}
use Rattle.zms_cycle.specs.declared.entry.ZEntry.{ZEntry}
use Rattle.zms_cycle.specs.Entries.{encoded, empty_entry}
use Rattle.zms_cycle.specs.Sector.{slot_of, cycle_of}
use Rattle.zms_cycle.specs.Changes.{with_slot, guarded, guard_units, StopsGuarding, StopsEmptying, Empties, emptying, next_cycle}
use Rattle.zms_cycle.proofs.AreaFacts.{sector_set, others_set, others_same}
use Rattle.zms_cycle.proofs.GuardUnits.{first_unit, second_unit}
use Rattle.zms_cycle.proofs.Frames.{sound_of, part-same}
use Rattle.zms_cycle.proofs.Marks.{KeepsState, sound-apart, state_same, first_guard, both_guards, empties, blank_slot, empties_blank}

pub same_bytes : (old new : Device) (area : Area) (sector : ℕ) → sectors_of new area ≡ sectors_of old area → sector_bytes new area sector ≡ sector_bytes old area sector
same_bytes old new area sector same = ap (λ (l : List (List ℕ)). get_or l sector []) same

-- By guards, on a bank that is never erased.

-- A cut keeps how the sector reads. Where it is not overfull, its values end at or below its guard slot, and no guard reaches them.
stops : (b new : List ℕ) → KeepsState b new → StopsGuarding b new
stops b new keeps =
    let list = part-same b new keeps.kept (λ roomy. keeps.list (sound-apart b (sound_of b roomy))) in
    record {
      either = inl (record { closed = keeps.kept.closed; gc_done = keeps.kept.gc_done; list = list });
      kept = keeps.kept;
      values = keeps.list;
    }

pub kept_none : (b new : List ℕ) → new ≡ b → StopsGuarding b new
kept_none b new is = stops b new (subst (λ (c : List ℕ). KeepsState b c) (sym is) (state_same b))

pub as_rewritable : (kind : Kind) (cycle slot : ℕ) (b new : List ℕ) → kind ≡ Rewritable → new ≡ guarded kind cycle slot b → new ≡ guarded Rewritable cycle slot b
as_rewritable kind cycle slot b new rewritable is = is ∙ ap (λ (k : Kind). guarded k cycle slot b) rewritable

pub kept_first : (b one new : List ℕ) (cycle : ℕ) → 48 ≤ length b → cycle ≡ next_cycle (cycle_of b) → one ≡ guarded Rewritable cycle 1 b → new ≡ one → StopsGuarding b new
kept_first b one new cycle long of_cycle first is = stops b new (subst (λ (c : List ℕ). KeepsState b c) (sym (is ∙ first ∙ ap (λ (k : ℕ). guarded Rewritable k 1 b) of_cycle)) (first_guard b long))

two_is : (b one two : List ℕ) (cycle : ℕ) → cycle ≡ next_cycle (cycle_of b) → one ≡ guarded Rewritable cycle 1 b → two ≡ guarded Rewritable cycle 2 one → two ≡ guarded Rewritable (next_cycle (cycle_of b)) 2 (guarded Rewritable (next_cycle (cycle_of b)) 1 b)
two_is b one two cycle of_cycle first second =
    second ∙ ap (λ (c : List ℕ). guarded Rewritable cycle 2 c) first ∙ ap (λ (k : ℕ). guarded Rewritable k 2 (guarded Rewritable k 1 b)) of_cycle

pub kept_both : (b one two new : List ℕ) (cycle : ℕ) → 48 ≤ length b → cycle ≡ next_cycle (cycle_of b) → one ≡ guarded Rewritable cycle 1 b → two ≡ guarded Rewritable cycle 2 one → new ≡ two → StopsGuarding b new
kept_both b one two new cycle long of_cycle first second is = stops b new (subst (λ (c : List ℕ). KeepsState b c) (sym (is ∙ two_is b one two cycle of_cycle first second)) (both_guards b long))

entry_bytes : (b : List ℕ) (cycle : ℕ) (entry : ZEntry) (bytes : List ℕ) → cycle ≡ next_cycle (cycle_of b) → entry ≡ empty_entry cycle → bytes ≡ encoded entry → bytes ≡ encoded (empty_entry (next_cycle (cycle_of b)))
entry_bytes b cycle entry bytes of_cycle entry_is bytes_is = bytes_is ∙ ap encoded (entry_is ∙ ap empty_entry of_cycle)

pub emptied : (kind : Kind) (b one two new : List ℕ) (cycle : ℕ) (entry : ZEntry) (bytes : List ℕ) → kind ≡ Rewritable → 64 ≤ length b → cycle ≡ next_cycle (cycle_of b) → one ≡ guarded Rewritable cycle 1 b → two ≡ guarded Rewritable cycle 2 one
    → entry ≡ empty_entry cycle → bytes ≡ encoded entry → new ≡ with_slot two 0 bytes → Empties kind b new
emptied kind b one two new cycle entry bytes rewritable long of_cycle first second entry_is bytes_is is =
    let all = entry_bytes b cycle entry bytes of_cycle entry_is bytes_is in
    subst (λ (k : Kind). Empties k b new) (sym rewritable)
    (subst (λ (c : List ℕ). Empties Rewritable b c) (sym (is ∙ ap (λ (p : List ℕ). with_slot two 0 p) all ∙ ap (λ (c : List ℕ). with_slot c 0 (encoded (empty_entry (next_cycle (cycle_of b))))) (two_is b one two cycle of_cycle first second))) (empties b long))

-- By erasing.

-- the sector is all FF where it was erased if that was due
pub erased_mid : (d mid : Device) (area : Area) (sector : ℕ) (due : Bool) → IsZmsSector d area sector → length (sector_bytes d area sector) ≡ sector_size d area → due ≡ not (is_erased (sector_bytes d area sector))
    → sectors_of mid area ≡ cond due (set (sectors_of d area) sector (replicate (sector_size d area) 255)) (sectors_of d area) → sector_bytes mid area sector ≡ replicate (length (sector_bytes d area sector)) 255
erased_mid d mid area sector true zms size due is = sector_set d mid area sector (replicate (sector_size d area) 255) zms is ∙ ap (λ (n : ℕ). replicate n 255) (sym size)
erased_mid d mid area sector false zms size due is = same_bytes d mid area sector is ∙ erased_is (sector_bytes d area sector) (not-false (is_erased (sector_bytes d area sector)) (sym due))

pub erased_others : (d mid : Device) (area : Area) (sector : ℕ) (due : Bool) → IsZmsSector d area sector → sectors_of mid area ≡ cond due (set (sectors_of d area) sector (replicate (sector_size d area) 255)) (sectors_of d area) → OthersStay d mid area sector
erased_others d mid area sector true zms is = others_set d mid area sector (replicate (sector_size d area) 255) zms is
erased_others d mid area sector false zms is = others_same d mid area sector is

pub blank_can : (b mid : List ℕ) → 48 ≤ length b → mid ≡ replicate (length b) 255 → is_erased (slot_of mid 0).bytes ≡ true
blank_can b mid long is = ap (λ (c : List ℕ). is_erased (slot_of c 0).bytes) is ∙ blank_slot (length b) 0 (omega arith)

pub emptied_blank : (kind : Kind) (b mid new : List ℕ) (cycle : ℕ) (entry : ZEntry) (bytes : List ℕ) → kind ≡ Erasing → 48 ≤ length b → cycle ≡ next_cycle (cycle_of b) → mid ≡ replicate (length b) 255
    → entry ≡ empty_entry cycle → bytes ≡ encoded entry → new ≡ with_slot mid 0 bytes → Empties kind b new
emptied_blank kind b mid new cycle entry bytes erasing long of_cycle blank entry_is bytes_is is =
    let all = entry_bytes b cycle entry bytes of_cycle entry_is bytes_is in
    subst (λ (k : Kind). Empties k b new) (sym erasing)
    (subst (λ (c : List ℕ). Empties Erasing b c) (sym (is ∙ ap (λ (p : List ℕ). with_slot mid 0 p) all ∙ ap (λ (c : List ℕ). with_slot c 0 (encoded (empty_entry (next_cycle (cycle_of b))))) blank)) (empties_blank b long))

-- where it was cut
pub stops_before : (kind : Kind) (b new : List ℕ) → kind ≡ Erasing → new ≡ b → StopsEmptying kind b new
stops_before kind b new erasing same = subst (λ (k : Kind). StopsEmptying k b new) (sym erasing) (inl same)

pub stops_blank : (kind : Kind) (b mid new : List ℕ) → kind ≡ Erasing → mid ≡ replicate (length b) 255 → new ≡ mid → StopsEmptying kind b new
stops_blank kind b mid new erasing blank same = subst (λ (k : Kind). StopsEmptying k b new) (sym erasing) (inr (same ∙ blank))

-- Units.

-- the guards and the empty entry
pub emptying_guards : (kind still : Kind) (b one : List ℕ) (cycle : ℕ) → kind ≡ Rewritable → still ≡ Rewritable → 48 ≤ length b → cycle ≡ next_cycle (cycle_of b) → one ≡ guarded Rewritable cycle 1 b
    → guard_units kind (Some cycle) 1 b + guard_units still (Some cycle) 2 one + 1 ≡ emptying kind b
emptying_guards kind still b one cycle rewritable as_well long of_cycle first =
    let above = first_unit kind b cycle of_cycle ∙ ap (λ (k : Kind). guard_units k (Some (next_cycle (cycle_of b))) 1 b) rewritable in
    let under = ap (λ (k : Kind). guard_units k (Some cycle) 2 one) as_well ∙ second_unit Rewritable b one cycle long of_cycle first in
    let all : emptying kind b ≡ 1 + guard_units Rewritable (Some (next_cycle (cycle_of b))) 1 b + guard_units Rewritable (Some (next_cycle (cycle_of b))) 2 b = ap (λ (k : Kind). emptying k b) rewritable in
    omega arith

erase_unit : (t : Bool) → cond (not t) 1 0 + 1 ≡ cond t 1 2
erase_unit true = refl
erase_unit false = refl

-- an erase where that is due, and the empty entry
pub emptying_erase : (kind : Kind) (b : List ℕ) (due : Bool) → kind ≡ Erasing → due ≡ not (is_erased b) → cond due 1 0 + 1 ≡ emptying kind b
emptying_erase kind b due erasing is = ap (λ (t : Bool). cond t 1 0 + 1) is ∙ erase_unit (is_erased b) ∙ sym (ap (λ (k : Kind). emptying k b) erasing)
