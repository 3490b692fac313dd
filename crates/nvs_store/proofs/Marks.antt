-- What programming a special entry does to a sector, whole or cut.
use Rattle.std.proofs.Common.{◌≡◌, ℕ, zero, suc, ◌+◌, ◌-◌, ◌*◌, ◌/◌, ◌%◌, ◌^◌, ◌<◌, ◌≤◌, max, Bool, true, false, not, ◌&&◌, ◌||◌, cond, eqb, List, [], ◌∷◌, ◌++◌, length, map, get_or, take, drop, replicate, Option, Some, None, refl, sym, ap, subst, ◌∙◌, inl, inr, ◌⊎◌, arith}
use Rattle.std.specs.Prelude.{fold, sum_by, slice_range}
use Rattle.std.specs.List.{filter_map, cons_option, list_any, range_with_len}
use Rattle.std.proofs.lemmas.Bool.{cases_lt, not_from_false, and_left, and_right, ne_eqb, or_right, cases_Bool, and_parts, leb-true}
use Rattle.std.proofs.lemmas.List.{length-take, get_or-take, append-nil, take_at}
use Rattle.std.proofs.lemmas.List.Folds.{list_any-append, list_all_at}
use Rattle.std.proofs.lemmas.List.Edits.{length-between, get_or-between}
use Rattle.std.proofs.lemmas.List.Elements.{filter_map-append}
use Rattle.nvs_store.specs.declared.scan.SlotEntry.{SlotEntry}
use Rattle.flash_map.specs.Units.{IsUnit, padded, is_erased}
use Rattle.item_laws.proofs.SlotLemmas.{start-slot_at}
use Rattle.nvs_store.specs.Geometry.{slot_size}
use Rattle.nvs_store.specs.Entries.{encoded, decoded, entry_of}
use Rattle.flash_sim.specs.Device.{overwritten}
use Rattle.item_laws.specs.Slots.{Slot}
use Rattle.flash_map.specs.Units.{written_end}
use Rattle.nvs_store.specs.Sector.{slot_at, is_used, used_slots, counting_entry, entries, is_gc_done, low, data_end, entry_end, pair_of, KeepsList, special_entry, MarksDone, Closes, counts}
use Rattle.flash_map.proofs.Rounding.{padding, by_unit}
use Rattle.nvs_store.proofs.SlotReads.{slot_widths, slot_at-parts}
use Rattle.std.proofs.Math.Nat.{zero-mod}
use Rattle.item_laws.proofs.SlotChanges.{used_slots-under}
use Rattle.item_laws.proofs.SlotCounts.{slots_to_used}
use Rattle.flash_map.proofs.Sectors.{length-overwritten, overwritten_nil}
use Rattle.flash_map.proofs.Ranges.{get_or_below, range_below, range_at}
use Rattle.nvs_store.proofs.EntryBytes.{cut_entry, decoded_cases, decoded-encoded, counting_entry-is, is_gc_done-is}
use Rattle.flash_map.proofs.WrittenEnds.{erased_above, written_end-le}
use Rattle.nvs_store.proofs.Room.{data_end-above, HasRoom}
use Rattle.nvs_store.proofs.Appends.{put_cut, has_slot_more, new_slot, kept, length-entry_image}
use Rattle.nvs_store.specs.Images.{entry_image, with_mark, with_slot, with_close}

-- ---- written_end does not change where only erased bytes leave it

written_end-aligned : (unit fence : ℕ) (b : List ℕ) → IsUnit unit → written_end unit fence b % unit ≡ 0
unfolding written_end
written_end-aligned unit fence b h = (padding unit h).aligned _

written_end-same : (unit fence lower : ℕ) (old new : List ℕ) → IsUnit unit → fence ≤ length old → lower ≤ length new → lower ≤ fence
    → ((k : ℕ) → k < lower → get_or new k 0 ≡ get_or old k 0) → ((k : ℕ) → lower ≤ k → k < fence → get_or old k 0 ≡ 255) → written_end unit lower new ≡ written_end unit fence old
written_end-same unit fence lower old new h inside inside-new le same erased =
    let one : written_end unit lower new ≤ written_end unit fence old =
    written_end-le unit lower new (written_end unit fence old) h (written_end-aligned unit fence old h) inside-new
    (λ k from below. same k below ∙ erased_above unit fence old (written_end unit fence old) h inside (omega arith) k from (omega arith)) in
    let other : written_end unit fence old ≤ written_end unit lower new =
    written_end-le unit fence old (written_end unit lower new) h (written_end-aligned unit lower new h) inside
    (λ k from below. elim (cases_lt k lower) [
      | inl lt ↦ sym (same k lt) ∙ erased_above unit lower new (written_end unit lower new) h inside-new (omega arith) k from lt
      | inr ge ↦ erased k ge below
    ]) in
    omega arith

-- a special entry in its slot
special-bytes : (place : ℕ) → encoded (special_entry place) ≡ 255 ∷ 255 ∷ place % 256 ∷ place / 256 % 256 ∷ drop 4 (encoded (special_entry place))
unfolding encoded
special-bytes place = refl

pub is_used-place : (slot : Slot) (place : ℕ) (tail : List ℕ) → place < 65280 → slot.bytes ≡ 255 ∷ 255 ∷ place % 256 ∷ place / 256 % 256 ∷ tail → is_used slot ≡ true
is_used-place slot place tail small is =
    let not_erased : (eqb (place % 256) 255 && (eqb (place / 256 % 256) 255 && is_erased tail)) ≡ false =
    and_right (eqb (place % 256) 255) (eqb (place / 256 % 256) 255 && is_erased tail) (and_left (eqb (place / 256 % 256) 255) (is_erased tail) (ne_eqb (place / 256 % 256) 255 (λ z. omega (arith, z)))) in
    ap (λ (b : List ℕ). not (is_erased b)) is ∙ not_from_false _ not_erased

pub is_used-special : (slot : Slot) (place : ℕ) (rest : List ℕ) → place < 65280 → slot.bytes ≡ encoded (special_entry place) ++ rest → is_used slot ≡ true
is_used-special slot place rest small is = is_used-place slot place (drop 4 (encoded (special_entry place)) ++ rest) small (is ∙ ap (λ (b : List ℕ). b ++ rest) (special-bytes place))

cut-special : (place : ℕ) → cut_entry (special_entry place) ≡ 255 ∷ 255 ∷ place % 256 ∷ place / 256 % 256 ∷ 255 ∷ 255 ∷ 255 ∷ 255 ∷ []
unfolding encoded
cut-special place = refl

special_entry-read : (unit : ℕ) (slot : Slot) (place : ℕ) (rest : List ℕ) → place < 2 ^ 16 → slot.bytes ≡ encoded (special_entry place) ++ rest → (counting_entry unit slot ≡ None) × (is_gc_done slot ≡ true)
special_entry-read unit slot place rest small is =
    let e = special_entry place in
    let read : decoded slot.bytes ≡ Some e = ap decoded is ∙ decoded-encoded e rest (record { id = omega arith; offset = small; len = omega arith }) in
    (counting_entry-is unit slot (Some e) read, is_gc_done-is slot (Some e) read)

data_end-by : (unit : ℕ) (old new : List ℕ) → written_end unit (low unit new - slot_size unit) new ≡ written_end unit (low unit old - slot_size unit) old → entries unit new ≡ entries unit old → data_end unit new ≡ data_end unit old
unfolding data_end
data_end-by unit old new written same =
    ap (λ (x : ℕ). max x (max (fold max 0 (map (entry_end unit) (entries unit new))) (sum_by (λ f. padded unit f.entry.len) (entries unit new)))) written
    ∙ ap (λ (fs : List SlotEntry). max (written_end unit (low unit old - slot_size unit) old) (max (fold max 0 (map (entry_end unit) fs)) (sum_by (λ f. padded unit f.entry.len) fs))) same

-- gc-done in the next slot
pub put_done : (unit : ℕ) (b : List ℕ) → HasRoom unit b 0 → MarksDone unit b (with_mark unit b (entry_image unit (special_entry (data_end unit b))))
put_done unit b h =
    let pad = padding unit h.is_unit in
    let widths = slot_widths unit h.is_unit in
    let room = h.room in
    let short = h.short in
    let place = data_end unit b in
    let image = entry_image unit (special_entry (data_end unit b)) in
    let none : 0 ≡ padded unit 0 = let least = pad.least 0 0 (omega arith) (zero-mod unit) in omega arith in
    let upper-long = length-entry_image unit (special_entry (data_end unit b)) h.is_unit in
    let new = with_slot unit b [] image in
    let slot = slot_at unit new (length (used_slots unit b) + 1) in
    let at = new_slot unit b 0 [] image h none (omega arith) in
    let slot-bytes : slot.bytes ≡ image = at.1 ∙ take_at image _ (slot_size unit) upper-long in
    let rest = replicate {A = ℕ} (slot_size unit - 8) 0xFF in
    let more = has_slot_more unit b 0 [] image h none (omega arith) (is_used-special slot (data_end unit b) rest (omega arith) slot-bytes) in
    let read = special_entry-read unit slot (data_end unit b) rest (omega arith) slot-bytes in
    let found : entries unit new ≡ entries unit b =
    ap (filter_map (counting_entry unit)) more.slots ∙ filter_map-append (counting_entry unit) (used_slots unit b) (slot ∷ [])
    ∙ ap (λ (o : Option SlotEntry). entries unit b ++ cons_option o []) read.0 ∙ append-nil (entries unit b) in
    let lower = more.lower in
    let long = more.long in
    let mid : overwritten b (data_end unit b) [] ≡ b = overwritten_nil b (data_end unit b) in
    let mid-long : length (overwritten b (data_end unit b) []) ≡ length b = ap length mid in
    let written : written_end unit (low unit new - slot_size unit) new ≡ written_end unit (low unit b - slot_size unit) b =
    written_end-same unit (low unit b - slot_size unit) (low unit new - slot_size unit) b new h.is_unit (omega arith) (omega arith) (omega arith)
    (λ k lt. get_or_below (overwritten b (data_end unit b) []) (low unit b - slot_size unit) image k (omega arith) (omega arith) ∙ ap (λ (xs : List ℕ). get_or xs k 0) mid)
    (λ k le lt. erased_above unit (low unit b - slot_size unit) b (data_end unit b) h.is_unit (omega arith) ((data_end-above unit b).written) k (omega arith) lt) in
    let marks : MarksDone unit b new = record {
      list = ap (map (pair_of new)) found ∙ kept unit (data_end unit b) b new h.is_unit refl more.below;
      gc_done = ap (list_any is_gc_done) more.slots ∙ list_any-append is_gc_done (used_slots unit b) (slot ∷ []) ∙ ap (λ (t : Bool). list_any is_gc_done (used_slots unit b) || (t || false)) read.1 ∙ or_right _ _ refl;
      closed = more.closed;
      long = more.long;
      lower = more.lower;
      same_entries = found;
      same_end = data_end-by unit b new written found;
    } in
    subst (λ (xs : List ℕ). MarksDone unit b (overwritten xs (low unit b - slot_size unit) image)) mid marks

-- the first half of gc-done, where the unit is 4
pub put_cut_done : (b : List ℕ) → HasRoom 4 b 0 → KeepsList 4 b (with_mark 4 b (take 4 (encoded (special_entry (data_end 4 b)))))
put_cut_done b h =
    let pad = padding 4 h.is_unit in
    let widths = slot_widths 4 h.is_unit in
    let room = h.room in
    let short = h.short in
    let none : 0 ≡ padded 4 0 = let least = pad.least 0 0 (omega arith) refl in omega arith in
    let half = take 4 (encoded (special_entry (data_end 4 b))) in
    subst (λ (xs : List ℕ). KeepsList 4 b (overwritten xs (low 4 b - slot_size 4) half)) (overwritten_nil b (data_end 4 b))
    ((put_cut b (special_entry (data_end 4 b)) 0 [] h none (λ slot is. is_used-place slot (data_end 4 b) (255 ∷ 255 ∷ 255 ∷ 255 ∷ []) (omega arith) (is ∙ cut-special (data_end 4 b)))).0)

-- ---- the close entry, in slot 0

abbrev pub entries_from : ℕ → List ℕ → ℕ → ℕ → List SlotEntry
entries_from unit b a n = filter_map (counting_entry unit) (map (slot_at unit b) (range_with_len a n))

-- a slot's entry, where there is one that counts
pub counting_entry_counts : (unit : ℕ) (slot : Slot) → (counting_entry unit slot ≡ None) ⊎ ((f : SlotEntry) × (counting_entry unit slot ≡ Some f) × (counts unit slot.start f.entry ≡ true) × (f.slot ≡ slot.index))
counting_entry_counts unit slot =
    elim (decoded_cases slot.bytes) [
      | inl none ↦ inl (counting_entry-is unit slot None none)
      | inr some ↦
          let read = counting_entry-is unit slot (Some (entry_of slot.bytes)) some in
          elim (cases_Bool (counts unit slot.start (entry_of slot.bytes))) [
            | inl counted ↦
                inr (record { slot = slot.index; entry = entry_of slot.bytes }, read ∙ ap (λ (b : Bool). cond b (Some (record { slot = slot.index; entry = entry_of slot.bytes })) None) counted, counted, refl)
            | inr passed ↦ inl (read ∙ ap (λ (b : Bool). cond b (Some (record { slot = slot.index; entry = entry_of slot.bytes })) None) passed)
          ]
    ]

-- its data ends under its own slot
pub counting_entry_under : (unit : ℕ) (slot : Slot) → (counting_entry unit slot ≡ None) ⊎ ((f : SlotEntry) × (counting_entry unit slot ≡ Some f) × (f.entry.offset + f.entry.len ≤ slot.start))
counting_entry_under unit slot =
    elim (counting_entry_counts unit slot) [
      | inl none ↦ inl none
      | inr (f, some, counted, at) ↦ inr (f, some, leb-true _ _ ((and_parts _ _ counted).1))
    ]

pairs_kept_under : (unit : ℕ) (old new : List ℕ) → ((i j : ℕ) → j ≤ length old - slot_size unit → slice_range new i j ≡ slice_range old i j) → (a n : ℕ)
    → map (pair_of new) (entries_from unit old a n) ≡ map (pair_of old) (entries_from unit old a n)
pairs_kept_under unit old new same a zero = refl
pairs_kept_under unit old new same a (suc n) =
    let rest = pairs_kept_under unit old new same (a + 1) n in
    let start = start-slot_at (slot_size unit) old a in
    elim (counting_entry_under unit (slot_at unit old a)) [
      | inl none ↦ rw none rest
      | inr (f, some, under) ↦
          rw some (ap (λ (bytes : List ℕ). (f.entry.id, bytes) ∷ map (pair_of new) (entries_from unit old (a + 1) n)) (same f.entry.offset (f.entry.offset + f.entry.len) (omega arith))
          ∙ ap (λ ps. pair_of old f ∷ ps) rest)
    ]

-- Any bytes of slot 0 leave the list, and close the sector where they are not all FF.
pub put_close : (unit : ℕ) (b upper : List ℕ) → IsUnit unit → slot_size unit ≤ length b → length upper ≤ slot_size unit → is_used (slot_at unit (with_close unit b upper) 0) ≡ true → Closes unit b (with_close unit b upper)
put_close unit b upper is-unit inside short used =
    let pad = padding unit is-unit in
    let widths = slot_widths unit is-unit in
    let new = with_close unit b upper in
    let long : length new ≡ length b = length-overwritten b (length b - slot_size unit) upper (omega arith) in
    let below : (i j : ℕ) → j ≤ length b - slot_size unit → slice_range new i j ≡ slice_range b i j = λ i j le. range_below b (length b - slot_size unit) upper i j (omega arith) le in
    let same : used_slots unit new ≡ used_slots unit b = used_slots-under is_used 1 (slot_size unit) b new (omega arith) long (λ i j le. below i j (omega arith)) in
    let to = slots_to_used is_used 1 (slot_size unit) b (length (used_slots unit b)) refl in
    record {
      list = ap (λ (xs : List Slot). map (pair_of new) (filter_map (counting_entry unit) xs)) (same ∙ sym to)
          ∙ pairs_kept_under unit b new below 1 (length (used_slots unit b)) ∙ ap (λ (xs : List Slot). map (pair_of b) (filter_map (counting_entry unit) xs)) to;
      gc_done = ap (list_any is_gc_done) same;
      closed = used;
      long = long;
      same_slots = same;
    }

four_bytes : (unit : ℕ) → IsUnit unit → (units : ℕ) → 0 < units → 4 ≤ units * unit
four_bytes = by_unit (λ unit. (units : ℕ) → 0 < units → 4 ≤ units * unit) (λ units positive. omega arith) (λ units positive. omega arith) (λ units positive. omega arith)

fourth_byte : (place : ℕ) (rest : List ℕ) → get_or (encoded (special_entry place) ++ rest) 3 0 ≡ place / 256 % 256
unfolding encoded
fourth_byte place rest = refl

-- some units of the close entry
pub put_close_units : (unit place : ℕ) (b : List ℕ) (units : ℕ) → IsUnit unit → slot_size unit ≤ length b → place < 65280 → 0 < units
    → Closes unit b (with_close unit b (take (units * unit) (entry_image unit (special_entry place))))
put_close_units unit place b units is-unit inside small positive =
    let pad = padding unit is-unit in
    let widths = slot_widths unit is-unit in
    let image = entry_image unit (special_entry place) in
    let upper = take (units * unit) (entry_image unit (special_entry place)) in
    let new = with_close unit b upper in
    let image-long = length-entry_image unit (special_entry place) is-unit in
    let four : 4 ≤ units * unit = four_bytes unit is-unit units positive in
    let upper-long = length-take (units * unit) image in
    let long : length new ≡ length b = length-overwritten b (length b - slot_size unit) upper (omega arith) in
    let parts = slot_at-parts unit new 0 in
    let start : length new - (0 + 1) * slot_size unit ≡ length b - slot_size unit = omega (arith, long) in
    let bytes : (slot_at unit new 0).bytes ≡ slice_range new (length b - slot_size unit) (length b - slot_size unit + slot_size unit) =
    parts.1 ∙ ap (λ (m : ℕ). slice_range new m (m + slot_size unit)) start in
    let prefix : slice_range new (length b - slot_size unit) (length b - slot_size unit + length upper) ≡ take (length upper) upper = range_at b (length b - slot_size unit) upper (length upper) (omega arith) (omega arith) in
    let fourth : get_or (slice_range new (length b - slot_size unit) (length b - slot_size unit + slot_size unit)) 3 0 ≡ place / 256 % 256 =
    get_or-between new (length b - slot_size unit) (length b - slot_size unit + slot_size unit) 3 0 (omega arith)
    ∙ sym (get_or-between new (length b - slot_size unit) (length b - slot_size unit + length upper) 3 0 (omega arith))
    ∙ ap (λ (xs : List ℕ). get_or xs 3 0) prefix ∙ get_or-take (length upper) upper 3 0 (omega arith) ∙ get_or-take (units * unit) image 3 0 (omega arith)
    ∙ fourth_byte place (replicate (slot_size unit - 8) 0xFF) in
    let slot-long : length (slice_range new (length b - slot_size unit) (length b - slot_size unit + slot_size unit)) ≡ length b - slot_size unit + slot_size unit - (length b - slot_size unit) = length-between new _ _ (omega (arith, long)) in
    let not_erased : is_erased (slice_range new (length b - slot_size unit) (length b - slot_size unit + slot_size unit)) ≡ false =
    list_all_at (λ byte. eqb byte 255) (slice_range new (length b - slot_size unit) (length b - slot_size unit + slot_size unit)) 3 0 (omega arith) (ne_eqb (get_or (slice_range new (length b - slot_size unit) (length b - slot_size unit + slot_size unit)) 3 0) 255 (λ z. let other = sym fourth ∙ z in omega (arith, other))) in
    put_close unit b upper is-unit inside (omega arith) (ap (λ (xs : List ℕ). not (is_erased xs)) bytes ∙ not_from_false _ not_erased)
