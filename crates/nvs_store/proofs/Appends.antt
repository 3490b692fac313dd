-- What programming data and an entry does to a sector's list.
use Rattle.std.proofs.Common.{◌≡◌, ℕ, ◌+◌, ◌-◌, ◌*◌, ◌%◌, ◌<◌, ◌≤◌, max, true, false, not, List, [], ◌∷◌, ◌++◌, length, map, get_or, take, drop, replicate, Option, Some, refl, sym, ap, ◌∙◌, inl, inr, arith}
use Rattle.std.specs.Prelude.{fold, slice_range}
use Rattle.std.specs.List.{filter_map, cons_option, list_any}
use Rattle.std.proofs.lemmas.Bool.{cases_lt, not_from_true, not-false}
use Rattle.std.proofs.lemmas.List.{length-take-le, length-append, length-drop, length-replicate, append-nil, map_push, take_at, ext_get_or, get_or-take, get_or-drop, get_or-replicate}
use Rattle.std.proofs.lemmas.List.Elements.{filter_map-append}
use Rattle.nvs_store.specs.declared.entry.Entry.{Entry}
use Rattle.nvs_store.specs.declared.scan.SlotEntry.{SlotEntry}
use Rattle.flash_map.specs.Units.{IsUnit, padded, is_erased}
use Rattle.nvs_store.specs.Geometry.{slot_size}
use Rattle.nvs_store.specs.Entries.{encoded}
use Rattle.flash_sim.specs.Device.{overwritten}
use Rattle.item_laws.specs.Slots.{Slot}
use Rattle.flash_map.specs.Units.{written_end}
use Rattle.nvs_store.specs.Sector.{slot_at, is_used, used_slots, counting_entry, entries, is_gc_done, is_closed, low, data_end, entry_end, pair_of, pairs, KeepsList, AddsPair, counts}
use Rattle.flash_map.proofs.Rounding.{IsPadding, padding}
use Rattle.item_laws.proofs.SlotChanges.{SameFrom, slot_at-from, used_slots-kept, used_slots-more}
use Rattle.item_laws.proofs.SlotCosts.{fold_max-ge}
use Rattle.item_laws.proofs.SlotLemmas.{HasFence, HasFence-from_low, index-slot_at, slot_within}
use Rattle.item_laws.proofs.SlotWalks.{any_push}
use Rattle.nvs_store.proofs.SlotReads.{slot_widths, slot_at-parts}
use Rattle.flash_map.proofs.Sectors.{length-overwritten}
use Rattle.flash_map.proofs.Ranges.{range_above, range_below, range_at, drop_at_put, get_or_above, get_or_below}
use Rattle.nvs_store.proofs.EntryBytes.{IsEntry, length-encoded, cut_entry, counting_entry-cut, is_gc_done-cut, is_used-encoded, is_used-cut, length-cut, take-cut, counts-ordinary, counting_entry-encoded, is_gc_done-encoded}
use Rattle.flash_map.proofs.WrittenEnds.{erased_above, written_end-le, erased_range, erased_from_range}
use Rattle.nvs_store.proofs.Room.{data_end-aligned, data_end-above, data_end-grown, data_end-bounded, used_kept, HasRoom, IsNext}
use Rattle.nvs_store.specs.Images.{data_image, entry_image, with_slot}

-- ---- pairs whose data stays

pub pairs_kept : (unit limit : ℕ) (old new : List ℕ) → ((i j : ℕ) → j ≤ limit → slice_range new i j ≡ slice_range old i j) → (pad : IsPadding unit) → (fs : List SlotEntry) (a : ℕ) → fold max a (map (entry_end unit) fs) ≤ limit
    → map (pair_of new) fs ≡ map (pair_of old) fs
pairs_kept unit limit old new same pad [] a le = refl
pairs_kept unit limit old new same pad (f ∷ fs) a le =
    let least = fold_max-ge (max a (entry_end unit f)) (map (entry_end unit) fs) in
    let rounded = pad.no_less f.entry.len in
    ap (λ (bytes : List ℕ). (f.entry.id, bytes) ∷ map (pair_of new) fs) (same f.entry.offset (f.entry.offset + f.entry.len) (omega arith))
    ∙ ap (λ ps. pair_of old f ∷ ps) (pairs_kept unit limit old new same pad fs (max a (entry_end unit f)) le)

-- ---- a whole or a partial write of data

-- the fence, by the room above the data
pub fence_of : (unit : ℕ) (b : List ℕ) (len : ℕ) → HasRoom unit b len → HasFence is_used 1 (slot_size unit) b (length (used_slots unit b))
fence_of unit b len h = let pad = padding unit h.is_unit in let widths = slot_widths unit h.is_unit in HasFence-from_low is_used 1 (slot_size unit) b (omega arith) (omega arith)

pub kept : (unit limit : ℕ) (old new : List ℕ) → IsUnit unit → limit ≡ data_end unit old → ((i j : ℕ) → j ≤ limit → slice_range new i j ≡ slice_range old i j) → map (pair_of new) (entries unit old) ≡ pairs unit old
kept unit limit old new is-unit is same = pairs_kept unit limit old new same (padding unit is-unit) (entries unit old) 0 (let above = data_end-above unit old in omega arith)

pub put_data : (unit : ℕ) (b : List ℕ) (len : ℕ) (p : List ℕ) → HasRoom unit b len → length p ≤ padded unit len
    → KeepsList unit b (overwritten b (data_end unit b) p) × (low unit (overwritten b (data_end unit b) p) ≡ low unit b) × (data_end unit (overwritten b (data_end unit b) p) ≤ data_end unit b + padded unit len)
put_data unit b len p h short =
    let new = overwritten b (data_end unit b) p in
    let pad = padding unit h.is_unit in
    let widths = slot_widths unit h.is_unit in
    let room = h.room in
    let n = length (used_slots unit b) in
    let fits : data_end unit b + length p + (length (used_slots unit b) + 2) * slot_size unit ≤ length b = omega arith in
    let inside : data_end unit b + length p ≤ length b = omega arith in
    let same : SameFrom (data_end unit b + length p) b (overwritten b (data_end unit b) p) =
    record { long = length-overwritten b (data_end unit b) p inside; bytes = λ i j le. range_above b (data_end unit b) p i j inside le } in
    let fence = fence_of unit b len h in
    let stop : is_used (slot_at unit (overwritten b (data_end unit b) p) (length (used_slots unit b) + 1)) ≡ false =
    ap is_used (slot_at-from (slot_size unit) (data_end unit b + length p) b (overwritten b (data_end unit b) p) same (length (used_slots unit b) + 1) (omega arith)) ∙ fence.fence in
    let used : used_slots unit (overwritten b (data_end unit b) p) ≡ used_slots unit b =
    used_slots-kept is_used 1 (slot_size unit) (data_end unit b + length p) b (overwritten b (data_end unit b) p) (length (used_slots unit b)) (omega arith) same fence (omega arith) stop in
    let least = slot_within (slot_size unit) 0 (length (used_slots unit b)) (omega arith) in
    let lowest : low unit (overwritten b (data_end unit b) p) ≡ low unit b =
    ap (λ (slots : List Slot). length (overwritten b (data_end unit b) p) - (length slots + 1) * slot_size unit) used ∙ ap (λ (k : ℕ). k - (length (used_slots unit b) + 1) * slot_size unit) same.long in (
      record {
        list = ap (λ (slots : List Slot). map (pair_of (overwritten b (data_end unit b) p)) (filter_map (counting_entry unit) slots)) used
            ∙ kept unit (data_end unit b) b (overwritten b (data_end unit b) p) h.is_unit refl (λ i j le. range_below b (data_end unit b) p i j (omega arith) le);
        gc_done = ap (list_any is_gc_done) used;
        closed = ap is_used (slot_at-from (slot_size unit) (data_end unit b + length p) b (overwritten b (data_end unit b) p) same 0 (omega arith));
        long = same.long;
        same_entries = ap (filter_map (counting_entry unit)) used;
        lower = omega (arith, lowest);
        used = used_kept b (overwritten b (data_end unit b) p) (data_end unit b) (data_end unit b + length p) same.long
            (λ k lt. get_or_below b (data_end unit b) p k (omega arith) lt) (λ k le. get_or_above b (data_end unit b) p k inside le)
            (λ k from to. erased_above unit (low unit b - slot_size unit) b (data_end unit b) h.is_unit (omega arith) ((data_end-above unit b).written) k from (omega arith));
      },
      lowest,
      data_end-bounded unit b new (data_end unit b + padded unit len) (ap (filter_map (counting_entry unit)) used) (omega arith)
          (written_end-le unit (low unit new - slot_size unit) new (data_end unit b + padded unit len) h.is_unit
          (pad.sum_aligned (data_end unit b) (padded unit len) (data_end-aligned unit b h.is_unit) (pad.aligned len)) (omega (arith, same.long))
          (λ k from below. get_or_above b (data_end unit b) p k inside (omega arith)
          ∙ erased_above unit (low unit b - slot_size unit) b (data_end unit b) h.is_unit (omega arith) ((data_end-above unit b).written) k (omega arith) (omega arith))),
    )

-- ---- data, and then bytes in the slot of the fence

-- The sector has one slot more, and reads as before elsewhere.
pub record HasSlotMore (unit : ℕ) (old new : List ℕ) (limit : ℕ) : Type 0 where
  pub slots : used_slots unit new ≡ used_slots unit old ++ slot_at unit new (length (used_slots unit old) + 1) ∷ []
  pub lower : low unit new + slot_size unit ≡ low unit old
  pub closed : is_closed unit new ≡ is_closed unit old
  pub long : length new ≡ length old
  pub below : (i j : ℕ) → j ≤ data_end unit old → slice_range new i j ≡ slice_range old i j
  pub erased : (k : ℕ) → limit ≤ k → k < low unit old - 2 * slot_size unit → get_or new k 0 ≡ 255

pub has_slot_more : (unit : ℕ) (b : List ℕ) (len : ℕ) (lower upper : List ℕ) → HasRoom unit b len → length lower ≡ padded unit len → length upper ≤ slot_size unit
    → is_used (slot_at unit (with_slot unit b lower upper) (length (used_slots unit b) + 1)) ≡ true → HasSlotMore unit b (with_slot unit b lower upper) (data_end unit b + padded unit len)
has_slot_more unit b len lower upper h is-lower is-upper used =
    let d = data_end unit b in
    let pad = padding unit h.is_unit in
    let widths = slot_widths unit h.is_unit in
    let room = h.room in
    let old = fence_of unit b len h in
    let n = length (used_slots unit b) in
    let at = low unit b - slot_size unit in
    let mid = overwritten b (data_end unit b) lower in
    let new = with_slot unit b lower upper in
    let inside : data_end unit b + length lower ≤ length b = omega arith in
    let long-mid : length (overwritten b (data_end unit b) lower) ≡ length b = length-overwritten b (data_end unit b) lower inside in
    let inside-mid : low unit b - slot_size unit + length upper ≤ length (overwritten b (data_end unit b) lower) = omega arith in
    let long : length (with_slot unit b lower upper) ≡ length b = length-overwritten (overwritten b (data_end unit b) lower) (low unit b - slot_size unit) upper inside-mid ∙ long-mid in
    let same : SameFrom (low unit b - slot_size unit + length upper) b (with_slot unit b lower upper) = record {
      long = long;
      bytes = λ i j le. range_above (overwritten b (data_end unit b) lower) (low unit b - slot_size unit) upper i j inside-mid le ∙ range_above b (data_end unit b) lower i j inside (omega arith);
    } in
    let erased : (k : ℕ) → data_end unit b ≤ k → k < low unit b - slot_size unit → get_or b k 0 ≡ 255 =
    erased_above unit (low unit b - slot_size unit) b (data_end unit b) h.is_unit (omega arith) ((data_end-above unit b).written) in
    let next-start : length b - (length (used_slots unit b) + 1 + 1 + 1) * slot_size unit ≡ low unit b - 2 * slot_size unit = omega arith in
    let next-end : low unit b - 2 * slot_size unit + slot_size unit ≡ low unit b - slot_size unit = omega arith in
    let next : slice_range (with_slot unit b lower upper) (low unit b - 2 * slot_size unit) (low unit b - slot_size unit) ≡ slice_range b (low unit b - 2 * slot_size unit) (low unit b - slot_size unit) =
    range_below (overwritten b (data_end unit b) lower) (low unit b - slot_size unit) upper (low unit b - 2 * slot_size unit) (low unit b - slot_size unit) (omega arith) (omega arith)
    ∙ range_above b (data_end unit b) lower (low unit b - 2 * slot_size unit) (low unit b - slot_size unit) inside (omega arith) in
    let next-bytes : (slot_at unit (with_slot unit b lower upper) (length (used_slots unit b) + 1 + 1)).bytes ≡ slice_range b (low unit b - 2 * slot_size unit) (low unit b - slot_size unit) =
    (slot_at-parts unit (with_slot unit b lower upper) (length (used_slots unit b) + 1 + 1)).1
    ∙ ap (λ (m : ℕ). slice_range (with_slot unit b lower upper) (m - (length (used_slots unit b) + 1 + 1 + 1) * slot_size unit) (m - (length (used_slots unit b) + 1 + 1 + 1) * slot_size unit + slot_size unit)) long
    ∙ ap (λ (m : ℕ). slice_range (with_slot unit b lower upper) m (m + slot_size unit)) next-start
    ∙ ap (λ (m : ℕ). slice_range (with_slot unit b lower upper) (low unit b - 2 * slot_size unit) m) next-end ∙ next in
    let next-erased : is_used (slot_at unit (with_slot unit b lower upper) (length (used_slots unit b) + 1 + 1)) ≡ false =
    ap (λ (bytes : List ℕ). not (is_erased bytes)) next-bytes
    ∙ not_from_true _ (erased_range b (low unit b - 2 * slot_size unit) (low unit b - slot_size unit) (omega arith) (λ k le lt. erased k (omega arith) lt)) in
    let slots : used_slots unit (with_slot unit b lower upper) ≡ used_slots unit b ++ slot_at unit (with_slot unit b lower upper) (length (used_slots unit b) + 1) ∷ [] =
    used_slots-more is_used 1 (slot_size unit) (low unit b - slot_size unit + length upper) b (with_slot unit b lower upper) (length (used_slots unit b)) (omega arith) same old (omega arith) used next-erased (omega arith) in
    let least = slot_within (slot_size unit) 0 (length (used_slots unit b)) (omega arith) in
    let count : length (used_slots unit (with_slot unit b lower upper)) ≡ length (used_slots unit b) + 1 =
    ap length slots ∙ length-append (used_slots unit b) (slot_at unit (with_slot unit b lower upper) (length (used_slots unit b) + 1) ∷ []) in
    let lowered : low unit (with_slot unit b lower upper) ≡ length b - (length (used_slots unit b) + 1 + 1) * slot_size unit =
    ap (λ (m : ℕ). m - (length (used_slots unit (with_slot unit b lower upper)) + 1) * slot_size unit) long ∙ ap (λ (m : ℕ). length b - (m + 1) * slot_size unit) count in
    record {
      slots = slots;
      lower = omega (arith, lowered);
      closed = ap is_used (slot_at-from (slot_size unit) (low unit b - slot_size unit + length upper) b (with_slot unit b lower upper) same 0 (omega arith));
      long = long;
      below = λ i j le. range_below (overwritten b (data_end unit b) lower) (low unit b - slot_size unit) upper i j (omega arith) (omega arith) ∙ range_below b (data_end unit b) lower i j (omega arith) le;
      erased = λ k le lt. get_or_below (overwritten b (data_end unit b) lower) (low unit b - slot_size unit) upper k (omega arith) (omega arith) ∙ get_or_above b (data_end unit b) lower k inside (omega arith) ∙ erased k (omega arith) (omega arith);
    }

-- what the new slot holds
slot_bytes : (unit : ℕ) (b : List ℕ) (lower upper : List ℕ) (n : ℕ) → length (with_slot unit b lower upper) ≡ length b → 2 * slot_size unit ≤ length b - (n + 1) * slot_size unit → low unit b ≡ length b - (n + 1) * slot_size unit
    → ((slot_at unit (with_slot unit b lower upper) (n + 1)).start ≡ low unit b - slot_size unit)
    × ((slot_at unit (with_slot unit b lower upper) (n + 1)).bytes ≡ slice_range (with_slot unit b lower upper) (low unit b - slot_size unit) (low unit b - slot_size unit + slot_size unit))
slot_bytes unit b lower upper n long room is =
    let parts = slot_at-parts unit (with_slot unit b lower upper) (n + 1) in
    let start : length (with_slot unit b lower upper) - (n + 1 + 1) * slot_size unit ≡ low unit b - slot_size unit = ap (λ (m : ℕ). m - (n + 1 + 1) * slot_size unit) long ∙ omega arith in
    (parts.0 ∙ start, parts.1 ∙ ap (λ (m : ℕ). slice_range (with_slot unit b lower upper) m (m + slot_size unit)) start)

length-data_image : (unit : ℕ) (bytes : List ℕ) → IsUnit unit → length (data_image unit bytes) ≡ padded unit (length bytes)
length-data_image unit bytes is-unit =
    let pad = (padding unit is-unit).no_less (length bytes) in
    omega (arith, length-append bytes (replicate (padded unit (length bytes) - length bytes) 0xFF), length-replicate {A = ℕ} (padded unit (length bytes) - length bytes) 0xFF)

pub length-entry_image : (unit : ℕ) (e : Entry) → IsUnit unit → length (entry_image unit e) ≡ slot_size unit
length-entry_image unit e is-unit =
    let pad = padding unit is-unit in
    let widths = slot_widths unit is-unit in
    omega (arith, length-append (encoded e) (replicate (slot_size unit - 8) 0xFF), length-replicate {A = ℕ} (slot_size unit - 8) 0xFF, length-encoded e)

is_entry : (unit : ℕ) (b : List ℕ) (e : Entry) (bytes : List ℕ) → HasRoom unit b (length bytes) → IsNext unit b e bytes → IsEntry e
is_entry unit b e bytes h next =
    let pad = (padding unit h.is_unit).no_less (length bytes) in
    let room = h.room in
    let short = h.short in
    record { id = omega (arith, next.ordinary); offset = omega (arith, next.place); len = omega (arith, next.long) }

long_with_slot : (unit : ℕ) (b : List ℕ) (len : ℕ) (lower upper : List ℕ) → HasRoom unit b len → length lower ≡ padded unit len → length upper ≤ slot_size unit → length (with_slot unit b lower upper) ≡ length b
long_with_slot unit b len lower upper h is-lower is-upper =
    let room = h.room in
    let pad = padding unit h.is_unit in
    let widths = slot_widths unit h.is_unit in
    let long-mid : length (overwritten b (data_end unit b) lower) ≡ length b = length-overwritten b (data_end unit b) lower (omega arith) in
    length-overwritten (overwritten b (data_end unit b) lower) (low unit b - slot_size unit) upper (omega arith) ∙ long-mid

-- the new slot, whose bytes begin with what was put
pub new_slot : (unit : ℕ) (b : List ℕ) (len : ℕ) (lower upper : List ℕ) → HasRoom unit b len → length lower ≡ padded unit len → length upper ≤ slot_size unit
    → ((slot_at unit (with_slot unit b lower upper) (length (used_slots unit b) + 1)).start ≡ low unit b - slot_size unit)
    × ((slot_at unit (with_slot unit b lower upper) (length (used_slots unit b) + 1)).bytes ≡ take (slot_size unit) (upper ++ drop (low unit b - slot_size unit + length upper) (overwritten b (data_end unit b) lower)))
new_slot unit b len lower upper h is-lower is-upper =
    let room = h.room in
    let pad = padding unit h.is_unit in
    let widths = slot_widths unit h.is_unit in
    let long-mid : length (overwritten b (data_end unit b) lower) ≡ length b = length-overwritten b (data_end unit b) lower (omega arith) in
    let slot = slot_bytes unit b lower upper (length (used_slots unit b)) (long_with_slot unit b len lower upper h is-lower is-upper) (omega arith) refl in
    let width : low unit b - slot_size unit + slot_size unit - (low unit b - slot_size unit) ≡ slot_size unit = omega arith in (
      slot.0,
      slot.1 ∙ ap (λ (m : ℕ). take m (drop (low unit b - slot_size unit) (with_slot unit b lower upper))) width
          ∙ ap (take (slot_size unit)) (drop_at_put (overwritten b (data_end unit b) lower) (low unit b - slot_size unit) upper (omega arith)),
    )

-- Data and a whole entry add one pair.
pub put_entry : (unit : ℕ) (b : List ℕ) (e : Entry) (bytes : List ℕ) → HasRoom unit b (length bytes) → IsNext unit b e bytes
    → AddsPair unit b (with_slot unit b (data_image unit bytes) (entry_image unit e)) e.id bytes
put_entry unit b e bytes h next =
    let pad = padding unit h.is_unit in
    let widths = slot_widths unit h.is_unit in
    let room = h.room in
    let place = next.place in
    let len = next.long in
    let entry = is_entry unit b e bytes h next in
    let rounded = pad.no_less (length bytes) in
    let lower-long = length-data_image unit bytes h.is_unit in
    let upper-long = length-entry_image unit e h.is_unit in
    let new = with_slot unit b (data_image unit bytes) (entry_image unit e) in
    let slot = slot_at unit new (length (used_slots unit b) + 1) in
    let at = new_slot unit b (length bytes) (data_image unit bytes) (entry_image unit e) h lower-long (omega arith) in
    let slot-bytes : slot.bytes ≡ entry_image unit e = at.1 ∙ take_at (entry_image unit e) _ (slot_size unit) upper-long in
    let start : slot.start ≡ low unit b - slot_size unit = at.0 in
    let counted : counts unit slot.start e ≡ true =
    counts-ordinary unit slot.start e next.ordinary (ap (λ (x : ℕ). x % unit) next.place ∙ data_end-aligned unit b h.is_unit) (omega (arith, start)) in
    let f : SlotEntry = record { slot = slot.index; entry = e } in
    let read : counting_entry unit slot ≡ Some f = counting_entry-encoded unit slot e (replicate (slot_size unit - 8) 0xFF) entry counted slot-bytes in
    let more = has_slot_more unit b (length bytes) (data_image unit bytes) (entry_image unit e) h lower-long (omega arith) (is_used-encoded slot e (replicate (slot_size unit - 8) 0xFF) next.ordinary slot-bytes) in
    let found : entries unit new ≡ entries unit b ++ f ∷ [] =
    ap (filter_map (counting_entry unit)) more.slots ∙ filter_map-append (counting_entry unit) (used_slots unit b) (slot ∷ [])
    ∙ ap (λ (o : Option SlotEntry). entries unit b ++ cons_option o []) read in
    let inside : data_end unit b + length (data_image unit bytes) ≤ length b = omega arith in
    let long-mid : length (overwritten b (data_end unit b) (data_image unit bytes)) ≡ length b = length-overwritten b (data_end unit b) (data_image unit bytes) inside in
    let stored : slice_range new (data_end unit b) (data_end unit b + length bytes) ≡ bytes =
    range_below (overwritten b (data_end unit b) (data_image unit bytes)) (low unit b - slot_size unit) (entry_image unit e) (data_end unit b) (data_end unit b + length bytes) (omega arith) (omega arith)
    ∙ range_at b (data_end unit b) (data_image unit bytes) (length bytes) (omega arith) (omega arith)
    ∙ take_at bytes _ (length bytes) refl in
    let data-is : slice_range new e.offset (e.offset + e.len) ≡ bytes =
    ap (λ (m : ℕ). slice_range new m (m + e.len)) next.place ∙ ap (λ (m : ℕ). slice_range new (data_end unit b) (data_end unit b + m)) next.long ∙ stored in
    let lower = more.lower in
    let written : written_end unit (low unit new - slot_size unit) new ≤ data_end unit b + padded unit (length bytes) =
    written_end-le unit (low unit new - slot_size unit) new (data_end unit b + padded unit (length bytes)) h.is_unit
    (pad.sum_aligned (data_end unit b) (padded unit (length bytes)) (data_end-aligned unit b h.is_unit) (pad.aligned (length bytes)))
    (omega (arith, more.long)) (λ k le lt. more.erased k le (omega (arith, more.lower))) in
    let same-padding : padded unit e.len ≡ padded unit (length bytes) = ap (padded unit) next.long in
    record {
      list =
          ap (map (pair_of new)) found ∙ map_push (pair_of new) (entries unit b) f
          ∙ ap (λ ps. ps ++ pair_of new f ∷ []) (kept unit (data_end unit b) b new h.is_unit refl more.below)
          ∙ ap (λ (d : List ℕ). pairs unit b ++ (e.id, d) ∷ []) data-is;
      gc_done = ap (list_any is_gc_done) more.slots ∙ any_push is_gc_done (used_slots unit b) slot (is_gc_done-encoded slot e (replicate (slot_size unit - 8) 0xFF) entry next.ordinary slot-bytes);
      closed = more.closed;
      long = more.long;
      found = f;
      more = found;
      slot = index-slot_at (slot_size unit) new (length (used_slots unit b) + 1);
      entry_id = refl;
      entry_len = next.long;
      count = ap length more.slots ∙ length-append (used_slots unit b) (slot ∷ []);
      lower = more.lower;
      grown = data_end-grown unit b new f found next.place (omega arith) ∙ ap (λ (m : ℕ). data_end unit b + m) same-padding;
    }

four_erased : (xs : List ℕ) → 4 ≤ length xs → ((k : ℕ) → k < 4 → get_or xs k 0 ≡ 255) → take 4 xs ≡ 255 ∷ 255 ∷ 255 ∷ 255 ∷ []
four_erased xs long erased =
    let len : length (take 4 xs) ≡ 4 = length-take-le 4 xs long in
    ext_get_or 0 (take 4 xs) (replicate 4 255) len (λ k lt. get_or-take 4 xs k 0 (omega arith) ∙ erased k (omega arith) ∙ sym (get_or-replicate 4 k 255 0 (omega arith)))

slot_size-four : slot_size 4 ≡ 8
unfolding slot_size padded
slot_size-four = refl

-- The first half of any entry, where the unit is 4, leaves the list.
pub put_cut : (b : List ℕ) (e : Entry) (len : ℕ) (lower : List ℕ) → HasRoom 4 b len → length lower ≡ padded 4 len → ((slot : Slot) → slot.bytes ≡ cut_entry e → is_used slot ≡ true)
    → KeepsList 4 b (with_slot 4 b lower (take 4 (encoded e))) × (data_end 4 (with_slot 4 b lower (take 4 (encoded e))) ≤ data_end 4 b + padded 4 len)
put_cut b e len lower h lower-long used =
    let pad = padding 4 h.is_unit in
    let widths = slot_widths 4 h.is_unit in
    let room = h.room in
    let short = h.short in
    let size = slot_size-four in
    let upper-long = length-cut e in
    let mid = overwritten b (data_end 4 b) lower in
    let new = with_slot 4 b lower (take 4 (encoded e)) in
    let slot = slot_at 4 new (length (used_slots 4 b) + 1) in
    let place = low 4 b - slot_size 4 + length (take 4 (encoded e)) in
    let inside : data_end 4 b + length lower ≤ length b = omega arith in
    let long-mid : length mid ≡ length b = length-overwritten b (data_end 4 b) lower inside in
    let at = new_slot 4 b len lower (take 4 (encoded e)) h lower-long (omega arith) in
    -- the fence was erased, and the data ends under it
    let fence = fence_of 4 b len h in
    let old-parts = slot_at-parts 4 b (length (used_slots 4 b) + 1) in
    let fence-start : length b - (length (used_slots 4 b) + 1 + 1) * slot_size 4 ≡ low 4 b - slot_size 4 = omega arith in
    let fence-erased : is_erased (slice_range b (low 4 b - slot_size 4) (low 4 b - slot_size 4 + slot_size 4)) ≡ true =
    ap (λ (m : ℕ). is_erased (slice_range b m (m + slot_size 4))) (sym fence-start) ∙ ap is_erased (sym old-parts.1) ∙ not-false _ fence.fence in
    let rest : take 4 (drop place mid) ≡ 255 ∷ 255 ∷ 255 ∷ 255 ∷ [] =
    four_erased (drop place mid) (omega (arith, length-drop place mid))
    (λ k lt. get_or-drop place mid k 0 ∙ get_or_above b (data_end 4 b) lower (place + k) inside (omega arith)
    ∙ erased_from_range b (low 4 b - slot_size 4) (low 4 b - slot_size 4 + slot_size 4) (omega arith) fence-erased (place + k) (omega arith) (omega arith)) in
    let slot-bytes : slot.bytes ≡ cut_entry e = at.1 ∙ ap (λ (m : ℕ). take m (take 4 (encoded e) ++ drop place mid)) size ∙ take-cut e (drop place mid) rest in
    let start : slot.start ≡ low 4 b - slot_size 4 = at.0 in
    let more = has_slot_more 4 b len lower (take 4 (encoded e)) h lower-long (omega arith) (used slot slot-bytes) in
    let found : entries 4 new ≡ entries 4 b =
    ap (filter_map (counting_entry 4)) more.slots ∙ filter_map-append (counting_entry 4) (used_slots 4 b) (slot ∷ [])
    ∙ ap (λ (o : Option SlotEntry). entries 4 b ++ cons_option o []) (counting_entry-cut 4 slot e (omega arith) slot-bytes) ∙ append-nil (entries 4 b) in (
      record {
        list = ap (map (pair_of new)) found ∙ kept 4 (data_end 4 b) b new h.is_unit refl more.below;
        gc_done = ap (list_any is_gc_done) more.slots ∙ any_push is_gc_done (used_slots 4 b) slot (is_gc_done-cut slot e slot-bytes);
        closed = more.closed;
        long = more.long;
        same_entries = found;
        lower = omega (arith, more.lower);
        used = used_kept b new (data_end 4 b) (low 4 b) more.long
            (λ k lt. get_or_below mid (low 4 b - slot_size 4) (take 4 (encoded e)) k (omega arith) (omega arith) ∙ get_or_below b (data_end 4 b) lower k (omega arith) lt)
            (λ k le. get_or_above mid (low 4 b - slot_size 4) (take 4 (encoded e)) k (omega arith) (omega arith) ∙ get_or_above b (data_end 4 b) lower k inside (omega arith))
            (λ k from to. elim (cases_lt k (low 4 b - slot_size 4)) [
              | inl under ↦ erased_above 4 (low 4 b - slot_size 4) b (data_end 4 b) h.is_unit (omega arith) ((data_end-above 4 b).written) k from under
              | inr over ↦ erased_from_range b (low 4 b - slot_size 4) (low 4 b - slot_size 4 + slot_size 4) (omega arith) fence-erased k over (omega arith)
            ]);
      },
      data_end-bounded 4 b new (data_end 4 b + padded 4 len) found (omega arith)
          (written_end-le 4 (low 4 new - slot_size 4) new (data_end 4 b + padded 4 len) h.is_unit
          (pad.sum_aligned (data_end 4 b) (padded 4 len) (data_end-aligned 4 b h.is_unit) (pad.aligned len)) (omega (arith, more.long))
          (λ k from below. more.erased k from (omega (arith, more.lower)))),
    )

-- Data and the first half of its entry.
pub put_cut_entry : (b : List ℕ) (e : Entry) (bytes : List ℕ) → HasRoom 4 b (length bytes) → IsNext 4 b e bytes
    → KeepsList 4 b (with_slot 4 b (data_image 4 bytes) (take 4 (encoded e))) × (data_end 4 (with_slot 4 b (data_image 4 bytes) (take 4 (encoded e))) ≤ data_end 4 b + padded 4 (length bytes))
put_cut_entry b e bytes h next = put_cut b e (length bytes) (data_image 4 bytes) h (length-data_image 4 bytes h.is_unit) (λ slot is. is_used-cut slot e next.ordinary is)
