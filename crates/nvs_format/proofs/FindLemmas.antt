-- The last entry of an id in a sector of NVS, in the words of a store of items.
use Rattle.std.proofs.Common.{◌≡◌, ℕ, ◌+◌, ◌-◌, ◌*◌, ◌^◌, ◌<◌, ◌≤◌, Bool, false, cond, eqb, leb, ◌⊎◌, List, [], ◌∷◌, length, map, Option, Some, None, get_or, refl, sym, ap, subst, ◌∙◌, inl, inr, arith}
use Rattle.std.specs.Prelude.{fold, slice_range, IfSome}
use Rattle.std.specs.Option.{option_map}
use Rattle.std.specs.List.{filter_map, range_with_len}
use Rattle.std.specs.Int.{w16, from_le_bytes}
use Rattle.std.proofs.lemmas.Bool.{cases_Bool, cases_lt, ne_eqb, and_left, and_right, lt-leb}
use Rattle.std.proofs.lemmas.List.{take_all}
use Rattle.std.proofs.lemmas.List.Edits.{get_or-between}
use Rattle.flash_map.specs.Units.{IsUnit}
use Rattle.item_laws.specs.Live.{last_in}
use Rattle.item_laws.specs.Slots.{Slot}
use Rattle.item_laws.proofs.LiveLemmas.{option_cases, some_none}
use Rattle.item_store.specs.declared.entry.Entry.{Entry}
use Rattle.item_store.specs.SectorFormat.{placed_at, slots, entries as format_entries}
use Rattle.item_store.specs.Lasts.{in_range, IsOther, AreOthers}
use Rattle.item_store.proofs.ReadLemmas as own
use Rattle.nvs_store.specs.declared.entry.Entry.{Entry as NvsEntry}
use Rattle.nvs_store.specs.declared.scan.SlotEntry.{SlotEntry}
use Rattle.nvs_store.specs.Entries.{entry_of as entry_from}
use Rattle.nvs_store.specs.Geometry.{slot_size}
use Rattle.nvs_store.specs.Sector.{slot_at, used_slots, counts, counting_entry, entries, entries_within, last_found}
use Rattle.nvs_store.specs.Scans.{placed_at as nvs_placed_at}
use Rattle.nvs_store.proofs.LastLemmas.{few_slots}
use Rattle.nvs_store.proofs.EntryBytes.{decoded_cases, counting_entry-is}
use Rattle.nvs_store.proofs.NvsEntries.{are_nvs}
use Rattle.nvs_store.proofs.SlotReads.{slot_widths, slot_at-parts}
use Rattle.nvs_store.proofs.WantedSlots.{counting_cases}
use Rattle.nvs_format.specs.Formats.{entry_of, placed_of, found_bytes, format_in}
use Rattle.nvs_format.proofs.FormatLemmas.{slot_is}

pub last_same : (unit : ℕ) (b : List ℕ) (place id n : ℕ) → length b ≤ n
    → option_map placed_of (option_map (nvs_placed_at place) (last_found (Some id) (entries_within unit b n))) ≡ option_map (placed_at place) (last_in (slots (format_in unit)) place id (format_entries (format_in unit) b))
last_same unit b place id n enough =
    let few = few_slots unit b in
    ap (λ (ss : List Slot). option_map placed_of (option_map (nvs_placed_at place) (last_found (Some id) (filter_map (counting_entry unit) ss)))) (take_all n (used_slots unit b) (omega arith))
    ∙ both_ways (last_found (Some id) (entries unit b))
    ∙ ap (option_map (placed_at place)) (sym (own.last_read (λ n. counting_entry unit (slot_at unit b n)) entry_of (found_bytes b) (slot_is unit b) id (entries unit b) None)
    ∙ ap (λ es. last_in (slots (format_in unit)) place id es) (ap (map entry_of) ((are_nvs unit).listed b) ∙ sym (own.entries_read (λ n. counting_entry unit (slot_at unit b n)) entry_of (found_bytes b) (slot_is unit b) (range_with_len 1 (length (used_slots unit b))))))
  where
    both_ways : (o : Option SlotEntry) → option_map placed_of (option_map (nvs_placed_at place) o) ≡ option_map (placed_at place) (option_map entry_of o)
    both_ways None = refl
    both_ways (Some f) = refl

-- ---- the bytes of an entry's id are two

two_small : (bytes : List ℕ) → get_or bytes 0 0 < 256 → get_or bytes 1 0 < 256 → from_le_bytes w16 bytes < 2 ^ 16
two_small bytes low high = omega arith

id_small : (bytes : List ℕ) → get_or bytes 0 0 < 256 → get_or bytes 1 0 < 256 → (entry_from bytes).id < 2 ^ 16
id_small bytes low high =
    let first = get_or-between bytes 0 2 0 0 (omega arith) in
    let second = get_or-between bytes 0 2 1 0 (omega arith) in
    two_small (slice_range bytes 0 2) (omega arith) (omega arith)

module _ (unit : ℕ) (b : List ℕ) (is-unit : IsUnit unit) (small : (k : ℕ) → get_or b k 0 < 256) where
  slot_small : (n k : ℕ) → k < 8 → get_or (slot_at unit b n).bytes k 0 < 256
  slot_small n k lt =
      let wide = (slot_widths unit is-unit).no_less in
      let start = length b - (n + 1) * slot_size unit in
      let same : get_or (slot_at unit b n).bytes k 0 ≡ get_or b (length b - (n + 1) * slot_size unit + k) 0 =
      ap (λ (xs : List ℕ). get_or xs k 0) (slot_at-parts unit b n).1 ∙ get_or-between b start (start + slot_size unit) k 0 (omega arith) in
      let byte = small (length b - (n + 1) * slot_size unit + k) in
      omega arith

  entry_small : (n : ℕ) (f : SlotEntry) → counting_entry unit (slot_at unit b n) ≡ Some f → f.entry.id < 2 ^ 16
  entry_small n f is =
      elim (decoded_cases (slot_at unit b n).bytes) [
        | inl none ↦ absurd (some_none f (sym is ∙ counting_entry-is unit (slot_at unit b n) None none))
        | inr some ↦
            let read = counting_entry-is unit (slot_at unit b n) (Some (entry_from (slot_at unit b n).bytes)) some in
            let found : SlotEntry = record { slot = (slot_at unit b n).index; entry = entry_from (slot_at unit b n).bytes } in
            elim (cases_Bool (counts unit (slot_at unit b n).start (entry_from (slot_at unit b n).bytes))) [
              | inl counted ↦
                  let same : found ≡ f = some_same found f (sym (read ∙ ap (λ (t : Bool). cond t (Some found) None) counted) ∙ is) in
                  subst (λ (x : SlotEntry). x.entry.id < 2 ^ 16) same (id_small (slot_at unit b n).bytes (slot_small n 0 (omega arith)) (slot_small n 1 (omega arith)))
              | inr passed ↦ absurd (some_none f (sym is ∙ read ∙ ap (λ (t : Bool). cond t (Some found) None) passed))
            ]
      ]
    where
      some_same : (x y : SlotEntry) → Some x ≡ Some y → x ≡ y
      some_same x y e = cc

  module _ (place id : ℕ) (large : 2 ^ 16 ≤ id) where
    none_among : (ns : List ℕ) → last_in (slots (format_in unit)) place id (filter_map (λ n. option_map entry_of (counting_entry unit (slot_at unit b n))) ns) ≡ None
    none_among [] = refl
    none_among (n ∷ ns) =
        elim (option_cases (counting_entry unit (slot_at unit b n))) [
          | inl none ↦ (rw none (none_among ns))
          | inr (f, some) ↦
              let below = entry_small n f some in
              let apart : eqb f.entry.id id ≡ false = ne_eqb f.entry.id id (λ (e : f.entry.id ≡ id). omega arith) in
              (rw some (ap (λ (t : Bool). fold (λ (last : Option Entry) (e : Entry). cond (eqb e.id id) (Some e) last) (cond t (Some (entry_of f)) None) (filter_map (λ n. option_map entry_of (counting_entry unit (slot_at unit b n))) ns)) apart ∙ none_among ns))
        ]

    -- no entry has an id of more than two bytes
    pub none-large : last_in (slots (format_in unit)) place id (format_entries (format_in unit) b) ≡ None
    none-large = none_among (range_with_len 1 (length (used_slots unit b)))

-- ---- the id that a slot names

slot_byte : (unit : ℕ) (b : List ℕ) (n start k : ℕ) → IsUnit unit → start + (n + 1) * slot_size unit ≡ length b → k < 8 → get_or (slot_at unit b n).bytes k 0 ≡ get_or b (start + k) 0
slot_byte unit b n start k is-unit at lt =
    let wide = (slot_widths unit is-unit).no_less in
    let same : length b - (n + 1) * slot_size unit ≡ start = omega (arith, at) in
    ap (λ (xs : List ℕ). get_or xs k 0) (slot_at-parts unit b n).1
    ∙ get_or-between b (length b - (n + 1) * slot_size unit) (length b - (n + 1) * slot_size unit + slot_size unit) k 0 (omega arith)
    ∙ ap (λ (s : ℕ). get_or b (s + k) 0) same

-- the bytes from a slot's start on name the id that the slot names
pub named_from : (unit : ℕ) (b : List ℕ) (n start : ℕ) → IsUnit unit → start + (n + 1) * slot_size unit ≡ length b → (entry_from (slice_range b start (start + 8))).id ≡ (entry_from (slot_at unit b n).bytes).id
named_from unit b n start is-unit at =
    ids (slice_range (slice_range b start (start + 8)) 0 2) (slice_range (slot_at unit b n).bytes 0 2)
    (get_or-between (slice_range b start (start + 8)) 0 2 0 0 (omega arith) ∙ get_or-between b start (start + 8) 0 0 (omega arith)
    ∙ sym (get_or-between (slot_at unit b n).bytes 0 2 0 0 (omega arith) ∙ slot_byte unit b n start 0 is-unit at (omega arith)))
    (get_or-between (slice_range b start (start + 8)) 0 2 1 0 (omega arith) ∙ get_or-between b start (start + 8) 1 0 (omega arith)
    ∙ sym (get_or-between (slot_at unit b n).bytes 0 2 1 0 (omega arith) ∙ slot_byte unit b n start 1 is-unit at (omega arith)))
  where
    ids : (xs ys : List ℕ) → get_or xs 0 0 ≡ get_or ys 0 0 → get_or xs 1 0 ≡ get_or ys 1 0 → from_le_bytes w16 xs ≡ from_le_bytes w16 ys
    ids xs ys low high = omega (arith, low, high)

-- an entry has the id that its slot names
pub named : (unit : ℕ) (b : List ℕ) (slot id : ℕ) → id ≡ (entry_from (slot_at unit b slot).bytes).id → IfSome ((format_in unit).in_slot b slot) (λ e. e.id ≡ id)
named unit b slot id is =
    elim (counting_cases unit (slot_at unit b slot)) [
      | inl none ↦ subst (λ (o : Option SlotEntry). IfSome (option_map entry_of o) (λ e. e.id ≡ id)) (sym none) tt
      | inr (f, some, same) ↦ subst (λ (o : Option SlotEntry). IfSome (option_map entry_of o) (λ e. e.id ≡ id)) (sym some) (ap (λ (e : NvsEntry). e.id) same ∙ sym is)
    ]

-- so a slot that names an id out of a range has no entry of that range
pub other_named : (unit : ℕ) (b : List ℕ) (least most slot id : ℕ) → id ≡ (entry_from (slot_at unit b slot).bytes).id → in_range least most id ≡ false → IsOther least most ((format_in unit).in_slot b slot)
other_named unit b least most slot id is other =
    elim (counting_cases unit (slot_at unit b slot)) [
      | inl none ↦ subst (λ (o : Option SlotEntry). IsOther least most (option_map entry_of o)) (sym none) tt
      | inr (f, some, same) ↦
          let own : f.entry.id ≡ id = ap (λ (e : NvsEntry). e.id) same ∙ sym is in
          subst (λ (o : Option SlotEntry). IsOther least most (option_map entry_of o)) (sym some) (ap (in_range least most) own ∙ other)
    ]

-- the code's test of a range
pub out_of_range : (least most id : ℕ) → ((least ≤ id) × (most < id)) ⊎ (id < least) → in_range least most id ≡ false
out_of_range least most id (inl (_, past)) = and_right (leb least id) (leb id most) (lt-leb id most past)
out_of_range least most id (inr before) = and_left (leb least id) (leb id most) (lt-leb least id before)

-- one slot more
pub others_more : (unit : ℕ) (b : List ℕ) (least most left slots : ℕ) → 0 < left → IsOther least most ((format_in unit).in_slot b left) → AreOthers (format_in unit) b left slots least most → AreOthers (format_in unit) b (left - 1) slots least most
others_more unit b least most left slots some one others slot low high =
    elim (cases_lt left slot) [
      | inl lt ↦ others slot (omega arith) high
      | inr ge ↦ let same : left ≡ slot = omega arith in subst (λ (n : ℕ). IsOther least most ((format_in unit).in_slot b n)) same one
    ]
