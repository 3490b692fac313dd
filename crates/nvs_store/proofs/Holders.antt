-- Look-ups that compare ids and bytes before CRCs.
use Rattle.std.proofs.Common.{◌≡◌, ℕ, Bool, ◌+◌, ◌-◌, ◌*◌, ◌/◌, ◌<◌, ◌≤◌, true, false, ◌&&◌, leb, eqb, List, length, Option, Some, None, refl, sym, ap, subst, ◌∙◌, inl, inr, le-leb, eq-eqb, arith}
use Rattle.std.specs.Prelude.{slice_range}
use Rattle.std.proofs.lemmas.Bool.{cases_lt, false≢true, and_from, and_parts, leb-true}
use Rattle.std.proofs.Math.Nat.{add-mul}
use Rattle.std.proofs.lemmas.List.FromFn.{get_or-map-range_with_len}
use Rattle.std.proofs.lemmas.List.Sums.{prefix_len_passes}
use Rattle.flash_map.specs.Units.{IsUnit}
use Rattle.item_laws.specs.Slots.{Slot}
use Rattle.item_laws.proofs.LiveLemmas.{some_none}
use Rattle.item_laws.proofs.SlotCounts.{used_count_fits, slot_inside}
use Rattle.item_laws.proofs.SlotLemmas.{length-used_slots, bytes-slot_at, start-slot_at, HasFence-from_low}
use Rattle.nvs_store.specs.declared.entry.Entry.{Entry}
use Rattle.nvs_store.specs.declared.scan.SlotEntry.{SlotEntry}
use Rattle.nvs_store.specs.Entries.{entry_of}
use Rattle.nvs_store.specs.Geometry.{slot_size}
use Rattle.nvs_store.specs.Sector.{slot_at, slots, is_used, used_slots, counting_entry}
use Rattle.nvs_store.specs.Holding.{Holds, NoneHolds, IsFirstHolder, NoneNames, named_at}
use Rattle.nvs_store.proofs.Marks.{counting_entry_under}
use Rattle.nvs_store.proofs.NvsEntries.{are_nvs, bytes_len}
use Rattle.nvs_store.proofs.SlotReads.{slot_size_bounds}
use Rattle.nvs_store.proofs.WantedSlots.{counting_cases}

-- the entry in this slot counts, and gives an id of the range these bytes; none if not
abbrev pub HoldsAt : ℕ → List ℕ → ℕ → ℕ → List ℕ → ℕ → Option SlotEntry → Type 0
HoldsAt unit b least most wanted slot None = (f : SlotEntry) → counting_entry unit (slot_at unit b slot) ≡ Some f → Holds b least most wanted f → ⊥
HoldsAt unit b least most wanted slot (Some f) = (counting_entry unit (slot_at unit b slot) ≡ Some f) × Holds b least most wanted f

-- ---- the used slots

-- where a slot is not used, the used ones end before it
pub used_before : (unit : ℕ) (b : List ℕ) (k : ℕ) → 1 ≤ k → is_used (slot_at unit b k) ≡ false → 1 + length (used_slots unit b) ≤ k
used_before unit b k from unused =
    elim (cases_lt (length (used_slots unit b)) k) [
      | inl lt ↦ omega (arith, lt)
      | inr ge ↦
          let size : ℕ = slot_size unit in
          let fits = used_count_fits is_used 1 size b in
          let count = length-used_slots is_used 1 size b in
          let d : Slot = slot_at unit b 0 in
          let passes : is_used (slot_at unit b k) ≡ true =
          ap is_used (sym (get_or-map-range_with_len (slot_at unit b) 1 (length b / size - 1) (k - 1) k d (omega (arith, fits, count, from, ge)) (omega (arith, from))))
          ∙ prefix_len_passes is_used (slots unit b) (k - 1) d (omega (arith, count, from, ge)) in
          absurd (false≢true (sym unused ∙ passes))
    ]

-- a used slot behind the used ones is one more of them
pub used_after : (unit : ℕ) (b : List ℕ) (k : ℕ) → IsUnit unit → k ≤ 1 + length (used_slots unit b) → (k + 1) * slot_size unit ≤ length b → is_used (slot_at unit b k) ≡ true → k + 1 ≤ 1 + length (used_slots unit b)
used_after unit b k is-unit near stands used =
    elim (cases_lt k (1 + length (used_slots unit b))) [
      | inl less ↦ omega (arith, less)
      | inr ge ↦
          let same : k ≡ length (used_slots unit b) + 1 = omega (arith, near, ge) in
          let inside : (length (used_slots unit b) + 1 + 1) * slot_size unit ≤ length b =
          subst (λ (n : ℕ). (n + 1) * slot_size unit ≤ length b) same stands in
          let positive : 0 < slot_size unit = omega (arith, slot_size_bounds unit is-unit) in
          let stop = (HasFence-from_low is_used 1 (slot_size unit) b positive (omega (arith, inside))).fence in
          absurd (false≢true (sym stop ∙ subst (λ (n : ℕ). is_used (slot_at unit b n) ≡ true) same used))
    ]

-- where the sector ends, no slot is used
pub used_within : (unit : ℕ) (b : List ℕ) (k size : ℕ) → size ≡ slot_size unit → 1 ≤ k → length b / size ≤ k → 1 + length (used_slots unit b) ≤ k
used_within unit b k size is from end =
    let fits = used_count_fits is_used 1 (slot_size unit) b in
    let past : length b / slot_size unit ≤ k = subst (λ (n : ℕ). length b / n ≤ k) is end in
    omega (arith, fits, from, past)

-- so too where a slot does not stand in it
pub used_past : (unit : ℕ) (b : List ℕ) (k : ℕ) → 1 ≤ k → length b < (k + 1) * slot_size unit → 1 + length (used_slots unit b) ≤ k
used_past unit b k from past =
    elim (cases_lt k (length b / slot_size unit)) [
      | inl lt ↦ let inside = slot_inside (slot_size unit) b k lt in absurd (omega (arith, inside, past))
      | inr ge ↦ used_within unit b k (slot_size unit) refl from ge
    ]

-- ---- slots by where they end

module _ (unit : ℕ) (b : List ℕ) (index end size : ℕ) (is-unit : IsUnit unit) (is : size ≡ slot_size unit) (at : end ≡ length b - index * slot_size unit) where
  one_lower : (index + 1) * slot_size unit ≡ index * slot_size unit + 1 * slot_size unit
  one_lower = add-mul index 1 (slot_size unit)

  -- it stands in the sector
  pub stands_here : size ≤ end → (index + 1) * slot_size unit ≤ length b
  stands_here room = let wide = slot_size_bounds unit is-unit in let more = one_lower in omega (arith, wide, more, is, at, room)

  pub next_end : size ≤ end → end - size ≡ length b - (index + 1) * slot_size unit
  next_end room = let more = one_lower in omega (arith, more, is, at, room)

  pub bytes_here : size ≤ end → slice_range b (end - size) end ≡ (slot_at unit b index).bytes
  bytes_here room =
      let up : end - size + slot_size unit ≡ end = omega (arith, is, room) in
      ap (slice_range b (end - size)) (sym up) ∙ bytes-slot_at (slot_size unit) b index (end - size) (next_end room)

  -- it does not
  pub all_used : end < size → 1 ≤ index → 1 + length (used_slots unit b) ≤ index
  all_used past from = let more = one_lower in used_past unit b index from (omega (arith, more, is, at, past))

-- one slot more is used
pub used_to : (unit : ℕ) (b : List ℕ) (first n : ℕ) → ((k : ℕ) → first ≤ k → k < n → is_used (slot_at unit b k) ≡ true) → is_used (slot_at unit b n) ≡ true → (k : ℕ) → first ≤ k → k ≤ n → is_used (slot_at unit b k) ≡ true
used_to unit b first n before here k from to =
    elim (cases_lt k n) [
      | inl lt ↦ before k from lt
      | inr ge ↦ let same : n ≡ k = omega (arith, ge, to) in subst (λ (i : ℕ). is_used (slot_at unit b i) ≡ true) same here
    ]

-- ---- one slot

on_candidate : {P : Type 0} (is : Bool) → (is ≡ false → P) → (is ≡ true → P) → P
on_candidate false other same = other refl
on_candidate true other same = same refl

some_same : (x y : SlotEntry) → Some x ≡ Some y → x ≡ y
some_same x y e = cc

-- The slot's fields, its length and its bytes are compared before its CRC.
module _ (unit : ℕ) (b : List ℕ) (k : ℕ) (bytes : List ℕ) (is : bytes ≡ (slot_at unit b k).bytes) where
  fields : (f : SlotEntry) → counting_entry unit (slot_at unit b k) ≡ Some f → f.entry ≡ entry_of bytes
  fields f some =
      elim (counting_cases unit (slot_at unit b k)) [
        | inl none ↦ absurd (some_none f (sym some ∙ none))
        | inr (x, at, same) ↦ ap (λ (p : SlotEntry). p.entry) (some_same f x (sym some ∙ at)) ∙ same ∙ ap entry_of (sym is)
      ]

  ends_inside : (f : SlotEntry) → counting_entry unit (slot_at unit b k) ≡ Some f → f.entry.offset + f.entry.len ≤ length b
  ends_inside f some =
      elim (counting_entry_under unit (slot_at unit b k)) [
        | inl none ↦ absurd (some_none f (sym some ∙ none))
        | inr (x, at, under) ↦
            let start = start-slot_at (slot_size unit) b k in
            let within : x.entry.offset + x.entry.len ≤ length b = omega (arith, under, start) in
            subst (λ (p : SlotEntry). p.entry.offset + p.entry.len ≤ length b) (some_same x f (sym at ∙ some)) within
      ]

  module _ (least most : ℕ) (wanted : List ℕ) where
    pub no_candidate : (leb least (entry_of bytes).id && leb (entry_of bytes).id most && eqb (entry_of bytes).len (length wanted)) ≡ false → HoldsAt unit b least most wanted k None
    no_candidate other f some holds =
        let same : f.entry ≡ entry_of bytes = fields f some in
        let from : least ≤ (entry_of bytes).id = subst (λ (x : Entry). least ≤ x.id) same holds.from in
        let to : (entry_of bytes).id ≤ most = subst (λ (x : Entry). x.id ≤ most) same holds.to in
        let long : (entry_of bytes).len ≡ length wanted = ap (λ (x : Entry). x.len) (sym same) ∙ sym (bytes_len unit b k f some) ∙ ap length holds.bytes in
        false≢true (sym other ∙ and_from _ _ (and_from _ _ (le-leb least (entry_of bytes).id from) (le-leb (entry_of bytes).id most to)) (eq-eqb (entry_of bytes).len (length wanted) long))

    pub other_bytes : ((entry_of bytes).offset + (entry_of bytes).len ≤ length b → slice_range b (entry_of bytes).offset ((entry_of bytes).offset + (entry_of bytes).len) ≡ wanted → ⊥) → HoldsAt unit b least most wanted k None
    other_bytes differ f some holds =
        let same : f.entry ≡ entry_of bytes = fields f some in
        differ (subst (λ (x : Entry). x.offset + x.len ≤ length b) same (ends_inside f some)) (subst (λ (x : Entry). slice_range b x.offset (x.offset + x.len) ≡ wanted) same holds.bytes)

    pub same_bytes : (leb least (entry_of bytes).id && leb (entry_of bytes).id most && eqb (entry_of bytes).len (length wanted)) ≡ true → slice_range b (entry_of bytes).offset ((entry_of bytes).offset + (entry_of bytes).len) ≡ wanted
        → (read : Option SlotEntry) → read ≡ counting_entry unit (slot_at unit b k) → HoldsAt unit b least most wanted k read
    same_bytes candidate named None read = λ f some holds. some_none f (sym some ∙ sym read)
    same_bytes candidate named (Some f) read =
        let same : entry_of bytes ≡ f.entry = sym (fields f (sym read)) in
        let ids = and_parts _ _ (and_parts _ _ candidate).0 in (
          sym read,
          record {
            from = subst (λ (x : Entry). least ≤ x.id) same (leb-true least (entry_of bytes).id ids.0);
            to = subst (λ (x : Entry). x.id ≤ most) same (leb-true (entry_of bytes).id most ids.1);
            bytes = subst (λ (x : Entry). slice_range b x.offset (x.offset + x.len) ≡ wanted) same named;
          },
        )

    -- what the fields and the bytes rule out
    pub not_given : ((leb least (entry_of bytes).id && leb (entry_of bytes).id most && eqb (entry_of bytes).len (length wanted)) ≡ true → (entry_of bytes).offset + (entry_of bytes).len ≤ length b → slice_range b (entry_of bytes).offset ((entry_of bytes).offset + (entry_of bytes).len) ≡ wanted → ⊥) → HoldsAt unit b least most wanted k None
    not_given differ =
        on_candidate (leb least (entry_of bytes).id && leb (entry_of bytes).id most && eqb (entry_of bytes).len (length wanted)) no_candidate (λ candidate. other_bytes (differ candidate))

-- ---- from slot to slot

-- one slot more has no such entry
pub none_more : (unit : ℕ) (b : List ℕ) (least most : ℕ) (wanted : List ℕ) (first k : ℕ) → NoneHolds unit b least most wanted first k → HoldsAt unit b least most wanted k None → NoneHolds unit b least most wanted first (k + 1)
none_more unit b least most wanted first k before here slot f from to =
    elim (cases_lt slot k) [
      | inl lt ↦ before slot f from lt
      | inr ge ↦ let same : k ≡ slot = omega (arith, ge, to) in subst (λ (n : ℕ). counting_entry unit (slot_at unit b n) ≡ Some f → Holds b least most wanted f → ⊥) same (here f)
    ]

-- the first one stands here
pub first_here : (unit : ℕ) (b : List ℕ) (least most : ℕ) (wanted : List ℕ) (first k : ℕ) (f : SlotEntry) → first ≤ k → k < 1 + length (used_slots unit b) → NoneHolds unit b least most wanted first k → HoldsAt unit b least most wanted k (Some f) → IsFirstHolder unit b least most wanted first f
first_here unit b least most wanted first k f from listed before (read, holds) =
    let own : k ≡ f.slot = sym ((are_nvs unit).slot b 0 k f read) in
    record {
      from = omega (arith, from, own);
      listed = omega (arith, listed, own);
      read = subst (λ (n : ℕ). counting_entry unit (slot_at unit b n) ≡ Some f) own read;
      holds = holds;
      earlier = subst (NoneHolds unit b least most wanted first) own before;
    }

-- one slot more names another id
pub others_more : (unit : ℕ) (b : List ℕ) (id first k : ℕ) → NoneNames unit b id first k → (named_at unit b k ≡ id → ⊥) → NoneNames unit b id first (k + 1)
others_more unit b id first k before here slot from to =
    elim (cases_lt slot k) [
      | inl lt ↦ before slot from lt
      | inr ge ↦ let same : k ≡ slot = omega (arith, ge, to) in subst (λ (n : ℕ). named_at unit b n ≡ id → ⊥) same here
    ]
