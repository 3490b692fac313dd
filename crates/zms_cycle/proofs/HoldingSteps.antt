-- A search by bytes: what slots say before their CRCs, and the list of the sector.
use Rattle.std.proofs.Common.{◌≡◌, ℕ, ◌+◌, ◌-◌, ◌*◌, ◌%◌, ◌^◌, ◌<◌, ◌≤◌, ◌&&◌, min, Bool, true, false, cond, eqb, leb, List, length, take, drop, Option, Some, None, refl, sym, ap, subst, ◌∙◌, inl, inr, arith}
use Rattle.std.specs.Prelude.{slice_range, nat_lt}
use Rattle.std.proofs.lemmas.Bool.{cases_lt, false≢true, cond-true, cond-false, le-leb, lt-leb, leb-true, lt-ltb, le-ltb, eq-eqb, ne_eqb, and_parts}
use Rattle.std.proofs.lemmas.List.{length-drop, length-take}
use Rattle.item_laws.specs.Slots.{used_slots}
use Rattle.item_laws.proofs.SlotCounts.{used_count_fits}
use Rattle.item_laws.proofs.SlotLemmas.{bytes-slot_at, index-slot_at}
use Rattle.zms_cycle.specs.declared.entry.ZEntry.{ZEntry}
use Rattle.zms_cycle.specs.declared.reading.SlotEntry.{SlotEntry}
use Rattle.zms_cycle.specs.Entries.{entry_of, offset_of, is_empty, is_special}
use Rattle.zms_cycle.specs.Holding.{Holds, NoneHolds, FindsBytes, EndsSlot, number_below, NoneNamed, IsAlike, NoneAlike, IsFirstAlike}
use Rattle.zms_cycle.specs.Searches.{names}
use Rattle.zms_cycle.specs.Sector.{slot_of, is_valid, cycle_of, valid_slots, entry_in, is_sound, value_of}
use Rattle.zms_cycle.proofs.CopyCalls.{long_value_is, ordinary_id}
use Rattle.zms_cycle.proofs.EntryReads.{take_take, bytes_len}
use Rattle.zms_cycle.proofs.Slots16.{cycle_of-is, entry_in-is}
use Rattle.zms_cycle.proofs.SlotSearch.{decoded_cases, other_cycle, entry_in-cases, valid_before, none_listed, listed_decodes, listed_inside}

none_some : {X : Type 0} {x : X} → None ≡ Some x → ⊥
none_some h = cc

some_is : {X : Type 0} (x y : X) → Some x ≡ Some y → x ≡ y
some_is x y h = cc

-- ---- the bytes that the fields of a slot give

-- a value of at most 8 bytes stands in the slot
pub short_given : (b s : List ℕ) (n : ℕ) → n ≡ (entry_of s).len → n ≤ 8 → value_of b (entry_of s) ≡ slice_range s 8 (8 + n)
short_given b s n is short =
    let width : (entry_of s).len ≡ 8 + n - 8 = omega (arith, is) in
    cond-true (leb (entry_of s).len 8) (take (entry_of s).len (entry_of s).tail) (slice_range b (offset_of (entry_of s)) (offset_of (entry_of s) + (entry_of s).len)) (le-leb (entry_of s).len 8 (omega (arith, is, short)))
    ∙ take_take (entry_of s).len 8 (drop 8 s) (omega (arith, is, short)) ∙ ap (λ (m : ℕ). take m (drop 8 s)) width

-- a longer one that passes the sector's end is cut there
pub long_cut : (b : List ℕ) (e : ZEntry) (n : ℕ) → 8 < e.len → length b < offset_of e + e.len → e.len ≡ n → length (value_of b e) ≡ n → ⊥
long_cut b e n long out len is =
    let cut : length (value_of b e) ≡ min (offset_of e + e.len - offset_of e) (length (drop (offset_of e) b)) =
    ap length (long_value_is b e long) ∙ length-take (offset_of e + e.len - offset_of e) (drop (offset_of e) b) in
    let left : length (drop (offset_of e) b) ≡ length b - offset_of e = length-drop (offset_of e) b in
    omega (arith, cut, left)

-- ---- the cycle that slot 0 names

named_as : (b : List ℕ) (cycle : ℕ) (t : Bool) (e : ZEntry) → cond t (Some e.cycle) None ≡ Some cycle → e.cycle ≡ cycle
named_as b cycle true e h = some_is e.cycle cycle h
named_as b cycle false e h = absurd (none_some h)

pub cycle_named : (b : List ℕ) (cycle : ℕ) → cycle_of b ≡ Some cycle → (entry_of (slot_of b 0).bytes).cycle ≡ cycle
cycle_named b cycle is =
    elim (decoded_cases (slot_of b 0).bytes) [
      | inl none ↦ absurd (none_some (sym (cycle_of-is b None none) ∙ is))
      | inr some ↦ named_as b cycle (is_empty (entry_of (slot_of b 0).bytes)) (entry_of (slot_of b 0).bytes) (sym (cycle_of-is b (Some (entry_of (slot_of b 0).bytes)) some) ∙ is)
    ]

-- the list of a sector ends before the first slot that names another cycle than slot 0
pub ends_before : (b : List ℕ) (k : ℕ) → 2 ≤ k → ((entry_of (slot_of b k).bytes).cycle ≡ (entry_of (slot_of b 0).bytes).cycle → ⊥) → length (valid_slots b) + 2 ≤ k
ends_before b k from other = by_cycle (cycle_of b) refl
  where
    by_cycle : (o : Option ℕ) → cycle_of b ≡ o → length (valid_slots b) + 2 ≤ k
    by_cycle None is = let none = none_listed b is in omega arith
    by_cycle (Some cycle) is =
        let apart = other_cycle cycle (slot_of b k) (λ e. other (e ∙ sym (cycle_named b cycle is))) in
        subst (λ (o : Option ℕ). length (used_slots (is_valid o) 2 16 b) + 2 ≤ k) (sym is) (valid_before cycle b k from apart)

-- ---- what is found

-- an entry of the list that gives an id of the range these bytes is read so from its slot
alike_of : (b : List ℕ) (least most last : ℕ) (bytes : List ℕ) (k : ℕ) (f : SlotEntry) → is_sound b ≡ true → most < 2 ^ 32 → last ≡ min most 0xFFFFFFFE → 2 ≤ k → k < length (valid_slots b) + 2 → entry_in (slot_of b k) ≡ Some f → Holds b least most bytes f.entry
    → IsAlike b least last bytes (entry_of (slot_of b k).bytes)
alike_of b least most last bytes k f sound small cut from below is holds =
    elim (entry_in-cases (slot_of b k)) [
      | inl none ↦ absurd (none_some (sym none ∙ is))
      | inr (g, read, same) ↦
          let own : g ≡ f = some_is g f (sym read ∙ is) in
          let fields : f.entry ≡ entry_of (slot_of b k).bytes = ap (λ (h : SlotEntry). h.entry) (sym own) ∙ same in
          let ordinary = ordinary_id (slot_of b k) f.entry f.slot (let to = holds.to in omega arith) is in
          let len : length (value_of b f.entry) ≡ f.entry.len = bytes_len b k f sound from below (listed_inside b k from below) is in
          subst (λ (e : ZEntry). IsAlike b least last bytes e) fields
          (record { from = holds.from; to = (let to = holds.to in omega arith); len = sym len ∙ ap length holds.value; value = holds.value })
    ]

pub none_holds : (b : List ℕ) (least most last : ℕ) (bytes : List ℕ) (from to end : ℕ) → is_sound b ≡ true → most < 2 ^ 32 → last ≡ min most 0xFFFFFFFE → 2 ≤ from → to ≤ length (valid_slots b) + 2 → to ≤ end → NoneAlike b least last bytes from end → NoneHolds b least most bytes from to
none_holds b least most last bytes from to end sound small cut first within le none = λ k f over lt is holds.
    none k over (omega arith) (alike_of b least most last bytes k f sound small cut (omega arith) (omega arith) is holds)

-- the entry of a slot of the list, by its fields
ordinary_there : (b : List ℕ) (k : ℕ) → 2 ≤ k → k < length (valid_slots b) + 2 → is_special (entry_of (slot_of b k).bytes) ≡ false → entry_in (slot_of b k) ≡ Some (record { slot = k; entry = entry_of (slot_of b k).bytes })
ordinary_there b k from below ordinary =
    entry_in-is (slot_of b k) (Some (entry_of (slot_of b k).bytes)) (listed_decodes b k from below)
    ∙ cond-false (is_special (entry_of (slot_of b k).bytes)) None (Some (record { slot = (slot_of b k).index; entry = entry_of (slot_of b k).bytes })) ordinary
    ∙ ap (λ (i : ℕ). Some (record { slot = i; entry = entry_of (slot_of b k).bytes })) (index-slot_at 16 b k)

-- the first slot that is alike, if it is one of the list
pub finds_here : (b : List ℕ) (least most last : ℕ) (bytes : List ℕ) (skipped k : ℕ) (found : Option SlotEntry) → is_sound b ≡ true → most < 2 ^ 32 → last ≡ min most 0xFFFFFFFE → k < length (valid_slots b) + 2 → IsFirstAlike b least last bytes (2 + skipped) k → found ≡ entry_in (slot_of b k)
    → FindsBytes b least most bytes skipped found
finds_here b least most last bytes skipped k found sound small cut below first is =
    let behind = first.behind in
    let to = first.alike.to in
    let read = ordinary_there b k (omega arith) below (ne_eqb (entry_of (slot_of b k).bytes).id 0xFFFFFFFF (λ e. absurd (omega arith))) in
    subst (λ (o : Option SlotEntry). FindsBytes b least most bytes skipped o) (sym (is ∙ read))
    (record {
      behind = first.behind;
      listed = below;
      read = read;
      holds = record { from = first.alike.from; to = (omega arith); value = first.alike.value };
      first = none_holds b least most last bytes (2 + skipped) k k sound small cut (omega arith) (omega arith) (omega arith) first.first;
    })

-- none is, up to the end of the list or beyond
pub finds_none : (b : List ℕ) (least most last : ℕ) (bytes : List ℕ) (skipped end : ℕ) → is_sound b ≡ true → most < 2 ^ 32 → last ≡ min most 0xFFFFFFFE → length (valid_slots b) + 2 ≤ end → NoneAlike b least last bytes (2 + skipped) end → FindsBytes b least most bytes skipped None
finds_none b least most last bytes skipped end sound small cut le none =
    none_holds b least most last bytes (2 + skipped) (length (valid_slots b) + 2) end sound small cut (omega arith) (omega arith) le none

-- ---- one slot more

-- where a slot is not alike, none is up to it
pub none_step : (b : List ℕ) (least most : ℕ) (bytes : List ℕ) (from slot : ℕ) → NoneAlike b least most bytes from slot → (IsAlike b least most bytes (entry_of (slot_of b slot).bytes) → ⊥) → NoneAlike b least most bytes from (slot + 1)
none_step b least most bytes from slot none this = λ k over lt. elim (cases_lt k slot) [
  | inl below ↦ none k over below
  | inr ge ↦ let e : slot ≡ k = omega arith in subst (λ (j : ℕ). IsAlike b least most bytes (entry_of (slot_of b j).bytes) → ⊥) e this
]

-- a slot that names no id of the range is not alike
pub unnamed : (b : List ℕ) (least most : ℕ) (bytes : List ℕ) (slot : ℕ) → names least most (slot_of b slot) ≡ false → IsAlike b least most bytes (entry_of (slot_of b slot).bytes) → ⊥
unnamed b least most bytes slot none alike =
    let low : leb least (entry_of (slot_of b slot).bytes).id ≡ true = le-leb least (entry_of (slot_of b slot).bytes).id alike.from in
    false≢true (sym none ∙ (ap (λ (t : Bool). t && leb (entry_of (slot_of b slot).bytes).id most) low ∙ le-leb (entry_of (slot_of b slot).bytes).id most alike.to))

-- one that gives no such bytes is not either
pub ungiven : (b : List ℕ) (least most : ℕ) (bytes : List ℕ) (slot : ℕ) (fields : List ℕ) → fields ≡ (slot_of b slot).bytes → ((entry_of fields).len ≡ length bytes → value_of b (entry_of fields) ≡ bytes → ⊥) → IsAlike b least most bytes (entry_of (slot_of b slot).bytes) → ⊥
ungiven b least most bytes slot fields at none alike = subst (λ (xs : List ℕ). (entry_of xs).len ≡ length bytes → value_of b (entry_of xs) ≡ bytes → ⊥) at none alike.len alike.value

-- one that names an id of the range and gives these bytes is
pub is_alike : (b : List ℕ) (least most : ℕ) (bytes : List ℕ) (slot : ℕ) (fields : List ℕ) → fields ≡ (slot_of b slot).bytes → (leb least (entry_of fields).id && leb (entry_of fields).id most) ≡ true → (entry_of fields).len ≡ length bytes → value_of b (entry_of fields) ≡ bytes
    → IsAlike b least most bytes (entry_of (slot_of b slot).bytes)
is_alike b least most bytes slot fields at named len value =
    let parts = and_parts (leb least (entry_of fields).id) (leb (entry_of fields).id most) named in
    subst (λ (xs : List ℕ). IsAlike b least most bytes (entry_of xs)) at
    (record { from = leb-true least (entry_of fields).id parts.0; to = leb-true (entry_of fields).id most parts.1; len = len; value = value })

-- ---- from slot to slot by where they end

pub ends_first : (b : List ℕ) (from : ℕ) → from * 16 ≤ length b → EndsSlot b (length b - from * 16) × (number_below b (length b - from * 16) ≡ from)
ends_first b from inside = (record { within = omega arith; whole = omega arith }, omega arith)

pub ends_next : (b : List ℕ) (end : ℕ) → EndsSlot b end → 16 ≤ end → EndsSlot b (end - 16) × (number_below b (end - 16) ≡ number_below b end + 1)
ends_next b end at room =
    let within : end ≤ length b = at.within in
    let whole : (length b - end) % 16 ≡ 0 = at.whole in
    (record { within = omega arith; whole = omega arith }, omega arith)

-- where no slot more has room, all those of the list were there
pub ends_last : (b : List ℕ) (end : ℕ) → EndsSlot b end → end < 16 → 2 ≤ number_below b end → length (valid_slots b) + 2 ≤ number_below b end
ends_last b end at low some =
    let within : end ≤ length b = at.within in
    let whole : (length b - end) % 16 ≡ 0 = at.whole in
    let fits = used_count_fits (is_valid (cycle_of b)) 2 16 b in
    omega arith

-- the bytes of the slot
pub slot_ending : (b : List ℕ) (end : ℕ) → EndsSlot b end → 16 ≤ end → slice_range b (end - 16) end ≡ (slot_of b (number_below b end)).bytes
slot_ending b end at room =
    let within : end ≤ length b = at.within in
    let whole : (length b - end) % 16 ≡ 0 = at.whole in
    let start : end - 16 ≡ length b - (number_below b end + 1) * 16 = omega arith in
    let to : end ≡ end - 16 + 16 = omega arith in
    ap (λ (n : ℕ). slice_range b (end - 16) n) to ∙ bytes-slot_at 16 b (number_below b end) (end - 16) start

-- it stands in the sector
pub inside_ending : (b : List ℕ) (end : ℕ) → EndsSlot b end → 16 ≤ end → (number_below b end + 1) * 16 ≤ length b
inside_ending b end at room =
    let within : end ≤ length b = at.within in
    omega arith

-- ---- slots that name an id

ne_above : (id wanted : ℕ) → wanted ≤ id → (id ≡ wanted → ⊥) → wanted < id
ne_above id wanted ge other = elim (cases_lt wanted id) [
  | inl lt ↦ lt
  | inr le ↦ absurd (other (omega arith))
]

-- a slot with another id does not name this one
pub other_id : (id wanted : ℕ) → (id ≡ wanted → ⊥) → (leb wanted id && leb id wanted) ≡ false
other_id id wanted other = elim (cases_lt id wanted) [
  | inl lt ↦ ap (λ (t : Bool). t && leb id wanted) (lt-leb wanted id lt)
  | inr ge ↦ ap (λ (t : Bool). t && leb id wanted) (le-leb wanted id ge) ∙ lt-leb id wanted (ne_above id wanted ge other)
]

-- one slot more names other ids
pub unnamed_step : (b : List ℕ) (from slot id wanted : ℕ) → id ≡ (entry_of (slot_of b slot).bytes).id → (id ≡ wanted → ⊥) → NoneNamed b from slot wanted → NoneNamed b from (slot + 1) wanted
unnamed_step b from slot id wanted read other before = λ k over lt. elim (cases_lt k slot) [
  | inl below ↦ before k over below
  | inr ge ↦
      let e : slot ≡ k = omega arith in
      let this : names wanted wanted (slot_of b slot) ≡ false = other_id (entry_of (slot_of b slot).bytes).id wanted (λ same. other (read ∙ same)) in
      subst (λ (j : ℕ). names wanted wanted (slot_of b j) ≡ false) e this
]

-- whether a slot is listed, by how many slots up to it are valid
pub listed_is : (n slot count : ℕ) (t : Bool) → 2 ≤ slot → count ≡ min (slot - 1) n → t ≡ eqb count (slot - 1) → t ≡ nat_lt slot (n + 2)
listed_is n slot count t from is test = elim (cases_lt slot (n + 2)) [
  | inl lt ↦ test ∙ eq-eqb count (slot - 1) (omega arith) ∙ sym (lt-ltb slot (n + 2) lt)
  | inr ge ↦ test ∙ ne_eqb count (slot - 1) (λ e. absurd (omega arith)) ∙ sym (le-ltb slot (n + 2) ge)
]
