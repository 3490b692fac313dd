-- What the steps of NVS make of a sector, in the words of a store of items.
use Rattle.std.proofs.Common.{◌≡◌, ℕ, ◌+◌, ◌-◌, ◌*◌, ◌<◌, ◌≤◌, ◌⊎◌, Bool, true, false, cond, eqb, leb, List, [], ◌∷◌, ◌++◌, length, map, Option, Some, refl, sym, ap, subst, ◌∙◌, inl, inr, arith}
use Rattle.std.specs.Prelude.{slice_range}
use Rattle.std.specs.Option.{option_map, option_map_or}
use Rattle.std.specs.List.{filter_map, range_with_len}
use Rattle.std.proofs.Math.Nat.{zero-mod}
use Rattle.std.proofs.lemmas.List.{map_push}
use Rattle.std.proofs.lemmas.Bool.{cases_eq, cond-true, cond-false, eq-eqb, ne_eqb, leb-true}
use Rattle.flash_map.specs.Area.{sector_at, ChangesOnly}
use Rattle.flash_map.specs.Units.{IsUnit, padded, is_erased}
use Rattle.flash_map.proofs.Rounding.{padding}
use Rattle.item_laws.specs.Area.{open_sector}
use Rattle.item_laws.specs.Slots.{Slot}
use Rattle.item_laws.proofs.Collects.{done-not_blank}
use Rattle.item_laws.proofs.LiveLemmas.{option_cases, some_none}
use Rattle.item_store.specs.declared.entry.Entry.{Entry}
use Rattle.item_store.specs.declared.entry.Placed.{Placed}
use Rattle.item_store.specs.SectorFormat.{placed_at, fits, entries as format_entries}
use Rattle.item_store.specs.Steps.{new_entry, Keeps, KeepsMarks, Adds, Marks, Closes, StopsClearing}
use Rattle.item_store.proofs.ReadLemmas as own
use Rattle.nvs_store.specs.declared.scan.SlotEntry.{SlotEntry}
use Rattle.nvs_store.specs.declared.scan.Found.{Found}
use Rattle.nvs_store.specs.declared.scan.Scan.{Scan}
use Rattle.nvs_store.specs.Geometry.{slot_size, cost, capacity}
use Rattle.nvs_store.specs.Sector.{slot_at, used_slots, entries, counting_entry, low, data_end, has_gc_done, is_closed, is_sound, pairs, pairs_cost, KeepsList, AddsPair, StopsAdding, MarksDone, Closes as nvs_closes}
use Rattle.nvs_store.specs.Scans.{reading, scan_at, scan_of, placed_at as nvs_placed_at, placed_bytes, AddsPairAt, MarksDoneAt}
use Rattle.nvs_store.proofs.Appending.{open_after}
use Rattle.nvs_store.proofs.Blank.{reads-blank}
use Rattle.nvs_store.proofs.NvsEntries.{bytes_len, are_nvs}
use Rattle.nvs_store.proofs.Sound.{adds-used, close-sound}
use Rattle.nvs_format.specs.Formats.{entry_of, found_bytes, ReadsAs, format_in}
use Rattle.nvs_format.proofs.FormatLemmas.{slot_is}

-- the entries of a sector, as `item_store` sees them
entries_are : (unit : ℕ) (b : List ℕ) → format_entries (format_in unit) b ≡ map entry_of (entries unit b)
entries_are unit b =
    own.entries_read (λ n. counting_entry unit (slot_at unit b n)) entry_of (found_bytes b) (slot_is unit b) (range_with_len 1 ((format_in unit).count b))
    ∙ ap (map entry_of) (sym ((are_nvs unit).listed b))

-- an entry, by what it says
entry_by : (e : Entry) (slot id len : ℕ) → e.slot ≡ slot → e.id ≡ id → e.len ≡ len → e ≡ new_entry slot id len
entry_by e slot id len at named long =
    ap (λ (n : ℕ). new_entry n e.id e.len) at
    ∙ ap (λ (n : ℕ). new_entry slot n e.len) named
    ∙ ap (λ (n : ℕ). new_entry slot id n) long

module _ (unit : ℕ) (b e : List ℕ) where
  -- one entry more
  adds_entry : (id : ℕ) (bytes : List ℕ) → AddsPair unit b e id bytes → format_entries (format_in unit) e ≡ format_entries (format_in unit) b ++ new_entry (1 + length (used_slots unit b)) id (length bytes) ∷ []
  adds_entry id bytes h =
      let slot = h.slot in
      entries_are unit e ∙ ap (map entry_of) h.more ∙ map_push entry_of (entries unit b) h.found
      ∙ ap (λ (es : List Entry). es ++ entry_of h.found ∷ []) (sym (entries_are unit b))
      ∙ ap (λ (x : Entry). format_entries (format_in unit) b ++ x ∷ []) (entry_by (entry_of h.found) (1 + length (used_slots unit b)) id (length bytes) (omega arith) h.entry_id h.entry_len)

  pub adds : (id : ℕ) (bytes : List ℕ) → cost unit (length bytes) ≤ low unit b - data_end unit b → AddsPair unit b e id bytes → Adds (format_in unit) b e id bytes
  adds id bytes room h =
      let lower = h.lower in
      let grown = h.grown in
      record { list = record { list = h.list; gc_done = h.gc_done; closed = h.closed }; long = h.long; entry = adds_entry id bytes h; count = h.count; ready = refl; free = omega arith }

  pub marks : slot_size unit ≤ low unit b - data_end unit b → (pairs_cost unit (pairs unit b) ≤ capacity unit (length b) → is_sound unit e ≡ true) → MarksDone unit b e → Marks (format_in unit) b e
  marks room sound h =
      let lower = h.lower in
      let same_end = h.same_end in
      record { list = record { list = h.list; gc_done = h.gc_done; closed = h.closed }; long = h.long; free = omega arith; sound = sound }

  pub closes : is_erased b ≡ false → nvs_closes unit b e → Closes (format_in unit) b e
  closes used h = record {
    list = record { list = h.list; gc_done = h.gc_done; closed = h.closed };
    same_entries = entries_are unit e ∙ ap (λ (xs : List Slot). map entry_of (filter_map (counting_entry unit) xs)) h.same_slots ∙ sym (entries_are unit b);
    long = h.long;
    sound = λ sound. close-sound unit b e used sound h;
    emptying = λ used open_here. refl;
  }

  pub keeps_same : e ≡ b → Keeps (format_in unit) b e
  keeps_same same = record {
    list = record { list = ap (pairs unit) same; gc_done = ap (format_in unit).reading.has_gc_done same; closed = ap (is_closed unit) same };
    long = ap length same;
    used = λ used. ap is_erased same ∙ used;
    sound = λ sound. ap (is_sound unit) same ∙ sound;
  }

  keeps : (is_sound unit b ≡ true → is_sound unit e ≡ true) → KeepsList unit b e → Keeps (format_in unit) b e
  keeps sound h = record { list = record { list = h.list; gc_done = h.gc_done; closed = h.closed }; long = h.long; used = h.used; sound = sound }

  -- a put that was cut
  pub stops : (id : ℕ) (bytes : List ℕ) → cost unit (length bytes) ≤ low unit b - data_end unit b → (is_sound unit b ≡ true → is_sound unit e ≡ true) → StopsAdding unit b e id bytes → Keeps (format_in unit) b e ⊎ Adds (format_in unit) b e id bytes
  stops id bytes room sound h = elim h.list [ inl kept ↦ inl (keeps sound kept) | inr added ↦ inr (adds id bytes room added) ]

  -- a copy that was cut, and a gc-done
  pub stops_marks : (id : ℕ) (bytes : List ℕ) → StopsAdding unit b e id bytes → KeepsMarks (format_in unit) b e
  stops_marks id bytes h = elim h.list [ inl kept ↦ record { closed = kept.closed; gc_done = kept.gc_done } | inr added ↦ record { closed = added.closed; gc_done = added.gc_done } ]

  -- an erase that was cut
  pub stops_clearing : e ≡ b → StopsClearing (format_in unit) b e
  stops_clearing same = record { either = inl (record { closed = ap (is_closed unit) same; gc_done = ap (format_in unit).reading.has_gc_done same }); opens = λ opens. inl same }

  pub keeps_marks : KeepsList unit b e → KeepsMarks (format_in unit) b e
  keeps_marks h = record { closed = h.closed; gc_done = h.gc_done }

-- what fits has its cost free, and two slots
pub fits_cost : (unit : ℕ) (b : List ℕ) (len : ℕ) → IsUnit unit → fits (format_in unit) b len ≡ true → cost unit len + slot_size unit ≤ low unit b - data_end unit b
fits_cost unit b len is-unit fitting =
    let room : ℕ = low unit b - data_end unit b in
    elim (cases_eq len 0) [
      | inl none ↦
          let nothing : padded unit len ≤ 0 = (padding unit is-unit).least len 0 (omega arith) (zero-mod unit) in
          let enough = leb-true (2 * slot_size unit) room (sym (cond-true (eqb len 0) (leb (2 * slot_size unit) room) (leb (cost unit len + cond (has_gc_done unit b) 2 3 * slot_size unit) room) (eq-eqb len 0 none)) ∙ fitting) in
          omega arith
      | inr some ↦
          let enough = leb-true (cost unit len + cond (has_gc_done unit b) 2 3 * slot_size unit) room (sym (cond-false (eqb len 0) (leb (2 * slot_size unit) room) (leb (cost unit len + cond (has_gc_done unit b) 2 3 * slot_size unit) room) (ne_eqb len 0 some)) ∙ fitting) in
          let least = at_least (has_gc_done unit b) (slot_size unit) in
          omega arith
    ]
  where
    at_least : (t : Bool) (n : ℕ) → n ≤ cond t 2 3 * n
    at_least true n = omega arith
    at_least false n = omega arith

-- ---- what the next scan says of the sector

-- the sector that was open stays so
module _ (unit : ℕ) (old new : List (List ℕ)) (place : ℕ) (within : place < length old) (is : place ≡ open_sector (reading unit) old) (scan : Scan) (scanned : scan ≡ scan_of unit new) where
  scan_here : ChangesOnly old new place → is_closed unit (sector_at new place) ≡ is_closed unit (sector_at old place) → is_erased (sector_at new place) ≡ false → (scan.low ≡ low unit (sector_at new place)) × (scan.data_end ≡ data_end unit (sector_at new place))
  scan_here only closed used =
      let at : scan ≡ scan_at unit new place = scanned ∙ ap (scan_at unit new) (open_after unit old new place within (sym is) only closed (λ _. used)) in
      (ap (λ (s : Scan). s.low) at, ap (λ (s : Scan). s.data_end) at)

  pub scan_added : (id : ℕ) (bytes : List ℕ) → IsUnit unit → slot_size unit ≤ low unit (sector_at old place) → AddsPairAt unit old new place id bytes → (scan.low ≡ low unit (sector_at new place)) × (scan.data_end ≡ data_end unit (sector_at new place))
  scan_added id bytes is-unit room at = scan_here at.only at.adds.closed (adds-used unit id (sector_at old place) (sector_at new place) bytes is-unit room at.adds)

  pub scan_marked : MarksDoneAt unit old new place → scan.low ≡ low unit (sector_at new place)
  scan_marked at = (scan_here at.only at.marks.closed (done-not_blank (reading unit) (reads-blank unit) (sector_at new place) at.marks.gc_done)).0

-- ---- the entry that is copied

pub reads_as : (unit : ℕ) (sectors : List (List ℕ)) (p : Placed) (f : Found) → Some f ≡ option_map (nvs_placed_at p.sector) (counting_entry unit (slot_at unit (sector_at sectors p.sector) p.slot))
    → option_map (placed_at p.sector) (option_map entry_of (counting_entry unit (slot_at unit (sector_at sectors p.sector) p.slot))) ≡ Some p → ReadsAs unit sectors p f
reads_as unit sectors p f read is =
    elim (option_cases (counting_entry unit (slot_at unit (sector_at sectors p.sector) p.slot))) [
      | inl none ↦ absurd (some_none p (sym is ∙ ap (λ (o : Option SlotEntry). option_map (placed_at p.sector) (option_map entry_of o)) none))
      | inr (x, some) ↦
          let there : f ≡ nvs_placed_at p.sector x = some_same f (nvs_placed_at p.sector x) (read ∙ ap (option_map (nvs_placed_at p.sector)) some) in
          let placed : placed_at p.sector (entry_of x) ≡ p = some_same (placed_at p.sector (entry_of x)) p (sym (ap (λ (o : Option SlotEntry). option_map (placed_at p.sector) (option_map entry_of o)) some) ∙ is) in
          record {
            read = some ∙ ap (λ (g : Found). Some (record { slot = g.slot; entry = g.entry })) (sym there);
            sector = ap (λ (g : Found). g.sector) there;
            id = ap (λ (g : Found). g.entry.id) there ∙ ap (λ (q : Placed). q.id) placed;
            len = ap (λ (g : Found). g.entry.len) there ∙ ap (λ (q : Placed). q.len) placed;
          }
    ]
  where
    some_same : {X : Type 0} (x y : X) → Some x ≡ Some y → x ≡ y
    some_same x y e = cc

pub adds_copy : (unit : ℕ) (b e : List ℕ) (sectors : List (List ℕ)) (p : Placed) (f : Found) → ReadsAs unit sectors p f → cost unit p.len + 3 * slot_size unit ≤ low unit b - data_end unit b
    → AddsPair unit b e f.entry.id (placed_bytes sectors f) → Adds (format_in unit) b e p.id ((format_in unit).bytes (sector_at sectors p.sector) p.slot)
adds_copy unit b e sectors p f same room h =
    let from : List ℕ = sector_at sectors p.sector in
    let x : SlotEntry = record { slot = f.slot; entry = f.entry } in
    let own : found_bytes from x ≡ (format_in unit).bytes from p.slot = sym (ap (λ (o : Option SlotEntry). option_map_or (found_bytes from) o []) same.read) in
    let there : placed_bytes sectors f ≡ found_bytes from x = ap (λ (place : ℕ). slice_range (sector_at sectors place) f.entry.offset (f.entry.offset + f.entry.len)) same.sector in
    let own_len : cost unit (length (placed_bytes sectors f)) ≡ cost unit p.len = ap (cost unit) (ap length there ∙ bytes_len unit from p.slot x same.read ∙ same.len) in
    subst (λ (bs : List ℕ). Adds (format_in unit) b e p.id bs) (there ∙ own)
    (subst (λ (i : ℕ). Adds (format_in unit) b e i (placed_bytes sectors f)) same.id (adds unit b e f.entry.id (placed_bytes sectors f) (omega arith) h))
