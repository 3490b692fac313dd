-- Entries of the list are ordinary ones, and name bytes of the area.
use Rattle.std.proofs.Common.{◌≡◌, ℕ, zero, suc, ◌+◌, ◌-◌, ◌<◌, ◌≤◌, Bool, true, not, cond, List, [], ◌∷◌, length, map, Some, None, refl, sym, ap, subst, ◌∙◌, inl, inr, arith}
use Rattle.std.specs.Prelude.{IfSome}
use Rattle.std.specs.List.{filter_map, flat_map, range_with_len, All}
use Rattle.std.proofs.lemmas.Bool.{false≢true, cases_Bool, and_parts, eq-eqb, leb-true}
use Rattle.std.proofs.lemmas.List.Concat.{flat_map-cons}
use Rattle.std.proofs.lemmas.List.Elements.{All-nil, All-cons, All-head, All-tail, All-append, All-map, All-weaker}
use Rattle.flash_sim.specs.Bank.{IsLawful}
use Rattle.flash_sim.specs.Device.{Device}
use Rattle.flash_map.specs.declared.area.Area.{Area}
use Rattle.flash_map.specs.Area.{IsLawfulArea, sector_at, sector_size, sectors_of, unit_of}
use Rattle.flash_map.proofs.Places.{length-sector}
use Rattle.item_laws.proofs.SlotLemmas.{start-slot_at}
use Rattle.item_laws.specs.Slots.{Slot}
use Rattle.item_laws.specs.Area.{round, counts_at, open_sector}
use Rattle.item_laws.proofs.Newest.{last-all}
use Rattle.item_laws.proofs.Places.{All-range}
use Rattle.item_laws.proofs.Stays.{open_within}
use Rattle.nvs_store.specs.declared.scan.SlotEntry.{SlotEntry}
use Rattle.nvs_store.specs.Geometry.{slot_size}
use Rattle.nvs_store.specs.Sector.{counts, counting_entry, is_used, is_wanted, entries, slot_at, used_slots}
use Rattle.nvs_store.specs.Scans.{reading, placed_at, counted_in, all_placed, last_placed, IsInArea}
use Rattle.item_laws.proofs.SlotCounts.{slots_to_used}
use Rattle.nvs_store.proofs.Marks.{counting_entry_counts}
use Rattle.item_laws.proofs.AreaReads.{length-sectors}

-- what an entry that counts says of itself, in a sector of this size
record IsOrdinary (size : ℕ) (f : SlotEntry) : Type 0 where
  inside : f.entry.offset + f.entry.len ≤ size
  ordinary : f.entry.id ≡ 0xFFFF → ⊥

ordinary_by : (unit start size : ℕ) (f : SlotEntry) → start ≤ size → counts unit start f.entry ≡ true → IsOrdinary size f
ordinary_by unit start size f under counted =
    let parts = and_parts _ _ counted in
    let ends : f.entry.offset + f.entry.len ≤ start = leb-true _ _ parts.1 in
    let id = (and_parts _ _ parts.0).0 in
    record {
      inside = omega arith;
      ordinary = λ (is : f.entry.id ≡ 0xFFFF). false≢true (sym (ap not (eq-eqb f.entry.id 0xFFFF is)) ∙ id);
    }

ordinary_from : (unit : ℕ) (b : List ℕ) (a n : ℕ) → All (IsOrdinary (length b)) (filter_map (counting_entry unit) (map (slot_at unit b) (range_with_len a n)))
ordinary_from unit b a zero = All-nil (IsOrdinary (length b))
ordinary_from unit b a (suc n) =
    let start = start-slot_at (slot_size unit) b a in
    elim (counting_entry_counts unit (slot_at unit b a)) [
      | inl none ↦ rw none (ordinary_from unit b (a + 1) n)
      | inr (f, some, counted, at) ↦
          rw some (All-cons (IsOrdinary (length b)) f (filter_map (counting_entry unit) (map (slot_at unit b) (range_with_len (a + 1) n))) (ordinary_by unit (slot_at unit b a).start (length b) f (omega arith) counted) (ordinary_from unit b (a + 1) n))
    ]

-- the entry of one slot, in its sector of an area
pub slot-in : (unit : ℕ) (b : List ℕ) (k sectors size place : ℕ) (f : SlotEntry) → Some f ≡ counting_entry unit (slot_at unit b k) → length b ≡ size → place < sectors → IsInArea sectors size (placed_at place f)
slot-in unit b k sectors size place f is long within =
    let start = start-slot_at (slot_size unit) b k in
    elim (counting_entry_counts unit (slot_at unit b k)) [
      | inl none ↦ absurd (some_not_none f (is ∙ none))
      | inr (g, some, counted, at) ↦
          let same : f ≡ g = same_found f g (is ∙ some) in
          let own = ordinary_by unit (slot_at unit b k).start size g (omega arith) counted in
          record {
            sector = within;
            inside = subst (λ (p : SlotEntry). p.entry.offset + p.entry.len ≤ size) (sym same) own.inside;
            ordinary = subst (λ (p : SlotEntry). p.entry.id ≡ 0xFFFF → ⊥) (sym same) own.ordinary;
          }
    ]
  where
    some_not_none : (f : SlotEntry) → Some f ≡ None → ⊥
    some_not_none f e = cc

    same_found : (f g : SlotEntry) → Some f ≡ Some g → f ≡ g
    same_found f g e = cc

entries-ordinary : (unit : ℕ) (b : List ℕ) → All (IsOrdinary (length b)) (entries unit b)
entries-ordinary unit b =
    let to = slots_to_used is_used 1 (slot_size unit) b (length (used_slots unit b)) refl in
    subst (λ (xs : List Slot). All (IsOrdinary (length b)) (filter_map (counting_entry unit) xs)) to (ordinary_from unit b 1 (length (used_slots unit b)))

module _ (unit : ℕ) (sectors : List (List ℕ)) (size : ℕ) (long : (place : ℕ) → place < length sectors → length (sector_at sectors place) ≡ size) where
  counted-in : (current place : ℕ) → place < length sectors → All (IsInArea (length sectors) size) (counted_in unit sectors current place)
  counted-in current place within =
      elim (cases_Bool (counts_at (reading unit) sectors current place)) [
        | inr passed ↦ subst (λ (t : Bool). All (IsInArea (length sectors) size) (cond t (map (placed_at place) (entries unit (sector_at sectors place))) [])) (sym passed) (All-nil (IsInArea (length sectors) size))
        | inl counted ↦
            subst (λ (t : Bool). All (IsInArea (length sectors) size) (cond t (map (placed_at place) (entries unit (sector_at sectors place))) [])) (sym counted)
            (All-map (IsInArea (length sectors) size) (placed_at place) (entries unit (sector_at sectors place))
            (All-weaker (IsOrdinary (length (sector_at sectors place))) (λ f. IsInArea (length sectors) size (placed_at place f))
            (λ f is. record { sector = within; inside = subst (λ (n : ℕ). f.entry.offset + f.entry.len ≤ n) (long place within) is.inside; ordinary = is.ordinary })
            (entries unit (sector_at sectors place)) (entries-ordinary unit (sector_at sectors place))))
      ]

  among-in : (current : ℕ) (places : List ℕ) → All (λ k. k < length sectors) places → All (IsInArea (length sectors) size) (flat_map (counted_in unit sectors current) places)
  among-in current [] within = All-nil (IsInArea (length sectors) size)
  among-in current (place ∷ rest) within =
      subst (All (IsInArea (length sectors) size)) (sym (flat_map-cons (counted_in unit sectors current) place rest))
      (All-append (IsInArea (length sectors) size) (counted_in unit sectors current place) (flat_map (counted_in unit sectors current) rest)
      (counted-in current place (All-head (λ k. k < length sectors) place rest within)) (among-in current rest (All-tail (λ k. k < length sectors) place rest within)))

  pub all-in : 0 < length sectors → All (IsInArea (length sectors) size) (all_placed unit sectors)
  all-in some =
      let current = open_sector (reading unit) sectors in
      let within = open_within (reading unit) sectors some in
      among-in (open_sector (reading unit) sectors) (round (length sectors) (open_sector (reading unit) sectors))
      (All-append (λ k. k < length sectors) (range_with_len (open_sector (reading unit) sectors + 1) (length sectors - (open_sector (reading unit) sectors + 1))) (range_with_len 0 (open_sector (reading unit) sectors + 1))
      (All-range (λ k. k < length sectors) (open_sector (reading unit) sectors + 1) (length sectors - (open_sector (reading unit) sectors + 1)) (λ k low high. omega arith))
      (All-range (λ k. k < length sectors) 0 (open_sector (reading unit) sectors + 1) (λ k low high. omega arith)))

-- The entries of the list of an area are in it.
pub listed-in : (d : Device) (area : Area) → IsLawful d.banks d.bytes → IsLawfulArea d.banks area → 0 < area.sectors → All (IsInArea area.sectors (sector_size d area)) (all_placed (unit_of d area) (sectors_of d area))
listed-in d area lawful is_area some =
    let count = length-sectors d area in
    subst (λ (n : ℕ). All (IsInArea n (sector_size d area)) (all_placed (unit_of d area) (sectors_of d area))) count
    (all-in (unit_of d area) (sectors_of d area) (sector_size d area) (λ place within. length-sector d area lawful is_area place (omega arith)) (omega arith))

pub last_placed-in : (d : Device) (area : Area) (id : ℕ) → IsLawful d.banks d.bytes → IsLawfulArea d.banks area → 0 < area.sectors → IfSome (last_placed (unit_of d area) (sectors_of d area) id) (IsInArea area.sectors (sector_size d area))
last_placed-in d area id lawful is_area some = last-all (λ f. is_wanted (Some id) f.entry) (IsInArea area.sectors (sector_size d area)) (all_placed (unit_of d area) (sectors_of d area)) None tt (listed-in d area lawful is_area some)
