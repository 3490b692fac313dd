-- What programming data and its entry in a sector of an area leaves, on a flash.
use Rattle.std.proofs.Common.{◌≡◌, true, ℕ, zero, suc, ◌+◌, ◌-◌, ◌*◌, ◌/◌, ◌%◌, ◌<◌, ◌≤◌, List, [], ◌++◌, length, get_or, set, take, drop, replicate, refl, sym, ap, subst, ◌∙◌, inr, arith}
use Rattle.std.specs.Prelude.{slice_range}
use Rattle.std.proofs.Math.Nat.{mul-mod_left}
use Rattle.std.proofs.lemmas.Nat.{div-add-mod'}
use Rattle.std.proofs.lemmas.Bool.{not-false}
use Rattle.std.proofs.lemmas.List.{ext_get_or, get_or-replicate, length-replicate, length-take, get_or-set_same}
use Rattle.std.proofs.lemmas.List.Edits.{length-between, get_or-between}
use Rattle.flash_sim.specs.Bank.{IsLawful, bank_at}
use Rattle.flash_sim.specs.Device.{Device, bytes_of, overwritten}
use Rattle.flash_sim.specs.declared.flash.Bank.{Bank}
use Rattle.flash_map.specs.declared.area.Area.{Area}
use Rattle.flash_map.specs.Area.{IsLawfulArea, unit_of, sector_size, sectors_of, sector_bytes, Writes, WritesPart, ChangesOnly}
use Rattle.flash_map.specs.Pieces.{CanProgramAll}
use Rattle.flash_map.specs.Spending.{Spends, SpendsAtMost}
use Rattle.flash_map.specs.Units.{IsUnit, padded, padded_bytes, is_erased}
use Rattle.flash_map.proofs.PaddedLemmas.{length-padded_bytes}
use Rattle.flash_map.proofs.PieceLemmas.{sub_whole, can_all_after}
use Rattle.flash_map.proofs.Places.{length-sector}
use Rattle.flash_map.proofs.Rounding.{is_unit, padding}
use Rattle.flash_map.proofs.Sectors.{length-sectors_from, overwritten_nil}
use Rattle.flash_map.proofs.Sequence.{writes_twice, writes_then_part}
use Rattle.flash_map.proofs.SpendingLemmas.{spends_then, spends_then_most, most_weaker, units_sum, units_le}
use Rattle.nvs_store.specs.declared.entry.Entry.{Entry}
use Rattle.nvs_store.specs.Geometry.{slot_size, cost}
use Rattle.nvs_store.specs.Entries.{encoded}
use Rattle.nvs_store.specs.Sector.{used_slots, low, data_end, AddsPair, StopsAdding}
use Rattle.flash_map.specs.Area.{sector_at}
use Rattle.nvs_store.specs.Scans.{AddsPairAt, StopsAddingAt}
use Rattle.nvs_store.proofs.Appends.{fence_of, put_entry, length-entry_image}
use Rattle.nvs_store.proofs.Cuts.{put_units, data-stops}
use Rattle.nvs_store.proofs.EntryBytes.{length-encoded}
use Rattle.flash_map.proofs.WrittenEnds.{erased_above, erased_from_range}
use Rattle.nvs_store.proofs.Room.{data_end-above, data_end-aligned, HasRoom, IsNext}
use Rattle.nvs_store.proofs.SlotReads.{slot_widths, slot_at-parts}
use Rattle.nvs_store.specs.Images.{data_image, entry_image, with_slot, after_append}

-- ---- numbers and lists

mul_whole : (k m unit : ℕ) → m % unit ≡ 0 → k * m % unit ≡ 0
mul_whole k m unit whole =
    let m-is : m ≡ m / unit * unit = omega (arith, div-add-mod' m unit) in
    let e : k * (m / unit * unit) ≡ k * (m / unit) * unit = omega arith in
    ap (λ (n : ℕ). k * n % unit) m-is ∙ ap (λ (n : ℕ). n % unit) e ∙ mul-mod_left (k * (m / unit)) unit

pub erased-is : (b : List ℕ) (i n : ℕ) → i + n ≤ length b → ((k : ℕ) → i ≤ k → k < i + n → get_or b k 0 ≡ 255) → slice_range b i (i + n) ≡ replicate n 255
erased-is b i n inside erased =
    let len : length (slice_range b i (i + n)) ≡ i + n - i = length-between b i (i + n) inside in
    ext_get_or 0 (slice_range b i (i + n)) (replicate n 255) (omega (arith, len, length-replicate {A = ℕ} n 255))
    (λ k lt. get_or-between b i (i + n) k 0 (omega (arith, len)) ∙ erased (i + k) (omega arith) (omega (arith, len)) ∙ sym (get_or-replicate n k 255 0 (omega (arith, len))))

pub slot_size-is : (unit : ℕ) → slot_size unit ≡ padded unit 8
unfolding slot_size
slot_size-is unit = refl

pub entry_image-is : (unit : ℕ) (e : Entry) → padded_bytes unit (encoded e) ≡ entry_image unit e
entry_image-is unit e =
    ap (λ (n : ℕ). encoded e ++ replicate (padded unit n - n) 255) (length-encoded e) ∙ ap (λ (n : ℕ). encoded e ++ replicate (n - 8) 255) (sym (slot_size-is unit))

-- one sector of an area is this list now
pub changed_to : (old new : List (List ℕ)) (place : ℕ) (b : List ℕ) → place < length old → new ≡ set old place b → (sector_at new place ≡ b) × ChangesOnly old new place
changed_to old new place b inside is =
    let at : sector_at new place ≡ b = ap (λ (l : List (List ℕ)). get_or l place []) is ∙ get_or-set_same old place b [] inside in
    (at, is ∙ ap (λ (l : List ℕ). set old place l) (sym at))

-- ---- the flash

module _ (a : Device) (area : Area) (lawful : IsLawful a.banks a.bytes) (is_area : IsLawfulArea a.banks area) (place : ℕ) (has_sector : place < area.sectors) where
  is-unit : IsUnit (unit_of a area)
  is-unit = is_unit (unit_of a area) (lawful.each_bank area.bank is_area.has_bank).unit

  long : length (sector_bytes a area place) ≡ sector_size a area
  long = length-sector a area lawful is_area place has_sector

  pub inside : place < length (sectors_of a area)
  inside = omega (arith, length-sectors_from area.sectors (sector_size a area) (drop (area.first * sector_size a area) (bytes_of a area.bank)))

  low-aligned : low (unit_of a area) (sector_bytes a area place) % unit_of a area ≡ 0
  low-aligned =
      sub_whole ((length (used_slots (unit_of a area) (sector_bytes a area place)) + 1) * slot_size (unit_of a area)) (length (sector_bytes a area place)) (unit_of a area)
      (mul_whole (length (used_slots (unit_of a area) (sector_bytes a area place)) + 1) (slot_size (unit_of a area)) (unit_of a area) (slot_widths (unit_of a area) is-unit).aligned)
      (ap (λ (n : ℕ). n % unit_of a area) long ∙ (lawful.each_bank area.bank is_area.has_bank).whole_units)

  pub can_data : (bytes : List ℕ) → HasRoom (unit_of a area) (sector_bytes a area place) (length bytes) → CanProgramAll a area place (data_end (unit_of a area) (sector_bytes a area place)) (padded_bytes (unit_of a area) bytes)
  can_data bytes h =
      let unit = unit_of a area in
      let b = sector_bytes a area place in
      let pad = padding (unit_of a area) is-unit in
      let widths = slot_widths (unit_of a area) is-unit in
      let room = h.room in
      let image-long : length (padded_bytes (unit_of a area) bytes) ≡ padded (unit_of a area) (length bytes) = length-padded_bytes (unit_of a area) bytes is-unit in
      record {
        has_sector = has_sector;
        whole_units = ap (λ (n : ℕ). n % unit_of a area) image-long ∙ pad.aligned (length bytes);
        aligned = data_end-aligned (unit_of a area) (sector_bytes a area place) is-unit;
        in_sector = omega (arith, long);
        erased = λ erasing.
            erased-is (sector_bytes a area place) (data_end (unit_of a area) (sector_bytes a area place)) (length (padded_bytes (unit_of a area) bytes)) (omega arith)
            (λ k from below. erased_above (unit_of a area) (low (unit_of a area) (sector_bytes a area place) - slot_size (unit_of a area)) (sector_bytes a area place) (data_end (unit_of a area) (sector_bytes a area place)) is-unit (omega arith) ((data_end-above (unit_of a area) (sector_bytes a area place)).written) k from (omega arith));
      }

  -- the slot of the fence is erased
  fence-erased : (len : ℕ) → HasRoom (unit_of a area) (sector_bytes a area place) len
      → slice_range (sector_bytes a area place) (low (unit_of a area) (sector_bytes a area place) - slot_size (unit_of a area)) (low (unit_of a area) (sector_bytes a area place) - slot_size (unit_of a area) + slot_size (unit_of a area)) ≡ replicate (slot_size (unit_of a area)) 255
  fence-erased len h =
      let unit = unit_of a area in
      let b = sector_bytes a area place in
      let pad = padding (unit_of a area) is-unit in
      let widths = slot_widths (unit_of a area) is-unit in
      let room = h.room in
      let fence = fence_of (unit_of a area) (sector_bytes a area place) len h in
      let parts = slot_at-parts (unit_of a area) (sector_bytes a area place) (length (used_slots (unit_of a area) (sector_bytes a area place)) + 1) in
      let start : length (sector_bytes a area place) - (length (used_slots (unit_of a area) (sector_bytes a area place)) + 1 + 1) * slot_size (unit_of a area) ≡ low (unit_of a area) (sector_bytes a area place) - slot_size (unit_of a area) = omega arith in
      let erased : is_erased (slice_range (sector_bytes a area place) (low (unit_of a area) (sector_bytes a area place) - slot_size (unit_of a area)) (low (unit_of a area) (sector_bytes a area place) - slot_size (unit_of a area) + slot_size (unit_of a area))) ≡ true =
      ap (λ (m : ℕ). is_erased (slice_range (sector_bytes a area place) m (m + slot_size (unit_of a area)))) (sym start) ∙ ap is_erased (sym parts.1) ∙ not-false _ fence.fence in
      erased-is (sector_bytes a area place) (low (unit_of a area) (sector_bytes a area place) - slot_size (unit_of a area)) (slot_size (unit_of a area)) (omega arith)
      (λ k from below. erased_from_range (sector_bytes a area place) (low (unit_of a area) (sector_bytes a area place) - slot_size (unit_of a area)) (low (unit_of a area) (sector_bytes a area place) - slot_size (unit_of a area) + slot_size (unit_of a area)) (omega arith) erased k from below)

  -- an entry can be programmed in the slot of the fence
  pub can_entry : (len : ℕ) (e : Entry) → HasRoom (unit_of a area) (sector_bytes a area place) len
      → CanProgramAll a area place (low (unit_of a area) (sector_bytes a area place) - slot_size (unit_of a area)) (entry_image (unit_of a area) e)
  can_entry len e h =
      let pad = padding (unit_of a area) is-unit in
      let widths = slot_widths (unit_of a area) is-unit in
      let room = h.room in
      let image-long : length (entry_image (unit_of a area) e) ≡ slot_size (unit_of a area) = length-entry_image (unit_of a area) e is-unit in
      record {
        has_sector = has_sector;
        whole_units = ap (λ (n : ℕ). n % unit_of a area) image-long ∙ widths.aligned;
        aligned = sub_whole (slot_size (unit_of a area)) (low (unit_of a area) (sector_bytes a area place)) (unit_of a area) widths.aligned low-aligned;
        in_sector = omega (arith, long);
        erased = λ erasing.
            subst (λ (n : ℕ). slice_range (sector_bytes a area place) (low (unit_of a area) (sector_bytes a area place) - slot_size (unit_of a area)) (low (unit_of a area) (sector_bytes a area place) - slot_size (unit_of a area) + n) ≡ replicate n 255) (sym image-long) (fence-erased len h);
      }

  -- the data was cut
  pub data_cut : (m : Device) (id : ℕ) (bytes : List ℕ) → HasRoom (unit_of a area) (sector_bytes a area place) (length bytes)
      → WritesPart a m area place (data_end (unit_of a area) (sector_bytes a area place)) (padded_bytes (unit_of a area) bytes) → StopsAddingAt (unit_of a area) (sectors_of a area) (sectors_of m area) place id bytes
  data_cut m id bytes h part =
      let image = padded_bytes (unit_of a area) bytes in
      let upper = take (part.0 * unit_of a area) image in
      let image-long : length (padded_bytes (unit_of a area) bytes) ≡ padded (unit_of a area) (length bytes) = length-padded_bytes (unit_of a area) bytes is-unit in
      let to = changed_to (sectors_of a area) (sectors_of m area) place (overwritten (sector_bytes a area place) (data_end (unit_of a area) (sector_bytes a area place)) upper) inside part.2 in
      record {
        only = to.1;
        stops = subst (λ (new : List ℕ). StopsAdding (unit_of a area) (sector_bytes a area place) new id bytes) (sym to.0)
            (data-stops (unit_of a area) (sector_bytes a area place) id bytes upper h (omega (arith, length-take (part.0 * unit_of a area) image)));
      }

  module _ (m : Device) (bytes : List ℕ) (h : HasRoom (unit_of a area) (sector_bytes a area place) (length bytes)) (banks : m.banks ≡ a.banks) (data_written : Writes a m area place (data_end (unit_of a area) (sector_bytes a area place)) (padded_bytes (unit_of a area) bytes)) where
    image_long : length (padded_bytes (unit_of a area) bytes) ≡ padded (unit_of a area) (length bytes)
    image_long = length-padded_bytes (unit_of a area) bytes is-unit

    same_unit : unit_of m area ≡ unit_of a area
    same_unit = ap (λ (l : List Bank). (bank_at l area.bank).unit) banks

    entry_is : (e : Entry) → padded_bytes (unit_of m area) (encoded e) ≡ entry_image (unit_of a area) e
    entry_is e = ap (λ (u : ℕ). padded_bytes u (encoded e)) same_unit ∙ entry_image-is (unit_of a area) e

    pub can_entry_after : (e : Entry) → CanProgramAll m area place (low (unit_of a area) (sector_bytes a area place) - slot_size (unit_of a area)) (padded_bytes (unit_of m area) (encoded e))
    can_entry_after e =
        let room = h.room in
        let widths = slot_widths (unit_of a area) is-unit in
        let entry-long : length (entry_image (unit_of a area) e) ≡ slot_size (unit_of a area) = length-entry_image (unit_of a area) e is-unit in
        subst (λ (xs : List ℕ). CanProgramAll m area place (low (unit_of a area) (sector_bytes a area place) - slot_size (unit_of a area)) xs) (sym (entry_is e))
        (can_all_after a m area place (low (unit_of a area) (sector_bytes a area place) - slot_size (unit_of a area)) (data_end (unit_of a area) (sector_bytes a area place)) (entry_image (unit_of a area) e) (padded_bytes (unit_of a area) bytes) lawful is_area banks data_written
        (omega (arith, long, image_long)) (inr (omega (arith, image_long))) (can_entry (length bytes) e h))

    -- data and entry are whole
    pair_bytes : (c : Device) (e : Entry) → Writes m c area place (low (unit_of a area) (sector_bytes a area place) - slot_size (unit_of a area)) (padded_bytes (unit_of m area) (encoded e))
        → (sector_at (sectors_of c area) place ≡ with_slot (unit_of a area) (sector_bytes a area place) (data_image (unit_of a area) bytes) (entry_image (unit_of a area) e)) × ChangesOnly (sectors_of a area) (sectors_of c area) place
    pair_bytes c e entry_written =
        let both = writes_twice a m c area place (data_end (unit_of a area) (sector_bytes a area place)) (low (unit_of a area) (sector_bytes a area place) - slot_size (unit_of a area)) (padded_bytes (unit_of a area) bytes) (entry_image (unit_of a area) e) has_sector data_written
        (subst (λ (xs : List ℕ). Writes m c area place (low (unit_of a area) (sector_bytes a area place) - slot_size (unit_of a area)) xs) (entry_is e) entry_written) in
        changed_to (sectors_of a area) (sectors_of c area) place (with_slot (unit_of a area) (sector_bytes a area place) (data_image (unit_of a area) bytes) (entry_image (unit_of a area) e)) inside both

    pub pair_image : (c : Device) (id offset len : ℕ) → offset ≡ data_end (unit_of a area) (sector_bytes a area place) → len ≡ length bytes
        → Writes m c area place (low (unit_of a area) (sector_bytes a area place) - slot_size (unit_of a area)) (padded_bytes (unit_of m area) (encoded (record { id = id; offset = offset; len = len; part = 0xFF })))
        → sector_at (sectors_of c area) place ≡ after_append (unit_of a area) (sector_bytes a area place) id bytes
    pair_image c id offset len at long entry_written =
        (pair_bytes c (record { id = id; offset = offset; len = len; part = 0xFF }) entry_written).0
        ∙ ap (λ (n : ℕ). with_slot (unit_of a area) (sector_bytes a area place) (data_image (unit_of a area) bytes) (entry_image (unit_of a area) (record { id = id; offset = n; len = len; part = 0xFF }))) at
        ∙ ap (λ (n : ℕ). with_slot (unit_of a area) (sector_bytes a area place) (data_image (unit_of a area) bytes) (entry_image (unit_of a area) (record { id = id; offset = data_end (unit_of a area) (sector_bytes a area place); len = n; part = 0xFF }))) long

    pub pair_put : (c : Device) (e : Entry) → IsNext (unit_of a area) (sector_bytes a area place) e bytes
        → Writes m c area place (low (unit_of a area) (sector_bytes a area place) - slot_size (unit_of a area)) (padded_bytes (unit_of m area) (encoded e)) → AddsPairAt (unit_of a area) (sectors_of a area) (sectors_of c area) place e.id bytes
    pair_put c e next entry_written =
        let to = pair_bytes c e entry_written in
        record {
          only = to.1;
          adds = subst (λ (new : List ℕ). AddsPair (unit_of a area) (sector_bytes a area place) new e.id bytes) (sym to.0) (put_entry (unit_of a area) (sector_bytes a area place) e bytes h next);
        }

    -- the entry was cut
    pub entry_cut : (c : Device) (e : Entry) → IsNext (unit_of a area) (sector_bytes a area place) e bytes
        → WritesPart m c area place (low (unit_of a area) (sector_bytes a area place) - slot_size (unit_of a area)) (padded_bytes (unit_of m area) (encoded e)) → StopsAddingAt (unit_of a area) (sectors_of a area) (sectors_of c area) place e.id bytes
    entry_cut c e next cut =
        let both = writes_then_part a m c area place (data_end (unit_of a area) (sector_bytes a area place)) (low (unit_of a area) (sector_bytes a area place) - slot_size (unit_of a area)) (padded_bytes (unit_of a area) bytes) (entry_image (unit_of a area) e) has_sector banks data_written
        (subst (λ (xs : List ℕ). WritesPart m c area place (low (unit_of a area) (sector_bytes a area place) - slot_size (unit_of a area)) xs) (entry_is e) cut) in
        let upper = take (both.0 * unit_of a area) (entry_image (unit_of a area) e) in
        let after = with_slot (unit_of a area) (sector_bytes a area place) (data_image (unit_of a area) bytes) upper in
        let to = changed_to (sectors_of a area) (sectors_of c area) place after inside both.2 in
        record {
          only = to.1;
          stops = subst (λ (new : List ℕ). StopsAdding (unit_of a area) (sector_bytes a area place) new e.id bytes) (sym to.0) (after_units both.0 e next);
        }
      where
        after_units : (units : ℕ) (e : Entry) → IsNext (unit_of a area) (sector_bytes a area place) e bytes
            → StopsAdding (unit_of a area) (sector_bytes a area place) (with_slot (unit_of a area) (sector_bytes a area place) (data_image (unit_of a area) bytes) (take (units * unit_of a area) (entry_image (unit_of a area) e))) e.id bytes
        after_units zero e next =
            let none : 0 ≡ 0 * unit_of a area = omega arith in
            let mid = overwritten (sector_bytes a area place) (data_end (unit_of a area) (sector_bytes a area place)) (padded_bytes (unit_of a area) bytes) in
            let at = low (unit_of a area) (sector_bytes a area place) - slot_size (unit_of a area) in
            let same : mid ≡ overwritten mid at (take (0 * unit_of a area) (entry_image (unit_of a area) e)) = sym (overwritten_nil mid at) ∙ ap (λ (n : ℕ). overwritten mid at (take n (entry_image (unit_of a area) e))) none in
            subst (λ (new : List ℕ). StopsAdding (unit_of a area) (sector_bytes a area place) new e.id bytes) same
            (data-stops (unit_of a area) (sector_bytes a area place) e.id bytes (padded_bytes (unit_of a area) bytes) h (omega (arith, image_long)))
        after_units (suc units) e next = put_units (unit_of a area) is-unit (sector_bytes a area place) e bytes (suc units) h next (omega arith)

    -- ---- units

    units_is : padded (unit_of a area) (length bytes) / unit_of a area + padded (unit_of m area) 8 / unit_of m area ≡ cost (unit_of a area) (length bytes) / unit_of a area
    units_is =
        let widths = slot_widths (unit_of a area) is-unit in
        let sum : padded (unit_of a area) (length bytes) + slot_size (unit_of a area) - padded (unit_of a area) (length bytes) ≡ padded (unit_of a area) 8 = omega (arith, slot_size-is (unit_of a area)) in
        let all : padded (unit_of a area) (length bytes) + slot_size (unit_of a area) ≡ cost (unit_of a area) (length bytes) = omega arith in
        ap (λ (u : ℕ). padded (unit_of a area) (length bytes) / unit_of a area + padded u 8 / u) same_unit
        ∙ ap (λ (n : ℕ). padded (unit_of a area) (length bytes) / unit_of a area + n / unit_of a area) (sym sum)
        ∙ units_sum (unit_of a area) (padded (unit_of a area) (length bytes)) (padded (unit_of a area) (length bytes) + slot_size (unit_of a area)) is-unit ((padding (unit_of a area) is-unit).aligned (length bytes)) (omega arith)
        ∙ ap (λ (n : ℕ). n / unit_of a area) all

    pub pair_spent : (c : Device) (e : Entry) → Spends a m (padded (unit_of a area) (length bytes) / unit_of a area) → Spends m c (padded (unit_of m area) (length (encoded e)) / unit_of m area) → Spends a c (cost (unit_of a area) (length bytes) / unit_of a area)
    pair_spent c e first second =
        subst (λ (n : ℕ). Spends a c n) units_is
        (spends_then a m c (padded (unit_of a area) (length bytes) / unit_of a area) (padded (unit_of m area) 8 / unit_of m area) first (subst (λ (n : ℕ). Spends m c (padded (unit_of m area) n / unit_of m area)) (length-encoded e) second))

    pub pair_most : (c : Device) (e : Entry) → Spends a m (padded (unit_of a area) (length bytes) / unit_of a area) → SpendsAtMost m c (padded (unit_of m area) (length (encoded e)) / unit_of m area) → SpendsAtMost a c (cost (unit_of a area) (length bytes) / unit_of a area)
    pair_most c e first second =
        subst (λ (n : ℕ). SpendsAtMost a c n) units_is
        (spends_then_most a m c (padded (unit_of a area) (length bytes) / unit_of a area) (padded (unit_of m area) 8 / unit_of m area) first (subst (λ (n : ℕ). SpendsAtMost m c (padded (unit_of m area) n / unit_of m area)) (length-encoded e) second))

  pub data_most : (m : Device) (bytes : List ℕ) → SpendsAtMost a m (padded (unit_of a area) (length bytes) / unit_of a area) → SpendsAtMost a m (cost (unit_of a area) (length bytes) / unit_of a area)
  data_most m bytes spent =
      most_weaker a m (padded (unit_of a area) (length bytes) / unit_of a area) (cost (unit_of a area) (length bytes) / unit_of a area)
      (units_le (unit_of a area) (padded (unit_of a area) (length bytes)) (cost (unit_of a area) (length bytes)) is-unit (omega arith)) spent
