-- What programming gc-done or the close entry leaves, on a flash.
use Rattle.std.proofs.Common.{◌≡◌, ◌⊎◌, true, false, ℕ, ◌+◌, ◌-◌, ◌*◌, ◌/◌, ◌%◌, ◌^◌, ◌<◌, ◌≤◌, List, [], length, set, take, replicate, refl, sym, ap, subst, ◌∙◌, inl, inr, arith}
use Rattle.std.specs.Prelude.{slice_range}
use Rattle.std.proofs.Math.Nat.{zero-mod, mul-le-mul_left}
use Rattle.std.proofs.lemmas.Bool.{cases_lt, not-false}
use Rattle.std.proofs.lemmas.List.{take_all, take-append-le, set-get_or}
use Rattle.flash_sim.specs.Bank.{IsLawful}
use Rattle.flash_sim.specs.Device.{Device, overwritten}
use Rattle.flash_map.specs.declared.area.Area.{Area}
use Rattle.flash_map.specs.Area.{IsLawfulArea, unit_of, sector_size, sectors_of, sector_bytes, Writes, WritesPart, ChangesOnly}
use Rattle.flash_map.specs.Pieces.{CanProgramAll}
use Rattle.flash_map.specs.Units.{IsUnit, padded, padded_bytes, is_erased}
use Rattle.flash_map.proofs.PieceLemmas.{sub_whole, next_fits}
use Rattle.flash_map.proofs.Places.{length-sector}
use Rattle.flash_map.proofs.Rounding.{is_unit, padding, by_unit}
use Rattle.flash_map.proofs.Sectors.{overwritten_nil}
use Rattle.nvs_store.specs.declared.entry.Entry.{Entry}
use Rattle.nvs_store.specs.Geometry.{slot_size}
use Rattle.nvs_store.specs.Entries.{encoded}
use Rattle.nvs_store.specs.Sector.{is_closed, low, data_end, KeepsList, MarksDone, Closes, special_entry}
use Rattle.flash_map.specs.Area.{sector_at}
use Rattle.nvs_store.specs.Scans.{MarksDoneAt, StopsMarkingAt, ClosesAt}
use Rattle.nvs_store.proofs.Appends.{length-entry_image}
use Rattle.nvs_store.proofs.Cuts.{sizes}
use Rattle.nvs_store.proofs.EntryBytes.{length-encoded}
use Rattle.nvs_store.proofs.Marks.{put_done, put_cut_done, put_close_units}
use Rattle.nvs_store.proofs.Putting.{erased-is, entry_image-is, changed_to, can_entry, inside}
use Rattle.flash_map.proofs.WrittenEnds.{erased_from_range}
use Rattle.nvs_store.proofs.Room.{HasRoom}
use Rattle.nvs_store.proofs.SlotReads.{slot_widths, slot_at-parts}
use Rattle.nvs_store.specs.Images.{entry_image, with_mark, with_close, after_gc_done, after_close}

pub done_room : (unit : ℕ) (b : List ℕ) → IsUnit unit → length b ≤ 2 ^ 15 → data_end unit b + 2 * slot_size unit ≤ low unit b → HasRoom unit b 0
done_room unit b is-unit short free =
    let none : padded unit 0 ≤ 0 = (padding unit is-unit).least 0 0 (omega arith) (zero-mod unit) in
    record { is_unit = is-unit; short = short; room = omega arith }

keeps-same : (unit : ℕ) (b new : List ℕ) → new ≡ b → KeepsList unit b new
keeps-same unit b new same =
    subst (λ (x : List ℕ). KeepsList unit b x) (sym same)
    (record { list = refl; gc_done = refl; closed = refl; long = refl; same_entries = refl; lower = omega arith; used = λ full. full })

product : (m n : ℕ) → 0 < n → m ≤ m * n
product m n positive = let least : m * 1 ≤ m * n = mul-le-mul_left m positive in omega arith

-- no unit was put
nothing : (unit at : ℕ) (b image : List ℕ) (units : ℕ) → units ≡ 0 → overwritten b at (take (units * unit) image) ≡ b
nothing unit at b image units none =
    let zero_bytes : units * unit ≡ 0 = ap (λ (n : ℕ). n * unit) none ∙ omega arith in
    ap (λ (n : ℕ). overwritten b at (take n image)) zero_bytes ∙ overwritten_nil b at

abbrev MarkUnits : ℕ → Type 0
MarkUnits unit = (b : List ℕ) (units : ℕ) → HasRoom unit b 0 → units * unit < slot_size unit → KeepsList unit b (with_mark unit b (take (units * unit) (entry_image unit (special_entry (data_end unit b)))))

mark_units : (unit : ℕ) → IsUnit unit → MarkUnits unit
mark_units = by_unit MarkUnits
    (λ b units h less. elim (cases_lt units 1) [
      | inl none ↦ keeps-same 4 b _ (nothing 4 (low 4 b - slot_size 4) b (entry_image 4 (special_entry (data_end 4 b))) units (omega arith))
      | inr some ↦
          let one : units ≡ 1 = omega (arith, sizes.0) in
          let eight = length-encoded (special_entry (data_end 4 b)) in
          let prefix : take (units * 4) (entry_image 4 (special_entry (data_end 4 b))) ≡ take 4 (encoded (special_entry (data_end 4 b))) =
          ap (λ (n : ℕ). take (n * 4) (entry_image 4 (special_entry (data_end 4 b)))) one ∙ take-append-le 4 (encoded (special_entry (data_end 4 b))) (replicate (slot_size 4 - 8) 0xFF) (omega arith) in
          subst (λ (upper : List ℕ). KeepsList 4 b (with_mark 4 b upper)) (sym prefix) (put_cut_done b h)
    ])
    (λ b units h less. keeps-same 8 b _ (nothing 8 (low 8 b - slot_size 8) b (entry_image 8 (special_entry (data_end 8 b))) units (omega (arith, sizes.1))))
    (λ b units h less. keeps-same 16 b _ (nothing 16 (low 16 b - slot_size 16) b (entry_image 16 (special_entry (data_end 16 b))) units (omega (arith, sizes.2))))

module _ (a : Device) (area : Area) (lawful : IsLawful a.banks a.bytes) (is_area : IsLawfulArea a.banks area) (place : ℕ) (has_sector : place < area.sectors) (c : Device) where
  unit-ok : IsUnit (unit_of a area)
  unit-ok = is_unit (unit_of a area) (lawful.each_bank area.bank is_area.has_bank).unit

  long : length (sector_bytes a area place) ≡ sector_size a area
  long = length-sector a area lawful is_area place has_sector

  within : place < length (sectors_of a area)
  within = inside a area lawful is_area place has_sector

  less : (e : Entry) (k : ℕ) → k < length (padded_bytes (unit_of a area) (encoded e)) / unit_of a area → k * unit_of a area < slot_size (unit_of a area)
  less e k below =
      let positive = (padding (unit_of a area) unit-ok).positive in
      let room = next_fits k (length (padded_bytes (unit_of a area) (encoded e))) (unit_of a area) below in
      omega (arith, ap length (entry_image-is (unit_of a area) e), length-entry_image (unit_of a area) e unit-ok)

  -- ---- gc-done

  module _ (h : HasRoom (unit_of a area) (sector_bytes a area place) 0) where
    pub can_done : CanProgramAll a area place (low (unit_of a area) (sector_bytes a area place) - slot_size (unit_of a area)) (padded_bytes (unit_of a area) (encoded (special_entry (data_end (unit_of a area) (sector_bytes a area place)))))
    can_done = subst (λ (xs : List ℕ). CanProgramAll a area place (low (unit_of a area) (sector_bytes a area place) - slot_size (unit_of a area)) xs) (sym (entry_image-is (unit_of a area) (special_entry (data_end (unit_of a area) (sector_bytes a area place))))) (can_entry a area lawful is_area place has_sector 0 (special_entry (data_end (unit_of a area) (sector_bytes a area place))) h)

    done_bytes : Writes a c area place (low (unit_of a area) (sector_bytes a area place) - slot_size (unit_of a area)) (padded_bytes (unit_of a area) (encoded (special_entry (data_end (unit_of a area) (sector_bytes a area place)))))
        → (sector_at (sectors_of c area) place ≡ after_gc_done (unit_of a area) (sector_bytes a area place)) × ChangesOnly (sectors_of a area) (sectors_of c area) place
    done_bytes writes =
        let e = special_entry (data_end (unit_of a area) (sector_bytes a area place)) in
        let image = subst (λ (xs : List ℕ). Writes a c area place (low (unit_of a area) (sector_bytes a area place) - slot_size (unit_of a area)) xs) (entry_image-is (unit_of a area) e) writes in
        changed_to (sectors_of a area) (sectors_of c area) place (after_gc_done (unit_of a area) (sector_bytes a area place)) within image

    pub done_image : Writes a c area place (low (unit_of a area) (sector_bytes a area place) - slot_size (unit_of a area)) (padded_bytes (unit_of a area) (encoded (special_entry (data_end (unit_of a area) (sector_bytes a area place))))) → sector_at (sectors_of c area) place ≡ after_gc_done (unit_of a area) (sector_bytes a area place)
    done_image writes = (done_bytes writes).0

    pub done_put : Writes a c area place (low (unit_of a area) (sector_bytes a area place) - slot_size (unit_of a area)) (padded_bytes (unit_of a area) (encoded (special_entry (data_end (unit_of a area) (sector_bytes a area place))))) → MarksDoneAt (unit_of a area) (sectors_of a area) (sectors_of c area) place
    done_put writes =
        let to = done_bytes writes in
        record { only = to.1; marks = subst (λ (new : List ℕ). MarksDone (unit_of a area) (sector_bytes a area place) new) (sym to.0) (put_done (unit_of a area) (sector_bytes a area place) h) }

    pub done_cut : WritesPart a c area place (low (unit_of a area) (sector_bytes a area place) - slot_size (unit_of a area)) (padded_bytes (unit_of a area) (encoded (special_entry (data_end (unit_of a area) (sector_bytes a area place))))) → StopsMarkingAt (unit_of a area) (sectors_of a area) (sectors_of c area) place
    done_cut part =
        let e = special_entry (data_end (unit_of a area) (sector_bytes a area place)) in
        let image = subst (λ (xs : List ℕ). Writes a c area place (low (unit_of a area) (sector_bytes a area place) - slot_size (unit_of a area)) (take (part.0 * unit_of a area) xs)) (entry_image-is (unit_of a area) e) part.2 in
        let to = changed_to (sectors_of a area) (sectors_of c area) place (with_mark (unit_of a area) (sector_bytes a area place) (take (part.0 * unit_of a area) (entry_image (unit_of a area) e))) within image in
        record {
          only = to.1;
          keeps = subst (λ (new : List ℕ). KeepsList (unit_of a area) (sector_bytes a area place) new) (sym to.0)
              (mark_units (unit_of a area) unit-ok (sector_bytes a area place) part.0 h (less e part.0 part.1));
        }

  -- ---- the close entry

  module _ (free : is_closed (unit_of a area) (sector_bytes a area place) ≡ false) (large : 512 ≤ sector_size a area) (small : sector_size a area ≤ 2 ^ 15) where
    slot_erased : slice_range (sector_bytes a area place) (length (sector_bytes a area place) - slot_size (unit_of a area)) (length (sector_bytes a area place) - slot_size (unit_of a area) + slot_size (unit_of a area)) ≡ replicate (slot_size (unit_of a area)) 255
    slot_erased =
        let widths = slot_widths (unit_of a area) unit-ok in
        let parts = slot_at-parts (unit_of a area) (sector_bytes a area place) 0 in
        let start : length (sector_bytes a area place) - (0 + 1) * slot_size (unit_of a area) ≡ length (sector_bytes a area place) - slot_size (unit_of a area) = omega arith in
        let erased : is_erased (slice_range (sector_bytes a area place) (length (sector_bytes a area place) - slot_size (unit_of a area)) (length (sector_bytes a area place) - slot_size (unit_of a area) + slot_size (unit_of a area))) ≡ true =
        ap (λ (m : ℕ). is_erased (slice_range (sector_bytes a area place) m (m + slot_size (unit_of a area)))) (sym start) ∙ ap is_erased (sym parts.1) ∙ not-false _ free in
        erased-is (sector_bytes a area place) (length (sector_bytes a area place) - slot_size (unit_of a area)) (slot_size (unit_of a area)) (omega (arith, long))
        (λ k from below. erased_from_range (sector_bytes a area place) (length (sector_bytes a area place) - slot_size (unit_of a area)) (length (sector_bytes a area place) - slot_size (unit_of a area) + slot_size (unit_of a area)) (omega (arith, long)) erased k from below)

    pub can_close : (e : Entry) → CanProgramAll a area place (length (sector_bytes a area place) - slot_size (unit_of a area)) (padded_bytes (unit_of a area) (encoded e))
    can_close e =
        let widths = slot_widths (unit_of a area) unit-ok in
        let image-long : length (padded_bytes (unit_of a area) (encoded e)) ≡ slot_size (unit_of a area) = ap length (entry_image-is (unit_of a area) e) ∙ length-entry_image (unit_of a area) e unit-ok in
        record {
          has_sector = has_sector;
          whole_units = ap (λ (n : ℕ). n % unit_of a area) image-long ∙ widths.aligned;
          aligned = sub_whole (slot_size (unit_of a area)) (length (sector_bytes a area place)) (unit_of a area) widths.aligned (ap (λ (n : ℕ). n % unit_of a area) long ∙ (lawful.each_bank area.bank is_area.has_bank).whole_units);
          in_sector = omega (arith, long, image-long);
          erased = λ erasing.
              subst (λ (n : ℕ). slice_range (sector_bytes a area place) (length (sector_bytes a area place) - slot_size (unit_of a area)) (length (sector_bytes a area place) - slot_size (unit_of a area) + n) ≡ replicate n 255) (sym image-long) slot_erased;
        }

    closes_by : (units : ℕ) → 0 < units → Closes (unit_of a area) (sector_bytes a area place) (with_close (unit_of a area) (sector_bytes a area place) (take (units * unit_of a area) (entry_image (unit_of a area) (special_entry (low (unit_of a area) (sector_bytes a area place))))))
    closes_by units some =
        let widths = slot_widths (unit_of a area) unit-ok in
        put_close_units (unit_of a area) (low (unit_of a area) (sector_bytes a area place)) (sector_bytes a area place) units unit-ok (omega (arith, long)) (omega (arith, long)) some

    close_bytes : Writes a c area place (length (sector_bytes a area place) - slot_size (unit_of a area)) (padded_bytes (unit_of a area) (encoded (special_entry (low (unit_of a area) (sector_bytes a area place)))))
        → (sector_at (sectors_of c area) place ≡ after_close (unit_of a area) (sector_bytes a area place)) × ChangesOnly (sectors_of a area) (sectors_of c area) place
    close_bytes writes =
        let e = special_entry (low (unit_of a area) (sector_bytes a area place)) in
        let image = subst (λ (xs : List ℕ). Writes a c area place (length (sector_bytes a area place) - slot_size (unit_of a area)) xs) (entry_image-is (unit_of a area) e) writes in
        changed_to (sectors_of a area) (sectors_of c area) place (after_close (unit_of a area) (sector_bytes a area place)) within image

    pub close_image : Writes a c area place (length (sector_bytes a area place) - slot_size (unit_of a area)) (padded_bytes (unit_of a area) (encoded (special_entry (low (unit_of a area) (sector_bytes a area place))))) → sector_at (sectors_of c area) place ≡ after_close (unit_of a area) (sector_bytes a area place)
    close_image writes = (close_bytes writes).0

    pub close_put : Writes a c area place (length (sector_bytes a area place) - slot_size (unit_of a area)) (padded_bytes (unit_of a area) (encoded (special_entry (low (unit_of a area) (sector_bytes a area place))))) → ClosesAt (unit_of a area) (sectors_of a area) (sectors_of c area) place
    close_put writes =
        let e = special_entry (low (unit_of a area) (sector_bytes a area place)) in
        let widths = slot_widths (unit_of a area) unit-ok in
        let positive = (padding (unit_of a area) unit-ok).positive in
        let whole : take (slot_size (unit_of a area) * unit_of a area) (entry_image (unit_of a area) e) ≡ entry_image (unit_of a area) e =
        take_all (slot_size (unit_of a area) * unit_of a area) (entry_image (unit_of a area) e) (omega (arith, length-entry_image (unit_of a area) e unit-ok, product (slot_size (unit_of a area)) (unit_of a area) positive)) in
        let to = close_bytes writes in
        record {
          only = to.1;
          closes = subst (λ (new : List ℕ). Closes (unit_of a area) (sector_bytes a area place) new) (sym to.0)
              (subst (λ (upper : List ℕ). Closes (unit_of a area) (sector_bytes a area place) (with_close (unit_of a area) (sector_bytes a area place) upper)) whole (closes_by (slot_size (unit_of a area)) (omega arith)));
        }

    pub close_cut : WritesPart a c area place (length (sector_bytes a area place) - slot_size (unit_of a area)) (padded_bytes (unit_of a area) (encoded (special_entry (low (unit_of a area) (sector_bytes a area place))))) → (sectors_of c area ≡ sectors_of a area) ⊎ ClosesAt (unit_of a area) (sectors_of a area) (sectors_of c area) place
    close_cut part =
        let e = special_entry (low (unit_of a area) (sector_bytes a area place)) in
        let image = subst (λ (xs : List ℕ). Writes a c area place (length (sector_bytes a area place) - slot_size (unit_of a area)) (take (part.0 * unit_of a area) xs)) (entry_image-is (unit_of a area) e) part.2 in
        elim (cases_lt 0 part.0) [
          | inl some ↦
              let to = changed_to (sectors_of a area) (sectors_of c area) place (with_close (unit_of a area) (sector_bytes a area place) (take (part.0 * unit_of a area) (entry_image (unit_of a area) e))) within image in
              inr (record { only = to.1; closes = subst (λ (new : List ℕ). Closes (unit_of a area) (sector_bytes a area place) new) (sym to.0) (closes_by part.0 some) })
          | inr none ↦
              inl (image
              ∙ ap (λ (xs : List ℕ). set (sectors_of a area) place xs) (nothing (unit_of a area) (length (sector_bytes a area place) - slot_size (unit_of a area)) (sector_bytes a area place) (entry_image (unit_of a area) e) part.0 (omega arith))
              ∙ set-get_or (sectors_of a area) place [])
        ]
