-- The calls that put a value, an entry and gc-done, by what the calls below them leave.
use Rattle.std.proofs.Common.{◌≡◌, ℕ, ◌+◌, ◌-◌, ◌*◌, ◌/◌, ◌%◌, ◌^◌, ◌<◌, ◌≤◌, min, true, leb, ◌⊎◌, List, length, replicate, take, Some, refl, sym, ap, subst, ◌∙◌, inl, inr, arith}
use Rattle.std.proofs.lemmas.Bool.{cases_Bool, cond-true, cond-false, leb-true, le-leb, lt-leb}
use Rattle.std.specs.Prelude.{slice_range}
use Rattle.std.proofs.lemmas.List.{length-take}
use Rattle.std.proofs.lemmas.List.Edits.{length-between}
use Rattle.flash_sim.specs.Bank.{IsLawful, bank_at}
use Rattle.flash_sim.specs.Device.{Device, overwritten}
use Rattle.flash_sim.specs.declared.flash.Bank.{Bank}
use Rattle.flash_sim.specs.declared.flash.Kind.{Kind}
use Rattle.flash_sim.specs.declared.flash.Kind.TheVariants.{Erasing}
use Rattle.flash_map.specs.declared.area.Area.{Area}
use Rattle.flash_map.specs.Area.{unit_of, sector_size, sector_bytes, Writes, WritesPart, OthersStay}
use Rattle.flash_map.specs.Pieces.{CanProgramAll}
use Rattle.flash_map.specs.Spending.{SpendsBetween}
use Rattle.flash_map.specs.Units.{padded, padded_bytes}
use Rattle.flash_map.proofs.ErasedBytes.{erased_is}
use Rattle.flash_map.proofs.PaddedLemmas.{length-padded_bytes}
use Rattle.flash_map.proofs.SpendingBounds.{between_none, between_within}
use Rattle.zms_cycle.specs.declared.entry.ZEntry.{ZEntry}
use Rattle.zms_cycle.specs.Areas.{IsZmsSector, kind_on, HasSlot, CanPut, CanPutAt}
use Rattle.zms_cycle.specs.Entries.{encoded, value_entry, done_entry}
use Rattle.zms_cycle.specs.Sector.{cycle_of, valid_slots, data_len, low, data_end, is_sound}
use Rattle.zms_cycle.specs.Changes.{with_slot, guarded, with_value, HasPart, KeepsList, left_over, AddsPair, MarksDone}
use Rattle.zms_cycle.proofs.AreaFacts.{unit_is, size_is, same_kind, sector_set, others_set}
use Rattle.zms_cycle.proofs.Frames.{IsSound, sound-parts, pad, padded-aligned, data_len-short, data_len-long, data_end-aligned}
use Rattle.zms_cycle.proofs.Ends.{left_over-le, next_free}
use Rattle.zms_cycle.proofs.ErasedSlots.{range_free}
use Rattle.zms_cycle.proofs.PairCalls.{value_kept, value_stored, units_stored, part_kept, guard_keeps, done_put, pair_put}

-- Bytes that are padded to whole units.
module _ (old new : Device) (area : Area) (sector at : ℕ) (bytes : List ℕ) (zms : IsZmsSector old area sector) where
  image_is : padded_bytes (unit_of old area) bytes ≡ padded_bytes 16 bytes
  image_is = ap (λ (u : ℕ). padded_bytes u bytes) (unit_is old area sector zms)

  image_long : length (padded_bytes (unit_of old area) bytes) ≡ padded 16 (length bytes)
  image_long = ap length image_is ∙ length-padded_bytes 16 bytes (inr (inr refl))

  pub can_bytes : IsLawful old.banks old.bytes → at + padded 16 (length bytes) ≤ sector_size old area → at % 16 ≡ 0 → CanPutAt old area sector at (padded 16 (length bytes)) → CanProgramAll old area sector at (padded_bytes (unit_of old area) bytes)
  can_bytes lawful fits aligned erased =
      let size = image_long in
      let whole = size_is old area sector zms lawful in
      let range : length (slice_range (sector_bytes old area sector) at (at + padded 16 (length bytes))) ≡ padded 16 (length bytes) =
      length-between (sector_bytes old area sector) at (at + padded 16 (length bytes)) (omega (arith, whole, fits)) ∙ omega arith in
      record {
        has_sector = zms.has_sector;
        whole_units = ap (λ (n : ℕ). n % unit_of old area) size ∙ ap (λ (u : ℕ). padded 16 (length bytes) % u) (unit_is old area sector zms) ∙ padded-aligned (length bytes);
        aligned = ap (λ (u : ℕ). at % u) (unit_is old area sector zms) ∙ aligned;
        in_sector = omega arith;
        erased = λ erasing. subst (λ (n : ℕ). slice_range (sector_bytes old area sector) at (at + n) ≡ replicate n 255) (sym size) (erased_is (slice_range (sector_bytes old area sector) at (at + padded 16 (length bytes))) (erased erasing) ∙ ap (λ (n : ℕ). replicate n 255) range);
      }

  pub bytes_ok : Writes old new area sector at (padded_bytes (unit_of old area) bytes) → sector_bytes new area sector ≡ overwritten (sector_bytes old area sector) at (padded_bytes 16 bytes)
  bytes_ok writes =
      sector_set old new area sector (overwritten (sector_bytes old area sector) at (padded_bytes (unit_of old area) bytes)) zms writes
      ∙ ap (λ (image : List ℕ). overwritten (sector_bytes old area sector) at image) image_is

  pub bytes_others : Writes old new area sector at (padded_bytes (unit_of old area) bytes) → OthersStay old new area sector
  bytes_others writes = others_set old new area sector (overwritten (sector_bytes old area sector) at (padded_bytes (unit_of old area) bytes)) zms writes

  pub bytes_lost : WritesPart old new area sector at (padded_bytes (unit_of old area) bytes) → HasPart (sector_bytes old area sector) (sector_bytes new area sector) at (padded 16 (length bytes))
  bytes_lost part =
      let size = image_long in
      let prefix = length-take (part.0 * unit_of old area) (padded_bytes (unit_of old area) bytes) in
      (take (part.0 * unit_of old area) (padded_bytes (unit_of old area) bytes), omega arith, sector_set old new area sector (overwritten (sector_bytes old area sector) at (take (part.0 * unit_of old area) (padded_bytes (unit_of old area) bytes))) zms part.2)

  pub bytes_lost_others : WritesPart old new area sector at (padded_bytes (unit_of old area) bytes) → OthersStay old new area sector
  bytes_lost_others part = others_set old new area sector (overwritten (sector_bytes old area sector) at (take (part.0 * unit_of old area) (padded_bytes (unit_of old area) bytes))) zms part.2

  units_are : padded (unit_of old area) (length bytes) / unit_of old area ≡ padded 16 (length bytes) / 16
  units_are = ap (λ (u : ℕ). padded u (length bytes) / u) (unit_is old area sector zms)

  pub bytes_spend : SpendsBetween old new (padded (unit_of old area) (length bytes) / unit_of old area) (padded (unit_of old area) (length bytes) / unit_of old area) → SpendsBetween old new (padded 16 (length bytes) / 16) (padded 16 (length bytes) / 16)
  bytes_spend spends = subst (λ (n : ℕ). SpendsBetween old new n n) units_are spends

  pub bytes_spend_lost : SpendsBetween old new 0 (padded (unit_of old area) (length bytes) / unit_of old area) → SpendsBetween old new 0 (padded 16 (length bytes) / 16)
  bytes_spend_lost spends = subst (λ (n : ℕ). SpendsBetween old new 0 n) units_are spends

-- A value of more than 8 bytes.
pub long_len : (len : ℕ) → 8 < len → data_len len ≡ padded 16 len
long_len len long = data_len-long len (lt-leb len 8 long)

pub long_value : (b : List ℕ) (at : ℕ) (bytes : List ℕ) → 8 < length bytes → overwritten b at (padded_bytes 16 bytes) ≡ with_value b at bytes
long_value b at bytes long = sym (cond-false (leb (length bytes) 8) b (overwritten b at (padded_bytes 16 bytes)) (lt-leb (length bytes) 8 long))

pub short_spends : (d : Device) (len : ℕ) → len ≤ 8 → SpendsBetween d d (data_len len / 16) (data_len len / 16)
short_spends d len short = let none = data_len-short len short in between_within (between_none d) (data_len len / 16) (data_len len / 16) (omega arith) (omega arith)

pub short_value : (b : List ℕ) (at : ℕ) (bytes : List ℕ) → length bytes ≤ 8 → b ≡ with_value b at bytes
short_value b at bytes short = sym (cond-true (leb (length bytes) 8) b (overwritten b at (padded_bytes 16 bytes)) (le-leb (length bytes) 8 short))

-- A used, sound sector with room for so much.
pub record IsReady (d : Device) (area : Area) (sector cycle n end room : ℕ) : Type 0 where
  pub sound : IsSound (sector_bytes d area sector)
  pub of_cycle : cycle_of (sector_bytes d area sector) ≡ Some cycle
  pub count : n ≡ length (valid_slots (sector_bytes d area sector))
  pub end_is : end ≡ data_end (kind_on d area) (sector_bytes d area sector)
  pub long : length (sector_bytes d area sector) ≡ sector_size d area
  pub small : sector_size d area ≤ 32768
  pub fits : data_end (kind_on d area) (sector_bytes d area sector) + room + 32 ≤ low (sector_bytes d area sector)

pub ready : (d : Device) (area : Area) (sector cycle n end room : ℕ) → IsZmsSector d area sector → IsLawful d.banks d.bytes → is_sound (sector_bytes d area sector) ≡ true → cycle_of (sector_bytes d area sector) ≡ Some cycle → n ≡ length (valid_slots (sector_bytes d area sector))
    → end ≡ min (data_end (kind_on d area) (sector_bytes d area sector)) (2 ^ 32 - 1) → data_end (kind_on d area) (sector_bytes d area sector) + room + 32 ≤ low (sector_bytes d area sector) → IsReady d area sector cycle n end room
ready d area sector cycle n end room zms lawful sound of_cycle count end_is fits =
    let size = size_is d area sector zms lawful in
    let most = zms.lawful.at_most in
    record {
      sound = sound-parts (sector_bytes d area sector) sound;
      of_cycle = of_cycle;
      count = count;
      end_is = omega arith;
      long = size;
      small = most;
      fits = fits;
    }

-- what a value of this length may leave, where it was cut
abbrev pub gone : Device → Area → ℕ → ℕ
gone d area room = left_over (kind_on d area) room

module _ (d : Device) (area : Area) (sector cycle n end room : ℕ) (r : IsReady d area sector cycle n end room) where
  pub ready_fits : end + room ≤ sector_size d area
  ready_fits = let fits = r.fits in let at = r.end_is in let long = r.long in omega arith

  pub ready_aligned : end % 16 ≡ 0
  ready_aligned = ap (λ (k : ℕ). k % 16) r.end_is ∙ data_end-aligned (kind_on d area) (sector_bytes d area sector) r.sound

  pub ready_slots : n + 2 < 2 ^ 32
  ready_slots = let fits = r.fits in let count = r.count in let long = r.long in let small = r.small in omega arith

  pub ready_slot : (mid : Device) → mid.banks ≡ d.banks → HasSlot mid area (n + 2 + 1)
  ready_slot mid banks =
      let fits = r.fits in
      let count = r.count in
      let long = r.long in
      let same : sector_size mid area ≡ sector_size d area = ap (λ (l : List Bank). (bank_at l area.bank).sector) banks in
      omega arith

  -- on a bank that is erased, what follows the data end can be programmed
  pub ready_put : CanPutAt d area sector end room
  ready_put erasing =
      let fits = r.fits in
      let here : data_end Erasing (sector_bytes d area sector) ≡ end = ap (λ (kind : Kind). data_end kind (sector_bytes d area sector)) (sym erasing) ∙ sym r.end_is in
      range_free (sector_bytes d area sector) cycle r.of_cycle end room (omega (arith, here)) (omega (arith, r.end_is, fits))

  pub ready_part : (new : List ℕ) → room % 16 ≡ 0 → HasPart (sector_bytes d area sector) new end room → KeepsList (kind_on d area) (gone d area room) (sector_bytes d area sector) new
  ready_part new whole part = part_kept (kind_on d area) (sector_bytes d area sector) new cycle room r.of_cycle r.sound whole r.fits (subst (λ (k : ℕ). HasPart (sector_bytes d area sector) new k room) r.end_is part)

  little : data_end (kind_on d area) (sector_bytes d area sector) + gone d area room + 32 ≤ low (sector_bytes d area sector)
  little = let fits = r.fits in let over = left_over-le (kind_on d area) room in omega (arith, fits, over)

  -- so can the slot of the next entry
  pub ready_next : (mid : Device) → mid.banks ≡ d.banks → KeepsList (kind_on d area) (gone d area room) (sector_bytes d area sector) (sector_bytes mid area sector) → CanPut mid area sector (n + 2)
  ready_next mid banks keeps erasing =
      next_free (kind_on d area) (sector_bytes d area sector) (sector_bytes mid area sector) cycle n (gone d area room) r.of_cycle r.count keeps little (sym (same_kind d mid area banks) ∙ erasing)

  -- the guard, or nothing, after steps that kept the list
  pub ready_cut : (mid new : List ℕ) (entry : ZEntry) (kind : Kind) → kind ≡ kind_on d area → entry.cycle ≡ cycle → KeepsList (kind_on d area) (gone d area room) (sector_bytes d area sector) mid
      → (new ≡ mid) ⊎ (new ≡ guarded kind entry.cycle (n + 2 + 1) mid) → KeepsList (kind_on d area) (gone d area room) (sector_bytes d area sector) new
  ready_cut mid new entry kind still same keeps cut = elim cut [
    | inl is ↦ subst (λ (c : List ℕ). KeepsList (kind_on d area) (gone d area room) (sector_bytes d area sector) c) (sym is) keeps
    | inr is ↦
        subst (λ (c : List ℕ). KeepsList (kind_on d area) (gone d area room) (sector_bytes d area sector) c)
        (sym (is ∙ ap (λ (k : ℕ). guarded kind k (n + 2 + 1) mid) same ∙ ap (λ (k : Kind). guarded k cycle (n + 2 + 1) mid) still))
        (guard_keeps (kind_on d area) (gone d area room) (sector_bytes d area sector) mid cycle n keeps r.of_cycle little r.count)
  ]

  pub ready_done : (new : List ℕ) (entry : ZEntry) → entry ≡ done_entry cycle end → new ≡ with_slot (guarded (kind_on d area) entry.cycle (n + 2 + 1) (sector_bytes d area sector)) (n + 2) (encoded entry) → MarksDone (kind_on d area) (sector_bytes d area sector) new
  ready_done new entry entry_is is =
      let whole = entry_is ∙ ap (λ (k : ℕ). done_entry cycle k) r.end_is in
      let fits = r.fits in
      subst (λ (c : List ℕ). MarksDone (kind_on d area) (sector_bytes d area sector) c) (sym (is ∙ ap (λ (e : ZEntry). with_slot (guarded (kind_on d area) e.cycle (n + 2 + 1) (sector_bytes d area sector)) (n + 2) (encoded e)) whole))
      (done_put (kind_on d area) (sector_bytes d area sector) cycle n r.sound r.of_cycle (omega (arith, fits)) r.count)

-- the value of an entry stands in the sector
pub ready_value : (d : Device) (area : Area) (sector cycle n end : ℕ) (bytes mid : List ℕ) → IsReady d area sector cycle n end (data_len (length bytes)) → mid ≡ with_value (sector_bytes d area sector) end bytes → KeepsList (kind_on d area) (gone d area (data_len (length bytes))) (sector_bytes d area sector) mid
ready_value d area sector cycle n end bytes mid r is =
    subst (λ (c : List ℕ). KeepsList (kind_on d area) (gone d area (data_len (length bytes))) (sector_bytes d area sector) c) (sym (is ∙ ap (λ (k : ℕ). with_value (sector_bytes d area sector) k bytes) r.end_is))
    (value_kept (kind_on d area) (sector_bytes d area sector) cycle bytes r.of_cycle r.sound r.fits)

pub ready_pair : (d : Device) (area : Area) (sector cycle n end id : ℕ) (bytes mid new : List ℕ) (entry : ZEntry) (kind : Kind) → kind ≡ kind_on d area → IsReady d area sector cycle n end (data_len (length bytes)) → id < 0xFFFFFFFF → mid ≡ with_value (sector_bytes d area sector) end bytes
    → entry ≡ value_entry cycle id bytes end → new ≡ with_slot (guarded kind entry.cycle (n + 2 + 1) mid) (n + 2) (encoded entry) → AddsPair (kind_on d area) (sector_bytes d area sector) new id bytes
ready_pair d area sector cycle n end id bytes mid new entry kind still r ordinary mid_is entry_is is =
    let whole = entry_is ∙ ap (λ (k : ℕ). value_entry cycle id bytes k) r.end_is in
    let at = data_end (kind_on d area) (sector_bytes d area sector) in
    let value : mid ≡ with_value (sector_bytes d area sector) (data_end (kind_on d area) (sector_bytes d area sector)) bytes = mid_is ∙ ap (λ (k : ℕ). with_value (sector_bytes d area sector) k bytes) r.end_is in
    let size : length (sector_bytes d area sector) ≤ 2 ^ 15 = let long = r.long in let small = r.small in omega arith in
    subst (λ (c : List ℕ). AddsPair (kind_on d area) (sector_bytes d area sector) c id bytes)
    (sym (is ∙ ap (λ (e : ZEntry). with_slot (guarded kind e.cycle (n + 2 + 1) mid) (n + 2) (encoded e)) whole ∙ ap (λ (k : Kind). with_slot (guarded k cycle (n + 2 + 1) mid) (n + 2) (encoded (value_entry cycle id bytes (data_end (kind_on d area) (sector_bytes d area sector))))) still))
    (pair_put (kind_on d area) (sector_bytes d area sector) mid cycle n id bytes r.sound size r.of_cycle r.count ordinary r.fits (ready_value d area sector cycle n end bytes mid r mid_is)
    (λ long. ap (λ (c : List ℕ). slice_range c at (at + length bytes)) value ∙ value_stored (sector_bytes d area sector) at bytes r.fits long)
    (λ long. ap (λ (c : List ℕ). slice_range c at (at + data_len (length bytes))) value ∙ units_stored (sector_bytes d area sector) at bytes r.fits long))

pub ready_short : (d : Device) (area : Area) (sector cycle n end : ℕ) (bytes : List ℕ) → IsReady d area sector cycle n end (data_len (length bytes)) → length bytes < 2 ^ 16
ready_short d area sector cycle n end bytes r = elim (cases_Bool (leb (length bytes) 8)) [
  | inl tiny ↦ let le = leb-true (length bytes) 8 tiny in omega arith
  | inr long ↦
      let some = data_len-long (length bytes) long in
      let rounded = pad (length bytes) in
      let fits = r.fits in
      let size = r.long in
      let small = r.small in
      omega arith
]
