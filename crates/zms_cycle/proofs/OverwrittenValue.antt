-- Why the list of a sector is its part of an area's list, where an emptying is cut. In this sector of
-- 512 bytes the entry in slot 2 has a value of sixteen bytes, which stand in slot 1 and are there an entry that is valid under
-- the next cycle. So emptying has to guard slot 1, and a cut behind that leaves the same entry with another value: the bytes
-- of its pair do not stay, and it still has the pair. But the value passes the start of the guard slot, so the sector is
-- overfull, before the guard and behind it, and an overfull sector has no part in a list.
use Rattle.std.proofs.Common.{◌≡◌, ◌⊎◌, ℕ, true, List, [], ◌∷◌, ◌++◌, length, get_or, replicate, Some, None, refl, sym, ap, ◌∙◌, inl, inr, arith}
use Rattle.std.proofs.lemmas.Bool.{cond-true}
use Rattle.flash_sim.specs.declared.flash.Kind.TheVariants.{Rewritable}
use Rattle.flash_map.specs.Units.{padded}
use Rattle.crc8_entry.specs.Crc.{crc, extended, bits_of}
use Rattle.item_laws.specs.Slots.{slot_at, used_slots}
use Rattle.zms_cycle.specs.Entries.{decoded, fill, is_empty}
use Rattle.zms_cycle.specs.Sector.{slot_of, is_valid_under, cycle_of, entry_in, is_under, holds_too_much, is_overfull, pairs, part_of_list}
use Rattle.zms_cycle.specs.Changes.{guarded, next_cycle, reaches_slot_1, guards_over_value}

-- what slot 1 holds: an entry of cycle 2 with the id 9 and one byte
abbrev pub value : List ℕ
value = 252 ∷ 2 ∷ 1 ∷ 0 ∷ 9 ∷ 0 ∷ 0 ∷ 0 ∷ 5 ∷ 0 ∷ 0 ∷ 0 ∷ 0 ∷ 0 ∷ 0 ∷ 0 ∷ []

-- from the start: no data; slot 2 with the entry of cycle 1 for the id 7, of length 16 and offset 480; slot 1; slot 0 with
-- the empty entry of cycle 1
abbrev pub sector : List ℕ
sector = replicate 464 255 ++ (25 ∷ 1 ∷ 16 ∷ 0 ∷ 7 ∷ 0 ∷ 0 ∷ 0 ∷ 224 ∷ 1 ∷ 0 ∷ 0 ∷ 0 ∷ 0 ∷ 0 ∷ 0 ∷ []) ++ value ++ (97 ∷ 1 ∷ 255 ∷ 255 ∷ 255 ∷ 255 ∷ 255 ∷ 255 ∷ 0 ∷ 0 ∷ 0 ∷ 0 ∷ 0 ∷ 0 ∷ 0 ∷ 0 ∷ [])

-- the size of a sector that areas may have
pub long : length sector ≡ 512
long = refl

-- what emptying makes of it before its cut
abbrev pub guarded_sector : List ℕ
guarded_sector = guarded Rewritable (next_cycle (cycle_of sector)) 1 sector

-- the guard is needed
pub is_guarded : is_valid_under (next_cycle (cycle_of sector)) (slot_of sector 1) ≡ true
unfolding slot_at is_valid_under cycle_of decoded is_empty crc extended bits_of
is_guarded = refl

pub over_value : guards_over_value sector ≡ true
unfolding slot_at used_slots is_valid_under cycle_of entry_in reaches_slot_1 decoded is_empty crc extended bits_of
over_value = refl

-- the list before the guard and behind it
abbrev pub before : List (ℕ × List ℕ)
before = (7, value) ∷ []

abbrev pub behind : List (ℕ × List ℕ)
behind = (7, fill) ∷ []

pub list_before : pairs sector ≡ before
unfolding slot_at used_slots is_valid_under cycle_of entry_in decoded is_empty crc extended bits_of
list_before = refl

pub list_behind : pairs guarded_sector ≡ behind
unfolding slot_at used_slots is_valid_under cycle_of entry_in decoded fill is_empty crc extended bits_of
list_behind = refl

-- the first byte of the first value
first_byte : List (ℕ × List ℕ) → ℕ
first_byte [] = 0
first_byte (pair ∷ pairs) = get_or pair.1 0 0

other : behind ≡ before → ⊥
unfolding fill first_byte
other same =
    let bytes : ◌≡◌ {A = ℕ} 111 252 = ap first_byte same in
    absurd (omega arith)

some : behind ≡ [] → ⊥
some none = cc

-- the pairs are not those from before, and there is one
pub neither : (pairs guarded_sector ≡ pairs sector) ⊎ (pairs guarded_sector ≡ []) → ⊥
neither (inl same) = other (sym list_behind ∙ same ∙ list_before)
neither (inr none) = some (sym list_behind ∙ none)

-- the sector is overfull before the guard
pub is_full : is_overfull sector ≡ true
unfolding slot_at used_slots is_valid_under cycle_of entry_in is_under holds_too_much padded decoded is_empty crc extended bits_of
is_full = refl

-- and behind it
pub is_full_behind : is_overfull guarded_sector ≡ true
unfolding slot_at used_slots is_valid_under cycle_of entry_in is_under holds_too_much padded decoded fill is_empty crc extended bits_of
is_full_behind = refl

-- so it has no list, neither before the guard nor behind it
pub no_list : (part_of_list sector ≡ None) × (part_of_list guarded_sector ≡ None)
no_list = (
  cond-true (is_overfull sector) None (Some (pairs sector)) is_full,
  cond-true (is_overfull guarded_sector) None (Some (pairs guarded_sector)) is_full_behind,
)
