-- Small areas, read by the definitions. The answers are those of an independent reading in Python.
use Rattle.std.proofs.Common.{◌≡◌, ℕ, List, [], ◌∷◌, Option, Some, None, refl}
use Rattle.crc8_entry.specs.Crc.{crc, extended, bits_of}
use Rattle.flash_map.specs.Units.{padded}
use Rattle.flash_map.specs.declared.faults.Damaged.{Damaged}
use Rattle.flash_map.specs.declared.faults.Why.TheVariants.{BadHeader, BadSequence, Overfull, Dirty}
use Rattle.fcb_ring.specs.Records.{body_len, field_width, has_record, checks_at, record_of, record_at, records, records_end}
use Rattle.fcb_ring.specs.SectorStates.{is_torn, id_of, state_of}
use Rattle.fcb_ring.specs.Rings.{turned, oldest_place, second_start, counts, counting, first_damage}
use Rattle.fcb_ring.specs.Entries.{states, sector_entries, entries, bodies}

-- how an area reads
data AreaList : Type 0 where
  IsDamaged : Damaged → AreaList
  Lists : List (List ℕ) → AreaList

abbrev list_or : Option Damaged → List (List ℕ) → AreaList
list_or None list = Lists list
list_or (Some damaged) list = IsDamaged damaged

-- the area's list
abbrev area_list : ℕ → List (List ℕ) → AreaList
area_list unit sectors = list_or (first_damage (states unit sectors)) (bodies (entries unit sectors))

abbrev sector_1 : List ℕ
sector_1 = 255 ∷ 255 ∷ 255 ∷ 255 ∷ 255 ∷ 255 ∷ 255 ∷ 255 ∷ 255 ∷ 255 ∷ 255 ∷ 255 ∷ 255 ∷ 255 ∷ 255 ∷ 255 ∷ 255 ∷ 255 ∷ 255 ∷ 255 ∷ 255 ∷ 255 ∷ 255 ∷ 255 ∷ 255 ∷ 255 ∷ 255 ∷ 255 ∷ 255 ∷ 255 ∷ 255 ∷ 255 ∷ 255 ∷ 255 ∷ 255 ∷ 255 ∷ 255 ∷ 255 ∷ 255 ∷ 255 ∷ 255 ∷ 255 ∷ 255 ∷ 255 ∷ 255 ∷ 255 ∷ 255 ∷ 255 ∷ []

abbrev sector_2 : List ℕ
sector_2 = 238 ∷ 238 ∷ 255 ∷ 192 ∷ 1 ∷ 255 ∷ 0 ∷ 0 ∷ 3 ∷ 255 ∷ 255 ∷ 255 ∷ 97 ∷ 61 ∷ 1 ∷ 255 ∷ 82 ∷ 255 ∷ 255 ∷ 255 ∷ 255 ∷ 255 ∷ 255 ∷ 255 ∷ 255 ∷ 255 ∷ 255 ∷ 255 ∷ 255 ∷ 255 ∷ 255 ∷ 255 ∷ 255 ∷ 255 ∷ 255 ∷ 255 ∷ 255 ∷ 255 ∷ 255 ∷ 255 ∷ 255 ∷ 255 ∷ 255 ∷ 255 ∷ 255 ∷ 255 ∷ 255 ∷ 255 ∷ []

abbrev sector_3 : List ℕ
sector_3 = 238 ∷ 238 ∷ 255 ∷ 192 ∷ 1 ∷ 255 ∷ 0 ∷ 0 ∷ 3 ∷ 255 ∷ 255 ∷ 255 ∷ 97 ∷ 61 ∷ 1 ∷ 255 ∷ 83 ∷ 255 ∷ 255 ∷ 255 ∷ 3 ∷ 255 ∷ 255 ∷ 255 ∷ 98 ∷ 61 ∷ 2 ∷ 255 ∷ 230 ∷ 255 ∷ 255 ∷ 255 ∷ 255 ∷ 255 ∷ 255 ∷ 255 ∷ 255 ∷ 255 ∷ 255 ∷ 255 ∷ 255 ∷ 255 ∷ 255 ∷ 255 ∷ 255 ∷ 255 ∷ 255 ∷ 255 ∷ []

abbrev sector_4 : List ℕ
sector_4 = 238 ∷ 238 ∷ 255 ∷ 192 ∷ 1 ∷ 255 ∷ 0 ∷ 0 ∷ 0 ∷ 255 ∷ 255 ∷ 255 ∷ 243 ∷ 255 ∷ 255 ∷ 255 ∷ 255 ∷ 255 ∷ 255 ∷ 255 ∷ 255 ∷ 255 ∷ 255 ∷ 255 ∷ 255 ∷ 255 ∷ 255 ∷ 255 ∷ 255 ∷ 255 ∷ 255 ∷ 255 ∷ 255 ∷ 255 ∷ 255 ∷ 255 ∷ 255 ∷ 255 ∷ 255 ∷ 255 ∷ 255 ∷ 255 ∷ 255 ∷ 255 ∷ 255 ∷ 255 ∷ 255 ∷ 255 ∷ []

abbrev sector_5 : List ℕ
sector_5 = 238 ∷ 238 ∷ 255 ∷ 192 ∷ 255 ∷ 255 ∷ 255 ∷ 255 ∷ 255 ∷ 255 ∷ 255 ∷ 255 ∷ 255 ∷ 255 ∷ 255 ∷ 255 ∷ 255 ∷ 255 ∷ 255 ∷ 255 ∷ 255 ∷ 255 ∷ 255 ∷ 255 ∷ 255 ∷ 255 ∷ 255 ∷ 255 ∷ 255 ∷ 255 ∷ 255 ∷ 255 ∷ 255 ∷ 255 ∷ 255 ∷ 255 ∷ 255 ∷ 255 ∷ 255 ∷ 255 ∷ 255 ∷ 255 ∷ 255 ∷ 255 ∷ 255 ∷ 255 ∷ 255 ∷ 255 ∷ []

abbrev sector_6 : List ℕ
sector_6 = 238 ∷ 238 ∷ 255 ∷ 192 ∷ 1 ∷ 255 ∷ 8 ∷ 0 ∷ 1 ∷ 255 ∷ 255 ∷ 255 ∷ 97 ∷ 255 ∷ 255 ∷ 255 ∷ 226 ∷ 255 ∷ 255 ∷ 255 ∷ 255 ∷ 255 ∷ 255 ∷ 255 ∷ 255 ∷ 255 ∷ 255 ∷ 255 ∷ 255 ∷ 255 ∷ 255 ∷ 255 ∷ 255 ∷ 255 ∷ 255 ∷ 255 ∷ 255 ∷ 255 ∷ 255 ∷ 255 ∷ 255 ∷ 255 ∷ 255 ∷ 255 ∷ 255 ∷ 255 ∷ 255 ∷ 255 ∷ []

abbrev sector_7 : List ℕ
sector_7 = 238 ∷ 238 ∷ 255 ∷ 192 ∷ 1 ∷ 255 ∷ 7 ∷ 0 ∷ 1 ∷ 255 ∷ 255 ∷ 255 ∷ 98 ∷ 255 ∷ 255 ∷ 255 ∷ 235 ∷ 255 ∷ 255 ∷ 255 ∷ 255 ∷ 255 ∷ 255 ∷ 255 ∷ 255 ∷ 255 ∷ 255 ∷ 255 ∷ 255 ∷ 255 ∷ 255 ∷ 255 ∷ 255 ∷ 255 ∷ 255 ∷ 255 ∷ 255 ∷ 255 ∷ 255 ∷ 255 ∷ 255 ∷ 255 ∷ 255 ∷ 255 ∷ 255 ∷ 255 ∷ 255 ∷ 255 ∷ []

abbrev sector_8 : List ℕ
sector_8 = 238 ∷ 238 ∷ 255 ∷ 192 ∷ 1 ∷ 255 ∷ 255 ∷ 255 ∷ 1 ∷ 255 ∷ 255 ∷ 255 ∷ 97 ∷ 255 ∷ 255 ∷ 255 ∷ 226 ∷ 255 ∷ 255 ∷ 255 ∷ 255 ∷ 255 ∷ 255 ∷ 255 ∷ 255 ∷ 255 ∷ 255 ∷ 255 ∷ 255 ∷ 255 ∷ 255 ∷ 255 ∷ 255 ∷ 255 ∷ 255 ∷ 255 ∷ 255 ∷ 255 ∷ 255 ∷ 255 ∷ 255 ∷ 255 ∷ 255 ∷ 255 ∷ 255 ∷ 255 ∷ 255 ∷ 255 ∷ []

abbrev sector_9 : List ℕ
sector_9 = 238 ∷ 238 ∷ 255 ∷ 192 ∷ 1 ∷ 255 ∷ 0 ∷ 0 ∷ 1 ∷ 255 ∷ 255 ∷ 255 ∷ 98 ∷ 255 ∷ 255 ∷ 255 ∷ 235 ∷ 255 ∷ 255 ∷ 255 ∷ 255 ∷ 255 ∷ 255 ∷ 255 ∷ 255 ∷ 255 ∷ 255 ∷ 255 ∷ 255 ∷ 255 ∷ 255 ∷ 255 ∷ 255 ∷ 255 ∷ 255 ∷ 255 ∷ 255 ∷ 255 ∷ 255 ∷ 255 ∷ 255 ∷ 255 ∷ 255 ∷ 255 ∷ 255 ∷ 255 ∷ 255 ∷ 255 ∷ []

abbrev sector_10 : List ℕ
sector_10 = 238 ∷ 238 ∷ 255 ∷ 192 ∷ 1 ∷ 255 ∷ 5 ∷ 0 ∷ 1 ∷ 255 ∷ 255 ∷ 255 ∷ 97 ∷ 255 ∷ 255 ∷ 255 ∷ 226 ∷ 255 ∷ 255 ∷ 255 ∷ 255 ∷ 255 ∷ 255 ∷ 255 ∷ 255 ∷ 255 ∷ 255 ∷ 255 ∷ 255 ∷ 255 ∷ 255 ∷ 255 ∷ 255 ∷ 255 ∷ 255 ∷ 255 ∷ 255 ∷ 255 ∷ 255 ∷ 255 ∷ 255 ∷ 255 ∷ 255 ∷ 255 ∷ 255 ∷ 255 ∷ 255 ∷ 255 ∷ []

abbrev sector_11 : List ℕ
sector_11 = 238 ∷ 238 ∷ 255 ∷ 192 ∷ 1 ∷ 255 ∷ 6 ∷ 0 ∷ 1 ∷ 255 ∷ 255 ∷ 255 ∷ 98 ∷ 255 ∷ 255 ∷ 255 ∷ 235 ∷ 255 ∷ 255 ∷ 255 ∷ 255 ∷ 255 ∷ 255 ∷ 255 ∷ 255 ∷ 255 ∷ 255 ∷ 255 ∷ 255 ∷ 255 ∷ 255 ∷ 255 ∷ 255 ∷ 255 ∷ 255 ∷ 255 ∷ 255 ∷ 255 ∷ 255 ∷ 255 ∷ 255 ∷ 255 ∷ 255 ∷ 255 ∷ 255 ∷ 255 ∷ 255 ∷ 255 ∷ []

abbrev sector_12 : List ℕ
sector_12 = 238 ∷ 238 ∷ 255 ∷ 192 ∷ 1 ∷ 255 ∷ 6 ∷ 0 ∷ 127 ∷ 255 ∷ 255 ∷ 255 ∷ 255 ∷ 255 ∷ 255 ∷ 255 ∷ 255 ∷ 255 ∷ 255 ∷ 255 ∷ 255 ∷ 255 ∷ 255 ∷ 255 ∷ 255 ∷ 255 ∷ 255 ∷ 255 ∷ 255 ∷ 255 ∷ 255 ∷ 255 ∷ 255 ∷ 255 ∷ 255 ∷ 255 ∷ 255 ∷ 255 ∷ 255 ∷ 255 ∷ 255 ∷ 255 ∷ 255 ∷ 255 ∷ 255 ∷ 255 ∷ 255 ∷ 255 ∷ []

abbrev sector_13 : List ℕ
sector_13 = 0 ∷ 255 ∷ 255 ∷ 255 ∷ 255 ∷ 255 ∷ 255 ∷ 255 ∷ 255 ∷ 255 ∷ 255 ∷ 255 ∷ 255 ∷ 255 ∷ 255 ∷ 255 ∷ 255 ∷ 255 ∷ 255 ∷ 255 ∷ 255 ∷ 255 ∷ 255 ∷ 255 ∷ 255 ∷ 255 ∷ 255 ∷ 255 ∷ 255 ∷ 255 ∷ 255 ∷ 255 ∷ 255 ∷ 255 ∷ 255 ∷ 255 ∷ 255 ∷ 255 ∷ 255 ∷ 255 ∷ 255 ∷ 255 ∷ 255 ∷ 255 ∷ 255 ∷ 255 ∷ 255 ∷ 255 ∷ []

abbrev sector_14 : List ℕ
sector_14 = 238 ∷ 238 ∷ 255 ∷ 192 ∷ 2 ∷ 255 ∷ 6 ∷ 0 ∷ 255 ∷ 255 ∷ 255 ∷ 255 ∷ 255 ∷ 255 ∷ 255 ∷ 255 ∷ 255 ∷ 255 ∷ 255 ∷ 255 ∷ 255 ∷ 255 ∷ 255 ∷ 255 ∷ 255 ∷ 255 ∷ 255 ∷ 255 ∷ 255 ∷ 255 ∷ 255 ∷ 255 ∷ 255 ∷ 255 ∷ 255 ∷ 255 ∷ 255 ∷ 255 ∷ 255 ∷ 255 ∷ 255 ∷ 255 ∷ 255 ∷ 255 ∷ 255 ∷ 255 ∷ 255 ∷ 255 ∷ []

abbrev sector_15 : List ℕ
sector_15 = 238 ∷ 238 ∷ 255 ∷ 192 ∷ 1 ∷ 255 ∷ 0 ∷ 0 ∷ 255 ∷ 255 ∷ 255 ∷ 255 ∷ 255 ∷ 255 ∷ 255 ∷ 255 ∷ 255 ∷ 255 ∷ 255 ∷ 255 ∷ 255 ∷ 255 ∷ 255 ∷ 255 ∷ 255 ∷ 255 ∷ 255 ∷ 255 ∷ 255 ∷ 255 ∷ 255 ∷ 255 ∷ 255 ∷ 255 ∷ 255 ∷ 255 ∷ 255 ∷ 255 ∷ 255 ∷ 255 ∷ 255 ∷ 255 ∷ 255 ∷ 255 ∷ 255 ∷ 255 ∷ 255 ∷ 255 ∷ []

abbrev sector_16 : List ℕ
sector_16 = 238 ∷ 238 ∷ 255 ∷ 192 ∷ 1 ∷ 255 ∷ 5 ∷ 0 ∷ 255 ∷ 255 ∷ 255 ∷ 255 ∷ 255 ∷ 255 ∷ 255 ∷ 255 ∷ 255 ∷ 255 ∷ 255 ∷ 255 ∷ 255 ∷ 255 ∷ 255 ∷ 255 ∷ 255 ∷ 255 ∷ 255 ∷ 255 ∷ 255 ∷ 255 ∷ 255 ∷ 255 ∷ 255 ∷ 255 ∷ 255 ∷ 255 ∷ 255 ∷ 255 ∷ 255 ∷ 255 ∷ 255 ∷ 255 ∷ 255 ∷ 255 ∷ 255 ∷ 255 ∷ 255 ∷ 255 ∷ []

abbrev sector_17 : List ℕ
sector_17 = 238 ∷ 238 ∷ 255 ∷ 192 ∷ 1 ∷ 255 ∷ 1 ∷ 0 ∷ 255 ∷ 255 ∷ 255 ∷ 255 ∷ 255 ∷ 255 ∷ 255 ∷ 255 ∷ 255 ∷ 255 ∷ 255 ∷ 255 ∷ 255 ∷ 255 ∷ 255 ∷ 255 ∷ 255 ∷ 255 ∷ 255 ∷ 255 ∷ 255 ∷ 255 ∷ 255 ∷ 255 ∷ 255 ∷ 255 ∷ 255 ∷ 255 ∷ 255 ∷ 255 ∷ 255 ∷ 255 ∷ 255 ∷ 255 ∷ 255 ∷ 255 ∷ 255 ∷ 255 ∷ 255 ∷ 255 ∷ []

abbrev sector_18 : List ℕ
sector_18 = 238 ∷ 238 ∷ 255 ∷ 192 ∷ 1 ∷ 255 ∷ 0 ∷ 0 ∷ 255 ∷ 127 ∷ 255 ∷ 255 ∷ 255 ∷ 255 ∷ 255 ∷ 255 ∷ 255 ∷ 255 ∷ 255 ∷ 255 ∷ 255 ∷ 255 ∷ 255 ∷ 255 ∷ 255 ∷ 255 ∷ 255 ∷ 255 ∷ 255 ∷ 255 ∷ 255 ∷ 255 ∷ 255 ∷ 255 ∷ 255 ∷ 255 ∷ 255 ∷ 255 ∷ 255 ∷ 255 ∷ 255 ∷ 255 ∷ 255 ∷ 255 ∷ 255 ∷ 255 ∷ 255 ∷ 255 ∷ []

abbrev sector_19 : List ℕ
sector_19 = 238 ∷ 238 ∷ 255 ∷ 192 ∷ 1 ∷ 255 ∷ 0 ∷ 0 ∷ 255 ∷ 255 ∷ 255 ∷ 255 ∷ 255 ∷ 255 ∷ 255 ∷ 255 ∷ 255 ∷ 255 ∷ 255 ∷ 255 ∷ 255 ∷ 255 ∷ 255 ∷ 255 ∷ 255 ∷ 255 ∷ 255 ∷ 255 ∷ 255 ∷ 255 ∷ 255 ∷ 255 ∷ 255 ∷ 255 ∷ 255 ∷ 255 ∷ 255 ∷ 255 ∷ 255 ∷ 255 ∷ 0 ∷ 255 ∷ 255 ∷ 255 ∷ 255 ∷ 255 ∷ 255 ∷ 255 ∷ []

abbrev sector_20 : List ℕ
sector_20 = 238 ∷ 238 ∷ 255 ∷ 192 ∷ 1 ∷ 255 ∷ 0 ∷ 0 ∷ 1 ∷ 255 ∷ 255 ∷ 255 ∷ 97 ∷ 255 ∷ 255 ∷ 255 ∷ 226 ∷ 255 ∷ 255 ∷ 255 ∷ 255 ∷ 255 ∷ 0 ∷ 255 ∷ 255 ∷ 255 ∷ 255 ∷ 255 ∷ 255 ∷ 255 ∷ 255 ∷ 255 ∷ 255 ∷ 255 ∷ 255 ∷ 255 ∷ 255 ∷ 255 ∷ 255 ∷ 255 ∷ 255 ∷ 255 ∷ 255 ∷ 255 ∷ 255 ∷ 255 ∷ 255 ∷ 255 ∷ []

abbrev sector_21 : List ℕ
sector_21 = 238 ∷ 238 ∷ 255 ∷ 192 ∷ 1 ∷ 255 ∷ 1 ∷ 0 ∷ 255 ∷ 255 ∷ 255 ∷ 255 ∷ 0 ∷ 255 ∷ 255 ∷ 255 ∷ 255 ∷ 255 ∷ 255 ∷ 255 ∷ 255 ∷ 255 ∷ 255 ∷ 255 ∷ 255 ∷ 255 ∷ 255 ∷ 255 ∷ 255 ∷ 255 ∷ 255 ∷ 255 ∷ 255 ∷ 255 ∷ 255 ∷ 255 ∷ 255 ∷ 255 ∷ 255 ∷ 255 ∷ 255 ∷ 255 ∷ 255 ∷ 255 ∷ 255 ∷ 255 ∷ 255 ∷ 255 ∷ []

abbrev sector_22 : List ℕ
sector_22 = 238 ∷ 238 ∷ 255 ∷ 192 ∷ 1 ∷ 255 ∷ 2 ∷ 0 ∷ 32 ∷ 255 ∷ 255 ∷ 255 ∷ 255 ∷ 255 ∷ 255 ∷ 255 ∷ 255 ∷ 255 ∷ 255 ∷ 255 ∷ 255 ∷ 255 ∷ 255 ∷ 255 ∷ 255 ∷ 255 ∷ 255 ∷ 255 ∷ 255 ∷ 255 ∷ 255 ∷ 255 ∷ 255 ∷ 255 ∷ 255 ∷ 255 ∷ 255 ∷ 255 ∷ 255 ∷ 255 ∷ 255 ∷ 255 ∷ 255 ∷ 255 ∷ 255 ∷ 255 ∷ 255 ∷ 255 ∷ []

abbrev sector_23 : List ℕ
sector_23 = 238 ∷ 238 ∷ 255 ∷ 192 ∷ 1 ∷ 255 ∷ 0 ∷ 0 ∷ 133 ∷ 1 ∷ 255 ∷ 255 ∷ 0 ∷ 7 ∷ 14 ∷ 21 ∷ 28 ∷ 35 ∷ 42 ∷ 49 ∷ 56 ∷ 63 ∷ 70 ∷ 77 ∷ 84 ∷ 91 ∷ 98 ∷ 105 ∷ 112 ∷ 119 ∷ 126 ∷ 133 ∷ 140 ∷ 147 ∷ 154 ∷ 161 ∷ 168 ∷ 175 ∷ 182 ∷ 189 ∷ 196 ∷ 203 ∷ 210 ∷ 217 ∷ 224 ∷ 231 ∷ 238 ∷ 245 ∷ 1 ∷ 8 ∷ 15 ∷ 22 ∷ 29 ∷ 36 ∷ 43 ∷ 50 ∷ 57 ∷ 64 ∷ 71 ∷ 78 ∷ 85 ∷ 92 ∷ 99 ∷ 106 ∷ 113 ∷ 120 ∷ 127 ∷ 134 ∷ 141 ∷ 148 ∷ 155 ∷ 162 ∷ 169 ∷ 176 ∷ 183 ∷ 190 ∷ 197 ∷ 204 ∷ 211 ∷ 218 ∷ 225 ∷ 232 ∷ 239 ∷ 246 ∷ 2 ∷ 9 ∷ 16 ∷ 23 ∷ 30 ∷ 37 ∷ 44 ∷ 51 ∷ 58 ∷ 65 ∷ 72 ∷ 79 ∷ 86 ∷ 93 ∷ 100 ∷ 107 ∷ 114 ∷ 121 ∷ 128 ∷ 135 ∷ 142 ∷ 149 ∷ 156 ∷ 163 ∷ 170 ∷ 177 ∷ 184 ∷ 191 ∷ 198 ∷ 205 ∷ 212 ∷ 219 ∷ 226 ∷ 233 ∷ 240 ∷ 247 ∷ 3 ∷ 10 ∷ 17 ∷ 24 ∷ 31 ∷ 38 ∷ 45 ∷ 52 ∷ 59 ∷ 66 ∷ 73 ∷ 80 ∷ 87 ∷ 94 ∷ 101 ∷ 108 ∷ 115 ∷ 122 ∷ 129 ∷ 136 ∷ 143 ∷ 150 ∷ 157 ∷ 164 ∷ 171 ∷ 255 ∷ 255 ∷ 255 ∷ 239 ∷ 255 ∷ 255 ∷ 255 ∷ 255 ∷ 255 ∷ 255 ∷ 255 ∷ 255 ∷ 255 ∷ 255 ∷ 255 ∷ 255 ∷ 255 ∷ 255 ∷ 255 ∷ 255 ∷ 255 ∷ 255 ∷ 255 ∷ 255 ∷ 255 ∷ 255 ∷ 255 ∷ 255 ∷ 255 ∷ 255 ∷ 255 ∷ []

abbrev sector_24 : List ℕ
sector_24 = 255 ∷ 255 ∷ 255 ∷ 255 ∷ 255 ∷ 255 ∷ 255 ∷ 255 ∷ 255 ∷ 255 ∷ 255 ∷ 255 ∷ 255 ∷ 255 ∷ 255 ∷ 255 ∷ 255 ∷ 255 ∷ 255 ∷ 255 ∷ 255 ∷ 255 ∷ 255 ∷ 255 ∷ 255 ∷ 255 ∷ 255 ∷ 255 ∷ 255 ∷ 255 ∷ 255 ∷ 255 ∷ 255 ∷ 255 ∷ 255 ∷ 255 ∷ 255 ∷ 255 ∷ 255 ∷ 255 ∷ 255 ∷ 255 ∷ 255 ∷ 255 ∷ 255 ∷ 255 ∷ 255 ∷ 255 ∷ 255 ∷ 255 ∷ 255 ∷ 255 ∷ 255 ∷ 255 ∷ 255 ∷ 255 ∷ 255 ∷ 255 ∷ 255 ∷ 255 ∷ 255 ∷ 255 ∷ 255 ∷ 255 ∷ 255 ∷ 255 ∷ 255 ∷ 255 ∷ 255 ∷ 255 ∷ 255 ∷ 255 ∷ 255 ∷ 255 ∷ 255 ∷ 255 ∷ 255 ∷ 255 ∷ 255 ∷ 255 ∷ 255 ∷ 255 ∷ 255 ∷ 255 ∷ 255 ∷ 255 ∷ 255 ∷ 255 ∷ 255 ∷ 255 ∷ 255 ∷ 255 ∷ 255 ∷ 255 ∷ 255 ∷ 255 ∷ 255 ∷ 255 ∷ 255 ∷ 255 ∷ 255 ∷ 255 ∷ 255 ∷ 255 ∷ 255 ∷ 255 ∷ 255 ∷ 255 ∷ 255 ∷ 255 ∷ 255 ∷ 255 ∷ 255 ∷ 255 ∷ 255 ∷ 255 ∷ 255 ∷ 255 ∷ 255 ∷ 255 ∷ 255 ∷ 255 ∷ 255 ∷ 255 ∷ 255 ∷ 255 ∷ 255 ∷ 255 ∷ 255 ∷ 255 ∷ 255 ∷ 255 ∷ 255 ∷ 255 ∷ 255 ∷ 255 ∷ 255 ∷ 255 ∷ 255 ∷ 255 ∷ 255 ∷ 255 ∷ 255 ∷ 255 ∷ 255 ∷ 255 ∷ 255 ∷ 255 ∷ 255 ∷ 255 ∷ 255 ∷ 255 ∷ 255 ∷ 255 ∷ 255 ∷ 255 ∷ 255 ∷ 255 ∷ 255 ∷ 255 ∷ 255 ∷ 255 ∷ 255 ∷ 255 ∷ 255 ∷ 255 ∷ 255 ∷ 255 ∷ 255 ∷ 255 ∷ 255 ∷ 255 ∷ 255 ∷ 255 ∷ 255 ∷ 255 ∷ []

abbrev sector_25 : List ℕ
sector_25 = 238 ∷ 238 ∷ 255 ∷ 192 ∷ 1 ∷ 255 ∷ 0 ∷ 0 ∷ 131 ∷ 0 ∷ 255 ∷ 255 ∷ 120 ∷ 121 ∷ 122 ∷ 255 ∷ 64 ∷ 255 ∷ 255 ∷ 255 ∷ 255 ∷ 255 ∷ 255 ∷ 255 ∷ 255 ∷ 255 ∷ 255 ∷ 255 ∷ 255 ∷ 255 ∷ 255 ∷ 255 ∷ 255 ∷ 255 ∷ 255 ∷ 255 ∷ 255 ∷ 255 ∷ 255 ∷ 255 ∷ 255 ∷ 255 ∷ 255 ∷ 255 ∷ 255 ∷ 255 ∷ 255 ∷ 255 ∷ []

abbrev sector_26 : List ℕ
sector_26 = 238 ∷ 238 ∷ 255 ∷ 192 ∷ 1 ∷ 255 ∷ 0 ∷ 0 ∷ 3 ∷ 255 ∷ 255 ∷ 255 ∷ 255 ∷ 255 ∷ 255 ∷ 255 ∷ 97 ∷ 61 ∷ 1 ∷ 255 ∷ 255 ∷ 255 ∷ 255 ∷ 255 ∷ 82 ∷ 255 ∷ 255 ∷ 255 ∷ 255 ∷ 255 ∷ 255 ∷ 255 ∷ 255 ∷ 255 ∷ 255 ∷ 255 ∷ 255 ∷ 255 ∷ 255 ∷ 255 ∷ 255 ∷ 255 ∷ 255 ∷ 255 ∷ 255 ∷ 255 ∷ 255 ∷ 255 ∷ []

abbrev sector_27 : List ℕ
sector_27 = 238 ∷ 238 ∷ 255 ∷ 192 ∷ 1 ∷ 255 ∷ 0 ∷ 0 ∷ 255 ∷ 255 ∷ 255 ∷ 255 ∷ 255 ∷ 255 ∷ 255 ∷ 255 ∷ 3 ∷ 255 ∷ 255 ∷ 255 ∷ 255 ∷ 255 ∷ 255 ∷ 255 ∷ 255 ∷ 255 ∷ 255 ∷ 255 ∷ 255 ∷ 255 ∷ 255 ∷ 255 ∷ 97 ∷ 61 ∷ 1 ∷ 255 ∷ 255 ∷ 255 ∷ 255 ∷ 255 ∷ 255 ∷ 255 ∷ 255 ∷ 255 ∷ 255 ∷ 255 ∷ 255 ∷ 255 ∷ 82 ∷ 255 ∷ 255 ∷ 255 ∷ 255 ∷ 255 ∷ 255 ∷ 255 ∷ 255 ∷ 255 ∷ 255 ∷ 255 ∷ 255 ∷ 255 ∷ 255 ∷ 255 ∷ 255 ∷ 255 ∷ 255 ∷ 255 ∷ 255 ∷ 255 ∷ 255 ∷ 255 ∷ 255 ∷ 255 ∷ 255 ∷ 255 ∷ 255 ∷ 255 ∷ 255 ∷ 255 ∷ []

abbrev sector_28 : List ℕ
sector_28 = 255 ∷ 255 ∷ 255 ∷ 255 ∷ 255 ∷ 255 ∷ 255 ∷ 255 ∷ 255 ∷ 255 ∷ 255 ∷ 255 ∷ 255 ∷ 255 ∷ 255 ∷ 255 ∷ 255 ∷ 255 ∷ 255 ∷ 255 ∷ 255 ∷ 255 ∷ 255 ∷ 255 ∷ 255 ∷ 255 ∷ 255 ∷ 255 ∷ 255 ∷ 255 ∷ 255 ∷ 255 ∷ 255 ∷ 255 ∷ 255 ∷ 255 ∷ 255 ∷ 255 ∷ 255 ∷ 255 ∷ 255 ∷ 255 ∷ 255 ∷ 255 ∷ 255 ∷ 255 ∷ 255 ∷ 255 ∷ 255 ∷ 255 ∷ 255 ∷ 255 ∷ 255 ∷ 255 ∷ 255 ∷ 255 ∷ 255 ∷ 255 ∷ 255 ∷ 255 ∷ 255 ∷ 255 ∷ 255 ∷ 255 ∷ 255 ∷ 255 ∷ 255 ∷ 255 ∷ 255 ∷ 255 ∷ 255 ∷ 255 ∷ 255 ∷ 255 ∷ 255 ∷ 255 ∷ 255 ∷ 255 ∷ 255 ∷ 255 ∷ []

reads-blank : area_list 4 (sector_1 ∷ sector_1 ∷ []) ≡ Lists ([])
unfolding entries sector_entries counting counts oldest_place second_start first_damage turned state_of records records_end record_at record_of checks_at has_record field_width body_len id_of is_torn padded crc extended bits_of
reads-blank = refl

reads-one_record : area_list 4 (sector_2 ∷ sector_1 ∷ []) ≡ Lists ((97 ∷ 61 ∷ 1 ∷ []) ∷ [])
unfolding entries sector_entries counting counts oldest_place second_start first_damage turned state_of records records_end record_at record_of checks_at has_record field_width body_len id_of is_torn padded crc extended bits_of
reads-one_record = refl

reads-passed_over : area_list 4 (sector_3 ∷ sector_1 ∷ []) ≡ Lists ((98 ∷ 61 ∷ 2 ∷ []) ∷ [])
unfolding entries sector_entries counting counts oldest_place second_start first_damage turned state_of records records_end record_at record_of checks_at has_record field_width body_len id_of is_torn padded crc extended bits_of
reads-passed_over = refl

reads-empty_body : area_list 4 (sector_4 ∷ sector_1 ∷ []) ≡ Lists ([] ∷ [])
unfolding entries sector_entries counting counts oldest_place second_start first_damage turned state_of records records_end record_at record_of checks_at has_record field_width body_len id_of is_torn padded crc extended bits_of
reads-empty_body = refl

reads-torn_header : area_list 4 (sector_2 ∷ sector_5 ∷ []) ≡ Lists ((97 ∷ 61 ∷ 1 ∷ []) ∷ [])
unfolding entries sector_entries counting counts oldest_place second_start first_damage turned state_of records records_end record_at record_of checks_at has_record field_width body_len id_of is_torn padded crc extended bits_of
reads-torn_header = refl

reads-round_the_end : area_list 4 (sector_6 ∷ sector_1 ∷ sector_7 ∷ []) ≡ Lists ((98 ∷ []) ∷ (97 ∷ []) ∷ [])
unfolding entries sector_entries counting counts oldest_place second_start first_damage turned state_of records records_end record_at record_of checks_at has_record field_width body_len id_of is_torn padded crc extended bits_of
reads-round_the_end = refl

reads-ids_go_round : area_list 4 (sector_8 ∷ sector_9 ∷ sector_1 ∷ []) ≡ Lists ((97 ∷ []) ∷ (98 ∷ []) ∷ [])
unfolding entries sector_entries counting counts oldest_place second_start first_damage turned state_of records records_end record_at record_of checks_at has_record field_width body_len id_of is_torn padded crc extended bits_of
reads-ids_go_round = refl

reads-no_sector_free : area_list 4 (sector_10 ∷ sector_11 ∷ []) ≡ Lists ((97 ∷ []) ∷ [])
unfolding entries sector_entries counting counts oldest_place second_start first_damage turned state_of records records_end record_at record_of checks_at has_record field_width body_len id_of is_torn padded crc extended bits_of
reads-no_sector_free = refl

reads-newest_not_looked_at : area_list 4 (sector_10 ∷ sector_12 ∷ []) ≡ Lists ((97 ∷ []) ∷ [])
unfolding entries sector_entries counting counts oldest_place second_start first_damage turned state_of records records_end record_at record_of checks_at has_record field_width body_len id_of is_torn padded crc extended bits_of
reads-newest_not_looked_at = refl

reads-bad_header : area_list 4 (sector_13 ∷ sector_1 ∷ []) ≡ IsDamaged (record { sector = 0; why = BadHeader })
unfolding entries sector_entries counting counts oldest_place second_start first_damage turned state_of records records_end record_at record_of checks_at has_record field_width body_len id_of is_torn padded crc extended bits_of
reads-bad_header = refl

reads-newest_bad_header : area_list 4 (sector_10 ∷ sector_14 ∷ []) ≡ IsDamaged (record { sector = 1; why = BadHeader })
unfolding entries sector_entries counting counts oldest_place second_start first_damage turned state_of records records_end record_at record_of checks_at has_record field_width body_len id_of is_torn padded crc extended bits_of
reads-newest_bad_header = refl

reads-bad_sequence : area_list 4 (sector_15 ∷ sector_16 ∷ []) ≡ IsDamaged (record { sector = 0; why = BadSequence })
unfolding entries sector_entries counting counts oldest_place second_start first_damage turned state_of records records_end record_at record_of checks_at has_record field_width body_len id_of is_torn padded crc extended bits_of
reads-bad_sequence = refl

reads-bad_sequence_with_gap : area_list 4 (sector_15 ∷ sector_1 ∷ sector_17 ∷ sector_1 ∷ []) ≡ IsDamaged (record { sector = 0; why = BadSequence })
unfolding entries sector_entries counting counts oldest_place second_start first_damage turned state_of records records_end record_at record_of checks_at has_record field_width body_len id_of is_torn padded crc extended bits_of
reads-bad_sequence_with_gap = refl

reads-overfull : area_list 4 (sector_18 ∷ sector_1 ∷ []) ≡ IsDamaged (record { sector = 0; why = Overfull })
unfolding entries sector_entries counting counts oldest_place second_start first_damage turned state_of records records_end record_at record_of checks_at has_record field_width body_len id_of is_torn padded crc extended bits_of
reads-overfull = refl

reads-dirty : area_list 4 (sector_19 ∷ sector_1 ∷ []) ≡ IsDamaged (record { sector = 0; why = Dirty })
unfolding entries sector_entries counting counts oldest_place second_start first_damage turned state_of records records_end record_at record_of checks_at has_record field_width body_len id_of is_torn padded crc extended bits_of
reads-dirty = refl

reads-dirty_behind_records : area_list 4 (sector_20 ∷ sector_1 ∷ []) ≡ IsDamaged (record { sector = 0; why = Dirty })
unfolding entries sector_entries counting counts oldest_place second_start first_damage turned state_of records records_end record_at record_of checks_at has_record field_width body_len id_of is_torn padded crc extended bits_of
reads-dirty_behind_records = refl

reads-overfull_before_dirty : area_list 4 (sector_21 ∷ sector_22 ∷ sector_1 ∷ []) ≡ IsDamaged (record { sector = 0; why = Dirty })
unfolding entries sector_entries counting counts oldest_place second_start first_damage turned state_of records records_end record_at record_of checks_at has_record field_width body_len id_of is_torn padded crc extended bits_of
reads-overfull_before_dirty = refl

reads-two_bytes : area_list 4 (sector_23 ∷ sector_24 ∷ []) ≡ Lists ((0 ∷ 7 ∷ 14 ∷ 21 ∷ 28 ∷ 35 ∷ 42 ∷ 49 ∷ 56 ∷ 63 ∷ 70 ∷ 77 ∷ 84 ∷ 91 ∷ 98 ∷ 105 ∷ 112 ∷ 119 ∷ 126 ∷ 133 ∷ 140 ∷ 147 ∷ 154 ∷ 161 ∷ 168 ∷ 175 ∷ 182 ∷ 189 ∷ 196 ∷ 203 ∷ 210 ∷ 217 ∷ 224 ∷ 231 ∷ 238 ∷ 245 ∷ 1 ∷ 8 ∷ 15 ∷ 22 ∷ 29 ∷ 36 ∷ 43 ∷ 50 ∷ 57 ∷ 64 ∷ 71 ∷ 78 ∷ 85 ∷ 92 ∷ 99 ∷ 106 ∷ 113 ∷ 120 ∷ 127 ∷ 134 ∷ 141 ∷ 148 ∷ 155 ∷ 162 ∷ 169 ∷ 176 ∷ 183 ∷ 190 ∷ 197 ∷ 204 ∷ 211 ∷ 218 ∷ 225 ∷ 232 ∷ 239 ∷ 246 ∷ 2 ∷ 9 ∷ 16 ∷ 23 ∷ 30 ∷ 37 ∷ 44 ∷ 51 ∷ 58 ∷ 65 ∷ 72 ∷ 79 ∷ 86 ∷ 93 ∷ 100 ∷ 107 ∷ 114 ∷ 121 ∷ 128 ∷ 135 ∷ 142 ∷ 149 ∷ 156 ∷ 163 ∷ 170 ∷ 177 ∷ 184 ∷ 191 ∷ 198 ∷ 205 ∷ 212 ∷ 219 ∷ 226 ∷ 233 ∷ 240 ∷ 247 ∷ 3 ∷ 10 ∷ 17 ∷ 24 ∷ 31 ∷ 38 ∷ 45 ∷ 52 ∷ 59 ∷ 66 ∷ 73 ∷ 80 ∷ 87 ∷ 94 ∷ 101 ∷ 108 ∷ 115 ∷ 122 ∷ 129 ∷ 136 ∷ 143 ∷ 150 ∷ 157 ∷ 164 ∷ 171 ∷ []) ∷ [])
unfolding entries sector_entries counting counts oldest_place second_start first_damage turned state_of records records_end record_at record_of checks_at has_record field_width body_len id_of is_torn padded crc extended bits_of
reads-two_bytes = refl

reads-long_form_of_a_short_length : area_list 4 (sector_25 ∷ sector_1 ∷ []) ≡ Lists ((120 ∷ 121 ∷ 122 ∷ []) ∷ [])
unfolding entries sector_entries counting counts oldest_place second_start first_damage turned state_of records records_end record_at record_of checks_at has_record field_width body_len id_of is_torn padded crc extended bits_of
reads-long_form_of_a_short_length = refl

reads-unit_8 : area_list 8 (sector_26 ∷ sector_1 ∷ []) ≡ Lists ((97 ∷ 61 ∷ 1 ∷ []) ∷ [])
unfolding entries sector_entries counting counts oldest_place second_start first_damage turned state_of records records_end record_at record_of checks_at has_record field_width body_len id_of is_torn padded crc extended bits_of
reads-unit_8 = refl

reads-unit_16 : area_list 16 (sector_27 ∷ sector_28 ∷ []) ≡ Lists ((97 ∷ 61 ∷ 1 ∷ []) ∷ [])
unfolding entries sector_entries counting counts oldest_place second_start first_damage turned state_of records records_end record_at record_of checks_at has_record field_width body_len id_of is_torn padded crc extended bits_of
reads-unit_16 = refl
