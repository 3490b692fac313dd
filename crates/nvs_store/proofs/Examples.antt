-- Areas of unit 4 that are read by the definitions, and what a step leaves. The answers are those of another program, over the same bytes.
use Rattle.std.proofs.Common.{◌≡◌, ℕ, true, false, List, [], ◌∷◌, ◌++◌, map, replicate, Option, Some, None, refl}
use Rattle.crc8_entry.specs.Crc.{crc, extended, bits_of}
use Rattle.flash_map.specs.Units.{padded}
use Rattle.flash_map.specs.declared.faults.Damaged.{Damaged}
use Rattle.flash_map.specs.declared.faults.Why.TheVariants.{AllClosed, TwoOpen, Dirty, NoFence, Overfull}
use Rattle.item_laws.specs.Area.{area_pairs, first_damage, open_sector}
use Rattle.item_laws.specs.Slots as shared
use Rattle.nvs_store.specs.declared.scan.Scan.{Scan}
use Rattle.nvs_store.specs.declared.scan.Redo.TheVariants.{Nothing, EraseNext, CollectAgain}
use Rattle.nvs_store.specs.Geometry.{slot_size}
use Rattle.nvs_store.specs.Entries.{encoded, decoded}
use Rattle.nvs_store.specs.Images.{after_append, after_gc_done, after_close}
use Rattle.flash_map.specs.Units.{written_end}
use Rattle.nvs_store.specs.Sector.{counting_entry, is_gc_done, data_end}
use Rattle.nvs_store.specs.Scans.{all_placed, damage_of, list_of, scan_of}

-- what is read of an area
pub record IsRead : Type 0 where
  pub damage : Option Damaged
  pub scan : Scan
  -- the sectors and slots of the entries
  pub places : List (ℕ × ℕ)
  pub list : List (ℕ × List ℕ)

abbrev pub read : ℕ → List (List ℕ) → IsRead
read unit sectors = record { damage = damage_of unit sectors; scan = scan_of unit sectors; places = map (λ f. (f.sector, f.slot)) (all_placed unit sectors); list = list_of unit sectors }

-- sectors of 512 bytes
worked-all_closed : damage_of 4 ((replicate 511 255 ++ (0 ∷ [])) ∷ (replicate 511 255 ++ (0 ∷ [])) ∷ []) ≡ Some (record { sector = 0; why = AllClosed })
unfolding area_pairs first_damage open_sector shared.slot_at shared.used_slots counting_entry is_gc_done written_end data_end padded slot_size decoded crc extended bits_of
worked-all_closed = refl

-- sectors of 512 bytes
worked-two_open : damage_of 4 ((replicate 511 255 ++ (0 ∷ [])) ∷ (replicate 512 255) ∷ (replicate 511 255 ++ (0 ∷ [])) ∷ (replicate 512 255) ∷ []) ≡ Some (record { sector = 3; why = TwoOpen })
unfolding area_pairs first_damage open_sector shared.slot_at shared.used_slots counting_entry is_gc_done written_end data_end padded slot_size decoded crc extended bits_of
worked-two_open = refl

-- sectors of 512 bytes
worked-dirty : damage_of 4 (((0 ∷ []) ++ replicate 511 255) ∷ ((0 ∷ []) ++ replicate 511 255) ∷ []) ≡ Some (record { sector = 1; why = Dirty })
unfolding area_pairs first_damage open_sector shared.slot_at shared.used_slots counting_entry is_gc_done written_end data_end padded slot_size decoded crc extended bits_of
worked-dirty = refl

-- sectors of 512 bytes
worked-no_fence : damage_of 4 ((replicate 512 0) ∷ (replicate 512 255) ∷ []) ≡ Some (record { sector = 0; why = NoFence })
unfolding area_pairs first_damage open_sector shared.slot_at shared.used_slots counting_entry is_gc_done written_end data_end padded slot_size decoded crc extended bits_of
worked-no_fence = refl

-- sectors of 512 bytes
worked-overfull : damage_of 4 ((replicate 496 255 ++ (1 ∷ 0 ∷ 0 ∷ 0 ∷ 236 ∷ 1 ∷ 255 ∷ 73 ∷ []) ++ replicate 8 255) ∷ (replicate 512 255) ∷ []) ≡ Some (record { sector = 0; why = Overfull })
unfolding area_pairs first_damage open_sector shared.slot_at shared.used_slots counting_entry is_gc_done written_end data_end padded slot_size decoded crc extended bits_of
worked-overfull = refl

abbrev two_closed_4 : List ℕ
two_closed_4 = (17 ∷ 18 ∷ 255 ∷ 255 ∷ 33 ∷ []) ++ replicate 35 255 ++ (2 ∷ 0 ∷ 4 ∷ 0 ∷ 1 ∷ 0 ∷ 255 ∷ 234 ∷ 1 ∷ 0 ∷ 0 ∷ 0 ∷ 2 ∷ 0 ∷ 255 ∷ 190 ∷ 255 ∷ 255 ∷ 48 ∷ 0 ∷ 0 ∷ 0 ∷ 255 ∷ 10 ∷ [])

abbrev data_alone_4 : List ℕ
data_alone_4 = (65 ∷ 66 ∷ 67 ∷ 68 ∷ 69 ∷ []) ++ replicate 59 255

abbrev zeros_4 : List ℕ
zeros_4 = replicate 56 0 ++ replicate 8 255

area_4-1 : damage_of 4 (two_closed_4 ∷ data_alone_4 ∷ zeros_4 ∷ []) ≡ Some (record { sector = 2; why = Dirty })
unfolding area_pairs first_damage open_sector shared.slot_at shared.used_slots counting_entry is_gc_done written_end data_end padded slot_size decoded crc extended bits_of
area_4-1 = refl

abbrev two_4 : List ℕ
two_4 = (17 ∷ 18 ∷ 255 ∷ 255 ∷ 33 ∷ []) ++ replicate 35 255 ++ (2 ∷ 0 ∷ 4 ∷ 0 ∷ 1 ∷ 0 ∷ 255 ∷ 234 ∷ 1 ∷ 0 ∷ 0 ∷ 0 ∷ 2 ∷ 0 ∷ 255 ∷ 190 ∷ []) ++ replicate 8 255

abbrev special_with_data_4 : List ℕ
special_with_data_4 = (17 ∷ 18 ∷ []) ++ replicate 40 255 ++ (0 ∷ 0 ∷ 2 ∷ 0 ∷ 255 ∷ 138 ∷ 1 ∷ 0 ∷ 0 ∷ 0 ∷ 2 ∷ 0 ∷ 255 ∷ 190 ∷ []) ++ replicate 8 255

area_4-2 : damage_of 4 (two_4 ∷ special_with_data_4 ∷ []) ≡ Some (record { sector = 1; why = Dirty })
unfolding area_pairs first_damage open_sector shared.slot_at shared.used_slots counting_entry is_gc_done written_end data_end padded slot_size decoded crc extended bits_of
area_4-2 = refl

abbrev half_closed_4 : List ℕ
half_closed_4 = (17 ∷ 18 ∷ 255 ∷ 255 ∷ 33 ∷ []) ++ replicate 35 255 ++ (2 ∷ 0 ∷ 4 ∷ 0 ∷ 1 ∷ 0 ∷ 255 ∷ 234 ∷ 1 ∷ 0 ∷ 0 ∷ 0 ∷ 2 ∷ 0 ∷ 255 ∷ 190 ∷ 255 ∷ 255 ∷ 8 ∷ 0 ∷ 255 ∷ 255 ∷ 255 ∷ 255 ∷ [])

abbrev part_00_4 : List ℕ
part_00_4 = (17 ∷ 18 ∷ []) ++ replicate 46 255 ++ (1 ∷ 0 ∷ 0 ∷ 0 ∷ 2 ∷ 0 ∷ 0 ∷ 77 ∷ []) ++ replicate 8 255

area_4-3 : read 4 (half_closed_4 ∷ part_00_4 ∷ []) ≡ record { damage = None; scan = record { current = 1; low = 48; data_end = 4; gc_done = false; redo = CollectAgain }; places = ((0, 1) ∷ (0, 2) ∷ []); list = ((1, (17 ∷ 18 ∷ [])) ∷ (2, (33 ∷ [])) ∷ []) }
unfolding area_pairs first_damage open_sector shared.slot_at shared.used_slots counting_entry is_gc_done written_end data_end padded slot_size decoded crc extended bits_of
area_4-3 = refl

abbrev past_slot_4 : List ℕ
past_slot_4 = (17 ∷ 18 ∷ []) ++ replicate 46 255 ++ (1 ∷ 0 ∷ 0 ∷ 0 ∷ 64 ∷ 0 ∷ 255 ∷ 238 ∷ []) ++ replicate 8 255

abbrev deletes_4 : List ℕ
deletes_4 = replicate 48 255 ++ (1 ∷ []) ++ replicate 5 0 ++ (255 ∷ 104 ∷ []) ++ replicate 8 255

area_4-4 : damage_of 4 (past_slot_4 ∷ deletes_4 ∷ []) ≡ Some (record { sector = 1; why = Dirty })
unfolding area_pairs first_damage open_sector shared.slot_at shared.used_slots counting_entry is_gc_done written_end data_end padded slot_size decoded crc extended bits_of
area_4-4 = refl

abbrev deletes_closed_4 : List ℕ
deletes_closed_4 = replicate 48 255 ++ (1 ∷ []) ++ replicate 5 0 ++ (255 ∷ 104 ∷ 255 ∷ 255 ∷ 48 ∷ 0 ∷ 0 ∷ 0 ∷ 255 ∷ 10 ∷ [])

abbrev one_4 : List ℕ
one_4 = (17 ∷ 18 ∷ []) ++ replicate 46 255 ++ (1 ∷ 0 ∷ 0 ∷ 0 ∷ 2 ∷ 0 ∷ 255 ∷ 190 ∷ []) ++ replicate 8 255

area_4-5 : read 4 (deletes_closed_4 ∷ one_4 ∷ []) ≡ record { damage = None; scan = record { current = 1; low = 48; data_end = 4; gc_done = false; redo = CollectAgain }; places = ((0, 1) ∷ []); list = ((1, ([])) ∷ []) }
unfolding area_pairs first_damage open_sector shared.slot_at shared.used_slots counting_entry is_gc_done written_end data_end padded slot_size decoded crc extended bits_of
area_4-5 = refl

abbrev marked_closed_4 : List ℕ
marked_closed_4 = (17 ∷ 18 ∷ []) ++ replicate 40 255 ++ (4 ∷ 0 ∷ 0 ∷ 0 ∷ 255 ∷ 211 ∷ 1 ∷ 0 ∷ 0 ∷ 0 ∷ 2 ∷ 0 ∷ 255 ∷ 190 ∷ 255 ∷ 255 ∷ 48 ∷ 0 ∷ 0 ∷ 0 ∷ 255 ∷ 10 ∷ [])

abbrev cut_entry_4 : List ℕ
cut_entry_4 = (17 ∷ 18 ∷ []) ++ replicate 38 255 ++ (2 ∷ 0 ∷ 4 ∷ 0 ∷ 255 ∷ 255 ∷ 255 ∷ 255 ∷ 1 ∷ 0 ∷ 0 ∷ 0 ∷ 2 ∷ 0 ∷ 255 ∷ 190 ∷ []) ++ replicate 8 255

area_4-6 : read 4 (two_closed_4 ∷ marked_closed_4 ∷ cut_entry_4 ∷ two_closed_4 ∷ []) ≡ record { damage = None; scan = record { current = 2; low = 40; data_end = 4; gc_done = false; redo = CollectAgain }; places = ((3, 1) ∷ (3, 2) ∷ (0, 1) ∷ (0, 2) ∷ (1, 1) ∷ []); list = ((1, (17 ∷ 18 ∷ [])) ∷ (2, (33 ∷ [])) ∷ (1, (17 ∷ 18 ∷ [])) ∷ (2, (33 ∷ [])) ∷ (1, (17 ∷ 18 ∷ [])) ∷ []) }
unfolding area_pairs first_damage open_sector shared.slot_at shared.used_slots counting_entry is_gc_done written_end data_end padded slot_size decoded crc extended bits_of
area_4-6 = refl

abbrev one_closed_4 : List ℕ
one_closed_4 = (17 ∷ 18 ∷ []) ++ replicate 46 255 ++ (1 ∷ 0 ∷ 0 ∷ 0 ∷ 2 ∷ 0 ∷ 255 ∷ 190 ∷ 255 ∷ 255 ∷ 48 ∷ 0 ∷ 0 ∷ 0 ∷ 255 ∷ 10 ∷ [])

area_4-7 : damage_of 4 (one_closed_4 ∷ part_00_4 ∷ marked_closed_4 ∷ special_with_data_4 ∷ []) ≡ Some (record { sector = 3; why = TwoOpen })
unfolding area_pairs first_damage open_sector shared.slot_at shared.used_slots counting_entry is_gc_done written_end data_end padded slot_size decoded crc extended bits_of
area_4-7 = refl

area_4-8 : read 4 (one_closed_4 ∷ part_00_4 ∷ []) ≡ record { damage = None; scan = record { current = 1; low = 48; data_end = 4; gc_done = false; redo = CollectAgain }; places = ((0, 1) ∷ []); list = ((1, (17 ∷ 18 ∷ [])) ∷ []) }
unfolding area_pairs first_damage open_sector shared.slot_at shared.used_slots counting_entry is_gc_done written_end data_end padded slot_size decoded crc extended bits_of
area_4-8 = refl

abbrev bad_crc_4 : List ℕ
bad_crc_4 = (17 ∷ 18 ∷ 255 ∷ 255 ∷ 33 ∷ []) ++ replicate 35 255 ++ (2 ∷ 0 ∷ 4 ∷ 0 ∷ 1 ∷ 0 ∷ 255 ∷ 0 ∷ 1 ∷ 0 ∷ 0 ∷ 0 ∷ 2 ∷ 0 ∷ 255 ∷ 190 ∷ []) ++ replicate 8 255

area_4-9 : read 4 (bad_crc_4 ∷ half_closed_4 ∷ marked_closed_4 ∷ deletes_closed_4 ∷ []) ≡ record { damage = None; scan = record { current = 0; low = 40; data_end = 8; gc_done = false; redo = CollectAgain }; places = ((1, 1) ∷ (1, 2) ∷ (2, 1) ∷ (3, 1) ∷ []); list = ((1, (17 ∷ 18 ∷ [])) ∷ (2, (33 ∷ [])) ∷ (1, (17 ∷ 18 ∷ [])) ∷ (1, ([])) ∷ []) }
unfolding area_pairs first_damage open_sector shared.slot_at shared.used_slots counting_entry is_gc_done written_end data_end padded slot_size decoded crc extended bits_of
area_4-9 = refl

abbrev zeros_closed_4 : List ℕ
zeros_closed_4 = replicate 64 0

area_4-10 : damage_of 4 (zeros_closed_4 ∷ two_4 ∷ []) ≡ Some (record { sector = 0; why = NoFence })
unfolding area_pairs first_damage open_sector shared.slot_at shared.used_slots counting_entry is_gc_done written_end data_end padded slot_size decoded crc extended bits_of
area_4-10 = refl

abbrev zero_byte_4 : List ℕ
zero_byte_4 = (0 ∷ []) ++ replicate 63 255

area_4-11 : read 4 (zero_byte_4 ∷ one_closed_4 ∷ []) ≡ record { damage = None; scan = record { current = 0; low = 56; data_end = 4; gc_done = false; redo = CollectAgain }; places = ((1, 1) ∷ []); list = ((1, (17 ∷ 18 ∷ [])) ∷ []) }
unfolding area_pairs first_damage open_sector shared.slot_at shared.used_slots counting_entry is_gc_done written_end data_end padded slot_size decoded crc extended bits_of
area_4-11 = refl

abbrev over_cost_4 : List ℕ
over_cost_4 = replicate 32 255 ++ (2 ∷ 0 ∷ 0 ∷ 0 ∷ 4 ∷ 0 ∷ 255 ∷ 165 ∷ 1 ∷ 0 ∷ 0 ∷ 0 ∷ 8 ∷ 0 ∷ 255 ∷ 57 ∷ 1 ∷ 0 ∷ 0 ∷ 0 ∷ 8 ∷ 0 ∷ 255 ∷ 57 ∷ []) ++ replicate 8 255

area_4-12 : read 4 (two_closed_4 ∷ over_cost_4 ∷ deletes_closed_4 ∷ []) ≡ record { damage = None; scan = record { current = 1; low = 32; data_end = 20; gc_done = false; redo = CollectAgain }; places = ((2, 1) ∷ (0, 1) ∷ (0, 2) ∷ []); list = ((1, ([])) ∷ (1, (17 ∷ 18 ∷ [])) ∷ (2, (33 ∷ [])) ∷ []) }
unfolding area_pairs first_damage open_sector shared.slot_at shared.used_slots counting_entry is_gc_done written_end data_end padded slot_size decoded crc extended bits_of
area_4-12 = refl

area_4-13 : read 4 (deletes_closed_4 ∷ two_closed_4 ∷ two_4 ∷ []) ≡ record { damage = None; scan = record { current = 2; low = 40; data_end = 8; gc_done = false; redo = CollectAgain }; places = ((0, 1) ∷ (1, 1) ∷ (1, 2) ∷ []); list = ((1, ([])) ∷ (1, (17 ∷ 18 ∷ [])) ∷ (2, (33 ∷ [])) ∷ []) }
unfolding area_pairs first_damage open_sector shared.slot_at shared.used_slots counting_entry is_gc_done written_end data_end padded slot_size decoded crc extended bits_of
area_4-13 = refl

area_4-14 : damage_of 4 (two_closed_4 ∷ deletes_closed_4 ∷ []) ≡ Some (record { sector = 0; why = AllClosed })
unfolding area_pairs first_damage open_sector shared.slot_at shared.used_slots counting_entry is_gc_done written_end data_end padded slot_size decoded crc extended bits_of
area_4-14 = refl

abbrev blank_4 : List ℕ
blank_4 = replicate 64 255

abbrev misaligned_4 : List ℕ
misaligned_4 = (17 ∷ 18 ∷ 255 ∷ 255 ∷ 33 ∷ []) ++ replicate 35 255 ++ (2 ∷ 0 ∷ 1 ∷ 0 ∷ 1 ∷ 0 ∷ 255 ∷ 7 ∷ 1 ∷ 0 ∷ 0 ∷ 0 ∷ 2 ∷ 0 ∷ 255 ∷ 190 ∷ []) ++ replicate 8 255

area_4-15 : read 4 (blank_4 ∷ misaligned_4 ∷ []) ≡ record { damage = None; scan = record { current = 1; low = 40; data_end = 8; gc_done = false; redo = Nothing }; places = ((1, 1) ∷ []); list = ((1, (17 ∷ 18 ∷ [])) ∷ []) }
unfolding area_pairs first_damage open_sector shared.slot_at shared.used_slots counting_entry is_gc_done written_end data_end padded slot_size decoded crc extended bits_of
area_4-15 = refl

abbrev other_closed_4 : List ℕ
other_closed_4 = (49 ∷ []) ++ replicate 39 255 ++ (3 ∷ []) ++ replicate 5 0 ++ (255 ∷ 209 ∷ 1 ∷ 0 ∷ 0 ∷ 0 ∷ 1 ∷ 0 ∷ 255 ∷ 3 ∷ 255 ∷ 255 ∷ 48 ∷ 0 ∷ 0 ∷ 0 ∷ 255 ∷ 10 ∷ [])

abbrev marked_4 : List ℕ
marked_4 = (17 ∷ 18 ∷ []) ++ replicate 40 255 ++ (4 ∷ 0 ∷ 0 ∷ 0 ∷ 255 ∷ 211 ∷ 1 ∷ 0 ∷ 0 ∷ 0 ∷ 2 ∷ 0 ∷ 255 ∷ 190 ∷ []) ++ replicate 8 255

area_4-16 : damage_of 4 (other_closed_4 ∷ marked_4 ∷ marked_closed_4 ∷ blank_4 ∷ []) ≡ Some (record { sector = 3; why = TwoOpen })
unfolding area_pairs first_damage open_sector shared.slot_at shared.used_slots counting_entry is_gc_done written_end data_end padded slot_size decoded crc extended bits_of
area_4-16 = refl

area_4-17 : read 4 (bad_crc_4 ∷ other_closed_4 ∷ []) ≡ record { damage = None; scan = record { current = 0; low = 40; data_end = 8; gc_done = false; redo = CollectAgain }; places = ((1, 1) ∷ (1, 2) ∷ []); list = ((1, (49 ∷ [])) ∷ (3, ([])) ∷ []) }
unfolding area_pairs first_damage open_sector shared.slot_at shared.used_slots counting_entry is_gc_done written_end data_end padded slot_size decoded crc extended bits_of
area_4-17 = refl

area_4-18 : read 4 (one_closed_4 ∷ blank_4 ∷ []) ≡ record { damage = None; scan = record { current = 1; low = 56; data_end = 0; gc_done = false; redo = CollectAgain }; places = ((0, 1) ∷ []); list = ((1, (17 ∷ 18 ∷ [])) ∷ []) }
unfolding area_pairs first_damage open_sector shared.slot_at shared.used_slots counting_entry is_gc_done written_end data_end padded slot_size decoded crc extended bits_of
area_4-18 = refl

area_4-19 : read 4 (one_closed_4 ∷ misaligned_4 ∷ []) ≡ record { damage = None; scan = record { current = 1; low = 40; data_end = 8; gc_done = false; redo = CollectAgain }; places = ((0, 1) ∷ []); list = ((1, (17 ∷ 18 ∷ [])) ∷ []) }
unfolding area_pairs first_damage open_sector shared.slot_at shared.used_slots counting_entry is_gc_done written_end data_end padded slot_size decoded crc extended bits_of
area_4-19 = refl

area_4-20 : damage_of 4 (two_closed_4 ∷ one_closed_4 ∷ []) ≡ Some (record { sector = 0; why = AllClosed })
unfolding area_pairs first_damage open_sector shared.slot_at shared.used_slots counting_entry is_gc_done written_end data_end padded slot_size decoded crc extended bits_of
area_4-20 = refl

area_4-21 : read 4 (past_slot_4 ∷ blank_4 ∷ []) ≡ record { damage = None; scan = record { current = 0; low = 48; data_end = 4; gc_done = false; redo = Nothing }; places = ([]); list = ([]) }
unfolding area_pairs first_damage open_sector shared.slot_at shared.used_slots counting_entry is_gc_done written_end data_end padded slot_size decoded crc extended bits_of
area_4-21 = refl

area_4-22 : read 4 (deletes_closed_4 ∷ data_alone_4 ∷ []) ≡ record { damage = None; scan = record { current = 1; low = 56; data_end = 8; gc_done = false; redo = CollectAgain }; places = ((0, 1) ∷ []); list = ((1, ([])) ∷ []) }
unfolding area_pairs first_damage open_sector shared.slot_at shared.used_slots counting_entry is_gc_done written_end data_end padded slot_size decoded crc extended bits_of
area_4-22 = refl

area_4-23 : damage_of 4 (half_closed_4 ∷ over_cost_4 ∷ blank_4 ∷ []) ≡ Some (record { sector = 1; why = Overfull })
unfolding area_pairs first_damage open_sector shared.slot_at shared.used_slots counting_entry is_gc_done written_end data_end padded slot_size decoded crc extended bits_of
area_4-23 = refl

area_4-24 : damage_of 4 (zeros_closed_4 ∷ one_closed_4 ∷ []) ≡ Some (record { sector = 0; why = AllClosed })
unfolding area_pairs first_damage open_sector shared.slot_at shared.used_slots counting_entry is_gc_done written_end data_end padded slot_size decoded crc extended bits_of
area_4-24 = refl

area_4-25 : damage_of 4 (misaligned_4 ∷ zeros_closed_4 ∷ half_closed_4 ∷ two_closed_4 ∷ []) ≡ Some (record { sector = 1; why = NoFence })
unfolding area_pairs first_damage open_sector shared.slot_at shared.used_slots counting_entry is_gc_done written_end data_end padded slot_size decoded crc extended bits_of
area_4-25 = refl

area_4-26 : read 4 (blank_4 ∷ marked_4 ∷ []) ≡ record { damage = None; scan = record { current = 1; low = 40; data_end = 4; gc_done = true; redo = Nothing }; places = ((1, 1) ∷ []); list = ((1, (17 ∷ 18 ∷ [])) ∷ []) }
unfolding area_pairs first_damage open_sector shared.slot_at shared.used_slots counting_entry is_gc_done written_end data_end padded slot_size decoded crc extended bits_of
area_4-26 = refl

area_4-27 : read 4 (zero_byte_4 ∷ blank_4 ∷ []) ≡ record { damage = None; scan = record { current = 0; low = 56; data_end = 4; gc_done = false; redo = Nothing }; places = ([]); list = ([]) }
unfolding area_pairs first_damage open_sector shared.slot_at shared.used_slots counting_entry is_gc_done written_end data_end padded slot_size decoded crc extended bits_of
area_4-27 = refl

area_4-28 : read 4 (two_closed_4 ∷ marked_4 ∷ two_closed_4 ∷ []) ≡ record { damage = None; scan = record { current = 1; low = 40; data_end = 4; gc_done = true; redo = EraseNext }; places = ((0, 1) ∷ (0, 2) ∷ (1, 1) ∷ []); list = ((1, (17 ∷ 18 ∷ [])) ∷ (2, (33 ∷ [])) ∷ (1, (17 ∷ 18 ∷ [])) ∷ []) }
unfolding area_pairs first_damage open_sector shared.slot_at shared.used_slots counting_entry is_gc_done written_end data_end padded slot_size decoded crc extended bits_of
area_4-28 = refl

area_4-29 : damage_of 4 (misaligned_4 ∷ other_closed_4 ∷ zeros_closed_4 ∷ []) ≡ Some (record { sector = 2; why = NoFence })
unfolding area_pairs first_damage open_sector shared.slot_at shared.used_slots counting_entry is_gc_done written_end data_end padded slot_size decoded crc extended bits_of
area_4-29 = refl

area_4-30 : read 4 (marked_4 ∷ one_closed_4 ∷ []) ≡ record { damage = None; scan = record { current = 0; low = 40; data_end = 4; gc_done = true; redo = EraseNext }; places = ((0, 1) ∷ []); list = ((1, (17 ∷ 18 ∷ [])) ∷ []) }
unfolding area_pairs first_damage open_sector shared.slot_at shared.used_slots counting_entry is_gc_done written_end data_end padded slot_size decoded crc extended bits_of
area_4-30 = refl

area_4-31 : damage_of 4 (blank_4 ∷ over_cost_4 ∷ []) ≡ Some (record { sector = 1; why = Overfull })
unfolding area_pairs first_damage open_sector shared.slot_at shared.used_slots counting_entry is_gc_done written_end data_end padded slot_size decoded crc extended bits_of
area_4-31 = refl

abbrev marked_alone_4 : List ℕ
marked_alone_4 = replicate 50 255 ++ (0 ∷ 0 ∷ 0 ∷ 0 ∷ 255 ∷ 92 ∷ []) ++ replicate 8 255

area_4-32 : read 4 (deletes_closed_4 ∷ marked_alone_4 ∷ []) ≡ record { damage = None; scan = record { current = 1; low = 48; data_end = 0; gc_done = true; redo = EraseNext }; places = ([]); list = ([]) }
unfolding area_pairs first_damage open_sector shared.slot_at shared.used_slots counting_entry is_gc_done written_end data_end padded slot_size decoded crc extended bits_of
area_4-32 = refl

area_4-33 : read 4 (marked_4 ∷ half_closed_4 ∷ []) ≡ record { damage = None; scan = record { current = 0; low = 40; data_end = 4; gc_done = true; redo = EraseNext }; places = ((0, 1) ∷ []); list = ((1, (17 ∷ 18 ∷ [])) ∷ []) }
unfolding area_pairs first_damage open_sector shared.slot_at shared.used_slots counting_entry is_gc_done written_end data_end padded slot_size decoded crc extended bits_of
area_4-33 = refl

area_4-34 : read 4 (two_4 ∷ blank_4 ∷ []) ≡ record { damage = None; scan = record { current = 0; low = 40; data_end = 8; gc_done = false; redo = Nothing }; places = ((0, 1) ∷ (0, 2) ∷ []); list = ((1, (17 ∷ 18 ∷ [])) ∷ (2, (33 ∷ [])) ∷ []) }
unfolding area_pairs first_damage open_sector shared.slot_at shared.used_slots counting_entry is_gc_done written_end data_end padded slot_size decoded crc extended bits_of
area_4-34 = refl

area_4-35 : read 4 (marked_4 ∷ zeros_closed_4 ∷ one_closed_4 ∷ []) ≡ record { damage = None; scan = record { current = 0; low = 40; data_end = 4; gc_done = true; redo = EraseNext }; places = ((2, 1) ∷ (0, 1) ∷ []); list = ((1, (17 ∷ 18 ∷ [])) ∷ (1, (17 ∷ 18 ∷ [])) ∷ []) }
unfolding area_pairs first_damage open_sector shared.slot_at shared.used_slots counting_entry is_gc_done written_end data_end padded slot_size decoded crc extended bits_of
area_4-35 = refl

abbrev over_fence_4 : List ℕ
over_fence_4 = replicate 48 255 ++ (1 ∷ 0 ∷ 0 ∷ 0 ∷ 47 ∷ 0 ∷ 255 ∷ 108 ∷ []) ++ replicate 8 255

area_4-36 : damage_of 4 (marked_4 ∷ one_closed_4 ∷ over_fence_4 ∷ half_closed_4 ∷ []) ≡ Some (record { sector = 2; why = TwoOpen })
unfolding area_pairs first_damage open_sector shared.slot_at shared.used_slots counting_entry is_gc_done written_end data_end padded slot_size decoded crc extended bits_of
area_4-36 = refl

area_4-37 : read 4 (blank_4 ∷ other_closed_4 ∷ blank_4 ∷ []) ≡ record { damage = None; scan = record { current = 2; low = 56; data_end = 0; gc_done = false; redo = Nothing }; places = ((1, 1) ∷ (1, 2) ∷ []); list = ((1, (49 ∷ [])) ∷ (3, ([])) ∷ []) }
unfolding area_pairs first_damage open_sector shared.slot_at shared.used_slots counting_entry is_gc_done written_end data_end padded slot_size decoded crc extended bits_of
area_4-37 = refl

area_4-38 : read 4 (marked_closed_4 ∷ marked_closed_4 ∷ marked_4 ∷ []) ≡ record { damage = None; scan = record { current = 2; low = 40; data_end = 4; gc_done = true; redo = EraseNext }; places = ((1, 1) ∷ (2, 1) ∷ []); list = ((1, (17 ∷ 18 ∷ [])) ∷ (1, (17 ∷ 18 ∷ [])) ∷ []) }
unfolding area_pairs first_damage open_sector shared.slot_at shared.used_slots counting_entry is_gc_done written_end data_end padded slot_size decoded crc extended bits_of
area_4-38 = refl

area_4-39 : read 4 (half_closed_4 ∷ marked_4 ∷ []) ≡ record { damage = None; scan = record { current = 1; low = 40; data_end = 4; gc_done = true; redo = EraseNext }; places = ((1, 1) ∷ []); list = ((1, (17 ∷ 18 ∷ [])) ∷ []) }
unfolding area_pairs first_damage open_sector shared.slot_at shared.used_slots counting_entry is_gc_done written_end data_end padded slot_size decoded crc extended bits_of
area_4-39 = refl

area_4-40 : read 4 (blank_4 ∷ special_with_data_4 ∷ []) ≡ record { damage = None; scan = record { current = 1; low = 40; data_end = 4; gc_done = false; redo = Nothing }; places = ((1, 1) ∷ []); list = ((1, (17 ∷ 18 ∷ [])) ∷ []) }
unfolding area_pairs first_damage open_sector shared.slot_at shared.used_slots counting_entry is_gc_done written_end data_end padded slot_size decoded crc extended bits_of
area_4-40 = refl

area_4-41 : read 4 (marked_4 ∷ deletes_closed_4 ∷ []) ≡ record { damage = None; scan = record { current = 0; low = 40; data_end = 4; gc_done = true; redo = EraseNext }; places = ((0, 1) ∷ []); list = ((1, (17 ∷ 18 ∷ [])) ∷ []) }
unfolding area_pairs first_damage open_sector shared.slot_at shared.used_slots counting_entry is_gc_done written_end data_end padded slot_size decoded crc extended bits_of
area_4-41 = refl

area_4-42 : read 4 (half_closed_4 ∷ marked_alone_4 ∷ []) ≡ record { damage = None; scan = record { current = 1; low = 48; data_end = 0; gc_done = true; redo = EraseNext }; places = ([]); list = ([]) }
unfolding area_pairs first_damage open_sector shared.slot_at shared.used_slots counting_entry is_gc_done written_end data_end padded slot_size decoded crc extended bits_of
area_4-42 = refl

area_4-43 : read 4 (blank_4 ∷ marked_alone_4 ∷ []) ≡ record { damage = None; scan = record { current = 1; low = 48; data_end = 0; gc_done = true; redo = Nothing }; places = ([]); list = ([]) }
unfolding area_pairs first_damage open_sector shared.slot_at shared.used_slots counting_entry is_gc_done written_end data_end padded slot_size decoded crc extended bits_of
area_4-43 = refl

area_4-44 : damage_of 4 (two_closed_4 ∷ over_fence_4 ∷ blank_4 ∷ []) ≡ Some (record { sector = 1; why = Overfull })
unfolding area_pairs first_damage open_sector shared.slot_at shared.used_slots counting_entry is_gc_done written_end data_end padded slot_size decoded crc extended bits_of
area_4-44 = refl

area_4-45 : read 4 (marked_closed_4 ∷ other_closed_4 ∷ cut_entry_4 ∷ blank_4 ∷ []) ≡ record { damage = None; scan = record { current = 2; low = 40; data_end = 4; gc_done = false; redo = Nothing }; places = ((0, 1) ∷ (1, 1) ∷ (1, 2) ∷ (2, 1) ∷ []); list = ((1, (17 ∷ 18 ∷ [])) ∷ (1, (49 ∷ [])) ∷ (3, ([])) ∷ (1, (17 ∷ 18 ∷ [])) ∷ []) }
unfolding area_pairs first_damage open_sector shared.slot_at shared.used_slots counting_entry is_gc_done written_end data_end padded slot_size decoded crc extended bits_of
area_4-45 = refl

area_4-46 : read 4 (bad_crc_4 ∷ blank_4 ∷ two_closed_4 ∷ []) ≡ record { damage = None; scan = record { current = 0; low = 40; data_end = 8; gc_done = false; redo = Nothing }; places = ((2, 1) ∷ (2, 2) ∷ (0, 1) ∷ []); list = ((1, (17 ∷ 18 ∷ [])) ∷ (2, (33 ∷ [])) ∷ (1, (17 ∷ 18 ∷ [])) ∷ []) }
unfolding area_pairs first_damage open_sector shared.slot_at shared.used_slots counting_entry is_gc_done written_end data_end padded slot_size decoded crc extended bits_of
area_4-46 = refl

area_4-47 : read 4 (two_closed_4 ∷ marked_alone_4 ∷ deletes_closed_4 ∷ []) ≡ record { damage = None; scan = record { current = 1; low = 48; data_end = 0; gc_done = true; redo = EraseNext }; places = ((0, 1) ∷ (0, 2) ∷ []); list = ((1, (17 ∷ 18 ∷ [])) ∷ (2, (33 ∷ [])) ∷ []) }
unfolding area_pairs first_damage open_sector shared.slot_at shared.used_slots counting_entry is_gc_done written_end data_end padded slot_size decoded crc extended bits_of
area_4-47 = refl

area_4-48 : read 4 (blank_4 ∷ two_4 ∷ []) ≡ record { damage = None; scan = record { current = 1; low = 40; data_end = 8; gc_done = false; redo = Nothing }; places = ((1, 1) ∷ (1, 2) ∷ []); list = ((1, (17 ∷ 18 ∷ [])) ∷ (2, (33 ∷ [])) ∷ []) }
unfolding area_pairs first_damage open_sector shared.slot_at shared.used_slots counting_entry is_gc_done written_end data_end padded slot_size decoded crc extended bits_of
area_4-48 = refl

abbrev overlapping_4 : List ℕ
overlapping_4 = (17 ∷ 18 ∷ []) ++ replicate 38 255 ++ (2 ∷ 0 ∷ 0 ∷ 0 ∷ 2 ∷ 0 ∷ 255 ∷ 216 ∷ 1 ∷ 0 ∷ 0 ∷ 0 ∷ 2 ∷ 0 ∷ 255 ∷ 190 ∷ []) ++ replicate 8 255

area_4-49 : read 4 (blank_4 ∷ one_closed_4 ∷ overlapping_4 ∷ []) ≡ record { damage = None; scan = record { current = 2; low = 40; data_end = 8; gc_done = false; redo = Nothing }; places = ((1, 1) ∷ (2, 1) ∷ (2, 2) ∷ []); list = ((1, (17 ∷ 18 ∷ [])) ∷ (1, (17 ∷ 18 ∷ [])) ∷ (2, (17 ∷ 18 ∷ [])) ∷ []) }
unfolding area_pairs first_damage open_sector shared.slot_at shared.used_slots counting_entry is_gc_done written_end data_end padded slot_size decoded crc extended bits_of
area_4-49 = refl

area_4-50 : read 4 (deletes_closed_4 ∷ other_closed_4 ∷ marked_alone_4 ∷ []) ≡ record { damage = None; scan = record { current = 2; low = 48; data_end = 0; gc_done = true; redo = EraseNext }; places = ((1, 1) ∷ (1, 2) ∷ []); list = ((1, (49 ∷ [])) ∷ (3, ([])) ∷ []) }
unfolding area_pairs first_damage open_sector shared.slot_at shared.used_slots counting_entry is_gc_done written_end data_end padded slot_size decoded crc extended bits_of
area_4-50 = refl

area_4-51 : read 4 (marked_closed_4 ∷ two_closed_4 ∷ marked_4 ∷ []) ≡ record { damage = None; scan = record { current = 2; low = 40; data_end = 4; gc_done = true; redo = EraseNext }; places = ((1, 1) ∷ (1, 2) ∷ (2, 1) ∷ []); list = ((1, (17 ∷ 18 ∷ [])) ∷ (2, (33 ∷ [])) ∷ (1, (17 ∷ 18 ∷ [])) ∷ []) }
unfolding area_pairs first_damage open_sector shared.slot_at shared.used_slots counting_entry is_gc_done written_end data_end padded slot_size decoded crc extended bits_of
area_4-51 = refl

-- ---- what a step leaves: bytes 11 12 of id 1 in a blank sector, and then a delete of id 2, gc-done, or the close entry

step-append : after_append 4 (replicate 64 255) 1 (17 ∷ 18 ∷ []) ≡ one_4
unfolding shared.slot_at shared.used_slots counting_entry is_gc_done written_end data_end padded slot_size encoded decoded crc extended bits_of
step-append = refl

step-delete : after_append 4 one_4 2 [] ≡ (17 ∷ 18 ∷ []) ++ replicate 38 255 ++ (2 ∷ 0 ∷ 4 ∷ 0 ∷ 0 ∷ 0 ∷ 255 ∷ 129 ∷ 1 ∷ 0 ∷ 0 ∷ 0 ∷ 2 ∷ 0 ∷ 255 ∷ 190 ∷ []) ++ replicate 8 255
unfolding shared.slot_at shared.used_slots counting_entry is_gc_done written_end data_end padded slot_size encoded decoded crc extended bits_of
step-delete = refl

step-gc_done : after_gc_done 4 one_4 ≡ (17 ∷ 18 ∷ []) ++ replicate 38 255 ++ (255 ∷ 255 ∷ 4 ∷ 0 ∷ 0 ∷ 0 ∷ 255 ∷ 211 ∷ 1 ∷ 0 ∷ 0 ∷ 0 ∷ 2 ∷ 0 ∷ 255 ∷ 190 ∷ []) ++ replicate 8 255
unfolding shared.slot_at shared.used_slots counting_entry is_gc_done written_end data_end padded slot_size encoded decoded crc extended bits_of
step-gc_done = refl

step-close : after_close 4 one_4 ≡ (17 ∷ 18 ∷ []) ++ replicate 46 255 ++ (1 ∷ 0 ∷ 0 ∷ 0 ∷ 2 ∷ 0 ∷ 255 ∷ 190 ∷ 255 ∷ 255 ∷ 48 ∷ 0 ∷ 0 ∷ 0 ∷ 255 ∷ 10 ∷ [])
unfolding shared.slot_at shared.used_slots counting_entry is_gc_done written_end data_end padded slot_size encoded decoded crc extended bits_of
step-close = refl
