-- Areas of units 8 and 16 that are read by the definitions. The answers are those of another program, over the same bytes.
use Rattle.std.proofs.Common.{◌≡◌, ℕ, true, false, List, [], ◌∷◌, ◌++◌, replicate, Some, None, refl}
use Rattle.crc8_entry.specs.Crc.{crc, extended, bits_of}
use Rattle.flash_map.specs.Units.{padded, written_end}
use Rattle.flash_map.specs.declared.faults.Why.TheVariants.{AllClosed, TwoOpen, Dirty, NoFence, Overfull}
use Rattle.item_laws.specs.Area.{area_pairs, first_damage, open_sector}
use Rattle.item_laws.specs.Slots as shared
use Rattle.nvs_store.specs.declared.scan.Redo.TheVariants.{Nothing, EraseNext, CollectAgain}
use Rattle.nvs_store.specs.Geometry.{slot_size}
use Rattle.nvs_store.specs.Entries.{decoded}
use Rattle.nvs_store.specs.Sector.{counting_entry, is_gc_done, data_end}
use Rattle.nvs_store.specs.Scans.{damage_of}
use Rattle.nvs_store.proofs.Examples.{read}

abbrev cut_entry_8 : List ℕ
cut_entry_8 = (17 ∷ 18 ∷ []) ++ replicate 38 255 ++ (2 ∷ 0 ∷ 8 ∷ 0 ∷ 255 ∷ 255 ∷ 255 ∷ 255 ∷ 1 ∷ 0 ∷ 0 ∷ 0 ∷ 2 ∷ 0 ∷ 255 ∷ 190 ∷ []) ++ replicate 8 255

abbrev marked_8 : List ℕ
marked_8 = (17 ∷ 18 ∷ []) ++ replicate 40 255 ++ (8 ∷ 0 ∷ 0 ∷ 0 ∷ 255 ∷ 69 ∷ 1 ∷ 0 ∷ 0 ∷ 0 ∷ 2 ∷ 0 ∷ 255 ∷ 190 ∷ []) ++ replicate 8 255

abbrev over_cost_8 : List ℕ
over_cost_8 = replicate 32 255 ++ (2 ∷ 0 ∷ 0 ∷ 0 ∷ 8 ∷ 0 ∷ 255 ∷ 95 ∷ 1 ∷ 0 ∷ 0 ∷ 0 ∷ 16 ∷ 0 ∷ 255 ∷ 202 ∷ 1 ∷ 0 ∷ 0 ∷ 0 ∷ 16 ∷ 0 ∷ 255 ∷ 202 ∷ []) ++ replicate 8 255

area_8-52 : damage_of 8 (cut_entry_8 ∷ marked_8 ∷ over_cost_8 ∷ []) ≡ Some (record { sector = 1; why = Dirty })
unfolding area_pairs first_damage open_sector shared.slot_at shared.used_slots counting_entry is_gc_done written_end data_end padded slot_size decoded crc extended bits_of
area_8-52 = refl

abbrev half_closed_8 : List ℕ
half_closed_8 = (17 ∷ 18 ∷ []) ++ replicate 6 255 ++ (33 ∷ []) ++ replicate 31 255 ++ (2 ∷ 0 ∷ 8 ∷ 0 ∷ 1 ∷ 0 ∷ 255 ∷ 124 ∷ 1 ∷ 0 ∷ 0 ∷ 0 ∷ 2 ∷ 0 ∷ 255 ∷ 190 ∷ 255 ∷ 255 ∷ 8 ∷ 0 ∷ 255 ∷ 255 ∷ 255 ∷ 255 ∷ [])

abbrev part_00_8 : List ℕ
part_00_8 = (17 ∷ 18 ∷ []) ++ replicate 46 255 ++ (1 ∷ 0 ∷ 0 ∷ 0 ∷ 2 ∷ 0 ∷ 0 ∷ 77 ∷ []) ++ replicate 8 255

abbrev two_closed_8 : List ℕ
two_closed_8 = (17 ∷ 18 ∷ []) ++ replicate 6 255 ++ (33 ∷ []) ++ replicate 31 255 ++ (2 ∷ 0 ∷ 8 ∷ 0 ∷ 1 ∷ 0 ∷ 255 ∷ 124 ∷ 1 ∷ 0 ∷ 0 ∷ 0 ∷ 2 ∷ 0 ∷ 255 ∷ 190 ∷ 255 ∷ 255 ∷ 48 ∷ 0 ∷ 0 ∷ 0 ∷ 255 ∷ 10 ∷ [])

area_8-53 : damage_of 8 (half_closed_8 ∷ part_00_8 ∷ two_closed_8 ∷ cut_entry_8 ∷ []) ≡ Some (record { sector = 3; why = TwoOpen })
unfolding area_pairs first_damage open_sector shared.slot_at shared.used_slots counting_entry is_gc_done written_end data_end padded slot_size decoded crc extended bits_of
area_8-53 = refl

abbrev zeros_closed_8 : List ℕ
zeros_closed_8 = replicate 64 0

area_8-54 : damage_of 8 (zeros_closed_8 ∷ zeros_closed_8 ∷ []) ≡ Some (record { sector = 0; why = AllClosed })
unfolding area_pairs first_damage open_sector shared.slot_at shared.used_slots counting_entry is_gc_done written_end data_end padded slot_size decoded crc extended bits_of
area_8-54 = refl

abbrev one_closed_8 : List ℕ
one_closed_8 = (17 ∷ 18 ∷ []) ++ replicate 46 255 ++ (1 ∷ 0 ∷ 0 ∷ 0 ∷ 2 ∷ 0 ∷ 255 ∷ 190 ∷ 255 ∷ 255 ∷ 48 ∷ 0 ∷ 0 ∷ 0 ∷ 255 ∷ 10 ∷ [])

abbrev two_8 : List ℕ
two_8 = (17 ∷ 18 ∷ []) ++ replicate 6 255 ++ (33 ∷ []) ++ replicate 31 255 ++ (2 ∷ 0 ∷ 8 ∷ 0 ∷ 1 ∷ 0 ∷ 255 ∷ 124 ∷ 1 ∷ 0 ∷ 0 ∷ 0 ∷ 2 ∷ 0 ∷ 255 ∷ 190 ∷ []) ++ replicate 8 255

abbrev blank_8 : List ℕ
blank_8 = replicate 64 255

area_8-55 : read 8 (one_closed_8 ∷ two_8 ∷ blank_8 ∷ []) ≡ record { damage = None; scan = record { current = 1; low = 40; data_end = 16; gc_done = false; redo = Nothing }; places = ((0, 1) ∷ (1, 1) ∷ (1, 2) ∷ []); list = ((1, (17 ∷ 18 ∷ [])) ∷ (1, (17 ∷ 18 ∷ [])) ∷ (2, (33 ∷ [])) ∷ []) }
unfolding area_pairs first_damage open_sector shared.slot_at shared.used_slots counting_entry is_gc_done written_end data_end padded slot_size decoded crc extended bits_of
area_8-55 = refl

abbrev marked_closed_8 : List ℕ
marked_closed_8 = (17 ∷ 18 ∷ []) ++ replicate 40 255 ++ (8 ∷ 0 ∷ 0 ∷ 0 ∷ 255 ∷ 69 ∷ 1 ∷ 0 ∷ 0 ∷ 0 ∷ 2 ∷ 0 ∷ 255 ∷ 190 ∷ 255 ∷ 255 ∷ 48 ∷ 0 ∷ 0 ∷ 0 ∷ 255 ∷ 10 ∷ [])

area_8-56 : read 8 (marked_closed_8 ∷ two_8 ∷ []) ≡ record { damage = None; scan = record { current = 1; low = 40; data_end = 16; gc_done = false; redo = CollectAgain }; places = ((0, 1) ∷ []); list = ((1, (17 ∷ 18 ∷ [])) ∷ []) }
unfolding area_pairs first_damage open_sector shared.slot_at shared.used_slots counting_entry is_gc_done written_end data_end padded slot_size decoded crc extended bits_of
area_8-56 = refl

abbrev over_fence_8 : List ℕ
over_fence_8 = replicate 48 255 ++ (1 ∷ 0 ∷ 0 ∷ 0 ∷ 47 ∷ 0 ∷ 255 ∷ 108 ∷ []) ++ replicate 8 255

area_8-57 : read 8 (over_fence_8 ∷ marked_closed_8 ∷ []) ≡ record { damage = None; scan = record { current = 0; low = 48; data_end = 48; gc_done = false; redo = CollectAgain }; places = ((1, 1) ∷ []); list = ((1, (17 ∷ 18 ∷ [])) ∷ []) }
unfolding area_pairs first_damage open_sector shared.slot_at shared.used_slots counting_entry is_gc_done written_end data_end padded slot_size decoded crc extended bits_of
area_8-57 = refl

abbrev bad_crc_8 : List ℕ
bad_crc_8 = (17 ∷ 18 ∷ []) ++ replicate 6 255 ++ (33 ∷ []) ++ replicate 31 255 ++ (2 ∷ 0 ∷ 8 ∷ 0 ∷ 1 ∷ 0 ∷ 255 ∷ 0 ∷ 1 ∷ 0 ∷ 0 ∷ 0 ∷ 2 ∷ 0 ∷ 255 ∷ 190 ∷ []) ++ replicate 8 255

area_8-58 : read 8 (bad_crc_8 ∷ blank_8 ∷ []) ≡ record { damage = None; scan = record { current = 0; low = 40; data_end = 16; gc_done = false; redo = Nothing }; places = ((0, 1) ∷ []); list = ((1, (17 ∷ 18 ∷ [])) ∷ []) }
unfolding area_pairs first_damage open_sector shared.slot_at shared.used_slots counting_entry is_gc_done written_end data_end padded slot_size decoded crc extended bits_of
area_8-58 = refl

abbrev special_with_data_8 : List ℕ
special_with_data_8 = (17 ∷ 18 ∷ []) ++ replicate 40 255 ++ (0 ∷ 0 ∷ 2 ∷ 0 ∷ 255 ∷ 138 ∷ 1 ∷ 0 ∷ 0 ∷ 0 ∷ 2 ∷ 0 ∷ 255 ∷ 190 ∷ []) ++ replicate 8 255

area_8-59 : damage_of 8 (special_with_data_8 ∷ zeros_closed_8 ∷ marked_closed_8 ∷ one_closed_8 ∷ []) ≡ Some (record { sector = 1; why = NoFence })
unfolding area_pairs first_damage open_sector shared.slot_at shared.used_slots counting_entry is_gc_done written_end data_end padded slot_size decoded crc extended bits_of
area_8-59 = refl

area_8-60 : read 8 (two_closed_8 ∷ one_closed_8 ∷ marked_8 ∷ []) ≡ record { damage = None; scan = record { current = 2; low = 40; data_end = 8; gc_done = true; redo = EraseNext }; places = ((1, 1) ∷ (2, 1) ∷ []); list = ((1, (17 ∷ 18 ∷ [])) ∷ (1, (17 ∷ 18 ∷ [])) ∷ []) }
unfolding area_pairs first_damage open_sector shared.slot_at shared.used_slots counting_entry is_gc_done written_end data_end padded slot_size decoded crc extended bits_of
area_8-60 = refl

abbrev data_alone_8 : List ℕ
data_alone_8 = (65 ∷ 66 ∷ 67 ∷ 68 ∷ 69 ∷ []) ++ replicate 59 255

abbrev deletes_closed_8 : List ℕ
deletes_closed_8 = replicate 48 255 ++ (1 ∷ []) ++ replicate 5 0 ++ (255 ∷ 104 ∷ 255 ∷ 255 ∷ 48 ∷ 0 ∷ 0 ∷ 0 ∷ 255 ∷ 10 ∷ [])

area_8-61 : read 8 (data_alone_8 ∷ one_closed_8 ∷ deletes_closed_8 ∷ []) ≡ record { damage = None; scan = record { current = 0; low = 56; data_end = 8; gc_done = false; redo = CollectAgain }; places = ((1, 1) ∷ (2, 1) ∷ []); list = ((1, (17 ∷ 18 ∷ [])) ∷ (1, ([])) ∷ []) }
unfolding area_pairs first_damage open_sector shared.slot_at shared.used_slots counting_entry is_gc_done written_end data_end padded slot_size decoded crc extended bits_of
area_8-61 = refl

abbrev other_closed_8 : List ℕ
other_closed_8 = (49 ∷ []) ++ replicate 39 255 ++ (3 ∷ []) ++ replicate 5 0 ++ (255 ∷ 209 ∷ 1 ∷ 0 ∷ 0 ∷ 0 ∷ 1 ∷ 0 ∷ 255 ∷ 3 ∷ 255 ∷ 255 ∷ 48 ∷ 0 ∷ 0 ∷ 0 ∷ 255 ∷ 10 ∷ [])

area_8-62 : read 8 (other_closed_8 ∷ blank_8 ∷ []) ≡ record { damage = None; scan = record { current = 1; low = 56; data_end = 0; gc_done = false; redo = CollectAgain }; places = ((0, 1) ∷ (0, 2) ∷ []); list = ((1, (49 ∷ [])) ∷ (3, ([])) ∷ []) }
unfolding area_pairs first_damage open_sector shared.slot_at shared.used_slots counting_entry is_gc_done written_end data_end padded slot_size decoded crc extended bits_of
area_8-62 = refl

area_8-63 : read 8 (marked_8 ∷ one_closed_8 ∷ []) ≡ record { damage = None; scan = record { current = 0; low = 40; data_end = 8; gc_done = true; redo = EraseNext }; places = ((0, 1) ∷ []); list = ((1, (17 ∷ 18 ∷ [])) ∷ []) }
unfolding area_pairs first_damage open_sector shared.slot_at shared.used_slots counting_entry is_gc_done written_end data_end padded slot_size decoded crc extended bits_of
area_8-63 = refl

area_8-64 : read 8 (other_closed_8 ∷ marked_8 ∷ []) ≡ record { damage = None; scan = record { current = 1; low = 40; data_end = 8; gc_done = true; redo = EraseNext }; places = ((1, 1) ∷ []); list = ((1, (17 ∷ 18 ∷ [])) ∷ []) }
unfolding area_pairs first_damage open_sector shared.slot_at shared.used_slots counting_entry is_gc_done written_end data_end padded slot_size decoded crc extended bits_of
area_8-64 = refl

abbrev marked_alone_8 : List ℕ
marked_alone_8 = replicate 50 255 ++ (0 ∷ 0 ∷ 0 ∷ 0 ∷ 255 ∷ 92 ∷ []) ++ replicate 8 255

area_8-65 : read 8 (marked_alone_8 ∷ blank_8 ∷ []) ≡ record { damage = None; scan = record { current = 0; low = 48; data_end = 0; gc_done = true; redo = Nothing }; places = ([]); list = ([]) }
unfolding area_pairs first_damage open_sector shared.slot_at shared.used_slots counting_entry is_gc_done written_end data_end padded slot_size decoded crc extended bits_of
area_8-65 = refl

area_8-66 : read 8 (marked_alone_8 ∷ blank_8 ∷ other_closed_8 ∷ []) ≡ record { damage = None; scan = record { current = 0; low = 48; data_end = 0; gc_done = true; redo = Nothing }; places = ((2, 1) ∷ (2, 2) ∷ []); list = ((1, (49 ∷ [])) ∷ (3, ([])) ∷ []) }
unfolding area_pairs first_damage open_sector shared.slot_at shared.used_slots counting_entry is_gc_done written_end data_end padded slot_size decoded crc extended bits_of
area_8-66 = refl

area_8-67 : read 8 (half_closed_8 ∷ marked_alone_8 ∷ deletes_closed_8 ∷ []) ≡ record { damage = None; scan = record { current = 1; low = 48; data_end = 0; gc_done = true; redo = EraseNext }; places = ((0, 1) ∷ (0, 2) ∷ []); list = ((1, (17 ∷ 18 ∷ [])) ∷ (2, (33 ∷ [])) ∷ []) }
unfolding area_pairs first_damage open_sector shared.slot_at shared.used_slots counting_entry is_gc_done written_end data_end padded slot_size decoded crc extended bits_of
area_8-67 = refl

area_8-68 : damage_of 8 (over_fence_8 ∷ blank_8 ∷ []) ≡ Some (record { sector = 0; why = Overfull })
unfolding area_pairs first_damage open_sector shared.slot_at shared.used_slots counting_entry is_gc_done written_end data_end padded slot_size decoded crc extended bits_of
area_8-68 = refl

abbrev blank_16 : List ℕ
blank_16 = replicate 112 255

abbrev part_00_16 : List ℕ
part_00_16 = (17 ∷ 18 ∷ []) ++ replicate 78 255 ++ (1 ∷ 0 ∷ 0 ∷ 0 ∷ 2 ∷ 0 ∷ 0 ∷ 77 ∷ []) ++ replicate 24 255

abbrev bad_crc_16 : List ℕ
bad_crc_16 = (17 ∷ 18 ∷ []) ++ replicate 14 255 ++ (33 ∷ []) ++ replicate 47 255 ++ (2 ∷ 0 ∷ 16 ∷ 0 ∷ 1 ∷ 0 ∷ 255 ∷ 0 ∷ []) ++ replicate 8 255 ++ (1 ∷ 0 ∷ 0 ∷ 0 ∷ 2 ∷ 0 ∷ 255 ∷ 190 ∷ []) ++ replicate 24 255

area_16-69 : damage_of 16 (blank_16 ∷ part_00_16 ∷ bad_crc_16 ∷ []) ≡ Some (record { sector = 2; why = Dirty })
unfolding area_pairs first_damage open_sector shared.slot_at shared.used_slots counting_entry is_gc_done written_end data_end padded slot_size decoded crc extended bits_of
area_16-69 = refl

abbrev over_cost_16 : List ℕ
over_cost_16 = replicate 48 255 ++ (2 ∷ 0 ∷ 0 ∷ 0 ∷ 16 ∷ 0 ∷ 255 ∷ 172 ∷ []) ++ replicate 8 255 ++ (1 ∷ 0 ∷ 0 ∷ 0 ∷ 32 ∷ 0 ∷ 255 ∷ 43 ∷ []) ++ replicate 8 255 ++ (1 ∷ 0 ∷ 0 ∷ 0 ∷ 32 ∷ 0 ∷ 255 ∷ 43 ∷ []) ++ replicate 24 255

abbrev two_closed_16 : List ℕ
two_closed_16 = (17 ∷ 18 ∷ []) ++ replicate 14 255 ++ (33 ∷ []) ++ replicate 47 255 ++ (2 ∷ 0 ∷ 16 ∷ 0 ∷ 1 ∷ 0 ∷ 255 ∷ 87 ∷ []) ++ replicate 8 255 ++ (1 ∷ 0 ∷ 0 ∷ 0 ∷ 2 ∷ 0 ∷ 255 ∷ 190 ∷ []) ++ replicate 10 255 ++ (80 ∷ 0 ∷ 0 ∷ 0 ∷ 255 ∷ 166 ∷ []) ++ replicate 8 255

area_16-70 : damage_of 16 (over_cost_16 ∷ two_closed_16 ∷ []) ≡ Some (record { sector = 1; why = Overfull })
unfolding area_pairs first_damage open_sector shared.slot_at shared.used_slots counting_entry is_gc_done written_end data_end padded slot_size decoded crc extended bits_of
area_16-70 = refl

abbrev misaligned_16 : List ℕ
misaligned_16 = (17 ∷ 18 ∷ []) ++ replicate 14 255 ++ (33 ∷ []) ++ replicate 47 255 ++ (2 ∷ 0 ∷ 1 ∷ 0 ∷ 1 ∷ 0 ∷ 255 ∷ 7 ∷ []) ++ replicate 8 255 ++ (1 ∷ 0 ∷ 0 ∷ 0 ∷ 2 ∷ 0 ∷ 255 ∷ 190 ∷ []) ++ replicate 24 255

abbrev other_closed_16 : List ℕ
other_closed_16 = (49 ∷ []) ++ replicate 63 255 ++ (3 ∷ []) ++ replicate 5 0 ++ (255 ∷ 209 ∷ []) ++ replicate 8 255 ++ (1 ∷ 0 ∷ 0 ∷ 0 ∷ 1 ∷ 0 ∷ 255 ∷ 3 ∷ []) ++ replicate 10 255 ++ (80 ∷ 0 ∷ 0 ∷ 0 ∷ 255 ∷ 166 ∷ []) ++ replicate 8 255

area_16-71 : read 16 (misaligned_16 ∷ other_closed_16 ∷ []) ≡ record { damage = None; scan = record { current = 0; low = 64; data_end = 32; gc_done = false; redo = CollectAgain }; places = ((1, 1) ∷ (1, 2) ∷ []); list = ((1, (49 ∷ [])) ∷ (3, ([])) ∷ []) }
unfolding area_pairs first_damage open_sector shared.slot_at shared.used_slots counting_entry is_gc_done written_end data_end padded slot_size decoded crc extended bits_of
area_16-71 = refl

abbrev marked_closed_16 : List ℕ
marked_closed_16 = (17 ∷ 18 ∷ []) ++ replicate 64 255 ++ (16 ∷ 0 ∷ 0 ∷ 0 ∷ 255 ∷ 110 ∷ []) ++ replicate 8 255 ++ (1 ∷ 0 ∷ 0 ∷ 0 ∷ 2 ∷ 0 ∷ 255 ∷ 190 ∷ []) ++ replicate 10 255 ++ (80 ∷ 0 ∷ 0 ∷ 0 ∷ 255 ∷ 166 ∷ []) ++ replicate 8 255

area_16-72 : damage_of 16 (marked_closed_16 ∷ marked_closed_16 ∷ []) ≡ Some (record { sector = 0; why = AllClosed })
unfolding area_pairs first_damage open_sector shared.slot_at shared.used_slots counting_entry is_gc_done written_end data_end padded slot_size decoded crc extended bits_of
area_16-72 = refl

abbrev one_closed_16 : List ℕ
one_closed_16 = (17 ∷ 18 ∷ []) ++ replicate 78 255 ++ (1 ∷ 0 ∷ 0 ∷ 0 ∷ 2 ∷ 0 ∷ 255 ∷ 190 ∷ []) ++ replicate 10 255 ++ (80 ∷ 0 ∷ 0 ∷ 0 ∷ 255 ∷ 166 ∷ []) ++ replicate 8 255

abbrev special_with_data_16 : List ℕ
special_with_data_16 = (17 ∷ 18 ∷ []) ++ replicate 64 255 ++ (0 ∷ 0 ∷ 2 ∷ 0 ∷ 255 ∷ 138 ∷ []) ++ replicate 8 255 ++ (1 ∷ 0 ∷ 0 ∷ 0 ∷ 2 ∷ 0 ∷ 255 ∷ 190 ∷ []) ++ replicate 24 255

abbrev deletes_closed_16 : List ℕ
deletes_closed_16 = replicate 80 255 ++ (1 ∷ []) ++ replicate 5 0 ++ (255 ∷ 104 ∷ []) ++ replicate 10 255 ++ (80 ∷ 0 ∷ 0 ∷ 0 ∷ 255 ∷ 166 ∷ []) ++ replicate 8 255

area_16-73 : read 16 (one_closed_16 ∷ special_with_data_16 ∷ deletes_closed_16 ∷ []) ≡ record { damage = None; scan = record { current = 1; low = 64; data_end = 16; gc_done = false; redo = CollectAgain }; places = ((2, 1) ∷ (0, 1) ∷ []); list = ((1, ([])) ∷ (1, (17 ∷ 18 ∷ [])) ∷ []) }
unfolding area_pairs first_damage open_sector shared.slot_at shared.used_slots counting_entry is_gc_done written_end data_end padded slot_size decoded crc extended bits_of
area_16-73 = refl

abbrev one_16 : List ℕ
one_16 = (17 ∷ 18 ∷ []) ++ replicate 78 255 ++ (1 ∷ 0 ∷ 0 ∷ 0 ∷ 2 ∷ 0 ∷ 255 ∷ 190 ∷ []) ++ replicate 24 255

area_16-74 : read 16 (blank_16 ∷ one_16 ∷ []) ≡ record { damage = None; scan = record { current = 1; low = 80; data_end = 16; gc_done = false; redo = Nothing }; places = ((1, 1) ∷ []); list = ((1, (17 ∷ 18 ∷ [])) ∷ []) }
unfolding area_pairs first_damage open_sector shared.slot_at shared.used_slots counting_entry is_gc_done written_end data_end padded slot_size decoded crc extended bits_of
area_16-74 = refl

abbrev zeros_closed_16 : List ℕ
zeros_closed_16 = replicate 112 0

abbrev deletes_16 : List ℕ
deletes_16 = replicate 80 255 ++ (1 ∷ []) ++ replicate 5 0 ++ (255 ∷ 104 ∷ []) ++ replicate 24 255

area_16-75 : damage_of 16 (zeros_closed_16 ∷ part_00_16 ∷ one_closed_16 ∷ deletes_16 ∷ []) ≡ Some (record { sector = 3; why = TwoOpen })
unfolding area_pairs first_damage open_sector shared.slot_at shared.used_slots counting_entry is_gc_done written_end data_end padded slot_size decoded crc extended bits_of
area_16-75 = refl

abbrev marked_alone_16 : List ℕ
marked_alone_16 = replicate 82 255 ++ (0 ∷ 0 ∷ 0 ∷ 0 ∷ 255 ∷ 92 ∷ []) ++ replicate 24 255

area_16-76 : read 16 (marked_alone_16 ∷ one_closed_16 ∷ []) ≡ record { damage = None; scan = record { current = 0; low = 80; data_end = 0; gc_done = true; redo = EraseNext }; places = ([]); list = ([]) }
unfolding area_pairs first_damage open_sector shared.slot_at shared.used_slots counting_entry is_gc_done written_end data_end padded slot_size decoded crc extended bits_of
area_16-76 = refl

abbrev data_alone_16 : List ℕ
data_alone_16 = (65 ∷ 66 ∷ 67 ∷ 68 ∷ 69 ∷ []) ++ replicate 107 255

area_16-77 : read 16 (marked_closed_16 ∷ data_alone_16 ∷ []) ≡ record { damage = None; scan = record { current = 1; low = 96; data_end = 16; gc_done = false; redo = CollectAgain }; places = ((0, 1) ∷ []); list = ((1, (17 ∷ 18 ∷ [])) ∷ []) }
unfolding area_pairs first_damage open_sector shared.slot_at shared.used_slots counting_entry is_gc_done written_end data_end padded slot_size decoded crc extended bits_of
area_16-77 = refl

area_16-78 : read 16 (marked_alone_16 ∷ blank_16 ∷ one_closed_16 ∷ []) ≡ record { damage = None; scan = record { current = 0; low = 80; data_end = 0; gc_done = true; redo = Nothing }; places = ((2, 1) ∷ []); list = ((1, (17 ∷ 18 ∷ [])) ∷ []) }
unfolding area_pairs first_damage open_sector shared.slot_at shared.used_slots counting_entry is_gc_done written_end data_end padded slot_size decoded crc extended bits_of
area_16-78 = refl

area_16-79 : read 16 (one_16 ∷ deletes_closed_16 ∷ []) ≡ record { damage = None; scan = record { current = 0; low = 80; data_end = 16; gc_done = false; redo = CollectAgain }; places = ((1, 1) ∷ []); list = ((1, ([])) ∷ []) }
unfolding area_pairs first_damage open_sector shared.slot_at shared.used_slots counting_entry is_gc_done written_end data_end padded slot_size decoded crc extended bits_of
area_16-79 = refl

abbrev past_slot_16 : List ℕ
past_slot_16 = (17 ∷ 18 ∷ []) ++ replicate 78 255 ++ (1 ∷ 0 ∷ 0 ∷ 0 ∷ 112 ∷ 0 ∷ 255 ∷ 15 ∷ []) ++ replicate 24 255

area_16-80 : damage_of 16 (zeros_closed_16 ∷ past_slot_16 ∷ []) ≡ Some (record { sector = 0; why = NoFence })
unfolding area_pairs first_damage open_sector shared.slot_at shared.used_slots counting_entry is_gc_done written_end data_end padded slot_size decoded crc extended bits_of
area_16-80 = refl

area_16-81 : read 16 (two_closed_16 ∷ marked_alone_16 ∷ []) ≡ record { damage = None; scan = record { current = 1; low = 80; data_end = 0; gc_done = true; redo = EraseNext }; places = ([]); list = ([]) }
unfolding area_pairs first_damage open_sector shared.slot_at shared.used_slots counting_entry is_gc_done written_end data_end padded slot_size decoded crc extended bits_of
area_16-81 = refl

abbrev cut_entry_16 : List ℕ
cut_entry_16 = (17 ∷ 18 ∷ []) ++ replicate 62 255 ++ (2 ∷ 0 ∷ 16 ∷ 0 ∷ []) ++ replicate 12 255 ++ (1 ∷ 0 ∷ 0 ∷ 0 ∷ 2 ∷ 0 ∷ 255 ∷ 190 ∷ []) ++ replicate 24 255

area_16-82 : read 16 (cut_entry_16 ∷ blank_16 ∷ one_closed_16 ∷ []) ≡ record { damage = None; scan = record { current = 0; low = 64; data_end = 16; gc_done = false; redo = Nothing }; places = ((2, 1) ∷ (0, 1) ∷ []); list = ((1, (17 ∷ 18 ∷ [])) ∷ (1, (17 ∷ 18 ∷ [])) ∷ []) }
unfolding area_pairs first_damage open_sector shared.slot_at shared.used_slots counting_entry is_gc_done written_end data_end padded slot_size decoded crc extended bits_of
area_16-82 = refl

area_16-83 : read 16 (one_closed_16 ∷ part_00_16 ∷ blank_16 ∷ []) ≡ record { damage = None; scan = record { current = 1; low = 80; data_end = 16; gc_done = false; redo = Nothing }; places = ((0, 1) ∷ (1, 1) ∷ []); list = ((1, (17 ∷ 18 ∷ [])) ∷ (1, (17 ∷ 18 ∷ [])) ∷ []) }
unfolding area_pairs first_damage open_sector shared.slot_at shared.used_slots counting_entry is_gc_done written_end data_end padded slot_size decoded crc extended bits_of
area_16-83 = refl

abbrev marked_16 : List ℕ
marked_16 = (17 ∷ 18 ∷ []) ++ replicate 64 255 ++ (16 ∷ 0 ∷ 0 ∷ 0 ∷ 255 ∷ 110 ∷ []) ++ replicate 8 255 ++ (1 ∷ 0 ∷ 0 ∷ 0 ∷ 2 ∷ 0 ∷ 255 ∷ 190 ∷ []) ++ replicate 24 255

area_16-84 : read 16 (one_closed_16 ∷ one_closed_16 ∷ marked_16 ∷ []) ≡ record { damage = None; scan = record { current = 2; low = 64; data_end = 16; gc_done = true; redo = EraseNext }; places = ((1, 1) ∷ (2, 1) ∷ []); list = ((1, (17 ∷ 18 ∷ [])) ∷ (1, (17 ∷ 18 ∷ [])) ∷ []) }
unfolding area_pairs first_damage open_sector shared.slot_at shared.used_slots counting_entry is_gc_done written_end data_end padded slot_size decoded crc extended bits_of
area_16-84 = refl

area_16-85 : read 16 (marked_16 ∷ zeros_closed_16 ∷ marked_closed_16 ∷ deletes_closed_16 ∷ []) ≡ record { damage = None; scan = record { current = 0; low = 64; data_end = 16; gc_done = true; redo = EraseNext }; places = ((2, 1) ∷ (3, 1) ∷ (0, 1) ∷ []); list = ((1, (17 ∷ 18 ∷ [])) ∷ (1, ([])) ∷ (1, (17 ∷ 18 ∷ [])) ∷ []) }
unfolding area_pairs first_damage open_sector shared.slot_at shared.used_slots counting_entry is_gc_done written_end data_end padded slot_size decoded crc extended bits_of
area_16-85 = refl
