-- Areas that are read by the definitions, in sectors of 112 bytes. tools/zms_examples writes this file; the answers are those
-- of another reading of the same rules, over the same bytes.
use Rattle.std.proofs.Common.{◌≡◌, ℕ, List, [], ◌∷◌, ◌++◌, map, replicate, Option, Some, None, refl}
use Rattle.crc8_entry.specs.Crc.{crc, extended, bits_of}
use Rattle.flash_map.specs.Units.{padded}
use Rattle.flash_map.specs.declared.faults.Damaged.{Damaged}
use Rattle.flash_map.specs.declared.faults.Why.TheVariants.{AllClosed, TwoOpen, Dirty, Overfull}
use Rattle.flash_sim.specs.declared.flash.Kind.{Kind}
use Rattle.flash_sim.specs.declared.flash.Kind.TheVariants.{Erasing, Rewritable}
use Rattle.item_laws.specs.Area.{area_pairs, first_damage, open_sector}
use Rattle.item_laws.specs.Slots.{slot_at, used_slots}
use Rattle.zms_cycle.specs.Entries.{decoded, is_empty, is_close, is_done}
use Rattle.zms_cycle.specs.Sector.{entry_in, is_valid_under, cycle_of, holds_close, holds_done, can_close, data_len, value_end, end_of, is_under, entry_cost, holds_too_much}
use Rattle.zms_format.specs.Area.{reading, is_begun, is_unused, may_close, open_place, damage_of, list_of}

-- a damage, or the open sector and the list
data Reported : Type 0 where
  IsDamaged : Damaged → Reported
  Holds : ℕ → List (ℕ × List ℕ) → Reported

abbrev reported_with : Option Damaged → Kind → List (List ℕ) → Reported
reported_with (Some damaged) kind sectors = IsDamaged damaged
reported_with None kind sectors = Holds (open_sector (reading kind) sectors) (list_of kind sectors)

record Example : Type 0 where
  kind : Kind
  sectors : List (List ℕ)
  reported : Reported

abbrev blank : List ℕ
blank = replicate 112 255

abbrev fresh : List ℕ
fresh = replicate 96 255 ++ (97 ∷ 1 ∷ []) ++ replicate 6 255 ++ replicate 8 0

abbrev one : List ℕ
one = replicate 64 255 ++ (50 ∷ 1 ∷ 2 ∷ 0 ∷ 7 ∷ 0 ∷ 0 ∷ 0 ∷ 17 ∷ 18 ∷ []) ++ replicate 6 0 ++ replicate 16 255 ++ (97 ∷ 1 ∷ []) ++ replicate 6 255 ++ replicate 8 0

abbrev two : List ℕ
two = replicate 48 255 ++ (195 ∷ 1 ∷ 0 ∷ 0 ∷ 8 ∷ []) ++ replicate 11 0 ++ (112 ∷ 1 ∷ 1 ∷ 0 ∷ 7 ∷ 0 ∷ 0 ∷ 0 ∷ 17 ∷ []) ++ replicate 7 0 ++ replicate 16 255 ++ (97 ∷ 1 ∷ []) ++ replicate 6 255 ++ replicate 8 0

abbrev long : List ℕ
long = (1 ∷ 2 ∷ 3 ∷ 4 ∷ 5 ∷ 6 ∷ 7 ∷ 8 ∷ 9 ∷ []) ++ replicate 7 0 ++ replicate 48 255 ++ (70 ∷ 1 ∷ 9 ∷ 0 ∷ 9 ∷ []) ++ replicate 11 0 ++ replicate 16 255 ++ (97 ∷ 1 ∷ []) ++ replicate 6 255 ++ replicate 8 0

abbrev beside : List ℕ
beside = (1 ∷ 2 ∷ 3 ∷ 4 ∷ 5 ∷ 6 ∷ 7 ∷ 8 ∷ 9 ∷ []) ++ replicate 7 0 ++ replicate 48 255 ++ (10 ∷ 1 ∷ 9 ∷ 0 ∷ 9 ∷ 0 ∷ 0 ∷ 0 ∷ 4 ∷ []) ++ replicate 7 0 ++ replicate 16 255 ++ (97 ∷ 1 ∷ []) ++ replicate 6 255 ++ replicate 8 0

abbrev in_guard : List ℕ
in_guard = (1 ∷ 2 ∷ 3 ∷ 4 ∷ 5 ∷ 6 ∷ 7 ∷ 8 ∷ 9 ∷ []) ++ replicate 7 0 ++ replicate 48 255 ++ (31 ∷ 1 ∷ 9 ∷ 0 ∷ 9 ∷ 0 ∷ 0 ∷ 0 ∷ 48 ∷ []) ++ replicate 7 0 ++ replicate 16 255 ++ (97 ∷ 1 ∷ []) ++ replicate 6 255 ++ replicate 8 0

abbrev full : List ℕ
full = replicate 32 255 ++ (18 ∷ 1 ∷ 1 ∷ 0 ∷ 3 ∷ 0 ∷ 0 ∷ 0 ∷ 3 ∷ []) ++ replicate 7 0 ++ (92 ∷ 1 ∷ 1 ∷ 0 ∷ 2 ∷ 0 ∷ 0 ∷ 0 ∷ 2 ∷ []) ++ replicate 7 0 ++ (142 ∷ 1 ∷ 1 ∷ 0 ∷ 1 ∷ 0 ∷ 0 ∷ 0 ∷ 1 ∷ []) ++ replicate 7 0 ++ replicate 16 255 ++ (97 ∷ 1 ∷ []) ++ replicate 6 255 ++ replicate 8 0

abbrev no_guard : List ℕ
no_guard = (11 ∷ 1 ∷ 0 ∷ 0 ∷ 5 ∷ []) ++ replicate 11 0 ++ (86 ∷ 1 ∷ 0 ∷ 0 ∷ 4 ∷ []) ++ replicate 11 0 ++ (194 ∷ 1 ∷ 0 ∷ 0 ∷ 3 ∷ []) ++ replicate 11 0 ++ (159 ∷ 1 ∷ 0 ∷ 0 ∷ 2 ∷ []) ++ replicate 11 0 ++ (120 ∷ 1 ∷ 0 ∷ 0 ∷ 1 ∷ []) ++ replicate 11 0 ++ replicate 16 255 ++ (97 ∷ 1 ∷ []) ++ replicate 6 255 ++ replicate 8 0

abbrev wrong_crc : List ℕ
wrong_crc = replicate 32 255 ++ (121 ∷ 1 ∷ 1 ∷ 0 ∷ 9 ∷ 0 ∷ 0 ∷ 0 ∷ 19 ∷ []) ++ replicate 7 0 ++ (54 ∷ 1 ∷ 1 ∷ 0 ∷ 8 ∷ 0 ∷ 0 ∷ 0 ∷ 18 ∷ []) ++ replicate 7 0 ++ (112 ∷ 1 ∷ 1 ∷ 0 ∷ 7 ∷ 0 ∷ 0 ∷ 0 ∷ 17 ∷ []) ++ replicate 7 0 ++ replicate 16 255 ++ (97 ∷ 1 ∷ []) ++ replicate 6 255 ++ replicate 8 0

abbrev wrong_head : List ℕ
wrong_head = replicate 64 255 ++ (112 ∷ 1 ∷ 1 ∷ 0 ∷ 7 ∷ 0 ∷ 0 ∷ 0 ∷ 17 ∷ []) ++ replicate 7 0 ++ replicate 16 255 ++ (96 ∷ 1 ∷ []) ++ replicate 6 255 ++ replicate 8 0

abbrev stale : List ℕ
stale = replicate 64 255 ++ (112 ∷ 1 ∷ 1 ∷ 0 ∷ 7 ∷ 0 ∷ 0 ∷ 0 ∷ 17 ∷ []) ++ replicate 7 0 ++ replicate 16 255 ++ (185 ∷ 2 ∷ []) ++ replicate 6 255 ++ replicate 8 0

abbrev stale_under : List ℕ
stale_under = replicate 48 255 ++ (112 ∷ 1 ∷ 1 ∷ 0 ∷ 7 ∷ 0 ∷ 0 ∷ 0 ∷ 17 ∷ []) ++ replicate 7 0 ++ replicate 32 255 ++ (97 ∷ 1 ∷ []) ++ replicate 6 255 ++ replicate 8 0

abbrev stale_close : List ℕ
stale_close = replicate 64 255 ++ (67 ∷ 2 ∷ 1 ∷ 0 ∷ 7 ∷ 0 ∷ 0 ∷ 0 ∷ 65 ∷ []) ++ replicate 7 0 ++ (204 ∷ 1 ∷ 0 ∷ 0 ∷ []) ++ replicate 4 255 ++ (48 ∷ 0 ∷ 0 ∷ 0 ∷ 1 ∷ 0 ∷ 0 ∷ 0 ∷ 185 ∷ 2 ∷ []) ++ replicate 6 255 ++ replicate 8 0

abbrev done : List ℕ
done = replicate 48 255 ++ (175 ∷ 1 ∷ 0 ∷ 0 ∷ []) ++ replicate 4 255 ++ replicate 4 0 ++ (2 ∷ 0 ∷ 0 ∷ 0 ∷ 30 ∷ 1 ∷ 1 ∷ 0 ∷ 7 ∷ 0 ∷ 0 ∷ 0 ∷ 49 ∷ []) ++ replicate 7 0 ++ replicate 16 255 ++ (97 ∷ 1 ∷ []) ++ replicate 6 255 ++ replicate 8 0

abbrev done_bare : List ℕ
done_bare = replicate 64 255 ++ (119 ∷ 2 ∷ 0 ∷ 0 ∷ []) ++ replicate 4 255 ++ replicate 4 0 ++ (2 ∷ 0 ∷ 0 ∷ 0 ∷ []) ++ replicate 16 255 ++ (185 ∷ 2 ∷ []) ++ replicate 6 255 ++ replicate 8 0

abbrev closed : List ℕ
closed = replicate 64 255 ++ (50 ∷ 1 ∷ 2 ∷ 0 ∷ 7 ∷ 0 ∷ 0 ∷ 0 ∷ 17 ∷ 18 ∷ []) ++ replicate 6 0 ++ (204 ∷ 1 ∷ 0 ∷ 0 ∷ []) ++ replicate 4 255 ++ (48 ∷ 0 ∷ 0 ∷ 0 ∷ 1 ∷ 0 ∷ 0 ∷ 0 ∷ 97 ∷ 1 ∷ []) ++ replicate 6 255 ++ replicate 8 0

abbrev closed_bare : List ℕ
closed_bare = replicate 80 255 ++ (204 ∷ 1 ∷ 0 ∷ 0 ∷ []) ++ replicate 4 255 ++ (48 ∷ 0 ∷ 0 ∷ 0 ∷ 1 ∷ 0 ∷ 0 ∷ 0 ∷ 97 ∷ 1 ∷ []) ++ replicate 6 255 ++ replicate 8 0

abbrev closed_delete : List ℕ
closed_delete = replicate 64 255 ++ (177 ∷ 1 ∷ 0 ∷ 0 ∷ 7 ∷ []) ++ replicate 11 0 ++ (204 ∷ 1 ∷ 0 ∷ 0 ∷ []) ++ replicate 4 255 ++ (48 ∷ 0 ∷ 0 ∷ 0 ∷ 1 ∷ 0 ∷ 0 ∷ 0 ∷ 97 ∷ 1 ∷ []) ++ replicate 6 255 ++ replicate 8 0

abbrev closed_full : List ℕ
closed_full = replicate 32 255 ++ (18 ∷ 1 ∷ 1 ∷ 0 ∷ 3 ∷ 0 ∷ 0 ∷ 0 ∷ 3 ∷ []) ++ replicate 7 0 ++ (92 ∷ 1 ∷ 1 ∷ 0 ∷ 2 ∷ 0 ∷ 0 ∷ 0 ∷ 2 ∷ []) ++ replicate 7 0 ++ (142 ∷ 1 ∷ 1 ∷ 0 ∷ 1 ∷ 0 ∷ 0 ∷ 0 ∷ 1 ∷ []) ++ replicate 7 0 ++ (204 ∷ 1 ∷ 0 ∷ 0 ∷ []) ++ replicate 4 255 ++ (48 ∷ 0 ∷ 0 ∷ 0 ∷ 1 ∷ 0 ∷ 0 ∷ 0 ∷ 97 ∷ 1 ∷ []) ++ replicate 6 255 ++ replicate 8 0

abbrev closed_long : List ℕ
closed_long = (1 ∷ 2 ∷ 3 ∷ 4 ∷ 5 ∷ 6 ∷ 7 ∷ 8 ∷ 9 ∷ []) ++ replicate 7 0 ++ replicate 48 255 ++ (158 ∷ 2 ∷ 9 ∷ 0 ∷ 9 ∷ []) ++ replicate 11 0 ++ (20 ∷ 2 ∷ 0 ∷ 0 ∷ []) ++ replicate 4 255 ++ (48 ∷ 0 ∷ 0 ∷ 0 ∷ 1 ∷ 0 ∷ 0 ∷ 0 ∷ 185 ∷ 2 ∷ []) ++ replicate 6 255 ++ replicate 8 0

abbrev closed_two : List ℕ
closed_two = replicate 48 255 ++ (158 ∷ 3 ∷ 2 ∷ 0 ∷ 7 ∷ 0 ∷ 0 ∷ 0 ∷ 34 ∷ 35 ∷ []) ++ replicate 6 0 ++ (54 ∷ 3 ∷ 1 ∷ 0 ∷ 8 ∷ 0 ∷ 0 ∷ 0 ∷ 33 ∷ []) ++ replicate 7 0 ++ (161 ∷ 3 ∷ 0 ∷ 0 ∷ []) ++ replicate 4 255 ++ (48 ∷ 0 ∷ 0 ∷ 0 ∷ 1 ∷ 0 ∷ 0 ∷ 0 ∷ 12 ∷ 3 ∷ []) ++ replicate 6 255 ++ replicate 8 0

abbrev left_over : List ℕ
left_over = (1 ∷ 2 ∷ 3 ∷ 4 ∷ 5 ∷ 6 ∷ 7 ∷ 8 ∷ 9 ∷ []) ++ replicate 7 0 ++ replicate 80 255 ++ (97 ∷ 1 ∷ []) ++ replicate 6 255 ++ replicate 8 0

abbrev no_close : List ℕ
no_close = replicate 64 255 ++ (50 ∷ 1 ∷ 2 ∷ 0 ∷ 7 ∷ 0 ∷ 0 ∷ 0 ∷ 17 ∷ 18 ∷ []) ++ replicate 22 0 ++ (97 ∷ 1 ∷ []) ++ replicate 6 255 ++ replicate 8 0

abbrev no_close_bare : List ℕ
no_close_bare = replicate 95 255 ++ (0 ∷ 97 ∷ 1 ∷ []) ++ replicate 6 255 ++ replicate 8 0

abbrev no_cycle : List ℕ
no_cycle = replicate 80 255 ++ replicate 16 0 ++ replicate 16 255

abbrev all_closed : Example
all_closed = record { kind = Rewritable; sectors = closed_long ∷ closed ∷ []; reported = IsDamaged (record { sector = 0; why = AllClosed }) }

abbrev entries_in_two : Example
entries_in_two = record { kind = Rewritable; sectors = one ∷ two ∷ []; reported = IsDamaged (record { sector = 1; why = TwoOpen }) }

abbrev entries_beside_the_open : Example
entries_beside_the_open = record { kind = Rewritable; sectors = closed ∷ fresh ∷ two ∷ []; reported = IsDamaged (record { sector = 2; why = TwoOpen }) }

abbrev two_after_closed : Example
two_after_closed = record { kind = Rewritable; sectors = closed ∷ fresh ∷ closed_bare ∷ blank ∷ []; reported = IsDamaged (record { sector = 3; why = TwoOpen }) }

abbrev two_open_comes_first : Example
two_open_comes_first = record { kind = Rewritable; sectors = full ∷ one ∷ []; reported = IsDamaged (record { sector = 1; why = TwoOpen }) }

abbrev too_much : Example
too_much = record { kind = Rewritable; sectors = blank ∷ full ∷ []; reported = IsDamaged (record { sector = 1; why = Overfull }) }

abbrev no_guard_slot : Example
no_guard_slot = record { kind = Rewritable; sectors = no_guard ∷ blank ∷ []; reported = IsDamaged (record { sector = 0; why = Overfull }) }

abbrev value_beside_units : Example
value_beside_units = record { kind = Rewritable; sectors = beside ∷ blank ∷ []; reported = IsDamaged (record { sector = 0; why = Overfull }) }

abbrev value_in_guard : Example
value_in_guard = record { kind = Rewritable; sectors = in_guard ∷ blank ∷ []; reported = IsDamaged (record { sector = 0; why = Overfull }) }

abbrev closed_too_full : Example
closed_too_full = record { kind = Rewritable; sectors = closed_full ∷ blank ∷ []; reported = IsDamaged (record { sector = 0; why = Overfull }) }

abbrev nothing : Example
nothing = record { kind = Rewritable; sectors = blank ∷ fresh ∷ []; reported = Holds 0 ([]) }

abbrev one_value : Example
one_value = record { kind = Rewritable; sectors = one ∷ blank ∷ []; reported = Holds 0 ((7, (17 ∷ 18 ∷ [])) ∷ []) }

abbrev delete_stays : Example
delete_stays = record { kind = Rewritable; sectors = two ∷ fresh ∷ []; reported = Holds 0 ((7, (17 ∷ [])) ∷ (8, ([])) ∷ []) }

abbrev long_value : Example
long_value = record { kind = Rewritable; sectors = long ∷ blank ∷ []; reported = Holds 0 ((9, (1 ∷ 2 ∷ 3 ∷ 4 ∷ 5 ∷ 6 ∷ 7 ∷ 8 ∷ 9 ∷ [])) ∷ []) }

abbrev oldest_first : Example
oldest_first = record { kind = Rewritable; sectors = closed_long ∷ closed ∷ blank ∷ []; reported = Holds 2 ((9, (1 ∷ 2 ∷ 3 ∷ 4 ∷ 5 ∷ 6 ∷ 7 ∷ 8 ∷ 9 ∷ [])) ∷ (7, (17 ∷ 18 ∷ [])) ∷ []) }

abbrev round_the_end : Example
round_the_end = record { kind = Rewritable; sectors = one ∷ blank ∷ closed_long ∷ []; reported = Holds 0 ((9, (1 ∷ 2 ∷ 3 ∷ 4 ∷ 5 ∷ 6 ∷ 7 ∷ 8 ∷ 9 ∷ [])) ∷ (7, (17 ∷ 18 ∷ [])) ∷ []) }

abbrev wrong_crc_ends_the_list : Example
wrong_crc_ends_the_list = record { kind = Rewritable; sectors = wrong_crc ∷ blank ∷ []; reported = Holds 0 ((7, (17 ∷ [])) ∷ []) }

abbrev wrong_head_is_blank : Example
wrong_head_is_blank = record { kind = Rewritable; sectors = wrong_head ∷ one ∷ []; reported = Holds 1 ((7, (17 ∷ 18 ∷ [])) ∷ []) }

abbrev old_cycle_counts_not : Example
old_cycle_counts_not = record { kind = Rewritable; sectors = stale ∷ blank ∷ []; reported = Holds 0 ([]) }

abbrev under_a_gap_counts_not : Example
under_a_gap_counts_not = record { kind = Rewritable; sectors = one ∷ stale_under ∷ []; reported = Holds 0 ((7, (17 ∷ 18 ∷ [])) ∷ []) }

abbrev gap_makes_no_sector_open : Example
gap_makes_no_sector_open = record { kind = Rewritable; sectors = stale_under ∷ one ∷ []; reported = Holds 1 ((7, (17 ∷ 18 ∷ [])) ∷ []) }

abbrev old_close_closes_not : Example
old_close_closes_not = record { kind = Rewritable; sectors = stale_close ∷ blank ∷ []; reported = Holds 0 ((7, (65 ∷ [])) ∷ []) }

abbrev closed_after_a_round : Example
closed_after_a_round = record { kind = Rewritable; sectors = closed_delete ∷ blank ∷ []; reported = Holds 1 ((7, ([])) ∷ []) }

abbrev copies_count_not : Example
copies_count_not = record { kind = Rewritable; sectors = one ∷ closed_two ∷ []; reported = Holds 0 ((8, (33 ∷ [])) ∷ (7, (34 ∷ 35 ∷ [])) ∷ []) }

abbrev full_copies_count_not : Example
full_copies_count_not = record { kind = Rewritable; sectors = full ∷ closed_delete ∷ []; reported = Holds 0 ((7, ([])) ∷ []) }

abbrev no_guard_among_copies : Example
no_guard_among_copies = record { kind = Rewritable; sectors = no_guard ∷ closed_long ∷ []; reported = Holds 0 ((9, (1 ∷ 2 ∷ 3 ∷ 4 ∷ 5 ∷ 6 ∷ 7 ∷ 8 ∷ 9 ∷ [])) ∷ []) }

abbrev victim_counts_not : Example
victim_counts_not = record { kind = Rewritable; sectors = done ∷ closed_two ∷ []; reported = Holds 0 ((7, (49 ∷ [])) ∷ []) }

abbrev full_victim_counts_not : Example
full_victim_counts_not = record { kind = Rewritable; sectors = done ∷ closed_full ∷ []; reported = Holds 0 ((7, (49 ∷ [])) ∷ []) }

abbrev done_alone : Example
done_alone = record { kind = Rewritable; sectors = done_bare ∷ closed ∷ []; reported = Holds 0 ([]) }

abbrev done_at_rest : Example
done_at_rest = record { kind = Rewritable; sectors = done ∷ blank ∷ []; reported = Holds 0 ((7, (49 ∷ [])) ∷ []) }

abbrev collecting_of_three : Example
collecting_of_three = record { kind = Rewritable; sectors = closed_long ∷ closed_delete ∷ one ∷ []; reported = Holds 2 ((9, (1 ∷ 2 ∷ 3 ∷ 4 ∷ 5 ∷ 6 ∷ 7 ∷ 8 ∷ 9 ∷ [])) ∷ (7, ([])) ∷ []) }

abbrev collected_of_three : Example
collected_of_three = record { kind = Rewritable; sectors = closed_long ∷ closed_delete ∷ done ∷ []; reported = Holds 2 ((7, ([])) ∷ (7, (49 ∷ [])) ∷ []) }

abbrev no_close_in_the_open : Example
no_close_in_the_open = record { kind = Erasing; sectors = no_close ∷ blank ∷ []; reported = IsDamaged (record { sector = 0; why = Dirty }) }

abbrev no_close_beside_the_open : Example
no_close_beside_the_open = record { kind = Erasing; sectors = fresh ∷ no_close_bare ∷ []; reported = IsDamaged (record { sector = 1; why = Dirty }) }

abbrev no_close_and_two_open : Example
no_close_and_two_open = record { kind = Erasing; sectors = no_close ∷ one ∷ []; reported = IsDamaged (record { sector = 1; why = TwoOpen }) }

abbrev no_close_before_the_open : Example
no_close_before_the_open = record { kind = Erasing; sectors = no_close_bare ∷ one ∷ []; reported = IsDamaged (record { sector = 0; why = Dirty }) }

abbrev old_close_is_in_the_way : Example
old_close_is_in_the_way = record { kind = Erasing; sectors = stale_close ∷ blank ∷ []; reported = IsDamaged (record { sector = 0; why = Dirty }) }

abbrev left_over_is_no_entry : Example
left_over_is_no_entry = record { kind = Erasing; sectors = left_over ∷ blank ∷ []; reported = Holds 0 ([]) }

abbrev left_over_beside_a_value : Example
left_over_beside_a_value = record { kind = Erasing; sectors = left_over ∷ one ∷ []; reported = Holds 1 ((7, (17 ∷ 18 ∷ [])) ∷ []) }

abbrev no_cycle_no_close : Example
no_cycle_no_close = record { kind = Erasing; sectors = no_cycle ∷ one ∷ []; reported = Holds 1 ((7, (17 ∷ 18 ∷ [])) ∷ []) }

abbrev closed_and_left_over : Example
closed_and_left_over = record { kind = Erasing; sectors = closed ∷ left_over ∷ []; reported = Holds 1 ((7, (17 ∷ 18 ∷ [])) ∷ []) }

abbrev no_close_among_copies : Example
no_close_among_copies = record { kind = Erasing; sectors = no_close ∷ closed_long ∷ []; reported = Holds 0 ((9, (1 ∷ 2 ∷ 3 ∷ 4 ∷ 5 ∷ 6 ∷ 7 ∷ 8 ∷ 9 ∷ [])) ∷ []) }

abbrev examples : List Example
examples = all_closed ∷ entries_in_two ∷ entries_beside_the_open ∷ two_after_closed ∷ two_open_comes_first ∷ too_much ∷ no_guard_slot ∷ value_beside_units ∷ value_in_guard ∷ closed_too_full ∷ nothing ∷ one_value ∷ delete_stays ∷ long_value ∷ oldest_first ∷ round_the_end ∷ wrong_crc_ends_the_list ∷ wrong_head_is_blank ∷ old_cycle_counts_not ∷ under_a_gap_counts_not ∷ gap_makes_no_sector_open ∷ old_close_closes_not ∷ closed_after_a_round ∷ copies_count_not ∷ full_copies_count_not ∷ no_guard_among_copies ∷ victim_counts_not ∷ full_victim_counts_not ∷ done_alone ∷ done_at_rest ∷ collecting_of_three ∷ collected_of_three ∷ no_close_in_the_open ∷ no_close_beside_the_open ∷ no_close_and_two_open ∷ no_close_before_the_open ∷ old_close_is_in_the_way ∷ left_over_is_no_entry ∷ left_over_beside_a_value ∷ no_cycle_no_close ∷ closed_and_left_over ∷ no_close_among_copies ∷ []

-- each area reads as is said
all_agree : map (λ (e : Example). reported_with (damage_of e.kind e.sectors) e.kind e.sectors) examples ≡ map (λ (e : Example). e.reported) examples
unfolding area_pairs first_damage open_sector slot_at used_slots entry_in is_valid_under cycle_of holds_close holds_done can_close data_len value_end end_of is_under is_begun is_unused may_close entry_cost holds_too_much damage_of is_empty is_close is_done padded decoded crc extended bits_of
all_agree = refl

-- In `no_close_before_the_open` the list and the damage have different open sectors.
list_opens : open_sector (reading Erasing) no_close_before_the_open.sectors ≡ 0
unfolding open_sector slot_at used_slots is_valid_under cycle_of holds_close can_close is_begun is_unused may_close is_empty is_close decoded crc extended bits_of
list_opens = refl

damage_opens : open_place no_close_before_the_open.sectors ≡ 1
unfolding open_sector slot_at used_slots is_valid_under cycle_of holds_close can_close is_begun is_unused may_close is_empty is_close decoded crc extended bits_of
damage_opens = refl
