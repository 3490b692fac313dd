-- What the fields of a file say.
use Rattle.std.specs.Prelude.{ℕ, zero, suc, ◌+◌, ◌*◌, List, [], map, take, drop, slice_index}
use Rattle.std.specs.List.{range_with_len, sum_by}
use Rattle.std.specs.Int.{w16, w32, from_le_bytes}
use Rattle.flash_sim.specs.Bank.{bank_at, capacity}
use Rattle.flash_sim.specs.declared.flash.Bank.{Bank}
use Rattle.flash_sim.specs.declared.flash.Kind.{Kind}
use Rattle.flash_sim.specs.declared.flash.Kind.TheVariants.{Erasing, Rewritable}
use Rattle.flash_map.specs.declared.area.Area.{Area}
use Rattle.flash_map.specs.declared.area.Role.{Role}
use Rattle.flash_map.specs.declared.area.Role.TheVariants.{Nvs, Zms, Fcb, Sel}
use Rattle.image_file.specs.Format.{Plain}

-- so many bytes from a place on
abbrev pub field_at : List ℕ → ℕ → ℕ → List ℕ
field_at bytes at size = take size (drop at bytes)

abbrev pub kind_said : ℕ → Kind
kind_said zero = Erasing
kind_said (suc n) = Rewritable

abbrev pub role_said : ℕ → Role
role_said zero = Nvs
role_said (suc zero) = Nvs
role_said (suc (suc zero)) = Zms
role_said (suc (suc (suc zero))) = Fcb
role_said (suc (suc (suc (suc n)))) = Sel

unfoldable pub bank_said : List ℕ → Bank
bank_said text =
    record {
      kind = kind_said (slice_index text 0);
      unit = slice_index text 1;
      sector = from_le_bytes w32 (field_at text 4 4);
      count = from_le_bytes w32 (field_at text 8 4);
    }

-- in a file of this version
unfoldable pub area_said : ℕ → List ℕ → Area
area_said version text = record {
  label = record { bytes = field_at text 8 (slice_index text 6); spare = [] };
  role = role_said (slice_index text 0);
  bank = slice_index text 1;
  first = from_le_bytes w16 (field_at text 2 2);
  sectors = from_le_bytes w16 (field_at text 4 2);
  version = version;
}

abbrev pub version_said : List ℕ → ℕ
version_said bytes = slice_index bytes 4

abbrev pub bank_count : List ℕ → ℕ
bank_count bytes = slice_index bytes 5

abbrev pub area_count : List ℕ → ℕ
area_count bytes = slice_index bytes 6

-- places of the i-th bank, the i-th area
abbrev pub bank_place : ℕ → ℕ
bank_place i = 8 + 12 * i

abbrev pub area_place : List ℕ → ℕ → ℕ
area_place bytes i = 8 + 12 * bank_count bytes + 16 * i

-- the first n banks, the first n areas
abbrev pub banks_said : List ℕ → ℕ → List Bank
banks_said bytes n = map (λ i. bank_said (field_at bytes (bank_place i) 12)) (range_with_len 0 n)

abbrev pub areas_said : List ℕ → ℕ → List Area
areas_said bytes n =
    map (λ i. area_said (version_said bytes) (field_at bytes (area_place bytes i) 16)) (range_with_len 0 n)

abbrev pub all_banks : List ℕ → List Bank
all_banks bytes = banks_said bytes (bank_count bytes)

abbrev pub all_areas : List ℕ → List Area
all_areas bytes = areas_said bytes (area_count bytes)

-- place and length of the bytes of the i-th bank
abbrev pub contents_place : List ℕ → ℕ → ℕ
contents_place bytes i = area_place bytes (area_count bytes) + sum_by capacity (take i (all_banks bytes))

abbrev pub contents_size : List ℕ → ℕ → ℕ
contents_size bytes i = capacity (bank_at (all_banks bytes) i)

abbrev pub contents_said : List ℕ → ℕ → List (List ℕ)
contents_said bytes n =
    map (λ i. field_at bytes (contents_place bytes i) (contents_size bytes i)) (range_with_len 0 n)

-- the image that a file says, lawful or not
abbrev pub image_said : List ℕ → Plain
image_said bytes =
    record {
      version = version_said bytes;
      banks = all_banks bytes;
      areas = all_areas bytes;
      bytes = contents_said bytes (bank_count bytes);
    }
