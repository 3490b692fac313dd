-- What the code of a store reads from sector to sector is what the definitions on the area say.
use Rattle.std.proofs.Common.{◌≡◌, ℕ, ◌*◌, Bool, true, false, not, cond, eqb, List, length, drop, Option, Some, None, refl, sym, ap, ◌∙◌}
use Rattle.std.specs.Prelude.{unwrap_or}
use Rattle.std.specs.List.{find, range_with_len}
use Rattle.flash_sim.specs.Device.{Device, bytes_of}
use Rattle.flash_map.specs.declared.area.Area.{Area}
use Rattle.flash_map.specs.Area.{sector_at, sector_size, sectors_of}
use Rattle.flash_map.proofs.Sectors.{length-sectors_from}
use Rattle.item_laws.specs.Area.{next, previous, places, is_closed_at, is_blank_at, follows_closed, open_sector, counts_at}
use Rattle.item_laws.specs.Reading.{Reading}
use Rattle.item_laws.proofs.Lists.{counts-next}
use Rattle.item_laws.proofs.Places.{after, before}
use Rattle.item_laws.proofs.Searches.{first-filter}

pub length-sectors : (d : Device) (area : Area) → length (sectors_of d area) ≡ area.sectors
length-sectors d area = length-sectors_from area.sectors (sector_size d area) (drop (area.first * sector_size d area) (bytes_of d area.bank))

pub next_there : (d : Device) (area : Area) (place : ℕ) → after area.sectors place ≡ next (sectors_of d area) place
next_there d area place = ap (λ (n : ℕ). after n place) (sym (length-sectors d area))

pub previous_there : (d : Device) (area : Area) (place : ℕ) → before area.sectors place ≡ previous (sectors_of d area) place
previous_there d area place = ap (λ (n : ℕ). before n place) (sym (length-sectors d area))

module _ (reading : Reading) (sectors : List (List ℕ)) where
  -- a place counts where it is not the ignored one
  pub counts_closed : (place k ignored : ℕ) (done : Bool) → is_closed_at reading sectors (next sectors place) ≡ true → reading.has_gc_done (sector_at sectors place) ≡ done → ignored ≡ cond done (next sectors place) place → not (eqb k ignored) ≡ counts_at reading sectors place k
  counts_closed place k ignored done c d is = ap (λ (h : ℕ). not (eqb k h)) is ∙ sym (counts-next reading sectors place k true done c d)

  pub counts_open : (place k : ℕ) → is_closed_at reading sectors (next sectors place) ≡ false → true ≡ counts_at reading sectors place k
  counts_open place k c = sym (counts-next reading sectors place k false (reading.has_gc_done (sector_at sectors place)) c refl)

  -- the open sector, by what a search over all places finds
  opening : (count : ℕ) (o : Option ℕ) → count ≡ length sectors → o ≡ find (follows_closed reading sectors) (range_with_len 0 count) → unwrap_or o (unwrap_or (find (λ place. not (is_blank_at reading sectors place)) (places sectors)) 0) ≡ open_sector reading sectors
  unfolding open_sector
  opening count o long is =
      ap (λ (x : Option ℕ). unwrap_or x (unwrap_or (find (λ place. not (is_blank_at reading sectors place)) (places sectors)) 0))
      (is ∙ ap (λ (n : ℕ). find (follows_closed reading sectors) (range_with_len 0 n)) long ∙ sym (first-filter (follows_closed reading sectors) (places sectors)))

  pub open-opening : (count place : ℕ) → count ≡ length sectors → Some place ≡ find (follows_closed reading sectors) (range_with_len 0 count) → place ≡ open_sector reading sectors
  open-opening count place long some = opening count (Some place) long some

  pub open-blank : (count : ℕ) (o : Option ℕ) → count ≡ length sectors → None ≡ find (follows_closed reading sectors) (range_with_len 0 count) → o ≡ find (λ place. not (is_blank_at reading sectors place)) (range_with_len 0 count) → unwrap_or o 0 ≡ open_sector reading sectors
  open-blank count o long none found =
      ap (λ (x : Option ℕ). unwrap_or x 0) (found ∙ ap (λ (n : ℕ). find (λ place. not (is_blank_at reading sectors place)) (range_with_len 0 n)) long) ∙ opening count None long none
