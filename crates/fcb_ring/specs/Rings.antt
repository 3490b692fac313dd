-- The ring of an area's sectors, by the state of each. A place is the number of a sector.
use Rattle.std.specs.Prelude.{◌≡◌, ℕ, ◌+◌, ◌-◌, ◌%◌, ◌<◌, ◌≤◌, Bool, true, false, not, ◌&&◌, List, length, map, filter, find, slice_index_or, Option, unwrap_or, ◌==◌, nat_lt, if◌then◌else◌}
use Rattle.std.specs.List.{range_with_len, list_all}
use Rattle.std.specs.Option.{option_map, option_or}
use Rattle.flash_map.specs.declared.faults.Damaged.{Damaged}
use Rattle.flash_map.specs.declared.faults.Why.{Why}
use Rattle.flash_map.specs.declared.faults.Why.TheVariants.{BadHeader, BadSequence, Overfull, Dirty}
use Rattle.fcb_ring.specs.declared.sector.SectorState.{SectorState}

-- stands for a sector that is not there
abbrev pub no_state : SectorState
no_state =
    record {
      is_torn = false;
      is_free = true;
      has_header = false;
      id = 0;
      end = 0;
      is_overfull = false;
      is_dirty = false;
    }

abbrev pub state_at : List SectorState → ℕ → SectorState
state_at states place = slice_index_or states place no_state

abbrev pub places : List SectorState → List ℕ
places states = range_with_len 0 (length states)

abbrev pub is_used : List SectorState → ℕ → Bool
is_used states place = not (state_at states place).is_free

-- the place before, round the area's end
abbrev pub before : ℕ → ℕ → ℕ
before count place = if place == 0 then count - 1 else place - 1

-- so many places further on, round the area's end
unfoldable pub turned : ℕ → ℕ → ℕ → ℕ
turned count place k = if nat_lt (place + k) count then place + k else place + k - count

-- how far a place is from another, going round
unfoldable pub distance : ℕ → ℕ → ℕ → ℕ
distance count from place = if nat_lt place from then place + count - from else place - from

-- its id is one more than that of the used sector before it
abbrev pub continues : List SectorState → ℕ → Bool
continues states place =
    is_used states (before (length states) place)
    && ((state_at states place).id == ((state_at states (before (length states) place)).id + 1) % 65536)

-- a used sector that does not continue the one before it
abbrev pub opens_run : List SectorState → ℕ → Bool
opens_run states place = is_used states place && not (continues states place)

-- The used sectors are one run if only one of them does not continue the sector before it. That is
-- the oldest.
unfoldable pub oldest_place : List SectorState → ℕ
oldest_place states = unwrap_or (find (opens_run states) (places states)) 0

-- a second such sector, behind the first one
unfoldable pub second_start : List SectorState → Option ℕ
second_start states =
    find (opens_run states)
    (range_with_len (oldest_place states + 1) (length states - (oldest_place states + 1)))

-- no sector is free
abbrev pub is_full : List SectorState → Bool
is_full states = list_all (λ state. not state.is_free) states

-- If no sector is free, the newest, which stands before the oldest, is ignored.
unfoldable pub counts : List SectorState → ℕ → Bool
counts states place =
    is_used states place && not (is_full states && (place == before (length states) (oldest_place states)))

-- the sectors that count, from the oldest on
unfoldable pub counting : List SectorState → List ℕ
counting states =
    filter (counts states)
    (map (turned (length states) (oldest_place states)) (range_with_len 0 (length states)))

-- whether the sector shows this kind of damage
abbrev pub shows : Why → List SectorState → ℕ → Bool
shows BadHeader states place = is_used states place && not (state_at states place).has_header
shows Overfull states place = counts states place && (state_at states place).is_overfull
shows Dirty states place = counts states place && (state_at states place).is_dirty
shows why states place = false

-- the lowest sector that shows it
abbrev pub first_of : Why → List SectorState → Option Damaged
first_of why states =
    option_map (λ place. record { sector = place; why = why }) (find (shows why states) (places states))

-- the first kind of damage, at the lowest sector that shows it; a bad sequence names sector 0
unfoldable pub first_damage : List SectorState → Option Damaged
first_damage states =
    option_or (first_of BadHeader states)
    (option_or (option_map (λ _. record { sector = 0; why = BadSequence }) (second_start states))
    (option_or (first_of Overfull states) (first_of Dirty states)))

-- The form of an area that is not damaged in its headers: so many sectors are used, the oldest at
-- this place.
pub record IsRing (states : List SectorState) (oldest used : ℕ) : Type 0 where
  pub several : 2 ≤ length states
  pub few : length states ≤ 64
  pub within : oldest < length states
  pub most : used ≤ length states
  pub empty : used ≡ 0 → oldest ≡ 0
  pub used_ones : (k : ℕ) → k < used → (state_at states (turned (length states) oldest k)).is_free ≡ false
  pub free_ones : (k : ℕ) → used ≤ k → k < length states
      → (state_at states (turned (length states) oldest k)).is_free ≡ true
  pub headers : (k : ℕ) → k < used → (state_at states (turned (length states) oldest k)).has_header ≡ true
  pub ids : (k : ℕ) → k + 1 < used
      → (state_at states (turned (length states) oldest (k + 1))).id
      ≡ ((state_at states (turned (length states) oldest k)).id + 1) % 65536

-- so many of them, the oldest first, end in their sector with nothing behind them
abbrev pub AreClean : List SectorState → ℕ → ℕ → Type 0
AreClean states oldest count =
    (k : ℕ) → k < count
    → ((state_at states (turned (length states) oldest k)).is_overfull ≡ false)
    × ((state_at states (turned (length states) oldest k)).is_dirty ≡ false)
