-- Small facts that the calls of a sector share: sums that fit, and clauses of the other result.
use Rattle.std.proofs.Common.{◌≡◌, ℕ, ◌+◌, ◌-◌, ◌*◌, ◌^◌, ◌<◌, ◌≤◌, true, List, length, Result, Ok, Err, ap, arith}
use Rattle.std.specs.Prelude.{is_err, OnOk}
use Rattle.std.proofs.lemmas.Bool.{false≢true}
use Rattle.flash_map.specs.Units.{IsUnit, padded}
use Rattle.nvs_store.specs.Geometry.{slot_size}
use Rattle.nvs_store.specs.Sector.{low, data_end}
use Rattle.nvs_store.proofs.Room.{HasRoom}
use Rattle.nvs_store.proofs.SlotReads.{slot_widths}

-- of an error, what a success says
pub not_ok : {T E : Type 0} (P : Type 0) (r : Result T E) → is_err r ≡ true → OnOk r P
not_ok P (Ok x) is = absurd (false≢true is)
not_ok P (Err e) is = tt

-- the slot under the lowest one, where data and slots have room
pub slot-under : (slot size low end width : ℕ) → 8 ≤ width → width ≡ slot → slot + size + 3 * slot ≤ low - end → width ≤ low
slot-under slot size low end width wide is room = omega arith

-- the data end, once the data is put
pub data-under : (slot size low end width put : ℕ) → 8 ≤ width → width ≡ slot → put ≡ size → slot + size + 3 * slot ≤ low - end → end + put ≤ low
data-under slot size low end width put wide is long room = omega arith

-- data that lies in a sector is short
pub short-in : (offset len sector : ℕ) → offset + len ≤ sector → sector ≤ 32768 → (len < 2 ^ 30) × (len < 2 ^ 31)
short-in offset len sector inside most = (omega arith, omega arith)

-- the same, of a sector with room
pub slot-in : (unit : ℕ) (b : List ℕ) (len lowest width : ℕ) → HasRoom unit b len → lowest ≡ low unit b → width ≡ slot_size unit → width ≤ lowest
slot-in unit b len lowest width has at is =
    let fits_in = has.room in
    omega arith

pub data-in : (unit : ℕ) (b : List ℕ) (len end put : ℕ) → HasRoom unit b len → end ≡ data_end unit b → put ≡ padded unit len → end + put < 2 ^ 32
data-in unit b len end put has at long =
    let short = has.short in
    let fits_in = has.room in
    omega arith

pub room-in : (unit : ℕ) (b : List ℕ) (len size sector lowest end : ℕ) → IsUnit unit → length b ≡ sector → sector ≤ 32768 → lowest ≡ low unit b → end ≡ data_end unit b → len ≡ size
    → slot_size unit + padded unit size + 3 * slot_size unit ≤ lowest - end → HasRoom unit b len
room-in unit b len size sector lowest end is-unit long most at from same room =
    let widths = slot_widths unit is-unit in
    let rounded : padded unit len ≡ padded unit size = ap (padded unit) same in
    record { is_unit = is-unit; short = omega arith; room = omega arith }
