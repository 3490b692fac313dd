-- Whether the units that were put before a power loss spell, by chance, another record than the
-- intended one.
use Rattle.std.specs.Prelude.{◌≡◌, ◌↔◌, ℕ, ◌+◌, ◌-◌, ◌*◌, ◌%◌, Bool, true, false, not, ◌&&◌, List, ◌++◌, length, take, replicate, Some, ◌==◌, nat_lt, nat_le}
use Rattle.std.specs.Str.{bytes_eq}
use Rattle.flash_sim.specs.Bank.{IsLawful}
use Rattle.flash_sim.specs.Device.{Device}
use Rattle.flash_sim.specs.declared.flash.Loss.{Loss}
use Rattle.flash_map.specs.declared.area.Area.{Area}
use Rattle.flash_map.specs.declared.area.Geometry.{Geometry}
use Rattle.flash_map.specs.Area.{unit_of, geometry_of, sectors_of}
use Rattle.fcb_ring.specs.Changing.{IsRecordLoss, IsHeaderLoss, IsEraseLoss}
use Rattle.fcb_ring.specs.Entries.{states}
use Rattle.fcb_ring.specs.Records.{has_record, record_of}
use Rattle.fcb_ring.specs.Rings.{is_full}
use Rattle.fcb_ring.specs.Standing.{IsRingArea, states_on}
use Rattle.fcb_ring.specs.Writing.{IsChance}

-- the units that were put, with FF behind them
abbrev pub bytes_put : ℕ → Loss → List ℕ
bytes_put unit loss =
    take (loss.done * unit) loss.want.items ++ replicate (length loss.want.items - loss.done * unit) 0xFF

-- the loss lies in the area, and does not begin a sector
abbrev pub is_behind_header : Area → ℕ → Loss → Bool
is_behind_header area size loss =
    (loss.at.bank == area.bank)
    && (nat_le (area.first * size) loss.at.offset
    && (nat_lt loss.at.offset ((area.first + area.sectors) * size) && not (loss.at.offset % size == 0)))

-- some of the units were put, and not all
abbrev pub is_part : ℕ → Loss → Bool
is_part unit loss = nat_lt 0 loss.done && nat_lt (loss.done * unit) (length loss.want.items)

-- the bytes are one record, and it checks
abbrev pub is_record : ℕ → List ℕ → Bool
is_record unit bytes =
    has_record bytes 0 && (((record_of unit bytes 0).end == length bytes) && (record_of unit bytes 0).checks)

-- The area has a free sector, and the bytes that were put are another record than the intended one.
unfoldable pub chance : Area → Geometry → List (List ℕ) → Loss → Bool
chance area geometry sectors loss =
    not (is_full (states geometry.unit sectors))
    &&
    (is_behind_header area geometry.sector loss
    && (is_part geometry.unit loss
    && (is_record geometry.unit (bytes_put geometry.unit loss)
    && not (bytes_eq (bytes_put geometry.unit loss) loss.want.items))))

abbrev pub chance_on : Device → Area → Loss → Bool
chance_on d area loss = chance area (geometry_of d area) (sectors_of d area) loss

-- `chance` is false for the last loss
abbrev pub HasNoChance : Device → Area → Type 0
HasNoChance d area = (loss : Loss) × (d.last_loss ≡ Some loss) × (chance_on d area loss ≡ false)

-- if power was lost in a record, and a sector is free, `chance` is true exactly if the torn record
-- checks and is another one
abbrev pub ReportsRecord : Device → Area → Type 0
ReportsRecord d area =
    (place offset : ℕ) (body : List ℕ) (done : ℕ) → IsRecordLoss d area place offset body done
    → is_full (states_on d area) ≡ false
    → (loss : Loss) → d.last_loss ≡ Some loss
    → (chance_on d area loss ≡ true) ↔ IsChance (unit_of d area) body done

-- what `chance` says of each kind of loss
abbrev pub ReportsChance : Type 0
ReportsChance =
    (d : Device) (area : Area) → IsLawful d.banks d.bytes → IsRingArea d.banks area
    → ReportsRecord d area × ((place : ℕ) → IsHeaderLoss d area place → HasNoChance d area)
    × ((place : ℕ) → IsEraseLoss d area place → HasNoChance d area)
    × ((loss : Loss) → is_full (states_on d area) ≡ true → chance_on d area loss ≡ false)
