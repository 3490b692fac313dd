-- How the calls of a ZMS store end: as those of `item_store` do, over the sectors of ZMS.
use Rattle.std.specs.Prelude.{◌≡◌, ◌⊎◌, ℕ, List, Result}
use Rattle.flash_sim.specs.Device.{Device}
use Rattle.flash_sim.specs.declared.flash.PowerLost.{PowerLost}
use Rattle.flash_map.specs.declared.area.Area.{Area}
use Rattle.flash_map.specs.declared.area.Role.TheVariants.{Zms as ZmsRole}
use Rattle.flash_map.specs.declared.faults.MountFault.{MountFault}
use Rattle.flash_map.specs.declared.faults.WriteFault.{WriteFault}
use Rattle.flash_map.specs.Area.{sectors_of}
use Rattle.item_store.specs.Closing as closing
use Rattle.item_store.specs.Stands as stands
use Rattle.item_store.specs.Wrapped.{store_in}
use Rattle.item_store.specs.Writing as writing
use Rattle.item_store.specs.Written as written
use Rattle.zms_format.specs.Formats.{format_of}
use Rattle.zms_store.specs.declared.store.Zms.{Zms}
use Rattle.zms_store.specs.Standing.{format_on, kept}

-- If the area is damaged, or memory runs out, nothing changed. Otherwise the items stay, whether
-- power is lost or not. A mount spends what there is to redo: nothing, an emptying, or a garbage
-- collection.
abbrev pub MountEnds : Device → Device → Area → Result Zms MountFault → Type 0
MountEnds old new area result =
    stands.MountEnds ZmsRole format_of kept old new area (store_in (λ (zms : Zms). zms.store) result)

-- Where a mount, cut or not, took a byte of the sector behind the open one, gc-done stands in the
-- open one.
abbrev pub MarksFirst : Device → Device → Area → Type 0
MarksFirst old new area = stands.MountMarksFirst (format_on old area) old new area

-- Closing and collecting, with this sector open. If it was clean, nothing changed. Otherwise a
-- whole round was made: the room that it leaves, and its units. These are the units of the close,
-- of the new open sector if that has to be made ready, and of a garbage collection if there is
-- something to collect. The victim takes exactly what its bytes say; with two sectors, where the
-- round closes the victim itself, one unit on a rewritable bank. On an erasing bank it takes
-- exactly an erase and an empty entry. If power was lost in the round, the list is as before or as
-- the round leaves it, and where a byte of the victim changed, gc-done stands. A sector is clean
-- (`is_clean_at`) if it has no entry and all its space is free.
abbrev pub RoundEnds : {T : Type 0} → Device → Device → Area → ℕ → Result T PowerLost → Type 0
RoundEnds old new area place result = closing.RoundEnds (format_on old area) old new area place result

-- how a write ends
abbrev pub WriteEnds : {T : Type 0} → Device → Device → Area → ℕ → List ℕ → Result T WriteFault → Type 0
WriteEnds old new area id bytes result = writing.WriteEnds (format_on old area) old new area id bytes result

-- how a delete ends
abbrev pub DeleteEnds : {T : Type 0} → Device → Device → Area → ℕ → Result T PowerLost → Type 0
DeleteEnds old new area id result = writing.DeleteEnds (format_on old area) old new area id result

-- some sector of the area, as it reads on the device before, is not blank now
abbrev pub IsWritten : Device → Device → Area → Type 0
IsWritten old new area = written.IsWritten (format_on old area) (sectors_of new area)

-- a written area stays written
abbrev pub KeepsWritten : Device → Device → Area → Type 0
KeepsWritten old new area = IsWritten old old area → IsWritten old new area

-- nothing changed, or something is written now
abbrev pub SameOrWritten : Device → Device → Area → Type 0
SameOrWritten old new area = (new ≡ old) ⊎ IsWritten old new area

-- no byte of the area changed, or something is written now
abbrev pub SameBytesOrWritten : Device → Device → Area → Type 0
SameBytesOrWritten old new area = (sectors_of new area ≡ sectors_of old area) ⊎ IsWritten old new area
