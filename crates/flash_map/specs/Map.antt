-- Which areas may stand beside each other.
use Rattle.std.specs.Prelude.{◌≡◌, ℕ, ◌+◌, ◌<◌, ◌≤◌, ◌==◌, ◌&&◌, nat_lt, Bool, true, false, Result, Ok, Err, List, [], ◌∷◌, ◌++◌, length}
use Rattle.std.specs.List.{list_any}
use Rattle.std.specs.Str.{bytes_eq}
use Rattle.flash_sim.specs.Bank.{bank_at}
use Rattle.flash_sim.specs.declared.flash.Bank.{Bank}
use Rattle.flash_map.specs.declared.area.Area.{Area}
use Rattle.flash_map.specs.declared.map.AddFault.{AddFault}
use Rattle.flash_map.specs.declared.map.AddFault.TheVariants.{Exists, OutOfBank, Overlaps, NoMemory}

abbrev pub has_label : List ℕ → Area → Bool
has_label label area = bytes_eq label area.label.bytes

-- a sector belongs to both: neither begins where the other has ended
abbrev pub shares_sector : Area → Area → Bool
shares_sector area other =
    (area.bank == other.bank)
    && (nat_lt area.first (other.first + other.sectors) && nat_lt other.first (area.first + area.sectors))

-- the area is of an image of this version
abbrev pub HasVersion : ℕ → Area → Type 0
HasVersion version area = area.version ≡ version

-- the bank is there, and at least two of its sectors are the area's
pub record IsInBank (banks : List Bank) (area : Area) : Type 0 where
  pub has_bank : area.bank < length banks
  pub some : 2 ≤ area.sectors
  pub in_bank : area.first + area.sectors ≤ (bank_at banks area.bank).count

-- the label is new, and no sector is another area's
pub record IsNewTo (areas : List Area) (area : Area) : Type 0 where
  pub label : list_any (has_label area.label.bytes) areas ≡ false
  pub apart : list_any (shares_sector area) areas ≡ false

-- what adding an area makes of a list of areas
abbrev pub Adds : List Bank → List Area → List Area → Area → Result (Unit {0}) AddFault → Type 0
Adds banks old new area (Ok _) = IsInBank banks area × IsNewTo old area × (new ≡ old ++ area ∷ [])
Adds banks old new area (Err Exists) = (list_any (has_label area.label.bytes) old ≡ true) × (new ≡ old)
Adds banks old new area (Err OutOfBank) =
    (list_any (has_label area.label.bytes) old ≡ false) × (IsInBank banks area → ⊥) × (new ≡ old)
Adds banks old new area (Err Overlaps) =
    (list_any (has_label area.label.bytes) old ≡ false) × IsInBank banks area
    × (list_any (shares_sector area) old ≡ true) × (new ≡ old)
Adds banks old new area (Err NoMemory) = IsInBank banks area × IsNewTo old area × (new ≡ old)
