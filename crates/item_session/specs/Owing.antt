-- What a mount of items spends, by what the lines that were cut left to it.
use Rattle.std.specs.Prelude.{◌≡◌, ℕ, ◌≤◌, ⊤, List, [], ◌∷◌}
use Rattle.flash_sim.specs.Device.{Device}
use Rattle.flash_map.specs.declared.area.Area.{Area}
use Rattle.flash_map.specs.declared.area.Geometry.{Geometry}
use Rattle.flash_map.specs.Area.{sectors_of}
use Rattle.item_laws.specs.Area.{open_sector}
use Rattle.item_store.specs.Collecting.{redo_of, redo_units}
use Rattle.item_store.specs.Listed.{format_on}
use Rattle.item_store.specs.SectorFormat.{Range, SectorFormat}
use Rattle.item_session.specs.declared.line.Line.{Line}
use Rattle.item_session.specs.declared.line.Line.TheVariants.{Mount}
use Rattle.item_session.specs.declared.answer.Answer.{Answer}
use Rattle.item_session.specs.Plan.{units_of}

-- what there is to redo in the area: nothing, the emptying of a sector, or a collection
abbrev pub redo_on : (Geometry → SectorFormat) → Device → Area → Range
redo_on format_of d area =
    let k = format_on format_of d area in
    let place = open_sector k.reading (sectors_of d area) in
    redo_units k (sectors_of d area) place (redo_of k (sectors_of d area) place)

-- A mount of the area spends at most so many units and erases, cut or not.
abbrev pub OwesOn : (Geometry → SectorFormat) → Device → Area → ℕ → Type 0
OwesOn format_of d area most =
    ((redo_on format_of d area).most ≤ most) × ((redo_on format_of d area).lost ≤ most)

-- The most that an area without damage owes, whatever its bytes: a collection that begins again.
abbrev pub boot_units : (Geometry → SectorFormat) → Geometry → ℕ
boot_units format_of geometry = (format_of geometry).units.mount geometry.sector

-- the answer reports at most as many units and erases as the area owed
abbrev pub ReportsOwed : (Geometry → SectorFormat) → Area → Device → Answer → Type 0
ReportsOwed format_of area old answer = (most : ℕ) → OwesOn format_of old area most → units_of answer ≤ most

-- each answer to a mount reports at most so many units and erases
abbrev pub MountsWithin : ℕ → List Line → List Answer → Type 0
MountsWithin most [] [] = ⊤
MountsWithin most (line ∷ lines) (answer ∷ answers) =
    (line ≡ Mount → units_of answer ≤ most) × MountsWithin most lines answers
MountsWithin most [] (answer ∷ answers) = ⊥
MountsWithin most (line ∷ lines) [] = ⊥
