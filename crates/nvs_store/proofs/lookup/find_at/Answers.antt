use Rattle.std.proofs.Common.{◌≡◌, ℕ, List, not, ap, ◌∙◌, arith}
use Rattle.std.specs.Option.{option_map}
use Rattle.flash_sim.specs.Device.{Device}
use Rattle.flash_map.specs.declared.area.Geometry.{Geometry}
use Rattle.flash_map.specs.Area.{unit_of, sectors_of, sector_at}
use Rattle.flash_map.proofs.Places.{length-sector}
use Rattle.item_laws.proofs.AreaReads.{length-sectors}
use Rattle.nvs_store.specs.Sector.{entries_within, last_found}
use Rattle.nvs_store.specs.Scans.{placed_at, last_wanted, counted_within}
use Rattle.nvs_store.proofs.LastLemmas.{counted-last, counted-none, counted-whole}
use Rattle.nvs_store.proofs.lookup.find_at.Given.{Over}
use Rattle.nvs_store.proofs.lookup.find_at.Goals as goal
use Rattle.nvs_store.proofs.lookup.find_at.Goals.{After-find_in}

found : (g : Over) (c : After-find_in g) → c.find_in.result ≡ last_wanted c.args.wanted (counted_within (unit_of (g.F.Flash.device c.args.flash.now) c.args.area.now) (sectors_of (g.F.Flash.device c.args.flash.now) c.args.area.now) c.args.scan.now.current c.args.place c.args.slots)
found g c =
    let d : Device = g.F.Flash.device c.args.flash.now in
    let unit : ℕ = unit_of d c.args.area.now in
    let sectors : List (List ℕ) = sectors_of d c.args.area.now in
    c.find_in.ensures
    ∙ ap (λ (x : Geometry). option_map (placed_at c.args.place) (last_found c.args.wanted (entries_within x.unit c.sector_view-bytes.result.now c.args.slots))) c.geometry-unit.ensures
    ∙ ap (λ (b : List ℕ). option_map (placed_at c.args.place) (last_found c.args.wanted (entries_within unit b c.args.slots))) c.sector_view-bytes.ensures.bytes
    ∙ counted-last unit sectors c.args.scan.now.current c.args.place c.args.slots c.args.wanted (c.is_ignored.ensures unit sectors (length-sectors d c.args.area.now) c.requires.scan ∙ ap not c.if-is_ignored.false)

pub returns-else-is_ignored-clause-within : goal.returns-else-is_ignored-clause-within
returns-else-is_ignored-clause-within g c = found g c

pub returns-else-is_ignored-clause-whole : goal.returns-else-is_ignored-clause-whole
returns-else-is_ignored-clause-whole g c = λ enough.
    let d : Device = g.F.Flash.device c.args.flash.now in
    let long = length-sector d c.args.area.now (g.met.F.Flash.is_lawful c.args.flash.now) c.requires.lawful.in_bank c.args.place c.requires.inside in
    let sector : List ℕ = sector_at (sectors_of d c.args.area.now) c.args.place in
    found g c ∙ ap (last_wanted c.args.wanted) (counted-whole (unit_of d c.args.area.now) (sectors_of d c.args.area.now) c.args.scan.now.current c.args.place c.args.slots (omega (arith, c.requires.lawful.at_most)))

pub returns-then-is_ignored-clause-within : goal.returns-then-is_ignored-clause-within
returns-then-is_ignored-clause-within g c =
    let d : Device = g.F.Flash.device c.args.flash.now in
    let unit : ℕ = unit_of d c.args.area.now in
    let sectors : List (List ℕ) = sectors_of d c.args.area.now in
    counted-none unit sectors c.args.scan.now.current c.args.place c.args.slots c.args.wanted (c.is_ignored.ensures unit sectors (length-sectors d c.args.area.now) c.requires.scan ∙ ap not c.if-is_ignored.true)

pub returns-then-is_ignored-clause-whole : goal.returns-then-is_ignored-clause-whole
returns-then-is_ignored-clause-whole g c = λ enough.
    let d : Device = g.F.Flash.device c.args.flash.now in
    let unit : ℕ = unit_of d c.args.area.now in
    let sectors : List (List ℕ) = sectors_of d c.args.area.now in
    let long = length-sector d c.args.area.now (g.met.F.Flash.is_lawful c.args.flash.now) c.requires.lawful.in_bank c.args.place c.requires.inside in
    counted-none unit sectors c.args.scan.now.current c.args.place c.args.slots c.args.wanted (c.is_ignored.ensures unit sectors (length-sectors d c.args.area.now) c.requires.scan ∙ ap not c.if-is_ignored.true)
    ∙ ap (last_wanted c.args.wanted) (counted-whole unit sectors c.args.scan.now.current c.args.place c.args.slots (omega (arith, c.requires.lawful.at_most)))
