use Rattle.std.proofs.Common.{◌≡◌, ◌<◌, ℕ, List, Option, Some, length, sym, ap, subst, ◌∙◌, arith}
use Rattle.std.specs.Option.{option_and_then}
use Rattle.std.specs.Prelude.{IfSome}
use Rattle.flash_sim.specs.Device.{Device}
use Rattle.flash_map.specs.Area.{unit_of, sector_size, sectors_of}
use Rattle.item_laws.specs.Items.{value_of}
use Rattle.item_laws.specs.Area.{open_sector}
use Rattle.item_laws.proofs.Stays.{open_within}
use Rattle.nvs_store.specs.declared.scan.Found.{Found}
use Rattle.nvs_store.specs.Scans.{reading, last_placed, placed_bytes, IsInArea}
use Rattle.nvs_store.proofs.Appending.{open_is}
use Rattle.nvs_store.proofs.LastLemmas.{found-value, newest-decides, older-decides}
use Rattle.nvs_store.proofs.InArea.{last_placed-in}
use Rattle.item_laws.proofs.AreaReads.{length-sectors}
use Rattle.nvs_store.proofs.lookup.find.Goals as goal

pub overflow_add-current : goal.overflow_add-current
overflow_add-current g c =
    let d : Device = g.F.Flash.device c.args.flash.now in
    let unit : ℕ = unit_of d c.args.area.now in
    let sectors : List (List ℕ) = sectors_of d c.args.area.now in
    let count : length sectors ≡ c.args.area.now.sectors = length-sectors d c.args.area.now in
    let is : open_sector (reading unit) sectors ≡ c.args.scan.now.current = open_is unit sectors c.args.scan.now c.requires.scan in
    let inside : open_sector (reading unit) sectors < length sectors = open_within (reading unit) sectors (omega (arith, c.requires.lawful.several)) in
    let within : c.args.scan.now.current < c.args.area.now.sectors = omega arith in
    omega (arith, c.requires.lawful.few)

pub find_among-newest-requires-clause-current : goal.find_among-newest-requires-clause-current
find_among-newest-requires-clause-current g c =
    let d : Device = g.F.Flash.device c.args.flash.now in
    let unit : ℕ = unit_of d c.args.area.now in
    let sectors : List (List ℕ) = sectors_of d c.args.area.now in
    let count : length sectors ≡ c.args.area.now.sectors = length-sectors d c.args.area.now in
    let is : open_sector (reading unit) sectors ≡ c.args.scan.now.current = open_is unit sectors c.args.scan.now c.requires.scan in
    let inside : open_sector (reading unit) sectors < length sectors = open_within (reading unit) sectors (omega (arith, c.requires.lawful.several)) in
    let within : c.args.scan.now.current < c.args.area.now.sectors = omega arith in
    within

pub find_among-newest-requires-clause-inside : goal.find_among-newest-requires-clause-inside
find_among-newest-requires-clause-inside g c =
    let d : Device = g.F.Flash.device c.args.flash.now in
    let unit : ℕ = unit_of d c.args.area.now in
    let sectors : List (List ℕ) = sectors_of d c.args.area.now in
    let count : length sectors ≡ c.args.area.now.sectors = length-sectors d c.args.area.now in
    let is : open_sector (reading unit) sectors ≡ c.args.scan.now.current = open_is unit sectors c.args.scan.now c.requires.scan in
    let inside : open_sector (reading unit) sectors < length sectors = open_within (reading unit) sectors (omega (arith, c.requires.lawful.several)) in
    let within : c.args.scan.now.current < c.args.area.now.sectors = omega arith in
    omega arith

pub returns-then-is_some-clause-placed : goal.returns-then-is_some-clause-placed
returns-then-is_some-clause-placed g c =
    let d : Device = g.F.Flash.device c.args.flash.now in
    let unit : ℕ = unit_of d c.args.area.now in
    let sectors : List (List ℕ) = sectors_of d c.args.area.now in
    let count : length sectors ≡ c.args.area.now.sectors = length-sectors d c.args.area.now in
    let is : open_sector (reading unit) sectors ≡ c.args.scan.now.current = open_is unit sectors c.args.scan.now c.requires.scan in
    let inside : open_sector (reading unit) sectors < length sectors = open_within (reading unit) sectors (omega (arith, c.requires.lawful.several)) in
    let within : c.args.scan.now.current < c.args.area.now.sectors = omega arith in
    newest-decides unit sectors c.args.scan.now.current (Some c.args.id) c.args.area.now.sectors c.find_among-newest.result (sym count) is c.find_among-newest.ensures (sym c.is_some.ensures ∙ c.if-is_some.true)

pub returns-then-is_some-clause-value : goal.returns-then-is_some-clause-value
returns-then-is_some-clause-value g c =
    let d : Device = g.F.Flash.device c.args.flash.now in
    let unit : ℕ = unit_of d c.args.area.now in
    let sectors : List (List ℕ) = sectors_of d c.args.area.now in
    let count : length sectors ≡ c.args.area.now.sectors = length-sectors d c.args.area.now in
    let is : open_sector (reading unit) sectors ≡ c.args.scan.now.current = open_is unit sectors c.args.scan.now c.requires.scan in
    let inside : open_sector (reading unit) sectors < length sectors = open_within (reading unit) sectors (omega (arith, c.requires.lawful.several)) in
    let within : c.args.scan.now.current < c.args.area.now.sectors = omega arith in
    found-value unit sectors c.args.id ∙ ap (λ (o : Option Found). option_and_then (λ f. value_of (placed_bytes sectors f)) o) (sym (newest-decides unit sectors c.args.scan.now.current (Some c.args.id) c.args.area.now.sectors c.find_among-newest.result (sym count) is c.find_among-newest.ensures (sym c.is_some.ensures ∙ c.if-is_some.true)))

pub overflow_add-current-2 : goal.overflow_add-current-2
overflow_add-current-2 g c =
    let d : Device = g.F.Flash.device c.args.flash.now in
    let unit : ℕ = unit_of d c.args.area.now in
    let sectors : List (List ℕ) = sectors_of d c.args.area.now in
    let count : length sectors ≡ c.args.area.now.sectors = length-sectors d c.args.area.now in
    let is : open_sector (reading unit) sectors ≡ c.args.scan.now.current = open_is unit sectors c.args.scan.now c.requires.scan in
    let inside : open_sector (reading unit) sectors < length sectors = open_within (reading unit) sectors (omega (arith, c.requires.lawful.several)) in
    let within : c.args.scan.now.current < c.args.area.now.sectors = omega arith in
    omega (arith, c.requires.lawful.few)

pub find_among-requires-clause-current : goal.find_among-requires-clause-current
find_among-requires-clause-current g c =
    let d : Device = g.F.Flash.device c.args.flash.now in
    let unit : ℕ = unit_of d c.args.area.now in
    let sectors : List (List ℕ) = sectors_of d c.args.area.now in
    let count : length sectors ≡ c.args.area.now.sectors = length-sectors d c.args.area.now in
    let is : open_sector (reading unit) sectors ≡ c.args.scan.now.current = open_is unit sectors c.args.scan.now c.requires.scan in
    let inside : open_sector (reading unit) sectors < length sectors = open_within (reading unit) sectors (omega (arith, c.requires.lawful.several)) in
    let within : c.args.scan.now.current < c.args.area.now.sectors = omega arith in
    within

pub find_among-requires-clause-order : goal.find_among-requires-clause-order
find_among-requires-clause-order g c =
    let d : Device = g.F.Flash.device c.args.flash.now in
    let unit : ℕ = unit_of d c.args.area.now in
    let sectors : List (List ℕ) = sectors_of d c.args.area.now in
    let count : length sectors ≡ c.args.area.now.sectors = length-sectors d c.args.area.now in
    let is : open_sector (reading unit) sectors ≡ c.args.scan.now.current = open_is unit sectors c.args.scan.now c.requires.scan in
    let inside : open_sector (reading unit) sectors < length sectors = open_within (reading unit) sectors (omega (arith, c.requires.lawful.several)) in
    let within : c.args.scan.now.current < c.args.area.now.sectors = omega arith in
    omega arith

pub returns-clause-placed : goal.returns-clause-placed
returns-clause-placed g c =
    let d : Device = g.F.Flash.device c.args.flash.now in
    let unit : ℕ = unit_of d c.args.area.now in
    let sectors : List (List ℕ) = sectors_of d c.args.area.now in
    let count : length sectors ≡ c.args.area.now.sectors = length-sectors d c.args.area.now in
    let is : open_sector (reading unit) sectors ≡ c.args.scan.now.current = open_is unit sectors c.args.scan.now c.requires.scan in
    let inside : open_sector (reading unit) sectors < length sectors = open_within (reading unit) sectors (omega (arith, c.requires.lawful.several)) in
    let within : c.args.scan.now.current < c.args.area.now.sectors = omega arith in
    older-decides unit sectors c.args.scan.now.current (Some c.args.id) c.args.area.now.sectors c.find_among-newest.result c.find_among.result (sym count) is c.find_among-newest.ensures (sym c.is_some.ensures ∙ c.if-is_some.false) c.find_among.ensures

pub returns-clause-value : goal.returns-clause-value
returns-clause-value g c =
    let d : Device = g.F.Flash.device c.args.flash.now in
    let unit : ℕ = unit_of d c.args.area.now in
    let sectors : List (List ℕ) = sectors_of d c.args.area.now in
    let count : length sectors ≡ c.args.area.now.sectors = length-sectors d c.args.area.now in
    let is : open_sector (reading unit) sectors ≡ c.args.scan.now.current = open_is unit sectors c.args.scan.now c.requires.scan in
    let inside : open_sector (reading unit) sectors < length sectors = open_within (reading unit) sectors (omega (arith, c.requires.lawful.several)) in
    let within : c.args.scan.now.current < c.args.area.now.sectors = omega arith in
    found-value unit sectors c.args.id ∙ ap (λ (o : Option Found). option_and_then (λ f. value_of (placed_bytes sectors f)) o) (sym (older-decides unit sectors c.args.scan.now.current (Some c.args.id) c.args.area.now.sectors c.find_among-newest.result c.find_among.result (sym count) is c.find_among-newest.ensures (sym c.is_some.ensures ∙ c.if-is_some.false) c.find_among.ensures))

pub returns-then-is_some-clause-in_area : goal.returns-then-is_some-clause-in_area
returns-then-is_some-clause-in_area g c =
    let d : Device = g.F.Flash.device c.args.flash.now in
    let unit : ℕ = unit_of d c.args.area.now in
    let sectors : List (List ℕ) = sectors_of d c.args.area.now in
    let count : length sectors ≡ c.args.area.now.sectors = length-sectors d c.args.area.now in
    let is : open_sector (reading unit) sectors ≡ c.args.scan.now.current = open_is unit sectors c.args.scan.now c.requires.scan in
    let found : c.find_among-newest.result ≡ last_placed unit sectors c.args.id = newest-decides unit sectors c.args.scan.now.current (Some c.args.id) c.args.area.now.sectors c.find_among-newest.result (sym count) is c.find_among-newest.ensures (sym c.is_some.ensures ∙ c.if-is_some.true) in
    subst (λ (o : Option Found). IfSome o (IsInArea c.args.area.now.sectors (sector_size d c.args.area.now))) (sym found)
    (last_placed-in d c.args.area.now c.args.id (g.met.F.Flash.is_lawful c.args.flash.now) c.requires.lawful.in_bank (omega (arith, c.requires.lawful.several)))

pub returns-clause-in_area : goal.returns-clause-in_area
returns-clause-in_area g c =
    let d : Device = g.F.Flash.device c.args.flash.now in
    let unit : ℕ = unit_of d c.args.area.now in
    let sectors : List (List ℕ) = sectors_of d c.args.area.now in
    let count : length sectors ≡ c.args.area.now.sectors = length-sectors d c.args.area.now in
    let is : open_sector (reading unit) sectors ≡ c.args.scan.now.current = open_is unit sectors c.args.scan.now c.requires.scan in
    let found : c.find_among.result ≡ last_placed unit sectors c.args.id = older-decides unit sectors c.args.scan.now.current (Some c.args.id) c.args.area.now.sectors c.find_among-newest.result c.find_among.result (sym count) is c.find_among-newest.ensures (sym c.is_some.ensures ∙ c.if-is_some.false) c.find_among.ensures in
    subst (λ (o : Option Found). IfSome o (IsInArea c.args.area.now.sectors (sector_size d c.args.area.now))) (sym found)
    (last_placed-in d c.args.area.now c.args.id (g.met.F.Flash.is_lawful c.args.flash.now) c.requires.lawful.in_bank (omega (arith, c.requires.lawful.several)))
