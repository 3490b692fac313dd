use Rattle.std.proofs.Common.{◌≡◌, ℕ, ◌-◌, ◌<◌, ◌≤◌, List, Option, None, length, sym, subst, arith}
use Rattle.std.specs.Prelude.{IfSome}
use Rattle.std.specs.List.{All}
use Rattle.flash_sim.specs.Device.{Device}
use Rattle.flash_map.specs.Area.{unit_of, sector_size, sectors_of, sector_at}
use Rattle.flash_map.proofs.Places.{length-sector}
use Rattle.item_laws.specs.Area.{open_sector}
use Rattle.item_laws.proofs.Stays.{open_within}
use Rattle.nvs_store.specs.declared.scan.Found.{Found}
use Rattle.nvs_store.specs.Scans.{reading, all_placed, placed_up_to, IsInArea, IsNextOlder}
use Rattle.nvs_store.proofs.Appending.{open_is}
use Rattle.item_laws.proofs.Newest.{last-all}
use Rattle.nvs_store.specs.Sector.{is_wanted}
use Rattle.nvs_store.proofs.InArea.{listed-in}
use Rattle.item_laws.proofs.AreaReads.{length-sectors}
use Rattle.nvs_store.proofs.Walking.{part_all, walked-newest, walked-older}
use Rattle.nvs_store.proofs.lookup.walk.Goals as goal

pub newest_up_to-requires-clause-current : goal.newest_up_to-requires-clause-current
newest_up_to-requires-clause-current g c =
    let d : Device = g.F.Flash.device c.args.flash.now in
    let unit : ℕ = unit_of d c.args.area.now in
    let sectors : List (List ℕ) = sectors_of d c.args.area.now in
    let count : length sectors ≡ c.args.area.now.sectors = length-sectors d c.args.area.now in
    let is : open_sector (reading unit) sectors ≡ c.args.scan.now.current = open_is unit sectors c.args.scan.now c.requires.scan in
    let inside : open_sector (reading unit) sectors < length sectors = open_within (reading unit) sectors (omega (arith, c.requires.lawful.several)) in
    let low : c.args.scan.now.current < length sectors = omega arith in
    omega arith

pub newest_up_to-requires-in-None-clause-current : goal.newest_up_to-requires-in-None-clause-current
newest_up_to-requires-in-None-clause-current g c =
    let d : Device = g.F.Flash.device c.args.flash.now in
    let unit : ℕ = unit_of d c.args.area.now in
    let sectors : List (List ℕ) = sectors_of d c.args.area.now in
    let count : length sectors ≡ c.args.area.now.sectors = length-sectors d c.args.area.now in
    let is : open_sector (reading unit) sectors ≡ c.args.scan.now.current = open_is unit sectors c.args.scan.now c.requires.scan in
    let inside : open_sector (reading unit) sectors < length sectors = open_within (reading unit) sectors (omega (arith, c.requires.lawful.several)) in
    let low : c.args.scan.now.current < length sectors = omega arith in
    omega arith

pub newest_up_to-requires-in-None-clause-inside : goal.newest_up_to-requires-in-None-clause-inside
newest_up_to-requires-in-None-clause-inside g c =
    let d : Device = g.F.Flash.device c.args.flash.now in
    let unit : ℕ = unit_of d c.args.area.now in
    let sectors : List (List ℕ) = sectors_of d c.args.area.now in
    let count : length sectors ≡ c.args.area.now.sectors = length-sectors d c.args.area.now in
    let is : open_sector (reading unit) sectors ≡ c.args.scan.now.current = open_is unit sectors c.args.scan.now c.requires.scan in
    let inside : open_sector (reading unit) sectors < length sectors = open_within (reading unit) sectors (omega (arith, c.requires.lawful.several)) in
    let low : c.args.scan.now.current < length sectors = omega arith in
    omega arith

pub returns-in-Some-clause-older : goal.returns-in-Some-clause-older
returns-in-Some-clause-older g c =
    let d : Device = g.F.Flash.device c.args.flash.now in
    let unit : ℕ = unit_of d c.args.area.now in
    let sectors : List (List ℕ) = sectors_of d c.args.area.now in
    let count : length sectors ≡ c.args.area.now.sectors = length-sectors d c.args.area.now in
    let is : open_sector (reading unit) sectors ≡ c.args.scan.now.current = open_is unit sectors c.args.scan.now c.requires.scan in
    let inside : open_sector (reading unit) sectors < length sectors = open_within (reading unit) sectors (omega (arith, c.requires.lawful.several)) in
    let low : c.args.scan.now.current < length sectors = omega arith in
    let within : c.in-Some.sector < c.args.area.now.sectors = rw c.in-Some.is at c.requires.inside in
    let high : c.in-Some.sector < length sectors = omega arith in
    let slots : c.saturating_sub.result ≡ c.in-Some.slot - 1 = c.saturating_sub.ensures in
    subst (λ (after : Option (ℕ × ℕ)). IsNextOlder (all_placed unit sectors) after c.newest_up_to.result) (sym c.in-Some.is)
    (walked-older unit sectors c.args.scan.now.current c.in-Some.sector c.in-Some.slot c.saturating_sub.result c.newest_up_to.result is low high slots c.newest_up_to.ensures)

pub returns-in-Some-clause-in_area : goal.returns-in-Some-clause-in_area
returns-in-Some-clause-in_area g c =
    let d : Device = g.F.Flash.device c.args.flash.now in
    let unit : ℕ = unit_of d c.args.area.now in
    let sectors : List (List ℕ) = sectors_of d c.args.area.now in
    let count : length sectors ≡ c.args.area.now.sectors = length-sectors d c.args.area.now in
    let is : open_sector (reading unit) sectors ≡ c.args.scan.now.current = open_is unit sectors c.args.scan.now c.requires.scan in
    let inside : open_sector (reading unit) sectors < length sectors = open_within (reading unit) sectors (omega (arith, c.requires.lawful.several)) in
    let low : c.args.scan.now.current < length sectors = omega arith in
    let within : c.in-Some.sector < c.args.area.now.sectors = rw c.in-Some.is at c.requires.inside in
    let high : c.in-Some.sector < length sectors = omega arith in
    let all : All (IsInArea c.args.area.now.sectors (sector_size d c.args.area.now)) (all_placed unit sectors) = listed-in d c.args.area.now (g.met.F.Flash.is_lawful c.args.flash.now) c.requires.lawful.in_bank (omega (arith, c.requires.lawful.several)) in
    subst (λ (o : Option Found). IfSome o (IsInArea c.args.area.now.sectors (sector_size d c.args.area.now))) (sym c.newest_up_to.ensures)
    (last-all (λ f. is_wanted None f.entry) (IsInArea c.args.area.now.sectors (sector_size d c.args.area.now)) (placed_up_to unit sectors c.args.scan.now.current c.in-Some.sector c.saturating_sub.result) None tt
    (part_all unit sectors c.args.scan.now.current c.in-Some.sector c.saturating_sub.result is low high (IsInArea c.args.area.now.sectors (sector_size d c.args.area.now)) all))

pub returns-in-None-clause-older : goal.returns-in-None-clause-older
returns-in-None-clause-older g c =
    let d : Device = g.F.Flash.device c.args.flash.now in
    let unit : ℕ = unit_of d c.args.area.now in
    let sectors : List (List ℕ) = sectors_of d c.args.area.now in
    let count : length sectors ≡ c.args.area.now.sectors = length-sectors d c.args.area.now in
    let is : open_sector (reading unit) sectors ≡ c.args.scan.now.current = open_is unit sectors c.args.scan.now c.requires.scan in
    let inside : open_sector (reading unit) sectors < length sectors = open_within (reading unit) sectors (omega (arith, c.requires.lawful.several)) in
    let low : c.args.scan.now.current < length sectors = omega arith in
    let long = length-sector d c.args.area.now (g.met.F.Flash.is_lawful c.args.flash.now) c.requires.lawful.in_bank c.args.scan.now.current (omega arith) in
    let enough : length (sector_at sectors c.args.scan.now.current) ≤ 32768 = omega (arith, c.requires.lawful.at_most) in
    subst (λ (after : Option (ℕ × ℕ)). IsNextOlder (all_placed unit sectors) after c.newest_up_to-in-None.result) (sym c.in-None.is)
    (walked-newest unit sectors c.args.scan.now.current 32768 c.newest_up_to-in-None.result is low enough c.newest_up_to-in-None.ensures)

pub returns-in-None-clause-in_area : goal.returns-in-None-clause-in_area
returns-in-None-clause-in_area g c =
    let d : Device = g.F.Flash.device c.args.flash.now in
    let unit : ℕ = unit_of d c.args.area.now in
    let sectors : List (List ℕ) = sectors_of d c.args.area.now in
    let count : length sectors ≡ c.args.area.now.sectors = length-sectors d c.args.area.now in
    let is : open_sector (reading unit) sectors ≡ c.args.scan.now.current = open_is unit sectors c.args.scan.now c.requires.scan in
    let inside : open_sector (reading unit) sectors < length sectors = open_within (reading unit) sectors (omega (arith, c.requires.lawful.several)) in
    let low : c.args.scan.now.current < length sectors = omega arith in
    let all : All (IsInArea c.args.area.now.sectors (sector_size d c.args.area.now)) (all_placed unit sectors) = listed-in d c.args.area.now (g.met.F.Flash.is_lawful c.args.flash.now) c.requires.lawful.in_bank (omega (arith, c.requires.lawful.several)) in
    subst (λ (o : Option Found). IfSome o (IsInArea c.args.area.now.sectors (sector_size d c.args.area.now))) (sym c.newest_up_to-in-None.ensures)
    (last-all (λ f. is_wanted None f.entry) (IsInArea c.args.area.now.sectors (sector_size d c.args.area.now)) (placed_up_to unit sectors c.args.scan.now.current c.args.scan.now.current 32768) None tt
    (part_all unit sectors c.args.scan.now.current c.args.scan.now.current 32768 is low low (IsInArea c.args.area.now.sectors (sector_size d c.args.area.now)) all))
