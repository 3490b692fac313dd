use Rattle.std.proofs.Common.{◌≡◌, ℕ, ◌<◌, List, length, ◌∙◌, arith}
use Rattle.flash_sim.specs.Device.{Device}
use Rattle.flash_map.specs.declared.area.Area.{Area}
use Rattle.flash_map.specs.Area.{geometry_of, sectors_of}
use Rattle.item_laws.proofs.AreaReads.{length-sectors, previous_there}
use Rattle.item_laws.proofs.Places.{before}
use Rattle.item_store.specs.SectorFormat.{SectorFormat}
use Rattle.item_store.proofs.Areas.{open_inside}
use Rattle.item_store.proofs.LastsWalk.{back-at, back-covered}
use Rattle.item_store.proofs.lasts.Lasts.step_back.Goals as goal

pub previous-self-requires : goal.previous-self-requires
previous-self-requires g c =
    let long = length-sectors (g.F.Flash.device c.args.flash.now) c.args.on.now.area.now in
    omega (arith, c.requires.at.inside)

pub reach_at-self-requires-clause-on : goal.reach_at-self-requires-clause-on
reach_at-self-requires-clause-on g c =
    let d : Device = g.F.Flash.device c.args.flash.now in
    let area : Area = c.args.on.now.area.now in
    let k : SectorFormat = g.T.SlotSectors.format_of (geometry_of d area) in
    record { area = c.requires.on.area; kept = c.requires.on.kept; current = open_inside k d area c.args.on.now.current c.requires.on.area.lawful c.requires.on.current; known = c.requires.on.known }

pub returns-clause-at : goal.returns-clause-at
returns-clause-at g c =
    let d : Device = g.F.Flash.device c.args.flash.now in
    let area : Area = c.args.on.now.area.now in
    let k : SectorFormat = g.T.SlotSectors.format_of (geometry_of d area) in
    let sectors : List (List ℕ) = sectors_of d area in
    let long = length-sectors d area in
    let within = open_inside k d area c.args.on.now.current c.requires.on.area.lawful c.requires.on.current in
    let low : c.args.on.now.current < length sectors = omega arith in
    let back : c.previous-self.result ≡ before (length sectors) c.args.self.now.place = c.previous-self.ensures.value ∙ previous_there d area c.args.self.now.place in
    let reach = c.reach_at-self.ensures in
    back-at k sectors c.args.on.now.current low c.args.self.now c.requires.at c.requires.none_left c.requires.further c.previous-self.result c.reach_at-self.result back reach.few reach.small (λ _. reach.others) (λ _. reach.counts)

pub returns-clause-place : goal.returns-clause-place
returns-clause-place g c =
    c.previous-self.ensures.value ∙ previous_there (g.F.Flash.device c.args.flash.now) c.args.on.now.area.now c.args.self.now.place

pub returns-clause-covered : goal.returns-clause-covered
returns-clause-covered g c =
    let d : Device = g.F.Flash.device c.args.flash.now in
    let area : Area = c.args.on.now.area.now in
    let k : SectorFormat = g.T.SlotSectors.format_of (geometry_of d area) in
    let sectors : List (List ℕ) = sectors_of d area in
    let long = length-sectors d area in
    let within = open_inside k d area c.args.on.now.current c.requires.on.area.lawful c.requires.on.current in
    let low : c.args.on.now.current < length sectors = omega arith in
    let back : c.previous-self.result ≡ before (length sectors) c.args.self.now.place = c.previous-self.ensures.value ∙ previous_there d area c.args.self.now.place in
    let reach = c.reach_at-self.ensures in
    back-covered k sectors c.args.on.now.current low c.args.self.now c.requires.at c.requires.none_left c.requires.further c.previous-self.result c.reach_at-self.result back reach.few reach.small (λ _. reach.others)
