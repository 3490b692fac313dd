use Rattle.std.proofs.Common.{ℕ, List, None, length, sym, ◌∙◌}
use Rattle.std.specs.List.{flat_map}
use Rattle.flash_sim.specs.Device.{Device}
use Rattle.flash_map.specs.Area.{unit_of, sectors_of}
use Rattle.nvs_store.specs.declared.scan.Found.{Found}
use Rattle.item_laws.specs.RoundParts.{places_before}
use Rattle.nvs_store.specs.Sector.{is_wanted}
use Rattle.nvs_store.specs.Scans.{counted_in, counted_within}
use Rattle.item_laws.proofs.Newest.{newest-behind, newest-before}
use Rattle.nvs_store.proofs.lookup.newest_up_to.Goals as goal

pub returns-then-is_some : goal.returns-then-is_some
returns-then-is_some g c =
    let d : Device = g.F.Flash.device c.args.flash.now in
    let unit : ℕ = unit_of d c.args.area.now in
    let sectors : List (List ℕ) = sectors_of d c.args.area.now in
    let older : List Found = flat_map (counted_in unit sectors c.args.scan.now.current) (places_before (length sectors) c.args.scan.now.current c.args.place) in
    let here : List Found = counted_within unit sectors c.args.scan.now.current c.args.place c.args.slots in
    newest-behind (λ f. is_wanted None f.entry) older here c.find_at-newest.result c.find_at-newest.ensures.within (sym c.is_some.ensures ∙ c.if-is_some.true)

pub returns : goal.returns
returns g c =
    let d : Device = g.F.Flash.device c.args.flash.now in
    let unit : ℕ = unit_of d c.args.area.now in
    let sectors : List (List ℕ) = sectors_of d c.args.area.now in
    let older : List Found = flat_map (counted_in unit sectors c.args.scan.now.current) (places_before (length sectors) c.args.scan.now.current c.args.place) in
    let here : List Found = counted_within unit sectors c.args.scan.now.current c.args.place c.args.slots in
    newest-before (λ f. is_wanted None f.entry) older here c.find_at-newest.result c.newest_before.result c.find_at-newest.ensures.within (sym c.is_some.ensures ∙ c.if-is_some.false) c.newest_before.ensures
