use Rattle.std.proofs.Common.{◌≡◌, ◌+◌, ◌-◌, ℕ, List, None, length, sym, ap, ◌∙◌}
use Rattle.std.specs.List.{flat_map, range_with_len}
use Rattle.flash_sim.specs.Device.{Device}
use Rattle.flash_map.specs.Area.{unit_of, sectors_of}
use Rattle.nvs_store.specs.declared.scan.Found.{Found}
use Rattle.nvs_store.specs.Sector.{is_wanted}
use Rattle.nvs_store.specs.Scans.{counted_in, last_wanted}
use Rattle.item_laws.proofs.AreaReads.{length-sectors}
use Rattle.item_laws.proofs.Newest.{newest-behind, newest-before}
use Rattle.item_laws.proofs.RoundAt.{before-round}
use Rattle.nvs_store.proofs.lookup.newest_before.Goals as goal

pub returns-then-is_some : goal.returns-then-is_some
returns-then-is_some g c =
    let d : Device = g.F.Flash.device c.args.flash.now in
    let unit : ℕ = unit_of d c.args.area.now in
    let sectors : List (List ℕ) = sectors_of d c.args.area.now in
    let current : ℕ = c.args.scan.now.current in
    let older : List Found = flat_map (counted_in unit sectors current) (range_with_len (current + 1) (length sectors - (current + 1))) in
    let newer : List Found = flat_map (counted_in unit sectors current) (range_with_len 0 (c.args.place - 0)) in
    newest-behind (λ f. is_wanted None f.entry) older newer c.find_among-newest.result c.find_among-newest.ensures (sym c.is_some.ensures ∙ c.if-is_some.true)
    ∙ ap (last_wanted None) (before-round (counted_in unit sectors current) (length sectors) current c.args.place c.if-current-place.false)

pub returns : goal.returns
returns g c =
    let d : Device = g.F.Flash.device c.args.flash.now in
    let unit : ℕ = unit_of d c.args.area.now in
    let sectors : List (List ℕ) = sectors_of d c.args.area.now in
    let current : ℕ = c.args.scan.now.current in
    let older : List Found = flat_map (counted_in unit sectors current) (range_with_len (current + 1) (length sectors - (current + 1))) in
    let newer : List Found = flat_map (counted_in unit sectors current) (range_with_len 0 (c.args.place - 0)) in
    let count : c.args.area.now.sectors ≡ length sectors = sym (length-sectors d c.args.area.now) in
    newest-before (λ f. is_wanted None f.entry) older newer c.find_among-newest.result c.find_among-2.result c.find_among-newest.ensures (sym c.is_some.ensures ∙ c.if-is_some.false)
    (c.find_among-2.ensures ∙ ap (λ (n : ℕ). last_wanted None (flat_map (counted_in unit sectors current) (range_with_len (current + 1) (n - (current + 1))))) count)
    ∙ ap (last_wanted None) (before-round (counted_in unit sectors current) (length sectors) current c.args.place c.if-current-place.false)
