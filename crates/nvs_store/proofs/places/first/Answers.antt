use Rattle.std.proofs.Common.{◌-◌, sym, ◌∙◌, arith}
use Rattle.flash_sim.specs.Device.{Device}
use Rattle.flash_map.specs.Area.{unit_of, sectors_of}
use Rattle.nvs_store.specs.Lookup.{is_match}
use Rattle.item_laws.proofs.Searches.{find_from, find_nowhere}
use Rattle.nvs_store.proofs.places.first.Goals as goal

pub returns-then-is_match-clause-value : goal.returns-then-is_match-clause-value
returns-then-is_match-clause-value g c =
    let d : Device = g.F.Flash.device c.args.flash.now in
    sym (find_from (is_match c.args.lookup (unit_of d c.args.area.now) (sectors_of d c.args.area.now)) c.args.from (c.args.area.now.sectors - c.args.from) c.loop-place.place c.loop-place.invariant (omega arith) (omega arith) (sym c.is_match.ensures ∙ c.if-is_match.true))

pub returns-clause-value : goal.returns-clause-value
returns-clause-value g c =
    let d : Device = g.F.Flash.device c.args.flash.now in
    sym (find_nowhere (is_match c.args.lookup (unit_of d c.args.area.now) (sectors_of d c.args.area.now)) c.args.from (c.args.area.now.sectors - c.args.from) (λ j low high. c.loop-place.invariant j low (omega arith)))
