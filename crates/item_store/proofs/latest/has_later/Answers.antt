use Rattle.std.proofs.Common.{ℕ, Bool, not, List, Option, None, sym, ap, ◌∙◌}
use Rattle.std.specs.Prelude.{is_some}
use Rattle.flash_sim.specs.Device.{Device}
use Rattle.flash_map.specs.declared.area.Area.{Area}
use Rattle.flash_map.specs.Area.{geometry_of, sectors_of}
use Rattle.item_store.specs.declared.entry.Placed.{Placed}
use Rattle.item_store.specs.SectorFormat.{SectorFormat}
use Rattle.item_store.specs.Seen.{key_of}
use Rattle.item_store.proofs.LiveSteps.{key_below, none_from, later_by, never_none}
use Rattle.item_store.proofs.latest.has_later.Goals as goal

pub returns-then-not-has : goal.returns-then-not-has
returns-then-not-has g c =
    λ later at seen.
    sym (ap (λ (o : Option Placed). is_some o)
    (none_from c.args.placed.now.id later None (sym (seen.bit (key_of c.args.placed.now.id) (key_below c.args.placed.now.id)) ∙ (sym c.has.ensures ∙ c.if-not-has.true))))

pub returns-in-Some : goal.returns-in-Some
returns-in-Some g c =
    let d : Device = g.F.Flash.device c.args.flash.now in
    let area : Area = c.args.on.now.area.now in
    let k : SectorFormat = g.T.SlotSectors.format_of (geometry_of d area) in
    let sectors : List (List ℕ) = sectors_of d area in
    λ later at seen. ap (λ (t : Bool). not t) c.share_place.ensures ∙ later_by k sectors c.args.placed.now later at c.in-Some.last (sym c.find.ensures.last ∙ c.in-Some.is)

pub returns-in-None : goal.returns-in-None
returns-in-None g c =
    let d : Device = g.F.Flash.device c.args.flash.now in
    let area : Area = c.args.on.now.area.now in
    let k : SectorFormat = g.T.SlotSectors.format_of (geometry_of d area) in
    let sectors : List (List ℕ) = sectors_of d area in
    λ later at seen. absurd (never_none k sectors c.args.placed.now later at (sym c.find.ensures.last ∙ c.in-None.is))
