use Rattle.std.proofs.Common.{◌<◌, Option, sym, subst}
use Rattle.std.specs.Prelude.{IfSome}
use Rattle.flash_sim.specs.Device.{Device}
use Rattle.flash_map.specs.declared.area.Area.{Area}
use Rattle.item_laws.specs.Items.{Items}
use Rattle.item_laws.specs.NextIds.{Follows, IsAtMost}
use Rattle.item_laws.proofs.NextIds.{at_most_self}
use Rattle.item_store.specs.declared.entry.Placed.{Placed}
use Rattle.item_store.specs.Listed.{format_on, items_on}
use Rattle.item_store.proofs.store.Store.lesser_of.Goals as goal

pub lesser-requires : goal.lesser-requires
lesser-requires g c =
    let d : Device = g.F.Flash.device c.args.flash.now in
    let area : Area = c.args.self.now.area in
    record {
      stands = c.requires.stands;
      some = c.requires.some;
      small = c.requires.small;
      own = subst (λ (o : Option Placed). IfSome o (λ p. p.id < (format_on g.T.SlotSectors.format_of d area).ids)) c.in-Some.is c.requires.own;
    }

pub returns-in-Some : goal.returns-in-Some
returns-in-Some g c =
    let items : Items = items_on g.T.SlotSectors.format_of (g.F.Flash.device c.args.flash.now) c.args.self.now.area in
    record {
      some = c.lesser.ensures.some;
      small = c.lesser.ensures.small;
      kept = c.lesser.ensures.kept;
      id = subst (λ (o : Option Placed). IfSome o (λ p. Follows items c.args.after p.id → IsAtMost c.lesser.result p.id)) (sym c.in-Some.is) c.lesser.ensures.id;
    }

pub returns-in-None : goal.returns-in-None
returns-in-None g c =
    let items : Items = items_on g.T.SlotSectors.format_of (g.F.Flash.device c.args.flash.now) c.args.self.now.area in
    record {
      some = c.requires.some;
      small = c.requires.small;
      kept = at_most_self c.args.least;
      id = subst (λ (o : Option Placed). IfSome o (λ p. Follows items c.args.after p.id → IsAtMost c.args.least p.id)) (sym c.in-None.is) tt;
    }
