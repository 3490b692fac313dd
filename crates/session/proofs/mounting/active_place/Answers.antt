use Rattle.session.proofs.ActiveAreas.{has_active, none_active}
use Rattle.session.proofs.mounting.active_place.Goals as goal

pub active-requires : goal.active-requires
active-requires g c = c.requires.opened c.in-Some.selector c.in-Some.is

pub returns-in-Some : goal.returns-in-Some
returns-in-Some g c = has_active c.args.map.now (g.F.Flash.device c.args.flash.now) c.args.selector.now c.in-Some.selector c.active.result c.requires c.in-Some.is c.active.ensures

pub returns-in-None : goal.returns-in-None
returns-in-None g c = none_active c.args.map.now (g.F.Flash.device c.args.flash.now) c.args.selector.now c.first_store.result c.requires c.in-None.is c.first_store.ensures
