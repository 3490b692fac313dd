use Rattle.std.proofs.Common.{◌∙◌}
use Rattle.migrator.proofs.Putting.{choice-active, first-active}
use Rattle.migrator.proofs.selecting.Selector.active.Goals as goal

pub returns-in-Some : goal.returns-in-Some
returns-in-Some g c = choice-active c.args.map.now (g.F.Flash.device c.args.flash.now) c.args.self.now.ring.area c.last_choice.result (c.in-Some.field-0-0, c.in-Some.index) c.last_choice.ensures c.in-Some.is

pub returns-in-None : goal.returns-in-None
returns-in-None g c = c.first_store.ensures ∙ first-active c.args.map.now (g.F.Flash.device c.args.flash.now) c.args.self.now.ring.area c.last_choice.result c.last_choice.ensures c.in-None.is
