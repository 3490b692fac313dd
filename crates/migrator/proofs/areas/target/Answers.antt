use Rattle.migrator.proofs.AreaLemmas.{target-store, if-store, if-other, target-none, is-first, is-second}
use Rattle.std.proofs.Common.{sym, ◌∙◌}
use Rattle.migrator.proofs.areas.target.Goals as goal

pub returns-in-Some-clause-store : goal.returns-in-Some-clause-store
returns-in-Some-clause-store c = (target-store c.args.map.now c.args.active c.in-Some.index (sym (is-first c.args.map.now c.args.active c.len-count.result c.in-Some.index c.store_from.result c.len-count.ensures c.in-Some.is c.store_from.ensures))).0

pub returns-in-Some-clause-other : goal.returns-in-Some-clause-other
returns-in-Some-clause-other c = (target-store c.args.map.now c.args.active c.in-Some.index (sym (is-first c.args.map.now c.args.active c.len-count.result c.in-Some.index c.store_from.result c.len-count.ensures c.in-Some.is c.store_from.ensures))).1

pub returns-in-None-clause-store : goal.returns-in-None-clause-store
returns-in-None-clause-store c = if-store c.args.map.now c.args.active c.store_from-in-None.result (is-second c.args.map.now c.args.active c.len-count.result c.store_from.result c.store_from-in-None.result c.len-count.ensures c.in-None.is c.store_from.ensures c.store_from-in-None.ensures)

pub returns-in-None-clause-other : goal.returns-in-None-clause-other
returns-in-None-clause-other c = if-other c.args.map.now c.args.active c.store_from-in-None.result (is-second c.args.map.now c.args.active c.len-count.result c.store_from.result c.store_from-in-None.result c.len-count.ensures c.in-None.is c.store_from.ensures c.store_from-in-None.ensures)

pub returns-in-None-clause-none : goal.returns-in-None-clause-none
returns-in-None-clause-none c none = target-none c.args.map.now c.args.active (sym (is-second c.args.map.now c.args.active c.len-count.result c.store_from.result c.store_from-in-None.result c.len-count.ensures c.in-None.is c.store_from.ensures c.store_from-in-None.ensures) ∙ none)
