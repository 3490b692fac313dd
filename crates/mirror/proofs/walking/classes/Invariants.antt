use Rattle.std.specs.FinMap.{keys}
use Rattle.flash_map.specs.On.{on}
use Rattle.mirror.specs.Room.{prices_on}
use Rattle.mirror.proofs.Walks.{AreClasses}
use Rattle.mirror.proofs.walking.classes.Given as goal

abbrev pub invariant-loop-name : goal.invariant-loop-name
invariant-loop-name g l =
    let d = g.F.Flash.device l.flash in
    AreClasses (prices_on g.K.Priced.prices d l.area).class (keys (on g.K.Backend.contents d (g.K.Backend.mounted_on l.store))) l.name-iterator l.found.items
