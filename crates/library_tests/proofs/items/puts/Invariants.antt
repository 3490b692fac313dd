use Rattle.std.specs.Prelude.{◌≡◌}
use Rattle.item_store.specs.Stands.{StandsOn}
use Rattle.library_tests.proofs.items.puts.Given as goal

abbrev pub invariant-loop-id : goal.invariant-loop-id
invariant-loop-id g l = record {
  stands : StandsOn g.T.SlotSectors.role g.T.SlotSectors.format_of g.T.SlotSectors.kept (g.B.Flash.device l.bench) l.store;
  banks : (g.B.Flash.device l.bench).banks ≡ (g.B.Flash.device l.initial.bench).banks;
}
