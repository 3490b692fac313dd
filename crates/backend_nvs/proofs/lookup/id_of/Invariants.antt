use Rattle.std.proofs.Common.{ℕ, ◌<◌, ◌≤◌}
use Rattle.flash_map.specs.On.{on}
use Rattle.named_items.specs.Pairs.{pair_at, HasName}
use Rattle.backend_nvs.specs.IdLayout.{numbering_of}
use Rattle.backend_nvs.proofs.lookup.id_of.Given as goal

abbrev pub invariant-loop-id : goal.invariant-loop-id
invariant-loop-id g l = record {
  within : l.id ≤ l.id-end;
  none : (k : ℕ) → 0x8001 ≤ k → k < l.id → ¬ HasName (pair_at (numbering_of (g.S.ItemStore.mounted_on l.store)) (on g.S.ItemStore.contents (g.F.Flash.device l.flash) (g.S.ItemStore.mounted_on l.store)) k) l.name;
}
