use Rattle.std.proofs.Common.{ℕ, ◌<◌, ◌≤◌}
use Rattle.flash_map.specs.On.{on}
use Rattle.named_items.specs.Pairs.{pair_at, HasName}
use Rattle.backend_zms.specs.IdLayout.{numbering_of}
use Rattle.backend_zms.proofs.numbering.id_of.Given as goal

abbrev pub invariant-loop-id : goal.invariant-loop-id
invariant-loop-id g l =
    let area = g.S.ItemStore.mounted_on l.store in
    record {
      within : l.id ≤ l.id-end;
      none : (k : ℕ) → l.first ≤ k → k < l.id → ¬ HasName (pair_at (numbering_of area) (on g.S.ItemStore.contents (g.F.Flash.device l.flash) area) k) l.name;
    }
