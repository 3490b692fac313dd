use Rattle.std.proofs.Common.{◌≡◌, ℕ, ◌<◌, ◌≤◌, None}
use Rattle.std.specs.FinMap.{get}
use Rattle.flash_sim.specs.Bank.{IsLawful}
use Rattle.flash_sim.specs.Device.{Device}
use Rattle.flash_map.specs.Lawful.{IsLawfulFor}
use Rattle.flash_map.specs.On.{on, StandsOn}
use Rattle.backend_zms.proofs.numbering.may_stand.Given as goal

abbrev pub invariant-loop-id : goal.invariant-loop-id
invariant-loop-id g l =
    let area = g.S.ItemStore.mounted_on l.store in
    record {
      within : l.id ≤ l.id-end;
      none : (d : Device) → IsLawful d.banks d.bytes → IsLawfulFor d.banks area → StandsOn g.S.ItemStore.mounted_on g.S.ItemStore.stands d l.store
          → (k : ℕ) → l.from ≤ k → k < l.id → get (on g.S.ItemStore.contents d area) k ≡ None;
    }
