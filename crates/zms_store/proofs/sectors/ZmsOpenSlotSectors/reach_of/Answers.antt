use Rattle.std.proofs.Common.{◌≡◌, ℕ, ◌+◌, ◌<◌, ◌≤◌, List, length, sym, subst, false, arith}
use Rattle.flash_sim.specs.Device.{Device}
use Rattle.flash_map.specs.Area.{sectors_of, sector_at}
use Rattle.item_laws.proofs.SlotCounts.{used_count_fits}
use Rattle.zms_cycle.specs.Sector.{slot_of, is_valid, cycle_of, valid_slots}
use Rattle.zms_cycle.specs.Searches.{names}
use Rattle.zms_format.proofs.PassedSlots.{unnamed_other}
use Rattle.zms_store.proofs.sectors.ZmsOpenSlotSectors.reach_of.Goals as goal

pub reach_within-requires-clause-inside : goal.reach_within-requires-clause-inside
reach_within-requires-clause-inside g c =
    let listed : c.args.slots ≤ length (valid_slots c.sector_view.result.now) =
    subst (λ (b : List ℕ). c.args.slots ≤ length (valid_slots b)) (sym c.sector_view.ensures.bytes) c.requires.listed in
    let fits = used_count_fits (is_valid (cycle_of c.sector_view.result.now)) 2 16 c.sector_view.result.now in
    omega (arith, c.sector_view.ensures.len, c.requires.area.lawful.at_least)

pub returns-clause-others : goal.returns-clause-others
returns-clause-others g c = λ slot from to.
    let d : Device = g.F.Flash.device c.args.flash.now in
    let b : List ℕ = sector_at (sectors_of d c.args.area.now) c.args.place in
    let others : (k : ℕ) → c.reach_within.result + 2 ≤ k → k < c.args.slots + 2 → names c.args.least c.args.most (slot_of b k) ≡ false =
    subst (λ (x : List ℕ). (k : ℕ) → c.reach_within.result + 2 ≤ k → k < c.args.slots + 2 → names c.args.least c.args.most (slot_of x k) ≡ false) c.sector_view.ensures.bytes c.reach_within.ensures.others in
    unnamed_other b slot c.args.least c.args.most (others slot (omega (arith, from)) (omega (arith, to)))
