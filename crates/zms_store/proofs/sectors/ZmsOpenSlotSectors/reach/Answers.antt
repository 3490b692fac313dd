use Rattle.std.proofs.Common.{◌≡◌, ℕ, ◌+◌, ◌<◌, ◌≤◌, List, length, sym, subst, false, arith}
use Rattle.flash_sim.specs.Device.{Device}
use Rattle.flash_map.specs.Area.{sectors_of, sector_at}
use Rattle.zms_cycle.specs.Sector.{slot_of, valid_slots}
use Rattle.zms_cycle.specs.Searches.{names}
use Rattle.zms_format.proofs.PassedSlots.{unnamed_other}
use Rattle.zms_format.proofs.Sectors.{few_slots}
use Rattle.zms_store.proofs.sectors.ZmsOpenSlotSectors.reach.Goals as goal

pub reach_in-requires-clause-known : goal.reach_in-requires-clause-known
reach_in-requires-clause-known g c = subst (λ (b : List ℕ). c.args.known ≤ length (valid_slots b)) (sym c.sector_view.ensures.bytes) c.requires.known

pub returns-clause-few : goal.returns-clause-few
returns-clause-few g c =
    subst (λ (b : List ℕ). c.reach_in.result ≤ length (valid_slots b)) c.sector_view.ensures.bytes c.reach_in.ensures.within

pub returns-clause-small : goal.returns-clause-small
returns-clause-small g c =
    let few = few_slots c.sector_view.result.now in
    omega (arith, c.reach_in.ensures.within, c.sector_view.ensures.len, c.requires.area.lawful.at_most)

pub returns-clause-others : goal.returns-clause-others
returns-clause-others g c = λ slot from to.
    let d : Device = g.F.Flash.device c.args.flash.now in
    let b : List ℕ = sector_at (sectors_of d c.args.area.now) c.args.place in
    let others : (k : ℕ) → c.reach_in.result + 2 ≤ k → k < length (valid_slots b) + 2 → names c.args.ids.now.least c.args.ids.now.most (slot_of b k) ≡ false =
    subst (λ (x : List ℕ). (k : ℕ) → c.reach_in.result + 2 ≤ k → k < length (valid_slots x) + 2 → names c.args.ids.now.least c.args.ids.now.most (slot_of x k) ≡ false) c.sector_view.ensures.bytes c.reach_in.ensures.others in
    unnamed_other b slot c.args.ids.now.least c.args.ids.now.most (others slot (omega (arith, from)) (omega (arith, to)))
