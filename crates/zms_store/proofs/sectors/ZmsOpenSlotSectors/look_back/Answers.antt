use Rattle.std.proofs.Common.{◌≡◌, ℕ, ◌+◌, ◌<◌, ◌≤◌, List, length, Option, Some, None, sym, ap, subst, ◌∙◌, false, arith}
use Rattle.std.specs.Option.{option_map}
use Rattle.flash_sim.specs.Device.{Device}
use Rattle.flash_map.specs.Area.{sectors_of, sector_at}
use Rattle.item_laws.proofs.SlotCounts.{used_count_fits}
use Rattle.item_store.specs.declared.entry.Placed.{Placed}
use Rattle.item_store.specs.SectorFormat.{placed_at}
use Rattle.zms_cycle.specs.declared.reading.SlotEntry.{SlotEntry}
use Rattle.zms_cycle.specs.Sector.{entry_in, slot_of, is_valid, cycle_of, valid_slots}
use Rattle.zms_cycle.specs.Searches.{names}
use Rattle.zms_format.specs.Formats.{entry_of}
use Rattle.zms_format.proofs.PassedSlots.{unnamed_other}
use Rattle.zms_store.proofs.sectors.ZmsOpenSlotSectors.look_back.Goals as goal

pub reach_within-reach-requires-clause-inside : goal.reach_within-reach-requires-clause-inside
reach_within-reach-requires-clause-inside g c =
    let listed : c.args.before + 1 ≤ length (valid_slots c.sector_view-bytes.result.now) =
    subst (λ (b : List ℕ). c.args.before + 1 ≤ length (valid_slots b)) (sym c.sector_view-bytes.ensures.bytes) c.requires.listed in
    let fits = used_count_fits (is_valid (cycle_of c.sector_view-bytes.result.now)) 2 16 c.sector_view-bytes.result.now in
    omega (arith, c.sector_view-bytes.ensures.len, c.requires.area.lawful.at_least)

pub listed_entry-requires-clause-listed : goal.listed_entry-requires-clause-listed
listed_entry-requires-clause-listed g c =
    let listed : c.args.before + 1 ≤ length (valid_slots c.sector_view-bytes.result.now) =
    subst (λ (b : List ℕ). c.args.before + 1 ≤ length (valid_slots b)) (sym c.sector_view-bytes.ensures.bytes) c.requires.listed in
    omega arith

pub returns-in-Some-clause-look : goal.returns-in-Some-clause-look
returns-in-Some-clause-look g c =
    let d : Device = g.F.Flash.device c.args.flash.now in
    let b : List ℕ = sector_at (sectors_of d c.args.area.now) c.args.place in
    let at : c.args.before + 2 ≡ 2 + c.args.before = omega arith in
    let read : Some c.in-Some.found ≡ entry_in (slot_of b (2 + c.args.before)) =
    sym c.in-Some.is ∙ c.listed_entry.ensures ∙ ap (λ (xs : List ℕ). entry_in (slot_of xs (c.args.before + 2))) c.sector_view-bytes.ensures.bytes
    ∙ ap (λ (n : ℕ). entry_in (slot_of b n)) at in
    let others : (k : ℕ) → c.reach_within-reach.result + 2 ≤ k → k < c.args.before + 2 → names c.args.ids.now.least c.args.ids.now.most (slot_of b k) ≡ false =
    subst (λ (x : List ℕ). (k : ℕ) → c.reach_within-reach.result + 2 ≤ k → k < c.args.before + 2 → names c.args.ids.now.least c.args.ids.now.most (slot_of x k) ≡ false) c.sector_view-bytes.ensures.bytes c.reach_within-reach.ensures.others in
    record {
      entry = ap (λ (p : Placed). Some p) c.placed.ensures.placed ∙ ap (λ (o : Option SlotEntry). option_map (placed_at c.args.place) (option_map entry_of o)) read;
      few = c.reach_within-reach.ensures.few;
      others = λ slot from to. unnamed_other b slot c.args.ids.now.least c.args.ids.now.most (others slot (omega (arith, from)) (omega (arith, to)));
    }

pub returns-in-None-clause-look : goal.returns-in-None-clause-look
returns-in-None-clause-look g c =
    let d : Device = g.F.Flash.device c.args.flash.now in
    let b : List ℕ = sector_at (sectors_of d c.args.area.now) c.args.place in
    let at : c.args.before + 2 ≡ 2 + c.args.before = omega arith in
    let read : None ≡ entry_in (slot_of b (2 + c.args.before)) =
    sym c.in-None.is ∙ c.listed_entry.ensures ∙ ap (λ (xs : List ℕ). entry_in (slot_of xs (c.args.before + 2))) c.sector_view-bytes.ensures.bytes
    ∙ ap (λ (n : ℕ). entry_in (slot_of b n)) at in
    let others : (k : ℕ) → c.reach_within-reach.result + 2 ≤ k → k < c.args.before + 2 → names c.args.ids.now.least c.args.ids.now.most (slot_of b k) ≡ false =
    subst (λ (x : List ℕ). (k : ℕ) → c.reach_within-reach.result + 2 ≤ k → k < c.args.before + 2 → names c.args.ids.now.least c.args.ids.now.most (slot_of x k) ≡ false) c.sector_view-bytes.ensures.bytes c.reach_within-reach.ensures.others in
    record {
      entry = ap (λ (o : Option SlotEntry). option_map (placed_at c.args.place) (option_map entry_of o)) read;
      few = c.reach_within-reach.ensures.few;
      others = λ slot from to. unnamed_other b slot c.args.ids.now.least c.args.ids.now.most (others slot (omega (arith, from)) (omega (arith, to)));
    }

pub overflow_add-before : goal.overflow_add-before
overflow_add-before g c =
    let listed : c.args.before + 1 ≤ length (valid_slots c.sector_view-bytes.result.now) =
    subst (λ (b : List ℕ). c.args.before + 1 ≤ length (valid_slots b)) (sym c.sector_view-bytes.ensures.bytes) c.requires.listed in
    let fits = used_count_fits (is_valid (cycle_of c.sector_view-bytes.result.now)) 2 16 c.sector_view-bytes.result.now in
    omega (arith, c.sector_view-bytes.ensures.len, c.requires.area.lawful.at_most)
