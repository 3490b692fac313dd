use Rattle.std.proofs.Common.{◌≡◌, ◌*◌, ◌<◌, ◌≤◌, List, length, Option, Some, None, sym, ap, subst, ◌∙◌, arith}
use Rattle.std.specs.Prelude.{sum_by}
use Rattle.std.specs.List.{All}
use Rattle.flash_sim.specs.Device.{Device}
use Rattle.flash_sim.specs.declared.flash.TheConstants.{PROGRAM_LIMIT}
use Rattle.flash_map.specs.Area.{value_limit, unit_of, sector_size}
use Rattle.flash_map.specs.declared.area.Area.{Area}
use Rattle.fcb_ring.specs.declared.record.RecordAt.{RecordAt}
use Rattle.fcb_ring.specs.Standing.{entries_on, record_places}
use Rattle.record_settings.specs.Room.{put_cost}
use Rattle.record_settings.proofs.CopyCost.{room-cost}
use Rattle.backend_fcb.specs.Compaction.{IsKept, bodies_at}
use Rattle.backend_fcb.specs.Standing.{bodies_on}
use Rattle.backend_fcb.specs.declared.compaction.Kept.{Kept}
use Rattle.backend_fcb.proofs.CostSteps.{Sums, sums-start, sums-few, sums-step, sums-end, few-records}
use Rattle.backend_fcb.proofs.CompactionSteps.{finds_live-smaller}
use Rattle.backend_fcb.proofs.WalkLemmas.{left_at}
use Rattle.backend_fcb.proofs.lookup.live_cost.Goals as goal

pub loop-at-init : goal.loop-at-init
loop-at-init g c = record {
  sums = sums-start (value_limit c.args.ring.now.area) (unit_of (g.F.Flash.device c.args.flash.now) c.args.ring.now.area) (entries_on (g.F.Flash.device c.args.flash.now) c.args.ring.now.area) c.next-at.result c.next-at.ensures.next;
  listed = c.next-at.ensures.listed;
}

pub find_live-at-requires-clause-from : goal.find_live-at-requires-clause-from
find_live-at-requires-clause-from g c q same = c.loop-at.invariant.listed q (c.in-Some.is ∙ same)

pub cost_of-live-requires-clause-kept : goal.cost_of-live-requires-clause-kept
cost_of-live-requires-clause-kept g c = subst (λ (l : List Kept). All (IsKept (g.F.Flash.device c.args.flash.now) c.args.ring.now.area) l) (sym c.as_slice.ensures.value) c.find_live-at.ensures.kept

pub overflow_add-live : goal.overflow_add-live
overflow_add-live g c =
    let d : Device = g.F.Flash.device c.args.flash.now in
    let area : Area = c.args.ring.now.area in
    let so_far : Sums (value_limit c.args.ring.now.area) (unit_of (g.F.Flash.device c.args.flash.now) c.args.ring.now.area) (entries_on (g.F.Flash.device c.args.flash.now) c.args.ring.now.area) (Some c.in-Some.from) c.loop-at.live =
    subst (λ (o : Option RecordAt). Sums (value_limit c.args.ring.now.area) (unit_of (g.F.Flash.device c.args.flash.now) c.args.ring.now.area) (entries_on (g.F.Flash.device c.args.flash.now) c.args.ring.now.area) o c.loop-at.live) c.in-Some.is c.loop-at.invariant.sums in
    let slice : c.as_slice.result.now ≡ c.find_live-at.new.table.items = c.as_slice.ensures.value in
    let small : c.cost_of-live.result ≤ PROGRAM_LIMIT * length c.find_live-at.new.table.items = subst (λ (l : List Kept). c.cost_of-live.result ≤ PROGRAM_LIMIT * length l) slice c.cost_of-live.ensures.small in
    let few = sums-few d area c.in-Some.from c.loop-at.live so_far c.find_live-at.new.table.items c.find_live-at.result c.find_live-at.ensures.finds_live c.cost_of-live.result small in
    let most = few-records d c.args.ring.now (g.met.F.Flash.is_lawful c.args.flash.now) c.requires in
    omega (arith, few, most)

pub loop-at-smaller : goal.loop-at-smaller
loop-at-smaller g c =
    let d : Device = g.F.Flash.device c.args.flash.now in
    let area : Area = c.args.ring.now.area in
    subst (λ (o : Option RecordAt). left_at (record_places (entries_on d area)) c.find_live-at.result < left_at (record_places (entries_on d area)) o) (sym c.in-Some.is)
    (finds_live-smaller d area None c.in-Some.from c.find_live-at.result c.find_live-at.new.table.items (c.loop-at.invariant.listed c.in-Some.from c.in-Some.is) c.find_live-at.ensures.finds_live)

pub loop-at-preserved : goal.loop-at-preserved
loop-at-preserved g c =
    let d : Device = g.F.Flash.device c.args.flash.now in
    let area : Area = c.args.ring.now.area in
    let so_far : Sums (value_limit c.args.ring.now.area) (unit_of (g.F.Flash.device c.args.flash.now) c.args.ring.now.area) (entries_on (g.F.Flash.device c.args.flash.now) c.args.ring.now.area) (Some c.in-Some.from) c.loop-at.live =
    subst (λ (o : Option RecordAt). Sums (value_limit c.args.ring.now.area) (unit_of (g.F.Flash.device c.args.flash.now) c.args.ring.now.area) (entries_on (g.F.Flash.device c.args.flash.now) c.args.ring.now.area) o c.loop-at.live) c.in-Some.is c.loop-at.invariant.sums in
    let slice : c.as_slice.result.now ≡ c.find_live-at.new.table.items = c.as_slice.ensures.value in
    let small : c.cost_of-live.result ≤ PROGRAM_LIMIT * length c.find_live-at.new.table.items = subst (λ (l : List Kept). c.cost_of-live.result ≤ PROGRAM_LIMIT * length l) slice c.cost_of-live.ensures.small in
    let cost : c.cost_of-live.result ≡ sum_by (put_cost (value_limit c.args.ring.now.area) (unit_of (g.F.Flash.device c.args.flash.now) c.args.ring.now.area)) (bodies_at (g.F.Flash.device c.args.flash.now) c.args.ring.now.area c.find_live-at.new.table.items) =
    c.cost_of-live.ensures.cost ∙ ap (λ (l : List Kept). sum_by (put_cost (value_limit c.args.ring.now.area) (unit_of (g.F.Flash.device c.args.flash.now) c.args.ring.now.area)) (bodies_at (g.F.Flash.device c.args.flash.now) c.args.ring.now.area l)) slice in
    record {
      sums = sums-step d area c.in-Some.from c.loop-at.live so_far c.find_live-at.new.table.items c.find_live-at.result c.find_live-at.ensures.finds_live c.cost_of-live.result small cost;
      listed = c.find_live-at.ensures.listed;
    }

pub returns : goal.returns
returns g c =
    let d : Device = g.F.Flash.device c.args.flash.now in
    let so_far : Sums (value_limit c.args.ring.now.area) (unit_of (g.F.Flash.device c.args.flash.now) c.args.ring.now.area) (entries_on (g.F.Flash.device c.args.flash.now) c.args.ring.now.area) None c.loop-at.live =
    subst (λ (o : Option RecordAt). Sums (value_limit c.args.ring.now.area) (unit_of (g.F.Flash.device c.args.flash.now) c.args.ring.now.area) (entries_on (g.F.Flash.device c.args.flash.now) c.args.ring.now.area) o c.loop-at.live) c.in_default.is c.loop-at.invariant.sums in
    sums-end (value_limit c.args.ring.now.area) (unit_of d c.args.ring.now.area) (entries_on d c.args.ring.now.area) c.loop-at.live so_far ∙ sym (room-cost (value_limit c.args.ring.now.area) (unit_of d c.args.ring.now.area) (sector_size d c.args.ring.now.area) (bodies_on d c.args.ring.now.area))
