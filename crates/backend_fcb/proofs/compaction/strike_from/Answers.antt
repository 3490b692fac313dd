use Rattle.std.proofs.Common.{◌≡◌, List, Option, Some, None, true, sym, subst}
use Rattle.std.specs.List.{All, AllPass}
use Rattle.flash_sim.specs.Device.{Device}
use Rattle.flash_map.specs.Area.{value_limit}
use Rattle.flash_map.specs.declared.area.Area.{Area}
use Rattle.fcb_ring.specs.Changing.{body_at}
use Rattle.fcb_ring.specs.Standing.{entries_on}
use Rattle.fcb_ring.specs.declared.record.RecordAt.{RecordAt}
use Rattle.record_settings.specs.Settings.{setting_of}
use Rattle.backend_fcb.specs.Compaction.{IsKept}
use Rattle.backend_fcb.specs.declared.compaction.Kept.{Kept}
use Rattle.backend_fcb.proofs.CompactionSteps.{StruckFrom, struck-step, struck-end, struck-all}
use Rattle.backend_fcb.proofs.WalkLemmas.{at-smaller}
use Rattle.backend_fcb.proofs.compaction.strike_from.Goals as goal

pub loop-at-smaller : goal.loop-at-smaller
loop-at-smaller g c =
    at-smaller (entries_on (g.F.Flash.device c.args.flash.now) c.args.ring.now.area) c.loop-at.at c.in-Some.later c.next-at.result c.in-Some.is (c.loop-at.invariant.listed c.in-Some.later c.in-Some.is) c.next-at.ensures.next

pub loop-at-preserved : goal.loop-at-preserved
loop-at-preserved g c =
    let d : Device = g.F.Flash.device c.args.flash.now in
    let area : Area = c.args.ring.now.area in
    let setting = setting_of (value_limit c.args.ring.now.area) (body_at (g.F.Flash.device c.args.flash.now) c.args.ring.now.area c.in-Some.later) in
    let so_far : StruckFrom (g.F.Flash.device c.args.flash.now) c.args.ring.now.area c.args.from c.args.table.now.items c.loop-at.table.items (Some c.in-Some.later) =
    subst (λ (o : Option RecordAt). StruckFrom (g.F.Flash.device c.args.flash.now) c.args.ring.now.area c.args.from c.args.table.now.items c.loop-at.table.items o) c.in-Some.is c.loop-at.invariant.struck in
    record {
      kept = subst (All (IsKept (g.F.Flash.device c.args.flash.now) c.args.ring.now.area)) (sym c.strike.ensures) (struck-all (IsKept d area) d area setting c.loop-at.table.items c.loop-at.invariant.kept);
      some = λ test all. subst (λ (l : List Kept). AllPass test l) (sym c.strike.ensures) (struck-all (λ (kept : Kept). test kept ≡ true) d area setting c.loop-at.table.items (c.loop-at.invariant.some test all));
      struck = struck-step d c.args.ring.now (g.met.F.Flash.is_lawful c.args.flash.now) c.requires.stands c.args.from c.args.table.now.items c.loop-at.table.items c.strike.new.table.items c.in-Some.later c.next-at.result so_far c.strike.ensures c.next-at.ensures.next;
      listed = c.next-at.ensures.listed;
    }

pub returns-clause-strikes : goal.returns-clause-strikes
returns-clause-strikes g c =
    let d : Device = g.F.Flash.device c.args.flash.now in
    let so_far : StruckFrom (g.F.Flash.device c.args.flash.now) c.args.ring.now.area c.args.from c.args.table.now.items c.loop-at.table.items None =
    subst (λ (o : Option RecordAt). StruckFrom (g.F.Flash.device c.args.flash.now) c.args.ring.now.area c.args.from c.args.table.now.items c.loop-at.table.items o) c.in_default.is c.loop-at.invariant.struck in
    struck-end d c.args.ring.now (g.met.F.Flash.is_lawful c.args.flash.now) c.requires.stands c.args.from c.args.table.now.items c.loop-at.table.items so_far
