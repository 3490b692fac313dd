use Rattle.std.proofs.Common.{◌≡◌, List, length, Option, Some, true, sym, subst, ◌∙◌}
use Rattle.std.specs.List.{All}
use Rattle.std.proofs.lemmas.List.Elements.{All-nil, All-append}
use Rattle.flash_sim.specs.Device.{Device}
use Rattle.flash_map.specs.Area.{value_limit}
use Rattle.flash_map.specs.declared.area.Area.{Area}
use Rattle.fcb_ring.specs.Changing.{body_at}
use Rattle.fcb_ring.specs.Standing.{entries_on}
use Rattle.fcb_ring.specs.declared.record.RecordAt.{RecordAt}
use Rattle.record_settings.specs.Settings.{setting_of}
use Rattle.backend_fcb.specs.Compaction.{is_within, IsKept, AreKeptWithin, struck, noted, PassesFrom}
use Rattle.backend_fcb.specs.declared.compaction.Kept.{Kept}
use Rattle.backend_fcb.specs.declared.compaction.TheConstants.{TABLE}
use Rattle.backend_fcb.proofs.CompactionSteps.{passes-start, passes-step, struck-all, noted-kept, noted-within, not-full}
use Rattle.backend_fcb.proofs.WalkLemmas.{at-smaller}
use Rattle.backend_fcb.proofs.compaction.find_live_in.Goals as goal

pub loop-at-init : goal.loop-at-init
loop-at-init g c = record {
  kept = subst (All (IsKept (g.F.Flash.device c.args.flash.now) c.args.ring.now.area)) (sym c.requires.empty) (All-nil (IsKept (g.F.Flash.device c.args.flash.now) c.args.ring.now.area));
  within = subst (λ (l : List Kept). AreKeptWithin c.args.part l) (sym c.requires.empty) (All-nil (λ (kept : Kept). is_within c.args.part kept.at ≡ true));
  passes = passes-start (g.F.Flash.device c.args.flash.now) c.args.ring.now.area c.args.part c.args.from c.args.table.now.items c.requires.empty;
  listed = c.requires.from;
}

pub replace-requires-clause-room : goal.replace-requires-clause-room
replace-requires-clause-room g c = not-full (length c.loop-at.table.items) TABLE c.is_full.ensures.fits (sym c.is_full.ensures.value ∙ c.if-is_full.false)

pub loop-at-smaller : goal.loop-at-smaller
loop-at-smaller g c =
    at-smaller (entries_on (g.F.Flash.device c.args.flash.now) c.args.ring.now.area) c.loop-at.at c.in-Some.entry c.next-at.result c.in-Some.is (c.loop-at.invariant.listed c.in-Some.entry c.in-Some.is) c.next-at.ensures.next

pub loop-at-preserved : goal.loop-at-preserved
loop-at-preserved g c =
    let d : Device = g.F.Flash.device c.args.flash.now in
    let area : Area = c.args.ring.now.area in
    let listed = c.loop-at.invariant.listed c.in-Some.entry c.in-Some.is in
    let inside : is_within c.args.part c.in-Some.entry ≡ true = sym c.is_within.ensures ∙ c.if-not-is_within.false in
    let setting = setting_of (value_limit c.args.ring.now.area) (body_at (g.F.Flash.device c.args.flash.now) c.args.ring.now.area c.in-Some.entry) in
    let so_far : PassesFrom (g.F.Flash.device c.args.flash.now) c.args.ring.now.area c.args.part c.args.from c.loop-at.table.items (Some c.in-Some.entry) =
    subst (λ (o : Option RecordAt). PassesFrom (g.F.Flash.device c.args.flash.now) c.args.ring.now.area c.args.part c.args.from c.loop-at.table.items o) c.in-Some.is c.loop-at.invariant.passes in
    record {
      kept =
          subst (All (IsKept (g.F.Flash.device c.args.flash.now) c.args.ring.now.area)) (sym c.replace.ensures)
          (All-append (IsKept d area) (struck d area (body_at d area c.in-Some.entry) c.loop-at.table.items) (noted d area c.in-Some.entry) (struck-all (IsKept d area) d area setting c.loop-at.table.items c.loop-at.invariant.kept) (noted-kept d area c.in-Some.entry listed));
      within =
          subst (λ (l : List Kept). AreKeptWithin c.args.part l) (sym c.replace.ensures)
          (All-append (λ (kept : Kept). is_within c.args.part kept.at ≡ true) (struck d area (body_at d area c.in-Some.entry) c.loop-at.table.items) (noted d area c.in-Some.entry)
          (struck-all (λ (kept : Kept). is_within c.args.part kept.at ≡ true) d area setting c.loop-at.table.items c.loop-at.invariant.within) (noted-within d area c.args.part c.in-Some.entry inside));
      passes = passes-step d c.args.ring.now (g.met.F.Flash.is_lawful c.args.flash.now) c.requires.stands c.args.part c.args.from c.loop-at.table.items c.replace.new.table.items c.in-Some.entry c.next-at.result so_far inside c.replace.ensures c.next-at.ensures.next;
      listed = c.next-at.ensures.listed;
    }
