use Rattle.std.proofs.Common.{◌≡◌, ◌+◌, ◌<◌, ◌≤◌, List, Option, Some, None, ℕ, refl, sym, ap, subst, ◌∙◌}
use Rattle.std.specs.Prelude.{Contains}
use Rattle.std.specs.List.{All}
use Rattle.flash_sim.specs.Device.{Device}
use Rattle.flash_map.specs.Area.{unit_of, sector_size}
use Rattle.flash_map.specs.declared.area.Area.{Area}
use Rattle.flash_map.proofs.PieceLemmas.{on_err}
use Rattle.fcb_ring.specs.declared.record.RecordAt.{RecordAt}
use Rattle.fcb_ring.specs.declared.ring.Ring.{Ring}
use Rattle.fcb_ring.specs.Standing.{IsListed, KeepsEntries, entries_on, record_places}
use Rattle.fcb_ring.specs.Entries.{bodies}
use Rattle.record_settings.specs.Live.{live_bodies}
use Rattle.record_settings.specs.Rounds.{bodies_cost}
use Rattle.flash_map.specs.Area.{value_limit}
use Rattle.backend_fcb.specs.Changing.{Copies}
use Rattle.backend_fcb.specs.Compaction.{AreKeptWithin, AreShort, IsKept, bodies_at, FindsLive}
use Rattle.backend_fcb.specs.declared.compaction.Kept.{Kept}
use Rattle.backend_fcb.proofs.CopySteps.{IsCopying, keeps-then, copying-list, copying-others, copying-start, copying-step, copying-end, found_live, found_live-short, found_live-fits, stops-then, part-none, oldest-some}
use Rattle.backend_fcb.proofs.Ends.{not-ok}
use Rattle.backend_fcb.proofs.CompactionSteps.{finds_live-smaller}
use Rattle.backend_fcb.proofs.Tearing.{lost-then}
use Rattle.backend_fcb.proofs.WalkLemmas.{Entry, left_at}
use Rattle.backend_fcb.proofs.collecting.copy_live.Goals as goal

pub returns-in_err-copy_all-clause-copies : goal.returns-in_err-copy_all-clause-copies
returns-in_err-copy_all-clause-copies g c = not-ok _ c.from_residual.result c.from_residual.ensures.0

pub returns-clause-stops : goal.returns-clause-stops
returns-clause-stops g c = tt

pub returns-clause-lost : goal.returns-clause-lost
returns-clause-lost g c = tt

pub loop-at-init : goal.loop-at-init
loop-at-init g c = copying-start (g.F.Flash.device c.args.flash.now) c.args.ring.now (g.met.F.Flash.is_lawful c.args.flash.now) c.requires.scratch.stands c.requires.scratch.collecting c.next-at.result c.next-at.ensures.next c.next-at.ensures.listed

pub find_live-at-requires : goal.find_live-at-requires
find_live-at-requires g c =
    let so_far : IsCopying (g.F.Flash.device c.args.flash.now) (g.F.Flash.device c.loop-at.flash) c.args.ring.now c.loop-at.ring (Some c.in-Some.from) =
    subst (λ (o : Option RecordAt). IsCopying (g.F.Flash.device c.args.flash.now) (g.F.Flash.device c.loop-at.flash) c.args.ring.now c.loop-at.ring o) c.in-Some.is c.loop-at.invariant in
    record {
      stands = so_far.copies.stands;
      from =
          let a : Device = g.F.Flash.device c.args.flash.now in
          let d : Device = g.F.Flash.device c.loop-at.flash in
          let before : Ring = c.args.ring.now in
          let now : Ring = c.loop-at.ring in
          λ q same. subst (λ (l : List Entry). Contains (record_places l) q) (sym (copying-list a d before now (Some c.in-Some.from) so_far)) (so_far.listed q same);
    }

pub copy_all-requires : goal.copy_all-requires
copy_all-requires g c =
    let so_far : IsCopying (g.F.Flash.device c.args.flash.now) (g.F.Flash.device c.loop-at.flash) c.args.ring.now c.loop-at.ring (Some c.in-Some.from) =
    subst (λ (o : Option RecordAt). IsCopying (g.F.Flash.device c.args.flash.now) (g.F.Flash.device c.loop-at.flash) c.args.ring.now c.loop-at.ring o) c.in-Some.is c.loop-at.invariant in
    record {
      stands = so_far.copies.stands;
      collecting = so_far.copies.stage;
      live =
          let a : Device = g.F.Flash.device c.args.flash.now in
          let d : Device = g.F.Flash.device c.loop-at.flash in
          let before : Ring = c.args.ring.now in
          let now : Ring = c.loop-at.ring in
          let part : c.oldest-oldest.result ≡ Some c.args.ring.now.oldest = oldest-some a before c.requires.scratch.stands c.requires.scratch.collecting c.oldest-oldest.result c.oldest-oldest.ensures in
          let found : List Kept = c.find_live-at.new.table.items in
          let next : Option RecordAt = c.find_live-at.result in
          let got : FindsLive (g.F.Flash.device c.loop-at.flash) c.loop-at.ring.area (Some c.args.ring.now.oldest) so_far.later c.find_live-at.new.table.items c.find_live-at.result =
          found_live a d before now c.in-Some.from so_far c.oldest-oldest.result part found next c.find_live-at.ensures.finds_live in
          let slice : c.as_slice.result.now ≡ c.find_live-at.new.table.items = c.as_slice.ensures.value in
          record {
            kept = subst (λ (l : List Kept). All (IsKept (g.F.Flash.device c.loop-at.flash) c.loop-at.ring.area) l) (sym c.as_slice.ensures.value) c.find_live-at.ensures.kept;
            of_oldest =
                subst (λ (l : List Kept). AreKeptWithin (Some c.loop-at.ring.oldest) l) (sym slice)
                (subst (λ (o : ℕ). AreKeptWithin (Some o) c.find_live-at.new.table.items) (sym so_far.copies.oldest) (subst (λ (o : Option ℕ). AreKeptWithin o c.find_live-at.new.table.items) part c.find_live-at.ensures.within));
            short = subst (λ (l : List Kept). AreShort (g.F.Flash.device c.loop-at.flash) c.loop-at.ring.area l) (sym slice) (found_live-short d now.area (Some before.oldest) so_far.later found next got);
            fits =
                subst (λ (l : List Kept). now.end + bodies_cost (unit_of d now.area) (bodies_at d now.area l) ≤ sector_size d now.area) (sym slice)
                (found_live-fits a d before now c.in-Some.from (g.met.F.Flash.is_lawful c.args.flash.now) c.requires.scratch.stands c.requires.scratch.collecting c.requires.undamaged c.requires.scratch.end so_far found next got);
          };
    }

pub returns-in_err-copy_all-clause-stops : goal.returns-in_err-copy_all-clause-stops
returns-in_err-copy_all-clause-stops g c =
    let a : Device = g.F.Flash.device c.args.flash.now in
    let d : Device = g.F.Flash.device c.loop-at.flash in
    let before : Ring = c.args.ring.now in
    let now : Ring = c.loop-at.ring in
    let so_far : IsCopying (g.F.Flash.device c.args.flash.now) (g.F.Flash.device c.loop-at.flash) c.args.ring.now c.loop-at.ring (Some c.in-Some.from) =
    subst (λ (o : Option RecordAt). IsCopying (g.F.Flash.device c.args.flash.now) (g.F.Flash.device c.loop-at.flash) c.args.ring.now c.loop-at.ring o) c.in-Some.is c.loop-at.invariant in
    let e : Device = g.F.Flash.device c.copy_all.new.flash in
    on_err c.from_residual.result (stops-then a d e before now c.copy_all.new.ring (live_bodies (value_limit c.args.ring.now.area) (bodies so_far.done) (bodies so_far.later)) so_far.touches.banks so_far.area so_far.copies c.in_err-copy_all.ensures.stops)

pub returns-in_err-copy_all-clause-lost : goal.returns-in_err-copy_all-clause-lost
returns-in_err-copy_all-clause-lost g c =
    let a : Device = g.F.Flash.device c.args.flash.now in
    let d : Device = g.F.Flash.device c.loop-at.flash in
    let before : Ring = c.args.ring.now in
    let now : Ring = c.loop-at.ring in
    let so_far : IsCopying (g.F.Flash.device c.args.flash.now) (g.F.Flash.device c.loop-at.flash) c.args.ring.now c.loop-at.ring (Some c.in-Some.from) =
    subst (λ (o : Option RecordAt). IsCopying (g.F.Flash.device c.args.flash.now) (g.F.Flash.device c.loop-at.flash) c.args.ring.now c.loop-at.ring o) c.in-Some.is c.loop-at.invariant in
    let e : Device = g.F.Flash.device c.copy_all.new.flash in
    on_err c.from_residual.result (lost-then a d e before.area now.area so_far.touches so_far.area c.in_err-copy_all.ensures.lost)

pub returns-in_err-copy_all-clause-only : goal.returns-in_err-copy_all-clause-only
returns-in_err-copy_all-clause-only g c =
    let a : Device = g.F.Flash.device c.args.flash.now in
    let d : Device = g.F.Flash.device c.loop-at.flash in
    let before : Ring = c.args.ring.now in
    let now : Ring = c.loop-at.ring in
    let so_far : IsCopying (g.F.Flash.device c.args.flash.now) (g.F.Flash.device c.loop-at.flash) c.args.ring.now c.loop-at.ring (Some c.in-Some.from) =
    subst (λ (o : Option RecordAt). IsCopying (g.F.Flash.device c.args.flash.now) (g.F.Flash.device c.loop-at.flash) c.args.ring.now c.loop-at.ring o) c.in-Some.is c.loop-at.invariant in
    let e : Device = g.F.Flash.device c.copy_all.new.flash in
    record {
      list = keeps-then a d e before.area so_far.list (subst (λ (x : Area). KeepsEntries d e x) so_far.area c.in_err-copy_all.ensures.only.list);
      others = copying-others a d e before now c.copy_all.new.ring c.in-Some.from so_far c.in_err-copy_all.ensures.only.list c.in_err-copy_all.ensures.only.others;
      area = c.in_err-copy_all.ensures.only.area ∙ so_far.area;
      reserve = c.in_err-copy_all.ensures.only.reserve ∙ so_far.reserve;
    }

pub loop-at-smaller : goal.loop-at-smaller
loop-at-smaller g c =
    let a : Device = g.F.Flash.device c.args.flash.now in
    let d : Device = g.F.Flash.device c.loop-at.flash in
    let before : Ring = c.args.ring.now in
    let now : Ring = c.loop-at.ring in
    let so_far : IsCopying (g.F.Flash.device c.args.flash.now) (g.F.Flash.device c.loop-at.flash) c.args.ring.now c.loop-at.ring (Some c.in-Some.from) =
    subst (λ (o : Option RecordAt). IsCopying (g.F.Flash.device c.args.flash.now) (g.F.Flash.device c.loop-at.flash) c.args.ring.now c.loop-at.ring o) c.in-Some.is c.loop-at.invariant in
    let e : Device = g.F.Flash.device c.copy_all.new.flash in
    let did = c.in_ok-copy_all.ensures in
    let list : entries_on e c.copy_all.new.ring.area ≡ entries_on d now.area = ap (λ (x : Area). entries_on e x) did.only.area ∙ did.only.list.are in
    let there : IsListed (g.F.Flash.device c.loop-at.flash) c.loop-at.ring.area c.in-Some.from = subst (λ (l : List Entry). Contains (record_places l) c.in-Some.from) (sym (copying-list a d before now (Some c.in-Some.from) so_far)) (so_far.listed c.in-Some.from refl) in
    subst (λ (l : List Entry). left_at (record_places l) c.find_live-at.result < left_at (record_places (entries_on d now.area)) c.loop-at.at) (sym list)
    (subst (λ (o : Option RecordAt). left_at (record_places (entries_on d now.area)) c.find_live-at.result < left_at (record_places (entries_on d now.area)) o) (sym c.in-Some.is)
    (finds_live-smaller d now.area c.oldest-oldest.result c.in-Some.from c.find_live-at.result c.find_live-at.new.table.items there c.find_live-at.ensures.finds_live))

pub loop-at-preserved : goal.loop-at-preserved
loop-at-preserved g c =
    let a : Device = g.F.Flash.device c.args.flash.now in
    let d : Device = g.F.Flash.device c.loop-at.flash in
    let before : Ring = c.args.ring.now in
    let now : Ring = c.loop-at.ring in
    let so_far : IsCopying (g.F.Flash.device c.args.flash.now) (g.F.Flash.device c.loop-at.flash) c.args.ring.now c.loop-at.ring (Some c.in-Some.from) =
    subst (λ (o : Option RecordAt). IsCopying (g.F.Flash.device c.args.flash.now) (g.F.Flash.device c.loop-at.flash) c.args.ring.now c.loop-at.ring o) c.in-Some.is c.loop-at.invariant in
    let part : c.oldest-oldest.result ≡ Some c.args.ring.now.oldest = oldest-some a before c.requires.scratch.stands c.requires.scratch.collecting c.oldest-oldest.result c.oldest-oldest.ensures in
    let found : List Kept = c.find_live-at.new.table.items in
    let next : Option RecordAt = c.find_live-at.result in
    let got : FindsLive (g.F.Flash.device c.loop-at.flash) c.loop-at.ring.area (Some c.args.ring.now.oldest) so_far.later c.find_live-at.new.table.items c.find_live-at.result =
    found_live a d before now c.in-Some.from so_far c.oldest-oldest.result part found next c.find_live-at.ensures.finds_live in
    let slice : c.as_slice.result.now ≡ c.find_live-at.new.table.items = c.as_slice.ensures.value in
    let e : Device = g.F.Flash.device c.copy_all.new.flash in
    let did = c.in_ok-copy_all.ensures in
    let copies : Copies (g.F.Flash.device c.loop-at.flash) (g.F.Flash.device c.copy_all.new.flash) c.loop-at.ring c.copy_all.new.ring (bodies_at (g.F.Flash.device c.loop-at.flash) c.loop-at.ring.area c.find_live-at.new.table.items) =
    subst (λ (l : List Kept). Copies (g.F.Flash.device c.loop-at.flash) (g.F.Flash.device c.copy_all.new.flash) c.loop-at.ring c.copy_all.new.ring (bodies_at (g.F.Flash.device c.loop-at.flash) c.loop-at.ring.area l)) slice did.copies in
    copying-step a d e before now c.copy_all.new.ring c.in-Some.from so_far did.only.list did.only.others did.touches did.only.area did.only.reserve found next got c.find_live-at.ensures.listed copies

pub returns-clause-copies : goal.returns-clause-copies
returns-clause-copies g c =
    let a : Device = g.F.Flash.device c.args.flash.now in
    let d : Device = g.F.Flash.device c.loop-at.flash in
    let before : Ring = c.args.ring.now in
    let now : Ring = c.loop-at.ring in
    let so_far : IsCopying (g.F.Flash.device c.args.flash.now) (g.F.Flash.device c.loop-at.flash) c.args.ring.now c.loop-at.ring None =
    subst (λ (o : Option RecordAt). IsCopying (g.F.Flash.device c.args.flash.now) (g.F.Flash.device c.loop-at.flash) c.args.ring.now c.loop-at.ring o) c.in_default.is c.loop-at.invariant in
    copying-end a d before now None c.requires.scratch.stands c.requires.scratch.collecting so_far (part-none a d before now so_far)

pub returns-clause-only : goal.returns-clause-only
returns-clause-only g c =
    let a : Device = g.F.Flash.device c.args.flash.now in
    let d : Device = g.F.Flash.device c.loop-at.flash in
    let before : Ring = c.args.ring.now in
    let now : Ring = c.loop-at.ring in
    let so_far : IsCopying (g.F.Flash.device c.args.flash.now) (g.F.Flash.device c.loop-at.flash) c.args.ring.now c.loop-at.ring None =
    subst (λ (o : Option RecordAt). IsCopying (g.F.Flash.device c.args.flash.now) (g.F.Flash.device c.loop-at.flash) c.args.ring.now c.loop-at.ring o) c.in_default.is c.loop-at.invariant in
    record { list = so_far.list; others = so_far.others; area = so_far.area; reserve = so_far.reserve }
