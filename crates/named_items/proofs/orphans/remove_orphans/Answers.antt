-- In the loop the store's area is that of the start by an equation alone, so each fact of a step is moved along it.
use Rattle.std.proofs.Common.{◌≡◌, ℕ, ◌+◌, ◌<◌, ◌∷◌, [], Bool, false, true, Option, Some, None, refl, sym, ap, subst, ◌∙◌, inl, inr, ◌⊎◌}
use Rattle.std.specs.Prelude.{IfSome}
use Rattle.std.specs.FinMap.{get}
use Rattle.std.proofs.lemmas.Bool.{false≢true}
use Rattle.std.proofs.lemmas.Option.{IfSome_then}
use Rattle.flash_sim.specs.Device.{Device}
use Rattle.flash_map.specs.declared.area.Area.{Area}
use Rattle.flash_map.specs.declared.area.Geometry.{Geometry}
use Rattle.flash_map.specs.Area.{geometry_of, sectors_of}
use Rattle.flash_map.specs.Spending.{SpendsAtMost}
use Rattle.flash_map.specs.Touches.{Touches}
use Rattle.flash_map.proofs.Touches.{then, untouched}
use Rattle.flash_map.specs.On.{on}
use Rattle.named_items.specs.Pairs.{settings_in, AltersOnly, HasNoOrphans, IsKept}
use Rattle.named_items.specs.StoreEnds.{IsNextId}
use Rattle.backend_api.specs.Room.{removal_units}
use Rattle.backend_api.specs.Written.{StaysWritten}
use Rattle.named_items.specs.Orphans.{IsCleanBelow, KeepsEach, OnlyRemoves, Removes, SpendsPerItem, StaysKept, StopsAt, OrphansIn}
use Rattle.named_items.specs.StoreEnds.{delete_units, next_delete}
use Rattle.named_items.proofs.OrphanUnits.{removes-next, orphans-cut, orphans-whole}
use Rattle.named_items.proofs.RemovalUnits.{per-none, per-most, per-then, per-cut}
use Rattle.named_items.proofs.RemovedSteps.{StaysAhead, gone-then, ahead-start, ahead-step, stops-at, removal-cut}
use Rattle.named_items.proofs.SpendSteps.{geometry-stays}
use Rattle.named_items.proofs.SoFar.{HasNoneBefore, ids_left}
use Rattle.named_items.proofs.OrphanSteps.{kept-more, stays-more, orphans-start, orphans-step, orphans-end, left-smaller}
use Rattle.named_items.proofs.ChangeSteps.{moved-lawful}
use Rattle.named_items.specs.Seen.{SawBelow}
use Rattle.named_items.proofs.KeepSteps.{saw-first, saw-next}
use Rattle.named_items.proofs.orphans.remove_orphans.Goals as goal

pub loop-at-init : goal.loop-at-init
loop-at-init g c =
    let a : Device = g.F.Flash.device c.args.flash.now in
    let own : Area = g.S.ItemStore.mounted_on c.args.store.now in
    record {
      touches = untouched (own ∷ []) a;
      area = refl;
      stands = c.requires.stands;
      describes = c.fill_index.ensures;
      sound = g.met.S.ItemStore.stands_reads c.args.store.now (geometry_of a own) (sectors_of a own) c.requires.stands;
      keeps = refl;
      kept = λ id is. (is, refl);
      gone = λ id. inr refl;
      ahead = ahead-start (on g.S.ItemStore.contents a own) c.next_by-at.result;
      same = λ clean. refl;
      written = λ blank. blank;
      so_far = orphans-start (g.N.IdLayout.numbering own) (on g.S.ItemStore.contents a own) c.next_by-at.result c.next_by-at.ensures.next;
      per_item = per-none (removal_units (geometry_of a own)) a (on g.S.ItemStore.contents a own);
      gone_so_far = λ orphans only. inl refl;
      saw = saw-first (g.N.IdLayout.numbering own) (on g.S.ItemStore.contents a own) c.new-seen.result.words c.next_by-at.result c.next_by-at.ensures.next;
      known = IfSome_then c.next_by-at.result c.next_by-at.ensures.known (λ id is. c.requires.ids.only id is);
    }

pub remove_next-requires : goal.remove_next-requires
remove_next-requires g c = record {
  known = subst (λ (o : Option ℕ). IfSome o (λ id. id < g.N.IdLayout.top)) c.in-Some.is c.loop-at.invariant.known;
  ids = c.requires.ids;
  lawful = moved-lawful (g.S.ItemStore.mounted_on c.args.store.now) (g.S.ItemStore.mounted_on c.loop-at.store) c.loop-at.invariant.area (g.F.Flash.device c.args.flash.now) (g.F.Flash.device c.loop-at.flash) (c.loop-at.invariant.touches.banks) c.requires.lawful;
  stands = c.loop-at.invariant.stands;
  describes = c.loop-at.invariant.describes;
  walked = record {
    clean = let own : Area = g.S.ItemStore.mounted_on c.args.store.now in
        let b : Device = g.F.Flash.device c.loop-at.flash in
        subst (λ (x : Area). IsCleanBelow (g.N.IdLayout.numbering x) (on g.S.ItemStore.contents b x) c.in-Some.id) (sym c.loop-at.invariant.area)
        (subst (λ (o : Option ℕ). HasNoneBefore (g.N.IdLayout.numbering own) (on g.S.ItemStore.contents b own) o) c.in-Some.is c.loop-at.invariant.so_far);
    saw = let own : Area = g.S.ItemStore.mounted_on c.args.store.now in
        let b : Device = g.F.Flash.device c.loop-at.flash in
        subst (λ (x : Area). SawBelow (g.N.IdLayout.numbering x) (on g.S.ItemStore.contents b x) c.loop-at.seen.words c.in-Some.id) (sym c.loop-at.invariant.area)
        (subst (λ (o : Option ℕ). IfSome o (λ id. SawBelow (g.N.IdLayout.numbering own) (on g.S.ItemStore.contents b own) c.loop-at.seen.words id)) c.in-Some.is c.loop-at.invariant.saw);
  };
}

pub loop-at-preserved : goal.loop-at-preserved
loop-at-preserved g c =
    let a : Device = g.F.Flash.device c.args.flash.now in
    let b : Device = g.F.Flash.device c.loop-at.flash in
    let e : Device = g.F.Flash.device c.remove_next.new.flash in
    let own : Area = g.S.ItemStore.mounted_on c.args.store.now in
    let kept = c.loop-at.invariant in
    let step = c.in_ok-remove_next.ensures in
    let area : g.S.ItemStore.mounted_on c.remove_next.new.store ≡ own = step.store.area ∙ kept.area in
    record {
      touches = then kept.touches (subst (λ (x : Area). Touches (x ∷ []) b e false) kept.area step.touches);
      area = area;
      stands = step.store.up refl;
      describes = step.describes refl;
      sound = subst (λ (x : Area). on g.S.ItemStore.damage e x ≡ None) kept.area step.store.sound;
      keeps = subst (λ (x : Area). settings_in (g.N.IdLayout.numbering x) (on g.S.ItemStore.contents e x) ≡ settings_in (g.N.IdLayout.numbering x) (on g.S.ItemStore.contents b x)) kept.area step.one.keeps.settings ∙ kept.keeps;
      kept = stays-more (g.N.IdLayout.numbering own) (on g.S.ItemStore.contents a own) (on g.S.ItemStore.contents b own) (on g.S.ItemStore.contents e own) kept.kept c.in-Some.id
          (subst (λ (x : Area). Removes (g.N.IdLayout.numbering x) (on g.S.ItemStore.contents b x) (on g.S.ItemStore.contents e x) c.in-Some.id) kept.area (step.one.ends.removes refl))
          (subst (λ (x : Area). KeepsEach (g.N.IdLayout.numbering x) (on g.S.ItemStore.contents b x) (on g.S.ItemStore.contents e x)) kept.area step.one.keeps.kept)
          (λ is. ap (λ (d : Device). on g.S.ItemStore.contents d own) (step.one.ends.idle (subst (λ (x : Area). IsKept (g.N.IdLayout.numbering x) (on g.S.ItemStore.contents b x) c.in-Some.id) (sym kept.area) is)));
      gone = gone-then (on g.S.ItemStore.contents a own) (on g.S.ItemStore.contents b own) (on g.S.ItemStore.contents e own) kept.gone
          (subst (λ (x : Area). OnlyRemoves (on g.S.ItemStore.contents b x) (on g.S.ItemStore.contents e x)) kept.area step.one.keeps.gone);
      ahead = ahead-step (on g.S.ItemStore.contents a own) (on g.S.ItemStore.contents b own) (on g.S.ItemStore.contents e own) c.in-Some.id
          (subst (λ (x : Area). AltersOnly (on g.S.ItemStore.contents b x) (on g.S.ItemStore.contents e x) c.in-Some.id) kept.area step.one.ends.others)
          (subst (λ (o : Option ℕ). StaysAhead (on g.S.ItemStore.contents a own) (on g.S.ItemStore.contents b own) o) c.in-Some.is kept.ahead)
          c.next_by-at-in-Some.result
          (subst (λ (x : Area). IsNextId (on g.S.ItemStore.contents e x) (Some c.in-Some.id) c.next_by-at-in-Some.result) area c.next_by-at-in-Some.ensures.next);
      same = λ clean.
          let same = kept.same clean in
          step.one.ends.rests (subst (λ (x : Area). HasNoOrphans (g.N.IdLayout.numbering x) (on g.S.ItemStore.contents b x)) (sym kept.area) (subst (λ (d : Device). HasNoOrphans (g.N.IdLayout.numbering own) (on g.S.ItemStore.contents d own)) (sym same) clean)) ∙ same;
      written = λ blank. kept.written (subst (λ (x : Area). StaysWritten b e x) kept.area step.written blank);
      so_far = orphans-step (g.N.IdLayout.numbering own) (on g.S.ItemStore.contents b own) (on g.S.ItemStore.contents e own) c.in-Some.id c.next_by-at-in-Some.result
          (subst (λ (x : Area). Removes (g.N.IdLayout.numbering x) (on g.S.ItemStore.contents b x) (on g.S.ItemStore.contents e x) c.in-Some.id) kept.area (step.one.ends.removes refl))
          (subst (λ (x : Area). IsNextId (on g.S.ItemStore.contents e x) (Some c.in-Some.id) c.next_by-at-in-Some.result) area c.next_by-at-in-Some.ensures.next)
          (subst (λ (o : Option ℕ). HasNoneBefore (g.N.IdLayout.numbering own) (on g.S.ItemStore.contents b own) o) c.in-Some.is kept.so_far);
      per_item = per-then (removal_units (geometry_of a own)) a b e (on g.S.ItemStore.contents a own) (on g.S.ItemStore.contents b own) kept.per_item (on g.S.ItemStore.contents e own)
          (subst (λ (k : Geometry). SpendsPerItem (removal_units k) b e (on g.S.ItemStore.contents b own) (on g.S.ItemStore.contents e own)) (geometry-stays a b own kept.touches.banks)
          (subst (λ (x : Area). SpendsPerItem (removal_units (geometry_of b x)) b e (on g.S.ItemStore.contents b x) (on g.S.ItemStore.contents e x)) kept.area (step.one.units.per_item refl)));
      gone_so_far = λ orphans only.
          let costs = delete_units g.S.ItemStore.removal g.S.ItemStore.entry g.S.ItemStore.roomy in
          removes-next (g.N.IdLayout.numbering own) (next_delete (costs a own)) (g.S.ItemStore.removal (geometry_of a own)) a b e (on g.S.ItemStore.contents b own) (on g.S.ItemStore.contents e own) orphans c.in-Some.id (kept.gone_so_far orphans only)
          (λ start. subst (λ (x : Device). OrphansIn (g.N.IdLayout.numbering own) (on g.S.ItemStore.contents x own) orphans) (sym start) only)
          (λ is. step.one.ends.idle (subst (λ (x : Area). IsKept (g.N.IdLayout.numbering x) (on g.S.ItemStore.contents b x) c.in-Some.id) (sym kept.area) is))
          (λ none. step.one.ends.absent (subst (λ (x : Area). get (on g.S.ItemStore.contents b x) c.in-Some.id ≡ None) (sym kept.area) none))
          (subst (λ (k : Geometry). SpendsAtMost b e (g.S.ItemStore.removal k)) (geometry-stays a b own kept.touches.banks)
          (subst (λ (x : Area). SpendsAtMost b e (g.S.ItemStore.removal (geometry_of b x))) kept.area step.one.units.one))
          (λ start. subst (λ (x : Device). SpendsAtMost b e (next_delete (costs x own))) start
          (subst (λ (x : Area). SpendsAtMost b e (next_delete (costs b x))) kept.area step.one.units.next))
          (λ same. ap (λ (x : Device). on g.S.ItemStore.contents x own) same)
          (subst (λ (x : Area). (get (on g.S.ItemStore.contents e x) c.in-Some.id ≡ None) ⊎ IsKept (g.N.IdLayout.numbering x) (on g.S.ItemStore.contents e x) c.in-Some.id) kept.area (step.one.ends.removes refl).done)
          (subst (λ (x : Area). AltersOnly (on g.S.ItemStore.contents b x) (on g.S.ItemStore.contents e x) c.in-Some.id) kept.area step.one.ends.others)
          (subst (λ (x : Area). StaysKept (g.N.IdLayout.numbering x) (on g.S.ItemStore.contents b x) (on g.S.ItemStore.contents e x)) kept.area step.one.ends.still);
      saw = saw-next (g.N.IdLayout.numbering own) (on g.S.ItemStore.contents e own) c.remove_next.new.seen.words c.in-Some.id c.next_by-at-in-Some.result
          (subst (λ (x : Area). SawBelow (g.N.IdLayout.numbering x) (on g.S.ItemStore.contents e x) c.remove_next.new.seen.words (c.in-Some.id + 1)) kept.area (step.saw refl))
          (subst (λ (x : Area). IsNextId (on g.S.ItemStore.contents e x) (Some c.in-Some.id) c.next_by-at-in-Some.result) area c.next_by-at-in-Some.ensures.next);
      known = IfSome_then c.next_by-at-in-Some.result c.next_by-at-in-Some.ensures.known (λ id is. c.requires.ids.only id is);
    }

pub loop-at-smaller : goal.loop-at-smaller
loop-at-smaller g c =
    let e : Device = g.F.Flash.device c.remove_next.new.flash in
    let known : IfSome c.next_by-at-in-Some.result (λ id. id < g.N.IdLayout.top) = IfSome_then c.next_by-at-in-Some.result c.next_by-at-in-Some.ensures.known (λ id is. c.requires.ids.only id is) in
    subst (λ (o : Option ℕ). ids_left c.next_by-at-in-Some.result < ids_left o) (sym c.in-Some.is)
    (left-smaller g.N.IdLayout.top (on g.S.ItemStore.contents e (g.S.ItemStore.mounted_on c.remove_next.new.store)) c.in-Some.id c.next_by-at-in-Some.result g.met.N.IdLayout.top_small known
    (subst (λ (o : Option ℕ). IfSome o (λ id. id < g.N.IdLayout.top)) c.in-Some.is c.loop-at.invariant.known) c.next_by-at-in-Some.ensures.next)

pub returns-in_err-remove_next : goal.returns-in_err-remove_next
returns-in_err-remove_next g c = record {
  touches = let b : Device = g.F.Flash.device c.loop-at.flash in
      let e : Device = g.F.Flash.device c.remove_next.new.flash in
      let kept = c.loop-at.invariant in
      subst (λ (lost : Bool). Touches (g.S.ItemStore.mounted_on c.args.store.now ∷ []) (g.F.Flash.device c.args.flash.now) e lost) (sym c.from_residual.ensures.0) (then kept.touches (subst (λ (x : Area). Touches (x ∷ []) b e true) kept.area c.in_err-remove_next.ensures.touches));
  rests = λ clean.
      let b : Device = g.F.Flash.device c.loop-at.flash in
      let own : Area = g.S.ItemStore.mounted_on c.args.store.now in
      let kept = c.loop-at.invariant in
      let same = kept.same clean in
      c.in_err-remove_next.ensures.one.ends.rests (subst (λ (x : Area). HasNoOrphans (g.N.IdLayout.numbering x) (on g.S.ItemStore.contents b x)) (sym kept.area) (subst (λ (d : Device). HasNoOrphans (g.N.IdLayout.numbering own) (on g.S.ItemStore.contents d own)) (sym same) clean)) ∙ same;
  units = let a : Device = g.F.Flash.device c.args.flash.now in
      let b : Device = g.F.Flash.device c.loop-at.flash in
      let e : Device = g.F.Flash.device c.remove_next.new.flash in
      let own : Area = g.S.ItemStore.mounted_on c.args.store.now in
      let kept = c.loop-at.invariant in
      let step = c.in_err-remove_next.ensures in
      let costs = delete_units g.S.ItemStore.removal g.S.ItemStore.entry g.S.ItemStore.roomy in
      record {
        at_most = per-cut (removal_units (geometry_of a own)) a b e (on g.S.ItemStore.contents a own) (on g.S.ItemStore.contents b own) kept.per_item c.in-Some.id
            (subst (λ (x : Area). ¬ (get (on g.S.ItemStore.contents b x) c.in-Some.id ≡ None)) kept.area (c.in_err-remove_next.ensures.one.ends.present refl))
            (subst (λ (k : Geometry). SpendsAtMost b e (removal_units k)) (geometry-stays a b own kept.touches.banks)
            (subst (λ (x : Area). SpendsAtMost b e (removal_units (geometry_of b x))) kept.area step.one.units.at_most));
        few = λ orphans only.
            orphans-cut (g.N.IdLayout.numbering own) (next_delete (costs a own)) (g.S.ItemStore.removal (geometry_of a own)) a b e (on g.S.ItemStore.contents b own) (on g.S.ItemStore.contents e own) orphans c.in-Some.id (kept.gone_so_far orphans only)
            (λ start. subst (λ (x : Device). OrphansIn (g.N.IdLayout.numbering own) (on g.S.ItemStore.contents x own) orphans) (sym start) only)
            (λ is. step.one.ends.idle (subst (λ (x : Area). IsKept (g.N.IdLayout.numbering x) (on g.S.ItemStore.contents b x) c.in-Some.id) (sym kept.area) is))
            (λ none. step.one.ends.absent (subst (λ (x : Area). get (on g.S.ItemStore.contents b x) c.in-Some.id ≡ None) (sym kept.area) none))
            (subst (λ (k : Geometry). SpendsAtMost b e (g.S.ItemStore.removal k)) (geometry-stays a b own kept.touches.banks)
            (subst (λ (x : Area). SpendsAtMost b e (g.S.ItemStore.removal (geometry_of b x))) kept.area step.one.units.one))
            (λ start. subst (λ (x : Device). SpendsAtMost b e (next_delete (costs x own))) start
            (subst (λ (x : Area). SpendsAtMost b e (next_delete (costs b x))) kept.area step.one.units.next));
      };
  written = λ blank.
      let b : Device = g.F.Flash.device c.loop-at.flash in
      let e : Device = g.F.Flash.device c.remove_next.new.flash in
      c.loop-at.invariant.written (subst (λ (x : Area). StaysWritten b e x) c.loop-at.invariant.area c.in_err-remove_next.ensures.written blank);
  store = let e : Device = g.F.Flash.device c.remove_next.new.flash in
      let step = c.in_err-remove_next.ensures in
      record {
        area = step.store.area ∙ c.loop-at.invariant.area;
        sound = subst (λ (x : Area). on g.S.ItemStore.damage e x ≡ None) c.loop-at.invariant.area step.store.sound;
        up = λ kept. absurd (false≢true (sym kept ∙ c.from_residual.ensures.0));
        down = λ lost. step.store.down refl;
      };
  keeps = let a : Device = g.F.Flash.device c.args.flash.now in
      let b : Device = g.F.Flash.device c.loop-at.flash in
      let e : Device = g.F.Flash.device c.remove_next.new.flash in
      let own : Area = g.S.ItemStore.mounted_on c.args.store.now in
      let kept = c.loop-at.invariant in
      let step = c.in_err-remove_next.ensures in
      record {
        settings = subst (λ (x : Area). settings_in (g.N.IdLayout.numbering x) (on g.S.ItemStore.contents e x) ≡ settings_in (g.N.IdLayout.numbering x) (on g.S.ItemStore.contents b x)) kept.area step.one.keeps.settings ∙ kept.keeps;
        kept = kept-more (g.N.IdLayout.numbering own) (on g.S.ItemStore.contents a own) (on g.S.ItemStore.contents b own) (on g.S.ItemStore.contents e own) kept.kept (subst (λ (x : Area). KeepsEach (g.N.IdLayout.numbering x) (on g.S.ItemStore.contents b x) (on g.S.ItemStore.contents e x)) kept.area c.in_err-remove_next.ensures.one.keeps.kept);
        still = λ id is. subst (λ (x : Area). StaysKept (g.N.IdLayout.numbering x) (on g.S.ItemStore.contents b x) (on g.S.ItemStore.contents e x)) kept.area step.one.ends.still id (kept.kept id is).0;
        gone = gone-then (on g.S.ItemStore.contents a own) (on g.S.ItemStore.contents b own) (on g.S.ItemStore.contents e own) kept.gone (subst (λ (x : Area). OnlyRemoves (on g.S.ItemStore.contents b x) (on g.S.ItemStore.contents e x)) kept.area c.in_err-remove_next.ensures.one.keeps.gone);
      };
  ends = let a : Device = g.F.Flash.device c.args.flash.now in
      let b : Device = g.F.Flash.device c.loop-at.flash in
      let e : Device = g.F.Flash.device c.remove_next.new.flash in
      let own : Area = g.S.ItemStore.mounted_on c.args.store.now in
      let kept = c.loop-at.invariant in
      let n = g.N.IdLayout.numbering own in
      let stops : StopsAt n (on g.S.ItemStore.contents a own) (on g.S.ItemStore.contents e own) c.in-Some.id =
      stops-at (on g.S.ItemStore.contents a own) (on g.S.ItemStore.contents b own) (on g.S.ItemStore.contents e own) c.in-Some.id
      (subst (λ (x : Area). AltersOnly (on g.S.ItemStore.contents b x) (on g.S.ItemStore.contents e x) c.in-Some.id) kept.area c.in_err-remove_next.ensures.one.ends.others)
      (subst (λ (o : Option ℕ). StaysAhead (on g.S.ItemStore.contents a own) (on g.S.ItemStore.contents b own) o) c.in-Some.is kept.ahead)
      n
      (subst (λ (x : Area). StaysKept (g.N.IdLayout.numbering x) (on g.S.ItemStore.contents b x) (on g.S.ItemStore.contents e x)) kept.area c.in_err-remove_next.ensures.one.ends.still)
      (subst (λ (o : Option ℕ). HasNoneBefore n (on g.S.ItemStore.contents b own) o) c.in-Some.is kept.so_far) in
      removal-cut n (on g.S.ItemStore.contents a own) (on g.S.ItemStore.contents e own) c.from_residual.result c.from_residual.ensures.0 (c.in-Some.id, stops);
}

pub returns : goal.returns
returns g c = record {
  units = let a : Device = g.F.Flash.device c.args.flash.now in
      let b : Device = g.F.Flash.device c.loop-at.flash in
      let own : Area = g.S.ItemStore.mounted_on c.args.store.now in
      record {
        at_most = per-most (removal_units (geometry_of a own)) a b (on g.S.ItemStore.contents a own) (on g.S.ItemStore.contents b own) c.loop-at.invariant.per_item;
        few = λ orphans only.
            orphans-whole (g.N.IdLayout.numbering own) (next_delete (delete_units g.S.ItemStore.removal g.S.ItemStore.entry g.S.ItemStore.roomy a own)) (g.S.ItemStore.removal (geometry_of a own)) a b (on g.S.ItemStore.contents b own) orphans (c.loop-at.invariant.gone_so_far orphans only);
      };
  store = record {
    area = c.loop-at.invariant.area;
    sound = c.loop-at.invariant.sound;
    up = λ kept. c.loop-at.invariant.stands;
    down = λ lost. absurd (false≢true lost);
  };
  keeps = record {
    settings = c.loop-at.invariant.keeps;
    kept = λ id is. (c.loop-at.invariant.kept id is).1;
    still = λ id is. (c.loop-at.invariant.kept id is).0;
    gone = c.loop-at.invariant.gone;
  };
  ends = let b : Device = g.F.Flash.device c.loop-at.flash in
      let own : Area = g.S.ItemStore.mounted_on c.args.store.now in
      orphans-end (g.N.IdLayout.numbering own) (on g.S.ItemStore.contents b own) (subst (λ (o : Option ℕ). HasNoneBefore (g.N.IdLayout.numbering own) (on g.S.ItemStore.contents b own) o) c.in_default.is c.loop-at.invariant.so_far);
  touches = c.loop-at.invariant.touches;
  written = c.loop-at.invariant.written;
  rests = c.loop-at.invariant.same;
}

pub fill_index-requires : goal.fill_index-requires
fill_index-requires g c = record { lawful = c.requires.lawful; stands = c.requires.stands }

pub next_by-at-requires : goal.next_by-at-requires
next_by-at-requires g c = record { lawful = c.requires.lawful; stands = c.requires.stands; describes = c.fill_index.ensures }

pub next_by-at-requires-in-Some : goal.next_by-at-requires-in-Some
next_by-at-requires-in-Some g c =
    let kept = c.loop-at.invariant in
    let step = c.in_ok-remove_next.ensures in
    record {
      lawful = moved-lawful (g.S.ItemStore.mounted_on c.args.store.now) (g.S.ItemStore.mounted_on c.remove_next.new.store) (step.store.area ∙ kept.area) (g.F.Flash.device c.args.flash.now) (g.F.Flash.device c.remove_next.new.flash) (step.touches.banks ∙ kept.touches.banks) c.requires.lawful;
      stands = step.store.up refl;
      describes = step.describes refl;
    }
