use Rattle.std.proofs.Common.{◌≡◌, ◌⊎◌, ℕ, List, inl, inr, refl, sym, ap, subst, ◌∙◌, arith, ◌∷◌, []}
use Rattle.std.proofs.lemmas.Result.{on_ok_weaker, on_err_weaker}
use Rattle.flash_sim.specs.Device.{Device}
use Rattle.flash_map.specs.declared.area.Area.{Area}
use Rattle.flash_map.specs.Area.{geometry_of, sectors_of, sector_at, ChangesOnly}
use Rattle.flash_map.proofs.PieceLemmas.{on_err}
use Rattle.flash_map.proofs.SpendingBounds.{between_none}
use Rattle.item_laws.specs.Area.{next}
use Rattle.item_laws.specs.Forms.{IsForm}
use Rattle.item_laws.proofs.AreaReads.{next_there, length-sectors}
use Rattle.item_store.specs.SectorFormat.{IsSectorFormat}
use Rattle.item_store.specs.Steps.{Clears, StopsClearing}
use Rattle.item_store.specs.Standing.{list_of, SpendsIn, SpendsUpTo}
use Rattle.item_store.specs.Collecting.{redo_list, redo_units}
use Rattle.item_store.specs.declared.entry.Redo.{Redo}
use Rattle.item_store.proofs.Areas.{keeps_none, unit_is, open_inside, form_here}
use Rattle.item_store.proofs.CopyLoop.{either}
use Rattle.std.specs.Prelude.{OnOk, OnErr}
use Rattle.item_store.proofs.Areas.{only_else}
use Rattle.item_laws.proofs.Places.{after-apart}
use Rattle.item_store.proofs.CollectSteps.{rest_from, collecting_from, collected_from, redo-at_rest, redo-collecting, not_again, not_next, next_not_again, victim_emptied, victim_cut_keeps}
use Rattle.item_store.proofs.ListSteps.{whole-list, emptied-list, victim_cut-list}
use Rattle.item_store.proofs.WrittenSteps.{victim-written}
use Rattle.item_store.proofs.MarkFacts.{victim-marks}
use Rattle.flash_map.proofs.Touches.{untouched}
use Rattle.item_store.proofs.collecting.redo.Goals as goal

pub what_to_redo-requires : goal.what_to_redo-requires
what_to_redo-requires g c =
    let a : Device = g.F.Flash.device c.args.flash.now in
    let area : Area = c.args.area.now in
    let place : ℕ = c.args.current in
    let within = open_inside (g.T.SlotSectors.format_of (geometry_of a area)) a area place c.requires.area.lawful c.requires.current in
    record {
      area = c.requires.area;
      kept = c.requires.kept;
      within = within;
    }

pub next-requires : goal.next-requires
next-requires g c =
    let a : Device = g.F.Flash.device c.args.flash.now in
    let area : Area = c.args.area.now in
    let place : ℕ = c.args.current in
    let within = open_inside (g.T.SlotSectors.format_of (geometry_of a area)) a area place c.requires.area.lawful c.requires.current in
    within

pub clear-requires : goal.clear-requires
clear-requires g c =
    record {
      area = c.requires.area;
      inside = c.next.ensures.within;
    }

pub collect_again-requires : goal.collect_again-requires
collect_again-requires g c =
    let a : Device = g.F.Flash.device c.args.flash.now in
    let area : Area = c.args.area.now in
    let place : ℕ = c.args.current in
    let law : IsSectorFormat (g.T.SlotSectors.format_of (geometry_of a area)) = g.met.T.SlotSectors.lawful (geometry_of a area) (unit_is a area (g.met.F.Flash.is_lawful c.args.flash.now) c.requires.area.lawful) in
    let count = length-sectors a area in
    let form : IsForm (g.T.SlotSectors.format_of (geometry_of a area)).reading (sectors_of a area) place = form_here (g.T.SlotSectors.format_of (geometry_of a area)) law (sectors_of a area) place (omega (arith, c.requires.area.lawful.several)) c.requires.undamaged c.requires.current in
    let what = sym c.what_to_redo.ensures ∙ c.in-CollectAgain.is in
    record {
      area = c.requires.area;
      kept = c.requires.kept;
      collecting = collecting_from (g.T.SlotSectors.format_of (geometry_of a area)) law (sectors_of a area) place form what;
    }

pub returns-in-Nothing : goal.returns-in-Nothing
returns-in-Nothing g c =
    let a : Device = g.F.Flash.device c.args.flash.now in
    record {
      touches = untouched (c.args.area.now ∷ []) (g.F.Flash.device c.args.flash.now);
      items = keeps_none (g.T.SlotSectors.format_of (geometry_of a c.args.area.now)) (sectors_of a c.args.area.now) c.requires.undamaged;
      written = inl refl;
      same = λ _. refl;
      ends = record {
        rested =
            let a : Device = g.F.Flash.device c.args.flash.now in
            let area : Area = c.args.area.now in
            let place : ℕ = c.args.current in
            let law : IsSectorFormat (g.T.SlotSectors.format_of (geometry_of a area)) = g.met.T.SlotSectors.lawful (geometry_of a area) (unit_is a area (g.met.F.Flash.is_lawful c.args.flash.now) c.requires.area.lawful) in
            let count = length-sectors a area in
            let form : IsForm (g.T.SlotSectors.format_of (geometry_of a area)).reading (sectors_of a area) place = form_here (g.T.SlotSectors.format_of (geometry_of a area)) law (sectors_of a area) place (omega (arith, c.requires.area.lawful.several)) c.requires.undamaged c.requires.current in
            let what = sym c.what_to_redo.ensures ∙ c.in-Nothing.is in
            rest_from (g.T.SlotSectors.format_of (geometry_of a area)) law (sectors_of a area) place form what;
        list =
            let a : Device = g.F.Flash.device c.args.flash.now in
            let area : Area = c.args.area.now in
            let place : ℕ = c.args.current in
            let what = sym c.what_to_redo.ensures ∙ c.in-Nothing.is in
            ap (redo_list (g.T.SlotSectors.format_of (geometry_of a area)) (sectors_of a area) place) (sym what);
        list_lost = tt;
        busy = tt;
        empties =
            let a : Device = g.F.Flash.device c.args.flash.now in
            let area : Area = c.args.area.now in
            let place : ℕ = c.args.current in
            let law : IsSectorFormat (g.T.SlotSectors.format_of (geometry_of a area)) = g.met.T.SlotSectors.lawful (geometry_of a area) (unit_is a area (g.met.F.Flash.is_lawful c.args.flash.now) c.requires.area.lawful) in
            let count = length-sectors a area in
            let form : IsForm (g.T.SlotSectors.format_of (geometry_of a area)).reading (sectors_of a area) place = form_here (g.T.SlotSectors.format_of (geometry_of a area)) law (sectors_of a area) place (omega (arith, c.requires.area.lawful.several)) c.requires.undamaged c.requires.current in
            let what = sym c.what_to_redo.ensures ∙ c.in-Nothing.is in
            λ busy. absurd (busy (rest_from (g.T.SlotSectors.format_of (geometry_of a area)) law (sectors_of a area) place form what));
        collects =
            let a : Device = g.F.Flash.device c.args.flash.now in
            let area : Area = c.args.area.now in
            let place : ℕ = c.args.current in
            let law : IsSectorFormat (g.T.SlotSectors.format_of (geometry_of a area)) = g.met.T.SlotSectors.lawful (geometry_of a area) (unit_is a area (g.met.F.Flash.is_lawful c.args.flash.now) c.requires.area.lawful) in
            let what = sym c.what_to_redo.ensures ∙ c.in-Nothing.is in
            λ collecting. absurd (not_again (sym what ∙ redo-collecting (g.T.SlotSectors.format_of (geometry_of a area)) law (sectors_of a area) place collecting));
        kept = c.requires.kept;
        spends =
            let a : Device = g.F.Flash.device c.args.flash.now in
            let area : Area = c.args.area.now in
            let place : ℕ = c.args.current in
            let what = sym c.what_to_redo.ensures ∙ c.in-Nothing.is in
            subst (λ (what : Redo). SpendsIn a a (redo_units (g.T.SlotSectors.format_of (geometry_of a area)) (sectors_of a area) place what)) (sym what) (between_none a);
        spends_lost = tt;
      };
      marks = inl refl;
    }

pub returns-in-ClearNext : goal.returns-in-ClearNext
returns-in-ClearNext g c =
    let a : Device = g.F.Flash.device c.args.flash.now in
    let area : Area = c.args.area.now in
    let place : ℕ = c.args.current in
    let law : IsSectorFormat (g.T.SlotSectors.format_of (geometry_of a area)) = g.met.T.SlotSectors.lawful (geometry_of a area) (unit_is a area (g.met.F.Flash.is_lawful c.args.flash.now) c.requires.area.lawful) in
    let count = length-sectors a area in
    let form : IsForm (g.T.SlotSectors.format_of (geometry_of a area)).reading (sectors_of a area) place = form_here (g.T.SlotSectors.format_of (geometry_of a area)) law (sectors_of a area) place (omega (arith, c.requires.area.lawful.several)) c.requires.undamaged c.requires.current in
    let what = sym c.what_to_redo.ensures ∙ c.in-ClearNext.is in
    let d : Device = g.F.Flash.device c.clear.new.flash in
    let at : c.next.result ≡ next (sectors_of a area) place = c.next.ensures.value ∙ next_there a area place in
    let only : ChangesOnly (sectors_of a area) (sectors_of d area) (next (sectors_of a area) place) = subst (λ (v : ℕ). ChangesOnly (sectors_of a area) (sectors_of d area) v) at c.clear.ensures.only in
    let collected = collected_from (g.T.SlotSectors.format_of (geometry_of a area)) law (sectors_of a area) place form what in
    let emptied = λ (e : Clears (g.T.SlotSectors.format_of (geometry_of a area)) (sector_at (sectors_of a area) c.next.result) (sector_at (sectors_of d area) c.next.result)).
    victim_emptied (g.T.SlotSectors.format_of (geometry_of a area)) law (sectors_of a area) (sectors_of d area) place collected only (subst (λ (v : ℕ). Clears (g.T.SlotSectors.format_of (geometry_of a area)) (sector_at (sectors_of a area) v) (sector_at (sectors_of d area) v)) at e).clean in
    let stays = λ (e : StopsClearing (g.T.SlotSectors.format_of (geometry_of a area)) (sector_at (sectors_of a area) c.next.result) (sector_at (sectors_of d area) c.next.result)).
    victim_cut_keeps (g.T.SlotSectors.format_of (geometry_of a area)) law (sectors_of a area) (sectors_of d area) place collected only (subst (λ (v : ℕ). StopsClearing (g.T.SlotSectors.format_of (geometry_of a area)) (sector_at (sectors_of a area) v) (sector_at (sectors_of d area) v)) at e) in
    record {
      touches = c.clear.ensures.touches;
      items = either c.clear.result
          (on_ok_weaker c.clear.result (λ e. (emptied e).1) c.clear.ensures.clears)
          (on_err_weaker c.clear.result (λ e. stays e) c.clear.ensures.lost);
      written = inr (victim-written (g.T.SlotSectors.format_of (geometry_of a area)) law (sectors_of a area) (sectors_of d area) place collected only);
      same = λ rest. absurd (not_next (sym (redo-at_rest (g.T.SlotSectors.format_of (geometry_of a area)) law (sectors_of a area) place rest) ∙ what));
      ends = record {
        rested =
            let a : Device = g.F.Flash.device c.args.flash.now in
            let area : Area = c.args.area.now in
            let place : ℕ = c.args.current in
            let law : IsSectorFormat (g.T.SlotSectors.format_of (geometry_of a area)) = g.met.T.SlotSectors.lawful (geometry_of a area) (unit_is a area (g.met.F.Flash.is_lawful c.args.flash.now) c.requires.area.lawful) in
            let count = length-sectors a area in
            let form : IsForm (g.T.SlotSectors.format_of (geometry_of a area)).reading (sectors_of a area) place = form_here (g.T.SlotSectors.format_of (geometry_of a area)) law (sectors_of a area) place (omega (arith, c.requires.area.lawful.several)) c.requires.undamaged c.requires.current in
            let what = sym c.what_to_redo.ensures ∙ c.in-ClearNext.is in
            let d : Device = g.F.Flash.device c.clear.new.flash in
            let at : c.next.result ≡ next (sectors_of a area) place = c.next.ensures.value ∙ next_there a area place in
            let only : ChangesOnly (sectors_of a area) (sectors_of d area) (next (sectors_of a area) place) = subst (λ (v : ℕ). ChangesOnly (sectors_of a area) (sectors_of d area) v) at c.clear.ensures.only in
            let collected = collected_from (g.T.SlotSectors.format_of (geometry_of a area)) law (sectors_of a area) place form what in
            let emptied = λ (e : Clears (g.T.SlotSectors.format_of (geometry_of a area)) (sector_at (sectors_of a area) c.next.result) (sector_at (sectors_of d area) c.next.result)).
            victim_emptied (g.T.SlotSectors.format_of (geometry_of a area)) law (sectors_of a area) (sectors_of d area) place collected only (subst (λ (v : ℕ). Clears (g.T.SlotSectors.format_of (geometry_of a area)) (sector_at (sectors_of a area) v) (sector_at (sectors_of d area) v)) at e).clean in
            let stays = λ (e : StopsClearing (g.T.SlotSectors.format_of (geometry_of a area)) (sector_at (sectors_of a area) c.next.result) (sector_at (sectors_of d area) c.next.result)).
            victim_cut_keeps (g.T.SlotSectors.format_of (geometry_of a area)) law (sectors_of a area) (sectors_of d area) place collected only (subst (λ (v : ℕ). StopsClearing (g.T.SlotSectors.format_of (geometry_of a area)) (sector_at (sectors_of a area) v) (sector_at (sectors_of d area) v)) at e) in
            on_ok_weaker c.clear.result (λ e. (emptied e).0) c.clear.ensures.clears;
        list =
            let a : Device = g.F.Flash.device c.args.flash.now in
            let area : Area = c.args.area.now in
            let place : ℕ = c.args.current in
            let law : IsSectorFormat (g.T.SlotSectors.format_of (geometry_of a area)) = g.met.T.SlotSectors.lawful (geometry_of a area) (unit_is a area (g.met.F.Flash.is_lawful c.args.flash.now) c.requires.area.lawful) in
            let count = length-sectors a area in
            let form : IsForm (g.T.SlotSectors.format_of (geometry_of a area)).reading (sectors_of a area) place = form_here (g.T.SlotSectors.format_of (geometry_of a area)) law (sectors_of a area) place (omega (arith, c.requires.area.lawful.several)) c.requires.undamaged c.requires.current in
            let what = sym c.what_to_redo.ensures ∙ c.in-ClearNext.is in
            let d : Device = g.F.Flash.device c.clear.new.flash in
            let at : c.next.result ≡ next (sectors_of a area) place = c.next.ensures.value ∙ next_there a area place in
            let only : ChangesOnly (sectors_of a area) (sectors_of d area) (next (sectors_of a area) place) = subst (λ (v : ℕ). ChangesOnly (sectors_of a area) (sectors_of d area) v) at c.clear.ensures.only in
            let collected = collected_from (g.T.SlotSectors.format_of (geometry_of a area)) law (sectors_of a area) place form what in
            subst (λ (what : Redo). OnOk c.clear.result (list_of (g.T.SlotSectors.format_of (geometry_of a area)) (sectors_of d area) ≡ redo_list (g.T.SlotSectors.format_of (geometry_of a area)) (sectors_of a area) place what)) (sym what)
            (on_ok_weaker c.clear.result
            (λ e. emptied-list (g.T.SlotSectors.format_of (geometry_of a area)) law (sectors_of a area) (sectors_of d area) place collected only (subst (λ (v : ℕ). Clears (g.T.SlotSectors.format_of (geometry_of a area)) (sector_at (sectors_of a area) v) (sector_at (sectors_of d area) v)) at e).clean)
            c.clear.ensures.clears);
        list_lost =
            let a : Device = g.F.Flash.device c.args.flash.now in
            let area : Area = c.args.area.now in
            let place : ℕ = c.args.current in
            let law : IsSectorFormat (g.T.SlotSectors.format_of (geometry_of a area)) = g.met.T.SlotSectors.lawful (geometry_of a area) (unit_is a area (g.met.F.Flash.is_lawful c.args.flash.now) c.requires.area.lawful) in
            let count = length-sectors a area in
            let form : IsForm (g.T.SlotSectors.format_of (geometry_of a area)).reading (sectors_of a area) place = form_here (g.T.SlotSectors.format_of (geometry_of a area)) law (sectors_of a area) place (omega (arith, c.requires.area.lawful.several)) c.requires.undamaged c.requires.current in
            let what = sym c.what_to_redo.ensures ∙ c.in-ClearNext.is in
            let d : Device = g.F.Flash.device c.clear.new.flash in
            let at : c.next.result ≡ next (sectors_of a area) place = c.next.ensures.value ∙ next_there a area place in
            let only : ChangesOnly (sectors_of a area) (sectors_of d area) (next (sectors_of a area) place) = subst (λ (v : ℕ). ChangesOnly (sectors_of a area) (sectors_of d area) v) at c.clear.ensures.only in
            let collected = collected_from (g.T.SlotSectors.format_of (geometry_of a area)) law (sectors_of a area) place form what in
            on_err_weaker c.clear.result
            (λ e. inl (victim_cut-list (g.T.SlotSectors.format_of (geometry_of a area)) law (sectors_of a area) (sectors_of d area) place collected only (subst (λ (v : ℕ). StopsClearing (g.T.SlotSectors.format_of (geometry_of a area)) (sector_at (sectors_of a area) v) (sector_at (sectors_of d area) v)) at e)))
            c.clear.ensures.lost;
        busy =
            let a : Device = g.F.Flash.device c.args.flash.now in
            let area : Area = c.args.area.now in
            let place : ℕ = c.args.current in
            let law : IsSectorFormat (g.T.SlotSectors.format_of (geometry_of a area)) = g.met.T.SlotSectors.lawful (geometry_of a area) (unit_is a area (g.met.F.Flash.is_lawful c.args.flash.now) c.requires.area.lawful) in
            let count = length-sectors a area in
            let form : IsForm (g.T.SlotSectors.format_of (geometry_of a area)).reading (sectors_of a area) place = form_here (g.T.SlotSectors.format_of (geometry_of a area)) law (sectors_of a area) place (omega (arith, c.requires.area.lawful.several)) c.requires.undamaged c.requires.current in
            let what = sym c.what_to_redo.ensures ∙ c.in-ClearNext.is in
            on_err c.clear.result (λ rest. not_next (sym (redo-at_rest (g.T.SlotSectors.format_of (geometry_of a area)) law (sectors_of a area) place rest) ∙ what));
        empties =
            let a : Device = g.F.Flash.device c.args.flash.now in
            let area : Area = c.args.area.now in
            let place : ℕ = c.args.current in
            let d : Device = g.F.Flash.device c.clear.new.flash in
            let at : c.next.result ≡ next (sectors_of a area) place = c.next.ensures.value ∙ next_there a area place in
            on_ok_weaker c.clear.result (λ clears busy. subst (λ (v : ℕ). Clears (g.T.SlotSectors.format_of (geometry_of a area)) (sector_at (sectors_of a area) v) (sector_at (sectors_of d area) v)) at clears) c.clear.ensures.clears;
        collects =
            let a : Device = g.F.Flash.device c.args.flash.now in
            let area : Area = c.args.area.now in
            let place : ℕ = c.args.current in
            let law : IsSectorFormat (g.T.SlotSectors.format_of (geometry_of a area)) = g.met.T.SlotSectors.lawful (geometry_of a area) (unit_is a area (g.met.F.Flash.is_lawful c.args.flash.now) c.requires.area.lawful) in
            let count = length-sectors a area in
            let form : IsForm (g.T.SlotSectors.format_of (geometry_of a area)).reading (sectors_of a area) place = form_here (g.T.SlotSectors.format_of (geometry_of a area)) law (sectors_of a area) place (omega (arith, c.requires.area.lawful.several)) c.requires.undamaged c.requires.current in
            let what = sym c.what_to_redo.ensures ∙ c.in-ClearNext.is in
            on_ok_weaker c.clear.result (λ e collecting. absurd (next_not_again (sym what ∙ redo-collecting (g.T.SlotSectors.format_of (geometry_of a area)) law (sectors_of a area) place collecting))) c.clear.ensures.clears;
        kept =
            let a : Device = g.F.Flash.device c.args.flash.now in
            let area : Area = c.args.area.now in
            let place : ℕ = c.args.current in
            let law : IsSectorFormat (g.T.SlotSectors.format_of (geometry_of a area)) = g.met.T.SlotSectors.lawful (geometry_of a area) (unit_is a area (g.met.F.Flash.is_lawful c.args.flash.now) c.requires.area.lawful) in
            let count = length-sectors a area in
            let form : IsForm (g.T.SlotSectors.format_of (geometry_of a area)).reading (sectors_of a area) place = form_here (g.T.SlotSectors.format_of (geometry_of a area)) law (sectors_of a area) place (omega (arith, c.requires.area.lawful.several)) c.requires.undamaged c.requires.current in
            let what = sym c.what_to_redo.ensures ∙ c.in-ClearNext.is in
            let d : Device = g.F.Flash.device c.clear.new.flash in
            let at : c.next.result ≡ next (sectors_of a area) place = c.next.ensures.value ∙ next_there a area place in
            let only : ChangesOnly (sectors_of a area) (sectors_of d area) (next (sectors_of a area) place) = subst (λ (v : ℕ). ChangesOnly (sectors_of a area) (sectors_of d area) v) at c.clear.ensures.only in
            let collected = collected_from (g.T.SlotSectors.format_of (geometry_of a area)) law (sectors_of a area) place form what in
            let emptied = λ (e : Clears (g.T.SlotSectors.format_of (geometry_of a area)) (sector_at (sectors_of a area) c.next.result) (sector_at (sectors_of d area) c.next.result)).
            victim_emptied (g.T.SlotSectors.format_of (geometry_of a area)) law (sectors_of a area) (sectors_of d area) place collected only (subst (λ (v : ℕ). Clears (g.T.SlotSectors.format_of (geometry_of a area)) (sector_at (sectors_of a area) v) (sector_at (sectors_of d area) v)) at e).clean in
            let stays = λ (e : StopsClearing (g.T.SlotSectors.format_of (geometry_of a area)) (sector_at (sectors_of a area) c.next.result) (sector_at (sectors_of d area) c.next.result)).
            victim_cut_keeps (g.T.SlotSectors.format_of (geometry_of a area)) law (sectors_of a area) (sectors_of d area) place collected only (subst (λ (v : ℕ). StopsClearing (g.T.SlotSectors.format_of (geometry_of a area)) (sector_at (sectors_of a area) v) (sector_at (sectors_of d area) v)) at e) in
            let same = only_else (sectors_of a area) (sectors_of d area) (next (sectors_of a area) place) place only (λ (s : place ≡ next (sectors_of a area) place). after-apart _ place collected.ring.within collected.ring.several (sym s)) in
            on_ok_weaker c.clear.result (λ e. c.requires.kept ∙ ap (λ (b : List ℕ). g.T.SlotSectors.kept (geometry_of a area) b) (sym same)) c.clear.ensures.clears;
        spends =
            let a : Device = g.F.Flash.device c.args.flash.now in
            let area : Area = c.args.area.now in
            let place : ℕ = c.args.current in
            let law : IsSectorFormat (g.T.SlotSectors.format_of (geometry_of a area)) = g.met.T.SlotSectors.lawful (geometry_of a area) (unit_is a area (g.met.F.Flash.is_lawful c.args.flash.now) c.requires.area.lawful) in
            let count = length-sectors a area in
            let form : IsForm (g.T.SlotSectors.format_of (geometry_of a area)).reading (sectors_of a area) place = form_here (g.T.SlotSectors.format_of (geometry_of a area)) law (sectors_of a area) place (omega (arith, c.requires.area.lawful.several)) c.requires.undamaged c.requires.current in
            let what = sym c.what_to_redo.ensures ∙ c.in-ClearNext.is in
            let d : Device = g.F.Flash.device c.clear.new.flash in
            let at : c.next.result ≡ next (sectors_of a area) place = c.next.ensures.value ∙ next_there a area place in
            subst (λ (what : Redo). OnOk c.clear.result (SpendsIn a d (redo_units (g.T.SlotSectors.format_of (geometry_of a area)) (sectors_of a area) place what))) (sym what)
            (subst (λ (v : ℕ). OnOk c.clear.result (SpendsIn a d ((g.T.SlotSectors.format_of (geometry_of a area)).units.clear (sector_at (sectors_of a area) v)))) at c.clear.ensures.spends);
        spends_lost =
            let a : Device = g.F.Flash.device c.args.flash.now in
            let area : Area = c.args.area.now in
            let place : ℕ = c.args.current in
            let law : IsSectorFormat (g.T.SlotSectors.format_of (geometry_of a area)) = g.met.T.SlotSectors.lawful (geometry_of a area) (unit_is a area (g.met.F.Flash.is_lawful c.args.flash.now) c.requires.area.lawful) in
            let count = length-sectors a area in
            let form : IsForm (g.T.SlotSectors.format_of (geometry_of a area)).reading (sectors_of a area) place = form_here (g.T.SlotSectors.format_of (geometry_of a area)) law (sectors_of a area) place (omega (arith, c.requires.area.lawful.several)) c.requires.undamaged c.requires.current in
            let what = sym c.what_to_redo.ensures ∙ c.in-ClearNext.is in
            let d : Device = g.F.Flash.device c.clear.new.flash in
            let at : c.next.result ≡ next (sectors_of a area) place = c.next.ensures.value ∙ next_there a area place in
            subst (λ (what : Redo). OnErr c.clear.result (SpendsUpTo a d (redo_units (g.T.SlotSectors.format_of (geometry_of a area)) (sectors_of a area) place what))) (sym what)
            (subst (λ (v : ℕ). OnErr c.clear.result (SpendsUpTo a d ((g.T.SlotSectors.format_of (geometry_of a area)).units.clear (sector_at (sectors_of a area) v)))) at c.clear.ensures.spends_lost);
      };
      marks = victim-marks (g.T.SlotSectors.format_of (geometry_of a area)) (sectors_of a area) (sectors_of d area) place (collected_from (g.T.SlotSectors.format_of (geometry_of a area)) law (sectors_of a area) place form what) only;
    }

pub returns-in-CollectAgain : goal.returns-in-CollectAgain
returns-in-CollectAgain g c =
    let a : Device = g.F.Flash.device c.args.flash.now in
    let area : Area = c.args.area.now in
    let place : ℕ = c.args.current in
    let law : IsSectorFormat (g.T.SlotSectors.format_of (geometry_of a area)) = g.met.T.SlotSectors.lawful (geometry_of a area) (unit_is a area (g.met.F.Flash.is_lawful c.args.flash.now) c.requires.area.lawful) in
    let count = length-sectors a area in
    let form : IsForm (g.T.SlotSectors.format_of (geometry_of a area)).reading (sectors_of a area) place = form_here (g.T.SlotSectors.format_of (geometry_of a area)) law (sectors_of a area) place (omega (arith, c.requires.area.lawful.several)) c.requires.undamaged c.requires.current in
    let what = sym c.what_to_redo.ensures ∙ c.in-CollectAgain.is in
    record {
      touches = c.collect_again.ensures.touches;
      items = c.collect_again.ensures.items;
      written = inr c.collect_again.ensures.written;
      same = λ rest. absurd (not_again (sym (redo-at_rest (g.T.SlotSectors.format_of (geometry_of a area)) law (sectors_of a area) place rest) ∙ what));
      ends = record {
        rested =
            let a : Device = g.F.Flash.device c.args.flash.now in
            let area : Area = c.args.area.now in
            let place : ℕ = c.args.current in
            let law : IsSectorFormat (g.T.SlotSectors.format_of (geometry_of a area)) = g.met.T.SlotSectors.lawful (geometry_of a area) (unit_is a area (g.met.F.Flash.is_lawful c.args.flash.now) c.requires.area.lawful) in
            on_ok_weaker c.collect_again.result (λ at. at.collects.form) c.collect_again.ensures.collects;
        list =
            let a : Device = g.F.Flash.device c.args.flash.now in
            let area : Area = c.args.area.now in
            let place : ℕ = c.args.current in
            let law : IsSectorFormat (g.T.SlotSectors.format_of (geometry_of a area)) = g.met.T.SlotSectors.lawful (geometry_of a area) (unit_is a area (g.met.F.Flash.is_lawful c.args.flash.now) c.requires.area.lawful) in
            let count = length-sectors a area in
            let form : IsForm (g.T.SlotSectors.format_of (geometry_of a area)).reading (sectors_of a area) place = form_here (g.T.SlotSectors.format_of (geometry_of a area)) law (sectors_of a area) place (omega (arith, c.requires.area.lawful.several)) c.requires.undamaged c.requires.current in
            let what = sym c.what_to_redo.ensures ∙ c.in-CollectAgain.is in
            let d : Device = g.F.Flash.device c.collect_again.new.flash in
            subst (λ (what : Redo). OnOk c.collect_again.result (list_of (g.T.SlotSectors.format_of (geometry_of a area)) (sectors_of d area) ≡ redo_list (g.T.SlotSectors.format_of (geometry_of a area)) (sectors_of a area) place what)) (sym what)
            (on_ok_weaker c.collect_again.result (λ at. whole-list (g.T.SlotSectors.format_of (geometry_of a area)) law (sectors_of a area) place (collecting_from (g.T.SlotSectors.format_of (geometry_of a area)) law (sectors_of a area) place form what) (sectors_of d area) at.collects) c.collect_again.ensures.collects);
        list_lost =
            let a : Device = g.F.Flash.device c.args.flash.now in
            let area : Area = c.args.area.now in
            let place : ℕ = c.args.current in
            let law : IsSectorFormat (g.T.SlotSectors.format_of (geometry_of a area)) = g.met.T.SlotSectors.lawful (geometry_of a area) (unit_is a area (g.met.F.Flash.is_lawful c.args.flash.now) c.requires.area.lawful) in
            let what = sym c.what_to_redo.ensures ∙ c.in-CollectAgain.is in
            let d : Device = g.F.Flash.device c.collect_again.new.flash in
            subst (λ (what : Redo). OnErr c.collect_again.result ((list_of (g.T.SlotSectors.format_of (geometry_of a area)) (sectors_of d area) ≡ list_of (g.T.SlotSectors.format_of (geometry_of a area)) (sectors_of a area)) ⊎ (list_of (g.T.SlotSectors.format_of (geometry_of a area)) (sectors_of d area) ≡ redo_list (g.T.SlotSectors.format_of (geometry_of a area)) (sectors_of a area) place what))) (sym what) c.collect_again.ensures.list_lost;
        busy =
            let a : Device = g.F.Flash.device c.args.flash.now in
            let area : Area = c.args.area.now in
            let place : ℕ = c.args.current in
            let law : IsSectorFormat (g.T.SlotSectors.format_of (geometry_of a area)) = g.met.T.SlotSectors.lawful (geometry_of a area) (unit_is a area (g.met.F.Flash.is_lawful c.args.flash.now) c.requires.area.lawful) in
            let what = sym c.what_to_redo.ensures ∙ c.in-CollectAgain.is in
            on_err c.collect_again.result (λ rest. not_again (sym (redo-at_rest (g.T.SlotSectors.format_of (geometry_of a area)) law (sectors_of a area) place rest) ∙ what));
        empties = on_ok_weaker c.collect_again.result (λ at busy. at.empties) c.collect_again.ensures.collects;
        collects = on_ok_weaker c.collect_again.result (λ at collecting. at) c.collect_again.ensures.collects;
        kept = c.collect_again.ensures.kept;
        spends =
            let a : Device = g.F.Flash.device c.args.flash.now in
            let area : Area = c.args.area.now in
            let place : ℕ = c.args.current in
            let what = sym c.what_to_redo.ensures ∙ c.in-CollectAgain.is in
            subst (λ (what : Redo). OnOk c.collect_again.result (SpendsIn a (g.F.Flash.device c.collect_again.new.flash) (redo_units (g.T.SlotSectors.format_of (geometry_of a area)) (sectors_of a area) place what))) (sym what) c.collect_again.ensures.spends;
        spends_lost =
            let a : Device = g.F.Flash.device c.args.flash.now in
            let area : Area = c.args.area.now in
            let place : ℕ = c.args.current in
            let what = sym c.what_to_redo.ensures ∙ c.in-CollectAgain.is in
            subst (λ (what : Redo). OnErr c.collect_again.result (SpendsUpTo a (g.F.Flash.device c.collect_again.new.flash) (redo_units (g.T.SlotSectors.format_of (geometry_of a area)) (sectors_of a area) place what))) (sym what) c.collect_again.ensures.spends_lost;
      };
      marks = c.collect_again.ensures.marks;
    }
