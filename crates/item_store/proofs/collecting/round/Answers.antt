use Rattle.std.proofs.Common.{◌≡◌, ℕ, cond, inl, inr, subst, ◌∙◌, arith, ◌∷◌, [], Bool, true, Result, Ok, Err, is_err, IfOk, sym}
use Rattle.flash_sim.specs.Device.{Device}
use Rattle.flash_map.specs.declared.area.Area.{Area}
use Rattle.flash_map.specs.Area.{geometry_of, sectors_of, sector_at}
use Rattle.flash_map.proofs.PieceLemmas.{on_err}
use Rattle.item_laws.specs.Area.{next}
use Rattle.item_laws.proofs.AreaReads.{next_there}
use Rattle.item_store.specs.SectorFormat.{SectorFormat, IsSectorFormat}
use Rattle.item_store.specs.Spending.{none, ready_units, again_with, has_victim, round_clear}
use Rattle.item_store.proofs.Areas.{unit_is, still_area}
use Rattle.item_store.proofs.Ranges.{first-lost}
use Rattle.item_store.proofs.RoundFacts.{open_within, open_sound, open_not_closed, close_lost, close_lost_list, next_form, next_unused, next_keeps, next_lost_list, next_turns, round_spends, round_spends_lost}
use Rattle.item_store.proofs.CallFacts.{no_ok, to_geometry}
use Rattle.item_laws.proofs.AreaReads.{length-sectors}
use Rattle.item_store.proofs.WrittenSteps.{close-written, close-changed}
use Rattle.item_store.proofs.WrittenFacts.{opened-written}
use Rattle.item_store.proofs.MarkFacts.{round-marks}
use Rattle.flash_map.specs.Touches.{Touches}
use Rattle.flash_map.proofs.Touches.{then}
use Rattle.std.proofs.lemmas.Bool.{false≢true}
use Rattle.item_store.proofs.collecting.round.Goals as goal

no_place : {E : Type 0} (P : ℕ → Type 0) (r : Result ℕ E) → is_err r ≡ true → IfOk r P
no_place P (Ok place) e = absurd (false≢true e)
no_place P (Err lost) e = tt

pub close-requires : goal.close-requires
close-requires g c =
    let a : Device = g.F.Flash.device c.args.flash.now in
    let area : Area = c.args.area.now in
    let place : ℕ = c.args.current in
    let law : IsSectorFormat (g.T.SlotSectors.format_of (geometry_of a area)) = g.met.T.SlotSectors.lawful (geometry_of a area) (unit_is a area (g.met.F.Flash.is_lawful c.args.flash.now) c.requires.stands.area.lawful) in
    record {
      area = c.requires.stands.area;
      inside = open_within g.T.SlotSectors.format_of g.T.SlotSectors.role a area place law (g.met.F.Flash.is_lawful c.args.flash.now) c.requires.stands.area c.requires.stands.undamaged c.requires.stands.current c.requires.stands.rested;
      kept = c.requires.stands.opened;
      opened = c.requires.stands.current;
      rested = c.requires.stands.rested;
      sound = open_sound g.T.SlotSectors.format_of g.T.SlotSectors.role a area place law (g.met.F.Flash.is_lawful c.args.flash.now) c.requires.stands.area c.requires.stands.undamaged c.requires.stands.current c.requires.stands.rested;
      not_closed = open_not_closed g.T.SlotSectors.format_of g.T.SlotSectors.role a area place law (g.met.F.Flash.is_lawful c.args.flash.now) c.requires.stands.area c.requires.stands.undamaged c.requires.stands.current c.requires.stands.rested;
      used = c.requires.used;
    }

pub returns-in_err-close : goal.returns-in_err-close
returns-in_err-close g c =
    let a : Device = g.F.Flash.device c.args.flash.now in
    let area : Area = c.args.area.now in
    let place : ℕ = c.args.current in
    let law : IsSectorFormat (g.T.SlotSectors.format_of (geometry_of a area)) = g.met.T.SlotSectors.lawful (geometry_of a area) (unit_is a area (g.met.F.Flash.is_lawful c.args.flash.now) c.requires.stands.area.lawful) in
    let b : Device = g.F.Flash.device c.close.new.flash in
    let within = (open_within g.T.SlotSectors.format_of g.T.SlotSectors.role a area place law (g.met.F.Flash.is_lawful c.args.flash.now) c.requires.stands.area c.requires.stands.undamaged c.requires.stands.current c.requires.stands.rested) in
    let count = length-sectors a area in
    let did = c.in_err-close.ensures.ends in
    record {
      touches = subst (λ (lost : Bool). Touches (c.args.area.now ∷ []) (g.F.Flash.device c.args.flash.now) (g.F.Flash.device c.close.new.flash) lost) (sym c.from_residual.ensures.0) (c.in_err-close.ensures.touches);
      opened = no_place _ c.from_residual.result c.from_residual.ensures.0;
      items = close_lost g.T.SlotSectors.format_of g.T.SlotSectors.role a area place law (g.met.F.Flash.is_lawful c.args.flash.now) c.requires.stands.area c.requires.stands.undamaged c.requires.stands.current c.requires.stands.rested b c.in_err-close.ensures.touches.banks c.in_err-close.ensures.ends.only c.in_err-close.ensures.ends.lost;
      written = close-written (g.T.SlotSectors.format_of (geometry_of a area)) law (sectors_of a area) (sectors_of b area) place c.in_err-close.ensures.ends.only (omega arith) c.in_err-close.ensures.ends.lost;
      changed = close-changed (g.T.SlotSectors.format_of (geometry_of a area)) law (sectors_of a area) (sectors_of b area) place c.in_err-close.ensures.ends.only (omega arith) c.in_err-close.ensures.ends.lost c.in_err-close.ensures.ends.blank_lost;
      ends = record {
        rested = no_ok c.from_residual.result _ c.from_residual.ensures.0;
        list_lost =
            let a : Device = g.F.Flash.device c.args.flash.now in
            let area : Area = c.args.area.now in
            let place : ℕ = c.args.current in
            let law : IsSectorFormat (g.T.SlotSectors.format_of (geometry_of a area)) = g.met.T.SlotSectors.lawful (geometry_of a area) (unit_is a area (g.met.F.Flash.is_lawful c.args.flash.now) c.requires.stands.area.lawful) in
            let b : Device = g.F.Flash.device c.close.new.flash in
            on_err c.from_residual.result (close_lost_list g.T.SlotSectors.format_of g.T.SlotSectors.role a area place law (g.met.F.Flash.is_lawful c.args.flash.now) c.requires.stands.area c.requires.stands.undamaged c.requires.stands.current c.requires.stands.rested b c.in_err-close.ensures.touches.banks c.in_err-close.ensures.ends.only c.in_err-close.ensures.ends.lost);
        kept = no_ok c.from_residual.result _ c.from_residual.ensures.0;
        does_pass = no_ok c.from_residual.result _ c.from_residual.ensures.0;
        spends = no_ok c.from_residual.result _ c.from_residual.ensures.0;
        spends_lost =
            let a : Device = g.F.Flash.device c.args.flash.now in
            let k : SectorFormat = g.T.SlotSectors.format_of (geometry_of a c.args.area.now) in
            let old = sectors_of a c.args.area.now in
            let opened = next old c.args.current in
            on_err c.from_residual.result
            (first-lost a (g.F.Flash.device c.close.new.flash) (k.units.close (sector_at old c.args.current)) (cond (has_victim k old c.args.current) (again_with k old opened (round_clear k old c.args.current)) (cond k.opens_ready (ready_units k old opened) none)) c.in_err-close.ensures.ends.spends_lost);
      };
      marks = inl (record { only = did.only; either = did.lost; blank = did.blank_lost });
    }

pub next-place-requires : goal.next-place-requires
next-place-requires g c =
    let a : Device = g.F.Flash.device c.args.flash.now in
    let area : Area = c.args.area.now in
    let place : ℕ = c.args.current in
    let law : IsSectorFormat (g.T.SlotSectors.format_of (geometry_of a area)) = g.met.T.SlotSectors.lawful (geometry_of a area) (unit_is a area (g.met.F.Flash.is_lawful c.args.flash.now) c.requires.stands.area.lawful) in
    open_within g.T.SlotSectors.format_of g.T.SlotSectors.role a area place law (g.met.F.Flash.is_lawful c.args.flash.now) c.requires.stands.area c.requires.stands.undamaged c.requires.stands.current c.requires.stands.rested

pub keep-requires : goal.keep-requires
keep-requires g c =
    record {
      area = still_area g.T.SlotSectors.role (g.F.Flash.device c.args.flash.now) (g.F.Flash.device c.close.new.flash) c.args.area.now c.in_ok-close.ensures.touches.banks c.requires.stands.area;
      inside = c.next-place.ensures.within;
    }

pub open_next-requires : goal.open_next-requires
open_next-requires g c =
    let a : Device = g.F.Flash.device c.args.flash.now in
    let area : Area = c.args.area.now in
    let place : ℕ = c.args.current in
    let law : IsSectorFormat (g.T.SlotSectors.format_of (geometry_of a area)) = g.met.T.SlotSectors.lawful (geometry_of a area) (unit_is a area (g.met.F.Flash.is_lawful c.args.flash.now) c.requires.stands.area.lawful) in
    let b : Device = g.F.Flash.device c.close.new.flash in
    let did = c.in_ok-close.ensures in
    let at : c.next-place.result ≡ next (sectors_of a area) place = c.next-place.ensures.value ∙ next_there a area place in
    record {
      area = still_area g.T.SlotSectors.role (g.F.Flash.device c.args.flash.now) (g.F.Flash.device c.close.new.flash) c.args.area.now c.in_ok-close.ensures.touches.banks c.requires.stands.area;
      kept = c.keep.ensures;
      form = next_form g.T.SlotSectors.format_of g.T.SlotSectors.role a area place law (g.met.F.Flash.is_lawful c.args.flash.now) c.requires.stands.area c.requires.stands.undamaged c.requires.stands.current c.requires.stands.rested b did.touches.banks did.ends.only did.ends.closes c.next-place.result at;
      blank = next_unused g.T.SlotSectors.format_of g.T.SlotSectors.role a area place law (g.met.F.Flash.is_lawful c.args.flash.now) c.requires.stands.area c.requires.stands.undamaged c.requires.stands.current c.requires.stands.rested b did.touches.banks did.ends.only did.ends.closes c.next-place.result at;
    }

pub returns-in_err-open_next : goal.returns-in_err-open_next
returns-in_err-open_next g c =
    let a : Device = g.F.Flash.device c.args.flash.now in
    let area : Area = c.args.area.now in
    let place : ℕ = c.args.current in
    let law : IsSectorFormat (g.T.SlotSectors.format_of (geometry_of a area)) = g.met.T.SlotSectors.lawful (geometry_of a area) (unit_is a area (g.met.F.Flash.is_lawful c.args.flash.now) c.requires.stands.area.lawful) in
    let b : Device = g.F.Flash.device c.close.new.flash in
    let did = c.in_ok-close.ensures in
    let at : c.next-place.result ≡ next (sectors_of a area) place = c.next-place.ensures.value ∙ next_there a area place in
    let e : Device = g.F.Flash.device c.open_next.new.flash in
    record {
      touches = subst (λ (lost : Bool). Touches (c.args.area.now ∷ []) (g.F.Flash.device c.args.flash.now) (g.F.Flash.device c.open_next.new.flash) lost) (sym c.from_residual-in_err-open_next.ensures.0) (then c.in_ok-close.ensures.touches c.in_err-open_next.ensures.touches);
      opened = no_place _ c.from_residual-in_err-open_next.result c.from_residual-in_err-open_next.ensures.0;
      items = next_keeps g.T.SlotSectors.format_of g.T.SlotSectors.role a area place law (g.met.F.Flash.is_lawful c.args.flash.now) c.requires.stands.area c.requires.stands.undamaged c.requires.stands.current c.requires.stands.rested b did.touches.banks did.ends.only did.ends.closes c.next-place.result at e c.in_err-open_next.ensures.items;
      written = λ _. opened-written g.T.SlotSectors.format_of a area place law (open_within g.T.SlotSectors.format_of g.T.SlotSectors.role a area place law (g.met.F.Flash.is_lawful c.args.flash.now) c.requires.stands.area c.requires.stands.undamaged c.requires.stands.current c.requires.stands.rested) b did.touches.banks did.ends.only did.ends.closes e c.in_err-open_next.ensures.written;
      changed = inr (opened-written g.T.SlotSectors.format_of a area place law (open_within g.T.SlotSectors.format_of g.T.SlotSectors.role a area place law (g.met.F.Flash.is_lawful c.args.flash.now) c.requires.stands.area c.requires.stands.undamaged c.requires.stands.current c.requires.stands.rested) b did.touches.banks did.ends.only did.ends.closes e c.in_err-open_next.ensures.written);
      ends = record {
        rested = no_ok c.from_residual-in_err-open_next.result _ c.from_residual-in_err-open_next.ensures.0;
        list_lost =
            let a : Device = g.F.Flash.device c.args.flash.now in
            let area : Area = c.args.area.now in
            let place : ℕ = c.args.current in
            let law : IsSectorFormat (g.T.SlotSectors.format_of (geometry_of a area)) = g.met.T.SlotSectors.lawful (geometry_of a area) (unit_is a area (g.met.F.Flash.is_lawful c.args.flash.now) c.requires.stands.area.lawful) in
            let b : Device = g.F.Flash.device c.close.new.flash in
            let did = c.in_ok-close.ensures in
            let at : c.next-place.result ≡ next (sectors_of a area) place = c.next-place.ensures.value ∙ next_there a area place in
            let e : Device = g.F.Flash.device c.open_next.new.flash in
            on_err c.from_residual-in_err-open_next.result (next_lost_list g.T.SlotSectors.format_of g.T.SlotSectors.role a area place law (g.met.F.Flash.is_lawful c.args.flash.now) c.requires.stands.area c.requires.stands.undamaged c.requires.stands.current c.requires.stands.rested b did.touches.banks did.ends.only did.ends.closes c.next-place.result at e c.in_err-open_next.ensures.ends.list_lost);
        kept = no_ok c.from_residual-in_err-open_next.result _ c.from_residual-in_err-open_next.ensures.0;
        does_pass = no_ok c.from_residual-in_err-open_next.result _ c.from_residual-in_err-open_next.ensures.0;
        spends = no_ok c.from_residual-in_err-open_next.result _ c.from_residual-in_err-open_next.ensures.0;
        spends_lost =
            let a : Device = g.F.Flash.device c.args.flash.now in
            let area : Area = c.args.area.now in
            let place : ℕ = c.args.current in
            let law : IsSectorFormat (g.T.SlotSectors.format_of (geometry_of a area)) = g.met.T.SlotSectors.lawful (geometry_of a area) (unit_is a area (g.met.F.Flash.is_lawful c.args.flash.now) c.requires.stands.area.lawful) in
            let b : Device = g.F.Flash.device c.close.new.flash in
            let did = c.in_ok-close.ensures in
            let at : c.next-place.result ≡ next (sectors_of a area) place = c.next-place.ensures.value ∙ next_there a area place in
            let e : Device = g.F.Flash.device c.open_next.new.flash in
            on_err c.from_residual-in_err-open_next.result (round_spends_lost g.T.SlotSectors.format_of g.T.SlotSectors.role a area place law (g.met.F.Flash.is_lawful c.args.flash.now) c.requires.stands.area c.requires.stands.undamaged c.requires.stands.current c.requires.stands.rested b did.touches.banks did.ends.only did.ends.closes c.next-place.result at c.requires.used e did.ends.spends c.in_err-open_next.ensures.ends.spends_lost);
      };
      marks = round-marks g.T.SlotSectors.format_of a b (g.F.Flash.device c.open_next.new.flash) area place c.next-place.result did.touches.banks did.ends.only did.ends.closes at c.in_err-open_next.ensures.marks;
    }

pub returns : goal.returns
returns g c =
    let a : Device = g.F.Flash.device c.args.flash.now in
    let area : Area = c.args.area.now in
    let place : ℕ = c.args.current in
    let law : IsSectorFormat (g.T.SlotSectors.format_of (geometry_of a area)) = g.met.T.SlotSectors.lawful (geometry_of a area) (unit_is a area (g.met.F.Flash.is_lawful c.args.flash.now) c.requires.stands.area.lawful) in
    let b : Device = g.F.Flash.device c.close.new.flash in
    let did = c.in_ok-close.ensures in
    let at : c.next-place.result ≡ next (sectors_of a area) place = c.next-place.ensures.value ∙ next_there a area place in
    let e : Device = g.F.Flash.device c.open_next.new.flash in
    record {
      touches = then c.in_ok-close.ensures.touches c.in_ok-open_next.ensures.touches;
      opened = at;
      items = next_keeps g.T.SlotSectors.format_of g.T.SlotSectors.role a area place law (g.met.F.Flash.is_lawful c.args.flash.now) c.requires.stands.area c.requires.stands.undamaged c.requires.stands.current c.requires.stands.rested b did.touches.banks did.ends.only did.ends.closes c.next-place.result at e c.in_ok-open_next.ensures.items;
      written = λ _. opened-written g.T.SlotSectors.format_of a area place law (open_within g.T.SlotSectors.format_of g.T.SlotSectors.role a area place law (g.met.F.Flash.is_lawful c.args.flash.now) c.requires.stands.area c.requires.stands.undamaged c.requires.stands.current c.requires.stands.rested) b did.touches.banks did.ends.only did.ends.closes e c.in_ok-open_next.ensures.written;
      changed = inr (opened-written g.T.SlotSectors.format_of a area place law (open_within g.T.SlotSectors.format_of g.T.SlotSectors.role a area place law (g.met.F.Flash.is_lawful c.args.flash.now) c.requires.stands.area c.requires.stands.undamaged c.requires.stands.current c.requires.stands.rested) b did.touches.banks did.ends.only did.ends.closes e c.in_ok-open_next.ensures.written);
      ends = record {
        rested =
            let a : Device = g.F.Flash.device c.args.flash.now in
            let area : Area = c.args.area.now in
            let place : ℕ = c.args.current in
            let law : IsSectorFormat (g.T.SlotSectors.format_of (geometry_of a area)) = g.met.T.SlotSectors.lawful (geometry_of a area) (unit_is a area (g.met.F.Flash.is_lawful c.args.flash.now) c.requires.stands.area.lawful) in
            let b : Device = g.F.Flash.device c.close.new.flash in
            let did = c.in_ok-close.ensures in
            let at : c.next-place.result ≡ next (sectors_of a area) place = c.next-place.ensures.value ∙ next_there a area place in
            let e : Device = g.F.Flash.device c.open_next.new.flash in
            (next_turns g.T.SlotSectors.format_of g.T.SlotSectors.role a area place law (g.met.F.Flash.is_lawful c.args.flash.now) c.requires.stands.area c.requires.stands.undamaged c.requires.stands.current c.requires.stands.rested b did.touches.banks did.ends.only did.ends.closes c.next-place.result at e (g.met.F.Flash.is_lawful c.close.new.flash) c.in_ok-open_next.ensures.ends.opens c.in_ok-open_next.ensures.ends.collects).round.form;
        list_lost = tt;
        kept =
            let a : Device = g.F.Flash.device c.args.flash.now in
            let area : Area = c.args.area.now in
            let place : ℕ = c.args.current in
            let law : IsSectorFormat (g.T.SlotSectors.format_of (geometry_of a area)) = g.met.T.SlotSectors.lawful (geometry_of a area) (unit_is a area (g.met.F.Flash.is_lawful c.args.flash.now) c.requires.stands.area.lawful) in
            let b : Device = g.F.Flash.device c.close.new.flash in
            let did = c.in_ok-close.ensures in
            let at : c.next-place.result ≡ next (sectors_of a area) place = c.next-place.ensures.value ∙ next_there a area place in
            let e : Device = g.F.Flash.device c.open_next.new.flash in
            subst (λ (p : ℕ). c.open_next.new.opened ≡ g.T.SlotSectors.kept (geometry_of a area) (sector_at (sectors_of e area) p)) at
            (to_geometry (λ u. c.open_next.new.opened ≡ g.T.SlotSectors.kept u (sector_at (sectors_of e area) c.next-place.result)) a b area did.touches.banks c.in_ok-open_next.ensures.ends.kept);
        does_pass =
            let a : Device = g.F.Flash.device c.args.flash.now in
            let area : Area = c.args.area.now in
            let place : ℕ = c.args.current in
            let law : IsSectorFormat (g.T.SlotSectors.format_of (geometry_of a area)) = g.met.T.SlotSectors.lawful (geometry_of a area) (unit_is a area (g.met.F.Flash.is_lawful c.args.flash.now) c.requires.stands.area.lawful) in
            let b : Device = g.F.Flash.device c.close.new.flash in
            let did = c.in_ok-close.ensures in
            let at : c.next-place.result ≡ next (sectors_of a area) place = c.next-place.ensures.value ∙ next_there a area place in
            let e : Device = g.F.Flash.device c.open_next.new.flash in
            next_turns g.T.SlotSectors.format_of g.T.SlotSectors.role a area place law (g.met.F.Flash.is_lawful c.args.flash.now) c.requires.stands.area c.requires.stands.undamaged c.requires.stands.current c.requires.stands.rested b did.touches.banks did.ends.only did.ends.closes c.next-place.result at e (g.met.F.Flash.is_lawful c.close.new.flash) c.in_ok-open_next.ensures.ends.opens c.in_ok-open_next.ensures.ends.collects;
        spends =
            let a : Device = g.F.Flash.device c.args.flash.now in
            let area : Area = c.args.area.now in
            let place : ℕ = c.args.current in
            let law : IsSectorFormat (g.T.SlotSectors.format_of (geometry_of a area)) = g.met.T.SlotSectors.lawful (geometry_of a area) (unit_is a area (g.met.F.Flash.is_lawful c.args.flash.now) c.requires.stands.area.lawful) in
            let b : Device = g.F.Flash.device c.close.new.flash in
            let did = c.in_ok-close.ensures in
            let at : c.next-place.result ≡ next (sectors_of a area) place = c.next-place.ensures.value ∙ next_there a area place in
            let e : Device = g.F.Flash.device c.open_next.new.flash in
            round_spends g.T.SlotSectors.format_of g.T.SlotSectors.role a area place law (g.met.F.Flash.is_lawful c.args.flash.now) c.requires.stands.area c.requires.stands.undamaged c.requires.stands.current c.requires.stands.rested b did.touches.banks did.ends.only did.ends.closes c.next-place.result at c.requires.used e did.ends.spends c.in_ok-open_next.ensures.ends.spends;
        spends_lost = tt;
      };
      marks = round-marks g.T.SlotSectors.format_of a b (g.F.Flash.device c.open_next.new.flash) area place c.next-place.result did.touches.banks did.ends.only did.ends.closes at c.in_ok-open_next.ensures.marks;
    }
