use Rattle.std.proofs.Common.{◌≡◌, ℕ, true, false, inl, refl, sym, ap, subst, ◌∙◌, ◌∷◌, []}
use Rattle.std.specs.Prelude.{OnOk, OnErr}
use Rattle.std.proofs.lemmas.Result.{on_ok_weaker, on_err_weaker}
use Rattle.flash_sim.specs.Device.{Device}
use Rattle.flash_map.specs.declared.area.Area.{Area}
use Rattle.flash_map.specs.declared.area.Geometry.{Geometry}
use Rattle.flash_map.specs.Area.{geometry_of, sectors_of}
use Rattle.flash_map.proofs.SpendingBounds.{between_none}
use Rattle.item_laws.specs.Area.{next, is_closed_at}
use Rattle.item_laws.proofs.AreaReads.{next_there}
use Rattle.item_store.specs.SectorFormat.{Range, IsSectorFormat}
use Rattle.item_store.specs.Standing.{SpendsIn, SpendsUpTo}
use Rattle.item_store.proofs.Areas.{unit_is}
use Rattle.item_store.proofs.CopyLoop.{either}
use Rattle.item_store.proofs.OpenFacts.{place_in, place_not_closed, next_collecting, next_rests, no_rest, again_units-are, again_lost, no_collection, open_units-are, opened_by, opened_keeps, opened_idle, idle_keeps, ready_lost, ready_lost_list}
use Rattle.item_store.proofs.WrittenSteps.{blank-written}
use Rattle.item_store.proofs.MarkFacts.{own-marks}
use Rattle.flash_map.proofs.Touches.{untouched}
use Rattle.item_store.proofs.collecting.open_next.Goals as goal

pub next-requires : goal.next-requires
next-requires g c =
    let a : Device = g.F.Flash.device c.args.flash.now in
    let area : Area = c.args.area.now in
    let place : ℕ = c.args.current in
    let law : IsSectorFormat (g.T.SlotSectors.format_of (geometry_of a area)) = g.met.T.SlotSectors.lawful (geometry_of a area) (unit_is a area (g.met.F.Flash.is_lawful c.args.flash.now) c.requires.area.lawful) in
    place_in g.T.SlotSectors.format_of a area place law c.requires.form c.requires.blank

pub is_closed-requires : goal.is_closed-requires
is_closed-requires g c =
    record {
      area = c.requires.area;
      inside = c.next.ensures.within;
    }

pub collect_again-requires : goal.collect_again-requires
collect_again-requires g c =
    let a : Device = g.F.Flash.device c.args.flash.now in
    let area : Area = c.args.area.now in
    let place : ℕ = c.args.current in
    let law : IsSectorFormat (g.T.SlotSectors.format_of (geometry_of a area)) = g.met.T.SlotSectors.lawful (geometry_of a area) (unit_is a area (g.met.F.Flash.is_lawful c.args.flash.now) c.requires.area.lawful) in
    let at : c.next.result ≡ next (sectors_of a area) place = c.next.ensures.value ∙ next_there a area place in
    let shut : is_closed_at (g.T.SlotSectors.format_of (geometry_of a area)).reading (sectors_of a area) (next (sectors_of a area) place) ≡ true = ap (is_closed_at (g.T.SlotSectors.format_of (geometry_of a area)).reading (sectors_of a area)) (sym at) ∙ sym c.is_closed.ensures.value ∙ c.if-is_closed.true in
    record {
      area = c.requires.area;
      kept = c.requires.kept;
      collecting = next_collecting g.T.SlotSectors.format_of a area place law c.requires.form c.requires.blank shut;
    }

pub returns-then-is_closed : goal.returns-then-is_closed
returns-then-is_closed g c =
    record {
      touches = c.collect_again.ensures.touches;
      items = c.collect_again.ensures.items;
      written = λ _. c.collect_again.ensures.written;
      ends = record {
        opens =
            let a : Device = g.F.Flash.device c.args.flash.now in
            let area : Area = c.args.area.now in
            let place : ℕ = c.args.current in
            let law : IsSectorFormat (g.T.SlotSectors.format_of (geometry_of a area)) = g.met.T.SlotSectors.lawful (geometry_of a area) (unit_is a area (g.met.F.Flash.is_lawful c.args.flash.now) c.requires.area.lawful) in
            let at : c.next.result ≡ next (sectors_of a area) place = c.next.ensures.value ∙ next_there a area place in
            let shut : is_closed_at (g.T.SlotSectors.format_of (geometry_of a area)).reading (sectors_of a area) (next (sectors_of a area) place) ≡ true = ap (is_closed_at (g.T.SlotSectors.format_of (geometry_of a area)).reading (sectors_of a area)) (sym at) ∙ sym c.is_closed.ensures.value ∙ c.if-is_closed.true in
            on_ok_weaker c.collect_again.result (λ at rested. no_rest g.T.SlotSectors.format_of a area place law c.requires.form c.requires.blank shut rested) c.collect_again.ensures.collects;
        collects = on_ok_weaker c.collect_again.result (λ at collecting. at) c.collect_again.ensures.collects;
        list_lost =
            let a : Device = g.F.Flash.device c.args.flash.now in
            let area : Area = c.args.area.now in
            let place : ℕ = c.args.current in
            let law : IsSectorFormat (g.T.SlotSectors.format_of (geometry_of a area)) = g.met.T.SlotSectors.lawful (geometry_of a area) (unit_is a area (g.met.F.Flash.is_lawful c.args.flash.now) c.requires.area.lawful) in
            let at : c.next.result ≡ next (sectors_of a area) place = c.next.ensures.value ∙ next_there a area place in
            let shut : is_closed_at (g.T.SlotSectors.format_of (geometry_of a area)).reading (sectors_of a area) (next (sectors_of a area) place) ≡ true = ap (is_closed_at (g.T.SlotSectors.format_of (geometry_of a area)).reading (sectors_of a area)) (sym at) ∙ sym c.is_closed.ensures.value ∙ c.if-is_closed.true in
            let e : Device = g.F.Flash.device c.collect_again.new.flash in
            on_err_weaker c.collect_again.result (again_lost g.T.SlotSectors.format_of a area place law c.requires.form c.requires.blank shut e) c.collect_again.ensures.list_lost;
        kept = c.collect_again.ensures.kept;
        spends =
            let a : Device = g.F.Flash.device c.args.flash.now in
            let area : Area = c.args.area.now in
            let place : ℕ = c.args.current in
            let law : IsSectorFormat (g.T.SlotSectors.format_of (geometry_of a area)) = g.met.T.SlotSectors.lawful (geometry_of a area) (unit_is a area (g.met.F.Flash.is_lawful c.args.flash.now) c.requires.area.lawful) in
            let at : c.next.result ≡ next (sectors_of a area) place = c.next.ensures.value ∙ next_there a area place in
            let shut : is_closed_at (g.T.SlotSectors.format_of (geometry_of a area)).reading (sectors_of a area) (next (sectors_of a area) place) ≡ true = ap (is_closed_at (g.T.SlotSectors.format_of (geometry_of a area)).reading (sectors_of a area)) (sym at) ∙ sym c.is_closed.ensures.value ∙ c.if-is_closed.true in
            let e : Device = g.F.Flash.device c.collect_again.new.flash in
            subst (λ (r : Range). OnOk c.collect_again.result (SpendsIn a e r)) (sym (again_units-are g.T.SlotSectors.format_of a area place law c.requires.form c.requires.blank shut)) c.collect_again.ensures.spends;
        spends_lost =
            let a : Device = g.F.Flash.device c.args.flash.now in
            let area : Area = c.args.area.now in
            let place : ℕ = c.args.current in
            let law : IsSectorFormat (g.T.SlotSectors.format_of (geometry_of a area)) = g.met.T.SlotSectors.lawful (geometry_of a area) (unit_is a area (g.met.F.Flash.is_lawful c.args.flash.now) c.requires.area.lawful) in
            let at : c.next.result ≡ next (sectors_of a area) place = c.next.ensures.value ∙ next_there a area place in
            let shut : is_closed_at (g.T.SlotSectors.format_of (geometry_of a area)).reading (sectors_of a area) (next (sectors_of a area) place) ≡ true = ap (is_closed_at (g.T.SlotSectors.format_of (geometry_of a area)).reading (sectors_of a area)) (sym at) ∙ sym c.is_closed.ensures.value ∙ c.if-is_closed.true in
            let e : Device = g.F.Flash.device c.collect_again.new.flash in
            subst (λ (r : Range). OnErr c.collect_again.result (SpendsUpTo a e r)) (sym (again_units-are g.T.SlotSectors.format_of a area place law c.requires.form c.requires.blank shut)) c.collect_again.ensures.spends_lost;
      };
      marks = c.collect_again.ensures.marks;
    }

pub prepare-requires : goal.prepare-requires
prepare-requires g c =
    let a : Device = g.F.Flash.device c.args.flash.now in
    let area : Area = c.args.area.now in
    let place : ℕ = c.args.current in
    let law : IsSectorFormat (g.T.SlotSectors.format_of (geometry_of a area)) = g.met.T.SlotSectors.lawful (geometry_of a area) (unit_is a area (g.met.F.Flash.is_lawful c.args.flash.now) c.requires.area.lawful) in
    record {
      area = c.requires.area;
      kept = c.requires.kept;
      inside = place_in g.T.SlotSectors.format_of a area place law c.requires.form c.requires.blank;
      not_closed = place_not_closed g.T.SlotSectors.format_of a area place law c.requires.form c.requires.blank;
    }

pub returns-then-opens_ready : goal.returns-then-opens_ready
returns-then-opens_ready g c =
    let a : Device = g.F.Flash.device c.args.flash.now in
    let area : Area = c.args.area.now in
    let place : ℕ = c.args.current in
    let law : IsSectorFormat (g.T.SlotSectors.format_of (geometry_of a area)) = g.met.T.SlotSectors.lawful (geometry_of a area) (unit_is a area (g.met.F.Flash.is_lawful c.args.flash.now) c.requires.area.lawful) in
    let at : c.next.result ≡ next (sectors_of a area) place = c.next.ensures.value ∙ next_there a area place in
    let free : is_closed_at (g.T.SlotSectors.format_of (geometry_of a area)).reading (sectors_of a area) (next (sectors_of a area) place) ≡ false = ap (is_closed_at (g.T.SlotSectors.format_of (geometry_of a area)).reading (sectors_of a area)) (sym at) ∙ sym c.is_closed.ensures.value ∙ c.if-is_closed.false in
    let ready : (g.T.SlotSectors.format_of (geometry_of a area)).opens_ready ≡ true = ap (λ (u : Geometry). (g.T.SlotSectors.format_of u).opens_ready) (sym c.geometry.ensures) ∙ sym c.opens_ready.ensures ∙ c.if-opens_ready.true in
    let e : Device = g.F.Flash.device c.prepare.new.flash in
    let rested = next_rests g.T.SlotSectors.format_of a area place law c.requires.form c.requires.blank free in
    record {
      touches = c.prepare.ensures.touches;
      items = either c.prepare.result
          (on_ok_weaker c.prepare.result (opened_keeps g.T.SlotSectors.format_of a area place law c.requires.form c.requires.blank free e) c.prepare.ensures.begun)
          (on_err_weaker c.prepare.result (ready_lost g.T.SlotSectors.format_of a area place law c.requires.form c.requires.blank free ready e c.prepare.ensures.only) c.prepare.ensures.lost);
      written = blank-written (g.T.SlotSectors.format_of (geometry_of a area)) law (sectors_of a area) (sectors_of e area) place c.prepare.ensures.only c.requires.blank;
      ends = record {
        opens =
            let a : Device = g.F.Flash.device c.args.flash.now in
            let area : Area = c.args.area.now in
            let place : ℕ = c.args.current in
            let law : IsSectorFormat (g.T.SlotSectors.format_of (geometry_of a area)) = g.met.T.SlotSectors.lawful (geometry_of a area) (unit_is a area (g.met.F.Flash.is_lawful c.args.flash.now) c.requires.area.lawful) in
            let at : c.next.result ≡ next (sectors_of a area) place = c.next.ensures.value ∙ next_there a area place in
            let free : is_closed_at (g.T.SlotSectors.format_of (geometry_of a area)).reading (sectors_of a area) (next (sectors_of a area) place) ≡ false = ap (is_closed_at (g.T.SlotSectors.format_of (geometry_of a area)).reading (sectors_of a area)) (sym at) ∙ sym c.is_closed.ensures.value ∙ c.if-is_closed.false in
            let e : Device = g.F.Flash.device c.prepare.new.flash in
            on_ok_weaker c.prepare.result (λ begun rested. opened_by g.T.SlotSectors.format_of a area place law c.requires.form c.requires.blank free e begun) c.prepare.ensures.begun;
        collects =
            let a : Device = g.F.Flash.device c.args.flash.now in
            let area : Area = c.args.area.now in
            let place : ℕ = c.args.current in
            let law : IsSectorFormat (g.T.SlotSectors.format_of (geometry_of a area)) = g.met.T.SlotSectors.lawful (geometry_of a area) (unit_is a area (g.met.F.Flash.is_lawful c.args.flash.now) c.requires.area.lawful) in
            let at : c.next.result ≡ next (sectors_of a area) place = c.next.ensures.value ∙ next_there a area place in
            let free : is_closed_at (g.T.SlotSectors.format_of (geometry_of a area)).reading (sectors_of a area) (next (sectors_of a area) place) ≡ false = ap (is_closed_at (g.T.SlotSectors.format_of (geometry_of a area)).reading (sectors_of a area)) (sym at) ∙ sym c.is_closed.ensures.value ∙ c.if-is_closed.false in
            on_ok_weaker c.prepare.result (λ begun collecting. no_collection g.T.SlotSectors.format_of a area place law c.requires.form c.requires.blank free collecting) c.prepare.ensures.begun;
        list_lost =
            let a : Device = g.F.Flash.device c.args.flash.now in
            let area : Area = c.args.area.now in
            let place : ℕ = c.args.current in
            let law : IsSectorFormat (g.T.SlotSectors.format_of (geometry_of a area)) = g.met.T.SlotSectors.lawful (geometry_of a area) (unit_is a area (g.met.F.Flash.is_lawful c.args.flash.now) c.requires.area.lawful) in
            let at : c.next.result ≡ next (sectors_of a area) place = c.next.ensures.value ∙ next_there a area place in
            let free : is_closed_at (g.T.SlotSectors.format_of (geometry_of a area)).reading (sectors_of a area) (next (sectors_of a area) place) ≡ false = ap (is_closed_at (g.T.SlotSectors.format_of (geometry_of a area)).reading (sectors_of a area)) (sym at) ∙ sym c.is_closed.ensures.value ∙ c.if-is_closed.false in
            let ready : (g.T.SlotSectors.format_of (geometry_of a area)).opens_ready ≡ true = ap (λ (u : Geometry). (g.T.SlotSectors.format_of u).opens_ready) (sym c.geometry.ensures) ∙ sym c.opens_ready.ensures ∙ c.if-opens_ready.true in
            let e : Device = g.F.Flash.device c.prepare.new.flash in
            on_err_weaker c.prepare.result (ready_lost_list g.T.SlotSectors.format_of a area place law c.requires.form c.requires.blank free ready e c.prepare.ensures.only) c.prepare.ensures.lost;
        kept = c.prepare.ensures.kept;
        spends =
            let a : Device = g.F.Flash.device c.args.flash.now in
            let area : Area = c.args.area.now in
            let place : ℕ = c.args.current in
            let law : IsSectorFormat (g.T.SlotSectors.format_of (geometry_of a area)) = g.met.T.SlotSectors.lawful (geometry_of a area) (unit_is a area (g.met.F.Flash.is_lawful c.args.flash.now) c.requires.area.lawful) in
            let at : c.next.result ≡ next (sectors_of a area) place = c.next.ensures.value ∙ next_there a area place in
            let free : is_closed_at (g.T.SlotSectors.format_of (geometry_of a area)).reading (sectors_of a area) (next (sectors_of a area) place) ≡ false = ap (is_closed_at (g.T.SlotSectors.format_of (geometry_of a area)).reading (sectors_of a area)) (sym at) ∙ sym c.is_closed.ensures.value ∙ c.if-is_closed.false in
            let ready : (g.T.SlotSectors.format_of (geometry_of a area)).opens_ready ≡ true = ap (λ (u : Geometry). (g.T.SlotSectors.format_of u).opens_ready) (sym c.geometry.ensures) ∙ sym c.opens_ready.ensures ∙ c.if-opens_ready.true in
            let e : Device = g.F.Flash.device c.prepare.new.flash in
            subst (λ (r : Range). OnOk c.prepare.result (SpendsIn a e r)) (sym (open_units-are g.T.SlotSectors.format_of a area place law c.requires.form c.requires.blank free true ready)) c.prepare.ensures.spends;
        spends_lost =
            let a : Device = g.F.Flash.device c.args.flash.now in
            let area : Area = c.args.area.now in
            let place : ℕ = c.args.current in
            let law : IsSectorFormat (g.T.SlotSectors.format_of (geometry_of a area)) = g.met.T.SlotSectors.lawful (geometry_of a area) (unit_is a area (g.met.F.Flash.is_lawful c.args.flash.now) c.requires.area.lawful) in
            let at : c.next.result ≡ next (sectors_of a area) place = c.next.ensures.value ∙ next_there a area place in
            let free : is_closed_at (g.T.SlotSectors.format_of (geometry_of a area)).reading (sectors_of a area) (next (sectors_of a area) place) ≡ false = ap (is_closed_at (g.T.SlotSectors.format_of (geometry_of a area)).reading (sectors_of a area)) (sym at) ∙ sym c.is_closed.ensures.value ∙ c.if-is_closed.false in
            let ready : (g.T.SlotSectors.format_of (geometry_of a area)).opens_ready ≡ true = ap (λ (u : Geometry). (g.T.SlotSectors.format_of u).opens_ready) (sym c.geometry.ensures) ∙ sym c.opens_ready.ensures ∙ c.if-opens_ready.true in
            let e : Device = g.F.Flash.device c.prepare.new.flash in
            subst (λ (r : Range). OnErr c.prepare.result (SpendsUpTo a e r)) (sym (open_units-are g.T.SlotSectors.format_of a area place law c.requires.form c.requires.blank free true ready)) c.prepare.ensures.spends_lost;
      };
      marks = own-marks (g.T.SlotSectors.format_of (geometry_of a area)) (sectors_of a area) (sectors_of (g.F.Flash.device c.prepare.new.flash) area) place rested.blanks rested.ring c.prepare.ensures.only;
    }

pub returns : goal.returns
returns g c =
    let a : Device = g.F.Flash.device c.args.flash.now in
    let area : Area = c.args.area.now in
    let place : ℕ = c.args.current in
    let law : IsSectorFormat (g.T.SlotSectors.format_of (geometry_of a area)) = g.met.T.SlotSectors.lawful (geometry_of a area) (unit_is a area (g.met.F.Flash.is_lawful c.args.flash.now) c.requires.area.lawful) in
    let at : c.next.result ≡ next (sectors_of a area) place = c.next.ensures.value ∙ next_there a area place in
    let free : is_closed_at (g.T.SlotSectors.format_of (geometry_of a area)).reading (sectors_of a area) (next (sectors_of a area) place) ≡ false = ap (is_closed_at (g.T.SlotSectors.format_of (geometry_of a area)).reading (sectors_of a area)) (sym at) ∙ sym c.is_closed.ensures.value ∙ c.if-is_closed.false in
    record {
      touches = untouched (c.args.area.now ∷ []) (g.F.Flash.device c.args.flash.now);
      items = idle_keeps g.T.SlotSectors.format_of a area place law c.requires.form c.requires.blank free;
      written = λ written. written;
      ends = record {
        opens =
            let a : Device = g.F.Flash.device c.args.flash.now in
            let area : Area = c.args.area.now in
            let place : ℕ = c.args.current in
            let law : IsSectorFormat (g.T.SlotSectors.format_of (geometry_of a area)) = g.met.T.SlotSectors.lawful (geometry_of a area) (unit_is a area (g.met.F.Flash.is_lawful c.args.flash.now) c.requires.area.lawful) in
            let at : c.next.result ≡ next (sectors_of a area) place = c.next.ensures.value ∙ next_there a area place in
            let free : is_closed_at (g.T.SlotSectors.format_of (geometry_of a area)).reading (sectors_of a area) (next (sectors_of a area) place) ≡ false = ap (is_closed_at (g.T.SlotSectors.format_of (geometry_of a area)).reading (sectors_of a area)) (sym at) ∙ sym c.is_closed.ensures.value ∙ c.if-is_closed.false in
            let ready : (g.T.SlotSectors.format_of (geometry_of a area)).opens_ready ≡ false = ap (λ (u : Geometry). (g.T.SlotSectors.format_of u).opens_ready) (sym c.geometry.ensures) ∙ sym c.opens_ready.ensures ∙ c.if-opens_ready.false in
            λ rested. opened_idle g.T.SlotSectors.format_of a area place law c.requires.form c.requires.blank free ready;
        collects =
            let a : Device = g.F.Flash.device c.args.flash.now in
            let area : Area = c.args.area.now in
            let place : ℕ = c.args.current in
            let law : IsSectorFormat (g.T.SlotSectors.format_of (geometry_of a area)) = g.met.T.SlotSectors.lawful (geometry_of a area) (unit_is a area (g.met.F.Flash.is_lawful c.args.flash.now) c.requires.area.lawful) in
            let at : c.next.result ≡ next (sectors_of a area) place = c.next.ensures.value ∙ next_there a area place in
            let free : is_closed_at (g.T.SlotSectors.format_of (geometry_of a area)).reading (sectors_of a area) (next (sectors_of a area) place) ≡ false = ap (is_closed_at (g.T.SlotSectors.format_of (geometry_of a area)).reading (sectors_of a area)) (sym at) ∙ sym c.is_closed.ensures.value ∙ c.if-is_closed.false in
            λ collecting. no_collection g.T.SlotSectors.format_of a area place law c.requires.form c.requires.blank free collecting;
        list_lost = tt;
        kept = c.requires.kept;
        spends =
            let a : Device = g.F.Flash.device c.args.flash.now in
            let area : Area = c.args.area.now in
            let place : ℕ = c.args.current in
            let law : IsSectorFormat (g.T.SlotSectors.format_of (geometry_of a area)) = g.met.T.SlotSectors.lawful (geometry_of a area) (unit_is a area (g.met.F.Flash.is_lawful c.args.flash.now) c.requires.area.lawful) in
            let at : c.next.result ≡ next (sectors_of a area) place = c.next.ensures.value ∙ next_there a area place in
            let free : is_closed_at (g.T.SlotSectors.format_of (geometry_of a area)).reading (sectors_of a area) (next (sectors_of a area) place) ≡ false = ap (is_closed_at (g.T.SlotSectors.format_of (geometry_of a area)).reading (sectors_of a area)) (sym at) ∙ sym c.is_closed.ensures.value ∙ c.if-is_closed.false in
            let ready : (g.T.SlotSectors.format_of (geometry_of a area)).opens_ready ≡ false = ap (λ (u : Geometry). (g.T.SlotSectors.format_of u).opens_ready) (sym c.geometry.ensures) ∙ sym c.opens_ready.ensures ∙ c.if-opens_ready.false in
            subst (λ (r : Range). SpendsIn a a r) (sym (open_units-are g.T.SlotSectors.format_of a area place law c.requires.form c.requires.blank free false ready)) (between_none a);
        spends_lost = tt;
      };
      marks = inl refl;
    }
