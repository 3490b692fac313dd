use Rattle.std.proofs.Common.{◌≡◌, ℕ, Bool, true, false, cond, not, ◌&&◌, ◌||◌, List, inl, inr, sym, ap, subst, ◌∙◌, ◌∷◌, []}
use Rattle.std.specs.Prelude.{OnOk, OnErr}
use Rattle.std.proofs.lemmas.Result.{on_ok_weaker, on_err_weaker}
use Rattle.flash_sim.specs.Device.{Device}
use Rattle.flash_map.specs.declared.area.Area.{Area}
use Rattle.flash_map.specs.declared.area.Geometry.{Geometry}
use Rattle.flash_map.specs.Area.{geometry_of, sectors_of, sector_at}
use Rattle.flash_map.proofs.PieceLemmas.{on_err}
use Rattle.item_store.specs.SectorFormat.{SectorFormat, IsSectorFormat}
use Rattle.item_store.specs.Standing.{SpendsIn, SpendsUpTo}
use Rattle.item_store.proofs.Areas.{unit_is, still_area, same_geometry}
use Rattle.item_store.proofs.CallFacts.{no_ok}
use Rattle.flash_map.specs.Touches.{Touches}
use Rattle.item_store.proofs.collecting.prepare.Goals as goal

pub is_clean-requires : goal.is_clean-requires
is_clean-requires g c =
    record {
      area = c.requires.area;
      inside = c.requires.inside;
    }

pub begin-requires : goal.begin-requires
begin-requires g c =
    let d : Device = g.F.Flash.device c.args.flash.now in
    let area : Area = c.args.area.now in
    let k : SectorFormat = g.T.SlotSectors.format_of (geometry_of d area) in
    let law : IsSectorFormat (g.T.SlotSectors.format_of (geometry_of d area)) = g.met.T.SlotSectors.lawful (geometry_of d area) (unit_is d area (g.met.F.Flash.is_lawful c.args.flash.now) c.requires.area.lawful) in
    let b : List ℕ = sector_at (sectors_of d area) c.args.current in
    let clean : k.is_clean b ≡ true = sym c.is_clean.ensures ∙ c.if-is_clean.true in
    record {
      area = c.requires.area;
      inside = c.requires.inside;
      kept = c.requires.kept;
      sound = ap (λ (t : Bool). t || (k.reading.has_fence b && not (k.reading.is_overfull b))) (law.clean b clean);
      opened = c.requires.not_closed;
    }

pub returns-then-is_clean : goal.returns-then-is_clean
returns-then-is_clean g c =
    let d : Device = g.F.Flash.device c.args.flash.now in
    let area : Area = c.args.area.now in
    let k : SectorFormat = g.T.SlotSectors.format_of (geometry_of d area) in
    let clean : k.is_clean (sector_at (sectors_of d area) c.args.current) ≡ true = sym c.is_clean.ensures ∙ c.if-is_clean.true in
    let b : List ℕ = sector_at (sectors_of d c.args.area.now) c.args.current in
    record {
      touches = c.begin.ensures.touches;
      begun = on_ok_weaker c.begin.result (λ did. record { only = c.begin.ensures.ends.only; clean = did.clean clean; ready = did.ready; long = did.long }) c.begin.ensures.ends.begins;
      kept = c.begin.ensures.ends.kept;
      only = c.begin.ensures.ends.only;
      lost = on_err_weaker c.begin.result (λ kept. inl kept) c.begin.ensures.ends.lost;
      spends = let clean : k.is_clean b ≡ true = sym c.is_clean.ensures ∙ c.if-is_clean.true in
          let k : SectorFormat = g.T.SlotSectors.format_of (geometry_of d c.args.area.now) in
          subst (λ (t : Bool). OnOk c.begin.result (SpendsIn d (g.F.Flash.device c.begin.new.flash) (cond t (k.units.begin b) (k.units.clear b)))) (sym clean) c.begin.ensures.ends.spends;
      spends_lost = let clean : k.is_clean b ≡ true = sym c.is_clean.ensures ∙ c.if-is_clean.true in
          let k : SectorFormat = g.T.SlotSectors.format_of (geometry_of d c.args.area.now) in
          subst (λ (t : Bool). OnErr c.begin.result (SpendsUpTo d (g.F.Flash.device c.begin.new.flash) (cond t (k.units.begin b) (k.units.clear b)))) (sym clean) c.begin.ensures.ends.spends_lost;
    }

pub clear-requires : goal.clear-requires
clear-requires g c =
    record {
      area = c.requires.area;
      inside = c.requires.inside;
    }

pub returns-in_err-clear : goal.returns-in_err-clear
returns-in_err-clear g c =
    let d : Device = g.F.Flash.device c.args.flash.now in
    let k : SectorFormat = g.T.SlotSectors.format_of (geometry_of d c.args.area.now) in
    let b : List ℕ = sector_at (sectors_of d c.args.area.now) c.args.current in
    let used : k.is_clean b ≡ false = sym c.is_clean.ensures ∙ c.if-is_clean.false in
    record {
      touches = subst (λ (lost : Bool). Touches (c.args.area.now ∷ []) (g.F.Flash.device c.args.flash.now) (g.F.Flash.device c.clear.new.flash) lost) (sym c.from_residual.ensures.0) (c.in_err-clear.ensures.touches);
      begun = no_ok c.from_residual.result _ c.from_residual.ensures.0;
      kept = no_ok c.from_residual.result _ c.from_residual.ensures.0;
      only = c.in_err-clear.ensures.only;
      lost = on_err c.from_residual.result (inr c.in_err-clear.ensures.lost);
      spends = no_ok c.from_residual.result _ c.from_residual.ensures.0;
      spends_lost = on_err c.from_residual.result
          (subst (λ (t : Bool). SpendsUpTo d (g.F.Flash.device c.clear.new.flash) (cond t (k.units.begin b) (k.units.clear b))) (sym used) c.in_err-clear.ensures.spends_lost);
    }

pub keep-requires : goal.keep-requires
keep-requires g c =
    record {
      area = still_area g.T.SlotSectors.role (g.F.Flash.device c.args.flash.now) (g.F.Flash.device c.clear.new.flash) c.args.area.now c.in_ok-clear.ensures.touches.banks c.requires.area;
      inside = c.requires.inside;
    }

pub returns : goal.returns
returns g c =
    let did = c.in_ok-clear.ensures in
    let d : Device = g.F.Flash.device c.args.flash.now in
    let e : Device = g.F.Flash.device c.clear.new.flash in
    let area : Area = c.args.area.now in
    let k : SectorFormat = g.T.SlotSectors.format_of (geometry_of d c.args.area.now) in
    let b : List ℕ = sector_at (sectors_of d c.args.area.now) c.args.current in
    let used : k.is_clean b ≡ false = sym c.is_clean.ensures ∙ c.if-is_clean.false in
    record {
      touches = c.in_ok-clear.ensures.touches;
      begun = record { only = did.only; clean = did.clears.clean; ready = did.clears.ready; long = did.clears.long };
      kept = c.keep.ensures ∙ ap (λ (u : Geometry). g.T.SlotSectors.kept u (sector_at (sectors_of e area) c.args.current)) (same_geometry d e area c.in_ok-clear.ensures.touches.banks);
      only = c.in_ok-clear.ensures.only;
      lost = tt;
      spends = subst (λ (t : Bool). SpendsIn d (g.F.Flash.device c.clear.new.flash) (cond t (k.units.begin b) (k.units.clear b))) (sym used) c.in_ok-clear.ensures.spends;
      spends_lost = tt;
    }
