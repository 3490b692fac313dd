use Rattle.std.proofs.Common.{◌≡◌, ℕ, List, ◌⊎◌, sym, ap, ◌∙◌, inl, inr}
use Rattle.std.proofs.lemmas.Bool.{false≢true}
use Rattle.std.proofs.lemmas.Result.{on_ok_weaker, on_err_weaker}
use Rattle.flash_sim.specs.Device.{Device}
use Rattle.flash_map.specs.declared.area.Area.{Area}
use Rattle.flash_map.specs.Area.{unit_of, sectors_of, sector_at, ChangesOnly}
use Rattle.flash_map.proofs.SpendingBounds.{between_exact, between_most}
use Rattle.nvs_store.specs.Scans.{ClosesAt}
use Rattle.item_store.specs.Steps.{Keeps, Closes}
use Rattle.item_store.proofs.Areas.{only_none}
use Rattle.item_store.proofs.CopyLoop.{either}
use Rattle.nvs_format.specs.Formats.{format_in}
use Rattle.nvs_format.proofs.StepLemmas.{closes, keeps_same}
use Rattle.nvs_gc.proofs.sectors.NvsOpenSlotSectors.close.Goals as goal

cut_only : (unit : ℕ) (old new : List (List ℕ)) (place : ℕ) → (new ≡ old) ⊎ ClosesAt unit old new place → ChangesOnly old new place
cut_only unit old new place (inl same) = only_none old new place same
cut_only unit old new place (inr at) = at.only

cut_closes : (unit : ℕ) (old new : List (List ℕ)) (place : ℕ) → (new ≡ old) ⊎ ClosesAt unit old new place → ((h : ClosesAt unit old new place) → Closes (format_in unit) (sector_at old place) (sector_at new place))
    → Keeps (format_in unit) (sector_at old place) (sector_at new place) ⊎ Closes (format_in unit) (sector_at old place) (sector_at new place)
cut_closes unit old new place (inl same) done = inl (keeps_same unit (sector_at old place) (sector_at new place) (ap (λ (s : List (List ℕ)). sector_at s place) same))
cut_closes unit old new place (inr at) done = inr (done at)

pub returns-clause-ends : goal.returns-clause-ends
returns-clause-ends g c = record {
  only =
      let a : Device = g.F.Flash.device c.args.flash.now in
      let e : Device = g.F.Flash.device c.put_close.new.flash in
      let area : Area = c.args.area.now in
      either c.put_close.result (on_ok_weaker c.put_close.result (λ h. h.only) c.put_close.ensures.ok)
      (on_err_weaker c.put_close.result (λ h. cut_only (unit_of a area) (sectors_of a area) (sectors_of e area) c.args.place h) c.put_close.ensures.lost);
  closes =
      let a : Device = g.F.Flash.device c.args.flash.now in
      let e : Device = g.F.Flash.device c.put_close.new.flash in
      let area : Area = c.args.area.now in
      on_ok_weaker c.put_close.result (λ h. closes (unit_of a area) (sector_at (sectors_of a area) c.args.place) (sector_at (sectors_of e area) c.args.place) c.requires.used h.closes) c.put_close.ensures.ok;
  lost =
      let a : Device = g.F.Flash.device c.args.flash.now in
      let e : Device = g.F.Flash.device c.put_close.new.flash in
      let area : Area = c.args.area.now in
      on_err_weaker c.put_close.result (λ h. cut_closes (unit_of a area) (sectors_of a area) (sectors_of e area) c.args.place h (λ at. closes (unit_of a area) (sector_at (sectors_of a area) c.args.place) (sector_at (sectors_of e area) c.args.place) c.requires.used at.closes)) c.put_close.ensures.lost;
  blank_lost = on_err_weaker c.put_close.result (λ h blank. absurd (false≢true (sym c.requires.used ∙ blank))) c.put_close.ensures.lost;
  spends =
      let a : Device = g.F.Flash.device c.args.flash.now in
      let e : Device = g.F.Flash.device c.put_close.new.flash in
      on_ok_weaker c.put_close.result (λ h. between_exact a e _ h) c.put_close.ensures.spent;
  spends_lost =
      let a : Device = g.F.Flash.device c.args.flash.now in
      let e : Device = g.F.Flash.device c.put_close.new.flash in
      on_err_weaker c.put_close.result (λ h. between_most a e _ h) c.put_close.ensures.spent_at_most;
}
