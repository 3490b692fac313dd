use Rattle.std.proofs.Common.{refl, ◌≡◌, ◌<◌, ◌≤◌, ◌∙◌, ℕ, List, [], ◌∷◌, Bool, false, not, length, sym, ap, subst, arith}
use Rattle.std.specs.Prelude.{count_by}
use Rattle.std.proofs.lemmas.List.{take_all}
use Rattle.flash_sim.specs.Device.{Device, counted}
use Rattle.flash_map.specs.declared.area.Area.{Area}
use Rattle.flash_sim.specs.declared.flash.Bank.{Bank}
use Rattle.flash_map.specs.Area.{IsLawfulArea, sectors_of, sector_size}
use Rattle.flash_map.specs.Touches.{Touches}
use Rattle.flash_map.proofs.Results.{not_ok}
use Rattle.flash_map.proofs.SpendingLemmas.{spends_none}
use Rattle.flash_map.proofs.Touches.{then, untouched}
use Rattle.flash_map.specs.Units.{is_erased}
use Rattle.flash_map.specs.Units.{is_written}
use Rattle.flash_map.specs.Area.{sector_at}
use Rattle.flash_map.proofs.Sectors.{length-sectors_from}
use Rattle.flash_map.proofs.FormatLemmas.{blanked-behind, blanks_next, blanks_all, on_err, spends_next, spends_part}
use Rattle.flash_map.proofs.formatting.area_format.Goals as goal

from-zero : (n : ℕ) → 0 ≤ n
from-zero n = omega arith

count-sectors : (d : Device) (area : Area) → length (sectors_of d area) ≡ area.sectors
count-sectors d area = length-sectors_from area.sectors (sector_size d area) _

pub loop-sector-preserved : goal.loop-sector-preserved
loop-sector-preserved g c =
    let a = g.F.Flash.device c.args.flash.now in
    let b = g.F.Flash.device c.loop-sector.flash in
    let after = g.F.Flash.device c.erase_if.new.flash in
    let area = c.args.area.now in
    let kept = c.loop-sector.invariant in
    let j = c.loop-sector.sector in
    let inside : c.loop-sector.sector < length (sectors_of (g.F.Flash.device c.args.flash.now) c.args.area.now) = omega (arith, count-sectors a area) in
    let bytes = c.sector_view.ensures.bytes in
    let due : not c.is_erased-is_used.result ≡ not (is_erased (sector_at (sectors_of (g.F.Flash.device c.loop-sector.flash) c.args.area.now) c.loop-sector.sector)) = ap (λ (t : Bool). not t) (c.is_erased-is_used.ensures ∙ ap is_erased bytes) in
    let here : sector_at (sectors_of (g.F.Flash.device c.loop-sector.flash) c.args.area.now) c.loop-sector.sector ≡ sector_at (sectors_of (g.F.Flash.device c.args.flash.now) c.args.area.now) c.loop-sector.sector =
    ap (λ (l : List (List ℕ)). sector_at l j) kept.so_far ∙ blanked-behind j (sectors_of a area) j inside (omega arith) in
    record {
      within = omega arith;
      spent = spends_next is_written a b after (sectors_of a area) j (not c.is_erased-is_used.result) inside (due ∙ ap is_written here) kept.spent c.in_ok-erase_if.ensures.units;
      touches = then {lost = false} kept.touches c.in_ok-erase_if.ensures.touches;
      so_far = blanks_next (sectors_of a area) (sectors_of b area) (sectors_of after area) j (sector_size b area) (not c.is_erased-is_used.result) inside kept.so_far (sym (ap length bytes) ∙ c.sector_view.ensures.len) due c.in_ok-erase_if.ensures.erased;
    }

pub returns-clause-blank : goal.returns-clause-blank
returns-clause-blank g c =
    let a = g.F.Flash.device c.args.flash.now in
    c.loop-sector.invariant.so_far ∙ blanks_all (sectors_of a c.args.area.now) c.loop-sector.sector (omega (arith, count-sectors a c.args.area.now))

pub returns-clause-units : goal.returns-clause-units
returns-clause-units g c =
    let a = g.F.Flash.device c.args.flash.now in
    c.loop-sector.invariant.spent
    ∙ ap (λ (l : List (List ℕ)). counted a.spent (count_by is_written l)) (take_all c.loop-sector.sector (sectors_of a c.args.area.now) (omega (arith, count-sectors a c.args.area.now)))

pub returns-in_err-erase_if-clause-bound : goal.returns-in_err-erase_if-clause-bound
returns-in_err-erase_if-clause-bound g c =
    let a = g.F.Flash.device c.args.flash.now in
    on_err c.from_residual.result (spends_part is_written a (g.F.Flash.device c.loop-sector.flash) (g.F.Flash.device c.erase_if.new.flash) (sectors_of a c.args.area.now) c.loop-sector.sector c.loop-sector.invariant.spent c.in_err-erase_if.ensures.bound)

pub loop-sector-init : goal.loop-sector-init
loop-sector-init g c =
    let still = untouched (c.args.area.now ∷ []) (g.F.Flash.device c.args.flash.now) in
    record {
      within = from-zero c.args.area.now.sectors;
      spent = spends_none (g.F.Flash.device c.args.flash.now);
      touches = still;
      so_far = refl;
    }

pub sector_view-requires-clause-lawful : goal.sector_view-requires-clause-lawful
sector_view-requires-clause-lawful g c =
    let banks = c.loop-sector.invariant.touches.banks in
    subst (λ (l : List Bank). IsLawfulArea l c.args.area.now) (sym banks) c.requires

pub sector_view-requires-clause-has_sector : goal.sector_view-requires-clause-has_sector
sector_view-requires-clause-has_sector g c = c.loop-sector-test.true

pub erase_if-requires-clause-lawful : goal.erase_if-requires-clause-lawful
erase_if-requires-clause-lawful g c =
    let banks = c.loop-sector.invariant.touches.banks in
    subst (λ (l : List Bank). IsLawfulArea l c.args.area.now) (sym banks) c.requires

pub erase_if-requires-clause-has_sector : goal.erase_if-requires-clause-has_sector
erase_if-requires-clause-has_sector g c = c.loop-sector-test.true

pub returns-in_err-erase_if-clause-touches : goal.returns-in_err-erase_if-clause-touches
returns-in_err-erase_if-clause-touches g c =
    let a : Device = g.F.Flash.device c.args.flash.now in
    let after : Device = g.F.Flash.device c.erase_if.new.flash in
    subst (λ (lost : Bool). Touches (c.args.area.now ∷ []) a after lost) (sym c.from_residual.ensures.0)
    (then c.loop-sector.invariant.touches c.in_err-erase_if.ensures.touches)

pub returns-in_err-erase_if-clause-blank : goal.returns-in_err-erase_if-clause-blank
returns-in_err-erase_if-clause-blank g c = not_ok _ c.from_residual.result c.from_residual.ensures.0

pub returns-in_err-erase_if-clause-units : goal.returns-in_err-erase_if-clause-units
returns-in_err-erase_if-clause-units g c = not_ok _ c.from_residual.result c.from_residual.ensures.0

pub returns-in_err-erase_if-clause-part : goal.returns-in_err-erase_if-clause-part
returns-in_err-erase_if-clause-part g c =
    on_err c.from_residual.result (c.loop-sector.sector, c.in_err-erase_if.ensures.same ∙ c.loop-sector.invariant.so_far)

pub returns-clause-touches : goal.returns-clause-touches
returns-clause-touches g c = c.loop-sector.invariant.touches

pub returns-clause-part : goal.returns-clause-part
returns-clause-part g c = tt

pub returns-clause-bound : goal.returns-clause-bound
returns-clause-bound g c = tt
