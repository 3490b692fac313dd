use Rattle.std.specs.Result.{IsErr}
use Rattle.std.proofs.Common.{Bool, false, true, Result, Ok, Err, OnOk, List, [], ◌∷◌, length}
use Rattle.std.proofs.Common.{refl, ◌≡◌, ℕ, ◌+◌, ◌<◌, ◌≤◌, sym, ap, subst, ◌∙◌, arith}
use Rattle.std.specs.Prelude.{count_by}
use Rattle.std.proofs.lemmas.List.{take_all}
use Rattle.flash_sim.specs.Device.{counted}
use Rattle.flash_map.specs.Area.{sectors_of, sector_size}
use Rattle.flash_map.specs.Touches.{Touches}
use Rattle.flash_map.proofs.Touches.{then, untouched}
use Rattle.fcb_ring.specs.SectorStates.{is_torn}
use Rattle.flash_map.specs.Area.{sector_at}
use Rattle.fcb_ring.proofs.AreaLemmas.{count-sectors, area_after}
use Rattle.fcb_ring.proofs.StandLemmas.{mended-behind}
use Rattle.flash_map.proofs.SpendingLemmas.{spends_none}
use Rattle.flash_map.proofs.FormatLemmas.{on_err, spends_next, spends_part}
use Rattle.fcb_ring.proofs.MountLemmas.{mends_next, mends_all, none-due}
use Rattle.fcb_ring.proofs.CollectLemmas.{erase-lost}
use Rattle.fcb_ring.proofs.erasing.erase_torn.Goals as goal

not_ok : {T E : Type 0} (P : Type 0) (r : Result T E) → IsErr r → OnOk r P
not_ok P (Ok x) e = absurd (clash e)
  where
    clash : false ≡ true → ⊥
    clash e = cc
not_ok P (Err e) is = tt

from-zero : (n : ℕ) → 0 ≤ n
from-zero n = omega arith

next-fits : (k n : ℕ) → k < n → n ≤ 64 → k + 1 < 4294967296
next-fits k n below few = omega arith

pub is_torn-is_due-requires : goal.is_torn-is_due-requires
is_torn-is_due-requires g c =
    let a = g.F.Flash.device c.args.flash.now in
    let b = g.F.Flash.device c.loop-sector.flash in
    let ring = area_after a b c.args.area.now c.loop-sector.invariant.touches.banks c.requires in
    omega (arith, ring.lawful.at_least, c.sector_view.ensures.len)

pub returns-in_err-erase_if-clause-bound : goal.returns-in_err-erase_if-clause-bound
returns-in_err-erase_if-clause-bound g c =
    let a = g.F.Flash.device c.args.flash.now in
    on_err c.from_residual.result (spends_part is_torn a (g.F.Flash.device c.loop-sector.flash) (g.F.Flash.device c.erase_if.new.flash) (sectors_of a c.args.area.now) c.loop-sector.sector c.loop-sector.invariant.spent c.in_err-erase_if.ensures.bound)

pub loop-sector-preserved : goal.loop-sector-preserved
loop-sector-preserved g c =
    let a = g.F.Flash.device c.args.flash.now in
    let b = g.F.Flash.device c.loop-sector.flash in
    let after = g.F.Flash.device c.erase_if.new.flash in
    let area = c.args.area.now in
    let kept = c.loop-sector.invariant in
    let j = c.loop-sector.sector in
    let inside : c.loop-sector.sector < length (sectors_of (g.F.Flash.device c.args.flash.now) c.args.area.now) = omega (arith, count-sectors a area) in
    let bytes = c.sector_view.ensures.bytes in
    let due : c.is_torn-is_due.result ≡ is_torn (sector_at (sectors_of (g.F.Flash.device c.loop-sector.flash) c.args.area.now) c.loop-sector.sector) = c.is_torn-is_due.ensures ∙ ap is_torn bytes in
    let here : sector_at (sectors_of (g.F.Flash.device c.loop-sector.flash) c.args.area.now) c.loop-sector.sector ≡ sector_at (sectors_of (g.F.Flash.device c.args.flash.now) c.args.area.now) c.loop-sector.sector =
    ap (λ (l : List (List ℕ)). sector_at l j) kept.so_far ∙ mended-behind j (sectors_of a area) j inside (omega arith) in
    record {
      within = omega arith;
      touches = then {lost = false} kept.touches c.in_ok-erase_if.ensures.touches;
      so_far = mends_next (sectors_of a area) (sectors_of b area) (sectors_of after area) j (sector_size b area) c.is_torn-is_due.result inside kept.so_far (sym (ap length bytes) ∙ c.sector_view.ensures.len) due c.in_ok-erase_if.ensures.erased;
      idle = λ none.
          let before = kept.idle none in
          let here-not : is_torn (sector_at (sectors_of b area) j) ≡ false = ap is_torn here ∙ none-due is_torn (sectors_of a area) j inside none in
          c.in_ok-erase_if.ensures.idle (due ∙ here-not) ∙ before;
      spent = spends_next is_torn a b after (sectors_of a area) j c.is_torn-is_due.result inside (due ∙ ap is_torn here) kept.spent c.in_ok-erase_if.ensures.units;
    }

pub returns-clause-mended : goal.returns-clause-mended
returns-clause-mended g c =
    let a = g.F.Flash.device c.args.flash.now in
    c.loop-sector.invariant.so_far ∙ mends_all (sectors_of a c.args.area.now) c.loop-sector.sector (omega (arith, count-sectors a c.args.area.now))

pub returns-clause-units : goal.returns-clause-units
returns-clause-units g c =
    let a = g.F.Flash.device c.args.flash.now in
    c.loop-sector.invariant.spent
    ∙ ap (λ (l : List (List ℕ)). counted a.spent (count_by is_torn l)) (take_all c.loop-sector.sector (sectors_of a c.args.area.now) (omega (arith, count-sectors a c.args.area.now)))

pub returns-in_err-erase_if-clause-idle : goal.returns-in_err-erase_if-clause-idle
returns-in_err-erase_if-clause-idle g c none =
    let a = g.F.Flash.device c.args.flash.now in
    let b = g.F.Flash.device c.loop-sector.flash in
    let area = c.args.area.now in
    let j = c.loop-sector.sector in
    let inside : j < length (sectors_of a area) = omega (arith, count-sectors a area) in
    let here : sector_at (sectors_of b area) j ≡ sector_at (sectors_of a area) j = ap (λ (l : List (List ℕ)). sector_at l j) c.loop-sector.invariant.so_far ∙ mended-behind j (sectors_of a area) j inside (omega arith) in
    let due : c.is_torn-is_due.result ≡ is_torn (sector_at (sectors_of b area) j) = c.is_torn-is_due.ensures ∙ ap is_torn c.sector_view.ensures.bytes in
    c.in_err-erase_if.ensures.idle (due ∙ ap is_torn here ∙ none-due is_torn (sectors_of a area) j inside none) ∙ c.loop-sector.invariant.idle none

pub returns-in_err-erase_if-clause-part : goal.returns-in_err-erase_if-clause-part
returns-in_err-erase_if-clause-part g c =
    let kept = c.loop-sector.invariant in
    on_err c.from_residual.result (c.loop-sector.sector, c.in_err-erase_if.ensures.same ∙ kept.so_far, λ on. erase-lost (g.F.Flash.device c.loop-sector.flash) (g.F.Flash.device c.erase_if.new.flash) c.args.area.now c.loop-sector.sector c.in_err-erase_if.ensures.touches.banks c.in_err-erase_if.ensures.lost (kept.touches.ends.on ∙ on))

pub loop-sector-init : goal.loop-sector-init
loop-sector-init g c =
    let still = untouched (c.args.area.now ∷ []) (g.F.Flash.device c.args.flash.now) in
    record {
      within = from-zero c.args.area.now.sectors;
      touches = still;
      so_far = refl;
      idle = λ none. refl;
      spent = spends_none (g.F.Flash.device c.args.flash.now);
    }

pub overflow_step-sector : goal.overflow_step-sector
overflow_step-sector g c =
    record { fits = next-fits c.loop-sector.sector c.args.area.now.sectors c.loop-sector-test.true c.requires.lawful.few }

pub sector_view-requires-clause-lawful : goal.sector_view-requires-clause-lawful
sector_view-requires-clause-lawful g c =
    let a = g.F.Flash.device c.args.flash.now in
    let b = g.F.Flash.device c.loop-sector.flash in
    (area_after a b c.args.area.now c.loop-sector.invariant.touches.banks c.requires).lawful.in_bank

pub sector_view-requires-clause-has_sector : goal.sector_view-requires-clause-has_sector
sector_view-requires-clause-has_sector g c = c.loop-sector-test.true

pub erase_if-requires-clause-lawful : goal.erase_if-requires-clause-lawful
erase_if-requires-clause-lawful g c =
    let a = g.F.Flash.device c.args.flash.now in
    let b = g.F.Flash.device c.loop-sector.flash in
    (area_after a b c.args.area.now c.loop-sector.invariant.touches.banks c.requires).lawful.in_bank

pub erase_if-requires-clause-has_sector : goal.erase_if-requires-clause-has_sector
erase_if-requires-clause-has_sector g c = c.loop-sector-test.true

pub returns-in_err-erase_if-clause-touches : goal.returns-in_err-erase_if-clause-touches
returns-in_err-erase_if-clause-touches g c =
    let a = g.F.Flash.device c.args.flash.now in
    let after = g.F.Flash.device c.erase_if.new.flash in
    subst (λ (lost : Bool). Touches (c.args.area.now ∷ []) a after lost) (sym c.from_residual.ensures.0)
    (then c.loop-sector.invariant.touches c.in_err-erase_if.ensures.touches)

pub returns-in_err-erase_if-clause-mended : goal.returns-in_err-erase_if-clause-mended
returns-in_err-erase_if-clause-mended g c = not_ok _ c.from_residual.result c.from_residual.ensures.0

pub returns-in_err-erase_if-clause-units : goal.returns-in_err-erase_if-clause-units
returns-in_err-erase_if-clause-units g c = not_ok _ c.from_residual.result c.from_residual.ensures.0

pub returns-clause-touches : goal.returns-clause-touches
returns-clause-touches g c = c.loop-sector.invariant.touches

pub returns-clause-idle : goal.returns-clause-idle
returns-clause-idle g c none = c.loop-sector.invariant.idle none

pub returns-clause-part : goal.returns-clause-part
returns-clause-part g c = tt

pub returns-clause-bound : goal.returns-clause-bound
returns-clause-bound g c = tt
