use Rattle.std.proofs.Common.{◌≡◌, ◌<◌, ◌≤◌, ◌∷◌, [], ℕ, Bool, false, List, length, ◌+◌, ◌-◌, ◌/◌, ◌^◌, min, take, drop, sym, subst, arith}
use Rattle.std.proofs.Math.Nat.{zero-mod}
use Rattle.std.proofs.lemmas.List.{take_all}
use Rattle.flash_sim.specs.Device.{Device}
use Rattle.flash_sim.specs.declared.flash.Bank.{Bank}
use Rattle.flash_map.specs.Area.{IsLawfulArea, unit_of, place_of, Writes}
use Rattle.flash_map.specs.Spending.{Spends}
use Rattle.flash_map.specs.Touches.{Touches}
use Rattle.flash_map.proofs.CopyLemmas.{writes_nothing, spends_nothing}
use Rattle.flash_map.proofs.Places.{place_fits}
use Rattle.flash_map.proofs.Results.{not_ok}
use Rattle.flash_map.proofs.Rounding.{is_unit}
use Rattle.flash_map.proofs.SpendingLemmas.{spends-programs, most-fails, piece_spends, piece_at_most}
use Rattle.flash_map.proofs.Touches.{then, untouched}
use Rattle.flash_map.proofs.PieceLemmas.{loses_within, piece_len-is, on_err, end_whole, can_piece, written_more, part_more}
use Rattle.flash_map.specs.declared.pieces.TheConstants.{PIECE}
use Rattle.flash_map.proofs.pieces.program_all.Goals as goal

from-zero : (n : ℕ) → 0 ≤ n
from-zero n = omega arith

both : (m n : ℕ) → m ≤ n → n ≤ m → m ≡ n
both m n le ge = omega arith

-- the end of the next piece
more : (n done end : ℕ) → end ≡ min n (done + 400) → done < n → done < end
more n done end is below = omega arith

before : (n done end : ℕ) → end ≡ min n (done + 400) → done < n → done ≤ end
before n done end is below = omega arith

inside : (n done end : ℕ) → end ≡ min n (done + 400) → end ≤ n
inside n done end is = omega arith

less-left : (n done end : ℕ) → end ≡ min n (done + 400) → done < n → n - end < n - done
less-left n done end is below = omega arith

done-fits : (place size offset n done : ℕ) → place + size < 2 ^ 32 → offset + n ≤ size → done < n → done < 4294967296
done-fits place size offset n done fits inside below = omega arith

end-fits : (place size offset n done : ℕ) → place + size < 2 ^ 32 → offset + n ≤ size → done < n → offset + done < 4294967296
end-fits place size offset n done fits inside below = omega arith

short : (n done end : ℕ) → end ≡ min n (done + 400) → end - done ≤ 400
short n done end is = omega arith

pub area_program-requires-clause-can : goal.area_program-requires-clause-can
area_program-requires-clause-can g c =
    let n : ℕ = length c.args.bytes.now in
    let done : ℕ = c.loop-done.done in
    let end : ℕ = c.min-end.result in
    let some = more n done end c.min-end.ensures c.loop-done-test.true in
    let in_range = inside n done end c.min-end.ensures in
    let few = short n done end c.min-end.ensures in
    let a = g.F.Flash.device c.args.flash.now in
    let kept = c.loop-done.invariant in
    can_piece a (g.F.Flash.device c.loop-done.flash) c.args.area.now (g.met.F.Flash.is_lawful c.args.flash.now) c.requires.lawful c.args.sector c.args.offset c.args.bytes.now c.requires.can done end some in_range kept.whole_units (end_whole a c.args.area.now (g.met.F.Flash.is_lawful c.args.flash.now) c.requires.lawful c.args.sector c.args.offset c.args.bytes.now c.requires.can done end c.min-end.ensures kept.whole_units) kept.touches kept.written few

pub returns-in_err-area_program-clause-lost : goal.returns-in_err-area_program-clause-lost
returns-in_err-area_program-clause-lost g c =
    let n : ℕ = length c.args.bytes.now in
    let done : ℕ = c.loop-done.done in
    let end : ℕ = c.min-end.result in
    let some = more n done end c.min-end.ensures c.loop-done-test.true in
    let in_range = inside n done end c.min-end.ensures in
    let a = g.F.Flash.device c.args.flash.now in
    let kept = c.loop-done.invariant in
    let whole = end_whole a c.args.area.now (g.met.F.Flash.is_lawful c.args.flash.now) c.requires.lawful c.args.sector c.args.offset c.args.bytes.now c.requires.can done end c.min-end.ensures kept.whole_units in
    on_err c.from_residual.result (part_more a (g.F.Flash.device c.loop-done.flash) c.args.area.now (g.met.F.Flash.is_lawful c.args.flash.now) c.requires.lawful c.args.sector c.args.offset c.args.bytes.now c.requires.can done end some in_range kept.whole_units whole kept.touches kept.written (g.F.Flash.device c.area_program.new.flash) c.in_err-area_program.ensures.part)

pub loop-done-preserved : goal.loop-done-preserved
loop-done-preserved g c =
    let n : ℕ = length c.args.bytes.now in
    let done : ℕ = c.loop-done.done in
    let end : ℕ = c.min-end.result in
    let some = more n done end c.min-end.ensures c.loop-done-test.true in
    let less = before n done end c.min-end.ensures c.loop-done-test.true in
    let in_range = inside n done end c.min-end.ensures in
    let a : Device = g.F.Flash.device c.args.flash.now in
    let b : Device = g.F.Flash.device c.loop-done.flash in
    let next : Device = g.F.Flash.device c.area_program.new.flash in
    let lawful = g.met.F.Flash.is_lawful c.args.flash.now in
    let piece : List ℕ = take (c.min-end.result - c.loop-done.done) (drop c.loop-done.done c.args.bytes.now) in
    let kept = c.loop-done.invariant in
    let whole = end_whole a c.args.area.now (g.met.F.Flash.is_lawful c.args.flash.now) c.requires.lawful c.args.sector c.args.offset c.args.bytes.now c.requires.can done end c.min-end.ensures kept.whole_units in
    record {
      in_range = in_range;
      whole_units = whole;
      touches = then {lost = false} kept.touches c.in_ok-area_program.ensures.touches;
      written = written_more a (g.F.Flash.device c.loop-done.flash) c.args.area.now (g.met.F.Flash.is_lawful c.args.flash.now) c.requires.lawful c.args.sector c.args.offset c.args.bytes.now c.requires.can done end some in_range kept.whole_units whole kept.touches kept.written (g.F.Flash.device c.area_program.new.flash) c.in_ok-area_program.ensures.written;
      spent = piece_spends a b next c.args.area.now (is_unit (unit_of a c.args.area.now) (lawful.each_bank c.args.area.now.bank c.requires.lawful.has_bank).unit) done end piece (piece_len-is c.args.bytes.now done end in_range) kept.whole_units less kept.touches.banks kept.spent
          (spends-programs b next (place_of b c.args.area.now c.args.sector (c.args.offset + c.loop-done.done)) piece c.in_ok-area_program.ensures.ok);
    }

pub returns-in_err-area_program-clause-spent_at_most : goal.returns-in_err-area_program-clause-spent_at_most
returns-in_err-area_program-clause-spent_at_most g c =
    let n : ℕ = length c.args.bytes.now in
    let done : ℕ = c.loop-done.done in
    let end : ℕ = c.min-end.result in
    let less = before n done end c.min-end.ensures c.loop-done-test.true in
    let in_range = inside n done end c.min-end.ensures in
    let a : Device = g.F.Flash.device c.args.flash.now in
    let b : Device = g.F.Flash.device c.loop-done.flash in
    let next : Device = g.F.Flash.device c.area_program.new.flash in
    let lawful = g.met.F.Flash.is_lawful c.args.flash.now in
    let kept = c.loop-done.invariant in
    let piece : List ℕ = take (c.min-end.result - c.loop-done.done) (drop c.loop-done.done c.args.bytes.now) in
    on_err c.from_residual.result
    (piece_at_most a b next c.args.area.now (is_unit (unit_of a c.args.area.now) (lawful.each_bank c.args.area.now.bank c.requires.lawful.has_bank).unit) done end piece (piece_len-is c.args.bytes.now done end in_range) kept.whole_units less kept.touches.banks kept.spent
    (length c.args.bytes.now) in_range
    (most-fails b next (place_of b c.args.area.now c.args.sector (c.args.offset + c.loop-done.done)) piece c.in_err-area_program.ensures.lost))

pub returns-in_err-area_program-clause-in_pieces : goal.returns-in_err-area_program-clause-in_pieces
returns-in_err-area_program-clause-in_pieces g c =
    let n : ℕ = length c.args.bytes.now in
    let done : ℕ = c.loop-done.done in
    let end : ℕ = c.min-end.result in
    let in_range = inside n done end c.min-end.ensures in
    let a : Device = g.F.Flash.device c.args.flash.now in
    let b : Device = g.F.Flash.device c.loop-done.flash in
    let next : Device = g.F.Flash.device c.area_program.new.flash in
    let piece : List ℕ = take (c.min-end.result - c.loop-done.done) (drop c.loop-done.done c.args.bytes.now) in
    let long : length piece ≡ c.min-end.result - c.loop-done.done = piece_len-is c.args.bytes.now done end in_range in
    on_err c.from_residual.result
    (loses_within PIECE a b next (c.args.area.now ∷ []) (place_of b c.args.area.now c.args.sector (c.args.offset + c.loop-done.done)) piece c.loop-done.invariant.touches c.in_err-area_program.ensures.lost (omega (arith, long, c.min-end.ensures)))

pub loop-done-init : goal.loop-done-init
loop-done-init g c =
    let a : Device = g.F.Flash.device c.args.flash.now in
    let unit : ℕ = unit_of a c.args.area.now in
    record {
      in_range = from-zero (length c.args.bytes.now);
      whole_units = zero-mod unit;
      touches = untouched (c.args.area.now ∷ []) a;
      written = writes_nothing a c.args.area.now c.args.sector c.args.offset c.args.bytes.now;
      spent = spends_nothing a unit;
    }

pub slice_bounds-area_program-count : goal.slice_bounds-area_program-count
slice_bounds-area_program-count g c =
    before (length c.args.bytes.now) c.loop-done.done c.min-end.result c.min-end.ensures c.loop-done-test.true

pub overflow_cast-done : goal.overflow_cast-done
overflow_cast-done g c =
    let a : Device = g.F.Flash.device c.args.flash.now in
    let can = c.requires.can in
    let fits = place_fits a c.args.area.now (g.met.F.Flash.is_lawful c.args.flash.now) c.requires.lawful c.args.sector can.has_sector in
    record { fits = done-fits _ _ c.args.offset (length c.args.bytes.now) c.loop-done.done fits can.in_sector c.loop-done-test.true }

pub overflow_add-offset : goal.overflow_add-offset
overflow_add-offset g c =
    let a : Device = g.F.Flash.device c.args.flash.now in
    let can = c.requires.can in
    let fits = place_fits a c.args.area.now (g.met.F.Flash.is_lawful c.args.flash.now) c.requires.lawful c.args.sector can.has_sector in
    record { fits = end-fits _ _ c.args.offset (length c.args.bytes.now) c.loop-done.done fits can.in_sector c.loop-done-test.true }

pub area_program-requires-clause-lawful : goal.area_program-requires-clause-lawful
area_program-requires-clause-lawful g c =
    let banks = c.loop-done.invariant.touches.banks in
    subst (λ (l : List Bank). IsLawfulArea l c.args.area.now) (sym banks) c.requires.lawful

pub returns-in_err-area_program-clause-touches : goal.returns-in_err-area_program-clause-touches
returns-in_err-area_program-clause-touches g c =
    let a : Device = g.F.Flash.device c.args.flash.now in
    let next : Device = g.F.Flash.device c.area_program.new.flash in
    subst (λ (lost : Bool). Touches (c.args.area.now ∷ []) a next lost) (sym c.from_residual.ensures.0)
    (then c.loop-done.invariant.touches c.in_err-area_program.ensures.touches)

pub returns-in_err-area_program-clause-ok : goal.returns-in_err-area_program-clause-ok
returns-in_err-area_program-clause-ok g c = not_ok _ c.from_residual.result c.from_residual.ensures.0

pub returns-in_err-area_program-clause-spent : goal.returns-in_err-area_program-clause-spent
returns-in_err-area_program-clause-spent g c = not_ok _ c.from_residual.result c.from_residual.ensures.0

pub returns-clause-touches : goal.returns-clause-touches
returns-clause-touches g c = c.loop-done.invariant.touches

pub returns-clause-ok : goal.returns-clause-ok
returns-clause-ok g c =
    let a : Device = g.F.Flash.device c.args.flash.now in
    let b : Device = g.F.Flash.device c.loop-done.flash in
    let kept = c.loop-done.invariant in
    let all = take_all c.loop-done.done c.args.bytes.now c.loop-done-test.false in
    subst (λ (xs : List ℕ). Writes a b c.args.area.now c.args.sector c.args.offset xs) all kept.written

pub returns-clause-spent : goal.returns-clause-spent
returns-clause-spent g c =
    let a : Device = g.F.Flash.device c.args.flash.now in
    let b : Device = g.F.Flash.device c.loop-done.flash in
    let kept = c.loop-done.invariant in
    let all = both c.loop-done.done (length c.args.bytes.now) kept.in_range c.loop-done-test.false in
    subst (λ (n : ℕ). Spends a b (n / unit_of a c.args.area.now)) all kept.spent

pub returns-clause-lost : goal.returns-clause-lost
returns-clause-lost g c = tt

pub returns-clause-in_pieces : goal.returns-clause-in_pieces
returns-clause-in_pieces g c = tt

pub returns-clause-spent_at_most : goal.returns-clause-spent_at_most
returns-clause-spent_at_most g c = tt

pub loop-done-smaller : goal.loop-done-smaller
loop-done-smaller g c = less-left (length c.args.bytes.now) c.loop-done.done c.min-end.result c.min-end.ensures c.loop-done-test.true
