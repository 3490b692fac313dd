use Rattle.std.proofs.Common.{ℕ, List, Bool, [], ◌∷◌, ◌++◌, length, take, length-take-le, drop, replicate}
use Rattle.std.proofs.Common.{◌≡◌, ◌<◌, ◌≤◌, ◌+◌, ◌-◌, ◌*◌, ◌/◌, sym, ap, subst, arith}
use Rattle.std.proofs.lemmas.Nat.{div-add-mod'}
use Rattle.std.proofs.lemmas.List.{length-take, length-append, length-replicate}
use Rattle.std.proofs.lemmas.Result.{on_ok_weaker, on_err_weaker}
use Rattle.flash_sim.specs.Bank.{IsLawful}
use Rattle.flash_sim.specs.Device.{Device}
use Rattle.flash_map.specs.declared.area.Area.{Area}
use Rattle.flash_map.specs.declared.area.Geometry.{Geometry}
use Rattle.flash_sim.specs.declared.flash.Bank.{Bank}
use Rattle.flash_map.specs.Area.{IsLawfulArea, unit_of, place_of}
use Rattle.flash_map.specs.Touches.{Touches}
use Rattle.flash_map.specs.Pieces.{CanProgramAll}
use Rattle.flash_map.specs.Units.{padded_bytes}
use Rattle.flash_map.proofs.Places.{place_fits}
use Rattle.flash_map.proofs.Results.{not_ok}
use Rattle.flash_map.proofs.PaddedLemmas.{length-padded_bytes, can_prefix, prefix_part, prefix_most, all_written, all_spent}
use Rattle.flash_map.proofs.PaddedLemmas.{can_last, last_written, last_part, last_spent, last_most}
use Rattle.flash_map.proofs.PieceLemmas.{on_err, loses_within, unit-most}
use Rattle.flash_map.proofs.Rounding.{is_unit, padding}
use Rattle.flash_map.specs.declared.pieces.TheConstants.{PIECE}
use Rattle.flash_map.proofs.SpendingLemmas.{spends-programs, most-fails}
use Rattle.flash_map.proofs.Touches.{then}
use Rattle.flash_map.proofs.pieces.program_padded.Goals as goal

unit-fits : (unit other : ℕ) → unit ≡ other → other ≤ 16 → unit < 18446744073709551616
unit-fits unit other is small = omega arith

-- the bytes end in the sector
bytes-fit : (a : Device) (area : Area) → IsLawful a.banks a.bytes → IsLawfulArea a.banks area → (sector offset : ℕ) (bytes : List ℕ)
    → CanProgramAll a area sector offset (padded_bytes (unit_of a area) bytes) → offset + length bytes < 4294967296
bytes-fit a area lawful is sector offset bytes can =
    let unit = is_unit (unit_of a area) (lawful.each_bank area.bank is.has_bank).unit in
    let long = length-padded_bytes (unit_of a area) bytes unit in
    let no_less = (padding (unit_of a area) unit).no_less (length bytes) in
    let fits = place_fits a area lawful is sector can.has_sector in
    omega (arith, can.in_sector)

-- its whole units
whole-inside : (n unit : ℕ) → n / unit * unit ≤ n
whole-inside n unit = omega (arith, div-add-mod' n unit)

whole-fits : (offset n unit : ℕ) → offset + n < 4294967296 → n / unit * unit < 4294967296
whole-fits offset n unit fits = let inside = whole-inside n unit in omega arith

long-fits : (offset n unit : ℕ) → offset + n < 4294967296 → n / unit * unit < 18446744073709551616
long-fits offset n unit fits = let inside = whole-inside n unit in omega arith

end-fits : (offset n unit : ℕ) → offset + n < 4294967296 → offset + n / unit * unit < 4294967296
end-fits offset n unit fits = let inside = whole-inside n unit in omega arith

-- what is left behind them
last-short : (n unit other : ℕ) → unit ≡ other → 0 < other → other ≤ 16 → n - n / unit * unit ≤ 16
last-short n unit other is positive small = let some : 0 < unit = omega arith in omega (arith, div-add-mod' n unit)

take-short : (n : ℕ) (xs : List ℕ) → n ≤ 16 → length (take n xs) ≤ 16
take-short n xs short = omega (arith, length-take n xs)

unit-inside : (unit other : ℕ) (xs last : List ℕ) → unit ≡ other → other ≤ 16
    → last ≡ xs ++ replicate (16 - length xs) 0xFF → unit ≤ length last
unit-inside unit other xs last is small filled =
    let long = ap length filled in
    omega (arith, length-append xs (replicate (16 - length xs) 0xFF), length-replicate {A = ℕ} (16 - length xs) 0xFF)

pub program_all-requires-clause-can : goal.program_all-requires-clause-can
program_all-requires-clause-can g c =
    let a : Device = g.F.Flash.device c.args.flash.now in
    let lawful = g.met.F.Flash.is_lawful c.args.flash.now in
    let unit : c.geometry-unit.result.unit ≡ unit_of a c.args.area.now = ap (λ (x : Geometry). x.unit) c.geometry-unit.ensures in
    can_prefix a a c.args.area.now lawful c.requires.lawful c.args.sector c.args.offset c.args.bytes.now c.requires.can c.geometry-unit.result.unit unit

pub returns-in_err-program_all-clause-lost : goal.returns-in_err-program_all-clause-lost
returns-in_err-program_all-clause-lost g c =
    let a : Device = g.F.Flash.device c.args.flash.now in
    let lawful = g.met.F.Flash.is_lawful c.args.flash.now in
    let unit : c.geometry-unit.result.unit ≡ unit_of a c.args.area.now = ap (λ (x : Geometry). x.unit) c.geometry-unit.ensures in
    let b : Device = g.F.Flash.device c.program_all.new.flash in
    on_err c.from_residual.result (prefix_part a b c.args.area.now lawful c.requires.lawful c.args.sector c.args.offset c.args.bytes.now c.requires.can c.geometry-unit.result.unit unit c.in_err-program_all.ensures.lost)

pub returns-in_err-program_all-clause-spent_at_most : goal.returns-in_err-program_all-clause-spent_at_most
returns-in_err-program_all-clause-spent_at_most g c =
    let a : Device = g.F.Flash.device c.args.flash.now in
    let lawful = g.met.F.Flash.is_lawful c.args.flash.now in
    let unit : c.geometry-unit.result.unit ≡ unit_of a c.args.area.now = ap (λ (x : Geometry). x.unit) c.geometry-unit.ensures in
    let b : Device = g.F.Flash.device c.program_all.new.flash in
    on_err c.from_residual.result (prefix_most a b c.args.area.now lawful c.requires.lawful c.args.sector c.args.offset c.args.bytes.now c.requires.can c.geometry-unit.result.unit unit c.in_err-program_all.ensures.spent_at_most)

pub returns-then-whole-bytes-clause-ok : goal.returns-then-whole-bytes-clause-ok
returns-then-whole-bytes-clause-ok g c =
    let a : Device = g.F.Flash.device c.args.flash.now in
    let lawful = g.met.F.Flash.is_lawful c.args.flash.now in
    let unit : c.geometry-unit.result.unit ≡ unit_of a c.args.area.now = ap (λ (x : Geometry). x.unit) c.geometry-unit.ensures in
    let b : Device = g.F.Flash.device c.program_all.new.flash in
    all_written a b c.args.area.now lawful c.requires.lawful c.args.sector c.args.offset c.args.bytes.now c.requires.can c.geometry-unit.result.unit unit c.if-whole-bytes.true c.in_ok-program_all.ensures.ok

pub returns-then-whole-bytes-clause-spent : goal.returns-then-whole-bytes-clause-spent
returns-then-whole-bytes-clause-spent g c =
    let a : Device = g.F.Flash.device c.args.flash.now in
    let lawful = g.met.F.Flash.is_lawful c.args.flash.now in
    let unit : c.geometry-unit.result.unit ≡ unit_of a c.args.area.now = ap (λ (x : Geometry). x.unit) c.geometry-unit.ensures in
    let b : Device = g.F.Flash.device c.program_all.new.flash in
    all_spent a b c.args.area.now lawful c.requires.lawful c.args.sector c.args.offset c.args.bytes.now c.requires.can c.geometry-unit.result.unit unit c.if-whole-bytes.true c.in_ok-program_all.ensures.spent

pub area_program-requires-clause-can : goal.area_program-requires-clause-can
area_program-requires-clause-can g c =
    let a : Device = g.F.Flash.device c.args.flash.now in
    let lawful = g.met.F.Flash.is_lawful c.args.flash.now in
    let unit : c.geometry-unit.result.unit ≡ unit_of a c.args.area.now = ap (λ (x : Geometry). x.unit) c.geometry-unit.ensures in
    let b : Device = g.F.Flash.device c.program_all.new.flash in
    can_last a b c.args.area.now lawful c.requires.lawful c.args.sector c.args.offset c.args.bytes.now c.requires.can c.geometry-unit.result.unit unit c.if-whole-bytes.false c.in_ok-program_all.ensures.touches c.in_ok-program_all.ensures.ok c.in_ok-program_all.ensures.spent c.last_unit-last.result c.last_unit-last.ensures

pub returns-clause-touches : goal.returns-clause-touches
returns-clause-touches g c =
    then c.in_ok-program_all.ensures.touches c.area_program.ensures.touches

pub returns-clause-ok : goal.returns-clause-ok
returns-clause-ok g c =
    let a : Device = g.F.Flash.device c.args.flash.now in
    let lawful = g.met.F.Flash.is_lawful c.args.flash.now in
    let unit : c.geometry-unit.result.unit ≡ unit_of a c.args.area.now = ap (λ (x : Geometry). x.unit) c.geometry-unit.ensures in
    let b : Device = g.F.Flash.device c.program_all.new.flash in
    let end : Device = g.F.Flash.device c.area_program.new.flash in
    on_ok_weaker c.area_program.result (last_written a b c.args.area.now lawful c.requires.lawful c.args.sector c.args.offset c.args.bytes.now c.requires.can c.geometry-unit.result.unit unit c.if-whole-bytes.false c.in_ok-program_all.ensures.touches c.in_ok-program_all.ensures.ok c.in_ok-program_all.ensures.spent c.last_unit-last.result c.last_unit-last.ensures end) c.area_program.ensures.written

pub returns-clause-spent : goal.returns-clause-spent
returns-clause-spent g c =
    let a : Device = g.F.Flash.device c.args.flash.now in
    let lawful = g.met.F.Flash.is_lawful c.args.flash.now in
    let unit : c.geometry-unit.result.unit ≡ unit_of a c.args.area.now = ap (λ (x : Geometry). x.unit) c.geometry-unit.ensures in
    let b : Device = g.F.Flash.device c.program_all.new.flash in
    let end : Device = g.F.Flash.device c.area_program.new.flash in
    on_ok_weaker c.area_program.result (λ done. last_spent a b c.args.area.now lawful c.requires.lawful c.args.sector c.args.offset c.args.bytes.now c.requires.can c.geometry-unit.result.unit unit c.if-whole-bytes.false c.in_ok-program_all.ensures.touches c.in_ok-program_all.ensures.ok c.in_ok-program_all.ensures.spent c.last_unit-last.result c.last_unit-last.ensures end (spends-programs b end (place_of b c.args.area.now c.args.sector (c.args.offset + length c.args.bytes.now / c.geometry-unit.result.unit * c.geometry-unit.result.unit)) (take c.geometry-unit.result.unit c.last_unit-last.result) done)) c.area_program.ensures.ok

pub returns-clause-lost : goal.returns-clause-lost
returns-clause-lost g c =
    let a : Device = g.F.Flash.device c.args.flash.now in
    let lawful = g.met.F.Flash.is_lawful c.args.flash.now in
    let unit : c.geometry-unit.result.unit ≡ unit_of a c.args.area.now = ap (λ (x : Geometry). x.unit) c.geometry-unit.ensures in
    let b : Device = g.F.Flash.device c.program_all.new.flash in
    let end : Device = g.F.Flash.device c.area_program.new.flash in
    on_err_weaker c.area_program.result (last_part a b c.args.area.now lawful c.requires.lawful c.args.sector c.args.offset c.args.bytes.now c.requires.can c.geometry-unit.result.unit unit c.if-whole-bytes.false c.in_ok-program_all.ensures.touches c.in_ok-program_all.ensures.ok c.in_ok-program_all.ensures.spent c.last_unit-last.result c.last_unit-last.ensures end) c.area_program.ensures.part

pub returns-clause-spent_at_most : goal.returns-clause-spent_at_most
returns-clause-spent_at_most g c =
    let a : Device = g.F.Flash.device c.args.flash.now in
    let lawful = g.met.F.Flash.is_lawful c.args.flash.now in
    let unit : c.geometry-unit.result.unit ≡ unit_of a c.args.area.now = ap (λ (x : Geometry). x.unit) c.geometry-unit.ensures in
    let b : Device = g.F.Flash.device c.program_all.new.flash in
    let end : Device = g.F.Flash.device c.area_program.new.flash in
    on_err_weaker c.area_program.result (λ cut. last_most a b c.args.area.now lawful c.requires.lawful c.args.sector c.args.offset c.args.bytes.now c.requires.can c.geometry-unit.result.unit unit c.if-whole-bytes.false c.in_ok-program_all.ensures.touches c.in_ok-program_all.ensures.ok c.in_ok-program_all.ensures.spent c.last_unit-last.result c.last_unit-last.ensures end (most-fails b end (place_of b c.args.area.now c.args.sector (c.args.offset + length c.args.bytes.now / c.geometry-unit.result.unit * c.geometry-unit.result.unit)) (take c.geometry-unit.result.unit c.last_unit-last.result) cut)) c.area_program.ensures.lost

pub returns-clause-in_pieces : goal.returns-clause-in_pieces
returns-clause-in_pieces g c =
    let a : Device = g.F.Flash.device c.args.flash.now in
    let lawful = g.met.F.Flash.is_lawful c.args.flash.now in
    let unit : c.geometry-unit.result.unit ≡ unit_of a c.args.area.now = ap (λ (x : Geometry). x.unit) c.geometry-unit.ensures in
    let b : Device = g.F.Flash.device c.program_all.new.flash in
    let end : Device = g.F.Flash.device c.area_program.new.flash in
    let long = length-take c.geometry-unit.result.unit c.last_unit-last.result in
    let most = unit-most (unit_of a c.args.area.now) (is_unit (unit_of a c.args.area.now) (lawful.each_bank c.args.area.now.bank c.requires.lawful.has_bank).unit) in
    let short : length (take c.geometry-unit.result.unit c.last_unit-last.result) ≤ PIECE = omega (arith, long, unit, most) in
    on_err_weaker c.area_program.result (λ cut. loses_within PIECE a b end (c.args.area.now ∷ []) (place_of b c.args.area.now c.args.sector (c.args.offset + length c.args.bytes.now / c.geometry-unit.result.unit * c.geometry-unit.result.unit)) (take c.geometry-unit.result.unit c.last_unit-last.result) c.in_ok-program_all.ensures.touches cut short) c.area_program.ensures.lost

pub geometry-unit-requires : goal.geometry-unit-requires
geometry-unit-requires g c = c.requires.lawful

pub overflow_cast-unit : goal.overflow_cast-unit
overflow_cast-unit g c =
    let a : Device = g.F.Flash.device c.args.flash.now in
    let unit : c.geometry-unit.result.unit ≡ unit_of a c.args.area.now = ap (λ (x : Geometry). x.unit) c.geometry-unit.ensures in
    let bank = (g.met.F.Flash.is_lawful c.args.flash.now).each_bank c.args.area.now.bank c.requires.lawful.has_bank in
    let pad = padding (unit_of a c.args.area.now) (is_unit (unit_of a c.args.area.now) bank.unit) in
    record { fits = unit-fits _ _ unit pad.small }

pub nonzero_div-whole : goal.nonzero_div-whole
nonzero_div-whole g c =
    let a : Device = g.F.Flash.device c.args.flash.now in
    let unit : c.geometry-unit.result.unit ≡ unit_of a c.args.area.now = ap (λ (x : Geometry). x.unit) c.geometry-unit.ensures in
    let bank = (g.met.F.Flash.is_lawful c.args.flash.now).each_bank c.args.area.now.bank c.requires.lawful.has_bank in
    let pad = padding (unit_of a c.args.area.now) (is_unit (unit_of a c.args.area.now) bank.unit) in
    subst (λ (n : ℕ). 0 < n) (sym unit) pad.positive

pub overflow_mul-whole : goal.overflow_mul-whole
overflow_mul-whole g c =
    let a : Device = g.F.Flash.device c.args.flash.now in
    let lawful = g.met.F.Flash.is_lawful c.args.flash.now in
    let fits = bytes-fit a c.args.area.now lawful c.requires.lawful c.args.sector c.args.offset c.args.bytes.now c.requires.can in
    record { fits = long-fits c.args.offset (length c.args.bytes.now) c.geometry-unit.result.unit fits }

pub slice_bounds-program_all-end : goal.slice_bounds-program_all-end
slice_bounds-program_all-end g c =
    let inside = whole-inside (length c.args.bytes.now) c.geometry-unit.result.unit in
    sym (length-take-le (length c.args.bytes.now / c.geometry-unit.result.unit * c.geometry-unit.result.unit) c.args.bytes.now inside)

pub program_all-requires-clause-lawful : goal.program_all-requires-clause-lawful
program_all-requires-clause-lawful g c = c.requires.lawful

pub returns-in_err-program_all-clause-touches : goal.returns-in_err-program_all-clause-touches
returns-in_err-program_all-clause-touches g c =
    let a : Device = g.F.Flash.device c.args.flash.now in
    let b : Device = g.F.Flash.device c.program_all.new.flash in
    subst (λ (lost : Bool). Touches (c.args.area.now ∷ []) a b lost) (sym c.from_residual.ensures.0) c.in_err-program_all.ensures.touches

pub returns-in_err-program_all-clause-ok : goal.returns-in_err-program_all-clause-ok
returns-in_err-program_all-clause-ok g c = not_ok _ c.from_residual.result c.from_residual.ensures.0

pub returns-in_err-program_all-clause-spent : goal.returns-in_err-program_all-clause-spent
returns-in_err-program_all-clause-spent g c = not_ok _ c.from_residual.result c.from_residual.ensures.0

pub returns-in_err-program_all-clause-in_pieces : goal.returns-in_err-program_all-clause-in_pieces
returns-in_err-program_all-clause-in_pieces g c = on_err c.from_residual.result c.in_err-program_all.ensures.in_pieces

pub returns-then-whole-bytes-clause-touches : goal.returns-then-whole-bytes-clause-touches
returns-then-whole-bytes-clause-touches g c = c.in_ok-program_all.ensures.touches

pub returns-then-whole-bytes-clause-lost : goal.returns-then-whole-bytes-clause-lost
returns-then-whole-bytes-clause-lost g c = tt

pub returns-then-whole-bytes-clause-in_pieces : goal.returns-then-whole-bytes-clause-in_pieces
returns-then-whole-bytes-clause-in_pieces g c = tt

pub returns-then-whole-bytes-clause-spent_at_most : goal.returns-then-whole-bytes-clause-spent_at_most
returns-then-whole-bytes-clause-spent_at_most g c = tt

pub slice_bounds-last_unit-count : goal.slice_bounds-last_unit-count
slice_bounds-last_unit-count g c = whole-inside (length c.args.bytes.now) c.geometry-unit.result.unit

pub last_unit-last-requires : goal.last_unit-last-requires
last_unit-last-requires g c =
    let a : Device = g.F.Flash.device c.args.flash.now in
    let unit : c.geometry-unit.result.unit ≡ unit_of a c.args.area.now = ap (λ (x : Geometry). x.unit) c.geometry-unit.ensures in
    let bank = (g.met.F.Flash.is_lawful c.args.flash.now).each_bank c.args.area.now.bank c.requires.lawful.has_bank in
    let pad = padding (unit_of a c.args.area.now) (is_unit (unit_of a c.args.area.now) bank.unit) in
    let n : ℕ = length c.args.bytes.now in
    let short = last-short n c.geometry-unit.result.unit _ unit pad.positive pad.small in
    let whole : ℕ = n / c.geometry-unit.result.unit * c.geometry-unit.result.unit in
    take-short (n - whole) (drop whole c.args.bytes.now) short

pub overflow_cast-whole : goal.overflow_cast-whole
overflow_cast-whole g c =
    let a : Device = g.F.Flash.device c.args.flash.now in
    let lawful = g.met.F.Flash.is_lawful c.args.flash.now in
    let fits = bytes-fit a c.args.area.now lawful c.requires.lawful c.args.sector c.args.offset c.args.bytes.now c.requires.can in
    record { fits = whole-fits c.args.offset (length c.args.bytes.now) c.geometry-unit.result.unit fits }

pub overflow_add-offset : goal.overflow_add-offset
overflow_add-offset g c =
    let a : Device = g.F.Flash.device c.args.flash.now in
    let lawful = g.met.F.Flash.is_lawful c.args.flash.now in
    let fits = bytes-fit a c.args.area.now lawful c.requires.lawful c.args.sector c.args.offset c.args.bytes.now c.requires.can in
    record { fits = end-fits c.args.offset (length c.args.bytes.now) c.geometry-unit.result.unit fits }

pub slice_bounds-last-end : goal.slice_bounds-last-end
slice_bounds-last-end g c =
    let a : Device = g.F.Flash.device c.args.flash.now in
    let unit : c.geometry-unit.result.unit ≡ unit_of a c.args.area.now = ap (λ (x : Geometry). x.unit) c.geometry-unit.ensures in
    let bank = (g.met.F.Flash.is_lawful c.args.flash.now).each_bank c.args.area.now.bank c.requires.lawful.has_bank in
    let pad = padding (unit_of a c.args.area.now) (is_unit (unit_of a c.args.area.now) bank.unit) in
    let whole : ℕ = length c.args.bytes.now / c.geometry-unit.result.unit * c.geometry-unit.result.unit in
    let rest : List ℕ = take (length c.args.bytes.now - whole) (drop whole c.args.bytes.now) in
    unit-inside c.geometry-unit.result.unit _ rest c.last_unit-last.result unit pad.small c.last_unit-last.ensures

pub slice_bounds-area_program-end : goal.slice_bounds-area_program-end
slice_bounds-area_program-end g c =
    let a : Device = g.F.Flash.device c.args.flash.now in
    let unit : c.geometry-unit.result.unit ≡ unit_of a c.args.area.now = ap (λ (x : Geometry). x.unit) c.geometry-unit.ensures in
    let bank = (g.met.F.Flash.is_lawful c.args.flash.now).each_bank c.args.area.now.bank c.requires.lawful.has_bank in
    let pad = padding (unit_of a c.args.area.now) (is_unit (unit_of a c.args.area.now) bank.unit) in
    let whole : ℕ = length c.args.bytes.now / c.geometry-unit.result.unit * c.geometry-unit.result.unit in
    let rest : List ℕ = take (length c.args.bytes.now - whole) (drop whole c.args.bytes.now) in
    let last : List ℕ = c.last_unit-last.result in
    let inside = unit-inside c.geometry-unit.result.unit _ rest last unit pad.small c.last_unit-last.ensures in
    sym (length-take-le c.geometry-unit.result.unit last inside)

pub area_program-requires-clause-lawful : goal.area_program-requires-clause-lawful
area_program-requires-clause-lawful g c =
    let banks = c.in_ok-program_all.ensures.touches.banks in
    subst (λ (l : List Bank). IsLawfulArea l c.args.area.now) (sym banks) c.requires.lawful
