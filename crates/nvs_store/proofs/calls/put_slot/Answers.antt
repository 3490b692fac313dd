use Rattle.std.proofs.Common.{◌≡◌, ℕ, ◌/◌, ◌<◌, ◌≤◌, List, ◌++◌, length, take, replicate, sym, ap, subst, ◌∙◌, arith}
use Rattle.std.proofs.lemmas.List.{length-append, length-replicate, length-take-le}
use Rattle.std.proofs.lemmas.Result.{on_ok_weaker, on_err_weaker}
use Rattle.flash_sim.specs.Device.{Device}
use Rattle.flash_map.specs.declared.area.Geometry.{Geometry}
use Rattle.flash_map.specs.Area.{unit_of, place_of, CanProgramIn, Writes, WritesPart}
use Rattle.flash_map.specs.Spending.{Spends, SpendsAtMost}
use Rattle.flash_map.specs.Units.{IsUnit, padded, padded_bytes}
use Rattle.flash_map.proofs.PaddedLemmas.{length-padded_bytes}
use Rattle.flash_map.proofs.PieceLemmas.{loses_one}
use Rattle.flash_map.proofs.SpendingLemmas.{spends-programs, most-fails}
use Rattle.nvs_store.specs.Geometry.{slot_size}
use Rattle.nvs_store.proofs.SlotPutting.{slot_filled, slot_long, can_slot}
use Rattle.nvs_store.proofs.Views.{unit_is}
use Rattle.nvs_store.proofs.calls.put_slot.Goals as goal

size-fits : (size : ℕ) → size ≤ 16 → size < 18446744073709551616
size-fits size most = omega arith

slot-inside : (size : ℕ) (bytes slot : List ℕ) → size ≤ 16 → length bytes ≡ 8 → slot ≡ bytes ++ replicate 8 0xFF → size ≤ length slot
slot-inside size bytes slot most eight filled =
    let long = ap length filled in
    omega (arith, length-append bytes (replicate 8 0xFF), length-replicate {A = ℕ} 8 0xFF)

pub area_program-requires-clause-can : goal.area_program-requires-clause-can
area_program-requires-clause-can g c =
    let a : Device = g.F.Flash.device c.args.flash.now in
    let unit : ℕ = unit_of a c.args.area.now in
    let is-unit : IsUnit unit = unit_is a c.args.area.now (g.met.F.Flash.is_lawful c.args.flash.now) c.requires.lawful in
    let eight : length c.args.bytes.now ≡ 8 = c.told-bytes in
    let width : c.slot_size-size.result ≡ slot_size unit = c.slot_size-size.ensures.size ∙ ap (λ (x : Geometry). slot_size x.unit) c.geometry.ensures in
    let all : take c.slot_size-size.result c.filled-slot.result ≡ padded_bytes unit c.args.bytes.now =
    ap (take c.slot_size-size.result) c.filled-slot.ensures ∙ slot_filled unit c.slot_size-size.result c.args.bytes.now is-unit eight width in
    subst (λ (xs : List ℕ). CanProgramIn a c.args.area.now c.args.sector c.args.start xs) (sym all)
    (can_slot a c.args.area.now c.args.sector c.args.start (padded_bytes unit c.args.bytes.now) (slot_long unit c.args.bytes.now is-unit eight) c.requires.can)

pub returns-clause-ok : goal.returns-clause-ok
returns-clause-ok g c =
    let a : Device = g.F.Flash.device c.args.flash.now in
    let unit : ℕ = unit_of a c.args.area.now in
    let is-unit : IsUnit unit = unit_is a c.args.area.now (g.met.F.Flash.is_lawful c.args.flash.now) c.requires.lawful in
    let eight : length c.args.bytes.now ≡ 8 = c.told-bytes in
    let width : c.slot_size-size.result ≡ slot_size unit = c.slot_size-size.ensures.size ∙ ap (λ (x : Geometry). slot_size x.unit) c.geometry.ensures in
    let all : take c.slot_size-size.result c.filled-slot.result ≡ padded_bytes unit c.args.bytes.now =
    ap (take c.slot_size-size.result) c.filled-slot.ensures ∙ slot_filled unit c.slot_size-size.result c.args.bytes.now is-unit eight width in
    let e : Device = g.F.Flash.device c.area_program.new.flash in
    on_ok_weaker c.area_program.result (subst (λ (xs : List ℕ). Writes a e c.args.area.now c.args.sector c.args.start xs) all) c.area_program.ensures.written

pub returns-clause-spent : goal.returns-clause-spent
returns-clause-spent g c =
    let a : Device = g.F.Flash.device c.args.flash.now in
    let unit : ℕ = unit_of a c.args.area.now in
    let is-unit : IsUnit unit = unit_is a c.args.area.now (g.met.F.Flash.is_lawful c.args.flash.now) c.requires.lawful in
    let eight : length c.args.bytes.now ≡ 8 = c.told-bytes in
    let width : c.slot_size-size.result ≡ slot_size unit = c.slot_size-size.ensures.size ∙ ap (λ (x : Geometry). slot_size x.unit) c.geometry.ensures in
    let all : take c.slot_size-size.result c.filled-slot.result ≡ padded_bytes unit c.args.bytes.now =
    ap (take c.slot_size-size.result) c.filled-slot.ensures ∙ slot_filled unit c.slot_size-size.result c.args.bytes.now is-unit eight width in
    let e : Device = g.F.Flash.device c.area_program.new.flash in
    let units : length (take c.slot_size-size.result c.filled-slot.result) / unit ≡ padded unit (length c.args.bytes.now) / unit = ap (λ (n : ℕ). n / unit) (ap length all ∙ length-padded_bytes unit c.args.bytes.now is-unit) in
    on_ok_weaker c.area_program.result (λ puts. subst (λ (n : ℕ). Spends a e n) units (spends-programs a e (place_of a c.args.area.now c.args.sector c.args.start) (take c.slot_size-size.result c.filled-slot.result) puts)) c.area_program.ensures.ok

pub returns-clause-lost : goal.returns-clause-lost
returns-clause-lost g c =
    let a : Device = g.F.Flash.device c.args.flash.now in
    let unit : ℕ = unit_of a c.args.area.now in
    let is-unit : IsUnit unit = unit_is a c.args.area.now (g.met.F.Flash.is_lawful c.args.flash.now) c.requires.lawful in
    let eight : length c.args.bytes.now ≡ 8 = c.told-bytes in
    let width : c.slot_size-size.result ≡ slot_size unit = c.slot_size-size.ensures.size ∙ ap (λ (x : Geometry). slot_size x.unit) c.geometry.ensures in
    let all : take c.slot_size-size.result c.filled-slot.result ≡ padded_bytes unit c.args.bytes.now =
    ap (take c.slot_size-size.result) c.filled-slot.ensures ∙ slot_filled unit c.slot_size-size.result c.args.bytes.now is-unit eight width in
    let e : Device = g.F.Flash.device c.area_program.new.flash in
    on_err_weaker c.area_program.result (subst (λ (xs : List ℕ). WritesPart a e c.args.area.now c.args.sector c.args.start xs) all) c.area_program.ensures.part

pub returns-clause-in_slot : goal.returns-clause-in_slot
returns-clause-in_slot g c =
    let a : Device = g.F.Flash.device c.args.flash.now in
    let unit : ℕ = unit_of a c.args.area.now in
    let is-unit : IsUnit unit = unit_is a c.args.area.now (g.met.F.Flash.is_lawful c.args.flash.now) c.requires.lawful in
    let eight : length c.args.bytes.now ≡ 8 = c.told-bytes in
    let width : c.slot_size-size.result ≡ slot_size unit = c.slot_size-size.ensures.size ∙ ap (λ (x : Geometry). slot_size x.unit) c.geometry.ensures in
    let all : take c.slot_size-size.result c.filled-slot.result ≡ padded_bytes unit c.args.bytes.now =
    ap (take c.slot_size-size.result) c.filled-slot.ensures ∙ slot_filled unit c.slot_size-size.result c.args.bytes.now is-unit eight width in
    let e : Device = g.F.Flash.device c.area_program.new.flash in
    let most = (slot_long unit c.args.bytes.now is-unit eight).1 in
    let short : length (take c.slot_size-size.result c.filled-slot.result) ≤ 16 = subst (λ (xs : List ℕ). length xs ≤ 16) (sym all) most in
    on_err_weaker c.area_program.result (λ fails. loses_one 16 a e (place_of a c.args.area.now c.args.sector c.args.start) (take c.slot_size-size.result c.filled-slot.result) fails short) c.area_program.ensures.lost

pub returns-clause-spent_at_most : goal.returns-clause-spent_at_most
returns-clause-spent_at_most g c =
    let a : Device = g.F.Flash.device c.args.flash.now in
    let unit : ℕ = unit_of a c.args.area.now in
    let is-unit : IsUnit unit = unit_is a c.args.area.now (g.met.F.Flash.is_lawful c.args.flash.now) c.requires.lawful in
    let eight : length c.args.bytes.now ≡ 8 = c.told-bytes in
    let width : c.slot_size-size.result ≡ slot_size unit = c.slot_size-size.ensures.size ∙ ap (λ (x : Geometry). slot_size x.unit) c.geometry.ensures in
    let all : take c.slot_size-size.result c.filled-slot.result ≡ padded_bytes unit c.args.bytes.now =
    ap (take c.slot_size-size.result) c.filled-slot.ensures ∙ slot_filled unit c.slot_size-size.result c.args.bytes.now is-unit eight width in
    let e : Device = g.F.Flash.device c.area_program.new.flash in
    let units : length (take c.slot_size-size.result c.filled-slot.result) / unit ≡ padded unit (length c.args.bytes.now) / unit = ap (λ (n : ℕ). n / unit) (ap length all ∙ length-padded_bytes unit c.args.bytes.now is-unit) in
    on_err_weaker c.area_program.result (λ fails. subst (λ (n : ℕ). SpendsAtMost a e n) units (most-fails a e (place_of a c.args.area.now c.args.sector c.args.start) (take c.slot_size-size.result c.filled-slot.result) fails)) c.area_program.ensures.lost

pub geometry-requires : goal.geometry-requires
geometry-requires g c = c.requires.lawful

pub slot_size-size-requires : goal.slot_size-size-requires
slot_size-size-requires g c =
    let lawful = g.met.F.Flash.is_lawful c.args.flash.now in
    let is-unit = unit_is (g.F.Flash.device c.args.flash.now) c.args.area.now lawful c.requires.lawful in
    subst (λ (x : Geometry). IsUnit x.unit) (sym c.geometry.ensures) is-unit

pub overflow_cast-size : goal.overflow_cast-size
overflow_cast-size g c = record { fits = size-fits c.slot_size-size.result c.slot_size-size.ensures.at_most }

pub slice_bounds-slot-end : goal.slice_bounds-slot-end
slice_bounds-slot-end g c =
    let most = c.slot_size-size.ensures.at_most in
    slot-inside c.slot_size-size.result c.args.bytes.now c.filled-slot.result most c.told-bytes c.filled-slot.ensures

pub slice_bounds-area_program-end : goal.slice_bounds-area_program-end
slice_bounds-area_program-end g c =
    let most = c.slot_size-size.ensures.at_most in
    let inside = slot-inside c.slot_size-size.result c.args.bytes.now c.filled-slot.result most c.told-bytes c.filled-slot.ensures in
    sym (length-take-le c.slot_size-size.result c.filled-slot.result inside)

pub area_program-requires-clause-lawful : goal.area_program-requires-clause-lawful
area_program-requires-clause-lawful g c = c.requires.lawful

pub returns-clause-touches : goal.returns-clause-touches
returns-clause-touches g c = c.area_program.ensures.touches
