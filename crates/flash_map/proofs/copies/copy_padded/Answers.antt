use Rattle.std.proofs.Common.{Bool, false, List, [], ◌∷◌, ◌++◌, length, take, drop, replicate, min}
use Rattle.std.proofs.Common.{◌≡◌, ℕ, ◌+◌, ◌-◌, ◌/◌, ◌<◌, ◌≤◌, sym, ap, subst, ◌∙◌, arith}
use Rattle.std.proofs.Math.Nat.{zero-mod}
use Rattle.std.proofs.lemmas.List.{take_all, length-take}
use Rattle.flash_sim.specs.Bank.{IsLawful, bank_at}
use Rattle.flash_sim.specs.Device.{Device}
use Rattle.flash_sim.specs.declared.flash.Bank.{Bank}
use Rattle.flash_map.specs.declared.area.Area.{Area}
use Rattle.flash_map.specs.declared.area.Geometry.{Geometry}
use Rattle.flash_map.specs.declared.copies.Source.{Source}
use Rattle.flash_map.specs.Area.{IsLawfulArea, unit_of, sector_size, place_of, CanProgramIn, Writes, WritesPart}
use Rattle.flash_map.specs.Copies.{source, pieces_of}
use Rattle.flash_map.specs.Spending.{Spends, SpendsAtMost}
use Rattle.flash_map.specs.Units.{IsUnit, padded, padded_bytes}
use Rattle.flash_map.proofs.CopyLemmas.{piece_at, piece_there, piece_is, source_part, length-source, writes_nothing, spends_nothing, next_piece, pieces_padded, viewed_lost, spent_lost}
use Rattle.flash_map.proofs.PaddedLemmas.{length-padded_bytes}
use Rattle.flash_map.proofs.PieceLemmas.{loses_within, piece_len-is, on_err, can_piece, written_more, part_more}
use Rattle.flash_map.proofs.Places.{length-sector, place_fits}
use Rattle.flash_map.proofs.Rounding.{is_unit}
use Rattle.flash_map.proofs.SpendingLemmas.{spends-programs, most-fails, piece_spends, piece_at_most}
use Rattle.flash_map.proofs.Touches.{then, untouched}
use Rattle.flash_map.specs.Touches.{Touches}
use Rattle.flash_map.proofs.Results.{not_ok}
use Rattle.flash_map.specs.declared.copies.TheConstants.{COPY_PIECE}
use Rattle.flash_map.proofs.copies.copy_padded.Goals as goal

-- the source lies in its sector
source-is : (a : Device) (area : Area) (from : Source) → IsLawful a.banks a.bytes → IsLawfulArea a.banks area → from.sector < area.sectors
    → from.offset + from.len ≤ sector_size a area → length (source a area from) ≡ from.len
source-is a area from lawful is_area has inside =
    let sector_long = length-sector a area lawful is_area from.sector has in
    length-source a area from (omega (arith, inside, sector_long))

from-zero : (n : ℕ) → 0 ≤ n
from-zero n = omega arith

no-less : (m n : ℕ) → m < n → m ≤ n
no-less m n below = omega arith

both : (m n : ℕ) → m ≤ n → n ≤ m → m ≡ n
both m n le ge = omega arith

one-call : (done end : ℕ) → end ≤ done + 32 → end - done ≤ 400
one-call done end narrow = omega arith

short-piece : (len rest : ℕ) → len ≡ min 32 rest → len ≤ COPY_PIECE
short-piece len rest is = omega arith

-- views are counted
no-views : (n : ℕ) → n ≡ n + pieces_of 0
no-views n = omega arith

one-view : (start before after some more : ℕ) → after ≡ before + 1 → before ≡ start + some → more ≡ some + 1 → after ≡ start + more
one-view start before after some more step so_far is = omega arith

views-most : (start before after some more all whole : ℕ) → after ≡ before + 1 → before ≡ start + some → more ≡ some + 1
    → more ≤ all → all ≡ whole → after ≤ start + whole
views-most start before after some more all whole step so_far is few same = omega arith

pub loop-done-init : goal.loop-done-init
loop-done-init g c =
    let a : Device = g.F.Flash.device c.args.flash.now in
    let area : Area = c.args.area.now in
    let lawful = g.met.F.Flash.is_lawful c.args.flash.now in
    let is_area = c.requires.lawful in
    let unit : ℕ = unit_of a area in
    let from : Source = c.args.from in
    let p : List ℕ = source a area from in
    let image : List ℕ = padded_bytes unit p in
    let is-unit : IsUnit unit = is_unit unit (lawful.each_bank area.bank is_area.has_bank).unit in
    let long : length p ≡ from.len = source-is a area from lawful is_area c.requires.has_source c.requires.inside in
    let all : c.padded-all.result ≡ padded unit (length p) = c.padded-all.ensures.value ∙ ap (λ (x : Geometry). padded x.unit from.len) c.geometry.ensures ∙ ap (padded unit) (sym long) in
    let image_long : length image ≡ padded unit (length p) = length-padded_bytes unit p is-unit in
    record {
      in_range = from-zero c.padded-all.result;
      whole_units = zero-mod unit;
      touches = untouched (area ∷ []) a;
      written = writes_nothing a area c.args.sector c.args.offset image;
      spent = spends_nothing a unit;
      whole_pieces = λ below. zero-mod 32;
      viewed = no-views c.args.steps.now;
    }

pub overflow_add-part : goal.overflow_add-part
overflow_add-part g c =
    let a : Device = g.F.Flash.device c.args.flash.now in
    let area : Area = c.args.area.now in
    let lawful = g.met.F.Flash.is_lawful c.args.flash.now in
    let is_area = c.requires.lawful in
    let unit : ℕ = unit_of a area in
    let from : Source = c.args.from in
    let p : List ℕ = source a area from in
    let image : List ℕ = padded_bytes unit p in
    let is-unit : IsUnit unit = is_unit unit (lawful.each_bank area.bank is_area.has_bank).unit in
    let long : length p ≡ from.len = source-is a area from lawful is_area c.requires.has_source c.requires.inside in
    let all : c.padded-all.result ≡ padded unit (length p) = c.padded-all.ensures.value ∙ ap (λ (x : Geometry). padded x.unit from.len) c.geometry.ensures ∙ ap (padded unit) (sym long) in
    let image_long : length image ≡ padded unit (length p) = length-padded_bytes unit p is-unit in
    let b : Device = g.F.Flash.device c.loop-done.flash in
    let kept = c.loop-done.invariant in
    let done : ℕ = c.loop-done.done in
    let at = piece_at unit is-unit (length p) done kept.whole_units (subst (λ (n : ℕ). done < n) all c.loop-done-test.true) in
    let fits = place_fits a area lawful is_area from.sector c.requires.has_source in
    omega (arith, at.before, long, c.requires.inside, fits)

pub overflow_sub-from : goal.overflow_sub-from
overflow_sub-from g c =
    let a : Device = g.F.Flash.device c.args.flash.now in
    let area : Area = c.args.area.now in
    let lawful = g.met.F.Flash.is_lawful c.args.flash.now in
    let is_area = c.requires.lawful in
    let unit : ℕ = unit_of a area in
    let from : Source = c.args.from in
    let p : List ℕ = source a area from in
    let image : List ℕ = padded_bytes unit p in
    let is-unit : IsUnit unit = is_unit unit (lawful.each_bank area.bank is_area.has_bank).unit in
    let long : length p ≡ from.len = source-is a area from lawful is_area c.requires.has_source c.requires.inside in
    let all : c.padded-all.result ≡ padded unit (length p) = c.padded-all.ensures.value ∙ ap (λ (x : Geometry). padded x.unit from.len) c.geometry.ensures ∙ ap (padded unit) (sym long) in
    let image_long : length image ≡ padded unit (length p) = length-padded_bytes unit p is-unit in
    let b : Device = g.F.Flash.device c.loop-done.flash in
    let kept = c.loop-done.invariant in
    let done : ℕ = c.loop-done.done in
    let at = piece_at unit is-unit (length p) done kept.whole_units (subst (λ (n : ℕ). done < n) all c.loop-done-test.true) in
    omega (arith, at.before, long)

pub piece_of-piece-requires-clause-inside : goal.piece_of-piece-requires-clause-inside
piece_of-piece-requires-clause-inside g c =
    let a : Device = g.F.Flash.device c.args.flash.now in
    let area : Area = c.args.area.now in
    let lawful = g.met.F.Flash.is_lawful c.args.flash.now in
    let is_area = c.requires.lawful in
    let unit : ℕ = unit_of a area in
    let from : Source = c.args.from in
    let p : List ℕ = source a area from in
    let image : List ℕ = padded_bytes unit p in
    let is-unit : IsUnit unit = is_unit unit (lawful.each_bank area.bank is_area.has_bank).unit in
    let long : length p ≡ from.len = source-is a area from lawful is_area c.requires.has_source c.requires.inside in
    let all : c.padded-all.result ≡ padded unit (length p) = c.padded-all.ensures.value ∙ ap (λ (x : Geometry). padded x.unit from.len) c.geometry.ensures ∙ ap (padded unit) (sym long) in
    let image_long : length image ≡ padded unit (length p) = length-padded_bytes unit p is-unit in
    let b : Device = g.F.Flash.device c.loop-done.flash in
    let kept = c.loop-done.invariant in
    let done : ℕ = c.loop-done.done in
    let piece = piece_there unit (length p) done c.min-end.result c.min.result c.padded-all.result from.len is-unit kept.whole_units c.loop-done-test.true all (sym long) c.min-end.ensures c.min.ensures in
    let size : sector_size b area ≡ sector_size a area = ap (λ (l : List Bank). (bank_at l area.bank).sector) kept.touches.banks in
    omega (arith, piece.within, long, c.requires.inside)

pub overflow_add-offset : goal.overflow_add-offset
overflow_add-offset g c =
    let a : Device = g.F.Flash.device c.args.flash.now in
    let area : Area = c.args.area.now in
    let lawful = g.met.F.Flash.is_lawful c.args.flash.now in
    let is_area = c.requires.lawful in
    let unit : ℕ = unit_of a area in
    let from : Source = c.args.from in
    let p : List ℕ = source a area from in
    let image : List ℕ = padded_bytes unit p in
    let is-unit : IsUnit unit = is_unit unit (lawful.each_bank area.bank is_area.has_bank).unit in
    let long : length p ≡ from.len = source-is a area from lawful is_area c.requires.has_source c.requires.inside in
    let all : c.padded-all.result ≡ padded unit (length p) = c.padded-all.ensures.value ∙ ap (λ (x : Geometry). padded x.unit from.len) c.geometry.ensures ∙ ap (padded unit) (sym long) in
    let image_long : length image ≡ padded unit (length p) = length-padded_bytes unit p is-unit in
    let b : Device = g.F.Flash.device c.loop-done.flash in
    let kept = c.loop-done.invariant in
    let done : ℕ = c.loop-done.done in
    let fits = place_fits a area lawful is_area c.args.sector c.requires.can.has_sector in
    omega (arith, c.requires.can.in_sector, fits)

pub area_program-requires-clause-can : goal.area_program-requires-clause-can
area_program-requires-clause-can g c =
    let a : Device = g.F.Flash.device c.args.flash.now in
    let area : Area = c.args.area.now in
    let lawful = g.met.F.Flash.is_lawful c.args.flash.now in
    let is_area = c.requires.lawful in
    let unit : ℕ = unit_of a area in
    let from : Source = c.args.from in
    let p : List ℕ = source a area from in
    let image : List ℕ = padded_bytes unit p in
    let is-unit : IsUnit unit = is_unit unit (lawful.each_bank area.bank is_area.has_bank).unit in
    let long : length p ≡ from.len = source-is a area from lawful is_area c.requires.has_source c.requires.inside in
    let all : c.padded-all.result ≡ padded unit (length p) = c.padded-all.ensures.value ∙ ap (λ (x : Geometry). padded x.unit from.len) c.geometry.ensures ∙ ap (padded unit) (sym long) in
    let image_long : length image ≡ padded unit (length p) = length-padded_bytes unit p is-unit in
    let b : Device = g.F.Flash.device c.loop-done.flash in
    let kept = c.loop-done.invariant in
    let done : ℕ = c.loop-done.done in
    let piece = piece_there unit (length p) done c.min-end.result c.min.result c.padded-all.result from.len is-unit kept.whole_units c.loop-done-test.true all (sym long) c.min-end.ensures c.min.ensures in
    let sector : ℕ = c.args.sector in
    let offset : ℕ = c.args.offset in
    let within = subst (λ (n : ℕ). done + c.min.result ≤ n) long piece.within in
    let tail : take (c.min-end.result - done) c.piece_of-piece.result ≡ take (c.min-end.result - done) (drop done image) =
    ap (take (c.min-end.result - done)) (c.piece_of-piece.ensures.bytes ∙ ap (λ (xs : List ℕ). xs ++ replicate (32 - c.min.result) 255) (source_part a b area sector offset (take done image) from done c.min.result c.requires.other kept.written within))
    ∙ piece_is unit p done c.min-end.result c.min.result piece in
    let inside : c.min-end.result ≤ length image = subst (λ (n : ℕ). c.min-end.result ≤ n) (sym image_long) piece.inside in
    subst (λ (xs : List ℕ). CanProgramIn b area sector (offset + done) xs) (sym tail)
    (can_piece a b area lawful is_area sector offset image c.requires.can done c.min-end.result piece.more inside kept.whole_units piece.aligned kept.touches kept.written (one-call done c.min-end.result piece.narrow))

pub returns-in_err-area_program-clause-lost : goal.returns-in_err-area_program-clause-lost
returns-in_err-area_program-clause-lost g c =
    let a : Device = g.F.Flash.device c.args.flash.now in
    let area : Area = c.args.area.now in
    let lawful = g.met.F.Flash.is_lawful c.args.flash.now in
    let is_area = c.requires.lawful in
    let unit : ℕ = unit_of a area in
    let from : Source = c.args.from in
    let p : List ℕ = source a area from in
    let image : List ℕ = padded_bytes unit p in
    let is-unit : IsUnit unit = is_unit unit (lawful.each_bank area.bank is_area.has_bank).unit in
    let long : length p ≡ from.len = source-is a area from lawful is_area c.requires.has_source c.requires.inside in
    let all : c.padded-all.result ≡ padded unit (length p) = c.padded-all.ensures.value ∙ ap (λ (x : Geometry). padded x.unit from.len) c.geometry.ensures ∙ ap (padded unit) (sym long) in
    let image_long : length image ≡ padded unit (length p) = length-padded_bytes unit p is-unit in
    let b : Device = g.F.Flash.device c.loop-done.flash in
    let kept = c.loop-done.invariant in
    let done : ℕ = c.loop-done.done in
    let piece = piece_there unit (length p) done c.min-end.result c.min.result c.padded-all.result from.len is-unit kept.whole_units c.loop-done-test.true all (sym long) c.min-end.ensures c.min.ensures in
    let sector : ℕ = c.args.sector in
    let offset : ℕ = c.args.offset in
    let within = subst (λ (n : ℕ). done + c.min.result ≤ n) long piece.within in
    let tail : take (c.min-end.result - done) c.piece_of-piece.result ≡ take (c.min-end.result - done) (drop done image) =
    ap (take (c.min-end.result - done)) (c.piece_of-piece.ensures.bytes ∙ ap (λ (xs : List ℕ). xs ++ replicate (32 - c.min.result) 255) (source_part a b area sector offset (take done image) from done c.min.result c.requires.other kept.written within))
    ∙ piece_is unit p done c.min-end.result c.min.result piece in
    let inside : c.min-end.result ≤ length image = subst (λ (n : ℕ). c.min-end.result ≤ n) (sym image_long) piece.inside in
    let last : Device = g.F.Flash.device c.area_program.new.flash in
    on_err c.from_residual.result (part_more a b area lawful is_area sector offset image c.requires.can done c.min-end.result piece.more inside kept.whole_units piece.aligned kept.touches kept.written last (subst (λ (xs : List ℕ). WritesPart b last area sector (offset + done) xs) tail c.in_err-area_program.ensures.part))

pub returns-in_err-area_program-clause-spent : goal.returns-in_err-area_program-clause-spent
returns-in_err-area_program-clause-spent g c =
    let a : Device = g.F.Flash.device c.args.flash.now in
    let area : Area = c.args.area.now in
    let lawful = g.met.F.Flash.is_lawful c.args.flash.now in
    let is_area = c.requires.lawful in
    let unit : ℕ = unit_of a area in
    let from : Source = c.args.from in
    let p : List ℕ = source a area from in
    let image : List ℕ = padded_bytes unit p in
    let is-unit : IsUnit unit = is_unit unit (lawful.each_bank area.bank is_area.has_bank).unit in
    let long : length p ≡ from.len = source-is a area from lawful is_area c.requires.has_source c.requires.inside in
    let all : c.padded-all.result ≡ padded unit (length p) = c.padded-all.ensures.value ∙ ap (λ (x : Geometry). padded x.unit from.len) c.geometry.ensures ∙ ap (padded unit) (sym long) in
    let image_long : length image ≡ padded unit (length p) = length-padded_bytes unit p is-unit in
    let b : Device = g.F.Flash.device c.loop-done.flash in
    let kept = c.loop-done.invariant in
    let done : ℕ = c.loop-done.done in
    let piece = piece_there unit (length p) done c.min-end.result c.min.result c.padded-all.result from.len is-unit kept.whole_units c.loop-done-test.true all (sym long) c.min-end.ensures c.min.ensures in
    let sector : ℕ = c.args.sector in
    let offset : ℕ = c.args.offset in
    let within = subst (λ (n : ℕ). done + c.min.result ≤ n) long piece.within in
    let tail : take (c.min-end.result - done) c.piece_of-piece.result ≡ take (c.min-end.result - done) (drop done image) =
    ap (take (c.min-end.result - done)) (c.piece_of-piece.ensures.bytes ∙ ap (λ (xs : List ℕ). xs ++ replicate (32 - c.min.result) 255) (source_part a b area sector offset (take done image) from done c.min.result c.requires.other kept.written within))
    ∙ piece_is unit p done c.min-end.result c.min.result piece in
    let inside : c.min-end.result ≤ length image = subst (λ (n : ℕ). c.min-end.result ≤ n) (sym image_long) piece.inside in
    let last : Device = g.F.Flash.device c.area_program.new.flash in
    spent_lost a last (padded unit from.len / unit) c.from_residual.result c.from_residual.ensures.0
    (subst (λ (n : ℕ). SpendsAtMost a last (padded unit n / unit)) long
    (piece_at_most a b last area is-unit done c.min-end.result (take (c.min-end.result - done) c.piece_of-piece.result) (ap length tail ∙ piece_len-is image done c.min-end.result inside) kept.whole_units (no-less done c.min-end.result piece.more) kept.touches.banks kept.spent (padded unit (length p)) piece.inside
    (most-fails b last (place_of b area sector (offset + done)) (take (c.min-end.result - done) c.piece_of-piece.result) c.in_err-area_program.ensures.lost)))

pub loop-done-preserved : goal.loop-done-preserved
loop-done-preserved g c =
    let a : Device = g.F.Flash.device c.args.flash.now in
    let area : Area = c.args.area.now in
    let lawful = g.met.F.Flash.is_lawful c.args.flash.now in
    let is_area = c.requires.lawful in
    let unit : ℕ = unit_of a area in
    let from : Source = c.args.from in
    let p : List ℕ = source a area from in
    let image : List ℕ = padded_bytes unit p in
    let is-unit : IsUnit unit = is_unit unit (lawful.each_bank area.bank is_area.has_bank).unit in
    let long : length p ≡ from.len = source-is a area from lawful is_area c.requires.has_source c.requires.inside in
    let all : c.padded-all.result ≡ padded unit (length p) = c.padded-all.ensures.value ∙ ap (λ (x : Geometry). padded x.unit from.len) c.geometry.ensures ∙ ap (padded unit) (sym long) in
    let image_long : length image ≡ padded unit (length p) = length-padded_bytes unit p is-unit in
    let b : Device = g.F.Flash.device c.loop-done.flash in
    let kept = c.loop-done.invariant in
    let done : ℕ = c.loop-done.done in
    let piece = piece_there unit (length p) done c.min-end.result c.min.result c.padded-all.result from.len is-unit kept.whole_units c.loop-done-test.true all (sym long) c.min-end.ensures c.min.ensures in
    let sector : ℕ = c.args.sector in
    let offset : ℕ = c.args.offset in
    let within = subst (λ (n : ℕ). done + c.min.result ≤ n) long piece.within in
    let tail : take (c.min-end.result - done) c.piece_of-piece.result ≡ take (c.min-end.result - done) (drop done image) =
    ap (take (c.min-end.result - done)) (c.piece_of-piece.ensures.bytes ∙ ap (λ (xs : List ℕ). xs ++ replicate (32 - c.min.result) 255) (source_part a b area sector offset (take done image) from done c.min.result c.requires.other kept.written within))
    ∙ piece_is unit p done c.min-end.result c.min.result piece in
    let inside : c.min-end.result ≤ length image = subst (λ (n : ℕ). c.min-end.result ≤ n) (sym image_long) piece.inside in
    let last : Device = g.F.Flash.device c.area_program.new.flash in
    let more = c.loop-done-test.true in
    let next = next_piece done c.min-end.result c.padded-all.result more (kept.whole_pieces more) c.min-end.ensures in
    record {
      in_range = subst (λ (n : ℕ). c.min-end.result ≤ n) (sym all) piece.inside;
      whole_units = piece.aligned;
      touches = then {lost = false} kept.touches c.in_ok-area_program.ensures.touches;
      written = written_more a b area lawful is_area sector offset image c.requires.can done c.min-end.result piece.more inside kept.whole_units piece.aligned kept.touches kept.written last (subst (λ (xs : List ℕ). Writes b last area sector (offset + done) xs) tail c.in_ok-area_program.ensures.written);
      spent = piece_spends a b last area is-unit done c.min-end.result (take (c.min-end.result - done) c.piece_of-piece.result) (ap length tail ∙ piece_len-is image done c.min-end.result inside) kept.whole_units (no-less done c.min-end.result piece.more) kept.touches.banks kept.spent (spends-programs b last (place_of b area sector (offset + done)) (take (c.min-end.result - done) c.piece_of-piece.result) c.in_ok-area_program.ensures.ok);
      whole_pieces = next.whole;
      viewed = one-view c.args.steps.now c.loop-done.steps _ (pieces_of done) _ c.piece_of-piece.ensures.step kept.viewed next.one_more;
    }

pub returns-clause-ok : goal.returns-clause-ok
returns-clause-ok g c =
    let a : Device = g.F.Flash.device c.args.flash.now in
    let area : Area = c.args.area.now in
    let lawful = g.met.F.Flash.is_lawful c.args.flash.now in
    let is_area = c.requires.lawful in
    let unit : ℕ = unit_of a area in
    let from : Source = c.args.from in
    let p : List ℕ = source a area from in
    let image : List ℕ = padded_bytes unit p in
    let is-unit : IsUnit unit = is_unit unit (lawful.each_bank area.bank is_area.has_bank).unit in
    let long : length p ≡ from.len = source-is a area from lawful is_area c.requires.has_source c.requires.inside in
    let all : c.padded-all.result ≡ padded unit (length p) = c.padded-all.ensures.value ∙ ap (λ (x : Geometry). padded x.unit from.len) c.geometry.ensures ∙ ap (padded unit) (sym long) in
    let image_long : length image ≡ padded unit (length p) = length-padded_bytes unit p is-unit in
    let b : Device = g.F.Flash.device c.loop-done.flash in
    let kept = c.loop-done.invariant in
    let done : ℕ = c.loop-done.done in
    let whole : take done image ≡ image = take_all done image (subst (λ (n : ℕ). n ≤ done) (all ∙ sym image_long) c.loop-done-test.false) in
    subst (λ (xs : List ℕ). Writes a b area c.args.sector c.args.offset xs) whole kept.written

pub returns-clause-spent : goal.returns-clause-spent
returns-clause-spent g c =
    let a : Device = g.F.Flash.device c.args.flash.now in
    let area : Area = c.args.area.now in
    let lawful = g.met.F.Flash.is_lawful c.args.flash.now in
    let is_area = c.requires.lawful in
    let unit : ℕ = unit_of a area in
    let from : Source = c.args.from in
    let p : List ℕ = source a area from in
    let image : List ℕ = padded_bytes unit p in
    let is-unit : IsUnit unit = is_unit unit (lawful.each_bank area.bank is_area.has_bank).unit in
    let long : length p ≡ from.len = source-is a area from lawful is_area c.requires.has_source c.requires.inside in
    let all : c.padded-all.result ≡ padded unit (length p) = c.padded-all.ensures.value ∙ ap (λ (x : Geometry). padded x.unit from.len) c.geometry.ensures ∙ ap (padded unit) (sym long) in
    let image_long : length image ≡ padded unit (length p) = length-padded_bytes unit p is-unit in
    let b : Device = g.F.Flash.device c.loop-done.flash in
    let kept = c.loop-done.invariant in
    let done : ℕ = c.loop-done.done in
    let same = both done c.padded-all.result kept.in_range c.loop-done-test.false ∙ all ∙ ap (padded unit) long in
    record { whole = subst (λ (n : ℕ). Spends a b (n / unit)) same kept.spent; cut = tt }

pub returns-in_err-area_program-clause-in_pieces : goal.returns-in_err-area_program-clause-in_pieces
returns-in_err-area_program-clause-in_pieces g c =
    let a : Device = g.F.Flash.device c.args.flash.now in
    let b : Device = g.F.Flash.device c.loop-done.flash in
    let last : Device = g.F.Flash.device c.area_program.new.flash in
    let piece : List ℕ = take (c.min-end.result - c.loop-done.done) c.piece_of-piece.result in
    let long = length-take (c.min-end.result - c.loop-done.done) c.piece_of-piece.result in
    on_err c.from_residual.result
    (loses_within COPY_PIECE a b last (c.args.area.now ∷ []) (place_of b c.args.area.now c.args.sector (c.args.offset + c.loop-done.done)) piece c.loop-done.invariant.touches c.in_err-area_program.ensures.lost (omega (arith, long, c.min-end.ensures)))

pub returns-in_err-area_program-clause-views : goal.returns-in_err-area_program-clause-views
returns-in_err-area_program-clause-views g c =
    let a : Device = g.F.Flash.device c.args.flash.now in
    let area : Area = c.args.area.now in
    let lawful = g.met.F.Flash.is_lawful c.args.flash.now in
    let unit : ℕ = unit_of a area in
    let from : Source = c.args.from in
    let is-unit : IsUnit unit = is_unit unit (lawful.each_bank area.bank c.requires.lawful.has_bank).unit in
    let all : c.padded-all.result ≡ padded unit from.len = c.padded-all.ensures.value ∙ ap (λ (x : Geometry). padded x.unit from.len) c.geometry.ensures in
    let kept = c.loop-done.invariant in
    let more = c.loop-done-test.true in
    let next = next_piece c.loop-done.done c.min-end.result c.padded-all.result more (kept.whole_pieces more) c.min-end.ensures in
    let same : pieces_of c.padded-all.result ≡ pieces_of from.len = ap pieces_of all ∙ pieces_padded unit is-unit from.len in
    viewed_lost (pieces_of from.len) c.args.steps.now c.piece_of-piece.new.steps c.from_residual.result c.from_residual.ensures.0
    (views-most c.args.steps.now c.loop-done.steps _ (pieces_of c.loop-done.done) _ (pieces_of c.padded-all.result) _
    c.piece_of-piece.ensures.step kept.viewed next.one_more next.few same)

pub returns-clause-views : goal.returns-clause-views
returns-clause-views g c =
    let a : Device = g.F.Flash.device c.args.flash.now in
    let area : Area = c.args.area.now in
    let lawful = g.met.F.Flash.is_lawful c.args.flash.now in
    let unit : ℕ = unit_of a area in
    let from : Source = c.args.from in
    let is-unit : IsUnit unit = is_unit unit (lawful.each_bank area.bank c.requires.lawful.has_bank).unit in
    let all : c.padded-all.result ≡ padded unit from.len = c.padded-all.ensures.value ∙ ap (λ (x : Geometry). padded x.unit from.len) c.geometry.ensures in
    let kept = c.loop-done.invariant in
    let whole = both c.loop-done.done c.padded-all.result kept.in_range c.loop-done-test.false in
    let same : pieces_of c.loop-done.done ≡ pieces_of from.len = ap pieces_of (whole ∙ all) ∙ pieces_padded unit is-unit from.len in
    let taken : c.loop-done.steps ≡ c.args.steps.now + pieces_of from.len = kept.viewed ∙ ap (λ (n : ℕ). c.args.steps.now + n) same in
    record { whole = taken; cut = tt }

pub geometry-requires : goal.geometry-requires
geometry-requires g c = c.requires.lawful

pub padded-all-requires-clause-unit : goal.padded-all-requires-clause-unit
padded-all-requires-clause-unit g c =
    let a : Device = g.F.Flash.device c.args.flash.now in
    let area : Area = c.args.area.now in
    let bank = (g.met.F.Flash.is_lawful c.args.flash.now).each_bank area.bank c.requires.lawful.has_bank in
    subst (λ (x : Geometry). IsUnit x.unit) (sym c.geometry.ensures) (is_unit (unit_of a area) bank.unit)

pub piece_of-piece-requires-clause-lawful : goal.piece_of-piece-requires-clause-lawful
piece_of-piece-requires-clause-lawful g c =
    let banks = c.loop-done.invariant.touches.banks in
    subst (λ (l : List Bank). IsLawfulArea l c.args.area.now) (sym banks) c.requires.lawful

pub piece_of-piece-requires-clause-has_sector : goal.piece_of-piece-requires-clause-has_sector
piece_of-piece-requires-clause-has_sector g c = c.requires.has_source

pub piece_of-piece-requires-clause-short : goal.piece_of-piece-requires-clause-short
piece_of-piece-requires-clause-short g c = short-piece c.min.result _ c.min.ensures

pub area_program-requires-clause-lawful : goal.area_program-requires-clause-lawful
area_program-requires-clause-lawful g c =
    let banks = c.loop-done.invariant.touches.banks in
    subst (λ (l : List Bank). IsLawfulArea l c.args.area.now) (sym banks) c.requires.lawful

pub returns-in_err-area_program-clause-touches : goal.returns-in_err-area_program-clause-touches
returns-in_err-area_program-clause-touches g c =
    let a : Device = g.F.Flash.device c.args.flash.now in
    let last : Device = g.F.Flash.device c.area_program.new.flash in
    subst (λ (lost : Bool). Touches (c.args.area.now ∷ []) a last lost) (sym c.from_residual.ensures.0)
    (then c.loop-done.invariant.touches c.in_err-area_program.ensures.touches)

pub returns-in_err-area_program-clause-ok : goal.returns-in_err-area_program-clause-ok
returns-in_err-area_program-clause-ok g c = not_ok _ c.from_residual.result c.from_residual.ensures.0

pub returns-clause-touches : goal.returns-clause-touches
returns-clause-touches g c = c.loop-done.invariant.touches

pub returns-clause-lost : goal.returns-clause-lost
returns-clause-lost g c = tt

pub returns-clause-in_pieces : goal.returns-clause-in_pieces
returns-clause-in_pieces g c = tt
