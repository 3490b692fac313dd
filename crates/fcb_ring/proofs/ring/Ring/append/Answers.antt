use Rattle.std.proofs.Common.{◌≡◌, ℕ, ◌+◌, ◌<◌, ◌≤◌, ◌-◌, ◌∷◌, [], eqb, ltb, Bool, true, false, not, length, refl, ap, sym, subst, ◌∙◌, arith}
use Rattle.std.proofs.lemmas.Bool.{or_left, or_right, or_parts, ltb-false, not_from_false}
use Rattle.flash_sim.specs.declared.flash.TheConstants.{PROGRAM_LIMIT}
use Rattle.flash_sim.specs.Device.{Device}
use Rattle.flash_map.specs.declared.area.Geometry.{Geometry}
use Rattle.flash_map.specs.Area.{unit_of, sector_size, OthersStay}
use Rattle.flash_map.specs.Spending.{Spends, SpendsAtMost}
use Rattle.flash_map.specs.Units.{IsUnit, padded}
use Rattle.flash_map.proofs.Touches.{untouched}
use Rattle.flash_map.proofs.Rounding.{padding}
use Rattle.fcb_ring.specs.declared.ring.Ring.{Ring}
use Rattle.fcb_ring.specs.Changing.{kept_room, is_too_long, has_room, is_scratch_left, newest_place, next_place, EndsWithRecord, AddsRecord, CutAppend, GoesOn, IsReady, place_for, WritesRecord}
use Rattle.fcb_ring.specs.Gains.{CutRing, GainsRecord}
use Rattle.fcb_ring.specs.Standing.{is_finished}
use Rattle.fcb_ring.specs.Writing.{record_cost}
use Rattle.fcb_ring.proofs.AreaLemmas.{has_size}
use Rattle.fcb_ring.proofs.AppendLemmas.{adds-here, ready-used, more-free, room-is, units-here, place-here, place-next, units-next, goes-here}
use Rattle.fcb_ring.proofs.OthersLemmas.{others_same}
use Rattle.fcb_ring.proofs.ring.Ring.append.Goals as goal

short-len : (unit len : ℕ) → IsUnit unit → record_cost unit len ≤ PROGRAM_LIMIT → len ≤ PROGRAM_LIMIT
short-len unit len is short =
    let pad = padding unit is in
    omega (arith, pad.no_less len)

fits-word : (len : ℕ) → len ≤ PROGRAM_LIMIT → len < 4294967296
fits-word len short = omega arith

fits-next : (unit size kept len : ℕ) → IsUnit unit → is_too_long unit size kept len ≡ false → padded unit 8 + record_cost unit len ≤ size
fits-next unit size kept len is short =
    let parts = or_parts (eqb len 0) (ltb (size - padded unit 8 - kept) (record_cost unit len)) short in
    let bound : record_cost unit len ≤ size - padded unit 8 - kept = ltb-false (size - padded unit 8 - kept) (record_cost unit len) parts.1 in
    let pad = padding unit is in
    omega (arith, bound, pad.positive)

never : {A : Type 0} → false ≡ true → A
never bad = absurd (clash bad)
  where
    clash : false ≡ true → ⊥
    clash e = cc

pub overflow_cast-len : goal.overflow_cast-len
overflow_cast-len g c =
    let d : Device = g.F.Flash.device c.args.flash.now in
    let ring : Ring = c.args.self.now in
    let is = (has_size d ring.area (g.met.F.Flash.is_lawful c.args.flash.now) c.requires.stands.area).is_unit in
    record { fits = fits-word (length c.args.body.now) (short-len (unit_of d ring.area) (length c.args.body.now) is c.requires.short) }

pub is_too_long-requires-clause-len : goal.is_too_long-requires-clause-len
is_too_long-requires-clause-len g c =
    let d : Device = g.F.Flash.device c.args.flash.now in
    let ring : Ring = c.args.self.now in
    let is = (has_size d ring.area (g.met.F.Flash.is_lawful c.args.flash.now) c.requires.stands.area).is_unit in
    short-len (unit_of d ring.area) (length c.args.body.now) is c.requires.short

pub has_room-requires-clause-len : goal.has_room-requires-clause-len
has_room-requires-clause-len g c =
    let d : Device = g.F.Flash.device c.args.flash.now in
    let ring : Ring = c.args.self.now in
    let is = (has_size d ring.area (g.met.F.Flash.is_lawful c.args.flash.now) c.requires.stands.area).is_unit in
    short-len (unit_of d ring.area) (length c.args.body.now) is c.requires.short

pub is_too_long-requires-clause-unit : goal.is_too_long-requires-clause-unit
is_too_long-requires-clause-unit g c =
    let d : Device = g.F.Flash.device c.args.flash.now in
    let ring : Ring = c.args.self.now in
    let is = (has_size d ring.area (g.met.F.Flash.is_lawful c.args.flash.now) c.requires.stands.area).is_unit in
    subst (λ (x : Geometry). IsUnit x.unit) (sym c.geometry-geometry.ensures) is

pub has_room-requires-clause-unit : goal.has_room-requires-clause-unit
has_room-requires-clause-unit g c =
    let d : Device = g.F.Flash.device c.args.flash.now in
    let ring : Ring = c.args.self.now in
    let is = (has_size d ring.area (g.met.F.Flash.is_lawful c.args.flash.now) c.requires.stands.area).is_unit in
    subst (λ (x : Geometry). IsUnit x.unit) (sym c.geometry-geometry.ensures) is

pub geometry-geometry-requires : goal.geometry-geometry-requires
geometry-geometry-requires g c = c.requires.stands.area.lawful.in_bank

pub put_record-requires-clause-stands : goal.put_record-requires-clause-stands
put_record-requires-clause-stands g c = c.requires.stands

pub put_record-requires-clause-writes : goal.put_record-requires-clause-writes
put_record-requires-clause-writes g c = ap is_finished c.requires.ready

pub put_record-requires-clause-some : goal.put_record-requires-clause-some
put_record-requires-clause-some g c =
    let d : Device = g.F.Flash.device c.args.flash.now in
    let ring : Ring = c.args.self.now in
    let unit : ℕ = unit_of d ring.area in
    let size : ℕ = sector_size d ring.area in
    let len : ℕ = length c.args.body.now in
    let kept : ℕ = kept_room ring c.args.into_reserve in
    let room : has_room unit size ring kept len ≡ true =
    sym (c.has_room.ensures ∙ ap (λ (x : Geometry). has_room x.unit x.sector ring c.kept_room-kept.result len) c.geometry-geometry.ensures ∙ ap (λ (k : ℕ). has_room unit size ring k len) c.kept_room-kept.ensures) ∙ c.if-has_room.true in
    (room-is unit size ring kept len room).0

pub put_record-requires-clause-short : goal.put_record-requires-clause-short
put_record-requires-clause-short g c = c.requires.short

pub put_record-requires-clause-fits : goal.put_record-requires-clause-fits
put_record-requires-clause-fits g c =
    let d : Device = g.F.Flash.device c.args.flash.now in
    let ring : Ring = c.args.self.now in
    let unit : ℕ = unit_of d ring.area in
    let size : ℕ = sector_size d ring.area in
    let len : ℕ = length c.args.body.now in
    let kept : ℕ = kept_room ring c.args.into_reserve in
    let room : has_room unit size ring kept len ≡ true =
    sym (c.has_room.ensures ∙ ap (λ (x : Geometry). has_room x.unit x.sector ring c.kept_room-kept.result len) c.geometry-geometry.ensures ∙ ap (λ (k : ℕ). has_room unit size ring k len) c.kept_room-kept.ensures) ∙ c.if-has_room.true in
    (room-is unit size ring kept len room).1

pub put_in_next-requires-clause-stands : goal.put_in_next-requires-clause-stands
put_in_next-requires-clause-stands g c = c.requires.stands

pub put_in_next-requires-clause-ready : goal.put_in_next-requires-clause-ready
put_in_next-requires-clause-ready g c = c.requires.ready

pub put_in_next-requires-clause-short : goal.put_in_next-requires-clause-short
put_in_next-requires-clause-short g c = c.requires.short

pub put_in_next-requires-clause-fits : goal.put_in_next-requires-clause-fits
put_in_next-requires-clause-fits g c =
    let d : Device = g.F.Flash.device c.args.flash.now in
    let ring : Ring = c.args.self.now in
    let unit : ℕ = unit_of d ring.area in
    let size : ℕ = sector_size d ring.area in
    let len : ℕ = length c.args.body.now in
    let kept : ℕ = kept_room ring c.args.into_reserve in
    let short : is_too_long unit size kept len ≡ false =
    sym (c.is_too_long.ensures ∙ ap (λ (x : Geometry). is_too_long x.unit x.sector c.kept_room-kept.result len) c.geometry-geometry.ensures ∙ ap (λ (k : ℕ). is_too_long unit size k len) c.kept_room-kept.ensures) ∙ c.if-is_too_long.false in
    fits-next unit size kept len (has_size d ring.area (g.met.F.Flash.is_lawful c.args.flash.now) c.requires.stands.area).is_unit short

pub returns-then-is_too_long-clause-touches : goal.returns-then-is_too_long-clause-touches
returns-then-is_too_long-clause-touches g c = untouched (c.args.self.now.area ∷ []) (g.F.Flash.device c.args.flash.now)

pub returns-then-is_too_long-clause-area : goal.returns-then-is_too_long-clause-area
returns-then-is_too_long-clause-area g c = refl

pub returns-then-is_too_long-clause-reserve : goal.returns-then-is_too_long-clause-reserve
returns-then-is_too_long-clause-reserve g c = refl

pub returns-then-is_too_long-clause-others : goal.returns-then-is_too_long-clause-others
returns-then-is_too_long-clause-others g c = others_same (g.F.Flash.device c.args.flash.now) (g.F.Flash.device c.args.flash.now) c.args.self.now.area (place_for (g.F.Flash.device c.args.flash.now) c.args.self.now c.args.body.now (kept_room c.args.self.now c.args.into_reserve)) refl

pub returns-then-is_too_long-clause-written : goal.returns-then-is_too_long-clause-written
returns-then-is_too_long-clause-written g c = tt

pub returns-then-is_too_long-clause-bytes : goal.returns-then-is_too_long-clause-bytes
returns-then-is_too_long-clause-bytes g c = tt

pub returns-then-is_too_long-clause-end : goal.returns-then-is_too_long-clause-end
returns-then-is_too_long-clause-end g c = tt

pub returns-then-is_too_long-clause-gains : goal.returns-then-is_too_long-clause-gains
returns-then-is_too_long-clause-gains g c = tt

pub returns-then-is_too_long-clause-torn : goal.returns-then-is_too_long-clause-torn
returns-then-is_too_long-clause-torn g c lost on = never lost

pub returns-then-is_scratch_left-clause-touches : goal.returns-then-is_scratch_left-clause-touches
returns-then-is_scratch_left-clause-touches g c = untouched (c.args.self.now.area ∷ []) (g.F.Flash.device c.args.flash.now)

pub returns-then-is_scratch_left-clause-area : goal.returns-then-is_scratch_left-clause-area
returns-then-is_scratch_left-clause-area g c = refl

pub returns-then-is_scratch_left-clause-reserve : goal.returns-then-is_scratch_left-clause-reserve
returns-then-is_scratch_left-clause-reserve g c = refl

pub returns-then-is_scratch_left-clause-others : goal.returns-then-is_scratch_left-clause-others
returns-then-is_scratch_left-clause-others g c = others_same (g.F.Flash.device c.args.flash.now) (g.F.Flash.device c.args.flash.now) c.args.self.now.area (place_for (g.F.Flash.device c.args.flash.now) c.args.self.now c.args.body.now (kept_room c.args.self.now c.args.into_reserve)) refl

pub returns-then-is_scratch_left-clause-written : goal.returns-then-is_scratch_left-clause-written
returns-then-is_scratch_left-clause-written g c = tt

pub returns-then-is_scratch_left-clause-bytes : goal.returns-then-is_scratch_left-clause-bytes
returns-then-is_scratch_left-clause-bytes g c = tt

pub returns-then-is_scratch_left-clause-end : goal.returns-then-is_scratch_left-clause-end
returns-then-is_scratch_left-clause-end g c = tt

pub returns-then-is_scratch_left-clause-gains : goal.returns-then-is_scratch_left-clause-gains
returns-then-is_scratch_left-clause-gains g c = tt

pub returns-then-is_scratch_left-clause-torn : goal.returns-then-is_scratch_left-clause-torn
returns-then-is_scratch_left-clause-torn g c lost on = never lost

pub returns-then-is_too_long-clause-ends : goal.returns-then-is_too_long-clause-ends
returns-then-is_too_long-clause-ends g c =
    let d : Device = g.F.Flash.device c.args.flash.now in
    let ring : Ring = c.args.self.now in
    let unit : ℕ = unit_of d ring.area in
    let size : ℕ = sector_size d ring.area in
    let len : ℕ = length c.args.body.now in
    let kept : ℕ = kept_room ring c.args.into_reserve in
    let short : is_too_long unit size kept len ≡ true =
    sym (c.is_too_long.ensures ∙ ap (λ (x : Geometry). is_too_long x.unit x.sector c.kept_room-kept.result len) c.geometry-geometry.ensures ∙ ap (λ (k : ℕ). is_too_long unit size k len) c.kept_room-kept.ensures) ∙ c.if-is_too_long.true in
    (short, record { flash = refl; ring = refl })

pub returns-then-is_scratch_left-clause-ends : goal.returns-then-is_scratch_left-clause-ends
returns-then-is_scratch_left-clause-ends g c =
    let d : Device = g.F.Flash.device c.args.flash.now in
    let ring : Ring = c.args.self.now in
    let unit : ℕ = unit_of d ring.area in
    let size : ℕ = sector_size d ring.area in
    let len : ℕ = length c.args.body.now in
    let kept : ℕ = kept_room ring c.args.into_reserve in
    let short : is_too_long unit size kept len ≡ false =
    sym (c.is_too_long.ensures ∙ ap (λ (x : Geometry). is_too_long x.unit x.sector c.kept_room-kept.result len) c.geometry-geometry.ensures ∙ ap (λ (k : ℕ). is_too_long unit size k len) c.kept_room-kept.ensures) ∙ c.if-is_too_long.false in
    let room : has_room unit size ring kept len ≡ false =
    sym (c.has_room.ensures ∙ ap (λ (x : Geometry). has_room x.unit x.sector ring c.kept_room-kept.result len) c.geometry-geometry.ensures ∙ ap (λ (k : ℕ). has_room unit size ring k len) c.kept_room-kept.ensures) ∙ c.if-has_room.false in
    (short, room, sym c.is_scratch_left.ensures ∙ c.if-is_scratch_left.true, record { flash = refl; ring = refl })

pub returns-in-Ok-clause-touches : goal.returns-in-Ok-clause-touches
returns-in-Ok-clause-touches g c = c.in-Ok.ensures.touches

pub returns-in-Ok-clause-area : goal.returns-in-Ok-clause-area
returns-in-Ok-clause-area g c = c.in-Ok.ensures.put.ring.area

pub returns-in-Ok-clause-reserve : goal.returns-in-Ok-clause-reserve
returns-in-Ok-clause-reserve g c = c.in-Ok.ensures.put.ring.reserve

pub returns-in-Ok-clause-torn : goal.returns-in-Ok-clause-torn
returns-in-Ok-clause-torn g c lost on = never lost

pub returns-in-Err-clause-touches : goal.returns-in-Err-clause-touches
returns-in-Err-clause-touches g c = c.in-Err.ensures.touches

pub returns-in-Err-clause-area : goal.returns-in-Err-clause-area
returns-in-Err-clause-area g c = c.in-Err.ensures.stopped.ring.area

pub returns-in-Err-clause-reserve : goal.returns-in-Err-clause-reserve
returns-in-Err-clause-reserve g c = c.in-Err.ensures.stopped.ring.reserve

pub returns-in-Err-clause-written : goal.returns-in-Err-clause-written
returns-in-Err-clause-written g c = tt

pub returns-in-Err-clause-bytes : goal.returns-in-Err-clause-bytes
returns-in-Err-clause-bytes g c = tt

pub returns-in-Err-clause-end : goal.returns-in-Err-clause-end
returns-in-Err-clause-end g c = tt

pub returns-in-Err-clause-gains : goal.returns-in-Err-clause-gains
returns-in-Err-clause-gains g c = tt

pub returns-in-Ok-put_in_next-clause-touches : goal.returns-in-Ok-put_in_next-clause-touches
returns-in-Ok-put_in_next-clause-touches g c = c.in-Ok-put_in_next.ensures.touches

pub returns-in-Ok-put_in_next-clause-area : goal.returns-in-Ok-put_in_next-clause-area
returns-in-Ok-put_in_next-clause-area g c = c.in-Ok-put_in_next.ensures.put.area

pub returns-in-Ok-put_in_next-clause-reserve : goal.returns-in-Ok-put_in_next-clause-reserve
returns-in-Ok-put_in_next-clause-reserve g c = c.in-Ok-put_in_next.ensures.put.reserve

pub returns-in-Ok-put_in_next-clause-torn : goal.returns-in-Ok-put_in_next-clause-torn
returns-in-Ok-put_in_next-clause-torn g c lost on = never lost

pub returns-in-Err-put_in_next-clause-touches : goal.returns-in-Err-put_in_next-clause-touches
returns-in-Err-put_in_next-clause-touches g c = c.in-Err-put_in_next.ensures.touches

pub returns-in-Err-put_in_next-clause-area : goal.returns-in-Err-put_in_next-clause-area
returns-in-Err-put_in_next-clause-area g c = c.in-Err-put_in_next.ensures.stopped.area

pub returns-in-Err-put_in_next-clause-reserve : goal.returns-in-Err-put_in_next-clause-reserve
returns-in-Err-put_in_next-clause-reserve g c = c.in-Err-put_in_next.ensures.stopped.reserve

pub returns-in-Err-put_in_next-clause-written : goal.returns-in-Err-put_in_next-clause-written
returns-in-Err-put_in_next-clause-written g c = tt

pub returns-in-Err-put_in_next-clause-bytes : goal.returns-in-Err-put_in_next-clause-bytes
returns-in-Err-put_in_next-clause-bytes g c = tt

pub returns-in-Err-put_in_next-clause-end : goal.returns-in-Err-put_in_next-clause-end
returns-in-Err-put_in_next-clause-end g c = tt

pub returns-in-Err-put_in_next-clause-gains : goal.returns-in-Err-put_in_next-clause-gains
returns-in-Err-put_in_next-clause-gains g c = tt

pub returns-in-Ok-clause-bytes : goal.returns-in-Ok-clause-bytes
returns-in-Ok-clause-bytes g c =
    let d : Device = g.F.Flash.device c.args.flash.now in
    let ring : Ring = c.args.self.now in
    let unit : ℕ = unit_of d ring.area in
    let size : ℕ = sector_size d ring.area in
    let len : ℕ = length c.args.body.now in
    let kept : ℕ = kept_room ring c.args.into_reserve in
    let room : has_room unit size ring kept len ≡ true =
    sym (c.has_room.ensures ∙ ap (λ (x : Geometry). has_room x.unit x.sector ring c.kept_room-kept.result len) c.geometry-geometry.ensures ∙ ap (λ (k : ℕ). has_room unit size ring k len) c.kept_room-kept.ensures) ∙ c.if-has_room.true in
    subst (λ (b : Bool). WritesRecord b d (g.F.Flash.device c.put_record.new.flash) ring c.args.body.now) (sym room) c.in-Ok.ensures.put.written

pub returns-in-Ok-clause-gains : goal.returns-in-Ok-clause-gains
returns-in-Ok-clause-gains g c =
    let d : Device = g.F.Flash.device c.args.flash.now in
    let ring : Ring = c.args.self.now in
    let unit : ℕ = unit_of d ring.area in
    let size : ℕ = sector_size d ring.area in
    let len : ℕ = length c.args.body.now in
    let kept : ℕ = kept_room ring c.args.into_reserve in
    let room : has_room unit size ring kept len ≡ true =
    sym (c.has_room.ensures ∙ ap (λ (x : Geometry). has_room x.unit x.sector ring c.kept_room-kept.result len) c.geometry-geometry.ensures ∙ ap (λ (k : ℕ). has_room unit size ring k len) c.kept_room-kept.ensures) ∙ c.if-has_room.true in
    subst (λ (p : ℕ). GainsRecord d (g.F.Flash.device c.put_record.new.flash) ring.area p c.args.body.now true) (place-here (has_room unit size ring kept len) (newest_place ring) (next_place ring) room) c.in-Ok.ensures.put.gains

pub returns-in-Ok-put_in_next-clause-bytes : goal.returns-in-Ok-put_in_next-clause-bytes
returns-in-Ok-put_in_next-clause-bytes g c =
    let d : Device = g.F.Flash.device c.args.flash.now in
    let ring : Ring = c.args.self.now in
    let unit : ℕ = unit_of d ring.area in
    let size : ℕ = sector_size d ring.area in
    let len : ℕ = length c.args.body.now in
    let kept : ℕ = kept_room ring c.args.into_reserve in
    let room : has_room unit size ring kept len ≡ false =
    sym (c.has_room.ensures ∙ ap (λ (x : Geometry). has_room x.unit x.sector ring c.kept_room-kept.result len) c.geometry-geometry.ensures ∙ ap (λ (k : ℕ). has_room unit size ring k len) c.kept_room-kept.ensures) ∙ c.if-has_room.false in
    subst (λ (b : Bool). WritesRecord b d (g.F.Flash.device c.put_in_next.new.flash) ring c.args.body.now) (sym room) c.in-Ok-put_in_next.ensures.put.written

pub returns-in-Ok-put_in_next-clause-gains : goal.returns-in-Ok-put_in_next-clause-gains
returns-in-Ok-put_in_next-clause-gains g c =
    let d : Device = g.F.Flash.device c.args.flash.now in
    let ring : Ring = c.args.self.now in
    let unit : ℕ = unit_of d ring.area in
    let size : ℕ = sector_size d ring.area in
    let len : ℕ = length c.args.body.now in
    let kept : ℕ = kept_room ring c.args.into_reserve in
    let room : has_room unit size ring kept len ≡ false =
    sym (c.has_room.ensures ∙ ap (λ (x : Geometry). has_room x.unit x.sector ring c.kept_room-kept.result len) c.geometry-geometry.ensures ∙ ap (λ (k : ℕ). has_room unit size ring k len) c.kept_room-kept.ensures) ∙ c.if-has_room.false in
    subst (λ (p : ℕ). GainsRecord d (g.F.Flash.device c.put_in_next.new.flash) ring.area p c.args.body.now true) (place-next (has_room unit size ring kept len) (newest_place ring) (next_place ring) room) c.in-Ok-put_in_next.ensures.put.gains

pub returns-in-Ok-put_in_next-clause-ends : goal.returns-in-Ok-put_in_next-clause-ends
returns-in-Ok-put_in_next-clause-ends g c =
    let d : Device = g.F.Flash.device c.args.flash.now in
    let ring : Ring = c.args.self.now in
    let unit : ℕ = unit_of d ring.area in
    let size : ℕ = sector_size d ring.area in
    let len : ℕ = length c.args.body.now in
    let kept : ℕ = kept_room ring c.args.into_reserve in
    let short : is_too_long unit size kept len ≡ false =
    sym (c.is_too_long.ensures ∙ ap (λ (x : Geometry). is_too_long x.unit x.sector c.kept_room-kept.result len) c.geometry-geometry.ensures ∙ ap (λ (k : ℕ). is_too_long unit size k len) c.kept_room-kept.ensures) ∙ c.if-is_too_long.false in
    let room : has_room unit size ring kept len ≡ false =
    sym (c.has_room.ensures ∙ ap (λ (x : Geometry). has_room x.unit x.sector ring c.kept_room-kept.result len) c.geometry-geometry.ensures ∙ ap (λ (k : ℕ). has_room unit size ring k len) c.kept_room-kept.ensures) ∙ c.if-has_room.false in
    let left : is_scratch_left ring ≡ false = sym c.is_scratch_left.ensures ∙ c.if-is_scratch_left.false in
    let new : Device = g.F.Flash.device c.put_in_next.new.flash in (
      record { short = short; room = or_right (has_room unit size ring kept len) (not (is_scratch_left ring)) (not_from_false (is_scratch_left ring) left) },
      subst (λ (p : ℕ). AddsRecord d new ring.area p c.args.body.now) (place-next (has_room unit size ring kept len) (newest_place ring) (next_place ring) room) c.in-Ok-put_in_next.ensures.put.adds,
      subst (λ (b : Bool). GoesOn ring c.put_in_next.new.self b) (sym room) c.in-Ok-put_in_next.ensures.put.goes_on,
      subst (λ (n : ℕ). IsReady d new c.put_in_next.new.self n) (units-next unit len (has_room unit size ring kept len) room) c.in-Ok-put_in_next.ensures.put.ready,
    )

pub put_in_next-requires-clause-free : goal.put_in_next-requires-clause-free
put_in_next-requires-clause-free g c = more-free (g.F.Flash.device c.args.flash.now) c.args.self.now c.requires.stands c.requires.ready (sym c.is_scratch_left.ensures ∙ c.if-is_scratch_left.false)

pub returns-in-Ok-clause-ends : goal.returns-in-Ok-clause-ends
returns-in-Ok-clause-ends g c =
    let d : Device = g.F.Flash.device c.args.flash.now in
    let ring : Ring = c.args.self.now in
    let unit : ℕ = unit_of d ring.area in
    let size : ℕ = sector_size d ring.area in
    let len : ℕ = length c.args.body.now in
    let kept : ℕ = kept_room ring c.args.into_reserve in
    let short : is_too_long unit size kept len ≡ false =
    sym (c.is_too_long.ensures ∙ ap (λ (x : Geometry). is_too_long x.unit x.sector c.kept_room-kept.result len) c.geometry-geometry.ensures ∙ ap (λ (k : ℕ). is_too_long unit size k len) c.kept_room-kept.ensures) ∙ c.if-is_too_long.false in
    let room : has_room unit size ring kept len ≡ true =
    sym (c.has_room.ensures ∙ ap (λ (x : Geometry). has_room x.unit x.sector ring c.kept_room-kept.result len) c.geometry-geometry.ensures ∙ ap (λ (k : ℕ). has_room unit size ring k len) c.kept_room-kept.ensures) ∙ c.if-has_room.true in
    let new : Device = g.F.Flash.device c.put_record.new.flash in (
      record { short = short; room = or_left (has_room unit size ring kept len) (not (is_scratch_left ring)) room },
      subst (λ (p : ℕ). AddsRecord d new ring.area p c.args.body.now) (place-here (has_room unit size ring kept len) (newest_place ring) (next_place ring) room) (adds-here d new ring c.args.body.now (ready-used d ring c.requires.stands c.requires.ready) c.in-Ok.ensures.put.puts),
      goes-here ring c.put_record.new.self (has_room unit size ring kept len) room c.in-Ok.ensures.put.ring.oldest c.in-Ok.ensures.put.ring.used c.in-Ok.ensures.put.ring.id,
      record {
        stands = c.in-Ok.ensures.put.stands;
        stage = c.in-Ok.ensures.put.ring.stage ∙ c.requires.ready;
        units = subst (λ (n : ℕ). Spends d new n) (sym (units-here unit len (has_room unit size ring kept len) room)) c.in-Ok.ensures.put.units;
      },
    )

pub returns-in-Err-clause-ends : goal.returns-in-Err-clause-ends
returns-in-Err-clause-ends g c =
    let d : Device = g.F.Flash.device c.args.flash.now in
    let ring : Ring = c.args.self.now in
    let unit : ℕ = unit_of d ring.area in
    let size : ℕ = sector_size d ring.area in
    let len : ℕ = length c.args.body.now in
    let kept : ℕ = kept_room ring c.args.into_reserve in
    let short : is_too_long unit size kept len ≡ false =
    sym (c.is_too_long.ensures ∙ ap (λ (x : Geometry). is_too_long x.unit x.sector c.kept_room-kept.result len) c.geometry-geometry.ensures ∙ ap (λ (k : ℕ). is_too_long unit size k len) c.kept_room-kept.ensures) ∙ c.if-is_too_long.false in
    let room : has_room unit size ring kept len ≡ true =
    sym (c.has_room.ensures ∙ ap (λ (x : Geometry). has_room x.unit x.sector ring c.kept_room-kept.result len) c.geometry-geometry.ensures ∙ ap (λ (k : ℕ). has_room unit size ring k len) c.kept_room-kept.ensures) ∙ c.if-has_room.true in
    let new : Device = g.F.Flash.device c.put_record.new.flash in (
      record { short = short; room = or_left (has_room unit size ring kept len) (not (is_scratch_left ring)) room },
      subst (λ (p : ℕ). CutAppend d new ring.area p c.args.body.now) (place-here (has_room unit size ring kept len) (newest_place ring) (next_place ring) room) (c.in-Err.ensures.stopped.counted (ready-used d ring c.requires.stands c.requires.ready)),
      record {
        down = c.in-Err.ensures.stopped.ring.down;
        units = subst (λ (n : ℕ). SpendsAtMost d new n) (sym (units-here unit len (has_room unit size ring kept len) room)) c.in-Err.ensures.stopped.bound;
      },
    )

pub returns-in-Err-put_in_next-clause-ends : goal.returns-in-Err-put_in_next-clause-ends
returns-in-Err-put_in_next-clause-ends g c =
    let d : Device = g.F.Flash.device c.args.flash.now in
    let ring : Ring = c.args.self.now in
    let unit : ℕ = unit_of d ring.area in
    let size : ℕ = sector_size d ring.area in
    let len : ℕ = length c.args.body.now in
    let kept : ℕ = kept_room ring c.args.into_reserve in
    let short : is_too_long unit size kept len ≡ false =
    sym (c.is_too_long.ensures ∙ ap (λ (x : Geometry). is_too_long x.unit x.sector c.kept_room-kept.result len) c.geometry-geometry.ensures ∙ ap (λ (k : ℕ). is_too_long unit size k len) c.kept_room-kept.ensures) ∙ c.if-is_too_long.false in
    let room : has_room unit size ring kept len ≡ false =
    sym (c.has_room.ensures ∙ ap (λ (x : Geometry). has_room x.unit x.sector ring c.kept_room-kept.result len) c.geometry-geometry.ensures ∙ ap (λ (k : ℕ). has_room unit size ring k len) c.kept_room-kept.ensures) ∙ c.if-has_room.false in
    let left : is_scratch_left ring ≡ false = sym c.is_scratch_left.ensures ∙ c.if-is_scratch_left.false in
    let new : Device = g.F.Flash.device c.put_in_next.new.flash in (
      record { short = short; room = or_right (has_room unit size ring kept len) (not (is_scratch_left ring)) (not_from_false (is_scratch_left ring) left) },
      subst (λ (p : ℕ). CutAppend d new ring.area p c.args.body.now) (place-next (has_room unit size ring kept len) (newest_place ring) (next_place ring) room) c.in-Err-put_in_next.ensures.stopped.cut,
      record {
        down = c.in-Err-put_in_next.ensures.stopped.down.down;
        units = subst (λ (n : ℕ). SpendsAtMost d new n) (units-next unit len (has_room unit size ring kept len) room) c.in-Err-put_in_next.ensures.stopped.down.units;
      },
    )

pub returns-in-Ok-clause-others : goal.returns-in-Ok-clause-others
returns-in-Ok-clause-others g c =
    let d : Device = g.F.Flash.device c.args.flash.now in
    let ring : Ring = c.args.self.now in
    let unit : ℕ = unit_of d ring.area in
    let size : ℕ = sector_size d ring.area in
    let len : ℕ = length c.args.body.now in
    let kept : ℕ = kept_room ring c.args.into_reserve in
    let room : has_room unit size ring kept len ≡ true =
    sym (c.has_room.ensures ∙ ap (λ (x : Geometry). has_room x.unit x.sector ring c.kept_room-kept.result len) c.geometry-geometry.ensures ∙ ap (λ (k : ℕ). has_room unit size ring k len) c.kept_room-kept.ensures) ∙ c.if-has_room.true in
    subst (λ (p : ℕ). OthersStay d (g.F.Flash.device c.put_record.new.flash) ring.area p) (place-here (has_room unit size ring kept len) (newest_place ring) (next_place ring) room) c.in-Ok.ensures.others

pub returns-in-Err-clause-others : goal.returns-in-Err-clause-others
returns-in-Err-clause-others g c =
    let d : Device = g.F.Flash.device c.args.flash.now in
    let ring : Ring = c.args.self.now in
    let unit : ℕ = unit_of d ring.area in
    let size : ℕ = sector_size d ring.area in
    let len : ℕ = length c.args.body.now in
    let kept : ℕ = kept_room ring c.args.into_reserve in
    let room : has_room unit size ring kept len ≡ true =
    sym (c.has_room.ensures ∙ ap (λ (x : Geometry). has_room x.unit x.sector ring c.kept_room-kept.result len) c.geometry-geometry.ensures ∙ ap (λ (k : ℕ). has_room unit size ring k len) c.kept_room-kept.ensures) ∙ c.if-has_room.true in
    subst (λ (p : ℕ). OthersStay d (g.F.Flash.device c.put_record.new.flash) ring.area p) (place-here (has_room unit size ring kept len) (newest_place ring) (next_place ring) room) c.in-Err.ensures.others

pub returns-in-Ok-put_in_next-clause-others : goal.returns-in-Ok-put_in_next-clause-others
returns-in-Ok-put_in_next-clause-others g c =
    let d : Device = g.F.Flash.device c.args.flash.now in
    let ring : Ring = c.args.self.now in
    let unit : ℕ = unit_of d ring.area in
    let size : ℕ = sector_size d ring.area in
    let len : ℕ = length c.args.body.now in
    let kept : ℕ = kept_room ring c.args.into_reserve in
    let room : has_room unit size ring kept len ≡ false =
    sym (c.has_room.ensures ∙ ap (λ (x : Geometry). has_room x.unit x.sector ring c.kept_room-kept.result len) c.geometry-geometry.ensures ∙ ap (λ (k : ℕ). has_room unit size ring k len) c.kept_room-kept.ensures) ∙ c.if-has_room.false in
    subst (λ (p : ℕ). OthersStay d (g.F.Flash.device c.put_in_next.new.flash) ring.area p) (place-next (has_room unit size ring kept len) (newest_place ring) (next_place ring) room) c.in-Ok-put_in_next.ensures.others

pub returns-in-Err-put_in_next-clause-others : goal.returns-in-Err-put_in_next-clause-others
returns-in-Err-put_in_next-clause-others g c =
    let d : Device = g.F.Flash.device c.args.flash.now in
    let ring : Ring = c.args.self.now in
    let unit : ℕ = unit_of d ring.area in
    let size : ℕ = sector_size d ring.area in
    let len : ℕ = length c.args.body.now in
    let kept : ℕ = kept_room ring c.args.into_reserve in
    let room : has_room unit size ring kept len ≡ false =
    sym (c.has_room.ensures ∙ ap (λ (x : Geometry). has_room x.unit x.sector ring c.kept_room-kept.result len) c.geometry-geometry.ensures ∙ ap (λ (k : ℕ). has_room unit size ring k len) c.kept_room-kept.ensures) ∙ c.if-has_room.false in
    subst (λ (p : ℕ). OthersStay d (g.F.Flash.device c.put_in_next.new.flash) ring.area p) (place-next (has_room unit size ring kept len) (newest_place ring) (next_place ring) room) c.in-Err-put_in_next.ensures.others

pub returns-in-Ok-clause-written : goal.returns-in-Ok-clause-written
returns-in-Ok-clause-written g c =
    let d : Device = g.F.Flash.device c.args.flash.now in
    let ring : Ring = c.args.self.now in
    let unit : ℕ = unit_of d ring.area in
    let size : ℕ = sector_size d ring.area in
    let len : ℕ = length c.args.body.now in
    let kept : ℕ = kept_room ring c.args.into_reserve in
    let room : has_room unit size ring kept len ≡ true =
    sym (c.has_room.ensures ∙ ap (λ (x : Geometry). has_room x.unit x.sector ring c.kept_room-kept.result len) c.geometry-geometry.ensures ∙ ap (λ (k : ℕ). has_room unit size ring k len) c.kept_room-kept.ensures) ∙ c.if-has_room.true in
    subst (λ (p : ℕ). EndsWithRecord (g.F.Flash.device c.put_record.new.flash) c.put_record.new.self p c.args.body.now) (place-here (has_room unit size ring kept len) (newest_place ring) (next_place ring) room) c.in-Ok.ensures.put.ends_with

pub returns-in-Ok-put_in_next-clause-written : goal.returns-in-Ok-put_in_next-clause-written
returns-in-Ok-put_in_next-clause-written g c =
    let d : Device = g.F.Flash.device c.args.flash.now in
    let ring : Ring = c.args.self.now in
    let unit : ℕ = unit_of d ring.area in
    let size : ℕ = sector_size d ring.area in
    let len : ℕ = length c.args.body.now in
    let kept : ℕ = kept_room ring c.args.into_reserve in
    let room : has_room unit size ring kept len ≡ false =
    sym (c.has_room.ensures ∙ ap (λ (x : Geometry). has_room x.unit x.sector ring c.kept_room-kept.result len) c.geometry-geometry.ensures ∙ ap (λ (k : ℕ). has_room unit size ring k len) c.kept_room-kept.ensures) ∙ c.if-has_room.false in
    subst (λ (p : ℕ). EndsWithRecord (g.F.Flash.device c.put_in_next.new.flash) c.put_in_next.new.self p c.args.body.now) (place-next (has_room unit size ring kept len) (newest_place ring) (next_place ring) room) c.in-Ok-put_in_next.ensures.put.ends_with

pub returns-in-Ok-clause-end : goal.returns-in-Ok-clause-end
returns-in-Ok-clause-end g c =
    let d : Device = g.F.Flash.device c.args.flash.now in
    let ring : Ring = c.args.self.now in
    let unit : ℕ = unit_of d ring.area in
    let size : ℕ = sector_size d ring.area in
    let len : ℕ = length c.args.body.now in
    let kept : ℕ = kept_room ring c.args.into_reserve in
    let room : has_room unit size ring kept len ≡ true =
    sym (c.has_room.ensures ∙ ap (λ (x : Geometry). has_room x.unit x.sector ring c.kept_room-kept.result len) c.geometry-geometry.ensures ∙ ap (λ (k : ℕ). has_room unit size ring k len) c.kept_room-kept.ensures) ∙ c.if-has_room.true in
    c.in-Ok.ensures.put.ring.end ∙ ap (λ (n : ℕ). n + record_cost unit len) (place-here (has_room unit size ring kept len) ring.end (padded unit 8) room)

pub returns-in-Ok-put_in_next-clause-end : goal.returns-in-Ok-put_in_next-clause-end
returns-in-Ok-put_in_next-clause-end g c =
    let d : Device = g.F.Flash.device c.args.flash.now in
    let ring : Ring = c.args.self.now in
    let unit : ℕ = unit_of d ring.area in
    let size : ℕ = sector_size d ring.area in
    let len : ℕ = length c.args.body.now in
    let kept : ℕ = kept_room ring c.args.into_reserve in
    let room : has_room unit size ring kept len ≡ false =
    sym (c.has_room.ensures ∙ ap (λ (x : Geometry). has_room x.unit x.sector ring c.kept_room-kept.result len) c.geometry-geometry.ensures ∙ ap (λ (k : ℕ). has_room unit size ring k len) c.kept_room-kept.ensures) ∙ c.if-has_room.false in
    c.in-Ok-put_in_next.ensures.put.end ∙ ap (λ (n : ℕ). n + record_cost unit len) (place-next (has_room unit size ring kept len) ring.end (padded unit 8) room)

pub returns-in-Err-clause-torn : goal.returns-in-Err-clause-torn
returns-in-Err-clause-torn g c lost on =
    let d : Device = g.F.Flash.device c.args.flash.now in
    let ring : Ring = c.args.self.now in
    let unit : ℕ = unit_of d ring.area in
    let size : ℕ = sector_size d ring.area in
    let len : ℕ = length c.args.body.now in
    let kept : ℕ = kept_room ring c.args.into_reserve in
    let room : has_room unit size ring kept len ≡ true =
    sym (c.has_room.ensures ∙ ap (λ (x : Geometry). has_room x.unit x.sector ring c.kept_room-kept.result len) c.geometry-geometry.ensures ∙ ap (λ (k : ℕ). has_room unit size ring k len) c.kept_room-kept.ensures) ∙ c.if-has_room.true in
    subst (λ (b : Bool). CutRing b d (g.F.Flash.device c.put_record.new.flash) ring c.args.body.now) (sym room) (c.in-Err.ensures.stopped.torn on)

pub returns-in-Err-put_in_next-clause-torn : goal.returns-in-Err-put_in_next-clause-torn
returns-in-Err-put_in_next-clause-torn g c lost on =
    let d : Device = g.F.Flash.device c.args.flash.now in
    let ring : Ring = c.args.self.now in
    let unit : ℕ = unit_of d ring.area in
    let size : ℕ = sector_size d ring.area in
    let len : ℕ = length c.args.body.now in
    let kept : ℕ = kept_room ring c.args.into_reserve in
    let room : has_room unit size ring kept len ≡ false =
    sym (c.has_room.ensures ∙ ap (λ (x : Geometry). has_room x.unit x.sector ring c.kept_room-kept.result len) c.geometry-geometry.ensures ∙ ap (λ (k : ℕ). has_room unit size ring k len) c.kept_room-kept.ensures) ∙ c.if-has_room.false in
    subst (λ (b : Bool). CutRing b d (g.F.Flash.device c.put_in_next.new.flash) ring c.args.body.now) (sym room) (c.in-Err-put_in_next.ensures.stopped.torn on)
