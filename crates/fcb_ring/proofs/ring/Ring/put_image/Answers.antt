use Rattle.std.specs.Result.{IsErr}
use Rattle.std.proofs.Common.{Bool, false, true, Result, Ok, Err, OnOk, List, [], ◌∷◌, length, take, length-take-le}
use Rattle.std.proofs.Common.{refl, ◌≡◌, ◌+◌, ◌<◌, ◌≤◌, ℕ, ap, sym, subst, ◌∙◌, arith}
use Rattle.flash_sim.specs.Device.{Device}
use Rattle.flash_map.specs.declared.area.Geometry.{Geometry}
use Rattle.flash_map.specs.Area.{unit_of, sector_size, sectors_of}
use Rattle.flash_map.proofs.PieceLemmas.{on_err}
use Rattle.fcb_ring.specs.declared.ring.Ring.{Ring}
use Rattle.fcb_ring.specs.Changing.{newest_place}
use Rattle.fcb_ring.specs.Writing.{record_image}
use Rattle.fcb_ring.proofs.AreaLemmas.{has_size, count-sectors}
use Rattle.fcb_ring.proofs.NewestLemmas.{run-within}
use Rattle.fcb_ring.proofs.PuttingLemmas.{can-record, record-long, put-stands-on, puts-record, record-gains, record-spends, record-most, record-cut, record-kept, record-full, record-lost, record-torn, record-written, record-stands}
use Rattle.flash_map.specs.Touches.{Touches}
use Rattle.flash_map.specs.Units.{IsUnit}
use Rattle.flash_sim.specs.declared.flash.TheConstants.{PROGRAM_LIMIT}
use Rattle.fcb_ring.specs.Writing.{record_cost}
use Rattle.fcb_ring.proofs.OthersLemmas.{others_set}
use Rattle.fcb_ring.proofs.ring.Ring.put_image.Goals as goal

not_ok : {T E : Type 0} (P : Type 0) (r : Result T E) → IsErr r → OnOk r P
not_ok P (Ok x) e = absurd (clash e)
  where
    clash : false ≡ true → ⊥
    clash e = cc
not_ok P (Err e) is = tt

one-more : (n : ℕ) → 0 < n → 1 ≤ n
one-more n some = omega arith

cost-fits : (len cost : ℕ) → len ≡ cost → cost ≤ PROGRAM_LIMIT → len < 4294967296
cost-fits len cost is short = omega arith

end-fits : (end len cost size : ℕ) → len ≡ cost → end + cost ≤ size → size ≤ 32768 → end + len < 4294967296
end-fits end len cost size is fits most = omega arith

pub place-place-requires-clause-oldest : goal.place-place-requires-clause-oldest
place-place-requires-clause-oldest g c =
    let d : Device = g.F.Flash.device c.args.flash.now in
    let ring : Ring = c.args.self.now in
    let within = run-within (unit_of d ring.area) (sector_size d ring.area) (sectors_of d ring.area) (has_size d ring.area (g.met.F.Flash.is_lawful c.args.flash.now) c.requires.stands.area) ring c.requires.stands.sectors c.requires.writes in
    omega (arith, count-sectors d ring.area)

pub place-place-requires-clause-further : goal.place-place-requires-clause-further
place-place-requires-clause-further g c =
    let d : Device = g.F.Flash.device c.args.flash.now in
    let ring : Ring = c.args.self.now in
    let within = run-within (unit_of d ring.area) (sector_size d ring.area) (sectors_of d ring.area) (has_size d ring.area (g.met.F.Flash.is_lawful c.args.flash.now) c.requires.stands.area) ring c.requires.stands.sectors c.requires.writes in
    omega (arith, count-sectors d ring.area)

pub area_program-requires-clause-can : goal.area_program-requires-clause-can
area_program-requires-clause-can g c =
    let d : Device = g.F.Flash.device c.args.flash.now in
    let ring : Ring = c.args.self.now in
    let lawful = g.met.F.Flash.is_lawful c.args.flash.now in
    let bytes : List ℕ = take c.write_record-len.result c.write_record-len.new.buffer in
    let is : bytes ≡ record_image (unit_of d ring.area) c.args.body.now =
    c.write_record-len.ensures.bytes ∙ ap (λ (x : Geometry). record_image x.unit c.args.body.now) c.geometry-unit.ensures in
    can-record d ring lawful c.requires.stands c.requires.writes c.requires.some c.args.body.now c.requires.short c.requires.fits c.place-place.result bytes c.place-place.ensures.value is

pub returns-in_err-area_program-clause-stopped : goal.returns-in_err-area_program-clause-stopped
returns-in_err-area_program-clause-stopped g c =
    let d : Device = g.F.Flash.device c.args.flash.now in
    let ring : Ring = c.args.self.now in
    let lawful = g.met.F.Flash.is_lawful c.args.flash.now in
    let bytes : List ℕ = take c.write_record-len.result c.write_record-len.new.buffer in
    let is : bytes ≡ record_image (unit_of d ring.area) c.args.body.now =
    c.write_record-len.ensures.bytes ∙ ap (λ (x : Geometry). record_image x.unit c.args.body.now) c.geometry-unit.ensures in
    let new : Device = g.F.Flash.device c.area_program.new.flash in
    on_err c.from_residual.result (record {
      ring = record {
        area = refl;
        reserve = refl;
        down = refl;
      };
      lost = record-lost d ring lawful c.requires.stands c.requires.writes c.requires.some c.args.body.now c.requires.short c.requires.fits new c.in_err-area_program.ensures.touches.banks c.place-place.result bytes c.place-place.ensures.value is c.in_err-area_program.ensures.lost;
      counted = record-cut d ring lawful c.requires.stands c.requires.writes c.requires.some c.args.body.now c.requires.short c.requires.fits new c.in_err-area_program.ensures.touches.banks c.place-place.result bytes c.place-place.ensures.value is c.in_err-area_program.ensures.lost;
      torn = record-torn d ring lawful c.requires.stands c.requires.writes c.requires.some c.args.body.now c.requires.short c.requires.fits new c.in_err-area_program.ensures.touches.banks c.place-place.result bytes c.place-place.ensures.value is c.in_err-area_program.ensures.lost;
      full = record-full d ring lawful c.requires.stands c.requires.writes c.requires.some c.args.body.now c.requires.short c.requires.fits new c.in_err-area_program.ensures.touches.banks c.place-place.result bytes c.place-place.ensures.value is c.in_err-area_program.ensures.lost;
      uncounted = record-kept d ring lawful c.requires.stands c.requires.writes c.requires.some c.args.body.now c.requires.short c.requires.fits new c.in_err-area_program.ensures.touches.banks c.place-place.result bytes c.place-place.ensures.value is c.in_err-area_program.ensures.lost;
      bound = record-most d ring lawful c.requires.stands c.requires.writes c.requires.some c.args.body.now c.requires.short c.requires.fits new c.in_err-area_program.ensures.touches.banks c.place-place.result bytes is c.in_err-area_program.ensures.lost;
    })

pub returns-clause-put : goal.returns-clause-put
returns-clause-put g c =
    let d : Device = g.F.Flash.device c.args.flash.now in
    let ring : Ring = c.args.self.now in
    let lawful = g.met.F.Flash.is_lawful c.args.flash.now in
    let bytes : List ℕ = take c.write_record-len.result c.write_record-len.new.buffer in
    let is : bytes ≡ record_image (unit_of d ring.area) c.args.body.now =
    c.write_record-len.ensures.bytes ∙ ap (λ (x : Geometry). record_image x.unit c.args.body.now) c.geometry-unit.ensures in
    let long : length bytes ≡ c.write_record-len.result = length-take-le c.write_record-len.result c.write_record-len.new.buffer c.write_record-len.ensures.within in
    let new : Device = g.F.Flash.device c.area_program.new.flash in
    record {
      ring = record {
        area = refl;
        reserve = refl;
        oldest = refl;
        used = refl;
        id = refl;
        end = ap (λ (n : ℕ). ring.end + n) (sym long ∙ record-long d ring lawful c.requires.stands c.requires.writes c.requires.some c.args.body.now c.requires.short c.requires.fits bytes is);
        stage = refl;
      };
      stands =
          put-stands-on d ring lawful c.requires.stands c.requires.writes c.requires.some c.args.body.now c.requires.short c.requires.fits new c.in_ok-area_program.ensures.touches.banks c.place-place.result bytes c.place-place.ensures.value is c.in_ok-area_program.ensures.written (ring.end + c.write_record-len.result)
          (ap (λ (n : ℕ). ring.end + n) (sym long));
      written = record-written d ring lawful c.requires.stands c.requires.writes c.requires.some c.args.body.now c.requires.short c.requires.fits new c.in_ok-area_program.ensures.touches.banks c.place-place.result bytes c.place-place.ensures.value is c.in_ok-area_program.ensures.written;
      ends_with =
          record-stands d ring lawful c.requires.stands c.requires.writes c.requires.some c.args.body.now c.requires.short c.requires.fits new c.in_ok-area_program.ensures.touches.banks c.place-place.result bytes c.place-place.ensures.value is c.in_ok-area_program.ensures.written (ring.end + c.write_record-len.result)
          (ap (λ (n : ℕ). ring.end + n) (sym long));
      puts = puts-record d ring lawful c.requires.stands c.requires.writes c.requires.some c.args.body.now c.requires.short c.requires.fits new c.in_ok-area_program.ensures.touches.banks c.place-place.result bytes c.place-place.ensures.value is c.in_ok-area_program.ensures.written;
      gains = record-gains d ring lawful c.requires.stands c.requires.writes c.requires.some c.args.body.now c.requires.short c.requires.fits new c.in_ok-area_program.ensures.touches.banks c.place-place.result bytes c.place-place.ensures.value is c.in_ok-area_program.ensures.written;
      units = record-spends d ring lawful c.requires.stands c.requires.writes c.requires.some c.args.body.now c.requires.short c.requires.fits new c.in_ok-area_program.ensures.touches.banks c.place-place.result bytes c.place-place.ensures.value is c.in_ok-area_program.ensures.written c.in_ok-area_program.ensures.ok;
    }

pub returns-clause-others : goal.returns-clause-others
returns-clause-others g c =
    others_set (g.F.Flash.device c.args.flash.now) (g.F.Flash.device c.area_program.new.flash) c.args.self.now.area c.place-place.result (newest_place c.args.self.now) _ c.place-place.ensures.value c.in_ok-area_program.ensures.written

pub returns-in_err-area_program-clause-others : goal.returns-in_err-area_program-clause-others
returns-in_err-area_program-clause-others g c =
    others_set (g.F.Flash.device c.args.flash.now) (g.F.Flash.device c.area_program.new.flash) c.args.self.now.area c.place-place.result (newest_place c.args.self.now) _ c.place-place.ensures.value c.in_err-area_program.ensures.part.2

pub geometry-unit-requires : goal.geometry-unit-requires
geometry-unit-requires g c = c.requires.stands.area.lawful.in_bank

pub write_record-len-requires-clause-unit : goal.write_record-len-requires-clause-unit
write_record-len-requires-clause-unit g c =
    let d : Device = g.F.Flash.device c.args.flash.now in
    let size = has_size d c.args.self.now.area (g.met.F.Flash.is_lawful c.args.flash.now) c.requires.stands.area in
    subst (λ (x : Geometry). IsUnit x.unit) (sym c.geometry-unit.ensures) size.is_unit

pub write_record-len-requires-clause-short : goal.write_record-len-requires-clause-short
write_record-len-requires-clause-short g c =
    let n : ℕ = length c.args.body.now in
    subst (λ (x : Geometry). record_cost x.unit n ≤ PROGRAM_LIMIT) (sym c.geometry-unit.ensures) c.requires.short

pub write_record-len-requires-clause-room : goal.write_record-len-requires-clause-room
write_record-len-requires-clause-room g c =
    let n : ℕ = length c.args.body.now in
    subst (λ (x : Geometry). record_cost x.unit n ≤ length c.args.buffer.now) (sym c.geometry-unit.ensures) c.requires.room

pub overflow_sub-self : goal.overflow_sub-self
overflow_sub-self g c = one-more c.args.self.now.used c.requires.some

pub place-place-requires-clause-area : goal.place-place-requires-clause-area
place-place-requires-clause-area g c = c.requires.stands.area.lawful.few

pub slice_bounds-area_program-end : goal.slice_bounds-area_program-end
slice_bounds-area_program-end g c = c.write_record-len.ensures.within

pub slice_bounds-area_program-end-2 : goal.slice_bounds-area_program-end-2
slice_bounds-area_program-end-2 g c =
    sym (length-take-le c.write_record-len.result c.write_record-len.new.buffer c.write_record-len.ensures.within)

pub area_program-requires-clause-lawful : goal.area_program-requires-clause-lawful
area_program-requires-clause-lawful g c = c.requires.stands.area.lawful.in_bank

pub returns-in_err-area_program-clause-touches : goal.returns-in_err-area_program-clause-touches
returns-in_err-area_program-clause-touches g c =
    let d : Device = g.F.Flash.device c.args.flash.now in
    let new : Device = g.F.Flash.device c.area_program.new.flash in
    subst (λ (lost : Bool). Touches (c.args.self.now.area ∷ []) d new lost) (sym c.from_residual.ensures.0)
    c.in_err-area_program.ensures.touches

pub returns-in_err-area_program-clause-put : goal.returns-in_err-area_program-clause-put
returns-in_err-area_program-clause-put g c = not_ok _ c.from_residual.result c.from_residual.ensures.0

pub overflow_cast-self : goal.overflow_cast-self
overflow_cast-self g c =
    let d : Device = g.F.Flash.device c.args.flash.now in
    let ring : Ring = c.args.self.now in
    let lawful = g.met.F.Flash.is_lawful c.args.flash.now in
    let bytes : List ℕ = take c.write_record-len.result c.write_record-len.new.buffer in
    let is : bytes ≡ record_image (unit_of d ring.area) c.args.body.now =
    c.write_record-len.ensures.bytes ∙ ap (λ (x : Geometry). record_image x.unit c.args.body.now) c.geometry-unit.ensures in
    let long = length-take-le c.write_record-len.result c.write_record-len.new.buffer c.write_record-len.ensures.within in
    let on = c.requires.stands in
    let some = c.requires.some in
    let body = c.args.body.now in
    let cost = sym long ∙ record-long d ring lawful on c.requires.writes some body c.requires.short c.requires.fits bytes is in
    record { fits = cost-fits _ _ cost c.requires.short }

pub overflow_add-self : goal.overflow_add-self
overflow_add-self g c =
    let d : Device = g.F.Flash.device c.args.flash.now in
    let ring : Ring = c.args.self.now in
    let lawful = g.met.F.Flash.is_lawful c.args.flash.now in
    let bytes : List ℕ = take c.write_record-len.result c.write_record-len.new.buffer in
    let is : bytes ≡ record_image (unit_of d ring.area) c.args.body.now =
    c.write_record-len.ensures.bytes ∙ ap (λ (x : Geometry). record_image x.unit c.args.body.now) c.geometry-unit.ensures in
    let long = length-take-le c.write_record-len.result c.write_record-len.new.buffer c.write_record-len.ensures.within in
    let on = c.requires.stands in
    let some = c.requires.some in
    let body = c.args.body.now in
    let cost = sym long ∙ record-long d ring lawful on c.requires.writes some body c.requires.short c.requires.fits bytes is in
    record { fits = end-fits ring.end _ _ _ cost c.requires.fits c.requires.stands.area.lawful.at_most }

pub returns-clause-touches : goal.returns-clause-touches
returns-clause-touches g c = c.in_ok-area_program.ensures.touches

pub returns-clause-stopped : goal.returns-clause-stopped
returns-clause-stopped g c = tt
