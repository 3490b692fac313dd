use Rattle.std.proofs.Common.{◌≡◌, inr, ℕ, ◌+◌, ◌*◌, ◌<◌, length, map, ap, ◌∙◌, refl, arith}
use Rattle.image_file.specs.declared.image.ImageWhy.{ImageWhy}
use Rattle.image_file.specs.declared.image.ImageWhy.TheVariants.{Short}
use Rattle.image_file.specs.Format.{plain_area}
use Rattle.image_file.specs.Lawful.{no_area}
use Rattle.image_file.specs.Said.{areas_said, area_place, field_at}
use Rattle.image_file.specs.Table.{AreaAt, Holds, Departs}
use Rattle.image_file.proofs.LawfulLemmas.{area_taken, area_not_taken}
use Rattle.image_file.proofs.ReadingLemmas.{exit, ends, length-all_banks, area_holds, area_refused, area_unspelled, one_version}
use Rattle.image_file.proofs.reading.read_area.Goals as goal

-- as many banks as the file says
pub field-requires : goal.field-requires
field-requires c = omega (arith, ap length c.requires.banks, length-all_banks c.args.bytes.now, c.requires.there)

pub returns-in_err-text : goal.returns-in_err-text
returns-in_err-text c =
    let at : ℕ = 8 + 12 * length c.args.banks.now + 16 * c.args.i in
    let place : at ≡ area_place c.args.bytes.now c.args.i = omega (arith, ap length c.requires.banks, length-all_banks c.args.bytes.now) in
    exit (λ (x : Unit {0}). (map plain_area c.args.areas.now ≡ areas_said c.args.bytes.now (c.args.i + 1)) × Holds c.args.bytes.now (AreaAt c.args.i))
    (λ (p : ℕ) (why : ImageWhy). (length c.args.bytes.now < at + 16) × (p ≡ length c.args.bytes.now) × (why ≡ Short)) (Departs c.args.bytes.now (AreaAt c.args.i))
    c.from_residual.result c.in_err-text.field-0.0 c.from_residual.ensures.1
    (λ p why short. ends c.args.bytes.now (AreaAt c.args.i) at 16 p why place refl short) c.in_err-text.ensures

pub returns-in_default : goal.returns-in_default
returns-in_default c =
    let place : 8 + 12 * length c.args.banks.now + 16 * c.args.i ≡ area_place c.args.bytes.now c.args.i = omega (arith, ap length c.requires.banks, length-all_banks c.args.bytes.now) in
    let text : c.in_ok-text.text.now ≡ field_at c.args.bytes.now (area_place c.args.bytes.now c.args.i) 16 = c.in_ok-text.ensures.1 ∙ ap (λ (p : ℕ). field_at c.args.bytes.now p 16) place in
    inr (record {
      whole = omega (arith, c.in_ok-text.ensures.0, place);
      broken = area_unspelled c.args.bytes.now c.args.version c.args.i c.args.banks.now c.args.areas.now no_area c.in_ok-text.text.now c.requires.version c.requires.banks c.requires.areas text c.in_default.ensures;
      place = place;
      cause = refl;
    })

pub take_area-requires-clause-version : goal.take_area-requires-clause-version
take_area-requires-clause-version c =
    let place : 8 + 12 * length c.args.banks.now + 16 * c.args.i ≡ area_place c.args.bytes.now c.args.i = omega (arith, ap length c.requires.banks, length-all_banks c.args.bytes.now) in
    let text : c.in_ok-text.text.now ≡ field_at c.args.bytes.now (area_place c.args.bytes.now c.args.i) 16 = c.in_ok-text.ensures.1 ∙ ap (λ (p : ℕ). field_at c.args.bytes.now p 16) place in
    one_version c.args.bytes.now c.args.version c.args.i c.args.banks.now c.args.areas.now c.in-Some.area c.in_ok-text.text.now c.requires.version c.requires.banks c.requires.areas text c.in-Some.ensures.0

pub returns-then-not-branch : goal.returns-then-not-branch
returns-then-not-branch c =
    let place : 8 + 12 * length c.args.banks.now + 16 * c.args.i ≡ area_place c.args.bytes.now c.args.i = omega (arith, ap length c.requires.banks, length-all_banks c.args.bytes.now) in
    let text : c.in_ok-text.text.now ≡ field_at c.args.bytes.now (area_place c.args.bytes.now c.args.i) 16 = c.in_ok-text.ensures.1 ∙ ap (λ (p : ℕ). field_at c.args.bytes.now p 16) place in
    inr (record {
      whole = omega (arith, c.in_ok-text.ensures.0, place);
      broken = area_refused c.args.bytes.now c.args.version c.args.i c.args.banks.now c.args.areas.now c.in-Some.area c.in_ok-text.text.now c.requires.version c.requires.banks c.requires.areas text c.in-Some.ensures.0 (area_not_taken c.args.banks.now c.args.areas.now c.take_area.new.areas c.in-Some.area c.in_ok-take_area.field-0 c.if-not-branch.true c.in_ok-take_area.ensures);
      place = place;
      cause = refl;
    })

pub returns : goal.returns
returns c =
    let place : 8 + 12 * length c.args.banks.now + 16 * c.args.i ≡ area_place c.args.bytes.now c.args.i = omega (arith, ap length c.requires.banks, length-all_banks c.args.bytes.now) in
    let text : c.in_ok-text.text.now ≡ field_at c.args.bytes.now (area_place c.args.bytes.now c.args.i) 16 = c.in_ok-text.ensures.1 ∙ ap (λ (p : ℕ). field_at c.args.bytes.now p 16) place in
    let taken = area_taken c.args.banks.now c.args.areas.now c.take_area.new.areas c.in-Some.area c.in_ok-take_area.field-0 c.if-not-branch.false c.in_ok-take_area.ensures in
    area_holds c.args.bytes.now c.args.version c.args.i c.args.banks.now c.args.areas.now c.in-Some.area c.in_ok-text.text.now c.requires.version c.requires.banks c.requires.areas text c.take_area.new.areas (omega (arith, c.in_ok-text.ensures.0, place)) c.in-Some.ensures.0 c.in-Some.ensures.1 taken.0 taken.1
