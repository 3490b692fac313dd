use Rattle.std.proofs.Common.{ℕ, List, true, false, eqb, refl, sym, ap, ◌∙◌}
use Rattle.std.proofs.lemmas.Bool.{eq-eqb, ne_eqb}
use Rattle.flash_sim.specs.Device.{Device}
use Rattle.flash_map.specs.Area.{sectors_of, sector_at}
use Rattle.item_laws.specs.Area.{previous, is_closed_at}
use Rattle.zms_format.specs.declared.sector.Marks.{Marks}
use Rattle.zms_format.specs.Area.{plain, is_begun}
use Rattle.zms_format.proofs.MountLemmas.{previous_there, second_is}
use Rattle.zms_format.proofs.places.is_second.Goals as goal

pub returns-then-marks : goal.returns-then-marks
returns-then-marks g c =
    let d : Device = g.F.Flash.device c.args.flash.now in
    let sectors : List (List ℕ) = sectors_of d c.args.area.now in
    let closed = sym (ap (λ (m : Marks). m.closed) c.marks_at-marks.ensures) ∙ c.if-marks.true in
    second_is sectors c.args.current c.args.place true (eqb c.args.place c.args.current) (is_begun (sector_at sectors c.args.place)) (is_closed_at plain sectors (previous sectors c.args.place)) closed refl refl refl

pub returns-then-place-current : goal.returns-then-place-current
returns-then-place-current g c =
    let d : Device = g.F.Flash.device c.args.flash.now in
    let sectors : List (List ℕ) = sectors_of d c.args.area.now in
    let closed = sym (ap (λ (m : Marks). m.closed) c.marks_at-marks.ensures) ∙ c.if-marks.false in
    second_is sectors c.args.current c.args.place false true (is_begun (sector_at sectors c.args.place)) (is_closed_at plain sectors (previous sectors c.args.place)) closed (eq-eqb c.args.place c.args.current c.if-place-current.true) refl refl

pub returns-then-marks-2 : goal.returns-then-marks-2
returns-then-marks-2 g c =
    let d : Device = g.F.Flash.device c.args.flash.now in
    let sectors : List (List ℕ) = sectors_of d c.args.area.now in
    let closed = sym (ap (λ (m : Marks). m.closed) c.marks_at-marks.ensures) ∙ c.if-marks.false in
    let begun = sym (ap (λ (m : Marks). m.begun) c.marks_at-marks.ensures) ∙ c.if-marks-2.true in
    second_is sectors c.args.current c.args.place false false true (is_closed_at plain sectors (previous sectors c.args.place)) closed (ne_eqb c.args.place c.args.current c.if-place-current.false) begun refl

pub returns : goal.returns
returns g c =
    let d : Device = g.F.Flash.device c.args.flash.now in
    let sectors : List (List ℕ) = sectors_of d c.args.area.now in
    let closed = sym (ap (λ (m : Marks). m.closed) c.marks_at-marks.ensures) ∙ c.if-marks.false in
    let begun = sym (ap (λ (m : Marks). m.begun) c.marks_at-marks.ensures) ∙ c.if-marks-2.false in
    let at = c.previous.ensures.value ∙ previous_there d c.args.area.now c.args.place in
    second_is sectors c.args.current c.args.place false false false c.marks_at.result.closed closed (ne_eqb c.args.place c.args.current c.if-place-current.false) begun (ap (is_closed_at plain sectors) (sym at) ∙ sym (ap (λ (m : Marks). m.closed) c.marks_at.ensures))
