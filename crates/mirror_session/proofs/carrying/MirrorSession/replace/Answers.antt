use Rattle.std.specs.Prelude.{Result, OnErr, is_some}
use Rattle.std.proofs.Common.{◌≡◌, ◌∙◌, ◌&&◌, ℕ, Bool, List, Option, true, false, Some, None, Ok, Err, sym, ap, subst, rules}
use Rattle.flash_map.specs.declared.area.Area.{Area}
use Rattle.mirror_session.specs.declared.answer.Answer.{Answer}
use Rattle.mirror_session.specs.declared.line.Line.TheVariants.{Blank}
use Rattle.std.proofs.lemmas.Bool.{false≢true}
use Rattle.migrator.proofs.AreaLemmas.{store-within}
use Rattle.mirror_session.specs.Bench.{labelled, meanings, moment}
use Rattle.mirror_session.specs.LineDone.{LineDone, blanked}
use Rattle.mirror_session.specs.Running.{FindsArea}
use Rattle.session.proofs.ActiveAreas.{area_there}
use Rattle.session_table.specs.Bench.{area_at}
use Rattle.mirror_session.proofs.QuietLemmas.{blank_none, no_power}
use Rattle.mirror_session.proofs.ReplaceLemmas.{labelled_stores, replaced_line, replaced_owes}
use Rattle.mirror_session.proofs.carrying.MirrorSession.replace.Goals.{else-is_whole-via-then-is_whole+else-is_on, else-is_whole-via-else-is_whole}
use Rattle.mirror_session.proofs.carrying.MirrorSession.replace.Goals as goal

-- where the store area with a label is found
found : (map : List Area) (label text : List ℕ) (result place : Option ℕ) → result ≡ labelled map text → text ≡ label → result ≡ place → labelled map label ≡ place
found map label text result place reported same is = ap (labelled map) (sym same) ∙ (sym reported ∙ is)

-- what holds holds of an error
on_err : {X E : Type 0} (result : Result X E) (P : Type 0) → P → OnErr result P
on_err (Ok x) P holds = tt
on_err (Err x) P holds = holds

dark_by : (is_on whole result : Bool) → result ≡ is_on → result ≡ false → (is_on && whole) ≡ false
dark_by is_on whole result reported is = ap (λ (b : Bool). b && whole) (sym reported ∙ is)

pub returns-in_default-clause-done : goal.returns-in_default-clause-done
returns-in_default-clause-done g c =
    let K = g.K.Backend in
    let m = meanings K.damage K.contents K.rests K.room g.K.Priced.prices K.owes in
    let d = g.B.Flash.device c.args.bench.now in
    let whole = is_some c.args.self.now.mirror in
    let dark : (d.is_on && whole) ≡ false = elim c.else-is_whole.branch [
      | else-is_whole-via-then-is_whole+else-is_on w ↦ dark_by d.is_on whole w.is_on.result w.is_on.ensures w.if-is_on.false
      | else-is_whole-via-else-is_whole w ↦ no_power m c.args.map.now d whole (sym c.is_some-is_whole.ensures ∙ w.if-is_whole.false)
    ] in
    let none : labelled c.args.map.now c.args.label.now ≡ None = found c.args.map.now c.args.label.now c.as_slice.result.now c.labelled.result None c.labelled.ensures c.as_slice.ensures c.in_default.is in
    blank_none m c.args.map.now d c.args.label.now whole dark none

pub area_at-area-requires : goal.area_at-area-requires
area_at-area-requires g c =
    let is : labelled c.args.map.now c.args.label.now ≡ Some c.in-Some.place = found c.args.map.now c.args.label.now c.as_slice.result.now c.labelled.result (Some c.in-Some.place) c.labelled.ensures c.as_slice.ensures c.in-Some.is in
    store-within c.args.map.now c.in-Some.place (labelled_stores c.args.map.now c.args.label.now c.in-Some.place is)

pub blank_area-requires : goal.blank_area-requires
blank_area-requires g c = c.requires.map.lawful.each c.in-Some.place c.area_at-area.result c.area_at-area.ensures

pub returns-clause-done : goal.returns-clause-done
returns-clause-done g c =
    let K = g.K.Backend in
    let m = meanings K.damage K.contents K.rests K.room g.K.Priced.prices K.owes in
    let d = g.B.Flash.device c.args.bench.now in
    let new = g.B.Flash.device c.blank_area.new.bench in
    let whole = is_some c.args.self.now.mirror in
    let is : labelled c.args.map.now c.args.label.now ≡ Some c.in-Some.place = found c.args.map.now c.args.label.now c.as_slice.result.now c.labelled.result (Some c.in-Some.place) c.labelled.ensures c.as_slice.ensures c.in-Some.is in
    let dark : (d.is_on && whole) ≡ false = elim c.else-is_whole.branch [
      | else-is_whole-via-then-is_whole+else-is_on w ↦ dark_by d.is_on whole w.is_on.result w.is_on.ensures w.if-is_on.false
      | else-is_whole-via-else-is_whole w ↦ no_power m c.args.map.now d whole (sym c.is_some-is_whole.ensures ∙ w.if-is_whole.false)
    ] in
    let up : whole ≡ true = search rules in
    let made : new ≡ blanked d (area_at c.args.map.now c.in-Some.place) = c.in_ok-blank_area.ensures.ok ∙ ap (blanked d) (sym (area_there c.args.map.now c.in-Some.place c.area_at-area.result c.area_at-area.ensures)) in
    subst (λ (answer : Answer). LineDone m c.args.map.now (Blank c.args.label.now) answer (moment d whole) (moment new false)) (sym c.done.ensures)
    (replaced_line K.mounted_on K.stands m K.serves c.args.map.now d new c.requires.map (g.met.B.Flash.is_lawful c.args.bench.now) (λ x a fine is served blank. g.met.K.Priced.blank_empty x a fine is served blank) (λ x a fine is served blank. g.met.K.Priced.blank_reads x a fine is served blank)
    c.in-Some.place c.args.label.now is c.args.self.now.mirror c.requires.ready up dark made)

pub returns-clause-left : goal.returns-clause-left
returns-clause-left g c =
    let K = g.K.Backend in
    let m = meanings K.damage K.contents K.rests K.room g.K.Priced.prices K.owes in
    let d = g.B.Flash.device c.args.bench.now in
    let new = g.B.Flash.device c.blank_area.new.bench in
    let whole = is_some c.args.self.now.mirror in
    let is : labelled c.args.map.now c.args.label.now ≡ Some c.in-Some.place = found c.args.map.now c.args.label.now c.as_slice.result.now c.labelled.result (Some c.in-Some.place) c.labelled.ensures c.as_slice.ensures c.in-Some.is in
    let dark : (d.is_on && whole) ≡ false = elim c.else-is_whole.branch [
      | else-is_whole-via-then-is_whole+else-is_on w ↦ dark_by d.is_on whole w.is_on.result w.is_on.ensures w.if-is_on.false
      | else-is_whole-via-else-is_whole w ↦ no_power m c.args.map.now d whole (sym c.is_some-is_whole.ensures ∙ w.if-is_whole.false)
    ] in
    let up : whole ≡ true = search rules in
    let made : new ≡ blanked d (area_at c.args.map.now c.in-Some.place) = c.in_ok-blank_area.ensures.ok ∙ ap (blanked d) (sym (area_there c.args.map.now c.in-Some.place c.area_at-area.result c.area_at-area.ensures)) in
    replaced_owes K.mounted_on K.stands m K.serves c.args.map.now d new c.requires.map (g.met.B.Flash.is_lawful c.args.bench.now) (λ x a fine is served blank. g.met.K.Priced.blank_empty x a fine is served blank) (λ x a fine is served blank. g.met.K.Priced.blank_reads x a fine is served blank)
    c.in-Some.place c.args.label.now is K.owes (λ x a fine is served blank. g.met.K.Priced.blank_rests x a fine is served blank) (λ a h x n is. g.met.K.Backend.rests_owe a h x n is) c.args.self.now.mirror c.requires.ready up dark made

pub returns-in_err-blank_area-clause-finds : goal.returns-in_err-blank_area-clause-finds
returns-in_err-blank_area-clause-finds g c =
    let d = g.B.Flash.device c.args.bench.now in
    let whole = is_some c.args.self.now.mirror in
    let is : labelled c.args.map.now c.args.label.now ≡ Some c.in-Some.place = found c.args.map.now c.args.label.now c.as_slice.result.now c.labelled.result (Some c.in-Some.place) c.labelled.ensures c.as_slice.ensures c.in-Some.is in
    let up : whole ≡ true = search rules in
    let off : d.is_on ≡ false = elim c.else-is_whole.branch [
      | else-is_whole-via-then-is_whole+else-is_on w ↦ sym w.is_on.ensures ∙ w.if-is_on.false
      | else-is_whole-via-else-is_whole w ↦ absurd (false≢true (sym (sym c.is_some-is_whole.ensures ∙ w.if-is_whole.false) ∙ up))
    ] in
    on_err c.from_residual.result (FindsArea c.args.map.now (Blank c.args.label.now) (moment d whole)) (off, up, (c.in-Some.place, is))
