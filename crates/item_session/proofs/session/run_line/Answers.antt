use Rattle.std.proofs.Common.{◌≡◌, false, rules, sym, subst}
use Rattle.item_session.specs.declared.line.Line.{Line}
use Rattle.item_session.specs.declared.answer.Answer.TheVariants.{Off}
use Rattle.item_session.specs.LineDone.{LineDone}
use Rattle.item_session.proofs.LineLemmas.{delete_off, get_off, older_off, set_off, space_off}
use Rattle.item_session.proofs.session.run_line.Goals.{in_default-via-in-Some+else-is_on, in_default-via-in_default, in_default-store-via-in-Some-store+else-is_on-2, in_default-store-via-in_default-store, in_default-store-2-via-in-Some-store-2+else-is_on-3, in_default-store-2-via-in_default-store-2, in_default-store-3-via-in-Some-store-3+else-is_on-4, in_default-store-3-via-in_default-store-3, in_default-store-4-via-in-Some-store-4+else-is_on-5, in_default-store-4-via-in_default-store-4}
use Rattle.item_session.proofs.session.run_line.Goals as goal

pub returns-in_default-clause-done : goal.returns-in_default-clause-done
returns-in_default-clause-done g c =
    let d = g.B.Flash.device c.args.bench.now in
    let format_of = g.T.SlotSectors.format_of in
    let dark : (g.B.Flash.device c.args.bench.now).is_on ≡ false = elim c.in_default.branch [
      | in_default-via-in-Some+else-is_on w ↦ search rules
      | in_default-via-in_default w ↦ search rules
    ] in
    subst (λ (l : Line). LineDone format_of c.args.area.now l Off d d) (sym c.in-Set.is) (set_off format_of c.args.area.now d c.in-Set.id c.in-Set.value dark)

pub returns-in_default-store-clause-done : goal.returns-in_default-store-clause-done
returns-in_default-store-clause-done g c =
    let d = g.B.Flash.device c.args.bench.now in
    let format_of = g.T.SlotSectors.format_of in
    let dark : (g.B.Flash.device c.args.bench.now).is_on ≡ false = elim c.in_default-store.branch [
      | in_default-store-via-in-Some-store+else-is_on-2 w ↦ search rules
      | in_default-store-via-in_default-store w ↦ search rules
    ] in
    subst (λ (l : Line). LineDone format_of c.args.area.now l Off d d) (sym c.in-Delete.is) (delete_off format_of c.args.area.now d c.in-Delete.id dark)

pub returns-in_default-store-2-clause-done : goal.returns-in_default-store-2-clause-done
returns-in_default-store-2-clause-done g c =
    let d = g.B.Flash.device c.args.bench.now in
    let format_of = g.T.SlotSectors.format_of in
    let dark : (g.B.Flash.device c.args.bench.now).is_on ≡ false = elim c.in_default-store-2.branch [
      | in_default-store-2-via-in-Some-store-2+else-is_on-3 w ↦ search rules
      | in_default-store-2-via-in_default-store-2 w ↦ search rules
    ] in
    subst (λ (l : Line). LineDone format_of c.args.area.now l Off d d) (sym c.in-Get.is) (get_off format_of c.args.area.now d c.in-Get.id dark)

pub returns-in_default-store-3-clause-done : goal.returns-in_default-store-3-clause-done
returns-in_default-store-3-clause-done g c =
    let d = g.B.Flash.device c.args.bench.now in
    let format_of = g.T.SlotSectors.format_of in
    let dark : (g.B.Flash.device c.args.bench.now).is_on ≡ false = elim c.in_default-store-3.branch [
      | in_default-store-3-via-in-Some-store-3+else-is_on-4 w ↦ search rules
      | in_default-store-3-via-in_default-store-3 w ↦ search rules
    ] in
    subst (λ (l : Line). LineDone format_of c.args.area.now l Off d d) (sym c.in-Older.is) (older_off format_of c.args.area.now d c.in-Older.id c.in-Older.n dark)

pub returns-in_default-store-4-clause-done : goal.returns-in_default-store-4-clause-done
returns-in_default-store-4-clause-done g c =
    let d = g.B.Flash.device c.args.bench.now in
    let format_of = g.T.SlotSectors.format_of in
    let dark : (g.B.Flash.device c.args.bench.now).is_on ≡ false = elim c.in_default-store-4.branch [
      | in_default-store-4-via-in-Some-store-4+else-is_on-5 w ↦ search rules
      | in_default-store-4-via-in_default-store-4 w ↦ search rules
    ] in
    subst (λ (l : Line). LineDone format_of c.args.area.now l Off d d) (sym c.in-Space.is) (space_off format_of c.args.area.now d dark)
