-- to set the empty value is to delete
use Rattle.std.proofs.Common.{◌≡◌, ◌∙◌, List, ℕ, length, true, ap, sym}
use Rattle.std.proofs.lemmas.Bool.{eqb-true}
use Rattle.mirror_session.specs.Bench.{meanings, moment}
use Rattle.mirror_session.proofs.ChangeLemmas.{delete_is}
use Rattle.mirror_session.proofs.EmptyLemmas.{as_set_line}
use Rattle.mirror_session.proofs.changing.change_setting.Goals as goal

pub returns-then-is_empty-clause-done : goal.returns-then-is_empty-clause-done
returns-then-is_empty-clause-done g c =
    let K = g.K.Backend in
    let m = meanings K.damage K.contents K.rests K.room g.K.Priced.prices K.owes in
    let none : length c.args.value.now ≡ 0 = ap (λ (l : List ℕ). length l) (sym c.as_slice.ensures) ∙ eqb-true (length c.as_slice.result.now) 0 (sym c.is_empty.ensures ∙ c.if-is_empty.true) in
    as_set_line m c.args.map.now c.args.name.now c.args.value.now (delete_is c.args.name.now c.args.value.now none) c.delete_setting.result
    (moment (g.B.Flash.device c.args.bench.now) true) (moment (g.B.Flash.device c.delete_setting.new.bench) true) c.delete_setting.ensures.done
