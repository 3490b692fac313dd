use Rattle.std.proofs.Common.{ℕ, ◌∙◌, ap, sym}
use Rattle.nvs_store.proofs.IgnoredSectors.{counts_all, counts_but_victim, counts_but_open}
use Rattle.item_laws.proofs.Places.{after}
use Rattle.nvs_store.proofs.scan.is_ignored.Goals as goal

pub returns-in-Nothing : goal.returns-in-Nothing
returns-in-Nothing c = λ unit sectors long is. counts_all unit sectors c.args.scan.now c.args.place is c.in-Nothing.is

pub returns-in-EraseNext : goal.returns-in-EraseNext
returns-in-EraseNext c = λ unit sectors long is.
    counts_but_victim unit sectors c.args.scan.now c.args.place c.next.result is c.in-EraseNext.is (c.next.ensures.value ∙ ap (λ (n : ℕ). after n c.args.scan.now.current) (sym long))

pub returns-in-CollectAgain : goal.returns-in-CollectAgain
returns-in-CollectAgain c = λ unit sectors long is. counts_but_open unit sectors c.args.scan.now c.args.place is c.in-CollectAgain.is
