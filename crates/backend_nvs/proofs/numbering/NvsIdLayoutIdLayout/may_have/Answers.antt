use Rattle.std.proofs.Common.{◌≡◌, ℕ, false, arith}
use Rattle.std.specs.Prelude.{nat_lt}
use Rattle.std.proofs.lemmas.Bool.Decides.{nat_tests}
use Rattle.backend_nvs.proofs.numbering.NvsIdLayoutIdLayout.may_have.Goals as goal

none-of : (count : ℕ) → nat_lt 0 count ≡ false → count ≡ 0
none-of count is = grind (arith, nat_tests)

pub returns : goal.returns
returns g c =
    λ not_there other inside has.
    let none : c.read_count.result ≡ 0 = none-of c.read_count.result not_there in
    absurd (omega (arith, none, c.read_count.ensures.count, inside.from, inside.to))
