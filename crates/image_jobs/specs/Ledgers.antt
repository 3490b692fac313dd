-- New ledgers, by which the steps of a run are counted.
use Rattle.std.specs.Prelude.{◌≡◌, ℕ, ◌<◌}
use Rattle.std.specs.declared.sync.ledger.Blank.{Blank}

-- the blank is of the ledger with this name, which has so many parts, at least one
pub record IsNewLedger (blank : Blank) (ledger all : ℕ) : Type 0 where
  pub name : blank.name ≡ ledger
  pub parts : blank.parts ≡ all
  pub some : 0 < all
