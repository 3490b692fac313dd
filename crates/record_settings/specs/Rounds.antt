-- Collections that make no room. Parts are the bodies of the records, sector by sector, the oldest
-- sector first. A collection takes the oldest part away, and what it copies is the new last one.
use Rattle.std.specs.Prelude.{ℕ, List, length, sum_by}
use Rattle.fcb_ring.specs.Writing.{record_cost}
use Rattle.item_laws.specs.PairRounds.{LeavesNoRoom}
use Rattle.record_settings.specs.Live.{live_bodies}

-- what records with these bodies cost
abbrev pub bodies_cost : ℕ → List (List ℕ) → ℕ
bodies_cost unit bodies = sum_by (λ body. record_cost unit (length body)) bodies

-- So many collections led from the parts at the start to those now. Each record of the new parts is
-- the last of its name there and has a value, and each new part and what is needed cost more than a
-- sector has for them.
abbrev pub FindsNoRoom : ℕ → ℕ → ℕ → ℕ → List (List (List ℕ)) → List (List (List ℕ)) → ℕ → Type 0
FindsNoRoom limit unit need cap start now rounds =
    LeavesNoRoom (live_bodies limit) (bodies_cost unit) need cap start now rounds
