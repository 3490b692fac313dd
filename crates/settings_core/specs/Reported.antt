-- What a receiver was given; `None` if it does not say.
use Rattle.std.specs.Prelude.{List, ◌++◌, Option, option_map}

-- the list with these more
abbrev pub reported_more : {X : Type 0} → Option (List X) → List X → Option (List X)
reported_more reported more = option_map (λ list. list ++ more) reported
