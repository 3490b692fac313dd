-- What something was given.
use Rattle.std.proofs.Common.{◌≡◌, List, [], ◌++◌, Option, Some, None, refl, ap}
use Rattle.std.proofs.lemmas.List.{append-nil, append_assoc}
use Rattle.settings_core.specs.Reported.{reported_more}

pub reported_none : {X : Type 0} (reported : Option (List X)) → reported_more reported [] ≡ reported
reported_none None = refl
reported_none (Some list) = ap Some (append-nil list)

pub reported_then : {X : Type 0} (reported : Option (List X)) (first second : List X) → reported_more (reported_more reported first) second ≡ reported_more reported (first ++ second)
reported_then None first second = refl
reported_then (Some list) first second = ap Some (append_assoc list first second)
