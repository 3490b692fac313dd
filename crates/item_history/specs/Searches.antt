-- The entries of one id, and how a search for one of them ends.
use Rattle.std.specs.Prelude.{◌≡◌, ℕ, ◌+◌, List, [], ◌∷◌, length, fold, slice_get, Some, ◌==◌, if◌then◌else◌}
use Rattle.item_store.specs.declared.entry.Placed.{Placed}
use Rattle.item_history.specs.declared.searches.Search.{Search}
use Rattle.item_history.specs.declared.searches.Search.TheVariants.{Found, Left}

-- those of an id, the newest first
abbrev pub of_id : ℕ → List Placed → List Placed
of_id id placed = fold (λ older p. if p.id == id then p ∷ older else older) [] placed

-- the one behind so many of these entries, or what is still to be passed behind all of them
abbrev pub EndsIn : List Placed → ℕ → Search → Type 0
EndsIn placed n (Found p) = slice_get placed n ≡ Some p
EndsIn placed n (Left more) = n ≡ length placed + more

abbrev pub IfFound : Search → (Placed → Type 0) → Type 0
IfFound (Found p) P = P p
IfFound (Left more) P = Unit {0}
