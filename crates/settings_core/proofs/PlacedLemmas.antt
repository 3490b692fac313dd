-- The subtree of the handler at a place.
use Rattle.std.proofs.Common.{◌≡◌, ℕ, zero, suc, ◌<◌, List, [], ◌∷◌, length, get_or, Some, None, arith}
use Rattle.std.specs.Prelude.{option_map, slice_get}
use Rattle.handlers.specs.Registry.{Registered, nobody}

pub subtree_there : (hs : List Registered) (i : ℕ) (text : List ℕ) → Some text ≡ option_map (λ h. h.subtree) (slice_get hs i) → text ≡ (get_or hs i nobody).subtree
subtree_there [] i text is = absurd (cc)
subtree_there (h ∷ hs) zero text is = cc
subtree_there (h ∷ hs) (suc i) text is = subtree_there hs i text is

pub subtree_missing : (hs : List Registered) (i : ℕ) → i < length hs → None ≡ option_map (λ h. h.subtree) (slice_get hs i) → ⊥
subtree_missing [] i within is = absurd (omega arith)
subtree_missing (h ∷ hs) zero within is = absurd (cc)
subtree_missing (h ∷ hs) (suc i) within is = subtree_missing hs i (omega arith) is
