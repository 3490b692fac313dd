-- The hash and the ids of a name of one letter, by computation.
use Rattle.std.proofs.Common.{◌≡◌, ◌+◌, [], ◌∷◌, refl}
use Rattle.backend_zms.specs.declared.hash.TheConstants.{STEP}
use Rattle.backend_zms.specs.Hash.{fnv, group_of, first_of}

hash-of-a : fnv (0x61 ∷ []) ≡ 0xE40C292C
hash-of-a = refl

name-of-a : first_of (0x61 ∷ []) ≡ 0x80002920
unfolding group_of
name-of-a = refl

value-of-a : first_of (0x61 ∷ []) + STEP ≡ 0xC0002920
unfolding group_of
value-of-a = refl
