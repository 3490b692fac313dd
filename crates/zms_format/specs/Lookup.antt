-- What a mount looks for from sector to sector.
use Rattle.std.specs.Prelude.{ℕ, ◌<◌, ⊤, Bool, not, List}
use Rattle.item_laws.specs.Area.{is_closed_at, is_blank_at, follows_closed}
use Rattle.zms_format.specs.declared.places.Lookup.{Lookup}
use Rattle.zms_format.specs.declared.places.Lookup.TheVariants.{NotClosed, Opening, InUse, SecondOpen, NotClosable, Full}
use Rattle.flash_sim.specs.declared.flash.Kind.{Kind as BankKind}
use Rattle.zms_format.specs.Area.{plain, is_second_open, is_dirty_at, is_overfull_at}

-- a sector that it names is one of the area
abbrev pub NamesWithin : Lookup → ℕ → Type 0
NamesWithin NotClosed count = ⊤
NamesWithin Opening count = ⊤
NamesWithin InUse count = ⊤
NamesWithin (SecondOpen current) count = current < count
NamesWithin (NotClosable current) count = current < count
NamesWithin (Full current) count = current < count

-- on a bank of this kind
abbrev pub is_match : Lookup → BankKind → List (List ℕ) → ℕ → Bool
is_match NotClosed kind sectors place = not (is_closed_at plain sectors place)
is_match Opening kind sectors place = follows_closed plain sectors place
is_match InUse kind sectors place = not (is_blank_at plain sectors place)
is_match (SecondOpen current) kind sectors place = is_second_open sectors current place
is_match (NotClosable current) kind sectors place = is_dirty_at kind sectors current place
is_match (Full current) kind sectors place = is_overfull_at sectors current place
