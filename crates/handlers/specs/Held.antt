-- What a handler holds, and which values it accepts.
use Rattle.std.specs.Prelude.{◌≡◌, ℕ, ◌+◌, ◌-◌, ◌^◌, Bool, true, false, ◌==◌, ◌&&◌, nat_le, List, length, slice_index, slice_get, Option, Result, Ok, Err, min}
use Rattle.std.specs.FinMap.{insert, entries, empty}
pub use Rattle.handlers.specs.Pairs.{Held}
use Rattle.std.specs.Borrow.{Bor}
use Rattle.handlers.specs.declared.handler.HandlerKind.{HandlerKind}
use Rattle.handlers.specs.declared.handler.HandlerKind.TheVariants.{Table, Counter, Level}
use Rattle.handlers.specs.declared.handler.SetRefusal.{SetRefusal}
use Rattle.handlers.specs.declared.handler.SetRefusal.TheVariants.{Rejected, NoMemory}

abbrev pub accepts : HandlerKind → List ℕ → Bool
accepts Table value = true
accepts Counter value = length value == 4
accepts Level value = (length value == 1) && nat_le (slice_index value 0) 100

-- what a handler is, holds, and how often it was committed
pub record HandlerState : Type 0 where
  pub kind : HandlerKind
  pub held : Held
  pub commits : ℕ

-- a handler of this kind that holds nothing and was never committed
abbrev pub fresh : HandlerKind → HandlerState
fresh kind = record { kind = kind; held = empty; commits = 0 }

-- the handler once it holds this value for this rest
abbrev pub given : HandlerState → List ℕ → List ℕ → HandlerState
given h rest value = record h { held = insert h.held rest value }

-- the handler after one commit more; the count stays at 2^64 - 1
abbrev pub committed : HandlerState → HandlerState
committed h = record h { commits = h.commits + min 1 (2 ^ 64 - 1 - h.commits) }

-- how giving a handler a value ends
abbrev pub SetEnds : HandlerState → HandlerState → List ℕ → List ℕ → Result (Unit {0}) SetRefusal → Type 0
SetEnds before after rest value (Ok x) =
    (accepts before.kind value ≡ true) × (after ≡ given before rest value)
SetEnds before after rest value (Err Rejected) = (accepts before.kind value ≡ false) × (after ≡ before)
SetEnds before after rest value (Err NoMemory) = (accepts before.kind value ≡ true) × (after ≡ before)

-- the pair at place `i` in the order of rests
abbrev pub pair_at : Held → ℕ → Option (List ℕ × List ℕ)
pair_at held i = slice_get (entries held) i

abbrev pub seen : Bor (List ℕ) × Bor (List ℕ) → List ℕ × List ℕ
seen pair = (pair.0.now, pair.1.now)
