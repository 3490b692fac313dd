use Rattle.std.proofs.Common.{List, Some, sym, subst, arith}
use Rattle.std.specs.Prelude.{slice_index_or}
use Rattle.item_store.specs.declared.entry.Placed.{Placed}
use Rattle.item_store.specs.Latest.{IsNextIn}
use Rattle.item_store.proofs.TablePlaces.{next-there, next-nowhere}
use Rattle.item_store.proofs.latest.LastSlots.next.Goals as goal

abbrev nothing : Placed
nothing = record { sector = 0; slot = 0; id = 0; len = 0 }

pub returns-then-first-len : goal.returns-then-first-len
returns-then-first-len c =
    λ rises.
    subst (λ (l : List Placed). IsNextIn c.args.after c.args.self.now.entries.items (Some (slice_index_or l c.first_behind-first.result nothing))) (sym c.as_slice.ensures.value)
    (next-there c.args.self.now.entries.items c.args.after c.first_behind-first.result rises (c.first_behind-first.ensures.before rises) nothing (c.first_behind-first.ensures.behind rises) (omega (arith, c.if-first-len.true, c.len.ensures.value)))

pub returns-else-first-len : goal.returns-else-first-len
returns-else-first-len c =
    λ rises.
    next-nowhere c.args.self.now.entries.items c.args.after c.first_behind-first.result rises (c.first_behind-first.ensures.before rises) (omega (arith, c.if-first-len.false, c.len.ensures.value))
