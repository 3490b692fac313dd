use Rattle.std.proofs.Common.{List, Some, sym, ap, subst, ◌∙◌}
use Rattle.std.specs.Prelude.{slice_index_or}
use Rattle.item_store.specs.declared.entry.Placed.{Placed}
use Rattle.item_store.specs.Latest.{Rises, last_of_id}
use Rattle.item_store.proofs.TablePlaces.{found, not-found}
use Rattle.item_store.proofs.latest.LastSlots.entry_of.Goals as goal

abbrev nothing : Placed
nothing = record { sector = 0; slot = 0; id = 0; len = 0 }

pub returns-in-Ok : goal.returns-in-Ok
returns-in-Ok c =
    λ rises.
    ap (λ (l : List Placed). Some (slice_index_or l c.in-Ok.at nothing)) c.as_slice-in-Ok.ensures.value
    ∙ ap (λ (l : List Placed). Some (slice_index_or l c.in-Ok.at nothing)) (sym c.as_slice.ensures.value)
    ∙ found c.as_slice.result.now c.args.id c.in-Ok.at nothing c.in-Ok.ensures.inside (c.in-Ok.ensures.splits (subst (λ (l : List Placed). Rises l) (sym c.as_slice.ensures.value) rises))
    ∙ ap (last_of_id c.args.id) c.as_slice.ensures.value

pub returns-in-Err : goal.returns-in-Err
returns-in-Err c =
    λ rises.
    not-found c.as_slice.result.now c.args.id c.in-Err.field-0 (c.in-Err.ensures.splits (subst (λ (l : List Placed). Rises l) (sym c.as_slice.ensures.value) rises))
    ∙ ap (last_of_id c.args.id) c.as_slice.ensures.value
