-- Reporting the bodies of all records by a walk over the list.
use Rattle.std.proofs.Common.{◌≡◌, ℕ, List, [], ◌∷◌, ◌++◌, Option, Some, None, sym, ap, subst, ◌∙◌}
use Rattle.std.specs.List.{slice_get}
use Rattle.std.proofs.lemmas.List.{map-append}
use Rattle.fcb_ring.specs.declared.record.RecordAt.{RecordAt}
use Rattle.fcb_ring.specs.Entries.{bodies}
use Rattle.fcb_ring.specs.Standing.{IsNext, record_places}
use Rattle.fcb_ring.proofs.WalkLemmas.{Entry, IsAt, all-done, body-is, first-of, start, step}

-- these bodies are those of the records so far
pub record ReportsTo (list : List Entry) (at : Option RecordAt) (reported : List (List ℕ)) : Type 0 where
  pub done : List Entry
  pub later : List Entry
  pub is_at : IsAt list at done later
  pub are : reported ≡ bodies done

pub none_reported : (list : List Entry) (at : Option RecordAt) (reported : List (List ℕ)) → IsNext list None at → reported ≡ [] → ReportsTo list at reported
none_reported list at reported next is = record { done = []; later = list; is_at = start list at next; are = is }

pub one_reported : (list : List Entry) (at : Option RecordAt) (reported more : List (List ℕ)) (r : RecordAt) (body : List ℕ) (next : Option RecordAt) → ReportsTo list at reported → at ≡ Some r
    → ((i : ℕ) → slice_get (record_places list) i ≡ Some r → slice_get list i ≡ Some (r, body)) → IsNext list (Some r) next → more ≡ reported ++ body ∷ [] → ReportsTo list next more
one_reported list at reported more r body next so_far is reads goes added =
    let f = first-of so_far.later r (sym is ∙ so_far.is_at.here) in
    let are : list ≡ so_far.done ++ (r, f.0) ∷ f.1 = so_far.is_at.are ∙ ap (λ (l : List Entry). so_far.done ++ l) f.2 in
    let same : body ≡ f.0 = body-is list so_far.done r f.0 f.1 body are reads in
    record {
      done = so_far.done ++ (r, f.0) ∷ [];
      later = f.1;
      is_at = step list r so_far.done f.0 f.1 next are goes;
      are =
          added ∙ ap (λ (b : List ℕ). reported ++ b ∷ []) same ∙ ap (λ (l : List (List ℕ)). l ++ f.0 ∷ []) so_far.are
          ∙ sym (map-append (λ (entry : Entry). entry.1) so_far.done ((r, f.0) ∷ []));
    }

pub all_reported : (list : List Entry) (at : Option RecordAt) (reported : List (List ℕ)) → ReportsTo list at reported → at ≡ None → reported ≡ bodies list
all_reported list at reported so_far end =
    so_far.are ∙ ap bodies (sym (all-done list so_far.done so_far.later (subst (λ (o : Option RecordAt). IsAt list o so_far.done so_far.later) end so_far.is_at)))
