-- The versions of an id are what its entries say.
use Rattle.std.proofs.Common.{◌≡◌, ℕ, ◌≤◌, Bool, true, false, cond, eqb, List, [], ◌∷◌, length, map, Some, None, refl, ap, ◌∙◌, arith}
use Rattle.std.specs.Prelude.{fold, slice_get}
use Rattle.std.specs.Option.{option_map}
use Rattle.std.proofs.lemmas.Option.{slice_get-map}
use Rattle.item_laws.specs.Live.{all_placed, bytes_of, pair_of}
use Rattle.item_laws.proofs.LastLemmas.{list-found}
use Rattle.item_store.specs.declared.entry.Placed.{Placed}
use Rattle.item_store.specs.SectorFormat.{SectorFormat, IsSectorFormat, slots}
use Rattle.item_store.specs.Standing.{list_of}
use Rattle.item_store.specs.Versions.{versions}
use Rattle.item_store.proofs.CopyLoop.{are}
use Rattle.item_history.specs.declared.history.Older.{Older}
use Rattle.item_history.specs.declared.history.Older.TheVariants.{Value, Deleted, Gone}
use Rattle.item_history.specs.History.{IsVersion}
use Rattle.item_history.specs.Searches.{of_id}
use Rattle.item_history.proofs.SearchSteps.{none_there}

module _ (k : SectorFormat) (sectors : List (List ℕ)) (id : ℕ) where
  abbrev bytes : Placed → List ℕ
  bytes p = bytes_of (slots k) sectors p

  one_said : (t : Bool) (p : Placed) (older : List Placed) → cond t (bytes p ∷ map bytes older) (map bytes older) ≡ map bytes (cond t (p ∷ older) older)
  one_said true p older = refl
  one_said false p older = refl

  said_by : (older ps : List Placed)
      → fold (λ (vs : List (List ℕ)) (pair : ℕ × List ℕ). cond (eqb pair.0 id) (pair.1 ∷ vs) vs) (map bytes older) (map (pair_of (slots k) sectors) ps) ≡ map bytes (fold (λ (os : List Placed) (p : Placed). cond (eqb p.id id) (p ∷ os) os) older ps)
  said_by older [] = refl
  said_by older (p ∷ ps) =
      ap (λ (start : List (List ℕ)). fold (λ (vs : List (List ℕ)) (pair : ℕ × List ℕ). cond (eqb pair.0 id) (pair.1 ∷ vs) vs) start (map (pair_of (slots k) sectors) ps)) (one_said (eqb p.id id) p older)
      ∙ said_by (cond (eqb p.id id) (p ∷ older) older) ps

  pub versions_are : IsSectorFormat k → versions (list_of k sectors) id ≡ map bytes (of_id id (all_placed (slots k) sectors))
  versions_are law = ap (λ pairs. versions pairs id) (list-found (slots k) (are k law) sectors) ∙ said_by [] (all_placed (slots k) sectors)

  pub version_there : IsSectorFormat k → (n : ℕ) (p : Placed) → slice_get (of_id id (all_placed (slots k) sectors)) n ≡ Some p → slice_get (versions (list_of k sectors) id) n ≡ Some (bytes_of (slots k) sectors p)
  version_there law n p found =
      ap (λ (vs : List (List ℕ)). slice_get vs n) (versions_are law)
      ∙ slice_get-map bytes (of_id id (all_placed (slots k) sectors)) n ∙ ap (option_map bytes) found

  pub version_gone : IsSectorFormat k → (n : ℕ) → slice_get (of_id id (all_placed (slots k) sectors)) n ≡ None → length (versions (list_of k sectors) id) ≤ n
  version_gone law n none =
      none_there (versions (list_of k sectors) id) n
      (ap (λ (vs : List (List ℕ)). slice_get vs n) (versions_are law) ∙ slice_get-map bytes (of_id id (all_placed (slots k) sectors)) n ∙ ap (option_map bytes) none)

-- what is said of one version, of all
pub reported_of : (versions : List (List ℕ)) (n : ℕ) (bytes : List ℕ) (r : Older) → slice_get versions n ≡ Some bytes → IsVersion (bytes ∷ []) 0 r → IsVersion versions n r
reported_of versions n bytes (Value v) there reported = (there ∙ reported.0, reported.1)
reported_of versions n bytes Deleted there reported = there ∙ reported
reported_of versions n bytes Gone there reported = absurd (omega arith)

pub no_bytes : (bytes : List ℕ) → length bytes ≡ 0 → bytes ≡ []
no_bytes [] none = refl
no_bytes (b ∷ bytes) none = absurd (omega (arith, none))
