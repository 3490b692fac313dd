-- All settings in memory, one record at a time.
use Rattle.std.proofs.Common.{◌≡◌, ℕ, Bool, true, false, cond, ◌==◌, List, [], ◌∷◌, ◌++◌, length, Option, Some, None, nat_cmp, is_eq, map, refl, sym, ap, ◌∙◌}
use Rattle.std.specs.BTreeMap.{BTreeMap, get, is_at, IsEmpty, IsOrdered, UpdatesBy}
use Rattle.std.specs.Borrow.{Bor}
use Rattle.std.specs.Cmp.Lexicographic.{slice_cmp}
use Rattle.std.specs.FinMap as finite
use Rattle.std.specs.FinMap.{entries}
use Rattle.std.specs.Map.{lookup}
use Rattle.std.specs.Option.{option_map}
use Rattle.std.proofs.lemmas.Cmp.{nat_list_eq_equiv}
use Rattle.fcb_ring.specs.declared.record.RecordAt.{RecordAt}
use Rattle.fcb_ring.specs.Entries.{bodies}
use Rattle.fcb_ring.specs.Standing.{IsNext}
use Rattle.backend_api.specs.Listing.{pairs_in}
use Rattle.backend_api.specs.Map.{Map}
use Rattle.backend_api.proofs.ListedPairs.{listed-settings}
use Rattle.record_settings.specs.Last.{stored}
use Rattle.record_settings.specs.Settings.{setting_of, with_setting, settings_of}
use Rattle.record_settings.proofs.BodyLemmas.{settings-push}
use Rattle.record_settings.proofs.LastLemmas.{tie, get-with}
use Rattle.record_settings.proofs.PrefixLemmas.{entries-none}
use Rattle.backend_fcb.proofs.LookupSteps.{Reads}
use Rattle.backend_fcb.proofs.SectorLists.{bodies-append}
use Rattle.backend_fcb.proofs.WalkLemmas.{Entry, IsAt, start, step, first-of, body-is, all-done}

abbrev Memory : Type 0
Memory = BTreeMap (List ℕ) (Bor (List ℕ))

-- ---- one setting more

abbrev shown : List (List ℕ × Bor (List ℕ)) → List (List ℕ × List ℕ)
shown pairs = map (λ pair. (pair.0, pair.1.now)) pairs

find-shown : (name : List ℕ) (pairs : List (List ℕ × Bor (List ℕ))) → finite.find (slice_cmp nat_cmp) name (shown pairs) ≡ option_map (λ value. value.now) (lookup (is_at (slice_cmp nat_cmp name)) pairs)
find-shown name [] = refl
find-shown name (pair ∷ pairs) = at (find-shown name pairs) (is_eq (slice_cmp nat_cmp name pair.0))
  where
    at : finite.find (slice_cmp nat_cmp) name (shown pairs) ≡ option_map (λ value. value.now) (lookup (is_at (slice_cmp nat_cmp name)) pairs)
        → (t : Bool) → cond t (Some pair.1.now) (finite.find (slice_cmp nat_cmp) name (shown pairs)) ≡ option_map (λ value. value.now) (cond t (Some pair.1) (lookup (is_at (slice_cmp nat_cmp name)) pairs))
    at later true = refl
    at later false = later

-- a map with the pairs of the settings has what they have
answers : (found : Memory) (settings : Map) → pairs_in found ≡ entries settings → (name : List ℕ) → option_map (λ value. value.now) (get (slice_cmp nat_cmp) found name) ≡ finite.get settings name
answers found settings same name = sym (find-shown name found.entries) ∙ ap (finite.find (slice_cmp nat_cmp) name) same ∙ sym (finite.get-entries settings name)

map-cond : (t : Bool) (x y : Option (Bor (List ℕ))) → option_map (λ value. value.now) (cond t x y) ≡ cond t (option_map (λ value. value.now) x) (option_map (λ value. value.now) y)
map-cond true x y = refl
map-cond false x y = refl

-- An insert or a remove does what the record says.
pub updated : (old new : Memory) (name value : List ℕ) (put : Option (Bor (List ℕ))) → option_map (λ v. v.now) put ≡ stored (Some value) → IsOrdered (slice_cmp nat_cmp) new → UpdatesBy (slice_cmp nat_cmp) (slice_cmp nat_cmp name) old new put
    → (settings : Map) → pairs_in old ≡ entries settings → pairs_in new ≡ entries (with_setting settings (Some (name, value)))
updated old new name value put is ordered updates settings same =
    listed-settings (λ v. v.now) new.entries ordered (with_setting settings (Some (name, value)))
    (λ other.
    ap (option_map (λ v. v.now)) (updates.0 other) ∙ map-cond (is_at (slice_cmp nat_cmp name) other) put (get (slice_cmp nat_cmp) old other)
    ∙ ap (λ (o : Option (List ℕ)). cond (is_at (slice_cmp nat_cmp name) other) o (option_map (λ v. v.now) (get (slice_cmp nat_cmp) old other))) is
    ∙ ap (λ (o : Option (List ℕ)). cond (is_at (slice_cmp nat_cmp name) other) (stored (Some value)) o) (answers old settings same other)
    ∙ ap (λ (t : Bool). cond t (stored (Some value)) (finite.get settings other)) (tie name other ∙ nat_list_eq_equiv.symm other name)
    ∙ sym (get-with settings other name value))

pub no-value : (value : List ℕ) → (length value == 0) ≡ true → None ≡ stored (Some value)
no-value value gone = sym (ap (λ (t : Bool). cond t None (Some value)) gone)

pub some-value : (value : List ℕ) → (length value == 0) ≡ false → Some value ≡ stored (Some value)
some-value value bytes = sym (ap (λ (t : Bool). cond t None (Some value)) bytes)

-- ---- the walk

-- the map has what the records say that were gone through
pub record Gathers (limit : ℕ) (list : List Entry) (place : Option RecordAt) (found : Memory) : Type 0 where
  pub done : List Entry
  pub later : List Entry
  pub at : IsAt list place done later
  pub says : pairs_in found ≡ entries (settings_of limit (bodies done))

pub gathers-start : (limit : ℕ) (list : List Entry) (next : Option RecordAt) → IsNext list None next → (found : Memory) → IsEmpty found → Gathers limit list next found
gathers-start limit list next is found none =
    record { done = []; later = list; at = start list next is; says = ap shown none ∙ sym (entries-none limit) }

pub gathers-step : (limit : ℕ) (list : List Entry) (r : RecordAt) (found : Memory) → Gathers limit list (Some r) found → (bytes : List ℕ) → Reads list r bytes → (next : Option RecordAt) → IsNext list (Some r) next
    → (new : Memory) → ((settings : Map) → pairs_in found ≡ entries settings → pairs_in new ≡ entries (with_setting settings (setting_of limit bytes))) → Gathers limit list next new
gathers-step limit list r found so_far bytes reads next is new applied =
    let f = first-of so_far.later r so_far.at.here in
    let are : list ≡ so_far.done ++ (r, f.0) ∷ f.1 = so_far.at.are ∙ ap (λ (l : List Entry). so_far.done ++ l) f.2 in
    let body : bytes ≡ f.0 = body-is list so_far.done r f.0 f.1 bytes are reads in
    record {
      done = so_far.done ++ (r, f.0) ∷ [];
      later = f.1;
      at = step list r so_far.done f.0 f.1 next are is;
      says =
          applied (settings_of limit (bodies so_far.done)) so_far.says
          ∙ ap (λ (b : List ℕ). entries (with_setting (settings_of limit (bodies so_far.done)) (setting_of limit b))) body
          ∙ ap entries (sym (settings-push limit (bodies so_far.done) f.0))
          ∙ ap (λ (l : List (List ℕ)). entries (settings_of limit l)) (sym (bodies-append so_far.done ((r, f.0) ∷ [])));
    }

pub gathers-end : (limit : ℕ) (list : List Entry) (found : Memory) → Gathers limit list None found → pairs_in found ≡ entries (settings_of limit (bodies list))
gathers-end limit list found so_far =
    so_far.says ∙ ap (λ (l : List Entry). entries (settings_of limit (bodies l))) (sym (all-done list so_far.done so_far.later so_far.at))
