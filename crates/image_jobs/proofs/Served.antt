-- The longest value of a map of areas, and lines that it takes.
use Rattle.std.proofs.Common.{◌≡◌, ◌≤◌, ℕ, zero, suc, ◌+◌, ◌%◌, ◌/◌, ◌^◌, Bool, true, false, cond, eqb, List, [], ◌∷◌, ◌++◌, length, Some, None, refl, ap, arith}
use Rattle.std.specs.Prelude.{All, IfOk, Result, Ok, Err, map}
use Rattle.std.specs.Global.{Vec}
use Rattle.std.specs.List.{slice_get, range_with_len}
use Rattle.std.proofs.lemmas.Bool.{false≢true}
use Rattle.std.proofs.lemmas.List.FromFn.{length-map-range_with_len}
use Rattle.std.proofs.lemmas.List.Elements.{All-nil, All-cons}
use Rattle.flash_map.specs.Area.{value_limit}
use Rattle.flash_map.specs.declared.area.Area.{Area}
use Rattle.flash_map.specs.declared.area.TheConstants.{VALUE_LIMIT, LONG_VALUE_LIMIT}
use Rattle.migrator.specs.Areas.{first_store, is_store_at}
use Rattle.script_lines.specs.declared.line.Line.{Line}
use Rattle.script_lines.specs.declared.line.Line.TheVariants.{Set, Get, Del, Names, Mount, Migrate}
use Rattle.script_lines.specs.Generator.{bytes_of, generated, line_by, name_of, state_after}
use Rattle.session_table.specs.Bench.{area_at}
use Rattle.session.specs.OnMap.{IsServed, limit_of}
use Rattle.zs_host.specs.Outside.{Outside}
use Rattle.image_jobs.proofs.LineLemmas.{lines_are_served}
use Rattle.image_jobs.specs.declared.stops.Refusal.{Refusal}
use Rattle.image_jobs.specs.declared.stops.Stop.{Stop}
use Rattle.image_jobs.specs.Reading.{HasScript, ReadsOr}

-- ---- the longest value

there : (areas : List Area) (place : ℕ) → is_store_at areas place ≡ true → slice_get areas place ≡ Some (area_at areas place)
there [] place store = absurd (false≢true store)
there (area ∷ areas) zero store = refl
there (area ∷ areas) (suc place) store = there areas place store

-- areas of one version all have the limit of the first
pub limit_is : (areas : List Area) (first : Area) → slice_get areas 0 ≡ Some first → is_store_at areas (first_store areas) ≡ true
    → ((i j : ℕ) (a b : Area) → slice_get areas i ≡ Some a → slice_get areas j ≡ Some b → a.version ≡ b.version)
    → value_limit first ≡ limit_of areas
limit_is areas first is store versions =
    ap (λ (version : ℕ). cond (eqb version 2) LONG_VALUE_LIMIT VALUE_LIMIT) (versions 0 (first_store areas) first (area_at areas (first_store areas)) is (there areas (first_store areas) store))

pub no_first : (areas : List Area) → slice_get areas 0 ≡ None → is_store_at areas (first_store areas) ≡ true → ⊥
no_first [] none store = absurd (false≢true store)
no_first (area ∷ areas) none store = absurd (cc)

-- ---- lines of a script

pub served_script : (limit : ℕ) (host host' : Outside) (name : List ℕ) (Q : Refusal → Type 0) (read : Result (Vec Line) Stop)
    → ReadsOr (λ lines. HasScript limit host name lines.items) Q host host' read → IfOk read (λ lines. All (IsServed limit) lines.items)
served_script limit host host' name Q (Ok lines) reads = lines_are_served limit reads.0.text lines.items reads.0.is
served_script limit host host' name Q (Err stop) reads = tt

-- ---- generated lines

module _ (limit : ℕ) (enough : VALUE_LIMIT ≤ limit) where
  served_by : (del get : Bool) (i s : ℕ) → IsServed limit (cond del (Del (name_of s)) (cond get (Get (name_of s)) (Set (name_of s) (bytes_of i (1 + s / 2 ^ 16 % 32)))))
  served_by true get i s = tt
  served_by false true i s = tt
  served_by false false i s =
      let long = length-map-range_with_len (λ (j : ℕ). (i + j) % 256) 0 (1 + s / 2 ^ 16 % 32) in
      omega (arith, long, enough)

  served_from : (seed from count : ℕ) → All (IsServed limit) (map (λ i. line_by i (state_after seed i)) (range_with_len from count))
  served_from seed from zero = All-nil (IsServed limit)
  served_from seed from (suc count) =
      let line : ℕ → Line = λ i. line_by i (state_after seed i) in
      All-cons (IsServed limit) (line from) (map line (range_with_len (from + 1) count))
      (served_by (eqb (state_after seed from / 2 ^ 24 % 8) 0) (eqb (state_after seed from / 2 ^ 24 % 8) 1) from (state_after seed from))
      (served_from seed (from + 1) count)

  pub served_generated : (n : ℕ) → All (IsServed limit) (generated n)
  served_generated n = served_from n 1 n

  pub served_names : All (IsServed limit) (Names ∷ [])
  served_names = All-cons (IsServed limit) Names [] tt (All-nil (IsServed limit))

  pub served_migration : All (IsServed limit) (Mount ∷ Migrate ∷ [])
  served_migration = All-cons (IsServed limit) Mount (Migrate ∷ []) tt (All-cons (IsServed limit) Migrate [] tt (All-nil (IsServed limit)))

-- a place behind the areas has no label
pub no_label : (areas : List Area) (place : ℕ) → slice_get areas place ≡ None → (area_at areas place).label.bytes ≡ []
no_label [] place none = refl
no_label (area ∷ areas) zero none = absurd (cc)
no_label (area ∷ areas) (suc place) none = no_label areas place none
