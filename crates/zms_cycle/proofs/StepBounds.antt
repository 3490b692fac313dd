-- What the steps in a sector spend at most, and what they read.
use Rattle.std.proofs.Common.{◌≡◌, ℕ, ◌+◌, ◌/◌, ◌<◌, ◌≤◌, Bool, true, false, cond, List, Some, Result, refl, ap, ◌∙◌, inr, arith}
use Rattle.std.specs.Prelude.{is_err}
use Rattle.flash_sim.specs.declared.flash.Kind.{Kind}
use Rattle.flash_sim.specs.declared.flash.Kind.TheVariants.{Erasing, Rewritable}
use Rattle.flash_map.specs.Copies.{pieces_of, TakesViews}
use Rattle.flash_map.specs.Units.{is_erased}
use Rattle.flash_map.proofs.CopyLemmas.{pieces_padded, viewed, viewed_lost}
use Rattle.zms_cycle.specs.Bounds.{StepsAreBounded}
use Rattle.zms_cycle.specs.Changes.{emptying, closing_most, next_cycle}
use Rattle.zms_cycle.specs.OnArea.{ReadsGuard, ViewsAtMostOnce, copy_views}
use Rattle.zms_cycle.specs.Sector.{cycle_of, data_len}
use Rattle.zms_cycle.proofs.AreaFacts.{never_erasing}
use Rattle.zms_cycle.proofs.CloseCalls.{closing_some}
use Rattle.zms_cycle.proofs.EntryCalls.{long_len}
use Rattle.zms_cycle.proofs.Frames.{data_len-short}
use Rattle.zms_cycle.proofs.UnitCalls.{few_units}

one_or_two : (t : Bool) → (1 ≤ cond t 1 2) × (cond t 1 2 ≤ 3)
one_or_two true = (omega arith, omega arith)
one_or_two false = (omega arith, omega arith)

some_units : (kind : Kind) (b : List ℕ) → 1 ≤ emptying kind b
some_units Rewritable b = omega arith
some_units Erasing b = (one_or_two (is_erased b)).0

most_units : (kind : Kind) (b : List ℕ) → emptying kind b ≤ 3
most_units Rewritable b =
    let one = few_units Rewritable (Some (next_cycle (cycle_of b))) 1 b in
    let two = few_units Rewritable (Some (next_cycle (cycle_of b))) 2 b in
    omega arith
most_units Erasing b = (one_or_two (is_erased b)).1

most_closing : (kind : Kind) (room : ℕ) → closing_most kind room ≤ room / 16 + 1
most_closing Rewritable room = omega arith
most_closing Erasing room = omega arith

pub bounded : StepsAreBounded
bounded = record {
  guards = few_units;
  empties = some_units;
  empties_most = most_units;
  closes = closing_some;
  closes_most = most_closing;
}

-- Nothing was read, or the slot of a guard.

pub reads_none : (kind : Kind) (n : ℕ) → ViewsAtMostOnce kind n n
reads_none kind n = record { step = omega arith; no_step = λ erasing. refl }

pub reads_guard : (kind mid : Kind) (n m : ℕ) → mid ≡ kind → ReadsGuard mid n m → ViewsAtMostOnce kind n m
reads_guard Rewritable mid n m is reads =
    let one = reads.step is in
    record { step = omega arith; no_step = λ erasing. absurd (never_erasing refl erasing) }
reads_guard Erasing mid n m is reads =
    let none = reads.no_step is in
    record { step = omega arith; no_step = λ erasing. none }

-- ---- copies

-- a short value has no piece: its entry holds it
pub short_pieces : (len : ℕ) → len ≤ 8 → pieces_of (data_len len) ≡ 0
short_pieces len short = let none = data_len-short len short in omega (arith, none)

pub long_pieces : (len : ℕ) → 8 < len → pieces_of (data_len len) ≡ pieces_of len
long_pieces len long = ap pieces_of (long_len len long) ∙ pieces_padded 16 (inr (inr refl)) len

-- power was lost in the value
pub copy_stops : {X E : Type 0} (kind : Kind) (len before read moved : ℕ) (result : Result X E) → is_err result ≡ true → read ≡ before + 1 → moved ≤ read + pieces_of (data_len len) → TakesViews (copy_views kind len) before moved result
copy_stops kind len before read moved result is one cut = viewed_lost (copy_views kind len) before moved result is (omega (arith, one, cut))

-- the entry is put behind the whole value
pub copy_viewed : {X E : Type 0} (kind mid : Kind) (len before read moved after : ℕ) (result : Result X E) → mid ≡ kind → read ≡ before + 1 → moved ≡ read + pieces_of (data_len len) → ReadsGuard mid moved after → TakesViews (copy_views kind len) before after result
copy_viewed Rewritable mid len before read moved after result is one whole reads =
    let guard = reads.step is in
    viewed (copy_views Rewritable len) before after result (omega (arith, one, whole, guard))
copy_viewed Erasing mid len before read moved after result is one whole reads =
    let guard = reads.no_step is in
    viewed (copy_views Erasing len) before after result (omega (arith, one, whole, guard))
