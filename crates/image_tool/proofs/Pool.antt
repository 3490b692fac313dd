-- Handlers put into the pool one after another, and what the process then ends with.
use Rattle.std.proofs.Common.{◌≡◌, ℕ, List, [], ◌∷◌, ◌++◌, map, Result, Ok, Err, inr, refl, sym, ap, subst, ◌∙◌}
use Rattle.std.proofs.lemmas.Iterator.{IsCollectResult, YieldsList, items_from_collect}
use Rattle.std.proofs.lemmas.Iterator.Adapters.{YieldsList-from_skip, YieldsList-from_vec}
use Rattle.std.specs.Global.{Global, Vec}
use Rattle.std.specs.Iterator.Adapters.{skip_count, skip_source, skip_steps}
use Rattle.std.specs.Prelude.{drop}
use Rattle.std.specs.Vec.{vec_items}
use Rattle.std.specs.Vec.Iter.{into_iter_items, into_iter_steps}
use Rattle.std.specs.declared.iter.Skip.{Skip}
use Rattle.std.specs.declared.string.String.{String}
use Rattle.std.specs.declared.vec.IntoIter.{IntoIter}
use Rattle.std.specs.declared.alloc.AllocError.{AllocError}
use Rattle.flash_sim.specs.Device.{Device}
use Rattle.zs_host.specs.Outside.{Outside}
use Rattle.handlers.specs.declared.handler.HandlerKind.{HandlerKind}
use Rattle.handlers.specs.Registry.{Registered}
use Rattle.image_jobs.specs.Stages.{stage}
use Rattle.image_tool.specs.declared.status.Status.{Status}
use Rattle.image_tool.specs.declared.status.Status.TheVariants as status
use Rattle.image_tool.specs.Exits.{Exits, ExitsOr, program_kinds}
use Rattle.image_tool.specs.Tool.{ToolEnds, any_stores, exit_code}
use Rattle.image_tool.specs.Worlds.{world}

pub pool_of_eight : {B X : Type 0} (kind : B → X) {items : List B} {p1 p2 p3 p4 p5 p6 p7 p8 : List X} {a b c d e f g h : X}
    → items ≡ [] → p1 ≡ map kind items ++ a ∷ [] → p2 ≡ p1 ++ b ∷ [] → p3 ≡ p2 ++ c ∷ [] → p4 ≡ p3 ++ d ∷ []
    → p5 ≡ p4 ++ e ∷ [] → p6 ≡ p5 ++ f ∷ [] → p7 ≡ p6 ++ g ∷ [] → p8 ≡ p7 ++ h ∷ []
    → p8 ≡ a ∷ b ∷ c ∷ d ∷ e ∷ f ∷ g ∷ h ∷ []
pool_of_eight {B} {X} kind {items} {p1} {p2} {p3} {p4} {p5} {p6} {p7} {p8} {a} {b} {c} {d} {e} {f} {g} {h} none i1 i2 i3 i4 i5 i6 i7 i8 =
    let e1 : p1 ≡ a ∷ [] = i1 ∙ ap (λ (xs : List B). map kind xs ++ a ∷ []) none in
    let e2 : p2 ≡ a ∷ b ∷ [] = i2 ∙ ap (λ (xs : List X). xs ++ b ∷ []) e1 in
    let e3 : p3 ≡ a ∷ b ∷ c ∷ [] = i3 ∙ ap (λ (xs : List X). xs ++ c ∷ []) e2 in
    let e4 : p4 ≡ a ∷ b ∷ c ∷ d ∷ [] = i4 ∙ ap (λ (xs : List X). xs ++ d ∷ []) e3 in
    let e5 : p5 ≡ a ∷ b ∷ c ∷ d ∷ e ∷ [] = i5 ∙ ap (λ (xs : List X). xs ++ e ∷ []) e4 in
    let e6 : p6 ≡ a ∷ b ∷ c ∷ d ∷ e ∷ f ∷ [] = i6 ∙ ap (λ (xs : List X). xs ++ f ∷ []) e5 in
    let e7 : p7 ≡ a ∷ b ∷ c ∷ d ∷ e ∷ f ∷ g ∷ [] = i7 ∙ ap (λ (xs : List X). xs ++ g ∷ []) e6 in
    i8 ∙ ap (λ (xs : List X). xs ++ h ∷ []) e7

pub exits : {C : Type 0} (row : C → Registered) {rows : List C} {kinds : List HandlerKind} {left : List Registered}
    (words : List (List ℕ)) (host host' : Outside) (old new : Device) (code : ℕ) → kinds ≡ program_kinds → rows ≡ []
    → ((ends : Status) × (code ≡ exit_code ends) × ToolEnds any_stores kinds words (world host old (map row rows)) (world host' new left) ends)
    → Exits words host host' old new code
exits {C} row {rows} {kinds} {left} words host host' old new code are none ends = (
  ends.0,
  left,
  ends.1,
  subst (λ (ks : List HandlerKind). ToolEnds any_stores ks words (world host old []) (world host' new left) ends.0) are
      (subst (λ (rs : List C). ToolEnds any_stores kinds words (world host old (map row rs)) (world host' new left) ends.0) none ends.2),
)

-- the words that are collected are all but the first
pub words_behind : (given : IntoIter (String Global) Global) (skipped : Skip (IntoIter (String Global) Global)) (words : Vec (String Global)) → skip_source skipped ≡ given → skip_count skipped ≡ 1
    → IsCollectResult {E = AllocError} (skip_steps into_iter_steps) skipped (Ok words) → vec_items words ≡ drop 1 (into_iter_items given)
words_behind given skipped words source count ran =
    let all = YieldsList-from_vec (into_iter_items given) refl given.rest.ok.0 in
    let there = subst (λ (s : IntoIter (String Global) Global). YieldsList into_iter_steps (λ x. x) s (into_iter_items given)) (sym source) all in
    items_from_collect {E = AllocError} (Ok words) ran (YieldsList-from_skip 1 there count)

-- memory ran out before the words were read
pub unread : (words : List (List ℕ)) (host host' : Outside) (old new : Device) (code : ℕ) → code ≡ exit_code status.NoMemory → (host' ≡ host) × (new ≡ old) → Exits words host host' old new code
unread words host host' old new code is same = (
  status.NoMemory,
  [],
  is,
  inr (inr (refl, same.0, ap (λ (d : Device). stage d []) same.1)),
)
