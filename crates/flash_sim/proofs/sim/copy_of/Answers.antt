use Rattle.std.proofs.Common.{Result, Ok, Err, IfOk, is_err, true, List, [], ◌∷◌, ◌++◌, length, map, take, get_or}
use Rattle.std.proofs.Common.{ℕ, ◌≡◌, ◌+◌, ◌<◌, ◌≤◌, sym, ap, subst, ◌∙◌}
use Rattle.std.specs.Global.{Vec}
use Rattle.std.proofs.lemmas.Bool.{false≢true}
use Rattle.std.proofs.lemmas.List.{map-append, map_more, take_all}
use Rattle.flash_sim.specs.Contents.{contents}
use Rattle.flash_sim.proofs.sim.copy_of.Goals as goal

-- nothing is said at `Ok` of a result that is an `Err`
if_not_ok : {X E : Type 0} (P : X → Type 0) (result : Result X E) → is_err result ≡ true → IfOk result P
if_not_ok P (Ok x) is = absurd (false≢true is)
if_not_ok P (Err e) is = tt

-- one storage more
one_copied : {S : Type 0} (held : S → List ℕ) (items all : List S) (copy next : List (Vec ℕ)) (v : Vec ℕ) (store : S) (i : ℕ) → items ≡ all
    → i < length items → store ≡ get_or items i store → v.items ≡ held store → next ≡ copy ++ v ∷ [] → contents copy ≡ map held (take i all)
    → contents next ≡ map held (take (i + 1) all)
one_copied {S} held items all copy next v store i same lt read is pushed before =
    let inside = subst (λ (l : List S). i < length l) same lt in
    let there = subst (λ (l : List S). store ≡ get_or l i store) same read in
    ap contents pushed
    ∙ map-append (λ (x : Vec ℕ). x.items) copy (v ∷ [])
    ∙ ap (λ (l : List ℕ). contents copy ++ l ∷ []) (is ∙ ap held there)
    ∙ ap (λ (l : List (List ℕ)). l ++ held (get_or all i store) ∷ []) before
    ∙ sym (map_more held all i store inside)

pub loop-store-init : goal.loop-store-init
loop-store-init g c = ap contents c.new-copy.ensures.items

pub loop-store-preserved : goal.loop-store-preserved
loop-store-preserved g c =
    let items = c.deref-store-items.result.now in
    let all = c.args.all.now.items in
    let same = c.deref-store-items.ensures.value in
    let pushed = c.in_ok-push.ensures.items in
    one_copied g.S.Storage.held items all c.loop-store.copy.items c.push.new.self.items c.in_ok-to_vec.field-0 c.store-item.result
    c.loop-store.store-index same c.loop-store-test.true c.store-item.is c.in_ok-to_vec.ensures pushed c.loop-store.invariant

pub returns-in_err-to_vec : goal.returns-in_err-to_vec
returns-in_err-to_vec g c = if_not_ok _ c.from_residual.result c.from_residual.ensures.0

pub returns-in_err-push : goal.returns-in_err-push
returns-in_err-push g c = if_not_ok _ c.from_residual-in_err-push.result c.from_residual-in_err-push.ensures.0

pub returns : goal.returns
returns g c =
    let all = c.args.all.now.items in
    let held = g.S.Storage.held in
    let end = subst (λ (l : List g.row.S.Denot). length l ≤ c.loop-store.store-index) c.deref-store-items.ensures.value c.loop-store-test.false in
    c.loop-store.invariant ∙ ap (map held) (take_all c.loop-store.store-index all end)
