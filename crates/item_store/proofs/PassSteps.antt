-- What a round makes of the entries of the list with their places, and the cache behind it.
use Rattle.std.proofs.Common.{◌≡◌, ℕ, ◌%◌, Bool, true, cond, eqb, List, [], ◌∷◌, ◌++◌, length, map, Option, Some, None, refl, sym, ap, subst, ◌∙◌, inl, inr}
use Rattle.std.specs.Prelude.{IfSome}
use Rattle.std.specs.List.{flat_map, All}
use Rattle.std.specs.Option.{option_map, option_or}
use Rattle.std.proofs.lemmas.Bool.{cases_eq, eq-eqb, ne_eqb}
use Rattle.std.proofs.lemmas.List.{append-nil, length-map}
use Rattle.std.proofs.lemmas.List.Concat.{flat_map-append, flat_map-cons}
use Rattle.std.proofs.lemmas.List.Elements.{All-nil, All-cons, All-head, All-tail, All-append, All-weaker}
use Rattle.flash_sim.specs.Device.{Device}
use Rattle.flash_map.specs.declared.area.Area.{Area}
use Rattle.flash_map.specs.declared.area.Geometry.{Geometry}
use Rattle.flash_map.specs.Area.{geometry_of, sector_at, sector_size, sectors_of}
use Rattle.lookup_cache.specs.Places.{CacheState, forget_entries, without_sector}
use Rattle.lookup_cache.proofs.HistoryLemmas.{forget_at}
use Rattle.item_laws.specs.Area.{next}
use Rattle.item_laws.specs.Forms.{AtRest, others, rest}
use Rattle.item_laws.specs.Live.{all_placed}
use Rattle.item_laws.proofs.AreaReads.{length-sectors}
use Rattle.item_laws.proofs.Collects.{next_blank}
use Rattle.item_laws.proofs.Newest.{last-all, last-append}
use Rattle.item_laws.proofs.Places.{after, after-within, flat_map-agree, IsFar, IsSplit, split}
use Rattle.item_store.specs.declared.entry.Entry.{Entry}
use Rattle.item_store.specs.declared.entry.Placed.{Placed}
use Rattle.item_store.specs.Cached.{latest_of, stands_at, IsCacheOf, IsCacheOn, IsPassDone, FollowsRound}
use Rattle.item_store.specs.Collecting.{DoesPassAt}
use Rattle.item_store.specs.SectorFormat.{SectorFormat, IsSectorFormat, placed_at, slots, entries}
use Rattle.item_store.proofs.CallFacts.{to_geometry, from_geometry}
use Rattle.item_store.proofs.EntrySteps.{all-at_rest, blank-entries}
use Rattle.item_store.proofs.Tops.{top-forgot}

-- ---- a sector is forgotten

-- the latest entry is among the last ones, or there is none, and then it is one of those that are gone
forgot_one : (sector : ℕ) (first left : Option Placed) → IfSome first (λ p. p.sector ≡ sector) → IfSome left (λ p. p.sector ≡ sector → ⊥)
    → without_sector sector (option_map stands_at (option_or left first)) ≡ option_map stands_at left
forgot_one sector first (Some q) there off = ap (λ (t : Bool). cond t None (Some (stands_at q))) (ne_eqb q.sector sector off)
forgot_one sector None None there off = refl
forgot_one sector (Some p) None there off = ap (λ (t : Bool). cond t None (Some (stands_at p))) (eq-eqb p.sector sector there)

-- Of entries the first of which stand in one sector, and the others elsewhere, a cache that forgets that sector is left as one
-- of the others.
pub cache-forgot : (cache : CacheState) (sector : ℕ) (gone left : List Placed) → All (λ p. p.sector ≡ sector) gone → All (λ p. p.sector ≡ sector → ⊥) left → IsCacheOf cache (gone ++ left) → IsCacheOf (forget_entries cache sector) left
cache-forgot cache sector gone left there off is = record {
  slots = length-map cache.places (without_sector sector) ∙ is.slots;
  latest = λ id.
      let test : Placed → Bool = λ p. eqb (p.id % 64) (id % 64) in
      forget_at cache.places sector id
      ∙ ap (without_sector sector) (is.latest id ∙ ap (option_map stands_at) (last-append test gone left))
      ∙ forgot_one sector (latest_of (id % 64) gone) (latest_of (id % 64) left)
      (last-all test (λ p. p.sector ≡ sector) gone None tt there) (last-all test (λ p. p.sector ≡ sector → ⊥) left None tt off);
  tops = top-forgot cache.tops sector gone left there is.tops;
}

-- ---- the entries of sectors

module _ (k : SectorFormat) (sectors : List (List ℕ)) where
  abbrev row : ℕ → List Placed
  row j = map (placed_at j) (entries k (sector_at sectors j))

  all_in : (P : Placed → Type 0) (j : ℕ) (es : List Entry) → ((e : Entry) → P (placed_at j e)) → All P (map (placed_at j) es)
  all_in P j [] each = All-nil P
  all_in P j (e ∷ es) each = All-cons P (placed_at j e) (map (placed_at j) es) (each e) (all_in P j es each)

  -- those of one stand in it
  row_there : (j : ℕ) → All (λ p. p.sector ≡ j) (map (placed_at j) (entries k (sector_at sectors j)))
  row_there j = all_in (λ p. p.sector ≡ j) j (entries k (sector_at sectors j)) (λ e. refl)

  -- those of others do not
  rows_off : (sector : ℕ) (js : List ℕ) → All (λ j. j ≡ sector → ⊥) js → All (λ p. p.sector ≡ sector → ⊥) (flat_map (λ j. map (placed_at j) (entries k (sector_at sectors j))) js)
  rows_off sector [] off = All-nil (λ p. p.sector ≡ sector → ⊥)
  rows_off sector (j ∷ js) off =
      let P : Placed → Type 0 = λ p. p.sector ≡ sector → ⊥ in
      subst (All P) (sym (flat_map-cons row j js))
      (All-append P (row j) (flat_map row js) (all_in P j (entries k (sector_at sectors j)) (λ e. All-head (λ i. i ≡ sector → ⊥) j js off)) (rows_off sector js (All-tail (λ i. i ≡ sector → ⊥) j js off)))

-- ---- a round

module _ (k : SectorFormat) (law : IsSectorFormat k) (size : ℕ) (old new : List (List ℕ)) (place : ℕ) (pass_done : IsPassDone k size old new place) where
  abbrev opened : ℕ
  opened = next old place

  abbrev victim : ℕ
  victim = next old (next old place)

  abbrev before : ℕ → List Placed
  before j = map (placed_at j) (entries k (sector_at old j))

  abbrev behind : ℕ → List Placed
  behind j = map (placed_at j) (entries k (sector_at new j))

  -- those of the sectors between the victim and the new open one
  abbrev kept : List Placed
  kept = flat_map before (rest (length old) opened)

  -- between them each entry stays in its slot
  stays : (j : ℕ) → (j ≡ opened → ⊥) → (j ≡ victim → ⊥) → behind j ≡ before j
  stays j apart off =
      elim (cases_eq j place) [
        | inl e ↦
            let closed = pass_done.does_pass.closes (λ (v : place ≡ next old (next old place)). off (e ∙ v)) in
            ap behind e ∙ ap (map (placed_at place)) closed.same_entries ∙ ap before (sym e)
        | inr other ↦ ap (λ (b : List ℕ). map (placed_at j) (entries k b)) (pass_done.does_pass.others j other apart (λ _. off))
      ]

  closing : IsSplit (length old) place
  closing = split (length old) place pass_done.rested.ring.within pass_done.rested.ring.several

  gc_pass : IsSplit (length old) opened
  gc_pass = split (length old) opened (after-within (length old) place pass_done.rested.ring.within) pass_done.rested.ring.several

  -- the victim's entries stand first
  list-before : all_placed (slots k) old ≡ before victim ++ kept
  list-before =
      let unused : before opened ≡ [] = ap (map (placed_at opened)) (blank-entries k law (sector_at old opened) (next_blank k.reading old place pass_done.rested)) in
      all-at_rest k law old place pass_done.rested
      ∙ ap (λ (js : List ℕ). flat_map before js ++ before place) closing.first
      ∙ ap (λ (ps : List Placed). ps ++ before place) (flat_map-cons before opened (rest (length old) place))
      ∙ ap (λ (ps : List Placed). (ps ++ flat_map before (rest (length old) place)) ++ before place) unused
      ∙ ap (λ (ps : List Placed). flat_map before (rest (length old) place) ++ ps) (sym (flat_map-cons before place [] ∙ append-nil (before place)))
      ∙ sym (flat_map-append before (rest (length old) place) (place ∷ []))
      ∙ ap (flat_map before) (sym closing.rotated)
      ∙ ap (flat_map before) gc_pass.first
      ∙ flat_map-cons before victim (rest (length old) opened)

  -- behind it they are gone, and those of the new open sector stand last
  list-behind : all_placed (slots k) new ≡ kept ++ behind opened
  list-behind =
      let blank : k.reading.is_blank (sector_at new victim) ≡ true =
      ap (λ (n : ℕ). k.reading.is_blank (sector_at new (after n opened))) (sym pass_done.long) ∙ next_blank k.reading new opened pass_done.does_pass.round.form in
      let erased : behind victim ≡ [] = ap (map (placed_at victim)) (blank-entries k law (sector_at new victim) blank) in
      all-at_rest k law new opened pass_done.does_pass.round.form
      ∙ ap (λ (n : ℕ). flat_map behind (others n opened) ++ behind opened) pass_done.long
      ∙ ap (λ (js : List ℕ). flat_map behind js ++ behind opened) gc_pass.first
      ∙ ap (λ (ps : List Placed). ps ++ behind opened) (flat_map-cons behind victim (rest (length old) opened))
      ∙ ap (λ (ps : List Placed). (ps ++ flat_map behind (rest (length old) opened)) ++ behind opened) erased
      ∙ ap (λ (ps : List Placed). ps ++ behind opened)
      (flat_map-agree behind before (rest (length old) opened)
      (All-weaker (IsFar (length old) opened) (λ j. behind j ≡ before j) (λ j far. stays j far.apart far.not_after) (rest (length old) opened) gc_pass.inside))

  -- A cache that forgets the victim, and in which the entries of the new open sector are noted, is that of the list.
  pub cache-pass_done : (cache noted : CacheState) (gone : ℕ) → gone ≡ next old (next old place) → IsCacheOf cache (all_placed (slots k) old)
      → ((so_far : List Placed) → IsCacheOf (forget_entries cache gone) so_far → IsCacheOf noted (so_far ++ map (placed_at (next old place)) (entries k (sector_at new (next old place)))))
      → IsCacheOf noted (all_placed (slots k) new)
  cache-pass_done cache noted gone at is notes =
      let off : All (λ p. p.sector ≡ victim → ⊥) kept =
      rows_off k old victim (rest (length old) opened) (All-weaker (IsFar (length old) opened) (λ j. j ≡ victim → ⊥) (λ j far. far.not_after) (rest (length old) opened) gc_pass.inside) in
      let forgot : IsCacheOf (forget_entries cache victim) kept =
      cache-forgot cache victim (before victim) kept (row_there k old victim) off (subst (λ (ps : List Placed). IsCacheOf cache ps) list-before is) in
      subst (λ (ps : List Placed). IsCacheOf noted ps) (sym list-behind) (notes kept (subst (λ (j : ℕ). IsCacheOf (forget_entries cache j) kept) (sym at) forgot))

-- ---- in the words of the code

-- the same of an area on a device
pub cache-follows : (format_of : Geometry → SectorFormat) (a d : Device) (area : Area) (place opened : ℕ) → d.banks ≡ a.banks → AtRest (format_of (geometry_of a area)).reading (sectors_of a area) place
    → DoesPassAt (format_of (geometry_of a area)) (sector_size a area) (sectors_of a area) (sectors_of d area) place → opened ≡ next (sectors_of a area) place
    → (cache noted : CacheState) → IsCacheOn format_of a area cache → FollowsRound (format_of (geometry_of d area)) (sectors_of d area) opened cache noted → IsCacheOn format_of d area noted
cache-follows format_of a d area place opened banks rested does_pass at cache noted is follows =
    let long : length (sectors_of d area) ≡ length (sectors_of a area) = length-sectors d area ∙ sym (length-sectors a area) in
    let here : FollowsRound (format_of (geometry_of a area)) (sectors_of d area) opened cache noted = to_geometry (λ u. FollowsRound (format_of u) (sectors_of d area) opened cache noted) a d area banks follows in
    from_geometry (λ u. IsCacheOf noted (all_placed (slots (format_of u)) (sectors_of d area))) a d area banks
    (here (sector_size a area) (sectors_of a area) place (record { rested = rested; long = long; does_pass = does_pass }) at is)
