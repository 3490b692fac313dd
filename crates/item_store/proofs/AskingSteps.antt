-- Looking for bytes among the items, from the newest entry back.
use Rattle.std.proofs.Common.{◌≡◌, ◌⊎◌, ℕ, ◌≤◌, Bool, true, false, ◌&&◌, cond, eqb, leb, List, [], ◌∷◌, Option, Some, None, Ordering, Less, Equal, Greater, is_lt, nat_cmp, refl, sym, ap, subst, ◌∙◌, inl, inr}
use Rattle.std.specs.Prelude.{fold, IfSome}
use Rattle.std.specs.Cmp.Lexicographic.{slice_cmp}
use Rattle.std.proofs.lemmas.Bool.{cases_Bool, and_parts, eqb-true, leb-true, le-leb, false≢true}
use Rattle.std.proofs.lemmas.Cmp.{nat_list_cmp_total, tied_itself}
use Rattle.flash_sim.specs.Bank.{IsLawful}
use Rattle.flash_sim.specs.Device.{Device}
use Rattle.flash_map.specs.declared.area.Role.{Role}
use Rattle.flash_map.specs.declared.area.Geometry.{Geometry}
use Rattle.flash_map.specs.Area.{geometry_of, sectors_of}
use Rattle.item_laws.specs.Bytes.{is_behind, HasBytes, IsNextOf}
use Rattle.item_laws.specs.Items.{Items, value_of}
use Rattle.item_laws.specs.Live.{all_placed, last_placed, bytes_of}
use Rattle.item_laws.proofs.LiveLemmas.{some_none}
use Rattle.item_store.specs.declared.entry.Placed.{Placed}
use Rattle.item_store.specs.declared.lasts.Lasts.{Lasts}
use Rattle.item_store.specs.declared.store.Store.{Store}
use Rattle.item_store.specs.Asking.{is_below, lesser_of}
use Rattle.item_store.specs.SectorFormat.{SectorFormat, IsSectorFormat, slots}
use Rattle.item_store.specs.Lasts.{in_range, WasGiven, IsLastIn, GivesNext}
use Rattle.item_store.specs.Listed.{items_on}
use Rattle.item_store.specs.Stands.{StandsOn}
use Rattle.item_store.proofs.ReadFacts.{value_by}

-- ---- the order of bytes

is_Less : (o : Ordering) → is_lt o ≡ true → o ≡ Less
is_Less Less e = refl
is_Less Equal e = absurd (false≢true e)
is_Less Greater e = absurd (false≢true e)

-- bytes that are not less than others are not less than lesser ones
not_below : (x y z : List ℕ) → is_lt (slice_cmp nat_cmp y z) ≡ true → is_lt (slice_cmp nat_cmp x z) ≡ false → is_lt (slice_cmp nat_cmp x y) ≡ false
not_below x y z less not_less =
    elim (cases_Bool (is_lt (slice_cmp nat_cmp x y))) [
      | inl below ↦ absurd (false≢true (sym not_less ∙ ap is_lt (nat_list_cmp_total.trans x y z (is_Less (slice_cmp nat_cmp x y) below) (is_Less (slice_cmp nat_cmp y z) less))))
      | inr other ↦ other
    ]

pub same_some : {X : Type 0} (x y : X) → Some x ≡ Some y → x ≡ y
same_some x y e = cc

-- ---- the least bytes of those that were given

module _ (least most : ℕ) (items : Items) (after : Option (List ℕ)) where
  -- of some bytes the least that are greater than these, which an item of the range has
  abbrev pub IsLeastTo : (List ℕ → Type 0) → Option (List ℕ) → Type 0
  IsLeastTo Covered None = (bytes : List ℕ) → Covered bytes → is_behind after bytes ≡ false
  IsLeastTo Covered (Some found) =
      ((id : ℕ) × HasBytes least most items id found)
      × (is_behind after found ≡ true)
      × ((bytes : List ℕ) → Covered bytes → is_behind after bytes ≡ true → is_lt (slice_cmp nat_cmp bytes found) ≡ false)

  -- all bytes of the range were given
  pub least-end : (Covered : List ℕ → Type 0) (found : Option (List ℕ)) → ((id : ℕ) (bytes : List ℕ) → HasBytes least most items id bytes → Covered bytes) → IsLeastTo Covered found → IsNextOf least most items after found
  least-end Covered None all so_far = λ id bytes has. so_far bytes (all id bytes has)
  least-end Covered (Some found) all so_far = (so_far.0, so_far.1, λ id bytes has past. so_far.2 bytes (all id bytes has) past)

  -- those of one entry more
  module _ (Old New : List ℕ → Type 0) (own : List ℕ) (more : (bytes : List ℕ) → New bytes → (Some own ≡ Some bytes) ⊎ Old bytes) where
    kept : (found : Option (List ℕ)) → (is_behind after own ≡ true → is_below own found ≡ false) → IsLeastTo Old found → IsLeastTo New found
    kept None no_better so_far = λ bytes covered.
        elim (more bytes covered) [
          | inl e ↦ ap (is_behind after) (sym (same_some own bytes e)) ∙ elim (cases_Bool (is_behind after own)) [ inl past ↦ absurd (false≢true (sym (no_better past))) | inr other ↦ other ]
          | inr before ↦ so_far bytes before
        ]
    kept (Some found) no_better so_far = (
      so_far.0,
      so_far.1,
      λ bytes covered past. elim (more bytes covered) [
        | inl e ↦
            ap (λ (bs : List ℕ). is_lt (slice_cmp nat_cmp bs found)) (sym (same_some own bytes e)) ∙ no_better (ap (is_behind after) (same_some own bytes e) ∙ past)
        | inr before ↦ so_far.2 bytes before past
      ],
    )

    itself : (bytes : List ℕ) → Some own ≡ Some bytes → is_lt (slice_cmp nat_cmp bytes own) ≡ false
    itself bytes e = ap (λ (bs : List ℕ). is_lt (slice_cmp nat_cmp bs own)) (sym (same_some own bytes e)) ∙ ap is_lt (tied_itself nat_list_cmp_total own)

    replaced : (found : Option (List ℕ)) → ((id : ℕ) × HasBytes least most items id own) → is_behind after own ≡ true → is_below own found ≡ true → IsLeastTo Old found → IsLeastTo New (Some own)
    replaced None has past below so_far = (
      has,
      past,
      λ bytes covered behind. elim (more bytes covered) [
        | inl e ↦ itself bytes e
        | inr before ↦ absurd (false≢true (sym (so_far bytes before) ∙ behind))
      ],
    )
    replaced (Some found) has past below so_far = (
      has,
      past,
      λ bytes covered behind. elim (more bytes covered) [
        | inl e ↦ itself bytes e
        | inr before ↦ not_below bytes own found below (so_far.2 bytes before behind)
      ],
    )

    step-some : (found : Option (List ℕ)) → ((id : ℕ) × HasBytes least most items id own) → IsLeastTo Old found → IsLeastTo New (lesser_of after (Some own) found)
    step-some found has so_far =
        elim (cases_Bool (is_behind after own)) [
          | inr passed ↦
              subst (λ (t : Bool). IsLeastTo New (cond (t && is_below own found) (Some own) found)) (sym passed)
              (kept found (λ past. absurd (false≢true (sym passed ∙ past))) so_far)
          | inl past ↦
              subst (λ (t : Bool). IsLeastTo New (cond (t && is_below own found) (Some own) found)) (sym past)
              (elim (cases_Bool (is_below own found)) [
                | inl below ↦ subst (λ (t : Bool). IsLeastTo New (cond t (Some own) found)) (sym below) (replaced found has past below so_far)
                | inr other ↦ subst (λ (t : Bool). IsLeastTo New (cond t (Some own) found)) (sym other) (kept found (λ _. other) so_far)
              ])
        ]

  step-none : (Old New : List ℕ → Type 0) (found : Option (List ℕ)) → ((bytes : List ℕ) → New bytes → Old bytes) → IsLeastTo Old found → IsLeastTo New found
  step-none Old New None more so_far = λ bytes covered. so_far bytes (more bytes covered)
  step-none Old New (Some found) more so_far = (so_far.0, so_far.1, λ bytes covered past. so_far.2 bytes (more bytes covered) past)

  pub least-step : (Old New : List ℕ → Type 0) (own found : Option (List ℕ)) → ((bytes : List ℕ) → own ≡ Some bytes → (id : ℕ) × HasBytes least most items id bytes) → ((bytes : List ℕ) → New bytes → (own ≡ Some bytes) ⊎ Old bytes)
      → IsLeastTo Old found → IsLeastTo New (lesser_of after own found)
  least-step Old New None found has more so_far =
      step-none Old New found (λ bytes covered. elim (more bytes covered) [ inl e ↦ absurd (some_none bytes (sym e)) | inr before ↦ before ]) so_far
  least-step Old New (Some own) found has more so_far = step-some Old New own more found (has own refl) so_far

-- ---- the last entries of ids

-- the last one of an id has it
pub own-id : (id : ℕ) (placed : List Placed) (o : Option Placed) → IfSome o (λ p. p.id ≡ id) → IfSome (fold (λ last p. cond (eqb p.id id) (Some p) last) o placed) (λ p. p.id ≡ id)
own-id id [] o so_far = so_far
own-id id (p ∷ ps) o so_far = own-id id ps (cond (eqb p.id id) (Some p) o) (here (eqb p.id id) refl)
  where
    here : (t : Bool) → eqb p.id id ≡ t → IfSome (cond t (Some p) o) (λ q. q.id ≡ id)
    here true e = eqb-true p.id id e
    here false e = so_far

module _ {T : Type 0} (role : Role) (format_of : Geometry → SectorFormat) (kept : Geometry → List ℕ → T) (d : Device) (store : Store T) where
  -- what an entry gives its id
  abbrev pub value : Placed → Option (List ℕ)
  value p = value_of (bytes_of (slots (format_of (geometry_of d store.area))) (sectors_of d store.area) p)

  -- an entry that a walk gave has these bytes
  pub record KnownBytes (walk : Lasts) (bytes : List ℕ) : Type 0 where
    pub placed : Placed
    pub covered : WasGiven (format_of (geometry_of d store.area)) (sectors_of d store.area) store.current walk placed
    pub is : value_of (bytes_of (slots (format_of (geometry_of d store.area))) (sectors_of d store.area) placed) ≡ Some bytes

module _ {T : Type 0} (role : Role) (format_of : Geometry → SectorFormat) (kept : Geometry → List ℕ → T) (d : Device) (store : Store T) (law : IsSectorFormat (format_of (geometry_of d store.area))) (lawful : IsLawful d.banks d.bytes) (on : StandsOn role format_of kept d store) where
  abbrev k : SectorFormat
  k = format_of (geometry_of d store.area)

  abbrev here : List (List ℕ)
  here = sectors_of d store.area

  abbrev own_value : Placed → Option (List ℕ)
  own_value p = value_of (bytes_of (slots (format_of (geometry_of d store.area))) (sectors_of d store.area) p)

  module _ (walk : Lasts) (least most : ℕ) (from : walk.least ≡ least) (to : walk.most ≡ most) where
    -- the last entry of an id of the range
    pub has-bytes : (p : Placed) → IsLastIn (format_of (geometry_of d store.area)) (sectors_of d store.area) walk p → (bytes : List ℕ) → value_of (bytes_of (slots (format_of (geometry_of d store.area))) (sectors_of d store.area) p) ≡ Some bytes → HasBytes least most (items_on format_of d store.area) p.id bytes
    has-bytes p last bytes is =
        let parts = and_parts (leb walk.least p.id) (leb p.id walk.most) last.own in
        record {
          from = subst (λ (n : ℕ). n ≤ p.id) from (leb-true walk.least p.id parts.0);
          to = subst (λ (n : ℕ). p.id ≤ n) to (leb-true p.id walk.most parts.1);
          has = value_by role format_of kept d store law lawful on (Some p) p.id (sym last.last) ∙ is;
        }

    -- an item of the range was given, if there is no next one
    pub covered-all : GivesNext (format_of (geometry_of d store.area)) (sectors_of d store.area) store.current walk walk None → (id : ℕ) (bytes : List ℕ) → HasBytes least most (items_on format_of d store.area) id bytes → KnownBytes role format_of kept d store walk bytes
    covered-all all id bytes has = at (last_placed (slots k) here id) refl (own-id id (all_placed (slots k) here) None tt)
      where
        inside : in_range walk.least walk.most id ≡ true
        inside =
            ap (λ (n : ℕ). leb n id && leb id walk.most) from ∙ ap (λ (n : ℕ). leb least id && leb id n) to
            ∙ ap (λ (t : Bool). t && leb id most) (le-leb least id has.from) ∙ le-leb id most has.to

        at : (o : Option Placed) → last_placed (slots (format_of (geometry_of d store.area))) (sectors_of d store.area) id ≡ o → IfSome o (λ p. p.id ≡ id) → KnownBytes role format_of kept d store walk bytes
        at None none own = absurd (some_none bytes (sym has.has ∙ value_by role format_of kept d store law lawful on None id (sym none)))
        at (Some p) some own = record {
          placed = p;
          covered = all p (record {
            own = ap (in_range walk.least walk.most) own ∙ inside;
            last = ap (last_placed (slots k) here) own ∙ some;
          });
          is = sym (value_by role format_of kept d store law lawful on (Some p) id (sym some)) ∙ has.has;
        }

  -- what was given with one more entry
  pub covered-more : (old new : Lasts) (p : Placed)
      → ((q : Placed) → WasGiven (format_of (geometry_of d store.area)) (sectors_of d store.area) store.current new q → (q ≡ p) ⊎ WasGiven (format_of (geometry_of d store.area)) (sectors_of d store.area) store.current old q)
      → (bytes : List ℕ) → KnownBytes role format_of kept d store new bytes → (value_of (bytes_of (slots (format_of (geometry_of d store.area))) (sectors_of d store.area) p) ≡ Some bytes) ⊎ KnownBytes role format_of kept d store old bytes
  covered-more old new p more bytes t =
      elim (more t.placed t.covered) [
        | inl same ↦ inl (ap own_value (sym same) ∙ t.is)
        | inr before ↦ inr (record { placed = t.placed; covered = before; is = t.is })
      ]
