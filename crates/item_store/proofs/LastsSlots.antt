-- A walk over the last entries of ids, from the newest back, one slot after the other.
use Rattle.std.proofs.Common.{◌≡◌, ℕ, zero, suc, ◌+◌, ◌-◌, ◌<◌, ◌≤◌, Bool, true, false, not, ◌&&◌, ◌||◌, cond, eqb, List, [], ◌∷◌, ◌++◌, length, Option, Some, None, ◌⊎◌, refl, sym, ap, subst, ◌∙◌, inl, inr, arith}
use Rattle.std.specs.Prelude.{is_some, IfSome, fold}
use Rattle.std.specs.Option.{option_map, option_or, option_to_list}
use Rattle.std.proofs.lemmas.Bool.{false≢true, cases_Bool, eqb-true, ne_eqb}
use Rattle.std.proofs.Math.Bool.{or_comm}
use Rattle.flash_map.specs.Area.{sector_at}
use Rattle.flash_map.proofs.MapLemmas.{not_some}
use Rattle.item_laws.specs.Area.{counts_at, open_sector}
use Rattle.item_laws.specs.Live.{last_of, last_placed}
use Rattle.item_store.specs.declared.entry.Entry.{Entry}
use Rattle.item_store.specs.declared.entry.Placed.{Placed}
use Rattle.item_store.specs.declared.lasts.Lasts.{Lasts}
use Rattle.item_store.specs.SectorFormat.{SectorFormat, IsSectorFormat, placed_at, slots}
use Rattle.item_store.specs.Lasts.{in_range, IsOther, AreOthers, has_id, given_at, IsAt, WasGiven, IsLastIn, SameRange}
use Rattle.item_store.specs.Latest.{last_of_id}
use Rattle.item_store.specs.Seen.{has_bit, AreBehind, behind}
use Rattle.item_store.proofs.LiveSteps.{own-last, later_from, later_at, later_step, stand_behind}
use Rattle.item_store.proofs.SeenSteps.{or-true}
use Rattle.item_store.proofs.IndexSteps.{prefix-last, prefix-other, prefix-skipped}

-- ---- ids of some entries

-- there is a last entry of an id where some entry has it
has-last : (id : ℕ) (xs : List Placed) (o : Option Placed) → is_some (fold (λ last p. cond (eqb p.id id) (Some p) last) o xs) ≡ (has_id id xs || is_some o)
has-last id [] o = refl
has-last id (q ∷ qs) o = has-last id qs (cond (eqb q.id id) (Some q) o) ∙ by_test (eqb q.id id)
  where
    by_test : (here : Bool) → (has_id id qs || is_some (cond here (Some q) o)) ≡ ((here || has_id id qs) || is_some o)
    by_test true = or-true (has_id id qs)
    by_test false = refl

or-none : (t : Bool) → (t || false) ≡ t
or-none true = refl
or-none false = refl

pub id-none : (id : ℕ) (xs : List Placed) → has_id id xs ≡ false → last_of_id id xs ≡ None
id-none id xs none = not_some (last_of_id id xs) (has-last id xs None ∙ or-none (has_id id xs) ∙ none)

pub id-some : (id : ℕ) (xs : List Placed) → has_id id xs ≡ true → is_some (last_of_id id xs) ≡ true
id-some id xs some = has-last id xs None ∙ or-none (has_id id xs) ∙ some

-- an id outside of a range is none of it
other-id : (least most own id : ℕ) → in_range least most own ≡ false → in_range least most id ≡ true → eqb own id ≡ false
other-id least most own id other here = ne_eqb own id (λ (e : own ≡ id). false≢true (sym other ∙ ap (in_range least most) e ∙ here))

-- ---- slots of other ids are passed over

module _ {X : Type 0} (least most : ℕ) (f : List Placed → X) (same : (p : Placed) (later : List Placed) → in_range least most p.id ≡ false → f (p ∷ later) ≡ f later) where
  pass-one : (place : ℕ) (o : Option Entry) (later : List Placed) → IsOther least most o → f (option_to_list (option_map (placed_at place) o) ++ later) ≡ f later
  pass-one place None later other = refl
  pass-one place (Some e) later other = same (placed_at place e) later other

  module _ (k : SectorFormat) (law : IsSectorFormat k) (sectors : List (List ℕ)) (current place : ℕ) where
    pass-more : (to d : ℕ) → to + d ≤ k.count (sector_at sectors place) → AreOthers k (sector_at sectors place) to (to + d) least most
        → f (later_at k law sectors current place to) ≡ f (later_at k law sectors current place (to + d))
    pass-more to zero within others =
        let here : to ≡ to + 0 = omega arith in
        ap (λ (n : ℕ). f (later_at k law sectors current place n)) here
    pass-more to (suc d) within others =
        let next : to + 1 + d ≡ to + suc d = omega arith in
        ap f (sym (later_step k law sectors current place to (omega arith)))
        ∙ pass-one place (k.in_slot (sector_at sectors place) (k.first + to)) (later_at k law sectors current place (to + 1)) (others (k.first + to) (omega arith) (omega arith))
        ∙ pass-more (to + 1) d (omega arith) (λ slot low high. others slot (omega arith) (omega arith))
        ∙ ap (λ (n : ℕ). f (later_at k law sectors current place n)) next

    pub passed : (to slots : ℕ) → to ≤ slots → slots ≤ k.count (sector_at sectors place) → AreOthers k (sector_at sectors place) to slots least most
        → f (later_at k law sectors current place to) ≡ f (later_at k law sectors current place slots)
    passed to slots low within others =
        let width : to + (slots - to) ≡ slots = omega arith in
        pass-more to (slots - to) (omega arith) (λ slot from up. others slot from (omega arith)) ∙ ap (λ (n : ℕ). f (later_at k law sectors current place n)) width

same-ids : (least most id : ℕ) → in_range least most id ≡ true → (p : Placed) (later : List Placed) → in_range least most p.id ≡ false → has_id id (p ∷ later) ≡ has_id id later
same-ids least most id own p later other = ap (λ (t : Bool). t || has_id id later) (other-id least most p.id id other own)

same-last : (least most id : ℕ) → in_range least most id ≡ true → (p : Placed) (later : List Placed) → in_range least most p.id ≡ false → last_of_id id (p ∷ later) ≡ last_of_id id later
same-last least most id own p later other = prefix-other id p later (other-id least most p.id id other own)

-- ---- one slot more

-- the last one of its id, where none behind it has it
pub last-in : (k : SectorFormat) (sectors : List (List ℕ)) (p : Placed) (later : List Placed) → AreBehind k sectors p later → has_id p.id later ≡ false → last_placed (slots k) sectors p.id ≡ Some p
last-in k sectors p later at none =
    own-last k sectors p later at ∙ ap (λ (o : Option Placed). option_or (option_or o (Some p)) (last_of (slots k) p.id at.prefix)) (id-none p.id later none)

and-own : (own bit : Bool) → (own && not bit) ≡ true → own ≡ true
and-own true bit e = refl
and-own false bit e = e

and-not : (own bit : Bool) → (own && not bit) ≡ true → bit ≡ false
and-not true true e = sym e
and-not true false e = refl
and-not false bit e = absurd (false≢true e)

seen-so : (own bit : Bool) → (own && not bit) ≡ false → own ≡ true → bit ≡ true
seen-so true true e is = refl
seen-so true false e is = sym e
seen-so false bit e is = absurd (false≢true is)

module _ (k : SectorFormat) (law : IsSectorFormat k) (sectors : List (List ℕ)) (current : ℕ) where
  -- what was given of a sector that counts
  pub covered-is : (place left : ℕ) → counts_at k.reading sectors current place ≡ true → given_at k sectors current place left ≡ later_at k law sectors current place left
  covered-is place left counts = ap (λ (t : Bool). cond t (later_from k law sectors current place left) [] ++ behind k sectors current place) counts

  module _ (old new : Lasts) (at : IsAt k sectors current old) (some : 0 < old.left) (range : SameRange old new) (place : new.place ≡ old.place) (fewer : new.left ≤ old.left - 1)
      (others : AreOthers k (sector_at sectors old.place) new.left (old.left - 1) old.least old.most) where
    counts : counts_at k.reading sectors current old.place ≡ true
    counts = at.counts some

    -- the entries behind the slot that is looked at
    abbrev pub later : List Placed
    later = later_at k law sectors current old.place old.left

    abbrev pub read : Option Entry
    read = k.in_slot (sector_at sectors old.place) (k.first + (old.left - 1))

    was : given_at k sectors current old.place old.left ≡ later
    was = covered-is old.place old.left counts

    -- what any test of the range makes of the entries behind the slots that are left now
    now-is : {X : Type 0} (f : List Placed → X) → ((p : Placed) (later : List Placed) → in_range old.least old.most p.id ≡ false → f (p ∷ later) ≡ f later)
        → f (given_at k sectors current new.place new.left) ≡ f (option_to_list (option_map (placed_at old.place) read) ++ later)
    now-is f same =
        let up : old.left - 1 + 1 ≡ old.left = omega (arith, some) in
        ap (λ (n : ℕ). f (given_at k sectors current n new.left)) place
        ∙ ap f (covered-is old.place new.left counts)
        ∙ passed old.least old.most f same k law sectors current old.place new.left (old.left - 1) fewer (omega (arith, at.left)) others
        ∙ ap f (sym (later_step k law sectors current old.place (old.left - 1) (omega (arith, at.left, some))))
        ∙ ap (λ (n : ℕ). f (option_to_list (option_map (placed_at old.place) read) ++ later_at k law sectors current old.place n)) up

    own-range : (id : ℕ) → in_range new.least new.most id ≡ true → in_range old.least old.most id ≡ true
    own-range id own = sym (ap (λ (n : ℕ). in_range n old.most id) range.0) ∙ sym (ap (λ (n : ℕ). in_range new.least n id) range.1) ∙ own

    stands : ((id : ℕ) → in_range old.least old.most id ≡ true → has_bit new.seen (id - old.least) ≡ has_id id (option_to_list (option_map (placed_at old.place) read) ++ later)) → IsAt k sectors current new
    stands noted = record {
      inside = subst (λ (n : ℕ). n < length sectors) (sym place) at.inside;
      left = subst (λ (n : ℕ). new.left ≤ k.count (sector_at sectors n)) (sym place) (omega (arith, at.left));
      few = omega (arith, at.few);
      counts = λ more. subst (λ (n : ℕ). counts_at k.reading sectors current n ≡ true) (sym place) counts;
      range = omega (arith, at.range, range.0, range.1);
      noted = λ id own.
          ap (λ (n : ℕ). has_bit new.seen (id - n)) range.0 ∙ noted id (own-range id own)
          ∙ sym (now-is (has_id id) (same-ids old.least old.most id (own-range id own)));
    }

    -- the last entry of an id that was given by now
    last-now : (p : Placed) (o : Option Placed) → o ≡ option_map (placed_at old.place) read → WasGiven k sectors current new p → last_of_id p.id (option_to_list o ++ later) ≡ Some p
    last-now p o is covered =
        ap (λ (x : Option Placed). last_of_id p.id (option_to_list x ++ later)) is
        ∙ sym (now-is (last_of_id p.id) (same-last old.least old.most p.id (own-range p.id covered.own))) ∙ covered.last

    was-covered : (p : Placed) → WasGiven k sectors current new p → last_of_id p.id later ≡ Some p → WasGiven k sectors current old p
    was-covered p covered last = record { own = own-range p.id covered.own; last = ap (last_of_id p.id) was ∙ last }

    -- ---- the slot has no entry

    pub at-none : None ≡ option_map (placed_at old.place) read → new.seen ≡ old.seen → IsAt k sectors current new
    at-none none same = stands (λ id own.
        ap (λ (bits : List ℕ). has_bit bits (id - old.least)) same ∙ at.noted id own ∙ ap (has_id id) was
        ∙ ap (λ (o : Option Placed). has_id id (option_to_list o ++ later)) none)

    pub covered-none : None ≡ option_map (placed_at old.place) read → (p : Placed) → WasGiven k sectors current new p → WasGiven k sectors current old p
    covered-none none p covered = was-covered p covered (last-now p None none covered)

    -- ---- it has one, whose id is noted

    module _ (q : Placed) (found : Some q ≡ option_map (placed_at old.place) read) where
      pub at-some : ((other : ℕ) → in_range old.least old.most other ≡ true → has_bit new.seen (other - old.least) ≡ (has_bit old.seen (other - old.least) || eqb q.id other)) → IsAt k sectors current new
      at-some noted = stands (λ id own.
          noted id own ∙ ap (λ (t : Bool). t || eqb q.id id) (at.noted id own ∙ ap (has_id id) was) ∙ or_comm (has_id id later) (eqb q.id id)
          ∙ ap (λ (o : Option Placed). has_id id (option_to_list o ++ later)) found)

      abbrev pub is-new : Bool
      is-new = in_range old.least old.most q.id && not (has_bit old.seen (q.id - old.least))

      in-own : is-new ≡ true → in_range old.least old.most q.id ≡ true
      in-own fresh = and-own (in_range old.least old.most q.id) (has_bit old.seen (q.id - old.least)) fresh

      unseen : is-new ≡ true → has_id q.id later ≡ false
      unseen fresh =
          sym (at.noted q.id (in-own fresh) ∙ ap (has_id q.id) was) ∙ and-not (in_range old.least old.most q.id) (has_bit old.seen (q.id - old.least)) fresh

      -- a new one is the last of its id
      pub next-new : (result : Bool) → result ≡ is-new → result ≡ true → open_sector k.reading sectors ≡ current → current < length sectors → IsLastIn k sectors old q
      next-new result means yes-new is low =
          let fresh : is-new ≡ true = sym means ∙ yes-new in
          let up : old.left - 1 + 1 ≡ old.left = omega (arith, some) in
          record {
            own = in-own fresh;
            last = last-in k sectors q later
                (subst (λ (n : ℕ). AreBehind k sectors q (later_at k law sectors current old.place n)) up
                (stand_behind k law sectors current old.place is low at.inside counts (old.left - 1) (omega (arith, at.left, some)) q (sym found)))
                (unseen fresh);
          }

      pub covered-new : (result : Bool) → result ≡ is-new → result ≡ true → (p : Placed) → WasGiven k sectors current new p → (Some p ≡ Some q) ⊎ WasGiven k sectors current old p
      covered-new result means yes-new p covered =
          let fresh : is-new ≡ true = sym means ∙ yes-new in
          let last : last_of_id p.id (q ∷ later) ≡ Some p = last-now p (Some q) found covered in
          elim (cases_Bool (eqb q.id p.id)) [
            | inl own ↦
                let none : last_of_id p.id later ≡ None = ap (λ (n : ℕ). last_of_id n later) (sym (eqb-true q.id p.id own)) ∙ id-none q.id later (unseen fresh) in
                inl (sym last ∙ prefix-last p.id q later ∙ ap (λ (o : Option Placed). option_or o (cond (eqb q.id p.id) (Some q) None)) none ∙ ap (λ (t : Bool). cond t (Some q) None) own)
            | inr other ↦ inr (was-covered p covered (sym (prefix-other p.id q later other) ∙ last))
          ]

      -- of one that is not new, either the id is none of the range or an entry behind it has it
      pub covered-old : (result : Bool) → result ≡ is-new → result ≡ false → (p : Placed) → WasGiven k sectors current new p → WasGiven k sectors current old p
      covered-old result means not-new p covered =
          let last : last_of_id p.id (q ∷ later) ≡ Some p = last-now p (Some q) found covered in
          elim (cases_Bool (eqb q.id p.id)) [
            | inl own ↦
                let is : q.id ≡ p.id = eqb-true q.id p.id own in
                let here : in_range old.least old.most q.id ≡ true = ap (in_range old.least old.most) is ∙ own-range p.id covered.own in
                let bit : has_bit old.seen (q.id - old.least) ≡ true = seen-so (in_range old.least old.most q.id) (has_bit old.seen (q.id - old.least)) (sym means ∙ not-new) here in
                let has : has_id q.id later ≡ true = sym (at.noted q.id here ∙ ap (has_id q.id) was) ∙ bit in
                was-covered p covered (prefix-skipped p.id q later (id-some q.id later has) ∙ last)
            | inr other ↦ was-covered p covered (sym (prefix-other p.id q later other) ∙ last)
          ]

-- ---- slots one after the other

-- a slot without a new entry adds none to those given
pub covered-before : (k : SectorFormat) (sectors : List (List ℕ)) (current : ℕ) (old : Lasts) (p : Placed) (o : Option Placed) (some : Bool) → some ≡ is_some o → some ≡ false
    → (Some p ≡ o) ⊎ WasGiven k sectors current old p → WasGiven k sectors current old p
covered-before k sectors current old p o some is none (inl here) = absurd (false≢true (sym none ∙ is ∙ ap is_some (sym here)))
covered-before k sectors current old p o some is none (inr was) = was

-- what holds anyway holds where there is an entry
pub some-fewer : (o : Option Placed) (now before : ℕ) → now < before → IfSome o (λ _. now < before)
some-fewer None now before less = tt
some-fewer (Some p) now before less = less
