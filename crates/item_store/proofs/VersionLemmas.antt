-- What lists of pairs keep of the versions of each id: one pair more, a collection, rounds.
use Rattle.std.proofs.Common.{◌≡◌, ℕ, Bool, true, false, cond, eqb, ◌||◌, List, [], ◌∷◌, ◌++◌, length, Option, Some, None, refl, sym, ap, subst, ◌∙◌, inl, inr, append_assoc}
use Rattle.std.specs.Prelude.{fold, slice_get, IsSome}
use Rattle.std.specs.Option.{option_and_then}
use Rattle.std.proofs.lemmas.Bool.{cases_Bool, eqb-true, eq-eqb, or_parts}
use Rattle.std.proofs.lemmas.List.{append-nil}
use Rattle.std.proofs.lemmas.List.Sums.{fold-append}
use Rattle.std.proofs.lemmas.List.Concat.{flat_map-append}
use Rattle.item_laws.specs.Items.{last, value_of, SameItems}
use Rattle.item_laws.specs.LivePairs.{names, live_pairs}
use Rattle.item_laws.specs.PairRounds.{joined, collect_oldest}
use Rattle.item_laws.proofs.LivePairs.{last_from, last-is, step, names-append, live-absent, live-ignored, collected}
use Rattle.item_laws.proofs.Pairs.{SameItems-push}
use Rattle.item_store.specs.Versions.{versions, KeepsVersions}

-- ---- the versions of a longer list

-- what one pair adds
abbrev own : ℕ → ℕ × List ℕ → List (List ℕ)
own id pair = cond (eqb pair.0 id) (pair.1 ∷ []) []

abbrev older_with : ℕ → List (List ℕ) → List (ℕ × List ℕ) → List (List ℕ)
older_with id older pairs = fold (λ (vs : List (List ℕ)) (pair : ℕ × List ℕ). cond (eqb pair.0 id) (pair.1 ∷ vs) vs) older pairs

own_before : (t : Bool) (bytes : List ℕ) (older : List (List ℕ)) → cond t (bytes ∷ older) older ≡ cond t (bytes ∷ []) [] ++ older
own_before true bytes older = refl
own_before false bytes older = refl

older_is : (id : ℕ) (older : List (List ℕ)) (pairs : List (ℕ × List ℕ)) → older_with id older pairs ≡ versions pairs id ++ older
older_is id older [] = refl
older_is id older (pair ∷ rest) =
    older_is id (cond (eqb pair.0 id) (pair.1 ∷ older) older) rest
    ∙ ap (λ vs. versions rest id ++ vs) (own_before (eqb pair.0 id) pair.1 older)
    ∙ sym (append_assoc (versions rest id) (own id pair) older)
    ∙ ap (λ vs. vs ++ older) (sym (older_is id (own id pair) rest))

-- the oldest pair is the oldest version
pub versions-cons : (pair : ℕ × List ℕ) (rest : List (ℕ × List ℕ)) (id : ℕ) → versions (pair ∷ rest) id ≡ versions rest id ++ cond (eqb pair.0 id) (pair.1 ∷ []) []
versions-cons pair rest id = older_is id (own id pair) rest

pub versions-append : (xs ys : List (ℕ × List ℕ)) (id : ℕ) → versions (xs ++ ys) id ≡ versions ys id ++ versions xs id
versions-append xs ys id = fold-append (λ (vs : List (List ℕ)) (pair : ℕ × List ℕ). cond (eqb pair.0 id) (pair.1 ∷ vs) vs) [] xs ys ∙ older_is id (versions xs id) ys

-- a pair more is a version more of its id, the newest, and of no other
pub versions-push : (pairs : List (ℕ × List ℕ)) (pair : ℕ × List ℕ) (id : ℕ) → versions (pairs ++ pair ∷ []) id ≡ cond (eqb pair.0 id) (pair.1 ∷ []) [] ++ versions pairs id
versions-push pairs pair id = versions-append pairs (pair ∷ []) id

pub versions-more : (pairs : List (ℕ × List ℕ)) (pair : ℕ × List ℕ) (id : ℕ) → versions (pairs ++ pair ∷ []) id ≡ cond (eqb pair.0 id) (pair.1 ∷ versions pairs id) (versions pairs id)
versions-more pairs pair id = versions-push pairs pair id ∙ sym (own_before (eqb pair.0 id) pair.1 (versions pairs id))

pub newest-pushed : (pairs : List (ℕ × List ℕ)) (id : ℕ) (bytes : List ℕ) → slice_get (versions (pairs ++ (id, bytes) ∷ []) id) 0 ≡ Some bytes
newest-pushed pairs id bytes =
    ap (λ (vs : List (List ℕ)). slice_get vs 0) (versions-more pairs (id, bytes) id ∙ ap (λ (t : Bool). cond t (bytes ∷ versions pairs id) (versions pairs id)) (eq-eqb id id refl))

pub versions-absent : (id : ℕ) (pairs : List (ℕ × List ℕ)) → names id pairs ≡ false → versions pairs id ≡ []
versions-absent id [] h = refl
versions-absent id (pair ∷ rest) h =
    let parts = or_parts (eqb pair.0 id) (names id rest) h in
    versions-cons pair rest id
    ∙ ap (λ (t : Bool). versions rest id ++ cond t (pair.1 ∷ []) []) parts.0
    ∙ append-nil (versions rest id) ∙ versions-absent id rest parts.1

-- ---- the newest version is the value

abbrev newest_of : Option (List ℕ) → List (List ℕ) → Option (List ℕ)
newest_of found [] = found
newest_of found (bytes ∷ older) = value_of bytes

newest_split : (found : Option (List ℕ)) (vs : List (List ℕ)) (t : Bool) (bytes : List ℕ) → newest_of (cond t (value_of bytes) found) vs ≡ newest_of found (vs ++ cond t (bytes ∷ []) [])
newest_split found [] true bytes = refl
newest_split found [] false bytes = refl
newest_split found (v ∷ vs) t bytes = refl

newest_from : (id : ℕ) (found : Option (List ℕ)) (pairs : List (ℕ × List ℕ)) → last_from id found pairs ≡ newest_of found (versions pairs id)
newest_from id found [] = refl
newest_from id found (pair ∷ rest) =
    newest_from id (step id found pair) rest
    ∙ newest_split found (versions rest id) (eqb pair.0 id) pair.1
    ∙ ap (newest_of found) (sym (versions-cons pair rest id))

pub newest-value : (pairs : List (ℕ × List ℕ)) (id : ℕ) → last pairs id ≡ newest_of None (versions pairs id)
newest-value pairs id = last-is pairs id ∙ newest_from id None pairs

newest_first : (vs : List (List ℕ)) → newest_of None vs ≡ option_and_then value_of (slice_get vs 0)
newest_first [] = refl
newest_first (v ∷ vs) = refl

pub newest-is : (pairs : List (ℕ × List ℕ)) (id : ℕ) → last pairs id ≡ option_and_then value_of (slice_get (versions pairs id) 0)
newest-is pairs id = newest-value pairs id ∙ newest_first (versions pairs id)

none_some : {X : Type 0} (o : Option X) → o ≡ None → IsSome o → ⊥
none_some None e some = absurd (cc)
none_some (Some x) e some = absurd (cc)

-- an id with a value has a version
value_some : (pairs : List (ℕ × List ℕ)) (id : ℕ) → IsSome (last pairs id) → versions pairs id ≡ [] → ⊥
value_some pairs id some none = none_some (last pairs id) (newest-value pairs id ∙ ap (newest_of None) none) some

-- ---- lists that keep the newest versions

prefix_newest : (vs gone : List (List ℕ)) → (vs ≡ [] → newest_of None (vs ++ gone) ≡ None) → newest_of None vs ≡ newest_of None (vs ++ gone)
prefix_newest [] gone none = sym (none refl)
prefix_newest (v ∷ vs) gone none = refl

no_value : (o : Option (List ℕ)) → (IsSome o → ⊥) → o ≡ None
no_value None h = refl
no_value (Some bytes) h = absurd (h refl)

-- the items follow
pub versions-items : (old new : List (ℕ × List ℕ)) → KeepsVersions old new → SameItems new old
versions-items old new keeps id =
    let was = newest-value old id ∙ ap (newest_of None) (keeps.newest id) in
    newest-value new id
    ∙ prefix_newest (versions new id) (keeps.gone id) (λ empty. sym was ∙ no_value (last old id) (λ some. keeps.some id some empty))
    ∙ sym was

-- and where these are the same, each front of the versions has one where there is a value
pub from_items : (old new : List (ℕ × List ℕ)) (gone : ℕ → List (List ℕ)) → ((id : ℕ) → versions old id ≡ versions new id ++ gone id) → SameItems new old → KeepsVersions old new
from_items old new gone newest same = record { gone = gone; newest = newest; some = λ id some. value_some new id (subst (λ (o : Option (List ℕ)). IsSome o) (sym (same id)) some) }

pub keeps_all : (old new : List (ℕ × List ℕ)) → new ≡ old → KeepsVersions old new
keeps_all old new same = from_items old new (λ id. []) (λ id. ap (λ pairs. versions pairs id) (sym same) ∙ sym (append-nil (versions new id))) (λ id. ap (λ pairs. last pairs id) same)

pub keeps_more : (a b c : List (ℕ × List ℕ)) → KeepsVersions a b → KeepsVersions b c → KeepsVersions a c
keeps_more a b c first second =
    from_items a c (λ id. second.gone id ++ first.gone id)
    (λ id. first.newest id ∙ ap (λ vs. vs ++ first.gone id) (second.newest id) ∙ append_assoc (versions c id) (second.gone id) (first.gone id))
    (λ id. versions-items b c second id ∙ versions-items a b first id)

-- one pair more behind both
pub keeps-push : (old new : List (ℕ × List ℕ)) (pair : ℕ × List ℕ) → KeepsVersions old new → KeepsVersions (old ++ pair ∷ []) (new ++ pair ∷ [])
keeps-push old new pair keeps =
    from_items (old ++ pair ∷ []) (new ++ pair ∷ []) keeps.gone
    (λ id. versions-push old pair id ∙ ap (λ vs. own id pair ++ vs) (keeps.newest id) ∙ sym (append_assoc (own id pair) (versions new id) (keeps.gone id))
    ∙ ap (λ vs. vs ++ keeps.gone id) (sym (versions-push new pair id)))
    (SameItems-push new old pair (versions-items old new keeps))

-- ---- a collection

-- of an id that no later part has, the live pairs keep the newest version, or none
live_prefix : (id : ℕ) (victim others : List (ℕ × List ℕ)) → names id others ≡ false → (gone : List (List ℕ)) × (versions victim id ≡ versions (live_pairs victim others) id ++ gone)
unfolding live_pairs
live_prefix id [] others h = ([], refl)
live_prefix id (pair ∷ rest) others h =
    let later = live_prefix id rest others h in
    elim (cases_Bool (names pair.0 (rest ++ others) || eqb (length pair.1) 0)) [
      | inl skip ↦ (
        later.0 ++ own id pair,
        versions-cons pair rest id
            ∙ ap (λ vs. vs ++ own id pair) later.1
            ∙ append_assoc (versions (live_pairs rest others) id) later.0 (own id pair)
            ∙ ap (λ (t : Bool). versions (cond t (live_pairs rest others) (pair ∷ live_pairs rest others)) id ++ (later.0 ++ own id pair)) (sym skip),
      )
      | inr kept ↦
          let parts = or_parts (names pair.0 (rest ++ others)) (eqb (length pair.1) 0) kept in
          let now : versions (live_pairs (pair ∷ rest) others) id ≡ versions (live_pairs rest others) id ++ own id pair =
          ap (λ (t : Bool). versions (cond t (live_pairs rest others) (pair ∷ live_pairs rest others)) id) kept ∙ versions-cons pair (live_pairs rest others) id in
          elim (cases_Bool (eqb pair.0 id)) [
            | inl here ↦
                let apart = or_parts (names id rest) (names id others) (sym (names-append id rest others) ∙ ap (λ (n : ℕ). names n (rest ++ others)) (sym (eqb-true pair.0 id here)) ∙ parts.0) in (
                  [],
                  versions-cons pair rest id
                      ∙ ap (λ vs. vs ++ own id pair) (versions-absent id rest apart.0 ∙ sym (versions-absent id (live_pairs rest others) (live-absent id rest others apart.0)))
                      ∙ sym now ∙ sym (append-nil (versions (live_pairs (pair ∷ rest) others) id)),
                )
            | inr other ↦
                let none : own id pair ≡ [] = ap (λ (t : Bool). cond t (pair.1 ∷ []) []) other in (
                  later.0,
                  versions-cons pair rest id
                      ∙ ap (λ vs. versions rest id ++ vs) none ∙ append-nil (versions rest id) ∙ later.1
                      ∙ ap (λ vs. vs ++ later.0) (sym (now ∙ ap (λ vs. versions (live_pairs rest others) id ++ vs) none ∙ append-nil (versions (live_pairs rest others) id))),
                )
          ]
    ]

-- the list without the victim and with its live pairs at the end
collected_prefix : (victim others : List (ℕ × List ℕ)) (id : ℕ) → (gone : List (List ℕ)) × (versions (victim ++ others) id ≡ versions (others ++ live_pairs victim others) id ++ gone)
collected_prefix victim others id =
    elim (cases_Bool (names id others)) [
      | inl named ↦ (
        versions victim id,
        versions-append victim others id
            ∙ ap (λ vs. vs ++ versions victim id)
            (sym (versions-append others (live_pairs victim others) id ∙ ap (λ vs. vs ++ versions others id) (versions-absent id (live_pairs victim others) (live-ignored id victim others named)))),
      )
      | inr unnamed ↦
          let prefix = live_prefix id victim others unnamed in
          let none = versions-absent id others unnamed in (
            prefix.0,
            versions-append victim others id
                ∙ ap (λ vs. vs ++ versions victim id) none ∙ prefix.1
                ∙ ap (λ vs. vs ++ prefix.0)
                (sym (versions-append others (live_pairs victim others) id ∙ ap (λ vs. versions (live_pairs victim others) id ++ vs) none ∙ append-nil (versions (live_pairs victim others) id))),
          )
    ]

pub collected-versions : (victim others : List (ℕ × List ℕ)) → KeepsVersions (victim ++ others) (others ++ live_pairs victim others)
collected-versions victim others =
    from_items (victim ++ others) (others ++ live_pairs victim others) (λ id. (collected_prefix victim others id).0) (λ id. (collected_prefix victim others id).1) (collected victim others)

-- ---- a round

pub round-versions : (parts : List (List (ℕ × List ℕ))) → KeepsVersions (joined parts) (joined (collect_oldest parts))
unfolding collect_oldest
round-versions [] = keeps_all [] [] refl
round-versions (victim ∷ others) =
    subst (λ pairs. KeepsVersions (victim ++ joined others) pairs)
    (sym (flat_map-append (λ (part : List (ℕ × List ℕ)). part) others (live_pairs victim (joined others) ∷ []) ∙ ap (λ ps. joined others ++ ps) (append-nil (live_pairs victim (joined others)))))
    (collected-versions victim (joined others))
