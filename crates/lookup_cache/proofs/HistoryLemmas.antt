-- What a cache says after a history.
use Rattle.std.proofs.Common.{◌≡◌, ◌≢◌, ℕ, zero, suc, ◌≤◌, Bool, true, false, cond, eqb, List, [], ◌∷◌, ◌++◌, length, get_or, Option, Some, None, refl, sym, ◌∙◌, ap, arith, eqb-true, eq-eqb, ne_eqb, length-set, replicate}
use Rattle.std.proofs.lemmas.List.{length-map, length-replicate}
use Rattle.std.specs.List.{All}
use Rattle.std.specs.Option.{IfSome}
use Rattle.std.proofs.lemmas.Grind.{common_steps}
use Rattle.std.proofs.lemmas.List.Elements.{All-nil, All-cons, All-head, All-tail, All-map}
use Rattle.lookup_cache.specs.Places.{cache_slot, place_of, with_note, without, without_sector}
use Rattle.lookup_cache.specs.History.{Event, noted, forgot, cache_after, Spares, IsLastNoted}

outside_it : (sector : ℕ) (place : Option (ℕ × ℕ)) → IfSome (without_sector sector place) (λ p. p.0 ≢ sector)
outside_it sector None = tt
outside_it sector (Some place) = by_test (eqb place.0 sector) refl
  where
    by_test : (b : Bool) → eqb place.0 sector ≡ b → IfSome (cond b None (Some place)) (λ p. p.0 ≢ sector)
    by_test true in' = tt
    by_test false out = λ same. let both : true ≡ false = sym (eq-eqb place.0 sector same) ∙ out in cc

pub without-outside : (cache : List (Option (ℕ × ℕ))) (sector : ℕ) → All (λ place. IfSome place (λ p. p.0 ≢ sector)) (without cache sector)
without-outside cache sector = All-map (λ place. IfSome place (λ p. p.0 ≢ sector)) (without_sector sector) cache (λ k d below. outside_it sector (get_or cache k d))

pub length-cache_after : (slots : ℕ) (events : List Event) → length (cache_after slots events) ≡ slots
unfolding cache_after
length-cache_after slots [] = simp length-replicate
length-cache_after slots (noted id sector slot ∷ earlier) = simp length-set (length-cache_after slots earlier)
length-cache_after slots (forgot sector ∷ earlier) = simp length-map (length-cache_after slots earlier)

pub note_at : (cache : List (Option (ℕ × ℕ))) (slots other sector slot id : ℕ) → length cache ≡ slots → 1 ≤ slots
    → place_of (with_note cache other sector slot) id ≡ cond (eqb (cache_slot slots other) (cache_slot slots id)) (Some (sector, slot)) (place_of cache id)
note_at cache slots other sector slot id is some = grind (arith, common_steps)

pub forget_at : (cache : List (Option (ℕ × ℕ))) (sector id : ℕ) → place_of (without cache sector) id ≡ without_sector sector (place_of cache id)
forget_at cache sector id = grind (arith, common_steps)

-- the place of an id after one event more
pub place_of-noted : (slots : ℕ) (earlier : List Event) (other sector slot id : ℕ) → 1 ≤ slots
    → place_of (cache_after slots (noted other sector slot ∷ earlier)) id
    ≡ cond (eqb (cache_slot slots other) (cache_slot slots id)) (Some (sector, slot)) (place_of (cache_after slots earlier) id)
unfolding cache_after
place_of-noted slots earlier other sector slot id some =
    note_at (cache_after slots earlier) slots other sector slot id (length-cache_after slots earlier) some

pub place_of-forgot : (slots : ℕ) (earlier : List Event) (sector id : ℕ)
    → place_of (cache_after slots (forgot sector ∷ earlier)) id ≡ without_sector sector (place_of (cache_after slots earlier) id)
unfolding cache_after
place_of-forgot slots earlier sector id = forget_at (cache_after slots earlier) sector id

pub empty_at : (slots id : ℕ) → place_of (replicate slots None) id ≡ None
empty_at slots id = grind (arith, common_steps)

pub place_of-new : (slots id : ℕ) → place_of (cache_after slots []) id ≡ None
unfolding cache_after
place_of-new slots id = empty_at slots id

-- one event more behind the note
still : (slots : ℕ) (event : Event) (earlier : List Event) (id sector slot : ℕ) → Spares slots id sector event
    → IsLastNoted slots earlier id sector slot → IsLastNoted slots (event ∷ earlier) id sector slot
still slots event earlier id sector slot spares last = record {
  since = event ∷ last.since;
  earlier = last.earlier;
  noted_id = last.noted_id;
  when = ap (λ events. event ∷ events) last.when;
  shares = last.shares;
  spared = All-cons (Spares slots id sector) event last.since spares last.spared;
}

kept_outside : (gone : ℕ) (place : Option (ℕ × ℕ)) (sector slot : ℕ) → without_sector gone place ≡ Some (sector, slot) → (place ≡ Some (sector, slot)) × (gone ≢ sector)
kept_outside gone None sector slot found = absurd (cc)
kept_outside gone (Some place) sector slot found = by_test (eqb place.0 gone) refl found
  where
    by_test : (b : Bool) → eqb place.0 gone ≡ b → cond b None (Some place) ≡ Some (sector, slot) → (Some place ≡ Some (sector, slot)) × (gone ≢ sector)
    by_test true in' found' = absurd (cc)
    by_test false out found' =
        let last : ℕ × ℕ = (sector, slot) in
        let at : place ≡ last = cc in
        (found', λ same. let both : true ≡ false = sym (eq-eqb place.0 gone (ap (λ p. p.0) at ∙ sym same)) ∙ out in cc)

-- the newest event is a note
newest_note : (slots : ℕ) (earlier : List Event) (other at place id sector slot : ℕ) (before : Option (ℕ × ℕ)) (b : Bool)
    → eqb (cache_slot slots other) (cache_slot slots id) ≡ b → cond b (Some (at, place)) before ≡ Some (sector, slot)
    → (before ≡ Some (sector, slot) → IsLastNoted slots earlier id sector slot) → IsLastNoted slots (noted other at place ∷ earlier) id sector slot
newest_note slots earlier other at place id sector slot before true same is older =
    let here : ℕ × ℕ = (at, place) in
    let found : ℕ × ℕ = (sector, slot) in
    let both : here ≡ found = cc in
    record {
      since = [];
      earlier = earlier;
      noted_id = other;
      when = ap (λ p. noted other p.0 p.1 ∷ earlier) both;
      shares = eqb-true (cache_slot slots other) (cache_slot slots id) same;
      spared = All-nil (Spares slots id sector);
    }
newest_note slots earlier other at place id sector slot before false apart is older =
    still slots (noted other at place) earlier id sector slot
    (λ same. let both : true ≡ false = sym (eq-eqb (cache_slot slots other) (cache_slot slots id) same) ∙ apart in cc)
    (older is)

pub found_last : (slots : ℕ) (events : List Event) (id sector slot : ℕ) → 1 ≤ slots → place_of (cache_after slots events) id ≡ Some (sector, slot) → IsLastNoted slots events id sector slot
found_last slots [] id sector slot some found = absurd (let none : None ≡ Some (sector, slot) = sym (place_of-new slots id) ∙ found in cc)
found_last slots (noted other at place ∷ earlier) id sector slot some found =
    newest_note slots earlier other at place id sector slot (place_of (cache_after slots earlier) id)
    (eqb (cache_slot slots other) (cache_slot slots id)) refl (sym (place_of-noted slots earlier other at place id some) ∙ found)
    (λ is. found_last slots earlier id sector slot some is)
found_last slots (forgot gone ∷ earlier) id sector slot some found =
    let both = kept_outside gone (place_of (cache_after slots earlier) id) sector slot (sym (place_of-forgot slots earlier gone id) ∙ found) in
    still slots (forgot gone) earlier id sector slot both.1 (found_last slots earlier id sector slot some both.0)

-- a note whose place is still in the cache
pub last_found : (slots : ℕ) (since earlier : List Event) (other id sector slot : ℕ) → 1 ≤ slots → cache_slot slots other ≡ cache_slot slots id
    → All (Spares slots id sector) since → place_of (cache_after slots (since ++ noted other sector slot ∷ earlier)) id ≡ Some (sector, slot)
last_found slots [] earlier other id sector slot some shares spared =
    place_of-noted slots earlier other sector slot id some
    ∙ ap (λ b. cond b (Some (sector, slot)) (place_of (cache_after slots earlier) id)) (eq-eqb (cache_slot slots other) (cache_slot slots id) shares)
last_found slots (noted next at place ∷ since) earlier other id sector slot some shares spared =
    let events = since ++ noted other sector slot ∷ earlier in
    place_of-noted slots events next at place id some
    ∙ ap (λ b. cond b (Some (at, place)) (place_of (cache_after slots events) id))
    (ne_eqb (cache_slot slots next) (cache_slot slots id) (All-head (Spares slots id sector) (noted next at place) since spared))
    ∙ last_found slots since earlier other id sector slot some shares (All-tail (Spares slots id sector) (noted next at place) since spared)
last_found slots (forgot gone ∷ since) earlier other id sector slot some shares spared =
    let events = since ++ noted other sector slot ∷ earlier in
    place_of-forgot slots events gone id
    ∙ ap (without_sector gone) (last_found slots since earlier other id sector slot some shares (All-tail (Spares slots id sector) (forgot gone) since spared))
    ∙ ap (λ b. cond b None (Some (sector, slot)))
    (ne_eqb sector gone (λ same. All-head (Spares slots id sector) (forgot gone) since spared (sym same)))

pub last_noted : (slots : ℕ) (events : List Event) (id sector slot : ℕ) → 1 ≤ slots → IsLastNoted slots events id sector slot → place_of (cache_after slots events) id ≡ Some (sector, slot)
last_noted slots events id sector slot some last =
    ap (λ events'. place_of (cache_after slots events') id) last.when
    ∙ last_found slots last.since last.earlier last.noted_id id sector slot some last.shares last.spared
