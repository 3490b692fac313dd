-- An area all of whose sectors are blank is at rest, shows no damage, and its list is empty.
use Rattle.std.proofs.Common.{◌≡◌, ℕ, ◌+◌, ◌-◌, ◌<◌, ◌≤◌, zero, suc, Bool, true, not, ◌&&◌, ◌||◌, List, [], ◌++◌, length, None, refl, sym, ap, subst, ◌∙◌, inl, inr, arith}
use Rattle.std.specs.List.{flat_map, range_with_len}
use Rattle.std.proofs.lemmas.Bool.{le-ltb}
use Rattle.std.proofs.lemmas.List.Concat.{flat_map-append}
use Rattle.flash_map.specs.Area.{sector_at}
use Rattle.item_laws.specs.Area.{is_blank_at, open_sector, area_pairs, first_damage}
use Rattle.item_laws.specs.Forms.{distance, AtRest, others, pairs_at}
use Rattle.item_laws.specs.Reading.{Reading, IsReading}
use Rattle.item_laws.proofs.Lists.{list-at_rest}
use Rattle.item_laws.proofs.Places.{distance-up}
use Rattle.item_laws.proofs.RingSteps.{reads}

none-hold : (f : ℕ → List (ℕ × List ℕ)) (a n : ℕ) → ((k : ℕ) → k < a + n → f k ≡ []) → flat_map f (range_with_len a n) ≡ []
none-hold f a zero each = refl
none-hold f a (suc n) each = ap (λ (l : List (ℕ × List ℕ)). l ++ flat_map f (range_with_len (a + 1) n)) (each a (omega arith)) ∙ none-hold f (a + 1) n (λ k lt. each k (omega arith))

module _ (reading : Reading) (lawful : IsReading reading) (sectors : List (List ℕ)) (several : 2 ≤ length sectors) (blank : (k : ℕ) → k < length sectors → is_blank_at reading sectors k ≡ true) where
  first_rests : AtRest reading sectors 0
  first_rests = record {
    blanks = length sectors - 1;
    ring = record {
      several = several;
      within = omega arith;
      spare = omega arith;
      closed = λ k lt.
          let far = distance-up (length sectors) 0 k (omega arith) in
          lawful.closed (sector_at sectors k) (blank k lt) ∙ sym (le-ltb (length sectors - 1) (distance (length sectors) 0 k) (omega arith));
      blank = λ k lt apart near. blank k lt;
      started = λ all. inr refl;
    };
    some = omega arith;
    sound = λ k lt. ap (λ (b : Bool). b || (reading.has_fence (sector_at sectors k) && not (reading.is_overfull (sector_at sectors k)))) (blank k lt);
  }

  -- its first sector is the open one
  pub blank-open : open_sector reading sectors ≡ 0
  blank-open = (reads reading sectors 0 (inl first_rests)).0

  pub blank-rests : AtRest reading sectors (open_sector reading sectors)
  blank-rests = subst (λ (place : ℕ). AtRest reading sectors place) (sym blank-open) first_rests

  pub blank-undamaged : first_damage reading sectors ≡ None
  blank-undamaged = (reads reading sectors 0 (inl first_rests)).1

  pub blank-empty : area_pairs reading sectors (open_sector reading sectors) ≡ []
  blank-empty =
      let rest : AtRest reading sectors 0 = first_rests in
      let hold = λ (k : ℕ) (lt : k < length sectors). lawful.pairs (sector_at sectors k) (blank k lt) in
      ap (area_pairs reading sectors) blank-open
      ∙ list-at_rest reading sectors 0 rest.blanks rest.ring rest.some
      ∙ ap (λ (l : List (ℕ × List ℕ)). flat_map (pairs_at reading sectors) (others (length sectors) 0) ++ l) (hold 0 (omega arith))
      ∙ ap (λ (l : List (ℕ × List ℕ)). l ++ [])
      (flat_map-append (pairs_at reading sectors) (range_with_len (0 + 1) (length sectors - (0 + 1))) (range_with_len 0 0)
      ∙ ap (λ (l : List (ℕ × List ℕ)). l ++ []) (none-hold (pairs_at reading sectors) (0 + 1) (length sectors - (0 + 1)) (λ k lt. hold k (omega arith))))
