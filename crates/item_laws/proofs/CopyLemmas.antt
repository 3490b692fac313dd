-- What the copies of a collection are, entry by entry, and what they cost.
use Rattle.std.proofs.Common.{◌≡◌, ℕ, ◌+◌, ◌-◌, ◌≤◌, Bool, true, false, not, cond, eqb, List, [], ◌∷◌, ◌++◌, length, map, Option, Some, None, refl, sym, ap, subst, ◌∙◌, inl, inr, arith}
use Rattle.std.specs.Option.{option_and_then, option_map}
use Rattle.std.specs.List.{filter, filter_map, flat_map, range_with_len, All}
use Rattle.std.proofs.lemmas.Bool.{ne_eqb, eq-eqb, not_from_false}
use Rattle.std.proofs.lemmas.List.{append-nil, map-append}
use Rattle.std.proofs.lemmas.List.Elements.{All-nil, All-head, All-tail, All-append, All-weaker, filter_map-append}
use Rattle.std.proofs.lemmas.List.Concat.{flat_map-append, flat_map-cons}
use Rattle.std.proofs.lemmas.List.Sums.{sum_by-append, sum_by_push}
use Rattle.item_laws.specs.LivePairs.{live_pairs}
use Rattle.flash_map.specs.Area.{sector_at}
use Rattle.item_laws.specs.Area.{next, round, counts_at, open_sector}
use Rattle.item_laws.specs.Forms.{Collecting, others, rest, pairs_at, to_copy}
use Rattle.item_laws.specs.PairRounds.{copies_cost}
use Rattle.item_laws.proofs.Lists.{counts-collecting}
use Rattle.item_laws.proofs.Places.{after, after-apart, range-append, range_one, filter_all, flat_map-agree, round-is, IsFar, split}
use Rattle.item_laws.proofs.RingSteps.{reads}
use Rattle.item_laws.specs.Entries.{Entries, AreEntries}
use Rattle.item_laws.specs.Live.{counted_in, all_placed, last_of, bytes_of, pair_of, is_at, is_live, live_in, live_to, cost_of}
use Rattle.item_laws.proofs.LastLemmas.{in_place, pairs_found}
use Rattle.item_laws.proofs.LiveLemmas.{option_cases, some_none, live-sector}
use Rattle.item_laws.proofs.LiveSum.{places_of}

-- one slot more

module _ {Entry Placed : Type 0} (k : Entries Entry Placed) (sectors : List (List ℕ)) (place n : ℕ) where
  to_more : live_to k sectors place (n + 1) ≡ live_to k sectors place n ++ map (pair_of k sectors) (filter_map (live_in k sectors place) ((n + k.first) ∷ []))
  to_more =
      let at : k.first + n ≡ n + k.first = omega arith in
      ap (λ (xs : List ℕ). map (pair_of k sectors) (filter_map (live_in k sectors place) xs)) (range-append k.first n 1 ∙ ap (λ (xs : List ℕ). range_with_len k.first n ++ xs) (range_one (k.first + n) ∙ ap (λ (j : ℕ). j ∷ []) at))
      ∙ ap (map (pair_of k sectors)) (filter_map-append (live_in k sectors place) (range_with_len k.first n) ((n + k.first) ∷ []))
      ∙ map-append (pair_of k sectors) (filter_map (live_in k sectors place) (range_with_len k.first n)) (filter_map (live_in k sectors place) ((n + k.first) ∷ []))

  pub to_none : live_in k sectors place (n + k.first) ≡ None → live_to k sectors place (n + 1) ≡ live_to k sectors place n
  to_none none = to_more ∙ (rw none (append-nil (live_to k sectors place n)))

  pub to_some : (p : Placed) → live_in k sectors place (n + k.first) ≡ Some p → live_to k sectors place (n + 1) ≡ live_to k sectors place n ++ pair_of k sectors p ∷ []
  to_some p some = to_more ∙ (rw some refl)

  -- fewer slots have no more
  pub to_less : (all : ℕ) → n ≤ all → copies_cost k.cost (live_to k sectors place n) ≤ copies_cost k.cost (live_to k sectors place all)
  to_less all le =
      let width : all ≡ n + (all - n) = omega arith in
      let later = map (pair_of k sectors) (filter_map (live_in k sectors place) (range_with_len (k.first + n) (all - n))) in
      let is : live_to k sectors place all ≡ live_to k sectors place n ++ later =
      ap (λ (m : ℕ). live_to k sectors place m) width
      ∙ ap (λ (xs : List ℕ). map (pair_of k sectors) (filter_map (live_in k sectors place) xs)) (range-append k.first n (all - n))
      ∙ ap (map (pair_of k sectors)) (filter_map-append (live_in k sectors place) (range_with_len k.first n) (range_with_len (k.first + n) (all - n)))
      ∙ map-append (pair_of k sectors) (filter_map (live_in k sectors place) (range_with_len k.first n)) (filter_map (live_in k sectors place) (range_with_len (k.first + n) (all - n))) in
      let costs : copies_cost k.cost (live_to k sectors place all) ≡ copies_cost k.cost (live_to k sectors place n) + copies_cost k.cost later =
      ap (copies_cost k.cost) is ∙ sum_by-append (λ (p : ℕ × List ℕ). k.cost (length p.1)) (live_to k sectors place n) later in
      omega arith

-- the list while a collection lasts

module _ {Entry Placed : Type 0} (k : Entries Entry Placed) (are : AreEntries k) (sectors : List (List ℕ)) (place : ℕ) (form : Collecting k.reading sectors place) where
  open_here : open_sector k.reading sectors ≡ place
  open_here = (reads k.reading sectors place (inr (inl form))).0

  counted : (j : ℕ) → counts_at k.reading sectors place j ≡ not (eqb j place)
  counted j = counts-collecting k.reading sectors place j form.ring form.not_done

  counts_else : (j : ℕ) → (j ≡ place → ⊥) → counts_at k.reading sectors place j ≡ true
  counts_else j apart = counted j ∙ not_from_false (eqb j place) (ne_eqb j place apart)

  abbrev found_in : ℕ → List Placed
  found_in j = map (k.placed_at j) (k.entries (sector_at sectors j))

  ignored : counted_in k sectors place place ≡ []
  ignored = ap (λ (t : Bool). cond t (found_in place) []) (counted place ∙ ap not (eq-eqb place place refl))

  shown : (j : ℕ) → (j ≡ place → ⊥) → counted_in k sectors place j ≡ map (k.placed_at j) (k.entries (sector_at sectors j))
  shown j apart = ap (λ (t : Bool). cond t (found_in j) []) (counts_else j apart)

  -- those of the victim, and then those of the other closed sectors
  abbrev later : List Placed
  later = flat_map (counted_in k sectors place) (rest (length sectors) place)

  all-collecting : all_placed k sectors ≡ map (k.placed_at (next sectors place)) (k.entries (sector_at sectors (next sectors place))) ++ later
  all-collecting =
      let ring = form.ring in
      let s = split (length sectors) place ring.within ring.several in
      ap (λ (j : ℕ). flat_map (counted_in k sectors j) (round (length sectors) j)) open_here
      ∙ ap (flat_map (counted_in k sectors place)) (round-is (length sectors) place)
      ∙ flat_map-append (counted_in k sectors place) (others (length sectors) place) (place ∷ [])
      ∙ ap (λ (xs : List Placed). flat_map (counted_in k sectors place) (others (length sectors) place) ++ xs) (append-nil (counted_in k sectors place place) ∙ ignored)
      ∙ append-nil (flat_map (counted_in k sectors place) (others (length sectors) place))
      ∙ ap (flat_map (counted_in k sectors place)) s.first
      ∙ flat_map-cons (counted_in k sectors place) (next sectors place) (rest (length sectors) place)
      ∙ ap (λ (xs : List Placed). xs ++ later) (shown (next sectors place) (after-apart (length sectors) place ring.within ring.several))

  later_from : (js : List ℕ) → All (IsFar (length sectors) place) js → All (λ g. k.sector g ≡ next sectors place → ⊥) (flat_map (counted_in k sectors place) js)
  later_from [] far = All-nil (λ (g : Placed). k.sector g ≡ next sectors place → ⊥)
  later_from (j ∷ js) far =
      let here = All-head (IsFar (length sectors) place) j js far in
      let own : All (λ g. k.sector g ≡ next sectors place → ⊥) (counted_in k sectors place j) =
      subst (λ (xs : List Placed). All (λ g. k.sector g ≡ next sectors place → ⊥) xs) (sym (shown j here.apart))
      (All-weaker (λ (g : Placed). k.sector g ≡ j) (λ (g : Placed). k.sector g ≡ next sectors place → ⊥) (λ g at (e : k.sector g ≡ next sectors place). here.not_after (sym at ∙ e)) (found_in j) (places_of k are j (k.entries (sector_at sectors j)))) in
      subst (λ (xs : List Placed). All (λ g. k.sector g ≡ next sectors place → ⊥) xs) (sym (flat_map-cons (counted_in k sectors place) j js))
      (All-append (λ (g : Placed). k.sector g ≡ next sectors place → ⊥) (counted_in k sectors place j) (flat_map (counted_in k sectors place) js) own (later_from js (All-tail (IsFar (length sectors) place) j js far)))

  later_pairs : flat_map (pairs_at k.reading sectors) (rest (length sectors) place) ≡ map (pair_of k sectors) later
  later_pairs =
      let ring = form.ring in
      let s = split (length sectors) place ring.within ring.several in
      let all : filter (counts_at k.reading sectors place) (rest (length sectors) place) ≡ rest (length sectors) place =
      filter_all (counts_at k.reading sectors place) (rest (length sectors) place) (All-weaker (IsFar (length sectors) place) (λ j. counts_at k.reading sectors place j ≡ true) (λ j h. counts_else j h.apart) (rest (length sectors) place) s.inside) in
      ap (flat_map (pairs_at k.reading sectors)) (sym all) ∙ pairs_found k are sectors place (rest (length sectors) place)

  -- The live entries of the victim are what a collection copies.
  pub copies-are : k.is_sound (sector_at sectors (next sectors place)) ≡ true → to_copy k.reading sectors place ≡ live_to k sectors (next sectors place) (k.slots (sector_at sectors (next sectors place)))
  copies-are sound =
      let ring = form.ring in
      let s = split (length sectors) place ring.within ring.several in
      ap (λ (ps : List (ℕ × List ℕ)). live_pairs ps (flat_map (pairs_at k.reading sectors) (rest (length sectors) place))) (in_place k are sectors (next sectors place))
      ∙ ap (live_pairs (map (pair_of k sectors) (found_in (next sectors place)))) later_pairs
      ∙ live-sector k are sectors (next sectors place) [] later sound all-collecting (later_from (rest (length sectors) place) s.inside)

-- what one entry costs

-- What a live entry of a slot says: it is the entry of the slot.
pub record IsLiveEntry {Entry Placed : Type 0} (k : Entries Entry Placed) (sectors : List (List ℕ)) (place slot : ℕ) (p : Placed) : Type 0 where
  pub entry : Entry
  pub is : p ≡ k.placed_at place entry
  pub read : k.in_slot (sector_at sectors place) slot ≡ Some entry
  pub sector : k.sector p ≡ place

module _ {Entry Placed : Type 0} (k : Entries Entry Placed) (are : AreEntries k) (sectors : List (List ℕ)) (place : ℕ) where
  pub live-entry : (slot : ℕ) (p : Placed) → live_in k sectors place slot ≡ Some p → IsLiveEntry k sectors place slot p
  live-entry slot p is =
      elim (option_cases (k.in_slot (sector_at sectors place) slot)) [
        | inl none ↦ absurd (some_none p (sym is ∙ ap (λ (o : Option Entry). option_and_then (λ f. cond (is_live k sectors f) (Some f) None) (option_map (k.placed_at place) o)) none))
        | inr (e, some) ↦
            let here : cond (is_live k sectors (k.placed_at place e)) (Some (k.placed_at place e)) None ≡ Some p = sym (ap (λ (o : Option Entry). option_and_then (λ f. cond (is_live k sectors f) (Some f) None) (option_map (k.placed_at place) o)) some) ∙ is in
            let same : p ≡ k.placed_at place e = one_entry (is_live k sectors (k.placed_at place e)) (k.placed_at place e) p here in
            record { entry = e; is = same; read = some; sector = ap k.sector same ∙ are.sector place e }
      ]
    where
      one_entry : (live : Bool) (f g : Placed) → cond live (Some f) None ≡ Some g → g ≡ f
      one_entry true f g e = cc
      one_entry false f g e = absurd (cc)

  -- its bytes are as long as those of the slot's entry in the sector
  pub entry-bytes : (slot : ℕ) (p : Placed) (live : IsLiveEntry k sectors place slot p) → length (k.bytes (sector_at sectors place) (k.placed_at place live.entry)) ≡ k.len (k.placed_at place live.entry) → length (bytes_of k sectors p) ≡ k.len p
  entry-bytes slot p live long =
      subst (λ (g : Placed). length (bytes_of k sectors g) ≡ k.len g) (sym live.is)
      (ap (λ (at : ℕ). length (k.bytes (sector_at sectors at) (k.placed_at place live.entry))) (are.sector place live.entry) ∙ long)

  -- What the slots up to this one cost, with this one.
  pub to_cost : (n : ℕ) → ((p : Placed) → live_in k sectors place (n + k.first) ≡ Some p → length (bytes_of k sectors p) ≡ k.len p) → copies_cost k.cost (live_to k sectors place (n + 1)) ≡ copies_cost k.cost (live_to k sectors place n) + cost_of k (live_in k sectors place (n + k.first))
  to_cost n long =
      elim (option_cases (live_in k sectors place (n + k.first))) [
        | inl none ↦
            let e : cost_of k (live_in k sectors place (n + k.first)) ≡ 0 = ap (cost_of k) none in
            let same = ap (copies_cost k.cost) (to_none k sectors place n none) in
            omega arith
        | inr (p, some) ↦
            let e : cost_of k (live_in k sectors place (n + k.first)) ≡ k.cost (k.len p) = ap (cost_of k) some in
            let own : k.cost (length (bytes_of k sectors p)) ≡ k.cost (k.len p) = ap k.cost (long p some) in
            let more : copies_cost k.cost (live_to k sectors place (n + 1)) ≡ copies_cost k.cost (live_to k sectors place n) + k.cost (length (bytes_of k sectors p)) =
            ap (copies_cost k.cost) (to_some k sectors place n p some) ∙ sum_by_push (λ (p : ℕ × List ℕ). k.cost (length p.1)) (live_to k sectors place n) (pair_of k sectors p) in
            omega arith
      ]

-- the victim's entries stay live while the open sector changes

module _ {Entry Placed : Type 0} (k : Entries Entry Placed) (are : AreEntries k) (old new : List (List ℕ)) (place : ℕ) (before : Collecting k.reading old place) (now : Collecting k.reading new place) (long : length new ≡ length old) (same : (j : ℕ) → (j ≡ place → ⊥) → sector_at new j ≡ sector_at old j) where
  next_same : next new place ≡ next old place
  next_same = ap (λ (n : ℕ). after n place) long

  later_same : later k are new place now ≡ later k are old place before
  later_same =
      let ring = before.ring in
      let s = split (length old) place ring.within ring.several in
      ap (λ (n : ℕ). flat_map (counted_in k new place) (rest n place)) long
      ∙ flat_map-agree (counted_in k new place) (counted_in k old place) (rest (length old) place)
      (All-weaker (IsFar (length old) place) (λ j. counted_in k new place j ≡ counted_in k old place j)
      (λ j h. shown k are new place now j h.apart ∙ ap (λ (b : List ℕ). map (k.placed_at j) (k.entries b)) (same j h.apart) ∙ sym (shown k are old place before j h.apart)) (rest (length old) place) s.inside)

  pub victim_same : sector_at new (next old place) ≡ sector_at old (next old place)
  victim_same = same (next old place) (after-apart (length old) place before.ring.within before.ring.several)

  pub all_same : all_placed k new ≡ all_placed k old
  all_same =
      all-collecting k are new place now
      ∙ ap (λ (j : ℕ). map (k.placed_at j) (k.entries (sector_at new j)) ++ later k are new place now) next_same
      ∙ ap (λ (b : List ℕ). map (k.placed_at (next old place)) (k.entries b) ++ later k are new place now) victim_same
      ∙ ap (λ (xs : List Placed). map (k.placed_at (next old place)) (k.entries (sector_at old (next old place))) ++ xs) later_same
      ∙ sym (all-collecting k are old place before)

  pub live_same : (slot : ℕ) → live_in k new (next old place) slot ≡ live_in k old (next old place) slot
  live_same slot =
      ap (λ (b : List ℕ). option_and_then (λ f. cond (is_live k new f) (Some f) None) (option_map (k.placed_at (next old place)) (k.in_slot b slot))) victim_same
      ∙ ap (λ (xs : List Placed). option_and_then (λ f. cond (is_at k f (last_of k (k.id f) xs)) (Some f) None) (option_map (k.placed_at (next old place)) (k.in_slot (sector_at old (next old place)) slot))) all_same

  pub bytes_same : (p : Placed) → k.sector p ≡ next old place → bytes_of k new p ≡ bytes_of k old p
  bytes_same p at =
      ap (λ (j : ℕ). k.bytes (sector_at new j) p) at
      ∙ ap (λ (b : List ℕ). k.bytes b p) victim_same
      ∙ sym (ap (λ (j : ℕ). k.bytes (sector_at old j) p) at)
