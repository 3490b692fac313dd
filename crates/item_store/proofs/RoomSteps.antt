-- Rounds one after the other: what they keep, what they make of the parts, and when none of them finds room.
use Rattle.std.proofs.Common.{◌≡◌, ℕ, ◌+◌, ◌<◌, ◌≤◌, true, false, leb, List, [], ◌∷◌, ◌++◌, length, map, Option, Some, None, refl, sym, ap, subst, ◌∙◌, inl, inr, arith}
use Rattle.std.specs.Prelude.{fold}
use Rattle.std.specs.List.{flat_map}
use Rattle.std.proofs.lemmas.Bool.{false≢true, cases_Bool, cases_eq, leb-false}
use Rattle.std.proofs.lemmas.List.Sums.{fold_push}
use Rattle.flash_map.specs.Area.{sector_at}
use Rattle.item_laws.specs.LivePairs.{live_pairs}
use Rattle.item_laws.specs.PairRounds.{copies_cost, joined, live_cost, collect_oldest, FindsNoRoom}
use Rattle.item_laws.specs.Area.{next, open_sector, area_pairs}
use Rattle.item_laws.specs.Forms.{AtRest, pairs_at, rest, to_copy}
use Rattle.item_laws.specs.Reading.{Reading}
use Rattle.item_laws.specs.Rounds.{parts}
use Rattle.item_laws.proofs.Collects.{next_blank}
use Rattle.item_laws.proofs.LiveCost.{live-le}
use Rattle.item_laws.proofs.Places.{after-within}
use Rattle.item_laws.proofs.RingSteps.{reads}
use Rattle.item_laws.proofs.Rounding.{oldest-is, round-live, no_round, round_more}
use Rattle.item_store.specs.SectorFormat.{SectorFormat, IsSectorFormat, fits}
use Rattle.item_store.specs.Collecting.{DoesPassAt}
use Rattle.item_store.specs.Room.{has_room, parts_of, collected, newest, leaves_room, Rounds}
use Rattle.item_store.specs.Spending.{none, round_units}
use Rattle.item_store.specs.Standing.{list_of, KeepsItems}
use Rattle.item_store.proofs.Ranges.{round-lost}
use Rattle.item_store.proofs.Areas.{form_undamaged, keeps_none, keeps-by, keeps_then}
use Rattle.item_store.proofs.RoundSteps.{unused-room}
use Rattle.item_store.proofs.VersionSteps.{pass_done-versions}

end_same : (xs ys : List (List (ℕ × List ℕ))) (x y : List (ℕ × List ℕ)) → xs ++ x ∷ [] ≡ ys ++ y ∷ [] → x ≡ y
end_same xs ys x y e =
    let f : Option (List (ℕ × List ℕ)) → List (ℕ × List ℕ) → Option (List (ℕ × List ℕ)) = λ (o : Option (List (ℕ × List ℕ))) (z : List (ℕ × List ℕ)). Some z in
    let both : Some x ≡ Some y = sym (fold_push f None xs x) ∙ ap (fold f None) e ∙ fold_push f None ys y in
    cc

newest-is : (xs : List (List (ℕ × List ℕ))) (x : List (ℕ × List ℕ)) → newest (xs ++ x ∷ []) ≡ x
newest-is xs x = fold_push (λ (older part : List (ℕ × List ℕ)). part) [] xs x

some_none : {X : Type 0} (x : X) (xs : List X) → x ∷ xs ≡ [] → ⊥
some_none x xs e = cc

module _ (k : SectorFormat) (law : IsSectorFormat k) (size len : ℕ) where
  abbrev R : Reading
  R = k.reading

  -- the sector that is open after a round
  pub pass_done : (mid new : List (List ℕ)) → DoesPassAt k size mid new (open_sector k.reading mid) → open_sector k.reading new ≡ next mid (open_sector k.reading mid)
  pass_done mid new does_pass = (reads R new (next mid (open_sector R mid)) (inl does_pass.round.form)).0

  pub rounds-rest : (old : List (List ℕ)) (before : List (List (List ℕ))) (new : List (List ℕ)) → AtRest k.reading old (open_sector k.reading old) → Rounds k size len old before new → AtRest k.reading new (open_sector k.reading new)
  rounds-rest old [] new form same = subst (λ (s : List (List ℕ)). AtRest R s (open_sector R s)) (sym same) form
  rounds-rest old (mid ∷ before) new form did = subst (λ (p : ℕ). AtRest R new p) (sym (pass_done mid new did.2)) did.2.round.form

  -- each takes the oldest part away
  pub rounds-parts : (old : List (List ℕ)) (before : List (List (List ℕ))) (new : List (List ℕ)) → Rounds k size len old before new → parts_of k new ≡ collected (length before) (parts_of k old)
  rounds-parts old [] new same = ap (parts_of k) same
  rounds-parts old (mid ∷ before) new did = ap (λ (p : ℕ). parts R new p) (pass_done mid new did.2) ∙ did.2.round.parts ∙ ap collect_oldest (rounds-parts old before mid did.0)

  -- what all live items cost stays
  pub rounds-live : (old : List (List ℕ)) (before : List (List (List ℕ))) (new : List (List ℕ)) → AtRest k.reading old (open_sector k.reading old) → Rounds k size len old before new → live_cost k.cost (list_of k new) ≡ live_cost k.cost (list_of k old)
  rounds-live old [] new form same = ap (λ (s : List (List ℕ)). live_cost k.cost (list_of k s)) same
  rounds-live old (mid ∷ before) new form did =
      ap (λ (p : ℕ). live_cost k.cost (area_pairs R new p)) (pass_done mid new did.2)
      ∙ round-live R law.reads k.cost mid (open_sector R mid) new (rounds-rest old before mid form did.0) did.2.round
      ∙ rounds-live old before mid form did.0

  -- and so do the items
  pub rounds-items : (old : List (List ℕ)) (before : List (List (List ℕ))) (new : List (List ℕ)) → AtRest k.reading old (open_sector k.reading old) → Rounds k size len old before new → KeepsItems k old new
  rounds-items old [] new form same =
      subst (λ (s : List (List ℕ)). KeepsItems k old s) (sym same) (keeps_none k old (form_undamaged k law old (open_sector R old) (inl form)).1)
  rounds-items old (mid ∷ before) new form did =
      let there = rounds-rest old before mid form did.0 in
      keeps_then k law old mid new (rounds-items old before mid form did.0)
      (keeps-by k law mid new (open_sector R mid) (next mid (open_sector R mid)) (inl there) (inl did.2.round.form) (pass_done-versions R mid new (open_sector R mid) law.reads there did.2.round))

  -- where it had room at first, there was no round
  pub rounds-none : (old : List (List ℕ)) (before : List (List (List ℕ))) (new : List (List ℕ)) → has_room k old len ≡ true → Rounds k size len old before new → before ≡ []
  rounds-none old [] new fitting same = refl
  rounds-none old (mid ∷ []) new fitting did = absurd (false≢true (sym did.1 ∙ ap (λ (s : List (List ℕ)). has_room k s len) did.0 ∙ fitting))
  rounds-none old (mid ∷ (one ∷ before)) new fitting did = absurd (some_none one before (rounds-none old (one ∷ before) mid fitting did.0))

  -- after a round there is room by what is in the newest part
  last_room : (old : List (List ℕ)) (mid : List (List ℕ)) (before : List (List (List ℕ))) (new : List (List ℕ)) → 0 < len → Rounds k size len old (mid ∷ before) new
      → has_room k new len ≡ leaves_room k size len (parts_of k old) (length (mid ∷ before))
  last_room old mid before new some did =
      let does_pass = did.2 in
      let place = next mid (open_sector R mid) in
      let at : open_sector R new ≡ next mid (open_sector R mid) = pass_done mid new did.2 in
      let part : newest (parts_of k new) ≡ pairs_at R new (next mid (open_sector R mid)) =
      newest-is (map (pairs_at R new) (rest (length new) (open_sector R new))) (pairs_at R new (open_sector R new)) ∙ ap (pairs_at R new) at in
      ap (λ (p : ℕ). fits k (sector_at new p) len) at ∙ does_pass.room len some
      ∙ ap (λ (ps : List (ℕ × List ℕ)). leb (copies_cost k.cost ps + k.cost len) (k.cap size)) (sym part)
      ∙ ap (λ (ps : List (List (ℕ × List ℕ))). leb (copies_cost k.cost (newest ps) + k.cost len) (k.cap size)) (rounds-parts old (mid ∷ before) new did)

  pub rounds-exact : (old : List (List ℕ)) (before : List (List (List ℕ))) (new : List (List ℕ)) → 0 < len → 0 < length before → Rounds k size len old before new → has_room k new len ≡ leaves_room k size len (parts_of k old) (length before)
  rounds-exact old [] new some any did = absurd (omega arith)
  rounds-exact old (mid ∷ before) new some any did = last_room old mid before new some did

  -- before the last of them there was none
  pub rounds-least : (old : List (List ℕ)) (before : List (List (List ℕ))) (new : List (List ℕ)) → 0 < len → Rounds k size len old before new → (n : ℕ) → 0 < n → n < length before → leaves_room k size len (parts_of k old) n ≡ false
  rounds-least old [] new some did n one less = absurd (omega arith)
  rounds-least old (mid ∷ before) new some did n one less =
      elim (cases_eq n (length before)) [
        | inr other ↦ rounds-least old before mid some did.0 n one (omega (arith, other))
        | inl same ↦ ap (leaves_room k size len (parts_of k old)) same ∙ sym (rounds-exact old before mid some (omega arith) did.0) ∙ did.1
      ]

  -- rounds after which there is no room yet
  pub rounds-full : (old : List (List ℕ)) (before : List (List (List ℕ))) (new : List (List ℕ)) → 0 < len → k.cost len ≤ k.cap size → length before ≤ length (parts_of k old) → Rounds k size len old before new → has_room k new len ≡ false
      → FindsNoRoom k.cost (k.cost len) (k.cap size) (parts_of k old) (parts_of k new) (length before)
  rounds-full old [] new some short few same unfit =
      subst (λ (s : List (List ℕ)). FindsNoRoom k.cost (k.cost len) (k.cap size) (parts_of k old) (parts_of k s) 0) (sym same) (no_round k.cost (k.cost len) (k.cap size) (parts_of k old))
  rounds-full old (mid ∷ before) new some short few did unfit =
      let place = open_sector R mid in
      let does_pass = did.2 in
      let at : open_sector R new ≡ next mid (open_sector R mid) = pass_done mid new did.2 in
      let there : fits k (sector_at new (next mid (open_sector R mid))) len ≡ false = ap (λ (p : ℕ). fits k (sector_at new p) len) (sym at) ∙ unfit in
      let bound : k.cap size < copies_cost k.cost (pairs_at R new (next mid (open_sector R mid))) + k.cost len =
      leb-false (copies_cost k.cost (pairs_at R new (next mid (open_sector R mid))) + k.cost len) (k.cap size) (sym (does_pass.room len some) ∙ there) in
      let one_less : length before < length (parts_of k old) = omega arith in
      let finds : FindsNoRoom k.cost (k.cost len) (k.cap size) (parts_of k old) (collect_oldest (parts_of k mid)) (length before + 1) =
      round_more k.cost (k.cost len) (k.cap size) (parts_of k old) (parts_of k mid) (length before) (rounds-full old before mid some short (omega arith) did.0 did.1) one_less
      (λ victim others are.
      let ends : map (pairs_at R new) (rest (length new) (next mid (open_sector R mid))) ++ pairs_at R new (next mid (open_sector R mid)) ∷ [] ≡ others ++ live_pairs victim (joined others) ∷ [] =
      does_pass.round.parts ∙ ap collect_oldest are ∙ oldest-is victim others in
      let newest : pairs_at R new (next mid (open_sector R mid)) ≡ live_pairs victim (joined others) = end_same (map (pairs_at R new) (rest (length new) (next mid (open_sector R mid)))) others (pairs_at R new (next mid (open_sector R mid))) (live_pairs victim (joined others)) ends in
      subst (λ (ps : List (ℕ × List ℕ)). k.cap size < copies_cost k.cost ps + k.cost len) newest bound) in
      let are : collect_oldest (parts_of k mid) ≡ parts_of k new = sym (ap (λ (p : ℕ). parts R new p) at ∙ does_pass.round.parts) in
      let count : length before + 1 ≡ length (mid ∷ before) = omega arith in
      subst (λ (n : ℕ). FindsNoRoom k.cost (k.cost len) (k.cap size) (parts_of k old) (parts_of k new) n) count
      (subst (λ (ps : List (List (ℕ × List ℕ))). FindsNoRoom k.cost (k.cost len) (k.cap size) (parts_of k old) ps (length before + 1)) are finds)

  -- where something does not fit that a sector may hold, or a delete, the sector is not clean
  pub used_by : (b : List ℕ) → 512 ≤ size → length b ≡ size → (0 < len → k.cost len ≤ k.cap size) → fits k b len ≡ false → k.is_clean b ≡ false
  used_by b large long short no_room =
      elim (cases_Bool (k.is_clean b)) [
        | inr used ↦ used
        | inl clean ↦
            let any = unused-room k law b size large long clean in
            elim (cases_eq len 0) [
              | inl none ↦ absurd (false≢true (sym no_room ∙ ap (fits k b) none ∙ any.delete))
              | inr some ↦
                  let positive : 0 < len = omega (arith, some) in
                  let over : k.cap size < 0 + k.cost len = leb-false (0 + k.cost len) (k.cap size) (sym (any.room len positive) ∙ no_room) in
                  let le = short positive in
                  absurd (omega arith)
            ]
      ]

  -- what a round spends at most, whole or cut
  pub round-le : (sectors : List (List ℕ)) (place : ℕ) → 512 ≤ size → ((j : ℕ) → j < length sectors → length (sector_at sectors j) ≡ size) → AtRest k.reading sectors place → (round_units k sectors place).lost ≤ k.units.round size
  round-le sectors place large widths form =
      let ring = form.ring in
      let opened = next sectors place in
      let q_in = after-within (length sectors) place ring.within in
      let victim = next sectors (next sectors place) in
      let v_in = after-within (length sectors) (next sectors place) q_in in
      let long : length (sector_at sectors (next sectors (next sectors place))) ≡ size = widths victim v_in in
      let live = live-le k.cost (pairs_at R sectors victim) (flat_map (pairs_at R sectors) (rest (length sectors) opened)) in
      let costs = law.costs (sector_at sectors (next sectors (next sectors place))) (omega arith) (form.sound victim v_in) in
      let cap : k.cap (length (sector_at sectors (next sectors (next sectors place)))) ≡ k.cap size = ap k.cap long in
      let small : copies_cost k.cost (to_copy R sectors (next sectors place)) ≤ k.cap size = omega arith in
      let all = law.round size (sector_at sectors place) (sector_at sectors (next sectors place)) (to_copy R sectors (next sectors place)) large (widths place ring.within) (next_blank R sectors place form) small in
      let parts = round-lost k law sectors place in
      omega arith
