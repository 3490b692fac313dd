-- A whole round of close and collect, and the room that it leaves.
use Rattle.std.proofs.Common.{◌≡◌, ℕ, ◌+◌, ◌*◌, ◌<◌, ◌≤◌, Bool, true, false, not, ◌||◌, cond, eqb, leb, List, [], ◌∷◌, ◌++◌, length, map, refl, sym, ap, subst, ◌∙◌, inl, inr, ◌⊎◌, arith}
use Rattle.std.specs.List.{flat_map, All}
use Rattle.std.proofs.lemmas.Bool.{false≢true, cases_Bool, cases_eq, cond-true, cond-false, eq-eqb, ne_eqb, leb-true, le-leb, ltb-false, not_from_true, not_from_false}
use Rattle.std.proofs.lemmas.List.Elements.{All-nil, All-cons}
use Rattle.flash_map.specs.Area.{sector_at, ChangesOnly}
use Rattle.item_laws.specs.Items.{last}
use Rattle.item_laws.specs.LivePairs.{live_pairs}
use Rattle.item_laws.specs.Area.{next, area_pairs, is_blank_at, is_closed_at}
use Rattle.item_laws.specs.Forms.{distance, AtRest, Collecting, IsForm, pairs_at, rest, to_copy}
use Rattle.item_laws.specs.Reading.{Reading, is_sound}
use Rattle.item_laws.specs.PairRounds.{copies_cost}
use Rattle.item_laws.specs.Rounds.{parts, Collects, IsRound}
use Rattle.item_laws.proofs.Collects.{close, next_blank, blank-sound}
use Rattle.item_laws.proofs.Parts.{map_agree}
use Rattle.item_laws.proofs.RingSteps.{reads}
use Rattle.item_laws.proofs.Places.{after, after-within, after-apart, flat_map-agree}
use Rattle.item_laws.proofs.Rings.{open-not_closed, next-closed}
use Rattle.item_laws.proofs.Rounding.{round_blank, round_collected}
use Rattle.item_store.specs.SectorFormat.{Range, SectorFormat, IsSectorFormat, making_ready, fits}
use Rattle.item_store.specs.Steps.{Keeps, Closes, Clears, StopsClearing}
use Rattle.item_store.specs.Spending.{none, both, copies, victim_units, collect_units, ready_units, again_with, again_units, open_units, has_victim, round_clear}
use Rattle.item_store.specs.Standing.{KeepsItems}
use Rattle.item_store.specs.Collecting.{HasOpened, EmptiesVictim, CollectsAt, DoesPassAt}
use Rattle.item_store.proofs.VersionLemmas.{keeps_all}
use Rattle.item_store.proofs.Areas.{keeps-by, keeps_list, only_length, only_else, copied-le}
use Rattle.item_store.proofs.CollectSteps.{rest_closed}
use Rattle.item_store.proofs.PutSteps.{HasNotPut, has_not_put}
use Rattle.item_store.proofs.WrittenSteps.{closed-used}

-- two comparisons that come to the same
leb-same : (a b c d : ℕ) → (a ≤ b → c ≤ d) → (c ≤ d → a ≤ b) → leb a b ≡ leb c d
leb-same a b c d there back =
    elim (cases_Bool (leb a b)) [
      | inl yes_first ↦ yes_first ∙ sym (le-leb c d (there (leb-true a b yes_first)))
      | inr no_first ↦
          elim (cases_Bool (leb c d)) [
            | inl second ↦ absurd (false≢true (sym no_first ∙ le-leb a b (back (leb-true c d second))))
            | inr no_second ↦ no_first ∙ sym no_second
          ]
    ]

module _ (k : SectorFormat) (law : IsSectorFormat k) where
  abbrev R : Reading
  R = k.reading

  -- What fits.

  -- a value, in a sector with so many slots to spare
  fits-is : (b : List ℕ) (len spare : ℕ) → 0 < len → cond (k.reading.has_gc_done b) 2 3 * k.slot ≡ spare → fits k b len ≡ leb (k.cost len + spare) (k.free b)
  fits-is b len spare some is =
      cond-false (eqb len 0) (leb (2 * k.slot) (k.free b)) (leb (k.cost len + cond (k.reading.has_gc_done b) 2 3 * k.slot) (k.free b)) (ne_eqb len 0 (λ (z : len ≡ 0). omega arith))
      ∙ ap (λ (n : ℕ). leb (k.cost len + n) (k.free b)) is

  pub record HasRoomBy (b : List ℕ) (size used : ℕ) : Type 0 where
    pub room : (len : ℕ) → 0 < len → fits k b len ≡ leb (used + k.cost len) (k.cap size)
    pub delete : fits k b 0 ≡ true

  -- in a clean sector all fits that costs no more than the capacity
  pub unused-room : (b : List ℕ) (size : ℕ) → 512 ≤ size → length b ≡ size → k.is_clean b ≡ true → HasRoomBy b size 0
  unused-room b size large long clean =
      let blank = law.clean b clean in
      let free = law.room b (omega arith) clean in
      let cap : k.cap (length b) ≡ k.cap size = ap k.cap long in
      let unmarked : k.reading.has_gc_done b ≡ false = law.reads.gc_done b blank in
      let three : cond (k.reading.has_gc_done b) 2 3 * k.slot ≡ 3 * k.slot = ap (λ (t : Bool). cond t 2 3 * k.slot) unmarked in
      record {
        room = λ len some. fits-is b len (3 * k.slot) some three ∙ leb-same (k.cost len + 3 * k.slot) (k.free b) (0 + k.cost len) (k.cap size) (λ le. omega arith) (λ le. omega arith);
        delete = le-leb (2 * k.slot) (k.free b) (omega arith);
      }

  -- after a collection the copies alone are in the way
  pub collected-room : (b : List ℕ) (size used : ℕ) → k.reading.has_gc_done b ≡ true → k.free b + used ≡ k.cap size + 2 * k.slot → used ≤ k.cap size → HasRoomBy b size used
  collected-room b size used done room small_used =
      let two : cond (k.reading.has_gc_done b) 2 3 * k.slot ≡ 2 * k.slot = ap (λ (t : Bool). cond t 2 3 * k.slot) done in
      record {
        room = λ len some. fits-is b len (2 * k.slot) some two ∙ leb-same (k.cost len + 2 * k.slot) (k.free b) (used + k.cost len) (k.cap size) (λ le. omega arith) (λ le. omega arith);
        delete = le-leb (2 * k.slot) (k.free b) (omega arith);
      }

  -- an open sector with gc-done takes entries
  marked-ready : (sectors : List (List ℕ)) (place : ℕ) → AtRest k.reading sectors place → k.reading.has_gc_done (sector_at sectors place) ≡ true → 512 ≤ length (sector_at sectors place) → k.is_ready (sector_at sectors place) ≡ true
  marked-ready sectors place form done large =
      let b = sector_at sectors place in
      law.used (sector_at sectors place) large (form.sound place form.ring.within)
      (elim (cases_Bool (k.is_clean b)) [
        | inl clean ↦ absurd (false≢true (sym (law.reads.gc_done b (law.clean b clean)) ∙ done))
        | inr used ↦ used
      ])
      (open-not_closed R sectors place form.blanks form.ring)

  -- A step at rest that keeps the list.
  pub rest-keeps : (old new : List (List ℕ)) (place : ℕ) → AtRest k.reading old place → ChangesOnly old new place → Keeps k (sector_at old place) (sector_at new place) → HasNotPut k old new place
  rest-keeps old new place form only keeps = has_not_put k law old new place form only keeps.list keeps.used (keeps.sound (form.sound place form.ring.within))

  -- one that leaves no entry in an open sector with none
  pub rest-blank : (old new : List (List ℕ)) (place : ℕ) → AtRest k.reading old place → k.reading.is_blank (sector_at old place) ≡ true → ChangesOnly old new place → k.reading.is_blank (sector_at new place) ≡ true → HasNotPut k old new place
  rest-blank old new place form before only after =
      has_not_put k law old new place form only
      (record {
        list = law.reads.pairs (sector_at new place) after ∙ sym (law.reads.pairs (sector_at old place) before);
        gc_done = law.reads.gc_done (sector_at new place) after ∙ sym (law.reads.gc_done (sector_at old place) before);
        closed = law.reads.closed (sector_at new place) after ∙ sym (law.reads.closed (sector_at old place) before);
      })
      (λ used. absurd (false≢true (sym used ∙ before))) (blank-sound R (sector_at new place) after)

  -- An open sector with no entry was made ready, as where sectors are as soon as they open, and that was cut.
  pub ready_cut : (old new : List (List ℕ)) (place : ℕ) → AtRest k.reading old place → k.opens_ready ≡ true → k.reading.is_blank (sector_at old place) ≡ true → ChangesOnly old new place
      → Keeps k (sector_at old place) (sector_at new place) ⊎ StopsClearing k (sector_at old place) (sector_at new place) → HasNotPut k old new place
  ready_cut old new place form opens before only lost =
      elim lost [
        | inl keeps ↦ rest-keeps old new place form only keeps
        | inr stops ↦
            elim (stops.opens opens) [
              | inl same ↦ rest-blank old new place form before only (ap R.is_blank same ∙ before)
              | inr clean ↦ rest-blank old new place form before only (law.clean (sector_at new place) clean)
            ]
      ]

  pub not_put-keeps : (old new : List (List ℕ)) (place : ℕ) → HasNotPut k old new place → KeepsItems k old new
  not_put-keeps old new place has = keeps_list k old new has.list has.undamaged

  -- At rest, with an open sector in use, a round has a victim where the sector after the next one is not blank.
  pub victim-blank : (sectors : List (List ℕ)) (place : ℕ) → AtRest k.reading sectors place → is_blank_at k.reading sectors place ≡ false → has_victim k sectors place ≡ not (is_blank_at k.reading sectors (next sectors (next sectors place)))
  victim-blank sectors place form used =
      let ring = form.ring in
      let inside = after-within (length sectors) (next sectors place) (after-within (length sectors) place ring.within) in
      elim (cases_eq (next sectors (next sectors place)) place) [
        | inl e ↦
            ap (λ (t : Bool). t || is_closed_at R sectors (next sectors (next sectors place))) (eq-eqb (next sectors (next sectors place)) place e)
            ∙ sym (not_from_false (is_blank_at R sectors (next sectors (next sectors place))) (ap (is_blank_at R sectors) e ∙ used))
        | inr apart ↦
            ap (λ (t : Bool). t || is_closed_at R sectors (next sectors (next sectors place))) (ne_eqb (next sectors (next sectors place)) place apart)
            ∙ elim (cases_Bool (is_closed_at R sectors (next sectors (next sectors place)))) [
              | inl shut ↦ shut ∙ sym (not_from_false (is_blank_at R sectors (next sectors (next sectors place))) (closed-used k law (sector_at sectors (next sectors (next sectors place))) shut))
              | inr free ↦
                  let near = ltb-false form.blanks (distance (length sectors) place (next sectors (next sectors place))) (sym (ring.closed (next sectors (next sectors place)) inside) ∙ free) in
                  free ∙ sym (not_from_true (is_blank_at R sectors (next sectors (next sectors place))) (ring.blank (next sectors (next sectors place)) inside apart near))
            ]
      ]

  -- Closing.

  module _ (old mid : List (List ℕ)) (place : ℕ) (form : AtRest k.reading old place) (only : ChangesOnly old mid place) (closes : Closes k (sector_at old place) (sector_at mid place)) where
    within : place < length old
    within = form.ring.within

    sound : is_sound R (sector_at mid place) ≡ true
    sound = closes.sound (form.sound place within)

    other : next old place ≡ place → ⊥
    other = after-apart (length old) place within form.ring.several

    pub closed-form : AtRest k.reading mid (next old place) ⊎ Collecting k.reading mid (next old place)
    closed-form =
        let step = close R law.reads old place (sector_at mid place) form closes.list sound in
        subst (λ (s : List (List ℕ)). AtRest R s (next old place) ⊎ Collecting R s (next old place)) (sym only) step.0

    pub closed-list : area_pairs k.reading mid (next old place) ≡ area_pairs k.reading old place
    closed-list =
        let step = close R law.reads old place (sector_at mid place) form closes.list sound in
        ap (λ (s : List (List ℕ)). area_pairs R s (next old place)) only ∙ step.1

    pub closed-is : IsForm k.reading mid (next old place)
    closed-is = elim closed-form [ inl rested ↦ inl rested | inr collecting ↦ inr (inl collecting) ]

    pub closed-keeps : KeepsItems k old mid
    closed-keeps = keeps-by k law old mid place (next old place) (inl form) closed-is (keeps_all (area_pairs R old place) (area_pairs R mid (next old place)) closed-list)

    pub opened-same : sector_at mid (next old place) ≡ sector_at old (next old place)
    opened-same = only_else old mid place (next old place) only other

    pub opened-unused : k.reading.is_blank (sector_at mid (next old place)) ≡ true
    opened-unused = ap R.is_blank opened-same ∙ next_blank R old place form

    closed-length : (j : ℕ) → length (sector_at mid j) ≡ length (sector_at old j)
    closed-length j =
        elim (cases_eq j place) [
          | inl e ↦ ap (λ (i : ℕ). length (sector_at mid i)) e ∙ closes.long ∙ ap (λ (i : ℕ). length (sector_at old i)) (sym e)
          | inr apart ↦ ap length (only_else old mid place j only apart)
        ]

    long : length mid ≡ length old
    long = only_length old mid place only

    same_next : next mid (next old place) ≡ next old (next old place)
    same_next = ap (λ (n : ℕ). after n (next old place)) long

    -- whether there is a victim shows once the open sector is closed
    pub victim-is : has_victim k old place ≡ is_closed_at k.reading mid (next mid (next old place))
    victim-is =
        let there : is_closed_at R mid (next mid (next old place)) ≡ is_closed_at R mid (next old (next old place)) = ap (is_closed_at R mid) same_next in
        elim (cases_eq (next old (next old place)) place) [
          | inl e ↦
              ap (λ (t : Bool). t || is_closed_at R old (next old (next old place))) (eq-eqb (next old (next old place)) place e)
              ∙ sym (there ∙ ap (is_closed_at R mid) e ∙ closes.list.closed)
          | inr apart ↦
              ap (λ (t : Bool). t || is_closed_at R old (next old (next old place))) (ne_eqb (next old (next old place)) place apart)
              ∙ ap R.is_closed (sym (only_else old mid place (next old (next old place)) only apart)) ∙ sym there
        ]

    -- the round

    empties-round : (new : List (List ℕ)) → EmptiesVictim k mid new (next old place) → EmptiesVictim k old new (next old place)
    empties-round new empties =
        let there : Clears k (sector_at mid (next old (next old place))) (sector_at new (next old (next old place))) = subst (λ (v : ℕ). Clears k (sector_at mid v) (sector_at new v)) same_next empties in
        record { clean = there.clean; ready = there.ready; long = there.long ∙ closed-length (next old (next old place)) }

    -- with no victim
    module _ (new : List (List ℕ)) (rested : AtRest k.reading mid (next old place)) (opened : HasOpened k mid new (next old place)) where
      new_blank : k.reading.is_blank (sector_at new (next old place)) ≡ true
      new_blank = law.clean (sector_at new (next old place)) opened.clean

      opened-put : HasNotPut k mid new (next old place)
      opened-put = rest-blank mid new (next old place) rested opened-unused opened.only new_blank

      pairs-opened : (j : ℕ) → pairs_at k.reading new j ≡ pairs_at k.reading mid j
      pairs-opened j =
          elim (cases_eq j (next old place)) [
            | inl e ↦ ap (pairs_at R new) e ∙ law.reads.pairs (sector_at new (next old place)) new_blank ∙ sym (law.reads.pairs (sector_at mid (next old place)) opened-unused) ∙ ap (pairs_at R mid) (sym e)
            | inr apart ↦ ap R.pairs (only_else mid new (next old place) j opened.only apart)
          ]

      all-opened : (js : List ℕ) → All (λ j. pairs_at k.reading new j ≡ pairs_at k.reading mid j) js
      all-opened [] = All-nil (λ j. pairs_at R new j ≡ pairs_at R mid j)
      all-opened (j ∷ js) = All-cons (λ j. pairs_at R new j ≡ pairs_at R mid j) j js (pairs-opened j) (all-opened js)

      parts-opened : parts k.reading new (next old place) ≡ parts k.reading mid (next old place)
      parts-opened =
          let q = next old place in
          ap (λ (n : ℕ). map (pairs_at R new) (rest n q) ++ pairs_at R new q ∷ []) (only_length mid new q opened.only)
          ∙ ap (λ xs. xs ++ pairs_at R new q ∷ []) (map_agree (pairs_at R new) (pairs_at R mid) (rest (length mid) q) (all-opened (rest (length mid) q)))
          ∙ ap (λ ps. map (pairs_at R mid) (rest (length mid) q) ++ ps ∷ []) (pairs-opened q)

      list-opened : area_pairs k.reading new (next old place) ≡ area_pairs k.reading mid (next old place)
      list-opened =
          ap (area_pairs R new) (sym (reads R new (next old place) (inl opened-put.form)).0)
          ∙ opened-put.list
          ∙ ap (area_pairs R mid) (reads R mid (next old place) (inl rested)).0

      round-opened : IsRound k.reading old place new
      round-opened =
          let pass_done = subst (IsRound R old place) (sym only) (round_blank R law.reads old place (sector_at mid place) form closes.list sound (subst (λ (s : List (List ℕ)). AtRest R s (next old place)) only rested)) in
          record {
            form = opened-put.form;
            items = λ id. ap (λ ps. last ps id) list-opened ∙ pass_done.items id;
            parts = parts-opened ∙ pass_done.parts;
          }

      no_victim : {P : Type 0} → has_victim k old place ≡ true → P
      no_victim has = absurd (false≢true (sym (rest_closed k law mid (next old place) rested) ∙ sym victim-is ∙ has))

      pub does_pass-opened : (size : ℕ) → 512 ≤ size → length (sector_at old (next old place)) ≡ size → DoesPassAt k size old new place
      does_pass-opened size large width =
          let here = opened.long ∙ ap length opened-same ∙ width in
          let room = unused-room (sector_at new (next old place)) size large here opened.clean in
          let no_copies : copies_cost k.cost (pairs_at R new (next old place)) ≡ 0 = ap (copies_cost k.cost) (law.reads.pairs (sector_at new (next old place)) new_blank) in
          record {
            round = round-opened;
            gc_done = no_victim;
            empties = no_victim;
            ready = opened.ready;
            room = λ len some. room.room len some ∙ ap (λ (n : ℕ). leb (n + k.cost len) (k.cap size)) (sym no_copies);
            delete = room.delete;
            closes = λ apart. subst (λ (b : List ℕ). Closes k (sector_at old place) b) (sym (only_else mid new (next old place) place opened.only (λ (e : place ≡ next old place). other (sym e)))) closes;
            others = λ j off apart away. only_else mid new (next old place) j opened.only apart ∙ only_else old mid place j only off;
          }

    pub does_pass-collected : (size : ℕ) (new : List (List ℕ)) → 512 ≤ size → ((j : ℕ) → j < length old → length (sector_at mid j) ≡ size) → Collecting k.reading mid (next old place) → CollectsAt k mid new (next old place) → DoesPassAt k size old new place
    does_pass-collected size new large widths collecting all =
        let here_width = widths (next old place) (after-within (length old) place within) in
        let victim_in = after-within (length old) (next old place) (after-within (length old) place within) in
        let victim_width = widths (next old (next old place)) victim_in in
        let same_victim : length (sector_at mid (next mid (next old place))) ≡ size = ap (λ (j : ℕ). length (sector_at mid j)) same_next ∙ victim_width in
        let le = copied-le k law mid (next old place) collecting (omega arith) in
        let cap : k.cap (length (sector_at mid (next mid (next old place)))) ≡ k.cap size = ap k.cap same_victim in
        let cap_here : k.cap (length (sector_at mid (next old place))) ≡ k.cap size = ap k.cap here_width in
        let used : copies_cost k.cost (pairs_at R new (next old place)) ≡ copies_cost k.cost (to_copy R mid (next old place)) = ap (copies_cost k.cost) all.list in
        let has_room = all.room in
        let room = collected-room (sector_at new (next old place)) size (copies_cost k.cost (to_copy R mid (next old place))) all.gc_done (omega arith) (omega arith) in
        let has : has_victim k old place ≡ true = victim-is ∙ next-closed R mid (next old place) 0 collecting.ring ∙ refl in
        let pass_done = round_collected R law.reads old place (sector_at mid place) form closes.list sound new (subst (λ (s : List (List ℕ)). Collects R s (next old place) new) only all.collects) in
        record {
          round = pass_done;
          gc_done = λ _. all.gc_done;
          empties = λ _. empties-round new all.empties;
          ready = λ _. marked-ready new (next old place) pass_done.form all.gc_done (subst (λ (n : ℕ). 512 ≤ n) (sym (all.long ∙ here_width)) large);
          room = λ len some. room.room len some ∙ ap (λ (n : ℕ). leb (n + k.cost len) (k.cap size)) (sym used);
          delete = room.delete;
          closes = λ apart. subst (λ (b : List ℕ). Closes k (sector_at old place) b) (sym (all.others place (λ (e : place ≡ next old place). other (sym e)) (λ (e : place ≡ next mid (next old place)). apart (e ∙ same_next)))) closes;
          others = λ j off apart away. all.others j apart (λ (e : j ≡ next mid (next old place)). away has (e ∙ same_next)) ∙ only_else old mid place j only off;
        }

    -- its units

    pairs_same : (j : ℕ) → pairs_at R mid j ≡ pairs_at R old j
    pairs_same j =
        elim (cases_eq j place) [
          | inl e ↦ ap (pairs_at R mid) e ∙ closes.list.list ∙ ap (pairs_at R old) (sym e)
          | inr apart ↦ ap R.pairs (only_else old mid place j only apart)
        ]

    everywhere : (js : List ℕ) → All (λ j. pairs_at R mid j ≡ pairs_at R old j) js
    everywhere [] = All-nil (λ j. pairs_at R mid j ≡ pairs_at R old j)
    everywhere (j ∷ js) = All-cons (λ j. pairs_at R mid j ≡ pairs_at R old j) j js (pairs_same j) (everywhere js)

    pub copies-same : to_copy k.reading mid (next old place) ≡ to_copy k.reading old (next old place)
    copies-same =
        let q = next old place in
        ap (λ (j : ℕ). live_pairs (pairs_at R mid j) (flat_map (pairs_at R mid) (rest (length mid) q))) same_next
        ∙ ap (λ (n : ℕ). live_pairs (pairs_at R mid (next old q)) (flat_map (pairs_at R mid) (rest n q))) long
        ∙ ap (λ ps. live_pairs ps (flat_map (pairs_at R mid) (rest (length old) q))) (pairs_same (next old q))
        ∙ ap (live_pairs (pairs_at R old (next old q))) (flat_map-agree (pairs_at R mid) (pairs_at R old) (rest (length old) q) (everywhere (rest (length old) q)))

    module _ (used : k.is_clean (sector_at old place) ≡ false) where
      -- the emptying of the victim, whose bytes are those before the round if the area has another sector
      clear-is : victim_units k mid (next old place) ≡ round_clear k old place
      clear-is =
          let last : ℕ = next old (next old place) in
          let there : victim_units k mid (next old place) ≡ k.units.clear (sector_at mid (next old (next old place))) = ap (λ (v : ℕ). k.units.clear (sector_at mid v)) same_next in
          elim (cases_eq (next old (next old place)) place) [
            | inl e ↦
                let open_here : R.is_closed (sector_at old place) ≡ false = open-not_closed R old place form.blanks form.ring in
                there ∙ ap (λ (v : ℕ). k.units.clear (sector_at mid v)) e ∙ closes.emptying used open_here
                ∙ sym (cond-true (eqb last place) k.units.clear_closed (k.units.clear (sector_at old last)) (eq-eqb last place e))
            | inr apart ↦
                there ∙ ap k.units.clear (only_else old mid place (next old (next old place)) only apart)
                ∙ sym (cond-false (eqb last place) k.units.clear_closed (k.units.clear (sector_at old last)) (ne_eqb last place apart))
          ]

      -- what is left of them behind the close
      units-are : open_units k mid (next old place)
          ≡ cond (has_victim k old place) (again_with k old (next old place) (victim_units k mid (next old place))) (cond k.opens_ready (ready_units k old (next old place)) none)
      units-are =
          let q = next old place in
          ap (λ (t : Bool). cond t (again_units k mid q) (cond k.opens_ready (ready_units k mid q) none)) (sym victim-is)
          ∙ ap (λ (b : List ℕ). cond (has_victim k old place) (both (making_ready k b) (collect_units k mid q)) (cond k.opens_ready (making_ready k b) none)) opened-same
          ∙ ap (λ ps. cond (has_victim k old place) (both (ready_units k old q) (both (copies k ps) (both k.units.any_done (victim_units k mid q)))) (cond k.opens_ready (ready_units k old q) none)) copies-same

      pub units-opened : open_units k mid (next old place)
          ≡ cond (has_victim k old place) (again_with k old (next old place) (round_clear k old place)) (cond k.opens_ready (ready_units k old (next old place)) none)
      units-opened =
          units-are
          ∙ ap (λ (r : Range). cond (has_victim k old place) (again_with k old (next old place) r) (cond k.opens_ready (ready_units k old (next old place)) none)) clear-is
