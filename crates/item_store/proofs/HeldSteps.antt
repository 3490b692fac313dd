-- How many entries hold the bytes that are looked for, and what a search for them views.
use Rattle.std.proofs.Common.{◌≡◌, ℕ, ◌+◌, ◌-◌, ◌*◌, ◌<◌, ◌≤◌, Bool, true, cond, ◌&&◌, leb, eqb, ◌⊎◌, List, length, Option, Some, None, bytes_eq, sym, ap, subst, ◌∙◌, inl, inr, add-mul, one-mul, mul-le-mul_right, arith}
use Rattle.std.specs.Prelude.{sum_by, is_some}
use Rattle.std.specs.List.{range_with_len}
use Rattle.std.proofs.lemmas.Bool.{cases_eq, cases_lt, le-leb, ne_eqb, cond-false, false≢true}
use Rattle.std.proofs.lemmas.List.{length-append}
use Rattle.std.proofs.lemmas.List.FromFn.{length-range_with_len}
use Rattle.std.proofs.lemmas.List.Sums.{sum_by-append, sum_by-cons}
use Rattle.std.proofs.lemmas.Slice.Eq.{bytes_eq-Decides}
use Rattle.flash_map.specs.Area.{sector_at}
use Rattle.item_laws.specs.RoundParts.{places_before, places_after}
use Rattle.item_laws.proofs.Places.{after, before, after-last, after-inner, before-first, before-inner, range-append, range_from}
use Rattle.item_store.specs.declared.entry.Entry.{Entry}
use Rattle.item_store.specs.declared.entry.IdRange.{IdRange}
use Rattle.item_store.specs.declared.entry.Placed.{Placed}
use Rattle.item_store.specs.declared.holding.Holder.{Holder}
use Rattle.item_store.specs.Holding.{does_hold, held_from, held_in, held_in_all, holder_views, search_views, Holds, IsFirstHolder, SearchesSector}
use Rattle.item_store.specs.SectorFormat.{SectorFormat}
use Rattle.item_store.proofs.CostSteps.{far, near, round-sum}
use Rattle.item_store.proofs.ViewSteps.{round-parts, before-sum, before-all}

-- ---- places

-- other sectors than this one stand behind it
pub few-behind : (count current place : ℕ) → current < count → place < count → length (places_after count current place) + 1 ≤ count
few-behind count current place low high =
    elim (cases_lt current place) [
      | inl lt ↦
          let is : length (places_after count current place) ≡ count - (place + 1) + (current + 1) =
          ap length (far count current place lt) ∙ length-append (range_with_len (place + 1) (count - (place + 1))) (range_with_len 0 (current + 1))
          ∙ ap (λ (n : ℕ). n + length (range_with_len 0 (current + 1))) (length-range_with_len (place + 1) (count - (place + 1)))
          ∙ ap (λ (n : ℕ). count - (place + 1) + n) (length-range_with_len 0 (current + 1)) in
          omega (arith, is)
      | inr le ↦
          let is : length (places_after count current place) ≡ current - place =
          ap length (near count current place le) ∙ length-range_with_len (place + 1) (current - place) in
          omega (arith, is)
    ]

-- of two places in a row, so many sectors before the open one and one more, the second is before the first
pub next-back : (count current back p q : ℕ) → current < count → p < count → q < count → back + 1 < count
    → (p + back ≡ current) ⊎ (p + back ≡ current + count) → (q + (back + 1) ≡ current) ⊎ (q + (back + 1) ≡ current + count)
    → (q ≡ before count p) × (p ≡ after count current → ⊥)
next-back count current back p q low one two more here there = (is, apart)
  where
    is : q ≡ before count p
    is =
        elim (cases_eq p 0) [
          | inl first ↦
              let last : q ≡ count - 1 = elim here [
                | inl near_p ↦ elim there [ inl near_q ↦ absurd (omega (arith, first, near_p, near_q)) | inr far_q ↦ omega (arith, first, near_p, far_q, two) ]
                | inr far_p ↦ absurd (omega (arith, first, far_p, more))
              ] in
              last ∙ sym (ap (before count) first ∙ before-first count)
          | inr some ↦
              let less : q ≡ p - 1 = elim here [
                | inl near_p ↦ elim there [ inl near_q ↦ omega (arith, some, near_p, near_q) | inr far_q ↦ absurd (omega (arith, some, near_p, far_q, two)) ]
                | inr far_p ↦ elim there [ inl near_q ↦ absurd (omega (arith, far_p, near_q, one)) | inr far_q ↦ omega (arith, some, far_p, far_q) ]
              ] in
              less ∙ sym (before-inner count p (omega (arith, some)))
        ]

    apart : p ≡ after count current → ⊥
    apart e =
        elim (cases_eq (current + 1) count) [
          | inl last ↦
              let zero_p : p ≡ 0 = e ∙ after-last count current last in
              elim here [ inl near_p ↦ absurd (omega (arith, zero_p, near_p, last, more)) | inr far_p ↦ absurd (omega (arith, zero_p, far_p, more)) ]
          | inr other ↦
              let next_p : p ≡ current + 1 = e ∙ after-inner count current (omega (arith, other, low)) in
              elim here [ inl near_p ↦ absurd (omega (arith, next_p, near_p)) | inr far_p ↦ absurd (omega (arith, next_p, far_p, more)) ]
        ]

-- ---- numbers

pub same-most : (s a b : ℕ) → a ≡ b → s + a ≤ s + b
same-most s a b same = omega arith

-- one entry is done with
pub one-less : (w start total s held t rest : ℕ) → s + held * w ≤ start + total * w → rest + 1 ≤ held → t ≤ s + w → t + rest * w ≤ start + total * w
one-less w start total s held t rest so_far less few =
    let times : (rest + 1) * w ≤ held * w = mul-le-mul_right w less in
    let split : (rest + 1) * w ≡ rest * w + 1 * w = add-mul rest 1 w in
    let one : 1 * w ≡ w = one-mul w in
    by-atoms (rest * w) (held * w) (total * w) ((rest + 1) * w) (1 * w) so_far times split one
  where
    by-atoms : (r h all more single : ℕ) → s + h ≤ start + all → more ≤ h → more ≡ r + single → single ≡ w → t + r ≤ start + all
    by-atoms r h all more single before times split one = omega (arith, before, few, times, split, one)

-- the last one is done with, which may cost so many more
pub one-found : (w more start total s held t rest : ℕ) → s + held * w ≤ start + total * w → rest + 1 ≤ held → t ≤ s + w + more → t ≤ start + total * w + more
one-found w more start total s held t rest so_far less few =
    by-atoms (rest * w) (total * w) (one-less w start total s held (s + w) rest so_far less (omega arith))
  where
    by-atoms : (r all : ℕ) → s + w + r ≤ start + all → t ≤ start + all + more
    by-atoms r all le = omega (arith, few)

pub equal-most : (a b : ℕ) → a ≡ b → a ≤ b
equal-most a b same = omega arith

pub rest-within : (rest held all : ℕ) → rest + 1 ≤ held → held ≤ all → rest ≤ all
rest-within rest held all less within = omega arith

pub some-within : (rest held all : ℕ) → rest + 1 ≤ held → held ≤ all → 0 < all
some-within rest held all less within = omega arith

pub more-than-none : (some all : ℕ) → 0 < some → some ≤ all → 0 < all
more-than-none some all more within = omega arith

-- none is left
pub none-less : (w start total s held t : ℕ) → s + held * w ≤ start + total * w → t ≤ s + 1 → t ≤ start + 1 + total * w
none-less w start total s held t so_far few = by-atoms (held * w) (total * w) so_far
  where
    by-atoms : (h all : ℕ) → s + h ≤ start + all → t ≤ start + 1 + all
    by-atoms h all le = omega (arith, few)

-- a whole sector is done with
pub sector-less : (w start back total s t here before next rest : ℕ) → s + (here + before) * w ≤ start + back + total * w → t ≤ s + 1 + here * w → before ≡ rest + next
    → t + (next + rest) * w ≤ start + (back + 1) + total * w
sector-less w start back total s t here before next rest so_far few parts =
    let same : before ≡ next + rest = omega arith in
    let times : before * w ≡ (next + rest) * w = ap (λ (n : ℕ). n * w) same in
    by-atoms (here * w) (before * w) ((here + before) * w) (total * w) ((next + rest) * w) so_far few (add-mul here before w) times
  where
    by-atoms : (h p both all left : ℕ) → s + both ≤ start + back + all → t ≤ s + 1 + h → both ≡ h + p → p ≡ left → t + left ≤ start + (back + 1) + all
    by-atoms h p both all left was more split times = omega (arith, was, more, split, times)

pub sector-most : (w start back total s t here before : ℕ) → s + (here + before) * w ≤ start + back + total * w → t ≤ s + 1 + here * w → t ≤ start + (back + 1) + total * w
sector-most w start back total s t here before so_far few =
    by-atoms (here * w) (before * w) ((here + before) * w) (total * w) so_far few (add-mul here before w)
  where
    by-atoms : (h p both all : ℕ) → s + both ≤ start + back + all → t ≤ s + 1 + h → both ≡ h + p → t ≤ start + (back + 1) + all
    by-atoms h p both all was more split = omega (arith, was, more, split)

-- the search ends in a sector
pub sector-found : (w more start back total s t here before : ℕ) → s + (here + before) * w ≤ start + back + total * w → t ≤ s + here * w + more → t ≤ start + back + total * w + more
sector-found w more start back total s t here before so_far few =
    by-atoms (here * w) (before * w) ((here + before) * w) (total * w) so_far few (add-mul here before w)
  where
    by-atoms : (h p both all : ℕ) → s + both ≤ start + back + all → t ≤ s + h + more → both ≡ h + p → t ≤ start + back + all + more
    by-atoms h p both all was more_here split = omega (arith, was, more_here, split)

pub no-steps : (s n m : ℕ) → s ≤ s + n + m
no-steps s n m = omega arith

pub first-views : (w start held total : ℕ) → held ≡ total → start + held * w ≤ start + 0 + total * w
first-views w start held total same = by-atoms (held * w) (total * w) (ap (λ (n : ℕ). n * w) same)
  where
    by-atoms : (h all : ℕ) → h ≡ all → start + h ≤ start + 0 + all
    by-atoms h all is = omega arith

-- ---- what a search views

pub found-searches : (count held before after : ℕ) (o : Option Holder) → is_some o ≡ true → 0 < held → after ≤ before + held * holder_views count + (count + 4) → SearchesSector count held before after o
found-searches count held before after None some more few = absurd (false≢true some)
found-searches count held before after (Some h) some more few = (more, few)

pub searched-some : (count held before after : ℕ) (o : Option Holder) → is_some o ≡ true → SearchesSector count held before after o → (0 < held) × (after ≤ before + held * holder_views count + (count + 4))
searched-some count held before after None some searches = absurd (false≢true some)
searched-some count held before after (Some h) some searches = searches

pub searched-none : (count held before after : ℕ) (o : Option Holder) → o ≡ None → SearchesSector count held before after o → after ≤ before + 1 + held * holder_views count
searched-none count held before after o none searches = subst (SearchesSector count held before after) none searches

-- it finds an item
pub search-found : (count start back held t : ℕ) → back < count → 0 < held → t ≤ start + back + held * holder_views count + (count + 4) → t ≤ start + search_views count held
search-found count start back held t up some few =
    by-atoms (held * holder_views count) (cond (eqb held 0) 0 (count + 4)) (cond-false (eqb held 0) 0 (count + 4) (ne_eqb held 0 (λ (e : held ≡ 0). absurd (omega (arith, e, some))))) few
  where
    by-atoms : (all last : ℕ) → last ≡ count + 4 → t ≤ start + back + all + (count + 4) → t ≤ start + (count + all + last)
    by-atoms all last is le = omega (arith, up, is, le)

-- it finds none
pub search-most : (count start back held t : ℕ) → back ≤ count → t ≤ start + back + held * holder_views count → t ≤ start + search_views count held
search-most count start back held t up few = by-atoms (held * holder_views count) (cond (eqb held 0) 0 (count + 4)) few
  where
    by-atoms : (all last : ℕ) → t ≤ start + back + all → t ≤ start + (count + all + last)
    by-atoms all last le = omega (arith, up, le)

pub no-search : (count start held : ℕ) → start ≤ start + search_views count held
no-search count start held = by-atoms (held * holder_views count) (cond (eqb held 0) 0 (count + 4))
  where
    by-atoms : (all last : ℕ) → start ≤ start + (count + all + last)
    by-atoms all last = omega arith

-- ---- entries that hold the bytes

module _ (k : SectorFormat) (ids : IdRange) (wanted : List ℕ) where
  module _ (b : List ℕ) where
    -- whether a slot holds them, as a number
    abbrev one_if : ℕ → ℕ
    one_if slot = cond (does_hold k b ids wanted (k.in_slot b slot)) 1 0

    does-hold : (e : Entry) → Holds k b ids wanted e → does_hold k b ids wanted (Some e) ≡ true
    does-hold e holds =
        ap (λ (t : Bool). t && leb e.id ids.most && bytes_eq (k.bytes b e.slot) wanted) (le-leb ids.least e.id holds.from)
        ∙ ap (λ (t : Bool). t && bytes_eq (k.bytes b e.slot) wanted) (le-leb e.id ids.most holds.to)
        ∙ (bytes_eq-Decides (k.bytes b e.slot) wanted).1 holds.bytes

    -- behind the first one that is found there is one less
    pub held-less : (place skipped up : ℕ) (p : Placed) → IsFirstHolder k b place ids wanted (k.first + skipped) p → up ≡ p.slot - k.first + 1
        → held_from k b ids wanted (k.first + up) (k.count b - up) + 1 ≤ held_from k b ids wanted (k.first + skipped) (k.count b - skipped)
    held-less place skipped up p holder is =
        let from = holder.from in
        let to = holder.listed in
        let n : ℕ = p.slot - (k.first + skipped) in
        let m : ℕ = k.first + k.count b - p.slot in
        let width : k.count b - skipped ≡ p.slot - (k.first + skipped) + (k.first + k.count b - p.slot) = omega (arith, from, to) in
        let at : k.first + skipped + (p.slot - (k.first + skipped)) ≡ p.slot = omega (arith, from) in
        let up_at : p.slot + 1 ≡ k.first + up = omega (arith, from, is) in
        let less : k.first + k.count b - p.slot - 1 ≡ k.count b - up = omega (arith, from, to, is) in
        let split : held_from k b ids wanted (k.first + skipped) (k.count b - skipped)
        ≡ sum_by one_if (range_with_len (k.first + skipped) (p.slot - (k.first + skipped))) + sum_by one_if (range_with_len p.slot (k.first + k.count b - p.slot)) =
        ap (λ (i : ℕ). sum_by one_if (range_with_len (k.first + skipped) i)) width
        ∙ ap (sum_by one_if) (range-append (k.first + skipped) (p.slot - (k.first + skipped)) (k.first + k.count b - p.slot))
        ∙ sum_by-append one_if (range_with_len (k.first + skipped) (p.slot - (k.first + skipped))) (range_with_len (k.first + skipped + (p.slot - (k.first + skipped))) (k.first + k.count b - p.slot))
        ∙ ap (λ (i : ℕ). sum_by one_if (range_with_len (k.first + skipped) (p.slot - (k.first + skipped))) + sum_by one_if (range_with_len i (k.first + k.count b - p.slot))) at in
        let rest : sum_by one_if (range_with_len p.slot (k.first + k.count b - p.slot)) ≡ one_if p.slot + held_from k b ids wanted (k.first + up) (k.count b - up) =
        ap (sum_by one_if) (range_from p.slot (k.first + k.count b - p.slot) (omega (arith, to)))
        ∙ sum_by-cons one_if p.slot (range_with_len (p.slot + 1) (k.first + k.count b - p.slot - 1))
        ∙ ap (λ (i : ℕ). one_if p.slot + sum_by one_if (range_with_len i (k.first + k.count b - p.slot - 1))) up_at
        ∙ ap (λ (i : ℕ). one_if p.slot + sum_by one_if (range_with_len (k.first + up) i)) less in
        let one : one_if p.slot ≡ 1 =
        ap (λ (t : Bool). cond t 1 0) (ap (does_hold k b ids wanted) holder.read ∙ does-hold holder.entry holder.holds) in
        omega (arith, split, rest, one)

    -- at the start of the list
    pub held-all : held_from k b ids wanted (k.first + 0) (k.count b - 0) ≡ held_in k b ids wanted
    held-all =
        let zero_plus : k.first + 0 ≡ k.first = omega arith in
        let whole : k.count b - 0 ≡ k.count b = omega arith in
        ap (λ (i : ℕ). held_from k b ids wanted i (k.count b - 0)) zero_plus ∙ ap (held_from k b ids wanted k.first) whole

  module _ (sectors : List (List ℕ)) (current : ℕ) (low : current < length sectors) where
    abbrev pub held_here : ℕ → ℕ
    held_here place = held_in k (sector_at sectors place) ids wanted

    -- those of the sectors before a place
    abbrev pub held_before : ℕ → ℕ
    held_before place = sum_by held_here (places_before (length sectors) current place)

    pub held-start : held_here current + held_before current ≡ held_in_all k sectors ids wanted
    held-start =
        let all = before-all held_here (length sectors) current low in
        omega (arith, all)

    -- those of one sector are some of them
    pub held-within : (place : ℕ) → place < length sectors → held_here place ≤ held_in_all k sectors ids wanted
    held-within place high =
        let parts = round-parts held_here (length sectors) current place low high in
        let whole = round-sum held_here (length sectors) current low in
        omega (arith, parts, whole)

    pub held-back : (p q : ℕ) → p < length sectors → q ≡ before (length sectors) p → (p ≡ after (length sectors) current → ⊥) → held_before p ≡ held_before q + held_here q
    held-back p q high is apart =
        before-sum held_here (length sectors) current p low high apart
        ∙ ap (λ (j : ℕ). held_before j + held_here j) (sym is)
