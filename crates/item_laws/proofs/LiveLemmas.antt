-- Which entries of the list are live: the last of their id, with bytes.
use Rattle.std.proofs.Common.{◌≡◌, ℕ, zero, suc, ◌+◌, ◌≤◌, Bool, true, false, not, ◌&&◌, ◌||◌, cond, eqb, ltb, List, [], ◌∷◌, ◌++◌, length, map, Option, Some, None, refl, sym, ap, subst, ◌∙◌, inl, inr, ◌⊎◌, append_assoc, arith}
use Rattle.std.specs.Prelude.{fold, is_some}
use Rattle.std.specs.List.{cons_option, filter, filter_map, range_with_len, All}
use Rattle.std.specs.Option.{option_or}
use Rattle.std.proofs.lemmas.Bool.{cases_eq, lt-ltb, le-ltb, eq-eqb, ne_eqb, and_left, and_right}
use Rattle.std.proofs.lemmas.List.{map-append}
use Rattle.std.proofs.lemmas.List.Elements.{All-nil, All-cons, All-head, All-tail, All-append, All-weaker}
use Rattle.item_laws.specs.LivePairs.{names, live_pairs}
use Rattle.flash_map.specs.Area.{sector_at}
use Rattle.item_laws.specs.Entries.{Entries, AreEntries}
use Rattle.item_laws.specs.Live.{all_placed, last_of, bytes_of, pair_of, is_at, is_live, live_in, live_to}
use Rattle.item_laws.proofs.LastLemmas.{last-append}

-- nothing, or something
pub option_cases : {X : Type 0} (o : Option X) → (o ≡ None) ⊎ ((x : X) × (o ≡ Some x))
option_cases None = inl refl
option_cases (Some x) = inr (x, refl)

pub some_none : {X : Type 0} (x : X) → Some x ≡ None → ⊥
some_none x e = cc

some_data : (n : ℕ) → ltb 0 n ≡ not (eqb n 0)
some_data n =
    elim (cases_eq n 0) [
      | inl none ↦ le-ltb 0 n (omega arith) ∙ sym (ap not (eq-eqb n 0 none))
      | inr some ↦ lt-ltb 0 n (omega arith) ∙ sym (ap not (ne_eqb n 0 some))
    ]

module _ {Entry Placed : Type 0} (k : Entries Entry Placed) where
  -- the last entry of an id among others

  -- the entries stand in different slots
  abbrev pub Apart : Placed → Placed → Type 0
  Apart f g = (eqb (k.sector g) (k.sector f) && eqb (k.slot g) (k.slot f)) ≡ false

  -- each stands apart from those behind it
  pub AreApart : List Placed → List Placed → Type 0
  AreApart [] tail = Unit {0}
  AreApart (f ∷ back) tail = All (Apart f) (back ++ tail) × AreApart back tail

  -- its bytes lie in its sector
  abbrev pub HasBytes : List (List ℕ) → Placed → Type 0
  HasBytes sectors f = length (bytes_of k sectors f) ≡ k.len f

  names-from : (sectors : List (List ℕ)) (id : ℕ) (fs : List Placed) (o : Option Placed) → is_some (fold (λ last f. cond (eqb (k.id f) id) (Some f) last) o fs) ≡ (is_some o || names id (map (pair_of k sectors) fs))
  names-from sectors id [] None = refl
  names-from sectors id [] (Some g) = refl
  names-from sectors id (f ∷ fs) o =
      names-from sectors id fs (cond (eqb (k.id f) id) (Some f) o) ∙ by_head (eqb (k.id f) id) o (names id (map (pair_of k sectors) fs))
    where
      by_head : (here : Bool) (o : Option Placed) (rest : Bool) → (is_some (cond here (Some f) o) || rest) ≡ (is_some o || (here || rest))
      by_head true None rest = refl
      by_head true (Some g) rest = refl
      by_head false None rest = refl
      by_head false (Some g) rest = refl

  last-names : (sectors : List (List ℕ)) (id : ℕ) (fs : List Placed) → is_some (last_of k id fs) ≡ names id (map (pair_of k sectors) fs)
  last-names sectors id fs = names-from sectors id fs None

  last-all : (P : Placed → Type 0) (id : ℕ) (fs : List Placed) (o : Option Placed) (g : Placed) → All P fs → ((g : Placed) → o ≡ Some g → P g) → fold (λ last f. cond (eqb (k.id f) id) (Some f) last) o fs ≡ Some g → P g
  last-all P id [] o g all start is = start g is
  last-all P id (f ∷ fs) o g all start is = last-all P id fs (cond (eqb (k.id f) id) (Some f) o) g (All-tail P f fs all) (λ h e. next h (eqb (k.id f) id) e) is
    where
      same : (h : Placed) → Some f ≡ Some h → f ≡ h
      same h e = cc

      next : (h : Placed) (here : Bool) → cond here (Some f) o ≡ Some h → P h
      next h true e = subst P (same h e) (All-head P f fs all)
      next h false e = start h e

  -- live entries are live pairs

  -- An entry before others is live where none of them has its id, and it has bytes.
  live-head : (sectors : List (List ℕ)) (f : Placed) (prefix behind : List Placed) → All (Apart f) behind → HasBytes sectors f
      → is_at k f (last_of k (k.id f) (prefix ++ f ∷ behind)) ≡ not (names (k.id f) (map (pair_of k sectors) behind) || eqb (length (bytes_of k sectors f)) 0)
  live-head sectors f prefix behind apart long =
      let own : last_of k (k.id f) (f ∷ behind) ≡ option_or (last_of k (k.id f) behind) (Some f) =
      last-append k (k.id f) (f ∷ []) behind ∙ ap (λ (t : Bool). option_or (last_of k (k.id f) behind) (cond t (Some f) None)) (eq-eqb (k.id f) (k.id f) refl) in
      let all : last_of k (k.id f) (prefix ++ f ∷ behind) ≡ option_or (option_or (last_of k (k.id f) behind) (Some f)) (last_of k (k.id f) prefix) = last-append k (k.id f) prefix (f ∷ behind) ∙ ap (λ (o : Option Placed). option_or o (last_of k (k.id f) prefix)) own in
      elim (option_cases (last_of k (k.id f) behind)) [
        | inl none ↦
            let unnamed : names (k.id f) (map (pair_of k sectors) behind) ≡ false = sym (last-names sectors (k.id f) behind) ∙ ap (λ (o : Option Placed). is_some o) none in
            ap (is_at k f) (all ∙ ap (λ (o : Option Placed). option_or (option_or o (Some f)) (last_of k (k.id f) prefix)) none)
            ∙ ap (λ (t : Bool). t && eqb (k.slot f) (k.slot f) && ltb 0 (k.len f)) (eq-eqb (k.sector f) (k.sector f) refl) ∙ ap (λ (t : Bool). true && t && ltb 0 (k.len f)) (eq-eqb (k.slot f) (k.slot f) refl)
            ∙ some_data (k.len f)
            ∙ ap (λ (n : ℕ). not (eqb n 0)) (sym long)
            ∙ ap (λ (t : Bool). not (t || eqb (length (bytes_of k sectors f)) 0)) (sym unnamed)
        | inr (g, some) ↦
            let named : names (k.id f) (map (pair_of k sectors) behind) ≡ true = sym (last-names sectors (k.id f) behind) ∙ ap (λ (o : Option Placed). is_some o) some in
            let off : (eqb (k.sector g) (k.sector f) && eqb (k.slot g) (k.slot f)) ≡ false = last-all (Apart f) (k.id f) behind None g apart (λ h e. absurd (some_none h (sym e))) some in
            ap (is_at k f) (all ∙ ap (λ (o : Option Placed). option_or (option_or o (Some f)) (last_of k (k.id f) prefix)) some)
            ∙ ap (λ (t : Bool). t && ltb 0 (k.len f)) off
            ∙ sym (ap (λ (t : Bool). not (t || eqb (length (bytes_of k sectors f)) 0)) named)
      ]

  -- The live pairs of some entries are the pairs of the live ones.
  live-list : (sectors : List (List ℕ)) (all prefix xs tail : List Placed) → all ≡ prefix ++ (xs ++ tail) → AreApart xs tail → All (HasBytes sectors) xs
      → live_pairs (map (pair_of k sectors) xs) (map (pair_of k sectors) tail) ≡ map (pair_of k sectors) (filter (λ f. is_at k f (last_of k (k.id f) all)) xs)
  unfolding live_pairs AreApart
  live-list sectors all prefix [] tail is apart long = refl
  live-list sectors all prefix (f ∷ back) tail is apart long =
      let shift : prefix ++ (f ∷ back ++ tail) ≡ (prefix ++ f ∷ []) ++ (back ++ tail) = sym (append_assoc prefix (f ∷ []) (back ++ tail)) in
      let rest = live-list sectors all (prefix ++ f ∷ []) back tail (is ∙ shift) apart.1 (All-tail (HasBytes sectors) f back long) in
      let joined : map (pair_of k sectors) (back ++ tail) ≡ map (pair_of k sectors) back ++ map (pair_of k sectors) tail = map-append (pair_of k sectors) back tail in
      let test : is_at k f (last_of k (k.id f) all) ≡ not (names (k.id f) (map (pair_of k sectors) back ++ map (pair_of k sectors) tail) || eqb (length (bytes_of k sectors f)) 0) =
      ap (λ (xs : List Placed). is_at k f (last_of k (k.id f) xs)) is ∙ live-head sectors f prefix (back ++ tail) apart.0 (All-head (HasBytes sectors) f back long)
      ∙ ap (λ (ps : List (ℕ × List ℕ)). not (names (k.id f) ps || eqb (length (bytes_of k sectors f)) 0)) joined in
      by_test (names (k.id f) (map (pair_of k sectors) back ++ map (pair_of k sectors) tail) || eqb (length (bytes_of k sectors f)) 0) (is_at k f (last_of k (k.id f) all))
      (live_pairs (map (pair_of k sectors) back) (map (pair_of k sectors) tail)) (filter (λ g. is_at k g (last_of k (k.id g) all)) back) test rest
    where
      by_test : (ignored live : Bool) (ps : List (ℕ × List ℕ)) (fs : List Placed) → live ≡ not ignored → ps ≡ map (pair_of k sectors) fs → cond ignored ps (pair_of k sectors f ∷ ps) ≡ map (pair_of k sectors) (cond live (f ∷ fs) fs)
      by_test true true ps fs e same = absurd (cc)
      by_test true false ps fs e same = same
      by_test false true ps fs e same = ap (λ (xs : List (ℕ × List ℕ)). pair_of k sectors f ∷ xs) same
      by_test false false ps fs e same = absurd (cc)

-- the entries of one sector

module _ {Entry Placed : Type 0} (k : Entries Entry Placed) (are : AreEntries k) (sectors : List (List ℕ)) (place : ℕ) where
  -- those in so many slots from this one on
  abbrev found_from : ℕ → ℕ → List Placed
  found_from a n = map (k.placed_at place) (filter_map (k.in_slot (sector_at sectors place)) (range_with_len a n))

  bytes_from : k.is_sound (sector_at sectors place) ≡ true → (a n : ℕ) → k.first ≤ a → a + n ≤ k.first + k.slots (sector_at sectors place) → All (HasBytes k sectors) (found_from a n)
  bytes_from sound a zero from within = All-nil (HasBytes k sectors)
  bytes_from sound a (suc n) from within =
      let rest = bytes_from sound (a + 1) n (omega arith) (omega arith) in
      elim (option_cases (k.in_slot (sector_at sectors place) a)) [
        | inl none ↦ rw none rest
        | inr (e, some) ↦
            let own : length (k.bytes (sector_at sectors place) (k.placed_at place e)) ≡ k.len (k.placed_at place e) = are.long (sector_at sectors place) place a e sound from (omega arith) some in
            let here : HasBytes k sectors (k.placed_at place e) = ap (λ (at : ℕ). length (k.bytes (sector_at sectors at) (k.placed_at place e))) (are.sector place e) ∙ own in
            rw some (All-cons (HasBytes k sectors) (k.placed_at place e) (found_from (a + 1) n) here rest)
      ]

  behind_from : (a n : ℕ) → All (λ g. a ≤ k.slot g) (found_from a n)
  behind_from a zero = All-nil (λ (g : Placed). a ≤ k.slot g)
  behind_from a (suc n) =
      let rest = All-weaker (λ (g : Placed). a + 1 ≤ k.slot g) (λ (g : Placed). a ≤ k.slot g) (λ g h. omega arith) (found_from (a + 1) n) (behind_from (a + 1) n) in
      elim (option_cases (k.in_slot (sector_at sectors place) a)) [
        | inl none ↦ rw none rest
        | inr (e, some) ↦
            let at : k.slot (k.placed_at place e) ≡ a = are.slot (sector_at sectors place) place a e some in
            rw some (All-cons (λ (g : Placed). a ≤ k.slot g) (k.placed_at place e) (found_from (a + 1) n) (omega arith) rest)
      ]

  apart_from : (tail : List Placed) → All (λ g. k.sector g ≡ place → ⊥) tail → (a n : ℕ) → AreApart k (found_from a n) tail
  unfolding AreApart
  apart_from tail others a zero = tt
  apart_from tail others a (suc n) =
      elim (option_cases (k.in_slot (sector_at sectors place) a)) [
        | inl none ↦ rw none (apart_from tail others (a + 1) n)
        | inr (e, some) ↦
            let p = k.placed_at place e in
            let at : k.slot (k.placed_at place e) ≡ a = are.slot (sector_at sectors place) place a e some in
            let there : k.sector (k.placed_at place e) ≡ place = are.sector place e in
            let later : All (Apart k (k.placed_at place e)) (found_from (a + 1) n) =
            All-weaker (λ (g : Placed). a + 1 ≤ k.slot g) (Apart k (k.placed_at place e))
            (λ g h. let off : eqb (k.slot g) (k.slot (k.placed_at place e)) ≡ false = ne_eqb (k.slot g) (k.slot (k.placed_at place e)) (λ (same : k.slot g ≡ k.slot (k.placed_at place e)). omega arith) in ap (λ (t : Bool). eqb (k.sector g) (k.sector (k.placed_at place e)) && t) off ∙ and_right (eqb (k.sector g) (k.sector (k.placed_at place e))) false refl)
            (found_from (a + 1) n) (behind_from (a + 1) n) in
            let elsewhere : All (Apart k (k.placed_at place e)) tail =
            All-weaker (λ (g : Placed). k.sector g ≡ place → ⊥) (Apart k (k.placed_at place e)) (λ g h. and_left (eqb (k.sector g) (k.sector (k.placed_at place e))) (eqb (k.slot g) (k.slot (k.placed_at place e))) (ne_eqb (k.sector g) (k.sector (k.placed_at place e)) (λ (same : k.sector g ≡ k.sector (k.placed_at place e)). h (same ∙ there)))) tail others in
            rw some (All-append (Apart k (k.placed_at place e)) (found_from (a + 1) n) tail later elsewhere, apart_from tail others (a + 1) n)
      ]

  -- those that are live
  live_from : (a n : ℕ) → filter (is_live k sectors) (found_from a n) ≡ filter_map (live_in k sectors place) (range_with_len a n)
  live_from a zero = refl
  live_from a (suc n) =
      let rest = live_from (a + 1) n in
      elim (option_cases (k.in_slot (sector_at sectors place) a)) [
        | inl none ↦ rw none rest
        | inr (e, some) ↦ rw some (by_test (is_live k sectors (k.placed_at place e)) e rest)
      ]
    where
      by_test : {xs ys : List Placed} (live : Bool) (e : Entry) → xs ≡ ys → cond live (k.placed_at place e ∷ xs) xs ≡ cons_option (cond live (Some (k.placed_at place e)) None) ys
      by_test true e same = ap (λ (zs : List Placed). k.placed_at place e ∷ zs) same
      by_test false e same = same

  all_from : found_from k.first (k.slots (sector_at sectors place)) ≡ map (k.placed_at place) (k.entries (sector_at sectors place))
  all_from = ap (map (k.placed_at place)) (sym (are.listed (sector_at sectors place)))

  -- The live pairs of a sector whose entries stand in the list before others.
  pub live-sector : (prefix tail : List Placed) → k.is_sound (sector_at sectors place) ≡ true → all_placed k sectors ≡ prefix ++ (map (k.placed_at place) (k.entries (sector_at sectors place)) ++ tail) → All (λ g. k.sector g ≡ place → ⊥) tail
      → live_pairs (map (pair_of k sectors) (map (k.placed_at place) (k.entries (sector_at sectors place)))) (map (pair_of k sectors) tail) ≡ live_to k sectors place (k.slots (sector_at sectors place))
  live-sector prefix tail sound is others =
      let n = k.slots (sector_at sectors place) in
      let all : all_placed k sectors ≡ prefix ++ (found_from k.first n ++ tail) = is ∙ ap (λ (xs : List Placed). prefix ++ (xs ++ tail)) (sym all_from) in
      ap (λ (xs : List Placed). live_pairs (map (pair_of k sectors) xs) (map (pair_of k sectors) tail)) (sym all_from)
      ∙ live-list k sectors (all_placed k sectors) prefix (found_from k.first n) tail all (apart_from tail others k.first n) (bytes_from sound k.first n (omega arith) (omega arith))
      ∙ ap (map (pair_of k sectors)) (live_from k.first n)
