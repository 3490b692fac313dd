-- The live records among some, once one more record is behind them: the one of its name is gone.
use Rattle.std.proofs.Common.{◌≡◌, ℕ, ◌+◌, ◌<◌, ◌≤◌, suc, Bool, true, false, cond, not, ◌&&◌, ◌||◌, ◌==◌, List, [], ◌∷◌, ◌++◌, length, take, drop, get_or, Option, Some, None, refl, sym, ap, subst, ◌∙◌, inl, inr, append_assoc, append-nil, drop-cons, arith}
use Rattle.std.specs.Prelude.{⊤}
use Rattle.std.specs.List.{All, remove}
use Rattle.std.proofs.lemmas.Bool.{cases_Bool, false≢true}
use Rattle.std.proofs.lemmas.Cmp.{nat_list_eq_equiv}
use Rattle.std.proofs.lemmas.List.{take_more, take_all}
use Rattle.std.proofs.lemmas.List.Elements.{All-nil, All-cons, All-head, All-tail}
use Rattle.std.proofs.lemmas.Slice.Eq.{bytes_eq-Decides}
use Rattle.record_settings.specs.Live.{has_name, names, is_live, is_live_by, live_bodies}
use Rattle.record_settings.specs.Settings.{setting_of}
use Rattle.record_settings.proofs.LiveLemmas.{names-append, live-says}
use Rattle.backend_fcb.specs.Compaction.{without_first}

-- ---- a list without the first that passes

module _ {X : Type 0} (p : X → Bool) where
  pub without-nil : without_first p [] ≡ []
  unfolding without_first
  without-nil = refl

  pub without-cons : (x : X) (rest : List X) → without_first p (x ∷ rest) ≡ cond (p x) rest (x ∷ without_first p rest)
  unfolding without_first
  without-cons x rest = refl

  pub without-here : (x : X) (rest : List X) → p x ≡ true → without_first p (x ∷ rest) ≡ rest
  without-here x rest here = without-cons x rest ∙ ap (λ (t : Bool). cond t rest (x ∷ without_first p rest)) here

  pub without-there : (x : X) (rest : List X) → p x ≡ false → without_first p (x ∷ rest) ≡ x ∷ without_first p rest
  without-there x rest there = without-cons x rest ∙ ap (λ (t : Bool). cond t rest (x ∷ without_first p rest)) there

  pub without-all : (P : X → Type 0) (xs : List X) → All P xs → All P (without_first p xs)
  without-all P [] all = subst (All P) (sym without-nil) all
  without-all P (x ∷ rest) all = elim (cases_Bool (p x)) [
    | inl here ↦ subst (All P) (sym (without-here x rest here)) (All-tail P x rest all)
    | inr there ↦ subst (All P) (sym (without-there x rest there)) (All-cons P x (without_first p rest) (All-head P x rest all) (without-all P rest (All-tail P x rest all)))
  ]

  pub without-long : (xs : List X) → length (without_first p xs) ≤ length xs
  without-long [] = let e = ap length without-nil in omega arith
  without-long (x ∷ rest) = elim (cases_Bool (p x)) [
    | inl here ↦ let e = ap length (without-here x rest here) in omega arith
    | inr there ↦ let e = ap length (without-there x rest there) in let ih = without-long rest in omega arith
  ]

  -- none of the first so many passes
  pub without-step : (xs : List X) (k : ℕ) (d : X) → k < length xs → without_first p xs ≡ take k xs ++ without_first p (drop k xs) → p (get_or xs k d) ≡ false → without_first p xs ≡ take (k + 1) xs ++ without_first p (drop (k + 1) xs)
  without-step xs k d lt so_far other =
      let more : k + 1 ≡ suc k = omega arith in
      so_far
      ∙ ap (λ (l : List X). take k xs ++ without_first p l) (drop-cons xs k d lt)
      ∙ ap (λ (l : List X). take k xs ++ l) (without-there (get_or xs k d) (drop (suc k) xs) other)
      ∙ sym (append_assoc (take k xs) (get_or xs k d ∷ []) (without_first p (drop (suc k) xs)))
      ∙ ap (λ (l : List X). l ++ without_first p (drop (suc k) xs)) (sym (take_more xs k d lt))
      ∙ ap (λ (n : ℕ). take (k + 1) xs ++ without_first p (drop n xs)) (sym more)

  pub without-found : (xs : List X) (k : ℕ) (d : X) → k < length xs → without_first p xs ≡ take k xs ++ without_first p (drop k xs) → p (get_or xs k d) ≡ true → remove xs k ≡ without_first p xs
  without-found xs k d lt so_far here =
      sym (so_far
      ∙ ap (λ (l : List X). take k xs ++ without_first p l) (drop-cons xs k d lt)
      ∙ ap (λ (l : List X). take k xs ++ l) (without-here (get_or xs k d) (drop (suc k) xs) here))

  drop-all : (xs : List X) → drop (length xs) xs ≡ []
  drop-all [] = refl
  drop-all (x ∷ rest) = drop-all rest

  pub without-none : (xs : List X) (k : ℕ) → k ≡ length xs → without_first p xs ≡ take k xs ++ without_first p (drop k xs) → xs ≡ without_first p xs
  without-none xs k all so_far =
      sym (so_far
      ∙ ap (λ (n : ℕ). take n xs ++ without_first p (drop n xs)) all
      ∙ ap (λ (l : List X). take (length xs) xs ++ without_first p l) (drop-all xs)
      ∙ ap (λ (l : List X). take (length xs) xs ++ l) without-nil
      ∙ append-nil (take (length xs) xs)
      ∙ take_all (length xs) xs (omega arith))

-- ---- one record more behind

-- two settings are of one name
abbrev pub same_name : Option (List ℕ × List ℕ) → Option (List ℕ × List ℕ) → Bool
same_name None later = false
same_name (Some (name, value)) later = has_name name later

ignored : (l x h : Bool) → (not l && not (x || (h || false))) ≡ ((not l && not x) && not h)
ignored true x h = refl
ignored false true h = refl
ignored false false true = refl
ignored false false false = refl

live-later : (limit : ℕ) (body : List ℕ) (later : List (List ℕ)) (last : List ℕ) → is_live limit body (later ++ last ∷ []) ≡ (is_live limit body later && not (same_name (setting_of limit body) (setting_of limit last)))
live-later limit body later last = by (setting_of limit body)
  where
    by : (s : Option (List ℕ × List ℕ)) → is_live_by limit s (later ++ last ∷ []) ≡ (is_live_by limit s later && not (same_name s (setting_of limit last)))
    by None = refl
    by (Some (name, value)) = ap (λ (t : Bool). not (length value == 0) && not t) (names-append limit name later (last ∷ [])) ∙ ignored (length value == 0) (names limit name later) (has_name name (setting_of limit last))

live-behind : (limit : ℕ) (body : List ℕ) (rest seen : List (List ℕ)) (last : List ℕ) → is_live limit body (rest ++ (seen ++ last ∷ [])) ≡ (is_live limit body (rest ++ seen) && not (same_name (setting_of limit body) (setting_of limit last)))
live-behind limit body rest seen last = ap (λ (l : List (List ℕ)). is_live limit body l) (sym (append_assoc rest seen (last ∷ []))) ∙ live-later limit body (rest ++ seen) last

and-true : (t : Bool) → (t && true) ≡ t
and-true true = refl
and-true false = refl

-- none of these is of the name
abbrev Apart : ℕ → Option (List ℕ × List ℕ) → List (List ℕ) → Type 0
Apart limit s [] = ⊤
Apart limit s (body ∷ rest) = (same_name (setting_of limit body) s ≡ false) × Apart limit s rest

live-kept : (limit : ℕ) (passed seen : List (List ℕ)) (last : List ℕ) → Apart limit (setting_of limit last) passed → live_bodies limit passed (seen ++ last ∷ []) ≡ live_bodies limit passed seen
unfolding live_bodies
live-kept limit [] seen last apart = refl
live-kept limit (body ∷ rest) seen last (first, others) =
    let same : is_live limit body (rest ++ (seen ++ last ∷ [])) ≡ is_live limit body (rest ++ seen) =
    live-behind limit body rest seen last ∙ ap (λ (t : Bool). is_live limit body (rest ++ seen) && not t) first ∙ and-true (is_live limit body (rest ++ seen)) in
    ap (λ (t : Bool). cond t (body ∷ live_bodies limit rest (seen ++ last ∷ [])) (live_bodies limit rest (seen ++ last ∷ []))) same
    ∙ ap (λ (l : List (List ℕ)). cond (is_live limit body (rest ++ seen)) (body ∷ l) l) (live-kept limit rest seen last others)

apart-none : (limit : ℕ) (passed : List (List ℕ)) → Apart limit None passed
apart-none limit [] = tt
apart-none limit (body ∷ rest) = (by (setting_of limit body), apart-none limit rest)
  where
    by : (s : Option (List ℕ × List ℕ)) → same_name s None ≡ false
    by None = refl
    by (Some (name, value)) = refl

turned_name : (s : Option (List ℕ × List ℕ)) (name value : List ℕ) → same_name s (Some (name, value)) ≡ has_name name s
turned_name None name value = refl
turned_name (Some (own, bytes)) name value = nat_list_eq_equiv.symm name own

or-none : (s t : Bool) → (s || t) ≡ false → (s ≡ false) × (t ≡ false)
or-none true t h = absurd (false≢true (sym h))
or-none false t h = (refl, h)

apart-names : (limit : ℕ) (name value : List ℕ) (passed : List (List ℕ)) → names limit name passed ≡ false → Apart limit (Some (name, value)) passed
apart-names limit name value [] none = tt
apart-names limit name value (body ∷ rest) none =
    let parts = or-none (has_name name (setting_of limit body)) (names limit name rest) none in
    (turned_name (setting_of limit body) name value ∙ parts.0, apart-names limit name value rest parts.1)

-- a live record of the name is the last of it
alone : (limit : ℕ) (name body : List ℕ) (rest seen : List (List ℕ)) → is_live limit body (rest ++ seen) ≡ true → has_name name (setting_of limit body) ≡ true → names limit name rest ≡ false
alone limit name body rest seen live here =
    let says = live-says limit body (rest ++ seen) live in
    let same : says.name ≡ name = (bytes_eq-Decides says.name name).0 (ap (λ (s : Option (List ℕ × List ℕ)). has_name name s) (sym says.says) ∙ here) in
    let none : names limit name (rest ++ seen) ≡ false = ap (λ (n : List ℕ). names limit n (rest ++ seen)) (sym same) ∙ says.last in
    (or-none (names limit name rest) (names limit name seen) (sym (names-append limit name rest seen) ∙ none)).0

pub live-cons : (limit : ℕ) (body : List ℕ) (rest later : List (List ℕ)) → live_bodies limit (body ∷ rest) later ≡ cond (is_live limit body (rest ++ later)) (body ∷ live_bodies limit rest later) (live_bodies limit rest later)
unfolding live_bodies
live-cons limit body rest later = refl

live-nil : (limit : ℕ) (later : List (List ℕ)) → live_bodies limit [] later ≡ []
unfolding live_bodies
live-nil limit later = refl

live-named : (limit : ℕ) (name value : List ℕ) (passed seen : List (List ℕ)) (last : List ℕ) → setting_of limit last ≡ Some (name, value) → live_bodies limit passed (seen ++ last ∷ []) ≡ without_first (λ body. has_name name (setting_of limit body)) (live_bodies limit passed seen)
live-named limit name value [] seen last is =
    live-nil limit (seen ++ last ∷ []) ∙ sym (without-nil (λ (body : List ℕ). has_name name (setting_of limit body))) ∙ sym (ap (without_first (λ (body : List ℕ). has_name name (setting_of limit body))) (live-nil limit seen))
live-named limit name value (body ∷ rest) seen last is =
    let p : List ℕ → Bool = λ b. has_name name (setting_of limit b) in
    let new : List (List ℕ) = live_bodies limit rest (seen ++ last ∷ []) in
    let old : List (List ℕ) = live_bodies limit rest seen in
    let ih : new ≡ without_first p old = live-named limit name value rest seen last is in
    let split : is_live limit body (rest ++ (seen ++ last ∷ [])) ≡ (is_live limit body (rest ++ seen) && not (has_name name (setting_of limit body))) =
    live-behind limit body rest seen last ∙ ap (λ (s : Option (List ℕ × List ℕ)). is_live limit body (rest ++ seen) && not (same_name (setting_of limit body) s)) is
    ∙ ap (λ (t : Bool). is_live limit body (rest ++ seen) && not t) (turned_name (setting_of limit body) name value) in
    elim (cases_Bool (is_live limit body (rest ++ seen))) [
      | inr dead ↦
          let gone : is_live limit body (rest ++ (seen ++ last ∷ [])) ≡ false = split ∙ ap (λ (t : Bool). t && not (has_name name (setting_of limit body))) dead in
          live-cons limit body rest (seen ++ last ∷ []) ∙ ap (λ (t : Bool). cond t (body ∷ new) new) gone ∙ ih
          ∙ sym (ap (without_first p) (live-cons limit body rest seen ∙ ap (λ (t : Bool). cond t (body ∷ old) old) dead))
      | inl live ↦
          let prefix : live_bodies limit (body ∷ rest) seen ≡ body ∷ old = live-cons limit body rest seen ∙ ap (λ (t : Bool). cond t (body ∷ old) old) live in
          elim (cases_Bool (has_name name (setting_of limit body))) [
            | inl here ↦
                let gone : is_live limit body (rest ++ (seen ++ last ∷ [])) ≡ false = split ∙ ap (λ (t : Bool). t && not (has_name name (setting_of limit body))) live ∙ ap not here in
                let apart : Apart limit (setting_of limit last) rest = subst (λ (s : Option (List ℕ × List ℕ)). Apart limit s rest) (sym is) (apart-names limit name value rest (alone limit name body rest seen live here)) in
                live-cons limit body rest (seen ++ last ∷ []) ∙ ap (λ (t : Bool). cond t (body ∷ new) new) gone ∙ live-kept limit rest seen last apart
                ∙ sym (ap (without_first p) prefix ∙ without-here p body old here)
            | inr other ↦
                let stays : is_live limit body (rest ++ (seen ++ last ∷ [])) ≡ true = split ∙ ap (λ (t : Bool). t && not (has_name name (setting_of limit body))) live ∙ ap not other in
                live-cons limit body rest (seen ++ last ∷ []) ∙ ap (λ (t : Bool). cond t (body ∷ new) new) stays ∙ ap (λ (l : List (List ℕ)). body ∷ l) ih
                ∙ sym (ap (without_first p) prefix ∙ without-there p body old other)
          ]
    ]

-- what a later record with this setting leaves of a list of bodies
abbrev pub struck_bodies : ℕ → Option (List ℕ × List ℕ) → List (List ℕ) → List (List ℕ)
struck_bodies limit None list = list
struck_bodies limit (Some (name, value)) list = without_first (λ body. has_name name (setting_of limit body)) list

pub live-struck : (limit : ℕ) (passed seen : List (List ℕ)) (last : List ℕ) → live_bodies limit passed (seen ++ last ∷ []) ≡ struck_bodies limit (setting_of limit last) (live_bodies limit passed seen)
live-struck limit passed seen last = by (setting_of limit last) refl
  where
    by : (s : Option (List ℕ × List ℕ)) → setting_of limit last ≡ s → live_bodies limit passed (seen ++ last ∷ []) ≡ struck_bodies limit s (live_bodies limit passed seen)
    by None is = live-kept limit passed seen last (subst (λ (s : Option (List ℕ × List ℕ)). Apart limit s passed) (sym is) (apart-none limit passed))
    by (Some (name, value)) is = live-named limit name value passed seen last is

-- no more are live than there are
pub live-few : (limit : ℕ) (passed later : List (List ℕ)) → length (live_bodies limit passed later) ≤ length passed
live-few limit [] later = let e = ap length (live-nil limit later) in omega arith
live-few limit (body ∷ rest) later =
    let ih = live-few limit rest later in
    elim (cases_Bool (is_live limit body (rest ++ later))) [
      | inl live ↦ let e = ap length (live-cons limit body rest later ∙ ap (λ (t : Bool). cond t (body ∷ live_bodies limit rest later) (live_bodies limit rest later)) live) in omega arith
      | inr dead ↦ let e = ap length (live-cons limit body rest later ∙ ap (λ (t : Bool). cond t (body ∷ live_bodies limit rest later) (live_bodies limit rest later)) dead) in omega arith
    ]

-- what holds of each live record holds of all that are
pub live-all : (P : List ℕ → Type 0) (limit : ℕ) (passed later : List (List ℕ)) → ((body : List ℕ) (behind : List (List ℕ)) → is_live limit body behind ≡ true → P body) → All P (live_bodies limit passed later)
live-all P limit [] later each = subst (All P) (sym (live-nil limit later)) (All-nil P)
live-all P limit (body ∷ rest) later each =
    let ih = live-all P limit rest later each in
    elim (cases_Bool (is_live limit body (rest ++ later))) [
      | inl live ↦
          subst (All P) (sym (live-cons limit body rest later ∙ ap (λ (t : Bool). cond t (body ∷ live_bodies limit rest later) (live_bodies limit rest later)) live)) (All-cons P body (live_bodies limit rest later) (each body (rest ++ later) live) ih)
      | inr dead ↦ subst (All P) (sym (live-cons limit body rest later ∙ ap (λ (t : Bool). cond t (body ∷ live_bodies limit rest later) (live_bodies limit rest later)) dead)) ih
    ]
