-- What a look-up of the last record of a name finds.
use Rattle.std.proofs.Common.{◌≡◌, ℕ, ◌+◌, ◌≤◌, Bool, true, false, cond, List, [], ◌∷◌, length, drop, Option, Some, None, refl, sym, ap, subst, ◌∙◌}
use Rattle.std.specs.List.{slice_get, filter, filter_map, last_or, cons_option}
use Rattle.std.specs.Option.{option_map, option_or}
use Rattle.std.proofs.lemmas.Option.{none-some}
use Rattle.setting_name.specs.Name.{IsName}
use Rattle.fcb_ring.specs.declared.record.RecordAt.{RecordAt}
use Rattle.fcb_ring.specs.Entries.{bodies}
use Rattle.fcb_ring.specs.Records.{is_alike}
use Rattle.fcb_ring.specs.Standing.{record_places, last_with}
use Rattle.fcb_ring.proofs.LastLemmas.{last-step, map-chosen, IsLast, last-at, place-at}
use Rattle.record_settings.specs.Last.{last_value}
use Rattle.record_settings.specs.Live.{value_for}
use Rattle.record_settings.specs.Settings.{setting_of, body_of}
use Rattle.backend_fcb.proofs.PrefixNames.{says-alike, alike-long}
use Rattle.backend_fcb.proofs.WalkLemmas.{Entry, some-same}

pub map-or : {X Y : Type 0} (f : X → Y) (a b : Option X) → option_map f (option_or a b) ≡ option_or (option_map f a) (option_map f b)
map-or f None b = refl
map-or f (Some x) b = refl

-- the record was read: the bytes at each of its places
abbrev pub Reads : List Entry → RecordAt → List ℕ → Type 0
Reads list r bytes = (i : ℕ) → slice_get (record_places list) i ≡ Some r → slice_get list i ≡ Some (r, bytes)

map-none : {X Y : Type 0} (f : X → Y) (o : Option X) → option_map f o ≡ None → o ≡ None
map-none f None e = refl
map-none f (Some x) e = absurd (none-some (f x) (sym e))

-- the last element that passes a test passes it
last-passes : (X : Type 0) (p : X → Bool) (xs : List X) (a : Option X) (z : X) → (a ≡ Some z → p z ≡ true) → last_or a (filter p xs) ≡ Some z → p z ≡ true
last-passes X p [] a z from e = from e
last-passes X p (y ∷ xs) a z from e = last-passes X p xs (cond (p y) (Some y) a) z (at (p y) refl) (sym (last-step p a y xs) ∙ e)
  where
    at : (b : Bool) → p y ≡ b → cond b (Some y) a ≡ Some z → p z ≡ true
    at true is here = subst (λ (w : X). p w ≡ true) (some-same y z here) is
    at false is here = from here

-- ---- the last record of a name

cons-chosen : (b : Bool) (v : List ℕ) (a : Option (List ℕ)) (values : List (List ℕ)) → last_or a (cons_option (cond b (Some v) None) values) ≡ last_or (cond b (Some v) a) values
cons-chosen true v a values = refl
cons-chosen false v a values = refl

module _ (limit : ℕ) (name : List ℕ) (lawful : IsName name) where
  abbrev prefix : List ℕ
  prefix = body_of name []

  abbrev alike : Entry → Bool
  alike entry = is_alike (body_of name []) (length (body_of name []) + limit) entry.1

  abbrev value : Entry → List ℕ
  value entry = drop (length (body_of name [])) entry.1

  abbrev values : List Entry → List (List ℕ)
  values list = filter_map (λ body. value_for name (setting_of limit body)) (bodies list)

  alike-last : (list : List Entry) (a : Option Entry) → last_or (option_map value a) (values list) ≡ option_map value (last_or a (filter alike list))
  alike-last [] a = refl
  alike-last (entry ∷ rest) a =
      ap (λ (o : Option (List ℕ)). last_or (option_map value a) (cons_option o (values rest))) (says-alike limit name entry.1 lawful)
      ∙ cons-chosen (alike entry) (value entry) (option_map value a) (values rest)
      ∙ ap (λ (o : Option (List ℕ)). last_or o (values rest)) (sym (map-chosen value (alike entry) entry a))
      ∙ alike-last rest (cond (alike entry) (Some entry) a)
      ∙ ap (option_map value) (sym (last-step alike a entry rest))

  read-body : (list : List Entry) (r : RecordAt) (bytes : List ℕ) → Reads list r bytes → (h : IsLast (body_of name []) (length (body_of name []) + limit) list r) → bytes ≡ h.body
  read-body list r bytes reads h =
      let read : slice_get list h.i ≡ Some (r, bytes) = reads h.i (place-at list h.i r h.body h.there) in
      ap (λ (entry : Entry). entry.1) (some-same (r, bytes) (r, h.body) (sym read ∙ h.there))

  -- what stands behind the prefix of the last record that is alike is the value
  pub last-found : (list : List Entry) (r : RecordAt) (bytes : List ℕ) → last_with (body_of name []) (length (body_of name []) + limit) list ≡ Some r → Reads list r bytes → Some (drop (length (body_of name [])) bytes) ≡ last_value limit name (bodies list)
  unfolding last_value
  last-found list r bytes e reads =
      let h = last-at (body_of name []) (length (body_of name []) + limit) list r e in
      ap (λ (b : List ℕ). Some (drop (length (body_of name [])) b)) (read-body list r bytes reads h)
      ∙ sym (ap (option_map value) h.last) ∙ sym (alike-last list None)

  -- without one there is none
  pub last-absent : (list : List Entry) → last_with (body_of name []) (length (body_of name []) + limit) list ≡ None → None ≡ last_value limit name (bodies list)
  unfolding last_value
  last-absent list e = sym (ap (option_map value) (map-none (λ (entry : Entry). entry.0) (last_or None (filter alike list)) e)) ∙ sym (alike-last list None)

  -- and it has the prefix
  pub last-long : (list : List Entry) (r : RecordAt) (bytes : List ℕ) → last_with (body_of name []) (length (body_of name []) + limit) list ≡ Some r → Reads list r bytes → length (body_of name []) ≤ length bytes
  last-long list r bytes e reads =
      let h = last-at (body_of name []) (length (body_of name []) + limit) list r e in
      subst (λ (b : List ℕ). length (body_of name []) ≤ length b) (sym (read-body list r bytes reads h))
      (alike-long (body_of name []) (length (body_of name []) + limit) h.body (last-passes Entry alike list None (r, h.body) (λ none. absurd (none-some (r, h.body) none)) h.last))
