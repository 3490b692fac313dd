-- A store whose slots hold entries of its own, each with a place for its bytes.
use Rattle.std.proofs.Common.{◌≡◌, ℕ, Bool, true, false, cond, eqb, List, [], ◌∷◌, length, map, Option, Some, refl, sym, ap, ◌∙◌, inl, inr}
use Rattle.std.specs.Prelude.{fold}
use Rattle.std.specs.Option.{option_map, option_map_or}
use Rattle.std.specs.List.{filter_map}
use Rattle.item_laws.proofs.LiveLemmas.{option_cases, some_none}
use Rattle.item_store.specs.declared.entry.Entry.{Entry}

some_same : {X : Type 0} (x y : X) → Some x ≡ Some y → x ≡ y
some_same x y e = cc

module _ {X : Type 0} (read : ℕ → Option X) (entry_of : X → Entry) (bytes : X → List ℕ) (own : (n : ℕ) (x : X) → read n ≡ Some x → (entry_of x).slot ≡ n) where
  -- the entry in a slot is that of one of the store's there
  pub read_there : (n : ℕ) (e : Entry) → option_map entry_of (read n) ≡ Some e → (x : X) × (read n ≡ Some x) × (entry_of x ≡ e)
  read_there n e is =
      elim (option_cases (read n)) [
        | inl none ↦ absurd (some_none e (sym is ∙ ap (option_map entry_of) none))
        | inr (x, some) ↦ (x, some, some_same (entry_of x) e (sym (ap (option_map entry_of) some) ∙ is))
      ]

  pub bytes_own : (n : ℕ) (x : X) → read n ≡ Some x → option_map_or bytes (read (entry_of x).slot) [] ≡ bytes x
  bytes_own n x some = ap (λ (m : ℕ). option_map_or bytes (read m) []) (own n x some) ∙ ap (λ (o : Option X). option_map_or bytes o []) some

  pub slot_own : (n : ℕ) (e : Entry) → option_map entry_of (read n) ≡ Some e → e.slot ≡ n
  slot_own n e is = let t = read_there n e is in sym (ap (λ (x : Entry). x.slot) t.2) ∙ own n t.0 t.1

  pub long_own : (n : ℕ) (e : Entry) → ((x : X) → read n ≡ Some x → length (bytes x) ≡ (entry_of x).len) → option_map entry_of (read n) ≡ Some e → length (option_map_or bytes (read e.slot) []) ≡ e.len
  long_own n e long is =
      let t = read_there n e is in
      ap (λ (x : Entry). length (option_map_or bytes (read x.slot) [])) (sym t.2) ∙ ap length (bytes_own n t.0 t.1) ∙ long t.0 t.1 ∙ ap (λ (x : Entry). x.len) t.2

  one_more : (n : ℕ) (ns : List ℕ) (x : X) → read n ≡ Some x → ◌≡◌ {A = ℕ × List ℕ} ((entry_of x).id, bytes x) ((entry_of x).id, option_map_or bytes (read (entry_of x).slot) [])
      → map {B = ℕ × List ℕ} (λ (x : X). ((entry_of x).id, bytes x)) (filter_map read ns) ≡ map {B = ℕ × List ℕ} (λ (e : Entry). (e.id, option_map_or bytes (read e.slot) [])) (filter_map (λ (n : ℕ). option_map entry_of (read n)) ns)
      → map {B = ℕ × List ℕ} (λ (x : X). ((entry_of x).id, bytes x)) (filter_map read (n ∷ ns)) ≡ map {B = ℕ × List ℕ} (λ (e : Entry). (e.id, option_map_or bytes (read e.slot) [])) (filter_map (λ (n : ℕ). option_map entry_of (read n)) (n ∷ ns))
  one_more n ns x some same later = (rw some (ap (λ (p : ℕ × List ℕ). p ∷ map {B = ℕ × List ℕ} (λ (x : X). ((entry_of x).id, bytes x)) (filter_map read ns)) same ∙ ap (λ (ps : List (ℕ × List ℕ)). ((entry_of x).id, option_map_or bytes (read (entry_of x).slot) []) ∷ ps) later))

  -- the pairs of the slots, either way
  pub pairs_read : (ns : List ℕ) → map {B = ℕ × List ℕ} (λ (x : X). ((entry_of x).id, bytes x)) (filter_map read ns) ≡ map {B = ℕ × List ℕ} (λ (e : Entry). (e.id, option_map_or bytes (read e.slot) [])) (filter_map (λ (n : ℕ). option_map entry_of (read n)) ns)
  pairs_read [] = refl
  pairs_read (n ∷ ns) =
      elim (option_cases (read n)) [
        | inl none ↦ (rw none (pairs_read ns))
        | inr (x, some) ↦ one_more n ns x some (ap {B = ℕ × List ℕ} (λ (bs : List ℕ). ((entry_of x).id, bs)) (sym (bytes_own n x some))) (pairs_read ns)
      ]

  -- the entries of the slots are the store's own ones
  pub entries_read : (ns : List ℕ) → filter_map (λ (n : ℕ). option_map entry_of (read n)) ns ≡ map entry_of (filter_map read ns)
  entries_read [] = refl
  entries_read (n ∷ ns) =
      elim (option_cases (read n)) [
        | inl none ↦ (rw none (entries_read ns))
        | inr (x, some) ↦ (rw some (ap (λ (es : List Entry). entry_of x ∷ es) (entries_read ns)))
      ]

  pick : (id : ℕ) (o : Option X) (x : X) (t : Bool) → cond t (Some (entry_of x)) (option_map entry_of o) ≡ option_map entry_of (cond t (Some x) o)
  pick id o x true = refl
  pick id o x false = refl

  -- and so is the last one of an id
  pub last_read : (id : ℕ) (xs : List X) (o : Option X) → fold (λ (last : Option Entry) (e : Entry). cond (eqb e.id id) (Some e) last) (option_map entry_of o) (map entry_of xs) ≡ option_map entry_of (fold (λ (last : Option X) (x : X). cond (eqb (entry_of x).id id) (Some x) last) o xs)
  last_read id [] o = refl
  last_read id (x ∷ xs) o =
      ap (λ (start : Option Entry). fold (λ (last : Option Entry) (e : Entry). cond (eqb e.id id) (Some e) last) start (map entry_of xs)) (pick id o x (eqb (entry_of x).id id))
      ∙ last_read id xs (cond (eqb (entry_of x).id id) (Some x) o)
