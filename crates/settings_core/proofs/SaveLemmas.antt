-- Loops that store one pair after the other.
use Rattle.std.proofs.Common.{◌≡◌, ℕ, ◌+◌, ◌<◌, ◌≤◌, List, [], ◌∷◌, ◌++◌, zero, suc, length, take, drop, get_or, Option, Some, None, true, false, sym, ap, subst, ◌∙◌, arith}
use Rattle.std.specs.Prelude.{slice_get, flat_map}
use Rattle.std.specs.FinMap.{entries}
use Rattle.std.proofs.lemmas.Bool.{cond-true, cond-false}
use Rattle.std.proofs.lemmas.Grind.{flat_map-append}
use Rattle.std.proofs.lemmas.List.{take_more, take_all, take-append-drop, length-map, get_or-map, append-nil, map-append}
use Rattle.setting_name.specs.Name.{IsName}
use Rattle.setting_name.specs.Match.{joined_text}
use Rattle.backend_api.specs.Commands.{Put, puts_of}
use Rattle.backend_api.specs.Map.{IsValue}
use Rattle.handlers.specs.Held.{Held, HandlerState}
use Rattle.handlers.specs.Registry.{Registered, nobody}
use Rattle.settings_core.specs.Saving.{pairs_of, AreSettings, exported, exported_of, AreLawful}
use Rattle.settings_core.specs.Committing.{is_under}

slice_get-some : {X : Type 0} (xs : List X) (k : ℕ) (x : X) → slice_get xs k ≡ Some x → (k < length xs) × (get_or xs k x ≡ x)
slice_get-some [] k x is = absurd (cc)
slice_get-some (y ∷ xs) zero x is = (omega arith, cc)
slice_get-some (y ∷ xs) (suc k) x is = let rest = slice_get-some xs k x is in (omega (arith, rest.0), rest.1)

slice_get-none : {X : Type 0} (xs : List X) (k : ℕ) → slice_get xs k ≡ None → length xs ≤ k
slice_get-none [] k is = omega arith
slice_get-none (y ∷ xs) zero is = absurd (cc)
slice_get-none (y ∷ xs) (suc k) is = let rest = slice_get-none xs k is in omega arith

pub length_of_pairs : (subtree : List ℕ) (held : Held) → length (pairs_of subtree held) ≡ length (entries held)
length_of_pairs subtree held = length-map {B = List ℕ × List ℕ} (entries held) (λ pair. (joined_text subtree pair.0, pair.1))

pub pair_there : (subtree : List ℕ) (held : Held) (count : ℕ) (rest value : List ℕ) → slice_get (entries held) count ≡ Some (rest, value) → (count < length (pairs_of subtree held)) × (get_or (pairs_of subtree held) count ([], []) ≡ (joined_text subtree rest, value))
pair_there subtree held count rest value is =
    let there = slice_get-some (entries held) count (rest, value) is in (
      omega (arith, there.0, length_of_pairs subtree held),
      get_or-map (λ (pair : List ℕ × List ℕ). (joined_text subtree pair.0, pair.1)) (entries held) count (rest, value) ([], []) there.0 ∙ ap (λ (pair : List ℕ × List ℕ). (joined_text subtree pair.0, pair.1)) there.1,
    )

pub pair_lawful : (limit : ℕ) (subtree : List ℕ) (held : Held) (count : ℕ) (rest value : List ℕ) → AreSettings limit (pairs_of subtree held) → slice_get (entries held) count ≡ Some (rest, value) → IsName (joined_text subtree rest) × IsValue limit value
pair_lawful limit subtree held count rest value lawful is =
    let there = pair_there subtree held count rest value is in
    subst (λ (pair : List ℕ × List ℕ). IsName pair.0 × IsValue limit pair.1) there.1 (lawful count ([], []) there.0)

-- the commands up to the pair at a place, and that pair's
pub puts_more : (subtree : List ℕ) (held : Held) (count : ℕ) (rest value : List ℕ) → slice_get (entries held) count ≡ Some (rest, value)
    → puts_of (take count (pairs_of subtree held)) ++ Put (joined_text subtree rest) value ∷ [] ≡ puts_of (take (count + 1) (pairs_of subtree held))
puts_more subtree held count rest value is =
    let there = pair_there subtree held count rest value is in
    sym (ap puts_of (take_more (pairs_of subtree held) count ([], []) there.0 ∙ ap (λ (e : List ℕ × List ℕ). take count (pairs_of subtree held) ++ e ∷ []) there.1)
    ∙ map-append (λ (pair : List ℕ × List ℕ). Put pair.0 pair.1) (take count (pairs_of subtree held)) ((joined_text subtree rest, value) ∷ []))

puts_split : (n : ℕ) (pairs : List (List ℕ × List ℕ)) → puts_of (take n pairs) ++ puts_of (drop n pairs) ≡ puts_of pairs
puts_split n pairs = sym (map-append (λ (pair : List ℕ × List ℕ). Put pair.0 pair.1) (take n pairs) (drop n pairs)) ∙ ap puts_of (take-append-drop n pairs)

-- and those behind it
pub puts_rest : (subtree : List ℕ) (held : Held) (count : ℕ) (rest value : List ℕ) → slice_get (entries held) count ≡ Some (rest, value)
    → (puts_of (take count (pairs_of subtree held)) ++ Put (joined_text subtree rest) value ∷ []) ++ puts_of (drop (count + 1) (pairs_of subtree held)) ≡ puts_of (pairs_of subtree held)
puts_rest subtree held count rest value is =
    ap (λ l. l ++ puts_of (drop (count + 1) (pairs_of subtree held))) (puts_more subtree held count rest value is) ∙ puts_split (count + 1) (pairs_of subtree held)

pub puts_all : (subtree : List ℕ) (held : Held) (count : ℕ) → slice_get (entries held) count ≡ None → puts_of (take count (pairs_of subtree held)) ≡ puts_of (pairs_of subtree held)
puts_all subtree held count none = ap puts_of (take_all count (pairs_of subtree held) (omega (arith, slice_get-none (entries held) count none, length_of_pairs subtree held)))

-- ---- one handler after the other

pub handlers_more : (subtree : Option (List ℕ)) (handlers : List Registered) (i : ℕ) → i < length handlers
    → puts_of (exported subtree (take i handlers)) ++ puts_of (exported_of subtree (get_or handlers i nobody)) ≡ puts_of (exported subtree (take (i + 1) handlers))
handlers_more subtree handlers i lt =
    sym (map-append (λ (pair : List ℕ × List ℕ). Put pair.0 pair.1) (exported subtree (take i handlers)) (exported_of subtree (get_or handlers i nobody)))
    ∙ ap puts_of (sym (ap (flat_map (exported_of subtree)) (take_more handlers i nobody lt) ∙ flat_map-append (exported_of subtree) (take i handlers) (get_or handlers i nobody ∷ []) ∙ ap (λ l. exported subtree (take i handlers) ++ l) (append-nil (exported_of subtree (get_or handlers i nobody)))))

pub handlers_rest : (subtree : Option (List ℕ)) (handlers : List Registered) (i : ℕ) → i < length handlers
    → (puts_of (exported subtree (take i handlers)) ++ puts_of (exported_of subtree (get_or handlers i nobody))) ++ puts_of (exported subtree (drop (i + 1) handlers)) ≡ puts_of (exported subtree handlers)
handlers_rest subtree handlers i lt =
    ap (λ l. l ++ puts_of (exported subtree (drop (i + 1) handlers))) (handlers_more subtree handlers i lt)
    ∙ sym (map-append (λ (pair : List ℕ × List ℕ). Put pair.0 pair.1) (exported subtree (take (i + 1) handlers)) (exported subtree (drop (i + 1) handlers)))
    ∙ ap puts_of (sym (flat_map-append (exported_of subtree) (take (i + 1) handlers) (drop (i + 1) handlers)) ∙ ap (flat_map (exported_of subtree)) (take-append-drop (i + 1) handlers))

pub handlers_all : (subtree : Option (List ℕ)) (handlers : List Registered) (i : ℕ) → length handlers ≤ i → puts_of (exported subtree (take i handlers)) ≡ puts_of (exported subtree handlers)
handlers_all subtree handlers i past = ap (λ l. puts_of (exported subtree l)) (take_all i handlers past)

pub other_part : (subtree : Option (List ℕ)) (h : Registered) → is_under subtree h.subtree ≡ false → exported_of subtree h ≡ []
other_part subtree h isnt = cond-false _ (pairs_of h.subtree h.state.held) [] isnt

pub lawful_pairs : (limit : ℕ) (handlers : List Registered) (i : ℕ) (own : List ℕ) (state : HandlerState) → i < length handlers → AreLawful limit handlers → own ≡ (get_or handlers i nobody).subtree → state ≡ (get_or handlers i nobody).state
    → AreSettings limit (pairs_of own state.held)
lawful_pairs limit handlers i own state lt lawful same is =
    subst (λ t. AreSettings limit (pairs_of t state.held)) (sym same)
    (subst (λ (s : HandlerState). AreSettings limit (pairs_of (get_or handlers i nobody).subtree s.held)) (sym is) (lawful i nobody lt))

pub pairs_there : (subtree : Option (List ℕ)) (handlers : List Registered) (i : ℕ) (own : List ℕ) (state : HandlerState) → own ≡ (get_or handlers i nobody).subtree → state ≡ (get_or handlers i nobody).state
    → is_under subtree (get_or handlers i nobody).subtree ≡ true → puts_of (pairs_of own state.held) ≡ puts_of (exported_of subtree (get_or handlers i nobody))
pairs_there subtree handlers i own state same is under =
    ap puts_of (ap (λ t. pairs_of t state.held) same ∙ ap (λ (s : HandlerState). pairs_of (get_or handlers i nobody).subtree s.held) is
    ∙ sym (cond-true _ (pairs_of (get_or handlers i nobody).subtree (get_or handlers i nobody).state.held) [] under))
