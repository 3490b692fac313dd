-- The walk of `clap` over words that are operands, at any command whose positionals take one word each, and over words
-- of which the first names a form.
use Rattle.std.proofs.Common.{◌≡◌, ◌∙◌, ◌==◌, ◌&&◌, ◌++◌, ℕ, Bool, true, false, not, List, [], ◌∷◌, Option, Some, None, refl, sym, ap, ap₂, append_assoc}
use Rattle.std.specs.Prelude.{fold}
use Rattle.std.specs.List.{list_all}
use Rattle.std.specs.Str.{bytes_eq}
use Rattle.std.proofs.lemmas.List.{append-nil}
use Rattle.clap.specs.Lexer.{long_of, short_of}
use Rattle.clap.specs.Walk.{Held, Names, Rule, Text, Walk, arg_by_index, idle, is_multiple, nothing_held, subcommand_met, to_positional, value, walk, walk_from, walked}
use Rattle.clap.specs.Kinds.{Kinds, or_else}
use Rattle.clap.specs.Simple.{Shape}
use Rattle.clap.specs.Faults.{other_fault, step_fault, turn_fault, walk_fault}
use Rattle.command_words.specs.Commands.{is_operand}

-- ---- what the lexer makes of an operand

no_hyphen : (b : Bool) → not b ≡ true → b ≡ false
no_hyphen true h = cc
no_hyphen false h = refl

not_two_hyphens : (word : Text) → is_operand word ≡ true → bytes_eq word (45 ∷ 45 ∷ []) ≡ false
not_two_hyphens [] h = cc
not_two_hyphens (first ∷ rest) h = rw (no_hyphen (first == 45) h) refl

no_long : (word : Text) → is_operand word ≡ true → long_of word ≡ None
no_long [] h = cc
no_long (first ∷ rest) h = rw (no_hyphen (first == 45) h) refl

no_short : (word : Text) → is_operand word ≡ true → short_of word ≡ None
no_short [] h = cc
no_short (first ∷ rest) h = rw (no_hyphen (first == 45) h) refl

pub first_of_all : (word : Text) (rest : List Text) → list_all is_operand (word ∷ rest) ≡ true → is_operand word ≡ true
first_of_all word rest h = go (is_operand word) h
  where
    go : (b : Bool) → (b && list_all is_operand rest) ≡ true → b ≡ true
    go true h = refl
    go false h = h

pub rest_of_all : (word : Text) (rest : List Text) → list_all is_operand (word ∷ rest) ≡ true → list_all is_operand rest ≡ true
rest_of_all word rest h = go (is_operand word) h
  where
    go : (b : Bool) → (b && list_all is_operand rest) ≡ true → list_all is_operand rest ≡ true
    go true h = h
    go false h = cc

-- ---- operands, each of which goes to the positional of its place

-- nothing waits for a word, and the walk goes on
pub record IsIdle (w : Walk) : Type 0 where
  pub waiting : w.waiting ≡ idle
  pub leading : w.is_trailing ≡ false
  pub going : w.stopped ≡ None

-- each positional takes one word
abbrev pub IsSingle : List Rule → Type 0
IsSingle c = (place : ℕ) (a : Rule) → arg_by_index c place ≡ Some a → (is_multiple a ≡ false) × (a.trailing_var_arg ≡ false)

-- the word goes to the positional of the place
abbrev pub placed : List Rule → Walk → Text → Walk
placed c w word = to_positional c (arg_by_index c w.position) word w w.held

abbrev pub placed_fault : Shape → Walk → List Text → Kinds
placed_fault s w [] = []
placed_fault s w (word ∷ rest) = or_else (step_fault s w.position w.held value) (placed_fault s (placed s.rules w word) rest)

pub walked_operand : (c : List Rule) (names : Names) (w : Walk) (word : Text) → IsIdle w → subcommand_met names idle word ≡ None → is_operand word ≡ true
    → walked c names w word ≡ placed c w word
unfolding walked
walked_operand c names w word still met h = rw (still.going, still.leading, still.waiting, met, not_two_hyphens word h, no_long word h, no_short word h) refl

pub turn_operand : (s : Shape) (names : Names) (w : Walk) (word : Text) → IsIdle w → subcommand_met names idle word ≡ None → is_operand word ≡ true
    → turn_fault s names w word ≡ step_fault s w.position w.held value
turn_operand s names w word still met h = rw (still.going, still.leading, still.waiting, met, not_two_hyphens word h, no_long word h, no_short word h) refl

idle_after : (c : List Rule) (w : Walk) (word : Text) → IsSingle c → IsIdle w → IsIdle (placed c w word)
idle_after c w word single still = go (arg_by_index c w.position) refl
  where
    go : (o : Option Rule) → arg_by_index c w.position ≡ o → IsIdle (to_positional c o word w w.held)
    go None at = record { waiting = still.waiting; leading = still.leading; going = still.going }
    go (Some a) at =
        let one = single w.position a at in
        record { waiting = rw one.0 refl; leading = rw (still.leading, one.1) refl; going = refl }

walk_placed : (c : List Rule) (w : Walk) (words : List Text) → IsSingle c → IsIdle w → list_all is_operand words ≡ true
    → fold (walked c []) w words ≡ fold (placed c) w words
walk_placed c w [] single still h = refl
walk_placed c w (word ∷ rest) single still h =
    ap (λ v. fold (walked c []) v rest) (walked_operand c [] w word still refl (first_of_all word rest h))
    ∙ walk_placed c (placed c w word) rest single (idle_after c w word single still) (rest_of_all word rest h)

fault_placed : (s : Shape) (w : Walk) (words : List Text) → IsSingle s.rules → IsIdle w → list_all is_operand words ≡ true
    → walk_fault s [] w words ≡ placed_fault s w words
unfolding walk_fault
fault_placed s w [] single still h = refl
fault_placed s w (word ∷ rest) single still h =
    ap₂ or_else (turn_operand s [] w word still refl (first_of_all word rest h))
    (ap (λ v. walk_fault s [] v rest) (walked_operand s.rules [] w word still refl (first_of_all word rest h))
    ∙ fault_placed s (placed s.rules w word) rest single (idle_after s.rules w word single still) (rest_of_all word rest h))

pub starts_idle : (h : Held) → IsIdle (walk_from h)
starts_idle h = record { waiting = refl; leading = refl; going = refl }

-- the words of a form after its name, at the places of its operands
pub form_walk : (c : List Rule) (words : List Text) → IsSingle c → list_all is_operand words ≡ true
    → walk c [] nothing_held words ≡ fold (placed c) (walk_from nothing_held) words
form_walk c words single h = walk_placed c (walk_from nothing_held) words single (starts_idle nothing_held) h

pub form_walk_fault : (s : Shape) (words : List Text) → IsSingle s.rules → list_all is_operand words ≡ true
    → walk_fault s [] (walk_from nothing_held) words ≡ placed_fault s (walk_from nothing_held) words
form_walk_fault s words single h = fault_placed s (walk_from nothing_held) words single (starts_idle nothing_held) h

-- ---- a first word that names a form

stopped_walk : (c : List Rule) (names : Names) (w : Walk) (name : Text) (done rest : List Text)
    → fold (walked c names) (record w { stopped = Some (name, done) }) rest ≡ record w { stopped = Some (name, done ++ rest) }
unfolding walked
stopped_walk c names w name done [] = ap (λ l. record w { stopped = Some (name, l) }) (sym (append-nil done))
stopped_walk c names w name done (word ∷ rest) =
    stopped_walk c names w name (done ++ word ∷ []) rest ∙ ap (λ l. record w { stopped = Some (name, l) }) (append_assoc done (word ∷ []) rest)

stopped_fault : (s : Shape) (names : Names) (w : Walk) (name : Text) (done rest : List Text)
    → walk_fault s names (record w { stopped = Some (name, done) }) rest ≡ []
unfolding walk_fault walked
stopped_fault s names w name done [] = refl
stopped_fault s names w name done (word ∷ rest) = stopped_fault s names w name (done ++ word ∷ []) rest

named_step : (c : List Rule) (names : Names) (word name : Text) → subcommand_met names idle word ≡ Some name
    → walked c names (walk_from nothing_held) word ≡ record (walk_from nothing_held) { stopped = Some (name, []) }
unfolding walked
named_step c names word name met = rw met refl

pub named_walk : (c : List Rule) (names : Names) (word name : Text) (rest : List Text) → subcommand_met names idle word ≡ Some name
    → walk c names nothing_held (word ∷ rest) ≡ record (walk_from nothing_held) { stopped = Some (name, rest) }
named_walk c names word name rest met =
    ap (λ v. fold (walked c names) v rest) (named_step c names word name met) ∙ stopped_walk c names (walk_from nothing_held) name [] rest

pub named_walk_fault : (s : Shape) (names : Names) (word name : Text) (rest : List Text) → subcommand_met names idle word ≡ Some name
    → other_fault s (Some name) word nothing_held ≡ [] → walk_fault s names (walk_from nothing_held) (word ∷ rest) ≡ []
unfolding walk_fault walked
named_walk_fault s names word name rest met quiet = rw (met, quiet) (stopped_fault s names (walk_from nothing_held) name [] rest)
