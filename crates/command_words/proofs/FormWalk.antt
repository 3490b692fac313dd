-- A program whose words begin with the name of a form: what a parse of its words finds, and when it fails.
use Rattle.std.proofs.Common.{◌≡◌, ◌∙◌, ◌==◌, ◌&&◌, ◌||◌, Bool, true, false, not, List, [], ◌∷◌, Option, Some, None, option_map, is_some, map, refl, sym, ap, ap₂, subst, cond}
use Rattle.std.specs.Prelude.{fold, find}
use Rattle.std.specs.List.{list_all}
use Rattle.std.specs.Option.{option_map_or}
use Rattle.std.specs.Str.{bytes_eq}
use Rattle.std.proofs.lemmas.Slice.Eq.{bytes_eq-Decides}
use Rattle.clap.specs.Walk.{Held, Names, Row, Rule, Text, Walk, answers_to, arg_by_index, finished, idle, is_multiple, nothing_held, rows_after, settled, stop_after, subcommand_met, walk, walk_from}
use Rattle.clap.specs.Kinds.{Kinds, or_else}
use Rattle.clap.specs.Simple.{App, Shape, entered, label_of, names_of, rows_at}
use Rattle.clap.specs.Faults.{built_fault, check_fault, defaults_fault, entered_fault, level_fault, other_fault, settle_fault, stray_fault, turn_fault, walk_fault}
use Rattle.command_words.specs.Commands.{is_operand}
use Rattle.command_words.proofs.OperandWalk.{IsSingle, form_walk, form_walk_fault, named_walk, named_walk_fault, placed, placed_fault, starts_idle, turn_operand}

-- ---- lists of kinds

or_else-none : (a : Kinds) → or_else a [] ≡ a
or_else-none [] = refl
or_else-none (k ∷ ks) = refl

first_none : (a b : Kinds) → or_else a b ≡ [] → a ≡ []
first_none [] b none = refl
first_none (k ∷ ks) b none = cc

stray_is_some : (s : Shape) → stray_fault s ≡ [] → ⊥
stray_is_some s none = go s.is_leaf none
  where
    go : (b : Bool) → stray_fault (record s { is_leaf = b }) ≡ [] → ⊥
    go true none = cc
    go false none = cc

-- ---- the first that passes a test

pub find_both : {X : Type 0} (p q : X → Bool) (xs : List X) (x : X) → list_all q xs ≡ true → find p xs ≡ Some x → (p x ≡ true) × (q x ≡ true)
find_both p q [] x all at = cc
find_both p q (y ∷ ys) x all at = go (p y) refl (q y) refl all at (λ more. find_both p q ys x more)
  where
    go : (b : Bool) → p y ≡ b → (k : Bool) → q y ≡ k → (k && list_all q ys) ≡ true → cond b (Some y) (find p ys) ≡ Some x
        → (list_all q ys ≡ true → find p ys ≡ Some x → (p x ≡ true) × (q x ≡ true)) → (p x ≡ true) × (q x ≡ true)
    go true e true k all at next = let same : y ≡ x = cc in (subst (λ z. p z ≡ true) same e, subst (λ z. q z ≡ true) same k)
    go true e false k all at next = cc
    go false e true k all at next = next all at
    go false e false k all at next = cc

abbrev pub takes_one : Rule → Bool
takes_one a = not (is_multiple a) && not a.trailing_var_arg

takes_one_is : (several trailing : Bool) → (not several && not trailing) ≡ true → (several ≡ false) × (trailing ≡ false)
takes_one_is true trailing h = cc
takes_one_is false true h = cc
takes_one_is false false h = (refl, refl)

pub single_rules : (c : List Rule) → list_all takes_one c ≡ true → IsSingle c
single_rules c all place a at =
    takes_one_is (is_multiple a) a.trailing_var_arg (find_both (λ r. option_map_or (λ k. k == place) r.index false) takes_one c a all at).1

-- ---- the names of the forms, which have no other name

abbrev has_none : List Text → Bool
has_none [] = true
has_none (alias ∷ aliases) = false

abbrev pub has_one_name : Shape → Bool
has_one_name s = has_none s.aliases

answers_by_name : (word name : Text) (aliases : List Text) → has_none aliases ≡ true → answers_to word (name, aliases) ≡ true → name ≡ word
answers_by_name word name [] alone h = go (bytes_eq name word) refl h
  where
    go : (b : Bool) → bytes_eq name word ≡ b → (b || false) ≡ true → name ≡ word
    go true e h = (bytes_eq-Decides name word).0 e
    go false e h = cc
answers_by_name word name (alias ∷ aliases) alone h = cc

met_by_name : (subs : List Shape) (word name : Text) → list_all has_one_name subs ≡ true → subcommand_met (map label_of subs) idle word ≡ Some name → name ≡ word
met_by_name [] word name alone met = cc
met_by_name (s ∷ subs) word name alone met = go (answers_to word (label_of s)) refl (has_one_name s) refl alone met (λ more. met_by_name subs word name more)
  where
    go : (b : Bool) → answers_to word (label_of s) ≡ b → (k : Bool) → has_one_name s ≡ k → (k && list_all has_one_name subs) ≡ true
        → option_map (λ l. l.0) (cond b (Some (label_of s)) (find (answers_to word) (map label_of subs))) ≡ Some name
        → (list_all has_one_name subs ≡ true → subcommand_met (map label_of subs) idle word ≡ Some name → name ≡ word) → name ≡ word
    go true e true k alone met next = let same : s.name ≡ name = cc in sym same ∙ answers_by_name word s.name s.aliases k e
    go false e true k alone met next = next alone met
    go b e false k alone met next = cc

-- ---- a parse whose first word names a form

-- what the words before the form may fail by, once a form is entered
abbrev pub top_fault : Shape → Kinds
top_fault s = or_else (settle_fault s.rules s.args_override_self nothing_held)
    (or_else (defaults_fault (settled s.rules nothing_held).rows s.rules) (check_fault s (finished s.rules nothing_held) true))

-- the form s is entered by its name
pub record IsEntered (a : App) (s : Shape) : Type 0 where
  pub met : subcommand_met (names_of a) idle s.name ≡ Some s.name
  pub no_help : other_fault a.top (Some s.name) s.name nothing_held ≡ []
  pub form : find (λ sub. answers_to s.name (label_of sub)) a.subs ≡ Some s
  pub quiet : top_fault a.top ≡ []

pub entered_form : (a : App) (s : Shape) (rest : List Text) → IsEntered a s
    → entered a (stop_after a.top.rules (names_of a) (s.name ∷ rest)) ≡ Some (s.name, rows_after s.rules [] rest)
entered_form a s rest e =
    ap (λ w. entered a w.stopped) (named_walk a.top.rules (names_of a) s.name s.name rest e.met) ∙ ap (option_map (λ sub. rows_at sub rest)) e.form

-- the kinds by which the whole parse fails, from where its walk ends and how that fails
abbrev built_at : App → Walk → Kinds → Kinds
built_at a w walk = or_else walk
    (or_else (entered_fault a w.stopped) (or_else (settle_fault a.top.rules a.top.args_override_self w.held)
    (or_else (defaults_fault (settled a.top.rules w.held).rows a.top.rules) (check_fault a.top (finished a.top.rules w.held) (is_some (entered a w.stopped))))))

-- the same, where the form is what was found
abbrev form_at : App → List Text → Option Shape → Kinds
form_at a rest found = or_else (option_map_or (λ sub. level_fault sub [] nothing_held rest false []) found [])
    (or_else (settle_fault a.top.rules a.top.args_override_self nothing_held)
    (or_else (defaults_fault (settled a.top.rules nothing_held).rows a.top.rules)
    (check_fault a.top (finished a.top.rules nothing_held) (is_some (option_map (λ sub. rows_at sub rest) found)))))

pub fault_of_form : (a : App) (s : Shape) (rest : List Text) → IsEntered a s
    → built_fault a nothing_held (s.name ∷ rest) ≡ level_fault s [] nothing_held rest false []
fault_of_form a s rest e =
    ap₂ (built_at a) (named_walk a.top.rules (names_of a) s.name s.name rest e.met) (named_walk_fault a.top (names_of a) s.name s.name rest e.met e.no_help)
    ∙ ap (form_at a rest) e.form
    ∙ ap (or_else (level_fault s [] nothing_held rest false [])) e.quiet
    ∙ or_else-none (level_fault s [] nothing_held rest false [])

first_turn : (s : Shape) (names : Names) (word : Text) (rest : List Text) → walk_fault s names (walk_from nothing_held) (word ∷ rest) ≡ []
    → turn_fault s names (walk_from nothing_held) word ≡ []
unfolding walk_fault
first_turn s names word rest none = first_none (turn_fault s names (walk_from nothing_held) word) _ none

-- a parse that does not fail and finds a form began with its name
pub began_with : (a : App) (word : Text) (rest : List Text) (name : Text) (rows : List Row) → list_all has_one_name a.subs ≡ true → arg_by_index a.top.rules 1 ≡ None
    → is_operand word ≡ true → built_fault a nothing_held (word ∷ rest) ≡ [] → entered a (stop_after a.top.rules (names_of a) (word ∷ rest)) ≡ Some (name, rows) → word ≡ name
began_with a word rest name rows alone no_place h none found = go (subcommand_met (names_of a) idle word) refl
  where
    named : (o : Option Shape) (met : Text) → find (λ sub. answers_to met (label_of sub)) a.subs ≡ o → option_map (λ s. rows_at s rest) o ≡ Some (name, rows) → met ≡ name
    named None met at is = cc
    named (Some s) met at is =
        let both = find_both (λ sub. answers_to met (label_of sub)) has_one_name a.subs s alone at in
        let same : s.name ≡ name = ap (λ found. option_map_or (λ p. p.0) found []) is in
        sym (answers_by_name met s.name s.aliases both.1 both.0) ∙ same

    go : (o : Option Text) → subcommand_met (names_of a) idle word ≡ o → word ≡ name
    go None met =
        let stray : turn_fault a.top (names_of a) (walk_from nothing_held) word ≡ stray_fault a.top =
        turn_operand a.top (names_of a) (walk_from nothing_held) word (starts_idle nothing_held) met h ∙ (rw no_place refl) in
        let walk_none = first_none (walk_fault a.top (names_of a) (walk_from nothing_held) (word ∷ rest)) _ none in
        absurd (stray_is_some a.top (sym stray ∙ first_turn a.top (names_of a) word rest walk_none))
    go (Some met) at =
        let by_name = met_by_name a.subs word met alone at in
        let stop = ap (λ w. w.stopped) (named_walk a.top.rules (names_of a) word met rest at) in
        let is : entered a (Some (met, rest)) ≡ Some (name, rows) = ap (entered a) (sym stop) ∙ found in
        sym by_name ∙ named (find (λ sub. answers_to met (label_of sub)) a.subs) met refl is

-- ---- the words after the name

-- the kinds by which a form fails, from what is held at its end and how its walk fails
abbrev pub level_at : Shape → Held → Kinds → Kinds
level_at s end walk = or_else walk
    (or_else [] (or_else (settle_fault s.rules s.args_override_self end)
    (or_else (defaults_fault (settled s.rules end).rows s.rules) (check_fault s (finished s.rules end) false))))

-- the same, where each word goes to the positional of its place
abbrev pub operands_fault : Shape → List Text → Kinds
operands_fault s words = level_at s (fold (placed s.rules) (walk_from nothing_held) words).held (placed_fault s (walk_from nothing_held) words)

abbrev pub operand_rows : Shape → List Text → List Row
operand_rows s words = finished s.rules (fold (placed s.rules) (walk_from nothing_held) words).held

pub fault_of_operands : (s : Shape) (words : List Text) → list_all takes_one s.rules ≡ true → list_all is_operand words ≡ true
    → level_fault s [] nothing_held words false [] ≡ operands_fault s words
fault_of_operands s words ones h =
    let single = single_rules s.rules ones in
    ap₂ (level_at s) (ap (λ w. w.held) (form_walk s.rules words single h)) (form_walk_fault s words single h)

pub rows_of_operands : (s : Shape) (words : List Text) → list_all takes_one s.rules ≡ true → list_all is_operand words ≡ true
    → rows_after s.rules [] words ≡ operand_rows s words
rows_of_operands s words ones h = ap (λ w. finished s.rules w.held) (form_walk s.rules words (single_rules s.rules ones) h)
