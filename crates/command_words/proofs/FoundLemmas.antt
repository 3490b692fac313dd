-- What `clap` found, read as a command.
use Rattle.std.proofs.Common.{◌≡◌, ◌≢◌, ◌∙◌, ◌⊎◌, ◌||◌, ◌++◌, Bool, true, false, List, [], ◌∷◌, Option, Some, None, drop, map, option_map, refl, sym, ap, ap₂, subst, codes, inl, inr, Global}
use Rattle.std.proofs.lemmas.List.{map-append}
use Rattle.std.specs.Prelude.{Box}
use Rattle.std.specs.List.{list_any}
use Rattle.std.specs.Fmt.{decimal}
use Rattle.std.specs.Str.{bytes_eq}
use Rattle.std.proofs.lemmas.Slice.Eq.{bytes_eq-Decides}
use Rattle.std.specs.Borrow.{Bor}
use Rattle.std.specs.Option.{option_map_or}
use Rattle.std.specs.Box.{box_value}
use Rattle.clap.specs.Walk.{Row, Text, first_of, rows_of}
use Rattle.clap.specs.Simple.{new_shape, subcommand_rows, subcommand_rows_of}
use Rattle.clap.specs.Matches.{first_value, subcommand_name_of}
use Rattle.clap.specs.declared.parser.matches.ArgMatches.{ArgMatches}
use Rattle.clap.specs.declared.parser.matches.ArgMatches.TheViews.{out-ArgMatches, out-SubCommand}
use Rattle.clap.specs.declared.parser.matches.SubCommand.{SubCommand}
use Rattle.clap.specs.declared.parser.matches.Found.{Found}
use Rattle.clap.proofs.WalkLemmas.{first_value-rows}
use Rattle.command_words.specs.Commands.{name_of, operands_of, store_word}
use Rattle.command_words.specs.Forms.{AreNoWords, FindsIn, IsFound, IsNoneFound, form, operand_names, operand_rule, values_at}
use Rattle.command_words.specs.Operands.{IsNoLineCount, IsNoStoreWord}
use Rattle.command_words.specs.declared.commands.Command.{Command}
use Rattle.command_words.specs.declared.commands.Command.TheVariants.{Build, Run, Dump, Migrate, Gen, Log, Items, Mirror}

found_at : (m : ArgMatches) (name : Text) (rows : List Row) → Some name ≡ subcommand_name_of m → Some rows ≡ option_map (λ p. p.1) (subcommand_rows_of m)
    → subcommand_rows_of m ≡ Some (name, rows)
found_at m name rows named is = go (out-ArgMatches m).subcommand named is
  where
    go : (o : Option (Box SubCommand Global)) → Some name ≡ option_map (λ b. (out-SubCommand (box_value b)).name.now) o
        → Some rows ≡ option_map (λ p. p.1) (subcommand_rows o) → subcommand_rows o ≡ Some (name, rows)
    go None named is = cc
    go (Some b) named is = cc

-- what was found by the word that names a form
pub found_in : (m : ArgMatches) (name word : Text) (rows : List Row) (result : Option Command) → Some name ≡ subcommand_name_of m
    → Some rows ≡ option_map (λ p. p.1) (subcommand_rows_of m) → name ≡ word → FindsIn (Some (word, rows)) result → FindsIn (subcommand_rows_of m) result
found_in m name word rows result named is same finds =
    let at : subcommand_rows_of m ≡ Some (word, rows) = found_at m name rows named is ∙ ap (λ n. Some (n, rows)) same in
    subst (λ (found : Option (Text × List Row)). FindsIn found result) (sym at) finds

same_found : (found : Option (Text × List Row)) (a b : Text) (these those : List Row) → found ≡ Some (a, these) → found ≡ Some (b, those) → (a ≡ b) × (these ≡ those)
same_found found a b these those at is =
    let e : Some (a, these) ≡ Some (b, those) = sym at ∙ is in
    (ap (λ o. option_map_or (λ p. p.0) o []) e, ap (λ o. option_map_or (λ p. p.1) o []) e)

-- two words are two where the test finds them so
pub apart : (a b : Text) → bytes_eq a b ≡ false → a ≢ b
apart a b differ same = let equal : bytes_eq a b ≡ true = (bytes_eq-Decides a b).1 same in cc

-- names of which one has no value are not the names of words
pub lacks_one : (id : Text) (names : List Text) (rows : List Row) (words : List Text) → list_any (λ name. bytes_eq name id) names ≡ true → first_of id rows ≡ None
    → map (λ name. first_of name rows) names ≡ map (λ word. Some word) words → ⊥
lacks_one id [] rows words among none values = cc
lacks_one id (name ∷ names) rows [] among none values = cc
lacks_one id (name ∷ names) rows (word ∷ words) among none values =
    go (bytes_eq name id) refl among (λ more. lacks_one id names rows words more none (ap (drop 1) values))
  where
    go : (b : Bool) → bytes_eq name id ≡ b → (b || list_any (λ name. bytes_eq name id) names) ≡ true → (list_any (λ name. bytes_eq name id) names ≡ true → ⊥) → ⊥
    go true same among rest =
        let is : name ≡ id = (bytes_eq-Decides name id).0 same in
        let lacks : first_of name rows ≡ None = ap (λ name. first_of name rows) is ∙ none in
        let value : first_of name rows ≡ Some word = cc values in cc (lacks, value)
    go false other among rest = rest among

-- a form with an operand that was not found is no command
pub lacks : (name id : Text) (rows : List Row) → list_any (λ n. bytes_eq n id) (operand_names name) ≡ true → first_of id rows ≡ None
    → IsNoneFound (Some (name, rows))
lacks name id rows among none c f =
    let same = same_found (Some (name, rows)) name (name_of c) rows f.rows refl f.at in
    let values : map (λ n. first_of n rows) (operand_names name) ≡ map (λ word. Some word) (operands_of c) =
    ap₂ (λ n rows. values_at (operand_names n) rows) same.0 same.1 ∙ f.values in
    lacks_one id (operand_names name) rows (operands_of c) among none values

-- the rows of a command that was found, at the operands of its form
pub found_values : (name : Text) (rows : List Row) (c : Command) → IsFound (Some (name, rows)) c
    → (name ≡ name_of c) × (values_at (operand_names name) rows ≡ map (λ word. Some word) (operands_of c))
found_values name rows c f =
    let same = same_found (Some (name, rows)) name (name_of c) rows f.rows refl f.at in
    (same.0, ap₂ (λ n rows. values_at (operand_names n) rows) same.0 same.1 ∙ f.values)

-- a form without all of its operands is no command
pub lacks_words : (name : Text) (rows : List Row) → AreNoWords (values_at (operand_names name) rows) → IsNoneFound (Some (name, rows))
lacks_words name rows none c f = none (operands_of c) (found_values name rows c f).1

-- a name that no form has is no command
pub other_name : (name : Text) (rows : List Row) → name ≢ codes "build" → name ≢ codes "run" → name ≢ codes "dump" → name ≢ codes "migrate" → name ≢ codes "gen" → name ≢ codes "log" → name ≢ codes "items" → name ≢ codes "mirror"
    → IsNoneFound (Some (name, rows))
other_name name rows build run dump migrate gen log items mirror (Build out spec) f = build (found_values name rows (Build out spec) f).0
other_name name rows build run dump migrate gen log items mirror (Run image script out) f = run (found_values name rows (Run image script out) f).0
other_name name rows build run dump migrate gen log items mirror (Dump image) f = dump (found_values name rows (Dump image) f).0
other_name name rows build run dump migrate gen log items mirror (Migrate image out) f = migrate (found_values name rows (Migrate image out) f).0
other_name name rows build run dump migrate gen log items mirror (Gen out backend n) f = gen (found_values name rows (Gen out backend n) f).0
other_name name rows build run dump migrate gen log items mirror (Log image script out) f = log (found_values name rows (Log image script out) f).0
other_name name rows build run dump migrate gen log items mirror (Items image script out) f = items (found_values name rows (Items image script out) f).0
other_name name rows build run dump migrate gen log items mirror (Mirror image script out) f = mirror (found_values name rows (Mirror image script out) f).0

-- ---- a generated script

-- a kind of store that no word names, or a number of lines that is none
pub no_gen : (rows : List Row) (kind lines : Text) → first_of (codes "BACKEND") rows ≡ Some kind → first_of (codes "N") rows ≡ Some lines
    → IsNoStoreWord kind ⊎ IsNoLineCount lines → IsNoneFound (Some (codes "gen", rows))
no_gen rows kind lines backend count none (Build out spec) f =
    apart (codes "gen") (codes "build") refl (found_values (codes "gen") rows (Build out spec) f).0
no_gen rows kind lines backend count none (Run image script out) f =
    apart (codes "gen") (codes "run") refl (found_values (codes "gen") rows (Run image script out) f).0
no_gen rows kind lines backend count none (Dump image) f =
    apart (codes "gen") (codes "dump") refl (found_values (codes "gen") rows (Dump image) f).0
no_gen rows kind lines backend count none (Migrate image out) f =
    apart (codes "gen") (codes "migrate") refl (found_values (codes "gen") rows (Migrate image out) f).0
no_gen rows kind lines backend count none (Log image script out) f =
    apart (codes "gen") (codes "log") refl (found_values (codes "gen") rows (Log image script out) f).0
no_gen rows kind lines backend count none (Items image script out) f =
    apart (codes "gen") (codes "items") refl (found_values (codes "gen") rows (Items image script out) f).0
no_gen rows kind lines backend count none (Mirror image script out) f =
    apart (codes "gen") (codes "mirror") refl (found_values (codes "gen") rows (Mirror image script out) f).0
no_gen rows kind lines backend count none (Gen out store n) f =
    let values : values_at (codes "OUT" ∷ codes "BACKEND" ∷ codes "N" ∷ []) rows ≡ Some out.now ∷ Some (store_word store) ∷ Some (decimal n) ∷ [] =
    (found_values (codes "gen") rows (Gen out store n) f).1 in
    let named : first_of (codes "BACKEND") rows ≡ Some (store_word store) = cc in
    let counted : first_of (codes "N") rows ≡ Some (decimal n) = cc in
    let kind_is : kind ≡ store_word store = cc in
    let lines_is : lines ≡ decimal n = cc in
    elim none [ inl lacks ↦ lacks store kind_is | inr lacks ↦ lacks n (lines_is, f.in_range) ]

-- the value of an operand, as the getter gives it
pub value_at : (f : Found) (id : Text) (o : Option (Bor Text)) (value : Option Text) → option_map (λ s. s.now) o ≡ first_value f id → option_map (λ s. s.now) o ≡ value
    → first_of id (rows_of f) ≡ value
value_at f id o value got is = sym (first_value-rows f id) ∙ sym got ∙ is

-- one operand more
pub form_more : (name : Text) (ids : List Text) (id : Text)
    → record (form name ids) { rules = (form name ids).rules ++ operand_rule id ∷ [] } ≡ form name (ids ++ id ∷ [])
form_more name ids id = ap (λ rules. record (new_shape name) { rules = rules }) (sym (map-append operand_rule ids (id ∷ [])))
