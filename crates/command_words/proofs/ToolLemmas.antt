-- The words of `image_tool`, by its forms.
use Rattle.std.proofs.Common.{◌≡◌, ◌∙◌, ◌⊎◌, inl, inr, MatchOption, true, false, List, [], ◌∷◌, Option, Some, None, map, refl, sym, ap, ap₂, subst, codes}
use Rattle.std.specs.Option.{option_map_or}
use Rattle.std.specs.List.{list_all}
use Rattle.clap.specs.Walk.{Row, Text}
use Rattle.clap.specs.Kinds.{IsAmong}
use Rattle.clap.specs.declared.error.kind.ErrorKind.{ErrorKind}
use Rattle.clap.specs.declared.error.kind.ErrorKind.TheVariants.{OutOfMemory}
use Rattle.clap.specs.declared.parser.matches.ArgMatches.{ArgMatches}
use Rattle.clap.specs.Simple.{App, HasMatchesOf, Shape, built, built_leaf, inherited, is_simple, subcommand_of, subcommand_rows_of}
use Rattle.clap.specs.Faults.{fault_of, is_simple_and_free}
use Rattle.clap.proofs.OnLiterals.{clap_on_literals}
use Rattle.command_words.specs.Commands.{IsCommand, IsNoCommand, asks_for_help, is_operand, name_of, operands_of}
use Rattle.command_words.specs.Forms.{FindsIn, IsFound, form, image_tool, operand_names, script_names, values_at}
use Rattle.command_words.specs.declared.commands.Command.{Command}
use Rattle.command_words.specs.declared.commands.Command.TheVariants.{Build, Run, Dump, Migrate, Gen, Log, Items, Mirror}
use Rattle.command_words.proofs.OperandWalk.{first_of_all, rest_of_all}
use Rattle.command_words.proofs.FormWalk.{IsEntered, began_with, entered_form, fault_of_form, fault_of_operands, operand_rows, operands_fault, rows_of_operands, takes_one, top_fault}

pub free_tool : is_simple_and_free image_tool ≡ true
free_tool = refl

pub simple_tool : is_simple image_tool ≡ true
simple_tool = refl

-- a form as it is built
abbrev pub built_form : Shape → Shape
built_form s = built_leaf (inherited image_tool.top s)

-- the form of a command
abbrev form_for : Command → Shape
form_for c = built_form (form (name_of c) (operand_names (name_of c)))

quiet_tool : top_fault (built image_tool).top ≡ []
unfolding clap_on_literals
quiet_tool = refl

entered_for : (c : Command) → IsEntered (built image_tool) (form_for c)
unfolding clap_on_literals
entered_for (Build out spec) = record { met = refl; no_help = refl; form = refl; quiet = quiet_tool }
entered_for (Run image script out) = record { met = refl; no_help = refl; form = refl; quiet = quiet_tool }
entered_for (Dump image) = record { met = refl; no_help = refl; form = refl; quiet = quiet_tool }
entered_for (Migrate image out) = record { met = refl; no_help = refl; form = refl; quiet = quiet_tool }
entered_for (Gen out backend n) = record { met = refl; no_help = refl; form = refl; quiet = quiet_tool }
entered_for (Log image script out) = record { met = refl; no_help = refl; form = refl; quiet = quiet_tool }
entered_for (Items image script out) = record { met = refl; no_help = refl; form = refl; quiet = quiet_tool }
entered_for (Mirror image script out) = record { met = refl; no_help = refl; form = refl; quiet = quiet_tool }

named_for : (c : Command) → (form_for c).name ≡ name_of c
named_for c = refl

ones_for : (c : Command) → list_all takes_one (form_for c).rules ≡ true
ones_for (Build out spec) = refl
ones_for (Run image script out) = refl
ones_for (Dump image) = refl
ones_for (Migrate image out) = refl
ones_for (Gen out backend n) = refl
ones_for (Log image script out) = refl
ones_for (Items image script out) = refl
ones_for (Mirror image script out) = refl

script_taken : (name image script out : Text) → operands_fault (built_form (form name script_names)) (image ∷ script ∷ out ∷ []) ≡ []
unfolding clap_on_literals
script_taken name image script out = refl

-- the form takes its operands
taken_for : (c : Command) → operands_fault (form_for c) (operands_of c) ≡ []
unfolding clap_on_literals
taken_for (Build out spec) = refl
taken_for (Run image script out) = script_taken (codes "run") image.now script.now out.now
taken_for (Dump image) = refl
taken_for (Migrate image out) = refl
taken_for (Gen out backend n) = refl
taken_for (Log image script out) = script_taken (codes "log") image.now script.now out.now
taken_for (Items image script out) = script_taken (codes "items") image.now script.now out.now
taken_for (Mirror image script out) = script_taken (codes "mirror") image.now script.now out.now

-- words that a form takes are the values of its operands, in their order
abbrev ReadsAll : Text → List Text → Type 0
ReadsAll name ids = (words : List Text) → operands_fault (built_form (form name ids)) words ≡ []
    → values_at ids (operand_rows (built_form (form name ids)) words) ≡ map (λ word. Some word) words

build_read : ReadsAll (codes "build") (codes "OUT" ∷ codes "SPEC" ∷ [])
unfolding clap_on_literals
build_read [] none = cc
build_read (a ∷ []) none = cc
build_read (a ∷ b ∷ []) none = refl
build_read (a ∷ b ∷ c ∷ more) none = cc

script_read : (name : Text) → ReadsAll name script_names
unfolding clap_on_literals
script_read name [] none = cc
script_read name (a ∷ []) none = cc
script_read name (a ∷ b ∷ []) none = cc
script_read name (a ∷ b ∷ c ∷ []) none = refl
script_read name (a ∷ b ∷ c ∷ d ∷ more) none = cc

dump_read : ReadsAll (codes "dump") (codes "IMAGE" ∷ [])
unfolding clap_on_literals
dump_read [] none = cc
dump_read (a ∷ []) none = refl
dump_read (a ∷ b ∷ more) none = cc

migrate_read : ReadsAll (codes "migrate") (codes "IMAGE" ∷ codes "OUT" ∷ [])
unfolding clap_on_literals
migrate_read [] none = cc
migrate_read (a ∷ []) none = cc
migrate_read (a ∷ b ∷ []) none = refl
migrate_read (a ∷ b ∷ c ∷ more) none = cc

gen_read : ReadsAll (codes "gen") (codes "OUT" ∷ codes "BACKEND" ∷ codes "N" ∷ [])
unfolding clap_on_literals
gen_read [] none = cc
gen_read (a ∷ []) none = cc
gen_read (a ∷ b ∷ []) none = cc
gen_read (a ∷ b ∷ c ∷ []) none = refl
gen_read (a ∷ b ∷ c ∷ d ∷ more) none = cc

read_for : (c : Command) (words : List Text) → operands_fault (form_for c) words ≡ []
    → values_at (operand_names (name_of c)) (operand_rows (form_for c) words) ≡ map (λ word. Some word) words
read_for (Build out spec) words none = build_read words none
read_for (Run image script out) words none = script_read (codes "run") words none
read_for (Dump image) words none = dump_read words none
read_for (Migrate image out) words none = migrate_read words none
read_for (Gen out backend n) words none = gen_read words none
read_for (Log image script out) words none = script_read (codes "log") words none
read_for (Items image script out) words none = script_read (codes "items") words none
read_for (Mirror image script out) words none = script_read (codes "mirror") words none

-- ---- both ways

form_found : (c : Command) (operands : List Text) → list_all is_operand operands ≡ true
    → (fault_of image_tool ((form_for c).name ∷ operands) ≡ operands_fault (form_for c) operands)
    × (subcommand_of image_tool ((form_for c).name ∷ operands) ≡ Some ((form_for c).name, operand_rows (form_for c) operands))
form_found c operands h =
    let s = form_for c in
    let e = entered_for c in
    let ones = ones_for c in (
      fault_of_form (built image_tool) s operands e ∙ fault_of_operands s operands ones h,
      entered_form (built image_tool) s operands e ∙ ap (λ rows. Some (s.name, rows)) (rows_of_operands s operands ones h),
    )

-- the words of a command do not fail, and are found to be it
pub command_found : (words : List Text) (c : Command) → IsCommand words c → (fault_of image_tool words ≡ []) × IsFound (subcommand_of image_tool words) c
command_found words c w =
    let s = form_for c in
    let found = form_found c (operands_of c) w.operands in
    let written : words ≡ s.name ∷ operands_of c = w.written ∙ ap (λ name. name ∷ operands_of c) (sym (named_for c)) in (
      ap (fault_of image_tool) written ∙ found.0 ∙ taken_for c,
      record {
        rows = operand_rows s (operands_of c);
        at = ap (subcommand_of image_tool) written ∙ found.1 ∙ ap (λ name. Some (name, operand_rows s (operands_of c))) (named_for c);
        values = read_for c (operands_of c) (taken_for c);
        in_range = w.in_range;
      },
    )

same_words : (xs ys : List Text) → map (λ word. Some word) xs ≡ map (λ word. Some word) ys → xs ≡ ys
same_words [] [] e = refl
same_words [] (y ∷ ys) e = cc
same_words (x ∷ xs) [] e = cc
same_words (x ∷ xs) (y ∷ ys) e =
    let head : x ≡ y = cc in
    let rest : map (λ word. Some word) xs ≡ map (λ word. Some word) ys = cc in
    ap₂ (λ w ws. w ∷ ws) head (same_words xs ys rest)

-- words that do not fail, and are found to be a command, are its words
pub found_is_command : (words : List Text) (c : Command) → list_all is_operand words ≡ true → fault_of image_tool words ≡ [] → IsFound (subcommand_of image_tool words) c
    → IsCommand words c
found_is_command [] c all none f =
    cc f.at
found_is_command (word ∷ rest) c all none f =
    let s = form_for c in
    let rows_in : Option (Text × List Row) → List Row = λ o. option_map_or (λ p. p.1) o [] in
    let by_name : word ≡ name_of c = began_with (built image_tool) word rest (name_of c) f.rows refl refl (first_of_all word rest all) none f.at in
    let by_form : word ≡ s.name = by_name ∙ sym (named_for c) in
    let found = form_found c rest (rest_of_all word rest all) in
    let taken : operands_fault s rest ≡ [] = sym found.0 ∙ ap (λ w. fault_of image_tool (w ∷ rest)) (sym by_form) ∙ none in
    let rows : f.rows ≡ operand_rows s rest = ap rows_in (sym f.at ∙ ap (λ w. subcommand_of image_tool (w ∷ rest)) by_form ∙ found.1) in
    let operands : rest ≡ operands_of c = same_words rest (operands_of c) (sym (read_for c rest taken) ∙ ap (values_at (operand_names (name_of c))) (sym rows) ∙ f.values) in
    record {
      written = ap₂ (λ w ws. w ∷ ws) by_name operands;
      operands = subst (λ ws. list_all is_operand ws ≡ true) operands (rest_of_all word rest all);
      in_range = f.in_range;
    }

-- ---- words that are refused before the parse

pub command_operands : (words : List Text) (c : Command) → IsCommand words c → list_all is_operand words ≡ true
command_operands words c w = ap (list_all is_operand) w.written ∙ named c (operands_of c) w.operands
  where
    named : (c : Command) (operands : List Text) → list_all is_operand operands ≡ true → list_all is_operand (name_of c ∷ operands) ≡ true
    named (Build out spec) operands h = h
    named (Run image script out) operands h = h
    named (Dump image) operands h = h
    named (Migrate image out) operands h = h
    named (Gen out backend n) operands h = h
    named (Log image script out) operands h = h
    named (Items image script out) operands h = h
    named (Mirror image script out) operands h = h

pub command_no_help : (words : List Text) (c : Command) → IsCommand words c → asks_for_help words ≡ false
command_no_help words c w = ap asks_for_help w.written ∙ named c
  where
    named : (c : Command) → asks_for_help (name_of c ∷ operands_of c) ≡ false
    named (Build out spec) = refl
    named (Run image script out) = refl
    named (Dump image) = refl
    named (Migrate image out) = refl
    named (Gen out backend n) = refl
    named (Log image script out) = refl
    named (Items image script out) = refl
    named (Mirror image script out) = refl

-- ---- what a parse says of the words

-- of a parse that did not fail, what it found
pub reads_found : (a : App) (words : List Text) (m : ArgMatches) (found : Option Command) → a ≡ image_tool → list_all is_operand words ≡ true
    → HasMatchesOf a words m → (is_simple_and_free a ≡ true → fault_of a words ≡ [])
    → FindsIn (subcommand_rows_of m) found → MatchOption found (IsNoCommand words) (IsCommand words)
reads_found a words m found same all matches free is = go found is
  where
    rows : subcommand_rows_of m ≡ subcommand_of image_tool words
    rows = (matches (ap is_simple same ∙ simple_tool)).1 ∙ ap (λ app. subcommand_of app words) same

    go : (o : Option Command) → FindsIn (subcommand_rows_of m) o → MatchOption o (IsNoCommand words) (IsCommand words)
    go None none = λ c w. none c (subst (λ rows. IsFound rows c) (sym rows) (command_found words c w).1)
    go (Some c) is =
        found_is_command words c all (ap (λ app. fault_of app words) (sym same) ∙ free (ap is_simple_and_free same ∙ free_tool)) (subst (λ rows. IsFound rows c) rows is)

-- a parse that failed, and not for want of memory
pub reads_none : (a : App) (words : List Text) (kind : ErrorKind) → a ≡ image_tool → (is_simple_and_free a ≡ true → (kind ≡ OutOfMemory) ⊎ IsAmong kind (fault_of a words))
    → (kind ≡ OutOfMemory → ⊥) → IsNoCommand words
reads_none a words kind same fails other c w =
    let free : fault_of a words ≡ [] = ap (λ app. fault_of app words) same ∙ (command_found words c w).0 in
    elim (fails (ap is_simple_and_free same ∙ free_tool)) [ inl memory ↦ other memory | inr among ↦ subst (IsAmong kind) free among ]
