-- The program, given one form after the other.
use Rattle.std.proofs.Common.{◌≡◌, ◌∙◌, ◌+◌, ◌<◌, ◌≤◌, ℕ, List, [], ◌∷◌, true, map, take, length, get_or, refl, sym, ap, ap₂, codes, false}
use Rattle.std.specs.Prelude.{fold}
use Rattle.std.specs.Borrow.{Bor}
use Rattle.std.proofs.lemmas.List.{take_all}
use Rattle.std.proofs.lemmas.List.Sums.{fold_more}
use Rattle.clap.specs.Built.{AddsSubcommand}
use Rattle.clap.specs.Simple.{App, Shape, app_of, new_shape, shape_of, with_subcommand}
use Rattle.clap.specs.Walk.{Text}
use Rattle.clap.specs.declared.builder.command.Command.{Command}
use Rattle.clap.specs.declared.builder.command.Command.TheViews.{out-Command as fields_of}
use Rattle.command_words.specs.Forms.{form, forms, image_tool}

-- the program, before it is given a form
abbrev pub started : App
started = record { top = record (new_shape (codes "image_tool")) { no_binary_name = true }; subs = [] }

-- a row of the table: a name, and the names of the operands
abbrev pub Row : Type 0
Row = Bor Text × Bor (List (Bor Text))

abbrev pub form_of : Row → Shape
form_of row = form row.0.now (map (λ s. s.now) row.1.now)

-- the program, given these
abbrev pub reported : List Row → App
reported rows = fold (λ app row. with_subcommand app (form_of row)) started rows

-- a row, as the definition of the forms has it
abbrev named : Row → Text × List Text
named row = (row.0.now, map (λ s. s.now) row.1.now)

abbrev with_form : App → Text × List Text → App
with_form app f = with_subcommand app (form f.0 f.1)

folded : (rows : List Row) (app : App) → fold (λ app row. with_subcommand app (form_of row)) app rows ≡ fold with_form app (map named rows)
folded [] app = refl
folded (row ∷ rows) app = folded rows (with_subcommand app (form_of row))

-- rows that are the forms make the program
pub reported_forms : (rows : List Row) → map (λ (row : Row). (row.0.now, map (λ s. s.now) row.1.now)) rows ≡ forms → reported rows ≡ image_tool
reported_forms rows are = folded rows started ∙ ap (fold with_form started) are

-- one row more
pub reported_more : (rows : List Row) (i : ℕ) (d : Row) (old sub new : Command) → i < length rows → app_of old ≡ reported (take i rows)
    → shape_of sub ≡ form_of (get_or rows i d) → (fields_of sub).has_globals ≡ false → AddsSubcommand old sub new → app_of new ≡ reported (take (i + 1) rows)
reported_more rows i d old sub new within was is local adds =
    adds.shape local ∙ ap₂ with_subcommand was is ∙ sym (fold_more (λ app row. with_subcommand app (form_of row)) started rows i d within)

-- all rows
pub reported_all : (rows : List Row) (i : ℕ) (tool : Command) → length rows ≤ i → reported rows ≡ image_tool → app_of tool ≡ reported (take i rows) → app_of tool ≡ image_tool
reported_all rows i tool all is was = was ∙ ap reported (take_all i rows all) ∙ is
