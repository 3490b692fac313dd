-- The image that a job begins with and the lines that it carries out, or why there are none; and
-- what it prints of the answers.
use Rattle.std.specs.Prelude.{◌≡◌, ℕ, Bool, true, false, Option, Some, None, List, [], ◌∷◌, codes}
use Rattle.text_parts.specs.Parts.{parts}
use Rattle.zs_host.specs.Outside.{Outside}
use Rattle.image_file.specs.Format.{Plain}
use Rattle.image_file.specs.Spec.{IsSpec, FirstBad, nothing_listed}
use Rattle.backend_api.specs.Map.{Map}
use Rattle.command_words.specs.declared.commands.StoreKind.{StoreKind}
use Rattle.command_words.specs.declared.commands.StoreKind.TheVariants as store
use Rattle.command_words.specs.Commands.{store_word}
use Rattle.script_lines.specs.declared.line.Line.{Line}
use Rattle.script_lines.specs.declared.line.Line.TheVariants as line
use Rattle.script_lines.specs.declared.answer.Answer.{Answer}
use Rattle.script_lines.specs.Generator.{generated}
use Rattle.image_jobs.specs.declared.jobs.Start.{Start}
use Rattle.image_jobs.specs.declared.jobs.Start.TheVariants.{File, Blank}
use Rattle.image_jobs.specs.declared.jobs.Source.{Source}
use Rattle.image_jobs.specs.declared.jobs.Source.TheVariants.{Script, Names, Migration, Generated}
use Rattle.image_jobs.specs.declared.jobs.Report.{Report}
use Rattle.image_jobs.specs.declared.jobs.Report.TheVariants.{All, Last, Summary}
use Rattle.image_jobs.specs.declared.jobs.Output.{Output}
use Rattle.image_jobs.specs.declared.jobs.Output.TheVariants.{Nowhere, Into}
use Rattle.image_jobs.specs.declared.stops.Refusal.{Refusal}
use Rattle.image_jobs.specs.declared.stops.Refusal.TheVariants.{BadSpec}
use Rattle.image_jobs.specs.Reading.{HasImage, LacksImage, HasScript, LacksScript}
use Rattle.image_jobs.specs.Texts.{texts, last_text, pairs_of, summary}

-- SPEC describes no image: one of its items is the first that is not lawful
abbrev pub LacksSpec : List ℕ → Refusal → Type 0
LacksSpec spec refusal = (refusal ≡ BadSpec) × (n : ℕ) × FirstBad nothing_listed (parts 44 spec) n

-- the blank image on which a generated script runs
abbrev pub blank_spec : StoreKind → List ℕ
blank_spec store.Nvs = codes "bank=erasing/4/4096/4,area=nvs/main/0/0/4"
blank_spec store.Zms = codes "bank=rewritable/16/4096/4,area=zms/main/0/0/4"
blank_spec store.Fcb = codes "bank=erasing/4/4096/4,area=fcb/main/0/0/4"

abbrev pub BeginsWith : Start → Outside → Plain → Type 0
BeginsWith (File name) host image = HasImage host name.now image
BeginsWith (Blank kind) host image = IsSpec (blank_spec kind) image

abbrev pub LacksStart : Start → Outside → Refusal → Type 0
LacksStart (File name) host refusal = LacksImage host name.now refusal
LacksStart (Blank kind) host refusal = LacksSpec (blank_spec kind) refusal

-- the lines of a job; their values have at most `limit` bytes
abbrev pub GivesLines : Source → ℕ → Outside → List Line → Type 0
GivesLines (Script name) limit host lines = HasScript limit host name.now lines
GivesLines Names limit host lines = lines ≡ line.Names ∷ []
GivesLines Migration limit host lines = lines ≡ line.Mount ∷ line.Migrate ∷ []
GivesLines (Generated n) limit host lines = lines ≡ generated n

abbrev pub LacksSource : Source → ℕ → Outside → Refusal → Type 0
LacksSource (Script name) limit host refusal = LacksScript limit host name.now refusal
LacksSource Names limit host refusal = ⊥
LacksSource Migration limit host refusal = ⊥
LacksSource (Generated n) limit host refusal = ⊥

-- what is printed of the answers to lines, which left these settings
abbrev pub reported_by : Report → List Line → List Answer → Map → List ℕ
reported_by All lines answers settings = texts answers
reported_by Last lines answers settings = last_text answers
reported_by (Summary kind n) lines answers settings =
    summary (store_word kind) n lines answers (pairs_of settings)

-- a summary counts the settings that are left
abbrev pub counts_settings : Report → Bool
counts_settings (Summary kind n) = true
counts_settings report = false

-- the file into which the image that is left is written
abbrev pub out_of : Output → Option (List ℕ)
out_of Nowhere = None
out_of (Into name) = Some name.now
