-- How a task ends, from what was prepared and what was printed and written.
use Rattle.std.proofs.Common.{◌≡◌, ℕ, List, [], ◌∷◌, arith, Option, Some, None, Ok, Err, inl, inr, refl, sym, ap, subst, ◌∙◌}
use Rattle.std.specs.Prelude.{MatchOption, slice_index}
use Rattle.zs_host.specs.Outside.{Outside, Files, SameBut, printed_more}
use Rattle.handlers.specs.declared.handler.HandlerKind.{HandlerKind}
use Rattle.image_jobs.specs.declared.jobs.Output.{Output}
use Rattle.image_jobs.specs.declared.jobs.Output.TheVariants.{Nowhere, Into}
use Rattle.image_jobs.specs.declared.stops.Refusal.{Refusal}
use Rattle.image_jobs.specs.declared.stops.Refusal.TheVariants.{BadSpec, NoFile, BadFile, NoLog, NoItems, NoMirror, BadArea, Unfit, BadScript}
use Rattle.image_jobs.specs.Inputs.{out_of}
use Rattle.command_words.specs.Commands.{IsCommand, IsNoCommand, name_of, operands_of}
use Rattle.command_words.specs.declared.commands.Command.TheVariants as command
use Rattle.command_words.specs.declared.commands.Command.{Command}
use Rattle.image_jobs.specs.declared.outcome.Outcome.{Outcome}
use Rattle.image_jobs.specs.declared.stops.Stop.{Stop}
use Rattle.image_jobs.specs.declared.stops.Stop.TheVariants.{Refused, NoMemory}
use Rattle.image_jobs.specs.Jobs.{File, WritesLeft, file_of}
use Rattle.image_file.specs.Format.{Plain}
use Rattle.image_jobs.specs.Refusals.{line_of}
use Rattle.image_jobs.specs.Stages.{Stage, Stores}
use Rattle.image_tool.specs.declared.status.Status.{Status}
use Rattle.image_tool.specs.declared.status.Status.TheVariants as status
use Rattle.image_tool.specs.declared.tasks.Task.{Task}
use Rattle.image_tool.specs.declared.tasks.Task.TheVariants.{Build, Settings, Log, Items, Mirror}
use Rattle.image_tool.specs.Tasks.{Causes, Does, Prepares, task_of}
use Rattle.image_tool.specs.Report.{Delivers, DeliversOnly, Reports}
use Rattle.image_tool.specs.Tool.{MayWrite, OnlyFile, TaskEnds, ToolEnds, out_file, status_of}
use Rattle.image_tool.specs.Worlds.{World, with_stage}

module _ (k : Stores) (kinds : List HandlerKind) (task : Task) (old new : World) where
  -- ---- a task that was to print a text and write a file

  pub ends : (text : List ℕ) (file : Option File) → Does k kinds task old new.stage text file → (result : Status) → Delivers old.outside new.outside text file result → TaskEnds k kinds task old new result
  ends text file does status.Done is = (text, file, does, is)
  ends text file does status.HostFault is = inr (inr (text, file, does, is))
  ends text file does status.NoMemory is = inr (inr (text, file, does, is))
  ends text file does status.Usage is = absurd is
  ends text file does status.BadScript is = absurd is
  ends text file does status.BadImage is = absurd is
  ends text file does status.NoFile is = absurd is

  -- ---- a task that was refused

  refused_ends : (refusal : Refusal) → Causes k kinds task old new.stage refusal → new.outside ≡ printed_more old.outside (line_of refusal) → TaskEnds k kinds task old new (status_of refusal)
  refused_ends BadSpec causes is = (BadSpec, causes, refl, is)
  refused_ends (NoFile word) causes is = (NoFile word, causes, refl, is)
  refused_ends (BadFile at why) causes is = (BadFile at why, causes, refl, is)
  refused_ends NoLog causes is = (NoLog, causes, refl, is)
  refused_ends NoItems causes is = (NoItems, causes, refl, is)
  refused_ends NoMirror causes is = (NoMirror, causes, refl, is)
  refused_ends (BadArea label damage) causes is = (BadArea label damage, causes, refl, is)
  refused_ends (Unfit label) causes is = (Unfit label, causes, refl, is)
  refused_ends (BadScript n why) causes is = (BadScript n why, causes, refl, is)

  pub reported : (refusal : Refusal) (result : Status) → Causes k kinds task old new.stage refusal → Reports old.outside new.outside (line_of refusal) (status_of refusal) result → TaskEnds k kinds task old new result
  reported refusal result causes (inl whole) = subst (λ (s : Status). TaskEnds k kinds task old new s) (sym whole.0) (refused_ends refusal causes whole.1)
  reported refusal result causes (inr (inl fault)) = subst (λ (s : Status). TaskEnds k kinds task old new s) (sym fault.0) (inr (inl (refusal, causes, fault.1)))
  reported refusal result causes (inr (inr stopped)) = subst (λ (s : Status). TaskEnds k kinds task old new s) (sym stopped.0) (inr (inl (refusal, causes, stopped.1)))

  -- what was prepared is the refusal that was reported; `middle` is the outside then
  pub refused_by : (middle : Outside) (field : Stop) (found refusal : Refusal) (result : Status) → field ≡ Refused found → refusal ≡ found
      → Prepares k kinds task old (with_stage middle new.stage) (Err field) → Reports middle new.outside (line_of refusal) (status_of refusal) result → TaskEnds k kinds task old new result
  refused_by middle field found refusal result field_is found_is prepares reports =
      let causes = subst (λ (s : Stop). Prepares k kinds task old (with_stage middle new.stage) (Err s)) field_is prepares in
      reported refusal result
      (subst (λ (r : Refusal). Causes k kinds task old new.stage r) (sym found_is) causes.0)
      (subst (λ (o : Outside). Reports o new.outside (line_of refusal) (status_of refusal) result) causes.1 reports)

  pub done_by : (middle : Outside) (outcome : Outcome) (result : Status) → Prepares k kinds task old (with_stage middle new.stage) (Ok outcome)
      → Delivers middle new.outside outcome.text.items (file_of outcome.file) result → TaskEnds k kinds task old new result
  done_by middle outcome result prepares delivers =
      ends outcome.text.items (file_of outcome.file) prepares.0 result (subst (λ (o : Outside). Delivers o new.outside outcome.text.items (file_of outcome.file) result) prepares.1 delivers)

-- ---- files

job_wrote : (output : Output) (image : Plain) (file : Option File) (host host' : Outside) → WritesLeft (out_of output) image file → DeliversOnly file host host' → OnlyFile (out_of output) host host'
job_wrote Nowhere image file host host' is only = subst (λ (f : Option File). DeliversOnly f host host') is only
job_wrote (Into name) image file host host' (bytes, is_file, is) only = subst (λ (f : Option File). DeliversOnly f host host') is only

same_files : (name : List ℕ) (files : Option Files) → SameBut name files files
same_files name None = tt
same_files name (Some files) = λ other different. refl

same_but : (name : List ℕ) (old new : Option Files) → new ≡ old → SameBut name old new
same_but name old new is = subst (λ (files : Option Files). SameBut name old files) (sym is) (same_files name old)

-- nothing was written
pub wrote_nothing : (out : Option (List ℕ)) (host host' : Outside) → host'.files ≡ host.files → OnlyFile out host host'
wrote_nothing None host host' is = is
wrote_nothing (Some out) host host' is = same_but out host.files host'.files is

-- a refusal writes nothing; `middle` is the outside before its line was printed
pub refused_wrote : (k : Stores) (kinds : List HandlerKind) (task : Task) (old middle : World) (host' : Outside) (field : Stop) (found : Refusal) → field ≡ Refused found
    → Prepares k kinds task old middle (Err field) → host'.files ≡ middle.outside.files → OnlyFile (out_file task) old.outside host'
refused_wrote k kinds task old middle host' field found field_is prepares files =
    let causes = subst (λ (s : Stop). Prepares k kinds task old middle (Err s)) field_is prepares in
    wrote_nothing (out_file task) old.outside host' (files ∙ ap (λ (o : Outside). o.files) causes.1)

module _ (k : Stores) (kinds : List HandlerKind) (old : World) (new : Stage) (host host' : Outside) where
  pub wrote : (task : Task) (text : List ℕ) (file : Option File) → Does k kinds task old new text file → DeliversOnly file host host' → OnlyFile (out_file task) host host'
  wrote (Build out spec) text file does only = subst (λ (f : Option File). DeliversOnly f host host') does.0.writes only
  wrote (Settings job) text file does only = job_wrote job.output _ file host host' does.writes only
  wrote (Log image script out) text file does only = subst (λ (f : Option File). DeliversOnly f host host') does.0.writes.2 only
  wrote (Items image script out) text file does only = subst (λ (f : Option File). DeliversOnly f host host') does.0.writes.2 only
  wrote (Mirror image script out) text file does only = subst (λ (f : Option File). DeliversOnly f host host') does.0.writes.2 only

-- ---- words that are a command

first : List ℕ → ℕ
first [] = 0
first (byte ∷ bytes) = byte

-- commands of one name with the same operands have one OUT
same_out : (a b : Command) → name_of a ≡ name_of b → operands_of a ≡ operands_of b → out_file (task_of a) ≡ out_file (task_of b)
unfolding first
same_out (command.Build out spec) (command.Build out' spec') names operands = let same : out.now ≡ out'.now = cc in ap Some same
same_out (command.Build out spec) (command.Run image' script' out') names operands = let same : 98 ≡ 114 = ap first names in absurd (omega (arith, same))
same_out (command.Build out spec) (command.Dump image') names operands = let same : 98 ≡ 100 = ap first names in absurd (omega (arith, same))
same_out (command.Build out spec) (command.Migrate image' out') names operands = let same : 98 ≡ 109 = ap first names in absurd (omega (arith, same))
same_out (command.Build out spec) (command.Gen out' backend' n') names operands = let same : 98 ≡ 103 = ap first names in absurd (omega (arith, same))
same_out (command.Build out spec) (command.Log image' script' out') names operands = let same : 98 ≡ 108 = ap first names in absurd (omega (arith, same))
same_out (command.Build out spec) (command.Items image' script' out') names operands = let same : 98 ≡ 105 = ap first names in absurd (omega (arith, same))
same_out (command.Build out spec) (command.Mirror image' script' out') names operands = let same : 98 ≡ 109 = ap first names in absurd (omega (arith, same))
same_out (command.Run image script out) (command.Build out' spec') names operands = let same : 114 ≡ 98 = ap first names in absurd (omega (arith, same))
same_out (command.Run image script out) (command.Run image' script' out') names operands = let same : out.now ≡ out'.now = cc in ap Some same
same_out (command.Run image script out) (command.Dump image') names operands = let same : 114 ≡ 100 = ap first names in absurd (omega (arith, same))
same_out (command.Run image script out) (command.Migrate image' out') names operands = let same : 114 ≡ 109 = ap first names in absurd (omega (arith, same))
same_out (command.Run image script out) (command.Gen out' backend' n') names operands = let same : 114 ≡ 103 = ap first names in absurd (omega (arith, same))
same_out (command.Run image script out) (command.Log image' script' out') names operands = let same : 114 ≡ 108 = ap first names in absurd (omega (arith, same))
same_out (command.Run image script out) (command.Items image' script' out') names operands = let same : 114 ≡ 105 = ap first names in absurd (omega (arith, same))
same_out (command.Run image script out) (command.Mirror image' script' out') names operands = let same : 114 ≡ 109 = ap first names in absurd (omega (arith, same))
same_out (command.Dump image) (command.Build out' spec') names operands = let same : 100 ≡ 98 = ap first names in absurd (omega (arith, same))
same_out (command.Dump image) (command.Run image' script' out') names operands = let same : 100 ≡ 114 = ap first names in absurd (omega (arith, same))
same_out (command.Dump image) (command.Dump image') names operands = refl
same_out (command.Dump image) (command.Migrate image' out') names operands = let same : 100 ≡ 109 = ap first names in absurd (omega (arith, same))
same_out (command.Dump image) (command.Gen out' backend' n') names operands = let same : 100 ≡ 103 = ap first names in absurd (omega (arith, same))
same_out (command.Dump image) (command.Log image' script' out') names operands = let same : 100 ≡ 108 = ap first names in absurd (omega (arith, same))
same_out (command.Dump image) (command.Items image' script' out') names operands = let same : 100 ≡ 105 = ap first names in absurd (omega (arith, same))
same_out (command.Dump image) (command.Mirror image' script' out') names operands = let same : 100 ≡ 109 = ap first names in absurd (omega (arith, same))
same_out (command.Migrate image out) (command.Build out' spec') names operands = let same : 109 ≡ 98 = ap first names in absurd (omega (arith, same))
same_out (command.Migrate image out) (command.Run image' script' out') names operands = let same : 109 ≡ 114 = ap first names in absurd (omega (arith, same))
same_out (command.Migrate image out) (command.Dump image') names operands = let same : 109 ≡ 100 = ap first names in absurd (omega (arith, same))
same_out (command.Migrate image out) (command.Migrate image' out') names operands = let same : out.now ≡ out'.now = cc in ap Some same
same_out (command.Migrate image out) (command.Gen out' backend' n') names operands = let same : 109 ≡ 103 = ap first names in absurd (omega (arith, same))
same_out (command.Migrate image out) (command.Log image' script' out') names operands = let same : 109 ≡ 108 = ap first names in absurd (omega (arith, same))
same_out (command.Migrate image out) (command.Items image' script' out') names operands = let same : 109 ≡ 105 = ap first names in absurd (omega (arith, same))
same_out (command.Migrate image out) (command.Mirror image' script' out') names operands = let same : 103 ≡ 114 = ap (λ (word : List ℕ). slice_index word 2) names in absurd (omega (arith, same))
same_out (command.Gen out backend n) (command.Build out' spec') names operands = let same : 103 ≡ 98 = ap first names in absurd (omega (arith, same))
same_out (command.Gen out backend n) (command.Run image' script' out') names operands = let same : 103 ≡ 114 = ap first names in absurd (omega (arith, same))
same_out (command.Gen out backend n) (command.Dump image') names operands = let same : 103 ≡ 100 = ap first names in absurd (omega (arith, same))
same_out (command.Gen out backend n) (command.Migrate image' out') names operands = let same : 103 ≡ 109 = ap first names in absurd (omega (arith, same))
same_out (command.Gen out backend n) (command.Gen out' backend' n') names operands = let same : out.now ≡ out'.now = cc in ap Some same
same_out (command.Gen out backend n) (command.Log image' script' out') names operands = let same : 103 ≡ 108 = ap first names in absurd (omega (arith, same))
same_out (command.Gen out backend n) (command.Items image' script' out') names operands = let same : 103 ≡ 105 = ap first names in absurd (omega (arith, same))
same_out (command.Gen out backend n) (command.Mirror image' script' out') names operands = let same : 103 ≡ 109 = ap first names in absurd (omega (arith, same))
same_out (command.Log image script out) (command.Build out' spec') names operands = let same : 108 ≡ 98 = ap first names in absurd (omega (arith, same))
same_out (command.Log image script out) (command.Run image' script' out') names operands = let same : 108 ≡ 114 = ap first names in absurd (omega (arith, same))
same_out (command.Log image script out) (command.Dump image') names operands = let same : 108 ≡ 100 = ap first names in absurd (omega (arith, same))
same_out (command.Log image script out) (command.Migrate image' out') names operands = let same : 108 ≡ 109 = ap first names in absurd (omega (arith, same))
same_out (command.Log image script out) (command.Gen out' backend' n') names operands = let same : 108 ≡ 103 = ap first names in absurd (omega (arith, same))
same_out (command.Log image script out) (command.Log image' script' out') names operands = let same : out.now ≡ out'.now = cc in ap Some same
same_out (command.Log image script out) (command.Items image' script' out') names operands = let same : 108 ≡ 105 = ap first names in absurd (omega (arith, same))
same_out (command.Log image script out) (command.Mirror image' script' out') names operands = let same : 108 ≡ 109 = ap first names in absurd (omega (arith, same))
same_out (command.Items image script out) (command.Build out' spec') names operands = let same : 105 ≡ 98 = ap first names in absurd (omega (arith, same))
same_out (command.Items image script out) (command.Run image' script' out') names operands = let same : 105 ≡ 114 = ap first names in absurd (omega (arith, same))
same_out (command.Items image script out) (command.Dump image') names operands = let same : 105 ≡ 100 = ap first names in absurd (omega (arith, same))
same_out (command.Items image script out) (command.Migrate image' out') names operands = let same : 105 ≡ 109 = ap first names in absurd (omega (arith, same))
same_out (command.Items image script out) (command.Gen out' backend' n') names operands = let same : 105 ≡ 103 = ap first names in absurd (omega (arith, same))
same_out (command.Items image script out) (command.Log image' script' out') names operands = let same : 105 ≡ 108 = ap first names in absurd (omega (arith, same))
same_out (command.Items image script out) (command.Items image' script' out') names operands = let same : out.now ≡ out'.now = cc in ap Some same
same_out (command.Items image script out) (command.Mirror image' script' out') names operands = let same : 105 ≡ 109 = ap first names in absurd (omega (arith, same))
same_out (command.Mirror image script out) (command.Build out' spec') names operands = let same : 109 ≡ 98 = ap first names in absurd (omega (arith, same))
same_out (command.Mirror image script out) (command.Run image' script' out') names operands = let same : 109 ≡ 114 = ap first names in absurd (omega (arith, same))
same_out (command.Mirror image script out) (command.Dump image') names operands = let same : 109 ≡ 100 = ap first names in absurd (omega (arith, same))
same_out (command.Mirror image script out) (command.Migrate image' out') names operands = let same : 114 ≡ 103 = ap (λ (word : List ℕ). slice_index word 2) names in absurd (omega (arith, same))
same_out (command.Mirror image script out) (command.Gen out' backend' n') names operands = let same : 109 ≡ 103 = ap first names in absurd (omega (arith, same))
same_out (command.Mirror image script out) (command.Log image' script' out') names operands = let same : 109 ≡ 108 = ap first names in absurd (omega (arith, same))
same_out (command.Mirror image script out) (command.Items image' script' out') names operands = let same : 109 ≡ 105 = ap first names in absurd (omega (arith, same))
same_out (command.Mirror image script out) (command.Mirror image' script' out') names operands = let same : out.now ≡ out'.now = cc in ap Some same

module _ (words : List (List ℕ)) (field : Option Command) (found command : Command) (field_is : field ≡ Some found) (found_is : command ≡ found)
    (read : MatchOption field (IsNoCommand words) (IsCommand words)) where
  is_command : IsCommand words command
  is_command = subst (IsCommand words) (sym found_is) (subst (λ (o : Option Command). MatchOption o (IsNoCommand words) (IsCommand words)) field_is read)

  pub command_ends : (k : Stores) (kinds : List HandlerKind) (task : Task) (old new : World) (result : Status) → task ≡ task_of command
      → TaskEnds k kinds task old new result → ToolEnds k kinds words old new result
  command_ends k kinds task old new result task_is is =
      inl (command, is_command, subst (λ (t : Task). TaskEnds k kinds t old new result) task_is is)

  pub command_wrote : (task : Task) (host host' : Outside) → task ≡ task_of command → OnlyFile (out_file task) host host' → (c : Command) → IsCommand words c → MayWrite c host host'
  command_wrote task host host' task_is is c other =
      let same = same_out command c (cc (is_command.written, other.written)) (cc (is_command.written, other.written)) in
      subst (λ (out : Option (List ℕ)). OnlyFile out host host') same (subst (λ (t : Task). OnlyFile (out_file t) host host') task_is is)
