-- Jobs on blank images.
use Rattle.std.proofs.Common.{◌≡◌, ◌∙◌, ℕ, List, [], ◌∷◌, map, inl, inr, refl, sym, ap, subst, arith}
use Rattle.std.specs.Prelude.{slice_index}
use Rattle.std.specs.Borrow.{Bor}
use Rattle.flash_map.specs.declared.area.Area.{Area}
use Rattle.zs_host.specs.Outside.{Outside}
use Rattle.handlers.specs.declared.handler.HandlerKind.{HandlerKind}
use Rattle.command_words.specs.Commands.{IsCommand, name_of}
use Rattle.command_words.specs.declared.commands.Command.{Command}
use Rattle.command_words.specs.declared.commands.Command.TheVariants.{Build, Run, Dump, Migrate, Gen, Log, Items, Mirror}
use Rattle.command_words.specs.declared.commands.StoreKind.{StoreKind}
use Rattle.image_file.specs.Format.{Plain, image_on, plain_area}
use Rattle.image_file.specs.Lawful.{IsImage}
use Rattle.image_file.specs.Spec.{IsSpec}
use Rattle.image_jobs.specs.Blank.{HoldsNothing}
use Rattle.image_jobs.proofs.BlankLemmas.{holds_nothing}
use Rattle.image_jobs.specs.declared.jobs.Job.{Job}
use Rattle.image_jobs.specs.declared.jobs.Start.{Start}
use Rattle.image_jobs.specs.declared.jobs.Start.TheVariants.{Blank}
use Rattle.image_jobs.specs.declared.stops.Refusal.{Refusal}
use Rattle.image_jobs.specs.declared.stops.Refusal.TheVariants.{BadSpec, NoFile, BadFile, NoLog, NoItems, NoMirror, BadArea, Unfit, BadScript}
use Rattle.image_jobs.specs.Images.{HasAreas, flash_of}
use Rattle.image_jobs.specs.Inputs.{BeginsWith, LacksStart, blank_spec}
use Rattle.image_jobs.specs.Jobs.{IsDamage, LacksLines, Refuses}
use Rattle.image_jobs.specs.Stages.{Stage}
use Rattle.image_tool.specs.declared.status.Status.{Status}
use Rattle.image_tool.specs.declared.status.Status.TheVariants as status
use Rattle.image_tool.specs.Blank.{BlanksLackLinesAlone, GenIsCarriedOut, SpecsAreEmpty}
use Rattle.image_tool.specs.Complete.{IsCarriedOut}
use Rattle.image_tool.specs.Tasks.{Causes, task_of}
use Rattle.image_tool.specs.Tool.{TaskEnds, any_stores}
use Rattle.image_tool.specs.Worlds.{World}
use Rattle.any_backend.specs.ByRole.{any_owes, any_rests}
use Rattle.any_backend.specs.Standing.{rests-owe}
use Rattle.session.proofs.OwesLemmas.{rest-owes}
use Rattle.image_tool.proofs.Blanks.{blanks_are_not_refused}

-- ---- the image of a word

-- on a flash that holds it, with these areas
pub held_lawful : (image : Plain) (areas : List Area) → HasAreas image areas → IsImage image → IsImage (image_on areas (flash_of image))
held_lawful image areas has is =
    subst (λ (version : ℕ). IsImage (record { version = version; banks = image.banks; areas = map plain_area areas; bytes = image.bytes })) (sym has.version)
    (subst (λ (all : List Area). IsImage (record { version = image.version; banks = image.banks; areas = all; bytes = image.bytes })) (sym has.are) is)

pub specs_are_empty : SpecsAreEmpty
specs_are_empty word image areas is has =
    let nothing : HoldsNothing areas (flash_of image) = holds_nothing areas (flash_of image) is.blank (held_lawful image areas has is.lawful) in
    record { undamaged = nothing.undamaged; active = nothing.active; settings = nothing.settings; owes = rest-owes any_owes areas any_rests rests-owe (flash_of image) 0 nothing.rests }

-- ---- jobs

module _ (kinds : List HandlerKind) (job : Job) (kind : StoreKind) (host : Outside) (old new : Stage) (start : job.start ≡ Blank kind) where
  described : (image : Plain) → BeginsWith job.start host image → IsSpec (blank_spec kind) image
  described image begins = subst (λ (s : Start). BeginsWith s host image) start begins

  whole : (refusal : Refusal) → IsDamage any_stores kinds job host old new refusal → ⊥
  whole (BadArea label damage) finds =
      let opens = finds.sets.opens in
      let empty = specs_are_empty (blank_spec kind) finds.image finds.areas (described finds.image opens.begins) opens.has in
      finds.shows empty.undamaged
  whole BadSpec finds = finds
  whole (NoFile word) finds = finds
  whole (BadFile at why) finds = finds
  whole NoLog finds = finds
  whole NoItems finds = finds
  whole NoMirror finds = finds
  whole (Unfit label) finds = finds
  whole (BadScript n why) finds = finds

  for_lines : (refusal : Refusal) → Refuses any_stores kinds job host old new refusal → LacksLines job host refusal
  for_lines refusal (inl (lacks, _)) = absurd (blanks_are_not_refused kind host refusal (subst (λ (s : Start). LacksStart s host refusal) start lacks))
  for_lines refusal (inr (inl (lacks, _))) = lacks
  for_lines refusal (inr (inr damage)) = absurd (whole refusal damage)

pub blanks_lack_lines_alone : BlanksLackLinesAlone
blanks_lack_lines_alone kinds job kind host old new refusal start refuses = for_lines kinds job kind host old new start refusal refuses

-- ---- generated scripts

module _ (kinds : List HandlerKind) (old new : World) where
  -- it has its lines
  never_refused : (out : Bor (List ℕ)) (kind : StoreKind) (n : ℕ) (refusal : Refusal) → Causes any_stores kinds (task_of (Gen out kind n)) old new.stage refusal → ⊥
  never_refused out kind n refusal refuses = (for_lines kinds _ kind old.outside old.stage new.stage refl refusal refuses).lacks

  gen_ends : (out : Bor (List ℕ)) (kind : StoreKind) (n : ℕ) (result : Status) → TaskEnds any_stores kinds (task_of (Gen out kind n)) old new result → IsCarriedOut result
  gen_ends out kind n status.Done ends = tt
  gen_ends out kind n status.HostFault ends = tt
  gen_ends out kind n status.NoMemory ends = tt
  gen_ends out kind n status.Usage (refusal, causes, _, _) = never_refused out kind n refusal causes
  gen_ends out kind n status.NoFile (refusal, causes, _, _) = never_refused out kind n refusal causes
  gen_ends out kind n status.BadScript (refusal, causes, _, _) = never_refused out kind n refusal causes
  gen_ends out kind n status.BadImage (refusal, causes, _, _) = never_refused out kind n refusal causes

  -- the first byte of the first word says that the command is no other
  first_byte : (words : List (List ℕ)) (c d : Command) → IsCommand words c → IsCommand words d → slice_index (name_of c) 0 ≡ slice_index (name_of d) 0
  first_byte words c d is also = ap first (sym is.written ∙ also.written)
    where
      first : List (List ℕ) → ℕ
      first [] = 0
      first (word ∷ rest) = slice_index word 0

  ends_as : (words : List (List ℕ)) (out : Bor (List ℕ)) (kind : StoreKind) (n : ℕ) (result : Status) → IsCommand words (Gen out kind n)
      → (c : Command) → IsCommand words c → TaskEnds any_stores kinds (task_of c) old new result → IsCarriedOut result
  ends_as words out kind n result gen (Gen to other m) is ends = gen_ends to other m result ends
  ends_as words out kind n result gen (Build to spec) is ends = let no : ◌≡◌ {A = ℕ} 103 98 = first_byte words (Gen out kind n) (Build to spec) gen is in absurd (omega arith)
  ends_as words out kind n result gen (Run image script to) is ends = let no : ◌≡◌ {A = ℕ} 103 114 = first_byte words (Gen out kind n) (Run image script to) gen is in absurd (omega arith)
  ends_as words out kind n result gen (Dump image) is ends = let no : ◌≡◌ {A = ℕ} 103 100 = first_byte words (Gen out kind n) (Dump image) gen is in absurd (omega arith)
  ends_as words out kind n result gen (Migrate image to) is ends = let no : ◌≡◌ {A = ℕ} 103 109 = first_byte words (Gen out kind n) (Migrate image to) gen is in absurd (omega arith)
  ends_as words out kind n result gen (Log image script to) is ends = let no : ◌≡◌ {A = ℕ} 103 108 = first_byte words (Gen out kind n) (Log image script to) gen is in absurd (omega arith)
  ends_as words out kind n result gen (Items image script to) is ends = let no : ◌≡◌ {A = ℕ} 103 105 = first_byte words (Gen out kind n) (Items image script to) gen is in absurd (omega arith)
  ends_as words out kind n result gen (Mirror image script to) is ends = let no : ◌≡◌ {A = ℕ} 103 109 = first_byte words (Gen out kind n) (Mirror image script to) gen is in absurd (omega arith)

pub gen_is_carried_out : GenIsCarriedOut
gen_is_carried_out kinds words out kind n old new result gen (inl (c, is, ends)) = ends_as kinds old new words out kind n result gen c is ends
gen_is_carried_out kinds words out kind n old new result gen (inr (inl (none, _, _))) = absurd (none (Gen out kind n) gen)
gen_is_carried_out kinds words out kind n old new result gen (inr (inr (is, _, _))) = subst IsCarriedOut (sym is) tt
