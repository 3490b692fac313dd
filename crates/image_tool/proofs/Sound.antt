-- A command on what is sound is not refused.
use Rattle.std.proofs.Common.{◌≡◌, ℕ, List, None, inl, inr, sym, subst}
use Rattle.std.specs.Prelude.{IsSome}
use Rattle.zs_host.specs.Outside.{Outside}
use Rattle.handlers.specs.declared.handler.HandlerKind.{HandlerKind}
use Rattle.session.specs.OnMap.{limit_of}
use Rattle.script_lines.specs.declared.line.Line.{Line}
use Rattle.script_lines.specs.Line.{settings_forms}
use Rattle.script_lines.specs.Script.{IsBadLine}
use Rattle.script_lines.proofs.ScriptLaws.{one_script}
use Rattle.image_file.specs.Format.{Plain}
use Rattle.image_file.proofs.OneSpecLemmas.{no_bad_item, one_blank_image}
use Rattle.image_jobs.specs.declared.jobs.Job.{Job}
use Rattle.image_jobs.specs.declared.jobs.Source.{Source}
use Rattle.image_jobs.specs.declared.jobs.Source.TheVariants.{Script, Names, Migration, Generated}
use Rattle.image_jobs.specs.declared.jobs.Start.{Start}
use Rattle.image_jobs.specs.declared.jobs.Start.TheVariants.{File, Blank}
use Rattle.image_jobs.specs.declared.stops.Refusal.{Refusal}
use Rattle.image_jobs.specs.declared.stops.Refusal.TheVariants.{BadSpec, NoFile, BadFile, NoLog, NoItems, NoMirror, BadArea, Unfit, BadScript}
use Rattle.image_jobs.specs.Images.{HasAreas, damage_of}
use Rattle.image_jobs.specs.Inputs.{BeginsWith, LacksSource, LacksStart, GivesLines, blank_spec}
use Rattle.image_jobs.specs.Jobs.{IsDamage, LacksLines, Refuses}
use Rattle.image_jobs.specs.Reading.{HasScript, LacksScript}
use Rattle.image_jobs.specs.Stages.{Stage, Stores}
use Rattle.image_tool.specs.declared.status.Status.{Status}
use Rattle.image_tool.specs.declared.status.Status.TheVariants as status
use Rattle.image_tool.specs.declared.tasks.Task.{Task}
use Rattle.image_tool.specs.declared.tasks.Task.TheVariants.{Build, Settings, Log, Items, Mirror}
use Rattle.image_tool.specs.Complete.{IsCarriedOut, IsSound, IsSoundTask, SoundIsCarriedOut}
use Rattle.image_tool.specs.Tasks.{Causes}
use Rattle.image_tool.specs.Tool.{TaskEnds, any_stores}
use Rattle.image_tool.specs.Worlds.{World}
use Rattle.image_tool.proofs.SoundFiles.{has_image, never_long, never_missing, same_file, same_image}
use Rattle.image_tool.proofs.SoundLog.{log_is_not_refused}
use Rattle.image_tool.proofs.SoundItems.{items_are_not_refused}
use Rattle.image_tool.proofs.SoundMirror.{mirror_is_not_refused}

module _ (host : Outside) (known : IsSome host.files) (name : List ℕ) where
  has_script : (limit : ℕ) (lines : List Line) (refusal : Refusal) → HasScript limit host name lines → LacksScript limit host name refusal → ⊥
  has_script limit lines (NoFile word) has lacks = never_missing name host.files has.text known has.has.has lacks.0
  has_script limit lines (BadScript n why) has (inl (text, short, bad)) =
      let same = same_file name host.files text has.text known short.has has.has.has in
      (one_script settings_forms limit has.text _ has.is).1 n why (subst (λ (t : List ℕ). IsBadLine settings_forms limit t n why) same bad)
  has_script limit lines (BadScript n why) has (inr (long, _, _)) = never_long host.files name _ has.text known has.has.has has.has.short long
  has_script limit lines BadSpec has lacks = lacks
  has_script limit lines (BadFile at why) has lacks = lacks
  has_script limit lines NoLog has lacks = lacks
  has_script limit lines NoItems has lacks = lacks
  has_script limit lines NoMirror has lacks = lacks
  has_script limit lines (BadArea label damage) has lacks = lacks
  has_script limit lines (Unfit label) has lacks = lacks

-- ---- jobs

module _ (host : Outside) (known : IsSome host.files) where
  has_start : (start : Start) (image : Plain) (refusal : Refusal) → BeginsWith start host image → LacksStart start host refusal → ⊥
  has_start (File name) image refusal begins lacks = has_image host known name.now image refusal begins lacks
  has_start (Blank kind) image refusal begins lacks = no_bad_item (blank_spec kind) image lacks.1 begins lacks.2

  same_start : (start : Start) (image other : Plain) → BeginsWith start host image → BeginsWith start host other → other ≡ image
  same_start (File name) image other begins began = same_image host known name.now image other begins began
  same_start (Blank kind) image other begins began = one_blank_image (blank_spec kind) other image began begins

  has_lines : (source : Source) (limit : ℕ) (lines : List Line) (refusal : Refusal) → GivesLines source limit host lines → LacksSource source limit host refusal → ⊥
  has_lines (Script name) limit lines refusal gives lacks = has_script host known name.now limit lines refusal gives lacks
  has_lines Names limit lines refusal gives lacks = lacks
  has_lines Migration limit lines refusal gives lacks = lacks
  has_lines (Generated n) limit lines refusal gives lacks = lacks

module _ (k : Stores) (kinds : List HandlerKind) (job : Job) (host : Outside) (old new : Stage) (sound : IsSound k job host) where
  same : (other : Plain) → BeginsWith job.start host other → other ≡ sound.image
  same other begins = same_start host sound.known job.start sound.image other sound.begins begins

  lined : (refusal : Refusal) → LacksLines job host refusal → ⊥
  lined refusal lacks =
      let has = subst (λ (i : Plain). HasAreas i lacks.areas) (same lacks.image lacks.opens.begins) lacks.opens.has in
      let reads = sound.reads lacks.areas has in
      has_lines host sound.known job.source (limit_of lacks.areas) reads.0 refusal reads.1 lacks.lacks

  whole : (refusal : Refusal) → IsDamage k kinds job host old new refusal → ⊥
  whole (BadArea label damage) finds =
      finds.shows (subst (λ (i : Plain). HasAreas i finds.areas → damage_of k finds.areas i ≡ None)
      (sym (same finds.image finds.sets.opens.begins)) (sound.undamaged finds.areas) finds.sets.opens.has)
  whole BadSpec finds = finds
  whole (NoFile word) finds = finds
  whole (BadFile at why) finds = finds
  whole NoLog finds = finds
  whole NoItems finds = finds
  whole NoMirror finds = finds
  whole (Unfit label) finds = finds
  whole (BadScript n why) finds = finds

  never_refused : (refusal : Refusal) → Refuses k kinds job host old new refusal → ⊥
  never_refused refusal (inl (lacks, _)) = has_start host sound.known job.start sound.image refusal sound.begins lacks
  never_refused refusal (inr (inl (lacks, _))) = lined refusal lacks
  never_refused refusal (inr (inr damage)) = whole refusal damage

-- ---- tasks

module _ (k : Stores) (kinds : List HandlerKind) (old new : World) where
  no_cause : (task : Task) (refusal : Refusal) → IsSoundTask k task old.outside → Causes k kinds task old new.stage refusal → ⊥
  no_cause (Build out spec) refusal (image, is) (lacks, _) = no_bad_item spec.now image lacks.1 is lacks.2
  no_cause (Settings job) refusal sound causes = never_refused k kinds job old.outside old.stage new.stage sound refusal causes
  no_cause (Log image script out) refusal sound causes = log_is_not_refused image.now script.now old.outside old.stage.bench new.stage.bench sound refusal causes.0
  no_cause (Items image script out) refusal sound causes = items_are_not_refused image.now script.now old.outside old.stage.bench new.stage.bench sound refusal causes.0
  no_cause (Mirror image script out) refusal sound causes = mirror_is_not_refused image.now script.now old.outside old.stage.bench new.stage.bench sound refusal causes.0

  carried_out : (task : Task) (result : Status) → IsSoundTask k task old.outside → TaskEnds k kinds task old new result → IsCarriedOut result
  carried_out task status.Done sound ends = tt
  carried_out task status.HostFault sound ends = tt
  carried_out task status.NoMemory sound ends = tt
  carried_out task status.Usage sound (refusal, causes, _, _) = no_cause task refusal sound causes
  carried_out task status.NoFile sound (refusal, causes, _, _) = no_cause task refusal sound causes
  carried_out task status.BadScript sound (refusal, causes, _, _) = no_cause task refusal sound causes
  carried_out task status.BadImage sound (refusal, causes, _, _) = no_cause task refusal sound causes

pub sound_is_carried_out : SoundIsCarriedOut
sound_is_carried_out kinds words old new result are sound (inl (c, is, ends)) =
    carried_out any_stores kinds old new _ result (sound c is) ends
sound_is_carried_out kinds words old new result are sound (inr (inl (none, _, _))) = absurd (are none)
sound_is_carried_out kinds words old new result are sound (inr (inr (is, _, _))) = subst IsCarriedOut (sym is) tt
