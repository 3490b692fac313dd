-- A job on a mirror that is sound is not refused.
use Rattle.std.proofs.Common.{◌≡◌, ℕ, List, None, inl, inr, refl, sym, subst}
use Rattle.std.specs.Prelude.{IsSome}
use Rattle.flash_sim.specs.Device.{Device}
use Rattle.flash_map.specs.declared.area.Area.{Area}
use Rattle.zs_host.specs.Outside.{Outside}
use Rattle.session.specs.OnMap.{limit_of}
use Rattle.script_lines.specs.declared.why.LineWhy.{LineWhy}
use Rattle.script_lines.specs.Script.{IsBadLine}
use Rattle.script_lines.proofs.ScriptLaws.{one_script}
use Rattle.image_file.specs.Format.{Plain}
use Rattle.mirror_session.specs.declared.line.Line.{Line}
use Rattle.mirror_session.specs.Line.{mirror_forms}
use Rattle.mirror_session.specs.declared.fault.SessionFault.{SessionFault}
use Rattle.mirror_session.specs.declared.fault.SessionFault.TheVariants.{Damaged as IsDamaged, Unfit as IsUnfit, NoMemory as WantsMemory}
use Rattle.mirror_session.specs.Running.{ReportsUnfit}
use Rattle.image_jobs.specs.declared.stops.Refusal.{Refusal}
use Rattle.image_jobs.specs.declared.stops.Refusal.TheVariants.{BadSpec, NoFile, BadFile, NoLog, NoItems, NoMirror, BadArea, Unfit, BadScript}
use Rattle.image_jobs.specs.declared.stops.Stop.TheVariants.{Refused}
use Rattle.image_jobs.specs.Images.{HasAreas}
use Rattle.image_jobs.specs.Reading.{HasImage, LacksText}
use Rattle.session_jobs.specs.MirrorInputs.{AreMirrored, HasBadLine, HasLines, LacksLines, LacksMirror}
use Rattle.session_jobs.specs.MirrorJobs.{FitsImage, IsStop, LacksMirrorLines, RefusesMirror, StopsAtMount, ReportsDamage, damage_in}
use Rattle.image_tool.specs.Complete.{IsSoundMirror}
use Rattle.image_tool.proofs.SoundFiles.{has_image, never_long, never_missing, same_file, same_image}

-- ---- lines

module _ (host : Outside) (known : IsSome host.files) (name : List ℕ) (limit : ℕ) (lines : List Line) (has : HasLines limit host name lines) where
  has_text : (refusal : Refusal) → LacksText host name refusal → ⊥
  has_text (NoFile word) lacks = never_missing name host.files has.text known has.has.has lacks.0
  has_text (BadScript n why) lacks = never_long host.files name _ has.text known has.has.has has.has.short lacks.0
  has_text BadSpec lacks = lacks
  has_text (BadFile at why) lacks = lacks
  has_text NoLog lacks = lacks
  has_text NoItems lacks = lacks
  has_text NoMirror lacks = lacks
  has_text (BadArea label damage) lacks = lacks
  has_text (Unfit label) lacks = lacks

  each_fine : (n : ℕ) (why : LineWhy) → HasBadLine limit host name n why → ⊥
  each_fine n why bad =
      let same = same_file name host.files bad.text has.text known bad.has.has has.has.has in
      (one_script mirror_forms limit has.text _ has.is).1 n why (subst (λ (t : List ℕ). IsBadLine mirror_forms limit t n why) same bad.is)

  has_lines : (refusal : Refusal) → LacksLines limit host name refusal → ⊥
  has_lines refusal (inl lacks) = has_text refusal lacks
  has_lines refusal (inr (n, why, is, bad)) = each_fine n why bad

-- ---- jobs

module _ (name script : List ℕ) (host : Outside) (old new : Device) (sound : IsSoundMirror name script host) where
  same : (other : Plain) → HasImage host name other → other ≡ sound.image
  same other has = same_image host sound.known name sound.image other sound.has has

  areas_of : (image : Plain) (areas : List Area) → HasImage host name image → HasAreas image areas → HasAreas sound.image areas
  areas_of image areas has are = subst (λ (i : Plain). HasAreas i areas) (same image has) are

  has_mirror : (refusal : Refusal) → LacksMirror host name refusal → ⊥
  has_mirror refusal lacks = lacks.finds.1 (subst (λ (i : Plain). AreMirrored i.areas) (sym (same lacks.image lacks.has)) sound.mirrored)

  lined : (refusal : Refusal) → LacksMirrorLines name script host refusal → ⊥
  lined refusal lacks =
      let reads = sound.reads lacks.areas (areas_of lacks.image lacks.areas lacks.opens.has lacks.opens.are) in
      has_lines host sound.known script (limit_of lacks.areas) reads.0 reads.1 refusal lacks.lacks

  -- want of memory is no refusal
  report_text : (areas : List Area) (fault : SessionFault) (refusal : Refusal) → fault ≡ WantsMemory → IsStop areas fault (Refused refusal) → ⊥
  report_text areas fault refusal wants is = no (subst (λ (f : SessionFault). IsStop areas f (Refused refusal)) wants is)
    where
      no : IsStop areas WantsMemory (Refused refusal) → ⊥
      no is = cc

  -- it shows no damage, and its settings fit
  fine : (areas : List Area) (fault : SessionFault) (refusal : Refusal) → ¬ ReportsDamage fault → ¬ ReportsUnfit fault → IsStop areas fault (Refused refusal) → ⊥
  fine areas (IsDamaged place damage) refusal sound fits is = sound tt
  fine areas (IsUnfit place) refusal sound fits is = fits tt
  fine areas WantsMemory refusal sound fits is = report_text areas WantsMemory refusal refl is

  whole : (refusal : Refusal) → StopsAtMount name script host old new refusal → ⊥
  whole refusal finds =
      let opens = finds.sets.opens in
      let are = areas_of finds.image finds.areas opens.has opens.are in
      fine finds.areas finds.fault refusal
      (finds.shows (subst (λ (i : Plain). damage_in finds.areas i ≡ None) (sym (same finds.image opens.has)) (sound.undamaged finds.areas are)))
      (finds.fits (subst (λ (i : Plain). FitsImage finds.areas i) (sym (same finds.image opens.has)) (sound.fits finds.areas are))) finds.is

  pub mirror_is_not_refused : (refusal : Refusal) → RefusesMirror name script host old new refusal → ⊥
  mirror_is_not_refused refusal (inl (lacks, _)) = has_image host sound.known name sound.image refusal sound.has lacks
  mirror_is_not_refused refusal (inr (inl (lacks, _))) = has_mirror refusal lacks
  mirror_is_not_refused refusal (inr (inr (inl (lacks, _)))) = lined refusal lacks
  mirror_is_not_refused refusal (inr (inr (inr finds))) = whole refusal finds
