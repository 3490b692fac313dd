-- How a job ends, from how its lines ended on a bench that was just loaded.
use Rattle.std.proofs.Common.{◌≡◌, ◌⊎◌, ◌≤◌, ℕ, true, List, ◌∷◌, map, Option, Some, None, Err, inl, inr, refl, sym, ap, subst, ◌∙◌}
use Rattle.std.proofs.lemmas.Option.{none-some}
use Rattle.flash_sim.specs.Device.{Device}
use Rattle.flash_sim.specs.declared.flash.Bank.{Bank}
use Rattle.flash_map.specs.declared.area.Area.{Area}
use Rattle.flash_map.specs.declared.faults.Damaged.{Damaged}
use Rattle.zs_host.specs.Outside.{Outside}
use Rattle.handlers.specs.declared.handler.HandlerKind.{HandlerKind}
use Rattle.handlers.specs.Registry.{Registered}
use Rattle.script_lines.specs.declared.line.Line.{Line}
use Rattle.script_lines.specs.declared.line.Line.TheVariants.{Mount}
use Rattle.script_lines.specs.declared.answer.Answer.{Answer}
use Rattle.image_file.specs.Format.{Plain, image_on, plain_area, version_of}
use Rattle.session_table.specs.Bench.{area_at, state_of}
use Rattle.session.specs.declared.fault.SessionFault.{SessionFault}
use Rattle.session.specs.declared.fault.SessionFault.TheVariants.{Damaged as IsDamaged, NoMemory as WantsMemory}
use Rattle.session.specs.Owing.{MountsWithin, OwesOnMap, map_boot}
use Rattle.session.specs.OnMap.{IsAtRest, Ran, RunStops, damage_in, limit_of, moment}
use Rattle.image_jobs.specs.declared.jobs.Job.{Job}
use Rattle.image_jobs.specs.Images.{OwesOf, ReadsAs, begun, damage_of, left, settings_of}
use Rattle.image_jobs.specs.Inputs.{BeginsWith, GivesLines, counts_settings, out_of, reported_by}
use Rattle.image_jobs.specs.declared.stops.Refusal.TheVariants.{BadSpec, NoFile, BadFile, NoLog, NoItems, NoMirror, BadArea, Unfit, BadScript}
use Rattle.image_jobs.specs.declared.stops.Stop.{Stop}
use Rattle.image_jobs.specs.declared.stops.Stop.TheVariants.{Refused, HostFailed, NoMemory}
use Rattle.image_jobs.specs.Jobs.{File, FindsDamage, HasBegun, IsStop, JobEnds, JobDoes, SaysDamage, Sets, WritesLeft, closing, opening}
use Rattle.image_jobs.specs.Reading.{MakesOr}
use Rattle.image_jobs.specs.Stages.{Stage, Stores, stage}
use Rattle.image_jobs.proofs.Held.{damage_same, owes_as, owes_there, reads_as}

module _ (k : Stores) (kinds : List HandlerKind) (job : Job) (outside : Outside) (banks : List Bank) (bytes : List (List ℕ)) (areas : List Area) (lines : List Line)
    (bench bench' : Device) (registry registry' : List Registered) where
  -- the image of the job
  abbrev pub image : Plain
  image = record { version = version_of areas; banks = banks; areas = map plain_area areas; bytes = bytes }

  abbrev pub old : Stage
  old = stage bench registry

  abbrev pub new : Stage
  new = stage bench' registry'

  module _ (begins : BeginsWith job.start outside image) (gives : GivesLines job.source (limit_of areas) outside lines) where
    pub sets : Sets job outside image areas lines
    sets = record { opens = record { begins = begins; has = record { version = refl; are = refl } }; gives = gives }

    held_left : (answers : List Answer) (left_kinds : List HandlerKind) → Ran k.meanings k.damage k.rests areas (Mount ∷ lines) answers (opening old image kinds) (closing new left_kinds)
        → image_on areas bench' ≡ left image bench'
    held_left answers left_kinds ran =
        ap (λ (banks : List Bank). record { version = version_of areas; banks = banks; areas = map plain_area areas; bytes = bench'.bytes }) ran.whole.keeps.banks

    stays_undamaged : (damage_in k.damage areas (begun image bench) ≡ None → damage_in k.damage areas bench' ≡ None)
        → damage_of k areas image ≡ None → damage_of k areas (image_on areas bench') ≡ None
    stays_undamaged undamaged none =
        damage_same (version_of areas) (map plain_area areas) areas bench' k ∙ undamaged (sym (damage_same (version_of areas) (map plain_area areas) areas (begun image bench) k) ∙ none)

    pub done : (answers : List Answer) (left_kinds : List HandlerKind) (text : List ℕ) (file : Option File)
        → Ran k.meanings k.damage k.rests areas (Mount ∷ lines) answers (opening old image kinds) (closing new left_kinds)
        → (damage_in k.damage areas (begun image bench) ≡ None → damage_in k.damage areas bench' ≡ None)
        → (bench'.is_on ≡ true → IsAtRest k.rests areas bench')
        → ((most : ℕ) → map_boot k.boot (begun image bench).banks areas ≤ most → OwesOnMap k.owes areas (begun image bench) most → OwesOnMap k.owes areas bench' most × MountsWithin most (Mount ∷ lines) answers)
        → text ≡ reported_by job.report lines answers (settings_of k areas (image_on areas bench'))
        → WritesLeft (out_of job.output) (image_on areas bench') file
        → JobDoes k kinds job outside old new text file
    done answers left_kinds text file ran undamaged rests boots prints writes =
        let same : image_on areas bench' ≡ left image bench' = held_left answers left_kinds ran in
        record {
          image = image;
          areas = areas;
          lines = lines;
          sets = sets;
          answers = answers;
          left_kinds = left_kinds;
          ran = ran;
          reads = reads_as (version_of areas) (map plain_area areas) areas (begun image bench) k registry kinds;
          leaves = subst (λ (i : Plain). ReadsAs k areas i (state_of k.meanings areas (closing new left_kinds))) same (reads_as (version_of areas) (map plain_area areas) areas bench' k registry' left_kinds);
          undamaged = λ none. subst (λ (i : Plain). damage_of k areas i ≡ None) same (stays_undamaged undamaged none);
          rests = rests;
          boots = λ most limit owes.
              let within = boots most limit (owes_there (version_of areas) (map plain_area areas) areas (begun image bench) k most owes) in
              (subst (λ (i : Plain). OwesOf k areas i most) same (owes_as (version_of areas) (map plain_area areas) areas bench' k most within.0), within.1);
          banks = ran.whole.keeps.banks;
          loads = ran.whole.keeps.loads;
          prints = subst (λ (i : Plain). text ≡ reported_by job.report lines answers (settings_of k areas i)) same prints;
          writes = subst (λ (i : Plain). WritesLeft (out_of job.output) i file) same writes;
        }

    pub damaged : (place : ℕ) (damage : Damaged) (label : List ℕ) → label ≡ (area_at areas place).label.bytes
        → RunStops k.meanings k.damage k.rests areas (Mount ∷ lines) (opening old image kinds) bench' (IsDamaged place damage)
        → (damage_in k.damage areas (begun image bench) ≡ None → IsDamaged place damage ≡ WantsMemory)
        → FindsDamage k kinds job outside old new label damage
    damaged place damage label named stops serves = record {
      image = image;
      areas = areas;
      lines = lines;
      sets = sets;
      place = place;
      named = named;
      stops = inl stops;
      shows = λ none. no (serves (sym (damage_same (version_of areas) (map plain_area areas) areas (begun image bench) k) ∙ none));
    }
      where
        no : IsDamaged place damage ≡ WantsMemory → ⊥
        no is = cc

    -- the image that is left shows damage, where its settings are counted
    pub damaged_left : (answers : List Answer) (left_kinds : List HandlerKind) (place : ℕ) (damage : Damaged) (label : List ℕ) → label ≡ (area_at areas place).label.bytes
        → counts_settings job.report ≡ true
        → Ran k.meanings k.damage k.rests areas (Mount ∷ lines) answers (opening old image kinds) (closing new left_kinds)
        → (damage_in k.damage areas (begun image bench) ≡ None → damage_in k.damage areas bench' ≡ None)
        → damage_of k areas (image_on areas bench') ≡ Some (place, damage)
        → FindsDamage k kinds job outside old new label damage
    damaged_left answers left_kinds place damage label named counts ran undamaged says = record {
      image = image;
      areas = areas;
      lines = lines;
      sets = sets;
      place = place;
      named = named;
      stops = inr (record {
        counts = counts;
        answers = answers;
        left_kinds = left_kinds;
        ran = ran;
        leaves = subst (λ (i : Plain). damage_of k areas i ≡ Some (place, damage)) (held_left answers left_kinds ran) says;
      });
      shows = λ none. none-some (place, damage) (sym (stays_undamaged undamaged none) ∙ says);
    }

    pub began : (RunStops k.meanings k.damage k.rests areas (Mount ∷ lines) (opening old image kinds) bench' WantsMemory
        ⊎ ((answers : List Answer) × (left_kinds : List HandlerKind) × Ran k.meanings k.damage k.rests areas (Mount ∷ lines) answers (opening old image kinds) (closing new left_kinds)))
        → HasBegun k kinds job outside old new
    began went = record { image = image; areas = areas; lines = lines; sets = sets; went = went }

    stopped_at : (fault : SessionFault) (stop : Stop) → RunStops k.meanings k.damage k.rests areas (Mount ∷ lines) (opening old image kinds) bench' fault
        → (damage_in k.damage areas (begun image bench) ≡ None → fault ≡ WantsMemory) → IsStop areas fault stop → JobEnds k kinds job outside outside old new (Err stop)
    stopped_at (IsDamaged place damage) (Refused (BadArea label found)) stops serves is =
        (inr (inr (subst (λ (d : Damaged). FindsDamage k kinds job outside old new label.bytes d) (sym is.1) (damaged place damage label.bytes is.0 stops serves))), refl)
    stopped_at (IsDamaged place damage) (Refused BadSpec) stops serves is = absurd is
    stopped_at (IsDamaged place damage) (Refused (NoFile word)) stops serves is = absurd is
    stopped_at (IsDamaged place damage) (Refused (BadFile at why)) stops serves is = absurd is
    stopped_at (IsDamaged place damage) (Refused NoLog) stops serves is = absurd is
    stopped_at (IsDamaged place damage) (Refused NoItems) stops serves is = absurd is
    stopped_at (IsDamaged place damage) (Refused NoMirror) stops serves is = absurd is
    stopped_at (IsDamaged place damage) (Refused (Unfit label)) stops serves is = absurd is
    stopped_at (IsDamaged place damage) (Refused (BadScript n why)) stops serves is = absurd is
    stopped_at (IsDamaged place damage) HostFailed stops serves is = absurd is
    stopped_at (IsDamaged place damage) NoMemory stops serves is = absurd is
    stopped_at WantsMemory NoMemory stops serves is = (inr (began (inl stops)), refl)
    stopped_at WantsMemory HostFailed stops serves is = absurd is
    stopped_at WantsMemory (Refused refusal) stops serves is = absurd is

    -- the same from the flash as it was when the lines began
    module _ (first : Device) (loaded : first ≡ begun image bench) where
      pub stopped : (fault : SessionFault) (stop : Stop) → RunStops k.meanings k.damage k.rests areas (Mount ∷ lines) (moment first registry kinds) bench' fault
          → (damage_in k.damage areas first ≡ None → fault ≡ WantsMemory) → IsStop areas fault stop → JobEnds k kinds job outside outside old new (Err stop)
      stopped fault stop stops serves is =
          stopped_at fault stop
          (subst (λ (d : Device). RunStops k.meanings k.damage k.rests areas (Mount ∷ lines) (moment d registry kinds) bench' fault) loaded stops)
          (subst (λ (d : Device). damage_in k.damage areas d ≡ None → fault ≡ WantsMemory) loaded serves) is

      pub wanted : (answers : List Answer) (left_kinds : List HandlerKind)
          → Ran k.meanings k.damage k.rests areas (Mount ∷ lines) answers (moment first registry kinds) (closing new left_kinds) → JobEnds k kinds job outside outside old new (Err NoMemory)
      wanted answers left_kinds ran =
          (inr (began (inr (answers, left_kinds, subst (λ (d : Device). Ran k.meanings k.damage k.rests areas (Mount ∷ lines) answers (moment d registry kinds) (closing new left_kinds)) loaded ran))), refl)

      -- the lines were carried out, and there is no report
      pub unreported : {X : Type 0} (P : X → Type 0) (answers : List Answer) (left_kinds : List HandlerKind) (stop : Stop)
          → Ran k.meanings k.damage k.rests areas (Mount ∷ lines) answers (moment first registry kinds) (closing new left_kinds)
          → (damage_in k.damage areas first ≡ None → damage_in k.damage areas bench' ≡ None)
          → MakesOr P (λ refusal. (counts_settings job.report ≡ true) × SaysDamage k areas (image_on areas bench') refusal) (Err stop)
          → JobEnds k kinds job outside outside old new (Err stop)
      unreported P answers left_kinds (Refused (BadArea label damage)) ran undamaged says = (
        inr (inr (damaged_left answers left_kinds says.1.0 damage label.bytes says.1.1 says.0
            (subst (λ (d : Device). Ran k.meanings k.damage k.rests areas (Mount ∷ lines) answers (moment d registry kinds) (closing new left_kinds)) loaded ran)
            (subst (λ (d : Device). damage_in k.damage areas d ≡ None → damage_in k.damage areas bench' ≡ None) loaded undamaged) says.1.2)),
        refl,
      )
      unreported P answers left_kinds (Refused refusal) ran undamaged says = absurd says.1
      unreported P answers left_kinds HostFailed ran undamaged says = absurd says
      unreported P answers left_kinds NoMemory ran undamaged says = wanted answers left_kinds ran

      pub job_done : (answers : List Answer) (left_kinds : List HandlerKind) (text : List ℕ) (file : Option File)
          → Ran k.meanings k.damage k.rests areas (Mount ∷ lines) answers (moment first registry kinds) (closing new left_kinds)
          → (damage_in k.damage areas first ≡ None → damage_in k.damage areas bench' ≡ None)
          → (bench'.is_on ≡ true → IsAtRest k.rests areas bench')
          → ((most : ℕ) → map_boot k.boot first.banks areas ≤ most → OwesOnMap k.owes areas first most → OwesOnMap k.owes areas bench' most × MountsWithin most (Mount ∷ lines) answers)
          → text ≡ reported_by job.report lines answers (settings_of k areas (image_on areas bench'))
          → WritesLeft (out_of job.output) (image_on areas bench') file
          → JobDoes k kinds job outside old new text file
      job_done answers left_kinds text file ran undamaged rests boots prints writes =
          done answers left_kinds text file
          (subst (λ (d : Device). Ran k.meanings k.damage k.rests areas (Mount ∷ lines) answers (moment d registry kinds) (closing new left_kinds)) loaded ran)
          (subst (λ (d : Device). damage_in k.damage areas d ≡ None → damage_in k.damage areas bench' ≡ None) loaded undamaged)
          rests
          (subst (λ (d : Device). (most : ℕ) → map_boot k.boot d.banks areas ≤ most → OwesOnMap k.owes areas d most → OwesOnMap k.owes areas bench' most × MountsWithin most (Mount ∷ lines) answers) loaded boots)
          prints writes
