-- How a job on a log ends, from how its lines ended on a bench that was just loaded.
use Rattle.std.proofs.Common.{◌≡◌, ◌⊎◌, ℕ, true, List, [], ◌∷◌, map, Option, Some, None, Ok, Err, inl, inr, refl, sym, ap, subst, ◌∙◌}
use Rattle.flash_sim.specs.Bank.{IsLawful}
use Rattle.flash_sim.specs.Device.{Device}
use Rattle.flash_sim.specs.declared.flash.Bank.{Bank}
use Rattle.flash_map.specs.declared.area.Area.{Area}
use Rattle.flash_map.specs.Area.{geometry_of, value_limit}
use Rattle.fcb_ring.specs.Standing.{IsRingArea, erases_on, ring_damage}
use Rattle.zs_host.specs.Outside.{Outside}
use Rattle.image_file.specs.Format.{Plain, image_on, plain_area, version_of}
use Rattle.image_jobs.specs.declared.stops.Stop.{Stop}
use Rattle.image_jobs.specs.declared.stops.Stop.TheVariants.{NoMemory}
use Rattle.image_jobs.specs.Images.{HasAreas, begun, left}
use Rattle.image_jobs.specs.Jobs.{File, WritesLeft}
use Rattle.image_jobs.specs.Reading.{HasImage}
use Rattle.log_session.specs.declared.line.Line.{Line}
use Rattle.log_session.specs.declared.line.Line.TheVariants.{Mount}
use Rattle.log_session.specs.declared.answer.Answer.{Answer}
use Rattle.log_session.specs.declared.fault.SessionFault.{SessionFault}
use Rattle.log_session.specs.declared.fault.SessionFault.TheVariants.{Damaged as IsDamaged, NoMemory as WantsMemory}
use Rattle.log_session.specs.LineDone.{state_of}
use Rattle.log_session.specs.Running.{Ran, RunEnds, RunStops}
use Rattle.log_session.proofs.HistoryLemmas.{holds_acknowledged}
use Rattle.log_session.proofs.OwesLemmas.{run-boots}
use Rattle.log_session.proofs.StoredLemmas.{blank_drops_for_room}
use Rattle.session_jobs.specs.LogInputs.{HasLines, IsLogArea}
use Rattle.session_jobs.specs.LogJobs.{HasBegunLog, IsStop, LogJobEnds, LogJobDoes, OwesIn, SetsLog, damage_in, log_in, texts}

-- an image with the banks and bytes of a bench, whatever its version and areas
abbrev of_bench : ℕ → List Area → Device → Plain
of_bench version areas d = record { version = version; banks = d.banks; areas = areas; bytes = d.bytes }

log_same : (version : ℕ) (areas : List Area) (d : Device) (area : Area) → log_in (of_bench version areas d) area ≡ (state_of area d).log
log_same version areas d area = refl

damage_same : (version : ℕ) (areas : List Area) (d : Device) (area : Area) → damage_in (of_bench version areas d) area ≡ ring_damage d area
damage_same version areas d area = refl

module _ (name script out : List ℕ) (outside : Outside) (banks : List Bank) (bytes : List (List ℕ)) (areas : List Area) (area : Area) (log : IsLogArea areas area) (lines : List Line)
    (bench bench' : Device) where
  -- the image of the job
  abbrev pub image : Plain
  image = record { version = version_of areas; banks = banks; areas = map plain_area areas; bytes = bytes }

  module _ (has : HasImage outside name image) (gives : HasLines (value_limit area) outside script lines) where
    has_areas : HasAreas image (area ∷ [])
    has_areas = record { version = ap version_of (sym log.only); are = ap (map plain_area) (sym log.only) }

    sets : SetsLog name script outside image area lines
    sets = record { opens = record { has = has; area_is = has_areas; role = log.role }; gives = gives }

    done : (answers : List Answer) (text : List ℕ) (file : Option File)
        → IsLawful (begun image bench).banks (begun image bench).bytes → IsRingArea (begun image bench).banks area
        → ring_damage (begun image bench) area ≡ None → Ran area (Mount ∷ lines) answers (begun image bench) bench'
        → ring_damage bench' area ≡ None
        → (bench'.is_on ≡ true → erases_on bench' area ≡ 0)
        → text ≡ texts answers
        → WritesLeft (Some out) (image_on areas bench') file
        → LogJobDoes name script out outside bench bench' text file
    done answers text file lawful is_area sound ran undamaged rests prints writes =
        let same : image_on areas bench' ≡ left image bench' =
        ap (λ (banks : List Bank). record { version = version_of areas; banks = banks; areas = map plain_area areas; bytes = bench'.bytes }) ran.whole.keeps.banks in
        record {
          image = image;
          area = area;
          lines = lines;
          sets = sets;
          answers = answers;
          ran = ran;
          drops = holds_acknowledged (geometry_of (begun image bench) area) bench'.spent (Mount ∷ lines) answers (state_of area (begun image bench)) (state_of area bench') ran.whole.session;
          room = λ blank. blank_drops_for_room area (Mount ∷ lines) answers (begun image bench) bench' lawful is_area blank ran.in_turn;
          reads = log_same (version_of areas) (map plain_area areas) (begun image bench) area;
          leaves = subst (λ (i : Plain). log_in i area ≡ (state_of area bench').log) same (log_same (version_of areas) (map plain_area areas) bench' area);
          sound = sound;
          undamaged = subst (λ (i : Plain). damage_in i area ≡ None) same (damage_same (version_of areas) (map plain_area areas) bench' area ∙ undamaged);
          rests = rests;
          boots = λ most one owes.
              let within = run-boots area (Mount ∷ lines) (begun image bench) bench' (Ok answers) (sound, ran) most one owes in
              (subst (λ (i : Plain). OwesIn i area most) same within.0, within.1);
          banks = ran.whole.keeps.banks;
          loads = ran.whole.keeps.loads;
          prints = prints;
          writes = subst (λ (i : Plain). WritesLeft (Some out) i file) same writes;
        }

    began : RunStops area (Mount ∷ lines) (begun image bench) bench' ⊎ ((answers : List Answer) × Ran area (Mount ∷ lines) answers (begun image bench) bench')
        → HasBegunLog name script outside bench bench'
    began went = record { image = image; area = area; lines = lines; sets = sets; went = went }

    stopped_at : (fault : SessionFault) → RunEnds area (Mount ∷ lines) (begun image bench) bench' (Err fault) → (stop : Stop) → IsStop area fault stop
        → LogJobEnds name script out outside outside bench bench' (Err stop)
    stopped_at (IsDamaged damaged) shows stop is =
        subst (λ (s : Stop). LogJobEnds name script out outside outside bench bench' (Err s)) (sym is)
        (inr (inr (inr (record { image = image; area = area; lines = lines; sets = sets; damage = damaged; is = refl; shows = shows.0; loaded = shows.1 }))), refl)
    stopped_at WantsMemory stops stop is =
        subst (λ (s : Stop). LogJobEnds name script out outside outside bench bench' (Err s)) (sym is) (inr (began (inl stops.1)), refl)

    -- the same from the flash as it was when the lines began
    module _ (first : Device) (loaded : first ≡ begun image bench) where
      pub stopped : (fault : SessionFault) (stop : Stop) → RunEnds area (Mount ∷ lines) first bench' (Err fault) → IsStop area fault stop
          → LogJobEnds name script out outside outside bench bench' (Err stop)
      stopped fault stop stops is =
          stopped_at fault (subst (λ (d : Device). RunEnds area (Mount ∷ lines) d bench' (Err fault)) loaded stops) stop is

      pub wanted : (answers : List Answer) → Ran area (Mount ∷ lines) answers first bench' → LogJobEnds name script out outside outside bench bench' (Err NoMemory)
      wanted answers ran = (inr (began (inr (answers, subst (λ (d : Device). Ran area (Mount ∷ lines) answers d bench') loaded ran))), refl)

      pub job_done : (answers : List Answer) (text : List ℕ) (file : Option File)
          → IsLawful first.banks first.bytes → IsRingArea (begun image bench).banks area
          → ring_damage first area ≡ None → Ran area (Mount ∷ lines) answers first bench'
          → (ring_damage first area ≡ None → ring_damage bench' area ≡ None)
          → (bench'.is_on ≡ true → erases_on bench' area ≡ 0)
          → text ≡ texts answers
          → WritesLeft (Some out) (image_on areas bench') file
          → LogJobDoes name script out outside bench bench' text file
      job_done answers text file lawful is_area sound ran undamaged rests prints writes =
          done answers text file (subst (λ (d : Device). IsLawful d.banks d.bytes) loaded lawful) is_area (subst (λ (d : Device). ring_damage d area ≡ None) loaded sound)
          (subst (λ (d : Device). Ran area (Mount ∷ lines) answers d bench') loaded ran) (undamaged sound) rests prints writes
