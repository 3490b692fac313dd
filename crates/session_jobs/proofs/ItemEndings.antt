-- How a job on items ends, from how its lines ended on a bench that was just loaded.
use Rattle.std.proofs.Common.{◌≡◌, ◌⊎◌, ℕ, true, List, [], ◌∷◌, map, Option, Some, None, Ok, Err, inl, inr, refl, sym, ap, subst, ◌∙◌}
use Rattle.flash_sim.specs.Bank.{IsLawful}
use Rattle.flash_sim.specs.Device.{Device}
use Rattle.flash_sim.specs.declared.flash.Bank.{Bank}
use Rattle.flash_map.specs.declared.area.Area.{Area}
use Rattle.flash_map.specs.Area.{geometry_of, value_limit}
use Rattle.std.specs.Global.{Vec}
use Rattle.zs_host.specs.Outside.{Outside, failed}
use Rattle.image_file.specs.declared.image.Image.{Image}
use Rattle.image_file.specs.Format.{Plain, image_on, plain, plain_area, version_of}
use Rattle.image_jobs.specs.declared.stops.Stop.{Stop}
use Rattle.image_jobs.specs.declared.stops.Stop.TheVariants.{Refused, HostFailed, NoMemory}
use Rattle.image_jobs.specs.Images.{HasAreas, begun, left}
use Rattle.image_jobs.specs.Jobs.{File, WritesLeft}
use Rattle.image_jobs.specs.Reading.{HasImage, ReadsOr}
use Rattle.item_session.specs.declared.line.Line.{Line}
use Rattle.item_session.specs.declared.line.Line.TheVariants.{Mount}
use Rattle.item_session.specs.declared.answer.Answer.{Answer}
use Rattle.item_session.specs.declared.fault.SessionFault.{SessionFault}
use Rattle.item_session.specs.declared.fault.SessionFault.TheVariants.{Damaged as IsDamaged, NoMemory as WantsMemory}
use Rattle.item_session.specs.Device.{RestsOn, rules_on, state_of}
use Rattle.item_session.specs.Owing.{OwesOn, boot_units}
use Rattle.item_session.specs.Running.{Ran, RunEnds, RunStops}
use Rattle.item_session.specs.Standing.{damage_on}
use Rattle.item_session.proofs.HistoryLemmas.{holds_acknowledged}
use Rattle.item_session.proofs.OwesLemmas.{run-boots}
use Rattle.session_jobs.specs.ItemInputs.{HasLines, IsItemArea, LacksLines, ids_of}
use Rattle.session_jobs.specs.ItemJobs.{HasBegunItems, IsStop, ItemJobEnds, LacksItemLines, ItemJobDoes, OwesIn, ServesItems, SetsItems, boot_in, damage_in, list_in, role_format, texts}
use Rattle.session_jobs.proofs.WholeLemmas.{stays_whole}

-- an image with the banks and bytes of a bench, whatever its version and areas
abbrev of_bench : ℕ → List Area → Device → Plain
of_bench version areas d = record { version = version; banks = d.banks; areas = areas; bytes = d.bytes }

list_same : (version : ℕ) (areas : List Area) (d : Device) (area : Area) → list_in (of_bench version areas d) area ≡ (state_of (role_format area.role) area d).list
list_same version areas d area = refl

damage_same : (version : ℕ) (areas : List Area) (d : Device) (area : Area) → damage_in (of_bench version areas d) area ≡ damage_on (role_format area.role) d area
damage_same version areas d area = refl

module _ (name script out : List ℕ) (outside : Outside) (banks : List Bank) (bytes : List (List ℕ)) (areas : List Area) (area : Area) (held_items : IsItemArea areas area) (lines : List Line)
    (bench bench' : Device) where
  -- the image of the job
  abbrev pub image : Plain
  image = record { version = version_of areas; banks = banks; areas = map plain_area areas; bytes = bytes }

  module _ (has : HasImage outside name image) (gives : HasLines (ids_of area.role) (value_limit area) outside script lines) where
    has_areas : HasAreas image (area ∷ [])
    has_areas = record { version = ap version_of (sym held_items.only); are = ap (map plain_area) (sym held_items.only) }

    sets : SetsItems name script outside image area lines
    sets = record { opens = record { has = has; area_is = has_areas; role = held_items.role }; gives = gives }

    done : (answers : List Answer) (text : List ℕ) (file : Option File)
        → IsLawful (begun image bench).banks (begun image bench).bytes → ServesItems (begun image bench) area
        → damage_on (role_format area.role) (begun image bench) area ≡ None → Ran (role_format area.role) area (Mount ∷ lines) answers (begun image bench) bench'
        → damage_on (role_format area.role) bench' area ≡ None
        → OwesOn (role_format area.role) bench' area (boot_units (role_format area.role) (geometry_of (begun image bench) area))
        → (bench'.is_on ≡ true → RestsOn (role_format area.role) bench' area)
        → text ≡ texts answers
        → WritesLeft (Some out) (image_on areas bench') file
        → ItemJobDoes name script out outside bench bench' text file
    done answers text file lawful serves sound ran undamaged owes rests prints writes =
        let same : image_on areas bench' ≡ left image bench' =
        ap (λ (banks : List Bank). record { version = version_of areas; banks = banks; areas = map plain_area areas; bytes = bench'.bytes }) ran.whole.keeps.banks in
        record {
          image = image;
          area = area;
          lines = lines;
          sets = sets;
          answers = answers;
          ran = ran;
          history = holds_acknowledged (rules_on (role_format area.role) (begun image bench) area) bench'.spent (Mount ∷ lines) answers (state_of (role_format area.role) area (begun image bench)) (state_of (role_format area.role) area bench') ran.whole.session;
          whole = λ blank. stays_whole area (Mount ∷ lines) answers (begun image bench) bench' lawful blank serves ran;
          reads = list_same (version_of areas) (map plain_area areas) (begun image bench) area;
          leaves = subst (λ (i : Plain). list_in i area ≡ (state_of (role_format area.role) area bench').list) same (list_same (version_of areas) (map plain_area areas) bench' area);
          sound = sound;
          undamaged = subst (λ (i : Plain). damage_in i area ≡ None) same (damage_same (version_of areas) (map plain_area areas) bench' area ∙ undamaged);
          rests = rests;
          boots = (
            subst (λ (i : Plain). OwesIn i area (boot_in image area)) same owes,
            run-boots (role_format area.role) area (Mount ∷ lines) (begun image bench) bench' (Ok answers) (sound, ran),
          );
          banks = ran.whole.keeps.banks;
          loads = ran.whole.keeps.loads;
          prints = prints;
          writes = subst (λ (i : Plain). WritesLeft (Some out) i file) same writes;
        }

    began : RunStops (role_format area.role) area (Mount ∷ lines) (begun image bench) bench' ⊎ ((answers : List Answer) × Ran (role_format area.role) area (Mount ∷ lines) answers (begun image bench) bench')
        → HasBegunItems name script outside bench bench'
    began went = record { image = image; area = area; lines = lines; sets = sets; went = went }

    stopped_at : (fault : SessionFault) → RunEnds (role_format area.role) area (Mount ∷ lines) (begun image bench) bench' (Err fault) → (stop : Stop) → IsStop area fault stop
        → ItemJobEnds name script out outside outside bench bench' (Err stop)
    stopped_at (IsDamaged damaged) shows stop is =
        subst (λ (s : Stop). ItemJobEnds name script out outside outside bench bench' (Err s)) (sym is)
        (inr (inr (inr (record { image = image; area = area; lines = lines; sets = sets; damage = damaged; is = refl; shows = shows.0; loaded = shows.1 }))), refl)
    stopped_at WantsMemory stops stop is =
        subst (λ (s : Stop). ItemJobEnds name script out outside outside bench bench' (Err s)) (sym is) (inr (began (inl stops)), refl)

    -- the same from the flash as it was when the lines began
    module _ (first : Device) (loaded : first ≡ begun image bench) where
      pub stopped : (fault : SessionFault) (stop : Stop) → RunEnds (role_format area.role) area (Mount ∷ lines) first bench' (Err fault) → IsStop area fault stop
          → ItemJobEnds name script out outside outside bench bench' (Err stop)
      stopped fault stop stops is =
          stopped_at fault (subst (λ (d : Device). RunEnds (role_format area.role) area (Mount ∷ lines) d bench' (Err fault)) loaded stops) stop is

      pub wanted : (answers : List Answer) → Ran (role_format area.role) area (Mount ∷ lines) answers first bench' → ItemJobEnds name script out outside outside bench bench' (Err NoMemory)
      wanted answers ran = (inr (began (inr (answers, subst (λ (d : Device). Ran (role_format area.role) area (Mount ∷ lines) answers d bench') loaded ran))), refl)

      pub job_done : (answers : List Answer) (text : List ℕ) (file : Option File)
          → IsLawful first.banks first.bytes → ServesItems (begun image bench) area
          → damage_on (role_format area.role) first area ≡ None → Ran (role_format area.role) area (Mount ∷ lines) answers first bench'
          → (damage_on (role_format area.role) first area ≡ None → damage_on (role_format area.role) bench' area ≡ None)
          → (damage_on (role_format area.role) first area ≡ None → OwesOn (role_format area.role) bench' area (boot_units (role_format area.role) (geometry_of first area)))
          → (bench'.is_on ≡ true → RestsOn (role_format area.role) bench' area)
          → text ≡ texts answers
          → WritesLeft (Some out) (image_on areas bench') file
          → ItemJobDoes name script out outside bench bench' text file
      job_done answers text file lawful serves sound ran undamaged left_owes rests prints writes =
          done answers text file (subst (λ (d : Device). IsLawful d.banks d.bytes) loaded lawful) serves (subst (λ (d : Device). damage_on (role_format area.role) d area ≡ None) loaded sound)
          (subst (λ (d : Device). Ran (role_format area.role) area (Mount ∷ lines) answers d bench') loaded ran) (undamaged sound)
          (subst (λ (d : Device). OwesOn (role_format area.role) bench' area (boot_units (role_format area.role) (geometry_of d area))) loaded (left_owes sound)) rests prints writes

-- ---- a job that had no lines

pub no_lines_end : (name script out : List ℕ) (host mid host' : Outside) (bench : Device) (held_image : Image) (area : Area) (stop : Stop)
    → HasImage host name (plain held_image) → IsItemArea held_image.map area → mid ≡ host
    → ReadsOr {X = Vec Line} (λ lines. HasLines (ids_of area.role) (value_limit area) mid script lines.items) (LacksLines (ids_of area.role) (value_limit area) mid script) mid host' (Err stop)
    → ItemJobEnds name script out host host' bench bench (Err stop)
no_lines_end name script out host mid host' bench held_image area (Refused refusal) has items same reads =
    let has_areas : HasAreas (plain held_image) (area ∷ []) = record { version = ap version_of (sym items.only); are = ap (map plain_area) (sym items.only) } in
    let lacks : LacksItemLines name script host refusal =
    record {
      image = plain held_image;
      area = area;
      opens = record { has = has; area_is = has_areas; role = items.role };
      lacks = subst (λ (o : Outside). LacksLines (ids_of area.role) (value_limit area) o script refusal) same reads.0;
    } in (
      inr (inr (inl (lacks, refl))),
      reads.1 ∙ same,
    )
no_lines_end name script out host mid host' bench held_image area HostFailed has items same reads = (refl, reads ∙ ap failed same)
no_lines_end name script out host mid host' bench held_image area NoMemory has items same reads = (inl refl, reads ∙ same)
