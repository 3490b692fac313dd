-- How a job on a mirror ends, from how its lines ended on a bench that was just loaded.
use Rattle.std.proofs.Common.{◌≡◌, ◌⊎◌, ◌+◌, ◌≤◌, ℕ, Bool, false, List, ◌∷◌, map, Option, Some, None, Err, inl, inr, refl, sym, ap, subst, ◌∙◌}
use Rattle.std.specs.Global.{Vec}
use Rattle.std.proofs.lemmas.Bool.{false≢true}
use Rattle.flash_sim.specs.Device.{Device, counted}
use Rattle.flash_sim.specs.declared.flash.Bank.{Bank}
use Rattle.flash_map.specs.declared.area.Area.{Area}
use Rattle.flash_map.proofs.Plans.{counted_counted}
use Rattle.flash_map.specs.declared.faults.Damaged.{Damaged}
use Rattle.std.specs.Option.{option_and_then, option_map, option_or}
use Rattle.fcb_ring.specs.Standing.{ring_damage}
use Rattle.migrator.specs.Areas.{selector_of}
use Rattle.any_backend.specs.ByRole.{any_boot, any_contents, any_damage, any_owes, any_rests, any_serves}
use Rattle.mirror.specs.Trusted.{BothRead, IsMirrorMap, MirrorReads, damage_shown, selector_place, trusted_damage, trusted_on}
use Rattle.backend_api.specs.Map.{Map}
use Rattle.mirror.specs.Mounting.{IsAtRest}
use Rattle.zs_host.specs.Outside.{Outside}
use Rattle.image_file.specs.Format.{Plain, image_on, plain_area, version_of}
use Rattle.session.specs.OnMap.{limit_of}
use Rattle.session.specs.Owing.{greatest_boot}
use Rattle.session_table.specs.Bench.{area_at}
use Rattle.image_jobs.specs.declared.stops.Refusal.{Refusal}
use Rattle.image_jobs.specs.declared.stops.Stop.{Stop}
use Rattle.image_jobs.specs.declared.stops.Stop.TheVariants.{Refused, HostFailed, NoMemory}
use Rattle.image_jobs.specs.Images.{begun, flash_of, left}
use Rattle.image_jobs.specs.Jobs.{File, WritesLeft}
use Rattle.image_jobs.specs.Reading.{HasImage, ReadsOr}
use Rattle.mirror_session.specs.declared.line.Line.{Line}
use Rattle.mirror_session.specs.declared.line.Line.TheVariants.{Mount}
use Rattle.mirror_session.specs.declared.answer.Answer.{Answer}
use Rattle.mirror_session.specs.declared.fault.SessionFault.{SessionFault}
use Rattle.mirror_session.specs.declared.fault.SessionFault.TheVariants.{Damaged as IsDamaged, Unfit as IsUnfit, NoMemory as WantsMemory}
use Rattle.mirror_session.specs.Bench.{moment, rules_of, state_of}
use Rattle.mirror_session.specs.Owing.{BootsWithin, BothOwe, OwesAt}
use Rattle.mirror_session.specs.Standing.{RestsNow}
use Rattle.mirror_session.specs.Running.{Ran, RunStops, replaced_in}
use Rattle.mirror_session.proofs.MountLemmas.{never_on, trusted_there}
use Rattle.mirror_session.proofs.SoundLemmas.{selector_none, trusted_none}
use Rattle.mirror_session.proofs.PowerLemmas.{stays_mirrored}
use Rattle.mirror_session.proofs.PrefixLemmas.{holds_acknowledged}
use Rattle.session_jobs.specs.MirrorInputs.{AreMirrored, HasLines, LacksLines}
use Rattle.session_jobs.proofs.SoundLemmas.{stays_sound, stops_sound}
use Rattle.session_jobs.specs.MirrorJobs.{BothOweIn, HasBegunMirror, IsStop, MirrorJobEnds, OpensMirror, MirrorJobDoes, OwesIn, SetsMirror, any_meanings, closing, damage_in, opening, other_settings_in, settings_in, texts}

-- ---- an image with the banks and bytes of a bench reads as that bench

-- such an image, whatever its version and areas
abbrev of_bench : ℕ → List Area → Device → Plain
of_bench version areas d = record { version = version; banks = d.banks; areas = areas; bytes = d.bytes }

module _ (version : ℕ) (plain_areas areas : List Area) (d : Device) (whole : Bool) where
  settings_same : settings_in areas (of_bench version plain_areas d) ≡ (state_of any_meanings areas (moment d whole)).settings
  settings_same = refl

  other_same : other_settings_in areas (of_bench version plain_areas d) ≡ (state_of any_meanings areas (moment d whole)).other
  other_same = refl

module _ (version : ℕ) (plain_areas areas : List Area) (d : Device) where
  ring_damage_same : (selector : Option Area) → option_and_then (ring_damage (flash_of (of_bench version plain_areas d))) selector ≡ option_and_then (ring_damage d) selector
  ring_damage_same None = refl
  ring_damage_same (Some selector) = refl

  damage_same : damage_in areas (of_bench version plain_areas d) ≡ damage_shown any_damage areas d
  damage_same =
      ap (λ (damage : Option Damaged). option_or (option_map (λ shown. (selector_place areas, shown)) damage) (option_map (λ shown. (trusted_on areas d, shown)) (trusted_damage any_damage areas d)))
      (ring_damage_same (selector_of areas))

  both_same : (s : Map) → BothRead any_damage any_contents areas d s → BothRead any_damage any_contents areas (flash_of (of_bench version plain_areas d)) s
  both_same s is = record { sound = ring_damage_same (selector_of areas) ∙ is.sound; undamaged = is.undamaged; reads = is.reads }

  rests_same : IsAtRest any_damage any_contents any_rests areas d → IsAtRest any_damage any_contents any_rests areas (flash_of (of_bench version plain_areas d))
  rests_same is = record {
    selector = is.selector;
    named = is.named;
    trusted = is.trusted;
    other = is.other;
    placed = record { trusted_there = is.placed.trusted_there; other_there = is.placed.other_there };
    trusted_rests = is.trusted_rests;
    other_rests = is.other_rests;
    same = record { sound = is.same.sound; reads = is.same.reads };
  }

  owes_same : (due most : ℕ) → OwesAt any_owes areas (moment d false) due most → OwesIn areas (of_bench version plain_areas d) due most
  owes_same due most is = record { selector = is.selector; read = is.read; both = is.both }

  owes_back : (due most : ℕ) → OwesIn areas (of_bench version plain_areas d) due most → OwesAt any_owes areas (moment d false) due most
  owes_back due most is = record { selector = is.selector; read = is.read; both = is.both }

  both_owe_same : (most : ℕ) → BothOwe any_owes areas d most → BothOweIn areas (of_bench version plain_areas d) most
  both_owe_same most owe place area at store = owe place area at store

  -- such an image that shows no damage reads as the map of its trusted area
  mirror_reads_same : (whole : Bool) → IsMirrorMap any_serves areas d → damage_shown any_damage areas d ≡ None
      → MirrorReads any_damage any_contents areas (flash_of (of_bench version plain_areas d)) (state_of any_meanings areas (moment d whole)).settings
  mirror_reads_same whole map none = record {
    sound = ring_damage_same (selector_of areas) ∙ selector_none any_damage areas d none;
    area = area_at areas (trusted_on areas d);
    there = trusted_there any_serves areas d map;
    undamaged = trusted_none any_damage areas d (area_at areas (trusted_on areas d)) (trusted_there any_serves areas d map) none;
    reads = refl;
  }

-- ---- an image with a mirror, and no lines

without_lines : (name script out : List ℕ) (host host' : Outside) (image : Plain) (areas : List Area) (bench : Device) → OpensMirror name host image areas → (stop : Stop)
    → ReadsOr {X = Vec Line} (λ lines. HasLines (limit_of areas) host script lines.items) (LacksLines (limit_of areas) host script) host host' (Err stop)
    → MirrorJobEnds name script out host host' bench bench (Err stop)
without_lines name script out host host' image areas bench opens (Refused refusal) reads =
    (inr (inr (inl (record { image = image; areas = areas; opens = opens; lacks = reads.0 }, refl))), reads.1)
without_lines name script out host host' image areas bench opens HostFailed reads = (refl, reads)
without_lines name script out host host' image areas bench opens NoMemory reads = (inl refl, reads)

-- the same from the host and the limit as they were then
pub lacks_lines : (name script out : List ℕ) (host mid host' : Outside) (image : Plain) (areas : List Area) (bench : Device) (limit : ℕ) (stop : Stop) → OpensMirror name host image areas → mid ≡ host → limit ≡ limit_of areas
    → ReadsOr {X = Vec Line} (λ lines. HasLines limit mid script lines.items) (LacksLines limit mid script) mid host' (Err stop)
    → MirrorJobEnds name script out host host' bench bench (Err stop)
lacks_lines name script out host mid host' image areas bench limit stop opens stays is reads =
    without_lines name script out host host' image areas bench opens stop
    (subst (λ (n : ℕ). ReadsOr {X = Vec Line} (λ lines. HasLines n host script lines.items) (LacksLines n host script) host host' (Err stop)) is
    (subst (λ (h : Outside). ReadsOr {X = Vec Line} (λ lines. HasLines limit h script lines.items) (LacksLines limit h script) h host' (Err stop)) stays reads))

-- ---- an image on a bench

module _ (name script out : List ℕ) (outside : Outside) (banks : List Bank) (bytes : List (List ℕ)) (areas : List Area) (lines : List Line) (bench bench' : Device) where
  -- the image of the job
  abbrev pub image : Plain
  image = record { version = version_of areas; banks = banks; areas = map plain_area areas; bytes = bytes }

  -- what the mirror owes after lines with these answers, and what their mounts report
  abbrev pub RunOwes : Device → List Answer → Type 0
  RunOwes first answers = (due most : ℕ) → 1 ≤ due → greatest_boot any_boot first.banks areas ≤ most → OwesAt any_owes areas (moment first false) due most
      → OwesAt any_owes areas (moment bench' false) due most × BootsWithin any_owes any_meanings areas due most (Mount ∷ lines) answers (moment first false) bench'

  module _ (mirrored : AreMirrored areas) (has : HasImage outside name image) (gives : HasLines (limit_of areas) outside script lines) where
    sets : SetsMirror name script outside image areas lines
    sets = record { opens = record { has = has; are = record { version = refl; are = refl }; mirrored = mirrored }; gives = gives }

    done : (answers : List Answer) (whole : Bool) (text : List ℕ) (file : Option File) (map_left : IsMirrorMap any_serves areas bench')
        → Ran any_meanings areas (Mount ∷ lines) answers (opening image bench) (closing bench' whole)
        → RestsNow any_meanings areas (closing bench' whole)
        → RunOwes (begun image bench) answers
        → text ≡ texts answers
        → WritesLeft (Some out) (image_on areas bench') file
        → MirrorJobDoes name script out outside bench bench' text file
    done answers whole text file map_left ran still_rests owed prints writes =
        let same : image_on areas bench' ≡ left image bench' =
        ap (λ (banks : List Bank). record { version = version_of areas; banks = banks; areas = map plain_area areas; bytes = bench'.bytes }) ran.keeps.banks in
        record {
          image = image;
          areas = areas;
          lines = lines;
          sets = sets;
          answers = answers;
          whole = whole;
          ran = ran;
          after = holds_acknowledged (rules_of any_meanings areas banks bench'.spent) (Mount ∷ lines) answers
              (state_of any_meanings areas (opening image bench)) (state_of any_meanings areas (closing bench' whole)) refl refl ran.session;
          mirrored = stays_mirrored (rules_of any_meanings areas banks bench'.spent) (Mount ∷ lines) answers
              (state_of any_meanings areas (opening image bench)) (state_of any_meanings areas (closing bench' whole)) (λ on. cc) ran.session;
          reads = settings_same (version_of areas) (map plain_area areas) areas (begun image bench) whole;
          reads_other = other_same (version_of areas) (map plain_area areas) areas (begun image bench) whole;
          leaves = subst (λ (i : Plain). settings_in areas i ≡ (state_of any_meanings areas (closing bench' whole)).settings) same
              (settings_same (version_of areas) (map plain_area areas) areas bench' whole);
          leaves_other = subst (λ (i : Plain). other_settings_in areas i ≡ (state_of any_meanings areas (closing bench' whole)).other) same
              (other_same (version_of areas) (map plain_area areas) areas bench' whole);
          undamaged = λ none. subst (λ (i : Plain). damage_in areas i ≡ None) same (damage_same (version_of areas) (map plain_area areas) areas bench' ∙ still none);
          mirror_reads = λ none. subst (λ (i : Plain). MirrorReads any_damage any_contents areas (flash_of i) (state_of any_meanings areas (closing bench' whole)).settings) same
              (mirror_reads_same (version_of areas) (map plain_area areas) areas bench' whole map_left (still none));
          both_read = λ on_then. subst (λ (i : Plain). BothRead any_damage any_contents areas (flash_of i) (state_of any_meanings areas (closing bench' whole)).settings) same
              (both_same (version_of areas) (map plain_area areas) areas bench' (state_of any_meanings areas (closing bench' whole)).settings (ran.both (λ on_first. absurd (never_on (begun image bench).is_on on_first)) on_then));
          rests = λ on_then. subst (λ (i : Plain). IsAtRest any_damage any_contents any_rests areas (flash_of i)) same
              (rests_same (version_of areas) (map plain_area areas) areas bench' (still_rests on_then));
          boots = λ due most one within owes.
              let after = owed due most one within (owes_back (version_of areas) (map plain_area areas) areas (begun image bench) due most owes) in (
                subst (λ (i : Plain). OwesIn areas i due most) same (owes_same (version_of areas) (map plain_area areas) areas bench' due most after.0),
                λ mounted. subst (λ (i : Plain). BothOweIn areas i most) same (both_owe_same (version_of areas) (map plain_area areas) areas bench' most (after.1.both mounted)),
                after.1,
              );
          banks = ran.keeps.banks;
          loads = loads;
          prints = prints;
          writes = subst (λ (i : Plain). WritesLeft (Some out) i file) same writes;
        }
      where
        still : damage_in areas image ≡ None → damage_shown any_damage areas bench' ≡ None
        still none =
            stays_sound areas (Mount ∷ lines) answers (opening image bench) (closing bench' whole) ran.in_turn
            (sym (damage_same (version_of areas) (map plain_area areas) areas (begun image bench)) ∙ none)

        loads : bench'.loads ≡ counted bench.loads (1 + replaced_in (Mount ∷ lines) answers)
        loads = ran.keeps.loaded ∙ counted_counted bench.loads 1 (replaced_in (Mount ∷ lines) answers)

    began : RunStops any_meanings areas (Mount ∷ lines) (opening image bench) bench' WantsMemory
        ⊎ ((answers : List Answer) × (whole : Bool) × Ran any_meanings areas (Mount ∷ lines) answers (opening image bench) (closing bench' whole))
        → HasBegunMirror name script outside bench bench'
    began went = record { image = image; areas = areas; lines = lines; sets = sets; went = went }

    stops_at_mount : (fault : SessionFault) (refusal : Refusal) → RunStops any_meanings areas (Mount ∷ lines) (opening image bench) bench' fault → IsStop areas fault (Refused refusal)
        → MirrorJobEnds name script out outside outside bench bench' (Err (Refused refusal))
    stops_at_mount fault refusal stops is = (
      inr (inr (inr (record {
        image = image;
        areas = areas;
        lines = lines;
        sets = sets;
        fault = fault;
        is = is;
        stops = stops;
        shows = λ none reports. stops_sound areas (Mount ∷ lines) (opening image bench) bench' fault stops
            (sym (damage_same (version_of areas) (map plain_area areas) areas (begun image bench)) ∙ none) reports;
        fits = λ fit reports. stops.fitting reports (record { settings = fit; other = λ now. absurd (false≢true now) });
      }))),
      refl,
    )

    stopped_at : (fault : SessionFault) → RunStops any_meanings areas (Mount ∷ lines) (opening image bench) bench' fault → (stop : Stop) → IsStop areas fault stop
        → MirrorJobEnds name script out outside outside bench bench' (Err stop)
    stopped_at (IsDamaged place damage) stops stop (label, named, is) =
        subst (λ (s : Stop). MirrorJobEnds name script out outside outside bench bench' (Err s)) (sym is)
        (stops_at_mount (IsDamaged place damage) _ stops (label, named, refl))
    stopped_at (IsUnfit place) stops stop (label, named, is) =
        subst (λ (s : Stop). MirrorJobEnds name script out outside outside bench bench' (Err s)) (sym is)
        (stops_at_mount (IsUnfit place) _ stops (label, named, refl))
    stopped_at WantsMemory stops stop is =
        subst (λ (s : Stop). MirrorJobEnds name script out outside outside bench bench' (Err s)) (sym is) (inr (began (inl stops)), refl)

    -- the same from the flash as it was when the lines began
    module _ (first : Device) (loaded : first ≡ begun image bench) where
      pub stopped : (fault : SessionFault) (stop : Stop) → RunStops any_meanings areas (Mount ∷ lines) (moment first false) bench' fault → IsStop areas fault stop
          → MirrorJobEnds name script out outside outside bench bench' (Err stop)
      stopped fault stop stops is =
          stopped_at fault (subst (λ (d : Device). RunStops any_meanings areas (Mount ∷ lines) (moment d false) bench' fault) loaded stops) stop is

      pub wanted : (answers : List Answer) (whole : Bool) → Ran any_meanings areas (Mount ∷ lines) answers (moment first false) (moment bench' whole)
          → MirrorJobEnds name script out outside outside bench bench' (Err NoMemory)
      wanted answers whole ran =
          (inr (began (inr (answers, whole, subst (λ (d : Device). Ran any_meanings areas (Mount ∷ lines) answers (moment d false) (moment bench' whole)) loaded ran))), refl)

      pub job_done : (answers : List Answer) (whole : Bool) (text : List ℕ) (file : Option File) → IsMirrorMap any_serves areas bench'
          → Ran any_meanings areas (Mount ∷ lines) answers (moment first false) (moment bench' whole)
          → RestsNow any_meanings areas (moment bench' whole)
          → RunOwes first answers
          → text ≡ texts answers
          → WritesLeft (Some out) (image_on areas bench') file
          → MirrorJobDoes name script out outside bench bench' text file
      job_done answers whole text file map_left ran still_rests owed prints writes =
          done answers whole text file map_left
          (subst (λ (d : Device). Ran any_meanings areas (Mount ∷ lines) answers (moment d false) (moment bench' whole)) loaded ran) still_rests (subst (λ (d : Device). RunOwes d answers) loaded owed) prints writes
