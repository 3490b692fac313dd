-- Mounting a flash that loses no power, and asking for its names.
use Rattle.std.proofs.Common.{◌≡◌, ◌∙◌, ◌⊎◌, ℕ, Bool, true, false, cond, List, [], ◌∷◌, ◌++◌, map, Option, Some, Err, inl, inr, refl, sym, ap, subst, arith}
use Rattle.std.specs.FinMap.{entries}
use Rattle.std.proofs.lemmas.Bool.{false≢true}
use Rattle.flash_sim.specs.Device.{Device, Never, counted, loaded_once}
use Rattle.flash_map.specs.declared.area.Area.{Area}
use Rattle.flash_map.specs.declared.area.Geometry.{Geometry}
use Rattle.flash_map.specs.declared.faults.Damaged.{Damaged}
use Rattle.backend_api.specs.Map.{Map}
use Rattle.handlers.specs.declared.handler.HandlerKind.{HandlerKind}
use Rattle.handlers.specs.Registry.{Registered}
use Rattle.image_file.specs.Format.{image_on, plain_area, version_of}
use Rattle.script_lines.specs.declared.line.Line.{Line}
use Rattle.script_lines.specs.declared.line.Line.TheVariants.{Mount, Names}
use Rattle.script_lines.specs.declared.answer.Answer.{Answer}
use Rattle.script_lines.specs.declared.answer.Answer.TheVariants.{Done, Lost, Off, Names as Named}
use Rattle.script_lines.specs.Plan.{PlansNoLoss, is_lost}
use Rattle.script_lines.specs.Plan.Replan.{keeps, plans}
use Rattle.session_table.specs.Bench.{LineDone, Meanings, Moment, rules_of, state_of}
use Rattle.session_table.specs.Follows.{Follows}
use Rattle.session_table.specs.Rules.{Rules}
use Rattle.session_table.specs.State.{IsOn, State}
use Rattle.session_table.specs.Step.{Step, as_pair}
use Rattle.session.specs.declared.fault.SessionFault.{SessionFault}
use Rattle.session.specs.declared.fault.SessionFault.TheVariants.{Damaged as IsDamaged, NoMemory as WantsMemory}
use Rattle.session.specs.OnMap.{LineRan, Ran, RunStops, StopsAt, damage_in, moment}
use Rattle.image_jobs.specs.declared.stops.Refusal.{Refusal}
use Rattle.image_jobs.specs.declared.stops.Refusal.TheVariants.{BadArea}
use Rattle.image_jobs.specs.declared.stops.Stop.{Stop}
use Rattle.image_jobs.specs.declared.stops.Stop.TheVariants.{Refused, HostFailed, NoMemory}
use Rattle.image_jobs.specs.Images.{damage_of, settings_of}
use Rattle.image_jobs.specs.Jobs.{IsStop, SaysDamage}
use Rattle.image_jobs.specs.Reading.{MakesOr}
use Rattle.image_jobs.specs.Stages.{Stores}
use Rattle.image_jobs.specs.Texts.{last_pairs, pairs_in, pairs_of}
use Rattle.image_jobs.proofs.Held.{damage_same, reads_as}

-- ---- the two lines

none_lost : 0 ≡ counted 0 1 → ⊥
none_lost is = omega arith

plans_none : PlansNoLoss Mount
plans_none units same = no same
  where
    no : keeps ≡ plans units → ⊥
    no is = cc

-- a mount that reports no loss is done
mounted : (r : Rules) (answer : Answer) (old new : State) (before after : ℕ) → Step r Mount answer old new → before ≡ 0 → after ≡ before
    → after ≡ counted before (cond (is_lost answer) 1 0) → new ≡ record old { is_on = true }
mounted r (Done units) old new before after step none same counts = step.1
mounted r (Lost units false) old new before after step none same counts =
    absurd (none_lost (subst (λ (n : ℕ). n ≡ counted n 1) none (sym same ∙ counts)))
mounted r Off old new before after step none same counts = absurd (false≢true step.0)
mounted r answer old new before after step none same counts = absurd step.1

-- with power on the answer has all settings
named : (r : Rules) (answer : Answer) (old new : State) → Step r Names answer old new → IsOn old → pairs_in answer ≡ pairs_of old.settings
named r (Named active pairs) old new step on = step.1.1
named r Off old new step on = absurd (false≢true (sym step.1 ∙ on))
named r answer old new step on = absurd step.1

not_memory : (place : ℕ) (found : Damaged) → IsDamaged place found ≡ WantsMemory → ⊥
not_memory place found is = cc

not_mount : (line : Line) → Names ≡ line → line ≡ Mount → ⊥
not_mount line is same = cc

module _ (m : Meanings) (damage : Area → Geometry → List (List ℕ) → Option Damaged) (rests : Area → Geometry → List (List ℕ) → Type 0) (areas : List Area) where
  mount_done : (answer : Answer) (old new : Moment) → LineDone m areas Mount answer old new → (old.device.plan ≡ Never) → old.device.losses ≡ 0
      → state_of m areas new ≡ record (state_of m areas old) { is_on = true }
  mount_done answer old new done never none =
      mounted (rules_of m areas old.device.banks new.device.spent) answer (state_of m areas old) (state_of m areas new) old.device.losses new.device.losses
      (done.step new.device.spent (omega arith)) none (done.accounts.unplanned plans_none never).1 done.accounts.losses

  names_are : (answers : List Answer) (old new : Moment) → Follows (LineRan m damage rests areas) (Mount ∷ Names ∷ []) answers old new → (old.device.plan ≡ Never) → old.device.losses ≡ 0
      → last_pairs answers ≡ pairs_of (state_of m areas old).settings
  names_are [] old new runs never none = absurd runs
  names_are (a ∷ []) old new runs never none = absurd runs.2
  names_are (a ∷ b ∷ []) old new runs never none =
      let mid = runs.0 in
      let after = runs.2.0 in
      let stays = mount_done a old mid runs.1.carried.done never none in
      named (rules_of m areas mid.device.banks after.device.spent) b (state_of m areas mid) (state_of m areas after) (runs.2.1.carried.done.step after.device.spent (omega arith)) (ap (λ (s : State). s.is_on) stays)
      ∙ ap (λ (s : State). pairs_of s.settings) stays
  names_are (a ∷ b ∷ c ∷ rest) old new runs never none = absurd runs.2.2

  -- only the mount finds damage
  at_first : (place : ℕ) (found : Damaged) (prefix rest : List Line) (answers : List Answer) (old mid : Moment) (new : Device) → Mount ∷ Names ∷ [] ≡ prefix ++ rest
      → Follows (LineRan m damage rests areas) prefix answers old mid → StopsAt m damage areas prefix rest mid.device new (IsDamaged place found)
      → damage_in damage areas old.device ≡ Some (place, found)
  at_first place found prefix [] answers old mid new are runs stops = absurd (not_memory place found stops.1)
  at_first place found prefix (line ∷ rest) answers old mid new are runs (inl lacks) = absurd (not_memory place found lacks.1)
  at_first place found [] (line ∷ rest) [] old mid new are runs (inr stops) =
      subst (λ (now : Moment). damage_in damage areas now.device ≡ Some (place, found)) runs stops.1
  at_first place found [] (line ∷ rest) (answer ∷ answers) old mid new are runs (inr stops) = absurd runs
  at_first place found (first ∷ []) (line ∷ rest) answers old mid new are runs (inr stops) = absurd (not_mount line (second are) stops.0)
    where
      second : Mount ∷ Names ∷ [] ≡ first ∷ line ∷ rest → Names ≡ line
      second same = cc
  at_first place found (first ∷ next ∷ prefix) (line ∷ rest) answers old mid new are runs (inr stops) = absurd (no prefix are)
    where
      no : (prefix : List Line) → Mount ∷ Names ∷ [] ≡ first ∷ next ∷ (prefix ++ line ∷ rest) → ⊥
      no [] same = cc
      no (third ∷ prefix) same = cc

  damage_found : (place : ℕ) (found : Damaged) (old : Moment) (new : Device) → RunStops m damage rests areas (Mount ∷ Names ∷ []) old new (IsDamaged place found)
      → damage_in damage areas old.device ≡ Some (place, found)
  damage_found place found old new stops = at_first place found stops.prefix stops.rest stops.answers old stops.mid new stops.are stops.runs.in_turn stops.stops

-- ---- a flash of its own that holds what a bench holds

module _ (k : Stores) (areas : List Area) (bench : Device) (lines : List Line) (d : Device) (registry : List Registered) (pool : List HandlerKind)
    (names : lines ≡ Names ∷ []) (copy : d ≡ loaded_once bench) where
  -- the answers have the settings of the image
  pub asked : (answers : List Answer) (new : Moment) → Ran k.meanings k.damage k.rests areas (Mount ∷ lines) answers (moment d registry pool) new
      → last_pairs answers ≡ pairs_of (settings_of k areas (image_on areas bench))
  asked answers new ran =
      let from : Follows (LineRan k.meanings k.damage k.rests areas) (Mount ∷ Names ∷ []) answers (moment (loaded_once bench) registry pool) new =
      subst (λ (e : Device). Follows (LineRan k.meanings k.damage k.rests areas) (Mount ∷ Names ∷ []) answers (moment e registry pool) new) copy
      (subst (λ (ls : List Line). Follows (LineRan k.meanings k.damage k.rests areas) (Mount ∷ ls) answers (moment d registry pool) new) names ran.in_turn) in
      names_are k.meanings k.damage k.rests areas answers (moment (loaded_once bench) registry pool) new from refl refl
      ∙ sym (ap (λ (s : Map). pairs_of s) (reads_as (version_of areas) (map plain_area areas) areas (loaded_once bench) k registry pool).settings)

  damage_shown : (new : Device) (place : ℕ) (damage : Damaged) → RunStops k.meanings k.damage k.rests areas (Mount ∷ lines) (moment d registry pool) new (IsDamaged place damage)
      → damage_of k areas (image_on areas bench) ≡ Some (place, damage)
  damage_shown new place damage stops =
      damage_same (version_of areas) (map plain_area areas) areas (loaded_once bench) k
      ∙ damage_found k.meanings k.damage k.rests areas place damage (moment (loaded_once bench) registry pool) new
      (subst (λ (e : Device). RunStops k.meanings k.damage k.rests areas (Mount ∷ Names ∷ []) (moment e registry pool) new (IsDamaged place damage)) copy
      (subst (λ (ls : List Line). RunStops k.meanings k.damage k.rests areas (Mount ∷ ls) (moment d registry pool) new (IsDamaged place damage)) names stops))

  -- or the image shows damage
  pub not_asked : {X : Type 0} (P : X → Type 0) (new : Device) (fault : SessionFault) (stop : Stop)
      → RunStops k.meanings k.damage k.rests areas (Mount ∷ lines) (moment d registry pool) new fault → IsStop areas fault stop
      → MakesOr P (SaysDamage k areas (image_on areas bench)) (Err stop)
  not_asked P new (IsDamaged place damage) (Refused (BadArea label found)) stops is =
      (place, is.0, damage_shown new place damage stops ∙ ap (λ (d : Damaged). Some (place, d)) (sym is.1))
  not_asked P new WantsMemory NoMemory stops is = tt
  not_asked P new fault stop stops is = absurd is
