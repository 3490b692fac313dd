-- Lines one after another, after the mount that opens a session.
use Rattle.std.proofs.Common.{◌≡◌, ℕ, ◌+◌, ◌<◌, ◌≤◌, Bool, false, List, [], ◌∷◌, ◌++◌, length, take, drop, get_or, inl, inr, Option, refl, sym, ap, subst, ◌∙◌, arith}
use Rattle.std.specs.Prelude.{is_some}
use Rattle.std.proofs.lemmas.List.{take_more, take_all, take-append-drop, drop_more}
use Rattle.flash_sim.specs.Device.{Device}
use Rattle.flash_map.specs.declared.area.Area.{Area}
use Rattle.flash_map.specs.declared.area.Geometry.{Geometry}
use Rattle.mirror.specs.declared.mirror.Mirror.{Mirror}
use Rattle.mirror.specs.Trusted.{IsMirrorMap}
use Rattle.session_table.specs.Follows.{Follows}
use Rattle.session_table.proofs.FollowsLemmas.{last, one}
use Rattle.mirror_session.specs.declared.line.Line.{Line}
use Rattle.mirror_session.specs.declared.line.Line.TheVariants.{Mount}
use Rattle.mirror_session.specs.declared.answer.Answer.{Answer}
use Rattle.mirror_session.specs.declared.fault.SessionFault.{SessionFault}
use Rattle.mirror_session.specs.declared.fault.SessionFault.TheVariants.{NoMemory}
use Rattle.mirror_session.specs.Bench.{Meanings, moment}
use Rattle.mirror_session.specs.LineDone.{LineDone}
use Rattle.mirror_session.specs.Running.{LineStops, Ran, RunStops}
use Rattle.mirror_session.specs.Standing.{IsReady, RestsNow}
use Rattle.mirror_session.proofs.RunLemmas.{runs_of, stopped}

pub lines_on : (lines : List Line) (i : ℕ) (line : Line) → i < length lines → line ≡ get_or lines i line → take (i + 1) lines ≡ take i lines ++ line ∷ []
lines_on lines i line below is = take_more lines i line below ∙ ap (λ (x : Line). take i lines ++ x ∷ []) (sym is)

module _ (m : Meanings) (areas : List Area) where
  -- the mount and so many lines were carried out
  abbrev pub RanTo : List Line → ℕ → List Answer → Device → Device → Bool → Type 0
  RanTo lines i answers first now whole = Follows (LineDone m areas) (Mount ∷ take i lines) answers (moment first false) (moment now whole)

  pub opened : (lines : List Line) (answer : Answer) (first now : Device) (whole : Bool) → LineDone m areas Mount answer (moment first false) (moment now whole) → RanTo lines 0 ([] ++ answer ∷ []) first now whole
  opened lines answer first now whole is = one (LineDone m areas) Mount answer (moment first false) (moment now whole) is

  pub one_more : (lines : List Line) (i : ℕ) (line : Line) (answers : List Answer) (answer : Answer) (first mid new : Device) (was whole : Bool) → i < length lines → line ≡ get_or lines i line
      → RanTo lines i answers first mid was → LineDone m areas line answer (moment mid was) (moment new whole) → RanTo lines (i + 1) (answers ++ answer ∷ []) first new whole
  one_more lines i line answers answer first mid new was whole below is so_far done =
      subst (λ (prefix : List Line). Follows (LineDone m areas) (Mount ∷ prefix) (answers ++ answer ∷ []) (moment first false) (moment new whole)) (sym (lines_on lines i line below is))
      (last (LineDone m areas) (Mount ∷ take i lines) line answers answer (moment first false) (moment mid was) (moment new whole) so_far done)

  pub ran : (lines : List Line) (i : ℕ) (answers : List Answer) (first now : Device) (whole : Bool) → length lines ≤ i → RanTo lines i answers first now whole → RestsNow m areas (moment now whole)
      → (w : Bool) × Ran m areas (Mount ∷ lines) answers (moment first false) (moment now w) × RestsNow m areas (moment now w)
  ran lines i answers first now whole all so_far still = (
    whole,
    runs_of m areas (Mount ∷ lines) answers (moment first false) (moment now whole)
        (subst (λ (prefix : List Line). Follows (LineDone m areas) (Mount ∷ prefix) answers (moment first false) (moment now whole)) (take_all i lines all) so_far),
    still,
  )

  -- the opening mount stopped
  pub stops_first : (lines : List Line) (first now : Device) (fault : SessionFault) → LineStops m areas Mount (moment first false) now fault → RunStops m areas (Mount ∷ lines) (moment first false) now fault
  stops_first lines first now fault stops = stopped m areas (Mount ∷ lines) [] (Mount ∷ lines) [] (moment first false) (moment first false) now fault refl refl (inr stops)

  -- a line after the first ones stopped
  pub stops_at : (lines : List Line) (i : ℕ) (line : Line) (answers : List Answer) (first mid now : Device) (whole : Bool) (fault : SessionFault) → i < length lines → line ≡ get_or lines i line
      → RanTo lines i answers first mid whole → LineStops m areas line (moment mid whole) now fault → RunStops m areas (Mount ∷ lines) (moment first false) now fault
  stops_at lines i line answers first mid now whole fault below is so_far stops =
      stopped m areas (Mount ∷ lines) (Mount ∷ take i lines) (line ∷ drop (i + 1) lines) answers (moment first false) (moment mid whole) now fault
      (ap (λ (l : List Line). Mount ∷ l) (sym (take-append-drop i lines) ∙ ap (λ (l : List Line). take i lines ++ l) (drop_more lines i line below ∙ ap (λ (x : Line). x ∷ drop (i + 1) lines) (sym is))))
      so_far (inr stops)

  -- memory was wanting for the answer to the last of the first ones
  pub lacks : (lines : List Line) (i : ℕ) (answers : List Answer) (first now : Device) (whole : Bool) → RanTo lines i answers first now whole → RunStops m areas (Mount ∷ lines) (moment first false) now NoMemory
  lacks lines i answers first now whole so_far = by (drop i lines) refl
    where
      parts : (rest : List Line) → drop i lines ≡ rest → Mount ∷ lines ≡ (Mount ∷ take i lines) ++ rest
      parts rest is = ap (λ (l : List Line). Mount ∷ l) (sym (take-append-drop i lines) ∙ ap (λ (l : List Line). take i lines ++ l) is)

      by : (rest : List Line) → drop i lines ≡ rest → RunStops m areas (Mount ∷ lines) (moment first false) now NoMemory
      by [] is = stopped m areas (Mount ∷ lines) (Mount ∷ take i lines) [] answers (moment first false) (moment now whole) now NoMemory (parts [] is) so_far (omega arith, refl, refl)
      by (line ∷ rest) is = stopped m areas (Mount ∷ lines) (Mount ∷ take i lines) (line ∷ rest) answers (moment first false) (moment now whole) now NoMemory (parts (line ∷ rest) is) so_far (inl (omega arith, refl, refl))

-- ---- a session in the loop

-- The mount and so many lines were carried out, and the session is ready for the next one.
pub record IsGoing {S : Type 0} (m : Meanings) (areas : List Area) (serves : Area → Geometry → Type 0) (mounted_on : S → Area) (stands : S → Geometry → List (List ℕ) → Type 0)
    (lines : List Line) (i : ℕ) (answers : List Answer) (first now : Device) (mirror : Option (Mirror S)) : Type 0 where
  pub so_far : RanTo m areas lines i answers first now (is_some mirror)
  pub ready : IsReady mounted_on stands m areas now mirror
  pub map : IsMirrorMap serves areas now
