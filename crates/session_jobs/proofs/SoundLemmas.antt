-- Lines on a mirror that shows no damage leave it so, and none of them stops for damage.
use Rattle.std.proofs.Common.{◌≡◌, ◌∙◌, ℕ, List, [], ◌∷◌, Option, Some, None, inl, inr, ap}
use Rattle.flash_sim.specs.Device.{Device}
use Rattle.flash_map.specs.declared.area.Area.{Area}
use Rattle.flash_map.specs.declared.faults.Damaged.{Damaged}
use Rattle.any_backend.specs.ByRole.{any_damage}
use Rattle.session_table.specs.Follows.{Follows}
use Rattle.mirror.specs.Trusted.{damage_shown}
use Rattle.mirror_session.specs.declared.line.Line.{Line}
use Rattle.mirror_session.specs.declared.answer.Answer.{Answer}
use Rattle.mirror_session.specs.declared.fault.SessionFault.{SessionFault}
use Rattle.mirror_session.specs.declared.fault.SessionFault.TheVariants.{Damaged as IsDamaged, Unfit as IsUnfit, NoMemory as WantsMemory}
use Rattle.mirror_session.specs.Bench.{Moment}
use Rattle.mirror_session.specs.LineDone.{LineDone}
use Rattle.mirror_session.specs.Running.{RunStops, StopsAt}
use Rattle.session_jobs.specs.MirrorJobs.{ReportsDamage, any_meanings}

abbrev shown : List Area → Moment → Option (ℕ × Damaged)
shown areas now = damage_shown any_damage areas now.device

pub stays_sound : (areas : List Area) (lines : List Line) (answers : List Answer) (old new : Moment) → Follows (LineDone any_meanings areas) lines answers old new → shown areas old ≡ None → shown areas new ≡ None
stays_sound areas [] [] old new runs none = ap (shown areas) runs ∙ none
stays_sound areas [] (answer ∷ answers) old new runs none = absurd runs
stays_sound areas (line ∷ lines) [] old new runs none = absurd runs
stays_sound areas (line ∷ lines) (answer ∷ answers) old new (mid, done, rest) none = stays_sound areas lines answers mid new rest (done.sound none)

some_none : {X : Type 0} (o : Option X) (x : X) → o ≡ Some x → o ≡ None → ⊥
some_none o x is isnt = cc

-- no line stops for damage where none is shown
no_damage : (areas : List Area) (prefix rest : List Line) (old : Moment) (new : Device) (fault : SessionFault) → StopsAt any_meanings areas prefix rest old new fault → ReportsDamage fault → shown areas old ≡ None → ⊥
no_damage areas prefix [] old new (IsDamaged place damage) stops reports none = absurd (cc stops.1)
no_damage areas prefix (line ∷ rest) old new (IsDamaged place damage) (inl lacks) reports none = absurd (cc lacks.1)
no_damage areas prefix (line ∷ rest) old new (IsDamaged place damage) (inr stops) reports none = some_none (shown areas old) (place, damage) stops.1 none
no_damage areas prefix rest old new (IsUnfit place) stops reports none = reports
no_damage areas prefix rest old new WantsMemory stops reports none = reports

pub stops_sound : (areas : List Area) (lines : List Line) (old : Moment) (new : Device) (fault : SessionFault) → RunStops any_meanings areas lines old new fault → shown areas old ≡ None → ReportsDamage fault → ⊥
stops_sound areas lines old new fault stops none reports =
    no_damage areas stops.prefix stops.rest stops.mid new fault stops.stops reports (stays_sound areas stops.prefix stops.answers old stops.mid stops.runs.in_turn none)
