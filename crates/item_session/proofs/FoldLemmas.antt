-- Lines one after another, behind the mount that opens a session.
use Rattle.std.proofs.Common.{◌≡◌, ◌⊎◌, inl, inr, ℕ, ◌+◌, ◌<◌, ◌≤◌, List, [], ◌∷◌, ◌++◌, length, take, drop, get_or, None, Err, refl, sym, ap, subst, ◌∙◌}
use Rattle.std.proofs.lemmas.List.{drop_more, take_more, take_all, take-append-drop}
use Rattle.flash_sim.specs.Device.{Device}
use Rattle.flash_map.specs.declared.area.Area.{Area}
use Rattle.flash_map.specs.declared.area.Geometry.{Geometry}
use Rattle.session_table.specs.Follows.{Follows}
use Rattle.session_table.proofs.FollowsLemmas.{last, one}
use Rattle.item_session.specs.declared.line.Line.{Line}
use Rattle.item_session.specs.declared.line.Line.TheVariants.{Set, Get, Delete, Older, Space, Cut, Uncut, Mount}
use Rattle.item_session.specs.declared.answer.Answer.{Answer}
use Rattle.item_store.specs.SectorFormat.{SectorFormat}
use Rattle.flash_map.specs.Area.{value_limit}
use Rattle.item_session.specs.declared.fault.SessionFault.{SessionFault}
use Rattle.item_session.specs.declared.fault.SessionFault.TheVariants.{Damaged as IsDamaged, NoMemory}
use Rattle.item_session.specs.Device.{IsServed, IsServedOn, turned_on}
use Rattle.item_session.specs.Standing.{damage_on}
use Rattle.item_store.proofs.CallFacts.{from_geometry}
use Rattle.item_session.specs.LineDone.{LineDone}
use Rattle.item_session.specs.Running.{MountStops, Ran, RunEnds, RunStops, WantsMemory}
use Rattle.item_session.proofs.RunLemmas.{runs_of}

lines_on : (lines : List Line) (i : ℕ) (line : Line) → i < length lines → line ≡ get_or lines i line → take (i + 1) lines ≡ take i lines ++ line ∷ []
lines_on lines i line below is = take_more lines i line below ∙ ap (λ (x : Line). take i lines ++ x ∷ []) (sym is)

module _ (format_of : Geometry → SectorFormat) (area : Area) where
  -- the mount and so many lines were carried out
  abbrev pub RanTo : List Line → ℕ → List Answer → Device → Device → Type 0
  RanTo lines i answers first now = Follows (LineDone format_of area) (Mount ∷ take i lines) answers first now

  pub opened : (lines : List Line) (answer : Answer) (first now : Device) → LineDone format_of area Mount answer first now → RanTo lines 0 ([] ++ answer ∷ []) first now
  opened lines answer first now is = one (LineDone format_of area) Mount answer first now is

  pub one_more : (lines : List Line) (i : ℕ) (line : Line) (answers : List Answer) (answer : Answer) (first mid new : Device) → i < length lines → line ≡ get_or lines i line → RanTo lines i answers first mid
      → LineDone format_of area line answer mid new → RanTo lines (i + 1) (answers ++ answer ∷ []) first new
  one_more lines i line answers answer first mid new below is so_far done =
      subst (λ (prefix : List Line). Follows (LineDone format_of area) (Mount ∷ prefix) (answers ++ answer ∷ []) first new) (sym (lines_on lines i line below is))
      (last (LineDone format_of area) (Mount ∷ take i lines) line answers answer first mid new so_far done)

  -- what a run is as a whole
  whole : (lines : List Line) (answers : List Answer) (old new : Device) → Follows (LineDone format_of area) lines answers old new → Ran format_of area lines answers old new
  whole lines answers old new turns = record { in_turn = turns; whole = runs_of format_of area lines answers old new turns }

  pub ran : (lines : List Line) (i : ℕ) (answers : List Answer) (first now : Device) → length lines ≤ i → RanTo lines i answers first now → Ran format_of area (Mount ∷ lines) answers first now
  ran lines i answers first now all so_far =
      whole (Mount ∷ lines) answers first now (subst (λ (prefix : List Line). Follows (LineDone format_of area) (Mount ∷ prefix) answers first now) (take_all i lines all) so_far)

  -- what is left behind a stop: the bench as it was, but that power may be on where a mount was next
  abbrev Left : List Line → Device → Device → Type 0
  Left rest mid now = (now ≡ mid) ⊎ ((more : List Line) × (rest ≡ Mount ∷ more) × (now ≡ turned_on mid))

  -- memory was wanting behind the first ones
  pub stops : (lines : List Line) (i : ℕ) (answers : List Answer) (first mid now : Device) → RanTo lines i answers first mid → Left (drop i lines) mid now → RunStops format_of area (Mount ∷ lines) first now
  stops lines i answers first mid now so_far left = record {
    prefix = Mount ∷ take i lines;
    rest = drop i lines;
    are = ap (λ (rest : List Line). Mount ∷ rest) (sym (take-append-drop i lines));
    answers = answers;
    mid = mid;
    ran = whole (Mount ∷ take i lines) answers first mid so_far;
    left = left;
  }

  -- it was wanting for the next line
  pub stops_next : (lines : List Line) (i : ℕ) (line : Line) (answers : List Answer) (first mid now : Device) → i < length lines → line ≡ get_or lines i line → RanTo lines i answers first mid
      → (now ≡ mid) ⊎ ((line ≡ Mount) × (now ≡ turned_on mid)) → RunStops format_of area (Mount ∷ lines) first now
  stops_next lines i line answers first mid now below is so_far left = stops lines i answers first mid now so_far (elim left [
    | inl same ↦ inl same
    | inr on ↦ inr (drop (i + 1) lines, drop_more lines i line below ∙ ap (λ (x : Line). x ∷ drop (i + 1) lines) (sym is ∙ on.0), on.1)
  ])

  -- it was wanting for the opening mount
  pub stops_first : (lines : List Line) (first now : Device) → now ≡ turned_on first → RunStops format_of area (Mount ∷ lines) first now
  stops_first lines first now left = record {
    prefix = [];
    rest = Mount ∷ lines;
    are = refl;
    answers = [];
    mid = first;
    ran = whole [] [] first first refl;
    left = inr (lines, refl, left);
  }

-- a mount alone turns power on
pub left_as : (format_of : Geometry → SectorFormat) (area : Area) (line : Line) (old new : Device) → WantsMemory format_of area line old new → (new ≡ old) ⊎ ((line ≡ Mount) × (new ≡ turned_on old))
left_as format_of area Mount old new wants = inr (refl, wants)
left_as format_of area (Get id) old new wants = inl wants.0
left_as format_of area (Older id n) old new wants = inl wants.0
left_as format_of area (Set id value) old new wants = absurd wants
left_as format_of area (Delete id) old new wants = absurd wants
left_as format_of area Space old new wants = absurd wants
left_as format_of area (Cut units) old new wants = absurd wants
left_as format_of area Uncut old new wants = absurd wants

-- ---- the session between lines, and how the opening mount stops

pub served_there : (format_of : Geometry → SectorFormat) (area own : Area) (first d : Device) (line : Line) → d.banks ≡ first.banks → own ≡ area → IsServedOn format_of first area line → IsServedOn format_of d own line
served_there format_of area own first d line banks same served =
    subst (λ (a : Area). IsServedOn format_of d a line) (sym same) (from_geometry (λ (u : Geometry). IsServed (format_of u).ids (value_limit area) line) first d area banks served)

pub sound_at : (format_of : Geometry → SectorFormat) (area own : Area) (d : Device) → own ≡ area → damage_on format_of d own ≡ None → damage_on format_of d area ≡ None
sound_at format_of area own d same none = subst (λ (a : Area). damage_on format_of d a ≡ None) same none

pub stops_open : (format_of : Geometry → SectorFormat) (area : Area) (lines : List Line) (old new : Device) (fault : SessionFault) → MountStops format_of area old new fault → RunEnds format_of area (Mount ∷ lines) old new (Err fault)
stops_open format_of area lines old new (IsDamaged damaged) stops = stops
stops_open format_of area lines old new NoMemory stops = stops_first format_of area lines old new stops

pub stops_sound : (format_of : Geometry → SectorFormat) (area : Area) (old new : Device) (fault : SessionFault) → MountStops format_of area old new fault → damage_on format_of old area ≡ None → damage_on format_of new area ≡ None
stops_sound format_of area old new (IsDamaged damaged) stops was = ap (λ (d : Device). damage_on format_of d area) stops.1 ∙ was
stops_sound format_of area old new NoMemory stops was = ap (λ (d : Device). damage_on format_of d area) stops ∙ was
