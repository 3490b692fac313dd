-- Lines one after another, behind the mount that opens a map.
use Rattle.std.proofs.Common.{◌≡◌, ℕ, suc, ◌+◌, ◌<◌, ◌≤◌, List, [], ◌∷◌, ◌++◌, length, take, drop, get_or, Option, None, Err, Ok, refl, sym, ap, subst, ◌∙◌, inl, inr, arith}
use Rattle.std.proofs.Math.Seq.{drop-cons}
use Rattle.std.proofs.lemmas.Option.{none-some}
use Rattle.std.proofs.lemmas.List.{take_more, take_all, take-append-drop}
use Rattle.flash_sim.specs.Device.{Device}
use Rattle.flash_map.specs.declared.area.Area.{Area}
use Rattle.flash_map.specs.declared.area.Geometry.{Geometry}
use Rattle.flash_map.specs.declared.faults.Damaged.{Damaged}
use Rattle.handlers.specs.declared.handler.HandlerKind.{HandlerKind}
use Rattle.handlers.specs.declared.registry.RegistryOf.{RegistryOf}
use Rattle.handlers.specs.Held.{HandlerState}
use Rattle.handlers.specs.Registry.{Registered}
use Rattle.script_lines.specs.declared.line.Line.{Line}
use Rattle.script_lines.specs.declared.line.Line.TheVariants.{Mount}
use Rattle.script_lines.specs.declared.answer.Answer.{Answer}
use Rattle.session_table.specs.Bench.{LineDone, Meanings, Moment}
use Rattle.session_table.specs.Follows.{Follows}
use Rattle.session_table.proofs.FollowsLemmas.{kept, last, one, seen}
use Rattle.session_table.proofs.RunLemmas.{runs_of}
use Rattle.session.specs.declared.fault.SessionFault.{SessionFault}
use Rattle.session.specs.declared.fault.SessionFault.TheVariants.{Damaged as IsDamaged, NoMemory}
use Rattle.session.specs.Handling.{Boxes, LineMoves, RunLeaves, RunMoves, StaysAtDamage, boxes}
use Rattle.session.specs.OnMap.{LacksAnswer, LineRan, LineStops, Ran, RunEnds, StopsAt, damage_in, moment}

suc_is : (i : ℕ) → suc i ≡ i + 1
suc_is i = omega arith

pub lines_on : (lines : List Line) (i : ℕ) (line : Line) → i < length lines → line ≡ get_or lines i line → take (i + 1) lines ≡ take i lines ++ line ∷ []
lines_on lines i line below is = take_more lines i line below ∙ ap (λ (x : Line). take i lines ++ x ∷ []) (sym is)

lines_at : (lines : List Line) (i : ℕ) (line : Line) → i < length lines → line ≡ get_or lines i line → lines ≡ take i lines ++ line ∷ drop (i + 1) lines
lines_at lines i line below is =
    let next : drop i lines ≡ get_or lines i line ∷ drop (i + 1) lines = drop-cons lines i line below ∙ ap (λ (n : ℕ). get_or lines i line ∷ drop n lines) (suc_is i) in
    sym (take-append-drop i lines) ∙ ap (λ (rest : List Line). take i lines ++ rest) next ∙ ap (λ (x : Line). take i lines ++ x ∷ drop (i + 1) lines) (sym is)

module _ (m : Meanings) (damage : Area → Geometry → List (List ℕ) → Option Damaged) (rests : Area → Geometry → List (List ℕ) → Type 0) (areas : List Area) where
  -- the mount and so many lines were carried out
  abbrev pub RanTo : List Line → ℕ → List Answer → Moment → Moment → Type 0
  RanTo lines i answers first now = Follows (LineRan m damage rests areas) (Mount ∷ take i lines) answers first now

  pub opened : (lines : List Line) (answer : Answer) (first now : Moment) → LineRan m damage rests areas Mount answer first now → RanTo lines 0 ([] ++ answer ∷ []) first now
  opened lines answer first now is = one (LineRan m damage rests areas) Mount answer first now is

  pub one_more : (lines : List Line) (i : ℕ) (line : Line) (answers : List Answer) (answer : Answer) (first mid new : Moment) → i < length lines → line ≡ get_or lines i line → RanTo lines i answers first mid
      → LineRan m damage rests areas line answer mid new → RanTo lines (i + 1) (answers ++ answer ∷ []) first new
  one_more lines i line answers answer first mid new below is so_far done =
      subst (λ (prefix : List Line). Follows (LineRan m damage rests areas) (Mount ∷ prefix) (answers ++ answer ∷ []) first new) (sym (lines_on lines i line below is))
      (last (LineRan m damage rests areas) (Mount ∷ take i lines) line answers answer first mid new so_far done)

  -- what a run is as a whole
  whole : (lines : List Line) (answers : List Answer) (old new : Moment) → Follows (LineRan m damage rests areas) lines answers old new → Ran m damage rests areas lines answers old new
  whole lines answers old new turns = record {
    in_turn = turns;
    whole = runs_of m areas lines answers old new (seen (LineRan m damage rests areas) (LineDone m areas) (λ s. s) (λ line answer a b is. is.carried.done) lines answers old new turns);
  }

  pub ran : (lines : List Line) (i : ℕ) (answers : List Answer) (first : Moment) (now : Device) (registry : List Registered) (left : List HandlerKind) → length lines ≤ i → RanTo lines i answers first (moment now registry left)
      → RunEnds m damage rests areas (Mount ∷ lines) first now registry (Ok answers)
  ran lines i answers first now registry left all so_far =
      (left, whole (Mount ∷ lines) answers first (moment now registry left) (subst (λ (prefix : List Line). Follows (LineRan m damage rests areas) (Mount ∷ prefix) answers first (moment now registry left)) (take_all i lines all) so_far))

  -- where nothing showed damage at first nothing does
  pub undamaged : (lines : List Line) (i : ℕ) (answers : List Answer) (first now : Moment) → RanTo lines i answers first now → damage_in damage areas first.device ≡ None → damage_in damage areas now.device ≡ None
  undamaged lines i answers first now so_far =
      kept (LineRan m damage rests areas) (λ a b. damage_in damage areas a.device ≡ None → damage_in damage areas b.device ≡ None) (λ s was. was) (λ a b c one two was. two (one was)) (λ line answer a b is. is.carried.undamaged)
      (Mount ∷ take i lines) answers first now so_far

  -- the mount that opens the map was not carried out
  pub stops_first : (lines : List Line) (first : Moment) (new : Device) (registry : List Registered) (fault : SessionFault) → LineStops m damage areas Mount first.device new fault → RunEnds m damage rests areas (Mount ∷ lines) first new registry (Err fault)
  stops_first lines first new registry fault stops = record {
    prefix = [];
    rest = Mount ∷ lines;
    are = refl;
    answers = [];
    mid = first;
    runs = whole [] [] first first refl;
    stops = inr stops;
  }

  -- this line was not
  pub stops_at : (lines : List Line) (i : ℕ) (line : Line) (answers : List Answer) (first mid : Moment) (new : Device) (registry : List Registered) (fault : SessionFault) → i < length lines → line ≡ get_or lines i line → RanTo lines i answers first mid
      → LineStops m damage areas line mid.device new fault → RunEnds m damage rests areas (Mount ∷ lines) first new registry (Err fault)
  stops_at lines i line answers first mid new registry fault below is so_far stops = record {
    prefix = Mount ∷ take i lines;
    rest = line ∷ drop (i + 1) lines;
    are = ap (λ (rest : List Line). Mount ∷ rest) (lines_at lines i line below is);
    answers = answers;
    mid = mid;
    runs = whole (Mount ∷ take i lines) answers first mid so_far;
    stops = inr stops;
  }

  lacks : (prefix : List Line) (now : Device) → LacksAnswer (Mount ∷ prefix) now now NoMemory
  lacks prefix now = (omega arith, refl, refl)

  unchanged : (prefix rest : List Line) (now : Device) → StopsAt m damage areas (Mount ∷ prefix) rest now now NoMemory
  unchanged prefix [] now = lacks prefix now
  unchanged prefix (line ∷ lines) now = inl (lacks prefix now)

  -- there was no memory for the last answer
  pub stops_behind : (lines : List Line) (i : ℕ) (answers : List Answer) (first now : Moment) (registry : List Registered) → RanTo lines i answers first now → RunEnds m damage rests areas (Mount ∷ lines) first now.device registry (Err NoMemory)
  stops_behind lines i answers first now registry so_far = record {
    prefix = Mount ∷ take i lines;
    rest = drop i lines;
    are = ap (λ (rest : List Line). Mount ∷ rest) (sym (take-append-drop i lines));
    answers = answers;
    mid = now;
    runs = whole (Mount ∷ take i lines) answers first now so_far;
    stops = unchanged (take i lines) (drop i lines) now.device;
  }

-- the same with the handlers that lines move
module _ {B : Type 0} (state : B → HandlerState) (m : Meanings) (damage : Area → Geometry → List (List ℕ) → Option Damaged) (rests : Area → Geometry → List (List ℕ) → Type 0) (areas : List Area) where
  abbrev pub MovedTo : List Line → ℕ → List Answer → Boxes B → Boxes B → Type 0
  MovedTo lines i answers first now = Follows (LineMoves state m damage rests areas) (Mount ∷ take i lines) answers first now

  pub opened_moves : (lines : List Line) (answer : Answer) (first now : Boxes B) → LineMoves state m damage rests areas Mount answer first now → MovedTo lines 0 ([] ++ answer ∷ []) first now
  opened_moves lines answer first now is = one (LineMoves state m damage rests areas) Mount answer first now is

  pub moves_more : (lines : List Line) (i : ℕ) (line : Line) (answers : List Answer) (answer : Answer) (first mid new : Boxes B) → i < length lines → line ≡ get_or lines i line → MovedTo lines i answers first mid
      → LineMoves state m damage rests areas line answer mid new → MovedTo lines (i + 1) (answers ++ answer ∷ []) first new
  moves_more lines i line answers answer first mid new below is so_far done =
      subst (λ (prefix : List Line). Follows (LineMoves state m damage rests areas) (Mount ∷ prefix) (answers ++ answer ∷ []) first new) (sym (lines_on lines i line below is))
      (last (LineMoves state m damage rests areas) (Mount ∷ take i lines) line answers answer first mid new so_far done)

  pub moved : (lines : List Line) (i : ℕ) (answers : List Answer) (first : Boxes B) (now : Device) (registry : RegistryOf B) (left : List B) → length lines ≤ i → MovedTo lines i answers first (boxes now registry left)
      → RunMoves state m damage rests areas (Mount ∷ lines) answers first now registry
  moved lines i answers first now registry left all so_far =
      (left, subst (λ (prefix : List Line). Follows (LineMoves state m damage rests areas) (Mount ∷ prefix) answers first (boxes now registry left)) (take_all i lines all) so_far)

  -- a mount found damage: that which opens the map, or this line
  pub left_first : (lines : List Line) (first : Boxes B) (new : Device) (fault : SessionFault) → LineStops m damage areas Mount first.device new fault → RunLeaves state m damage rests areas (Mount ∷ lines) (Err fault) first new first.registry
  left_first lines first new (IsDamaged place damaged) stops = record {
    prefix = [];
    rest = lines;
    are = refl;
    answers = [];
    mid = first;
    moves = refl;
    stops = stops;
    stays = refl;
  }
  left_first lines first new NoMemory stops = tt

  pub left_at : (lines : List Line) (i : ℕ) (line : Line) (answers : List Answer) (first mid : Boxes B) (new : Device) (registry : RegistryOf B) (left : List B) (fault : SessionFault) → i < length lines → line ≡ get_or lines i line → MovedTo lines i answers first mid
      → LineStops m damage areas line mid.device new fault → StaysAtDamage fault mid.left left mid.registry registry → RunLeaves state m damage rests areas (Mount ∷ lines) (Err fault) first new registry
  left_at lines i line answers first mid new registry left (IsDamaged place damaged) below is so_far stops same = record {
    prefix = Mount ∷ take i lines;
    rest = drop (i + 1) lines;
    are = ap (λ (rest : List Line). Mount ∷ rest) (lines_at lines i line below is ∙ ap (λ (l : Line). take i lines ++ l ∷ drop (i + 1) lines) stops.0);
    answers = answers;
    mid = mid;
    moves = so_far;
    stops = (refl, stops.1, stops.2);
    stays = same.1;
  }
  left_at lines i line answers first mid new registry left NoMemory below is so_far stops same = tt

-- a map without damage stops no line but for memory
pub no_damage : (m : Meanings) (damage : Area → Geometry → List (List ℕ) → Option Damaged) (areas : List Area) (line : Line) (old new : Device) (fault : SessionFault) → damage_in damage areas old ≡ None → LineStops m damage areas line old new fault → fault ≡ NoMemory
no_damage m damage areas line old new (IsDamaged place damaged) none stops = absurd (none-some (place, damaged) (sym none ∙ stops.1))
no_damage m damage areas line old new NoMemory none stops = refl
