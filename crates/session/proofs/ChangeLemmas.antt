-- One command or none, carried out on the active area.
use Rattle.std.proofs.Common.{◌≡◌, ◌⊎◌, ℕ, ◌+◌, ◌-◌, ◌^◌, ◌<◌, ◌≤◌, Bool, true, false, Some, List, [], ◌∷◌, ◌++◌, length, refl, sym, ap, subst, ◌∙◌, inl, inr, arith}
use Rattle.std.proofs.lemmas.List.{length-append}
use Rattle.std.proofs.lemmas.List.Sums.{fold-append}
use Rattle.std.proofs.lemmas.Bool.{cases_Bool, cond-true, cond-false}
use Rattle.flash_sim.specs.Device.{Device}
use Rattle.flash_sim.specs.declared.flash.Loss.{Loss}
use Rattle.flash_map.specs.declared.area.Area.{Area}
use Rattle.flash_map.specs.declared.area.Geometry.{Geometry}
use Rattle.flash_map.specs.Area.{geometry_of}
use Rattle.flash_map.specs.Spending.{SpendsAtMost}
use Rattle.backend_api.specs.Commands.{Command, applied, all_applied, CutMap}
use Rattle.backend_api.specs.Ends.{SpendsSome}
use Rattle.backend_api.specs.Map.{Map}
use Rattle.flash_map.specs.On.{on}
use Rattle.backend_api.specs.Room.{Room, command_units}
use Rattle.settings_core.specs.Carrying.{is_idle, due, AreFree, SplitsAt, Carries, MeetsTooMany, MeetsNoRoom, MeetsLoss}
use Rattle.script_lines.specs.declared.answer.Answer.TheVariants.{Done, Lost, NoSpace, TooMany}
use Rattle.session_table.specs.Commands.{StartsFree, StopsForPower}
use Rattle.session_table.specs.Bench.{area_at, rules_of, state_of}
use Rattle.session_table.specs.State.{State}
use Rattle.handlers.specs.declared.handler.HandlerKind.{HandlerKind}
use Rattle.handlers.specs.Registry.{Registered}
use Rattle.script_lines.specs.declared.line.Line.{Line}
use Rattle.script_lines.specs.declared.answer.Answer.{Answer}
use Rattle.session_table.specs.Step.{Step, Changes, CommandsDone, CommandsLost}
use Rattle.session_table.proofs.CommandLemmas.{none_applied, first_free}
use Rattle.migrator.specs.Active.{active_on}
use Rattle.session.specs.OnMap.{active_area, meanings, moment}

-- ---- lists of commands

starts_free : (room : Room) (before : Map) (done : List Command) (at : Command) (left : List Command) → AreFree room before (done ++ at ∷ []) → StartsFree room before (done ++ at ∷ left)
starts_free room before [] at left free = (first_free room before at [] free).0
starts_free room before (command ∷ done) at left free = (first_free room before command (done ++ at ∷ []) free).0

prefix_free : (room : Room) (before : Map) (done : List Command) (at : Command) → AreFree room before (done ++ at ∷ []) → AreFree room before done
unfolding AreFree
prefix_free room before [] at free = tt
prefix_free room before (command ∷ done) at free = (free.0, prefix_free room (applied before command) done at free.1)

pub one_more : (settings : Map) (done : List Command) (at : Command) → all_applied settings (done ++ at ∷ []) ≡ applied (all_applied settings done) at
unfolding all_applied
one_more settings done at = fold-append applied settings done (at ∷ [])

regroup : (done : List Command) (at : Command) (left : List Command) → done ++ at ∷ left ≡ (done ++ at ∷ []) ++ left
regroup [] at left = refl
regroup (command ∷ done) at left = ap (λ (cs : List Command). command ∷ cs) (regroup done at left)

due_at_most : (settings : Map) (command : Command) → length (due settings (command ∷ [])) ≤ 1
unfolding due
due_at_most settings command = elim (cases_Bool (is_idle settings command)) [
  | inl idle ↦ let e = ap length (cond-true (is_idle settings command) [] (command ∷ []) idle) in omega (arith, e)
  | inr not ↦ let e = ap length (cond-false (is_idle settings command) [] (command ∷ []) not) in omega (arith, e)
]

none_done : (done : List Command) → length done ≡ 0 → done ≡ []
none_done [] is = refl
none_done (command ∷ done) is = absurd (omega (arith, is))

-- of one command none is done before it
first : (settings : Map) (command : Command) (count : ℕ) → (split : SplitsAt (due settings (command ∷ [])) count) → (count ≡ 0) × (split.done ≡ [])
first settings command count split =
    let few = due_at_most settings command in
    let len : length (due settings (command ∷ [])) ≡ length split.done + length (split.at ∷ split.left) = ap length split.is ∙ length-append split.done (split.at ∷ split.left) in
    let is = split.count_is in
    let none : length split.done ≡ 0 = omega (arith, few, len) in
    (omega (arith, is, none), none_done split.done none)

-- ---- a change on the active area

module _ (contents : Area → Geometry → List (List ℕ) → Map) (room : Area → Geometry → Room) (chance : Area → Geometry → List (List ℕ) → Loss → Bool) (tears : Area → Geometry → Command → ℕ → Map → Map → Type 0)
    (registry : List Registered) (pool : List HandlerKind) (areas : List Area) (old new : Device) where
  -- by the area that is active at first
  abbrev pub state : Device → State
  state d = record { settings = on contents d (area_at areas (active_on areas old)); is_on = d.is_on; registry = registry; pool = pool; active = active_on areas old }

  pub seen : active_on areas new ≡ active_on areas old → state new ≡ state_of (meanings contents room chance tears) areas (moment new registry pool)
  seen stays = ap at_place (sym stays)
    where
      at_place : ℕ → State
      at_place place = record { settings = on contents new (area_at areas place); is_on = new.is_on; registry = registry; pool = pool; active = place }

  -- a step of the table, with the area that is active afterwards
  pub step_seen : active_on areas new ≡ active_on areas old → (line : Line) (answer : Answer) (last : ℕ) → Step (rules_of (meanings contents room chance tears) areas old.banks last) line answer (state old) (state new)
      → Step (rules_of (meanings contents room chance tears) areas old.banks last) line answer (state_of (meanings contents room chance tears) areas (moment old registry pool)) (state_of (meanings contents room chance tears) areas (moment new registry pool))
  step_seen stays line answer last step = subst (λ (s : State). Step (rules_of (meanings contents room chance tears) areas old.banks last) line answer (state old) s) (seen stays) step

  pub state_is : (settings : Map) (power : Bool) → new.is_on ≡ power → on contents new (active_area areas old) ≡ settings → state new ≡ record (state old) { settings = settings; is_on = power }
  state_is settings power is_on is = ap (λ (b : Bool). record (state new) { is_on = b }) is_on ∙ ap (λ (m : Map). record (state old) { settings = m; is_on = power }) is

  most : SpendsAtMost old new (command_units (geometry_of old (active_area areas old))) → new.spent - old.spent ≤ command_units (geometry_of old (active_area areas old))
  most spends = let few = spends.1 in let spent = spends.2 in omega arith

  none_spent : new ≡ old → new.spent - old.spent ≡ 0
  none_spent same = let e : new.spent ≡ old.spent = ap (λ (d : Device). d.spent) same in omega arith

  some_spent : (last : ℕ) → new.spent ≤ last → SpendsSome old new → last < 2 ^ 64 - 1 → 0 < new.spent - old.spent
  some_spent last within spends below = let some = spends.1 in let spent = spends.2 in omega (arith, within, below)

  pub commands_done : (commands : List Command) (last : ℕ) → new.spent ≤ last → new.is_on ≡ old.is_on
      → Carries (room (active_area areas old) (geometry_of old (active_area areas old))) old new (on contents old (active_area areas old)) (on contents new (active_area areas old)) commands
      → CommandsDone (rules_of (meanings contents room chance tears) areas old.banks last) commands (new.spent - old.spent) (state old) (state new)
  commands_done commands last within power carries = record {
    free = carries.free;
    none = λ e. none_spent (carries.none e);
    some = λ not counts. some_spent last within (carries.some not) counts;
    state = state_is (all_applied (on contents old (active_area areas old)) commands) old.is_on power carries.settings;
  }

  pub change_done : (command : Command) (last : ℕ) → new.spent ≤ last → new.is_on ≡ old.is_on → SpendsAtMost old new (command_units (geometry_of old (active_area areas old)))
      → Carries (room (active_area areas old) (geometry_of old (active_area areas old))) old new (on contents old (active_area areas old)) (on contents new (active_area areas old)) (due (on contents old (active_area areas old)) (command ∷ []))
      → Changes (rules_of (meanings contents room chance tears) areas old.banks last) (due (on contents old (active_area areas old)) (command ∷ [])) (Done (new.spent - old.spent)) (state old) (state new)
  change_done command last within power at_most carries = (most at_most, commands_done (due (on contents old (active_area areas old)) (command ∷ [])) last within power carries)

  pub change_many : (command : Command) (count last : ℕ) → new.spent ≤ last
      → MeetsTooMany (room (active_area areas old) (geometry_of old (active_area areas old))) old new (on contents old (active_area areas old)) (on contents new (active_area areas old)) (due (on contents old (active_area areas old)) (command ∷ [])) count
      → Changes (rules_of (meanings contents room chance tears) areas old.banks last) (due (on contents old (active_area areas old)) (command ∷ [])) (TooMany (new.spent - old.spent)) (state old) (state new)
  change_many command count last within meets =
      let none = first (on contents old (active_area areas old)) command count meets.split in
      let same : new ≡ old = meets.carried.none none.1 in (
        none_spent same,
        record {
          split = record { done = meets.split.done; at = meets.split.at; left = meets.split.left; is = meets.split.is; count_is = sym none.0 ∙ meets.split.count_is };
          settings = meets.carried.settings;
          free = meets.carried.free;
          many = meets.too_many;
        },
        ap state same,
      )

  pub change_full : (command : Command) (count need live last : ℕ) → new.spent ≤ last → new.is_on ≡ old.is_on → SpendsAtMost old new (command_units (geometry_of old (active_area areas old)))
      → MeetsNoRoom (room (active_area areas old) (geometry_of old (active_area areas old))) (active_area areas old).sectors (on contents old (active_area areas old)) (on contents new (active_area areas old)) (due (on contents old (active_area areas old)) (command ∷ [])) count need live
      → Changes (rules_of (meanings contents room chance tears) areas old.banks last) (due (on contents old (active_area areas old)) (command ∷ [])) (NoSpace (new.spent - old.spent) need live) (state old) (state new)
  change_full command count need live last within power at_most meets =
      let none = first (on contents old (active_area areas old)) command count meets.split in
      let same : on contents new (active_area areas old) ≡ on contents old (active_area areas old) = meets.settings ∙ ap (all_applied (on contents old (active_area areas old))) none.1 ∙ none_applied (on contents old (active_area areas old)) in (
        most at_most,
        subst (λ (n : ℕ). MeetsNoRoom (room (active_area areas old) (geometry_of old (active_area areas old))) (active_area areas old).sectors (on contents old (active_area areas old)) (on contents new (active_area areas old)) (due (on contents old (active_area areas old)) (command ∷ [])) n need live) none.0 meets,
        state_is (on contents old (active_area areas old)) old.is_on power same,
      )

  -- any commands
  lost_whole : (commands : List Command) (count : ℕ) → (split : SplitsAt commands count) → AreFree (room (active_area areas old) (geometry_of old (active_area areas old))) (on contents old (active_area areas old)) (split.done ++ split.at ∷ [])
      → (on contents new (active_area areas old) ≡ all_applied (on contents old (active_area areas old)) split.done) ⊎ (on contents new (active_area areas old) ≡ applied (all_applied (on contents old (active_area areas old)) split.done) split.at)
      → StopsForPower (room (active_area areas old) (geometry_of old (active_area areas old))) commands (on contents old (active_area areas old)) (on contents new (active_area areas old))
  lost_whole commands count split free (inl before) = record {
    starts = subst (λ (cs : List Command). StartsFree (room (active_area areas old) (geometry_of old (active_area areas old))) (on contents old (active_area areas old)) cs) (sym split.is) (starts_free (room (active_area areas old) (geometry_of old (active_area areas old))) (on contents old (active_area areas old)) split.done split.at split.left free);
    prefix = split.done;
    rest = split.at ∷ split.left;
    are = split.is;
    free = prefix_free (room (active_area areas old) (geometry_of old (active_area areas old))) (on contents old (active_area areas old)) split.done split.at free;
    settings = before;
  }
  lost_whole commands count split free (inr after) = record {
    starts = subst (λ (cs : List Command). StartsFree (room (active_area areas old) (geometry_of old (active_area areas old))) (on contents old (active_area areas old)) cs) (sym split.is) (starts_free (room (active_area areas old) (geometry_of old (active_area areas old))) (on contents old (active_area areas old)) split.done split.at split.left free);
    prefix = split.done ++ split.at ∷ [];
    rest = split.left;
    are = split.is ∙ regroup split.done split.at split.left;
    free = free;
    settings = after ∙ sym (one_more (on contents old (active_area areas old)) split.done split.at);
  }

  pub commands_lost : (commands : List Command) (count last : ℕ) (reported : Bool) (loss : Loss) → new.is_on ≡ false → (split : SplitsAt commands count)
      → AreFree (room (active_area areas old) (geometry_of old (active_area areas old))) (on contents old (active_area areas old)) (split.done ++ split.at ∷ [])
      → CutMap reported (tears (active_area areas old) (geometry_of old (active_area areas old)) split.at loss.done) split.at (all_applied (on contents old (active_area areas old)) split.done) (on contents new (active_area areas old))
      → CommandsLost (rules_of (meanings contents room chance tears) areas old.banks last) commands reported (state old) (state new)
  commands_lost commands count last true loss off split free torn =
      (record { count = count; split = split; free = free; units = loss.done; torn = torn }, state_is (on contents new (active_area areas old)) false off refl)
  commands_lost commands count last false loss off split free whole = (lost_whole commands count split free whole, state_is (on contents new (active_area areas old)) false off refl)

  pub change_lost : (command : Command) (count last : ℕ) (reported : Bool) → old.is_on ≡ true → new.is_on ≡ false → ((loss : Loss) → new.last_loss ≡ Some loss → reported ≡ on chance new (active_area areas old) loss)
      → SpendsAtMost old new (command_units (geometry_of old (active_area areas old)))
      → MeetsLoss (room (active_area areas old) (geometry_of old (active_area areas old))) (on chance new (active_area areas old)) (tears (active_area areas old) (geometry_of old (active_area areas old))) old new (on contents old (active_area areas old)) (on contents new (active_area areas old)) (due (on contents old (active_area areas old)) (command ∷ [])) count
      → Changes (rules_of (meanings contents room chance tears) areas old.banks last) (due (on contents old (active_area areas old)) (command ∷ [])) (Lost (new.spent - old.spent) reported) (state old) (state new)
  change_lost command count last reported was off reports at_most meets =
      let stops = meets.stops was in (
        most at_most,
        commands_lost (due (on contents old (active_area areas old)) (command ∷ [])) count last reported stops.loss off meets.split meets.free
            (subst (λ (b : Bool). CutMap b (tears (active_area areas old) (geometry_of old (active_area areas old)) meets.split.at stops.loss.done) meets.split.at (all_applied (on contents old (active_area areas old)) meets.split.done) (on contents new (active_area areas old)))
            (sym (reports stops.loss stops.last)) stops.settings),
      )
