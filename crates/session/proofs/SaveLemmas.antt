-- A save, as a line on a map of areas.
use Rattle.std.proofs.Common.{◌≡◌, ◌⊎◌, ℕ, ◌-◌, ◌^◌, ◌<◌, ◌≤◌, Bool, true, false, Option, Some, List, [], ◌∷◌, ◌++◌, refl, sym, ap, subst, ◌∙◌, inl, inr, arith}
use Rattle.std.specs.Prelude.{Result, Ok, Err}
use Rattle.std.proofs.lemmas.List.{nil_from_length}
use Rattle.std.proofs.lemmas.List.Sums.{fold-append}
use Rattle.flash_sim.specs.Device.{Device}
use Rattle.flash_sim.specs.declared.flash.Loss.{Loss}
use Rattle.flash_map.specs.declared.area.Area.{Area}
use Rattle.flash_map.specs.declared.area.Geometry.{Geometry}
use Rattle.flash_map.specs.Area.{geometry_of}
use Rattle.flash_map.specs.On.{on}
use Rattle.flash_map.specs.Spending.{SpendsAtMost}
use Rattle.flash_map.specs.Touches.{Touches}
use Rattle.backend_api.specs.Commands.{Command, applied, all_applied, puts_of, CutMap}
use Rattle.backend_api.specs.Ends.{SpendsSome}
use Rattle.backend_api.specs.Map.{Map}
use Rattle.backend_api.specs.Room.{Room}
use Rattle.handlers.specs.declared.handler.HandlerKind.{HandlerKind}
use Rattle.handlers.specs.Registry.{Registered}
use Rattle.settings_core.specs.Carrying.{due, due_units, is_too_many, AreFree, SplitsAt, Carries, MeetsNoRoom, CarryEndsOn, save_lost}
use Rattle.settings_core.specs.Saving.{exported, more_pairs}
use Rattle.settings_core.specs.declared.writing.SaveFault.{SaveFault}
use Rattle.settings_core.specs.declared.writing.SaveFault.TheVariants.{NoSpace, TooManyNames, PowerLost}
use Rattle.script_lines.specs.declared.line.Line.TheVariants.{Save}
use Rattle.script_lines.specs.declared.answer.Answer.{Answer}
use Rattle.script_lines.specs.declared.answer.Answer.TheVariants.{Lost, Saved}
use Rattle.script_lines.specs.declared.answer.SaveEnd.TheVariants.{Whole, NoSpace as NoRoom, TooMany}
use Rattle.session_table.specs.Bench.{Keeps, rules_of, state_of, area_at}
use Rattle.session_table.specs.Commands.{StartsFree, StopsForPower}
use Rattle.session_table.specs.State.{State}
use Rattle.session_table.specs.Step.{CommandsDone, CommandsLost}
use Rattle.session_table.proofs.CommandLemmas.{first_free}
use Rattle.migrator.specs.Active.{active_on}
use Rattle.session.specs.OnMap.{DoneWithin, meanings, moment, active_area, save_bound}
use Rattle.session.proofs.AccountLemmas.{kept, lost}
use Rattle.session.proofs.BoundLemmas.{spent_most}

-- ---- lists of commands

starts-free : (room : Room) (before : Map) (done : List Command) (at : Command) (left : List Command) → AreFree room before (done ++ at ∷ []) → StartsFree room before (done ++ at ∷ left)
starts-free room before [] at left free = (first_free room before at [] free).0
starts-free room before (command ∷ done) at left free = (first_free room before command (done ++ at ∷ []) free).0

prefix-free : (room : Room) (before : Map) (done : List Command) (at : Command) → AreFree room before (done ++ at ∷ []) → AreFree room before done
unfolding AreFree
prefix-free room before [] at free = tt
prefix-free room before (command ∷ done) at free = (free.0, prefix-free room (applied before command) done at free.1)

one-more : (settings : Map) (done : List Command) (at : Command) → all_applied settings (done ++ at ∷ []) ≡ applied (all_applied settings done) at
unfolding all_applied
one-more settings done at = fold-append applied settings done (at ∷ [])

regroup : (done : List Command) (at : Command) (left : List Command) → done ++ at ∷ left ≡ (done ++ at ∷ []) ++ left
regroup [] at left = refl
regroup (command ∷ done) at left = ap (λ (cs : List Command). command ∷ cs) (regroup done at left)

-- where the command at which power was lost was carried out or not
pub stops-whole : (room : Room) (before now : Map) (commands : List Command) (count : ℕ) (split : SplitsAt commands count) → AreFree room before (split.done ++ split.at ∷ [])
    → (now ≡ all_applied before split.done) ⊎ (now ≡ applied (all_applied before split.done) split.at) → StopsForPower room commands before now
stops-whole room before now commands count split free (inl whole) = record {
  starts = subst (λ (cs : List Command). StartsFree room before cs) (sym split.is) (starts-free room before split.done split.at split.left free);
  prefix = split.done;
  rest = split.at ∷ split.left;
  are = split.is;
  free = prefix-free room before split.done split.at free;
  settings = whole;
}
stops-whole room before now commands count split free (inr one) = record {
  starts = subst (λ (cs : List Command). StartsFree room before cs) (sym split.is) (starts-free room before split.done split.at split.left free);
  prefix = split.done ++ split.at ∷ [];
  rest = split.left;
  are = split.is ∙ regroup split.done split.at split.left;
  free = free;
  settings = one ∙ sym (one-more before split.done split.at);
}

-- ---- how the call ended

module _ (contents : Area → Geometry → List (List ℕ) → Map) (room : Area → Geometry → Room) (chance : Area → Geometry → List (List ℕ) → Loss → Bool) (tears : Area → Geometry → Command → ℕ → Map → Map → Type 0)
    (old new : Device) (commands : List Command) (pairs : ℕ) where
  pub record Ended (up : Bool) (area : Area) (result : Result (Unit {0}) SaveFault) : Type 0 where
    pub touches : Touches (area ∷ []) old new (save_lost result)
    pub at_most : SpendsAtMost old new (due_units (geometry_of old area) (on contents old area) commands)
    pub count : ℕ
    pub ends : CarryEndsOn room contents chance tears up area old new commands count result
    pub pairs_are : pairs ≡ more_pairs 0 count

  -- on this area, in this way
  pub ended : (up : Bool) (m area : Area) (result x : Result (Unit {0}) SaveFault) → m ≡ area → result ≡ x → Ended up m result → Ended up area x
  ended up m area result x at is e = subst (λ (r : Result (Unit {0}) SaveFault). Ended up area r) is (subst (λ (a : Area). Ended up a result) at e)

-- the units of the call
pub units-are : (before after old new : ℕ) → before ≡ old → after ≡ new → after - before ≡ new - old
units-are before after old new from to = omega (arith, from, to)

-- ---- the line

module _ (contents : Area → Geometry → List (List ℕ) → Map) (room : Area → Geometry → Room) (chance : Area → Geometry → List (List ℕ) → Loss → Bool) (tears : Area → Geometry → Command → ℕ → Map → Map → Type 0)
    (areas : List Area) (registry : List Registered) (pool : List HandlerKind) (subtree : Option (List ℕ)) (old new : Device) (powered : old.is_on ≡ true) (stays : active_on areas new ≡ active_on areas old)
    (up : Bool) (pairs units : ℕ) (spent : units ≡ new.spent - old.spent) where
  abbrev state : Device → State
  state d = state_of (meanings contents room chance tears) areas (moment d registry pool)

  abbrev commands : List Command
  commands = due (on contents old (active_area areas old)) (puts_of (exported subtree registry))

  abbrev Ends : Result (Unit {0}) SaveFault → Type 0
  Ends result = Ended contents room chance tears old new (puts_of (exported subtree registry)) pairs up (active_area areas old) result

  abbrev IsDone : Answer → Type 0
  IsDone answer = DoneWithin (meanings contents room chance tears) areas (Save subtree) answer (moment old registry pool) (moment new registry pool)

  -- the settings of the area that is active before and after
  same : on contents new (active_area areas old) ≡ on contents new (active_area areas new)
  same = ap (λ (place : ℕ). on contents new (area_at areas place)) (sym stays)

  state-is : (settings : Map) (power : Bool) → new.is_on ≡ power → on contents new (active_area areas new) ≡ settings → state new ≡ record (state old) { settings = settings; is_on = power }
  state-is settings power is_on is =
      ap (λ (place : ℕ). record (state new) { active = place }) stays
      ∙ ap (λ (b : Bool). record (state new) { is_on = b; active = active_on areas old }) is_on
      ∙ ap (λ (m : Map). record (state old) { settings = m; is_on = power }) is

  keeps : (cut : Bool) → Touches (active_area areas old ∷ []) old new cut → Keeps (active_area areas old ∷ []) old new
  keeps cut touches = record { banks = touches.banks; loads = touches.loads; outside = touches.outside }

  bounded : {result : Result (Unit {0}) SaveFault} → Ends result → units ≤ save_bound (meanings contents room chance tears) areas subtree (moment old registry pool)
  bounded e = spent_most old new (save_bound (meanings contents room chance tears) areas subtree (moment old registry pool)) units spent e.at_most

  none-spent : new ≡ old → units ≡ 0
  none-spent is = let e : new.spent ≡ old.spent = ap (λ (d : Device). d.spent) is in omega (arith, spent, e)

  some-spent : (last : ℕ) → new.spent ≤ last → SpendsSome old new → last < 2 ^ 64 - 1 → 0 < units
  some-spent last within spends below = let some = spends.1 in let is = spends.2 in omega (arith, within, below, spent)

  commands-done : (last : ℕ) → new.spent ≤ last → new.is_on ≡ old.is_on
      → Carries (room (active_area areas old) (geometry_of old (active_area areas old))) old new (on contents old (active_area areas old)) (on contents new (active_area areas old)) commands
      → CommandsDone (rules_of (meanings contents room chance tears) areas old.banks last) commands units (state old) (state new)
  commands-done last within power carries = record {
    free = carries.free;
    none = λ e. none-spent (carries.none e);
    some = λ not counts. some-spent last within (carries.some not) counts;
    state = state-is (all_applied (on contents old (active_area areas old)) commands) old.is_on power (sym same ∙ carries.settings);
  }

  pub saved-whole : (x : Unit {0}) → Ends (Ok x) → IsDone (Saved pairs units Whole)
  saved-whole x e = record {
    done = record {
      step = λ last within. (λ needs. powered, (e.pairs_are ∙ ap (more_pairs 0) e.ends.1, commands-done last within e.touches.ends.on e.ends.2));
      accounts = kept (active_area areas old ∷ []) (Save subtree) (Saved pairs units Whole) old new e.touches refl refl spent;
      keeps = keeps false e.touches;
      chance = tt;
    };
    touches = λ plain. e.touches;
    most = bounded e;
  }

  pub saved-many : Ends (Err TooManyNames) → IsDone (Saved pairs units TooMany)
  saved-many e =
      let meets = e.ends.1 in
      record {
        done = record {
          step = λ last within. (
            λ needs. powered,
            (
              e.count,
              e.pairs_are,
              record { split = meets.split; settings = sym same ∙ meets.carried.settings; free = meets.carried.free; many = subst (λ (now : Map). is_too_many (room (active_area areas old) (geometry_of old (active_area areas old))) now meets.split.at ≡ true) same meets.too_many },
              state-is (on contents new (active_area areas new)) old.is_on e.touches.ends.on refl,
              λ none. none-spent (meets.carried.none (nil_from_length meets.split.done (sym meets.split.count_is ∙ none))),
            ),
          );
          accounts = kept (active_area areas old ∷ []) (Save subtree) (Saved pairs units TooMany) old new e.touches refl refl spent;
          keeps = keeps false e.touches;
          chance = tt;
        };
        touches = λ plain. e.touches;
        most = bounded e;
      }

  pub saved-full : (need live : ℕ) → Ends (Err (NoSpace need live)) → IsDone (Saved pairs units (NoRoom need live))
  saved-full need live e = record {
    done = record {
      step = λ last within. (
        λ needs. powered,
        (
          e.count,
          e.pairs_are,
          subst (λ (now : Map). MeetsNoRoom (room (active_area areas old) (geometry_of old (active_area areas old))) (active_area areas old).sectors (on contents old (active_area areas old)) now commands e.count need live) same e.ends.1,
          state-is (on contents new (active_area areas new)) old.is_on e.touches.ends.on refl,
        ),
      );
      accounts = kept (active_area areas old ∷ []) (Save subtree) (Saved pairs units (NoRoom need live)) old new e.touches refl refl spent;
      keeps = keeps false e.touches;
      chance = tt;
    };
    touches = λ plain. e.touches;
    most = bounded e;
  }

  cut-short : (count last : ℕ) (reported : Bool) (loss : Loss) → new.is_on ≡ false → (split : SplitsAt commands count)
      → AreFree (room (active_area areas old) (geometry_of old (active_area areas old))) (on contents old (active_area areas old)) (split.done ++ split.at ∷ [])
      → CutMap reported (tears (active_area areas old) (geometry_of old (active_area areas old)) split.at loss.done) split.at (all_applied (on contents old (active_area areas old)) split.done) (on contents new (active_area areas new))
      → CommandsLost (rules_of (meanings contents room chance tears) areas old.banks last) commands reported (state old) (state new)
  cut-short count last true loss off split free torn =
      (record { count = count; split = split; free = free; units = loss.done; torn = torn }, state-is (on contents new (active_area areas new)) false off refl)
  cut-short count last false loss off split free whole = (
    stops-whole (room (active_area areas old) (geometry_of old (active_area areas old))) (on contents old (active_area areas old)) (on contents new (active_area areas new)) commands count split free whole,
    state-is (on contents new (active_area areas new)) false off refl,
  )

  pub saved-lost : (reported : Bool) → ((loss : Loss) → new.last_loss ≡ Some loss → reported ≡ on chance new (active_area areas old) loss) → Ends (Err PowerLost) → IsDone (Lost units reported)
  saved-lost reported reports e =
      let cut = e.touches.ends powered in
      let meets = e.ends.1 in
      let stops = meets.stops powered in
      record {
        done = record {
          step = λ last within. (
            λ needs. powered,
            cut-short e.count last reported stops.loss cut.off meets.split meets.free
                (subst (λ (now : Map). CutMap reported (tears (active_area areas old) (geometry_of old (active_area areas old)) meets.split.at stops.loss.done) meets.split.at (all_applied (on contents old (active_area areas old)) meets.split.done) now) same
                (subst (λ (b : Bool). CutMap b (tears (active_area areas old) (geometry_of old (active_area areas old)) meets.split.at stops.loss.done) meets.split.at (all_applied (on contents old (active_area areas old)) meets.split.done) (on contents new (active_area areas old)))
                (sym (reports stops.loss stops.last)) stops.settings)),
          );
          accounts = lost (active_area areas old ∷ []) (Save subtree) (Lost units reported) old new powered e.touches refl refl spent;
          keeps = keeps true e.touches;
          chance = record { loss = cut.loss; last = cut.last_loss; is = reports cut.loss cut.last_loss ∙ ap (λ (place : ℕ). on chance new (area_at areas place) cut.loss) (sym stays) };
        };
        touches = λ plain. e.touches;
        most = bounded e;
      }
