-- Which handlers lines move.
use Rattle.std.proofs.Common.{◌≡◌, ℕ, true, false, Option, List, [], ◌∷◌, ◌++◌, Result, Ok, Err, refl, sym, ap, subst, ◌∙◌}
use Rattle.std.specs.Prelude.{IfErr, IfOk}
use Rattle.std.specs.FinMap.{empty}
use Rattle.std.proofs.lemmas.Bool.{false≢true}
use Rattle.flash_sim.specs.Device.{Device}
use Rattle.flash_map.specs.declared.area.Area.{Area}
use Rattle.flash_map.specs.declared.area.Geometry.{Geometry}
use Rattle.flash_map.specs.declared.faults.Damaged.{Damaged}
use Rattle.handlers.specs.declared.handler.HandlerKind.{HandlerKind}
use Rattle.handlers.specs.declared.registry.RegistryOf.{RegistryOf}
use Rattle.handlers.specs.declared.registry.Row.{Row}
use Rattle.handlers.specs.Held.{HandlerState}
use Rattle.handlers.specs.Registry.{Registered}
use Rattle.backend_api.specs.Map.{Map}
use Rattle.script_lines.specs.declared.line.Line.{Line}
use Rattle.script_lines.specs.declared.line.Line.TheVariants.{Register, Load, Commit, RunSet, Mount, Cut, Uncut}
use Rattle.script_lines.specs.declared.answer.Answer.{Answer}
use Rattle.script_lines.specs.declared.answer.Answer.TheVariants.{Done, Loaded, NoHandler, Off, Rejected}
use Rattle.session_table.specs.Bench.{Meanings}
use Rattle.session_table.specs.State.{State}
use Rattle.session_table.specs.Step.{Commits, Loads, Offers, needs_power}
use Rattle.session.specs.declared.fault.SessionFault.{SessionFault}
use Rattle.session.specs.declared.fault.SessionFault.TheVariants.{Damaged as IsDamaged, NoMemory}
use Rattle.session.specs.Handling.{LeavesHandlers, MovesHandlers, RegistersFirst, TakesFirst, beside}
use Rattle.session.specs.OnMap.{LineStops, is_local}
use Rattle.session.proofs.ReadyLemmas.{mount_not_local}

-- a state with these settings
abbrev holding : Map → State
holding settings = record { settings = settings; is_on = true; registry = []; pool = []; active = 0 }

module _ {B : Type 0} (state : B → HandlerState) where
  -- the handler that was taken was registered
  pub registers_taken : (subtree copy : List ℕ) (kind : HandlerKind) (before after : List B) (taken : B) (rows now : List (Row B)) → copy ≡ subtree → TakesFirst state kind before after taken
      → now ≡ rows ++ record { subtree = copy; handler = taken } ∷ [] → RegistersFirst state subtree kind before after rows now
  registers_taken subtree copy kind before after taken rows now is takes last = record {
    handler = taken;
    taken = takes;
    last = last ∙ ap (λ (name : List ℕ). rows ++ record { subtree = name; handler = taken } ∷ []) is;
  }

  module _ (pool : List B) (old new : RegistryOf B) where
    pub moves_one : (line other : Line) (answer : Answer) → line ≡ other → MovesHandlers state other answer pool pool old new → MovesHandlers state line answer pool pool old new
    moves_one line other answer is none = subst (λ (l : Line). MovesHandlers state l answer pool pool old new) (sym is) none

    -- no other line moves any
    pub moves_as : {E : Type 0} (line other : Line) (result : Result Answer E) → line ≡ other → ((answer : Answer) → MovesHandlers state other answer pool pool old new) → IfOk result (λ answer. MovesHandlers state line answer pool pool old new)
    moves_as line other (Ok answer) is none = subst (λ (l : Line). MovesHandlers state l answer pool pool old new) (sym is) (none answer)
    moves_as line other (Err fault) is none = tt

    -- ---- lines that call handlers, which are carried out if they are answered otherwise than `off`

    loaded : (subtree : Option (List ℕ)) (settings : Map) (registry others : List Registered) (answer : Answer) → ((s : State) → s.settings ≡ settings → Loads subtree answer (beside s registry s.pool) (beside s others s.pool))
        → MovesHandlers state (Load subtree) answer pool pool old new
    loaded subtree settings registry others (Loaded gives taken rejected passed) is = (refl, tt)
    loaded subtree settings registry others answer is = absurd (is (holding settings) refl)

    pub moves_load : {E : Type 0} (line : Line) (subtree : Option (List ℕ)) (settings : Map) (registry others : List Registered) (result : Result Answer E) → line ≡ Load subtree
        → IfOk result (λ answer. (s : State) → s.settings ≡ settings → Loads subtree answer (beside s registry s.pool) (beside s others s.pool)) → IfOk result (λ answer. MovesHandlers state line answer pool pool old new)
    moves_load line subtree settings registry others (Ok answer) same is = moves_one line (Load subtree) answer same (loaded subtree settings registry others answer is)
    moves_load line subtree settings registry others (Err fault) same is = tt

    committed : (registry others : List Registered) (answer : Answer) → ((s : State) → Commits answer (beside s registry s.pool) (beside s others s.pool)) → MovesHandlers state Commit answer pool pool old new
    committed registry others (Done units) is = (refl, tt)
    committed registry others answer is = absurd (is (holding empty))

    pub moves_commit : (line : Line) (registry others : List Registered) (answer : Answer) → line ≡ Commit → ((s : State) → Commits answer (beside s registry s.pool) (beside s others s.pool)) → MovesHandlers state line answer pool pool old new
    moves_commit line registry others answer same is = moves_one line Commit answer same (committed registry others answer is)

    offered : (name value : List ℕ) (registry others : List Registered) (answer : Answer) → ((s : State) → Offers name value answer (beside s registry s.pool) (beside s others s.pool)) → MovesHandlers state (RunSet name value) answer pool pool old new
    offered name value registry others NoHandler is = (refl, tt)
    offered name value registry others Rejected is = (refl, tt)
    offered name value registry others (Done units) is = (refl, tt)
    offered name value registry others answer is = absurd (is (holding empty))

    pub moves_offer : {E : Type 0} (line : Line) (name value : List ℕ) (registry others : List Registered) (result : Result Answer E) → line ≡ RunSet name value
        → IfOk result (λ answer. (s : State) → Offers name value answer (beside s registry s.pool) (beside s others s.pool)) → IfOk result (λ answer. MovesHandlers state line answer pool pool old new)
    moves_offer line name value registry others (Ok answer) same is = moves_one line (RunSet name value) answer same (offered name value registry others answer is)
    moves_offer line name value registry others (Err fault) same is = tt

  -- ---- lines that call none

  module _ (pool : List B) (registry : RegistryOf B) where
    unpowered : (line : Line) (answer : Answer) → needs_power line ≡ false → MovesHandlers state line answer pool pool registry registry
    unpowered Mount answer none = (refl, refl)
    unpowered (Cut units) answer none = (refl, refl)
    unpowered Uncut answer none = (refl, refl)
    unpowered line answer none = absurd (false≢true (sym none))

    pub moves_unpowered : {E : Type 0} (line : Line) (result : Result Answer E) → needs_power line ≡ false → IfOk result (λ answer. MovesHandlers state line answer pool pool registry registry)
    moves_unpowered line result none = moves_as pool registry registry line line result refl (λ answer. unpowered line answer none)

  -- with power off
  pub moves_off : (line : Line) (pool : List B) (registry : RegistryOf B) → MovesHandlers state line Off pool pool registry registry
  moves_off (Register subtree kind) pool registry = (refl, refl)
  moves_off line pool registry = (refl, refl)

  -- ---- whether a line is answered or not

  pub none_left : (line : Line) (result : Result Answer SessionFault) (pool : List B) (registry : RegistryOf B) → IfOk result (λ answer. MovesHandlers state line answer pool pool registry registry) → LeavesHandlers state line result pool pool registry registry
  none_left line (Ok answer) pool registry moves = moves
  none_left line (Err (IsDamaged place damaged)) pool registry moves = (refl, refl)
  none_left line (Err NoMemory) pool registry moves = tt

  -- a line on the active area finds no damage
  pub local_left : (m : Meanings) (damage : Area → Geometry → List (List ℕ) → Option Damaged) (areas : List Area) (line : Line) (d e : Device) (result : Result Answer SessionFault) (before after : List B) (old new : RegistryOf B) → is_local line ≡ true
      → IfErr result (λ fault. LineStops m damage areas line d e fault) → IfOk result (λ answer. MovesHandlers state line answer before after old new) → LeavesHandlers state line result before after old new
  local_left m damage areas line d e (Ok answer) before after old new local stops moves = moves
  local_left m damage areas line d e (Err (IsDamaged place damaged)) before after old new local stops moves = absurd (mount_not_local line local stops.0)
  local_left m damage areas line d e (Err NoMemory) before after old new local stops moves = tt
