-- Lines that carry out a command on a mirror that is held.
use Rattle.std.proofs.Common.{◌≡◌, ◌⊎◌, inl, inr, ℕ, ◌+◌, ◌-◌, ◌<◌, ◌≤◌, ◌&&◌, Bool, true, false, cond, List, [], ◌∷◌, length, Some, None, Ok, Err, refl, sym, ap, subst, ◌∙◌}
use Rattle.std.specs.Prelude.{Result}
use Rattle.std.specs.Cmp.Lexicographic.{slice_cmp}
use Rattle.std.specs.FinMap.{get, get-empty, insert}
use Rattle.std.specs.List.{slice_get}
use Rattle.std.specs.Ordering.{nat_cmp}
use Rattle.std.proofs.lemmas.Bool.{false≢true}
use Rattle.flash_sim.specs.Bank.{IsLawful}
use Rattle.flash_sim.specs.Device.{Device}
use Rattle.flash_sim.specs.declared.flash.PowerLost.{PowerLost as Lost}
use Rattle.flash_map.specs.declared.area.Area.{Area}
use Rattle.flash_map.specs.declared.area.Geometry.{Geometry}
use Rattle.flash_map.specs.Area.{geometry_of}
use Rattle.flash_map.specs.On.{on}
use Rattle.flash_map.specs.Spending.{SpendsAtMost}
use Rattle.flash_map.specs.Touches.{Touches}
use Rattle.backend_api.specs.Commands.{Command, applied, all_applied}
use Rattle.backend_api.specs.Commands.Command.{Put, Del as Delete}
use Rattle.backend_api.specs.Map.{Map, IsAbsent}
use Rattle.backend_api.specs.Room.{command_units}
use Rattle.backend_api.specs.Written.{StaysWritten}
use Rattle.backend_api.proofs.MapLemmas.{get-insert_same}
use Rattle.backend_api.specs.declared.backend.SetFault.{SetFault}
use Rattle.backend_api.specs.declared.backend.SetFault.TheVariants.{NoSpace, TooManyNames, PowerLost}
use Rattle.migrator.specs.Active.{active_on, selector_damage_on}
use Rattle.migrator.specs.Areas.{is_store}
use Rattle.mirror.specs.declared.mirror.Mirror.{Mirror}
use Rattle.mirror.specs.Mirrored.{FitBoth, HasRoom as BothHaveRoom, IsCutBoth, IsFew, IsMirror, MirrorDeletes, MirrorSets, SameSide}
use Rattle.mirror.specs.Mounting.{SelectorRests}
use Rattle.mirror.specs.Trusted.{IsMirrorMap, damage_shown, trusted_on}
use Rattle.script_lines.specs.declared.answer.Answer.{Answer as settings_answer}
use Rattle.script_lines.specs.declared.answer.Answer.TheVariants as settings
use Rattle.script_lines.specs.Plan.Replan.{keeps}
use Rattle.settings_core.specs.Carrying.{command_of, is_idle}
use Rattle.session_table.specs.Bench.{area_at}
use Rattle.mirror_session.specs.declared.line.Line.{Line}
use Rattle.mirror_session.specs.declared.line.Line.TheVariants.{Set, Del}
use Rattle.mirror_session.specs.declared.answer.Answer.{Answer}
use Rattle.mirror_session.specs.declared.answer.Answer.TheVariants.{Plain}
use Rattle.mirror_session.specs.Answer.{done, lost}
use Rattle.mirror_session.specs.Plan.{units_of, is_lost, replan}
use Rattle.mirror_session.specs.Bench.{Meanings, beside_in, is_gone, moment, rules_of, state_of}
use Rattle.mirror_session.specs.LineDone.{BothNow, Cuts, CutsBoth, Finds, FitNow, FitsThen, Keeps, LineDone, Replaced, Spares, StaysSound, is_quiet, powered_for, replaces, store_areas, worked_on}
use Rattle.mirror_session.specs.Standing.{IsHeld}
use Rattle.session_table.specs.Rules.{IsCounted}
use Rattle.mirror_session.specs.State.{State, Rules}
use Rattle.mirror_session.specs.Step.{Changes, HasOrNot, HasRoom, IsCut, IsDone, IsFree, Step, changing}
use Rattle.mirror_session.proofs.AccountLemmas.{kept, kept_beside}
use Rattle.mirror_session.proofs.AccountLemmas as counts
use Rattle.mirror_session.proofs.ChangeLemmas.{alike, busy_other, busy_present, delete_after, few_is, full_is, idle_absent, idle_stored, made, many_is, most_is, most_spent, none_spent, other_busy, present_busy, put_is, room_is, set_after, some_spent}
use Rattle.mirror_session.proofs.HeldLemmas.{EmptyWhereBlank, at_here, at_there, differs, fit_both, named_area, others_are, read_if, reads_both, reads_on, settings_are}
use Rattle.mirror_session.proofs.PlaceLemmas.{beside_is, map_kept, trusted_of_is}
use Rattle.mirror_session.proofs.MountLemmas.{trusted_there}
use Rattle.mirror_session.proofs.SoundLemmas.{none_shown}
use Rattle.mirror_session.proofs.SelectorLemmas.{named_still, rests_still, sound_still, wide}
use Rattle.session.proofs.ActiveAreas.{area_there}

some_none : (x : List ℕ) → Some x ≡ None → ⊥
some_none x e = cc

module _ {S : Type 0} (mounted_on : S → Area) (stands : S → Geometry → List (List ℕ) → Type 0) (m : Meanings) (serves : Area → Geometry → Type 0)
    (areas : List Area) (old new : Device) (mirror after : Mirror S) (map : IsMirrorMap serves areas old) (held : IsHeld mounted_on stands m areas old mirror) (power : old.is_on ≡ true)
    (lawful : IsLawful old.banks old.bytes) (lawful_new : IsLawful new.banks new.bytes) where
  -- the settings before
  abbrev pub before : Map
  before = on m.contents old mirror.trusted.area

  -- the state before, where both areas read as these
  abbrev pub was : State
  was = made before before (active_on areas old) (is_gone areas old) (old.is_on && true)

  old_is : state_of m areas (moment old true) ≡ was
  old_is =
      alike (on m.contents old (area_at areas (trusted_on areas old))) before (on m.contents old (area_at areas (beside_in areas (trusted_on areas old)))) before
      (active_on areas old) (active_on areas old) (is_gone areas old) (old.is_on && true) (old.is_on && true)
      (settings_are mounted_on stands m serves areas old mirror map held power) (others_are mounted_on stands m serves areas old mirror map held power) refl refl

  on_before : was.is_on ≡ true
  on_before = ap (λ (b : Bool). b && true) power

  beside_named : beside_in areas (active_on areas old) ≡ mirror.other.place
  beside_named =
      ap (beside_in areas) (sym held.named)
      ∙ beside_is serves areas old map mirror.trusted.place mirror.other.place (at_here mounted_on stands m serves areas old mirror map held) (at_there mounted_on stands m serves areas old mirror map held) (differs mounted_on stands m serves areas old mirror map held)

  second_area : area_at areas (beside_in areas (active_on areas old)) ≡ mirror.other.area
  second_area = ap (area_at areas) beside_named ∙ area_there areas mirror.other.place mirror.other.area held.other.there

  module _ (cut : Bool) (touches : Touches (mirror.trusted.area ∷ mirror.other.area ∷ []) old new cut) where
    in_stores : Touches (store_areas areas old) old new cut
    in_stores =
        subst (λ (a : Area). Touches (a ∷ area_at areas (beside_in areas (active_on areas old)) ∷ []) old new cut) (sym (named_area mounted_on stands m serves areas old mirror map held))
        (subst (λ (a : Area). Touches (mirror.trusted.area ∷ a ∷ []) old new cut) (sym second_area) touches)

    still : active_on areas new ≡ active_on areas old
    still = named_still serves areas old new map lawful lawful_new mirror.trusted.place mirror.other.place mirror.trusted.area mirror.other.area held.trusted.there held.other.there held.trusted.stores held.other.stores touches.banks touches.outside

    sound_again : selector_damage_on areas new ≡ None
    sound_again = sound_still serves areas old new map lawful lawful_new mirror.trusted.place mirror.other.place mirror.trusted.area mirror.other.area held.trusted.there held.other.there held.trusted.stores held.other.stores touches.banks touches.outside ∙ held.sound

    rests_again : SelectorRests areas new
    rests_again = rests_still serves areas old new map lawful lawful_new mirror.trusted.place mirror.other.place mirror.trusted.area mirror.other.area held.trusted.there held.other.there held.trusted.stores held.other.stores touches.banks touches.outside held.rests

    touched : Touches areas old new cut
    touched = wide areas mirror.trusted.place mirror.other.place mirror.trusted.area mirror.other.area old new cut held.trusted.there held.other.there touches

    -- no damage is shown where neither area has any
    sound_then : on m.damage new mirror.trusted.area ≡ None → on m.damage new mirror.other.area ≡ None → damage_shown m.damage areas new ≡ None
    sound_then one two =
        none_shown m.damage areas new (area_at areas (trusted_on areas new)) (trusted_there serves areas new (map_kept serves areas old new touches.banks map)) sound_again
        (reads_on mounted_on stands m serves areas old mirror map held new still (λ a. on m.damage new a) (λ x y. x ≡ None) one two)

    pub held_again : SameSide mirror.trusted after.trusted → SameSide mirror.other after.other → on m.damage new mirror.trusted.area ≡ None → on m.damage new mirror.other.area ≡ None
        → (new.is_on ≡ true → IsMirror mounted_on stands m.contents m.room m.prices new after.trusted after.other) → (new.is_on ≡ true → is_gone areas new ≡ false) → IsHeld mounted_on stands m areas new after
    held_again same same_other sound other_sound up read = record {
      trusted = record {
        there = ap (slice_get areas) same.place ∙ held.trusted.there ∙ ap (λ (a : Area). Some a) (sym same.area);
        stores = ap is_store same.area ∙ held.trusted.stores;
        sound = ap (λ (a : Area). on m.damage new a) same.area ∙ sound;
      };
      other = record {
        there = ap (slice_get areas) same_other.place ∙ held.other.there ∙ ap (λ (a : Area). Some a) (sym same_other.area);
        stores = ap is_store same_other.area ∙ held.other.stores;
        sound = ap (λ (a : Area). on m.damage new a) same_other.area ∙ other_sound;
      };
      apart = λ e. held.apart (sym same_other.place ∙ e ∙ same.place);
      named = same.place ∙ held.named ∙ sym still;
      sound = sound_again;
      rests = rests_again;
      up = up;
      read = read;
    }

    -- the selector names the area that is read, where nothing changed
    pub read_same : new ≡ old → is_gone areas new ≡ false
    read_same same = ap (is_gone areas) same ∙ held.read power

    module _ (empties : EmptyWhereBlank serves m) where
      -- or the area has a setting
      pub read_with : (name value : List ℕ) → on m.contents new mirror.trusted.area ≡ insert before name value → is_gone areas new ≡ false
      read_with name value has = read_if mounted_on stands m serves areas old mirror map held new still (λ blank.
          let now = map_kept serves areas old new touches.banks map in
          let none = empties new mirror.trusted.area lawful_new (now.lawful.each mirror.trusted.place mirror.trusted.area held.trusted.there) (now.served mirror.trusted.place mirror.trusted.area held.trusted.there held.trusted.stores) blank in
          absurd (some_none value (sym (get-insert_same before name value) ∙ ap (λ (s : Map). get s name) (sym has ∙ none) ∙ get-empty (slice_cmp nat_cmp) name)))

      -- or a name without a value was deleted, if the area is all FF
      pub read_without : (name : List ℕ) → StaysWritten old new mirror.trusted.area → (IsAbsent before name → new ≡ old) → is_gone areas new ≡ false
      read_without name written absent = read_if mounted_on stands m serves areas old mirror map held new still (λ blank.
          let none = empties old mirror.trusted.area lawful (map.lawful.each mirror.trusted.place mirror.trusted.area held.trusted.there) (map.served mirror.trusted.place mirror.trusted.area held.trusted.there held.trusted.stores) (written blank) in
          read_same (absent (ap (λ (s : Map). get s name) none ∙ get-empty (slice_cmp nat_cmp) name)))

    -- what both areas read as then
    both_read : (x : Map) → on m.contents new mirror.trusted.area ≡ x → on m.contents new mirror.other.area ≡ x
        → (on m.contents new (area_at areas (trusted_on areas new)) ≡ x) × (on m.contents new (area_at areas (beside_in areas (trusted_on areas new))) ≡ x)
    both_read x one two =
        reads_on mounted_on stands m serves areas old mirror map held new still (λ a. on m.contents new a) (λ a b. (a ≡ x) × (b ≡ x)) (one, two) (two, one)

    new_is : (x : Map) → is_gone areas new ≡ false → new.is_on ≡ old.is_on → on m.contents new mirror.trusted.area ≡ x → on m.contents new mirror.other.area ≡ x
        → state_of m areas (moment new true) ≡ made x x (active_on areas old) (is_gone areas old) (old.is_on && true)
    new_is x read stays one two =
        let both = both_read x one two in
        alike (on m.contents new (area_at areas (trusted_on areas new))) x (on m.contents new (area_at areas (beside_in areas (trusted_on areas new)))) x
        (active_on areas new) (active_on areas old) (is_gone areas new) (new.is_on && true) (old.is_on && true) both.0 both.1 still (ap (λ (b : Bool). b && true) stays)
        ∙ ap (λ (b : Bool). made x x (active_on areas old) b (old.is_on && true)) (read ∙ sym (held.read power))

  -- ---- lines in which power lasted

  module _ (touches : Touches (mirror.trusted.area ∷ mirror.other.area ∷ []) old new false) where
    whole : (line : Line) (answer : Answer) → is_lost answer ≡ false → replan line answer ≡ keeps → replaces line answer ≡ false → is_quiet line answer ≡ false → powered_for line old ≡ old → worked_on areas line old ≡ store_areas areas old → Replaced areas line answer old new → StaysSound m areas (moment old true) (moment new true) → (FitNow m areas (moment old true) → FitNow m areas (moment new true)) → (BothNow m areas (moment old true) → BothNow m areas (moment new true))
        → units_of answer ≡ new.spent - old.spent → Cuts m areas line answer old new → Finds m areas line answer old new → Spares m areas line answer old new → FitsThen m areas line answer (moment new true)
        → ((last : ℕ) → new.spent ≤ last → Step (rules_of m areas old.banks last) line answer (state_of m areas (moment old true)) (state_of m areas (moment new true)))
        → LineDone m areas line answer (moment old true) (moment new true)
    whole line answer lasts stays none busy same works left sound fit both units cuts finds spares fits step =
        let wider = touched false touches in
        let within = subst (λ (l : List Area). Touches l old new false) (sym works) (in_stores false touches) in
        record {
          step = step;
          accounts = kept areas line answer old new wider stays lasts units;
          keeps = subst (λ (b : Bool). Keeps areas (cond b 1 0) old new) (sym none) (kept_beside areas old new false wider);
          touches = λ plain.
              subst (λ (b : Bool). Touches (worked_on areas line old) (powered_for line old) new b) (sym lasts)
              (subst (λ (x : Device). Touches (worked_on areas line old) x new false) (sym same) within);
          blanks = left;
          quiet = λ is. absurd (false≢true (sym busy ∙ is));
          cuts = cuts;
          finds = finds;
          spares = spares;
          fits = fits;
          fit = fit;
          both = both;
          sound = sound;
        }

    -- what both read as then fits both
    done_fits : FitBoth m.room m.prices new mirror.trusted.area mirror.other.area (on m.contents new mirror.trusted.area) → on m.contents new mirror.other.area ≡ on m.contents new mirror.trusted.area → FitNow m areas (moment new true)
    done_fits both same =
        fit_both mounted_on stands m serves areas old mirror map held new (still false touches) true both
        (subst (λ (s : Map). FitBoth m.room m.prices new mirror.trusted.area mirror.other.area s) (sym same) both)

    -- and both read as it
    done_both : on m.damage new mirror.trusted.area ≡ None → on m.damage new mirror.other.area ≡ None → on m.contents new mirror.other.area ≡ on m.contents new mirror.trusted.area → BothNow m areas (moment new true)
    done_both one two same on_then =
        let is = (both_read false touches (on m.contents new mirror.trusted.area) refl same).0 in
        reads_both mounted_on stands m serves areas old mirror map held new (state_of m areas (moment new true)).settings (sound_again false touches) one two (sym is) (same ∙ sym is)

    same_both : new ≡ old → BothNow m areas (moment old true) → BothNow m areas (moment new true)
    same_both same is = subst (λ (d : Device). BothNow m areas (moment d true)) (sym same) is

    same_fits : new ≡ old → FitNow m areas (moment old true) → FitNow m areas (moment new true)
    same_fits same is = subst (λ (d : Device). FitNow m areas (moment d true)) (sym same) is

    -- a command was carried out in both
    carried_out : (command : Command) (r : Rules) → is_gone areas new ≡ false → (is_idle before command ≡ true → new ≡ old) → (is_idle before command ≡ false → IsCounted r.last → 0 < new.spent - old.spent)
        → IsFree r before command → (is_idle before command ≡ false → HasRoom r before command) → new.spent - old.spent ≤ r.most
        → on m.contents new mirror.trusted.area ≡ all_applied before (changing before command) → on m.contents new mirror.other.area ≡ all_applied before (changing before command)
        → IsDone r command (new.spent - old.spent) was (state_of m areas (moment new true))
    carried_out command r read idle some free room most one two = record {
      free = free;
      room = room;
      none = λ is. none_spent old new (idle is);
      some = λ busy counts. some busy counts;
      at_most = most;
      state = new_is false touches (all_applied before (changing before command)) read touches.ends.on one two;
    }

    -- nothing changed
    unchanged : new ≡ old → state_of m areas (moment new true) ≡ was
    unchanged same = ap (λ (d : Device). state_of m areas (moment d true)) same ∙ old_is

  -- ---- lines in which power was lost

  module _ (touches : Touches (mirror.trusted.area ∷ mirror.other.area ∷ []) old new true) where
    off_now : new.is_on ≡ false
    off_now = (touches.ends power).off

    broken : (line : Line) (answer : Answer) → is_lost answer ≡ true → replan line answer ≡ keeps → replaces line answer ≡ false → is_quiet line answer ≡ false → powered_for line old ≡ old → worked_on areas line old ≡ store_areas areas old → Replaced areas line answer old new → StaysSound m areas (moment old true) (moment new true) → (FitNow m areas (moment old true) → FitNow m areas (moment new true))
        → units_of answer ≡ new.spent - old.spent → Cuts m areas line answer old new → Finds m areas line answer old new → Spares m areas line answer old new → FitsThen m areas line answer (moment new true)
        → ((last : ℕ) → new.spent ≤ last → Step (rules_of m areas old.banks last) line answer (state_of m areas (moment old true)) (state_of m areas (moment new true)))
        → LineDone m areas line answer (moment old true) (moment new true)
    broken line answer is_cut stays none busy same works left sound fit units cuts finds spares fits step =
        let wider = touched true touches in
        let within = subst (λ (l : List Area). Touches l old new true) (sym works) (in_stores true touches) in
        record {
          step = step;
          accounts = counts.lost areas line answer old new power wider stays is_cut units;
          keeps = subst (λ (b : Bool). Keeps areas (cond b 1 0) old new) (sym none) (kept_beside areas old new true wider);
          touches = λ plain.
              subst (λ (b : Bool). Touches (worked_on areas line old) (powered_for line old) new b) (sym is_cut)
              (subst (λ (x : Device). Touches (worked_on areas line old) x new true) (sym same) within);
          blanks = left;
          quiet = λ is. absurd (false≢true (sym busy ∙ is));
          cuts = cuts;
          finds = finds;
          spares = spares;
          fits = fits;
          fit = fit;
          both = λ was_both on_then. absurd (false≢true (sym (ap (λ (b : Bool). b && true) off_now) ∙ on_then));
          sound = sound;
        }

    module _ (command : Command) (both : IsCutBoth m.damage m.contents new mirror.trusted.area mirror.other.area before (applied before command)) where
      first_has : HasOrNot command before (on m.contents new mirror.trusted.area)
      first_has = elim both.settings [
        | inl none ↦ inl none.0
        | inr some ↦ elim some [
          | inl one ↦ inr one.0
          | inr two ↦ inr two.0
        ]
      ]

      second_has : HasOrNot command before (on m.contents new mirror.other.area)
      second_has = elim both.settings [
        | inl none ↦ inl none.1
        | inr some ↦ elim some [
          | inl one ↦ inl one.1
          | inr two ↦ inr two.1
        ]
      ]

      -- the named area is read where it is not all FF
      named_reads : is_gone areas new ≡ false
          → (on m.contents new (area_at areas (trusted_on areas new)) ≡ on m.contents new mirror.trusted.area) × (on m.contents new (area_at areas (beside_in areas (trusted_on areas new))) ≡ on m.contents new mirror.other.area)
      named_reads named =
          let active : trusted_on areas new ≡ active_on areas old = trusted_of_is areas new ∙ ap (λ (b : Bool). cond b (beside_in areas (active_on areas new)) (active_on areas new)) named ∙ still true touches in (
            ap (λ (p : ℕ). on m.contents new (area_at areas p)) active ∙ ap (λ (a : Area). on m.contents new a) (named_area mounted_on stands m serves areas old mirror map held),
            ap (λ (p : ℕ). on m.contents new (area_at areas (beside_in areas p))) active ∙ ap (λ (a : Area). on m.contents new a) second_area,
          )

      in_order : HasOrNot command before (on m.contents new (area_at areas (beside_in areas (trusted_on areas new)))) → (b : Bool) → is_gone areas new ≡ b
          → (on m.contents new (area_at areas (beside_in areas (trusted_on areas new))) ≡ before)
          ⊎ ((on m.contents new (area_at areas (beside_in areas (trusted_on areas new))) ≡ applied before command)
          × ((on m.contents new (area_at areas (trusted_on areas new)) ≡ applied before command) ⊎ (is_gone areas new ≡ true)))
      in_order has true gone = elim has [
        | inl none ↦ inl none
        | inr some ↦ inr (some, inr gone)
      ]
      in_order has false named = let reads = named_reads named in elim both.settings [
        | inl none ↦ inl (reads.1 ∙ none.1)
        | inr some ↦ elim some [
          | inl one ↦ inl (reads.1 ∙ one.1)
          | inr two ↦ inr (reads.1 ∙ two.1, inl (reads.0 ∙ two.0))
        ]
      ]

      cut_off : (r : Rules) → IsFree r before command → HasRoom r before command → is_idle before command ≡ false → new.spent - old.spent ≤ r.most
          → IsCut r command (new.spent - old.spent) was (state_of m areas (moment new true))
      cut_off r free room busy most =
          let have = reads_on mounted_on stands m serves areas old mirror map held new (still true touches) (λ a. on m.contents new a) (λ a b. HasOrNot command before a × HasOrNot command before b) (first_has, second_has) (second_has, first_has) in
          record {
            free = free;
            room = room;
            changes = busy;
            here = have.0;
            there = in_order have.1 (is_gone areas new) refl;
            at_most = most;
            state =
                alike (on m.contents new (area_at areas (trusted_on areas new))) (on m.contents new (area_at areas (trusted_on areas new))) (on m.contents new (area_at areas (beside_in areas (trusted_on areas new)))) (on m.contents new (area_at areas (beside_in areas (trusted_on areas new))))
                (active_on areas new) (active_on areas old) (is_gone areas new) (new.is_on && true) false refl refl (still true touches) (ap (λ (b : Bool). b && true) off_now);
          }

      -- what each reads as fits both
      cut_fits : FitBoth m.room m.prices new mirror.trusted.area mirror.other.area before → FitBoth m.room m.prices new mirror.trusted.area mirror.other.area (applied before command) → FitNow m areas (moment new true)
      cut_fits one two = fit_both mounted_on stands m serves areas old mirror map held new (still true touches) true (by first_has) (by second_has)
        where
          by : {x : Map} → HasOrNot command before x → FitBoth m.room m.prices new mirror.trusted.area mirror.other.area x
          by {x} (inl same) = subst (λ (s : Map). FitBoth m.room m.prices new mirror.trusted.area mirror.other.area s) (sym same) one
          by {x} (inr same) = subst (λ (s : Map). FitBoth m.room m.prices new mirror.trusted.area mirror.other.area s) (sym same) two

      cuts_both : CutsBoth m areas command old new
      cuts_both =
          subst (λ (a : Area). IsCutBoth m.damage m.contents new a (area_at areas (beside_in areas (active_on areas old))) (on m.contents old a) (applied (on m.contents old a) command)) (sym (named_area mounted_on stands m serves areas old mirror map held))
          (subst (λ (a : Area). IsCutBoth m.damage m.contents new mirror.trusted.area a before (applied before command)) (sym second_area) both)

  -- ---- setting

  module _ (name value : List ℕ) (some : 0 < length value) (most : SpendsAtMost old new (command_units (geometry_of old mirror.trusted.area) + command_units (geometry_of old mirror.other.area))) (units : ℕ) (units_are : units ≡ new.spent - old.spent) where
    within_most : (last : ℕ) → new.spent - old.spent ≤ (rules_of m areas old.banks last).most
    within_most last =
        most_is m serves areas old map mirror.trusted.place mirror.other.place mirror.trusted.area mirror.other.area held.trusted.there held.other.there (at_here mounted_on stands m serves areas old mirror map held) (at_there mounted_on stands m serves areas old mirror map held)
        (differs mounted_on stands m serves areas old mirror map held) (new.spent - old.spent) last (most_spent old new (command_units (geometry_of old mirror.trusted.area) + command_units (geometry_of old mirror.other.area)) most)

    -- for the line as it is written, and the state as it is read
    seen : (last : ℕ) (answer : ℕ → settings_answer) → Changes (rules_of m areas old.banks last) (Put name value) (answer (new.spent - old.spent)) was (state_of m areas (moment new true))
        → ((state_of m areas (moment old true)).is_on ≡ true) × Changes (rules_of m areas old.banks last) (command_of name value) (answer units) (state_of m areas (moment old true)) (state_of m areas (moment new true))
    seen last answer is =
        subst (λ (s : State). (s.is_on ≡ true) × Changes (rules_of m areas old.banks last) (command_of name value) (answer units) s (state_of m areas (moment new true))) (sym old_is) (
          on_before,
          subst (λ (n : ℕ). Changes (rules_of m areas old.banks last) (command_of name value) (answer n) was (state_of m areas (moment new true))) (sym units_are)
              (subst (λ (c : Command). Changes (rules_of m areas old.banks last) c (answer (new.spent - old.spent)) was (state_of m areas (moment new true))) (sym (put_is name value some)) is),
        )

    module _ {T : Type 0} (result : Result T SetFault) (ends : MirrorSets m.damage m.contents m.room m.prices old new mirror.trusted mirror.other name value result) where
      ended : (x : Result T SetFault) → result ≡ x → MirrorSets m.damage m.contents m.room m.prices old new mirror.trusted mirror.other name value x
      ended x is = subst (λ (y : Result T SetFault). MirrorSets m.damage m.contents m.room m.prices old new mirror.trusted mirror.other name value y) is ends

      free_by : (last : ℕ) → IsFew m.room old mirror.trusted.area mirror.other.area before name → (rules_of m areas old.banks last).is_too_many before name ≡ false
      free_by last few =
          few_is m serves areas old map mirror.trusted.place mirror.other.place mirror.trusted.area mirror.other.area held.trusted.there held.other.there (at_here mounted_on stands m serves areas old mirror map held) (at_there mounted_on stands m serves areas old mirror map held)
          (differs mounted_on stands m serves areas old mirror map held) before name last few.trusted_few few.other_few

      room_by : (last : ℕ) → BothHaveRoom m.room old mirror.trusted.area mirror.other.area before name value → is_idle before (Put name value) ≡ false → (rules_of m areas old.banks last).lacks before name value ≡ None
      room_by last has busy =
          room_is m serves areas old map mirror.trusted.place mirror.other.place mirror.trusted.area mirror.other.area held.trusted.there held.other.there (at_here mounted_on stands m serves areas old mirror map held) (at_there mounted_on stands m serves areas old mirror map held)
          (differs mounted_on stands m serves areas old mirror map held) before name value last (has.trusted_room (busy_other before name value busy)) (has.other_room (busy_other before name value busy))

      pub set_done : (x : T) → result ≡ Ok x → EmptyWhereBlank serves m → Touches (mirror.trusted.area ∷ mirror.other.area ∷ []) old new false → on m.damage new mirror.trusted.area ≡ None → on m.damage new mirror.other.area ≡ None
          → FitBoth m.room m.prices new mirror.trusted.area mirror.other.area (on m.contents new mirror.trusted.area) → LineDone m areas (Set name value) (done units) (moment old true) (moment new true)
      set_done x is empties touches one two fits = let end = ended (Ok x) is in
          whole touches (Set name value) (done units) refl refl refl refl refl refl tt (λ shown. sound_then false touches one two) (λ was_fit. done_fits touches fits (end.1.settings.other_has ∙ sym end.1.settings.trusted_has)) (λ was_both. done_both touches one two (end.1.settings.other_has ∙ sym end.1.settings.trusted_has)) units_are tt tt tt tt
          (λ last within.
          let both = seen last (λ n. settings.Done n)
          (carried_out touches (Put name value) (rules_of m areas old.banks last) (read_with false touches empties name value end.1.settings.trusted_has) (λ idle. end.1.same (idle_stored before name value idle)) (λ busy counts. some_spent old new last within (end.1.spends (busy_other before name value busy)) counts)
          (free_by last end.0.few) (room_by last end.0) (within_most last) (end.1.settings.trusted_has ∙ sym (set_after before name value)) (end.1.settings.other_has ∙ sym (set_after before name value))) in
          (λ needs. both.0, both.1))

      pub set_done_read : (x : T) → result ≡ Ok x → EmptyWhereBlank serves m → Touches (mirror.trusted.area ∷ mirror.other.area ∷ []) old new false → is_gone areas new ≡ false
      set_done_read x is empties touches = read_with false touches empties name value (ended (Ok x) is).1.settings.trusted_has

      pub set_many_read : result ≡ Err TooManyNames → Touches (mirror.trusted.area ∷ mirror.other.area ∷ []) old new false → is_gone areas new ≡ false
      set_many_read is touches = read_same false touches (ended (Err TooManyNames) is).1

      pub set_full_read : (need live : ℕ) → result ≡ Err (NoSpace need live) → Touches (mirror.trusted.area ∷ mirror.other.area ∷ []) old new false → is_gone areas new ≡ false
      set_full_read need live is touches = read_same false touches (ended (Err (NoSpace need live)) is).2

      pub set_many : result ≡ Err TooManyNames → Touches (mirror.trusted.area ∷ mirror.other.area ∷ []) old new false → LineDone m areas (Set name value) (Plain (settings.TooMany units)) (moment old true) (moment new true)
      set_many is touches = let end = ended (Err TooManyNames) is in
          whole touches (Set name value) (Plain (settings.TooMany units)) refl refl refl refl refl refl tt (λ shown. subst (λ (d : Device). damage_shown m.damage areas d ≡ None) (sym end.1) shown) (same_fits touches end.1) (same_both touches end.1) units_are tt tt tt tt
          (λ last within.
          let both = seen last (λ n. settings.TooMany n) (
            none_spent old new end.1,
            many_is m serves areas old map mirror.trusted.place mirror.other.place mirror.trusted.area mirror.other.area held.trusted.there held.other.there (at_here mounted_on stands m serves areas old mirror map held) (at_there mounted_on stands m serves areas old mirror map held)
                (differs mounted_on stands m serves areas old mirror map held) before name last end.0,
            unchanged touches end.1,
          ) in
          (λ needs. both.0, both.1))

      pub set_full : (need live : ℕ) → result ≡ Err (NoSpace need live) → Touches (mirror.trusted.area ∷ mirror.other.area ∷ []) old new false → LineDone m areas (Set name value) (Plain (settings.NoSpace units need live)) (moment old true) (moment new true)
      set_full need live is touches = let end = ended (Err (NoSpace need live)) is in
          whole touches (Set name value) (Plain (settings.NoSpace units need live)) refl refl refl refl refl refl tt (λ shown. subst (λ (d : Device). damage_shown m.damage areas d ≡ None) (sym end.2) shown) (same_fits touches end.2) (same_both touches end.2) units_are tt tt tt tt
          (λ last within.
          let both = seen last (λ n. settings.NoSpace n need live) (
            none_spent old new end.2,
            (
              free_by last end.0,
              other_busy before name value end.1.other,
              full_is m serves areas old map mirror.trusted.place mirror.other.place mirror.trusted.area mirror.other.area held.trusted.there held.other.there (at_here mounted_on stands m serves areas old mirror map held) (at_there mounted_on stands m serves areas old mirror map held)
                  (differs mounted_on stands m serves areas old mirror map held) before name value need live last end.1,
            ),
            unchanged touches end.2,
          ) in
          (λ needs. both.0, both.1))

      pub set_lost : result ≡ Err PowerLost → Touches (mirror.trusted.area ∷ mirror.other.area ∷ []) old new true → LineDone m areas (Set name value) (lost units) (moment old true) (moment new true)
      set_lost is touches = let end = ended (Err PowerLost) is in
          let busy = other_busy before name value end.1 in
          broken touches (Set name value) (lost units) refl refl refl refl refl refl tt (λ shown. sound_then true touches end.2.trusted_sound end.2.other_sound) (λ was_fit. cut_fits touches (Put name value) end.2 end.3.0 end.3.1) units_are
          (subst (λ (c : Command). CutsBoth m areas c old new) (sym (put_is name value some)) (cuts_both touches (Put name value) end.2)) tt tt tt
          (λ last within.
          let both = seen last (λ n. settings.Lost n false) (cut_off touches (Put name value) end.2 (rules_of m areas old.banks last) (free_by last end.0.few) (room_by last end.0 busy) busy (within_most last)) in
          (λ needs. both.0, both.1))

      pub set_lost_sound : result ≡ Err PowerLost → (on m.damage new mirror.trusted.area ≡ None) × (on m.damage new mirror.other.area ≡ None)
      set_lost_sound is = let end = ended (Err PowerLost) is in (end.2.trusted_sound, end.2.other_sound)

  -- ---- deleting

  module _ (name : List ℕ) (most : SpendsAtMost old new (command_units (geometry_of old mirror.trusted.area) + command_units (geometry_of old mirror.other.area))) (units : ℕ) (units_are : units ≡ new.spent - old.spent)
      {T : Type 0} (result : Result T Lost) (ends : MirrorDeletes m.damage m.contents m.room m.prices old new mirror.trusted mirror.other name result) where
    delete_within : (last : ℕ) → new.spent - old.spent ≤ (rules_of m areas old.banks last).most
    delete_within last =
        most_is m serves areas old map mirror.trusted.place mirror.other.place mirror.trusted.area mirror.other.area held.trusted.there held.other.there (at_here mounted_on stands m serves areas old mirror map held) (at_there mounted_on stands m serves areas old mirror map held)
        (differs mounted_on stands m serves areas old mirror map held) (new.spent - old.spent) last (most_spent old new (command_units (geometry_of old mirror.trusted.area) + command_units (geometry_of old mirror.other.area)) most)

    delete_ended : (x : Result T Lost) → result ≡ x → MirrorDeletes m.damage m.contents m.room m.prices old new mirror.trusted mirror.other name x
    delete_ended x is = subst (λ (y : Result T Lost). MirrorDeletes m.damage m.contents m.room m.prices old new mirror.trusted mirror.other name y) is ends

    delete_seen : (last : ℕ) (answer : ℕ → settings_answer) → Changes (rules_of m areas old.banks last) (Delete name) (answer (new.spent - old.spent)) was (state_of m areas (moment new true))
        → ((state_of m areas (moment old true)).is_on ≡ true) × Changes (rules_of m areas old.banks last) (Delete name) (answer units) (state_of m areas (moment old true)) (state_of m areas (moment new true))
    delete_seen last answer is =
        subst (λ (s : State). (s.is_on ≡ true) × Changes (rules_of m areas old.banks last) (Delete name) (answer units) s (state_of m areas (moment new true))) (sym old_is)
        (on_before, subst (λ (n : ℕ). Changes (rules_of m areas old.banks last) (Delete name) (answer n) was (state_of m areas (moment new true))) (sym units_are) is)

    pub delete_done : (x : T) → result ≡ Ok x → EmptyWhereBlank serves m → StaysWritten old new mirror.trusted.area → Touches (mirror.trusted.area ∷ mirror.other.area ∷ []) old new false → on m.damage new mirror.trusted.area ≡ None → on m.damage new mirror.other.area ≡ None
        → FitBoth m.room m.prices new mirror.trusted.area mirror.other.area (on m.contents new mirror.trusted.area) → LineDone m areas (Del name) (done units) (moment old true) (moment new true)
    delete_done x is empties written touches one two fits = let end = delete_ended (Ok x) is in
        whole touches (Del name) (done units) refl refl refl refl refl refl tt (λ shown. sound_then false touches one two) (λ was_fit. done_fits touches fits (end.settings.other_has ∙ sym end.settings.trusted_has)) (λ was_both. done_both touches one two (end.settings.other_has ∙ sym end.settings.trusted_has)) units_are tt tt tt tt
        (λ last within.
        let both = delete_seen last (λ n. settings.Done n)
        (carried_out touches (Delete name) (rules_of m areas old.banks last) (read_without false touches empties name written end.absent) (λ idle. end.absent (idle_absent before name idle)) (λ busy counts. some_spent old new last within (end.spends (busy_present before name busy)) counts)
        tt (λ busy. tt) (delete_within last) (end.settings.trusted_has ∙ sym (delete_after before name)) (end.settings.other_has ∙ sym (delete_after before name))) in
        (λ needs. both.0, both.1))

    pub delete_done_read : (x : T) → result ≡ Ok x → EmptyWhereBlank serves m → StaysWritten old new mirror.trusted.area → Touches (mirror.trusted.area ∷ mirror.other.area ∷ []) old new false → is_gone areas new ≡ false
    delete_done_read x is empties written touches = read_without false touches empties name written (delete_ended (Ok x) is).absent

    pub delete_lost : (fault : Lost) → result ≡ Err fault → Touches (mirror.trusted.area ∷ mirror.other.area ∷ []) old new true → LineDone m areas (Del name) (lost units) (moment old true) (moment new true)
    delete_lost fault is touches = let end = delete_ended (Err fault) is in
        let busy = present_busy before name end.0 in
        broken touches (Del name) (lost units) refl refl refl refl refl refl tt (λ shown. sound_then true touches end.1.trusted_sound end.1.other_sound) (λ was_fit. cut_fits touches (Delete name) end.1 end.2.0 end.2.1) units_are (cuts_both touches (Delete name) end.1) tt tt tt
        (λ last within.
        let both = delete_seen last (λ n. settings.Lost n false) (cut_off touches (Delete name) end.1 (rules_of m areas old.banks last) tt tt busy (delete_within last)) in
        (λ needs. both.0, both.1))

    pub delete_lost_sound : (fault : Lost) → result ≡ Err fault → (on m.damage new mirror.trusted.area ≡ None) × (on m.damage new mirror.other.area ≡ None)
    delete_lost_sound fault is = let end = delete_ended (Err fault) is in (end.1.trusted_sound, end.1.other_sound)
