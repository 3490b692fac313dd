-- Carrying out commands, one after the other.
use Rattle.std.proofs.Common.{◌≡◌, ◌==◌, ℕ, Bool, true, false, true≢false, cond, List, [], ◌∷◌, ◌++◌, length, Option, Some, None, Result, Ok, Err, inl, inr, refl, sym, ap, subst, ◌∙◌, arith}
use Rattle.std.specs.Prelude.{fold, is_none, is_err}
use Rattle.std.specs.Option.{option_map_or}
use Rattle.std.specs.Str.{bytes_eq}
use Rattle.std.specs.FinMap.{get}
use Rattle.std.proofs.lemmas.Bool.{cases_Bool, cond-true, cond-false}
use Rattle.std.proofs.lemmas.Slice.Eq.{bytes_eq-Decides}
use Rattle.flash_sim.specs.Device.{Device}
use Rattle.flash_sim.specs.declared.flash.Loss.{Loss}
use Rattle.flash_sim.specs.declared.flash.PowerLost.{PowerLost as Lost}
use Rattle.backend_api.specs.Commands.{Command, Put, Del, applied, all_applied, StopsAt}
use Rattle.backend_api.specs.Ends.{SpendsSome, Sets, SetEnds, FindsNoSpace, DeleteEnds, set_lost}
use Rattle.backend_api.specs.Map.{Map, IsStored}
use Rattle.backend_api.specs.Room.{Room}
use Rattle.backend_api.specs.declared.backend.SetFault.{SetFault}
use Rattle.backend_api.specs.declared.backend.SetFault.TheVariants.{NoSpace as SetNoSpace, TooManyNames as SetTooMany, PowerLost as SetLost}
use Rattle.backend_api.proofs.MapLemmas.{insert-stored, remove-absent, get-insert_same}
use Rattle.settings_core.specs.declared.writing.SaveFault.{SaveFault}
use Rattle.settings_core.specs.declared.writing.SaveFault.TheVariants.{Off, NoSpace, TooManyNames, PowerLost}
use Rattle.settings_core.specs.Carrying.{command_of, is_idle, due, is_too_many, AreFree, SplitsAt, Carries, CarryEnds, LacksRoom, save_lost, fault_of, lost_as_save}

-- ---- commands that change nothing

stored_value : (value : List ℕ) (o : Option (List ℕ)) → option_map_or (bytes_eq value) o false ≡ true → o ≡ Some value
stored_value value None is = absurd (cc)
stored_value value (Some held) is = ap Some (sym ((bytes_eq-Decides value held).0 is))

other_value : (value : List ℕ) (o : Option (List ℕ)) → option_map_or (bytes_eq value) o false ≡ false → ¬ (o ≡ Some value)
other_value value o isnt = λ is. let yes : option_map_or (bytes_eq value) o false ≡ true = ap (λ (h : Option (List ℕ)). option_map_or (bytes_eq value) h false) is ∙ (bytes_eq-Decides value value).1 refl in absurd (cc)

no_value : (o : Option (List ℕ)) → is_none o ≡ true → o ≡ None
no_value None is = refl
no_value (Some value) is = absurd (cc)

some_value : (o : Option (List ℕ)) → is_none o ≡ false → ¬ (o ≡ None)
some_value None is = absurd (cc)
some_value (Some value) is = λ none. cc

pub idle_same : (settings : Map) (c : Command) → is_idle settings c ≡ true → applied settings c ≡ settings
idle_same settings (Put name value) is = insert-stored settings name value (stored_value value (get settings name) is)
idle_same settings (Del name) is = remove-absent settings name (no_value (get settings name) is)

-- ---- the commands that are due

-- those that are not due change nothing
pub due_same : (settings : Map) (xs : List Command) → all_applied settings (due settings xs) ≡ all_applied settings xs
unfolding all_applied due
due_same settings [] = refl
due_same settings (c ∷ xs) = at (is_idle settings c) refl (due_same settings xs) (due_same (applied settings c) xs)
  where
    at : (b : Bool) → is_idle settings c ≡ b → fold applied settings (due settings xs) ≡ fold applied settings xs → fold applied (applied settings c) (due (applied settings c) xs) ≡ fold applied (applied settings c) xs
        → fold applied settings (cond b (due settings xs) (c ∷ due (applied settings c) xs)) ≡ fold applied (applied settings c) xs
    at true is idle rest = idle ∙ ap (λ m. fold applied m xs) (sym (idle_same settings c is))
    at false is idle rest = rest

pub due-append : (settings : Map) (xs ys : List Command) → due settings (xs ++ ys) ≡ due settings xs ++ due (all_applied settings xs) ys
unfolding all_applied due
due-append settings [] ys = refl
due-append settings (c ∷ xs) ys = at (is_idle settings c) refl (due-append settings xs ys) (due-append (applied settings c) xs ys)
  where
    at : (b : Bool) → is_idle settings c ≡ b → due settings (xs ++ ys) ≡ due settings xs ++ due (fold applied settings xs) ys → due (applied settings c) (xs ++ ys) ≡ due (applied settings c) xs ++ due (fold applied (applied settings c) xs) ys
        → cond b (due settings (xs ++ ys)) (c ∷ due (applied settings c) (xs ++ ys)) ≡ cond b (due settings xs) (c ∷ due (applied settings c) xs) ++ due (fold applied (applied settings c) xs) ys
    at true is idle rest = idle ∙ ap (λ m. due settings xs ++ due m ys) (ap (λ m. fold applied m xs) (sym (idle_same settings c is)))
    at false is idle rest = ap (λ l. c ∷ l) rest

pub due_none : (settings : Map) (c : Command) → is_idle settings c ≡ true → due settings (c ∷ []) ≡ []
unfolding due
due_none settings c is = cond-true _ [] (c ∷ []) is

pub due_one : (settings : Map) (c : Command) → is_idle settings c ≡ false → due settings (c ∷ []) ≡ c ∷ []
unfolding due
due_one settings c isnt = cond-false _ [] (c ∷ []) isnt

-- a put that leaves the settings as they are is not due
pub none_due : (settings : Map) (name value : List ℕ) → settings ≡ all_applied settings (Put name value ∷ []) → due settings (Put name value ∷ []) ≡ []
unfolding all_applied
none_due settings name value same =
    due_none settings (Put name value)
    (ap (λ (h : Option (List ℕ)). option_map_or (bytes_eq value) h false) (ap (λ (m : Map). get m name) same ∙ get-insert_same settings name value)
    ∙ (bytes_eq-Decides value value).1 refl)

-- ---- one command

module _ (room : Room) (sectors : ℕ) (chance : Loss → Bool) (tears : Command → ℕ → Map → Map → Type 0) (old new : Device) (before after : Map) where
  abbrev at_one : (c : Command) → is_idle before c ≡ false → SplitsAt (due before (c ∷ [])) 0
  at_one c isnt = record { done = []; at = c; left = []; is = due_one before c isnt; count_is = refl }

  carries_none : (c : Command) → is_idle before c ≡ true → after ≡ before → new ≡ old → Carries room old new before after (due before (c ∷ []))
  unfolding all_applied AreFree
  carries_none c is settings same =
      subst (λ cs. Carries room old new before after cs) (sym (due_none before c is)) (record { settings = settings; free = tt; none = λ e. same; some = λ no. absurd (no refl) })

  carries_one : (c : Command) → is_idle before c ≡ false → is_too_many room before c ≡ false → after ≡ applied before c → SpendsSome old new → Carries room old new before after (due before (c ∷ []))
  unfolding all_applied AreFree
  carries_one c isnt free settings spends =
      subst (λ cs. Carries room old new before after cs) (sym (due_one before c isnt)) (record { settings = settings; free = (free, tt); none = λ e. absurd (cc); some = λ no. spends })

  carries_nothing : after ≡ before → new ≡ old → Carries room old new before after []
  unfolding all_applied AreFree
  carries_nothing settings same = record { settings = settings; free = tt; none = λ e. same; some = λ no. absurd (no refl) }

  -- a command that changes nothing
  pub idle_ends : {T : Type 0} (x : T) (c : Command) → is_idle before c ≡ true → (new ≡ old → after ≡ before) → new ≡ old → CarryEnds true room sectors chance tears old new before after (due before (c ∷ [])) 0 (Ok x)
  idle_ends x c is kept same = (refl, sym (ap length (due_none before c is)), carries_none c is (kept same) same)

  -- a set of another value, by how the backend's ends
  pub set_done : {T : Type 0} (x : T) (name value : List ℕ) → is_idle before (Put name value) ≡ false → Sets room old new before after name value
      → CarryEnds true room sectors chance tears old new before after (due before (Put name value ∷ [])) 1 (Ok x)
  set_done x name value isnt ends =
      (refl, sym (ap length (due_one before (Put name value) isnt)), carries_one (Put name value) isnt ends.free ends.settings (ends.spends (other_value value (get before name) isnt)))

  pub set_refused : (T : Type 0) (name value : List ℕ) (fault : SetFault) → is_idle before (Put name value) ≡ false → SetEnds {T = Unit {0}} room sectors old new before after name value (Err fault)
      → (old.is_on ≡ true → set_lost {T = Unit {0}} (Err fault) ≡ true → StopsAt chance (tears (Put name value)) (Put name value) new before after) → (new ≡ old → after ≡ before)
      → CarryEnds {T = T} true room sectors chance tears old new before after (due before (Put name value ∷ [])) 0 (Err (fault_of fault))
  unfolding all_applied AreFree
  set_refused T name value (SetNoSpace need live) isnt ends cut kept = (
    refl,
    record {
      split = at_one (Put name value) isnt;
      settings = ends.settings;
      free = (ends.free, tt);
      lacks = subst (λ m. LacksRoom room sectors m (Put name value) need live) (sym ends.settings) (ends.full, ends.needs, ends.lives);
    },
  )
  set_refused T name value SetTooMany isnt ends cut kept =
      (refl, record { split = at_one (Put name value) isnt; carried = carries_nothing (kept ends.1) ends.1; too_many = ap (λ (m : Map). room.too_many m name) (kept ends.1) ∙ ends.0 })
  set_refused T name value SetLost isnt ends cut kept = (refl, record { split = at_one (Put name value) isnt; free = (ends.0, tt); stops = λ on. cut on refl })

  -- a set of any value
  pub set_ends : {T : Type 0} (x : T) (name value : List ℕ) → (new ≡ old → after ≡ before) → Sets room old new before after name value
      → (count : ℕ) × CarryEnds true room sectors chance tears old new before after (due before (Put name value ∷ [])) count (Ok x)
  set_ends x name value kept ends = elim (cases_Bool (is_idle before (Put name value))) [
    | inl is ↦ (0, idle_ends x (Put name value) is kept (ends.same (stored_value value (get before name) is)))
    | inr isnt ↦ (1, set_done x name value isnt ends)
  ]

  -- a value that is there already is not refused for want of room, and no power is lost
  not_idle : (name value : List ℕ) → ¬ IsStored before name value → is_idle before (Put name value) ≡ false
  not_idle name value other = elim (cases_Bool (is_idle before (Put name value))) [ inl is ↦ absurd (other (stored_value value (get before name) is)) | inr isnt ↦ isnt ]

  pub set_full : (T : Type 0) (name value : List ℕ) (need live : ℕ) → FindsNoSpace room sectors before after name value need live → (new ≡ old → after ≡ before)
      → (count : ℕ) × CarryEnds {T = T} true room sectors chance tears old new before after (due before (Put name value ∷ [])) count (Err (NoSpace need live))
  set_full T name value need live ends kept = (0, set_refused T name value (SetNoSpace need live) (not_idle name value ends.other) ends (λ on lost. absurd (cc)) kept)

  pub set_cut : (T : Type 0) (name value : List ℕ) → SetEnds {T = Unit {0}} room sectors old new before after name value (Err SetLost)
      → (old.is_on ≡ true → StopsAt chance (tears (Put name value)) (Put name value) new before after) → (new ≡ old → after ≡ before)
      → (count : ℕ) × CarryEnds {T = T} true room sectors chance tears old new before after (due before (Put name value ∷ [])) count (Err PowerLost)
  set_cut T name value ends cut kept = (0, set_refused T name value SetLost (not_idle name value ends.1) ends (λ on lost. cut on) kept)

  -- a delete
  pub delete_ends : (name : List ℕ) (result : Result (Unit {0}) Lost) → DeleteEnds old new before after name result
      → (old.is_on ≡ true → is_err result ≡ true → StopsAt chance (tears (Del name)) (Del name) new before after)
      → (count : ℕ) × CarryEnds true room sectors chance tears old new before after (due before (Del name ∷ [])) count (lost_as_save result)
  unfolding all_applied AreFree
  delete_ends name (Ok x) ends cut = elim (cases_Bool (is_idle before (Del name))) [
    | inl is ↦ (0, (refl, sym (ap length (due_none before (Del name) is)), carries_none (Del name) is (ends.settings ∙ idle_same before (Del name) is) (ends.absent (no_value (get before name) is))))
    | inr isnt ↦ (1, (refl, sym (ap length (due_one before (Del name) isnt)), carries_one (Del name) isnt refl ends.settings (ends.spends (some_value (get before name) isnt))))
  ]
  delete_ends name (Err lost) ends cut =
      let isnt : is_idle before (Del name) ≡ false = elim (cases_Bool (is_idle before (Del name))) [ inl is ↦ absurd (ends (no_value (get before name) is)) | inr isnt ↦ isnt ] in
      (0, (refl, record { split = at_one (Del name) isnt; free = (refl, tt); stops = λ on. cut on refl }))

-- the command that a name and a value stand for
pub command_some : (name value : List ℕ) → (length value == 0) ≡ false → command_of name value ≡ Put name value
command_some name [] some = absurd (true≢false some)
command_some name (b ∷ bytes) some = refl

pub command_del : (name value : List ℕ) → length value ≡ 0 → command_of name value ≡ Del name
command_del name [] none = refl
command_del name (b ∷ bytes) none = absurd (omega arith)

pub fault_lost : (T U : Type 0) (fault : SetFault) → save_lost {T = T} (Err (fault_of fault)) ≡ set_lost {T = U} (Err fault)
fault_lost T U (SetNoSpace need live) = refl
fault_lost T U SetTooMany = refl
fault_lost T U SetLost = refl

-- a fault says the same whatever the call would have answered
pub same_fault : (T U : Type 0) (up : Bool) (room : Room) (sectors : ℕ) (chance : Loss → Bool) (tears : Command → ℕ → Map → Map → Type 0) (old new : Device) (before after : Map) (commands : List Command) (count : ℕ) (fault : SaveFault)
    → CarryEnds {T = T} up room sectors chance tears old new before after commands count (Err fault) → CarryEnds {T = U} up room sectors chance tears old new before after commands count (Err fault)
same_fault T U up room sectors chance tears old new before after commands count Off ends = ends
same_fault T U up room sectors chance tears old new before after commands count (NoSpace need live) ends = ends
same_fault T U up room sectors chance tears old new before after commands count TooManyNames ends = ends
same_fault T U up room sectors chance tears old new before after commands count PowerLost ends = ends
