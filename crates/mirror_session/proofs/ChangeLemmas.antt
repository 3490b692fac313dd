-- One command on both areas of a mirror, as a line.
use Rattle.std.proofs.Common.{◌≡◌, ◌≢◌, ◌⊎◌, inl, inr, ℕ, ◌+◌, ◌-◌, ◌^◌, ◌<◌, ◌≤◌, ◌||◌, Bool, true, false, cond, List, [], ◌∷◌, length, Option, Some, None, refl, sym, ap, subst, ◌∙◌, arith}
use Rattle.std.specs.Prelude.{is_none, min, max, nat_lt}
use Rattle.std.specs.FinMap.{get, insert, remove}
use Rattle.std.specs.List.{slice_get}
use Rattle.std.specs.Option.{option_map_or, option_or}
use Rattle.std.specs.Str.{bytes_eq}
use Rattle.std.proofs.lemmas.Bool.{cases_Bool, cases_lt, cond-false, cond-true, false≢true}
use Rattle.std.proofs.lemmas.Bool.Decides.{nat_tests}
use Rattle.std.proofs.lemmas.Slice.Eq.{bytes_eq-Decides}
use Rattle.flash_sim.specs.Device.{Device}
use Rattle.flash_map.specs.declared.area.Area.{Area}
use Rattle.flash_map.specs.declared.area.Geometry.{Geometry}
use Rattle.flash_map.specs.Area.{geometry_of, value_limit}
use Rattle.flash_map.specs.Spending.{SpendsAtMost}
use Rattle.backend_api.specs.Commands.{all_applied}
use Rattle.backend_api.specs.Commands.Command.{Put, Del as Delete}
use Rattle.backend_api.specs.Ends.{SpendsSome}
use Rattle.backend_api.specs.Map.{Map, IsStored, IsAbsent}
use Rattle.backend_api.specs.Room.{command_units}
use Rattle.backend_api.proofs.MapLemmas.{insert-stored, remove-absent}
use Rattle.migrator.specs.Areas.{is_store_at}
use Rattle.mirror.specs.Mirrored.{FindsNoRoom, IsFull}
use Rattle.mirror.specs.Room.{IsTightOn, mirror_room, too_many_on}
use Rattle.mirror.specs.Trusted.{IsMirrorMap}
use Rattle.settings_core.specs.Carrying.{command_of, is_idle}
use Rattle.session_table.specs.Bench.{area_at, geometry_in}
use Rattle.session.proofs.ActiveAreas.{area_there}
use Rattle.mirror_session.specs.Bench.{Meanings, is_too_many_at, lacking, lacking_at, lower_place, higher_place, most_at, rules_of}
use Rattle.mirror_session.specs.State.{State}
use Rattle.mirror_session.specs.Step.{changing}
use Rattle.mirror_session.proofs.PlaceLemmas.{in_order}
use Rattle.mirror_session.proofs.PrefixLemmas.{none_applied, one_applied}

-- ---- commands that change nothing

none_false : {A : Type 0} → false ≡ true → A
none_false e = absurd (false≢true e)

pub put_is : (name value : List ℕ) → 0 < length value → command_of name value ≡ Put name value
put_is name [] some = absurd (omega (arith, some))
put_is name (b ∷ bytes) some = refl

pub delete_is : (name value : List ℕ) → length value ≡ 0 → command_of name value ≡ Delete name
delete_is name [] none = refl
delete_is name (b ∷ bytes) none = absurd (omega (arith, none))

stored_by : (value : List ℕ) (o : Option (List ℕ)) → option_map_or (bytes_eq value) o false ≡ true → o ≡ Some value
stored_by value None is = none_false is
stored_by value (Some x) is = ap (λ (v : List ℕ). Some v) (sym ((bytes_eq-Decides value x).0 is))

pub idle_stored : (m : Map) (name value : List ℕ) → is_idle m (Put name value) ≡ true → IsStored m name value
idle_stored m name value is = stored_by value (get m name) is

pub stored_idle : (m : Map) (name value : List ℕ) → IsStored m name value → is_idle m (Put name value) ≡ true
stored_idle m name value is = ap (λ (o : Option (List ℕ)). option_map_or (bytes_eq value) o false) is ∙ same
  where
    same : bytes_eq value value ≡ true
    same = (bytes_eq-Decides value value).1 refl

pub busy_other : (m : Map) (name value : List ℕ) → is_idle m (Put name value) ≡ false → ¬ IsStored m name value
busy_other m name value busy is = none_false (sym busy ∙ stored_idle m name value is)

pub other_busy : (m : Map) (name value : List ℕ) → ¬ IsStored m name value → is_idle m (Put name value) ≡ false
other_busy m name value other = elim (cases_Bool (is_idle m (Put name value))) [
  | inl idle ↦ absurd (other (idle_stored m name value idle))
  | inr busy ↦ busy
]

absent_by : (o : Option (List ℕ)) → is_none o ≡ true → o ≡ None
absent_by None is = refl
absent_by (Some x) is = none_false is

pub idle_absent : (m : Map) (name : List ℕ) → is_idle m (Delete name) ≡ true → IsAbsent m name
idle_absent m name is = absent_by (get m name) is

pub absent_idle : (m : Map) (name : List ℕ) → IsAbsent m name → is_idle m (Delete name) ≡ true
absent_idle m name is = ap (λ (o : Option (List ℕ)). is_none o) is

pub busy_present : (m : Map) (name : List ℕ) → is_idle m (Delete name) ≡ false → ¬ IsAbsent m name
busy_present m name busy is = none_false (sym busy ∙ absent_idle m name is)

pub present_busy : (m : Map) (name : List ℕ) → ¬ IsAbsent m name → is_idle m (Delete name) ≡ false
present_busy m name present = elim (cases_Bool (is_idle m (Delete name))) [
  | inl idle ↦ absurd (present (idle_absent m name idle))
  | inr busy ↦ busy
]

pub set_after : (m : Map) (name value : List ℕ) → all_applied m (changing m (Put name value)) ≡ insert m name value
set_after m name value = elim (cases_Bool (is_idle m (Put name value))) [
  | inl idle ↦
      ap (all_applied m) (cond-true (is_idle m (Put name value)) [] (Put name value ∷ []) idle) ∙ none_applied m ∙ sym (insert-stored m name value (idle_stored m name value idle))
  | inr busy ↦ ap (all_applied m) (cond-false (is_idle m (Put name value)) [] (Put name value ∷ []) busy) ∙ one_applied m (Put name value)
]

pub delete_after : (m : Map) (name : List ℕ) → all_applied m (changing m (Delete name)) ≡ remove m name
delete_after m name = elim (cases_Bool (is_idle m (Delete name))) [
  | inl idle ↦
      ap (all_applied m) (cond-true (is_idle m (Delete name)) [] (Delete name ∷ []) idle) ∙ none_applied m ∙ sym (remove-absent m name (idle_absent m name idle))
  | inr busy ↦ ap (all_applied m) (cond-false (is_idle m (Delete name)) [] (Delete name ∷ []) busy) ∙ one_applied m (Delete name)
]

-- ---- two places in order

pub order_cases : (P : ℕ → ℕ → Type 0) (a b : ℕ) → (a < b → P a b) → (b ≤ a → P b a) → P (min a b) (max a b)
order_cases P a b up down = elim (cases_lt a b) [
  | inl below ↦
      let low : a ≡ min a b = omega (arith, below) in
      let high : b ≡ max a b = omega (arith, below) in
      subst (λ (x : ℕ). P x (max a b)) low (subst (λ (y : ℕ). P a y) high (up below))
  | inr past ↦
      let low : b ≡ min a b = omega (arith, past) in
      let high : a ≡ max a b = omega (arith, past) in
      subst (λ (x : ℕ). P x (max a b)) low (subst (λ (y : ℕ). P b y) high (down past))
]

lt_true : (x y : ℕ) → x < y → nat_lt x y ≡ true
lt_true x y below = grind (arith, nat_tests)

not_lt : (x y : ℕ) → ¬ (x < y) → nat_lt x y ≡ false
not_lt x y above = grind (arith, nat_tests)

at_least_false : (x y : ℕ) → y ≤ x → nat_lt x y ≡ false
at_least_false x y above = grind (arith, nat_tests)

or_false : (a b : Bool) → a ≡ false → b ≡ false → (a || b) ≡ false
or_false a b one two = ap (λ (x : Bool). x || b) one ∙ two

or_first : (a b : Bool) → a ≡ true → (a || b) ≡ true
or_first a b one = ap (λ (x : Bool). x || b) one

or_second : (a b : Bool) → b ≡ true → (a || b) ≡ true
or_second true b two = refl
or_second false b two = two

-- ---- units

pub none_spent : (old new : Device) → new ≡ old → new.spent - old.spent ≡ 0
none_spent old new same = let e : new.spent ≡ old.spent = ap (λ (d : Device). d.spent) same in omega arith

pub some_spent : (old new : Device) (last : ℕ) → new.spent ≤ last → SpendsSome old new → last < 2 ^ 64 - 1 → 0 < new.spent - old.spent
some_spent old new last within spends below = let some = spends.1 in let spent = spends.2 in omega (arith, within, below)

pub most_spent : (old new : Device) (most : ℕ) → SpendsAtMost old new most → new.spent - old.spent ≤ most
most_spent old new most spends = let few = spends.1 in let spent = spends.2 in omega arith

-- ---- states

abbrev pub made : Map → Map → ℕ → Bool → Bool → State
made settings other named gone power = record { settings = settings; other = other; named = named; gone = gone; is_on = power; is_whole = true }

pub alike : (s s' o o' : Map) (n n' : ℕ) (gone p p' : Bool) → s ≡ s' → o ≡ o' → n ≡ n' → p ≡ p' → made s o n gone p ≡ made s' o' n' gone p'
alike s s' o o' n n' gone p p' es eo en ep =
    ap (λ (x : Map). made x o n gone p) es ∙ ap (λ (x : Map). made s' x n gone p) eo ∙ ap (λ (x : ℕ). made s' o' x gone p) en ∙ ap (λ (x : Bool). made s' o' n' gone x) ep

-- ---- the numbers of two areas as the table has them

module _ (m : Meanings) (serves : Area → Geometry → Type 0) (areas : List Area) (old : Device) (map : IsMirrorMap serves areas old) (here there : ℕ) (area other : Area) (is_here : slice_get areas here ≡ Some area) (is_there : slice_get areas there ≡ Some other)
    (here_stores : is_store_at areas here ≡ true) (there_stores : is_store_at areas there ≡ true) (apart : here ≢ there) where
  at_here : area_at areas here ≡ area
  at_here = area_there areas here area is_here

  at_there : area_at areas there ≡ other
  at_there = area_there areas there other is_there

  -- said of both places in the order of the map
  ordered : (P : ℕ → ℕ → Type 0) → (here < there → P here there) → (there ≤ here → P there here) → P (lower_place areas) (higher_place areas)
  ordered P up down = in_order serves areas old map P here there here_stores there_stores apart (order_cases P here there up down)

  pub most_is : (n last : ℕ) → n ≤ command_units (geometry_of old area) + command_units (geometry_of old other) → n ≤ (rules_of m areas old.banks last).most
  most_is n last few = ordered (λ x y. n ≤ most_at areas old.banks x + most_at areas old.banks y) (λ below. both) (λ past. turned)
    where
      both : n ≤ most_at areas old.banks here + most_at areas old.banks there
      both =
          subst (λ (a : Area). n ≤ command_units (geometry_in old.banks a) + most_at areas old.banks there) (sym at_here)
          (subst (λ (a : Area). n ≤ command_units (geometry_in old.banks area) + command_units (geometry_in old.banks a)) (sym at_there) few)

      turned : n ≤ most_at areas old.banks there + most_at areas old.banks here
      turned = omega (arith, both)

  module _ (settings : Map) (name : List ℕ) where
    many_here : {v : Bool} → too_many_on m.room old area settings name ≡ v → is_too_many_at m areas old.banks settings name here ≡ v
    many_here {v} is = ap (λ (a : Area). (m.room a (geometry_in old.banks a)).too_many settings name) at_here ∙ is

    many_there : {v : Bool} → too_many_on m.room old other settings name ≡ v → is_too_many_at m areas old.banks settings name there ≡ v
    many_there {v} is = ap (λ (a : Area). (m.room a (geometry_in old.banks a)).too_many settings name) at_there ∙ is

    pub few_is : (last : ℕ) → too_many_on m.room old area settings name ≡ false → too_many_on m.room old other settings name ≡ false → (rules_of m areas old.banks last).is_too_many settings name ≡ false
    few_is last one two =
        ordered (λ x y. (is_too_many_at m areas old.banks settings name x || is_too_many_at m areas old.banks settings name y) ≡ false)
        (λ below. or_false (is_too_many_at m areas old.banks settings name here) (is_too_many_at m areas old.banks settings name there) (many_here one) (many_there two))
        (λ past. or_false (is_too_many_at m areas old.banks settings name there) (is_too_many_at m areas old.banks settings name here) (many_there two) (many_here one))

    pub many_is : (last : ℕ) → (too_many_on m.room old area settings name ≡ true) ⊎ (too_many_on m.room old other settings name ≡ true) → (rules_of m areas old.banks last).is_too_many settings name ≡ true
    many_is last (inl one) =
        ordered (λ x y. (is_too_many_at m areas old.banks settings name x || is_too_many_at m areas old.banks settings name y) ≡ true)
        (λ below. or_first (is_too_many_at m areas old.banks settings name here) (is_too_many_at m areas old.banks settings name there) (many_here one))
        (λ past. or_second (is_too_many_at m areas old.banks settings name there) (is_too_many_at m areas old.banks settings name here) (many_here one))
    many_is last (inr two) =
        ordered (λ x y. (is_too_many_at m areas old.banks settings name x || is_too_many_at m areas old.banks settings name y) ≡ true)
        (λ below. or_second (is_too_many_at m areas old.banks settings name here) (is_too_many_at m areas old.banks settings name there) (many_there two))
        (λ past. or_first (is_too_many_at m areas old.banks settings name there) (is_too_many_at m areas old.banks settings name here) (many_there two))

    module _ (value : List ℕ) where
      -- what an area lacks
      abbrev lack : Area → Option (ℕ × ℕ)
      lack a = lacking (m.room a (geometry_in old.banks a)) a.sectors (value_limit a) settings name value

      abbrev need_on : Area → ℕ
      need_on a = (m.room a (geometry_in old.banks a)).need settings name value

      abbrev cost_on : Area → ℕ
      cost_on a = (m.room a (geometry_in old.banks a)).cost settings

      lack_some : (a : Area) → IsTightOn m.room old a settings name value → lack a ≡ Some (need_on a, cost_on a)
      lack_some a tight =
          cond-true (nat_lt (mirror_room (m.room a (geometry_in old.banks a)) a.sectors (value_limit a)) (cost_on a + need_on a)) (Some (need_on a, cost_on a)) None
          (lt_true (mirror_room (m.room a (geometry_in old.banks a)) a.sectors (value_limit a)) (cost_on a + need_on a) tight)

      lack_none : (a : Area) → ¬ IsTightOn m.room old a settings name value → lack a ≡ None
      lack_none a loose =
          cond-false (nat_lt (mirror_room (m.room a (geometry_in old.banks a)) a.sectors (value_limit a)) (cost_on a + need_on a)) (Some (need_on a, cost_on a)) None
          (not_lt (mirror_room (m.room a (geometry_in old.banks a)) a.sectors (value_limit a)) (cost_on a + need_on a) loose)

      lacks_here : {o : Option (ℕ × ℕ)} → lack area ≡ o → lacking_at m areas old.banks settings name value here ≡ o
      lacks_here {o} is = ap lack at_here ∙ is

      lacks_there : {o : Option (ℕ × ℕ)} → lack other ≡ o → lacking_at m areas old.banks settings name value there ≡ o
      lacks_there {o} is = ap lack at_there ∙ is

      pub room_is : (last : ℕ) → ¬ IsTightOn m.room old area settings name value → ¬ IsTightOn m.room old other settings name value → (rules_of m areas old.banks last).lacks settings name value ≡ None
      room_is last one two =
          ordered (λ x y. option_or (lacking_at m areas old.banks settings name value x) (lacking_at m areas old.banks settings name value y) ≡ None)
          (λ below. ap (λ (o : Option (ℕ × ℕ)). option_or o (lacking_at m areas old.banks settings name value there)) (lacks_here (lack_none area one)) ∙ lacks_there (lack_none other two))
          (λ past. ap (λ (o : Option (ℕ × ℕ)). option_or o (lacking_at m areas old.banks settings name value here)) (lacks_there (lack_none other two)) ∙ lacks_here (lack_none area one))

      -- of two areas the first one, or the second one alone
      first_lacks : (one two : Area) (need live : ℕ) → IsFull m.room old one settings name value need live ⊎ ((¬ IsTightOn m.room old one settings name value) × IsFull m.room old two settings name value need live)
          → option_or (lack one) (lack two) ≡ Some (need, live)
      first_lacks one two need live (inl full) =
          ap (λ (o : Option (ℕ × ℕ)). option_or o (lack two)) (lack_some one full.tight) ∙ ap (λ (n : ℕ). Some (n, cost_on one)) (sym full.needs) ∙ ap (λ (n : ℕ). Some (need, n)) (sym full.lives)
      first_lacks one two need live (inr both) =
          ap (λ (o : Option (ℕ × ℕ)). option_or o (lack two)) (lack_none one both.0) ∙ lack_some two both.1.tight ∙ ap (λ (n : ℕ). Some (n, cost_on two)) (sym both.1.needs) ∙ ap (λ (n : ℕ). Some (need, n)) (sym both.1.lives)

      pub full_is : (need live last : ℕ) → FindsNoRoom m.room old (cond (nat_lt here there) area other) (cond (nat_lt here there) other area) settings name value need live
          → (rules_of m areas old.banks last).lacks settings name value ≡ Some (need, live)
      full_is need live last finds =
          ordered (λ x y. option_or (lacking_at m areas old.banks settings name value x) (lacking_at m areas old.banks settings name value y) ≡ Some (need, live))
          (λ below.
          let full = subst (λ (b : Bool). FindsNoRoom m.room old (cond b area other) (cond b other area) settings name value need live) (lt_true here there below) finds in
          ap (λ (o : Option (ℕ × ℕ)). option_or o (lacking_at m areas old.banks settings name value there)) (lacks_here refl) ∙ ap (λ (o : Option (ℕ × ℕ)). option_or (lack area) o) (lacks_there refl) ∙ first_lacks area other need live full.full)
          (λ past.
          let full = subst (λ (b : Bool). FindsNoRoom m.room old (cond b area other) (cond b other area) settings name value need live) (at_least_false here there past) finds in
          ap (λ (o : Option (ℕ × ℕ)). option_or o (lacking_at m areas old.banks settings name value here)) (lacks_there refl) ∙ ap (λ (o : Option (ℕ × ℕ)). option_or (lack other) o) (lacks_here refl) ∙ first_lacks other area need live full.full)
