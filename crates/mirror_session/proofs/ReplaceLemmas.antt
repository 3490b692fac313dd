-- A blank area in the place of one of the two store areas, as a line.
use Rattle.std.proofs.Common.{◌≡◌, ◌≢◌, inl, inr, ℕ, zero, suc, ◌+◌, ◌<◌, ◌==◌, get_or, Any, ◌&&◌, not, Bool, true, false, cond, ◌≤◌, List, [], ◌∷◌, length, Option, Some, None, refl, sym, ap, subst, ◌∙◌, arith}
use Rattle.std.specs.Prelude.{Contains, is_some, unwrap_or}
use Rattle.std.specs.FinMap.{empty}
use Rattle.std.specs.List.{list_all, slice_get}
use Rattle.std.specs.Option.{option_map_or}
use Rattle.std.proofs.lemmas.Bool.{and_parts, cases_eq, eq-eqb, false≢true, ne_eqb}
use Rattle.flash_sim.specs.Bank.{IsLawful}
use Rattle.flash_sim.specs.declared.flash.Bank.{Bank}
use Rattle.flash_sim.specs.Device.{Device, dropped}
use Rattle.flash_map.specs.declared.area.Area.{Area}
use Rattle.flash_map.specs.declared.area.Geometry.{Geometry}
use Rattle.flash_map.specs.Area.{AreApart, geometry_of, sectors_of}
use Rattle.flash_map.specs.Lawful.{IsLawfulFor}
use Rattle.flash_map.specs.Map.{has_label}
use Rattle.flash_map.specs.On.{on, HoldsOn}
use Rattle.flash_map.specs.Touches.{IsIn, SameOutside}
use Rattle.flash_map.specs.Units.{is_erased}
use Rattle.flash_map.proofs.Plans.{Lasts-zero}
use Rattle.backend_api.specs.Map.{Map}
use Rattle.fcb_ring.specs.Entries.{states}
use Rattle.fcb_ring.specs.Standing.{erases_due}
use Rattle.fcb_ring.proofs.PlaceLemmas.{found_some}
use Rattle.migrator.specs.Active.{active_on}
use Rattle.migrator.specs.Areas.{is_store, is_store_at, selector_of}
use Rattle.migrator.proofs.Migration.{selector-apart, selector-at}
use Rattle.migrator.proofs.Moving.{still}
use Rattle.mirror.specs.declared.mirror.Mirror.{Mirror}
use Rattle.mirror.specs.Trusted.{IsMirrorMap, damage_shown, is_blank_at, is_blank_on, trusted_on}
use Rattle.script_lines.specs.Plan.Replan.{keeps}
use Rattle.session_table.specs.Bench.{area_at}
use Rattle.session.proofs.ActiveAreas.{active_still, area_there, selector_still, store_there}
use Rattle.mirror_session.specs.declared.line.Line.TheVariants.{Blank}
use Rattle.mirror_session.specs.Answer.{done}
use Rattle.mirror_session.specs.Owing.{OwesUpTo}
use Rattle.mirror_session.specs.Plan.{replan}
use Rattle.mirror_session.specs.Bench.{Meanings, beside_in, is_gone, is_labelled, labelled, moment, rules_of, state_of}
use Rattle.mirror_session.specs.LineDone.{FitNow, FitsBoth, LineDone, blanked}
use Rattle.mirror_session.specs.Standing.{IsHeld, IsReady}
use Rattle.mirror_session.specs.State.{State, trusted_of}
use Rattle.mirror_session.specs.Step.{Replaces}
use Rattle.session_table.proofs.CountLemmas.{counted_none}
use Rattle.mirror_session.proofs.BlankLemmas.{blank_lawful, is_blank, of_one, outside_blank}
use Rattle.mirror_session.proofs.BlankOwes.{blanked_owe}
use Rattle.mirror_session.proofs.HeldLemmas.{at_here, at_there, beside_here, beside_there, differs, reads_on}
use Rattle.mirror_session.proofs.MountLemmas.{never_on, trusted_stores, trusted_there}
use Rattle.mirror_session.proofs.SoundLemmas.{none_shown}
use Rattle.mirror_session.proofs.PlaceLemmas.{map_kept, other_is, store_is, trusted_is, trusted_of_is}
use Rattle.mirror_session.proofs.SelectorLemmas.{listed, same_beyond}

-- the area with a label stores settings
pub labelled_stores : (areas : List Area) (label : List ℕ) (place : ℕ) → labelled areas label ≡ Some place → is_store_at areas place ≡ true
labelled_stores areas label place is = let f = found_some (is_labelled areas label) 0 (length areas) place is in
    (and_parts (is_store_at areas place) (has_label label (area_at areas place)) f.passes).0

same_one : (one x : Area) (k : ℕ) → k < 1 → get_or (one ∷ []) k x ≡ x → one ≡ x
same_one one x zero below is = is
same_one one x (suc k) below is = absurd (omega arith)

in_map : (P : Area → Type 0) (one : Area) (areas : List Area) → Contains areas one → Any P (one ∷ []) → Any P areas
in_map P one areas there is = (there.0, one, there.1, there.2, subst P (sym (same_one one is.1 is.0 is.2 is.3)) is.4)

no_drops : (label : List ℕ) → replan (Blank label) (done 0) ≡ keeps → ⊥
no_drops label is = cc

same_place : (a b : ℕ) → a ≡ b → (a == b) ≡ true
same_place a b is = eq-eqb a b is

other_place : (a b : ℕ) → a ≢ b → (a == b) ≡ false
other_place a b differ = ne_eqb a b differ

module _ {S : Type 0} (mounted_on : S → Area) (stands : S → Geometry → List (List ℕ) → Type 0) (m : Meanings) (serves : Area → Geometry → Type 0)
    (areas : List Area) (d : Device) (mirror : Mirror S) (map : IsMirrorMap serves areas d) (held : IsHeld mounted_on stands m areas d mirror) (dark : d.is_on ≡ false) (lawful : IsLawful d.banks d.bytes)
    (empties : (x : Device) (area : Area) → IsLawful x.banks x.bytes → IsLawfulFor x.banks area → serves area (geometry_of x area) → is_blank_on x area ≡ true → on m.contents x area ≡ empty)
    (sounds : (x : Device) (area : Area) → IsLawful x.banks x.bytes → IsLawfulFor x.banks area → serves area (geometry_of x area) → is_blank_on x area ≡ true → on m.damage x area ≡ None)
    (place : ℕ) (stores : is_store_at areas place ≡ true) where
  abbrev area : Area
  area = area_at areas place

  abbrev new : Device
  new = blanked d area

  abbrev here : ℕ
  here = mirror.trusted.place

  abbrev there : ℕ
  there = mirror.other.place

  is_there : slice_get areas place ≡ Some area
  is_there = store_there areas place stores

  is_lawful : IsLawfulFor d.banks area
  is_lawful = map.lawful.each place area is_there

  outside : SameOutside (area ∷ []) d new
  outside = outside_blank d area lawful is_lawful

  lawful_new : IsLawful d.banks new.bytes
  lawful_new = blank_lawful d area lawful is_lawful

  -- areas beside it stay
  stays : (k : ℕ) (x : Area) → slice_get areas k ≡ Some x → place ≢ k → sectors_of new x ≡ sectors_of d x
  stays k x at apart =
      same_beyond (area ∷ []) x d new lawful lawful_new (map.lawful.each k x at).in_bank (of_one (λ a. AreApart a x) area (map.lawful.apart place k area x is_there at apart)) refl outside

  selector_stays : (s : Area) → selector_of areas ≡ Some s → sectors_of new s ≡ sectors_of d s
  selector_stays s is =
      let at = selector-at areas s is in
      same_beyond (area ∷ []) s d new lawful lawful_new (map.lawful.each at.index s at.there).in_bank (of_one (λ a. AreApart a s) area (selector-apart d.banks areas s area place map.lawful is is_there stores).1) refl outside

  named_stays : active_on areas new ≡ active_on areas d
  named_stays = active_still areas d new refl selector_stays

  blank_stays : (k : ℕ) (x : Area) → slice_get areas k ≡ Some x → place ≢ k → is_blank_at areas new k ≡ is_blank_at areas d k
  blank_stays k x at apart =
      ap (λ (o : Option Area). option_map_or (is_blank_on new) o false) at ∙ ap (λ (l : List (List ℕ)). list_all is_erased l) (stays k x at apart) ∙ sym (ap (λ (o : Option Area). option_map_or (is_blank_on d) o false) at)

  blank_now : is_blank_at areas new place ≡ true
  blank_now = ap (λ (o : Option Area). option_map_or (is_blank_on new) o false) is_there ∙ is_blank d area lawful is_lawful

  reads_still : (k : ℕ) (x : Area) → slice_get areas k ≡ Some x → place ≢ k → on m.contents new x ≡ on m.contents d x
  reads_still k x at apart = ap (λ (l : List (List ℕ)). m.contents x (geometry_of d x) l) (stays k x at apart)

  reads_none : (x : Device) (k : ℕ) (a : Area) → IsLawful x.banks x.bytes → x.banks ≡ d.banks → slice_get areas k ≡ Some a → is_store a ≡ true → is_blank_at areas x k ≡ true → on m.contents x a ≡ empty
  reads_none x k a fine banks at store blank =
      let is : IsLawfulFor x.banks a = subst (λ (all : List Bank). IsLawfulFor all a) (sym banks) (map.lawful.each k a at) in
      let served = map_kept serves areas d x banks map in
      empties x a fine is (served.served k a at store) (sym (ap (λ (o : Option Area). option_map_or (is_blank_on x) o false) at) ∙ blank)

  -- which area is read before and afterwards
  read_before : trusted_on areas d ≡ cond (is_blank_at areas d here && not (is_blank_at areas d there)) there here
  read_before =
      trusted_is areas d here there mirror.trusted.area mirror.other.area held.named (beside_here mounted_on stands m serves areas d mirror map held) (beside_there mounted_on stands m serves areas d mirror map held) held.trusted.there held.other.there

  read_after : trusted_on areas new ≡ cond (is_blank_at areas new here && not (is_blank_at areas new there)) there here
  read_after =
      trusted_is areas new here there mirror.trusted.area mirror.other.area (held.named ∙ sym named_stays) (beside_here mounted_on stands m serves areas d mirror map held) (beside_there mounted_on stands m serves areas d mirror map held) held.trusted.there held.other.there

  beside_one : beside_in areas here ≡ there
  beside_one = ap (λ (o : Option ℕ). unwrap_or o here) (beside_here mounted_on stands m serves areas d mirror map held)

  beside_two : beside_in areas there ≡ here
  beside_two = ap (λ (o : Option ℕ). unwrap_or o there) (beside_there mounted_on stands m serves areas d mirror map held)

  one_area : area_at areas here ≡ mirror.trusted.area
  one_area = area_there areas here mirror.trusted.area held.trusted.there

  two_area : area_at areas there ≡ mirror.other.area
  two_area = area_there areas there mirror.other.area held.other.there

  apart : here ≢ there
  apart = differs mounted_on stands m serves areas d mirror map held

  abbrev one : Map
  one = on m.contents d mirror.trusted.area

  abbrev two : Map
  two = on m.contents d mirror.other.area

  -- what is read then
  abbrev ReadsThen : Type 0
  ReadsThen = on m.contents new (area_at areas (trusted_on areas new)) ≡ cond (place == trusted_on areas d) (on m.contents d (area_at areas (beside_in areas (trusted_on areas d)))) (on m.contents d (area_at areas (trusted_on areas d)))

  -- by the place that is read before and the one that is read then
  reads_by : (was is : ℕ) → trusted_on areas d ≡ was → trusted_on areas new ≡ is
      → on m.contents new (area_at areas is) ≡ cond (place == was) (on m.contents d (area_at areas (beside_in areas was))) (on m.contents d (area_at areas was)) → ReadsThen
  reads_by was is at_first then same =
      ap (λ (p : ℕ). on m.contents new (area_at areas p)) then ∙ same
      ∙ sym (ap (λ (p : ℕ). cond (place == p) (on m.contents d (area_at areas (beside_in areas p))) (on m.contents d (area_at areas p))) at_first)

  new_one : {x : Map} → on m.contents new mirror.trusted.area ≡ x → on m.contents new (area_at areas here) ≡ x
  new_one {x} is = ap (λ (a : Area). on m.contents new a) one_area ∙ is

  new_two : {x : Map} → on m.contents new mirror.other.area ≡ x → on m.contents new (area_at areas there) ≡ x
  new_two {x} is = ap (λ (a : Area). on m.contents new a) two_area ∙ is

  if_here : {x : Map} → x ≡ two → place ≡ here → x ≡ cond (place == here) (on m.contents d (area_at areas (beside_in areas here))) (on m.contents d (area_at areas here))
  if_here {x} is same =
      is ∙ sym (ap (λ (b : Bool). cond b (on m.contents d (area_at areas (beside_in areas here))) (on m.contents d (area_at areas here))) (same_place place here same)
      ∙ ap (λ (p : ℕ). on m.contents d (area_at areas p)) beside_one ∙ ap (λ (a : Area). on m.contents d a) two_area)

  if_there : {x : Map} → x ≡ one → place ≡ there → x ≡ cond (place == there) (on m.contents d (area_at areas (beside_in areas there))) (on m.contents d (area_at areas there))
  if_there {x} is same =
      is ∙ sym (ap (λ (b : Bool). cond b (on m.contents d (area_at areas (beside_in areas there))) (on m.contents d (area_at areas there))) (same_place place there same)
      ∙ ap (λ (p : ℕ). on m.contents d (area_at areas p)) beside_two ∙ ap (λ (a : Area). on m.contents d a) one_area)

  not_here : {x : Map} → x ≡ one → place ≢ here → x ≡ cond (place == here) (on m.contents d (area_at areas (beside_in areas here))) (on m.contents d (area_at areas here))
  not_here {x} is differ =
      is ∙ sym (ap (λ (b : Bool). cond b (on m.contents d (area_at areas (beside_in areas here))) (on m.contents d (area_at areas here))) (other_place place here differ) ∙ ap (λ (a : Area). on m.contents d a) one_area)

  not_there : {x : Map} → x ≡ two → place ≢ there → x ≡ cond (place == there) (on m.contents d (area_at areas (beside_in areas there))) (on m.contents d (area_at areas there))
  not_there {x} is differ =
      is ∙ sym (ap (λ (b : Bool). cond b (on m.contents d (area_at areas (beside_in areas there))) (on m.contents d (area_at areas there))) (other_place place there differ) ∙ ap (λ (a : Area). on m.contents d a) two_area)

  -- the named area was replaced
  module _ (same : place ≡ here) where
    apart_there : place ≢ there
    apart_there e = apart (sym same ∙ e)

    two_still : on m.contents new mirror.other.area ≡ two
    two_still = reads_still there mirror.other.area held.other.there apart_there

    named_blank : is_blank_at areas new here ≡ true
    named_blank = subst (λ (p : ℕ). is_blank_at areas new p ≡ true) same blank_now

    other_blank : is_blank_at areas new there ≡ is_blank_at areas d there
    other_blank = blank_stays there mirror.other.area held.other.there apart_there

    named_gone : (was other : Bool) → is_blank_at areas d here ≡ was → is_blank_at areas d there ≡ other → ReadsThen
    named_gone false false one_is two_is =
        reads_by here there (read_before ∙ ap (λ (b : Bool). cond (b && not (is_blank_at areas d there)) there here) one_is)
        (read_after ∙ ap (λ (b : Bool). cond (b && not (is_blank_at areas new there)) there here) named_blank ∙ ap (λ (b : Bool). cond (not b) there here) (other_blank ∙ two_is))
        (if_here (new_two two_still) same)
    named_gone true false one_is two_is =
        reads_by there there (read_before ∙ ap (λ (b : Bool). cond (b && not (is_blank_at areas d there)) there here) one_is ∙ ap (λ (b : Bool). cond (not b) there here) two_is)
        (read_after ∙ ap (λ (b : Bool). cond (b && not (is_blank_at areas new there)) there here) named_blank ∙ ap (λ (b : Bool). cond (not b) there here) (other_blank ∙ two_is))
        (not_there (new_two two_still) apart_there)
    named_gone was true one_is two_is =
        reads_by here here (read_before ∙ ap (λ (b : Bool). cond (is_blank_at areas d here && not b) there here) two_is ∙ never (is_blank_at areas d here))
        (read_after ∙ ap (λ (b : Bool). cond (b && not (is_blank_at areas new there)) there here) named_blank ∙ ap (λ (b : Bool). cond (not b) there here) (other_blank ∙ two_is))
        (if_here (new_one (reads_none new here mirror.trusted.area lawful_new refl held.trusted.there held.trusted.stores named_blank) ∙ sym (reads_none d there mirror.other.area lawful refl held.other.there held.other.stores two_is)) same)
      where
        never : (b : Bool) → cond (b && false) there here ≡ here
        never true = refl
        never false = refl

  -- the other one was
  module _ (same : place ≡ there) where
    apart_here : place ≢ here
    apart_here e = apart (sym e ∙ same)

    one_still : on m.contents new mirror.trusted.area ≡ one
    one_still = reads_still here mirror.trusted.area held.trusted.there apart_here

    beside_blank : is_blank_at areas new there ≡ true
    beside_blank = subst (λ (p : ℕ). is_blank_at areas new p ≡ true) same blank_now

    never_there : (b : Bool) → cond (b && false) there here ≡ here
    never_there true = refl
    never_there false = refl

    reads_here : trusted_on areas new ≡ here
    reads_here = read_after ∙ ap (λ (b : Bool). cond (is_blank_at areas new here && not b) there here) beside_blank ∙ never_there (is_blank_at areas new here)

    other_gone : (gone : Bool) → (is_blank_at areas d here && not (is_blank_at areas d there)) ≡ gone → ReadsThen
    other_gone true is =
        reads_by there here (read_before ∙ ap (λ (b : Bool). cond b there here) is) reads_here (if_there (new_one one_still) same)
    other_gone false is =
        reads_by here here (read_before ∙ ap (λ (b : Bool). cond b there here) is) reads_here (not_here (new_one one_still) apart_here)

  reads_then : ReadsThen
  reads_then = elim (cases_eq place here) [
    | inl same ↦ named_gone same (is_blank_at areas d here) (is_blank_at areas d there) refl refl
    | inr differ ↦
        other_gone (other_is serves areas d map here there place (at_here mounted_on stands m serves areas d mirror map held) (at_there mounted_on stands m serves areas d mirror map held) stores apart differ)
        (is_blank_at areas d here && not (is_blank_at areas d there)) refl
  ]

  -- neither area is damaged
  none_damaged : (k : ℕ) (a : Area) → slice_get areas k ≡ Some a → is_store a ≡ true → on m.damage d a ≡ None → on m.damage new a ≡ None
  none_damaged k a at store none = elim (cases_eq place k) [
    | inl same ↦
        let blank : is_blank_at areas new k ≡ true = subst (λ (p : ℕ). is_blank_at areas new p ≡ true) same blank_now in
        sounds new a lawful_new (map.lawful.each k a at) (map.served k a at store) (sym (ap (λ (o : Option Area). option_map_or (is_blank_on new) o false) at) ∙ blank)
    | inr differ ↦ ap (λ (l : List (List ℕ)). m.damage a (geometry_of d a) l) (stays k a at differ) ∙ none
  ]

  sound_then : damage_shown m.damage areas new ≡ None
  sound_then =
      none_shown m.damage areas new (area_at areas (trusted_on areas new)) (trusted_there serves areas new (map_kept serves areas d new refl map)) (selector_still areas d new refl selector_stays ∙ held.sound)
      (reads_on mounted_on stands m serves areas d mirror map held new named_stays (λ a. on m.damage new a) (λ x y. x ≡ None)
      (none_damaged here mirror.trusted.area held.trusted.there held.trusted.stores held.trusted.sound) (none_damaged there mirror.other.area held.other.there held.other.stores held.other.sound))

  -- ---- the line

  abbrev made : Map → Map → ℕ → Bool → Bool → State
  made settings other named gone power = record { settings = settings; other = other; named = named; gone = gone; is_on = power; is_whole = false }

  replaced : (last : ℕ) → Replaces (rules_of m areas d.banks last) place (state_of m areas (moment d true)) (state_of m areas (moment new false))
  replaced last =
      ap (λ (x : Map). made x (on m.contents new (area_at areas (beside_in areas (trusted_on areas new)))) (active_on areas new) (is_gone areas new) false)
      (reads_then ∙ ap (λ (p : ℕ). cond (place == p) (on m.contents d (area_at areas (beside_in areas (trusted_on areas d)))) (on m.contents d (area_at areas (trusted_on areas d)))) (trusted_of_is areas d))
      ∙ ap (λ (n : ℕ). made (cond (place == trusted_of (rules_of m areas d.banks last) (state_of m areas (moment d true))) (on m.contents d (area_at areas (beside_in areas (trusted_on areas d)))) (on m.contents d (area_at areas (trusted_on areas d)))) (on m.contents new (area_at areas (beside_in areas (trusted_on areas new)))) n (is_gone areas new) false) named_stays
      ∙ ap (λ (b : Bool). made (cond (place == trusted_of (rules_of m areas d.banks last) (state_of m areas (moment d true))) (on m.contents d (area_at areas (beside_in areas (trusted_on areas d)))) (on m.contents d (area_at areas (trusted_on areas d)))) (on m.contents new (area_at areas (beside_in areas (trusted_on areas new)))) (active_on areas d) (is_gone areas new) b) (sym (ap (λ (b : Bool). b && true) dark))

  -- what is read then fits, as what either area read as did
  stays_fit : FitNow m areas (moment d true) → FitNow m areas (moment new false)
  stays_fit is = record {
    settings = subst (λ (s : Map). FitsBoth m areas d.banks s) (sym reads_then) (by (place == trusted_on areas d));
    other = λ now. absurd (false≢true now);
  }
    where
      by : (b : Bool) → FitsBoth m areas d.banks (cond b (on m.contents d (area_at areas (beside_in areas (trusted_on areas d)))) (on m.contents d (area_at areas (trusted_on areas d))))
      by true = is.other refl
      by false = is.settings

  -- what both areas owe; the blank one rests
  owes_then : (owing : Area → Geometry → List (List ℕ) → ℕ → Type 0)
      → ((x : Device) (area : Area) → IsLawful x.banks x.bytes → IsLawfulFor x.banks area → serves area (geometry_of x area) → is_blank_on x area ≡ true → HoldsOn m.rests x area)
      → ((area : Area) (geometry : Geometry) (sectors : List (List ℕ)) (most : ℕ) → m.rests area geometry sectors → owing area geometry sectors most) → OwesUpTo owing 0 areas (moment d true) (moment new false)
  owes_then owing rests resting due most some within was = record {
    selector = λ s is. subst (λ (n : ℕ). n ≤ due) (sym (still (λ area geometry sectors. erases_due (states geometry.unit sectors)) d new s refl (selector_stays s is))) (was.selector s is);
    read = λ x at.
        let store : is_store x ≡ true = store_is areas (trusted_on areas new) x at (trusted_stores serves areas new (map_kept serves areas d new refl map)) in
        blanked_owe serves m.rests owing areas d map lawful rests resting place stores most (was.both refl) (trusted_on areas new) x at store;
    both = λ whole. absurd (false≢true whole);
  }

  outside_map : SameOutside areas d new
  outside_map bank offset out = outside bank offset (λ is. out (in_map (IsIn d.banks bank offset) area areas (listed areas place area is_there) is))

  pub line_done : (label : List ℕ) → labelled areas label ≡ Some place → LineDone m areas (Blank label) (done 0) (moment d true) (moment new false)
  line_done label is = record {
    step = λ last within. (λ needs. absurd (false≢true needs), (refl, ap (λ (b : Bool). b && true) dark, refl, (place, is, replaced last)));
    accounts = record {
      spent = none_more d.spent;
      losses = counted_none d.losses;
      allows = λ counts. Lasts-zero d.plan;
      plan = λ counts. refl;
      unplanned = λ free never. (ap dropped never, refl);
    };
    keeps = record { banks = refl; loaded = refl; outside = outside_map };
    touches = λ stays. absurd (no_drops label stays);
    blanks = (place, is, refl);
    quiet = λ same. absurd (false≢true same);
    cuts = tt;
    finds = tt;
    spares = tt;
    fits = tt;
    fit = stays_fit;
    both = λ was_both power. absurd (never_on new.is_on power);
    sound = λ shown. sound_then;
  }
    where
      none_more : (n : ℕ) → n + 0 ≡ n
      none_more n = omega arith

-- the same, where the session says whether its mirror is up
module _ {S : Type 0} (mounted_on : S → Area) (stands : S → Geometry → List (List ℕ) → Type 0) (m : Meanings) (serves : Area → Geometry → Type 0)
    (areas : List Area) (d new : Device) (map : IsMirrorMap serves areas d) (lawful : IsLawful d.banks d.bytes)
    (empties : (x : Device) (area : Area) → IsLawful x.banks x.bytes → IsLawfulFor x.banks area → serves area (geometry_of x area) → is_blank_on x area ≡ true → on m.contents x area ≡ empty)
    (sounds : (x : Device) (area : Area) → IsLawful x.banks x.bytes → IsLawfulFor x.banks area → serves area (geometry_of x area) → is_blank_on x area ≡ true → on m.damage x area ≡ None)
    (place : ℕ) (label : List ℕ) (is : labelled areas label ≡ Some place) where
  no_mirror : (b : Bool) → (b && true) ≡ false → b ≡ false
  no_mirror true is = is
  no_mirror false is = refl

  pub replaced_line : (o : Option (Mirror S)) → IsReady mounted_on stands m areas d o → is_some o ≡ true → (d.is_on && is_some o) ≡ false → new ≡ blanked d (area_at areas place)
      → LineDone m areas (Blank label) (done 0) (moment d (is_some o)) (moment new false)
  replaced_line None held up dark made = absurd (false≢true up)
  replaced_line (Some mirror) held up dark made =
      subst (λ (x : Device). LineDone m areas (Blank label) (done 0) (moment d true) (moment x false)) (sym made)
      (line_done mounted_on stands m serves areas d mirror map held (no_mirror d.is_on dark) lawful empties sounds place (labelled_stores areas label place is) label is)

  pub replaced_owes : (owing : Area → Geometry → List (List ℕ) → ℕ → Type 0)
      → ((x : Device) (area : Area) → IsLawful x.banks x.bytes → IsLawfulFor x.banks area → serves area (geometry_of x area) → is_blank_on x area ≡ true → HoldsOn m.rests x area)
      → ((area : Area) (geometry : Geometry) (sectors : List (List ℕ)) (most : ℕ) → m.rests area geometry sectors → owing area geometry sectors most)
      → (o : Option (Mirror S)) → IsReady mounted_on stands m areas d o → is_some o ≡ true → (d.is_on && is_some o) ≡ false → new ≡ blanked d (area_at areas place) → OwesUpTo owing 0 areas (moment d (is_some o)) (moment new false)
  replaced_owes owing rests resting None held up dark made = absurd (false≢true up)
  replaced_owes owing rests resting (Some mirror) held up dark made =
      subst (λ (x : Device). OwesUpTo owing 0 areas (moment d true) (moment x false)) (sym made)
      (owes_then mounted_on stands m serves areas d mirror map held (no_mirror d.is_on dark) lawful empties sounds place (labelled_stores areas label place is) owing rests resting)
