-- Names in order, one record at a time.
use Rattle.std.proofs.Common.{◌≡◌, ℕ, Bool, true, false, cond, ◌&&◌, List, [], ◌∷◌, ◌++◌, Option, Some, None, Result, Ok, Err, Ordering, Less, Equal, Greater, bytes_eq, is_eq, is_lt, nat_cmp, inl, inr, refl, sym, ap, subst, ◌∙◌}
use Rattle.std.specs.Prelude.{⊤, IfSome}
use Rattle.std.specs.Cmp.Lexicographic.{slice_cmp}
use Rattle.std.specs.Option.{option_map, option_or}
use Rattle.std.specs.Ordering.{is_le}
use Rattle.std.specs.Result.{IsOk, result_ok}
use Rattle.setting_name.specs.declared.name.NameFault.{NameFault}
use Rattle.setting_name.specs.NameFault.{Reads as ReadsName}
use Rattle.std.proofs.lemmas.Bool.{both_ways, cases_Bool, false≢true}
use Rattle.std.proofs.lemmas.Cmp.{nat_list_cmp_total, tied_itself}
use Rattle.std.proofs.lemmas.Map.Lookups.{exact_bytes}
use Rattle.std.proofs.lemmas.Slice.Eq.{bytes_eq-Decides}
use Rattle.fcb_ring.specs.declared.record.RecordAt.{RecordAt}
use Rattle.fcb_ring.specs.Entries.{bodies}
use Rattle.fcb_ring.specs.Standing.{IsNext}
use Rattle.backend_api.specs.Map.{is_behind}
use Rattle.backend_api.specs.Least.{IsLeast}
use Rattle.record_settings.specs.Last.{last_value}
use Rattle.record_settings.specs.Live.{has_name, names}
use Rattle.record_settings.specs.Settings.{setting_of}
use Rattle.backend_fcb.specs.Walking.{setting_between, IsLast}
use Rattle.backend_fcb.specs.declared.record.Setting.{Setting}
use Rattle.backend_fcb.proofs.LookupSteps.{Reads}
use Rattle.record_settings.proofs.BodyLemmas.{setting-says}
use Rattle.record_settings.proofs.LastLemmas.{found_by, last_value-push}
use Rattle.record_settings.proofs.NextLemmas.{least_by, least_of, least-none, least-push, least-is}
use Rattle.backend_fcb.proofs.PrefixNames.{found-same}
use Rattle.backend_fcb.proofs.SectorLists.{bodies-append}
use Rattle.backend_fcb.proofs.WalkLemmas.{Entry, IsAt, start, step, first-of, body-is, all-done, some-same}

abbrev pub Pair : Type 0
Pair = List ℕ × List ℕ

abbrev pub name_of : Option Pair → Option (List ℕ)
name_of least = option_map (λ (pair : Pair). pair.0) least

-- what a setting says
abbrev pub said : Option Setting → Option Pair
said setting = option_map (λ setting. (setting.name.now, setting.value.now)) setting

pub name-said : (setting : Option Setting) → option_map (λ s. s.name.now) setting ≡ name_of (said setting)
name-said None = refl
name-said (Some setting) = refl

-- ---- the least name after one more record

taken : (after : Option (List ℕ)) (least setting : Option Pair) → name_of (option_or (setting_between after (name_of least) setting) least) ≡ least_by after (name_of least) setting
taken after None None = refl
taken after (Some (least, old)) None = refl
taken after None (Some (name, value)) = by (is_behind after name && true)
  where
    by : (t : Bool) → name_of (option_or (cond t (Some (name, value)) None) None) ≡ cond t (Some name) None
    by true = refl
    by false = refl
taken after (Some (least, old)) (Some (name, value)) = by (is_behind after name) (slice_cmp nat_cmp name least) refl
  where
    by : (t : Bool) (o : Ordering) → slice_cmp nat_cmp name least ≡ o → name_of (option_or (cond (t && is_le o) (Some (name, value)) None) (Some (least, old))) ≡ cond (t && is_lt o) (Some name) (Some least)
    by false o e = refl
    by true Less e = refl
    by true Equal e = ap Some (exact_bytes name least e)
    by true Greater e = refl

-- ---- and what the last record of it says

-- the last record of the name says the pair, if there is one
abbrev pub AreLast : ℕ → List (List ℕ) → Option Pair → Type 0
AreLast limit bodies None = ⊤
AreLast limit bodies (Some (name, value)) = IsLast limit bodies name value

taken-last : (limit : ℕ) (done : List (List ℕ)) (body name value : List ℕ) → setting_of limit body ≡ Some (name, value) → IsLast limit (done ++ body ∷ []) name value
taken-last limit done body name value is = (
  (setting-says limit body name value is).lawful,
  last_value-push limit name done body ∙ ap (found_by name (last_value limit name done)) is
      ∙ ap (λ (t : Bool). cond t (Some value) (last_value limit name done)) ((bytes_eq-Decides name name).1 refl),
)

kept-last : (limit : ℕ) (done : List (List ℕ)) (body name value : List ℕ) → has_name name (setting_of limit body) ≡ false → IsLast limit done name value → IsLast limit (done ++ body ∷ []) name value
kept-last limit done body name value other last =
    (last.0, last_value-push limit name done body ∙ found-same name (last_value limit name done) (setting_of limit body) other ∙ last.1)

differ : (x y : List ℕ) → (x ≡ y → ⊥) → bytes_eq x y ≡ false
differ x y apart = elim (cases_Bool (bytes_eq x y)) [ inl same ↦ absurd (apart ((bytes_eq-Decides x y).0 same)) | inr other ↦ other ]

first-last : (limit : ℕ) (after : Option (List ℕ)) (done : List (List ℕ)) (body : List ℕ) (setting : Option Pair) → setting_of limit body ≡ setting → AreLast limit (done ++ body ∷ []) (option_or (setting_between after None setting) None)
first-last limit after done body None is = tt
first-last limit after done body (Some (name, value)) is = by (is_behind after name && true)
  where
    by : (t : Bool) → AreLast limit (done ++ body ∷ []) (option_or (cond t (Some (name, value)) None) None)
    by true = taken-last limit done body name value is
    by false = tt

more-last : (limit : ℕ) (after : Option (List ℕ)) (done : List (List ℕ)) (body least old : List ℕ) → is_behind after least ≡ true → IsLast limit done least old → (setting : Option Pair) → setting_of limit body ≡ setting
    → AreLast limit (done ++ body ∷ []) (option_or (setting_between after (Some least) setting) (Some (least, old)))
more-last limit after done body least old behind last None is = kept-last limit done body least old (ap (has_name least) is) last
more-last limit after done body least old behind last (Some (name, value)) is = by (is_behind after name) refl (slice_cmp nat_cmp name least) refl
  where
    by : (t : Bool) → is_behind after name ≡ t → (o : Ordering) → slice_cmp nat_cmp name least ≡ o → AreLast limit (done ++ body ∷ []) (option_or (cond (t && is_le o) (Some (name, value)) None) (Some (least, old)))
    by true e Less f = taken-last limit done body name value is
    by true e Equal f = taken-last limit done body name value is
    by true e Greater f =
        let apart : name ≡ least → ⊥ = λ (same : name ≡ least). false≢true (sym (ap is_eq f) ∙ ap is_eq (ap (λ (text : List ℕ). slice_cmp nat_cmp text least) same ∙ tied_itself nat_list_cmp_total least)) in
        kept-last limit done body least old (ap (has_name least) is ∙ differ name least apart) last
    by false e o f =
        let apart : name ≡ least → ⊥ = λ (same : name ≡ least). false≢true (sym e ∙ ap (is_behind after) same ∙ behind) in
        kept-last limit done body least old (ap (has_name least) is ∙ differ name least apart) last

last-step : (limit : ℕ) (after : Option (List ℕ)) (done : List (List ℕ)) (body : List ℕ) (least : Option Pair) → IsLeast after (λ name. names limit name done) (name_of least) → AreLast limit done least
    → AreLast limit (done ++ body ∷ []) (option_or (setting_between after (name_of least) (setting_of limit body)) least)
last-step limit after done body None is last = first-last limit after done body (setting_of limit body) refl
last-step limit after done body (Some (least, old)) is last = more-last limit after done body least old is.1 last (setting_of limit body) refl

-- ---- the walk

-- the least so far of the names behind the one given, and what its last record so far says
pub record Leasts (limit : ℕ) (list : List Entry) (after : Option (List ℕ)) (place : Option RecordAt) (least : Option Pair) : Type 0 where
  pub done : List Entry
  pub later : List Entry
  pub at : IsAt list place done later
  pub says : name_of least ≡ least_of limit after (bodies done)
  pub last : AreLast limit (bodies done) least

pub leasts-start : (limit : ℕ) (list : List Entry) (after : Option (List ℕ)) (next : Option RecordAt) → IsNext list None next → Leasts limit list after next None
leasts-start limit list after next is = record { done = []; later = list; at = start list next is; says = sym (least-none limit after); last = tt }

so-far : (limit : ℕ) (after : Option (List ℕ)) (bodies : List (List ℕ)) (least : Option (List ℕ)) → least ≡ least_of limit after bodies → IsLeast after (λ name. names limit name bodies) least
so-far limit after bodies least says = subst (IsLeast after (λ name. names limit name bodies)) (sym says) (least-is limit after bodies)

pub leasts-step : (limit : ℕ) (list : List Entry) (after : Option (List ℕ)) (r : RecordAt) (least : Option Pair) → Leasts limit list after (Some r) least → (bytes : List ℕ) → Reads list r bytes → (next : Option RecordAt) → IsNext list (Some r) next
    → (answer : Option Pair) → answer ≡ setting_between after (name_of least) (setting_of limit bytes) → Leasts limit list after next (option_or answer least)
leasts-step limit list after r least so_far bytes reads next is answer answer-is =
    let f = first-of so_far.later r so_far.at.here in
    let are : list ≡ so_far.done ++ (r, f.0) ∷ f.1 = so_far.at.are ∙ ap (λ (l : List Entry). so_far.done ++ l) f.2 in
    let body : bytes ≡ f.0 = body-is list so_far.done r f.0 f.1 bytes are reads in
    let chosen : answer ≡ setting_between after (name_of least) (setting_of limit f.0) = answer-is ∙ ap (λ (b : List ℕ). setting_between after (name_of least) (setting_of limit b)) body in
    let more = bodies-append so_far.done ((r, f.0) ∷ []) in
    record {
      done = so_far.done ++ (r, f.0) ∷ [];
      later = f.1;
      at = step list r so_far.done f.0 f.1 next are is;
      says =
          ap (λ (o : Option Pair). name_of (option_or o least)) chosen ∙ taken after least (setting_of limit f.0)
          ∙ ap (λ (o : Option (List ℕ)). least_by after o (setting_of limit f.0)) so_far.says
          ∙ sym (least-push limit after (bodies so_far.done) f.0)
          ∙ sym (ap (least_of limit after) more);
      last =
          subst (λ (o : Option Pair). AreLast limit (bodies (so_far.done ++ (r, f.0) ∷ [])) (option_or o least)) (sym chosen)
          (subst (λ (l : List (List ℕ)). AreLast limit l (option_or (setting_between after (name_of least) (setting_of limit f.0)) least)) (sym more)
          (last-step limit after (bodies so_far.done) f.0 least (so-far limit after (bodies so_far.done) (name_of least) so_far.says) so_far.last));
    }

pub leasts-end : (limit : ℕ) (list : List Entry) (after : Option (List ℕ)) (least : Option Setting) → Leasts limit list after None (said least) → IsLeast after (λ name. names limit name (bodies list)) (option_map (λ s. s.name.now) least)
leasts-end limit list after least so_far =
    so-far limit after (bodies list) (option_map (λ s. s.name.now) least) (name-said least ∙ so_far.says ∙ ap (λ (l : List Entry). least_of limit after (bodies l)) (sym (all-done list so_far.done so_far.later so_far.at)))

pub lasts-end : (limit : ℕ) (list : List Entry) (after : Option (List ℕ)) (least : Option Setting) → Leasts limit list after None (said least) → IfSome least (λ s. IsLast limit (bodies list) s.name.now s.value.now)
lasts-end limit list after least so_far = by least (subst (λ (l : List Entry). AreLast limit (bodies l) (said least)) (sym (all-done list so_far.done so_far.later so_far.at)) so_far.last)
  where
    by : (o : Option Setting) → AreLast limit (bodies list) (said o) → IfSome o (λ s. IsLast limit (bodies list) s.name.now s.value.now)
    by None last = tt
    by (Some setting) last = last

-- ---- reading a name

-- a lawful name is read as itself
pub read-is : (text : List ℕ) (r : Result (List ℕ) NameFault) → ReadsName text r → IsOk r → result_ok r ≡ Some text
read-is text (Ok name) reads ok = ap Some reads.0
read-is text (Err fault) reads ok = absurd (both_ways false refl ok)

pub read-as : (text name : List ℕ) (r : Result (List ℕ) NameFault) → ReadsName text r → IsOk r → Some name ≡ result_ok r → name ≡ text
read-as text name r reads ok is = some-same name text (is ∙ read-is text r reads ok)
