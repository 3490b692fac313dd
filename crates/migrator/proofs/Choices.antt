-- The last record that names a store area, and what a collection makes of it.
use Rattle.std.proofs.Common.{◌≡◌, ◌≢◌, ℕ, zero, suc, ◌+◌, ◌-◌, ◌&&◌, Bool, true, cond, eqb, List, [], ◌∷◌, ◌++◌, length, Option, Some, None, refl, sym, ap, subst, ◌∙◌, inl, inr, arith}
use Rattle.std.specs.Prelude.{map, Contains, slice_range, slice_index}
use Rattle.std.specs.List.{slice_get, filter}
use Rattle.std.specs.Option.{option_map, option_or}
use Rattle.std.proofs.lemmas.Bool.{cases_Bool, and_parts, eqb-true, eq-eqb, false≢true}
use Rattle.std.proofs.lemmas.List.{append-nil, length-drop, length-take-le}
use Rattle.std.proofs.lemmas.Option.{none-some, slice_get-map}
use Rattle.flash_sim.specs.Bank.{IsLawful}
use Rattle.flash_sim.specs.Device.{Device}
use Rattle.flash_map.specs.declared.area.Area.{Area}
use Rattle.flash_map.specs.Area.{unit_of, sector_size, sectors_of, sector_at}
use Rattle.fcb_ring.specs.declared.record.Record.{Record}
use Rattle.fcb_ring.specs.declared.record.RecordAt.{RecordAt}
use Rattle.fcb_ring.specs.declared.ring.Ring.{Ring}
use Rattle.fcb_ring.specs.Entries.{bodies, entry_of, sector_entries}
use Rattle.fcb_ring.specs.Records.{records}
use Rattle.fcb_ring.specs.Standing.{StandsOn, IsNext, entries_on, record_places, uncounted}
use Rattle.fcb_ring.specs.Changing.{body_at}
use Rattle.fcb_ring.proofs.AreaLemmas.{has_size, count-sectors}
use Rattle.fcb_ring.proofs.NextLemmas.{body_is, listed_from}
use Rattle.fcb_ring.proofs.ReadLemmas.{there}
use Rattle.fcb_ring.proofs.WalkLemmas.{Entry, IsAt, start, step, first-of, body-is, all-done}
use Rattle.migrator.specs.Areas.{is_store_at}
use Rattle.migrator.specs.Active.{is_choice, named, chosen, choice_in, last_choice}
use Rattle.migrator.proofs.Latest.{latest-nil, latest-append, latest-push, latest-found, IsFound, latest-map}

some-same : {X : Type 0} (x y : X) → Some x ≡ Some y → x ≡ y
some-same x y e = cc

-- ---- what a body names

pub record Names (areas : List Area) (body : List ℕ) (index : ℕ) : Type 0 where
  pub two : length body ≡ 2
  pub first : slice_index body 0 ≡ index
  pub store : is_store_at areas index ≡ true

pub named-says : (areas : List Area) (body : List ℕ) (index : ℕ) → named areas body ≡ Some index → Names areas body index
unfolding named
named-says areas body index is = elim (cases_Bool (is_choice body && is_store_at areas (slice_index body 0))) [
  | inl names ↦
      let both = and_parts (is_choice body) (is_store_at areas (slice_index body 0)) names in
      let form = and_parts (eqb (length body) 2) (eqb (slice_index body 1) (0xFF - slice_index body 0)) both.0 in
      let same : slice_index body 0 ≡ index = some-same (slice_index body 0) index (sym (ap (λ (b : Bool). cond b (Some (slice_index body 0)) None) names) ∙ is) in
      record { two = eqb-true (length body) 2 form.0; first = same; store = subst (λ (i : ℕ). is_store_at areas i ≡ true) same both.1 }
  | inr other ↦ absurd (none-some index (sym (ap (λ (b : Bool). cond b (Some (slice_index body 0)) None) other) ∙ is))
]

pub names-itself : (areas : List Area) (index : ℕ) → is_store_at areas index ≡ true → named areas (index ∷ (0xFF - index) ∷ []) ≡ Some index
unfolding named
names-itself areas index store =
    ap (λ (b : Bool). cond (b && is_store_at areas index) (Some index) None) (eq-eqb (0xFF - index) (0xFF - index) refl)
    ∙ ap (λ (b : Bool). cond b (Some index) None) store

pub erased-names-none : (areas : List Area) → named areas (255 ∷ 255 ∷ []) ≡ None
unfolding named
erased-names-none areas = refl

abbrev pub pair_with : RecordAt → ℕ → RecordAt × ℕ
pair_with r index = (r, index)

pub option-choice : (areas : List Area) (entry : Entry) → named areas entry.1 ≡ option_map (λ (choice : RecordAt × ℕ). choice.1) (choice_in areas entry)
option-choice areas entry = at (named areas entry.1)
  where
    at : (o : Option ℕ) → o ≡ option_map (λ (choice : RecordAt × ℕ). choice.1) (option_map (pair_with entry.0) o)
    at None = refl
    at (Some index) = refl

-- the choice by the bodies is that of the last record
pub chosen-last : (areas : List Area) (list : List Entry) → chosen areas (bodies list) ≡ option_map (λ (choice : RecordAt × ℕ). choice.1) (last_choice areas list)
chosen-last areas list = latest-map (choice_in areas) (λ entry. entry.1) (named areas) (λ (choice : RecordAt × ℕ). choice.1) (option-choice areas) list

-- ---- a walk over the records

pub record Finds (areas : List Area) (list : List Entry) (place : Option RecordAt) (last : Option (RecordAt × ℕ)) : Type 0 where
  pub done : List Entry
  pub later : List Entry
  pub at : IsAt list place done later
  pub says : last ≡ last_choice areas done

pub finds-start : (areas : List Area) (list : List Entry) (next : Option RecordAt) → IsNext list None next → Finds areas list next None
finds-start areas list next is = record { done = []; later = list; at = start list next is; says = sym (latest-nil (choice_in areas)) }

pub finds-step : (areas : List Area) (list : List Entry) (r : RecordAt) (last : Option (RecordAt × ℕ)) → Finds areas list (Some r) last → (bytes : List ℕ) → ((i : ℕ) → slice_get (record_places list) i ≡ Some r → slice_get list i ≡ Some (r, bytes)) → (next : Option RecordAt) → IsNext list (Some r) next
    → (index : Option ℕ) → index ≡ named areas bytes → Finds areas list next (option_or (option_map (pair_with r) index) last)
finds-step areas list r last so_far bytes reads next is index index-is =
    let f = first-of so_far.later r so_far.at.here in
    let are : list ≡ so_far.done ++ (r, f.0) ∷ f.1 = so_far.at.are ∙ ap (λ (l : List Entry). so_far.done ++ l) f.2 in
    let body : bytes ≡ f.0 = body-is list so_far.done r f.0 f.1 bytes are reads in
    record {
      done = so_far.done ++ (r, f.0) ∷ [];
      later = f.1;
      at = step list r so_far.done f.0 f.1 next are is;
      says =
          ap (λ (o : Option ℕ). option_or (option_map (pair_with r) o) last) (index-is ∙ ap (named areas) body)
          ∙ ap (λ (o : Option (RecordAt × ℕ)). option_or (choice_in areas (r, f.0)) o) so_far.says
          ∙ sym (latest-push (choice_in areas) so_far.done (r, f.0));
    }

pub finds-end : (areas : List Area) (list : List Entry) (last : Option (RecordAt × ℕ)) → Finds areas list None last → last ≡ last_choice areas list
finds-end areas list last so_far = so_far.says ∙ sym (ap (last_choice areas) (all-done list so_far.done so_far.later so_far.at))

-- ---- the last record is one of the list

-- the record is in the list, with a body that names the area
pub record IsListed (areas : List Area) (list : List Entry) (r : RecordAt) (index : ℕ) : Type 0 where
  pub place : ℕ
  pub body : List ℕ
  pub there : slice_get list place ≡ Some (r, body)
  pub names : named areas body ≡ Some index

pub last-listed : (areas : List Area) (list : List Entry) (r : RecordAt) (index : ℕ) → last_choice areas list ≡ Some (r, index) → IsListed areas list r index
last-listed areas list r index is = from (latest-found (choice_in areas) list (r, index) is)
  where
    pair : (q : RecordAt) (o : Option ℕ) → option_map (pair_with q) o ≡ Some (r, index) → (q ≡ r) × (o ≡ Some index)
    pair q None e = absurd (none-some (r, index) e)
    pair q (Some i) e = let same = some-same (q, i) (r, index) e in (ap (λ (x : RecordAt × ℕ). x.0) same, ap (λ (x : RecordAt × ℕ). Some x.1) same)

    from : IsFound (choice_in areas) list (r, index) → IsListed areas list r index
    from f =
        let both = pair f.element.0 (named areas f.element.1) f.is in
        record { place = f.place; body = f.element.1; there = f.there ∙ ap (λ (q : RecordAt). Some (q, f.element.1)) both.0; names = both.1 }

pub contained : (list : List Entry) (i : ℕ) (r : RecordAt) (body : List ℕ) → slice_get list i ≡ Some (r, body) → Contains (record_places list) r
contained list i r body at = listed_from (record_places list) i (Some r) (sym (slice_get-map (λ (entry : Entry). entry.0) list i ∙ ap (option_map (λ (entry : Entry). entry.0)) at)) r refl

-- the body of a record has the bytes that its place says
pub body-len : (d : Device) (ring : Ring) → IsLawful d.banks d.bytes → StandsOn d ring → (i : ℕ) (r : RecordAt) (body : List ℕ) → slice_get (entries_on d ring.area) i ≡ Some (r, body)
    → (body ≡ body_at d ring.area r) × (length body ≡ r.len)
body-len d ring lawful on i r body at =
    let has = has_size d ring.area lawful on.area in
    let is : body ≡ slice_range (sector_at (sectors_of d ring.area) r.sector) r.body (r.body + r.len) = body_is (unit_of d ring.area) (sectors_of d ring.area) ring.oldest (ring.used + uncounted ring.stage) on.sectors.form i (r, body) at in
    let here = there (unit_of d ring.area) (sector_size d ring.area) (sectors_of d ring.area) has ring on.sectors ring.area.sectors (sym (count-sectors d ring.area)) r (contained (entries_on d ring.area) i r body at) in
    let size : length (sector_at (sectors_of d ring.area) r.sector) ≡ sector_size d ring.area = has.each r.sector (omega (arith, here.sector, count-sectors d ring.area)) in
    let long : length (slice_range (sector_at (sectors_of d ring.area) r.sector) r.body (r.body + r.len)) ≡ r.len + r.body - r.body =
    length-take-le (r.body + r.len - r.body) _ (omega (arith, length-drop r.body (sector_at (sectors_of d ring.area) r.sector), here.fits)) ∙ omega arith in
    (is, ap length is ∙ long ∙ omega arith)

-- ---- a collection

-- all records of a sector are of it
mapped-of : (place : ℕ) (sector : List ℕ) (rs : List Record) (i : ℕ) (e : Entry) → slice_get (map (entry_of place sector) rs) i ≡ Some e → e.0.sector ≡ place
mapped-of place sector [] i e is = absurd (none-some e is)
mapped-of place sector (r ∷ rs) zero e is = sym (ap (λ (x : Entry). x.0.sector) (some-same (entry_of place sector r) e is))
mapped-of place sector (r ∷ rs) (suc i) e is = mapped-of place sector rs i e is

pub entries-of : (unit place : ℕ) (sector : List ℕ) (i : ℕ) (e : Entry) → slice_get (sector_entries unit place sector) i ≡ Some e → e.0.sector ≡ place
unfolding sector_entries
entries-of unit place sector i e is = mapped-of place sector (filter (λ r. r.checks) (records unit sector)) i e is

pub bodies-append : (xs ys : List Entry) → bodies (xs ++ ys) ≡ bodies xs ++ bodies ys
bodies-append [] ys = refl
bodies-append (x ∷ xs) ys = ap (λ (l : List (List ℕ)). x.1 ∷ l) (bodies-append xs ys)

-- the copies of a collection, by the last choice and its body
abbrev pub copies_by : ℕ → Option (RecordAt × ℕ) → (RecordAt → List ℕ) → List (List ℕ)
copies_by oldest None body = []
copies_by oldest (Some choice) body = cond (eqb choice.0.sector oldest) (body choice.0 ∷ []) []

module _ (areas : List Area) (oldest : ℕ) (first rest : List Entry) (of : (i : ℕ) (e : Entry) → slice_get first i ≡ Some e → e.0.sector ≡ oldest) where
  rest-none : last_choice areas (first ++ rest) ≡ None → last_choice areas rest ≡ None
  rest-none is = at (last_choice areas rest) refl (sym (latest-append (choice_in areas) first rest) ∙ is)
    where
      at : (o : Option (RecordAt × ℕ)) → last_choice areas rest ≡ o → option_or o (last_choice areas first) ≡ None → last_choice areas rest ≡ None
      at None e is = e
      at (Some x) e is = absurd (none-some x (sym is))

  rest-some : (choice : RecordAt × ℕ) → last_choice areas (first ++ rest) ≡ Some choice → choice.0.sector ≢ oldest → last_choice areas rest ≡ Some choice
  rest-some choice is apart = at (last_choice areas rest) refl (sym (latest-append (choice_in areas) first rest) ∙ is)
    where
      at : (o : Option (RecordAt × ℕ)) → last_choice areas rest ≡ o → option_or o (last_choice areas first) ≡ Some choice → last_choice areas rest ≡ Some choice
      at (Some x) e is = e ∙ is
      at None e is = let l = last-listed areas first choice.0 choice.1 is in absurd (apart (of l.place (choice.0, l.body) l.there))

  pub collected : (last : Option (RecordAt × ℕ)) (body : RecordAt → List ℕ) → last_choice areas (first ++ rest) ≡ last → ((choice : RecordAt × ℕ) → last ≡ Some choice → named areas (body choice.0) ≡ Some choice.1)
      → chosen areas (bodies rest ++ copies_by oldest last body) ≡ chosen areas (bodies (first ++ rest))
  collected None body is names =
      ap (chosen areas) (append-nil (bodies rest)) ∙ chosen-last areas rest ∙ ap (option_map (λ (choice : RecordAt × ℕ). choice.1)) (rest-none is ∙ sym is) ∙ sym (chosen-last areas (first ++ rest))
  collected (Some choice) body is names = elim (cases_Bool (eqb choice.0.sector oldest)) [
    | inl here ↦
        ap (λ (b : Bool). chosen areas (bodies rest ++ cond b (body choice.0 ∷ []) [])) here
        ∙ latest-push (named areas) (bodies rest) (body choice.0)
        ∙ ap (λ (o : Option ℕ). option_or o (chosen areas (bodies rest))) (names choice refl)
        ∙ sym (chosen-last areas (first ++ rest) ∙ ap (option_map (λ (choice : RecordAt × ℕ). choice.1)) is)
    | inr apart ↦
        ap (λ (b : Bool). chosen areas (bodies rest ++ cond b (body choice.0 ∷ []) [])) apart
        ∙ ap (chosen areas) (append-nil (bodies rest))
        ∙ chosen-last areas rest
        ∙ ap (option_map (λ (choice : RecordAt × ℕ). choice.1)) (rest-some choice is (λ same. false≢true (sym apart ∙ eq-eqb choice.0.sector oldest same)) ∙ sym is)
        ∙ sym (chosen-last areas (first ++ rest))
  ]
