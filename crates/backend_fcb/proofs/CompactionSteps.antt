-- Compaction, one step at a time.
use Rattle.std.proofs.Common.{◌≡◌, ◌≢◌, ℕ, ◌+◌, ◌-◌, ◌<◌, ◌≤◌, Bool, true, false, cond, eqb, not, ◌&&◌, ◌==◌, List, [], ◌∷◌, ◌++◌, length, Option, Some, None, refl, sym, ap, subst, ◌∙◌, inl, inr, append_assoc, arith}
use Rattle.std.specs.List.{slice_get, All}
use Rattle.std.proofs.lemmas.Bool.{cases_Bool, cases_lt, both_ways, eq-eqb}
use Rattle.std.proofs.lemmas.List.{append-nil, map-append, length-append, length-map}
use Rattle.std.proofs.lemmas.List.Elements.{All-nil, All-cons, All-push}
use Rattle.std.proofs.lemmas.Option.{none-some}
use Rattle.std.proofs.lemmas.Slice.Eq.{bytes_eq-Decides}
use Rattle.flash_sim.specs.Bank.{IsLawful}
use Rattle.flash_sim.specs.Device.{Device}
use Rattle.flash_map.specs.Area.{value_limit}
use Rattle.flash_map.specs.declared.area.Area.{Area}
use Rattle.fcb_ring.specs.Changing.{body_at}
use Rattle.fcb_ring.specs.Entries.{bodies}
use Rattle.fcb_ring.specs.Standing.{StandsOn as RingStandsOn, IsNext, IsListed, entries_on, record_places}
use Rattle.fcb_ring.specs.declared.record.RecordAt.{RecordAt}
use Rattle.fcb_ring.specs.declared.ring.Ring.{Ring}
use Rattle.fcb_ring.proofs.NextLemmas.{contained_at}
use Rattle.record_settings.specs.Live.{has_name, is_live, is_live_by, live_bodies}
use Rattle.record_settings.specs.Settings.{setting_of}
use Rattle.record_settings.proofs.LiveLemmas.{copies-none, copies-push}
use Rattle.backend_fcb.specs.Compaction.{mark, is_within, AreKeptWithin, IsKept, bodies_at, is_kept_of, without_first, struck_by, struck, noted_by, noted, BeginsAt, PassesFrom, StrikesFrom, if_within, FindsLive, FindsLiveFrom}
use Rattle.backend_fcb.specs.declared.compaction.Kept.{Kept}
use Rattle.backend_fcb.specs.declared.compaction.TheConstants.{TABLE}
use Rattle.backend_fcb.proofs.BodyAt.{body-there}
use Rattle.backend_fcb.proofs.SectorLists.{bodies-append}
use Rattle.backend_fcb.proofs.TableLaws.{without-nil, without-here, without-there, without-all, struck_bodies, live-struck, live-few}
use Rattle.backend_fcb.proofs.WalkLemmas.{Entry, first-of, none-of, some-same, next-behind, left_at, from_last, left-none, left-some, last-behind, last-most, last-there, place-of, split-long}

-- ---- the marks of names

-- a record with another mark is of another name
pub marked : (d : Device) (area : Area) (name : List ℕ) (kept : Kept) → IsKept d area kept → kept.mark ≢ mark name → is_kept_of d area name kept ≡ false
marked d area name kept is apart = by (setting_of (value_limit area) (body_at d area kept.at)) refl
  where
    by : (s : Option (List ℕ × List ℕ)) → setting_of (value_limit area) (body_at d area kept.at) ≡ s → has_name name s ≡ false
    by None says = refl
    by (Some (own, value)) says = elim (cases_Bool (has_name name (Some (own, value)))) [
      | inl same ↦ absurd (apart (is.mark own value says ∙ ap mark ((bytes_eq-Decides own name).0 same)))
      | inr other ↦ other
    ]

-- ---- the table once a record came

bodies-without : (d : Device) (area : Area) (name : List ℕ) (table : List Kept)
    → bodies_at d area (without_first (is_kept_of d area name) table) ≡ without_first (λ body. has_name name (setting_of (value_limit area) body)) (bodies_at d area table)
bodies-without d area name [] =
    ap (bodies_at d area) (without-nil (is_kept_of d area name)) ∙ sym (without-nil (λ (body : List ℕ). has_name name (setting_of (value_limit area) body)))
bodies-without d area name (kept ∷ rest) =
    let p : Kept → Bool = is_kept_of d area name in
    let q : List ℕ → Bool = λ body. has_name name (setting_of (value_limit area) body) in
    elim (cases_Bool (is_kept_of d area name kept)) [
      | inl here ↦ ap (bodies_at d area) (without-here p kept rest here) ∙ sym (without-here q (body_at d area kept.at) (bodies_at d area rest) here)
      | inr other ↦
          ap (bodies_at d area) (without-there p kept rest other) ∙ ap (λ (l : List (List ℕ)). body_at d area kept.at ∷ l) (bodies-without d area name rest)
          ∙ sym (without-there q (body_at d area kept.at) (bodies_at d area rest) other)
    ]

bodies-struck : (d : Device) (area : Area) (s : Option (List ℕ × List ℕ)) (table : List Kept) → bodies_at d area (struck_by d area s table) ≡ struck_bodies (value_limit area) s (bodies_at d area table)
bodies-struck d area None table = refl
bodies-struck d area (Some (name, value)) table = bodies-without d area name table

pub struck-all : (P : Kept → Type 0) (d : Device) (area : Area) (s : Option (List ℕ × List ℕ)) (table : List Kept) → All P table → All P (struck_by d area s table)
struck-all P d area None table all = all
struck-all P d area (Some (name, value)) table all = without-all (is_kept_of d area name) P table all

-- there is room where a table is not full
pub not-full : (n most : ℕ) → n ≤ most → eqb n most ≡ false → n < most
not-full n most le other = elim (cases_lt n most) [
  | inl lt ↦ lt
  | inr ge ↦ let same : n ≡ most = omega arith in absurd (both_ways (eqb n most) other (eq-eqb n most same))
]

noted-all : (P : Kept → Type 0) (r : RecordAt) (s : Option (List ℕ × List ℕ)) → ((name value : List ℕ) → s ≡ Some (name, value) → P (record { at = r; mark = mark name })) → All P (noted_by r s)
noted-all P r None each = All-nil P
noted-all P r (Some (name, value)) each = elim (cases_Bool (length value == 0)) [
  | inl gone ↦ subst (λ (t : Bool). All P (cond t [] (record { at = r; mark = mark name } ∷ []))) (sym gone) (All-nil P)
  | inr some ↦ subst (λ (t : Bool). All P (cond t [] (record { at = r; mark = mark name } ∷ []))) (sym some) (All-cons P (record { at = r; mark = mark name }) [] (each name value refl) (All-nil P))
]

pub noted-kept : (d : Device) (area : Area) (r : RecordAt) → IsListed d area r → All (IsKept d area) (noted d area r)
noted-kept d area r listed =
    noted-all (IsKept d area) r (setting_of (value_limit area) (body_at d area r))
    (λ name value is. record {
      listed = listed;
      mark = λ own bytes says. ap mark (ap (λ (pair : List ℕ × List ℕ). pair.0) (some-same (name, value) (own, bytes) (sym is ∙ says)));
    })

pub noted-within : (d : Device) (area : Area) (part : Option ℕ) (r : RecordAt) → is_within part r ≡ true → AreKeptWithin part (noted d area r)
noted-within d area part r within = noted-all (λ (kept : Kept). is_within part kept.at ≡ true) r (setting_of (value_limit area) (body_at d area r)) (λ name value is. within)

noted-bodies : (d : Device) (area : Area) (r : RecordAt) → bodies_at d area (noted d area r) ≡ cond (is_live (value_limit area) (body_at d area r) []) (body_at d area r ∷ []) []
noted-bodies d area r = by (setting_of (value_limit area) (body_at d area r))
  where
    by : (s : Option (List ℕ × List ℕ)) → bodies_at d area (noted_by r s) ≡ cond (is_live_by (value_limit area) s []) (body_at d area r ∷ []) []
    by None = refl
    by (Some (name, value)) = elim (cases_Bool (length value == 0)) [
      | inl gone ↦
          ap (λ (t : Bool). bodies_at d area (cond t [] (record { at = r; mark = mark name } ∷ []))) gone ∙ sym (ap (λ (t : Bool). cond (not t && not false) (body_at d area r ∷ []) []) gone)
      | inr some ↦
          ap (λ (t : Bool). bodies_at d area (cond t [] (record { at = r; mark = mark name } ∷ []))) some ∙ sym (ap (λ (t : Bool). cond (not t && not false) (body_at d area r ∷ []) []) some)
    ]

-- ---- the second walk

-- so much of the list behind was gone through
pub record Struck (d : Device) (area : Area) (later : List Entry) (passed : List (List ℕ)) (table : List Kept) (place : Option RecordAt) : Type 0 where
  pub seen : List Entry
  pub rest : List Entry
  pub are : later ≡ seen ++ rest
  pub here : BeginsAt place rest
  pub live : bodies_at d area table ≡ live_bodies (value_limit area) passed (bodies seen)

abbrev pub StruckFrom : Device → Area → Option RecordAt → List Kept → List Kept → Option RecordAt → Type 0
StruckFrom d area from old table place =
    (done later : List Entry) (passed : List (List ℕ)) → entries_on d area ≡ done ++ later → BeginsAt from later → bodies_at d area old ≡ live_bodies (value_limit area) passed [] → Struck d area later passed table place

-- ---- the first walk

pub passes-start : (d : Device) (area : Area) (part : Option ℕ) (place : Option RecordAt) (table : List Kept) → table ≡ [] → PassesFrom d area part place table place
passes-start d area part place table empty done later are begins = record {
  passed = [];
  rest = later;
  are = refl;
  within = All-nil (λ (entry : Entry). is_within part entry.0 ≡ true);
  here = begins;
  live = ap (bodies_at d area) empty ∙ sym (copies-none (value_limit area) []);
}

module _ (d : Device) (ring : Ring) (lawful : IsLawful d.banks d.bytes) (on : RingStandsOn d ring) where
  pub passes-step : (part : Option ℕ) (from : Option RecordAt) (table after : List Kept) (r : RecordAt) (next : Option RecordAt) → PassesFrom d ring.area part from table (Some r) → is_within part r ≡ true
      → after ≡ struck d ring.area (body_at d ring.area r) table ++ noted d ring.area r → IsNext (entries_on d ring.area) (Some r) next → PassesFrom d ring.area part from after next
  passes-step part from table after r next so_far within is next-is done later are begins =
      let limit : ℕ = value_limit ring.area in
      let p = so_far done later are begins in
      let f = first-of p.rest r p.here in
      let whole : entries_on d ring.area ≡ (done ++ p.passed) ++ (r, f.0) ∷ f.1 =
      are ∙ ap (λ (l : List Entry). done ++ l) p.are ∙ ap (λ (l : List Entry). done ++ (p.passed ++ l)) f.2 ∙ sym (append_assoc done p.passed ((r, f.0) ∷ f.1)) in
      let body : f.0 ≡ body_at d ring.area r = body-there d ring lawful on (done ++ p.passed) f.1 r f.0 whole in
      record {
        passed = p.passed ++ (r, f.0) ∷ [];
        rest = f.1;
        are = p.are ∙ ap (λ (l : List Entry). p.passed ++ l) f.2 ∙ sym (append_assoc p.passed ((r, f.0) ∷ []) f.1);
        within = All-push (λ (entry : Entry). is_within part entry.0 ≡ true) p.passed (r, f.0) p.within within;
        here = next-behind (entries_on d ring.area) (done ++ p.passed) r f.0 f.1 next whole next-is;
        live =
            ap (bodies_at d ring.area) is
            ∙ map-append (λ (kept : Kept). body_at d ring.area kept.at) (struck d ring.area (body_at d ring.area r) table) (noted d ring.area r)
            ∙ ap (λ (l : List (List ℕ)). l ++ bodies_at d ring.area (noted d ring.area r)) (bodies-struck d ring.area (setting_of (value_limit ring.area) (body_at d ring.area r)) table)
            ∙ ap (λ (l : List (List ℕ)). struck_bodies (value_limit ring.area) (setting_of (value_limit ring.area) (body_at d ring.area r)) (bodies_at d ring.area table) ++ l) (noted-bodies d ring.area r)
            ∙ ap (λ (l : List (List ℕ)). struck_bodies (value_limit ring.area) (setting_of (value_limit ring.area) (body_at d ring.area r)) l ++ cond (is_live (value_limit ring.area) (body_at d ring.area r) []) (body_at d ring.area r ∷ []) []) p.live
            ∙ ap (λ (l : List (List ℕ)). l ++ cond (is_live (value_limit ring.area) (body_at d ring.area r) []) (body_at d ring.area r ∷ []) []) (sym (live-struck (value_limit ring.area) (bodies p.passed) [] (body_at d ring.area r)))
            ∙ sym (copies-push (value_limit ring.area) (bodies p.passed) (body_at d ring.area r) [])
            ∙ ap (λ (b : List ℕ). live_bodies (value_limit ring.area) (bodies p.passed ++ b ∷ []) []) (sym body)
            ∙ ap (λ (l : List (List ℕ)). live_bodies (value_limit ring.area) l []) (sym (bodies-append p.passed ((r, f.0) ∷ [])));
      }

  pub struck-step : (from : Option RecordAt) (old table after : List Kept) (r : RecordAt) (next : Option RecordAt) → StruckFrom d ring.area from old table (Some r) → after ≡ struck d ring.area (body_at d ring.area r) table → IsNext (entries_on d ring.area) (Some r) next
      → StruckFrom d ring.area from old after next
  struck-step from old table after r next so_far is next-is done later passed are begins live =
      let p = so_far done later passed are begins live in
      let f = first-of p.rest r p.here in
      let whole : entries_on d ring.area ≡ (done ++ p.seen) ++ (r, f.0) ∷ f.1 =
      are ∙ ap (λ (l : List Entry). done ++ l) p.are ∙ ap (λ (l : List Entry). done ++ (p.seen ++ l)) f.2 ∙ sym (append_assoc done p.seen ((r, f.0) ∷ f.1)) in
      let body : f.0 ≡ body_at d ring.area r = body-there d ring lawful on (done ++ p.seen) f.1 r f.0 whole in
      record {
        seen = p.seen ++ (r, f.0) ∷ [];
        rest = f.1;
        are = p.are ∙ ap (λ (l : List Entry). p.seen ++ l) f.2 ∙ sym (append_assoc p.seen ((r, f.0) ∷ []) f.1);
        here = next-behind (entries_on d ring.area) (done ++ p.seen) r f.0 f.1 next whole next-is;
        live =
            ap (bodies_at d ring.area) is
            ∙ bodies-struck d ring.area (setting_of (value_limit ring.area) (body_at d ring.area r)) table
            ∙ ap (λ (l : List (List ℕ)). struck_bodies (value_limit ring.area) (setting_of (value_limit ring.area) (body_at d ring.area r)) l) p.live
            ∙ sym (live-struck (value_limit ring.area) passed (bodies p.seen) (body_at d ring.area r))
            ∙ ap (λ (b : List ℕ). live_bodies (value_limit ring.area) passed (bodies p.seen ++ b ∷ [])) (sym body)
            ∙ ap (λ (l : List (List ℕ)). live_bodies (value_limit ring.area) passed l) (sym (bodies-append p.seen ((r, f.0) ∷ [])));
      }

  pub struck-end : (from : Option RecordAt) (old table : List Kept) → StruckFrom d ring.area from old table None → StrikesFrom d ring.area from old table
  struck-end from old table so_far done later passed are begins live =
      let p = so_far done later passed are begins live in
      let all : later ≡ p.seen = p.are ∙ ap (λ (l : List Entry). p.seen ++ l) (none-of p.rest p.here) ∙ append-nil p.seen in
      p.live ∙ ap (λ (l : List Entry). live_bodies (value_limit ring.area) passed (bodies l)) (sym all)

-- ---- both

pub within-some : (part : Option ℕ) (stop : Option RecordAt) (r : RecordAt) → if_within part stop ≡ Some r → (stop ≡ Some r) × (is_within part r ≡ true)
within-some part None r some = absurd (none-some r some)
within-some part (Some q) r some = elim (cases_Bool (is_within part q)) [
  | inl within ↦
      let same : q ≡ r = some-same q r (sym (ap (λ (t : Bool). cond t (Some q) None) within) ∙ some) in
      (ap Some same, subst (λ (x : RecordAt). is_within part x ≡ true) same within)
  | inr other ↦ absurd (none-some r (sym (ap (λ (t : Bool). cond t (Some q) None) other) ∙ some))
]

-- what two walks find
pub both-walks : (d : Device) (area : Area) (part : Option ℕ) (from stop next : Option RecordAt) (table found : List Kept) → PassesFrom d area part from table stop → StrikesFrom d area stop table found
    → ((r : RecordAt) → stop ≡ Some r → is_within part r ≡ true → length table ≡ TABLE) → next ≡ if_within part stop → FindsLiveFrom d area part from found next
both-walks d area part from stop next table found passes strikes full next-is done later are begins =
    let p = passes done later are begins in
    let whole : entries_on d area ≡ (done ++ p.passed) ++ p.rest = are ∙ ap (λ (l : List Entry). done ++ l) p.are ∙ sym (append_assoc done p.passed p.rest) in
    record {
      passed = p.passed;
      rest = p.rest;
      are = p.are;
      within = p.within;
      live = strikes (done ++ p.passed) p.rest (bodies p.passed) whole p.here p.live;
      next = next-is ∙ ap (if_within part) p.here;
      many = λ r some.
          let at = within-some part stop r (sym next-is ∙ some) in
          let long : length table ≡ TABLE = full r at.0 at.1 in
          let few = live-few (value_limit area) (bodies p.passed) [] in
          let one : length (bodies_at d area table) ≡ length table = length-map table (λ (kept : Kept). body_at d area kept.at) in
          let two : length (bodies p.passed) ≡ length p.passed = length-map p.passed (λ (entry : Entry). entry.1) in
          let three : length (bodies_at d area table) ≡ length (live_bodies (value_limit area) (bodies p.passed) []) = ap length p.live in
          omega arith;
    }

-- ---- less is left

pub finds_live-smaller : (d : Device) (area : Area) (part : Option ℕ) (r : RecordAt) (next : Option RecordAt) (found : List Kept) → IsListed d area r → FindsLiveFrom d area part (Some r) found next
    → left_at (record_places (entries_on d area)) next < left_at (record_places (entries_on d area)) (Some r)
finds_live-smaller d area part r None found listed is =
    let list = entries_on d area in
    let at = contained_at (record_places (entries_on d area)) r listed in
    let some = (last-behind (record_places (entries_on d area)) at.0 r at.1).0 in
    omega (arith, left-none (record_places (entries_on d area)), left-some (record_places (entries_on d area)) r)
finds_live-smaller d area part r (Some q) found listed is =
    let places : List RecordAt = record_places (entries_on d area) in
    let at = contained_at (record_places (entries_on d area)) r listed in
    let some = (last-behind (record_places (entries_on d area)) at.0 r at.1).0 in
    let most = last-most (record_places (entries_on d area)) r in
    let j : ℕ = length (record_places (entries_on d area)) - from_last (record_places (entries_on d area)) r in
    let s = split-long (entries_on d area) j r (last-there (record_places (entries_on d area)) r some) in
    let g = is s.0 ((r, s.1) ∷ s.2) s.3 refl in
    let w = within-some part (slice_get (record_places g.rest) 0) q (sym g.next) in
    let f = first-of g.rest q (sym w.0) in
    let whole : entries_on d area ≡ (s.0 ++ g.passed) ++ (q, f.0) ∷ f.1 =
    s.3 ∙ ap (λ (l : List Entry). s.0 ++ l) g.are ∙ ap (λ (l : List Entry). s.0 ++ (g.passed ++ l)) f.2 ∙ sym (append_assoc s.0 g.passed ((q, f.0) ∷ f.1)) in
    let there : slice_get (record_places (entries_on d area)) (length (s.0 ++ g.passed)) ≡ Some q =
    ap (λ (l : List Entry). slice_get (record_places l) (length (s.0 ++ g.passed))) whole ∙ place-of (s.0 ++ g.passed) q f.0 f.1 in
    let b = (last-behind (record_places (entries_on d area)) (length (s.0 ++ g.passed)) q there).1 in
    let many = g.many q refl in
    let long : length (s.0 ++ g.passed) ≡ length s.0 + length g.passed = length-append s.0 g.passed in
    let first : length s.0 ≡ length (record_places (entries_on d area)) - from_last (record_places (entries_on d area)) r = s.4 in
    omega (arith, left-some (record_places (entries_on d area)) r, left-some (record_places (entries_on d area)) q)

-- ---- where the walks are

-- So much of a list was gone through, and the walk goes on at this record; where there is none, no record of the part is next.
pub record IsAtPart (part : Option ℕ) (list : List Entry) (place : Option RecordAt) (done later : List Entry) : Type 0 where
  pub are : list ≡ done ++ later
  pub here : (r : RecordAt) → place ≡ Some r → BeginsAt (Some r) later
  pub stops : place ≡ None → (x : Entry) (rest : List Entry) → later ≡ x ∷ rest → is_within part x.0 ≡ false

pub part-start : (part : Option ℕ) (list : List Entry) (next : Option RecordAt) → IsNext list None next → IsAtPart part list next [] list
part-start part list next is = record {
  are = refl;
  here = λ r some. sym some ∙ is;
  stops = λ none x rest begins. absurd (none-some x.0 (sym none ∙ is ∙ ap (λ (l : List Entry). slice_get (record_places l) 0) begins));
}

outside : (part : Option ℕ) (r : RecordAt) → if_within part (Some r) ≡ None → is_within part r ≡ false
outside part r none = elim (cases_Bool (is_within part r)) [
  | inl inside ↦ absurd (none-some r (sym none ∙ ap (λ (t : Bool). cond t (Some r) None) inside))
  | inr beyond ↦ beyond
]

pub part-step : (d : Device) (area : Area) (part : Option ℕ) (list : List Entry) (r : RecordAt) (done later : List Entry) (found : List Kept) (next : Option RecordAt) → IsAtPart part list (Some r) done later → (g : FindsLive d area part later found next)
    → IsAtPart part list next (done ++ g.passed) g.rest
part-step d area part list r done later found next at g = record {
  are = at.are ∙ ap (λ (l : List Entry). done ++ l) g.are ∙ sym (append_assoc done g.passed g.rest);
  here = λ q some. sym (within-some part (slice_get (record_places g.rest) 0) q (sym g.next ∙ some)).0;
  stops = λ none x rest begins. outside part x.0 (sym (ap (λ (l : List Entry). if_within part (slice_get (record_places l) 0)) begins) ∙ sym g.next ∙ none);
}
