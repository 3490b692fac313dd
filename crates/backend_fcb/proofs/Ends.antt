-- How the calls of the backend end.
use Rattle.std.proofs.Common.{◌≡◌, ℕ, ◌+◌, ◌-◌, ◌*◌, ◌/◌, ◌<◌, ◌≤◌, Bool, true, false, cond, eqb, not, List, [], length, bytes_eq, Option, Some, None, Result, Ok, Err, OnOk, inl, inr, refl, sym, ap, subst, ◌∙◌, arith}
use Rattle.std.specs.FinMap as finite
use Rattle.std.specs.Prelude.{IsErr}
use Rattle.std.specs.Option.{option_map, is_some}
use Rattle.std.proofs.lemmas.Bool.{cases_Bool, both_ways, ne_eqb, false≢true}
use Rattle.std.proofs.lemmas.Option.{none-some}
use Rattle.std.proofs.lemmas.Slice.Eq.{bytes_eq-Decides}
use Rattle.std.proofs.Math.Nat.{mul-le-mul_right}
use Rattle.flash_sim.specs.Bank.{IsLawful}
use Rattle.flash_sim.specs.Device.{Device}
use Rattle.flash_map.specs.Area.{value_limit, unit_of, sector_size, sectors_of, geometry_of}
use Rattle.flash_map.specs.declared.area.Area.{Area}
use Rattle.flash_map.specs.declared.area.Role.TheVariants.{Fcb as FcbRole}
use Rattle.flash_map.specs.Lawful.{IsLawfulFor}
use Rattle.flash_map.specs.Spending.{SpendsAtMost}
use Rattle.flash_map.specs.Units.{padded}
use Rattle.flash_map.proofs.Rounding.{padding}
use Rattle.flash_map.proofs.SpendingLemmas.{spends_none, spends_most, most_weaker}
use Rattle.setting_name.specs.Name.{IsName}
use Rattle.fcb_ring.specs.declared.ring.Ring.{Ring}
use Rattle.fcb_ring.specs.Rings.{first_damage}
use Rattle.fcb_ring.specs.Standing.{IsRingArea, StandsOn as RingStandsOn, states_on}
use Rattle.fcb_ring.specs.Writing.{record_cost}
use Rattle.fcb_ring.proofs.AppendLemmas.{unit-after, size-after, ready-used}
use Rattle.fcb_ring.proofs.AreaLemmas.{has_size}
use Rattle.backend_api.specs.Commands.{applied}
use Rattle.backend_api.specs.Commands.Command.{Put, Del}
use Rattle.backend_api.specs.Ends.{SpendsSome, Sets, FindsNoSpace, Deletes}
use Rattle.backend_api.specs.Map.{Map, IsStored, IsAbsent}
use Rattle.backend_api.specs.Room.{HasNoRoom, command_units}
use Rattle.backend_api.proofs.MapLemmas.{insert-stored, remove-absent}
use Rattle.backend_fcb.specs.declared.backend.FcbBackend.{FcbBackend}
use Rattle.backend_fcb.specs.Changing.{HasNoPlace, parts_on, collect_units}
use Rattle.record_settings.specs.Last.{last_value, stored}
use Rattle.record_settings.specs.Room.{cap, reserve, room, pair_cost, put_cost, cost_by}
use Rattle.backend_fcb.specs.Reading.{first_overfull}
use Rattle.item_laws.specs.PairRounds.{joined}
use Rattle.record_settings.specs.Rounds.{FindsNoRoom}
use Rattle.record_settings.specs.Settings.{body_of, longest, setting_of, with_setting, settings_of}
use Rattle.backend_fcb.specs.Standing.{Stands, damage_on, settings_on, bodies_on, IsReady}
use Rattle.backend_fcb.specs.Tearing.{body_for}
use Rattle.record_settings.proofs.BodyLemmas.{setting-body_of, length-body_of}
use Rattle.record_settings.proofs.LastLemmas.{get-settings_of}
use Rattle.record_settings.proofs.NoRoom.{rounds-no_room}
use Rattle.backend_fcb.proofs.PartLists.{joined-on, count-parts}
use Rattle.backend_fcb.proofs.PutsCosts.{overfull_at, damage-costs, map-none}
use Rattle.backend_fcb.proofs.RingLists.{ready-none}

-- ---- standing

pub ring-area : (d : Device) (area : Area) → IsLawfulFor d.banks area → area.role ≡ FcbRole → IsRingArea d.banks area
ring-area d area lawful role = record { lawful = lawful; role = inl role }

pub stands-ring : (d : Device) (backend : FcbBackend) → IsLawfulFor d.banks backend.ring.area → Stands backend (unit_of d backend.ring.area) (sectors_of d backend.ring.area) → RingStandsOn d backend.ring
stands-ring d backend lawful stands = record { area = ring-area d backend.ring.area lawful stands.role; sectors = stands.ring }

pub stands-ready : (d : Device) (backend : FcbBackend) → IsLawfulFor d.banks backend.ring.area → Stands backend (unit_of d backend.ring.area) (sectors_of d backend.ring.area) → IsReady d backend.ring
stands-ready d backend lawful stands = record { stands = stands-ring d backend lawful stands; ready = stands.ready; reserve = stands.reserve; undamaged = stands.undamaged }

pub ready-stands : (e : Device) (ring : Ring) (area : Area) → ring.area ≡ area → area.role ≡ FcbRole → IsReady e ring → Stands (record { ring = ring }) (unit_of e ring.area) (sectors_of e ring.area)
ready-stands e ring area same role ready =
    record { role = ap (λ (x : Area). x.role) same ∙ role; ring = ready.stands.sectors; ready = ready.ready; reserve = ready.reserve; undamaged = ready.undamaged }

pub ready-undamaged : (e : Device) (ring : Ring) (area : Area) → ring.area ≡ area → IsReady e ring → damage_on e area ≡ None
ready-undamaged e ring area same ready = subst (λ (x : Area). damage_on e x ≡ None) same ready.undamaged

-- ---- what a name has

pub get-on : (d : Device) (area : Area) (name : List ℕ) → finite.get (settings_on d area) name ≡ stored (last_value (value_limit area) name (bodies_on d area))
get-on d area name = get-settings_of (value_limit area) (bodies_on d area) name

some-same : (x y : List ℕ) → Some x ≡ Some y → x ≡ y
some-same x y e = cc

stored-some : (value : List ℕ) → 0 < length value → stored (Some value) ≡ Some value
stored-some value some = ap (λ (b : Bool). cond b None (Some value)) (ne_eqb (length value) 0 (λ (e : length value ≡ 0). omega arith))

pub stored-is : (found : Option (List ℕ)) (value : List ℕ) → stored found ≡ Some value → found ≡ Some value
stored-is None value e = absurd (none-some value e)
stored-is (Some other) value e = elim (cases_Bool (eqb (length other) 0)) [
  | inl none ↦ absurd (none-some value (sym (ap (λ (b : Bool). cond b None (Some other)) none) ∙ e))
  | inr some ↦ sym (ap (λ (b : Bool). cond b None (Some other)) some) ∙ e
]

pub is-stored : (d : Device) (area : Area) (name value : List ℕ) → 0 < length value → last_value (value_limit area) name (bodies_on d area) ≡ Some value → IsStored (settings_on d area) name value
is-stored d area name value some last = get-on d area name ∙ ap stored last ∙ stored-some value some

pub last-stored : (d : Device) (area : Area) (name value : List ℕ) → IsStored (settings_on d area) name value → last_value (value_limit area) name (bodies_on d area) ≡ Some value
last-stored d area name value is = stored-is (last_value (value_limit area) name (bodies_on d area)) value (sym (get-on d area name) ∙ is)

pub get-none : (d : Device) (area : Area) (name : List ℕ) → last_value (value_limit area) name (bodies_on d area) ≡ None → finite.get (settings_on d area) name ≡ None
get-none d area name last = get-on d area name ∙ ap stored last

pub get-empty : (d : Device) (area : Area) (name value : List ℕ) → last_value (value_limit area) name (bodies_on d area) ≡ Some value → eqb (length value) 0 ≡ true → finite.get (settings_on d area) name ≡ None
get-empty d area name value last empty = get-on d area name ∙ ap stored last ∙ ap (λ (b : Bool). cond b None (Some value)) empty

pub get-some : (d : Device) (area : Area) (name value : List ℕ) → last_value (value_limit area) name (bodies_on d area) ≡ Some value → eqb (length value) 0 ≡ false → finite.get (settings_on d area) name ≡ Some value
get-some d area name value last some = get-on d area name ∙ ap stored last ∙ ap (λ (b : Bool). cond b None (Some value)) some

-- whether it has one
pub has-some : (d : Device) (area : Area) (name value : List ℕ) → last_value (value_limit area) name (bodies_on d area) ≡ Some value → finite.contains_key (settings_on d area) name ≡ not (eqb (length value) 0)
has-some d area name value last = ap is_some (get-on d area name ∙ ap stored last) ∙ there (eqb (length value) 0)
  where
    there : (b : Bool) → is_some (cond b None (Some value)) ≡ not b
    there true = refl
    there false = refl

pub stored-yes : (d : Device) (area : Area) (name value other : List ℕ) → 0 < length value → last_value (value_limit area) name (bodies_on d area) ≡ Some other → bytes_eq other value ≡ true → IsStored (settings_on d area) name value
stored-yes d area name value other some last same = is-stored d area name value some (last ∙ ap Some ((bytes_eq-Decides other value).0 same))

pub stored-not : (d : Device) (area : Area) (name value other : List ℕ) → last_value (value_limit area) name (bodies_on d area) ≡ Some other → bytes_eq other value ≡ false → IsStored (settings_on d area) name value → ⊥
stored-not d area name value other last apart is =
    let e : other ≡ value = some-same other value (sym last ∙ last-stored d area name value is) in
    both_ways (bytes_eq other value) apart ((bytes_eq-Decides other value).1 e)

pub stored-nowhere : (d : Device) (area : Area) (name value : List ℕ) → last_value (value_limit area) name (bodies_on d area) ≡ None → IsStored (settings_on d area) name value → ⊥
stored-nowhere d area name value last is = none-some value (sym last ∙ last-stored d area name value is)

-- ---- mounting

pub damage-none : (d : Device) (area : Area) → first_damage (states_on d area) ≡ None → first_overfull (value_limit area) (unit_of d area) (sectors_of d area) ≡ None → damage_on d area ≡ None
damage-none d area ring costs = damage-costs (value_limit area) (unit_of d area) (sectors_of d area) ring ∙ ap (option_map overfull_at) costs

pub overfull-not : (d : Device) (area : Area) → None ≡ option_map overfull_at (first_overfull (value_limit area) (unit_of d area) (sectors_of d area)) → first_overfull (value_limit area) (unit_of d area) (sectors_of d area) ≡ None
overfull-not d area e = map-none overfull_at (first_overfull (value_limit area) (unit_of d area) (sectors_of d area)) (sym e)

-- ---- what is said of the other result

pub not-ok : {T E : Type 0} (P : Type 0) (r : Result T E) → IsErr r → OnOk r P
not-ok P (Ok x) is = absurd (false≢true is)
not-ok P (Err e) is = tt

-- ---- the body that is put, and the collections for it

pub some-bytes : (body name value : List ℕ) → body ≡ body_of name value → 0 < length body
some-bytes body name value is = omega (arith, ap length is, length-body_of name value)

pub few-bytes : (body name value : List ℕ) (limit : ℕ) → body ≡ body_of name value → IsName name → length value ≤ limit → length body ≤ longest limit
few-bytes body name value limit is lawful short = omega (arith, ap length is, length-body_of name value, lawful.short)

pub one-less : (sectors all : ℕ) → sectors ≡ all → 2 ≤ all → sectors - 1 < all
one-less sectors all is several = omega arith

pub none-more : (d : Device) (most : ℕ) → SpendsAtMost d d most
none-more d most = most_weaker d d 0 most (omega arith) (spends_most d d 0 (spends_none d))

-- ---- setting

with-value : (m : Map) (name value : List ℕ) → 0 < length value → with_setting m (Some (name, value)) ≡ finite.insert m name value
with-value m name value some = ap (λ (b : Bool). cond b (finite.remove m name) (finite.insert m name value)) (ne_eqb (length value) 0 (λ (e : length value ≡ 0). omega arith))

pub sets-same : (d : Device) (area : Area) (name value : List ℕ) (unit size : ℕ) → IsStored (settings_on d area) name value → Sets (room unit size) d d (settings_on d area) (settings_on d area) name value
sets-same d area name value unit size is = record {
  free = refl;
  settings = sym (insert-stored (settings_on d area) name value is);
  same = λ _. refl;
  spends = λ apart. absurd (apart is);
}

pub sets-new : (d e : Device) (area : Area) (name value : List ℕ) (unit size : ℕ) → IsName name → 0 < length value → length value ≤ value_limit area → (IsStored (settings_on d area) name value → ⊥) → settings_on e area ≡ with_setting (settings_on d area) (setting_of (value_limit area) (body_of name value)) → SpendsSome d e
    → Sets (room unit size) d e (settings_on d area) (settings_on e area) name value
sets-new d e area name value unit size lawful some short other settings spends = record {
  free = refl;
  settings = settings ∙ ap (with_setting (settings_on d area)) (setting-body_of (value_limit area) name value lawful short) ∙ with-value (settings_on d area) name value some;
  same = λ is. absurd (other is);
  spends = λ _. spends;
}

pub finds-no_space : (d e : Device) (ring after : Ring) (name value : List ℕ) (kept rounds need live : ℕ) → IsReady d ring → (IsStored (settings_on d ring.area) name value → ⊥) → kept ≡ reserve (unit_of d ring.area) → rounds + 1 ≡ ring.area.sectors → after.area ≡ ring.area
    → HasNoPlace d e ring after (length (body_of name value)) kept rounds → need ≡ pair_cost (unit_of d ring.area) (name, value) → live ≡ (room (unit_of d ring.area) (sector_size d ring.area)).cost (settings_on d ring.area)
    → FindsNoSpace (room (unit_of d ring.area) (sector_size d ring.area)) ring.area.sectors (settings_on d ring.area) (settings_on e ring.area) name value need live
finds-no_space d e ring after name value kept rounds need live ready other keeps all area full need-is live-is = record {
  free = refl;
  other = other;
  full =
      let none = ready-none ring ready.ready in
      let free = ready-used d ring ready.stands ready.ready in
      let count = count-parts d ring ready.stands none free in
      let len : rounds ≡ length (parts_on d ring) = omega (arith, full.left) in
      let cost : record_cost (unit_of d ring.area) (length (body_of name value)) ≡ pair_cost (unit_of d ring.area) (name, value) = ap (record_cost (unit_of d ring.area)) (length-body_of name value) in
      let capacity : sector_size d ring.area - padded (unit_of d ring.area) 8 - kept ≡ cap (unit_of d ring.area) (sector_size d ring.area) = ap (λ (k : ℕ). sector_size d ring.area - padded (unit_of d ring.area) 8 - k) keeps in
      let one : FindsNoRoom (value_limit ring.area) (unit_of d ring.area) (pair_cost (unit_of d ring.area) (name, value)) (sector_size d ring.area - padded (unit_of d ring.area) 8 - kept) (parts_on d ring) (parts_on e after) rounds =
      subst (λ (n : ℕ). FindsNoRoom (value_limit ring.area) (unit_of d ring.area) n (sector_size d ring.area - padded (unit_of d ring.area) 8 - kept) (parts_on d ring) (parts_on e after) rounds) cost full.none in
      let two : FindsNoRoom (value_limit ring.area) (unit_of d ring.area) (pair_cost (unit_of d ring.area) (name, value)) (cap (unit_of d ring.area) (sector_size d ring.area)) (parts_on d ring) (parts_on e after) rounds =
      subst (λ (n : ℕ). FindsNoRoom (value_limit ring.area) (unit_of d ring.area) (pair_cost (unit_of d ring.area) (name, value)) n (parts_on d ring) (parts_on e after) rounds) capacity one in
      let three : FindsNoRoom (value_limit ring.area) (unit_of d ring.area) (pair_cost (unit_of d ring.area) (name, value)) (cap (unit_of d ring.area) (sector_size d ring.area)) (parts_on d ring) (parts_on e after) (length (parts_on d ring)) =
      subst (λ (n : ℕ). FindsNoRoom (value_limit ring.area) (unit_of d ring.area) (pair_cost (unit_of d ring.area) (name, value)) (cap (unit_of d ring.area) (sector_size d ring.area)) (parts_on d ring) (parts_on e after) n) len two in
      let same : settings_of (value_limit ring.area) (joined (parts_on e after)) ≡ settings_on d ring.area =
      ap (settings_of (value_limit ring.area)) (joined-on e after full.ready.stands (ready-none after full.ready.ready) (ready-used e after full.ready.stands full.ready.ready))
      ∙ ap (λ (x : Area). settings_of (value_limit x) (bodies_on e after.area)) (sym area) ∙ ap (λ (x : Area). settings_on e x) area ∙ full.settings in
      subst (λ (m : Map). HasNoRoom (room (unit_of d ring.area) (sector_size d ring.area)) ring.area.sectors m name value) same
      (rounds-no_room (value_limit ring.area) (unit_of d ring.area) (sector_size d ring.area) ring.area.sectors (parts_on d ring) (parts_on e after) name value three (omega (arith, ready.stands.area.lawful.several)) (omega arith));
  needs = need-is;
  lives = live-is;
  settings = full.settings;
}

-- ---- deleting

with-none : (m : Map) (name : List ℕ) → with_setting m (Some (name, [])) ≡ finite.remove m name
with-none m name = refl

pub deletes-same : (d : Device) (area : Area) (name : List ℕ) → IsAbsent (settings_on d area) name → Deletes d d (settings_on d area) (settings_on d area) name
deletes-same d area name is = record { settings = sym (remove-absent (settings_on d area) name is); absent = λ _. refl; spends = λ apart. absurd (apart is) }

pub deletes-one : (d e : Device) (area : Area) (name : List ℕ) → IsName name → (IsAbsent (settings_on d area) name → ⊥) → settings_on e area ≡ with_setting (settings_on d area) (setting_of (value_limit area) (body_of name [])) → SpendsSome d e → Deletes d e (settings_on d area) (settings_on e area) name
deletes-one d e area name lawful other settings spends = record {
  settings = settings ∙ ap (with_setting (settings_on d area)) (setting-body_of (value_limit area) name [] lawful (omega arith)) ∙ with-none (settings_on d area) name;
  absent = λ is. absurd (other is);
  spends = λ _. spends;
}

-- behind a collection a delete fits
pub delete-fits : (d e : Device) (ring after : Ring) (len : ℕ) → IsLawful d.banks d.bytes → IsReady d ring → e.banks ≡ d.banks → after.area ≡ ring.area → len ≤ 65 → HasNoPlace d e ring after len 0 1 → ⊥
delete-fits d e ring after len lawful ready banks area short full =
    let has = has_size d ring.area lawful ready.stands.area in
    let pad = padding (unit_of d ring.area) has.is_unit in
    let unit = unit-after d e ring.area after.area banks area in
    let size = size-after d e ring.area after.area banks area in
    let one : sector_size e after.area < after.end + record_cost (unit_of d ring.area) len + 0 = subst (λ (u : ℕ). sector_size e after.area < after.end + record_cost u len + 0) unit full.full in
    let two = full.end (omega arith) in
    let cost : record_cost (unit_of d ring.area) len ≤ reserve (unit_of d ring.area) = omega (arith, pad.least len (padded (unit_of d ring.area) 65) (omega (arith, pad.no_less 65)) (pad.aligned 65)) in
    omega (arith, has.at_least, pad.small, pad.no_more 8, pad.no_more 65)

-- ---- units

pub few-rounds : (d : Device) (ring : Ring) (rounds : ℕ) → rounds + 1 ≤ ring.area.sectors → (rounds + 1) * collect_units d ring ≤ command_units (geometry_of d ring.area)
few-rounds d ring rounds le =
    let one : (rounds + 1) * collect_units d ring ≤ ring.area.sectors * collect_units d ring = mul-le-mul_right (collect_units d ring) le in
    let all : 12 * ring.area.sectors * (sector_size d ring.area / unit_of d ring.area + 3) ≡ 12 * (ring.area.sectors * collect_units d ring) = omega arith in
    omega arith

pub two-rounds : (d : Device) (ring : Ring) → 2 ≤ ring.area.sectors → (1 + 1) * collect_units d ring ≤ command_units (geometry_of d ring.area)
two-rounds d ring several = few-rounds d ring 1 several

-- ---- whether a name has a value

pub absent-yes : {X : Type 0} (f : X → List ℕ) (o : Option X) (got : Option (List ℕ)) → option_map f o ≡ got → is_some o ≡ false → got ≡ None
absent-yes f None got e none = sym e
absent-yes f (Some x) got e none = absurd (both_ways true none refl)

pub absent-not : {X : Type 0} (f : X → List ℕ) (o : Option X) (got : Option (List ℕ)) → option_map f o ≡ got → is_some o ≡ true → got ≡ None → ⊥
absent-not f None got e some none = both_ways false refl some
absent-not f (Some x) got e some none = none-some (f x) (sym (e ∙ none))

-- a delete puts no value
pub delete-cost : (limit unit : ℕ) (name : List ℕ) → IsName name → put_cost limit unit (body_of name []) ≡ 0
delete-cost limit unit name lawful = ap (cost_by unit (length (body_of name []))) (setting-body_of limit name [] lawful (omega arith))

-- ---- as commands

pub puts-value : (limit : ℕ) (m : Map) (name value : List ℕ) → IsName name → 0 < length value → length value ≤ limit → with_setting m (setting_of limit (body_for (Put name value))) ≡ applied m (Put name value)
puts-value limit m name value lawful some short = ap (with_setting m) (setting-body_of limit name value lawful short) ∙ with-value m name value some

pub takes-value : (limit : ℕ) (m : Map) (name : List ℕ) → IsName name → with_setting m (setting_of limit (body_for (Del name))) ≡ applied m (Del name)
takes-value limit m name lawful = ap (with_setting m) (setting-body_of limit name [] lawful (omega arith)) ∙ with-none m name
