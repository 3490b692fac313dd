-- How writing and deleting end.
use Rattle.std.proofs.Common.{◌≡◌, ℕ, ◌+◌, ◌-◌, ◌*◌, ◌<◌, ◌≤◌, Bool, true, false, ◌^◌, cond, eqb, ltb, List, [], ◌∷◌, ◌++◌, length, Option, Some, None, refl, sym, ap, subst, ◌∙◌, inl, inr, ◌⊎◌, arith}
use Rattle.std.specs.Prelude.{Ok, option_map, is_some}
use Rattle.std.specs.FinMap as map
use Rattle.std.proofs.Math.Nat.{mul-le-mul_left}
use Rattle.std.proofs.lemmas.Bool.{false≢true, cases_Bool, cond-false, ne_eqb, eqb-true, ltb-false, ltb-true}
use Rattle.flash_sim.specs.Device.{Device}
use Rattle.flash_sim.specs.declared.flash.PowerLost.{PowerLost}
use Rattle.flash_map.specs.declared.area.Area.{Area}
use Rattle.flash_map.specs.declared.area.Geometry.{Geometry}
use Rattle.flash_map.specs.Area.{unit_of, geometry_of, sector_size, sectors_of}
use Rattle.flash_map.specs.Spending.{SpendsBetween}
use Rattle.flash_map.specs.Units.{IsUnit}
use Rattle.flash_map.proofs.SpendingBounds.{between_none, between_then, between_within}
use Rattle.item_laws.specs.Items.{Items, last, value_of, items_of, with_pair}
use Rattle.item_laws.specs.PairRounds.{live_cost}
use Rattle.item_laws.proofs.ItemLemmas.{items_of-push, get-items_of, same_map}
use Rattle.item_laws.proofs.Pairs.{last-push}
use Rattle.item_laws.specs.Area.{open_sector}
use Rattle.item_laws.specs.Forms.{AtRest}
use Rattle.item_store.specs.SectorFormat.{SectorFormat, IsSectorFormat}
use Rattle.item_store.specs.Room.{open_bytes, has_room, IsShort, Rounds, MakesRoom, FindsFull}
use Rattle.item_store.specs.Standing.{list_of, items}
use Rattle.item_store.specs.Writing.{SpendsEntry, StopsEntry, Appends, StopsAppending, AppendEnds, write_units, Holds, IsAbsent, Writes, FindsNoSpace, StopsWriting, Deletes, StopsDeleting}
use Rattle.item_store.proofs.RoomSteps.{rounds-live, rounds-none}
use Rattle.item_store.proofs.VersionWrites.{appends-versions, stops-versions}

-- Pairs that change no item.

absent_last : (pairs : List (ℕ × List ℕ)) (id q : ℕ) → map.get (items_of pairs) id ≡ None → last (pairs ++ (id, []) ∷ []) q ≡ last pairs q
absent_last pairs id q none =
    elim (cases_Bool (eqb id q)) [
      | inl here ↦
          let same : id ≡ q = eqb-true id q here in
          last-push pairs (id, []) q ∙ ap (λ (t : Bool). cond t (value_of []) (last pairs q)) here ∙ sym none ∙ get-items_of pairs id ∙ ap (last pairs) same
      | inr other ↦ last-push pairs (id, []) q ∙ ap (λ (t : Bool). cond t (value_of []) (last pairs q)) other
    ]

held_last : (pairs : List (ℕ × List ℕ)) (id : ℕ) (bytes : List ℕ) (q : ℕ) → 0 < length bytes → map.get (items_of pairs) id ≡ Some bytes → last (pairs ++ (id, bytes) ∷ []) q ≡ last pairs q
held_last pairs id bytes q some held =
    elim (cases_Bool (eqb id q)) [
      | inl here ↦
          let same : id ≡ q = eqb-true id q here in
          let value : value_of bytes ≡ Some bytes = cond-false (eqb (length bytes) 0) None (Some bytes) (ne_eqb (length bytes) 0 (λ (z : length bytes ≡ 0). omega arith)) in
          last-push pairs (id, bytes) q ∙ ap (λ (t : Bool). cond t (value_of bytes) (last pairs q)) here ∙ value ∙ sym held ∙ get-items_of pairs id ∙ ap (last pairs) same
      | inr other ↦ last-push pairs (id, bytes) q ∙ ap (λ (t : Bool). cond t (value_of bytes) (last pairs q)) other
    ]

pair_is : (m : Items) (id : ℕ) (bytes : List ℕ) → 0 < length bytes → with_pair m (id, bytes) ≡ map.insert m id bytes
pair_is m id bytes some = cond-false (eqb (length bytes) 0) (map.remove m id) (map.insert m id bytes) (ne_eqb (length bytes) 0 (λ (z : length bytes ≡ 0). omega arith))

module _ (k : SectorFormat) (law : IsSectorFormat k) (a : Device) (area : Area) (form : AtRest k.reading (sectors_of a area) (open_sector k.reading (sectors_of a area))) where
  abbrev size : ℕ
  size = sector_size a area

  abbrev old : List (List ℕ)
  old = sectors_of a area

  -- Where it has room at first, no round is made.

  same_device : (d : Device) (len : ℕ) → MakesRoom k a d area len → has_room k (sectors_of a area) len ≡ true → d ≡ a
  same_device d len makes fitting = makes.none (rounds-none k law size len old makes.before (sectors_of d area) fitting makes.rounds)

  no_round : (mid : List (List ℕ)) (len : ℕ) (before : List (List (List ℕ))) → has_room k (sectors_of a area) len ≡ true → Rounds k (sector_size a area) len (sectors_of a area) before mid → has_room k mid len ≡ false → ⊥
  no_round mid len [] fitting same unfit = false≢true (sym unfit ∙ ap (λ (s : List (List ℕ)). has_room k s len) same ∙ fitting)
  no_round mid len (one ∷ before) fitting did unfit = not_none (rounds-none k law size len old (one ∷ before) mid fitting did)
    where
      not_none : one ∷ before ≡ [] → ⊥
      not_none e = cc

  -- At most so many rounds, and an entry.

  most_rounds : (d : Device) (len made rounds : ℕ) → made ≤ rounds → SpendsBetween a d 0 (made * k.units.round (sector_size a area)) → SpendsBetween a d 0 (write_units k (sector_size a area) rounds len)
  most_rounds d len made rounds few spent =
      let le : k.units.round size * made ≤ k.units.round size * rounds = mul-le-mul_left (k.units.round size) few in
      between_within spent 0 (write_units k size rounds len) (omega arith) (omega arith)

  most_then : (d e : Device) (len made rounds : ℕ) → made ≤ rounds → SpendsBetween a d 0 (made * k.units.round (sector_size a area)) → SpendsBetween d e 0 (k.units.entry len) → SpendsBetween a e 0 (write_units k (sector_size a area) rounds len)
  most_then d e len made rounds few one two =
      let le : k.units.round size * made ≤ k.units.round size * rounds = mul-le-mul_left (k.units.round size) few in
      between_within (between_then one two) 0 (write_units k size rounds len) (omega arith) (omega arith)

  most_none : (rounds len : ℕ) → SpendsBetween a a 0 (write_units k (sector_size a area) rounds len)
  most_none rounds len = between_within (between_none a) 0 (write_units k size rounds len) (omega arith) (omega arith)

  -- What an entry behind rounds makes.

  module _ (e : Device) (id : ℕ) (bytes : List ℕ) (appends : Appends k a e area id bytes) where
    appended-items : items k (sectors_of e area) ≡ with_pair (items k (sectors_of a area)) (id, bytes)
    appended-items =
        ap items_of appends.puts.list ∙ items_of-push (list_of k (sectors_of appends.mid area)) (id, bytes) ∙ ap (λ m. with_pair m (id, bytes)) appends.makes.items.items

    appended-fitting : has_room k (sectors_of a area) (length bytes) ≡ true → SpendsEntry k a e (open_bytes k (sectors_of a area)) (length bytes)
    appended-fitting fitting =
        subst (λ (x : Device). SpendsEntry k x e (open_bytes k (sectors_of x area)) (length bytes)) (same_device appends.mid (length bytes) appends.makes fitting) appends.puts.entry

    appended-most : (rounds : ℕ) → length appends.makes.before ≤ rounds → SpendsBetween a e 0 (write_units k (sector_size a area) rounds (length bytes))
    appended-most rounds few =
        let opened : List ℕ = open_bytes k (sectors_of appends.mid area) in
        let le = law.entry opened opened (length bytes) in
        let first = law.units.begins opened in
        let second = law.units.puts opened (length bytes) in
        most_then appends.mid e (length bytes) (length appends.makes.before) rounds few appends.makes.at_most (between_within appends.puts.entry 0 (k.units.entry (length bytes)) (omega arith) (omega arith))

  module _ (e : Device) (id : ℕ) (bytes : List ℕ) (stops : StopsAppending k a e area id bytes) where
    stopped-items : (items k (sectors_of e area) ≡ items k (sectors_of a area)) ⊎ (items k (sectors_of e area) ≡ with_pair (items k (sectors_of a area)) (id, bytes))
    stopped-items =
        elim stops [
          | inl round ↦ inl round.items.items
          | inr entry ↦
              elim entry.stops.list [
                | inl same ↦ inl (ap items_of same ∙ entry.makes.items.items)
                | inr put ↦ inr (ap items_of put ∙ items_of-push (list_of k (sectors_of entry.mid area)) (id, bytes) ∙ ap (λ m. with_pair m (id, bytes)) entry.makes.items.items)
              ]
        ]

    stopped-fitting : has_room k (sectors_of a area) (length bytes) ≡ true → SpendsBetween a e 0 (k.units.entry (length bytes))
    stopped-fitting fitting =
        elim stops [
          | inl round ↦ absurd (no_round round.mid (length bytes) round.before fitting round.rounds round.unfit)
          | inr entry ↦ subst (λ (x : Device). SpendsBetween x e 0 (k.units.entry (length bytes))) (same_device entry.mid (length bytes) entry.makes fitting) entry.stops.at_most
        ]

    stopped-entry : has_room k (sectors_of a area) (length bytes) ≡ true → StopsEntry k a e (open_bytes k (sectors_of a area)) (length bytes)
    stopped-entry fitting =
        elim stops [
          | inl round ↦ absurd (no_round round.mid (length bytes) round.before fitting round.rounds round.unfit)
          | inr entry ↦ subst (λ (x : Device). StopsEntry k x e (open_bytes k (sectors_of x area)) (length bytes)) (same_device entry.mid (length bytes) entry.makes fitting) entry.stops.entry
        ]

    stopped-most : (rounds : ℕ) → ((n : ℕ) → n < area.sectors → (length bytes ≡ 0 → n ≤ 1) → n ≤ rounds) → SpendsBetween a e 0 (write_units k (sector_size a area) rounds (length bytes))
    stopped-most rounds most =
        elim stops [
          | inl round ↦ most_rounds e (length bytes) (length round.before + 1) rounds (most (length round.before + 1) round.few (λ none. (let zero_rounds = ap length (round.once none) in omega arith))) round.at_most
          | inr entry ↦ most_then entry.mid e (length bytes) (length entry.makes.before) rounds (most (length entry.makes.before) entry.makes.few (λ none. (entry.makes.once none).0)) entry.makes.at_most entry.stops.at_most
        ]

  -- Writing.

  pub write_held : (id : ℕ) (bytes : List ℕ) → 0 < length bytes → IsShort k a area (length bytes) → Holds k a area id bytes → Writes k a a area id bytes
  write_held id bytes some short held = record {
    short = short;
    items = sym (same_map (list_of k old ++ (id, bytes) ∷ []) (list_of k old) (λ q. held_last (list_of k old) id bytes q some held)) ∙ items_of-push (list_of k old) (id, bytes) ∙ pair_is (items k old) id bytes some;
    versions = λ other. absurd (other held);
    equal = λ _. refl;
    appends = λ other. absurd (other held);
    fitting = λ other fitting. absurd (other held);
    at_most = most_none (area.sectors - 1) (length bytes);
  }

  pub write_done : (e : Device) (id : ℕ) (bytes : List ℕ) → 0 < length bytes → IsShort k a area (length bytes) → ¬ Holds k a area id bytes → Appends k a e area id bytes → Writes k a e area id bytes
  write_done e id bytes some short other appends =
      let few = appends.makes.few in
      record {
        short = short;
        items = appended-items e id bytes appends ∙ pair_is (items k old) id bytes some;
        versions = λ _. appends-versions k a e area id bytes appends;
        equal = λ held. absurd (other held);
        appends = λ _. appends;
        fitting = λ _ fitting. appended-fitting e id bytes appends fitting;
        at_most = appended-most e id bytes appends (area.sectors - 1) (omega arith);
      }

  pub write_full : (e : Device) (id : ℕ) (bytes : List ℕ) (need live : ℕ) → IsShort k a area (length bytes) → ¬ Holds k a area id bytes → FindsFull k a e area (length bytes) → need ≡ k.cost (length bytes) → live ≡ live_cost k.cost (list_of k (sectors_of e area)) → FindsNoSpace k a e area id bytes need live
  write_full e id bytes need live short other finds needs lives =
      let makes = finds.0 in
      let few = makes.few in
      record {
        needs = needs;
        lives = lives ∙ rounds-live k law size (length bytes) old makes.before (sectors_of e area) form makes.rounds;
        short = short;
        other = other;
        unfit =
            elim (cases_Bool (has_room k old (length bytes))) [
              | inr none ↦ none
              | inl fitting ↦ absurd (no_round (sectors_of e area) (length bytes) makes.before fitting makes.rounds finds.1)
            ];
        finds = finds;
        at_most = most_rounds e (length bytes) (length makes.before) (area.sectors - 1) (omega arith) makes.at_most;
      }

  pub write_stops : (e : Device) (id : ℕ) (bytes : List ℕ) → 0 < length bytes → IsShort k a area (length bytes) → ¬ Holds k a area id bytes → StopsAppending k a e area id bytes → StopsWriting k a e area id bytes
  write_stops e id bytes some short other stops = record {
    short = short;
    other = other;
    stops = stops;
    items = elim (stopped-items e id bytes stops) [ inl same ↦ inl same | inr put ↦ inr (put ∙ pair_is (items k old) id bytes some) ];
    versions = stops-versions k a e area id bytes stops;
    fitting = stopped-fitting e id bytes stops;
    entry = stopped-entry e id bytes stops;
    at_most = stopped-most e id bytes stops (area.sectors - 1) (λ n few _. omega arith);
  }

  -- Deleting.

  pub delete_absent : (id : ℕ) → IsAbsent k a area id → Deletes k a a area id
  delete_absent id none = record {
    items = sym (same_map (list_of k old ++ (id, []) ∷ []) (list_of k old) (λ q. absent_last (list_of k old) id q none)) ∙ items_of-push (list_of k old) (id, []);
    versions = λ present. absurd (present none);
    absent = λ _. refl;
    appends = λ present. absurd (present none);
    fitting = λ present fitting. absurd (present none);
    at_most = most_none 1 0;
  }

  pub delete_done : (e : Device) (id : ℕ) → ¬ IsAbsent k a area id → Appends k a e area id [] → Deletes k a e area id
  delete_done e id present appends = record {
    items = appended-items e id [] appends;
    versions = λ _. appends-versions k a e area id [] appends;
    absent = λ none. absurd (present none);
    appends = λ _. appends;
    fitting = λ _ fitting. appended-fitting e id [] appends fitting;
    at_most = appended-most e id [] appends 1 (appends.makes.once refl).0;
  }

  pub delete_stops : (e : Device) (id : ℕ) → ¬ IsAbsent k a area id → StopsAppending k a e area id [] → StopsDeleting k a e area id
  delete_stops e id present stops = record {
    present = present;
    stops = stops;
    items = stopped-items e id [] stops;
    versions = stops-versions k a e area id [] stops;
    fitting = stopped-fitting e id [] stops;
    entry = stopped-entry e id [] stops;
    at_most = stopped-most e id [] stops 1 (λ n few once. once refl);
  }

  -- for a delete there is room
  pub delete_full : (e : Device) → FindsFull k a e area 0 → ⊥
  delete_full e finds = false≢true (sym finds.1 ∙ (finds.0.once refl).1)

  pub deleted : (e : Device) (id : ℕ) (room : Bool) → ¬ IsAbsent k a area id → AppendEnds {T = PowerLost} k a e area id [] (Ok room) → Deletes k a e area id
  deleted e id true present appends = delete_done e id present appends
  deleted e id false present finds = absurd (delete_full e finds)

pub ends_true : (k : SectorFormat) (a e : Device) (area : Area) (id : ℕ) (bytes : List ℕ) (room : Bool) → room ≡ true → AppendEnds {T = PowerLost} k a e area id bytes (Ok room) → Appends k a e area id bytes
ends_true k a e area id bytes true is appends = appends
ends_true k a e area id bytes false is finds = absurd (false≢true is)

pub ends_false : (k : SectorFormat) (a e : Device) (area : Area) (id : ℕ) (bytes : List ℕ) (room : Bool) → room ≡ false → AppendEnds {T = PowerLost} k a e area id bytes (Ok room) → FindsFull k a e area (length bytes)
ends_false k a e area id bytes true is appends = absurd (false≢true (sym is))
ends_false k a e area id bytes false is finds = finds

-- What a look-up says.

pub gets_none : {X : Type 0} (f : X → List ℕ) (o : Option X) (m : Option (List ℕ)) → option_map f o ≡ m → is_some o ≡ false → m ≡ None
gets_none f None m is none = sym is
gets_none f (Some x) m is none = absurd (cc)

pub gets_some : {X : Type 0} (f : X → List ℕ) (o : Option X) (m : Option (List ℕ)) → option_map f o ≡ m → is_some o ≡ true → m ≡ None → ⊥
gets_some f None m is some none = absurd (cc)
gets_some f (Some x) m is some none = absurd (cc)

-- Too long.

module _ (format_of : Geometry → SectorFormat) (a : Device) (area : Area) (g : Geometry) (len : ℕ) (long : Bool) (is : g ≡ geometry_of a area) (test : long ≡ ltb ((format_of g).cap g.sector) ((format_of g).cost len)) where
  there : long ≡ ltb ((format_of (geometry_of a area)).cap (sector_size a area)) ((format_of (geometry_of a area)).cost len)
  there = test ∙ ap (λ (x : Geometry). ltb ((format_of x).cap x.sector) ((format_of x).cost len)) is

  pub short-by : long ≡ false → IsShort (format_of (geometry_of a area)) a area len
  short-by not_long = ltb-false ((format_of (geometry_of a area)).cap (sector_size a area)) ((format_of (geometry_of a area)).cost len) (sym there ∙ not_long)

  pub long-by : long ≡ true → IsShort (format_of (geometry_of a area)) a area len → ⊥
  long-by too_long short =
      let lt = ltb-true ((format_of (geometry_of a area)).cap (sector_size a area)) ((format_of (geometry_of a area)).cost len) (sym there ∙ too_long) in
      absurd (omega arith)

-- what is not too long has a length of 16 bits
pub narrow-by : (k : SectorFormat) (law : IsSectorFormat k) (size len : ℕ) → size ≤ 32768 → k.cost len ≤ k.cap size → len < 2 ^ 16
narrow-by k law size len small short =
    let least = law.least len in
    let most = law.most size in
    omega arith

pub unit-by : (a : Device) (area : Area) (g : Geometry) → g ≡ geometry_of a area → IsUnit (unit_of a area) → IsUnit g.unit
unit-by a area g is unit = subst (λ (x : Geometry). IsUnit x.unit) (sym is) unit

pub need-by : (format_of : Geometry → SectorFormat) (a : Device) (area : Area) (g : Geometry) (len need : ℕ) → g ≡ geometry_of a area → need ≡ (format_of g).cost len → need ≡ (format_of (geometry_of a area)).cost len
need-by format_of a area g len need is needs = needs ∙ ap (λ (x : Geometry). (format_of x).cost len) is
