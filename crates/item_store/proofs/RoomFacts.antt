-- Rounds until a value has room, in the words of the code.
use Rattle.std.proofs.Common.{◌≡◌, ◌⊎◌, ℕ, suc, ◌+◌, ◌-◌, ◌*◌, ◌<◌, ◌≤◌, Bool, true, false, List, [], ◌∷◌, length, refl, sym, ap, subst, ◌∙◌, inl, inr, arith}
use Rattle.std.proofs.lemmas.Bool.{false≢true, cases_eq}
use Rattle.flash_sim.specs.Bank.{IsLawful}
use Rattle.flash_sim.specs.Device.{Device}
use Rattle.flash_map.specs.declared.area.Area.{Area}
use Rattle.flash_map.specs.declared.area.Geometry.{Geometry}
use Rattle.flash_map.specs.declared.area.Role.{Role}
use Rattle.flash_map.specs.Area.{geometry_of, sector_at, sector_size, sectors_of}
use Rattle.flash_map.specs.Spending.{SpendsBetween}
use Rattle.flash_map.specs.Touches.{Touches}
use Rattle.flash_map.proofs.SpendingBounds.{between_none, between_then, between_within}
use Rattle.flash_map.proofs.Touches.{then, untouched}
use Rattle.item_laws.specs.PairRounds.{joined, collect_oldest, live_cost, FindsNoRoom}
use Rattle.item_laws.specs.Area.{next, open_sector}
use Rattle.item_laws.specs.Forms.{AtRest}
use Rattle.item_laws.specs.Rounds.{IsCrammed}
use Rattle.item_laws.proofs.AreaReads.{length-sectors}
use Rattle.item_laws.proofs.Parts.{parts-list, parts-count}
use Rattle.item_laws.proofs.Rounding.{no_room, crammed}
use Rattle.item_store.specs.declared.store.Store.{Store}
use Rattle.item_store.specs.SectorFormat.{Range, SectorFormat, IsSectorFormat, fits}
use Rattle.lookup_cache.specs.Places.{CacheState}
use Rattle.item_store.specs.Cached.{IsCacheOn}
use Rattle.item_store.specs.Collecting.{KeepsOrDoesPass, DoesPassAt, RoundMarksFirst}
use Rattle.item_store.specs.Room.{has_room, IsShort, parts_of, collected, Rounds, rounds_units, MakesRoom, IsFull, StopsMakingRoom}
use Rattle.item_store.specs.Spending.{none, round_units}
use Rattle.item_store.specs.Standing.{list_of, KeepsItems, SpendsIn, SpendsUpTo}
use Rattle.item_store.specs.Stands.{StandsOn, StandsAt}
use Rattle.item_store.proofs.Areas.{same_geometry, same_size, size_there, open_inside, keeps_then}
use Rattle.item_store.proofs.CallFacts.{to_geometry, from_geometry}
use Rattle.item_store.proofs.RoundFacts.{rests}
use Rattle.item_store.proofs.Ranges.{round-covers}
use Rattle.item_store.proofs.RoomSteps.{pass_done, rounds-rest, rounds-parts, rounds-live, rounds-items, rounds-exact, rounds-least, rounds-full, used_by, round-le}
use Rattle.item_store.proofs.Standings.{stands}

-- What so many rounds have made of the flash and the open sector.
pub record IsSearching {T : Type 0} (role : Role) (format_of : Geometry → SectorFormat) (kept : Geometry → List ℕ → T) (a d : Device) (area : Area) (current : ℕ) (opened : T) (len made : ℕ) : Type 0 where
  pub touches : Touches (area ∷ []) a d false
  pub standing : StandsAt role format_of kept d area current opened
  pub before : List (List (List ℕ))
  pub rounds : Rounds (format_of (geometry_of a area)) (sector_size a area) len (sectors_of a area) before (sectors_of d area)
  pub count : length before ≡ made
  pub none : before ≡ [] → d ≡ a
  pub spends : SpendsIn a d (rounds_units (format_of (geometry_of a area)) before)
  pub at_most : SpendsBetween a d 0 (made * (format_of (geometry_of a area)).units.round (sector_size a area))
  pub delete : len ≡ 0 → (made ≤ 1) × (0 < made → has_room (format_of (geometry_of a area)) (sectors_of d area) 0 ≡ true)

no_elements : {X : Type 0} (xs : List X) → length xs ≡ 0 → xs ≡ []
no_elements [] e = refl
no_elements (x ∷ xs) e = absurd (omega arith)

module _ {T : Type 0} (role : Role) (format_of : Geometry → SectorFormat) (kept : Geometry → List ℕ → T) where
  -- the open sector is one of the area
  pub inside : (d : Device) (area : Area) (current : ℕ) (opened : T) → StandsAt role format_of kept d area current opened → current < area.sectors
  inside d area current opened on = open_inside (format_of (geometry_of d area)) d area current on.area.lawful on.current

  -- an area on which a store stands is at rest
  pub rest_on : (d : Device) (area : Area) (current : ℕ) (opened : T) → IsSectorFormat (format_of (geometry_of d area)) → IsLawful d.banks d.bytes → StandsAt role format_of kept d area current opened → AtRest (format_of (geometry_of d area)).reading (sectors_of d area) current
  rest_on d area current opened law lawful on = rests format_of role d area current law lawful on.area on.undamaged on.current on.rested

  pub rest_open : (d : Device) (area : Area) (current : ℕ) (opened : T) → IsSectorFormat (format_of (geometry_of d area)) → IsLawful d.banks d.bytes → StandsAt role format_of kept d area current opened
      → AtRest (format_of (geometry_of d area)).reading (sectors_of d area) (open_sector (format_of (geometry_of d area)).reading (sectors_of d area))
  rest_open d area current opened law lawful on = subst (λ (p : ℕ). AtRest (format_of (geometry_of d area)).reading (sectors_of d area) p) on.current (rest_on d area current opened law lawful on)

  -- what is said of the sector that the code holds open is said of the open one
  pub room_is : (d : Device) (area : Area) (current : ℕ) (opened : T) (len : ℕ) (room : Bool) → StandsAt role format_of kept d area current opened → fits (format_of (geometry_of d area)) (sector_at (sectors_of d area) current) len ≡ room → has_room (format_of (geometry_of d area)) (sectors_of d area) len ≡ room
  room_is d area current opened len room on is = ap (λ (p : ℕ). fits (format_of (geometry_of d area)) (sector_at (sectors_of d area) p) len) (sym on.current) ∙ is

  pub searching_start : (a : Device) (area : Area) (current : ℕ) (opened : T) (len : ℕ) → StandsAt role format_of kept a area current opened → IsSearching role format_of kept a a area current opened len 0
  searching_start a area current opened len on = record {
    touches = untouched (area ∷ []) a;
    standing = on;
    before = [];
    rounds = refl;
    count = refl;
    none = λ _. refl;
    spends = between_none a;
    at_most = between_within (between_none a) 0 (0 * (format_of (geometry_of a area)).units.round (sector_size a area)) (omega arith) (omega arith);
    delete = λ _. (omega arith, λ some. absurd (omega arith));
  }

  module _ (a d : Device) (area : Area) (start : ℕ) (first : T) (current : ℕ) (opened : T) (len made : ℕ) (law : IsSectorFormat (format_of (geometry_of a area))) (lawful : IsLawful a.banks a.bytes) (begun : StandsAt role format_of kept a area start first)
      (so_far : IsSearching role format_of kept a d area current opened len made) (lawful_d : IsLawful d.banks d.bytes) where
    abbrev k : SectorFormat
    k = format_of (geometry_of a area)

    abbrev size : ℕ
    size = sector_size a area

    banks : d.banks ≡ a.banks
    banks = so_far.touches.banks

    geometry : geometry_of d area ≡ geometry_of a area
    geometry = same_geometry a d area banks

    law_d : IsSectorFormat (format_of (geometry_of d area))
    law_d = from_geometry (λ u. IsSectorFormat (format_of u)) a d area banks law

    size_d : sector_size d area ≡ sector_size a area
    size_d = same_size a d area banks

    start_rest : AtRest (format_of (geometry_of a area)).reading (sectors_of a area) (open_sector (format_of (geometry_of a area)).reading (sectors_of a area))
    start_rest = rest_open a area start first law lawful begun

    large : 512 ≤ sector_size a area
    large = begun.area.lawful.at_least

    widths : (j : ℕ) → j < length (sectors_of d area) → length (sector_at (sectors_of d area) j) ≡ sector_size a area
    widths j lt = size_there role d area lawful_d so_far.standing.area j (let count = length-sectors d area in omega arith) ∙ size_d

    -- whether there is room now
    pub room_now : (room : Bool) → fits (format_of (geometry_of d area)) (sector_at (sectors_of d area) current) len ≡ room → has_room (format_of (geometry_of a area)) (sectors_of d area) len ≡ room
    room_now room is = to_geometry (λ u. has_room (format_of u) (sectors_of d area) len ≡ room) a d area banks (room_is d area current opened len room so_far.standing is)

    -- the open sector is not clean where there is none
    pub used_now : (0 < len → IsShort (format_of (geometry_of a area)) a area len) → fits (format_of (geometry_of d area)) (sector_at (sectors_of d area) current) len ≡ false → (format_of (geometry_of d area)).is_clean (sector_at (sectors_of d area) current) ≡ false
    used_now short unfit =
        let place_in = inside d area current opened so_far.standing in
        let count = length-sectors d area in
        from_geometry (λ u. (format_of u).is_clean (sector_at (sectors_of d area) current) ≡ false) a d area banks
        (used_by k law size len (sector_at (sectors_of d area) current) large (widths current (omega arith)) short
        (to_geometry (λ u. fits (format_of u) (sector_at (sectors_of d area) current) len ≡ false) a d area banks unfit))

    pub touches_more : (e : Device) (lost : Bool) → Touches (area ∷ []) d e lost → Touches (area ∷ []) a e lost
    touches_more e lost more = then so_far.touches more

    -- what one more round spends at most
    cut_most : (round_units (format_of (geometry_of d area)) (sectors_of d area) current).lost ≤ (format_of (geometry_of a area)).units.round (sector_size a area)
    cut_most =
        from_geometry (λ u. (round_units (format_of u) (sectors_of d area) current).lost ≤ k.units.round size) a d area banks
        (round-le k law size len (sectors_of d area) current large widths (to_geometry (λ u. AtRest (format_of u).reading (sectors_of d area) current) a d area banks (rest_on d area current opened law_d lawful_d so_far.standing)))

    units_same : round_units (format_of (geometry_of d area)) (sectors_of d area) current ≡ round_units (format_of (geometry_of a area)) (sectors_of d area) (open_sector (format_of (geometry_of a area)).reading (sectors_of d area))
    units_same =
        ap (λ (u : Geometry). round_units (format_of u) (sectors_of d area) current) geometry
        ∙ ap (λ (p : ℕ). round_units k (sectors_of d area) p) (to_geometry (λ u. current ≡ open_sector (format_of u).reading (sectors_of d area)) a d area banks so_far.standing.current)

    whole_most : (round_units (format_of (geometry_of d area)) (sectors_of d area) current).most ≤ (format_of (geometry_of a area)).units.round (sector_size a area)
    whole_most = let covers = round-covers (format_of (geometry_of d area)) law_d (sectors_of d area) current in let le = cut_most in omega arith

    most_more : (e : Device) (least most : ℕ) → most ≤ (format_of (geometry_of a area)).units.round (sector_size a area) → SpendsBetween d e least most → SpendsBetween a e 0 ((made + 1) * (format_of (geometry_of a area)).units.round (sector_size a area))
    most_more e least most le spends =
        let sum : made * k.units.round size + k.units.round size ≡ (made + 1) * k.units.round size = omega arith in
        between_within (between_then so_far.at_most spends) 0 ((made + 1) * k.units.round size) (omega arith) (omega arith)

    module _ (unfit : fits (format_of (geometry_of d area)) (sector_at (sectors_of d area) current) len ≡ false) (e : Device) where
      -- for a delete this is the first round
      first_round : len ≡ 0 → made ≡ 0
      first_round none =
          elim (cases_eq made 0) [
            | inl zero_rounds ↦ zero_rounds
            | inr some ↦
                let fitting = (so_far.delete none).1 (omega (arith, some)) in
                absurd (false≢true (sym (room_now false unfit) ∙ ap (has_room k (sectors_of d area)) none ∙ fitting))
          ]

      -- a round was cut
      list_here : list_of (format_of (geometry_of a area)) (sectors_of d area) ≡ joined (collected (length so_far.before) (parts_of (format_of (geometry_of a area)) (sectors_of a area)))
      list_here =
          let rested = rounds-rest k law size len (sectors_of a area) so_far.before (sectors_of d area) start_rest so_far.rounds in
          parts-list k.reading law.reads (sectors_of d area) (open_sector k.reading (sectors_of d area)) rested
          ∙ ap joined (rounds-parts k law size len (sectors_of a area) so_far.before (sectors_of d area) so_far.rounds)

      list_cut : KeepsOrDoesPass (format_of (geometry_of d area)) (sectors_of d area) (sectors_of e area) current
          → (list_of (format_of (geometry_of a area)) (sectors_of e area) ≡ joined (collected (length so_far.before) (parts_of (format_of (geometry_of a area)) (sectors_of a area))))
          ⊎ (list_of (format_of (geometry_of a area)) (sectors_of e area) ≡ joined (collected (suc (length so_far.before)) (parts_of (format_of (geometry_of a area)) (sectors_of a area))))
      list_cut either =
          let here : KeepsOrDoesPass k (sectors_of d area) (sectors_of e area) (open_sector k.reading (sectors_of d area)) =
          subst (λ (p : ℕ). KeepsOrDoesPass k (sectors_of d area) (sectors_of e area) p) (to_geometry (λ u. current ≡ open_sector (format_of u).reading (sectors_of d area)) a d area banks so_far.standing.current)
          (to_geometry (λ u. KeepsOrDoesPass (format_of u) (sectors_of d area) (sectors_of e area) current) a d area banks either) in
          elim here [
            | inl same ↦ inl (same ∙ list_here)
            | inr pass_done ↦ inr (pass_done ∙ ap (λ ps. joined (collect_oldest ps)) (rounds-parts k law size len (sectors_of a area) so_far.before (sectors_of d area) so_far.rounds))
          ]

      pub stops_now : made + 1 < area.sectors → KeepsItems (format_of (geometry_of d area)) (sectors_of d area) (sectors_of e area) → KeepsOrDoesPass (format_of (geometry_of d area)) (sectors_of d area) (sectors_of e area) current → SpendsUpTo d e (round_units (format_of (geometry_of d area)) (sectors_of d area) current)
          → RoundMarksFirst (format_of (geometry_of d area)) (sectors_of d area) (sectors_of e area) current → StopsMakingRoom (format_of (geometry_of a area)) a e area len
      stops_now few keeps lists spends marks =
          let count = so_far.count in
          let s = between_then so_far.spends spends in
          let is = ap (λ (r : Range). r.lost) units_same in
          record {
            before = so_far.before;
            mid = sectors_of d area;
            rounds = so_far.rounds;
            unfit = room_now false unfit;
            few = omega arith;
            once = λ none. no_elements so_far.before (let zero_rounds = first_round none in omega arith);
            items = keeps_then k law (sectors_of a area) (sectors_of d area) (sectors_of e area) (rounds-items k law size len (sectors_of a area) so_far.before (sectors_of d area) start_rest so_far.rounds) (to_geometry (λ u. KeepsItems (format_of u) (sectors_of d area) (sectors_of e area)) a d area banks keeps);
            list = list_cut lists;
            spends = between_within s _ _ (omega arith) (omega arith);
            at_most = subst (λ (n : ℕ). SpendsBetween a e 0 ((n + 1) * k.units.round size)) (sym count) (most_more e 0 (round_units (format_of (geometry_of d area)) (sectors_of d area) current).lost cut_most spends);
            marks = subst (λ (p : ℕ). RoundMarksFirst k (sectors_of d area) (sectors_of e area) p) (to_geometry (λ u. current ≡ open_sector (format_of u).reading (sectors_of d area)) a d area banks so_far.standing.current)
                (to_geometry (λ u. RoundMarksFirst (format_of u) (sectors_of d area) (sectors_of e area) current) a d area banks marks);
          }

      pub searching_more : (place : ℕ) (later : T) → Touches (area ∷ []) d e false → place ≡ next (sectors_of d area) current → AtRest (format_of (geometry_of d area)).reading (sectors_of e area) (next (sectors_of d area) current)
          → later ≡ kept (geometry_of d area) (sector_at (sectors_of e area) (next (sectors_of d area) current)) → DoesPassAt (format_of (geometry_of d area)) (sector_size d area) (sectors_of d area) (sectors_of e area) current
          → SpendsIn d e (round_units (format_of (geometry_of d area)) (sectors_of d area) current) → IsSearching role format_of kept a e area place later len (made + 1)
      searching_more place later touches at rest known does_pass spends =
          let count = so_far.count in
          let open_turns : DoesPassAt k size (sectors_of d area) (sectors_of e area) (open_sector k.reading (sectors_of d area)) =
          subst (λ (n : ℕ). DoesPassAt k n (sectors_of d area) (sectors_of e area) (open_sector k.reading (sectors_of d area))) size_d
          (subst (λ (p : ℕ). DoesPassAt k (sector_size d area) (sectors_of d area) (sectors_of e area) p) (to_geometry (λ u. current ≡ open_sector (format_of u).reading (sectors_of d area)) a d area banks so_far.standing.current)
          (to_geometry (λ u. DoesPassAt (format_of u) (sector_size d area) (sectors_of d area) (sectors_of e area) current) a d area banks does_pass)) in
          let all : Rounds k size len (sectors_of a area) (sectors_of d area ∷ so_far.before) (sectors_of e area) = (so_far.rounds, room_now false unfit, open_turns) in
          let there = rounds-rest k law size len (sectors_of a area) (sectors_of d area ∷ so_far.before) (sectors_of e area) start_rest all in
          record {
            touches = touches_more e false touches;
            standing = stands role format_of kept d e area place later law_d touches.banks so_far.standing.area (subst (λ (p : ℕ). AtRest (format_of (geometry_of d area)).reading (sectors_of e area) p) (sym at) rest)
                (subst (λ (p : ℕ). later ≡ kept (geometry_of d area) (sector_at (sectors_of e area) p)) (sym at) known);
            before = sectors_of d area ∷ so_far.before;
            rounds = all;
            count = omega arith;
            none = λ e. absurd (not_none (sectors_of d area) so_far.before e);
            spends = between_then so_far.spends (subst (λ (r : Range). SpendsIn d e r) units_same spends);
            at_most = most_more e (round_units (format_of (geometry_of d area)) (sectors_of d area) current).least (round_units (format_of (geometry_of d area)) (sectors_of d area) current).most whole_most spends;
            delete = λ none. (
              let zero_rounds = first_round none in omega arith,
              λ _. delete_after open_turns,
            );
          }
        where
          not_none : {X : Type 0} (x : X) (xs : List X) → x ∷ xs ≡ [] → ⊥
          not_none x xs e = cc

          delete_after : DoesPassAt (format_of (geometry_of a area)) (sector_size a area) (sectors_of d area) (sectors_of e area) (open_sector (format_of (geometry_of a area)).reading (sectors_of d area)) → has_room (format_of (geometry_of a area)) (sectors_of e area) 0 ≡ true
          delete_after does_pass = ap (λ (p : ℕ). fits k (sector_at (sectors_of e area) p) 0) (pass_done k law size len (sectors_of d area) (sectors_of e area) does_pass) ∙ does_pass.delete

    rest_now : AtRest (format_of (geometry_of a area)).reading (sectors_of d area) (open_sector (format_of (geometry_of a area)).reading (sectors_of d area))
    rest_now = rounds-rest k law size len (sectors_of a area) so_far.before (sectors_of d area) start_rest so_far.rounds

    -- for a delete there is room
    pub delete_room : 0 < made → len ≡ 0 → has_room (format_of (geometry_of a area)) (sectors_of d area) 0 ≡ true
    delete_room some none = (so_far.delete none).1 some

    -- the last of the rounds
    pub makes_now : made < area.sectors → (len ≡ 0 → has_room (format_of (geometry_of a area)) (sectors_of d area) 0 ≡ true) → (has_room (format_of (geometry_of a area)) (sectors_of d area) len ≡ false → made + 1 ≡ area.sectors) → MakesRoom (format_of (geometry_of a area)) a d area len
    makes_now few delete all =
        let count = so_far.count in
        record {
          before = so_far.before;
          rounds = so_far.rounds;
          parts = rounds-parts k law size len (sectors_of a area) so_far.before (sectors_of d area) so_far.rounds;
          none = so_far.none;
          least = λ some n one less. rounds-least k law size len (sectors_of a area) so_far.before (sectors_of d area) some so_far.rounds n one less;
          exact = λ some any. rounds-exact k law size len (sectors_of a area) so_far.before (sectors_of d area) some any so_far.rounds;
          all = λ unfit. (let is = all unfit in omega arith);
          few = omega arith;
          once = λ none. (
            let one = (so_far.delete none).0 in omega arith,
            delete none,
          );
          items = rounds-items k law size len (sectors_of a area) so_far.before (sectors_of d area) start_rest so_far.rounds;
          spends = so_far.spends;
          at_most = subst (λ (n : ℕ). SpendsBetween a d 0 (n * k.units.round size)) (sym count) so_far.at_most;
        }

    -- after a round for each sector but the blank one
    finds_all : 0 < len → IsShort (format_of (geometry_of a area)) a area len → made + 1 ≡ area.sectors → has_room (format_of (geometry_of a area)) (sectors_of d area) len ≡ false
        → FindsNoRoom (format_of (geometry_of a area)).cost ((format_of (geometry_of a area)).cost len) ((format_of (geometry_of a area)).cap (sector_size a area)) (parts_of (format_of (geometry_of a area)) (sectors_of a area)) (parts_of (format_of (geometry_of a area)) (sectors_of d area)) (length (parts_of (format_of (geometry_of a area)) (sectors_of a area)))
    finds_all some short all unfit =
        let ring = start_rest.ring in
        let parts_are = parts-count k.reading (sectors_of a area) (open_sector k.reading (sectors_of a area)) ring.within ring.several in
        let many = length-sectors a area in
        let count = so_far.count in
        let is : length so_far.before ≡ length (parts_of k (sectors_of a area)) = omega arith in
        subst (λ (n : ℕ). FindsNoRoom k.cost (k.cost len) (k.cap size) (parts_of k (sectors_of a area)) (parts_of k (sectors_of d area)) n) is
        (rounds-full k law size len (sectors_of a area) so_far.before (sectors_of d area) some short (omega arith) so_far.rounds unfit)

    pub full_now : 0 < len → IsShort (format_of (geometry_of a area)) a area len → made + 1 ≡ area.sectors → has_room (format_of (geometry_of a area)) (sectors_of d area) len ≡ false → IsFull (format_of (geometry_of a area)) a d area len
    full_now some short all unfit =
        let finds = finds_all some short all unfit in
        let ring = start_rest.ring in
        let several = ring.several in
        let parts_are = parts-count k.reading (sectors_of a area) (open_sector k.reading (sectors_of a area)) ring.within ring.several in
        let many = length-sectors a area in
        let bound = no_room k.cost (k.cost len) (k.cap size) (parts_of k (sectors_of a area)) (parts_of k (sectors_of d area)) finds (omega arith) short in
        let product : (area.sectors - 1) * (k.cap size - k.cost len) ≡ length (parts_of k (sectors_of a area)) * (k.cap size - k.cost len) = ap (λ (n : ℕ). n * (k.cap size - k.cost len)) (omega arith) in
        let list : live_cost k.cost (list_of k (sectors_of d area)) ≡ live_cost k.cost (joined (parts_of k (sectors_of d area))) =
        ap (live_cost k.cost) (parts-list k.reading law.reads (sectors_of d area) (open_sector k.reading (sectors_of d area)) rest_now) in
        let same = rounds-live k law size len (sectors_of a area) so_far.before (sectors_of d area) start_rest so_far.rounds in
        record {
          full = omega arith;
          crammed = subst (λ (n : ℕ). IsCrammed k.reading k.cost (k.cost len) (k.cap n) (sectors_of d area) (open_sector k.reading (sectors_of d area))) (sym size_d)
              (crammed k.reading law.reads k.cost (k.cost len) (k.cap size) (parts_of k (sectors_of a area)) (sectors_of d area) (open_sector k.reading (sectors_of d area)) rest_now finds);
        }

    pub full_or_delete : (0 < len → IsShort (format_of (geometry_of a area)) a area len) → 0 < made → made + 1 ≡ area.sectors → has_room (format_of (geometry_of a area)) (sectors_of d area) len ≡ false → IsFull (format_of (geometry_of a area)) a d area len
    full_or_delete short rounds all unfit =
        elim (cases_eq len 0) [
          | inl none ↦ absurd (false≢true (sym unfit ∙ ap (has_room k (sectors_of d area)) none ∙ delete_room rounds none))
          | inr some ↦ let positive : 0 < len = omega (arith, some) in full_now positive (short positive) all unfit
        ]

-- A store that is up, with what it knows.
pub at_of : {T : Type 0} (role : Role) (format_of : Geometry → SectorFormat) (kept : Geometry → List ℕ → T) (d : Device) (store : Store T) → StandsOn role format_of kept d store → StandsAt role format_of kept d store.area store.current store.opened
at_of role format_of kept d store on = record { area = on.area; current = on.current; opened = on.opened; rested = on.rested; undamaged = on.undamaged }

-- The other way, with its cache.
pub stands_with : {T : Type 0} (role : Role) (format_of : Geometry → SectorFormat) (kept : Geometry → List ℕ → T) (d : Device) (area : Area) (current : ℕ) (opened : T) (cache : CacheState) → StandsAt role format_of kept d area current opened → IsCacheOn format_of d area cache
    → StandsOn role format_of kept d (record { area = area; current = current; opened = opened; cache = cache; up = true })
stands_with role format_of kept d area current opened cache at cached =
    record { area = at.area; up = refl; current = at.current; opened = at.opened; rested = at.rested; undamaged = at.undamaged; cached = cached }
