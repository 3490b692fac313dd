-- A pair that is put into the open sector, in the words of the code.
use Rattle.std.proofs.Common.{◌≡◌, ℕ, ◌+◌, ◌<◌, ◌≤◌, ◌⊎◌, true, false, List, length, sym, ap, subst, ◌∙◌, inl, inr, arith}
use Rattle.std.specs.Prelude.{IsTrue, Result, Ok, Err, OnOk, OnErr}
use Rattle.flash_sim.specs.Bank.{IsLawful}
use Rattle.flash_sim.specs.Device.{Device}
use Rattle.flash_map.specs.declared.area.Area.{Area}
use Rattle.flash_map.specs.declared.area.Geometry.{Geometry}
use Rattle.flash_map.specs.declared.area.Role.{Role}
use Rattle.flash_map.specs.Area.{geometry_of, sector_at, sectors_of, ChangesOnly}
use Rattle.flash_map.proofs.SpendingBounds.{between_then, between_within}
use Rattle.item_laws.specs.Area.{next, open_sector, is_closed_at}
use Rattle.item_laws.specs.Forms.{AtRest}
use Rattle.item_laws.specs.Reading.{is_sound}
use Rattle.item_laws.proofs.RingSteps.{reads}
use Rattle.item_laws.proofs.Rings.{open-not_closed}
use Rattle.item_store.specs.Cached.{AddsEntry}
use Rattle.item_store.specs.SectorFormat.{Range, SectorFormat, IsSectorFormat, fits}
use Rattle.item_store.specs.Room.{has_room, open_bytes}
use Rattle.item_store.specs.Standing.{IsStoreArea, RestsAt, SpendsIn, SpendsUpTo}
use Rattle.item_store.specs.Stands.{StandsAt}
use Rattle.item_store.specs.Steps.{Keeps, LeavesRoom, Begins, Adds}
use Rattle.item_store.specs.Spending.{both}
use Rattle.item_store.specs.Writing.{open_at, SpendsEntry, StopsEntry, PutsPair, StopsPutting}
use Rattle.item_store.proofs.Areas.{still_area, large_there, only_then}
use Rattle.item_store.proofs.CallFacts.{to_geometry, from_geometry}
use Rattle.item_store.proofs.CollectSteps.{rest_closed}
use Rattle.item_store.proofs.EntrySteps.{adds-entry}
use Rattle.item_store.proofs.PutSteps.{HasPut, HasNotPut, has_not_put, begun-form, begun-free, begun-room, then-put, then-kept}
use Rattle.item_store.proofs.Ranges.{first-lost, then-lost}
use Rattle.item_store.proofs.RoomFacts.{inside, rest_on}
use Rattle.item_store.proofs.Standings.{stands}

module _ {T : Type 0} (role : Role) (format_of : Geometry → SectorFormat) (kept : Geometry → List ℕ → T) (a : Device) (area : Area) (place : ℕ) (opened : T) (law : IsSectorFormat (format_of (geometry_of a area))) (lawful : IsLawful a.banks a.bytes) (on : StandsAt role format_of kept a area place opened) where
  abbrev k : SectorFormat
  k = format_of (geometry_of a area)

  abbrev old : List (List ℕ)
  old = sectors_of a area

  form : AtRest (format_of (geometry_of a area)).reading (sectors_of a area) place
  form = rest_on role format_of kept a area place opened law lawful on

  large : 512 ≤ length (sector_at (sectors_of a area) place)
  large = large_there role a area lawful on.area place (inside role format_of kept a area place opened on)

  pub open_sound : is_sound (format_of (geometry_of a area)).reading (sector_at (sectors_of a area) place) ≡ true
  open_sound = form.sound place form.ring.within

  pub open_not_closed : is_closed_at (format_of (geometry_of a area)).reading (sectors_of a area) place ≡ false
  open_not_closed = open-not_closed k.reading old place form.blanks form.ring

  -- an area that is at rest with this sector open: nothing is to do, and its room is that of this sector
  rests_in : (e : Device) → AtRest (format_of (geometry_of a area)).reading (sectors_of e area) place → RestsAt (format_of (geometry_of a area)) e area
  rests_in e rested =
      subst (λ (p : ℕ). AtRest k.reading (sectors_of e area) p) (sym (reads k.reading (sectors_of e area) place (inl rested)).0) rested

  free_in : (e : Device) → AtRest (format_of (geometry_of a area)).reading (sectors_of e area) place
      → (format_of (geometry_of a area)).free (open_at (format_of (geometry_of a area)) e area) ≡ (format_of (geometry_of a area)).free (sector_at (sectors_of e area) place)
  free_in e rested =
      ap (λ (p : ℕ). k.free (sector_at (sectors_of e area) p)) (reads k.reading (sectors_of e area) place (inl rested)).0

  -- power was lost while the sector was made ready
  pub begin_stops : (e : Device) (id : ℕ) (bytes : List ℕ) → ChangesOnly (sectors_of a area) (sectors_of e area) place → Keeps (format_of (geometry_of a area)) (sector_at (sectors_of a area) place) (sector_at (sectors_of e area) place)
      → LeavesRoom (format_of (geometry_of a area)) (sector_at (sectors_of a area) place) (sector_at (sectors_of e area) place) 0
      → SpendsUpTo a e ((format_of (geometry_of a area)).units.begin (sector_at (sectors_of a area) place)) → StopsPutting (format_of (geometry_of a area)) a e area id bytes
  begin_stops e id bytes only keeps room spends =
      let not_put = has_not_put k law old (sectors_of e area) place form only keeps.list keeps.used (keeps.sound open_sound) in
      let free_old = free_in a form in
      let free_new = free_in e not_put.form in
      let le = law.entry (sector_at old place) (sector_at old place) (length bytes) in
      record {
        list = inl not_put.list;
        undamaged = not_put.undamaged;
        rests = rests_in e not_put.form;
        room = omega arith;
        entry = subst (λ (p : ℕ). StopsEntry k a e (sector_at old p) (length bytes)) on.current (first-lost a e (k.units.begin (sector_at old place)) (k.units.put (sector_at old place) (length bytes)) spends);
        at_most = between_within spends 0 (k.units.entry (length bytes)) (omega arith) (omega arith);
      }

  module _ (b : Device) (banks : b.banks ≡ a.banks) (first : ChangesOnly (sectors_of a area) (sectors_of b area) place) (begins : Begins (format_of (geometry_of a area)) (sector_at (sectors_of a area) place) (sector_at (sectors_of b area) place)) where
    begun : AtRest k.reading (sectors_of b area) place
    begun = begun-form k law old (sectors_of b area) (sectors_of b area) place form large first begins

    pub put_area : IsStoreArea role b.banks area
    put_area = still_area role a b area banks on.area

    pub put_kept : (later : T) → later ≡ kept (geometry_of a area) (sector_at (sectors_of b area) place) → later ≡ kept (geometry_of b area) (sector_at (sectors_of b area) place)
    put_kept later known = from_geometry (λ u. later ≡ kept u (sector_at (sectors_of b area) place)) a b area banks known

    pub put_ready : (format_of (geometry_of b area)).is_ready (sector_at (sectors_of b area) place) ≡ true
    put_ready = from_geometry (λ u. (format_of u).is_ready (sector_at (sectors_of b area) place) ≡ true) a b area banks begins.ready

    pub put_opened : place ≡ open_sector (format_of (geometry_of b area)).reading (sectors_of b area)
    put_opened = from_geometry (λ u. place ≡ open_sector (format_of u).reading (sectors_of b area)) a b area banks (sym (reads k.reading (sectors_of b area) place (inl begun)).0)

    pub put_rested : is_closed_at (format_of (geometry_of b area)).reading (sectors_of b area) (next (sectors_of b area) place) ≡ false
    put_rested = from_geometry (λ u. is_closed_at (format_of u).reading (sectors_of b area) (next (sectors_of b area) place) ≡ false) a b area banks (rest_closed k law (sectors_of b area) place begun)

    pub put_ordinary : (id : ℕ) → id < (format_of (geometry_of a area)).ids → id < (format_of (geometry_of b area)).ids
    put_ordinary id small = from_geometry (λ u. id < (format_of u).ids) a b area banks small

    pub put_fits : (len : ℕ) → has_room (format_of (geometry_of a area)) (sectors_of a area) len ≡ true → IsTrue (fits (format_of (geometry_of b area)) (sector_at (sectors_of b area) place) len)
    put_fits len room =
        from_geometry (λ u. IsTrue (fits (format_of u) (sector_at (sectors_of b area) place) len)) a b area banks
        (begun-room k law old (sectors_of b area) (sectors_of b area) place form large first begins len ∙ ap (λ (p : ℕ). fits k (sector_at old p) len) on.current ∙ room)

    module _ (e : Device) (second : ChangesOnly (sectors_of b area) (sectors_of e area) place) (id : ℕ) (bytes : List ℕ)
        (sound : is_sound (format_of (geometry_of b area)).reading (sector_at (sectors_of b area) place) ≡ true → is_sound (format_of (geometry_of b area)).reading (sector_at (sectors_of e area) place) ≡ true)
        (spends : SpendsIn a b ((format_of (geometry_of a area)).units.begin (sector_at (sectors_of a area) place))) where
      still_sound : is_sound k.reading (sector_at (sectors_of b area) place) ≡ true → is_sound k.reading (sector_at (sectors_of e area) place) ≡ true
      still_sound = to_geometry (λ u. is_sound (format_of u).reading (sector_at (sectors_of b area) place) ≡ true → is_sound (format_of u).reading (sector_at (sectors_of e area) place) ≡ true) a b area banks sound

      has_pair : Adds (format_of (geometry_of b area)) (sector_at (sectors_of b area) place) (sector_at (sectors_of e area) place) id bytes → HasPut (format_of (geometry_of a area)) (sectors_of a area) (sectors_of e area) place id bytes
      has_pair adds =
          then-put k law old (sectors_of b area) (sectors_of e area) place form large first begins second id bytes still_sound
          (to_geometry (λ u. Adds (format_of u) (sector_at (sectors_of b area) place) (sector_at (sectors_of e area) place) id bytes) a b area banks adds)

      has_list : Keeps (format_of (geometry_of b area)) (sector_at (sectors_of b area) place) (sector_at (sectors_of e area) place) → HasNotPut (format_of (geometry_of a area)) (sectors_of a area) (sectors_of e area) place
      has_list keeps =
          then-kept k law old (sectors_of b area) (sectors_of e area) place form large first begins second id bytes still_sound
          (to_geometry (λ u. Keeps (format_of u) (sector_at (sectors_of b area) place) (sector_at (sectors_of e area) place)) a b area banks keeps)

      -- the pair is put
      put_stands : (later : T) → e.banks ≡ b.banks → Adds (format_of (geometry_of b area)) (sector_at (sectors_of b area) place) (sector_at (sectors_of e area) place) id bytes → later ≡ kept (geometry_of b area) (sector_at (sectors_of e area) place) → StandsAt role format_of kept e area place later
      put_stands later more adds known =
          stands role format_of kept a e area place later law (more ∙ banks) on.area (has_pair adds).form (to_geometry (λ u. later ≡ kept u (sector_at (sectors_of e area) place)) a b area banks known)

      put_puts : Adds (format_of (geometry_of b area)) (sector_at (sectors_of b area) place) (sector_at (sectors_of e area) place) id bytes → SpendsIn b e ((format_of (geometry_of b area)).units.put (sector_at (sectors_of b area) place) (length bytes))
          → PutsPair (format_of (geometry_of a area)) a e area id bytes
      put_puts adds more =
          let has = has_pair adds in
          let own : Adds k (sector_at (sectors_of b area) place) (sector_at (sectors_of e area) place) id bytes = to_geometry (λ u. Adds (format_of u) (sector_at (sectors_of b area) place) (sector_at (sectors_of e area) place) id bytes) a b area banks adds in
          let taken = own.free in
          let free_mid = begun-free k law old (sectors_of b area) (sectors_of b area) place form large first begins in
          let free_old = free_in a form in
          let free_new = free_in e has.form in
          let there : SpendsIn b e (k.units.put (sector_at (sectors_of b area) place) (length bytes)) = to_geometry (λ u. SpendsIn b e ((format_of u).units.put (sector_at (sectors_of b area) place) (length bytes))) a b area banks more in
          record {
            list = has.list;
            undamaged = has.undamaged;
            rests = rests_in e has.form;
            room = omega arith;
            entry = subst (λ (p : ℕ). SpendsEntry k a e (sector_at old p) (length bytes)) on.current (subst (λ (r : Range). SpendsIn a e (both (k.units.begin (sector_at old place)) r)) (begins.put (length bytes)) (between_then spends there));
          }

      -- power was lost
      put_stops : Keeps (format_of (geometry_of b area)) (sector_at (sectors_of b area) place) (sector_at (sectors_of e area) place) ⊎ Adds (format_of (geometry_of b area)) (sector_at (sectors_of b area) place) (sector_at (sectors_of e area) place) id bytes
          → LeavesRoom (format_of (geometry_of b area)) (sector_at (sectors_of b area) place) (sector_at (sectors_of e area) place) ((format_of (geometry_of b area)).cost (length bytes))
          → SpendsUpTo b e ((format_of (geometry_of b area)).units.put (sector_at (sectors_of b area) place) (length bytes)) → StopsPutting (format_of (geometry_of a area)) a e area id bytes
      put_stops either room more =
          let left : LeavesRoom k (sector_at (sectors_of b area) place) (sector_at (sectors_of e area) place) (k.cost (length bytes)) =
          to_geometry (λ u. LeavesRoom (format_of u) (sector_at (sectors_of b area) place) (sector_at (sectors_of e area) place) ((format_of u).cost (length bytes))) a b area banks room in
          let free_mid = begun-free k law old (sectors_of b area) (sectors_of b area) place form large first begins in
          let free_old = free_in a form in
          let leaves : AtRest k.reading (sectors_of e area) place → k.free (open_at k a area) ≤ k.free (open_at k e area) + k.cost (length bytes) =
          λ rested. let free_new = free_in e rested in omega arith in
          let there : SpendsUpTo b e (k.units.put (sector_at (sectors_of b area) place) (length bytes)) = to_geometry (λ u. SpendsUpTo b e ((format_of u).units.put (sector_at (sectors_of b area) place) (length bytes))) a b area banks more in
          let le = law.entry (sector_at old place) (sector_at (sectors_of b area) place) (length bytes) in
          let covers = law.units.begins (sector_at old place) in
          let cut : SpendsUpTo a e (both (k.units.begin (sector_at old place)) (k.units.put (sector_at old place) (length bytes))) =
          subst (λ (r : Range). SpendsUpTo a e (both (k.units.begin (sector_at old place)) r)) (begins.put (length bytes))
          (then-lost a b e (k.units.begin (sector_at old place)) (k.units.put (sector_at (sectors_of b area) place) (length bytes)) spends there) in
          let own : StopsEntry k a e (open_bytes k old) (length bytes) = subst (λ (p : ℕ). StopsEntry k a e (sector_at old p) (length bytes)) on.current cut in
          let all = between_within (between_then spends there) 0 (k.units.entry (length bytes)) (omega arith) (omega arith) in
          elim either [
            | inl keeps ↦ let has = has_list keeps in record { list = inl has.list; undamaged = has.undamaged; rests = rests_in e has.form; room = leaves has.form; entry = own; at_most = all }
            | inr adds ↦ let has = has_pair adds in record { list = inr has.list; undamaged = has.undamaged; rests = rests_in e has.form; room = leaves has.form; entry = own; at_most = all }
          ]

      -- so the call ends
      pub put_ends_stands : {X E : Type 0} (r : Result X E) (later : T) → e.banks ≡ b.banks → OnOk r (Adds (format_of (geometry_of b area)) (sector_at (sectors_of b area) place) (sector_at (sectors_of e area) place) id bytes) → OnOk r (later ≡ kept (geometry_of b area) (sector_at (sectors_of e area) place)) → OnOk r (StandsAt role format_of kept e area place later)
      put_ends_stands (Ok x) later more adds known = put_stands later more adds known
      put_ends_stands (Err x) later more adds known = tt

      pub put_ends_entry : {X E : Type 0} (r : Result X E) → OnOk r (Adds (format_of (geometry_of b area)) (sector_at (sectors_of b area) place) (sector_at (sectors_of e area) place) id bytes) → OnOk r (AddsEntry (format_of (geometry_of a area)) (sectors_of a area) (sectors_of e area) place id (length bytes))
      put_ends_entry (Ok x) adds =
          adds-entry k law old (sectors_of e area) place form (has_pair adds).form (only_then old (sectors_of b area) (sectors_of e area) place first second) (sector_at (sectors_of b area) place) id bytes begins
          (to_geometry (λ u. Adds (format_of u) (sector_at (sectors_of b area) place) (sector_at (sectors_of e area) place) id bytes) a b area banks adds)
      put_ends_entry (Err x) adds = tt

      pub put_ends_puts : {X E : Type 0} (r : Result X E) → OnOk r (Adds (format_of (geometry_of b area)) (sector_at (sectors_of b area) place) (sector_at (sectors_of e area) place) id bytes) → OnOk r (SpendsIn b e ((format_of (geometry_of b area)).units.put (sector_at (sectors_of b area) place) (length bytes))) → OnOk r (PutsPair (format_of (geometry_of a area)) a e area id bytes)
      put_ends_puts (Ok x) adds more = put_puts adds more
      put_ends_puts (Err x) adds more = tt

      pub put_ends_stops : {X E : Type 0} (r : Result X E) → OnErr r (Keeps (format_of (geometry_of b area)) (sector_at (sectors_of b area) place) (sector_at (sectors_of e area) place) ⊎ Adds (format_of (geometry_of b area)) (sector_at (sectors_of b area) place) (sector_at (sectors_of e area) place) id bytes)
          → OnErr r (LeavesRoom (format_of (geometry_of b area)) (sector_at (sectors_of b area) place) (sector_at (sectors_of e area) place) ((format_of (geometry_of b area)).cost (length bytes)))
          → OnErr r (SpendsUpTo b e ((format_of (geometry_of b area)).units.put (sector_at (sectors_of b area) place) (length bytes))) → OnErr r (StopsPutting (format_of (geometry_of a area)) a e area id bytes)
      put_ends_stops (Ok x) either room more = tt
      put_ends_stops (Err x) either room more = put_stops either room more
