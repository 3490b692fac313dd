-- What the calls of a store over sectors of any format say of an area's geometry and sectors.
use Rattle.std.proofs.Common.{◌≡◌, ℕ, zero, suc, ◌+◌, ◌-◌, ◌*◌, ◌/◌, ◌<◌, ◌≤◌, ◌⊎◌, Bool, true, false, cond, List, [], length, None, Result, Ok, Err, refl, sym, ap, subst, ◌∙◌, inl, inr, arith}
use Rattle.std.specs.Prelude.{IfOk, OnOk}
use Rattle.std.specs.FinMap.{get, get-empty}
use Rattle.std.specs.List.{list_all}
use Rattle.std.specs.Ordering.{nat_cmp}
use Rattle.std.proofs.lemmas.Bool.{true≢false, cases_Bool, cases_lt}
use Rattle.std.proofs.lemmas.List.Folds.{list_all_at}
use Rattle.flash_sim.specs.Device.{Device}
use Rattle.flash_sim.specs.declared.flash.PowerLost.{PowerLost as Lost}
use Rattle.flash_map.specs.declared.area.Area.{Area}
use Rattle.flash_map.specs.declared.area.Geometry.{Geometry}
use Rattle.flash_map.specs.declared.area.Role.{Role}
use Rattle.flash_map.specs.declared.faults.MountFault.{MountFault}
use Rattle.flash_map.specs.declared.faults.MountFault.TheVariants.{Damaged as HasDamage, PowerLost as MountLost, NoMemory}
use Rattle.flash_map.specs.declared.faults.WriteFault.{WriteFault}
use Rattle.flash_map.specs.declared.faults.WriteFault.TheVariants.{NoSpace, TooLong, PowerLost}
use Rattle.flash_map.specs.Area.{geometry_of, unit_of, sector_at, sector_size, sectors_of}
use Rattle.flash_map.specs.Lawful.{IsLawfulFor}
use Rattle.flash_map.specs.Spending.{SpendsAtMost, SpendsBetween}
use Rattle.flash_map.specs.Units.{is_erased}
use Rattle.item_laws.specs.Costs.{items_cost}
use Rattle.item_laws.specs.Items.{Items, items_of}
use Rattle.item_laws.specs.PairRounds.{live_cost}
use Rattle.item_laws.proofs.ItemsCost.{items_cost-is}
use Rattle.item_laws.specs.Area.{is_blank_at, next, open_sector}
use Rattle.item_laws.specs.Forms.{AtRest}
use Rattle.item_laws.proofs.AreaReads.{length-sectors}
use Rattle.item_laws.proofs.LiveLemmas.{option_cases, some_none}
use Rattle.item_store.specs.declared.store.Store.{Store}
use Rattle.item_store.specs.SectorFormat.{SectorFormat, IsSectorFormat}
use Rattle.item_store.specs.declared.entry.Redo.{Redo}
use Rattle.item_store.specs.declared.entry.Redo.TheVariants.{Nothing, ClearNext, CollectAgain}
use Rattle.item_store.specs.Collecting.{redo_of, redo_units}
use Rattle.item_store.specs.Room.{has_room, has_room_at}
use Rattle.item_store.specs.Standing.{items, items_at, list_at, SpendsIn}
use Rattle.item_store.specs.Stands as ring
use Rattle.item_store.specs.Wrapped.{store_in}
use Rattle.item_store.specs.Writing as ring_writing
use Rattle.item_store.specs.Written.{IsWritten}
use Rattle.item_store.proofs.Areas.{form_here}
use Rattle.item_store.proofs.BlankAreas.{blank-empty}
use Rattle.item_store.proofs.CallFacts.{from_geometry}
use Rattle.item_store.proofs.CollectSteps.{rest_from, redo_is}
use Rattle.backend_api.specs.Ends as api
use Rattle.backend_api.specs.Room.{removal_units}
use Rattle.backend_api.specs.Written.{StaysWritten}
use Rattle.named_items.specs.Blank.{items-none}
use Rattle.named_items.specs.StoreEnds.{item_units, WriteEnds, DeleteEnds}
use Rattle.named_items.specs.RingStore.{ring_rests, ring_removal, RingStands, IsFrugal}
use Rattle.named_items.proofs.MostUnits.{rounds-within, spends-none, between-most}

-- ---- a store that stands

module _ {T : Type 0} (role : Role) (format_of : Geometry → SectorFormat) (kept : Geometry → List ℕ → T) where
  pub ring-on : (d : Device) (store : Store T) → IsLawfulFor d.banks store.area → RingStands role format_of kept store (geometry_of d store.area) (sectors_of d store.area) → ring.StandsOn role format_of kept d store
  ring-on d store lawful stands = record {
    area = record { lawful = lawful; role_is = stands.role };
    up = stands.up;
    current = stands.current;
    opened = stands.opened;
    rested = stands.rested;
    undamaged = stands.undamaged;
    cached = stands.cached;
  }

  pub ring-of : (d : Device) (store : Store T) → ring.StandsOn role format_of kept d store → RingStands role format_of kept store (geometry_of d store.area) (sectors_of d store.area)
  ring-of d store stands = record {
    role = stands.area.role_is;
    up = stands.up;
    current = stands.current;
    opened = stands.opened;
    rested = stands.rested;
    undamaged = stands.undamaged;
    cached = stands.cached;
  }

  -- ---- how a mount ends

  module _ {S : Type 0} (held : S → Store T) (old new : Device) (area : Area) (banks : new.banks ≡ old.banks) where
    pub ring-mounts : (r : Result S MountFault) → ring.MountEnds role format_of kept old new area (store_in held r) → api.MountEnds ((format_of (geometry_of old area)).damage (sectors_of old area)) old new r
    ring-mounts (Ok s) ends = ends.0
    ring-mounts (Err (HasDamage damaged)) ends = ends
    ring-mounts (Err MountLost) ends = ends.0
    ring-mounts (Err NoMemory) ends = ends

    -- an area with no damage has none, and its items stay
    kept_there : (r : Result S MountFault) → ring.MountEnds role format_of kept old new area (store_in held r) → (format_of (geometry_of old area)).damage (sectors_of old area) ≡ None → (items (format_of (geometry_of old area)) (sectors_of new area) ≡ items (format_of (geometry_of old area)) (sectors_of old area)) × ((format_of (geometry_of old area)).damage (sectors_of new area) ≡ None)
    kept_there (Ok s) ends none = (ends.3.items, ends.3.undamaged)
    kept_there (Err (HasDamage damaged)) ends none = absurd (some_none damaged (sym ends.0 ∙ none))
    kept_there (Err MountLost) ends none = (ends.1.items, ends.1.undamaged)
    kept_there (Err NoMemory) ends none =
        (ap (λ (x : Device). items (format_of (geometry_of old area)) (sectors_of x area)) ends, ap (λ (x : Device). (format_of (geometry_of old area)).damage (sectors_of x area)) ends ∙ none)

    pub ring-sound : (r : Result S MountFault) → ring.MountEnds role format_of kept old new area (store_in held r) → (format_of (geometry_of old area)).damage (sectors_of old area) ≡ None → (format_of (geometry_of new area)).damage (sectors_of new area) ≡ None
    ring-sound r ends none = from_geometry (λ u. (format_of u).damage (sectors_of new area) ≡ None) old new area banks (kept_there r ends none).1

    pub ring-keeps : (r : Result S MountFault) → ring.MountEnds role format_of kept old new area (store_in held r) → (format_of (geometry_of old area)).damage (sectors_of old area) ≡ None → items (format_of (geometry_of new area)) (sectors_of new area) ≡ items (format_of (geometry_of old area)) (sectors_of old area)
    ring-keeps r ends none =
        from_geometry (λ u. items (format_of u) (sectors_of new area) ≡ items (format_of (geometry_of old area)) (sectors_of old area)) old new area banks (kept_there r ends none).0

    pub ring-mounted : (r : Result S MountFault) → ring.MountEnds role format_of kept old new area (store_in held r) → IfOk r (λ s. (held s).area ≡ area)
    ring-mounted (Ok s) ends = ends.2
    ring-mounted (Err fault) ends = tt

    pub ring-up : (r : Result S MountFault) → ring.MountEnds role format_of kept old new area (store_in held r) → IfOk r (λ s. RingStands role format_of kept (held s) (geometry_of new (held s).area) (sectors_of new (held s).area))
    ring-up (Ok s) ends = ring-of new (held s) ends.1
    ring-up (Err fault) ends = tt

    -- it spends no more than the end of a collection, or leaves room for a delete
    module _ (law : IsSectorFormat (format_of (geometry_of old area))) where
      pub ring-redoes : (r : Result S MountFault) → ring.MountEnds role format_of kept old new area (store_in held r)
          → OnOk r (SpendsAtMost old new (format_of (geometry_of old area)).units.any_clear.lost ⊎ (has_room (format_of (geometry_of new area)) (sectors_of new area) 0 ≡ true))
      ring-redoes (Err fault) ends = tt
      ring-redoes (Ok s) ends = by (redo_of (format_of (geometry_of old area)) (sectors_of old area) (open_sector (format_of (geometry_of old area)).reading (sectors_of old area))) refl
        where
          by : (redo : Redo) → redo_of (format_of (geometry_of old area)) (sectors_of old area) (open_sector (format_of (geometry_of old area)).reading (sectors_of old area)) ≡ redo
              → SpendsAtMost old new (format_of (geometry_of old area)).units.any_clear.lost ⊎ (has_room (format_of (geometry_of new area)) (sectors_of new area) 0 ≡ true)
          by Nothing is =
              let spent = subst (λ (r : Redo). SpendsIn old new (redo_units (format_of (geometry_of old area)) (sectors_of old area) (open_sector (format_of (geometry_of old area)).reading (sectors_of old area)) r)) is ends.4 in
              inl (between-most old new 0 0 (format_of (geometry_of old area)).units.any_clear.lost (omega arith) spent)
          by ClearNext is =
              let b = sector_at (sectors_of old area) (next (sectors_of old area) (open_sector (format_of (geometry_of old area)).reading (sectors_of old area))) in
              let spent = subst (λ (r : Redo). SpendsIn old new (redo_units (format_of (geometry_of old area)) (sectors_of old area) (open_sector (format_of (geometry_of old area)).reading (sectors_of old area)) r)) is ends.4 in
              let covers = law.units.clears b in
              let wide = law.units.clear_lost b in
              inl (between-most old new ((format_of (geometry_of old area)).units.clear b).least ((format_of (geometry_of old area)).units.clear b).most (format_of (geometry_of old area)).units.any_clear.lost (omega arith) spent)
          by CollectAgain is = inr (from_geometry (λ u. has_room (format_of u) (sectors_of new area) 0 ≡ true) old new area banks (ends.7 is))

    -- where there is nothing to do, nothing changes
    module _ (law : IsSectorFormat (format_of (geometry_of old area))) (own : IsLawfulFor old.banks area) where
      at_rest : (format_of (geometry_of old area)).damage (sectors_of old area) ≡ None → ring_rests format_of area (geometry_of old area) (sectors_of old area) → AtRest (format_of (geometry_of old area)).reading (sectors_of old area) (open_sector (format_of (geometry_of old area)).reading (sectors_of old area))
      at_rest none rests =
          let count = length-sectors old area in
          rest_from (format_of (geometry_of old area)) law (sectors_of old area) (open_sector (format_of (geometry_of old area)).reading (sectors_of old area))
          (form_here (format_of (geometry_of old area)) law (sectors_of old area) (open_sector (format_of (geometry_of old area)).reading (sectors_of old area)) (omega (arith, own.several, count)) none refl)
          (redo_is (format_of (geometry_of old area)) law (sectors_of old area) (open_sector (format_of (geometry_of old area)).reading (sectors_of old area)) false ((format_of (geometry_of old area)).reading.has_gc_done (sector_at (sectors_of old area) (open_sector (format_of (geometry_of old area)).reading (sectors_of old area)))) rests refl)

      pub ring-idle : (r : Result S MountFault) → ring.MountEnds role format_of kept old new area (store_in held r) → ring_rests format_of area (geometry_of old area) (sectors_of old area) → new ≡ old
      ring-idle (Ok s) ends rests = ends.5 (at_rest ends.0 rests)
      ring-idle (Err (HasDamage damaged)) ends rests = ends.1
      ring-idle (Err MountLost) ends rests = absurd (ends.3 (at_rest ends.0 rests))
      ring-idle (Err NoMemory) ends rests = ends

-- ---- how writing and deleting end

once : (a b : ℕ) → 1 * a + b ≤ a + b
once a b = omega arith

module _ (k : SectorFormat) (d e : Device) (area : Area) where
  pub ring-writes : {V : Type 0} (id : ℕ) (bytes : List ℕ) (r : Result V WriteFault) → ring_writing.WriteEnds k d e area id bytes r
      → WriteEnds k.cost (k.cap (sector_size d area)) area.sectors d e (items_at k d area) (items_at k e area) id bytes r
  ring-writes id bytes (Ok x) ends = record { short = ends.short; items = ends.items; equal = ends.equal }
  ring-writes id bytes (Err (NoSpace need live)) ends =
      let lives : live_cost k.cost (list_at k d area) ≡ items_cost k.cost (items_at k d area) = items_cost-is k.cost (list_at k d area) in
      record {
        short = ends.short;
        needs = ends.needs;
        lives = ends.lives ∙ lives;
        full = subst (λ (n : ℕ). (area.sectors - 1) * (k.cap (sector_size d area) - k.cost (length bytes)) < n) lives ends.finds.2.full;
        other = ends.other;
        items = ends.finds.0.items.items;
      }
  ring-writes id bytes (Err TooLong) ends = (over, ends.1)
    where
      over : k.cap (sector_size d area) < k.cost (length bytes)
      over = elim (cases_lt (k.cap (sector_size d area)) (k.cost (length bytes))) [
        | inl less ↦ less
        | inr short ↦ absurd (ends.0 short)
      ]
  ring-writes id bytes (Err PowerLost) ends = record { short = ends.short; other = ends.other; items = ends.items }

  pub ring-deletes : {V : Type 0} (id : ℕ) (r : Result V Lost) → ring_writing.DeleteEnds k d e area id r → DeleteEnds d e (items_at k d area) (items_at k e area) id r
  ring-deletes id (Ok x) ends = record { items = ends.items; absent = ends.absent }
  ring-deletes id (Err x) ends = record { present = ends.present; items = ends.items }

  -- a delete, by one round and one entry
  pub ring-delete-one : {V : Type 0} (id : ℕ) (r : Result V Lost) → ring_writing.DeleteEnds k d e area id r → SpendsAtMost d e (ring_removal k (sector_size d area))
  ring-delete-one id (Ok x) ends = between-most d e 0 _ _ (once (k.units.round (sector_size d area)) (k.units.entry 0)) ends.at_most
  ring-delete-one id (Err x) ends = between-most d e 0 _ _ (once (k.units.round (sector_size d area)) (k.units.entry 0)) ends.at_most

  module _ (law : IsSectorFormat k) where
    -- one that needs no round
    ring-delete-entry : {V : Type 0} (id : ℕ) (r : Result V Lost) → ring_writing.DeleteEnds k d e area id r → has_room_at k d area 0 ≡ true → SpendsAtMost d e (k.units.entry 0)
    ring-delete-entry id (Ok x) ends room =
        elim (option_cases (get (items_at k d area) id)) [
          | inl absent ↦ spends-none d e _ (ends.absent absent)
          | inr (bytes, there) ↦
              let spent = ends.fitting (λ none. some_none bytes (sym there ∙ none)) room in
              let b = ring_writing.open_at k d area in
              let most = law.entry b b 0 in
              let begins = law.units.begins b in
              let puts = law.units.puts b 0 in
              between-most d e ((k.units.begin b).least + (k.units.put b 0).least) ((k.units.begin b).most + (k.units.put b 0).most) (k.units.entry 0) (omega arith) spent
        ]
    ring-delete-entry id (Err x) ends room = between-most d e 0 (k.units.entry 0) (k.units.entry 0) (omega arith) (ends.fitting room)

    -- by whether it needs one
    pub ring-delete-next : {V : Type 0} (most id : ℕ) (r : Result V Lost) → ring_writing.DeleteEnds k d e area id r → SpendsAtMost d e most
        → SpendsAtMost d e (cond (has_room_at k d area 0) (k.units.entry 0) most)
    ring-delete-next {V = V} most id r ends one = by (has_room_at k d area 0) refl
      where
        by : (roomy : Bool) → has_room_at k d area 0 ≡ roomy → SpendsAtMost d e (cond roomy (k.units.entry 0) most)
        by true is = ring-delete-entry id r ends is
        by false is = one

  -- ---- what they spend at most

  module _ (several : 2 ≤ area.sectors) (frugal : IsFrugal k (sector_size d area) (sector_size d area / unit_of d area)) where
    within : (sectors rounds len : ℕ) → rounds + 1 ≤ sectors → k.cost len ≤ k.cap (sector_size d area)
        → rounds * k.units.round (sector_size d area) + k.units.entry len ≤ 3 * sectors * (sector_size d area / unit_of d area + 3)
    within sectors rounds len few short =
        rounds-within sectors (sector_size d area / unit_of d area) (k.units.round (sector_size d area)) rounds (k.units.entry len) few frugal.round (frugal.entry len short)

    pub ring-write-most : {V : Type 0} (id : ℕ) (bytes : List ℕ) (r : Result V WriteFault) → ring_writing.WriteEnds k d e area id bytes r → SpendsAtMost d e (item_units (geometry_of d area))
    ring-write-most id bytes (Ok x) ends = between-most d e 0 _ _ (within area.sectors (area.sectors - 1) (length bytes) (omega arith) ends.short) ends.at_most
    ring-write-most id bytes (Err (NoSpace need live)) ends = between-most d e 0 _ _ (within area.sectors (area.sectors - 1) (length bytes) (omega arith) ends.short) ends.at_most
    ring-write-most id bytes (Err TooLong) ends = spends-none d e _ ends.1
    ring-write-most id bytes (Err PowerLost) ends = between-most d e 0 _ _ (within area.sectors (area.sectors - 1) (length bytes) (omega arith) ends.short) ends.at_most

    pub ring-delete-most : {V : Type 0} (id : ℕ) (r : Result V Lost) → ring_writing.DeleteEnds k d e area id r → SpendsAtMost d e (item_units (geometry_of d area))
    ring-delete-most id (Ok x) ends = between-most d e 0 _ _ (within area.sectors 1 0 several frugal.delete) ends.at_most
    ring-delete-most id (Err x) ends = between-most d e 0 _ _ (within area.sectors 1 0 several frugal.delete) ends.at_most

    -- by one collection and one entry
    pub ring-delete-removal : {V : Type 0} (id : ℕ) (r : Result V Lost) → ring_writing.DeleteEnds k d e area id r → SpendsAtMost d e (removal_units (geometry_of d area))
    ring-delete-removal id (Ok x) ends = between-most d e 0 _ _ (within 2 1 0 (omega arith) frugal.delete) ends.at_most
    ring-delete-removal id (Err x) ends = between-most d e 0 _ _ (within 2 1 0 (omega arith) frugal.delete) ends.at_most

    pub ring-mount-most : SpendsBetween d e 0 (k.units.mount (sector_size d area)) → SpendsAtMost d e (item_units (geometry_of d area))
    ring-mount-most spent =
        let most = rounds-within area.sectors (sector_size d area / unit_of d area) 0 0 (k.units.mount (sector_size d area)) (omega arith) (omega arith) frugal.mount in
        between-most d e 0 (k.units.mount (sector_size d area)) (item_units (geometry_of d area)) (omega arith) spent

-- the same with the items of each device read by its own geometry, which is the same
module _ (format_of : Geometry → SectorFormat) (d e : Device) (area : Area) (banks : e.banks ≡ d.banks) where
  pub ring-writes_on : {V : Type 0} (id : ℕ) (bytes : List ℕ) (r : Result V WriteFault) → ring_writing.WriteEnds (format_of (geometry_of d area)) d e area id bytes r
      → WriteEnds (format_of (geometry_of d area)).cost ((format_of (geometry_of d area)).cap (sector_size d area)) area.sectors d e (items_at (format_of (geometry_of d area)) d area) (items_at (format_of (geometry_of e area)) e area) id bytes r
  ring-writes_on id bytes r ends =
      from_geometry (λ u. WriteEnds (format_of (geometry_of d area)).cost ((format_of (geometry_of d area)).cap (sector_size d area)) area.sectors d e (items_at (format_of (geometry_of d area)) d area) (items_at (format_of u) e area) id bytes r) d e area banks
      (ring-writes (format_of (geometry_of d area)) d e area id bytes r ends)

  pub ring-deletes_on : {V : Type 0} (id : ℕ) (r : Result V Lost) → ring_writing.DeleteEnds (format_of (geometry_of d area)) d e area id r
      → DeleteEnds d e (items_at (format_of (geometry_of d area)) d area) (items_at (format_of (geometry_of e area)) e area) id r
  ring-deletes_on id r ends =
      from_geometry (λ u. DeleteEnds d e (items_at (format_of (geometry_of d area)) d area) (items_at (format_of u) e area) id r) d e area banks
      (ring-deletes (format_of (geometry_of d area)) d e area id r ends)

-- ---- what stays written

-- the sectors before this place are blank, or something is written
find-used : (k : SectorFormat) (sectors : List (List ℕ)) (n : ℕ) → n ≤ length sectors → ((j : ℕ) → j < n → is_blank_at k.reading sectors j ≡ true) ⊎ IsWritten k sectors
find-used k sectors zero le = inl (λ j lt. absurd (omega arith))
find-used k sectors (suc n) le =
    elim (find-used k sectors n (omega arith)) [
      | inr written ↦ inr written
      | inl before ↦ elim (cases_Bool (is_blank_at k.reading sectors n)) [
        | inl blank ↦ inl (λ j lt. elim (cases_lt j n) [
          | inl below ↦ before j below
          | inr above ↦ let same : n ≡ j = omega arith in subst (λ (p : ℕ). is_blank_at k.reading sectors p ≡ true) same blank
        ])
        | inr used ↦ inr (record { place = n; within = omega arith; used = used })
      ]
    ]

-- an area with an item is written
pub present-written : (k : SectorFormat) (law : IsSectorFormat k) (sectors : List (List ℕ)) (id : ℕ) → 2 ≤ length sectors → ¬ (get (items k sectors) id ≡ None) → IsWritten k sectors
present-written k law sectors id several present =
    elim (find-used k sectors (length sectors) (omega arith)) [
      | inr written ↦ written
      | inl blank ↦ absurd (present (ap (λ (l : List (ℕ × List ℕ)). get (items_of l) id) (blank-empty k.reading law.reads sectors several blank) ∙ ap (λ (m : Items). get m id) items-none ∙ get-empty nat_cmp id))
    ]

-- a sector all of whose bytes are FF is blank
module _ (k : SectorFormat) (erased : (b : List ℕ) → is_erased b ≡ true → k.reading.is_blank b ≡ true) (d e : Device) (area : Area) where
  written-stays : IsWritten k (sectors_of e area) → StaysWritten d e area
  written-stays written all =
      elim (cases_Bool (is_erased (sector_at (sectors_of e area) written.place))) [
        | inl blank ↦ absurd (true≢false (sym (erased (sector_at (sectors_of e area) written.place) blank) ∙ written.used))
        | inr other ↦ absurd (true≢false (sym all ∙ list_all_at is_erased (sectors_of e area) written.place [] written.within other))
      ]

  -- nothing changed, or something is written
  pub ring-changed : (e ≡ d) ⊎ IsWritten k (sectors_of e area) → StaysWritten d e area
  ring-changed ends =
      elim ends [
        | inl same ↦ λ all. subst (λ (x : Device). list_all is_erased (sectors_of x area) ≡ true) same all
        | inr written ↦ written-stays written
      ]

  pub ring-delete-written : {V : Type 0} (law : IsSectorFormat k) (several : 2 ≤ area.sectors) (id : ℕ) (r : Result V Lost) → ring_writing.DeleteEnds k d e area id r → (IsWritten k (sectors_of d area) → IsWritten k (sectors_of e area)) → StaysWritten d e area
  ring-delete-written law several id r ends kept =
      elim (option_cases (get (items_at k d area) id)) [
        | inl absent ↦ ring-changed (absent_ends r ends absent)
        | inr (bytes, there) ↦ written-stays (kept (present-written k law (sectors_of d area) id long (λ none. some_none bytes (sym there ∙ none))))
      ]
    where
      long : 2 ≤ length (sectors_of d area)
      long = let count = length-sectors d area in omega arith

      absent_ends : {W : Type 0} (r : Result W Lost) → ring_writing.DeleteEnds k d e area id r → get (items_at k d area) id ≡ None → (e ≡ d) ⊎ IsWritten k (sectors_of e area)
      absent_ends (Ok x) ends absent = inl (ends.absent absent)
      absent_ends (Err x) ends absent = absurd (ends.present absent)
