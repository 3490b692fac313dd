-- Looking for an item by its bytes: entries that hold them, and what stands behind these.
use Rattle.std.proofs.Common.{◌≡◌, ℕ, zero, suc, ◌+◌, ◌-◌, ◌%◌, ◌<◌, ◌≤◌, Bool, true, false, not, ◌&&◌, eqb, leb, ◌⊎◌, List, [], ◌∷◌, ◌++◌, ◌||◌, length, Option, Some, None, refl, sym, ap, subst, ◌∙◌, inl, inr, arith}
use Rattle.std.specs.Prelude.{IfSome}
use Rattle.std.specs.FinMap.{get}
use Rattle.std.specs.Option.{option_eq, option_map, option_or, option_to_list}
use Rattle.std.proofs.lemmas.Bool.{false≢true, cases_eq, cases_lt, eq-eqb, ne_eqb, le-leb, cond-true, cond-false}
use Rattle.flash_sim.specs.Bank.{IsLawful}
use Rattle.flash_sim.specs.Device.{Device}
use Rattle.flash_map.specs.declared.area.Role.{Role}
use Rattle.flash_map.specs.declared.area.Geometry.{Geometry}
use Rattle.flash_map.specs.Area.{geometry_of, sector_at, sectors_of}
use Rattle.item_laws.specs.Area.{open_sector}
use Rattle.item_laws.specs.Bytes.{HasBytes}
use Rattle.item_laws.specs.Items.{Items, value_of}
use Rattle.item_laws.specs.Live.{all_placed, counted_in, last_of, last_placed, bytes_of}
use Rattle.item_laws.specs.RoundParts.{places_after}
use Rattle.item_laws.proofs.AreaReads.{length-sectors}
use Rattle.item_laws.proofs.LiveLemmas.{option_cases, some_none}
use Rattle.item_laws.proofs.Newest.{last-all, last-append}
use Rattle.item_laws.proofs.Places.{after, before, after-last, after-inner, after-within, before-first, before-inner}
use Rattle.item_store.specs.declared.entry.Entry.{Entry}
use Rattle.item_store.specs.declared.entry.IdRange.{IdRange}
use Rattle.item_store.specs.declared.entry.Placed.{Placed}
use Rattle.item_store.specs.declared.store.Store.{Store}
use Rattle.item_store.specs.Asking.{NoneIsItem}
use Rattle.item_store.specs.Cached.{latest_of, latest_on}
use Rattle.item_store.specs.Holding.{Holds, NoneHolds, NoneHoldsIn, IsFirstHolder, NoneLater}
use Rattle.item_store.specs.SectorFormat.{SectorFormat, IsSectorFormat, placed_at, slots}
use Rattle.item_store.specs.Lasts.{in_range, IsOther, AreOthers, given_at}
use Rattle.item_store.specs.Latest.{last_of_id}
use Rattle.item_store.specs.Listed.{IsListed, IsPlaced, items_on}
use Rattle.item_store.specs.Seen.{AreBehind, behind}
use Rattle.item_store.specs.Stands.{StandsOn}
use Rattle.item_store.proofs.AskingSteps.{own-id, same_some}
use Rattle.item_store.proofs.CacheSteps.{latest-none, latest-placed}
use Rattle.item_store.proofs.CostSteps.{before-after, start_seen, more_seen}
use Rattle.item_store.proofs.LastsSlots.{covered-is}
use Rattle.item_store.proofs.LastsWalk.{begun-last, covered-all}
use Rattle.item_store.proofs.IndexSteps.{prefix-other}
use Rattle.item_store.proofs.LiveSteps.{own-last, later_all, later_at, later_step, stand_behind}
use Rattle.item_store.proofs.ReadFacts.{counts_on, current_on, last_placed_on, some_sectors, value_by}

-- ---- places

before-next : (count place : ℕ) → place < count → before count (after count place) ≡ place
before-next count place lt =
    elim (cases_eq (place + 1) count) [
      | inl last ↦ let one : count - 1 ≡ place = omega arith in ap (before count) (after-last count place last) ∙ before-first count ∙ one
      | inr other ↦
          let back : place + 1 - 1 ≡ place = omega arith in
          ap (before count) (after-inner count place (omega (arith, other))) ∙ before-inner count (place + 1) (omega arith) ∙ back
    ]

-- only the oldest sector comes behind the open one
next-apart : (count current place : ℕ) → current < count → place < count → (place ≡ current → ⊥) → after count place ≡ after count current → ⊥
next-apart count current place low high apart same = apart (sym (before-next count place high) ∙ ap (before count) same ∙ before-next count current low)

-- where no entry of a sector gives an id of the range the bytes, none is found
pub no-holder : (k : SectorFormat) (b : List ℕ) (place : ℕ) (ids : IdRange) (wanted : List ℕ) (skipped : ℕ) (p : Placed) → IsFirstHolder k b place ids wanted (k.first + skipped) p → NoneHoldsIn k b ids wanted → ⊥
no-holder k b place ids wanted skipped p holder none =
    let from = holder.from in
    none p.slot holder.entry (omega (arith, from)) holder.listed holder.read holder.holds

-- fewer sectors stand behind the next one
pub fewer-behind : (count current at next : ℕ) → current < count → at < count → (at ≡ current → ⊥) → next ≡ after count at → length (places_after count current next) < length (places_after count current at)
fewer-behind count current at next low high apart is =
    let back : at ≡ before count next = sym (ap (before count) is ∙ before-next count at high) in
    let inside : next < count = subst (λ (n : ℕ). n < count) (sym is) (after-within count at high) in
    let long : length (places_after count current at) ≡ length (next ∷ places_after count current next) =
    ap (λ (j : ℕ). length (places_after count current j)) back ∙ ap length (before-after count current next low inside (λ e. next-apart count current at low high apart (sym is ∙ e))) in
    omega (arith, long)

-- a sector that is so many places before the open one
pub same-place : (current count back i place here : ℕ) → place < count → i ≡ back → (back ≤ current → here + back ≡ current) → (current < back → here + back ≡ current + count) → (place + i ≡ current) ⊎ (place + i ≡ current + count) → here ≡ place
same-place current count back i place here inside is near far at =
    elim (cases_lt current back) [
      | inl later ↦ let own = far later in elim at [ inl one ↦ absurd (omega (arith, one, is, later)) | inr two ↦ omega (arith, own, two, is) ]
      | inr up ↦ let own = near up in elim at [ inl one ↦ omega (arith, own, one, is) | inr two ↦ absurd (omega (arith, two, is, up, inside)) ]
    ]

-- ---- no entry behind a place has an id

or-second : {X : Type 0} (o rest : Option X) → option_or o rest ≡ None → rest ≡ None
or-second None rest e = e
or-second (Some x) rest e = absurd (some_none x e)

itself : (id : ℕ) → in_range id id id ≡ true
itself id = let same : id ≤ id = omega arith in ap (λ (t : Bool). t && leb id id) (le-leb id id same) ∙ le-leb id id same

module _ (k : SectorFormat) (sectors : List (List ℕ)) (current id : ℕ) (low : current < length sectors) where
  -- no slot from one on has the id: the sectors behind it decide
  pub none-from : (place skipped : ℕ) → skipped ≤ k.count (sector_at sectors place) → AreOthers k (sector_at sectors place) skipped (k.count (sector_at sectors place)) id id
      → last_of_id id (given_at k sectors current place skipped) ≡ last_of_id id (behind k sectors current place)
  none-from place skipped few others = begun-last k sectors current place skipped id id few (λ _. others) id (itself id)

  -- nor has one of the next sector
  pub none-next : (at next : ℕ) → at < length sectors → (at ≡ current → ⊥) → next ≡ after (length sectors) at → AreOthers k (sector_at sectors next) 0 (k.count (sector_at sectors next)) id id
      → last_of_id id (behind k sectors current at) ≡ last_of_id id (behind k sectors current next)
  none-next at next high apart is others =
      let back : at ≡ before (length sectors) next = sym (ap (before (length sectors)) is ∙ before-next (length sectors) at high) in
      let inside : next < length sectors = subst (λ (n : ℕ). n < length sectors) (sym is) (after-within (length sectors) at high) in
      ap (λ (j : ℕ). last_of_id id (behind k sectors current j)) back
      ∙ ap (last_of_id id) (sym (covered-all k sectors current next ∙ more_seen k sectors current low next inside (λ e. next-apart (length sectors) current at low high apart (sym is ∙ e))))
      ∙ none-from next 0 (omega arith) others

  pub none-left : last_of_id id (behind k sectors current current) ≡ None
  none-left = ap (last_of_id id) (start_seen k sectors current low)

  -- none in its sector behind it has the id, nor one in the sectors behind that
  pub none-later : (p : Placed) (up : ℕ) → IsListed k sectors p → up ≡ p.slot - k.first + 1 → AreOthers k (sector_at sectors p.sector) up (k.count (sector_at sectors p.sector)) id id
      → last_of_id id (behind k sectors current p.sector) ≡ None → NoneLater k sectors current p id
  none-later p up listed is others none =
      let from = listed.from in
      let to = listed.listed in
      none-from p.sector (p.slot - k.first + 1) (omega arith) (subst (λ (n : ℕ). AreOthers k (sector_at sectors p.sector) n (k.count (sector_at sectors p.sector)) id id) is others) ∙ none

-- two answers of which neither rules out more than it may
pub or-rules-out : (one other both : Bool) → both ≡ (one || other) → both ≡ false → (one ≡ false) × (other ≡ false)
or-rules-out true other both is none = absurd (false≢true (sym none ∙ is))
or-rules-out false other both is none = (refl, sym is ∙ none)

-- ---- bytes

-- what an entry gives its id, where it gives it these bytes
given-bytes : (own bytes : List ℕ) → value_of own ≡ Some bytes → (own ≡ bytes) × (0 < length bytes)
given-bytes own bytes is =
    elim (cases_eq (length own) 0) [
      | inl none ↦ absurd (some_none bytes (sym is ∙ cond-true (eqb (length own) 0) None (Some own) (eq-eqb (length own) 0 none)))
      | inr some ↦
          let same : own ≡ bytes = same_some own bytes (sym (cond-false (eqb (length own) 0) None (Some own) (ne_eqb (length own) 0 some)) ∙ is) in
          (same, subst (λ (xs : List ℕ). 0 < length xs) same (omega (arith, some)))
    ]

one_entry : (x y : Entry) → Some x ≡ Some y → x ≡ y
one_entry x y e = cc

one_placed : (x y : Placed) → Some x ≡ Some y → x ≡ y
one_placed x y e = cc

-- the id that was kept
pub is-kept : (o : Option ℕ) (id : ℕ) → not (option_eq eqb o (Some id)) ≡ false → o ≡ Some id
is-kept None id e = absurd (false≢true (sym e))
is-kept (Some kept) id e =
    elim (cases_eq kept id) [
      | inl same ↦ ap (λ (n : ℕ). Some n) same
      | inr apart ↦ absurd (false≢true (sym e ∙ ap not (ne_eqb kept id apart)))
    ]

-- ---- entries of one sector that hold the bytes

module _ (k : SectorFormat) (b : List ℕ) (items : Items) (ids : IdRange) (bytes : List ℕ) (place skipped : ℕ) (so_far : NoneIsItem k b items ids bytes k.first (k.first + skipped)) where
  -- one more, whose item does not have them
  pub none-step : (p : Placed) (up : ℕ) → IsFirstHolder k b place ids bytes (k.first + skipped) p → up ≡ p.slot - k.first + 1 → (get items p.id ≡ Some bytes → ⊥) → NoneIsItem k b items ids bytes k.first (k.first + up)
  none-step p up holder is other = λ slot e from to read holds has.
      elim (cases_lt slot (k.first + skipped)) [
        | inl before ↦ so_far slot e from before read holds has
        | inr behind ↦ elim (cases_eq slot p.slot) [
          | inl same ↦
              let entry : holder.entry ≡ e = one_entry holder.entry e (sym holder.read ∙ ap (k.in_slot b) (sym same) ∙ read) in
              let id : p.id ≡ e.id = ap (λ (q : Placed). q.id) holder.is ∙ ap (λ (q : Entry). q.id) entry in
              other (ap (get items) id ∙ has)
          | inr apart ↦ holder.first slot e behind (let from = holder.from in omega (arith, apart)) read holds
        ]
      ]

  -- there is no other
  pub none-end : NoneHolds k b ids bytes (k.first + skipped) (k.first + k.count b) → NoneIsItem k b items ids bytes k.first (k.first + k.count b)
  none-end none = λ slot e from to read holds has.
      elim (cases_lt slot (k.first + skipped)) [
        | inl before ↦ so_far slot e from before read holds has
        | inr behind ↦ none slot e behind to read holds
      ]

-- ---- the latest entry of a cache slot

-- none behind it has an id of that cache slot
none-behind-latest : (k : SectorFormat) (sectors : List (List ℕ)) (id : ℕ) (p : Placed) (later : List Placed) → AreBehind k sectors p later → latest_of (id % 64) (all_placed (slots k) sectors) ≡ Some p → last_of_id id later ≡ None
none-behind-latest k sectors id p later at latest =
    latest-none id later
    (elim (option_cases (latest_of (id % 64) later)) [
      | inl none ↦ none
      | inr (q, some) ↦
          let own : latest_of (id % 64) (p ∷ later) ≡ Some q =
          last-append (λ (r : Placed). eqb (r.id % 64) (id % 64)) (p ∷ []) later ∙ ap (λ (o : Option Placed). option_or o (latest_of (id % 64) (p ∷ []))) some in
          let found : latest_of (id % 64) (all_placed (slots k) sectors) ≡ Some q =
          ap (latest_of (id % 64)) at.split ∙ last-append (λ (r : Placed). eqb (r.id % 64) (id % 64)) at.prefix (p ∷ later) ∙ ap (λ (o : Option Placed). option_or o (latest_of (id % 64) at.prefix)) own in
          let same : q ≡ p = one_placed q p (sym found ∙ latest) in
          let apart : q.sector ≡ p.sector → q.slot ≡ p.slot → ⊥ =
          subst (λ (o : Option Placed). IfSome o (λ r. r.sector ≡ p.sector → r.slot ≡ p.slot → ⊥)) some
          (last-all (λ (r : Placed). eqb (r.id % 64) (id % 64)) (λ (r : Placed). r.sector ≡ p.sector → r.slot ≡ p.slot → ⊥) later None tt at.apart) in
          absurd (apart (ap (λ (r : Placed). r.sector) same) (ap (λ (r : Placed). r.slot) same))
    ])

-- an entry of another id before others
skip-other : (id place : ℕ) (e : Option Entry) (later : List Placed) → IsOther id id e → last_of_id id later ≡ None → last_of_id id (option_to_list (option_map (placed_at place) e) ++ later) ≡ None
skip-other id place None later other none = none
skip-other id place (Some e) later other none =
    prefix-other id (placed_at place e) later (ne_eqb e.id id (λ (same : e.id ≡ id). false≢true (sym other ∙ ap (in_range id id) same ∙ itself id))) ∙ none

-- ---- a store on its area

module _ {T : Type 0} (role : Role) (format_of : Geometry → SectorFormat) (kept : Geometry → List ℕ → T) (d : Device) (store : Store T) (law : IsSectorFormat (format_of (geometry_of d store.area))) (lawful : IsLawful d.banks d.bytes) (on : StandsOn role format_of kept d store) where
  abbrev k : SectorFormat
  k = format_of (geometry_of d store.area)

  abbrev here : List (List ℕ)
  here = sectors_of d store.area

  -- the latest entry of an id's cache slot stands in its slot
  pub placed-latest : (id : ℕ) (p : Placed) → Some p ≡ latest_on format_of d store.area id → IsPlaced (format_of (geometry_of d store.area)) (sectors_of d store.area) store.current p
  placed-latest id p is =
      subst (λ (j : ℕ). IsPlaced k here j p) (sym on.current)
      (subst (λ (o : Option Placed). IfSome o (IsPlaced k here (open_sector k.reading here))) (sym is) (latest-placed k law here (id % 64) (some_sectors role format_of kept d store law lawful on)))

  module _ (p : Placed) (placed : IsPlaced (format_of (geometry_of d store.area)) (sectors_of d store.area) store.current p) where
    -- how many slots stand before it in its sector
    abbrev n : ℕ
    n = p.slot - k.first

    low-on : store.current < length here
    low-on = omega (arith, length-sectors d store.area, current_on role format_of kept d store law lawful on)

    more : n < k.count (sector_at here p.sector)
    more = let from = placed.listed.from in let listed = placed.listed.listed in omega arith

    slot-at : k.first + n ≡ p.slot
    slot-at = let from = placed.listed.from in omega arith

    read-at : option_map (placed_at p.sector) (k.in_slot (sector_at here p.sector) (k.first + n)) ≡ Some p
    read-at = ap (λ (m : ℕ). option_map (placed_at p.sector) (k.in_slot (sector_at here p.sector) m)) slot-at ∙ placed.listed.read

    -- the entries behind an entry of its sector
    at-slot : (m : ℕ) (q : Placed) → m < k.count (sector_at here p.sector) → option_map (placed_at p.sector) (k.in_slot (sector_at here p.sector) (k.first + m)) ≡ Some q
        → AreBehind k here q (later_at k law here store.current p.sector (m + 1))
    at-slot m q few read = stand_behind k law here store.current p.sector (sym on.current) low-on placed.listed.within placed.counts m few q read

    none-at : (id : ℕ) → NoneLater k here store.current p id → last_of_id id (later_at k law here store.current p.sector (n + 1)) ≡ None
    none-at id none = ap (last_of_id id) (sym (covered-is k law here store.current p.sector (n + 1) placed.counts)) ∙ none

    last-at : (q : Placed) (later : List Placed) → AreBehind k here q later → last_of_id q.id later ≡ None → last_placed (slots k) here q.id ≡ Some q
    last-at q later at none = own-last k here q later at ∙ ap (λ (o : Option Placed). option_or (option_or o (Some q)) (last_of (slots k) q.id at.prefix)) none

    -- it is the last of its id where none behind it has the id
    pub value-last : NoneLater (format_of (geometry_of d store.area)) (sectors_of d store.area) store.current p p.id
        → get (items_on format_of d store.area) p.id ≡ value_of (bytes_of (slots (format_of (geometry_of d store.area))) (sectors_of d store.area) p)
    value-last none =
        value_by role format_of kept d store law lawful on (Some p) p.id (sym (last-at p (later_at k law here store.current p.sector (n + 1)) (at-slot n p more read-at) (none-at p.id none)))

    -- no slot from one on, up to its own, has the id
    free-from : (id steps from : ℕ) → from + steps ≡ n → AreOthers k (sector_at here p.sector) from n id id → last_of_id id (later_at k law here store.current p.sector n) ≡ None → last_of_id id (later_at k law here store.current p.sector from) ≡ None
    free-from id zero from at others none = let same : n ≡ from = omega (arith, at) in subst (λ (m : ℕ). last_of_id id (later_at k law here store.current p.sector m) ≡ None) same none
    free-from id (suc steps) from at others none =
        let inside : from < k.count (sector_at here p.sector) = omega (arith, at, more) in
        let rest : last_of_id id (later_at k law here store.current p.sector (from + 1)) ≡ None = free-from id steps (from + 1) (omega (arith, at)) (λ slot low high. others slot (omega (arith, low)) high) none in
        ap (last_of_id id) (sym (later_step k law here store.current p.sector from inside))
        ∙ skip-other id p.sector (k.in_slot (sector_at here p.sector) (k.first + from)) (later_at k law here store.current p.sector (from + 1)) (others (k.first + from) (omega arith) (omega (arith, at))) rest

    -- It is the latest one of its cache slot, and of another id. None from its slot on has the id.
    none-above : (id : ℕ) → latest_of (id % 64) (all_placed (slots k) here) ≡ Some p → (p.id ≡ id → ⊥) → last_of_id id (later_at k law here store.current p.sector n) ≡ None
    none-above id latest other =
        let next : p ∷ later_at k law here store.current p.sector (n + 1) ≡ later_at k law here store.current p.sector n =
        ap (λ (o : Option Placed). option_to_list o ++ later_at k law here store.current p.sector (n + 1)) (sym read-at) ∙ later_step k law here store.current p.sector n more in
        ap (last_of_id id) (sym next) ∙ prefix-other id p (later_at k law here store.current p.sector (n + 1)) (ne_eqb p.id id other)
        ∙ none-behind-latest k here id p (later_at k law here store.current p.sector (n + 1)) (at-slot n p more read-at) latest

    -- nor has one of its sector, if none of the slots before it has
    pub none-here : (id : ℕ) → latest_of (id % 64) (all_placed (slots (format_of (geometry_of d store.area))) (sectors_of d store.area)) ≡ Some p → (p.id ≡ id → ⊥)
        → AreOthers (format_of (geometry_of d store.area)) (sector_at (sectors_of d store.area) p.sector) 0 (p.slot - (format_of (geometry_of d store.area)).first) id id
        → last_of (slots (format_of (geometry_of d store.area))) id (counted_in (slots (format_of (geometry_of d store.area))) (sectors_of d store.area) store.current p.sector) ≡ None
    none-here id latest other others =
        let free : last_of_id id (later_at k law here store.current p.sector 0) ≡ None = free-from id n 0 (omega arith) others (none-above id latest other) in
        or-second (last_of_id id (behind k here store.current p.sector)) (last_of_id id (counted_in (slots k) here store.current p.sector))
        (sym (last-append (λ (q : Placed). eqb q.id id) (counted_in (slots k) here store.current p.sector) (behind k here store.current p.sector))
        ∙ ap (last_of_id id) (sym (later_all k law here store.current p.sector placed.counts)) ∙ free)

    -- The last of the slots before it that has the id holds the last entry of the id.
    pub last-near : (id reach slot : ℕ) (q : Placed) → latest_of (id % 64) (all_placed (slots (format_of (geometry_of d store.area))) (sectors_of d store.area)) ≡ Some p → (p.id ≡ id → ⊥) → 0 < reach
        → reach ≤ p.slot - (format_of (geometry_of d store.area)).first
        → AreOthers (format_of (geometry_of d store.area)) (sector_at (sectors_of d store.area) p.sector) reach (p.slot - (format_of (geometry_of d store.area)).first) id id
        → slot ≡ (format_of (geometry_of d store.area)).first + (reach - 1)
        → Some q ≡ option_map (placed_at p.sector) ((format_of (geometry_of d store.area)).in_slot (sector_at (sectors_of d store.area) p.sector) slot) → q.id ≡ id
        → Some q ≡ last_placed (slots (format_of (geometry_of d store.area))) (sectors_of d store.area) id
    last-near id reach slot q latest other some few others back found own =
        let up : reach - 1 + 1 ≡ reach = omega (arith, some) in
        let read : option_map (placed_at p.sector) (k.in_slot (sector_at here p.sector) (k.first + (reach - 1))) ≡ Some q =
        sym (found ∙ ap (λ (m : ℕ). option_map (placed_at p.sector) (k.in_slot (sector_at here p.sector) m)) back) in
        let at : AreBehind k here q (later_at k law here store.current p.sector reach) =
        subst (λ (m : ℕ). AreBehind k here q (later_at k law here store.current p.sector m)) up (at-slot (reach - 1) q (omega (arith, some, few, more)) read) in
        let free : last_of_id id (later_at k law here store.current p.sector reach) ≡ None = free-from id (n - reach) reach (omega (arith, few)) others (none-above id latest other) in
        sym (ap (last_placed (slots k) here) (sym own) ∙ last-at q (later_at k law here store.current p.sector reach) at (ap (λ (j : ℕ). last_of_id j (later_at k law here store.current p.sector reach)) own ∙ free))

  module _ (ids : IdRange) (bytes : List ℕ) (place start : ℕ) (p : Placed) (inside : place < store.area.sectors) (low : (format_of (geometry_of d store.area)).first ≤ start)
      (holder : IsFirstHolder (format_of (geometry_of d store.area)) (sector_at (sectors_of d store.area) place) place ids bytes start p) where
    slot-is : p.slot ≡ holder.entry.slot
    slot-is = ap (λ (q : Placed). q.slot) holder.is

    id-is : p.id ≡ holder.entry.id
    id-is = ap (λ (q : Placed). q.id) holder.is

    -- one that holds bytes stands in its slot
    pub holder-placed : IsPlaced (format_of (geometry_of d store.area)) (sectors_of d store.area) store.current p
    holder-placed =
        let from = holder.from in
        let low_slot : k.first ≤ p.slot = omega arith in
        subst (IsPlaced k here store.current) (sym holder.is) (record {
          listed = record {
            within = omega (arith, length-sectors d store.area);
            from = subst (λ (n : ℕ). k.first ≤ n) slot-is low_slot;
            listed = subst (λ (n : ℕ). n < k.first + k.count (sector_at here place)) slot-is holder.listed;
            read = ap (option_map (placed_at place)) (subst (λ (n : ℕ). k.in_slot (sector_at here place) n ≡ Some holder.entry) slot-is holder.read);
          };
          counts = counts_on role format_of kept d store law lawful on place;
        })

    pub holder-gives : 0 < length bytes → value_of (bytes_of (slots (format_of (geometry_of d store.area))) (sectors_of d store.area) p) ≡ Some bytes
    holder-gives some =
        ap (λ (q : Placed). value_of (bytes_of (slots k) here q)) holder.is ∙ ap value_of holder.holds.bytes
        ∙ cond-false (eqb (length bytes) 0) None (Some bytes) (ne_eqb (length bytes) 0 (λ (e : length bytes ≡ 0). absurd (omega arith)))

    pub holder-item : get (items_on format_of d store.area) p.id ≡ Some bytes → HasBytes ids.least ids.most (items_on format_of d store.area) p.id bytes
    holder-item has = record {
      from = subst (λ (n : ℕ). ids.least ≤ n) (sym id-is) holder.holds.from;
      to = subst (λ (n : ℕ). n ≤ ids.most) (sym id-is) holder.holds.to;
      has = has;
    }

  -- the bytes of an item are those of its last entry
  item-last : (id : ℕ) (bytes : List ℕ) → get (items_on format_of d store.area) id ≡ Some bytes
      → (p : Placed) × IsPlaced (format_of (geometry_of d store.area)) (sectors_of d store.area) store.current p × (p.id ≡ id) × (value_of (bytes_of (slots (format_of (geometry_of d store.area))) (sectors_of d store.area) p) ≡ Some bytes)
  item-last id bytes has = at (last_placed (slots k) here id) refl (own-id id (all_placed (slots k) here) None tt)
    where
      at : (o : Option Placed) → last_placed (slots (format_of (geometry_of d store.area))) (sectors_of d store.area) id ≡ o → IfSome o (λ p. p.id ≡ id)
          → (p : Placed) × IsPlaced (format_of (geometry_of d store.area)) (sectors_of d store.area) store.current p × (p.id ≡ id) × (value_of (bytes_of (slots (format_of (geometry_of d store.area))) (sectors_of d store.area) p) ≡ Some bytes)
      at None none own = absurd (some_none bytes (sym has ∙ value_by role format_of kept d store law lawful on None id (sym none)))
      at (Some p) some own = (p, last_placed_on role format_of kept d store law lawful on (Some p) id (sym some), own, sym (value_by role format_of kept d store law lawful on (Some p) id (sym some)) ∙ has)

  -- no item has no bytes
  pub no-empty : (least most : ℕ) (bytes : List ℕ) → length bytes ≡ 0 → (id : ℕ) → ¬ HasBytes least most (items_on format_of d store.area) id bytes
  no-empty least most bytes none = λ id has.
      let last = item-last id bytes has.has in
      let given = given-bytes (bytes_of (slots k) here last.0) bytes last.3 in
      let some = given.1 in
      absurd (omega arith)

  -- an item of the range has an entry that holds its bytes
  pub no-item : (ids : IdRange) (bytes : List ℕ) → ((place : ℕ) → place < store.area.sectors → let k = format_of (geometry_of d store.area) in let b = sector_at (sectors_of d store.area) place in
      NoneIsItem k b (items_on format_of d store.area) ids bytes k.first (k.first + k.count b))
      → (id : ℕ) → ¬ HasBytes ids.least ids.most (items_on format_of d store.area) id bytes
  no-item ids bytes none = λ id has.
      let last = item-last id bytes has.has in
      let p : Placed = last.0 in
      let listed = last.1.listed in
      let inside = listed.within in
      elim (option_cases (k.in_slot (sector_at here last.0.sector) last.0.slot)) [
        | inl empty ↦ absurd (some_none last.0 (sym listed.read ∙ ap (option_map (placed_at last.0.sector)) empty))
        | inr (e, read) ↦
            let same : placed_at last.0.sector e ≡ last.0 = one_placed (placed_at last.0.sector e) last.0 (sym (ap (option_map (placed_at last.0.sector)) read) ∙ listed.read) in
            let own : e.id ≡ id = ap (λ (q : Placed). q.id) same ∙ last.2 in
            let given = given-bytes (bytes_of (slots k) here last.0) bytes last.3 in
            let bytes_are : k.bytes (sector_at here last.0.sector) e.slot ≡ bytes = ap (λ (q : Placed). k.bytes (sector_at here last.0.sector) q.slot) same ∙ given.0 in
            let holds : Holds k (sector_at here last.0.sector) ids bytes e = record {
              from = subst (λ (n : ℕ). ids.least ≤ n) (sym own) has.from;
              to = subst (λ (n : ℕ). n ≤ ids.most) (sym own) has.to;
              bytes = bytes_are;
            } in
            none last.0.sector (omega (arith, length-sectors d store.area)) last.0.slot e listed.from listed.listed read holds (ap (get (items_on format_of d store.area)) own ∙ has.has)
      ]
