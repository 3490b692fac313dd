-- What becomes of the items where only one sector of the ring changed.
use Rattle.std.proofs.Common.{◌≡◌, ℕ, ◌+◌, ◌-◌, ◌<◌, ◌≤◌, min, Bool, cond, List, [], ◌∷◌, ◌++◌, length, map, replicate, refl, sym, ap, subst, ◌∙◌, append_assoc, arith}
use Rattle.std.specs.List.{range_with_len, flat_map}
use Rattle.std.proofs.lemmas.List.{append-nil, map-append}
use Rattle.flash_sim.specs.Bank.{IsLawful}
use Rattle.flash_sim.specs.Device.{Device}
use Rattle.flash_map.specs.declared.area.Area.{Area}
use Rattle.flash_map.specs.Area.{unit_of, sector_size, sectors_of, sector_at, sector_bytes, OthersStay}
use Rattle.fcb_ring.specs.declared.record.Record.{Record}
use Rattle.fcb_ring.specs.declared.ring.Ring.{Ring}
use Rattle.fcb_ring.specs.Changing.{next_place}
use Rattle.fcb_ring.specs.Entries.{states}
use Rattle.fcb_ring.specs.Gains.{with_body, sector_records, records_in, GainsRecord}
use Rattle.fcb_ring.specs.Records.{records}
use Rattle.fcb_ring.specs.Rings.{turned, IsRing}
use Rattle.fcb_ring.specs.Standing.{states_on}
use Rattle.fcb_ring.specs.Writing.{record_cost}
use Rattle.fcb_ring.proofs.AreaLemmas.{count-sectors}
use Rattle.fcb_ring.proofs.HeaderLemmas.{blank-all}
use Rattle.fcb_ring.proofs.OpenLemmas.{next-blank}
use Rattle.fcb_ring.proofs.OthersLemmas.{others_at}
use Rattle.fcb_ring.proofs.RingLemmas.{turned-same}
use Rattle.event_ring.specs.Items.{Item, Whole, Torn, item_of, sector_items, items, items_on, items_in, items_cost}
use Rattle.event_ring.specs.Room.{room_on, longest_on, IsFilled}
use Rattle.event_ring.specs.Standing.{IsOpen}
use Rattle.event_ring.proofs.MountSteps.{fields_same, filled_by}
use Rattle.event_ring.proofs.PartLemmas.{part, items-are, parts-more, parts-same, PartsFilled, parts-filled}
use Rattle.event_ring.proofs.PutSteps.{has, within, items-ready, filled-ready}

-- ---- one sector

-- what a record with its body is
abbrev item_by : ℕ → Record × List ℕ → Item
item_by unit x = cond x.0.checks (Whole x.1) (Torn (record_cost unit x.0.len))

items-by : (unit : ℕ) (s : List ℕ) → sector_items unit s ≡ map (item_by unit) (sector_records unit s)
unfolding sector_items sector_records
items-by unit s = each (records unit s)
  where
    each : (rs : List Record) → map (item_of unit s) rs ≡ map (item_by unit) (map (with_body s) rs)
    each [] = refl
    each (r ∷ rs) = ap (λ (l : List Item). item_of unit s r ∷ l) (each rs)

-- an item of a record with this body, which checks or not
abbrev pub new_item : ℕ → List ℕ → Bool → Item
new_item unit body checked = cond checked (Whole body) (Torn (record_cost unit (length body)))

pub gains-items : (d e : Device) (area : Area) (place : ℕ) (body : List ℕ) (b : Bool) → unit_of e area ≡ unit_of d area → GainsRecord d e area place body b
    → sector_items (unit_of d area) (sector_bytes e area place) ≡ items_in d area place ++ new_item (unit_of d area) body b ∷ []
gains-items d e area place body b unit gains =
    let u : ℕ = unit_of d area in
    items-by u (sector_bytes e area place)
    ∙ ap (λ (v : ℕ). map (item_by (unit_of d area)) (sector_records v (sector_bytes e area place))) (sym unit)
    ∙ ap (map (item_by (unit_of d area))) gains.all
    ∙ map-append (item_by u) (records_in d area place) ((gains.last, body) ∷ [])
    ∙ ap (λ (l : List Item). l ++ item_by (unit_of d area) (gains.last, body) ∷ []) (sym (items-by u (sector_bytes d area place)))
    ∙ ap (λ (c : Bool). items_in d area place ++ cond c (Whole body) (Torn (record_cost (unit_of d area) gains.last.len)) ∷ []) gains.checks
    ∙ ap (λ (n : ℕ). items_in d area place ++ cond b (Whole body) (Torn (record_cost (unit_of d area) n)) ∷ []) gains.len

pub same-items : (d e : Device) (area : Area) (place : ℕ) → unit_of e area ≡ unit_of d area → records_in e area place ≡ records_in d area place
    → sector_items (unit_of d area) (sector_bytes e area place) ≡ items_in d area place ++ []
same-items d e area place unit same =
    let u : ℕ = unit_of d area in
    items-by u (sector_bytes e area place)
    ∙ ap (λ (v : ℕ). map (item_by (unit_of d area)) (sector_records v (sector_bytes e area place))) (sym unit)
    ∙ ap (map (item_by (unit_of d area))) same
    ∙ sym (items-by u (sector_bytes d area place)) ∙ sym (append-nil (items_in d area place))

-- the sector that is opened next has none
pub next-none : (d : Device) (ring : Ring) → IsLawful d.banks d.bytes → IsOpen d ring → items_in d ring.area (next_place ring) ≡ []
next-none d ring lawful mounted =
    let size = has d ring lawful mounted in
    ap (λ (n : ℕ). items_in d ring.area (turned n ring.oldest ring.used)) (sym (count-sectors d ring.area))
    ∙ ap (sector_items (unit_of d ring.area)) (next-blank (unit_of d ring.area) (sector_size d ring.area) (sectors_of d ring.area) size ring mounted.stands.sectors mounted.ready)
    ∙ items-by (unit_of d ring.area) (replicate (sector_size d ring.area) 255)
    ∙ ap (map (item_by (unit_of d ring.area))) (blank-all (unit_of d ring.area) (sector_size d ring.area) size.is_unit size.at_least)

-- ---- all of them

module _ (d e : Device) (ring : Ring) (lawful : IsLawful d.banks d.bytes) (banks : e.banks ≡ d.banks) (mounted : IsOpen d ring) (used : ℕ) (form : IsRing (states_on e ring.area) ring.oldest used)
    (j : ℕ) (fewer : j ≤ ring.used) (others : OthersStay d e ring.area (turned ring.area.sectors ring.oldest j)) where
  abbrev unit : ℕ
  unit = unit_of d ring.area

  abbrev old : List (List ℕ)
  old = sectors_of d ring.area

  abbrev new : List (List ℕ)
  new = sectors_of e ring.area

  unit-e : unit_of e ring.area ≡ unit_of d ring.area
  unit-e = (fields_same d e ring.area banks).0

  long-e : length (sectors_of e ring.area) ≡ length (sectors_of d ring.area)
  long-e = count-sectors e ring.area ∙ sym (count-sectors d ring.area)

  form-e : IsRing (states (unit_of d ring.area) (sectors_of e ring.area)) ring.oldest used
  form-e = subst (λ (u : ℕ). IsRing (states u (sectors_of e ring.area)) ring.oldest used) unit-e form

  -- the sectors before the one that changed
  part-stays : (k : ℕ) → k < j → part (unit_of d ring.area) (sectors_of e ring.area) ring.oldest k ≡ part (unit_of d ring.area) (sectors_of d ring.area) ring.oldest k
  part-stays k lt =
      let w = within d ring lawful mounted in
      let n = count-sectors d ring.area in
      ap (λ (m : ℕ). sector_items unit (sector_at new (turned m ring.oldest k))) long-e
      ∙ ap (sector_items unit) (others_at d e ring.area (turned ring.area.sectors ring.oldest j) others (turned (length old) ring.oldest k)
      (λ (same : turned (length old) ring.oldest k ≡ turned ring.area.sectors ring.oldest j).
      let both : turned ring.area.sectors ring.oldest k ≡ turned ring.area.sectors ring.oldest j = ap (λ (m : ℕ). turned m ring.oldest k) (sym n) ∙ same in
      let is = turned-same ring.area.sectors ring.oldest k j (omega (arith, w.0, n)) (omega (arith, w.1, n)) (omega (arith, w.1, n)) both in omega arith))

  -- so many sectors count
  items-e : (count : ℕ) → min used (length (sectors_of d ring.area) - 1) ≡ count → items_on e ring.area ≡ flat_map (part (unit_of d ring.area) (sectors_of e ring.area) ring.oldest) (range_with_len 0 count)
  items-e count is =
      ap (λ (u : ℕ). items u (sectors_of e ring.area)) unit-e ∙ items-are unit new ring.oldest used form-e
      ∙ ap (λ (n : ℕ). flat_map (part unit new ring.oldest) (range_with_len 0 (min used (n - 1)))) long-e
      ∙ ap (λ (n : ℕ). flat_map (part unit new ring.oldest) (range_with_len 0 n)) is

  filled-e : (count : ℕ) → min used (length (sectors_of d ring.area) - 1) ≡ count
      → PartsFilled (unit_of d ring.area) (room_on d ring.area) (longest_on d ring.area) (sectors_of e ring.area) ring.oldest count → IsFilled e ring.area
  filled-e count is parts =
      let all : min used (length (sectors_of e ring.area) - 1) ≡ count = ap (λ (n : ℕ). min used (n - 1)) long-e ∙ is in
      filled_by d e ring.area banks
      (parts-filled unit new ring.oldest used form-e (room_on d ring.area) (longest_on d ring.area)
      (subst (PartsFilled (unit_of d ring.area) (room_on d ring.area) (longest_on d ring.area) (sectors_of e ring.area) ring.oldest) (sym all) parts))

  -- as many sectors count as are used, and all of them stay
  module _ (count : min used (length (sectors_of d ring.area) - 1) ≡ ring.used) (behind : j ≡ ring.used) where
    pub items-kept : items_on e ring.area ≡ items_on d ring.area
    items-kept =
        items-e ring.used count
        ∙ parts-same (part unit new ring.oldest) (part unit old ring.oldest) ring.used (λ k lt. part-stays k (omega arith))
        ∙ sym (items-ready d ring lawful mounted)

    pub filled-kept : IsFilled d ring.area → IsFilled e ring.area
    filled-kept filled = filled-e ring.used count (λ k lt.
        subst (λ (l : List Item). room_on d ring.area < items_cost (unit_of d ring.area) l + longest_on d ring.area) (sym (part-stays k (omega arith))) (filled-ready d ring lawful mounted filled k lt))

  -- the one that changed is the last
  module _ (last : used ≡ j + 1) (room : used < length (sectors_of d ring.area)) where
    count-e : min used (length (sectors_of d ring.area) - 1) ≡ j + 1
    count-e = omega arith

    pub items-last : items_on e ring.area ≡ flat_map (part (unit_of d ring.area) (sectors_of d ring.area) ring.oldest) (range_with_len 0 j) ++ part (unit_of d ring.area) (sectors_of e ring.area) ring.oldest j
    items-last =
        items-e (j + 1) count-e ∙ parts-more (part unit new ring.oldest) j
        ∙ ap (λ (l : List Item). l ++ part (unit_of d ring.area) (sectors_of e ring.area) ring.oldest j) (parts-same (part unit new ring.oldest) (part unit old ring.oldest) j part-stays)

    pub filled-last : PartsFilled (unit_of d ring.area) (room_on d ring.area) (longest_on d ring.area) (sectors_of d ring.area) ring.oldest (j + 1) → IsFilled e ring.area
    filled-last parts = filled-e (j + 1) count-e (λ k lt.
        subst (λ (l : List Item). room_on d ring.area < items_cost (unit_of d ring.area) l + longest_on d ring.area) (sym (part-stays k (omega arith))) (parts k lt))

-- ---- where a record goes

-- It goes into the sector that stands so far behind the oldest. Of those that are used then, that is the last.
pub record GoesInto (d : Device) (ring : Ring) (place used : ℕ) : Type 0 where
  pub j : ℕ
  pub at : place ≡ turned ring.area.sectors ring.oldest j
  pub last : used ≡ j + 1
  pub fewer : j ≤ ring.used
  pub room : used < length (sectors_of d ring.area)
  pub all : items_on d ring.area ≡ flat_map (part (unit_of d ring.area) (sectors_of d ring.area) ring.oldest) (range_with_len 0 j) ++ items_in d ring.area place
  pub filled : IsFilled d ring.area → PartsFilled (unit_of d ring.area) (room_on d ring.area) (longest_on d ring.area) (sectors_of d ring.area) ring.oldest (j + 1)

module _ (d e : Device) (ring : Ring) (lawful : IsLawful d.banks d.bytes) (banks : e.banks ≡ d.banks) (mounted : IsOpen d ring) (place used : ℕ) (into : GoesInto d ring place used)
    (form : IsRing (states_on e ring.area) ring.oldest used) (others : OthersStay d e ring.area place) where
  there : OthersStay d e ring.area (turned ring.area.sectors ring.oldest into.j)
  there = subst (OthersStay d e ring.area) into.at others

  pub grown-items : (gained : List Item) → sector_items (unit_of d ring.area) (sector_bytes e ring.area place) ≡ items_in d ring.area place ++ gained → items_on e ring.area ≡ items_on d ring.area ++ gained
  grown-items gained here =
      let prefix : List Item = flat_map (part (unit_of d ring.area) (sectors_of d ring.area) ring.oldest) (range_with_len 0 into.j) in
      let at : turned (length (sectors_of e ring.area)) ring.oldest into.j ≡ place = ap (λ (n : ℕ). turned n ring.oldest into.j) (count-sectors e ring.area) ∙ sym into.at in
      items-last d e ring lawful banks mounted used form into.j into.fewer there into.last into.room
      ∙ ap (λ (p : ℕ). flat_map (part (unit_of d ring.area) (sectors_of d ring.area) ring.oldest) (range_with_len 0 into.j) ++ sector_items (unit_of d ring.area) (sector_bytes e ring.area p)) at
      ∙ ap (λ (l : List Item). flat_map (part (unit_of d ring.area) (sectors_of d ring.area) ring.oldest) (range_with_len 0 into.j) ++ l) here
      ∙ sym (append_assoc prefix (items_in d ring.area place) gained)
      ∙ ap (λ (l : List Item). l ++ gained) (sym into.all)

  pub grown-filled : IsFilled d ring.area → IsFilled e ring.area
  grown-filled filled = filled-last d e ring lawful banks mounted used form into.j into.fewer there into.last into.room (into.filled filled)
