-- A sector that just became the open one, in the words of the code.
use Rattle.std.proofs.Common.{◌≡◌, ℕ, ◌<◌, ◌⊎◌, Bool, true, false, cond, List, refl, sym, ap, ◌∙◌, inl, inr}
use Rattle.std.proofs.lemmas.Bool.{false≢true}
use Rattle.flash_sim.specs.Device.{Device}
use Rattle.flash_map.specs.declared.area.Area.{Area}
use Rattle.flash_map.specs.declared.area.Geometry.{Geometry}
use Rattle.flash_map.specs.Area.{geometry_of, sector_at, sectors_of, ChangesOnly}
use Rattle.item_laws.specs.Area.{next, is_closed_at, is_blank_at}
use Rattle.item_laws.specs.Forms.{AtRest, Collecting}
use Rattle.item_laws.proofs.Rings.{next-closed}
use Rattle.item_store.specs.SectorFormat.{SectorFormat, IsSectorFormat}
use Rattle.item_store.specs.Steps.{Keeps, StopsClearing}
use Rattle.item_store.specs.Spending.{none, ready_units, again_units, open_units}
use Rattle.item_store.specs.Standing.{KeepsItems}
use Rattle.item_store.specs.Collecting.{HasBegun, HasOpened, KeepsOrCollects, KeepsOrRedoes, redo_list}
use Rattle.item_store.proofs.Areas.{form_undamaged, keeps_none, only_none}
use Rattle.item_store.proofs.CollectSteps.{rest_closed, redo-collecting}
use Rattle.item_store.proofs.PutSteps.{HasNotPut}
use Rattle.item_store.proofs.RoundSteps.{rest-blank, ready_cut, not_put-keeps}
use Rattle.item_store.proofs.SlotFacts.{current_within}

module _ (format_of : Geometry → SectorFormat) (a : Device) (area : Area) (place : ℕ) (law : IsSectorFormat (format_of (geometry_of a area))) (form : AtRest (format_of (geometry_of a area)).reading (sectors_of a area) place ⊎ Collecting (format_of (geometry_of a area)).reading (sectors_of a area) place)
    (unused : is_blank_at (format_of (geometry_of a area)).reading (sectors_of a area) place ≡ true) where
  abbrev k : SectorFormat
  k = format_of (geometry_of a area)

  abbrev old : List (List ℕ)
  old = sectors_of a area

  pub place_in : place < area.sectors
  place_in = current_within a area place (elim form [ inl rested ↦ rested.ring.within | inr collecting ↦ collecting.ring.within ])

  pub place_not_closed : is_closed_at (format_of (geometry_of a area)).reading (sectors_of a area) place ≡ false
  place_not_closed = law.reads.closed (sector_at old place) unused

  -- the sector after it is closed

  module _ (shut : is_closed_at (format_of (geometry_of a area)).reading (sectors_of a area) (next (sectors_of a area) place) ≡ true) where
    pub next_collecting : Collecting (format_of (geometry_of a area)).reading (sectors_of a area) place
    next_collecting = elim form [ inl rested ↦ absurd (false≢true (sym (rest_closed k law old place rested) ∙ shut)) | inr collecting ↦ collecting ]

    pub no_rest : {P : Type 0} → AtRest (format_of (geometry_of a area)).reading (sectors_of a area) place → P
    no_rest rested = absurd (false≢true (sym (rest_closed k law old place rested) ∙ shut))

    pub again_units-are : open_units (format_of (geometry_of a area)) (sectors_of a area) place ≡ again_units (format_of (geometry_of a area)) (sectors_of a area) place
    again_units-are = ap (λ (t : Bool). cond t (again_units k old place) (cond k.opens_ready (ready_units k old place) none)) shut

    pub again_lost : (e : Device) → KeepsOrCollects (format_of (geometry_of a area)) (sectors_of a area) (sectors_of e area) place → KeepsOrRedoes (format_of (geometry_of a area)) (sectors_of a area) (sectors_of e area) place
    again_lost e either =
        elim either [
          | inl same ↦ inl same
          | inr whole ↦ inr (whole ∙ ap (redo_list k old place) (sym (redo-collecting k law old place next_collecting)))
        ]

  -- it is not

  module _ (free : is_closed_at (format_of (geometry_of a area)).reading (sectors_of a area) (next (sectors_of a area) place) ≡ false) where
    not_collecting : Collecting (format_of (geometry_of a area)).reading (sectors_of a area) place → ⊥
    not_collecting collecting = false≢true (sym free ∙ next-closed k.reading old place 0 collecting.ring)

    pub next_rests : AtRest (format_of (geometry_of a area)).reading (sectors_of a area) place
    next_rests = elim form [ inl rested ↦ rested | inr collecting ↦ absurd (not_collecting collecting) ]

    pub no_collection : {P : Type 0} → Collecting (format_of (geometry_of a area)).reading (sectors_of a area) place → P
    no_collection collecting = absurd (not_collecting collecting)

    pub open_units-are : (ready : Bool) → (format_of (geometry_of a area)).opens_ready ≡ ready → open_units (format_of (geometry_of a area)) (sectors_of a area) place ≡ cond ready (ready_units (format_of (geometry_of a area)) (sectors_of a area) place) none
    open_units-are ready is =
        ap (λ (t : Bool). cond t (again_units k old place) (cond k.opens_ready (ready_units k old place) none)) free
        ∙ ap (λ (t : Bool). cond t (ready_units k old place) none) is

    pub opened_by : (e : Device) → HasBegun (format_of (geometry_of a area)) (sectors_of a area) (sectors_of e area) place → HasOpened (format_of (geometry_of a area)) (sectors_of a area) (sectors_of e area) place
    opened_by e begun = record { only = begun.only; clean = begun.clean; ready = λ _. begun.ready; long = begun.long }

    opened_put : (e : Device) → HasBegun (format_of (geometry_of a area)) (sectors_of a area) (sectors_of e area) place → HasNotPut (format_of (geometry_of a area)) (sectors_of a area) (sectors_of e area) place
    opened_put e begun = rest-blank k law old (sectors_of e area) place next_rests unused begun.only (law.clean (sector_at (sectors_of e area) place) begun.clean)

    pub opened_keeps : (e : Device) → HasBegun (format_of (geometry_of a area)) (sectors_of a area) (sectors_of e area) place → KeepsItems (format_of (geometry_of a area)) (sectors_of a area) (sectors_of e area)
    opened_keeps e begun = not_put-keeps k law old (sectors_of e area) place (opened_put e begun)

    -- where sectors are not made ready
    pub opened_idle : (format_of (geometry_of a area)).opens_ready ≡ false → HasOpened (format_of (geometry_of a area)) (sectors_of a area) (sectors_of a area) place
    opened_idle idle = record { only = only_none old old place refl; clean = law.blank idle (sector_at old place) unused; ready = λ opens. absurd (false≢true (sym idle ∙ opens)); long = refl }

    pub idle_keeps : KeepsItems (format_of (geometry_of a area)) (sectors_of a area) (sectors_of a area)
    idle_keeps = keeps_none k old (form_undamaged k law old place (inl next_rests)).1

    -- power was lost while it was made ready
    module _ (ready : (format_of (geometry_of a area)).opens_ready ≡ true) (e : Device) (only : ChangesOnly (sectors_of a area) (sectors_of e area) place)
        (lost : Keeps (format_of (geometry_of a area)) (sector_at (sectors_of a area) place) (sector_at (sectors_of e area) place) ⊎ StopsClearing (format_of (geometry_of a area)) (sector_at (sectors_of a area) place) (sector_at (sectors_of e area) place)) where
      cut_put : HasNotPut k old (sectors_of e area) place
      cut_put = ready_cut k law old (sectors_of e area) place next_rests ready unused only lost

      pub ready_lost : KeepsItems (format_of (geometry_of a area)) (sectors_of a area) (sectors_of e area)
      ready_lost = not_put-keeps k law old (sectors_of e area) place cut_put

      pub ready_lost_list : KeepsOrRedoes (format_of (geometry_of a area)) (sectors_of a area) (sectors_of e area) place
      ready_lost_list = inl cut_put.list
