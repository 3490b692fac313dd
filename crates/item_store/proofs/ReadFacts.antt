-- Reading an area on which a store stands.
use Rattle.std.proofs.Common.{◌≡◌, ℕ, ◌<◌, true, length, List, Option, Some, None, sym, ap, subst, ◌∙◌, eqb, arith}
use Rattle.std.specs.Prelude.{IfSome, sum_by}
use Rattle.std.specs.List.{range_with_len}
use Rattle.std.specs.FinMap.{get}
use Rattle.std.specs.Option.{option_and_then}
use Rattle.std.proofs.lemmas.Bool.{cond-true, cond-false, eq-eqb, ne_eqb}
use Rattle.flash_sim.specs.Bank.{IsLawful}
use Rattle.flash_sim.specs.Device.{Device}
use Rattle.flash_map.specs.declared.area.Role.{Role}
use Rattle.flash_map.specs.declared.area.Geometry.{Geometry}
use Rattle.flash_map.specs.Area.{geometry_of, sectors_of, sector_at}
use Rattle.item_laws.specs.Items.{value_of}
use Rattle.item_laws.specs.PairRounds.{live_cost}
use Rattle.item_laws.proofs.ItemLemmas.{get-items_of}
use Rattle.item_laws.specs.Area.{counts_at, open_sector}
use Rattle.item_laws.specs.Forms.{AtRest}
use Rattle.item_laws.specs.Live.{last_placed, bytes_of}
use Rattle.item_laws.proofs.AreaReads.{length-sectors}
use Rattle.item_laws.proofs.LastLemmas.{found-value}
use Rattle.item_laws.proofs.Lists.{counts-at_rest}
use Rattle.item_laws.proofs.LiveSum.{all_costs}
use Rattle.item_store.specs.declared.entry.Placed.{Placed}
use Rattle.item_store.specs.declared.store.Store.{Store}
use Rattle.item_store.specs.SectorFormat.{SectorFormat, IsSectorFormat, slots}
use Rattle.item_store.specs.Listed.{IsPlaced, items_on, list_on}
use Rattle.item_store.specs.Standing.{list_of}
use Rattle.item_store.specs.Stands.{StandsOn}
use Rattle.item_store.proofs.Areas.{large_there, open_inside}
use Rattle.item_store.proofs.CopyLoop.{are}
use Rattle.item_store.proofs.CostSteps.{sector_costs}
use Rattle.item_store.proofs.Placings.{last-placed_by, entry_long}
use Rattle.item_store.proofs.RoundFacts.{rest_here}

module _ {T : Type 0} (role : Role) (format_of : Geometry → SectorFormat) (kept : Geometry → List ℕ → T) (d : Device) (store : Store T) (law : IsSectorFormat (format_of (geometry_of d store.area))) (lawful : IsLawful d.banks d.bytes) (on : StandsOn role format_of kept d store) where
  abbrev k : SectorFormat
  k = format_of (geometry_of d store.area)

  abbrev here : List (List ℕ)
  here = sectors_of d store.area

  -- it has sectors
  pub some_sectors : 0 < length (sectors_of d store.area)
  some_sectors = omega (arith, length-sectors d store.area, on.area.lawful.several)

  pub rest_on : AtRest (format_of (geometry_of d store.area)).reading (sectors_of d store.area) store.current
  rest_on = rest_here k law here store.current (omega (arith, length-sectors d store.area, on.area.lawful.several)) on.undamaged on.current on.rested

  pub current_on : store.current < store.area.sectors
  current_on = open_inside k d store.area store.current on.area.lawful on.current

  -- each of its sectors counts
  pub counts_on : (place : ℕ) → counts_at (format_of (geometry_of d store.area)).reading (sectors_of d store.area) store.current place ≡ true
  counts_on place = counts-at_rest k.reading here store.current rest_on.blanks place rest_on.ring rest_on.some

  -- in each of its sectors the bytes of entries lie in it
  pub within_on : (place : ℕ) → place < store.area.sectors → (format_of (geometry_of d store.area)).within (sector_at (sectors_of d store.area) place) ≡ true
  within_on place inside =
      let large = large_there role d store.area lawful on.area place inside in
      law.sound (sector_at here place) large (rest_on.sound place (omega (arith, length-sectors d store.area)))

  -- what all items cost, sector by sector
  pub costs_on : live_cost (format_of (geometry_of d store.area)).cost (list_on format_of d store.area) ≡ sum_by (sector_costs (format_of (geometry_of d store.area)) (sectors_of d store.area)) (range_with_len 0 (length (sectors_of d store.area)))
  costs_on = all_costs (slots k) (are k law) here store.current rest_on (λ j inside. within_on j (omega (arith, length-sectors d store.area)))

  -- the last entry of an id is placed
  pub last_placed_on : (o : Option Placed) (id : ℕ) → o ≡ last_placed (slots (format_of (geometry_of d store.area))) (sectors_of d store.area) id → IfSome o (IsPlaced (format_of (geometry_of d store.area)) (sectors_of d store.area) store.current)
  last_placed_on o id is =
      subst (λ (c : ℕ). IfSome o (IsPlaced k here c)) (sym on.current)
      (subst (λ (o : Option Placed). IfSome o (IsPlaced k here (open_sector k.reading here))) (sym is) (last-placed_by k law here (λ p. eqb p.id id) some_sectors))

  -- what the last entry of an id says
  pub value_by : (o : Option Placed) (id : ℕ) → o ≡ last_placed (slots (format_of (geometry_of d store.area))) (sectors_of d store.area) id
      → get (items_on format_of d store.area) id ≡ option_and_then (λ p. value_of (bytes_of (slots (format_of (geometry_of d store.area))) (sectors_of d store.area) p)) o
  value_by o id is =
      get-items_of (list_of k here) id ∙ found-value (slots k) (are k law) here id
      ∙ ap (option_and_then (λ p. value_of (bytes_of (slots k) here p))) (sym is)

  module _ (p : Placed) (placed : IsPlaced (format_of (geometry_of d store.area)) (sectors_of d store.area) store.current p) where
    pub placed_inside : p.sector < store.area.sectors
    placed_inside = let within = placed.listed.within in omega (arith, length-sectors d store.area)

    pub placed_within : (format_of (geometry_of d store.area)).within (sector_at (sectors_of d store.area) p.sector) ≡ true
    placed_within = within_on p.sector placed_inside

    pub placed_len : length (bytes_of (slots (format_of (geometry_of d store.area))) (sectors_of d store.area) p) ≡ p.len
    placed_len = entry_long k law here p placed.listed placed_within

    pub value_none : p.len ≡ 0 → value_of (bytes_of (slots (format_of (geometry_of d store.area))) (sectors_of d store.area) p) ≡ None
    value_none none = cond-true (eqb (length (bytes_of (slots k) here p)) 0) None (Some (bytes_of (slots k) here p)) (eq-eqb (length (bytes_of (slots k) here p)) 0 (placed_len ∙ none))

    pub value_some : (p.len ≡ 0 → ⊥) → value_of (bytes_of (slots (format_of (geometry_of d store.area))) (sectors_of d store.area) p) ≡ Some (bytes_of (slots (format_of (geometry_of d store.area))) (sectors_of d store.area) p)
    value_some some = cond-false (eqb (length (bytes_of (slots k) here p)) 0) None (Some (bytes_of (slots k) here p)) (ne_eqb (length (bytes_of (slots k) here p)) 0 (λ (e : length (bytes_of (slots k) here p) ≡ 0). some (sym placed_len ∙ e)))
