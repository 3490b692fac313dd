-- The items of a ring that is ready for its next record, sector by sector.
use Rattle.std.proofs.Common.{◌≡◌, ℕ, ◌+◌, ◌-◌, ◌<◌, min, true, List, length, sym, ap, subst, ◌∙◌, arith}
use Rattle.std.specs.List.{range_with_len, flat_map}
use Rattle.flash_sim.specs.Bank.{IsLawful}
use Rattle.flash_sim.specs.Device.{Device}
use Rattle.flash_map.specs.Area.{unit_of, sector_size, sectors_of, sector_at}
use Rattle.flash_map.specs.Units.{padded}
use Rattle.fcb_ring.specs.declared.ring.Ring.{Ring}
use Rattle.fcb_ring.specs.Entries.{states}
use Rattle.fcb_ring.specs.Rings.{turned, IsRing}
use Rattle.fcb_ring.specs.Standing.{is_finished}
use Rattle.fcb_ring.proofs.AreaLemmas.{HasSize, has_size, count-sectors}
use Rattle.fcb_ring.proofs.NewestLemmas.{run-form, newest-end}
use Rattle.fcb_ring.proofs.OpenLemmas.{open-place}
use Rattle.event_ring.specs.Items.{Item, items_on, items_cost}
use Rattle.event_ring.specs.Room.{room_on, longest_on, IsFilled}
use Rattle.event_ring.specs.Standing.{IsOpen}
use Rattle.event_ring.proofs.ItemLemmas.{sector-cost}
use Rattle.event_ring.proofs.PartLemmas.{part, items-are, PartsFilled, filled-parts, parts-filled}

module _ (d : Device) (ring : Ring) (lawful : IsLawful d.banks d.bytes) (mounted : IsOpen d ring) where
  abbrev unit : ℕ
  unit = unit_of d ring.area

  abbrev sectors : List (List ℕ)
  sectors = sectors_of d ring.area

  pub has : HasSize (unit_of d ring.area) (sector_size d ring.area) (sectors_of d ring.area)
  has = has_size d ring.area lawful mounted.stands.area

  pub count : length (sectors_of d ring.area) ≡ ring.area.sectors
  count = count-sectors d ring.area

  finished : is_finished ring.stage ≡ true
  finished = ap is_finished mounted.ready

  pub form : IsRing (states (unit_of d ring.area) (sectors_of d ring.area)) ring.oldest ring.used
  form = run-form unit (sector_size d ring.area) sectors has ring mounted.stands.sectors finished

  pub within : (ring.oldest < length (sectors_of d ring.area)) × (ring.used < length (sectors_of d ring.area))
  within = open-place unit (sector_size d ring.area) sectors has ring mounted.stands.sectors mounted.ready

  abbrev pub part_on : ℕ → List Item
  part_on k = part (unit_of d ring.area) (sectors_of d ring.area) ring.oldest k

  -- all used sectors count
  pub all-count : min ring.used (length (sectors_of d ring.area) - 1) ≡ ring.used
  all-count = let w = within.1 in omega arith

  pub items-ready : items_on d ring.area ≡ flat_map (part (unit_of d ring.area) (sectors_of d ring.area) ring.oldest) (range_with_len 0 ring.used)
  items-ready = items-are unit sectors ring.oldest ring.used form ∙ ap (λ (n : ℕ). flat_map (part unit sectors ring.oldest) (range_with_len 0 n)) all-count

  -- the newest takes up what its records do
  pub newest-cost : 0 < ring.used → padded (unit_of d ring.area) 8 + items_cost (unit_of d ring.area) (part (unit_of d ring.area) (sectors_of d ring.area) ring.oldest (ring.used - 1)) ≡ ring.end
  newest-cost some =
      sector-cost unit (sector_at sectors (turned (length sectors) ring.oldest (ring.used - 1))) has.is_unit
      ∙ sym (newest-end unit (sector_size d ring.area) sectors has ring mounted.stands.sectors finished some)

  pub filled-ready : IsFilled d ring.area → PartsFilled (unit_of d ring.area) (room_on d ring.area) (longest_on d ring.area) (sectors_of d ring.area) ring.oldest ring.used
  filled-ready filled =
      subst (PartsFilled unit (room_on d ring.area) (longest_on d ring.area) sectors ring.oldest) all-count
      (filled-parts unit sectors ring.oldest ring.used form (room_on d ring.area) (longest_on d ring.area) filled)

  pub ready-filled : PartsFilled (unit_of d ring.area) (room_on d ring.area) (longest_on d ring.area) (sectors_of d ring.area) ring.oldest ring.used → IsFilled d ring.area
  ready-filled parts =
      parts-filled unit sectors ring.oldest ring.used form (room_on d ring.area) (longest_on d ring.area)
      (subst (PartsFilled unit (room_on d ring.area) (longest_on d ring.area) sectors ring.oldest) (sym all-count) parts)
