-- What steps in sectors of NVS spend, and which of them are blank.
use Rattle.std.proofs.Common.{◌≡◌, ℕ, ◌/◌, ◌≤◌, true, List, arith}
use Rattle.flash_sim.specs.Bank.{IsLawful}
use Rattle.flash_sim.specs.Device.{Device}
use Rattle.flash_map.specs.declared.area.Area.{Area}
use Rattle.flash_map.specs.declared.area.Geometry.{Geometry}
use Rattle.flash_map.specs.Area.{geometry_of, sector_size, unit_of}
use Rattle.flash_map.specs.Lawful.{IsLawfulFor}
use Rattle.flash_map.specs.Units.{IsUnit, is_erased}
use Rattle.flash_map.proofs.Rounding.{padding, padded_bounds}
use Rattle.nvs_store.specs.Geometry.{cost}
use Rattle.nvs_store.proofs.SlotReads.{slot_size_bounds}
use Rattle.nvs_store.proofs.Views.{unit_is}
use Rattle.nvs_format.specs.Formats.{format_of}
use Rattle.nvs_format.proofs.FormatLemmas.{nvs_is_format}
use Rattle.item_store.specs.SectorFormat.{IsSectorFormat}
use Rattle.named_items.specs.RingStore.{IsFrugal}
use Rattle.named_items.proofs.MostUnits.{units-within}

module _ (d : Device) (area : Area) (lawful : IsLawful d.banks d.bytes) (own : IsLawfulFor d.banks area) where
  abbrev unit : ℕ
  unit = unit_of d area

  is-unit : IsUnit (unit_of d area)
  is-unit = unit_is d area lawful own.in_bank

  pub nvs-law : IsSectorFormat (format_of (geometry_of d area))
  nvs-law = nvs_is_format (unit_of d area) is-unit

  pub nvs-frugal : IsFrugal (format_of (geometry_of d area)) (sector_size d area) (sector_size d area / unit_of d area)
  nvs-frugal = record {
    round = omega arith;
    entry = λ len short.
        let entry : cost unit len / unit ≤ sector_size d area / unit = units-within (cost unit len) (sector_size d area) unit (padding unit is-unit).positive (omega arith) in
        omega arith;
    mount = omega arith;
    delete =
        let size = slot_size_bounds (unit_of d area) is-unit in
        let least = own.at_least in
        let padded = padded_bounds (unit_of d area) 0 is-unit in
        omega arith;
  }

-- a blank sector is all FF
pub nvs-erased : (geometry : Geometry) (b : List ℕ) → is_erased b ≡ true → (format_of geometry).reading.is_blank b ≡ true
nvs-erased geometry b erased = erased
