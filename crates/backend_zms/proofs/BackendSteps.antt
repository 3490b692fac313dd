-- What an erased area reads as.
use Rattle.std.proofs.Common.{◌≡◌, ℕ, ◌≤◌, List, None, sym, ap, subst, ◌∙◌, inl, replicate, arith}
use Rattle.std.specs.Prelude.{map}
use Rattle.std.specs.FinMap.{empty, get, get-empty}
use Rattle.std.specs.Ordering.{nat_cmp}
use Rattle.flash_sim.specs.Bank.{IsLawful}
use Rattle.flash_sim.specs.Device.{Device}
use Rattle.flash_map.specs.declared.area.Area.{Area}
use Rattle.flash_map.specs.Area.{geometry_of, sector_size, sectors_of}
use Rattle.flash_map.specs.Lawful.{IsLawfulFor}
use Rattle.flash_map.specs.On.{on, HoldsOn}
use Rattle.flash_map.specs.Sectors.{blanked}
use Rattle.item_laws.specs.Items.{Items}
use Rattle.named_items.specs.Blank.{zms-undamaged, zms-empty, zms-next_open}
use Rattle.named_items.specs.ZmsStore.{zms_damage, zms_items, zms_rests}
use Rattle.named_items.proofs.EmptySteps.{no-settings}
use Rattle.named_items.proofs.FormatSteps.{blanked-on}
use Rattle.backend_zms.specs.IdLayout.{numbering_of}
use Rattle.backend_zms.specs.Standing.{Rests, settings_of}

module _ (d e : Device) (area : Area) (banks : IsLawful d.banks d.bytes) (lawful : IsLawfulFor d.banks area) (is : sectors_of e area ≡ map blanked (sectors_of d area)) where
  pub erased : sectors_of e area ≡ replicate area.sectors (replicate (sector_size d area) 255)
  erased = blanked-on d e area banks lawful is

  several : 2 ≤ area.sectors
  several = lawful.several

  long : 16 ≤ sector_size d area
  long = let least : 512 ≤ sector_size d area = lawful.at_least in omega arith

  pub erased-undamaged : on zms_damage e area ≡ None
  erased-undamaged = ap (zms_damage area (geometry_of e area)) erased ∙ zms-undamaged area.sectors (sector_size d area) several (geometry_of e area).kind

  pub erased-empty : on settings_of e area ≡ empty
  erased-empty = no-settings (numbering_of area) (on zms_items e area) (ap (zms_items area (geometry_of e area)) erased ∙ zms-empty area.sectors (sector_size d area) several (geometry_of e area).kind)

  pub erased-rests : HoldsOn Rests e area
  erased-rests = record {
    store = subst (λ (s : List (List ℕ)). zms_rests area (geometry_of e area) s) (sym erased) (zms-next_open area.sectors (sector_size d area) several (geometry_of e area).kind);
    clean = λ id. inl (ap (λ (m : Items). get m id) (ap (λ (s : List (List ℕ)). zms_items area (geometry_of e area) s) erased ∙ zms-empty area.sectors (sector_size d area) several (geometry_of e area).kind) ∙ get-empty nat_cmp id);
  }
