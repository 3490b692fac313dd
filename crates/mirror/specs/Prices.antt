-- What settings cost in an area, by its role. Areas of the other roles cannot be mirrored.
use Rattle.flash_map.specs.declared.area.Area.{Area}
use Rattle.flash_map.specs.declared.area.Geometry.{Geometry}
use Rattle.flash_map.specs.declared.area.Role.{Role}
use Rattle.flash_map.specs.declared.area.Role.TheVariants.{Nvs, Zms, Fcb, Sel}
use Rattle.named_items.specs.NvsStore.{nvs_price, nvs_cap}
use Rattle.named_items.specs.ZmsStore.{zms_price, zms_cap}
use Rattle.backend_nvs.specs.IdLayout.{nvs_counted}
use Rattle.backend_zms.specs.Hash.{group_of}
use Rattle.mirror.specs.Room.{Prices}

-- NVS: all names have one class, so `most` bounds the names of an area
abbrev pub of_nvs : Geometry → Prices
of_nvs geometry = record {
  price = nvs_price geometry;
  counted = nvs_counted (nvs_price geometry);
  cap = nvs_cap geometry;
  class = λ name. 0;
  most = 511;
}

-- ZMS: the class of a name is the group of its hash, and there is no count
abbrev pub of_zms : Geometry → Prices
of_zms geometry = record {
  price = zms_price geometry;
  counted = 0;
  cap = zms_cap geometry;
  class = group_of;
  most = 16;
}

abbrev pub none : Prices
none = record { price = λ length. 0; counted = 0; cap = 0; class = λ name. 0; most = 0 }

abbrev pub prices_as : Role → Geometry → Prices
prices_as Nvs geometry = of_nvs geometry
prices_as Zms geometry = of_zms geometry
prices_as Fcb geometry = none
prices_as Sel geometry = none

abbrev pub mirror_prices : Area → Geometry → Prices
mirror_prices area geometry = prices_as area.role geometry
