-- Images on a bench, and how the active area of an image reads.
use Rattle.std.specs.Prelude.{◌≡◌, ℕ, true, List, Option, None, map}
use Rattle.flash_sim.specs.Device.{Device, Unknown, loaded}
use Rattle.flash_map.specs.declared.area.Area.{Area}
use Rattle.flash_map.specs.declared.faults.Damaged.{Damaged}
use Rattle.flash_map.specs.On.{on}
use Rattle.image_file.specs.Format.{Plain, plain_area, version_of}
use Rattle.backend_api.specs.Map.{Map}
use Rattle.migrator.specs.Active.{active_on}
use Rattle.session_table.specs.Bench.{area_at}
use Rattle.session_table.specs.State.{State}
use Rattle.session.specs.OnMap.{damage_in}
use Rattle.session.specs.Owing.{OwesOnMap, map_boot}
use Rattle.image_jobs.specs.Stages.{Stores}

-- the image with the bytes that a bench holds
abbrev pub left : Plain → Device → Plain
left image bench = record image { bytes = bench.bytes }

-- a bench with the image's banks and bytes, and power on
abbrev pub begun : Plain → Device → Device
begun image bench = loaded bench image.banks image.bytes

-- The areas are those of the image, whatever the unused bytes of their labels are.
pub record HasAreas (image : Plain) (areas : List Area) : Type 0 where
  pub version : version_of areas ≡ image.version
  pub are : map plain_area areas ≡ image.areas

-- ---- how an image reads

-- a flash that holds the image and nothing else
abbrev pub flash_of : Plain → Device
flash_of image =
    record {
      banks = image.banks;
      bytes = image.bytes;
      is_on = true;
      losses = 0;
      spent = 0;
      loads = 0;
      last_loss = None;
      plan = Unknown;
    }

-- the place of the image's active area
abbrev pub active_of : List Area → Plain → ℕ
active_of areas image = active_on areas (flash_of image)

-- the settings in that area
abbrev pub settings_of : Stores → List Area → Plain → Map
settings_of k areas image = on k.meanings.contents (flash_of image) (area_at areas (active_of areas image))

-- the damage that a mount of the image finds first, with the place of its area
abbrev pub damage_of : Stores → List Area → Plain → Option (ℕ × Damaged)
damage_of k areas image = damage_in k.damage areas (flash_of image)

-- a mount of the image spends at most so many units and erases
abbrev pub OwesOf : Stores → List Area → Plain → ℕ → Type 0
OwesOf k areas image most = OwesOnMap k.owes areas (flash_of image) most

-- what a line that is cut on the image leaves at most to the next mount
abbrev pub boot_of : Stores → List Area → Plain → ℕ
boot_of k areas image = map_boot k.boot image.banks areas

-- the image reads as the settings of a state, in the area that is active there
pub record ReadsAs (k : Stores) (areas : List Area) (image : Plain) (state : State) : Type 0 where
  pub active : active_of areas image ≡ state.active
  pub settings : settings_of k areas image ≡ state.settings
