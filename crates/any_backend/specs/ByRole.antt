-- The members of `Backend` for an area, by its role, which says which store it is for. A selector's
-- area has no store.
use Rattle.std.specs.Prelude.{◌≡◌, ⊤, ℕ, Bool, false, List, Option, None}
use Rattle.std.specs.FinMap.{empty}
use Rattle.flash_sim.specs.declared.flash.Loss.{Loss}
use Rattle.flash_map.specs.Area.{value_limit}
use Rattle.flash_map.specs.declared.area.Area.{Area}
use Rattle.flash_map.specs.declared.area.Geometry.{Geometry}
use Rattle.flash_map.specs.declared.area.Role.{Role}
use Rattle.flash_map.specs.declared.area.Role.TheVariants.{Nvs, Zms, Fcb, Sel}
use Rattle.flash_map.specs.declared.faults.Damaged.{Damaged}
use Rattle.fcb_ring.specs.Chance.{chance}
use Rattle.fcb_ring.specs.Entries.{states}
use Rattle.fcb_ring.specs.Standing.{erases_due}
use Rattle.backend_api.specs.Commands.{Command}
use Rattle.backend_api.specs.Map.{Map}
use Rattle.backend_api.specs.Room.{Room}
use Rattle.record_settings.specs.Room.{room}
use Rattle.named_items.specs.NvsStore.{nvs_damage, nvs_items, nvs_price, nvs_cap}
use Rattle.named_items.specs.ZmsStore.{zms_damage, zms_price, zms_cap}
use Rattle.backend_nvs.specs.IdLayout.{settings_of as nvs_settings, nvs_room}
use Rattle.backend_nvs.specs.Standing.{Rests as NvsRests, Owes as NvsOwes, boot_units as nvs_boot}
use Rattle.backend_zms.specs.IdLayout.{zms_room}
use Rattle.backend_zms.specs.Standing.{settings_of as zms_settings, Rests as ZmsRests, Owes as ZmsOwes, boot_units as zms_boot}
use Rattle.backend_fcb.specs.Members.{OwesBy as FcbOwes, boot_by as fcb_boot}
use Rattle.backend_fcb.specs.Reading.{damage_of, settings_in}
use Rattle.backend_fcb.specs.Tearing.{body_for, Tears}

-- Each role but that of a selector has a store. It works on all banks on which areas of the
-- role may stand.
abbrev pub serves_as : Role → Type 0
serves_as Nvs = ⊤
serves_as Zms = ⊤
serves_as Fcb = ⊤
serves_as Sel = ⊥

abbrev pub damage_as : Role → Area → Geometry → List (List ℕ) → Option Damaged
damage_as Nvs area geometry sectors = nvs_damage area geometry sectors
damage_as Zms area geometry sectors = zms_damage area geometry sectors
damage_as Fcb area geometry sectors = damage_of (value_limit area) geometry.unit sectors
damage_as Sel area geometry sectors = None

abbrev pub contents_as : Role → Area → Geometry → List (List ℕ) → Map
contents_as Nvs area geometry sectors = nvs_settings area (nvs_items area geometry sectors)
contents_as Zms area geometry sectors = zms_settings area geometry sectors
contents_as Fcb area geometry sectors = settings_in (value_limit area) geometry.unit sectors
contents_as Sel area geometry sectors = empty

-- nothing is stored, so nothing costs anything
abbrev pub no_room : Room
no_room = record {
  cap = 0;
  cost = λ settings. 0;
  need = λ settings name value. 0;
  largest = λ settings name value. 0;
  too_many = λ settings name. false;
}

abbrev pub room_as : Role → Geometry → Room
room_as Nvs geometry = nvs_room nvs_price nvs_cap geometry
room_as Zms geometry = zms_room zms_price zms_cap geometry
room_as Fcb geometry = room geometry.unit geometry.sector
room_as Sel geometry = no_room

abbrev pub rests_as : Role → Area → Geometry → List (List ℕ) → Type 0
rests_as Nvs area geometry sectors = NvsRests area geometry sectors
rests_as Zms area geometry sectors = ZmsRests area geometry sectors
rests_as Fcb area geometry sectors = erases_due (states geometry.unit sectors) ≡ 0
rests_as Sel area geometry sectors = ⊥

abbrev pub owes_as : Role → Area → Geometry → List (List ℕ) → ℕ → Type 0
owes_as Nvs area geometry sectors most = NvsOwes area geometry sectors most
owes_as Zms area geometry sectors most = ZmsOwes area geometry sectors most
owes_as Fcb area geometry sectors most = FcbOwes area geometry sectors most
owes_as Sel area geometry sectors most = ⊥

abbrev pub boot_as : Role → Area → Geometry → ℕ
boot_as Nvs area geometry = nvs_boot area geometry
boot_as Zms area geometry = zms_boot area geometry
boot_as Fcb area geometry = fcb_boot area geometry
boot_as Sel area geometry = 0

abbrev pub chance_as : Role → Area → Geometry → List (List ℕ) → Loss → Bool
chance_as Nvs area geometry sectors loss = false
chance_as Zms area geometry sectors loss = false
chance_as Fcb area geometry sectors loss = chance area geometry sectors loss
chance_as Sel area geometry sectors loss = false

abbrev pub tears_as : Role → Area → Geometry → Command → ℕ → Map → Map → Type 0
tears_as Nvs area geometry command done before after = ⊥
tears_as Zms area geometry command done before after = ⊥
tears_as Fcb area geometry command done before after =
    Tears (value_limit area) geometry.unit (body_for command) done before after
tears_as Sel area geometry command done before after = ⊥

-- ---- by the role of the area

-- there is a store for the area's role
abbrev pub any_serves : Area → Geometry → Type 0
any_serves area geometry = serves_as area.role

-- the damage that the sectors show
abbrev pub any_damage : Area → Geometry → List (List ℕ) → Option Damaged
any_damage area geometry sectors = damage_as area.role area geometry sectors

-- the settings that they read as
abbrev pub any_contents : Area → Geometry → List (List ℕ) → Map
any_contents area geometry sectors = contents_as area.role area geometry sectors

abbrev pub any_room : Area → Geometry → Room
any_room area geometry = room_as area.role geometry

-- a mount would have nothing to do
abbrev pub any_rests : Area → Geometry → List (List ℕ) → Type 0
any_rests area geometry sectors = rests_as area.role area geometry sectors

-- a mount spends at most so many units and erases
abbrev pub any_owes : Area → Geometry → List (List ℕ) → ℕ → Type 0
any_owes area geometry sectors most = owes_as area.role area geometry sectors most

-- the most that a command that was cut leaves to a mount
abbrev pub any_boot : Area → Geometry → ℕ
any_boot area geometry = boot_as area.role area geometry

-- whether the units before a loss spell another record
abbrev pub any_chance : Area → Geometry → List (List ℕ) → Loss → Bool
any_chance area geometry sectors loss = chance_as area.role area geometry sectors loss

-- which settings such a loss then leaves
abbrev pub any_tears : Area → Geometry → Command → ℕ → Map → Map → Type 0
any_tears area geometry command done before after = tears_as area.role area geometry command done before after
